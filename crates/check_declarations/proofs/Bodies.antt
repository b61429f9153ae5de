-- A body's context where it begins.
use Rattle.std.proofs.Common.{◌≡◌, ℕ, Bool, false, List, [], ◌∙◌, ap, arith}
use Rattle.std.specs.Prelude.{option_map}
use Rattle.cyc_types.specs.Regions.{region_of}
use Rattle.cyc_types.specs.Types.{static_type}
use Rattle.cyc_types.specs.declared.region.RegionId.TheVariants as code_region
use Rattle.source_typing.specs.Functions.{function_scope}
use Rattle.source_typing.specs.Functions as rules
use Rattle.source_typing.specs.Regions.{Level}
use Rattle.source_typing.specs.Tables.{Tables}
use Rattle.check_scopes.specs.Changes.{IsBlock}
use Rattle.check_scopes.specs.Knows.{Knows}
use Rattle.check_scopes.specs.Locals.{is_after}
use Rattle.check_scopes.specs.declared.scope.Scope.{Scope}
use Rattle.source_typing.proofs.NamedBelow.{names_up}
use Rattle.source_typing.specs.Written.{RegionNamed}
use Rattle.check_declarations.specs.Contexts.{StandsIn}
use Rattle.check_declarations.specs.declared.context.Context.{Context}
use Rattle.check_heads.specs.Heads.{IsHead, known_static}
use Rattle.check_heads.specs.declared.head.Head as code
use Rattle.cyc_tree.specs.Tree as tree

module _ (c : code.Head) (f : tree.Function) (h : rules.Head) (is : IsHead c f h) (lenient : Bool) (g : Tables) (i : ℕ) (s : Scope)
    (alone : s.locals ≡ []) where
  no_locals : IsBlock 0 s (function_scope lenient g i h)
  no_locals = record {
    second = λ x. ap (λ ls. is_after ls 0 x) alone;
    within = omega arith;
    around = tt;
  }

  pub stands : (d : Context) (ns : List RegionNamed) → Knows s (function_scope lenient g i h) → ns ≡ c.variables.names
      → option_map (λ t. static_type t.now) d.result ≡ known_static c.result → d.frame ≡ code_region.Level c.variables.count → d.item ≡ i → d.in_loop ≡ false
      → d.in_switch ≡ false
      → StandsIn d ns 0 s (function_scope lenient g i h)
  stands d ns known names result frame item in_loop in_switch = record {
    known = known;
    suits = record {
      names = names ∙ is.names;
      below = names_up h.signature.regions h.names is.names_below;
      result = result ∙ is.result;
      frame = ap region_of frame ∙ ap (λ n. Level n) is.count;
      item = item;
      in_loop = in_loop;
      in_switch = in_switch;
    };
    block = no_locals;
  }
