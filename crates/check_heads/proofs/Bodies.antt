-- What is in scope where a body begins.
use Rattle.std.proofs.Common.{◌≡◌, ℕ, Bool, List, [], refl, sym, ◌∙◌, ap, subst}
use Rattle.std.specs.Prelude.{map}
use Rattle.cyc_types.specs.Regions.{regions_of}
use Rattle.cyc_types.specs.Sameness.{HasTags}
use Rattle.source_typing.specs.Functions.{function_scope}
use Rattle.source_typing.specs.Functions as rules
use Rattle.source_typing.specs.Regions.{Region, entry_regions, with_scope}
use Rattle.source_typing.specs.Tables.{Tables, find}
use Rattle.check_scopes.specs.Globals.{global_meaning}
use Rattle.check_scopes.specs.Knows.{Knows, local_or}
use Rattle.check_scopes.specs.Locals.{find_what}
use Rattle.check_scopes.specs.Means.{Means}
use Rattle.check_scopes.specs.declared.scope.Scope.{Scope}
use Rattle.check_regions.specs.Fields.{pair_of}
use Rattle.check_regions.specs.Scopes.{AreThose, Scoped}
use Rattle.source_typing.specs.Named.{AllBelow, BoundsBelow}
use Rattle.check_heads.specs.Bodies.{KnowsGlobals}
use Rattle.check_heads.specs.Heads.{IsHead}
use Rattle.check_heads.specs.declared.head.Head as code
use Rattle.cyc_tree.specs.Tree as tree

module _ (c : code.Head) (f : tree.Function) (h : rules.Head) (is : IsHead c f h) where
  -- what the regions are where it begins, by those in code
  module _ (n : ℕ) (rs : List Region) (bs : List (Region × Region)) (s : Scoped) (count : n ≡ c.variables.count) (effect : rs ≡ regions_of c.effect.items)
      (bounds : bs ≡ map pair_of c.bounds.items) where
    pub same_regions : (AllBelow n rs → BoundsBelow n bs → AreThose s (entry_regions n rs bs))
        → AreThose s (entry_regions h.signature.regions h.signature.effect h.signature.bounds)
    same_regions enters =
        let a : n ≡ h.signature.regions = count ∙ is.count in
        let e : rs ≡ h.signature.effect = effect ∙ is.effect in
        let b : bs ≡ h.signature.bounds = bounds ∙ is.bounds in
        let same : entry_regions n rs bs ≡ entry_regions h.signature.regions h.signature.effect h.signature.bounds =
        ap (λ k. entry_regions k rs bs) a ∙ ap (λ qs. entry_regions h.signature.regions qs bs) e
        ∙ ap (λ qs. entry_regions h.signature.regions h.signature.effect qs) b in
        subst (AreThose s) same
        (enters (subst (λ k. AllBelow k rs) (sym a) (subst (AllBelow h.signature.regions) (sym e) is.effect_below))
        (subst (λ k. BoundsBelow k bs) (sym a) (subst (BoundsBelow h.signature.regions) (sym b) is.bounds_below)))

  module _ (lenient : Bool) (g : Tables) (i : ℕ) (s : Scope) (alone : s.locals ≡ []) where
    pub begins : KnowsGlobals s.globals.now g → HasTags s.tables.now g → s.lenient ≡ lenient
        → AreThose s.regions (with_scope (entry_regions h.signature.regions h.signature.effect h.signature.bounds))
        → Knows s (function_scope lenient g i h)
    begins globals tags same regions = record {
      names = λ x. subst (λ m. Means (find g x) (local_or m (global_meaning s.globals.now x)))
          (sym (ap (λ ls. find_what ls x) alone)) (globals x);
      tags = tags;
      regions = regions;
      lenient = same;
      enclosing = refl;
    }
