-- What parameters are as locals of the body's block.
use Rattle.std.proofs.Common.{◌≡◌, ℕ, zero, suc, ◌+◌, ◌<◌, ◌≤◌, Bool, true, false, Option, Some, None}
use Rattle.std.proofs.Common.{List, [], ◌∷◌, refl, sym, ◌∙◌, ap, subst, take, get_or, length, arith}
use Rattle.std.specs.Prelude.{if◌then◌else◌}
use Rattle.std.proofs.lemmas.List.{take_all}
use Rattle.cyc_types.specs.Regions.{region_of}
use Rattle.cyc_types.specs.Types.{static_type}
use Rattle.cyc_types.specs.declared.ctype.CType.{CType}
use Rattle.cyc_types.specs.declared.region.RegionId.{RegionId}
use Rattle.source_typing.specs.Functions.{what_of_known, with_parameters}
use Rattle.source_typing.specs.Scope.{Env, is_second, with_local}
use Rattle.source_typing.specs.Tables.{What}
use Rattle.source_typing.specs.Types.{StaticType}
use Rattle.source_typing.specs.Written.{RegionNamed}
use Rattle.check_scopes.proofs.Keeping.{block_goes_on, declared_known, not_declared, second_known}
use Rattle.check_scopes.specs.Changes.{IsBlock, with_known}
use Rattle.check_scopes.specs.Means.{WhatIs}
use Rattle.check_scopes.specs.Means as means
use Rattle.check_scopes.specs.declared.locals.What as local
use Rattle.check_scopes.specs.declared.locals.What.TheVariants as variant
use Rattle.check_scopes.specs.declared.scope.Scope.{Scope}
use Rattle.check_declarations.specs.Contexts.{StandsIn, Suits}
use Rattle.check_declarations.specs.declared.context.Context.{Context}
use Rattle.check_heads.specs.Bodies.{code_names, names_of, types_of}
use Rattle.check_heads.specs.Heads.{known_static}
use Rattle.check_heads.specs.declared.head.Parameter.{Parameter}
use Rattle.cyc_tree.specs.Tree as tree

-- ---- what a local is

module _ (frame : RegionId) (k : Option StaticType) where
  pub known_is : (t : CType) → Some (static_type t) ≡ k → WhatIs (what_of_known (region_of frame) k) (variant.Variable t frame)
  known_is t e = subst (λ (o : Option StaticType). WhatIs (what_of_known (region_of frame) o) (variant.Variable t frame)) e (means.WhatIs.Variable t frame)

  pub unknown_is : None ≡ k → WhatIs (what_of_known (region_of frame) k) variant.Untyped
  unknown_is e = subst (λ (o : Option StaticType). WhatIs (what_of_known (region_of frame) o) variant.Untyped) e means.WhatIs.Untyped

-- ---- one parameter is declared

module _ (c : Context) (ns : List RegionNamed) (s : Scope) (g : Env) (h : StandsIn c ns 0 s g) (x : tree.Name) (w : What) where
  still_suits : Suits c ns (with_local x w g)
  still_suits = by (is_second g.locals g.block x.text)
    where
      by : (b : Bool) → Suits c ns (if b then g else record g { locals = record { name = x.text; what = w; block = g.block } ∷ g.locals })
      by true = h.suits
      by false = record {
        names = h.suits.names;
        below = h.suits.below;
        result = h.suits.result;
        frame = h.suits.frame;
        item = h.suits.item;
        in_loop = h.suits.in_loop;
        in_switch = h.suits.in_switch;
      }

  pub stays_first : is_second g.locals g.block x.text ≡ true → StandsIn c ns 0 s (with_local x w g)
  stays_first e = record {
    known = second_known s g h.known x w e;
    suits = still_suits;
    block = subst (IsBlock 0 s) (sym (not_declared x w g e)) h.block;
  }

  pub is_added : (v : local.What) → WhatIs w v → is_second g.locals g.block x.text ≡ false → StandsIn c ns 0 (with_known x.text v s) (with_local x w g)
  is_added v is e = record {
    known = declared_known s g h.known x w v is e;
    suits = still_suits;
    block = block_goes_on 0 s g x w v h.block e;
  }

-- ---- one after another

-- after the first i, the next one, up to j, is a parameter of this name
abbrev Next : ℕ → List Parameter → List tree.Member → Env → Parameter → ℕ → Type 0
Next i ps ms g p j = (m : tree.Member) × (m.name.text ≡ p.name.now)
    × (with_parameters (take j ms) (types_of (take j ps)) g
    ≡ with_local m.name (what_of_known (with_parameters (take i ms) (types_of (take i ps)) g).frame (known_static p.of))
    (with_parameters (take i ms) (types_of (take i ps)) g))

next_at : (i : ℕ) (ps : List Parameter) (ms : List tree.Member) (g : Env) (d : Parameter) → i < length ps → code_names ps ≡ names_of ms
    → Next i ps ms g (get_or ps i d) (suc i)
next_at i [] ms g d h e = absurd (omega (arith, h))
next_at i (p ∷ ps) [] g d h e = absurd cc
next_at zero (p ∷ ps) (m ∷ ms) g d h e = let q : m.name.text ≡ p.name.now = cc in (m, q, refl)
next_at (suc i) (p ∷ ps) (m ∷ ms) g d h e =
    let q : code_names ps ≡ names_of ms = cc in
    next_at i ps ms (with_local m.name (what_of_known g.frame (known_static p.of)) g) d (omega (arith, h)) q

pub next_parameter : (i : ℕ) (ps : List Parameter) (ms : List tree.Member) (g : Env) (p : Parameter) → i < length ps → p ≡ get_or ps i p
    → code_names ps ≡ names_of ms → Next i ps ms g p (i + 1)
next_parameter i ps ms g p h is e =
    let q : suc i ≡ i + 1 = omega arith in
    subst (Next i ps ms g p) q (subst (λ (d : Parameter). Next i ps ms g d (suc i)) (sym is) (next_at i ps ms g p h e))

-- as many as are named
as_many : (ps : List Parameter) (ms : List tree.Member) → code_names ps ≡ names_of ms → length ps ≡ length ms
as_many [] [] e = refl
as_many [] (m ∷ ms) e = absurd cc
as_many (p ∷ ps) [] e = absurd cc
as_many (p ∷ ps) (m ∷ ms) e = let q : code_names ps ≡ names_of ms = cc in ap suc (as_many ps ms q)

pub all_parameters : (i : ℕ) (ps : List Parameter) (ms : List tree.Member) (g : Env) → length ps ≤ i → code_names ps ≡ names_of ms
    → with_parameters (take i ms) (types_of (take i ps)) g ≡ with_parameters ms (types_of ps) g
all_parameters i ps ms g h e =
    let k = as_many ps ms e in
    ap (λ l. with_parameters l (types_of (take i ps)) g) (take_all i ms (omega (arith, h, k)))
    ∙ ap (λ l. with_parameters ms (types_of l) g) (take_all i ps h)
