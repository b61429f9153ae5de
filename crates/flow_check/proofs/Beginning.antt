-- How a declaration begins: its local.
use Rattle.std.proofs.Common.{None, Option, Some, [], ap, refl, subst, ℕ, ◌∙◌, ◌∷◌, ◌≡◌}
use Rattle.std.specs.Prelude.{if◌then◌else◌}
use Rattle.cyc_tree.specs.Tree as tree
use Rattle.cyc_tree.specs.View.{name_tree}
use Rattle.cyc_tree.specs.declared.name.Name as code_name
use Rattle.cyc_types.specs.Types.{static_type}
use Rattle.cyc_types.specs.declared.ctype.CType.{CType}
use Rattle.cyc_types.specs.declared.region.RegionId.{RegionId}
use Rattle.flow_summaries.specs.Exits.{Exits, lent_in}
use Rattle.source_typing.specs.Left.{begins_as}
use Rattle.source_typing.specs.Scope.{Env}
use Rattle.source_typing.specs.States.{Held, Plain, State, States}
use Rattle.source_typing.specs.Tables.{What, is_copyable}
use Rattle.check_scopes.specs.Means.{WhatIs}
use Rattle.check_scopes.specs.Means as means
use Rattle.check_scopes.specs.declared.locals.What as code
use Rattle.check_scopes.specs.declared.locals.What.TheVariants as local
use Rattle.flow_effects.specs.Passed.{state_of}
use Rattle.flow_effects.specs.Steps.{name_at}
use Rattle.flow_effects.specs.declared.passed.Begun.{Begun}
use Rattle.flow_check.proofs.Adding.{Begins}

-- ---- the state in which a local begins

module _ (g : Env) where
  -- a variable, by whether it is copyable
  pub variable_begins : (w : What) (v : code.What) (t : CType) (r : RegionId) → WhatIs w v → v ≡ local.Variable t r
      → (if is_copyable g.tables (static_type t) then Plain else Held) ≡ begins_as g w
  variable_begins w v t r (means.WhatIs.Variable u s) e =
      let same : t ≡ u = cc in
      ap (λ (x : CType). if is_copyable g.tables (static_type x) then Plain else Held) same
  variable_begins w v t r (means.WhatIs.Array u s) e = absurd cc
  variable_begins w v t r means.WhatIs.Counted e = absurd cc
  variable_begins w v t r means.WhatIs.Untyped e = absurd cc
  variable_begins w v t r means.WhatIs.NotKnown e = absurd cc

  pub array_begins : (w : What) (v : code.What) (t : CType) (r : RegionId) → WhatIs w v → v ≡ local.Array t r → Plain ≡ begins_as g w
  array_begins w v t r (means.WhatIs.Variable u s) e = absurd cc
  array_begins w v t r (means.WhatIs.Array u s) e = refl
  array_begins w v t r means.WhatIs.Counted e = absurd cc
  array_begins w v t r means.WhatIs.Untyped e = absurd cc
  array_begins w v t r means.WhatIs.NotKnown e = absurd cc

  pub counter_begins : (w : What) (v : code.What) → WhatIs w v → v ≡ local.Counter → Plain ≡ begins_as g w
  counter_begins w v (means.WhatIs.Variable u s) e = absurd cc
  counter_begins w v (means.WhatIs.Array u s) e = absurd cc
  counter_begins w v means.WhatIs.Counted e = refl
  counter_begins w v means.WhatIs.Untyped e = absurd cc
  counter_begins w v means.WhatIs.NotKnown e = absurd cc

  pub unknown_begins : (w : What) (v : code.What) → WhatIs w v → v ≡ local.NotKnown → Plain ≡ begins_as g w
  unknown_begins w v (means.WhatIs.Variable u s) e = absurd cc
  unknown_begins w v (means.WhatIs.Array u s) e = absurd cc
  unknown_begins w v means.WhatIs.Counted e = absurd cc
  unknown_begins w v means.WhatIs.Untyped e = absurd cc
  unknown_begins w v means.WhatIs.NotKnown e = refl

  pub untyped_begins : (w : What) (v : code.What) → WhatIs w v → v ≡ local.Untyped → Plain ≡ begins_as g w
  untyped_begins w v (means.WhatIs.Variable u s) e = absurd cc
  untyped_begins w v (means.WhatIs.Array u s) e = absurd cc
  untyped_begins w v means.WhatIs.Counted e = absurd cc
  untyped_begins w v means.WhatIs.Untyped e = refl
  untyped_begins w v means.WhatIs.NotKnown e = absurd cc

  -- the local that is found under its name is the one that was added
  pub found_begins : (meant : Option code.What) (what : code.What) (b : Begun) (states : States) → Begins g meant states → meant ≡ Some what
      → ((w : What) → WhatIs w what → state_of b ≡ begins_as g w) → state_of b ∷ [] ≡ states
  found_begins meant what b states h e state =
      let same : h.what ≡ what = let m = h.found in cc in
      ap (λ (a : State). a ∷ []) (state h.rules (subst (WhatIs h.rules) same h.is)) ∙ h.begins

  -- there is one
  pub none_found : (meant : Option code.What) (states : States) → Begins g meant states → meant ≡ None → [] ≡ states
  none_found meant states h e = let m = h.found in absurd cc

-- ---- a loan, which asks of the name only where it stands

pub same_loan : (at : ℕ) (x : code_name.Name) (m n : Option ℕ) (rest : Exits) → m ≡ n → lent_in at (name_at x.at) m rest ≡ lent_in at (name_tree x) n rest
same_loan at x m None rest e = ap (λ o. lent_in at (name_at x.at) o rest) e
same_loan at x m (Some i) rest e = ap (λ o. lent_in at (name_at x.at) o rest) e
