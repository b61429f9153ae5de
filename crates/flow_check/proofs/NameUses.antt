-- What a name does, by what is known of it in code.
use Rattle.std.proofs.Common.{Bool, List, None, Option, Some, [], ap, false, not, refl, subst, sym, true, ℕ, ◌∙◌, ◌∷◌, ◌≡◌, if◌then◌else◌}
use Rattle.std.specs.Prelude.{bytes_eq}
use Rattle.cyc_tree.specs.Tree as tree
use Rattle.cyc_tree.specs.Tree.{Variable}
use Rattle.cyc_types.specs.Regions.{region_of}
use Rattle.cyc_types.specs.Types.{static_type}
use Rattle.cyc_types.specs.declared.ctype.CType.{CType}
use Rattle.cyc_types.specs.declared.region.RegionId.{RegionId}
use Rattle.source_typing.specs.Moves.{is_moved}
use Rattle.source_typing.specs.Places.{variable}
use Rattle.source_typing.specs.Scope.{Env, Local, find_local, meant, with_locals}
use Rattle.source_typing.specs.Tables.{Arrayed, Counter, OfValue, Stored, Tables, Unknown, What, find, is_copyable}
use Rattle.flow_summaries.specs.Expressions.{uses_of}
use Rattle.flow_summaries.specs.Passages.{unchanged}
use Rattle.flow_summaries.specs.Uses.{number_of, uses_as_place, uses_as_value, uses_if, uses_of_array, uses_of_local, uses_of_name, uses_of_own}
use Rattle.check_scopes.specs.Knows.{means_in}
use Rattle.check_scopes.specs.Linked.{position_of}
use Rattle.check_scopes.specs.Locals.{find_what}
use Rattle.check_scopes.specs.Means.{Means, WhatIs}
use Rattle.check_scopes.specs.declared.locals.What.TheVariants as local
use Rattle.check_scopes.specs.declared.locals.What as code
use Rattle.check_scopes.specs.declared.meaning.Meaning.TheVariants as code_meaning
use Rattle.check_scopes.specs.declared.scope.Scope.{Scope}
use Rattle.check_expressions.specs.Within.{is_counter}
use Rattle.check_expressions.specs.declared.around.Around.{Around}
use Rattle.flow_check.specs.Within.{IsWithin, SameLocal}

-- ---- what a local is by the rules

abbrev pub rule_of : code.What → What
rule_of (local.Variable t r) = Stored (static_type t) (region_of r)
rule_of (local.Array t r) = Arrayed (static_type t) (region_of r)
rule_of local.Counter = Counter
rule_of local.Untyped = Unknown true
rule_of local.NotKnown = Unknown false

is_rule : (w : What) (v : code.What) → WhatIs w v → w ≡ rule_of v
is_rule w v (WhatIs.Variable t r) = refl
is_rule w v (WhatIs.Array t r) = refl
is_rule w v WhatIs.Counted = refl
is_rule w v WhatIs.Untyped = refl
is_rule w v WhatIs.NotKnown = refl

-- ---- what a name does

-- a name that no local hides
pub not_hidden : (ls : List Local) (g : Tables) (x : List ℕ) → find_local ls x ≡ None → find (with_locals ls g) x ≡ find g x
not_hidden [] g x h = refl
not_hidden (l ∷ ls) g x h = by (bytes_eq l.name x) h (not_hidden ls g x)
  where
    by : (b : Bool) → (if b then Some l else find_local ls x) ≡ None → (find_local ls x ≡ None → find (with_locals ls g) x ≡ find g x)
        → (if b then Some (OfValue l.what) else find (with_locals ls g) x) ≡ find g x
    by true h n = absurd cc
    by false h n = n h

module _ (g : Env) (x : tree.Name) (p : Option ℕ) where
  pub no_local : (o : Option Local) (n : Option ℕ) → SameLocal false None p o n → o ≡ None
  no_local None n h = refl
  no_local (Some l) n h = absurd h

  pub same_number : (w : code.What) (o : Option Local) (n : Option ℕ) → SameLocal false (Some w) p o n → n ≡ p
  same_number w None n h = absurd h
  same_number w (Some l) n h = h.1

  -- the index of an array that is made around
  pub index_uses : (w : Option code.What) (o : Option Local) (n : Option ℕ) → SameLocal true w p o n → uses_of_name g x o ≡ uses_as_value unchanged
  index_uses w None n h = absurd h
  index_uses w (Some l) n h = ap (uses_of_local g x) h

  -- a local
  pub variable_uses : (t : CType) (r : RegionId) (o : Option Local) (n : Option ℕ) → SameLocal false (Some (local.Variable t r)) p o n
      → uses_of_name g x o ≡ uses_if (not (is_copyable g.tables (static_type t))) (uses_of_own g.locals x)
  variable_uses t r None n h = absurd h
  variable_uses t r (Some l) n h = ap (uses_of_local g x) (is_rule l.what (local.Variable t r) h.0)

  pub array_uses : (t : CType) (r : RegionId) (o : Option Local) (n : Option ℕ) → SameLocal false (Some (local.Array t r)) p o n
      → uses_of_name g x o ≡ uses_if (not (is_copyable g.tables (static_type t))) (uses_of_array x.at)
  array_uses t r None n h = absurd h
  array_uses t r (Some l) n h = ap (uses_of_local g x) (is_rule l.what (local.Array t r) h.0)

  -- by its form, and by whether it is copied
  pub variable_copied : (w : code.What) (t : CType) (r : RegionId) (o : Option Local) (n : Option ℕ) → w ≡ local.Variable t r
      → is_copyable g.tables (static_type t) ≡ true → SameLocal false (Some w) p o n → uses_as_value unchanged ≡ uses_of_name g x o
  variable_copied w t r o n is copies h =
      sym (variable_uses t r o n (subst (λ v. SameLocal false (Some v) p o n) is h) ∙ ap (λ b. uses_if (not b) (uses_of_own g.locals x)) copies)

  pub variable_owned : (w : code.What) (t : CType) (r : RegionId) (o : Option Local) (n : Option ℕ) → w ≡ local.Variable t r
      → is_copyable g.tables (static_type t) ≡ false → SameLocal false (Some w) p o n → uses_of_own g.locals x ≡ uses_of_name g x o
  variable_owned w t r o n is copies h =
      sym (variable_uses t r o n (subst (λ v. SameLocal false (Some v) p o n) is h) ∙ ap (λ b. uses_if (not b) (uses_of_own g.locals x)) copies)

  pub array_copied : (w : code.What) (t : CType) (r : RegionId) (o : Option Local) (n : Option ℕ) → w ≡ local.Array t r
      → is_copyable g.tables (static_type t) ≡ true → SameLocal false (Some w) p o n → uses_as_value unchanged ≡ uses_of_name g x o
  array_copied w t r o n is copies h =
      sym (array_uses t r o n (subst (λ v. SameLocal false (Some v) p o n) is h) ∙ ap (λ b. uses_if (not b) (uses_of_array x.at)) copies)

  pub array_owned : (w : code.What) (t : CType) (r : RegionId) (o : Option Local) (n : Option ℕ) → w ≡ local.Array t r
      → is_copyable g.tables (static_type t) ≡ false → SameLocal false (Some w) p o n → uses_of_array x.at ≡ uses_of_name g x o
  array_owned w t r o n is copies h =
      sym (array_uses t r o n (subst (λ v. SameLocal false (Some v) p o n) is h) ∙ ap (λ b. uses_if (not b) (uses_of_array x.at)) copies)

  -- what is neither a variable nor an array of a known type
  pub idle_found : (w : code.What) (o : Option Local) (n : Option ℕ) → uses_of_local g x (rule_of w) ≡ uses_as_value unchanged
      → SameLocal false (Some w) p o n → uses_as_value unchanged ≡ uses_of_name g x o
  idle_found w None n idle h = absurd h
  idle_found w (Some l) n idle h = sym (ap (uses_of_local g x) (is_rule l.what w h.0) ∙ idle)

-- a name that is no local
pub global_uses : (g : Env) (x : tree.Name) (moves : Bool) → find_local g.locals x.text ≡ None → moves ≡ is_moved g (variable x.at (meant g x.text))
    → uses_as_place x.at moves false unchanged ≡ uses_of g (Variable x)
global_uses g x moves none m =
    ap (λ b. uses_as_place x.at b false unchanged) (m ∙ ap (λ e. is_moved g (variable x.at e)) (not_hidden g.locals g.tables x.text none))
    ∙ ap (uses_of_name g x) (sym none)

-- ---- what is known of a name

module _ (s : Scope) (a : Around) (g : Env) (x : List ℕ) (h : IsWithin s a g) where
  pub local_known : (b : Bool) (w : Option code.What) → is_counter a.counters.now x ≡ b → find_what s.locals x ≡ w
      → SameLocal b w (position_of s.locals x) (find_local g.locals x) (number_of g.locals x)
  local_known b w counted found =
      subst (λ c. SameLocal c w (position_of s.locals x) (find_local g.locals x) (number_of g.locals x)) counted
      (subst (λ v. SameLocal (is_counter a.counters.now x) v (position_of s.locals x) (find_local g.locals x) (number_of g.locals x)) found (h.locals x))

  pub means_known : is_counter a.counters.now x ≡ false → Means (meant g x) (means_in s x)
  means_known counted = subst (λ c. Means (meant g x) (if c then Some code_meaning.Counter else means_in s x)) counted (h.scope.names x)
