-- Whether a member is named more than once: by the members, or by the clauses that name them.
use Rattle.std.proofs.Common.{◌≡◌, ℕ, zero, suc, ◌≤◌, ◌+◌, List, [], ◌∷◌, Bool, Option, None, Some, true, false, refl, sym, ap, subst, ◌∙◌, arith, map}
use Rattle.std.specs.Prelude.{bytes_eq, if◌then◌else◌, is_none, is_some, nat_eq, nat_le, option_map, ◌&&◌, ◌||◌}
use Rattle.std.proofs.lemmas.Bool.{and_parts, or_right}
use Rattle.std.proofs.lemmas.Slice.Eq.{bytes_eq-Decides}
use Rattle.cyc_tree.specs.Tree.{Case, Clauses, Default, MoreClauses, NoClauses, Pattern}
use Rattle.cyc_tree.proofs.PartForms.{clause_parts}
use Rattle.cyc_tree.specs.View.{OneClause, clause_tree, clauses_of, pattern_tree}
use Rattle.cyc_tree.specs.declared.statement.Clause as code_clause
use Rattle.source_typing.specs.Statements.{named_times, one_if}
use Rattle.source_typing.specs.Tables.{Part, part_in}
use Rattle.check_statements.specs.Switching.{all_counted, is_once, none_repeated}

-- one clause more
pub once_more : (times : List ℕ → ℕ) (ps : List Part) (c : code_clause.Clause) (rest : List code_clause.Clause)
    → none_repeated times ps (clauses_of (map clause_tree (c ∷ rest)))
    ≡ (is_once times ps (pattern_tree c.pattern) && none_repeated times ps (clauses_of (map clause_tree rest)))
once_more times ps c rest = ap (λ (o : OneClause). none_repeated times ps (clauses_of (o ∷ map clause_tree rest))) (clause_parts c)

same_if : (a b : Bool) → (a ≡ true → b ≡ true) → (b ≡ true → a ≡ true) → a ≡ b
same_if true b there back = sym (there refl)
same_if false true there back = back refl
same_if false false there back = refl

pub one_is_few : (n : ℕ) → nat_eq n 1 ≡ (nat_le n 1 && nat_eq n 1)
one_is_few zero = refl
one_is_few (suc zero) = refl
one_is_few (suc (suc n)) =
    let few : nat_le (suc (suc n)) 1 ≡ false = grind arith in
    let one : nat_eq (suc (suc n)) 1 ≡ false = grind arith in
    one ∙ sym (ap (λ b. b && nat_eq (suc (suc n)) 1) few)

pub some_mapped : {A B : Type 0} (f : A → B) (o : Option A) → is_some o ≡ is_some (option_map f o)
some_mapped f None = refl
some_mapped f (Some a) = refl

module _ (times : List ℕ → ℕ) where
  -- each of these members was counted at most once
  abbrev Once : List Part → Type 0
  Once ps = (x : List ℕ) → is_some (part_in ps x) ≡ true → nat_le (times x) 1 ≡ true

  -- ---- by the members

  counted_once : (ps : List Part) → all_counted times ps true ≡ true → Once ps
  counted_once [] h x has = absurd cc
  counted_once (p ∷ ps) h x has =
      by (bytes_eq p.name x) (λ same. (bytes_eq-Decides p.name x).0 same) has
      (counted_once ps (and_parts (nat_le (times p.name) 1 && true) (all_counted times ps true) h).1 x)
    where
      by : (b : Bool) → (b ≡ true → p.name ≡ x) → is_some (if b then Some p else part_in ps x) ≡ true
          → (is_some (part_in ps x) ≡ true → nat_le (times x) 1 ≡ true) → nat_le (times x) 1 ≡ true
      by true is some others =
          let own = (and_parts (nat_le (times p.name) 1 && true) (all_counted times ps true) h).0 in
          subst (λ y. nat_le (times y) 1 ≡ true) (is refl) (and_parts (nat_le (times p.name) 1) true own).0
      by false is some others = others some

  behind : (b : Bool) (p : Part) (o : Option Part) → is_some o ≡ true → is_some (if b then Some p else o) ≡ true
  behind true p o h = refl
  behind false p o h = h

  once_counts : (ps : List Part) → Once ps → all_counted times ps true ≡ true
  once_counts [] once = refl
  once_counts (p ∷ ps) once =
      let here : is_some (part_in (p ∷ ps) p.name) ≡ true =
      ap (λ b. is_some (if b then Some p else part_in ps p.name)) ((bytes_eq-Decides p.name p.name).1 refl) in
      ap (λ b. (b && true) && all_counted times ps true) (once p.name here)
      ∙ once_counts ps (λ x has. once x (behind (bytes_eq p.name x) p (part_in ps x) has))

  -- ---- by the clauses

  known_once : (b : Bool) (o : Option Part) → (b || is_none o) ≡ true → is_some o ≡ true → b ≡ true
  known_once true o h has = refl
  known_once false None h has = absurd cc
  known_once false (Some p) h has = absurd cc

  named_once : (ps : List Part) (cs : Clauses) (x : List ℕ) → none_repeated times ps cs ≡ true → is_some (part_in ps x) ≡ true → 1 ≤ named_times x cs
      → nat_le (times x) 1 ≡ true
  named_once ps NoClauses x h has named = absurd (omega (arith, named))
  named_once ps (MoreClauses at (Case f y) body others) x h has named =
      by (bytes_eq f.text x) (λ same. (bytes_eq-Decides f.text x).0 same) named
      (named_once ps others x (and_parts (is_once times ps (Case f y)) (none_repeated times ps others) h).1 has)
    where
      by : (b : Bool) → (b ≡ true → f.text ≡ x) → 1 ≤ one_if b + named_times x others → (1 ≤ named_times x others → nat_le (times x) 1 ≡ true)
          → nat_le (times x) 1 ≡ true
      by true is n rest =
          let own = (and_parts (is_once times ps (Case f y)) (none_repeated times ps others) h).0 in
          known_once (nat_le (times x) 1) (part_in ps x) (subst (λ z. (nat_le (times z) 1 || is_none (part_in ps z)) ≡ true) (is refl) own) has
      by false is n rest = rest (omega (arith, n))
  named_once ps (MoreClauses at Default body others) x h has named = named_once ps others x h has named

  once_each : (ps : List Part) (cs : Clauses) → ((x : List ℕ) → times x ≡ named_times x cs) → none_repeated times ps cs ≡ true → Once ps
  once_each ps cs same h x has = by (times x) refl
    where
      by : (n : ℕ) → times x ≡ n → nat_le (times x) 1 ≡ true
      by zero is = ap (λ n. nat_le n 1) is
      by (suc n) is = let counted = same x in named_once ps cs x h has (omega (arith, is, counted))

  once_named : (ps : List Part) → Once ps → (p : Pattern) → is_once times ps p ≡ true
  once_named ps once (Case f y) = by (part_in ps f.text) refl
    where
      by : (o : Option Part) → part_in ps f.text ≡ o → (nat_le (times f.text) 1 || is_none (part_in ps f.text)) ≡ true
      by None is = ap (λ o. nat_le (times f.text) 1 || is_none o) is ∙ or_right (nat_le (times f.text) 1) true refl
      by (Some p) is = ap (λ b. b || is_none (part_in ps f.text)) (once f.text (ap is_some is))
  once_named ps once Default = refl

  each_once : (ps : List Part) (cs : Clauses) → Once ps → none_repeated times ps cs ≡ true
  each_once ps NoClauses once = refl
  each_once ps (MoreClauses at p body others) once =
      ap (λ b. b && none_repeated times ps others) (once_named ps once p) ∙ each_once ps others once

  -- where there is a `default`, it is enough to look at the members that clauses name
  pub once_counted : (cs : Clauses) (ps : List Part) → ((x : List ℕ) → times x ≡ named_times x cs) → none_repeated times ps cs ≡ all_counted times ps true
  once_counted cs ps same =
      same_if (none_repeated times ps cs) (all_counted times ps true)
      (λ h. once_counts ps (once_each ps cs same h))
      (λ h. each_once ps cs (counted_once ps h))
