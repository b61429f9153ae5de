-- The clauses of a `switch`, one at a time.
use Rattle.std.proofs.Common.{◌≡◌, ℕ, ◌+◌, ◌<◌, List, [], ◌∷◌, Bool, Option, None, Some, true, false, ◌++◌, refl, sym, ap, ◌∙◌}
use Rattle.std.proofs.Common.{map, length, drop, get_or, arith}
use Rattle.std.specs.Prelude.{bytes_eq, if◌then◌else◌, nat_eq, nat_le, unwrap_or, ◌&&◌, ◌||◌}
use Rattle.std.proofs.lemmas.Slice.Eq.{bytes_eq-Decides}
use Rattle.std.proofs.lemmas.List.{drop_more}
use Rattle.cyc_tree.specs.Tree.{Case, Clauses, Default, MoreClauses, Pattern}
use Rattle.cyc_tree.proofs.PartForms.{clause_parts}
use Rattle.cyc_tree.specs.View.{OneClause, clause_tree, clauses_of, item_tree, items_of, pattern_tree}
use Rattle.cyc_tree.specs.declared.statement.Clause as code_clause
use Rattle.source_typing.specs.Faults.{Fault, earliest, own_after}
use Rattle.source_typing.specs.Scope.{Env}
use Rattle.source_typing.specs.Statements.{Chosen, all_named, clauses_faults, defaults, named_times, one_if}
use Rattle.source_typing.specs.Tables.{Part}
use Rattle.check_faults.specs.Faults.{faults_of, first_of, sooner_found}
use Rattle.check_faults.specs.declared.fault.Fault as found
use Rattle.check_faults.proofs.Earliest.{earliest_of_both, first_joined, found_sooner, sooner_none}
use Rattle.check_statements.specs.Switching.{all_counted, clause_faults, is_default, names_part}

-- ---- their faults

abbrev pub clause_trees : List code_clause.Clause → Clauses
clause_trees cs = clauses_of (map clause_tree cs)

pub clause_goes_on : (g : Env) (reached : Bool) (u : Option Chosen) (o fault : Option found.Fault) (clauses : List code_clause.Clause) (index : ℕ)
    (clause : code_clause.Clause) (all : Option Fault) → index < length clauses → clause ≡ get_or clauses index clause
    → first_of (faults_of o) (earliest (clauses_faults g reached u (clause_trees (drop index clauses)))) ≡ all
    → faults_of fault ≡ earliest (clause_faults g reached u (clause_tree clause))
    → first_of (faults_of (sooner_found o fault)) (earliest (clauses_faults g reached u (clause_trees (drop (index + 1) clauses)))) ≡ all
clause_goes_on g reached u o fault clauses index clause all l is_clause h own =
    let rest : List code_clause.Clause = drop (index + 1) clauses in
    let others : Option Fault = earliest (clauses_faults g reached u (clause_trees rest)) in
    let one : List Fault = clause_faults g reached u (clause_tree clause) in
    let next : drop index clauses ≡ clause ∷ rest = drop_more clauses index clause l ∙ ap (λ y. y ∷ rest) (sym is_clause) in
    ap (λ f. first_of f others) (found_sooner o fault) ∙ first_joined (faults_of o) (faults_of fault) others
    ∙ ap (λ f. first_of (faults_of o) (first_of f others)) own
    ∙ ap (λ f. first_of (faults_of o) f) (sym (earliest_of_both one (clauses_faults g reached u (clause_trees rest))))
    ∙ ap (λ xs. first_of (faults_of o) (earliest (clauses_faults g reached u (clause_trees xs)))) (sym next)
    ∙ h

-- ---- how often they name a member

none_more : (n : ℕ) → n ≡ 0 + n
none_more n = omega arith

pub times_more : (x : List ℕ) (c : code_clause.Clause) (rest : List code_clause.Clause)
    → named_times x (clauses_of (map clause_tree (c ∷ rest))) ≡ one_if (names_part (pattern_tree c.pattern) x) + named_times x (clauses_of
    (map clause_tree rest))
times_more x c rest =
    ap (λ (o : OneClause). named_times x (clauses_of (o ∷ map clause_tree rest))) (clause_parts c) ∙ by (pattern_tree c.pattern)
  where
    by : (p : Pattern) → named_times x (MoreClauses c.at p (items_of (map item_tree c.body.items)) (clauses_of (map clause_tree rest)))
        ≡ one_if (names_part p x) + named_times x (clauses_of (map clause_tree rest))
    by (Case f y) = refl
    by Default = let rest_times : ℕ = named_times x (clauses_of (map clause_tree rest)) in none_more rest_times

pub defaults_more : (c : code_clause.Clause) (rest : List code_clause.Clause)
    → defaults (clauses_of (map clause_tree (c ∷ rest))) ≡ one_if (is_default (pattern_tree c.pattern)) + defaults (clauses_of (map clause_tree rest))
defaults_more c rest =
    ap (λ (o : OneClause). defaults (clauses_of (o ∷ map clause_tree rest))) (clause_parts c) ∙ by (pattern_tree c.pattern)
  where
    by : (p : Pattern) → defaults (MoreClauses c.at p (items_of (map item_tree c.body.items)) (clauses_of (map clause_tree rest)))
        ≡ one_if (is_default p) + defaults (clauses_of (map clause_tree rest))
    by (Case f y) = none_more (defaults (clauses_of (map clause_tree rest)))
    by Default = refl

-- a name counted once more
pub times_added : (name x : List ℕ) (old : List ℕ → ℕ) (n : ℕ) → n ≡ old name + 1 → (if bytes_eq name x then n else old x) ≡ one_if (bytes_eq name x) + old x
times_added name x old n is = by (bytes_eq name x) (old x) (λ h. is ∙ ap (λ y. old y + 1) ((bytes_eq-Decides name x).0 h))
  where
    by : (b : Bool) (o : ℕ) → (b ≡ true → n ≡ o + 1) → (if b then n else o) ≡ one_if b + o
    by true o h = h refl ∙ one_more o
      where
        one_more : (o : ℕ) → o + 1 ≡ 1 + o
        one_more o = omega arith
    by false o h = none_more o

pub found_times : (b : Bool) (n : ℕ) (o : Option ℕ) → unwrap_or (if b then Some n else o) 0 ≡ (if b then n else unwrap_or o 0)
found_times true n o = refl
found_times false n o = refl

-- counted by name or for each member, the members are named or not
pub counted_named : (times : List ℕ → ℕ) (cs : Clauses) (ps : List Part) (has_default : Bool) → ((x : List ℕ) → times x ≡ named_times x cs)
    → all_counted times ps has_default ≡ all_named ps cs has_default
counted_named times cs [] has_default same = refl
counted_named times cs (p ∷ ps) has_default same =
    ap (λ n. nat_le n 1 && (has_default || nat_eq n 1) && all_counted times ps has_default) (same p.name)
    ∙ ap (λ b. nat_le (named_times p.name cs) 1 && (has_default || nat_eq (named_times p.name cs) 1) && b) (counted_named times cs ps has_default same)

-- ---- the fault of parts, where there is one

pub own_kept : (own parts : List Fault) (f : Fault) → earliest parts ≡ Some f → earliest (own_after own parts) ≡ Some f
own_kept own [] f e = absurd cc
own_kept own (g ∷ gs) f e = e

-- ---- their own, where parts have none

pub own_alone : (own parts : List Fault) → None ≡ earliest parts → earliest own ≡ earliest (own_after own parts)
own_alone own [] h = refl
own_alone own (g ∷ gs) h = absurd (sooner_none g (earliest gs) h)

pub none_before : (fs gs : List Fault) → None ≡ earliest (fs ++ gs) → None ≡ earliest fs
none_before [] gs h = refl
none_before (f ∷ fs) gs h = absurd (sooner_none f (earliest (fs ++ gs)) h)
