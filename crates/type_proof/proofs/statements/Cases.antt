-- `switch`: the member that is held has its clause, by the rules on clauses.
use Rattle.std.proofs.Common.{◌≡◌, ℕ, ◌+◌, Bool, true, false, ◌⊎◌, inl, inr, Option, Some, None, List, [], ◌∷◌, refl, sym, ◌∙◌, ap, subst, arith}
use Rattle.std.specs.Prelude.{bytes_eq, nat_eq, nat_le, if◌then◌else◌, ◌&&◌, ◌||◌}
use Rattle.std.proofs.lemmas.Bool.{false≢true}
use Rattle.std.proofs.lemmas.Slice.Eq.{bytes_eq-Decides}
use Rattle.std.proofs.lemmas.Bool.Decides.{eqb_tells}
use Rattle.cyc_tree.specs.Tree.{Clauses, NoClauses, MoreClauses, Case, Default}
use Rattle.source_meaning.specs.Shapes.{part_position, part_shape}
use Rattle.source_meaning.specs.Steps.{Scope, Flow, Act}
use Rattle.source_meaning.specs.Regions.{in_block, local_with}
use Rattle.source_meaning.specs.Places.{or_else}
use Rattle.source_meaning.specs.Statements as meaning
use Rattle.source_meaning.specs.Statements.{case_for, default_for, block_items, is_position}
use Rattle.source_typing.specs.Statements.{named_times, defaults, all_named, one_if}
use Rattle.source_typing.specs.Tables.{Part}
use Rattle.type_proof.proofs.invariant.Unions.{Among}

-- the member's clause, where it is named once
pub case_found : (cs : Clauses) (held : meaning.Held) (scope : Scope) (x : List ℕ) → nat_eq (named_times x cs) 1 ≡ true → part_position held.parts x
    ≡ Some held.position
    → (act : Act Flow) × (case_for cs held scope ≡ Some act)
case_found NoClauses held scope x h e = absurd cc
case_found (MoreClauses at Default body others) held scope x h e = case_found others held scope x h e
case_found (MoreClauses at (Case y z) body others) held scope x h e =
    by (is_position (part_position held.parts y.text) held.position) (bytes_eq y.text x) refl refl (λ r. case_found others held scope x r e)
  where
    here : Act Flow
    here = in_block (λ k. local_with (record scope { frame = k }) z.text (part_shape held.parts y.text) (held.value ∷ []) (block_items body))

    itself : (k : ℕ) → nat_eq k k ≡ true
    itself k = elim (eqb_tells k k) [ inl a ↦ a.0 | inr a ↦ absurd (a.1 refl) ]

    by : (p q : Bool) → is_position (part_position held.parts y.text) held.position ≡ p → bytes_eq y.text x ≡ q
        → (nat_eq (named_times x others) 1 ≡ true → (act : Act Flow) × (case_for others held scope ≡ Some act)) → (act : Act Flow)
        × ((if p then Some here else case_for others held scope) ≡ Some act)
    by true q a c more = (here, refl)
    by false false a c more = more (rest (bytes_eq y.text x) c h)
      where
        rest : (b : Bool) → b ≡ false → nat_eq (one_if b + named_times x others) 1 ≡ true → nat_eq (named_times x others) 1 ≡ true
        rest true q r = absurd (false≢true (sym q))
        rest false q r = subst (λ (v : ℕ). nat_eq v 1 ≡ true) (omega arith) r
    by false true a c more = absurd (false≢true (sym a ∙ ap (λ (o : Option ℕ). is_position o held.position)
        (ap (part_position held.parts) ((bytes_eq-Decides y.text x).0 c) ∙ e) ∙ itself held.position))

pub default_found : (cs : Clauses) (scope : Scope) → nat_eq (defaults cs) 1 ≡ true → (act : Act Flow) × (default_for cs scope ≡ Some act)
default_found NoClauses scope h = absurd cc
default_found (MoreClauses at Default body others) scope h = (in_block (λ k. block_items body (record scope { frame = k })), refl)
default_found (MoreClauses at (Case y z) body others) scope h = default_found others scope h

named_once : (ps : List Part) (cs : Clauses) (x : List ℕ) → all_named ps cs (nat_eq (defaults cs) 1) ≡ true → Among x ps → (nat_eq (defaults cs) 1 ≡ true)
    ⊎ (nat_eq (named_times x cs) 1 ≡ true)
named_once [] cs x h a = absurd a
named_once (p ∷ ps) cs x h a = by (nat_le (named_times p.name cs) 1) (nat_eq (defaults cs) 1) (nat_eq (named_times p.name cs) 1) refl refl h a
    (λ h2 z. named_once ps cs x h2 z)
  where
    by : (u v q : Bool) → nat_eq (defaults cs) 1 ≡ v → nat_eq (named_times p.name cs) 1 ≡ q → u && (v || q) && all_named ps cs (nat_eq (defaults cs) 1) ≡ true
        → (p.name ≡ x) ⊎ Among x ps
        → (all_named ps cs (nat_eq (defaults cs) 1) ≡ true → Among x ps → (nat_eq (defaults cs) 1 ≡ true) ⊎ (nat_eq (named_times x cs) 1 ≡ true))
        → (nat_eq (defaults cs) 1 ≡ true) ⊎ (nat_eq (named_times x cs) 1 ≡ true)
    by true true q e f h2 a2 more = inl e
    by true false true e f h2 (inl z) more = inr (subst (λ (y : List ℕ). nat_eq (named_times y cs) 1 ≡ true) z f)
    by true false true e f h2 (inr z) more = more h2 z
    by true false false e f h2 a2 more = absurd (false≢true h2)
    by false v q e f h2 a2 more = absurd (false≢true h2)

-- what the rules say of the clauses is that one is found
pub clause_found : (ps : List Part) (cs : Clauses) (held : meaning.Held) (scope : Scope) (x : List ℕ) → all_named ps cs (nat_eq (defaults cs) 1) ≡ true
    → Among x ps
    → part_position held.parts x ≡ Some held.position → (act : Act Flow) × (or_else (case_for cs held scope) (default_for cs scope) ≡ Some act)
clause_found ps cs held scope x fit among there = by (named_once ps cs x fit among) (case_for cs held scope) refl
  where
    by : (nat_eq (defaults cs) 1 ≡ true) ⊎ (nat_eq (named_times x cs) 1 ≡ true) → (o : Option (Act Flow)) → case_for cs held scope ≡ o
        → (act : Act Flow) × (or_else o (default_for cs scope) ≡ Some act)
    by h (Some act) e = (act, refl)
    by (inl h) None e = default_found cs scope h
    by (inr h) None e = let z : (act : Act Flow) × (case_for cs held scope ≡ Some act) =
        case_found cs held scope x h there in absurd (let q : None ≡ Some z.0 = sym e ∙ z.1 in cc)
