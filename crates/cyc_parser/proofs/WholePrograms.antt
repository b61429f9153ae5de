-- What the reader of programs answers says of the tokens, all of them.
use Rattle.std.proofs.Common.{◌≡◌, ℕ, max, ◌≤◌, false, List, [], ◌∷◌, ◌++◌, length, Option, Some, None, Ok, Err, refl, sym, ap, subst, ◌∙◌, append_assoc, arith}
use Rattle.std.proofs.Common.{inl, inr}
use Rattle.std.proofs.lemmas.List.{append-nil}
use Rattle.cyc_lexer.specs.Lexing.{Token}
use Rattle.cyc_tree.specs.Tree.{Item, Program}
use Rattle.cyc_tree.specs.Depths.{nesting, nesting_limit, too_deep_at}
use Rattle.cyc_tree.proofs.PartNesting.{program_nesting}
use Rattle.cyc_tree.proofs.PartDepths.{nesting_is}
use Rattle.cyc_parser.specs.declared.fault.ParseFault.{ParseFault}
use Rattle.cyc_parser.specs.declared.fault.ParseFault.TheVariants.{Parse, TooDeep, Memory}
use Rattle.source_grammar.specs.Phrases.{Tokens}
use Rattle.source_grammar.specs.Grammar.{IsProgram}
use Rattle.cyc_parser.specs.Reader.{Outcome, Fails}
use Rattle.cyc_parser.specs.ReadPrograms.{program}
use Rattle.cyc_parser.specs.Refusals.{token_limit, BeginAProgram, GoNoFurther, StandsIn, AreWithin, IsUnexpectedAt, IsTooDeepAt, IsRefusedFor, IsRefusedProgram}
use Rattle.cyc_parser.specs.Exact.{AreMadeUp, Refused, Deepened, Passes}
use Rattle.cyc_parser.proofs.exactness.Parts.{ok_is, no_fault}
use Rattle.cyc_parser.proofs.exactness.Programs.{AreSomeItems, AreItemsAt, program_exact, program_ends}
use Rattle.cyc_parser.proofs.Goes.{Goes}
use Rattle.cyc_parser.proofs.going.Programs.{program_goes}
use Rattle.cyc_parser.proofs.OnePlace.{Longer, cut}

-- ---- some items, up to the end, are a program

are_program : (is : List Item) (ts : Tokens) → AreSomeItems is ts [] → IsProgram is ts
are_program [] ts items = items
are_program (i ∷ is) ts items = items

program_is : (is : List Item) (ts : Tokens) → IsProgram is ts → AreSomeItems is ts []
program_is [] ts items = items
program_is (i ∷ is) ts items = items

-- ---- a program that is read

found_within : (most : ℕ) (ts : Tokens) (is : List Item) (rest : Tokens) → program most ts ≡ Ok (is, rest) → IsProgram is ts
found_within most ts is rest read =
    let found = (program_exact most).sound ts is rest tt read in
    let none = program_ends most ts is rest read in
    let all : found.taken ++ [] ≡ ts = ap (λ (r : Tokens). found.taken ++ r) (sym none) ∙ sym found.parts in
    are_program is ts (subst (λ (x : Tokens). AreSomeItems is x []) all (found.is []).0)

pub is_found : (ts : Tokens) (is : List Item) (rest : Tokens) → program nesting_limit ts ≡ Ok (is, rest) → IsProgram is ts
is_found ts is rest read = found_within nesting_limit ts is rest read

pub is_nested : (ts : Tokens) (is : List Item) (rest : Tokens) → program nesting_limit ts ≡ Ok (is, rest) → nesting is ≤ nesting_limit
is_nested ts is rest read = omega (arith, nesting_is is, (((program_exact nesting_limit).sound ts is rest tt read).is []).1)

-- ---- a program that the tokens are

pub is_passed : (p : Program) (ts : Tokens) → IsProgram p ts → Passes (program nesting_limit ts) p []
is_passed p ts phrase = (program_exact nesting_limit).never p ts [] (program_is p ts phrase, tt) refl

-- tokens are one program's
pub one_program : (tokens : Tokens) (p q : Program) → IsProgram p tokens → IsProgram q tokens → p ≡ q
one_program tokens p q is_p is_q =
    let exact = program_exact (max (program_nesting p) (program_nesting q)) in
    let read_p = exact.again p tokens [] (program_is p tokens is_p, omega arith) refl in
    let read_q = exact.again q tokens [] (program_is q tokens is_q, omega arith) refl in
    ap (λ (x : List Item × Tokens). x.0) (ok_is (p, []) (q, []) (sym read_p ∙ read_q))

pub is_only : (p : Program) (ts : Tokens) (is : List Item) (rest : Tokens) → IsProgram p ts → program nesting_limit ts ≡ Ok (is, rest) → is ≡ p
is_only p ts is rest phrase read = elim (is_passed p ts phrase) [
  | inl same ↦ ap (λ (x : List Item × Tokens). x.0) (ok_is (is, rest) (p, []) (sym read ∙ same))
  | inr deep ↦ absurd (no_fault (is, rest) (TooDeep deep.0) (sym read ∙ deep.1))
]

-- ---- a token that no program has there

begins : (is : List Item) (front ending : Tokens) → AreSomeItems is (front ++ (ending ++ [])) [] → BeginAProgram front
begins is front ending items =
    (is, ending, are_program is (front ++ ending) (subst (λ (x : Tokens). AreSomeItems is (front ++ x) []) (append-nil ending) items))

abbrev failed : ParseFault → Outcome (List Item)
failed fault = Err fault

other_fault : (at deep : ℕ) → failed (Parse at) ≡ failed (TooDeep deep) → ⊥
other_fault at deep same = cc

-- what is refused there, whatever follows, begins no program
no_program : (p : Program) (ts : Tokens) (at : ℕ) → IsProgram p ts → program nesting_limit ts ≡ Err (Parse at) → ⊥
no_program p ts at phrase refused = elim (is_passed p ts phrase) [
  | inl read ↦ no_fault (p, []) (Parse at) (sym read ∙ refused)
  | inr deep ↦ other_fault at deep.0 (sym refused ∙ deep.1)
]

no_further : (ts : Tokens) (at : ℕ) (front rest : Tokens) → ts ≡ front ++ rest → program nesting_limit ts ≡ Err (Parse at)
    → ((t : Token) (others after : Tokens) → rest ≡ t ∷ others → program nesting_limit (front ++ t ∷ after) ≡ Err (Parse at)) → GoNoFurther front rest
no_further ts at front [] parts refused still =
    λ p phrase. no_program p ts at (subst (IsProgram p) (sym (parts ∙ append-nil front)) phrase) refused
no_further ts at front (t ∷ others) parts refused still =
    λ b. no_program b.0 (front ++ t ∷ b.1) at (subst (IsProgram b.0) (append_assoc front (t ∷ []) b.1) b.2) (still t others b.1 refl)

pub is_unexpected : (ts : Tokens) (at : ℕ) → program nesting_limit ts ≡ Err (Parse at) → IsUnexpectedAt ts at
is_unexpected ts at refused =
    let r = (program_exact nesting_limit).refused ts at tt refused in
    record {
      front = r.front;
      rest = r.rest;
      parts = r.parts;
      place = r.place;
      begins = begins r.tree r.front r.ending (r.is []).0;
      no_further = no_further ts at r.front r.rest r.parts refused r.still;
    }

-- ---- the first token that is too deep

-- what is refused as too deep has the place
place_is : (a : Program) (to : Tokens) (d : Option ℕ) (at : ℕ) (r : Outcome (List Item)) → Goes r a to d → r ≡ Err (TooDeep at) → d ≡ Some at
place_is a to None at r g refused = absurd (no_fault (a, to) (TooDeep at) (sym g ∙ refused))
place_is a to (Some deep) at r g refused = let same : failed (TooDeep deep) ≡ failed (TooDeep at) = sym g ∙ refused in cc

-- Tokens that begin as refused ones do: where they are too deep at a token, that one stands behind what both begin with, since the refused ones
-- would be too deep there, too.
stands_behind : (ts front rest ending : Tokens) (at deep : ℕ) → ts ≡ front ++ rest → program nesting_limit ts ≡ Err (Parse at)
    → Deepened (AreItemsAt nesting_limit false) (program nesting_limit) (front ++ ending) deep → StandsIn deep ending
stands_behind ts front rest ending at deep parts refused d =
    elim (cut front ending d.front (d.next ∷ d.others) d.parts) [
      | inl same ↦ ([], d.next, d.others, same.1, d.place)
      | inr (inl longer) ↦ (longer.0 ∷ longer.1, d.next, d.others, longer.3, d.place)
      | inr (inr longer) ↦ absurd (before longer)
    ]
  where
    before : Longer d.front front (d.next ∷ d.others) ending → ⊥
    before (t, more, longer, behind) =
        let same : t ≡ d.next = cc in
        let again : ts ≡ d.front ++ d.next ∷ (more ++ rest) =
        parts ∙ ap (λ (x : Tokens). x ++ rest) longer ∙ append_assoc d.front (t ∷ more) rest
        ∙ ap (λ (x : Token). d.front ++ x ∷ (more ++ rest)) same in
        other_fault at deep (sym refused ∙ ap (program nesting_limit) again ∙ d.still (more ++ rest))

-- a program that is refused as too deep has there its first token that is
first_place : (p : Program) (ts : Tokens) (at : ℕ) → IsProgram p ts → program nesting_limit ts ≡ Err (TooDeep at) → too_deep_at p ≡ Some at
first_place p ts at phrase refused =
    place_is p [] (too_deep_at p) at (program nesting_limit ts) (program_goes nesting_limit p ts phrase) refused

pub is_too_deep : (ts : Tokens) (at : ℕ) → program nesting_limit ts ≡ Err (TooDeep at) → IsTooDeepAt ts at
is_too_deep ts at refused =
    let d = (program_exact nesting_limit).deepened ts at tt refused in
    record {
      front = d.front;
      next = d.next;
      others = d.others;
      parts = d.parts;
      place = d.place;
      begins =
          begins d.tree (d.front ++ d.next ∷ []) d.ending
          (subst (λ (x : Tokens). AreSomeItems d.tree x []) (sym (append_assoc d.front (d.next ∷ []) (d.ending ++ []))) (d.is []).0);
      first = λ p ending phrase. first_place p (d.front ++ d.next ∷ ending) at phrase (d.still ending);
    }

-- where tokens are refused otherwise, none of those before the place is too deep
are_within : (ts front rest : Tokens) (at : ℕ) → ts ≡ front ++ rest → program nesting_limit ts ≡ Err (Parse at) → AreWithin front
are_within ts front rest at parts refused p ending deep phrase is_deep =
    let refused_deep : program nesting_limit (front ++ ending) ≡ Err (TooDeep deep) =
    subst (Goes (program nesting_limit (front ++ ending)) p []) is_deep (program_goes nesting_limit p (front ++ ending) phrase) in
    stands_behind ts front rest ending at deep parts refused ((program_exact nesting_limit).deepened (front ++ ending) deep tt refused_deep)

-- ---- what begins a program is completed by tokens that are made up

abbrev IsCompleted : Tokens → Type 0
IsCompleted front = (p : Program) × (ending : Tokens) × IsProgram p (front ++ ending) × AreMadeUp ending

module _ (most : ℕ) (front : Tokens) (p : Program) (ending : Tokens) (read : program most (front ++ ending) ≡ Ok (p, [])) where
  -- no token of what begins a program that is read is refused: it would be, too, where the others follow
  none_left : (at : ℕ) (begun rest : Tokens) → front ≡ begun ++ rest
      → ((t : Token) (others after : Tokens) → rest ≡ t ∷ others → program most (begun ++ t ∷ after) ≡ Err (Parse at)) → rest ≡ []
  none_left at begun [] parts still = refl
  none_left at begun (t ∷ others) parts still =
      let whole : front ++ ending ≡ begun ++ t ∷ (others ++ ending) =
      ap (λ (x : Tokens). x ++ ending) parts ∙ append_assoc begun (t ∷ others) ending in
      absurd (no_fault (p, []) (Parse at) (sym read ∙ ap (program most) whole ∙ still t others (others ++ ending) refl))

  -- where no token is left, the reader's ending completes the program
  complete_refused : (at : ℕ) → Refused (AreItemsAt most false) (program most) front at → IsCompleted front
  complete_refused at r =
      let all : r.front ≡ front =
      sym (append-nil r.front) ∙ ap (λ (x : Tokens). r.front ++ x) (sym (none_left at r.front r.rest r.parts r.still)) ∙ sym r.parts in
      let same : r.front ++ (r.ending ++ []) ≡ front ++ r.ending =
      ap (λ (x : Tokens). r.front ++ x) (append-nil r.ending) ∙ ap (λ (x : Tokens). x ++ r.ending) all in
      (r.tree, r.ending, are_program r.tree (front ++ r.ending) (subst (λ (x : Tokens). AreSomeItems r.tree x []) same (r.is []).0), r.made_up)

  -- nor is one too deep
  never_deep : (at : ℕ) → Deepened (AreItemsAt most false) (program most) front at → ⊥
  never_deep at d =
      let whole : front ++ ending ≡ d.front ++ d.next ∷ (d.others ++ ending) =
      ap (λ (x : Tokens). x ++ ending) d.parts ∙ append_assoc d.front (d.next ∷ d.others) ending in
      no_fault (p, []) (TooDeep at) (sym read ∙ ap (program most) whole ∙ d.still (d.others ++ ending))

  -- by what the reader answers of the beginning alone
  complete : (answer : Outcome (List Item)) → program most front ≡ answer → IsCompleted front
  complete (Ok x) e = (x.0, [], subst (IsProgram x.0) (sym (append-nil front)) (found_within most front x.0 x.1 e), tt)
  complete (Err (Parse at)) e = complete_refused at ((program_exact most).refused front at tt e)
  complete (Err (TooDeep at)) e = absurd (never_deep at ((program_exact most).deepened front at tt e))
  complete (Err Memory) e = absurd ((program_exact most).enough front tt e)

-- tokens that begin a program begin one whose other tokens are made up
pub made_up_ending : (front : Tokens) → BeginAProgram front → (p : Program) × (ending : Tokens) × IsProgram p (front ++ ending) × AreMadeUp ending
made_up_ending front (p, ending, is) =
    let most = program_nesting p in
    let read : program most (front ++ ending) ≡ Ok (p, []) =
    (program_exact most).again p (front ++ ending) [] (program_is p (front ++ ending) is, omega arith) refl in
    complete most front p ending read (program most front) refl

-- ---- what the function answers

pub is_refused_for : (ts : Tokens) (fault : ParseFault) → length ts ≤ token_limit → Fails fault (program nesting_limit ts) → IsRefusedFor fault ts
is_refused_for ts (Parse at) few fails =
    let unexpected = is_unexpected ts at fails in
    inr (few, (unexpected, are_within ts unexpected.front unexpected.rest at unexpected.parts fails))
is_refused_for ts (TooDeep at) few fails = (few, is_too_deep ts at fails)
is_refused_for ts Memory few fails = tt

pub is_refused_program : (p : Program) (ts : Tokens) (fault : ParseFault) → IsProgram p ts → Fails fault (program nesting_limit ts)
    → IsRefusedProgram p fault
is_refused_program p ts (Parse at) phrase fails = no_program p ts at phrase fails
is_refused_program p ts (TooDeep at) phrase fails = first_place p ts at phrase fails
is_refused_program p ts Memory phrase fails = tt
