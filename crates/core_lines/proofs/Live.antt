-- What is loaded from a point on: there are as many flags as temporaries, and what covers them. How many results are saved or not.
use Rattle.std.specs.Prelude.{length}
use Rattle.std.proofs.Common.{◌≡◌, ℕ, ◌≤◌, Bool, true, false, List, [], ◌∷◌, ◌++◌, refl, sym, ◌∙◌, arith, length-append}
use Rattle.std.proofs.lemmas.Bool.{and_parts}
use Rattle.core_meaning.specs.Core.{
  Operation,
  Constant,
  NullPointer,
  Move,
  Narrow,
  Apply,
  LocalAddress,
  OwnAddress,
  DataAddress,
  Offset,
  Element,
  Get,
  Put,
  Load,
  Store,
  Copy,
  Clear,
  IsNull,
  SamePlace,
  Getchar,
  Putchar,
  HeapHandle,
  RegionNew,
  RegionAlloc,
  RegionFree,
  UniqueAlloc,
  UniqueFree,
  KeyNew,
  KeyOpen,
  KeyClose,
  KeyFree,
  Statement,
  Do,
  If,
  While,
  Block,
  Leave,
  Break,
  Continue,
  Call,
  Return,
  Raise,
  Statements,
  NoStatements,
  MoreStatements,
}
use Rattle.core_lines.specs.Held.{Holding, raises, raises_only, held_behind, held_behind_all}
use Rattle.core_lines.specs.LocalPlaces.{homes_here, homes_after, names_after, names_after_all}
use Rattle.core_lines.specs.Loaded.{unknown_in, loads_of_operation, loads_of_values, loads_in, loads_of}
use Rattle.core_lines.specs.Saved.{
  cleared,
  all_flagged,
  either_flagged,
  either_way,
  results_of,
  at_loop,
  live_in,
  live_of,
  behind_test,
  saves_in,
  saves_of,
  results_in,
  results_all,
}
use Rattle.core_lines.proofs.memory.Relations.{Covers, AreFlagged, flagged_first, flagged_second}
use Rattle.core_lines.proofs.Flags.{
  length_cleared,
  length_all,
  length_either,
  length_way,
  length_flags_of,
  more_flagged,
  covers_then,
  covers_itself,
  covers_cleared,
  covers_all,
  covers_others,
  covers_either,
  covers_way,
  either_first,
  either_second,
}

-- an operation has one result at most
pub few_results : (o : Operation) → length (results_of o) ≤ 1
few_results (Constant t w) = omega arith
few_results (NullPointer t) = omega arith
few_results (Move t x) = omega arith
few_results (Narrow t x) = omega arith
few_results (Apply o t x y) = omega arith
few_results (LocalAddress t out local) = omega arith
few_results (OwnAddress t object) = omega arith
few_results (DataAddress t object) = omega arith
few_results (Offset t p cells bytes) = omega arith
few_results (Element t p i cells bytes) = omega arith
few_results (Get t out local width) = omega arith
few_results (Put out local width x) = omega arith
few_results (Load t p d) = omega arith
few_results (Store p d x) = omega arith
few_results (Copy to from layout) = omega arith
few_results (Clear p layout count) = omega arith
few_results (IsNull t p) = omega arith
few_results (SamePlace t p q) = omega arith
few_results (Getchar t) = omega arith
few_results (Putchar t x) = omega arith
few_results (HeapHandle t) = omega arith
few_results (RegionNew t) = omega arith
few_results (RegionAlloc t h n layout) = omega arith
few_results (RegionFree h) = omega arith
few_results (UniqueAlloc t layout) = omega arith
few_results (UniqueFree p) = omega arith
few_results (KeyNew t) = omega arith
few_results (KeyOpen k) = omega arith
few_results (KeyClose k) = omega arith
few_results (KeyFree k) = omega arith

module _ (statics : List ℕ) where
  -- ---- how many flags there are

  pub length_at_loop : (homes : List (List ℕ)) (names : List ℕ) (after out again : List Bool) (loop : Statement) → length out ≡ length after
      → length again ≡ length after → length (at_loop homes statics names after out again loop) ≡ length after
  length_at_loop homes names after out again loop same_out same_again =
      let others : length (either_flagged out again) ≡ length after = length_either out again (same_out ∙ sym same_again) ∙ same_again in
      length_all true (loads_in homes statics names [] loop) (either_flagged after (either_flagged out again))
      ∙ length_either after (either_flagged out again) (sym others) ∙ others

  mutual
    pub length_in : (homes : List (List ℕ)) (names : List ℕ) (hs : List Holding) (after out again : List Bool) (s : Statement) → length out ≡ length after
        → length again ≡ length after → length (live_in homes statics names hs after out again s) ≡ length after
    length_in homes names hs after out again (Do operation) same_out same_again =
        length_all true (loads_of_operation hs operation) (all_flagged false (results_of operation) after) ∙ length_all false (results_of operation) after
    length_in homes names hs after out again (If t these those) same_out same_again =
        let only = raises_only those in
        let loads = loads_of homes statics (names_after_all these names) hs those in
        let first = live_of homes statics names hs after out again these in
        let second = live_of homes statics (names_after_all these names) hs after out again those in
        let as_first = length_of homes names hs after out again these same_out same_again in
        let as_second = length_of homes (names_after_all these names) hs after out again those same_out same_again in
        length_all true (unknown_in hs (t ∷ [])) (either_way only loads first second)
        ∙ length_way only loads first second (as_first ∙ sym as_second) ∙ as_second
    length_in homes names hs after out again (While test t body) same_out same_again =
        length_at_loop homes names after out again (While test t body) same_out same_again
    length_in homes names hs after out again (Block locals body) same_out same_again =
        length_of (homes_here locals names ∷ homes) (homes_after locals names) hs after out again body same_out same_again
    length_in homes names hs after out again (Leave body) same_out same_again = length_of homes names hs after after again body refl same_again
    length_in homes names hs after out again Break same_out same_again = same_out
    length_in homes names hs after out again Continue same_out same_again = same_again
    length_in homes names hs after out again (Call results f arguments) same_out same_again =
        length_all true (unknown_in hs arguments) (all_flagged false results after) ∙ length_all false results after
    length_in homes names hs after out again (Return values) same_out same_again =
        length_all true (loads_of_values hs 9 values) (cleared after) ∙ length_cleared after
    length_in homes names hs after out again (Raise kind) same_out same_again = length_cleared after

    pub length_of : (homes : List (List ℕ)) (names : List ℕ) (hs : List Holding) (after out again : List Bool) (ss : Statements)
        → length out ≡ length after → length again ≡ length after → length (live_of homes statics names hs after out again ss) ≡ length after
    length_of homes names hs after out again NoStatements same_out same_again = refl
    length_of homes names hs after out again (MoreStatements s ss) same_out same_again =
        let behind = held_behind homes statics hs s in
        let others = live_of homes statics (names_after s names) behind after out again ss in
        let as_others = length_of homes (names_after s names) behind after out again ss same_out same_again in
        length_in homes names hs others out again s (same_out ∙ sym as_others) (same_again ∙ sym as_others) ∙ as_others

  -- ---- what covers them: what covers those of each way out, and all that is loaded

  module _ (more : List Bool) where
    pub covers_loop : (homes : List (List ℕ)) (names : List ℕ) (after out again : List Bool) (loop : Statement) → Covers more after → Covers more out
        → Covers more again → AreFlagged more (loads_in homes statics names [] loop) → Covers more (at_loop homes statics names after out again loop)
    covers_loop homes names after out again loop to_after to_out to_again are =
        covers_all more (loads_in homes statics names [] loop) (either_flagged after (either_flagged out again)) are
        (covers_either more after (either_flagged out again) to_after (covers_either more out again to_out to_again))

    mutual
      pub covers_in : (homes : List (List ℕ)) (names : List ℕ) (hs : List Holding) (after out again : List Bool) (s : Statement) → Covers more after
          → Covers more out → Covers more again → AreFlagged more (loads_in homes statics names hs s)
          → Covers more (live_in homes statics names hs after out again s)
      covers_in homes names hs after out again (Do operation) to_after to_out to_again are =
          covers_all more (loads_of_operation hs operation) (all_flagged false (results_of operation) after) are
          (covers_others more (results_of operation) after to_after)
      covers_in homes names hs after out again (If t these those) to_after to_out to_again are =
          let behind = names_after_all these names in
          let tested = unknown_in hs (t ∷ []) in
          let first = loads_of homes statics names hs these in
          let second = loads_of homes statics behind hs those in
          let two = flagged_first more (tested ++ first) second are in
          let one = live_of homes statics names hs after out again these in
          let other = live_of homes statics behind hs after out again those in
          let others = flagged_second more (tested ++ first) second are in
          covers_all more tested (either_way (raises_only those) second one other) (flagged_first more tested first two)
          (covers_way more (raises_only those) second one other others
          (covers_of homes names hs after out again these to_after to_out to_again (flagged_second more tested first two))
          (covers_of homes behind hs after out again those to_after to_out to_again others))
      covers_in homes names hs after out again (While test t body) to_after to_out to_again are =
          covers_loop homes names after out again (While test t body) to_after to_out to_again are
      covers_in homes names hs after out again (Block locals body) to_after to_out to_again are =
          covers_of (homes_here locals names ∷ homes) (homes_after locals names) hs after out again body to_after to_out to_again are
      covers_in homes names hs after out again (Leave body) to_after to_out to_again are =
          covers_of homes names hs after after again body to_after to_after to_again are
      covers_in homes names hs after out again Break to_after to_out to_again are = to_out
      covers_in homes names hs after out again Continue to_after to_out to_again are = to_again
      covers_in homes names hs after out again (Call results f arguments) to_after to_out to_again are =
          covers_all more (unknown_in hs arguments) (all_flagged false results after) are (covers_others more results after to_after)
      covers_in homes names hs after out again (Return values) to_after to_out to_again are =
          covers_all more (loads_of_values hs 9 values) (cleared after) are (covers_cleared more after)
      covers_in homes names hs after out again (Raise kind) to_after to_out to_again are = covers_cleared more after

      pub covers_of : (homes : List (List ℕ)) (names : List ℕ) (hs : List Holding) (after out again : List Bool) (ss : Statements) → Covers more after
          → Covers more out → Covers more again → AreFlagged more (loads_of homes statics names hs ss)
          → Covers more (live_of homes statics names hs after out again ss)
      covers_of homes names hs after out again NoStatements to_after to_out to_again are = to_after
      covers_of homes names hs after out again (MoreStatements s ss) to_after to_out to_again are =
          let behind = held_behind homes statics hs s in
          let first = loads_in homes statics names hs s in
          let second = loads_of homes statics (names_after s names) behind ss in
          let others = live_of homes statics (names_after s names) behind after out again ss in
          covers_in homes names hs others out again s
          (covers_of homes (names_after s names) behind after out again ss to_after to_out to_again (flagged_second more first second are))
          to_out to_again (flagged_first more first second are)

    -- what only raises an exception is covered by what covers all that it loads
    mutual
      raising_in : (homes : List (List ℕ)) (names : List ℕ) (hs : List Holding) (after out again : List Bool) (s : Statement) → raises s ≡ true
          → AreFlagged more (loads_in homes statics names hs s) → Covers more (live_in homes statics names hs after out again s)
      raising_in homes names hs after out again (Do operation) is are = absurd (cc is)
      raising_in homes names hs after out again (If t these those) is are =
          let both = and_parts (raises_only these) (raises_only those) is in
          let behind = names_after_all these names in
          let tested = unknown_in hs (t ∷ []) in
          let first = loads_of homes statics names hs these in
          let second = loads_of homes statics behind hs those in
          let two = flagged_first more (tested ++ first) second are in
          let one = live_of homes statics names hs after out again these in
          let other = live_of homes statics behind hs after out again those in
          let others = flagged_second more (tested ++ first) second are in
          covers_all more tested (either_way (raises_only those) second one other) (flagged_first more tested first two)
          (covers_way more (raises_only those) second one other others
          (raising_of homes names hs after out again these both.0 (flagged_second more tested first two))
          (raising_of homes behind hs after out again those both.1 others))
      raising_in homes names hs after out again (While test t body) is are = absurd (cc is)
      raising_in homes names hs after out again (Block locals body) is are = absurd (cc is)
      raising_in homes names hs after out again (Leave body) is are = absurd (cc is)
      raising_in homes names hs after out again Break is are = absurd (cc is)
      raising_in homes names hs after out again Continue is are = absurd (cc is)
      raising_in homes names hs after out again (Call results f arguments) is are = absurd (cc is)
      raising_in homes names hs after out again (Return values) is are = absurd (cc is)
      raising_in homes names hs after out again (Raise kind) is are = covers_cleared more after

      pub raising_of : (homes : List (List ℕ)) (names : List ℕ) (hs : List Holding) (after out again : List Bool) (ss : Statements) → raises_only ss ≡ true
          → AreFlagged more (loads_of homes statics names hs ss) → Covers more (live_of homes statics names hs after out again ss)
      raising_of homes names hs after out again NoStatements is are = absurd (cc is)
      raising_of homes names hs after out again (MoreStatements s NoStatements) is are =
          raising_in homes names hs after out again s is (flagged_first more (loads_in homes statics names hs s) [] are)
      raising_of homes names hs after out again (MoreStatements s (MoreStatements s' ss)) is are = absurd (cc is)

  -- ---- how many results there are

  mutual
    pub saved_in : (homes : List (List ℕ)) (names : List ℕ) (hs : List Holding) (after out again : List Bool) (s : Statement)
        → length (saves_in homes statics names hs after out again s) ≡ results_in s
    saved_in homes names hs after out again (Do operation) = length_flags_of after (results_of operation)
    saved_in homes names hs after out again (If t these those) =
        let behind = names_after_all these names in
        let first = saves_of homes statics names hs after out again these in
        let second = saves_of homes statics behind hs after out again those in
        let one : length first ≡ results_all these = saved_of homes names hs after out again these in
        let other : length second ≡ results_all those = saved_of homes behind hs after out again those in
        omega (arith, length-append first second, one, other)
    saved_in homes names hs after out again (While test t body) =
        let head = at_loop homes statics names after out again (While test t body) in
        let between = behind_test homes statics names after head test t body in
        let first = saves_of homes statics names [] between out again test in
        let second = saves_of homes statics (names_after_all test names) [] head after head body in
        let one : length first ≡ results_all test = saved_of homes names [] between out again test in
        let other : length second ≡ results_all body = saved_of homes (names_after_all test names) [] head after head body in
        omega (arith, length-append first second, one, other)
    saved_in homes names hs after out again (Block locals body) =
        saved_of (homes_here locals names ∷ homes) (homes_after locals names) hs after out again body
    saved_in homes names hs after out again (Leave body) = saved_of homes names hs after after again body
    saved_in homes names hs after out again Break = refl
    saved_in homes names hs after out again Continue = refl
    saved_in homes names hs after out again (Call results f arguments) = length_flags_of after results
    saved_in homes names hs after out again (Return values) = refl
    saved_in homes names hs after out again (Raise kind) = refl

    pub saved_of : (homes : List (List ℕ)) (names : List ℕ) (hs : List Holding) (after out again : List Bool) (ss : Statements)
        → length (saves_of homes statics names hs after out again ss) ≡ results_all ss
    saved_of homes names hs after out again NoStatements = refl
    saved_of homes names hs after out again (MoreStatements s ss) =
        let behind = held_behind homes statics hs s in
        let others = live_of homes statics (names_after s names) behind after out again ss in
        let first = saves_in homes statics names hs others out again s in
        let second = saves_of homes statics (names_after s names) behind after out again ss in
        let one : length first ≡ results_in s = saved_in homes names hs others out again s in
        let other : length second ≡ results_all ss = saved_of homes (names_after s names) behind after out again ss in
        omega (arith, length-append first second, one, other)

  -- ---- a loop's start, and its choice

  module _ (homes : List (List ℕ)) (names : List ℕ) (after out again : List Bool) (test : Statements) (t : ℕ) (body : Statements) where
    abbrev loop : Statement
    loop = While test t body

    abbrev loads : List ℕ
    loads = loads_in homes statics names [] loop

    abbrev anywhere : List Bool
    anywhere = either_flagged after (either_flagged out again)

    abbrev head : List Bool
    head = at_loop homes statics names after out again loop

    abbrev tested : List ℕ
    tested = unknown_in (held_behind_all homes statics [] test) (t ∷ [])

    abbrev in_body : List Bool
    in_body = live_of homes statics (names_after_all test names) [] head after head body

    abbrev between : List Bool
    between = behind_test homes statics names after head test t body

    head_to_after : Covers head after
    head_to_after = covers_then head anywhere after (more_flagged loads anywhere) (either_first after (either_flagged out again))

    head_to_others : Covers head (either_flagged out again)
    head_to_others = covers_then head anywhere (either_flagged out again) (more_flagged loads anywhere) (either_second after (either_flagged out again))

    pub choice_to_after : Covers between after
    choice_to_after =
        covers_then between (either_flagged after in_body) after (more_flagged tested (either_flagged after in_body)) (either_first after in_body)

    pub choice_to_body : Covers between in_body
    choice_to_body =
        covers_then between (either_flagged after in_body) in_body (more_flagged tested (either_flagged after in_body)) (either_second after in_body)

    -- all that the loop loads shows at its start
    pub head_to_test : AreFlagged head loads → Covers head (live_of homes statics names [] between out again test)
    head_to_test are =
        let behind = names_after_all test names in
        let first = loads_of homes statics names [] test in
        let second = loads_of homes statics behind [] body in
        let two = flagged_first head (first ++ tested) second are in
        let to_body : Covers head in_body =
        covers_of head homes behind [] head after head body (covers_itself head) head_to_after (covers_itself head)
        (flagged_second head (first ++ tested) second are) in
        let to_choice : Covers head between =
        covers_all head tested (either_flagged after in_body) (flagged_second head first tested two) (covers_either head after in_body head_to_after to_body) in
        covers_of head homes names [] between out again test to_choice
        (covers_then head (either_flagged out again) out head_to_others (either_first out again))
        (covers_then head (either_flagged out again) again head_to_others (either_second out again)) (flagged_first head first tested two)
