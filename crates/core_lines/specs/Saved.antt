-- Believed: which results are saved into their temporaries' slots: those whose slot is loaded later, before the temporary gets another word. What is loaded is
-- found from a function's end backwards, as flags of its temporaries.
use Rattle.std.specs.Prelude.{ℕ, zero, suc, ◌+◌, Bool, true, false, ◌||◌, List, [], ◌∷◌, ◌++◌, length}
use Rattle.core_meaning.specs.Core.{
  Operation,
  Constant,
  NullPointer,
  Move,
  Narrow,
  Apply,
  LocalAddress,
  OwnAddress,
  DataAddress,
  Offset,
  Element,
  Get,
  Put,
  Load,
  Store,
  Copy,
  Clear,
  IsNull,
  SamePlace,
  Getchar,
  Putchar,
  HeapHandle,
  RegionNew,
  RegionAlloc,
  RegionFree,
  UniqueAlloc,
  UniqueFree,
  KeyNew,
  KeyOpen,
  KeyClose,
  KeyFree,
  Statement,
  Do,
  If,
  While,
  Block,
  Leave,
  Break,
  Continue,
  Call,
  Return,
  Raise,
  Statements,
  NoStatements,
  MoreStatements,
  Function,
}
use Rattle.core_lines.specs.Homes.{homes_in, flag_at}
use Rattle.core_lines.specs.LocalPlaces.{homes_here, homes_after, names_after, names_after_all}
use Rattle.core_lines.specs.Held.{Holding, with_taken, raises_only, held_behind, held_behind_all}
use Rattle.core_lines.specs.Parameters.{parameter_registers}
use Rattle.core_lines.specs.Loaded.{unknown_in, loads_of_operation, loads_of_values, loads_in, loads_of}

-- ---- flags

abbrev pub no_flags : ℕ → List Bool
no_flags zero = []
no_flags (suc n) = false ∷ no_flags n

-- as many, none of which is true
abbrev pub cleared : List Bool → List Bool
cleared [] = []
cleared (b ∷ bs) = false ∷ cleared bs

-- that of a temporary becomes true, or false
abbrev pub flagged : Bool → ℕ → List Bool → List Bool
flagged value t [] = []
flagged value zero (b ∷ bs) = value ∷ bs
flagged value (suc t) (b ∷ bs) = b ∷ flagged value t bs

abbrev pub all_flagged : Bool → List ℕ → List Bool → List Bool
all_flagged value [] bs = bs
all_flagged value (t ∷ ts) bs = all_flagged value ts (flagged value t bs)

-- those that are true in one or the other
abbrev pub either_flagged : List Bool → List Bool → List Bool
either_flagged [] cs = cs
either_flagged (b ∷ bs) [] = b ∷ bs
either_flagged (b ∷ bs) (c ∷ cs) = (b || c) ∷ either_flagged bs cs

-- the flags of these temporaries
abbrev pub flags_of : List Bool → List ℕ → List Bool
flags_of bs [] = []
flags_of bs (t ∷ ts) = flag_at bs t ∷ flags_of bs ts

-- ---- results

-- the temporary that an operation gives a word, if it gives one
abbrev pub results_of : Operation → List ℕ
results_of (Constant t w) = t ∷ []
results_of (NullPointer t) = t ∷ []
results_of (Move t x) = t ∷ []
results_of (Narrow t x) = t ∷ []
results_of (Apply o t x y) = t ∷ []
results_of (LocalAddress t out local) = t ∷ []
results_of (OwnAddress t object) = t ∷ []
results_of (DataAddress t object) = t ∷ []
results_of (Offset t p cells bytes) = t ∷ []
results_of (Element t p i cells bytes) = t ∷ []
results_of (Get t out local width) = t ∷ []
results_of (Put out local width x) = []
results_of (Load t p d) = t ∷ []
results_of (Store p d x) = []
results_of (Copy to from layout) = []
results_of (Clear p layout count) = []
results_of (IsNull t p) = t ∷ []
results_of (SamePlace t p q) = t ∷ []
results_of (Getchar t) = t ∷ []
results_of (Putchar t x) = t ∷ []
results_of (HeapHandle t) = t ∷ []
results_of (RegionNew t) = t ∷ []
results_of (RegionAlloc t h n layout) = t ∷ []
results_of (RegionFree h) = []
results_of (UniqueAlloc t layout) = t ∷ []
results_of (UniqueFree p) = []
results_of (KeyNew t) = t ∷ []
results_of (KeyOpen k) = []
results_of (KeyClose k) = []
results_of (KeyFree k) = []

-- ---- what is loaded from a point on

-- where a loop begins: all that it loads anywhere, and what is loaded behind it, or where the ways out of it go
abbrev pub at_loop : (homes : List (List ℕ)) → (statics names : List ℕ) → (after out again : List Bool) → Statement → List Bool
at_loop homes statics names after out again loop =
    all_flagged true (loads_in homes statics names [] loop) (either_flagged after (either_flagged out again))

-- Before the ways of a choice, where these are loaded before each way: those of one way or the other. Where the second way only raises an exception, what it
-- loads is added to those of the first.
abbrev pub either_way : Bool → (loads : List ℕ) → (one other : List Bool) → List Bool
either_way true loads one other = all_flagged true loads one
either_way false loads one other = either_flagged one other

-- Before a statement, where these are loaded behind it, where a `Break` goes, and where a `Continue` goes.
abbrev mutual
  pub live_in : (homes : List (List ℕ)) → (statics names : List ℕ) → List Holding → (after out again : List Bool) → Statement → List Bool
  live_in homes statics names hs after out again (Do operation) =
      all_flagged true (loads_of_operation hs operation) (all_flagged false (results_of operation) after)
  live_in homes statics names hs after out again (If t these those) =
      all_flagged true (unknown_in hs (t ∷ [])) (either_way (raises_only those) (loads_of homes statics (names_after_all these names) hs those)
      (live_of homes statics names hs after out again these) (live_of homes statics (names_after_all these names) hs after out again those))
  live_in homes statics names hs after out again (While test t body) = at_loop homes statics names after out again (While test t body)
  live_in homes statics names hs after out again (Block locals body) =
      live_of (homes_here locals names ∷ homes) statics (homes_after locals names) hs after out again body
  live_in homes statics names hs after out again (Leave body) = live_of homes statics names hs after after again body
  live_in homes statics names hs after out again Break = out
  live_in homes statics names hs after out again Continue = again
  live_in homes statics names hs after out again (Call results f arguments) =
      all_flagged true (unknown_in hs arguments) (all_flagged false results after)
  live_in homes statics names hs after out again (Return values) = all_flagged true (loads_of_values hs 9 values) (cleared after)
  live_in homes statics names hs after out again (Raise kind) = cleared after

  pub live_of : (homes : List (List ℕ)) → (statics names : List ℕ) → List Holding → (after out again : List Bool) → Statements → List Bool
  live_of homes statics names hs after out again NoStatements = after
  live_of homes statics names hs after out again (MoreStatements s ss) = live_in homes statics names hs
      (live_of homes statics (names_after s names) (held_behind homes statics hs s) after out again ss) out again s

-- behind a loop's test, before its choice: what goes on is its body, behind which the loop begins again, or what is behind the loop
abbrev pub behind_test : (homes : List (List ℕ)) → (statics names : List ℕ) → (after head : List Bool) → Statements → ℕ → Statements → List Bool
behind_test homes statics names after head test t body = all_flagged true (unknown_in (held_behind_all homes statics [] test) (t ∷ []))
    (either_flagged after (live_of homes statics (names_after_all test names) [] head after head body))

-- ---- which results are saved: a flag for each result, in the order of the text

abbrev mutual
  pub saves_in : (homes : List (List ℕ)) → (statics names : List ℕ) → List Holding → (after out again : List Bool) → Statement → List Bool
  saves_in homes statics names hs after out again (Do operation) = flags_of after (results_of operation)
  saves_in homes statics names hs after out again (If t these those) = saves_of homes statics names hs after out again these
      ++ saves_of homes statics (names_after_all these names) hs after out again those
  saves_in homes statics names hs after out again (While test t body) = let head = at_loop homes statics names after out again (While test t body) in
      saves_of homes statics names [] (behind_test homes statics names after head test t body) out again test
      ++ saves_of homes statics (names_after_all test names) [] head after head body
  saves_in homes statics names hs after out again (Block locals body) =
      saves_of (homes_here locals names ∷ homes) statics (homes_after locals names) hs after out again body
  saves_in homes statics names hs after out again (Leave body) = saves_of homes statics names hs after after again body
  saves_in homes statics names hs after out again Break = []
  saves_in homes statics names hs after out again Continue = []
  saves_in homes statics names hs after out again (Call results f arguments) = flags_of after results
  saves_in homes statics names hs after out again (Return values) = []
  saves_in homes statics names hs after out again (Raise kind) = []

  pub saves_of : (homes : List (List ℕ)) → (statics names : List ℕ) → List Holding → (after out again : List Bool) → Statements → List Bool
  saves_of homes statics names hs after out again NoStatements = []
  saves_of homes statics names hs after out again (MoreStatements s ss) = saves_in homes statics names hs
      (live_of homes statics (names_after s names) (held_behind homes statics hs s) after out again ss) out again s
      ++ saves_of homes statics (names_after s names) (held_behind homes statics hs s) after out again ss

-- how many results there are
abbrev mutual
  pub results_in : Statement → ℕ
  results_in (Do operation) = length (results_of operation)
  results_in (If t these those) = results_all these + results_all those
  results_in (While test t body) = results_all test + results_all body
  results_in (Block locals body) = results_all body
  results_in (Leave body) = results_all body
  results_in Break = 0
  results_in Continue = 0
  results_in (Call results f arguments) = length results
  results_in (Return values) = 0
  results_in (Raise kind) = 0

  pub results_all : Statements → ℕ
  results_all NoStatements = 0
  results_all (MoreStatements s ss) = results_in s + results_all ss

-- ---- of a function

abbrev pub none_of : Function → List Bool
none_of f = no_flags f.temporaries

-- what is known where its body begins, and what is loaded from there on
abbrev pub taken_in : Function → List Holding
taken_in f = with_taken (parameter_registers f) 0 f.parameters []

abbrev pub live_at_start : List ℕ → Function → List Bool
live_at_start statics f = live_of [] statics (homes_in f) (taken_in f) (none_of f) (none_of f) (none_of f) f.body

abbrev pub saves_at : List ℕ → Function → List Bool
saves_at statics f = saves_of [] statics (homes_in f) (taken_in f) (none_of f) (none_of f) (none_of f) f.body
