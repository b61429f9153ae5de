-- What code loads is one of the function's temporaries.
use Rattle.std.proofs.Common.{ℕ, suc, ◌<◌, List, [], ◌∷◌, ◌++◌, Option, Some, None}
use Rattle.core_meaning.specs.Core.{
  Operation,
  Constant,
  NullPointer,
  Move,
  Narrow,
  Apply,
  LocalAddress,
  OwnAddress,
  DataAddress,
  Offset,
  Element,
  Get,
  Put,
  Load,
  Store,
  Copy,
  Clear,
  IsNull,
  SamePlace,
  Getchar,
  Putchar,
  HeapHandle,
  RegionNew,
  RegionAlloc,
  RegionFree,
  UniqueAlloc,
  UniqueFree,
  KeyNew,
  KeyOpen,
  KeyClose,
  KeyFree,
  Statement,
  Do,
  If,
  While,
  Block,
  Leave,
  Break,
  Continue,
  Call,
  Return,
  Raise,
  Statements,
  NoStatements,
  MoreStatements,
}
use Rattle.core_lines.specs.Held.{Source, Holding, source_of, without_register, held_behind, held_behind_all}
use Rattle.core_lines.specs.LocalPlaces.{homes_here, homes_after, names_after, names_after_all}
use Rattle.core_lines.specs.Loaded.{if_unknown, unknown_in, loads_of_operation, loads_of_values, loads_in, loads_of}
use Rattle.core_meaning.specs.Selectable.{Scope, AreBelow, HasCode, HasLinesIn, HaveLinesIn, scope_within}

joined_below : (most : ℕ) (ts us : List ℕ) → AreBelow most ts → AreBelow most us → AreBelow most (ts ++ us)
joined_below most [] us first second = second
joined_below most (t ∷ ts) us first second = (first.0, joined_below most ts us first.1 second)

pub unknown_below : (most : ℕ) (hs : List Holding) (ts : List ℕ) → AreBelow most ts → AreBelow most (unknown_in hs ts)
unknown_below most hs [] below = tt
unknown_below most hs (t ∷ ts) below = by (source_of hs t) (unknown_below most hs ts below.1)
  where
    by : (s : Option Source) → AreBelow most (unknown_in hs ts) → AreBelow most (if_unknown s t (unknown_in hs ts))
    by None others = (below.0, others)
    by (Some s) others = others

pub one_below : (most : ℕ) (hs : List Holding) (t : ℕ) → t < most → AreBelow most (unknown_in hs (t ∷ []))
one_below most hs t below = unknown_below most hs (t ∷ []) (below, tt)

two_below : (most : ℕ) (hs : List Holding) (t u : ℕ) → t < most → u < most → AreBelow most (unknown_in hs (t ∷ u ∷ []))
two_below most hs t u first second = unknown_below most hs (t ∷ u ∷ []) (first, (second, tt))

pub operation_below : (u : Scope) (hs : List Holding) (o : Operation) → HasCode u o → AreBelow u.temporaries (loads_of_operation hs o)
operation_below u hs (Constant t w) has = tt
operation_below u hs (NullPointer t) has = tt
operation_below u hs (Move t x) has = one_below u.temporaries hs x has.1
operation_below u hs (Narrow t x) has = one_below u.temporaries hs x has.1
operation_below u hs (Apply o t x y) has = two_below u.temporaries hs x y has.1 has.2
operation_below u hs (LocalAddress t out local) has = tt
operation_below u hs (OwnAddress t object) has = tt
operation_below u hs (DataAddress t object) has = tt
operation_below u hs (Offset t p cells bytes) has = one_below u.temporaries hs p has.1
operation_below u hs (Element t p i cells bytes) has = two_below u.temporaries hs i p has.2 has.1
operation_below u hs (Get t out local width) has = tt
operation_below u hs (Put out local width x) has = one_below u.temporaries hs x has.0
operation_below u hs (Load t p d) has = one_below u.temporaries hs p has.1
operation_below u hs (Store p d x) has = two_below u.temporaries hs p x has.0 has.1
operation_below u hs (Copy to from layout) has = (has.0, (has.1, tt))
operation_below u hs (Clear p layout count) has = (has.0, tt)
operation_below u hs (IsNull t p) has = one_below u.temporaries hs p has.1
operation_below u hs (SamePlace t p q) has = two_below u.temporaries hs p q has.1 has.2
operation_below u hs (Getchar t) has = tt
operation_below u hs (Putchar t x) has = one_below u.temporaries hs x has.1
operation_below u hs (HeapHandle t) has = tt
operation_below u hs (RegionNew t) has = tt
operation_below u hs (RegionAlloc t h n layout) has = two_below u.temporaries hs h n has.1 has.2
operation_below u hs (RegionFree h) has = one_below u.temporaries hs h has
operation_below u hs (UniqueAlloc t layout) has = tt
operation_below u hs (UniqueFree p) has = one_below u.temporaries hs p has
operation_below u hs (KeyNew t) has = tt
operation_below u hs (KeyOpen k) has = one_below u.temporaries hs k has
operation_below u hs (KeyClose k) has = one_below u.temporaries hs k has
operation_below u hs (KeyFree k) has = one_below u.temporaries hs k has

pub values_below : (most : ℕ) (hs : List Holding) (r : ℕ) (ts : List ℕ) → AreBelow most ts → AreBelow most (loads_of_values hs r ts)
values_below most hs r [] below = tt
values_below most hs r (t ∷ ts) below =
    let others = without_register (suc r) hs in
    joined_below most (unknown_in hs (t ∷ [])) (loads_of_values others (suc r) ts) (one_below most hs t below.0)
    (values_below most others (suc r) ts below.1)

module _ (statics : List ℕ) where
  mutual
    pub statement_below : (u : Scope) (hss : List (List ℕ)) (names : List ℕ) (hs : List Holding) (s : Statement) → HasLinesIn u s
        → AreBelow u.temporaries (loads_in hss statics names hs s)
    statement_below u hss names hs (Do operation) has = operation_below u hs operation has
    statement_below u hss names hs (If t these those) has =
        let tested = unknown_in hs (t ∷ []) in
        let first = loads_of hss statics names hs these in
        let second = loads_of hss statics (names_after_all these names) hs those in
        joined_below u.temporaries (tested ++ first) second
        (joined_below u.temporaries tested first (one_below u.temporaries hs t has.0) (statements_below u hss names hs these has.1))
        (statements_below u hss (names_after_all these names) hs those has.2)
    statement_below u hss names hs (While test t body) has =
        let at_choice = held_behind_all hss statics [] test in
        let first = loads_of hss statics names [] test in
        let tested = unknown_in at_choice (t ∷ []) in
        let second = loads_of hss statics (names_after_all test names) [] body in
        joined_below u.temporaries (first ++ tested) second
        (joined_below u.temporaries first tested (statements_below u hss names [] test has.1) (one_below u.temporaries at_choice t has.0))
        (statements_below u hss (names_after_all test names) [] body has.2)
    statement_below u hss names hs (Block locals body) has =
        statements_below (scope_within locals u) (homes_here locals names ∷ hss) (homes_after locals names) hs body has.1
    statement_below u hss names hs (Leave body) has = statements_below u hss names hs body has
    statement_below u hss names hs Break has = tt
    statement_below u hss names hs Continue has = tt
    statement_below u hss names hs (Call results f arguments) has = unknown_below u.temporaries hs arguments has.1
    statement_below u hss names hs (Return values) has = values_below u.temporaries hs 9 values has.0
    statement_below u hss names hs (Raise kind) has = tt

    pub statements_below : (u : Scope) (hss : List (List ℕ)) (names : List ℕ) (hs : List Holding) (ss : Statements) → HaveLinesIn u ss
        → AreBelow u.temporaries (loads_of hss statics names hs ss)
    statements_below u hss names hs NoStatements has = tt
    statements_below u hss names hs (MoreStatements s ss) has =
        let last = held_behind hss statics hs s in
        joined_below u.temporaries (loads_in hss statics names hs s) (loads_of hss statics (names_after s names) last ss)
        (statement_below u hss names hs s has.0) (statements_below u hss (names_after s names) last ss has.1)
