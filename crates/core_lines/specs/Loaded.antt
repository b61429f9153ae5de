-- Believed: which temporaries code loads from their slots: those that are used where it isn't known where else their words are.
use Rattle.std.specs.Prelude.{ℕ, suc, List, [], ◌∷◌, ◌++◌, Option, Some, None}
use Rattle.core_meaning.specs.Core.{
  Operation,
  Constant,
  NullPointer,
  Move,
  Narrow,
  Apply,
  LocalAddress,
  OwnAddress,
  DataAddress,
  Offset,
  Element,
  Get,
  Put,
  Load,
  Store,
  Copy,
  Clear,
  IsNull,
  SamePlace,
  Getchar,
  Putchar,
  HeapHandle,
  RegionNew,
  RegionAlloc,
  RegionFree,
  UniqueAlloc,
  UniqueFree,
  KeyNew,
  KeyOpen,
  KeyClose,
  KeyFree,
  Statement,
  Do,
  If,
  While,
  Block,
  Leave,
  Break,
  Continue,
  Call,
  Return,
  Raise,
  Statements,
  NoStatements,
  MoreStatements,
}
use Rattle.core_lines.specs.LocalPlaces.{homes_here, homes_after, names_after, names_after_all}
use Rattle.core_lines.specs.Held.{Source, Holding, source_of, without_register, held_behind, held_behind_all}

-- ---- what is loaded

-- of these temporaries, those whose word isn't known to be elsewhere
abbrev pub if_unknown : Option Source → ℕ → List ℕ → List ℕ
if_unknown None t ts = t ∷ ts
if_unknown (Some s) t ts = ts

abbrev pub unknown_in : List Holding → List ℕ → List ℕ
unknown_in hs [] = []
unknown_in hs (t ∷ ts) = if_unknown (source_of hs t) t (unknown_in hs ts)

-- by an operation; what goes over whole objects loads all that it uses
abbrev pub loads_of_operation : List Holding → Operation → List ℕ
loads_of_operation hs (Constant t w) = []
loads_of_operation hs (NullPointer t) = []
loads_of_operation hs (Move t x) = unknown_in hs (x ∷ [])
loads_of_operation hs (Narrow t x) = unknown_in hs (x ∷ [])
loads_of_operation hs (Apply o t x y) = unknown_in hs (x ∷ y ∷ [])
loads_of_operation hs (LocalAddress t out local) = []
loads_of_operation hs (OwnAddress t object) = []
loads_of_operation hs (DataAddress t object) = []
loads_of_operation hs (Offset t p cells bytes) = unknown_in hs (p ∷ [])
loads_of_operation hs (Element t p i cells bytes) = unknown_in hs (i ∷ p ∷ [])
loads_of_operation hs (Get t out local width) = []
loads_of_operation hs (Put out local width x) = unknown_in hs (x ∷ [])
loads_of_operation hs (Load t p d) = unknown_in hs (p ∷ [])
loads_of_operation hs (Store p d x) = unknown_in hs (p ∷ x ∷ [])
loads_of_operation hs (Copy to from layout) = to ∷ from ∷ []
loads_of_operation hs (Clear p layout count) = p ∷ []
loads_of_operation hs (IsNull t p) = unknown_in hs (p ∷ [])
loads_of_operation hs (SamePlace t p q) = unknown_in hs (p ∷ q ∷ [])
loads_of_operation hs (Getchar t) = []
loads_of_operation hs (Putchar t x) = unknown_in hs (x ∷ [])
loads_of_operation hs (HeapHandle t) = []
loads_of_operation hs (RegionNew t) = []
loads_of_operation hs (RegionAlloc t h n layout) = unknown_in hs (h ∷ n ∷ [])
loads_of_operation hs (RegionFree h) = unknown_in hs (h ∷ [])
loads_of_operation hs (UniqueAlloc t layout) = []
loads_of_operation hs (UniqueFree p) = unknown_in hs (p ∷ [])
loads_of_operation hs (KeyNew t) = []
loads_of_operation hs (KeyOpen k) = unknown_in hs (k ∷ [])
loads_of_operation hs (KeyClose k) = unknown_in hs (k ∷ [])
loads_of_operation hs (KeyFree k) = unknown_in hs (k ∷ [])

-- by what puts values into the registers behind one
abbrev pub loads_of_values : List Holding → ℕ → List ℕ → List ℕ
loads_of_values hs r [] = []
loads_of_values hs r (t ∷ ts) = unknown_in hs (t ∷ []) ++ loads_of_values (without_register (suc r) hs) (suc r) ts

-- by a statement, where locals have these registers, those to come these, and the data these offsets
abbrev mutual
  pub loads_in : (homes : List (List ℕ)) → (statics names : List ℕ) → List Holding → Statement → List ℕ
  loads_in homes statics names hs (Do operation) = loads_of_operation hs operation
  loads_in homes statics names hs (If t these those) = unknown_in hs (t ∷ []) ++ loads_of homes statics names hs these
      ++ loads_of homes statics (names_after_all these names) hs those
  loads_in homes statics names hs (While test t body) = loads_of homes statics names [] test
      ++ unknown_in (held_behind_all homes statics [] test) (t ∷ []) ++ loads_of homes statics (names_after_all test names) [] body
  loads_in homes statics names hs (Block locals body) = loads_of (homes_here locals names ∷ homes) statics (homes_after locals names) hs body
  loads_in homes statics names hs (Leave body) = loads_of homes statics names hs body
  loads_in homes statics names hs Break = []
  loads_in homes statics names hs Continue = []
  loads_in homes statics names hs (Call results f arguments) = unknown_in hs arguments
  loads_in homes statics names hs (Return values) = loads_of_values hs 9 values
  loads_in homes statics names hs (Raise kind) = []

  pub loads_of : (homes : List (List ℕ)) → (statics names : List ℕ) → List Holding → Statements → List ℕ
  loads_of homes statics names hs NoStatements = []
  loads_of homes statics names hs (MoreStatements s ss) = loads_in homes statics names hs s
      ++ loads_of homes statics (names_after s names) (held_behind homes statics hs s) ss
