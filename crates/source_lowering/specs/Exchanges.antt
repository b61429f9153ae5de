-- Believed: the code of `a :=: b`: how each side is reached, and how the values of both are exchanged.
use Rattle.std.specs.Prelude.{ℕ, zero, suc, ◌+◌, Option, Some, None, List, [], ◌∷◌, ◌++◌, length}
use Rattle.cyc_tree.specs.Tree.{Expression}
use Rattle.source_meaning.specs.Shapes.{Shape, FatShape, StructShape, UnionShape, ArrayShape}
use Rattle.source_meaning.specs.Steps.{World}
use Rattle.core_meaning.specs.Core.{Do, Get, Load, Move, Put, Statement, Store}
use Rattle.source_lowering.specs.Layouts.{cell_pieces}
use Rattle.source_lowering.specs.Members.{loads_code, part_at, stores_code, width_of, words_in}
use Rattle.source_lowering.specs.Naming.{Home, InBlock, Named, local_named}

-- ---- sides

-- How code reaches a side of an exchange. A local of one word is reached by its name, so that nothing takes its address: how many blocks out it is, its number
-- and
-- its bytes. All else is reached by a pointer to its place.
pub data Side : Type 0 where
  ByName : (out index width : ℕ) → Side
  ByPlace : Side

-- a local that is a struct, a tagged union, a fat pointer or an array isn't one word
abbrev pub local_side : Shape → (out index : ℕ) → Side
local_side (StructShape tag) out index = ByPlace
local_side (UnionShape tag) out index = ByPlace
local_side (FatShape to) out index = ByPlace
local_side (ArrayShape count of) out index = ByPlace
local_side s out index = ByName out index (width_of s)

abbrev pub home_side : Shape → Home → Side
home_side s (InBlock out index) = local_side s out index

abbrev pub named_side : Option Named → Side
named_side (Some l) = home_side l.shape l.home
named_side None = ByPlace

-- the side that an expression is, in parentheses too
abbrev pub side_of : List Named → Expression → Side
side_of names (Expression.Variable name) = named_side (local_named names name.text)
side_of names (Expression.Grouped at inner) = side_of names inner
side_of names _ = ByPlace

-- the code of a pointer to its place, which a local of one word needs none of
abbrev pub side_code : Side → (pointer : List Statement) → List Statement
side_code (ByName out index width) pointer = []
side_code ByPlace pointer = pointer

-- its value of a shape comes into the temporaries from d on; the pointer to it, if it has one, is in p
abbrev pub side_read : Side → Shape → (p d : ℕ) → List Statement
side_read (ByName out index width) s p d = Do (Get d out index width) ∷ []
side_read ByPlace s p d = Do (Move d p) ∷ loads_code s d 0 0

-- it gets the value of a shape in the temporaries from d on
abbrev pub side_written : Side → Shape → (p d : ℕ) → List Statement
side_written (ByName out index width) s p d = Do (Put out index width d) ∷ []
side_written ByPlace s p d = stores_code s p d 0 0

-- ---- values

-- Pointers to the sides of a shape that are reached by one are in this temporary and the next one: both values are read behind them, and each side gets that of
-- the other one.
abbrev pub value_exchange : Side → Side → Shape → ℕ → List Statement
value_exchange a b s d =
    let e = d + 2 + words_in s in
    side_read a s d (d + 2) ++ (side_read b s (d + 1) e ++ (side_written a s d e ++ side_written b s (d + 1) (d + 2)))

-- ---- tagged unions

-- `count` words of the union to which p points, from the given one on, come into the temporaries from t on
abbrev pub words_read : (count word t p : ℕ) → List Statement
words_read zero word t p = []
words_read (suc count) word t p = Do (Load t p (part_at 0 0 word)) ∷ words_read count (suc word) (suc t) p

-- they are written there
abbrev pub words_written : (count word p t : ℕ) → List Statement
words_written zero word p t = []
words_written (suc count) word p t = Do (Store p (part_at 0 0 word) t) ∷ words_written count (suc word) p (suc t)

-- two tagged unions of n words are exchanged, both reached by pointers
abbrev pub union_exchange : (words d : ℕ) → List Statement
union_exchange n d =
    words_read n 0 (d + 2) d ++ (words_read n 0 (d + 2 + n) (d + 1) ++ (words_written n 0 d (d + 2 + n) ++ words_written n 0 (d + 1) (d + 2)))

-- behind the pointers to both sides
abbrev pub exchange_code : World → Side → Side → Shape → ℕ → List Statement
exchange_code w a b (UnionShape tag) d = union_exchange (length (cell_pieces w.unions (UnionShape tag))) d
exchange_code w a b s d = value_exchange a b s d
