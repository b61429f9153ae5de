-- The code of `a :=: b` names temporaries, and the locals of the blocks around it that it reaches by name.
use Rattle.std.proofs.Common.{ℕ, zero, suc, ◌+◌, List, Option, Some, None, length}
use Rattle.cyc_tree.specs.Tree.{Expression}
use Rattle.source_meaning.specs.Shapes.{Shape, FatShape, StructShape, UnionShape, ArrayShape}
use Rattle.source_meaning.specs.Steps.{World}
use Rattle.core_meaning.specs.Core.{Statement}
use Rattle.core_meaning.specs.Selectable.{IsLocal}
use Rattle.source_lowering.specs.Layouts.{cell_pieces}
use Rattle.source_lowering.specs.Lowered.{Home, InBlock, Named, local_named}
use Rattle.source_lowering.specs.Members.{words_in}
use Rattle.source_lowering.specs.Programs.{ByName, ByPlace, Side, exchange_code, home_side, local_side, named_side, side_code, side_of, side_read}
use Rattle.source_lowering.specs.Programs.{side_written, value_exchange, words_read, words_written}
use Rattle.selectable_proof.specs.Naming.{CodeNames}
use Rattle.selectable_proof.proofs.Naming.{both_name}
use Rattle.selectable_proof.proofs.Parts.{HomeLies, LocalLies, LocalsLie, local_lies}
use Rattle.selectable_proof.proofs.Pointers.{loads_names, stores_names}

-- ---- sides

-- a side that is reached by name is a local of the blocks around
abbrev pub SideLies : List ℕ → Side → Type 0
SideLies blocks (ByName out index width) = IsLocal blocks out index
SideLies blocks ByPlace = Unit {0}

local_side_lies : (blocks : List ℕ) (s : Shape) (out index : ℕ) → IsLocal blocks out index → SideLies blocks (local_side s out index)
local_side_lies blocks (StructShape tag) out index h = tt
local_side_lies blocks (UnionShape tag) out index h = tt
local_side_lies blocks (FatShape to) out index h = tt
local_side_lies blocks (ArrayShape count of) out index h = tt
local_side_lies blocks s out index h = h

home_side_lies : (blocks : List ℕ) (s : Shape) (home : Home) → HomeLies blocks home → SideLies blocks (home_side s home)
home_side_lies blocks s (InBlock out index) h = local_side_lies blocks s out index h

pub side_lies : (blocks : List ℕ) (names : List Named) → LocalsLie blocks names → (e : Expression) → SideLies blocks (side_of names e)
side_lies blocks names h (Expression.Variable name) = by (local_named names name.text) (local_lies blocks names name.text h)
  where
    by : (l : Option Named) → LocalLies blocks l → SideLies blocks (named_side l)
    by None lies = tt
    by (Some l) lies = home_side_lies blocks l.shape l.home lies
side_lies blocks names h (Expression.Grouped at inner) = side_lies blocks names h inner
side_lies blocks names h _ = tt

-- ---- exchanges

module _ (blocks : List ℕ) (own n : ℕ) where
  -- no pointer to such a local is made
  pub side_names : (a : Side) (pointer : List Statement) → CodeNames blocks own n pointer → CodeNames blocks own n (side_code a pointer)
  side_names (ByName out index width) pointer h = tt
  side_names ByPlace pointer h = h

  value_read : (a : Side) (s : Shape) (p d : ℕ) → SideLies blocks a → CodeNames blocks own n (side_read a s p d)
  value_read (ByName out index width) s p d h = (h, tt)
  value_read ByPlace s p d h = (tt, loads_names blocks own n s d 0 0)

  value_written : (a : Side) (s : Shape) (p d : ℕ) → SideLies blocks a → CodeNames blocks own n (side_written a s p d)
  value_written (ByName out index width) s p d h = (h, tt)
  value_written ByPlace s p d h = stores_names blocks own n s p d 0 0

  exchanged_names : (a b : Side) (s : Shape) (d : ℕ) → SideLies blocks a → SideLies blocks b → CodeNames blocks own n (value_exchange a b s d)
  exchanged_names a b s d h g =
      let e = d + 2 + words_in s in
      both_name blocks own n _ _ (value_read a s d (d + 2) h)
      (both_name blocks own n _ _ (value_read b s (d + 1) e g)
      (both_name blocks own n _ _ (value_written a s d e h) (value_written b s (d + 1) (d + 2) g)))

  read_names : (count word t p : ℕ) → CodeNames blocks own n (words_read count word t p)
  read_names zero word t p = tt
  read_names (suc count) word t p = (tt, read_names count (suc word) (suc t) p)

  written_names : (count word p t : ℕ) → CodeNames blocks own n (words_written count word p t)
  written_names zero word p t = tt
  written_names (suc count) word p t = (tt, written_names count (suc word) p (suc t))

  -- what two places hold is exchanged
  pub exchange_names : (w : World) (a b : Side) (s : Shape) (d : ℕ) → SideLies blocks a → SideLies blocks b
      → CodeNames blocks own n (exchange_code w a b s d)
  exchange_names w a b (UnionShape tag) d h g =
      let count = length (cell_pieces w.unions (UnionShape tag)) in
      both_name blocks own n _ _ (read_names count 0 (d + 2) d)
      (both_name blocks own n _ _ (read_names count 0 (d + 2 + count) (d + 1))
      (both_name blocks own n _ _ (written_names count 0 d (d + 2 + count)) (written_names count 0 (d + 1) (d + 2))))
  exchange_names w a b s d h g = exchanged_names a b s d h g
