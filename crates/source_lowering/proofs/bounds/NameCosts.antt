-- What the code takes that reads a thin pointer or a key by its name, and an alias of a pointer.
use Rattle.std.proofs.Common.{ℕ, suc, ◌≤◌, List, ◌++◌, Option, Some, None, arith}
use Rattle.cyc_tree.specs.Tree.{Expression, Name}
use Rattle.source_meaning.specs.Shapes.{MayBeNull, NeverNull}
use Rattle.source_meaning.specs.Places.{bound_to}
use Rattle.source_meaning.specs.Steps.{Entity, Variable, World}
use Rattle.source_meaning.specs.Shapes.{
  Shape,
  IntShape,
  UnsignedShape,
  CharShape,
  VoidShape,
  ThinShape,
  FatShape,
  HandleShape,
  KeyShape,
  StructShape,
  UnionShape,
  ArrayShape,
}
use Rattle.core_meaning.specs.Core as core
use Rattle.core_meaning.specs.Core.{Do, Narrow, Put}
use Rattle.source_lowering.specs.Members.{distance, valued}
use Rattle.source_lowering.specs.Lowered.{Home, InBlock, Named, conversion_code, get_by, get_home, put_local, get_local, load_global, local_named}
use Rattle.source_lowering.specs.Lowered.{get_code, shape_by, static_shape}
use Rattle.source_lowering.specs.Programs.{value_code}
use Rattle.source_lowering.specs.Lowerable.{IsThinShape, IsWordShape}
use Rattle.source_lowering.proofs.values.Integers.{IsMovedShape, thin_moved}
use Rattle.source_lowering.proofs.bounds.Costs.{Costs, both_cost, does_few, does_one, does_then, nothing}
use Rattle.source_lowering.proofs.bounds.ValueCosts.{check_costs}

-- a thin pointer or a key is read into the next temporary
moved_get_costs : (t p d out index : ℕ) (s : Shape) → IsMovedShape (valued s) → suc d ≤ t → Costs t p 0 2 (get_local s d out index)
moved_get_costs t p d out index (ThinShape b o to) h below = does_few t p 2 (core.Get d out index 4) below (omega arith)
moved_get_costs t p d out index IntShape h below = absurd h
moved_get_costs t p d out index UnsignedShape h below = absurd h
moved_get_costs t p d out index CharShape h below = absurd h
moved_get_costs t p d out index VoidShape h below = absurd h
moved_get_costs t p d out index (FatShape to) h below = absurd h
moved_get_costs t p d out index HandleShape h below = absurd h
moved_get_costs t p d out index KeyShape h below = does_few t p 2 (core.Get d out index 4) below (omega arith)
moved_get_costs t p d out index (StructShape tag) h below = absurd h
moved_get_costs t p d out index (UnionShape tag) h below = absurd h
moved_get_costs t p d out index (ArrayShape count of) h below = absurd h

moved_load_costs : (t p d object : ℕ) (s : Shape) → IsMovedShape (valued s) → suc d ≤ t → Costs t p 0 2 (load_global s d object)
moved_load_costs t p d object (ThinShape b o to) h below =
    does_then t p 1 (core.DataAddress d object) _ below (does_one t p (core.Load d d (distance 0 0 4)) (omega (arith, below)))
moved_load_costs t p d object IntShape h below = absurd h
moved_load_costs t p d object UnsignedShape h below = absurd h
moved_load_costs t p d object CharShape h below = absurd h
moved_load_costs t p d object VoidShape h below = absurd h
moved_load_costs t p d object (FatShape to) h below = absurd h
moved_load_costs t p d object HandleShape h below = absurd h
moved_load_costs t p d object KeyShape h below =
    does_then t p 1 (core.DataAddress d object) _ below (does_one t p (core.Load d d (distance 0 0 4)) (omega (arith, below)))
moved_load_costs t p d object (StructShape tag) h below = absurd h
moved_load_costs t p d object (UnionShape tag) h below = absurd h
moved_load_costs t p d object (ArrayShape count of) h below = absurd h

pub moved_costs : (t p d : ℕ) (l : Option Named) (e : Option Entity) → IsMovedShape (valued (shape_by l e)) → suc d ≤ t
    → Costs t p 0 2 (get_by l e d)
moved_costs t p d (Some l) e h below = by l.home
  where
    by : (home : Home) → Costs t p 0 2 (get_home l.shape home d)
    by (InBlock out index) = moved_get_costs t p d out index l.shape h below
moved_costs t p d None (Some (Variable s from)) h below = moved_load_costs t p d from.object s h below
moved_costs t p d None None h below = nothing t p 2

-- it is converted to a word, and that is stored
thin_converted : (w : World) (t p d : ℕ) (to from : Shape) → IsWordShape to → IsThinShape from → suc d ≤ t → Costs t p 0 4 (conversion_code w to from d)
thin_converted w t p d CharShape (ThinShape a o s) h g less = does_few t p 4 (Narrow d d) (omega (arith, less)) (omega arith)
thin_converted w t p d (ThinShape (MayBeNull count) q of) (ThinShape a o s) h g less = nothing t p 4
thin_converted w t p d (ThinShape (NeverNull count) q of) (ThinShape a o s) h g less = check_costs t p d (ThinShape a o s) less
thin_converted w t p d IntShape (ThinShape a o s) h g less = nothing t p 4
thin_converted w t p d UnsignedShape (ThinShape a o s) h g less = nothing t p 4
thin_converted w t p d HandleShape (ThinShape a o s) h g less = nothing t p 4
thin_converted w t p d (FatShape of) from h g less = absurd h
thin_converted w t p d VoidShape from h g less = absurd h
thin_converted w t p d KeyShape (ThinShape a o s) h g less = nothing t p 4
thin_converted w t p d (StructShape tag) from h g less = absurd h
thin_converted w t p d (UnionShape tag) from h g less = absurd h
thin_converted w t p d (ArrayShape count of) from h g less = absurd h
thin_converted w t p d to _ h g less = absurd g

word_put : (t p d index : ℕ) (s : Shape) → IsWordShape s → suc d ≤ t → Costs t p 0 1 (put_local s d 0 index)
word_put t p d index (FatShape of) h less = absurd h
word_put t p d index _ h less = does_one t p _ less

pub alias_costs : (w : World) (names : List Named) (name : Name) (s : Shape) (d index own t p : ℕ)
    → IsThinShape (static_shape w names (Expression.Variable name)) → IsWordShape s → suc d ≤ t
    → Costs t p 0 7 (value_code w names s (Expression.Variable name) d index own)
alias_costs w names name s d index own t p thin is_word h = by s is_word
  where
    word : (of : Shape) → IsWordShape of
        → Costs t p 0 7 (get_code w names name.text d ++ (conversion_code w of (static_shape w names (Expression.Variable name)) d ++ put_local of d 0 index))
    word of g =
        both_cost t p 0 2 0 5 (get_code w names name.text d) _
        (moved_costs t p d (local_named names name.text) (bound_to w.globals name.text)
        (thin_moved (static_shape w names (Expression.Variable name)) thin) (omega (arith, h)))
        (both_cost t p 0 4 0 1 (conversion_code w of (static_shape w names (Expression.Variable name)) d) (put_local of d 0 index)
        (thin_converted w t p d of (static_shape w names (Expression.Variable name)) g thin (omega (arith, h))) (word_put t p d index of g (omega (arith, h))))

    by : (of : Shape) → IsWordShape of → Costs t p 0 7 (value_code w names of (Expression.Variable name) d index own)
    by (StructShape tag) g = absurd g
    by (UnionShape tag) g = absurd g
    by of g = word of g
