-- What each cell of an object begins with, in the source and in Core.
use Rattle.std.proofs.Common.{◌≡◌, inl, ℕ, zero, suc, List, [], ◌∷◌, false, Option, Some, None, refl, sym, ap, ◌∙◌, subst, arith}
use Rattle.std.specs.Prelude.{map, slice_get}
use Rattle.std.proofs.lemmas.Option.{none-some}
use Rattle.source_meaning.specs.Shapes.{MayBeNull, NeverNull}
use Rattle.source_meaning.specs.Shapes.{
  Shape,
  IntShape,
  UnsignedShape,
  CharShape,
  VoidShape,
  ThinShape,
  FatShape,
  HandleShape,
  KeyShape,
  StructShape,
  UnionShape,
  ArrayShape,
  Layout,
}
use Rattle.source_meaning.specs.Memory as source
use Rattle.source_meaning.specs.Memory.{AsInt, AsUnsigned, AsChar, Integer, Thin, Scalar, Holds, Cell, Wide}
use Rattle.source_meaning.specs.Steps.{World}
use Rattle.core_meaning.specs.Memory as core
use Rattle.core_meaning.specs.Memory.{Content}
use Rattle.source_lowering.specs.Layouts.{cell_pieces}
use Rattle.source_lowering.specs.Simulation.{Shown}
use Rattle.source_lowering.proofs.values.Integers.{IsValueShape}
use Rattle.source_lowering.proofs.expressions.Making.{cell_with}
use Rattle.source_lowering.specs.ObjectCells.{IsCellShape, AreCellShapes}
use Rattle.source_lowering.proofs.memory.CellParts.{firsts_of}
use Rattle.source_meaning.specs.Values.{is_lent}

-- no cell is lent at first
pub first_free : (s : Shape) → is_lent (source.first_content s) ≡ false
first_free IntShape = refl
first_free UnsignedShape = refl
first_free CharShape = refl
first_free VoidShape = refl
first_free (ThinShape (MayBeNull count) owner to) = refl
first_free (ThinShape (NeverNull count) owner to) = refl
first_free (FatShape to) = refl
first_free HandleShape = refl
first_free KeyShape = refl
first_free (StructShape tag) = refl
first_free (UnionShape tag) = refl
first_free (ArrayShape count of) = refl

-- what each cell begins with is shown by what its parts do
pub first_shown : (w : World) (m : source.Memory) (c : core.Memory) (s : Shape) (v : Scalar) → IsValueShape s → source.first_content s ≡ Holds v
    → Shown w m c s v (firsts_of (cell_pieces w.unions s))
first_shown w m c s v h e = by s h e
  where
    held : (u : Scalar) → Holds u ≡ Holds v → u ≡ v
    held u f = cc f

    none : (b : source.Content) → b ≡ source.Blank → b ≡ Holds v → ⊥
    none b f g = cc (f, g)

    by : (z : Shape) → IsValueShape z → source.first_content z ≡ Holds v → Shown w m c z v (firsts_of (cell_pieces w.unions z))
    by IntShape h e = record { word = 0; value = sym (held (Integer AsInt 0) e); shown = refl; small = omega arith }
    by UnsignedShape h e = record { word = 0; value = sym (held (Integer AsUnsigned 0) e); shown = refl; small = omega arith }
    by CharShape h e = record { word = 0; value = sym (held (Integer AsChar 0) e); shown = refl; small = omega arith }
    by (ThinShape (MayBeNull count) owner to) h e = inl (record { allowed = refl; value = sym (held (Thin None) e); shown = refl })
    by (ThinShape (NeverNull count) owner to) h e = absurd (none source.Blank refl e)
    by VoidShape h e = absurd h
    by (FatShape to) h e = inl (record { word = 0; value = sym (held (Wide None) e); shown = refl; small = omega arith })
    by HandleShape h e = absurd (none source.Blank refl e)
    by KeyShape h e = absurd (none source.Blank refl e)
    by (StructShape tag) h e = absurd h
    by (UnionShape tag) h e = absurd h
    by (ArrayShape count of) h e = absurd h

-- a union holds nothing at first
holds_value : (unions : List Layout) (s : Shape) (v : Scalar) → IsCellShape unions s → source.first_content s ≡ Holds v → IsValueShape s
holds_value unions IntShape v h e = tt
holds_value unions UnsignedShape v h e = tt
holds_value unions CharShape v h e = tt
holds_value unions VoidShape v h e = h
holds_value unions (ThinShape b owner to) v h e = h
holds_value unions (FatShape to) v h e = h
holds_value unions HandleShape v h e = tt
holds_value unions KeyShape v h e = tt
holds_value unions (StructShape tag) v h e = h
holds_value unions (UnionShape tag) v h e = absurd (none source.Blank refl e)
  where
    none : (b : source.Content) → b ≡ source.Blank → b ≡ Holds v → ⊥
    none b f g = cc (f, g)
holds_value unions (ArrayShape count of) v h e = h

-- a cell that holds something at first
pub record IsFirstCell (xs : List Shape) (cell : ℕ) (of : Shape) (v : Scalar) : Type 0 where
  pub here : slice_get xs cell ≡ Some of
  pub holds : source.first_content of ≡ Holds v
  pub is_value : IsValueShape of

pub first_cell_is : (unions : List Layout) (xs : List Shape) (cell : ℕ) (of : Shape) (v : Scalar) → AreCellShapes unions xs
    → slice_get (map (cell_with source.first_content) xs) cell ≡ Some (record { shape = of; content = Holds v }) → IsFirstCell xs cell of v
first_cell_is unions [] cell of v h e = absurd (none-some _ e)
first_cell_is unions (x ∷ xs) zero of v h e =
    let same : x ≡ of = shape_is x of v (source.first_content x) e in
    let holds = ap source.first_content (sym same) ∙ content_is x of v (source.first_content x) e in
    record { here = ap (λ z. Some z) same; holds = holds; is_value = holds_value unions of v (subst (IsCellShape unions) same h.0) holds }
  where
    of_cell : Shape → source.Content → Cell
    of_cell s y = record { shape = s; content = y }

    shape_in : Shape → Option Cell → Shape
    shape_in s None = s
    shape_in s (Some c) = c.shape

    content_in : source.Content → Option Cell → source.Content
    content_in y None = y
    content_in y (Some c) = c.content

    shape_is : (s z : Shape) (u : Scalar) (y : source.Content) → Some (of_cell s y) ≡ Some (of_cell z (Holds u)) → s ≡ z
    shape_is s z u y f = ap (shape_in s) f

    content_is : (s z : Shape) (u : Scalar) (y : source.Content) → Some (of_cell s y) ≡ Some (of_cell z (Holds u)) → y ≡ Holds u
    content_is s z u y f = ap (content_in y) f
first_cell_is unions (x ∷ xs) (suc cell) of v h e =
    let more = first_cell_is unions xs cell of v h.1 e in
    record { here = more.here; holds = more.holds; is_value = more.is_value }
