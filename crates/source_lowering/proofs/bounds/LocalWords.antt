-- How many words objects of given shapes take.
use Rattle.std.proofs.Common.{◌≡◌, ℕ, ◌+◌, ◌*◌, List, [], ◌∷◌, refl, ap, ◌∙◌, arith}
use Rattle.source_meaning.specs.Shapes.{
  Shape,
  IntShape,
  UnsignedShape,
  CharShape,
  VoidShape,
  ThinShape,
  FatShape,
  HandleShape,
  KeyShape,
  StructShape,
  UnionShape,
  ArrayShape,
}
use Rattle.source_meaning.specs.Steps.{World}
use Rattle.source_lowering.specs.Layouts.{extent_of, local_of}
use Rattle.source_lowering.specs.Members.{words_in}
use Rattle.source_lowering.specs.Lowerable.{IsWordShape, IsValueShape}
use Rattle.source_lowering.specs.Programs.{locals_of}
use Rattle.core_meaning.specs.Bounds.{words_of, local_words}
use Rattle.source_lowering.specs.Bounds.{shape_words}

-- the words of objects of these shapes
abbrev pub shapes_words : World → List Shape → ℕ
shapes_words w [] = 0
shapes_words w (s ∷ ss) = shape_words w s + shapes_words w ss

-- a local has all bytes of its shape
local_bytes : (w : World) (s : Shape) → (local_of w s).count * (local_of w s).layout.bytes ≡ (extent_of w s).size
local_bytes w IntShape = refl
local_bytes w UnsignedShape = refl
local_bytes w CharShape = refl
local_bytes w VoidShape = refl
local_bytes w (ThinShape b owner to) = refl
local_bytes w (FatShape to) = refl
local_bytes w HandleShape = refl
local_bytes w KeyShape = refl
local_bytes w (StructShape tag) = omega arith
local_bytes w (UnionShape tag) = omega arith
local_bytes w (ArrayShape count of) = refl

pub many_words : (w : World) (ss : List Shape) → local_words (locals_of w ss) ≡ shapes_words w ss
many_words w [] = refl
many_words w (s ∷ ss) =
    ap (λ z. words_of z + local_words (locals_of w ss)) (local_bytes w s) ∙ ap (λ z. shape_words w s + z) (many_words w ss)

-- a value takes as many as it has temporaries
pub words_same : (w : World) (s : Shape) → IsValueShape s → shape_words w s ≡ words_in s
words_same w IntShape h = refl
words_same w UnsignedShape h = refl
words_same w CharShape h = refl
words_same w (ThinShape b owner to) h = refl
words_same w (FatShape to) h = refl
words_same w HandleShape h = refl
words_same w KeyShape h = refl
words_same w _ h = absurd h

-- a word takes one
pub word_words : (w : World) (s : Shape) → IsWordShape s → shape_words w s ≡ 1
word_words w IntShape h = refl
word_words w UnsignedShape h = refl
word_words w CharShape h = refl
word_words w VoidShape h = absurd h
word_words w (ThinShape b owner to) h = refl
word_words w (FatShape to) h = absurd h
word_words w HandleShape h = refl
word_words w KeyShape h = refl
word_words w (StructShape tag) h = absurd h
word_words w (UnionShape tag) h = absurd h
word_words w (ArrayShape count of) h = absurd h
