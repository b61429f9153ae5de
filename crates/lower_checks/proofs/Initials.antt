-- What gives a local that is a word its first value.
use Rattle.std.proofs.Common.{◌≡◌, ℕ, refl, List, ◌++◌}
use Rattle.cyc_tree.specs.Tree.{Expression}
use Rattle.source_meaning.specs.Shapes.{
  Shape,
  IntShape,
  UnsignedShape,
  CharShape,
  VoidShape,
  ThinShape,
  FatShape,
  HandleShape,
  KeyShape,
  StructShape,
  UnionShape,
  ArrayShape,
}
use Rattle.source_meaning.specs.Steps.{World}
use Rattle.source_lowering.specs.Lowered.{Named, conversion_code, expression_code, put_local, static_shape}
use Rattle.source_lowering.specs.Lowerable.{IsWordShape}
use Rattle.source_lowering.specs.Programs.{value_code}

pub word_code : (w : World) (names : List Named) (s : Shape) (e : Expression) (d index own : ℕ) → IsWordShape s → value_code w names s e d index own
    ≡ expression_code w names e d own ++ (conversion_code w s (static_shape w names e) d ++ put_local s d 0 index)
word_code w names IntShape e d index own h = refl
word_code w names UnsignedShape e d index own h = refl
word_code w names CharShape e d index own h = refl
word_code w names VoidShape e d index own h = absurd h
word_code w names (ThinShape bound owner to) e d index own h = refl
word_code w names (FatShape to) e d index own h = absurd h
word_code w names HandleShape e d index own h = refl
word_code w names KeyShape e d index own h = refl
word_code w names (StructShape tag) e d index own h = absurd h
word_code w names (UnionShape tag) e d index own h = absurd h
word_code w names (ArrayShape count of) e d index own h = absurd h
