-- A global that is taken begins with a number, if it is an integer, and with a pointer, if it is one.
use Rattle.std.proofs.Common.{ℕ, List}
use Rattle.cyc_tree.specs.Tree as tree
use Rattle.cyc_tree.specs.Tree.{Initial}
use Rattle.source_meaning.specs.Shapes.{Owner, Reach, Shape, IntShape, UnsignedShape, CharShape, VoidShape, ThinShape, FatShape, HandleShape, KeyShape}
use Rattle.source_meaning.specs.Shapes.{StructShape, UnionShape, ArrayShape}
use Rattle.source_lowering.specs.Taken.{IsIntegerShape, IsNullable, IsString, TakesConstant}
use Rattle.source_lowering.specs.Lowerable.{TakesGlobal}
use Rattle.lower_checks.specs.Globals.{BeginsWithNumber, BeginsWithPointer, IsNumber, IsPointer}

-- what holds of the three integers holds of each integer
integers : (P : Shape → Type 0) → P IntShape → P UnsignedShape → P CharShape → (s : Shape) → IsIntegerShape s → P s
integers P int unsigned char IntShape h = int
integers P int unsigned char UnsignedShape h = unsigned
integers P int unsigned char CharShape h = char
integers P int unsigned char VoidShape h = absurd h
integers P int unsigned char (ThinShape bound owner to) h = absurd h
integers P int unsigned char (FatShape to) h = absurd h
integers P int unsigned char HandleShape h = absurd h
integers P int unsigned char KeyShape h = absurd h
integers P int unsigned char (StructShape tag) h = absurd h
integers P int unsigned char (UnionShape tag) h = absurd h
integers P int unsigned char (ArrayShape count of) h = absurd h

-- none is a string or NULL
no_string : (bytes : List ℕ) (s : Shape) → IsIntegerShape s → IsString bytes s → ⊥
no_string bytes = integers (λ s. IsString bytes s → ⊥) (λ h. h) (λ h. h) (λ h. h)

never_null : (s : Shape) → IsIntegerShape s → IsNullable s → ⊥
never_null = integers (λ s. IsNullable s → ⊥) (λ h. h) (λ h. h) (λ h. h)

number_given : (s : Shape) (c : tree.Constant) → IsIntegerShape s → TakesConstant s c → IsNumber c
number_given s (tree.Number at value suffix) integer h = tt
number_given s (tree.Negative at value suffix) integer h = tt
number_given s (tree.Character at byte) integer h = tt
number_given s (tree.Text at bytes) integer h = no_string bytes s integer h
number_given s (tree.Null at) integer h = never_null s integer h

pub number_first : (s : Shape) (i : Initial) → IsIntegerShape s → TakesGlobal s i → BeginsWithNumber i
number_first s Initial.Unset integer h = tt
number_first s (Initial.Elements count) integer h = tt
number_first s (Initial.Given c) integer h = number_given s c integer h

pointer_given : (bound : Reach) (owner : Owner) (to : Shape) (c : tree.Constant) → TakesConstant (ThinShape bound owner to) c → IsPointer c
pointer_given bound owner to (tree.Number at value suffix) h = h
pointer_given bound owner to (tree.Negative at value suffix) h = h
pointer_given bound owner to (tree.Character at byte) h = h
pointer_given bound owner to (tree.Text at bytes) h = tt
pointer_given bound owner to (tree.Null at) h = tt

pub pointer_first : (bound : Reach) (owner : Owner) (to : Shape) (i : Initial) → TakesGlobal (ThinShape bound owner to) i → BeginsWithPointer i
pointer_first bound owner to Initial.Unset h = tt
pointer_first bound owner to (Initial.Elements count) h = tt
pointer_first bound owner to (Initial.Given c) h = pointer_given bound owner to c h
