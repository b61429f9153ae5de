-- Which names of some functions may live in registers, and in which.
use Rattle.std.specs.Prelude.{ℕ, Bool, true, false, None, Some, List, [], ◌∷◌}
use Rattle.std.proofs.Common.{◌≡◌, refl}
use Rattle.std.specs.Prelude.{codes}
use Rattle.cyc_tree.specs.declared.expression.Prefix.{Prefix}
use Rattle.cyc_tree.specs.declared.expression.Prefix.TheVariants as prefix
use Rattle.cyc_tree.specs.declared.name.Sign.TheVariants as sign
use Rattle.cyc_tree.specs.Tree as tree
use Rattle.cyc_tree.specs.Tree.{Base, BlockItems, Case, Declaration, Default, Expression, Initializer, MoreClauses, Name, NoClauses, NoItems, Pointer}
use Rattle.cyc_tree.specs.Tree.{Statement}
use Rattle.source_meaning.specs.Shapes.{IntShape, FatShape, ThinShape, Part}
use Rattle.source_meaning.specs.Steps.{Routine, World}
use Rattle.source_meaning.specs.Programs.{world_of}
use Rattle.source_meaning.proofs.Trees.{named, number, pointer, typed, variable, ◌▸◌, ◌▹◌}
use Rattle.core_lines.specs.Homes.{home_registers}
use Rattle.home_proof.specs.Names.{expression_names, function_names, in_turn, item_names}

-- &..
abbrev address_of : Expression → Expression
address_of e = Expression.Prefixed 0 prefix.AddressOf e

abbrev local : Base → List Pointer → Name → Initializer → Declaration
local base pointers name initializer = tree.Local (typed base pointers) name initializer

abbrev thin : List Pointer
thin = pointer (sign.Nullable 1) None ∷ []

abbrev fat : List Pointer
fat = pointer sign.Fat None ∷ []

abbrev integer : Name → Declaration
integer name = local tree.Int [] name Initializer.Unset

abbrev run : Expression → Statement
run e = Statement.Run e

-- a program without items
abbrev empty : World
empty = world_of []

abbrev part : Name → Part
part name = record { name = name.text; shape = IntShape }

-- ---- `int f(int a, int b) { int c; int *p = &c; char d; .. }`

abbrev first : Routine
first = record {
  name = codes "f";
  parameters = part (named "a") ∷ part (named "b") ∷ [];
  result = IntShape;
  body =
      integer (named "c") ▹ local tree.Int thin (named "p") (Initializer.Value (address_of (variable "c"))) ▹
      local tree.Char [] (named "d") Initializer.Unset ▹ NoItems;
}

first_names : function_names empty first ≡ true ∷ true ∷ false ∷ true ∷ true ∷ []
first_names = refl

first_registers : in_turn (function_names empty first) home_registers ≡ 8 ∷ 9 ∷ 0 ∷ 18 ∷ 19 ∷ []
first_registers = refl

-- ---- an address of the name within, in parentheses, and not of the one around: int a; { int a; &(a); } a;

abbrev inner : Statement
inner = Statement.Block 0 (integer (named "a") ▹ run (address_of (Expression.Grouped 0 (variable "a"))) ▸ NoItems)

hidden : item_names empty [] 0 (integer (named "a") ▹ inner ▸ NoItems) ≡ true ∷ false ∷ []
hidden = refl

-- and behind it of the one around
around : item_names empty [] 0 (integer (named "a") ▹ inner ▸ run (address_of (variable "a")) ▸ NoItems) ≡ false ∷ false ∷ []
around = refl

-- an initializer stands before the scope of its local: int a; { int *a = &a; }
before : item_names empty [] 0
    (integer (named "a") ▹ Statement.Block 0 (local tree.Int thin (named "a") (Initializer.Value (address_of (variable "a"))) ▹ NoItems) ▸ NoItems)
    ≡ false ∷ true ∷ []
before = refl

-- ---- what is no word: a fat pointer, an array, a struct. What is: a handle and a key.

words : item_names empty [] 0
    (local tree.Int fat (named "f") Initializer.Unset ▹ local tree.Int [] (named "v") (Initializer.Elements 1)
    ▹ local (tree.Struct (named "S") []) [] (named "s") Initializer.Unset ▹ tree.Region 0 (tree.Heap 0) (named "h") ▹ tree.NewKey 0 (tree.Heap 0) (named "k")
    ▹ local tree.Unsigned [] (named "u") Initializer.Unset ▹ NoItems)
    ≡ false ∷ false ∷ false ∷ true ∷ true ∷ true ∷ []
words = refl

-- ---- the index of an array that is made, which hides what is around, but not in the count

-- new {for .. < .. : ..}
abbrev array : Name → Expression → Expression → Expression
array i n e = Expression.New 0 (tree.Array i n e)

-- new {for i < 3 : i}
abbrev counted : Expression
counted = array (named "i") (number 3) (variable "i")

indices : expression_names counted ≡ true ∷ []
indices = refl

-- int i; new {for i < 3 : &i};
inside : item_names empty [] 0 (integer (named "i") ▹ run (array (named "i") (number 3) (address_of (variable "i"))) ▸ NoItems) ≡ true ∷ false ∷ []
inside = refl

-- int i; new {for i < *&i : i};
of_count : item_names empty [] 0
    (integer (named "i") ▹ run (array (named "i") (Expression.Prefixed 0 prefix.Dereference (address_of (variable "i"))) (variable "i")) ▸ NoItems)
    ≡ false ∷ true ∷ []
of_count = refl

-- ---- the order of the text: a block's names stand where it does, and so does a `default`'s

-- int a; { int *b; } int ?c;
blocks : item_names empty [] 0
    (integer (named "a") ▹ Statement.Block 0 (integer (named "b") ▹ run (address_of (variable "b")) ▸ NoItems) ▸ local tree.Int fat
    (named "c") Initializer.Unset
    ▹ NoItems) ≡ true ∷ false ∷ false ∷ []
blocks = refl

-- ---- registers in turn: twelve of them

more_than_twelve : in_turn (true ∷ false ∷ true ∷ true ∷ true ∷ true ∷ true ∷ true ∷ true ∷ true ∷ true ∷ true ∷ true ∷ true ∷ []) home_registers
    ≡ 8 ∷ 0 ∷ 9 ∷ 18 ∷ 19 ∷ 20 ∷ 21 ∷ 22 ∷ 23 ∷ 24 ∷ 25 ∷ 26 ∷ 27 ∷ 0 ∷ []
more_than_twelve = refl
