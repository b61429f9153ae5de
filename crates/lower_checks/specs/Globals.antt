-- View of code: what a global of one word begins with: a number, or a pointer.
use Rattle.cyc_tree.specs.Tree as tree
use Rattle.cyc_tree.specs.Tree.{Initial}

-- neither a string nor `NULL`
abbrev pub IsNumber : tree.Constant → Type 0
IsNumber (tree.Number at value suffix) = Unit {0}
IsNumber (tree.Negative at value suffix) = Unit {0}
IsNumber (tree.Character at byte) = Unit {0}
IsNumber (tree.Text at bytes) = ⊥
IsNumber (tree.Null at) = ⊥

-- a string or `NULL`
abbrev pub IsPointer : tree.Constant → Type 0
IsPointer (tree.Text at bytes) = Unit {0}
IsPointer (tree.Null at) = Unit {0}
IsPointer _ = ⊥

-- 0, or a number
abbrev pub BeginsWithNumber : Initial → Type 0
BeginsWithNumber (Initial.Given c) = IsNumber c
BeginsWithNumber _ = Unit {0}

-- NULL, or a string
abbrev pub BeginsWithPointer : Initial → Type 0
BeginsWithPointer (Initial.Given c) = IsPointer c
BeginsWithPointer _ = Unit {0}
