-- In which order the locals of blocks and the indices of arrays are declared, by their numbers.
use Rattle.std.proofs.Common.{◌≡◌, [], ◌∷◌, refl}
use Rattle.cyc_tree.specs.Tree as tree
use Rattle.cyc_tree.specs.Tree.{BlockItems, Case, Clauses, Declaration, Default, Expression, Index, Initializer, MoreClauses, NoClauses, NoItems, NoSuffixes}
use Rattle.cyc_tree.specs.Tree.{Name, Statement, TypeName}
use Rattle.source_meaning.proofs.Trees.{named, number, typed, variable, ◌▸◌, ◌▹◌}
use Rattle.source_lowering.specs.Order.{declared_in, expression_order, indices_in, items_order, statement_order}
use Rattle.source_lowering.proofs.samples.MadeSamples.{array, at_index, declared, fat, plus}

-- int ..;
abbrev integer : Name → Declaration
integer name = tree.Local (typed tree.Int []) name Initializer.Unset

-- { int b; }
abbrev inner_block : Statement
inner_block = Statement.Block 0 (integer (named "b") ▹ NoItems)

-- int a; { int b; } int c;
abbrev around_a_block : BlockItems
around_a_block = integer (named "a") ▹ inner_block ▸ integer (named "c") ▹ NoItems

-- behind one parameter: the block's own locals are 1 and 2, and the one within it is 3
pub locals_around_a_block : items_order 1 3 around_a_block ≡ 1 ∷ 3 ∷ 2 ∷ []
locals_around_a_block = refl

-- if (x) { int a; { int b; } int c; } else { int b; } while (x) { int b; } int d;
abbrev ways : BlockItems
ways =
    Statement.IfElse 0 (variable "x") (Statement.Block 0 around_a_block) inner_block ▸
    Statement.While 0 (variable "x") inner_block ▸
    integer (named "d") ▹
    NoItems

pub locals_of_ways : items_order 0 1 ways ≡ 1 ∷ 3 ∷ 2 ∷ 4 ∷ 5 ∷ 0 ∷ []
locals_of_ways = refl

-- case {.n = x}: int a; { int b; } int c; default: int d; case {.c = y}: { int b; }
abbrev clauses : Clauses
clauses =
    MoreClauses 0 (Case (named "n") (named "x")) around_a_block
    (MoreClauses 0 Default (integer (named "d") ▹ NoItems)
    (MoreClauses 0 (Case (named "c") (named "y")) (inner_block ▸ NoItems)
    NoClauses))

-- a clause's name comes before its locals, and those of the `default` are numbered behind all others
pub locals_of_clauses : statement_order 0 (Statement.Switch 0 (variable "u") clauses) ≡ 0 ∷ 1 ∷ 3 ∷ 2 ∷ 6 ∷ 4 ∷ 5 ∷ []
locals_of_clauses = refl

pub all_of_clauses : declared_in (Statement.Switch 0 (variable "u") clauses) ≡ 7
all_of_clauses = refl

-- ---- arrays that are made

abbrev to_unsigned : TypeName
to_unsigned = typed tree.Unsigned fat

-- new {for i < 3 : i}
abbrev counted : Expression
counted = array (named "i") (number 3) (variable "i")

-- unsigned ?p = new {for i < 3 : i}; int x;
abbrev made_before : BlockItems
made_before = declared to_unsigned (named "p") counted ▹ integer (named "x") ▹ NoItems

-- the block's own locals are 0 and 1, and the index between them is 2
pub locals_around_an_array : items_order 0 2 made_before ≡ 0 ∷ 2 ∷ 1 ∷ []
locals_around_an_array = refl

-- new {for i < numelts(new {for j < 3 : j}) : new {for k < i : k}}
abbrev nested : Expression
nested = array (named "i") (Expression.NumElts 0 (array (named "j") (number 3) (variable "j"))) (array (named "k") (variable "i") (variable "k"))

-- first the array's own, which is numbered behind that of the count, then that of the count, and then that of its elements
pub indices_of_nested : expression_order 5 nested ≡ 6 ∷ 5 ∷ 7 ∷ []
indices_of_nested = refl

pub all_of_nested : indices_in nested ≡ 3
all_of_nested = refl

-- (new {for i < 3 : i})[(new {for i < 3 : i})[0]] + (new {for i < 3 : i})[1]: the subscript's comes first in the code
abbrev subscripts : Expression
subscripts = plus (at_index counted (at_index counted (number 0))) (at_index counted (number 1))

pub indices_of_subscripts : expression_order 0 subscripts ≡ 1 ∷ 0 ∷ 2 ∷ []
indices_of_subscripts = refl

-- a[(new {for i < 3 : i})[0]] = (new {for i < 3 : i})[1]: the value's comes first in the code
abbrev assigned : Expression
assigned = Expression.Assign (Expression.Suffixed (variable "a") (Index (at_index counted (number 0)) NoSuffixes)) (at_index counted (number 1))

pub indices_of_assigned : expression_order 0 assigned ≡ 1 ∷ 0 ∷ []
indices_of_assigned = refl

-- if ((new {for i < 3 : i})[0]) { int b; }
pub locals_of_condition : statement_order 0 (Statement.If 0 (at_index counted (number 0)) inner_block) ≡ 0 ∷ 1 ∷ []
locals_of_condition = refl
