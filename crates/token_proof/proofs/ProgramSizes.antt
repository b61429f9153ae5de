-- A program has at least the tokens that its functions are large.
use Rattle.std.proofs.Common.{◌≡◌, ◌+◌, ◌≤◌, List, [], ◌∷◌, length, map, arith}
use Rattle.cyc_tree.specs.Tree as tree
use Rattle.cyc_tree.specs.Tree.{Member, Item, Program}
use Rattle.source_grammar.specs.Phrases.{Tokens, Each}
use Rattle.source_grammar.specs.Grammar.{IsItem, IsProgram}
use Rattle.source_grammar.proofs.Shorter.{none_taken, Takes}
use Rattle.source_grammar.proofs.ItemTokens.{body_stands, struct_size, union_size, global_shorter}
use Rattle.source_meaning.specs.Shapes.{part_of}
use Rattle.source_meaning.specs.Programs.{functions_of, world_of}
use Rattle.source_lowering.specs.Bounds.{item_size, routines_size}
use Rattle.token_proof.proofs.StatementSizes.{items_sized}

-- ---- items

-- its name, the four signs around the parameters and the body, the parameters, and the body
function_size : (f : tree.Function) (from to : Tokens) → IsItem (tree.FunctionItem f) from to
    → Takes (5 + (length f.parameters + item_size f.body)) from to
function_size f from to is =
    let (before, behind, does, above, below) = body_stands f from to is in
    omega (arith, above, items_sized f.body before behind does, below)

-- ---- programs

parts_length : (ms : List Member) → length (map part_of ms) ≡ length ms
parts_length [] = omega arith
parts_length (m ∷ ms) = let rest = parts_length ms in omega (arith, rest)

items_size : (items : List Item) (from to : Tokens) → Each IsItem items from to → Takes (routines_size (functions_of items)) from to
items_size [] from to is = omega (arith, none_taken is)
items_size (tree.StructItem s ∷ items) from to (a, is, are) = omega (arith, struct_size s from a is, items_size items a to are)
items_size (tree.UnionItem u ∷ items) from to (a, is, are) = omega (arith, union_size u from a is, items_size items a to are)
items_size (tree.GlobalItem g ∷ items) from to (a, is, are) = omega (arith, global_shorter g from a is, items_size items a to are)
items_size (tree.FunctionItem f ∷ items) from to (a, is, are) =
    omega (arith, function_size f from a is, parts_length f.parameters, items_size items a to are)

pub tokens_pay : (p : Program) (tokens : Tokens) → IsProgram p tokens → routines_size (world_of p).functions ≤ length tokens
tokens_pay [] tokens is = absurd is
tokens_pay (item ∷ items) tokens are = let all = items_size (item ∷ items) tokens [] are in omega (arith, all)
