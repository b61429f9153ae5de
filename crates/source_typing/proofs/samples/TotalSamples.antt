-- Globals and strings together have at most 1,048,576 bytes.
use Rattle.std.proofs.Common.{◌≡◌, refl, zero, suc, false, Some, None, [], ◌∷◌}
use Rattle.std.specs.Prelude.{ℕ, ◌+◌, ◌*◌, List, ◌++◌, replicate}
use Rattle.cyc_tree.specs.Tree as tree
use Rattle.cyc_tree.specs.Tree.{Expression, Statement, NoItems, Execute, Constant, Initial, Item, TypeName}
use Rattle.cyc_tree.specs.declared.name.Sign.TheVariants as sign
use Rattle.source_meaning.proofs.Trees.{pointer}
use Rattle.source_typing.specs.Faults.{Fault, fault, size_rule}
use Rattle.source_typing.specs.Scope.{at_item}
use Rattle.source_typing.specs.Globals.{item_statics, total_faults}
use Rattle.source_typing.specs.Answers.{first_fault}
use Rattle.source_typing.proofs.samples.SampleTrees.{name_at, type_at, int_at, number, returns, global, main_at, main_returns}

-- So many arrays of 4,096 bytes, 20 bytes of text for each, the first one last. Each has a name of its own.
abbrev arrays : ℕ → List Item
arrays zero = []
arrays (suc n) = arrays n ++ tree.GlobalItem (global (int_at (n * 20)) (record { at = n * 20 + 4; text = n ∷ [] }) (Initial.Elements 1024)) ∷ []

-- 256 arrays are 1,048,576 bytes
total_fits : first_fault (arrays 256 ++ main_returns 6000 ∷ []) ≡ None
total_fits = refl

-- one more passes the limit, at its first token
total_passed : first_fault (arrays 257 ++ main_returns 6000 ∷ []) ≡ Some (fault size_rule 5120)
total_passed = refl

-- the faults of an item after 1,048,544 bytes, which leave 32
abbrev after_others : Item → List Fault
after_others item = total_faults 1048544 (item_statics (at_item false [] 0) item)

abbrev fat_char : ℕ → TypeName
fat_char at = type_at at tree.Char (pointer sign.Fat None ∷ [])

-- a global counts at its item's first token, before the string that begins it: 12 bytes as 16, and the string with its final 0
abbrev begun : Constant → Item
begun c = tree.GlobalItem (global (fat_char 20) (name_at 27 "s") (Initial.Given c))

abbrev text_of : ℕ → Constant
text_of bytes = Constant.Text 31 (replicate bytes 97)

string_fits : after_others (begun (text_of 15)) ≡ []
string_fits = refl

string_passed : after_others (begun (text_of 16)) ≡ fault size_rule 31 ∷ []
string_passed = refl

item_passed : total_faults 1048568 (item_statics (at_item false [] 0) (begun (text_of 1))) ≡ fault size_rule 20 ∷ []
item_passed = refl

-- a global that has a fault counts as nothing, and its string for itself
at_fault : item_statics (at_item false [] 0) (tree.GlobalItem (global (int_at 20) (name_at 27 "s") (Initial.Given (text_of 8)))) ≡ (20, 0) ∷ (31, 16) ∷ []
at_fault = refl

-- strings in a function count wherever they stand, each for itself
abbrev said : ℕ → Item
said bytes =
    main_at 40 (Execute (returns 53 (number 60 0)) (Execute (Statement.Run (Expression.Text 63 (replicate bytes 97))) (Execute
    (Statement.Run (Expression.Text 90 (replicate bytes 97))) NoItems))) 120

said_fits : after_others (said 15) ≡ []
said_fits = refl

said_passed : after_others (said 16) ≡ fault size_rule 90 ∷ []
said_passed = refl
