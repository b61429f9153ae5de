-- Homes of some functions, in the order of the text.
use Rattle.std.proofs.Common.{◌≡◌, ℕ, List, [], ◌∷◌, refl}
use Rattle.core_meaning.specs.Memory.{Word}
use Rattle.core_meaning.specs.Core.{Local, LocalAddress, Do, Block, NoStatements, MoreStatements, Statements, Function}
use Rattle.core_meaning.specs.Layouts.{one_part}
use Rattle.core_lines.specs.Homes.{homes_in}

abbrev number : Local
number = record { layout = one_part 4 (Word 0); count = 1 }

abbrev letter : Local
letter = record { layout = one_part 1 (Word 0); count = 1 }

abbrev function_of : List ℕ → Statements → Function
function_of order body = record { parameters = 0; temporaries = 1; passed = 0; own = []; order = order; body = body }

-- `int f(int a, int b) { int c; int *p = &c; char d; .. }`
abbrev first : Function
first = function_of (0 ∷ 1 ∷ 2 ∷ 3 ∷ 4 ∷ [])
    (MoreStatements (Block (number ∷ number ∷ number ∷ number ∷ letter ∷ []) (MoreStatements (Do (LocalAddress 0 0 2)) NoStatements)) NoStatements)

first_homes : homes_in first ≡ 8 ∷ 9 ∷ 0 ∷ 18 ∷ 19 ∷ []
first_homes = refl

-- `{ int a; { int b; } int c; }`: a and c are locals of one block, and b stands between them in the text
abbrev second : Function
second = function_of (0 ∷ 2 ∷ 1 ∷ [])
    (MoreStatements (Block (number ∷ number ∷ []) (MoreStatements (Block (number ∷ []) NoStatements) NoStatements)) NoStatements)

second_homes : homes_in second ≡ 8 ∷ 18 ∷ 9 ∷ []
second_homes = refl
