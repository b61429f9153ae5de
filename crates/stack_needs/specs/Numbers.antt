-- Believed: the numbers of a program's functions, in their order.
use Rattle.std.specs.Prelude.{◌≡◌, ◌<◌, ◌≤◌, ℕ, suc, List, [], ◌∷◌, Option, Some, None, bytes_eq, codes, slice_index, if◌then◌else◌}
use Rattle.indexmap.specs.IndexMap.{get_by}
use Rattle.cyc_tree.specs.Tree.{Program}
use Rattle.source_meaning.specs.Calls.{function_of}
use Rattle.source_meaning.specs.Programs.{functions_of, world_of}
use Rattle.source_meaning.specs.Steps.{Routine, World}
use Rattle.source_meaning.specs.Callees.{items_callees}
use Rattle.stack_proof.specs.Fits.{Fits, ProgramFits}
use Rattle.stack_needs.specs.Graph.{IsRecursion, known, most_bytes}
use Rattle.stack_needs.specs.declared.numbers.Numbers as code

-- the number of the first function of a name, where they have numbers from k on
abbrev pub number_from : List Routine → ℕ → List ℕ → Option ℕ
number_from [] k name = None
number_from (f ∷ fs) k name = (if bytes_eq f.name name then Some k else number_from fs (suc k) name)

-- the number that a table has for a name
abbrev pub number_in : code.Numbers → List ℕ → Option ℕ
number_in numbers name = get_by (λ key. bytes_eq name key.now) numbers.by_name

-- with one number more, if there is one
abbrev pub with_number : Option ℕ → List ℕ → List ℕ
with_number None ks = ks
with_number (Some k) ks = k ∷ ks

-- the numbers of the functions that are named; what no function is called has none
abbrev pub numbers_among : List Routine → List (List ℕ) → List ℕ
numbers_among fs [] = []
numbers_among fs (name ∷ names) = with_number (number_from fs 0 name) (numbers_among fs names)

-- for each of the second functions, the first ones that it calls
abbrev pub calls_among : List Routine → List Routine → List (List ℕ)
calls_among fs [] = []
calls_among fs (g ∷ gs) = numbers_among fs (items_callees g.body) ∷ calls_among fs gs

-- a table has the numbers of these functions
abbrev pub AreNumbersOf : List Routine → code.Numbers → Type 0
AreNumbersOf fs numbers = (name : List ℕ) → number_in numbers name ≡ number_from fs 0 name

-- the frame of a number
abbrev pub frame_at : List ℕ → Option ℕ → ℕ
frame_at frames None = 0
frame_at frames (Some k) = slice_index frames k

-- how many bytes the frame of the function of a name may take, where these are those of all functions
abbrev pub frame_by : List Routine → List ℕ → List ℕ → ℕ
frame_by fs frames name = frame_at frames (number_from fs 0 name)

-- What is answered of the need of the function of a name: that it fits no number of bytes, as where a recursion is reached from it; or so many bytes and no
-- fewer, or that the greatest word is too few.
abbrev pub IsNeedOf : (List ℕ → ℕ) → World → List ℕ → Option ℕ → Type 0
IsNeedOf bound w name None = (g : Routine) → function_of w.functions name ≡ Some g → (n : ℕ) → Fits bound w g n → ⊥
IsNeedOf bound w name (Some n) =
    (g : Routine) → function_of w.functions name ≡ Some g
    → (n < most_bytes → Fits bound w g n) × ((m : ℕ) → Fits bound w g m → n ≤ m)

-- that of each function, in the order of the text
abbrev pub AreNeedsOf : (List ℕ → ℕ) → Program → List (Option ℕ) → Type 0
AreNeedsOf bound p needs =
    (name : List ℕ) (k : ℕ) → number_from (functions_of p) 0 name ≡ Some k → IsNeedOf bound (world_of p) name (known needs k)

-- the need of the function of a number, if there is one
abbrev pub need_at : Option ℕ → List (Option ℕ) → Option ℕ
need_at None needs = None
need_at (Some k) needs = known needs k

-- What is answered of a program's need, where `bound` says how many bytes a function's frame may take: that it fits nothing, as where a recursion is reached
-- from `main`; or so many bytes and no fewer, or that the greatest word is too few.
abbrev pub IsStackNeed : (List ℕ → ℕ) → Program → Option ℕ → Type 0
IsStackNeed bound p None = (n : ℕ) → ProgramFits bound p n → ⊥
IsStackNeed bound p (Some n) = (n < most_bytes → ProgramFits bound p n) × ((m : ℕ) → ProgramFits bound p m → n ≤ m)

-- a recursion that is reached from `main`
pub record IsRecursionOf (p : Program) (path : List ℕ) (again : ℕ) : Type 0 where
  pub main : ℕ
  pub found : number_from (functions_of p) 0 (codes "main") ≡ Some main
  pub recursion : IsRecursion (calls_among (functions_of p) (functions_of p)) main path again
