-- What small programs fit, and what they don't: the largest of several callees beside a frame, what is never called, and recursions.
use Rattle.std.proofs.Common.{◌≡◌, ◌≤◌, ℕ, zero, suc, Some, List, [], ◌∷◌, refl, subst, arith}
use Rattle.std.specs.Prelude.{bytes_eq, codes, if◌then◌else◌}
use Rattle.std.specs.List.{AllByRecursion, Contains}
use Prim.Native.String.{String}
use Rattle.cyc_tree.specs.declared.expression.Operator.TheVariants.{Add}
use Rattle.cyc_tree.specs.Tree as tree
use Rattle.cyc_tree.specs.Tree.{Expression, Item, NoExpressions, MoreExpressions, NoLinks, MoreLinks, Program, Statement, NoItems}
use Rattle.source_meaning.specs.Shapes.{IntShape}
use Rattle.source_meaning.specs.Calls.{function_of}
use Rattle.source_meaning.specs.Programs.{world_of}
use Rattle.source_meaning.specs.Steps.{Routine, World}
use Rattle.source_meaning.proofs.Trees.{named, variable, number, typed, ◌▸◌, function}
use Rattle.stack_proof.specs.Fits.{Fits, Leaves, ProgramFits}

-- the frames of these samples: 16 bytes for `main`, 400 for `large`, 5,000 for `never`, and 30 for all others
abbrev frame : List ℕ → ℕ
frame name =
    if bytes_eq name (codes "main") then 16 else (if bytes_eq name (codes "large") then 400 else (if bytes_eq name (codes "never") then 5000 else 30))

abbrev called : String → Expression
called name = Expression.Call (named name) (MoreExpressions (number 0) NoExpressions)

-- int NAME(int a) { return VALUE; }
abbrev returning : String → Expression → Item
returning name value = tree.FunctionItem (function (typed tree.Int []) (named name) ((record { of = typed tree.Int []; name = named "a" }) ∷ [])
    ((Statement.Return 0 (Some value)) ▸ NoItems))

-- int main() { return VALUE; }
abbrev main_returning : Expression → Item
main_returning value = tree.FunctionItem (function (typed tree.Int []) (named "main") [] ((Statement.Return 0 (Some value)) ▸ NoItems))

-- the functions that these items are
abbrev routine : String → Expression → Routine
routine name value = record {
  name = codes name;
  result = IntShape;
  parameters = (record { name = codes "a"; shape = IntShape }) ∷ [];
  body = (Statement.Return 0 (Some value)) ▸ NoItems;
}

abbrev main_routine : Expression → Routine
main_routine value = record { name = codes "main"; result = IntShape; parameters = []; body = (Statement.Return 0 (Some value)) ▸ NoItems }

-- what holds of all elements holds of each
all_at : {X : Type 0} (Q : X → Type 0) (xs : List X) (x : X) → AllByRecursion Q xs → Contains xs x → Q x
all_at Q [] x all (k, below, is) = absurd (omega arith)
all_at Q (y ∷ ys) x all (zero, below, is) = subst Q is all.0
all_at Q (y ∷ ys) x all (suc k, below, is) = all_at Q ys x all.1 (k, omega arith, is)

-- ---- int leaf(int a) { return a; } int large(int a) { return leaf(0); } int never(int a) { return never(0); } int main() { return large(0) + leaf(0); }

abbrev leaf : Expression
leaf = variable "a"

abbrev large : Expression
large = called "leaf"

abbrev main : Expression
main = Expression.Chain (called "large") (MoreLinks Add (called "leaf") NoLinks)

abbrev largest : Program
largest = returning "leaf" leaf ∷ returning "large" large ∷ returning "never" (called "never") ∷ main_returning main ∷ []

abbrev world : World
world = world_of largest

-- a function of the program, which is the one of a name, fits what it fits
named_fits : (name : List ℕ) (f : Routine) (n : ℕ) → function_of world.functions name ≡ Some f → Fits frame world f n
    → (g : Routine) → function_of world.functions name ≡ Some g → Fits frame world g n
named_fits name f n here fits g there = let same : f ≡ g = cc in subst (λ (r : Routine). Fits frame world r n) same fits

leaf_fits : (n : ℕ) → 30 ≤ n → Fits frame world (routine "leaf" leaf) n
leaf_fits n le = Leaves 0 (omega arith) (λ name g (k, below, at) is. absurd (omega arith))

large_fits : Fits frame world (routine "large" large) 430
large_fits = Leaves 30 (omega arith) (λ name g has is.
    all_at (λ (callee : List ℕ). (h : Routine) → function_of world.functions callee ≡ Some h → Fits frame world h 30) (codes "leaf" ∷ []) name
    (named_fits (codes "leaf") (routine "leaf" leaf) 30 refl (leaf_fits 30 (omega arith)), tt) has g is)

-- 16 bytes, and beside them the larger of 430 and 30
largest_fits : ProgramFits frame largest 446
largest_fits = record {
  main = main_routine main;
  found = refl;
  fits = Leaves 430 (omega arith) (λ name g has is.
      all_at (λ (callee : List ℕ). (h : Routine) → function_of world.functions callee ≡ Some h
      → Fits frame world h 430) (codes "large" ∷ codes "leaf" ∷ []) name (
        named_fits (codes "large") (routine "large" large) 430 refl large_fits,
        (named_fits (codes "leaf") (routine "leaf" leaf) 430 refl (leaf_fits 430 (omega arith)), tt),
      ) has g is);
}

leaf_needs : (n : ℕ) → Fits frame world (routine "leaf" leaf) n → 30 ≤ n
leaf_needs n (Leaves others le callees) = omega arith

large_needs : (n : ℕ) → Fits frame world (routine "large" large) n → 430 ≤ n
large_needs n (Leaves others le callees) =
    let below : 30 ≤ others = leaf_needs others (callees (codes "leaf") (routine "leaf" leaf) (0, omega arith, refl) refl) in omega arith

main_needs : (n : ℕ) → Fits frame world (main_routine main) n → 446 ≤ n
main_needs n (Leaves others le callees) =
    let below : 430 ≤ others = large_needs others (callees (codes "large") (routine "large" large) (0, omega arith, refl) refl) in omega arith

-- no fewer bytes do
largest_needs : (n : ℕ) → ProgramFits frame largest n → 446 ≤ n
largest_needs n fits =
    let found : function_of world.functions (codes "main") ≡ Some fits.main = fits.found in
    let same : fits.main ≡ main_routine main = cc in
    main_needs n (subst (λ (r : Routine). Fits frame world r n) same fits.fits)

-- ---- int again(int a) { return again(0); } int main() { return again(0); }

abbrev endless : Program
endless = returning "again" (called "again") ∷ main_returning (called "again") ∷ []

again_fits_none : (n : ℕ) → Fits frame (world_of endless) (routine "again" (called "again")) n → ⊥
again_fits_none n (Leaves others le callees) =
    again_fits_none others (callees (codes "again") (routine "again" (called "again")) (0, omega arith, refl) refl)

calling_fits_none : (n : ℕ) → Fits frame (world_of endless) (main_routine (called "again")) n → ⊥
calling_fits_none n (Leaves others le callees) =
    again_fits_none others (callees (codes "again") (routine "again" (called "again")) (0, omega arith, refl) refl)

endless_fits_none : (n : ℕ) → ProgramFits frame endless n → ⊥
endless_fits_none n fits =
    let found : function_of (world_of endless).functions (codes "main") ≡ Some fits.main = fits.found in
    let same : fits.main ≡ main_routine (called "again") = cc in
    calling_fits_none n (subst (λ (r : Routine). Fits frame (world_of endless) r n) same fits.fits)
