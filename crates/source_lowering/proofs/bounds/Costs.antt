-- What code takes: temporaries, words passed to calls, words of locals, operations.
use Rattle.std.proofs.Common.{◌≡◌, ℕ, suc, ◌+◌, ◌≤◌, List, [], ◌∷◌, ◌++◌, max, arith}
use Rattle.core_meaning.specs.Core as core
use Rattle.core_meaning.specs.Core.{Statement, Do, If, While, Block, Leave, Raise, Statements, NoStatements, MoreStatements}
use Rattle.source_meaning.specs.Shapes.{Shape}
use Rattle.source_meaning.specs.Steps.{World}
use Rattle.source_lowering.specs.Lowered.{all_of}
use Rattle.source_lowering.specs.Programs.{locals_of}
use Rattle.source_lowering.specs.Temporaries.{operation_temporaries, statement_temporaries, temporaries_of, statement_passes, passed_by}
use Rattle.core_meaning.specs.Bounds.{statement_words, block_words, operation_count, branch_count, statement_operations, operations_of}
use Rattle.source_lowering.proofs.bounds.LocalWords.{many_words, shapes_words}

pub record Costs (t p l o : ℕ) (code : List Statement) : Type 0 where
  pub temporaries : temporaries_of (all_of code) ≤ t
  pub passes : passed_by (all_of code) ≤ p
  pub locals : block_words (all_of code) ≤ l
  pub operations : operations_of (all_of code) ≤ o

pub max_both : (a b t : ℕ) → a ≤ t → b ≤ t → max a b ≤ t
max_both a b t f g = omega (arith, f, g)

pub max_first : (a b t : ℕ) → max a b ≤ t → a ≤ t
max_first a b t f = omega (arith, f)

pub max_second : (a b t : ℕ) → max a b ≤ t → b ≤ t
max_second a b t f = omega (arith, f)

temporaries_both : (xs ys : List Statement) (t : ℕ) → temporaries_of (all_of xs) ≤ t → temporaries_of (all_of ys) ≤ t → temporaries_of (all_of (xs ++ ys)) ≤ t
temporaries_both [] ys t f g = g
temporaries_both (x ∷ xs) ys t f g = max_both (statement_temporaries x) (temporaries_of (all_of (xs ++ ys))) t
    (max_first (statement_temporaries x) (temporaries_of (all_of xs)) t f) (temporaries_both xs ys t (max_second (statement_temporaries x)
    (temporaries_of (all_of xs)) t f) g)

passes_both : (xs ys : List Statement) (t : ℕ) → passed_by (all_of xs) ≤ t → passed_by (all_of ys) ≤ t → passed_by (all_of (xs ++ ys)) ≤ t
passes_both [] ys t f g = g
passes_both (x ∷ xs) ys t f g = max_both (statement_passes x) (passed_by (all_of (xs ++ ys))) t (max_first (statement_passes x) (passed_by (all_of xs)) t f)
    (passes_both xs ys t (max_second (statement_passes x) (passed_by (all_of xs)) t f) g)

words_both : (xs ys : List Statement) → block_words (all_of (xs ++ ys)) ≡ block_words (all_of xs) + block_words (all_of ys)
words_both [] ys = omega arith
words_both (x ∷ xs) ys = let h = words_both xs ys in omega (arith, h)

operations_both : (xs ys : List Statement) → operations_of (all_of (xs ++ ys)) ≡ operations_of (all_of xs) + operations_of (all_of ys)
operations_both [] ys = omega arith
operations_both (x ∷ xs) ys = let h = operations_both xs ys in omega (arith, h)

pub no_costs : (t p : ℕ) → Costs t p 0 0 []
no_costs t p = record { temporaries = omega arith; passes = omega arith; locals = omega arith; operations = omega arith }

pub one_costs : (t p l o : ℕ) (x : Statement) → statement_temporaries x ≤ t → statement_passes x ≤ p → statement_words x ≤ l → statement_operations x ≤ o
    → Costs t p l o (x ∷ [])
one_costs t p l o x f g h k = record {
  temporaries = max_both (statement_temporaries x) 0 t f (omega arith);
  passes = max_both (statement_passes x) 0 p g
      (omega arith);
  locals = omega (arith, h);
  operations = omega (arith, k);
}

pub both_cost : (t p l o l' o' : ℕ) (xs ys : List Statement) → Costs t p l o xs → Costs t p l' o' ys → Costs t p (l + l') (o + o') (xs ++ ys)
both_cost t p l o l' o' xs ys a b = record {
  temporaries = temporaries_both xs ys t a.temporaries b.temporaries;
  passes = passes_both xs ys p a.passes b.passes;
  locals = let e = words_both xs ys in let f = a.locals in let g = b.locals in omega (arith, e, f, g);
  operations = let e = operations_both xs ys in let f = a.operations in let g = b.operations in omega (arith, e, f, g);
}

pub more_costs : (t p l o t' p' l' o' : ℕ) (xs : List Statement) → t ≤ t' → p ≤ p' → l ≤ l' → o ≤ o' → Costs t p l o xs → Costs t' p' l' o' xs
more_costs t p l o t' p' l' o' xs f g h k a = record {
  temporaries = let e = a.temporaries in omega (arith, e, f);
  passes = let e = a.passes in omega (arith, e, g);
  locals = let e = a.locals in omega (arith, e, h);
  operations = let e = a.operations in omega (arith, e, k);
}

-- with room for more words of locals
pub sized : {t p l m o : ℕ} {code : List Statement} → Costs t p l o code → l ≤ m → Costs t p m o code
sized a h = record {
  temporaries = a.temporaries;
  passes = a.passes;
  locals = let e = a.locals in omega (arith, e, h);
  operations = a.operations;
}

-- ---- operations

-- one operation
pub does_one : (t p : ℕ) (o : core.Operation) → operation_temporaries o ≤ t → Costs t p 0 (operation_count o) (Do o ∷ [])
does_one t p o h = one_costs t p 0 (operation_count o) (Do o) h (omega arith) (omega arith) (omega arith)

-- one before others
pub does_then : {l : ℕ} (t p n : ℕ) (o : core.Operation) (others : List Statement) → operation_temporaries o ≤ t → Costs t p l n others
    → Costs t p l (operation_count o + n) (Do o ∷ others)
does_then t p n o others h c = sized (both_cost t p _ (operation_count o) _ n (Do o ∷ []) others (does_one t p o h) c) (omega arith)

pub at_most : (t p o o' : ℕ) (xs : List Statement) → o ≤ o' → Costs t p 0 o xs → Costs t p 0 o' xs
at_most t p o o' xs h c = more_costs t p 0 o t p 0 o' xs (omega arith) (omega arith) (omega arith) h c

pub nothing : (t p o : ℕ) → Costs t p 0 o []
nothing t p o = at_most t p 0 o [] (omega arith) (no_costs t p)

-- one operation where there is room for more
pub does_few : (t p n : ℕ) (o : core.Operation) → operation_temporaries o ≤ t → operation_count o ≤ n → Costs t p 0 n (Do o ∷ [])
does_few t p n o h k = at_most t p (operation_count o) n _ k (does_one t p o h)

-- ---- choices

branch_less : (ss : Statements) (n : ℕ) → branch_count ss n ≤ n
branch_less NoStatements n = omega arith
branch_less (MoreStatements (Raise kind) NoStatements) n = omega arith
branch_less ss n = omega arith

-- a choice of two
pub if_costs : (t p d l l' o o' : ℕ) (these those : List Statement) → suc d ≤ t → Costs t p l o these → Costs t p l' o' those
    → Costs t p (l + l') (1 + (o + o')) (If d (all_of these) (all_of those) ∷ [])
if_costs t p d l l' o o' these those h x y =
    let a = x.temporaries in let b = x.passes in let e = x.locals in let f = x.operations in
    let a' = y.temporaries in let b' = y.passes in let e' = y.locals in let f' = y.operations in
    let k = branch_less (all_of these) (operations_of (all_of these)) in
    let k' = branch_less (all_of those) (operations_of (all_of those)) in
    one_costs t p (l + l') (1 + (o + o')) (If d (all_of these) (all_of those)) (omega (arith, h, a, a')) (omega (arith, b, b')) (omega (arith, e, e'))
    (omega (arith, f, f', k, k'))

-- ---- loops

pub while_costs : (t p d l l' o o' : ℕ) (test body : List Statement) → suc d ≤ t → Costs t p l o test → Costs t p l' o' body
    → Costs t p (l + l') (1 + (o + o')) (While (all_of test) d (all_of body) ∷ [])
while_costs t p d l l' o o' test body h x y =
    let a = x.temporaries in let b = x.passes in let e = x.locals in let f = x.operations in
    let a' = y.temporaries in let b' = y.passes in let e' = y.locals in let f' = y.operations in
    one_costs t p (l + l') (1 + (o + o')) (While (all_of test) d (all_of body)) (omega (arith, h, a, a')) (omega (arith, b, b')) (omega (arith, e, e'))
    (omega (arith, f, f'))

-- ---- blocks, and what a `break` leaves

-- a block's own locals beside those within it
pub block_costs : (t p l inner o : ℕ) (w : World) (shapes : List Shape) (body : List Statement) → shapes_words w shapes + inner ≤ l → Costs t p inner o body
    → Costs t p l (1 + o) (Block (locals_of w shapes) (all_of body) ∷ [])
block_costs t p l inner o w shapes body h x =
    let a = x.temporaries in let b = x.passes in let e = x.locals in let f = x.operations in let m = many_words w shapes in
    one_costs t p l (1 + o) (Block (locals_of w shapes) (all_of body)) a b (omega (arith, h, e, m)) (omega (arith, f))

pub leave_costs : (t p l o : ℕ) (body : List Statement) → Costs t p l o body → Costs t p l o (Leave (all_of body) ∷ [])
leave_costs t p l o body x = one_costs t p l o (Leave (all_of body)) x.temporaries x.passes x.locals x.operations
