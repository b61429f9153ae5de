-- What the code of an exchange takes.
use Rattle.std.proofs.Common.{ℕ, zero, suc, ◌+◌, ◌≤◌, Bool, true, false, List, arith, length}
use Rattle.source_meaning.specs.Shapes.{Shape, UnionShape, parts_of}
use Rattle.source_meaning.specs.Steps.{World}
use Rattle.core_meaning.specs.Core as core
use Rattle.source_lowering.specs.Layouts.{has_fat, union_pieces}
use Rattle.source_lowering.specs.Members.{part_at, words_in}
use Rattle.source_lowering.specs.Programs.{ByName, ByPlace, Side, exchange_code, side_code, side_read, side_written, union_exchange, value_exchange}
use Rattle.source_lowering.specs.Programs.{words_read, words_written}
use Rattle.source_lowering.proofs.bounds.Costs.{Costs, at_most, both_cost, does_few, does_then, no_costs, nothing, sized}
use Rattle.source_lowering.proofs.bounds.ValueCosts.{words_few, kept_costs, loads_costs}

-- a side's value is read, and it gets another one
read_costs : (a : Side) (s : Shape) (t p q d : ℕ) → suc q ≤ t → d + 3 ≤ t → Costs t p 0 4 (side_read a s q d)
read_costs (ByName out index width) s t p q d h g = does_few t p 4 (core.Get d out index width) (omega (arith, g)) (omega arith)
read_costs ByPlace s t p q d h g = does_then t p 3 (core.Move d q) _ (omega (arith, h, g)) (loads_costs s t p d 0 0 (omega (arith, g)))

written_costs : (a : Side) (s : Shape) (t p q d : ℕ) → suc q ≤ t → d + 3 ≤ t → Costs t p 0 3 (side_written a s q d)
written_costs (ByName out index width) s t p q d h g = does_few t p 3 (core.Put out index width d) (omega (arith, g)) (omega arith)
written_costs ByPlace s t p q d h g = let few = words_few s in kept_costs s t p q d 0 0 (omega (arith, h)) (omega (arith, g, few))

-- two values are read, and each is stored to the other side
value_exchange_costs : (a b : Side) (s : Shape) (t p d : ℕ) → d + 8 ≤ t → Costs t p 0 14 (value_exchange a b s d)
value_exchange_costs a b s t p d h =
    let few = words_few s in
    let e = d + 2 + words_in s in
    both_cost t p 0 4 0 10 (side_read a s d (d + 2)) _ (read_costs a s t p d (d + 2) (omega (arith, h)) (omega (arith, h)))
    (both_cost t p 0 4 0 6 (side_read b s (d + 1) e) _ (read_costs b s t p (d + 1) e (omega (arith, h)) (omega (arith, h, few)))
    (both_cost t p 0 3 0 3 (side_written a s d e) (side_written b s (d + 1) (d + 2))
    (written_costs a s t p d e (omega (arith, h)) (omega (arith, h, few)))
    (written_costs b s t p (d + 1) (d + 2) (omega (arith, h)) (omega (arith, h)))))

-- no pointer to a local of one word is made
pub side_costs : (a : Side) (t p l o : ℕ) (pointer : List core.Statement) → Costs t p l o pointer → Costs t p l o (side_code a pointer)
side_costs (ByName out index width) t p l o pointer c = sized (nothing t p o) (omega arith)
side_costs ByPlace t p l o pointer c = c

-- the words of a union
words_read_costs : (count t p word d from : ℕ) → d + count ≤ t → suc from ≤ t → Costs t p 0 count (words_read count word d from)
words_read_costs zero t p word d from h g = no_costs t p
words_read_costs (suc count) t p word d from h g =
    at_most t p (1 + count) (suc count) _ (omega arith)
    (does_then t p count (core.Load d from (part_at 0 0 word)) _ (omega (arith, h, g))
    (words_read_costs count t p (suc word) (suc d) from (omega (arith, h)) g))

words_written_costs : (count t p word to d : ℕ) → d + count ≤ t → suc to ≤ t → Costs t p 0 count (words_written count word to d)
words_written_costs zero t p word to d h g = no_costs t p
words_written_costs (suc count) t p word to d h g =
    at_most t p (1 + count) (suc count) _ (omega arith)
    (does_then t p count (core.Store to (part_at 0 0 word) d) _ (omega (arith, h, g))
    (words_written_costs count t p (suc word) to (suc d) (omega (arith, h)) g))

union_exchange_costs : (count t p d : ℕ) → count ≤ 4 → d + 10 ≤ t → Costs t p 0 16 (union_exchange count d)
union_exchange_costs count t p d few h =
    let e = d + 2 + count in
    at_most t p (count + (count + (count + count))) 16 _ (omega (arith, few))
    (both_cost t p 0 count 0 (count + (count + count)) (words_read count 0 (d + 2) d) _
    (words_read_costs count t p 0 (d + 2) d (omega (arith, few, h)) (omega (arith, h)))
    (both_cost t p 0 count 0 (count + count) (words_read count 0 e (d + 1)) _
    (words_read_costs count t p 0 e (d + 1) (omega (arith, few, h)) (omega (arith, h)))
    (both_cost t p 0 count 0 count (words_written count 0 d e) (words_written count 0 (d + 1) (d + 2))
    (words_written_costs count t p 0 d e (omega (arith, few, h)) (omega (arith, h)))
    (words_written_costs count t p 0 (d + 1) (d + 2) (omega (arith, few, h)) (omega (arith, h))))))

union_words_few : (fat : Bool) → length (union_pieces fat) ≤ 4
union_words_few true = omega arith
union_words_few false = omega arith

-- either
pub exchange_costs : (w : World) (a b : Side) (s : Shape) (t p d : ℕ) → d + 10 ≤ t → Costs t p 0 16 (exchange_code w a b s d)
exchange_costs w a b s t p d h = by s
  where
    value : (of : Shape) → Costs t p 0 16 (value_exchange a b of d)
    value of = at_most t p 14 16 _ (omega arith) (value_exchange_costs a b of t p d (omega (arith, h)))

    by : (of : Shape) → Costs t p 0 16 (exchange_code w a b of d)
    by (UnionShape tag) =
        let fat = has_fat (parts_of w.unions tag) in union_exchange_costs (length (union_pieces fat)) t p d (union_words_few fat) h
    by of = value of
