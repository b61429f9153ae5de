use Rattle.std.proofs.Common.{arith}
use Rattle.region_runtime.specs.Pool.{word_of}
use Rattle.unique_blocks.proofs.Words.{first_here, none_here}
use Rattle.unique_blocks.proofs.slots.first_vacant.Goals as goal

pub returns-then-slot-lt32-clause-first : goal.returns-then-slot-lt32-clause-first
returns-then-slot-lt32-clause-first c =
    first_here (word_of c.args.pool.now) c.args.page c.parts.part c.read.result c.trailing_ones-slot.result c.read.type_inv c.read.ensures.value
    c.trailing_ones-slot.ensures c.parts-test.true c.parts.invariant.below c.if-slot-lt32.true

pub parts-preserved : goal.parts-preserved
parts-preserved c = record {
  few = (let l = c.parts-test.true in omega (arith, l));
  counts = (let e = c.parts.invariant.counts in let r = c.read.ensures.taken c.requires.taken in omega (arith, e, r));
  below = none_here (word_of c.args.pool.now) c.args.page c.parts.part c.read.result c.trailing_ones-slot.result c.read.type_inv c.read.ensures.value
      c.trailing_ones-slot.ensures c.parts-test.true c.parts.invariant.below c.if-slot-lt32.false;
}

pub returns-then-slot-lt32-clause-least : goal.returns-then-slot-lt32-clause-least
returns-then-slot-lt32-clause-least c = let e = c.parts.invariant.counts in let r = c.read.ensures.taken c.requires.taken in omega (arith, e, r)

pub returns-then-slot-lt32-clause-most : goal.returns-then-slot-lt32-clause-most
returns-then-slot-lt32-clause-most c =
    let e = c.parts.invariant.counts in let r = c.read.ensures.taken c.requires.taken in let l = c.parts-test.true in omega (arith, e, r, l)
