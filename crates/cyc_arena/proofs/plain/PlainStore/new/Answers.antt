use Rattle.std.proofs.Common.{rules, refl}
use Rattle.cyc_arena.proofs.Fresh.{fresh_holds, fresh_sound, fresh_zeros}
use Rattle.cyc_arena.proofs.plain.PlainStore.new.Goals as goal

pub invariant_of-result : goal.invariant_of-result
invariant_of-result c = fresh_sound c.args.pages _ (record {
  bytes = c.in-Ok.ensures.items_if_clones_equal (λ y e. e);
  owner = c.in-Ok-vec.ensures.items_if_clones_equal (λ y e. e);
  used = c.in-Ok-vec-2.ensures.items_if_clones_equal (λ y e. e);
  last = c.in-Ok-vec-3.ensures.items_if_clones_equal (λ y e. e);
  standing = c.in-Ok-vec-4.ensures.items_if_clones_equal (λ y e. search rules);
  slots = c.in-Ok-vec-5.ensures.items_if_clones_equal (λ y e. e);
  ever_used = refl;
}) c.if-pages-gt-PAGE_LIMIT.false

pub returns-clause-made : goal.returns-clause-made
returns-clause-made c = fresh_holds c.args.pages _ (record {
  bytes = c.in-Ok.ensures.items_if_clones_equal (λ y e. e);
  owner = c.in-Ok-vec.ensures.items_if_clones_equal (λ y e. e);
  used = c.in-Ok-vec-2.ensures.items_if_clones_equal (λ y e. e);
  last = c.in-Ok-vec-3.ensures.items_if_clones_equal (λ y e. e);
  standing = c.in-Ok-vec-4.ensures.items_if_clones_equal (λ y e. search rules);
  slots = c.in-Ok-vec-5.ensures.items_if_clones_equal (λ y e. e);
  ever_used = refl;
})

pub returns-clause-zeros : goal.returns-clause-zeros
returns-clause-zeros c = fresh_zeros c.args.pages _ (record {
  bytes = c.in-Ok.ensures.items_if_clones_equal (λ y e. e);
  owner = c.in-Ok-vec.ensures.items_if_clones_equal (λ y e. e);
  used = c.in-Ok-vec-2.ensures.items_if_clones_equal (λ y e. e);
  last = c.in-Ok-vec-3.ensures.items_if_clones_equal (λ y e. e);
  standing = c.in-Ok-vec-4.ensures.items_if_clones_equal (λ y e. search rules);
  slots = c.in-Ok-vec-5.ensures.items_if_clones_equal (λ y e. e);
  ever_used = refl;
})
