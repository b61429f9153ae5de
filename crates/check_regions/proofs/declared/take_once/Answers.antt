use Rattle.std.proofs.Common.{ap, map, refl, ◌∙◌}
use Rattle.check_regions.specs.Fields.{pair_of}
use Rattle.check_regions.proofs.Once.{map_more, taken_again, taken_first}
use Rattle.check_regions.proofs.declared.take_once.Goals as goal

pub returns-in_ok-push : goal.returns-in_ok-push
returns-in_ok-push c = λ given h.
    taken_first _ _ (map pair_of c.args.once.now.items) _ given (pair_of c.args.bound) (c.past.result, c.past-2.result)
    (λ i. (c.past.ensures i, c.past-2.ensures i)) c.in_ok-is_new.ensures.keys h c.in_ok-is_new.is_new c.in_ok-is_new.ensures.added
    c.if-is_new.true (ap (map pair_of) c.in_ok-push.ensures.items ∙ map_more pair_of c.args.once.now.items c.args.bound)

pub returns-else-is_new : goal.returns-else-is_new
returns-else-is_new c = λ given h.
    taken_again _ _ (map pair_of c.args.once.now.items) _ given (pair_of c.args.bound) (c.past.result, c.past-2.result)
    (λ i. (c.past.ensures i, c.past-2.ensures i)) c.in_ok-is_new.ensures.keys h c.in_ok-is_new.is_new c.in_ok-is_new.ensures.added
    c.if-is_new.false refl
