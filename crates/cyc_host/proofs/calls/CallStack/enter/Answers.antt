use Rattle.std.proofs.Common.{◌≡◌, rules, refl}
use Rattle.cyc_host.proofs.Calling.{entered_inside}
use Rattle.cyc_host.proofs.calls.CallStack.enter.Goals as goal

pub returns-then-self-gt0-clause-active : goal.returns-then-self-gt0-clause-active
returns-then-self-gt0-clause-active c = λ calls were.
    entered_inside _ _ c.args.self.now.unkept _ c.args.call.at calls refl c.one_more_of-self-then-self-gt0.ensures were

pub returns-then-is_err-clause-active : goal.returns-then-is_err-clause-active
returns-then-is_err-clause-active c = λ calls were.
    let same : c.push.new.self.items ≡ c.args.self.now.active.items = search rules in
    entered_inside _ _ c.args.self.now.unkept 1 c.args.call.at calls same (search rules) were
