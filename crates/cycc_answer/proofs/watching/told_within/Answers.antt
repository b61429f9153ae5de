use Rattle.std.proofs.Common.{◌≡◌, ℕ, inl, inr}
use Rattle.std.proofs.lemmas.Result.{IfOk-weaker}
use Rattle.cycc_answer.specs.Statuses.{IsToldAs, evaluated_status}
use Rattle.cycc_answer.proofs.watching.told_within.Goals as goal

pub returns-in-Some : goal.returns-in-Some
returns-in-Some g c =
    IfOk-weaker c.told_of_bound.result (λ (status : ℕ). status ≡ 4) (IsToldAs c.args.ending c.args.exceeded)
    (λ status four. inr (c.in-Some.ensures.0, c.in-Some.ensures.1, four)) c.told_of_bound.ensures

pub returns-in-None : goal.returns-in-None
returns-in-None g c =
    IfOk-weaker c.told_of_evaluation.result (λ (status : ℕ). status ≡ evaluated_status c.args.ending) (IsToldAs c.args.ending c.args.exceeded)
    (λ status shown. inl shown) c.told_of_evaluation.ensures
