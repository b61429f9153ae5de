use Rattle.std.proofs.Common.{None, ap, length, subst, sym, ◌+◌, ◌∙◌, ◌≡◌}
use Rattle.flow_summaries.specs.Effects.{below}
use Rattle.flow_effects.proofs.Passages.{left_with, left_without}
use Rattle.flow_effects.specs.Passed.{added_of, left_after}
use Rattle.flow_effects.specs.Tables.{passage_in, table_at}
use Rattle.flow_effects.specs.Touches.{idle_touch}
use Rattle.flow_effects.proofs.passed.Passed.leaving.Goals.{in-None, in-Some}
use Rattle.flow_effects.proofs.passed.Passed.leaving.Goals as goal

pub returns : goal.returns
returns c =
    let n = c.args.around in
    let t = table_at c.args.self.table in
    let f = c.args.self.always in
    let left : passage_in (below n idle_touch t) c.match-begun.always
    ≡ left_after n (length (added_of c.args.begun) + n) (added_of c.args.begun) (passage_in t f) =
    elim c.match-begun.branch [
      | in-Some w ↦
          subst (λ b. passage_in (below n idle_touch t) c.match-begun.always ≡ left_after n (length (added_of b) + n) (added_of b) (passage_in t f))
          (sym w.in-Some.is) (left_with n w.in-Some.state t f c.match-begun.always (w.always-is ∙ w.begun-always.ensures))
      | in-None w ↦
          subst (λ b. passage_in (below n idle_touch t) c.match-begun.always ≡ left_after n (length (added_of b) + n) (added_of b) (passage_in t f))
          (sym w.in-None.is)
          (subst (λ a. passage_in (below n idle_touch t) a ≡ left_after n (length (added_of None) + n) (added_of None) (passage_in t f)) (sym w.always-is)
          (left_without n t f))
    ] in
    ap (λ u. passage_in u c.match-begun.always) c.below.ensures ∙ left
