use Rattle.std.proofs.Common.{ap, ◌∙◌, ◌≡◌}
use Rattle.std.specs.Prelude.{◌||◌}
use Rattle.check_faults.specs.Faults.{sooner_found}
use Rattle.flow_effects.proofs.Leaving.{either_is, exits_with, same_exits}
use Rattle.flow_effects.specs.Exits.{met_by}
use Rattle.flow_effects.specs.Passed.{passage_of}
use Rattle.flow_effects.specs.Tables.{passage_in, table_at, way_of}
use Rattle.flow_effects.specs.Touches.{joined}
use Rattle.flow_effects.proofs.exits.Exits.either.Goals.{else-self, then-self}
use Rattle.flow_effects.proofs.exits.Exits.either.Goals as goal

pub returns : goal.returns
returns c =
    let b = c.args.self.falls in
    let d = c.args.other.falls in
    let s = table_at c.args.self.whole.table in
    let t = table_at c.args.other.whole.table in
    let f = c.args.self.whole.always in
    let g = c.args.other.whole.always in
    let p = passage_of c.in_ok-met.field-0 in
    let falls : c.if-self.result ≡ (b || d) = elim c.if-self.branch [
      | then-self w ↦ rw w.if-self.true (w.result-is ∙ w.if-self.true)
      | else-self w ↦ rw w.if-self.false w.result-is
    ] in
    let whole : p ≡ passage_in (λ i. joined (met_by b d) (s i) (t i)) (sooner_found f g) =
    c.in_ok-met.ensures ∙ ap (λ h. passage_in (λ i. joined h (s i) (t i)) (sooner_found f g)) c.met_by-how.ensures in
    ap (λ r. exits_with r p (way_of c.in_ok-breaks.breaks) (way_of c.in_ok-continues.continues)) falls
    ∙ same_exits (b || d) p _ _ _ _ _ whole c.in_ok-breaks.ensures c.in_ok-continues.ensures
    ∙ either_is b d s t f g (way_of c.args.self.breaks) (way_of c.args.self.continues) (way_of c.args.other.breaks) (way_of c.args.other.continues)
