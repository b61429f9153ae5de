use Rattle.std.proofs.Common.{Some, ap, subst, sym}
use Rattle.flow_summaries.specs.Passages.{Passage}
use Rattle.flow_effects.specs.Passed.{IsMetBy, passage_of}
use Rattle.flow_effects.specs.Tables.{effects_in, faults_in, passage_in, table_at, way_of}
use Rattle.flow_effects.proofs.passed.Passed.met_by.Goals as goal

pub returns-in_ok-table-in-Some : goal.returns-in_ok-table-in-Some
returns-in_ok-table-in-Some c =
    let always = c.args.self.always in
    let met : Passage = passage_in (table_at c.in_ok-table-in-Some.table) always in
    subst (λ v. IsMetBy (passage_of c.args.self) (way_of v) met) (sym c.in-Some.is) record {
      effects = ap (λ t. Some (effects_in t)) c.in_ok-table-in-Some.ensures;
      faults = ap (λ t. faults_in t always) c.in_ok-table-in-Some.ensures;
    }
