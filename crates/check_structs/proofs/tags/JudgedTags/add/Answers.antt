use Rattle.check_structs.proofs.NextTables.{judged_more}
use Rattle.check_structs.proofs.tags.JudgedTags.add.Goals as goal

pub returns : goal.returns
returns c js j are is same =
    judged_more js j c.args.name.now c.args.self.now (record { names = c.add.new.self; tables = c.declare_found.new.tables; fault = c.sooner-self.result })
    c.found_name.result c.in_ok-is_new.is_new c.in_ok-fault.fault same (c.found_name.ensures j is) c.in_ok-is_new.ensures.is_new
    c.in_ok-is_new.ensures.names c.in_ok-is_new.ensures.known (c.in_ok-fault.ensures.tables j is same) c.sooner-self.ensures
    (c.in_ok-fault.ensures.fault j is) are
