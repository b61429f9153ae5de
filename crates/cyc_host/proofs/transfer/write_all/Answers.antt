use Rattle.std.proofs.Common.{◌++◌, take, rules, sym, subst}
use Rattle.std.proofs.KnownBytes.{Appends-kept, Appends-trans}
use Rattle.cyc_host.specs.Transfers.{WritesSome}
use Rattle.cyc_host.proofs.Transfers.{some_front, some_more, moves_front}
use Rattle.cyc_host.proofs.transfer.write_all.Goals as goal

pub returns-in-Ok-eq0-clause-some : goal.returns-in-Ok-eq0-clause-some
returns-in-Ok-eq0-clause-some g c =
    let i = c.parts.invariant in
    some_more _ _ _ _ i.done c.parts.rest.now c.in-Ok-eq0.field-0 i.split i.appended c.in-Ok-eq0.ensures.bytes

pub parts-preserved : goal.parts-preserved
parts-preserved g c =
    let i = c.parts.invariant in
    let rest = c.parts.rest.now in
    record {
      done = i.done ++ take c.in-Ok.taken rest;
      split = moves_front _ i.done rest c.in-Ok.taken i.split;
      appended = Appends-trans _ _ _ _ _ i.appended c.in-Ok.ensures.bytes;
      writes = search rules;
    }

pub returns-in-Err-clause-some : goal.returns-in-Err-clause-some
returns-in-Err-clause-some g c =
    let i = c.parts.invariant in
    subst (WritesSome _ _) (sym i.split) (some_front _ _ i.done c.parts.rest.now (Appends-kept _ _ _ _ i.appended c.in-Err.ensures.bytes))
