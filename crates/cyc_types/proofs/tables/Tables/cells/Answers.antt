use Rattle.std.proofs.Common.{arith, refl, subst}
use Rattle.cyc_types.specs.Cells.{cells_found}
use Rattle.cyc_types.specs.Laying.{AreWithin}
use Rattle.cyc_types.specs.Types.{static_type}
use Rattle.cyc_types.specs.declared.laying.Laying.{Laying}
use Rattle.cyc_types.proofs.Laid.{begun, begun_within, goes_down, goes_further, last_within, nothing_waits, others_within}
use Rattle.cyc_types.proofs.tables.Tables.cells.Goals as goal

pub each-init : goal.each-init
each-init c =
    let es = c.args.self.now.tags.entries in
    let from : Laying = record { cells = c.new.result; waiting = c.new-2.result } in
    record {
      whole = begun es (cells_found es (static_type c.args.of.now)) _ from c.lay.new.laying c.in_ok-lay.ensures c.new.ensures.items c.new-2.ensures.items;
      within = begun_within es _ _ from c.lay.new.laying c.in_ok-lay.ensures c.new-2.ensures.items;
    }

pub lay_next-requires : goal.lay_next-requires
lay_next-requires c =
    let es = c.args.self.now.tags.entries in
    last_within es c.take_next.new.waiting.items c.in-Some.next (subst (AreWithin es) c.in-Some.ensures.some c.each.invariant.within)

pub each-smaller : goal.each-smaller
each-smaller c =
    let es = c.args.self.now.tags.entries in
    let from : Laying = record { cells = c.each.laying.cells; waiting = c.take_next.new.waiting } in
    let less = goes_down es c.in-Some.next c.each.laying from c.lay_next.new.laying c.in_ok-lay_next.ensures c.in-Some.ensures.some in
    omega (arith, less)

pub each-preserved : goal.each-preserved
each-preserved c =
    let es = c.args.self.now.tags.entries in
    let from : Laying = record { cells = c.each.laying.cells; waiting = c.take_next.new.waiting } in
    let goes = c.in_ok-lay_next.ensures in
    let within = subst (AreWithin es) c.in-Some.ensures.some c.each.invariant.within in
    record {
      whole = goes_further es (cells_found es (static_type c.args.of.now)) c.in-Some.next c.each.laying from c.lay_next.new.laying goes c.in-Some.ensures.some
          refl c.each.invariant.whole;
      within = goes.within (others_within es from.waiting.items c.in-Some.next within);
    }

pub returns : goal.returns
returns c =
    nothing_waits c.args.self.now.tags.entries (cells_found c.args.self.now.tags.entries (static_type c.args.of.now)) c.each.laying c.each.invariant.whole
    c.in_default.ensures.none
