use Rattle.std.proofs.Common.{ap, sym, ◌∙◌}
use Rattle.cyc_types.specs.Types.{static_type}
use Rattle.source_meaning.specs.Sizes.{rounded_up}
use Rattle.check_faults.specs.Verdicts.{short_of}
use Rattle.check_tables.proofs.Globals.{found_bytes, no_bytes}
use Rattle.check_tables.specs.Globals.{bytes_of}
use Rattle.check_tables.proofs.global_types.type_bytes.Goals as goal

pub returns-in-Some : goal.returns-in-Some
returns-in-Some c g v known e sized =
    let count = c.args.count in
    c.padded.ensures
    ∙ ap (λ n. rounded_up (bytes_of count n) 8) c.size.ensures
    ∙ found_bytes c.args.structs.tables.now g count v (static_type c.in-Of.of) known.tables (ap (short_of static_type) (sym c.in-Of.is) ∙ e) c.in-Some.extent
    c.in-Some.ensures

pub returns-in-None : goal.returns-in-None
returns-in-None c g v known e sized =
    no_bytes c.args.structs.tables.now g c.args.count v (static_type c.in-Of.of) known.tables (ap (short_of static_type) (sym c.in-Of.is) ∙ e) sized
    c.in-None.ensures
