use Rattle.std.proofs.Common.{ap, sym, ◌∙◌}
use Rattle.std.specs.Prelude.{if◌then◌else◌}
use Rattle.cyc_types.proofs.Sameness.{copyable_same}
use Rattle.cyc_types.specs.Types.{static_type}
use Rattle.source_typing.specs.States.{Held, Plain}
use Rattle.flow_check.proofs.Beginning.{variable_begins}
use Rattle.flow_check.proofs.declared.begins.Goals as goal

pub returns-then-is_copyable : goal.returns-then-is_copyable
returns-then-is_copyable c g w has is =
    let x = c.in-Variable in
    let copies = copyable_same c.args.tables.now g.tables has (static_type x.of) ∙ sym c.is_copyable.ensures ∙ c.if-is_copyable.true in
    sym (ap (λ b. if b then Plain else Held) copies) ∙ variable_begins g w c.args.what.now x.of x.field-1 is x.is

pub returns-else-is_copyable : goal.returns-else-is_copyable
returns-else-is_copyable c g w has is =
    let x = c.in-Variable in
    let copies = copyable_same c.args.tables.now g.tables has (static_type x.of) ∙ sym c.is_copyable.ensures ∙ c.if-is_copyable.false in
    sym (ap (λ b. if b then Plain else Held) copies) ∙ variable_begins g w c.args.what.now x.of x.field-1 is x.is
