use Rattle.std.proofs.Common.{ap, sym, ◌∙◌, ◌-◌, length, take}
use Rattle.source_typing.specs.Types.{compare}
use Rattle.cyc_types.specs.Bases.{base_type}
use Rattle.cyc_types.specs.Conversions.{pointer_rule}
use Rattle.cyc_types.specs.Layers.{pointed}
use Rattle.cyc_types.specs.Likeness.{match_of}
use Rattle.cyc_types.proofs.Converting.{base_to_pointer, both_pointers, null_converts, pointer_to_base}
use Rattle.cyc_types.proofs.Pointers.{as_match}
use Rattle.cyc_types.proofs.ctype.CType.conversion.Goals as goal

pub returns-in-Some-Some : goal.returns-in-Some-Some
returns-in-Some-Some c g h =
    let mine = c.args.self.now in
    let theirs = c.args.to.now in
    let l = c.in-Some-Some.mine in
    let k = c.in-Some-Some.theirs in
    let inner = compare (pointed (base_type mine.base) (take (length mine.layers.items - 1) mine.layers.items))
    (pointed (base_type theirs.base) (take (length theirs.layers.items - 1) theirs.layers.items)) in
    c.pointer_conversion.ensures
    ∙ ap (λ m. pointer_rule l k m c.args.outlives) (ap match_of c.inner_likeness.ensures ∙ as_match inner)
    ∙ both_pointers g mine.layers.items theirs.layers.items (base_type mine.base) (base_type theirs.base) l k c.args.outlives
    (sym c.in-Some-Some.ensures) (sym c.in-Some-Some.ensures') h

pub returns-in-Some-None : goal.returns-in-Some-None
returns-in-Some-None c g h =
    let mine = c.args.self.now in
    let theirs = c.args.to.now in
    sym (pointer_to_base g mine.layers.items theirs.layers.items (base_type mine.base) theirs.base c.in-Some-None.field-0-0
    (sym c.in-Some-None.ensures) (sym c.in-Some-None.ensures'))

pub returns-then-is_null : goal.returns-then-is_null
returns-then-is_null c g h =
    let mine = c.args.self.now in
    let theirs = c.args.to.now in
    c.null_conversion.ensures
    ∙ sym (null_converts g mine.layers.items theirs.layers.items mine.base (base_type theirs.base) c.in-None-Some.pointer
    (sym c.outer.ensures ∙ c.in-None-Some.is-0) (sym c.in-None-Some.ensures) (sym c.is_null.ensures ∙ c.if-is_null.true))

pub returns-else-is_null : goal.returns-else-is_null
returns-else-is_null c g h =
    let mine = c.args.self.now in
    let theirs = c.args.to.now in
    sym (base_to_pointer g mine.layers.items theirs.layers.items mine.base (base_type theirs.base) c.in-None-Some.pointer
    (sym c.outer.ensures ∙ c.in-None-Some.is-0) (sym c.in-None-Some.ensures) (sym c.is_null.ensures ∙ c.if-is_null.false))
