use Rattle.std.proofs.Common.{◌++◌, List, ℕ, ap, ◌∙◌, arith}
use Rattle.rv32_layout.proofs.Strings.{bounds_joined}
use Rattle.rv32_layout.proofs.globals.put_bounds.Goals as goal

pub returns : goal.returns
returns c =
    let old = c.args.bytes.now.items in
    let first = c.extend_from_slice.new.self.items in
    let second = c.extend_from_slice-2.new.self.items in
    bounds_joined c.args.offsets.now c.args.object c.address.result c.address.ensures c.args.count old first second c.put_zeros.new.bytes.items
    (omega arith) (c.in_ok-extend_from_slice.ensures.items ∙ ap (λ (xs : List ℕ). old ++ xs) c.word_bytes.ensures)
    (c.in_ok-extend_from_slice-2.ensures.items ∙ ap (λ (xs : List ℕ). first ++ xs) c.word_bytes-2.ensures) c.in_ok-put_zeros.ensures
