use Rattle.std.proofs.Common.{◌≡◌, ◌+◌, ◌++◌, [], ◌∷◌, suc, ap, sym, ◌∙◌, drop, get_or, length, vec_len, arith, rules}
use Rattle.std.proofs.lemmas.List.{append_assoc, drop_more, length_push}
use Rattle.core_eval.specs.Elements.{char_slot, text_cells}
use Rattle.core_eval.proofs.object.text_cells.Goals as goal

pub each-preserved : goal.each-preserved
each-preserved c =
    let xs = c.args.bytes.now in
    let i = c.each.byte-index in
    let slots = c.each.slots.items in
    let many = vec_len c.each.slots in
    let next = char_slot many (get_or xs i 0) in
    let rest = drop (i + 1) xs in
    let pushed = c.in_ok-push_char.ensures in
    let before : many ≡ length slots = search rules in
    let after : vec_len c.push_char.new.slots ≡ length c.push_char.new.slots.items = search rules in
    let one : length slots + 1 ≡ suc many = omega (arith, before) in
    let longer = after ∙ ap length pushed ∙ length_push slots next ∙ one in
    record {
      whole =
          (λ k. pushed k ++ text_cells (longer k) rest)
          ∙ append_assoc slots (next ∷ []) (text_cells (suc many) rest)
          ∙ ap (λ bs. slots ++ text_cells many bs) (sym (drop_more xs i _ c.each-test.true))
          ∙ c.each.invariant.whole;
    }
