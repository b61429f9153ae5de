use Rattle.std.specs.Prelude.{if◌then◌else◌}
use Rattle.std.proofs.Common.{◌≡◌, Bool, true, false, Some, None, [], ◌∷◌, ap, ◌∙◌, sym, rules}
use Rattle.core_eval.specs.declared.value.Slot.{Slot}
use Rattle.core_eval.specs.declared.value.Value.{Value}
use Rattle.core_eval.specs.Values.{put_cell, put_within}
use Rattle.core_eval.specs.Elements.{word_slot}
use Rattle.core_eval.proofs.WordCells.{word_put}
use Rattle.core_eval.proofs.value.put_word.Goals as goal

pub returns-then-is_put-clause-put : goal.returns-then-is_put-clause-put
returns-then-is_put-clause-put c =
    let p = c.args.part in
    let u = c.args.held.now in
    let v = c.args.value in
    let new = c.put-is_put.new.self in
    let first : p.cell ≡ 0 = search rules in
    let put : put_within (word_slot u) p.byte p.number p.width v ≡ Some new =
    ap (λ (s : Slot). put_within s p.byte p.number p.width v) (sym c.word_slot-slot.ensures) ∙ c.put-is_put.ensures.put
    ∙ ap (λ (t : Bool). if t then Some new else None) c.if-is_put.true in
    ap (λ k. put_cell (word_slot u ∷ []) k p.byte p.number p.width v) first
    ∙ word_put u p.byte p.number p.width v new true put
    ∙ ap (λ (x : Value). Some (word_slot x ∷ [])) (sym c.value.ensures)

pub returns-else-is_put-clause-put : goal.returns-else-is_put-clause-put
returns-else-is_put-clause-put c =
    let p = c.args.part in
    let u = c.args.held.now in
    let v = c.args.value in
    let new = c.put-is_put.new.self in
    let first : p.cell ≡ 0 = search rules in
    let put : put_within (word_slot u) p.byte p.number p.width v ≡ None =
    ap (λ (s : Slot). put_within s p.byte p.number p.width v) (sym c.word_slot-slot.ensures) ∙ c.put-is_put.ensures.put
    ∙ ap (λ (t : Bool). if t then Some new else None) c.if-is_put.false in
    ap (λ k. put_cell (word_slot u ∷ []) k p.byte p.number p.width v) first ∙ word_put u p.byte p.number p.width v new false put
