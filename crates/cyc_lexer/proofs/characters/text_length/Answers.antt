use Rattle.std.proofs.Common.{◌≡◌, ◌∙◌, ◌+◌, sym, ap, Some, drop, arith}
use Rattle.std.proofs.lemmas.List.{take_rest, drop-drop, length-drop}
use Rattle.cyc_lexer.specs.Reading.{longer, text_from}
use Rattle.cyc_lexer.specs.Spelling.{character_at}
use Rattle.cyc_lexer.proofs.ReadStrings.{longer-longer, character_within, text_from-character}
use Rattle.cyc_lexer.proofs.characters.text_length.Goals as goal

pub loop-at-preserved : goal.loop-at-preserved
loop-at-preserved c =
    let bytes = c.args.bytes.now in
    let at = c.loop-at.at in
    let n = c.in_ok-length.length in
    let read : character_at 34 (drop at bytes) ≡ Some (c.in_ok-length.field-0-0, n) =
    ap (character_at 34) (sym (take_rest bytes at)) ∙ sym c.character_at.ensures ∙ c.in_ok-length.was in
    let within = character_within 34 (drop at bytes) c.in_ok-length.field-0-0 n read in (
      omega (arith, within.1, length-drop at bytes),
      c.loop-at.invariant.1 ∙ ap (longer at) (text_from-character (drop at bytes) c.in_ok-length.field-0-0 n read)
          ∙ longer-longer at n (text_from 0 (drop n (drop at bytes))) ∙ ap (λ t. longer (at + n) (text_from 0 t)) (drop-drop n at bytes),
    )
