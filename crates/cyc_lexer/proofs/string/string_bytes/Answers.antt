use Rattle.std.proofs.Common.{◌≡◌, ◌+◌, ◌-◌, List, ℕ, length, take, drop, Some, ap, sym, ◌∙◌, subst, arith}
use Rattle.std.proofs.lemmas.List.{length-take}
use Rattle.cyc_lexer.specs.Spelling.{character_at}
use Rattle.cyc_lexer.proofs.ReadStrings.{character_within}
use Rattle.cyc_lexer.proofs.StringSteps.{Decodes, part_of, starts, goes_on, stops, ends, text_meant}
use Rattle.cyc_lexer.proofs.string.string_bytes.Goals as goal
use Rattle.cyc_lexer.proofs.string.string_bytes.Goals.{else-loop-at-test, then-loop-at-test+in_default}

pub loop-at-init : goal.loop-at-init
loop-at-init c = (omega arith, starts c.args.spelling.now c.new-bytes.result.items c.new-bytes.ensures.items)

pub loop-at-preserved : goal.loop-at-preserved
loop-at-preserved c =
    let spelling = c.args.spelling.now in
    let at = c.loop-at.at in
    let n = c.in-Some.length in
    let byte = c.in-Some.byte in
    let read : character_at 34 (part_of spelling at) ≡ Some (byte, n) =
    ap (λ end. character_at 34 (take (end - at) (drop at spelling))) (sym c.saturating_sub-end.ensures) ∙ sym c.character_at.ensures ∙ c.in-Some.is in
    let within = (character_within 34 (part_of spelling at) byte n read).1 in (
      omega (arith, within, length-take (length spelling - 1 - at) (drop at spelling), c.saturating_sub-end.ensures),
      subst (λ (items : List ℕ). Decodes spelling items (at + n)) (sym c.in_ok-push.ensures.items)
          (goes_on spelling c.loop-at.bytes.items at byte n read c.loop-at.invariant.1),
    )

pub returns-clause-read : goal.returns-clause-read
returns-clause-read c =
    let spelling = c.args.spelling.now in
    let at = c.loop-at.at in
    let bytes = c.loop-at.bytes.items in
    elim c.loop-at-test.branch [
      | else-loop-at-test w ↦ ends spelling bytes at (omega (arith, w.loop-at-test.false, c.saturating_sub-end.ensures)) c.loop-at.invariant.1
      | then-loop-at-test+in_default w ↦
          stops spelling bytes at
          (ap (λ end. character_at 34 (take (end - at) (drop at spelling))) (sym c.saturating_sub-end.ensures)
          ∙ sym w.character_at.ensures ∙ w.in_default.is)
          c.loop-at.invariant.1
    ]

pub returns-clause-meant : goal.returns-clause-meant
returns-clause-meant c = λ meant h. returns-clause-read c ∙ text_meant c.args.spelling.now meant h
