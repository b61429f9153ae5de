use Rattle.std.proofs.Common.{◌≡◌, ℕ, ◌+◌, ◌<◌, ◌≤◌, true, false, List, refl, sym, ap, subst, ◌∙◌, arith}
use Rattle.cyc_image.specs.Format.{code_limit}
use Rattle.core_lines.specs.declared.line.Line.{Line}
use Rattle.core_lines.specs.Lines.{code_length}
use Rattle.core_lines.specs.Relaxed.{place_of, shortened, none_wide}
use Rattle.rv32_layout.specs.Placing.{place_in, all_reach, lengthened}
use Rattle.rv32_layout.proofs.Shortened.{placeable}
use Rattle.rv32_layout.proofs.Rounds.{AreBetween, at_first, one_more, at_last, round_grows, no_longer_yet}
use Rattle.rv32_layout.proofs.relaxed.relax.Goals as goal

pub returns-then-is_too_large-clause-too_large : goal.returns-then-is_too_large-clause-too_large
returns-then-is_too_large-clause-too_large c = λ _.
    let all = c.args.labelled.now.lines in
    let over : code_limit < code_length (shortened (none_wide c.lines-all.result.now) c.lines-all.result.now) =
    grind (arith, c.is_too_large.ensures, c.if-is_too_large.true) in
    omega (
      arith,
      over,
      ap (λ (ls : List Line). code_length (shortened (none_wide ls) ls)) c.lines-all.ensures.same,
      no_longer_yet all (shortened (none_wide all) all) (at_first all (shortened (none_wide all) all) refl),
    )

pub rounds-init : goal.rounds-init
rounds-init c =
    at_first c.args.labelled.now.lines c.in_ok-lines.lines.items
    (c.in_ok-lines.ensures ∙ ap (λ (ls : List Line). shortened (none_wide ls) ls) c.lines-all.ensures.same)

pub returns-then-is_none-clause-too_large : goal.returns-then-is_none-clause-too_large
returns-then-is_none-clause-too_large c = λ _.
    let over : code_limit < code_length c.as_slice.result.now = grind (arith, c.length.ensures.over, c.is_none.ensures, c.if-is_none.true) in
    omega (arith, over, ap code_length c.as_slice.ensures.value, no_longer_yet c.args.labelled.now.lines c.rounds.lines.items c.rounds.invariant)

pub returns-then-all_reach-clause-lines : goal.returns-then-all_reach-clause-lines
returns-then-all_reach-clause-lines c =
    let placed = c.rounds.lines.items in
    let table = place_in c.in_ok-places.places in
    let same : (label : ℕ) → table label ≡ place_of placed label =
    λ label. c.in_ok-places.ensures label ∙ ap (λ ls. place_of ls label) c.as_slice-in-rounds.ensures.value in
    let reach : all_reach table 0 placed ≡ true =
    ap (λ ls. all_reach table 0 ls) (sym c.as_slice-in-rounds-2.ensures.value) ∙ sym c.all_reach.ensures ∙ c.if-all_reach.true in
    at_last c.args.labelled.now.lines placed table same c.lines-all.ensures.long c.rounds.invariant reach

pub returns-then-all_reach-clause-placeable : goal.returns-then-all_reach-clause-placeable
returns-then-all_reach-clause-placeable c =
    let placed = c.rounds.lines.items in
    let table = place_in c.in_ok-places.places in
    let same : (label : ℕ) → table label ≡ place_of placed label =
    λ label. c.in_ok-places.ensures label ∙ ap (λ ls. place_of ls label) c.as_slice-in-rounds.ensures.value in
    let reach : all_reach table 0 placed ≡ true =
    ap (λ ls. all_reach table 0 ls) (sym c.as_slice-in-rounds-2.ensures.value) ∙ sym c.all_reach.ensures ∙ c.if-all_reach.true in
    let short : code_length c.as_slice.result.now ≤ code_limit = grind (arith, c.length.ensures.over, c.is_none.ensures, c.if-is_none.false) in
    placeable c.args.labelled.now.lines placed c.in_ok-places.places c.lines-all.ensures.begins c.lines-all.ensures.long
    (at_last c.args.labelled.now.lines placed table same c.lines-all.ensures.long c.rounds.invariant reach)
    (omega (arith, short, ap code_length c.as_slice.ensures.value)) same

pub rounds-smaller : goal.rounds-smaller
rounds-smaller c =
    let placed = c.rounds.lines.items in
    let table = place_in c.in_ok-places.places in
    let beyond : all_reach table 0 placed ≡ false =
    ap (λ ls. all_reach table 0 ls) (sym c.as_slice-in-rounds-2.ensures.value) ∙ sym c.all_reach.ensures ∙ c.if-all_reach.false in
    let short : code_length c.as_slice.result.now ≤ code_limit = grind (arith, c.length.ensures.over, c.is_none.ensures, c.if-is_none.false) in
    let next = c.in_ok-lines-2.ensures ∙ ap (λ ls. lengthened table 0 ls) c.as_slice-in-rounds-3.ensures.value in
    omega (arith, round_grows table 0 placed beyond, ap code_length next, short, ap code_length c.as_slice.ensures.value)

pub rounds-preserved : goal.rounds-preserved
rounds-preserved c =
    let placed = c.rounds.lines.items in
    let table = place_in c.in_ok-places.places in
    let same : (label : ℕ) → table label ≡ place_of placed label =
    λ label. c.in_ok-places.ensures label ∙ ap (λ ls. place_of ls label) c.as_slice-in-rounds.ensures.value in
    let next = c.in_ok-lines-2.ensures ∙ ap (λ ls. lengthened table 0 ls) c.as_slice-in-rounds-3.ensures.value in
    subst (AreBetween c.args.labelled.now.lines) (sym next) (one_more c.args.labelled.now.lines placed table same c.lines-all.ensures.long c.rounds.invariant)
