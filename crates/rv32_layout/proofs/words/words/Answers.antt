use Rattle.std.proofs.Common.{◌≡◌, ◌<◌, ◌+◌, [], ◌∷◌, length, drop, arith, refl, sym, ap, subst, ◌∙◌, append-nil, vec_len}
use Rattle.std.proofs.lemmas.List.{drop_all}
use Rattle.core_lines.specs.Lines.{size_of, code_length}
use Rattle.core_lines.specs.Relaxed.{place_of, AllReach}
use Rattle.rv32_layout.specs.Placed.{AreWords, ArePlaced, instructions_from}
use Rattle.rv32_select.specs.Beginning.{first_target}
use Rattle.rv32_layout.specs.Placing.{place_in}
use Rattle.rv32_layout.proofs.Lines.{drop_here}
use Rattle.rv32_layout.proofs.Reaching.{line_reaches, first_behind, same_reaches}
use Rattle.rv32_layout.proofs.Appending.{Appends-length, line_length, continues}
use Rattle.rv32_layout.proofs.words.words.Goals as goal

pub put_line-requires : goal.put_line-requires
put_line-requires c =
    let lines = c.args.lines.now in
    let line = c.line-item.result in
    let at = vec_len c.each.bytes in
    let rest = drop (c.each.line-index + 1) lines in
    let within : c.each.line-index < length lines = omega arith in
    let here = drop_here lines c.each.line-index line within c.line-item.is in
    let whole : at + (size_of line + code_length rest) ≡ code_length lines = omega (arith, ap code_length here, c.each.invariant.whole) in
    same_reaches (place_of lines) (place_in c.args.places.now) at line (λ label. sym (c.requires.table label))
    (line_reaches lines rest c.requires.within c.requires.begins line at whole (λ none. sym (ap first_target here) ∙ c.each.invariant.first none)
    (subst (AllReach (place_of lines) at) here c.each.invariant.reach))

pub each-preserved : goal.each-preserved
each-preserved c =
    let lines = c.args.lines.now in
    let line = c.line-item.result in
    let at = vec_len c.each.bytes in
    let next = vec_len c.put_line.new.bytes in
    let rest = drop (c.each.line-index + 1) lines in
    let within : c.each.line-index < length lines = omega arith in
    let here = drop_here lines c.each.line-index line within c.line-item.is in
    let long = line_length (place_in c.args.places.now) at line in
    let behind : next ≡ at + size_of line = omega (arith, Appends-length _ _ _ c.in_ok-put_line.ensures, long) in
    let reach : AllReach (place_of lines) at (line ∷ rest) = subst (AllReach (place_of lines) at) here c.each.invariant.reach in
    record {
      whole = omega (arith, ap code_length here, c.each.invariant.whole, behind);
      first = λ none.
          let before : at ≡ 0 = omega arith in
          let empty : size_of line ≡ 0 = omega arith in
          first_behind line rest empty ∙ sym (ap first_target here) ∙ c.each.invariant.first before;
      reach = subst (λ n. AllReach (place_of lines) n rest) (sym behind) reach.1;
      placed = λ more words.
          let all = continues (place_of lines) (place_in c.args.places.now) line rest at next c.each.bytes.items c.put_line.new.bytes.items more
          c.requires.table behind c.in_ok-put_line.ensures words in
          let spelled = subst (λ ls. AreWords (instructions_from (place_of lines) at ls) all.rest) (sym here) all.spelled in
          rw all.appended (c.each.invariant.placed all.rest spelled);
    }

pub returns-clause-placed : goal.returns-clause-placed
returns-clause-placed c =
    let lines = c.args.lines.now in
    let done : drop c.each.line-index lines ≡ [] = drop_all c.each.line-index lines (omega arith) in
    let placed = c.each.invariant.placed [] (subst (λ ls. AreWords (instructions_from (place_of lines) (vec_len c.each.bytes) ls) []) (sym done) refl) in
    subst (ArePlaced lines) (append-nil c.each.bytes.items) placed
