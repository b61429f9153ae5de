use Rattle.std.proofs.Common.{[], ◌∷◌, ap, false, sym, ◌∙◌}
use Rattle.std.specs.Prelude.{bytes_eq, codes, is_some, ◌||◌}
use Rattle.check_programs.proofs.program.seen_first.Goals as goal

pub returns : goal.returns
returns c x =
    let first = c.in_ok-see.ensures.seen [] (λ y. sym (ap is_some (c.new-seen.ensures y))) in
    ap (λ n. bytes_eq n x || (bytes_eq (codes "putchar") x || false)) (sym c.as_slice-2.ensures)
    ∙ ap (λ n. bytes_eq c.as_slice-2.result.now x || (bytes_eq n x || false)) (sym c.as_slice.ensures)
    ∙ c.in_ok-see-2.ensures.seen (c.as_slice.result.now ∷ []) first x
