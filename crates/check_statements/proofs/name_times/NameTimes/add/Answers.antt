use Rattle.std.proofs.Common.{◌≡◌, ◌+◌, ◌∙◌, Bor, List, ap, arith, ℕ}
use Rattle.std.specs.Prelude.{bytes_eq, unwrap_or}
use Rattle.indexmap.specs.IndexMap.{get_by}
use Rattle.check_statements.specs.Switching.{times_of}
use Rattle.check_statements.proofs.Clauses.{found_times, times_added}
use Rattle.check_statements.proofs.name_times.NameTimes.add.Goals as goal

pub returns-in_ok-insert-in-Some : goal.returns-in_ok-insert-in-Some
returns-in_ok-insert-in-Some c = λ x.
    let old = c.args.self.now in
    let name : Bor (List ℕ) = c.args.name in
    let more : c.in-Some.times ≡ times_of old name.now + 1 = grind (arith, c.in-Some.ensures, c.of.ensures) in
    ap (λ o. unwrap_or o 0) (c.in_ok-insert-in-Some.ensures.updates.0 (record name { now = x }))
    ∙ found_times (bytes_eq name.now x) c.in-Some.times (get_by (λ key. bytes_eq x key.now) old.by_name)
    ∙ times_added name.now x (times_of old) c.in-Some.times more
