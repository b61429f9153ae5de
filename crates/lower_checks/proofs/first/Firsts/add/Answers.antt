use Rattle.std.proofs.Common.{rules, ◌∙◌, ap, sym}
use Rattle.std.proofs.lemmas.Map.Text.{hash_map_updates_str}
use Rattle.std.specs.Cmp.Lexicographic.{bytes_decides}
use Rattle.std.specs.Prelude.{Some, bytes_eq}
use Rattle.lower_checks.specs.Firsts.{first_in}
use Rattle.source_meaning.proofs.Firsts.{first_added, has_none}
use Rattle.lower_checks.proofs.first.Firsts.add.Goals as goal

pub returns-in_ok-insert : goal.returns-in_ok-insert
returns-in_ok-insert g c =
    λ other.
    hash_map_updates_str c.args.name.now c.args.self.now.by_name c.insert.new.self (Some c.args.value) c.in_ok-insert.ensures.updates other
    ∙ first_added (bytes_eq c.args.name.now other) c.args.value (first_in c.args.self.now other)
    (λ same. ap (first_in c.args.self.now) (sym ((bytes_decides c.args.name.now other).0 same))
    ∙ has_none (first_in c.args.self.now c.args.name.now) (search rules))
