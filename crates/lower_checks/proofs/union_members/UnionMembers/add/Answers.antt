use Rattle.std.proofs.Common.{rules, ◌∙◌, sym, ap, Some}
use Rattle.std.proofs.lemmas.Map.Text.{hash_map_updates_str}
use Rattle.std.specs.Cmp.Lexicographic.{bytes_decides}
use Rattle.std.specs.Prelude.{bytes_eq}
use Rattle.lower_checks.specs.UnionMembers.{members_at}
use Rattle.source_meaning.proofs.Firsts.{has_none}
use Rattle.lower_checks.proofs.UnionMembers.{met_first}
use Rattle.lower_checks.proofs.union_members.UnionMembers.add.Goals as goal

pub returns-in-Ok : goal.returns-in-Ok
returns-in-Ok c =
    λ other rest all met.
    let old = c.args.self.now in
    let tag = c.args.tag.now in
    let table = c.in_ok-table.table in
    let updated = hash_map_updates_str tag old.by_tag c.insert.new.self (Some table) c.in-Ok.ensures.updates other in
    met_first (members_at old other) _ (bytes_eq tag other) table _ rest all
    (λ same. ap (members_at old) (sym ((bytes_decides tag other).0 same)) ∙ has_none (members_at old tag) (search rules)) c.in_ok-table.ensures updated met
