use Rattle.std.proofs.Common.{rules, ◌∙◌, ap, sym}
use Rattle.std.proofs.lemmas.Map.Text.{hash_map_updates_str}
use Rattle.std.specs.Cmp.Lexicographic.{bytes_decides}
use Rattle.std.specs.Prelude.{Some, bytes_eq}
use Rattle.source_meaning.proofs.Firsts.{first_added, has_none}
use Rattle.cyc_types.specs.MemberNames.{position_named}
use Rattle.cyc_types.proofs.member_names.MemberNames.add.Goals as goal

pub returns-in_ok-insert : goal.returns-in_ok-insert
returns-in_ok-insert c = λ x.
    let old = c.args.self.now in
    let name = c.args.name.now in
    hash_map_updates_str name old.by_name c.insert.new.self (Some c.args.position) c.in_ok-insert.ensures.updates x
    ∙ first_added (bytes_eq name x) c.args.position (position_named old x)
    (λ same. ap (position_named old) (sym ((bytes_decides name x).0 same)) ∙ has_none (position_named old name) (search rules))
