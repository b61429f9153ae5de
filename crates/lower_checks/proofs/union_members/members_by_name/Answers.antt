use Rattle.std.proofs.Common.{◌≡◌, ◌∙◌, ◌+◌, ℕ, suc, List, Option, Some, None, ap, arith, drop, if◌then◌else◌, map, sym}
use Rattle.std.proofs.lemmas.List.{drop_all}
use Rattle.std.specs.Prelude.{bytes_eq, option_map}
use Rattle.cyc_tree.specs.View.{member_tree}
use Rattle.source_meaning.specs.Places.{or_else}
use Rattle.source_meaning.specs.Shapes.{Part, Shape, part_of}
use Rattle.lower_checks.specs.Firsts.{first_in}
use Rattle.lower_checks.specs.UnionMembers.{NumberedShape, chosen_tree, member_from, member_in}
use Rattle.lower_checks.specs.declared.union_members.Chosen.{Chosen}
use Rattle.lower_checks.proofs.Bodies.{left_parameters}
use Rattle.lower_checks.proofs.Tables.{first_kept}
use Rattle.source_meaning.proofs.Firsts.{nothing_more}
use Rattle.lower_checks.proofs.union_members.members_by_name.Goals as goal

-- the next member is in front of those that are left
pub each-preserved : goal.each-preserved
each-preserved c =
    let members = c.args.members.now in
    let k = c.each.member-index in
    let p = part_of (member_tree c.member-item.result) in
    let rest = map part_of (map member_tree (drop (k + 1) members)) in
    let left = left_parameters members k c.member-item.result c.each-test.true c.member-item.is in
    record {
      counted = ap (λ n. n + 1) c.each.invariant.counted;
      first = λ name.
          let old = first_in c.each.table name in
          let value : Chosen = record { number = c.each.number; shape = c.of-shape.result } in
          let others = member_from rest (c.each.number + 1) name in
          let joined : Shape → ℕ → Option NumberedShape = λ s n.
          or_else (member_in c.each.table name)
          (if bytes_eq p.name name then Some (record { number = c.each.number; shape = s }) else member_from rest n name) in
          let next : c.each.number + 1 ≡ suc c.each.number = omega arith in
          ap (λ o. or_else (option_map chosen_tree o) others)
          (c.in_ok-add.ensures name ∙ ap (λ (text : List ℕ). or_else old (if bytes_eq text name then Some value else None)) c.deref.ensures.value)
          ∙ first_kept chosen_tree old (bytes_eq p.name name) value others
          ∙ ap (λ s. joined s (c.each.number + 1)) c.of-shape.ensures
          ∙ ap (joined p.shape) next
          ∙ ap (λ (ps : List Part). or_else (member_in c.each.table name) (member_from ps c.each.number name)) (sym left)
          ∙ c.each.invariant.first name;
    }

pub returns : goal.returns
returns c = λ name.
    let found = member_in c.each.table name in
    sym (nothing_more found)
    ∙ ap (λ rest. or_else found (member_from (map part_of (map member_tree rest)) c.each.number name))
    (sym (drop_all c.each.member-index c.args.members.now (omega (arith, c.each-test.false))))
    ∙ c.each.invariant.first name
