use Rattle.std.proofs.Common.{◌≡◌, ◌∙◌, ◌+◌, ◌∷◌, ap, arith, drop, sym}
use Rattle.std.proofs.lemmas.List.{drop_all, drop_more}
use Rattle.std.specs.Prelude.{bytes_eq}
use Rattle.source_meaning.specs.Places.{or_else}
use Rattle.source_meaning.proofs.Firsts.{nothing_more}
use Rattle.cyc_types.specs.MemberNames.{position_from, position_named}
use Rattle.cyc_types.proofs.MemberNames.{one_further}
use Rattle.cyc_types.proofs.member_names.positions.Goals as goal

-- the next member is the first of those that are left
pub each-preserved : goal.each-preserved
each-preserved c =
    let members = c.args.members.now in
    let k = c.each.member-index in
    let m = c.member-item.result in
    let left : drop k members ≡ m ∷ drop (k + 1) members =
    drop_more members k m c.each-test.true ∙ ap (λ y. y ∷ drop (k + 1) members) (sym c.member-item.is) in
    record {
      counted = ap (λ n. n + 1) c.each.invariant.counted;
      first = λ x.
          let old = position_named c.each.names x in
          let rest = position_from (drop (k + 1) members) (c.each.position + 1) x in
          ap (λ i. or_else i rest) (c.in_ok-add.ensures x)
          ∙ one_further old (bytes_eq m.name.now x) c.each.position rest
          ∙ ap (λ ms. or_else old (position_from ms c.each.position x)) (sym left)
          ∙ c.each.invariant.first x;
    }

pub returns : goal.returns
returns c =
    let none_left = drop_all c.each.member-index c.args.members.now (omega (arith, c.each-test.false)) in
    record {
      positions = λ x.
          let found = position_named c.each.names x in
          sym (nothing_more found)
          ∙ ap (λ ms. or_else found (position_from ms c.each.position x)) (sym none_left)
          ∙ c.each.invariant.first x;
    }
