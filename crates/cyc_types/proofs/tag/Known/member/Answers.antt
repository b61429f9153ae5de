use Rattle.std.proofs.Common.{◌≡◌, ◌∙◌, ap, length, refl, sym}
use Rattle.std.proofs.lemmas.Option.{slice_get_past, slice_get_read}
use Rattle.std.specs.Prelude.{None, Some, option_map, slice_get}
use Rattle.cyc_types.specs.MemberNames.{member_at}
use Rattle.cyc_types.specs.Tags.{member_of}
use Rattle.cyc_types.proofs.MemberNames.{found_at}
use Rattle.cyc_types.proofs.tag.Known.member.Goals as goal

pub returns-in-Some-get : goal.returns-in-Some-get
returns-in-Some-get c =
    let known = c.args.self.now in
    let name = c.args.name.now in
    let members = known.tag.members.items in
    let at = c.in-Some.position in
    let found = ap (λ i. option_map member_of (member_at members i)) (sym c.in-Some.is ∙ c.of.ensures ∙ known.named.positions name) ∙ found_at members name in
    let lookup = c.in-Some-get.ensures.lookup in
    let e : slice_get members at ≡ Some c.in-Some-get.member.now =
    ap (λ ms. slice_get ms at) (sym c.deref.ensures.value)
    ∙ slice_get_read c.deref.result.now (length c.deref.result.now) at c.in-Some-get.member.now refl lookup.3.0 lookup.1 in
    sym (ap (option_map member_of) e) ∙ found

pub returns-in-None-get : goal.returns-in-None-get
returns-in-None-get c =
    let known = c.args.self.now in
    let name = c.args.name.now in
    let members = known.tag.members.items in
    let at = c.in-Some.position in
    let found = ap (λ i. option_map member_of (member_at members i)) (sym c.in-Some.is ∙ c.of.ensures ∙ known.named.positions name) ∙ found_at members name in
    let lookup = c.in-None-get.ensures.lookup in
    let e : slice_get members at ≡ None =
    ap (λ ms. slice_get ms at) (sym c.deref.ensures.value) ∙ slice_get_past c.deref.result.now at lookup.3 in
    sym (ap (option_map member_of) e) ∙ found

pub returns-in-None : goal.returns-in-None
returns-in-None c =
    let known = c.args.self.now in
    let name = c.args.name.now in
    let members = known.tag.members.items in
    ap (λ i. option_map member_of (member_at members i)) (sym c.in-None.is ∙ c.of.ensures ∙ known.named.positions name) ∙ found_at members name
