use Rattle.std.proofs.Common.{◌∙◌, ◌≡◌, ◌≤◌, ℕ, List, Some, if◌then◌else◌, ap, refl, subst, sym}
use Rattle.std.proofs.lemmas.Map.Text.{hash_map_updates_str}
use Rattle.std.specs.Prelude.{bytes_eq}
use Rattle.cyc_tree.specs.View.{structure_tree}
use Rattle.source_meaning.specs.Programs.{layout_of}
use Rattle.cyc_tree.specs.declared.item.Member.{Member}
use Rattle.source_lowering.specs.Layouts.{bytes_through}
use Rattle.lower_checks.specs.Structs.{AreLaid, room_in, struct_in}
use Rattle.lower_checks.specs.declared.layouts.Structs.{Structs}
use Rattle.lower_checks.proofs.Near.{next_near, next_small}
use Rattle.lower_checks.proofs.Structs.{knows_more, made_of, members_laid, parts_in}
use Rattle.lower_checks.proofs.layouts.Structs.add.Goals as goal

-- the members can be laid, and end within 4,096 bytes
pub lay_all-requires : goal.lay_all-requires
lay_all-requires c =
    let table = c.args.self.now in
    let l = layout_of (structure_tree c.args.structure.now) in
    let next = c.requires.next in
    let items_are = sym c.deref.ensures.value in
    record {
      small = subst (λ (ms : List Member). bytes_through (room_in table) 0 (parts_in ms) ≤ 4096) items_are (next_small table l next);
      near = next_near table l next;
      taken = subst (λ (ms : List Member). AreLaid table (parts_in ms)) items_are (members_laid table next.unions next.structs l next.knows next.next);
    }

pub returns-in-Ok : goal.returns-in-Ok
returns-in-Ok c = record {
  added =
      λ unions structs knows.
      let old = c.args.self.now in
      let new : Structs = record { by_tag = c.insert.new.self; unions = old.unions } in
      let k = c.in_ok-known.known in
      let next = c.requires.next in
      let l = layout_of (structure_tree c.args.structure.now) in
      let added : (tag : List ℕ) → struct_in new tag ≡ (if bytes_eq l.tag tag then Some k else struct_in old tag) =
      λ tag.
      hash_map_updates_str c.deref-3.result.now old.by_tag c.insert.new.self (Some k) c.in-Ok.ensures.updates tag
      ∙ ap (λ (x : List ℕ). if bytes_eq x tag then Some k else struct_in old tag) c.deref-3.ensures.value in
      let laid : AreLaid old (parts_in c.deref.result.now) =
      subst (λ (ms : List Member). AreLaid old (parts_in ms)) (sym c.deref.ensures.value) (members_laid old next.unions next.structs l next.knows next.next) in
      let made =
      made_of old l k c.in_ok-laying.laying c.deref-2.result c.deref.result c.args.structure.now.members.items refl c.deref-2.ensures.value
      c.deref.ensures.value c.in_ok-known.ensures.members c.in_ok-known.ensures.size c.in_ok-known.ensures.align c.in_ok-known.ensures.cells
      c.in_ok-laying.ensures.room c.in_ok-laying.ensures.cells laid in
      knows_more old new l k unions structs made refl added knows;
}
