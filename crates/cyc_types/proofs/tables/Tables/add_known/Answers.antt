use Rattle.std.proofs.Common.{◌≡◌, ap, subst, sym, true, ◌∙◌, ◌++◌, ◌∷◌, []}
use Rattle.std.proofs.lemmas.Result.{on_ok_weaker}
use Rattle.indexmap.proofs.CallerLemmas.{insert_entry-new}
use Rattle.std.specs.Str.{bytes_eq}
use Rattle.std.specs.List.{list_all}
use Rattle.source_typing.specs.Tables.{each_part, if_known}
use Rattle.cyc_types.specs.Known.{entries_of, has_declared, quick_begins, quick_copies}
use Rattle.cyc_types.specs.Measures.{measured, quick_tag}
use Rattle.cyc_types.specs.Tags.{member_of, members_of, named_tag}
use Rattle.cyc_types.specs.declared.tag.Tag.{Tag}
use Rattle.cyc_types.proofs.InOrder.{each_member, entries_more, known_either, known_more, none_found}
use Rattle.cyc_types.proofs.tables.Tables.add_known.Goals as goal

pub invariant_of-self : goal.invariant_of-self
invariant_of-self c =
    let old = c.args.self.now.tags in
    let at = c.args.name in
    let tag = c.args.tag in
    let k = c.in_ok-known.known in
    let is = c.in_ok-known.ensures in
    let appended = insert_entry-new (λ x y. bytes_eq x.now y.now) old at k (none_found old.entries at.now c.requires.new) in
    record {
      known = known_either c.insert.result old.entries c.insert.new.self.entries (at, k)
          (on_ok_weaker c.insert.result (λ e. e ∙ appended) c.insert.ensures.entries) c.insert.ensures.err c.args.self.now.known
          (known_more old.entries at k c.args.self.now.known c.requires.new
          (subst (λ (t : Tag). each_part (has_declared (entries_of old.entries)) (members_of t.members.items) ≡ true) (sym is.tag) c.requires.declared)
          (is.copyable ∙ c.all_copied-copyable.ensures
          ∙ ap (list_all (λ m. if_known (quick_copies old.entries) (member_of m).type)) c.deref.ensures.value
          ∙ each_member (quick_copies old.entries) tag.members.items
          ∙ ap (λ (t : Tag). each_part (quick_copies old.entries) (members_of t.members.items)) (sym is.tag))
          (is.begins ∙ c.all_begin-begins.ensures
          ∙ ap (list_all (λ m. if_known (quick_begins old.entries) (member_of m).type)) c.deref-2.ensures.value
          ∙ each_member (quick_begins old.entries) tag.members.items
          ∙ ap (λ (t : Tag). each_part (quick_begins old.entries) (members_of t.members.items)) (sym is.tag))
          (ap measured is.extent ∙ c.tag_extent-extent.ensures ∙ ap (quick_tag old.entries) (sym is.tag)));
    }

pub returns-clause-added : goal.returns-clause-added
returns-clause-added c =
    let old = c.args.self.now.tags in
    let at = c.args.name in
    let k = c.in_ok-known.known in
    let appended = insert_entry-new (λ x y. bytes_eq x.now y.now) old at k (none_found old.entries at.now c.requires.new) in
    ap entries_of (c.in_ok-insert.ensures.entries ∙ appended) ∙ entries_more old.entries (at, k)
    ∙ ap (λ t. entries_of old.entries ++ named_tag at.now t ∷ []) c.in_ok-known.ensures.tag
