-- What is copied, and what has a beginning, is the same in all tables of the rules that have the structs and unions that code has.
use Rattle.std.proofs.Common.{◌≡◌, ℕ, ◌≤◌, Bool, true, false, List, refl, sym, ap, ◌∙◌, arith, suc, zero, length}
use Rattle.std.proofs.lemmas.List.{length-map}
use Rattle.source_typing.proofs.Parts.{each_as}
use Rattle.source_typing.specs.Extents.{layouts_of, size_by, size_of}
use Rattle.source_typing.specs.Tables.{begins, copies, each_part, has_beginning, is_copyable, parts_in, parts_of_tag, tag_in}
use Rattle.source_typing.specs.Types.{Char, Fat, Handle, Int, Key, Null, StaticType, Struct, Thin, Union, Unique, Unsigned, Void}
use Rattle.cyc_types.specs.Known.{Entry, entries_of, named_by, quick_begins, quick_copies}
use Rattle.cyc_types.specs.Sameness.{HasTags}
use Rattle.cyc_types.specs.Tables.{tables_of}
use Rattle.cyc_types.specs.declared.tables.Tables.{Tables}
use Rattle.cyc_types.specs.declared.tag.Known.{Known}
use Rattle.cyc_types.proofs.InOrder.{Looks, begins_known, begins_looks, by_tables, copies_known, copies_looks}
use Rattle.source_typing.specs.Tables as rules

-- a rule that looks into structs finds the same in tables that have the same structs
module _ (deep : ℕ → rules.Tables → StaticType → Bool) (quick : List Entry → StaticType → Bool) (flag : Known → Bool) (looks : Looks deep quick flag)
    (g h : rules.Tables) (es : List Entry) (same : (x : List ℕ) → tag_in g x ≡ tag_in h x) where
  elsewhere : (n : ℕ) (t : StaticType) → ((es : List Entry) (g : rules.Tables) → deep n g t ≡ quick es t) → deep n g t ≡ deep n h t
  elsewhere n t else = else es g ∙ sym (else es h)

  pub finds_same : (n : ℕ) (t : StaticType) → deep n g t ≡ deep n h t
  finds_same zero (Struct tag rs) = looks.nowhere g tag rs ∙ sym (looks.nowhere h tag rs)
  finds_same (suc n) (Struct tag rs) =
      looks.into n g tag rs
      ∙ ap (λ t. each_part (deep n g) (parts_of_tag t)) (same tag)
      ∙ each_as (deep n g) (deep n h) (parts_in h tag) (λ t. finds_same n t)
      ∙ sym (looks.into n h tag rs)
  finds_same n Int = elsewhere n Int (λ es g. looks.else n g es Int refl)
  finds_same n Unsigned = elsewhere n Unsigned (λ es g. looks.else n g es Unsigned refl)
  finds_same n Char = elsewhere n Char (λ es g. looks.else n g es Char refl)
  finds_same n Void = elsewhere n Void (λ es g. looks.else n g es Void refl)
  finds_same n Null = elsewhere n Null (λ es g. looks.else n g es Null refl)
  finds_same n (Thin m r t) = elsewhere n (Thin m r t) (λ es g. looks.else n g es (Thin m r t) refl)
  finds_same n (Fat r t) = elsewhere n (Fat r t) (λ es g. looks.else n g es (Fat r t) refl)
  finds_same n (Unique m t) = elsewhere n (Unique m t) (λ es g. looks.else n g es (Unique m t) refl)
  finds_same n (Handle r) = elsewhere n (Handle r) (λ es g. looks.else n g es (Handle r) refl)
  finds_same n (Key r) = elsewhere n (Key r) (λ es g. looks.else n g es (Key r) refl)
  finds_same n (Union tag rs) = elsewhere n (Union tag rs) (λ es g. looks.else n g es (Union tag rs) refl)

-- they have at least as many names, so each struct is looked into
module _ (tables : Tables) (g : rules.Tables) (h : HasTags tables g) where
  all_names : length tables.tags.entries ≤ length g
  all_names = omega (arith, h.depth, length-map tables.tags.entries named_by)

  pub copyable_same : (t : StaticType) → is_copyable g t ≡ is_copyable (tables_of tables) t
  copyable_same t =
      let es = tables.tags.entries in
      finds_same copies quick_copies (λ k. k.copyable) copies_looks g (entries_of es) es h.tags (length g) t
      ∙ by_tables copies quick_copies (λ k. k.copyable) copies_looks (length g) es all_names tables.known t
      ∙ sym (copies_known es tables.known t)

  pub beginning_same : (t : StaticType) → has_beginning g t ≡ has_beginning (tables_of tables) t
  beginning_same t =
      let es = tables.tags.entries in
      finds_same begins quick_begins (λ k. k.begins) begins_looks g (entries_of es) es h.tags (length g) t
      ∙ by_tables begins quick_begins (λ k. k.begins) begins_looks (length g) es all_names tables.known t
      ∙ sym (begins_known es tables.known t)

  -- the same layouts, so the same bytes
  pub size_same : (t : StaticType) → size_of g t ≡ size_of (tables_of tables) t
  size_same t =
      ap (λ ls. size_by ls (layouts_of true g) t) (h.layouts false) ∙ ap (λ ls. size_by (layouts_of false (tables_of tables)) ls t) (h.layouts true)
