-- The bytes of members, one at a time.
use Rattle.std.proofs.Common.{◌≡◌, ℕ, ◌+◌, ◌<◌, List, ◌∷◌, sym, ap, ◌∙◌, drop, get_or, length, max}
use Rattle.std.proofs.lemmas.List.{drop_more}
use Rattle.std.specs.Prelude.{Option, Some}
use Rattle.source_meaning.specs.Sizes.{Extent, extent_by, largest, no_extent}
use Rattle.source_typing.specs.Extents.{part_shapes}
use Rattle.source_typing.specs.Types.{StaticType}
use Rattle.cyc_types.specs.Measures.{part_extent, placed_after, quick_laid, scalar_bytes}
use Rattle.cyc_types.specs.Tags.{member_of, members_of}
use Rattle.cyc_types.specs.declared.tag.Member.{Member}

module _ (ms : List Member) (i : ℕ) (m : Member) (within : i < length ms) (is_item : m ≡ get_or ms i m) where
  next : drop i ms ≡ m ∷ drop (i + 1) ms
  next = drop_more ms i m within ∙ ap (λ y. y ∷ drop (i + 1) ms) (sym is_item)

  pub largest_more : (most : ℕ)
      → largest (extent_by no_extent no_extent) (max most (scalar_bytes (member_of m).type)) (part_shapes (members_of (drop (i + 1) ms)))
      ≡ largest (extent_by no_extent no_extent) most (part_shapes (members_of (drop i ms)))
  largest_more most = sym (ap (λ l. largest (extent_by no_extent no_extent) most (part_shapes (members_of l))) next)

  pub laid_more : (of : StaticType → Option Extent) (s : Extent) (after : Option Extent) → after ≡ placed_after s (part_extent of (member_of m).type)
      → quick_laid of after (members_of (drop (i + 1) ms)) ≡ quick_laid of (Some s) (members_of (drop i ms))
  laid_more of s after h = ap (λ o. quick_laid of o (members_of (drop (i + 1) ms))) h ∙ sym (ap (λ l. quick_laid of (Some s) (members_of l)) next)
