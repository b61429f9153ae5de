-- What is known of declared structs and unions stays so with those that follow.
use Rattle.std.proofs.Common.{◌≡◌, ℕ, true, false, List, [], ◌∷◌, ◌++◌, refl, sym, ap, ◌∙◌, cond, true≢false}
use Rattle.std.proofs.lemmas.Bool.{and_parts}
use Rattle.std.specs.Prelude.{None, Option, Some, is_some}
use Rattle.source_meaning.specs.Sizes.{Extent}
use Rattle.source_typing.specs.Tables.{Part, each_part, if_known}
use Rattle.source_typing.specs.Types.{StaticType, Struct, Union}
use Rattle.cyc_types.specs.InOrder.{are_known}
use Rattle.cyc_types.specs.Known.{Entry, found, is_declared}
use Rattle.cyc_types.specs.Measures.{bytes_and, part_extent, placed_after, quick_laid, quick_measure, quick_tag, stored, struct_if, struct_measure, union_bytes}
use Rattle.cyc_types.specs.Measures.{union_if}
use Rattle.cyc_types.specs.Tags.{members_of}
use Rattle.cyc_types.specs.declared.tag.Known.{Known}
use Rattle.cyc_types.proofs.InLayouts.{kept, same_as}
use Rattle.cyc_types.proofs.InOrder.{facts, known_at, split}

if_found : {A : Type 0} (what : Option Known → A) (before after : List Entry) (tag : List ℕ) (k : Option Known) → found before tag ≡ k → is_some k ≡ true
    → what (found before tag) ≡ what (found (before ++ after) tag)
if_found what before after tag None at h = absurd (true≢false (sym h))
if_found what before after tag (Some k) at h = ap what (at ∙ sym (kept before after tag k at))

type_measure_still : (before after : List Entry) (t : StaticType) → is_declared before t ≡ true → quick_measure before t ≡ quick_measure (before ++ after) t
type_measure_still before after (Struct tag rs) h = if_found (struct_if stored) before after tag (found before tag) refl h
type_measure_still before after (Union tag rs) h = if_found (union_if stored) before after tag (found before tag) refl h
type_measure_still before after t h = refl

pub part_measure_still : (before after : List Entry) (o : Option StaticType) → if_known (is_declared before) o ≡ true
    → part_extent (quick_measure before) o ≡ part_extent (quick_measure (before ++ after)) o
part_measure_still before after None h = refl
part_measure_still before after (Some t) h = type_measure_still before after t h

laid_still : (before after : List Entry) (s : Option Extent) (ps : List Part) → each_part (is_declared before) ps ≡ true
    → quick_laid (quick_measure before) s ps ≡ quick_laid (quick_measure (before ++ after)) s ps
laid_still before after None ps h = by ps
  where
    by : (ps : List Part) → quick_laid (quick_measure before) None ps ≡ quick_laid (quick_measure (before ++ after)) None ps
    by [] = refl
    by (p ∷ ps) = refl
laid_still before after (Some s) [] h = refl
laid_still before after (Some s) (p ∷ ps) h =
    let both = and_parts (if_known (is_declared before) p.type) (each_part (is_declared before) ps) h in
    laid_still before after (placed_after s (part_extent (quick_measure before) p.type)) ps both.1
    ∙ ap (λ o. quick_laid (quick_measure (before ++ after)) (placed_after s o) ps) (part_measure_still before after p.type both.0)

-- the bytes that are known of a struct are those of its members
pub known_measure : (all : List Entry) (tag : List ℕ) (k : Known) → are_known [] all ≡ true → found all tag ≡ Some k → k.tag.is_union ≡ false
    → stored k ≡ struct_measure all (members_of k.tag.members.items)
known_measure all tag k known h struct =
    let s = split all tag k h in
    let ms = members_of k.tag.members.items in
    let own = facts s.before s.at.now k (known_at [] s.before s.after (s.at, k) (ap (are_known []) (sym s.is) ∙ known)) in
    same_as (stored k) (quick_tag s.before k.tag) own.counted
    ∙ ap (λ b. cond b (Some (union_bytes ms)) (struct_measure s.before ms)) struct
    ∙ laid_still s.before ((s.at, k) ∷ s.after) (Some (bytes_and 0 1)) ms own.declared
    ∙ ap (λ l. struct_measure l ms) (sym s.is)
