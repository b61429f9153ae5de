-- The cells of a struct, and how many steps they take, are those of its members.
use Rattle.std.proofs.Common.{◌≡◌, ℕ, ◌+◌, ◌≤◌, true, List, [], ◌∷◌, ◌++◌, refl, sym, ap, ◌∙◌, arith, cond, true≢false}
use Rattle.std.proofs.lemmas.Bool.{and_parts}
use Rattle.std.specs.Prelude.{None, Option, Some, is_some}
use Rattle.source_meaning.specs.Sizes.{Extent}
use Rattle.source_typing.specs.Tables.{Part, each_part, if_known}
use Rattle.source_typing.specs.Types.{StaticType, Struct}
use Rattle.cyc_types.specs.Cells.{KindAt, cells_after, found_cells, kept_with, known_cells, no_cells_of, part_cells, placed_onto, quick_cells}
use Rattle.cyc_types.specs.InOrder.{are_known}
use Rattle.cyc_types.specs.Known.{Entry, found, is_declared}
use Rattle.cyc_types.specs.Laying.{all_steps, found_steps, known_steps, no_steps, part_steps, type_steps}
use Rattle.cyc_types.specs.Measures.{bytes_and, part_extent, placed_after, quick_measure, stored}
use Rattle.cyc_types.specs.Tags.{members_of}
use Rattle.cyc_types.specs.declared.tag.Known.{Known}
use Rattle.cyc_types.proofs.Spread.{ByMembers, not_spread, spreads}

-- what is so of declared structs
abbrev Agree : {A : Type 0} → List Entry → (List ℕ → A) → (List ℕ → A) → Type 0
Agree before f g = (tag : List ℕ) (j : Known) → found before tag ≡ Some j → f tag ≡ g tag

agreed : {A : Type 0} (before : List Entry) (f g : List ℕ → A) → Agree before f g → (tag : List ℕ) (k : Option Known) → found before tag ≡ k → is_some k ≡ true
    → f tag ≡ g tag
agreed before f g agree tag None at h = absurd (true≢false (sym h))
agreed before f g agree tag (Some k) at h = agree tag k at

-- ---- cells

module _ (before : List Entry) (f g : List ℕ → List KindAt) (agree : Agree before f g) where
  type_cells : (t : StaticType) → is_declared before t ≡ true → quick_cells f t ≡ quick_cells g t
  type_cells (Struct tag rs) h = agreed before f g agree tag (found before tag) refl h
  type_cells t h = refl

  same_cells : (o : Option StaticType) → if_known (is_declared before) o ≡ true → part_cells (quick_cells f) o ≡ part_cells (quick_cells g) o
  same_cells None h = refl
  same_cells (Some t) h = type_cells t h

  all_cells : (of : StaticType → Option Extent) (s : Option Extent) (ps : List Part) → each_part (is_declared before) ps ≡ true
      → placed_onto of (quick_cells f) s ps ≡ placed_onto of (quick_cells g) s ps
  all_cells of None ps h = refl
  all_cells of (Some s) [] h = refl
  all_cells of (Some s) (p ∷ ps) h =
      let both = and_parts (if_known (is_declared before) p.type) (each_part (is_declared before) ps) h in
      ap (λ cs. cells_after s (part_extent of p.type) cs ++ placed_onto of (quick_cells f) (placed_after s (part_extent of p.type)) ps)
      (same_cells p.type both.0)
      ∙ ap (λ cs. cells_after s (part_extent of p.type) (part_cells (quick_cells g) p.type) ++ cs)
      (all_cells of (placed_after s (part_extent of p.type)) ps both.1)

cells_by_members : (all : List Entry) (k : Known) → ByMembers (known_cells all) k
cells_by_members all k f g before declared agree =
    ap (λ cs. cond k.tag.is_union [] (kept_with (stored k) cs))
    (all_cells before f g agree (quick_measure all) (Some (bytes_and 0 1)) (members_of k.tag.members.items) declared)

pub cells_of_struct : (all : List Entry) (tag : List ℕ) (k : Known) → are_known [] all ≡ true → found all tag ≡ Some k
    → found_cells all tag ≡ known_cells all (found_cells all) k
cells_of_struct all tag k known h = spreads (known_cells all) no_cells_of all tag k known h (cells_by_members all k)

pub no_struct_cells : (all : List Entry) (tag : List ℕ) → found all tag ≡ None → found_cells all tag ≡ []
no_struct_cells all tag h = not_spread (known_cells all) no_cells_of all tag h

-- ---- steps

module _ (before : List Entry) (f g : List ℕ → ℕ) (agree : Agree before f g) where
  same_type_steps : (t : StaticType) → is_declared before t ≡ true → type_steps f t ≡ type_steps g t
  same_type_steps (Struct tag rs) h = agreed before f g agree tag (found before tag) refl h
  same_type_steps t h = refl

  same_part_steps : (o : Option StaticType) → if_known (is_declared before) o ≡ true → part_steps f o ≡ part_steps g o
  same_part_steps None h = refl
  same_part_steps (Some t) h = same_type_steps t h

  same_steps : (ps : List Part) → each_part (is_declared before) ps ≡ true → all_steps f ps ≡ all_steps g ps
  same_steps [] h = refl
  same_steps (p ∷ ps) h =
      let both = and_parts (if_known (is_declared before) p.type) (each_part (is_declared before) ps) h in
      ap (λ n. 1 + n + all_steps f ps) (same_part_steps p.type both.0) ∙ ap (λ n. 1 + part_steps g p.type + n) (same_steps ps both.1)

pub steps_of_struct : (all : List Entry) (tag : List ℕ) (k : Known) → are_known [] all ≡ true → found all tag ≡ Some k
    → found_steps all tag ≡ known_steps (found_steps all) k
steps_of_struct all tag k known h =
    spreads known_steps no_steps all tag k known h (λ f g before declared agree. same_steps before f g agree (members_of k.tag.members.items) declared)

pub some_steps : (of : List ℕ → ℕ) (ps : List Part) → 1 ≤ all_steps of ps
some_steps of [] = omega arith
some_steps of (p ∷ ps) = let more = some_steps of ps in omega (arith, more)
