-- Tables of members: what they have is where the members lie, and a tag's table stays its own.
use Rattle.std.proofs.Common.{◌≡◌, ◌∙◌, ℕ, ◌+◌, refl, sym, ap, subst, List, [], ◌∷◌, Bool, true, false, Option, Some, None, length, arith}
use Rattle.std.specs.Prelude.{bytes_eq, option_map, IfSome, if◌then◌else◌}
use Rattle.source_meaning.specs.Shapes.{Part, Shape, part_shape, parts_of}
use Rattle.source_meaning.specs.Sizes.{cells_before, rounded_up}
use Rattle.source_meaning.specs.Steps.{World}
use Rattle.source_meaning.specs.Conversions.{cells_of}
use Rattle.source_lowering.specs.Layouts.{bytes_before, extent_of}
use Rattle.lower_checks.specs.MemberPlaces.{ArePlaces, HasPlaces, place_by, place_from, places_at}
use Rattle.lower_checks.specs.Reaching.{Place, reached_place}
use Rattle.lower_checks.specs.Views.{shape_tree}
use Rattle.lower_checks.specs.declared.first.Firsts.{Firsts}
use Rattle.lower_checks.specs.declared.member.Reached.{Reached}
use Rattle.lower_checks.specs.declared.member_places.MemberPlaces.{MemberPlaces}

-- ---- the first part of a name

either : {A : Type 0} (f : Place → A) (own : Bool) (p : Place) (rest : Option Place) (a b : A) → f p ≡ a → IfSome rest (λ q. f q ≡ b)
    → IfSome (if own then Some p else rest) (λ q. f q ≡ (if own then a else b))
either f true p rest a b is others = is
either f false p rest a b is others = others

cells_if : (own : Bool) (p : Place) (rest : Option Place) (before count more : ℕ) → p.cells ≡ before → IfSome rest (λ q. q.cells ≡ before + count + more)
    → IfSome (if own then Some p else rest) (λ q. q.cells ≡ before + (if own then 0 else count + more))
cells_if true p rest before count more is others = omega (arith, is)
cells_if false p (Some q) before count more is others = omega (arith, others)
cells_if false p None before count more is others = tt

abbrev place : Shape → ℕ → ℕ → Place
place s before at = record { shape = s; cells = before; bytes = at }

shape_is : (w : World) (ps : List Part) (before so_far : ℕ) (name : List ℕ) → IfSome (place_from w ps before so_far name) (λ q. q.shape ≡ part_shape ps name)
shape_is w [] before so_far name = tt
shape_is w (p ∷ ps) before so_far name =
    let at = rounded_up so_far (extent_of w p.shape).align in
    let next = at + (extent_of w p.shape).size in
    let count = length (cells_of w p.shape) in
    either (λ (q : Place). q.shape) (bytes_eq p.name name) (place p.shape before at) (place_from w ps (before + count) next name) p.shape (part_shape ps name)
    refl (shape_is w ps (before + count) next name)

cells_are : (w : World) (ps : List Part) (before so_far : ℕ) (name : List ℕ)
    → IfSome (place_from w ps before so_far name) (λ q. q.cells ≡ before + cells_before (cells_of w) ps name)
cells_are w [] before so_far name = tt
cells_are w (p ∷ ps) before so_far name =
    let at = rounded_up so_far (extent_of w p.shape).align in
    let next = at + (extent_of w p.shape).size in
    let count = length (cells_of w p.shape) in
    cells_if (bytes_eq p.name name) (place p.shape before at) (place_from w ps (before + count) next name) before count (cells_before (cells_of w) ps name) refl
    (cells_are w ps (before + count) next name)

bytes_are : (w : World) (ps : List Part) (before so_far : ℕ) (name : List ℕ)
    → IfSome (place_from w ps before so_far name) (λ q. q.bytes ≡ bytes_before (extent_of w) so_far ps name)
bytes_are w [] before so_far name = tt
bytes_are w (p ∷ ps) before so_far name =
    let at = rounded_up so_far (extent_of w p.shape).align in
    let next = at + (extent_of w p.shape).size in
    let count = length (cells_of w p.shape) in
    either (λ (q : Place). q.bytes) (bytes_eq p.name name) (place p.shape before at) (place_from w ps (before + count) next name) at
    (bytes_before (extent_of w) next ps name) refl (bytes_are w ps (before + count) next name)

-- ---- what is found by a tag and a name

-- it lies where the first of these parts with the name does
pub record IsPlaced (w : World) (ps : List Part) (name : List ℕ) (r : Reached) : Type 0 where
  pub shape : shape_tree r.shape ≡ part_shape ps name
  pub cells : r.cells ≡ cells_before (cells_of w) ps name
  pub bytes : r.bytes ≡ bytes_before (extent_of w) 0 ps name

placed_at : (w : World) (ps : List Part) (name : List ℕ) (r : Reached) → Some (reached_place r) ≡ place_from w ps 0 0 name → IsPlaced w ps name r
placed_at w ps name r is =
    let cells : r.cells ≡ 0 + cells_before (cells_of w) ps name =
    subst (λ (o : Option Place). IfSome o (λ q. q.cells ≡ 0 + cells_before (cells_of w) ps name)) (sym is) (cells_are w ps 0 0 name) in
    record {
      shape = subst (λ (o : Option Place). IfSome o (λ q. q.shape ≡ part_shape ps name)) (sym is) (shape_is w ps 0 0 name);
      cells = omega (arith, cells);
      bytes = subst (λ (o : Option Place). IfSome o (λ q. q.bytes ≡ bytes_before (extent_of w) 0 ps name)) (sym is) (bytes_are w ps 0 0 name);
    }

pub placed : (w : World) (tag name : List ℕ) (at : Option (Firsts Reached)) (found : Option Reached)
    → IfSome at (λ table. HasPlaces w (parts_of w.structs tag) table) → found ≡ place_by at name
    → IfSome found (λ r. IsPlaced w (parts_of w.structs tag) name r)
placed w tag name at None has is = tt
placed w tag name None (Some r) has is = absurd cc is
placed w tag name (Some table) (Some r) has is =
    placed_at w (parts_of w.structs tag) name r (ap (option_map reached_place) is ∙ has name)

-- what is known of each thing that is found, of this one
pub if_found : {A : Type 0} (P Q : A → Type 0) (found : Option A) → ((a : A) → P a → Q a) → IfSome found P → IfSome found Q
if_found P Q None weaker h = tt
if_found P Q (Some a) weaker h = weaker a h

-- ---- one table more

-- no tables
pub none_placed : (w : World) (places : MemberPlaces) → ((tag : List ℕ) → places_at places tag ≡ None) → ArePlaces w places
none_placed w places none = λ tag.
    subst (λ (o : Option (Firsts Reached)). IfSome o (λ table. HasPlaces w (parts_of w.structs tag) table)) (sym (none tag)) tt

-- that of a tag is its own, and the others stay
pub place_more : (w : World) (own : Bool) (tag other : List ℕ) (table : Firsts Reached) (old : Option (Firsts Reached)) → (own ≡ true → tag ≡ other)
    → HasPlaces w (parts_of w.structs tag) table → IfSome old (λ t. HasPlaces w (parts_of w.structs other) t)
    → IfSome (if own then Some table else old) (λ t. HasPlaces w (parts_of w.structs other) t)
place_more w true tag other table old same has before = subst (λ (x : List ℕ). HasPlaces w (parts_of w.structs x) table) (same refl) has
place_more w false tag other table old same has before = before
