-- How large tagged unions are: a word for the tag, and one for the member, or three where a member is a fat pointer.
use Rattle.std.proofs.Common.{◌≡◌, ℕ, ◌+◌, ◌≤◌, List, [], ◌∷◌, max, Bool, true, false, refl, subst, sym, ap, ◌∙◌, arith}
use Rattle.std.specs.Prelude.{◌||◌, bytes_eq, if◌then◌else◌}
use Rattle.std.proofs.lemmas.Bool.{true≢false, false≢true}
use Rattle.source_meaning.specs.Shapes.{
  Shape,
  IntShape,
  UnsignedShape,
  CharShape,
  VoidShape,
  ThinShape,
  FatShape,
  HandleShape,
  KeyShape,
  StructShape,
  UnionShape,
  ArrayShape,
  Part,
  Layout,
  parts_of,
  part_shapes,
  has_tag,
}
use Rattle.source_meaning.specs.Sizes.{rounded_up, extent_by, largest, no_extent, union_extent}
use Rattle.source_lowering.specs.Layouts.{is_fat, has_fat}
use Rattle.source_lowering.specs.Lowerable.{IsValueShape, HasMember, AreValues, AreUnions}

-- how many bytes the pieces of a union take
abbrev pub union_bytes : Bool → ℕ
union_bytes false = 8
union_bytes true = 16

-- the members of a union of a tag
pub record IsUnionOf (unions : List Layout) (tag : List ℕ) : Type 0 where
  pub some : HasMember (parts_of unions tag)
  pub members : AreValues (part_shapes (parts_of unions tag))

pub union_of : (unions : List Layout) (tag : List ℕ) → AreUnions unions → has_tag unions tag ≡ true → IsUnionOf unions tag
union_of [] tag h e = absurd (false≢true e)
union_of (l ∷ ls) tag h e = by (bytes_eq l.tag tag) refl (λ f. union_of ls tag h.1 f)
  where
    parts : (b : Bool) → bytes_eq l.tag tag ≡ b → parts_of (l ∷ ls) tag ≡ (if b then l.parts else parts_of ls tag)
    parts b f = ap (λ z. if z then l.parts else parts_of ls tag) f

    as_parts : (ps : List Part) → parts_of (l ∷ ls) tag ≡ ps → HasMember ps → AreValues (part_shapes ps) → IsUnionOf (l ∷ ls) tag
    as_parts ps f some members = record {
      some = subst HasMember (sym f) some;
      members = subst (λ z. AreValues (part_shapes z)) (sym f) members;
    }

    by : (b : Bool) → bytes_eq l.tag tag ≡ b → (has_tag ls tag ≡ true → IsUnionOf ls tag) → IsUnionOf (l ∷ ls) tag
    by true f more = as_parts l.parts (parts true f) h.0.some h.0.members
    by false f more =
        let others = more (sym (ap (λ z. if z then true else has_tag ls tag) f) ∙ e) in as_parts (parts_of ls tag) (parts false f) others.some others.members

-- ---- the largest member

abbrev pub value_size : Shape → ℕ
value_size s = (extent_by no_extent no_extent s).size

-- a fat pointer has 12 bytes, and another value at most 4
pub record IsSmall (s : Shape) : Type 0 where
  pub some : 1 ≤ value_size s
  pub few : value_size s ≤ 12
  pub word : is_fat s ≡ false → value_size s ≤ 4
  pub fat : is_fat s ≡ true → 12 ≤ value_size s

pub word_small : (s : Shape) → is_fat s ≡ false → 1 ≤ value_size s → value_size s ≤ 4 → IsSmall s
word_small s thin some few = record { some = some; few = omega (arith, few); word = λ e. few; fat = λ e. absurd (true≢false (sym e ∙ thin)) }

value_small : (s : Shape) → IsValueShape s → IsSmall s
value_small IntShape h = word_small IntShape refl (omega arith) (omega arith)
value_small UnsignedShape h = word_small UnsignedShape refl (omega arith) (omega arith)
value_small CharShape h = word_small CharShape refl (omega arith) (omega arith)
value_small VoidShape h = absurd h
value_small (ThinShape b owner to) h = word_small (ThinShape b owner to) refl (omega arith) (omega arith)
value_small (FatShape to) h = record { some = omega arith; few = omega arith; word = λ e. absurd (true≢false e); fat = λ e. omega arith }
value_small HandleShape h = word_small HandleShape refl (omega arith) (omega arith)
value_small KeyShape h = word_small KeyShape refl (omega arith) (omega arith)
value_small (StructShape tag) h = absurd h
value_small (UnionShape tag) h = absurd h
value_small (ArrayShape count of) h = absurd h

abbrev most_of : ℕ → List Part → ℕ
most_of most ps = largest (extent_by no_extent no_extent) most ps

largest_least : (most : ℕ) (ps : List Part) → most ≤ most_of most ps
largest_least most [] = omega arith
largest_least most (p ∷ ps) = let more = largest_least (max most (value_size p.shape)) ps in omega (arith, more)

largest_few : (most : ℕ) (ps : List Part) → AreValues (part_shapes ps) → most ≤ 12 → most_of most ps ≤ 12
largest_few most [] h less = less
largest_few most (p ∷ ps) h less =
    let one = (value_small p.shape h.0).few in largest_few (max most (value_size p.shape)) ps h.1 (omega (arith, one, less))

largest_word : (most : ℕ) (ps : List Part) → AreValues (part_shapes ps) → has_fat ps ≡ false → most ≤ 4 → most_of most ps ≤ 4
largest_word most [] h e less = less
largest_word most (p ∷ ps) h e less = by (is_fat p.shape) refl (λ f room. largest_word (max most (value_size p.shape)) ps h.1 f room)
  where
    by : (b : Bool) → is_fat p.shape ≡ b → (has_fat ps ≡ false → max most (value_size p.shape) ≤ 4 → most_of most (p ∷ ps) ≤ 4) → most_of most (p ∷ ps) ≤ 4
    by true f more = absurd (true≢false (sym (ap (λ z. z || has_fat ps) f) ∙ e))
    by false f more = let one = (value_small p.shape h.0).word f in more (sym (ap (λ z. z || has_fat ps) f) ∙ e) (omega (arith, one, less))

largest_fat : (most : ℕ) (ps : List Part) → AreValues (part_shapes ps) → has_fat ps ≡ true → 12 ≤ most_of most ps
largest_fat most [] h e = absurd (false≢true e)
largest_fat most (p ∷ ps) h e = by (is_fat p.shape) refl (λ f. largest_fat (max most (value_size p.shape)) ps h.1 f)
  where
    by : (b : Bool) → is_fat p.shape ≡ b → (has_fat ps ≡ true → 12 ≤ most_of most (p ∷ ps)) → 12 ≤ most_of most (p ∷ ps)
    by true f more =
        let one = (value_small p.shape h.0).fat f in
        let others = largest_least (max most (value_size p.shape)) ps in
        omega (arith, one, others)
    by false f more = more (sym (ap (λ z. z || has_fat ps) f) ∙ e)

largest_some : (ps : List Part) → HasMember ps → AreValues (part_shapes ps) → 1 ≤ most_of 0 ps
largest_some [] some h = absurd some
largest_some (p ∷ ps) some h =
    let one = (value_small p.shape h.0).some in let more = largest_least (max 0 (value_size p.shape)) ps in omega (arith, one, more)

-- ---- all bytes

rounded_size : (fat : Bool) (l : ℕ) → 1 ≤ l → l ≤ 12 → (fat ≡ false → l ≤ 4) → (fat ≡ true → 12 ≤ l) → rounded_up (4 + l) 4 ≡ union_bytes fat
rounded_size true l some few word of_fat = let most = of_fat refl in omega (arith, few, most)
rounded_size false l some few word of_fat = let less = word refl in omega (arith, some, less)

pub union_size : (unions : List Layout) (tag : List ℕ) → AreUnions unions → has_tag unions tag ≡ true
    → (union_extent unions tag).size ≡ union_bytes (has_fat (parts_of unions tag))
union_size unions tag h e =
    let one = union_of unions tag h e in
    let parts : List Part = parts_of unions tag in
    rounded_size (has_fat parts) (most_of 0 parts) (largest_some parts one.some one.members) (largest_few 0 parts one.members (omega arith))
    (λ f. largest_word 0 parts one.members f (omega arith)) (λ f. largest_fat 0 parts one.members f)

pub union_small : (unions : List Layout) (tag : List ℕ) → AreUnions unions → has_tag unions tag ≡ true → (union_extent unions tag).size ≤ 16
union_small unions tag h e = subst (λ z. z ≤ 16) (sym (union_size unions tag h e)) (by (has_fat (parts_of unions tag)))
  where
    by : (b : Bool) → union_bytes b ≤ 16
    by true = omega arith
    by false = omega arith
