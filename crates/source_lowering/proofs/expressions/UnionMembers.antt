-- A member of a union by its name: its number, and its shape.
use Rattle.std.proofs.Common.{◌≡◌, ℕ, zero, suc, ◌+◌, ◌^◌, ◌<◌, List, [], ◌∷◌, length, Bool, true, false, Option, Some, None, refl, subst, arith}
use Rattle.std.specs.Prelude.{bytes_eq, if◌then◌else◌, option_map, slice_get}
use Rattle.source_meaning.specs.Shapes.{Shape, Part, Layout, parts_of, part_position, part_shape, part_shapes}
use Rattle.source_lowering.specs.Lowerable.{IsValueShape, AreValues, AreUnions}

-- ---- members

pub record IsFound (ps : List Part) (f : List ℕ) (j : ℕ) : Type 0 where
  pub shape : slice_get (part_shapes ps) j ≡ Some (part_shape ps f)
  pub below : j < length ps

pub part_found : (ps : List Part) (f : List ℕ) (j : ℕ) → part_position ps f ≡ Some j → IsFound ps f j
part_found [] f j is = absurd (cc is)
part_found (p ∷ ps) f j is = by (bytes_eq p.name f) refl j is (λ i e. part_found ps f i e)
  where
    later : (j : ℕ) (o : Option ℕ) → part_position ps f ≡ o → option_map (λ k. k + 1) o ≡ Some j → bytes_eq p.name f ≡ false
        → ((i : ℕ) → part_position ps f ≡ Some i → IsFound ps f i) → IsFound (p ∷ ps) f j
    later j None e is other again = absurd (cc is)
    later j (Some i) e is other again =
        let more : suc i ≡ i + 1 = omega arith in
        let next : suc i ≡ j = cc (more, is) in
        let found = again i e in
        let less = found.below in
        subst (λ z. IsFound (p ∷ ps) f z) next (record { shape = rw other found.shape; below = omega (arith, less) })

    by : (b : Bool) → bytes_eq p.name f ≡ b → (j : ℕ) → (if b then Some 0 else option_map (λ k. k + 1) (part_position ps f)) ≡ Some j
        → ((i : ℕ) → part_position ps f ≡ Some i → IsFound ps f i) → IsFound (p ∷ ps) f j
    by true e j is again = let first : 0 ≡ j = cc is in subst (λ z. IsFound (p ∷ ps) f z) first (record { shape = rw e refl; below = omega arith })
    by false e j is again = later j (part_position ps f) refl is e again

pub value_at : (ss : List Shape) (j : ℕ) (s : Shape) → AreValues ss → slice_get ss j ≡ Some s → IsValueShape s
value_at [] j s h is = absurd (cc is)
value_at (x ∷ xs) zero s h is = let same : x ≡ s = cc is in subst (λ z. IsValueShape z) same h.0
value_at (x ∷ xs) (suc j) s h is = value_at xs j s h.1 is

-- a word counts them
pub union_few : (unions : List Layout) (tag : List ℕ) → AreUnions unions → length (parts_of unions tag) < 2 ^ 32
union_few [] tag h = omega arith
union_few (l ∷ ls) tag h = by (bytes_eq l.tag tag) (union_few ls tag h.1)
  where
    by : (b : Bool) → length (parts_of ls tag) < 2 ^ 32 → length (if b then l.parts else parts_of ls tag) < 2 ^ 32
    by true less = h.0.few
    by false less = less
