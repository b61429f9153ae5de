-- Parts that tile bytes: no two of them meet, and none of the bytes is left out.
use Rattle.std.proofs.Common.{
  ◌≡◌,
  ℕ,
  zero,
  suc,
  ◌+◌,
  ◌<◌,
  ◌≤◌,
  ◌⊎◌,
  inl,
  inr,
  List,
  [],
  ◌∷◌,
  ◌++◌,
  Bool,
  true,
  false,
  nat_eq,
  Some,
  refl,
  sym,
  ap,
  ◌∙◌,
  subst,
  arith,
}
use Rattle.std.specs.Prelude.{◌&&◌, nat_lt, slice_get}
use Rattle.std.proofs.lemmas.Bool.{eqb-true, eq-eqb}
use Rattle.std.proofs.lemmas.Bool.Decides.{nat_tests}
use Rattle.std.proofs.lemmas.Option.{same_Some, none-some}
use Rattle.core_meaning.specs.Memory.{PartShape, shape_in}
use Rattle.core_meaning.specs.Layouts.{Apart, AreJoined, parts_end, AreCellsJoined, cells_end}

-- ---- parts that tile bytes

abbrev pub Tile : ℕ → ℕ → List PartShape → Type 0
Tile from to [] = (from ≡ to)
Tile from to (x ∷ xs) = (x.offset ≡ from) × Tile (from + x.width) to xs

-- cells, one after the other
abbrev pub AllTile : ℕ → ℕ → List (List PartShape) → Type 0
AllTile from to [] = (from ≡ to)
AllTile from to (xs ∷ xss) = (middle : ℕ) × (Tile from middle xs × AllTile middle to xss)

-- of two lists, one behind the other
pub tile_both : (from middle to : ℕ) (xs ys : List PartShape) → Tile from middle xs → Tile middle to ys → Tile from to (xs ++ ys)
tile_both from middle to [] ys h g = subst (λ z. Tile z to ys) (sym h) g
tile_both from middle to (x ∷ xs) ys h g = (h.0, tile_both (from + x.width) middle to xs ys h.1 g)

tile_on : (from to : ℕ) (xs : List PartShape) → Tile from to xs → from ≤ to
tile_on from to [] h = omega (arith, h)
tile_on from to (x ∷ xs) h = let more = tile_on (from + x.width) to xs h.1 in omega (arith, more)

all_on : (from to : ℕ) (xss : List (List PartShape)) → AllTile from to xss → from ≤ to
all_on from to [] h = omega (arith, h)
all_on from to (xs ∷ xss) h =
    let one = tile_on from h.0 xs h.1.0 in
    let more = all_on h.0 to xss h.1.1 in
    omega (arith, one, more)

-- a part lies within
pub record IsWithin (from to : ℕ) (s : PartShape) : Type 0 where
  pub low : from ≤ s.offset
  pub high : s.offset + s.width ≤ to

part_within : (from to : ℕ) (xs : List PartShape) (j : ℕ) (s : PartShape) → Tile from to xs → slice_get xs j ≡ Some s → IsWithin from to s
part_within from to [] j s h e = absurd (none-some s e)
part_within from to (x ∷ xs) zero s h e =
    let more = tile_on (from + x.width) to xs h.1 in
    let offset = h.0 in
    subst (λ z. IsWithin from to z) (same_Some x s e) (record { low = omega (arith, offset); high = omega (arith, offset, more) })
part_within from to (x ∷ xs) (suc j) s h e =
    let one = part_within (from + x.width) to xs j s h.1 e in
    let low = one.low in
    record { low = omega (arith, low); high = one.high }

pub has_within : (from to : ℕ) (xss : List (List PartShape)) (k j : ℕ) (s : PartShape) → AllTile from to xss → shape_in (slice_get xss k) j ≡ Some s
    → IsWithin from to s
has_within from to [] k j s h e = absurd (none-some s e)
has_within from to (xs ∷ xss) zero j s h e =
    let one = part_within from h.0 xs j s h.1.0 e in
    let more = all_on h.0 to xss h.1.1 in
    let high = one.high in
    record { low = one.low; high = omega (arith, high, more) }
has_within from to (xs ∷ xss) (suc k) j s h e =
    let one = has_within h.0 to xss k j s h.1.1 e in
    let more = tile_on from h.0 xs h.1.0 in
    let low = one.low in
    record { low = omega (arith, low, more); high = one.high }

same_false : (k : ℕ) → nat_eq k k ≡ false → ⊥
same_false k e = absurd (grind (arith, nat_tests, e))

next_eq : (i j : ℕ) → nat_eq (suc i) (suc j) ≡ false → nat_eq i j ≡ false
next_eq i j e = grind (arith, nat_tests, e)

parts_apart : (from to : ℕ) (xs : List PartShape) (i j : ℕ) (s t : PartShape) → Tile from to xs → nat_eq i j ≡ false → slice_get xs i ≡ Some s
    → slice_get xs j ≡ Some t → Apart s.offset s.width t.offset t.width
parts_apart from to [] i j s t h ne e f = absurd (none-some s e)
parts_apart from to (x ∷ xs) zero zero s t h ne e f = absurd (same_false zero ne)
parts_apart from to (x ∷ xs) zero (suc j) s t h ne e f =
    let other = (part_within (from + x.width) to xs j t h.1 f).low in
    let offset = h.0 in
    subst (λ z. Apart z.offset z.width t.offset t.width) (same_Some x s e) (inl (omega (arith, other, offset)))
parts_apart from to (x ∷ xs) (suc i) zero s t h ne e f =
    let other = (part_within (from + x.width) to xs i s h.1 e).low in
    let offset = h.0 in
    subst (λ z. Apart s.offset s.width z.offset z.width) (same_Some x t f) (inr (omega (arith, other, offset)))
parts_apart from to (x ∷ xs) (suc i) (suc j) s t h ne e f = parts_apart (from + x.width) to xs i j s t h.1 (next_eq i j ne) e f

next_same : (a b : ℕ) → nat_eq a b ≡ nat_eq (suc a) (suc b)
next_same a b = by (nat_eq a b) refl
  where
    by : (x : Bool) → nat_eq a b ≡ x → nat_eq a b ≡ nat_eq (suc a) (suc b)
    by true e = e ∙ sym (eq-eqb (suc a) (suc b) (ap suc (eqb-true a b e)))
    by false e = let other : nat_eq (suc a) (suc b) ≡ false = grind (arith, nat_tests, e) in e ∙ sym other

pub cells_apart : (from to : ℕ) (xss : List (List PartShape)) (k i l j : ℕ) (s t : PartShape) → AllTile from to xss → (nat_eq k l && nat_eq i j) ≡ false
    → shape_in (slice_get xss k) i ≡ Some s → shape_in (slice_get xss l) j ≡ Some t → Apart s.offset s.width t.offset t.width
cells_apart from to [] k i l j s t h ne e f = absurd (none-some s e)
cells_apart from to (xs ∷ xss) zero i zero j s t h ne e f = parts_apart from h.0 xs i j s t h.1.0 ne e f
cells_apart from to (xs ∷ xss) zero i (suc l) j s t h ne e f =
    let one = (part_within from h.0 xs i s h.1.0 e).high in
    let other = (has_within h.0 to xss l j t h.1.1 f).low in
    inl (omega (arith, one, other))
cells_apart from to (xs ∷ xss) (suc k) i zero j s t h ne e f =
    let one = (part_within from h.0 xs j t h.1.0 f).high in
    let other = (has_within h.0 to xss k i s h.1.1 e).low in
    inr (omega (arith, one, other))
cells_apart from to (xs ∷ xss) (suc k) i (suc l) j s t h ne e f =
    cells_apart h.0 to xss k i l j s t h.1.1 (ap (λ z. z && nat_eq i j) (next_same k l) ∙ ne) e f

-- each byte lies in a part
pub record HasByte (xss : List (List PartShape)) (at : ℕ) : Type 0 where
  pub cell : ℕ
  pub part : ℕ
  pub shape : PartShape
  pub has : shape_in (slice_get xss cell) part ≡ Some shape
  pub low : shape.offset ≤ at
  pub high : at < shape.offset + shape.width

byte_in : (from to at : ℕ) (xs : List PartShape) → Tile from to xs → from ≤ at → at < to
    → (j : ℕ) × ((s : PartShape) × ((slice_get xs j ≡ Some s) × ((s.offset ≤ at) × (at < s.offset + s.width))))
byte_in from to at [] h low high = absurd (omega (arith, h, low, high))
byte_in from to at (x ∷ xs) h low high = by (nat_lt at (from + x.width)) refl (λ more. byte_in (from + x.width) to at xs h.1 more high)
  where
    by : (b : Bool) → nat_lt at (from + x.width) ≡ b
        → (from + x.width ≤ at → (j : ℕ) × ((s : PartShape) × ((slice_get xs j ≡ Some s) × ((s.offset ≤ at) × (at < s.offset + s.width)))))
        → (j : ℕ) × ((s : PartShape) × ((slice_get (x ∷ xs) j ≡ Some s) × ((s.offset ≤ at) × (at < s.offset + s.width))))
    by true e rest =
        let offset = h.0 in
        let less : at < from + x.width = grind (arith, nat_tests, e) in
        (0, (x, (refl, (omega (arith, offset, low), omega (arith, offset, less)))))
    by false e rest =
        let more : from + x.width ≤ at = grind (arith, nat_tests, e) in
        let r = rest more in
        (suc r.0, (r.1.0, (r.1.1.0, (r.1.1.1.0, r.1.1.1.1))))

pub byte_there : (from to at : ℕ) (xss : List (List PartShape)) → AllTile from to xss → from ≤ at → at < to → HasByte xss at
byte_there from to at [] h low high = absurd (omega (arith, h, low, high))
byte_there from to at (xs ∷ xss) h low high = by (nat_lt at h.0) refl (λ more. byte_there h.0 to at xss h.1.1 more high)
  where
    by : (b : Bool) → nat_lt at h.0 ≡ b → (h.0 ≤ at → HasByte xss at) → HasByte (xs ∷ xss) at
    by true e rest =
        let less : at < h.0 = grind (arith, nat_tests, e) in
        let r = byte_in from h.0 at xs h.1.0 low less in
        record { cell = 0; part = r.0; shape = r.1.0; has = r.1.1.0; low = r.1.1.1.0; high = r.1.1.1.1 }
    by false e rest =
        let more : h.0 ≤ at = grind (arith, nat_tests, e) in
        let r = rest more in
        record { cell = suc r.cell; part = r.part; shape = r.shape; has = r.has; low = r.low; high = r.high }

-- ---- what holds of each part

abbrev pub Each : (PartShape → Type 0) → List PartShape → Type 0
Each P [] = Unit {0}
Each P (x ∷ xs) = P x × Each P xs

abbrev pub EachOf : (PartShape → Type 0) → List (List PartShape) → Type 0
EachOf P [] = Unit {0}
EachOf P (xs ∷ xss) = Each P xs × EachOf P xss

pub each_both : (P : PartShape → Type 0) (xs ys : List PartShape) → Each P xs → Each P ys → Each P (xs ++ ys)
each_both P [] ys h g = g
each_both P (x ∷ xs) ys h g = (h.0, each_both P xs ys h.1 g)

each_part : (P : PartShape → Type 0) (xs : List PartShape) (j : ℕ) (s : PartShape) → Each P xs → slice_get xs j ≡ Some s → P s
each_part P [] j s h e = absurd (none-some s e)
each_part P (x ∷ xs) zero s h e = subst P (same_Some x s e) h.0
each_part P (x ∷ xs) (suc j) s h e = each_part P xs j s h.1 e

pub each_has : (P : PartShape → Type 0) (xss : List (List PartShape)) (k j : ℕ) (s : PartShape) → EachOf P xss → shape_in (slice_get xss k) j ≡ Some s → P s
each_has P [] k j s h e = absurd (none-some s e)
each_has P (xs ∷ xss) zero j s h e = each_part P xs j s h.0 e
each_has P (xs ∷ xss) (suc k) j s h e = each_has P xss k j s h.1 e

-- ---- parts one behind the other

abbrev pub IsByteOrWord : PartShape → Type 0
IsByteOrWord x = (x.width ≡ 1) ⊎ (x.width ≡ 4)

tile_joined : (from to : ℕ) (xs : List PartShape) → Tile from to xs → Each IsByteOrWord xs → AreJoined from xs
tile_joined from to [] h e = tt
tile_joined from to (x ∷ xs) h e = (h.0, e.0, tile_joined (from + x.width) to xs h.1 e.1)

tile_end : (from to : ℕ) (xs : List PartShape) → Tile from to xs → parts_end from xs ≡ to
tile_end from to [] h = h
tile_end from to (x ∷ xs) h = tile_end (from + x.width) to xs h.1

pub all_joined : (from to : ℕ) (xss : List (List PartShape)) → AllTile from to xss → EachOf IsByteOrWord xss → AreCellsJoined from xss
all_joined from to [] h e = tt
all_joined from to (xs ∷ xss) h e =
    (tile_joined from h.0 xs h.1.0 e.0, subst (λ k. AreCellsJoined k xss) (sym (tile_end from h.0 xs h.1.0)) (all_joined h.0 to xss h.1.1 e.1))

pub all_end : (from to : ℕ) (xss : List (List PartShape)) → AllTile from to xss → cells_end from xss ≡ to
all_end from to [] h = h
all_end from to (xs ∷ xss) h = ap (λ k. cells_end k xss) (tile_end from h.0 xs h.1.0) ∙ all_end h.0 to xss h.1.1
