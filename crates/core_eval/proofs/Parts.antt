-- The parts of cells, as layouts and as the evaluator have them.
use Rattle.std.specs.Prelude.{if◌then◌else◌, slice_get, slice_set, nat_eq, nat_lt, option_map}
use Rattle.std.proofs.Common.{◌≡◌, ℕ, zero, suc, ◌+◌, ◌*◌, Bool, true, false, Option, Some, None, List, [], ◌∷◌, ◌++◌, map, refl, ap, ◌∙◌, sym, suc-mul, arith}
use Rattle.std.proofs.Math.Dec.{eqb-suc-suc, eqb-zero-suc, eqb-suc-zero}
use Rattle.std.proofs.lemmas.Bool.Decides.{nat_tests}
use Rattle.core_meaning.specs.Memory as memory
use Rattle.core_meaning.specs.Memory.{Part, PartShape}
use Rattle.cyc_core.specs.declared.operation.Cell.{Cell}
use Rattle.cyc_core.specs.declared.operation.Cell.TheVariants as cell
use Rattle.cyc_core.specs.declared.layout.CellLayout.{CellLayout}
use Rattle.cyc_core.specs.Trees.{bytes_of, cell_bytes, made_parts, padding_parts, cell_parts}
use Rattle.core_eval.specs.declared.value.Value.{Value}
use Rattle.core_eval.specs.declared.value.Value.TheVariants as value
use Rattle.core_eval.specs.declared.value.Slot.{Slot}
use Rattle.core_eval.specs.declared.held.Bound.{Bound}
use Rattle.core_eval.specs.declared.held.Bound.TheVariants as bound
use Rattle.core_eval.specs.declared.held.Held.{Held}
use Rattle.core_eval.specs.declared.held.Held.TheVariants as held
use Rattle.core_eval.specs.Values.{content_of, width_of, bound_value, kept_of, values_in, put_part, first_held, blanked, parts_from, part_of, with_held}
use Rattle.core_eval.specs.Elements.{held_first, slot_from}

-- ---- the parts of a layout's cell

-- a part as a layout has it, which begins as a value does
abbrev pub shape_of : (offset width : ℕ) → Value → PartShape
shape_of offset width v = record { offset = offset; width = width; first = content_of v }

-- parts from a byte on that are so wide and begin as these values, and so many bytes behind them
abbrev pub shapes_from : (at wide m : ℕ) → List Value → List PartShape
shapes_from at wide m [] = padding_parts at m
shapes_from at wide m (v ∷ vs) = shape_of at wide v ∷ shapes_from (at + wide) wide m vs

-- the parts of a cell from a byte on that begins as this, and so many bytes behind them
abbrev pub shapes_by : ℕ → Held → ℕ → List PartShape
shapes_by at h m = shapes_from at (bytes_of (width_of h)) m (values_in h)

pub cell_shapes : (c : CellLayout) → cell_parts c ≡ shapes_by c.offset (first_held c.cell) c.padding
cell_shapes c = by c.cell
  where
    from : (k : Cell) (x y : ℕ) → x ≡ y → made_parts k c.offset ++ padding_parts x c.padding ≡ made_parts k c.offset ++ padding_parts y c.padding
    from k x y e = ap (λ at. made_parts k c.offset ++ padding_parts at c.padding) e

    by : (k : Cell) → made_parts k c.offset ++ padding_parts (c.offset + cell_bytes k) c.padding ≡ shapes_by c.offset (first_held k) c.padding
    by cell.Byte = refl
    by cell.Word = refl
    by cell.Pointer = refl
    by cell.Fat = from cell.Fat (c.offset + 12) (c.offset + 4 + 4 + 4) (omega arith)
    by cell.Handle = refl
    by cell.Tagged = from cell.Tagged (c.offset + 8) (c.offset + 4 + 4) (omega arith)
    by cell.TaggedFat = from cell.TaggedFat (c.offset + 16) (c.offset + 4 + 4 + 4 + 4) (omega arith)

-- a cell alone
pub made_shapes : (k : Cell) → made_parts k 0 ≡ shapes_by 0 (first_held k) 0
made_shapes cell.Byte = refl
made_shapes cell.Word = refl
made_shapes cell.Pointer = refl
made_shapes cell.Fat = refl
made_shapes cell.Handle = refl
made_shapes cell.Tagged = refl
made_shapes cell.TaggedFat = refl

-- a byte that holds nothing, if there is one
abbrev pub padding_shape : Bool → ℕ → Option PartShape
padding_shape there at = (if there then Some (record { offset = at; width = 1; first = memory.Blank }) else None)

abbrev pub nothing_at : Bool → ℕ → Option Part
nothing_at there at = (if there then Some (record { offset = at; width = 1; content = memory.Blank }) else None)

less_suc : (j n : ℕ) → nat_lt j n ≡ nat_lt (suc j) (suc n)
less_suc j n = grind (arith, nat_tests)

pub padding_part : (at n j : ℕ) → slice_get (padding_parts at n) j ≡ padding_shape (nat_lt j n) (at + j)
padding_part at zero j = let e : nat_lt j 0 ≡ false = grind (arith, nat_tests) in ap (λ b. padding_shape b (at + j)) (sym e)
padding_part at (suc n) zero = let e : nat_lt 0 (suc n) ≡ true = grind (arith, nat_tests) in
    let z : at ≡ at + 0 = omega arith in
    ap (padding_shape true) z ∙ ap (λ b. padding_shape b (at + 0)) (sym e)
padding_part at (suc n) (suc j) =
    let z : at + 1 + j ≡ at + suc j = omega arith in
    padding_part (at + 1) n j ∙ ap (padding_shape (nat_lt j n)) z ∙ ap (λ b. padding_shape b (at + suc j)) (less_suc j n)

-- ---- a cell at its object's beginning

-- a part of an element that lies so many bytes on: it holds what it begins as, or nothing as yet
abbrev pub shape_part : (begun : Bool) → ℕ → Option PartShape → Option Part
shape_part begun before None = None
shape_part begun before (Some s) = Some (record { offset = before + s.offset; width = s.width; content = if begun then s.first else memory.Blank })

-- a part with a value
abbrev pub made_part : (offset width : ℕ) → Value → Part
made_part offset width v = record { offset = offset; width = width; content = content_of v }

part_from : (x y w : ℕ) (v : Value) → x ≡ y → Some (made_part x w v) ≡ Some (made_part y w v)
part_from x y w v e = ap (λ (o : ℕ). Some (made_part o w v)) e

nothing_from : (begun there : Bool) (x y before : ℕ) → before + x ≡ y → shape_part begun before (padding_shape there x) ≡ nothing_at there y
nothing_from true true x y before e = ap (nothing_at true) e
nothing_from false true x y before e = ap (nothing_at true) e
nothing_from begun false x y before e = refl

-- the bytes behind the parts
behind : (begun : Bool) (before at from n j : ℕ) → before + at ≡ from
    → shape_part begun before (slice_get (padding_parts at n) j) ≡ nothing_at (nat_lt j n) (from + j)
behind begun before at from n j e =
    ap (shape_part begun before) (padding_part at n j) ∙ nothing_from begun (nat_lt j n) (at + j) (from + j) before (omega (arith, e))

abbrev pub begun_as : Bool → Held → Held
begun_as begun h = (if begun then h else blanked h)

abbrev pub parts_as : (h : Held) → (at m j : ℕ) → Option Part
parts_as h at m j = parts_from at (bytes_of (width_of h)) m (values_in h) j

-- a value that a part begins with, or nothing as yet
abbrev begun_value : Bool → Value → Value
begun_value begun v = (if begun then v else value.Blank)

parts_begun : (begun : Bool) (vs : List Value) (at wide m from before j : ℕ) → before + at ≡ from
    → shape_part begun before (slice_get (shapes_from at wide m vs) j) ≡ parts_from from wide m (map (begun_value begun) vs) j
parts_begun begun [] at wide m from before j e = behind begun before at from m j e
parts_begun true (v ∷ vs) at wide m from before zero e = part_from (before + at) from wide v e
parts_begun false (v ∷ vs) at wide m from before zero e = part_from (before + at) from wide value.Blank e
parts_begun begun (v ∷ vs) at wide m from before (suc j) e = parts_begun begun vs (at + wide) wide m (from + wide) before j (omega (arith, e))

begun_values : (begun : Bool) (h : Held) → map (begun_value begun) (values_in h) ≡ values_in (begun_as begun h)
begun_values true (held.Byte v) = refl
begun_values true (held.Word v) = refl
begun_values true (held.Fat u v w) = refl
begun_values true (held.Tagged t v) = refl
begun_values true (held.TaggedFat t u v w) = refl
begun_values false (held.Byte v) = refl
begun_values false (held.Word v) = refl
begun_values false (held.Fat u v w) = refl
begun_values false (held.Tagged t v) = refl
begun_values false (held.TaggedFat t u v w) = refl

begun_width : (begun : Bool) (h : Held) → width_of h ≡ width_of (begun_as begun h)
begun_width true h = refl
begun_width false (held.Byte v) = refl
begun_width false (held.Word v) = refl
begun_width false (held.Fat u v w) = refl
begun_width false (held.Tagged t v) = refl
begun_width false (held.TaggedFat t u v w) = refl

held_part_is : (begun : Bool) (h : Held) (at m before j : ℕ)
    → shape_part begun before (slice_get (shapes_by at h m) j) ≡ parts_as (begun_as begun h) (before + at) m j
held_part_is begun h at m before j =
    parts_begun begun (values_in h) at (bytes_of (width_of h)) m (before + at) before j refl
    ∙ ap (λ vs. parts_from (before + at) (bytes_of (width_of h)) m vs j) (begun_values begun h)
    ∙ ap (λ w. parts_from (before + at) (bytes_of w) m (values_in (begun_as begun h)) j) (begun_width begun h)

pub cell_part : (begun : Bool) (c : CellLayout) (before j : ℕ) → shape_part begun before (slice_get (cell_parts c) j) ≡ part_of (slot_from begun before c) j
cell_part begun c before j =
    ap (λ shapes. shape_part begun before (slice_get shapes j)) (cell_shapes c) ∙ held_part_is begun (first_held c.cell) c.offset c.padding before j

-- an object of one cell
pub one_part : (begun : Bool) (k : Cell) (j : ℕ) → shape_part begun 0 (slice_get (made_parts k 0) j) ≡ parts_as (held_first begun k) 0 0 j
one_part begun k j = ap (λ shapes. shape_part begun 0 (slice_get shapes j)) (made_shapes k) ∙ held_part_is begun (first_held k) 0 0 0 j

-- ---- one part that holds another value

-- a part of a cell with a value
abbrev pub valued_part : Slot → ℕ → Value → Part
valued_part s j v = made_part (s.offset + j * bytes_of (width_of s.held)) (bytes_of (width_of s.held)) v

parts_set : (vs : List Value) (at wide n j z : ℕ) (u v : Value) → slice_get vs j ≡ Some u
    → parts_from at wide n (slice_set vs j v) z
    ≡ (if nat_eq z j then Some (made_part (at + j * wide) wide v) else parts_from at wide n vs z)
parts_set [] at wide n j z u v e = cc
parts_set (x ∷ vs) at wide n zero zero u v e = part_from at (at + 0 * wide) wide v (omega arith)
parts_set (x ∷ vs) at wide n zero (suc z) u v e =
    ap (λ b. if b then Some (made_part (at + 0 * wide) wide v) else parts_from (at + wide) wide n vs z)
    (sym (eqb-suc-zero z))
parts_set (x ∷ vs) at wide n (suc j) zero u v e =
    ap (λ b. if b then Some (made_part (at + suc j * wide) wide v)
    else Some (made_part at wide x)) (sym (eqb-zero-suc j))
parts_set (x ∷ vs) at wide n (suc j) (suc z) u v e =
    let on : at + wide + j * wide ≡ at + suc j * wide = (let times = suc-mul j wide in omega (arith, times)) in
    parts_set vs (at + wide) wide n j z u v e
    ∙ ap (λ (o : ℕ). if nat_eq z j then Some (made_part o wide v) else parts_from (at + wide) wide n vs z) on
    ∙ ap (λ b. if b then Some (made_part (at + suc j * wide) wide v) else parts_from (at + wide) wide n vs z)
    (sym (eqb-suc-suc z j))

-- what a cell holds with another value in a part that it has
record IsSet (h : Held) (j : ℕ) (v : Value) (h' : Held) : Type 0 where
  pub old : Value
  pub there : slice_get (values_in h) j ≡ Some old
  pub values : values_in h' ≡ slice_set (values_in h) j v
  pub width : width_of h' ≡ width_of h

-- a count, an index or a tag is kept as it is
kept_as : (v : Value) (f : Bound → Held) (h' : Held) → option_map f (kept_of v) ≡ Some h' → (k : Bound) × (bound_value k ≡ v) × (f k ≡ h')
kept_as value.Blank f h' e = (bound.Blank, refl, cc)
kept_as (value.Word n) f h' e = (bound.Word n, refl, cc)
kept_as value.Null f h' e = absurd (cc)
kept_as (value.Pointer p) f h' e = absurd (cc)
kept_as (value.Birth d) f h' e = absurd (cc)

module _ (v : Value) where
  set_is : (h : Held) (j : ℕ) (h' : Held) → put_part h j v ≡ Some h' → IsSet h j v h'
  set_is (held.Byte u) zero h' e =
      let is : held.Byte v ≡ h' = cc in record { old = u; there = refl; values = sym (ap values_in is); width = sym (ap width_of is) }
  set_is (held.Byte u) (suc j) h' e =
      absurd (let none : None ≡ Some h' = ap (λ b. if b then Some (held.Byte v) else None) (sym (eqb-suc-zero j)) ∙ e in cc)
  set_is (held.Word u) zero h' e =
      let is : held.Word v ≡ h' = cc in record { old = u; there = refl; values = sym (ap values_in is); width = sym (ap width_of is) }
  set_is (held.Word u) (suc j) h' e =
      absurd (let none : None ≡ Some h' = ap (λ b. if b then Some (held.Word v) else None) (sym (eqb-suc-zero j)) ∙ e in cc)
  set_is (held.Fat a b c) zero h' e =
      let is : held.Fat v b c ≡ h' = cc in record { old = a; there = refl; values = sym (ap values_in is); width = sym (ap width_of is) }
  set_is (held.Fat a b c) (suc zero) h' e =
      let (k, same, is) = kept_as v (λ k. held.Fat a k c) h' e in
      record { old = bound_value b; there = refl; values = sym (ap values_in is) ∙ ap (λ x. a ∷ x ∷ bound_value c ∷ []) same; width = sym (ap width_of is) }
  set_is (held.Fat a b c) (suc (suc zero)) h' e =
      let (k, same, is) = kept_as v (held.Fat a b) h' e in
      record { old = bound_value c; there = refl; values = sym (ap values_in is) ∙ ap (λ x. a ∷ bound_value b ∷ x ∷ []) same; width = sym (ap width_of is) }
  set_is (held.Fat a b c) (suc (suc (suc j))) h' e = absurd (let none = fat_past a b c j in let no : None ≡ Some h' = sym none ∙ e in cc)
    where
      fat_past : (a : Value) (b c : Bound) (j : ℕ) → put_part (held.Fat a b c) (suc (suc (suc j))) v ≡ None
      fat_past a b c j =
          let first : nat_eq (suc (suc (suc j))) 0 ≡ false = grind (arith, nat_tests) in
          let second : nat_eq (suc (suc (suc j))) 1 ≡ false = grind (arith, nat_tests) in
          let third : nat_eq (suc (suc (suc j))) 2 ≡ false = grind (arith, nat_tests) in
          rw (first, second, third) refl
  set_is (held.Tagged t u) zero h' e =
      let (k, same, is) = kept_as v (λ k. held.Tagged k u) h' e in
      record { old = bound_value t; there = refl; values = sym (ap values_in is) ∙ ap (λ x. x ∷ u ∷ []) same; width = sym (ap width_of is) }
  set_is (held.Tagged t u) (suc zero) h' e =
      let is : held.Tagged t v ≡ h' = cc in record { old = u; there = refl; values = sym (ap values_in is); width = sym (ap width_of is) }
  set_is (held.Tagged t u) (suc (suc j)) h' e = absurd (let none = tagged_past t u j in let no : None ≡ Some h' = sym none ∙ e in cc)
    where
      tagged_past : (t : Bound) (u : Value) (j : ℕ) → put_part (held.Tagged t u) (suc (suc j)) v ≡ None
      tagged_past t u j =
          let first : nat_eq (suc (suc j)) 0 ≡ false = grind (arith, nat_tests) in
          let second : nat_eq (suc (suc j)) 1 ≡ false = grind (arith, nat_tests) in
          rw (first, second) refl
  set_is (held.TaggedFat t a b c) zero h' e =
      let (k, same, is) = kept_as v (λ k. held.TaggedFat k a b c) h' e in
      record {
        old = bound_value t;
        there = refl;
        values = sym (ap values_in is) ∙ ap (λ x. x ∷ a ∷ bound_value b ∷ bound_value c ∷ []) same;
        width = sym (ap width_of is);
      }
  set_is (held.TaggedFat t a b c) (suc zero) h' e =
      let is : held.TaggedFat t v b c ≡ h' = cc in record { old = a; there = refl; values = sym (ap values_in is); width = sym (ap width_of is) }
  set_is (held.TaggedFat t a b c) (suc (suc zero)) h' e =
      let (k, same, is) = kept_as v (λ k. held.TaggedFat t a k c) h' e in
      record {
        old = bound_value b;
        there = refl;
        values = sym (ap values_in is) ∙ ap (λ x. bound_value t ∷ a ∷ x ∷ bound_value c ∷ []) same;
        width = sym (ap width_of is);
      }
  set_is (held.TaggedFat t a b c) (suc (suc (suc zero))) h' e =
      let (k, same, is) = kept_as v (held.TaggedFat t a b) h' e in
      record {
        old = bound_value c;
        there = refl;
        values = sym (ap values_in is) ∙ ap (λ x. bound_value t ∷ a ∷ bound_value b ∷ x ∷ []) same;
        width = sym (ap width_of is);
      }
  set_is (held.TaggedFat t a b c) (suc (suc (suc (suc j)))) h' e =
      absurd (let none = past t a b c j in let no : None ≡ Some h' = sym none ∙ e in cc)
    where
      past : (t : Bound) (a : Value) (b c : Bound) (j : ℕ) → put_part (held.TaggedFat t a b c) (suc (suc (suc (suc j)))) v ≡ None
      past t a b c j =
          let first : nat_eq (suc (suc (suc (suc j)))) 0 ≡ false = grind (arith, nat_tests) in
          let second : nat_eq (suc (suc (suc (suc j)))) 1 ≡ false = grind (arith, nat_tests) in
          let third : nat_eq (suc (suc (suc (suc j)))) 2 ≡ false = grind (arith, nat_tests) in
          let fourth : nat_eq (suc (suc (suc (suc j)))) 3 ≡ false = grind (arith, nat_tests) in
          rw (first, second, third, fourth) refl

  -- the parts then
  pub part_set : (s : Slot) (j : ℕ) (h' : Held) → put_part s.held j v ≡ Some h' → (z : ℕ)
      → part_of (with_held s h') z ≡ (if nat_eq z j then Some (valued_part s j v) else part_of s z)
  part_set s j h' e z =
      let is = set_is s.held j h' e in
      ap (λ w. parts_from s.offset (bytes_of w) s.padding (values_in h') z) is.width
      ∙ ap (λ vs. parts_from s.offset (bytes_of (width_of s.held)) s.padding vs z) is.values
      ∙ parts_set (values_in s.held) s.offset (bytes_of (width_of s.held)) s.padding j z is.old v is.there

  pub part_there : (h : Held) (j : ℕ) (h' : Held) → put_part h j v ≡ Some h' → (u : Value) × (slice_get (values_in h) j ≡ Some u)
  part_there h j h' e = let is = set_is h j h' e in (is.old, is.there)
