-- The data of a program that is taken are numbers, NULL and pointers to strings, each in a word or byte, in order. Structs, fat pointers that are NULL and
-- arrays begin with nothing but zeros.
use Rattle.std.proofs.Common.{◌≡◌, ℕ, zero, suc, ◌+◌, ◌%◌, ◌^◌, ◌<◌, ◌≤◌, Bool, true, false, Option, Some, None, nat_eq, List, [], ◌∷◌, ◌++◌, map, inl, inr}
use Rattle.std.proofs.Common.{refl, sym, ap}
use Rattle.std.proofs.Common.{subst, arith}
use Rattle.std.specs.Prelude.{slice_get, length, unwrap_or, if◌then◌else◌, option_map}
use Rattle.std.proofs.lemmas.Option.{same_Some, none-some}
use Rattle.cyc_tree.specs.Tree as tree
use Rattle.cyc_tree.specs.Tree.{Initial, Item}
use Rattle.source_meaning.specs.Shapes.{
  Owner,
  Reach,
  Shape,
  IntShape,
  UnsignedShape,
  CharShape,
  ThinShape,
  FatShape,
  HandleShape,
  KeyShape,
  StructShape,
  UnionShape,
  ArrayShape,
  written,
  settled,
}
use Rattle.source_meaning.specs.Steps.{World}
use Rattle.source_meaning.specs.Memory.{Scalar, Span, Wide}
use Rattle.source_meaning.specs.Places.{literal_string, own_string, string_at}
use Rattle.source_meaning.specs.Strings.{Literal, program_strings}
use Rattle.source_meaning.specs.Programs.{global_shape, heap_spot, world_of}
use Rattle.rv32_machine.specs.State.{data_base}
use Rattle.core_meaning.specs.Memory.{Layout, PartShape, Word, Null, shape_in}
use Rattle.core_meaning.specs.Core.{Local, Datum}
use Rattle.core_meaning.specs.Layouts.{HasPart, IsNothing, IsZero}
use Rattle.core_lines.specs.Selected.{rounded, nth, bytes_of, offsets_from, end_from, datum_local, datum_locals}
use Rattle.core_lines.specs.Running.{data_offsets, data_end}
use Rattle.core_lines.specs.Statics.{IsPlain, IsPlainDatum, ArePlainData}
use Rattle.core_lines.proofs.memory.DataBytes.{one_part_plain, zero_plain}
use Rattle.source_lowering.specs.Programs.{word_in, constant_word, span_content, text_content, text_datum, constant_content, initial_content, first_content}
use Rattle.source_lowering.specs.Programs.{begun_datum, global_datum}
use Rattle.source_lowering.specs.Programs.{string_datum, program_code}
use Rattle.source_lowering.specs.Layouts.{layout_of, local_of}
use Rattle.source_lowering.specs.Lowerable.{IsObject, IsVariable, TakesGlobal, TakesProgram, IsLowerable}
use Rattle.source_lowering.specs.Taken.{IsIntegerShape, IsString, TakesConstant}
use Rattle.source_lowering.proofs.statements.WrittenTypes.{object_settled}
use Rattle.source_lowering.proofs.Programs.{global_variable, world_plain}
use Rattle.source_lowering.proofs.expressions.Names.{IsPlainWorld}
use Rattle.source_lowering.proofs.regions.HeapValues.{heap_data}
use Rattle.source_lowering.proofs.Texts.{string_found}
use Rattle.selectable_proof.proofs.Layouts.{object_layout, variable_layout}
use Rattle.selectable_proof.proofs.Texts.{IsTextIn, TextsLie, program_texts}
use Rattle.core_lines.proofs.homes.Locals.{end_above}

constant_plain : (os : List ℕ) (w : World) (c : tree.Constant) (s : Shape) → IsIntegerShape s → TakesConstant s c
    → word_in s (constant_word c) ≡ constant_word c → IsPlain os 4 (constant_content w c s)
constant_plain os w (tree.Number at value suffix) s i h e = subst (λ z. z < 2 ^ 32) (sym e) (omega arith)
constant_plain os w (tree.Negative at value suffix) s i h e = subst (λ z. z < 2 ^ 32) (sym e) (omega arith)
constant_plain os w (tree.Character at byte) s i h e = subst (λ z. z < 2 ^ 32) (sym e) (omega arith)
constant_plain os w (tree.Text at bytes) s i h e = absurd (no_string s i h)
  where
    no_string : (z : Shape) → IsIntegerShape z → IsString bytes z → ⊥
    no_string IntShape g k = k
    no_string UnsignedShape g k = k
    no_string CharShape g k = k
    no_string _ g k = absurd g
constant_plain os w (tree.Null at) s i h e = tt

-- a word of an int or an unsigned
word_plain : (os : List ℕ) (w : World) (i : Initial) → TakesGlobal IntShape i → IsPlain os 4 (initial_content w i IntShape)
word_plain os w Initial.Unset h = omega arith
word_plain os w (Initial.Elements count) h = omega arith
word_plain os w (Initial.Given c) h = constant_plain os w c IntShape tt h refl

unsigned_plain : (os : List ℕ) (w : World) (i : Initial) → TakesGlobal UnsignedShape i → IsPlain os 4 (initial_content w i UnsignedShape)
unsigned_plain os w Initial.Unset h = omega arith
unsigned_plain os w (Initial.Elements count) h = omega arith
unsigned_plain os w (Initial.Given c) h = constant_plain os w c UnsignedShape tt h refl

low_byte : (n : ℕ) → n % 256 < 2 ^ 8
low_byte n = omega arith

constant_byte : (os : List ℕ) (w : World) (c : tree.Constant) → TakesConstant CharShape c → IsPlain os 1 (constant_content w c CharShape)
constant_byte os w (tree.Number at value suffix) h = omega arith
constant_byte os w (tree.Negative at value suffix) h = omega arith
constant_byte os w (tree.Character at byte) h = omega arith
constant_byte os w (tree.Text at bytes) h = absurd h
constant_byte os w (tree.Null at) h = tt

byte_plain : (os : List ℕ) (w : World) (i : Initial) → TakesGlobal CharShape i → IsPlain os 1 (initial_content w i CharShape)
byte_plain os w Initial.Unset h = omega arith
byte_plain os w (Initial.Elements count) h = omega arith
byte_plain os w (Initial.Given c) h = constant_byte os w c h

-- each address of an object of the data is a word
abbrev pub AreNear : List ℕ → Type 0
AreNear os = (k : ℕ) → data_base + nth os k < 2 ^ 32

-- the parts of a fat pointer to a string, and what there is where no string has the place
module _ (os : List ℕ) (near : AreNear os) (ss : List (ℕ × Scalar)) (lie : TextsLie (length os) ss) where
  pointer_near : (k : ℕ) → data_base + nth os k + 0 < 2 ^ 32
  pointer_near k = let h = near k in omega (arith, h)

  text_plain : (at : ℕ) (bytes : List ℕ) (part : ℕ) → IsPlain os 4 (text_content (literal_string ss at bytes) part)
  text_plain at bytes part = by (string_at ss at) refl
    where
      own : Option Scalar → Option Scalar
      own found = option_map (own_string (length bytes + 1)) found

      span : (number count : ℕ) → Span
      span number count = record { first = heap_spot number; count = count; index = 0 }

      null : (j : ℕ) → IsPlain os 4 (text_content (Some (Wide None)) j)
      null zero = tt
      null (suc j) = omega arith

      of_span : (number count : ℕ) → number < length os → count < 2 ^ 32 → (same : Bool) (j : ℕ)
          → IsPlain os 4 (text_content (Some (Wide (if same then Some (span number count) else None))) j)
      of_span number count there few false j = null j
      of_span number count there few true zero = record { wide = refl; heap = refl; has = there; small = pointer_near number }
      of_span number count there few true (suc zero) = few
      of_span number count there few true (suc (suc j)) = omega arith

      by : (found : Option Scalar) → string_at ss at ≡ found → IsPlain os 4 (text_content (own found) part)
      by None e = none part
        where
          none : (j : ℕ) → IsPlain os 4 (text_content None j)
          none zero = tt
          none (suc j) = omega arith
      by (Some v) e =
          let text = string_found (λ z. IsTextIn (length os) z) ss at v lie e in
          subst (λ z. IsPlain os 4 (text_content (own (Some z)) part)) (sym text.value)
          (of_span text.number text.count text.there text.few (nat_eq text.count (length bytes + 1)) part)

-- the parts of a fat pointer are words
fat_wide : (w : World) (to : Shape) (cell part : ℕ) (s : PartShape) → HasPart (layout_of w (FatShape to)) cell part s → s.width ≡ 4
fat_wide w to zero zero s has = sym (ap (λ (x : PartShape). x.width) (same_Some _ s has.is))
fat_wide w to zero (suc zero) s has = sym (ap (λ (x : PartShape). x.width) (same_Some _ s has.is))
fat_wide w to zero (suc (suc zero)) s has = sym (ap (λ (x : PartShape). x.width) (same_Some _ s has.is))
fat_wide w to zero (suc (suc (suc part))) s has = absurd (none-some s has.is)
fat_wide w to (suc cell) part s has = absurd (none-some s has.is)

-- no global is a handle or a key
no_handle : (i : Initial) → TakesGlobal HandleShape i → ⊥
no_handle Initial.Unset h = h
no_handle (Initial.Elements count) h = h.1
no_handle (Initial.Given (tree.Number at value suffix)) h = h
no_handle (Initial.Given (tree.Negative at value suffix)) h = h
no_handle (Initial.Given (tree.Character at byte)) h = h
no_handle (Initial.Given (tree.Text at bytes)) h = h
no_handle (Initial.Given (tree.Null at)) h = h

no_key : (i : Initial) → TakesGlobal KeyShape i → ⊥
no_key Initial.Unset h = h
no_key (Initial.Elements count) h = h.1
no_key (Initial.Given (tree.Number at value suffix)) h = h
no_key (Initial.Given (tree.Negative at value suffix)) h = h
no_key (Initial.Given (tree.Character at byte)) h = h
no_key (Initial.Given (tree.Text at bytes)) h = h
no_key (Initial.Given (tree.Null at)) h = h

-- and none is a union
no_union : (tag : List ℕ) (i : Initial) → TakesGlobal (UnionShape tag) i → ⊥
no_union tag Initial.Unset h = h
no_union tag (Initial.Elements count) h = h.1
no_union tag (Initial.Given (tree.Number at value suffix)) h = h
no_union tag (Initial.Given (tree.Negative at value suffix)) h = h
no_union tag (Initial.Given (tree.Character at byte)) h = h
no_union tag (Initial.Given (tree.Text at bytes)) h = h
no_union tag (Initial.Given (tree.Null at)) h = h

-- a part begins as its layout says
parts_zero : (l : Layout) → IsZero l → (cell part : ℕ) → IsNothing (first_content (shape_in (slice_get l.cells cell) part))
parts_zero l h cell part = by (shape_in (slice_get l.cells cell) part) refl
  where
    by : (o : Option PartShape) → shape_in (slice_get l.cells cell) part ≡ o → IsNothing (first_content o)
    by None e = tt
    by (Some s) e = h.nothing cell part s (record { is = e })

begun_plain : (os : List ℕ) (w : World) (s : Shape) → IsPlainWorld w → IsVariable w.unions w.structs s → IsPlainDatum os (begun_datum (local_of w s))
begun_plain os w s plain variable =
    let l = variable_layout w s plain variable in
    let layout : Layout = (local_of w s).layout in
    zero_plain os (begun_datum (local_of w s)) l.joined l.whole (λ cell part. parts_zero layout l.nothing (cell % length layout.cells) part)

module _ (os : List ℕ) (near : AreNear os) (w : World) (lie : TextsLie (length os) w.strings) (plain : IsPlainWorld w) where
  -- a pointer is NULL or a string at first
  given_plain : (c : tree.Constant) (b : Reach) (o : Owner) (to : Shape) → TakesConstant (ThinShape b o to) c
      → IsPlain os 4 (constant_content w c (ThinShape b o to))
  given_plain (tree.Number at value suffix) b o to h = absurd h
  given_plain (tree.Negative at value suffix) b o to h = absurd h
  given_plain (tree.Character at byte) b o to h = absurd h
  given_plain (tree.Text at bytes) b o to h = text_plain os near w.strings lie at bytes 0
  given_plain (tree.Null at) b o to h = tt

  pointer_plain : (i : Initial) (b : Reach) (o : Owner) (to : Shape) → TakesGlobal (ThinShape b o to) i → IsPlain os 4 (initial_content w i (ThinShape b o to))
  pointer_plain Initial.Unset b o to h = tt
  pointer_plain (Initial.Elements count) b o to h = tt
  pointer_plain (Initial.Given c) b o to h = given_plain c b o to h

  fat_plain : (i : Initial) (to : Shape) → IsObject w.unions w.structs (FatShape to) → IsPlainDatum os (global_datum w i (FatShape to))
  fat_plain (Initial.Given (tree.Text at bytes)) to h = given (literal_string w.strings at bytes) (λ part. text_plain os near w.strings lie at bytes part)
    where
      given : (found : Option Scalar) → ((part : ℕ) → IsPlain os 4 (text_content found part)) → IsPlainDatum os (text_datum w (FatShape to) found)
      given (Some (Wide (Some span))) g =
          let l = object_layout w (FatShape to) plain h in
          record {
            joined = l.joined;
            whole = l.whole;
            plain = λ cell part s has. subst (λ z. IsPlain os z (span_content span part)) (sym (fat_wide w to _ part s has)) (g part);
          }
      given _ g = begun_plain os w (FatShape to) plain h
  fat_plain (Initial.Given (tree.Number at value suffix)) to h = begun_plain os w (FatShape to) plain h
  fat_plain (Initial.Given (tree.Negative at value suffix)) to h = begun_plain os w (FatShape to) plain h
  fat_plain (Initial.Given (tree.Character at byte)) to h = begun_plain os w (FatShape to) plain h
  fat_plain (Initial.Given (tree.Null at)) to h = begun_plain os w (FatShape to) plain h
  fat_plain (Initial.Elements count) to h = begun_plain os w (FatShape to) plain h
  fat_plain Initial.Unset to h = begun_plain os w (FatShape to) plain h

  object_plain : (i : Initial) (s : Shape) → IsObject w.unions w.structs s → TakesGlobal s i → IsPlainDatum os (global_datum w i s)
  object_plain i IntShape h t = one_part_plain os 4 (Word 0) (global_datum w i IntShape) (inr refl) refl (λ cell. word_plain os w i t)
  object_plain i UnsignedShape h t = one_part_plain os 4 (Word 0) (global_datum w i UnsignedShape) (inr refl) refl (λ cell. unsigned_plain os w i t)
  object_plain i CharShape h t = one_part_plain os 1 (Word 0) (global_datum w i CharShape) (inl refl) refl (λ cell. byte_plain os w i t)
  object_plain i (ThinShape bound owner to) h t =
      one_part_plain os 4 Null (global_datum w i (ThinShape bound owner to)) (inr refl) refl (λ cell. pointer_plain i bound owner to t)
  object_plain i (StructShape tag) h t = begun_plain os w (StructShape tag) plain h
  object_plain i (FatShape to) h t = fat_plain i to h
  object_plain i HandleShape h t = absurd (no_handle i t)
  object_plain i KeyShape h t = absurd (no_key i t)
  object_plain i (UnionShape tag) h t = absurd (no_union tag i t)
  object_plain i _ h t = absurd h

  -- an object, or an array of objects
  datum_plain : (i : Initial) (s : Shape) → IsObject w.unions w.structs s → TakesGlobal s i → IsPlainDatum os (global_datum w i (global_shape i s))
  datum_plain Initial.Unset s h t = object_plain Initial.Unset s h t
  datum_plain (Initial.Elements count) s h t = begun_plain os w (ArrayShape count s) plain (global_variable w (Initial.Elements count) s t h)
  datum_plain (Initial.Given c) s h t = object_plain (Initial.Given c) s h t

  -- a string's bytes
  strings_plain : (ss : List Literal) → ArePlainData os (map (string_datum w) ss)
  strings_plain [] = tt
  strings_plain (s ∷ ss) = (
    one_part_plain os 1 (Word 0) (string_datum w s) (inl refl) refl (λ cell. low_byte (unwrap_or (slice_get (s.1 ++ 0 ∷ []) cell) 0)),
    strings_plain ss,
  )

  pub data_plain : (items : List Item) (ss : List Literal) → TakesProgram w items → ArePlainData os (heap_data w items ss)
  data_plain [] ss h = strings_plain ss
  data_plain (tree.StructItem s ∷ items) ss h = data_plain items ss h.1
  data_plain (tree.UnionItem u ∷ items) ss h = data_plain items ss h.1
  data_plain (tree.FunctionItem g ∷ items) ss h = data_plain items ss h.1
  data_plain (tree.GlobalItem g ∷ items) ss h =
      (datum_plain g.initial (settled (written g.of)) (object_settled w.unions w.structs g.of h.0.0) h.0.1, data_plain items ss h.1)

-- ---- a program's data

-- no object begins behind the end
offset_within : (low : ℕ) (ls : List Local) (k : ℕ) → nth (offsets_from low ls) k ≤ end_from low ls
offset_within low [] k = omega arith
offset_within low (l ∷ ls) zero = let h = end_above (rounded low + bytes_of l) ls in omega (arith, h)
offset_within low (l ∷ ls) (suc k) = offset_within (rounded low + bytes_of l) ls k

pub offsets_many : (low : ℕ) (ds : List Datum) → length (offsets_from low (datum_locals ds)) ≡ length ds
offsets_many low [] = refl
offsets_many low (d ∷ ds) = ap suc (offsets_many (rounded low + bytes_of (datum_local d)) ds)

-- where they are within the limit, they are in order
pub program_plain : (p : tree.Program) → IsLowerable p → data_end (program_code p).data_objects ≤ 2 ^ 20
    → ArePlainData (data_offsets (program_code p).data_objects) (program_code p).data_objects
program_plain p h within =
    data_plain os near w (subst (λ n. TextsLie n w.strings) (sym (offsets_many 0 ds)) (program_texts p h)) (world_plain p h) p (program_strings p) h.items
  where
    w : World
    w = world_of p

    ds : List Datum
    ds = (program_code p).data_objects

    os : List ℕ
    os = data_offsets ds

    near : AreNear os
    near k = let e = offset_within 0 (datum_locals ds) k in omega (arith, e, within)
