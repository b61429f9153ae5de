-- The bytes of strings, and of pointers into the data.
use Rattle.std.specs.Prelude.{length, slice_get, unwrap_or}
use Rattle.std.specs.declared.vec.Vec.{Vec}
use Rattle.std.specs.declared.alloc.Global.{Global}
use Rattle.std.proofs.Common.{◌≡◌, ℕ, zero, suc, ◌+◌, ◌/◌, ◌%◌, ◌^◌, ◌<◌, List, [], ◌∷◌, ◌++◌, refl, sym, ap, ◌∙◌, arith, append_assoc}
use Rattle.cyc_image.specs.Format.{u32_bytes}
use Rattle.rv32_machine.specs.State.{data_base}
use Rattle.core_meaning.specs.Memory.{Content, Word}
use Rattle.cyc_core.specs.declared.operation.Cell.TheVariants as cell
use Rattle.cyc_core.specs.declared.program.Datum.TheVariants as datum
use Rattle.cyc_core.specs.Trees.{part_layout, datum_tree}
use Rattle.core_lines.specs.Selected.{nth}
use Rattle.core_lines.specs.Statics.{zeros, element_bytes, datum_bytes}
use Rattle.rv32_layout.specs.Chars.{AreChars}

-- ---- strings

-- what a string's cells hold, the first of which is the bytes' k-th
abbrev chars_from : List ℕ → ℕ → ℕ → Content
chars_from bs k j = Word (unwrap_or (slice_get bs k) 0)

-- a byte for each element
pub text_length : (os : List ℕ) (first : ℕ → ℕ → Content) (k n : ℕ) → length (element_bytes os (part_layout cell.Byte).cells first k n) ≡ n
text_length os first k zero = refl
text_length os first k (suc n) = ap suc (text_length os first (k + 1) n)

-- the bytes from the k-th on, and the 0 behind them
chars_are : (os bs all : List ℕ) (k : ℕ) → ((i : ℕ) → slice_get all (k + i) ≡ slice_get bs i) → AreChars bs
    → element_bytes os (part_layout cell.Byte).cells (chars_from all) k (length bs + 1) ≡ bs ++ 0 ∷ []
chars_are os [] all k here small =
    let at : k ≡ k + 0 = omega arith in ap (λ c. unwrap_or c 0 % 2 ^ 8 ∷ []) (ap (slice_get all) at ∙ here 0)
chars_are os (b ∷ bs) all k here small =
    let at : k ≡ k + 0 = omega arith in
    let few : b < 2 ^ 8 = small.0 in
    let more : length (b ∷ bs) + 1 ≡ suc (length bs + 1) = omega arith in
    let first : unwrap_or (slice_get all k) 0 % 2 ^ 8 ≡ b =
    ap (λ c. unwrap_or c 0 % 2 ^ 8) (ap (slice_get all) at ∙ here 0) ∙ (let same : b % 2 ^ 8 ≡ b = omega (arith, few) in same) in
    ap (λ n. element_bytes os (part_layout cell.Byte).cells (chars_from all) k n) more
    ∙ ap (λ c. c ∷ element_bytes os (part_layout cell.Byte).cells (chars_from all) (k + 1) (length bs + 1)) first
    ∙ ap (λ cs. b ∷ cs) (chars_are os bs all (k + 1) (λ i. let on : k + 1 + i ≡ k + suc i = omega arith in ap (slice_get all) on ∙ here (suc i)) small.1)

pub text_bytes : (os : List ℕ) (text : Vec ℕ Global) → AreChars text.items → datum_bytes os (datum_tree (datum.Text text)) ≡ text.items ++ 0 ∷ []
text_bytes os text small =
    chars_are os text.items text.items 0 (λ i. let same : 0 + i ≡ i = omega arith in ap (slice_get text.items) same) small

-- ---- pointers

-- a number's lowest 32 bits are its word
word_bytes_same : (x y : ℕ) → x ≡ y % 2 ^ 32
    → u32_bytes x ≡ (y + 0) % 2 ^ 8 ∷ (y + 0) / 2 ^ 8 % 2 ^ 8 ∷ (y + 0) / 2 ^ 16 % 2 ^ 8 ∷ (y + 0) / 2 ^ 24 % 2 ^ 8 ∷ []
word_bytes_same x y is =
    let first : x % 2 ^ 8 ≡ (y + 0) % 2 ^ 8 = omega (arith, is) in
    let second : x / 2 ^ 8 % 2 ^ 8 ≡ (y + 0) / 2 ^ 8 % 2 ^ 8 = omega (arith, is) in
    let third : x / 2 ^ 16 % 2 ^ 8 ≡ (y + 0) / 2 ^ 16 % 2 ^ 8 = omega (arith, is) in
    let fourth : x / 2 ^ 24 ≡ (y + 0) / 2 ^ 24 % 2 ^ 8 = omega (arith, is) in
    cc (first, second, third, fourth)

module _ (os : List ℕ) (object address : ℕ) (is : address ≡ (data_base + nth os object) % 2 ^ 32) where
  pub address_bytes : datum_bytes os (datum_tree (datum.Address object)) ≡ u32_bytes address
  address_bytes = sym (word_bytes_same address (data_base + nth os object) is)

  pub bounds_bytes : (count : ℕ) → count < 2 ^ 32 → datum_bytes os (datum_tree (datum.Bounds object count)) ≡ u32_bytes address ++ (u32_bytes count ++ zeros 4)
  bounds_bytes count few =
      let last : count / 2 ^ 24 % 2 ^ 8 ≡ count / 2 ^ 24 = omega (arith, few) in
      ap (λ xs. xs ++ (count % 2 ^ 8 ∷ count / 2 ^ 8 % 2 ^ 8 ∷ count / 2 ^ 16 % 2 ^ 8 ∷ count / 2 ^ 24 % 2 ^ 8 ∷ zeros 4))
      (sym (word_bytes_same address (data_base + nth os object) is))
      ∙ ap (λ l. u32_bytes address ++ (count % 2 ^ 8 ∷ count / 2 ^ 8 % 2 ^ 8 ∷ count / 2 ^ 16 % 2 ^ 8 ∷ l ∷ zeros 4)) last

  -- the same, appended
  pub bounds_joined : (count : ℕ) (old first second whole : List ℕ) → count < 2 ^ 32 → first ≡ old ++ u32_bytes address → second ≡ first ++ u32_bytes count
      → whole ≡ second ++ zeros 4 → whole ≡ old ++ datum_bytes os (datum_tree (datum.Bounds object count))
  bounds_joined count old first second whole few one two is_whole =
      is_whole ∙ ap (λ xs. xs ++ zeros 4) two ∙ append_assoc first (u32_bytes count) (zeros 4) ∙ ap (λ xs. xs ++ (u32_bytes count ++ zeros 4)) one
      ∙ append_assoc old (u32_bytes address) (u32_bytes count ++ zeros 4) ∙ ap (λ xs. old ++ xs) (sym (bounds_bytes count few))
