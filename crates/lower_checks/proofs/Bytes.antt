-- The bytes of a string, as the code's data have them.
use Rattle.std.proofs.Common.{◌≡◌, ℕ, zero, suc, ◌+◌, ◌%◌, ◌<◌, List, [], ◌∷◌, ◌++◌, length, Some, refl, sym, subst}
use Rattle.std.specs.Prelude.{slice_get, unwrap_or}
use Rattle.std.proofs.Math.Nat.{mod-eq_of_lt}
use Rattle.std.proofs.lemmas.Option.{none-some, same_Some}
use Rattle.cyc_core.specs.Trees.{bounds_first, part_layout}
use Rattle.cyc_core.specs.declared.operation.Cell.TheVariants.{Fat}
use Rattle.source_meaning.specs.Places.{span_at}
use Rattle.source_meaning.specs.Programs.{heap_spot}
use Rattle.source_meaning.specs.Shapes.{CharShape, FatShape, Shape}
use Rattle.source_meaning.specs.Steps.{World}
use Rattle.core_meaning.specs.Memory.{Word}
use Rattle.core_meaning.specs.Core.{Datum}
use Rattle.source_lowering.specs.Layouts.{layout_of}
use Rattle.source_lowering.specs.Programs.{span_content, string_datum, text_datum}
use Rattle.lower_checks.specs.Bytes.{AreLow}

pub low_more : (bytes : List ℕ) (x : ℕ) → AreLow bytes → x < 256 → AreLow (bytes ++ x ∷ [])
low_more [] x low less zero b e = subst (λ z. z < 256) (same_Some x b e) less
low_more [] x low less (suc k) b e = absurd (none-some b e)
low_more (y ∷ bytes) x low less zero b e = low 0 b e
low_more (y ∷ bytes) x low less (suc k) b e = low_more bytes x (λ j z f. low (suc j) z f) less k b e

byte_same : (bytes : List ℕ) (k : ℕ) → AreLow bytes → unwrap_or (slice_get bytes k) 0 ≡ unwrap_or (slice_get (bytes ++ 0 ∷ []) k) 0 % 256
byte_same [] zero low = refl
byte_same [] (suc k) low = refl
byte_same (b ∷ bytes) zero low = sym (mod-eq_of_lt (low 0 b refl))
byte_same (b ∷ bytes) (suc k) low = byte_same bytes k (λ j x e. low (suc j) x e)

-- a string's bytes are data as they stand, with the final 0 behind them
pub text_same : (w : World) (at : ℕ) (bytes items : List ℕ) → items ≡ bytes → AreLow items
    → record { layout = layout_of w CharShape; count = length items + 1; first = λ k j. Word (unwrap_or (slice_get items k) 0) } ≡ string_datum w (at, bytes)
text_same w at bytes items e low = subst (λ z. data_of items ≡ string_datum w (at, z)) e
    (λ i. record { layout = layout_of w CharShape; count = length items + 1; first = λ k j. Word (byte_same items k low i) })
  where
    data_of : List ℕ → Datum
    data_of xs = record { layout = layout_of w CharShape; count = length xs + 1; first = λ k j. Word (unwrap_or (slice_get xs k) 0) }

-- ---- a fat pointer to a string

part_same : (object count part : ℕ) → bounds_first object count part ≡ span_content (record { first = heap_spot object; count = count; index = 0 }) part
part_same object count zero = refl
part_same object count (suc zero) = refl
part_same object count (suc (suc part)) = refl

pub bounds_same : (w : World) (to : Shape) (object count : ℕ)
    → record { layout = part_layout Fat; count = 1; first = λ k j. bounds_first object count j } ≡
    text_datum w (FatShape to) (Some (span_at count (heap_spot object)))
bounds_same w to object count = λ i. record { layout = part_layout Fat; count = 1; first = λ k j. part_same object count j i }
