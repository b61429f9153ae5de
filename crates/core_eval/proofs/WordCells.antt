-- Stores to an object of one word.
use Rattle.std.specs.Prelude.{if◌then◌else◌, nat_eq, option_map}
use Rattle.std.proofs.Common.{◌≡◌, ℕ, zero, suc, ◌∷◌, [], Bool, true, false, Some, None, refl, ap, ◌∙◌, sym}
use Rattle.std.proofs.lemmas.Option.{same_Some}
use Rattle.cyc_core.specs.declared.operation.Width.{Width}
use Rattle.core_eval.specs.declared.value.Value.{Value}
use Rattle.core_eval.specs.declared.held.Held.TheVariants as held
use Rattle.core_eval.specs.declared.value.Slot.{Slot}
use Rattle.core_eval.specs.Values.{first_of, fitted, is_fit, put_cell, put_within, with_held}
use Rattle.core_eval.specs.Elements.{word_slot}
use Rattle.core_eval.proofs.Lists.{put_cell_some}

-- a cell of one word, part by part
pub is_word : (s : Slot) (v : Value) → s.offset ≡ 0 → s.padding ≡ 0 → s.held ≡ held.Word v → s ≡ word_slot v
is_word s v first bare one = λ i. record { offset = first i; padding = bare i; held = one i }

module _ (u : Value) (byte j : ℕ) (w : Width) (v : Value) where
  -- it is of one word afterwards
  still_word : (new : Slot) → put_within (word_slot u) byte j w v ≡ Some new → new ≡ word_slot (first_of new.held)
  still_word new put = by (is_fit byte j w (word_slot u)) (nat_eq j 0) put
    where
      by : (fits first : Bool)
          → (if fits then option_map (with_held (word_slot u)) (if first then Some (held.Word (fitted w v)) else None) else None) ≡ Some new
          → new ≡ word_slot (first_of new.held)
      by true true is = let same : word_slot (fitted w v) ≡ new = same_Some _ _ is in sym same ∙ ap (λ (s : Slot). word_slot (first_of s.held)) same
      by true false is = cc
      by false first is = cc

  pub word_put : (new : Slot) (is_put : Bool) → put_within (word_slot u) byte j w v ≡ (if is_put then Some new else None)
      → put_cell (word_slot u ∷ []) 0 byte j w v ≡ (if is_put then Some (word_slot (first_of new.held) ∷ []) else None)
  word_put new true put =
      put_cell_some (word_slot u ∷ []) 0 byte j w v (word_slot u) new true refl put ∙ ap (λ (s : Slot). Some (s ∷ [])) (still_word new put)
  word_put new false put = put_cell_some (word_slot u ∷ []) 0 byte j w v (word_slot u) new false refl put

  -- it has no other cell
  pub word_past : (k : ℕ) → (k ≡ 0 → ⊥) → put_cell (word_slot u ∷ []) k byte j w v ≡ None
  word_past zero other = absurd (other refl)
  word_past (suc k) other = refl
