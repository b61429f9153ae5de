-- What is known of temporaries, as the code's list has it.
use Rattle.std.specs.Prelude.{filter, not, nat_eq, if◌then◌else◌}
use Rattle.std.proofs.Common.{◌≡◌, ℕ, zero, suc, ◌<◌, Bool, true, false, List, [], ◌∷◌, ◌%◌, Option, Some, None, map, refl, ap, ◌∙◌, arith}
use Rattle.std.proofs.lemmas.Bool.{ne_eqb}
use Rattle.core_lines.specs.Held as lines
use Rattle.core_lines.specs.Held.{source_of, some_source, is_in, without_register, without_temporary}
use Rattle.core_lines.specs.Held.{with_moved, with_source, with_result, with_local, with_put, is_zero, with_applied}
use Rattle.core_lines.specs.Held.{number_in, with_narrowed, register_in, with_judged}
use Rattle.core_lines.specs.declared.comparison.Comparison.{Comparison}
use Rattle.core_lines.specs.declared.comparison.NumberComparison.{NumberComparison}
use Rattle.rv32_select.specs.declared.held.Holding.{Holding}
use Rattle.rv32_select.specs.Known.{source_tree, holding_tree}

-- one more, where those behind it are known
some_more : (b : Bool) (h : Holding) (kept : List Holding) (rest : List lines.Holding) → map holding_tree kept ≡ rest
    → map holding_tree (if not b then h ∷ kept else kept) ≡ (if b then rest else holding_tree h ∷ rest)
some_more true h kept rest e = e
some_more false h kept rest e = ap (λ ks. holding_tree h ∷ ks) e

pub without_there : (r : ℕ) (hs : List Holding)
    → map holding_tree (filter (λ h. not (is_in r (source_tree h.source))) hs) ≡ without_register r (map holding_tree hs)
without_there r [] = refl
without_there r (h ∷ hs) =
    some_more (is_in r (source_tree h.source)) h (filter (λ k. not (is_in r (source_tree k.source))) hs) (without_register r (map holding_tree hs))
    (without_there r hs)

pub without_it : (t : ℕ) (hs : List Holding)
    → map holding_tree (filter (λ h. not (nat_eq h.temporary.0 t)) hs) ≡ without_temporary t (map holding_tree hs)
without_it t [] = refl
without_it t (h ∷ hs) =
    some_more (nat_eq h.temporary.0 t) h (filter (λ k. not (nat_eq k.temporary.0 t)) hs) (without_temporary t (map holding_tree hs)) (without_it t hs)

-- locals, by their registers
module _ (hs : List lines.Holding) where
  pub local_without : (t h : ℕ) (after : List lines.Holding) → h ≡ 0 → after ≡ with_result t hs → after ≡ with_local t h hs
  local_without t zero after none e = e
  local_without t (suc h) after none e = absurd (omega (arith, none))

  pub local_with : (t h : ℕ) (after : List lines.Holding) → 0 < h → after ≡ with_source t (lines.Register h) hs → after ≡ with_local t h hs
  local_with t zero after some e = absurd (omega (arith, some))
  local_with t (suc h) after some e = e

  pub put_without : (byte : Bool) (t h : ℕ) → h ≡ 0 → hs ≡ with_put byte t h hs
  put_without byte t zero none = refl
  put_without byte t (suc h) none = absurd (omega (arith, none))

  pub put_byte : (t h : ℕ) (after : List lines.Holding) → (h ≡ 0 → ⊥) → after ≡ without_register h hs → after ≡ with_put true t h hs
  put_byte t zero after some e = absurd (some refl)
  put_byte t (suc h) after some e = e

  pub put_word : (t h : ℕ) (after : List lines.Holding) → (h ≡ 0 → ⊥) → after ≡ with_source t (lines.Register h) (without_register h hs)
      → after ≡ with_put false t h hs
  put_word t zero after some e = absurd (some refl)
  put_word t (suc h) after some e = e

  -- by where another one's word is
  pub moved_none : (t x : ℕ) (after : List lines.Holding) → None ≡ source_of hs x → after ≡ with_result t hs → after ≡ with_moved t (source_of hs x) hs
  moved_none t x after is e = e ∙ ap (λ s. with_moved t s hs) is

  pub moved_some : (t x : ℕ) (s : lines.Source) (after : List lines.Holding) → Some s ≡ source_of hs x → after ≡ with_source t s hs
      → after ≡ with_moved t (source_of hs x) hs
  moved_some t x s after is e = e ∙ ap (λ k. with_moved t k hs) is

  -- by whether a word is known to be a number
  pub narrowed_none : (t : ℕ) (known : Option ℕ) (after : List lines.Holding) → None ≡ known → after ≡ with_result t hs → after ≡ with_narrowed t known hs
  narrowed_none t known after is e = e ∙ ap (λ k. with_narrowed t k hs) is

  pub narrowed_some : (t w : ℕ) (known : Option ℕ) (after : List lines.Holding) → Some w ≡ known → after ≡ with_source t (lines.Number (w % 256)) hs
      → after ≡ with_narrowed t known hs
  narrowed_some t w known after is e = e ∙ ap (λ k. with_narrowed t k hs) is

  -- by which of two words their sum is
  pub applied_none : (t : ℕ) (same : Option ℕ) (told : Option NumberComparison) (compared : Option Comparison) (after : List lines.Holding) → None ≡ same
      → after ≡ with_judged t told compared hs → after ≡ with_applied t same told compared hs
  applied_none t same told compared after is e = e ∙ ap (λ k. with_applied t k told compared hs) is

  pub applied_some : (t z : ℕ) (same : Option ℕ) (told : Option NumberComparison) (compared : Option Comparison) (after : List lines.Holding) → Some z ≡ same
      → after ≡ with_moved t (source_of hs z) hs → after ≡ with_applied t same told compared hs
  applied_some t z same told compared after is e = e ∙ ap (λ k. with_applied t k told compared hs) is

-- a word that is known to be 0
zero_is : (w : ℕ) → nat_eq w 0 ≡ is_zero (Some (lines.Number w))
zero_is zero = refl
zero_is (suc w) = ne_eqb (suc w) 0 (λ e. absurd (omega (arith, e)))

pub number_number : (w : ℕ) (s : Option lines.Source) → Some (lines.Number w) ≡ s → Some w ≡ number_in s
number_number w s is = ap number_in is

pub number_register : (r : ℕ) (s : Option lines.Source) → Some (lines.Register r) ≡ s → None ≡ number_in s
number_register r s is = ap number_in is

pub number_compared : (c : Comparison) (s : Option lines.Source) → Some (lines.Compared c) ≡ s → None ≡ number_in s
number_compared c s is = ap number_in is

pub number_numbered : (n : NumberComparison) (s : Option lines.Source) → Some (lines.ComparedWith n) ≡ s → None ≡ number_in s
number_numbered n s is = ap number_in is

pub number_none : (s : Option lines.Source) → None ≡ s → None ≡ number_in s
number_none s is = ap number_in is

pub zero_number : (w : ℕ) (s : Option lines.Source) (b : Bool) → Some (lines.Number w) ≡ s → b ≡ nat_eq w 0 → b ≡ is_zero s
zero_number w s b is e = e ∙ zero_is w ∙ ap is_zero is

pub zero_register : (r : ℕ) (s : Option lines.Source) → Some (lines.Register r) ≡ s → false ≡ is_zero s
zero_register r s is = ap is_zero is

pub zero_compared : (c : Comparison) (s : Option lines.Source) → Some (lines.Compared c) ≡ s → false ≡ is_zero s
zero_compared c s is = ap is_zero is

pub zero_numbered : (n : NumberComparison) (s : Option lines.Source) → Some (lines.ComparedWith n) ≡ s → false ≡ is_zero s
zero_numbered n s is = ap is_zero is

pub zero_none : (s : Option lines.Source) → None ≡ s → false ≡ is_zero s
zero_none s is = ap is_zero is

-- the register that has a number's word
pub in_none : (w : ℕ) (s : Option lines.Source) → Some (lines.Number w) ≡ s → w ≡ 0 → Some 0 ≡ register_in s
in_none zero s is none = ap register_in is
in_none (suc w) s is none = absurd (omega (arith, none))

pub number_else : (w : ℕ) (s : Option lines.Source) → Some (lines.Number w) ≡ s → (w ≡ 0 → ⊥) → None ≡ register_in s
number_else zero s is some = absurd (some refl)
number_else (suc w) s is some = ap register_in is
