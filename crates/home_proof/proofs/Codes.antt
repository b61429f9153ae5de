-- The flags of code that is put together, and the addresses that it takes.
use Rattle.std.proofs.Common.{◌≡◌, ℕ, List, [], ◌∷◌, ◌++◌, Bool, true, false, refl, sym, ap, ◌∙◌}
use Rattle.std.specs.Prelude.{◌||◌, ◌&&◌}
use Rattle.std.proofs.lemmas.List.{append_assoc}
use Rattle.core_meaning.specs.Core.{Statement}
use Rattle.core_lines.specs.Homes.{addressed, addressed_of, eligible, eligible_of}
use Rattle.source_lowering.specs.Lowered.{all_of}

-- whether code takes the address of this local, `out` blocks out
abbrev pub addresses : (out index : ℕ) → List Statement → Bool
addresses out index code = addressed_of out index (all_of code)

-- whether the locals of the blocks in code may have homes
abbrev pub flags_of : List Statement → List Bool
flags_of code = eligible_of (all_of code)

-- ---- booleans

pub or_assoc : (a b c : Bool) → ((a || b) || c) ≡ (a || (b || c))
or_assoc true b c = refl
or_assoc false b c = refl

pub or_false : (a : Bool) → (a || false) ≡ a
or_false true = refl
or_false false = refl

pub or_swap : (a b : Bool) → (a || b) ≡ (b || a)
or_swap true true = refl
or_swap true false = refl
or_swap false true = refl
or_swap false false = refl

pub and_or : (a b c : Bool) → (a && (b || c)) ≡ ((a && b) || (a && c))
and_or true b c = refl
and_or false b c = refl

-- ---- code

pub addresses_both : (out index : ℕ) (xs ys : List Statement) → addresses out index (xs ++ ys) ≡ (addresses out index xs || addresses out index ys)
addresses_both out index [] ys = refl
addresses_both out index (x ∷ xs) ys =
    ap (λ z. addressed out index x || z) (addresses_both out index xs ys) ∙
    sym (or_assoc (addressed out index x) (addresses out index xs) (addresses out index ys))

pub flags_both : (xs ys : List Statement) → flags_of (xs ++ ys) ≡ flags_of xs ++ flags_of ys
flags_both [] ys = refl
flags_both (x ∷ xs) ys = ap (λ z. eligible x ++ z) (flags_both xs ys) ∙ sym (append_assoc (eligible x) (flags_of xs) (flags_of ys))

-- ---- code without blocks that takes no local's address

pub record IsPlain (code : List Statement) : Type 0 where
  pub flags : flags_of code ≡ []
  pub free : (out index : ℕ) → addresses out index code ≡ false

pub both_plain : (xs ys : List Statement) → IsPlain xs → IsPlain ys → IsPlain (xs ++ ys)
both_plain xs ys a b = record {
  flags = flags_both xs ys ∙ (ap (λ z. z ++ flags_of ys) a.flags ∙ b.flags);
  free = λ out index. addresses_both out index xs ys ∙ (ap (λ z. z || addresses out index ys) (a.free out index) ∙ b.free out index);
}

-- where both can be read off
pub plain : {code : List Statement} → flags_of code ≡ [] → ((out index : ℕ) → addresses out index code ≡ false) → IsPlain code
plain {code = code} f a = record { flags = f; free = a }
