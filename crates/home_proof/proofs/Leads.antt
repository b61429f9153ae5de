-- What a name leads to: where the variable of a name is in its block, and what code does of which that is asked.
use Rattle.std.proofs.Common.{◌≡◌, ℕ, List, [], ◌++◌, Bool, true, false, Option, Some, None, sym, ap, ◌∙◌}
use Rattle.std.proofs.Math.Bool.{and-false}
use Rattle.std.specs.Prelude.{◌||◌, ◌&&◌, not, nat_eq, bytes_eq}
use Rattle.std.proofs.lemmas.List.{append-nil}
use Rattle.core_meaning.specs.Core.{Statement}
use Rattle.source_lowering.specs.Lowered.{Home, InBlock, Left, Named, local_named}
use Rattle.home_proof.specs.Names.{is_word}
use Rattle.home_proof.proofs.Codes.{IsPlain, addresses, addresses_both, and_or, flags_both, flags_of, or_false}

-- ---- homes

abbrev pub at_home : Home → (out index : ℕ) → Bool
at_home (InBlock o i) out index = nat_eq o out && nat_eq i index

abbrev pub leads : (out index : ℕ) → Option Named → Bool
leads out index None = false
leads out index (Some l) = at_home l.home out index

-- what is there is a word
abbrev pub is_word_at : (out index : ℕ) → Option Named → Bool
is_word_at out index None = true
is_word_at out index (Some l) = not (at_home l.home out index) || is_word l.shape

-- A word is at a home: this name leads there where it is visible, and no other one does.
pub record Leads (names : List Named) (out index : ℕ) (name : List ℕ) (visible : Bool) : Type 0 where
  pub led : (m : List ℕ) → leads out index (local_named names m) ≡ (visible && bytes_eq m name)
  pub word : (m : List ℕ) → is_word_at out index (local_named names m) ≡ true

-- ---- code

-- The blocks in code have these flags, and it takes the address of a word where that is said of its name.
pub record Does (names : List Named) (code : List Statement) (points : List ℕ → Bool) (flags : List Bool) : Type 0 where
  pub flagged : flags_of code ≡ flags
  pub pointed : (out index : ℕ) (name : List ℕ) (visible : Bool) → Leads names out index name visible → addresses out index code ≡ (visible && points name)

module _ {names : List Named} {xs ys : List Statement} where
  pub both : {p q : List ℕ → Bool} {f g : List Bool} → Does names xs p f → Does names ys q g → Does names (xs ++ ys) (λ n. p n || q n) (f ++ g)
  both {p = p} {q = q} {f = f} {g = g} a b = record {
    flagged = flags_both xs ys ∙ (ap (λ z. z ++ flags_of ys) a.flagged ∙ ap (λ z. f ++ z) b.flagged);
    pointed = λ out index name visible h.
        addresses_both out index xs ys ∙ (ap (λ z. z || addresses out index ys) (a.pointed out index name visible h) ∙
        (ap (λ z. (visible && p name) || z) (b.pointed out index name visible h) ∙ sym (and_or visible (p name) (q name))));
  }

  -- plain code comes first
  pub ahead : {q : List ℕ → Bool} {g : List Bool} → IsPlain xs → Does names ys q g → Does names (xs ++ ys) q g
  ahead a b = record {
    flagged = flags_both xs ys ∙ (ap (λ z. z ++ flags_of ys) a.flags ∙ b.flagged);
    pointed = λ out index name visible h.
        addresses_both out index xs ys ∙ (ap (λ z. z || addresses out index ys) (a.free out index) ∙ b.pointed out index name visible h);
  }

  -- or behind
  pub behind : {p : List ℕ → Bool} {f : List Bool} → Does names xs p f → IsPlain ys → Does names (xs ++ ys) p f
  behind {f = f} a b = record {
    flagged = flags_both xs ys ∙ (ap (λ z. z ++ flags_of ys) a.flagged ∙ (ap (λ z. f ++ z) b.flags ∙ append-nil f));
    pointed = λ out index name visible h.
        addresses_both out index xs ys ∙ (ap (λ z. addresses out index xs || z) (b.free out index) ∙
        (or_false (addresses out index xs) ∙ a.pointed out index name visible h));
  }

pub nothing : {names : List Named} {code : List Statement} → IsPlain code → Does names code (λ n. false) []
nothing a = record { flagged = a.flags; pointed = λ out index name visible h. a.free out index ∙ sym (and-false visible) }

-- the same, said otherwise
pub said : {names : List Named} {code : List Statement} {p q : List ℕ → Bool} {f g : List Bool} → Does names code p f → ((n : List ℕ) → p n ≡ q n) → f ≡ g
    → Does names code q g
said a e i = record {
  flagged = a.flagged ∙ i;
  pointed = λ out index name visible h. a.pointed out index name visible h ∙ ap (λ z. visible && z) (e name);
}

-- what stands on the left of suffixes, wherever it comes
pub record LeftDoes (names : List Named) (left : Left) (points : List ℕ → Bool) (flags : List Bool) : Type 0 where
  pub value : (d : ℕ) → Does names (left.value d) points flags
  pub pointer : (d : ℕ) → Does names (left.pointer d) points flags
