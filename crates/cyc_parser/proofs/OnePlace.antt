-- Tokens that are no program have one first token that no program has there; and one that is too deep, where there is one.
use Rattle.std.proofs.Common.{◌≡◌, ◌⊎◌, ℕ, [], ◌∷◌, ◌++◌, Option, Some, None, refl, sym, ap, subst, ◌∙◌, append_assoc, inl, inr}
use Rattle.cyc_lexer.specs.Lexing.{Token}
use Rattle.cyc_tree.specs.Tree.{Program}
use Rattle.cyc_tree.specs.Depths.{too_deep_at}
use Rattle.source_grammar.specs.Phrases.{Tokens}
use Rattle.source_grammar.specs.Grammar.{IsProgram}
use Rattle.cyc_parser.specs.Reading.{next_place}
use Rattle.cyc_parser.specs.Refusals.{BeginAProgram, GoNoFurther, IsUnexpectedAt, IsTooDeepAt}

-- one front goes on where the other ends
abbrev pub Longer : (front longer rest other : Tokens) → Type 0
Longer front longer rest other = (t : Token) × (more : Tokens) × (longer ≡ front ++ t ∷ more) × (rest ≡ t ∷ (more ++ other))

-- the same tokens, cut twice: at one place, or at one and then at another
pub cut : (front rest front2 rest2 : Tokens) → front ++ rest ≡ front2 ++ rest2
    → ((front ≡ front2) × (rest ≡ rest2)) ⊎ (Longer front front2 rest rest2 ⊎ Longer front2 front rest2 rest)
cut [] rest [] rest2 e = inl (refl, e)
cut [] rest (y ∷ ys) rest2 e = inr (inl (y, ys, refl, e))
cut (x ∷ xs) rest [] rest2 e = inr (inr (x, xs, refl, sym e))
cut (x ∷ xs) rest (y ∷ ys) rest2 e =
    let head : x ≡ y = cc in
    let tail : xs ++ rest ≡ ys ++ rest2 = cc in
    elim (cut xs rest ys rest2 tail) [
      | inl same ↦ inl ((let fronts = same.0 in cc), same.1)
      | inr (inl longer) ↦ inr (inl (longer.0, longer.1, (let fronts = longer.2 in cc), longer.3))
      | inr (inr longer) ↦ inr (inr (longer.0, longer.1, (let fronts = longer.2 in cc), longer.3))
    ]

-- a front that goes on is the beginning of a program, and so is each front before it
begins_before : (front longer : Tokens) (t : Token) (more : Tokens) → longer ≡ front ++ t ∷ more → BeginAProgram longer → BeginAProgram (front ++ t ∷ [])
begins_before front longer t more is begins = (
  begins.0,
  more ++ begins.1,
  subst (IsProgram begins.0)
      (ap (λ (x : Tokens). x ++ begins.1) is ∙ append_assoc front (t ∷ more) begins.1 ∙ sym (append_assoc front (t ∷ []) (more ++ begins.1))) begins.2,
)

-- no program begins with a front that goes on where nothing goes further
pub no_longer : (front rest longer other : Tokens) → GoNoFurther front rest → BeginAProgram longer → Longer front longer rest other → ⊥
no_longer front rest longer other stops begins (t, more, is, goes_on) =
    subst (GoNoFurther front) goes_on stops (begins_before front longer t more is begins)

pub one_place : (tokens : Tokens) (at other : ℕ) → IsUnexpectedAt tokens at → IsUnexpectedAt tokens other → at ≡ other
one_place tokens at other here there =
    elim (cut here.front here.rest there.front there.rest (sym here.parts ∙ there.parts)) [
      | inl same ↦ here.place ∙ ap next_place same.1 ∙ sym there.place
      | inr (inl longer) ↦ absurd (no_longer here.front here.rest there.front there.rest here.no_further there.begins longer)
      | inr (inr longer) ↦ absurd (no_longer there.front there.rest here.front here.rest there.no_further here.begins longer)
    ]

-- ---- a token that is too deep

abbrev place_of : Option ℕ → ℕ → ℕ
place_of None other = other
place_of (Some at) other = at

-- a program that the longer of two fronts begins has the one place as its first that is too deep, and the other one, too
one_longer : (front front2 : Tokens) (next next2 : Token) (others others2 : Tokens) (at other : ℕ)
    → ((p : Program) (ending : Tokens) → IsProgram p (front ++ next ∷ ending) → too_deep_at p ≡ Some at)
    → ((p : Program) (ending : Tokens) → IsProgram p (front2 ++ next2 ∷ ending) → too_deep_at p ≡ Some other)
    → BeginAProgram (front2 ++ next2 ∷ []) → Longer front front2 (next ∷ others) (next2 ∷ others2) → at ≡ other
one_longer front front2 next next2 others others2 at other here there (p, ending, is) (t, more, longer, rest) =
    let same : next ≡ t = cc in
    let is2 : IsProgram p (front2 ++ next2 ∷ ending) = subst (IsProgram p) (append_assoc front2 (next2 ∷ []) ending) is in
    let parts : front2 ++ next2 ∷ ending ≡ front ++ next ∷ (more ++ next2 ∷ ending) =
    ap (λ (x : Tokens). x ++ next2 ∷ ending) longer ∙ append_assoc front (t ∷ more) (next2 ∷ ending)
    ∙ ap (λ (x : Token). front ++ x ∷ (more ++ next2 ∷ ending)) (sym same) in
    let first : too_deep_at p ≡ Some at = here p (more ++ next2 ∷ ending) (subst (IsProgram p) parts is2) in
    let second : too_deep_at p ≡ Some other = there p ending is2 in
    ap (λ (x : Option ℕ). place_of x at) (sym first ∙ second)

-- tokens have one place that is too deep
pub one_depth : (tokens : Tokens) (at other : ℕ) → IsTooDeepAt tokens at → IsTooDeepAt tokens other → at ≡ other
one_depth tokens at other here there =
    elim (cut here.front (here.next ∷ here.others) there.front (there.next ∷ there.others) (sym here.parts ∙ there.parts)) [
      | inl same ↦ here.place ∙ ap next_place same.1 ∙ sym there.place
      | inr (inl longer) ↦ one_longer here.front there.front here.next there.next here.others there.others at other here.first there.first there.begins
          longer
      | inr (inr longer) ↦ sym (one_longer there.front here.front there.next here.next there.others here.others other at there.first here.first
          here.begins longer)
    ]
