-- Steps of the loop over a text, and what its ends mean.
use Rattle.std.proofs.Common.{◌≡◌, ℕ, ◌+◌, ◌-◌, ◌<◌, ◌≤◌, List, [], ◌∷◌, ◌++◌, length, take, drop, Some, None, refl, ap, sym, ◌∙◌, subst, arith, inl, inr}
use Rattle.std.proofs.lemmas.List.{take_rest, drop-drop, drop_all, length-drop}
use Rattle.cyc_lexer.specs.Lexing.{Token, IsGap, IsToken, Lexing, AreTokens, IsFaultAt, text_limit}
use Rattle.cyc_lexer.specs.Tokens.{IsRefusedAt}
use Rattle.cyc_lexer.specs.Reading.{gap_at, token_at}
use Rattle.cyc_lexer.specs.declared.token.TokenKind.{TokenKind}
use Rattle.cyc_lexer.proofs.Fronts.{Reads, Cut-within, Cut-take, Cut-drop}
use Rattle.cyc_lexer.proofs.ReadGaps.{gap_read}
use Rattle.cyc_lexer.proofs.FirstBytes.{spells_some}
use Rattle.cyc_lexer.proofs.ReadTokens.{token_read, first_of_gap}
use Rattle.cyc_lexer.proofs.Follows.{nothing_begins, empty_begins_nothing, same_end, with_gap, with_token}

-- the text from a place on
abbrev pub rest_of : List ℕ → ℕ → List ℕ
rest_of text at = take (length text - at) (drop at text)

-- n bytes further
pub record Goes (text : List ℕ) (tokens : List Token) (at n : ℕ) : Type 0 where
  pub some : 0 < n
  pub within : at + n ≤ length text
  pub so_far : Lexing 0 text tokens (at + n) (drop (at + n) text)

positive : (k : TokenKind) (s r : List ℕ) → IsToken k s r → 0 < length s
positive k [] r h = absurd (spells_some k h.spelled)
positive k (b ∷ bs) r h = omega arith

pub over_gap : (text : List ℕ) (tokens : List Token) (at n : ℕ) → at ≤ length text → Lexing 0 text tokens at (drop at text) → gap_at (rest_of text at) ≡ Some n
    → Goes text tokens at n
over_gap text tokens at n le so_far h =
    let t = drop at text in
    let w = gap_read t n (ap gap_at (sym (take_rest text at)) ∙ h) in
    let first = first_of_gap w.front w.rest w.holds in
    let later : w.rest ≡ drop (at + n) text = sym (Cut-drop IsGap n t w) ∙ drop-drop n at text in
    let next = with_gap so_far w.front w.rest w.is w.holds in
    record {
      some = omega (arith, w.size, ap length first.2);
      within = omega (arith, Cut-within IsGap n t w, length-drop at text);
      so_far = subst (λ (r : List ℕ). Lexing 0 text tokens (at + n) r) later (subst (λ (m : ℕ). Lexing 0 text tokens (at + m) w.rest) w.size next);
    }

pub over_token : (text : List ℕ) (tokens : List Token) (at : ℕ) (k : TokenKind) (n : ℕ) → at ≤ length text → Lexing 0 text tokens at (drop at text) →
    token_at (rest_of text at) ≡ Some (k, n) → Goes text (tokens ++ record { kind = k; at = at; text = take n (rest_of text at) } ∷ []) at n
over_token text tokens at k n le so_far h =
    let t = drop at text in
    let w = subst (Reads IsToken t) (ap token_at (sym (take_rest text at)) ∙ h) (token_read t) in
    let spelled : w.front ≡ take n (rest_of text at) = sym (Cut-take (IsToken k) n t w) ∙ ap (take n) (sym (take_rest text at)) in
    let later : w.rest ≡ drop (at + n) text = sym (Cut-drop (IsToken k) n t w) ∙ drop-drop n at text in
    let next = with_token so_far k w.front w.rest w.is w.holds in
    let moved = subst (λ (r : List ℕ). Lexing 0 text (tokens ++ record { kind = k; at = at; text = w.front } ∷ []) (at + n) r) later
    (subst (λ (m : ℕ). Lexing 0 text (tokens ++ record { kind = k; at = at; text = w.front } ∷ []) (at + m) w.rest) w.size next) in
    record {
      some = omega (arith, positive k w.front w.rest w.holds, w.size);
      within = omega (arith, Cut-within (IsToken k) n t w, length-drop at text);
      so_far = subst (λ (s : List ℕ). Lexing 0 text (tokens ++ record { kind = k; at = at; text = s } ∷ []) (at + n) (drop (at + n) text)) spelled moved;
    }

pub fault_here : (text : List ℕ) (tokens : List Token) (at : ℕ) → at < length text → Lexing 0 text tokens at (drop at text) →
    gap_at (rest_of text at) ≡ None → token_at (rest_of text at) ≡ None → IsFaultAt text at
fault_here text tokens at lt so_far g h = (
  tokens,
  drop at text,
  so_far,
  (λ e. absurd (omega (arith, ap length e, length-drop at text))),
  nothing_begins (drop at text) (ap gap_at (sym (take_rest text at)) ∙ g) (ap token_at (sym (take_rest text at)) ∙ h),
)

-- ---- one outcome

pub all_read : (text : List ℕ) (tokens : List Token) (at : ℕ) → at ≤ length text → length text ≤ at → Lexing 0 text tokens at (drop at text)
    → AreTokens text tokens
all_read text tokens at le ge h =
    let end : at ≡ length text = omega arith in
    subst (λ (n : ℕ). Lexing 0 text tokens n []) end (subst (λ (r : List ℕ). Lexing 0 text tokens at r) (drop_all at text ge) h)

pub same_tokens : (text : List ℕ) (tokens others : List Token) → AreTokens text tokens → AreTokens text others → tokens ≡ others
same_tokens text tokens others h g = (same_end h g refl refl empty_begins_nothing empty_begins_nothing).0

pub tokens_or_fault : (text : List ℕ) (tokens : List Token) (at : ℕ) → AreTokens text tokens → IsFaultAt text at → ⊥
tokens_or_fault text tokens at h (before, rest, so_far, some, nothing) = some (sym (same_end h so_far refl refl empty_begins_nothing nothing).2)

pub same_fault : (text : List ℕ) (at at2 : ℕ) → IsFaultAt text at → IsFaultAt text at2 → at ≡ at2
same_fault text at at2 (before, rest, so_far, some, nothing) (before2, rest2, so_far2, some2, nothing2) = (same_end so_far so_far2 refl refl nothing nothing2).1

pub refused_within : (text : List ℕ) (at : ℕ) → length text ≤ text_limit → IsRefusedAt text at → IsFaultAt text at
refused_within text at le (inl h) = absurd (omega (arith, h.0))
refused_within text at le (inr h) = h.1
