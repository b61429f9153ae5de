-- A text has one list of tokens, or one place where none begins.
use Rattle.std.proofs.Common.{◌≡◌, ℕ, ◌+◌, List, [], ◌∷◌, ◌++◌, length, Option, Some, None, refl, ap, sym, ◌∙◌, subst, arith}
use Rattle.cyc_lexer.specs.Lexing.{Token, IsGap, IsToken, Lexing, BeginsNothing}
use Rattle.cyc_lexer.specs.Reading.{gap_at, token_at}
use Rattle.cyc_lexer.specs.declared.token.TokenKind.{TokenKind}
use Rattle.cyc_lexer.specs.declared.token.TokenKind.TheVariants as kind
use Rattle.cyc_lexer.proofs.Fronts.{same_fronts}
use Rattle.cyc_lexer.proofs.ReadGaps.{gap_again}
use Rattle.cyc_lexer.proofs.ReadTokens.{token_again, gap_or_token}

abbrev length_of : Option ℕ → ℕ
length_of None = 0
length_of (Some n) = n

-- the kind of what was read; of nothing, some kind
abbrev pub kind_of : Option (TokenKind × ℕ) → TokenKind
kind_of None = kind.Text
kind_of (Some x) = x.0

abbrev size_of : Option (TokenKind × ℕ) → ℕ
size_of None = 0
size_of (Some x) = x.1

-- ---- one step

same_gap : (s r s2 r2 : List ℕ) → IsGap s r → IsGap s2 r2 → s ++ r ≡ s2 ++ r2 → (s ≡ s2) × (r ≡ r2)
same_gap s r s2 r2 g h e =
    same_fronts s r s2 r2 e (ap length_of (sym (gap_again s r g) ∙ ap gap_at e ∙ gap_again s2 r2 h))

same_token : (k k2 : TokenKind) (s r s2 r2 : List ℕ) → IsToken k s r → IsToken k2 s2 r2 → s ++ r ≡ s2 ++ r2 → (k ≡ k2) × (s ≡ s2) × (r ≡ r2)
same_token k k2 s r s2 r2 g h e =
    let read = sym (token_again k s r g) ∙ ap token_at e ∙ token_again k2 s2 r2 h in
    let fronts = same_fronts s r s2 r2 e (ap size_of read) in
    (ap kind_of read, fronts.0, fronts.1)

pub nothing_begins : (t : List ℕ) → gap_at t ≡ None → token_at t ≡ None → BeginsNothing t
nothing_begins t g h = (
  (λ s r e gap. (let never : ◌≡◌ {A = Option ℕ} None (Some (length s)) = sym g ∙ ap gap_at e ∙ gap_again s r gap in cc)),
  (λ k s r e token. (let never : ◌≡◌ {A = Option (TokenKind × ℕ)} None (Some (k, length s)) = sym h ∙ ap token_at e ∙ token_again k s r token in cc)),
)

pub empty_begins_nothing : BeginsNothing []
empty_begins_nothing = nothing_begins [] refl refl

-- ---- a text ends in one way

pub same_end : {at : ℕ} {t : List ℕ} {ts : List Token} {end : ℕ} {rest : List ℕ} {at2 : ℕ} {t2 : List ℕ} {ts2 : List Token} {end2 : ℕ} {rest2 : List ℕ} →
    Lexing at t ts end rest → Lexing at2 t2 ts2 end2 rest2 → at ≡ at2 → t ≡ t2 → BeginsNothing rest → BeginsNothing rest2
    → (ts ≡ ts2) × (end ≡ end2) × (rest ≡ rest2)
same_end (Lexing.stays at t) (Lexing.stays at2 t2) ea et over over2 = (refl, ea, et)
same_end (Lexing.stays at t) (Lexing.gap at2 s2 t2 ts2 end2 rest2 g2 more2) ea et over over2 = absurd (over.0 s2 t2 et g2)
same_end (Lexing.stays at t) (Lexing.token at2 k2 s2 t2 ts2 end2 rest2 g2 more2) ea et over over2 = absurd (over.1 k2 s2 t2 et g2)
same_end (Lexing.gap at s t ts end rest g more) (Lexing.stays at2 t2) ea et over over2 = absurd (over2.0 s t (sym et) g)
same_end (Lexing.gap at s t ts end rest g more) (Lexing.gap at2 s2 t2 ts2 end2 rest2 g2 more2) ea et over over2 =
    let both = same_gap s t s2 t2 g g2 et in
    let size = ap length both.0 in
    same_end more more2 (omega arith) both.1 over over2
same_end (Lexing.gap at s t ts end rest g more) (Lexing.token at2 k2 s2 t2 ts2 end2 rest2 g2 more2) ea et over over2 =
    absurd (gap_or_token k2 s t s2 t2 g g2 et)
same_end (Lexing.token at k s t ts end rest g more) (Lexing.stays at2 t2) ea et over over2 = absurd (over2.1 k s t (sym et) g)
same_end (Lexing.token at k s t ts end rest g more) (Lexing.gap at2 s2 t2 ts2 end2 rest2 g2 more2) ea et over over2 =
    absurd (gap_or_token k s2 t2 s t g2 g (sym et))
same_end (Lexing.token at k s t ts end rest g more) (Lexing.token at2 k2 s2 t2 ts2 end2 rest2 g2 more2) ea et over over2 =
    let all = same_token k k2 s t s2 t2 g g2 et in
    let kinds = all.0 in
    let texts = all.1 in
    let size = ap length texts in
    let later = same_end more more2 (omega arith) all.2 over over2 in
    let others = later.0 in
    (cc, later.1, later.2)

-- ---- a text that goes on

pub with_gap : {at : ℕ} {t : List ℕ} {ts : List Token} {end : ℕ} {rest : List ℕ} → Lexing at t ts end rest → (s r : List ℕ) → rest ≡ s ++ r → IsGap s r
    → Lexing at t ts (end + length s) r
with_gap (Lexing.stays at t) s r e g =
    subst (λ (u : List ℕ). Lexing at u [] (at + length s) r) (sym e) (Lexing.gap at s r [] (at + length s) r g (Lexing.stays (at + length s) r))
with_gap (Lexing.gap at s2 t ts end rest g2 more) s r e g = Lexing.gap at s2 t ts (end + length s) r g2 (with_gap more s r e g)
with_gap (Lexing.token at k2 s2 t ts end rest g2 more) s r e g = Lexing.token at k2 s2 t ts (end + length s) r g2 (with_gap more s r e g)

pub with_token : {at : ℕ} {t : List ℕ} {ts : List Token} {end : ℕ} {rest : List ℕ} → Lexing at t ts end rest → (k : TokenKind) (s r : List ℕ) → rest ≡ s ++ r
    → IsToken k s r →
    Lexing at t (ts ++ record { kind = k; at = end; text = s } ∷ []) (end + length s) r
with_token (Lexing.stays at t) k s r e g =
    subst (λ (u : List ℕ). Lexing at u (record { kind = k; at = at; text = s } ∷ []) (at + length s) r) (sym e)
    (Lexing.token at k s r [] (at + length s) r g (Lexing.stays (at + length s) r))
with_token (Lexing.gap at s2 t ts end rest g2 more) k s r e g =
    Lexing.gap at s2 t (ts ++ record { kind = k; at = end; text = s } ∷ []) (end + length s) r g2 (with_token more k s r e g)
with_token (Lexing.token at k2 s2 t ts end rest g2 more) k s r e g =
    Lexing.token at k2 s2 t (ts ++ record { kind = k; at = end; text = s } ∷ []) (end + length s) r g2 (with_token more k s r e g)
