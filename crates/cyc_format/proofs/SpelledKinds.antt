-- A token's kind is the one that its spelling has alone.
use Rattle.std.proofs.Common.{◌≡◌, ℕ, ◌≤◌, List, [], ◌∷◌, ◌++◌, length, map, Option, Some, None, refl, ap, sym, ◌∙◌, subst, arith, inl, inr, length-append}
use Rattle.std.proofs.lemmas.List.{append-nil}
use Rattle.cyc_lexer.specs.Lexing.{Token, BeginsComment, IsLongest, MayFollow, IsToken, Lexing, AreTokens}
use Rattle.cyc_lexer.specs.Spelling.{Spells}
use Rattle.cyc_lexer.specs.Reading.{token_at}
use Rattle.cyc_lexer.specs.declared.token.TokenKind.{TokenKind}
use Rattle.cyc_lexer.specs.declared.token.TokenKind.TheVariants as kind
use Rattle.cyc_lexer.proofs.ReadTokens.{token_again}
use Rattle.cyc_lexer.proofs.Follows.{kind_of}
use Rattle.cyc_format.specs.Layout.{spellings, kinds}

-- the kind of a spelling
abbrev alone : List ℕ → TokenKind
alone s = kind_of (token_at (s ++ []))

comment_goes_on : (s rest : List ℕ) → BeginsComment (s ++ []) → BeginsComment (s ++ rest)
comment_goes_on s rest (back, inl e) = (back ++ rest, inl (ap (λ t. t ++ rest) (sym (append-nil s) ∙ e)))
comment_goes_on s rest (back, inr e) = (back ++ rest, inr (ap (λ t. t ++ rest) (sym (append-nil s) ∙ e)))

may_end : (k : TokenKind) → MayFollow k []
may_end (kind.Number n suffix) = λ h. h
may_end (kind.Keyword k) = tt
may_end kind.Identifier = tt
may_end kind.Region = tt
may_end (kind.Character byte) = tt
may_end kind.Text = tt
may_end (kind.Sign k) = tt

longest_alone : (s : List ℕ) → IsLongest s []
longest_alone s = λ k other more e h. omega (arith, ap length e, length-append s [], length-append other more)

token_alone : (k : TokenKind) (s rest : List ℕ) → IsToken k s rest → IsToken k s []
token_alone k s rest h = record {
  spelled = h.spelled;
  longest = longest_alone s;
  no_comment = (λ c. h.no_comment (comment_goes_on s rest c));
  apart = may_end k;
}

kind_alone : (k : TokenKind) (s rest : List ℕ) → IsToken k s rest → k ≡ alone s
kind_alone k s rest h = sym (ap kind_of (token_again k s [] (token_alone k s rest h)))

kinds_alone : {at : ℕ} {text : List ℕ} {tokens : List Token} {end : ℕ} {rest : List ℕ} → Lexing at text tokens end rest
    → kinds tokens ≡ map alone (spellings tokens)
kinds_alone (Lexing.stays at text) = refl
kinds_alone (Lexing.gap at s text tokens end rest g more) = kinds_alone more
kinds_alone (Lexing.token at k s text tokens end rest h more) =
    ap (λ (x : TokenKind). x ∷ kinds tokens) (kind_alone k s text h) ∙ ap (λ ks. alone s ∷ ks) (kinds_alone more)

pub same_kinds : (text out : List ℕ) (tokens others : List Token) → AreTokens text tokens → AreTokens out others → spellings tokens ≡ spellings others
    → kinds tokens ≡ kinds others
same_kinds text out tokens others h g e = kinds_alone h ∙ ap (map alone) e ∙ sym (kinds_alone g)
