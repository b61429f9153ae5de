-- Loops over phrases with commas between them, and what stands behind a list.
use Rattle.std.proofs.Common.{◌≡◌, ◌<◌, ℕ, List, [], ◌∷◌, ◌++◌, length, map, true, Ok, sym, ap, subst, ◌∙◌}
use Rattle.cyc_lexer.specs.declared.token.Sign.TheVariants as sign_of
use Rattle.cyc_parser.specs.declared.fault.ParseFault.{ParseFault}
use Rattle.source_grammar.specs.Phrases.{Tokens}
use Rattle.cyc_parser.specs.Tests.{is_sign}
use Rattle.cyc_parser.specs.Reader.{◌>>=◌, Outcome, Fails, many, next_is, sign, behind}
use Rattle.cyc_parser.proofs.ReadLoops.{with_front, pushed, fails_so}

-- the phrases that commas stand before
abbrev pub behind_commas : {A : Type 0} → (Tokens → Outcome A) → Tokens → Outcome (List A)
behind_commas p = many (is_sign sign_of.Comma) (behind sign_of.Comma p)

-- a step of the loop: a comma and a phrase
pub comma_pushed : {X A : Type 0} (view : X → A) (p : Tokens → Outcome A) (xs all : List X) (x : X) (at : ℕ) (ts mid to : Tokens) (whole : Outcome (List A))
    → all ≡ xs ++ x ∷ [] → next_is (is_sign sign_of.Comma) ts ≡ true → sign sign_of.Comma ts ≡ Ok (at, mid) → p mid ≡ Ok (view x, to) → length to < length ts
    → with_front (map view xs) (behind_commas p ts) ≡ whole → with_front (map view all) (behind_commas p to) ≡ whole
comma_pushed view p xs all x at ts mid to whole push next comma one shorter before =
    pushed view (is_sign sign_of.Comma) (behind sign_of.Comma p) xs all x ts to whole push next (ap (λ outcome. outcome >>= λ y. p y.1) comma ∙ one)
    shorter before

-- the phrase behind a comma is refused
pub comma_fails : {A : Type 0} (p : Tokens → Outcome A) (xs : List A) (at : ℕ) (ts mid : Tokens) (fault : ParseFault) (whole : Outcome (List A))
    → next_is (is_sign sign_of.Comma) ts ≡ true → sign sign_of.Comma ts ≡ Ok (at, mid) → Fails fault (p mid)
    → with_front xs (behind_commas p ts) ≡ whole → Fails fault whole
comma_fails p xs at ts mid fault whole next comma fails before =
    fails_so (is_sign sign_of.Comma) (behind sign_of.Comma p) xs ts fault whole next
    (subst (λ outcome. Fails fault (outcome >>= λ y. p y.1)) (sym comma) fails) before
