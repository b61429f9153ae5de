-- The members of a struct or a union, and the signs around them.
use Rattle.std.proofs.Common.{◌≡◌, ℕ, List, ◌∷◌, Ok, Err, refl, ap, ◌∙◌}
use Rattle.cyc_lexer.specs.declared.token.Sign.TheVariants as sign_of
use Rattle.cyc_tree.specs.Tree.{Member}
use Rattle.source_grammar.specs.Phrases.{Tokens}
use Rattle.cyc_parser.specs.Tests.{begins_type}
use Rattle.cyc_parser.specs.Reader.{◌>>=◌, Outcome, many, some, read, sign, done}
use Rattle.cyc_parser.specs.ReadPrograms.{member, members}

-- the signs behind the members
abbrev pub closed : List Member × Tokens → Outcome (List Member)
closed x = read (sign sign_of.RightBrace) (λ _. read (sign sign_of.Semicolon) (λ _. done x.0)) x.1

then_closed : (m : Member) (rest : Outcome (List Member)) → (rest >>= λ y. closed (m ∷ y.0, y.1)) ≡ ((rest >>= λ y. Ok (m ∷ y.0, y.1)) >>= closed)
then_closed m (Ok y) = refl
then_closed m (Err fault) = refl

all_closed : (first : Outcome Member) → (first >>= λ y. many begins_type member y.1 >>= λ z. closed (y.0 ∷ z.0, z.1))
    ≡ ((first >>= λ y. many begins_type member y.1 >>= λ z. Ok (y.0 ∷ z.0, z.1)) >>= closed)
all_closed (Ok y) = then_closed y.0 (many begins_type member y.1)
all_closed (Err fault) = refl

-- the brace before them was read
pub begun : (at : ℕ) (ts mid : Tokens) → sign sign_of.LeftBrace ts ≡ Ok (at, mid) → members ts ≡ (some begins_type member mid >>= closed)
unfolding members
begun at ts mid brace =
    ap (λ o. o >>= λ x. member x.1 >>= λ y. many begins_type member y.1 >>= λ z. closed (y.0 ∷ z.0, z.1)) brace ∙ all_closed (member mid)

-- they were read
pub ended : (at : ℕ) (ms : List Member) (ts mid to : Tokens) → sign sign_of.LeftBrace ts ≡ Ok (at, mid) → some begins_type member mid ≡ Ok (ms, to)
    → members ts ≡ closed (ms, to)
ended at ms ts mid to brace all = begun at ts mid brace ∙ ap (λ o. o >>= closed) all
