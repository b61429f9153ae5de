-- What readers answer behind a single token, which is never too deep.
use Rattle.std.proofs.Common.{ℕ, Option}
use Rattle.cyc_lexer.specs.declared.token.Keyword.{Keyword}
use Rattle.cyc_lexer.specs.declared.token.Sign.{Sign}
use Rattle.cyc_tree.specs.Tree.{Name}
use Rattle.source_grammar.specs.Phrases.{Tokens, SignAt, KeywordAt, IsName}
use Rattle.cyc_parser.specs.Reader.{Outcome, read, sign, keyword}
use Rattle.cyc_parser.specs.ReadTypes.{name}
use Rattle.cyc_parser.proofs.exactness.Types.{sign_exact, keyword_exact, name_exact}
use Rattle.cyc_parser.proofs.exactness.Composed.{stops_ends}
use Rattle.cyc_parser.proofs.Goes.{Goes, goes_behind}

-- a sign, and what is read behind it
pub sign_goes : {A : Type 0} (s : Sign) (q : ℕ → Tokens → Outcome A) (at : ℕ) (from mid to : Tokens) (a : A) (d : Option ℕ) → SignAt s at from mid
    → Goes (q at mid) a to d → Goes (read (sign s) q from) a to d
sign_goes s q at from mid to a d is goes = goes_behind (sign s) q from at mid a to d ((sign_exact s).again at from mid is (stops_ends at mid)) goes

-- a keyword
pub keyword_goes : {A : Type 0} (w : Keyword) (q : ℕ → Tokens → Outcome A) (at : ℕ) (from mid to : Tokens) (a : A) (d : Option ℕ)
    → KeywordAt w at from mid → Goes (q at mid) a to d → Goes (read (keyword w) q from) a to d
keyword_goes w q at from mid to a d is goes =
    goes_behind (keyword w) q from at mid a to d ((keyword_exact w).again at from mid is (stops_ends at mid)) goes

-- a name
pub name_goes : {A : Type 0} (q : Name → Tokens → Outcome A) (n : Name) (from mid to : Tokens) (a : A) (d : Option ℕ) → IsName n from mid
    → Goes (q n mid) a to d → Goes (read name q from) a to d
name_goes q n from mid to a d is goes = goes_behind name q from n mid a to d (name_exact.again n from mid is (stops_ends n mid)) goes
