-- Chains of operators, and the nesting, by what the functions that read them call.
use Rattle.std.proofs.Common.{◌≡◌, ℕ, zero, suc, ◌+◌, ◌-◌, true, false, List, [], ◌∷◌, Ok, Err, refl, sym, ap, subst, ◌∙◌, arith}
use Rattle.cyc_lexer.specs.Lexing.{Token}
use Rattle.cyc_tree.specs.declared.expression.Operator.{Operator}
use Rattle.cyc_tree.specs.declared.expression.Operator.TheVariants as operator
use Rattle.cyc_tree.specs.Tree.{Expression}
use Rattle.cyc_tree.specs.View.{links_of}
use Rattle.cyc_parser.specs.declared.fault.ParseFault.{ParseFault}
use Rattle.cyc_parser.specs.declared.operator.Level.{Level}
use Rattle.cyc_parser.specs.declared.operator.Level.TheVariants.{BitOr, BitXor, BitAnd, Equality, Relation, Shift, Sum, Term}
use Rattle.source_grammar.specs.Phrases.{Tokens}
use Rattle.cyc_parser.specs.Parts.{chained}
use Rattle.cyc_parser.specs.Tests.{is_any, is_operator, begins_unary}
use Rattle.cyc_parser.specs.Levels.{levels_from, number_of, operator_next}
use Rattle.cyc_parser.specs.Reader.{Outcome, Fails, done, read, token, next_is, too_deep}
use Rattle.cyc_parser.specs.ReadExpressions.{Reads, level_over, operator_of, links_by, chain_by, assignment_by, operation_by, expression_at, unary_at}
use Rattle.cyc_parser.proofs.Levels.{number_over}
use Rattle.cyc_parser.proofs.ReadSteps.{fails_as, first_fails, then_fails, then_reads, token_passes}

-- ---- one operator and its operand

-- what reads them, of a level that has n levels over it
abbrev pub link_by : Reads Expression → ℕ → Reads (Operator × Expression)
link_by operand n = read (token (is_operator (level_over n))) (λ t. read operand (λ e. done (operator_of t.kind, e)))

pub operator_stands : (level : Level) (ts : Tokens) (found : Operator)
    → (next_is (is_operator (number_of level)) ts ≡ true) × (operator_next ts ≡ found)
    → next_is (is_operator (level_over (levels_from level - 1))) ts ≡ true
operator_stands level ts found is = rw (number_over level) is.0

pub no_operator_stands : (level : Level) (ts : Tokens) → next_is (is_operator (number_of level)) ts ≡ false
    → next_is (is_operator (level_over (levels_from level - 1))) ts ≡ false
no_operator_stands level ts is = rw (number_over level) is

pub operand_fails : (operand : Reads Expression) (n : ℕ) (ts after : Tokens) (t : Token) (fault : ParseFault)
    → next_is (is_operator (level_over n)) ts ≡ true → token is_any ts ≡ Ok (t, after) → Fails fault (operand after)
    → Fails fault (link_by operand n ts)
operand_fails operand n ts after t fault next one fails =
    then_fails fault (token (is_operator (level_over n)) ts) (λ x. read operand (λ e. done (operator_of x.0.kind, e)) x.1) t after
    (token_passes (is_operator (level_over n)) ts t after next one)
    (first_fails fault (operand after) (λ x. Ok ((operator_of t.kind, x.0), x.1)) fails)

-- the operator that a token is, where one was read
abbrev operator_read : Outcome Token → Operator
operator_read (Ok x) = operator_of x.0.kind
operator_read (Err fault) = operator.Remainder

is_read_operator : (ts : Tokens) (t : Token) (after : Tokens) → token is_any ts ≡ Ok (t, after) → operator_next ts ≡ operator_of t.kind
is_read_operator [] t after one = ap operator_read one
is_read_operator (first ∷ others) t after one = ap operator_read one

pub link_read : (operand : Reads Expression) (n : ℕ) (ts after left : Tokens) (t : Token) (found : Operator) (e : Expression)
    → next_is (is_operator (level_over n)) ts ≡ true → operator_next ts ≡ found → token is_any ts ≡ Ok (t, after) → operand after ≡ Ok (e, left)
    → link_by operand n ts ≡ Ok ((found, e), left)
link_read operand n ts after left t found e next is one read_e =
    then_reads (token (is_operator (level_over n)) ts) (λ x. read operand (λ e. done (operator_of x.0.kind, e)) x.1) t after (Ok ((found, e), left))
    (token_passes (is_operator (level_over n)) ts t after next one)
    (then_reads (operand after) (λ x. Ok ((operator_of t.kind, x.0), x.1)) e left (Ok ((found, e), left)) read_e
    (ap (λ o. Ok ((o, e), left)) (sym (is_read_operator ts t after one) ∙ is)))

-- ---- a level's operands

-- what reads the operators of a level that has n levels over it, and makes one expression of them and what stands before
abbrev behind_first : Reads Expression → ℕ → Expression → Reads Expression
behind_first unary n first = read (links_by (chain_by unary n) n) (λ links. done (chained first (links_of links)))

abbrev chain_of : Reads Expression → ℕ → Reads Expression
chain_of unary n = read (chain_by unary n) (behind_first unary n)

chain_below : (unary : Reads Expression) (level : Level) → chain_by unary (levels_from level) ≡ chain_of unary (levels_from level - 1)
unfolding chain_by
chain_below unary BitOr = refl
chain_below unary BitXor = refl
chain_below unary BitAnd = refl
chain_below unary Equality = refl
chain_below unary Relation = refl
chain_below unary Shift = refl
chain_below unary Sum = refl
chain_below unary Term = refl

pub above : (level : Level) (n : ℕ) → n + 1 ≡ levels_from level → n ≡ levels_from level - 1
above level n one_more = omega arith

pub chain_none : (unary : Reads Expression) → chain_by unary 0 ≡ unary
unfolding chain_by
chain_none unary = refl

pub chain_first_fails : (unary : Reads Expression) (level : Level) (n : ℕ) (ts : Tokens) (fault : ParseFault) → n + 1 ≡ levels_from level
    → Fails fault (chain_by unary n ts) → Fails fault (chain_by unary (levels_from level) ts)
chain_first_fails unary level n ts fault one_more fails =
    let here : n ≡ levels_from level - 1 = above level n one_more in
    rw (chain_below unary level, ← here) (first_fails fault (chain_by unary n ts) (λ x. behind_first unary n x.0 x.1) fails)

pub chain_links_fail : (unary : Reads Expression) (level : Level) (n : ℕ) (ts mid : Tokens) (first : Expression) (fault : ParseFault)
    → n + 1 ≡ levels_from level → chain_by unary n ts ≡ Ok (first, mid)
    → Fails fault (links_by (chain_by unary (levels_from level - 1)) (levels_from level - 1) mid) → Fails fault (chain_by unary (levels_from level) ts)
chain_links_fail unary level n ts mid first fault one_more one fails =
    let here : n ≡ levels_from level - 1 = above level n one_more in
    let others : Fails fault (links_by (chain_by unary n) n mid) = subst (λ m. Fails fault (links_by (chain_by unary m) m mid)) (sym here) fails in
    rw (chain_below unary level, ← here) (then_fails fault (chain_by unary n ts) (λ x. behind_first unary n x.0 x.1) first mid one
    (first_fails fault (links_by (chain_by unary n) n mid) (λ x. Ok (chained first (links_of x.0), x.1)) others))

pub chain_read : (unary : Reads Expression) (level : Level) (n : ℕ) (ts mid left : Tokens) (first all : Expression) (links : List (Operator × Expression))
    → n + 1 ≡ levels_from level → chain_by unary n ts ≡ Ok (first, mid)
    → links_by (chain_by unary (levels_from level - 1)) (levels_from level - 1) mid ≡ Ok (links, left) → all ≡ chained first (links_of links)
    → chain_by unary (levels_from level) ts ≡ Ok (all, left)
chain_read unary level n ts mid left first all links one_more one others is =
    let here : n ≡ levels_from level - 1 = above level n one_more in
    let behind : links_by (chain_by unary n) n mid ≡ Ok (links, left) =
    subst (λ m. links_by (chain_by unary m) m mid ≡ Ok (links, left)) (sym here) others in
    rw (chain_below unary level, ← here) (then_reads (chain_by unary n ts) (λ x. behind_first unary n x.0 x.1) first mid (Ok (all, left)) one
    (then_reads (links_by (chain_by unary n) n mid) (λ x. Ok (chained first (links_of x.0), x.1)) links left (Ok (all, left)) behind
    (ap (λ e. Ok (e, left)) (sym is))))

-- ---- the nesting

pub expression_none : (depth : ℕ) (ts : Tokens) (fault : ParseFault) → depth ≡ 0 → fault ≡ too_deep begins_unary ts
    → Fails fault (expression_at depth ts)
unfolding expression_at
expression_none zero ts fault none is = fails_as fault (expression_at 0 ts) (ap (λ f. Err f) (sym is))
expression_none (suc n) ts fault none is = absurd (omega (arith, none))

pub unary_none : (depth : ℕ) (ts : Tokens) (fault : ParseFault) → depth ≡ 0 → fault ≡ too_deep begins_unary ts → Fails fault (unary_at depth ts)
unfolding unary_at
unary_none zero ts fault none is = fails_as fault (unary_at 0 ts) (ap (λ f. Err f) (sym is))
unary_none (suc n) ts fault none is = absurd (omega (arith, none))

pub expression_below : (depth : ℕ) → (depth ≡ 0 → ⊥) → assignment_by (unary_at (depth - 1)) (expression_at (depth - 1)) ≡ expression_at depth
unfolding expression_at
expression_below zero some = absurd (some refl)
expression_below (suc n) some = let same : suc n - 1 ≡ n = omega arith in rw same refl

pub unary_below : (depth : ℕ) → (depth ≡ 0 → ⊥) → operation_by (unary_at (depth - 1)) (expression_at (depth - 1)) ≡ unary_at depth
unfolding unary_at
unary_below zero some = absurd (some refl)
unary_below (suc n) some = let same : suc n - 1 ≡ n = omega arith in rw same refl
