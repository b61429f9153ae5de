-- The readers where a phrase may nest.
use Rattle.std.proofs.Common.{◌≡◌, ℕ, zero, suc, ◌-◌, Bool, true, false, Err, refl, ap, sym, subst}
use Rattle.std.specs.Prelude.{if◌then◌else◌}
use Rattle.cyc_lexer.specs.declared.token.TokenKind.{TokenKind}
use Rattle.cyc_parser.specs.declared.fault.ParseFault.{ParseFault}
use Rattle.cyc_parser.specs.declared.fault.ParseFault.TheVariants.{Parse, TooDeep}
use Rattle.cyc_parser.specs.Reading.{next_place}
use native.Mathlib.Numerals.{unary_clauses}
use Rattle.source_grammar.specs.Phrases.{Tokens}
use Rattle.cyc_parser.specs.Tests.{begins_statement}
use Rattle.cyc_parser.specs.Reader.{Outcome, Fails, next_is, too_deep, refuse}
use Rattle.cyc_parser.specs.ReadExpressions.{expression_at}
use Rattle.cyc_parser.specs.ReadStatements.{compound_by, statement_at}

refuses_as : {A : Type 0} (b : Bool) (ts : Tokens) (outcome : Outcome A)
    → outcome ≡ Err (if b then TooDeep (next_place ts) else Parse (next_place ts))
    → Fails (if b then TooDeep (next_place ts) else Parse (next_place ts)) outcome
refuses_as true ts outcome same = same
refuses_as false ts outcome same = same

-- the fault where no phrase may nest is what the reader refuses with
pub refuses : {A : Type 0} (begins : TokenKind → Bool) (ts : Tokens) (fault : ParseFault) (outcome : Outcome A)
    → fault ≡ too_deep begins ts → outcome ≡ refuse begins ts → Fails fault outcome
refuses begins ts fault outcome same read = subst (λ f. Fails f outcome) (sym same) (refuses_as (next_is begins ts) ts outcome read)

pub statement_none : (depth : ℕ) → depth ≡ 0 → (ts : Tokens) → statement_at depth ts ≡ refuse begins_statement ts
unfolding statement_at
statement_none depth none ts = ap (λ d. statement_at d ts) none

pub statement_below : (depth : ℕ) → (depth ≡ 0 → ⊥) → statement_at depth ≡ compound_by (expression_at (depth - 1)) (statement_at (depth - 1))
unfolding statement_at
statement_below zero some = absurd (some refl)
statement_below (suc depth) some = simp unary_clauses refl
