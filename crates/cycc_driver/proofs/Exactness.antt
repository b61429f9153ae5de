-- What is accepted isn't refused, and what a text spells is one program.
use Rattle.std.proofs.Common.{◌≡◌, ◌⊎◌, ℕ, ◌<◌, List, [], ◌∷◌, ◌++◌, inl, inr, sym, ap, subst, refl, ◌∙◌, append_assoc}
use Rattle.std.proofs.lemmas.List.{append-nil}
use Rattle.cyc_image.specs.Format.{code_limit}
use Rattle.cyc_lexer.specs.Lexing.{Token, AreTokens}
use Rattle.cyc_lexer.proofs.TextSteps.{same_tokens, tokens_or_fault, refused_within}
use Rattle.cyc_tree.specs.Tree.{Program}
use Rattle.cyc_tree.proofs.DeepestPhrases.{none_too_deep}
use Rattle.source_grammar.specs.Grammar.{IsProgram}
use Rattle.cyc_parser.specs.Refusals.{IsUnexpectedFirst, IsTooDeepAt, GoNoFurther}
use Rattle.cyc_parser.proofs.WholePrograms.{one_program}
use Rattle.source_typing.specs.Answers.{first_fault}
use Rattle.check_faults.specs.declared.fault.FaultKind.{FaultKind}
use Rattle.cycc_driver.specs.declared.fault.Place.{Place}
use Rattle.cycc_driver.specs.declared.fault.CompileFault.{CompileFault}
use Rattle.cycc_driver.specs.declared.fault.CompileFault.TheVariants as fault
use Rattle.cycc_driver.specs.Texts.{IsTextOf, IsAcceptedAs}
use Rattle.cycc_driver.specs.Refusals.{IsNoTokens, AreNoProgram, IsBroken, IsRefusedFor, HasNoImageFor, code_bound}

-- a text spells one program
pub same_program : (text : List ℕ) (p q : Program) → IsTextOf text p → IsTextOf text q → p ≡ q
same_program text p q one other =
    one_program one.tokens p q one.parsed (subst (IsProgram q) (same_tokens text other.tokens one.tokens other.lexed one.lexed) other.parsed)

pub lexed : (text : List ℕ) (p : Program) (place : Place) → IsTextOf text p → IsNoTokens text place → ⊥
lexed text p place spelled none = tokens_or_fault text spelled.tokens none.at spelled.lexed (refused_within text none.at spelled.within none.refused)

further : (p : Program) (front rest : List Token) → IsProgram p (front ++ rest) → GoNoFurther front rest → ⊥
further p front [] phrase stops = stops p (subst (IsProgram p) (append-nil front) phrase)
further p front (t ∷ others) phrase stops = stops (p, others, subst (IsProgram p) (sym (append_assoc front (t ∷ []) others)) phrase)

spells : (text : List ℕ) (p : Program) (tokens : List Token) → IsTextOf text p → AreTokens text tokens → IsProgram p tokens
spells text p tokens spelled found = subst (IsProgram p) (same_tokens text spelled.tokens tokens spelled.lexed found) spelled.parsed

pub unexpected : (text : List ℕ) (p : Program) (place : Place) → IsTextOf text p → AreNoProgram text IsUnexpectedFirst place → ⊥
unexpected text p place spelled none =
    let u = none.refused.0 in
    further p u.front u.rest (subst (IsProgram p) u.parts (spells text p none.tokens spelled none.lexed)) u.no_further

pub too_deep : (text : List ℕ) (p : Program) (place : Place) → IsTextOf text p → AreNoProgram text IsTooDeepAt place → ⊥
too_deep text p place spelled none =
    let d = none.refused in
    let over = d.first p d.others (subst (IsProgram p) d.parts (spells text p none.tokens spelled none.lexed)) in
    let none_deep = none_too_deep p spelled.nested in
    cc

pub broken : (text : List ℕ) (p : Program) (k : FaultKind) (place : Place) → IsAcceptedAs text p → IsBroken text k place → ⊥
broken text p k place accepted breaks =
    let same = same_program text p breaks.program accepted.spelled breaks.spelled in
    let none = sym accepted.accepted.faultless ∙ ap first_fault same ∙ breaks.first in
    cc

-- an accepted text is refused only if memory is out
pub accepted_or_refused : (text : List ℕ) (p : Program) (f : CompileFault) → IsAcceptedAs text p → IsRefusedFor f text → f ≡ fault.Memory
accepted_or_refused text p (fault.Lex place) accepted why = absurd (lexed text p place accepted.spelled why)
accepted_or_refused text p (fault.Parse place) accepted why = absurd (unexpected text p place accepted.spelled why)
accepted_or_refused text p (fault.TooDeep place) accepted why = absurd (too_deep text p place accepted.spelled why)
accepted_or_refused text p (fault.Name place) accepted why = absurd (broken text p _ place accepted why)
accepted_or_refused text p (fault.Typing place) accepted why = absurd (broken text p _ place accepted why)
accepted_or_refused text p (fault.Region place) accepted why = absurd (broken text p _ place accepted why)
accepted_or_refused text p (fault.Outlives place) accepted why = absurd (broken text p _ place accepted why)
accepted_or_refused text p (fault.Effect place) accepted why = absurd (broken text p _ place accepted why)
accepted_or_refused text p (fault.Consumed place) accepted why = absurd (broken text p _ place accepted why)
accepted_or_refused text p (fault.Lent place) accepted why = absurd (broken text p _ place accepted why)
accepted_or_refused text p (fault.Copy place) accepted why = absurd (broken text p _ place accepted why)
accepted_or_refused text p (fault.Size place) accepted why = absurd (broken text p _ place accepted why)
accepted_or_refused text p (fault.TooLarge place) accepted why = absurd why
accepted_or_refused text p fault.Memory accepted why = refl

-- of an image: that, or its code's bound is over the limit
pub accepted_or_imageless : (text : List ℕ) (p : Program) (f : CompileFault) (accepted : IsAcceptedAs text p) → HasNoImageFor f text
    → (f ≡ fault.Memory) ⊎ (code_limit < code_bound p accepted.spelled.tokens)
accepted_or_imageless text p (fault.Lex place) accepted why = inl (accepted_or_refused text p (fault.Lex place) accepted why)
accepted_or_imageless text p (fault.Parse place) accepted why = inl (accepted_or_refused text p (fault.Parse place) accepted why)
accepted_or_imageless text p (fault.TooDeep place) accepted why = inl (accepted_or_refused text p (fault.TooDeep place) accepted why)
accepted_or_imageless text p (fault.Name place) accepted why = inl (accepted_or_refused text p (fault.Name place) accepted why)
accepted_or_imageless text p (fault.Typing place) accepted why = inl (accepted_or_refused text p (fault.Typing place) accepted why)
accepted_or_imageless text p (fault.Region place) accepted why = inl (accepted_or_refused text p (fault.Region place) accepted why)
accepted_or_imageless text p (fault.Outlives place) accepted why = inl (accepted_or_refused text p (fault.Outlives place) accepted why)
accepted_or_imageless text p (fault.Effect place) accepted why = inl (accepted_or_refused text p (fault.Effect place) accepted why)
accepted_or_imageless text p (fault.Consumed place) accepted why = inl (accepted_or_refused text p (fault.Consumed place) accepted why)
accepted_or_imageless text p (fault.Lent place) accepted why = inl (accepted_or_refused text p (fault.Lent place) accepted why)
accepted_or_imageless text p (fault.Copy place) accepted why = inl (accepted_or_refused text p (fault.Copy place) accepted why)
accepted_or_imageless text p (fault.Size place) accepted why = inl (accepted_or_refused text p (fault.Size place) accepted why)
accepted_or_imageless text p (fault.TooLarge place) accepted why =
    let same = same_tokens text why.accepted.spelled.tokens accepted.spelled.tokens why.accepted.spelled.lexed accepted.spelled.lexed in
    let one = same_program text why.program p why.accepted.spelled accepted.spelled in
    inr (subst (λ (q : Program). code_limit < code_bound q accepted.spelled.tokens) one
    (subst (λ (ts : List Token). code_limit < code_bound why.program ts) same why.large))
accepted_or_imageless text p fault.Memory accepted why = inl refl
