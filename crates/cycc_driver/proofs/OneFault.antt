-- A text is refused for one fault, unless memory is out.
use Rattle.std.proofs.Common.{◌≡◌, ◌⊎◌, ℕ, ◌≤◌, List, [], ◌∷◌, ◌++◌, length, inl, inr, arith, sym, ap, subst, refl, ◌∙◌}
use Rattle.cyc_lexer.specs.Lexing.{Token, Lexing}
use Rattle.cyc_lexer.specs.Places.{line_of, column_of}
use Rattle.cyc_lexer.specs.Tokens.{IsRefusedAt}
use Rattle.cyc_lexer.proofs.TextSteps.{same_tokens, same_fault, tokens_or_fault, refused_within}
use Rattle.cyc_parser.specs.Refusals.{IsUnexpectedFirst, IsTooDeepAt}
use Rattle.cyc_parser.proofs.OnePlace.{one_place, one_depth}
use Rattle.cyc_parser.proofs.OneFault.{one_fault as not_both}
use Rattle.check_faults.proofs.Telling.{same_rule, same_at}
use Rattle.source_typing.specs.Answers.{first_fault}
use Rattle.check_faults.specs.declared.fault.FaultKind.{FaultKind}
use Rattle.check_faults.specs.declared.fault.FaultKind.TheVariants as kind
use Rattle.cycc_driver.specs.declared.fault.Place.{Place}
use Rattle.cycc_driver.specs.declared.fault.CompileFault.{CompileFault}
use Rattle.cycc_driver.specs.declared.fault.CompileFault.TheVariants as fault
use Rattle.cycc_driver.specs.Refused.{form_of}
use Rattle.cycc_driver.specs.Refusals.{IsPlaceOf, IsNoTokens, AreNoProgram, IsBroken, IsRefusedFor, IsTooLarge, HasNoImageFor, AreSame}
use Rattle.cycc_driver.proofs.Refusing.{refused_image}
use Rattle.cycc_driver.proofs.Exactness.{same_program, lexed, unexpected, too_deep, broken}

-- ---- places

-- a place is its line and its column
same_parts : (p q : Place) → p.line ≡ q.line → p.column ≡ q.column → p ≡ q
same_parts p q line column =
    let there : ℕ → ℕ → Place = λ l c. record { line = l; column = c } in
    ap (λ (l : ℕ). there l p.column) line ∙ ap (there q.line) column

-- the byte at one offset stands at one place
same_place : (text : List ℕ) (at other : ℕ) (p q : Place) → IsPlaceOf text at p → IsPlaceOf text other q → at ≡ other → p ≡ q
same_place text at other p q here there same =
    same_parts p q (here.line ∙ ap (line_of text) same ∙ sym there.line) (here.column ∙ ap (column_of text) same ∙ sym there.column)

-- each token of a text begins in it
starts_within : {at : ℕ} {text : List ℕ} {tokens : List Token} {end : ℕ} {rest : List ℕ} → Lexing at text tokens end rest → at ≤ end
starts_within (Lexing.stays at text) = omega arith
starts_within (Lexing.gap at s text tokens end rest gap more) = omega (arith, starts_within more)
starts_within (Lexing.token at k s text tokens end rest token more) = omega (arith, starts_within more)

stands_within : {at : ℕ} {text : List ℕ} {tokens : List Token} {end : ℕ} {rest : List ℕ} → Lexing at text tokens end rest
    → (front : List Token) (next : Token) (others : List Token) → tokens ≡ front ++ next ∷ others → next.at ≤ end
stands_within (Lexing.stays at text) [] next others parts = absurd cc
stands_within (Lexing.stays at text) (t ∷ front) next others parts = absurd cc
stands_within (Lexing.gap at s text tokens end rest gap more) front next others parts = stands_within more front next others parts
stands_within (Lexing.token at k s text tokens end rest token more) [] next others parts =
    let same : at ≡ next.at = ap (λ (ts : List Token). place_of at ts) parts in omega (arith, same, starts_within more)
  where
    place_of : ℕ → List Token → ℕ
    place_of other [] = other
    place_of other (t ∷ ts) = t.at
stands_within (Lexing.token at k s text tokens end rest token more) (t ∷ front) next others parts =
    let tail : tokens ≡ front ++ next ∷ others = cc in stands_within more front next others tail

-- ---- two reasons of one kind

module _ (text : List ℕ) where
  lexing_faults : (at other : ℕ) → IsRefusedAt text at → IsRefusedAt text other → at ≡ other
  lexing_faults at other (inl h) (inl g) = h.1 ∙ sym g.1
  lexing_faults at other (inl h) (inr g) = let long = h.0 in let short = g.0 in absurd (omega (arith, long, short))
  lexing_faults at other (inr h) (inl g) = let short = h.0 in let long = g.0 in absurd (omega (arith, long, short))
  lexing_faults at other (inr h) (inr g) = same_fault text at other h.1 g.1

  both_lexing : (p q : Place) → IsNoTokens text p → IsNoTokens text q → p ≡ q
  both_lexing p q a b = same_place text a.at b.at p q a.there b.there (lexing_faults a.at b.at a.refused b.refused)

  -- tokens refused for reasons of one kind, of which there is one place
  both_parsing : (Refused : List Token → ℕ → Type 0)
      → ((tokens : List Token) (at other : ℕ) → Refused tokens at → Refused tokens other → at ≡ other)
      → (p q : Place) → AreNoProgram text Refused p → AreNoProgram text Refused q → p ≡ q
  both_parsing Refused one p q a b =
      let same : b.tokens ≡ a.tokens = same_tokens text b.tokens a.tokens b.lexed a.lexed in
      same_place text a.at b.at p q a.there b.there
      (one a.tokens a.at b.at a.refused (subst (λ (ts : List Token). Refused ts b.at) same b.refused))

  both_broken : (k l : FaultKind) (p q : Place) → IsBroken text k p → IsBroken text l q → form_of k p ≡ form_of l q
  both_broken k l p q a b =
      let program : a.program ≡ b.program = same_program text a.program b.program a.spelled b.spelled in
      let first = sym a.first ∙ ap first_fault program ∙ b.first in
      let kinds : k ≡ l = same_rule k l a.at b.at first in
      let places : p ≡ q = same_place text a.at b.at p q a.there b.there (same_at k l a.at b.at first) in
      ap (λ (j : FaultKind). form_of j p) kinds ∙ ap (form_of l) places

  both_large : (p q : Place) → IsTooLarge text p → IsTooLarge text q → p ≡ q
  both_large p q a b = same_parts p q (a.line ∙ sym b.line) (a.column ∙ sym b.column)

  -- ---- reasons of two kinds

  not_lexed : (Refused : List Token → ℕ → Type 0) (p q : Place) → IsNoTokens text p → AreNoProgram text Refused q → ⊥
  not_lexed Refused p q a b = tokens_or_fault text b.tokens a.at b.lexed (refused_within text a.at b.within a.refused)

  not_parsed : (p q : Place) → AreNoProgram text IsUnexpectedFirst p → AreNoProgram text IsTooDeepAt q → ⊥
  not_parsed p q a b =
      let same : a.tokens ≡ b.tokens = same_tokens text a.tokens b.tokens a.lexed b.lexed in
      let deep = b.refused in
      let inside : deep.next.at ≤ length text = stands_within b.lexed deep.front deep.next deep.others deep.parts in
      let short = b.within in
      not_both b.tokens a.at b.at (subst (λ (ts : List Token). IsUnexpectedFirst ts a.at) same a.refused) deep
      (omega (arith, deep.place, inside, short))

  -- ---- all reasons

  -- why a text has no image, by the phase that refuses it
  abbrev Lexes : CompileFault → Type 0
  Lexes f = (p : Place) × (f ≡ fault.Lex p) × IsNoTokens text p

  abbrev Parses : CompileFault → Type 0
  Parses f = (p : Place) × (f ≡ fault.Parse p) × AreNoProgram text IsUnexpectedFirst p

  abbrev Deepens : CompileFault → Type 0
  Deepens f = (p : Place) × (f ≡ fault.TooDeep p) × AreNoProgram text IsTooDeepAt p

  abbrev Breaks : CompileFault → Type 0
  Breaks f = (k : FaultKind) × (p : Place) × (f ≡ form_of k p) × IsBroken text k p

  abbrev Exceeds : CompileFault → Type 0
  Exceeds f = (p : Place) × (f ≡ fault.TooLarge p) × IsTooLarge text p

  abbrev Reason : CompileFault → Type 0
  Reason f = Lexes f ⊎ (Parses f ⊎ (Deepens f ⊎ (Breaks f ⊎ (Exceeds f ⊎ (f ≡ fault.Memory)))))

  reason : (f : CompileFault) → HasNoImageFor f text → Reason f
  reason (fault.Lex p) why = inl (p, refl, why)
  reason (fault.Parse p) why = inr (inl (p, refl, why))
  reason (fault.TooDeep p) why = inr (inr (inl (p, refl, why)))
  reason (fault.Name p) why = inr (inr (inr (inl (kind.Name, p, refl, why))))
  reason (fault.Typing p) why = inr (inr (inr (inl (kind.Typing, p, refl, why))))
  reason (fault.Region p) why = inr (inr (inr (inl (kind.Region, p, refl, why))))
  reason (fault.Outlives p) why = inr (inr (inr (inl (kind.Outlives, p, refl, why))))
  reason (fault.Effect p) why = inr (inr (inr (inl (kind.Effect, p, refl, why))))
  reason (fault.Size p) why = inr (inr (inr (inl (kind.Size, p, refl, why))))
  reason (fault.Consumed p) why = inr (inr (inr (inl (kind.Consumed, p, refl, why))))
  reason (fault.Lent p) why = inr (inr (inr (inl (kind.Lent, p, refl, why))))
  reason (fault.Copy p) why = inr (inr (inr (inl (kind.Copy, p, refl, why))))
  reason (fault.TooLarge p) why = inr (inr (inr (inr (inl (p, refl, why)))))
  reason fault.Memory why = inr (inr (inr (inr (inr refl))))

  -- two reasons are of one phase, and of one fault
  same_or_none : (f g : CompileFault) → Reason f → Reason g → AreSame f g
  same_or_none f g (inl a) (inl b) = inr (inr (a.1 ∙ ap fault.Lex (both_lexing a.0 b.0 a.2 b.2) ∙ sym b.1))
  same_or_none f g (inl a) (inr (inl b)) = absurd (not_lexed IsUnexpectedFirst a.0 b.0 a.2 b.2)
  same_or_none f g (inl a) (inr (inr (inl b))) = absurd (not_lexed IsTooDeepAt a.0 b.0 a.2 b.2)
  same_or_none f g (inl a) (inr (inr (inr (inl b)))) = absurd (lexed text b.3.program a.0 b.3.spelled a.2)
  same_or_none f g (inl a) (inr (inr (inr (inr (inl b))))) = absurd (lexed text b.2.program a.0 b.2.accepted.spelled a.2)
  same_or_none f g (inr (inl a)) (inl b) = absurd (not_lexed IsUnexpectedFirst b.0 a.0 b.2 a.2)
  same_or_none f g (inr (inl a)) (inr (inl b)) =
      inr (inr (a.1
      ∙ ap fault.Parse (both_parsing IsUnexpectedFirst (λ tokens at other h g. one_place tokens at other h.0 g.0) a.0 b.0 a.2 b.2) ∙ sym b.1))
  same_or_none f g (inr (inl a)) (inr (inr (inl b))) = absurd (not_parsed a.0 b.0 a.2 b.2)
  same_or_none f g (inr (inl a)) (inr (inr (inr (inl b)))) = absurd (unexpected text b.3.program a.0 b.3.spelled a.2)
  same_or_none f g (inr (inl a)) (inr (inr (inr (inr (inl b))))) = absurd (unexpected text b.2.program a.0 b.2.accepted.spelled a.2)
  same_or_none f g (inr (inr (inl a))) (inl b) = absurd (not_lexed IsTooDeepAt b.0 a.0 b.2 a.2)
  same_or_none f g (inr (inr (inl a))) (inr (inl b)) = absurd (not_parsed b.0 a.0 b.2 a.2)
  same_or_none f g (inr (inr (inl a))) (inr (inr (inl b))) =
      inr (inr (a.1 ∙ ap fault.TooDeep (both_parsing IsTooDeepAt one_depth a.0 b.0 a.2 b.2) ∙ sym b.1))
  same_or_none f g (inr (inr (inl a))) (inr (inr (inr (inl b)))) = absurd (too_deep text b.3.program a.0 b.3.spelled a.2)
  same_or_none f g (inr (inr (inl a))) (inr (inr (inr (inr (inl b))))) = absurd (too_deep text b.2.program a.0 b.2.accepted.spelled a.2)
  same_or_none f g (inr (inr (inr (inl a)))) (inl b) = absurd (lexed text a.3.program b.0 a.3.spelled b.2)
  same_or_none f g (inr (inr (inr (inl a)))) (inr (inl b)) = absurd (unexpected text a.3.program b.0 a.3.spelled b.2)
  same_or_none f g (inr (inr (inr (inl a)))) (inr (inr (inl b))) = absurd (too_deep text a.3.program b.0 a.3.spelled b.2)
  same_or_none f g (inr (inr (inr (inl a)))) (inr (inr (inr (inl b)))) = inr (inr (a.2 ∙ both_broken a.0 b.0 a.1 b.1 a.3 b.3 ∙ sym b.2))
  same_or_none f g (inr (inr (inr (inl a)))) (inr (inr (inr (inr (inl b))))) = absurd (broken text b.2.program a.0 a.1 b.2.accepted a.3)
  same_or_none f g (inr (inr (inr (inr (inl a))))) (inl b) = absurd (lexed text a.2.program b.0 a.2.accepted.spelled b.2)
  same_or_none f g (inr (inr (inr (inr (inl a))))) (inr (inl b)) = absurd (unexpected text a.2.program b.0 a.2.accepted.spelled b.2)
  same_or_none f g (inr (inr (inr (inr (inl a))))) (inr (inr (inl b))) = absurd (too_deep text a.2.program b.0 a.2.accepted.spelled b.2)
  same_or_none f g (inr (inr (inr (inr (inl a))))) (inr (inr (inr (inl b)))) = absurd (broken text a.2.program b.0 b.1 a.2.accepted b.3)
  same_or_none f g (inr (inr (inr (inr (inl a))))) (inr (inr (inr (inr (inl b))))) =
      inr (inr (a.1 ∙ ap fault.TooLarge (both_large a.0 b.0 a.2 b.2) ∙ sym b.1))
  same_or_none f g (inr (inr (inr (inr (inr none))))) why = inl none
  same_or_none f g why (inr (inr (inr (inr (inr none))))) = inr (inl none)

-- of `compile`
pub one_imageless : (text : List ℕ) (f g : CompileFault) → HasNoImageFor f text → HasNoImageFor g text → AreSame f g
one_imageless text f g why also = same_or_none text f g (reason text f why) (reason text g also)

-- of `check`
pub one_refused : (text : List ℕ) (f g : CompileFault) → IsRefusedFor f text → IsRefusedFor g text → AreSame f g
one_refused text f g why also = one_imageless text f g (refused_image f text why) (refused_image g text also)
