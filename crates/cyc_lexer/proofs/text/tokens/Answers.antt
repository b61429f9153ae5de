use Rattle.std.proofs.Common.{ℕ, ◌≡◌, ◌+◌, List, map, drop, ap, sym, ◌∙◌, subst, arith, inl, inr}
use Rattle.std.proofs.lemmas.List.{map_push, length-take, length-drop}
use Rattle.cyc_lexer.specs.declared.fault.LexFault.TheVariants.{Lex}
use Rattle.cyc_lexer.specs.Lexing.{Lexing, IsFaultAt}
use Rattle.cyc_lexer.specs.Lexing.{Token as TokenTree}
use Rattle.cyc_lexer.specs.Tokens.{token_tree}
use Rattle.cyc_lexer.proofs.TextSteps.{over_gap, over_token, fault_here, all_read, same_tokens, tokens_or_fault, same_fault, refused_within}
use Rattle.cyc_lexer.proofs.text.tokens.Goals as goal

pub loop-at-init : goal.loop-at-init
loop-at-init c = (
  omega arith,
  subst (λ (ts : List TokenTree). Lexing 0 c.args.text.now ts 0 c.args.text.now) (sym (ap (map token_tree) c.new-found.ensures.items))
      (Lexing.stays 0 c.args.text.now),
)

pub overflow_add-at : goal.overflow_add-at
overflow_add-at c =
    let goes = over_gap c.args.text.now (map token_tree c.loop-at.found.items) c.loop-at.at c.in-Some.length c.loop-at.invariant.0 c.loop-at.invariant.1
    (sym c.gap_length.ensures ∙ c.in-Some.is) in
    let within = goes.within in
    omega arith

pub loop-at-preserved-in-Some : goal.loop-at-preserved-in-Some
loop-at-preserved-in-Some c =
    let goes = over_gap c.args.text.now (map token_tree c.loop-at.found.items) c.loop-at.at c.in-Some.length c.loop-at.invariant.0 c.loop-at.invariant.1
    (sym c.gap_length.ensures ∙ c.in-Some.is) in
    (goes.within, goes.so_far)

pub slice_bounds-push-end : goal.slice_bounds-push-end
slice_bounds-push-end c =
    let goes = over_token c.args.text.now (map token_tree c.loop-at.found.items) c.loop-at.at c.in-Some-next_token.kind c.in-Some-next_token.length
    c.loop-at.invariant.0 c.loop-at.invariant.1
    (sym c.next_token.ensures ∙ c.in-Some-next_token.is) in
    let within = goes.within in
    omega (arith, length-take {A = ℕ}, length-drop {A = ℕ})

pub overflow_add-at-in-Some-next_token : goal.overflow_add-at-in-Some-next_token
overflow_add-at-in-Some-next_token c =
    let goes = over_token c.args.text.now (map token_tree c.loop-at.found.items) c.loop-at.at c.in-Some-next_token.kind c.in-Some-next_token.length
    c.loop-at.invariant.0 c.loop-at.invariant.1
    (sym c.next_token.ensures ∙ c.in-Some-next_token.is) in
    let within = goes.within in
    omega arith

pub loop-at-smaller : goal.loop-at-smaller
loop-at-smaller c =
    let goes = over_token c.args.text.now (map token_tree c.loop-at.found.items) c.loop-at.at c.in-Some-next_token.kind c.in-Some-next_token.length
    c.loop-at.invariant.0 c.loop-at.invariant.1
    (sym c.next_token.ensures ∙ c.in-Some-next_token.is) in
    let some = goes.some in
    omega arith

pub loop-at-preserved : goal.loop-at-preserved
loop-at-preserved c =
    let text = c.args.text.now in
    let at = c.loop-at.at in
    let n = c.in-Some-next_token.length in
    let goes = over_token c.args.text.now (map token_tree c.loop-at.found.items) c.loop-at.at c.in-Some-next_token.kind c.in-Some-next_token.length
    c.loop-at.invariant.0 c.loop-at.invariant.1
    (sym c.next_token.ensures ∙ c.in-Some-next_token.is) in
    let pushed = ap (map token_tree) c.in_ok-push.ensures.items ∙ map_push token_tree c.loop-at.found.items _ in
    (goes.within, subst (λ (ts : List TokenTree). Lexing 0 text ts (at + n) (drop (at + n) text)) (sym pushed) goes.so_far)

pub returns-in_default-next_token-clause-only : goal.returns-in_default-next_token-clause-only
returns-in_default-next_token-clause-only c = λ ts le h.
    absurd (tokens_or_fault c.args.text.now ts c.loop-at.at h
    (fault_here c.args.text.now (map token_tree c.loop-at.found.items) c.loop-at.at c.loop-at-test.true c.loop-at.invariant.1
    (sym c.gap_length.ensures ∙ c.in_default.is) (sym c.next_token.ensures ∙ c.in_default-next_token.is)))

pub returns-in_default-next_token-clause-fault : goal.returns-in_default-next_token-clause-fault
returns-in_default-next_token-clause-fault c = λ at e.
    let here = fault_here c.args.text.now (map token_tree c.loop-at.found.items) c.loop-at.at c.loop-at-test.true c.loop-at.invariant.1
    (sym c.gap_length.ensures ∙ c.in_default.is) (sym c.next_token.ensures ∙ c.in_default-next_token.is) in
    let same : c.loop-at.at ≡ at = cc in
    inr (c.if-text-gt-TEXT_LIMIT.false, subst (λ (n : ℕ). IsFaultAt c.args.text.now n) same here)

pub returns-in_default-next_token-clause-refused : goal.returns-in_default-next_token-clause-refused
returns-in_default-next_token-clause-refused c = λ at h.
    let here = fault_here c.args.text.now (map token_tree c.loop-at.found.items) c.loop-at.at c.loop-at-test.true c.loop-at.invariant.1
    (sym c.gap_length.ensures ∙ c.in_default.is) (sym c.next_token.ensures ∙ c.in_default-next_token.is) in
    inl (ap (λ n. Lex n) (same_fault c.args.text.now c.loop-at.at at here (refused_within c.args.text.now at c.if-text-gt-TEXT_LIMIT.false h)))

pub returns-clause-only : goal.returns-clause-only
returns-clause-only c = λ ts le h.
    same_tokens c.args.text.now (map token_tree c.loop-at.found.items) ts
    (all_read c.args.text.now (map token_tree c.loop-at.found.items) c.loop-at.at c.loop-at.invariant.0 c.loop-at-test.false c.loop-at.invariant.1) h

pub returns-clause-refused : goal.returns-clause-refused
returns-clause-refused c = λ at h.
    tokens_or_fault c.args.text.now (map token_tree c.loop-at.found.items) at
    (all_read c.args.text.now (map token_tree c.loop-at.found.items) c.loop-at.at c.loop-at.invariant.0 c.loop-at-test.false c.loop-at.invariant.1)
    (refused_within c.args.text.now at c.if-text-gt-TEXT_LIMIT.false h)
