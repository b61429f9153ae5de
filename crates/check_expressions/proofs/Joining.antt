-- What is answered of phrases of several parts is what the rules say of them.
use Rattle.std.specs.Prelude.{IfOk, Result, ◌++◌}
use Rattle.std.proofs.Common.{◌≡◌, Some, List, [], ◌∷◌, refl, sym, ◌∙◌, ap, subst}
use Rattle.std.proofs.lemmas.List.{append_assoc, append-nil}
use Rattle.cyc_tree.specs.Tree.{Expressions, Links, MoreExpressions, MoreLinks, NoExpressions, NoLinks}
use Rattle.source_typing.specs.Expressions.{judge, judge_all, judge_links, judge_tests}
use Rattle.source_typing.specs.Fixing.{more}
use Rattle.source_typing.specs.Operators.{applied, tested_both}
use Rattle.source_typing.specs.Scope.{Env, Value}
use Rattle.source_typing.specs.Verdicts.{Verdict, both}
use Rattle.check_faults.specs.Verdicts.{Is, NotJudged, Short, Wrong, paired, short_after, short_both, short_of, short_wrong, shortened}
use Rattle.check_faults.specs.declared.verdict.Verdict as code
use Rattle.check_faults.specs.declared.verdict.Verdict.TheVariants as variant
use Rattle.check_faults.proofs.Earliest.{first_joined}
use Rattle.check_faults.proofs.Shortened.{pair_known, shortened_both}
use Rattle.check_expressions.specs.Joined.{one_more, short_all, short_links, short_tests}

-- ---- what a function answers of one part and of two, by what it answers where they are in order

module _ {T A V B E : Type 0} (f : T → A) (h : V → B) (r : Result (code.Verdict V) E) (v : code.Verdict T) (rule : A → Short B) where
  pub one_answers : (t : T) → v ≡ variant.Of t → IfOk r (λ w. short_of h w ≡ rule (f t)) → IfOk r (λ w. short_of h w ≡ short_after (short_of f v) rule)
  one_answers t e k = subst (λ u. IfOk r (λ w. short_of h w ≡ short_after (short_of f u) rule)) (sym e) k

module _ {T U A B V C E : Type 0} (f : T → A) (g : U → B) (h : V → C) (r : Result (code.Verdict V) E) (v : code.Verdict T) (w : code.Verdict U)
    (rule : A → B → Short C) where
  pub both_answer : (t : T) (u : U) → paired v w ≡ variant.Of (t, u) → IfOk r (λ x. short_of h x ≡ rule (f t) (g u))
      → IfOk r (λ x. short_of h x ≡ short_both (short_of f v) (short_of g w) rule)
  both_answer t u e k = subst (λ s. IfOk r (λ x. short_of h x ≡ s)) (sym (pair_known f g v w rule t u e)) k

-- ---- operands

pub tests_are : (g : Env) (v : Verdict Value) (es : Expressions) → shortened (judge_tests g v es) ≡ short_tests g (shortened v) es
tests_are g v NoExpressions = refl
tests_are g v (MoreExpressions e es) =
    tests_are g (both v (judge g e) tested_both) es ∙ ap (λ s. short_tests g s es) (shortened_both v (judge g e) tested_both)

pub links_are : (g : Env) (v : Verdict Value) (es : Links) → shortened (judge_links g v es) ≡ short_links g (shortened v) es
links_are g v NoLinks = refl
links_are g v (MoreLinks o e es) =
    links_are g (both v (judge g e) (applied g o)) es ∙ ap (λ s. short_links g s es) (shortened_both v (judge g e) (applied g o))

-- ---- arguments

abbrev joined : List Value → List Value → Short (List Value)
joined vs ws = Is (vs ++ ws)

abbrev first_more : Value → List Value → Short (List Value)
first_more v vs = Is (v ∷ vs)

more_joined : (s : Short (List Value)) (e : Short Value) (t : Short (List Value))
    → short_both (short_both s e one_more) t joined ≡ short_both s (short_both e t first_more) joined
more_joined (Is vs) (Is v) (Is ws) = ap Is (append_assoc vs (v ∷ []) ws)
more_joined (Is vs) (Is v) (Wrong f) = refl
more_joined (Is vs) (Is v) NotJudged = refl
more_joined (Is vs) (Wrong g) (Is ws) = refl
more_joined (Is vs) (Wrong g) (Wrong f) = refl
more_joined (Is vs) (Wrong g) NotJudged = refl
more_joined (Is vs) NotJudged (Is ws) = refl
more_joined (Is vs) NotJudged (Wrong f) = refl
more_joined (Is vs) NotJudged NotJudged = refl
more_joined (Wrong h) (Is v) (Is ws) = refl
more_joined (Wrong h) (Is v) (Wrong f) = refl
more_joined (Wrong h) (Is v) NotJudged = refl
more_joined (Wrong h) (Wrong g) (Is ws) = refl
more_joined (Wrong h) (Wrong g) (Wrong f) = ap (λ o. short_wrong o) (first_joined (Some h) (Some g) (Some f))
more_joined (Wrong h) (Wrong g) NotJudged = refl
more_joined (Wrong h) NotJudged (Is ws) = refl
more_joined (Wrong h) NotJudged (Wrong f) = refl
more_joined (Wrong h) NotJudged NotJudged = refl
more_joined NotJudged (Is v) (Is ws) = refl
more_joined NotJudged (Is v) (Wrong f) = refl
more_joined NotJudged (Is v) NotJudged = refl
more_joined NotJudged (Wrong g) (Is ws) = refl
more_joined NotJudged (Wrong g) (Wrong f) = refl
more_joined NotJudged (Wrong g) NotJudged = refl
more_joined NotJudged NotJudged (Is ws) = refl
more_joined NotJudged NotJudged (Wrong f) = refl
more_joined NotJudged NotJudged NotJudged = refl

nothing_more : (s : Short (List Value)) → s ≡ short_both s (Is []) joined
nothing_more (Is vs) = ap Is (sym (append-nil vs))
nothing_more (Wrong f) = refl
nothing_more NotJudged = refl

all_after : (g : Env) (s : Short (List Value)) (es : Expressions) → short_all g s es ≡ short_both s (shortened (judge_all g es)) joined
all_after g s NoExpressions = nothing_more s
all_after g s (MoreExpressions e es) =
    all_after g (short_both s (shortened (judge g e)) one_more) es ∙ more_joined s (shortened (judge g e)) (shortened (judge_all g es))
    ∙ ap (λ t. short_both s t joined) (sym (shortened_both (judge g e) (judge_all g es) more))

none_before : (s : Short (List Value)) → short_both (Is []) s joined ≡ s
none_before (Is vs) = refl
none_before (Wrong f) = refl
none_before NotJudged = refl

pub all_are : (g : Env) (es : Expressions) → shortened (judge_all g es) ≡ short_all g (Is []) es
all_are g es = sym (all_after g (Is []) es ∙ none_before (shortened (judge_all g es)))
