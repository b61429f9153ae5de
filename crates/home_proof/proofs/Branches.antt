-- What the code of a branch does.
use Rattle.std.proofs.Common.{ℕ, List, [], ◌∷◌, ◌++◌, Bool, false, refl, sym, ap, ◌∙◌}
use Rattle.std.specs.Prelude.{◌||◌, ◌&&◌}
use Rattle.std.proofs.lemmas.List.{append-nil}
use Rattle.core_meaning.specs.Core.{Statement, If, While, NoStatements}
use Rattle.source_lowering.specs.Lowered.{Named, all_of}
use Rattle.home_proof.proofs.Codes.{addresses, and_or, flags_of, or_false, plain}
use Rattle.home_proof.proofs.Leads.{Does, nothing, said}

module _ {names : List Named} {p q : List ℕ → Bool} {f g : List Bool} where
  pub if_does : (t : ℕ) (these those : List Statement) → Does names these p f → Does names those q g
      → Does names (If t (all_of these) (all_of those) ∷ []) (λ n. p n || q n) (f ++ g)
  if_does t these those a b = record {
    flagged = append-nil (flags_of these ++ flags_of those) ∙ (ap (λ z. z ++ flags_of those) a.flagged ∙ ap (λ z. f ++ z) b.flagged);
    pointed = λ out index n visible h.
        or_false (addresses out index these || addresses out index those) ∙
        (ap (λ z. z || addresses out index those) (a.pointed out index n visible h) ∙
        (ap (λ z. (visible && p n) || z) (b.pointed out index n visible h) ∙ sym (and_or visible (p n) (q n))));
  }

  pub while_does : (t : ℕ) (test body : List Statement) → Does names test p f → Does names body q g
      → Does names (While (all_of test) t (all_of body) ∷ []) (λ n. p n || q n) (f ++ g)
  while_does t test body a b = record {
    flagged = append-nil (flags_of test ++ flags_of body) ∙ (ap (λ z. z ++ flags_of body) a.flagged ∙ ap (λ z. f ++ z) b.flagged);
    pointed = λ out index n visible h.
        or_false (addresses out index test || addresses out index body) ∙
        (ap (λ z. z || addresses out index body) (a.pointed out index n visible h) ∙
        (ap (λ z. (visible && p n) || z) (b.pointed out index n visible h) ∙ sym (and_or visible (p n) (q n))));
  }

module _ {names : List Named} {p : List ℕ → Bool} {f : List Bool} (t : ℕ) (code : List Statement) (h : Does names code p f) where
  none : Does names [] (λ n. false) []
  none = nothing (plain refl (λ o i. refl))

  pub when_does : Does names (If t (all_of code) NoStatements ∷ []) p f
  when_does = said (if_does t code [] h none) (λ n. or_false (p n)) (append-nil f)

  pub unless_does : Does names (If t NoStatements (all_of code) ∷ []) p f
  unless_does = if_does t [] code none h
