-- Passages one after another: it doesn't matter how they are grouped.
use Rattle.std.proofs.Common.{Option, Some, None, ap, refl, sym, ◌∙◌, ◌≡◌}
use Rattle.source_typing.specs.States.{Gone, Held, Plain, State}
use Rattle.check_faults.specs.Faults.{sooner_found}
use Rattle.flow_summaries.proofs.Effects.{becomes_then}
use Rattle.check_faults.specs.declared.fault.Fault.{Fault}
use Rattle.flow_summaries.proofs.Passages.{after_by, both_by, no_cause_by}
use Rattle.flow_summaries.proofs.Sooner.{none_later, sooner_joined}
use Rattle.flow_summaries.specs.Effects.{Effect, Effects, Holds, Keeps, Loses, MayLose, becomes, then_effect, then_way}
use Rattle.flow_summaries.specs.Exits.{Exits, with_passage}
use Rattle.flow_summaries.specs.Passages.{Caused, Passage, both_caused, caused_after, caused_by, in_turn, no_cause, unchanged}

-- ---- effects

pub then_joined : (a b c : Effect) → then_effect (then_effect a b) c ≡ then_effect a (then_effect b c)
then_joined a b Keeps = refl
then_joined a b Holds = refl
then_joined a b Loses = refl
then_joined a Keeps MayLose = refl
then_joined a Holds MayLose = refl
then_joined a Loses MayLose = refl
then_joined Keeps MayLose MayLose = refl
then_joined Holds MayLose MayLose = refl
then_joined Loses MayLose MayLose = refl
then_joined MayLose MayLose MayLose = refl

pub keeps_then : (e : Effect) → then_effect Keeps e ≡ e
keeps_then Keeps = refl
keeps_then Holds = refl
keeps_then Loses = refl
keeps_then MayLose = refl

-- ---- causes

both_joined : (a b c : Caused) → both_caused (both_caused a b) c ≡ both_caused a (both_caused b c)
both_joined a b c = λ j. record {
  plain = sooner_joined a.plain b.plain c.plain j;
  held = sooner_joined a.held b.held c.held j;
  gone = sooner_joined a.gone b.gone c.gone j;
  lent = sooner_joined a.lent b.lent c.lent j;
}

after_each : (e : Effect) (b c : Caused) → caused_after e (both_caused b c) ≡ both_caused (caused_after e b) (caused_after e c)
after_each e b c = λ j. record {
  plain = both_by b c (becomes e Plain) j;
  held = both_by b c (becomes e Held) j;
  gone = both_by b c (becomes e Gone) j;
  lent = sooner_found b.lent c.lent;
}

after_two : (d e : Effect) (c : Caused) → caused_after (then_effect d e) c ≡ caused_after d (caused_after e c)
after_two d e c =
    let by : (a : State) → caused_by (becomes (then_effect d e) a) c ≡ caused_by (becomes d a) (caused_after e c) =
    λ a. ap (λ b. caused_by b c) (becomes_then d e a) ∙ sym (after_by e c (becomes d a)) in
    λ j. record { plain = by Plain j; held = by Held j; gone = by Gone j; lent = c.lent }

caused_joined : (d e : Effect) (a b c : Caused)
    → both_caused (both_caused a (caused_after d b)) (caused_after (then_effect d e) c) ≡ both_caused a (caused_after d (both_caused b (caused_after e c)))
caused_joined d e a b c =
    both_joined a (caused_after d b) (caused_after (then_effect d e) c)
    ∙ ap (λ x. both_caused a (both_caused (caused_after d b) x)) (after_two d e c)
    ∙ ap (λ x. both_caused a x) (sym (after_each d b (caused_after e c)))

-- ---- passages

pub turns_joined : (p q r : Passage) → in_turn (in_turn p q) r ≡ in_turn p (in_turn q r)
turns_joined p q r = λ j. record {
  effects = λ i. then_joined (p.effects i) (q.effects i) (r.effects i) j;
  faults = record {
    caused = λ i. caused_joined (p.effects i) (q.effects i) (p.faults.caused i) (q.faults.caused i) (r.faults.caused i) j;
    always = sooner_joined p.faults.always q.faults.always r.faults.always j;
  };
}

pub nothing_first : (p : Passage) → in_turn unchanged p ≡ p
nothing_first p = λ j. record { effects = λ i. keeps_then (p.effects i) j; faults = p.faults }

-- a way after nothing
way_first : (w : Option Effects) → then_way unchanged.effects w ≡ w
way_first None = refl
way_first (Some e) = λ j. Some (λ i. keeps_then (e i) j)

pub nothing_before : (w : Exits) → with_passage unchanged w ≡ w
nothing_before w = λ j. record { falls = way_first w.falls j; breaks = way_first w.breaks j; continues = way_first w.continues j; faults = w.faults }

causes_alone : (e : Effect) (c : Caused) → both_caused c (caused_after e no_cause) ≡ c
causes_alone e c =
    let by : (o : Option Fault) (a : State) → sooner_found o (caused_by a no_cause) ≡ o = λ o a. ap (λ f. sooner_found o f) (no_cause_by a) ∙ none_later o in
    λ j. record { plain = by c.plain (becomes e Plain) j; held = by c.held (becomes e Held) j; gone = by c.gone (becomes e Gone) j; lent = none_later c.lent j }

pub nothing_last : (p : Passage) → in_turn p unchanged ≡ p
nothing_last p = λ j. record {
  effects = p.effects;
  faults = record { caused = λ i. causes_alone (p.effects i) (p.faults.caused i) j; always = none_later p.faults.always j };
}
