-- Where a loop begins: in states that its entry implies, and that each of its turns keeps.
use Rattle.std.proofs.Common.{◌≡◌, ℕ, zero, suc, Option, Some, None, [], ◌∷◌, refl, sym, ◌∙◌, ap, subst}
use Rattle.std.specs.Prelude.{length}
use Rattle.source_meaning.specs.Memory.{Region, Memory}
use Rattle.source_meaning.specs.Steps.{Scope}
use Rattle.source_typing.specs.Scope.{Env}
use Rattle.source_typing.specs.States.{State, Plain, States, meet, meet_all, loop_head}
use Rattle.flow_summaries.specs.Effects.{Effect, Effects, Keeps, Holds, Loses, MayLose, becomes, met_effect, no_effects, states_after, to_head}
use Rattle.flow_summaries.specs.Laws.{way_after}
use Rattle.flow_summaries.proofs.Effects.{none_after, after_met, head_is}
use Rattle.source_typing.proofs.Meeting.{meet_all_itself}
use Rattle.type_proof.specs.Flat.{Tables}
use Rattle.type_proof.proofs.invariant.Invariant.{Ghost}
use Rattle.type_proof.proofs.invariant.Names.{NameOf}
use Rattle.type_proof.proofs.invariant.Standing.{Standing, all_met_first, are_kinds, kinds_after}

-- the states at the head are those that a turn from there keeps
head_keeps : (e : Effect) (a : State) → meet (becomes (met_effect Keeps e) a) (becomes e (becomes (met_effect Keeps e) a)) ≡ becomes (met_effect Keeps e) a
head_keeps Keeps = elim [ Plain ↦ refl | _ ↦ refl ]
head_keeps Holds = elim [ Plain ↦ refl | _ ↦ refl ]
head_keeps Loses = elim [ Plain ↦ refl | _ ↦ refl ]
head_keeps MayLose = elim [ Plain ↦ refl | _ ↦ refl ]

heads_keep : (n : ℕ) (e : Effects) (s : States) → meet_all (states_after n (to_head (Some e)) s) (states_after n e (states_after n (to_head (Some e)) s))
    ≡ states_after n (to_head (Some e)) s
heads_keep zero e s = meet_all_itself s
heads_keep (suc n) e [] = refl
heads_keep (suc n) e (a ∷ s) =
    let x = head_keeps (e n) a in let y = heads_keep n e s in
    ap (λ (b : State). b ∷ meet_all (states_after n (to_head (Some e)) s) (states_after n e (states_after n (to_head (Some e)) s))) x
    ∙ ap (λ (t : States). becomes (met_effect Keeps (e n)) a ∷ t) y

-- what a turn from the head leaves implies the head
pub head_kept : (count : ℕ) (turn : States → Option States) (back : Option Effects) → ((h : States) → turn h ≡ way_after count back h) → (s t : States)
    → turn (loop_head s turn) ≡ Some t → meet_all (loop_head s turn) t ≡ loop_head s turn
head_kept count turn None told s t q = absurd (let z : None ≡ Some t = sym (told (loop_head s turn)) ∙ q in cc)
head_kept count turn (Some x) told s t q =
    let z : states_after count x (loop_head s turn) ≡ t =
    (let y : Some (states_after count x (loop_head s turn)) ≡ Some t = sym (told (loop_head s turn)) ∙ q in cc) in
    subst (λ (u : States). meet_all (loop_head s turn) u ≡ loop_head s turn) z
    (subst (λ (h : States). meet_all h (states_after count x h) ≡ h) (sym (head_is count turn (Some x) told s)) (heads_keep count x s))

-- the entry implies the head
pub head_stands : (d : Tables) (g : Env) (scope : Scope) (f : NameOf → Region) (turn : States → Option States) (back : Option Effects)
    → ((h : States) → turn h ≡ way_after (length g.locals) back h) → (s : States) (w : Ghost) (m : Memory) → Standing d g scope f s w m
    → Standing d g scope f (loop_head s turn) w m
head_stands d g scope f turn None told s w m st =
    subst (λ (t : States). Standing d g scope f t w m) (sym (head_is (length g.locals) turn None told s ∙ none_after (length g.locals) s)) st
head_stands d g scope f turn (Some x) told s w m st =
    subst (λ (t : States). Standing d g scope f t w m)
    (ap (λ (t : States). meet_all t (states_after (length g.locals) x s)) (sym (none_after (length g.locals) s))
    ∙ after_met (length g.locals) no_effects x s ∙ sym (head_is (length g.locals) turn (Some x) told s))
    (all_met_first g.tables d f g.locals scope.locals s (states_after (length g.locals) x s) w m
    (kinds_after g.tables d f (length g.locals) x g.locals s (are_kinds g.tables d f g.locals scope.locals s w m st)) st)
