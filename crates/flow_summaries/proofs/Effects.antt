-- What effects on the states of locals come to.
use Rattle.std.specs.Prelude.{drop, length, nat_eq, nat_lt, option_map, ◌+◌, ◌<◌, ◌≤◌, ◌++◌, if◌then◌else◌}
use Rattle.std.proofs.Common.{◌≡◌, ℕ, zero, suc, Bool, true, false, Option, Some, None, [], ◌∷◌, refl, sym, ap, ap₂, ◌∙◌, arith}
use Rattle.std.proofs.lemmas.Bool.Decides.{nat_tests}
use Rattle.source_typing.specs.States.{Lent, Plain, State, States, loop_head, meet, meet_all, meet_ways, or_entry}
use Rattle.source_typing.proofs.Meeting.{meet_all_itself, same_turns}
use Rattle.flow_summaries.specs.Effects.{Effect, Effects, Holds, Keeps, Loses, MayLose, becomes, below, effects_below, met_effect, met_effects, met_ways}
use Rattle.flow_summaries.specs.Effects.{no_effects, states_after}
use Rattle.flow_summaries.specs.Effects.{then_effect, then_effects, then_way, to_head, way_below, with_number}
use Rattle.flow_summaries.specs.Laws.{way_after}

-- ---- one local

pub becomes_then : (d e : Effect) (a : State) → becomes (then_effect d e) a ≡ becomes e (becomes d a)
becomes_then Keeps Keeps = elim [ Plain ↦ refl | _ ↦ refl ]
becomes_then Keeps Holds = elim [ Plain ↦ refl | _ ↦ refl ]
becomes_then Keeps Loses = elim [ Plain ↦ refl | _ ↦ refl ]
becomes_then Keeps MayLose = elim [ Plain ↦ refl | _ ↦ refl ]
becomes_then Holds Keeps = elim [ Plain ↦ refl | _ ↦ refl ]
becomes_then Holds Holds = elim [ Plain ↦ refl | _ ↦ refl ]
becomes_then Holds Loses = elim [ Plain ↦ refl | _ ↦ refl ]
becomes_then Holds MayLose = elim [ Plain ↦ refl | _ ↦ refl ]
becomes_then Loses Keeps = elim [ Plain ↦ refl | _ ↦ refl ]
becomes_then Loses Holds = elim [ Plain ↦ refl | _ ↦ refl ]
becomes_then Loses Loses = elim [ Plain ↦ refl | _ ↦ refl ]
becomes_then Loses MayLose = elim [ Plain ↦ refl | _ ↦ refl ]
becomes_then MayLose Keeps = elim [ Plain ↦ refl | _ ↦ refl ]
becomes_then MayLose Holds = elim [ Plain ↦ refl | _ ↦ refl ]
becomes_then MayLose Loses = elim [ Plain ↦ refl | _ ↦ refl ]
becomes_then MayLose MayLose = elim [ Plain ↦ refl | _ ↦ refl ]

pub becomes_met : (d e : Effect) (a : State) → meet (becomes d a) (becomes e a) ≡ becomes (met_effect d e) a
becomes_met Keeps Keeps = elim [ Plain ↦ refl | _ ↦ refl ]
becomes_met Keeps Holds = elim [ Plain ↦ refl | _ ↦ refl ]
becomes_met Keeps Loses = elim [ Plain ↦ refl | _ ↦ refl ]
becomes_met Keeps MayLose = elim [ Plain ↦ refl | _ ↦ refl ]
becomes_met Holds Keeps = elim [ Plain ↦ refl | _ ↦ refl ]
becomes_met Holds Holds = elim [ Plain ↦ refl | _ ↦ refl ]
becomes_met Holds Loses = elim [ Plain ↦ refl | _ ↦ refl ]
becomes_met Holds MayLose = elim [ Plain ↦ refl | _ ↦ refl ]
becomes_met Loses Keeps = elim [ Plain ↦ refl | _ ↦ refl ]
becomes_met Loses Holds = elim [ Plain ↦ refl | _ ↦ refl ]
becomes_met Loses Loses = elim [ Plain ↦ refl | _ ↦ refl ]
becomes_met Loses MayLose = elim [ Plain ↦ refl | _ ↦ refl ]
becomes_met MayLose Keeps = elim [ Plain ↦ refl | _ ↦ refl ]
becomes_met MayLose Holds = elim [ Plain ↦ refl | _ ↦ refl ]
becomes_met MayLose Loses = elim [ Plain ↦ refl | _ ↦ refl ]
becomes_met MayLose MayLose = elim [ Plain ↦ refl | _ ↦ refl ]

pub lent_stays : (e : Effect) → becomes e Lent ≡ Lent
lent_stays Keeps = refl
lent_stays Holds = refl
lent_stays Loses = refl
lent_stays MayLose = refl

-- a second turn of a loop changes nothing
one_turn : (e : Effect) (a : State) → meet a (becomes e (meet a (becomes e a))) ≡ meet a (becomes e a)
one_turn Keeps = elim [ Plain ↦ refl | _ ↦ refl ]
one_turn Holds = elim [ Plain ↦ refl | _ ↦ refl ]
one_turn Loses = elim [ Plain ↦ refl | _ ↦ refl ]
one_turn MayLose = elim [ Plain ↦ refl | _ ↦ refl ]

-- ---- all locals

pub none_after : (n : ℕ) (s : States) → states_after n no_effects s ≡ s
none_after zero s = refl
none_after (suc n) [] = refl
none_after (suc n) (a ∷ s) = ap (λ t. a ∷ t) (none_after n s)

pub after_then : (n : ℕ) (d e : Effects) (s : States) → states_after n (then_effects d e) s ≡ states_after n e (states_after n d s)
after_then zero d e s = refl
after_then (suc n) d e [] = refl
after_then (suc n) d e (a ∷ s) = ap₂ (λ b t. b ∷ t) (becomes_then (d n) (e n) a) (after_then n d e s)

pub after_met : (n : ℕ) (d e : Effects) (s : States) → meet_all (states_after n d s) (states_after n e s) ≡ states_after n (met_effects d e) s
after_met zero d e s = meet_all_itself s
after_met (suc n) d e [] = refl
after_met (suc n) d e (a ∷ s) = ap₂ (λ b t. b ∷ t) (becomes_met (d n) (e n) a) (after_met n d e s)

-- ---- ways

pub way_then : (n : ℕ) (d : Effects) (w : Option Effects) (s : States) → way_after n w (states_after n d s) ≡ way_after n (then_way d w) s
way_then n d None s = refl
way_then n d (Some e) s = ap Some (sym (after_then n d e s))

pub ways_met : (n : ℕ) (v w : Option Effects) (s : States) → meet_ways (way_after n v s) (way_after n w s) ≡ way_after n (met_ways v w) s
ways_met n None w s = refl
ways_met n (Some d) None s = refl
ways_met n (Some d) (Some e) s = ap Some (after_met n d e s)

-- ---- loops

-- where a turn begins, by where the one before it did
abbrev turned : ℕ → Effects → States → States → States
turned n e entry s = meet_all entry (states_after n e s)

turned_twice : (n : ℕ) (e : Effects) (s : States) → turned n e s (turned n e s s) ≡ turned n e s s
turned_twice zero e s = ap (λ t. meet_all s t) (meet_all_itself s)
turned_twice (suc n) e [] = refl
turned_twice (suc n) e (a ∷ s) = ap₂ (λ b t. b ∷ t) (one_turn (e n) a) (turned_twice n e s)

turned_once : (n : ℕ) (e : Effects) (s : States) → turned n e s s ≡ states_after n (to_head (Some e)) s
turned_once n e s = ap (λ t. meet_all t (states_after n e s)) (sym (none_after n s)) ∙ after_met n no_effects e s

-- as many turns as there are locals come to one
many_turns : (n : ℕ) (e : Effects) (s : States) → loop_head s (λ h. Some (states_after n e h)) ≡ turned n e s s
many_turns zero e [] = refl
many_turns (suc n) e [] = refl
many_turns n e (a ∷ s) = same_turns (length s) (turned n e (a ∷ s)) (turned n e (a ∷ s) (a ∷ s)) (turned_twice n e (a ∷ s))

head_by : (n : ℕ) (w : Option Effects) (s : States) → loop_head s (λ h. way_after n w h) ≡ states_after n (to_head w) s
head_by n None s = same_turns (length s) (λ t. or_entry s None) s refl ∙ sym (none_after n s)
head_by n (Some e) s = many_turns n e s ∙ turned_once n e s

-- The head of a loop is reached from its entry by one step.
pub head_is : (n : ℕ) (turn : States → Option States) (w : Option Effects) → ((s : States) → turn s ≡ way_after n w s) → (s : States)
    → loop_head s turn ≡ states_after n (to_head w) s
head_is n turn w h s = ap (λ f. loop_head s f) (λ i t. h t i) ∙ head_by n w s

-- ---- locals that come into scope

pub below_is : {A : Type 0} (n i : ℕ) (a : A) (f : ℕ → A) → i < n → below n a f i ≡ f i
below_is n i a f h = by (nat_lt i n) (grind (arith, nat_tests, h))
  where
    by : (t : Bool) → t ≡ true → (if t then f i else a) ≡ f i
    by true e = refl
    by false e = absurd cc

below_after : (k n : ℕ) (e : Effects) (s : States) → k ≤ n → states_after k e s ≡ states_after k (effects_below n e) s
below_after zero n e s h = refl
below_after (suc k) n e [] h = refl
below_after (suc k) n e (a ∷ s) h =
    ap₂ (λ d t. becomes d a ∷ t) (sym (below_is n k Keeps e h)) (below_after k n e s (omega (arith, h)))

pub without_more : (n : ℕ) (e : Effects) (s : States) → states_after n e s ≡ states_after n (effects_below n e) s
without_more n e s = below_after n n e s (omega arith)

dropped_after : (added : States) (n m : ℕ) (e : Effects) (s : States) → m ≡ length added + n
    → drop (length added) (states_after m e (added ++ s)) ≡ states_after n e s
dropped_after [] n m e s h = ap (λ k. states_after k e s) (omega (arith, h))
dropped_after (a ∷ added) n m e s h =
    let more : m ≡ suc (length added + n) = omega (arith, h) in
    ap (λ k. drop (suc (length added)) (states_after k e (a ∷ added ++ s))) more ∙ dropped_after added n (length added + n) e s refl

pub dropped_way : (added : States) (n m : ℕ) (w : Option Effects) (s : States) → m ≡ length added + n
    → option_map (λ t. drop (length added) t) (way_after m w (added ++ s)) ≡ way_after n (way_below n w) s
dropped_way added n m None s h = refl
dropped_way added n m (Some e) s h = ap Some (dropped_after added n m e s h ∙ without_more n e s)

-- ---- one number

pub number_itself : {A : Type 0} (i : ℕ) (a : A) (f : ℕ → A) → with_number i a f i ≡ a
number_itself i a f = by (nat_eq i i) (grind (arith, nat_tests))
  where
    by : (t : Bool) → t ≡ true → (if t then a else f i) ≡ a
    by true h = refl
    by false h = absurd cc

pub number_other : {A : Type 0} (i j : ℕ) (a : A) (f : ℕ → A) → (j ≡ i → ⊥) → with_number i a f j ≡ f j
number_other i j a f h = by (nat_eq j i) refl
  where
    by : (t : Bool) → nat_eq j i ≡ t → (if t then a else f j) ≡ f j
    by true e = absurd (h (grind (arith, nat_tests, e)))
    by false e = refl
