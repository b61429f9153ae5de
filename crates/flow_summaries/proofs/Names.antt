-- What is done to one local, by its name and by its number.
use Rattle.std.specs.Prelude.{bytes_eq, length, ◌<◌, ◌≤◌, if◌then◌else◌}
use Rattle.std.proofs.lemmas.Option.{same_Some}
use Rattle.std.proofs.Common.{◌≡◌, ℕ, zero, suc, Bool, true, false, Option, Some, None, List, [], ◌∷◌, refl, sym, ap, ap₂, ◌∙◌, arith}
use Rattle.source_typing.specs.Faults.{Fault, earliest}
use Rattle.source_typing.specs.Scope.{Local, find_local}
use Rattle.source_typing.specs.States.{Gone, Held, Lent, Plain, State, States, need_held, need_unlent, state_of, unless_lent, used_to, with_state}
use Rattle.check_faults.specs.Faults.{faults_of, sooner_found}
use Rattle.check_faults.specs.declared.fault.Fault.{Fault as CodeFault}
use Rattle.flow_summaries.proofs.Effects.{lent_stays, none_after, number_itself, number_other}
use Rattle.flow_summaries.proofs.Passages.{in_none, no_cause_by}
use Rattle.flow_summaries.proofs.Sooner.{none_later, sooner_joined, sooner_turned}
use Rattle.flow_summaries.specs.Effects.{Effect, Effects, Holds, Keeps, Loses, becomes, no_effects, states_after, with_number}
use Rattle.flow_summaries.specs.Exits.{lent_from}
use Rattle.flow_summaries.specs.Laws.{DoesAs}
use Rattle.flow_summaries.specs.Passages.{Caused, assigned, caused_by, caused_in, if_lent, looked_at, moved, no_cause, unless_held, used}
use Rattle.flow_summaries.specs.Uses.{number_of}
use Rattle.cyc_tree.specs.Tree as tree

-- ---- numbers

-- a number of one of so many locals
abbrev IsBelow : ℕ → Option ℕ → Type 0
IsBelow m None = Unit {0}
IsBelow m (Some i) = i < m

below_more : (m : ℕ) (o : Option ℕ) → IsBelow m o → IsBelow (suc m) o
below_more m None h = tt
below_more m (Some i) h = omega arith

number_below : (ls : List Local) (x : List ℕ) → IsBelow (length ls) (number_of ls x)
number_below [] x = tt
number_below (l ∷ ls) x = by (bytes_eq l.name x) (number_below ls x)
  where
    by : (t : Bool) → IsBelow (length ls) (number_of ls x) → IsBelow (suc (length ls)) (if t then Some (length ls) else number_of ls x)
    by true h = omega arith
    by false h = below_more (length ls) (number_of ls x) h

-- a local of a name is in scope exactly if it has a number
abbrev pub IsNumbered : Option Local → Option ℕ → Type 0
IsNumbered None None = Unit {0}
IsNumbered (Some l) (Some i) = Unit {0}
IsNumbered None (Some i) = ⊥
IsNumbered (Some l) None = ⊥

pub numbered : (ls : List Local) (x : List ℕ) → IsNumbered (find_local ls x) (number_of ls x)
numbered [] x = tt
numbered (l ∷ ls) x = by (bytes_eq l.name x) (numbered ls x)
  where
    by : (t : Bool) → IsNumbered (find_local ls x) (number_of ls x)
        → IsNumbered (if t then Some l else find_local ls x) (if t then Some (length ls) else number_of ls x)
    by true h = tt
    by false h = h

-- ---- what is said of later numbers

states_beyond : (n i : ℕ) (e : Effect) (d : Effects) (s : States) → n ≤ i → states_after n (with_number i e d) s ≡ states_after n d s
states_beyond zero i e d s h = refl
states_beyond (suc n) i e d [] h = refl
states_beyond (suc n) i e d (a ∷ s) h =
    ap₂ (λ k t. becomes k a ∷ t) (number_other i n e d (λ q. omega (arith, q, h))) (states_beyond n i e d s (omega (arith, h)))

caused_beyond : (n i : ℕ) (b : Caused) (c : ℕ → Caused) (s : States) → n ≤ i → caused_in n (with_number i b c) s ≡ caused_in n c s
caused_beyond zero i b c s h = refl
caused_beyond (suc n) i b c [] h = refl
caused_beyond (suc n) i b c (a ∷ s) h =
    ap₂ (λ k o. sooner_found (caused_by a k) o) (number_other i n b c (λ q. omega (arith, q, h))) (caused_beyond n i b c s (omega (arith, h)))

-- the states, and the causes, of the local of the number itself and of those before it
states_at_number : (m : ℕ) (e : Effect) (d : Effects) (a : State) (s : States)
    → states_after (suc m) (with_number m e d) (a ∷ s) ≡ becomes e a ∷ states_after m d s
states_at_number m e d a s = ap₂ (λ k t. becomes k a ∷ t) (number_itself m e d) (states_beyond m m e d s (omega arith))

caused_at_number : (m : ℕ) (b : Caused) (c : ℕ → Caused) (a : State) (s : States)
    → caused_in (suc m) (with_number m b c) (a ∷ s) ≡ sooner_found (caused_by a b) (caused_in m c s)
caused_at_number m b c a s = ap₂ (λ k o. sooner_found (caused_by a k) o) (number_itself m b c) (caused_beyond m m b c s (omega arith))

-- ---- uses

effect_other : (e : Effect) (c : Caused) (o : Option ℕ) (m : ℕ) → IsBelow m o → (used e c o).effects m ≡ Keeps
effect_other e c None m h = refl
effect_other e c (Some i) m h = number_other i m e no_effects (λ q. omega (arith, q, h))

cause_other : (e : Effect) (c : Caused) (o : Option ℕ) (m : ℕ) → IsBelow m o → (used e c o).faults.caused m ≡ no_cause
cause_other e c None m h = refl
cause_other e c (Some i) m h = number_other i m c (λ j. no_cause) (λ q. omega (arith, q, h))

module _ (x : List ℕ) (a : State) (e : Effect) (c : Caused) (need : State → List Fault) (become : (b : State) → unless_lent b a ≡ becomes e b)
    (needed : (b : State) → earliest (need b) ≡ faults_of (caused_by b c)) (no_plain : c.plain ≡ None) where
  states_used : (ls : List Local) (s : States)
      → with_state ls x (unless_lent (state_of ls x s) a) s ≡ states_after (length ls) (used e c (number_of ls x)).effects s
  states_used [] s = refl
  states_used (l ∷ ls) [] = refl
  states_used (l ∷ ls) (b ∷ s) = by (bytes_eq l.name x) (states_used ls s)
    where
      m : ℕ
      m = length ls

      by : (t : Bool) → with_state ls x (unless_lent (state_of ls x s) a) s ≡ states_after m (used e c (number_of ls x)).effects s
          → (if t then unless_lent (if t then b else state_of ls x s) a ∷ s else b ∷ with_state ls x (unless_lent (if t then b else state_of ls x s) a) s)
          ≡ states_after (suc m) (used e c (if t then Some m else number_of ls x)).effects (b ∷ s)
      by true h = ap (λ d. d ∷ s) (become b) ∙ sym (states_at_number m e no_effects b s ∙ ap (λ t. becomes e b ∷ t) (none_after m s))
      by false h = ap₂ (λ k t. becomes k b ∷ t) (sym (effect_other e c (number_of ls x) m (number_below ls x))) h

  faults_used : (ls : List Local) (s : States)
      → earliest (need (state_of ls x s)) ≡ faults_of (caused_in (length ls) (used e c (number_of ls x)).faults.caused s)
  faults_used [] s = needed Plain ∙ ap faults_of no_plain
  faults_used (l ∷ ls) [] = needed Plain ∙ ap faults_of no_plain
  faults_used (l ∷ ls) (b ∷ s) = by (bytes_eq l.name x) (faults_used ls s)
    where
      m : ℕ
      m = length ls

      by : (t : Bool) → earliest (need (state_of ls x s)) ≡ faults_of (caused_in m (used e c (number_of ls x)).faults.caused s)
          → earliest (need (if t then b else state_of ls x s))
          ≡ faults_of (caused_in (suc m) (used e c (if t then Some m else number_of ls x)).faults.caused (b ∷ s))
      by true h =
          needed b
          ∙ ap faults_of (sym (caused_at_number m c (λ j. no_cause) b s ∙ ap (λ o. sooner_found (caused_by b c) o) (in_none m s)
          ∙ none_later (caused_by b c)))
      by false h =
          h
          ∙ ap (λ o. faults_of (sooner_found o (caused_in m (used e c (number_of ls x)).faults.caused s)))
          (sym (ap (λ k. caused_by b k) (cause_other e c (number_of ls x) m (number_below ls x)) ∙ no_cause_by b))

always_none : (e : Effect) (c : Caused) (o : Option ℕ) → (used e c o).faults.always ≡ None
always_none e c None = refl
always_none e c (Some i) = refl

does_use : (ls : List Local) (x : tree.Name) (need : ℕ → State → List Fault) (a : State) (e : Effect) (c : Caused)
    → ((b : State) → unless_lent b a ≡ becomes e b) → ((b : State) → earliest (need x.at b) ≡ faults_of (caused_by b c)) → c.plain ≡ None
    → DoesAs (length ls) (used_to ls x need a) (used e c (number_of ls x.text))
does_use ls x need a e c become needed no_plain = record {
  states = λ s. states_used x.text a e c (need x.at) become needed no_plain ls s;
  faults = λ s.
      faults_used x.text a e c (need x.at) become needed no_plain ls s
      ∙ ap faults_of (sym (ap (λ o. sooner_found (caused_in (length ls) (used e c (number_of ls x.text)).faults.caused s) o)
      (always_none e c (number_of ls x.text)) ∙ none_later (caused_in (length ls) (used e c (number_of ls x.text)).faults.caused s)));
}

pub held_needed : (at : ℕ) (b : State) → earliest (need_held at b) ≡ faults_of (caused_by b (unless_held at))
held_needed at = elim [ Plain ↦ refl | _ ↦ refl ]

unlent_needed : (at : ℕ) (b : State) → earliest (need_unlent at b) ≡ faults_of (caused_by b (if_lent at))
unlent_needed at = elim [ Plain ↦ refl | _ ↦ refl ]

pub does_move : (ls : List Local) (x : tree.Name) → DoesAs (length ls) (used_to ls x need_held Gone) (moved x.at (number_of ls x.text))
does_move ls x = does_use ls x need_held Gone Loses (unless_held x.at) (λ b. refl) (held_needed x.at) refl

pub does_look : (ls : List Local) (x : tree.Name) → DoesAs (length ls) (used_to ls x need_held Held) (looked_at x.at (number_of ls x.text))
does_look ls x = does_use ls x need_held Held Holds (unless_held x.at) (λ b. refl) (held_needed x.at) refl

pub does_assign : (ls : List Local) (x : tree.Name) → DoesAs (length ls) (used_to ls x need_unlent Held) (assigned x.at (number_of ls x.text))
does_assign ls x = does_use ls x need_unlent Held Holds (if_lent x.at) (λ b. refl) (unlent_needed x.at) refl

-- ---- loans

pub lent_anyway : (a : State) → unless_lent a Lent ≡ Lent
lent_anyway = elim [ Plain ↦ refl | _ ↦ refl ]

module _ (x : List ℕ) (i : ℕ) where
  -- what was lent before stays lent
  pub lent_already : (ls : List Local) (d : Effects) (s : States) → number_of ls x ≡ Some i → state_of ls x s ≡ Lent
      → states_after (length ls) d (with_state ls x Lent s) ≡ states_after (length ls) (with_number i Holds d) s
  lent_already [] d s q h = absurd cc
  lent_already (l ∷ ls) d [] q h = refl
  lent_already (l ∷ ls) d (b ∷ s) q h = by (bytes_eq l.name x) q h (λ q h. lent_already ls d s q h) (number_below ls x)
    where
      m : ℕ
      m = length ls

      by : (t : Bool) → (if t then Some m else number_of ls x) ≡ Some i → (if t then b else state_of ls x s) ≡ Lent
          → (number_of ls x ≡ Some i → state_of ls x s ≡ Lent
          → states_after m d (with_state ls x Lent s) ≡ states_after m (with_number i Holds d) s)
          → IsBelow m (number_of ls x)
          → states_after (suc m) d (if t then Lent ∷ s else b ∷ with_state ls x Lent s) ≡ states_after (suc m) (with_number i Holds d) (b ∷ s)
      by true q h others below =
          ap (λ a. a ∷ states_after m d s) (lent_stays (d m) ∙ sym (ap (λ a. becomes Holds a) h))
          ∙ sym (states_at_number m Holds d b s)
          ∙ ap (λ j. states_after (suc m) (with_number j Holds d) (b ∷ s)) (same_Some m i q)
      by false q h others below =
          let less : IsBelow m (Some i) = subst_below q below in
          ap₂ (λ k t. becomes k b ∷ t) (sym (number_other i m Holds d (λ e. omega (arith, e, less)))) (others q h)
        where
          subst_below : number_of ls x ≡ Some i → IsBelow m (number_of ls x) → i < m
          subst_below q below = rw q at below

  -- what wasn't is held again
  pub lent_before : (ls : List Local) (d : Effects) (s : States) → number_of ls x ≡ Some i → unless_lent (state_of ls x s) Held ≡ Held
      → with_state ls x Held (states_after (length ls) d (with_state ls x Lent s)) ≡ states_after (length ls) (with_number i Holds d) s
  lent_before [] d s q h = absurd cc
  lent_before (l ∷ ls) d [] q h = refl
  lent_before (l ∷ ls) d (b ∷ s) q h = by (bytes_eq l.name x) refl q h (λ q h. lent_before ls d s q h) (number_below ls x)
    where
      m : ℕ
      m = length ls

      by : (t : Bool) → bytes_eq l.name x ≡ t → (if t then Some m else number_of ls x) ≡ Some i → unless_lent (if t then b else state_of ls x s) Held ≡ Held
          → (number_of ls x ≡ Some i → unless_lent (state_of ls x s) Held ≡ Held
          → with_state ls x Held (states_after m d (with_state ls x Lent s)) ≡ states_after m (with_number i Holds d) s)
          → IsBelow m (number_of ls x)
          → with_state (l ∷ ls) x Held (states_after (suc m) d (if t then Lent ∷ s else b ∷ with_state ls x Lent s))
          ≡ states_after (suc m) (with_number i Holds d) (b ∷ s)
      by true p q h others below =
          ap (λ (t : Bool). if t then Held ∷ states_after m d s else becomes (d m) Lent ∷ with_state ls x Held (states_after m d s)) p
          ∙ ap (λ a. a ∷ states_after m d s) (sym h)
          ∙ sym (states_at_number m Holds d b s)
          ∙ ap (λ j. states_after (suc m) (with_number j Holds d) (b ∷ s)) (same_Some m i q)
      by false p q h others below =
          let less : i < m = subst_below q below in
          let inner : States = states_after m d (with_state ls x Lent s) in
          ap (λ (t : Bool). if t then Held ∷ inner else becomes (d m) b ∷ with_state ls x Held inner) p
          ∙ ap₂ (λ k t. becomes k b ∷ t) (sym (number_other i m Holds d (λ e. omega (arith, e, less)))) (others q h)
        where
          subst_below : number_of ls x ≡ Some i → IsBelow m (number_of ls x) → i < m
          subst_below q below = rw q at below

  module _ (at : ℕ) where
    lent_by : (f r : Option CodeFault) (b : State)
        → sooner_found (caused_by b (unless_held at)) (sooner_found f r) ≡ sooner_found (caused_by b (lent_from at f)) r
    lent_by f r Plain = refl
    lent_by f r Held = refl
    lent_by f r Gone = sym (sooner_joined (caused_by Gone (unless_held at)) f r)
    lent_by f r Lent = sym (sooner_joined (caused_by Lent (unless_held at)) f r)

    pub lent_found : (ls : List Local) (c : ℕ → Caused) (s : States) → number_of ls x ≡ Some i
        → sooner_found (caused_by (state_of ls x s) (unless_held at)) (caused_in (length ls) c (with_state ls x Lent s))
        ≡ caused_in (length ls) (with_number i (lent_from at (c i).lent) c) s
    lent_found [] c s q = absurd cc
    lent_found (l ∷ ls) c [] q = refl
    lent_found (l ∷ ls) c (b ∷ s) q = by (bytes_eq l.name x) q (λ q. lent_found ls c s q) (number_below ls x)
      where
        m : ℕ
        m = length ls

        need : State → Option CodeFault
        need a = caused_by a (unless_held at)

        by : (t : Bool) → (if t then Some m else number_of ls x) ≡ Some i
            → (number_of ls x ≡ Some i
            → sooner_found (need (state_of ls x s)) (caused_in m c (with_state ls x Lent s))
            ≡ caused_in m (with_number i (lent_from at (c i).lent) c) s)
            → IsBelow m (number_of ls x)
            → sooner_found (need (if t then b else state_of ls x s)) (caused_in (suc m) c (if t then Lent ∷ s else b ∷ with_state ls x Lent s))
            ≡ caused_in (suc m) (with_number i (lent_from at (c i).lent) c) (b ∷ s)
        by true q others below =
            lent_by (c m).lent (caused_in m c s) b
            ∙ sym (caused_at_number m (lent_from at (c m).lent) c b s)
            ∙ ap (λ j. caused_in (suc m) (with_number j (lent_from at (c j).lent) c) (b ∷ s)) (same_Some m i q)
        by false q others below =
            let less : i < m = subst_below q below in
            let own : Option CodeFault = need (state_of ls x s) in
            let inner : Option CodeFault = caused_in m c (with_state ls x Lent s) in
            sym (sooner_joined own (caused_by b (c m)) inner)
            ∙ ap (λ o. sooner_found o inner) (sooner_turned own (caused_by b (c m)))
            ∙ sooner_joined (caused_by b (c m)) own inner
            ∙ ap₂ (λ k o. sooner_found (caused_by b k) o) (sym (number_other i m (lent_from at (c i).lent) c (λ e. omega (arith, e, less)))) (others q)
          where
            subst_below : number_of ls x ≡ Some i → IsBelow m (number_of ls x) → i < m
            subst_below q below = rw q at below
