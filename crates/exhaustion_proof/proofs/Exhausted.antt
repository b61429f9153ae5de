-- Where a run is exhausted, by the events that are meant.
use Rattle.std.proofs.Common.{◌≡◌, ℕ, ◌+◌, ◌-◌, ◌≤◌, ◌⊎◌, inl, inr, true, false, List, [], ◌∷◌, ◌++◌, Option, Some, None, refl, sym, ap, subst, ◌∙◌, arith}
use Rattle.std.proofs.Common.{append_assoc}
use Rattle.cyc_words.specs.Events.{Event, SourceEvent, Visible, Called, Returned, visible, Request}
use Rattle.arena_laws.specs.Counts.{block_limit}
use Rattle.arena_laws.specs.Holdings.{fresh}
use Rattle.arena_laws.specs.Lawful.{Answer}
use Rattle.arena_laws.specs.Pages.{unborn}
use Rattle.rv32_machine.specs.State.{State, Areas, Stop, Mode, Runs, Waits, Over}
use Rattle.rv32_machine.specs.Run.{Run, run_steps, from, ending_in, exhausted_by}
use Rattle.rv32_machine.specs.Implements.{Meaning, Implements, Reaches, IsRefused, HasNoFrame, AgreesIn, active_after, is_cut_short}
use Rattle.rv32_machine.proofs.LongerRuns.{run_more, over_steps}
use Rattle.exhaustion_proof.specs.Room.{asked, refused_if, counts_after, is_refused_after, WantsPages, HasRoom}
use Rattle.exhaustion_proof.specs.Laws.{AreExact, IsGrowing, ExhaustionIsExact}
use Rattle.exhaustion_proof.proofs.Running.{AreGranted, Kept, granted_there, starts_kept, steps_kept}
use Rattle.cyc_words.proofs.Events.{visible_append}

-- ---- lists

-- Of two places in one list: they are the same, or one stands before the other.
data Places (before : List SourceEvent) (e : SourceEvent) (others : List SourceEvent) (next : SourceEvent) : Type 0 where
  Same : before ≡ others → e ≡ next → Places before e others next
  Sooner : (between : List SourceEvent) → before ≡ others ++ next ∷ between → Places before e others next
  Later : (between : List SourceEvent) → others ≡ before ++ e ∷ between → Places before e others next

same_head : (x y : SourceEvent) (xs ys : List SourceEvent) → x ∷ xs ≡ y ∷ ys → (x ≡ y) × (xs ≡ ys)
same_head x y xs ys e = (cc, cc)

places : (before : List SourceEvent) (e : SourceEvent) (rest others : List SourceEvent) (next : SourceEvent) (more : List SourceEvent)
    → before ++ e ∷ rest ≡ others ++ next ∷ more → Places before e others next
places [] e rest [] next more is = Same refl (same_head e next rest more is).0
places [] e rest (x ∷ others) next more is =
    let z = same_head e x rest (others ++ next ∷ more) is in Later others (ap (λ y. y ∷ others) (sym z.0))
places (x ∷ before) e rest [] next more is =
    let z = same_head x next (before ++ e ∷ rest) more is in Sooner before (ap (λ y. y ∷ before) z.0)
places (x ∷ before) e rest (y ∷ others) next more is =
    let z = same_head x y (before ++ e ∷ rest) (others ++ next ∷ more) is in
    consed x y z.0 (places before e rest others next more z.1)
  where
    consed : (x y : SourceEvent) → x ≡ y → Places before e others next → Places (x ∷ before) e (y ∷ others) next
    consed x y same (Same a b) = Same (ap (λ l. x ∷ l) a ∙ ap (λ z. z ∷ others) same) b
    consed x y same (Sooner between a) = Sooner between (ap (λ l. x ∷ l) a ∙ ap (λ z. z ∷ (others ++ next ∷ between)) same)
    consed x y same (Later between a) = Later between (ap (λ l. y ∷ l) a ∙ ap (λ z. z ∷ (before ++ e ∷ between)) (sym same))

-- ---- endings

-- a run that was cut short is over: exhausted, or the store lacked memory
cut_modes : (mode : Mode) (refused : Option Request) → is_cut_short (ending_in mode refused) ≡ true → (mode ≡ Over Stop.Lacking) ⊎ (mode ≡ Over Stop.Exhausted)
cut_modes Runs refused e = absurd cc
cut_modes Waits refused e = absurd cc
cut_modes (Over (Stop.Ended status)) refused e = absurd cc
cut_modes (Over (Stop.Raised kind)) refused e = absurd cc
cut_modes (Over Stop.Exhausted) refused e = inr refl
cut_modes (Over Stop.Lacking) refused e = inl refl
cut_modes (Over (Stop.Fault fault)) refused e = absurd cc

module _ (bound : List ℕ → ℕ) (n : Areas) (s : State) (input : List ℕ) (m : Meaning) (fresh_is : s.holdings ≡ fresh n.pages)
    (limit : n.block_limit ≡ block_limit) (grows : IsGrowing m) (does : Implements bound n s input m) (answers : ℕ → Answer) where
  abbrev at_start : Run
  at_start = from s input answers

  kept_after : (count : ℕ) → AreExact n count at_start → Kept n.pages (run_steps n count at_start)
  kept_after count exact = steps_kept n.pages n limit count at_start (starts_kept n.pages s input answers fresh_is) exact

  -- ---- what an exhausted run was cut before

  -- the event before which it was cut, which wants more than there is
  record IsCutBefore (r : Run) (fuel : ℕ) : Type 0 where
    before : List SourceEvent
    next : SourceEvent
    rest : List SourceEvent
    split : m.events fuel ≡ before ++ next ∷ rest
    same : r.events ≡ visible before
    wants : WantsPages n.pages before next ⊎ HasNoFrame bound n.stack (active_after [] before) next

  wants_pages : (r : Run) → Kept n.pages r → (q : Request) → r.refused ≡ Some q → (before : List SourceEvent) (next : SourceEvent) → r.events ≡ visible before
      → IsRefused q next → WantsPages n.pages before next
  wants_pages r kept q is before (Visible e) same refused =
      subst (λ (es : List Event). refused_if (asked e) (counts_after es (unborn n.pages)) ≡ true) same (kept.refused q is e refused)
  wants_pages r kept q is before (Called f) same refused = absurd refused
  wants_pages r kept q is before (Returned f) same refused = absurd refused

  cut_by : (r : Run) → Kept n.pages r → (fuel : ℕ) (o : Option Request) → r.refused ≡ o
      → AgreesIn bound n (exhausted_by o) r.events (m.events fuel) (m.ending fuel) → IsCutBefore r fuel
  cut_by r kept fuel (Some q) is a = record {
    before = a.before;
    next = a.next;
    rest = a.rest;
    split = a.split;
    same = a.same;
    wants = inl (wants_pages r kept q is a.before a.next a.same a.because);
  }
  cut_by r kept fuel None is a = record { before = a.before; next = a.next; rest = a.rest; split = a.split; same = a.same; wants = inr a.because }

  exhausted_cut : (count : ℕ) → AreExact n count at_start → (run_steps n count at_start).state.mode ≡ Over Stop.Exhausted
      → (fuel : ℕ) × IsCutBefore (run_steps n count at_start) fuel
  exhausted_cut count exact over =
      let r = run_steps n count at_start in
      let a = does.each_run answers count in (
        a.0,
        cut_by r (kept_after count exact) a.0 r.refused refl
            (subst (λ (k : Mode). AgreesIn bound n (ending_in k r.refused) r.events (m.events a.0) (m.ending a.0)) over a.1),
      )

  -- ---- where there is room for all

  never : ((fuel : ℕ) → HasRoom bound n.pages n.stack (m.events fuel)) → (count : ℕ) → AreExact n count at_start
      → (run_steps n count at_start).state.mode ≡ Over Stop.Exhausted → ⊥
  never room count exact over =
      let c = exhausted_cut count exact over in
      let cut = c.1 in
      let has = room c.0 cut.before cut.next cut.rest cut.split in
      either has cut.wants
    where
      either : {A B : Type 0} → (A → ⊥) × (B → ⊥) → A ⊎ B → ⊥
      either has (inl a) = has.0 a
      either has (inr b) = has.1 b

  -- ---- where the first that wants more is a request that the count refuses

  module _ (fuel : ℕ) (before : List SourceEvent) (e : Event) (rest : List SourceEvent) (split : m.events fuel ≡ before ++ Visible e ∷ rest)
      (room : HasRoom bound n.pages n.stack before) (short : is_refused_after n.pages (visible before) e ≡ true) where
    -- no run has shown that event behind those
    not_shown : (count : ℕ) → AreExact n count at_start → (others : List Event) → (run_steps n count at_start).events ≡ visible before ++ e ∷ others → ⊥
    not_shown count exact others shown =
        let kept = kept_after count exact in
        let granted = granted_there (visible before) e others (unborn n.pages)
        (subst (λ (es : List Event). AreGranted es (unborn n.pages)) shown kept.granted) in
        (let z : true ≡ false = sym short ∙ granted in cc)

    -- the events of two amounts of fuel begin alike
    in_one : (other : ℕ) (others : List SourceEvent) (next : SourceEvent) (more : List SourceEvent) → m.events other ≡ others ++ next ∷ more
        → Places before (Visible e) others next
    in_one other others next more is =
        let a = grows fuel (fuel + other) (omega arith) in
        let b = grows other (fuel + other) (omega arith) in
        places before (Visible e) (rest ++ a.0) others next (more ++ b.0)
        (sym (append_assoc before (Visible e ∷ rest) a.0) ∙ ap (λ l. l ++ a.0) (sym split) ∙ sym a.1 ∙ b.1 ∙ ap (λ l. l ++ b.0) is
        ∙ append_assoc others (next ∷ more) b.0)

    -- an exhausted run has shown just the events before it
    exhausted_there : (count : ℕ) → AreExact n count at_start → (run_steps n count at_start).state.mode ≡ Over Stop.Exhausted
        → (run_steps n count at_start).events ≡ visible before
    exhausted_there count exact over =
        let c = exhausted_cut count exact over in
        let cut = c.1 in
        by cut (in_one c.0 cut.before cut.next cut.rest cut.split)
      where
        by : {other : ℕ} (cut : IsCutBefore (run_steps n count at_start) other) → Places before (Visible e) cut.before cut.next
            → (run_steps n count at_start).events ≡ visible before
        by cut (Same a b) = cut.same ∙ ap visible (sym a)
        by cut (Sooner between a) =
            let has = room cut.before cut.next between a in
            absurd (either has cut.wants)
          where
            either : {A B : Type 0} → (A → ⊥) × (B → ⊥) → A ⊎ B → ⊥
            either has (inl x) = has.0 x
            either has (inr x) = has.1 x
        by cut (Later between a) =
            absurd (not_shown count exact (visible between) (cut.same ∙ ap visible a ∙ visible_append before (Visible e ∷ between)))

    stopped : (enough count : ℕ) → enough ≤ count → AreExact n count at_start → Reaches (run_steps n enough at_start) m fuel
        → let r = run_steps n count at_start in (r.state.mode ≡ Over Stop.Lacking) ⊎ ((r.state.mode ≡ Over Stop.Exhausted) × (r.events ≡ visible before))
    stopped enough count less exact (inl short_cut) =
        over_by (cut_modes (run_steps n enough at_start).state.mode (run_steps n enough at_start).refused short_cut)
      where
        -- nothing changes once it is over
        stays : (why : Stop) → (run_steps n enough at_start).state.mode ≡ Over why → run_steps n count at_start ≡ run_steps n enough at_start
        stays why over =
            let parts : enough + (count - enough) ≡ count = omega (arith, less) in
            ap (λ k. run_steps n k at_start) (sym parts) ∙ run_more n enough (count - enough) at_start
            ∙ over_steps n (count - enough) (run_steps n enough at_start) why over

        over_by : ((run_steps n enough at_start).state.mode ≡ Over Stop.Lacking) ⊎ ((run_steps n enough at_start).state.mode ≡ Over Stop.Exhausted)
            → let r = run_steps n count at_start in (r.state.mode ≡ Over Stop.Lacking) ⊎ ((r.state.mode ≡ Over Stop.Exhausted) × (r.events ≡ visible before))
        over_by (inl over) = inl (ap (λ (r : Run). r.state.mode) (stays Stop.Lacking over) ∙ over)
        over_by (inr over) =
            let is : (run_steps n count at_start).state.mode ≡ Over Stop.Exhausted = ap (λ (r : Run). r.state.mode) (stays Stop.Exhausted over) ∙ over in
            inr (is, exhausted_there count exact is)
    stopped enough count less exact (inr (begins, ends)) =
        let exact_first : AreExact n enough at_start = λ k under. exact k (omega (arith, under, less)) in
        absurd (not_shown enough exact_first (visible rest ++ begins.0)
        (begins.1 ∙ ap (λ l. visible l ++ begins.0) split ∙ ap (λ l. l ++ begins.0) (visible_append before (Visible e ∷ rest))
        ∙ append_assoc (visible before) (e ∷ visible rest) begins.0))

pub exhaustion_is_exact : ExhaustionIsExact
exhaustion_is_exact bound n s input m fresh_is limit grows does = (
  λ room answers count exact over. never bound n s input m fresh_is limit grows does answers room count exact over,
  λ fuel before e rest split room short enough reaches answers count less exact.
      stopped bound n s input m fresh_is limit grows does answers fuel before e rest split room short enough count less exact (reaches answers),
)
