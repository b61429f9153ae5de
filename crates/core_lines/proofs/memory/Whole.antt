-- The machine's whole run does what Core does, over every store: from one forward statement, with the number of steps before the store's answers.
use Rattle.std.proofs.Common.{
  ◌≡◌,
  ◌≢◌,
  ℕ,
  suc,
  ◌+◌,
  ◌-◌,
  ◌≤◌,
  ◌<◌,
  inl,
  inr,
  ⊎_elim,
  true,
  List,
  [],
  ◌∷◌,
  ◌++◌,
  Option,
  None,
  refl,
  sym,
  ap,
  subst,
  ◌∙◌,
  arith,
  append_assoc,
  append-nil,
  add-sub_of_le,
  le_of_lt,
}
use Rattle.std.proofs.lemmas.Bool.{cases_lt}
use Rattle.cyc_words.specs.Events.{AreBytes, SourceEnding, SourceEvent, Visible, Called, Returned, visible, MachineEnding, Request}
use Rattle.cyc_words.specs.Events as events
use Rattle.arena_laws.specs.Lawful.{Answer}
use Rattle.rv32_machine.specs.State.{Areas, Stop, Mode, Runs, Waits, Over}
use Rattle.rv32_machine.specs.Ledger.{unborn}
use Rattle.rv32_machine.specs.Run.{Run, run_steps, from, ending_of, ending_in}
use Rattle.rv32_machine.specs.Audit.{IsLawful, IsLawfulIn}
use Rattle.rv32_machine.specs.Implements.{Meaning, IsCut, IsBeginning, AgreesIn, EndsWith, Reaches, Implements, is_cut_short, active_after}
use Rattle.rv32_machine.proofs.LongerRuns.{AreLawful, run_more, lawful_more, lawful_at, over_steps, steps_show}
use Rattle.step_trees.specs.Trees.{Outcome}
use Rattle.core_meaning.specs.Steps.{Step, Event}
use Rattle.core_lines.specs.Machines.{Machine, state_of, run_from}
use Rattle.core_lines.specs.Running.{named, core_run}
use Rattle.core_lines.proofs.memory.Relations.{IsAt, Led, Cut, Cause, Refused, NoStack, Lacked, stop_of, refused_of, IsNext, World, Leads, Goes}
use Rattle.cyc_words.proofs.Events.{visible_append}

begins_on : (a b c : List events.Event) → IsBeginning a b → IsBeginning b c → IsBeginning a c
begins_on a b c x y = (x.0 ++ y.0, y.1 ∙ ap (λ es. es ++ y.0) x.1 ∙ append_assoc a x.0 y.0)

-- ---- agreeing

pub cut_begins : (shown : List events.Event) (meant : List SourceEvent) (reason : List SourceEvent → SourceEvent → Type 0) → IsCut shown meant reason
    → IsBeginning shown (visible meant)
cut_begins shown meant reason c =
    (visible (c.next ∷ c.rest), ap visible c.split ∙ visible_append c.before (c.next ∷ c.rest) ∙ ap (λ es. es ++ visible (c.next ∷ c.rest)) (sym c.same))

module _ (bound : List ℕ → ℕ) (n : Areas) where
  begins : (shown : List events.Event) (meant : List SourceEvent) (e : SourceEnding) (how : MachineEnding) → AgreesIn bound n how shown meant e
      → IsBeginning shown (visible meant)
  begins shown meant e MachineEnding.Running a = a
  begins shown meant e MachineEnding.Lacking a = a
  begins shown meant e (MachineEnding.Ended status) a = ([], a.1 ∙ sym (append-nil shown))
  begins shown meant e (MachineEnding.Raised kind) a = ([], a.1 ∙ sym (append-nil shown))
  begins shown meant e (MachineEnding.Refused q) a = cut_begins shown meant _ a
  begins shown meant e MachineEnding.NoStack a = cut_begins shown meant _ a
  begins shown meant e (MachineEnding.Fault fault) a = absurd a

  -- a run that agrees later agrees now
  agrees_before : (more : ℕ) (r : Run) (meant : List SourceEvent) (e : SourceEnding) (mode : Mode) → r.state.mode ≡ mode
      → AgreesIn bound n (ending_of (run_steps n more r)) (run_steps n more r).events meant e → AgreesIn bound n (ending_in mode r.refused) r.events meant e
  agrees_before more r meant e Runs is a = begins_on r.events (run_steps n more r).events (visible meant) (steps_show n more r) (begins _ meant e _ a)
  agrees_before more r meant e Waits is a = begins_on r.events (run_steps n more r).events (visible meant) (steps_show n more r) (begins _ meant e _ a)
  agrees_before more r meant e (Over why) is a =
      let stays = over_steps n more r why is in
      subst (λ (m : Mode). AgreesIn bound n (ending_in m r.refused) r.events meant e) is
      (subst (λ (q : Run). AgreesIn bound n (ending_of q) q.events meant e) stays a)

  agrees_at : (e : SourceEnding) (mode : Mode) (refused : Option Request) (shown : List events.Event) (meant : List SourceEvent) → e ≢ SourceEnding.Stuck
      → IsAt e mode
      → shown ≡ visible meant → AgreesIn bound n (ending_in mode refused) shown meant e
  agrees_at (SourceEnding.Ended status) mode refused shown meant sound at same =
      subst (λ (m : Mode). AgreesIn bound n (ending_in m refused) shown meant (SourceEnding.Ended status)) (sym at) (refl, sym same)
  agrees_at (SourceEnding.Raised kind) mode refused shown meant sound at same =
      subst (λ (m : Mode). AgreesIn bound n (ending_in m refused) shown meant (SourceEnding.Raised kind)) (sym at) (refl, sym same)
  agrees_at SourceEnding.Running mode refused shown meant sound at same =
      subst (λ (m : Mode). AgreesIn bound n (ending_in m refused) shown meant SourceEnding.Running) (sym at) ([], sym same ∙ sym (append-nil shown))
  agrees_at SourceEnding.Stuck mode refused shown meant sound at same = absurd (sound refl)

  -- so does one that was cut
  agrees_cut : (why : Cause) (shown : List events.Event) (meant : List SourceEvent) (e : SourceEnding)
      → IsCut shown meant (λ before next. IsNext bound n.stack why (active_after [] before) next)
      → AgreesIn bound n (ending_in (Over (stop_of why)) (refused_of why)) shown meant e
  agrees_cut (Refused q) shown meant e c = c
  agrees_cut NoStack shown meant e c = c
  agrees_cut Lacked shown meant e c = cut_begins shown meant _ c

cut_short : (why : Cause) → is_cut_short (ending_in (Over (stop_of why)) (refused_of why)) ≡ true
cut_short (Refused q) = refl
cut_short NoStack = refl
cut_short Lacked = refl

ends_at : (e : SourceEnding) (r : Run) (meant : List events.Event) → IsAt e r.state.mode → r.events ≡ meant → EndsWith e meant r
ends_at (SourceEnding.Ended status) r meant at same = (ap (λ (m : Mode). ending_in m r.refused) at, same)
ends_at (SourceEnding.Raised kind) r meant at same = (ap (λ (m : Mode). ending_in m r.refused) at, same)
ends_at SourceEnding.Running r meant at same = tt
ends_at SourceEnding.Stuck r meant at same = tt

-- some steps later it still is
ends_later : (n : Areas) (more : ℕ) (e : SourceEnding) (r : Run) (meant : List events.Event) → IsAt e r.state.mode → r.events ≡ meant
    → EndsWith e meant (run_steps n more r)
ends_later n more (SourceEnding.Ended status) r meant at same =
    let e = SourceEnding.Ended status in
    subst (EndsWith e meant) (sym (over_steps n more r (Stop.Ended status) at)) (ends_at e r meant at same)
ends_later n more (SourceEnding.Raised kind) r meant at same =
    let e = SourceEnding.Raised kind in
    subst (EndsWith e meant) (sym (over_steps n more r (Stop.Raised kind) at)) (ends_at e r meant at same)
ends_later n more SourceEnding.Running r meant at same = tt
ends_later n more SourceEnding.Stuck r meant at same = tt

-- the machine is over
record IsOver (mode : Mode) : Type 0 where
  pub why : Stop
  pub over : mode ≡ Over why

is_over : (e : SourceEnding) (mode : Mode) → e ≢ SourceEnding.Running → e ≢ SourceEnding.Stuck → IsAt e mode → IsOver mode
is_over (SourceEnding.Ended status) mode fueled sound at = record { why = Stop.Ended status; over = at }
is_over (SourceEnding.Raised kind) mode fueled sound at = record { why = Stop.Raised kind; over = at }
is_over SourceEnding.Running mode fueled sound at = absurd (fueled refl)
is_over SourceEnding.Stuck mode fueled sound at = absurd (sound refl)

later : (n : Areas) (r : Run) (first count : ℕ) → first ≤ count → run_steps n count r ≡ run_steps n (count - first) (run_steps n first r)
later n r first count less = ap (λ k. run_steps n k r) (sym (add-sub_of_le less)) ∙ run_more n first (count - first) r

-- ---- a whole run

module _ (w : World) (s : Machine) (input : List ℕ) (bytes : AreBytes input) (c : Step) (R : Machine → Type 0) (there : R s) (goes : (k : ℕ) → Goes w k c R [])
    (sound : (fuel : ℕ) → (core_run w.functions fuel c input).ending ≢ SourceEnding.Stuck) where
  abbrev leads : (fuel : ℕ) → Leads w fuel c R [] input
  leads fuel = (goes fuel).at fuel (omega arith) input bytes

  abbrev meant : ℕ → Outcome Event
  meant fuel = core_run w.functions fuel c input

  abbrev meaning : Meaning
  meaning = record { events = λ fuel. named w.names (meant fuel).events; ending = λ fuel. (meant fuel).ending }

  abbrev ran : (ℕ → Answer) → ℕ → Run
  ran answers count = run_steps w.areas count (run_from s input answers)

  abbrev AgreesWith : Run → ℕ → Type 0
  AgreesWith r fuel = AgreesIn w.bound w.areas (ending_of r) r.events (named w.names (meant fuel).events) (meant fuel).ending

  -- how a run that was cut has ended
  cut_ending : (fuel : ℕ) (r : Run) (x : Cut w [] r (meant fuel)) → ending_of x.last ≡ ending_in (Over (stop_of x.why)) (refused_of x.why)
  cut_ending fuel r x = ap (λ (m : Mode). ending_in m x.last.refused) x.over ∙ ap (ending_in (Over (stop_of x.why))) x.refused

  cut_at : (answers : ℕ → Answer) (fuel : ℕ) (x : Cut w [] (ran answers (leads fuel).count) (meant fuel)) → ran answers ((leads fuel).count + 4) ≡ x.last
  cut_at answers fuel x = run_more w.areas (leads fuel).count 4 (run_from s input answers) ∙ x.soon

  -- so many steps agree and are lawful; and where there are fewer than units of fuel, the run is over
  record Agreeing (answers : ℕ → Answer) (fuel : ℕ) : Type 0 where
    pub count : ℕ
    pub agrees : AgreesWith (ran answers count) fuel
    pub lawful : AreLawful w.areas count (run_from s input answers)
    pub over : count < fuel → IsOver (ran answers count).state.mode

  led_agrees : (answers : ℕ → Answer) (fuel : ℕ) → Led w (ran answers (leads fuel).count) (meant fuel) → Agreeing answers fuel
  led_agrees answers fuel l =
      let r = ran answers (leads fuel).count in
      record {
        count = (leads fuel).count;
        agrees = agrees_at w.bound w.areas (meant fuel).ending r.state.mode r.refused r.events (named w.names (meant fuel).events) (sound fuel) l.ends l.events;
        lawful = (leads fuel).lawful s answers there;
        over = λ less. is_over (meant fuel).ending r.state.mode (λ running. let paid = (leads fuel).paid running in omega (arith, less, paid)) (sound fuel)
            l.ends;
      }

  cut_agrees : (answers : ℕ → Answer) (fuel : ℕ) → Cut w [] (ran answers (leads fuel).count) (meant fuel) → Agreeing answers fuel
  cut_agrees answers fuel x =
      let es = named w.names (meant fuel).events in
      let is = cut_at answers fuel x in
      record {
        count = (leads fuel).count + 4;
        agrees = subst (λ (r : Run). AgreesWith r fuel) (sym is)
            (subst (λ (m : MachineEnding). AgreesIn w.bound w.areas m x.last.events es (meant fuel).ending)
            (sym (cut_ending fuel (ran answers (leads fuel).count) x))
            (agrees_cut w.bound w.areas x.why x.last.events es (meant fuel).ending x.cut));
        lawful = lawful_more w.areas (leads fuel).count 4 (run_from s input answers) ((leads fuel).lawful s answers there) x.lawful;
        over = λ less. record { why = stop_of x.why; over = ap (λ (r : Run). r.state.mode) is ∙ x.over };
      }

  agreeing : (answers : ℕ → Answer) (fuel : ℕ) → Agreeing answers fuel
  agreeing answers fuel = ⊎_elim (led_agrees answers fuel) (cut_agrees answers fuel) ((leads fuel).leads s answers there)

  stays_over : (answers : ℕ → Answer) (fuel count : ℕ) (k : Agreeing answers fuel) → k.count < fuel → k.count ≤ count → ran answers count ≡ ran answers k.count
  stays_over answers fuel count k less within =
      let o = k.over less in
      later w.areas (run_from s input answers) k.count count within ∙ over_steps w.areas (count - k.count) (ran answers k.count) o.why o.over

  -- four steps later what is led has come as far
  reaches : (answers : ℕ → Answer) (fuel : ℕ) → Reaches (ran answers ((leads fuel).count + 4)) meaning fuel
  reaches answers fuel =
      let r = ran answers (leads fuel).count in
      let es = visible (named w.names (meant fuel).events) in
      ⊎_elim
      (λ (l : Led w r (meant fuel)).
      subst (λ (q : Run). Reaches q meaning fuel) (sym (run_more w.areas (leads fuel).count 4 (run_from s input answers))) (inr (
        subst (λ shown. IsBeginning shown (run_steps w.areas 4 r).events) l.events (steps_show w.areas 4 r),
        ends_later w.areas 4 (meant fuel).ending r es l.ends l.events,
      )))
      (λ (x : Cut w [] r (meant fuel)).
      inl (ap (λ (q : Run). is_cut_short (ending_of q)) (cut_at answers fuel x) ∙ ap is_cut_short (cut_ending fuel r x) ∙ cut_short x.why))
      ((leads fuel).leads s answers there)

  -- what goes on at each amount of fuel does as a whole what Core does
  pub implements : s.store.ledger ≡ unborn → Implements w.bound w.areas (state_of s) input meaning
  implements fresh =
      let start : (answers : ℕ → Answer) → from (state_of s) input answers ≡ run_from s input answers =
      λ answers i. record { state = state_of s; input = input; answers = answers; events = []; ledger = sym fresh i; refused = None } in
      record {
        each_run = λ answers count. (
          count,
          subst (λ (q : Run). AgreesWith (run_steps w.areas count q) count) (sym (start answers))
              (let k = agreeing answers count in ⊎_elim
              (λ (less : k.count < count).
              subst (λ (r : Run). AgreesWith r count) (sym (stays_over answers count count k less (le_of_lt less))) k.agrees)
              (λ (within : count ≤ k.count).
              agrees_before w.bound w.areas (k.count - count) (ran answers count) (named w.names (meant count).events) (meant count).ending
              (ran answers count).state.mode refl
              (subst (λ (r : Run). AgreesWith r count) (later w.areas (run_from s input answers) count k.count within) k.agrees))
              (cases_lt k.count count)),
        );
        each_fuel = λ fuel. (
          (leads fuel).count + 4,
          λ answers.
              subst (λ (q : Run). Reaches (run_steps w.areas ((leads fuel).count + 4) q) meaning fuel) (sym (start answers)) (reaches answers fuel),
        );
        lawful = λ answers count.
            subst (λ (q : Run). IsLawful w.areas (run_steps w.areas count q)) (sym (start answers))
            (let k = agreeing answers (suc count) in ⊎_elim
            (λ (less : count < k.count). lawful_at w.areas count k.count (run_from s input answers) less k.lawful)
            (λ (within : k.count ≤ count).
            let o = k.over (omega (arith, within)) in
            subst (λ (r : Run). IsLawful w.areas r) (sym (stays_over answers (suc count) count k (omega (arith, within)) within))
            (subst (λ (m : Mode). IsLawfulIn m w.areas (ran answers k.count)) (sym o.over) tt))
            (cases_lt count k.count));
      }
