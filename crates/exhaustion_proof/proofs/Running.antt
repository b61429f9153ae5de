-- Along a run over a store that is exact, the count by births follows the store, what was granted wasn't refused by it, and what was refused was.
use Rattle.std.proofs.Common.{◌≡◌, ℕ, zero, suc, Bool, true, false, List, [], ◌∷◌, ◌++◌, Option, Some, None, Result, Ok, Err, refl, sym, ap, subst, ◌∙◌, arith}
use Rattle.cyc_words.specs.Events.{Event, ByteRead, ByteWritten, Request, NewRegion, BlockIn, UniqueBlock, NewKey}
use Rattle.arena_laws.specs.declared.refusal.StoreRefusal.{StoreRefusal}
use Rattle.arena_laws.specs.declared.refusal.StoreRefusal.TheVariants.{Full, BadHandle, NotABlock, BadKey, Open, NotOpen, Memory}
use Rattle.arena_laws.specs.Counts.{block_limit}
use Rattle.arena_laws.specs.Holdings.{fresh}
use Rattle.arena_laws.specs.Lawful.{Answer, Done}
use Rattle.arena_laws.specs.Asked.{Asked, RegionNew, RegionAlloc, RegionFree, UniqueAlloc, UniqueFree, KeyNew, KeyOpen, KeyClose, KeyFree, lawfully, is_short}
use Rattle.arena_laws.specs.Pages.{ByBirth, unborn, counted, is_refused}
use Rattle.arena_laws.specs.Calls.{Names, no_names}
use Rattle.rv32_machine.specs.State.{State, Areas, Stop, Over}
use Rattle.rv32_machine.specs.Step.{Stepped, Shown, Nothing, Writes, Asks, Stops, Told, Silent, Says, step, given, waits, concludes, stop_by}
use Rattle.rv32_machine.specs.Ledger.{Ledger, event_of, entered, request_of}
use Rattle.rv32_machine.specs.Ledger as ledger
use Rattle.rv32_machine.specs.Run.{Run, answer_from, refused_by, after_call, after_step, run_step, run_steps, from}
use Rattle.rv32_machine.specs.Shortage.{IsShortage, asked_at, is_exhausted}
use Rattle.rv32_machine.specs.Implements.{IsRequested}
use Rattle.rv32_machine.proofs.Handed.{handed_does, handed_short}
use Rattle.rv32_machine.proofs.LongerRuns.{over_steps}
use Rattle.exhaustion_proof.specs.Room.{asked, counted_if, counts_after, refused_if}
use Rattle.exhaustion_proof.specs.Laws.{AreExact}
use Rattle.exhaustion_proof.proofs.Quiet.{DoesAsked, step_does}
use Rattle.exhaustion_proof.proofs.Kept.{refusal_keeps}
use Rattle.exhaustion_proof.proofs.Counted.{request, asked_is, Stands, fresh_stands, GoesOn, goes_on, is_refused_too}

-- ---- lists of events

-- none of these events is refused by the count, each after those before it
abbrev pub AreGranted : List Event → ByBirth → Type 0
AreGranted [] b = Unit {0}
AreGranted (e ∷ es) b = (refused_if (asked e) b ≡ false) × AreGranted es (counted_if (asked e) b)

counts_and : (es : List Event) (e : Event) (b : ByBirth) → counts_after (es ++ e ∷ []) b ≡ counted_if (asked e) (counts_after es b)
counts_and [] e b = refl
counts_and (x ∷ es) e b = counts_and es e (counted_if (asked x) b)

granted_and : (es : List Event) (e : Event) (b : ByBirth) → AreGranted es b → refused_if (asked e) (counts_after es b) ≡ false → AreGranted (es ++ e ∷ []) b
granted_and [] e b all one = (one, tt)
granted_and (x ∷ es) e b (first, all) one = (first, granted_and es e (counted_if (asked x) b) all one)

pub granted_there : (es : List Event) (e : Event) (others : List Event) (b : ByBirth) → AreGranted (es ++ e ∷ others) b
    → refused_if (asked e) (counts_after es b) ≡ false
granted_there [] e others b (one, all) = one
granted_there (x ∷ es) e others b (first, all) = granted_there es e others (counted_if (asked x) b) all

-- ---- what is kept along a run

abbrev pub count_of : ℕ → Run → ByBirth
count_of pages r = counts_after r.events (unborn pages)

pub record Kept (pages : ℕ) (r : Run) : Type 0 where
  pub names : Names
  pub stands : Stands names (count_of pages r) r.state.holdings r.ledger
  pub granted : AreGranted r.events (unborn pages)
  -- what was refused is refused by the count, and the run is over
  pub refused : (q : Request) → r.refused ≡ Some q → (e : Event) → IsRequested q e → refused_if (asked e) (count_of pages r) ≡ true
  pub over : (q : Request) → r.refused ≡ Some q → r.state.mode ≡ Over Stop.Exhausted

pub starts_kept : (pages : ℕ) (s : State) (input : List ℕ) (answers : ℕ → Answer) → s.holdings ≡ fresh pages → Kept pages (from s input answers)
starts_kept pages s input answers is = record {
  names = no_names;
  stands = subst (λ h. Stands no_names (unborn pages) h ledger.unborn) (sym is) (fresh_stands pages);
  granted = tt;
  refused = λ q e. absurd cc;
  over = λ q e. absurd cc;
}

module _ (pages : ℕ) (r : Run) (kept : Kept pages r) (none : r.refused ≡ None) where
  not_refused : {A : Type 0} (q : Request) → r.refused ≡ Some q → A
  not_refused q e = absurd (let z : None ≡ Some q = sym none ∙ e in cc)

  -- ---- a step that asks the store for nothing

  state_kept : (t : State) → t.holdings ≡ r.state.holdings → Kept pages (record r { state = t })
  state_kept t same = record {
    names = kept.names;
    stands = subst (λ h. Stands kept.names (count_of pages r) h r.ledger) (sym same) kept.stands;
    granted = kept.granted;
    refused = λ q e. not_refused q e;
    over = λ q e. not_refused q e;
  }

  event_kept : (t : State) (input : List ℕ) (e : Event) → t.holdings ≡ r.state.holdings → asked e ≡ None
      → Kept pages (record r { state = t; input = input; events = r.events ++ e ∷ [] })
  event_kept t input e same quiet =
      let more : counts_after (r.events ++ e ∷ []) (unborn pages) ≡ count_of pages r =
      counts_and r.events e (unborn pages) ∙ ap (λ q. counted_if q (count_of pages r)) quiet in
      record {
        names = kept.names;
        stands = subst (λ b. Stands kept.names b t.holdings r.ledger) (sym more)
            (subst (λ h. Stands kept.names (count_of pages r) h r.ledger) (sym same) kept.stands);
        granted = granted_and r.events e (unborn pages) kept.granted (ap (λ q. refused_if q (count_of pages r)) quiet);
        refused = λ q f. not_refused q f;
        over = λ q f. not_refused q f;
      }

  given_same : (b : Option ℕ) (t : State) → (given b t).holdings ≡ t.holdings
  given_same b t = by (waits t.mode) refl
    where
      by : (w : Bool) → waits t.mode ≡ w → (given b t).holdings ≡ t.holdings
      by true e = rw e refl
      by false e = rw e refl

  answer_kept : (input : List ℕ) (t : State) → r.input ≡ input → t.holdings ≡ r.state.holdings → Kept pages (answer_from input r t)
  answer_kept [] t is same = event_kept (given None t) r.input (ByteRead None) (given_same None t ∙ same) refl
  answer_kept (byte ∷ rest) t is same = event_kept (given (Some byte) t) rest (ByteRead (Some byte)) (given_same (Some byte) t ∙ same) refl

  quiet_shown : (shown : Shown) (t : State) → t.holdings ≡ r.state.holdings → Kept pages (after_step r (record { shown = shown; told = Silent; state = t }))
  quiet_shown Nothing t same = state_kept t same
  quiet_shown (Writes byte) t same = event_kept t r.input (ByteWritten byte) same refl
  quiet_shown Asks t same = answer_kept r.input t refl same
  quiet_shown (Stops why) t same = state_kept t same

  -- ---- a call of the store

  called_kept : (a : Asked) (n : ℕ) (t : State) → GoesOn (count_of pages r) r.ledger a n t.holdings
      → Kept pages (after_call (Says a (Ok n)) r t)
  called_kept a n t goes =
      let e = event_of a r.ledger in
      let q = asked_is a r.ledger in
      let more : counts_after (r.events ++ e ∷ []) (unborn pages) ≡ counted (request a r.ledger) (count_of pages r) =
      counts_and r.events e (unborn pages) ∙ ap (λ o. counted_if o (count_of pages r)) q in
      record {
        names = goes.names;
        stands = subst (λ b. Stands goes.names b t.holdings (entered a n r.ledger)) (sym more) goes.stands;
        granted = granted_and r.events e (unborn pages) kept.granted (ap (λ o. refused_if o (count_of pages r)) q ∙ goes.not_refused);
        refused = λ w f. not_refused w f;
        over = λ w f. not_refused w f;
      }

  -- the event of a request that the count refuses
  wanted : (a : Asked) → is_refused (request a r.ledger) (count_of pages r).counts ≡ true → (q : Request) → request_of a r.ledger ≡ Some q → (e : Event)
      → IsRequested q e → refused_if (asked e) (count_of pages r) ≡ true
  wanted RegionNew short q is e of =
      let z : NewRegion ≡ q = cc in
      let w : IsRequested NewRegion e = subst (λ k. IsRequested k e) (sym z) of in ap (λ x. refused_if (asked x) (count_of pages r)) w.1 ∙ short
  wanted (RegionAlloc h bytes) short q is e of =
      let z : BlockIn (r.ledger.birth_of h) bytes ≡ q = cc in
      let w : IsRequested (BlockIn (r.ledger.birth_of h) bytes) e = subst (λ k. IsRequested k e) (sym z) of in
      ap (λ x. refused_if (asked x) (count_of pages r)) w ∙ short
  wanted (UniqueAlloc bytes) short q is e of =
      let z : UniqueBlock bytes ≡ q = cc in
      let w : IsRequested (UniqueBlock bytes) e = subst (λ k. IsRequested k e) (sym z) of in ap (λ x. refused_if (asked x) (count_of pages r)) w.1 ∙ short
  wanted KeyNew short q is e of =
      let z : NewKey ≡ q = cc in
      let w : IsRequested NewKey e = subst (λ k. IsRequested k e) (sym z) of in ap (λ x. refused_if (asked x) (count_of pages r)) w.1 ∙ short
  wanted (RegionFree h) short q is e of = absurd cc
  wanted (UniqueFree at) short q is e of = absurd cc
  wanted (KeyOpen k) short q is e of = absurd cc
  wanted (KeyClose k) short q is e of = absurd cc
  wanted (KeyFree k) short q is e of = absurd cc

  refused_kept : (a : Asked) (why : StoreRefusal) (t : State) → t.holdings ≡ r.state.holdings → t.mode ≡ Over (stop_by why)
      → (why ≡ Full → is_refused (request a r.ledger) (count_of pages r).counts ≡ true) → Kept pages (after_call (Says a (Err why)) r t)
  refused_kept a why t same over short = record {
    names = kept.names;
    stands = subst (λ h. Stands kept.names (count_of pages r) h r.ledger) (sym same) kept.stands;
    granted = kept.granted;
    refused = λ q e x of. wanted a (short (full why q e)) q (asked_for why q e) x of;
    over = λ q e. over ∙ ap (λ w. Over (stop_by w)) (full why q e);
  }
    where
      full : (w : StoreRefusal) (q : Request) → refused_by a w r.ledger ≡ Some q → w ≡ Full
      full Full q e = refl
      full BadHandle q e = absurd cc
      full NotABlock q e = absurd cc
      full BadKey q e = absurd cc
      full Open q e = absurd cc
      full NotOpen q e = absurd cc
      full Memory q e = absurd cc

      asked_for : (w : StoreRefusal) (q : Request) → refused_by a w r.ledger ≡ Some q → request_of a r.ledger ≡ Some q
      asked_for Full q e = e
      asked_for BadHandle q e = absurd cc
      asked_for NotABlock q e = absurd cc
      asked_for BadKey q e = absurd cc
      asked_for Open q e = absurd cc
      asked_for NotOpen q e = absurd cc
      asked_for Memory q e = absurd cc

  said_kept : (a : Asked) (answer : Answer) (said : Result ℕ StoreRefusal) → (lawfully a answer r.state.holdings).says ≡ said
      → is_exhausted (concludes a (lawfully a answer r.state.holdings).after said r.state).shown ≡ is_short a r.state.holdings
      → Kept pages (after_step r (concludes a (lawfully a answer r.state.holdings).after said r.state))
  said_kept a answer (Ok n) says exact =
      called_kept a n (concludes a (lawfully a answer r.state.holdings).after (Ok n) r.state).state
      (goes_on kept.names (count_of pages r) r.state.holdings r.ledger kept.stands a answer n says (sym exact))
  said_kept a answer (Err why) says exact =
      refused_kept a why (concludes a (lawfully a answer r.state.holdings).after (Err why) r.state).state
      (refusal_keeps r.state.holdings why a answer says) refl
      (λ is. is_refused_too kept.names (count_of pages r) r.state.holdings r.ledger kept.stands a
      (sym exact ∙ ap (λ w. is_exhausted (Stops (stop_by w))) is))

  -- a step, by what it asks: what is handed to the store is as good as that
  module _ (n : Areas) (limit : n.block_limit ≡ block_limit) where
    by_asked : (o : Option Asked) (x : Stepped) (answer : Answer) → DoesAsked n o answer r.state x → IsShortage n o r.state.holdings x.shown
        → Kept pages (after_step r x)
    by_asked None x answer does exact =
        subst (λ (t : Told). Kept pages (after_step r (record x { told = t }))) (sym does.0) (quiet_shown x.shown x.state does.1)
    by_asked (Some a) x answer does exact =
        let same = does ∙ ap (λ (d : Done). concludes a d.after d.says r.state) (handed_does n limit a answer r.state.holdings) in
        subst (λ y. Kept pages (after_step r y)) (sym same)
        (said_kept a answer (lawfully a answer r.state.holdings).says refl
        (subst (λ (y : Stepped). is_exhausted y.shown ≡ is_short a r.state.holdings) same (exact ∙ handed_short n limit a r.state.holdings)))

module _ (pages : ℕ) (n : Areas) (limit : n.block_limit ≡ block_limit) where
  step_kept : (r : Run) → Kept pages r → IsShortage n (asked_at n r.state) r.state.holdings (step n (r.answers 0) r.state).shown → Kept pages (run_step n r)
  step_kept r kept exact = by r.refused refl
    where
      by : (o : Option Request) → r.refused ≡ o → Kept pages (run_step n r)
      by None none = by_asked pages r kept none n limit (asked_at n r.state) (step n (r.answers 0) r.state) (r.answers 0)
          (step_does n (r.answers 0) r.state) exact
      by (Some q) some = subst (Kept pages) (sym (over_steps n 1 r Stop.Exhausted (kept.over q some))) kept

  -- after so many steps
  pub steps_kept : (count : ℕ) (r : Run) → Kept pages r → AreExact n count r → Kept pages (run_steps n count r)
  steps_kept zero r kept exact = kept
  steps_kept (suc count) r kept exact =
      steps_kept count (run_step n r) (step_kept r kept (exact 0 (omega arith))) (λ k less. exact (suc k) (omega (arith, less)))
