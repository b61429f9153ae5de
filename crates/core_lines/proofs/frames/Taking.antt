-- The parameters of a function that is entered: their words come from the caller's frame into their registers, and into the slots of those that are loaded
-- later.
use Rattle.std.specs.Prelude.{nat_eq, ◌||◌, length, slice_get, if◌then◌else◌}
use Rattle.std.proofs.Common.{
  ◌≡◌,
  ℕ,
  zero,
  suc,
  ◌+◌,
  ◌*◌,
  ◌/◌,
  ◌%◌,
  ◌^◌,
  ◌<◌,
  ◌≤◌,
  ◌⊎◌,
  inl,
  inr,
  ⊎_elim,
  Bool,
  true,
  false,
  List,
  [],
  ◌∷◌,
  ◌++◌,
  Option,
  Some,
  None,
  refl,
  sym,
  ap,
  ◌∙◌,
  subst,
  arith,
  append_assoc,
  append-nil,
  length-append,
}
use Rattle.std.proofs.lemmas.Bool.{ne_eqb, eq-eqb, eqb-true}
use Rattle.std.proofs.lemmas.Option.{none-some}
use Rattle.core_meaning.specs.Memory.{Content, Blank, Memory}
use Rattle.core_meaning.specs.Core.{Function}
use Rattle.core_meaning.specs.Steps.{set_temp}
use Rattle.core_meaning.specs.Meaning.{passed_in}
use Rattle.core_lines.specs.Machines.{Machine}
use Rattle.core_lines.specs.Lines.{code_length}
use Rattle.core_lines.specs.Frames.{load_code, save_code, slot_of}
use Rattle.core_lines.specs.Held.{Register, Holding, without_register, with_put, with_taken}
use Rattle.core_lines.specs.Homes.{is_home, stays, is_among, saved_by, flag_at}
use Rattle.core_lines.specs.Operands.{keep_code, take_code}
use Rattle.core_lines.specs.Lies.{Maps, Activation, SlotsLie, Stacked}
use Rattle.core_lines.proofs.memory.Relations.{
  Phase,
  Inside,
  World,
  IsInOrder,
  Has,
  Waiting,
  Follows,
  slots_in,
  back_of,
  FrameShows,
  StackShows,
  Stands,
  Passed,
}
use Rattle.core_lines.proofs.memory.Moving.{Comes, comes_as}
use Rattle.core_lines.proofs.memory.Slots.{Kept}
use Rattle.core_lines.proofs.Steps.{state_at}
use Rattle.core_lines.proofs.memory.Fitting.{with_slot}
use Rattle.core_lines.proofs.memory.Access.{behind, reads, stands_behind, saves}
use Rattle.core_lines.proofs.homes.Homes.{other_home, no_home, kept_stays}
use Rattle.core_lines.proofs.frames.Begun.{with_call}
use Rattle.core_lines.proofs.frames.Passing.{has_first, has_second, frame_set, frame_unkept}
use Rattle.core_lines.proofs.operations.Holding.{
  is_spare,
  spare_apart,
  InRegister,
  register_stays,
  AreThere,
  there_kept,
  there_without,
  there_source,
}
use Rattle.core_lines.proofs.operations.Standing.{in_turn}

passed_in_more : (done : List Content) (v : Content) → passed_in (done ++ v ∷ []) ≡ set_temp (length done) v (passed_in done)
passed_in_more done v = λ i t. at done t i
  where
    at : (done : List Content) (t : ℕ) → passed_in (done ++ v ∷ []) t ≡ (if nat_eq t (length done) then v else passed_in done t)
    at [] zero = refl
    at [] (suc t) = sym (ap (λ c. if c then v else Blank) (ne_eqb (suc t) 0 (λ e. omega (arith, e))))
    at (u ∷ us) zero = sym (ap (λ c. if c then v else u) (ne_eqb 0 (suc (length us)) (λ e. omega (arith, e))))
    at (u ∷ us) (suc t) = at us t ∙ ap (λ c. if c then v else passed_in us t) (by (nat_eq t (length us)) refl)
      where
        by : (c : Bool) → nat_eq t (length us) ≡ c → nat_eq t (length us) ≡ nat_eq (suc t) (suc (length us))
        by true e = e ∙ sym (eq-eqb (suc t) (suc (length us)) (ap suc (Rattle.std.proofs.lemmas.Bool.eqb-true t (length us) e)))
        by false e = e ∙ sym (ne_eqb (suc t) (suc (length us)) (λ q. Rattle.std.proofs.lemmas.Bool.eqb-false t (length us) e (omega (arith, q))))

-- what the caller has put into a slot
record Argument (k : ℕ) (v : Content) (fs : List Activation) : Type 0 where
  pub caller : Activation
  pub others : List Activation
  pub are : fs ≡ caller ∷ others
  pub value : caller.slots (1 + k) ≡ v
  pub within : 1 + k < caller.size

argument : (j : ℕ) (done rest : List Content) (v : Content) (fs : List Activation) → Passed j (done ++ v ∷ rest) fs → Argument (j + length done) v fs
argument j [] rest v [] p = absurd p
argument j [] rest v (a ∷ fs) p =
    let e : j ≡ j + 0 = omega arith in
    record { caller = a; others = fs; are = refl; value = subst (λ q. a.slots (1 + q) ≡ v) e p.0; within = subst (λ q. 1 + q < a.size) e p.1 }
argument j (u ∷ us) rest v [] p = absurd p
argument j (u ∷ us) rest v (a ∷ fs) p =
    let e : j + 1 + length us ≡ j + length (u ∷ us) = omega arith in
    subst (λ q. Argument q v (a ∷ fs)) e (argument (j + 1) us rest v (a ∷ fs) p.2)

-- what is flagged stays so, where just what is flagged is saved
pub follows_same : (keeps : Bool) (t : ℕ) (flags : List Bool) → flag_at flags t ≡ keeps → Follows keeps (t ∷ []) flags flags
follows_same keeps t flags is u kept = by (nat_eq u t) refl
  where
    by : (c : Bool) → nat_eq u t ≡ c
        → (((nat_eq u t || false) ≡ true) × (keeps ≡ true)) ⊎ (((nat_eq u t || false) ≡ false) × (flag_at flags u ≡ true))
    by true e = inl (ap (λ c. c || false) e, sym is ∙ ap (flag_at flags) (sym (eqb-true u t e)) ∙ kept)
    by false e = inr (ap (λ c. c || false) e, kept)

-- A register may get a parameter: no code keeps words in it but for temporaries, or it is the home of a local, and the function has saved what it had.
abbrev pub MayTake : Function → ℕ → Type 0
MayTake fn r = (is_spare r ≡ false) × ((stays r ≡ false) ⊎ ((is_home r ≡ true) × (is_among r (saved_by fn) ≡ true)))

no_homes : (home : Option ℕ) → ((q : ℕ) → home ≡ Some q → ⊥) → home ≡ None
no_homes None none = refl
no_homes (Some q) none = absurd (none q refl)

-- another word of a register doesn't matter where no local is in a register, and this one was saved
module _ (w : World) (order : IsInOrder w) (mem : Memory) (place : ℕ) (m : Maps) (a : Activation) (fs : List Activation) (sp : ℕ) (s : Machine)
    (stands : Stands w mem place m (a ∷ fs) sp sp s) (none : (k o : ℕ) → a.homes k o ≡ None) where
  into_home : (place' r : ℕ) (new : ℕ → ℕ) → place' % 4 ≡ 0 → is_home r ≡ true → a.saves r ≡ true → new r < 2 ^ 32 → Kept r new s.registers
      → Stands w mem place' m (a ∷ fs) sp sp (state_at place' new s.bytes s.store)
  into_home place' r new aligned home saved below kept =
      let h = stands.homes.0 in
      let same : (q : ℕ) → is_home q ≡ true → nat_eq q r ≡ false → new q ≡ s.registers q = λ q is other. kept q (other_home 7 q refl is) other in
      record {
        runs = refl;
        there = refl;
        aligned = aligned;
        pointer = kept 2 refl (no_home 2 r refl home) ∙ stands.pointer;
        stack_start = kept 3 refl (no_home 3 r refl home) ∙ stands.stack_start;
        small = stands.small;
        kept = stands.kept;
        stacked = stands.stacked;
        fits = stands.fits;
        homes = (
          record {
            small = λ q is. small_on q (nat_eq q r) refl (same q is) (h.small q is);
            lie = λ j o q e. absurd (none-some q (sym (none j o) ∙ e));
            apart = h.apart;
            saved = h.saved;
            others = λ q is not. same q is (unsaved q (nat_eq q r) refl not) ∙ h.others q is not;
          },
          stands.homes.1,
          stands.homes.2,
        );
        known = stands.known;
        holds_blocks = stands.holds_blocks;
        data_based = stands.data_based;
      }
    where
      small_on : (q : ℕ) (c : Bool) → nat_eq q r ≡ c → (nat_eq q r ≡ false → new q ≡ s.registers q) → s.registers q < 2 ^ 32 → new q < 2 ^ 32
      small_on q true e same before = subst (λ (i : ℕ). new i < 2 ^ 32) (sym (eqb-true q r e)) below
      small_on q false e same before = subst (λ v. v < 2 ^ 32) (sym (same e)) before

      unsaved : (q : ℕ) (c : Bool) → nat_eq q r ≡ c → a.saves q ≡ false → nat_eq q r ≡ false
      unsaved q true e not = absurd (cc (saved, not, ap a.saves (eqb-true q r e)))
      unsaved q false e not = e

  -- of any register that may get a parameter
  stands_taken : (fn : Function) (place' r : ℕ) (new : ℕ → ℕ) → place' % 4 ≡ 0 → MayTake fn r → a.saves r ≡ is_among r (saved_by fn) → new r < 2 ^ 32
      → Kept r new s.registers → Stands w mem place' m (a ∷ fs) sp sp (state_at place' new s.bytes s.store)
  stands_taken fn place' r new aligned may changed below kept = ⊎_elim
      (λ (free : stays r ≡ false).
      stands_behind w order mem place m (a ∷ fs) sp s stands place' new aligned (kept_stays r new s.registers free kept))
      (λ (home : (is_home r ≡ true) × (is_among r (saved_by fn) ≡ true)). into_home place' r new aligned home.0 (changed ∙ home.1) below kept)
      may.1

module _ (w : World) (order : IsInOrder w) (f : ℕ) (fn : Function) (is : slice_get w.functions f ≡ Some fn) (outer : List Waiting) (mem : Memory)
    (arguments : List Content) (start : List Bool) where
  abbrev size : ℕ
  size = w.frame_bytes f

  -- the activation, with some of its parameters; its slots show the words of those temporaries that are loaded from them
  abbrev pub staged : Phase → List Content → Waiting
  staged phase done = record {
    function = f;
    fn = fn;
    phase = phase;
    nest = [];
    unnamed = [];
    own_high = 4 * slots_in fn;
    config = record { temps = passed_in done; blocks = []; own = mem.calls; memory = with_call mem };
    kept = start;
    behind = 0;
  }

  abbrev pub callee : List Content → Waiting
  callee done = staged Inside done

  -- some parameters have been taken, and this is known of addresses and registers
  pub record Taking (done : List Content) (P : Maps → (ℕ → ℕ) → Type 0) (place : ℕ) (s : Machine) : Type 0 where
    pub maps : Maps
    pub frame : Activation
    pub others : List Activation
    pub sp : ℕ
    pub stands : Stands w (with_call mem) place maps (frame ∷ others) sp sp s
    pub shows : FrameShows w maps (callee done) (back_of w outer) frame
    pub stack : StackShows w maps outer others
    pub passed : Passed 0 arguments others
    pub holds : P maps s.registers

  -- those that have been taken are where they are known to be
  abbrev pub Taken : List Content → List Holding → ℕ → Machine → Type 0
  Taken done hs = Taking done (AreThere hs (passed_in done))

  module _ (index : ℕ → ℕ) (may : (k : ℕ) → MayTake fn (suc (index k))) where
    -- the register of a parameter
    abbrev taken_into : ℕ → ℕ
    taken_into k = suc (index k)

    -- the next one is in its register
    abbrev Next : List Content → Content → List Holding → Maps → (ℕ → ℕ) → Type 0
    Next done v hs m registers =
        InRegister (taken_into (length done)) v m registers
        × AreThere (without_register (taken_into (length done)) hs) (passed_in done) m registers

    load_one : (done rest : List Content) (v : Content) (hs : List Holding) (place : ℕ) → arguments ≡ done ++ v ∷ rest
        → Has w place (load_code (taken_into (length done)) (size / 4 + 1 + length done))
        → Comes w (Taken done hs place)
        (Taking done (Next done v hs) (place + code_length (load_code (taken_into (length done)) (size / 4 + 1 + length done))))
    load_one done rest v hs place are has =
        let k = length done in
        let lines = load_code (taken_into k) (size / 4 + 1 + k) in
        record {
          count = code_length lines / 4;
          by = λ s r.
              let plain : 0 + length done ≡ length done = omega arith in
              let arg : Argument k v r.others = subst (λ q. Argument q v r.others) plain
              (argument 0 done rest v r.others (subst (λ vs. Passed 0 vs r.others) are r.passed)) in
              let bytes = r.shows.bytes in
              let here = r.stands.stacked.0.there in
              let next = subst (λ gs. Stacked w.areas (r.frame.at + r.frame.bytes) gs) arg.are r.stands.stacked.1 in
              let caller_at = next.0.there in
              let even = order.even f in
              let lies : SlotsLie (r.frame ∷ r.others) 1 (1 + k) (r.sp + 4 * (size / 4 + 1 + k)) 4 v =
              subst (λ gs. SlotsLie (r.frame ∷ gs) 1 (1 + k) (r.sp + 4 * (size / 4 + 1 + k)) 4 v) (sym arg.are) (record {
                within = omega (arith, arg.within);
                there = omega (arith, caller_at, here, bytes, even);
                wide = refl;
                value = arg.value;
              }) in
              let l = reads w order (with_call mem) place r.maps (r.frame ∷ r.others) r.sp s r.stands 1 (1 + k) (size / 4 + 1 + k) (index k) v lies has in
              let place' = place + code_length lines in
              let aligned = behind place lines r.stands.aligned in
              record {
                next = state_at place' l.new s.bytes s.store;
                moves = l.moves;
                there = record {
                  maps = r.maps;
                  frame = r.frame;
                  others = r.others;
                  sp = r.sp;
                  stands = stands_taken w order (with_call mem) place r.maps r.frame r.others r.sp s r.stands
                      (λ j o. no_homes (r.frame.homes j o) (λ q e. r.shows.homes.1 j o q e)) fn place' (taken_into k) l.new aligned (may k)
                      (r.shows.changed (taken_into k)) l.below l.kept;
                  shows = r.shows;
                  stack = r.stack;
                  passed = r.passed;
                  holds = ((l.holds, l.below), there_without (index k) hs (passed_in done) r.maps l.new s.registers l.kept r.holds);
                };
              };
        }

    -- it is saved, or not
    save_one : (done : List Content) (v : Content) (hs : List Holding) (place : ℕ) → length done < fn.temporaries
        → Has w place (keep_code (flag_at start (length done)) fn.passed (taken_into (length done)) (length done))
        → Comes w (Taking done (Next done v hs) place) (Taken (done ++ v ∷ []) (with_put false (length done) (taken_into (length done)) hs)
        (place + code_length (keep_code (flag_at start (length done)) fn.passed (taken_into (length done)) (length done))))
    save_one done v hs place less has = by (flag_at start (length done)) refl has
      where
        others : List Holding
        others = without_register (taken_into (length done)) hs

        not7 : nat_eq (taken_into (length done)) 7 ≡ false
        not7 = spare_apart (taken_into (length done)) 7 (may (length done)).0 refl

        stable : (m : Maps) (new old : ℕ → ℕ) → Kept 7 new old → Next done v hs m old → Next done v hs m new
        stable m new old kept h = (
          register_stays (taken_into (length done)) 7 v m new old kept not7 not7 h.0,
          there_kept 6 others (passed_in done) refl m new old kept h.1,
        )

        known : (m : Maps) (registers : ℕ → ℕ) → Next done v hs m registers
            → AreThere (with_put false (length done) (taken_into (length done)) hs) (passed_in (done ++ v ∷ [])) m registers
        known m registers h = subst
            (λ temps. AreThere (with_put false (length done) (taken_into (length done)) hs) temps m registers) (sym (passed_in_more done v))
            (there_source (length done) v (Register (taken_into (length done))) others (passed_in done) m registers (h.0, (may (length done)).0) h.1)

        shown : (m : Maps) (a : Activation)
            → FrameShows w m (record (callee done) { config = record (callee done).config { temps = set_temp (length done) v (passed_in done) } })
            (back_of w outer) a
            → FrameShows w m (callee (done ++ v ∷ [])) (back_of w outer) a
        shown m a shows = subst (λ temps. FrameShows w m (record (callee done) { config = record (callee done).config { temps = temps } }) (back_of w outer) a)
            (sym (passed_in_more done v)) shows

        by : (keeps : Bool) → flag_at start (length done) ≡ keeps → Has w place (keep_code keeps fn.passed (taken_into (length done)) (length done))
            → Comes w (Taking done (Next done v hs) place) (Taken (done ++ v ∷ []) (with_put false (length done) (taken_into (length done)) hs)
            (place + code_length (keep_code keeps fn.passed (taken_into (length done)) (length done))))
        by true is has =
            let k = length done in
            let lines = save_code (taken_into k) (slot_of fn.passed k) in
            record {
              count = code_length lines / 4;
              by = λ s r.
                  let own = r.shows.size in
                  let q = saves w order (with_call mem) place r.maps r.frame r.others r.sp s r.stands (slot_of fn.passed k) (index k) v
                  (omega (arith, own, less)) not7 r.holds.0.0 r.holds.0.1 has in
                  record {
                    next = state_at (place + code_length lines) q.new q.bytes s.store;
                    moves = q.moves;
                    there = record {
                      maps = r.maps;
                      frame = with_slot (slot_of fn.passed k) v r.frame;
                      others = r.others;
                      sp = r.sp;
                      stands = q.stands_on;
                      shows = shown r.maps (with_slot (slot_of fn.passed k) v r.frame)
                          (frame_set w r.maps (callee done) (back_of w outer) r.frame k v start less (follows_same true k start is) r.shows);
                      stack = r.stack;
                      passed = r.passed;
                      holds = known r.maps q.new (stable r.maps q.new s.registers q.kept r.holds);
                    };
                  };
            }
        by false is has =
            let e : place ≡ place + 0 = omega arith in
            comes_as w _ _ (λ s r. subst (λ p. Taken (done ++ v ∷ []) (with_put false (length done) (taken_into (length done)) hs) p s) e (record {
              maps = r.maps;
              frame = r.frame;
              others = r.others;
              sp = r.sp;
              stands = r.stands;
              shows = shown r.maps r.frame
                  (frame_unkept w r.maps (callee done) (back_of w outer) r.frame (length done) v start (follows_same false (length done) start is) r.shows);
              stack = r.stack;
              passed = r.passed;
              holds = known r.maps s.registers r.holds;
            }))

    pub takes : (done rest : List Content) (hs : List Holding) (place : ℕ) → arguments ≡ done ++ rest → length arguments ≤ fn.temporaries
        → Has w place (take_code size fn.passed start taken_into (length done) (length rest))
        → Comes w (Taken done hs place) (Taken arguments (with_taken taken_into (length done) (length rest) hs)
        (place + code_length (take_code size fn.passed start taken_into (length done) (length rest))))
    takes done [] hs place are less has =
        let e : place ≡ place + 0 = omega arith in
        comes_as w _ _ (λ s r. subst (λ vs. Taken vs hs (place + 0) s) (sym (are ∙ append-nil done)) (subst (λ p. Taken done hs p s) e r))
    takes done (v ∷ rest) hs place are less has =
        let k = length done in
        let first = load_code (taken_into k) (size / 4 + 1 + k) in
        let second = keep_code (flag_at start k) fn.passed (taken_into k) k in
        let others = take_code size fn.passed start taken_into (k + 1) (length rest) in
        let more = done ++ v ∷ [] in
        let next = with_put false k (taken_into k) hs in
        let longer : length more ≡ k + 1 = length-append done (v ∷ []) in
        let longer' : length more ≡ suc k = omega (arith, longer) in
        let all : length arguments ≡ k + length (v ∷ rest) = ap (λ vs. length vs) are ∙ length-append done (v ∷ rest) in
        let middle = place + code_length (first ++ second) in
        let has_both = has_first w place (first ++ second) others has in
        let has_others = subst (λ q. Has w middle (take_code size fn.passed start taken_into q (length rest))) (sym longer)
        (has_second w place (first ++ second) others has) in
        let on : Comes w (Taken more next middle) (Taken arguments (with_taken taken_into (suc k) (length rest) next) (middle + code_length others)) =
        subst (λ q. Comes w (Taken more next middle) (Taken arguments (with_taken taken_into q (length rest) next) (middle + code_length others))) longer'
        (subst (λ q. Comes w (Taken more next middle) (Taken arguments (with_taken taken_into (length more) (length rest) next)
        (middle + code_length (take_code size fn.passed start taken_into q (length rest))))) longer
        (takes more rest next middle (are ∙ sym (append_assoc done (v ∷ []) rest)) less has_others)) in
        in_turn w (Taken done hs place) (Taken more next) (Taken arguments (with_taken taken_into (suc k) (length rest) next)) place (first ++ second) others
        (in_turn w (Taken done hs place) (Taking done (Next done v hs)) (Taken more next) place first second
        (load_one done rest v hs place are (has_first w place first second has_both))
        (save_one done v hs (place + code_length first) (omega (arith, all, less)) (has_second w place first second has_both)))
        on
