-- A call that the store answers, from the environment's call on: the machine goes on with what the store holds then, or the run is cut.
use Rattle.std.proofs.Common.{◌≡◌, ℕ, ◌+◌, ◌^◌, ◌<◌, ◌⊎◌, inl, inr, ⊎_elim, Bool, true, false, List, [], ◌∷◌, ◌++◌, Some, Ok, refl, sym, ap, subst, ◌∙◌, arith}
use Rattle.cyc_words.specs.Events as events
use Rattle.arena_laws.specs.declared.refusal.StoreRefusal.TheVariants.{Full, Memory as NoMemory}
use Rattle.arena_laws.specs.Asked.{Asked, lawfully, gives_number}
use Rattle.arena_laws.specs.Holdings.{Holdings}
use Rattle.arena_laws.specs.Lawful.{Answer, Done, refuses}
use Rattle.rv32_isa.specs.declared.instruction.Instr.TheVariants.{Ecall}
use Rattle.rv32_machine.specs.State.{State, Areas, Runs, code_base, set_register}
use Rattle.rv32_machine.specs.Step.{Stepped, Nothing, Says as Told, goes_on, concludes, asks, calls, step}
use Rattle.rv32_machine.specs.Ledger.{event_of, entered, request_of}
use Rattle.rv32_machine.specs.Implements.{IsRequested}
use Rattle.rv32_machine.proofs.Handed.{handed_does}
use Rattle.step_trees.specs.Trees.{Says}
use Rattle.core_meaning.specs.Memory.{Content, Memory}
use Rattle.core_meaning.specs.Steps.{Step, Visible}
use Rattle.core_lines.specs.declared.line.Line.{Line}
use Rattle.core_lines.specs.declared.line.Line.TheVariants.{Plain}
use Rattle.core_lines.specs.Frames.{environment_code}
use Rattle.core_lines.specs.Lies.{Maps, Activation}
use Rattle.core_lines.specs.Lines.{code_length}
use Rattle.core_lines.specs.Machines.{Machine, Store, state_of}
use Rattle.core_lines.specs.Held.{Holding, without_call, with_answer}
use Rattle.core_lines.specs.Operands.{into_code, keep_code}
use Rattle.core_lines.proofs.homes.Homes.{Stays, homes_of, set_stays, homes_on, homes_spared, Changed}
use Rattle.core_lines.proofs.memory.Relations.{World, IsInOrder, Has, Waiting, Follows, keeping, back_of, Goes}
use Rattle.core_lines.proofs.memory.Moving.{Comes, comes_then, goes_from, goes_as}
use Rattle.core_lines.proofs.Steps.{state_at}
use Rattle.core_lines.proofs.memory.Access.{length_of_both}
use Rattle.core_lines.proofs.memory.Extending.{frame_extends, stack_extends}
use Rattle.core_lines.proofs.frames.Passing.{has_first, has_second}
use Rattle.core_lines.proofs.memory.Slots.{Kept}
use Rattle.core_lines.proofs.operations.Registers.{having, AtWith, AtHolding, InRegister, IsServed, knows, set_kept}
use Rattle.core_lines.proofs.operations.Calling.{Others, argument_changes, number_changes, others_extend, argument_into, answer_kept, no_answer}
use Rattle.core_lines.proofs.Streams.{numbered, now, here, call_is, lawful_here, next_is}
use Rattle.core_lines.proofs.regions.Requests.{GoesOn, IsCutThere, granted, goes_asked, grants_on, full_there, lacks_there}

-- nothing is known of the registers
abbrev pub Free : Maps → (ℕ → ℕ) → Type 0
Free m registers = Unit {0}

-- ---- what a store makes of a call

-- the registers behind a call, where it gives a number and where it doesn't
abbrev pub registers_behind : Bool → ℕ → (ℕ → ℕ) → ℕ → ℕ
registers_behind true number registers = set_register 10 number registers
registers_behind false number registers = registers

behind_stays : (gives : Bool) (number : ℕ) (registers : ℕ → ℕ) → Stays (registers_behind gives number registers) registers
behind_stays true number registers = set_stays 9 number registers refl
behind_stays false number registers = λ q is. refl

-- they are the same but for x10
behind_kept : (gives : Bool) (number : ℕ) (registers : ℕ → ℕ) → Kept 10 (registers_behind gives number registers) registers
behind_kept true number registers = set_kept 9 number registers
behind_kept false number registers = λ q not7 other. refl

abbrev pub store_behind : Asked → ℕ → Holdings → Store → Store
store_behind asked number held st = record { holdings = held; ledger = entered asked number st.ledger }

-- it does what it is asked, with an event: what it says, what it holds then, and that another memory lies there, where something holds of the registers
pub record Carries (n : Areas) (m : Maps) (fs : List Activation) (mem mem' : Memory) (b registers : ℕ → ℕ) (st : Store) (asked : Asked) (answer : Answer)
    (e : events.Event) (Q : Maps → (ℕ → ℕ) → Type 0) : Type 0 where
  pub number : ℕ
  pub held : Holdings
  pub is : lawfully asked answer st.holdings ≡ record { says = Ok number; after = held }
  pub shows : event_of asked st.ledger ≡ e
  pub maps : Maps
  pub changed : Changed n m maps fs mem mem' b (store_behind asked number held st)
  pub holds : Q maps (registers_behind (gives_number asked) number registers)

-- or it has no room for what the event wants, or no host memory
pub record HasNoRoom (st : Store) (asked : Asked) (answer : Answer) (e : events.Event) : Type 0 where
  pub request : events.Request
  pub is : lawfully asked answer st.holdings ≡ refuses Full st.holdings
  pub requested : request_of asked st.ledger ≡ Some request
  pub wanted : IsRequested request e

abbrev pub IsRefusing : Store → Asked → Answer → events.Event → Type 0
IsRefusing st asked answer e = HasNoRoom st asked answer e ⊎ (lawfully asked answer st.holdings ≡ refuses NoMemory st.holdings)

-- ---- the call

module _ (w : World) (order : IsInOrder w) (x : Waiting) (outer : List Waiting) (mem mem' : Memory) where
  -- behind it, with other registers, memory and store, where no address and no number is lost
  behind_call : (place : ℕ) (P Q : Maps → (ℕ → ℕ) → Type 0) (s : Machine) (a : AtWith w x outer mem place P s) (m : Maps) (st : Store) (new : ℕ → ℕ)
      → Changed w.areas a.maps m (a.frame ∷ a.others) mem mem' s.bytes st → Stays new s.registers → Q m new
      → AtWith w x outer mem' (place + 4) Q (state_at (place + 4) new s.bytes st)
  behind_call place P Q s a m st new c stay holds = record {
    maps = m;
    frame = a.frame;
    others = a.others;
    sp = a.sp;
    stands = record {
      runs = refl;
      there = refl;
      aligned = (let even = a.stands.aligned in omega (arith, even));
      pointer = stay 2 refl ∙ a.stands.pointer;
      stack_start = stay 3 refl ∙ a.stands.stack_start;
      small = a.stands.small;
      kept = a.stands.kept;
      stacked = a.stands.stacked;
      fits = c.fits;
      homes = homes_on m mem' (a.frame ∷ a.others) new s.registers (homes_of new s.registers stay)
          (homes_spared a.maps mem m mem' (a.frame ∷ a.others) s.registers c.spares a.stands.homes);
      known = c.known;
      holds_blocks = c.blocks;
      data_based = λ o y e. c.spares.extends.base _ o _ (a.stands.data_based o y e);
    };
    shows = frame_extends w a.maps m x (back_of w outer) a.frame c.spares.extends a.shows;
    stack = stack_extends w a.maps m outer a.others c.spares.extends a.stack;
    holds = holds;
  }

  module _ (hs : List Holding) (number : ℕ) (small : number < 2 ^ 32) (asked : ℕ → ℕ → Asked) (e : events.Event) (P Q : Maps → (ℕ → ℕ) → Type 0)
      (calls_it : (answer : Answer) (a b : ℕ) (s : State) → calls w.areas answer number a b s ≡ asks w.areas answer (asked a b) s)
      (answered : (place : ℕ) (s : Machine) (a : AtWith w x outer mem place (λ m registers. (registers 17 ≡ number) × P m registers) s) (answer : Answer)
      → Carries w.areas a.maps (a.frame ∷ a.others) mem mem' s.bytes s.registers s.store (asked (s.registers 10) (s.registers 11)) answer e Q
      ⊎ IsRefusing s.store (asked (s.registers 10) (s.registers 11)) answer e) where
    -- the words of other temporaries stay where they are
    abbrev Sent : Maps → (ℕ → ℕ) → Type 0
    Sent m registers = P m registers × Others x hs m registers

    abbrev Answered : Maps → (ℕ → ℕ) → Type 0
    Answered m registers = Q m registers × Others x hs m registers

    module _ (place : ℕ) (has : Has w place (Plain Ecall ∷ [])) where
      abbrev Before : Machine → Type 0
      Before = AtWith w x outer mem place (λ m registers. (registers 17 ≡ number) × Sent m registers)

      abbrev After : Machine → Type 0
      After = AtWith w x outer mem' (place + 4) Answered

      -- what the store is asked, without the words of other temporaries
      abbrev alone : (s : Machine) → Before s → AtWith w x outer mem place (λ m registers. (registers 17 ≡ number) × P m registers) s
      alone s a = record {
        maps = a.maps;
        frame = a.frame;
        others = a.others;
        sp = a.sp;
        stands = a.stands;
        shows = a.shows;
        stack = a.stack;
        holds = (a.holds.0, a.holds.1.0);
      }

      module _ (s : Machine) (a : Before s) (input : List ℕ) (answers : ℕ → Answer) where
        abbrev t : Machine
        t = now w order x outer mem place has Sent number s a

        abbrev what : Asked
        what = asked (s.registers 10) (s.registers 11)

        abbrev done : Done
        done = lawfully what (answers 0) s.store.holdings

        called : step w.areas (answers 0) (state_of t) ≡ concludes what done.after done.says (state_of t)
        called = call_is w order x outer mem place has Sent number s a (answers 0) ∙ calls_it (answers 0) (s.registers 10) (s.registers 11) (state_of t)
            ∙ ap (λ (d : Done). concludes what d.after d.says (state_of t)) (handed_does w.areas order.blocks what (answers 0) s.store.holdings)

        concluded : (gives : Bool) (given : ℕ) (held : Holdings) (result : Stepped)
            → result ≡ record { shown = Nothing; told = Told what (Ok given); state = record (goes_on gives given (state_of t)) { holdings = held } }
            → result ≡ record {
              shown = Nothing;
              told = Told what (Ok given);
              state = state_of (granted t (code_base + (place + 4)) (registers_behind gives given s.registers) what given held);
            }
        concluded true given held result is = is ∙ (λ i. record {
          shown = Nothing;
          told = Told what (Ok given);
          state = record {
            pc = next_is w order x outer mem place has Sent number s a i;
            registers = registers_behind true given s.registers;
            bytes = s.bytes;
            holdings = held;
            mode = Runs;
          };
        })
        concluded false given held result is = is ∙ (λ i. record {
          shown = Nothing;
          told = Told what (Ok given);
          state = record {
            pc = next_is w order x outer mem place has Sent number s a i;
            registers = s.registers;
            bytes = s.bytes;
            holdings = held;
            mode = Runs;
          };
        })

        carried : Carries w.areas a.maps (a.frame ∷ a.others) mem mem' s.bytes s.registers s.store what (answers 0) e Q → GoesOn w.areas e t input answers After
        carried c =
            let gives = gives_number what in
            let new = registers_behind gives c.number s.registers in
            grants_on w what t input answers done called e (code_base + (place + 4)) c.number new c.held After c.is
            (concluded gives c.number c.held _ refl) c.shows
            (behind_call place (λ m registers. (registers 17 ≡ number) × Sent m registers) Answered s a c.maps (store_behind what c.number c.held s.store) new
            c.changed (behind_stays gives c.number s.registers) (
              c.holds,
              others_extend x hs a.maps c.maps new c.changed.spares.extends
                  (argument_changes x hs a.maps new s.registers (behind_kept gives c.number s.registers) a.holds.1.1),
            ))

        refused : IsRefusing s.store what (answers 0) e → IsCutThere w e t input answers
        refused (inl full) = full_there w what t input answers done called e full.request full.is full.requested full.wanted
        refused (inr lacks) = lacks_there w what t input answers done called e lacks

        store_asked : GoesOn w.areas e s input answers After ⊎ IsCutThere w e s input answers
        store_asked =
            subst (λ (q : Machine). GoesOn w.areas e q input answers After ⊎ IsCutThere w e q input answers)
            (sym (here w order x outer mem place has Sent number s a))
            (⊎_elim (λ (c : Carries w.areas a.maps (a.frame ∷ a.others) mem mem' s.bytes s.registers s.store what (answers 0) e Q). inl (carried c))
            (λ (r : IsRefusing s.store what (answers 0) e). inr (refused r)) (answered place s (alone s a) (answers 0)))

      store_goes : (most : ℕ) (active : List (List ℕ)) (rest : Step) → Goes w most rest After active → Goes w most (Says (Visible e) rest) Before active
      store_goes most active rest goes =
          goes_asked w Before After active most e rest store_asked
          (λ s a input answers. lawful_here w order x outer mem place has Sent number s a input answers) goes

    -- from code that leaves the arguments in their registers, by the call's number
    pub call_goes : (most : ℕ) (active : List (List ℕ)) (rest : Step) (place : ℕ) (first : List Line) (R : Machine → Type 0)
        → ((m : Maps) (registers : ℕ → ℕ) (v : ℕ) → P m registers → P m (set_register 17 v registers))
        → Comes w R (AtWith w x outer mem (place + code_length first) Sent) → Has w place (first ++ environment_code number)
        → Goes w most rest (AtWith w x outer mem' (place + code_length (first ++ environment_code number)) Answered) active
        → Goes w most (Says (Visible e) rest) R active
    call_goes most active rest place first R keeps comes has goes =
        let second = environment_code number in
        let middle = place + code_length first in
        let has_call = has_second w place first second has in
        let end : middle + 4 + 4 ≡ place + code_length (first ++ second) = omega (arith, length_of_both first second) in
        goes_from w R active most (Says (Visible e) rest) (Before (middle + 4) has_call.2)
        (comes_then w _ _ _ comes (numbered w order x outer mem number middle Sent small has_call
        (λ m registers v h. (keeps m registers v h.0, number_changes x hs m (set_register 17 v registers) registers (set_kept 16 v registers) h.1))))
        (store_goes (middle + 4) has_call.2 most active rest (subst (λ p. Goes w most rest (AtWith w x outer mem' p Answered) active) (sym end) goes))

module _ (w : World) (order : IsInOrder w) (x : Waiting) (outer : List Waiting) (hs : List Holding) where
  -- what the call gives is a temporary's word then, which is saved or not
  pub then_kept : (mem : Memory) (most : ℕ) (active : List (List ℕ)) (rest : Step) (t place : ℕ) (first : List Line) (v : Content) → t < x.fn.temporaries
      → (keeps : Bool) (after : List Bool) → Follows keeps (t ∷ []) x.kept after → Has w place (first ++ keep_code keeps x.fn.passed 10 t)
      → Goes w most rest (AtHolding w (keeping after (having t v x)) outer mem (place + code_length (first ++ keep_code keeps x.fn.passed 10 t))
      (with_answer t hs)) active
      → Goes w most rest (AtWith w x outer mem (place + code_length first) (λ m registers. InRegister 10 v m registers × Others x hs m registers)) active
  then_kept mem most active rest t place first v named keeps after follows has goes =
      let second = keep_code keeps x.fn.passed 10 t in
      let middle = place + code_length first in
      let end : middle + code_length second ≡ place + code_length (first ++ second) = omega (arith, length_of_both first second) in
      goes_from w _ active most rest
      (AtHolding w (keeping after (having t v x)) outer mem (place + code_length (first ++ second)) (with_answer t hs))
      (subst (λ p. Comes w (AtWith w x outer mem middle (λ m registers. InRegister 10 v m registers × Others x hs m registers))
      (AtHolding w (keeping after (having t v x)) outer mem p (with_answer t hs))) end
      (answer_kept w order x outer mem hs keeps after t middle v named follows (has_second w place first second has))) goes

  -- a call with a temporary as its argument, of whose number no more is needed
  pub passed_goes : (mem mem' : Memory) (number : ℕ) → number < 2 ^ 32 → (asked : ℕ → Asked) (e : events.Event) (v : Content)
      → ((answer : Answer) (a b : ℕ) (s : State) → calls w.areas answer number a b s ≡ asks w.areas answer (asked a) s)
      → ((place : ℕ) (s : Machine) (a : AtWith w x outer mem place (λ m registers. (registers 17 ≡ number) × InRegister 10 v m registers) s) (answer : Answer)
      → Carries w.areas a.maps (a.frame ∷ a.others) mem mem' s.bytes s.registers s.store (asked (s.registers 10)) answer e Free)
      → (most : ℕ) (active : List (List ℕ)) (rest : Step) (t place : ℕ) → t < x.fn.temporaries → IsServed w x hs t → x.config.temps t ≡ v
      → Has w place (into_code x.fn.passed hs 10 t ++ environment_code number)
      → Goes w most rest (AtHolding w x outer mem' (place + code_length (into_code x.fn.passed hs 10 t ++ environment_code number)) (without_call hs)) active
      → Goes w most (Says (Visible e) rest) (AtHolding w x outer mem place hs) active
  passed_goes mem mem' number small asked e v calls_it carries most active rest t place named served is has goes =
      let first = into_code x.fn.passed hs 10 t in
      let second = environment_code number in
      let end = place + code_length (first ++ second) in
      call_goes w order x outer mem mem' hs number small (λ a b. asked a) e (InRegister 10 v) Free calls_it (λ place s a answer. inl (carries place s a answer))
      most active rest place first (AtHolding w x outer mem place hs) (λ m registers q k. k)
      (argument_into w order x outer mem hs t place v named served is (has_first w place first second has)) has
      (goes_as w (AtWith w x outer mem' end (λ m registers. Free m registers × Others x hs m registers)) active most rest
      (AtHolding w x outer mem' end (without_call hs))
      (λ s a. no_answer w order x outer mem' hs end s
      (knows w order x outer mem' end (λ m registers. Free m registers × Others x hs m registers) (Others x hs) s (λ m registers h. h.1) a)) goes)
