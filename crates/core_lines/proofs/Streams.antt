-- What the code of `putchar` and `getchar` does: each shows its event, and pays a unit.
use Rattle.std.proofs.Common.{◌≡◌, ℕ, zero, suc, pos, ◌+◌, ◌%◌, ◌^◌, ◌<◌, ◌≤◌, inl, Bool, List, [], ◌∷◌, ◌++◌, Option, Some, None, refl, sym, ap, subst, ◌∙◌}
use Rattle.std.proofs.Common.{arith}
use Rattle.cyc_words.specs.Events.{AreBytes, ByteRead, ByteWritten}
use Rattle.cyc_words.specs.Words.{word, sum_of}
use Rattle.arena_laws.specs.Lawful.{Answer}
use Rattle.rv32_isa.specs.declared.instruction.Instr.TheVariants.{Addi, Ecall}
use Rattle.rv32_machine.specs.State.{Runs, code_base, set_register}
use Rattle.rv32_machine.specs.Step.{step, calls, answered, following}
use Rattle.rv32_machine.specs.Run.{after_step, run_step}
use Rattle.rv32_machine.specs.Audit.{IsLawful}
use Rattle.step_trees.specs.Trees.{Pays, Reads, Says}
use Rattle.core_meaning.specs.Memory.{Content, Word, Memory}
use Rattle.core_meaning.specs.Steps.{Config, Step, with_temp, Visible}
use Rattle.core_meaning.specs.Operations.{byte_word}
use Rattle.core_lines.specs.declared.line.Line.{Line}
use Rattle.core_lines.specs.declared.line.Line.TheVariants.{Plain}
use Rattle.core_lines.specs.Machines.{Machine, state_of, run_from}
use Rattle.core_lines.specs.Lines.{code_length}
use Rattle.core_lines.specs.Frames.{environment_code}
use Rattle.core_lines.specs.Held.{Holding, with_answer}
use Rattle.core_lines.specs.Operands.{into_code, keep_code}
use Rattle.core_lines.specs.Lies.{Maps, Shows}
use Rattle.core_lines.specs.Running.{core_run}
use Rattle.core_lines.proofs.memory.Relations.{World, IsInOrder, Has, Waiting, Follows, keeping, Leads, Goes}
use Rattle.core_lines.proofs.memory.Moving.{Comes, comes_then, leads_from, lawful_alike}
use Rattle.core_lines.proofs.Steps.{state_at, step_is, is_lawful, following_is}
use Rattle.core_lines.proofs.memory.Access.{written_out, length_of_both}
use Rattle.core_lines.proofs.frames.Passing.{has_first, has_second}
use Rattle.core_lines.proofs.homes.Homes.{set_stays}
use Rattle.core_lines.proofs.operations.Registers.{having, AtWith, AtHolding, at_any, InRegister, IsServed, elsewhere, puts, set_kept}
use Rattle.core_lines.proofs.operations.Calling.{Others, argument_changes, number_changes, without_code, argument_into, answer_kept}
use Rattle.core_lines.proofs.memory.Showing.{shown_first, Shows_then, leads_shown}

module _ (w : World) (order : IsInOrder w) (x : Waiting) (outer : List Waiting) (mem : Memory) where
  -- the number of a call into x17
  pub numbered : (number place : ℕ) (P : Maps → (ℕ → ℕ) → Type 0) → number < 2 ^ 32 → Has w place (environment_code number)
      → ((m : Maps) (registers : ℕ → ℕ) (v : ℕ) → P m registers → P m (set_register 17 v registers))
      → Comes w (AtWith w x outer mem place P) (AtWith w x outer mem (place + 4) (λ m registers. (registers 17 ≡ number) × P m registers))
  numbered number place P small has keeps =
      puts w order x outer mem 16 place P (λ m registers. (registers 17 ≡ number) × P m registers) (Addi 17 0 (pos number))
      (λ registers. sum_of 0 (word (pos number))) refl has.0.0
      (λ r b st n. refl) (λ _. tt) (λ m registers h. (omega (arith, small), keeps m registers (sum_of 0 (word (pos number))) h))

  module _ (place : ℕ) (has : Has w place (Plain Ecall ∷ [])) (P : Maps → (ℕ → ℕ) → Type 0) (number : ℕ) (s : Machine)
      (a : AtWith w x outer mem place (λ m registers. (registers 17 ≡ number) × P m registers) s) where
    abbrev pub now : Machine
    now = state_at place s.registers s.bytes s.store

    pub here : s ≡ now
    here = written_out w order mem place a.maps (a.frame ∷ a.others) a.sp s a.stands

    pub call_is : (answer : Answer) → step w.areas answer (state_of now) ≡ calls w.areas answer number (s.registers 10) (s.registers 11) (state_of now)
    call_is answer =
        step_is w.areas w.code order.code_within s.store place s.registers s.bytes a.stands.kept Ecall has.0.0 answer
        ∙ ap (λ k. calls w.areas answer k (s.registers 10) (s.registers 11) (state_of now)) a.holds.0

    pub lawful_here : (input : List ℕ) (answers : ℕ → Answer) → IsLawful w.areas (run_from s input answers)
    lawful_here input answers = subst (λ (q : Machine). IsLawful w.areas (run_from q input answers)) (sym here)
        (lawful_alike w.areas now input answers [] (is_lawful w.areas w.code order.code_within s.store place s.registers s.bytes a.stands.kept Ecall has.0.0
        tt))

    abbrev behind : ℕ → Machine
    behind value = state_at (place + 4) (set_register 10 value s.registers) s.bytes s.store

    pub next_is : following (state_of now) ≡ code_base + (place + 4)
    next_is = following_is w.areas w.code order.code_within s.store place s.registers s.bytes a.stands.kept Ecall has.0.0

    -- the answer is in x10, and something else goes on being so
    at_behind : (value : ℕ) (v : Content) (H : Maps → (ℕ → ℕ) → Type 0) → Shows a.maps v value → value < 2 ^ 32
        → H a.maps (set_register 10 value s.registers)
        → AtWith w x outer mem (place + 4) (λ m registers. InRegister 10 v m registers × H m registers) (behind value)
    at_behind value v H shows small still =
        let aligned = a.stands.aligned in
        elsewhere w order x outer mem place (place + 4) (λ m registers. (registers 17 ≡ number) × P m registers)
        (λ m registers. InRegister 10 v m registers × H m registers) s a (set_register 10 value s.registers)
        (omega (arith, aligned)) (set_stays 9 value s.registers refl) ((shows, small), still)

module _ (w : World) (order : IsInOrder w) (x : Waiting) (outer : List Waiting) (mem : Memory) (hs : List Holding) where
  -- a value in x10, and the words of other temporaries
  abbrev Answered : Content → Maps → (ℕ → ℕ) → Type 0
  Answered v m registers = InRegister 10 v m registers × Others x hs m registers

  -- a byte is written
  writes_byte : (place n : ℕ) (input : List ℕ) → Has w place (Plain Ecall ∷ []) → (s : Machine)
      → AtWith w x outer mem place (λ m registers. (registers 17 ≡ 1) × Answered (Word n) m registers) s
      → Shows_then w.areas (ByteWritten (n % 256)) s input input (AtWith w x outer mem (place + 4) (Answered (Word (n % 256))))
  writes_byte place n input has s a =
      let value = s.registers 10 % 256 in
      let same : value ≡ n % 256 = ap (λ k. k % 256) a.holds.1.0.0 in
      let P = Answered (Word n) in
      let is = here w order x outer mem place has P 1 s a in
      let there = now w order x outer mem place has P 1 s a in
      record {
        next = behind w order x outer mem place has P 1 s a value;
        shows = λ answers.
            subst (λ (q : Machine). run_step w.areas (run_from q input answers) ≡ shown_first (ByteWritten (n % 256))
            (run_from (behind w order x outer mem place has P 1 s a value) input answers))
            (sym is)
            (ap (after_step (run_from there input answers)) (call_is w order x outer mem place has P 1 s a (answers 0))
            ∙ (λ i. record {
              state = record {
                pc = next_is w order x outer mem place has P 1 s a i;
                registers = set_register 10 value s.registers;
                bytes = s.bytes;
                holdings = s.store.holdings;
                mode = Runs;
              };
              input = input;
              answers = answers;
              events = ByteWritten (same i) ∷ [];
              ledger = s.store.ledger;
              refused = None;
            }));
        lawful = λ answers. lawful_here w order x outer mem place has P 1 s a input answers;
        there = at_behind w order x outer mem place has P 1 s a value (Word (n % 256)) (Others x hs) same (omega arith)
            (argument_changes x hs a.maps (set_register 10 value s.registers) s.registers (set_kept 9 value s.registers) a.holds.1.1);
      }

  abbrev Asking : Maps → (ℕ → ℕ) → Type 0
  Asking m registers = (registers 17 ≡ 2) × Others x hs m registers

  -- a byte is read, or the input's end
  reads_byte : (place : ℕ) (answer : Option ℕ) (input rest : List ℕ) (has : Has w place (Plain Ecall ∷ [])) → byte_word answer < 2 ^ 32 → answered answer
      ≡ byte_word answer
      → (s : Machine) (a : AtWith w x outer mem place Asking s)
      → ((answers : ℕ → Answer) → after_step (run_from (now w order x outer mem place has (Others x hs) 2 s a) input answers)
      (calls w.areas (answers 0) 2 (s.registers 10) (s.registers 11) (state_of (now w order x outer mem place has (Others x hs) 2 s a)))
      ≡ shown_first (ByteRead answer) (run_from (record (behind w order x outer mem place has (Others x hs) 2 s a (answered answer)) {
        pc = following
            (state_of (now w order x outer mem place has (Others x hs) 2 s a));
      }) rest answers))
      → Shows_then w.areas (ByteRead answer) s input rest (AtWith w x outer mem (place + 4) (Answered (Word (byte_word answer))))
  reads_byte place answer input rest has small same s a means =
      let value = answered answer in
      record {
        next = behind w order x outer mem place has (Others x hs) 2 s a value;
        shows = λ answers.
            subst (λ (q : Machine). run_step w.areas (run_from q input answers) ≡ shown_first (ByteRead answer)
            (run_from (behind w order x outer mem place has (Others x hs) 2 s a value) rest answers))
            (sym (here w order x outer mem place has (Others x hs) 2 s a))
            (ap (after_step (run_from (now w order x outer mem place has (Others x hs) 2 s a) input answers))
            (call_is w order x outer mem place has (Others x hs) 2 s a (answers 0)) ∙ means answers
            ∙ ap (λ pc. shown_first (ByteRead answer)
            (run_from (record (behind w order x outer mem place has (Others x hs) 2 s a value) { pc = pc }) rest answers))
            (next_is w order x outer mem place has (Others x hs) 2 s a));
        lawful = λ answers. lawful_here w order x outer mem place has (Others x hs) 2 s a input answers;
        there = at_behind w order x outer mem place has (Others x hs) 2 s a value (Word (byte_word answer)) (Others x hs) same
            (subst (λ k. k < 2 ^ 32) (sym same) small)
            (argument_changes x hs a.maps (set_register 10 value s.registers) s.registers (set_kept 9 value s.registers) a.holds.1);
      }

  -- ---- with what goes on

  module _ (most : ℕ) (active : List (List ℕ)) (k : Config → Step) (c : Config) (t place : ℕ) (named : t < x.fn.temporaries) (keeps : Bool)
      (after : List Bool) (follows : Follows keeps (t ∷ []) x.kept after) where
    abbrev Start : Machine → Type 0
    Start = AtHolding w x outer mem place hs

    -- behind lines, where a temporary has got the answer
    abbrev End : Content → List Line → Machine → Type 0
    End v lines = AtHolding w (keeping after (having t v x)) outer mem (place + code_length lines) (with_answer t hs)

    abbrev keeping_it : List Line
    keeping_it = keep_code keeps x.fn.passed 10 t

    kept_behind : (v : Content) (first : List Line) → Has w place (first ++ keeping_it)
        → Comes w (AtWith w x outer mem (place + code_length first) (Answered v)) (End v (first ++ keeping_it))
    kept_behind v first has =
        let end : place + code_length first + code_length keeping_it ≡ place + code_length (first ++ keeping_it) =
        omega (arith, length_of_both first keeping_it) in
        subst (λ p. Comes w (AtWith w x outer mem (place + code_length first) (Answered v))
        (AtHolding w (keeping after (having t v x)) outer mem p (with_answer t hs))) end
        (answer_kept w order x outer mem hs keeps after t (place + code_length first) v named follows (has_second w place first keeping_it has))

    pub putchar_goes : (u n : ℕ) → u < x.fn.temporaries → IsServed w x hs u → x.config.temps u ≡ Word n
        → Has w place (into_code x.fn.passed hs 10 u ++ environment_code 1 ++ keeping_it)
        → Goes w most (k c) (End (Word (n % 256)) (into_code x.fn.passed hs 10 u ++ environment_code 1 ++ keeping_it)) active
        → Goes w most (Pays (λ kept. Says (Visible (ByteWritten (n % 256))) (k kept)) c) Start active
    putchar_goes u n named' served is has goes = record { at = by }
      where
        by : (fuel : ℕ) → fuel ≤ most → (input : List ℕ) → AreBytes input
            → Leads w fuel (Pays (λ kept. Says (Visible (ByteWritten (n % 256))) (k kept)) c) Start active input
        by zero within input bytes = record {
          count = 0;
          leads = λ s answers r. inl (record { events = refl; ends = (at_any w x outer mem place hs s r).stands.runs });
          paid = λ running. omega arith;
          lawful = λ s answers r. tt;
        }
        by (suc j) within input bytes =
            let first = into_code x.fn.passed hs 10 u in
            let second = environment_code 1 in
            let step : Step = Pays (λ kept. Says (Visible (ByteWritten (n % 256))) (k kept)) c in
            let p1 = place + code_length first in
            let p2 = place + code_length (first ++ second) in
            let has_both = has_first w place (first ++ second) keeping_it has in
            let has_call = has_second w place first second has_both in
            let end : p1 + 4 + 4 ≡ p2 = omega (arith, length_of_both first second) in
            let before_call = AtWith w x outer mem (p1 + 4) (λ m registers. (registers 17 ≡ 1) × Answered (Word n) m registers) in
            let after_call = AtWith w x outer mem p2 (Answered (Word (n % 256))) in
            let when_saved = End (Word (n % 256)) (first ++ second ++ keeping_it) in
            let way : Comes w Start before_call =
            comes_then w _ _ _ (argument_into w order x outer mem hs u place (Word n) named' served is (has_first w place first second has_both))
            (numbered w order x outer mem 1 p1 (Answered (Word n)) (omega arith) has_call
            (λ m registers v h. (h.0, number_changes x hs m (set_register 17 v registers) registers (set_kept 16 v registers) h.1))) in
            let saved : Comes w after_call when_saved = kept_behind (Word (n % 256)) (first ++ second) has in
            leads_from w Start active (suc j) (suc j) step step before_call input way refl (omega arith)
            (leads_shown w before_call after_call active j (ByteWritten (n % 256)) step (k c) input input
            (λ s a. subst (λ p. Shows_then w.areas (ByteWritten (n % 256)) s input input (AtWith w x outer mem p (Answered (Word (n % 256))))) end
            (writes_byte (p1 + 4) n input has_call.2 s a)) refl
            (leads_from w after_call active j j (k c) (k c) when_saved input saved refl (omega arith) (goes.at j (omega (arith, within)) input bytes)))

    -- what was read is kept
    after_read : (answer : Option ℕ) (j : ℕ) (input rest : List ℕ) → byte_word answer < 2 ^ 32
        → (has : Has w place (environment_code 2 ++ keeping_it)) (steps : Step)
        → ((s : Machine) → AtWith w x outer mem (place + 4) Asking s
        → Shows_then w.areas (ByteRead answer) s input rest (AtWith w x outer mem (place + 4 + 4) (Answered (Word (byte_word answer)))))
        → core_run w.functions (suc j) steps input ≡ Rattle.step_trees.specs.Trees.after (Visible (ByteRead answer))
        (core_run w.functions j (k (with_temp t (Word (byte_word answer)) c)) rest)
        → Leads w j (k (with_temp t (Word (byte_word answer)) c)) (End (Word (byte_word answer)) (environment_code 2 ++ keeping_it)) active rest
        → Leads w (suc j) steps Start active input
    after_read answer j input rest small has steps shows means l =
        let first = environment_code 2 in
        let v = Word (byte_word answer) in
        let d = k (with_temp t v c) in
        let before_call = AtWith w x outer mem (place + 4) Asking in
        let after_call = AtWith w x outer mem (place + 8) (Answered v) in
        let when_saved = End v (first ++ keeping_it) in
        let e : place + 4 + 4 ≡ place + 8 = omega arith in
        let way : Comes w Start before_call =
        comes_then w _ (AtWith w x outer mem place (Others x hs)) _ (without_code w order x outer mem hs place)
        (numbered w order x outer mem 2 place (Others x hs) (omega arith) (has_first w place first keeping_it has)
        (λ m registers v h. number_changes x hs m (set_register 17 v registers) registers (set_kept 16 v registers) h)) in
        let saved : Comes w after_call when_saved = kept_behind v first has in
        leads_from w Start active (suc j) (suc j) steps steps before_call input way refl (omega arith)
        (leads_shown w before_call after_call active j (ByteRead answer) steps d input rest
        (λ s a. subst (λ p. Shows_then w.areas (ByteRead answer) s input rest (AtWith w x outer mem p (Answered v))) e (shows s a)) means
        (leads_from w after_call active j j d d when_saved rest saved refl (omega arith) l))

    pub getchar_goes : Has w place (environment_code 2 ++ keeping_it)
        → ((v : Content) → Goes w most (k (with_temp t v c)) (End v (environment_code 2 ++ keeping_it)) active)
        → Goes w most (Pays (λ kept. Reads (λ byte. k (with_temp t (Word (byte_word byte)) kept))) c) Start active
    getchar_goes has goes = record { at = by }
      where
        has_call : Has w (place + 4) (Plain Ecall ∷ [])
        has_call = (has_first w place (environment_code 2) keeping_it has).2

        by : (fuel : ℕ) → fuel ≤ most → (input : List ℕ) → AreBytes input
            → Leads w fuel (Pays (λ kept. Reads (λ byte. k (with_temp t (Word (byte_word byte)) kept))) c) Start active input
        by zero within input bytes = record {
          count = 0;
          leads = λ s answers r. inl (record { events = refl; ends = (at_any w x outer mem place hs s r).stands.runs });
          paid = λ running. omega arith;
          lawful = λ s answers r. tt;
        }
        by (suc j) within [] bytes =
            after_read None j [] [] (omega arith) has (Pays (λ kept. Reads (λ byte. k (with_temp t (Word (byte_word byte)) kept))) c)
            (λ s a. reads_byte (place + 4) None [] [] has_call (omega arith) refl s a (λ answers. refl)) refl
            ((goes (Word (byte_word None))).at j (omega (arith, within)) [] tt)
        by (suc j) within (byte ∷ rest) bytes =
            let small = bytes.0 in
            after_read (Some byte) j (byte ∷ rest) rest (omega (arith, small)) has
            (Pays (λ kept. Reads (λ byte. k (with_temp t (Word (byte_word byte)) kept))) c)
            (λ s a. reads_byte (place + 4) (Some byte) (byte ∷ rest) rest has_call (omega (arith, small)) refl s a (λ answers. refl)) refl
            ((goes (Word byte)).at j (omega (arith, within)) rest bytes.1)
