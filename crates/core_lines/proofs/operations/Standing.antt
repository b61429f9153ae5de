-- A machine that stands at a place with something known of its registers: temporaries are loaded and saved, and instructions put values into registers.
use Rattle.arena_laws.specs.Lawful.{Answer}
use Rattle.rv32_machine.specs.Run.{Run}
use Rattle.core_lines.specs.Machines.{state_of}
use Rattle.std.specs.Prelude.{nat_eq}
use Rattle.std.proofs.Common.{◌≡◌, ℕ, suc, ◌+◌, ◌/◌, ◌%◌, ◌^◌, ◌<◌, Bool, true, false, List, [], ◌∷◌, ◌++◌, sym, ap, subst, ◌∙◌, arith}
use Rattle.rv32_isa.specs.declared.instruction.Instr.{Instr}
use Rattle.core_meaning.specs.Memory.{Content, Memory}
use Rattle.core_lines.specs.Machines.{Machine, Store}
use Rattle.rv32_machine.specs.State.{code_base, set_register}
use Rattle.rv32_machine.specs.Step.{effect, gives}
use Rattle.rv32_machine.specs.Audit.{AccessIsLawful}
use Rattle.core_lines.specs.declared.comparison.Comparison.{Comparison}
use Rattle.core_lines.specs.declared.comparison.NumberComparison.{NumberComparison}
use Rattle.core_lines.specs.Comparisons.{verdict_code}
use Rattle.core_lines.specs.declared.line.Line.{Line}
use Rattle.core_lines.specs.Lines.{HasInstr, code_length}
use Rattle.core_lines.specs.Frames.{word_code, load_code, save_code, slot_of}
use Rattle.core_lines.specs.Lies.{Maps, Shows, Activation}
use Rattle.core_lines.proofs.memory.Relations.{
  Moves,
  World,
  IsInOrder,
  Has,
  Waiting,
  Covers,
  Follows,
  IsKept,
  keeping,
  back_of,
  FrameShows,
  StackShows,
  Stands,
  At,
}
use Rattle.core_lines.specs.Held.{Holding}
use Rattle.core_lines.specs.Operands.{number_code, numbered_code}
use Rattle.core_lines.proofs.operations.Holding.{having, InRegister, AreSides, numbered_verdict, AreThere, register_stays}
use Rattle.core_lines.proofs.operations.NumberVerdicts as numbers
use Rattle.core_lines.proofs.memory.Moving.{Comes, comes_then, comes_as, bare}
use Rattle.core_lines.specs.Homes.{stays}
use Rattle.core_lines.proofs.homes.Homes.{Stays, kept_stays, set_stays}
use Rattle.core_lines.proofs.Steps.{state_at, IsKeptBelow, gives_value}
use Rattle.core_lines.proofs.memory.Slots.{Kept, Puts, set_here, set_there}
use Rattle.core_lines.proofs.memory.Slots as slots
use Rattle.core_lines.proofs.memory.Verdicts.{reads, verdict}
use Rattle.core_lines.proofs.memory.Verdicts as verdicts
use Rattle.core_lines.proofs.memory.Access.{length_of_both, behind, written_out, loads, saves, stands_behind}
use Rattle.core_lines.proofs.frames.Passing.{frame_set, frame_fewer, fewer_kept, temp_lies}

-- in an activation, at a place, with something known of the addresses and the registers
pub record AtWith (w : World) (x : Waiting) (outer : List Waiting) (mem : Memory) (place : ℕ) (P : Maps → (ℕ → ℕ) → Type 0) (s : Machine) : Type 0 where
  pub maps : Maps
  pub frame : Activation
  pub others : List Activation
  pub sp : ℕ
  pub stands : Stands w mem place maps (frame ∷ others) sp sp s
  pub shows : FrameShows w maps x (back_of w outer) frame
  pub stack : StackShows w maps outer others
  pub holds : P maps s.registers

-- in an activation, at a place, with what is known of temporaries
abbrev pub AtHolding : World → Waiting → List Waiting → Memory → ℕ → List Holding → Machine → Type 0
AtHolding w x outer mem place [] s = At w x outer mem place s
AtHolding w x outer mem place (h ∷ hs) s = AtWith w x outer mem place (AreThere (h ∷ hs) x.config.temps) s

-- it isn't needed
pub at_any : (w : World) (x : Waiting) (outer : List Waiting) (mem : Memory) (place : ℕ) (held : List Holding) (s : Machine)
    → AtHolding w x outer mem place held s → At w x outer mem place s
at_any w x outer mem place [] s a = a
at_any w x outer mem place (h ∷ hs) s a =
    record { maps = a.maps; frame = a.frame; others = a.others; sp = a.sp; stands = a.stands; shows = a.shows; stack = a.stack }

-- as what registers and addresses have, and back
pub with_there : (w : World) (x : Waiting) (outer : List Waiting) (mem : Memory) (place : ℕ) (held : List Holding) (s : Machine)
    → AtHolding w x outer mem place held s → AtWith w x outer mem place (AreThere held x.config.temps) s
with_there w x outer mem place [] s a =
    record { maps = a.maps; frame = a.frame; others = a.others; sp = a.sp; stands = a.stands; shows = a.shows; stack = a.stack; holds = tt }
with_there w x outer mem place (h ∷ hs) s a = a

pub as_holding : (w : World) (x : Waiting) (outer : List Waiting) (mem : Memory) (place : ℕ) (held : List Holding) (s : Machine)
    → AtWith w x outer mem place (AreThere held x.config.temps) s → AtHolding w x outer mem place held s
as_holding w x outer mem place [] s a =
    record { maps = a.maps; frame = a.frame; others = a.others; sp = a.sp; stands = a.stands; shows = a.shows; stack = a.stack }
as_holding w x outer mem place (h ∷ hs) s a = a

-- with fewer temporaries whose words the slots show
pub fewer_with : (w : World) (x : Waiting) (outer : List Waiting) (mem : Memory) (place : ℕ) (P : Maps → (ℕ → ℕ) → Type 0) (flags : List Bool) (s : Machine)
    → Covers x.kept flags → AtWith w x outer mem place P s → AtWith w (keeping flags x) outer mem place P s
fewer_with w x outer mem place P flags s covers a = record {
  maps = a.maps;
  frame = a.frame;
  others = a.others;
  sp = a.sp;
  stands = a.stands;
  shows = frame_fewer w a.maps x (back_of w outer) a.frame flags covers a.shows;
  stack = a.stack;
  holds = a.holds;
}

pub fewer_holding : (w : World) (x : Waiting) (outer : List Waiting) (mem : Memory) (place : ℕ) (held : List Holding) (flags : List Bool) (s : Machine)
    → Covers x.kept flags → AtHolding w x outer mem place held s → AtHolding w (keeping flags x) outer mem place held s
fewer_holding w x outer mem place [] flags s covers a = fewer_kept w x outer mem place flags s covers a
fewer_holding w x outer mem place (h ∷ hs) flags s covers a = fewer_with w x outer mem place (AreThere (h ∷ hs) x.config.temps) flags s covers a

pub set_kept : (r v : ℕ) (registers : ℕ → ℕ) → Kept (suc r) (set_register (suc r) v registers) registers
set_kept r v registers q not7 other = set_there (suc r) v q registers other

-- one part of code, and the next
pub in_turn : (w : World) (R : Machine → Type 0) (F G : ℕ → Machine → Type 0) (place : ℕ) (first second : List Line) → Comes w R (F (place + code_length first))
    → Comes w (F (place + code_length first)) (G (place + code_length first + code_length second)) → Comes w R (G (place + code_length (first ++ second)))
in_turn w R F G place first second a b =
    let e : place + code_length first + code_length second ≡ place + code_length (first ++ second) = omega (arith, length_of_both first second) in
    comes_then w R (F (place + code_length first)) (G (place + code_length (first ++ second))) a
    (subst (λ p. Comes w (F (place + code_length first)) (G p)) e b)

module _ (w : World) (order : IsInOrder w) (x : Waiting) (outer : List Waiting) (mem : Memory) where
  -- more is known
  pub knows : (place : ℕ) (P Q : Maps → (ℕ → ℕ) → Type 0) (s : Machine) → ((m : Maps) (registers : ℕ → ℕ) → P m registers → Q m registers)
      → AtWith w x outer mem place P s → AtWith w x outer mem place Q s
  knows place P Q s f a = record {
    maps = a.maps;
    frame = a.frame;
    others = a.others;
    sp = a.sp;
    stands = a.stands;
    shows = a.shows;
    stack = a.stack;
    holds = f a.maps s.registers a.holds;
  }

  pub at_with : (place : ℕ) (s : Machine) → At w x outer mem place s → AtWith w x outer mem place (λ m registers. Unit {0}) s
  at_with place s a = record { maps = a.maps; frame = a.frame; others = a.others; sp = a.sp; stands = a.stands; shows = a.shows; stack = a.stack; holds = tt }

  abbrev pub at_of : (place : ℕ) (P : Maps → (ℕ → ℕ) → Type 0) (s : Machine) → AtWith w x outer mem place P s → At w x outer mem place s
  at_of place P s a = record { maps = a.maps; frame = a.frame; others = a.others; sp = a.sp; stands = a.stands; shows = a.shows; stack = a.stack }

  -- elsewhere with other registers, and the same bytes
  pub elsewhere : (place place' : ℕ) (P Q : Maps → (ℕ → ℕ) → Type 0) (s : Machine) (a : AtWith w x outer mem place P s) (new : ℕ → ℕ) → place' % 4 ≡ 0
      → Stays new s.registers → Q a.maps new → AtWith w x outer mem place' Q (state_at place' new s.bytes s.store)
  elsewhere place place' P Q s a new aligned stay q = record {
    maps = a.maps;
    frame = a.frame;
    others = a.others;
    sp = a.sp;
    stands = stands_behind w order mem place a.maps (a.frame ∷ a.others) a.sp s a.stands place' new aligned stay;
    shows = a.shows;
    stack = a.stack;
    holds = q;
  }

  -- a temporary into a register
  pub loads_new : (r t place : ℕ) (P Q : Maps → (ℕ → ℕ) → Type 0) → t < x.fn.temporaries → IsKept w x t → stays (suc r) ≡ false
      → ((m : Maps) (new old : ℕ → ℕ) → InRegister (suc r) (x.config.temps t) m new → Kept (suc r) new old → P m old → Q m new)
      → Has w place (load_code (suc r) (slot_of x.fn.passed t))
      → Comes w (AtWith w x outer mem place P) (AtWith w x outer mem (place + code_length (load_code (suc r) (slot_of x.fn.passed t))) Q)
  loads_new r t place P Q named kept other gets has =
      let lines = load_code (suc r) (slot_of x.fn.passed t) in
      let end = place + code_length lines in
      record {
        count = code_length lines / 4;
        by = λ s a.
            let l = loads w order mem place a.maps (a.frame ∷ a.others) a.sp s a.stands 0 (slot_of x.fn.passed t) (slot_of x.fn.passed t) r (x.config.temps t)
            (temp_lies w order x outer mem a.maps (back_of w outer) a.frame a.others a.sp t named kept a.shows a.stands.stacked) other has in
            record {
              next = state_at end l.new s.bytes s.store;
              moves = l.moves;
              there = record {
                maps = a.maps;
                frame = a.frame;
                others = a.others;
                sp = a.sp;
                stands = l.stands_on;
                shows = a.shows;
                stack = a.stack;
                holds = gets a.maps l.new s.registers (l.holds, l.below) l.kept a.holds;
              };
            };
      }

  -- while others stay
  pub loads_temp : (r t place : ℕ) (P : Maps → (ℕ → ℕ) → Type 0) → t < x.fn.temporaries → IsKept w x t → stays (suc r) ≡ false
      → ((m : Maps) (new old : ℕ → ℕ) → ((q : ℕ) → nat_eq q 7 ≡ false → nat_eq q (suc r) ≡ false → new q ≡ old q) → P m old → P m new)
      → Has w place (load_code (suc r) (slot_of x.fn.passed t))
      → Comes w (AtWith w x outer mem place P)
      (AtWith w x outer mem (place + code_length (load_code (suc r) (slot_of x.fn.passed t)))
      (λ m registers. InRegister (suc r) (x.config.temps t) m registers × P m registers))
  loads_temp r t place P named kept other keeps has =
      loads_new r t place P (λ m registers. InRegister (suc r) (x.config.temps t) m registers × P m registers) named kept other
      (λ m new old here still h. (here, keeps m new old still h)) has

  -- a register into a temporary
  pub saves_new : (r t place : ℕ) (v : Content) (after : List Bool) (P Q : Maps → (ℕ → ℕ) → Type 0) → t < x.fn.temporaries
      → Follows true (t ∷ []) x.kept after → nat_eq (suc r) 7 ≡ false
      → ((m : Maps) (registers : ℕ → ℕ) → P m registers → InRegister (suc r) v m registers)
      → ((m : Maps) (new old : ℕ → ℕ) → Kept 7 new old → P m old → Q m new) → Has w place (save_code (suc r) (slot_of x.fn.passed t))
      → Comes w (AtWith w x outer mem place P)
      (AtWith w (keeping after (having t v x)) outer mem (place + code_length (save_code (suc r) (slot_of x.fn.passed t))) Q)
  saves_new r t place v after P Q named follows not7 here gets has = record {
    count = code_length (save_code (suc r) (slot_of x.fn.passed t)) / 4;
    by = λ s a.
        let size = a.shows.size in
        let value = here a.maps s.registers a.holds in
        let l = saves w order mem place a.maps a.frame a.others a.sp s a.stands (slot_of x.fn.passed t) r v
        (omega (arith, size, named)) not7 value.0 value.1 has in
        record {
          next = state_at (place + code_length (save_code (suc r) (slot_of x.fn.passed t))) l.new l.bytes s.store;
          moves = l.moves;
          there = record {
            maps = a.maps;
            frame = _;
            others = a.others;
            sp = a.sp;
            stands = l.stands_on;
            shows = frame_set w a.maps x (back_of w outer) a.frame t v after named follows a.shows;
            stack = a.stack;
            holds = gets a.maps l.new s.registers l.kept a.holds;
          };
        };
  }

  -- which the register goes on to hold
  pub saves_held : (r t place : ℕ) (v : Content) (after : List Bool) → t < x.fn.temporaries → Follows true (t ∷ []) x.kept after → nat_eq (suc r) 7 ≡ false
      → Has w place (save_code (suc r) (slot_of x.fn.passed t))
      → Comes w (AtWith w x outer mem place (InRegister (suc r) v))
      (AtWith w (keeping after (having t v x)) outer mem (place + code_length (save_code (suc r) (slot_of x.fn.passed t))) (InRegister (suc r) v))
  saves_held r t place v after named follows not7 has =
      saves_new r t place v after (InRegister (suc r) v) (InRegister (suc r) v) named follows not7 (λ m registers h. h)
      (λ m new old kept h. register_stays (suc r) 7 v m new old kept not7 not7 h) has

  pub saves_temp : (r t place : ℕ) (v : Content) (after : List Bool) → t < x.fn.temporaries → Follows true (t ∷ []) x.kept after → nat_eq (suc r) 7 ≡ false
      → Has w place (save_code (suc r) (slot_of x.fn.passed t))
      → Comes w (AtWith w x outer mem place (InRegister (suc r) v))
      (At w (keeping after (having t v x)) outer mem (place + code_length (save_code (suc r) (slot_of x.fn.passed t))))
  saves_temp r t place v after named follows not7 has =
      comes_then w _ _ _ (saves_held r t place v after named follows not7 has) (comes_as w _ _ (λ s a. record {
        maps = a.maps;
        frame = a.frame;
        others = a.others;
        sp = a.sp;
        stands = a.stands;
        shows = a.shows;
        stack = a.stack;
      }))

  -- an instruction that puts a value into a register
  pub puts : (r place : ℕ) (P Q : Maps → (ℕ → ℕ) → Type 0) (instr : Instr) (value : (ℕ → ℕ) → ℕ) → stays (suc r) ≡ false → HasInstr w.areas w.code
      (code_base + place) instr
      → ((registers bytes : ℕ → ℕ) (st : Store) (answer : Answer)
      → effect w.areas answer instr (state_of (state_at place registers bytes st)) ≡ gives (suc r) (value registers)
      (state_of (state_at place registers bytes st)))
      → ((r : Run) → AccessIsLawful w.areas r instr)
      → ((m : Maps) (registers : ℕ → ℕ) → P m registers → Q m (set_register (suc r) (value registers) registers))
      → Comes w (AtWith w x outer mem place P) (AtWith w x outer mem (place + 4) Q)
  puts r place P Q instr value other has e access gets = record {
    count = 1;
    by = λ s a.
        let new = set_register (suc r) (value s.registers) s.registers in
        let aligned = a.stands.aligned in
        record {
          next = state_at (place + 4) new s.bytes s.store;
          moves = subst (λ (t : Machine). Moves w.areas 1 t (state_at (place + 4) new s.bytes s.store))
              (sym (written_out w order mem place a.maps (a.frame ∷ a.others) a.sp s a.stands))
              (gives_value w.areas w.code order.code_within s.store place s.registers s.bytes a.stands.kept instr has (suc r) (value s.registers)
              (λ answer. e s.registers s.bytes s.store answer) (access (bare (state_at place s.registers s.bytes s.store))));
          there = elsewhere place (place + 4) P Q s a new (omega (arith, aligned)) (set_stays r (value s.registers) s.registers other)
              (gets a.maps s.registers a.holds);
        };
  }

  -- one that leaves a value that it makes of what is known
  pub puts_value : (r place : ℕ) (v : Content) (P Q : Maps → (ℕ → ℕ) → Type 0) (instr : Instr) (value : (ℕ → ℕ) → ℕ) → stays (suc r) ≡ false
      → HasInstr w.areas w.code (code_base + place) instr
      → ((registers bytes : ℕ → ℕ) (st : Store) (answer : Answer)
      → effect w.areas answer instr (state_of (state_at place registers bytes st)) ≡ gives (suc r) (value registers)
      (state_of (state_at place registers bytes st)))
      → ((r : Run) → AccessIsLawful w.areas r instr)
      → ((m : Maps) (registers : ℕ → ℕ) → P m registers → Shows m v (value registers) × (value registers < 2 ^ 32))
      → ((m : Maps) (new old : ℕ → ℕ) → InRegister (suc r) v m new → Kept (suc r) new old → P m old → Q m new)
      → Comes w (AtWith w x outer mem place P) (AtWith w x outer mem (place + 4) Q)
  puts_value r place v P Q instr value other has e access shows gets = puts r place P Q instr value other has e access
      (λ m registers h.
      gets m (set_register (suc r) (value registers) registers) registers
      (subst (λ n. Shows m v n × (n < 2 ^ 32)) (sym (set_here r (value registers) registers)) (shows m registers h))
      (set_kept r (value registers) registers) h)

  -- two of them, of which the second works on what the first one leaves
  pub puts_twice : (r place : ℕ) (v : Content) (P Q : Maps → (ℕ → ℕ) → Type 0) (first second : Instr) (value : (ℕ → ℕ) → ℕ) (then : ℕ → ℕ)
      → stays (suc r) ≡ false
      → HasInstr w.areas w.code (code_base + place) first → HasInstr w.areas w.code (code_base + (place + 4)) second
      → ((registers bytes : ℕ → ℕ) (st : Store) (answer : Answer)
      → effect w.areas answer first (state_of (state_at place registers bytes st)) ≡ gives (suc r) (value registers)
      (state_of (state_at place registers bytes st)))
      → ((registers bytes : ℕ → ℕ) (st : Store) (answer : Answer)
      → effect w.areas answer second (state_of (state_at (place + 4) registers bytes st)) ≡ gives (suc r) (then (registers (suc r)))
      (state_of (state_at (place + 4) registers bytes st)))
      → ((r : Run) → AccessIsLawful w.areas r first) → ((r : Run) → AccessIsLawful w.areas r second)
      → ((m : Maps) (registers : ℕ → ℕ) → P m registers → Shows m v (then (value registers)) × (then (value registers) < 2 ^ 32))
      → ((m : Maps) (new old : ℕ → ℕ) → InRegister (suc r) v m new → Kept (suc r) new old → P m old → Q m new)
      → Comes w (AtWith w x outer mem place P) (AtWith w x outer mem (place + 8) Q)
  puts_twice r place v P Q first second value then other has has' e e' access access' shows gets =
      let next : place + 4 + 4 ≡ place + 8 = omega arith in
      subst (λ p. Comes w (AtWith w x outer mem place P) (AtWith w x outer mem p Q)) next
      (comes_then w _ (AtWith w x outer mem (place + 4) Between) _
      (puts r place P Between first value other has e access
      (λ m registers h. (registers, (set_here r (value registers) registers, set_kept r (value registers) registers, h))))
      (puts r (place + 4) Between Q second (λ registers. then (registers (suc r))) other has' e' access'
      (λ m registers h.
      let old = h.0 in
      let last = then (registers (suc r)) in
      let is : set_register (suc r) last registers (suc r) ≡ then (value old) = set_here r last registers ∙ ap then h.1.0 in
      gets m (set_register (suc r) last registers) old (subst (λ n. Shows m v n × (n < 2 ^ 32)) (sym is) (shows m old h.1.2))
      (λ k not7 another. set_kept r last registers k not7 another ∙ h.1.1 k not7 another) h.1.2)))
    where
      Between : Maps → (ℕ → ℕ) → Type 0
      Between m registers = (old : ℕ → ℕ) × ((registers (suc r) ≡ value old) × Kept (suc r) registers old × P m old)

  -- a word into a register, by code that does no more, where something stays
  puts_by : (lines : List Line) (r : ℕ) (v : (ℕ → ℕ) → ℕ) (place : ℕ) (P Q : Maps → (ℕ → ℕ) → Type 0) (Small : (ℕ → ℕ) → Type 0)
      → ((m : Maps) (registers : ℕ → ℕ) → P m registers → Small registers) → stays (suc r) ≡ false
      → ((registers bytes : ℕ → ℕ) (st : Store) → IsKeptBelow w.code bytes → Small registers
      → Puts w place (place + code_length lines) (code_length lines / 4) (suc r) (v registers) registers bytes st)
      → ((m : Maps) (new old : ℕ → ℕ) → new (suc r) ≡ v old → Kept (suc r) new old → P m old → Q m new)
      → Comes w (AtWith w x outer mem place P) (AtWith w x outer mem (place + code_length lines) Q)
  puts_by lines r v place P Q Small small other does gets = record {
    count = code_length lines / 4;
    by = λ s a.
        let p = does s.registers s.bytes s.store a.stands.kept (small a.maps s.registers a.holds) in
        let next = state_at (place + code_length lines) p.new s.bytes s.store in
        record {
          next = next;
          moves = subst (λ (t : Machine). Moves w.areas (code_length lines / 4) t next)
              (sym (written_out w order mem place a.maps (a.frame ∷ a.others) a.sp s a.stands)) p.moves;
          there = elsewhere place (place + code_length lines) P Q s a p.new (behind place lines a.stands.aligned)
              (kept_stays (suc r) p.new s.registers other p.kept) (gets a.maps p.new s.registers p.holds p.kept a.holds);
        };
  }

  pub puts_number : (r v place : ℕ) (P Q : Maps → (ℕ → ℕ) → Type 0) → ((m : Maps) (registers : ℕ → ℕ) → P m registers → v < 2 ^ 32)
      → stays (suc r) ≡ false → Has w place (number_code (suc r) v)
      → ((m : Maps) (new old : ℕ → ℕ) → new (suc r) ≡ v → Kept (suc r) new old → P m old → Q m new)
      → Comes w (AtWith w x outer mem place P) (AtWith w x outer mem (place + code_length (number_code (suc r) v)) Q)
  puts_number r v place P Q small other has gets = puts_by (number_code (suc r) v) r (λ _. v) place P Q (λ _. v < 2 ^ 32) small other
      (λ registers bytes st below few. slots.puts_number w order place registers bytes st below r v few has) gets

  pub puts_into : (r v place : ℕ) (P Q : Maps → (ℕ → ℕ) → Type 0) → v < 2 ^ 32 → stays (suc r) ≡ false → Has w place (word_code (suc r) v)
      → ((m : Maps) (new old : ℕ → ℕ) → new (suc r) ≡ v → Kept (suc r) new old → P m old → Q m new)
      → Comes w (AtWith w x outer mem place P) (AtWith w x outer mem (place + 8) Q)
  puts_into r v place P Q small other has gets = puts_by (word_code (suc r) v) r (λ _. v) place P Q (λ _. v < 2 ^ 32) (λ m registers h. small) other
      (λ registers bytes st below few. slots.puts_word w order place registers bytes st below r v few has) gets

  -- a comparison's verdict, where no code changes its registers
  pub puts_verdict : (r : ℕ) (c : Comparison) (place : ℕ) (P Q : Maps → (ℕ → ℕ) → Type 0)
      → ((m : Maps) (registers : ℕ → ℕ) → P m registers → (reads registers c.left < 2 ^ 32) × (reads registers c.right < 2 ^ 32))
      → stays (suc r) ≡ false → Has w place (verdict_code (suc r) c)
      → ((m : Maps) (new old : ℕ → ℕ) → new (suc r) ≡ verdict c old → Kept (suc r) new old → P m old → Q m new)
      → Comes w (AtWith w x outer mem place P) (AtWith w x outer mem (place + code_length (verdict_code (suc r) c)) Q)
  puts_verdict r c place P Q small other has gets = puts_by (verdict_code (suc r) c) r (verdict c) place P Q
      (λ registers. (reads registers c.left < 2 ^ 32) × (reads registers c.right < 2 ^ 32)) small other
      (λ registers bytes st below few. verdicts.puts_verdict w order place registers bytes st below c r few.0 few.1 has) gets

  -- and that of a comparison with a number
  pub puts_numbered : (r : ℕ) (n : NumberComparison) (place : ℕ) (P Q : Maps → (ℕ → ℕ) → Type 0)
      → ((m : Maps) (registers : ℕ → ℕ) → P m registers → (n.number < 2 ^ 32) × AreSides n.comparison registers)
      → stays (suc r) ≡ false → Has w place (numbered_code (suc r) n)
      → ((m : Maps) (new old : ℕ → ℕ) → new (suc r) ≡ numbered_verdict n old → Kept (suc r) new old → P m old → Q m new)
      → Comes w (AtWith w x outer mem place P) (AtWith w x outer mem (place + code_length (numbered_code (suc r) n)) Q)
  puts_numbered r n place P Q small other has gets = puts_by (numbered_code (suc r) n) r (numbered_verdict n) place P Q
      (λ registers. (n.number < 2 ^ 32) × AreSides n.comparison registers) small other
      (λ registers bytes st below few. numbers.puts_numbered w order place registers bytes st below n r few.0 few.1 has) gets
