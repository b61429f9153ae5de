-- A step that asks the store for nothing leaves what it holds, and any other is the call that it asks for.
use Rattle.std.proofs.Common.{◌≡◌, ℕ, ℤ, ◌-◌, ◌%◌, ◌^◌, Bool, true, false, cond, Option, Some, None, refl}
use Rattle.std.specs.Prelude.{not, nat_eq, nat_lt, ◌&&◌}
use Rattle.cyc_words.specs.Words.{sum_of, word}
use Rattle.cyc_words.specs.declared.faults.Kind.TheVariants.{NullException, ArrayBounds}
use Rattle.cyc_words.specs.declared.faults.MachineFault.TheVariants.{Access, Misaligned, BadCall}
use Rattle.rv32_isa.specs.Table.{decoded}
use Rattle.rv32_isa.specs.declared.instruction.Instr.{Instr}
use Rattle.rv32_isa.specs.declared.instruction.Instr.TheVariants.{Jal, Jalr, Beq, Bne, Blt, Bge, Bltu, Bgeu, Lb, Lh, Lw, Lbu, Lhu, Sb, Sh, Sw, Ecall}
use Rattle.arena_laws.specs.Lawful.{Answer}
use Rattle.arena_laws.specs.Asked.{Asked}
use Rattle.rv32_machine.specs.State.{State, Areas, Mode, Runs, Waits, Over, Ended, Raised, Exhausted, stack_base, is_within, is_readable, is_writable}
use Rattle.rv32_machine.specs.State.{code_base}
use Rattle.rv32_machine.specs.State.{word_at, half_at, register_of, set_register, set_byte, set_half, set_word}
use Rattle.rv32_machine.specs.Step.{Stepped, Writes, Asks, Silent, onward, following, gives, stop, fault, jumps, branches, loads, stores, extended, is_less}
use Rattle.rv32_machine.specs.Step.{address, a0, a1, a7, sp, has_stack, refuses_frame, calls_by, calls_host, asked_by, asks, raises, effect, executes, step_in}
use Rattle.rv32_machine.specs.Step.{step}
use Rattle.rv32_machine.specs.Shortage.{asked_of, asked_in_word, asked_in, asked_at}

-- nothing was asked, and what the store holds is what it was
abbrev IsQuiet : State → Stepped → Type 0
IsQuiet s x = (x.told ≡ Silent) × (x.state.holdings ≡ s.holdings)

-- what a step does, by what it asks of the store
abbrev pub DoesAsked : Areas → Option Asked → Answer → State → Stepped → Type 0
DoesAsked n None answer s x = (x.told ≡ Silent) × (x.state.holdings ≡ s.holdings)
DoesAsked n (Some asked) answer s x = x ≡ asks n answer asked s

-- ---- what a test decides

jump_cases : (aligned : Bool) (rd target : ℕ) (s : State)
    → IsQuiet s (cond aligned (onward target (record s { registers = set_register rd (following s) s.registers })) (fault Misaligned s))
jump_cases true rd target s = (refl, refl)
jump_cases false rd target s = (refl, refl)

jumps_quiet : (rd target : ℕ) (s : State) → IsQuiet s (jumps rd target s)
jumps_quiet rd target s = jump_cases (nat_eq (target % 4) 0) rd target s

branches_quiet : (test : Bool) (offset : ℤ) (s : State) → IsQuiet s (branches test offset s)
branches_quiet true offset s = jumps_quiet 0 (sum_of s.pc (word offset)) s
branches_quiet false offset s = (refl, refl)

load_cases : (misaligned readable : Bool) (rd value : ℕ) (s : State)
    → IsQuiet s (cond misaligned (fault Misaligned s) (cond readable (gives rd value s) (fault Access s)))
load_cases true readable rd value s = (refl, refl)
load_cases false true rd value s = (refl, refl)
load_cases false false rd value s = (refl, refl)

loads_quiet : (n : Areas) (width rd at value : ℕ) (s : State) → IsQuiet s (loads n width rd at value s)
loads_quiet n width rd at value s = load_cases (not (nat_eq (at % width) 0)) (is_readable n at width) rd value s

store_cases : (misaligned writable : Bool) (bytes : ℕ → ℕ) (s : State)
    → IsQuiet s (cond misaligned (fault Misaligned s) (cond writable (onward (following s) (record s { bytes = bytes })) (fault Access s)))
store_cases true writable bytes s = (refl, refl)
store_cases false true bytes s = (refl, refl)
store_cases false false bytes s = (refl, refl)

stores_quiet : (n : Areas) (width at : ℕ) (bytes : ℕ → ℕ) (s : State) → IsQuiet s (stores n width at bytes s)
stores_quiet n width at bytes s = store_cases (not (nat_eq (at % width) 0)) (is_writable n at width) bytes s

raise_cases : (null bounds : Bool) (s : State)
    → IsQuiet s (cond null (stop (Raised NullException) s) (cond bounds (stop (Raised ArrayBounds) s) (fault BadCall s)))
raise_cases true bounds s = (refl, refl)
raise_cases false true s = (refl, refl)
raise_cases false false s = (refl, refl)

frame_cases : (refused : Bool) (s : State) → IsQuiet s (cond refused (stop Exhausted s) (fault BadCall s))
frame_cases true s = (refl, refl)
frame_cases false s = (refl, refl)

frame_quiet : (n : Areas) (bytes : ℕ) (s : State) → IsQuiet s (refuses_frame n bytes s)
frame_quiet n bytes s = frame_cases (has_stack n s && nat_lt (register_of s sp - stack_base) bytes) s

call_cases : (n : Areas) (ends writes asks raises' refuses : Bool) (argument : ℕ) (s : State)
    → IsQuiet s (cond ends (stop (Ended argument) s)
    (cond writes (record { shown = Writes (argument % 2 ^ 8); told = Silent; state = (gives a0 (argument % 2 ^ 8) s).state })
    (cond asks (record { shown = Asks; told = Silent; state = record s { mode = Waits } })
    (cond raises' (raises argument s) (cond refuses (refuses_frame n argument s) (fault BadCall s))))))
call_cases n true writes asks raises' refuses argument s = (refl, refl)
call_cases n false true asks raises' refuses argument s = (refl, refl)
call_cases n false false true raises' refuses argument s = (refl, refl)
call_cases n false false false true refuses argument s = raise_cases (nat_eq argument 1) (nat_eq argument 2) s
call_cases n false false false false true argument s = frame_quiet n argument s
call_cases n false false false false false argument s = (refl, refl)

host_quiet : (n : Areas) (number argument : ℕ) (s : State) → IsQuiet s (calls_host n number argument s)
host_quiet n number argument s =
    call_cases n (nat_eq number 0) (nat_eq number 1) (nat_eq number 2) (nat_eq number 3) (nat_eq number 13) argument s

calls_do : (asked : Option Asked) (n : Areas) (answer : Answer) (number argument : ℕ) (s : State)
    → DoesAsked n asked answer s (calls_by asked n answer number argument s)
calls_do (Some asked) n answer number argument s = refl
calls_do None n answer number argument s = host_quiet n number argument s

-- ---- each instruction

effect_does : (n : Areas) (answer : Answer) (instr : Instr) (s : State) → DoesAsked n (asked_of instr s) answer s (effect n answer instr s)
effect_does n answer (Jal rd offset) s = jumps_quiet rd (sum_of s.pc (word offset)) s
effect_does n answer (Jalr rd base offset) s = jumps_quiet rd (let target = address s base offset in target - target % 2) s
effect_does n answer (Beq a b offset) s = branches_quiet (nat_eq (register_of s a) (register_of s b)) offset s
effect_does n answer (Bne a b offset) s = branches_quiet (not (nat_eq (register_of s a) (register_of s b))) offset s
effect_does n answer (Blt a b offset) s = branches_quiet (is_less (register_of s a) (register_of s b)) offset s
effect_does n answer (Bge a b offset) s = branches_quiet (not (is_less (register_of s a) (register_of s b))) offset s
effect_does n answer (Bltu a b offset) s = branches_quiet (nat_lt (register_of s a) (register_of s b)) offset s
effect_does n answer (Bgeu a b offset) s = branches_quiet (not (nat_lt (register_of s a) (register_of s b))) offset s
effect_does n answer (Lb rd base offset) s = let at = address s base offset in loads_quiet n 1 rd at (extended 8 (s.bytes at)) s
effect_does n answer (Lh rd base offset) s = let at = address s base offset in loads_quiet n 2 rd at (extended 16 (half_at s.bytes at)) s
effect_does n answer (Lw rd base offset) s = let at = address s base offset in loads_quiet n 4 rd at (word_at s.bytes at) s
effect_does n answer (Lbu rd base offset) s = let at = address s base offset in loads_quiet n 1 rd at (s.bytes at) s
effect_does n answer (Lhu rd base offset) s = let at = address s base offset in loads_quiet n 2 rd at (half_at s.bytes at) s
effect_does n answer (Sb base b offset) s = let at = address s base offset in stores_quiet n 1 at (set_byte at (register_of s b % 2 ^ 8) s.bytes) s
effect_does n answer (Sh base b offset) s = let at = address s base offset in stores_quiet n 2 at (set_half at (register_of s b) s.bytes) s
effect_does n answer (Sw base b offset) s = let at = address s base offset in stores_quiet n 4 at (set_word at (register_of s b) s.bytes) s
effect_does n answer Ecall s = calls_do (asked_by (register_of s a7) (register_of s a0) (register_of s a1)) n answer (register_of s a7) (register_of s a0) s
effect_does n answer _ s = (refl, refl)

-- ---- a step

executes_do : (n : Areas) (answer : Answer) (instr : Option Instr) (s : State) → DoesAsked n (asked_in_word instr s) answer s (executes n answer instr s)
executes_do n answer None s = (refl, refl)
executes_do n answer (Some instr) s = effect_does n answer instr s

run_cases : (within : Bool) (n : Areas) (answer : Answer) (instr : Option Instr) (s : State)
    → DoesAsked n (cond within (asked_in_word instr s) None) answer s (cond within (executes n answer instr s) (fault Access s))
run_cases true n answer instr s = executes_do n answer instr s
run_cases false n answer instr s = (refl, refl)

in_does : (mode : Mode) (n : Areas) (answer : Answer) (s : State) → DoesAsked n (asked_in mode n s) answer s (step_in mode n answer s)
in_does Runs n answer s = run_cases (is_within code_base n.code s.pc 4) n answer (decoded (word_at s.bytes s.pc)) s
in_does Waits n answer s = (refl, refl)
in_does (Over why) n answer s = (refl, refl)

pub step_does : (n : Areas) (answer : Answer) (s : State) → DoesAsked n (asked_at n s) answer s (step n answer s)
step_does n answer s = in_does s.mode n answer s
