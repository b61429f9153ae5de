-- What one instruction does to the machine, whatever the store would answer.
use Rattle.std.proofs.Common.{◌≡◌, ℕ, ℤ, ◌+◌, ◌%◌, ◌^◌, ◌<◌, ◌≤◌, true, Some, refl, sym, ap, subst, ◌∙◌, arith, eq-eqb}
use Rattle.std.proofs.lemmas.Bool.{or_right}
use Rattle.rv32_isa.specs.Table.{decoded}
use Rattle.rv32_isa.specs.declared.instruction.Instr.{Instr}
use Rattle.rv32_isa.specs.declared.instruction.Instr.TheVariants.{Lw, Sw, Sb}
use Rattle.arena_laws.specs.Lawful.{Answer}
use Rattle.rv32_machine.specs.State.{
  Areas,
  Runs,
  code_base,
  data_base,
  is_within,
  is_readable,
  is_writable,
  register_of,
  set_register,
  set_word,
  set_byte,
  word_at,
}
use Rattle.rv32_machine.specs.Step.{Nothing, Silent, step, effect, gives, jumps, onward, following, address, loads, stores}
use Rattle.rv32_machine.specs.Audit.{IsLawful, AccessIsLawful, DecodedIsLawful, is_lawful_store}
use Rattle.rv32_machine.proofs.Bytes.{within_both}
use Rattle.core_lines.specs.Lines.{HasInstr}
use Rattle.core_lines.specs.Machines.{Machine, Store, state_of}
use Rattle.core_lines.proofs.memory.Relations.{Moves}
use Rattle.core_lines.proofs.memory.Moving.{by_one, bare}
use Rattle.core_lines.proofs.memory.Bytes.{word_from_bytes}

-- a machine that runs, at a place of the code
abbrev pub state_at : ℕ → (ℕ → ℕ) → (ℕ → ℕ) → Store → Machine
state_at place registers bytes st = record { pc = code_base + place; registers = registers; bytes = bytes; store = st; mode = Runs }

-- the bytes below the data are these
abbrev pub IsKeptBelow : (ℕ → ℕ) → (ℕ → ℕ) → Type 0
IsKeptBelow kept bytes = (q : ℕ) → q < data_base → bytes q ≡ kept q

module _ (n : Areas) (kept : ℕ → ℕ) (few : n.code ≤ 2 ^ 20) (st : Store) where
  pub is_in_code : (place : ℕ) (instr : Instr) → HasInstr n kept (code_base + place) instr → place + 4 ≤ 2 ^ 20
  is_in_code place instr has = omega (arith, (within_both code_base n.code (code_base + place) 4 has.within).1)

  module _ (place : ℕ) (registers bytes : ℕ → ℕ) (below : IsKeptBelow kept bytes) (instr : Instr) (has : HasInstr n kept (code_base + place) instr) where
    is_next : decoded (word_at bytes (code_base + place)) ≡ Some instr
    is_next =
        let near : place + 4 ≤ 2 ^ 20 = is_in_code place instr has in
        ap decoded (word_from_bytes bytes kept (code_base + place) (below _ (omega arith)) (below _ (omega arith)) (below _ (omega arith))
        (below _ (omega arith)))
        ∙ has.decodes

    pub step_is : (answer : Answer) → step n answer (state_of (state_at place registers bytes st)) ≡ effect n answer instr
        (state_of (state_at place registers bytes st))
    step_is answer = rw (has.within, is_next) refl

    pub is_lawful : AccessIsLawful n (bare (state_at place registers bytes st)) instr → IsLawful n (bare (state_at place registers bytes st))
    is_lawful access = λ within. subst (DecodedIsLawful n (bare (state_at place registers bytes st))) (sym is_next) access

    pub following_is : following (state_of (state_at place registers bytes st)) ≡ code_base + (place + 4)
    following_is = let near : place + 4 ≤ 2 ^ 20 = is_in_code place instr has in omega arith

    -- a value for a register
    pub gives_value : (rd value : ℕ) → ((answer : Answer) → effect n answer instr (state_of (state_at place registers bytes st)) ≡ gives rd value
        (state_of (state_at place registers bytes st)))
        → AccessIsLawful n (bare (state_at place registers bytes st)) instr
        → Moves n 1 (state_at place registers bytes st) (state_at (place + 4) (set_register rd value registers) bytes st)
    gives_value rd value e access = by_one n _ _ refl
        (λ answer. step_is answer ∙ (e answer ∙
        (λ i. record {
          shown = Nothing;
          told = Silent;
          state = record {
            pc = following_is i;
            registers = set_register rd value registers;
            bytes = bytes;
            holdings = st.holdings;
            mode = Runs;
          };
        })))
        (is_lawful access)

    -- new bytes
    pub puts_bytes : (new : ℕ → ℕ) → ((answer : Answer) → effect n answer instr (state_of (state_at place registers bytes st))
        ≡ onward (following (state_of (state_at place registers bytes st))) (record (state_of (state_at place registers bytes st)) { bytes = new }))
        → AccessIsLawful n (bare (state_at place registers bytes st)) instr → Moves n 1 (state_at place registers bytes st)
        (state_at (place + 4) registers new st)
    puts_bytes new e access = by_one n _ _ refl
        (λ answer. step_is answer ∙ (e answer ∙
        (λ i. record {
          shown = Nothing;
          told = Silent;
          state = record {
            pc = following_is i;
            registers = registers;
            bytes = new;
            holdings = st.holdings;
            mode =
                Runs;
          };
        })))
        (is_lawful access)

    -- on to the next one
    pub passes : ((answer : Answer) → effect n answer instr (state_of (state_at place registers bytes st)) ≡ onward
        (following (state_of (state_at place registers bytes st))) (state_of (state_at place registers bytes st)))
        → AccessIsLawful n (bare (state_at place registers bytes st)) instr → Moves n 1 (state_at place registers bytes st)
        (state_at (place + 4) registers bytes st)
    passes e access = puts_bytes bytes e access

    -- a jump to a place, which keeps the address behind it
    pub goes_to : (rd target to : ℕ) → target ≡ code_base + to → to % 4 ≡ 0
        → ((answer : Answer) → effect n answer instr (state_of (state_at place registers bytes st)) ≡ jumps rd target
        (state_of (state_at place registers bytes st)))
        → AccessIsLawful n (bare (state_at place registers bytes st)) instr
        → Moves n 1 (state_at place registers bytes st) (state_at to (set_register rd (code_base + (place + 4)) registers) bytes st)
    goes_to rd target to there aligned e access = by_one n _ _ refl
        (λ answer. step_is answer ∙ (e answer ∙ rw (there, eq-eqb ((code_base + to) % 4) 0 (omega arith))
        (λ i. record {
          shown = Nothing;
          told = Silent;
          state = record {
            pc = code_base + to;
            registers = set_register rd
                (following_is i) registers;
            bytes = bytes;
            holdings = st.holdings;
            mode = Runs;
          };
        })))
        (is_lawful access)

  -- ---- words in memory, where the audit and the memory map allow them

  -- an access of so many bytes lies where it may, for a program with this x2
  pub record IsAllowed (x2 at width : ℕ) : Type 0 where
    pub aligned : at % width ≡ 0
    pub writable : is_writable n at width ≡ true
    pub lawful : (s : Machine) → s.registers 2 ≡ x2 → s.store ≡ st → is_lawful_store n (bare s) at width ≡ true
    pub small : at + width < 2 ^ 32
    pub above : data_base ≤ at

  module _ (place : ℕ) (registers bytes : ℕ → ℕ) (below : IsKeptBelow kept bytes) (at : ℕ) where
    pub loads_word : IsAllowed (registers 2) at 4 → (rd pointer : ℕ) (offset : ℤ) → HasInstr n kept (code_base + place) (Lw rd pointer offset)
        → address (state_of (state_at place registers bytes st)) pointer offset ≡ at
        → Moves n 1 (state_at place registers bytes st) (state_at (place + 4) (set_register rd (word_at bytes at) registers) bytes st)
    loads_word allowed rd pointer offset has there =
        let s = state_of (state_at place registers bytes st) in
        let m = state_at place registers bytes st in
        let readable : is_readable n at 4 ≡ true = or_right (is_within code_base n.code at 4) _ allowed.writable in
        let found : loads n 4 rd at (word_at bytes at) s ≡ gives rd (word_at bytes at) s = rw (eq-eqb (at % 4) 0 allowed.aligned, readable) refl in
        gives_value place registers bytes below (Lw rd pointer offset) has rd (word_at bytes at)
        (λ answer. ap (λ a. loads n 4 rd a (word_at bytes a) s) there ∙ found)
        (λ _ _. rw there (or_right (is_within code_base n.code at 4) _ (allowed.lawful m refl refl)))

    pub stores_word : IsAllowed (registers 2) at 4 → (pointer from : ℕ) (offset : ℤ) → HasInstr n kept (code_base + place) (Sw pointer from offset)
        → address (state_of (state_at place registers bytes st)) pointer offset ≡ at
        → Moves n 1 (state_at place registers bytes st) (state_at (place + 4) registers
        (set_word at (register_of (state_of (state_at place registers bytes st)) from) bytes) st)
    stores_word allowed pointer from offset has there =
        let s = state_of (state_at place registers bytes st) in
        let m = state_at place registers bytes st in
        let value = register_of s from in
        let new = set_word at value bytes in
        let found : stores n 4 at new s ≡ onward (following s) (record s { bytes = new }) = rw (eq-eqb (at % 4) 0 allowed.aligned, allowed.writable) refl in
        puts_bytes place registers bytes below (Sw pointer from offset) has new
        (λ answer. ap (λ a. stores n 4 a (set_word a value bytes) s) there ∙ found)
        (λ _ _. rw there (allowed.lawful m refl refl))

    pub stores_byte : IsAllowed (registers 2) at 1 → (pointer from : ℕ) (offset : ℤ) → HasInstr n kept (code_base + place) (Sb pointer from offset)
        → address (state_of (state_at place registers bytes st)) pointer offset ≡ at
        → Moves n 1 (state_at place registers bytes st) (state_at (place + 4) registers
        (set_byte at (register_of (state_of (state_at place registers bytes st)) from % 2 ^ 8) bytes) st)
    stores_byte allowed pointer from offset has there =
        let s = state_of (state_at place registers bytes st) in
        let m = state_at place registers bytes st in
        let value = register_of s from % 2 ^ 8 in
        let new = set_byte at value bytes in
        let found : stores n 1 at new s ≡ onward (following s) (record s { bytes = new }) = rw (eq-eqb (at % 1) 0 allowed.aligned, allowed.writable) refl in
        puts_bytes place registers bytes below (Sb pointer from offset) has new
        (λ answer. ap (λ a. stores n 1 a (set_byte a value bytes) s) there ∙ found)
        (λ _ _. rw there (allowed.lawful m refl refl))
