-- Loads of a part of an object, and stores into one, wherever it stands: at a distance from what a register has.
use Rattle.core_lines.specs.Machines.{state_of}
use Rattle.std.specs.Prelude.{nat_eq, if◌then◌else◌}
use Rattle.std.proofs.Common.{
  ◌≡◌,
  ℕ,
  ℤ,
  suc,
  ◌+◌,
  ◌*◌,
  ◌%◌,
  ◌^◌,
  ◌<◌,
  ⊎_elim,
  inl,
  inr,
  Bool,
  true,
  false,
  List,
  [],
  ◌∷◌,
  ◌++◌,
  Some,
  refl,
  sym,
  ap,
  subst,
  ◌∙◌,
  arith,
}
use Rattle.std.proofs.lemmas.Bool.{eq-eqb, eqb-true, or_right}
use Rattle.cyc_words.specs.Words.{word, sum_of}
use Rattle.rv32_isa.specs.declared.instruction.Instr.TheVariants.{Lui, Add, Lbu, Lw, Sb, Sw}
use Rattle.core_meaning.specs.Memory.{Spot, Part, Memory, is_live}
use Rattle.core_lines.specs.Machines.{Machine, Store}
use Rattle.rv32_machine.specs.State.{code_base, is_within, is_readable, set_register, register_of, word_at}
use Rattle.rv32_machine.specs.Step.{gives, address}
use Rattle.core_lines.specs.declared.line.Line.{Line}
use Rattle.core_lines.specs.declared.line.Line.TheVariants.{Plain}
use Rattle.core_lines.specs.Lines.{HasInstr, code_length}
use Rattle.core_lines.specs.Frames.{is_short, upper_of, lower_of}
use Rattle.core_lines.specs.Lies.{Maps, Shows, read, Cell, PartLies}
use Rattle.core_lines.specs.Selected.{far_code, read_code}
use Rattle.core_lines.proofs.memory.Relations.{Moves, World, IsInOrder, Has, Waiting}
use Rattle.core_lines.proofs.memory.Moving.{Reach, Comes, comes_then}
use Rattle.core_lines.proofs.memory.Bytes.{word_is_small}
use Rattle.core_lines.proofs.memory.Words.{parts_added, short_word}
use Rattle.core_lines.proofs.Steps.{state_at, IsKeptBelow, IsAllowed, gives_value, loads_word}
use Rattle.core_lines.proofs.memory.Slots.{Kept, set_here, set_there}
use Rattle.core_lines.proofs.memory.Fitting.{allowed, IsWidth}
use Rattle.core_lines.proofs.memory.Access.{written_out}
use Rattle.core_lines.proofs.memory.Storing.{live_lasts}
use Rattle.core_lines.proofs.homes.Homes.{set_stays}
use Rattle.core_lines.specs.Homes.{stays}
use Rattle.core_lines.proofs.operations.Holding.{spare_apart, IsFree, Stable}
use Rattle.core_lines.proofs.operations.Registers.{AtWith, InRegister, puts, elsewhere}
use Rattle.rv32_machine.specs.Step as machine

-- ---- operands

-- an operand isn't in x7
pub operand_not_7 : (spare r : ℕ) → nat_eq spare 7 ≡ false → IsFree spare r → nat_eq r 7 ≡ false
operand_not_7 spare r not7 (inl is) = ap (λ k. nat_eq k 7) (eqb-true r spare is) ∙ not7
operand_not_7 spare r not7 (inr free) = spare_apart r 7 free refl

-- an operand's register is read as it is
pub register_is : (place : ℕ) (registers bytes : ℕ → ℕ) (st : Store) (q : ℕ) → (f : ℕ) × (q ≡ suc f)
    → register_of (state_of (state_at place registers bytes st)) q ≡ registers q
register_is place registers bytes st q (f, is) =
    subst (λ q. register_of (state_of (state_at place registers bytes st)) q ≡ registers q) (sym is) refl

-- ---- where parts are

-- an address is that of a part of an object
pub record Reaches (m : Maps) (there : Spot) (part : Part) (at : ℕ) : Type 0 where
  pub base : ℕ
  pub known : m.base there.region there.object ≡ Some base
  pub place : at ≡ base + part.offset

-- ---- a byte

module _ (w : World) (order : IsInOrder w) (st : Store) (place : ℕ) (registers bytes : ℕ → ℕ) (below : IsKeptBelow w.code bytes) (at : ℕ) where
  pub loads_byte : IsAllowed w.areas w.code order.code_within st (registers 2) at 1 → (rd pointer : ℕ) (offset : ℤ)
      → HasInstr w.areas w.code (code_base + place) (Lbu rd pointer offset) → address (state_of (state_at place registers bytes st)) pointer offset ≡ at
      → Moves w.areas 1 (state_at place registers bytes st) (state_at (place + 4) (set_register rd (bytes at) registers) bytes st)
  loads_byte may rd pointer offset has there =
      let s = state_of (state_at place registers bytes st) in
      let readable : is_readable w.areas at 1 ≡ true = or_right (is_within code_base w.areas.code at 1) _ may.writable in
      let found : machine.loads w.areas 1 rd at (bytes at) s ≡ gives rd (bytes at) s = rw (eq-eqb (at % 1) 0 may.aligned, readable) refl in
      gives_value w.areas w.code order.code_within st place registers bytes below (Lbu rd pointer offset) has rd (bytes at)
      (λ answer. ap (λ a. machine.loads w.areas 1 rd a (bytes a) s) there ∙ found)
      (λ _ _. rw there (or_right (is_within code_base w.areas.code at 1) _ (may.lawful (state_at place registers bytes st) refl refl)))

-- ---- a part

-- one instruction that reads, and one that writes
abbrev pub read_access : Bool → ℕ → ℕ → ℤ → List Line
read_access one to from offset = (if one then Plain (Lbu to from offset) else Plain (Lw to from offset)) ∷ []

abbrev pub write_access : Bool → ℕ → ℕ → ℤ → List Line
write_access one value from offset = (if one then Plain (Sb from value offset) else Plain (Sw from value offset)) ∷ []

module _ (w : World) (order : IsInOrder w) (x : Waiting) (outer : List Waiting) (mem : Memory)
    (there : Spot) (j : ℕ) (part : Part) (is : mem.parts there j ≡ Some part) (live : is_live (mem.standing there.region) ≡ true) where
  pub part_lies : (m : Maps) (at : ℕ) → Reaches m there part at → PartLies m mem there j at part.width part.content
  part_lies m at r = record {
    base = r.base;
    offset = part.offset;
    known = r.known;
    there = r.place;
    has = is;
    lasts = live_lasts (mem.standing there.region) live;
  }

  -- what is known of an access there
  pub record Access (place : ℕ) (P : Maps → (ℕ → ℕ) → Type 0) (s : Machine) (a : AtWith w x outer mem place P s) (at : ℕ) : Type 0 where
    pub wide : IsWidth part.width
    pub may : IsAllowed w.areas w.code order.code_within s.store (s.registers 2) at part.width

  pub access : (place : ℕ) (P : Maps → (ℕ → ℕ) → Type 0) (s : Machine) (a : AtWith w x outer mem place P s) (at : ℕ) → Reaches a.maps there part at
      → Access place P s a at
  access place P s a at r =
      let fs = a.frame ∷ a.others in
      let lies = part_lies a.maps at r in
      let fits = a.stands.fits in
      let good = fits.aligned (Cell there j) at part.width part.content lies in
      let may = allowed w.areas order.statics_within order.pages_within order.stack_within order.code_within w.code s.store a.sp fs a.stands.stacked
      (Cell there j) at part.width
      (fits.ground (Cell there j) at part.width part.content lies) good.0 good.1 in
      record {
        wide = good.0;
        may = subst (λ p. IsAllowed w.areas w.code order.code_within s.store p at part.width) (sym a.stands.pointer) may;
      }

  -- ---- reads

  -- the part is in a register, and something else is so
  abbrev Behind : ℕ → (Maps → (ℕ → ℕ) → Type 0) → Maps → (ℕ → ℕ) → Type 0
  Behind to Q m registers = InRegister to part.content m registers × Q m registers

  -- into a register, where something stays
  module _ (r f : ℕ) (offset : ℤ) (place : ℕ) (P Q : Maps → (ℕ → ℕ) → Type 0) (other : stays (suc r) ≡ false)
      (reach : (m : Maps) (registers : ℕ → ℕ) → P m registers → (at : ℕ) ×
      (Reaches m there part at × ((at < 2 ^ 32) → sum_of (registers (suc f)) (word offset) ≡ at)))
      (keeps : (m : Maps) (new old : ℕ → ℕ) → Kept (suc r) new old → P m old → Q m new) where
    read_one : (one : Bool) → nat_eq part.width 1 ≡ one → Has w place (read_access one (suc r) (suc f) offset)
        → Comes w (AtWith w x outer mem place P) (AtWith w x outer mem (place + 4) (Behind (suc r) Q))
    read_one one e has = record { count = 1; by = λ s a. by s a one e has }
      where
        by : (s : Machine) → AtWith w x outer mem place P s → (one : Bool) → nat_eq part.width 1 ≡ one → Has w place (read_access one (suc r) (suc f) offset)
            → Reach w.areas 1 (AtWith w x outer mem (place + 4) (Behind (suc r) Q)) s
        by s a one e has =
            let found = reach a.maps s.registers a.holds in
            let at = found.0 in
            let ac = access place P s a at found.1.0 in
            let small = ac.may.small in
            let address_is : sum_of (s.registers (suc f)) (word offset) ≡ at = found.1.1 (omega (arith, small)) in
            let aligned = a.stands.aligned in
            let fits = a.stands.fits in
            let now = state_at place s.registers s.bytes s.store in
            let here = written_out w order mem place a.maps (a.frame ∷ a.others) a.sp s a.stands in
            let finish : (value : ℕ) → value ≡ read s.bytes at part.width → value < 2 ^ 32
            → Moves w.areas 1 now (state_at (place + 4) (set_register (suc r) value s.registers) s.bytes s.store)
            → Reach w.areas 1 (AtWith w x outer mem (place + 4) (Behind (suc r) Q)) s =
            λ value same below moves. record {
              next = state_at (place + 4) (set_register (suc r) value s.registers) s.bytes s.store;
              moves = subst (λ (t : Machine). Moves w.areas 1 t (state_at (place + 4) (set_register (suc r) value s.registers) s.bytes s.store)) (sym here)
                  moves;
              there = elsewhere w order x outer mem place (place + 4) P (Behind (suc r) Q) s a (set_register (suc r) value s.registers)
                  (omega (arith, aligned)) (set_stays r value s.registers other) (
                    subst (λ n. Shows a.maps part.content n × (n < 2 ^ 32)) (sym (set_here r value s.registers)) (
                      subst (λ v. Shows a.maps part.content v) (sym same) (fits.shows (Cell there j) at part.width part.content
                          (part_lies a.maps at found.1.0)),
                      below,
                    ),
                    keeps a.maps (set_register (suc r) value s.registers) s.registers (λ q not7 differs. set_there (suc r) value q s.registers differs) a.holds,
                  );
            } in
            at_width one e has at ac.wide ac.may address_is finish a.stands.kept a.stands.small
          where
            at_width : (one : Bool) → nat_eq part.width 1 ≡ one → Has w place (read_access one (suc r) (suc f) offset) → (at : ℕ) → IsWidth part.width
                → IsAllowed w.areas w.code order.code_within s.store (s.registers 2) at part.width → sum_of (s.registers (suc f)) (word offset) ≡ at
                → ((value : ℕ) → value ≡ read s.bytes at part.width → value < 2 ^ 32
                → Moves w.areas 1 (state_at place s.registers s.bytes s.store) (state_at (place + 4) (set_register (suc r) value s.registers) s.bytes s.store)
                → Reach w.areas 1 (AtWith w x outer mem (place + 4) (Behind (suc r) Q)) s)
                → IsKeptBelow w.code s.bytes → ((q : ℕ) → s.bytes q < 256)
                → Reach w.areas 1 (AtWith w x outer mem (place + 4) (Behind (suc r) Q)) s
            at_width true e has at wide may address_is finish below bytes_small =
                let one_wide : part.width ≡ 1 = eqb-true part.width 1 e in
                let value_small = bytes_small at in
                finish (s.bytes at) (sym (ap (λ k. read s.bytes at k) one_wide)) (omega (arith, value_small))
                (loads_byte w order s.store place s.registers s.bytes below at
                (subst (λ k. IsAllowed w.areas w.code order.code_within s.store (s.registers 2) at k) one_wide may) (suc r) (suc f) offset has.0.0 address_is)
            at_width false e has at wide may address_is finish below bytes_small =
                let four_wide : part.width ≡ 4 =
                ⊎_elim (λ (h : part.width ≡ 1). absurd (cc (e, eq-eqb part.width 1 h))) (λ (h : part.width ≡ 4). h) wide in
                finish (word_at s.bytes at) (sym (ap (λ k. read s.bytes at k) four_wide))
                (word_is_small s.bytes at (bytes_small at) (bytes_small (at + 1)) (bytes_small (at + 2)) (bytes_small (at + 3)))
                (loads_word w.areas w.code order.code_within s.store place s.registers s.bytes below at
                (subst (λ k. IsAllowed w.areas w.code order.code_within s.store (s.registers 2) at k) four_wide may) (suc r) (suc f) offset has.0.0 address_is)

  -- A part lies so many bytes on from a register, which isn't x7, and what else is so: with x7 as the address less what the instruction adds.
  abbrev pub Far : ℕ → ℕ → (Maps → (ℕ → ℕ) → Type 0) → Maps → (ℕ → ℕ) → Type 0
  Far from off Q m registers = Reaches m there part (registers from + off) × (nat_eq from 7 ≡ false) × Q m registers

  abbrev pub Based : ℕ → ℕ → (Maps → (ℕ → ℕ) → Type 0) → Maps → (ℕ → ℕ) → Type 0
  Based from off Q m registers = (registers 7 ≡ sum_of (upper_of off * 2 ^ 12) (registers from)) × Far from off Q m registers

  module _ (f off : ℕ) (Q : Maps → (ℕ → ℕ) → Type 0) where
    abbrev Begun : Maps → (ℕ → ℕ) → Type 0
    Begun m registers = (registers 7 ≡ upper_of off * 2 ^ 12) × Far (suc f) off Q m registers

    -- it is so where x7 changes
    far_stays : Stable 7 Q → (m : Maps) (value : ℕ) (registers : ℕ → ℕ) → Far (suc f) off Q m registers
        → Far (suc f) off Q m (set_register 7 value registers)
    far_stays stable m value registers h = (
      subst (λ v. Reaches m there part (v + off)) (sym (set_there 7 value (suc f) registers h.1)) h.0,
      h.1,
      stable m (set_register 7 value registers) registers (λ q not7 differs. set_there 7 value q registers differs) h.2,
    )

    pub far_base : Stable 7 Q → (place : ℕ) → Has w place (far_code (suc f) off)
        → Comes w (AtWith w x outer mem place (Far (suc f) off Q)) (AtWith w x outer mem (place + 4 + 4) (Based (suc f) off Q))
    far_base stable place has =
        comes_then w _ (AtWith w x outer mem (place + 4) Begun) _
        (puts w order x outer mem 6 place (Far (suc f) off Q) Begun (Lui 7 (upper_of off)) (λ registers. upper_of off * 2 ^ 12) refl has.0.0
        (λ r b st n. refl) (λ _. tt) (λ m registers h. (refl, far_stays stable m (upper_of off * 2 ^ 12) registers h)))
        (puts w order x outer mem 6 (place + 4) Begun (Based (suc f) off Q) (Add 7 7 (suc f))
        (λ registers. sum_of (registers 7) (registers (suc f))) refl has.2.0.0 (λ r b st n. refl) (λ _. tt)
        (λ m registers h. let same = set_there 7 (sum_of (registers 7) (registers (suc f))) (suc f) registers h.1.1 in (
          ap (λ k. sum_of k (registers (suc f))) h.0 ∙ ap (λ k. sum_of (upper_of off * 2 ^ 12) k) (sym same),
          far_stays stable m (sum_of (registers 7) (registers (suc f))) registers h.1,
        )))

    -- the addresses that the instructions come to
    pub near_reach : is_short off ≡ true → (m : Maps) (registers : ℕ → ℕ) → Far (suc f) off Q m registers
        → (at : ℕ) × (Reaches m there part at × ((at < 2 ^ 32) → sum_of (registers (suc f)) (word (lower_of off)) ≡ at))
    near_reach short m registers h =
        (registers (suc f) + off, (h.0, λ small. let same = short_word off short (omega (arith, small)) in omega (arith, same, small)))

    pub far_reach : (m : Maps) (registers : ℕ → ℕ) → Based (suc f) off Q m registers
        → (at : ℕ) × (Reaches m there part at × ((at < 2 ^ 32) → sum_of (registers 7) (word (lower_of off)) ≡ at))
    far_reach m registers h = (
      registers (suc f) + off,
      (
        h.1.0,
        λ small.
            let same = parts_added off (registers (suc f)) in
            ap (λ k. sum_of k (word (lower_of off))) h.0 ∙ omega (arith, same, small),
      ),
    )

  abbrev read_lines : ℕ → ℕ → ℕ → Bool → Bool → List Line
  read_lines to from off short one =
      (if short then read_access one to from (lower_of off) else far_code from off ++ read_access one to 7 (lower_of off))

  -- a part so many bytes on from a register, into another one, where something stays
  pub reads : (r from off place : ℕ) (Q Q' : Maps → (ℕ → ℕ) → Type 0) → stays (suc r) ≡ false → (f : ℕ) × (from ≡ suc f) → Stable 7 Q
      → ((m : Maps) (new old : ℕ → ℕ) → Kept (suc r) new old → Q m old → Q' m new) → Has w place (read_code (suc r) part.width from off)
      → Comes w (AtWith w x outer mem place (Far from off Q))
      (AtWith w x outer mem (place + code_length (read_code (suc r) part.width from off)) (Behind (suc r) Q'))
  reads r from off place Q Q' other (f, is) stable keeps =
      subst (λ from. Has w place (read_code (suc r) part.width from off) → Comes w (AtWith w x outer mem place (Far from off Q))
      (AtWith w x outer mem (place + code_length (read_code (suc r) part.width from off)) (Behind (suc r) Q'))) (sym is)
      (λ has. by (is_short off) refl (nat_eq part.width 1) refl has)
    where
      one_length : (one : Bool) (to from : ℕ) (imm : ℤ) → code_length (read_access one to from imm) ≡ 4
      one_length true to from imm = refl
      one_length false to from imm = refl

      far_length : (one : Bool) → code_length (far_code (suc f) off ++ read_access one (suc r) 7 (lower_of off)) ≡ 12
      far_length true = refl
      far_length false = refl

      by : (short : Bool) → is_short off ≡ short → (one : Bool) → nat_eq part.width 1 ≡ one → Has w place (read_lines (suc r) (suc f) off short one)
          → Comes w (AtWith w x outer mem place (Far (suc f) off Q))
          (AtWith w x outer mem (place + code_length (read_lines (suc r) (suc f) off short one)) (Behind (suc r) Q'))
      by true short one e has =
          let end : place + 4 ≡ place + code_length (read_access one (suc r) (suc f) (lower_of off)) = ap (λ k. place + k)
          (sym (one_length one (suc r) (suc f) (lower_of off))) in
          subst (λ p. Comes w (AtWith w x outer mem place (Far (suc f) off Q)) (AtWith w x outer mem p (Behind (suc r) Q'))) end
          (read_one r f (lower_of off) place (Far (suc f) off Q) Q' other (near_reach f off Q short)
          (λ m new old kept h. keeps m new old kept h.2) one e has)
      by false long one e has =
          let end : place + 4 + 4 + 4 ≡ place + code_length (far_code (suc f) off ++ read_access one (suc r) 7 (lower_of off)) =
          omega (arith, far_length one) in
          subst (λ p. Comes w (AtWith w x outer mem place (Far (suc f) off Q)) (AtWith w x outer mem p (Behind (suc r) Q'))) end
          (comes_then w _ _ _ (far_base f off Q stable place (has.0, has.1, (has.2.0, has.2.1, tt)))
          (read_one r 6 (lower_of off) (place + 4 + 4) (Based (suc f) off Q) Q' other (far_reach f off Q)
          (λ m new old kept h. keeps m new old kept h.1.2) one e has.2.2))
