-- The loops over bytes: each turn writes a unit, until all are written. They are told by bytes alone.
use Rattle.std.specs.Prelude.{nat_eq, not}
use Rattle.std.proofs.Common.{◌≡◌, ℕ, ℤ, zero, suc, pos, negsuc, ◌+◌, ◌*◌, ◌%◌, ◌^◌, ◌<◌, ◌≤◌, ◌⊎◌, inl, inr, ⊎_elim, Bool, true, false, refl, sym, ap, subst}
use Rattle.std.proofs.Common.{◌∙◌, arith}
use Rattle.std.proofs.lemmas.Bool.{eq-eqb, ne_eqb}
use Rattle.cyc_words.specs.Words.{word, sum_of}
use Rattle.rv32_isa.specs.declared.instruction.Instr.{Instr}
use Rattle.rv32_isa.specs.declared.instruction.Instr.TheVariants as instr
use Rattle.rv32_machine.specs.State.{code_base, register_of, set_register}
use Rattle.rv32_machine.specs.Step.{branches}
use Rattle.core_lines.specs.Machines.{Store, state_of}
use Rattle.core_lines.specs.Lines.{HasInstr}
use Rattle.core_lines.specs.Loops.{copy_loop, clear_loop}
use Rattle.core_lines.proofs.homes.Homes.{Stays, set_stays, stays_on}
use Rattle.core_lines.proofs.memory.Relations.{Moves, World, IsInOrder, Has}
use Rattle.core_lines.proofs.memory.Moving.{and_then}
use Rattle.core_lines.proofs.Steps.{state_at, IsKeptBelow, IsAllowed, is_in_code, gives_value, passes, goes_to, loads_word, stores_word, stores_byte}
use Rattle.core_lines.proofs.operations.Reaching.{loads_byte}
use Rattle.core_lines.proofs.operations.Filling.{unit_size, get_unit, set_unit, unit_other, unit_small, unit_copied, unit_cleared, Filled, filled_none}
use Rattle.core_lines.proofs.operations.Filling.{filled_more}

-- the instructions of so many turns and one more
abbrev pub turn_count : ℕ → ℕ → ℕ
turn_count count zero = count + 1
turn_count count (suc left) = count + 1 + turn_count count left

module _ (w : World) (order : IsInOrder w) (st : Store) (x2 : ℕ) (first : ℕ → ℕ) where
  abbrev Allowed : ℕ → ℕ → Type 0
  Allowed at width = IsAllowed w.areas w.code order.code_within st x2 at width

  -- ---- any such loop: a turn of so many instructions, and a branch back

  -- so many bytes are written, of those up to x7; of x6 something is known
  pub record Running (to n : ℕ) (b : ℕ → ℕ) (v : ℕ → ℕ) (Six : ℕ → ℕ → Type 0) (i : ℕ) (registers bytes : ℕ → ℕ) : Type 0 where
    pub five : registers 5 ≡ to + i
    pub six : Six i (registers 6)
    pub seven : registers 7 ≡ to + n
    pub two : registers 2 ≡ x2
    pub stay : Stays registers first
    pub filled : Filled b bytes to i v
    pub kept : IsKeptBelow w.code bytes
    pub small : (q : ℕ) → bytes q < 256

  -- by so many instructions there are so many bytes
  pub record Runs (place behind count to n : ℕ) (b : ℕ → ℕ) (v : ℕ → ℕ) (Six : ℕ → ℕ → Type 0) (i : ℕ) (registers bytes : ℕ → ℕ) : Type 0 where
    pub new : ℕ → ℕ
    pub new_bytes : ℕ → ℕ
    pub moves : Moves w.areas count (state_at place registers bytes st) (state_at behind new new_bytes st)
    pub there : Running to n b v Six i new new_bytes

  module _ (place last behind count size : ℕ) (offset : ℤ) (has : HasInstr w.areas w.code (code_base + last) (instr.Bne 5 7 offset))
      (back : sum_of (code_base + last) (word offset) ≡ code_base + place) (next : last + 4 ≡ behind) (aligned : place % 4 ≡ 0) (some : 0 < size)
      (to n : ℕ) (b : ℕ → ℕ) (v : ℕ → ℕ) (Six : ℕ → ℕ → Type 0)
      (turn : (i : ℕ) → i + size ≤ n → (registers bytes : ℕ → ℕ) → Running to n b v Six i registers bytes
      → Runs place last count to n b v Six (i + size) registers bytes) where
    again : (registers bytes : ℕ → ℕ) → IsKeptBelow w.code bytes → nat_eq (registers 5) (registers 7) ≡ false
        → Moves w.areas 1 (state_at last registers bytes st) (state_at place registers bytes st)
    again registers bytes below other =
        goes_to w.areas w.code order.code_within st last registers bytes below (instr.Bne 5 7 offset) has 0 (sum_of (code_base + last) (word offset)) place back
        aligned (λ answer. ap (λ c. branches (not c) offset (state_of (state_at last registers bytes st))) other) tt

    ends : (registers bytes : ℕ → ℕ) → IsKeptBelow w.code bytes → nat_eq (registers 5) (registers 7) ≡ true
        → Moves w.areas 1 (state_at last registers bytes st) (state_at behind registers bytes st)
    ends registers bytes below same =
        subst (λ p. Moves w.areas 1 (state_at last registers bytes st) (state_at p registers bytes st)) next
        (passes w.areas w.code order.code_within st last registers bytes below (instr.Bne 5 7 offset) has
        (λ answer. ap (λ c. branches (not c) offset (state_of (state_at last registers bytes st))) same) tt)

    pub loops : (left i : ℕ) → i + suc left * size ≡ n → (registers bytes : ℕ → ℕ) → Running to n b v Six i registers bytes
        → Runs place behind (turn_count count left) to n b v Six n registers bytes
    loops zero i e registers bytes r =
        let one = turn i (omega (arith, e)) registers bytes r in
        let end : i + size ≡ n = omega (arith, e) in
        let there = subst (λ k. Running to n b v Six k one.new one.new_bytes) end one.there in
        record {
          new = one.new;
          new_bytes = one.new_bytes;
          moves = and_then w.areas _ _ _ count 1 one.moves
              (ends one.new one.new_bytes one.there.kept (eq-eqb (one.new 5) (one.new 7) (there.five ∙ sym there.seven)));
          there = there;
        }
    loops (suc left) i e registers bytes r =
        let one = turn i (omega (arith, e)) registers bytes r in
        let five = one.there.five in
        let seven = one.there.seven in
        let rest = loops left (i + size) (omega (arith, e)) one.new one.new_bytes one.there in
        record {
          new = rest.new;
          new_bytes = rest.new_bytes;
          moves = and_then w.areas _ _ _ (count + 1) (turn_count count left)
              (and_then w.areas _ _ _ count 1 one.moves
              (again one.new one.new_bytes one.there.kept (ne_eqb (one.new 5) (one.new 7) (λ same. omega (arith, same, five, seven, e, some)))))
              rest.moves;
          there = rest.there;
        }

  -- ---- a unit from x6 into x28, and from a register to x5

  abbrev load_instr : Bool → Instr
  load_instr true = instr.Lw 28 6 (pos 0)
  load_instr false = instr.Lbu 28 6 (pos 0)

  abbrev store_instr : Bool → ℕ → Instr
  store_instr true from = instr.Sw 5 from (pos 0)
  store_instr false from = instr.Sb 5 from (pos 0)

  module _ (place : ℕ) (registers bytes : ℕ → ℕ) (below : IsKeptBelow w.code bytes) (two : registers 2 ≡ x2) (at : ℕ) where
    allowed_here : (width : ℕ) → Allowed at width → IsAllowed w.areas w.code order.code_within st (registers 2) at width
    allowed_here width may = subst (λ p. IsAllowed w.areas w.code order.code_within st p at width) (sym two) may

    at_register : (r : ℕ) → registers (suc r) ≡ at → at < 2 ^ 32 → sum_of (registers (suc r)) (word (pos 0)) ≡ at
    at_register r is few = omega (arith, is, few)

    loads_unit : (words : Bool) → Allowed at (unit_size words) → registers 6 ≡ at → HasInstr w.areas w.code (code_base + place) (load_instr words)
        → Moves w.areas 1 (state_at place registers bytes st) (state_at (place + 4) (set_register 28 (get_unit words bytes at) registers) bytes st)
    loads_unit true may is has =
        let few = may.small in
        loads_word w.areas w.code order.code_within st place registers bytes below at (allowed_here 4 may) 28 6 (pos 0) has
        (at_register 5 is (omega (arith, few)))
    loads_unit false may is has =
        let few = may.small in
        loads_byte w order st place registers bytes below at (allowed_here 1 may) 28 6 (pos 0) has (at_register 5 is (omega (arith, few)))

    stores_unit : (words : Bool) (from : ℕ) → Allowed at (unit_size words) → registers 5 ≡ at
        → HasInstr w.areas w.code (code_base + place) (store_instr words from)
        → Moves w.areas 1 (state_at place registers bytes st) (state_at (place + 4) registers
        (set_unit words at (register_of (state_of (state_at place registers bytes st)) from) bytes) st)
    stores_unit true from may is has =
        let few = may.small in
        stores_word w.areas w.code order.code_within st place registers bytes below at (allowed_here 4 may) 5 from (pos 0) has
        (at_register 4 is (omega (arith, few)))
    stores_unit false from may is has =
        let few = may.small in
        stores_byte w.areas w.code order.code_within st place registers bytes below at (allowed_here 1 may) 5 from (pos 0) has
        (at_register 4 is (omega (arith, few)))

  whole_unit : (words : Bool) (i : ℕ) → i % unit_size words ≡ 0 → (i + unit_size words) % unit_size words ≡ 0
  whole_unit true i whole = omega (arith, whole)
  whole_unit false i whole = omega arith

  no_unit : (words : Bool) → 0 % unit_size words ≡ 0
  no_unit true = refl
  no_unit false = refl

  some_unit : (words : Bool) → 0 < unit_size words
  some_unit true = omega arith
  some_unit false = omega arith

  -- ---- a copy

  -- x6 is so many units on
  abbrev pub Reading : Bool → ℕ → ℕ → ℕ → Type 0
  Reading words from i x = (x ≡ from + i) × (i % unit_size words ≡ 0)

  record HasCopy (words : Bool) (place : ℕ) : Type 0 where
    pub loads : HasInstr w.areas w.code (code_base + place) (load_instr words)
    pub stores : HasInstr w.areas w.code (code_base + (place + 4)) (store_instr words 28)
    pub to_next : HasInstr w.areas w.code (code_base + (place + 4 + 4)) (instr.Addi 5 5 (pos (unit_size words)))
    pub from_next : HasInstr w.areas w.code (code_base + (place + 4 + 4 + 4)) (instr.Addi 6 6 (pos (unit_size words)))
    pub branch : HasInstr w.areas w.code (code_base + (place + 4 + 4 + 4 + 4)) (instr.Bne 5 7 (negsuc 15))

  has_copy : (words : Bool) (place : ℕ) → Has w place (copy_loop words) → HasCopy words place
  has_copy true place has = record {
    loads = has.0.0;
    stores = has.2.0.0;
    to_next = has.2.2.0.0;
    from_next = has.2.2.2.0.0;
    branch = has.2.2.2.2.0.0;
  }
  has_copy false place has = record {
    loads = has.0.0;
    stores = has.2.0.0;
    to_next = has.2.2.0.0;
    from_next = has.2.2.2.0.0;
    branch = has.2.2.2.2.0.0;
  }

  module _ (words : Bool) (place : ℕ) (has : Has w place (copy_loop words)) (aligned : place % 4 ≡ 0) (to from n : ℕ) (b : ℕ → ℕ)
      (may_to : (i : ℕ) → i + unit_size words ≤ n → i % unit_size words ≡ 0 → Allowed (to + i) (unit_size words))
      (may_from : (i : ℕ) → i + unit_size words ≤ n → i % unit_size words ≡ 0 → Allowed (from + i) (unit_size words))
      (apart : (from + n ≤ to) ⊎ (to + n ≤ from)) where
    abbrev source : ℕ → ℕ
    source j = b (from + j)

    copy_turn : (i : ℕ) → i + unit_size words ≤ n → (registers bytes : ℕ → ℕ) → Running to n b source (Reading words from) i registers bytes
        → Runs place (place + 4 + 4 + 4 + 4) 4 to n b source (Reading words from) (i + unit_size words) registers bytes
    copy_turn i within registers bytes r =
        let code = has_copy words place has in
        let whole = r.six.1 in
        let to_may = may_to i within whole in
        let from_may = may_from i within whole in
        let size = unit_size words in
        let x = get_unit words bytes (from + i) in
        let one = set_register 28 x registers in
        let written = set_unit words (to + i) x bytes in
        let moved = sum_of (registers 5) (word (pos size)) in
        let two = set_register 5 moved one in
        let moved' = sum_of (registers 6) (word (pos size)) in
        let three = set_register 6 moved' two in
        let above = to_may.above in
        let kept : IsKeptBelow w.code written = λ q under. unit_other words (to + i) x bytes q (inl (omega (arith, under, above))) ∙ r.kept q under in
        let end = to_may.small in
        let end' = from_may.small in
        let five = r.five in
        let six = r.six.0 in
        record {
          new = three;
          new_bytes = written;
          moves = and_then w.areas _ _ _ 3 1
              (and_then w.areas _ _ _ 2 1
              (and_then w.areas _ _ _ 1 1
              (loads_unit place registers bytes r.kept r.two (from + i) words from_may r.six.0 code.loads)
              (stores_unit (place + 4) one bytes r.kept r.two (to + i) words 28 to_may r.five code.stores))
              (gives_value w.areas w.code order.code_within st (place + 4 + 4) one written kept (instr.Addi 5 5 (pos size)) code.to_next 5 moved
              (λ answer. refl) tt))
              (gives_value w.areas w.code order.code_within st (place + 4 + 4 + 4) two written kept (instr.Addi 6 6 (pos size)) code.from_next 6 moved'
              (λ answer. refl) tt);
          there = record {
            five = omega (arith, five, end);
            six = (omega (arith, six, end'), whole_unit words i whole);
            seven = r.seven;
            two = r.two;
            stay = stays_on three two first (set_stays 5 moved' two refl) (stays_on two one first (set_stays 4 moved one refl)
                (stays_on one registers first (set_stays 27 x registers refl) r.stay));
            filled = filled_more words b bytes to i x source r.filled (λ d less.
                unit_copied words (to + i) (from + i) bytes r.small d less
                ∙ r.filled.outside (from + i + d)
                (⊎_elim (λ (low : from + n ≤ to). inl (omega (arith, low, within, less))) (λ (high : to + n ≤ from). inr (omega (arith, high, within))) apart)
                ∙ ap b (omega arith));
            kept = kept;
            small = λ q. unit_small words (to + i) x bytes q (r.small q);
          };
        }

    pub copies : (left : ℕ) → suc left * unit_size words ≡ n → (registers : ℕ → ℕ) → registers 5 ≡ to → registers 6 ≡ from → registers 7 ≡ to + n
        → registers 2 ≡ x2 → Stays registers first → IsKeptBelow w.code b → ((q : ℕ) → b q < 256)
        → Runs place (place + 4 + 4 + 4 + 4 + 4) (turn_count 4 left) to n b source (Reading words from) n registers b
    copies left e registers five six seven two stay kept small =
        let code = has_copy words place has in
        let near = is_in_code w.areas w.code order.code_within st (place + 4 + 4 + 4 + 4) (instr.Bne 5 7 (negsuc 15)) code.branch in
        loops place (place + 4 + 4 + 4 + 4) (place + 4 + 4 + 4 + 4 + 4) 4 (unit_size words) (negsuc 15) code.branch (omega (arith, near)) refl aligned
        (some_unit words) to n b source (Reading words from) copy_turn left 0 (omega (arith, e)) registers b
        (record {
          five = omega (arith, five);
          six = (omega (arith, six), no_unit words);
          seven = seven;
          two = two;
          stay = stay;
          filled = filled_none b to source;
          kept = kept;
          small = small;
        })

  -- ---- a clear

  abbrev pub Clearing : Bool → ℕ → ℕ → Type 0
  Clearing words i x = i % unit_size words ≡ 0

  record HasClear (words : Bool) (place : ℕ) : Type 0 where
    pub stores : HasInstr w.areas w.code (code_base + place) (store_instr words 0)
    pub to_next : HasInstr w.areas w.code (code_base + (place + 4)) (instr.Addi 5 5 (pos (unit_size words)))
    pub branch : HasInstr w.areas w.code (code_base + (place + 4 + 4)) (instr.Bne 5 7 (negsuc 7))

  has_clear : (words : Bool) (place : ℕ) → Has w place (clear_loop words) → HasClear words place
  has_clear true place has = record { stores = has.0.0; to_next = has.2.0.0; branch = has.2.2.0.0 }
  has_clear false place has = record { stores = has.0.0; to_next = has.2.0.0; branch = has.2.2.0.0 }

  module _ (words : Bool) (place : ℕ) (has : Has w place (clear_loop words)) (aligned : place % 4 ≡ 0) (to n : ℕ) (b : ℕ → ℕ)
      (may_to : (i : ℕ) → i + unit_size words ≤ n → i % unit_size words ≡ 0 → Allowed (to + i) (unit_size words)) where
    abbrev zeros : ℕ → ℕ
    zeros j = 0

    clear_turn : (i : ℕ) → i + unit_size words ≤ n → (registers bytes : ℕ → ℕ) → Running to n b zeros (Clearing words) i registers bytes
        → Runs place (place + 4 + 4) 2 to n b zeros (Clearing words) (i + unit_size words) registers bytes
    clear_turn i within registers bytes r =
        let code = has_clear words place has in
        let to_may = may_to i within r.six in
        let size = unit_size words in
        let written = set_unit words (to + i) 0 bytes in
        let moved = sum_of (registers 5) (word (pos size)) in
        let above = to_may.above in
        let kept : IsKeptBelow w.code written = λ q under. unit_other words (to + i) 0 bytes q (inl (omega (arith, under, above))) ∙ r.kept q under in
        let end = to_may.small in
        let five = r.five in
        record {
          new = set_register 5 moved registers;
          new_bytes = written;
          moves = and_then w.areas _ _ _ 1 1 (stores_unit place registers bytes r.kept r.two (to + i) words 0 to_may r.five code.stores)
              (gives_value w.areas w.code order.code_within st (place + 4) registers written kept (instr.Addi 5 5 (pos size)) code.to_next 5 moved
              (λ answer. refl) tt);
          there = record {
            five = omega (arith, five, end);
            six = whole_unit words i r.six;
            seven = r.seven;
            two = r.two;
            stay = stays_on (set_register 5 moved registers) registers first (set_stays 4 moved registers refl) r.stay;
            filled = filled_more words b bytes to i 0 zeros r.filled (λ d less. unit_cleared words (to + i) bytes d less);
            kept = kept;
            small = λ q. unit_small words (to + i) 0 bytes q (r.small q);
          };
        }

    pub clears : (left : ℕ) → suc left * unit_size words ≡ n → (registers : ℕ → ℕ) → registers 5 ≡ to → registers 7 ≡ to + n
        → registers 2 ≡ x2 → Stays registers first → IsKeptBelow w.code b → ((q : ℕ) → b q < 256)
        → Runs place (place + 4 + 4 + 4) (turn_count 2 left) to n b zeros (Clearing words) n registers b
    clears left e registers five seven two stay kept small =
        let code = has_clear words place has in
        let near = is_in_code w.areas w.code order.code_within st (place + 4 + 4) (instr.Bne 5 7 (negsuc 7)) code.branch in
        loops place (place + 4 + 4) (place + 4 + 4 + 4) 2 (unit_size words) (negsuc 7) code.branch (omega (arith, near)) refl aligned
        (some_unit words) to n b zeros (Clearing words) clear_turn left 0 (omega (arith, e)) registers b
        (record {
          five = omega (arith, five);
          six = no_unit words;
          seven = seven;
          two = two;
          stay = stay;
          filled = filled_none b to zeros;
          kept = kept;
          small = small;
        })
