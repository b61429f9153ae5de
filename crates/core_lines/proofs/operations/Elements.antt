-- What the code of an element does: its address is the first element's plus its number times the bytes of an element.
use Rattle.std.specs.Prelude.{nat_eq, if◌then◌else◌}
use Rattle.std.proofs.Common.{◌≡◌, ℕ, suc, ◌+◌, ◌*◌, ◌%◌, ◌^◌, ◌<◌, Bool, true, false, List, [], ◌∷◌, ◌++◌, Option, Some, None, refl, sym, ap, subst, ◌∙◌}
use Rattle.std.proofs.Common.{arith}
use Rattle.std.proofs.lemmas.Bool.{eqb-true}
use Rattle.cyc_words.specs.Words.{sum_of, product_of, shifted_left}
use Rattle.rv32_isa.specs.declared.instruction.Instr.TheVariants as instr
use Rattle.rv32_machine.specs.State.{set_register, register_of}
use Rattle.rv32_machine.specs.Step.{gives}
use Rattle.core_meaning.specs.Memory.{Spot, Content, Word, Pointer, Memory, beyond}
use Rattle.core_meaning.specs.Operations.{too_far}
use Rattle.core_lines.specs.declared.line.Line.{Line}
use Rattle.core_lines.specs.declared.line.Line.TheVariants.{Plain}
use Rattle.core_lines.specs.Lines.{code_length}
use Rattle.core_lines.specs.Machines.{Machine, state_of}
use Rattle.core_lines.specs.Held.{Holding, without_register, result_index, result_register, with_result}
use Rattle.core_lines.specs.Operands.{number_code, operand_in, operand_code, keep_code}
use Rattle.core_lines.specs.Computed.{exponent_of, times_code}
use Rattle.core_lines.specs.Lies.{Maps, Shows, Points}
use Rattle.core_lines.proofs.memory.Relations.{World, IsInOrder, Has, Waiting, Follows, keeping}
use Rattle.core_lines.proofs.memory.Moving.{Comes, comes_then, comes_as}
use Rattle.core_lines.proofs.memory.Slots.{set_here}
use Rattle.core_lines.proofs.Steps.{state_at}
use Rattle.core_lines.proofs.frames.Passing.{has_first, has_second}
use Rattle.core_lines.proofs.operations.Registers.{
  having,
  AtWith,
  AtHolding,
  InRegister,
  InOperand,
  AreThere,
  IsServed,
  result_stays,
  operand_some,
  operand_stays,
  there_kept,
  there_without,
  set_kept,
  in_turn,
  puts,
  puts_number,
  operand_into,
  operands_into,
  result_into,
  brings,
}
use Rattle.core_lines.proofs.operations.Reaching.{register_is}

module _ (w : World) (order : IsInOrder w) (x : Waiting) (outer : List Waiting) (mem : Memory) (hs : List Holding) (p i cells bytes n b : ℕ) (s : Spot)
    (named : p < x.fn.temporaries) (named' : i < x.fn.temporaries) (served : IsServed w x hs p) (served' : IsServed w x hs i)
    (pointer : x.config.temps p ≡ Pointer s b) (index : x.config.temps i ≡ Word n) (few : bytes < 2 ^ 32) (near : b + n * bytes < too_far) where
  abbrev Now : (Maps → (ℕ → ℕ) → Type 0) → ℕ → Machine → Type 0
  Now P place = AtWith w x outer mem place P

  abbrev Known : Maps → (ℕ → ℕ) → Type 0
  Known m registers = AreThere hs x.config.temps m registers

  abbrev load : ℕ → ℕ → List Line
  load r t = operand_code x.fn.passed hs r t

  -- the registers of the index and the pointer
  abbrev index_in : ℕ
  index_in = operand_in hs 5 i

  abbrev pointer_in : ℕ
  pointer_in = operand_in hs 6 p

  abbrev v : Content
  v = Pointer (beyond s (n * cells)) (b + n * bytes)

  abbrev Resulting : ℕ → Maps → (ℕ → ℕ) → Type 0
  Resulting t m registers = InRegister (result_register t) v m registers × AreThere (without_register (result_register t) hs) x.config.temps m registers

  -- A register has how many bytes the element lies on, and that of the pointer the pointer, whose object doesn't begin in the upper half of all addresses.
  record Ready (left : ℕ) (m : Maps) (registers : ℕ → ℕ) : Type 0 where
    pub points : Points m s b (registers pointer_in)
    pub low : points.base < 2 ^ 31
    pub further : registers left ≡ n * bytes
    pub there : Known m registers

  abbrev added : ℕ → ℕ → List Line
  added to left = Plain (instr.Add to left pointer_in) ∷ []

  adds : (t left place : ℕ) → (f : ℕ) × (left ≡ suc f) → Has w place (added (result_register t) left)
      → Comes w (Now (Ready left) place) (Now (Resulting t) (place + 4))
  adds t left place some has =
      puts w order x outer mem (result_index t) place (Ready left) (Resulting t) (instr.Add (result_register t) left pointer_in)
      (λ registers. sum_of (registers left) (registers pointer_in)) (result_stays t) has.0.0
      (λ registers q st answer.
      let m = state_of (state_at place registers q st) in
      ap (λ a. gives (result_register t) (sum_of a (register_of m pointer_in)) m) (register_is place registers q st left some)
      ∙ ap (λ a. gives (result_register t) (sum_of (registers left) a) m) (register_is place registers q st pointer_in (operand_some hs 5 p)))
      (λ _. tt)
      (λ m registers h.
      let value = sum_of (registers left) (registers pointer_in) in
      let at = h.points.at in
      let low = h.low in
      let positive = h.points.positive in
      let further = h.further in (
        subst (λ k. Shows m v k × (k < 2 ^ 32)) (sym (set_here (result_index t) value registers)) (
          record {
            base = h.points.base;
            known = h.points.known;
            at = omega (arith, at, low, near, further);
            positive = omega (arith, at, low, near, further, positive);
          },
          omega arith,
        ),
        there_without (result_index t) hs x.config.temps m (set_register (result_register t) value registers) registers
            (set_kept (result_index t) value registers) h.there,
      ))

  -- the pointer is in its register
  gets_ready : (left place : ℕ) (P : Maps → (ℕ → ℕ) → Type 0)
      → ((m : Maps) (registers : ℕ → ℕ) → P m registers
      → InOperand 6 pointer_in (x.config.temps p) m registers × (registers left ≡ n * bytes) × Known m registers)
      → Comes w (Now P place) (Now (Ready left) place)
  gets_ready left place P gets = comes_as w _ _ (λ q a.
      let h = gets a.maps q.registers a.holds in
      let here : Points a.maps s b (q.registers pointer_in) = subst (λ u. Shows a.maps u (q.registers pointer_in)) pointer h.0.0.0 in
      record {
        maps = a.maps;
        frame = a.frame;
        others = a.others;
        sp = a.sp;
        stands = a.stands;
        shows = a.shows;
        stack = a.stack;
        holds = record { points = here; low = a.stands.known.low s.region s.object here.base here.known; further = h.1; there = h.2 };
      })

  -- ---- an element of a byte

  abbrev both_lines : List Line
  both_lines = load 5 i ++ load 6 p

  both_ready : bytes ≡ 1 → (place : ℕ) → Has w place both_lines → Comes w (Now Known place) (Now (Ready index_in) (place + code_length both_lines))
  both_ready one place has =
      comes_then w _ _ _ (operands_into w order x outer mem i p place hs named' named served' served has)
      (gets_ready index_in (place + code_length both_lines) _ (λ m registers h.
      let same : registers index_in ≡ n = subst (λ u. Shows m u (registers index_in)) index h.0.0.0 in
      let times : n ≡ n * bytes = subst (λ k. n ≡ n * k) (sym one) (omega arith) in
      (h.1, same ∙ times, h.2)))

  -- ---- one of more bytes

  -- its bytes are a power of two

  shifts : (exponent : ℕ) → exponent_of (bytes % 2 ^ 32) ≡ Some exponent → shifted_left n exponent ≡ n * bytes
  shifts exponent is =
      let whole : bytes % 2 ^ 32 ≡ bytes = omega (arith, few) in
      by (bytes % 2 ^ 32) whole (nat_eq (bytes % 2 ^ 32) 2) refl (nat_eq (bytes % 2 ^ 32) 4) refl (nat_eq (bytes % 2 ^ 32) 8) refl
      (nat_eq (bytes % 2 ^ 32) 16) refl is
    where
      of : (k : ℕ) → bytes ≡ 2 ^ (k % 32) → Some k ≡ Some exponent → shifted_left n exponent ≡ n * bytes
      of k power same =
          let e : k ≡ exponent = ap (λ o. or_zero o) same in
          ap (λ q. shifted_left n q) (sym e) ∙ ap (λ q. n * q % 2 ^ 32) (sym power) ∙ omega (arith, near)
        where
          or_zero : Option ℕ → ℕ
          or_zero None = 0
          or_zero (Some q) = q

      by : (k : ℕ) → k ≡ bytes → (two : Bool) → nat_eq k 2 ≡ two → (four : Bool) → nat_eq k 4 ≡ four → (eight : Bool) → nat_eq k 8 ≡ eight
          → (sixteen : Bool) → nat_eq k 16 ≡ sixteen
          → (if two then Some 1 else (if four then Some 2 else (if eight then Some 3 else (if sixteen then Some 4 else None)))) ≡ Some exponent
          → shifted_left n exponent ≡ n * bytes
      by k whole true a four b eight c sixteen d is = let e = eqb-true k 2 a in of 1 (omega (arith, e, whole)) is
      by k whole false a true b eight c sixteen d is = let e = eqb-true k 4 b in of 2 (omega (arith, e, whole)) is
      by k whole false a false b true c sixteen d is = let e = eqb-true k 8 c in of 3 (omega (arith, e, whole)) is
      by k whole false a false b false c true d is = let e = eqb-true k 16 d in of 4 (omega (arith, e, whole)) is
      by k whole false a false b false c false d is = absurd (cc is)

  -- x6 has an element's bytes
  abbrev multiplied : List Line
  multiplied = Plain (instr.Mul 5 index_in 6) ∷ []

  abbrev factor : List Line
  factor = number_code 6 (bytes % 2 ^ 32)

  abbrev Indexed : Maps → (ℕ → ℕ) → Type 0
  Indexed m registers = InOperand 5 index_in (x.config.temps i) m registers × Known m registers

  abbrev Factors : Maps → (ℕ → ℕ) → Type 0
  Factors m registers = (registers index_in ≡ n) × (registers 6 ≡ bytes) × Known m registers

  factors : (place : ℕ) → Has w place factor → Comes w (Now Indexed place) (Now Factors (place + code_length factor))
  factors place has =
      let whole : bytes % 2 ^ 32 ≡ bytes = omega (arith, few) in
      puts_number w order x outer mem 5 (bytes % 2 ^ 32) place Indexed Factors (λ m registers h. omega arith) refl has
      (λ m new old is kept h. (
        subst (λ u. Shows m u (new index_in)) index (operand_stays 5 index_in 6 (x.config.temps i) refl refl refl m new old kept h.0).0.0,
        is ∙ whole,
        there_kept 5 hs x.config.temps refl m new old kept h.1,
      ))

  -- x5 has how many bytes the element lies on
  abbrev Further : Maps → (ℕ → ℕ) → Type 0
  Further m registers = registers 5 ≡ n * bytes

  abbrev Product : Maps → (ℕ → ℕ) → Type 0
  Product m registers = Known m registers × Further m registers

  multiplies : (place : ℕ) → Has w place multiplied → Comes w (Now Factors place) (Now Product (place + 4))
  multiplies place has =
      puts w order x outer mem 4 place Factors Product (instr.Mul 5 index_in 6)
      (λ registers. product_of (registers index_in) (registers 6)) refl has.0.0
      (λ registers q st answer.
      let m = state_of (state_at place registers q st) in
      ap (λ a. gives 5 (product_of a (registers 6)) m) (register_is place registers q st index_in (operand_some hs 4 i)))
      (λ _. tt)
      (λ m registers h.
      let value = product_of (registers index_in) (registers 6) in (
        there_kept 4 hs x.config.temps refl m (set_register 5 value registers) registers (set_kept 4 value registers) h.2,
        ap (λ u. product_of u (registers 6)) h.0 ∙ ap (λ u. product_of n u) h.1 ∙ omega (arith, near),
      ))

  -- by a multiplication or a shift
  times : (exponent : Option ℕ) → exponent_of (bytes % 2 ^ 32) ≡ exponent → (place : ℕ) → Has w place (times_code exponent index_in (bytes % 2 ^ 32))
      → Comes w (Now Indexed place) (Now Product (place + code_length (times_code exponent index_in (bytes % 2 ^ 32))))
  times None is place has =
      in_turn w (Now Indexed place) (Now Factors) (Now Product) place factor multiplied (factors place (has_first w place factor multiplied has))
      (multiplies (place + code_length factor) (has_second w place factor multiplied has))
  times (Some exponent) is place has =
      puts w order x outer mem 4 place Indexed Product (instr.Slli 5 index_in exponent) (λ registers. shifted_left (registers index_in) exponent) refl has.0.0
      (λ registers q st answer.
      let m = state_of (state_at place registers q st) in
      ap (λ a. gives 5 (shifted_left a exponent) m) (register_is place registers q st index_in (operand_some hs 4 i)))
      (λ _. tt)
      (λ m registers h.
      let value = shifted_left (registers index_in) exponent in
      let same : registers index_in ≡ n = subst (λ u. Shows m u (registers index_in)) index h.0.0.0 in (
        there_kept 4 hs x.config.temps refl m (set_register 5 value registers) registers (set_kept 4 value registers) h.1,
        ap (λ u. shifted_left u exponent) same ∙ shifts exponent is,
      ))

  abbrev product_lines : List Line
  product_lines = load 5 i ++ times_code (exponent_of (bytes % 2 ^ 32)) index_in (bytes % 2 ^ 32)

  product : (place : ℕ) → Has w place product_lines → Comes w (Now Known place) (Now Product (place + code_length product_lines))
  product place has =
      let second = times_code (exponent_of (bytes % 2 ^ 32)) index_in (bytes % 2 ^ 32) in
      in_turn w (Now Known place) (Now Indexed) (Now Product) place (load 5 i) second
      (brings w order x outer mem 4 i place hs named' served' refl (has_first w place (load 5 i) second has))
      (times (exponent_of (bytes % 2 ^ 32)) refl (place + code_length (load 5 i)) (has_second w place (load 5 i) second has))

  abbrev many_lines : List Line
  many_lines = product_lines ++ load 6 p

  many_ready : (place : ℕ) → Has w place many_lines → Comes w (Now Known place) (Now (Ready 5) (place + code_length many_lines))
  many_ready place has =
      in_turn w (Now Known place) (Now Product) (Now (Ready 5)) place product_lines (load 6 p)
      (product place (has_first w place product_lines (load 6 p) has))
      (comes_then w _ _ _
      (operand_into w order x outer mem 5 p (place + code_length product_lines) hs Further named served refl (λ m new old kept h. kept 5 refl refl ∙ h)
      (has_second w place product_lines (load 6 p) has))
      (gets_ready 5 (place + code_length product_lines + code_length (load 6 p)) _ (λ m registers h. (h.0, h.2, h.1))))

  -- ---- either

  abbrev element_lines : Bool → ℕ → List Line
  element_lines one to = (if one then both_lines ++ added to index_in else many_lines ++ added to 5)

  abbrev kept_lines : Bool → ℕ → List Line
  kept_lines keeps t = element_lines (nat_eq (bytes % 2 ^ 32) 1) (result_register t) ++ keep_code keeps x.fn.passed (result_register t) t

  -- a pointer to the element
  pub element : (keeps : Bool) (after : List Bool) (t : ℕ) → t < x.fn.temporaries → Follows keeps (t ∷ []) x.kept after → (place : ℕ)
      → Has w place (kept_lines keeps t)
      → Comes w (AtHolding w x outer mem place hs)
      (AtHolding w (keeping after (having t v x)) outer mem (place + code_length (kept_lines keeps t)) (with_result t hs))
  element keeps after t named follows place has =
      result_into w order x outer mem keeps after t place v hs (element_lines (nat_eq (bytes % 2 ^ 32) 1) (result_register t)) named follows has
      (by (nat_eq (bytes % 2 ^ 32) 1) refl)
    where
      by : (one : Bool) → nat_eq (bytes % 2 ^ 32) 1 ≡ one → Has w place (element_lines one (result_register t))
          → Comes w (Now Known place) (Now (Resulting t) (place + code_length (element_lines one (result_register t))))
      by true e has =
          let same : bytes % 2 ^ 32 ≡ 1 = eqb-true (bytes % 2 ^ 32) 1 e in
          in_turn w (Now Known place) (Now (Ready index_in)) (Now (Resulting t)) place both_lines (added (result_register t) index_in)
          (both_ready (omega (arith, same, few)) place (has_first w place both_lines (added (result_register t) index_in) has))
          (adds t index_in (place + code_length both_lines) (operand_some hs 4 i) (has_second w place both_lines (added (result_register t) index_in) has))
      by false e has =
          in_turn w (Now Known place) (Now (Ready 5)) (Now (Resulting t)) place many_lines (added (result_register t) 5)
          (many_ready place (has_first w place many_lines (added (result_register t) 5) has))
          (adds t 5 (place + code_length many_lines) (4, refl) (has_second w place many_lines (added (result_register t) 5) has))
