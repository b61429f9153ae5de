-- What the code of an operation that shows nothing does.
use Rattle.rv32_machine.specs.Run.{Run}
use Rattle.arena_laws.specs.Lawful.{Answer}
use Rattle.core_lines.specs.Machines.{state_of}
use Rattle.std.specs.Prelude.{bit_and}
use Rattle.std.proofs.Common.{◌≡◌, ℕ, zero, suc, pos, ◌+◌, ◌*◌, ◌%◌, ◌^◌, ◌<◌, ◌≤◌, ◌⊎◌, inl, inr, Bool, true, false, nat_eq, List, [], ◌∷◌, ◌++◌, Option}
use Rattle.std.proofs.Common.{Some, None, refl, sym, ap, subst, ◌∙◌, arith}
use Rattle.std.proofs.lemmas.Nat.{and_mask}
use Rattle.std.proofs.lemmas.Bool.{cases_lt}
use Rattle.cyc_words.specs.Words.{word}
use Rattle.rv32_isa.specs.declared.instruction.Instr.{Instr}
use Rattle.rv32_isa.specs.declared.instruction.Instr.TheVariants as instr
use Rattle.core_meaning.specs.Memory.{Content, Word, Birth, Memory}
use Rattle.core_lines.specs.Machines.{Machine, Store}
use Rattle.core_lines.specs.Lies.{Maps, Shows, Slot}
use Rattle.rv32_machine.specs.Step.{effect, gives}
use Rattle.rv32_machine.specs.Audit.{AccessIsLawful}
use Rattle.rv32_machine.specs.State.{word_at}
use Rattle.core_lines.specs.declared.line.Line.{Line}
use Rattle.core_lines.specs.declared.line.Line.TheVariants.{Plain}
use Rattle.core_lines.specs.Lines.{code_length}
use Rattle.core_lines.specs.Frames.{load_code, save_code, slot_of}
use Rattle.core_lines.specs.Held.{
  Source,
  Register,
  Number,
  Compared,
  ComparedWith,
  Holding,
  source_of,
  number_in,
  with_source,
  with_result,
  with_moved,
  with_narrowed,
  result_index,
  result_register,
}
use Rattle.core_lines.specs.Operands.{operand_in, operand_code, keep_code, number_kept, move_kept}
use Rattle.core_lines.specs.Homes.{stays}
use Rattle.core_lines.proofs.memory.Relations.{World, IsInOrder, Has, Waiting, Follows, IsKept, keeping, At, back_of}
use Rattle.core_lines.proofs.memory.Bytes.{word_is_small}
use Rattle.core_lines.proofs.memory.Moving.{Comes, comes_then, comes_as}
use Rattle.core_lines.proofs.Steps.{state_at}
use Rattle.core_lines.proofs.frames.Passing.{has_first, has_second, temp_lies}
pub use Rattle.core_lines.proofs.operations.Registers.{having}
use Rattle.core_lines.proofs.operations.Judging.{verdict_into, numbered_into}
use Rattle.core_lines.proofs.operations.Registers.{
  is_so,
  verdict,
  truth_few,
  numbered_verdict,
  numbered_few,
  AtWith,
  AtHolding,
  with_there,
  as_holding,
  InRegister,
  AreThere,
  IsServed,
  is_spare,
  spare_apart,
  in_turn,
  knows,
  now_known,
  at_with,
  at_of,
  loads_new,
  loads_temp,
  there_found,
  there_kept,
  there_without,
  there_source,
  source_not_zero,
  result_stays,
  on_operand,
  keep_into,
  result_into,
  number_into,
}

module _ (w : World) (order : IsInOrder w) (x : Waiting) (outer : List Waiting) (mem : Memory) where
  abbrev pub Here : ℕ → Machine → Type 0
  Here place = At w x outer mem place

  abbrev pub With : (Maps → (ℕ → ℕ) → Type 0) → ℕ → Machine → Type 0
  With P place = AtWith w x outer mem place P

  abbrev Free : Maps → (ℕ → ℕ) → Type 0
  Free m registers = Unit {0}

  abbrev pub loading : ℕ → ℕ → List Line
  loading r t = load_code r (slot_of x.fn.passed t)

  abbrev pub saving : ℕ → ℕ → List Line
  saving r t = save_code r (slot_of x.fn.passed t)

  abbrev pub operand : List Holding → ℕ → ℕ → List Line
  operand hs spare t = operand_code x.fn.passed hs spare t

  -- what a temporary holds is shown by the word in its slot
  pub temp_shown : (t place : ℕ) (s : Machine) (a : At w x outer mem place s) → t < x.fn.temporaries → IsKept w x t
      → Shows a.maps (x.config.temps t) (word_at s.bytes (a.sp + 4 * slot_of x.fn.passed t))
  temp_shown t place s a named kept =
      let slot = slot_of x.fn.passed t in
      a.stands.fits.shows (Slot 0 slot) (a.sp + 4 * slot) 4 (x.config.temps t)
      (temp_lies w order x outer mem a.maps (back_of w outer) a.frame a.others a.sp t named kept a.shows a.stands.stacked)

  -- and a word is below 2 ^ 32
  pub word_few : (y n place : ℕ) (hs : List Holding) (s : Machine) → AtWith w x outer mem place (AreThere hs x.config.temps) s → y < x.fn.temporaries
      → IsServed w x hs y → x.config.temps y ≡ Word n → n < 2 ^ 32
  word_few y n place hs s a named served is = by (source_of hs y) refl
    where
      below : (k : ℕ) → Shows a.maps (x.config.temps y) k → k < 2 ^ 32 → n < 2 ^ 32
      below k shows few = let same : k ≡ n = subst (λ v. Shows a.maps v k) is shows in subst (λ j. j < 2 ^ 32) same few

      by : (o : Option Source) → source_of hs y ≡ o → n < 2 ^ 32
      by None e =
          let at = a.sp + 4 * slot_of x.fn.passed y in
          let small = a.stands.small in
          below (word_at s.bytes at) (temp_shown y place s (at_of w order x outer mem place (AreThere hs x.config.temps) s a) named (served e))
          (word_is_small s.bytes at (small at) (small (at + 1)) (small (at + 2)) (small (at + 3)))
      by (Some (Register zero)) e = absurd (source_not_zero hs y e)
      by (Some (Register (suc q))) e =
          let found = there_found hs y (Register (suc q)) x.config.temps a.maps s.registers a.holds e in below (s.registers (suc q)) found.0.0 found.0.1
      by (Some (Number k)) e = let found = there_found hs y (Number k) x.config.temps a.maps s.registers a.holds e in below k found.0 found.1
      by (Some (Compared c)) e =
          let found = there_found hs y (Compared c) x.config.temps a.maps s.registers a.holds e in
          below (verdict c s.registers) found.0 (truth_few (is_so c s.registers))
      by (Some (ComparedWith c)) e =
          let found = there_found hs y (ComparedWith c) x.config.temps a.maps s.registers a.holds e in
          below (numbered_verdict c s.registers) found.0 (numbered_few c s.registers)

  -- a temporary into a register
  pub loads_into : (r t place : ℕ) → t < x.fn.temporaries → IsKept w x t → stays (suc r) ≡ false → Has w place (loading (suc r) t)
      → Comes w (Here place) (With (InRegister (suc r) (x.config.temps t)) (place + code_length (loading (suc r) t)))
  loads_into r t place named kept other has =
      comes_then w _ (With Free place) _ (comes_as w _ _ (at_with w order x outer mem place))
      (comes_then w _ _ _ (loads_temp w order x outer mem r t place Free named kept other (λ m new old kept h. tt) has)
      (comes_as w _ _ (λ s a. knows w order x outer mem (place + code_length (loading (suc r) t)) _ (InRegister (suc r) (x.config.temps t)) s
      (λ m registers h. h.0) a)))

  -- two temporaries into x5 and x6
  abbrev pub Loaded : Content → Content → Maps → (ℕ → ℕ) → Type 0
  Loaded a b m registers = InRegister 5 a m registers × InRegister 6 b m registers

  pub loads_both : (t u place : ℕ) → t < x.fn.temporaries → IsKept w x t → u < x.fn.temporaries → IsKept w x u → Has w place (loading 5 t ++ loading 6 u)
      → Comes w (Here place) (With (Loaded (x.config.temps t) (x.config.temps u)) (place + code_length (loading 5 t ++ loading 6 u)))
  loads_both t u place named kept named' kept' has =
      in_turn w (Here place) (With (InRegister 5 (x.config.temps t))) (With (Loaded (x.config.temps t) (x.config.temps u))) place (loading 5 t) (loading 6 u)
      (loads_into 4 t place named kept refl (has_first w place (loading 5 t) (loading 6 u) has))
      (comes_then w _ _ _
      (loads_temp w order x outer mem 5 u (place + code_length (loading 5 t)) (InRegister 5 (x.config.temps t)) named' kept' refl
      (λ m new old same h. subst (λ v. Shows m (x.config.temps t) v × (v < 2 ^ 32)) (sym (same 5 refl refl)) h)
      (has_second w place (loading 5 t) (loading 6 u) has))
      (comes_as w _ _ (λ s a. knows w order x outer mem (place + code_length (loading 5 t) + code_length (loading 6 u)) _
      (Loaded (x.config.temps t) (x.config.temps u)) s
      (λ m registers h. (h.1, h.0)) a)))

  -- where no machine is
  pub never : (R R' : Machine → Type 0) → ((s : Machine) → R s → ⊥) → Comes w R R'
  never R R' none = comes_as w R R' (λ s r. absurd (none s r))

  -- ---- results: a temporary gets a value, and it is saved or not

  module _ (keeps : Bool) (after : List Bool) (t : ℕ) (named : t < x.fn.temporaries) (follows : Follows keeps (t ∷ []) x.kept after) where
    abbrev with_value : Content → Waiting
    with_value v = keeping after (having t v x)

    abbrev pub kept_lines : List Line
    kept_lines = keep_code keeps x.fn.passed (result_register t) t

    abbrev numbered : ℕ → List Line
    numbered n = number_kept keeps x.fn.passed t n

    pub constant : (v place : ℕ) (hs : List Holding) → v < 2 ^ 32 → Has w place (numbered v)
        → Comes w (AtHolding w x outer mem place hs)
        (AtHolding w (with_value (Word v)) outer mem (place + code_length (numbered v)) (with_source t (Number v) hs))
    constant v place hs small has = number_into w order x outer mem keeps after t v place (Word v) hs named follows small (λ s a. refl) has

    -- the handle of the heap: its number is 0
    pub heap_handle : (place : ℕ) (hs : List Holding) → Has w place (numbered 0)
        → Comes w (AtHolding w x outer mem place hs)
        (AtHolding w (with_value (Birth 0)) outer mem (place + code_length (numbered 0)) (with_source t (Number 0) hs))
    heap_handle place hs has =
        number_into w order x outer mem keeps after t 0 place (Birth 0) hs named follows (omega arith) (λ s a. a.stands.known.zero_is_heap) has

    -- ---- moves

    pub move : (y place : ℕ) (hs : List Holding) → y < x.fn.temporaries → IsServed w x hs y
        → Has w place (move_kept keeps x.fn.passed (result_register t) t y (source_of hs y))
        → Comes w (AtHolding w x outer mem place hs) (AtHolding w (with_value (x.config.temps y)) outer mem
        (place + code_length (move_kept keeps x.fn.passed (result_register t) t y (source_of hs y))) (with_moved t (source_of hs y) hs))
    move y place hs named' served has = by (source_of hs y) refl has
      where
        v : Content
        v = x.config.temps y

        Known : Maps → (ℕ → ℕ) → Type 0
        Known m registers = AreThere hs x.config.temps m registers

        To : (s : Option Source) → Machine → Type 0
        To s = AtHolding w (with_value v) outer mem
            (place + code_length (move_kept keeps x.fn.passed (result_register t) t y s)) (with_moved t s hs)

        Found : ℕ → Maps → (ℕ → ℕ) → Type 0
        Found q m registers = InRegister (suc q) v m registers × ((is_spare (suc q) ≡ false) × Known m registers)

        -- it goes on to be where it is
        moved : (q : ℕ) → source_of hs y ≡ Some (Register (suc q)) → (seven : Bool) → nat_eq (suc q) 7 ≡ seven
            → Has w place (keep_code keeps x.fn.passed (suc q) t) → Comes w (AtWith w x outer mem place Known) (To (Some (Register (suc q))))
        moved q e true is has = never _ _ (λ s a.
            let found = there_found hs y (Register (suc q)) x.config.temps a.maps s.registers a.holds e in
            let apart = spare_apart (suc q) 7 found.1 refl in cc)
        moved q e false other has =
            comes_then w _ _ _
            (comes_as w _ _ (λ s a. knows w order x outer mem place Known (Found q) s
            (λ m registers h. let found = there_found hs y (Register (suc q)) x.config.temps m registers h e in (found.0, (found.1, h))) a))
            (now_known w order (with_value v) outer mem (place + code_length (keep_code keeps x.fn.passed (suc q) t)) _ _
            (AreThere (with_source t (Register (suc q)) hs) (with_value v).config.temps)
            (λ m registers h. there_source t v (Register (suc q)) hs x.config.temps m registers (h.0, h.1.0) h.1.1)
            (keep_into w order x outer mem keeps after q t place v (λ m registers. (is_spare (suc q) ≡ false) × Known m registers) named follows other
            (λ m new old same h. (h.0, there_kept 6 hs x.config.temps refl m new old same h.1)) has))

        as_number : (n : ℕ) → source_of hs y ≡ Some (Number n) → (n < 2 ^ 32) ⊎ (2 ^ 32 ≤ n) → Has w place (numbered n)
            → Comes w (AtWith w x outer mem place Known) (To (Some (Number n)))
        as_number n e (inl few) has = comes_then w _ _ _ (comes_as w _ _ (as_holding w x outer mem place hs))
            (number_into w order x outer mem keeps after t n place v hs named follows few
            (λ s a. (there_found hs y (Number n) x.config.temps a.maps s.registers a.holds e).0) has)
        as_number n e (inr many) has = never _ _ (λ s a.
            let few = (there_found hs y (Number n) x.config.temps a.maps s.registers a.holds e).1 in omega (arith, few, many))

        by : (s : Option Source) → source_of hs y ≡ s → Has w place (move_kept keeps x.fn.passed (result_register t) t y s)
            → Comes w (AtHolding w x outer mem place hs) (To s)
        by None e has = result_into w order x outer mem keeps after t place v hs (load_code (result_register t) (slot_of x.fn.passed y)) named follows has
            (λ has. loads_new w order x outer mem (result_index t) y place Known _ named' (served e) (result_stays t)
            (λ m new old here same h. (here, there_without (result_index t) hs x.config.temps m new old same h)) has)
        by (Some (Register zero)) e has = absurd (source_not_zero hs y e)
        by (Some (Register (suc q))) e has = comes_then w _ _ _ (comes_as w _ _ (with_there w x outer mem place hs)) (moved q e (nat_eq (suc q) 7) refl has)
        by (Some (Number n)) e has = comes_then w _ _ _ (comes_as w _ _ (with_there w x outer mem place hs)) (as_number n e (cases_lt n (2 ^ 32)) has)
        by (Some (Compared c)) e has = verdict_into w order x outer mem after t place v hs named c keeps follows
            (λ s a. there_found hs y (Compared c) x.config.temps a.maps s.registers a.holds e) has
        by (Some (ComparedWith n)) e has = numbered_into w order x outer mem after t place v hs named n keeps follows
            (λ s a. there_found hs y (ComparedWith n) x.config.temps a.maps s.registers a.holds e) has

    -- ---- operations on one word

    -- the result of an instruction on an operand
    pub one_more : (y place : ℕ) (v : Content) (hs : List Holding) (instr : ℕ → Instr) (value : ℕ → ℕ) → y < x.fn.temporaries → IsServed w x hs y
        → Has w place (operand hs 5 y ++ (Plain (instr (operand_in hs 5 y)) ∷ []) ++ kept_lines)
        → ((q here : ℕ) (registers bytes : ℕ → ℕ) (st : Store) (answer : Answer)
        → effect w.areas answer (instr (suc q)) (state_of (state_at here registers bytes st)) ≡ gives (result_register t) (value (registers (suc q)))
        (state_of (state_at here registers bytes st)))
        → ((q : ℕ) (s : Run) → AccessIsLawful w.areas s (instr (suc q)))
        → ((m : Maps) (n : ℕ) → Shows m (x.config.temps y) n → n < 2 ^ 32 → Shows m v (value n) × (value n < 2 ^ 32))
        → Comes w (AtHolding w x outer mem place hs) (AtHolding w (with_value v) outer mem
        (place + code_length (operand hs 5 y ++ (Plain (instr (operand_in hs 5 y)) ∷ []) ++ kept_lines)) (with_result t hs))
    one_more y place v hs instr value named' served has e access shows =
        result_into w order x outer mem keeps after t place v hs (operand hs 5 y ++ (Plain (instr (operand_in hs 5 y)) ∷ [])) named follows has
        (λ has. on_operand w order x outer mem (result_index t) y place v hs instr value named' served (result_stays t) has e access shows)

    abbrev narrow_lines : List Holding → ℕ → List Line
    narrow_lines hs y = operand hs 5 y ++ (Plain (instr.Andi (result_register t) (operand_in hs 5 y) (pos 255)) ∷ []) ++ kept_lines

    pub narrow : (y n place : ℕ) (hs : List Holding) → y < x.fn.temporaries → IsServed w x hs y → x.config.temps y ≡ Word n → Has w place (narrow_lines hs y)
        → Comes w (AtHolding w x outer mem place hs)
        (AtHolding w (with_value (Word (n % 256))) outer mem (place + code_length (narrow_lines hs y)) (with_result t hs))
    narrow y n place hs named' served is has =
        one_more y place (Word (n % 256)) hs (λ q. instr.Andi (result_register t) q (pos 255)) (λ k. bit_and k (word (pos 255))) named' served has
        (λ q here r b st a. refl) (λ q _. tt)
        (λ m k shows few.
        let same : k ≡ n = subst (λ v. Shows m v k) is shows in
        let masked : bit_and k 255 ≡ k % 256 = and_mask k 8 in
        (masked ∙ ap (λ j. j % 256) same, omega (arith, masked)))

    -- where the word is known to be a number, its lowest byte is one
    abbrev lowest_lines : List Holding → ℕ → Option ℕ → List Line
    lowest_lines hs y None = narrow_lines hs y
    lowest_lines hs y (Some k) = number_kept keeps x.fn.passed t (k % 256)

    pub lowest : (y n place : ℕ) (hs : List Holding) → y < x.fn.temporaries → IsServed w x hs y → x.config.temps y ≡ Word n
        → Has w place (lowest_lines hs y (number_in (source_of hs y)))
        → Comes w (AtHolding w x outer mem place hs) (AtHolding w (with_value (Word (n % 256))) outer mem
        (place + code_length (lowest_lines hs y (number_in (source_of hs y)))) (with_narrowed t (number_in (source_of hs y)) hs))
    lowest y n place hs named' served is has = by (source_of hs y) refl has
      where
        by : (s : Option Source) → source_of hs y ≡ s → Has w place (lowest_lines hs y (number_in s))
            → Comes w (AtHolding w x outer mem place hs) (AtHolding w (with_value (Word (n % 256))) outer mem
            (place + code_length (lowest_lines hs y (number_in s))) (with_narrowed t (number_in s) hs))
        by None e has = narrow y n place hs named' served is has
        by (Some (Register q)) e has = narrow y n place hs named' served is has
        by (Some (Compared c)) e has = narrow y n place hs named' served is has
        by (Some (ComparedWith c)) e has = narrow y n place hs named' served is has
        by (Some (Number k)) e has =
            number_into w order x outer mem keeps after t (k % 256) place (Word (n % 256)) hs named follows (omega arith)
            (λ s a.
            let found = there_found hs y (Number k) x.config.temps a.maps s.registers a.holds e in
            let same : k ≡ n = subst (λ v. Shows a.maps v k) is found.0 in
            ap (λ j. j % 256) same) has
