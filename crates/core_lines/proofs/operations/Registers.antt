-- How operands come into registers, and results into temporaries.
use Rattle.std.specs.Prelude.{nat_eq, if◌then◌else◌}
use Rattle.std.proofs.Common.{◌≡◌, ℕ, zero, suc, pos, ◌+◌, ◌^◌, ◌<◌, inl, inr, Bool, true, false, List, [], ◌∷◌, ◌++◌, Option, Some, None}
use Rattle.std.proofs.Common.{refl, sym, subst, ◌∙◌, arith}
use Rattle.std.proofs.lemmas.Bool.{eq-eqb, eqb-true}
use Rattle.cyc_words.specs.Words.{word, sum_of}
use Rattle.rv32_isa.specs.declared.instruction.Instr.TheVariants.{Addi}
use Rattle.rv32_machine.specs.State.{set_register}
use Rattle.rv32_isa.specs.declared.instruction.Instr.{Instr}
use Rattle.arena_laws.specs.Lawful.{Answer}
use Rattle.rv32_machine.specs.Run.{Run}
use Rattle.rv32_machine.specs.Step.{effect, gives}
use Rattle.rv32_machine.specs.Audit.{AccessIsLawful}
use Rattle.core_meaning.specs.Memory.{Content, Memory}
use Rattle.core_meaning.specs.Steps.{set_temp}
use Rattle.core_lines.specs.Machines.{Machine, Store, state_of}
use Rattle.core_lines.proofs.Steps.{state_at}
use Rattle.core_lines.specs.declared.line.Line.{Line}
use Rattle.core_lines.specs.declared.line.Line.TheVariants.{Plain}
use Rattle.core_lines.specs.Lines.{code_length}
use Rattle.core_lines.specs.Frames.{save_code, slot_of}
use Rattle.core_lines.specs.Held.{Source, Register, Number, Compared, Holding, source_of, without_register, with_source, with_result, result_index}
use Rattle.core_lines.specs.Held.{ComparedWith, result_register}
use Rattle.core_lines.specs.Homes.{stays}
use Rattle.core_lines.specs.Lies.{Maps, Shows}
use Rattle.core_lines.specs.Operands.{number_code, register_for, operand_in, bring_code, operand_code, fetch_code, into_code, keep_code, number_kept}
use Rattle.core_lines.proofs.memory.Relations.{World, IsInOrder, Has, Waiting, back_of, keeping, Follows}
use Rattle.core_lines.proofs.memory.Moving.{Comes, comes_then, comes_as}
use Rattle.core_lines.proofs.memory.Slots.{Kept, set_here}
use Rattle.core_lines.proofs.frames.Passing.{has_first, has_second, frame_unkept}
pub use Rattle.core_lines.proofs.operations.Holding.{
  reads,
  is_so,
  verdict,
  truth_few,
  numbered_verdict,
  numbered_few,
  IsSteady,
  AreSides,
  read_beside,
  not_in_spare,
  having,
  is_spare,
  spare_leaves,
  spare_apart,
  InRegister,
  IsFree,
  InOperand,
  Stable,
  register_stays,
  operand_stays,
  result_stays,
  result_free,
  IsThere,
  AreThere,
  source_not_zero,
  there_extends,
  there_found,
  operand_some,
  there_kept,
  there_without,
  there_set,
  there_source,
  there_also,
  there_elsewhere,
  IsServed,
  served_first,
  served_others,
  served_one,
  served_two,
  follows_none,
}
pub use Rattle.core_lines.proofs.operations.Standing.{
  AtWith,
  AtHolding,
  at_any,
  with_there,
  as_holding,
  fewer_with,
  fewer_holding,
  in_turn,
  knows,
  at_with,
  at_of,
  elsewhere,
  loads_new,
  loads_temp,
  saves_new,
  saves_held,
  saves_temp,
  set_kept,
  puts,
  puts_value,
  puts_twice,
  puts_number,
  puts_verdict,
  puts_numbered,
  puts_into,
}

-- nothing is added
pub none_added : (n : ℕ) → n < 2 ^ 32 → sum_of n (word (pos 0)) ≡ n
none_added n small = omega arith

module _ (w : World) (order : IsInOrder w) (x : Waiting) (outer : List Waiting) (mem : Memory) where
  -- there is no code
  pub stays_there : (place : ℕ) (P Q : Maps → (ℕ → ℕ) → Type 0) → ((m : Maps) (registers : ℕ → ℕ) → P m registers → Q m registers)
      → Comes w (AtWith w x outer mem place P) (AtWith w x outer mem (place + 0) Q)
  stays_there place P Q f =
      let e : place ≡ place + 0 = omega arith in
      comes_as w _ _ (λ s a. subst (λ p. AtWith w x outer mem p Q s) e (knows w order x outer mem place P Q s f a))

  -- one is known from another
  pub now_known : (place : ℕ) (R : Machine → Type 0) (P Q : Maps → (ℕ → ℕ) → Type 0) → ((m : Maps) (registers : ℕ → ℕ) → P m registers → Q m registers)
      → Comes w R (AtWith w x outer mem place P) → Comes w R (AtWith w x outer mem place Q)
  now_known place R P Q f comes = comes_then w _ _ _ comes (comes_as w _ _ (λ s a. knows w order x outer mem place P Q s f a))

  -- ---- operands

  -- an operand, where something is known besides
  abbrev pub Known : List Holding → (Maps → (ℕ → ℕ) → Type 0) → Maps → (ℕ → ℕ) → Type 0
  Known hs H m registers = AreThere hs x.config.temps m registers × H m registers

  abbrev pub WithOperand : ℕ → ℕ → ℕ → List Holding → (Maps → (ℕ → ℕ) → Type 0) → Maps → (ℕ → ℕ) → Type 0
  WithOperand spare r t hs H m registers = InOperand spare r (x.config.temps t) m registers × AreThere hs x.config.temps m registers × H m registers

  abbrev Free : Maps → (ℕ → ℕ) → Type 0
  Free m registers = Unit {0}

  -- an operand alone
  abbrev pub Alone : ℕ → ℕ → ℕ → List Holding → Maps → (ℕ → ℕ) → Type 0
  Alone spare r t hs m registers = InOperand spare r (x.config.temps t) m registers × AreThere hs x.config.temps m registers

  pub operand_into : (r t place : ℕ) (hs : List Holding) (H : Maps → (ℕ → ℕ) → Type 0) → t < x.fn.temporaries → IsServed w x hs t → is_spare (suc r) ≡ true
      → Stable (suc r) H → Has w place (operand_code x.fn.passed hs (suc r) t)
      → Comes w (AtWith w x outer mem place (λ m registers. AreThere hs x.config.temps m registers × H m registers))
      (AtWith w x outer mem (place + code_length (operand_code x.fn.passed hs (suc r) t))
      (λ m registers. InOperand (suc r) (operand_in hs (suc r) t) (x.config.temps t) m registers × AreThere hs x.config.temps m registers × H m registers))
  operand_into r t place hs H named served spare stable has = by (source_of hs t) refl has
    where
      own : IsFree (suc r) (suc r)
      own = inl (eq-eqb (suc r) (suc r) refl)

      has_value : (m : Maps) (new old : ℕ → ℕ) (k : ℕ) → new (suc r) ≡ k → Shows m (x.config.temps t) k × (k < 2 ^ 32) → Kept (suc r) new old
          → Known hs H m old → WithOperand (suc r) (suc r) t hs H m new
      has_value m new old k is shown kept h = (
        (subst (λ k. Shows m (x.config.temps t) k × (k < 2 ^ 32)) (sym is) shown, own),
        there_kept r hs x.config.temps spare m new old kept h.0,
        stable m new old kept h.1,
      )

      by : (s : Option Source) → source_of hs t ≡ s → Has w place (bring_code x.fn.passed (suc r) t s)
          → Comes w (AtWith w x outer mem place (Known hs H))
          (AtWith w x outer mem (place + code_length (bring_code x.fn.passed (suc r) t s)) (WithOperand (suc r) (register_for (suc r) s) t hs H))
      by None e has = loads_new w order x outer mem r t place (Known hs H) (WithOperand (suc r) (suc r) t hs H) named (served e) (spare_leaves (suc r) spare)
          (λ m new old here kept h. ((here, own), there_kept r hs x.config.temps spare m new old kept h.0, stable m new old kept h.1)) has
      by (Some (Register zero)) e has = absurd (source_not_zero hs t e)
      by (Some (Register (suc q))) e has = stays_there place (Known hs H) (WithOperand (suc r) (suc q) t hs H)
          (λ m registers h. let found = there_found hs t (Register (suc q)) x.config.temps m registers h.0 e in ((found.0, inr found.1), h.0, h.1))
      by (Some (Number n)) e has = puts_number w order x outer mem r n place (Known hs H) (WithOperand (suc r) (suc r) t hs H)
          (λ m registers h. (there_found hs t (Number n) x.config.temps m registers h.0 e).1) (spare_leaves (suc r) spare) has
          (λ m new old is kept h. has_value m new old n is (there_found hs t (Number n) x.config.temps m old h.0 e) kept h)
      by (Some (Compared c)) e has = puts_verdict w order x outer mem r c place (Known hs H) (WithOperand (suc r) (suc r) t hs H)
          (λ m registers h. let found = there_found hs t (Compared c) x.config.temps m registers h.0 e in (found.1.1, found.2.1)) (spare_leaves (suc r) spare)
          has
          (λ m new old is kept h. has_value m new old (verdict c old) is
          ((there_found hs t (Compared c) x.config.temps m old h.0 e).0, truth_few (is_so c old)) kept h)
      by (Some (ComparedWith n)) e has = puts_numbered w order x outer mem r n place (Known hs H) (WithOperand (suc r) (suc r) t hs H)
          (λ m registers h. let found = there_found hs t (ComparedWith n) x.config.temps m registers h.0 e in (found.1, found.2))
          (spare_leaves (suc r) spare) has
          (λ m new old is kept h. has_value m new old (numbered_verdict n old) is
          ((there_found hs t (ComparedWith n) x.config.temps m old h.0 e).0, numbered_few n old) kept h)

  -- where nothing else is known
  pub brings : (r t place : ℕ) (hs : List Holding) → t < x.fn.temporaries → IsServed w x hs t → is_spare (suc r) ≡ true
      → Has w place (operand_code x.fn.passed hs (suc r) t)
      → Comes w (AtWith w x outer mem place (AreThere hs x.config.temps))
      (AtWith w x outer mem (place + code_length (operand_code x.fn.passed hs (suc r) t))
      (λ m registers. InOperand (suc r) (operand_in hs (suc r) t) (x.config.temps t) m registers × AreThere hs x.config.temps m registers))
  brings r t place hs named served spare has =
      comes_then w _ _ _
      (comes_as w _ _ (λ s a. knows w order x outer mem place (AreThere hs x.config.temps) (Known hs Free) s (λ m registers h. (h, tt)) a))
      (now_known (place + code_length (operand_code x.fn.passed hs (suc r) t)) _ (WithOperand (suc r) (operand_in hs (suc r) t) t hs Free) _
      (λ m registers h. (h.0, h.1)) (operand_into r t place hs Free named served spare (λ m new old kept h. tt) has))

  -- an operand, and an instruction on its register
  pub on_operand : (r t place : ℕ) (v : Content) (hs : List Holding) (instr : ℕ → Instr) (value : ℕ → ℕ) → t < x.fn.temporaries → IsServed w x hs t
      → stays (suc r) ≡ false → Has w place (operand_code x.fn.passed hs 5 t ++ (Plain (instr (operand_in hs 5 t)) ∷ []))
      → ((q here : ℕ) (registers bytes : ℕ → ℕ) (st : Store) (answer : Answer)
      → effect w.areas answer (instr (suc q)) (state_of (state_at here registers bytes st)) ≡ gives (suc r) (value (registers (suc q)))
      (state_of (state_at here registers bytes st)))
      → ((q : ℕ) (s : Run) → AccessIsLawful w.areas s (instr (suc q)))
      → ((m : Maps) (n : ℕ) → Shows m (x.config.temps t) n → n < 2 ^ 32 → Shows m v (value n) × (value n < 2 ^ 32))
      → Comes w (AtWith w x outer mem place (AreThere hs x.config.temps))
      (AtWith w x outer mem (place + code_length (operand_code x.fn.passed hs 5 t ++ (Plain (instr (operand_in hs 5 t)) ∷ [])))
      (λ m registers. InRegister (suc r) v m registers × AreThere (without_register (suc r) hs) x.config.temps m registers))
  on_operand r t place v hs instr value named served other has e access shows =
      let first = operand_code x.fn.passed hs 5 t in
      let some = operand_some hs 4 t in
      in_turn w _ (λ p. AtWith w x outer mem p (Alone 5 (operand_in hs 5 t) t hs))
      (λ p. AtWith w x outer mem p (λ m registers. InRegister (suc r) v m registers × AreThere (without_register (suc r) hs) x.config.temps m registers))
      place first (Plain (instr (operand_in hs 5 t)) ∷ [])
      (brings 4 t place hs named served refl (has_first w place first (Plain (instr (operand_in hs 5 t)) ∷ []) has))
      (by (operand_in hs 5 t) some.0 some.1 (has_second w place first (Plain (instr (operand_in hs 5 t)) ∷ []) has))
    where
      middle : ℕ
      middle = place + code_length (operand_code x.fn.passed hs 5 t)

      by : (q k : ℕ) → q ≡ suc k → Has w middle (Plain (instr q) ∷ [])
          → Comes w (AtWith w x outer mem middle (Alone 5 q t hs))
          (AtWith w x outer mem (middle + 4)
          (λ m registers. InRegister (suc r) v m registers × AreThere (without_register (suc r) hs) x.config.temps m registers))
      by zero k none has = absurd (omega (arith, none))
      by (suc q) k some has = puts_value w order x outer mem r middle v _ _ (instr (suc q)) (λ registers. value (registers (suc q))) other has.0.0
          (λ registers bytes st answer. e q middle registers bytes st answer) (access q)
          (λ m registers h. shows m (registers (suc q)) h.0.0.0 h.0.0.1)
          (λ m new old here kept h. (here, there_without r hs x.config.temps m new old kept h.1))

  -- two of them, in turn
  pub operands_into : (t u place : ℕ) (hs : List Holding) → t < x.fn.temporaries → u < x.fn.temporaries → IsServed w x hs t → IsServed w x hs u
      → Has w place (operand_code x.fn.passed hs 5 t ++ operand_code x.fn.passed hs 6 u)
      → Comes w (AtWith w x outer mem place (AreThere hs x.config.temps))
      (AtWith w x outer mem (place + code_length (operand_code x.fn.passed hs 5 t ++ operand_code x.fn.passed hs 6 u))
      (λ m registers. InOperand 5 (operand_in hs 5 t) (x.config.temps t) m registers × InOperand 6 (operand_in hs 6 u) (x.config.temps u) m registers
      × AreThere hs x.config.temps m registers))
  operands_into t u place hs named named' served served' has =
      let first = operand_code x.fn.passed hs 5 t in
      let second = operand_code x.fn.passed hs 6 u in
      in_turn w _ (λ p. AtWith w x outer mem p (Alone 5 (operand_in hs 5 t) t hs))
      (λ p. AtWith w x outer mem p (λ m registers. InOperand 5 (operand_in hs 5 t) (x.config.temps t) m registers
      × InOperand 6 (operand_in hs 6 u) (x.config.temps u) m registers × AreThere hs x.config.temps m registers)) place first second
      (brings 4 t place hs named served refl (has_first w place first second has))
      (comes_then w _ _ _
      (comes_as w _ _ (λ s a. knows w order x outer mem (place + code_length first) _ (Known hs (InOperand 5 (operand_in hs 5 t) (x.config.temps t))) s
      (λ m registers h. (h.1, h.0)) a))
      (now_known (place + code_length first + code_length second) _ _ _ (λ m registers h. (h.2, h.0, h.1))
      (operand_into 5 u (place + code_length first) hs (InOperand 5 (operand_in hs 5 t) (x.config.temps t)) named' served' refl
      (operand_stays 5 (operand_in hs 5 t) 6 (x.config.temps t) refl refl refl) (has_second w place first second has))))

  -- a temporary's word into just this register
  abbrev Fetched : ℕ → ℕ → List Holding → (Maps → (ℕ → ℕ) → Type 0) → Maps → (ℕ → ℕ) → Type 0
  Fetched r t hs H m registers =
      InRegister r (x.config.temps t) m registers × AreThere (without_register r hs) x.config.temps m registers × H m registers

  pub fetch_into : (r t place : ℕ) (hs : List Holding) (H : Maps → (ℕ → ℕ) → Type 0) → t < x.fn.temporaries → IsServed w x hs t → stays (suc r) ≡ false
      → nat_eq (suc r) 7 ≡ false → Stable (suc r) H → Has w place (into_code x.fn.passed hs (suc r) t)
      → Comes w (AtWith w x outer mem place (λ m registers. AreThere hs x.config.temps m registers × H m registers))
      (AtWith w x outer mem (place + code_length (into_code x.fn.passed hs (suc r) t))
      (λ m registers. InRegister (suc r) (x.config.temps t) m registers × AreThere (without_register (suc r) hs) x.config.temps m registers × H m registers))
  fetch_into r t place hs H named served other not7 stable has = by (source_of hs t) refl has
    where
      changed : (m : Maps) (new old : ℕ → ℕ) → InRegister (suc r) (x.config.temps t) m new → Kept (suc r) new old → Known hs H m old
          → Fetched (suc r) t hs H m new
      changed m new old here kept h = (here, there_without r hs x.config.temps m new old kept h.0, stable m new old kept h.1)

      copied : (q : ℕ) → source_of hs t ≡ Some (Register (suc q)) → (same : Bool) → nat_eq (suc q) (suc r) ≡ same
          → Has w place (if same then [] else Plain (Addi (suc r) (suc q) (pos 0)) ∷ [])
          → Comes w (AtWith w x outer mem place (Known hs H))
          (AtWith w x outer mem (place + code_length (if same then [] else Plain (Addi (suc r) (suc q) (pos 0)) ∷ [])) (Fetched (suc r) t hs H))
      copied q e true same has = stays_there place (Known hs H) (Fetched (suc r) t hs H)
          (λ m registers h.
          let found = there_found hs t (Register (suc q)) x.config.temps m registers h.0 e in
          changed m registers registers (subst (λ k. InRegister k (x.config.temps t) m registers) (eqb-true (suc q) (suc r) same) found.0) (λ k a b. refl) h)
      copied q e false apart has = puts w order x outer mem r place (Known hs H) (Fetched (suc r) t hs H) (Addi (suc r) (suc q) (pos 0))
          (λ registers. sum_of (registers (suc q)) (word (pos 0))) other has.0.0 (λ r b st a. refl) (λ _. tt)
          (λ m registers h.
          let found = there_found hs t (Register (suc q)) x.config.temps m registers h.0 e in
          let value = sum_of (registers (suc q)) (word (pos 0)) in
          let is : set_register (suc r) value registers (suc r) ≡ registers (suc q) = set_here r value registers ∙ none_added (registers (suc q)) found.0.1 in
          changed m (set_register (suc r) value registers) registers (subst (λ k. Shows m (x.config.temps t) k × (k < 2 ^ 32)) (sym is) found.0)
          (set_kept r value registers) h)

      by : (s : Option Source) → source_of hs t ≡ s → Has w place (fetch_code x.fn.passed (suc r) t s)
          → Comes w (AtWith w x outer mem place (Known hs H))
          (AtWith w x outer mem (place + code_length (fetch_code x.fn.passed (suc r) t s)) (Fetched (suc r) t hs H))
      by None e has = loads_new w order x outer mem r t place (Known hs H) (Fetched (suc r) t hs H) named (served e) other changed has
      by (Some (Register zero)) e has = absurd (source_not_zero hs t e)
      by (Some (Register (suc q))) e has = copied q e (nat_eq (suc q) (suc r)) refl has
      by (Some (Number n)) e has = puts_number w order x outer mem r n place (Known hs H) (Fetched (suc r) t hs H)
          (λ m registers h. (there_found hs t (Number n) x.config.temps m registers h.0 e).1) other has
          (λ m new old is kept h. changed m new old
          (subst (λ k. Shows m (x.config.temps t) k × (k < 2 ^ 32)) (sym is) (there_found hs t (Number n) x.config.temps m old h.0 e)) kept h)
      by (Some (Compared c)) e has = puts_verdict w order x outer mem r c place (Known hs H) (Fetched (suc r) t hs H)
          (λ m registers h. let found = there_found hs t (Compared c) x.config.temps m registers h.0 e in (found.1.1, found.2.1)) other has
          (λ m new old is kept h.
          let found = there_found hs t (Compared c) x.config.temps m old h.0 e in
          changed m new old (subst (λ k. Shows m (x.config.temps t) k × (k < 2 ^ 32)) (sym is) (found.0, truth_few (is_so c old))) kept h)
      by (Some (ComparedWith n)) e has = puts_numbered w order x outer mem r n place (Known hs H) (Fetched (suc r) t hs H)
          (λ m registers h. let found = there_found hs t (ComparedWith n) x.config.temps m registers h.0 e in (found.1, found.2)) other has
          (λ m new old is kept h.
          let found = there_found hs t (ComparedWith n) x.config.temps m old h.0 e in
          changed m new old (subst (λ k. Shows m (x.config.temps t) k × (k < 2 ^ 32)) (sym is) (found.0, numbered_few n old)) kept h)

  -- ---- results: they are saved or not, and behind that these slots show their temporaries' words

  -- a temporary that isn't saved gets another value
  pub unkept_there : (after : List Bool) (t place : ℕ) (v : Content) (P Q : Maps → (ℕ → ℕ) → Type 0) → Follows false (t ∷ []) x.kept after
      → ((m : Maps) (registers : ℕ → ℕ) → P m registers → Q m registers)
      → Comes w (AtWith w x outer mem place P) (AtWith w (keeping after (having t v x)) outer mem (place + 0) Q)
  unkept_there after t place v P Q follows f =
      let e : place ≡ place + 0 = omega arith in
      comes_as w _ _ (λ s a. subst (λ p. AtWith w (keeping after (having t v x)) outer mem p Q s) e (record {
        maps = a.maps;
        frame = a.frame;
        others = a.others;
        sp = a.sp;
        stands = a.stands;
        shows = frame_unkept w a.maps x (back_of w outer) a.frame t v after follows a.shows;
        stack = a.stack;
        holds = f a.maps s.registers a.holds;
      }))

  pub keep_into : (keeps : Bool) (after : List Bool) (r t place : ℕ) (v : Content) (H : Maps → (ℕ → ℕ) → Type 0) → t < x.fn.temporaries
      → Follows keeps (t ∷ []) x.kept after → nat_eq (suc r) 7 ≡ false → Stable 7 H → Has w place (keep_code keeps x.fn.passed (suc r) t)
      → Comes w (AtWith w x outer mem place (λ m registers. InRegister (suc r) v m registers × H m registers))
      (AtWith w (keeping after (having t v x)) outer mem (place + code_length (keep_code keeps x.fn.passed (suc r) t))
      (λ m registers. InRegister (suc r) v m registers × H m registers))
  keep_into true after r t place v H named follows not7 stable has =
      saves_new w order x outer mem r t place v after _ _ named follows not7 (λ m registers h. h.0)
      (λ m new old kept h. (register_stays (suc r) 7 v m new old kept not7 not7 h.0, stable m new old kept h.1)) has
  keep_into false after r t place v H named follows not7 stable has = unkept_there after t place v _ _ follows (λ m registers h. h)

  -- what code leaves in a temporary's own register
  pub result_into : (keeps : Bool) (after : List Bool) (t place : ℕ) (v : Content) (hs : List Holding) (first : List Line) → t < x.fn.temporaries
      → Follows keeps (t ∷ []) x.kept after → Has w place (first ++ keep_code keeps x.fn.passed (result_register t) t)
      → (Has w place first → Comes w (AtWith w x outer mem place (AreThere hs x.config.temps))
      (AtWith w x outer mem (place + code_length first) (λ m registers. InRegister (result_register t) v m registers
      × AreThere (without_register (result_register t) hs) x.config.temps m registers)))
      → Comes w (AtHolding w x outer mem place hs) (AtHolding w (keeping after (having t v x)) outer mem
      (place + code_length (first ++ keep_code keeps x.fn.passed (result_register t) t)) (with_result t hs))
  result_into keeps after t place v hs first named follows has comes =
      let last = keep_code keeps x.fn.passed (result_register t) t in
      let others = without_register (result_register t) hs in
      let y = keeping after (having t v x) in
      in_turn w (AtHolding w x outer mem place hs)
      (λ p. AtWith w x outer mem p (λ m registers. InRegister (result_register t) v m registers × AreThere others x.config.temps m registers))
      (λ p. AtHolding w y outer mem p (with_result t hs)) place first last
      (comes_then w _ _ _ (comes_as w _ _ (with_there w x outer mem place hs)) (comes (has_first w place first last has)))
      (comes_then w _ _ _
      (keep_into keeps after (result_index t) t (place + code_length first) v (AreThere others x.config.temps) named follows
      (spare_apart (result_register t) 7 (result_free t) refl)
      (there_kept 6 others x.config.temps refl) (has_second w place first last has))
      (comes_as w _ _ (λ s a. knows w order y outer mem (place + code_length first + code_length last) _
      (AreThere (with_result t hs) y.config.temps) s
      (λ m registers h. there_source t v (Register (result_register t)) others x.config.temps m registers (h.0, result_free t) h.1) a)))

  -- a number, which is in no register
  abbrev Shown : ℕ → Content → List Holding → Maps → (ℕ → ℕ) → Type 0
  Shown n v hs m registers = Shows m v n × AreThere hs x.config.temps m registers

  abbrev Numbered : List Bool → ℕ → ℕ → Content → List Holding → ℕ → Machine → Type 0
  Numbered after t n v hs place =
      AtWith w (keeping after (having t v x)) outer mem place (AreThere (with_source t (Number n) hs) (set_temp t v x.config.temps))

  number_known : (t n : ℕ) (v : Content) (hs : List Holding) → n < 2 ^ 32 → (m : Maps) (registers : ℕ → ℕ) → Shown n v hs m registers
      → AreThere (with_source t (Number n) hs) (set_temp t v x.config.temps) m registers
  number_known t n v hs small m registers h = there_source t v (Number n) hs x.config.temps m registers (h.0, small) h.1

  number_there : (keeps : Bool) (after : List Bool) (t n place : ℕ) (v : Content) (hs : List Holding) → t < x.fn.temporaries
      → Follows keeps (t ∷ []) x.kept after → n < 2 ^ 32 → Has w place (number_kept keeps x.fn.passed t n)
      → Comes w (AtWith w x outer mem place (Shown n v hs)) (Numbered after t n v hs (place + code_length (number_kept keeps x.fn.passed t n)))
  number_there true after t n place v hs named follows small has =
      let first = number_code 5 n in
      let last = save_code 5 (slot_of x.fn.passed t) in
      in_turn w _ (λ p. AtWith w x outer mem p (λ m registers. (registers 5 ≡ n) × Shown n v hs m registers)) (Numbered after t n v hs) place first last
      (puts_number w order x outer mem 4 n place (Shown n v hs) (λ m registers. (registers 5 ≡ n) × Shown n v hs m registers) (λ m registers h. small) refl
      (has_first w place first last has)
      (λ m new old is kept h. (is, (h.0, there_kept 4 hs x.config.temps refl m new old kept h.1))))
      (saves_new w order x outer mem 4 t (place + code_length first) v after _ _ named follows refl
      (λ m registers h. subst (λ k. Shows m v k × (k < 2 ^ 32)) (sym h.0) (h.1.0, small))
      (λ m new old kept h. number_known t n v hs small m new (h.1.0, there_kept 6 hs x.config.temps refl m new old kept h.1.1))
      (has_second w place first last has))
  number_there false after t n place v hs named follows small has =
      unkept_there after t place v (Shown n v hs) _ follows (number_known t n v hs small)

  pub number_into : (keeps : Bool) (after : List Bool) (t n place : ℕ) (v : Content) (hs : List Holding) → t < x.fn.temporaries
      → Follows keeps (t ∷ []) x.kept after → n < 2 ^ 32
      → ((s : Machine) (a : AtWith w x outer mem place (AreThere hs x.config.temps) s) → Shows a.maps v n)
      → Has w place (number_kept keeps x.fn.passed t n)
      → Comes w (AtHolding w x outer mem place hs) (AtHolding w (keeping after (having t v x)) outer mem
      (place + code_length (number_kept keeps x.fn.passed t n)) (with_source t (Number n) hs))
  number_into keeps after t n place v hs named follows small shown has =
      comes_then w _ (AtWith w x outer mem place (Shown n v hs)) _
      (comes_as w _ _ (λ s a. let b = with_there w x outer mem place hs s a in record {
        maps = b.maps;
        frame = b.frame;
        others = b.others;
        sp = b.sp;
        stands = b.stands;
        shows = b.shows;
        stack = b.stack;
        holds = (shown s b, b.holds);
      }))
      (number_there keeps after t n place v hs named follows small has)
