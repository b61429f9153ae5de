-- What the code of a test does.
use Rattle.std.specs.Prelude.{nat_eq, not, if◌then◌else◌}
use Rattle.std.proofs.Common.{◌≡◌, ℕ, zero, suc, pos, ◌+◌, ◌<◌, ◌≤◌, Bool, true, false, List, [], ◌∷◌, ◌++◌, Option, Some, None}
use Rattle.std.proofs.Common.{refl, sym, ap, subst, ◌∙◌, arith}
use Rattle.std.proofs.lemmas.Bool.{eqb-true, eq-eqb, ne_eqb}
use Rattle.cyc_words.specs.Events.{SourceEnding}
use Rattle.cyc_words.specs.Words.{word, sum_of}
use Rattle.rv32_isa.specs.declared.instruction.Instr.TheVariants.{Jal}
use Rattle.rv32_machine.specs.State.{code_base, set_register}
use Rattle.rv32_machine.specs.Step.{truth}
use Rattle.step_trees.specs.Trees.{Stops}
use Rattle.core_meaning.specs.Memory.{Content, Blank, Word, Null, Pointer, Birth, Memory}
use Rattle.core_meaning.specs.Meaning as core
use Rattle.core_meaning.specs.Steps.{Step, stuck}
use Rattle.core_lines.specs.declared.comparison.Comparison.{Comparison}
use Rattle.core_lines.specs.Comparisons.{inverse, branch_if}
use Rattle.core_lines.specs.declared.line.Line.{Line}
use Rattle.core_lines.specs.declared.line.Line.TheVariants.{JumpUnless, BranchUnless}
use Rattle.core_lines.specs.Machines.{Machine, state_of}
use Rattle.core_lines.specs.Lines.{HasInstr, code_length, offset_to}
use Rattle.core_lines.specs.Lies.{Maps, Shows}
use Rattle.core_lines.proofs.memory.Relations.{Moves, World, IsInOrder, Has, Waiting, keeping}
use Rattle.core_lines.proofs.memory.Moving.{Reach, Comes, comes_then, comes_as, bare}
use Rattle.core_lines.proofs.memory.Verdicts.{is_so, verdict, twice_not, not_so, branch_as, branch_lawful}
use Rattle.core_lines.proofs.memory.Words.{offset_joined}
use Rattle.core_lines.proofs.Steps.{state_at, is_in_code, goes_to, passes}
use Rattle.core_lines.proofs.memory.Access.{written_out, length_of_both}
use Rattle.core_lines.proofs.frames.Passing.{has_first, has_second}
use Rattle.core_lines.proofs.frames.Jumping.{jumps_with, jumps_to}
use Rattle.core_lines.proofs.operations.Registers.{AtWith, AtHolding, InOperand, AreThere, IsServed, elsewhere, knows, with_there, as_holding}
use Rattle.core_lines.proofs.operations.Registers.{brings, now_known, stays_there, there_found, there_kept, puts_number, numbered_verdict, source_not_zero}
use Rattle.core_lines.proofs.operations.NumberVerdicts.{so_now}
use Rattle.core_lines.specs.Held.{Source, Register, Number, Compared, ComparedWith, Holding, source_of}
use Rattle.core_lines.specs.Operands.{register_for, bring_code, is_some, test_for, test_in, ready_code, test_ready}
use Rattle.core_lines.specs.Choosing.{jump_unless, choice_code}
use Rattle.core_lines.proofs.frames.Going.{with_config}
use Rattle.core_lines.proofs.Ways.{Tested, Fails, Holds, Neither, Jumps}

-- ---- what a test holds

-- no step is all steps
not_both : (s : Step) → ((t : Step) → s ≡ t) → ⊥
not_both s all = cc (all (Stops SourceEnding.Running), all stuck)

pub fails_zero : (m : Maps) (v : Content) (n : ℕ) → Shows m v n → ((these those : Step) → core.branch v these those ≡ those) → n ≡ 0
fails_zero m (Word k) n shows h = by (nat_eq k 0) refl
  where
    by : (b : Bool) → nat_eq k 0 ≡ b → n ≡ 0
    by true e = shows ∙ eqb-true k 0 e
    by false e = absurd (cc (h stuck (Stops SourceEnding.Running), e))
fails_zero m Null n shows h = shows
fails_zero m (Pointer s b) n shows h = absurd (cc (h stuck (Stops SourceEnding.Running)))
fails_zero m Blank n shows h = absurd (cc (h stuck (Stops SourceEnding.Running)))
fails_zero m (Birth d) n shows h = absurd (cc (h stuck (Stops SourceEnding.Running)))

pub holds_other : (m : Maps) (v : Content) (n : ℕ) → Shows m v n → ((these those : Step) → core.branch v these those ≡ these) → nat_eq n 0 ≡ false
holds_other m (Word k) n shows h = by (nat_eq k 0) refl
  where
    by : (b : Bool) → nat_eq k 0 ≡ b → nat_eq n 0 ≡ false
    by true e = absurd (cc (h (Stops SourceEnding.Running) stuck, e))
    by false e = ap (λ q. nat_eq q 0) shows ∙ e
holds_other m Null n shows h = absurd (cc (h (Stops SourceEnding.Running) stuck))
holds_other m (Pointer s b) n shows h = let positive = shows.positive in ne_eqb n 0 (λ e. omega (arith, e, positive))
holds_other m Blank n shows h = absurd (cc (h (Stops SourceEnding.Running) stuck))
holds_other m (Birth d) n shows h = absurd (cc (h (Stops SourceEnding.Running) stuck))

-- ---- what a comparison says of it

-- a comparison holds exactly where a value, as a word, isn't 0
pub record Judges (c : Comparison) (v : Content) (m : Maps) (registers : ℕ → ℕ) : Type 0 where
  pub number : ℕ
  pub shown : Shows m v number
  pub same : nat_eq number 0 ≡ not (is_so c registers)

not_of : (b c : Bool) → not b ≡ c → b ≡ not c
not_of true c e = sym (ap not (sym e))
not_of false c e = sym (ap not (sym e))

pub isnt_so : (c : Comparison) (m : Maps) (v : Content) (registers : ℕ → ℕ) → Judges c v m registers
    → ((these those : Step) → core.branch v these those ≡ those) → is_so c registers ≡ false
isnt_so c m v registers j h =
    not_of (is_so c registers) true (sym j.same ∙ eq-eqb j.number 0 (fails_zero m v j.number j.shown h))

pub is_so_where : (c : Comparison) (m : Maps) (v : Content) (registers : ℕ → ℕ) → Judges c v m registers
    → ((these those : Step) → core.branch v these those ≡ these) → is_so c registers ≡ true
is_so_where c m v registers j h = not_of (is_so c registers) false (sym j.same ∙ holds_other m v j.number j.shown h)

none_true : (b : Bool) → nat_eq (truth b) 0 ≡ not b
none_true true = refl
none_true false = refl

module _ (w : World) (order : IsInOrder w) (x : Waiting) (outer : List Waiting) (mem : Memory) where
  -- ---- the branch of a test

  -- a jump that is made unless a comparison holds, as a branch over a jump or as a branch
  abbrev jump_line : Bool → Comparison → ℕ → Line
  jump_line far c label = (if far then JumpUnless c label else BranchUnless c label)

  module _ (label place : ℕ) (c : Comparison) (P : Maps → (ℕ → ℕ) → Type 0) where
    leaves : (far : Bool) → Has w place (jump_line far c label ∷ []) → ((m : Maps) (registers : ℕ → ℕ) → P m registers → is_so c registers ≡ false)
        → Comes w (AtWith w x outer mem place P) (AtWith w x outer mem (w.places label) P)
    leaves true has isnt =
        let e : code_base + place + 4 ≡ code_base + (place + 4) = omega arith in
        comes_then w _ (AtWith w x outer mem (place + 4) P) _ (record {
          count = 1;
          by = λ s a.
              let now = state_at place s.registers s.bytes s.store in
              let next = state_at (place + 4) s.registers s.bytes s.store in
              let aligned = a.stands.aligned in
              record {
                next = next;
                moves = subst (λ (q : Machine). Moves w.areas 1 q next) (sym (written_out w order mem place a.maps (a.frame ∷ a.others) a.sp s a.stands))
                    (passes w.areas w.code order.code_within s.store place s.registers s.bytes a.stands.kept (branch_if c (pos 8)) has.0.0
                    (λ answer. branch_as w.areas answer c (pos 8) (state_of now) false (isnt a.maps s.registers a.holds))
                    (branch_lawful w.areas (bare now) c (pos 8)));
                there = elsewhere w order x outer mem place (place + 4) P P s a s.registers (omega (arith, aligned)) (λ q h. refl) a.holds;
              };
        })
        (jumps_with w order x outer mem label (place + 4) P
        (subst (λ at. HasInstr w.areas w.code at (Jal 0 (offset_to (w.places label) (place + 4)))) e has.0.1.0))
    leaves false has isnt = record {
      count = 1;
      by = λ s a.
          let to = w.places label in
          let is_place = order.labels label in
          let within = is_place.within in
          let offset = offset_to to place in
          let branch = branch_if (inverse c) offset in
          let near = is_in_code w.areas w.code order.code_within s.store place branch has.0.0 in
          let now = state_at place s.registers s.bytes s.store in
          let next = state_at to s.registers s.bytes s.store in
          record {
            next = next;
            moves = subst (λ (q : Machine). Moves w.areas 1 q next) (sym (written_out w order mem place a.maps (a.frame ∷ a.others) a.sp s a.stands))
                (goes_to w.areas w.code order.code_within s.store place s.registers s.bytes a.stands.kept branch has.0.0 0
                (sum_of (code_base + place) (word offset)) to (offset_joined code_base to place (omega (arith, near)) (omega (arith, within)))
                is_place.aligned
                (λ answer. branch_as w.areas answer (inverse c) offset (state_of now) true
                (not_so c s.registers ∙ ap not (isnt a.maps s.registers a.holds)))
                (branch_lawful w.areas (bare now) (inverse c) offset));
            there = elsewhere w order x outer mem place to P P s a s.registers is_place.aligned (λ q h. refl) a.holds;
          };
    }

    past_as : (far : Bool) → Has w place (jump_line far c label ∷ []) → (s : Machine) (a : AtWith w x outer mem place P s)
        → is_so c s.registers ≡ true → Reach w.areas 1 (AtWith w x outer mem (place + code_length (jump_line far c label ∷ [])) P) s
    past_as true has s a is =
        let now = state_at place s.registers s.bytes s.store in
        let next = state_at (place + 8) s.registers s.bytes s.store in
        let aligned = a.stands.aligned in
        let near = is_in_code w.areas w.code order.code_within s.store place (branch_if c (pos 8)) has.0.0 in
        record {
          next = next;
          moves = subst (λ (q : Machine). Moves w.areas 1 q next) (sym (written_out w order mem place a.maps (a.frame ∷ a.others) a.sp s a.stands))
              (goes_to w.areas w.code order.code_within s.store place s.registers s.bytes a.stands.kept (branch_if c (pos 8)) has.0.0 0
              (sum_of (code_base + place) 8) (place + 8) (omega (arith, near)) (omega (arith, aligned))
              (λ answer. branch_as w.areas answer c (pos 8) (state_of now) true is) (branch_lawful w.areas (bare now) c (pos 8)));
          there = elsewhere w order x outer mem place (place + 8) P P s a s.registers (omega (arith, aligned)) (λ q h. refl) a.holds;
        }
    past_as false has s a is =
        let now = state_at place s.registers s.bytes s.store in
        let next = state_at (place + 4) s.registers s.bytes s.store in
        let aligned = a.stands.aligned in
        let offset = offset_to (w.places label) place in
        record {
          next = next;
          moves = subst (λ (q : Machine). Moves w.areas 1 q next) (sym (written_out w order mem place a.maps (a.frame ∷ a.others) a.sp s a.stands))
              (passes w.areas w.code order.code_within s.store place s.registers s.bytes a.stands.kept (branch_if (inverse c) offset) has.0.0
              (λ answer. branch_as w.areas answer (inverse c) offset (state_of now) false (not_so c s.registers ∙ ap not is))
              (branch_lawful w.areas (bare now) (inverse c) offset));
          there = elsewhere w order x outer mem place (place + 4) P P s a s.registers (omega (arith, aligned)) (λ q h. refl) a.holds;
        }

  -- ---- a test of a temporary

  module _ (held : List Holding) (t place : ℕ) (named : t < x.fn.temporaries) (served : IsServed w x held t) where
    -- what is compared tells what it holds
    abbrev pub Tells : Comparison → Maps → (ℕ → ℕ) → Type 0
    Tells c m registers = Judges c (x.config.temps t) m registers × AreThere held x.config.temps m registers

    -- where it is in a register, its word is compared with 0
    by_word : (r : ℕ) (m : Maps) (registers : ℕ → ℕ) → InOperand 5 (suc r) (x.config.temps t) m registers × AreThere held x.config.temps m registers
        → Tells (is_some (suc r)) m registers
    by_word r m registers h = (record { number = registers (suc r); shown = h.0.0.0; same = sym (twice_not (nat_eq (registers (suc r)) 0)) }, h.1)

    abbrev Brought : Option Source → Type 0
    Brought s = Has w place (bring_code x.fn.passed 5 t s) → Comes w (AtWith w x outer mem place (AreThere held x.config.temps))
        (AtWith w x outer mem (place + code_length (bring_code x.fn.passed 5 t s))
        (λ m registers. InOperand 5 (register_for 5 s) (x.config.temps t) m registers × AreThere held x.config.temps m registers))

    brought : (s : Option Source) → source_of held t ≡ s → Brought s
    brought s e = subst Brought e (brings w order x outer mem 4 t place held named served refl)

    pub ready : Has w place (test_ready x.fn.passed held 5 t) → Comes w (AtWith w x outer mem place (AreThere held x.config.temps))
        (AtWith w x outer mem (place + code_length (test_ready x.fn.passed held 5 t)) (Tells (test_in held 5 t)))
    ready has = by (source_of held t) refl has
      where
        by : (s : Option Source) → source_of held t ≡ s → Has w place (ready_code x.fn.passed 5 t s)
            → Comes w (AtWith w x outer mem place (AreThere held x.config.temps))
            (AtWith w x outer mem (place + code_length (ready_code x.fn.passed 5 t s)) (Tells (test_for 5 s)))
        by None e has = now_known w order x outer mem (place + code_length (ready_code x.fn.passed 5 t None)) _ _ _ (by_word 4) (brought None e has)
        by (Some (Register zero)) e has = absurd (source_not_zero held t e)
        by (Some (Register (suc r))) e has = now_known w order x outer mem (place + 0) _ _ _ (by_word r) (brought (Some (Register (suc r))) e has)
        by (Some (Number n)) e has = now_known w order x outer mem (place + code_length (ready_code x.fn.passed 5 t (Some (Number n)))) _ _ _ (by_word 4)
            (brought (Some (Number n)) e has)
        by (Some (Compared c)) e has = stays_there w order x outer mem place (AreThere held x.config.temps) (Tells c) (λ m registers h.
            let found = there_found held t (Compared c) x.config.temps m registers h e in
            (record { number = verdict c registers; shown = found.0; same = none_true (is_so c registers) }, h))
        by (Some (ComparedWith n)) e has = puts_number w order x outer mem 6 n.number place (AreThere held x.config.temps) (Tells n.comparison)
            (λ m registers h. (there_found held t (ComparedWith n) x.config.temps m registers h e).1) refl has
            (λ m new old is kept h.
            let found = there_found held t (ComparedWith n) x.config.temps m old h e in
            let so = so_now n new old is found.1 kept found.2 in (
              record {
                number = numbered_verdict n old;
                shown = found.0;
                same = none_true (is_so n.comparison (set_register 7 n.number old)) ∙ ap not so;
              },
              there_kept 6 held x.config.temps refl m new old kept h,
            ))

  module _ (held : List Holding) (t label place : ℕ) (named : t < x.fn.temporaries) (served : IsServed w x held t)
      (has : Has w place (choice_code w.wide x.fn.passed held t label)) where
    abbrev first : List Line
    first = test_ready x.fn.passed held 5 t

    abbrev test : Comparison
    test = test_in held 5 t

    abbrev second : List Line
    second = jump_unless w.wide test label ∷ []

    abbrev middle : ℕ
    middle = place + code_length first

    abbrev At_branch : Machine → Type 0
    At_branch = AtWith w x outer mem middle (Tells held t place named served test)

    abbrev at_branch : Comes w (AtHolding w x outer mem place held) At_branch
    at_branch = comes_then w _ _ _ (comes_as w _ _ (with_there w x outer mem place held))
        (ready held t place named served (has_first w place first second has))

    -- what is known is known on either way
    still : (at : ℕ) (s : Machine) → AtWith w x outer mem at (Tells held t place named served test) s → AtHolding w x outer mem at held s
    still at s a =
        as_holding w x outer mem at held s
        (knows w order x outer mem at (Tells held t place named served test) (AreThere held x.config.temps) s (λ m registers h. h.1) a)

    pub fails : ((these those : Step) → core.branch (x.config.temps t) these those ≡ those)
        → Comes w (AtHolding w x outer mem place held) (AtHolding w x outer mem (w.places label) held)
    fails h = comes_then w _ _ _ at_branch
        (comes_then w _ _ _
        (leaves label middle test (Tells held t place named served test) (w.wide label) (has_second w place first second has)
        (λ m registers j. isnt_so test m (x.config.temps t) registers j.0 h))
        (comes_as w _ _ (still (w.places label))))

    pub past_goes : ((these those : Step) → core.branch (x.config.temps t) these those ≡ these) → (s : Machine) → At_branch s
        → Reach w.areas 1 (AtHolding w x outer mem (middle + code_length second) held) s
    past_goes h s a =
        let one = past_as label middle test (Tells held t place named served test) (w.wide label) (has_second w place first second has) s a
        (is_so_where test a.maps (x.config.temps t) s.registers a.holds.0 h) in
        record { next = one.next; moves = one.moves; there = still (middle + code_length second) one.next one.there }

    abbrev past : ((these those : Step) → core.branch (x.config.temps t) these those ≡ these)
        → Comes w At_branch (AtHolding w x outer mem (middle + code_length second) held)
    past h = record { count = 1; by = past_goes h }

    abbrev pub holds : ((these those : Step) → core.branch (x.config.temps t) these those ≡ these)
        → Comes w (AtHolding w x outer mem place held) (AtHolding w x outer mem (place + code_length (first ++ second)) held)
    holds h =
        let e : middle + code_length second ≡ place + code_length (first ++ second) = omega (arith, length_of_both first second) in
        comes_then w _ _ _ at_branch (comes_then w _ _ _ (past h) (comes_as w _ _ (λ s a. subst (λ p. AtHolding w x outer mem p held s) e a)))

    pub takes_some : (h : (these those : Step) → core.branch (x.config.temps t) these those ≡ these) → 1 ≤ (holds h).count
    takes_some h = omega arith

-- ---- what a test may hold

pub tested : (v : Content) → Tested v
tested (Word n) = by (nat_eq n 0) refl
  where
    by : (b : Bool) → nat_eq n 0 ≡ b → Tested (Word n)
    by true e = Fails (Word n) (λ these those. ap (λ c. if c then those else these) e)
    by false e = Holds (Word n) (λ these those. ap (λ c. if c then those else these) e)
tested Null = Fails Null (λ these those. refl)
tested (Pointer s b) = Holds (Pointer s b) (λ these those. refl)
tested Blank = Neither Blank (λ these those. refl)
tested (Birth d) = Neither (Birth d) (λ these those. refl)

pub tests_and_jumps : (w : World) (order : IsInOrder w) (x : Waiting) (outer : List Waiting) (kept : List Bool)
    → Jumps w (keeping kept x) outer (choice_code w.wide x.fn.passed)
tests_and_jumps w order x outer kept =
    let y = keeping kept x in
    record {
      jump = λ held label place has c is. jumps_to w order (with_config y c) outer c.memory held label place has;
      fails = λ held t label place named served has c is h. fails w order (with_config y c) outer c.memory held t label place named served has h;
      holds = λ held t label place named served has c is h. holds w order (with_config y c) outer c.memory held t label place named served has h;
      some = λ held t label place named served has c is h. takes_some w order (with_config y c) outer c.memory held t label place named served has h;
      tested = tested;
    }
