-- What the code does that loads a local which is in a register, or stores to one: by way of what is known of temporaries.
use Rattle.std.specs.Prelude.{nat_eq, bit_and, if◌then◌else◌}
use Rattle.std.proofs.Common.{
  ◌≡◌,
  ℕ,
  zero,
  suc,
  pos,
  ◌+◌,
  ◌/◌,
  ◌%◌,
  ◌^◌,
  ◌<◌,
  Bool,
  true,
  false,
  List,
  [],
  ◌∷◌,
  ◌++◌,
  Option,
  Some,
  None,
  refl,
  sym,
  ap,
  subst,
  arith,
}
use Rattle.std.proofs.lemmas.Bool.{eqb-true}
use Rattle.std.proofs.lemmas.Nat.{and_mask}
use Rattle.arena_laws.specs.Lawful.{Answer}
use Rattle.cyc_words.specs.Words.{word, sum_of}
use Rattle.rv32_isa.specs.declared.instruction.Instr.{Instr}
use Rattle.rv32_isa.specs.declared.instruction.Instr.TheVariants as instr
use Rattle.rv32_machine.specs.Run.{Run}
use Rattle.rv32_machine.specs.State.{code_base, set_register}
use Rattle.rv32_machine.specs.Step.{effect, gives}
use Rattle.rv32_machine.specs.Audit.{AccessIsLawful}
use Rattle.core_meaning.specs.Memory.{Content, Part, Memory, with_part}
use Rattle.core_meaning.specs.Operations.{low_byte}
use Rattle.core_lines.specs.declared.comparison.Comparison.{Comparison}
use Rattle.core_lines.specs.declared.comparison.NumberComparison.{NumberComparison}
use Rattle.core_lines.specs.Comparisons.{verdict_code}
use Rattle.core_lines.specs.declared.line.Line.{Line}
use Rattle.core_lines.specs.declared.line.Line.TheVariants.{Plain}
use Rattle.core_lines.specs.Lines.{HasInstr, code_length}
use Rattle.core_lines.specs.Frames.{load_code, slot_of}
use Rattle.core_lines.specs.Held.{Source, Register, Number, Compared, ComparedWith, Holding, source_of, without_register, with_source}
use Rattle.core_lines.specs.Operands.{number_code, numbered_code, operand_in, operand_code, fetch_code, into_code, keep_code}
use Rattle.core_lines.specs.Homes.{is_home}
use Rattle.core_lines.specs.Machines.{Machine, Store, state_of}
use Rattle.core_lines.specs.Lies.{Maps, Shows, Activation, local_at}
use Rattle.core_lines.proofs.memory.Relations.{Moves, World, IsInOrder, Has, Waiting, Follows, keeping, back_of, FrameShows}
use Rattle.core_lines.proofs.memory.Moving.{Reach, Comes, comes_then, comes_as, bare}
use Rattle.core_lines.proofs.Steps.{state_at, gives_value}
use Rattle.core_lines.proofs.memory.Slots.{Kept, Puts, set_here, puts_number}
use Rattle.core_lines.proofs.memory.Verdicts.{is_so, verdict, truth_few, puts_verdict}
use Rattle.core_lines.proofs.operations.NumberVerdicts.{puts_numbered}
use Rattle.core_lines.proofs.homes.Homes.{other_home}
use Rattle.core_lines.proofs.homes.HomeLocals.{home_stored}
use Rattle.core_lines.proofs.memory.Storing.{low_shows}
use Rattle.core_lines.proofs.memory.Access.{behind, written_out, reads}
use Rattle.core_lines.proofs.frames.Passing.{has_first, has_second, temp_lies}
use Rattle.core_lines.proofs.operations.Registers.{
  having,
  AtWith,
  AtHolding,
  with_there,
  as_holding,
  is_spare,
  numbered_verdict,
  numbered_few,
  InRegister,
  InOperand,
  AreThere,
  IsServed,
  source_not_zero,
  there_found,
  operand_some,
  there_kept,
  there_without,
  there_also,
  there_source,
  set_kept,
  in_turn,
  knows,
  keep_into,
  none_added,
  brings,
}
use Rattle.core_lines.proofs.operations.Reaching.{register_is}

-- a home isn't a spare register
pub home_not_spare : (q : ℕ) → is_home q ≡ true → is_spare q ≡ false
home_not_spare q is = rw (other_home 5 q refl is, other_home 6 q refl is, other_home 7 q refl is) refl

module _ (w : World) (order : IsInOrder w) (x : Waiting) (outer : List Waiting) (mem : Memory) (hs : List Holding) (k o r : ℕ)
    (yes : is_home (suc r) ≡ true) (part : Part) (has_part : mem.parts (local_at k o) 0 ≡ Some part)
    (found : (m : Maps) (a : Activation) → FrameShows w m x (back_of w outer) a → a.homes k o ≡ Some (suc r)) where
  abbrev Known : Maps → (ℕ → ℕ) → Type 0
  Known m registers = AreThere hs x.config.temps m registers

  -- what is known behind a store to the local
  abbrev others : List Holding
  others = without_register (suc r) hs

  abbrev Left : Maps → (ℕ → ℕ) → Type 0
  Left m registers = AreThere others x.config.temps m registers

  not7 : nat_eq (suc r) 7 ≡ false
  not7 = other_home 7 (suc r) refl yes

  abbrev get_lines : Bool → ℕ → List Line
  get_lines keeps t = keep_code keeps x.fn.passed (suc r) t

  -- a local into a temporary
  pub get_home : (keeps : Bool) (after : List Bool) (t : ℕ) → t < x.fn.temporaries → Follows keeps (t ∷ []) x.kept after → (place : ℕ)
      → Has w place (get_lines keeps t)
      → Comes w (AtHolding w x outer mem place hs)
      (AtHolding w (keeping after (having t part.content x)) outer mem (place + code_length (get_lines keeps t)) (with_source t (Register (suc r)) hs))
  get_home keeps after t named follows place has =
      comes_then w _ (AtWith w x outer mem place (λ m registers. InRegister (suc r) part.content m registers × Known m registers)) _
      (comes_as w _ _ (λ s b. let a = with_there w x outer mem place hs s b in record {
        maps = a.maps;
        frame = a.frame;
        others = a.others;
        sp = a.sp;
        stands = a.stands;
        shows = a.shows;
        stack = a.stack;
        holds = (
          (
            (a.stands.homes.0.lie k o (suc r) (found a.maps a.frame a.shows)).shows part has_part,
            a.stands.homes.0.small (suc r) yes,
          ),
          a.holds,
        );
      }))
      (comes_then w _ _ _
      (keep_into w order x outer mem keeps after r t place part.content Known named follows not7 (there_kept 6 hs x.config.temps refl) has)
      (comes_as w _ _ (λ s a. knows w order (keeping after (having t part.content x)) outer mem (place + code_length (get_lines keeps t)) _
      (AreThere (with_source t (Register (suc r)) hs) (having t part.content x).config.temps) s
      (λ m registers h. there_source t part.content (Register (suc r)) hs x.config.temps m registers (h.0, home_not_spare (suc r) yes) h.1) a)))

  abbrev pub put_in : Content → Memory
  put_in v = with_part mem (local_at k o) 0 (record part { content = v })

  -- ---- a store to the local

  -- by these steps its register gets another value
  stores_home : (v : Content) (P Q : Maps → (ℕ → ℕ) → Type 0) (place count : ℕ) (lines : List Line) (s : Machine) (a : AtWith w x outer mem place P s)
      (new : ℕ → ℕ) → Moves w.areas count s (state_at (place + code_length lines) new s.bytes s.store) → Kept (suc r) new s.registers
      → InRegister (suc r) v a.maps new → Q a.maps new
      → Reach w.areas count (AtWith w x outer (put_in v) (place + code_length lines) Q) s
  stores_home v P Q place count lines s a new moves kept here known = record {
    next = state_at (place + code_length lines) new s.bytes s.store;
    moves = moves;
    there = record {
      maps = a.maps;
      frame = a.frame;
      others = a.others;
      sp = a.sp;
      stands = home_stored w order mem place a.maps a.frame a.others a.sp s a.stands k o r (found a.maps a.frame a.shows) part has_part
          v (place + code_length lines) new (behind place lines a.stands.aligned) kept here.0 here.1;
      shows = a.shows;
      stack = a.stack;
      holds = known;
    };
  }

  -- one instruction that gives the value
  pub one_more : (v : Content) (P Q : Maps → (ℕ → ℕ) → Type 0) (place : ℕ) (i : Instr) (value : (ℕ → ℕ) → ℕ)
      → HasInstr w.areas w.code (code_base + place) i
      → ((registers bytes : ℕ → ℕ) (st : Store) (answer : Answer)
      → effect w.areas answer i (state_of (state_at place registers bytes st)) ≡ gives (suc r) (value registers) (state_of (state_at place registers bytes st)))
      → ((q : Run) → AccessIsLawful w.areas q i)
      → ((m : Maps) (registers : ℕ → ℕ) → P m registers → Shows m v (value registers) × (value registers < 2 ^ 32))
      → ((m : Maps) (new old : ℕ → ℕ) → InRegister (suc r) v m new → Kept (suc r) new old → P m old → Q m new)
      → Comes w (AtWith w x outer mem place P) (AtWith w x outer (put_in v) (place + 4) Q)
  one_more v P Q place i value has e access shows gets = record {
    count = 1;
    by = λ s a.
        let n = value s.registers in
        let new = set_register (suc r) n s.registers in
        let kept = set_kept r n s.registers in
        let here : InRegister (suc r) v a.maps new =
        subst (λ q. Shows a.maps v q × (q < 2 ^ 32)) (sym (set_here r n s.registers)) (shows a.maps s.registers a.holds) in
        stores_home v P Q place 1 (Plain i ∷ []) s a new
        (subst (λ (t : Machine). Moves w.areas 1 t (state_at (place + 4) new s.bytes s.store))
        (sym (written_out w order mem place a.maps (a.frame ∷ a.others) a.sp s a.stands))
        (gives_value w.areas w.code order.code_within s.store place s.registers s.bytes a.stands.kept i has (suc r) n
        (λ answer. e s.registers s.bytes s.store answer) (access (bare (state_at place s.registers s.bytes s.store)))))
        kept here (gets a.maps new s.registers here kept a.holds);
  }

  module _ (y : ℕ) (named : y < x.fn.temporaries) (served : IsServed w x hs y) where
    abbrev v : Content
    v = x.config.temps y

    -- the temporary's word is in the register then
    abbrev both : List Holding
    both = with_source y (Register (suc r)) others

    abbrev Both : Maps → (ℕ → ℕ) → Type 0
    Both m registers = AreThere both x.config.temps m registers

    known_there : (m : Maps) (new old : ℕ → ℕ) → InRegister (suc r) v m new → Kept (suc r) new old → Known m old → Both m new
    known_there m new old here kept a =
        there_also y (Register (suc r)) others x.config.temps m new (here, home_not_spare (suc r) yes) (there_without r hs x.config.temps m new old kept a)

    abbrev Stores : List Line → ℕ → Type 0
    Stores lines place = Comes w (AtWith w x outer mem place Known) (AtWith w x outer (put_in v) (place + code_length lines) Both)

    -- a temporary into a local of a word: from its slot, from another register, or a number
    from_slot : source_of hs y ≡ None → (place : ℕ) → Has w place (load_code (suc r) (slot_of x.fn.passed y))
        → Stores (load_code (suc r) (slot_of x.fn.passed y)) place
    from_slot unknown place has =
        let lines = load_code (suc r) (slot_of x.fn.passed y) in
        record {
          count = code_length lines / 4;
          by = λ s a.
              let l = reads w order mem place a.maps (a.frame ∷ a.others) a.sp s a.stands 0 (slot_of x.fn.passed y) (slot_of x.fn.passed y) r v
              (temp_lies w order x outer mem a.maps (back_of w outer) a.frame a.others a.sp y named (served unknown) a.shows a.stands.stacked) has in
              let here : InRegister (suc r) v a.maps l.new = (l.holds, l.below) in
              stores_home v Known Both place (code_length lines / 4) lines s a l.new l.moves l.kept here
              (known_there a.maps l.new s.registers here l.kept a.holds);
        }

    from_register : (q : ℕ) → source_of hs y ≡ Some (Register (suc q)) → (same : Bool) → nat_eq (suc q) (suc r) ≡ same → (place : ℕ)
        → Has w place (if same then [] else Plain (instr.Addi (suc r) (suc q) (pos 0)) ∷ [])
        → Stores (if same then [] else Plain (instr.Addi (suc r) (suc q) (pos 0)) ∷ []) place
    from_register q is true same place has = record {
      count = 0;
      by = λ s a.
          let here = there_found hs y (Register (suc q)) x.config.temps a.maps s.registers a.holds is in
          let own = subst (λ t. InRegister t v a.maps s.registers) (eqb-true (suc q) (suc r) same) here.0 in
          let there : place ≡ place + 0 = omega arith in
          stores_home v Known Both place 0 [] s a s.registers
          (subst (λ p. Moves w.areas 0 s (state_at p s.registers s.bytes s.store)) there
          (subst (λ (t : Machine). Moves w.areas 0 s t) (written_out w order mem place a.maps (a.frame ∷ a.others) a.sp s a.stands)
          (Rattle.core_lines.proofs.memory.Moving.stays w.areas s)))
          (λ t a b. refl) own (known_there a.maps s.registers s.registers own (λ t a b. refl) a.holds);
    }
    from_register q is false apart place has =
        one_more v Known Both place (instr.Addi (suc r) (suc q) (pos 0)) (λ registers. sum_of (registers (suc q)) (word (pos 0))) has.0.0
        (λ registers b st n. refl) (λ _. tt)
        (λ m registers h.
        let here = there_found hs y (Register (suc q)) x.config.temps m registers h is in
        let same = none_added (registers (suc q)) here.0.1 in
        (subst (λ n. Shows m v n) (sym same) here.0.0, subst (λ n. n < 2 ^ 32) (sym same) here.0.1)) known_there

    -- by code that puts the word there
    from_code : (lines : List Line) (value : (ℕ → ℕ) → ℕ) (place : ℕ)
        → ((s : Machine) (a : AtWith w x outer mem place Known s)
        → Puts w place (place + code_length lines) (code_length lines / 4) (suc r) (value s.registers) s.registers s.bytes s.store
        × (Shows a.maps v (value s.registers) × (value s.registers < 2 ^ 32)))
        → Stores lines place
    from_code lines value place puts = record {
      count = code_length lines / 4;
      by = λ s a.
          let both = puts s a in
          let p = both.0 in
          let there : InRegister (suc r) v a.maps p.new = subst (λ q. Shows a.maps v q × (q < 2 ^ 32)) (sym p.holds) both.1 in
          stores_home v Known Both place (code_length lines / 4) lines s a p.new
          (subst (λ (t : Machine). Moves w.areas (code_length lines / 4) t (state_at (place + code_length lines) p.new s.bytes s.store))
          (sym (written_out w order mem place a.maps (a.frame ∷ a.others) a.sp s a.stands)) p.moves)
          p.kept there (known_there a.maps p.new s.registers there p.kept a.holds);
    }

    from_number : (n : ℕ) → source_of hs y ≡ Some (Number n) → (place : ℕ) → Has w place (number_code (suc r) n) → Stores (number_code (suc r) n) place
    from_number n is place has = from_code (number_code (suc r) n) (λ registers. n) place (λ s a.
        let here = there_found hs y (Number n) x.config.temps a.maps s.registers a.holds is in
        (puts_number w order place s.registers s.bytes s.store a.stands.kept r n here.1 has, here))

    from_verdict : (c : Comparison) → source_of hs y ≡ Some (Compared c) → (place : ℕ) → Has w place (verdict_code (suc r) c)
        → Stores (verdict_code (suc r) c) place
    from_verdict c is place has = from_code (verdict_code (suc r) c) (verdict c) place (λ s a.
        let here = there_found hs y (Compared c) x.config.temps a.maps s.registers a.holds is in
        (puts_verdict w order place s.registers s.bytes s.store a.stands.kept c r here.1.1 here.2.1 has, (here.0, truth_few (is_so c s.registers))))

    from_numbered : (n : NumberComparison) → source_of hs y ≡ Some (ComparedWith n) → (place : ℕ) → Has w place (numbered_code (suc r) n)
        → Stores (numbered_code (suc r) n) place
    from_numbered n is place has = from_code (numbered_code (suc r) n) (numbered_verdict n) place (λ s a.
        let here = there_found hs y (ComparedWith n) x.config.temps a.maps s.registers a.holds is in
        (puts_numbered w order place s.registers s.bytes s.store a.stands.kept n r here.1 here.2 has, (here.0, numbered_few n s.registers)))

    from_source : (s : Option Source) → source_of hs y ≡ s → (place : ℕ) → Has w place (fetch_code x.fn.passed (suc r) y s)
        → Stores (fetch_code x.fn.passed (suc r) y s) place
    from_source None is place has = from_slot is place has
    from_source (Some (Register zero)) is place has = absurd (source_not_zero hs y is)
    from_source (Some (Register (suc q))) is place has = from_register q is (nat_eq (suc q) (suc r)) refl place has
    from_source (Some (Number n)) is place has = from_number n is place has
    from_source (Some (Compared c)) is place has = from_verdict c is place has
    from_source (Some (ComparedWith n)) is place has = from_numbered n is place has

    -- with what is known before and behind
    stored_as : (v : Content) (place end : ℕ) (after : List Holding)
        → Comes w (AtWith w x outer mem place Known) (AtWith w x outer (put_in v) end (AreThere after x.config.temps))
        → Comes w (AtHolding w x outer mem place hs) (AtHolding w x outer (put_in v) end after)
    stored_as v place end after comes = comes_then w _ _ _
        (comes_as w (AtHolding w x outer mem place hs) (AtWith w x outer mem place Known) (with_there w x outer mem place hs))
        (comes_then w _ _ _ comes
        (comes_as w (AtWith w x outer (put_in v) end (AreThere after x.config.temps)) (AtHolding w x outer (put_in v) end after)
        (as_holding w x outer (put_in v) end after)))

    pub put_word : (place : ℕ) → Has w place (into_code x.fn.passed hs (suc r) y)
        → Comes w (AtHolding w x outer mem place hs)
        (AtHolding w x outer (put_in v) (place + code_length (into_code x.fn.passed hs (suc r) y)) both)
    put_word place has =
        stored_as v place (place + code_length (into_code x.fn.passed hs (suc r) y)) both (from_source (source_of hs y) refl place has)

    -- and into one of a byte
    abbrev byte_lines : List Line
    byte_lines = operand_code x.fn.passed hs 6 y ++ (Plain (instr.Andi (suc r) (operand_in hs 6 y) (pos 255)) ∷ [])

    pub put_byte : (place : ℕ) → Has w place byte_lines
        → Comes w (AtHolding w x outer mem place hs) (AtHolding w x outer (put_in (low_byte v)) (place + code_length byte_lines) others)
    put_byte place has =
        let first = operand_code x.fn.passed hs 6 y in
        let from = operand_in hs 6 y in
        let last : List Line = Plain (instr.Andi (suc r) from (pos 255)) ∷ [] in
        let P : Maps → (ℕ → ℕ) → Type 0 = λ m registers. InOperand 6 from v m registers × Known m registers in
        stored_as (low_byte v) place (place + code_length (first ++ last)) others
        (in_turn w (AtWith w x outer mem place Known) (λ p. AtWith w x outer mem p P) (λ p. AtWith w x outer (put_in (low_byte v)) p Left) place first last
        (brings w order x outer mem 5 y place hs named served refl (has_first w place first last has))
        (one_more (low_byte v) P Left (place + code_length first) (instr.Andi (suc r) from (pos 255))
        (λ registers. bit_and (registers from) (word (pos 255))) (has_second w place first last has).0.0
        (λ registers b st n.
        let m = state_of (state_at (place + code_length first) registers b st) in
        ap (λ u. gives (suc r) (bit_and u (word (pos 255))) m) (register_is (place + code_length first) registers b st from (operand_some hs 5 y)))
        (λ _. tt)
        (λ m registers h.
        let masked : bit_and (registers from) (word (pos 255)) ≡ registers from % 256 = and_mask (registers from) 8 in
        (subst (λ n. Shows m (low_byte v) n) (sym masked) (low_shows m v (registers from) h.0.0.0), omega (arith, masked)))
        (λ m new old here kept h. there_without r hs x.config.temps m new old kept h.1)))
