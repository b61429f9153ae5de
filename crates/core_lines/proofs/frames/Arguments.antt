-- Arguments go into the words for a callee, each from where it is known to be, and the machine comes to the function's first line.
use Rattle.std.specs.Prelude.{nat_eq, length, if◌then◌else◌}
use Rattle.std.proofs.Common.{
  ◌≡◌,
  ℕ,
  zero,
  suc,
  ◌+◌,
  ◌/◌,
  ◌%◌,
  ◌^◌,
  ◌<◌,
  ◌≤◌,
  false,
  List,
  [],
  ◌∷◌,
  ◌++◌,
  Option,
  Some,
  None,
  refl,
  sym,
  ap,
  ◌∙◌,
  subst,
  arith,
  append_assoc,
  append-nil,
  length-append,
}
use Rattle.std.proofs.lemmas.Bool.{ne_eqb, eq-eqb}
use Rattle.cyc_words.specs.Words.{word, sum_of}
use Rattle.rv32_isa.specs.declared.instruction.Instr.TheVariants.{Jal}
use Rattle.core_meaning.specs.Memory.{Content, Memory}
use Rattle.core_meaning.specs.Meaning.{values_of}
use Rattle.core_lines.specs.Machines.{Machine}
use Rattle.rv32_machine.specs.State.{code_base}
use Rattle.core_lines.specs.declared.line.Line.{Line}
use Rattle.core_lines.specs.declared.line.Line.TheVariants.{CallTo}
use Rattle.core_lines.specs.Lines.{code_length, offset_to}
use Rattle.core_lines.specs.Frames.{save_code, slot_of}
use Rattle.core_lines.specs.Held.{Source, Register, Number, Compared, ComparedWith, Holding, source_of}
use Rattle.core_lines.specs.Loaded.{unknown_in}
use Rattle.core_lines.specs.Operands.{register_for, bring_code, operand_in, operand_code, pass_code}
use Rattle.core_lines.specs.Lies.{Maps, Shows, Activation}
use Rattle.core_meaning.specs.Selectable.{AreBelow}
use Rattle.core_lines.proofs.memory.Relations.{Moves, World, IsInOrder, Has, Waiting, AreKept, back_of, FrameShows, StackShows, Stands, Calling, Passed}
use Rattle.core_lines.proofs.memory.Moving.{Reach, Comes, comes_then, comes_as, and_then, stays}
use Rattle.core_lines.proofs.memory.Words.{offset_joined}
use Rattle.core_lines.proofs.Steps.{state_at, goes_to, is_in_code}
use Rattle.core_lines.proofs.memory.Slots.{Puts, puts_number}
use Rattle.core_lines.proofs.memory.Verdicts.{is_so, verdict, truth_few, puts_verdict}
use Rattle.core_lines.proofs.memory.Fitting.{with_slot}
use Rattle.core_lines.proofs.homes.Homes.{kept_stays, set_stays}
use Rattle.core_lines.proofs.memory.Access.{Saved, behind, length_of_both, written_out, loads, saves, stands_behind}
use Rattle.core_lines.proofs.frames.Passing.{has_first, has_second, frame_on, temp_lies}
use Rattle.core_lines.proofs.operations.NumberVerdicts.{puts_numbered}
use Rattle.core_lines.proofs.operations.Holding.{InRegister, numbered_verdict, numbered_few, AreThere, IsServed, spare_apart, source_not_zero, there_found}
use Rattle.core_lines.proofs.operations.Holding.{there_kept}
use Rattle.core_lines.proofs.operations.Holding.{served_first, served_others}

-- the slots of the innermost frame have the first of them
pub passed_on : (j k : ℕ) (done : List Content) (v : Content) (a : Activation) (fs : List Activation) → j + length done ≤ k → Passed j done (a ∷ fs)
    → Passed j done (with_slot (1 + k) v a ∷ fs)
passed_on j k [] v a fs le p = tt
passed_on j k (u ∷ us) v a fs le p =
    let other : nat_eq (1 + j) (1 + k) ≡ false = ne_eqb (1 + j) (1 + k) (λ e. omega (arith, e, le)) in
    (ap (λ c. if c then v else a.slots (1 + j)) other ∙ p.0, p.1, passed_on (j + 1) k us v a fs (omega (arith, le)) p.2)

pub passed_more : (j : ℕ) (done : List Content) (v : Content) (a : Activation) (fs : List Activation) → a.slots (1 + (j + length done)) ≡ v → 1 +
    (j + length done) < a.size
    → Passed j done (a ∷ fs) → Passed j (done ++ v ∷ []) (a ∷ fs)
passed_more j [] v a fs is within p =
    let e : j + 0 ≡ j = omega arith in (subst (λ q. a.slots (1 + q) ≡ v) e is, omega (arith, within), tt)
passed_more j (u ∷ us) v a fs is within p =
    let e : j + length (u ∷ us) ≡ j + 1 + length us = omega arith in
    (p.0, p.1, passed_more (j + 1) us v a fs (subst (λ q. a.slots (1 + q) ≡ v) e is) (omega (arith, within)) p.2)

-- in an activation, with some arguments in their slots
pub record PassedAt (w : World) (x : Waiting) (outer : List Waiting) (mem : Memory) (hs : List Holding) (done : List Content) (place : ℕ)
    (s : Machine) : Type 0 where
  pub maps : Maps
  pub frame : Activation
  pub others : List Activation
  pub sp : ℕ
  pub stands : Stands w mem place maps (frame ∷ others) sp sp s
  pub shows : FrameShows w maps x (back_of w outer) frame
  pub stack : StackShows w maps outer others
  pub passed : Passed 0 done (frame ∷ others)
  pub known : AreThere hs x.config.temps maps s.registers

module _ (w : World) (order : IsInOrder w) (x : Waiting) (outer : List Waiting) (mem : Memory) (hs : List Holding) where
  -- a temporary's word is in a register
  record Brought (t : ℕ) (source : Option Source) (place : ℕ) (m : Maps) (fs : List Activation) (sp : ℕ) (s : Machine) : Type 0 where
    pub new : ℕ → ℕ
    pub moves : Moves w.areas (code_length (bring_code x.fn.passed 5 t source) / 4) s
        (state_at (place + code_length (bring_code x.fn.passed 5 t source)) new s.bytes s.store)
    pub stands_on : Stands w mem (place + code_length (bring_code x.fn.passed 5 t source)) m fs sp sp
        (state_at (place + code_length (bring_code x.fn.passed 5 t source)) new s.bytes s.store)
    pub register : ℕ
    pub is : register_for 5 source ≡ suc register
    pub holds : InRegister (suc register) (x.config.temps t) m new
    pub not7 : nat_eq (suc register) 7 ≡ false
    pub known : AreThere hs x.config.temps m new

  brought : (t place : ℕ) (m : Maps) (a : Activation) (fs : List Activation) (sp : ℕ) (s : Machine) → t < x.fn.temporaries → IsServed w x hs t
      → FrameShows w m x (back_of w outer) a → Stands w mem place m (a ∷ fs) sp sp s → AreThere hs x.config.temps m s.registers
      → Has w place (operand_code x.fn.passed hs 5 t) → Brought t (source_of hs t) place m (a ∷ fs) sp s
  brought t place m a fs sp s less served shows stands known has = by (source_of hs t) refl has
    where
      lines : Option Source → List Line
      lines source = bring_code x.fn.passed 5 t source

      -- code puts it into x5
      by_word : (source : Option Source) (n : ℕ) → register_for 5 source ≡ 5
          → Puts w place (place + code_length (lines source)) (code_length (lines source) / 4) 5 n s.registers s.bytes s.store
          → Shows m (x.config.temps t) n × (n < 2 ^ 32) → Brought t source place m (a ∷ fs) sp s
      by_word source n is p shown =
          let end = place + code_length (lines source) in
          record {
            new = p.new;
            moves = subst (λ (q : Machine). Moves w.areas (code_length (lines source) / 4) q (state_at end p.new s.bytes s.store))
                (sym (written_out w order mem place m (a ∷ fs) sp s stands)) p.moves;
            stands_on = stands_behind w order mem place m (a ∷ fs) sp s stands end p.new (behind place (lines source) stands.aligned)
                (kept_stays 5 p.new s.registers refl p.kept);
            register = 4;
            is = is;
            holds = subst (λ k. Shows m (x.config.temps t) k × (k < 2 ^ 32)) (sym p.holds) shown;
            not7 = refl;
            known = there_kept 4 hs x.config.temps refl m p.new s.registers p.kept known;
          }

      by : (source : Option Source) → source_of hs t ≡ source → Has w place (bring_code x.fn.passed 5 t source)
          → Brought t source place m (a ∷ fs) sp s
      by None e has =
          let slot = slot_of x.fn.passed t in
          let l = loads w order mem place m (a ∷ fs) sp s stands 0 slot slot 4 (x.config.temps t)
          (temp_lies w order x outer mem m (back_of w outer) a fs sp t less (served e) shows stands.stacked) refl has in
          record {
            new = l.new;
            moves = l.moves;
            stands_on = l.stands_on;
            register = 4;
            is = refl;
            holds = (l.holds, l.below);
            not7 = refl;
            known = there_kept 4 hs x.config.temps refl m l.new s.registers l.kept known;
          }
      by (Some (Register zero)) e has = absurd (source_not_zero hs t e)
      by (Some (Register (suc r))) e has =
          let there = there_found hs t (Register (suc r)) x.config.temps m s.registers known e in
          let here : place ≡ place + 0 = omega arith in
          record {
            new = s.registers;
            moves = subst (λ p. Moves w.areas 0 s (state_at p s.registers s.bytes s.store)) here
                (subst (λ (q : Machine). Moves w.areas 0 s q) (written_out w order mem place m (a ∷ fs) sp s stands) (stays w.areas s));
            stands_on = stands_behind w order mem place m (a ∷ fs) sp s stands (place + 0) s.registers (behind place [] stands.aligned) (λ q h. refl);
            register = r;
            is = refl;
            holds = there.0;
            not7 = spare_apart (suc r) 7 there.1 refl;
            known = known;
          }
      by (Some (Number n)) e has =
          let there = there_found hs t (Number n) x.config.temps m s.registers known e in
          by_word (Some (Number n)) n refl (puts_number w order place s.registers s.bytes s.store stands.kept 4 n there.1 has) there
      by (Some (Compared c)) e has =
          let there = there_found hs t (Compared c) x.config.temps m s.registers known e in
          by_word (Some (Compared c)) (verdict c s.registers) refl
          (puts_verdict w order place s.registers s.bytes s.store stands.kept c 4 there.1.1 there.2.1 has) (there.0, truth_few (is_so c s.registers))
      by (Some (ComparedWith n)) e has =
          let there = there_found hs t (ComparedWith n) x.config.temps m s.registers known e in
          by_word (Some (ComparedWith n)) (numbered_verdict n s.registers) refl
          (puts_numbered w order place s.registers s.bytes s.store stands.kept n 4 there.1 there.2 has) (there.0, numbered_few n s.registers)

  abbrev passing : ℕ → ℕ → List Line
  passing t k = operand_code x.fn.passed hs 5 t ++ save_code (operand_in hs 5 t) (1 + k)

  abbrev With_passed : List Content → ℕ → Machine → Type 0
  With_passed done place = PassedAt w x outer mem hs done place

  pass_one : (done : List Content) (t place : ℕ) → t < x.fn.temporaries → IsServed w x hs t → length done < x.fn.passed
      → Has w place (passing t (length done))
      → Comes w (With_passed done place) (With_passed (done ++ x.config.temps t ∷ []) (place + code_length (passing t (length done))))
  pass_one done t place less served room has =
      let first = operand_code x.fn.passed hs 5 t in
      let second = save_code (operand_in hs 5 t) (1 + length done) in
      let v = x.config.temps t in
      let middle = place + code_length first in
      let end = place + code_length (first ++ second) in
      let at_end : middle + code_length second ≡ end = omega (arith, length_of_both first second) in
      record {
        count = code_length first / 4 + code_length second / 4;
        by = λ s r.
            let size = r.shows.size in
            let b = brought t place r.maps r.frame r.others r.sp s less served r.shows r.stands r.known (has_first w place first second has) in
            let s1 = state_at middle b.new s.bytes s.store in
            let has_save = subst (λ q. Has w middle (save_code q (1 + length done))) b.is (has_second w place first second has) in
            let k = subst (λ q. Saved w order mem middle r.maps r.frame r.others r.sp s1 b.stands_on (code_length (save_code q (1 + length done)) / 4)
            (middle + code_length (save_code q (1 + length done))) (1 + length done) q v) (sym b.is)
            (saves w order mem middle r.maps r.frame r.others r.sp s1 b.stands_on (1 + length done) b.register v (omega (arith, size, room)) b.not7
            b.holds.0 b.holds.1 has_save) in
            let s2 = state_at (middle + code_length second) k.new k.bytes s.store in
            subst (λ p. Reach w.areas (code_length first / 4 + code_length second / 4) (With_passed (done ++ v ∷ []) p) s) at_end
            (record {
              next = s2;
              moves = and_then w.areas s s1 s2 (code_length first / 4) (code_length second / 4) b.moves k.moves;
              there = record {
                maps = r.maps;
                frame = with_slot (1 + length done) v r.frame;
                others = r.others;
                sp = r.sp;
                stands = k.stands_on;
                shows = frame_on w r.maps x (back_of w outer) r.frame (length done) v room r.shows;
                stack = r.stack;
                passed = passed_more 0 done v (with_slot (1 + length done) v r.frame) r.others
                    (ap (λ c. if c then v else r.frame.slots (1 + (0 + length done))) (eq-eqb (1 + (0 + length done)) (1 + length done) (omega arith)))
                    (omega (arith, size, room))
                    (passed_on 0 (length done) done v r.frame r.others (omega arith) r.passed);
                known = there_kept 6 hs x.config.temps refl r.maps k.new b.new k.kept b.known;
              };
            });
      }

  pub passes : (done : List Content) (ts : List ℕ) (place : ℕ) → AreBelow x.fn.temporaries ts → AreKept w x (unknown_in hs ts)
      → length done + length ts ≤ x.fn.passed → Has w place (pass_code x.fn.passed hs (length done) ts)
      → Comes w (With_passed done place)
      (With_passed (done ++ values_of x.config.temps ts) (place + code_length (pass_code x.fn.passed hs (length done) ts)))
  passes done [] place within served room has =
      let e : place ≡ place + 0 = omega arith in
      comes_as w _ _ (λ s r. subst (λ vs. With_passed vs (place + 0) s) (sym (append-nil done)) (subst (λ p. With_passed done p s) e r))
  passes done (t ∷ ts) place within served room has =
      let first = passing t (length done) in
      let v = x.config.temps t in
      let others = pass_code x.fn.passed hs (length done + 1) ts in
      let more = done ++ v ∷ [] in
      let longer : length more ≡ length done + 1 = length-append done (v ∷ []) in
      let middle = place + code_length first in
      let rest = subst (λ k. Has w middle (pass_code x.fn.passed hs k ts)) (sym longer) (has_second w place first others has) in
      let there : middle + code_length (pass_code x.fn.passed hs (length more) ts) ≡ place + code_length (first ++ others) =
      ap (λ k. middle + code_length (pass_code x.fn.passed hs k ts)) longer
      ∙ omega (arith, length_of_both first others) in
      let same : more ++ values_of x.config.temps ts ≡ done ++ v ∷ values_of x.config.temps ts = append_assoc done (v ∷ []) (values_of x.config.temps ts) in
      comes_then w _ _ _
      (pass_one done t place within.0 (served_first w x hs t ts served) (omega (arith, room)) (has_first w place first others has))
      (subst (λ p. Comes w (With_passed more middle) (With_passed (done ++ v ∷ values_of x.config.temps ts) p)) there
      (subst (λ vs. Comes w (With_passed more middle) (With_passed vs (middle + code_length (pass_code x.fn.passed hs (length more) ts)))) same
      (passes more ts middle within.1 (served_others w x hs t ts served) (omega (arith, room, longer)) rest)))

  -- the jump to the function, which leaves the address behind it in x1
  pub calls_to : (done : List Content) (f place : ℕ) → place % 4 ≡ 0 → Has w place (CallTo f ∷ []) → (s : Machine) → With_passed done place s
      → Reach w.areas 1 (Calling w f (record x { behind = place + 4 } ∷ outer) mem done) s
  calls_to done f place aligned has s r =
      let to = w.places f in
      let is_place = order.labels f in
      let within = is_place.within in
      let near = is_in_code w.areas w.code order.code_within s.store place (Jal 1 (offset_to to place)) has.0.0 in
      let s' = state_at to (set_register_one s) s.bytes s.store in
      record {
        next = s';
        moves = subst (λ (t : Machine). Moves w.areas 1 t s') (sym (written_out w order mem place r.maps (r.frame ∷ r.others) r.sp s r.stands))
            (goes_to w.areas w.code order.code_within s.store place s.registers s.bytes r.stands.kept (Jal 1 (offset_to to place)) has.0.0 1
            (sum_of (code_base + place) (word (offset_to to place))) to (offset_joined code_base to place (omega (arith, near)) (omega (arith, within)))
            is_place.aligned (λ answer. refl) tt);
        there = record {
          maps = r.maps;
          frames = r.frame ∷ r.others;
          sp = r.sp;
          stands = stands_behind w order mem place r.maps (r.frame ∷ r.others) r.sp s r.stands to (set_register_one s) is_place.aligned
              (set_stays 0 (code_base + (place + 4)) s.registers refl);
          stack = (
            record {
              function = r.shows.function;
              bytes = r.shows.bytes;
              size = r.shows.size;
              is = r.shows.is;
              back_place = r.shows.back_place;
              returns_to = r.shows.returns_to;
              temps = r.shows.temps;
              blocks = r.shows.blocks;
              own = r.shows.own;
              own_high = r.shows.own_high;
              own_based = r.shows.own_based;
              saved = r.shows.saved;
              changed = r.shows.changed;
              homes = r.shows.homes;
            },
            r.stack,
          );
          back = refl;
          back_place = record { aligned = omega (arith, aligned); within = near };
          passed = r.passed;
        };
      }
    where
      set_register_one : Machine → ℕ → ℕ
      set_register_one s = Rattle.rv32_machine.specs.State.set_register 1 (code_base + (place + 4)) s.registers
