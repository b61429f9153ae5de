-- A function returns: its values in registers, the frame given back, the caller's line next.
use Rattle.std.specs.Prelude.{length, nat_eq, ◌||◌}
use Rattle.std.proofs.Common.{zero, Bool, true, false, Option, None}
use Rattle.std.proofs.lemmas.Option.{none-some}
use Rattle.std.proofs.Common.{
  ◌≡◌,
  ℕ,
  suc,
  pos,
  ◌+◌,
  ◌-◌,
  ◌*◌,
  ◌/◌,
  ◌%◌,
  ◌^◌,
  ◌<◌,
  ◌≤◌,
  inl,
  List,
  [],
  ◌∷◌,
  ◌++◌,
  refl,
  sym,
  ap,
  ◌∙◌,
  subst,
  arith,
}
use Rattle.std.proofs.lemmas.Bool.{ne_eqb, eqb-true}
use Rattle.cyc_words.specs.Words.{sum_of}
use Rattle.rv32_isa.specs.declared.instruction.Instr.TheVariants.{Jalr}
use Rattle.core_meaning.specs.Memory.{Content, Word, Memory}
use Rattle.core_meaning.specs.Meaning.{values_of}
use Rattle.core_lines.specs.Machines.{Machine}
use Rattle.rv32_machine.specs.State.{code_base}
use Rattle.core_lines.specs.declared.line.Line.TheVariants.{Plain, Label, Jump}
use Rattle.core_lines.specs.declared.line.Line.{Line}
use Rattle.core_lines.specs.Lines.{code_length}
use Rattle.core_lines.specs.Frames.{give_code, load_code, restores_code, leave_code}
use Rattle.core_lines.specs.Held.{Holding}
use Rattle.core_lines.specs.Loaded.{loads_of_values}
use Rattle.core_lines.specs.Operands.{values_code, return_code}
use Rattle.core_lines.specs.Lies.{Maps, Activation}
use Rattle.core_lines.proofs.memory.Relations.{
  Moves,
  World,
  IsInOrder,
  Has,
  Waiting,
  AreKept,
  back_of,
  FrameShows,
  StackShows,
  Stands,
  InRegisters,
  Returning,
  Phase,
  Inside,
  EndsThere,
  Restoring,
  HaveSaved,
  kept_in,
  changed_in,
  slots_in,
}
use Rattle.core_lines.specs.Homes.{is_home, is_among, saved_by, saved_slot}
use Rattle.core_meaning.specs.Selectable.{AreBelow}
use Rattle.core_lines.proofs.homes.Homes.{other_home, no_home, value_no_home, homes_on}
use Rattle.core_lines.proofs.homes.Saving.{AreHomeRegisters, saved_homes}
use Rattle.core_lines.proofs.homes.Homed.{homed_fits, laid_homed}
use Rattle.core_lines.proofs.memory.Moving.{Comes, comes_then, comes_as, and_then}
use Rattle.core_lines.proofs.Steps.{state_at, goes_to}
use Rattle.core_lines.proofs.frames.Pointer.{moves_up}
use Rattle.core_lines.proofs.memory.Fitting.{inside}
use Rattle.core_lines.proofs.memory.Access.{length_of_both, behind, reads, loads}
use Rattle.core_lines.proofs.frames.Passing.{has_first, has_second}
use Rattle.core_lines.proofs.frames.Results.{registers_kept, InValues, ValuesAt, values_come}
use Rattle.core_lines.proofs.operations.Registers.{AtHolding}
use Rattle.core_lines.proofs.frames.Jumping.{jumps_with}

module _ (w : World) (order : IsInOrder w) (x : Waiting) (outer : List Waiting) (mem : Memory) where
  abbrev passed : ℕ
  passed = x.fn.passed

  abbrev size : ℕ
  size = w.frame_bytes x.function

  -- ---- the caller's registers come back

  -- these are left, and what they were is in the slots from one on
  pub record Giving (rest : List ℕ) (k : ℕ) (done : List Content) (place : ℕ) (s : Machine) : Type 0 where
    pub maps : Maps
    pub frame : Activation
    pub others : List Activation
    pub sp : ℕ
    pub stands : Stands w mem place maps (frame ∷ others) sp sp s
    pub shows : FrameShows w maps (record x { phase = Restoring rest }) (back_of w outer) frame
    pub stack : StackShows w maps outer others
    pub left : HaveSaved k rest frame.slots frame.callers
    pub results : InRegisters maps 9 done s.registers

  give_one : (r : ℕ) (rest : List ℕ) (k : ℕ) (done : List Content) (place : ℕ) → is_home r ≡ true → k < slots_in x.fn → length done ≤ 8
      → Has w place (load_code r k) → Comes w (Giving (r ∷ rest) k done place) (Giving rest (suc k) done (place + code_length (load_code r k)))
  give_one zero rest k done place home within few has = absurd (cc home)
  give_one (suc r) rest k done place home within few has = record {
    count = code_length (load_code (suc r) k) / 4;
    by = λ s a.
        let fs = a.frame ∷ a.others in
        let size = a.shows.size in
        let laid = a.stands.stacked.0 in
        let v = Word (a.frame.callers (suc r)) in
        let l = reads w order mem place a.maps fs a.sp s a.stands 0 k k r v
        (record { within = omega (arith, within, size); there = ap (λ q. q + 4 * k) (sym laid.there); wide = refl; value = a.left.0 }) has in
        let next = state_at (place + code_length (load_code (suc r) k)) l.new s.bytes s.store in
        let fewer : ℕ → Bool = λ q. is_among q rest in
        let f = record a.frame { saves = fewer } in
        let h = a.stands.homes.0 in
        let same : (q : ℕ) → is_home q ≡ true → nat_eq q (suc r) ≡ false → l.new q ≡ s.registers q =
        λ q is other. l.kept q (other_home 7 q refl is) other in
        record {
          next = next;
          moves = l.moves;
          there = record {
            maps = a.maps;
            frame = f;
            others = a.others;
            sp = a.sp;
            stands = record {
              runs = refl;
              there = refl;
              aligned = behind place (load_code (suc r) k) a.stands.aligned;
              pointer = l.kept 2 refl (no_home 2 (suc r) refl home) ∙ a.stands.pointer;
              stack_start = l.kept 3 refl (no_home 3 (suc r) refl home) ∙ a.stands.stack_start;
              small = a.stands.small;
              kept = a.stands.kept;
              stacked = (laid_homed a.sp a.frame a.frame.homes fewer a.frame.callers laid, a.stands.stacked.1);
              fits = homed_fits w.areas a.maps a.frame a.others a.frame.homes fewer a.frame.callers mem s.bytes s.store a.stands.fits;
              homes = (
                record {
                  small = λ q is. small_on q is (nat_eq q (suc r)) refl l.new s.registers l.below (same q is) (h.small q is);
                  lie = λ j o q e. absurd (none-some q (sym (a.shows.homes j o) ∙ e));
                  apart = λ j o j' o' q e e'. absurd (none-some q (sym (a.shows.homes j o) ∙ e));
                  saved = λ j o q e. absurd (none-some q (sym (a.shows.homes j o) ∙ e));
                  others = λ q is not. given q (nat_eq q (suc r)) refl l.new s.registers a.frame.callers l.holds (same q is)
                      (λ other. h.others q is (a.shows.changed q ∙ or_false (nat_eq q (suc r)) (is_among q rest) other not));
                },
                (λ j o q e. absurd (none-some q (sym (a.shows.homes j o) ∙ e))),
                a.stands.homes.2,
              );
              known = a.stands.known;
              holds_blocks = a.stands.holds_blocks;
              data_based = a.stands.data_based;
            };
            shows = (let g = a.shows in record {
              function = g.function;
              bytes = g.bytes;
              size = g.size;
              is = g.is;
              back_place = g.back_place;
              returns_to = g.returns_to;
              temps = g.temps;
              blocks = g.blocks;
              own = g.own;
              own_high = g.own_high;
              own_based = g.own_based;
              saved = g.saved;
              changed = λ q. refl;
              homes = g.homes;
            });
            stack = a.stack;
            left = a.left.1;
            results = registers_kept a.maps 9 done l.new s.registers
                (λ q more most. l.kept q (ne_eqb q 7 (λ e. omega (arith, e, more)))
                (no_home q (suc r) (value_no_home q (omega (arith, more)) (omega (arith, most, few))) home))
                a.results;
          };
        };
  }
    where
      or_false : (a b : Bool) → a ≡ false → b ≡ false → (a || b) ≡ false
      or_false true b e e' = e
      or_false false b e e' = e'

      small_on : (q : ℕ) → is_home q ≡ true → (c : Bool) → nat_eq q (suc r) ≡ c → (new old : ℕ → ℕ) → new (suc r) < 2 ^ 32
          → (nat_eq q (suc r) ≡ false → new q ≡ old q) → old q < 2 ^ 32 → new q < 2 ^ 32
      small_on q is true e new old below same before = subst (λ (i : ℕ). new i < 2 ^ 32) (sym (eqb-true q (suc r) e)) below
      small_on q is false e new old below same before = subst (λ v. v < 2 ^ 32) (sym (same e)) before

      given : (q : ℕ) → (c : Bool) → nat_eq q (suc r) ≡ c → (new old callers : ℕ → ℕ) → new (suc r) ≡ callers (suc r)
          → (nat_eq q (suc r) ≡ false → new q ≡ old q) → (nat_eq q (suc r) ≡ false → old q ≡ callers q) → new q ≡ callers q
      given q true e new old callers is same before = subst (λ (i : ℕ). new i ≡ callers i) (sym (eqb-true q (suc r) e)) is
      given q false e new old callers is same before = same e ∙ before e

  gives : (rest : List ℕ) (k : ℕ) (done : List Content) (place : ℕ) → AreHomeRegisters rest → k + length rest ≡ slots_in x.fn → length done ≤ 8
      → Has w place (restores_code k rest)
      → Comes w (Giving rest k done place) (Giving [] (k + length rest) done (place + code_length (restores_code k rest)))
  gives [] k done place are end few has =
      let e : place ≡ place + 0 = omega arith in
      let e' : k ≡ k + 0 = omega arith in
      comes_as w _ _ (λ s a. subst (λ q. Giving [] q done (place + 0) s) e' (subst (λ p. Giving [] k done p s) e a))
  gives (r ∷ rest) k done place are end few has =
      let first = load_code r k in
      let others = restores_code (suc k) rest in
      let middle = place + code_length first in
      let there : middle + code_length others ≡ place + code_length (first ++ others) = omega (arith, length_of_both first others) in
      let last : suc k + length rest ≡ k + length (r ∷ rest) = omega arith in
      comes_then w _ _ _ (give_one r rest k done place are.0 (omega (arith, end)) few (has_first w place first others has))
      (subst (λ q. Comes w (Giving rest (suc k) done middle) (Giving [] q done (place + code_length (first ++ others)))) last
      (subst (λ p. Comes w (Giving rest (suc k) done middle) (Giving [] (suc k + length rest) done p)) there
      (gives rest (suc k) done middle are.1 (last ∙ end) few (has_second w place first others has))))

  -- the return address is loaded, x2 goes up by the frame, and the machine is behind the call
  leaves : (done : List Content) (place : ℕ) → length done ≤ 8 → (k : ℕ) → Has w place (leave_code size)
      → Comes w (Giving [] k done place) (Returning w x outer mem done)
  leaves done place few k has =
      let first = load_code 1 0 in
      let given = give_code size in
      let jalr : List Line = Plain (Jalr 0 1 (pos 0)) ∷ [] in
      let p1 = place + code_length first in
      let p2 = p1 + code_length given in
      let has_rest : Has w p1 (given ++ jalr) = has_second w place first (given ++ jalr) has in
      let jump = has_second w p1 given jalr has_rest in
      record {
        count = 1 + (code_length given / 4 + 1);
        by = λ s a.
            let back = back_of w outer in
            let ra = code_base + back in
            let laid = a.stands.stacked.0 in
            let own = a.shows.size in
            let bytes = a.shows.bytes in
            let small = order.not_too_large x.function in
            let ends = inside w.areas a.sp (a.frame ∷ a.others) a.frame a.stands.stacked (inl refl) in
            let end = ends.high in
            let near = a.shows.back_place.within in
            let l = loads w order mem place a.maps (a.frame ∷ a.others) a.sp s a.stands 0 0 0 0 (Word ra)
            (record { within = omega (arith, own); there = ap (λ q. q + 4 * 0) (sym laid.there); wide = refl; value = a.shows.returns_to }) refl
            (has_first w place first (given ++ jalr) has) in
            let s1 = state_at p1 l.new s.bytes s.store in
            let at = laid.there in
            let g = moves_up w order p1 l.new s.bytes s.store a.stands.kept size a.sp (omega (arith, small)) (l.kept 2 refl refl ∙ a.stands.pointer)
            (omega (arith, end, at, bytes)) (has_first w p1 given jalr has_rest) in
            let s2 = state_at p2 g.new s.bytes s.store in
            let target = sum_of (g.new 1) (0 % 2 ^ 32) in
            let one : g.new 1 ≡ ra = g.kept 1 refl refl ∙ l.holds in
            let even = a.shows.back_place.aligned in
            let s3 = state_at back g.new s.bytes s.store in
            let m3 : Moves w.areas 1 s2 s3 =
            goes_to w.areas w.code order.code_within s.store p2 g.new s.bytes a.stands.kept (Jalr 0 1 (pos 0)) jump.0.0 0
            (target - target % 2) back (omega (arith, one, near, even)) even (λ answer. refl) tt in
            record {
              next = s3;
              moves = and_then w.areas s s1 s3 1 (code_length given / 4 + 1) l.moves (and_then w.areas s1 s2 s3 (code_length given / 4) 1 g.moves m3);
              there = record {
                maps = a.maps;
                frame = a.frame;
                others = a.others;
                sp = a.sp;
                pointer = a.sp + size;
                above = refl;
                stands = record {
                  runs = refl;
                  there = refl;
                  aligned = even;
                  pointer = g.holds;
                  stack_start = g.kept 3 refl refl ∙ l.kept 3 refl refl ∙ a.stands.stack_start;
                  small = a.stands.small;
                  kept = a.stands.kept;
                  stacked = a.stands.stacked;
                  fits = a.stands.fits;
                  homes = homes_on a.maps mem (a.frame ∷ a.others) g.new s.registers (λ q is.
                      g.kept q (other_home 7 q refl is) (other_home 2 q refl is)
                      ∙ l.kept q (other_home 7 q refl is) (other_home 1 q refl is)) a.stands.homes;
                  known = a.stands.known;
                  holds_blocks = a.stands.holds_blocks;
                  data_based = a.stands.data_based;
                };
                shows = a.shows;
                stack = a.stack;
                results = registers_kept a.maps 9 done g.new s.registers (λ q more within.
                    g.kept q (ne_eqb q 7 (λ e. omega (arith, e, more))) (ne_eqb q 2 (λ e. omega (arith, e, more)))
                    ∙ l.kept q (ne_eqb q 7 (λ e. omega (arith, e, more))) (ne_eqb q 1 (λ e. omega (arith, e, more)))) a.results;
              };
            };
      }

  -- the values are in registers, and those that were saved come back
  gives_first : x.phase ≡ Inside → (done : List Content) (place : ℕ) (s : Machine) → ValuesAt w x outer mem done place s
      → Giving (saved_by x.fn) (saved_slot x.fn) done place s
  gives_first inside done place s a =
      let none : ℕ → ℕ → Option ℕ = λ k o. None in
      let f = record a.frame { homes = none } in
      let kept = subst (λ (q : Phase). HaveSaved (saved_slot x.fn) (kept_in q x.fn) a.frame.slots a.frame.callers) inside a.shows.saved in
      let h = a.stands.homes.0 in
      record {
        maps = a.maps;
        frame = f;
        others = a.others;
        sp = a.sp;
        stands = record {
          runs = a.stands.runs;
          there = a.stands.there;
          aligned = a.stands.aligned;
          pointer = a.stands.pointer;
          stack_start = a.stands.stack_start;
          small = a.stands.small;
          kept = a.stands.kept;
          stacked = (laid_homed a.sp a.frame none a.frame.saves a.frame.callers a.stands.stacked.0, a.stands.stacked.1);
          fits = homed_fits w.areas a.maps a.frame a.others none a.frame.saves a.frame.callers mem s.bytes s.store a.stands.fits;
          homes = (
            record {
              small = h.small;
              lie = λ j o q e. absurd (none-some q e);
              apart = λ j o j' o' q e e'. absurd (none-some q e);
              saved = λ j o q e. absurd (none-some q e);
              others = h.others;
            },
            (λ j o q e. absurd (none-some q e)),
            a.stands.homes.2,
          );
          known = a.stands.known;
          holds_blocks = a.stands.holds_blocks;
          data_based = a.stands.data_based;
        };
        shows = (let g = a.shows in record {
          function = g.function;
          bytes = g.bytes;
          size = g.size;
          is = g.is;
          back_place = g.back_place;
          returns_to = g.returns_to;
          temps = g.temps;
          blocks = g.blocks;
          own = g.own;
          own_high = g.own_high;
          own_based = g.own_based;
          saved = kept;
          changed = λ q. g.changed q ∙ ap (λ (p : Phase). is_among q (changed_in p x.fn)) inside;
          homes = λ j o. refl;
        });
        stack = a.stack;
        left = kept;
        results = a.holds;
      }

  -- where the function ends, with its values in registers
  ends_with : (vs : List Content) (place : ℕ) → EndsThere w x.function x.fn → x.phase ≡ Inside → length vs ≤ 8 → place ≡ w.places (w.exits x.function)
      → Comes w (ValuesAt w x outer mem vs place) (Returning w x outer mem vs)
  ends_with vs place ends inside few there =
      let second = restores_code (saved_slot x.fn) (saved_by x.fn) in
      let exit = w.places (w.exits x.function) in
      let last = exit + code_length second in
      subst (λ p. Comes w (ValuesAt w x outer mem vs p) (Returning w x outer mem vs)) (sym there)
      (comes_then w _ (Giving (saved_by x.fn) (saved_slot x.fn) vs exit) _
      (comes_as w _ _ (λ s a. gives_first inside vs exit s a))
      (comes_then w _ (Giving [] (saved_slot x.fn + length (saved_by x.fn)) vs last) _
      (gives (saved_by x.fn) (saved_slot x.fn) vs exit (saved_homes x.fn) refl few (has_first w exit second (leave_code size) ends))
      (leaves vs last few (saved_slot x.fn + length (saved_by x.fn)) (has_second w exit second (leave_code size) ends))))

  -- a return
  pub returns : (hs : List Holding) (ts : List ℕ) (place : ℕ) → EndsThere w x.function x.fn → x.phase ≡ Inside → AreBelow x.fn.temporaries ts
      → AreKept w x (loads_of_values hs 9 ts) → length ts ≤ 8 → length (values_of x.config.temps ts) ≤ 8
      → Has w place (return_code passed hs ts (w.exits x.function))
      → Comes w (AtHolding w x outer mem place hs) (Returning w x outer mem (values_of x.config.temps ts))
  returns hs ts place ends inside within served few few_values has =
      let vs = values_of x.config.temps ts in
      let first = values_code passed hs 9 ts in
      let jump : List Line = Jump (w.exits x.function) ∷ [] in
      let exit = w.places (w.exits x.function) in
      comes_then w _ _ _
      (values_come w order x outer mem hs ts place within served few (has_first w place first jump has))
      (comes_then w _ (ValuesAt w x outer mem vs exit) _
      (jumps_with w order x outer mem (w.exits x.function) (place + code_length first) (InValues vs) (has_second w place first jump has).0.0)
      (ends_with vs exit ends inside few_values refl))

  -- one behind whose values the function ends
  pub returns_last : (hs : List Holding) (ts : List ℕ) (place : ℕ) → EndsThere w x.function x.fn → x.phase ≡ Inside → AreBelow x.fn.temporaries ts
      → AreKept w x (loads_of_values hs 9 ts) → length ts ≤ 8 → length (values_of x.config.temps ts) ≤ 8
      → Has w place (values_code passed hs 9 ts ++ (Label (w.exits x.function) ∷ []))
      → Comes w (AtHolding w x outer mem place hs) (Returning w x outer mem (values_of x.config.temps ts))
  returns_last hs ts place ends inside within served few few_values has =
      let first = values_code passed hs 9 ts in
      let label : List Line = Label (w.exits x.function) ∷ [] in
      comes_then w _ _ _
      (values_come w order x outer mem hs ts place within served few (has_first w place first label has))
      (ends_with (values_of x.config.temps ts) (place + code_length first) ends inside few_values (sym (has_second w place first label has).1))
