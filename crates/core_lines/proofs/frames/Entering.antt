-- A function is entered: the frame is pushed, with the return address, the caller's registers that it changes and the parameters.
use Rattle.std.specs.Prelude.{length, slice_get, nat_lt, if◌then◌else◌}
use Rattle.std.proofs.Common.{◌≡◌, ℕ, zero, suc, ◌+◌, ◌-◌, ◌*◌, ◌/◌, ◌<◌, ◌≤◌, ◌⊎◌, inl, inr, ⊎_elim, Bool, true, false, List, [], ◌∷◌}
use Rattle.std.proofs.Common.{◌++◌, ◌^◌, Some, None, refl, sym, ap, ◌∙◌, subst, arith, append_assoc, append-nil, length-append}
use Rattle.std.proofs.lemmas.Bool.{ne_eqb, eq-eqb, cases_lt}
use Rattle.std.proofs.lemmas.Option.{none-some}
use Rattle.core_meaning.specs.Memory.{Content, Blank, Word, Memory}
use Rattle.core_meaning.specs.Core.{Function}
use Rattle.core_lines.specs.Machines.{Machine}
use Rattle.rv32_machine.specs.State.{code_base, stack_base}
use Rattle.core_lines.specs.declared.line.Line.{Line}
use Rattle.core_lines.specs.Lines.{code_length}
use Rattle.core_lines.specs.Frames.{save_code, frame_code, saves_code}
use Rattle.core_lines.specs.Held.{Holding, with_taken}
use Rattle.core_lines.specs.Operands.{take_code, prologue_code}
use Rattle.core_lines.specs.Parameters.{parameter_index, parameter_registers}
use Rattle.core_lines.specs.Lies.{Maps, Activation, Laid}
use Rattle.core_lines.specs.Homes.{is_home, is_among, homes_in, saved_by, saved_slot}
use Rattle.core_lines.proofs.memory.Relations.{Saving, World, IsInOrder, Has, Waiting, slots_in, back_of, FrameShows, StackShows, Stands}
use Rattle.core_lines.proofs.memory.Relations.{Calling, Passed, active_of}
use Rattle.core_lines.proofs.memory.Moving.{Reach, Comes, comes_then, comes_as, and_then, Full}
use Rattle.core_lines.proofs.Steps.{state_at}
use Rattle.core_lines.proofs.homes.Homes.{other_home, homes_small, homes_spared, spares_standing}
use Rattle.core_lines.proofs.homes.Saving.{saved_more, AreHomeRegisters, saved_homes}
use Rattle.core_lines.proofs.homes.Homed.{homed_fits, laid_homed}
use Rattle.core_lines.proofs.memory.Fitting.{with_slot, set_slot}
use Rattle.core_lines.proofs.frames.Frames.{push_fits, push_stacked}
use Rattle.core_lines.proofs.memory.Knowing.{known_called}
use Rattle.core_lines.proofs.memory.Access.{length_of_both, behind, saves}
use Rattle.core_lines.proofs.frames.Passing.{has_first, has_second}
use Rattle.core_lines.proofs.frames.Prologue.{stack_bound, stack_low, refused, taken}
use Rattle.core_lines.proofs.operations.Standing.{AtHolding, as_holding}
use Rattle.rv32_machine.specs.Implements.{frames}
pub use Rattle.core_lines.proofs.frames.Begun.{with_call, call_fits}
pub use Rattle.core_lines.proofs.frames.Taking.{staged, callee, Taken, takes}
use Rattle.core_lines.proofs.frames.Parameters.{may_take}

module _ (w : World) (order : IsInOrder w) (f : ℕ) (fn : Function) (is : slice_get w.functions f ≡ Some fn) (outer : List Waiting) (mem : Memory)
    (arguments : List Content) (start : List Bool) where
  abbrev size : ℕ
  size = w.frame_bytes f

  -- some parameters have been taken, where this is known of temporaries
  abbrev Takes : List Content → List Holding → ℕ → Machine → Type 0
  Takes done hs = Taken w order f fn is outer mem arguments start done hs

  -- ---- the caller's registers are saved

  pub record Keeping (done : List ℕ) (place : ℕ) (s : Machine) : Type 0 where
    pub maps : Maps
    pub frame : Activation
    pub others : List Activation
    pub sp : ℕ
    pub stands : Stands w (with_call mem) place maps (frame ∷ others) sp sp s
    pub shows : FrameShows w maps (staged w order f fn is outer mem arguments start (Saving done) []) (back_of w outer) frame
    pub stack : StackShows w maps outer others
    pub passed : Passed 0 arguments others

  keep_one : (done : List ℕ) (r : ℕ) (place : ℕ) → is_home r ≡ true → length done < length (saved_by fn)
      → Has w place (save_code r (saved_slot fn + length done))
      → Comes w (Keeping done place) (Keeping (done ++ r ∷ []) (place + code_length (save_code r (saved_slot fn + length done))))
  keep_one done zero place home less has = absurd (cc home)
  keep_one done (suc r) place home less has = record {
    count = code_length (save_code (suc r) (saved_slot fn + length done)) / 4;
    by = λ s a.
        let k = saved_slot fn + length done in
        let size = a.shows.size in
        let h = a.stands.homes.0 in
        let v = Word (a.frame.callers (suc r)) in
        let same : s.registers (suc r) ≡ a.frame.callers (suc r) = h.others (suc r) home (a.shows.changed (suc r)) in
        let l = saves w order (with_call mem) place a.maps a.frame a.others a.sp s a.stands k r v (omega (arith, size, less))
        (other_home 7 (suc r) refl home) same (h.small (suc r) home) has in
        record {
          next = state_at (place + code_length (save_code (suc r) k)) l.new l.bytes s.store;
          moves = l.moves;
          there = record {
            maps = a.maps;
            frame = with_slot k v a.frame;
            others = a.others;
            sp = a.sp;
            stands = l.stands_on;
            shows = (let g = a.shows in record {
              function = g.function;
              bytes = g.bytes;
              size = g.size;
              is = g.is;
              back_place = g.back_place;
              returns_to = ap (λ c. if c then v else a.frame.slots 0) (ne_eqb 0 k (λ e. omega (arith, e))) ∙ g.returns_to;
              temps = λ t few kept. ap (λ c. if c then v else a.frame.slots (1 + fn.passed + t))
                  (ne_eqb (1 + fn.passed + t) k (λ e. omega (arith, e, few))) ∙ g.temps t few kept;
              blocks = g.blocks;
              own = g.own;
              own_high = g.own_high;
              own_based = g.own_based;
              saved = saved_more (saved_slot fn) done (suc r) (set_slot k v a.frame.slots) a.frame.slots a.frame.callers
                  (λ j other. ap (λ c. if c then v else a.frame.slots j) other)
                  (ap (λ c. if c then v else a.frame.slots k) (eq-eqb k k refl)) g.saved;
              changed = g.changed;
              homes = g.homes;
            });
            stack = a.stack;
            passed = a.passed;
          };
        };
  }

  keeps : (done rest : List ℕ) (place : ℕ) → saved_by fn ≡ done ++ rest → AreHomeRegisters rest → Has w place (saves_code (saved_slot fn + length done) rest)
      → Comes w (Keeping done place) (Keeping (saved_by fn) (place + code_length (saves_code (saved_slot fn + length done) rest)))
  keeps done [] place are homes has =
      let e : place ≡ place + 0 = omega arith in
      comes_as w _ _ (λ s a. subst (λ rs. Keeping rs (place + 0) s) (sym (are ∙ append-nil done)) (subst (λ p. Keeping done p s) e a))
  keeps done (r ∷ rest) place are homes has =
      let k = saved_slot fn + length done in
      let first = save_code r k in
      let others = saves_code (suc k) rest in
      let more = done ++ r ∷ [] in
      let longer : saved_slot fn + length more ≡ suc k = ap (λ n. saved_slot fn + n) (length-append done (r ∷ [])) ∙ omega arith in
      let all : length (saved_by fn) ≡ length done + length (r ∷ rest) = ap (λ (rs : List ℕ). length rs) are ∙ length-append done (r ∷ rest) in
      let middle = place + code_length first in
      let has_others = subst (λ q. Has w middle (saves_code q rest)) (sym longer) (has_second w place first others has) in
      let there : middle + code_length (saves_code (saved_slot fn + length more) rest) ≡ place + code_length (first ++ others) =
      ap (λ q. middle + code_length (saves_code q rest)) longer ∙ omega (arith, length_of_both first others) in
      comes_then w _ _ _ (keep_one done r place homes.0 (omega (arith, all)) (has_first w place first others has))
      (subst (λ p. Comes w (Keeping more middle) (Keeping (saved_by fn) p)) there
      (keeps more rest middle (are ∙ sym (append_assoc done (r ∷ []) rest)) homes.1 has_others))

  -- all that the function changes are saved
  kept_all : (place : ℕ) (s : Machine) → Keeping (saved_by fn) place s → Takes [] [] place s
  kept_all place s a =
      let fewer : ℕ → Bool = λ q. is_among q (saved_by fn) in
      let h = a.stands.homes.0 in
      record {
        maps = a.maps;
        frame = record a.frame { saves = fewer };
        others = a.others;
        sp = a.sp;
        stands = record {
          runs = a.stands.runs;
          there = a.stands.there;
          aligned = a.stands.aligned;
          pointer = a.stands.pointer;
          stack_start = a.stands.stack_start;
          small = a.stands.small;
          kept = a.stands.kept;
          stacked = (laid_homed a.sp a.frame a.frame.homes fewer a.frame.callers a.stands.stacked.0, a.stands.stacked.1);
          fits = homed_fits w.areas a.maps a.frame a.others a.frame.homes fewer a.frame.callers (with_call mem) s.bytes s.store a.stands.fits;
          homes = (
            record {
              small = h.small;
              lie = λ j o q e. absurd (none-some q (sym (a.shows.homes j o) ∙ e));
              apart = λ j o j' o' q e e'. absurd (none-some q (sym (a.shows.homes j o) ∙ e));
              saved = λ j o q e. absurd (none-some q (sym (a.shows.homes j o) ∙ e));
              others = λ q is not. h.others q is (a.shows.changed q);
            },
            (λ j o q e. absurd (none-some q (sym (a.shows.homes j o) ∙ e))),
            a.stands.homes.2,
          );
          known = a.stands.known;
          holds_blocks = a.stands.holds_blocks;
          data_based = a.stands.data_based;
        };
        shows = (let g = a.shows in record {
          function = g.function;
          bytes = g.bytes;
          size = g.size;
          is = g.is;
          back_place = g.back_place;
          returns_to = g.returns_to;
          temps = g.temps;
          blocks = g.blocks;
          own = g.own;
          own_high = g.own_high;
          own_based = g.own_based;
          saved = g.saved;
          changed = λ q. refl;
          homes = (tt, λ j o q e. absurd (none-some q (sym (g.homes j o) ∙ e)));
        });
        stack = a.stack;
        passed = a.passed;
        holds = tt;
      }

  -- all parameters are taken

  abbrev begun : Waiting
  begun = callee w order f fn is outer mem arguments start arguments

  taken_all : (held : List Holding) (place : ℕ) (s : Machine) → Takes arguments held place s → AtHolding w begun outer (with_call mem) place held s
  taken_all held place s a = as_holding w begun outer (with_call mem) place held s
      (record { maps = a.maps; frame = a.frame; others = a.others; sp = a.sp; stands = a.stands; shows = a.shows; stack = a.stack; holds = a.holds })

  -- ---- from the call to the first line behind the prologue

  abbrev lines : List Line
  lines = prologue_code w.refused size fn.passed (saved_slot fn) (saved_by fn) start (parameter_registers fn) (length arguments)

  abbrev entry : ℕ
  entry = w.places f

  abbrev saving_lines : List Line
  saving_lines = saves_code (saved_slot fn) (saved_by fn)

  abbrev pub taking_lines : List Line
  taking_lines = take_code size fn.passed start (parameter_registers fn) 0 (length arguments)

  abbrev behind_move : List Line
  behind_move = save_code 1 0 ++ (saving_lines ++ taking_lines)

  apart : lines ≡ frame_code w.refused size ++ behind_move
  apart =
      append_assoc (frame_code w.refused size ++ save_code 1 0) saving_lines taking_lines
      ∙ append_assoc (frame_code w.refused size) (save_code 1 0) (saving_lines ++ taking_lines)

  -- where x2 has moved
  abbrev below : ℕ
  below = entry + code_length (frame_code w.refused size)

  abbrev moving : ℕ
  moving = if nat_lt size 2048 then 2 else 6

  -- the frame is made: the return address is in it
  made : Has w entry lines → (s : Machine) (r : Calling w f outer mem arguments s) → stack_base + size ≤ r.sp
      → Reach w.areas (moving + code_length (save_code 1 0) / 4) (Keeping [] (below + code_length (save_code 1 0))) s
  made has s r fits =
      let mem' = with_call mem in
      let ends = stack_low w.areas order.stack_pages r.frames r.sp r.stands.stacked in
      let high = ends.1 in
      let even = ends.2 in
      let size_even = order.even f in
      let within = order.stack_within in
      let room = order.frames f fn is (omega (arith, fits, high, within)) in
      let parts = subst (Has w entry) apart has in
      let has_frame = has_first w entry (frame_code w.refused size) behind_move parts in
      let has_save : Has w below (save_code 1 0) =
      has_first w below (save_code 1 0) (saving_lines ++ taking_lines) (has_second w entry (frame_code w.refused size) behind_move parts) in
      let g = taken w order f fn is outer mem s r.maps r.frames r.sp entry r.stands ends.0 high fits has_frame in
      let low = r.sp - size in
      let s1 = state_at below g.new s.bytes s.store in
      let a : Activation = record {
        function = f;
        at = low;
        bytes = size;
        size = slots_in fn;
        slots = λ k. Blank;
        own_high = 4 * slots_in fn;
        zones = [];
        own = mem.calls;
        homes = λ k o. None;
        saves = λ q. false;
        callers = s.registers;
      } in
      let mem_spares = spares_standing r.maps mem mem' refl refl in
      let laid : Laid low a = record {
        there = refl;
        even = omega (arith, even, size_even, fits);
        low = omega (arith, fits);
        room = room;
        own_room = omega arith;
        zoned = room;
      } in
      let end : low + size ≡ r.sp = omega (arith, fits) in
      let stands : Stands w mem' below r.maps (a ∷ r.frames) low low s1 = record {
        runs = refl;
        there = refl;
        aligned = behind entry (frame_code w.refused size) (order.labels f).aligned;
        pointer = g.pointer;
        stack_start = g.stack_start;
        small = r.stands.small;
        kept = r.stands.kept;
        stacked = push_stacked w.areas order.statics_within order.stack_within r.maps r.frames mem s.bytes s.store r.sp
            r.stands.fits r.stands.stacked a laid (λ k. refl) end;
        fits = call_fits w.areas r.maps (a ∷ r.frames) mem s.bytes s.store r.stands.known
            (push_fits w.areas order.statics_within order.stack_within r.maps r.frames mem s.bytes s.store r.sp
            r.stands.fits r.stands.stacked a laid (λ k. refl) end);
        homes = (
          record {
            small = λ q is. subst (λ v. v < 2 ^ 32) (sym (g.same q is)) (homes_small r.maps mem r.frames s.registers r.stands.homes q is);
            lie = λ k o q e. absurd (none-some q e);
            apart = λ k o k' o' q e e'. absurd (none-some q e);
            saved = λ k o q e. absurd (none-some q e);
            others = λ q is not. g.same q is;
          },
          (λ k o q e. absurd (none-some q e)),
          homes_spared r.maps mem r.maps mem' r.frames s.registers mem_spares r.stands.homes,
        );
        known = known_called r.maps mem s.store r.stands.known;
        holds_blocks = r.stands.holds_blocks;
        data_based = r.stands.data_based;
      } in
      let ra = code_base + back_of w outer in
      let one : g.new 1 ≡ ra = g.kept_one ∙ r.back in
      let near = r.back_place.within in
      let q = saves w order mem' below r.maps a r.frames low s1 stands 0 0 (Word ra) (omega arith) refl one (omega (arith, one, near)) has_save in
      record {
        next = state_at (below + code_length (save_code 1 0)) q.new q.bytes s.store;
        moves = and_then w.areas s s1 (state_at (below + code_length (save_code 1 0)) q.new q.bytes s.store) moving (code_length (save_code 1 0) / 4)
            g.moves q.moves;
        there = record {
          maps = r.maps;
          frame = with_slot 0 (Word ra) a;
          others = r.frames;
          sp = low;
          stands = q.stands_on;
          shows = record {
            function = refl;
            bytes = refl;
            size = refl;
            is = is;
            returns_to = refl;
            back_place = r.back_place;
            temps = λ t less kept. ap (λ c. if c then Word ra else Blank) (ne_eqb (1 + fn.passed + t) 0 (λ e. omega (arith, e)));
            blocks = tt;
            own = refl;
            own_high = refl;
            own_based = λ o y e. absurd (none-some y e);
            saved = tt;
            changed = λ q. refl;
            homes = λ k o. refl;
          };
          stack = r.stack;
          passed = r.passed;
        };
      }

  -- The function is entered: the machine comes behind the prologue, with a fresh frame; or the stack has no room for the frame, since all frames together would
  -- take more bytes than it has.
  pub enters : length arguments ≤ fn.temporaries → Has w entry lines
      → (count : ℕ) × ((s : Machine) → Calling w f outer mem arguments s
      → Reach w.areas count
      (AtHolding w begun outer (with_call mem) (entry + code_length lines) (with_taken (parameter_registers fn) 0 (length arguments) [])) s
      ⊎ (Full w count s × (w.areas.stack < frames w.bound (w.names f ∷ active_of w outer))))
  enters few has =
      let both = saving_lines ++ taking_lines in
      let parts = subst (Has w entry) apart has in
      let begin = below + code_length (save_code 1 0) in
      let has_both : Has w begin both =
      has_second w below (save_code 1 0) both (has_second w entry (frame_code w.refused size) behind_move parts) in
      let middle = begin + code_length saving_lines in
      let plain : saved_slot fn + 0 ≡ saved_slot fn = omega arith in
      let has_save = subst (λ k. Has w begin (saves_code k (saved_by fn))) (sym plain) (has_first w begin saving_lines taking_lines has_both) in
      let keep : Comes w (Keeping [] begin) (Keeping (saved_by fn) middle) =
      subst (λ k. Comes w (Keeping [] begin) (Keeping (saved_by fn) (begin + code_length (saves_code k (saved_by fn))))) plain
      (keeps [] (saved_by fn) begin refl (saved_homes fn) has_save) in
      let take = takes w order f fn is outer mem arguments start (parameter_index (homes_in fn) fn.body) (may_take fn) [] arguments [] middle refl few
      (has_second w begin saving_lines taking_lines has_both) in
      let known = with_taken (parameter_registers fn) 0 (length arguments) [] in
      let all : Comes w (Keeping [] begin) (Takes arguments known (middle + code_length taking_lines)) =
      comes_then w _ (Keeping (saved_by fn) middle) _ keep
      (comes_then w _ (Takes [] [] middle) _ (comes_as w _ _ (λ s a. kept_all middle s a)) take) in
      let there : middle + code_length taking_lines ≡ entry + code_length lines =
      omega (
        arith,
        ap code_length apart,
        length_of_both (frame_code w.refused size) behind_move,
        length_of_both (save_code 1 0) both,
        length_of_both saving_lines taking_lines,
      ) in
      let count = moving + code_length (save_code 1 0) / 4 + all.count in (
        count,
        λ s r.
            let ends = stack_low w.areas order.stack_pages r.frames r.sp r.stands.stacked in
            let has_frame = has_first w entry (frame_code w.refused size) behind_move parts in
            ⊎_elim
            (λ (short : r.sp < stack_base + size).
            let x = refused w order f fn is outer mem s r.maps r.frames r.sp entry r.stands ends.0 ends.1 short has_frame in
            let bound = stack_bound w order r.maps outer r.frames r.sp r.stack r.stands.stacked in
            let mine = order.bounded f in
            inr (
              record { count = x.count; within = omega (arith, x.within); last = x.last; moves = x.moves; over = x.over },
              omega (arith, bound, mine, short),
            ))
            (λ (fits : stack_base + size ≤ r.sp).
            let x = made has s r fits in
            let y = all.by x.next x.there in
            inl (record {
              next = y.next;
              moves = and_then w.areas s x.next y.next (moving + code_length (save_code 1 0) / 4) all.count x.moves y.moves;
              there = subst (λ p. AtHolding w begun outer (with_call mem) p known y.next) there
                  (taken_all known (middle + code_length taking_lines) y.next y.there);
            }))
            (cases_lt r.sp (stack_base + size)),
      )
