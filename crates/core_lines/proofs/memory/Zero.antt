-- NULL into a temporary: its slot gets x0, where the temporary is saved.
use Rattle.std.proofs.Common.{◌≡◌, ℕ, ℤ, suc, ◌+◌, ◌*◌, ◌^◌, ◌<◌, inl, inr, Bool, true, false, List, [], ◌∷◌, refl, sym, ap, subst, ◌∙◌, arith}
use Rattle.cyc_words.specs.Words.{word, sum_of}
use Rattle.rv32_isa.specs.declared.instruction.Instr.TheVariants.{Lui, Add, Sw}
use Rattle.rv32_machine.specs.State.{set_word, set_register}
use Rattle.core_meaning.specs.Memory.{Null, Memory}
use Rattle.core_lines.specs.declared.line.Line.TheVariants.{Plain}
use Rattle.core_lines.specs.Machines.{Machine}
use Rattle.core_lines.specs.Lines.{code_length}
use Rattle.core_lines.specs.Held.{Number, Holding, with_source}
use Rattle.core_lines.specs.Operands.{keep_code}
use Rattle.core_lines.specs.Frames.{is_short, upper_of, lower_of, slot_of}
use Rattle.core_lines.specs.Lies.{Maps, Slot, SlotsLie}
use Rattle.core_lines.proofs.memory.Relations.{Moves, World, IsInOrder, Has, Waiting, Follows, keeping, back_of}
use Rattle.core_lines.proofs.memory.Moving.{Comes, comes_then, comes_as}
use Rattle.core_lines.proofs.memory.Words.{parts_added, short_word}
use Rattle.core_lines.proofs.Steps.{state_at, IsAllowed, stores_word}
use Rattle.core_lines.proofs.memory.Fitting.{Writes, writes_word, store_fits, slot_change, with_slot, allowed, inside, slot_ground}
use Rattle.core_lines.proofs.memory.Access.{written_out}
use Rattle.core_lines.proofs.memory.Slots.{save_lines}
use Rattle.core_lines.proofs.frames.Passing.{frame_set}
use Rattle.core_lines.proofs.operations.Registers.{having, AtWith, AtHolding, with_there, AreThere, there_kept, there_source, set_kept, puts, unkept_there}

module _ (w : World) (order : IsInOrder w) (x : Waiting) (outer : List Waiting) (mem : Memory) (after : List Bool) (t : ℕ) (named : t < x.fn.temporaries) where
  abbrev with_none : Waiting
  with_none = keeping after (having t Null x)

  abbrev at_slot : ℕ
  at_slot = 4 * slot_of x.fn.passed t

  zero_one : Follows true (t ∷ []) x.kept after → (f : ℕ) (offset : ℤ) (place : ℕ) (P Q : Maps → (ℕ → ℕ) → Type 0)
      → ((m : Maps) (registers : ℕ → ℕ) → P m registers → Q m registers)
      → ((m : Maps) (registers : ℕ → ℕ) → P m registers → registers 2 + at_slot < 2 ^ 25 → sum_of (registers (suc f)) (word offset) ≡ registers 2 + at_slot)
      → Has w place (Plain (Sw (suc f) 0 offset) ∷ []) → Comes w (AtWith w x outer mem place P) (AtWith w with_none outer mem (place + 4) Q)
  zero_one follows f offset place P Q gets reach has = record {
    count = 1;
    by = λ s r.
        let a = r.frame in
        let fs = r.others in
        let sp = r.sp in
        let stands = r.stands in
        let k = slot_of x.fn.passed t in
        let at = sp + 4 * k in
        let laid = stands.stacked.0 in
        let size = r.shows.size in
        let within : k < a.size = omega (arith, size, named) in
        let here : a.at + 4 * k ≡ at = ap (λ q. q + 4 * k) laid.there in
        let lies : SlotsLie (a ∷ fs) 0 k at 4 (a.slots k) = record { within = within; there = sym here; wide = refl; value = refl } in
        let g = slot_ground w.areas order.statics_within order.pages_within order.stack_within order.code_within w.code s.store sp
        (a ∷ fs) stands.stacked 0 k at 4
        (a.slots k) lies in
        let low = (inside w.areas sp (a ∷ fs) g.frame stands.stacked g.inside.among).high in
        let high = g.inside.high in
        let stack = order.stack_within in
        let even = (stands.fits.aligned (Slot 0 k) at 4 (a.slots k) lies).1 in
        let may = allowed w.areas order.statics_within order.pages_within order.stack_within order.code_within w.code s.store sp (a ∷ fs) stands.stacked
        (Slot 0 k) at 4 g
        (inr refl) even in
        let above = may.above in
        let pointer = stands.pointer in
        let there : sum_of (s.registers (suc f)) (word offset) ≡ at =
        reach r.maps s.registers r.holds (omega (arith, low, high, pointer, stack)) ∙ ap (λ q. q + 4 * k) pointer in
        let may_here : IsAllowed w.areas w.code order.code_within s.store (s.registers 2) at 4 =
        subst (λ p. IsAllowed w.areas w.code order.code_within s.store p at 4) (sym pointer) may in
        let writes = writes_word s.bytes at 0 (omega arith) in
        let aligned = stands.aligned in
        record {
          next = state_at (place + 4) s.registers (set_word at 0 s.bytes) s.store;
          moves = subst (λ (q : Machine). Moves w.areas 1 q (state_at (place + 4) s.registers (set_word at 0 s.bytes) s.store))
              (sym (written_out w order mem place r.maps (a ∷ fs) sp s stands))
              (stores_word w.areas w.code order.code_within s.store place s.registers s.bytes stands.kept at may_here (suc f) 0 offset has.0.0 there);
          there = record {
            maps = r.maps;
            frame = with_slot k Null a;
            others = fs;
            sp = sp;
            stands = record {
              runs = refl;
              there = refl;
              aligned = omega (arith, aligned);
              pointer = pointer;
              stack_start = stands.stack_start;
              small = writes.small stands.small;
              kept = λ q under. writes.outside q (inl (omega (arith, under, above))) ∙ stands.kept q under;
              stacked = (
                record { there = laid.there; even = laid.even; low = laid.low; room = laid.room; own_room = laid.own_room; zoned = laid.zoned },
                stands.stacked.1,
              );
              fits = store_fits w.areas r.maps (a ∷ fs) (with_slot k Null a ∷ fs) mem mem s.bytes (set_word at 0 s.bytes) s.store (Slot 0 k)
                  (a.at + 4 * k) 4 Null (a.slots k) 0
                  stands.fits (record { within = within; there = refl; wide = refl; value = refl }) (slot_change w.areas r.maps a fs mem k Null)
                  (subst (λ q. Writes s.bytes (set_word at 0 s.bytes) q 4 0) (sym here) writes) refl;
              homes = stands.homes;
              known = stands.known;
              holds_blocks = stands.holds_blocks;
              data_based = stands.data_based;
            };
            shows = frame_set w r.maps x (back_of w outer) a t Null after named follows r.shows;
            stack = r.stack;
            holds = gets r.maps s.registers r.holds;
          };
        };
  }

  module _ (place : ℕ) (hs : List Holding) where
    abbrev Known : Maps → (ℕ → ℕ) → Type 0
    Known m registers = AreThere hs x.config.temps m registers

    abbrev Known_after : Maps → (ℕ → ℕ) → Type 0
    Known_after m registers = AreThere (with_source t (Number 0) hs) with_none.config.temps m registers

    abbrev Lifted : Maps → (ℕ → ℕ) → Type 0
    Lifted m registers = (registers 7 ≡ upper_of at_slot * 2 ^ 12) × Known m registers

    abbrev Based : Maps → (ℕ → ℕ) → Type 0
    Based m registers = (registers 7 ≡ sum_of (upper_of at_slot * 2 ^ 12) (registers 2)) × Known m registers

    still : (v : ℕ) (m : Maps) (registers : ℕ → ℕ) → Known m registers → Known m (set_register 7 v registers)
    still v m registers h = there_kept 6 hs x.config.temps refl m (set_register 7 v registers) registers (set_kept 6 v registers) h

    behind : (m : Maps) (registers : ℕ → ℕ) → Known m registers → Known_after m registers
    behind m registers h = there_source t Null (Number 0) hs x.config.temps m registers (refl, omega arith) h

    saved : Follows true (t ∷ []) x.kept after → (short : Bool) → is_short at_slot ≡ short → Has w place (save_lines short 0 at_slot)
        → Comes w (AtWith w x outer mem place Known) (AtWith w with_none outer mem (place + code_length (save_lines short 0 at_slot)) Known_after)
    saved follows true short has =
        zero_one follows 1 (lower_of at_slot) place Known Known_after behind
        (λ m registers h near. let part = short_word at_slot short (omega (arith, near)) in omega (arith, part, near)) has
    saved follows false long has =
        let end : place + 4 + 4 + 4 ≡ place + 12 = omega arith in
        subst (λ p. Comes w (AtWith w x outer mem place Known) (AtWith w with_none outer mem p Known_after)) end
        (comes_then w _ (AtWith w x outer mem (place + 4) Lifted) _
        (puts w order x outer mem 6 place Known Lifted (Lui 7 (upper_of at_slot)) (λ registers. upper_of at_slot * 2 ^ 12) refl
        has.0.0 (λ r b st n. refl) (λ _. tt) (λ m registers h. (refl, still (upper_of at_slot * 2 ^ 12) m registers h)))
        (comes_then w _ (AtWith w x outer mem (place + 4 + 4) Based) _
        (puts w order x outer mem 6 (place + 4) Lifted Based (Add 7 7 2) (λ registers. sum_of (registers 7) (registers 2)) refl
        has.2.0.0 (λ r b st n. refl) (λ _. tt)
        (λ m registers h. (ap (λ k. sum_of k (registers 2)) h.0, still (sum_of (registers 7) (registers 2)) m registers h.1)))
        (zero_one follows 6 (lower_of at_slot) (place + 4 + 4) Based Known_after (λ m registers h. behind m registers h.1)
        (λ m registers h near.
        let sum = parts_added at_slot (registers 2) in
        ap (λ k. sum_of k (word (lower_of at_slot))) h.0 ∙ omega (arith, sum, near)) has.2.2)))

    saved_or_not : (keeps : Bool) → Follows keeps (t ∷ []) x.kept after → Has w place (keep_code keeps x.fn.passed 0 t)
        → Comes w (AtWith w x outer mem place Known) (AtWith w with_none outer mem (place + code_length (keep_code keeps x.fn.passed 0 t)) Known_after)
    saved_or_not true follows has = saved follows (is_short at_slot) refl has
    saved_or_not false follows has = unkept_there w order x outer mem after t place Null Known Known_after follows behind

    pub null_pointer : (keeps : Bool) → Follows keeps (t ∷ []) x.kept after → Has w place (keep_code keeps x.fn.passed 0 t)
        → Comes w (AtHolding w x outer mem place hs)
        (AtHolding w with_none outer mem (place + code_length (keep_code keeps x.fn.passed 0 t)) (with_source t (Number 0) hs))
    null_pointer keeps follows has =
        comes_then w _ (AtWith w x outer mem place Known) _ (comes_as w _ _ (with_there w x outer mem place hs)) (saved_or_not keeps follows has)
