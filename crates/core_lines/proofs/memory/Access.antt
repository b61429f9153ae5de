-- A machine that stands at a place loads a slot of one of its frames, or saves a register into one of the innermost.
use Rattle.std.proofs.Common.{◌≡◌, ℕ, zero, suc, ◌+◌, ◌*◌, ◌/◌, ◌%◌, ◌^◌, ◌<◌, List, [], ◌∷◌, ◌++◌, false, refl, sym, ap, subst, ◌∙◌, arith, inl, inr}
use Rattle.std.specs.Prelude.{nat_eq}
use Rattle.core_meaning.specs.Memory.{Content, Memory}
use Rattle.core_lines.specs.Machines.{Machine}
use Rattle.rv32_machine.specs.State.{Areas, set_word}
use Rattle.core_lines.specs.declared.line.Line.{Line}
use Rattle.core_lines.specs.declared.line.Line.TheVariants.{Plain, Label, Jump, JumpUnless, BranchUnless, CallTo}
use Rattle.core_lines.specs.Lines.{size_of, HasLines, code_length}
use Rattle.core_lines.specs.Frames.{load_code, save_code}
use Rattle.core_lines.specs.Lies.{Maps, Shows, Activation, Slot, SlotsLie}
use Rattle.core_lines.proofs.memory.Relations.{Moves, World, IsInOrder, Has, Stands}
use Rattle.core_lines.proofs.memory.Bytes.{word_is_small}
use Rattle.core_lines.specs.Homes.{stays}
use Rattle.core_lines.proofs.homes.Homes.{Stays, homes_of, kept_stays, homes_on}
use Rattle.core_lines.proofs.Steps.{state_at}
use Rattle.core_lines.proofs.memory.Slots.{Kept, loads_slot, saves_slot}
use Rattle.core_lines.proofs.memory.Fitting.{Writes, writes_word, store_fits, slot_change, with_slot, allowed, inside, slot_ground}

-- code is made of words
pub of_words : (lines : List Line) → code_length lines % 4 ≡ 0
of_words [] = refl
of_words (Plain instr ∷ lines) = omega (arith, of_words lines)
of_words (Label l ∷ lines) = omega (arith, of_words lines)
of_words (Jump l ∷ lines) = omega (arith, of_words lines)
of_words (JumpUnless comparison l ∷ lines) = omega (arith, of_words lines)
of_words (BranchUnless comparison l ∷ lines) = omega (arith, of_words lines)
of_words (CallTo l ∷ lines) = omega (arith, of_words lines)

pub behind : (place : ℕ) (lines : List Line) → place % 4 ≡ 0 → (place + code_length lines) % 4 ≡ 0
behind place lines aligned = omega (arith, of_words lines, aligned)

pub length_of_both : (first second : List Line) → code_length (first ++ second) ≡ code_length first + code_length second
length_of_both [] second = omega arith
length_of_both (line ∷ first) second = omega (arith, length_of_both first second)

module _ (n : Areas) (bytes places : ℕ → ℕ) where
  pub first_lines : (at : ℕ) (first second : List Line) → HasLines n bytes places at (first ++ second) → HasLines n bytes places at first
  first_lines at [] second has = tt
  first_lines at (line ∷ first) second (instrs, label, others) = (instrs, label, first_lines (at + size_of line) first second others)

  pub other_lines : (at : ℕ) (first second : List Line) → HasLines n bytes places at (first ++ second) → HasLines n bytes places (at + code_length first) second
  other_lines at [] second has = let e : at + zero ≡ at = omega arith in rw e has
  other_lines at (line ∷ first) second (instrs, label, others) =
      let e : at + (size_of line + code_length first) ≡ at + size_of line + code_length first = omega arith in
      rw e (other_lines (at + size_of line) first second others)

pub slot_at : (fs : List Activation) (f k at : ℕ) (v : Content) → SlotsLie fs f k at 4 v → at % 4 ≡ at % 4
slot_at fs f k at v l = refl

module _ (w : World) (order : IsInOrder w) (mem : Memory) (place : ℕ) (m : Maps) (fs : List Activation) (sp : ℕ) (s : Machine)
    (stands : Stands w mem place m fs sp sp s) where
  pub written_out : s ≡ state_at place s.registers s.bytes s.store
  written_out = λ i. record { pc = stands.there i; registers = s.registers; bytes = s.bytes; store = s.store; mode = stands.runs i }

  pub record Loaded (count behind r : ℕ) (v : Content) : Type 0 where
    pub new : ℕ → ℕ
    pub moves : Moves w.areas count s (state_at behind new s.bytes s.store)
    pub stands_on : Stands w mem behind m fs sp sp (state_at behind new s.bytes s.store)
    pub holds : Shows m v (new r)
    pub below : new r < 2 ^ 32
    pub kept : Kept r new s.registers

  -- what stands here still stands behind, with other registers
  pub stands_behind : (place' : ℕ) (new : ℕ → ℕ) → place' % 4 ≡ 0 → Stays new s.registers
      → Stands w mem place' m fs sp sp (state_at place' new s.bytes s.store)
  stands_behind place' new aligned stay = record {
    runs = refl;
    there = refl;
    aligned = aligned;
    pointer = stay 2 refl ∙ stands.pointer;
    stack_start = stay 3 refl ∙ stands.stack_start;
    small = stands.small;
    kept = stands.kept;
    stacked = stands.stacked;
    fits = stands.fits;
    homes = homes_on m mem fs new s.registers (homes_of new s.registers stay) stands.homes;
    known = stands.known;
    holds_blocks = stands.holds_blocks;
    data_based = stands.data_based;
  }

  -- the slot of a frame, k slots from the stack pointer on, into a register
  pub record Read (count behind r : ℕ) (v : Content) : Type 0 where
    pub new : ℕ → ℕ
    pub moves : Moves w.areas count s (state_at behind new s.bytes s.store)
    pub holds : Shows m v (new r)
    pub below : new r < 2 ^ 32
    pub kept : Kept r new s.registers

  pub reads : (f j k r : ℕ) (v : Content) → SlotsLie fs f j (sp + 4 * k) 4 v → Has w place (load_code (suc r) k)
      → Read (code_length (load_code (suc r) k) / 4) (place + code_length (load_code (suc r) k)) (suc r) v
  reads f j k r v lies has =
      let at = sp + 4 * k in
      let g = slot_ground w.areas order.statics_within order.pages_within order.stack_within order.code_within w.code s.store sp fs stands.stacked f j at 4 v
      lies in
      let low = (inside w.areas sp fs g.frame stands.stacked g.inside.among).high in
      let high = g.inside.high in
      let stack = order.stack_within in
      let even = (stands.fits.aligned (Slot f j) at 4 v lies).1 in
      let may = allowed w.areas order.statics_within order.pages_within order.stack_within order.code_within w.code s.store sp fs stands.stacked
      (Slot f j) at 4 g (inr refl) even in
      let p = loads_slot w order place s.registers s.bytes s.store stands.kept sp k stands.pointer may (omega (arith, low, high, stack)) r has in
      let there = place + code_length (load_code (suc r) k) in
      record {
        new = p.new;
        moves = subst (λ (t : Machine). Moves w.areas (code_length (load_code (suc r) k) / 4) t (state_at there p.new s.bytes s.store))
            (sym written_out) p.moves;
        holds = subst (λ x. Shows m v x) (sym p.holds) (stands.fits.shows (Slot f j) at 4 v lies);
        below = subst (λ x. x < 2 ^ 32) (sym p.holds)
            (word_is_small s.bytes at (stands.small at) (stands.small (at + 1)) (stands.small (at + 2)) (stands.small (at + 3)));
        kept = p.kept;
      }

  pub loads : (f j k r : ℕ) (v : Content) → SlotsLie fs f j (sp + 4 * k) 4 v → stays (suc r) ≡ false → Has w place (load_code (suc r) k)
      → Loaded (code_length (load_code (suc r) k) / 4) (place + code_length (load_code (suc r) k)) (suc r) v
  loads f j k r v lies other has =
      let p = reads f j k r v lies has in
      let there = place + code_length (load_code (suc r) k) in
      record {
        new = p.new;
        moves = p.moves;
        stands_on = stands_behind there p.new (behind place (load_code (suc r) k) stands.aligned)
            (kept_stays (suc r) p.new s.registers other p.kept);
        holds = p.holds;
        below = p.below;
        kept = p.kept;
      }

-- a register into a slot of the innermost frame
module _ (w : World) (order : IsInOrder w) (mem : Memory) (place : ℕ) (m : Maps) (a : Activation) (fs : List Activation) (sp : ℕ) (s : Machine)
    (stands : Stands w mem place m (a ∷ fs) sp sp s) where
  pub record Saved (count behind k r : ℕ) (v : Content) : Type 0 where
    pub new : ℕ → ℕ
    pub bytes : ℕ → ℕ
    pub moves : Moves w.areas count s (state_at behind new bytes s.store)
    pub stands_on : Stands w mem behind m (with_slot k v a ∷ fs) sp sp (state_at behind new bytes s.store)
    pub kept : Kept 7 new s.registers

  pub saves : (k r : ℕ) (v : Content) → k < a.size → nat_eq (suc r) 7 ≡ false → Shows m v (s.registers (suc r)) → s.registers (suc r) < 2 ^ 32
      → Has w place (save_code (suc r) k)
      → Saved (code_length (save_code (suc r) k) / 4) (place + code_length (save_code (suc r) k)) k (suc r) v
  saves k r v within not7 shows below has =
      let at = sp + 4 * k in
      let laid = stands.stacked.0 in
      let here : a.at + 4 * k ≡ at = ap (λ q. q + 4 * k) laid.there in
      let lies : SlotsLie (a ∷ fs) 0 k at 4 (a.slots k) = record { within = within; there = sym here; wide = refl; value = refl } in
      let g = slot_ground w.areas order.statics_within order.pages_within order.stack_within order.code_within w.code s.store sp
      (a ∷ fs) stands.stacked 0 k at 4 (a.slots k) lies in
      let low = (inside w.areas sp (a ∷ fs) g.frame stands.stacked g.inside.among).high in
      let high = g.inside.high in
      let stack = order.stack_within in
      let even = (stands.fits.aligned (Slot 0 k) at 4 (a.slots k) lies).1 in
      let may = allowed w.areas order.statics_within order.pages_within order.stack_within order.code_within w.code s.store sp (a ∷ fs) stands.stacked
      (Slot 0 k) at 4 g (inr refl) even in
      let above = may.above in
      let p = saves_slot w order place s.registers s.bytes s.store stands.kept sp k stands.pointer may (omega (arith, low, high, stack)) r not7 has in
      let there = place + code_length (save_code (suc r) k) in
      let x = s.registers (suc r) in
      let writes = writes_word s.bytes at x below in
      record {
        new = p.new;
        bytes = set_word at x s.bytes;
        moves = subst (λ (t : Machine). Moves w.areas (code_length (save_code (suc r) k) / 4) t (state_at there p.new (set_word at x s.bytes) s.store))
            (sym (written_out w order mem place m (a ∷ fs) sp s stands)) p.moves;
        stands_on = record {
          runs = refl;
          there = refl;
          aligned = behind place (save_code (suc r) k) stands.aligned;
          pointer = p.kept 2 refl refl ∙ stands.pointer;
          stack_start = p.kept 3 refl refl ∙ stands.stack_start;
          small = writes.small stands.small;
          kept = λ q under. writes.outside q (inl (omega (arith, under, above))) ∙ stands.kept q under;
          stacked = (
            record { there = laid.there; even = laid.even; low = laid.low; room = laid.room; own_room = laid.own_room; zoned = laid.zoned },
            stands.stacked.1,
          );
          fits = store_fits w.areas m (a ∷ fs) (with_slot k v a ∷ fs) mem mem s.bytes (set_word at x s.bytes) s.store (Slot 0 k) (a.at + 4 * k) 4 v
              (a.slots k) x
              stands.fits (record { within = within; there = refl; wide = refl; value = refl }) (slot_change w.areas m a fs mem k v)
              (subst (λ q. Writes s.bytes (set_word at x s.bytes) q 4 x) (sym here) writes) shows;
          homes = homes_on m mem (a ∷ fs) p.new s.registers (homes_of p.new s.registers (kept_stays 7 p.new s.registers refl p.kept)) stands.homes;
          known = stands.known;
          holds_blocks = stands.holds_blocks;
          data_based = stands.data_based;
        };
        kept = p.kept;
      }
