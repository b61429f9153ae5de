-- What the code of an offset does: it adds a number of bytes to a register's word, into another register. A pointer that is moved so stays below the end of
-- all addresses.
use Rattle.std.specs.Prelude.{nat_eq, if◌then◌else◌}
use Rattle.std.proofs.Common.{◌≡◌, ℕ, suc, ◌+◌, ◌^◌, ◌<◌, Bool, true, false, List, [], ◌∷◌, ◌++◌, refl, sym, ap, subst, ◌∙◌, arith}
use Rattle.cyc_words.specs.Words.{word, sum_of}
use Rattle.rv32_isa.specs.declared.instruction.Instr.TheVariants as instr
use Rattle.rv32_machine.specs.State.{set_register}
use Rattle.core_meaning.specs.Memory.{Spot, Pointer, Memory, beyond}
use Rattle.core_meaning.specs.Operations.{too_far}
use Rattle.core_lines.specs.declared.line.Line.{Line}
use Rattle.core_lines.specs.declared.line.Line.TheVariants.{Plain}
use Rattle.core_lines.specs.Lines.{code_length}
use Rattle.core_lines.specs.Frames.{is_short, lower_of, word_code}
use Rattle.core_lines.specs.Held.{Holding, without_register, result_index, result_register, with_result}
use Rattle.core_lines.specs.Operands.{operand_in, operand_code, keep_code}
use Rattle.core_lines.specs.Selected.{further_code}
use Rattle.core_lines.specs.Lies.{Maps, Shows, Points}
use Rattle.core_lines.specs.Homes.{stays}
use Rattle.core_lines.proofs.memory.Relations.{World, IsInOrder, Has, Waiting, Follows, keeping}
use Rattle.core_lines.proofs.memory.Moving.{Comes, comes_then, comes_as}
use Rattle.core_lines.proofs.memory.Words.{short_word}
use Rattle.core_lines.proofs.memory.Slots.{Kept, set_here, set_there}
use Rattle.core_lines.proofs.frames.Passing.{has_first, has_second}
use Rattle.core_lines.proofs.operations.Holding.{having, result_stays, operand_some, there_without}
use Rattle.core_lines.proofs.operations.Registers.{AtWith, AtHolding, InRegister, AreThere, IsServed, in_turn, puts, puts_into, result_into, brings}
use Rattle.core_lines.proofs.operations.Reaching.{operand_not_7}

-- what held before a register got a word
pub record Midway (r v : ℕ) (P : Maps → (ℕ → ℕ) → Type 0) (m : Maps) (registers : ℕ → ℕ) : Type 0 where
  pub old : ℕ → ℕ
  pub holds : registers r ≡ v
  pub kept : Kept r registers old
  pub before : P m old

module _ (w : World) (order : IsInOrder w) (x : Waiting) (outer : List Waiting) (mem : Memory) where
  abbrev further_lines : Bool → ℕ → ℕ → ℕ → List Line
  further_lines short to from bytes =
      (if short then Plain (instr.Addi to from (lower_of bytes)) ∷ [] else word_code 7 bytes ++ (Plain (instr.Add to 7 from) ∷ []))

  -- a register, which isn't x7, and so many bytes, into a register where something stays
  module _ (r bytes place : ℕ) (P Q : Maps → (ℕ → ℕ) → Type 0) (other : stays (suc r) ≡ false) (few : bytes < 2 ^ 32) where
    abbrev Differs : ℕ → Type 0
    Differs from = (m : Maps) (registers : ℕ → ℕ) → P m registers → nat_eq from 7 ≡ false

    abbrev Gets : ℕ → Type 0
    Gets from = (m : Maps) (new old : ℕ → ℕ) → new (suc r) ≡ sum_of (old from) bytes → Kept (suc r) new old → P m old → Q m new

    abbrev Further : List Line → Type 0
    Further lines = Comes w (AtWith w x outer mem place P) (AtWith w x outer mem (place + code_length lines) Q)

    further_as : (f : ℕ) → Differs (suc f) → Gets (suc f) → (short : Bool) → is_short bytes ≡ short → Has w place (further_lines short (suc r) (suc f) bytes)
        → Further (further_lines short (suc r) (suc f) bytes)
    further_as f differs gets true short has =
        puts w order x outer mem r place P Q (instr.Addi (suc r) (suc f) (lower_of bytes)) (λ registers. sum_of (registers (suc f)) (word (lower_of bytes)))
        other has.0.0 (λ registers b st n. refl) (λ _. tt) (λ m registers h.
        let value = sum_of (registers (suc f)) (word (lower_of bytes)) in
        gets m (set_register (suc r) value registers) registers
        (set_here r value registers ∙ ap (λ k. sum_of (registers (suc f)) k) (short_word bytes short few))
        (λ q not7 other. set_there (suc r) value q registers other) h)
    further_as f differs gets false long has =
        let first = word_code 7 bytes in
        let last : List Line = Plain (instr.Add (suc r) 7 (suc f)) ∷ [] in
        let end : place + 8 + 4 ≡ place + code_length (first ++ last) = omega arith in
        subst (λ p. Comes w (AtWith w x outer mem place P) (AtWith w x outer mem p Q)) end
        (comes_then w _ _ _
        (puts_into w order x outer mem 6 bytes place P (Midway 7 bytes P) few refl (has_first w place first last has)
        (λ m new old is kept h. record { old = old; holds = is; kept = kept; before = h }))
        (puts w order x outer mem r (place + 8) (Midway 7 bytes P) Q (instr.Add (suc r) 7 (suc f)) (λ registers. sum_of (registers 7) (registers (suc f))) other
        (has_second w place first last has).0.0 (λ registers b st n. refl) (λ _. tt) (λ m registers h.
        let value = sum_of (registers 7) (registers (suc f)) in
        let not7 = differs m h.old h.before in
        let same = h.kept (suc f) not7 not7 in
        let seven = h.holds in
        gets m (set_register (suc r) value registers) h.old
        (set_here r value registers ∙ omega (arith, same, seven))
        (λ q not7 other. set_there (suc r) value q registers other ∙ h.kept q not7 not7) h.before)))

    pub further_from : (from : ℕ) → (f : ℕ) × (from ≡ suc f) → Differs from → Has w place (further_code (suc r) from bytes) → Gets from
        → Further (further_code (suc r) from bytes)
    further_from from (f, is) =
        subst (λ from. Differs from → Has w place (further_code (suc r) from bytes) → Gets from → Further (further_code (suc r) from bytes)) (sym is)
        (λ differs has gets. further_as f differs gets (is_short bytes) refl has)

  -- x5 and so many bytes
  pub further_into : (r bytes place : ℕ) (P Q : Maps → (ℕ → ℕ) → Type 0) → stays (suc r) ≡ false → bytes < 2 ^ 32 → Has w place (further_code (suc r) 5 bytes)
      → ((m : Maps) (new old : ℕ → ℕ) → new (suc r) ≡ sum_of (old 5) bytes → Kept (suc r) new old → P m old → Q m new)
      → Comes w (AtWith w x outer mem place P) (AtWith w x outer mem (place + code_length (further_code (suc r) 5 bytes)) Q)
  further_into r bytes place P Q other few has gets = further_from r bytes place P Q other few 5 (4, refl) (λ m registers h. refl) has gets

  -- A register has the pointer, and its object doesn't begin in the upper half of all addresses.
  record Near (s : Spot) (b from : ℕ) (hs : List Holding) (m : Maps) (registers : ℕ → ℕ) : Type 0 where
    pub points : Points m s b (registers from)
    pub low : points.base < 2 ^ 31
    pub differs : nat_eq from 7 ≡ false
    pub there : AreThere hs x.config.temps m registers

  abbrev offset_lines : Bool → List Holding → ℕ → ℕ → ℕ → List Line
  offset_lines keeps hs t p bytes =
      operand_code x.fn.passed hs 5 p ++ further_code (result_register t) (operand_in hs 5 p) bytes ++ keep_code keeps x.fn.passed (result_register t) t

  -- a pointer so many cells and bytes on
  pub offset : (keeps : Bool) (after : List Bool) (t : ℕ) → t < x.fn.temporaries → Follows keeps (t ∷ []) x.kept after → (p cells bytes b : ℕ) (s : Spot)
      (hs : List Holding) (place : ℕ) → p < x.fn.temporaries → IsServed w x hs p
      → x.config.temps p ≡ Pointer s b → b + bytes < too_far → Has w place (offset_lines keeps hs t p bytes)
      → Comes w (AtHolding w x outer mem place hs) (AtHolding w (keeping after (having t (Pointer (beyond s cells) (b + bytes)) x)) outer mem
      (place + code_length (offset_lines keeps hs t p bytes)) (with_result t hs))
  offset keeps after t named follows p cells bytes b s hs place named' served points few has =
      let from = operand_in hs 5 p in
      let own = result_register t in
      let first = operand_code x.fn.passed hs 5 p in
      let second = further_code own from bytes in
      let v = Pointer (beyond s cells) (b + bytes) in
      result_into w order x outer mem keeps after t place v hs (first ++ second) named follows has (λ has.
      in_turn w (AtWith w x outer mem place (AreThere hs x.config.temps)) (λ q. AtWith w x outer mem q (Near s b from hs))
      (λ q. AtWith w x outer mem q (λ m registers. InRegister own v m registers × AreThere (without_register own hs) x.config.temps m registers))
      place first second
      (comes_then w _ _ _ (brings w order x outer mem 4 p place hs named' served refl (has_first w place first second has))
      (comes_as w _ _ (λ q a.
      let here : Points a.maps s b (q.registers from) = subst (λ u. Shows a.maps u (q.registers from)) points a.holds.0.0.0 in
      record {
        maps = a.maps;
        frame = a.frame;
        others = a.others;
        sp = a.sp;
        stands = a.stands;
        shows = a.shows;
        stack = a.stack;
        holds = record {
          points = here;
          low = a.stands.known.low s.region s.object here.base here.known;
          differs = operand_not_7 5 from refl a.holds.0.1;
          there = a.holds.1;
        };
      })))
      (further_from (result_index t) bytes (place + code_length first) (Near s b from hs)
      (λ m registers. InRegister own v m registers × AreThere (without_register own hs) x.config.temps m registers) (result_stays t) (omega (arith, few)) from
      (operand_some hs 4 p) (λ m registers h. h.differs) (has_second w place first second has)
      (λ m new old is kept h.
      let at = h.points.at in
      let low = h.low in
      let positive = h.points.positive in (
        (
          record { base = h.points.base; known = h.points.known; at = omega (arith, is, at, low, few); positive = omega (arith, is, at, low, few, positive) },
          omega (arith, is),
        ),
        there_without (result_index t) hs x.config.temps m new old kept h.there,
      ))))
