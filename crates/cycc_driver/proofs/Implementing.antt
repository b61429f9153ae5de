-- From the layers to the whole: an image of a program's placed code and data does what the program does.
use Rattle.std.specs.Prelude.{slice_index, nat_eq, nat_le, if◌then◌else◌}
use Rattle.std.proofs.Common.{◌≡◌, ℕ, ◌+◌, ◌*◌, ◌%◌, ◌^◌, ◌≤◌, ◌<◌, Bool, true, false, List, length, refl, sym, ap, ◌∙◌, subst, arith}
use Rattle.std.proofs.lemmas.Bool.{leb-true, leb-false}
use Rattle.arena_laws.specs.Holdings.{Holdings, fresh}
use Rattle.compile_proof.proofs.AcceptedDo.{accepted_do}
use Rattle.core_lines.specs.declared.line.Line.{Line}
use Rattle.core_lines.specs.Promise.{AreLinesOf}
use Rattle.core_lines.specs.Relaxed.{shortened}
use Rattle.core_lines.specs.Running.{Begins, data_offsets}
use Rattle.core_lines.specs.Statics.{data_bytes}
use Rattle.core_lines.proofs.Images.{IsFirst, begins_as, data_length}
use Rattle.rv32_layout.specs.Holding.{IsCodeOf}
use Rattle.rv32_layout.specs.Placed.{AreInstructions}
use Rattle.cyc_image.specs.Format.{Contents, Fits, IsImage, First, Second, code_limit, data_limit, stack_page_limit, second_block_limit}
use Rattle.cyc_tree.specs.Tree.{Program}
use Rattle.rv32_machine.specs.State.{stack_base}
use Rattle.rv32_machine.specs.Arrays.{Arrays, IsStart, areas_of, state_of, first_register, stack_length, longest_stack}
use Rattle.accepted_proof.proofs.Joined.{accepted_are_never_stuck}
use Rattle.source_meaning.specs.Programs.{unions_of}
use Rattle.source_lowering.specs.Programs.{program_code}
use Rattle.source_lowering.specs.Lowerable.{HaveFewMembers}
use Rattle.accepted_programs.specs.Accepted.{IsAccepted}
use Rattle.cycc_driver.proofs.Small.{code_small, code_whole, data_small, each_small, memory_small}
use Rattle.compile_proof.specs.Promise.{DoesWithin, frame_bound_of, frame_size_of}
use Rattle.source_meaning.specs.Programs.{world_of}
use Rattle.rv32_layout.specs.Placed.{ArePlaced}
use Rattle.cycc_driver.specs.Outcome.{IsCode, IsCloselyImplementedBy, IsImplementedBy, IsImplementedWithin, IsTextImage, data_of, placed_lines}
use Rattle.cycc_driver.specs.Texts.{IsAcceptedAs}

-- What the layers promise of a program: there are lines of its Core, the bytes are instructions, a machine with them has the lines, and the data are its
-- globals'.
pub record AreLayers (program : Program) (code statics : List ℕ) : Type 0 where
  pub lines : List Line
  pub are : AreLinesOf (program_code program) lines
  pub words : AreInstructions code
  pub has : IsCodeOf lines code
  pub statics_are : statics ≡ data_bytes (data_offsets (program_code program).data_objects) 0 (program_code program).data_objects

-- each register begins as a word: the stack's end, or 0
first_small : (pages register : ℕ) → pages ≤ stack_page_limit → first_register pages register < 2 ^ 32
first_small pages register within = by (nat_eq register 2)
  where
    by : (c : Bool) → (if c then stack_base + stack_length pages else 0) < 2 ^ 32
    by true = omega (arith, within)
    by false = omega arith

register_small : (parts : Contents) (holdings : Holdings) (arena : ℕ → ℕ) (start : Arrays) → IsStart parts holdings arena start → Fits parts
    → (register : ℕ) → slice_index start.registers register < 2 ^ 32
register_small parts holdings arena start starts fits register = by (nat_le 32 register) refl
  where
    by : (c : Bool) → nat_le 32 register ≡ c → slice_index start.registers register < 2 ^ 32
    by true e = let none = starts.no_more register (leb-true 32 register e) in omega (arith, none)
    by false e =
        let below = leb-false 32 register e in
        let first = starts.registers register (omega (arith, below)) in
        let small = first_small parts.stack_pages register fits.stack_within in
        omega (arith, first, small)

-- the stack is of whole pages, and no longer than the longest
stack_within : (parts : Contents) (holdings : Holdings) (arena : ℕ → ℕ) (start : Arrays) → IsStart parts holdings arena start → Fits parts
    → length start.stack ≤ longest_stack
stack_within parts holdings arena start starts fits =
    let long : length start.stack ≡ 4096 * parts.stack_pages = starts.stack in
    let within : parts.stack_pages ≤ 4096 = fits.stack_within in
    omega (arith, long, within)

stack_whole : (parts : Contents) (holdings : Holdings) (arena : ℕ → ℕ) (start : Arrays) → IsStart parts holdings arena start
    → length start.stack % 4096 ≡ 0
stack_whole parts holdings arena start starts = let long : length start.stack ≡ 4096 * parts.stack_pages = starts.stack in omega (arith, long)

module _ (program : Program) (code statics : List ℕ) (parts : Contents) (layers : AreLayers program code statics) (is_code : parts.code ≡ code)
    (is_statics : parts.statics ≡ statics) (from_first : parts.entry ≡ 0) (blocks : parts.block_limit ≡ second_block_limit) (fits : Fits parts) where
  first_machine : (arena : ℕ → ℕ) (start : Arrays) → ((at : ℕ) → arena at < 256) → IsStart parts (fresh parts.pages) arena start → IsFirst start
  first_machine arena start small starts =
      let objects = (program_code program).data_objects in
      let offsets = data_offsets objects in
      let pages : start.holdings.pages ≡ parts.pages = ap (λ (h : Holdings). h.pages) starts.held in
      record {
        runs = starts.runs;
        at_first = starts.at_entry ∙ omega (arith, from_first);
        pointer = starts.registers 2 (omega arith) ∙ ap (λ k. stack_base + k) (sym starts.stack);
        words = register_small parts (fresh parts.pages) arena start starts fits;
        code_within = let within = fits.code_within in omega (arith, within, ap (λ (bs : List ℕ). length bs) starts.code);
        statics_within = let within = fits.data_within in omega (arith, within, ap (λ (bs : List ℕ). length bs) starts.statics);
        stack_within = stack_within parts (fresh parts.pages) arena start starts fits;
        stack_pages = stack_whole parts (fresh parts.pages) arena start starts;
        blocks = starts.block_limit ∙ blocks;
        pages_within = let within = fits.pages_within in omega (arith, within, pages);
        small = memory_small start.holdings.pages start.arena start.code start.statics start.stack
            (subst (λ (a : ℕ → ℕ). (at : ℕ) → a at < 256) (sym starts.arena_bytes) small)
            (subst (λ (bs : List ℕ). (k : ℕ) → slice_index bs k < 256) (sym (starts.code ∙ is_code)) (each_small code (code_small code layers.words)))
            (subst (λ (bs : List ℕ). (k : ℕ) → slice_index bs k < 256) (sym (starts.statics ∙ is_statics ∙ layers.statics_are))
            (each_small (data_bytes offsets 0 objects) (data_small offsets 0 objects)))
            (λ k. let none = starts.zeros k in omega (arith, none));
        unheld = λ number. ap (λ (h : Holdings). h.standing number) starts.held;
      }

  -- with each bound by which its lines do what it does
  implemented_within : (bound : List ℕ → ℕ) → DoesWithin bound program → IsAccepted program → HaveFewMembers (unions_of program)
      → IsImplementedWithin bound program parts
  implemented_within bound does accepted few arena start small starts input are_bytes =
      let all = accepted_do program accepted few in
      let places = layers.has.places in
      let placed = shortened layers.has.wide layers.lines in
      let begun : Begins (areas_of start) places placed (program_code program).data_objects (state_of start) =
      begins_as start places placed (program_code program).data_objects (first_machine arena start small starts) all.plain
      (starts.statics ∙ is_statics ∙ layers.statics_are) layers.has.labels (layers.has.has start (starts.code ∙ is_code)) in
      does layers.lines layers.are layers.has.wide layers.has.each (areas_of start) places (state_of start) input are_bytes begun
      (λ fuel. accepted_are_never_stuck program accepted input fuel)

  pub implemented : IsAccepted program → HaveFewMembers (unions_of program) → IsImplementedBy program parts × IsCloselyImplementedBy program parts
  implemented accepted few =
      let promised = (accepted_do program accepted few).promised in (
        implemented_within (frame_bound_of (world_of program)) promised.does accepted few,
        implemented_within (frame_size_of (world_of program)) promised.close accepted few,
      )

-- ---- sizes

-- code of instructions, of which there are some
pub is_code : (code : List ℕ) → AreInstructions code → 0 < length code → length code ≤ code_limit → IsCode code
is_code code words some within = record { some = some; within = within; whole_words = code_whole code words }

-- the data are never over theirs
pub data_fit : (program : Program) → IsAccepted program → HaveFewMembers (unions_of program)
    → data_limit < length (data_bytes (data_offsets (program_code program).data_objects) 0 (program_code program).data_objects) → ⊥
data_fit program accepted few large =
    let does = accepted_do program accepted few in
    let within = does.data_within in
    let objects = (program_code program).data_objects in
    let long = data_length (data_offsets objects) 0 objects does.plain in
    omega (arith, within, long, large)

-- what is an image is within the limits
image_fits : (bytes : List ℕ) (parts : Contents) → IsImage bytes parts → Fits parts
image_fits bytes parts (First laid stack limit fits) = fits
image_fits bytes parts (Second laid limit fits) = fits

-- the image of an accepted text
pub text_image : (text bytes code statics : List ℕ) (program : Program) (parts : Contents) (pages stack_pages : ℕ) → IsAcceptedAs text program
    → IsImage bytes parts → parts.code ≡ code → parts.statics ≡ statics → parts.entry ≡ 0 → parts.pages ≡ pages → parts.stack_pages ≡ stack_pages
    → parts.block_limit ≡ second_block_limit → ArePlaced (placed_lines program) code → statics ≡ data_of program
    → ((p : Contents) → p.code ≡ code → p.statics ≡ statics → p.entry ≡ 0 → p.block_limit ≡ second_block_limit → Fits p
    → IsImplementedBy program p × IsCloselyImplementedBy program p)
    → IsTextImage text pages stack_pages bytes
text_image text bytes code statics program parts pages stack_pages accepted image is_code is_statics from_first as_asked stack_as_asked blocks placed
    bytes_are does =
    let both = does parts is_code is_statics from_first blocks (image_fits bytes parts image) in
    record {
      program = program;
      accepted = accepted;
      parts = parts;
      image = image;
      as_asked = as_asked;
      stack_as_asked = stack_as_asked;
      blocks = blocks;
      code = subst (λ (bs : List ℕ). ArePlaced (placed_lines program) bs) (sym is_code) placed;
      statics = is_statics ∙ bytes_are;
      from_first = from_first;
      implemented = both.0;
      closely = both.1;
    }
