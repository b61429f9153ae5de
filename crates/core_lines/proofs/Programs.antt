-- A machine that begins with a program's lines does what the program does, where the code of each function does.
use Rattle.std.specs.Prelude.{slice_get, length, nat_le, if◌then◌else◌}
use Rattle.std.proofs.Common.{
  ◌∙◌,
  ◌≡◌,
  ℕ,
  zero,
  suc,
  pos,
  ◌+◌,
  ◌-◌,
  ◌*◌,
  ◌/◌,
  ◌%◌,
  ◌^◌,
  ◌≤◌,
  Bool,
  true,
  false,
  List,
  [],
  ◌∷◌,
  ◌++◌,
  Option,
  Some,
  None,
  refl,
  sym,
  ap,
  subst,
  arith,
  leb-true,
}
use Rattle.std.proofs.lemmas.Option.{same_Some, none-some}
use Rattle.rv32_isa.specs.declared.instruction.Instr.TheVariants.{Addi, Ecall}
use Rattle.rv32_machine.specs.State.{State, Areas}
use Rattle.rv32_machine.specs.Ledger.{unborn}
use Rattle.core_meaning.specs.Core.{Function, Datum, Program}
use Rattle.core_lines.specs.declared.line.Line.{Line}
use Rattle.core_lines.specs.declared.line.Line.TheVariants.{Plain, Label, CallTo}
use Rattle.core_lines.specs.Machines.{Machine}
use Rattle.core_lines.specs.Lines.{code_length}
use Rattle.core_lines.specs.Frames.{stack_start_code, refusal_code}
use Rattle.core_lines.specs.Selected.{frame_bytes, too_many, slots_of, own_end, placed_body, datum_locals, function_code, functions_code, program_code}
use Rattle.core_lines.specs.Selected.{labels_within}
use Rattle.core_meaning.specs.Selectable.{AreLayouts, HaveLayouts, IsSelectable}
use Rattle.core_lines.specs.Running.{AreBounded, Begins, DoesAsCore, data_offsets, data_end}
use Rattle.core_lines.proofs.memory.Relations.{World, IsInOrder, Has}
use Rattle.core_lines.proofs.memory.Access.{behind, first_lines, other_lines}
use Rattle.core_lines.proofs.frames.Passing.{has_first, has_second}
use Rattle.core_lines.proofs.homes.Locals.{offsets_lie, end_above, highest_of_above, top_of, frame_even, frame_has_all}
use Rattle.core_lines.proofs.frames.Bodies.{FunctionDoes}
use Rattle.core_lines.proofs.memory.Start.{IsStart, program_does}

-- ---- frames

-- the bytes of the frame of a function, by its number
abbrev pub frame_in : Option Function → ℕ
frame_in None = 0
frame_in (Some f) = frame_bytes f

abbrev pub frame_of : List Function → ℕ → ℕ
frame_of functions number = frame_in (slice_get functions number)

frame_small : (f : Function) → frame_bytes f ≤ 2 ^ 25
frame_small f = by (nat_le (top_of f) (too_many - 16)) refl
  where
    by : (c : Bool) → nat_le (top_of f) (too_many - 16) ≡ c → (if c then (top_of f + 15) / 16 * 16 else too_many) ≤ 2 ^ 25
    by true e = let h = leb-true (top_of f) (too_many - 16) e in omega (arith, h)
    by false e = omega arith

-- ---- the world of a program

-- what a world has to have of a program
pub record IsOfProgram (w : World) (p : Program) : Type 0 where
  pub functions : w.functions ≡ p.functions
  pub frames : (number : ℕ) (f : Function) → slice_get p.functions number ≡ Some f → w.frame_bytes number ≡ frame_bytes f
  pub data_offsets : w.data_offsets ≡ data_offsets p.data_objects
  pub data_within : data_end p.data_objects ≤ 2 ^ 20

-- where the k-th function ends, where the first of them has this label for it
abbrev pub exit_of : ℕ → List Function → ℕ → ℕ
exit_of next [] k = 0
exit_of next (f ∷ fs) zero = next
exit_of next (f ∷ fs) (suc k) = exit_of (next + labels_within f) fs k

abbrev pub world_of : (ℕ → Bool) → (ℕ → List ℕ) → (List ℕ → ℕ) → Areas → (ℕ → ℕ) → Program → State → World
world_of wide names bound n places p s = record {
  areas = n;
  code = s.bytes;
  places = places;
  functions = p.functions;
  names = names;
  frame_bytes = frame_of p.functions;
  bound = bound;
  exits = exit_of (length p.functions + 1) p.functions;
  wide = wide;
  stub = 8;
  refused = length p.functions;
  data_offsets = data_offsets p.data_objects;
}

-- the code of a function, where it stands
pub record IsAtCode (w : World) (number : ℕ) (f : Function) : Type 0 where
  pub next : ℕ
  pub place : ℕ
  pub aligned : place % 4 ≡ 0
  pub has : Has w place (function_code w.wide w.data_offsets w.refused number next f)
  pub exit : w.exits number ≡ next

code_of : (w : World) (functions : List Function) (number next place k : ℕ) (f : Function) → place % 4 ≡ 0
    → ((j : ℕ) → w.exits (number + j) ≡ exit_of next functions j)
    → Has w place (functions_code w.wide w.data_offsets w.refused number next functions) → slice_get functions k ≡ Some f → IsAtCode w (number + k) f
code_of w [] number next place k f aligned exits has is = absurd (none-some f is)
code_of w (g ∷ gs) number next place zero f aligned exits has is =
    let first = function_code w.wide w.data_offsets w.refused number next g in
    let others = functions_code w.wide w.data_offsets w.refused (number + 1) (next + labels_within g) gs in
    let e : number ≡ number + 0 = omega arith in
    subst (λ k. IsAtCode w k f) e (subst (λ (h : Function). IsAtCode w number h) (same_Some g f is)
    (record {
      next = next;
      place = place;
      aligned = aligned;
      has = has_first w place first others has;
      exit = ap (λ k. w.exits k) e ∙ exits 0;
    }))
code_of w (g ∷ gs) number next place (suc k) f aligned exits has is =
    let first = function_code w.wide w.data_offsets w.refused number next g in
    let others = functions_code w.wide w.data_offsets w.refused (number + 1) (next + labels_within g) gs in
    let e : number + 1 + k ≡ number + suc k = omega arith in
    subst (λ k. IsAtCode w k f) e
    (code_of w gs (number + 1) (next + labels_within g) (place + code_length first) k f (behind place first aligned)
    (λ j. let s : number + 1 + j ≡ number + suc j = omega arith in ap (λ q. w.exits q) s ∙ exits (suc j)) (has_second w place first others has) is)

-- what is asked of the code of each function, wherever it stands
abbrev pub FunctionsDo : (w : World) → IsInOrder w → Type 0
FunctionsDo w order = (number : ℕ) (f : Function) → slice_get w.functions number ≡ Some f → IsAtCode w number f → FunctionDoes w order number f

layouts_of : (ds : List Datum) → HaveLayouts ds → AreLayouts (datum_locals ds)
layouts_of [] have = tt
layouts_of (d ∷ ds) have = (have.0, layouts_of ds have.1)

module _ (p : Program) (wide : ℕ → Bool) (names : ℕ → List ℕ) (bound : List ℕ → ℕ) (n : Areas) (places : ℕ → ℕ) (s : State)
    (bounded : AreBounded names bound p.functions) (begins : Begins n places (program_code wide p) p.data_objects s) where
  abbrev w : World
  w = world_of wide names bound n places p s

  frame_is : (number : ℕ) (f : Function) → slice_get p.functions number ≡ Some f → frame_of p.functions number ≡ frame_bytes f
  frame_is number f is = ap frame_in is

  has_frame : (found : Option Function) → (frame_in found % 16 ≡ 0) × (frame_in found ≤ 2 ^ 25)
  has_frame None = (refl, omega arith)
  has_frame (Some f) = (frame_even f, frame_small f)

  within_bound : (number : ℕ) → frame_of p.functions number ≤ bound (names number)
  within_bound number = by (slice_get p.functions number) refl
    where
      by : (found : Option Function) → slice_get p.functions number ≡ found → frame_in found ≤ bound (names number)
      by None is = omega arith
      by (Some f) is = bounded number f is

  abbrev stub : List Line
  stub = stack_start_code ++ CallTo p.main ∷ Plain (Addi 17 0 (pos 0)) ∷ Plain Ecall ∷ []

  abbrev of_functions : List Line
  of_functions = functions_code wide (data_offsets p.data_objects) (length p.functions) 0 (length p.functions + 1) p.functions

  abbrev behind_stub : List Line
  behind_stub = Label (length p.functions) ∷ refusal_code ++ of_functions

  has_behind : Has w 16 behind_stub
  has_behind = other_lines n s.bytes places 0 stub behind_stub begins.has

  has_refusal : Has w (places (length p.functions)) refusal_code
  has_refusal = subst (λ q. Has w q refusal_code) (sym has_behind.1) (has_first w 16 refusal_code of_functions has_behind.2)

  in_order : IsInOrder w
  in_order = record {
    code_within = begins.code_within;
    stack_within = begins.stack_within;
    stack_pages = begins.stack_pages;
    blocks = begins.blocks;
    statics_within = begins.statics_within;
    pages_within = begins.pages_within;
    labels = begins.labels;
    stub_place = record { aligned = refl; within = omega arith };
    refusal = has_refusal;
    frames = λ number f is fits.
        let e = frame_is number f is in
        let all = frame_has_all f (omega (arith, e, fits)) in
        let own = end_above (4 * slots_of f) f.own in
        let body = highest_of_above (own_end f) (placed_body f) in
        omega (arith, e, all, own, body);
    even = λ number. (has_frame (slice_get p.functions number)).0;
    bounded = within_bound;
    not_too_large = λ number. (has_frame (slice_get p.functions number)).1;
  }

  is_of_program : IsOfProgram w p
  is_of_program = record {
    functions = refl;
    frames = frame_is;
    data_offsets = refl;
    data_within = let room = begins.data_within in let few = begins.statics_within in omega (arith, room, few);
  }

  abbrev machine : Machine
  machine = record { pc = s.pc; registers = s.registers; bytes = s.bytes; store = record { holdings = s.holdings; ledger = unborn }; mode = s.mode }

  is_start : IsStart w p.main p.data_objects (data_offsets p.data_objects) machine
  is_start = record {
    runs = begins.runs;
    at_first = begins.at_first;
    pointer = begins.pointer;
    words = λ q is. begins.words q;
    small = begins.small;
    kept = λ q less. refl;
    fresh = refl;
    no_numbers = begins.unheld;
    has_pages = begins.has_pages;
    stub = first_lines n s.bytes places 0 stub behind_stub begins.has;
    shows_data = begins.shows_data;
  }

  each : FunctionsDo w in_order → (number : ℕ) (f : Function) → slice_get p.functions number ≡ Some f → FunctionDoes w in_order number f
  each does number f is =
      let e : 0 + number ≡ number = omega arith in
      does number f is (subst (λ k. IsAtCode w k f) e (code_of w p.functions 0 (length p.functions + 1) 28 number f refl
      (λ j. let s : 0 + j ≡ j = omega arith in ap (λ q. exit_of (length p.functions + 1) p.functions q) s)
      (has_second w 16 refusal_code of_functions has_behind.2) is))

-- The lines of a program do what it does, where the code of each of its functions does.
pub program_does_as_core : (p : Program) (wide : ℕ → Bool) → IsSelectable p → ((w : World) (order : IsInOrder w) → IsOfProgram w p → FunctionsDo w order)
    → DoesAsCore p (program_code wide p)
program_does_as_core p wide selectable does names bound n places s input bytes bounded begins sound =
    let w = world_of wide names bound n places p s in
    let order = in_order p wide names bound n places s bounded begins in
    program_does w order refl p.main
    (each p wide names bound n places s bounded begins (does w order (is_of_program p wide names bound n places s bounded begins)))
    p.data_objects (data_offsets p.data_objects) (data_end p.data_objects)
    (offsets_lie 0 (datum_locals p.data_objects) (layouts_of p.data_objects selectable.data_layouts))
    begins.data_within refl (machine p wide names bound n places s bounded begins) (is_start p wide names bound n places s bounded begins) input bytes sound
