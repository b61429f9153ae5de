-- From the start to the end of a program: the machine calls `main`, and ends with what it returns.
use Rattle.std.specs.Prelude.{slice_get, if◌then◌else◌}
use Rattle.std.proofs.Common.{◌≡◌, ◌≢◌, ℕ, zero, suc, pos, ◌+◌, ◌%◌, ◌^◌, ◌<◌, ◌≤◌, ◌⊎◌, ⊎_elim, inl, true, false, length, List, [], ◌∷◌, ◌++◌, Some, None}
use Rattle.std.proofs.Common.{refl, sym, ap, ◌∙◌, subst, arith}
use Rattle.std.proofs.lemmas.Bool.{ne_eqb, cases_lt}
use Rattle.std.proofs.lemmas.Option.{none-some}
use Rattle.cyc_words.specs.Words.{word, sum_of}
use Rattle.cyc_words.specs.Events.{AreBytes, SourceEnding}
use Rattle.rv32_isa.specs.declared.instruction.Instr.TheVariants.{Lui, Addi, Ecall, Jal}
use Rattle.rv32_machine.specs.State.{Stop, Runs, Over, code_base, data_base, stack_base, stack_end, set_register}
use Rattle.rv32_machine.specs.Run.{Run}
use Rattle.rv32_machine.specs.Ledger.{Ledger, unborn}
use Rattle.rv32_machine.specs.Implements.{Implements}
use Rattle.step_trees.specs.Trees.{Stops}
use Rattle.core_meaning.specs.Memory.{Region, Frame, Own, Born, Single, Dead, Spot, Content, Blank, Word, Null, Pointer, Birth, Part, Memory}
use Rattle.core_meaning.specs.Layouts.{Apart}
use Rattle.core_meaning.specs.Core.{Function, Datum}
use Rattle.core_meaning.specs.Meaning as core
use Rattle.core_meaning.specs.Meaning.{first_memory, status_of, datum_parts}
use Rattle.core_meaning.specs.Steps.{Step}
use Rattle.core_lines.specs.declared.line.Line.TheVariants.{Plain, CallTo}
use Rattle.core_lines.specs.Lines.{offset_to}
use Rattle.core_lines.specs.Frames.{upper_of, stack_start_code}
use Rattle.core_meaning.specs.Operations.{too_far}
use Rattle.core_lines.specs.Homes.{is_home}
use Rattle.core_lines.specs.Machines.{Machine, Store, state_of}
use Rattle.core_lines.specs.Lies.{Shows, read, Name, Slot, Cell, same_name, Lies, Among, CellGround, Ground, Fits, Known, HoldsBlocks}
use Rattle.core_lines.specs.Selected.{datum_locals}
use Rattle.core_lines.specs.Running.{named, core_run, in_data, first_base, first_maps, ShowsData}
use Rattle.core_lines.proofs.homes.Homes.{other_home}
use Rattle.core_lines.proofs.memory.Relations.{Moves, Has, World, IsInOrder, Goes, Calling, Back, invoke}
use Rattle.core_lines.proofs.memory.Moving.{Reach, Comes, goes_from, goes_stuck, and_then, by_stop}
use Rattle.core_lines.proofs.memory.Words.{offset_joined}
use Rattle.core_lines.proofs.memory.Slots.{set_there}
use Rattle.core_lines.proofs.Steps.{state_at, goes_to, gives_value, step_is, is_lawful}
use Rattle.core_lines.proofs.memory.Access.{written_out}
use Rattle.core_lines.proofs.memory.Fitting.{width_some}
use Rattle.core_lines.proofs.memory.Laying.{LaidOut}
use Rattle.core_lines.proofs.memory.Data.{object_at, placed_at, none_behind}
use Rattle.core_lines.proofs.frames.Bodies.{FunctionDoes, bodies_go}
use Rattle.core_lines.proofs.memory.Whole.{implements}
use Rattle.core_lines.proofs.memory.DataParts.{in_data_is, data_part, object_of, within_object, part_aligned, parts_apart}

-- a machine at the start: nothing was asked of the store, the stack pointer is the stack's end, and the data show what they hold first
pub record IsStart (w : World) (main : ℕ) (ds : List Datum) (offsets : List ℕ) (s : Machine) : Type 0 where
  pub runs : s.mode ≡ Runs
  pub at_first : s.pc ≡ code_base
  pub pointer : s.registers 2 ≡ stack_end w.areas
  pub words : (q : ℕ) → is_home q ≡ true → s.registers q < 2 ^ 32
  pub small : (q : ℕ) → s.bytes q < 256
  pub kept : (q : ℕ) → q < data_base → s.bytes q ≡ w.code q
  pub fresh : s.store.ledger ≡ unborn
  pub no_numbers : (h : ℕ) → s.store.holdings.standing h ≡ None
  pub has_pages : s.store.holdings.pages ≡ w.areas.pages
  pub stub : Has w 0 (stack_start_code ++ CallTo main ∷ Plain (Addi 17 0 (pos 0)) ∷ Plain Ecall ∷ [])
  pub shows_data : ShowsData ds offsets s.bytes

module _ (w : World) (order : IsInOrder w) (eight : w.stub ≡ 8) (main : ℕ)
    (each : (f : ℕ) (fn : Function) → slice_get w.functions f ≡ Some fn → FunctionDoes w order f fn)
    (ds : List Datum) (offsets : List ℕ) (high : ℕ) (laid : LaidOut (datum_locals ds) offsets 0 high) (room : high ≤ w.areas.statics)
    (same : w.data_offsets ≡ offsets) where
  abbrev memory : Memory
  memory = first_memory ds

  first_fits : (b : ℕ → ℕ) (st : Store) → ShowsData ds offsets b → Fits w.areas (first_maps offsets) [] memory b st
  first_fits b st holds = record {
    shows = λ x at width v h. shows x at width v h;
    apart = λ x y at width at' width' v v' ne h h'. apart x y at width at' width' v v' ne h h';
    ground = λ x at width v h. ground x at width v h;
    aligned = λ x at width v h. aligned x at width v h;
  }
    where
      shows : (x : Name) (at width : ℕ) (v : Content) → Lies (first_maps offsets) [] memory x at width v → Shows (first_maps offsets) v (read b at width)
      shows (Slot f k) at width v h = absurd h
      shows (Cell s j) at width v h =
          let d = data_part ds offsets s j at width v h in
          subst (λ q. Shows (first_maps offsets) v (read b q width)) (sym d.there)
          (holds s.object s.cell j d.begin (record { offset = d.offset; width = width; content = v }) d.has d.placed)

      apart : (x y : Name) (at width at' width' : ℕ) (v v' : Content) → same_name x y ≡ false → Lies (first_maps offsets) [] memory x at width v
          → Lies (first_maps offsets) [] memory y at' width' v' → Apart at width at' width'
      apart (Slot f k) y at width at' width' v v' ne h h' = absurd h
      apart (Cell s i) (Slot f k) at width at' width' v v' ne h h' = absurd h'
      apart (Cell s i) (Cell t j) at width at' width' v v' ne h h' =
          parts_apart ds offsets high laid s t i j at width at' width' v v' ne (data_part ds offsets s i at width v h)
          (data_part ds offsets t j at' width' v' h')

      ground : (x : Name) (at width : ℕ) (v : Content) → Lies (first_maps offsets) [] memory x at width v → Ground w.areas [] st x at width
      ground (Slot f k) at width v h = absurd h
      ground (Cell s j) at width v h =
          let d = data_part ds offsets s j at width v h in
          let o = object_of ds offsets high laid s j at width v d in
          let inside = within_object ds offsets high laid s j at width v d o in
          let end = o.within in
          let e = d.there in
          subst (λ r. CellGround w.areas [] st r at width) (sym d.region) (inl (record { low = omega (arith, e); high = omega (arith, e, inside, end, room) }))

      aligned : (x : Name) (at width : ℕ) (v : Content) → Lies (first_maps offsets) [] memory x at width v → ((width ≡ 1) ⊎ (width ≡ 4)) × (at % width ≡ 0)
      aligned (Slot f k) at width v h = absurd h
      aligned (Cell s j) at width v h = part_aligned ds offsets high laid s j at width v (data_part ds offsets s j at width v h)

  first_known : (s : Machine) → IsStart w main ds offsets s → Known (first_maps offsets) memory s.store
  first_known s start = record {
    births = ap (λ (l : Ledger). l.births + 1) start.fresh;
    heap = refl;
    no_zero = start.no_numbers 0;
    held = λ h x e. absurd (none-some x (sym (start.no_numbers h) ∙ e));
    numbered = λ d h e alive. inl (zero_only d h e);
    zero_is_heap = refl;
    heap_is_zero = ap (λ (l : Ledger). l.birth_of 0) start.fresh;
    single = λ d o at is e. absurd (no_single d is);
    made = λ t j p e. made t j p t.region e;
    near = λ t j p e. near t j p t.region e;
    low = λ r o x e. low r o x e;
    unmade = λ r o le. unmade r o le;
    unborn = λ d le. later d le;
    unentered = λ k le. (refl, refl);
    uncalled = λ k le. (refl, refl);
  }
    where
      zero_only : (d h : ℕ) → (first_maps offsets).number d ≡ Some h → d ≡ 0
      zero_only zero h e = refl
      zero_only (suc d) h e = absurd (none-some h (sym (ap (λ c. if c then Some 0 else None) (ne_eqb (suc d) 0 (λ q. omega (arith, q)))) ∙ e))

      no_single : (d : ℕ) → memory.standing (Born d) ≡ Single → ⊥
      no_single zero is = cc is
      no_single (suc d) is = cc is

      later : (d : ℕ) → 1 ≤ d → (memory.standing (Born d) ≡ Dead) × (memory.objects (Born d) ≡ 0) × ((first_maps offsets).number d ≡ None)
      later zero le = absurd (omega (arith, le))
      later (suc d) le = (refl, refl, ap (λ c. if c then Some 0 else None) (ne_eqb (suc d) 0 (λ q. omega (arith, q))))

      low : (r : Region) (o x : ℕ) → first_base offsets r o ≡ Some x → x < 2 ^ 31
      low (Born zero) o x e =
          let found = in_data_is (slice_get offsets o) x e in
          let within = (object_at ds offsets 0 high o found.0 laid found.1.0).within in
          let is = found.1.1 in
          let few = order.statics_within in
          omega (arith, is, within, room, few)
      low (Born (suc d)) o x e = absurd (none-some x e)
      low (Frame k) o x e = absurd (none-some x e)
      low (Own k) o x e = absurd (none-some x e)

      unmade : (r : Region) (o : ℕ) → memory.objects r ≤ o → first_base offsets r o ≡ None
      unmade (Born zero) o le = ap in_data (none_behind ds offsets 0 high o laid le)
      unmade (Born (suc d)) o le = refl
      unmade (Frame k) o le = refl
      unmade (Own k) o le = refl

      made : (t : Spot) (j : ℕ) (p : Part) (r : Region) → memory.parts (record t { region = r }) j ≡ Some p → t.object < memory.objects r
      made t j p (Born zero) e = ⊎_elim
          (λ (less : t.object < length ds). less)
          (λ (behind : length ds ≤ t.object).
          let x = placed_at ds offsets 0 high t.object t.cell j p laid e in
          absurd (none-some x.0 (sym (none_behind ds offsets 0 high t.object laid behind) ∙ x.1)))
          (cases_lt t.object (length ds))
      made t j p (Born (suc d)) e = absurd (none-some p e)
      made t j p (Frame k) e = absurd (none-some p e)
      made t j p (Own k) e = absurd (none-some p e)

      near : (t : Spot) (j : ℕ) (p : Part) (r : Region) → memory.parts (record t { region = r }) j ≡ Some p → p.offset < too_far
      near t j p (Born zero) e =
          let x = placed_at ds offsets 0 high t.object t.cell j p laid e in
          let its = object_at ds offsets 0 high t.object x.0 laid x.1 in
          let like = its.parts t.cell j p e in
          let is = like.offset in
          let within = its.fits.within t.cell j like.blank like.is in
          let end = its.within in
          let few = order.statics_within in
          let some = width_some like.blank.width (its.fits.wide t.cell j like.blank like.is).0 in
          omega (arith, is, within, end, room, few, some)
      near t j p (Born (suc d)) e = absurd (none-some p e)
      near t j p (Frame k) e = absurd (none-some p e)
      near t j p (Own k) e = absurd (none-some p e)

  first_blocks : (s : Machine) → IsStart w main ds offsets s → HoldsBlocks w.areas s.store
  first_blocks s start = record {
    pages = start.has_pages;
    blocks = λ b among. absurd (subst (λ (l : Ledger). Among b l.blocks) start.fresh among);
  }

  -- the stack's start comes into x3, and `main` is called
  calls_main : Comes w (IsStart w main ds offsets) (Calling w main [] memory [])
  calls_main = record {
    count = 2;
    by = λ s start.
        let to = w.places main in
        let is_place = order.labels main in
        let within = is_place.within in
        let at_zero : s ≡ state_at 0 s.registers s.bytes s.store =
        (λ i. record {
          pc = (start.at_first ∙ (let e : code_base ≡ code_base + 0 = omega arith in e)) i;
          registers = s.registers;
          bytes = s.bytes;
          store =
              s.store;
          mode = start.runs i;
        }) in
        let first = set_register 3 stack_base s.registers in
        let s1 = state_at (0 + 4) first s.bytes s.store in
        let m1 = gives_value w.areas w.code order.code_within s.store 0 s.registers s.bytes start.kept (Lui 3 (upper_of stack_base)) start.stub.0.0 3
        stack_base (λ answer. refl) tt in
        let new = set_register 1 (code_base + (0 + 4 + 4)) first in
        let next = state_at to new s.bytes s.store in
        let m2 = goes_to w.areas w.code order.code_within s.store (0 + 4) first s.bytes start.kept (Jal 1 (offset_to to (0 + 4))) start.stub.2.0.0 1
        (sum_of (code_base + (0 + 4)) (word (offset_to to (0 + 4)))) to (offset_joined code_base to (0 + 4) (omega arith) (omega (arith, within)))
        is_place.aligned (λ answer. refl) tt in
        record {
          next = next;
          moves = subst (λ (t : Machine). Moves w.areas 2 t next) (sym at_zero) (and_then w.areas _ s1 next 1 1 m1 m2);
          there = record {
            maps = first_maps offsets;
            frames = [];
            sp = stack_end w.areas;
            stands = record {
              runs = refl;
              there = refl;
              aligned = is_place.aligned;
              pointer = start.pointer;
              stack_start = refl;
              small = start.small;
              kept = start.kept;
              stacked = refl;
              fits = first_fits s.bytes s.store start.shows_data;
              homes = λ q is. subst (λ v. v < 2 ^ 32)
                  (sym (set_there 1 (code_base + (0 + 4 + 4)) q first (other_home 1 q refl is) ∙ set_there 3 stack_base q s.registers (other_home 3 q refl is)))
                  (start.words q is);
              known = first_known s start;
              holds_blocks = first_blocks s start;
              data_based = λ o y e. ap in_data (ap (λ os. slice_get os o) (sym same) ∙ e);
            };
            stack = tt;
            back = ap (λ k. code_base + k) (sym eight);
            back_place = order.stub_place;
            passed = tt;
          };
        };
  }

  -- and the run ends with what it returned
  module _ (has : Has w 8 (Plain (Addi 17 0 (pos 0)) ∷ Plain Ecall ∷ [])) where
    ended : (most n : ℕ) (m : Memory) → Goes w most (Stops (SourceEnding.Ended n)) (Back w [] m (Word n ∷ [])) []
    ended most n m = record {
      at = λ fuel within input bytes. record {
        count = 2;
        leads = λ s answers b. let e = exits s b in inl (record {
          events = ap (λ (r : Run). r.events) (e.moves.moved input answers []);
          ends = ap (λ (r : Run). r.state.mode) (e.moves.moved input answers []) ∙ e.there;
        });
        paid = λ running. cc running;
        lawful = λ s answers b. (exits s b).moves.lawful input answers [];
      };
    }
      where
        exits : (s : Machine) → Back w [] m (Word n ∷ []) s → Reach w.areas 2 (λ t. t.mode ≡ Over (Stop.Ended n)) s
        exits s b =
            let at_eight : s ≡ state_at 8 s.registers s.bytes s.store =
            written_out w order m w.stub b.maps b.frames b.sp s b.stands ∙ ap (λ p. state_at p s.registers s.bytes s.store) eight in
            let e : (0 + 0 % 2 ^ 32) % 2 ^ 32 ≡ 0 = refl in
            let new = set_register 17 0 s.registers in
            let s1 = state_at (8 + 4) new s.bytes s.store in
            let m1 = gives_value w.areas w.code order.code_within s.store 8 s.registers s.bytes b.stands.kept (Addi 17 0 (pos 0)) has.0.0 17 0
            (λ answer. refl) tt in
            let why = Stop.Ended (s.registers 10) in
            let last = record s1 { mode = Over why } in
            let m2 : Moves w.areas 1 s1 last =
            by_stop w.areas s1 last refl why (λ answer. step_is w.areas w.code order.code_within s.store
            (8 + 4) new s.bytes b.stands.kept Ecall has.2.0.0 answer)
            (is_lawful w.areas w.code order.code_within s.store (8 + 4) new s.bytes b.stands.kept Ecall has.2.0.0 tt) in
            record {
              next = last;
              moves = subst (λ (t : Machine). Moves w.areas 2 t last) (sym at_eight) (and_then w.areas _ s1 last 1 1 m1 m2);
              there = ap (λ k. Over (Stop.Ended k)) b.results.0;
            }

    status_goes : (most : ℕ) (values : List Content) (m : Memory) → Goes w most (status_of values m) (Back w [] m values) []
    status_goes most (Word n ∷ []) m = ended most n m
    status_goes most [] m = goes_stuck w _ _ most
    status_goes most (Blank ∷ []) m = goes_stuck w _ _ most
    status_goes most (Null ∷ []) m = goes_stuck w _ _ most
    status_goes most (Pointer s b ∷ []) m = goes_stuck w _ _ most
    status_goes most (Birth d ∷ []) m = goes_stuck w _ _ most
    status_goes most (Word n ∷ u ∷ vs) m = goes_stuck w _ _ most
    status_goes most (Blank ∷ u ∷ vs) m = goes_stuck w _ _ most
    status_goes most (Null ∷ u ∷ vs) m = goes_stuck w _ _ most
    status_goes most (Pointer s b ∷ u ∷ vs) m = goes_stuck w _ _ most
    status_goes most (Birth d ∷ u ∷ vs) m = goes_stuck w _ _ most

  abbrev pub program : Step
  program = core.called w.functions (invoke main []) status_of memory

  -- The machine does what the program does, on each input of bytes on which it is never out of order, over every store.
  pub program_does : (s : Machine) → IsStart w main ds offsets s → (input : List ℕ) → AreBytes input
      → ((fuel : ℕ) → (core_run w.functions fuel program input).ending ≢ SourceEnding.Stuck)
      → Implements w.bound w.areas (state_of s) input (record {
        events = λ fuel. named w.names (core_run w.functions fuel program input).events;
        ending = λ fuel. (core_run w.functions fuel program input).ending;
      })
  program_does s start input bytes sound =
      let has = start.stub.2.2 in
      implements w s input bytes program (IsStart w main ds offsets) start
      (λ k. goes_from w (IsStart w main ds offsets) [] k program (Calling w main [] memory []) calls_main
      (bodies_go w order each k main [] status_of memory [] (λ values m. status_goes has k values m))) sound start.fresh
