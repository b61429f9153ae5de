-- What the code of operations on parts of objects does: through pointers, in objects of a frame, and their addresses.
use Rattle.std.specs.Prelude.{if◌then◌else◌}
use Rattle.std.proofs.Common.{◌≡◌, ℕ, ◌+◌, ◌^◌, ◌<◌, Bool, true, false, List, [], ◌∷◌, ◌++◌, Some, refl, sym, ap, subst, ◌∙◌, arith}
use Rattle.cyc_words.specs.Words.{word, sum_of}
use Rattle.rv32_isa.specs.declared.instruction.Instr.TheVariants as instr
use Rattle.rv32_machine.specs.State.{set_register}
use Rattle.core_meaning.specs.Memory.{Region, Spot, Content, Pointer, Part, Memory, is_live}
use Rattle.core_lines.specs.Machines.{Machine}
use Rattle.core_lines.specs.Lies.{Maps, Shows, Points, Activation}
use Rattle.core_lines.specs.declared.line.Line.{Line}
use Rattle.core_lines.specs.declared.line.Line.TheVariants.{Plain}
use Rattle.core_lines.specs.Lines.{code_length}
use Rattle.core_lines.specs.Frames.{is_short, lower_of, word_code}
use Rattle.core_lines.specs.Held.{Holding, without_register, result_index, result_register, with_result}
use Rattle.core_lines.specs.Operands.{operand_in, operand_code, keep_code, stored_in, stored_code}
use Rattle.core_lines.specs.Selected.{address_code, read_code, write_code}
use Rattle.core_lines.proofs.memory.Relations.{World, IsInOrder, Has, Waiting, Follows, keeping, back_of, FrameShows}
use Rattle.core_lines.proofs.memory.Moving.{Comes, comes_then, comes_as}
use Rattle.core_lines.proofs.memory.Slots.{Kept, set_here, set_there}
use Rattle.core_lines.proofs.memory.Words.{short_word}
use Rattle.core_lines.proofs.memory.Fitting.{below_end}
use Rattle.core_lines.proofs.homes.Homes.{other_register}
use Rattle.core_lines.proofs.frames.Passing.{has_first, has_second}
use Rattle.core_lines.proofs.operations.Holding.{having, Stable, InOperand, result_stays, operand_some, there_kept, there_without}
use Rattle.core_lines.proofs.operations.Registers.{
  AtWith,
  AtHolding,
  InRegister,
  AreThere,
  IsServed,
  in_turn,
  knows,
  puts,
  puts_into,
  with_there,
  as_holding,
  now_known,
  result_into,
  brings,
}
use Rattle.core_lines.proofs.operations.Reaching.{Reaches, Far, operand_not_7, reads}
use Rattle.core_lines.proofs.operations.Writing.{stored, writes}
use Rattle.core_lines.proofs.operations.Stored.{InStored, stored_stays, stores_alone, stores_behind}
use Rattle.core_lines.proofs.Offsets.{Midway}

module _ (w : World) (order : IsInOrder w) (x : Waiting) (outer : List Waiting) (mem : Memory) (hs : List Holding) where
  -- what is known before, and behind what puts a value into a result's register
  abbrev Known : Maps → (ℕ → ℕ) → Type 0
  Known m registers = AreThere hs x.config.temps m registers

  abbrev Left : ℕ → Maps → (ℕ → ℕ) → Type 0
  Left t m registers = AreThere (without_register (result_register t) hs) x.config.temps m registers

  abbrev Resulting : ℕ → Content → Maps → (ℕ → ℕ) → Type 0
  Resulting t v m registers = InRegister (result_register t) v m registers × Left t m registers

  left : (t : ℕ) (m : Maps) (new old : ℕ → ℕ) → Kept (result_register t) new old → Known m old → Left t m new
  left t m new old kept there = there_without (result_index t) hs x.config.temps m new old kept there

  -- a word to be stored, and what is known
  abbrev Valued : ℕ → Maps → (ℕ → ℕ) → Type 0
  Valued y m registers = InStored (stored_in hs 6 y) (x.config.temps y) m registers × Known m registers

  valued_stays : (y : ℕ) → Stable 7 (Valued y)
  valued_stays y m new old kept h = (
    stored_stays (stored_in hs 6 y) (x.config.temps y) m new old kept h.0,
    there_kept 6 hs x.config.temps refl m new old kept h.1,
  )

  abbrev operand : ℕ → ℕ → List Line
  operand spare t = operand_code x.fn.passed hs spare t

  abbrev value : ℕ → List Line
  value y = stored_code x.fn.passed hs 6 y

  abbrev kept_lines : Bool → ℕ → List Line
  kept_lines keeps t = keep_code keeps x.fn.passed (result_register t) t

  -- all that was known is, behind what stores
  holds_on : (mem' : Memory) (y place end : ℕ) → Comes w (AtWith w x outer mem place Known) (AtWith w x outer mem' end (Valued y))
      → Comes w (AtHolding w x outer mem place hs) (AtHolding w x outer mem' end hs)
  holds_on mem' y place end comes =
      comes_then w _ _ _ (comes_as w (AtHolding w x outer mem place hs) (AtWith w x outer mem place Known) (with_there w x outer mem place hs))
      (comes_then w _ _ _ comes
      (comes_as w (AtWith w x outer mem' end (Valued y)) (AtHolding w x outer mem' end hs)
      (λ q a. as_holding w x outer mem' end hs q (knows w order x outer mem' end (Valued y) Known q (λ m registers h. h.1) a))))

  -- ---- through pointers

  module _ (there : Spot) (j : ℕ) (part : Part) (is : mem.parts there j ≡ Some part) (live : is_live (mem.standing there.region) ≡ true)
      (s : Spot) (b off : ℕ) (region : there.region ≡ s.region) (object : there.object ≡ s.object) (offset : part.offset ≡ b + off) where
    -- the pointer's part is so many bytes on
    pointed : (m : Maps) (at : ℕ) → Points m s b at → Reaches m there part (at + off)
    pointed m at p =
        let there_is = p.at in
        record {
          base = p.base;
          known = ap (λ r. m.base r there.object) region ∙ ap (λ o. m.base s.region o) object ∙ p.known;
          place = omega (arith, there_is, offset);
        }

    -- it lies on from the pointer's register
    abbrev OnFrom : ℕ → (Maps → (ℕ → ℕ) → Type 0) → Maps → (ℕ → ℕ) → Type 0
    OnFrom p = Far w order x outer mem there j part is live (operand_in hs 5 p) off

    on_from : (p : ℕ) (Q : Maps → (ℕ → ℕ) → Type 0) (m : Maps) (registers : ℕ → ℕ) → x.config.temps p ≡ Pointer s b
        → InOperand 5 (operand_in hs 5 p) (x.config.temps p) m registers → Q m registers → OnFrom p Q m registers
    on_from p Q m registers points here more = (
      pointed m (registers (operand_in hs 5 p)) (subst (λ v. Shows m v (registers (operand_in hs 5 p))) points here.0.0),
      operand_not_7 5 (operand_in hs 5 p) refl here.1,
      more,
    )

    abbrev load_lines : Bool → ℕ → ℕ → List Line
    load_lines keeps t p = operand 5 p ++ read_code (result_register t) part.width (operand_in hs 5 p) off ++ kept_lines keeps t

    pub load : (keeps : Bool) (after : List Bool) (t : ℕ) → t < x.fn.temporaries → Follows keeps (t ∷ []) x.kept after → (p place : ℕ) → p < x.fn.temporaries
        → IsServed w x hs p → x.config.temps p ≡ Pointer s b → Has w place (load_lines keeps t p)
        → Comes w (AtHolding w x outer mem place hs)
        (AtHolding w (keeping after (having t part.content x)) outer mem (place + code_length (load_lines keeps t p)) (with_result t hs))
    load keeps after t named follows p place named' served points has =
        let first = operand 5 p in
        let second = read_code (result_register t) part.width (operand_in hs 5 p) off in
        result_into w order x outer mem keeps after t place part.content hs (first ++ second) named follows has (λ has.
        in_turn w (AtWith w x outer mem place Known) (λ q. AtWith w x outer mem q (OnFrom p Known))
        (λ q. AtWith w x outer mem q (Resulting t part.content)) place first second
        (now_known w order x outer mem (place + code_length first) _ _ (OnFrom p Known) (λ m registers h. on_from p Known m registers points h.0 h.1)
        (brings w order x outer mem 4 p place hs named' served refl (has_first w place first second has)))
        (reads w order x outer mem there j part is live (result_index t) (operand_in hs 5 p) off (place + code_length first) Known (Left t) (result_stays t)
        (operand_some hs 4 p) (there_kept 6 hs x.config.temps refl) (left t) (has_second w place first second has)))

    abbrev store_lines : ℕ → ℕ → List Line
    store_lines p y = operand 5 p ++ value y ++ write_code (stored_in hs 6 y) part.width (operand_in hs 5 p) off

    pub store : (p y place : ℕ) → p < x.fn.temporaries → y < x.fn.temporaries → IsServed w x hs p → IsServed w x hs y → x.config.temps p ≡ Pointer s b
        → Has w place (store_lines p y)
        → Comes w (AtHolding w x outer mem place hs)
        (AtHolding w x outer (stored w order x outer mem there j part is live (x.config.temps y)) (place + code_length (store_lines p y)) hs)
    store p y place named named' served served' points has =
        let first = operand 5 p ++ value y in
        let second = write_code (stored_in hs 6 y) part.width (operand_in hs 5 p) off in
        let mem' = stored w order x outer mem there j part is live (x.config.temps y) in
        holds_on mem' y place (place + code_length (first ++ second))
        (in_turn w (AtWith w x outer mem place Known) (λ q. AtWith w x outer mem q (OnFrom p (Valued y)))
        (λ q. AtWith w x outer mem' q (Valued y)) place first second
        (now_known w order x outer mem (place + code_length first) _ _ (OnFrom p (Valued y))
        (λ m registers h. on_from p (Valued y) m registers points h.0 (h.1, h.2))
        (stores_behind w order x outer mem hs p y place named named' served served' (has_first w place first second has)))
        (writes w order x outer mem there j part is live (x.config.temps y) (stored_in hs 6 y) (operand_in hs 5 p) off (place + code_length first) (Valued y)
        (operand_some hs 4 p) (valued_stays y) (λ m registers h. h.0.0) (has_second w place first second has)))

  -- ---- objects of a frame: locals, and temporary objects

  module _ (region : Region) (object off : ℕ) (few : off < 2 ^ 25)
      (lies : (m : Maps) (a : Activation) → FrameShows w m x (back_of w outer) a → m.base region object ≡ Some (a.at + off)) where
    abbrev first_spot : Spot
    first_spot = record { region = region; object = object; cell = 0 }

    -- the object's address
    record Addressed (m : Maps) (registers : ℕ → ℕ) : Type 0 where
      pub known : m.base region object ≡ Some (registers 2 + off)
      pub small : registers 2 + off < 2 ^ 32
      pub positive : 0 < registers 2

    addressed : (place : ℕ) (P : Maps → (ℕ → ℕ) → Type 0) (s : Machine) (a : AtWith w x outer mem place P s) → Addressed a.maps s.registers
    addressed place P s a =
        let pointer = a.stands.pointer in
        let laid = a.stands.stacked.0 in
        let there = laid.there in
        let low = laid.low in
        let high = below_end w.areas a.sp (a.frame ∷ a.others) a.stands.stacked in
        record {
          known = lies a.maps a.frame a.shows ∙ (let e : a.frame.at + off ≡ s.registers 2 + off = omega (arith, there, pointer) in ap (λ q. Some q) e);
          small = (let within = order.stack_within in omega (arith, pointer, high, few, within));
          positive = omega (arith, pointer, low);
        }

    knows_object : (place : ℕ) (P Q : Maps → (ℕ → ℕ) → Type 0) → ((m : Maps) (registers : ℕ → ℕ) → Addressed m registers → P m registers → Q m registers)
        → Comes w (AtWith w x outer mem place P) (AtWith w x outer mem place Q)
    knows_object place P Q f = comes_as w _ _ (λ s a. record {
      maps = a.maps;
      frame = a.frame;
      others = a.others;
      sp = a.sp;
      stands = a.stands;
      shows = a.shows;
      stack = a.stack;
      holds = f a.maps s.registers (addressed place P s a) a.holds;
    })

    module _ (part : Part) (is : mem.parts (first_spot) 0 ≡ Some part) (live : is_live (mem.standing region) ≡ true) (offset : part.offset ≡ 0) where
      abbrev Within : (Maps → (ℕ → ℕ) → Type 0) → Maps → (ℕ → ℕ) → Type 0
      Within = Far w order x outer mem (first_spot) 0 part is live 2 off

      in_frame : (Q : Maps → (ℕ → ℕ) → Type 0) (m : Maps) (registers : ℕ → ℕ) → Addressed m registers → Q m registers → Within Q m registers
      in_frame Q m registers a h = (record { base = registers 2 + off; known = a.known; place = omega (arith, offset) }, refl, h)

      abbrev get_lines : Bool → ℕ → List Line
      get_lines keeps t = read_code (result_register t) part.width 2 off ++ kept_lines keeps t

      pub get : (keeps : Bool) (after : List Bool) (t : ℕ) → t < x.fn.temporaries → Follows keeps (t ∷ []) x.kept after → (place : ℕ)
          → Has w place (get_lines keeps t)
          → Comes w (AtHolding w x outer mem place hs)
          (AtHolding w (keeping after (having t part.content x)) outer mem (place + code_length (get_lines keeps t)) (with_result t hs))
      get keeps after t named follows place has =
          result_into w order x outer mem keeps after t place part.content hs (read_code (result_register t) part.width 2 off) named follows has (λ has.
          comes_then w _ _ _ (knows_object place Known (Within Known) (in_frame Known))
          (reads w order x outer mem (first_spot) 0 part is live (result_index t) 2 off place Known (Left t) (result_stays t) (1, refl)
          (there_kept 6 hs x.config.temps refl) (left t) has))

      abbrev put_lines : ℕ → List Line
      put_lines y = value y ++ write_code (stored_in hs 6 y) part.width 2 off

      pub put : (y place : ℕ) → y < x.fn.temporaries → IsServed w x hs y → Has w place (put_lines y)
          → Comes w (AtHolding w x outer mem place hs)
          (AtHolding w x outer (stored w order x outer mem (first_spot) 0 part is live (x.config.temps y)) (place + code_length (put_lines y)) hs)
      put y place named served has =
          let first = value y in
          let second = write_code (stored_in hs 6 y) part.width 2 off in
          let mem' = stored w order x outer mem (first_spot) 0 part is live (x.config.temps y) in
          holds_on mem' y place (place + code_length (first ++ second))
          (in_turn w (AtWith w x outer mem place Known) (λ q. AtWith w x outer mem q (Within (Valued y)))
          (λ q. AtWith w x outer mem' q (Valued y)) place first second
          (comes_then w _ _ _ (stores_alone w order x outer mem hs y place named served (has_first w place first second has))
          (knows_object (place + code_length first) (Valued y) (Within (Valued y)) (in_frame (Valued y))))
          (writes w order x outer mem (first_spot) 0 part is live (x.config.temps y) (stored_in hs 6 y) 2 off (place + code_length first) (Valued y)
          (1, refl) (valued_stays y) (λ m registers h. h.0.0) (has_second w place first second has)))

    -- the address, into a result's register
    module _ (t : ℕ) where
      abbrev own : ℕ
      own = result_register t

      abbrev v : Content
      v = Pointer (first_spot) 0

      abbrev Ready : Maps → (ℕ → ℕ) → Type 0
      Ready m registers = Addressed m registers × Known m registers

      -- what was in the registers before, and what is in them where the result's has the address
      shows_address : (m : Maps) (registers old : ℕ → ℕ) (value : ℕ) → Ready m old → value ≡ old 2 + off → Kept own registers old
          → Resulting t v m (set_register own value registers)
      shows_address m registers old value h same kept =
          let small = h.0.small in
          let positive = h.0.positive in (
            subst (λ n. Shows m v n × (n < 2 ^ 32)) (sym (set_here (result_index t) value registers)) (
              record { base = old 2 + off; known = h.0.known; at = omega (arith, same); positive = omega (arith, same, positive) },
              omega (arith, same, small),
            ),
            left t m (set_register own value registers) old (λ q not7 other. set_there own value q registers other ∙ kept q not7 other) h.1,
          )

      abbrev address_lines : Bool → List Line
      address_lines short = (if short then Plain (instr.Addi own 2 (lower_of off)) ∷ [] else word_code own off ++ (Plain (instr.Add own own 2) ∷ []))

      address_as : (short : Bool) → is_short off ≡ short → (place : ℕ) → Has w place (address_lines short)
          → Comes w (AtWith w x outer mem place Ready) (AtWith w x outer mem (place + code_length (address_lines short)) (Resulting t v))
      address_as true short place has =
          puts w order x outer mem (result_index t) place Ready (Resulting t v) (instr.Addi own 2 (lower_of off))
          (λ registers. sum_of (registers 2) (word (lower_of off))) (result_stays t) has.0.0 (λ r b st n. refl) (λ _. tt)
          (λ m registers h.
          let small = h.0.small in
          let same = short_word off short (omega (arith, small)) in
          shows_address m registers registers (sum_of (registers 2) (word (lower_of off))) h (omega (arith, same, small)) (λ q not7 other. refl))
      address_as false long place has =
          let first = word_code own off in
          let last : List Line = Plain (instr.Add own own 2) ∷ [] in
          let end : place + 8 + 4 ≡ place + code_length (first ++ last) = omega arith in
          subst (λ p. Comes w (AtWith w x outer mem place Ready) (AtWith w x outer mem p (Resulting t v))) end
          (comes_then w _ _ _
          (puts_into w order x outer mem (result_index t) off place Ready (Midway own off Ready) (omega (arith, few)) (result_stays t)
          (has_first w place first last has)
          (λ m new old is kept h. record { old = old; holds = is; kept = kept; before = h }))
          (puts w order x outer mem (result_index t) (place + 8) (Midway own off Ready) (Resulting t v) (instr.Add own own 2)
          (λ registers. sum_of (registers own) (registers 2)) (result_stays t) (has_second w place first last has).0.0 (λ r b st n. refl) (λ _. tt)
          (λ m registers h.
          let small = h.before.0.small in
          let same = h.holds in
          let two = h.kept 2 refl (other_register own 2 (result_stays t) refl) in
          shows_address m registers h.old (sum_of (registers own) (registers 2)) h.before (omega (arith, same, two, small)) h.kept)))

      pub object_address : (keeps : Bool) (after : List Bool) → t < x.fn.temporaries → Follows keeps (t ∷ []) x.kept after → (place : ℕ)
          → Has w place (address_code own off ++ kept_lines keeps t)
          → Comes w (AtHolding w x outer mem place hs)
          (AtHolding w (keeping after (having t v x)) outer mem (place + code_length (address_code own off ++ kept_lines keeps t)) (with_result t hs))
      object_address keeps after named follows place has =
          result_into w order x outer mem keeps after t place v hs (address_code own off) named follows has (λ has.
          comes_then w _ _ _ (knows_object place Known Ready (λ m registers a h. (a, h))) (address_as (is_short off) refl place has))
