-- What the code of a copy does.
use Rattle.std.specs.Prelude.{nat_eq, length, if◌then◌else◌}
use Rattle.std.proofs.Common.{
  ◌≡◌,
  ℕ,
  suc,
  ◌+◌,
  ◌-◌,
  ◌*◌,
  ◌/◌,
  ◌%◌,
  ◌^◌,
  ◌<◌,
  ◌≤◌,
  ◌⊎◌,
  inl,
  inr,
  ⊎_elim,
  Bool,
  true,
  false,
  List,
  [],
  ◌∷◌,
  ◌++◌,
  Some,
  refl,
  sym,
  ap,
  subst,
  ◌∙◌,
  arith,
}
use Rattle.std.proofs.lemmas.Bool.{and_parts, eqb-true, eqb-false, cases_lt}
use Rattle.std.proofs.lemmas.Option.{same_Some}
use Rattle.cyc_words.specs.Words.{sum_of}
use Rattle.rv32_machine.specs.State.{Areas, word_at}
use Rattle.core_lines.specs.Frames.{slot_of}
use Rattle.core_meaning.specs.Memory.{Spot, Pointer, Part, Layout, Memory, is_live, beyond}
use Rattle.core_meaning.specs.Operations.{are_laid, are_elements, is_there, same_object, content_from, copied}
use Rattle.core_meaning.proofs.Wholes.{IsAmong, IsCopy, elements_in, one_element, copied_cases}
use Rattle.core_lines.specs.declared.line.Line.{Line}
use Rattle.core_lines.specs.Machines.{Machine, Store}
use Rattle.core_lines.specs.Lines.{code_length}
use Rattle.core_lines.specs.Loops.{are_words, copy_loop}
use Rattle.core_lines.specs.Selected.{further_code}
use Rattle.core_lines.specs.Lies.{Maps, Shows, Points, read, Activation, Cell, PartLies, Fits}
use Rattle.core_meaning.specs.Layouts.{IsLayout, IsFull}
use Rattle.core_lines.proofs.memory.Relations.{Moves, World, IsInOrder, Has, Waiting, At, IsKept}
use Rattle.core_lines.proofs.memory.Moving.{Reach, Comes, comes_then, comes_as}
use Rattle.core_lines.proofs.Steps.{state_at}
use Rattle.core_lines.proofs.memory.Storing.{live_lasts}
use Rattle.core_lines.proofs.memory.Access.{written_out}
use Rattle.core_lines.proofs.frames.Passing.{has_first, has_second}
use Rattle.core_lines.proofs.operations.Registers.{in_turn, knows, at_of}
use Rattle.core_lines.proofs.operations.Operations.{Here, With, Loaded, loading, temp_shown, loads_both}
use Rattle.core_lines.proofs.Offsets.{further_into}
use Rattle.core_lines.proofs.operations.Filling.{unit_size, read_on}
use Rattle.core_lines.proofs.operations.ByteLoops.{turn_count, copies}
use Rattle.core_lines.proofs.operations.Covering.{unit_allowed, object_below, objects_apart, whole_units}
use Rattle.core_lines.proofs.operations.Refilling.{Stays_part, Renewed, refilled_at}

-- ---- what a copied part shows

module _ (n : Areas) (m : Maps) (fs : List Activation) (mem : Memory) (bytes : ℕ → ℕ) (st : Store) (fits : Fits n m fs mem bytes st)
    (l : Layout) (s t : Spot) (b c base : ℕ) (there : are_elements mem s b l 1 ≡ true) (there' : are_elements mem t c l 1 ≡ true)
    (known : m.base t.region t.object ≡ Some base) (live : is_live (mem.standing t.region) ≡ true) where
  abbrev source : ℕ → ℕ
  source j = bytes (base + c + j)

  pub copied_part : (u : Spot) (j : ℕ) (p : Part) → (copied l s t mem).parts u j ≡ Some p → Stays_part mem l 1 s u j p ⊎ Renewed m mem l 1 s source u j p
  copied_part u j p e = ⊎_elim
      (λ (kept : (mem.parts u j ≡ Some p) × (IsAmong l 1 s u j → ⊥)). inl (record { was = kept.0; other = kept.1 }))
      (λ (copy : IsCopy l s t mem u j p). inr (renewed copy))
      (copied_cases l s t mem u j p e)
    where
      renewed : IsCopy l s t mem u j p → Renewed m mem l 1 s source u j p
      renewed copy =
          let a = copy.among in
          let mine = elements_in mem s b l 1 there a.element a.cell j a.shape a.within a.has in
          let other = elements_in mem t c l 1 there' a.element a.cell j a.shape a.within a.has in
          let q = other.part in
          let p_is : (record copy.old { content = q.content }) ≡ p =
          same_Some (record copy.old { content = q.content }) p (sym (ap (λ o. content_from copy.old o) other.is) ∙ copy.now) in
          let old_is : copy.old ≡ mine.part = same_Some copy.old mine.part (sym copy.was ∙ ap (λ (v : Spot). mem.parts v j) a.there ∙ mine.is) in
          let width : p.width ≡ q.width =
          sym (ap (λ (r : Part). r.width) p_is) ∙ ap (λ (r : Part). r.width) old_is ∙ mine.width ∙ sym other.width in
          let o = a.element * l.bytes + a.shape.offset in
          let begins = other.offset in
          let at : base + q.offset ≡ base + c + o = omega (arith, begins) in
          let lies : PartLies m mem (beyond t (a.element * length l.cells + a.cell)) j (base + q.offset) q.width q.content = record {
            base = base;
            offset = q.offset;
            known = known;
            there = refl;
            has = other.is;
            lasts = live_lasts (mem.standing t.region) live;
          } in
          record {
            among = a;
            old = copy.old;
            was = copy.was;
            same_offset = sym (ap (λ (r : Part). r.offset) p_is);
            same_width = sym (ap (λ (r : Part). r.width) p_is);
            shows = subst (λ k. Shows m p.content (read source o k)) (sym width)
                (subst (λ v. Shows m v (read source o q.width)) (ap (λ (r : Part). r.content) p_is)
                (subst (λ z. Shows m q.content z) (sym (read_on bytes (base + c) o q.width))
                (subst (λ k. Shows m q.content (read bytes k q.width)) at
                (fits.shows (Cell (beyond t (a.element * length l.cells + a.cell)) j) (base + q.offset) q.width q.content lies))));
          }

-- ---- the code

module _ (w : World) (order : IsInOrder w) (x : Waiting) (outer : List Waiting) (mem : Memory) (l : Layout) (layout : IsLayout l) (full : IsFull l)
    (s t : Spot) (b c : ℕ) (there : is_there mem l s b ≡ true) (there' : is_there mem l t c ≡ true) (two : same_object s t ≡ false) where
  live : is_live (mem.standing s.region) ≡ true
  live = (and_parts (is_live (mem.standing s.region)) (are_laid mem s b l.cells) there).0

  live' : is_live (mem.standing t.region) ≡ true
  live' = (and_parts (is_live (mem.standing t.region)) (are_laid mem t c l.cells) there').0

  one : are_elements mem s b l 1 ≡ true
  one = one_element mem s b l (and_parts (is_live (mem.standing s.region)) (are_laid mem s b l.cells) there).1

  one' : are_elements mem t c l 1 ≡ true
  one' = one_element mem t c l (and_parts (is_live (mem.standing t.region)) (are_laid mem t c l.cells) there').1

  -- x5 and x6 have the pointers
  abbrev Pointed : Maps → (ℕ → ℕ) → Type 0
  Pointed m registers = Points m s b (registers 5) × Points m t c (registers 6)

  abbrev Ready : Maps → (ℕ → ℕ) → Type 0
  Ready m registers = Pointed m registers × (registers 7 ≡ sum_of (registers 5) l.bytes)

  -- the loop
  loop : (words : Bool) → are_words l ≡ words → 0 < l.bytes → (place : ℕ) → Has w place (copy_loop words)
      → Comes w (With w order x outer mem Ready place) (At w x outer (copied l s t mem) (place + code_length (copy_loop words)))
  loop words are some place has = record { count = turn_count 4 (turns words); by = by }
    where
      turns : Bool → ℕ
      turns words = l.bytes / unit_size words - 1

      all_turns : (words : Bool) → l.bytes % unit_size words ≡ 0 → suc (turns words) * unit_size words ≡ 1 * l.bytes
      all_turns true whole = omega (arith, whole, some)
      all_turns false whole = omega (arith, some)

      length_is : (words : Bool) → place + 4 + 4 + 4 + 4 + 4 ≡ place + code_length (copy_loop words)
      length_is true = omega arith
      length_is false = omega arith

      by : (q : Machine) → With w order x outer mem Ready place q
          → Reach w.areas (turn_count 4 (turns words)) (At w x outer (copied l s t mem) (place + code_length (copy_loop words))) q
      by q a =
          let fs = a.frame ∷ a.others in
          let m = a.maps in
          let p = a.holds.0.0 in
          let p' = a.holds.0.1 in
          let fits = a.stands.fits in
          let at = p.at in
          let aligned = a.stands.aligned in
          let end = object_below w.areas order.statics_within order.pages_within order.stack_within order.code_within w.code q.store a.sp fs a.stands.stacked m
          mem q.bytes fits s b p.base p.known live l 1 layout full one (omega (arith, some)) in
          let sum = a.holds.1 in
          let ran = copies w order q.store a.sp q.registers words place has aligned (p.base + b) (p'.base + c) (1 * l.bytes) q.bytes
          (unit_allowed w.areas order.statics_within order.pages_within order.stack_within order.code_within w.code q.store a.sp fs a.stands.stacked m mem
          q.bytes fits s b p.base p.known live l 1 layout full one words are)
          (unit_allowed w.areas order.statics_within order.pages_within order.stack_within order.code_within w.code q.store a.sp fs a.stands.stacked m mem
          q.bytes fits t c p'.base p'.known live' l 1 layout full one' words are)
          (objects_apart w.areas m fs mem q.bytes q.store fits s b p.base p.known live t c p'.base p'.known live' l 1 full one one' two)
          (turns words) (all_turns words (whole_units l layout full words are some)) q.registers at p'.at (omega (arith, sum, at, end))
          a.stands.pointer (λ r h. refl)
          a.stands.kept a.stands.small in
          let done = ran.there in
          let behind = place + 4 + 4 + 4 + 4 + 4 in
          let next = state_at behind ran.new ran.new_bytes q.store in
          subst (λ k. Reach w.areas (turn_count 4 (turns words)) (At w x outer (copied l s t mem) k) q) (length_is words) (record {
            next = next;
            moves = subst (λ (r : Machine). Moves w.areas (turn_count 4 (turns words)) r next)
                (sym (written_out w order mem place m fs a.sp q a.stands)) ran.moves;
            there = refilled_at w order x outer mem s b live l 1 layout full one place behind q (at_of w order x outer mem place Ready q a) p.base p.known
                ran.new ran.new_bytes (λ j. q.bytes (p'.base + c + j)) (copied l s t mem).parts
                (copied_part w.areas m fs mem q.bytes q.store fits l s t b c p'.base one one' p'.known live')
                (omega (arith, aligned)) done.stay done.kept done.small done.filled;
          })

  -- all of it
  module _ (to from : ℕ) (named : to < x.fn.temporaries) (kept : IsKept w x to) (named' : from < x.fn.temporaries) (kept' : IsKept w x from)
      (is : x.config.temps to ≡ Pointer s b)
      (is' : x.config.temps from ≡ Pointer t c) where
    abbrev loads : List Line
    loads = loading w order x outer mem 5 to ++ loading w order x outer mem 6 from

    abbrev copy_lines : Bool → List Line
    copy_lines none = (if none then [] else loads ++ further_code 7 5 l.bytes ++ copy_loop (are_words l))

    -- the end is found
    ends : (place : ℕ) → 0 < l.bytes → Has w place (further_code 7 5 l.bytes)
        → Comes w (With w order x outer mem Pointed place) (With w order x outer mem Ready (place + code_length (further_code 7 5 l.bytes)))
    ends place some has = ⊎_elim
        (λ (less : l.bytes < 2 ^ 32). further_into w order x outer mem 6 l.bytes place Pointed Ready refl less has (λ m new old seven stay h.
        let five = stay 5 refl refl in
        let six = stay 6 refl refl in (
          (subst (λ v. Points m s b v) (sym five) h.0, subst (λ v. Points m t c v) (sym six) h.1),
          seven ∙ ap (λ v. sum_of v l.bytes) (sym five),
        )))
        (λ (more : 2 ^ 32 ≤ l.bytes). record {
          count = 0;
          by = λ q a.
              let p = a.holds.0 in
              let end = object_below w.areas order.statics_within order.pages_within order.stack_within order.code_within w.code q.store a.sp
              (a.frame ∷ a.others) a.stands.stacked a.maps mem q.bytes a.stands.fits s b p.base p.known live l 1 layout full one (omega (arith, some)) in
              absurd (omega (arith, end, more));
        })
        (cases_lt l.bytes (2 ^ 32))

    pub copy : (place : ℕ) → Has w place (copy_lines (nat_eq l.bytes 0))
        → Comes w (Here w order x outer mem place) (At w x outer (copied l s t mem) (place + code_length (copy_lines (nat_eq l.bytes 0))))
    copy place has = by (nat_eq l.bytes 0) refl has
      where
        by : (none : Bool) → nat_eq l.bytes 0 ≡ none → Has w place (copy_lines none)
            → Comes w (Here w order x outer mem place) (At w x outer (copied l s t mem) (place + code_length (copy_lines none)))
        by true none has = comes_as w _ _ (λ q a.
            let nothing = eqb-true l.bytes 0 none in
            let p : Points a.maps s b (word_at q.bytes (a.sp + 4 * slot_of x.fn.passed to)) =
            subst (λ v. Shows a.maps v (word_at q.bytes (a.sp + 4 * slot_of x.fn.passed to))) is (temp_shown w order x outer mem to place q a named kept) in
            let p' : Points a.maps t c (word_at q.bytes (a.sp + 4 * slot_of x.fn.passed from)) =
            subst (λ v. Shows a.maps v (word_at q.bytes (a.sp + 4 * slot_of x.fn.passed from))) is'
            (temp_shown w order x outer mem from place q a named' kept') in
            let here : place ≡ place + 0 = omega arith in
            let fs = a.frame ∷ a.others in
            subst (λ k. At w x outer (copied l s t mem) k q) here
            (subst (λ (r : Machine). At w x outer (copied l s t mem) place r) (sym (written_out w order mem place a.maps fs a.sp q a.stands))
            (refilled_at w order x outer mem s b live l 1 layout full one place place q a p.base p.known q.registers q.bytes
            (λ j. q.bytes (p'.base + c + j)) (copied l s t mem).parts
            (copied_part w.areas a.maps fs mem q.bytes q.store a.stands.fits l s t b c p'.base one one' p'.known live')
            a.stands.aligned (λ r h. refl) a.stands.kept a.stands.small
            (record { inside = λ i less. absurd (omega (arith, less, nothing)); outside = λ r far. refl }))))
        by false some has =
            let second = further_code 7 5 l.bytes in
            let third = copy_loop (are_words l) in
            let positive : 0 < l.bytes = (let other = eqb-false l.bytes 0 some in omega (arith, other)) in
            in_turn w (Here w order x outer mem place) (With w order x outer mem Ready) (λ k. At w x outer (copied l s t mem) k) place (loads ++ second) third
            (in_turn w (Here w order x outer mem place) (With w order x outer mem Pointed) (With w order x outer mem Ready) place loads second
            (comes_then w _ _ _
            (loads_both w order x outer mem to from place named kept named' kept'
            (has_first w place loads second (has_first w place (loads ++ second) third has)))
            (comes_as w _ _ (λ q a. knows w order x outer mem (place + code_length loads)
            (Loaded w order x outer mem (x.config.temps to) (x.config.temps from)) Pointed q (λ m registers h. (
              subst (λ v. Shows m v (registers 5)) is h.0.0,
              subst (λ v. Shows m v (registers 6)) is' h.1.0,
            )) a)))
            (ends (place + code_length loads) positive (has_second w place loads second (has_first w place (loads ++ second) third has))))
            (loop (are_words l) refl positive (place + code_length (loads ++ second)) (has_second w place (loads ++ second) third has))
