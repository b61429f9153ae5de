-- What the code of a clear does.
use Rattle.std.specs.Prelude.{nat_eq, if◌then◌else◌}
use Rattle.std.proofs.Common.{◌≡◌, ℕ, suc, ◌+◌, ◌-◌, ◌*◌, ◌/◌, ◌%◌, ◌^◌, ◌<◌, ◌≤◌, ◌⊎◌, inl, inr, ⊎_elim, Bool, true, false, List, [], ◌∷◌, ◌++◌, Some, refl}
use Rattle.std.proofs.Common.{sym, ap, subst, ◌∙◌, arith}
use Rattle.std.proofs.lemmas.Bool.{eqb-true, eqb-false, cases_lt}
use Rattle.cyc_words.specs.Words.{sum_of}
use Rattle.rv32_machine.specs.State.{word_at}
use Rattle.core_meaning.specs.Memory.{Spot, Content, Blank, Word, Null, Pointer, Birth, Part, Layout, Memory, is_live}
use Rattle.core_meaning.specs.Operations.{are_elements, cleared}
use Rattle.core_meaning.proofs.Wholes.{IsAmong, IsCleared, cleared_cases}
use Rattle.core_lines.specs.declared.line.Line.{Line}
use Rattle.core_lines.specs.Machines.{Machine}
use Rattle.core_lines.specs.Lines.{code_length}
use Rattle.core_lines.specs.Frames.{slot_of}
use Rattle.core_lines.specs.Loops.{are_words, clear_loop}
use Rattle.core_lines.specs.Selected.{further_code, bytes_in}
use Rattle.core_lines.specs.Lies.{Maps, Shows, Points, read}
use Rattle.core_meaning.specs.Layouts.{IsLayout, IsFull, IsNothing, IsZero}
use Rattle.core_lines.proofs.memory.Relations.{Moves, World, IsInOrder, Has, Waiting, At, IsKept}
use Rattle.core_lines.proofs.memory.Moving.{Reach, Comes, comes_then, comes_as}
use Rattle.core_lines.proofs.Steps.{state_at}
use Rattle.core_lines.proofs.memory.Access.{written_out}
use Rattle.core_lines.proofs.frames.Passing.{has_first, has_second}
use Rattle.core_lines.proofs.operations.Registers.{InRegister, in_turn, knows, at_of}
use Rattle.core_lines.proofs.operations.Operations.{Here, With, loading, temp_shown, loads_into}
use Rattle.core_lines.proofs.Offsets.{further_into}
use Rattle.core_lines.proofs.operations.Filling.{unit_size}
use Rattle.core_lines.proofs.operations.ByteLoops.{turn_count, clears}
use Rattle.core_lines.proofs.operations.Covering.{multiple_of_four, whole_units, unit_allowed, object_below}
use Rattle.core_lines.proofs.operations.Refilling.{Stays_part, Renewed, refilled_at}

-- ---- what a cleared part shows

abbrev zeros : ℕ → ℕ
zeros j = 0

read_zeros : (o width : ℕ) → read zeros o width ≡ 0
read_zeros o width = by (nat_eq width 1)
  where
    by : (one : Bool) → (if one then zeros o else word_at zeros o) ≡ 0
    by true = refl
    by false = refl

nothing_shows : (m : Maps) (v : Content) → IsNothing v → Shows m v 0
nothing_shows m (Word n) e = sym e
nothing_shows m Null e = refl
nothing_shows m Blank e = tt
nothing_shows m (Pointer s b) e = absurd e
nothing_shows m (Birth d) e = absurd e

cleared_part : (m : Maps) (mem : Memory) (l : Layout) (count : ℕ) (s : Spot) → IsZero l → (u : Spot) (j : ℕ) (p : Part)
    → (cleared l count s mem).parts u j ≡ Some p
    → Stays_part mem l count s u j p ⊎ Renewed m mem l count s zeros u j p
cleared_part m mem l count s zero u j p e = ⊎_elim
    (λ (kept : (mem.parts u j ≡ Some p) × (IsAmong l count s u j → ⊥)). inl (record { was = kept.0; other = kept.1 }))
    (λ (clear : IsCleared l count s mem u j p). let a = clear.among in inr (record {
      among = a;
      old = clear.old;
      was = clear.was;
      same_offset = ap (λ (r : Part). r.offset) clear.now;
      same_width = ap (λ (r : Part). r.width) clear.now;
      shows = subst (λ z. Shows m p.content z) (sym (read_zeros (a.element * l.bytes + a.shape.offset) p.width))
          (subst (λ v. Shows m v 0) (sym (ap (λ (r : Part). r.content) clear.now))
          (nothing_shows m a.shape.first (zero.nothing a.cell j a.shape (record { is = a.has }))));
    }))
    (cleared_cases l count s mem u j p e)

-- ---- the code

module _ (w : World) (order : IsInOrder w) (x : Waiting) (outer : List Waiting) (mem : Memory) (l : Layout) (layout : IsLayout l) (full : IsFull l)
    (zero : IsZero l) (count : ℕ) (s : Spot) (b : ℕ) (live : is_live (mem.standing s.region) ≡ true) (there : are_elements mem s b l count ≡ true) where
  -- x5 has the pointer
  abbrev Pointed : Maps → (ℕ → ℕ) → Type 0
  Pointed m registers = Points m s b (registers 5)

  abbrev Ready : Maps → (ℕ → ℕ) → Type 0
  Ready m registers = Pointed m registers × (registers 7 ≡ sum_of (registers 5) (bytes_in l count))

  -- the bytes are as many as their word says
  below : (place : ℕ) (q : Machine) (a : At w x outer mem place q) (base : ℕ) → a.maps.base s.region s.object ≡ Some base → 0 < count * l.bytes
      → base + b + count * l.bytes < 2 ^ 32
  below place q a base known some =
      object_below w.areas order.statics_within order.pages_within order.stack_within order.code_within w.code q.store a.sp (a.frame ∷ a.others)
      a.stands.stacked
      a.maps mem q.bytes a.stands.fits s b base known live l count layout full there some

  -- the loop
  loop : (words : Bool) → are_words l ≡ words → 0 < bytes_in l count → (place : ℕ) → Has w place (clear_loop words)
      → Comes w (With w order x outer mem Ready place) (At w x outer (cleared l count s mem) (place + code_length (clear_loop words)))
  loop words are some place has = record { count = turn_count 2 (turns words); by = by }
    where
      turns : Bool → ℕ
      turns words = bytes_in l count / unit_size words - 1

      some_bytes : 0 < l.bytes
      some_bytes = ⊎_elim (λ (h : 0 < l.bytes). h)
          (λ (h : l.bytes ≤ 0).
          let none : l.bytes ≡ 0 = omega (arith, h) in
          let e : count * l.bytes ≡ 0 = ap (λ k. count * k) none ∙ omega arith in
          absurd (omega (arith, e, some)))
          (cases_lt 0 l.bytes)

      all_whole : (words : Bool) → l.bytes % unit_size words ≡ 0 → count * l.bytes % unit_size words ≡ 0
      all_whole true whole = multiple_of_four count l.bytes whole
      all_whole false whole = omega arith

      all_turns : (words : Bool) → count * l.bytes % unit_size words ≡ 0 → bytes_in l count ≡ count * l.bytes
          → suc (turns words) * unit_size words ≡ count * l.bytes
      all_turns true whole same = omega (arith, whole, same, some)
      all_turns false whole same = omega (arith, same, some)

      length_is : (words : Bool) → place + 4 + 4 + 4 ≡ place + code_length (clear_loop words)
      length_is true = omega arith
      length_is false = omega arith

      by : (q : Machine) → With w order x outer mem Ready place q
          → Reach w.areas (turn_count 2 (turns words)) (At w x outer (cleared l count s mem) (place + code_length (clear_loop words))) q
      by q a =
          let here = at_of w order x outer mem place Ready q a in
          let fs = a.frame ∷ a.others in
          let m = a.maps in
          let p = a.holds.0 in
          let at = p.at in
          let aligned = a.stands.aligned in
          let end = below place q here p.base p.known (omega (arith, some)) in
          let same : bytes_in l count ≡ count * l.bytes = omega (arith, end) in
          let sum = a.holds.1 in
          let ran = clears w order q.store a.sp q.registers words place has aligned (p.base + b) (count * l.bytes) q.bytes
          (unit_allowed w.areas order.statics_within order.pages_within order.stack_within order.code_within w.code q.store a.sp fs a.stands.stacked m mem
          q.bytes a.stands.fits s b p.base p.known live l count layout full there words are)
          (turns words) (all_turns words (all_whole words (whole_units l layout full words are some_bytes)) same) q.registers at
          (omega (arith, sum, at, end, same)) a.stands.pointer (λ r h. refl)
          a.stands.kept a.stands.small in
          let done = ran.there in
          let behind = place + 4 + 4 + 4 in
          let next = state_at behind ran.new ran.new_bytes q.store in
          subst (λ k. Reach w.areas (turn_count 2 (turns words)) (At w x outer (cleared l count s mem) k) q) (length_is words) (record {
            next = next;
            moves = subst (λ (r : Machine). Moves w.areas (turn_count 2 (turns words)) r next)
                (sym (written_out w order mem place m fs a.sp q a.stands)) ran.moves;
            there = refilled_at w order x outer mem s b live l count layout full there place behind q here p.base p.known ran.new ran.new_bytes zeros
                (cleared l count s mem).parts (cleared_part m mem l count s zero) (omega (arith, aligned)) done.stay done.kept done.small done.filled;
          })

  -- all of it
  module _ (t : ℕ) (named : t < x.fn.temporaries) (kept : IsKept w x t) (is : x.config.temps t ≡ Pointer s b) where
    abbrev loads : List Line
    loads = loading w order x outer mem 5 t

    abbrev clear_lines : Bool → List Line
    clear_lines none = (if none then [] else loads ++ further_code 7 5 (bytes_in l count) ++ clear_loop (are_words l))

    pub clear : (place : ℕ) → Has w place (clear_lines (nat_eq (bytes_in l count) 0))
        → Comes w (Here w order x outer mem place) (At w x outer (cleared l count s mem) (place + code_length (clear_lines (nat_eq (bytes_in l count) 0))))
    clear place has = by (nat_eq (bytes_in l count) 0) refl has
      where
        -- there are no bytes where their word says so
        nothing : (q : Machine) (a : At w x outer mem place q) (base : ℕ) → a.maps.base s.region s.object ≡ Some base → bytes_in l count ≡ 0
            → count * l.bytes ≡ 0
        nothing q a base known none = ⊎_elim
            (λ (h : 0 < count * l.bytes). let end = below place q a base known h in absurd (omega (arith, end, none, h)))
            (λ (h : count * l.bytes ≤ 0). omega (arith, h))
            (cases_lt 0 (count * l.bytes))

        by : (none : Bool) → nat_eq (bytes_in l count) 0 ≡ none → Has w place (clear_lines none)
            → Comes w (Here w order x outer mem place) (At w x outer (cleared l count s mem) (place + code_length (clear_lines none)))
        by true none has = comes_as w _ _ (λ q a.
            let slot = a.sp + 4 * slot_of x.fn.passed t in
            let p : Points a.maps s b (word_at q.bytes slot) =
            subst (λ v. Shows a.maps v (word_at q.bytes slot)) is (temp_shown w order x outer mem t place q a named kept) in
            let empty = nothing q a p.base p.known (eqb-true (bytes_in l count) 0 none) in
            let here : place ≡ place + 0 = omega arith in
            subst (λ k. At w x outer (cleared l count s mem) k q) here
            (subst (λ (r : Machine). At w x outer (cleared l count s mem) place r)
            (sym (written_out w order mem place a.maps (a.frame ∷ a.others) a.sp q a.stands))
            (refilled_at w order x outer mem s b live l count layout full there place place q a p.base p.known q.registers q.bytes zeros
            (cleared l count s mem).parts (cleared_part a.maps mem l count s zero) a.stands.aligned (λ r h. refl) a.stands.kept a.stands.small
            (record { inside = λ i less. absurd (omega (arith, less, empty)); outside = λ r far. refl }))))
        by false some has =
            let second = further_code 7 5 (bytes_in l count) in
            let third = clear_loop (are_words l) in
            let positive : 0 < bytes_in l count = (let other = eqb-false (bytes_in l count) 0 some in omega (arith, other)) in
            in_turn w (Here w order x outer mem place) (With w order x outer mem Ready) (λ k. At w x outer (cleared l count s mem) k) place
            (loads ++ second) third
            (in_turn w (Here w order x outer mem place) (With w order x outer mem Pointed) (With w order x outer mem Ready) place loads second
            (comes_then w _ _ _
            (loads_into w order x outer mem 4 t place named kept refl (has_first w place loads second (has_first w place (loads ++ second) third has)))
            (comes_as w _ _ (λ q a. knows w order x outer mem (place + code_length loads) (InRegister 5 (x.config.temps t)) Pointed q
            (λ m registers h. subst (λ v. Shows m v (registers 5)) is h.0) a)))
            (further_into w order x outer mem 6 (bytes_in l count) (place + code_length loads) Pointed Ready refl (omega arith)
            (has_second w place loads second (has_first w place (loads ++ second) third has)) (λ m new old seven stay h.
            let five = stay 5 refl refl in
            (subst (λ v. Points m s b v) (sym five) h, seven ∙ ap (λ v. sum_of v (bytes_in l count)) (sym five)))))
            (loop (are_words l) refl positive (place + code_length (loads ++ second)) (has_second w place (loads ++ second) third has))
