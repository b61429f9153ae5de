-- A function's first lines: the stack is refused where the frame doesn't fit, or x2 goes down by it.
use Rattle.std.specs.Prelude.{slice_get, if◌then◌else◌}
use Rattle.std.proofs.Common.{◌≡◌, ℕ, pos, ◌+◌, ◌-◌, ◌%◌, ◌^◌, ◌<◌, ◌≤◌, true, false, not, nat_lt, nat_le, Bool, List, [], ◌∷◌, ◌++◌, Some, refl, sym, ap}
use Rattle.std.proofs.Common.{◌∙◌, subst, arith}
use Rattle.std.proofs.lemmas.Bool.{le-leb, lt-ltb, le-ltb, ltb-true, and_from}
use Rattle.cyc_words.specs.Words.{word, sum_of}
use Rattle.rv32_isa.specs.declared.instruction.Instr.TheVariants.{Jal, Add, Bgeu, Addi, Ecall}
use Rattle.core_meaning.specs.Memory.{Memory}
use Rattle.core_meaning.specs.Core.{Function}
use Rattle.core_lines.specs.Machines.{Machine, Store}
use Rattle.rv32_machine.specs.State.{Areas, Stop, Over, code_base, stack_base, stack_end, set_register}
use Rattle.cyc_words.specs.declared.faults.MachineFault.TheVariants.{BadCall}
use Rattle.rv32_machine.specs.Step.{branches, stop, fault}
use Rattle.core_lines.specs.declared.line.Line.TheVariants.{Plain}
use Rattle.core_lines.specs.Lines.{HasInstr, code_length, offset_to}
use Rattle.core_lines.specs.Frames.{word_code, environment_code, small_frame_code, test_code, move_code, frame_code}
use Rattle.core_lines.specs.Lies.{Maps, Activation, Stacked}
use Rattle.core_lines.proofs.memory.Relations.{Moves, World, IsInOrder, Has, Waiting, StackShows, Stands, active_of}
use Rattle.core_lines.proofs.memory.Moving.{and_then, by_stop}
use Rattle.core_lines.proofs.Steps.{state_at, IsKeptBelow, goes_to, passes, gives_value, step_is, is_lawful, is_in_code}
use Rattle.core_lines.proofs.homes.Homes.{SameHomes, other_home}
use Rattle.core_lines.proofs.memory.Slots.{Puts, puts_word}
use Rattle.core_lines.proofs.memory.Words.{offset_joined}
use Rattle.core_lines.proofs.frames.Pointer.{moves_down_near, moves_down_far}
use Rattle.core_lines.proofs.memory.Fitting.{below_end}
use Rattle.core_lines.proofs.memory.Access.{written_out}
use Rattle.core_lines.proofs.frames.Passing.{has_second}
use Rattle.rv32_machine.specs.Implements.{frames}
use Rattle.rv32_machine.specs.Step.{refuses_frame, has_stack}
use Rattle.core_lines.specs.Machines.{state_of}

-- the frames' bytes, all together, fill the stack from the stack pointer on; and none is over its bound
pub stack_bound : (w : World) (order : IsInOrder w) (m : Maps) (xs : List Waiting) (fs : List Activation) (sp : ℕ) → StackShows w m xs fs
    → Stacked w.areas sp fs → stack_end w.areas ≤ sp + frames w.bound (active_of w xs)
stack_bound w order m [] [] sp shows stacked = omega (arith, stacked)
stack_bound w order m [] (a ∷ fs) sp shows stacked = absurd shows
stack_bound w order m (x ∷ xs) [] sp shows stacked = absurd shows
stack_bound w order m (x ∷ xs) (a ∷ fs) sp shows stacked =
    let rest = stack_bound w order m xs fs (a.at + a.bytes) shows.1 stacked.1 in
    let at = stacked.0.there in
    let bytes = shows.0.bytes in
    let bounded = order.bounded x.function in
    omega (arith, rest, at, bytes, bounded)

-- x2 is where the frames begin, within the stack
pub stack_low : (n : Areas) → n.stack % 4096 ≡ 0 → (fs : List Activation) (sp : ℕ) → Stacked n sp fs
    → (stack_base ≤ sp) × (sp ≤ stack_end n) × (sp % 4 ≡ 0)
stack_low n pages [] sp stacked = (omega (arith, stacked), omega (arith, stacked), omega (arith, stacked, pages))
stack_low n pages (a ∷ fs) sp stacked =
    let low = stacked.0.low in let even = stacked.0.even in let e = below_end n sp (a ∷ fs) stacked in (low, e, even)

module _ (w : World) (order : IsInOrder w) (f : ℕ) (fn : Function) (is : slice_get w.functions f ≡ Some fn) (outer : List Waiting) (mem : Memory) where
  abbrev size : ℕ
  size = w.frame_bytes f

  small : size ≤ 2 ^ 25
  small = order.not_too_large f

  -- ---- the refusal

  -- by these two lines the environment is told that the stack is too short, and it agrees
  refuses : (place : ℕ) (registers bytes : ℕ → ℕ) (st : Store) → IsKeptBelow w.code bytes → (sp : ℕ) → registers 2 ≡ sp → registers 10 ≡ size
      → sp < stack_base + size → stack_base ≤ sp → sp ≤ stack_end w.areas → Has w place (environment_code 13)
      → Moves w.areas 2 (state_at place registers bytes st)
      (record (state_at (place + 4) (set_register 17 13 registers) bytes st) { mode = Over (Stop.Exhausted) })
  refuses place registers bytes st kept sp pointer argument short low high has =
      let s1 = state_at place registers bytes st in
      let new = set_register 17 13 registers in
      let s2 = state_at (place + 4) new bytes st in
      let m1 : Moves w.areas 1 s1 s2 =
      gives_value w.areas w.code order.code_within st place registers bytes kept (Addi 17 0 (pos 13)) has.0.0 17 13 (λ answer. refl) tt in
      let l1 : nat_le stack_base (new 2) ≡ true = le-leb stack_base (new 2) (omega (arith, pointer, low)) in
      let l2 : nat_le (new 2) (stack_base + w.areas.stack) ≡ true = le-leb (new 2) (stack_base + w.areas.stack) (omega (arith, pointer, high)) in
      let l3 : nat_lt (new 2 - stack_base) (new 10) ≡ true = lt-ltb (new 2 - stack_base) (new 10) (omega (arith, pointer, argument, short, low)) in
      let why = Stop.Exhausted in
      let t = state_of s2 in
      let found : refuses_frame w.areas (new 10) t ≡ stop why t =
      ap (λ c. if c then stop why t else fault BadCall t) (and_from (has_stack w.areas t) _ (and_from (nat_le stack_base (new 2)) _ l1 l2) l3) in
      let last = record s2 { mode = Over why } in
      let m2 : Moves w.areas 1 s2 last =
      by_stop w.areas s2 last refl why
      (λ answer. step_is w.areas w.code order.code_within st (place + 4) new bytes kept Ecall has.2.0.0 answer ∙ found)
      (is_lawful w.areas w.code order.code_within st (place + 4) new bytes kept Ecall has.2.0.0 tt) in
      and_then w.areas s1 s2 last 1 1 m1 m2

  -- a jump to the label where frames are refused
  goes_refused : (place : ℕ) (registers bytes : ℕ → ℕ) (st : Store) → IsKeptBelow w.code bytes
      → HasInstr w.areas w.code (code_base + place) (Jal 0 (offset_to (w.places w.refused) place))
      → Moves w.areas 1 (state_at place registers bytes st) (state_at (w.places w.refused) registers bytes st)
  goes_refused place registers bytes st kept has =
      let to = w.places w.refused in
      let is_place = order.labels w.refused in
      let within = is_place.within in
      let near = is_in_code w.areas w.code order.code_within st place (Jal 0 (offset_to to place)) has in
      goes_to w.areas w.code order.code_within st place registers bytes kept (Jal 0 (offset_to to place)) has 0
      (sum_of (code_base + place) (word (offset_to to place))) to (offset_joined code_base to place (omega (arith, near)) (omega (arith, within)))
      is_place.aligned (λ answer. refl) tt

  -- what stands there brings x2 up again by the frame's bytes, which x10 has, and the stack is refused
  refuses_below : (registers bytes : ℕ → ℕ) (st : Store) → IsKeptBelow w.code bytes → (sp below : ℕ) → sp + size < 2 ^ 31 → registers 2 ≡ below
      → registers 10 ≡ size → below + size ≡ sp → sp < stack_base + size → stack_base ≤ sp → sp ≤ stack_end w.areas
      → (last : Machine) × (Moves w.areas 3 (state_at (w.places w.refused) registers bytes st) last) × (last.mode ≡ Over (Stop.Exhausted))
  refuses_below registers bytes st kept sp below near pointer argument is short low high =
      let place = w.places w.refused in
      let value = sum_of (registers 2) (registers 10) in
      let new = set_register 2 value registers in
      let s1 = state_at (place + 4) new bytes st in
      let m1 : Moves w.areas 1 (state_at place registers bytes st) s1 =
      gives_value w.areas w.code order.code_within st place registers bytes kept (Add 2 2 10) order.refusal.0.0 2 value (λ answer. refl) tt in
      let up : value ≡ sp = ap (λ k. sum_of k (registers 10)) pointer ∙ ap (sum_of below) argument ∙ omega (arith, is, near) in
      let last = record (state_at (place + 4 + 4) (set_register 17 13 new) bytes st) { mode = Over (Stop.Exhausted) } in
      (last, and_then w.areas _ s1 last 1 2 m1 (refuses (place + 4) new bytes st kept sp up argument short low high order.refusal.2), refl)

  -- ---- the lines of a frame

  module _ (s : Machine) (m : Maps) (fs : List Activation) (sp : ℕ) (place : ℕ) (stands : Stands w mem place m fs sp sp s) (low : stack_base ≤ sp)
      (high : sp ≤ stack_end w.areas) where
    here : s ≡ state_at place s.registers s.bytes s.store
    here = written_out w order mem place m fs sp s stands

    -- where the frame doesn't fit, the run is over by no more steps than these
    pub record IsRefused (most : ℕ) : Type 0 where
      pub count : ℕ
      pub within : count ≤ most
      pub last : Machine
      pub moves : Moves w.areas count s last
      pub over : last.mode ≡ Over (Stop.Exhausted)

    -- where it does, x2 goes down by it
    pub record IsMoved (count behind : ℕ) : Type 0 where
      pub new : ℕ → ℕ
      pub moves : Moves w.areas count s (state_at behind new s.bytes s.store)
      pub pointer : new 2 ≡ sp - size
      pub stack_start : new 3 ≡ stack_base
      pub kept_one : new 1 ≡ s.registers 1
      pub same : SameHomes new s.registers

    -- ---- a small frame, which is taken and then tested

    module _ (few : size < 2048) (has : Has w place (small_frame_code w.refused size)) where
      near : sp + size < 2 ^ 31
      near = let within = order.stack_within in omega (arith, few, high, within)

      down : Puts w place (place + 4) 1 2 (sp - size) s.registers s.bytes s.store
      down =
          moves_down_near w order place s.registers s.bytes s.store stands.kept size sp (omega (arith, few)) stands.pointer near (sp - size)
          (omega (arith, few, low)) (has.0, tt, tt)

      abbrev s1 : Machine
      s1 = state_at (place + 4) down.new s.bytes s.store

      start : down.new 3 ≡ stack_base
      start = down.kept 3 refl refl ∙ stands.stack_start

      taken_small : stack_base + size ≤ sp → IsMoved 2 (place + 16)
      taken_small fits =
          let near_end = is_in_code w.areas w.code order.code_within s.store (place + 4) (Bgeu 2 3 (pos 12)) has.2.0.0 in
          let enough : nat_lt (down.new 2) (down.new 3) ≡ false =
          le-ltb (down.new 2) (down.new 3) (let a = down.holds in omega (arith, a, start, fits)) in
          let aligned = stands.aligned in
          let next = state_at (place + 16) down.new s.bytes s.store in
          let m2 : Moves w.areas 1 s1 next =
          goes_to w.areas w.code order.code_within s.store (place + 4) down.new s.bytes stands.kept (Bgeu 2 3 (pos 12)) has.2.0.0 0
          (sum_of (code_base + (place + 4)) 12) (place + 16) (omega (arith, near_end)) (omega (arith, aligned))
          (λ answer. ap (λ b. branches (not b) (pos 12) (state_of s1)) enough) tt in
          record {
            new = down.new;
            moves = subst (λ (t : Machine). Moves w.areas 2 t next) (sym here) (and_then w.areas _ s1 next 1 1 down.moves m2);
            pointer = down.holds;
            stack_start = start;
            kept_one = down.kept 1 refl refl;
            same = λ q is. down.kept q (other_home 7 q refl is) (other_home 2 q refl is);
          }

      refused_small : sp < stack_base + size → IsRefused 7
      refused_small short =
          let less : nat_lt (down.new 2) (down.new 3) ≡ true =
          lt-ltb (down.new 2) (down.new 3) (let a = down.holds in omega (arith, a, start, short, few)) in
          let p2 = place + 4 + 4 in
          let s2 = state_at p2 down.new s.bytes s.store in
          let m2 : Moves w.areas 1 s1 s2 =
          passes w.areas w.code order.code_within s.store (place + 4) down.new s.bytes stands.kept (Bgeu 2 3 (pos 12)) has.2.0.0
          (λ answer. ap (λ b. branches (not b) (pos 12) (state_of s1)) less) tt in
          let value = sum_of 0 (word (pos size)) in
          let asked = set_register 10 value down.new in
          let s3 = state_at (p2 + 4) asked s.bytes s.store in
          let m3 : Moves w.areas 1 s2 s3 =
          gives_value w.areas w.code order.code_within s.store p2 down.new s.bytes stands.kept (Addi 10 0 (pos size)) has.2.2.0.0 10 value (λ answer. refl)
          tt in
          let argument : value ≡ size = omega (arith, few) in
          let e = refuses_below asked s.bytes s.store stands.kept sp (sp - size) near down.holds argument (omega (arith, few, low)) short low high in
          let to = w.places w.refused in
          let s4 = state_at to asked s.bytes s.store in
          let m4 : Moves w.areas 1 s3 s4 = goes_refused (p2 + 4) asked s.bytes s.store stands.kept has.2.2.2.0.0 in
          record {
            count = 7;
            within = omega arith;
            last = e.0;
            moves = subst (λ (t : Machine). Moves w.areas 7 t e.0) (sym here)
                (and_then w.areas _ s1 e.0 1 6 down.moves (and_then w.areas s1 s2 e.0 1 5 m2 (and_then w.areas s2 s3 e.0 1 4 m3
                (and_then w.areas s3 s4 e.0 1 3 m4 e.1))));
            over = e.2;
          }

    -- ---- a large frame, for which the stack is tested first

    module _ (has : Has w place (test_code size ++ move_code size)) where
      first : Puts w place (place + 8) 2 6 (stack_base + size) s.registers s.bytes s.store
      first = puts_word w order place s.registers s.bytes s.store stands.kept 5 (stack_base + size) (omega (arith, small)) (has.0, tt, (has.2.0, tt, tt))

      abbrev t1 : Machine
      t1 = state_at (place + 8) first.new s.bytes s.store

      two : first.new 2 ≡ sp
      two = first.kept 2 refl refl ∙ stands.pointer

      -- the branch over the refusal
      branch : Has w (place + 8) (Plain (Bgeu 2 6 (pos 20)) ∷ [])
      branch = let e : place + 4 + 4 ≡ place + 8 = omega arith in subst (λ p. Has w p (Plain (Bgeu 2 6 (pos 20)) ∷ [])) e (has.2.2.0, tt, tt)

      taken_large : stack_base + size ≤ sp → IsMoved 6 (place + 40)
      taken_large fits =
          let near = is_in_code w.areas w.code order.code_within s.store (place + 8) (Bgeu 2 6 (pos 20)) branch.0.0 in
          let enough : nat_lt (first.new 2) (first.new 6) ≡ false =
          le-ltb (first.new 2) (first.new 6) (let a = two in let b = first.holds in omega (arith, a, b, fits)) in
          let aligned = stands.aligned in
          let t2 = state_at (place + 28) first.new s.bytes s.store in
          let m2 : Moves w.areas 1 t1 t2 =
          goes_to w.areas w.code order.code_within s.store (place + 8) first.new s.bytes stands.kept (Bgeu 2 6 (pos 20)) branch.0.0 0
          (sum_of (code_base + (place + 8)) 20) (place + 28) (omega (arith, near)) (omega (arith, aligned))
          (λ answer. ap (λ b. branches (not b) (pos 20) (state_of t1)) enough) tt in
          let within = order.stack_within in
          let has_move = has_second w place (test_code size) (move_code size) has in
          let p = moves_down_far w order (place + 28) first.new s.bytes s.store stands.kept size sp (omega (arith, small)) two
          (omega (arith, small, high, within)) (sp - size) (omega (arith, fits)) has_move in
          let e : place + 28 + 12 ≡ place + 40 = omega arith in
          let next = state_at (place + 40) p.new s.bytes s.store in
          let m3 : Moves w.areas 3 t2 next = subst (λ q. Moves w.areas 3 t2 (state_at q p.new s.bytes s.store)) e p.moves in
          record {
            new = p.new;
            moves = subst (λ (t : Machine). Moves w.areas 6 t next) (sym here)
                (and_then w.areas _ t1 next 2 4 first.moves (and_then w.areas t1 t2 next 1 3 m2 m3));
            pointer = p.holds;
            stack_start = p.kept 3 refl refl ∙ first.kept 3 refl refl ∙ stands.stack_start;
            kept_one = p.kept 1 refl refl ∙ first.kept 1 refl refl;
            same = λ q is. p.kept q (other_home 7 q refl is) (other_home 2 q refl is) ∙ first.kept q (other_home 7 q refl is) (other_home 6 q refl is);
          }

      refused_large : sp < stack_base + size → IsRefused 7
      refused_large short =
          let less : nat_lt (first.new 2) (first.new 6) ≡ true =
          lt-ltb (first.new 2) (first.new 6) (let a = two in let b = first.holds in omega (arith, a, b, short)) in
          let p2 = place + 8 + 4 in
          let t2 = state_at p2 first.new s.bytes s.store in
          let m2 : Moves w.areas 1 t1 t2 =
          passes w.areas w.code order.code_within s.store (place + 8) first.new s.bytes stands.kept (Bgeu 2 6 (pos 20)) branch.0.0
          (λ answer. ap (λ b. branches (not b) (pos 20) (state_of t1)) less) tt in
          let e2 : place + 4 + 4 + 4 ≡ p2 = omega arith in
          let third = puts_word w order p2 first.new s.bytes s.store stands.kept 9 size (omega (arith, small))
          (subst (λ p. Has w p (word_code 10 size)) e2 (has.2.2.2.0, tt, (has.2.2.2.2.0, tt, tt))) in
          let p3 = p2 + 8 in
          let t3 = state_at p3 third.new s.bytes s.store in
          let e3 : place + 4 + 4 + 4 + 4 + 4 ≡ p3 = omega arith in
          let call = subst (λ p. Has w p (environment_code 13)) e3 (has.2.2.2.2.2.0, tt, (has.2.2.2.2.2.2.0, tt, tt)) in
          let m4 = refuses p3 third.new s.bytes s.store stands.kept sp (third.kept 2 refl refl ∙ two) third.holds short low high call in
          let last = record (state_at (p3 + 4) (set_register 17 13 third.new) s.bytes s.store) { mode = Over (Stop.Exhausted) } in
          record {
            count = 7;
            within = omega arith;
            last = last;
            moves = subst (λ (t : Machine). Moves w.areas 7 t last) (sym here)
                (and_then w.areas _ t1 last 2 5 first.moves (and_then w.areas t1 t2 last 1 4 m2 (and_then w.areas t2 t3 last 2 2 third.moves m4)));
            over = refl;
          }

    -- ---- a frame

    pub taken : stack_base + size ≤ sp → Has w place (frame_code w.refused size)
        → IsMoved (if nat_lt size 2048 then 2 else 6) (place + code_length (frame_code w.refused size))
    taken fits has = by (nat_lt size 2048) refl has
      where
        by : (few : Bool) → nat_lt size 2048 ≡ few → Has w place (if few then small_frame_code w.refused size else test_code size ++ move_code size)
            → IsMoved (if few then 2 else 6) (place + code_length (if few then small_frame_code w.refused size else test_code size ++ move_code size))
        by true is has = taken_small (ltb-true size 2048 is) has fits
        by false is has = taken_large has fits

    pub refused : sp < stack_base + size → Has w place (frame_code w.refused size) → IsRefused ((if nat_lt size 2048 then 2 else 6) + 5)
    refused short has = by (nat_lt size 2048) refl has
      where
        by : (few : Bool) → nat_lt size 2048 ≡ few → Has w place (if few then small_frame_code w.refused size else test_code size ++ move_code size)
            → IsRefused ((if few then 2 else 6) + 5)
        by true is has = refused_small (ltb-true size 2048 is) has short
        by false is has =
            let x = refused_large has short in
            record { count = x.count; within = omega (arith, x.within); last = x.last; moves = x.moves; over = x.over }
