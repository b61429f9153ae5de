-- Stores into a part of an object, wherever it stands: at a distance from what a register has. No other part changes.
use Rattle.std.specs.Prelude.{nat_eq, if◌then◌else◌}
use Rattle.std.proofs.Common.{◌≡◌, ℕ, ℤ, suc, ◌+◌, ◌%◌, ◌^◌, ◌<◌, inl, ⊎_elim, Bool, true, false, List, ◌∷◌, ◌++◌, Some, refl, sym, ap, subst, ◌∙◌, arith}
use Rattle.std.proofs.lemmas.Bool.{eq-eqb, eqb-true}
use Rattle.cyc_words.specs.Words.{word, sum_of}
use Rattle.core_meaning.specs.Memory.{Spot, Content, Part, Memory, is_live, with_part}
use Rattle.core_meaning.specs.Operations.{fitting}
use Rattle.core_lines.specs.Machines.{Machine, state_of}
use Rattle.rv32_machine.specs.State.{set_word, set_byte}
use Rattle.core_lines.specs.declared.line.Line.{Line}
use Rattle.core_lines.specs.Lines.{code_length}
use Rattle.core_lines.specs.Frames.{is_short, lower_of}
use Rattle.core_lines.specs.Lies.{Maps, Shows, Cell}
use Rattle.core_lines.specs.Selected.{far_code, write_code}
use Rattle.core_lines.proofs.memory.Relations.{Moves, World, IsInOrder, Has, Waiting}
use Rattle.core_lines.proofs.memory.Moving.{Reach, Comes, comes_then}
use Rattle.core_lines.proofs.Steps.{state_at, IsKeptBelow, IsAllowed, stores_word, stores_byte}
use Rattle.core_lines.proofs.memory.Fitting.{Change, Writes, writes_word, writes_byte, store_fits, part_change, IsWidth}
use Rattle.core_lines.proofs.memory.Access.{written_out}
use Rattle.core_lines.proofs.memory.Storing.{known_part, low_shows}
use Rattle.core_lines.proofs.homes.Homes.{homes_spared}
use Rattle.core_lines.proofs.memory.Sparing.{part_spares}
use Rattle.core_lines.proofs.memory.Verdicts.{reads, read_as}
use Rattle.core_lines.proofs.operations.Holding.{Stable}
use Rattle.core_lines.proofs.operations.Registers.{AtWith}
use Rattle.core_lines.proofs.operations.Reaching.{Reaches, write_access, part_lies, access, Far, Based, far_base, near_reach, far_reach}

-- a register, or x0, has a word that shows a value
abbrev pub HasWord : ℕ → Content → Maps → (ℕ → ℕ) → Type 0
HasWord r v m registers = Shows m v (reads registers r) × (reads registers r < 2 ^ 32)

module _ (w : World) (order : IsInOrder w) (x : Waiting) (outer : List Waiting) (mem : Memory)
    (there : Spot) (j : ℕ) (part : Part) (is : mem.parts there j ≡ Some part) (live : is_live (mem.standing there.region) ≡ true) (v : Content) where
  abbrev pub stored : Memory
  stored = with_part mem there j (record part { content = fitting part.width v })

  module _ (f g : ℕ) (offset : ℤ) (place : ℕ) (P Q : Maps → (ℕ → ℕ) → Type 0)
      (reach : (m : Maps) (registers : ℕ → ℕ) → P m registers → (at : ℕ) ×
      (Reaches m there part at × ((at < 2 ^ 32) → sum_of (registers (suc f)) (word offset) ≡ at)))
      (value_in : (m : Maps) (registers : ℕ → ℕ) → P m registers → HasWord g v m registers)
      (stay : (m : Maps) (registers : ℕ → ℕ) → P m registers → Q m registers) where
    write_one : (one : Bool) → nat_eq part.width 1 ≡ one → Has w place (write_access one g (suc f) offset)
        → Comes w (AtWith w x outer mem place P) (AtWith w x outer stored (place + 4) Q)
    write_one one e has = record { count = 1; by = λ s a. by s a one e has }
      where
        by : (s : Machine) → AtWith w x outer mem place P s → (one : Bool) → nat_eq part.width 1 ≡ one → Has w place (write_access one g (suc f) offset)
            → Reach w.areas 1 (AtWith w x outer stored (place + 4) Q) s
        by s a one e has =
            let found = reach a.maps s.registers a.holds in
            let at = found.0 in
            let r = found.1.0 in
            let ac = access w order x outer mem there j part is live place P s a at r in
            let small = ac.may.small in
            let address_is : sum_of (s.registers (suc f)) (word offset) ≡ at = found.1.1 (omega (arith, small)) in
            let aligned = a.stands.aligned in
            let fits = a.stands.fits in
            let fs = a.frame ∷ a.others in
            let now = state_at place s.registers s.bytes s.store in
            let here = written_out w order mem place a.maps fs a.sp s a.stands in
            let lies = part_lies w order x outer mem there j part is live a.maps at r in
            let finish : (b' : ℕ → ℕ) (value : ℕ) → Writes s.bytes b' at part.width value → Shows a.maps (fitting part.width v) value
            → Moves w.areas 1 now (state_at (place + 4) s.registers b' s.store) → Reach w.areas 1 (AtWith w x outer stored (place + 4) Q) s =
            λ b' value writes shows moves. record {
              next = state_at (place + 4) s.registers b' s.store;
              moves = subst (λ (t : Machine). Moves w.areas 1 t (state_at (place + 4) s.registers b' s.store)) (sym here) moves;
              there = record {
                maps = a.maps;
                frame = a.frame;
                others = a.others;
                sp = a.sp;
                stands = record {
                  runs = refl;
                  there = refl;
                  aligned = omega (arith, aligned);
                  pointer = a.stands.pointer;
                  stack_start = a.stands.stack_start;
                  small = writes.small a.stands.small;
                  kept = λ q under. writes.outside q (inl (let above = ac.may.above in omega (arith, under, above))) ∙ a.stands.kept q under;
                  stacked = a.stands.stacked;
                  fits = store_fits w.areas a.maps fs fs mem stored s.bytes b' s.store (Cell there j) at part.width
                      (fitting part.width v) part.content value fits lies
                      (subst (λ q. Change w.areas a.maps fs fs mem stored (Cell there j) q part.width (fitting part.width v))
                      (sym r.place)
                      (part_change w.areas a.maps fs mem there j r.base r.known part is (fitting part.width v))) writes shows;
                  homes = homes_spared a.maps mem a.maps stored fs s.registers
                      (part_spares a.maps mem there j part (fitting part.width v) r.base r.known is) a.stands.homes;
                  known = known_part a.maps mem s.store there j part (fitting part.width v) is a.stands.known;
                  holds_blocks = a.stands.holds_blocks;
                  data_based = a.stands.data_based;
                };
                shows = a.shows;
                stack = a.stack;
                holds = stay a.maps s.registers a.holds;
              };
            } in
            at_width a.maps one e has at ac.wide ac.may address_is finish a.stands.kept (value_in a.maps s.registers a.holds)
          where
            at_width : (m : Maps) (one : Bool) → nat_eq part.width 1 ≡ one → Has w place (write_access one g (suc f) offset) → (at : ℕ)
                → IsWidth part.width → IsAllowed w.areas w.code order.code_within s.store (s.registers 2) at part.width
                → sum_of (s.registers (suc f)) (word offset) ≡ at
                → ((b' : ℕ → ℕ) (value : ℕ) → Writes s.bytes b' at part.width value → Shows m (fitting part.width v) value
                → Moves w.areas 1 (state_at place s.registers s.bytes s.store) (state_at (place + 4) s.registers b' s.store)
                → Reach w.areas 1 (AtWith w x outer stored (place + 4) Q) s)
                → IsKeptBelow w.code s.bytes → HasWord g v m s.registers → Reach w.areas 1 (AtWith w x outer stored (place + 4) Q) s
            at_width m true e has at wide may address_is finish below value =
                let one_wide : part.width ≡ 1 = eqb-true part.width 1 e in
                let now = state_at place s.registers s.bytes s.store in
                let byte = reads s.registers g % 256 in
                finish (set_byte at byte s.bytes) byte
                (subst (λ k. Writes s.bytes (set_byte at byte s.bytes) at k byte) (sym one_wide) (writes_byte s.bytes at byte (omega arith)))
                (subst (λ k. Shows m (fitting k v) byte) (sym one_wide) (low_shows m v (reads s.registers g) value.0))
                (subst (λ k. Moves w.areas 1 now (state_at (place + 4) s.registers (set_byte at (k % 2 ^ 8) s.bytes) s.store)) (read_as (state_of now) g)
                (stores_byte w.areas w.code order.code_within s.store place s.registers s.bytes below at
                (subst (λ k. IsAllowed w.areas w.code order.code_within s.store (s.registers 2) at k) one_wide may) (suc f) g offset has.0.0 address_is))
            at_width m false e has at wide may address_is finish below value =
                let four_wide : part.width ≡ 4 =
                ⊎_elim (λ (h : part.width ≡ 1). absurd (cc (e, eq-eqb part.width 1 h))) (λ (h : part.width ≡ 4). h) wide in
                let word = reads s.registers g in
                let now = state_at place s.registers s.bytes s.store in
                finish (set_word at word s.bytes) word
                (subst (λ k. Writes s.bytes (set_word at word s.bytes) at k word) (sym four_wide) (writes_word s.bytes at word value.1))
                (subst (λ k. Shows m (fitting k v) word) (sym four_wide) value.0)
                (subst (λ k. Moves w.areas 1 now (state_at (place + 4) s.registers (set_word at k s.bytes) s.store)) (read_as (state_of now) g)
                (stores_word w.areas w.code order.code_within s.store place s.registers s.bytes below at
                (subst (λ k. IsAllowed w.areas w.code order.code_within s.store (s.registers 2) at k) four_wide may) (suc f) g offset has.0.0 address_is))

  abbrev write_lines : ℕ → ℕ → ℕ → Bool → Bool → List Line
  write_lines value from off short one =
      (if short then write_access one value from (lower_of off) else far_code from off ++ write_access one value 7 (lower_of off))

  abbrev Start : ℕ → ℕ → ℕ → (Maps → (ℕ → ℕ) → Type 0) → Machine → Type 0
  Start from off place Q = AtWith w x outer mem place (Far w order x outer mem there j part is live from off Q)

  -- the value in a register, which may be x0, into a part so many bytes on from another one; what is known stays
  pub writes : (g from off place : ℕ) (Q : Maps → (ℕ → ℕ) → Type 0) → (f : ℕ) × (from ≡ suc f) → Stable 7 Q
      → ((m : Maps) (registers : ℕ → ℕ) → Q m registers → HasWord g v m registers) → Has w place (write_code g part.width from off)
      → Comes w (Start from off place Q) (AtWith w x outer stored (place + code_length (write_code g part.width from off)) Q)
  writes g from off place Q (f, is_from) stable value_in =
      subst (λ from. Has w place (write_code g part.width from off)
      → Comes w (Start from off place Q) (AtWith w x outer stored (place + code_length (write_code g part.width from off)) Q)) (sym is_from)
      (λ has. by value_in (is_short off) refl (nat_eq part.width 1) refl has)
    where
      one_length : (one : Bool) (value from : ℕ) (imm : ℤ) → code_length (write_access one value from imm) ≡ 4
      one_length true value from imm = refl
      one_length false value from imm = refl

      far_length : (one : Bool) → code_length (far_code (suc f) off ++ write_access one g 7 (lower_of off)) ≡ 12
      far_length true = refl
      far_length false = refl

      by : ((m : Maps) (registers : ℕ → ℕ) → Q m registers → HasWord g v m registers) → (short : Bool) → is_short off ≡ short
          → (one : Bool) → nat_eq part.width 1 ≡ one → Has w place (write_lines g (suc f) off short one)
          → Comes w (Start (suc f) off place Q) (AtWith w x outer stored (place + code_length (write_lines g (suc f) off short one)) Q)
      by value_in true short one e has =
          let end : place + 4 ≡ place + code_length (write_access one g (suc f) (lower_of off)) = ap (λ k. place + k)
          (sym (one_length one g (suc f) (lower_of off))) in
          subst (λ p. Comes w (Start (suc f) off place Q) (AtWith w x outer stored p Q)) end
          (write_one f g (lower_of off) place (Far w order x outer mem there j part is live (suc f) off Q) Q
          (near_reach w order x outer mem there j part is live f off Q short) (λ m registers h. value_in m registers h.2) (λ m registers h. h.2) one e has)
      by value_in false long one e has =
          let end : place + 4 + 4 + 4 ≡ place + code_length (far_code (suc f) off ++ write_access one g 7 (lower_of off)) =
          omega (arith, far_length one) in
          subst (λ p. Comes w (Start (suc f) off place Q) (AtWith w x outer stored p Q)) end
          (comes_then w _ _ _ (far_base w order x outer mem there j part is live f off Q stable place (has.0, has.1, (has.2.0, has.2.1, tt)))
          (write_one 6 g (lower_of off) (place + 4 + 4) (Based w order x outer mem there j part is live (suc f) off Q) Q
          (far_reach w order x outer mem there j part is live f off Q) (λ m registers h. value_in m registers h.1.2) (λ m registers h. h.1.2) one e has.2.2))
