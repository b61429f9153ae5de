-- The code that puts a region's handle and the bytes of a block into the registers of a call.
use Rattle.std.specs.Prelude.{nat_eq, nat_lt, bit_or}
use Rattle.std.proofs.Common.{◌≡◌, ℕ, ◌+◌, ◌*◌, ◌/◌, ◌%◌, ◌^◌, ◌<◌, false, List, [], ◌∷◌, ◌++◌, refl, ap, subst, ◌∙◌, arith}
use Rattle.cyc_words.specs.Words.{difference_of, product_of, upper_unsigned}
use Rattle.rv32_isa.specs.declared.instruction.Instr.TheVariants as instr
use Rattle.rv32_machine.specs.State.{set_register}
use Rattle.rv32_machine.specs.Step.{truth}
use Rattle.core_meaning.specs.Memory.{Word, Birth, Memory}
use Rattle.core_meaning.specs.Operations.{saturated}
use Rattle.core_lines.specs.declared.line.Line.{Line}
use Rattle.core_lines.specs.declared.line.Line.TheVariants.{Plain}
use Rattle.core_lines.specs.Frames.{word_code}
use Rattle.core_lines.specs.Lies.{Maps}
use Rattle.core_lines.specs.Lines.{code_length}
use Rattle.core_lines.specs.Selected.{bytes_code}
use Rattle.core_lines.specs.Held.{Holding}
use Rattle.core_lines.specs.Operands.{into_code}
use Rattle.core_lines.proofs.memory.Relations.{World, IsInOrder, Has, Waiting}
use Rattle.core_lines.proofs.memory.Moving.{Comes, comes_then, comes_as}
use Rattle.core_lines.proofs.frames.Passing.{has_first, has_second}
use Rattle.core_lines.proofs.operations.Registers.{
  AtWith,
  AtHolding,
  with_there,
  InRegister,
  register_stays,
  Stable,
  AreThere,
  IsServed,
  in_turn,
  knows,
  now_known,
  there_kept,
  fetch_into,
  set_kept,
  puts,
  puts_into,
}
use Rattle.core_lines.proofs.operations.Calling.{Others, first_changes, second_changes, bytes_change, argument_then}
use Rattle.core_lines.proofs.operations.Products.{saturated_below, times_saturated, masked}

module _ (w : World) (order : IsInOrder w) (x : Waiting) (outer : List Waiting) (mem : Memory) where
  module _ (hs : List Holding) (d count bytes : ℕ) where
    -- the region's handle, and the words of other temporaries
    abbrev Handle : Maps → (ℕ → ℕ) → Type 0
    Handle m registers = InRegister 10 (Birth d) m registers × Others x hs m registers

    -- they stay where another register changes that the code uses
    handle_stays : (q : ℕ) → nat_eq 10 q ≡ false → Stable q (Others x hs) → Stable q Handle
    handle_stays q other stays m new old kept h = (register_stays 10 q (Birth d) m new old kept refl other h.0, stays m new old kept h.1)

    abbrev asked : ℕ
    asked = saturated (count * bytes)

    -- the handle and the block's bytes
    abbrev pub Wanted : Maps → (ℕ → ℕ) → Type 0
    Wanted m registers = InRegister 10 (Birth d) m registers × (registers 11 ≡ asked)

    abbrev Sent : Maps → (ℕ → ℕ) → Type 0
    Sent m registers = Wanted m registers × Others x hs m registers

    abbrev v : ℕ
    v = saturated bytes

    abbrev product : ℕ
    product = count * v

    -- the product's upper half, 1 where that isn't 0, and then all ones
    abbrev upper : ℕ
    upper = product / 2 ^ 32

    abbrev over : ℕ
    over = truth (nat_lt 0 upper)

    abbrev mask : ℕ
    mask = difference_of 0 over

    abbrev multiplied : List Line
    multiplied =
        Plain (instr.Mulhu 11 5 6) ∷ Plain (instr.Mul 5 5 6) ∷ Plain (instr.Sltu 11 0 11) ∷ Plain (instr.Sub 11 0 11) ∷ Plain (instr.Or 11 11 5) ∷ []

    abbrev Counted : Maps → (ℕ → ℕ) → Type 0
    Counted m registers = (registers 5 ≡ count) × Handle m registers

    abbrev Factors : Maps → (ℕ → ℕ) → Type 0
    Factors m registers = (registers 6 ≡ v) × (registers 5 ≡ count) × Handle m registers

    abbrev Upper : Maps → (ℕ → ℕ) → Type 0
    Upper m registers = (registers 11 ≡ upper) × (registers 6 ≡ v) × (registers 5 ≡ count) × Handle m registers

    abbrev Both : ℕ → Maps → (ℕ → ℕ) → Type 0
    Both value m registers = (registers 11 ≡ value) × (registers 5 ≡ product % 2 ^ 32) × Handle m registers

    -- the count is in x5, the handle in x10
    multiplies : (place : ℕ) → Has w place (bytes_code bytes)
        → Comes w (AtWith w x outer mem place Counted) (AtWith w x outer mem (place + code_length (bytes_code bytes)) Sent)
    multiplies place has =
        let words = has_first w place (word_code 6 v) multiplied has in
        let others = has_second w place (word_code 6 v) multiplied has in
        let p = place + 8 in
        let end : p + 4 + 4 + 4 + 4 + 4 ≡ place + code_length (bytes_code bytes) = omega arith in
        let first : Comes w (AtWith w x outer mem place Counted) (AtWith w x outer mem p Factors) =
        puts_into w order x outer mem 5 v place Counted Factors (saturated_below bytes) refl words (λ m new old is kept h. (
          is,
          kept 5 refl refl ∙ h.0,
          handle_stays 6 refl (second_changes x hs) m new old kept h.1,
        )) in
        let second : Comes w (AtWith w x outer mem p Factors) (AtWith w x outer mem (p + 4) Upper) =
        puts w order x outer mem 10 p Factors Upper (instr.Mulhu 11 5 6) (λ registers. upper_unsigned (registers 5) (registers 6)) refl others.0.0
        (λ r b st n. refl) (λ _. tt)
        (λ m registers h. (
          ap (λ y. upper_unsigned y (registers 6)) h.1 ∙ ap (λ y. upper_unsigned count y) h.0,
          h.0,
          h.1,
          with_bytes (upper_unsigned (registers 5) (registers 6)) m registers h.2,
        )) in
        let third : Comes w (AtWith w x outer mem (p + 4) Upper) (AtWith w x outer mem (p + 4 + 4) (Both upper)) =
        puts w order x outer mem 4 (p + 4) Upper (Both upper) (instr.Mul 5 5 6) (λ registers. product_of (registers 5) (registers 6)) refl
        others.2.0.0 (λ r b st n. refl) (λ _. tt)
        (λ m registers h. (
          h.0,
          ap (λ y. product_of y (registers 6)) h.2 ∙ ap (λ y. product_of count y) h.1,
          handle_stays 5 refl (first_changes x hs) m (set_register 5 (product_of (registers 5) (registers 6)) registers) registers
              (set_kept 4 (product_of (registers 5) (registers 6)) registers) h.3,
        )) in
        let fourth : Comes w (AtWith w x outer mem (p + 4 + 4) (Both upper))
        (AtWith w x outer mem (p + 4 + 4 + 4) (Both over)) =
        puts w order x outer mem 10 (p + 4 + 4) (Both upper) (Both over) (instr.Sltu 11 0 11)
        (λ registers. truth (nat_lt 0 (registers 11))) refl others.2.2.0.0 (λ r b st n. refl) (λ _. tt)
        (λ m registers h. (ap (λ y. truth (nat_lt 0 y)) h.0, h.1, with_bytes (truth (nat_lt 0 (registers 11))) m registers h.2)) in
        let fifth : Comes w (AtWith w x outer mem (p + 4 + 4 + 4) (Both over))
        (AtWith w x outer mem (p + 4 + 4 + 4 + 4) (Both mask)) =
        puts w order x outer mem 10 (p + 4 + 4 + 4) (Both over) (Both mask)
        (instr.Sub 11 0 11) (λ registers. difference_of 0 (registers 11)) refl others.2.2.2.0.0 (λ r b st n. refl) (λ _. tt)
        (λ m registers h. (ap (λ y. difference_of 0 y) h.0, h.1, with_bytes (difference_of 0 (registers 11)) m registers h.2)) in
        let sixth : Comes w (AtWith w x outer mem (p + 4 + 4 + 4 + 4) (Both mask))
        (AtWith w x outer mem (p + 4 + 4 + 4 + 4 + 4) Sent) =
        puts w order x outer mem 10 (p + 4 + 4 + 4 + 4) (Both mask) Sent (instr.Or 11 11 5)
        (λ registers. bit_or (registers 11) (registers 5)) refl others.2.2.2.2.0.0 (λ r b st n. refl) (λ _. tt)
        (λ m registers h.
        let handle = with_bytes (bit_or (registers 11) (registers 5)) m registers h.2 in (
          (
            handle.0,
            ap (λ y. bit_or y (registers 5)) h.0 ∙ ap (λ y. bit_or mask y) h.1 ∙ masked product
                ∙ times_saturated count bytes,
          ),
          handle.1,
        )) in
        subst (λ q. Comes w (AtWith w x outer mem place Counted) (AtWith w x outer mem q Sent)) end
        (comes_then w _ _ _ first (comes_then w _ _ _ second (comes_then w _ _ _ third (comes_then w _ _ _ fourth (comes_then w _ _ _ fifth sixth)))))
      where
        -- another word into x11
        with_bytes : (value : ℕ) (m : Maps) (registers : ℕ → ℕ) → Handle m registers → Handle m (set_register 11 value registers)
        with_bytes value m registers h =
            handle_stays 11 refl (bytes_change x hs) m (set_register 11 value registers) registers (set_kept 10 value registers) h

    -- the two temporaries into x5 and x10, and from there
    pub wants : (h n place : ℕ) → h < x.fn.temporaries → IsServed w x hs h → n < x.fn.temporaries → IsServed w x hs n
        → x.config.temps h ≡ Birth d → x.config.temps n ≡ Word count
        → Has w place (into_code x.fn.passed hs 5 n ++ into_code x.fn.passed hs 10 h ++ bytes_code bytes)
        → Comes w (AtHolding w x outer mem place hs)
        (AtWith w x outer mem (place + code_length (into_code x.fn.passed hs 5 n ++ into_code x.fn.passed hs 10 h ++ bytes_code bytes)) Sent)
    wants h n place named served named' served' is is' has =
        let first = into_code x.fn.passed hs 5 n in
        let second = into_code x.fn.passed hs 10 h in
        let has_both = has_first w place (first ++ second) (bytes_code bytes) has in
        let Number : Maps → (ℕ → ℕ) → Type 0 = λ m registers. AreThere hs x.config.temps m registers × InRegister 5 (Word count) m registers in
        let number : Comes w (AtHolding w x outer mem place hs) (AtWith w x outer mem (place + code_length first) Number) =
        comes_then w _ _ _
        (comes_as w _ _ (λ s a. knows w order x outer mem place (AreThere hs x.config.temps)
        (λ m registers. AreThere hs x.config.temps m registers × AreThere hs x.config.temps m registers) s (λ m registers g. (g, g))
        (with_there w x outer mem place hs s a)))
        (now_known w order x outer mem (place + code_length first) _ _ Number
        (λ m registers g. (g.2, subst (λ c. InRegister 5 c m registers) is' g.0))
        (fetch_into w order x outer mem 4 n place hs (AreThere hs x.config.temps) named' served' refl refl (there_kept 4 hs x.config.temps refl)
        (has_first w place first second has_both))) in
        let handle : Comes w (AtWith w x outer mem (place + code_length first) Number)
        (AtWith w x outer mem (place + code_length first + code_length second) Counted) =
        now_known w order x outer mem (place + code_length first + code_length second) _ _ Counted
        (λ m registers g. (g.2.0, (subst (λ c. InRegister 10 c m registers) is g.0, g.1)))
        (argument_then w order x outer mem hs h (place + code_length first) (InRegister 5 (Word count)) named served
        (λ m new old kept g. register_stays 5 10 (Word count) m new old kept refl refl g) (has_second w place first second has_both)) in
        in_turn w (AtHolding w x outer mem place hs) (λ p. AtWith w x outer mem p Counted) (λ p. AtWith w x outer mem p Sent) place (first ++ second)
        (bytes_code bytes)
        (in_turn w (AtHolding w x outer mem place hs) (λ p. AtWith w x outer mem p Number) (λ p. AtWith w x outer mem p Counted) place first second number
        handle)
        (multiplies (place + code_length (first ++ second)) (has_second w place (first ++ second) (bytes_code bytes) has))
