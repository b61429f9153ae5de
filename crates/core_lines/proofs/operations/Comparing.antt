-- What the code that compares two pointers does: the addresses of two parts are equal exactly where they are the same part's.
use Rattle.std.proofs.Common.{
  ◌≡◌,
  ℕ,
  zero,
  suc,
  pos,
  ◌+◌,
  ◌^◌,
  ◌<◌,
  ◌≤◌,
  ⊎_elim,
  Bool,
  true,
  false,
  List,
  [],
  ◌∷◌,
  ◌++◌,
  Some,
  refl,
  sym,
  ap,
  subst,
  ◌∙◌,
  arith,
}
use Rattle.std.specs.Prelude.{nat_eq, nat_lt, ◌&&◌}
use Rattle.std.proofs.lemmas.Bool.{eq-eqb, ne_eqb}
use Rattle.cyc_words.specs.Words.{difference_of}
use Rattle.rv32_isa.specs.declared.instruction.Instr.TheVariants as instr
use Rattle.rv32_machine.specs.State.{Areas}
use Rattle.rv32_machine.specs.Step.{truth}
use Rattle.core_meaning.specs.Memory.{Spot, Content, Word, Null, Pointer, Part, Memory, is_live, same_spot}
use Rattle.core_meaning.specs.Core as core
use Rattle.core_meaning.specs.Words as meaning
use Rattle.core_lines.specs.Machines.{Machine, Store}
use Rattle.core_lines.specs.declared.line.Line.{Line}
use Rattle.core_lines.specs.Lines.{code_length}
use Rattle.core_lines.specs.Lies.{Maps, Activation, Cell, PartLies, Points, Fits, Shows}
use Rattle.core_lines.specs.Held.{Holding, without_register, with_result, result_index, result_register}
use Rattle.core_lines.specs.Operands.{operand_in}
use Rattle.core_lines.proofs.operations.Operations.{operand, kept_lines}
use Rattle.core_lines.specs.Selected.{binary_code}
use Rattle.core_lines.proofs.memory.Relations.{World, IsInOrder, Has, Waiting, Follows, keeping, At}
use Rattle.core_lines.proofs.memory.Moving.{Comes, comes_then, comes_as}
use Rattle.core_lines.proofs.frames.Passing.{has_first, has_second}
use Rattle.core_meaning.proofs.Spots.{spot_same}
use Rattle.core_lines.proofs.memory.Storing.{live_lasts}
use Rattle.core_lines.proofs.operations.Values.{is_zero, same_truth}
use Rattle.core_lines.proofs.operations.Registers.{
  having,
  AtWith,
  AtHolding,
  InRegister,
  AreThere,
  IsServed,
  in_turn,
  at_of,
  puts_twice,
  there_without,
  result_stays,
  operand_some,
  operands_into,
  result_into,
}

-- ---- the parts that two pointers are at

-- a part of a live region, with a pointer to it
pub record IsAtPart (mem : Memory) (s : Spot) (b : ℕ) : Type 0 where
  pub part : Part
  pub is : mem.parts s 0 ≡ Some part
  pub live : is_live (mem.standing s.region) ≡ true
  pub offset : part.offset ≡ b

module _ (n : Areas) (m : Maps) (fs : List Activation) (mem : Memory) (bytes : ℕ → ℕ) (st : Store) (fits : Fits n m fs mem bytes st) where
  lies : (s : Spot) (b v : ℕ) (p : IsAtPart mem s b) → Points m s b v → PartLies m mem s 0 v p.part.width p.part.content
  lies s b v p points = record {
    base = points.base;
    offset = p.part.offset;
    known = points.known;
    there = points.at ∙ ap (λ k. points.base + k) (sym p.offset);
    has = p.is;
    lasts = live_lasts (mem.standing s.region) p.live;
  }

  wide : (s : Spot) (b v : ℕ) (p : IsAtPart mem s b) → Points m s b v → 0 < p.part.width
  wide s b v p points = ⊎_elim (λ (one : p.part.width ≡ 1). omega (arith, one)) (λ (four : p.part.width ≡ 4). omega (arith, four))
      (fits.aligned (Cell s 0) v p.part.width p.part.content (lies s b v p points)).0

  one_address : (s : Spot) (b c v u : ℕ) → IsAtPart mem s b → IsAtPart mem s c → Points m s b v → Points m s c u → v ≡ u
  one_address s b c v u p q x y =
      let part : p.part ≡ q.part = cc (sym p.is ∙ q.is) in
      let base : x.base ≡ y.base = cc (sym x.known ∙ y.known) in
      x.at ∙ ap (λ k. k + b) base ∙ ap (λ k. y.base + k) (sym p.offset ∙ ap (λ (r : Part). r.offset) part ∙ q.offset) ∙ sym y.at

  -- equal addresses are of one part
  pub same_address : (s t : Spot) (b c v u : ℕ) → IsAtPart mem s b → IsAtPart mem t c → Points m s b v → Points m t c u → nat_eq v u ≡ same_spot s t
  same_address s t b c v u p q x y = by (same_spot s t) refl
    where
      by : (same : Bool) → same_spot s t ≡ same → nat_eq v u ≡ same_spot s t
      by true e =
          let one = spot_same s t e in
          eq-eqb v u (one_address t b c v u (subst (λ r. IsAtPart mem r b) one p) q (subst (λ r. Points m r b v) one x) y) ∙ sym e
      by false e =
          let apart = fits.apart (Cell s 0) (Cell t 0) v p.part.width u q.part.width p.part.content q.part.content
          (ap (λ d. d && nat_eq 0 0) e) (lies s b v p x) (lies t c u q y) in
          let some = wide s b v p x in
          let some' = wide t c u q y in
          ne_eqb v u (λ equal. ⊎_elim (λ (before : v + p.part.width ≤ u). omega (arith, before, equal, some))
          (λ (after : u + q.part.width ≤ v). omega (arith, after, equal, some')) apart) ∙ sym e

-- ---- the code

module _ (w : World) (order : IsInOrder w) (x : Waiting) (outer : List Waiting) (mem : Memory) where
  -- what comparing the words in two registers gives
  abbrev Compares : ℕ → (left right : ℕ) → (ℕ → ℕ) → Type 0
  Compares n left right registers = truth (nat_lt (difference_of (registers left) (registers right)) 1) ≡ n

  -- what is so of two words in each machine with both values
  abbrev pub GivesTruth : Content → Content → ℕ → Type 0
  GivesTruth a b n = (place : ℕ) (s : Machine) (l : At w x outer mem place s) (u v : ℕ) → Shows l.maps a u → u < 2 ^ 32 → Shows l.maps b v → v < 2 ^ 32
      → truth (nat_lt (difference_of u v) 1) ≡ n

  module _ (keeps : Bool) (after : List Bool) (t : ℕ) (named : t < x.fn.temporaries) (follows : Follows keeps (t ∷ []) x.kept after)
      (p q n place : ℕ) (hs : List Holding) (named' : p < x.fn.temporaries) (named'' : q < x.fn.temporaries) (small : n < 2 ^ 32)
      (served : IsServed w x hs p) (served' : IsServed w x hs q) (gives : GivesTruth (x.config.temps p) (x.config.temps q) n) where
    abbrev Result : Maps → (ℕ → ℕ) → Type 0
    Result m registers = InRegister (result_register t) (Word n) m registers × AreThere (without_register (result_register t) hs) x.config.temps m registers

    -- the code but for what saves the result
    abbrev pub comparing : List Line
    comparing = operand w order x outer mem hs 5 p ++ operand w order x outer mem hs 6 q
        ++ binary_code core.Equal (result_register t) (operand_in hs 5 p) (operand_in hs 6 q)

    abbrev Ready : ℕ → ℕ → Maps → (ℕ → ℕ) → Type 0
    Ready left right m registers = Compares n left right registers × AreThere hs x.config.temps m registers

    compares : (middle left right l r : ℕ) → left ≡ suc l → right ≡ suc r → Has w middle (binary_code core.Equal (result_register t) left right)
        → Comes w (AtWith w x outer mem middle (Ready left right))
        (AtWith w x outer mem (middle + code_length (binary_code core.Equal (result_register t) left right)) Result)
    compares middle zero right l r e e' has = absurd (omega (arith, e))
    compares middle (suc k) zero l r e e' has = absurd (omega (arith, e'))
    compares middle (suc k) (suc j) l r e e' has =
        puts_twice w order x outer mem (result_index t) middle (Word n) (Ready (suc k) (suc j)) Result
        (instr.Sub (result_register t) (suc k) (suc j)) (instr.Sltiu (result_register t) (result_register t) (pos 1))
        (λ registers. difference_of (registers (suc k)) (registers (suc j))) (λ d. truth (nat_lt d 1)) (result_stays t) has.0.0 has.2.0.0
        (λ registers b st a. refl) (λ registers b st a. refl) (λ _. tt) (λ _. tt)
        (λ m registers h. (h.0, subst (λ k. k < 2 ^ 32) (sym h.0) small))
        (λ m new old result same h. (result, there_without (result_index t) hs x.config.temps m new old same h.1))

    compared : Has w place comparing → Comes w (AtWith w x outer mem place (AreThere hs x.config.temps))
        (AtWith w x outer mem (place + code_length comparing) Result)
    compared has =
        let first = operand w order x outer mem hs 5 p ++ operand w order x outer mem hs 6 q in
        let last = binary_code core.Equal (result_register t) (operand_in hs 5 p) (operand_in hs 6 q) in
        let left = operand_some hs 4 p in
        let right = operand_some hs 5 q in
        in_turn w _ (λ k. AtWith w x outer mem k (Ready (operand_in hs 5 p) (operand_in hs 6 q))) (λ k. AtWith w x outer mem k Result) place first last
        (comes_then w _ _ _ (operands_into w order x outer mem p q place hs named' named'' served served' (has_first w place first last has))
        (comes_as w _ _ (λ s a. record {
          maps = a.maps;
          frame = a.frame;
          others = a.others;
          sp = a.sp;
          stands = a.stands;
          shows = a.shows;
          stack = a.stack;
          holds = (
            gives (place + code_length first) s (at_of w order x outer mem (place + code_length first) _ s a) (s.registers (operand_in hs 5 p))
                (s.registers (operand_in hs 6 q)) a.holds.0.0.0 a.holds.0.0.1 a.holds.1.0.0 a.holds.1.0.1,
            a.holds.2,
          );
        })))
        (compares (place + code_length first) (operand_in hs 5 p) (operand_in hs 6 q) left.0 right.0 left.1 right.1 (has_second w place first last has))

    abbrev kept : List Line
    kept = kept_lines w order x outer mem keeps after t named follows

    pub compare_places : Has w place (comparing ++ kept) → Comes w (AtHolding w x outer mem place hs)
        (AtHolding w (keeping after (having t (Word n) x)) outer mem (place + code_length (comparing ++ kept)) (with_result t hs))
    compare_places has = result_into w order x outer mem keeps after t place (Word n) hs comparing named follows has compared

  -- ---- pointers and none

  -- the truth of an equality of words, where both are known to be equal or not
  by_words : (a b : ℕ) (same : Bool) → a < 2 ^ 32 → b < 2 ^ 32 → nat_eq a b ≡ same → truth (nat_lt (difference_of a b) 1) ≡ meaning.truth same
  by_words a b same small small' e = ap truth (is_zero a b small small') ∙ same_truth (nat_eq a b) ∙ ap meaning.truth e

  pub two_nulls : GivesTruth Null Null 1
  two_nulls place s l u v shows few shows' few' = by_words u v true few few' (eq-eqb u v (shows ∙ sym shows'))

  pub null_and_pointer : (t : Spot) (c : ℕ) → GivesTruth Null (Pointer t c) 0
  null_and_pointer t c place s l u v shows few shows' few' =
      let positive = shows'.positive in
      by_words u v false few few' (ne_eqb u v (λ e. omega (arith, e, shows, positive)))

  pub pointer_and_null : (t : Spot) (c : ℕ) → GivesTruth (Pointer t c) Null 0
  pointer_and_null t c place s l u v shows few shows' few' =
      let positive = shows.positive in
      by_words u v false few few' (ne_eqb u v (λ e. omega (arith, e, shows', positive)))

  pub two_pointers : (s t : Spot) (b c : ℕ) → IsAtPart mem s b → IsAtPart mem t c → GivesTruth (Pointer s b) (Pointer t c) (meaning.truth (same_spot s t))
  two_pointers s t b c p q place machine l u v shows few shows' few' =
      by_words u v (same_spot s t) few few'
      (same_address w.areas l.maps (l.frame ∷ l.others) mem machine.bytes machine.store l.stands.fits s t b c u v p q shows shows')
