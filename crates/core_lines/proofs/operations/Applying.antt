-- What the code of an operation on two words does: their result, or a move where it is a sum with 0.
use Rattle.std.proofs.Common.{
  ◌≡◌,
  ℕ,
  zero,
  suc,
  ◌+◌,
  ◌^◌,
  ◌<◌,
  ◌⊎◌,
  inl,
  inr,
  ⊎_elim,
  Bool,
  true,
  false,
  not,
  nat_eq,
  nat_lt,
  List,
  [],
  ◌∷◌,
  ◌++◌,
  Option,
  Some,
  None,
  refl,
  sym,
  ap,
  subst,
  ◌∙◌,
  arith,
}
use Rattle.std.specs.Prelude.{◌&&◌, if◌then◌else◌}
use Rattle.rv32_machine.specs.State.{set_register}
use Rattle.std.proofs.lemmas.Bool.{eq-eqb, eqb-true}
use Rattle.std.proofs.lemmas.Option.{same_Some}
use Rattle.core_meaning.specs.Memory.{Word, Memory}
use Rattle.core_meaning.specs.Core.{Binary}
use Rattle.core_meaning.specs.Core as core
use Rattle.core_meaning.specs.Words.{two, is_less}
use Rattle.core_meaning.specs.Words as meaning
use Rattle.rv32_machine.specs.Step.{truth}
use Rattle.core_lines.specs.declared.comparison.Condition.{Condition}
use Rattle.core_lines.specs.declared.comparison.Condition.TheVariants as condition
use Rattle.core_lines.specs.declared.comparison.Comparison.{Comparison}
use Rattle.core_lines.specs.declared.comparison.NumberComparison.{NumberComparison}
use Rattle.core_lines.specs.Comparisons.{holds}
use Rattle.core_lines.specs.Lines.{code_length}
use Rattle.core_lines.specs.Machines.{Machine}
use Rattle.core_lines.specs.Lies.{Maps, Shows}
use Rattle.core_lines.specs.Held.{
  Source,
  Register,
  Number,
  Compared,
  ComparedWith,
  Holding,
  source_of,
  without_register,
  with_result,
  with_applied,
  result_index,
  result_register,
  is_zero,
  same_as,
  register_in,
  compared_by,
  comparison_of,
  some_number,
  numbered,
  number_comparison_of,
}
use Rattle.core_lines.specs.Operands.{operand_in}
use Rattle.core_lines.specs.Selected.{Surroundings, immediate_for, apply_code, applied_kept, keep_result}
use Rattle.core_lines.proofs.memory.Relations.{World, IsInOrder, Has, Waiting, Follows, keeping}
use Rattle.core_lines.proofs.memory.Moving.{Comes}
use Rattle.core_lines.proofs.operations.Judging.{verdict_into, numbered_into}
use Rattle.core_lines.proofs.operations.Registers.{reads, IsSteady, numbered_verdict, read_beside, spare_apart, source_not_zero, having, AtWith, AtHolding}
use Rattle.core_lines.proofs.operations.Registers.{with_there, InRegister, IsThere, AreThere, IsServed, there_found, there_without, result_stays, Alone}
use Rattle.core_lines.proofs.operations.Registers.{result_into}
use Rattle.core_lines.proofs.operations.Operations.{never, word_few, move}
use Rattle.core_lines.proofs.operations.Computing.{Operands}
use Rattle.core_lines.proofs.operations.Computing as computing
use Rattle.core_lines.proofs.operations.Values.{computes, same_truth, not_less}
use Rattle.core_lines.proofs.operations.Immediates.{immediate_computes}
use Rattle.core_lines.proofs.operations.NumberSides.{SecondIs, FirstIs, numbered_found}

-- ---- sums with 0

zero_source : (s : Option Source) → is_zero s ≡ true → s ≡ Some (Number 0)
zero_source None e = absurd (cc (e))
zero_source (Some (Register r)) e = absurd (cc (e))
zero_source (Some (Number zero)) e = refl
zero_source (Some (Number (suc n))) e = absurd (cc (e))
zero_source (Some (Compared c)) e = absurd (cc (e))
zero_source (Some (ComparedWith n)) e = absurd (cc (e))

-- where the result is the word of a temporary, it is a sum of which the other word is 0
same_found : (o : Binary) (y z r : ℕ) (of_y of_z : Option Source) → same_as o y z of_y of_z ≡ Some r
    → (o ≡ core.Add) × (((z ≡ r) × (of_y ≡ Some (Number 0))) ⊎ ((y ≡ r) × (of_z ≡ Some (Number 0))))
same_found core.Add y z r of_y of_z e = (refl, by (is_zero of_y) refl (is_zero of_z) refl e)
  where
    by : (c : Bool) → is_zero of_y ≡ c → (d : Bool) → is_zero of_z ≡ d → (if c then Some z else (if d then Some y else None)) ≡ Some r
        → ((z ≡ r) × (of_y ≡ Some (Number 0))) ⊎ ((y ≡ r) × (of_z ≡ Some (Number 0)))
    by true h d h' e = inl (same_Some z r e, zero_source of_y h)
    by false h true h' e = inr (same_Some y r e, zero_source of_z h')
    by false h false h' e = absurd (cc (e))
same_found core.Subtract y z r of_y of_z e = absurd (cc (e))
same_found core.Multiply y z r of_y of_z e = absurd (cc (e))
same_found core.Divide y z r of_y of_z e = absurd (cc (e))
same_found core.DivideUnsigned y z r of_y of_z e = absurd (cc (e))
same_found core.Remainder y z r of_y of_z e = absurd (cc (e))
same_found core.RemainderUnsigned y z r of_y of_z e = absurd (cc (e))
same_found core.And y z r of_y of_z e = absurd (cc (e))
same_found core.Or y z r of_y of_z e = absurd (cc (e))
same_found core.Xor y z r of_y of_z e = absurd (cc (e))
same_found core.ShiftLeft y z r of_y of_z e = absurd (cc (e))
same_found core.ShiftRight y z r of_y of_z e = absurd (cc (e))
same_found core.ShiftRightUnsigned y z r of_y of_z e = absurd (cc (e))
same_found core.Equal y z r of_y of_z e = absurd (cc (e))
same_found core.NotEqual y z r of_y of_z e = absurd (cc (e))
same_found core.Less y z r of_y of_z e = absurd (cc (e))
same_found core.LessEqual y z r of_y of_z e = absurd (cc (e))
same_found core.LessUnsigned y z r of_y of_z e = absurd (cc (e))
same_found core.LessEqualUnsigned y z r of_y of_z e = absurd (cc (e))

-- ---- comparisons

-- a comparison is one of two registers
compared_found : (k : Condition) (l r : Option ℕ) (c : Comparison) → compared_by k l r ≡ Some c
    → (l ≡ Some c.left) × (r ≡ Some c.right) × (k ≡ c.condition)
compared_found k None r c e = absurd (cc (e))
compared_found k (Some l) None c e = absurd (cc (e))
compared_found k (Some l) (Some r) c e =
    let same = same_Some (record { condition = k; left = l; right = r }) c e in
    (ap (λ (d : Comparison). Some d.left) same, ap (λ (d : Comparison). Some d.right) same, ap (λ (d : Comparison). d.condition) same)

-- ---- the code

module _ (w : World) (order : IsInOrder w) (x : Waiting) (outer : List Waiting) (mem : Memory) (keeps : Bool) (after : List Bool) (t : ℕ)
    (named : t < x.fn.temporaries) (follows : Follows keeps (t ∷ []) x.kept after) (u : Surroundings) (o : Binary) (y z a b place : ℕ) (hs : List Holding)
    (named' : y < x.fn.temporaries) (named'' : z < x.fn.temporaries) (served : IsServed w x hs y) (served' : IsServed w x hs z)
    (is : x.config.temps y ≡ Word a) (is' : x.config.temps z ≡ Word b) where
  abbrev with_value : ℕ → Waiting
  with_value n = keeping after (having t (Word n) x)

  -- the surroundings, as they are here
  abbrev here : Surroundings
  here = record u { passed = x.fn.passed; held = hs }

  abbrev Result : Maps → (ℕ → ℕ) → Type 0
  Result m registers = InRegister (result_register t) (Word (two o a b)) m registers
      × AreThere (without_register (result_register t) hs) x.config.temps m registers

  -- the code that leaves it there
  resulting : Has w place (apply_code here o (result_register t) y z)
      → Comes w (AtWith w x outer mem place (AreThere hs x.config.temps))
      (AtWith w x outer mem (place + code_length (apply_code here o (result_register t) y z)) Result)
  resulting has = computing.resulting w order x outer mem y z hs named' named'' served served' u o (result_register t) place mem Result
      (λ middle k j has. computes w order x outer mem (result_index t) k j a b middle (Operands w order x outer mem y z hs (suc k) (suc j)) Result
      (result_stays t)
      (λ m registers h. (
        subst (λ v. InRegister (suc k) v m registers) is h.0.0,
        subst (λ v. InRegister (suc j) v m registers) is' h.1.0,
      )) o (λ m new old result same h. (result, there_without (result_index t) hs x.config.temps m new old same h.2)) has)
      (λ n lines at middle k some has.
      immediate_computes w order x outer mem (result_index t) k a b middle (Alone w order x outer mem 5 (suc k) y hs) Result (result_stays t) o n lines some
      (λ m registers h. (
        subst (λ v. InRegister (suc k) v m registers) is h.0.0,
        subst (λ v. IsThere (Number n) v m registers) is' (there_found hs z (Number n) x.config.temps m registers h.1 at),
      )) (λ m new old result same h. (result, there_without (result_index t) hs x.config.temps m new old same h.1)) has)
      (immediate_for o (result_register t) (operand_in hs 5 y) (source_of hs z)) refl has

  apply : Has w place (apply_code here o (result_register t) y z ++ keep_result keeps here t)
      → Comes w (AtHolding w x outer mem place hs) (AtHolding w (with_value (two o a b)) outer mem
      (place + code_length (apply_code here o (result_register t) y z ++ keep_result keeps here t)) (with_result t hs))
  apply has = result_into w order x outer mem keeps after t place (Word (two o a b)) hs (apply_code here o (result_register t) y z) named follows has resulting

  -- ---- sums with 0

  abbrev Applied : Option ℕ → Option NumberComparison → Option Comparison → Type 0
  Applied found told compared = Has w place (applied_kept keeps here o t y z found told compared) → Comes w (AtHolding w x outer mem place hs)
      (AtHolding w (with_value (two o a b)) outer mem (place + code_length (applied_kept keeps here o t y z found told compared))
      (with_applied t found told compared hs))

  abbrev told : Option NumberComparison
  told = number_comparison_of o (source_of hs y) (source_of hs z)

  abbrev compared : Option Comparison
  compared = comparison_of o (source_of hs y) (source_of hs z)

  abbrev Stood : Machine → Type 0
  Stood s = AtWith w x outer mem place (AreThere hs x.config.temps) s

  -- the result is the word that a temporary has
  moves : (r n : ℕ) → r < x.fn.temporaries → IsServed w x hs r → x.config.temps r ≡ Word n → ((s : Machine) → Stood s → n < 2 ^ 32 → two o a b ≡ n)
      → Applied (Some r) told compared
  moves r n is_named is_served holds same has = by (nat_eq (two o a b) n) refl
    where
      by : (c : Bool) → nat_eq (two o a b) n ≡ c → Comes w (AtHolding w x outer mem place hs)
          (AtHolding w (with_value (two o a b)) outer mem (place + code_length (applied_kept keeps here o t y z (Some r) told compared))
          (with_applied t (Some r) told compared hs))
      by true e =
          subst (λ v. Comes w (AtHolding w x outer mem place hs) (AtHolding w (keeping after (having t v x)) outer mem
          (place + code_length (applied_kept keeps here o t y z (Some r) told compared)) (with_applied t (Some r) told compared hs)))
          (holds ∙ ap (λ k. Word k) (sym (eqb-true (two o a b) n e)))
          (move w order x outer mem keeps after t named follows r place hs is_named is_served has)
      by false e = never w order x outer mem _ _ (λ s m.
          let stood = with_there w x outer mem place hs s m in
          let equal = same s stood (word_few w order x outer mem r n place hs s stood is_named is_served holds) in cc (e, eq-eqb (two o a b) n equal))

  -- a word is 0 where that is known
  none_is : (r n : ℕ) (s : Machine) → Stood s → source_of hs r ≡ Some (Number 0) → x.config.temps r ≡ Word n → 0 ≡ n
  none_is r n s stood zero_there holds =
      let found = there_found hs r (Number 0) x.config.temps stood.maps s.registers stood.holds zero_there in subst (λ v. Shows stood.maps v 0) holds found.0

  -- ---- comparisons

  -- a register has a word
  in_register : (p n r : ℕ) (s : Machine) (stood : Stood s) → x.config.temps p ≡ Word n → register_in (source_of hs p) ≡ Some r
      → (reads s.registers r ≡ n) × IsSteady r s.registers
  in_register p n r s stood holds e = by (source_of hs p) refl e
    where
      Has_word : ℕ → Type 0
      Has_word k = (reads s.registers k ≡ n) × IsSteady k s.registers

      found : (t : Source) → source_of hs p ≡ Some t → IsThere t (Word n) stood.maps s.registers
      found t at = subst (λ v. IsThere t v stood.maps s.registers) holds (there_found hs p t x.config.temps stood.maps s.registers stood.holds at)

      by : (t : Option Source) → source_of hs p ≡ t → register_in t ≡ Some r → Has_word r
      by None at e = absurd (cc (e))
      by (Some (Register zero)) at e = absurd (source_not_zero hs p at)
      by (Some (Register (suc q))) at e =
          let found_there = found (Register (suc q)) at in
          subst Has_word (same_Some (suc q) r e) (found_there.0.0, (found_there.1, found_there.0.1))
      by (Some (Number zero)) at e = let found_there = found (Number zero) at in subst Has_word (same_Some zero r e) (found_there.0, (refl, omega arith))
      by (Some (Number (suc k))) at e = absurd (cc (e))
      by (Some (Compared c)) at e = absurd (cc (e))
      by (Some (ComparedWith c)) at e = absurd (cc (e))

  abbrev Judged : Comparison → Type 0
  Judged c = (s : Machine) (stood : Stood s) → IsThere (Compared c) (Word (two o a b)) stood.maps s.registers

  judged : (k : Condition) (p q n j : ℕ) (c : Comparison) → x.config.temps p ≡ Word n → x.config.temps q ≡ Word j
      → compared_by k (register_in (source_of hs p)) (register_in (source_of hs q)) ≡ Some c → truth (holds k n j) ≡ two o a b → Judged c
  judged k p q n j c at at' e same s stood =
      let parts = compared_found k (register_in (source_of hs p)) (register_in (source_of hs q)) c e in
      let left = in_register p n c.left s stood at parts.0 in
      let right = in_register q j c.right s stood at' parts.1 in (
        ap (λ (u : Condition). truth (holds u (reads s.registers c.left) (reads s.registers c.right))) (sym parts.2)
            ∙ ap (λ u. truth (holds k u (reads s.registers c.right))) left.0 ∙ ap (λ u. truth (holds k n u)) right.0 ∙ same,
        left.1,
        right.1,
      )

  judges : (p : Binary) → p ≡ o → (c : Comparison) → comparison_of p (source_of hs y) (source_of hs z) ≡ Some c → Judged c
  judges core.Equal same c e = judged condition.Equal y z a b c is is' e (same_truth (nat_eq a b) ∙ ap (λ (p : Binary). two p a b) same)
  judges core.NotEqual same c e = judged condition.NotEqual y z a b c is is' e (same_truth (not (nat_eq a b)) ∙ ap (λ (p : Binary). two p a b) same)
  judges core.Less same c e = judged condition.Less y z a b c is is' e (same_truth (is_less a b) ∙ ap (λ (p : Binary). two p a b) same)
  judges core.LessEqual same c e = judged condition.NotLess z y b a c is' is e (same_truth (not (is_less b a)) ∙ ap (λ (p : Binary). two p a b) same)
  judges core.LessUnsigned same c e = judged condition.LessUnsigned y z a b c is is' e (same_truth (nat_lt a b) ∙ ap (λ (p : Binary). two p a b) same)
  judges core.LessEqualUnsigned same c e = judged condition.NotLessUnsigned z y b a c is' is e
      (same_truth (not (nat_lt b a)) ∙ ap meaning.truth (not_less a b) ∙ ap (λ (p : Binary). two p a b) same)
  judges core.Add same c e = absurd (cc (e))
  judges core.Subtract same c e = absurd (cc (e))
  judges core.Multiply same c e = absurd (cc (e))
  judges core.Divide same c e = absurd (cc (e))
  judges core.DivideUnsigned same c e = absurd (cc (e))
  judges core.Remainder same c e = absurd (cc (e))
  judges core.RemainderUnsigned same c e = absurd (cc (e))
  judges core.And same c e = absurd (cc (e))
  judges core.Or same c e = absurd (cc (e))
  judges core.Xor same c e = absurd (cc (e))
  judges core.ShiftLeft same c e = absurd (cc (e))
  judges core.ShiftRight same c e = absurd (cc (e))
  judges core.ShiftRightUnsigned same c e = absurd (cc (e))

  computed_as : (found : Option Comparison) → compared ≡ found → Applied None None found
  computed_as None e = apply
  computed_as (Some c) e = verdict_into w order x outer mem after t place (Word (two o a b)) hs named c keeps follows (judges o refl c e)

  -- ---- comparisons with numbers

  -- a word is a number where that is known
  is_number : (p n k : ℕ) (s : Machine) (stood : Stood s) → x.config.temps p ≡ Word n → some_number (source_of hs p) ≡ Some k → (k ≡ n) × (k < 2 ^ 32)
  is_number p n k s stood holds e = by (source_of hs p) refl e
    where
      by : (t : Option Source) → source_of hs p ≡ t → some_number t ≡ Some k → (k ≡ n) × (k < 2 ^ 32)
      by None at e = absurd (cc (e))
      by (Some (Register q)) at e = absurd (cc (e))
      by (Some (Number zero)) at e = absurd (cc (e))
      by (Some (Number (suc q))) at e =
          let there = there_found hs p (Number (suc q)) x.config.temps stood.maps s.registers stood.holds at in
          subst (λ k. (k ≡ n) × (k < 2 ^ 32)) (same_Some (suc q) k e) (subst (λ v. Shows stood.maps v (suc q)) holds there.0, there.1)
      by (Some (Compared c)) at e = absurd (cc (e))
      by (Some (ComparedWith c)) at e = absurd (cc (e))

  abbrev Told : NumberComparison → Type 0
  Told n = (s : Machine) (stood : Stood s) → IsThere (ComparedWith n) (Word (two o a b)) stood.maps s.registers

  -- what both sides read is what is compared
  tells : (k : Condition) (n : NumberComparison) (i j : ℕ) (registers : ℕ → ℕ) → k ≡ n.comparison.condition
      → reads (set_register 7 n.number registers) n.comparison.left ≡ i → reads (set_register 7 n.number registers) n.comparison.right ≡ j
      → truth (holds k i j) ≡ two o a b → numbered_verdict n registers ≡ two o a b
  tells k n i j registers is left right same =
      let now = set_register 7 n.number registers in
      ap (λ (u : Condition). truth (holds u (reads now n.comparison.left) (reads now n.comparison.right))) (sym is)
      ∙ ap (λ u. truth (holds k u (reads now n.comparison.right))) left ∙ ap (λ u. truth (holds k i u)) right ∙ same

  judged_with : (k : Condition) (p q i j : ℕ) (n : NumberComparison) → x.config.temps p ≡ Word i → x.config.temps q ≡ Word j
      → numbered k (source_of hs p) (source_of hs q) ≡ Some n → truth (holds k i j) ≡ two o a b → Told n
  judged_with k p q i j n at at' e same s stood =
      ⊎_elim
      (λ (h : SecondIs k (register_in (source_of hs p)) (some_number (source_of hs q)) n).
      let register = in_register p i n.comparison.left s stood at h.side in
      let number = is_number q j n.number s stood at' h.number in
      let apart = spare_apart n.comparison.left 7 register.1.0 refl in (
        tells k n i j s.registers h.condition (read_beside n.comparison.left n.number s.registers register.1.0 ∙ register.0)
            (ap (reads (set_register 7 n.number s.registers)) h.seven ∙ number.0) same,
        number.1,
        (inr register.1, inl h.seven, ap (λ b. b && nat_eq n.comparison.right 7) apart),
      ))
      (λ (h : FirstIs k (some_number (source_of hs p)) (register_in (source_of hs q)) n).
      let register = in_register q j n.comparison.right s stood at' h.side in
      let number = is_number p i n.number s stood at h.number in
      let apart = spare_apart n.comparison.right 7 register.1.0 refl in (
        tells k n i j s.registers h.condition (ap (reads (set_register 7 n.number s.registers)) h.seven ∙ number.0)
            (read_beside n.comparison.right n.number s.registers register.1.0 ∙ register.0) same,
        number.1,
        (inl h.seven, inr register.1, ap (λ b. b && nat_eq n.comparison.right 7) (eq-eqb n.comparison.left 7 h.seven) ∙ apart),
      ))
      (numbered_found k (register_in (source_of hs p)) (some_number (source_of hs p)) (register_in (source_of hs q)) (some_number (source_of hs q)) n e)

  judges_with : (p : Binary) → p ≡ o → (n : NumberComparison) → number_comparison_of p (source_of hs y) (source_of hs z) ≡ Some n → Told n
  judges_with core.Equal same n e = judged_with condition.Equal y z a b n is is' e (same_truth (nat_eq a b) ∙ ap (λ (p : Binary). two p a b) same)
  judges_with core.NotEqual same n e = judged_with condition.NotEqual y z a b n is is' e
      (same_truth (not (nat_eq a b)) ∙ ap (λ (p : Binary). two p a b) same)
  judges_with core.Less same n e = judged_with condition.Less y z a b n is is' e (same_truth (is_less a b) ∙ ap (λ (p : Binary). two p a b) same)
  judges_with core.LessEqual same n e = judged_with condition.NotLess z y b a n is' is e
      (same_truth (not (is_less b a)) ∙ ap (λ (p : Binary). two p a b) same)
  judges_with core.LessUnsigned same n e = judged_with condition.LessUnsigned y z a b n is is' e
      (same_truth (nat_lt a b) ∙ ap (λ (p : Binary). two p a b) same)
  judges_with core.LessEqualUnsigned same n e = judged_with condition.NotLessUnsigned z y b a n is' is e
      (same_truth (not (nat_lt b a)) ∙ ap meaning.truth (not_less a b) ∙ ap (λ (p : Binary). two p a b) same)
  judges_with core.Add same n e = absurd (cc (e))
  judges_with core.Subtract same n e = absurd (cc (e))
  judges_with core.Multiply same n e = absurd (cc (e))
  judges_with core.Divide same n e = absurd (cc (e))
  judges_with core.DivideUnsigned same n e = absurd (cc (e))
  judges_with core.Remainder same n e = absurd (cc (e))
  judges_with core.RemainderUnsigned same n e = absurd (cc (e))
  judges_with core.And same n e = absurd (cc (e))
  judges_with core.Or same n e = absurd (cc (e))
  judges_with core.Xor same n e = absurd (cc (e))
  judges_with core.ShiftLeft same n e = absurd (cc (e))
  judges_with core.ShiftRight same n e = absurd (cc (e))
  judges_with core.ShiftRightUnsigned same n e = absurd (cc (e))

  told_as : (found : Option NumberComparison) → told ≡ found → Applied None found compared
  told_as None e = computed_as compared refl
  told_as (Some n) e = numbered_into w order x outer mem after t place (Word (two o a b)) hs named n keeps follows (judges_with o refl n e)

  found_as : (found : Option ℕ) → same_as o y z (source_of hs y) (source_of hs z) ≡ found → Applied found told compared
  found_as None e = told_as told refl
  found_as (Some r) e = by (same_found o y z r (source_of hs y) (source_of hs z) e)
    where
      by : (o ≡ core.Add) × (((z ≡ r) × (source_of hs y ≡ Some (Number 0))) ⊎ ((y ≡ r) × (source_of hs z ≡ Some (Number 0)))) → Applied (Some r) told compared
      by (sum, inl h) = subst (λ r. Applied (Some r) told compared) h.0 (moves z b named'' served' is' (λ s stood few.
          let none = none_is y a s stood h.1 is in ap (λ (p : Binary). two p a b) sum ∙ omega (arith, none, few)))
      by (sum, inr h) = subst (λ r. Applied (Some r) told compared) h.0 (moves y a named' served is (λ s stood few.
          let none = none_is z b s stood h.1 is' in ap (λ (p : Binary). two p a b) sum ∙ omega (arith, none, few)))

  pub applied : Applied (same_as o y z (source_of hs y) (source_of hs z)) told compared
  applied = found_as (same_as o y z (source_of hs y) (source_of hs z)) refl
