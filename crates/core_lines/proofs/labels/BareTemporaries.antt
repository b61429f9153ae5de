-- Lines that neither place a label nor are conditional jumps: those of slots, temporaries, calls and returns.
use Rattle.std.proofs.Common.{◌≡◌, ℕ, zero, suc, pos, ◌+◌, ◌*◌, Bool, true, nat_eq, List, [], ◌∷◌, Option, Some, None, refl}
use Rattle.std.specs.Prelude.{drop}
use Rattle.core_lines.specs.declared.comparison.Comparison.{Comparison}
use Rattle.cyc_words.specs.declared.faults.Kind.{Kind}
use Rattle.core_lines.specs.declared.line.Line.{Line}
use Rattle.core_lines.specs.declared.line.Line.TheVariants.{Plain, Jump, CallTo}
use Rattle.core_lines.specs.Comparisons.{inverse, branch_if, verdict_code}
use Rattle.core_lines.specs.Lines.{code_length}
use Rattle.core_lines.specs.Frames.{is_short, load_code, save_code, slot_of, raise_code}
use Rattle.core_lines.specs.Checks.{Failure, Always, ByTest, either_code, failure_code, tested_code, check_code}
use Rattle.core_lines.specs.Homes.{flag_at}
use Rattle.core_lines.specs.Held.{Source, Register, Number, Compared, ComparedWith, Holding, source_of, is_zero, without_register}
use Rattle.core_lines.specs.declared.comparison.NumberComparison.{NumberComparison}
use Rattle.core_lines.specs.Operands.{number_code, operand_in, bring_code, operand_code, fetch_code, into_code, keep_code, number_kept, numbered_code}
use Rattle.core_lines.specs.Operands.{verdict_kept, numbered_kept, move_kept, test_in, ready_code, test_ready, stored_code, pass_code, result_code, call_code}
use Rattle.core_lines.specs.Operands.{values_code, return_code}
use Rattle.core_lines.specs.Selected.{far_code, read_line, read_code, write_line, write_code, address_code, further_code, number_in}
use Rattle.core_lines.proofs.labels.BareNumbers.{number_bare, numbered_bare}
use Rattle.core_lines.proofs.labels.BareLines.{are_bare, two, three, four, either, one, verdict_bare}

-- ---- slots and words

pub load_bare : (to k : ℕ) → are_bare (load_code to k) ≡ true
load_bare to k = either (is_short (4 * k)) _ _ refl refl

pub save_bare : (from k : ℕ) → are_bare (save_code from k) ≡ true
save_bare from k = either (is_short (4 * k)) _ _ refl refl

pub address_bare : (to w : ℕ) → are_bare (address_code to w) ≡ true
address_bare to w = either (is_short w) _ _ refl refl

pub further_bare : (to from w : ℕ) → are_bare (further_code to from w) ≡ true
further_bare to from w = either (is_short w) _ _ refl refl

pub read_bare : (to width from w : ℕ) → are_bare (read_code to width from w) ≡ true
read_bare to width from w = either (is_short w) _ _ (one (nat_eq width 1) _ _)
    (two (far_code from w) (read_line to width 7 w ∷ []) refl (one (nat_eq width 1) _ _))

pub write_bare : (value width from w : ℕ) → are_bare (write_code value width from w) ≡ true
write_bare value width from w = either (is_short w) _ _ (one (nat_eq width 1) _ _)
    (two (far_code from w) (write_line value width 7 w ∷ []) refl (one (nat_eq width 1) _ _))

-- ---- temporaries

module _ (passed : ℕ) where
  bring_bare : (spare t : ℕ) (s : Option Source) → are_bare (bring_code passed spare t s) ≡ true
  bring_bare spare t None = load_bare spare (slot_of passed t)
  bring_bare spare t (Some (Register r)) = refl
  bring_bare spare t (Some (Number w)) = number_bare spare w
  bring_bare spare t (Some (Compared c)) = verdict_bare spare c
  bring_bare spare t (Some (ComparedWith n)) = numbered_bare spare n

  pub operand_bare : (hs : List Holding) (spare t : ℕ) → are_bare (operand_code passed hs spare t) ≡ true
  operand_bare hs spare t = bring_bare spare t (source_of hs t)

  pub stored_bare : (hs : List Holding) (spare t : ℕ) → are_bare (stored_code passed hs spare t) ≡ true
  stored_bare hs spare t = either (is_zero (source_of hs t)) _ _ refl (operand_bare hs spare t)

  fetch_bare : (to t : ℕ) (s : Option Source) → are_bare (fetch_code passed to t s) ≡ true
  fetch_bare to t None = load_bare to (slot_of passed t)
  fetch_bare to t (Some (Register r)) = either (nat_eq r to) _ _ refl refl
  fetch_bare to t (Some (Number w)) = number_bare to w
  fetch_bare to t (Some (Compared c)) = verdict_bare to c
  fetch_bare to t (Some (ComparedWith n)) = numbered_bare to n

  ready_bare : (spare t : ℕ) (s : Option Source) → are_bare (ready_code passed spare t s) ≡ true
  ready_bare spare t None = load_bare spare (slot_of passed t)
  ready_bare spare t (Some (Register r)) = refl
  ready_bare spare t (Some (Number w)) = number_bare spare w
  ready_bare spare t (Some (Compared c)) = refl
  ready_bare spare t (Some (ComparedWith n)) = number_bare 7 n.number

  pub test_bare : (hs : List Holding) (spare t : ℕ) → are_bare (test_ready passed hs spare t) ≡ true
  test_bare hs spare t = ready_bare spare t (source_of hs t)

  pub into_bare : (hs : List Holding) (to t : ℕ) → are_bare (into_code passed hs to t) ≡ true
  into_bare hs to t = fetch_bare to t (source_of hs t)

  pass_bare : (hs : List Holding) (k : ℕ) (ts : List ℕ) → are_bare (pass_code passed hs k ts) ≡ true
  pass_bare hs k [] = refl
  pass_bare hs k (t ∷ ts) =
      three (operand_code passed hs 5 t) (save_code (operand_in hs 5 t) (1 + k)) (pass_code passed hs (k + 1) ts) (operand_bare hs 5 t)
      (save_bare (operand_in hs 5 t) (1 + k)) (pass_bare hs (k + 1) ts)

  values_bare : (hs : List Holding) (r : ℕ) (ts : List ℕ) → are_bare (values_code passed hs r ts) ≡ true
  values_bare hs r [] = refl
  values_bare hs r (t ∷ ts) =
      two (into_code passed hs (suc r) t) (values_code passed (without_register (suc r) hs) (suc r) ts) (into_bare hs (suc r) t)
      (values_bare (without_register (suc r) hs) (suc r) ts)

  either_bare : (hs : List Holding) (t : ℕ) (first second : Kind) (number : Option ℕ) → are_bare (either_code passed hs t first second number) ≡ true
  either_bare hs t first second None =
      let branch : List Line = Plain (branch_if (inverse (test_in hs 5 t)) (pos 16)) ∷ [] in
      four (test_ready passed hs 5 t) branch (raise_code first) (raise_code second) (test_bare hs 5 t) refl refl refl
  either_bare hs t first second (Some zero) = refl
  either_bare hs t first second (Some (suc n)) = refl

  failure_bare : (hs : List Holding) (f : Failure) → are_bare (failure_code passed hs f) ≡ true
  failure_bare hs (Always kind) = refl
  failure_bare hs (ByTest t first second) = either_bare hs t first second (number_in (source_of hs t))

  tested_bare : (hs : List Holding) (t : ℕ) (f : Failure) (number : Option ℕ) → are_bare (tested_code passed hs t f number) ≡ true
  tested_bare hs t f None =
      let raising = failure_code passed hs f in
      three (test_ready passed hs 5 t) (Plain (branch_if (test_in hs 5 t) (pos (4 + code_length raising))) ∷ []) raising (test_bare hs 5 t) refl
      (failure_bare hs f)
  tested_bare hs t f (Some zero) = failure_bare hs f
  tested_bare hs t f (Some (suc n)) = refl

  pub check_bare : (hs : List Holding) (t : ℕ) (f : Failure) → are_bare (check_code passed hs t f) ≡ true
  check_bare hs t f = tested_bare hs t f (number_in (source_of hs t))

  pub return_bare : (hs : List Holding) (ts : List ℕ) (exit : ℕ) → are_bare (return_code passed hs ts exit) ≡ true
  return_bare hs ts exit = two (values_code passed hs 9 ts) (Jump exit ∷ []) (values_bare hs 9 ts) refl

  pub keep_bare : (keeps : Bool) (register t : ℕ) → are_bare (keep_code keeps passed register t) ≡ true
  keep_bare keeps register t = either keeps _ _ (save_bare register (slot_of passed t)) refl

  pub number_kept_bare : (keeps : Bool) (t w : ℕ) → are_bare (number_kept keeps passed t w) ≡ true
  number_kept_bare keeps t w =
      either keeps _ _ (two (number_code 5 w) (save_code 5 (slot_of passed t)) (number_bare 5 w) (save_bare 5 (slot_of passed t))) refl

  pub verdict_kept_bare : (keeps : Bool) (t : ℕ) (c : Comparison) → are_bare (verdict_kept keeps passed t c) ≡ true
  verdict_kept_bare keeps t c =
      either keeps _ _ (two (verdict_code 5 c) (save_code 5 (slot_of passed t)) (verdict_bare 5 c) (save_bare 5 (slot_of passed t))) refl

  pub numbered_kept_bare : (keeps : Bool) (t : ℕ) (n : NumberComparison) → are_bare (numbered_kept keeps passed t n) ≡ true
  numbered_kept_bare keeps t n =
      either keeps _ _ (two (numbered_code 5 n) (save_code 5 (slot_of passed t)) (numbered_bare 5 n) (save_bare 5 (slot_of passed t))) refl

  pub move_bare : (keeps : Bool) (own t x : ℕ) (s : Option Source) → are_bare (move_kept keeps passed own t x s) ≡ true
  move_bare keeps own t x None =
      two (load_code own (slot_of passed x)) (keep_code keeps passed own t) (load_bare own (slot_of passed x)) (keep_bare keeps own t)
  move_bare keeps own t x (Some (Register r)) = keep_bare keeps r t
  move_bare keeps own t x (Some (Number w)) = number_kept_bare keeps t w
  move_bare keeps own t x (Some (Compared c)) = verdict_kept_bare keeps t c
  move_bare keeps own t x (Some (ComparedWith n)) = numbered_kept_bare keeps t n

  result_bare : (flags : List Bool) (r : ℕ) (ts : List ℕ) → are_bare (result_code flags passed r ts) ≡ true
  result_bare flags r [] = refl
  result_bare flags r (t ∷ ts) =
      two (keep_code (flag_at flags 0) passed (suc r) t) (result_code (drop 1 flags) passed (suc r) ts) (keep_bare (flag_at flags 0) (suc r) t)
      (result_bare (drop 1 flags) (suc r) ts)

  pub call_bare : (flags : List Bool) (hs : List Holding) (results : List ℕ) (f : ℕ) (arguments : List ℕ)
      → are_bare (call_code flags passed hs results f arguments) ≡ true
  call_bare flags hs results f arguments =
      three (pass_code passed hs 0 arguments) (CallTo f ∷ []) (result_code flags passed 9 results) (pass_bare hs 0 arguments) refl
      (result_bare flags 9 results)
