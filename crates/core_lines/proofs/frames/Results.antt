-- Values in the registers behind x9: those that a function returns, and those that a call gives.
use Rattle.std.specs.Prelude.{length, nat_eq, ◌||◌}
use Rattle.std.proofs.Common.{
  ◌≡◌,
  ℕ,
  suc,
  ◌+◌,
  ◌^◌,
  ◌<◌,
  ◌≤◌,
  Bool,
  false,
  List,
  [],
  ◌∷◌,
  ◌++◌,
  refl,
  sym,
  ap,
  ◌∙◌,
  subst,
  arith,
  append_assoc,
  append-nil,
  length-append,
}
use Rattle.std.proofs.lemmas.Bool.{ne_eqb, or_from}
use Rattle.core_meaning.specs.Memory.{Content, Memory}
use Rattle.core_meaning.specs.Meaning.{values_of}
use Rattle.core_lines.specs.Machines.{Machine}
use Rattle.core_lines.specs.Lines.{code_length}
use Rattle.core_lines.specs.Held.{Register, Holding, without_register, with_source}
use Rattle.core_lines.specs.Loaded.{unknown_in, loads_of_values}
use Rattle.core_lines.specs.Operands.{into_code, values_code, keep_code}
use Rattle.core_lines.specs.Lies.{Maps, Shows}
use Rattle.core_meaning.specs.Selectable.{AreBelow}
use Rattle.core_lines.proofs.memory.Relations.{World, IsInOrder, Has, Waiting, Follows, keeping, AreKept, flagged_first, flagged_second, InRegisters}
use Rattle.core_lines.proofs.memory.Moving.{Comes, comes_then, comes_as}
use Rattle.core_lines.proofs.memory.Access.{length_of_both}
use Rattle.core_lines.proofs.homes.Homes.{value_free}
use Rattle.core_lines.proofs.frames.Passing.{has_first, has_second}
use Rattle.core_lines.proofs.operations.Registers.{
  AtWith,
  AtHolding,
  InRegister,
  with_there,
  knows,
  now_known,
  having,
  Stable,
  AreThere,
  is_spare,
  there_kept,
  there_source,
  served_one,
  fetch_into,
  keep_into,
}

pub registers_kept : (m : Maps) (r : ℕ) (vs : List Content) (new old : ℕ → ℕ) → ((q : ℕ) → r < q → q ≤ r + length vs → new q ≡ old q)
    → InRegisters m r vs old → InRegisters m r vs new
registers_kept m r [] new old same i = tt
registers_kept m r (v ∷ vs) new old same i =
    let e : new (suc r) ≡ old (suc r) = same (suc r) (omega arith) (omega arith) in (
      subst (λ x. Shows m v x) (sym e) i.0,
      subst (λ x. x < 2 ^ 32) (sym e) i.1,
      registers_kept m (suc r) vs new old (λ q more less. same q (omega (arith, more)) (omega (arith, less))) i.2,
    )

pub registers_more : (m : Maps) (r : ℕ) (vs : List Content) (v : Content) (registers : ℕ → ℕ) → Shows m v (registers (suc (r + length vs)))
    → registers (suc (r + length vs)) < 2 ^ 32 → InRegisters m r vs registers → InRegisters m r (vs ++ v ∷ []) registers
registers_more m r [] v registers shows below i =
    let e : r + 0 ≡ r = omega arith in
    (subst (λ q. Shows m v (registers (suc q))) e shows, subst (λ q. registers (suc q) < 2 ^ 32) e below, tt)
registers_more m r (u ∷ us) v registers shows below i =
    let e : r + length (u ∷ us) ≡ suc r + length us = omega arith in (
      i.0,
      i.1,
      registers_more m (suc r) us v registers (subst (λ q. Shows m v (registers (suc q))) e shows)
          (subst (λ q. registers (suc q) < 2 ^ 32) e below) i.2,
    )

-- ---- those that a function returns

abbrev pub InValues : List Content → Maps → (ℕ → ℕ) → Type 0
InValues done m registers = InRegisters m 9 done registers

abbrev pub ValuesAt : World → Waiting → List Waiting → Memory → List Content → ℕ → Machine → Type 0
ValuesAt w x outer mem done place s = AtWith w x outer mem place (InValues done) s

-- they stay where the register behind them changes
values_stay : (done : List Content) → length done < 8 → Stable (suc (9 + length done)) (InValues done)
values_stay done few m new old kept i = registers_kept m 9 done new old
    (λ q more within. kept q (ne_eqb q 7 (λ e. omega (arith, e, more))) (ne_eqb q (suc (9 + length done)) (λ e. omega (arith, e, within)))) i

module _ (w : World) (order : IsInOrder w) (x : Waiting) (outer : List Waiting) (mem : Memory) where
  -- some are there, and of temporaries this is known
  abbrev Between : List Holding → List Content → ℕ → Machine → Type 0
  Between hs done place s = AtWith w x outer mem place (λ m registers. AreThere hs x.config.temps m registers × InValues done m registers) s

  value_one : (hs : List Holding) (done : List Content) (t place : ℕ) → t < x.fn.temporaries → AreKept w x (unknown_in hs (t ∷ [])) → length done < 8
      → Has w place (into_code x.fn.passed hs (suc (9 + length done)) t)
      → Comes w (Between hs done place) (Between (without_register (suc (9 + length done)) hs) (done ++ x.config.temps t ∷ [])
      (place + code_length (into_code x.fn.passed hs (suc (9 + length done)) t)))
  value_one hs done t place less served few has =
      let r = 9 + length done in
      now_known w order x outer mem (place + code_length (into_code x.fn.passed hs (suc r) t)) _ _ _
      (λ m registers h. (h.1, registers_more m 9 done (x.config.temps t) registers h.0.0 h.0.1 h.2))
      (fetch_into w order x outer mem r t place hs (InValues done) less (served_one w x hs t served) (value_free (suc r) (omega arith) (omega (arith, few)))
      (ne_eqb (suc r) 7 (λ e. omega (arith, e))) (values_stay done few) has)

  values : (hs : List Holding) (done : List Content) (ts : List ℕ) (place : ℕ) → AreBelow x.fn.temporaries ts
      → AreKept w x (loads_of_values hs (9 + length done) ts) → length done + length ts ≤ 8
      → Has w place (values_code x.fn.passed hs (9 + length done) ts)
      → Comes w (Between hs done place)
      (ValuesAt w x outer mem (done ++ values_of x.config.temps ts) (place + code_length (values_code x.fn.passed hs (9 + length done) ts)))
  values hs done [] place within served few has =
      let e : place ≡ place + 0 = omega arith in
      comes_as w _ _ (λ s a. subst (λ vs. ValuesAt w x outer mem vs (place + 0) s) (sym (append-nil done)) (subst (λ p. ValuesAt w x outer mem done p s) e
      (knows w order x outer mem place _ (InValues done) s (λ m registers h. h.1) a)))
  values hs done (t ∷ ts) place within served few has =
      let r = 9 + length done in
      let left = without_register (suc r) hs in
      let first = into_code x.fn.passed hs (suc r) t in
      let others = values_code x.fn.passed left (suc r) ts in
      let v = x.config.temps t in
      let more = done ++ v ∷ [] in
      let longer : 9 + length more ≡ suc r = ap (λ k. 9 + k) (length-append done (v ∷ [])) ∙ omega arith in
      let middle = place + code_length first in
      let rest = subst (λ k. Has w middle (values_code x.fn.passed left k ts)) (sym longer) (has_second w place first others has) in
      let rest_served = subst (λ k. AreKept w x (loads_of_values left k ts)) (sym longer)
      (flagged_second x.kept (unknown_in hs (t ∷ [])) (loads_of_values left (suc r) ts) served) in
      let there : middle + code_length (values_code x.fn.passed left (9 + length more) ts) ≡ place + code_length (first ++ others) =
      ap (λ k. middle + code_length (values_code x.fn.passed left k ts)) longer ∙ omega (arith, length_of_both first others) in
      let same : more ++ values_of x.config.temps ts ≡ done ++ v ∷ values_of x.config.temps ts = append_assoc done (v ∷ []) (values_of x.config.temps ts) in
      comes_then w _ _ _
      (value_one hs done t place within.0 (flagged_first x.kept (unknown_in hs (t ∷ [])) (loads_of_values left (suc r) ts) served) (omega (arith, few))
      (has_first w place first others has))
      (subst (λ p. Comes w (Between left more middle) (ValuesAt w x outer mem (done ++ v ∷ values_of x.config.temps ts) p)) there
      (subst (λ vs. Comes w (Between left more middle) (ValuesAt w x outer mem vs (middle + code_length (values_code x.fn.passed left (9 + length more) ts))))
      same (values left more ts middle within.1 rest_served (omega (arith, few, longer)) rest)))

  pub values_come : (hs : List Holding) (ts : List ℕ) (place : ℕ) → AreBelow x.fn.temporaries ts → AreKept w x (loads_of_values hs 9 ts) → length ts ≤ 8
      → Has w place (values_code x.fn.passed hs 9 ts)
      → Comes w (AtHolding w x outer mem place hs)
      (ValuesAt w x outer mem (values_of x.config.temps ts) (place + code_length (values_code x.fn.passed hs 9 ts)))
  values_come hs ts place within served few has =
      comes_then w _ _ _
      (comes_as w _ (Between hs [] place)
      (λ s a. knows w order x outer mem place _ _ s (λ m registers h. (h, tt)) (with_there w x outer mem place hs s a)))
      (values hs [] ts place within served (omega (arith, few)) has)

-- ---- those that a call gives

-- some are still to be saved, and of temporaries this is known
abbrev pub ResultsAt : World → Waiting → List Waiting → Memory → List Holding → ℕ → List Content → ℕ → Machine → Type 0
ResultsAt w x outer mem hs r vs place s =
    AtWith w x outer mem place (λ m registers. AreThere hs x.config.temps m registers × InRegisters m r vs registers) s

far_free : (r : ℕ) → 9 ≤ r → is_spare (suc r) ≡ false
far_free r far = or_from (nat_eq (suc r) 5) (nat_eq (suc r) 6 || nat_eq (suc r) 7) (ne_eqb (suc r) 5 (λ e. omega (arith, e, far)))
    (or_from (nat_eq (suc r) 6) (nat_eq (suc r) 7) (ne_eqb (suc r) 6 (λ e. omega (arith, e, far))) (ne_eqb (suc r) 7 (λ e. omega (arith, e, far))))

pub result_one : (w : World) (order : IsInOrder w) (x : Waiting) (outer : List Waiting) (mem : Memory) (keeps : Bool) (after : List Bool) (hs : List Holding)
    (r t place : ℕ) (v : Content) (vs : List Content) → t < x.fn.temporaries → Follows keeps (t ∷ []) x.kept after → 9 ≤ r
    → Has w place (keep_code keeps x.fn.passed (suc r) t)
    → Comes w (ResultsAt w x outer mem hs r (v ∷ vs) place)
    (ResultsAt w (keeping after (having t v x)) outer mem (with_source t (Register (suc r)) hs) (suc r) vs
    (place + code_length (keep_code keeps x.fn.passed (suc r) t)))
result_one w order x outer mem keeps after hs r t place v vs less follows far has =
    let free = far_free r far in
    let Others : Maps → (ℕ → ℕ) → Type 0 = λ m registers. AreThere hs x.config.temps m registers × InRegisters m (suc r) vs registers in
    comes_then w _ _ _
    (comes_as w _ _ (λ s a. knows w order x outer mem place _ (λ m registers. InRegister (suc r) v m registers × Others m registers) s
    (λ m registers h. ((h.1.0, h.1.1), (h.0, h.1.2))) a))
    (now_known w order (keeping after (having t v x)) outer mem (place + code_length (keep_code keeps x.fn.passed (suc r) t)) _ _ _
    (λ m registers h. (there_source t v (Register (suc r)) hs x.config.temps m registers (h.0, free) h.1.0, h.1.1))
    (keep_into w order x outer mem keeps after r t place v Others less follows (ne_eqb (suc r) 7 (λ e. omega (arith, e, far)))
    (λ m new old kept h. (
      there_kept 6 hs x.config.temps refl m new old kept h.0,
      registers_kept m (suc r) vs new old
          (λ q more within. kept q (ne_eqb q 7 (λ e. omega (arith, e, more, far))) (ne_eqb q 7 (λ e. omega (arith, e, more, far))))
          h.1,
    )) has))
