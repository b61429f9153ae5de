-- What is known at a call of the environment: its argument, its answer, and the words of other temporaries.
use Rattle.std.specs.Prelude.{if◌then◌else◌}
use Rattle.std.proofs.Common.{◌≡◌, ℕ, suc, ◌+◌, ◌<◌, Bool, true, false, List, [], ◌∷◌, refl, sym, ap, subst, ◌∙◌}
use Rattle.core_meaning.specs.Memory.{Content, Memory}
use Rattle.core_lines.specs.Lines.{code_length}
use Rattle.core_lines.specs.Held.{Register, Holding, is_in, without_register, without_call, with_answer}
use Rattle.core_lines.specs.Operands.{into_code, keep_code}
use Rattle.core_lines.specs.Lies.{Maps, Extends}
use Rattle.core_lines.specs.Machines.{Machine}
use Rattle.core_lines.proofs.memory.Relations.{World, IsInOrder, Has, Waiting, Follows, keeping}
use Rattle.core_lines.proofs.memory.Moving.{Comes, comes_then, comes_as}
use Rattle.core_lines.proofs.operations.Registers.{
  having,
  AtWith,
  AtHolding,
  with_there,
  as_holding,
  InRegister,
  Stable,
  AreThere,
  IsServed,
  knows,
  now_known,
  there_extends,
  there_kept,
  there_without,
  there_source,
  fetch_into,
  keep_into,
}

-- ---- registers that are left out

again : (r : ℕ) (hs : List Holding) → without_register r (without_register r hs) ≡ without_register r hs
again r [] = refl
again r (h ∷ hs) = by (is_in r h.source) refl (again r hs)
  where
    others : List Holding
    others = without_register r hs

    by : (c : Bool) → is_in r h.source ≡ c → without_register r others ≡ others
        → without_register r (if c then others else h ∷ others) ≡ (if c then others else h ∷ others)
    by true is rest = rest
    by false other rest = ap (λ c. if c then without_register r others else h ∷ without_register r others) other ∙ ap (λ l. h ∷ l) rest

either_first : (r q : ℕ) (hs : List Holding) → without_register r (without_register q hs) ≡ without_register q (without_register r hs)
either_first r q [] = refl
either_first r q (h ∷ hs) = by (is_in r h.source) refl (is_in q h.source) refl (either_first r q hs)
  where
    one : List Holding
    one = without_register r hs

    other : List Holding
    other = without_register q hs

    by : (c : Bool) → is_in r h.source ≡ c → (d : Bool) → is_in q h.source ≡ d → without_register r other ≡ without_register q one
        → without_register r (if d then other else h ∷ other) ≡ without_register q (if c then one else h ∷ one)
    by true e true f rest = rest
    by true e false f rest = ap (λ c. if c then without_register r other else h ∷ without_register r other) e ∙ rest
    by false e true f rest = rest ∙ sym (ap (λ c. if c then without_register q one else h ∷ without_register q one) f)
    by false e false f rest =
        ap (λ c. if c then without_register r other else h ∷ without_register r other) e ∙ ap (λ l. h ∷ l) rest
        ∙ sym (ap (λ c. if c then without_register q one else h ∷ without_register q one) f)

-- where a register is left out already, it may change
there_out : (r : ℕ) (hs : List Holding) (temps : ℕ → Content) → without_register (suc r) hs ≡ hs → Stable (suc r) (AreThere hs temps)
there_out r hs temps out m new old kept a = subst (λ l. AreThere l temps m new) out (there_without r hs temps m new old kept a)

module _ (hs : List Holding) where
  abbrev first : List Holding
  first = without_register 10 hs

  abbrev second : List Holding
  second = without_register 11 first

  without_argument : without_register 10 (without_call hs) ≡ without_call hs
  without_argument = either_first 10 17 second ∙ ap (without_register 17) (either_first 10 11 first)
      ∙ ap (λ l. without_register 17 (without_register 11 l)) (again 10 hs)

  without_bytes : without_register 11 (without_call hs) ≡ without_call hs
  without_bytes = either_first 11 17 second ∙ ap (without_register 17) (again 11 first)

  without_number : without_register 17 (without_call hs) ≡ without_call hs
  without_number = again 17 second

-- ---- what stays known

module _ (x : Waiting) (hs : List Holding) where
  -- the words of other temporaries, which a call leaves where they are
  abbrev pub Others : Maps → (ℕ → ℕ) → Type 0
  Others m registers = AreThere (without_call hs) x.config.temps m registers

  pub argument_changes : Stable 10 Others
  argument_changes = there_out 9 (without_call hs) x.config.temps (without_argument hs)

  pub bytes_change : Stable 11 Others
  bytes_change = there_out 10 (without_call hs) x.config.temps (without_bytes hs)

  pub number_changes : Stable 17 Others
  number_changes = there_out 16 (without_call hs) x.config.temps (without_number hs)

  pub first_changes : Stable 5 Others
  first_changes = there_kept 4 (without_call hs) x.config.temps refl

  pub second_changes : Stable 6 Others
  second_changes = there_kept 5 (without_call hs) x.config.temps refl

  -- also where more addresses are known
  pub others_extend : (m n : Maps) (registers : ℕ → ℕ) → Extends m n → Others m registers → Others n registers
  others_extend m n registers extends a = there_extends (without_call hs) x.config.temps m n registers extends a

  -- they are among what is known
  others_left : (m : Maps) (registers : ℕ → ℕ) → AreThere (without_register 10 hs) x.config.temps m registers → Others m registers
  others_left m registers a =
      there_without 16 (without_register 11 (without_register 10 hs)) x.config.temps m registers registers (λ q not7 other. refl)
      (there_without 10 (without_register 10 hs) x.config.temps m registers registers (λ q not7 other. refl) a)

  others_there : (m : Maps) (registers : ℕ → ℕ) → AreThere hs x.config.temps m registers → Others m registers
  others_there m registers a =
      others_left m registers (there_without 9 hs x.config.temps m registers registers (λ q not7 other. refl) a)

-- ---- the code around a call

module _ (w : World) (order : IsInOrder w) (x : Waiting) (outer : List Waiting) (mem : Memory) (hs : List Holding) where
  abbrev Free : Maps → (ℕ → ℕ) → Type 0
  Free m registers = Unit {0}

  -- where there is no argument
  pub without_code : (place : ℕ) → Comes w (AtHolding w x outer mem place hs) (AtWith w x outer mem place (Others x hs))
  without_code place = comes_as w _ _ (λ s a. knows w order x outer mem place _ (Others x hs) s (others_there x hs) (with_there w x outer mem place hs s a))

  -- an argument, where something else is known too
  pub argument_then : (t place : ℕ) (H : Maps → (ℕ → ℕ) → Type 0) → t < x.fn.temporaries → IsServed w x hs t → Stable 10 H
      → Has w place (into_code x.fn.passed hs 10 t)
      → Comes w (AtWith w x outer mem place (λ m registers. AreThere hs x.config.temps m registers × H m registers))
      (AtWith w x outer mem (place + code_length (into_code x.fn.passed hs 10 t))
      (λ m registers. InRegister 10 (x.config.temps t) m registers × Others x hs m registers × H m registers))
  argument_then t place H named served stays has =
      now_known w order x outer mem (place + code_length (into_code x.fn.passed hs 10 t)) _ _ _
      (λ m registers h. (h.0, others_left x hs m registers h.1, h.2))
      (fetch_into w order x outer mem 9 t place hs H named served refl refl stays has)

  -- an argument
  pub argument_into : (t place : ℕ) (v : Content) → t < x.fn.temporaries → IsServed w x hs t → x.config.temps t ≡ v
      → Has w place (into_code x.fn.passed hs 10 t)
      → Comes w (AtHolding w x outer mem place hs)
      (AtWith w x outer mem (place + code_length (into_code x.fn.passed hs 10 t)) (λ m registers. InRegister 10 v m registers × Others x hs m registers))
  argument_into t place v named served is has =
      comes_then w _ _ _
      (comes_as w _ _ (λ s a. knows w order x outer mem place (AreThere hs x.config.temps)
      (λ m registers. AreThere hs x.config.temps m registers × Free m registers) s (λ m registers h. (h, tt)) (with_there w x outer mem place hs s a)))
      (now_known w order x outer mem (place + code_length (into_code x.fn.passed hs 10 t)) _ _ _
      (λ m registers h. (subst (λ c. InRegister 10 c m registers) is h.0, h.1))
      (argument_then t place Free named served (λ m new old kept h. tt) has))

  -- an answer, which is saved or not
  pub answer_kept : (keeps : Bool) (after : List Bool) (t place : ℕ) (v : Content) → t < x.fn.temporaries → Follows keeps (t ∷ []) x.kept after
      → Has w place (keep_code keeps x.fn.passed 10 t)
      → Comes w (AtWith w x outer mem place (λ m registers. InRegister 10 v m registers × Others x hs m registers))
      (AtHolding w (keeping after (having t v x)) outer mem (place + code_length (keep_code keeps x.fn.passed 10 t)) (with_answer t hs))
  answer_kept keeps after t place v named follows has =
      let end = place + code_length (keep_code keeps x.fn.passed 10 t) in
      let y = keeping after (having t v x) in
      comes_then w _ _ _
      (keep_into w order x outer mem keeps after 9 t place v (Others x hs) named follows refl
      (there_kept 6 (without_call hs) x.config.temps refl) has)
      (comes_as w _ _ (λ s a. knows w order y outer mem end _ (AreThere (with_answer t hs) y.config.temps) s
      (λ m registers h. there_source t v (Register 10) (without_call hs) x.config.temps m registers (h.0, refl) h.1) a))

  -- there is none
  pub no_answer : (place : ℕ) (s : Machine) → AtWith w x outer mem place (Others x hs) s → AtHolding w x outer mem place (without_call hs) s
  no_answer place s a = as_holding w x outer mem place (without_call hs) s a
