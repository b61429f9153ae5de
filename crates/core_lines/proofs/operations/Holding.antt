-- What is known of the words of temporaries besides their slots, at a machine.
use Rattle.std.specs.Prelude.{nat_eq, nat_lt, ◌||◌, ◌&&◌, if◌then◌else◌}
use Rattle.rv32_machine.specs.State.{set_register}
use Rattle.rv32_machine.specs.Step.{truth}
use Rattle.std.proofs.Common.{
  ◌≡◌,
  ℕ,
  zero,
  suc,
  ◌+◌,
  ◌%◌,
  ◌^◌,
  ◌<◌,
  ◌⊎◌,
  inl,
  inr,
  ⊎_elim,
  Bool,
  true,
  false,
  List,
  [],
  ◌∷◌,
  take,
  Option,
  Some,
  None,
  refl,
  sym,
  ap,
  subst,
  ◌∙◌,
  arith,
}
use Rattle.std.proofs.lemmas.Bool.{eq-eqb, ne_eqb, eqb-true}
use Rattle.std.proofs.lemmas.Bool.Decides.{nat_tests}
use Rattle.core_meaning.specs.Memory.{Content}
use Rattle.core_lines.specs.declared.comparison.Comparison.{Comparison}
use Rattle.core_lines.specs.declared.comparison.NumberComparison.{NumberComparison}
use Rattle.core_lines.specs.Comparisons.{holds}
use Rattle.core_meaning.specs.Steps.{set_temp, with_temp}
use Rattle.core_lines.specs.Held.{
  Source,
  Register,
  Number,
  Compared,
  ComparedWith,
  Holding,
  some_source,
  source_of,
  is_in,
  without_register,
  without_temporary,
  with_source,
  with_result,
  result_index,
  result_register,
}
use Rattle.core_lines.specs.Homes.{stays}
use Rattle.core_lines.specs.Lies.{Maps, Extends, Shows}
use Rattle.core_lines.specs.Operands.{register_for, operand_in}
use Rattle.core_lines.proofs.memory.Relations.{Waiting}
pub use Rattle.core_lines.proofs.operations.Serving.{follows_none, IsServed, served_first, served_others, served_one, served_two}
use Rattle.core_lines.proofs.memory.Slots.{Kept, set_there}
pub use Rattle.core_lines.proofs.memory.Verdicts.{reads, is_so, verdict, truth_few}
use Rattle.core_lines.proofs.memory.Alike.{shows_on}

-- an activation with a temporary set
abbrev pub having : ℕ → Content → Waiting → Waiting
having t v x = record x { config = with_temp t v x.config }

-- ---- registers

-- x5, x6 and x7, in which nothing stays
abbrev pub is_spare : ℕ → Bool
is_spare q = nat_eq q 5 || (nat_eq q 6 || nat_eq q 7)

spare_cases : (q : ℕ) → is_spare q ≡ true → (q ≡ 5) ⊎ ((q ≡ 6) ⊎ (q ≡ 7))
spare_cases q spare = grind (arith, nat_tests)

pub spare_leaves : (q : ℕ) → is_spare q ≡ true → stays q ≡ false
spare_leaves q spare = ⊎_elim (λ e. ap stays e) (λ h. ⊎_elim (λ e. ap stays e) (λ e. ap stays e) h) (spare_cases q spare)

pub spare_apart : (q r : ℕ) → is_spare q ≡ false → is_spare r ≡ true → nat_eq q r ≡ false
spare_apart q r free spare = ne_eqb q r (λ e. let same : is_spare q ≡ is_spare r = ap is_spare e in cc)

-- a register has a word that shows a value
abbrev pub InRegister : ℕ → Content → Maps → (ℕ → ℕ) → Type 0
InRegister r v m registers = Shows m v (registers r) × (registers r < 2 ^ 32)

-- an operand's register is the spare one that it was loaded into, or none of them
abbrev pub IsFree : ℕ → ℕ → Type 0
IsFree spare r = (nat_eq r spare ≡ true) ⊎ (is_spare r ≡ false)

abbrev pub InOperand : ℕ → ℕ → Content → Maps → (ℕ → ℕ) → Type 0
InOperand spare r v m registers = InRegister r v m registers × IsFree spare r

-- what goes on being so where no register changes but one, and x7
abbrev pub Stable : ℕ → (Maps → (ℕ → ℕ) → Type 0) → Type 0
Stable r H = (m : Maps) (new old : ℕ → ℕ) → Kept r new old → H m old → H m new

pub register_stays : (q r : ℕ) (v : Content) (m : Maps) (new old : ℕ → ℕ) → Kept r new old → nat_eq q 7 ≡ false → nat_eq q r ≡ false
    → InRegister q v m old → InRegister q v m new
register_stays q r v m new old kept not7 other a = subst (λ n. Shows m v n × (n < 2 ^ 32)) (sym (kept q not7 other)) a

-- an operand stays where another spare register changes
pub operand_stays : (spare r q : ℕ) (v : Content) → nat_eq spare 7 ≡ false → nat_eq spare q ≡ false → is_spare q ≡ true → Stable q (InOperand spare r v)
operand_stays spare r q v not7 other changes m new old kept a = ⊎_elim
    (λ (is : nat_eq r spare ≡ true).
    let same : r ≡ spare = eqb-true r spare is in
    (register_stays r q v m new old kept (ap (λ k. nat_eq k 7) same ∙ not7) (ap (λ k. nat_eq k q) same ∙ other) a.0, a.1))
    (λ (free : is_spare r ≡ false). (register_stays r q v m new old kept (spare_apart r 7 free refl) (spare_apart r q free changes) a.0, a.1))
    a.1

-- ---- the registers of results

result_facts : (k : ℕ) → k < 8 → (stays (suc (if nat_lt k 4 then 11 + k else 23 + k)) ≡ false)
    × (is_spare (suc (if nat_lt k 4 then 11 + k else 23 + k)) ≡ false)
result_facts zero within = (refl, refl)
result_facts (suc zero) within = (refl, refl)
result_facts (suc (suc zero)) within = (refl, refl)
result_facts (suc (suc (suc zero))) within = (refl, refl)
result_facts (suc (suc (suc (suc zero)))) within = (refl, refl)
result_facts (suc (suc (suc (suc (suc zero))))) within = (refl, refl)
result_facts (suc (suc (suc (suc (suc (suc zero)))))) within = (refl, refl)
result_facts (suc (suc (suc (suc (suc (suc (suc zero))))))) within = (refl, refl)
result_facts (suc (suc (suc (suc (suc (suc (suc (suc k)))))))) within = absurd (omega arith)

pub result_stays : (t : ℕ) → stays (result_register t) ≡ false
result_stays t = (result_facts (t % 8) (omega arith)).0

pub result_free : (t : ℕ) → is_spare (result_register t) ≡ false
result_free t = (result_facts (t % 8) (omega arith)).1

-- ---- what is known

-- no code changes a register but for what is known of temporaries, and it has a word
abbrev pub IsSteady : ℕ → (ℕ → ℕ) → Type 0
IsSteady r registers = (is_spare r ≡ false) × (reads registers r < 2 ^ 32)

-- x7, or a register that no code changes but for what is known
abbrev pub IsSide : ℕ → (ℕ → ℕ) → Type 0
IsSide r registers = (r ≡ 7) ⊎ IsSteady r registers

abbrev pub AreSides : Comparison → (ℕ → ℕ) → Type 0
AreSides c registers = IsSide c.left registers × IsSide c.right registers × ((nat_eq c.left 7 && nat_eq c.right 7) ≡ false)

-- the verdict of a comparison with a number, which is that once x7 has the number
abbrev pub numbered_verdict : NumberComparison → (ℕ → ℕ) → ℕ
numbered_verdict n registers = verdict n.comparison (set_register 7 n.number registers)

pub numbered_few : (n : NumberComparison) (registers : ℕ → ℕ) → numbered_verdict n registers < 2 ^ 32
numbered_few n registers = truth_few (is_so n.comparison (set_register 7 n.number registers))

-- a source shows a value
abbrev pub IsThere : Source → Content → Maps → (ℕ → ℕ) → Type 0
IsThere (Register zero) v m registers = Unit {0}
IsThere (Register (suc r)) v m registers = InRegister (suc r) v m registers × (is_spare (suc r) ≡ false)
IsThere (Number n) v m registers = Shows m v n × (n < 2 ^ 32)
IsThere (Compared c) v m registers = Shows m v (verdict c registers) × IsSteady c.left registers × IsSteady c.right registers
IsThere (ComparedWith n) v m registers = Shows m v (numbered_verdict n registers) × (n.number < 2 ^ 32) × AreSides n.comparison registers

-- each temporary's word is where it is said to be
abbrev pub AreThere : List Holding → (ℕ → Content) → Maps → (ℕ → ℕ) → Type 0
AreThere [] temps m registers = Unit {0}
AreThere (h ∷ hs) temps m registers = IsThere h.source (temps h.temporary) m registers × AreThere hs temps m registers

-- also where more addresses are known
source_extends : (s : Source) (v : Content) (m n : Maps) (registers : ℕ → ℕ) → Extends m n → IsThere s v m registers → IsThere s v n registers
source_extends (Register zero) v m n registers e a = tt
source_extends (Register (suc r)) v m n registers e a = ((shows_on m n v (registers (suc r)) e a.0.0, a.0.1), a.1)
source_extends (Number k) v m n registers e a = (shows_on m n v k e a.0, a.1)
source_extends (Compared c) v m n registers e a = (shows_on m n v (verdict c registers) e a.0, a.1, a.2)
source_extends (ComparedWith c) v m n registers e a = (shows_on m n v (numbered_verdict c registers) e a.0, a.1, a.2)

pub there_extends : (hs : List Holding) (temps : ℕ → Content) (m n : Maps) (registers : ℕ → ℕ) → Extends m n → AreThere hs temps m registers
    → AreThere hs temps n registers
there_extends [] temps m n registers e h = tt
there_extends (h ∷ hs) temps m n registers e a =
    (source_extends h.source (temps h.temporary) m n registers e a.0, there_extends hs temps m n registers e a.1)

-- what is looked up is there

some_not_zero : (s : Source) → some_source s ≡ Some (Register zero) → ⊥
some_not_zero (Register zero) e = cc
some_not_zero (Register (suc r)) e = let same : suc r ≡ zero = cc in omega (arith, same)
some_not_zero (Number n) e = cc
some_not_zero (Compared c) e = cc
some_not_zero (ComparedWith n) e = cc

pub source_not_zero : (hs : List Holding) (t : ℕ) → source_of hs t ≡ Some (Register zero) → ⊥
source_not_zero [] t e = cc
source_not_zero (h ∷ hs) t e = by (nat_eq h.temporary t) (source_not_zero hs t) e
  where
    by : (c : Bool) → (source_of hs t ≡ Some (Register zero) → ⊥) → (if c then some_source h.source else source_of hs t) ≡ Some (Register zero) → ⊥
    by true rest e = some_not_zero h.source e
    by false rest e = rest e

some_there : (is s : Source) (v : Content) (m : Maps) (registers : ℕ → ℕ) → some_source is ≡ Some s → IsThere is v m registers → IsThere s v m registers
some_there (Register zero) s v m registers e a = absurd (cc)
some_there (Register (suc r)) s v m registers e a = let same : Register (suc r) ≡ s = cc in subst (λ q. IsThere q v m registers) same a
some_there (Number n) s v m registers e a = let same : Number n ≡ s = cc in subst (λ q. IsThere q v m registers) same a
some_there (Compared c) s v m registers e a = let same : Compared c ≡ s = cc in subst (λ q. IsThere q v m registers) same a
some_there (ComparedWith n) s v m registers e a = let same : ComparedWith n ≡ s = cc in subst (λ q. IsThere q v m registers) same a

pub there_found : (hs : List Holding) (t : ℕ) (s : Source) (temps : ℕ → Content) (m : Maps) (registers : ℕ → ℕ) → AreThere hs temps m registers
    → source_of hs t ≡ Some s → IsThere s (temps t) m registers
there_found [] t s temps m registers a e = absurd (cc)
there_found (h ∷ hs) t s temps m registers a e = by (nat_eq h.temporary t) refl (there_found hs t s temps m registers a.1) e
  where
    by : (c : Bool) → nat_eq h.temporary t ≡ c → (source_of hs t ≡ Some s → IsThere s (temps t) m registers)
        → (if c then some_source h.source else source_of hs t) ≡ Some s → IsThere s (temps t) m registers
    by true same rest e = subst (λ q. IsThere s (temps q) m registers) (eqb-true h.temporary t same)
        (some_there h.source s (temps h.temporary) m registers e a.0)
    by false other rest e = rest e

-- the register of an operand isn't x0
pub operand_some : (hs : List Holding) (spare t : ℕ) → (r : ℕ) × (operand_in hs (suc spare) t ≡ suc r)
operand_some hs spare t = by (source_of hs t) refl
  where
    by : (s : Option Source) → source_of hs t ≡ s → (r : ℕ) × (register_for (suc spare) s ≡ suc r)
    by None e = (spare, refl)
    by (Some (Register zero)) e = absurd (source_not_zero hs t e)
    by (Some (Register (suc r))) e = (r, refl)
    by (Some (Number n)) e = (spare, refl)
    by (Some (Compared c)) e = (spare, refl)
    by (Some (ComparedWith n)) e = (spare, refl)

-- what stays where a register changes

pub reads_kept : (r q : ℕ) (new old : ℕ → ℕ) → Kept r new old → is_spare q ≡ false → nat_eq q r ≡ false → reads old q ≡ reads new q
reads_kept r zero new old kept free other = refl
reads_kept r (suc q) new old kept free other = sym (kept (suc q) (spare_apart (suc q) 7 free refl) other)

pub so_same : (c : Comparison) (new old : ℕ → ℕ) → reads old c.left ≡ reads new c.left → reads old c.right ≡ reads new c.right → is_so c old ≡ is_so c new
so_same c new old left right = ap (λ k. holds c.condition k (reads old c.right)) left ∙ ap (λ k. holds c.condition (reads new c.left) k) right

compared_kept : (r : ℕ) (c : Comparison) (v : Content) → nat_eq c.left r ≡ false → nat_eq c.right r ≡ false → Stable r (IsThere (Compared c) v)
compared_kept r c v left right m new old kept a =
    let same = reads_kept r c.left new old kept a.1.0 left in
    let same' = reads_kept r c.right new old kept a.2.0 right in (
      subst (λ k. Shows m v k) (ap truth (so_same c new old same same')) a.0,
      (a.1.0, subst (λ k. k < 2 ^ 32) same a.1.1),
      (a.2.0, subst (λ k. k < 2 ^ 32) same' a.2.1),
    )

-- where x7 has a number, another register has what it had
pub read_beside : (q n : ℕ) (registers : ℕ → ℕ) → is_spare q ≡ false → reads (set_register 7 n registers) q ≡ reads registers q
read_beside zero n registers free = refl
read_beside (suc q) n registers free = set_there 7 n (suc q) registers (spare_apart (suc q) 7 free refl)

-- a side of a comparison where one register changes, if it isn't that one
side_kept : (r q n : ℕ) (new old : ℕ → ℕ) → Kept r new old → (is_spare q ≡ false → nat_eq q r ≡ false) → IsSide q old
    → (reads (set_register 7 n old) q ≡ reads (set_register 7 n new) q) × IsSide q new
side_kept r q n new old kept apart side = ⊎_elim
    (λ (is : q ≡ 7). (ap (reads (set_register 7 n old)) is ∙ sym (ap (reads (set_register 7 n new)) is), inl is))
    (λ (steady : IsSteady q old).
    let same = reads_kept r q new old kept steady.0 (apart steady.0) in
    (read_beside q n old steady.0 ∙ same ∙ sym (read_beside q n new steady.0), inr (steady.0, subst (λ k. k < 2 ^ 32) same steady.1)))
    side

numbered_kept : (r : ℕ) (n : NumberComparison) (v : Content) → (is_spare n.comparison.left ≡ false → nat_eq n.comparison.left r ≡ false)
    → (is_spare n.comparison.right ≡ false → nat_eq n.comparison.right r ≡ false) → Stable r (IsThere (ComparedWith n) v)
numbered_kept r n v apart apart' m new old kept a =
    let left = side_kept r n.comparison.left n.number new old kept apart a.2.0 in
    let right = side_kept r n.comparison.right n.number new old kept apart' a.2.1 in
    let is = so_same n.comparison (set_register 7 n.number new) (set_register 7 n.number old) left.0 right.0 in
    (subst (λ k. Shows m v k) (ap truth is) a.0, a.1, (left.1, right.1, a.2.2))

or_none : (a b : Bool) → (a || b) ≡ false → (a ≡ false) × (b ≡ false)
or_none true b e = absurd (cc e)
or_none false b e = (refl, e)

source_kept : (r : ℕ) (s : Source) (v : Content) → is_in r s ≡ false → Stable r (IsThere s v)
source_kept r (Register zero) v other m new old kept a = tt
source_kept r (Register (suc q)) v other m new old kept a = (register_stays (suc q) r v m new old kept (spare_apart (suc q) 7 a.1 refl) other a.0, a.1)
source_kept r (Number n) v other m new old kept a = a
source_kept r (Compared c) v other m new old kept a =
    let apart = or_none (nat_eq c.left r) (nat_eq c.right r) other in compared_kept r c v apart.0 apart.1 m new old kept a
source_kept r (ComparedWith n) v other m new old kept a =
    let apart = or_none (nat_eq n.comparison.left r) (nat_eq n.comparison.right r) other in
    numbered_kept r n v (λ free. apart.0) (λ free. apart.1) m new old kept a

pub not_in_spare : (r : ℕ) (s : Source) (v : Content) → is_spare r ≡ true → Stable r (IsThere s v)
not_in_spare r (Register zero) v spare m new old kept a = tt
not_in_spare r (Register (suc q)) v spare m new old kept a =
    (register_stays (suc q) r v m new old kept (spare_apart (suc q) 7 a.1 refl) (spare_apart (suc q) r a.1 spare) a.0, a.1)
not_in_spare r (Number n) v spare m new old kept a = a
not_in_spare r (Compared c) v spare m new old kept a =
    compared_kept r c v (spare_apart c.left r a.1.0 spare) (spare_apart c.right r a.2.0 spare) m new old kept a
not_in_spare r (ComparedWith n) v spare m new old kept a = numbered_kept r n v (λ free. spare_apart n.comparison.left r free spare)
    (λ free. spare_apart n.comparison.right r free spare) m new old kept a

pub there_kept : (r : ℕ) (hs : List Holding) (temps : ℕ → Content) → is_spare (suc r) ≡ true → Stable (suc r) (AreThere hs temps)
there_kept r [] temps spare m new old kept a = tt
there_kept r (h ∷ hs) temps spare m new old kept a =
    (not_in_spare (suc r) h.source (temps h.temporary) spare m new old kept a.0, there_kept r hs temps spare m new old kept a.1)

pub there_without : (r : ℕ) (hs : List Holding) (temps : ℕ → Content) (m : Maps) (new old : ℕ → ℕ) → Kept (suc r) new old → AreThere hs temps m old
    → AreThere (without_register (suc r) hs) temps m new
there_without r [] temps m new old kept a = tt
there_without r (h ∷ hs) temps m new old kept a = by (is_in (suc r) h.source) refl (there_without r hs temps m new old kept a.1)
  where
    by : (c : Bool) → is_in (suc r) h.source ≡ c → AreThere (without_register (suc r) hs) temps m new
        → AreThere (if c then without_register (suc r) hs else h ∷ without_register (suc r) hs) temps m new
    by true is rest = rest
    by false other rest = (source_kept (suc r) h.source (temps h.temporary) other m new old kept a.0, rest)

-- a temporary gets another value

pub there_set : (t : ℕ) (v : Content) (hs : List Holding) (temps : ℕ → Content) (m : Maps) (registers : ℕ → ℕ) → AreThere hs temps m registers
    → AreThere (without_temporary t hs) (set_temp t v temps) m registers
there_set t v [] temps m registers a = tt
there_set t v (h ∷ hs) temps m registers a = by (nat_eq h.temporary t) refl (there_set t v hs temps m registers a.1)
  where
    by : (c : Bool) → nat_eq h.temporary t ≡ c → AreThere (without_temporary t hs) (set_temp t v temps) m registers
        → AreThere (if c then without_temporary t hs else h ∷ without_temporary t hs) (set_temp t v temps) m registers
    by true is rest = rest
    by false other rest = (subst (λ u. IsThere h.source u m registers) (sym (ap (λ c. if c then v else temps h.temporary) other)) a.0, rest)

-- the first so many are there where all are
there_first : (n : ℕ) (hs : List Holding) (temps : ℕ → Content) (m : Maps) (registers : ℕ → ℕ) → AreThere hs temps m registers
    → AreThere (take n hs) temps m registers
there_first zero hs temps m registers a = tt
there_first (suc n) [] temps m registers a = tt
there_first (suc n) (h ∷ hs) temps m registers a = (a.0, there_first n hs temps m registers a.1)

pub there_source : (t : ℕ) (v : Content) (s : Source) (hs : List Holding) (temps : ℕ → Content) (m : Maps) (registers : ℕ → ℕ) → IsThere s v m registers
    → AreThere hs temps m registers → AreThere (with_source t s hs) (set_temp t v temps) m registers
there_source t v s hs temps m registers here a = (
  subst (λ u. IsThere s u m registers) (sym (ap (λ c. if c then v else temps t) (eq-eqb t t refl))) here,
  there_first 31 (without_temporary t hs) (set_temp t v temps) m registers (there_set t v hs temps m registers a),
)

-- what is known of other temporaries goes on being so
there_others : (t : ℕ) (hs : List Holding) (temps : ℕ → Content) (m : Maps) (registers : ℕ → ℕ) → AreThere hs temps m registers
    → AreThere (without_temporary t hs) temps m registers
there_others t [] temps m registers a = tt
there_others t (h ∷ hs) temps m registers a = by (nat_eq h.temporary t) (there_others t hs temps m registers a.1)
  where
    by : (c : Bool) → AreThere (without_temporary t hs) temps m registers
        → AreThere (if c then without_temporary t hs else h ∷ without_temporary t hs) temps m registers
    by true rest = rest
    by false rest = (a.0, rest)

-- a temporary's word is also known to be there
pub there_also : (t : ℕ) (s : Source) (hs : List Holding) (temps : ℕ → Content) (m : Maps) (registers : ℕ → ℕ) → IsThere s (temps t) m registers
    → AreThere hs temps m registers → AreThere (with_source t s hs) temps m registers
there_also t s hs temps m registers here a =
    (here, there_first 31 (without_temporary t hs) temps m registers (there_others t hs temps m registers a))

-- where a temporary gets another source, it doesn't matter which one it had
had_another : (t r : ℕ) (s : Source) (hs : List Holding)
    → without_temporary t (without_register r (record { temporary = t; source = s } ∷ hs)) ≡ without_temporary t (without_register r hs)
had_another t r s hs = by (is_in r s)
  where
    others : List Holding
    others = without_register r hs

    by : (c : Bool) → without_temporary t (if c then others else record { temporary = t; source = s } ∷ others) ≡ without_temporary t others
    by true = refl
    by false = ap (λ c. if c then without_temporary t others else record { temporary = t; source = s } ∷ without_temporary t others) (eq-eqb t t refl)

-- a temporary's word is in another register than that of its results
pub there_elsewhere : (t r : ℕ) (v : Content) (hs : List Holding) (temps : ℕ → Content) (m : Maps) (new old : ℕ → ℕ) → InRegister (suc r) v m new
    → is_spare (suc r) ≡ false → Kept (suc r) new old → AreThere hs temps m old
    → AreThere (with_source t (Register (suc r)) (without_register (suc r) (with_result t hs))) (set_temp t v temps) m new
there_elsewhere t r v hs temps m new old here free kept a =
    let s = Register (result_register t) in
    let set = set_temp t v temps in
    let own = without_register (result_register t) hs in
    let others = take 31 (without_temporary t own) in
    let before : AreThere others set m old = there_first 31 (without_temporary t own) set m old
    (there_set t v own temps m old (there_without (result_index t) hs temps m old old (λ q a b. refl) a)) in
    let after = there_others t (without_register (suc r) others) set m new (there_without r others set m new old kept before) in (
      subst (λ u. IsThere (Register (suc r)) u m new) (sym (ap (λ c. if c then v else temps t) (eq-eqb t t refl))) (here, free),
      there_first 31 (without_temporary t (without_register (suc r) (with_result t hs))) set m new
          (subst (λ ls. AreThere ls set m new) (sym (had_another t (suc r) s others)) after),
    )
