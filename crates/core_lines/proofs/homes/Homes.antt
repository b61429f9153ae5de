-- The locals that are in registers stay as they are, where registers that only prologues, returns and stores to such locals change do, and where memory grows.
use Rattle.std.specs.Prelude.{nat_eq, ◌||◌}
use Rattle.std.proofs.Common.{◌≡◌, ℕ, suc, ◌≤◌, ◌<◌, ◌^◌, Bool, true, false, List, [], ◌∷◌, Some, None, refl, sym, ap, ◌∙◌, subst, arith}
use Rattle.std.proofs.lemmas.Bool.{eqb-true, or_right}
use Rattle.std.proofs.lemmas.Bool.Decides.{nat_tests}
use Rattle.rv32_machine.specs.State.{Areas, set_register}
use Rattle.core_meaning.specs.Memory.{Frame, Part, Memory}
use Rattle.core_lines.specs.Homes.{is_home, stays}
use Rattle.core_lines.specs.Machines.{Store}
use Rattle.core_lines.specs.Lies.{Maps, Extends, Activation, HomeLies, HomesLie, local_at, Fits, Known, HoldsBlocks}
use Rattle.core_lines.proofs.memory.Fitting.{shows_on, extends_self}

-- ---- registers

-- the stack pointer, x3 and the homes are the same
abbrev pub Stays : (ℕ → ℕ) → (ℕ → ℕ) → Type 0
Stays new old = (q : ℕ) → stays q ≡ true → new q ≡ old q

-- the homes are
abbrev pub SameHomes : (ℕ → ℕ) → (ℕ → ℕ) → Type 0
SameHomes new old = (q : ℕ) → is_home q ≡ true → new q ≡ old q

pub homes_of : (new old : ℕ → ℕ) → Stays new old → SameHomes new old
homes_of new old s q h = s q (or_right (nat_eq q 2) (nat_eq q 3 || is_home q) (or_right (nat_eq q 3) (is_home q) h))

-- a register that stays isn't one that doesn't
pub other_register : (to q : ℕ) → stays to ≡ false → stays q ≡ true → nat_eq q to ≡ false
other_register to q free kept = by (nat_eq q to) refl
  where
    by : (c : Bool) → nat_eq q to ≡ c → nat_eq q to ≡ false
    by true e = absurd (cc (free, kept, ap stays (eqb-true q to e)))
    by false e = e

-- all registers but one and x7 are the same, so those are that stay
pub kept_stays : (to : ℕ) (new old : ℕ → ℕ) → stays to ≡ false
    → ((q : ℕ) → nat_eq q 7 ≡ false → nat_eq q to ≡ false → new q ≡ old q) → Stays new old
kept_stays to new old free kept q h = kept q (other_register 7 q refl h) (other_register to q free h)

pub set_stays : (r v : ℕ) (registers : ℕ → ℕ) → stays (suc r) ≡ false → Stays (set_register (suc r) v registers) registers
set_stays r v registers free q h = rw (other_register (suc r) q free h) refl

pub stays_on : (a b c : ℕ → ℕ) → Stays a b → Stays b c → Stays a c
stays_on a b c x y q h = x q h ∙ y q h

pub other_home : (to q : ℕ) → is_home to ≡ false → is_home q ≡ true → nat_eq q to ≡ false
other_home to q free kept = by (nat_eq q to) refl
  where
    by : (c : Bool) → nat_eq q to ≡ c → nat_eq q to ≡ false
    by true e = absurd (cc (free, kept, ap is_home (eqb-true q to e)))
    by false e = e

pub no_home : (q r : ℕ) → is_home q ≡ false → is_home r ≡ true → nat_eq q r ≡ false
no_home q r free kept = by (nat_eq q r) refl
  where
    by : (c : Bool) → nat_eq q r ≡ c → nat_eq q r ≡ false
    by true e = absurd (cc (free, kept, ap is_home (eqb-true q r e)))
    by false e = e

-- those of arguments and results are free
pub value_free : (q : ℕ) → 10 ≤ q → q ≤ 17 → stays q ≡ false
value_free q low high = grind (arith, nat_tests)

pub value_no_home : (q : ℕ) → 10 ≤ q → q ≤ 17 → is_home q ≡ false
value_no_home q low high = grind (arith, nat_tests)

-- ---- memory

-- No home gets an address, and nothing is stored to one.
pub record Spares (m : Maps) (mem : Memory) (m' : Maps) (mem' : Memory) : Type 0 where
  pub extends : Extends m m'
  pub unbased : (k o : ℕ) → o < mem.objects (Frame k) → m.base (Frame k) o ≡ None → m'.base (Frame k) o ≡ None
  pub made : (k : ℕ) → mem.objects (Frame k) ≤ mem'.objects (Frame k)
  pub parts : (k o : ℕ) → o < mem.objects (Frame k) → m.base (Frame k) o ≡ None → (p : Part) → mem'.parts (local_at k o) 0 ≡ Some p
      → mem.parts (local_at k o) 0 ≡ Some p

-- other regions stand otherwise
pub spares_standing : (m : Maps) (mem mem' : Memory) → mem'.objects ≡ mem.objects → mem'.parts ≡ mem.parts → Spares m mem m mem'
spares_standing m mem mem' objects parts = record {
  extends = extends_self m;
  unbased = λ k o made none. none;
  made = λ k. let e = ap (λ f. f (Frame k)) objects in omega (arith, e);
  parts = λ k o made none p e. ap (λ f. f (local_at k o) 0) (sym parts) ∙ e;
}

pub spares_then : (m : Maps) (mem : Memory) (m1 : Maps) (mem1 : Memory) (m2 : Maps) (mem2 : Memory) → Extends m m2 → Spares m mem m1 mem1
    → Spares m1 mem1 m2 mem2 → Spares m mem m2 mem2
spares_then m mem m1 mem1 m2 mem2 extends a b = record {
  extends = extends;
  unbased = λ k o made none. let more = a.made k in b.unbased k o (omega (arith, made, more)) (a.unbased k o made none);
  made = λ k. let x = a.made k in let y = b.made k in omega (arith, x, y);
  parts = λ k o made none p e. let more = a.made k in a.parts k o made none p (b.parts k o (omega (arith, made, more)) (a.unbased k o made none) p e);
}

pub home_spared : (m : Maps) (mem : Memory) (m' : Maps) (mem' : Memory) (k o value : ℕ) → Spares m mem m' mem' → HomeLies m mem k o value
    → HomeLies m' mem' k o value
home_spared m mem m' mem' k o value s h = record {
  unbased = s.unbased k o h.made h.unbased;
  made = let more = s.made k in let here = h.made in omega (arith, more, here);
  shows = λ p e. shows_on m m' p.content value s.extends (h.shows p (s.parts k o h.made h.unbased p e));
}

-- ---- all homes

home_as : (m : Maps) (mem : Memory) (k o a b : ℕ) → a ≡ b → HomeLies m mem k o a → HomeLies m mem k o b
home_as m mem k o a b e h = subst (λ v. HomeLies m mem k o v) e h

pub homes_on : (m : Maps) (mem : Memory) (fs : List Activation) (new old : ℕ → ℕ) → SameHomes new old → HomesLie m mem fs old → HomesLie m mem fs new
homes_on m mem [] new old same h = λ q is. subst (λ v. v < 2 ^ 32) (sym (same q is)) (h q is)
homes_on m mem (a ∷ fs) new old same h = (
  record {
    small = λ q is. subst (λ v. v < 2 ^ 32) (sym (same q is)) (h.0.small q is);
    lie = λ k o r e. home_as m mem k o (old r) (new r) (sym (same r (h.0.saved k o r e).0)) (h.0.lie k o r e);
    apart = h.0.apart;
    saved = h.0.saved;
    others = λ q is not. same q is ∙ h.0.others q is not;
  },
  h.1,
  h.2,
)

pub homes_spared : (m : Maps) (mem : Memory) (m' : Maps) (mem' : Memory) (fs : List Activation) (registers : ℕ → ℕ) → Spares m mem m' mem'
    → HomesLie m mem fs registers → HomesLie m' mem' fs registers
homes_spared m mem m' mem' [] registers s h = h
homes_spared m mem m' mem' (a ∷ fs) registers s h = (
  record {
    small = h.0.small;
    lie = λ k o r e. home_spared m mem m' mem' k o (registers r) s (h.0.lie k o r e);
    apart = h.0.apart;
    saved = h.0.saved;
    others = h.0.others;
  },
  h.1,
  homes_spared m mem m' mem' fs a.callers s h.2,
)

pub homes_small : (m : Maps) (mem : Memory) (fs : List Activation) (registers : ℕ → ℕ) → HomesLie m mem fs registers
    → (q : ℕ) → is_home q ≡ true → registers q < 2 ^ 32
homes_small m mem [] registers h = h
homes_small m mem (a ∷ fs) registers h = h.0.small

-- ---- what stands

-- another memory lies where one did, with another store
pub record Changed (n : Areas) (m maps : Maps) (fs : List Activation) (mem mem' : Memory) (b : ℕ → ℕ) (st : Store) : Type 0 where
  pub spares : Spares m mem maps mem'
  pub fits : Fits n maps fs mem' b st
  pub known : Known maps mem' st
  pub blocks : HoldsBlocks n st
