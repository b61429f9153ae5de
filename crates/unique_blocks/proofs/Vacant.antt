-- Chains of pages with a vacant slot.
use Rattle.std.proofs.Common.{◌≡◌, ℕ, zero, suc, ◌-◌, ◌*◌, ◌/◌, ◌<◌, Bool, true, false, List, [], ◌∷◌, nat_eq, nat_lt, refl, sym, ap, subst, ◌∙◌, arith}
use Rattle.std.specs.Prelude.{◌&&◌, if◌then◌else◌}
use Rattle.std.proofs.lemmas.Bool.Decides.{nat_tests}
use Rattle.arena_laws.specs.Counts.{put, class_of}
use Rattle.arena_laws.specs.Classes.{IsClass}
use Rattle.arena_laws.proofs.Classes.{class_is}
use Rattle.region_runtime.specs.Chains.{times}
use Rattle.unique_blocks.specs.Slots.{Slots, Leads, has_vacancy}

-- a link of a page that isn't on the chain
pub leads_kept : (next : ℕ → ℕ) (p x from : ℕ) (ps : List ℕ) → times p ps ≡ 0 → Leads next from ps → Leads (put p x next) from ps
unfolding times
leads_kept next p x from [] n l = l
leads_kept next p x from (q ∷ ps) n l =
    let other : nat_eq q p ≡ false = grind (arith, nat_tests) in
    let rest : times p ps ≡ 0 = grind (arith, nat_tests) in
    (l.0, subst (λ from. Leads (put p x next) from ps) (ap (λ t. if t then x else next q) (sym other)) (leads_kept next p x (next q) ps rest l.1))

-- no page leads to the empty chain alone
pub none_lead : (next : ℕ → ℕ) (ps : List ℕ) → Leads next 0 ps → (q : ℕ) → times q ps ≡ 0
unfolding times
none_lead next [] l q = refl
none_lead next (p ∷ ps) l q = absurd (let e = l.0 in omega (arith, e))

-- a chain's first page
pub record IsFirst (next : ℕ → ℕ) (from : ℕ) (ps : List ℕ) : Type 0 where
  pub rest : List ℕ
  pub is : ps ≡ (from - 1) ∷ rest
  pub leads : Leads next (next (from - 1)) rest

pub first_leads : (next : ℕ → ℕ) (from : ℕ) (ps : List ℕ) → 0 < from → Leads next from ps → IsFirst next from ps
first_leads next from [] s l = absurd (omega (arith, s, l))
first_leads next from (p ∷ ps) s l =
    let e : p ≡ from - 1 = (let f = l.0 in omega (arith, f)) in
    record { rest = ps; is = ap (λ p. p ∷ ps) e; leads = subst (λ p. Leads next (next p) ps) e l.1 }

pub times_here : (p q : ℕ) (ps : List ℕ) → nat_eq q p ≡ true → times q (p ∷ ps) ≡ suc (times q ps)
unfolding times
times_here p q ps e = rw e refl

pub times_else : (p q : ℕ) (ps : List ℕ) → nat_eq q p ≡ false → times q (p ∷ ps) ≡ times q ps
unfolding times
times_else p q ps e = rw e refl

pub times_none : (q : ℕ) → times q [] ≡ 0
unfolding times
times_none q = refl

pub class_some : (c : ℕ) → class_of c ≡ c → IsClass c
class_some c e = subst IsClass e (class_is c)

pub slots_some : (c : ℕ) → class_of c ≡ c → 0 < 4096 / c
slots_some c e = by_few (4096 / c) refl (class_some c e).whole
  where
    by_few : (n : ℕ) → 4096 / c ≡ n → 4096 / c * c ≡ 4096 → 0 < n
    by_few zero e w = absurd (let z : zero * c ≡ 4096 = ap (λ n. n * c) (sym e) ∙ w in omega (arith, z))
    by_few (suc n) e w = omega arith

pub vacant_else : (s : Slots) (c p : ℕ) → nat_eq (s.class p) c ≡ false → has_vacancy s c p ≡ false
vacant_else s c p e = by_some (nat_lt 0 c)
  where
    by_some : (t : Bool) → ((t && nat_eq (s.class p) c) && nat_lt (s.live p) (4096 / c)) ≡ false
    by_some true = rw e refl
    by_some false = refl

pub vacant_here : (s : Slots) (c p : ℕ) → 0 < c → nat_eq (s.class p) c ≡ true → has_vacancy s c p ≡ nat_lt (s.live p) (4096 / c)
vacant_here s c p l e = let t : nat_lt 0 c ≡ true = grind (arith, nat_tests) in rw (t, e) refl
