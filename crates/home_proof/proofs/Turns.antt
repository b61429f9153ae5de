-- Registers that are given in turn: over distinct numbers, the register of each is that of its place in the list.
use Rattle.std.specs.Prelude.{◌||◌, nat_eq, if◌then◌else◌}
use Rattle.std.proofs.Common.{◌≡◌, ℕ, zero, suc, Bool, true, false, List, [], ◌∷◌, map, refl, sym, ap, ◌∙◌}
use Rattle.std.proofs.lemmas.Bool.{eq-eqb, eqb-true}
use Rattle.core_lines.specs.Homes.{flag_at, home_for, is_among}
use Rattle.core_lines.proofs.homes.HomeWords.{home_flag}
use Rattle.home_proof.specs.Names.{in_turn}

-- distinct numbers
abbrev pub AreApart : List ℕ → Type 0
AreApart [] = Unit {0}
AreApart (n ∷ ns) = (is_among n ns ≡ false) × AreApart ns

-- what is taken for one number leaves those that are none as they were
map_others : (other : ℕ → ℕ) (n r : ℕ) (ns : List ℕ) → is_among n ns ≡ false → map (λ i. if nat_eq i n then r else other i) ns ≡ map other ns
map_others other n r [] apart = refl
map_others other n r (m ∷ ms) apart =
    by (nat_eq m n) (nat_eq n m) (is_among n ms) refl refl refl apart (λ later. map_others other n r ms later)
  where
    by : (a b c : Bool) → nat_eq m n ≡ a → nat_eq n m ≡ b → is_among n ms ≡ c → (b || c) ≡ false
        → (is_among n ms ≡ false → map (λ i. if nat_eq i n then r else other i) ms ≡ map other ms)
        → ((if a then r else other m) ∷ map (λ i. if nat_eq i n then r else other i) ms) ≡ (other m ∷ map other ms)
    by a true c first second third e later = absurd (cc e)
    by a false true first second third e later = absurd (cc e)
    by true false false first second third e later =
        let here : nat_eq n m ≡ true = eq-eqb n m (sym (eqb-true m n first)) in absurd (cc (here, second))
    by false false false first second third e later = ap (λ rest. other m ∷ rest) (later third)

-- behind the last register there is none
none_left : (flags : List Bool) (ns : List ℕ) → map (λ (i : ℕ). 0) ns ≡ in_turn (map (flag_at flags) ns) []
none_left flags [] = refl
none_left flags (n ∷ ns) = by (flag_at flags n) (none_left flags ns)
  where
    by : (b : Bool) → map (λ (i : ℕ). 0) ns ≡ in_turn (map (flag_at flags) ns) [] → 0 ∷ map (λ (i : ℕ). 0) ns ≡ in_turn (b ∷ map (flag_at flags) ns) []
    by true e = ap (λ rest. 0 ∷ rest) e
    by false e = ap (λ rest. 0 ∷ rest) e

-- what isn't marked has none
no_home : (flags : List Bool) (ns rs : List ℕ) (n : ℕ) → flag_at flags n ≡ false → home_for flags ns rs n ≡ 0
no_home flags ns rs n e = by (home_for flags ns rs n) refl
  where
    by : (r : ℕ) → home_for flags ns rs n ≡ r → r ≡ 0
    by zero is = refl
    by (suc r) is = let marked = home_flag flags ns rs n r is in absurd (cc (marked, e))

pub in_turns : (flags : List Bool) (ns rs : List ℕ) → AreApart ns → map (home_for flags ns rs) ns ≡ in_turn (map (flag_at flags) ns) rs
in_turns flags [] rs apart = refl
in_turns flags (n ∷ ns) [] apart = none_left flags (n ∷ ns)
in_turns flags (n ∷ ns) (r ∷ rs) apart = by (flag_at flags n) refl (in_turns flags ns rs apart.1) (in_turns flags ns (r ∷ rs) apart.1)
  where
    same : nat_eq n n ≡ true
    same = eq-eqb n n refl

    by : (b : Bool) → flag_at flags n ≡ b
        → map (home_for flags ns rs) ns ≡ in_turn (map (flag_at flags) ns) rs
        → map (home_for flags ns (r ∷ rs)) ns ≡ in_turn (map (flag_at flags) ns) (r ∷ rs)
        → map (λ i. if b then (if nat_eq i n then r else home_for flags ns rs i) else home_for flags ns (r ∷ rs) i) (n ∷ ns)
        ≡ in_turn (b ∷ map (flag_at flags) ns) (r ∷ rs)
    by true e one other =
        ap (λ c. (if c then r else home_for flags ns rs n) ∷ map (λ i. if nat_eq i n then r else home_for flags ns rs i) ns) same
        ∙ ap (λ rest. r ∷ rest) (map_others (home_for flags ns rs) n r ns apart.0 ∙ one)
    by false e one other =
        ap (λ first. first ∷ map (home_for flags ns (r ∷ rs)) ns) (no_home flags ns (r ∷ rs) n e)
        ∙ ap (λ rest. 0 ∷ rest) other
