-- Which numbers take blocks.
use Rattle.std.proofs.Common.{◌≡◌, ℕ, ◌<◌, Bool, true, false, nat_eq, refl, sym, ap, ◌∙◌, arith}
use Rattle.std.proofs.lemmas.Bool.Decides.{nat_tests}
use Rattle.arena_laws.specs.Lawful.{takes_blocks}
use Rattle.region_runtime.specs.Headers.{is_live_number}
use Rattle.region_runtime.specs.Pool.{standing_by}
use Rattle.region_runtime.proofs.Words.{live_none}

pub heap_serves : (owner : ℕ → ℕ) (h : ℕ) → h ≡ 0 → true ≡ takes_blocks h (standing_by owner h)
heap_serves owner h e =
    let n : is_live_number owner h ≡ false = ap (is_live_number owner) e ∙ live_none owner in
    let z : nat_eq h 0 ≡ true = grind (arith, nat_tests) in sym (rw (n, z) refl)

pub region_serves : (owner : ℕ → ℕ) (h : ℕ) (b : Bool) → (h ≡ 0 → ⊥) → b ≡ is_live_number owner h → b ≡ takes_blocks h (standing_by owner h)
region_serves owner h true z e = let n : is_live_number owner h ≡ true = sym e in sym (rw n refl)
region_serves owner h false z e =
    let n : is_live_number owner h ≡ false = sym e in let k : nat_eq h 0 ≡ false = grind (arith, nat_tests) in sym (rw (n, k) refl)

-- a number that serves is the heap's or live
pub serves_live : (owner : ℕ → ℕ) (h : ℕ) → takes_blocks h (standing_by owner h) ≡ true → 0 < h → is_live_number owner h ≡ true
serves_live owner h e l = by_live (is_live_number owner h) refl
  where
    by_live : (b : Bool) → is_live_number owner h ≡ b → is_live_number owner h ≡ true
    by_live true d = d
    by_live false d =
        let k : nat_eq h 0 ≡ false = grind (arith, nat_tests) in
        let n : takes_blocks h (standing_by owner h) ≡ false = rw (d, k) refl in cc
