-- The registers of a function's parameters may get them: those that are homes are saved.
use Rattle.std.specs.Prelude.{nat_eq, ◌&&◌, ◌||◌, not, if◌then◌else◌}
use Rattle.std.proofs.Common.{◌≡◌, ℕ, zero, suc, inl, inr, Bool, true, false, List, [], ◌∷◌, refl, subst, ap, sym}
use Rattle.std.proofs.lemmas.Bool.{eq-eqb, eqb-true, or_right}
use Rattle.core_meaning.specs.Core.{Operation, Put, Statement, Do, Statements, NoStatements, MoreStatements, Function}
use Rattle.core_lines.specs.Held.{nth, nth_block}
use Rattle.core_lines.specs.Homes.{is_home, is_among, homes_in, some_of, saved_by}
use Rattle.core_lines.specs.Straight.{home_put, home_put_by}
use Rattle.core_lines.specs.Parameters.{home_put_at, in_first_block, home_or_result, parameter_index}
use Rattle.core_lines.proofs.operations.Holding.{result_stays, result_free}
use Rattle.core_lines.proofs.homes.HomeOperations.{home_not_spare}
use Rattle.core_lines.proofs.homes.Saving.{AreHomeRegisters, saved_homes}
use Rattle.core_lines.proofs.frames.Taking.{MayTake}

-- a home is among those that are none but 0
home_saved : (homes : List ℕ) (i h : ℕ) → nth homes i ≡ suc h → is_among (suc h) (some_of homes) ≡ true
home_saved [] i h e = absurd (cc e)
home_saved (zero ∷ rs) zero h e = absurd (cc e)
home_saved (zero ∷ rs) (suc i) h e = home_saved rs i h e
home_saved (suc r ∷ rs) zero h e = ap (λ c. c || is_among (suc h) (some_of rs)) (eq-eqb (suc h) (suc r) (sym e))
home_saved (suc r ∷ rs) (suc i) h e = or_right (nat_eq (suc h) (suc r)) (is_among (suc h) (some_of rs)) (home_saved rs i h e)

nested_saved : (homes : List ℕ) (out i h : ℕ) → nth (nth_block (homes ∷ []) out) i ≡ suc h → is_among (suc h) (some_of homes) ≡ true
nested_saved homes zero i h e = home_saved homes i h e
nested_saved homes (suc out) i h e = absurd (cc e)

put_saved : (homes : List ℕ) (t h : ℕ) (o : Operation) → home_put (homes ∷ []) t o ≡ suc h → is_among (suc h) (some_of homes) ≡ true
put_saved homes t h (Put out local width x) e = by (nat_eq x t && not (nat_eq width 1)) e
  where
    by : (c : Bool) → (if c then nth (nth_block (homes ∷ []) out) local else 0) ≡ suc h → is_among (suc h) (some_of homes) ≡ true
    by true e = nested_saved homes out local h e
    by false e = absurd (cc e)
put_saved homes t h o e = absurd (cc e)

puts_saved : (homes : List ℕ) (t h : ℕ) (s : Statement) → home_put_by (homes ∷ []) t s ≡ suc h → is_among (suc h) (some_of homes) ≡ true
puts_saved homes t h (Do operation) e = put_saved homes t h operation e
puts_saved homes t h s e = absurd (cc e)

at_saved : (homes : List ℕ) (t k h : ℕ) (ss : Statements) → home_put_at homes t k ss ≡ suc h → is_among (suc h) (some_of homes) ≡ true
at_saved homes t k h NoStatements e = absurd (cc e)
at_saved homes t zero h (MoreStatements s ss) e = puts_saved homes t h s e
at_saved homes t (suc k) h (MoreStatements s ss) e = at_saved homes t k h ss e

among_home : (rs : List ℕ) (r : ℕ) → AreHomeRegisters rs → is_among r rs ≡ true → is_home r ≡ true
among_home [] r are e = absurd (cc e)
among_home (q ∷ rs) r are e = by (nat_eq r q) refl (λ later. among_home rs r are.1 later) e
  where
    by : (c : Bool) → nat_eq r q ≡ c → (is_among r rs ≡ true → is_home r ≡ true) → (c || is_among r rs) ≡ true → is_home r ≡ true
    by true same rest e = subst (λ k. is_home k ≡ true) (sym (eqb-true r q same)) are.0
    by false same rest e = rest e

-- Each register that a parameter is taken into may get it.
pub may_take : (fn : Function) (k : ℕ) → MayTake fn (suc (parameter_index (homes_in fn) fn.body k))
may_take fn k = by (home_put_at (homes_in fn) k k (in_first_block fn.body)) refl
  where
    by : (home : ℕ) → home_put_at (homes_in fn) k k (in_first_block fn.body) ≡ home → MayTake fn (suc (home_or_result k home))
    by zero e = (result_free k, inl (result_stays k))
    by (suc h) e =
        let saved = at_saved (homes_in fn) k k h (in_first_block fn.body) e in
        let home = among_home (saved_by fn) (suc h) (saved_homes fn) saved in
        (home_not_spare (suc h) home, inr (home, saved))
