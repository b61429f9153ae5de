-- The bytes at the front that pass a test.
use Rattle.std.proofs.Common.{◌≡◌, ℕ, suc, ◌≤◌, Bool, true, false, List, [], ◌∷◌, ◌++◌, length, refl, ap, ◌∙◌, arith}
use Rattle.std.proofs.lemmas.Bool.{cond_both, cond-true, cond-false, and_parts, and_from}
use Rattle.cyc_lexer.specs.Bytes.{all_bytes}
use Rattle.cyc_lexer.specs.Reading.{run}
use Rattle.cyc_lexer.proofs.Fronts.{Cut}

-- the text is at its end, or goes on with a byte that does not pass
abbrev pub Stops : (ℕ → Bool) → List ℕ → Type 0
Stops test [] = Unit {0}
Stops test (b ∷ bs) = test b ≡ false

abbrev pub IsRun : (ℕ → Bool) → List ℕ → List ℕ → Type 0
IsRun test s rest = (all_bytes test s ≡ true) × Stops test rest

one_more : (test : ℕ → Bool) (b : ℕ) (bs : List ℕ) (n : ℕ) → test b ≡ true → Cut (IsRun test) n bs → Cut (IsRun test) (suc n) (b ∷ bs)
one_more test b bs n h w = record {
  front = b ∷ w.front;
  rest = w.rest;
  is = ap (λ s. b ∷ s) w.is;
  size = ap suc w.size;
  holds = (and_from (test b) (all_bytes test w.front) h w.holds.0, w.holds.1);
}

pub run_cut : (test : ℕ → Bool) (t : List ℕ) → Cut (IsRun test) (run test t) t
run_cut test [] = record { front = []; rest = []; is = refl; size = refl; holds = (refl, tt) }
run_cut test (b ∷ bs) =
    cond_both (test b) (suc (run test bs)) 0 (λ n. Cut (IsRun test) n (b ∷ bs))
    (λ h. one_more test b bs (run test bs) h (run_cut test bs))
    (λ h. record { front = []; rest = b ∷ bs; is = refl; size = refl; holds = (refl, h) })

-- bytes that pass are a part of the run
pub run_covers : (test : ℕ → Bool) (s rest : List ℕ) → all_bytes test s ≡ true → length s ≤ run test (s ++ rest)
run_covers test [] rest h = omega arith
run_covers test (b ∷ bs) rest h =
    let both = and_parts (test b) (all_bytes test bs) h in
    let e = cond-true (test b) (suc (run test (bs ++ rest))) 0 both.0 in
    omega (arith, e, run_covers test bs rest both.1)

-- and the whole of it, where the text then stops
pub run_again : (test : ℕ → Bool) (s rest : List ℕ) → all_bytes test s ≡ true → Stops test rest → run test (s ++ rest) ≡ length s
run_again test [] [] h stops = refl
run_again test [] (b ∷ bs) h stops = cond-false (test b) (suc (run test bs)) 0 stops
run_again test (b ∷ bs) rest h stops =
    let both = and_parts (test b) (all_bytes test bs) h in
    cond-true (test b) (suc (run test (bs ++ rest))) 0 both.0 ∙ ap suc (run_again test bs rest both.1 stops)

-- what passes one test passes a wider one
pub all_bytes_wider : (test wider : ℕ → Bool) (s : List ℕ) → ((b : ℕ) → test b ≡ true → wider b ≡ true) → all_bytes test s ≡ true → all_bytes wider s ≡ true
all_bytes_wider test wider [] h k = refl
all_bytes_wider test wider (b ∷ bs) h k =
    let both = and_parts (test b) (all_bytes test bs) k in
    and_from (wider b) (all_bytes wider bs) (h b both.0) (all_bytes_wider test wider bs h both.1)

pub all_bytes-append : (test : ℕ → Bool) (s r : List ℕ) → all_bytes test s ≡ true → all_bytes test r ≡ true → all_bytes test (s ++ r) ≡ true
all_bytes-append test [] r h k = k
all_bytes-append test (b ∷ bs) r h k =
    let both = and_parts (test b) (all_bytes test bs) h in
    and_from (test b) (all_bytes test (bs ++ r)) both.0 (all_bytes-append test bs r both.1 k)
