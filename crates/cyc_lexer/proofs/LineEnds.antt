-- One byte more, at the end of what is counted.
use Rattle.std.proofs.Common.{◌≡◌, ℕ, ◌+◌, ◌<◌, Bool, true, false, cond, eqb, List, [], ◌∷◌, ◌++◌, length, take, get_or, refl, ap, ◌∙◌, arith}
use Rattle.std.proofs.lemmas.List.{take_more}
use Rattle.cyc_lexer.specs.Places.{line_ends, since_line_end}

line_step : (v w : Bool) (m n : ℕ) → m ≡ cond w (n + 1) n → cond v (1 + m) m ≡ cond w (cond v (1 + n) n + 1) (cond v (1 + n) n)
line_step true true m n h = omega arith
line_step true false m n h = omega arith
line_step false true m n h = omega arith
line_step false false m n h = omega arith

line_ends-push : (xs : List ℕ) (b : ℕ) → line_ends (xs ++ b ∷ []) ≡ cond (eqb b 10) (line_ends xs + 1) (line_ends xs)
line_ends-push [] b = refl
line_ends-push (x ∷ xs) b = line_step (eqb x 10) (eqb b 10) (line_ends (xs ++ b ∷ [])) (line_ends xs) (line_ends-push xs b)

since_step : (v : Bool) (f g : ℕ → ℕ) (a b : ℕ) → ((n : ℕ) → f n ≡ g n) → cond v (f a) (f b) ≡ cond v (g a) (g b)
since_step true f g a b h = h a
since_step false f g a b h = h b

since_choice : (v w : Bool) (a b : ℕ) → cond v (cond w 0 (a + 1)) (cond w 0 (b + 1)) ≡ cond w 0 (cond v a b + 1)
since_choice true w a b = refl
since_choice false w a b = refl

since_line_end-push : (n : ℕ) (xs : List ℕ) (b : ℕ) → since_line_end n (xs ++ b ∷ []) ≡ cond (eqb b 10) 0 (since_line_end n xs + 1)
since_line_end-push n [] b = refl
since_line_end-push n (x ∷ xs) b =
    since_step (eqb x 10) (λ m. since_line_end m (xs ++ b ∷ [])) (λ m. cond (eqb b 10) 0 (since_line_end m xs + 1)) 0 (n + 1) (λ m. since_line_end-push m xs b)
    ∙ since_choice (eqb x 10) (eqb b 10) (since_line_end 0 xs) (since_line_end (n + 1) xs)

pub line_ends-more : (xs : List ℕ) (i : ℕ) → i < length xs
    → line_ends (take (i + 1) xs) ≡ cond (eqb (get_or xs i 0) 10) (line_ends (take i xs) + 1) (line_ends (take i xs))
line_ends-more xs i h = ap line_ends (take_more xs i 0 h) ∙ line_ends-push (take i xs) (get_or xs i 0)

pub since_line_end-more : (xs : List ℕ) (i : ℕ) → i < length xs
    → since_line_end 0 (take (i + 1) xs) ≡ cond (eqb (get_or xs i 0) 10) 0 (since_line_end 0 (take i xs) + 1)
since_line_end-more xs i h = ap (since_line_end 0) (take_more xs i 0 h) ∙ since_line_end-push 0 (take i xs) (get_or xs i 0)
