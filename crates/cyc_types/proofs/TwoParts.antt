-- Two lists, one behind the other: what is left of them, and what they begin with.
use Rattle.std.proofs.Common.{ℕ, zero, suc, ◌≡◌, ◌-◌, List, [], ◌∷◌, ◌++◌, length, take, drop, Bool, true, arith, refl, sym, ap, ◌∙◌}
use Rattle.std.specs.List.{list_all}

pub drop_both : {A : Type 0} (n : ℕ) (xs ys : List A) → drop n (xs ++ ys) ≡ drop n xs ++ drop (n - length xs) ys
drop_both zero [] ys = refl
drop_both zero (x ∷ xs) ys = let none : zero - length (x ∷ xs) ≡ zero = omega arith in ap (λ k. (x ∷ xs) ++ drop k ys) (sym none)
drop_both (suc n) [] ys = let same : suc n - 0 ≡ suc n = omega arith in ap (λ k. drop k ys) (sym same)
drop_both (suc n) (x ∷ xs) ys =
    let same : suc n - length (x ∷ xs) ≡ n - length xs = omega arith in
    drop_both n xs ys ∙ ap (λ k. drop n xs ++ drop k ys) (sym same)

pub take_both : {A : Type 0} (n : ℕ) (xs ys : List A) → take n (xs ++ ys) ≡ take n xs ++ take (n - length xs) ys
take_both zero [] ys = refl
take_both zero (x ∷ xs) ys = let none : zero - length (x ∷ xs) ≡ zero = omega arith in ap (λ k. take k ys) (sym none)
take_both (suc n) [] ys = let same : suc n - 0 ≡ suc n = omega arith in ap (λ k. take k ys) (sym same)
take_both (suc n) (x ∷ xs) ys =
    let same : suc n - length (x ∷ xs) ≡ n - length xs = omega arith in
    ap (λ zs. x ∷ zs) (take_both n xs ys ∙ ap (λ k. take n xs ++ take k ys) (sym same))

pub all_both : {A : Type 0} (p : A → Bool) (xs ys : List A) → list_all p xs ≡ true → list_all p ys ≡ true → list_all p (xs ++ ys) ≡ true
all_both p [] ys h k = k
all_both p (x ∷ xs) ys h k = grind (arith, h, all_both p xs ys, k)
