-- Spaces and comments are read as they are defined.
use Rattle.std.proofs.Common.{◌≡◌, ℕ, zero, suc, ◌+◌, ◌<◌, true, false, cond, eqb, ◌&&◌, List, [], ◌∷◌, ◌++◌, length, get_or, Contains, Some, None, refl, ap}
use Rattle.std.proofs.Common.{sym, ◌∙◌, subst, arith, inl, inr, length-append, append_assoc}
use Rattle.std.proofs.lemmas.Bool.{cond_both, cond-true, cond-false, and_parts, and_from, and_right, eqb-true, eqb-false, eq-eqb, ne_eqb, not-true, not-false}
use Rattle.std.proofs.lemmas.Bool.{not_from_true, not_from_false, false_from_ne_true}
use Rattle.cyc_lexer.specs.Bytes.{is_space, all_bytes}
use Rattle.cyc_lexer.specs.Lexing.{IsSpace, EndsLine, IsLineComment, HasEnd, IsBlockComment, IsGap}
use Rattle.cyc_lexer.specs.Reading.{longer, run, is_no_line_end, comment_end, comment_at, gap_at}
use Rattle.cyc_lexer.proofs.Fronts.{Cut}
use Rattle.cyc_lexer.proofs.ReadStrings.{longer_is}
use Rattle.cyc_lexer.proofs.ReadRuns.{Stops, run_cut, run_again}

-- ---- line comments

no_line_end : (s : List ℕ) → all_bytes is_no_line_end s ≡ true → (k : ℕ) → k < length s → get_or s k 10 ≡ 10 → ⊥
no_line_end [] h k lt e = absurd (omega arith)
no_line_end (b ∷ bs) h zero lt e =
    eqb-false b 10 (not-true (eqb b 10) (and_parts (is_no_line_end b) (all_bytes is_no_line_end bs) h).0) e
no_line_end (b ∷ bs) h (suc k) lt e =
    no_line_end bs (and_parts (is_no_line_end b) (all_bytes is_no_line_end bs) h).1 k (omega arith) e

all_no_line_end : (s : List ℕ) → (Contains s 10 → ⊥) → all_bytes is_no_line_end s ≡ true
all_no_line_end [] h = refl
all_no_line_end (b ∷ bs) h =
    and_from (is_no_line_end b) (all_bytes is_no_line_end bs)
    (not_from_false (eqb b 10) (ne_eqb b 10 (λ e. h (0, omega arith, e))))
    (all_no_line_end bs (λ c. h (suc c.0, omega (arith, c.1), c.2)))

ends_line : (rest : List ℕ) → Stops is_no_line_end rest → EndsLine rest
ends_line [] h = tt
ends_line (b ∷ bs) h = eqb-true b 10 (not-false (eqb b 10) h)

stops_at_end : (rest : List ℕ) → EndsLine rest → Stops is_no_line_end rest
stops_at_end [] h = tt
stops_at_end (b ∷ bs) h = not_from_true (eqb b 10) (eq-eqb b 10 h)

line_comment : (b c : ℕ) (cs : List ℕ) → b ≡ 47 → c ≡ 47 → Cut IsGap (run is_no_line_end cs + 2) (b ∷ c ∷ cs)
line_comment b c cs e f =
    let w = run_cut is_no_line_end cs in
    record {
      front = b ∷ c ∷ w.front;
      rest = w.rest;
      is = ap (λ s. b ∷ c ∷ s) w.is;
      size = omega (arith, w.size);
      holds = inr (inl (
        w.front,
        ap (λ i. i ∷ c ∷ w.front) e ∙ ap (λ i. 47 ∷ i ∷ w.front) f,
        (λ k. no_line_end w.front w.holds.0 k.0 k.1 k.2),
        ends_line w.rest w.holds.1,
      ));
    }

-- ---- block comments

abbrev IsCommentEnd : List ℕ → List ℕ → Type 0
IsCommentEnd s rest = (inner : List ℕ) × (s ≡ inner ++ 42 ∷ 47 ∷ []) × (HasEnd (inner ++ 42 ∷ []) → ⊥)

no_end_in_one : HasEnd (42 ∷ []) → ⊥
no_end_in_one (front, back, e) = absurd (omega (arith, ap length e, length-append front (42 ∷ 47 ∷ back)))

-- one byte before a comment's end, which is none of it
no_end_before : (b c : ℕ) (bs inner rest : List ℕ) → (eqb b 42 && eqb c 47) ≡ false → c ∷ bs ≡ (inner ++ 42 ∷ 47 ∷ []) ++ rest → (HasEnd (inner ++ 42 ∷ []) → ⊥)
    → HasEnd (b ∷ inner ++ 42 ∷ []) → ⊥
no_end_before b c bs inner rest h is more (x ∷ xs, back, e) =
    let tails : inner ++ 42 ∷ [] ≡ xs ++ 42 ∷ 47 ∷ back = cc in
    more (xs, back, tails)
no_end_before b c bs [] rest h is more ([], back, e) = let never : ◌≡◌ {A = ℕ} 42 47 = ap (λ s. get_or s 1 0) e in absurd (omega arith)
no_end_before b c bs (i ∷ is) rest h whole more ([], back, e) =
    let first : b ≡ 42 = ap (λ s. get_or s 0 0) e in
    let second : c ≡ 47 = ap (λ s. get_or s 0 0) whole ∙ ap (λ s. get_or s 1 0) e in
    let both = and_from (eqb b 42) (eqb c 47) (eq-eqb b 42 first) (eq-eqb c 47 second) in
    absurd (let never : true ≡ false = sym both ∙ h in cc)

end_read : (t : List ℕ) (n : ℕ) → comment_end t ≡ Some n → Cut IsCommentEnd n t
end_read [] n h = let never : None ≡ Some n = h in cc
end_read (b ∷ []) n h = let never : None ≡ Some n = h in cc
end_read (b ∷ c ∷ bs) n known =
    cond_both (eqb b 42 && eqb c 47) (Some 2) (longer 1 (comment_end (c ∷ bs))) (λ o. o ≡ Some n → Cut IsCommentEnd n (b ∷ c ∷ bs))
    (λ g h. (let both = and_parts (eqb b 42) (eqb c 47) g in
    record {
      front = b ∷ c ∷ [];
      rest = bs;
      is = refl;
      size = cc;
      holds = ([], ap (λ i. i ∷ c ∷ []) (eqb-true b 42 both.0) ∙ ap (λ i. 42 ∷ i ∷ []) (eqb-true c 47 both.1), no_end_in_one);
    }))
    (λ g h. (let m = longer_is 1 (comment_end (c ∷ bs)) n h in
    let w = end_read (c ∷ bs) m.0 m.1 in
    record {
      front = b ∷ w.front;
      rest = w.rest;
      is = ap (λ s. b ∷ s) w.is;
      size = omega (arith, w.size, m.2);
      holds = (
        b ∷ w.holds.0,
        ap (λ s. b ∷ s) w.holds.1,
        no_end_before b c bs w.holds.0 w.rest g (w.is ∙ ap (λ s. s ++ w.rest) w.holds.1) w.holds.2,
      );
    })) known

end_later : (i : ℕ) (s : List ℕ) → HasEnd s → HasEnd (i ∷ s)
end_later i s (front, back, e) = (i ∷ front, back, ap (λ t. i ∷ t) e)

end_again : (inner rest : List ℕ) → (HasEnd (inner ++ 42 ∷ []) → ⊥) → comment_end (inner ++ 42 ∷ 47 ∷ rest) ≡ Some (length inner + 2)
end_again [] rest h = refl
end_again (i ∷ []) rest h =
    cond-false (eqb i 42 && eqb 42 47) (Some 2) (longer 1 (comment_end (42 ∷ 47 ∷ rest))) (and_right (eqb i 42) (eqb 42 47) refl)
end_again (i ∷ j ∷ js) rest h =
    let later = j ∷ js ++ 42 ∷ 47 ∷ rest in
    let apart : (eqb i 42 && eqb j 47) ≡ false = false_from_ne_true (eqb i 42 && eqb j 47) (λ g.
    (let both = and_parts (eqb i 42) (eqb j 47) g in
    h ([], js ++ 42 ∷ [], ap (λ k. k ∷ j ∷ js ++ 42 ∷ []) (eqb-true i 42 both.0) ∙ ap (λ k. 42 ∷ k ∷ js ++ 42 ∷ []) (eqb-true j 47 both.1)))) in
    cond-false (eqb i 42 && eqb j 47) (Some 2) (longer 1 (comment_end later)) apart
    ∙ ap (longer 1) (end_again (j ∷ js) rest (λ e. h (end_later i (j ∷ js ++ 42 ∷ []) e)))
    ∙ ap Some (omega arith)

block_comment : (b c m n : ℕ) (cs : List ℕ) → b ≡ 47 → c ≡ 42 → 2 + m ≡ n → Cut IsCommentEnd m cs → Cut IsGap n (b ∷ c ∷ cs)
block_comment b c m n cs e f sum w = record {
  front = b ∷ c ∷ w.front;
  rest = w.rest;
  is = ap (λ s. b ∷ c ∷ s) w.is;
  size = omega (arith, w.size, sum);
  holds = inr (inr (w.holds.0, ap (λ i. i ∷ c ∷ w.front) e ∙ ap (λ i. 47 ∷ i ∷ w.front) f ∙ ap (λ s. 47 ∷ 42 ∷ s) w.holds.1, w.holds.2));
}

-- ---- what is read is a gap

comment_read : (b : ℕ) (bs : List ℕ) (n : ℕ) → b ≡ 47 → comment_at bs ≡ Some n → Cut IsGap n (b ∷ bs)
comment_read b [] n e h = let never : None ≡ Some n = h in cc
comment_read b (c ∷ cs) n e known =
    let block = cond (eqb c 42) (longer 2 (comment_end cs)) None in
    cond_both (eqb c 47) (Some (run is_no_line_end cs + 2)) block (λ o. o ≡ Some n → Cut IsGap n (b ∷ c ∷ cs))
    (λ g h. (let size : run is_no_line_end cs + 2 ≡ n = cc in
    subst (λ (k : ℕ). Cut IsGap k (b ∷ c ∷ cs)) size (line_comment b c cs e (eqb-true c 47 g))))
    (λ g. cond_both (eqb c 42) (longer 2 (comment_end cs)) None (λ o. o ≡ Some n → Cut IsGap n (b ∷ c ∷ cs))
    (λ k h. (let m = longer_is 2 (comment_end cs) n h in block_comment b c m.0 n cs e (eqb-true c 42 k) m.2 (end_read cs m.0 m.1)))
    (λ k h. (let never : None ≡ Some n = h in cc))) known

pub gap_read : (t : List ℕ) (n : ℕ) → gap_at t ≡ Some n → Cut IsGap n t
gap_read [] n h = let never : None ≡ Some n = h in cc
gap_read (b ∷ bs) n known =
    cond_both (is_space b) (Some 1) (cond (eqb b 47) (comment_at bs) None) (λ o. o ≡ Some n → Cut IsGap n (b ∷ bs))
    (λ g h. record { front = b ∷ []; rest = bs; is = refl; size = cc; holds = inl (b, refl, g) })
    (λ g. cond_both (eqb b 47) (comment_at bs) None (λ o. o ≡ Some n → Cut IsGap n (b ∷ bs))
    (λ k h. comment_read b bs n (eqb-true b 47 k) h) (λ k h. (let never : None ≡ Some n = h in cc))) known

-- ---- a gap is read

space_again : (s rest : List ℕ) → IsSpace s → gap_at (s ++ rest) ≡ Some (length s)
space_again s rest (byte, is, h) =
    ap (λ t. gap_at (t ++ rest)) is ∙ cond-true (is_space byte) (Some 1) (cond (eqb byte 47) (comment_at rest) None) h ∙ sym (ap (λ t. Some (length t)) is)

line_again : (s rest : List ℕ) → IsLineComment s rest → gap_at (s ++ rest) ≡ Some (length s)
line_again s rest (inner, is, none, ends) =
    ap (λ t. gap_at (t ++ rest)) is
    ∙ ap (λ n. Some (n + 2)) (run_again is_no_line_end inner rest (all_no_line_end inner none) (stops_at_end rest ends))
    ∙ ap Some (omega (arith, ap length is))

block_again : (s rest : List ℕ) → IsBlockComment s → gap_at (s ++ rest) ≡ Some (length s)
block_again s rest (inner, is, none) =
    ap (λ t. gap_at (t ++ rest)) is
    ∙ ap (λ t. longer 2 (comment_end t)) (append_assoc inner (42 ∷ 47 ∷ []) rest)
    ∙ ap (longer 2) (end_again inner rest none)
    ∙ ap Some (omega (arith, ap length is, length-append inner (42 ∷ 47 ∷ [])))

pub gap_again : (s rest : List ℕ) → IsGap s rest → gap_at (s ++ rest) ≡ Some (length s)
gap_again s rest (inl h) = space_again s rest h
gap_again s rest (inr (inl h)) = line_again s rest h
gap_again s rest (inr (inr h)) = block_again s rest h
