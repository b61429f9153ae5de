-- The longest sign is read.
use Rattle.std.proofs.Common.{cond, subst, ◌≡◌, ℕ, ◌≤◌, true, false, eqb, leb, ◌||◌, inl, inr, List, [], ◌∷◌, ◌++◌, length, map, Option, Some, None, refl, ap}
use Rattle.std.proofs.Common.{sym, ◌∙◌, arith}
use Rattle.std.proofs.lemmas.Bool.{cond_both, and_parts, and_from, or_cases, eqb-true, eq-eqb, leb-true, false≢true, true≢false}
use Rattle.cyc_lexer.specs.Spelling.{sign_text}
use Rattle.cyc_lexer.specs.Lexing.{BeginsComment}
use Rattle.cyc_lexer.specs.Reading.{same, begins_with, find_sign, signs, begins_comment}
use Rattle.cyc_lexer.specs.declared.token.TokenKind.{TokenKind}
use Rattle.cyc_lexer.specs.declared.token.TokenKind.TheVariants as kind
use Rattle.cyc_lexer.specs.declared.token.Sign.{Sign}
use Rattle.cyc_lexer.proofs.ReadWords.{same-true}
use Rattle.cyc_lexer.proofs.Tables.{find_exact, descends, signs_descend, sign_found, sign_list, signs_are_spelled, signs_spelled}

-- ---- a front

pub begins_with-front : (p rest : List ℕ) → begins_with p (p ++ rest) ≡ true
begins_with-front [] rest = refl
begins_with-front (x ∷ xs) rest = and_from (eqb x x) (begins_with xs (xs ++ rest)) (eq-eqb x x refl) (begins_with-front xs rest)

pub begins_with-is : (p t : List ℕ) → begins_with p t ≡ true → (rest : List ℕ) × (t ≡ p ++ rest)
begins_with-is [] t h = (t, refl)
begins_with-is (x ∷ xs) [] h = absurd (false≢true h)
begins_with-is (x ∷ xs) (y ∷ ys) h =
    let both = and_parts (eqb x y) (begins_with xs ys) h in
    let more = begins_with-is xs ys both.1 in
    let first = eqb-true x y both.0 in
    let others = more.1 in
    (more.0, cc)

-- ---- the first sign of a table

-- the first of the signs that stands here, by the spellings of the definition
abbrev pub find_first : List Sign → List ℕ → Option (TokenKind × ℕ)
find_first [] t = None
find_first (k ∷ ks) t = cond (begins_with (sign_text k) t) (Some (kind.Sign k, length (sign_text k))) (find_first ks t)

find_sign-first : (es : List (Sign × List ℕ)) (t : List ℕ) → signs_are_spelled es ≡ true → find_sign es t ≡ find_first (map (λ e. e.0) es) t
find_sign-first [] t h = refl
find_sign-first (e ∷ es) t h =
    let both = and_parts (same e.1 (sign_text e.0)) (signs_are_spelled es) h in
    ap (λ o. cond (begins_with e.1 t) (Some (kind.Sign e.0, length e.1)) o) (find_sign-first es t both.1)
    ∙ ap (λ s. cond (begins_with s t) (Some (kind.Sign e.0, length s)) (find_first (map (λ i. i.0) es) t)) (same-true e.1 (sign_text e.0) both.0)

-- the sign stands in the table
abbrev pub IsListed : List Sign → Sign → Type 0
IsListed ks k = find_exact ks (sign_text k) ≡ Some k

pub record FoundSign (ks : List Sign) (t : List ℕ) (x : TokenKind × ℕ) : Type 0 where
  pub sign : Sign
  pub kind_is : x.0 ≡ kind.Sign sign
  pub size : x.1 ≡ length (sign_text sign)
  pub stands : begins_with (sign_text sign) t ≡ true
  pub longest : (k : Sign) → IsListed ks k → begins_with (sign_text k) t ≡ true → length (sign_text k) ≤ x.1

abbrev pub SignMeans : List Sign → List ℕ → Option (TokenKind × ℕ) → Type 0
SignMeans ks t None = (k : Sign) → IsListed ks k → begins_with (sign_text k) t ≡ true → ⊥
SignMeans ks t (Some x) = FoundSign ks t x

exact_within : (ks : List Sign) (bound : ℕ) (s : List ℕ) (k : Sign) → descends bound ks ≡ true → find_exact ks s ≡ Some k → length s ≤ bound
exact_within [] bound s k h e = let never : None ≡ Some k = e in cc
exact_within (x ∷ xs) bound s k h e =
    let both = and_parts (leb (length (sign_text x)) bound) (descends (length (sign_text x)) xs) h in
    let low = leb-true (length (sign_text x)) bound both.0 in
    cond_both (same s (sign_text x)) (Some x) (find_exact xs s) (λ o. o ≡ Some k → length s ≤ bound)
    (λ g _. omega (arith, low, ap length (same-true s (sign_text x) g)))
    (λ g f. omega (arith, low, exact_within xs (length (sign_text x)) s k both.1 f)) e

first_longest : (x : Sign) (xs : List Sign) (k : Sign) → descends (length (sign_text x)) xs ≡ true → IsListed (x ∷ xs) k
    → length (sign_text k) ≤ length (sign_text x)
first_longest x xs k h =
    cond_both (same (sign_text k) (sign_text x)) (Some x) (find_exact xs (sign_text k)) (λ o. o ≡ Some k → length (sign_text k) ≤ length (sign_text x))
    (λ g _. omega (arith, ap length (same-true (sign_text k) (sign_text x) g)))
    (λ g f. exact_within xs (length (sign_text x)) (sign_text k) k h f)

-- one that stands here, where the first of the table does not, is listed after it
listed_later : (x : Sign) (xs : List Sign) (t : List ℕ) (k : Sign) → begins_with (sign_text x) t ≡ false → begins_with (sign_text k) t ≡ true
    → IsListed (x ∷ xs) k → IsListed xs k
listed_later x xs t k h stands =
    cond_both (same (sign_text k) (sign_text x)) (Some x) (find_exact xs (sign_text k)) (λ o. o ≡ Some k → IsListed xs k)
    (λ g _. absurd (true≢false (sym stands ∙ ap (λ s. begins_with s t) (same-true (sign_text k) (sign_text x) g) ∙ h)))
    (λ g f. f)

past_first : (x : Sign) (xs : List Sign) (t : List ℕ) → begins_with (sign_text x) t ≡ false → (o : Option (TokenKind × ℕ)) → SignMeans xs t o
    → SignMeans (x ∷ xs) t o
past_first x xs t h None m = λ k listed stands. m k (listed_later x xs t k h stands listed) stands
past_first x xs t h (Some y) m = record {
  sign = m.sign;
  kind_is = m.kind_is;
  size = m.size;
  stands = m.stands;
  longest = λ k listed stands. m.longest k (listed_later x xs t k h stands listed) stands;
}

sign_read_in : (ks : List Sign) (bound : ℕ) (t : List ℕ) → descends bound ks ≡ true → SignMeans ks t (find_first ks t)
sign_read_in [] bound t h = λ k e stands. (let never : None ≡ Some k = e in cc)
sign_read_in (x ∷ xs) bound t h =
    let both = and_parts (leb (length (sign_text x)) bound) (descends (length (sign_text x)) xs) h in
    cond_both (begins_with (sign_text x) t) (Some (kind.Sign x, length (sign_text x))) (find_first xs t) (SignMeans (x ∷ xs) t)
    (λ g. record { sign = x; kind_is = refl; size = refl; stands = g; longest = λ k listed stands. first_longest x xs k both.1 listed })
    (λ g. past_first x xs t g (find_first xs t) (sign_read_in xs (length (sign_text x)) t both.1))

pub sign_read : (t : List ℕ) → SignMeans sign_list t (find_sign signs t)
sign_read t = subst (SignMeans sign_list t) (sym (find_sign-first signs t signs_spelled)) (sign_read_in sign_list 8 t signs_descend)

-- signs of one spelling are one
pub same_sign : (k l : Sign) → sign_text k ≡ sign_text l → k ≡ l
same_sign k l e = let both : Some k ≡ Some l = sym (sign_found k) ∙ ap (find_exact sign_list) e ∙ sign_found l in cc

-- ---- where a comment begins

pub comment_begins : (t : List ℕ) → begins_comment t ≡ true → BeginsComment t
comment_begins [] h = absurd (false≢true h)
comment_begins (b ∷ []) h = absurd (false≢true h)
comment_begins (b ∷ c ∷ bs) h =
    let both = and_parts (eqb b 47) (eqb c 47 || eqb c 42) h in
    let first = eqb-true b 47 both.0 in (
      bs,
      elim (or_cases (eqb c 47) (eqb c 42) both.1) [
        | inl k ↦ (let second = eqb-true c 47 k in inl cc)
        | inr k ↦ (let second = eqb-true c 42 k in inr cc)
      ],
    )

pub comment_test : (t : List ℕ) → BeginsComment t → begins_comment t ≡ true
comment_test t (back, inl e) = ap begins_comment e
comment_test t (back, inr e) = ap begins_comment e
