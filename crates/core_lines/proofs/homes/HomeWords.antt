-- A local with a home takes a word of a frame less, and there are as many as registers that are saved.
use Rattle.std.specs.Prelude.{nat_eq, not, ◌&&◌, ◌||◌, length, if◌then◌else◌}
use Rattle.std.proofs.Common.{◌≡◌, ℕ, zero, suc, ◌+◌, ◌*◌, ◌/◌, ◌≤◌, ◌<◌, ◌⊎◌, inl, inr, ⊎_elim, Bool, true, false, List, [], ◌∷◌, ◌++◌, refl, sym, ap, ◌∙◌}
use Rattle.std.proofs.Common.{subst, arith, length-append}
use Rattle.std.proofs.lemmas.Bool.{eqb-true, and_parts, or_cases}
use Rattle.core_meaning.specs.Memory.{PartShape}
use Rattle.core_meaning.specs.Core.{Local, Statement, Do, If, While, Block, Leave, Break, Continue, Call, Return, Raise}
use Rattle.core_meaning.specs.Core.{Statements, NoStatements, MoreStatements, Function}
use Rattle.core_lines.specs.Homes.{fills, is_scalar, addressed_of, eligible_from, eligible, eligible_of, flag_at, home_for, homes_from, home_in, home_registers}
use Rattle.core_lines.specs.Homes.{some_of, saved_by}
use Rattle.core_lines.specs.Selected.{shrink, shrunk, homes_here, homes_after, names_after, names_after_all, shrunk_in, shrunk_of, placed_body}
use Rattle.core_meaning.specs.Bounds.{local_words, statement_words, block_words}

-- ---- a local that may have a home takes a word

pub fills_bytes : (bytes : ℕ) (cells : List (List PartShape)) → fills bytes cells ≡ true → (bytes ≡ 1) ⊎ (bytes ≡ 4)
fills_bytes bytes [] e = absurd (cc e)
fills_bytes bytes ([] ∷ cs) e = absurd (cc e)
fills_bytes bytes ((s ∷ t ∷ ss) ∷ cs) e = absurd (cc e)
fills_bytes bytes ((s ∷ []) ∷ c ∷ cs) e = absurd (cc e)
fills_bytes bytes ((s ∷ []) ∷ []) e =
    let a = and_parts (nat_eq s.offset 0) (nat_eq s.width bytes && (nat_eq bytes 1 || nat_eq bytes 4)) e in
    let b = and_parts (nat_eq s.width bytes) (nat_eq bytes 1 || nat_eq bytes 4) a.1 in
    ⊎_elim (λ (one : nat_eq bytes 1 ≡ true). inl (eqb-true bytes 1 one)) (λ (four : nat_eq bytes 4 ≡ true). inr (eqb-true bytes 4 four))
    (or_cases (nat_eq bytes 1) (nat_eq bytes 4) b.1)

pub record IsWord (l : Local) : Type 0 where
  pub some : 0 < l.count * l.layout.bytes
  pub few : l.count * l.layout.bytes ≤ 4

pub scalar_word : (l : Local) → is_scalar l ≡ true → IsWord l
scalar_word l e =
    let both = and_parts (nat_eq l.count 1) (fills l.layout.bytes l.layout.cells) e in
    let one = eqb-true l.count 1 both.0 in
    let product : l.count * l.layout.bytes ≡ 1 * l.layout.bytes = ap (λ n. n * l.layout.bytes) one in
    ⊎_elim (λ (h : l.layout.bytes ≡ 1). record { some = omega (arith, product, h); few = omega (arith, product, h) })
    (λ (h : l.layout.bytes ≡ 4). record { some = omega (arith, product, h); few = omega (arith, product, h) })
    (fills_bytes l.layout.bytes l.layout.cells both.1)

-- ---- flags by number

-- from one number on these are the flags
abbrev pub AreFlags : (ℕ → Bool) → ℕ → List Bool → Type 0
AreFlags flag i [] = Unit {0}
AreFlags flag i (b ∷ bs) = (flag i ≡ b) × AreFlags flag (suc i) bs

pub flags_first : (flag : ℕ → Bool) (i : ℕ) (bs cs : List Bool) → AreFlags flag i (bs ++ cs) → AreFlags flag i bs
flags_first flag i [] cs f = tt
flags_first flag i (b ∷ bs) cs f = (f.0, flags_first flag (suc i) bs cs f.1)

pub flags_second : (flag : ℕ → Bool) (i : ℕ) (bs cs : List Bool) → AreFlags flag i (bs ++ cs) → AreFlags flag (i + length bs) cs
flags_second flag i [] cs f = let e : i ≡ i + 0 = omega arith in subst (λ k. AreFlags flag k cs) e f
flags_second flag i (b ∷ bs) cs f =
    let e : suc i + length bs ≡ i + length (b ∷ bs) = omega arith in subst (λ k. AreFlags flag k cs) e (flags_second flag (suc i) bs cs f.1)

pub flags_are : (bs : List Bool) → AreFlags (flag_at bs) 0 bs
flags_are bs = from [] bs
  where
    there : (before : List Bool) (b : Bool) (bs : List Bool) → flag_at (before ++ b ∷ bs) (length before) ≡ b
    there [] b bs = refl
    there (c ∷ before) b bs = there before b bs

    from : (before bs : List Bool) → AreFlags (flag_at (before ++ bs)) (length before) bs
    from before [] = tt
    from before (b ∷ bs) = (
      there before b bs,
      (
          let longer : length (before ++ b ∷ []) ≡ suc (length before) = length-append before (b ∷ []) ∙ plus_one (length before) in
          subst (λ k. AreFlags (flag_at (before ++ b ∷ bs)) k bs) longer
          (subst (λ (xs : List Bool). AreFlags (flag_at xs) (length (before ++ b ∷ [])) bs) (Rattle.std.proofs.Common.append_assoc before (b ∷ []) bs)
          (from (before ++ b ∷ []) bs))
          ),
    )
      where
        plus_one : (n : ℕ) → n + 1 ≡ suc n
        plus_one n = omega arith

-- the register of a local that has one
pub home_flag : (flags : List Bool) (ns rs : List ℕ) (i r : ℕ) → home_for flags ns rs i ≡ suc r → flag_at flags i ≡ true
home_flag flags [] rs i r e = absurd (cc e)
home_flag flags (n ∷ ns) [] i r e = absurd (cc e)
home_flag flags (n ∷ ns) (q ∷ rs) i r e =
    by (flag_at flags n) (nat_eq i n) refl refl e (λ later. home_flag flags ns rs i r later) (λ later. home_flag flags ns (q ∷ rs) i r later)
  where
    by : (b c : Bool) → flag_at flags n ≡ b → nat_eq i n ≡ c
        → (if b then (if c then q else home_for flags ns rs i) else home_for flags ns (q ∷ rs) i) ≡ suc r
        → (home_for flags ns rs i ≡ suc r → flag_at flags i ≡ true) → (home_for flags ns (q ∷ rs) i ≡ suc r → flag_at flags i ≡ true)
        → flag_at flags i ≡ true
    by true true f s e one other = ap (λ k. flag_at flags k) (eqb-true i n s) ∙ f
    by true false f s e one other = one e
    by false c f s e one other = other e

-- ---- homes by number

none_split : (home : ℕ → ℕ) (i b : ℕ) → homes_from home i (0 + b) ≡ homes_from home (i + 0) b
none_split home i b =
    let n : 0 + b ≡ b = omega arith in let e : i ≡ i + 0 = omega arith in ap (λ k. homes_from home i k) n ∙ ap (λ k. homes_from home k b) e

pub homes_split : (home : ℕ → ℕ) (i a b : ℕ) → homes_from home i (a + b) ≡ homes_from home i a ++ homes_from home (i + a) b
homes_split home i zero b = none_split home i b
homes_split home i (suc a) b =
    let e : suc i + a ≡ i + suc a = omega arith in
    let n : suc a + b ≡ suc (a + b) = omega arith in
    ap (λ k. homes_from home i k) n ∙ ap (λ hs. home i ∷ hs) (homes_split home (suc i) a b ∙ ap (λ k. homes_from home (suc i) a ++ homes_from home k b) e)

some_append : (xs ys : List ℕ) → length (some_of (xs ++ ys)) ≡ length (some_of xs) + length (some_of ys)
some_append [] ys = let e : length (some_of ys) ≡ 0 + length (some_of ys) = omega arith in e
some_append (zero ∷ xs) ys = some_append xs ys
some_append (suc x ∷ xs) ys = let rest = some_append xs ys in omega (arith, rest)

some_split : (home : ℕ → ℕ) (i a b : ℕ) → length (some_of (homes_from home i (a + b)))
    ≡ length (some_of (homes_from home i a)) + length (some_of (homes_from home (i + a) b))
some_split home i a b = ap (λ (hs : List ℕ). length (some_of hs)) (homes_split home i a b) ∙ some_append (homes_from home i a) (homes_from home (i + a) b)

-- what a block takes of them
pub as_many_flags : (n : ℕ) (ls : List Local) (body : Statements) → length (eligible_from n ls body) ≡ length ls
as_many_flags n [] body = refl
as_many_flags n (l ∷ ls) body = ap suc (as_many_flags (suc n) ls body)

pub here_are : (home : ℕ → ℕ) (ls : List Local) (i b : ℕ) → homes_here ls (homes_from home i (length ls + b)) ≡ homes_from home i (length ls)
here_are home [] i b = refl
here_are home (l ∷ ls) i b =
    let n : suc (length ls) + b ≡ suc (length ls + b) = omega arith in
    ap (λ k. homes_here (l ∷ ls) (homes_from home i k)) n ∙ ap (λ hs. home i ∷ hs) (here_are home ls (suc i) b)

pub after_are : (home : ℕ → ℕ) (ls : List Local) (i b : ℕ) → homes_after ls (homes_from home i (length ls + b)) ≡ homes_from home (i + length ls) b
after_are home [] i b = none_split home i b
after_are home (l ∷ ls) i b =
    let e : suc i + length ls ≡ i + length (l ∷ ls) = omega arith in
    let n : suc (length ls) + b ≡ suc (length ls + b) = omega arith in
    ap (λ k. homes_after (l ∷ ls) (homes_from home i k)) n ∙ after_are home ls (suc i) b ∙ ap (λ k. homes_from home k b) e

both_are : (home : ℕ → ℕ) (ss more : Statements) (i b : ℕ)
    → names_after_all ss (homes_from home i (length (eligible_of ss) + (length (eligible_of more) + b)))
    ≡ homes_from home (i + length (eligible_of ss)) (length (eligible_of more) + b)
    → names_after_all more (homes_from home (i + length (eligible_of ss)) (length (eligible_of more) + b))
    ≡ homes_from home (i + length (eligible_of ss) + length (eligible_of more)) b
    → names_after_all more (names_after_all ss (homes_from home i (length (eligible_of ss ++ eligible_of more) + b)))
    ≡ homes_from home (i + length (eligible_of ss ++ eligible_of more)) b
both_are home ss more i b first second =
    let many = length-append (eligible_of ss) (eligible_of more) in
    let count : length (eligible_of ss ++ eligible_of more) + b ≡ length (eligible_of ss) + (length (eligible_of more) + b) = omega (arith, many) in
    let end : i + length (eligible_of ss) + length (eligible_of more) ≡ i + length (eligible_of ss ++ eligible_of more) = omega (arith, many) in
    ap (λ n. names_after_all more (names_after_all ss (homes_from home i n))) count
    ∙ ap (λ hs. names_after_all more hs) first ∙ second ∙ ap (λ k. homes_from home k b) end

-- and a statement
mutual
  pub names_are : (home : ℕ → ℕ) (s : Statement) (i b : ℕ)
      → names_after s (homes_from home i (length (eligible s) + b)) ≡ homes_from home (i + length (eligible s)) b
  names_are home (Do operation) i b = none_split home i b
  names_are home (If t these those) i b = both_are home these those i b (all_names_are home these i (length (eligible_of those) + b))
      (all_names_are home those (i + length (eligible_of these)) b)
  names_are home (While test t body) i b = both_are home test body i b (all_names_are home test i (length (eligible_of body) + b))
      (all_names_are home body (i + length (eligible_of test)) b)
  names_are home (Block ls body) i b =
      let flags = eligible_from 0 ls body in
      let many = length-append flags (eligible_of body) in
      let few = as_many_flags 0 ls body in
      let count : length (eligible (Block ls body)) + b ≡ length ls + (length (eligible_of body) + b) = omega (arith, many, few) in
      let end : i + length ls + length (eligible_of body) ≡ i + length (eligible (Block ls body)) = omega (arith, many, few) in
      ap (λ n. names_after_all body (homes_after ls (homes_from home i n))) count
      ∙ ap (λ hs. names_after_all body hs) (after_are home ls i (length (eligible_of body) + b))
      ∙ all_names_are home body (i + length ls) b ∙ ap (λ k. homes_from home k b) end
  names_are home (Leave body) i b = all_names_are home body i b
  names_are home Break i b = none_split home i b
  names_are home Continue i b = none_split home i b
  names_are home (Call results f arguments) i b = none_split home i b
  names_are home (Return values) i b = none_split home i b
  names_are home (Raise kind) i b = none_split home i b

  pub all_names_are : (home : ℕ → ℕ) (ss : Statements) (i b : ℕ)
      → names_after_all ss (homes_from home i (length (eligible_of ss) + b)) ≡ homes_from home (i + length (eligible_of ss)) b
  all_names_are home NoStatements i b = none_split home i b
  all_names_are home (MoreStatements s ss) i b =
      let many = length-append (eligible s) (eligible_of ss) in
      let count : length (eligible s ++ eligible_of ss) + b ≡ length (eligible s) + (length (eligible_of ss) + b) = omega (arith, many) in
      let end : i + length (eligible s) + length (eligible_of ss) ≡ i + length (eligible s ++ eligible_of ss) = omega (arith, many) in
      ap (λ n. names_after_all ss (names_after s (homes_from home i n))) count
      ∙ ap (λ hs. names_after_all ss hs) (names_are home s i (length (eligible_of ss) + b))
      ∙ all_names_are home ss (i + length (eligible s)) b ∙ ap (λ k. homes_from home k b) end

-- ---- words

-- of a block: each home is that of a local that takes a word
here_words : (home : ℕ → ℕ) (flag : ℕ → Bool) → ((i r : ℕ) → home i ≡ suc r → flag i ≡ true) → (n : ℕ) (ls : List Local) (body : Statements) (i : ℕ)
    → AreFlags flag i (eligible_from n ls body)
    → local_words (shrunk ls (homes_from home i (length ls))) + length (some_of (homes_from home i (length ls))) ≤ local_words ls
here_words home flag has n [] body i f = omega arith
here_words home flag has n (l ∷ ls) body i f = by (home i) refl (here_words home flag has (suc n) ls body (suc i) f.1)
  where
    by : (h : ℕ) → home i ≡ h
        → local_words (shrunk ls (homes_from home (suc i) (length ls))) + length (some_of (homes_from home (suc i) (length ls))) ≤ local_words ls
        → local_words (shrink h l ∷ shrunk ls (homes_from home (suc i) (length ls))) + length (some_of (h ∷ homes_from home (suc i) (length ls)))
        ≤ local_words (l ∷ ls)
    by zero e rest = omega (arith, rest)
    by (suc r) e rest =
        let flagged : (is_scalar l && not (addressed_of 0 n body)) ≡ true = sym f.0 ∙ has i r e in
        let word = scalar_word l (and_parts (is_scalar l) (not (addressed_of 0 n body)) flagged).0 in
        let some = word.some in
        omega (arith, rest, some)

both_words : (home : ℕ → ℕ) (ss more : Statements) (i b : ℕ)
    → block_words (shrunk_of (homes_from home i (length (eligible_of ss) + (length (eligible_of more) + b))) ss)
    + length (some_of (homes_from home i (length (eligible_of ss)))) ≤ block_words ss
    → block_words (shrunk_of (homes_from home (i + length (eligible_of ss)) (length (eligible_of more) + b)) more)
    + length (some_of (homes_from home (i + length (eligible_of ss)) (length (eligible_of more)))) ≤ block_words more
    → block_words (shrunk_of (homes_from home i (length (eligible_of ss ++ eligible_of more) + b)) ss)
    + block_words (shrunk_of (names_after_all ss (homes_from home i (length (eligible_of ss ++ eligible_of more) + b))) more)
    + length (some_of (homes_from home i (length (eligible_of ss ++ eligible_of more)))) ≤ block_words ss + block_words more
both_words home ss more i b first second =
    let one = eligible_of ss in
    let two = eligible_of more in
    let many = length-append one two in
    let count : length (one ++ two) + b ≡ length one + (length two + b) = omega (arith, many) in
    let a : block_words (shrunk_of (homes_from home i (length (one ++ two) + b)) ss)
    ≡ block_words (shrunk_of (homes_from home i (length one + (length two + b))) ss) =
    ap (λ n. block_words (shrunk_of (homes_from home i n) ss)) count in
    let c : block_words (shrunk_of (names_after_all ss (homes_from home i (length (one ++ two) + b))) more)
    ≡ block_words (shrunk_of (homes_from home (i + length one) (length two + b)) more) =
    ap (λ n. block_words (shrunk_of (names_after_all ss (homes_from home i n)) more)) count
    ∙ ap (λ hs. block_words (shrunk_of hs more)) (all_names_are home ss i (length two + b)) in
    let split = ap (λ n. length (some_of (homes_from home i n))) many ∙ some_split home i (length one) (length two) in
    omega (arith, first, second, a, c, split)

mutual
  home_words : (home : ℕ → ℕ) (flag : ℕ → Bool) → ((i r : ℕ) → home i ≡ suc r → flag i ≡ true) → (s : Statement) (i b : ℕ) → AreFlags flag i (eligible s)
      → statement_words (shrunk_in (homes_from home i (length (eligible s) + b)) s) + length (some_of (homes_from home i (length (eligible s))))
      ≤ statement_words s
  home_words home flag has (Do operation) i b f = omega arith
  home_words home flag has (If t these those) i b f = both_words home these those i b
      (all_home_words home flag has these i (length (eligible_of those) + b) (flags_first flag i (eligible_of these) (eligible_of those) f))
      (all_home_words home flag has those (i + length (eligible_of these)) b (flags_second flag i (eligible_of these) (eligible_of those) f))
  home_words home flag has (While test t body) i b f = both_words home test body i b
      (all_home_words home flag has test i (length (eligible_of body) + b) (flags_first flag i (eligible_of test) (eligible_of body) f))
      (all_home_words home flag has body (i + length (eligible_of test)) b (flags_second flag i (eligible_of test) (eligible_of body) f))
  home_words home flag has (Block ls body) i b f =
      let flags = eligible_from 0 ls body in
      let inner = eligible_of body in
      let many = length-append flags inner in
      let few = as_many_flags 0 ls body in
      let count : length (flags ++ inner) + b ≡ length ls + (length inner + b) = omega (arith, many, few) in
      let all : length (flags ++ inner) ≡ length ls + length inner = omega (arith, many, few) in
      let start : i + length flags ≡ i + length ls = omega (arith, few) in
      let here = here_words home flag has 0 ls body i (flags_first flag i flags inner f) in
      let rest = all_home_words home flag has body (i + length ls) b (subst (λ k. AreFlags flag k inner) start (flags_second flag i flags inner f)) in
      let mine : local_words (shrunk ls (homes_here ls (homes_from home i (length (flags ++ inner) + b))))
      ≡ local_words (shrunk ls (homes_from home i (length ls))) =
      ap (λ n. local_words (shrunk ls (homes_here ls (homes_from home i n)))) count
      ∙ ap (λ hs. local_words (shrunk ls hs)) (here_are home ls i (length inner + b)) in
      let others : block_words (shrunk_of (homes_after ls (homes_from home i (length (flags ++ inner) + b))) body)
      ≡ block_words (shrunk_of (homes_from home (i + length ls) (length inner + b)) body) =
      ap (λ n. block_words (shrunk_of (homes_after ls (homes_from home i n)) body)) count
      ∙ ap (λ hs. block_words (shrunk_of hs body)) (after_are home ls i (length inner + b)) in
      let split = ap (λ n. length (some_of (homes_from home i n))) all ∙ some_split home i (length ls) (length inner) in
      omega (arith, here, rest, mine, others, split)
  home_words home flag has (Leave body) i b f = all_home_words home flag has body i b f
  home_words home flag has Break i b f = omega arith
  home_words home flag has Continue i b f = omega arith
  home_words home flag has (Call results g arguments) i b f = omega arith
  home_words home flag has (Return values) i b f = omega arith
  home_words home flag has (Raise kind) i b f = omega arith

  all_home_words : (home : ℕ → ℕ) (flag : ℕ → Bool) → ((i r : ℕ) → home i ≡ suc r → flag i ≡ true) → (ss : Statements) (i b : ℕ)
      → AreFlags flag i (eligible_of ss)
      → block_words (shrunk_of (homes_from home i (length (eligible_of ss) + b)) ss) + length (some_of (homes_from home i (length (eligible_of ss))))
      ≤ block_words ss
  all_home_words home flag has NoStatements i b f = omega arith
  all_home_words home flag has (MoreStatements s ss) i b f =
      let one = eligible s in
      let two = eligible_of ss in
      let many = length-append one two in
      let count : length (one ++ two) + b ≡ length one + (length two + b) = omega (arith, many) in
      let first = home_words home flag has s i (length two + b) (flags_first flag i one two f) in
      let second = all_home_words home flag has ss (i + length one) b (flags_second flag i one two f) in
      let a : statement_words (shrunk_in (homes_from home i (length (one ++ two) + b)) s)
      ≡ statement_words (shrunk_in (homes_from home i (length one + (length two + b))) s) =
      ap (λ n. statement_words (shrunk_in (homes_from home i n) s)) count in
      let c : block_words (shrunk_of (names_after s (homes_from home i (length (one ++ two) + b))) ss)
      ≡ block_words (shrunk_of (homes_from home (i + length one) (length two + b)) ss) =
      ap (λ n. block_words (shrunk_of (names_after s (homes_from home i n)) ss)) count
      ∙ ap (λ hs. block_words (shrunk_of hs ss)) (names_are home s i (length two + b)) in
      let split = ap (λ n. length (some_of (homes_from home i n))) many ∙ some_split home i (length one) (length two) in
      omega (arith, first, second, a, c, split)

pub homes_are_words : (f : Function) → block_words (placed_body f) + length (saved_by f) ≤ block_words f.body
homes_are_words f =
    let flags = eligible_of f.body in
    let words = all_home_words (home_in f) (flag_at flags) (λ i r e. home_flag flags f.order home_registers i r e) f.body 0 0 (flags_are flags) in
    let n : length flags + 0 ≡ length flags = omega arith in
    let e : block_words (shrunk_of (homes_from (home_in f) 0 (length flags + 0)) f.body) ≡ block_words (placed_body f) =
    ap (λ k. block_words (shrunk_of (homes_from (home_in f) 0 k) f.body)) n in
    omega (arith, words, e)
