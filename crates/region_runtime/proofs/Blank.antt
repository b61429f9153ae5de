-- Pages never used stay blank, and what a page that is taken makes of their number.
use Rattle.std.proofs.Common.{◌≡◌, ℕ, ◌+◌, ◌-◌, ◌<◌, ◌≤◌, Bool, true, false, nat_eq, nat_lt, refl, sym, ap, ◌∙◌, arith}
use Rattle.std.specs.Prelude.{if◌then◌else◌}
use Rattle.std.proofs.lemmas.Bool.Decides.{nat_tests}
use Rattle.region_runtime.specs.Headers.{AreBlank, put_word}
use Rattle.region_runtime.specs.Pool.{Pooled, Shape, shape_of, held, holdings_of}
use Rattle.region_runtime.specs.Steps.{without_page}
use Rattle.region_runtime.specs.Touches.{Touched, block_least, has_freed, one_if, reads_link, reads_number, reads_page, used_after}
use Rattle.region_runtime.proofs.Tags.{word_other}

pub blank_put : (word : ℕ → ℕ → ℕ) (used p f x : ℕ) → p < used → AreBlank used word → AreBlank used (put_word p f x word)
blank_put word used p f x l b = record {
  blank = λ q g m. let n : nat_eq q p ≡ false = grind (arith, nat_tests) in word_other p f x word q g n ∙ b.blank q g m;
}

pub blank_more : (word : ℕ → ℕ → ℕ) (used : ℕ) → AreBlank used word → AreBlank (used + 1) word
blank_more word used b = record { blank = λ q g m. b.blank q g (omega (arith, m)) }

-- ---- a page is taken

freed_is : (t : Shape) → has_freed t.freed ≡ nat_lt 0 t.freed
unfolding has_freed
freed_is t = refl

pub used_taken : (t : Shape) → (without_page t).ever_used ≡ used_after true (holdings_of t) t.ever_used
unfolding without_page
used_taken t = by_freed (nat_lt 0 t.freed) ∙ ap (λ b. if b then t.ever_used else t.ever_used + 1) (sym (freed_is t))
  where
    by_freed : (b : Bool) → (if b then record t { first_freed = t.word t.first_freed 0; freed = t.freed - 1 } else record t {
      ever_used = t.ever_used + 1;
    }).ever_used ≡ (if b then t.ever_used else t.ever_used + 1)
    by_freed true = refl
    by_freed false = refl

-- its link is read where it is a freed one
pub link_is : (fields value : Pooled) (now : Shape) → fields ≡ value → now ≡ shape_of fields →
    one_if (nat_lt 0 now.freed) ≡ reads_link (held value)
link_is fields value now v e =
    ap (λ t. one_if (nat_lt 0 t.freed)) e ∙ ap one_if (sym (freed_is (shape_of fields))) ∙ ap (λ p. reads_link (held p)) v

pub one_where : (n : ℕ) → 0 < n → one_if (nat_lt 0 n) ≡ 1
unfolding one_if
one_where n l = grind (arith, nat_tests)

pub none_where : (n : ℕ) → n ≤ 0 → one_if (nat_lt 0 n) ≡ 0
unfolding one_if
none_where n l = grind (arith, nat_tests)

-- ---- whose a page is

pub page_read : (pages page : ℕ) → page < pages → reads_page pages page ≡ 1
unfolding reads_page one_if
page_read pages page l = grind (arith, nat_tests)

pub page_beyond : (pages page : ℕ) → pages ≤ page → reads_page pages page ≡ 0
unfolding reads_page one_if
page_beyond pages page l = grind (arith, nat_tests)

pub number_none : (pages h : ℕ) → h ≡ 0 → reads_number pages h ≡ 0
unfolding reads_number
number_none pages h e = grind (arith, nat_tests)

pub number_read : (pages h : ℕ) → (h ≡ 0 → ⊥) → h ≤ pages → reads_number pages h ≡ 1
unfolding reads_number
number_read pages h n l = let z : nat_eq h 0 ≡ false = grind (arith, nat_tests) in let m : h - 1 < pages = omega arith in rw z (page_read pages (h - 1) m)

pub number_beyond : (pages h : ℕ) → pages < h → reads_number pages h ≡ 0
unfolding reads_number
number_beyond pages h l =
    let z : nat_eq h 0 ≡ false = grind (arith, nat_tests) in let m : pages ≤ h - 1 = omega arith in rw z (page_beyond pages (h - 1) m)

-- ---- a block: from whose number it is, from what is left, and from the page that is written

pub cut_words : (h last r n link : ℕ) → 0 < last → (h ≡ 0 → r ≡ 0) → (0 < h → r ≡ 1) →
    n ≡ r + (if nat_eq h 0 then 0 else 1) + (if nat_eq last 0 then 0 else 1) + 2 → Touched true (block_least h false link) 1 3 n
cut_words h last r n link l z o e = by_heap (nat_eq h 0) (nat_eq last 0) refl refl e
  where
    by_heap : (b d : Bool) → nat_eq h 0 ≡ b → nat_eq last 0 ≡ d → n ≡ r + (if b then 0 else 1) + (if d then 0 else 1) + 2 →
        Touched true (if b then 3 else 5) 1 3 n
    by_heap b true t u e = absurd (grind (arith, nat_tests))
    by_heap true false t u e =
        let k = z (grind (arith, nat_tests)) in record { least = omega (arith, k, e); most = omega (arith, k, e) }
    by_heap false false t u e =
        let k = o (grind (arith, nat_tests)) in record { least = omega (arith, k, e); most = omega (arith, k, e) }

pub grow_words : (h last r n link : ℕ) → (0 < h → 0 < last) → (h ≡ 0 → r ≡ 0) → (0 < h → r ≡ 1) →
    n ≡ r + (if nat_eq h 0 then 0 else 1) + (if nat_eq last 0 then 0 else 1) + link + (if nat_eq h 0 then 2 else 8) →
    Touched true (block_least h true link) 1 3 n
grow_words h last r n link l z o e = by_heap (nat_eq h 0) (nat_eq last 0) refl refl e
  where
    by_heap : (b d : Bool) → nat_eq h 0 ≡ b → nat_eq last 0 ≡ d →
        n ≡ r + (if b then 0 else 1) + (if d then 0 else 1) + link + (if b then 2 else 8) → Touched true ((if b then 2 else 11) + link) 1 3 n
    by_heap true true t u e =
        let k = z (grind (arith, nat_tests)) in record { least = omega (arith, k, e); most = omega (arith, k, e) }
    by_heap true false t u e =
        let k = z (grind (arith, nat_tests)) in record { least = omega (arith, k, e); most = omega (arith, k, e) }
    by_heap false true t u e = let s = l (grind (arith, nat_tests)) in absurd (grind (arith, nat_tests))
    by_heap false false t u e =
        let k = o (grind (arith, nat_tests)) in record { least = omega (arith, k, e); most = omega (arith, k, e) }
