-- A live region is freed.
use Rattle.std.proofs.Common.{◌≡◌, ℕ, zero, suc, ◌+◌, ◌-◌, ◌≤◌, Bool, true, false, Some, None, Ok, nat_eq, refl, sym, ap, ◌∙◌, arith}
use Rattle.std.specs.Prelude.{if◌then◌else◌}
use Rattle.std.proofs.lemmas.Bool.Decides.{nat_tests}
use Rattle.arena_laws.specs.declared.standing.Standing.TheVariants.{Lexical}
use Rattle.arena_laws.specs.Counts.{put}
use Rattle.arena_laws.specs.Holdings.{Holdings}
use Rattle.arena_laws.specs.Lawful.{without_number, without_blocks, region_free}
use Rattle.arena_laws.specs.Laws.{Does}
use Rattle.region_runtime.specs.Headers.{put_word, owner_of, used_of, heap_mark, is_live_number, pages_of, holder_of}
use Rattle.region_runtime.specs.Pool.{Shape, last_of, taken_by, left_of, owner_at, standing_by, holdings_of, tag_by, is_taken_by, word_by}
use Rattle.region_runtime.specs.Sound.{IsOrdered, freed_of, no_page}
use Rattle.region_runtime.specs.Steps.{with_freed}
use Rattle.region_runtime.proofs.Words.{live_some, live_own, last_of_heap, last_of_region, last_of_other}
use Rattle.region_runtime.proofs.Freeing.{freed_live}
use Rattle.region_runtime.proofs.Places.{live_small}
use Rattle.region_runtime.proofs.Ordered.{few_used, others, freed_ordered}
use Rattle.region_runtime.proofs.Holders.{freed_holder}
use Rattle.region_runtime.proofs.Owners.{owner_without}
use Rattle.region_runtime.proofs.Held.{marked_kept, taken_heap, taken_region, taken_other}
use Rattle.region_runtime.proofs.Tags.{word_other, small_unmarked, tag_dead, tag_same}
use Rattle.region_runtime.proofs.Granted.{page_untaken, page_words}

pub frees : (s : Holdings) (h : ℕ) → s.standing h ≡ Some Lexical → (after : Holdings) → after ≡ without_number h s → Does (Ok 0) after (region_free h s)
frees s h e after d = rw e (record { says = refl; holds = d })

pub record IsFreed (t after : Shape) (h : ℕ) : Type 0 where
  pub ordered : IsOrdered after no_page
  pub does : Does (Ok 0) (holdings_of after) (region_free h (holdings_of t))
  pub tags : tag_by after.word ≡ put h None (tag_by t.word)
  pub taken : is_taken_by after.word ≡ is_taken_by t.word
  pub words : word_by after.word ≡ word_by t.word

module _ (t : Shape) (s : IsOrdered t no_page) (h : ℕ) (live : is_live_number (owner_of t.word) h ≡ true) where
  abbrev pub after : Shape
  after = with_freed h t

  few : t.ever_used ≤ 4096
  few = few_used t s

  lives : (g : ℕ) → is_live_number (owner_of after.word) g ≡ (if nat_eq g h then false else is_live_number (owner_of t.word) g)
  lives = freed_live (freed_of t) (owner_of t.word) (pages_of t.word) t.ever_used few s.chains h live (pages_of after.word) (others t s h live)

  dead : (g : ℕ) → nat_eq g h ≡ true → is_live_number (owner_of after.word) g ≡ false
  dead g e = lives g ∙ (rw e refl)

  live_other : (g : ℕ) → nat_eq g h ≡ false → is_live_number (owner_of after.word) g ≡ is_live_number (owner_of t.word) g
  live_other g e = lives g ∙ (rw e refl)

  small : h ≤ 4096
  small = live_small (freed_of t) (owner_of t.word) (pages_of t.word) t.ever_used no_page few s.chains h live

  own : owner_of t.word (h - 1) ≡ h
  own = live_own (owner_of t.word) h live

  standing : (g : ℕ) → standing_by (owner_of after.word) g ≡ put h None (standing_by (owner_of t.word)) g
  standing g = by_number (nat_eq g h) refl
    where
      by_number : (b : Bool) → nat_eq g h ≡ b → standing_by (owner_of after.word) g ≡ (if b then None else standing_by (owner_of t.word) g)
      by_number true e = ap (λ l. if l then Some Lexical else None) (dead g e)
      by_number false e = ap (λ l. if l then Some Lexical else None) (live_other g e)

  owners : (q : ℕ) → owner_at (holder_of after.word) (used_of t.word) q ≡ without_blocks h (owner_at (holder_of t.word) (used_of t.word)) q
  owners =
      owner_without h (holder_of t.word) (holder_of after.word) (used_of t.word)
      (freed_holder (freed_of t) (owner_of t.word) (pages_of t.word) t.ever_used few s.chains h live (pages_of after.word) (others t s h live))

  given : after.freed ≡ t.freed + taken_by t h
  given = let e = taken_region t h live in omega (arith, e)

  taken : (g : ℕ) → taken_by after g ≡ put h 0 (taken_by t) g
  taken g = by_number g (nat_eq g h) refl
    where
      by_number : (g : ℕ) (b : Bool) → nat_eq g h ≡ b → taken_by after g ≡ (if b then 0 else taken_by t g)
      by_number g true e =
          let l = live_some (owner_of t.word) h live in taken_other after g (grind (arith, nat_tests)) (dead g e)
      by_number zero false e =
          taken_heap after ∙ marked_kept heap_mark (owner_of t.word) (h - 1) 0 t.pages (let o = own in let m = small in grind (arith, nat_tests)) (grind
          (arith, nat_tests))
          ∙ sym (taken_heap t)
      by_number (suc g) false e = by_live (is_live_number (owner_of t.word) (suc g)) refl
        where
          by_live : (c : Bool) → is_live_number (owner_of t.word) (suc g) ≡ c → taken_by after (suc g) ≡ taken_by t (suc g)
          by_live true d = taken_region after (suc g) (live_other (suc g) e ∙ d) ∙ sym (taken_region t (suc g) d)
          by_live false d = taken_other after (suc g) (omega arith) (live_other (suc g) e ∙ d) ∙ sym (taken_other t (suc g) (omega arith) d)

  left : (g : ℕ) → left_of (used_of t.word) (last_of after g) ≡ put h 0 (λ k. left_of (used_of t.word) (last_of t k)) g
  left g = by_number g (nat_eq g h) refl
    where
      by_number : (g : ℕ) (b : Bool) → nat_eq g h ≡ b → left_of (used_of t.word) (last_of after g) ≡ (if b then 0 else left_of (used_of t.word)
          (last_of t g))
      by_number g true e =
          let l = live_some (owner_of t.word) h live in
          ap (left_of (used_of t.word)) (last_of_other after g (grind (arith, nat_tests)) (dead g e))
      by_number zero false e = ap (left_of (used_of t.word)) (last_of_heap after 0 refl ∙ sym (last_of_heap t 0 refl))
      by_number (suc g) false e = by_live (is_live_number (owner_of t.word) (suc g)) refl
        where
          by_live : (c : Bool) → is_live_number (owner_of t.word) (suc g) ≡ c → left_of (used_of t.word) (last_of after (suc g)) ≡ left_of (used_of t.word)
              (last_of t (suc g))
          by_live true d =
              ap (left_of (used_of t.word)) (last_of_region after (suc g) (live_other (suc g) e ∙ d) ∙ sym (last_of_region t (suc g) d))
          by_live false d =
              ap (left_of (used_of t.word)) (last_of_other after (suc g) (omega arith) (live_other (suc g) e ∙ d)
              ∙ sym (last_of_other t (suc g) (omega arith) d))

  holds : holdings_of after ≡ without_number h (holdings_of t)
  holds = λ i. record {
    pages = t.pages;
    standing = λ g. standing g i;
    owner = λ q. owners q i;
    counts = record { fresh = t.pages - t.ever_used; given = given i; taken = λ g. taken g i; left = λ g. left g i; class_pages = λ c. 0; slots = λ c. 0 };
  }

  tags : (g : ℕ) → tag_by after.word g ≡ put h None (tag_by t.word) g
  tags g = by_number (nat_eq g h) refl
    where
      by_number : (b : Bool) → nat_eq g h ≡ b → tag_by after.word g ≡ (if b then None else tag_by t.word g)
      by_number true e = tag_dead after.word g (dead g e)
      by_number false e = tag_same t.word after.word g (live_other g e) (λ d. refl)

  now : owner_of after.word (h - 1) ≤ 4096
  now = let r : nat_eq (h - 1) (h - 1) ≡ true = grind (arith, nat_tests) in rw r (omega arith)

  other_words : (q f : ℕ) → nat_eq q (h - 1) ≡ false → after.word q f ≡ t.word q f
  other_words q f n = word_other (h - 1) 1 0 (put_word (h - 1) 0 t.first_freed t.word) q f n ∙ word_other (h - 1) 0 t.first_freed t.word q f n

  pub freed : IsFreed t after h
  freed = record {
    ordered = freed_ordered t s h live;
    does = frees (holdings_of t) h (rw live refl) (holdings_of after) holds;
    tags = λ i g. tags g i;
    taken = page_untaken t.word after.word (h - 1) (small_unmarked (owner_of t.word (h - 1)) (let o = own in let m = small in omega (arith, o, m)))
        (small_unmarked (owner_of after.word (h - 1)) now) other_words;
    words = page_words t.word after.word (h - 1) (small_unmarked (owner_of t.word (h - 1)) (let o = own in let m = small in omega (arith, o, m)))
        (small_unmarked (owner_of after.word (h - 1)) now) other_words;
  }
