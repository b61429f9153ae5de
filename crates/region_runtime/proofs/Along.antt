-- What was shown of a pool's shape holds of the pool that callers see.
use Rattle.std.proofs.Common.{◌≡◌, ℕ, ◌+◌, ◌-◌, ◌*◌, ◌/◌, ◌<◌, ◌≤◌, true, false, Some, None, length, Ok, nat_lt, sym, ap, subst, ◌∙◌, arith}
use Rattle.std.specs.Prelude.{if◌then◌else◌, slice_index}
use Rattle.std.proofs.lemmas.Bool.Decides.{nat_tests}
use Rattle.arena_laws.specs.Counts.{put, is_full}
use Rattle.arena_laws.specs.Holdings.{arena_base}
use Rattle.arena_laws.specs.Lawful.{Grants, region_free}
use Rattle.arena_laws.specs.Laws.{Does, region_new}
use Rattle.region_runtime.specs.Headers.{word_in, owner_of, used_of, is_live_number, pages_of, holder_of}
use Rattle.region_runtime.specs.Pool.{Pooled, Shape, shape_of, AreApart, byte_at, held, holdings_of, is_taken, is_taken_by, page_at, tag_by, tag_of, word_by}
use Rattle.region_runtime.specs.Pool.{word_of, counts_of}
use Rattle.region_runtime.specs.Sound.{IsOrdered, IsSound, no_page}
use Rattle.region_runtime.specs.Steps.{next_page, with_first, with_freed, with_taken, without_page}
use Rattle.region_runtime.specs.Calls.{IsGot}
use Rattle.region_runtime.specs.Touches.{used_after}
use Rattle.region_runtime.proofs.Blank.{used_taken}
use Rattle.region_runtime.proofs.Holders.{holder_taken}
use Rattle.region_runtime.proofs.Owners.{owner_nobody}
use Rattle.region_runtime.proofs.Tags.{taken_owner}
use Rattle.region_runtime.proofs.Granted.{granted}
use Rattle.region_runtime.proofs.Released.{freed}
use Rattle.region_runtime.proofs.Kept as kept
use Rattle.region_runtime.proofs.Kept.{IsTaken}

-- no address of a taken page has an owner
pub apart : (p : Pooled) → AreApart p
apart p = record {
  unowned = λ q b t. owner_nobody (holder_of (word_in p.words)) (used_of (word_in p.words)) q (grind (arith, nat_tests)) (holder_taken
      (owner_of (word_in p.words)) (pages_of (word_in p.words)) (page_at q) (taken_owner (word_in p.words) (page_at q) t));
}

bytes_same : (old new : Pooled) → new.bytes ≡ old.bytes → byte_at new ≡ byte_at old
unfolding byte_at
bytes_same old new e = λ i q. if nat_lt q arena_base then 0 else slice_index (e i) (q - arena_base)

pub bytes_along : (fields value new : Pooled) → fields ≡ value → new.bytes ≡ fields.bytes → byte_at new ≡ byte_at value
bytes_along fields value new v e = bytes_same fields new e ∙ ap byte_at v

pub sound_after : (old new : Pooled) (after : Shape) → IsSound old → length new.words ≡ length old.words → new.bytes ≡ old.bytes → shape_of new ≡ after →
    IsOrdered after no_page → IsSound new
sound_after old new after s l b e o =
    let w = s.whole in
    record {
      whole = record {
        payload = ap length b ∙ w.payload ∙ ap (λ n. 256 * n) (sym l);
        headers = ap (λ n. n / 16 * 16) l ∙ w.headers ∙ sym l;
        within = subst (λ n. n ≤ 65536) (sym l) w.within;
      };
      ordered = subst (λ t. IsOrdered t no_page) (sym e) o;
    }

-- the next free page is there
pub next_within : (p : Pooled) → IsSound p → is_full (counts_of (shape_of p)) ≡ false → next_page (shape_of p) < length p.words / 16
next_within p s f = (granted (shape_of p) s.ordered f).within

pub pages_few : (p : Pooled) → IsSound p → length p.words / 16 ≤ 4096
pages_few p s = s.ordered.few

-- ---- a region is made

pub record GrantSays (old new : Pooled) (p : ℕ) : Type 0 where
  pub does : Does (Ok (p + 1)) (held new) (region_new (Grants (p + 1)) (held old))
  pub tags : tag_of new ≡ put (p + 1) (Some 0) (tag_of old)
  pub taken : is_taken new ≡ is_taken old
  pub words : word_of new ≡ word_of old
  pub bytes : byte_at new ≡ byte_at old
  pub fresh : new.ever_used ≡ used_after true (held old) old.ever_used

pub grant_says : (fields value new : Pooled) (p : ℕ) → fields ≡ value → IsSound fields → is_full (counts_of (shape_of fields)) ≡ false →
    p ≡ next_page (shape_of fields) → shape_of new ≡ with_first p (without_page (shape_of fields)) → new.bytes ≡ fields.bytes → GrantSays value new p
grant_says fields value new p v s f n e b =
    let t = shape_of fields in
    let e' : shape_of new ≡ with_first (next_page t) (without_page t) = e ∙ ap (λ k. with_first k (without_page t)) n in
    let g = granted t s.ordered f in
    let says : GrantSays fields new (next_page t) = record {
      does = subst (λ k. Does (Ok (next_page t + 1)) (holdings_of k) (region_new (Grants (next_page t + 1)) (held fields))) (sym e') g.does;
      tags = ap (λ k. tag_by k.word) e' ∙ g.tags;
      taken = ap (λ k. is_taken_by k.word) e' ∙ g.taken;
      words = ap (λ k. word_by k.word) e' ∙ g.words;
      bytes = bytes_same fields new b;
      fresh = ap (λ k. k.ever_used) e' ∙ used_taken t;
    } in
    subst (λ k. GrantSays value new k) (sym n) (subst (λ k. GrantSays k new (next_page t)) v says)

-- ---- a region is freed

pub record FreeSays (old new : Pooled) (h : ℕ) : Type 0 where
  pub does : Does (Ok 0) (held new) (region_free h (held old))
  pub tags : tag_of new ≡ put h None (tag_of old)
  pub taken : is_taken new ≡ is_taken old
  pub words : word_of new ≡ word_of old
  pub bytes : byte_at new ≡ byte_at old

pub free_says : (fields value new : Pooled) (h : ℕ) → fields ≡ value → IsSound fields → is_live_number (owner_of (word_in fields.words)) h ≡ true →
    shape_of new ≡ with_freed h (shape_of fields) → new.bytes ≡ fields.bytes → FreeSays value new h
free_says fields value new h v s l e b =
    let t = shape_of fields in
    let g = freed t s.ordered h l in
    let says : FreeSays fields new h = record {
      does = subst (λ k. Does (Ok 0) (holdings_of k) (region_free h (held fields))) (sym e) g.does;
      tags = ap (λ k. tag_by k.word) e ∙ g.tags;
      taken = ap (λ k. is_taken_by k.word) e ∙ g.taken;
      words = ap (λ k. word_by k.word) e ∙ g.words;
      bytes = bytes_same fields new b;
    } in
    subst (λ k. FreeSays k new h) v says

-- ---- a page is got

pub record GotSays (old new : Pooled) (p : ℕ) : Type 0 where
  pub got : IsGot old new p
  pub tags : tag_of new ≡ tag_of old
  pub bytes : byte_at new ≡ byte_at old
  pub fresh : new.ever_used ≡ used_after true (held old) old.ever_used

pub got_says : (fields value new : Pooled) (p : ℕ) → fields ≡ value → IsSound fields → is_full (counts_of (shape_of fields)) ≡ false →
    p ≡ next_page (shape_of fields) → shape_of new ≡ with_taken p (without_page (shape_of fields)) → new.bytes ≡ fields.bytes → GotSays value new p
got_says fields value new p v s f n e b =
    let t = shape_of fields in
    let e' : shape_of new ≡ with_taken (next_page t) (without_page t) = e ∙ ap (λ k. with_taken k (without_page t)) n in
    let g = kept.taken t s.ordered f in
    let says : GotSays fields new (next_page t) = record {
      got = record {
        within = g.within;
        fresh = g.fresh;
        clear = g.clear;
        holds = ap holdings_of e' ∙ g.holds;
        taken = ap (λ k. is_taken_by k.word) e' ∙ g.taken;
        words = λ q f d. ap (λ k. word_by k.word q f) e' ∙ g.words q f d;
      };
      tags = ap (λ k. tag_by k.word) e' ∙ g.tags;
      bytes = bytes_same fields new b;
      fresh = ap (λ k. k.ever_used) e' ∙ used_taken t;
    } in
    subst (λ k. GotSays value new k) (sym n) (subst (λ k. GotSays k new (next_page t)) v says)
