-- The pool's calls, with unique blocks beside.
use Rattle.std.proofs.Common.{◌≡◌, ℕ, true, List, Some, None, Result, refl, sym, ap, subst, ◌∙◌}
use Rattle.std.specs.Prelude.{if◌then◌else◌}
use Rattle.arena_laws.specs.declared.owner.Owner.{Owner}
use Rattle.arena_laws.specs.declared.owner.Owner.TheVariants.{Region}
use Rattle.arena_laws.specs.declared.refusal.StoreRefusal.{StoreRefusal}
use Rattle.arena_laws.specs.declared.refusal.StoreRefusal.TheVariants.{Full}
use Rattle.arena_laws.specs.Counts.{room_of}
use Rattle.arena_laws.specs.Holdings.{Holdings, is_none}
use Rattle.arena_laws.specs.Lawful.{Answer, Grants, Refuses, Lacks, Done, gives_block, is_in_room, is_lawful_room, refuses, region_free, takes_blocks}
use Rattle.arena_laws.specs.Lawful.{with_region_block}
use Rattle.arena_laws.specs.Lawful as lawful
use Rattle.arena_laws.specs.Laws.{Does, answer_of, is_block_refused, region_alloc}
use Rattle.arena_laws.specs.Asked.{RegionAlloc}
use Rattle.arena_laws.proofs.Rooms.{block_placed}
use Rattle.arena_laws.proofs.StayingPages.{pages_if, pages_stay}
use Rattle.region_runtime.specs.Pool.{Pooled, is_taken, page_at, word_of}
use Rattle.region_runtime.specs.Pool as pool
use Rattle.unique_blocks.specs.Slots.{AreSlots, alone_at, slots_by}
use Rattle.unique_blocks.specs.Blocks.{joined}
use Rattle.unique_blocks.specs.Calls.{slots_of}
use Rattle.unique_blocks.proofs.Joined.{alloc_lifted, does_lifted, free_lifted}
use Rattle.unique_blocks.proofs.Steps.{alone_of_none, owned_apart}

-- an address that has an owner in the pool is in no slot
owned_alone : (p : Pooled) (q : ℕ) (who : Owner) → (pool.held p).owner q ≡ Some who → alone_at (slots_of p) q ≡ None
owned_alone p q who e = owned_apart p q (ap is_none e)

module _ (old new : Pooled) (words : word_of new ≡ word_of old) where
  same : slots_of new ≡ slots_of old
  same = ap slots_by words

  -- no slot is in a room that is a region's now
  room_alone : (n at room : ℕ) (h : Holdings) → pool.held new ≡ with_region_block n at room h → (q : ℕ) →
      is_in_room at room q ≡ true → alone_at (slots_of old) q ≡ None
  room_alone n at room h e q r =
      subst (λ t. alone_at t q ≡ None) same (owned_alone new q (Region n) (ap (λ h. let h : Holdings = h in h.owner q) e ∙ ap (λ t. if t then Some (Region n)
      else h.owner q) r))

  pub alloc_along : (n bytes : ℕ) (r : Result ℕ StoreRefusal) → Does r (pool.held new) (region_alloc n bytes (answer_of r) (pool.held old)) →
      Does r (joined (slots_of new) (pool.held new)) (region_alloc n bytes (answer_of r) (joined (slots_of old) (pool.held old)))
  alloc_along n bytes r d =
      subst (λ t. Does r (joined t (pool.held new)) (region_alloc n bytes (answer_of r) (joined (slots_of old) (pool.held old)))) (sym same)
      (alloc_lifted (slots_of old) (pool.held old) n bytes r (pool.held new) d (λ at e. room_alone n at (room_of bytes) (pool.held old)
      (block_placed n bytes at (pool.held old) (pool.held new) (subst (λ r. Does r (pool.held new) (region_alloc n bytes (answer_of r) (pool.held old))) e
      d)).left))

  pub free_along : (n : ℕ) (r : Result ℕ StoreRefusal) → Does r (pool.held new) (region_free n (pool.held old)) →
      Does r (joined (slots_of new) (pool.held new)) (region_free n (joined (slots_of old) (pool.held old)))
  free_along n r d =
      subst (λ t. Does r (joined t (pool.held new)) (region_free n (joined (slots_of old) (pool.held old)))) (sym same)
      (does_lifted (slots_of old) r (pool.held new) (region_free n (pool.held old)) (region_free n (joined (slots_of old) (pool.held old)))
      (free_lifted (slots_of old) (pool.held old) (owned_apart old) (λ q g. alone_of_none (slots_of old) q g) n) d)

-- ---- the slots stay in order beside a block of a region

alloc_pages : (n bytes : ℕ) (a : Answer) (s : Holdings) → (region_alloc n bytes a s).after.pages ≡ s.pages
alloc_pages n bytes a s =
    pages_if (is_block_refused n bytes s) (refuses Full s) (lawful.region_alloc n bytes a s) s.pages refl (pages_stay (RegionAlloc n bytes) a s)

pub alloc_sound : (old new : Pooled) (heads : List ℕ) (n bytes : ℕ) (r : Result ℕ StoreRefusal) → word_of new ≡ word_of old →
    Does r (pool.held new) (region_alloc n bytes (answer_of r) (pool.held old)) → AreSlots (pool.held old).pages heads (slots_of old) →
    AreSlots (pool.held new).pages heads (slots_of new)
alloc_sound old new heads n bytes r words d a =
    let e : (pool.held new).pages ≡ (pool.held old).pages =
    ap (λ h. let h : Holdings = h in h.pages) d.holds ∙ alloc_pages n bytes (answer_of r) (pool.held old) in
    subst (λ k. AreSlots k heads (slots_of new)) (sym e) (subst (λ w. AreSlots (pool.held old).pages heads (slots_by w)) (sym words) a)
