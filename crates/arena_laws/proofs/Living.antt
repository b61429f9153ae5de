-- Over a list of calls, an address is live exactly where it lies in a live block.
use Rattle.std.proofs.Common.{◌≡◌, ℕ, Bool, true, false, List, [], ◌∷◌, Option, Some, None, Result, Ok, Err, nat_eq, refl, sym, ap, subst, ◌∙◌}
use Rattle.std.specs.Prelude.{if◌then◌else◌}
use Rattle.arena_laws.specs.declared.owner.Owner.{Owner}
use Rattle.arena_laws.specs.declared.owner.Owner.TheVariants.{Region, Alone}
use Rattle.arena_laws.specs.declared.refusal.StoreRefusal.{StoreRefusal}
use Rattle.arena_laws.specs.declared.refusal.StoreRefusal.TheVariants.{Full, BadHandle, NotABlock, BadKey, Open, NotOpen, Memory}
use Rattle.arena_laws.specs.declared.standing.Standing.{Standing}
use Rattle.arena_laws.specs.declared.standing.Standing.TheVariants.{Lexical, Opened, Closed}
use Rattle.arena_laws.specs.Counts.{room_of, class_of, is_full, is_full_for_slot, is_too_long, is_too_long_alone}
use Rattle.arena_laws.specs.Holdings.{Holdings, fresh}
use Rattle.arena_laws.specs.Lawful.{Answer, Grants, Refuses, Lacks, Done, refuses, makes, with_number, is_new_number, takes_blocks, is_lawful_room, is_in_room}
use Rattle.arena_laws.specs.Lawful.{owns, gives_block, gives_alone, frees_region, frees_key, frees_alone, opens, closes, is_of, is_alone}
use Rattle.arena_laws.specs.Lawful as lawful
use Rattle.arena_laws.specs.Laws.{Does, answer_of, made, is_block_refused, region_alloc, unique_alloc}
use Rattle.arena_laws.specs.Asked.{Asked, RegionNew, RegionAlloc, RegionFree, UniqueAlloc, UniqueFree, KeyNew, KeyOpen, KeyClose, KeyFree}
use Rattle.arena_laws.specs.Blocks.{law_of, Block, those_not, blocks_after, Told, AreTold, held_after, blocks_of, owner_of, LiveBlocks}
use Rattle.arena_laws.proofs.Births.{made_left, region_freed, key_freed, key_opened, key_closed}
use Rattle.arena_laws.proofs.Rooms.{block_placed, alone_placed, outside}

-- ---- a refusal leaves everything as it was

pub record Keeps (s : Holdings) (done : Done) : Type 0 where
  pub kept : (why : StoreRefusal) → done.says ≡ Err why → done.after ≡ s

keeps_refused : (s : Holdings) (why : StoreRefusal) → Keeps s (refuses why s)
keeps_refused s why = record { kept = λ w e. refl }

keeps_ok : (s after : Holdings) (n : ℕ) → Keeps s (record { says = Ok n; after = after })
keeps_ok s after n = record { kept = λ w e. absurd (cc) }

keeps_if : (s : Holdings) (t : Bool) (x y : Done) → Keeps s x → Keeps s y → Keeps s (if t then x else y)
keeps_if s true x y k l = k
keeps_if s false x y k l = l

keeps_makes : (standing : Standing) (a : Answer) (s : Holdings) → Keeps s (makes standing a s)
keeps_makes standing (Grants h) s = keeps_if s (is_new_number s h) _ (refuses Full s) (keeps_ok s (with_number h standing s) h) (keeps_refused s Full)
keeps_makes standing Refuses s = keeps_refused s Full
keeps_makes standing Lacks s = keeps_refused s Memory

keeps_made : (standing : Standing) (a : Answer) (s : Holdings) → Keeps s (made standing a s)
keeps_made standing a s = keeps_if s (is_full s.counts) (refuses Full s) (makes standing a s) (keeps_refused s Full) (keeps_makes standing a s)

keeps_block : (h room : ℕ) (a : Answer) (s : Holdings) → Keeps s (gives_block h room a s)
keeps_block h room (Grants at) s = keeps_if s (is_lawful_room s at room) _ (refuses Full s) (keeps_ok s _ at) (keeps_refused s Full)
keeps_block h room Refuses s = keeps_refused s Full
keeps_block h room Lacks s = keeps_refused s Memory

keeps_region_alloc : (h bytes : ℕ) (a : Answer) (s : Holdings) → Keeps s (region_alloc h bytes a s)
keeps_region_alloc h bytes a s =
    keeps_if s (is_block_refused h bytes s) (refuses Full s) (lawful.region_alloc h bytes a s) (keeps_refused s Full)
    (keeps_if s (takes_blocks h (s.standing h)) (if is_too_long bytes then refuses Full s else gives_block h (room_of bytes) a s) (refuses BadHandle s)
    (keeps_if s (is_too_long bytes) (refuses Full s) (gives_block h (room_of bytes) a s) (keeps_refused s Full) (keeps_block h (room_of bytes) a s))
    (keeps_refused s BadHandle))

keeps_alone : (room : ℕ) (a : Answer) (s : Holdings) → Keeps s (gives_alone room a s)
keeps_alone room (Grants at) s = keeps_if s (is_lawful_room s at room) _ (refuses Full s) (keeps_ok s _ at) (keeps_refused s Full)
keeps_alone room Refuses s = keeps_refused s Full
keeps_alone room Lacks s = keeps_refused s Memory

keeps_unique_alloc : (bytes : ℕ) (a : Answer) (s : Holdings) → Keeps s (unique_alloc bytes a s)
keeps_unique_alloc bytes a s =
    keeps_if s (is_full_for_slot bytes s.counts) (refuses Full s) (lawful.unique_alloc bytes a s) (keeps_refused s Full)
    (keeps_if s (is_too_long_alone bytes) (refuses Full s) (gives_alone (class_of bytes) a s) (keeps_refused s Full) (keeps_alone (class_of bytes) a s))

keeps_region_free : (h : ℕ) (o : Option Standing) (s : Holdings) → Keeps s (frees_region h o s)
keeps_region_free h (Some Lexical) s = keeps_ok s _ 0
keeps_region_free h (Some Opened) s = keeps_refused s BadHandle
keeps_region_free h (Some Closed) s = keeps_refused s BadHandle
keeps_region_free h None s = keeps_refused s BadHandle

keeps_key_free : (k : ℕ) (o : Option Standing) (s : Holdings) → Keeps s (frees_key k o s)
keeps_key_free k (Some Closed) s = keeps_ok s _ 0
keeps_key_free k (Some Opened) s = keeps_refused s Open
keeps_key_free k (Some Lexical) s = keeps_refused s BadKey
keeps_key_free k None s = keeps_refused s BadKey

keeps_key_open : (k : ℕ) (o : Option Standing) (s : Holdings) → Keeps s (opens k o s)
keeps_key_open k (Some Closed) s = keeps_ok s _ k
keeps_key_open k (Some Opened) s = keeps_refused s Open
keeps_key_open k (Some Lexical) s = keeps_refused s BadKey
keeps_key_open k None s = keeps_refused s BadKey

keeps_key_close : (k : ℕ) (o : Option Standing) (s : Holdings) → Keeps s (closes k o s)
keeps_key_close k (Some Opened) s = keeps_ok s _ 0
keeps_key_close k (Some Closed) s = keeps_refused s NotOpen
keeps_key_close k (Some Lexical) s = keeps_refused s BadKey
keeps_key_close k None s = keeps_refused s BadKey

keeps_unique_free : (at : ℕ) (o : Option Owner) (s : Holdings) → Keeps s (frees_alone at o s)
keeps_unique_free at (Some (Alone b room)) s = keeps_if s (nat_eq b at) _ (refuses NotABlock s) (keeps_ok s _ 0) (keeps_refused s NotABlock)
keeps_unique_free at (Some (Region r)) s = keeps_refused s NotABlock
keeps_unique_free at None s = keeps_refused s NotABlock

-- no refused call changes anything
pub law_keeps : (asked : Asked) (r : Result ℕ StoreRefusal) (s : Holdings) → Keeps s (law_of asked r s)
law_keeps RegionNew r s = keeps_made Lexical (answer_of r) s
law_keeps (RegionAlloc h bytes) r s = keeps_region_alloc h bytes (answer_of r) s
law_keeps (RegionFree h) r s = keeps_region_free h (s.standing h) s
law_keeps (UniqueAlloc bytes) r s = keeps_unique_alloc bytes (answer_of r) s
law_keeps (UniqueFree at) r s = keeps_unique_free at (s.owner at) s
law_keeps KeyNew r s = keeps_made Closed (answer_of r) s
law_keeps (KeyOpen k) r s = keeps_key_open k (s.standing k) s
law_keeps (KeyClose k) r s = keeps_key_close k (s.standing k) s
law_keeps (KeyFree k) r s = keeps_key_free k (s.standing k) s

-- ---- blocks show whose each address is

abbrev Owned : (ℕ → Option Owner) → List Block → Type 0
Owned owner [] = Unit {0}
Owned owner (b ∷ bs) = ((q : ℕ) → is_in_room b.from b.room q ≡ true → owner q ≡ Some b.who) × Owned owner bs

record Shows (bs : List Block) (owner : ℕ → Option Owner) : Type 0 where
  found : (q : ℕ) → owner q ≡ owner_of bs q
  own : Owned owner bs

owned_along : (bs : List Block) (owner owner2 : ℕ → Option Owner) → ((q : ℕ) (who : Owner) → owner q ≡ Some who → owner2 q ≡ Some who) → Owned owner bs →
    Owned owner2 bs
owned_along [] owner owner2 f o = tt
owned_along (b ∷ bs) owner owner2 f o = (λ q i. f q b.who (o.0 q i), owned_along bs owner owner2 f o.1)

granted_shows : (bs : List Block) (s : Holdings) (at bytes room : ℕ) (who : Owner) → is_lawful_room s at room ≡ true → Shows bs s.owner →
    Shows (record { from = at; bytes = bytes; room = room; who = who } ∷ bs) (owns at room who s.owner)
granted_shows bs s at bytes room who l w = record {
  found = λ q. ap (λ o. if is_in_room at room q then Some who else o) (w.found q);
  own = (λ q i. rw i refl, owned_along bs s.owner (owns at room who s.owner) (λ q x e. rw (outside s at room q x l e) e) w.own);
}

-- ---- blocks that are freed

module _ (test : Option Owner → Bool) (owner : ℕ → Option Owner) where
  abbrev freed : ℕ → Option Owner
  freed q = (if test (owner q) then None else owner q)

  -- no block that is left holds an address that was freed
  none_left : (bs : List Block) (q : ℕ) (who : Owner) → owner q ≡ Some who → test (Some who) ≡ true → Owned owner bs → owner_of (those_not test bs) q ≡ None
  none_left [] q who e t o = refl
  none_left (b ∷ bs) q who e t o = by_test (test (Some b.who)) refl (none_left bs q who e t o.1)
    where
      by_room : (i : Bool) → is_in_room b.from b.room q ≡ i → test (Some b.who) ≡ false → owner_of (those_not test bs) q ≡ None →
          (if i then Some b.who else owner_of (those_not test bs) q) ≡ None
      by_room true i f ih = absurd (let x : test (Some b.who) ≡ true = ap test (sym (o.0 q i) ∙ e) ∙ t in cc)
      by_room false i f ih = ih

      by_test : (f : Bool) → test (Some b.who) ≡ f → owner_of (those_not test bs) q ≡ None →
          owner_of (if f then those_not test bs else b ∷ those_not test bs) q ≡ None
      by_test true f ih = ih
      by_test false f ih = by_room (is_in_room b.from b.room q) refl f ih

  found_left : (none : test None ≡ false) (bs : List Block) (q : ℕ) → Owned owner bs →
      (if test (owner_of bs q) then None else owner_of bs q) ≡ owner_of (those_not test bs) q
  found_left none [] q o = rw none refl
  found_left none (b ∷ bs) q o = by_room (is_in_room b.from b.room q) (test (Some b.who)) refl refl (found_left none bs q o.1)
    where
      by_room : (i f : Bool) → is_in_room b.from b.room q ≡ i → test (Some b.who) ≡ f →
          (if test (owner_of bs q) then None else owner_of bs q) ≡ owner_of (those_not test bs) q →
          (if test (if i then Some b.who else owner_of bs q) then None else (if i then Some b.who else owner_of bs q)) ≡ owner_of
          (if f then those_not test bs else b ∷ those_not test bs) q
      by_room true true i f ih = rw f (sym (none_left bs q b.who (o.0 q i) f o.1))
      by_room true false i f ih = rw (f, i) refl
      by_room false true i f ih = ih
      by_room false false i f ih = rw i ih

  owned_left : (bs : List Block) → Owned owner bs → Owned freed (those_not test bs)
  owned_left [] o = tt
  owned_left (b ∷ bs) o = by_test (test (Some b.who)) refl (owned_left bs o.1)
    where
      by_test : (f : Bool) → test (Some b.who) ≡ f → Owned freed (those_not test bs) → Owned freed (if f then those_not test bs else b ∷ those_not test bs)
      by_test true f ih = ih
      by_test false f ih = (λ q i. (let e = o.0 q i in let t : test (owner q) ≡ false = ap test e ∙ f in rw t e), ih)

  freed_shows : test None ≡ false → (bs : List Block) → Shows bs owner → Shows (those_not test bs) freed
  freed_shows none bs w = record {
    found = λ q. ap (λ o. if test o then None else o) (w.found q) ∙ found_left none bs q w.own;
    own = owned_left bs w.own;
  }

-- ---- calls

pub alone_gone : (at : ℕ) (n : ℕ) (s after : Holdings) (o : Option Owner) → Does (Ok n) after (frees_alone at o s) →
    after.owner ≡ (λ q. if is_alone at (s.owner q) then None else s.owner q)
alone_gone at n s after (Some (Alone b room)) d = by_same (nat_eq b at) d
  where
    by_same : (t : Bool) → Does (Ok n) after (if t then record { says = Ok 0; after = lawful.without_alone at room s } else refuses NotABlock s) →
        after.owner ≡ (λ q. if is_alone at (s.owner q) then None else s.owner q)
    by_same true d = ap (λ h. let h : Holdings = h in h.owner) d.holds
    by_same false d = absurd (let x = d.says in cc)
alone_gone at n s after (Some (Region r)) d = absurd (let x = d.says in cc)
alone_gone at n s after None d = absurd (let x = d.says in cc)

along : (bs : List Block) (x y : Holdings) → y ≡ x → Shows bs x.owner → Shows bs y.owner
along bs x y e w = subst (λ h. let h : Holdings = h in Shows bs h.owner) (sym e) w

granted_step : (asked : Asked) (n : ℕ) (bs : List Block) (s after : Holdings) → Does (Ok n) after (law_of asked (Ok n) s) → Shows bs s.owner →
    Shows (blocks_after asked (Ok n) bs) after.owner
granted_step RegionNew n bs s after d w = along bs _ after (made_left Lexical n s after d).left w
granted_step (RegionAlloc h bytes) n bs s after d w =
    let m = block_placed h bytes n s after d in along _ _ after m.left (granted_shows bs s n bytes (room_of bytes) (Region h) m.lawful w)
granted_step (RegionFree h) n bs s after d w =
    let f = region_freed h s (Ok n) after refl d in along _ _ after f.gives.holds (freed_shows (is_of h) s.owner refl bs w)
granted_step (UniqueAlloc bytes) n bs s after d w =
    let m = alone_placed bytes n s after d in along _ _ after m.left (granted_shows bs s n bytes (class_of bytes) (Alone n (class_of bytes)) m.lawful w)
granted_step (UniqueFree at) n bs s after d w =
    subst (Shows (those_not (is_alone at) bs)) (sym (alone_gone at n s after (s.owner at) d)) (freed_shows (is_alone at) s.owner refl bs w)
granted_step KeyNew n bs s after d w = along bs _ after (made_left Closed n s after d).left w
granted_step (KeyOpen k) n bs s after d w = along bs _ after (key_opened k s (Ok n) after refl d).gives.holds w
granted_step (KeyClose k) n bs s after d w = along bs _ after (key_closed k s (Ok n) after refl d).gives.holds w
granted_step (KeyFree k) n bs s after d w =
    let f = key_freed k s (Ok n) after refl d in along _ _ after f.gives.holds (freed_shows (is_of k) s.owner refl bs w)

refused_blocks : (asked : Asked) (why : StoreRefusal) (bs : List Block) → bs ≡ blocks_after asked (Err why) bs
refused_blocks RegionNew why bs = refl
refused_blocks (RegionAlloc h bytes) why bs = refl
refused_blocks (RegionFree h) why bs = refl
refused_blocks (UniqueAlloc bytes) why bs = refl
refused_blocks (UniqueFree at) why bs = refl
refused_blocks KeyNew why bs = refl
refused_blocks (KeyOpen k) why bs = refl
refused_blocks (KeyClose k) why bs = refl
refused_blocks (KeyFree k) why bs = refl

step : (asked : Asked) (r : Result ℕ StoreRefusal) (bs : List Block) (s after : Holdings) → Does r after (law_of asked r s) → Shows bs s.owner →
    Shows (blocks_after asked r bs) after.owner
step asked (Ok n) bs s after d w = granted_step asked n bs s after d w
step asked (Err why) bs s after d w =
    let e : after ≡ s = d.holds ∙ (law_keeps asked (Err why) s).kept why (sym d.says) in
    subst (λ bs. Shows bs after.owner) (refused_blocks asked why bs) (along bs s after e w)

lives : (ts : List Told) (bs : List Block) (s : Holdings) → AreTold s ts → Shows bs s.owner → Shows (blocks_of bs ts) (held_after s ts).owner
lives [] bs s is w = w
lives (t ∷ ts) bs s is w = lives ts (blocks_after t.asked t.result bs) t.after is.1 (step t.asked t.result bs s t.after is.0 w)

pub live_blocks : LiveBlocks
live_blocks pages ts is q = (lives ts [] (fresh pages) is (record { found = λ q. refl; own = tt })).found q
