-- Whose each address is, where a page gets a holder, a block is cut from it, or its holder goes.
use Rattle.std.proofs.Common.{◌≡◌, ℕ, zero, suc, ◌+◌, ◌*◌, ◌%◌, ◌<◌, ◌≤◌, Bool, true, false, Option, Some, None, nat_eq, nat_lt, refl, sym, ap, ◌∙◌, arith}
use Rattle.std.specs.Prelude.{if◌then◌else◌, nat_le}
use Rattle.std.proofs.lemmas.Bool.Decides.{nat_tests}
use Rattle.arena_laws.specs.Counts.{put}
use Rattle.arena_laws.specs.declared.owner.Owner.{Owner}
use Rattle.arena_laws.specs.declared.owner.Owner.TheVariants.{Region}
use Rattle.arena_laws.specs.Holdings.{Holdings, arena_base, is_none}
use Rattle.arena_laws.specs.Lawful.{owns, is_in_room, is_of, without_blocks, is_clear, is_lawful_room}
use Rattle.region_runtime.specs.Pool.{owned, owner_at, page_at, place_at}
use Rattle.region_runtime.proofs.Holders.{without_holder}

pub owner_below : (holder : ℕ → Option ℕ) (used : ℕ → ℕ) (q : ℕ) → nat_lt q arena_base ≡ true → owner_at holder used q ≡ None
unfolding owner_at
owner_below holder used q e = rw e refl

pub owner_there : (holder : ℕ → Option ℕ) (used : ℕ → ℕ) (q : ℕ) → nat_lt q arena_base ≡ false →
    owner_at holder used q ≡ owned (holder (page_at q)) (nat_lt (place_at q) (used (page_at q)))
unfolding owner_at
owner_there holder used q e = rw e refl

pub owned_nothing : (o : Option ℕ) → owned o false ≡ None
owned_nothing None = refl
owned_nothing (Some h) = refl

-- an address of a page that nobody holds
pub owner_nobody : (holder : ℕ → Option ℕ) (used : ℕ → ℕ) (q : ℕ) → nat_lt q arena_base ≡ false → holder (page_at q) ≡ None → owner_at holder used q ≡ None
owner_nobody holder used q b e = owner_there holder used q b ∙ ap (λ o. owned o (nat_lt (place_at q) (used (page_at q)))) e

module _ (holder : ℕ → Option ℕ) (used : ℕ → ℕ) (p : ℕ) where
  -- a page that nobody held gets a holder, and none of its bytes is used yet
  pub owner_empty : (o : Option ℕ) → holder p ≡ None → (q : ℕ) → owner_at (put p o holder) (put p 0 used) q ≡ owner_at holder used q
  owner_empty o n q = by_page (nat_lt q arena_base) (nat_eq (page_at q) p) refl refl
    where
      by_page : (b e : Bool) → nat_lt q arena_base ≡ b → nat_eq (page_at q) p ≡ e → owner_at (put p o holder) (put p 0 used) q ≡ owner_at holder used q
      by_page true e b d = owner_below (put p o holder) (put p 0 used) q b ∙ sym (owner_below holder used q b)
      by_page false true b d =
          let same : page_at q ≡ p = grind (arith, nat_tests) in
          let h : put p o holder (page_at q) ≡ o = rw d refl in
          let u : nat_lt (place_at q) (put p 0 used (page_at q)) ≡ false = rw d (grind (arith, nat_tests)) in
          owner_there (put p o holder) (put p 0 used) q b ∙ ap (owned (put p o holder (page_at q))) u ∙ owned_nothing (put p o holder (page_at q))
          ∙ sym (owner_nobody holder used q b (ap holder same ∙ n))
      by_page false false b d =
          owner_there (put p o holder) (put p 0 used) q b
          ∙ (let h : put p o holder (page_at q) ≡ holder (page_at q) = rw d refl in
          let u : put p 0 used (page_at q) ≡ used (page_at q) = rw d refl in
          ap (λ k. owned k (nat_lt (place_at q) (put p 0 used (page_at q)))) h ∙ ap (λ k. owned (holder (page_at q)) (nat_lt (place_at q) k)) u)
          ∙ sym (owner_there holder used q b)

  -- a block is cut from its holder's page, where so many bytes are used
  module _ (h u room : ℕ) (mine : holder p ≡ Some h) (so_many : used p ≡ u) (fits : u + room ≤ 4096) where
    pub owner_cut : (q : ℕ) → owner_at holder (put p (u + room) used) q ≡ owns (arena_base + 4096 * p + u) room (Region h) (owner_at holder used) q
    owner_cut q = by_page (nat_lt q arena_base) (nat_eq (page_at q) p) refl refl
      where
        by_page : (b e : Bool) → nat_lt q arena_base ≡ b → nat_eq (page_at q) p ≡ e →
            owner_at holder (put p (u + room) used) q ≡ owns (arena_base + 4096 * p + u) room (Region h) (owner_at holder used) q
        by_page true e b d =
            let out : is_in_room (arena_base + 4096 * p + u) room q ≡ false = grind (arith, nat_tests) in
            owner_below holder (put p (u + room) used) q b ∙ sym (owner_below holder used q b)
            ∙ ap (λ t. if t then Some (Region h) else owner_at holder used q) (sym out)
        by_page false true b d =
            let same : page_at q ≡ p = grind (arith, nat_tests) in
            let is : holder (page_at q) ≡ Some h = ap holder same ∙ mine in
            let now : put p (u + room) used (page_at q) ≡ u + room = rw d refl in
            let was : used (page_at q) ≡ u = ap used same ∙ so_many in
            let tests : (if nat_lt (place_at q) (u + room) then Some (Region h) else None)
            ≡ (if is_in_room (arena_base + 4096 * p + u) room q then Some (Region h) else (if nat_lt (place_at q) u then Some (Region h) else None)) = grind
            (arith, nat_tests) in
            owner_there holder (put p (u + room) used) q b
            ∙ ap (λ o. owned o (nat_lt (place_at q) (put p (u + room) used (page_at q)))) is
            ∙ ap (λ k. owned (Some h) (nat_lt (place_at q) k)) now ∙ tests
            ∙ ap (λ o. if is_in_room (arena_base + 4096 * p + u) room q then Some (Region h) else o)
            (sym (owner_there holder used q b ∙ ap (λ o. owned o (nat_lt (place_at q) (used (page_at q)))) is
            ∙ ap (λ k. owned (Some h) (nat_lt (place_at q) k)) was))
        by_page false false b d =
            let out : is_in_room (arena_base + 4096 * p + u) room q ≡ false = grind (arith, nat_tests) in
            let k : put p (u + room) used (page_at q) ≡ used (page_at q) = rw d refl in
            owner_there holder (put p (u + room) used) q b ∙ ap (λ n. owned (holder (page_at q)) (nat_lt (place_at q) n)) k ∙ sym (owner_there holder used q b)
            ∙ ap (λ t. if t then Some (Region h) else owner_at holder used q) (sym out)

    pub clear_cut : (j : ℕ) → j < room → owner_at holder used (arena_base + 4096 * p + u + j) ≡ None
    clear_cut j l =
        let q = arena_base + 4096 * p + u + j in
        let b : nat_lt q arena_base ≡ false = grind (arith, nat_tests) in
        let same : page_at q ≡ p = omega (arith, l, fits) in
        let o : nat_lt (place_at q) (used (page_at q)) ≡ false =
        (let was : used (page_at q) ≡ u = ap used same ∙ so_many in let at : place_at q ≡ u + j = omega (arith, l, fits) in grind (arith, nat_tests)) in
        owner_there holder used q b ∙ ap (owned (holder (page_at q))) o ∙ owned_nothing (holder (page_at q))

-- a holder's pages are held no more
owned_without : (h : ℕ) (o : Option ℕ) (b : Bool) → owned (without_holder h o) b ≡ (if is_of h (owned o b) then None else owned o b)
owned_without h None b = refl
owned_without h (Some g) true = by_same (nat_eq g h) refl
  where
    by_same : (c : Bool) → nat_eq g h ≡ c → owned (if c then None else Some g) true ≡ (if c then None else Some (Region g))
    by_same true e = refl
    by_same false e = refl
owned_without h (Some g) false = by_same (nat_eq g h)
  where
    by_same : (c : Bool) → owned (if c then None else Some g) false ≡ None
    by_same true = refl
    by_same false = refl

pub owner_without : (h : ℕ) (holder held : ℕ → Option ℕ) (used : ℕ → ℕ) → ((p : ℕ) → held p ≡ without_holder h (holder p)) → (q : ℕ) →
    owner_at held used q ≡ without_blocks h (owner_at holder used) q
owner_without h holder held used e q = by_place (nat_lt q arena_base) refl
  where
    by_place : (b : Bool) → nat_lt q arena_base ≡ b → owner_at held used q ≡ without_blocks h (owner_at holder used) q
    by_place true b = owner_below held used q b ∙ sym (ap (λ o. if is_of h o then None else o) (owner_below holder used q b))
    by_place false b =
        owner_there held used q b ∙ ap (λ o. owned o (nat_lt (place_at q) (used (page_at q)))) (e (page_at q))
        ∙ owned_without h (holder (page_at q)) (nat_lt (place_at q) (used (page_at q)))
        ∙ sym (ap (λ o. if is_of h o then None else o) (owner_there holder used q b))

-- ---- rooms

pub clear_room : (owner : ℕ → Option Owner) (at n : ℕ) → ((j : ℕ) → j < n → owner (at + j) ≡ None) → is_clear owner at n ≡ true
clear_room owner at zero f = refl
clear_room owner at (suc n) f =
    let here : is_none (owner (at + n)) ≡ true = ap is_none (f n (omega arith)) in rw here (clear_room owner at n (λ j l. f j (omega (arith, l))))

pub is_lawful : (s : Holdings) (at room : ℕ) → at % 8 ≡ 0 → arena_base ≤ at → at + room ≤ arena_base + s.pages * 4096 →
    ((j : ℕ) → j < room → s.owner (at + j) ≡ None) → is_lawful_room s at room ≡ true
is_lawful s at room e l m f =
    let a : nat_eq (at % 8) 0 ≡ true = grind (arith, nat_tests) in let b : nat_le arena_base at ≡ true = grind (arith, nat_tests) in
    let c : nat_le (at + room) (arena_base + s.pages * 4096) ≡ true = grind (arith, nat_tests) in
    rw (a, b, c) (clear_room s.owner at room f)
