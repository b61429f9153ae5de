-- The names of aliases and keys, and names beside a scope that has none.
use Rattle.std.proofs.Common.{◌≡◌, ◌+◌, Bool, true, false, inl, inr, refl, sym, subst, ℕ}
use Rattle.std.specs.Prelude.{if◌then◌else◌}
use Rattle.std.proofs.lemmas.Bool.{cases_Bool, false≢true}
use Rattle.source_meaning.specs.Memory.{Region, Live, Memory}
use Rattle.source_typing.specs.Regions.{TheHeap, Level, same_id, Regions, opened, with_name}
use Rattle.type_proof.specs.Flat.{Tables}
use Rattle.type_proof.proofs.invariant.Facts.{if_cases, at_region}
use Rattle.type_proof.proofs.invariant.Invariant.{heap, Nobody, Ghost, Known, Inv}
use Rattle.type_proof.proofs.invariant.Births.{bearing, with_birth, Births}
use Rattle.type_proof.proofs.invariant.Scopes.{above_scope}
use Rattle.type_proof.proofs.invariant.Names.{NameOf, NamesOk, Stands, Outlasts, naming, below_more, new_below, named_cases, same_only}
use Rattle.source_typing.specs.Named.{Below}
use Rattle.source_typing.proofs.NamedBelow.{below_up}

-- a scope begins that has no name
pub names_beside : (d : Tables) (g : Regions) (f : NameOf → Region) (k : ℕ) (w : Ghost) (m : Memory) (x y : ℕ) (r : Region) → Inv d w m
    → Births w m x y r Live (above_scope w m r) Nobody false → NamesOk g f k w m
    → NamesOk g f k (bearing w r (above_scope w m r) Nobody false) (with_birth m x y r Live)
names_beside d g f k w m x y r i n h = record {
  heap_is = h.heap_is;
  known = λ a l. n.more (f a) (h.known a l);
  bounded = h.bounded;
  live = λ a l. at_region m.state r Live (f a) (λ q. q ≡ Live) (λ z. refl) (λ z. h.live a l);
  stands = λ a l. at_region w.owner r Nobody (f a) (λ q. Stands k q) (λ z. inl refl) (λ z. h.stands a l);
  lasting = λ a l.
      let z : Below g.count a × Outlasts (f a) k w m = h.lasting a l in (
        z.0,
        record {
          lower = z.1.lower;
          known = n.more z.1.lower z.1.known;
          live = at_region m.state r Live z.1.lower (λ q. q ≡ Live) (λ y. refl) (λ y. z.1.live);
          stands = at_region w.owner r Nobody z.1.lower (λ q. Stands k q) (λ y. inl refl) (λ y. z.1.stands);
          above = old (f a) z.1.lower z.1.above;
        },
      );
  order = λ a c e. old (f a) (f c) (h.order a c e);
}
  where
    -- what outlives what was there
    old : (p q : Region) → w.above p q ≡ true → (bearing w r (above_scope w m r) Nobody false).above p q ≡ true
    old p q e = at_region (λ z. w.above p q) r (above_scope w m r p) q (λ z. z ≡ true)
        (λ z. absurd (n.new (subst (λ (o : Region). Known m o) z (i.born_lower p q e)))) (λ z. e)

-- a name for a region that is there: only the heap outlives it
pub names_named : (d : Tables) (g : Regions) (f : NameOf → Region) (k : ℕ) (w : Ghost) (m : Memory) (q : Region) (live : Bool) → Inv d w m → Known m q
    → (live ≡ true → m.state q ≡ Live) → (live ≡ true → Stands k (w.owner q)) → NamesOk g f k w m → NamesOk (with_name live g) (naming f g.count q) k w m
names_named d g f k w m q live i born lives stays h = record {
  heap_is = h.heap_is;
  known = λ a l. named_cases f g.count q a (λ r. Known m r) (λ e. born) (λ e. h.known a (below_more g.count a l e));
  bounded = λ a. if_cases (same_id a (Level g.count)) live (g.live a) (λ z. z ≡ true → Below (g.count + 1) a) (λ e l. new_below g.count a e)
      (λ e l. below_up g.count a (h.bounded a l));
  live = λ a. elim (cases_Bool (same_id a (Level g.count))) [
    | inl e ↦ (λ l. subst (λ (b : Bool). m.state (if b then q else f a) ≡ Live) (sym e) (lives (is_new a e l)))
    | inr e ↦ (λ l. subst (λ (b : Bool). m.state (if b then q else f a) ≡ Live) (sym e) (h.live a (is_old a e l)))
  ];
  stands = λ a. elim (cases_Bool (same_id a (Level g.count))) [
    | inl e ↦ (λ l. subst (λ (b : Bool). Stands k (w.owner (if b then q else f a))) (sym e) (stays (is_new a e l)))
    | inr e ↦ (λ l. subst (λ (b : Bool). Stands k (w.owner (if b then q else f a))) (sym e) (h.stands a (is_old a e l)))
  ];
  lasting = λ a. elim (cases_Bool (same_id a (Level g.count))) [
    | inl e ↦ (λ l. absurd (false≢true (subst (λ (b : Bool). (if b then false else g.lasts a) ≡ true) e l)))
    | inr e ↦ (λ l. let z : Below g.count a × Outlasts (f a) k w m = h.lasting a (subst (λ (b : Bool). (if b then false else g.lasts a) ≡ true) e l) in
        (below_up g.count a z.0, subst (λ (b : Bool). Outlasts (if b then q else f a) k w m) (sym e) z.1))
  ];
  order = λ a b. elim (cases_Bool (same_id b (Level g.count))) [
    | inl e ↦ (λ v. subst (λ (z : Bool). w.above (naming f g.count q a) (if z then q else f b) ≡ true) (sym e)
        (upper a (subst (λ (z : Bool). by_end z a b ≡ true) e v)))
    | inr e ↦ (λ v. subst (λ (z : Bool). w.above (naming f g.count q a) (if z then q else f b) ≡ true) (sym e)
        (older a b (subst (λ (z : Bool). by_end z a b ≡ true) e v)))
  ];
}
  where
    by_end : Bool → NameOf → NameOf → Bool
    by_end z a b = (if z then (if same_id a (Level g.count) then true else g.order a TheHeap) else (if same_id a (Level g.count) then false else g.order a b))

    is_new : (a : NameOf) → same_id a (Level g.count) ≡ true → (if same_id a (Level g.count) then live else g.live a) ≡ true → live ≡ true
    is_new a e l = subst (λ (b : Bool). (if b then live else g.live a) ≡ true) e l

    is_old : (a : NameOf) → same_id a (Level g.count) ≡ false → (if same_id a (Level g.count) then live else g.live a) ≡ true → g.live a ≡ true
    is_old a e l = subst (λ (b : Bool). (if b then live else g.live a) ≡ true) e l

    over_heap : (a : NameOf) → g.order a TheHeap ≡ true → w.above (f a) q ≡ true
    over_heap a e = i.along (f a) heap q (subst (λ (r : Region). w.above (f a) r ≡ true) h.heap_is (h.order a TheHeap e)) (i.under_heap q born)

    upper : (a : NameOf) → (if same_id a (Level g.count) then true else g.order a TheHeap) ≡ true → w.above (naming f g.count q a) q ≡ true
    upper a = elim (cases_Bool (same_id a (Level g.count))) [
      | inl e ↦ (λ v. subst (λ (z : Bool). w.above (if z then q else f a) q ≡ true) (sym e) (i.itself q born))
      | inr e ↦ (λ v. subst (λ (z : Bool). w.above (if z then q else f a) q ≡ true) (sym e)
          (over_heap a (subst (λ (z : Bool). (if z then true else g.order a TheHeap) ≡ true) e v)))
    ]

    older : (a b : NameOf) → (if same_id a (Level g.count) then false else g.order a b) ≡ true → w.above (naming f g.count q a) (f b) ≡ true
    older a b = elim (cases_Bool (same_id a (Level g.count))) [
      | inl e ↦ (λ v. absurd (false≢true (subst (λ (z : Bool). (if z then false else g.order a b) ≡ true) e v)))
      | inr e ↦ (λ v. subst (λ (z : Bool). w.above (if z then q else f a) (f b) ≡ true) (sym e)
          (h.order a b (subst (λ (z : Bool). (if z then false else g.order a b) ≡ true) e v)))
    ]

-- a key's region is live while it is open
pub names_opened : (g : Regions) (f : NameOf → Region) (k : ℕ) (w : Ghost) (m : Memory) (r : NameOf) → Below g.count r → m.state (f r) ≡ Live
    → Stands k (w.owner (f r)) → NamesOk g f k w m → NamesOk (opened r g) f k w m
names_opened g f k w m r below l s h = record {
  heap_is = h.heap_is;
  known = h.known;
  lasting = h.lasting;
  order = h.order;
  bounded = λ a. if_cases (same_id a r) true (g.live a) (λ z. z ≡ true → Below g.count a)
      (λ e v. subst (λ (x : NameOf). Below g.count x) (sym (same_only a r e)) below) (λ e v. h.bounded a v);
  live = λ a. if_cases (same_id a r) true (g.live a) (λ z. z ≡ true → m.state (f a) ≡ Live)
      (λ e v. subst (λ (x : NameOf). m.state (f x) ≡ Live) (sym (same_only a r e)) l) (λ e v. h.live a v);
  stands = λ a. if_cases (same_id a r) true (g.live a) (λ z. z ≡ true → Stands k (w.owner (f a)))
      (λ e v. subst (λ (x : NameOf). Stands k (w.owner (f x))) (sym (same_only a r e)) s) (λ e v. h.stands a v);
}
