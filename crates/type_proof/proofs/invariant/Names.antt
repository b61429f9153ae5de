-- The region names in scope stand for regions of the memory.
use Rattle.std.proofs.Common.{◌≡◌, ℕ, zero, suc, ◌+◌, ◌<◌, Bool, true, false, ◌⊎◌, inl, inr, List, [], ◌∷◌, refl, sym, ◌∙◌, ap, subst, arith}
use Rattle.std.specs.Prelude.{if◌then◌else◌, ◌||◌, ◌&&◌, length}
use Rattle.std.proofs.lemmas.Bool.{cases_Bool, false≢true, eqb-true, eq-eqb, and_parts, or_cases}
use Rattle.source_meaning.specs.Memory.{Region, Live, Memory, same_region}
use Rattle.source_typing.specs.Regions as names
use Rattle.source_typing.specs.Regions.{TheHeap, Level, same_id, is_heap, is_among, any_of, by_bounds, reaches, Regions, with_scope, entry_regions}
use Rattle.source_typing.proofs.NamedBelow.{below_up}
use Rattle.source_meaning.proofs.Cases.{region_is, region_itself}
use Rattle.type_proof.specs.Flat.{Tables}
use Rattle.source_typing.specs.Named.{Below, AllBelow, BoundsBelow}
use Rattle.type_proof.proofs.invariant.Facts.{if_cases, at_region, not_region}
use Rattle.type_proof.proofs.invariant.Invariant.{heap, Owner, Nobody, Pinned, Ghost, Steady, ByScope, ByLoan, StateOk, Counted, Known, Inv, Grows}
use Rattle.type_proof.proofs.invariant.Births.{bearing, with_birth, Births}
use Rattle.type_proof.proofs.invariant.Scopes.{above_scope, lasts}

-- a region's name in a text
abbrev pub NameOf : Type 0
NameOf = names.Region

-- a region that stays live while k values are on their way or lent
abbrev pub Stands : ℕ → Owner → Type 0
Stands k o = (o ≡ Nobody) ⊎ ((i : ℕ) × (i < k) × (o ≡ Pinned i))

-- a region that outlives one that stays live
pub record Outlasts (r : Region) (k : ℕ) (w : Ghost) (m : Memory) : Type 0 where
  pub lower : Region
  pub known : Known m lower
  pub live : m.state lower ≡ Live
  pub stands : Stands k (w.owner lower)
  pub above : w.above r lower ≡ true

pub record NamesOk (g : Regions) (f : NameOf → Region) (k : ℕ) (w : Ghost) (m : Memory) : Type 0 where
  pub heap_is : f TheHeap ≡ heap
  pub known : (a : NameOf) → Below g.count a → Known m (f a)
  pub bounded : (a : NameOf) → g.live a ≡ true → Below g.count a
  pub live : (a : NameOf) → g.live a ≡ true → m.state (f a) ≡ Live
  pub stands : (a : NameOf) → g.live a ≡ true → Stands k (w.owner (f a))
  -- what outlives the scopes that begin from here on
  pub lasting : (a : NameOf) → g.lasts a ≡ true → Below g.count a × Outlasts (f a) k w m
  pub order : (a b : NameOf) → g.order a b ≡ true → w.above (f a) (f b) ≡ true

stands_steady : (k : ℕ) (o : Owner) → Stands k o → Steady o
stands_steady k o (inl e) = subst Steady (sym e) ByScope
stands_steady k o (inr e) = subst Steady (sym e.2) ByLoan

-- it stays live too
outlasts_live : (d : Tables) (r : Region) (k : ℕ) (w : Ghost) (m : Memory) → Inv d w m → Outlasts r k w m → m.state r ≡ Live
outlasts_live d r k w m i h = i.closed h.lower r h.live h.above

outlasts_steady : (d : Tables) (r : Region) (k : ℕ) (w : Ghost) (m : Memory) → Inv d w m → Outlasts r k w m → Steady (w.owner r)
outlasts_steady d r k w m i h = elim (cases_Bool (same_region r h.lower)) [
  | inl e ↦ subst (λ (q : Region). Steady (w.owner q)) (sym (region_is r h.lower e)) (stands_steady k (w.owner h.lower) h.stands)
  | inr e ↦ i.rests h.lower r h.live h.above (not_region r h.lower e)
]

-- later memories
pub names_later : (d : Tables) (g : Regions) (f : NameOf → Region) (k b : ℕ) (w : Ghost) (m : Memory) (w' : Ghost) (m' : Memory) → Inv d w' m'
    → Grows k b w m w' m' → NamesOk g f k w m → NamesOk g f k w' m'
names_later d g f k b w m w' m' i x n = record {
  heap_is = n.heap_is;
  bounded = n.bounded;
  known = λ a h. x.known _ (n.known a h);
  live = λ a l. alive (f a) (n.known a (n.bounded a l)) (n.live a l) (n.stands a l);
  stands = λ a l. later (f a) (n.known a (n.bounded a l)) (n.stands a l);
  lasting = λ a l.
      let z : Below g.count a × Outlasts (f a) k w m = n.lasting a l in (
        z.0,
        record {
          lower = z.1.lower;
          known = x.known z.1.lower z.1.known;
          live = alive z.1.lower z.1.known z.1.live z.1.stands;
          stands = later z.1.lower z.1.known z.1.stands;
          above = x.above (f a) z.1.lower z.1.above;
        },
      );
  order = λ a c e. x.above _ _ (n.order a c e);
}
  where
    later : (r : Region) → Known m r → Stands k (w.owner r) → Stands k (w'.owner r)
    later r h (inl e) = inl (x.scoped r h e)
    later r h (inr e) = inr (e.0, e.1, x.pinned r e.0 e.1 e.2)

    alive : (r : Region) → Known m r → m.state r ≡ Live → Stands k (w.owner r) → m'.state r ≡ Live
    alive r h l (inl e) = x.state r (x.scoped r h e) ∙ l
    alive r h l (inr e) = subst (λ (o : Owner). StateOk o (w'.keyed r) (m'.state r)) (x.pinned r e.0 e.1 e.2) (i.states r)

-- more may be on its way
pub names_more : (g : Regions) (f : NameOf → Region) (k : ℕ) (w : Ghost) (m : Memory) → NamesOk g f k w m → NamesOk g f (suc k) w m
names_more g f k w m n = record {
  heap_is = n.heap_is;
  known = n.known;
  bounded = n.bounded;
  live = n.live;
  order = n.order;
  stands = λ a l. more (n.stands a l);
  lasting = λ a l.
      let z : Below g.count a × Outlasts (f a) k w m = n.lasting a l in
      (z.0, record { lower = z.1.lower; known = z.1.known; live = z.1.live; stands = more z.1.stands; above = z.1.above });
}
  where
    more : {o : Owner} → Stands k o → Stands (suc k) o
    more (inl e) = inl e
    more (inr e) = inr (e.0, omega (arith, e.1), e.2)

-- another region for one name
abbrev pub naming : (NameOf → Region) → ℕ → Region → NameOf → Region
naming f n r a = (if same_id a (Level n) then r else f a)

id_is : (a : NameOf) (n : ℕ) → same_id a (Level n) ≡ true → a ≡ Level n
id_is TheHeap n h = absurd (false≢true h)
id_is (Level k) n h = ap Level (eqb-true k n h)

pub below_more : (n : ℕ) (a : NameOf) → Below (n + 1) a → same_id a (Level n) ≡ false → Below n a
below_more n TheHeap h e = tt
below_more n (Level k) h e = less k n h (λ z. false≢true (sym e ∙ eq-eqb k n z))
  where
    less : (x y : ℕ) → x < y + 1 → (x ≡ y → ⊥) → x < y
    less x y p z = omega (arith, p, z)

pub new_below : (n : ℕ) (a : NameOf) → same_id a (Level n) ≡ true → Below (n + 1) a
new_below n a e = subst (λ (x : NameOf). Below (n + 1) x) (sym (id_is a n e)) (omega arith)

-- what a name stands for, whether it is the new one or another
pub named_cases : (f : NameOf → Region) (n : ℕ) (r : Region) (a : NameOf) (P : Region → Type 0) → (same_id a (Level n) ≡ true → P r)
    → (same_id a (Level n) ≡ false → P (f a)) → P (naming f n r a)
named_cases f n r a P h k = if_cases (same_id a (Level n)) r (f a) P h k

-- a scope begins
pub names_scope : (d : Tables) (g : Regions) (f : NameOf → Region) (k : ℕ) (w : Ghost) (m : Memory) (x y : ℕ) (r : Region) → Inv d w m
    → Births w m x y r Live (above_scope w m r) Nobody false → NamesOk g f k w m
    → NamesOk (with_scope g) (naming f g.count r) k (bearing w r (above_scope w m r) Nobody false) (with_birth m x y r Live)
names_scope d g f k w m x y r i n h = record {
  heap_is = h.heap_is;
  known = λ a l. named_cases f g.count r a (λ q. Counted x y q) (λ e. n.here) (λ e. n.more _ (h.known a (below_more g.count a l e)));
  bounded = λ a. if_cases (same_id a (Level g.count)) true (g.live a) (λ z. z ≡ true → Below (g.count + 1) a) (λ e l. new_below g.count a e)
      (λ e l. below_up g.count a (h.bounded a l));
  live = λ a. elim (cases_Bool (same_id a (Level g.count))) [
    | inl e ↦ (λ l. new_live a e)
    | inr e ↦ (λ l. old_live a e (h.live a (was a e l)))
  ];
  stands = λ a. elim (cases_Bool (same_id a (Level g.count))) [
    | inl e ↦ (λ l. new_stands a e)
    | inr e ↦ (λ l. old_stands a e (h.stands a (was a e l)))
  ];
  lasting = λ a. elim (cases_Bool (same_id a (Level g.count))) [
    | inl e ↦ (λ l. (new_below g.count a e, new_lasts a e))
    | inr e ↦ (λ l. let z : Below g.count a × Outlasts (f a) k w m = h.lasting a (old_lasts a e l) in (below_up g.count a z.0, old_outlasts a e z.1))
  ];
  order = λ a b. elim (cases_Bool (same_id b (Level g.count))) [
    | inl e ↦ (λ v. subst (λ (q : Bool). w1.above (naming f g.count r a) (if q then r else f b) ≡ true) (sym e)
        (new_upper a (subst (λ (q : Bool). by_end q a b ≡ true) e v)))
    | inr e ↦ (λ v. subst (λ (q : Bool). w1.above (naming f g.count r a) (if q then r else f b) ≡ true) (sym e)
        (old_upper a b (subst (λ (q : Bool). by_end q a b ≡ true) e v)))
  ];
}
  where
    w1 : Ghost
    w1 = bearing w r (above_scope w m r) Nobody false

    m1 : Memory
    m1 = with_birth m x y r Live

    by_end : Bool → NameOf → NameOf → Bool
    by_end q a b = (if q then (if same_id a (Level g.count) then true else g.lasts a) else (if same_id a (Level g.count) then false else g.order a b))

    new_live : (a : NameOf) → same_id a (Level g.count) ≡ true → m1.state (naming f g.count r a) ≡ Live
    new_live a e = subst (λ (b : Bool). m1.state (if b then r else f a) ≡ Live) (sym e)
        (at_region m.state r Live r (λ q. q ≡ Live) (λ z. refl) (λ z. absurd (z refl)))

    new_stands : (a : NameOf) → same_id a (Level g.count) ≡ true → Stands k (w1.owner (naming f g.count r a))
    new_stands a e = subst (λ (b : Bool). Stands k (w1.owner (if b then r else f a))) (sym e)
        (inl (at_region w.owner r Nobody r (λ q. q ≡ Nobody) (λ z. refl) (λ z. absurd (z refl))))

    old_live : (a : NameOf) → same_id a (Level g.count) ≡ false → m.state (f a) ≡ Live → m1.state (naming f g.count r a) ≡ Live
    old_live a e l = subst (λ (b : Bool). m1.state (if b then r else f a) ≡ Live) (sym e) (at_region m.state r Live (f a) (λ q. q ≡ Live) (λ z. refl) (λ z. l))

    old_stands : (a : NameOf) → same_id a (Level g.count) ≡ false → Stands k (w.owner (f a)) → Stands k (w1.owner (naming f g.count r a))
    old_stands a e l = subst (λ (b : Bool). Stands k (w1.owner (if b then r else f a))) (sym e)
        (at_region w.owner r Nobody (f a) (λ q. Stands k q) (λ z. inl refl) (λ z. l))

    old_lasts : (a : NameOf) → same_id a (Level g.count) ≡ false → (if same_id a (Level g.count) then true else g.lasts a) ≡ true → g.lasts a ≡ true
    old_lasts a e l = subst (λ (b : Bool). (if b then true else g.lasts a) ≡ true) e l

    was : (a : NameOf) → same_id a (Level g.count) ≡ false → (if same_id a (Level g.count) then true else g.live a) ≡ true → g.live a ≡ true
    was a e l = subst (λ (b : Bool). (if b then true else g.live a) ≡ true) e l

    upper : (q : Region) → above_scope w m r q ≡ true → w1.above q r ≡ true
    upper q u = ap (λ (b : Bool). if b then above_scope w m r q else w.above q r) (region_itself r) ∙ u

    new_lasts : (a : NameOf) → same_id a (Level g.count) ≡ true → Outlasts (naming f g.count r a) k w1 m1
    new_lasts a e = subst (λ (b : Bool). Outlasts (if b then r else f a) k w1 m1) (sym e) (record {
      lower = r;
      known = n.here;
      live = at_region m.state r Live r (λ q. q ≡ Live) (λ z. refl) (λ z. absurd (z refl));
      stands = inl (at_region w.owner r Nobody r (λ q. q ≡ Nobody) (λ z. refl) (λ z. absurd (z refl)));
      above = upper r n.up_itself;
    })

    old_outlasts : (a : NameOf) → same_id a (Level g.count) ≡ false → Outlasts (f a) k w m → Outlasts (naming f g.count r a) k w1 m1
    old_outlasts a e z = subst (λ (b : Bool). Outlasts (if b then r else f a) k w1 m1) (sym e) (record {
      lower = z.lower;
      known = n.more z.lower z.known;
      live = at_region m.state r Live z.lower (λ q. q ≡ Live) (λ y. refl) (λ y. z.live);
      stands = at_region w.owner r Nobody z.lower (λ q. Stands k q) (λ y. inl refl) (λ y. z.stands);
      above = at_region (λ q. w.above (f a) q) r (above_scope w m r (f a)) z.lower (λ q. q ≡ true)
          (λ y. absurd (n.new (subst (λ (q : Region). Known m q) y z.known))) (λ y. z.above);
    })

    new_upper : (a : NameOf) → (if same_id a (Level g.count) then true else g.lasts a) ≡ true → w1.above (naming f g.count r a) r ≡ true
    new_upper a = elim (cases_Bool (same_id a (Level g.count))) [
      | inl e ↦ (λ v. subst (λ (q : Bool). w1.above (if q then r else f a) r ≡ true) (sym e) (upper r n.up_itself))
      | inr e ↦ (λ v. let z : Outlasts (f a) k w m = (h.lasting a (old_lasts a e v)).1 in
          subst (λ (q : Bool). w1.above (if q then r else f a) r ≡ true) (sym e)
          (upper (f a) (lasts w m r (f a) (outlasts_live d (f a) k w m i z) (outlasts_steady d (f a) k w m i z))))
    ]

    old_upper : (a b : NameOf) → (if same_id a (Level g.count) then false else g.order a b) ≡ true → w1.above (naming f g.count r a) (f b) ≡ true
    old_upper a b = elim (cases_Bool (same_id a (Level g.count))) [
      | inl e ↦ (λ v. absurd (false≢true (subst (λ (q : Bool). (if q then false else g.order a b) ≡ true) e v)))
      | inr e ↦ (λ v. (let o : w.above (f a) (f b) ≡ true = h.order a b (subst (λ (q : Bool). (if q then false else g.order a b) ≡ true) e v) in
          subst (λ (q : Bool). w1.above (if q then r else f a) (f b) ≡ true) (sym e)
          (at_region (λ q. w.above (f a) (f b)) r (above_scope w m r (f a)) (f b) (λ q. q ≡ true)
          (λ z. absurd (n.new (subst (λ (q : Region). Known m q) z (i.born_lower _ _ o)))) (λ z. o))))
    ]

-- ---- names by their tests

pub heap_only : (a : NameOf) → is_heap a ≡ true → a ≡ TheHeap
heap_only TheHeap e = refl
heap_only (Level k) e = absurd (false≢true e)

pub same_only : (a b : NameOf) → same_id a b ≡ true → a ≡ b
same_only TheHeap TheHeap e = refl
same_only TheHeap (Level k) e = absurd (false≢true e)
same_only (Level j) TheHeap e = absurd (false≢true e)
same_only (Level j) (Level k) e = ap Level (eqb-true j k e)

first_below : (count : ℕ) (a b : NameOf) → Below count b → is_heap a || same_id a b ≡ true → Below count a
first_below count a b l e = elim (or_cases (is_heap a) (same_id a b) e) [
  | inl z ↦ subst (λ (q : NameOf). Below count q) (sym (heap_only a z)) tt
  | inr z ↦ subst (λ (q : NameOf). Below count q) (sym (same_only a b z)) l
]

bounds_below : (count : ℕ) (bs : List (NameOf × NameOf)) (a : NameOf) (further : NameOf → Bool) → BoundsBelow count bs → by_bounds bs a further ≡ true
    → Below count a
bounds_below count [] a further h e = absurd (false≢true e)
bounds_below count ((x, y) ∷ bs) a further h e = elim (or_cases (same_id x a && further y) (by_bounds bs a further) e) [
  | inl z ↦ subst (λ (q : NameOf). Below count q) (same_only x a (and_parts (same_id x a) (further y) z).0) h.0
  | inr z ↦ bounds_below count bs a further h.2 z
]

-- what outlives a name by bounds was declared too
reaches_below : (count n : ℕ) (bs : List (NameOf × NameOf)) (a b : NameOf) → BoundsBelow count bs → Below count b → reaches n bs a b ≡ true → Below count a
reaches_below count zero bs a b h l e = first_below count a b l e
reaches_below count (suc n) bs a b h l e = elim (or_cases (is_heap a || same_id a b) (by_bounds bs a (λ c. reaches n bs c b)) e) [
  | inl z ↦ first_below count a b l z
  | inr z ↦ bounds_below count bs a (λ c. reaches n bs c b) h z
]

-- ---- where a function begins

-- the regions of an effect stay live
abbrev pub AllStand : (NameOf → Region) → ℕ → Ghost → Memory → List NameOf → Type 0
AllStand h k w m [] = Unit {0}
AllStand h k w m (r ∷ rs) = (m.state (h r) ≡ Live) × Stands k (w.owner (h r)) × AllStand h k w m rs

-- declared bounds hold
abbrev pub AllOrdered : (NameOf → Region) → Ghost → List (NameOf × NameOf) → Type 0
AllOrdered h w [] = Unit {0}
AllOrdered h w ((x, y) ∷ bs) = (w.above (h x) (h y) ≡ true) × AllOrdered h w bs

module _ (d : Tables) (h : NameOf → Region) (k : ℕ) (w : Ghost) (m : Memory) (i : Inv d w m) where
  -- a name among those of an effect
  record Member (count : ℕ) (rs : List NameOf) (holds : NameOf → Bool) : Type 0 where
    name : NameOf
    below : Below count name
    live : m.state (h name) ≡ Live
    stands : Stands k (w.owner (h name))
    is : holds name ≡ true

  any_is : (count : ℕ) (rs : List NameOf) (holds : NameOf → Bool) → AllBelow count rs → AllStand h k w m rs → any_of rs holds ≡ true → Member count rs holds
  any_is count [] holds b s e = absurd (false≢true e)
  any_is count (r ∷ rs) holds b s e = elim (or_cases (holds r) (any_of rs holds) e) [
    | inl z ↦ record { name = r; below = b.0; live = s.0; stands = s.1; is = z }
    | inr z ↦ (let q : Member count rs holds = any_is count rs holds b.1 s.2 z in
        record { name = q.name; below = q.below; live = q.live; stands = q.stands; is = q.is })
  ]

  among_any : (rs : List NameOf) (a : NameOf) → is_among rs a ≡ true → any_of rs (λ q. same_id q a) ≡ true
  among_any [] a e = e
  among_any (r ∷ rs) a e = by (same_id r a) (λ z. among_any rs a z) e
    where
      by : (c : Bool) → (is_among rs a ≡ true → any_of rs (λ q. same_id q a) ≡ true) → c || is_among rs a ≡ true → c || any_of rs (λ q. same_id q a) ≡ true
      by true others z = refl
      by false others z = others z

  module _ (heap_is : h TheHeap ≡ heap) (known : (a : NameOf) → Known m (h a)) where
    first_above : (a b : NameOf) → is_heap a || same_id a b ≡ true → w.above (h a) (h b) ≡ true
    first_above a b e = elim (or_cases (is_heap a) (same_id a b) e) [
      | inl z ↦ subst (λ (q : Region). w.above q (h b) ≡ true) (sym (ap h (heap_only a z) ∙ heap_is)) (i.under_heap (h b) (known b))
      | inr z ↦ subst (λ (q : NameOf). w.above (h a) (h q) ≡ true) (same_only a b z) (i.itself (h a) (known a))
    ]

    bounds_above : (bs : List (NameOf × NameOf)) (a b : NameOf) (further : NameOf → Bool) → AllOrdered h w bs
        → ((c : NameOf) → further c ≡ true → w.above (h c) (h b) ≡ true) → by_bounds bs a further ≡ true → w.above (h a) (h b) ≡ true
    bounds_above [] a b further o up e = absurd (false≢true e)
    bounds_above ((x, y) ∷ bs) a b further o up e = elim (or_cases (same_id x a && further y) (by_bounds bs a further) e) [
      | inl z ↦ (let q : (same_id x a ≡ true) × (further y ≡ true) = and_parts (same_id x a) (further y) z in
          i.along (h a) (h y) (h b) (subst (λ (c : NameOf). w.above (h c) (h y) ≡ true) (same_only x a q.0) o.0) (up y q.1))
      | inr z ↦ bounds_above bs a b further o.1 up z
    ]

    reaches_above : (n : ℕ) (bs : List (NameOf × NameOf)) (a b : NameOf) → AllOrdered h w bs → reaches n bs a b ≡ true → w.above (h a) (h b) ≡ true
    reaches_above zero bs a b o e = first_above a b e
    reaches_above (suc n) bs a b o e = elim (or_cases (is_heap a || same_id a b) (by_bounds bs a (λ c. reaches n bs c b)) e) [
      | inl z ↦ first_above a b z
      | inr z ↦ bounds_above bs a b (λ c. reaches n bs c b) o (λ c q. reaches_above n bs c b o q) z
    ]

    -- The effect's regions stay live, and the bounds hold.
    pub names_entered : (count : ℕ) (effect : List NameOf) (bounds : List (NameOf × NameOf)) → AllBelow count effect → BoundsBelow count bounds
        → AllStand h k w m effect → AllOrdered h w bounds → NamesOk (entry_regions count effect bounds) h k w m
    names_entered count effect bounds eb bb s o = record {
      heap_is = heap_is;
      known = λ a l. known a;
      bounded = λ a l. (stays a l).0;
      live = λ a l. (stays a l).1;
      stands = λ a l. (stays a l).2;
      lasting = λ a l. lasting a (or_cases (reaches (length bounds) bounds a TheHeap) (any_of effect (reaches (length bounds) bounds a)) l);
      order = λ a b e. reaches_above (length bounds) bounds a b o e;
    }
      where
        heap_lives : m.state (h TheHeap) ≡ Live
        heap_lives = ap m.state heap_is ∙ i.heap_lives

        heap_stands : Stands k (w.owner (h TheHeap))
        heap_stands = inl (ap w.owner heap_is ∙ i.heap_is_free)

        stays : (a : NameOf) → is_heap a || is_among effect a ≡ true → Below count a × (m.state (h a) ≡ Live) × Stands k (w.owner (h a))
        stays a l = elim (or_cases (is_heap a) (is_among effect a) l) [
          | inl z ↦ subst (λ (q : NameOf). Below count q × (m.state (h q) ≡ Live) × Stands k (w.owner (h q))) (sym (heap_only a z))
              (tt, heap_lives, heap_stands)
          | inr z ↦ (let q : Member count effect (λ q. same_id q a) = any_is count effect (λ q. same_id q a) eb s (among_any effect a z) in
              subst (λ (c : NameOf). Below count c × (m.state (h c) ≡ Live) × Stands k (w.owner (h c))) (same_only q.name a q.is) (q.below, q.live, q.stands))
        ]

        lasting : (a : NameOf) → (reaches (length bounds) bounds a TheHeap ≡ true) ⊎ (any_of effect (reaches (length bounds) bounds a) ≡ true)
            → Below count a × Outlasts (h a) k w m
        lasting a (inl z) = (
          reaches_below count (length bounds) bounds a TheHeap bb tt z,
          record {
            lower = h TheHeap;
            known = known TheHeap;
            live = heap_lives;
            stands = heap_stands;
            above = reaches_above (length bounds) bounds a TheHeap o z;
          },
        )
        lasting a (inr z) =
            let q : Member count effect (reaches (length bounds) bounds a) = any_is count effect (reaches (length bounds) bounds a) eb s z in (
              reaches_below count (length bounds) bounds a q.name bb q.below q.is,
              record { lower = h q.name; known = known q.name; live = q.live; stands = q.stands; above = reaches_above (length bounds) bounds a q.name o q.is },
            )
