-- What keeps the relation: a cell is written, moved or lent; a region ends.
use Rattle.std.proofs.Common.{◌≡◌, ℕ, suc, ◌≤◌, List, [], ◌∷◌, Bool, true, false, nat_eq, Option, Some, None, refl, sym, ap, ◌∙◌, subst, arith}
use Rattle.std.specs.Prelude.{◌&&◌, if◌then◌else◌}
use Rattle.std.proofs.lemmas.Bool.{eqb-true, and_parts, true≢false}
use Rattle.source_meaning.specs.Shapes.{Shape}
use Rattle.source_meaning.specs.Memory as source
use Rattle.source_meaning.specs.Memory.{Scalar, Spot, Holds, Cell, same_region, same_spot, with_cell, with_state, state_is_live, state_is_closed, Dead}
use Rattle.source_meaning.specs.Steps.{World}
use Rattle.source_meaning.specs.Values.{is_lent}
use Rattle.source_meaning.proofs.Cases.{spot_is}
use Rattle.core_meaning.specs.Memory as core
use Rattle.core_meaning.specs.Memory.{Content, Part, with_part, with_standing}
use Rattle.core_meaning.proofs.Spots.{spot_same, spot_self}
use Rattle.source_lowering.specs.Simulation.{region_at, at, HasShape, PartIs, Shown, PartsHold, IsShown, StaysAs, kept_in, SameMemory, Bound, nothing, Grown}
pub use Rattle.source_lowering.proofs.memory.Lasting.{
  stays_self,
  stays_dead,
  region_as,
  spot_as,
  named_free,
  free_spot,
  free_object,
  free_nothing,
  later_self,
  later_on,
  IsLess,
  less_self,
  later_less,
  within_around,
  around_items,
  within_items,
  Lasts,
  lasts,
  shown_kept,
  made_later,
  leads_later,
  member_later,
  shown_later,
  led_later,
  all_led_later,
  statics_later,
  pending_later,
  same_own,
  same_blocks,
  blocks_of,
  fits_on,
  later_around,
  later_items,
  fits_later,
}

-- ---- cells

abbrev pub shape_in : Shape → Option Cell → Shape
shape_in s None = s
shape_in s (Some c) = c.shape

abbrev pub content_in : source.Content → Option Cell → source.Content
content_in v None = v
content_in v (Some c) = c.content

abbrev pub value_in : Scalar → source.Content → Scalar
value_in v (Holds u) = u
value_in v source.Blank = v
value_in v source.Gone = v
value_in v (source.Lent x) = v

abbrev pub cell : Shape → source.Content → Cell
cell shape content = record { shape = shape; content = content }

-- ---- a cell gets another content, and no part changes or one does

pub shape_kept : (m : source.Memory) (s : Spot) (shape : Shape) (old new : source.Content) → m.cells s ≡ Some (cell shape old) → (t : Spot) (other : Shape)
    → HasShape m t other → HasShape (with_cell m s (cell shape new)) t other
shape_kept m s shape old new is t other has = by (same_spot t s) refl
  where
    by : (b : Bool) → same_spot t s ≡ b → HasShape (with_cell m s (cell shape new)) t other
    by true e =
        let same : shape ≡ other = ap (shape_in shape) (sym is ∙ ap m.cells (sym (spot_is t s e)) ∙ has.is) in
        record { content = new; is = ap (λ b. if b then Some (cell shape new) else m.cells t) e ∙ ap (λ x. Some (cell x new)) same }
    by false e = record { content = has.content; is = ap (λ b. if b then Some (cell shape new) else m.cells t) e ∙ has.is }

-- a cell that isn't lent
pub record IsUnlent (m : source.Memory) (s : Spot) : Type 0 where
  pub none : (shape : Shape) (v : Scalar) → m.cells s ≡ Some (record { shape = shape; content = source.Lent v }) → ⊥

pub unlent_is : (m : source.Memory) (s : Spot) (shape : Shape) (x : source.Content) → m.cells s ≡ Some (cell shape x) → is_lent x ≡ false → IsUnlent m s
unlent_is m s shape x is free = record { none = λ other v h. absurd (true≢false (sym (ap (λ z. is_lent (content_in x z)) (sym is ∙ h)) ∙ free)) }

-- what is lent stays so, where another cell changes
pub lent_kept : (m : source.Memory) (s : Spot) (new : Cell) → IsUnlent m s → (t : Spot) (shape : Shape) (v : Scalar)
    → m.cells t ≡ Some (cell shape (source.Lent v)) → (with_cell m s new).cells t ≡ Some (cell shape (source.Lent v))
lent_kept m s new free t shape v h = by (same_spot t s) refl
  where
    by : (b : Bool) → same_spot t s ≡ b → (with_cell m s new).cells t ≡ Some (cell shape (source.Lent v))
    by true e = absurd (free.none shape v (ap m.cells (sym (spot_is t s e)) ∙ h))
    by false e = ap (λ b. if b then Some new else m.cells t) e ∙ h

-- the value that a cell keeps is one that it holds or one that is lent
pub kept_cases : (P : source.Content → Scalar → Type 0) → ((v : Scalar) → P (Holds v) v) → ((v : Scalar) → P (source.Lent v) v) → (x : source.Content)
    (v : Scalar) → kept_in x ≡ Some v → P x v
kept_cases P holds lent (Holds u) v e = let same : u ≡ v = cc e in subst (P (Holds u)) same (holds u)
kept_cases P holds lent (source.Lent u) v e = let same : u ≡ v = cc e in subst (P (source.Lent u)) same (lent u)
kept_cases P holds lent source.Blank v e = absurd (cc e)
kept_cases P holds lent source.Gone v e = absurd (cc e)

-- it is the one that the cell got
pub kept_same : (new x : source.Content) (v u : Scalar) → kept_in new ≡ Some v → new ≡ x → kept_in x ≡ Some u → v ≡ u
kept_same new x v u is same keeps = by (sym is ∙ ap kept_in same ∙ keeps)
  where
    by : Some v ≡ Some u → v ≡ u
    by e = cc e

pub part_kept : (c : core.Memory) (s : core.Spot) (j : ℕ) (old : Part) (x : Content) → c.parts s j ≡ Some old → (t : core.Spot) (i offset width : ℕ)
    → PartIs c t i offset width → PartIs (with_part c s j (record old { content = x })) t i offset width
part_kept c s j old x is t i offset width p = by (core.same_spot t s && nat_eq i j) refl
  where
    by : (b : Bool) → (core.same_spot t s && nat_eq i j) ≡ b → PartIs (with_part c s j (record old { content = x })) t i offset width
    by true e =
        let two = and_parts (core.same_spot t s) (nat_eq i j) e in
        let here : Some old ≡ Some (record { offset = offset; width = width; content = p.content }) =
        sym is ∙ ap (λ z. c.parts z j) (sym (spot_same t s two.0)) ∙ ap (λ z. c.parts t z) (sym (eqb-true i j two.1)) ∙ p.is in
        record { content = x; is = ap (λ b. if b then Some (record old { content = x }) else c.parts t i) e ∙ ap (with_x x) here }
      where
        with_x : Content → Option Part → Option Part
        with_x y None = None
        with_x y (Some q) = Some (record q { content = y })
    by false e = record { content = p.content; is = ap (λ b. if b then Some (record old { content = x }) else c.parts t i) e ∙ p.is }

pub later_written : (b : Bound) (m : source.Memory) (c : core.Memory) (s : Spot) (shape : Shape) (old new : source.Content) (part : Part) (x : Content)
    → m.cells s ≡ Some (cell shape old) → IsUnlent m s → c.parts (at s) 0 ≡ Some part → Grown b m c (with_cell m s (cell shape new))
    (with_part c (at s) 0 (record part { content = x }))
later_written b m c s shape old new part x is free there = record {
  shapes = shape_kept m s shape old new is;
  lent = lent_kept m s (cell shape new) free;
  parts = part_kept c (at s) 0 part x there;
  objects =
      λ k h. refl;
  begun = omega arith;
  called = omega arith;
  births = omega arith;
  stays = λ d less. stays_self _;
  stands = λ k h. refl;
  owned = λ k t j r h.
      ap (λ z. if z && nat_eq j 0 then Some (record part { content = x }) else c.parts t j) (free_spot b (at s) t k (named_free b s) r h);
}

none_if : (b : Bool) (x y : Option Cell) → b ≡ false → y ≡ None → (if b then x else y) ≡ None
none_if b x y e h = ap (λ z. if z then x else y) e ∙ h

pub held_other : (c : core.Memory) (s t : core.Spot) (p : Part) (j : ℕ) (cs : List Content) → core.same_spot t s ≡ false → PartsHold c t j cs
    → PartsHold (with_part c s 0 p) t j cs
held_other c s t p j [] e h = tt
held_other c s t p j (x ∷ xs) e ((q, (is, holds)), others) = (
  (q, (ap (λ b. if b && nat_eq j 0 then Some p else c.parts t j) e ∙ is, holds)),
  held_other c s t
      p (suc j) xs e others,
)

pub unmade_kept : (m : source.Memory) (s : Spot) (shape : Shape) (old new : source.Content) → m.cells s ≡ Some (cell shape old)
    → ((t : Spot) → m.objects t.region ≤ t.object → m.cells t ≡ None) → (t : Spot) → m.objects t.region ≤ t.object
    → (with_cell m s (cell shape new)).cells t ≡ None
unmade_kept m s shape old new is unmade t h = by (same_spot t s) refl
  where
    by : (b : Bool) → same_spot t s ≡ b → (with_cell m s (cell shape new)).cells t ≡ None
    by true e = let none : None ≡ Some (cell shape old) = sym (unmade t h) ∙ ap m.cells (spot_is t s e) ∙ is in absurd (cc none)
    by false e = none_if (same_spot t s) (Some (cell shape new)) (m.cells t) e (unmade t h)

-- where there is no part, none is written
pub none_kept : (c : core.Memory) (s : core.Spot) (old : Part) (x : Content) → c.parts s 0 ≡ Some old → (t : core.Spot) (j : ℕ) → c.parts t j ≡ None
    → (with_part c s 0 (record old { content = x })).parts t j ≡ None
none_kept c s old x is t j none = by (core.same_spot t s && nat_eq j 0) refl
  where
    by : (b : Bool) → (core.same_spot t s && nat_eq j 0) ≡ b → (with_part c s 0 (record old { content = x })).parts t j ≡ None
    by true e =
        let two = and_parts (core.same_spot t s) (nat_eq j 0) e in
        let no : None ≡ Some old = sym none ∙ ap (λ z. c.parts z j) (spot_same t s two.0) ∙ ap (λ z. c.parts s z) (eqb-true j 0 two.1) ∙ is in
        absurd (cc no)
    by false e = ap (λ b. if b then Some (record old { content = x }) else c.parts t j) e ∙ none

abbrev pub m_written : source.Memory → Spot → Shape → Scalar → source.Memory
m_written m s shape v = with_cell m s (cell shape (Holds v))

abbrev pub c_written : core.Memory → Spot → Part → Content → core.Memory
c_written c s part x = with_part c (at s) 0 (record part { content = x })

pub held_same : (c c' : core.Memory) (t : core.Spot) (j : ℕ) (cs : List Content) → ((t : core.Spot) (j : ℕ) → c'.parts t j ≡ c.parts t j) → PartsHold c t j cs
    → PartsHold c' t j cs
held_same c c' t j [] e h = tt
held_same c c' t j (x ∷ xs) e ((q, (is, holds)), others) = ((q, (e t j ∙ is, holds)), held_same c c' t (suc j) xs e others)

-- a value of one part is written in both
pub agree_written : (w : World) (m : source.Memory) (c : core.Memory) (s : Spot) (shape : Shape) (old : source.Content) (v : Scalar) (part : Part)
    (x : Content) → SameMemory w m c → m.cells s ≡ Some (cell shape old) → IsUnlent m s → c.parts (at s) 0 ≡ Some part → Shown w m c shape v (x ∷ [])
    → SameMemory w (m_written m s shape v) (c_written c s part x)
agree_written w m c s shape old v part x a is free there shown =
    let later = later_written nothing m c s shape old (Holds v) part x is free there in
    record {
      cells = λ t other y u keeps h. by (same_spot t s) t other y u keeps later refl h;
      live = a.live;
      activations = a.activations;
      unmade = unmade_kept m s shape old (Holds v) is a.unmade;
      unentered = λ k t j h r. none_kept c (at s) part x there t j (a.unentered k t j h r);
      unbegun = a.unbegun;
      uncalled = λ k t j h r. none_kept c (at s) part x there t j (a.uncalled k t j h r);
      unowned = a.unowned;
      births = a.births;
      heap = a.heap;
      closed = a.closed;
      unborn = a.unborn;
      blocks = a.blocks;
      ungranted = λ d t j r h. none_kept c (at s) part x there t j (a.ungranted d t j r h);
    }
  where
    here : Grown nothing m c (m_written m s shape v) (c_written c s part x) → IsShown w (m_written m s shape v) (c_written c s part x) s shape v
    here later = record {
      contents = x ∷ [];
      shown = shown_later nothing w m (m_written m s shape v) c (c_written c s part x) shape v (x ∷ []) later shown;
      held = ((record part { content = x }, (rw (spot_self (at s)) refl, refl)), tt);
    }

    by : (b : Bool) (t : Spot) (other : Shape) (y : source.Content) (u : Scalar) → kept_in y ≡ Some u
        → Grown nothing m c (m_written m s shape v) (c_written c s part x) → same_spot t s ≡ b
        → (m_written m s shape v).cells t ≡ Some (cell other y) → IsShown w (m_written m s shape v) (c_written c s part x) t other u
    by true t other y u keeps later e h =
        let same : Some (cell shape (Holds v)) ≡ Some (cell other y) = sym (ap (λ b. if b then Some (cell shape (Holds v)) else m.cells t) e) ∙ h in
        subst (λ z. IsShown w (m_written m s shape v) (c_written c s part x) z other u) (sym (spot_is t s e))
        (subst (λ z. IsShown w (m_written m s shape v) (c_written c s part x) s z u) (ap (shape_in shape) same)
        (subst (λ z. IsShown w (m_written m s shape v) (c_written c s part x) s shape z)
        (kept_same (Holds v) y v u refl (ap (content_in (Holds v)) same) keeps) (here later)))
    by false t other y u keeps later e h =
        let before : m.cells t ≡ Some (cell other y) = sym (ap (λ b. if b then Some (cell shape (Holds v)) else m.cells t) e) ∙ h in
        let one = a.cells t other y u keeps before in
        record {
          contents = one.contents;
          shown = shown_later nothing w m (m_written m s shape v) c (c_written c s part x) other u one.contents later one.shown;
          held = held_other c (at s) (at t) (record part { content = x }) 0 one.contents (spot_as t s ∙ e) one.held;
        }

-- ---- a region ends: it is dead in both

live_by : (q r : source.Region) (b : Bool) (x : source.State) (y : core.Standing) → same_region q r ≡ b → state_is_live x ≡ core.is_live y
    → state_is_live (if same_region q r then Dead else x) ≡ core.is_live (if core.same_region (region_at q) (region_at r) then core.Dead else y)
live_by q r true x y e h = rw (region_as q r, e) refl
live_by q r false x y e h = rw (region_as q r, e) h

closed_by : (q r : source.Region) (b : Bool) (x : source.State) (y : core.Standing) → same_region q r ≡ b → state_is_closed x ≡ core.is_closed y
    → state_is_closed (if same_region q r then Dead else x) ≡ core.is_closed (if core.same_region (region_at q) (region_at r) then core.Dead else y)
closed_by q r true x y e h = rw (region_as q r, e) refl
closed_by q r false x y e h = rw (region_as q r, e) h

dead_still : (b : Bool) (x : source.State) → x ≡ Dead → (if b then Dead else x) ≡ Dead
dead_still true x h = refl
dead_still false x h = h

stays_ended : (b : Bool) (now : core.Standing) → StaysAs now (if b then core.Dead else now)
stays_ended true now = stays_dead now
stays_ended false now = stays_self now

own_apart : (r : source.Region) (k : ℕ) → core.same_region (core.Own k) (region_at r) ≡ false
own_apart (source.Frame j) k = refl
own_apart (source.Born j) k = refl

pub ended_later : (b : Bound) (m : source.Memory) (c : core.Memory) (r : source.Region) → Grown b m c (with_state m r Dead)
    (with_standing c (region_at r) core.Dead)
ended_later b m c r = record {
  shapes = λ t sh g. record { content = g.content; is = g.is };
  lent = λ s shape v h. h;
  parts = λ t j o x g. record { content = g.content; is = g.is };
  objects = λ j h. refl;
  begun = omega arith;
  called = omega arith;
  births = omega arith;
  stays = λ d less. stays_ended (core.same_region (core.Born d) (region_at r)) (c.standing (core.Born d));
  stands = λ j h. ap (λ z. if z then core.Dead else c.standing (core.Own j)) (own_apart r j);
  owned = λ j t i e h. refl;
}

pub ended_agree : (w : World) (m : source.Memory) (c : core.Memory) (r : source.Region) → SameMemory w m c → SameMemory w (with_state m r Dead)
    (with_standing c (region_at r) core.Dead)
ended_agree w m c r a = record {
  cells = λ s shape x v keeps h. let one = a.cells s shape x v keeps h in record {
    contents = one.contents;
    shown = shown_later nothing w m (with_state m r Dead) c (with_standing c (region_at r) core.Dead) shape v one.contents (ended_later nothing m c r)
        one.shown;
    held = held_same c (with_standing c (region_at r) core.Dead) (at s) 0 one.contents (λ t j. refl) one.held;
  };
  live = λ q. live_by q r (same_region q r) (m.state q) (c.standing (region_at q)) refl (a.live q);
  activations = a.activations;
  unmade = a.unmade;
  unentered = a.unentered;
  unbegun = a.unbegun;
  uncalled = a.uncalled;
  unowned = a.unowned;
  births = a.births;
  heap = a.heap;
  unborn = λ d h.
      let two = a.unborn d h in (two.0, dead_still (same_region (source.Born d) r) (m.state (source.Born d)) two.1);
  closed = λ q. closed_by q r (same_region q r) (m.state q) (c.standing (region_at q)) refl (a.closed q);
  blocks = a.blocks;
  ungranted = a.ungranted;
}

-- that of a block
pub left_later : (b : Bound) (m : source.Memory) (c : core.Memory) (k : ℕ) → Grown b m c (with_state m (source.Frame k) Dead)
    (with_standing c (core.Frame k) core.Dead)
left_later b m c k = ended_later b m c (source.Frame k)

pub agree_left : (w : World) (m : source.Memory) (c : core.Memory) (k : ℕ) → SameMemory w m c → SameMemory w (with_state m (source.Frame k) Dead)
    (with_standing c (core.Frame k) core.Dead)
agree_left w m c k a = ended_agree w m c (source.Frame k) a

-- ---- a part that is written with what it has

pub same_part : (c : core.Memory) (s : core.Spot) (p : Part) → c.parts s 0 ≡ Some p → with_part c s 0 p ≡ c
same_part c s p is = λ i. record c { parts = λ t j. each t j i }
  where
    by : (t : core.Spot) (j : ℕ) (b : Bool) → (core.same_spot t s && nat_eq j 0) ≡ b → (if core.same_spot t s && nat_eq j 0 then Some p else c.parts t j) ≡
        c.parts t j
    by t j true e =
        let two = and_parts (core.same_spot t s) (nat_eq j 0) e in
        ap (λ b. if b then Some p else c.parts t j) e ∙ sym is ∙ ap (λ z. c.parts z 0) (sym (spot_same t s two.0)) ∙ ap (λ z. c.parts t z)
        (sym (eqb-true j 0 two.1))
    by t j false e = ap (λ b. if b then Some p else c.parts t j) e

    each : (t : core.Spot) (j : ℕ) → (if core.same_spot t s && nat_eq j 0 then Some p else c.parts t j) ≡ c.parts t j
    each t j = by t j (core.same_spot t s && nat_eq j 0) refl
