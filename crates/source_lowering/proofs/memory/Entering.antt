-- A block is entered: its region is live in both, and Core makes the blank objects of all its locals at once.
use Rattle.std.proofs.Common.{◌≡◌, ℕ, suc, ◌+◌, ◌<◌, ◌≤◌, List, [], ◌∷◌, Bool, true, false, nat_eq, Option, Some, None, refl, sym, ap, ◌∙◌, subst, arith}
use Rattle.std.specs.Prelude.{◌&&◌, ◌*◌, if◌then◌else◌, length}
use Rattle.std.proofs.lemmas.Bool.{eq-eqb}
use Rattle.std.proofs.lemmas.Bool.Decides.{nat_tests}
use Rattle.source_meaning.specs.Shapes.{
  Shape,
  IntShape,
  UnsignedShape,
  CharShape,
  VoidShape,
  ThinShape,
  FatShape,
  HandleShape,
  KeyShape,
  StructShape,
  UnionShape,
  ArrayShape,
}
use Rattle.source_meaning.specs.Memory as source
use Rattle.source_meaning.specs.Memory.{Spot, same_region, with_state, state_is_live}
use Rattle.source_meaning.specs.Steps.{World}
use Rattle.core_meaning.specs.Memory as core
use Rattle.core_meaning.specs.Memory.{Content, Part, Layout, with_object, with_standing, blanks}
use Rattle.core_meaning.specs.Core.{Local}
use Rattle.core_meaning.specs.Meaning.{with_objects}
use Rattle.source_lowering.specs.Layouts.{layout_of, local_of}
use Rattle.source_lowering.specs.Programs.{locals_of}
use Rattle.source_lowering.specs.Simulation.{region_at, at, AreMade, ArePending, PartsHold, StaysAs, SameMemory, Bound, nothing, Grown, LocalMade}
use Rattle.core_meaning.proofs.Spots.{region_same, region_self}
use Rattle.source_lowering.proofs.expressions.ElementsMade.{spot_in, HasBlanks, element_made}
use Rattle.source_lowering.proofs.memory.Keeping.{region_as, shown_later, stays_self}

-- ---- objects are made in one region alone

pub made_parts : (r : core.Region) (ls : List Local) (c : core.Memory) (t : core.Spot) (j : ℕ) → core.same_region t.region r ≡ false
    → (with_objects r ls c).parts t j ≡ c.parts t j
made_parts r [] c t j e = refl
made_parts r (l ∷ ls) c t j e = made_parts r ls (with_object c r (blanks l.layout l.count)) t j e ∙ ap (λ b. if b && nat_eq t.object (c.objects r) then blanks
    l.layout l.count t.cell j else c.parts t j) e

pub made_standing : (r : core.Region) (ls : List Local) (c : core.Memory) (q : core.Region) → (with_objects r ls c).standing q ≡ c.standing q
made_standing r [] c q = refl
made_standing r (l ∷ ls) c q = made_standing r ls (with_object c r (blanks l.layout l.count)) q

pub made_activations : (r : core.Region) (ls : List Local) (c : core.Memory) → (with_objects r ls c).activations ≡ c.activations
made_activations r [] c = refl
made_activations r (l ∷ ls) c = made_activations r ls (with_object c r (blanks l.layout l.count))

pub made_objects : (r : core.Region) (ls : List Local) (c : core.Memory) (q : core.Region) → core.same_region q r ≡ false
    → (with_objects r ls c).objects q ≡ c.objects q
made_objects r [] c q e = refl
made_objects r (l ∷ ls) c q e = made_objects r ls (with_object c r (blanks l.layout l.count)) q e ∙ ap (λ b. if b then c.objects r + 1 else c.objects q) e

pub made_calls : (r : core.Region) (ls : List Local) (c : core.Memory) → (with_objects r ls c).calls ≡ c.calls
made_calls r [] c = refl
made_calls r (l ∷ ls) c = made_calls r ls (with_object c r (blanks l.layout l.count))

pub made_births : (r : core.Region) (ls : List Local) (c : core.Memory) → (with_objects r ls c).births ≡ c.births
made_births r [] c = refl
made_births r (l ∷ ls) c = made_births r ls (with_object c r (blanks l.layout l.count))

-- ---- both enter

abbrev pub source_in : source.Memory → source.Memory
source_in m = with_state (record m { activations = m.activations + 1 }) (source.Frame m.activations) source.Live

abbrev pub core_opened : core.Memory → core.Memory
core_opened c = record (with_standing c (core.Frame c.activations) core.Live) { activations = c.activations + 1 }

abbrev pub core_in : List Local → core.Memory → core.Memory
core_in ls c = with_objects (core.Frame c.activations) ls (core_opened c)

kept_by : (b : Bool) (ls : List Local) (c : core.Memory) (t : core.Spot) (j : ℕ) (p : Part) → core.same_region t.region (core.Frame c.activations) ≡ b
    → ((k : ℕ) (t : core.Spot) (j : ℕ) → c.activations ≤ k → t.region ≡ core.Frame k → c.parts t j ≡ None) → c.parts t j ≡ Some p
    → (core_in ls c).parts t j ≡ Some p
kept_by true ls c t j p e un is =
    let none : None ≡ Some p = sym (un c.activations t j (omega arith) (region_same t.region (core.Frame c.activations) e)) ∙ is in absurd (cc none)
kept_by false ls c t j p e un is = made_parts (core.Frame c.activations) ls (core_opened c) t j e ∙ is

entered_part : (w : World) (m : source.Memory) (c : core.Memory) (ls : List Local) → SameMemory w m c → (t : core.Spot) (j : ℕ) (p : Part)
    → c.parts t j ≡ Some p
    → (core_in ls c).parts t j ≡ Some p
entered_part w m c ls a t j p is = kept_by (core.same_region t.region (core.Frame c.activations)) ls c t j p refl a.unentered is

entered_own : (c : core.Memory) (ls : List Local) (k : ℕ) (t : core.Spot) (j : ℕ) → t.region ≡ core.Own k → (core_in ls c).parts t j ≡ c.parts t j
entered_own c ls k t j r = made_parts (core.Frame c.activations) ls (core_opened c) t j (ap (λ z. core.same_region z (core.Frame c.activations)) r)

pub entered_later : (b : Bound) (w : World) (m : source.Memory) (c : core.Memory) (ls : List Local) → SameMemory w m c
    → Grown b m c (source_in m) (core_in ls c)
entered_later b w m c ls a = record {
  shapes = λ s shape h. record { content = h.content; is = h.is };
  lent = λ s shape v h. h;
  parts = λ t j o width h. record { content = h.content; is = entered_part w m c ls a t j _ h.is };
  objects = λ k h. refl;
  begun = omega arith;
  called = subst (λ z. c.calls ≤ z) (sym (made_calls (core.Frame c.activations) ls (core_opened c))) (omega arith);
  births = subst (λ z. c.births ≤ z) (sym (made_births (core.Frame c.activations) ls (core_opened c))) (omega arith);
  stays = λ d less.
      subst (StaysAs (c.standing (core.Born d))) (sym (made_standing (core.Frame c.activations) ls (core_opened c) (core.Born d))) (stays_self _);
  stands = λ k h. made_standing (core.Frame c.activations) ls (core_opened c) (core.Own k);
  owned = λ k t j r h. entered_own c ls k t j r;
}

pub held_on : (c c' : core.Memory) (t : core.Spot) (j : ℕ) (cs : List Content) → ((t : core.Spot) (j : ℕ) (p : Part) → c.parts t j ≡ Some p
    → c'.parts t j ≡ Some p) → PartsHold c t j cs → PartsHold c' t j cs
held_on c c' t j [] e h = tt
held_on c c' t j (x ∷ xs) e ((q, (is, holds)), others) = ((q, (e t j q is, holds)), held_on c c' t (suc j) xs e others)

pub live_in : (q r : source.Region) (b : Bool) (x : source.State) (y : core.Standing) → same_region q r ≡ b → state_is_live x ≡ core.is_live y
    → state_is_live (if same_region q r then source.Live else x) ≡ core.is_live (if core.same_region (region_at q) (region_at r) then core.Live else y)
live_in q r true x y e h = rw (region_as q r, e) refl
live_in q r false x y e h = rw (region_as q r, e) h

pub closed_in : (q r : source.Region) (b : Bool) (x : source.State) (y : core.Standing) → same_region q r ≡ b → source.state_is_closed x ≡ core.is_closed y
    → source.state_is_closed (if same_region q r then source.Live else x)
    ≡ core.is_closed (if core.same_region (region_at q) (region_at r) then core.Live else y)
closed_in q r true x y e h = rw (region_as q r, e) refl
closed_in q r false x y e h = rw (region_as q r, e) h

pub later_number : (j k : ℕ) → k + 1 ≤ j → nat_eq j k ≡ false
later_number j k h = grind (arith, nat_tests, h)

pub agree_entered : (w : World) (m : source.Memory) (c : core.Memory) (ls : List Local) → SameMemory w m c → SameMemory w (source_in m) (core_in ls c)
agree_entered w m c ls a = record {
  cells = λ s shape x v keeps h. let one = a.cells s shape x v keeps h in record {
    contents = one.contents;
    shown = shown_later nothing w m (source_in m) c (core_in ls c) shape v one.contents (entered_later nothing w m c ls a) one.shown;
    held = held_on c (core_in ls c) (at s) 0 one.contents (entered_part w m c ls a) one.held;
  };
  live = λ q.
      subst (λ k. state_is_live ((source_in m).state q) ≡ core.is_live k) (sym (made_standing (core.Frame c.activations) ls (core_opened c) (region_at q)))
      (subst (λ k. state_is_live ((source_in m).state q) ≡ core.is_live (if core.same_region (region_at q) (core.Frame k) then core.Live else c.standing
      (region_at q))) a.activations
      (live_in q (source.Frame m.activations) (same_region q (source.Frame m.activations)) (m.state q) (c.standing (region_at q)) refl (a.live q)));
  activations = ap (λ k. k + 1) a.activations ∙ sym (made_activations (core.Frame c.activations) ls (core_opened c));
  unmade = a.unmade;
  unentered = λ k t j h r.
      let less : c.activations + 1 ≤ k = subst (λ z. z ≤ k) (made_activations (core.Frame c.activations) ls (core_opened c)) h in
      let other : core.same_region t.region (core.Frame c.activations) ≡ false = ap (λ z. core.same_region z (core.Frame c.activations)) r ∙ later_number k
      c.activations less in
      made_parts (core.Frame c.activations) ls (core_opened c) t j other ∙ a.unentered k t j (omega (arith, less)) r;
  unbegun = λ k h.
      let less : c.activations + 1 ≤ k = subst (λ z. z + 1 ≤ k) a.activations h in
      let two = a.unbegun k (omega (arith, h)) in
      (two.0, made_objects (core.Frame c.activations) ls (core_opened c) (core.Frame k) (later_number k c.activations less) ∙ two.1);
  uncalled = λ k t j h r.
      let less : c.calls ≤ k = subst (λ z. z ≤ k) (made_calls (core.Frame c.activations) ls (core_opened c)) h in
      entered_own c ls k t j r ∙ a.uncalled k t j less r;
  unowned = λ k h.
      let less : c.calls ≤ k = subst (λ z. z ≤ k) (made_calls (core.Frame c.activations) ls (core_opened c)) h in
      made_objects (core.Frame c.activations) ls (core_opened c) (core.Own k) refl ∙ a.unowned k less;
  births = a.births ∙ sym (made_births (core.Frame c.activations) ls (core_opened c));
  heap = a.heap;
  unborn = a.unborn;
  closed = λ q.
      subst (λ k. source.state_is_closed ((source_in m).state q) ≡ core.is_closed k)
      (sym (made_standing (core.Frame c.activations) ls (core_opened c) (region_at q)))
      (subst (λ k. source.state_is_closed ((source_in m).state q) ≡ core.is_closed (if core.same_region (region_at q) (core.Frame k) then core.Live else
      c.standing (region_at q))) a.activations
      (closed_in q (source.Frame m.activations) (same_region q (source.Frame m.activations)) (m.state q) (c.standing (region_at q)) refl (a.closed q)));
  blocks = λ d. a.blocks d ∙ sym (made_objects (core.Frame c.activations) ls (core_opened c) (core.Born d) refl);
  ungranted = λ d t j r h.
      made_parts (core.Frame c.activations) ls (core_opened c) t j (ap (λ z. core.same_region z (core.Frame c.activations)) r) ∙
      a.ungranted d t j r (subst (λ z. z ≤ t.object) (made_objects (core.Frame c.activations) ls (core_opened c) (core.Born d) refl) h);
}

-- ---- the objects that Core has made

-- an object's number is below the next one
made_before : (r : core.Region) (ls : List Local) (c : core.Memory) (t : core.Spot) (j : ℕ) → t.object < c.objects r
    → (with_objects r ls c).parts t j ≡ c.parts t j
made_before r [] c t j h = refl
made_before r (l ∷ ls) c t j h =
    made_before r ls (with_object c r (blanks l.layout l.count)) t j more ∙
    ap (λ z. if z then blanks l.layout l.count t.cell j else c.parts t j) (none (core.same_region t.region r) (nat_eq t.object (c.objects r)) other)
  where
    other : nat_eq t.object (c.objects r) ≡ false
    other = grind (arith, nat_tests, h)

    more : t.object < (with_object c r (blanks l.layout l.count)).objects r
    more = subst (λ z. t.object < (if z then c.objects r + 1 else c.objects r)) (sym (region_self r)) (omega (arith, h))

    none : (a b : Bool) → b ≡ false → (a && b) ≡ false
    none true b e = e
    none false b e = refl

-- one element
one_made : (c : core.Memory) (r : core.Region) (index : ℕ) (l : Layout) → HasBlanks c r index l 1 → AreMade c (spot_in r index 0) 0 l.cells
one_made c r index l here =
    subst (λ z. AreMade c (spot_in r index 0) z l.cells) none_byte
    (subst (λ z. AreMade c (spot_in r index z) (0 * l.bytes) l.cells) none_cell (element_made c r index l 1 0 (omega arith) here))
  where
    none_cell : 0 * length l.cells ≡ 0
    none_cell = omega arith

    none_byte : 0 * l.bytes ≡ 0
    none_byte = omega arith

-- a local or a global
pub local_made : (w : World) (s : Shape) (c : core.Memory) (r : core.Region) (index : ℕ)
    → HasBlanks c r index (local_of w s).layout (local_of w s).count → LocalMade w c r index s
local_made w IntShape c r index here = one_made c r index (layout_of w IntShape) here
local_made w UnsignedShape c r index here = one_made c r index (layout_of w UnsignedShape) here
local_made w CharShape c r index here = one_made c r index (layout_of w CharShape) here
local_made w VoidShape c r index here = one_made c r index (layout_of w VoidShape) here
local_made w (ThinShape b owner to) c r index here = one_made c r index (layout_of w (ThinShape b owner to)) here
local_made w (FatShape to) c r index here = one_made c r index (layout_of w (FatShape to)) here
local_made w HandleShape c r index here = one_made c r index (layout_of w HandleShape) here
local_made w KeyShape c r index here = one_made c r index (layout_of w KeyShape) here
local_made w (StructShape tag) c r index here = one_made c r index (layout_of w (StructShape tag)) here
local_made w (UnionShape tag) c r index here = one_made c r index (layout_of w (UnionShape tag)) here
local_made w (ArrayShape count of) c r index here = λ k less. element_made c r index (layout_of w of) count k less here

-- what was made last
pub last_made : (c : core.Memory) (r : core.Region) (index : ℕ) (o : ℕ → ℕ → Option Part) → c.objects r ≡ index → (cell j : ℕ)
    → (with_object c r o).parts (spot_in r index cell) j ≡ o cell j
last_made c r index o e cell j =
    ap (λ z. if z && nat_eq index (c.objects r) then o cell j else c.parts (spot_in r index cell) j) (region_self r) ∙
    ap (λ z. if z then o cell j else c.parts (spot_in r index cell) j) (eq-eqb index (c.objects r) (sym e))

pub block_made : (c : core.Memory) (r : core.Region) (index : ℕ) (l : Layout) → c.objects r ≡ index
    → AreMade (with_object c r (blanks l 1)) (spot_in r index 0) 0 l.cells
block_made c r index l e =
    one_made (with_object c r (blanks l 1)) r index l (λ cell j p f. record { content = p.content; is = last_made c r index (blanks l 1) e cell j ∙ f })

pub pending_made : (w : World) (ss : List Shape) (c : core.Memory) (r : core.Region) (index : ℕ) → c.objects r ≡ index
    → ArePending w (with_objects r (locals_of w ss) c) r index ss
pending_made w [] c r index e = tt
pending_made w (s ∷ ss) c r index e = (
  local_made w s (with_objects r (locals_of w ss) more) r index
      (λ cell j p f. record {
        content = p.content;
        is = made_before r (locals_of w ss) more (spot_in r index cell) j (subst (λ z. index < z) (sym next) (omega arith)) ∙ last_made c r index fresh e cell j
            ∙ f;
      }),
  pending_made w ss more r (suc index) next,
)
  where
    fresh : ℕ → ℕ → Option Part
    fresh = blanks (local_of w s).layout (local_of w s).count

    more : core.Memory
    more = with_object c r fresh

    next : more.objects r ≡ suc index
    next = ap (λ z. if z then c.objects r + 1 else c.objects r) (region_self r) ∙ ap (λ z. z + 1) e ∙ omega arith

-- a block's locals are all to come
pub pending_entered : (w : World) (m : source.Memory) (c : core.Memory) (ss : List Shape) → SameMemory w m c
    → ArePending w (core_in (locals_of w ss) c) (core.Frame c.activations) 0 ss
pending_entered w m c ss a =
    pending_made w ss (core_opened c) (core.Frame c.activations) 0 (a.unbegun c.activations (subst (λ z. m.activations ≤ z) a.activations (omega arith))).1
