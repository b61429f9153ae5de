-- What lasts: facts of earlier memories hold in later ones, and a place fits them.
use Rattle.std.proofs.Common.{◌≡◌, ℕ, ◌≤◌, suc, List, [], ◌∷◌, Bool, true, false, nat_eq, refl, sym, ap, ◌∙◌, subst, arith}
use Rattle.std.specs.Prelude.{◌&&◌}
use Rattle.std.proofs.lemmas.Bool.{eqb-true, and_parts}
use Rattle.source_meaning.specs.Shapes.{Owner, Shape, IntShape, UnsignedShape, CharShape, VoidShape, ThinShape, FatShape, HandleShape, KeyShape, StructShape}
use Rattle.source_meaning.specs.Shapes.{UnionShape, ArrayShape}
use Rattle.source_meaning.specs.Memory as source
use Rattle.source_meaning.specs.Memory.{Scalar, Spot, same_region, same_spot}
use Rattle.source_meaning.specs.Steps.{World, Entity, Variable, Binding}
use Rattle.core_meaning.specs.Memory as core
use Rattle.core_meaning.specs.Memory.{Content}
use Rattle.core_meaning.specs.Steps.{Config}
use Rattle.core_meaning.specs.Operations.{same_object}
use Rattle.core_meaning.proofs.Spots.{region_same, spot_same}
use Rattle.source_lowering.specs.Layouts.{layout_of}
pub use Rattle.source_lowering.proofs.memory.LayoutsKept.{Lasts, made_kept, leads_kept, owned_kept, member_kept, shown_kept}
use Rattle.source_lowering.specs.Simulation.{AreKept, region_at, at, Leads, IsOwned, Shown, ShownMember, SameMemory, Bound, nothing, IsKept, IsFree, Grown}
use Rattle.source_lowering.specs.Simulation.{StaysAs, Point, SameState, activation, within, around, GrownAt, AreMade, ArePending, IsLed, AreLed, AreTexts}
use Rattle.source_lowering.specs.Simulation.{HasStatics, VariableLeads, LocalMade}

-- ---- spots

pub region_as : (q r : source.Region) → core.same_region (region_at q) (region_at r) ≡ same_region q r
region_as (source.Frame j) (source.Frame k) = refl
region_as (source.Frame j) (source.Born k) = refl
region_as (source.Born j) (source.Frame k) = refl
region_as (source.Born j) (source.Born k) = refl

pub spot_as : (s t : Spot) → core.same_spot (at s) (at t) ≡ same_spot s t
spot_as s t = ap (λ b. b && (nat_eq s.object t.object && nat_eq s.cell t.cell)) (region_as s.region t.region)

-- what the source names is no temporary object
pub named_free : (b : Bound) (s : Spot) → IsFree b (at s)
named_free b s k e kept = by s.region e
  where
    by : (q : source.Region) → region_at q ≡ core.Own k → ⊥
    by (source.Frame j) f = cc f
    by (source.Born j) f = cc f

pub free_spot : (b : Bound) (s t : core.Spot) (k : ℕ) → IsFree b s → t.region ≡ core.Own k → IsKept b k t.object → core.same_spot t s ≡ false
free_spot b s t k free r kept = by (core.same_spot t s) refl
  where
    by : (z : Bool) → core.same_spot t s ≡ z → core.same_spot t s ≡ false
    by false e = e
    by true e =
        let same : t ≡ s = spot_same t s e in
        absurd (free k (sym (ap (λ (z : core.Spot). z.region) same) ∙ r) (subst (λ (z : core.Spot). IsKept b k z.object) same kept))

pub free_object : (b : Bound) (s t : core.Spot) (k : ℕ) → IsFree b s → t.region ≡ core.Own k → IsKept b k t.object → same_object t s ≡ false
free_object b s t k free r kept = by (same_object t s) refl
  where
    by : (z : Bool) → same_object t s ≡ z → same_object t s ≡ false
    by false e = e
    by true e =
        let two = and_parts (core.same_region t.region s.region) (nat_eq t.object s.object) e in
        absurd (free k (sym (region_same t.region s.region two.0) ∙ r) (subst (λ z. IsKept b k z) (eqb-true t.object s.object two.1) kept))

pub free_nothing : (t : core.Spot) → IsFree nothing t
free_nothing t k r h = let f = h.0 in let none = h.1 (omega (arith, f)) in omega (arith, none)

-- ---- facts of earlier memories hold in later ones

pub stays_self : (now : core.Standing) → StaysAs now now
stays_self now = record { lexical = λ h. h; single = λ h. h; dynamic = λ h. h }

-- a region is dead then
pub stays_dead : (old : core.Standing) → StaysAs old core.Dead
stays_dead old = record { lexical = λ h. tt; single = λ h. tt; dynamic = λ h. tt }

pub stays_on : (a b c : core.Standing) → StaysAs a b → StaysAs b c → StaysAs a c
stays_on a b c x y = record {
  lexical = λ h. y.lexical (x.lexical h);
  single = λ h. y.single (x.single h);
  dynamic = λ h. y.dynamic (x.dynamic h);
}

pub later_self : (b : Bound) (m : source.Memory) (c : core.Memory) → Grown b m c m c
later_self b m c = record {
  shapes = λ s shape h. h;
  lent = λ s shape v h. h;
  parts = λ t j o w h. h;
  objects = λ k h. refl;
  begun = omega arith;
  called = omega arith;
  births = omega arith;
  stays = λ d less. stays_self _;
  stands = λ k h. refl;
  owned = λ k t j r h. refl;
}

pub later_on : (b : Bound) (m m' m'' : source.Memory) (c c' c'' : core.Memory) → Grown b m c m' c' → Grown b m' c' m'' c'' → Grown b m c m'' c''
later_on b m m' m'' c c' c'' x y = record {
  shapes = λ s shape h. y.shapes s shape (x.shapes s shape h);
  lent = λ s shape v h. y.lent s shape v (x.lent s shape v h);
  parts = λ t j o w h. y.parts t j o w (x.parts t j o w h);
  objects = λ k h. y.objects k h ∙ x.objects k h;
  begun = let f = x.begun in let g = y.begun in omega (arith, f, g);
  called = let f = x.called in let g = y.called in omega (arith, f, g);
  births = let f = x.births in let g = y.births in omega (arith, f, g);
  stays = λ d less. let f = x.births in
      stays_on (c.standing (core.Born d)) (c'.standing (core.Born d)) (c''.standing (core.Born d)) (x.stays d less) (y.stays d (omega (arith, f, less)));
  stands = λ k h. y.stands k h ∙ x.stands k h;
  owned = λ k t j r h. y.owned k t j r h ∙ x.owned k t j r h;
}

-- no more than this stays as it was
pub record IsLess (b' b : Bound) : Type 0 where
  pub frames : b'.frames ≤ b.frames
  pub standing : b'.standing ≤ b.standing
  pub kept : (k i : ℕ) → IsKept b' k i → IsKept b k i

pub less_self : (b : Bound) → IsLess b b
less_self b = record { frames = omega arith; standing = omega arith; kept = λ k i h. h }

pub later_less : (b b' : Bound) (m m' : source.Memory) (c c' : core.Memory) → IsLess b' b → Grown b m c m' c' → Grown b' m c m' c'
later_less b b' m m' c c' less l = record {
  shapes = l.shapes;
  lent = l.lent;
  parts = l.parts;
  objects = λ k h. let f = less.frames in l.objects k (omega (arith, f, h));
  begun = l.begun;
  called = l.called;
  births = l.births;
  stays = l.stays;
  stands = λ k h. let f = less.standing in l.stands k (omega (arith, f, h));
  owned = λ k t j r h. l.owned k t j r (less.kept k t.object h);
}

-- an expression keeps what a statement does, and that all that items do
pub within_around : (p : Point) → IsLess (around p (suc p.frame)) (within p)
within_around p = record {
  frames = omega arith;
  standing = omega arith;
  kept = λ k i h. (h.0, λ e. let none = h.1 e in omega (arith, none));
}

pub around_items : (p : Point) → IsLess (around p p.frame) (around p (suc p.frame))
around_items p = record { frames = omega arith; standing = omega arith; kept = λ k i h. h }

pub within_items : (p : Point) → IsLess (around p p.frame) (within p)
within_items p = record {
  frames = omega arith;
  standing = omega arith;
  kept = λ k i h. (h.0, λ e. let none = h.1 e in omega (arith, none));
}

pub lasts : (b : Bound) (m m' : source.Memory) (c c' : core.Memory) → Grown b m c m' c' → Lasts m c m' c'
lasts b m m' c c' l = record { shapes = l.shapes; parts = l.parts; births = l.births; stays = l.stays }

pub made_later : (b : Bound) (m m' : source.Memory) (c c' : core.Memory) (t : core.Spot) (byte : ℕ) (xs : List (List core.PartShape)) → Grown b m c m' c'
    → AreMade c t byte xs → AreMade c' t byte xs
made_later b m m' c c' t byte xs l h = made_kept m m' c c' t byte xs (lasts b m m' c c' l) h

pub leads_later : (b : Bound) (w : World) (m m' : source.Memory) (c c' : core.Memory) (shape : Shape) (s : Spot) (byte : ℕ) → Grown b m c m' c'
    → Leads w m c shape s byte → Leads w m' c' shape s byte
leads_later b w m m' c c' shape s byte l h = leads_kept w m m' c c' shape s byte (lasts b m m' c c' l) h

pub owned_later : (b : Bound) (m m' : source.Memory) (c c' : core.Memory) (o : Owner) (s : Spot) (byte : ℕ) → Grown b m c m' c' → IsOwned o c s byte
    → IsOwned o c' s byte
owned_later b m m' c c' o s byte l h = owned_kept m m' c c' o s byte (lasts b m m' c c' l) h

-- what a union holds is shown later, too
pub member_later : (b : Bound) (w : World) (m m' : source.Memory) (c c' : core.Memory) (shape : Shape) (v : Scalar) (cs : List Content) → Grown b m c m' c'
    → ShownMember w m c shape v cs → ShownMember w m' c' shape v cs
member_later b w m m' c c' shape v cs l h = member_kept w m m' c c' shape v cs (lasts b m m' c c' l) h

pub shown_later : (b : Bound) (w : World) (m m' : source.Memory) (c c' : core.Memory) (shape : Shape) (v : Scalar) (cs : List Content) → Grown b m c m' c'
    → Shown w m c shape v cs → Shown w m' c' shape v cs
shown_later b w m m' c c' shape v cs l h = shown_kept w m m' c c' shape v cs (lasts b m m' c c' l) h

variable_later : (b : Bound) (w : World) (m m' : source.Memory) (c c' : core.Memory) (shape : Shape) (s : Spot) → Grown b m c m' c'
    → VariableLeads w m c shape s → VariableLeads w m' c' shape s
variable_later b w m m' c c' IntShape s l h = leads_later b w m m' c c' IntShape s 0 l h
variable_later b w m m' c c' UnsignedShape s l h = leads_later b w m m' c c' UnsignedShape s 0 l h
variable_later b w m m' c c' CharShape s l h = leads_later b w m m' c c' CharShape s 0 l h
variable_later b w m m' c c' VoidShape s l h = leads_later b w m m' c c' VoidShape s 0 l h
variable_later b w m m' c c' (ThinShape n o to) s l h = leads_later b w m m' c c' (ThinShape n o to) s 0 l h
variable_later b w m m' c c' (FatShape to) s l h = leads_later b w m m' c c' (FatShape to) s 0 l h
variable_later b w m m' c c' HandleShape s l h = leads_later b w m m' c c' HandleShape s 0 l h
variable_later b w m m' c c' KeyShape s l h = leads_later b w m m' c c' KeyShape s 0 l h
variable_later b w m m' c c' (StructShape tag) s l h = leads_later b w m m' c c' (StructShape tag) s 0 l h
variable_later b w m m' c c' (UnionShape tag) s l h = leads_later b w m m' c c' (UnionShape tag) s 0 l h
variable_later b w m m' c c' (ArrayShape count of) s l h = λ k less. leads_later b w m m' c c' of _ _ l (h k less)

local_later : (b : Bound) (w : World) (m m' : source.Memory) (c c' : core.Memory) (r : core.Region) (index : ℕ) (s : Shape) → Grown b m c m' c'
    → LocalMade w c r index s → LocalMade w c' r index s
local_later b w m m' c c' r index IntShape l h = made_later b m m' c c' (record { region = r; object = index; cell = 0 }) 0 (layout_of w IntShape).cells l h
local_later b w m m' c c' r index UnsignedShape l h =
    made_later b m m' c c' (record { region = r; object = index; cell = 0 }) 0 (layout_of w UnsignedShape).cells l h
local_later b w m m' c c' r index CharShape l h = made_later b m m' c c' (record { region = r; object = index; cell = 0 }) 0 (layout_of w CharShape).cells l h
local_later b w m m' c c' r index VoidShape l h = made_later b m m' c c' (record { region = r; object = index; cell = 0 }) 0 (layout_of w VoidShape).cells l h
local_later b w m m' c c' r index (ThinShape n o to) l h =
    made_later b m m' c c' (record { region = r; object = index; cell = 0 }) 0 (layout_of w (ThinShape n o to)).cells l h
local_later b w m m' c c' r index (FatShape to) l h =
    made_later b m m' c c' (record { region = r; object = index; cell = 0 }) 0 (layout_of w (FatShape to)).cells l h
local_later b w m m' c c' r index HandleShape l h =
    made_later b m m' c c' (record { region = r; object = index; cell = 0 }) 0 (layout_of w HandleShape).cells l h
local_later b w m m' c c' r index KeyShape l h =
    made_later b m m' c c' (record { region = r; object = index; cell = 0 }) 0 (layout_of w KeyShape).cells l h
local_later b w m m' c c' r index (StructShape tag) l h =
    made_later b m m' c c' (record { region = r; object = index; cell = 0 }) 0 (layout_of w (StructShape tag)).cells l h
local_later b w m m' c c' r index (UnionShape tag) l h =
    made_later b m m' c c' (record { region = r; object = index; cell = 0 }) 0 (layout_of w (UnionShape tag)).cells l h
local_later b w m m' c c' r index (ArrayShape count of) l h = λ k less. made_later b m m' c c' _ _ (layout_of w of).cells l (h k less)

pub led_later : (b : Bound) (w : World) (m m' : source.Memory) (c c' : core.Memory) (e : Entity) → Grown b m c m' c' → IsLed w m c e → IsLed w m' c' e
led_later b w m m' c c' (Variable shape s) l h = variable_later b w m m' c c' shape s l h

pub all_led_later : (b : Bound) (w : World) (m m' : source.Memory) (c c' : core.Memory) (bs : List Binding) → Grown b m c m' c' → AreLed w m c bs
    → AreLed w m' c' bs
all_led_later b w m m' c c' [] l h = tt
all_led_later b w m m' c c' (x ∷ bs) l (one, others) = (led_later b w m m' c c' x.entity l one, all_led_later b w m m' c c' bs l others)

texts_later : (b : Bound) (w : World) (m m' : source.Memory) (c c' : core.Memory) (ss : List (ℕ × Scalar)) → Grown b m c m' c' → AreTexts w m c ss
    → AreTexts w m' c' ss
texts_later b w m m' c c' [] l h = tt
texts_later b w m m' c c' (s ∷ ss) l (one, others) = (
  record {
    number = one.number;
    count = one.count;
    value = one.value;
    some = one.some;
    few = one.few;
    leads = λ k less. leads_later b w m m' c c' CharShape _ _ l (one.leads k less);
  },
  texts_later b w m m' c c' ss l others,
)

pub statics_later : (b : Bound) (w : World) (m m' : source.Memory) (c c' : core.Memory) → Grown b m c m' c' → HasStatics w m c → HasStatics w m' c'
statics_later b w m m' c c' l h = record {
  globals = all_led_later b w m m' c c' w.globals l h.globals;
  strings = texts_later b w m m' c c' w.strings l h.strings;
}

pub pending_later : (b : Bound) (w : World) (m m' : source.Memory) (c c' : core.Memory) (r : core.Region) (index : ℕ) (ss : List Shape) → Grown b m c m' c'
    → ArePending w c r index ss → ArePending w c' r index ss
pending_later b w m m' c c' r index [] l h = tt
pending_later b w m m' c c' r index (s ∷ ss) l (one, others) =
    (local_later b w m m' c c' r index s l one, pending_later b w m m' c c' r (suc index) ss l others)

-- an activation that is the same
abbrev first_number : List ℕ → ℕ
first_number [] = 0
first_number (k ∷ ks) = k

abbrev other_numbers : List ℕ → List ℕ
other_numbers [] = []
other_numbers (k ∷ ks) = ks

pub same_own : (c c' : Config) → activation c' ≡ activation c → c'.own ≡ c.own
same_own c c' e = ap first_number e

pub same_blocks : (c c' : Config) → activation c' ≡ activation c → c'.blocks ≡ c.blocks
same_blocks c c' e = ap other_numbers e

-- what a place fits stays so where it is later
pub blocks_of : (p : Point) (m : source.Memory) (m' : source.Memory) (c c' : Config) → SameState p m c → SameState p m' c' → activation c' ≡ activation c
blocks_of p m m' c c' f g = ap (λ z. z ∷ c'.blocks) (g.own ∙ sym f.own) ∙ ap (λ z. c.own ∷ z) (g.blocks ∙ sym f.blocks)

-- a place fits later memories that agree
pub fits_on : (p : Point) (m m' : source.Memory) (c c' : Config) → SameState p m c → SameMemory p.world m' c'.memory
    → Grown (around p (suc p.frame)) m c.memory m' c'.memory → activation c' ≡ activation c → AreKept p.regions.all c c' → SameState p m' c'
fits_on p m m' c c' f a l active kept = record {
  agree = a;
  blocks = same_blocks c c' active ∙ f.blocks;
  locals = all_led_later (around p (suc p.frame)) p.world m m' c.memory c'.memory p.locals l f.locals;
  statics = statics_later (around p (suc p.frame)) p.world m m' c.memory c'.memory l f.statics;
  begun = let g = f.begun in let h = l.begun in omega (arith, g, h);
  made = l.objects p.frame (omega arith) ∙ f.made;
  pending = pending_later (around p (suc p.frame)) p.world m m' c.memory c'.memory (core.Frame p.frame) p.made p.pending l f.pending;
  own = same_own c c' active ∙ f.own;
  called = let g = f.called in let h = l.called in omega (arith, g, h);
  stands = ap core.is_live (l.stands p.own (omega arith)) ∙ f.stands;
  owned = pending_later (around p (suc p.frame)) p.world m m' c.memory c'.memory (core.Own p.own) 0 p.owned l f.owned;
}

pub later_around : (p : Point) (m m' : source.Memory) (c c' : Config) → GrownAt p m c m' c' → Grown (around p (suc p.frame)) m c.memory m' c'.memory
later_around p m m' c c' l = later_less (within p) (around p (suc p.frame)) m m' c.memory c'.memory (within_around p) l

pub later_items : (p : Point) (m m' : source.Memory) (c c' : Config) → GrownAt p m c m' c' → Grown (around p p.frame) m c.memory m' c'.memory
later_items p m m' c c' l = later_less (within p) (around p p.frame) m m' c.memory c'.memory (within_items p) l

pub fits_later : (p : Point) (m m' : source.Memory) (c c' : Config) → SameState p m c → SameMemory p.world m' c'.memory → GrownAt p m c m' c'
    → activation c' ≡ activation c → AreKept p.regions.all c c' → SameState p m' c'
fits_later p m m' c c' f a l active kept =
    fits_on p m m' c c' f a (later_around p m m' c c' l) active kept
