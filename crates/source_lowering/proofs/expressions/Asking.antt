-- Memory is asked for: in the region of a handle, or for a unique block of its own, which is born with it.
use Rattle.std.proofs.Common.{◌≡◌, ℕ, ◌<◌, ◌≤◌, Bool, true, false, nat_eq, Some, refl, sym, ap, ◌∙◌, subst, arith}
use Rattle.std.specs.Prelude.{◌&&◌, if◌then◌else◌}
use Rattle.std.proofs.lemmas.Bool.{eq-eqb}
use Rattle.cyc_words.specs.Events as events
use Rattle.step_trees.specs.Trees.{Says}
use Rattle.source_meaning.specs.Shapes.{Owner, Shared, Alone, Shape}
use Rattle.source_meaning.specs.Memory as source
use Rattle.source_meaning.specs.Memory.{Holds, Scalar, Spot, blank_object, is_live, next_spot}
use Rattle.source_meaning.specs.Steps as steps
use Rattle.source_meaning.specs.Steps.{World}
use Rattle.source_meaning.specs.Conversions.{cells_of, size_of}
use Rattle.source_meaning.specs.Making.{AsUnique, InRegion, Maker, ask, make_object}
use Rattle.core_meaning.specs.Memory as core
use Rattle.core_meaning.specs.Memory.{Birth, Pointer, Word}
use Rattle.core_meaning.specs.Core.{Statements}
use Rattle.core_meaning.specs.Operations.{same_object}
use Rattle.core_meaning.specs.Steps as core_steps
use Rattle.core_meaning.specs.Steps.{Config, with_memory, with_temp}
use Rattle.core_meaning.specs.Meaning as meaning
use Rattle.source_lowering.specs.Layouts.{layout_of}
use Rattle.source_lowering.specs.Lowered.{owner_in, put, request_code}
use Rattle.source_lowering.specs.Lowerable.{AreStructs, AreUnions, IsObject}
use Rattle.source_lowering.specs.Simulation.{AreKept, BothVisible, Bound, Grown, IsOwned, IsSingle, Leads, Next, Point, SameAt, SameMemory, SameState, at}
use Rattle.source_lowering.specs.Simulation.{within, kept_in}
use Rattle.source_lowering.proofs.memory.Keeping.{fits_later, later_on, region_as}
use Rattle.source_lowering.proofs.Runs.{says_same}
use Rattle.source_lowering.proofs.values.Values.{kept_temp, other_temp, put_temp, temp_fits}
use Rattle.source_lowering.proofs.memory.Loading.{after_temp}
use Rattle.source_lowering.proofs.expressions.Making.{is_here}
use Rattle.source_lowering.proofs.statements.Declaring.{blank_keeps}
use Rattle.source_lowering.proofs.regions.Regions.{
  block_granted_agree,
  block_granted_later,
  core_granted,
  granted_leads,
  live_born,
  request_same,
  single_born,
  single_born_agree,
  single_born_later,
  source_born,
  source_granted,
}

-- where something is made: in the region whose handle is in a temporary, or in a unique block
abbrev pub IsMaker : Bool → Maker → ℕ → Config → Type 0
IsMaker false (InRegion r) d c = (c.temps d ≡ Birth r)
IsMaker true AsUnique d c = Unit {0}
IsMaker false AsUnique d c = ⊥
IsMaker true (InRegion r) d c = ⊥

-- Both after a request: there is an object of the shape, to which nothing was stored yet, and a pointer to it is in a temporary; those up to the next one are
-- as
-- they were.
pub record Asked (p : Point) (d e : ℕ) (owner : Owner) (shape : Shape) (m : source.Memory) (c : Config) (t : Spot) (m1 : source.Memory)
    (c1 : Config) : Type 0 where
  pub fits : SameState p m1 c1
  pub later : (b : Bound) → Grown b m c.memory m1 c1.memory
  pub leads : Leads p.world m1 c1.memory shape t 0
  pub there : c1.temps d ≡ Pointer (at t) 0
  pub before : AreKept d c c1
  pub between : (k : ℕ) → d < k → k < e → c1.temps k ≡ c.temps k
  pub live : is_live m1 t.region ≡ true
  pub blank : (u : Spot) (of : Shape) (x : source.Content) (v : Scalar) → kept_in x ≡ Some v → m1.cells u ≡ Some (record { shape = of; content = x })
      → same_object (at u) (at t) ≡ false
  pub owned : IsOwned owner c1.memory t 0

-- nothing is stored to what is made: it holds no value yet
held_elsewhere : (w : World) (m : source.Memory) (r : ℕ) (shape : Shape) (u : Spot) (of : Shape) (x : source.Content) (v : Scalar) → kept_in x ≡ Some v
    → (source_granted w m r shape).cells u ≡ Some (record { shape = of; content = x })
    → same_object (at u) (at (next_spot m (source.Born r))) ≡ false
held_elsewhere w m r shape u of x v keeps h =
    ap (λ b. b && nat_eq u.object (m.objects (source.Born r))) (region_as u.region (source.Born r)) ∙ by (is_here m (source.Born r) u) refl
  where
    by : (b : Bool) → is_here m (source.Born r) u ≡ b → is_here m (source.Born r) u ≡ false
    by false e = e
    by true e =
        absurd (blank_keeps (cells_of w shape) u.cell of x v keeps
        (sym (ap (λ b. if b then blank_object (cells_of w shape) u.cell else m.cells u) e) ∙ h))

-- ---- in a region

region_asked : (p : Point) (n d e r : ℕ) (shape : Shape) (m : source.Memory) (c : Config) (s : Spot → source.Memory → steps.Step) (rest : Statements)
    (next : Next) → AreUnions p.world.unions → AreStructs p.world.unions p.world.structs → IsObject p.world.unions p.world.structs shape → SameState p m c
    → p.regions.all ≤ d → d < e → c.temps d ≡ Birth r
    → ((t : Spot) (m1 : source.Memory) (c1 : Config) → Asked p d e Shared shape m c t m1 c1 → SameAt p n (s t m1) (meaning.statements rest next c1))
    → SameAt p n (ask (InRegion r) (size_of p.world shape) (blank_object (cells_of p.world shape)) s m)
    (meaning.statements (put (request_code p.world false shape d e) rest) next c)
region_asked p n d e r shape m c s rest next unions structs object fits above less temp go =
    request_same p.world p.program n d e r shape m c s rest next unions structs object fits.agree less temp
    (λ live. go t m1 c1 (record {
      fits = temp_fits p m1 (with_memory granted counted) d (Pointer (at t) 0)
          (fits_later p m m1 c (with_memory granted counted) fits
          (block_granted_agree p.world m c.memory r shape (live_born p.world m c.memory fits.agree r live) fits.agree)
          (block_granted_later (within p) p.world m c.memory r shape fits.agree) refl
          (kept_temp p.regions.all e (Word 1) c c (omega (arith, above, less)) (λ k h. refl))) above;
      later = λ b. block_granted_later b p.world m c.memory r shape fits.agree;
      leads = granted_leads p.world m c.memory r shape fits.agree;
      there = put_temp d (Pointer (at t) 0) (with_memory granted counted);
      before = λ k h. other_temp d k (Pointer (at t) 0) (with_memory granted counted) h ∙ other_temp e k (Word 1) c (omega (arith, h, less));
      between = λ k f g. after_temp d k (Pointer (at t) 0) (with_memory granted counted) f ∙ other_temp e k (Word 1) c g;
      live = live;
      blank = λ u of x v keeps h. held_elsewhere p.world m r shape u of x v keeps h;
      owned = tt;
    }))
  where
    t : Spot
    t = next_spot m (source.Born r)

    m1 : source.Memory
    m1 = source_granted p.world m r shape

    counted : Config
    counted = with_temp e (Word 1) c

    granted : core.Memory
    granted = core_granted p.world c.memory r shape

    c1 : Config
    c1 = with_temp d (Pointer (at t) 0) (with_memory granted counted)

-- ---- a unique block

unique_requested : (w : World) (d e r : ℕ) (shape : Shape) (c : Config) (rest : Statements) (next : Next) → r ≡ c.memory.births
    → meaning.statements (put (request_code w true shape d e) rest) next c
    ≡ Says (core_steps.Visible (events.UniqueAlloc r (layout_of w shape).bytes)) (meaning.statements rest next
    (with_temp d (Pointer (record { region = core.Born r; object = 0; cell = 0 }) 0) (with_memory (core_granted w (single_born c.memory) r shape) c)))
unique_requested w d e r shape c rest next is = rw is refl

unique_asked : (p : Point) (n d e : ℕ) (shape : Shape) (m : source.Memory) (c : Config) (s : Spot → source.Memory → steps.Step) (rest : Statements)
    (next : Next) → SameState p m c → p.regions.all ≤ d
    → ((t : Spot) (m1 : source.Memory) (c1 : Config) → Asked p d e Alone shape m c t m1 c1 → SameAt p n (s t m1) (meaning.statements rest next c1))
    → SameAt p n (ask AsUnique (size_of p.world shape) (blank_object (cells_of p.world shape)) s m)
    (meaning.statements (put (request_code p.world true shape d e) rest) next c)
unique_asked p n d e shape m c s rest next fits above go =
    subst (λ z. SameAt p n (ask AsUnique (size_of p.world shape) (blank_object (cells_of p.world shape)) s m) z)
    (sym (unique_requested p.world d e r shape c rest next fits.agree.births))
    (says_same p.world p.program n _ _ (make_object (source.Born r) (blank_object (cells_of p.world shape)) s born_in)
    (meaning.statements rest next c1) (BothVisible (events.UniqueAlloc r (size_of p.world shape)))
    (rw live (go t m1 c1 (record {
      fits = temp_fits p m1 (with_memory granted c) d (Pointer first 0)
          (fits_later p m m1 c (with_memory granted c) fits agree1 (later1 (within p)) refl (λ k h. refl)) above;
      later = later1;
      leads = granted_leads p.world born_in born_core r shape born_agree;
      there = put_temp d (Pointer first 0) (with_memory granted c) ∙ ap (λ z. Pointer z 0) (sym first_is);
      before = λ k h. other_temp d k (Pointer first 0) (with_memory granted c) h;
      between = λ k f g. after_temp d k (Pointer first 0) (with_memory granted c) f;
      live = live;
      blank = λ u of x v keeps h. held_elsewhere p.world born_in r shape u of x v keeps h;
      owned = record {
        birth = r;
        first = spot_is;
        start = refl;
        born = omega (arith, same);
        single = subst (λ z. IsSingle (if z then core.Single else c.memory.standing (core.Born r))) (sym (eq-eqb r c.memory.births same)) tt;
      };
    }))))
  where
    r : ℕ
    r = m.births

    same : r ≡ c.memory.births
    same = fits.agree.births

    born_in : source.Memory
    born_in = source_born m

    born_core : core.Memory
    born_core = single_born c.memory

    born_agree : SameMemory p.world born_in born_core
    born_agree = single_born_agree p.world m c.memory fits.agree

    live : is_live born_in (source.Born r) ≡ true
    live = ap (λ b. source.state_is_live (if b then source.Live else m.state (source.Born r))) (eq-eqb r r refl)

    t : Spot
    t = next_spot born_in (source.Born r)

    m1 : source.Memory
    m1 = source_granted p.world born_in r shape

    granted : core.Memory
    granted = core_granted p.world born_core r shape

    first : core.Spot
    first = record { region = core.Born r; object = 0; cell = 0 }

    c1 : Config
    c1 = with_temp d (Pointer first 0) (with_memory granted c)

    none : m.objects (source.Born r) ≡ 0
    none = (fits.agree.unborn r (omega arith)).0

    spot_is : t ≡ record { region = source.Born r; object = 0; cell = 0 }
    spot_is = ap (λ z. record { region = source.Born r; object = z; cell = 0 }) none

    first_is : at t ≡ first
    first_is = ap at spot_is

    agree1 : SameMemory p.world m1 granted
    agree1 = block_granted_agree p.world born_in born_core r shape (omega arith) born_agree

    later1 : (b : Bound) → Grown b m c.memory m1 granted
    later1 b = later_on b m born_in m1 c.memory born_core granted (single_born_later b m c.memory)
        (block_granted_later b p.world born_in born_core r shape born_agree)

-- ---- either

pub asked_same : (p : Point) (n d e : ℕ) (unique : Bool) (shape : Shape) (to : Maker) (m : source.Memory) (c : Config)
    (s : Spot → source.Memory → steps.Step) (rest : Statements) (next : Next) → AreUnions p.world.unions → AreStructs p.world.unions p.world.structs
    → IsObject p.world.unions p.world.structs shape → SameState p m c → p.regions.all ≤ d → d < e → IsMaker unique to d c
    → ((t : Spot) (m1 : source.Memory) (c1 : Config) → Asked p d e (owner_in unique) shape m c t m1 c1
    → SameAt p n (s t m1) (meaning.statements rest next c1))
    → SameAt p n (ask to (size_of p.world shape) (blank_object (cells_of p.world shape)) s m)
    (meaning.statements (put (request_code p.world unique shape d e) rest) next c)
asked_same p n d e false shape (InRegion r) m c s rest next unions structs object fits above less maker go =
    region_asked p n d e r shape m c s rest next unions structs object fits above less maker go
asked_same p n d e false shape AsUnique m c s rest next unions structs object fits above less maker go = absurd maker
asked_same p n d e true shape (InRegion r) m c s rest next unions structs object fits above less maker go = absurd maker
asked_same p n d e true shape AsUnique m c s rest next unions structs object fits above less maker go =
    unique_asked p n d e shape m c s rest next fits above go
