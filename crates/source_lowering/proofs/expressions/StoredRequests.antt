-- A value that was evaluated is stored to a block that is asked for: a value of one cell to that, and a struct or a union by a copy of its temporary object.
use Rattle.std.proofs.Common.{◌≡◌, ℕ, suc, ◌+◌, ◌≤◌, inl, inr, List, [], ◌∷◌, ◌++◌, Bool, true, false, Some, refl, sym, ap, ◌∙◌, subst, arith}
use Rattle.std.specs.Prelude.{slice_get}
use Rattle.source_lowering.proofs.memory.LayoutsKept.{one_led}
use Rattle.source_meaning.specs.Shapes.{NeverNull}
use Rattle.source_meaning.specs.Shapes.{Owner, Shape, ThinShape}
use Rattle.source_meaning.specs.Memory as source
use Rattle.source_meaning.specs.Memory.{Holds, Scalar, Spot, Thin, blank_object, is_live, next_spot}
use Rattle.source_meaning.specs.Steps as steps
use Rattle.source_meaning.specs.Steps.{World, give, ◌>>=◌, ◌>>◌}
use Rattle.source_meaning.specs.Conversions.{cells_of, size_of}
use Rattle.source_meaning.specs.Values.{write_cells}
use Rattle.source_meaning.specs.Making.{AsUnique, InRegion, Maker, ask}
use Rattle.source_meaning.specs.Places.{Sense}
use Rattle.core_meaning.specs.Memory as core
use Rattle.core_meaning.specs.Memory.{Birth, Content, Layout, Pointer, Word}
use Rattle.core_meaning.specs.Core.{Copy, Do, Statement, Statements}
use Rattle.core_meaning.specs.Steps as core_steps
use Rattle.core_meaning.specs.Steps.{Config, with_memory, with_temp}
use Rattle.core_meaning.specs.Operations.{are_laid, copied, does, same_object}
use Rattle.core_meaning.specs.Meaning as meaning
use Rattle.core_meaning.proofs.Wholes.{beyond_none}
use Rattle.source_lowering.specs.Layouts.{layout_of, pieces_of}
use Rattle.source_lowering.specs.Members.{words_in}
use Rattle.source_lowering.specs.Lowered.{owner_in, put, request_code, stores_code}
use Rattle.source_lowering.specs.Lowerable.{AreStructs, AreUnions, IsObject, IsValueShape}
use Rattle.source_lowering.specs.Simulation.{
  AValue,
  SameMemory,
  AreKept,
  SameState,
  GoesOn,
  GrownAt,
  Leads,
  Next,
  Point,
  SameAt,
  Shown,
  at,
  contents_in,
  IsOwned,
  before_value,
  nothing,
  within,
}
use Rattle.source_lowering.proofs.memory.Lasting.{owned_later}
use Rattle.source_lowering.proofs.expressions.Asking.{Asked, IsMaker, asked_same}
use Rattle.source_lowering.proofs.memory.Keeping.{fits_later, free_nothing, later_less, later_on, leads_later, m_written, named_free, shown_later}
use Rattle.source_lowering.proofs.values.Integers.{value_object}
use Rattle.source_lowering.proofs.values.AnyValues.{value_given}
use Rattle.source_lowering.proofs.memory.CellParts.{PartsAre, with_values}
use Rattle.source_lowering.proofs.memory.ValueCells.{CellWritten, cell_of, cell_writes}
use Rattle.source_lowering.proofs.memory.Loading.{stores_does}
use Rattle.source_lowering.proofs.memory.Members.{lies_here}
use Rattle.source_lowering.proofs.values.Values.{between_contents, over, put_three}
use Rattle.source_lowering.proofs.expressions.Variables.{Agrees}
use Rattle.source_lowering.proofs.memory.Clearing.{laid_there}
use Rattle.source_lowering.proofs.memory.Copying.{AllShown, all_shown_kept, copied_later, copied_none, copied_other, whole_copied, write_all}
use Rattle.source_lowering.proofs.expressions.Wholes.{agree_changed, before_less, own_apart, own_spot, value_made}
use Rattle.source_lowering.proofs.expressions.WholeForms.{IsWholeAs}

-- ---- forms

-- the block is asked for, and the value is stored to it
abbrev pub stored_act : World → Shape → Maker → List Scalar → steps.Act (List Scalar)
stored_act w shape to vs = ask to (size_of w shape) (blank_object (cells_of w shape)) >>= λ t. write_cells t vs >> give (Thin (Some t) ∷ [])

-- what is made, where it goes
abbrev pub made_act : World → Sense → Maker → steps.Act (List Scalar)
made_act w e to = e.value >>= λ vs. stored_act w e.shape to vs

-- an act makes an object of a shape where a maker says, and its code leaves a pointer to it in a temporary
pub record MakesAs (p : Point) (n d : ℕ) (unique : Bool) (shape : Shape) (act : Maker → steps.Act (List Scalar)) (code : List Statement) : Type 0 where
  pub same : (m0 : source.Memory) (c0 : Config) (m : source.Memory) (c : Config) (to : Maker) (s : List Scalar → source.Memory → steps.Step)
      (rest : Statements) (next : Next) → SameState p m c → GrownAt p m0 c0 m c → AreKept d c0 c → IsMaker unique to d c
      → GoesOn p n d m0 c0 (ThinShape (NeverNull 1) (owner_in unique) shape) s (meaning.statements rest next)
      → SameAt p n (act to s m) (meaning.statements (put code rest) next c)

-- a handle stays in its temporary
maker_kept : (unique : Bool) (to : Maker) (d : ℕ) (c c1 : Config) → c1.temps d ≡ c.temps d → IsMaker unique to d c → IsMaker unique to d c1
maker_kept false (InRegion r) d c c1 e h = e ∙ h
maker_kept true AsUnique d c c1 e h = tt
maker_kept false AsUnique d c c1 e h = absurd h
maker_kept true (InRegion r) d c c1 e h = absurd h

-- the pointer is given on
pointer_given : (p : Point) (n d : ℕ) (m0 : source.Memory) (c0 : Config) (owner : Owner) (shape : Shape) (m : source.Memory) (c : Config) (t : Spot)
    (s : List Scalar → source.Memory → steps.Step) (k : Config → core_steps.Step) → AreStructs p.world.unions p.world.structs
    → IsObject p.world.unions p.world.structs shape → SameState p m c → GrownAt p m0 c0 m c → AreKept d c0 c → c.temps d ≡ Pointer (at t) 0
    → Leads p.world m c.memory shape t 0 → IsOwned owner c.memory t 0 → GoesOn p n d m0 c0 (ThinShape (NeverNull 1) owner shape) s k
    → SameAt p n (s (Thin (Some t) ∷ []) m) (k c)
pointer_given p n d m0 c0 owner shape m c t s k structs object fits later kept temp leads owned goes =
    goes.go m c (Thin (Some t) ∷ []) fits later kept (inl (record {
      value = Thin (Some t);
      alone = refl;
      shown = inr (record {
        spot = t;
        byte = 0;
        value = refl;
        shown = ap (λ z. z ∷ []) temp;
        lies = lies_here p.world shape structs object;
        leads = leads;
        few = omega arith;
        elements = one_led p.world m c.memory shape t 0 leads;
        owned = owned;
      });
    }))

-- ---- a value

value_there_stored : (p : Point) (n d e : ℕ) (unique : Bool) (to : Maker) (shape : Shape) (m0 : source.Memory) (c0 : Config) (m : source.Memory)
    (c : Config) (vs : List Scalar) (s : List Scalar → source.Memory → steps.Step) (rest : Statements) (next : Next) → AreUnions p.world.unions
    → AreStructs p.world.unions p.world.structs → IsValueShape shape → d + 1 + words_in shape ≤ e → SameState p m c → GrownAt p m0 c0 m c → AreKept d c0 c
    → IsMaker unique to d c → AValue p.world m c.memory shape vs (contents_in (d + 1) shape c.temps)
    → GoesOn p n d m0 c0 (ThinShape (NeverNull 1) (owner_in unique) shape) s (meaning.statements rest next)
    → SameAt p n (stored_act p.world shape to vs s m)
    (meaning.statements (put (request_code p.world unique shape d e) (put (stores_code shape d (d + 1) 0 0) rest)) next c)
value_there_stored p n d e unique to shape m0 c0 m c vs s rest next unions structs is_value below fits later kept maker v goes =
    asked_same p n d e unique shape to m c (λ u. write_cells u vs (λ z. s (Thin (Some u) ∷ []))) (put (stores_code shape d (d + 1) 0 0) rest) next
    unions structs
    object fits goes.above (omega (arith, below)) maker there
  where
    object : IsObject p.world.unions p.world.structs shape
    object = value_object p.world.unions p.world.structs shape is_value

    there : (t : Spot) (m1 : source.Memory) (c1 : Config) → Asked p d e (owner_in unique) shape m c t m1 c1
        → SameAt p n (write_cells t vs (λ z. s (Thin (Some t) ∷ [])) m1) (meaning.statements (put (stores_code shape d (d + 1) 0 0) rest) next c1)
    there t m1 c1 a =
        subst (λ z. SameAt p n (write_cells t z (λ u. s (Thin (Some t) ∷ [])) m1) step) (sym v.alone)
        (cell_writes p.world p.program n shape m1 c1.memory t 0 v.value xs (λ u. s (Thin (Some t) ∷ [])) step
        (cell_of p.world shape is_value) a.fits.agree a.leads shown1 done)
      where
        xs : List Content
        xs = contents_in (d + 1) shape c1.temps

        step : core_steps.Step
        step = meaning.statements (put (stores_code shape d (d + 1) 0 0) rest) next c1

        still : contents_in (d + 1) shape c1.temps ≡ contents_in (d + 1) shape c.temps
        still = between_contents shape (d + 1) c c1 (λ k above less. a.between k (omega (arith, above)) (omega (arith, less, below)))

        shown1 : Shown p.world m1 c1.memory shape v.value xs
        shown1 = subst (λ z. Shown p.world m1 c1.memory shape v.value z) (sym still)
            (shown_later (within p) p.world m m1 c.memory c1.memory shape v.value (contents_in (d + 1) shape c.temps) (a.later (within p)) v.shown)

        done : CellWritten p.world m1 c1.memory shape t 0 v.value xs → SameAt p n (s (Thin (Some t) ∷ []) (m_written m1 t shape v.value)) step
        done o =
            let m2 : source.Memory = m_written m1 t shape v.value in
            let c2 : Config = with_memory (with_values c1.memory (at t) 0 (pieces_of shape) xs) c1 in
            let same : core.beyond (at t) 0 ≡ at t = sym (beyond_none (at t)) in
            subst (λ z. SameAt p n (s (Thin (Some t) ∷ []) m2) z)
            (sym (stores_does shape is_value c1 d (d + 1) 0 0 0 (at t) o.old rest next a.there o.live
            (subst (λ z. PartsAre c1.memory z 0 0 (pieces_of shape) o.old) (sym same) o.parts) o.fit ∙
            ap (λ z. meaning.statements rest next (with_memory (with_values c1.memory z 0 (pieces_of shape) xs) c1)) same))
            (pointer_given p n d m0 c0 (owner_in unique) shape m2 c2 t s (meaning.statements rest next) structs object
            (fits_later p m1 m2 c1 c2 a.fits o.agree (o.later (within p)) refl (λ k less. refl))
            (later_on (within p) m0 m m2 c0.memory c.memory c2.memory later
            (later_on (within p) m m1 m2 c.memory c1.memory c2.memory (a.later (within p)) (o.later (within p))))
            (λ k less. a.before k less ∙ kept k less) a.there
            (leads_later (within p) p.world m1 m2 c1.memory c2.memory shape t 0 (o.later (within p)) a.leads)
            (owned_later (within p) m1 m2 c1.memory c2.memory (owner_in unique) t 0 (o.later (within p)) a.owned) goes)

-- a value is evaluated, and goes to the block's one cell
pub value_makes : (p : Point) (n d : ℕ) (unique : Bool) (shape : Shape) (e : Sense) (code : List Statement) → AreUnions p.world.unions
    → AreStructs p.world.unions p.world.structs → IsValueShape shape → Agrees p n (d + 1) e shape code
    → MakesAs p n d unique shape (made_act p.world e)
    (code ++ (request_code p.world unique shape d (d + 1 + words_in shape) ++ stores_code shape d (d + 1) 0 0))
value_makes p n d unique shape e code unions structs is_value one = record {
  same = λ m0 c0 m c to s rest next fits later kept maker goes.
      subst (λ z. SameAt p n (e.value (λ vs. stored_act p.world e.shape to vs s) m) (meaning.statements z next c))
      (sym (put_three code asks stores rest))
      (one.values.same m c (λ vs. stored_act p.world e.shape to vs s) (put asks (put stores rest)) next fits (record {
        above = over goes.above (omega arith);
        go = λ m1 c1 vs fits1 later1 kept1 given1.
            subst (λ z. SameAt p n (stored_act p.world z to vs s m1) (meaning.statements (put asks (put stores rest)) next c1)) (sym one.shape_is)
            (value_there_stored p n d (d + 1 + words_in shape) unique to shape m0 c0 m1 c1 vs s rest next unions structs is_value (omega arith) fits1
            (later_on (within p) m0 m m1 c0.memory c.memory c1.memory later later1) (λ k h. kept1 k (omega (arith, h)) ∙ kept k h)
            (maker_kept unique to d c c1 (kept1 d (omega arith)) maker)
            (value_given p.world m1 c1.memory shape vs (contents_in (d + 1) shape c1.temps) is_value given1) goes);
      }));
}
  where
    asks : List Statement
    asks = request_code p.world unique shape d (d + 1 + words_in shape)

    stores : List Statement
    stores = stores_code shape d (d + 1) 0 0

-- ---- a struct or a union

-- what the copy does
value_there : (c : Config) (d own value : ℕ) (t : core.Spot) (l : Layout) (next : Config → core_steps.Step) → c.temps d ≡ Pointer t 0
    → c.temps (d + 1) ≡ Pointer (own_spot own value 0) 0 → core.is_live (c.memory.standing t.region) ≡ true
    → core.is_live (c.memory.standing (core.Own own)) ≡ true → are_laid c.memory t 0 l.cells ≡ true
    → are_laid c.memory (own_spot own value 0) 0 l.cells ≡ true → same_object t (own_spot own value 0) ≡ false
    → does (Copy d (d + 1) l) next c ≡ next (with_memory (copied l t (own_spot own value 0) c.memory) c)
value_there c d own value t l next temp from live other laid laid_from apart = rw (temp, from, live, laid, other, laid_from, apart) refl

-- a pointer to the temporary object is in the temporary after that of the handle
whole_stored : (p : Point) (n d value : ℕ) (unique : Bool) (to : Maker) (shape : Shape) (m0 : source.Memory) (c0 : Config) (m : source.Memory) (c : Config)
    (vs : List Scalar) (s : List Scalar → source.Memory → steps.Step) (rest : Statements) (next : Next) → AreUnions p.world.unions
    → AreStructs p.world.unions p.world.structs
    → IsObject p.world.unions p.world.structs shape → slice_get p.owned value ≡ Some shape → SameState p m c → GrownAt p m0 c0 m c → AreKept d c0 c
    → IsMaker unique to d c → c.temps (d + 1) ≡ Pointer (own_spot p.own value 0) 0
    → AllShown p.world m c.memory (own_spot p.own value 0) (cells_of p.world shape) vs
    → GoesOn p n d m0 c0 (ThinShape (NeverNull 1) (owner_in unique) shape) s (meaning.statements rest next)
    → SameAt p n (stored_act p.world shape to vs s m)
    (meaning.statements (put (request_code p.world unique shape d (d + 2))
    (put (Do (Copy d (d + 1) (layout_of p.world shape)) ∷ []) rest)) next c)
whole_stored p n d value unique to shape m0 c0 m c vs s rest next unions structs object numbered fits later kept maker from shown goes =
    asked_same p n d (d + 2) unique shape to m c (λ u. write_cells u vs (λ z. s (Thin (Some u) ∷ []))) (put stores rest) next unions structs object fits
    goes.above (omega arith) maker there
  where
    layout : Layout
    layout = layout_of p.world shape

    stores : List Statement
    stores = Do (Copy d (d + 1) layout) ∷ []

    own : core.Spot
    own = own_spot p.own value 0

    there : (t : Spot) (m1 : source.Memory) (c1 : Config) → Asked p d (d + 2) (owner_in unique) shape m c t m1 c1
        → SameAt p n (write_cells t vs (λ z. s (Thin (Some t) ∷ [])) m1) (meaning.statements (put stores rest) next c1)
    there t m1 c1 a =
        subst (λ z. SameAt p n (write_cells t vs (λ u. s (Thin (Some t) ∷ [])) m1) z)
        (sym (value_there c1 d p.own value (at t) layout (meaning.statements rest next) a.there (a.between (d + 1) (omega arith) (omega arith) ∙ from)
        (sym (a.fits.agree.live t.region) ∙ a.live) a.fits.stands (laid_there c1.memory (at t) 0 layout.cells a.leads.1)
        (laid_there c1.memory own 0 layout.cells (value_made p m1 c1 value shape object a.fits numbered)) (own_apart t p.own value 0)))
        (write_all p.world p.program n (within p) (cells_of p.world shape) vs m1 c2.memory t (λ u. s (Thin (Some t) ∷ []))
        (meaning.statements rest next c2) a.live fits2.agree leads2.0 shown2
        (λ m2 agree2 more.
        pointer_given p n d m0 c0 (owner_in unique) shape m2 c2 t s (meaning.statements rest next) structs object
        (fits_later p m1 m2 c2 c2 fits2 agree2 more refl (λ k less. refl))
        (later_on (within p) m0 m m2 c0.memory c.memory c2.memory later
        (later_on (within p) m m1 m2 c.memory c1.memory c2.memory (a.later (within p))
        (later_on (within p) m1 m1 m2 c1.memory c2.memory c2.memory later2 more)))
        (λ k less. a.before k less ∙ kept k less) a.there
        (leads_later (within p) p.world m1 m2 c2.memory c2.memory shape t 0 more leads2)
        (owned_later (within p) m1 m2 c1.memory c2.memory (owner_in unique) t 0
        (later_on (within p) m1 m1 m2 c1.memory c2.memory c2.memory later2 more) a.owned) goes))
      where
        c2 : Config
        c2 = with_memory (copied layout (at t) own c1.memory) c1

        later2 : GrownAt p m1 c1 m1 c2
        later2 = copied_later (within p) m1 c1.memory layout (at t) own (named_free (within p) t)

        agree2 : SameMemory p.world m1 c2.memory
        agree2 = agree_changed p.world m1 c1.memory (copied layout (at t) own c1.memory).parts a.fits.agree
            (copied_later nothing m1 c1.memory layout (at t) own (free_nothing (at t)))
            (λ u of x v keeps h j. copied_other layout (at t) own c1.memory (at u) j (a.blank u of x v keeps h))
            (λ u j e. copied_none layout (at t) own c1.memory u j e)

        fits2 : SameState p m1 c2
        fits2 = fits_later p m1 m1 c1 c2 a.fits agree2 later2 refl (λ k less. refl)

        leads2 : Leads p.world m1 c2.memory shape t 0
        leads2 = leads_later (within p) p.world m1 m1 c1.memory c2.memory shape t 0 later2 a.leads

        shown2 : AllShown p.world m1 c2.memory (at t) (cells_of p.world shape) vs
        shown2 = whole_copied p.world m1 c1.memory (at t) own 0 shape vs structs object a.leads.1
            (all_shown_kept (within p) p.world m m1 c.memory c1.memory own (cells_of p.world shape) vs (a.later (within p))
            (λ i j less. (a.later (record { frames = 0; standing = 0; own = p.own; values = suc value })).owned p.own (core.beyond own i) j refl
            (omega arith, λ e. omega arith)) shown)

-- a struct or a union is evaluated to a temporary object, which goes to the block's cells
pub whole_makes : (p : Point) (n d value : ℕ) (unique : Bool) (shape : Shape) (e : Sense) (code : List Statement) → AreUnions p.world.unions
    → AreStructs p.world.unions p.world.structs
    → IsObject p.world.unions p.world.structs shape → p.kept ≤ value → IsWholeAs p n (d + 1) value e shape code
    → MakesAs p n d unique shape (made_act p.world e)
    (code ++ (request_code p.world unique shape d (d + 2) ++ (Do (Copy d (d + 1) (layout_of p.world shape)) ∷ [])))
whole_makes p n d value unique shape e code unions structs object less one = record {
  same = λ m0 c0 m c to s rest next fits later kept maker goes.
      subst (λ z. SameAt p n (e.value (λ vs. stored_act p.world e.shape to vs s) m) (meaning.statements z next c))
      (sym (put_three code (request_code p.world unique shape d (d + 2)) stores rest))
      (one.whole.same m c (λ vs. stored_act p.world e.shape to vs s)
      (put (request_code p.world unique shape d (d + 2)) (put stores rest)) next fits (record {
        above = over goes.above (omega arith);
        go = λ m1 c1 vs fits1 later1 kept1 from shown1.
            let same : one.whole.shape ≡ shape = sym one.whole.shape_is ∙ one.shape_is in
            let within1 : GrownAt p m c m1 c1 =
            later_less (before_value p value) (within p) m m1 c.memory c1.memory (before_less p p.kept value less) later1 in
            subst (λ z. SameAt p n (stored_act p.world z to vs s m1)
            (meaning.statements (put (request_code p.world unique shape d (d + 2)) (put stores rest)) next c1)) (sym one.shape_is)
            (whole_stored p n d value unique to shape m0 c0 m1 c1 vs s rest next unions structs object (one.whole.numbered ∙ ap (λ z. Some z) same) fits1
            (later_on (within p) m0 m m1 c0.memory c.memory c1.memory later within1) (λ k h. kept1 k (omega (arith, h)) ∙ kept k h)
            (maker_kept unique to d c c1 (kept1 d (omega arith)) maker) from
            (subst (λ z. AllShown p.world m1 c1.memory (own_spot p.own value 0) (cells_of p.world z) vs) same shown1) goes);
      }));
}
  where
    stores : List Statement
    stores = Do (Copy d (d + 1) (layout_of p.world shape)) ∷ []
