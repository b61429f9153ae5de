-- An alias does the same as its code: the pointer is copied to a local. Its own cell is lent meanwhile, and holds its value again on each way out of the block;
-- Core's parts stay as they are.
use Rattle.std.proofs.Common.{◌≡◌, inl, inr, ⊎_elim, ℕ, ◌+◌, List, [], ◌∷◌, ◌++◌, Bool, true, false, Some, None, refl, sym, ap, ◌∙◌, subst, arith}
use Rattle.cyc_tree.specs.Tree.{Expression, Name}
use Rattle.source_meaning.specs.Shapes.{
  Shape,
  IntShape,
  UnsignedShape,
  CharShape,
  VoidShape,
  ThinShape,
  FatShape,
  HandleShape,
  KeyShape,
  StructShape,
  UnionShape,
  ArrayShape,
  settled_by,
}
use Rattle.source_meaning.specs.Memory as source
use Rattle.source_meaning.specs.Memory.{Holds, Lent, Scalar, Spot, Thin, is_live, is_moved, same_spot, with_cell}
use Rattle.source_meaning.specs.Steps as steps
use Rattle.source_meaning.specs.Steps.{World, Variable, Scope, Flow, Act, ◌>>=◌}
use Rattle.source_meaning.specs.Values.{put_content, read_cell}
use Rattle.source_meaning.specs.Places.{entity_of, with_binding}
use Rattle.source_meaning.specs.Conversions.{converted, converted_scalar}
use Rattle.source_meaning.specs.Regions.{Operand, aliased, lending, local_with, operand_of}
use Rattle.source_meaning.proofs.Cases.{spot_is, spot_itself}
use Rattle.core_meaning.specs.Memory as core
use Rattle.core_meaning.specs.Memory.{Content}
use Rattle.core_meaning.specs.Core.{Program, Statement, Statements}
use Rattle.core_meaning.specs.Steps as core_steps
use Rattle.core_meaning.specs.Steps.{Config}
use Rattle.core_meaning.specs.Meaning as meaning
use Rattle.source_lowering.specs.Members.{words_in}
use Rattle.source_lowering.specs.Lowered.{put, put_local, conversion_code, get_code, static_shape, Named}
use Rattle.source_lowering.specs.Lowerable.{IsThinShape, IsWordShape}
use Rattle.source_lowering.specs.Programs.{RegionsAround, value_code}
use Rattle.source_lowering.specs.Simulation.{AValue, Bound, Given, Grown, Next, Point, Same, SameAt, SameState, around, contents_in, within, IsShown}
use Rattle.source_lowering.proofs.memory.Keeping.{IsUnlent, Lasts, cell, fits_later, later_on, later_self, less_self, shape_kept, shown_kept, stays_self}
use Rattle.source_lowering.proofs.memory.Keeping.{unlent_is}
use Rattle.source_lowering.proofs.memory.CellParts.{agree_keeping, later_shown}
use Rattle.source_lowering.proofs.Runs.{put_all, stuck_same}
use Rattle.source_lowering.proofs.values.AnyValues.{value_given}
use Rattle.source_lowering.proofs.values.Integers.{thin_moved, word_value}
use Rattle.source_lowering.proofs.values.ThinConversions.{word_same}
use Rattle.source_lowering.proofs.values.Values.{given_later, put_three}
use Rattle.source_lowering.proofs.expressions.Calls.{NoResult, ResultIs}
use Rattle.source_lowering.proofs.expressions.Making.{local_spot}
use Rattle.source_lowering.proofs.expressions.PointerReads.{IsPointer, pointer_named}
use Rattle.source_lowering.proofs.statements.Declaring.{local_with_same, with_local}
use Rattle.source_lowering.proofs.statements.Ways.{Onward, RunsAs, WaysOn, ways_later}
use Rattle.std.specs.Prelude.{if◌then◌else◌}
use Rattle.source_lowering.proofs.expressions.Known.{Known, IsKnown, place_in}

-- ---- the way back

result_kept : (w : World) (m m' : source.Memory) (c c' : core.Memory) (shape : Shape) (vs : List Scalar) (xs : List Content) → Lasts m c m' c'
    → ResultIs w m c shape vs xs → ResultIs w m' c' shape vs xs
result_kept w m m' c c' shape vs xs l r =
    ⊎_elim (λ (v : AValue w m c shape vs xs). inl (record { value = v.value; alone = v.alone; shown = shown_kept w m m' c c' shape v.value xs l v.shown }))
    (λ (o : NoResult shape vs xs). inr o) r

-- the cell holds its value again
abbrev returned : source.Memory → Spot → Shape → Scalar → source.Memory
returned m t from v = with_cell m t (cell from (Holds v))

returned_lasts : (m : source.Memory) (c : core.Memory) (t : Spot) (from : Shape) (v : Scalar) → m.cells t ≡ Some (cell from (Lent v))
    → Lasts m c (returned m t from v) c
returned_lasts m c t from v is =
    record { shapes = shape_kept m t from (Lent v) (Holds v) is; parts = λ u j o w h. h; births = omega arith; stays = λ d less. stays_self _ }

-- since a point where it wasn't lent, nothing is lent less
returned_later : (b : Bound) (m0 m : source.Memory) (c0 c : core.Memory) (t : Spot) (from : Shape) (v : Scalar) → IsUnlent m0 t
    → m.cells t ≡ Some (cell from (Lent v)) → Grown b m0 c0 m c → Grown b m0 c0 (returned m t from v) c
returned_later b m0 m c0 c t from v free is l = record {
  shapes = λ u s h. shape_kept m t from (Lent v) (Holds v) is u s (l.shapes u s h);
  lent = λ u s x h. by u s x (same_spot u t) refl h;
  parts = l.parts;
  objects = l.objects;
  begun = l.begun;
  called = l.called;
  births = l.births;
  stays = l.stays;
  stands = l.stands;
  owned = l.owned;
}
  where
    by : (u : Spot) (s : Shape) (x : Scalar) (same : Bool) → same_spot u t ≡ same → m0.cells u ≡ Some (cell s (Lent x))
        → (returned m t from v).cells u ≡ Some (cell s (Lent x))
    by u s x true e h = absurd (free.none s x (ap m0.cells (sym (spot_is u t e)) ∙ h))
    by u s x false e h = ap (λ z. if z then Some (cell from (Holds v)) else m.cells u) e ∙ l.lent u s x h

-- what comes after the block in the source
abbrev pub after_block : (Flow → source.Memory → steps.Step) → Spot → Scalar → Flow → source.Memory → steps.Step
after_block next t v flow = put_content t (Holds v) (λ u. next flow)

back : (w : World) (fs : Program) (n all : ℕ) (b : Bound) (m0 m1 m : source.Memory) (c0 c1 c : Config) (t : Spot) (from : Shape) (v : Scalar)
    (s : source.Memory → steps.Step) (k : core_steps.Step) → IsUnlent m0 t → m1.cells t ≡ Some (cell from (Lent v))
    → Onward w all b m0 c0 m1 c1 → Onward w all b m1 c1 m c
    → ((m' : source.Memory) → Onward w all b m0 c0 m' c → Lasts m c.memory m' c.memory → Same w fs n (s m') k)
    → Same w fs n (put_content t (Holds v) (λ u. s) m) k
back w fs n all b m0 m1 m c0 c1 c t from v s k free there first second go = by (is_live m t.region) refl
  where
    is : m.cells t ≡ Some (cell from (Lent v))
    is = second.later.lent t from v there

    one : IsShown w m c.memory t from v
    one = second.agree.cells t from (Lent v) v refl is

    by : (x : Bool) → is_live m t.region ≡ x → Same w fs n (put_content t (Holds v) (λ u. s) m) k
    by false e = rw e (stuck_same w fs n k)
    by true e = rw (e, is) (go (returned m t from v) (record {
      agree = agree_keeping w m c.memory t from (Lent v) (Holds v) v one.contents refl second.agree is one.held one.shown;
      later =
          returned_later b m0 m c0.memory c.memory t from v free is (later_on b m0 m1 m c0.memory c1.memory c.memory first.later second.later);
      active = second.active ∙ first.active;
      kept = λ i less. second.kept i less ∙ first.kept i less;
    }) (returned_lasts m c.memory t from v is))

ways_back : (w : World) (fs : Program) (n : ℕ) (h : RegionsAround) (b : Bound) (m0 m1 : source.Memory) (c0 c1 : Config) (t : Spot) (from : Shape) (v : Scalar)
    (result : Shape) (next : Flow → source.Memory → steps.Step) (falls_on : Config → core_steps.Step) (after : Next) → IsUnlent m0 t
    → m1.cells t ≡ Some (cell from (Lent v)) → Onward w h.all b m0 c0 m1 c1 → WaysOn w fs n h b m0 c0 result next falls_on after
    → WaysOn w fs n h b m1 c1 result (after_block next t v) falls_on after
ways_back w fs n h b m0 m1 c0 c1 t from v result next falls_on after free there first ways = record {
  falls = λ m c o. back w fs n h.all b m0 m1 m c0 c1 c t from v (next steps.Falls) _ free there first o (λ m' on l. ways.falls m' c on);
  breaks = λ m c o. back w fs n h.all b m0 m1 m c0 c1 c t from v (next steps.Breaks) _ free there first o (λ m' on l. ways.breaks m' c on);
  continues = λ m c o. back w fs n h.all b m0 m1 m c0 c1 c t from v (next steps.Continues) _ free there first o (λ m' on l. ways.continues m' c on);
  returns = λ m c vs xs o given.
      back w fs n h.all b m0 m1 m c0 c1 c t from v (next (steps.Returns vs)) _ free there first o
      (λ m' on l. ways.returns m' c vs xs on (result_kept w m m' c.memory c.memory result vs xs l given));
}

-- ---- the pointer is lent while the rest of the block runs

-- The variable's cell is lent from here on, until its block is left; what is done meanwhile does the same as its code.
pub lent_same : (p : Point) (n : ℕ) (t : Spot) (from : Shape) (v : Scalar) (result : Shape) (inner : Act Flow) (m : source.Memory) (c : Config)
    (next : Flow → source.Memory → steps.Step) (rest : Statements) (after : Next) (step : core_steps.Step) → SameState p m c
    → m.cells t ≡ Some (cell from (Holds v)) → is_live m t.region ≡ true
    → WaysOn p.world p.program n p.regions (around p p.frame) m c result next (meaning.statements rest after) after
    → ((m1 : source.Memory) → ((b : Bound) → Grown b m c.memory m1 c.memory) → SameState p m1 c
    → WaysOn p.world p.program n p.regions (around p p.frame) m1 c result (after_block next t v) (meaning.statements rest after) after
    → SameAt p n (inner (after_block next t v) m1) step)
    → SameAt p n (lending t v inner next m) step
lent_same p n t from v result inner m c next rest after step fits holds live ways go =
    rw (live, holds)
    (go m1 later1 fits1
    (ways_back p.world p.program n p.regions (around p p.frame) m m1 c c t from v result next (meaning.statements rest after) after free here
    (record { agree = fits1.agree; later = later1 (around p p.frame); active = refl; kept = λ i less. refl }) ways))
  where
    m1 : source.Memory
    m1 = with_cell m t (cell from (Lent v))

    free : IsUnlent m t
    free = unlent_is m t from (Holds v) holds refl

    later1 : (b : Bound) → Grown b m c.memory m1 c.memory
    later1 b = later_shown b m c.memory t from (Holds v) (Lent v) holds free

    here : m1.cells t ≡ Some (cell from (Lent v))
    here = ap (λ z. if z then Some (cell from (Lent v)) else m.cells t) (spot_itself t)

    fits1 : SameState p m1 c
    fits1 =
        let one = fits.agree.cells t from (Holds v) v refl holds in
        fits_later p m m1 c c fits
        (agree_keeping p.world m c.memory t from (Holds v) (Lent v) v one.contents refl fits.agree holds one.held one.shown) (later1 (within p)) refl
        (λ k less. refl)

-- an alias is made meanwhile
lent_on : (p : Point) (n : ℕ) (scope : Scope) (name : List ℕ) (t : Spot) (from shape : Shape) (shapes : List Shape) (v : Scalar) (us : List Scalar)
    (result : Shape) (then_act : Scope → Act Flow) (others : List Statement) (m : source.Memory) (c : Config) (next : Flow → source.Memory → steps.Step)
    (rest : Statements) (after : Next) → scope.world ≡ p.world → scope.frame ≡ p.frame → IsWordShape shape → p.pending ≡ shape ∷ shapes
    → SameState p m c → m.cells t ≡ Some (cell from (Holds v)) → is_live m t.region ≡ true
    → Given p.world m c.memory shape us (contents_in p.regions.all shape c.temps)
    → RunsAs (with_local p name shape shapes) n p.frame result (then_act (with_binding scope name (Variable shape (local_spot p.frame p.made)))) others
    → WaysOn p.world p.program n p.regions (around p p.frame) m c result next (meaning.statements rest after) after
    → SameAt p n (lending t v (local_with scope name shape us then_act) next m)
    (meaning.statements (put (put_local shape p.regions.all 0 p.made) (put others rest)) after c)
lent_on p n scope name t from shape shapes v us result then_act others m c next rest after world frame word pending fits holds live given more ways =
    lent_same p n t from v result (local_with scope name shape us then_act) m c next rest after
    (meaning.statements (put (put_local shape d 0 p.made) (put others rest)) after c) fits holds live ways
    (λ m1 later1 fits1 ways1.
    local_with_same p n (d + words_in shape) d scope name shape shapes us then_act (after_block next t v) m1 c (put others rest) after world frame
    (word_value shape word) (omega arith) pending fits1
    (value_given p.world m1 c.memory shape us (contents_in d shape c.temps) (word_value shape word)
    (given_later (within p) p.world m m1 c.memory c.memory shape us (contents_in d shape c.temps) (later1 (within p)) given))
    (record {
      above = omega arith;
      go = λ m2 c2 fits2 later2 kept2 active2.
          more.same m2 c2 (after_block next t v) rest after fits2
          (ways_later p.world p.program n p.regions (around p p.frame) (around p p.frame) m1 m2 c c2 result (after_block next t v)
          (meaning.statements rest after) after (less_self (around p p.frame)) later2 active2 (λ i less. kept2 i (omega (arith, less))) ways1);
    }))
  where
    d : ℕ
    d = p.regions.all

-- ---- both do the same

-- what is done with a pointer that was found
abbrev alias_of : World → Scope → Shape → List ℕ → Spot → Shape → (Scope → Act Flow) → Act Flow
alias_of w scope shape name t from then_act =
    read_cell t >>= λ v. converted_scalar w shape from v >>= λ c. lending t v (local_with scope name shape (c ∷ []) then_act)

abbrev behind : Scope → Shape → List ℕ → (Scope → Act Flow) → Operand → Act Flow
behind scope s name then_act x = alias_of scope.world scope (settled_by s x.shape) name x.at x.shape then_act

abbrev first_of : List Scalar → Scalar
first_of [] = Thin None
first_of (v ∷ vs) = v

pub alias_declared : (p : Point) (n : ℕ) (scope : Scope) (s : Shape) (name pointer : List ℕ) (from shape : Shape) (code : List Statement)
    (shapes : List Shape) (result : Shape) (then_act : Scope → Act Flow) (others : List Statement) → scope.world ≡ p.world → scope.frame ≡ p.frame
    → IsPointer p n p.regions.all (entity_of scope pointer) from code → IsThinShape from → settled_by s from ≡ shape → IsWordShape shape
    → p.pending ≡ shape ∷ shapes
    → RunsAs (with_local p name shape shapes) n p.frame result (then_act (with_binding scope name (Variable shape (local_spot p.frame p.made)))) others
    → RunsAs p n p.frame result (aliased scope s name pointer then_act)
    ((code ++ (conversion_code p.world shape from p.regions.all ++ put_local shape p.regions.all 0 p.made)) ++ others)
alias_declared p n scope s name pointer from shape code shapes result then_act others world frame named thin settled word pending more = record {
  same = λ m c next rest after fits ways.
      let step : core_steps.Step = meaning.statements (put ((code ++ (conversion ++ stores)) ++ others) rest) after c in
      subst (λ z. SameAt p n ((operand_of z >>= behind scope s name then_act) next m) step) (sym named.is)
      (movable next m step (is_moved from) refl
      (subst (λ z. SameAt p n (alias_of scope.world scope z name t from then_act next m) step) (sym settled)
      (subst (λ z. SameAt p n (alias_of z scope shape name t from then_act next m) step) (sym world)
      (subst (λ z. SameAt p n (alias_of p.world scope shape name t from then_act next m) (meaning.statements z after c))
      (sym (put_all (code ++ (conversion ++ stores)) others rest ∙ put_three code conversion stores (put others rest)))
      (named.reads.same m c
      (λ vs. converted p.world shape from vs (λ us. lending t (first_of vs) (local_with scope name shape us then_act) next))
      (put conversion (put stores (put others rest))) after fits
      (λ v temps holds live kept shown.
      let c1 : Config = record c { temps = temps } in
      word_same p n d shape from word thin m c1 (v ∷ []) (λ us. lending t v (local_with scope name shape us then_act) next)
      (put stores (put others rest)) after (inl (record { value = v; alone = refl; shown = shown }))
      (λ us given.
      lent_on p n scope name t from shape shapes v us result then_act others m c1 next rest after world frame word pending
      (fits_later p m m c c1 fits fits.agree (later_self (within p) m c.memory) refl kept) holds live given more
      (ways_later p.world p.program n p.regions (around p p.frame) (around p p.frame) m m c c1 result next (meaning.statements rest after) after
      (less_self (around p p.frame)) (later_self (around p p.frame) m c.memory) refl kept ways))))))));
}
  where
    d : ℕ
    d = p.regions.all

    t : Spot
    t = named.spot

    conversion : List Statement
    conversion = conversion_code p.world shape from d

    stores : List Statement
    stores = put_local shape d 0 p.made

    -- what can be copied isn't lent
    movable : (next : Flow → source.Memory → steps.Step) (m : source.Memory) (k : core_steps.Step) (b : Bool) → is_moved from ≡ b
        → SameAt p n (alias_of scope.world scope (settled_by s from) name t from then_act next m) k
        → SameAt p n ((operand_of (Some (Variable from t)) >>= behind scope s name then_act) next m) k
    movable next m k false e go = rw e (stuck_same p.world p.program n k)
    movable next m k true e go = rw e go

-- the shape of a pointer's name, and that of its alias
abbrev pointer_shape : World → List Named → Name → Shape
pointer_shape w names pointer = static_shape w names (Expression.Variable pointer)

abbrev alias_shape : World → List Named → Shape → Name → Shape
alias_shape w names s pointer = settled_by s (pointer_shape w names pointer)

pub alias_same : (n : ℕ) (scope : Scope) (k : Known) (result s : Shape) (name : List ℕ) (pointer : Name) (value : ℕ) (shapes : List Shape)
    (then_act : Scope → Act Flow) (others : List Statement) → IsThinShape (pointer_shape scope.world k.names pointer)
    → IsWordShape (alias_shape scope.world k.names s pointer) → IsKnown scope k → k.pending ≡ alias_shape scope.world k.names s pointer ∷ shapes
    → RunsAs (with_local (place_in scope k) name (alias_shape scope.world k.names s pointer) shapes) n scope.frame result
    (then_act (with_binding scope name (Variable (alias_shape scope.world k.names s pointer) (local_spot scope.frame k.made)))) others
    → RunsAs (place_in scope k) n scope.frame result (aliased scope s name pointer.text then_act)
    (value_code scope.world k.names (alias_shape scope.world k.names s pointer) (Expression.Variable pointer) k.regions.all k.made value ++ others)
alias_same n scope k result s name pointer value shapes then_act others thin word known pending more =
    by (settled_by s from) refl word pending more
  where
    p : Point
    p = place_in scope k

    from : Shape
    from = pointer_shape scope.world k.names pointer

    Declared : Shape → Type 0
    Declared shape = RunsAs (with_local p name shape shapes) n scope.frame result
        (then_act (with_binding scope name (Variable shape (local_spot scope.frame k.made)))) others

    Goal : Shape → Type 0
    Goal shape = RunsAs p n scope.frame result (aliased scope s name pointer.text then_act)
        (value_code scope.world k.names shape (Expression.Variable pointer) k.regions.all k.made value ++ others)

    copied : (shape : Shape) → settled_by s from ≡ shape → IsWordShape shape → k.pending ≡ shape ∷ shapes → Declared shape
        → RunsAs p n scope.frame result (aliased scope s name pointer.text then_act)
        ((get_code scope.world k.names pointer.text k.regions.all ++
        (conversion_code scope.world shape from k.regions.all ++ put_local shape k.regions.all 0 k.made)) ++ others)
    copied shape is h first on =
        alias_declared p n scope s name pointer.text from shape (get_code scope.world k.names pointer.text k.regions.all) shapes result then_act others refl
        refl (pointer_named p n k.regions.all pointer.text known.locals known.words known.world.globals (thin_moved from thin)) thin is h first on

    by : (shape : Shape) → settled_by s from ≡ shape → IsWordShape shape → k.pending ≡ shape ∷ shapes → Declared shape → Goal shape
    by (ThinShape b o to) is h first on = copied (ThinShape b o to) is h first on
    by IntShape is h first on = copied IntShape is h first on
    by UnsignedShape is h first on = copied UnsignedShape is h first on
    by CharShape is h first on = copied CharShape is h first on
    by HandleShape is h first on = copied HandleShape is h first on
    by VoidShape is h first on = absurd h
    by (FatShape to) is h first on = absurd h
    by KeyShape is h first on = copied KeyShape is h first on
    by (StructShape tag) is h first on = absurd h
    by (UnionShape tag) is h first on = absurd h
    by (ArrayShape count of) is h first on = absurd h
