-- `ufree(x)` does the same as its code: the pointer is moved out of its variable, and its block is freed, if it isn't NULL.
use Rattle.std.proofs.Common.{◌≡◌, ◌⊎◌, inl, inr, ⊎_elim, ℕ, suc, List, [], ◌∷◌, ◌++◌, Bool, true, false, Option, Some, None, refl, sym, ap, ◌∙◌, subst, arith}
use Rattle.std.proofs.lemmas.Bool.{false≢true}
use Rattle.cyc_words.specs.Events as events
use Rattle.cyc_words.specs.Events.{SourceEnding}
use Rattle.step_trees.specs.Trees.{Says, Stops}
use Rattle.source_meaning.specs.Shapes.{count_of}
use Rattle.source_meaning.specs.Shapes.{Reach}
use Rattle.source_meaning.specs.Shapes.{
  Owner,
  Shared,
  Alone,
  Unsaid,
  Shape,
  IntShape,
  UnsignedShape,
  CharShape,
  VoidShape,
  ThinShape,
  FatShape,
  HandleShape,
  KeyShape,
  StructShape,
  UnionShape,
  ArrayShape,
}
use Rattle.source_meaning.specs.Memory as source
use Rattle.source_meaning.specs.Memory.{Gone, Scalar, Spot, Thin, is_alone, is_live, is_moved}
use Rattle.source_meaning.specs.Steps as steps
use Rattle.source_meaning.specs.Steps.{World, Entity, Variable, Act, Flow, give, ◌>>=◌, ◌>>◌}
use Rattle.source_meaning.specs.Conversions.{one}
use Rattle.source_meaning.specs.Values.{read_cell, put_content}
use Rattle.source_meaning.specs.Places.{bound_to, entity_sense, or_else}
use Rattle.source_meaning.specs.Regions.{Operand, operand_of, pointer_freed}
use Rattle.core_meaning.specs.Memory as core
use Rattle.core_meaning.specs.Memory.{Null, Pointer}
use Rattle.core_meaning.specs.Core.{Statement, Statements}
use Rattle.core_meaning.specs.Steps as core_steps
use Rattle.core_meaning.specs.Steps.{Config, with_memory}
use Rattle.core_meaning.specs.Meaning as meaning
use Rattle.source_lowering.specs.Lowered.{Named, get_by, put, shape_by}
use Rattle.source_lowering.specs.Members.{valued}
use Rattle.source_lowering.specs.Lowerable.{IsOperandShape, IsThinShape}
use Rattle.source_lowering.specs.Programs.{unique_free}
use Rattle.source_lowering.specs.Simulation.{ANull, APointer, BothVisible, IsSingle, Point, SameAt, SameMemory, Next, at, around}
use Rattle.source_lowering.proofs.memory.Keeping.{later_on}
use Rattle.source_lowering.proofs.Runs.{put_all, says_same, stuck_same}
use Rattle.source_lowering.proofs.values.Integers.{null_is, pointer_is}
use Rattle.source_lowering.proofs.values.ThinConversions.{thin_value}
use Rattle.source_lowering.proofs.expressions.Variables.{Agrees}
use Rattle.source_lowering.proofs.regions.Regions.{core_freed, source_freed, region_freed_agree, region_freed_later}
use Rattle.source_lowering.proofs.statements.Ways.{RunsAs, onward_behind}

-- what a name stands for is freed
abbrev pub freed_act : Option Entity → Act Flow
freed_act e = (operand_of e >>= λ x. read_cell x.at >>= λ v. put_content x.at Gone >> pointer_freed v) >> give steps.Falls

-- what is done with the value that is given away
abbrev freed_value : (Flow → source.Memory → steps.Step) → List Scalar → source.Memory → steps.Step
freed_value next vs = one vs (λ v. pointer_freed v (λ u. next steps.Falls))

-- it is out of order, or a variable is read and moved
abbrev IsTakenBy : World → Option Entity → Type 0
IsTakenBy w e =
    ((next : Flow → source.Memory → steps.Step) (m : source.Memory) → freed_act e next m ≡ Stops SourceEnding.Stuck) ⊎
    ((next : Flow → source.Memory → steps.Step) (m : source.Memory) → freed_act e next m ≡ (entity_sense w e).value (freed_value next) m)

abbrev owner_in : Owner → Shape → Owner
owner_in o (ThinShape b q to) = q
owner_in o s = o

variable_taken : (w : World) (s : Shape) (spot : Spot) (b : Reach) (to : Shape) → (entity_sense w (Some (Variable s spot))).shape ≡ ThinShape b Alone to
    → IsTakenBy w (Some (Variable s spot))
variable_taken w (ThinShape a q of) spot b to e =
    let alone : q ≡ Alone = ap (owner_in q) e in
    subst (λ z. IsTakenBy w (Some (Variable (ThinShape a z of) spot))) (sym alone) (inr (λ next m. refl))
variable_taken w IntShape spot b to e = absurd (cc e)
variable_taken w UnsignedShape spot b to e = absurd (cc e)
variable_taken w CharShape spot b to e = absurd (cc e)
variable_taken w VoidShape spot b to e = absurd (cc e)
variable_taken w (FatShape of) spot b to e = absurd (cc e)
variable_taken w HandleShape spot b to e = absurd (cc e)
variable_taken w KeyShape spot b to e = absurd (cc e)
variable_taken w (StructShape tag) spot b to e = absurd (cc e)
variable_taken w (UnionShape tag) spot b to e = absurd (cc e)
variable_taken w (ArrayShape count of) spot b to e = absurd (cc e)

entity_taken : (w : World) (e : Option Entity) (b : Reach) (to : Shape) → (entity_sense w e).shape ≡ ThinShape b Alone to → IsTakenBy w e
entity_taken w None b to e = inl (λ next m. refl)
entity_taken w (Some (Variable s spot)) b to e = variable_taken w s spot b to e

-- what can be copied is no operand
variable_stuck : (w : World) (s : Shape) (spot : Spot) (of : Shape) → (entity_sense w (Some (Variable s spot))).shape ≡ of → is_moved of ≡ false
    → (next : Operand → source.Memory → steps.Step) (m : source.Memory) → operand_of (Some (Variable s spot)) next m ≡ Stops SourceEnding.Stuck
variable_stuck w (ThinShape a q to) spot of e h next m = let same : is_alone q ≡ false = ap is_moved e ∙ h in rw same refl
variable_stuck w KeyShape spot of e h next m = absurd (false≢true (sym (ap is_moved e ∙ h)))
variable_stuck w IntShape spot of e h next m = refl
variable_stuck w UnsignedShape spot of e h next m = refl
variable_stuck w CharShape spot of e h next m = refl
variable_stuck w VoidShape spot of e h next m = refl
variable_stuck w (FatShape to) spot of e h next m = refl
variable_stuck w HandleShape spot of e h next m = refl
variable_stuck w (StructShape tag) spot of e h next m = refl
variable_stuck w (UnionShape tag) spot of e h next m = refl
variable_stuck w (ArrayShape count to) spot of e h next m = refl

pub operand_stuck : (w : World) (e : Option Entity) (s : Shape) → (entity_sense w e).shape ≡ s → is_moved s ≡ false
    → (next : Operand → source.Memory → steps.Step) (m : source.Memory) → operand_of e next m ≡ Stops SourceEnding.Stuck
operand_stuck w None s e h next m = refl
operand_stuck w (Some (Variable shape spot)) s e h next m = variable_stuck w shape spot s e h next m

-- ---- what the code does

null_passes : (d : ℕ) (c : Config) (rest : Statements) (after : Next) → c.temps d ≡ Null
    → meaning.statements (put (unique_free d) rest) after c ≡ meaning.statements rest after c
null_passes d c rest after null = rw null refl

block_freed : (d r : ℕ) (c : Config) (rest : Statements) (after : Next) → c.temps d ≡ Pointer (record { region = core.Born r; object = 0; cell = 0 }) 0
    → core.is_single (c.memory.standing (core.Born r)) ≡ true
    → meaning.statements (put (unique_free d) rest) after c
    ≡ Says (core_steps.Visible (events.UniqueFree r)) (meaning.statements rest after (with_memory (core_freed c.memory r) c))
block_freed d r c rest after temp single = rw (temp, single) refl

live_single : (now : core.Standing) → IsSingle now → core.is_live now ≡ true → core.is_single now ≡ true
live_single core.Single h e = refl
live_single core.Dead h e = absurd (false≢true e)
live_single core.Live h e = absurd h
live_single core.Opened h e = absurd h
live_single core.Closed h e = absurd h

-- ---- both do the same

-- the source is stuck where the block isn't live
block_same : (p : Point) (n d r : ℕ) (m : source.Memory) (c : Config) (next : Flow → source.Memory → steps.Step) (rest : Statements) (after : Next)
    → SameMemory p.world m c.memory → c.temps d ≡ Pointer (record { region = core.Born r; object = 0; cell = 0 }) 0
    → IsSingle (c.memory.standing (core.Born r))
    → SameAt p n (next steps.Falls (source_freed m r)) (meaning.statements rest after (with_memory (core_freed c.memory r) c))
    → SameAt p n (pointer_freed (Thin (Some (record { region = source.Born r; object = 0; cell = 0 }))) (λ u. next steps.Falls) m)
    (meaning.statements (put (unique_free d) rest) after c)
block_same p n d r m c next rest after a temp single go = by (is_live m (source.Born r)) refl
  where
    by : (b : Bool) → is_live m (source.Born r) ≡ b
        → SameAt p n (pointer_freed (Thin (Some (record { region = source.Born r; object = 0; cell = 0 }))) (λ u. next steps.Falls) m)
        (meaning.statements (put (unique_free d) rest) after c)
    by false e = rw e (stuck_same p.world p.program n _)
    by true e =
        rw (e, block_freed d r c rest after temp (live_single (c.memory.standing (core.Born r)) single (sym (a.live (source.Born r)) ∙ e)))
        (says_same p.world p.program n _ _ (next steps.Falls (source_freed m r)) (meaning.statements rest after (with_memory (core_freed c.memory r) c))
        (BothVisible (events.UniqueFree r)) go)

pub freed_same : (p : Point) (n : ℕ) (result : Shape) (e : Option Entity) (b : Reach) (to : Shape) (code : List Statement)
    → Agrees p n p.regions.all (entity_sense p.world e) (ThinShape b Alone to) code
    → RunsAs p n (suc p.frame) result (freed_act e) (code ++ unique_free p.regions.all)
freed_same p n result e b to code agrees = record {
  same = λ m c next rest after fits ways.
      let step : core_steps.Step = meaning.statements (put (code ++ unique_free d) rest) after c in
      ⊎_elim
      (λ (stuck : (next : Flow → source.Memory → steps.Step) (m : source.Memory) → freed_act e next m ≡ Stops SourceEnding.Stuck).
      subst (λ z. SameAt p n z step) (sym (stuck next m)) (stuck_same p.world p.program n step))
      (λ (is : (next : Flow → source.Memory → steps.Step) (m : source.Memory) → freed_act e next m ≡ (entity_sense p.world e).value (freed_value next) m).
      subst (λ z. SameAt p n z step) (sym (is next m))
      (subst (λ z. SameAt p n ((entity_sense p.world e).value (freed_value next) m) (meaning.statements z after c)) (sym (put_all code (unique_free d) rest))
      (agrees.values.same m c (freed_value next) (put (unique_free d) rest) after fits (record {
        above = omega arith;
        go = λ m1 c1 vs fits1 later1 kept1 given1.
            let v = thin_value p.world m1 c1.memory b Alone to vs (c1.temps d) given1 in
            let o = onward_behind p m m1 c c1 fits fits1 later1 kept1 in
            let then : core_steps.Step = meaning.statements (put (unique_free d) rest) after c1 in
            subst (λ z. SameAt p n (freed_value next z m1) then) (sym v.alone)
            (⊎_elim
            (λ (z : ANull b v.value (c1.temps d ∷ [])).
            subst (λ u. SameAt p n (pointer_freed u (λ y. next steps.Falls) m1) then) (sym z.value)
            (subst (λ u. SameAt p n (next steps.Falls m1) u) (sym (null_passes d c1 rest after (null_is (c1.temps d) b v.value z))) (ways.falls m1 c1 o)))
            (λ (z : APointer p.world m1 c1.memory (count_of b) Alone to v.value (c1.temps d ∷ [])).
            let r : ℕ = z.owned.birth in
            let there : c1.temps d ≡ Pointer (record { region = core.Born r; object = 0; cell = 0 }) 0 =
            pointer_is p.world m1 c1.memory Alone to (c1.temps d) v.value z ∙ ap (λ s. Pointer (at s) z.byte) z.owned.first ∙
            ap (λ y. Pointer (record { region = core.Born r; object = 0; cell = 0 }) y) z.owned.start in
            subst (λ u. SameAt p n (pointer_freed u (λ y. next steps.Falls) m1) then) (sym (z.value ∙ ap (λ s. Thin (Some s)) z.owned.first))
            (block_same p n d r m1 c1 next rest after fits1.agree there z.owned.single
            (ways.falls (source_freed m1 r) (with_memory (core_freed c1.memory r) c1) (record {
              agree = region_freed_agree p.world m1 c1.memory r fits1.agree;
              later = later_on (around p (suc p.frame)) m m1 (source_freed m1 r) c.memory c1.memory (core_freed c1.memory r) o.later
                  (region_freed_later (around p (suc p.frame)) m1 c1.memory r);
              active = o.active;
              kept = o.kept;
            }))))
            v.shown);
      }))))
      (entity_taken p.world e b to agrees.shape_is);
}
  where
    d : ℕ
    d = p.regions.all

-- what isn't unique is stuck
shared_freed : (p : Point) (n : ℕ) (result : Shape) (e : Option Entity) (s : Shape) (code : List Statement) → is_moved s ≡ false
    → Agrees p n p.regions.all (entity_sense p.world e) s code
    → RunsAs p n (suc p.frame) result (freed_act e) (code ++ unique_free p.regions.all)
shared_freed p n result e s code h agrees = record {
  same = λ m c next rest after fits ways.
      let step : core_steps.Step = meaning.statements (put (code ++ unique_free p.regions.all) rest) after c in
      subst (λ z. SameAt p n z step) (sym (operand_stuck p.world e s agrees.shape_is h (taken_from next) m)) (stuck_same p.world p.program n step);
}
  where
    taken_from : (Flow → source.Memory → steps.Step) → Operand → source.Memory → steps.Step
    taken_from next x = (read_cell x.at >>= λ v. put_content x.at Gone >> pointer_freed v) (λ u. next steps.Falls)

-- a name by its shape
pub thin_operand : (s : Shape) → IsThinShape s → IsOperandShape s
thin_operand (StructShape tag) h = h
thin_operand (UnionShape tag) h = h
thin_operand _ h = tt

pub name_freed : (p : Point) (n : ℕ) (result : Shape) (name : List ℕ) (l : Option Named) (global : Option Entity) → IsThinShape (valued (shape_by l global))
    → (IsOperandShape (valued (shape_by l global)) → Agrees p n p.regions.all
    (entity_sense p.world (or_else (bound_to p.locals name) (bound_to p.world.globals name))) (valued (shape_by l global)) (get_by l global p.regions.all))
    → RunsAs p n (suc p.frame) result (freed_act (or_else (bound_to p.locals name) (bound_to p.world.globals name)))
    (get_by l global p.regions.all ++ unique_free p.regions.all)
name_freed p n result name l global h agrees = by (valued (shape_by l global)) h (agrees (thin_operand (valued (shape_by l global)) h))
  where
    e : Option Entity
    e = or_else (bound_to p.locals name) (bound_to p.world.globals name)

    code : List Statement
    code = get_by l global p.regions.all

    by : (s : Shape) → IsThinShape s → Agrees p n p.regions.all (entity_sense p.world e) s code
        → RunsAs p n (suc p.frame) result (freed_act e) (code ++ unique_free p.regions.all)
    by (ThinShape b Alone to) g a = freed_same p n result e b to code a
    by (ThinShape b Shared to) g a = shared_freed p n result e (ThinShape b Shared to) code refl a
    by (ThinShape b Unsaid to) g a = shared_freed p n result e (ThinShape b Unsaid to) code refl a
    by IntShape g a = absurd g
    by UnsignedShape g a = absurd g
    by CharShape g a = absurd g
    by VoidShape g a = absurd g
    by (FatShape to) g a = absurd g
    by HandleShape g a = absurd g
    by KeyShape g a = absurd g
    by (StructShape tag) g a = absurd g
    by (UnionShape tag) g a = absurd g
    by (ArrayShape count of) g a = absurd g
