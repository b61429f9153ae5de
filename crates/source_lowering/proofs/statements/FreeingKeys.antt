-- `free_ukey(k)` does the same as its code: the key is moved out of its variable, and its region is freed, where it is closed.
use Rattle.std.proofs.Common.{◌≡◌, ◌⊎◌, inl, inr, ⊎_elim, ℕ, suc, List, [], ◌∷◌, ◌++◌, true, Option, Some, None, refl, sym, ap, subst, arith}
use Rattle.cyc_words.specs.Events.{SourceEnding}
use Rattle.step_trees.specs.Trees.{Stops}
use Rattle.source_meaning.specs.Shapes.{Shape, KeyShape}
use Rattle.source_meaning.specs.Memory as source
use Rattle.source_meaning.specs.Memory.{Gone, Scalar, Spot}
use Rattle.source_meaning.specs.Steps as steps
use Rattle.source_meaning.specs.Steps.{World, Entity, Variable, Act, Flow, give, ◌>>=◌, ◌>>◌}
use Rattle.source_meaning.specs.Conversions.{one}
use Rattle.source_meaning.specs.Values.{read_cell, put_content}
use Rattle.source_meaning.specs.Places.{bound_to, entity_sense, or_else}
use Rattle.source_meaning.specs.Regions.{key_freed, operand_of}
use Rattle.core_meaning.specs.Memory.{Birth}
use Rattle.core_meaning.specs.Core.{Do, KeyFree, Statement}
use Rattle.core_meaning.specs.Steps as core_steps
use Rattle.core_meaning.specs.Steps.{with_memory}
use Rattle.core_meaning.specs.Meaning as meaning
use Rattle.source_lowering.specs.Lowered.{Named, get_by, put, shape_by}
use Rattle.source_lowering.specs.Members.{valued}
use Rattle.source_lowering.specs.Lowerable.{IsKeyShape, IsOperandShape}
use Rattle.source_lowering.specs.Simulation.{Point, SameAt, around, first_in}
use Rattle.source_lowering.proofs.memory.Keeping.{later_on}
use Rattle.source_lowering.proofs.Runs.{put_all, stuck_same}
use Rattle.source_lowering.proofs.values.ThinConversions.{birth_given}
use Rattle.source_lowering.proofs.expressions.Variables.{Agrees}
use Rattle.source_lowering.proofs.regions.Regions.{core_freed, source_freed, region_freed_agree, region_freed_later}
use Rattle.source_lowering.proofs.regions.KeyRegions.{key_freed_same}
use Rattle.source_lowering.proofs.statements.Ways.{RunsAs, onward_behind}

-- the region of the key that a name stands for is freed
abbrev pub freed_act : Option Entity → Act Flow
freed_act e = (operand_of e >>= λ x. read_cell x.at >>= λ v. put_content x.at Gone >> key_freed v) >> give steps.Falls

-- what is done with the key that is given away
abbrev freed_value : (Flow → source.Memory → steps.Step) → List Scalar → source.Memory → steps.Step
freed_value next vs = one vs (λ v. key_freed v (λ u. next steps.Falls))

-- it is out of order, or a variable is read and moved
abbrev IsTakenBy : World → Option Entity → Type 0
IsTakenBy w e =
    ((next : Flow → source.Memory → steps.Step) (m : source.Memory) → freed_act e next m ≡ Stops SourceEnding.Stuck) ⊎
    ((next : Flow → source.Memory → steps.Step) (m : source.Memory) → freed_act e next m ≡ (entity_sense w e).value (freed_value next) m)

variable_taken : (w : World) (s : Shape) (spot : Spot) → (entity_sense w (Some (Variable s spot))).shape ≡ KeyShape → IsTakenBy w (Some (Variable s spot))
variable_taken w KeyShape spot e = inr (λ next m. refl)
variable_taken w _ spot e = absurd (cc e)

entity_taken : (w : World) (e : Option Entity) → (entity_sense w e).shape ≡ KeyShape → IsTakenBy w e
entity_taken w None e = inl (λ next m. refl)
entity_taken w (Some (Variable s spot)) e = variable_taken w s spot e

key_same : (p : Point) (n : ℕ) (result : Shape) (e : Option Entity) (code : List Statement)
    → Agrees p n p.regions.all (entity_sense p.world e) KeyShape code
    → RunsAs p n (suc p.frame) result (freed_act e) (code ++ (Do (KeyFree p.regions.all) ∷ []))
key_same p n result e code agrees = record {
  same = λ m c next rest after fits ways.
      let step : core_steps.Step = meaning.statements (put (code ++ frees) rest) after c in
      ⊎_elim
      (λ (stuck : (next : Flow → source.Memory → steps.Step) (m : source.Memory) → freed_act e next m ≡ Stops SourceEnding.Stuck).
      subst (λ z. SameAt p n z step) (sym (stuck next m)) (stuck_same p.world p.program n step))
      (λ (is : (next : Flow → source.Memory → steps.Step) (m : source.Memory) → freed_act e next m ≡ (entity_sense p.world e).value (freed_value next) m).
      subst (λ z. SameAt p n z step) (sym (is next m))
      (subst (λ z. SameAt p n ((entity_sense p.world e).value (freed_value next) m) (meaning.statements z after c)) (sym (put_all code frees rest))
      (agrees.values.same m c (freed_value next) (put frees rest) after fits (record {
        above = omega arith;
        go = λ m1 c1 vs fits1 later1 kept1 given1.
            let v = birth_given true p.world m1 c1.memory vs (c1.temps d) given1 in
            let r : ℕ = v.shown.birth in
            let there : c1.temps d ≡ Birth r = ap (first_in (c1.temps d)) v.shown.shown in
            let o = onward_behind p m m1 c c1 fits fits1 later1 kept1 in
            let then : core_steps.Step = meaning.statements (put frees rest) after c1 in
            subst (λ z. SameAt p n (freed_value next z m1) then) (sym v.alone)
            (subst (λ u. SameAt p n (key_freed u (λ y. next steps.Falls) m1) then) (sym v.shown.value)
            (key_freed_same p.world p.program n d r m1 c1 (λ y. next steps.Falls) (meaning.statements rest after) fits1.agree there
            (ways.falls (source_freed m1 r) (with_memory (core_freed c1.memory r) c1) (record {
              agree = region_freed_agree p.world m1 c1.memory r fits1.agree;
              later = later_on (around p (suc p.frame)) m m1 (source_freed m1 r) c.memory c1.memory (core_freed c1.memory r) o.later
                  (region_freed_later (around p (suc p.frame)) m1 c1.memory r);
              active = o.active;
              kept = o.kept;
            }))));
      }))))
      (entity_taken p.world e agrees.shape_is);
}
  where
    d : ℕ
    d = p.regions.all

    frees : List Statement
    frees = Do (KeyFree d) ∷ []

-- a name by its shape
key_operand : (s : Shape) → IsKeyShape s → IsOperandShape s
key_operand KeyShape h = tt
key_operand _ h = absurd h

pub key_freed_by : (p : Point) (n : ℕ) (result : Shape) (name : List ℕ) (l : Option Named) (global : Option Entity) → IsKeyShape (valued (shape_by l global))
    → (IsOperandShape (valued (shape_by l global)) → Agrees p n p.regions.all
    (entity_sense p.world (or_else (bound_to p.locals name) (bound_to p.world.globals name))) (valued (shape_by l global)) (get_by l global p.regions.all))
    → RunsAs p n (suc p.frame) result (freed_act (or_else (bound_to p.locals name) (bound_to p.world.globals name)))
    (get_by l global p.regions.all ++ (Do (KeyFree p.regions.all) ∷ []))
key_freed_by p n result name l global h agrees = by (valued (shape_by l global)) h (agrees (key_operand (valued (shape_by l global)) h))
  where
    e : Option Entity
    e = or_else (bound_to p.locals name) (bound_to p.world.globals name)

    by : (s : Shape) → IsKeyShape s → Agrees p n p.regions.all (entity_sense p.world e) s (get_by l global p.regions.all)
        → RunsAs p n (suc p.frame) result (freed_act e) (get_by l global p.regions.all ++ (Do (KeyFree p.regions.all) ∷ []))
    by KeyShape g a = key_same p n result e (get_by l global p.regions.all) a
    by _ g a = absurd g
