-- Statements with structs and unions as values: one that is dropped, assigned, or what a local begins as.
use Rattle.std.proofs.Common.{◌≡◌, ℕ, suc, ◌+◌, List, [], ◌∷◌, ◌++◌, length, Bool, true, false, refl, sym, ap, ◌∙◌, subst, arith}
use Rattle.source_meaning.specs.Shapes.{Shape}
use Rattle.source_meaning.specs.Memory as source
use Rattle.source_meaning.specs.Memory.{Scalar, Spot, is_live}
use Rattle.source_meaning.specs.Steps as steps
use Rattle.source_meaning.specs.Steps.{Variable, Scope, Flow, Act, give, ◌>>=◌}
use Rattle.source_meaning.specs.Conversions.{cells_of, converted}
use Rattle.source_meaning.specs.Values.{write_cells}
use Rattle.source_meaning.specs.Places.{Sense, with_binding, assigned}
use Rattle.source_meaning.specs.Regions.{local_with, initialised}
use Rattle.core_meaning.specs.Memory as core
use Rattle.core_meaning.specs.Memory.{Pointer, Layout}
use Rattle.core_meaning.specs.Core.{Statement, Do, Copy, Statements}
use Rattle.core_meaning.specs.Steps.{Config, with_memory}
use Rattle.core_meaning.specs.Operations.{copied}
use Rattle.core_meaning.specs.Meaning as meaning
use Rattle.source_lowering.specs.Layouts.{layout_of}
use Rattle.source_lowering.specs.Lowered.{put}
use Rattle.source_lowering.specs.Lowerable.{IsObject, IsWholeShape, AreStructs}
use Rattle.source_lowering.proofs.memory.StructCells.{shapes_in, HasCells}
use Rattle.source_lowering.specs.Simulation.{at, AreMade, Leads, Grown, Point, SameState, SameAt, Next, around, before_value, keeping}
use Rattle.source_lowering.proofs.memory.Keeping.{IsLess, later_on, later_less, blocks_of}
use Rattle.source_lowering.proofs.Runs.{put_all}
use Rattle.source_lowering.proofs.expressions.Making.{local_spot}
use Rattle.source_lowering.proofs.memory.Clearing.{laid_there}
use Rattle.source_lowering.proofs.memory.Copying.{AllShown, all_shown_kept, whole_copied}
use Rattle.source_lowering.proofs.statements.Declaring.{with_local}
use Rattle.source_lowering.proofs.memory.Beginning.{BeginsIn}
use Rattle.source_lowering.proofs.memory.SameShapes.{shapes_same}
use Rattle.source_lowering.proofs.expressions.Places.{IsPlaced}
use Rattle.source_lowering.proofs.memory.Initialising.{copy_code, converted_whole, whole_with_same}
use Rattle.source_lowering.proofs.memory.CopiedOver.{copy_over, dead_stuck, shown_count}
use Rattle.source_lowering.proofs.memory.Overwriting.{all_written, writes_all, overwritten}
use Rattle.source_lowering.proofs.expressions.Wholes.{own_spot, IsWhole, fits_keeping, fits_kept, before_less, own_apart, value_made}
use Rattle.source_lowering.proofs.memory.Members.{layout_count}
use Rattle.source_lowering.proofs.memory.ObjectShapes.{whole_object}
use Rattle.source_lowering.proofs.statements.Ways.{Onward, WaysOn, RunsAs}

-- what an expression keeps that is a struct or a union, a statement keeps
pub later_whole : (p : Point) (v : ℕ) (m m' : source.Memory) (c c' : core.Memory) → Grown (before_value p v) m c m' c'
    → Grown (around p (suc p.frame)) m c m' c'
later_whole p v m m' c c' l = later_less (before_value p v) (before_value p 0) m m' c c' (before_less p 0 v (omega arith)) l

items_whole : (p : Point) (v : ℕ) → IsLess (around p p.frame) (before_value p v)
items_whole p v = record {
  frames = omega arith;
  standing = omega arith;
  kept = λ k i h. (h.0, λ e. let f = h.1 e in absurd (omega (arith, f)));
}

-- ---- one that is dropped

pub whole_dropped : (p : Point) (n value : ℕ) (result : Shape) (e : Sense) (code : List Statement) → IsWhole p n p.regions.all value e code
    → RunsAs p n (suc p.frame) result (e.value >>= λ vs. give steps.Falls) code
whole_dropped p n value result e code one = record {
  same = λ m c next rest after fits ways.
      one.same m c (λ vs. next steps.Falls) rest after fits (record {
        above = omega arith;
        go = λ m2 c2 vs fits2 later2 kept2 temp2 shown2.
            ways.falls m2 c2 (record {
              agree = fits2.agree;
              later = later_whole p value m m2 c.memory c2.memory later2;
              active = blocks_of p m m2 c c2 fits fits2;
              kept = kept2;
            });
      });
}

-- ---- a local begins as one that is made

pub whole_begins : (p : Point) (n value : ℕ) (scope : Scope) (name : List ℕ) (shape : Shape) (shapes : List Shape) (e : Sense) (code : List Statement)
    (then_act : Scope → Act Flow) (next : Flow → source.Memory → steps.Step) (m : source.Memory) (c : Config) (rest : Statements) (after : Next)
    → scope.world ≡ p.world → scope.frame ≡ p.frame → AreStructs p.world.unions p.world.structs
    → IsWholeShape p.world.unions p.world.structs shape → p.pending ≡ shape ∷ shapes → SameState p m c → IsWhole p n p.regions.all value e code
    → BeginsIn p (with_local p name shape shapes) n m c
    (λ m'. then_act (with_binding scope name (Variable shape (local_spot p.frame p.made))) next m') (meaning.statements rest after)
    → SameAt p n (initialised scope name shape e then_act next m) (meaning.statements (put code
    (put (copy_code p (layout_of p.world shape)) rest)) after c)
whole_begins p n value scope name shape shapes e code then_act next m c rest after world frame structs is_whole pending fits one goes =
    one.same m c (λ vs. converted scope.world shape e.shape vs (λ us. local_with scope name shape us then_act next)) copies after fits
    (record {
      above = omega arith;
      go = λ m1 c1 vs fits1 later1 kept1 temp shown.
          subst (λ z. SameAt p n (converted z shape e.shape vs (λ us. local_with scope name shape us then_act next) m1)
          (meaning.statements copies after c1)) (sym world)
          (converted_whole p n shape e.shape vs (λ us. local_with scope name shape us then_act next) m1 (meaning.statements copies after c1) is_whole
          (λ equal.
          let same : shape ≡ one.shape = shapes_same shape e.shape equal ∙ one.shape_is in
          whole_with_same p n scope name shape shapes (own_spot p.own value 0) 0 vs then_act next m1 c1 rest after world frame structs is_whole pending
          fits1 temp
          (subst (λ z. AreMade c1.memory (own_spot p.own value 0) 0 (layout_of p.world z).cells) (sym same)
          (value_made p m1 c1 value one.shape one.object fits1 one.numbered))
          (subst (λ z. AllShown p.world m1 c1.memory (own_spot p.own value 0) (cells_of p.world z) vs) (sym same) shown)
          fits1.stands refl
          (record {
            go = λ m2 c2 fits2 later2 blocks2 kept2.
                goes.go m2 c2 fits2 (later_on (around p p.frame) m m1 m2 c.memory c1.memory c2.memory
                (later_less (before_value p value) (around p p.frame) m m1 c.memory c1.memory (items_whole p value) later1) later2)
                (blocks2 ∙ blocks_of p m m1 c c1 fits fits1) (λ k less. kept2 k less ∙ kept1 k less);
          })));
    })
  where
    copies : Statements
    copies = put (copy_code p (layout_of p.world shape)) rest

-- ---- one is assigned

-- the value is a temporary object, which stays while its place is evaluated
pub whole_assigned : (p : Point) (n value : ℕ) (result : Shape) (to from : Sense) (shape : Shape) (code place : List Statement)
    → AreStructs p.world.unions p.world.structs → IsWholeShape p.world.unions p.world.structs shape → IsWhole p n p.regions.all value from code
    → IsPlaced (keeping p (suc value)) n (p.regions.all + 1) to shape place
    → RunsAs p n (suc p.frame) result ((assigned p.world to from).value >>= λ vs. give steps.Falls)
    (code ++ (place ++ (Do (Copy (p.regions.all + 1) p.regions.all (layout_of p.world shape)) ∷ [])))
whole_assigned p n value result to from shape code place structs is_whole one placed = record {
  same = λ m c next rest after fits ways.
      subst (λ z. SameAt p n (from.value (λ vs. converted p.world to.shape from.shape vs (λ us. stores us next)) m) (meaning.statements z after c))
      (sym (put_all code (place ++ copies) rest ∙ ap (put code) (put_all place copies rest)))
      (subst (λ z. SameAt p n (from.value (λ vs. converted p.world z from.shape vs (λ us. stores us next)) m)
      (meaning.statements (put code (put place (put copies rest))) after c)) (sym placed.shape_is)
      (one.same m c (λ vs. converted p.world shape from.shape vs (λ us. stores us next)) (put place (put copies rest)) after fits (record {
        above = omega arith;
        go = λ m1 c1 vs fits1 later1 kept1 temp shown.
            converted_whole p n shape from.shape vs (λ us. stores us next) m1 (meaning.statements (put place (put copies rest)) after c1) is_whole
            (λ equal.
            let same : shape ≡ one.shape = shapes_same shape from.shape equal ∙ one.shape_is in
            placed.placed.same m1 c1 (λ t. write_cells t vs (λ u. next steps.Falls)) (put copies rest) after (fits_keeping p (suc value) m1 c1 fits1) (record {
              above = omega arith;
              go = λ m2 c2 t byte fits2' later2 kept2 temp2 lies leads.
                  let fits2 = fits_kept p (suc value) m2 c2 fits2' in
                  copy_same m c next rest after fits ways m2 c2 vs t byte fits2
                  (record {
                    agree = fits2.agree;
                    later =
                        later_on (around p (suc p.frame)) m m1 m2 c.memory c1.memory c2.memory (later_whole p value m m1 c.memory c1.memory later1)
                        (later_whole p (suc value) m1 m2 c1.memory c2.memory later2);
                    active = blocks_of p m m2 c c2 fits fits2;
                    kept = λ k less. kept2 k (omega (arith, less)) ∙ kept1 k less;
                  }) temp2 (kept2 p.regions.all (omega arith) ∙ temp) lies.cells leads
                  (subst (λ z. AreMade c2.memory (own_spot p.own value 0) 0 (layout_of p.world z).cells) (sym same)
                  (value_made p m2 c2 value one.shape one.object fits2 one.numbered))
                  (subst (λ z. AllShown p.world m2 c2.memory (own_spot p.own value 0) (cells_of p.world z) vs) (sym same)
                  (all_shown_kept (before_value p (suc value)) p.world m1 m2 c1.memory c2.memory (own_spot p.own value 0)
                  (cells_of p.world one.shape) vs later2
                  (λ i j less. later2.owned p.own (core.beyond (own_spot p.own value 0) i) j refl (omega arith, λ f. omega arith)) shown));
            }));
      })));
}
  where
    object : IsObject p.world.unions p.world.structs shape
    object = whole_object p.world.unions p.world.structs shape is_whole

    layout : Layout
    layout = layout_of p.world shape

    copies : List Statement
    copies = Do (Copy (p.regions.all + 1) p.regions.all (layout_of p.world shape)) ∷ []

    stores : List Scalar → (Flow → source.Memory → steps.Step) → source.Memory → steps.Step
    stores us next = to.place (λ t. write_cells t us (λ u. next steps.Falls))

    copy_same : (m : source.Memory) (c : Config) (next : Flow → source.Memory → steps.Step) (rest : Statements) (after : Next) → SameState p m c
        → WaysOn p.world p.program n p.regions (around p (suc p.frame)) m c result next (meaning.statements rest after) after
        → (m2 : source.Memory) (c2 : Config) (vs : List Scalar) (t : Spot) (byte : ℕ) → SameState p m2 c2
        → Onward p.world p.regions.all (around p (suc p.frame)) m c m2 c2 → c2.temps (p.regions.all + 1) ≡ Pointer (at t) byte
        → c2.temps p.regions.all ≡ Pointer (own_spot p.own value 0) 0
        → HasCells p.world.unions p.world.structs shape → Leads p.world m2 c2.memory shape t byte
        → AreMade c2.memory (own_spot p.own value 0) 0 layout.cells
        → AllShown p.world m2 c2.memory (own_spot p.own value 0) (cells_of p.world shape) vs
        → SameAt p n (write_cells t vs (λ u. next steps.Falls) m2) (meaning.statements (put copies rest) after c2)
    copy_same m c next rest after fits ways m2 c2 vs t byte fits2 onward2 temp temp_from has leads made shown = by (is_live m2 t.region) refl
      where
        from_spot : core.Spot
        from_spot = own_spot p.own value 0

        xs : List Shape
        xs = cells_of p.world shape

        cells : xs ≡ has.first.shape ∷ shapes_in has.others
        cells = sym has.shapes ∙ ap shapes_in has.is

        c3 : Config
        c3 = with_memory (copied layout (at t) from_spot c2.memory) c2

        by : (b : Bool) → is_live m2 t.region ≡ b
            → SameAt p n (write_cells t vs (λ u. next steps.Falls) m2) (meaning.statements (put copies rest) after c2)
        by false dead =
            dead_stuck p.world p.program n has.first.shape (shapes_in has.others) vs m2 t (λ u. next steps.Falls) _
            (shown_count p.world m2 c2.memory from_spot xs vs shown ∙ ap length cells) dead
        by true live =
            subst (λ z. SameAt p n (write_cells t vs (λ u. next steps.Falls) m2) z)
            (sym (copy_over c2 (p.regions.all + 1) p.regions.all (at t) from_spot byte layout (meaning.statements rest after) temp temp_from
            (sym (fits2.agree.live t.region) ∙ live) fits2.stands
            (laid_there c2.memory (at t) byte layout.cells leads.1) (laid_there c2.memory from_spot 0 layout.cells made) (own_apart t p.own value 0)))
            (writes_all p.world p.program n xs vs m2 t (λ u. next steps.Falls) (meaning.statements rest after c3)
            (shown_count p.world m2 c2.memory from_spot xs vs shown) live leads.0
            (λ free.
            let over = overwritten p.world m2 c2.memory t from_spot layout xs vs (layout_count p.world shape has) fits2.agree leads.0 free
            (whole_copied p.world m2 c2.memory (at t) from_spot byte shape vs structs object leads.1 shown) in
            ways.falls (all_written m2 t xs vs) c3 (record {
              agree = over.agree;
              later =
                  later_on (around p (suc p.frame)) m m2 (all_written m2 t xs vs) c.memory c2.memory c3.memory onward2.later
                  (over.later (around p (suc p.frame)));
              active = onward2.active;
              kept = onward2.kept;
            })))
