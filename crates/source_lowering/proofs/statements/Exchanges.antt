-- `a :=: b` does the same as its code: both places are known, and then what they hold is exchanged.
use Rattle.std.proofs.Common.{◌≡◌, ℕ, suc, ◌+◌, List, ◌++◌, Bool, true, false, refl, sym, ◌∙◌, subst, arith}
use Rattle.source_meaning.specs.Shapes.{
  Shape,
  IntShape,
  UnsignedShape,
  CharShape,
  VoidShape,
  ThinShape,
  FatShape,
  HandleShape,
  KeyShape,
  StructShape,
  UnionShape,
  ArrayShape,
  same_shape,
}
use Rattle.source_meaning.specs.Memory as source
use Rattle.source_meaning.specs.Steps as steps
use Rattle.source_meaning.specs.Steps.{give, ◌>>◌}
use Rattle.source_meaning.specs.Places.{Sense}
use Rattle.source_meaning.specs.Statements.{exchanged}
use Rattle.core_meaning.specs.Core.{Statement, Statements}
use Rattle.core_meaning.specs.Steps.{Config}
use Rattle.core_meaning.specs.Meaning as meaning
use Rattle.source_lowering.specs.Lowered.{put}
use Rattle.source_lowering.specs.Lowerable.{IsExchanged}
use Rattle.source_lowering.specs.Programs.{Side, exchange_code, side_code}
use Rattle.source_lowering.specs.Simulation.{Leads, Next, Point, SameAt, SameState, around, within}
use Rattle.source_lowering.proofs.memory.Keeping.{leads_later, later_on}
use Rattle.source_lowering.proofs.memory.SameShapes.{shapes_same}
use Rattle.source_lowering.proofs.Runs.{stuck_same}
use Rattle.source_lowering.proofs.values.Values.{put_three}
use Rattle.source_lowering.proofs.statements.Ways.{RunsAs, WaysOn, onward_behind}
use Rattle.source_lowering.proofs.statements.Sides.{IsReached, SidedAs, reached_still}
use Rattle.source_lowering.proofs.statements.Exchanging.{ExchangesAs, exchanged_at, values_exchange}
use Rattle.source_lowering.proofs.statements.ExchangingUnions.{unions_exchange}

-- a value, or a tagged union
pub cells_exchange : (p : Point) (n : ℕ) (a b : Side) (shape : Shape) → IsExchanged p.world.unions shape
    → ExchangesAs p n a b shape (exchange_code p.world a b shape p.regions.all)
cells_exchange p n a b (UnionShape tag) h = unions_exchange p n a b tag
cells_exchange p n a b IntShape h = values_exchange p n a b IntShape h
cells_exchange p n a b UnsignedShape h = values_exchange p n a b UnsignedShape h
cells_exchange p n a b CharShape h = values_exchange p n a b CharShape h
cells_exchange p n a b VoidShape h = absurd h
cells_exchange p n a b (ThinShape bound owner to) h = values_exchange p n a b (ThinShape bound owner to) h
cells_exchange p n a b (FatShape to) h = values_exchange p n a b (FatShape to) h
cells_exchange p n a b HandleShape h = values_exchange p n a b HandleShape h
cells_exchange p n a b KeyShape h = values_exchange p n a b KeyShape h
cells_exchange p n a b (StructShape tag) h = absurd h
cells_exchange p n a b (ArrayShape count of) h = absurd h

-- the left place comes first
pub exchange_same : (p : Point) (n : ℕ) (result : Shape) (a b : Sense) (x y : Side) (sa sb : Shape) (left right : List Statement) → a.shape ≡ sa → b.shape ≡ sb
    → IsExchanged p.world.unions sa → SidedAs p n p.regions.all x sa a.place left → SidedAs p n (p.regions.all + 1) y sb b.place right
    → RunsAs p n (suc p.frame) result (exchanged a b >> give steps.Falls)
    (side_code x left ++ (side_code y right ++ exchange_code p.world x y sa p.regions.all))
exchange_same p n result a b x y sa sb left right is_a is_b is_cell one other = record {
  same = λ m c next rest after fits ways. by (same_shape a.shape b.shape) refl m c next rest after fits ways;
}
  where
    d : ℕ
    d = p.regions.all

    first : List Statement
    first = side_code x left

    second : List Statement
    second = side_code y right

    exchange : List Statement
    exchange = exchange_code p.world x y sa d

    then_act : (steps.Flow → source.Memory → steps.Step) → source.Memory → steps.Step
    then_act next = a.place (λ t. b.place (λ u. exchanged_at t u (next steps.Falls)))

    by : (e : Bool) → same_shape a.shape b.shape ≡ e → (m : source.Memory) (c : Config) (next : steps.Flow → source.Memory → steps.Step) (rest : Statements)
        (after : Next) → SameState p m c
        → WaysOn p.world p.program n p.regions (around p (suc p.frame)) m c result next (meaning.statements rest after) after
        → SameAt p n ((exchanged a b >> give steps.Falls) next m) (meaning.statements (put (first ++ (second ++ exchange)) rest) after c)
    by false e m c next rest after fits ways = rw e (stuck_same p.world p.program n _)
    by true e m c next rest after fits ways =
        let same : sb ≡ sa = sym (sym is_a ∙ shapes_same a.shape b.shape e ∙ is_b) in
        rw e
        (subst (λ z. SameAt p n (then_act next m) (meaning.statements z after c)) (sym (put_three first second exchange rest))
        (one.same m c (λ t. b.place (λ u. exchanged_at t u (next steps.Falls)))
        (put second (put exchange rest)) after fits (record {
          above = omega arith;
          go = λ m1 c1 t bt fits1 later1 kept1 reached1 leads1.
              other.same m1 c1 (λ u. exchanged_at t u (next steps.Falls)) (put exchange rest) after fits1 (record {
                above = omega arith;
                go = λ m2 c2 u bu fits2 later2 kept2 reached2 leads2.
                    cells_exchange p n x y sa is_cell m c m2 c2 t u bt bu (next steps.Falls) rest after fits2
                    (later_on (within p) m m1 m2 c.memory c1.memory c2.memory later1 later2) (λ k less. kept2 k (omega (arith, less)) ∙ kept1 k less)
                    (reached_still p x sa c1.temps c2.temps d t bt (kept2 d (omega arith)) reached1)
                    (subst (λ z. IsReached p y z c2.temps (d + 1) u bu) same reached2)
                    (leads_later (within p) p.world m1 m2 c1.memory c2.memory sa t bt later2 leads1)
                    (subst (λ z. Leads p.world m2 c2.memory z u bu) same leads2)
                    (λ m3 c3 fits3 later3 kept3. ways.falls m3 c3 (onward_behind p m m3 c c3 fits fits3 later3 kept3));
              });
        })))
