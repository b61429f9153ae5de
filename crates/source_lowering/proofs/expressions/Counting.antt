-- `numelts`: of what is no fat pointer the source is stuck.
use Rattle.std.proofs.Common.{◌≡◌, ℕ, List, [], ◌∷◌, ◌++◌, refl, sym, subst, arith}
use Rattle.source_meaning.specs.Shapes.{
  Shape,
  IntShape,
  UnsignedShape,
  CharShape,
  VoidShape,
  ThinShape,
  FatShape,
  HandleShape,
  KeyShape,
  StructShape,
  UnionShape,
  ArrayShape,
}
use Rattle.source_meaning.specs.Memory as source
use Rattle.source_meaning.specs.Memory.{Scalar}
use Rattle.source_meaning.specs.Steps as steps
use Rattle.source_meaning.specs.Steps.{give, ◌>>=◌}
use Rattle.source_meaning.specs.Conversions.{one}
use Rattle.source_meaning.specs.Places.{Sense}
use Rattle.source_meaning.specs.Calls.{elements_left, counted}
use Rattle.core_meaning.specs.Core.{Statement}
use Rattle.core_meaning.specs.Meaning as meaning
use Rattle.source_lowering.specs.Lowered.{put, count_code}
use Rattle.source_lowering.specs.Simulation.{Point, SameAt, GivesAs}
use Rattle.source_lowering.proofs.Runs.{stuck_same, put_all}
use Rattle.source_lowering.proofs.values.Integers.{IsTaken}
use Rattle.source_lowering.proofs.values.AnyValues.{one_same, thin_same}
use Rattle.source_lowering.proofs.expressions.Variables.{Agrees}
use Rattle.source_lowering.proofs.expressions.Forms.{value_agrees}
use Rattle.source_lowering.proofs.values.FatOperators.{count_gives}
use Rattle.source_lowering.proofs.values.Values.{over}

-- another value is out of order
not_counted : (p : Point) (n d : ℕ) (shape : Shape) (look : steps.Act (List Scalar)) (code : List Statement) → IsTaken shape
    → ((to : Shape) → shape ≡ FatShape to → ⊥) → GivesAs p n d shape look code
    → GivesAs p n d UnsignedShape (look >>= one >>= elements_left >>= λ k. give (k ∷ [])) (code ++ count_code d)
not_counted p n d shape look code taken apart gives = record {
  same = λ m c s rest next fits goes.
      let counts : Scalar → source.Memory → steps.Step = λ v. elements_left v (λ k. s (k ∷ [])) in
      subst (λ z. SameAt p n (look (λ vs. one vs counts) m) (meaning.statements z next c)) (sym (put_all code (count_code d) rest))
      (gives.same m c (λ vs. one vs counts) (put (count_code d) rest) next fits (record {
        above = over goes.above (omega arith);
        go = λ m1 c1 vs fits1 later1 kept1 given1.
            one_same p.world p.program n shape m1 c1.memory vs d c1.temps counts _ taken given1
            (λ t word temp shape_is type_is small. stuck_same p.world p.program n _)
            (λ v o.
            thin_same p.world p.program n shape m1 c1.memory v (c1.temps d) counts _ o
            (λ x b. stuck_same p.world p.program n _) (λ t byte x full leads. stuck_same p.world p.program n _))
            (λ birth x shape_is. stuck_same p.world p.program n _)
            (λ birth is. stuck_same p.world p.program n _)
            (λ v o. absurd (apart o.to o.shape_is));
      }));
}

counted_gives : (p : Point) (n d : ℕ) (shape : Shape) (look : steps.Act (List Scalar)) (code : List Statement) → IsTaken shape → GivesAs p n d shape look code
    → GivesAs p n d UnsignedShape (look >>= one >>= elements_left >>= λ k. give (k ∷ [])) (code ++ count_code d)
counted_gives p n d (FatShape to) look code h gives = count_gives p n d to look code gives
counted_gives p n d IntShape look code h gives = not_counted p n d IntShape look code h (λ to e. cc e) gives
counted_gives p n d UnsignedShape look code h gives = not_counted p n d UnsignedShape look code h (λ to e. cc e) gives
counted_gives p n d CharShape look code h gives = not_counted p n d CharShape look code h (λ to e. cc e) gives
counted_gives p n d VoidShape look code h gives = not_counted p n d VoidShape look code h (λ to e. cc e) gives
counted_gives p n d (ThinShape b owner from) look code h gives = not_counted p n d (ThinShape b owner from) look code h (λ to e. cc e) gives
counted_gives p n d HandleShape look code h gives = not_counted p n d HandleShape look code h (λ to e. cc e) gives
counted_gives p n d KeyShape look code h gives = not_counted p n d KeyShape look code h (λ to e. cc e) gives
counted_gives p n d (StructShape tag) look code h gives = absurd h
counted_gives p n d (UnionShape tag) look code h gives = absurd h
counted_gives p n d (ArrayShape count of) look code h gives = absurd h

pub counted_agrees : (p : Point) (n d : ℕ) (e : Sense) (shape : Shape) (code : List Statement) → Agrees p n d e shape code
    → Agrees p n d (counted e) UnsignedShape (code ++ count_code d)
counted_agrees p n d e shape code agrees =
    value_agrees p n d UnsignedShape UnsignedShape (counted e).look (code ++ count_code d) refl tt
    (counted_gives p n d shape e.look code agrees.taken agrees.looks)
