-- A value in a temporary is converted to another shape.
use Rattle.std.proofs.Common.{◌≡◌, ℕ, List, [], ◌++◌, refl, sym, subst, arith}
use Rattle.source_meaning.specs.Shapes.{Reach}
use Rattle.source_meaning.specs.Shapes.{Owner, Shape, IntShape, UnsignedShape, CharShape, VoidShape, ThinShape, FatShape, HandleShape, KeyShape, StructShape}
use Rattle.source_meaning.specs.Shapes.{UnionShape, ArrayShape}
use Rattle.source_meaning.specs.Memory.{AsInt, AsUnsigned}
use Rattle.source_meaning.specs.Steps.{◌>>=◌}
use Rattle.source_meaning.specs.Conversions.{one, converted}
use Rattle.source_meaning.specs.Places.{Sense}
use Rattle.core_meaning.specs.Core.{Statement}
use Rattle.core_meaning.specs.Meaning as meaning
use Rattle.source_lowering.specs.Lowered.{put, to_thin_code, conversion_code}
use Rattle.source_lowering.specs.Simulation.{Point, SameAt, GivesAs}
use Rattle.source_lowering.proofs.Runs.{stuck_same, put_all}
use Rattle.source_lowering.proofs.values.Integers.{IsTaken}
use Rattle.source_lowering.proofs.expressions.Variables.{Agrees}
use Rattle.source_lowering.proofs.values.ThinConversions.{stuck_thin, thin_converts, stuck_handle, stuck_key, handle_converts, key_converts}
use Rattle.source_lowering.proofs.values.FatConversions.{stuck_fat, to_thin, fat_stays}
use Rattle.source_lowering.proofs.values.Widening.{widened}
use Rattle.source_lowering.proofs.values.NumberConversions.{ConvertsAs, stuck_converts, kept_converts, low_converts, char_converts, void_converts}
use Rattle.source_lowering.proofs.values.Values.{over}

int_void : IntShape ≡ VoidShape → ⊥
int_void e = cc e

unsigned_void : UnsignedShape ≡ VoidShape → ⊥
unsigned_void e = cc e

-- a fat pointer becomes a thin one
thinned : (p : Point) (n d : ℕ) (b : Reach) (o : Owner) (to from : Shape)
    → ConvertsAs p n d (ThinShape b o to) (FatShape from) (to_thin_code p.world b to d)
thinned p n d b o to from = to_thin p n d b o to from

pub conversion_same : (p : Point) (n d : ℕ) (to from : Shape) → IsTaken to → IsTaken from → ConvertsAs p n d to from (conversion_code p.world to from d)
conversion_same p n d IntShape IntShape f g = kept_converts p n d AsInt IntShape g refl (λ u word s m. refl) (λ s m k e. absurd (int_void e))
conversion_same p n d IntShape UnsignedShape f g = kept_converts p n d AsInt UnsignedShape g refl (λ u word s m. refl)
    (λ s m k e. stuck_same p.world p.program n k)
conversion_same p n d IntShape CharShape f g = kept_converts p n d AsInt CharShape g refl (λ u word s m. refl) (λ s m k e. stuck_same p.world p.program n k)
conversion_same p n d IntShape VoidShape f g = kept_converts p n d AsInt VoidShape g refl (λ u word s m. refl) (λ s m k e. stuck_same p.world p.program n k)
conversion_same p n d IntShape (ThinShape b o from) f g =
    stuck_thin p n d IntShape b o from (conversion_code p.world IntShape (ThinShape b o from) d) (λ q s m k. stuck_same p.world p.program n k)
conversion_same p n d UnsignedShape IntShape f g = kept_converts p n d AsUnsigned IntShape g refl (λ u word s m. refl)
    (λ s m k e. stuck_same p.world p.program n k)
conversion_same p n d UnsignedShape UnsignedShape f g = kept_converts p n d AsUnsigned UnsignedShape g refl (λ u word s m. refl)
    (λ s m k e. absurd (unsigned_void e))
conversion_same p n d UnsignedShape CharShape f g = kept_converts p n d AsUnsigned CharShape g refl (λ u word s m. refl)
    (λ s m k e. stuck_same p.world p.program n k)
conversion_same p n d UnsignedShape VoidShape f g = kept_converts p n d AsUnsigned VoidShape g refl (λ u word s m. refl)
    (λ s m k e. stuck_same p.world p.program n k)
conversion_same p n d UnsignedShape (ThinShape b o from) f g =
    stuck_thin p n d UnsignedShape b o from (conversion_code p.world UnsignedShape (ThinShape b o from) d) (λ q s m k. stuck_same p.world p.program n k)
conversion_same p n d CharShape IntShape f g = low_converts p n d IntShape g (λ u word s m. refl) (λ s m k e. stuck_same p.world p.program n k)
conversion_same p n d CharShape UnsignedShape f g = low_converts p n d UnsignedShape g (λ u word s m. refl) (λ s m k e. stuck_same p.world p.program n k)
conversion_same p n d CharShape CharShape f g = char_converts p n d
conversion_same p n d CharShape VoidShape f g = low_converts p n d VoidShape g (λ u word s m. refl) (λ s m k e. stuck_same p.world p.program n k)
conversion_same p n d CharShape (ThinShape b o from) f g =
    stuck_thin p n d CharShape b o from (conversion_code p.world CharShape (ThinShape b o from) d) (λ q s m k. stuck_same p.world p.program n k)
conversion_same p n d VoidShape IntShape f g = stuck_converts p n d VoidShape IntShape [] g (λ t word s m k e. stuck_same p.world p.program n k)
    (λ s m k e. stuck_same p.world p.program n k)
conversion_same p n d VoidShape UnsignedShape f g = stuck_converts p n d VoidShape UnsignedShape [] g (λ t word s m k e. stuck_same p.world p.program n k)
    (λ s m k e. stuck_same p.world p.program n k)
conversion_same p n d VoidShape CharShape f g = stuck_converts p n d VoidShape CharShape [] g (λ t word s m k e. stuck_same p.world p.program n k)
    (λ s m k e. stuck_same p.world p.program n k)
conversion_same p n d VoidShape VoidShape f g = void_converts p n d
conversion_same p n d VoidShape (ThinShape b o from) f g =
    stuck_thin p n d VoidShape b o from (conversion_code p.world VoidShape (ThinShape b o from) d) (λ q s m k. stuck_same p.world p.program n k)
conversion_same p n d (ThinShape a o to) IntShape f g =
    stuck_converts p n d (ThinShape a o to) IntShape (conversion_code p.world (ThinShape a o to) IntShape d) g
    (λ t word s m k e. stuck_same p.world p.program n k)
    (λ s m k e. stuck_same p.world p.program n k)
conversion_same p n d (ThinShape a o to) UnsignedShape f g =
    stuck_converts p n d (ThinShape a o to) UnsignedShape (conversion_code p.world (ThinShape a o to) UnsignedShape d) g
    (λ t word s m k e. stuck_same p.world p.program n k)
    (λ s m k e. stuck_same p.world p.program n k)
conversion_same p n d (ThinShape a o to) CharShape f g =
    stuck_converts p n d (ThinShape a o to) CharShape (conversion_code p.world (ThinShape a o to) CharShape d) g
    (λ t word s m k e. stuck_same p.world p.program n k)
    (λ s m k e. stuck_same p.world p.program n k)
conversion_same p n d (ThinShape a o to) VoidShape f g =
    stuck_converts p n d (ThinShape a o to) VoidShape (conversion_code p.world (ThinShape a o to) VoidShape d) g
    (λ t word s m k e. stuck_same p.world p.program n k)
    (λ s m k e. stuck_same p.world p.program n k)
conversion_same p n d (ThinShape a o to) (ThinShape b q from) f g = thin_converts p n d a b o q to from
conversion_same p n d IntShape (FatShape from) f g =
    stuck_fat p n d IntShape from (conversion_code p.world IntShape (FatShape from) d) (λ q s m k. stuck_same p.world p.program n k)
conversion_same p n d UnsignedShape (FatShape from) f g =
    stuck_fat p n d UnsignedShape from (conversion_code p.world UnsignedShape (FatShape from) d) (λ q s m k. stuck_same p.world p.program n k)
conversion_same p n d CharShape (FatShape from) f g =
    stuck_fat p n d CharShape from (conversion_code p.world CharShape (FatShape from) d) (λ q s m k. stuck_same p.world p.program n k)
conversion_same p n d VoidShape (FatShape from) f g =
    stuck_fat p n d VoidShape from (conversion_code p.world VoidShape (FatShape from) d) (λ q s m k. stuck_same p.world p.program n k)
conversion_same p n d HandleShape (FatShape from) f g =
    stuck_fat p n d HandleShape from (conversion_code p.world HandleShape (FatShape from) d) (λ q s m k. stuck_same p.world p.program n k)
conversion_same p n d (ThinShape a o to) (FatShape from) f g = thinned p n d a o to from
conversion_same p n d (FatShape to) IntShape f g =
    stuck_converts p n d (FatShape to) IntShape [] g (λ t word s m k e. stuck_same p.world p.program n k) (λ s m k e. stuck_same p.world p.program n k)
conversion_same p n d (FatShape to) UnsignedShape f g =
    stuck_converts p n d (FatShape to) UnsignedShape [] g (λ t word s m k e. stuck_same p.world p.program n k) (λ s m k e. stuck_same p.world p.program n k)
conversion_same p n d (FatShape to) CharShape f g =
    stuck_converts p n d (FatShape to) CharShape [] g (λ t word s m k e. stuck_same p.world p.program n k) (λ s m k e. stuck_same p.world p.program n k)
conversion_same p n d (FatShape to) VoidShape f g =
    stuck_converts p n d (FatShape to) VoidShape [] g (λ t word s m k e. stuck_same p.world p.program n k) (λ s m k e. stuck_same p.world p.program n k)
conversion_same p n d (FatShape to) HandleShape f g = stuck_handle p n d (FatShape to) [] (λ b s m k. stuck_same p.world p.program n k)
conversion_same p n d (FatShape to) (ThinShape b q from) f g = widened p n d to b q from
conversion_same p n d (FatShape to) (FatShape from) f g = fat_stays p n d to from
conversion_same p n d HandleShape IntShape f g =
    stuck_converts p n d HandleShape IntShape [] g (λ t word s m k e. stuck_same p.world p.program n k) (λ s m k e. stuck_same p.world p.program n k)
conversion_same p n d HandleShape UnsignedShape f g =
    stuck_converts p n d HandleShape UnsignedShape [] g (λ t word s m k e. stuck_same p.world p.program n k) (λ s m k e. stuck_same p.world p.program n k)
conversion_same p n d HandleShape CharShape f g =
    stuck_converts p n d HandleShape CharShape [] g (λ t word s m k e. stuck_same p.world p.program n k) (λ s m k e. stuck_same p.world p.program n k)
conversion_same p n d HandleShape VoidShape f g =
    stuck_converts p n d HandleShape VoidShape [] g (λ t word s m k e. stuck_same p.world p.program n k) (λ s m k e. stuck_same p.world p.program n k)
conversion_same p n d HandleShape (ThinShape b o from) f g = stuck_thin p n d HandleShape b o from [] (λ q s m k. stuck_same p.world p.program n k)
conversion_same p n d HandleShape HandleShape f g = handle_converts p n d
conversion_same p n d IntShape HandleShape f g =
    stuck_handle p n d IntShape (conversion_code p.world IntShape HandleShape d) (λ b s m k. stuck_same p.world p.program n k)
conversion_same p n d UnsignedShape HandleShape f g =
    stuck_handle p n d UnsignedShape (conversion_code p.world UnsignedShape HandleShape d) (λ b s m k. stuck_same p.world p.program n k)
conversion_same p n d CharShape HandleShape f g =
    stuck_handle p n d CharShape (conversion_code p.world CharShape HandleShape d) (λ b s m k. stuck_same p.world p.program n k)
conversion_same p n d VoidShape HandleShape f g =
    stuck_handle p n d VoidShape (conversion_code p.world VoidShape HandleShape d) (λ b s m k. stuck_same p.world p.program n k)
conversion_same p n d (ThinShape a o to) HandleShape f g =
    stuck_handle p n d (ThinShape a o to) (conversion_code p.world (ThinShape a o to) HandleShape d) (λ b s m k. stuck_same p.world p.program n k)
conversion_same p n d KeyShape (FatShape from) f g =
    stuck_fat p n d KeyShape from (conversion_code p.world KeyShape (FatShape from) d) (λ q s m k. stuck_same p.world p.program n k)
conversion_same p n d (FatShape to) KeyShape f g = stuck_key p n d (FatShape to) [] (λ b s m k. stuck_same p.world p.program n k)
conversion_same p n d KeyShape IntShape f g =
    stuck_converts p n d KeyShape IntShape [] g (λ t word s m k e. stuck_same p.world p.program n k) (λ s m k e. stuck_same p.world p.program n k)
conversion_same p n d KeyShape UnsignedShape f g =
    stuck_converts p n d KeyShape UnsignedShape [] g (λ t word s m k e. stuck_same p.world p.program n k) (λ s m k e. stuck_same p.world p.program n k)
conversion_same p n d KeyShape CharShape f g =
    stuck_converts p n d KeyShape CharShape [] g (λ t word s m k e. stuck_same p.world p.program n k) (λ s m k e. stuck_same p.world p.program n k)
conversion_same p n d KeyShape VoidShape f g =
    stuck_converts p n d KeyShape VoidShape [] g (λ t word s m k e. stuck_same p.world p.program n k) (λ s m k e. stuck_same p.world p.program n k)
conversion_same p n d KeyShape (ThinShape b o from) f g = stuck_thin p n d KeyShape b o from [] (λ q s m k. stuck_same p.world p.program n k)
conversion_same p n d KeyShape KeyShape f g = key_converts p n d
conversion_same p n d KeyShape HandleShape f g = stuck_handle p n d KeyShape [] (λ b s m k. stuck_same p.world p.program n k)
conversion_same p n d HandleShape KeyShape f g = stuck_key p n d HandleShape [] (λ b s m k. stuck_same p.world p.program n k)
conversion_same p n d IntShape KeyShape f g =
    stuck_key p n d IntShape (conversion_code p.world IntShape KeyShape d) (λ b s m k. stuck_same p.world p.program n k)
conversion_same p n d UnsignedShape KeyShape f g =
    stuck_key p n d UnsignedShape (conversion_code p.world UnsignedShape KeyShape d) (λ b s m k. stuck_same p.world p.program n k)
conversion_same p n d CharShape KeyShape f g =
    stuck_key p n d CharShape (conversion_code p.world CharShape KeyShape d) (λ b s m k. stuck_same p.world p.program n k)
conversion_same p n d VoidShape KeyShape f g =
    stuck_key p n d VoidShape (conversion_code p.world VoidShape KeyShape d) (λ b s m k. stuck_same p.world p.program n k)
conversion_same p n d (ThinShape a o to) KeyShape f g =
    stuck_key p n d (ThinShape a o to) (conversion_code p.world (ThinShape a o to) KeyShape d) (λ b s m k. stuck_same p.world p.program n k)
conversion_same p n d (StructShape tag) from f g = absurd f
conversion_same p n d (UnionShape tag) from f g = absurd f
conversion_same p n d (ArrayShape count of) from f g = absurd f
conversion_same p n d to _ f g = absurd g

-- a value and its conversion
pub converted_gives : (p : Point) (n d : ℕ) (to : Shape) (e : Sense) (from : Shape) (code : List Statement) → IsTaken to → Agrees p n d e from code
    → GivesAs p n d to (e.value >>= converted p.world to e.shape) (code ++ conversion_code p.world to from d)
converted_gives p n d to e from code taken one = record {
  same = λ m c s rest next fits goes.
      subst (λ z. SameAt p n (e.value (λ vs. converted p.world to e.shape vs s) m) (meaning.statements z next c))
      (sym (put_all code (conversion_code p.world to from d) rest))
      (one.values.same m c (λ vs. converted p.world to e.shape vs s) (put (conversion_code p.world to from d) rest) next fits (record {
        above = over goes.above (omega arith);
        go = λ m1 c1 vs fits1 later1 kept1 given1.
            subst (λ z. SameAt p n (converted p.world to z vs s m1) (meaning.statements (put (conversion_code p.world to from d) rest) next c1))
            (sym one.shape_is)
            ((conversion_same p n d to from taken one.taken).same m c m1 c1 vs s rest next fits1 later1 kept1 given1 goes);
      }));
}
