-- Forms of expressions that are structs or unions.
use Rattle.std.proofs.Common.{◌≡◌, ℕ, suc, ◌+◌, ◌<◌, List, ◌++◌, Bool, true, false, Some, refl, sym, ap, ◌∙◌}
use Rattle.std.specs.Prelude.{slice_get, bytes_eq, codes, if◌then◌else◌}
use Rattle.std.proofs.lemmas.Bool.{false≢true}
use Rattle.source_meaning.specs.Shapes.{
  Shape,
  IntShape,
  UnsignedShape,
  CharShape,
  VoidShape,
  ThinShape,
  FatShape,
  HandleShape,
  KeyShape,
  StructShape,
  UnionShape,
  ArrayShape,
  has_tag,
}
use Rattle.source_meaning.specs.Steps.{◌>>=◌}
use Rattle.source_meaning.specs.Conversions.{converted}
use Rattle.source_meaning.specs.Places.{Sense}
use Rattle.source_meaning.specs.Calls.{struct_made, call_sense}
use Rattle.core_meaning.specs.Core.{Statement}
use Rattle.source_lowering.specs.Lowered.{call_shape, values_by}
use Rattle.source_lowering.specs.Lowerable.{IsObject, AreStructs, IsWholeShape, TakesMember}
use Rattle.source_lowering.specs.Whole.{makes_struct, copied_code, member_code}
use Rattle.source_lowering.specs.Simulation.{Point, keeping}
use Rattle.source_lowering.proofs.expressions.Variables.{Agrees}
use Rattle.source_lowering.proofs.expressions.Places.{IsPlaced}
use Rattle.source_lowering.proofs.expressions.Numbered.{AreNumbered}
use Rattle.source_lowering.proofs.expressions.Wholes.{IsWhole, place_whole}
use Rattle.source_lowering.proofs.expressions.MakingMembers.{MemberGoes, value_member, whole_member}

-- ---- a place

-- a struct with a static shape
pub record IsWholeAs (p : Point) (n d value : ℕ) (e : Sense) (shape : Shape) (code : List Statement) : Type 0 where
  pub whole : IsWhole p n d value e code
  pub shape_is : e.shape ≡ shape

pub whole_place : (p : Point) (n d value : ℕ) (e : Sense) (from : Shape) (code : List Statement) → AreStructs p.world.unions p.world.structs
    → IsWholeShape p.world.unions p.world.structs from → slice_get p.owned value ≡ Some from → IsPlaced (keeping p value) n d e from code
    → IsWholeAs p n d value e from (code ++ copied_code p.world from d value)
whole_place p n d value e from code structs is numbered one =
    record { whole = place_whole p n d value e from code structs is numbered one; shape_is = one.shape_is }

-- ---- a member

-- a struct's value is a temporary object, and a word is evaluated while the value around it stays as it is
pub member_same : (p : Point) (n d value cells byte own : ℕ) (s : Shape) (e : Sense) (from : Shape) (wholes words : List Shape) (whole word : List Statement)
    (takes_whole takes : Type 0) → AreStructs p.world.unions p.world.structs → IsObject p.world.unions p.world.structs s → value < own
    → TakesMember s takes_whole takes → AreNumbered p.owned own (values_by s wholes words)
    → (takes_whole → AreNumbered p.owned own wholes → IsWhole p n (d + 1) own e whole)
    → (takes → AreNumbered p.owned own words → Agrees (keeping p (suc value)) n (d + 1) e from word)
    → MemberGoes p n d value cells byte s (e.value >>= converted p.world s e.shape) (member_code p.world s from d cells byte whole word)
member_same p n d value cells byte own s e from wholes words whole word takes_whole takes structs object less h numbered structs_as words_as =
    by s object h numbered
  where
    goal : Shape → Type 0
    goal z = MemberGoes p n d value cells byte z (e.value >>= converted p.world z e.shape) (member_code p.world z from d cells byte whole word)

    by : (z : Shape) → IsObject p.world.unions p.world.structs z → TakesMember z takes_whole takes → AreNumbered p.owned own (values_by z wholes words) → goal z
    by (StructShape tag) o t nums = whole_member p n d value cells byte own (StructShape tag) e whole structs o less (structs_as t nums)
    by IntShape o t nums = value_member p n d value cells byte IntShape e from word tt (words_as t nums)
    by UnsignedShape o t nums = value_member p n d value cells byte UnsignedShape e from word tt (words_as t nums)
    by CharShape o t nums = value_member p n d value cells byte CharShape e from word tt (words_as t nums)
    by (ThinShape b owner to) o t nums = value_member p n d value cells byte (ThinShape b owner to) e from word o (words_as t nums)
    by HandleShape o t nums = value_member p n d value cells byte HandleShape e from word tt (words_as t nums)
    by VoidShape o t nums = absurd o
    by (FatShape to) o t nums = value_member p n d value cells byte (FatShape to) e from word o (words_as t nums)
    by KeyShape o t nums = value_member p n d value cells byte KeyShape e from word tt (words_as t nums)
    by (UnionShape tag) o t nums = whole_member p n d value cells byte own (UnionShape tag) e whole structs o less (structs_as t nums)
    by (ArrayShape count of) o t nums = absurd o

-- what has a struct's name is no other call
pub call_whole : (p : Point) (n d value : ℕ) (name : List ℕ) (es : List Sense) (code : List Statement) → makes_struct p.world name ≡ true
    → (has_tag p.world.structs name ≡ true → IsWhole p n d value (struct_made p.world name es) code)
    → IsWholeAs p n d value (call_sense p.world name es) (call_shape p.world name) code
call_whole p n d value name es code makes one =
    by (bytes_eq name (codes "getchar")) (bytes_eq name (codes "putchar")) (has_tag p.world.structs name) refl refl refl
  where
    is : (reads writes tagged : Bool) → bytes_eq name (codes "getchar") ≡ reads → bytes_eq name (codes "putchar") ≡ writes
        → has_tag p.world.structs name ≡ tagged
        → (if reads then false else (if writes then false else tagged)) ≡ true
    is reads writes tagged e f g =
        sym (ap (λ b. if b then false else (if bytes_eq name (codes "putchar") then false else has_tag p.world.structs name)) e ∙
        ap (λ b. if reads then false else (if b then false else has_tag p.world.structs name)) f ∙
        ap (λ b. if reads then false else (if writes then false else b)) g) ∙ makes

    by : (reads writes tagged : Bool) → bytes_eq name (codes "getchar") ≡ reads → bytes_eq name (codes "putchar") ≡ writes
        → has_tag p.world.structs name ≡ tagged → IsWholeAs p n d value (call_sense p.world name es) (call_shape p.world name) code
    by true writes tagged e f g = absurd (false≢true (is true writes tagged e f g))
    by false true tagged e f g = absurd (false≢true (is false true tagged e f g))
    by false false false e f g = absurd (false≢true (is false false false e f g))
    by false false true e f g = rw (e, f, g) (record { whole = one g; shape_is = refl })
