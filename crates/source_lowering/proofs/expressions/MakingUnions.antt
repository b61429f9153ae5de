-- A tagged union is made of one of its members: the value is converted, and goes behind its tag in the temporary object.
use Rattle.std.proofs.Common.{◌≡◌, ℕ, suc, ◌+◌, ◌^◌, ◌<◌, List, [], ◌∷◌, ◌++◌, length, Bool, Some, refl, sym, ap, ◌∙◌, subst, arith}
use Rattle.std.specs.Prelude.{slice_get, unwrap_or}
use Rattle.source_meaning.specs.Shapes.{Shape, UnionShape, Part, part_position, part_shape, part_shapes, parts_of}
use Rattle.source_meaning.specs.Memory as source
use Rattle.source_meaning.specs.Memory.{Scalar, Tagged}
use Rattle.source_meaning.specs.Steps as steps
use Rattle.source_meaning.specs.Steps.{need}
use Rattle.source_meaning.specs.Conversions as conversions
use Rattle.source_meaning.specs.Conversions.{converted}
use Rattle.source_meaning.specs.Places.{Sense}
use Rattle.source_meaning.specs.Calls.{union_made}
use Rattle.core_meaning.specs.Memory as core
use Rattle.core_meaning.specs.Memory.{Content, Pointer, Word}
use Rattle.core_meaning.specs.Core.{Statement, Do, OwnAddress, Statements}
use Rattle.core_meaning.specs.Steps.{Config, with_temp, with_memory}
use Rattle.core_meaning.specs.Meaning as meaning
use Rattle.source_lowering.specs.Layouts.{Piece, piece, has_fat}
use Rattle.source_lowering.specs.Members.{words_in, tag_store, held_stores}
use Rattle.source_lowering.specs.Lowered.{put, conversion_code, member_number, union_code}
use Rattle.source_lowering.specs.Lowerable.{IsObject, IsMember, IsValueShape, AreUnions}
use Rattle.source_lowering.specs.Simulation.{at, AUnion, Grown, nothing, Point, SameState, SameAt, Next, AreKept, AValue, around, before_value, contents_in}
use Rattle.source_lowering.specs.Simulation.{keeping}
use Rattle.source_lowering.proofs.UnionSizes.{union_of}
use Rattle.source_lowering.proofs.expressions.UnionMembers.{IsFound, part_found, value_at, union_few}
use Rattle.source_lowering.proofs.memory.Keeping.{member_later, later_on, later_less, free_nothing, fits_on}
use Rattle.source_lowering.proofs.Runs.{put_all}
use Rattle.source_lowering.proofs.values.Integers.{value_taken}
use Rattle.source_lowering.proofs.values.AnyValues.{value_given}
use Rattle.source_lowering.proofs.values.Conversions.{converted_gives}
use Rattle.source_lowering.proofs.memory.CellParts.{PartsAre, FitFirst, with_values, all_other, none_written, first_hold, later_put}
use Rattle.source_lowering.proofs.memory.Members.{words_behind, tag_first}
use Rattle.source_lowering.proofs.memory.UnionCells.{shown_member, member_fits, fat_of, union_parts_there}
use Rattle.source_lowering.proofs.memory.UnionCode.{union_stores}
use Rattle.source_lowering.proofs.values.Values.{put_temp, kept_temp, temp_fits, over, put_three}
use Rattle.source_lowering.proofs.expressions.Variables.{Agrees}
use Rattle.source_lowering.proofs.expressions.Wholes.{own_spot, IsWhole, WholeGoesOn, fits_keeping, fits_kept, before_less, own_free, agree_parts, value_made}
use Rattle.source_lowering.proofs.expressions.WholeForms.{IsWholeAs}
use Rattle.source_lowering.proofs.expressions.MakingMembers.{spots_apart}

-- the number of a member
pub position_number : (ps : List Part) (f : List ℕ) (number : ℕ) → part_position ps f ≡ Some number → member_number ps f ≡ number
position_number ps f number e = ap (λ z. unwrap_or z 0) e

-- ---- a union is made

made_union : (p : Point) (n d value : ℕ) (tag f : List ℕ) (e : Sense) (from : Shape) (code : List Statement) → AreUnions p.world.unions
    → IsObject p.world.unions p.world.structs (UnionShape tag) → slice_get p.owned value ≡ Some (UnionShape tag) → IsMember (parts_of p.world.unions tag) f
    → Agrees (keeping p (suc value)) n (d + 1) e from code
    → IsWhole p n d value (union_made p.world tag f e) (Do (OwnAddress d value) ∷ (code ++
    union_code p.world (part_shape (parts_of p.world.unions tag) f) from (member_number (parts_of p.world.unions tag) f) d))
made_union p n d value tag f e from code unions object numbered member one = record {
  shape = UnionShape tag;
  shape_is = refl;
  object = object;
  numbered = numbered;
  same = λ m c s rest next fits goes.
      let c1 : Config = with_temp d (Pointer spot 0) c in
      let fits1 = temp_fits p m c d (Pointer spot 0) fits goes.above in
      subst (λ z. SameAt p n (e.value (λ vs. converted p.world shape e.shape vs (chosen s)) m)
      (meaning.statements (put (code ++ union_code p.world shape from number d) rest) next (with_temp d (Pointer (own_spot z value 0) 0) c))) (sym fits.own)
      (subst (λ z. SameAt p n (e.value (λ vs. converted p.world shape e.shape vs (chosen s)) m) (meaning.statements z next c1))
      (sym (put_three code (conversion_code p.world shape from (d + 1)) stores rest ∙
      sym (put_all code (conversion_code p.world shape from (d + 1)) (put stores rest))))
      ((converted_gives (keeping p (suc value)) n (d + 1) shape e from code (value_taken shape is_value) one).same m c1 (chosen s) (put stores rest) next
      (fits_keeping p (suc value) m c1 fits1) (record {
        above = over goes.above (omega arith);
        go = λ m2 c2 vs fits2 later2 kept2 given2.
            stored m c s rest next goes m2 c2 vs (fits_kept p (suc value) m2 c2 fits2)
            (later_less (before_value p (suc value)) (before_value p value) m m2 c.memory c2.memory (before_less p value (suc value) (omega arith)) later2)
            (λ k h. kept2 k (omega (arith, h)) ∙ kept_temp d d (Pointer spot 0) c c (omega arith) (λ j g. refl) k h)
            (kept2 d (omega arith) ∙ put_temp d (Pointer spot 0) c)
            (value_given p.world m2 c2.memory shape vs (contents_in (d + 1) shape c2.temps) is_value given2);
      })));
}
  where
    parts : List Part
    parts = parts_of p.world.unions tag

    shape : Shape
    shape = part_shape parts f

    number : ℕ
    number = member_number parts f

    spot : core.Spot
    spot = own_spot p.own value 0

    fat : Bool
    fat = has_fat parts

    qs : List Piece
    qs = piece 0 4 core.Blank ∷ words_behind fat

    stores : List Statement
    stores = tag_store d (d + 1 + words_in shape) number ++ held_stores shape d (d + 1)

    found : IsFound parts f member.number
    found = part_found parts f member.number member.is

    known : slice_get (part_shapes parts) number ≡ Some shape
    known = subst (λ z. slice_get (part_shapes parts) z ≡ Some shape) (sym (position_number parts f member.number member.is))
        found.shape

    place : part_position parts f ≡ Some number
    place = member.is ∙ ap (λ z. Some z) (sym (position_number parts f member.number member.is))

    is_value : IsValueShape shape
    is_value = value_at (part_shapes parts) number shape (union_of p.world.unions tag unions object).members known

    small : number < 2 ^ 32
    small =
        let less : number < length parts = subst (λ z. z < length parts) (sym (position_number parts f member.number member.is)) found.below in
        let few = union_few p.world.unions tag unions in
        omega (arith, less, few)

    chosen : (List Scalar → source.Memory → steps.Step) → List Scalar → source.Memory → steps.Step
    chosen s vs = conversions.one vs (λ v. need (part_position parts f) (λ k. s (Tagged k v ∷ [])))

    stored : (m : source.Memory) (c : Config) (s : List Scalar → source.Memory → steps.Step) (rest : Statements) (next : Next)
        → WholeGoesOn p n d value m c (UnionShape tag) s (meaning.statements rest next) → (m1 : source.Memory) (c1 : Config) (vs : List Scalar)
        → SameState p m1 c1 → Grown (before_value p value) m c.memory m1 c1.memory → AreKept d c c1 → c1.temps d ≡ Pointer spot 0
        → AValue p.world m1 c1.memory shape vs (contents_in (d + 1) shape c1.temps) → SameAt p n (chosen s vs m1) (meaning.statements (put stores rest) next c1)
    stored m c s rest next goes m1 c1 vs fits1 later1 kept1 temp v =
        let xs : List Content = contents_in (d + 1) shape c1.temps in
        let ys : List Content = Word number ∷ xs in
        let t : ℕ = d + 1 + words_in shape in
        let have = union_parts_there p.world c1.memory spot 0 tag (value_made p m1 c1 value (UnionShape tag) object fits1 numbered) in
        let are : PartsAre c1.memory spot 0 0 qs have.contents = subst (λ z. PartsAre c1.memory spot 0 0 z have.contents) (tag_first fat) have.are in
        let shown = shown_member p.world m1 c1.memory shape v.value xs is_value v.shown in
        let fit : FitFirst (words_behind fat) xs = member_fits p.world m1 c1.memory fat shape v.value xs (fat_of parts number shape known) shown in
        let middle : Config = with_temp t (Word number) c1 in
        let c2 : Config = with_memory (with_values c1.memory spot 0 qs ys) middle in
        let puts = later_put (before_value p value) m1 c1.memory spot 0 qs have.contents ys (own_free p value value 0 (omega arith)) are in
        let around_puts = later_put (around p (suc p.frame)) m1 c1.memory spot 0 qs have.contents ys (own_free p 0 value 0 (omega arith)) are in
        let still = later_put nothing m1 c1.memory spot 0 qs have.contents ys (free_nothing spot) are in
        let agree = agree_parts p.world m1 c1.memory c2.memory.parts fits1.agree still
        (λ u j. all_other c1.memory.parts spot 0 0 qs ys (at u) j (spots_apart u p.own value 0))
        (λ u j none. none_written c1.memory spot 0 0 qs have.contents ys are u j none) in
        let holds : AUnion p.world m1 c2.memory tag (Tagged number v.value) ys = record {
          number = number;
          shape = shape;
          held = v.value;
          words = xs;
          value = refl;
          known = known;
          member = member_later nothing p.world m1 m1 c1.memory c2.memory shape v.value xs still shown;
          shown = refl;
        } in
        subst (λ z. SameAt p n (chosen s z m1) (meaning.statements (put stores rest) next c1)) (sym v.alone)
        (subst (λ z. SameAt p n (need z (λ k. s (Tagged k v.value ∷ [])) m1) (meaning.statements (put stores rest) next c1)) (sym place)
        (subst (λ z. SameAt p n (s (Tagged number v.value ∷ []) m1) z)
        (sym (union_stores shape is_value c1 d number 0 spot fat have.contents rest next small temp fits1.stands are fit))
        (goes.go m1 c2 (Tagged number v.value ∷ [])
        (fits_on p m1 m1 middle c2 (temp_fits p m1 c1 t (Word number) fits1 (over goes.above (omega arith))) agree around_puts refl (λ k less. refl))
        (later_on (before_value p value) m m1 m1 c.memory c1.memory c2.memory later1 puts)
        (kept_temp d t (Word number) c c1 (omega arith) kept1)
        (kept_temp (d + 1) t (Word number) c1 c1 (omega arith) (λ k less. refl) d (omega arith) ∙ temp) (
          record {
            contents = ys;
            fit = subst (λ z. FitFirst z ys) (sym (tag_first fat)) (refl, fit);
            held = first_hold c1.memory spot 0 0 qs ys (refl, fit);
            shown = holds;
          },
          tt,
        ))))

-- which has its static shape
pub union_whole : (p : Point) (n d value : ℕ) (tag f : List ℕ) (e : Sense) (from : Shape) (code : List Statement) → AreUnions p.world.unions
    → IsObject p.world.unions p.world.structs (UnionShape tag) → slice_get p.owned value ≡ Some (UnionShape tag) → IsMember (parts_of p.world.unions tag) f
    → Agrees (keeping p (suc value)) n (d + 1) e from code
    → IsWholeAs p n d value (union_made p.world tag f e) (UnionShape tag) (Do (OwnAddress d value) ∷ (code ++
    union_code p.world (part_shape (parts_of p.world.unions tag) f) from (member_number (parts_of p.world.unions tag) f) d))
union_whole p n d value tag f e from code unions object numbered member one =
    record { whole = made_union p n d value tag f e from code unions object numbered member one; shape_is = refl }
