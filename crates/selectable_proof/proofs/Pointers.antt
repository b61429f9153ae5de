-- The code of values of one word and of three, of fat pointers, and of members of structs and unions and of elements names temporaries alone; an element has no
-- more bytes than a word says.
use Rattle.std.proofs.Common.{Bool, true, false, ℕ, zero, suc, ◌+◌, List, [], ◌∷◌, ◌++◌}
use Rattle.std.specs.Prelude.{nat_eq, if◌then◌else◌}
use Rattle.cyc_words.specs.declared.faults.Kind.TheVariants.{NullException, ArrayBounds}
use Rattle.source_meaning.specs.Shapes.{
  Reach,
  MayBeNull,
  NeverNull,
  Shape,
  IntShape,
  UnsignedShape,
  CharShape,
  VoidShape,
  ThinShape,
  FatShape,
  HandleShape,
  KeyShape,
  StructShape,
  UnionShape,
  ArrayShape,
  pointee,
}
use Rattle.source_meaning.specs.Steps.{World}
use Rattle.core_meaning.specs.Core.{Statement, Statements, If}
use Rattle.source_lowering.specs.Lowered.{
  loads_code,
  stores_code,
  held_loads,
  held_stores,
  check_code,
  reach_code,
  member_shape,
  offset_code,
  Left,
  member_at,
  member_behind,
  element_at,
  pointer_to,
  store_to,
}
use Rattle.source_lowering.specs.Members.{all_of, bound_code, bounds_code, raised, reached_code, element_code, subscript_code}
use Rattle.source_lowering.specs.Operators.{enough_code, one_code, several_code}
use Rattle.source_lowering.specs.Lowerable.{IsTarget, IsObject}
use Rattle.source_lowering.proofs.values.Integers.{object_target}
use Rattle.source_lowering.proofs.expressions.Names.{IsPlainWorld}
use Rattle.selectable_proof.specs.Naming.{AreNaming, CodeNames}
use Rattle.selectable_proof.proofs.Naming.{both_name}
use Rattle.selectable_proof.proofs.StaticShapes.{target_small}

module _ (blocks : List ℕ) (own n : ℕ) where
  pub loads_names : (s : Shape) (d cells bytes : ℕ) → CodeNames blocks own n (loads_code s d cells bytes)
  loads_names (FatShape to) d cells bytes = (tt, (tt, (tt, tt)))
  loads_names _ d cells bytes = (tt, tt)

  pub stores_names : (s : Shape) (p d cells bytes : ℕ) → CodeNames blocks own n (stores_code s p d cells bytes)
  stores_names (FatShape to) p d cells bytes = (tt, (tt, (tt, tt)))
  stores_names _ p d cells bytes = (tt, tt)

  -- the member of a tagged union
  pub held_names : (s : Shape) (d : ℕ) → CodeNames blocks own n (held_loads s d)
  held_names (FatShape to) d = (tt, (tt, (tt, tt)))
  held_names _ d = (tt, tt)

  pub given_names : (s : Shape) (p d : ℕ) → CodeNames blocks own n (held_stores s p d)
  given_names (FatShape to) p d = (tt, (tt, (tt, tt)))
  given_names _ p d = (tt, tt)

  pub check_names : (s : Shape) (d : ℕ) → CodeNames blocks own n (check_code s d)
  check_names (ThinShape (MayBeNull count) owner to) d = ((tt, (tt, tt)), tt)
  check_names (ThinShape (NeverNull count) owner to) d = tt
  check_names IntShape d = tt
  check_names UnsignedShape d = tt
  check_names CharShape d = tt
  check_names VoidShape d = tt
  check_names (FatShape to) d = tt
  check_names HandleShape d = tt
  check_names KeyShape d = tt
  check_names (StructShape tag) d = tt
  check_names (UnionShape tag) d = tt
  check_names (ArrayShape count of) d = tt

  pub bounds_names : (d count : ℕ) → CodeNames blocks own n (bounds_code d count)
  bounds_names d count = (tt, (tt, tt))

  offset_names : (d cells bytes : ℕ) → CodeNames blocks own n (offset_code d cells bytes)
  offset_names d zero zero = tt
  offset_names d zero (suc bytes) = (tt, tt)
  offset_names d (suc cells) bytes = (tt, tt)

  -- ---- elements

  module _ (w : World) (plain : IsPlainWorld w) where
    pub reached_names : (to : Shape) (t p : ℕ) (otherwise : Statements) → IsTarget to → AreNaming blocks own n otherwise
        → CodeNames blocks own n (reached_code w to t p otherwise)
    reached_names to t p otherwise h names = ((tt, names), (target_small w to plain h, tt))

    pub element_names : (to : Shape) (t p : ℕ) → IsTarget to → CodeNames blocks own n (element_code w to t p)
    element_names to t p h =
        (tt, reached_names to t p (all_of (If p (raised ArrayBounds) (raised NullException) ∷ [])) h (((tt, tt), (tt, tt)), tt))

    pub reach_names : (s : Shape) (d : ℕ) → IsTarget s → CodeNames blocks own n (reach_code w s d)
    reach_names (FatShape to) d h = element_names to d d h
    reach_names s d h = check_names s d

    -- a subscript, by the shape of what it is of
    bound_names : (bound : Reach) (to : Shape) (d : ℕ) → IsTarget to → CodeNames blocks own n (bound_code w bound to d)
    bound_names bound to d h = (tt, (tt, ((tt, (tt, tt)), (target_small w to plain h, tt))))

    subscript_names : (s : Shape) (d : ℕ) → IsTarget (pointee s) → CodeNames blocks own n (subscript_code w s d)
    subscript_names (ThinShape bound owner to) d h =
        both_name blocks own n _ _ (check_names (ThinShape bound owner to) (d + 1)) (bound_names bound to d h)
    subscript_names s d h = (tt, element_names (pointee s) d (d + 1) h)

    -- so many elements of a fat pointer are there
    pub enough_names : (count : ℕ) (to : Shape) (d : ℕ) → IsTarget to → CodeNames blocks own n (enough_code w count to d)
    enough_names count to d h = by (nat_eq count 1)
      where
        by : (x : Bool) → CodeNames blocks own n (if x then one_code w to d else several_code w count to d)
        by true = (tt, reached_names to d d (raised ArrayBounds) h (tt, tt))
        by false = (tt, ((tt, (tt, tt)), (tt, (tt, (tt, (((tt, tt), tt), (target_small w to plain h, tt)))))))

    -- ---- members

    -- what stands on the left of suffixes, wherever it comes
    pub record LeftNames (left : Left) : Type 0 where
      pub value : (d : ℕ) → CodeNames blocks own n (left.value d)
      pub pointer : (d : ℕ) → CodeNames blocks own n (left.pointer d)
      pub target : IsTarget left.shape

    pub member_left : (s : Shape) (pointer : ℕ → List Statement) (cells bytes : ℕ) (f : List ℕ) → IsObject w.unions w.structs (member_shape w s f)
        → ((d : ℕ) → CodeNames blocks own n (pointer d)) → LeftNames (member_at w s pointer cells bytes f)
    member_left s pointer cells bytes f object names = record {
      value = λ d. both_name blocks own n _ _ (names d) (loads_names (member_shape w s f) d _ _);
      pointer = names;
      target = object_target w.unions w.structs (member_shape w s f) object;
    }

    -- of what a value leads to
    pub behind_left : (left : Left) (f : List ℕ) → IsTarget left.shape → IsObject w.unions w.structs (member_shape w (pointee left.shape) f)
        → ((d : ℕ) → CodeNames blocks own n (left.value d)) → LeftNames (member_behind w left f)
    behind_left left f target object value =
        member_left (pointee left.shape) (λ d. left.value d ++ reach_code w left.shape d) 0 0 f object
        (λ d. both_name blocks own n _ _ (value d) (reach_names left.shape d target))

    pub element_left : (from : Shape) (index value : ℕ → List Statement) → IsObject w.unions w.structs (pointee from)
        → ((d : ℕ) → CodeNames blocks own n (index d)) → ((d : ℕ) → CodeNames blocks own n (value d)) → LeftNames (element_at w from index value)
    element_left from index value object indexed valued = record {
      value = λ d. both_name blocks own n _ _ (pointer d) (loads_names (pointee from) d 0 0);
      pointer = pointer;
      target = target;
    }
      where
        target : IsTarget (pointee from)
        target = object_target w.unions w.structs (pointee from) object

        pointer : (d : ℕ) → CodeNames blocks own n (index d ++ (value (d + 1) ++ subscript_code w from d))
        pointer d = both_name blocks own n _ _ (indexed d) (both_name blocks own n _ _ (valued (d + 1)) (subscript_names from d target))

    -- a pointer to what suffixes lead to
    pub pointed_left : (left : Left) (d : ℕ) → LeftNames left → CodeNames blocks own n (pointer_to left d)
    pointed_left left d h = both_name blocks own n _ _ (h.pointer d) (offset_names d left.cells left.bytes)

    -- a value is stored there
    pub stored_left : (left : Left) (p d : ℕ) → LeftNames left → CodeNames blocks own n (store_to left p d)
    stored_left left p d h = both_name blocks own n _ _ (h.pointer p) (stores_names left.shape p d left.cells left.bytes)
