-- The shapes of what is taken: a value's is a word's or a fat pointer's, and what a pointer leads to has no more bytes than a word says.
use Rattle.std.proofs.Common.{◌≡◌, ⊎_elim, ℕ, ◌+◌, ◌<◌, ◌^◌, List, [], ◌∷◌, Bool, true, false, Option, Some, None, refl, sym, subst, arith}
use Rattle.std.specs.Prelude.{bytes_eq, codes, if◌then◌else◌}
use Rattle.cyc_tree.specs.declared.expression.Prefix.TheVariants as prefix
use Rattle.cyc_tree.specs.declared.expression.Operator.TheVariants as operator
use Rattle.cyc_tree.specs.Tree.{Expression, Links, NoLinks, MoreLinks, Suffixes, NoSuffixes, Index, Dot, Arrow, Made, One, Array}
use Rattle.source_meaning.specs.Shapes.{
  Owner,
  Shared,
  Shape,
  IntShape,
  UnsignedShape,
  CharShape,
  VoidShape,
  ThinShape,
  FatShape,
  HandleShape,
  KeyShape,
  StructShape,
  UnionShape,
  ArrayShape,
  Part,
  Layout,
  has_tag,
  part_shape,
  part_shapes,
  pointee,
}
use Rattle.source_meaning.specs.Sizes.{extent_by, largest, no_extent, rounded_up, union_extent}
use Rattle.source_meaning.specs.Memory.{AsInt, AsUnsigned, AsChar, IntegerType}
use Rattle.source_meaning.specs.Steps.{Entity, Binding, World, Routine}
use Rattle.source_meaning.specs.Operators.{operator_shape}
use Rattle.source_meaning.specs.Places.{bound_to}
use Rattle.source_meaning.specs.Calls.{number_type, function_of}
use Rattle.source_meaning.specs.Expressions.{is_unique_region}
use Rattle.source_meaning.specs.Programs.{integer_shape}
use Rattle.source_lowering.specs.Layouts.{extent_of}
use Rattle.source_lowering.specs.Lowered.{Named, local_named, entity_shape, shape_by, named_shape, valued, member_shape, suffixed_shape, result_shape}
use Rattle.source_lowering.specs.Lowered.{call_shape, static_shape, owner_in, new_shape, linked_shape, element_names, union_parts}
use Rattle.source_lowering.specs.Lowerable.{IsTarget, IsValueShape, IsVariable, IsUnionShape, AreValues, IsMember, Takes, TakesPlace, TakesSuffixes}
use Rattle.source_lowering.specs.Lowerable.{TakesMembers, TakesLinks, TakesNew}
use Rattle.source_meaning.proofs.Layouts.{no_parts}
use Rattle.source_lowering.proofs.Structs.{struct_made}
use Rattle.source_lowering.proofs.UnionSizes.{union_of, union_small}
use Rattle.source_lowering.proofs.values.Integers.{IsTaken, target_taken, object_target}
use Rattle.source_lowering.proofs.expressions.Places.{pointee_taken}
use Rattle.source_lowering.proofs.expressions.Forms.{operator_taken, given_single}
use Rattle.source_lowering.proofs.expressions.UnionMembers.{part_found, value_at}
use Rattle.source_lowering.proofs.expressions.Names.{AreObjectNames, AreGlobals, IsPlainWorld, FoundFunction, find_function}

-- ---- sizes

pub target_small : (w : World) (s : Shape) → IsPlainWorld w → IsTarget s → (extent_of w s).size < 2 ^ 32
target_small w (StructShape tag) plain h =
    let small = (struct_made w.unions w.structs tag plain.structs).small in omega (arith, small)
target_small w (ThinShape may_be_null owner to) plain h = omega arith
target_small w (FatShape to) plain h = omega arith
target_small w IntShape plain h = omega arith
target_small w UnsignedShape plain h = omega arith
target_small w CharShape plain h = omega arith
target_small w VoidShape plain h = omega arith
target_small w HandleShape plain h = omega arith
target_small w KeyShape plain h = omega arith
target_small w (UnionShape tag) plain h = by (has_tag w.unions tag) refl
  where
    by : (b : Bool) → has_tag w.unions tag ≡ b → (union_extent w.unions tag).size < 2 ^ 32
    by true e = let small = union_small w.unions tag plain.unions e in omega (arith, small)
    by false e = subst (λ (ps : List Part). rounded_up (4 + largest (extent_by no_extent no_extent) 0 ps) 4 < 2 ^ 32) (sym (no_parts w.unions tag e))
        (omega arith)
target_small w _ plain h = absurd h

-- ---- members of unions

-- each of them is a value
pub union_values : (w : World) (s : Shape) → IsPlainWorld w → IsUnionShape w.unions s → AreValues (part_shapes (union_parts w s))
union_values w (UnionShape tag) plain h = (union_of w.unions tag plain.unions h).members
union_values w _ plain h = absurd h

pub member_value : (ps : List Part) (f : List ℕ) → AreValues (part_shapes ps) → IsMember ps f → IsValueShape (part_shape ps f)
member_value ps f values h = value_at (part_shapes ps) h.number (part_shape ps f) values (part_found ps f h.number h.is).shape

-- ---- names

variable_target : (unions structs : List Layout) (s : Shape) → IsVariable unions structs s → IsTarget (valued s)
variable_target unions structs (ArrayShape count of) h = object_target unions structs of h.1
variable_target unions structs s h = object_target unions structs s h

global_target : (unions structs : List Layout) (bs : List Binding) (name : List ℕ) → AreGlobals unions structs bs
    → IsTarget (valued (entity_shape (bound_to bs name)))
global_target unions structs [] name h = tt
global_target unions structs (b ∷ bs) name h = by (bytes_eq b.name name) (global_target unions structs bs name h.1)
  where
    one : IsTarget (valued (entity_shape (Some b.entity)))
    one = subst (λ (e : Entity). IsTarget (valued (entity_shape (Some e)))) (sym h.0.is) (variable_target unions structs h.0.shape h.0.is_variable)

    by : (t : Bool) → IsTarget (valued (entity_shape (bound_to bs name)))
        → IsTarget (valued (entity_shape (if t then Some b.entity else bound_to bs name)))
    by true others = one
    by false others = others

local_target : (unions structs : List Layout) (ls : List Named) (name : List ℕ) (global : Option Entity) → AreObjectNames unions structs ls
    → IsTarget (valued (entity_shape global)) → IsTarget (valued (shape_by (local_named ls name) global))
local_target unions structs [] name global h g = g
local_target unions structs (l ∷ ls) name global h g = by (bytes_eq l.name name) (local_target unions structs ls name global h.1 g)
  where
    by : (t : Bool) → IsTarget (valued (shape_by (local_named ls name) global))
        → IsTarget (valued (shape_by (if t then Some l else local_named ls name) global))
    by true others = variable_target unions structs l.shape h.0
    by false others = others

number_taken : (value : ℕ) (suffix : Bool) → IsTaken (integer_shape (number_type value suffix))
number_taken value suffix = by (number_type value suffix)
  where
    by : (t : IntegerType) → IsTaken (integer_shape t)
    by AsInt = tt
    by AsUnsigned = tt
    by AsChar = tt

-- a name that is called, and is no struct's
call_taken : (w : World) (name : List ℕ) → IsPlainWorld w → has_tag w.structs name ≡ false → IsTaken (call_shape w name)
call_taken w name plain no_tag = by (bytes_eq name (codes "getchar")) (bytes_eq name (codes "putchar"))
  where
    own : IsTaken (result_shape (function_of w.functions name))
    own = ⊎_elim (λ (f : FoundFunction w w.functions name). subst (λ (z : Option Routine). IsTaken (result_shape z)) (sym f.found) f.is.result)
        (λ (none : function_of w.functions name ≡ None). subst (λ (z : Option Routine). IsTaken (result_shape z)) (sym none) tt)
        (find_function w w.functions name plain.functions)

    by : (reads writes : Bool) → IsTaken (if reads then IntShape else (if writes then IntShape else (if has_tag w.structs name then StructShape name
        else result_shape (function_of w.functions name))))
    by true writes = tt
    by false true = tt
    by false false = subst (λ b. IsTaken (if b then StructShape name else result_shape (function_of w.functions name))) (sym no_tag) own

-- ---- expressions

module _ (w : World) (names : List Named) (plain : IsPlainWorld w) (words : AreObjectNames w.unions w.structs names) where
  name_target : (name : List ℕ) → IsTarget (valued (named_shape w names name))
  name_target name = local_target w.unions w.structs names name (bound_to w.globals name) words (global_target w.unions w.structs w.globals name plain.globals)

  -- what suffixes lead to is an object
  members_target : (suffixes : Suffixes) (s : Shape) → IsTarget s → TakesMembers w names suffixes s → IsTarget (suffixed_shape w suffixes s)
  members_target NoSuffixes s t h = t
  members_target (Index index others) s t h = members_target others (pointee s) (object_target w.unions w.structs (pointee s) h.1.1.0) h.1.1.1
  members_target (Dot f others) s t h =
      members_target others (member_shape w s f.text) (object_target w.unions w.structs (member_shape w s f.text) h.0) h.1
  members_target (Arrow f others) s t h =
      members_target others (member_shape w (pointee s) f.text) (object_target w.unions w.structs (member_shape w (pointee s) f.text) h.1.0) h.1.1

  suffixed_target : (suffixes : Suffixes) (s : Shape) (value place : Type 0) → TakesSuffixes w names suffixes s value place
      → IsTarget (suffixed_shape w suffixes s)
  suffixed_target NoSuffixes s value place h = absurd h
  suffixed_target (Index index others) s value place h =
      members_target others (pointee s) (object_target w.unions w.structs (pointee s) h.1.1.0) h.1.1.1
  suffixed_target (Dot f others) s value place h =
      members_target others (member_shape w s f.text) (object_target w.unions w.structs (member_shape w s f.text) h.1.0) h.1.1
  suffixed_target (Arrow f others) s value place h =
      members_target others (member_shape w (pointee s) f.text) (object_target w.unions w.structs (member_shape w (pointee s) f.text) h.1.0) h.1.1

  linked_taken : (links : Links) (s : Shape) → IsTaken s → TakesLinks w names links → IsTaken (linked_shape w names links s)
  linked_taken NoLinks s t h = t
  linked_taken (MoreLinks operator operand others) s t h =
      linked_taken others (operator_shape operator s (static_shape w names operand)) (operator_taken operator s (static_shape w names operand) t) h.1

  new_taken : (owner : Owner) (new : Made) → TakesNew w names new → IsTaken (new_shape w names owner new)
  new_taken owner (One value) h = object_target w.unions w.structs (static_shape w names value) h.0
  new_taken owner (Array index count element) h = object_target w.unions w.structs (static_shape w (element_names index.text names) element) h.1.0

  mutual
    pub place_target : (e : Expression) → TakesPlace w names e → IsTarget (static_shape w names e)
    place_target (Expression.Variable name) h = name_target name.text
    place_target (Expression.Grouped at inner) h = place_target inner h
    place_target (Expression.Suffixed primary suffixes) h =
        suffixed_target suffixes (static_shape w names primary) (Takes w names primary) (TakesPlace w names primary) h
    place_target (Expression.Prefixed at prefix.Dereference operand) h = pointee_taken (static_shape w names operand) (shape_taken operand h)
    place_target (Expression.Prefixed at _ operand) h = absurd h
    place_target _ h = absurd h

    pub shape_taken : (e : Expression) → Takes w names e → IsTaken (static_shape w names e)
    shape_taken (Expression.Number at value suffix) h = number_taken value suffix
    shape_taken (Expression.Character at byte) h = tt
    shape_taken (Expression.Null at) h = tt
    shape_taken (Expression.HeapRegion at) h = tt
    shape_taken (Expression.Variable name) h = target_taken (static_shape w names (Expression.Variable name)) (name_target name.text) h
    shape_taken (Expression.Call name arguments) h = call_taken w name.text plain h.0
    shape_taken (Expression.NumElts at operand) h = tt
    shape_taken (Expression.Text at bytes) h = tt
    shape_taken (Expression.Grouped at inner) h = shape_taken inner h
    shape_taken (Expression.Suffixed primary suffixes) h =
        target_taken (suffixed_shape w suffixes (static_shape w names primary))
        (suffixed_target suffixes (static_shape w names primary) (Takes w names primary) (TakesPlace w names primary) h.0) h.1
    shape_taken (Expression.Prefixed at prefix.Negate operand) h = operator_taken operator.Subtract IntShape (static_shape w names operand) tt
    shape_taken (Expression.Prefixed at prefix.Complement operand) h = operator_taken operator.BitXor IntShape (static_shape w names operand) tt
    shape_taken (Expression.Prefixed at prefix.Not operand) h = tt
    shape_taken (Expression.Prefixed at prefix.Dereference operand) h =
        target_taken (pointee (static_shape w names operand)) (pointee_taken (static_shape w names operand) (shape_taken operand h.0)) h.1
    shape_taken (Expression.Prefixed at prefix.AddressOf operand) h = place_target operand h
    shape_taken (Expression.New at new) h = new_taken Shared new h
    shape_taken (Expression.NewIn at handle new) h = new_taken (owner_in (is_unique_region handle)) new h.1
    shape_taken (Expression.UniqueRegion at) h = tt
    shape_taken (Expression.Chain first others) h = linked_taken others (static_shape w names first) (shape_taken first h.0) h.1
    shape_taken (Expression.AllOf first others) h = tt
    shape_taken (Expression.AnyOf first others) h = tt
    shape_taken (Expression.Assign place value) h =
        let s = static_shape w names place in target_taken s (place_target place h.0) (given_single s h.1.1)
    shape_taken _ h = absurd h
