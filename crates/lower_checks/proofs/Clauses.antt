-- The clauses of a `switch`: one more of them, what is left, and the blocks that they become.
use Rattle.std.proofs.Common.{◌≡◌, ◌∙◌, ◌+◌, ◌<◌, ℕ, refl, sym, ap, subst, List, [], ◌∷◌, ◌++◌, length, map, drop, get_or, append_assoc}
use Rattle.std.proofs.lemmas.List.{drop_more}
use Rattle.std.specs.Prelude.{Bool, true, false, Option, Some, None, bytes_eq, is_some, if◌then◌else◌, option_map}
use Rattle.cyc_tree.proofs.PartForms.{clause_parts}
use Rattle.cyc_tree.specs.Tree.{MoreClauses}
use Rattle.cyc_tree.specs.View.{OneClause, clause_tree, clauses_of, item_tree, items_of, pattern_tree}
use Rattle.cyc_tree.specs.declared.statement.Clause as code
use Rattle.core_meaning.specs.Core.{Statement}
use Rattle.source_meaning.specs.Shapes.{
  Shape,
  IntShape,
  UnsignedShape,
  CharShape,
  VoidShape,
  ThinShape,
  FatShape,
  HandleShape,
  KeyShape,
  StructShape,
  UnionShape,
  ArrayShape,
  Part,
  Layout,
  has_tag,
  part_position,
  part_shape,
  part_shapes,
  parts_of,
}
use Rattle.source_meaning.specs.Steps.{World}
use Rattle.source_lowering.specs.Layouts.{has_fat}
use Rattle.source_lowering.specs.Lowered.{union_parts}
use Rattle.source_lowering.specs.Lowerable.{AreUnions, AreValues, IsUnionShape, IsValueShape, IsVariable}
use Rattle.source_lowering.proofs.memory.ObjectShapes.{object_named}
use Rattle.source_lowering.proofs.values.Integers.{value_object}
use Rattle.lower_checks.specs.Unions.{Union, cell_by, first_union, union_by}
use Rattle.lower_checks.specs.Views.{shape_tree}
use Rattle.lower_checks.specs.Writing.{IsApart, IsBegun, IsEmitted, IsEnded, IsSame, IsWritten, code_of, next_of}
use Rattle.lower_checks.specs.declared.body.Body.{Body}
use Rattle.lower_checks.proofs.Writing.{apart_emit, emit_write, emitted_next, next_is, same_next, same_write, write_write}

-- the clauses that are left begin with this one
pub left_clauses : (cs : List code.Clause) (n : ℕ) (c : code.Clause) → n < length cs → c ≡ get_or cs n c
    → clauses_of (map clause_tree (drop n cs))
    ≡ MoreClauses c.at (pattern_tree c.pattern) (items_of (map item_tree c.body.items)) (clauses_of (map clause_tree (drop (n + 1) cs)))
left_clauses cs n c within c_is =
    ap (λ (xs : List code.Clause). clauses_of (map clause_tree xs))
    (drop_more cs n c within ∙ ap (λ (x : code.Clause). x ∷ drop (n + 1) cs) (sym c_is))
    ∙ ap (λ (o : OneClause). clauses_of (o ∷ map clause_tree (drop (n + 1) cs))) (clause_parts c)

-- ---- the members of a union that is switched on

-- a union, as the code knows it
abbrev known_of : Layout → Union
known_of l = record { parts = l.parts; cell = cell_by (has_fat l.parts) }

parts_if : (own : Bool) (l : Layout) (ls : List Layout) (tag : List ℕ) (first u : Union) (rest : Option Union) → first.parts ≡ l.parts
    → (if own then Some first else rest) ≡ Some u → (rest ≡ Some u → u.parts ≡ parts_of ls tag) → u.parts ≡ (if own then l.parts else parts_of ls tag)
parts_if true l ls tag first u rest first_is is more =
    let same : first ≡ u = cc is in
    ap (λ (x : Union). x.parts) (sym same) ∙ first_is
parts_if false l ls tag first u rest first_is is more = more is

first_parts : (ls : List Layout) (tag : List ℕ) (u : Union) → first_union ls tag ≡ Some u → u.parts ≡ parts_of ls tag
first_parts [] tag u is = absurd cc is
first_parts (l ∷ ls) tag u is = parts_if (bytes_eq l.tag tag) l ls tag (known_of l) u (first_union ls tag) refl is (first_parts ls tag u)

pub parts_known : (w : World) (s : Shape) (u : Union) → union_by w.unions s ≡ Some u → u.parts ≡ union_parts w s
parts_known w IntShape u is = absurd cc is
parts_known w UnsignedShape u is = absurd cc is
parts_known w CharShape u is = absurd cc is
parts_known w VoidShape u is = absurd cc is
parts_known w (ThinShape bound owner to) u is = absurd cc is
parts_known w (FatShape to) u is = absurd cc is
parts_known w HandleShape u is = absurd cc is
parts_known w KeyShape u is = absurd cc is
parts_known w (StructShape tag) u is = absurd cc is
parts_known w (UnionShape tag) u is = first_parts w.unions tag u is
parts_known w (ArrayShape count of) u is = absurd cc is

known_if : (own : Bool) (first : Union) (rest : Option Union) (more : Bool) → (if own then true else more) ≡ true → (more ≡ true → is_some rest ≡ true)
    → is_some (if own then Some first else rest) ≡ true
known_if true first rest more has others = refl
known_if false first rest more has others = others has

first_known : (ls : List Layout) (tag : List ℕ) → has_tag ls tag ≡ true → is_some (first_union ls tag) ≡ true
first_known [] tag has = absurd cc has
first_known (l ∷ ls) tag has = known_if (bytes_eq l.tag tag) (known_of l) (first_union ls tag) (has_tag ls tag) has (first_known ls tag)

pub union_known : (unions : List Layout) (s : Shape) → IsUnionShape unions s → is_some (union_by unions s) ≡ true
union_known unions IntShape h = absurd h
union_known unions UnsignedShape h = absurd h
union_known unions CharShape h = absurd h
union_known unions VoidShape h = absurd h
union_known unions (ThinShape bound owner to) h = absurd h
union_known unions (FatShape to) h = absurd h
union_known unions HandleShape h = absurd h
union_known unions KeyShape h = absurd h
union_known unions (StructShape tag) h = absurd h
union_known unions (UnionShape tag) h = first_known unions tag h
union_known unions (ArrayShape count of) h = absurd h

-- the members of a union that is in order are values

values_if : (own : Bool) (l : Layout) (first u : Union) (rest : Option Union) → first.parts ≡ l.parts → AreValues (part_shapes l.parts)
    → (if own then Some first else rest) ≡ Some u → (rest ≡ Some u → AreValues (part_shapes u.parts)) → AreValues (part_shapes u.parts)
values_if true l first u rest first_is values is more =
    let same : first ≡ u = cc is in
    subst (λ (ps : List Part). AreValues (part_shapes ps)) (sym first_is ∙ ap (λ (x : Union). x.parts) same) values
values_if false l first u rest first_is values is more = more is

first_values : (ls : List Layout) (tag : List ℕ) (u : Union) → AreUnions ls → first_union ls tag ≡ Some u → AreValues (part_shapes u.parts)
first_values [] tag u unions is = absurd cc is
first_values (l ∷ ls) tag u unions is =
    values_if (bytes_eq l.tag tag) l (known_of l) u (first_union ls tag) refl unions.0.members is (first_values ls tag u unions.1)

pub values_known : (unions : List Layout) (s : Shape) (u : Union) → AreUnions unions → union_by unions s ≡ Some u → AreValues (part_shapes u.parts)
values_known unions IntShape u h is = absurd cc is
values_known unions UnsignedShape u h is = absurd cc is
values_known unions CharShape u h is = absurd cc is
values_known unions VoidShape u h is = absurd cc is
values_known unions (ThinShape bound owner to) u h is = absurd cc is
values_known unions (FatShape to) u h is = absurd cc is
values_known unions HandleShape u h is = absurd cc is
values_known unions KeyShape u h is = absurd cc is
values_known unions (StructShape tag) u h is = absurd cc is
values_known unions (UnionShape tag) u h is = first_values unions tag u h is
values_known unions (ArrayShape count of) u h is = absurd cc is

-- a member that is named is a variable
variable_if : (own : Bool) (unions structs : List Layout) (first rest : Shape) (found : Option ℕ) (n : ℕ) → IsValueShape first
    → (if own then Some 0 else option_map (λ k. k + 1) found) ≡ Some n → ((m : ℕ) → found ≡ Some m → IsVariable unions structs rest)
    → IsVariable unions structs (if own then first else rest)
variable_if true unions structs first rest found n value is more = object_named unions structs first (value_object unions structs first value)
variable_if false unions structs first rest None n value is more = absurd cc is
variable_if false unions structs first rest (Some m) n value is more = more m refl

pub member_variable : (unions structs : List Layout) (ps : List Part) (f : List ℕ) (n : ℕ) → AreValues (part_shapes ps) → part_position ps f ≡ Some n
    → IsVariable unions structs (part_shape ps f)
member_variable unions structs [] f n values is = absurd cc is
member_variable unions structs (p ∷ ps) f n values is =
    variable_if (bytes_eq p.name f) unions structs p.shape (part_shape ps f) (part_position ps f) n values.0 is
    (λ (m : ℕ) (found : part_position ps f ≡ Some m). member_variable unions structs ps f m values.1 found)

-- ---- what a clause becomes

-- what its number is compared with the tag by, and the block behind
pub case_written : (a c d e z : Body) (x y last : List Statement) (p : List Shape) → IsEmitted a c x → IsEmitted c d y → IsApart d e p
    → IsEmitted e z last → IsWritten a z (x ++ (y ++ last)) p
case_written a c d e z x y last p one two apart three =
    emit_write a c z x (y ++ last) (x ++ (y ++ last)) p one (emit_write c d z y last (y ++ last) p two (apart_emit d e z last p apart three) refl) refl

pub case_next : (a c d : Body) (x y : List Statement) → IsEmitted a c x → IsEmitted c d y → next_of d ≡ next_of a
case_next a c d x y one two = emitted_next c d y two ∙ emitted_next a c x one

-- what its block does, behind two that emit
pub clause_written : (b o p q x : Body) (first last : List Statement) (code : ℕ → List Statement) (values : List Shape) → IsSame b o → IsEmitted o p first
    → IsEmitted p q last → IsWritten q x (code (next_of q)) values → IsWritten b x (first ++ (last ++ code (next_of b))) values
clause_written b o p q x first last code values same one two three =
    let rest = code (next_of q) in
    let next_is : next_of q ≡ next_of b = emitted_next p q last two ∙ emitted_next o p first one ∙ same_next b o same in
    let written =
    same_write b o x (first ++ (last ++ rest)) values same
    (emit_write o p x first (last ++ rest) (first ++ (last ++ rest)) values one (emit_write p q x last rest (last ++ rest) values two three refl) refl) in
    subst (λ (n : ℕ). IsWritten b x (first ++ (last ++ code n)) values) next_is written

-- the block, and what leaves the `switch` behind it, are a part of their own
pub clause_apart : (a b x f g k z : Body) (outer none block end code : List Statement) (p : List Shape) → IsBegun a b → outer ≡ code_of a
    → IsWritten b x code p → IsEnded x f none → IsEmitted f g block → IsEmitted g k end → IsEnded k z outer → IsApart a z p
clause_apart a b x f g k z outer none block end code p begun outer_is one inner two three ended = record {
  sound = sym begun.failed ∙ one.sound;
  code = ended.code ∙ outer_is;
  values = ap (λ own. map shape_tree own.items) (ended.own ∙ three.own ∙ two.own ∙ inner.own) ∙ one.values
      ∙ ap (λ own. map shape_tree own.items ++ p) begun.own;
}

pub clause_part : (x f g k : Body) (none block end part : List Statement) → none ≡ [] → IsEnded x f none → IsEmitted f g block → IsEmitted g k end
    → part ≡ code_of k → part ≡ block ++ end
clause_part x f g k none block end part none_is inner two three part_is =
    part_is ∙ three.code ∙ ap (λ (ss : List Statement). ss ++ end) (two.code ∙ ap (λ (ss : List Statement). ss ++ block) (inner.code ∙ none_is))

-- what a `switch` does: its place and the tag, its cases, and what is left for the others
pub switch_written : (b x y v : Body) (place tag : List Statement) (cases others : ℕ → List Statement) (p q r : List Shape) → IsWritten b x (place ++ tag) p
    → IsWritten x y (cases (next_of x)) q → IsWritten y v (others (next_of y)) r
    → IsWritten b v (place ++ (tag ++ (cases (next_of b + length p) ++ others (next_of b + length p + length q)))) (p ++ (q ++ r))
switch_written b x y v place tag cases others p q r one two three =
    let first = next_of b + length p in
    let at : next_of x ≡ first = next_is b x (place ++ tag) p one in
    let behind : next_of y ≡ first + length q = next_is x y (cases (next_of x)) q two ∙ ap (λ (n : ℕ). n + length q) at in
    let rest = cases first ++ others (first + length q) in
    let chosen = subst (λ (n : ℕ). IsWritten x y (cases n) q) at two in
    let left = subst (λ (n : ℕ). IsWritten y v (others n) r) behind three in
    let both = write_write x y v (cases first) (others (first + length q)) rest q r (q ++ r) chosen left refl refl in
    write_write b x v (place ++ tag) rest (place ++ (tag ++ rest)) p (q ++ r) (p ++ (q ++ r)) one both (sym (append_assoc place tag rest)) refl
