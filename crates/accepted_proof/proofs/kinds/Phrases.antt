-- What names, operators, places, calls and makings give: its type names structs by their tags, where the types in scope do.
use Rattle.std.proofs.Common.{◌≡◌, ℕ, Bool, true, false, Option, Some, None, List, [], ◌∷◌, refl, sym, subst}
use Rattle.std.specs.Prelude.{◌&&◌, ◌++◌, ◌||◌, bytes_eq, if◌then◌else◌}
use Rattle.cyc_tree.specs.declared.expression.Operator.{Operator}
use Rattle.cyc_tree.specs.declared.expression.Operator.TheVariants as operator
use Rattle.cyc_tree.specs.declared.expression.Prefix.{Prefix}
use Rattle.cyc_tree.specs.declared.expression.Prefix.TheVariants as prefix
use Rattle.cyc_tree.specs.Tree as tree
use Rattle.source_typing.specs.Calls.{Target, ToBuiltin, ToFunction, ToStruct, all_live, all_ordered, arguments_fit, builtin_parameters, call_entered, called}
use Rattle.source_typing.specs.Calls.{part_types, target, target_of_tag, typed_result, union_made}
use Rattle.source_typing.specs.Conversions.{converts}
use Rattle.source_typing.specs.Faults.{effect_rule, outlives_rule, region_rule, test}
use Rattle.source_typing.specs.Making.{Goal, NoHandle, To, ToUnique, array_made, array_to, made, made_to}
use Rattle.source_typing.specs.Operators.{applied_to, common, compared, compared_thin, counted, fat_moved, if_equality, integers_joined, is_equality, is_fat}
use Rattle.source_typing.specs.Operators.{is_move, on_integers, prefixed, promoted, signed, tested_both}
use Rattle.source_typing.specs.Places.{address_of, arrow_live, arrow_of, assigned, assigned_in, assigned_type, contents_of, if_copyable, in_live, indexed}
use Rattle.source_typing.specs.Places.{indexed_of, member_of, part_found, part_of, part_typed, variable}
use Rattle.source_typing.specs.Regions.{Region}
use Rattle.source_typing.specs.Scope.{Env, In, InBlock, Local, Nowhere, Seat, Value, is_live, is_place, meant, outlives, value, with_locals}
use Rattle.source_typing.specs.Tables.{Arrayed, Counter, Entry, OfBuiltin, OfFunction, OfOther, OfTag, OfValue, Part, Stored, Tables, Tag, Unknown, argument}
use Rattle.source_typing.specs.Tables.{as_tag, find, is_copyable, part_in, parts_of_tag}
use Rattle.source_typing.specs.Types.{Char, Fat, Handle, Int, Key, Null, StaticType, Struct, Thin, TypeIn, Union, Unique, Unsigned, Void, is_integer}
use Rattle.source_typing.specs.Types.{is_makeable, is_null, is_pointer, is_same, is_testable, renamed}
use Rattle.source_typing.specs.Verdicts.{Of, Verdict, after, if_fits}
use Rattle.accepted_proof.specs.Good.{KnowsKinds, LocalsName, MeansNamed, NamesIfKnown, NamesStructs, PartsName}
use Rattle.accepted_proof.proofs.kinds.Perhaps.{Perhaps, perhaps_fitting, perhaps_other, perhaps_rule, perhaps_sound, perhaps_unless}

-- other regions are no other structs
pub renamed_named : {R S : Type 0} (P : List ℕ → Type 0) (f : R → S) (t : TypeIn R) → NamesStructs P t → NamesStructs P (renamed f t)
renamed_named P f Int h = tt
renamed_named P f Unsigned h = tt
renamed_named P f Char h = tt
renamed_named P f Void h = tt
renamed_named P f Null h = tt
renamed_named P f (Thin n r t) h = renamed_named P f t h
renamed_named P f (Fat r t) h = renamed_named P f t h
renamed_named P f (Unique n t) h = renamed_named P f t h
renamed_named P f (Handle r) h = tt
renamed_named P f (Key r) h = tt
renamed_named P f (Struct tag rs) h = h
renamed_named P f (Union tag rs) h = tt

-- the type of a value names such structs
abbrev pub ValueNames : (List ℕ → Type 0) → Value → Type 0
ValueNames P v = NamesStructs P v.type

module _ (P : List ℕ → Type 0) where
  abbrev Named : Verdict Value → Type 0
  Named v = Perhaps (λ a. ValueNames P a) v

  -- ---- names

  locals_named : (ls : List Local) (g : Tables) (x : List ℕ) → LocalsName P ls → MeansNamed P x (find g x) → MeansNamed P x (find (with_locals ls g) x)
  locals_named [] g x h k = k
  locals_named (l ∷ ls) g x h k = by (bytes_eq l.name x) (locals_named ls g x h.1 k)
    where
      by : (b : Bool) → MeansNamed P x (find (with_locals ls g) x) → MeansNamed P x (if b then Some (OfValue l.what) else find (with_locals ls g) x)
      by true others = h.0
      by false others = others

  pub meant_named : (g : Env) (x : List ℕ) → KnowsKinds P g → MeansNamed P x (meant g x)
  meant_named g x k = locals_named g.locals g.tables x k.locals (k.tables x)

  pub variable_named : (at : ℕ) (x : List ℕ) (e : Option Entry) → MeansNamed P x e → Named (variable at e)
  variable_named at x None h = tt
  variable_named at x (Some (OfValue (Stored t r))) h = h
  variable_named at x (Some (OfValue (Arrayed t r))) h = h
  variable_named at x (Some (OfValue Counter)) h = tt
  variable_named at x (Some (OfValue (Unknown sound))) h = tt
  variable_named at x (Some (OfTag t)) h = perhaps_other (λ a. ValueNames P a) t.sound at
  variable_named at x (Some (OfFunction s)) h = perhaps_other (λ a. ValueNames P a) s.sound at
  variable_named at x (Some (OfBuiltin n)) h = tt
  variable_named at x (Some OfOther) h = tt

  -- ---- calls

  abbrev pub TargetNames : Target → Type 0
  TargetNames (ToBuiltin n) = Unit {0}
  TargetNames (ToStruct t) = P t.text
  TargetNames (ToFunction s) = NamesIfKnown P s.result

  pub target_named : (at : ℕ) (x : List ℕ) (e : Option Entry) → MeansNamed P x e → Perhaps (λ u. TargetNames u) (target at e)
  target_named at x None h = tt
  target_named at x (Some (OfBuiltin n)) h = tt
  target_named at x (Some (OfFunction s)) h = perhaps_sound (λ u. TargetNames u) s.sound (Of (ToFunction s)) h
  target_named at x (Some (OfTag t)) h = by t.is_union refl
    where
      by : (b : Bool) → t.is_union ≡ b → Perhaps (λ u. TargetNames u) (target_of_tag b t at)
      by true e = perhaps_other (λ u. TargetNames u) t.sound at
      by false e = perhaps_sound (λ u. TargetNames u) t.sound (Of (ToStruct t)) (subst P (sym h.text) (h.struct e))
  target_named at x (Some (OfValue (Stored t r))) h = tt
  target_named at x (Some (OfValue (Arrayed t r))) h = tt
  target_named at x (Some (OfValue Counter)) h = tt
  target_named at x (Some (OfValue (Unknown true))) h = tt
  target_named at x (Some (OfValue (Unknown false))) h = tt
  target_named at x (Some OfOther) h = tt

  typed_named : (at : ℕ) (rs : List Region) (o : Option StaticType) → NamesIfKnown P o → Named (typed_result at rs o)
  typed_named at rs None h = tt
  typed_named at rs (Some t) h = renamed_named P (argument rs) t h

  pub called_named : (g : Env) (at : ℕ) (u : Target) (vs : List Value) → TargetNames u → Named (called g at u vs)
  called_named g at (ToBuiltin n) vs h =
      perhaps_rule (λ a. ValueNames P a) (arguments_fit g at 0 (builtin_parameters n) vs) (λ rs. value at Int) (λ rs. tt)
  called_named g at (ToStruct t) vs h =
      perhaps_rule (λ a. ValueNames P a) (arguments_fit g at t.regions (part_types t.parts) vs) (λ rs. value at (Struct t.text rs)) (λ rs. h)
  called_named g at (ToFunction s) vs h =
      perhaps_rule (λ a. ValueNames P a) (arguments_fit g at s.regions s.parameters vs) (call_entered g at s)
      (λ rs. perhaps_unless (λ a. ValueNames P a) (test (all_live g rs s.effect) effect_rule at ++ test (all_ordered g rs s.bounds) outlives_rule at)
      (typed_result at rs s.result) (typed_named at rs s.result h))

  -- what makes a union makes no struct
  pub union_named : (g : Env) (at : ℕ) (tp : Tag × Part) (v : Value) → Named (union_made g at tp v)
  union_named g at (t, p) v =
      perhaps_rule (λ a. ValueNames P a) (arguments_fit g at t.regions (p.type ∷ []) (v ∷ [])) (λ rs. value at (Union t.text rs)) (λ rs. tt)

  -- ---- operators

  -- an integer
  int_named : (b : Bool) (at place : ℕ) → Named (after (if_fits b at Int) (value place))
  int_named b at place = perhaps_fitting (λ a. ValueNames P a) b at Int (value place) tt

  promoted_named : (t : StaticType) → NamesStructs P t → NamesStructs P (promoted t)
  promoted_named Char h = tt
  promoted_named _ h = h

  signed_named : (at : ℕ) (v : Value) → ValueNames P v → Named (signed at v)
  signed_named at v h =
      perhaps_fitting (λ a. ValueNames P a) (is_integer v.type) at (promoted v.type) (value at) (promoted_named v.type h)

  live_named : (b : Bool) (at : ℕ) (t : StaticType) (r : Region) → NamesStructs P t → Named (in_live b at t r)
  live_named true at t r h = h
  live_named false at t r h = tt

  contents_named : (g : Env) (at : ℕ) (t : StaticType) → NamesStructs P t → Named (contents_of g at t)
  contents_named g at (Thin n r t) h = live_named (is_live g r) at t r h
  contents_named g at (Fat r t) h = live_named (is_live g r) at t r h
  contents_named g at (Unique n t) h = h
  contents_named g at _ h = tt

  address_named : (at : ℕ) (t : StaticType) (s : Seat) → NamesStructs P t → Named (address_of at t s)
  address_named at t Nowhere h = tt
  address_named at t (In r) h = h
  address_named at t InBlock h = h

  pub prefixed_named : (g : Env) (at : ℕ) (o : Prefix) (v : Value) → ValueNames P v → Named (prefixed g at o v)
  prefixed_named g at prefix.Negate v h = signed_named at v h
  prefixed_named g at prefix.Complement v h = signed_named at v h
  prefixed_named g at prefix.Not v h = int_named (is_testable v.type) at at
  prefixed_named g at prefix.Dereference v h = contents_named g at v.type h
  prefixed_named g at prefix.AddressOf v h = address_named at v.type v.seat h

  common_named : (t u : StaticType) → NamesStructs P (common t u)
  common_named Unsigned u = tt
  common_named t Unsigned = tt
  common_named t u = tt

  joined_named : (o : Operator) (t u : StaticType) → NamesStructs P t → NamesStructs P (on_integers o t u)
  joined_named operator.Equal t u h = tt
  joined_named operator.NotEqual t u h = tt
  joined_named operator.Less t u h = tt
  joined_named operator.LessEqual t u h = tt
  joined_named operator.Greater t u h = tt
  joined_named operator.GreaterEqual t u h = tt
  joined_named operator.ShiftLeft t u h = promoted_named t h
  joined_named operator.ShiftRight t u h = promoted_named t h
  joined_named _ t u h = common_named t u

  thin_named : (g : Env) (b : Bool) (at : ℕ) (r q : Region) → Named (compared_thin g at b r q)
  thin_named g true at r q =
      perhaps_unless (λ a. ValueNames P a) (test (outlives g r q || outlives g q r) outlives_rule at ++ test (is_live g r && is_live g q) region_rule at)
      (value at Int) tt
  thin_named g false at r q = tt

  compared_named : (g : Env) (at : ℕ) (t u : StaticType) → Named (compared g at t u)
  compared_named g at (Thin n r t) (Thin m q u) = thin_named g (is_same t u) at r q
  compared_named g at t u = int_named ((is_pointer t && is_null u) || (is_null t && is_pointer u)) at at

  equality_named : (b : Bool) (g : Env) (at : ℕ) (t u : StaticType) → Named (if_equality b g at t u)
  equality_named true g at t u = compared_named g at t u
  equality_named false g at t u = tt

  moved_named : (b : Bool) (g : Env) (o : Operator) (at : ℕ) (t u : StaticType) → NamesStructs P t → Named (fat_moved b g o at t u)
  moved_named true g o at t u h = h
  moved_named false g o at t u h = equality_named (is_equality o) g at t u

  integers_named : (b : Bool) (g : Env) (o : Operator) (at : ℕ) (t u : StaticType) → NamesStructs P t → Named (integers_joined b g o at t u)
  integers_named true g o at t u h = joined_named o t u h
  integers_named false g o at t u h = equality_named (is_equality o) g at t u

  pub applied_named : (g : Env) (o : Operator) (at : ℕ) (t u : StaticType) → NamesStructs P t → Named (applied_to g o at t u)
  applied_named g o at (Fat r t) u h = moved_named (is_move o && is_integer u) g o at (Fat r t) u h
  applied_named g o at t u h = integers_named (is_integer t && is_integer u) g o at t u h

  pub tested_named : (a b : Value) → Named (tested_both a b)
  tested_named a b = int_named (is_testable a.type && is_testable b.type) a.at a.at

  pub counted_named : (at : ℕ) (v : Value) → Named (counted at v)
  counted_named at v = perhaps_fitting (λ a. ValueNames P a) (is_fat v.type) at Unsigned (value at) tt

  -- ---- places

  pub indexed_named : (g : Env) (a b : Value) → ValueNames P a → Named (indexed g a b)
  indexed_named g a b h = by a.type (is_integer b.type) h
    where
      by : (t : StaticType) (i : Bool) → NamesStructs P t → Named (indexed_of g a.at t i)
      by (Fat r t) true h = live_named (is_live g r) a.at t r h
      by (Thin n r t) true h = live_named (is_live g r) a.at t r h
      by (Unique n t) true h = h
      by _ _ h = tt

  pub part_named : (at : ℕ) (s : Seat) (rs : List Region) (place : ℕ) (x : List ℕ) (ps : List Part) → PartsName P ps
      → Named (part_found at s rs place (part_in ps x))
  part_named at s rs place x [] h = tt
  part_named at s rs place x (p ∷ ps) h = by (bytes_eq p.name x) (part_named at s rs place x ps h.1)
    where
      typed : (o : Option StaticType) → NamesIfKnown P o → Named (part_typed at s rs o)
      typed None k = tt
      typed (Some t) k = renamed_named P (argument rs) t k

      by : (b : Bool) → Named (part_found at s rs place (part_in ps x)) → Named (part_found at s rs place (if b then Some p else part_in ps x))
      by true others = typed p.type h.0
      by false others = others

  parts_named : (x : List ℕ) (e : Option Entry) → MeansNamed P x e → PartsName P (parts_of_tag (as_tag e))
  parts_named x None h = tt
  parts_named x (Some (OfTag t)) h = h.parts
  parts_named x (Some (OfValue v)) h = tt
  parts_named x (Some (OfFunction s)) h = tt
  parts_named x (Some (OfBuiltin n)) h = tt
  parts_named x (Some OfOther) h = tt

  -- the members of each tag
  pub tag_parts_named : (g : Env) (tag : List ℕ) → KnowsKinds P g → PartsName P (parts_of_tag (as_tag (find g.tables tag)))
  tag_parts_named g tag k = parts_named tag (find g.tables tag) (k.tables tag)

  of_part_named : (g : Env) (at : ℕ) (s : Seat) (tag : List ℕ) (rs : List Region) (f : tree.Name) → KnowsKinds P g → Named (part_of g at s tag rs f)
  of_part_named g at s tag rs f k =
      part_named at s rs f.at f.text (parts_of_tag (as_tag (find g.tables tag))) (tag_parts_named g tag k)

  pub member_named : (g : Env) (f : tree.Name) (at : ℕ) (t : StaticType) (s : Seat) → KnowsKinds P g → Named (member_of g f at t s)
  member_named g f at t Nowhere k = tt
  member_named g f at (Struct tag rs) (In r) k = of_part_named g at (In r) tag rs f k
  member_named g f at (Struct tag rs) InBlock k = of_part_named g at InBlock tag rs f k
  member_named g f at _ (In r) k = tt
  member_named g f at _ InBlock k = tt

  arrow_live_named : (b : Bool) (g : Env) (f : tree.Name) (at : ℕ) (r : Region) (tag : List ℕ) (rs : List Region) → KnowsKinds P g
      → Named (arrow_live b g f at r tag rs)
  arrow_live_named true g f at r tag rs k = of_part_named g at (In r) tag rs f k
  arrow_live_named false g f at r tag rs k = tt

  pub arrow_named : (g : Env) (f : tree.Name) (at : ℕ) (t : StaticType) → KnowsKinds P g → Named (arrow_of g f at t)
  arrow_named g f at (Thin n r (Struct tag rs)) k = arrow_live_named (is_live g r) g f at r tag rs k
  arrow_named g f at (Fat r (Struct tag rs)) k = arrow_live_named (is_live g r) g f at r tag rs k
  arrow_named g f at (Unique n (Struct tag rs)) k = of_part_named g at InBlock tag rs f k
  arrow_named g f at _ k = tt

  stored_named : (g : Env) (t : StaticType) → NamesStructs P t → NamesStructs P (assigned_type g t)
  stored_named g (Struct tag rs) h = tt
  stored_named g (Union tag rs) h = tt
  stored_named g t h = by (is_copyable g.tables t) t h
    where
      by : (b : Bool) (t : StaticType) → NamesStructs P t → NamesStructs P (if_copyable b t)
      by true t h = h
      by false t h = tt

  pub assigned_named : (g : Env) (to from : Value) → ValueNames P to → Named (assigned g to from)
  assigned_named g to from h = by (is_place to.seat)
    where
      by : (b : Bool) → Named (assigned_in b g to from)
      by true = perhaps_unless (λ a. ValueNames P a) (converts g from to.type) (value to.at (assigned_type g to.type)) (stored_named g to.type h)
      by false = tt

  -- ---- makings

  pub made_named : (at : ℕ) (x : Goal) (v : Value) → ValueNames P v → Named (made at x v)
  made_named at x v h = perhaps_fitting (λ a. ValueNames P a) (is_makeable v.type) at v.type (made_to at x) (by x)
    where
      by : (x : Goal) → Named (made_to at x v.type)
      by (To r) = h
      by ToUnique = h
      by NoHandle = tt

  pub array_named : (at : ℕ) (x : Goal) (c v : Value) → ValueNames P v → Named (array_made at x (c, v))
  array_named at x c v h = perhaps_fitting (λ a. ValueNames P a) (is_integer c.type && is_makeable v.type) at v.type (array_to at x) (by x)
    where
      by : (x : Goal) → Named (array_to at x v.type)
      by (To r) = h
      by ToUnique = tt
      by NoHandle = tt
