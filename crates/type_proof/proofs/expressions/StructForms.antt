-- What members of structs and makings of structs denote, from what their parts do.
use Rattle.std.proofs.Common.{◌≡◌, ℕ, Bool, true, false, ◌⊎◌, inl, inr, Some, List, refl, sym, ◌∙◌, ap, subst, ◌≤◌}
use Rattle.std.specs.Prelude.{map, ◌++◌, bytes_eq, codes, length, nat_eq, if◌then◌else◌}
use Rattle.std.proofs.lemmas.Bool.{eqb-true}
use Rattle.cyc_tree.specs.Tree as tree
use Rattle.source_meaning.specs.Shapes as shapes
use Rattle.source_meaning.specs.Shapes.{Shape, IntShape, StructShape, has_tag, parts_of, part_shape, part_shapes}
use Rattle.source_meaning.specs.Sizes.{cells_before}
use Rattle.source_meaning.specs.Memory.{Region, Spot, beyond}
use Rattle.source_meaning.specs.Steps.{Scope, Act, give, ◌>>=◌}
use Rattle.source_meaning.specs.Conversions.{cells_of}
use Rattle.source_meaning.specs.Places.{Sense, value_sense, place_sense, struct_parts, contents, member}
use Rattle.source_meaning.specs.Calls.{call_sense, converted_all, struct_made, called, function_of, read_byte, write_byte}
use Rattle.source_typing.specs.Verdicts.{Of}
use Rattle.source_typing.specs.Calls.{ToStruct, arguments_fit, part_types}
use Rattle.source_typing.specs.Calls as rules_of_calls
use Rattle.source_typing.specs.Fixing.{all_fits, fixed_from}
use Rattle.source_typing.specs.Places as places
use Rattle.source_typing.specs.Scope.{Env, Enclosing, Value, Seat, In, InBlock, is_place, value}
use Rattle.source_typing.specs.Tables as typing
use Rattle.source_typing.specs.Tables.{Entry, OfTag, Part, Tag, find, as_tag, tag_in, parts_of_tag, parts_in, argument, is_copyable}
use Rattle.source_typing.specs.Types.{StaticType, Int, Unsigned, Char, Void, Null, Thin, Fat, Unique, Handle, Key, Struct, Union, renamed, shape_of}
use Rattle.source_typing.proofs.Inversion.{after_is}
use Rattle.source_typing.proofs.PlacesFit.{HasPart, MemberOf, ArrowTo, member_is, arrow_is}
use Rattle.source_typing.proofs.CallsFit.{AllConvert, Arguments, arguments_are}
use Rattle.type_proof.specs.Entries.{IsObjectType, Structure}
use Rattle.type_proof.specs.Members.{names_union, IsNoUnion, LeadsToNoUnion}
use Rattle.source_typing.specs.Moves.{Use, value_use, place_use, member_use, copy_if}
use Rattle.source_typing.specs.States.{then_passed}
use Rattle.type_proof.specs.Flat.{Tables, filled, flat, flat_all}
use Rattle.source_typing.specs.Named.{AllBelow, TypeBelow}
use Rattle.type_proof.specs.Structs.{AreMembers}
use Rattle.type_proof.proofs.invariant.Names.{NameOf}
use Rattle.type_proof.proofs.invariant.Sound.{shape_renamed, cells_type, FindsAny, Sound}
use Rattle.type_proof.proofs.expressions.Places.{sound_placed}
use Rattle.type_proof.proofs.expressions.Owned.{finds_own_part, sound_part}
use Rattle.type_proof.proofs.expressions.Parts as parts_of_cells
use Rattle.type_proof.proofs.expressions.Parts.{member_cells}
use Rattle.type_proof.proofs.invariant.Invariant.{RunType, heap}
use Rattle.type_proof.proofs.invariant.Copyable.{copyable_copied}
use Rattle.type_proof.proofs.invariant.Layouts.{member_types, members_typed, members_at, struct_is, Structs, agrees}
use Rattle.type_proof.proofs.expressions.Words.{IsSimple, object_simple, object_renamed}
use Rattle.type_proof.proofs.expressions.Fixed.{EnclosingBelow, object_below, within, fixed_within}
use Rattle.type_proof.proofs.expressions.Calling.{AllPass, all_values, all_passed}
use Rattle.type_proof.proofs.expressions.Members.{Found, member_found, member_run, struct_there, members_objects, members_known, members_shaped, finds_member}
use Rattle.type_proof.proofs.expressions.Members.{gives_made}
use Rattle.type_proof.proofs.expressions.WordRules.{SeatKnown, SeatLives, Valued, value_of, IsPointer, IsThin, IsFat, IsUnique, pointer_contents}
use Rattle.type_proof.proofs.expressions.Forms.{Denotes, Refuses, denotes_value, refuses_place}
use Rattle.type_proof.proofs.expressions.Contents.{denotes_contents}
use Rattle.type_proof.proofs.expressions.Applied.{AllDenote, values_below, all_pass}

-- ---- what has members

-- a struct with a member
pub record OfStruct (g : Env) (x : List ℕ) (t : StaticType) (s : Seat) (v : Value) : Type 0 where
  pub tag : List ℕ
  pub regions : List NameOf
  pub is : t ≡ Struct tag regions
  pub part : HasPart g tag regions x s v

of_struct : (g : Env) (x : List ℕ) (t : StaticType) (s : Seat) (v : Value) → MemberOf g x t s v → OfStruct g x t s v
of_struct g x Int s v h = absurd h
of_struct g x Unsigned s v h = absurd h
of_struct g x Char s v h = absurd h
of_struct g x Void s v h = absurd h
of_struct g x Null s v h = absurd h
of_struct g x (Thin n r t) s v h = absurd h
of_struct g x (Fat r t) s v h = absurd h
of_struct g x (Unique n t) s v h = absurd h
of_struct g x (Handle r) s v h = absurd h
of_struct g x (Key r) s v h = absurd h
of_struct g x (Struct tag rs) s v h = record { tag = tag; regions = rs; is = refl; part = h }
of_struct g x (Union tag rs) s v h = absurd h

-- a pointer to one, into a live region or to a block
pub record ToMember (g : Env) (x : List ℕ) (t : StaticType) (v : Value) : Type 0 where
  pub seat : Seat
  pub tag : List ℕ
  pub regions : List NameOf
  pub is : IsPointer t seat (Struct tag regions)
  pub live : SeatLives g seat
  pub part : HasPart g tag regions x seat v

unique_to_member : (g : Env) (x : List ℕ) (n : Bool) (t : StaticType) (v : Value) → ArrowTo g x (Unique n t) v → ToMember g x (Unique n t) v
unique_to_member g x n Int v h = absurd h
unique_to_member g x n Unsigned v h = absurd h
unique_to_member g x n Char v h = absurd h
unique_to_member g x n Void v h = absurd h
unique_to_member g x n Null v h = absurd h
unique_to_member g x n (Thin m q t) v h = absurd h
unique_to_member g x n (Fat q t) v h = absurd h
unique_to_member g x n (Unique m t) v h = absurd h
unique_to_member g x n (Handle q) v h = absurd h
unique_to_member g x n (Key q) v h = absurd h
unique_to_member g x n (Struct tag rs) v h = record { seat = InBlock; tag = tag; regions = rs; is = IsUnique; live = tt; part = h }
unique_to_member g x n (Union tag rs) v h = absurd h

thin_to_member : (g : Env) (x : List ℕ) (n : shapes.Reach) (r : NameOf) (t : StaticType) (v : Value) → ArrowTo g x (Thin n r t) v → ToMember g x (Thin n r t) v
thin_to_member g x n r Int v h = absurd h
thin_to_member g x n r Unsigned v h = absurd h
thin_to_member g x n r Char v h = absurd h
thin_to_member g x n r Void v h = absurd h
thin_to_member g x n r Null v h = absurd h
thin_to_member g x n r (Thin m q t) v h = absurd h
thin_to_member g x n r (Fat q t) v h = absurd h
thin_to_member g x n r (Unique m t) v h = absurd h
thin_to_member g x n r (Handle q) v h = absurd h
thin_to_member g x n r (Key q) v h = absurd h
thin_to_member g x n r (Struct tag rs) v h = record { seat = In r; tag = tag; regions = rs; is = IsThin; live = h.0; part = h.1 }
thin_to_member g x n r (Union tag rs) v h = absurd h

fat_to_member : (g : Env) (x : List ℕ) (r : NameOf) (t : StaticType) (v : Value) → ArrowTo g x (Fat r t) v → ToMember g x (Fat r t) v
fat_to_member g x r Int v h = absurd h
fat_to_member g x r Unsigned v h = absurd h
fat_to_member g x r Char v h = absurd h
fat_to_member g x r Void v h = absurd h
fat_to_member g x r Null v h = absurd h
fat_to_member g x r (Thin m q t) v h = absurd h
fat_to_member g x r (Fat q t) v h = absurd h
fat_to_member g x r (Unique m t) v h = absurd h
fat_to_member g x r (Handle q) v h = absurd h
fat_to_member g x r (Key q) v h = absurd h
fat_to_member g x r (Struct tag rs) v h = record { seat = In r; tag = tag; regions = rs; is = IsFat; live = h.0; part = h.1 }
fat_to_member g x r (Union tag rs) v h = absurd h

to_member : (g : Env) (x : List ℕ) (t : StaticType) (v : Value) → IsSimple t → ArrowTo g x t v → ToMember g x t v
to_member g x Int v p h = absurd h
to_member g x Unsigned v p h = absurd h
to_member g x Char v p h = absurd h
to_member g x Void v p h = absurd h
to_member g x Null v p h = absurd h
to_member g x (Thin n r t) v p h = thin_to_member g x n r t v h
to_member g x (Fat r t) v p h = fat_to_member g x r t v h
to_member g x (Unique n t) v p h = unique_to_member g x n t v h
to_member g x (Handle r) v p h = absurd h
to_member g x (Key r) v p h = absurd h
to_member g x (Struct tag rs) v p h = absurd h
to_member g x (Union tag rs) v p h = absurd h

-- what a pointer leads to is no union's
leads_to : (tables : typing.Tables) (t u : StaticType) (s : Seat) → IsPointer t s u → LeadsToNoUnion tables t → IsNoUnion tables u
leads_to tables t u s IsThin h = h
leads_to tables t u s IsFat h = h
leads_to tables t u s IsUnique h = h

pointer_place : (t u : StaticType) (s : Seat) → IsPointer t s u → is_place s ≡ true
pointer_place t u s IsThin = refl
pointer_place t u s IsFat = refl
pointer_place t u s IsUnique = refl

module _ (n : ℕ) (d : Tables) (g : Env) (scope : Scope) (f : NameOf → Region) (b : ℕ) (low : ℕ) (structs : Structs d scope.world g.tables) where
  -- ---- members

  -- a member of a struct that is a place
  denotes_part : (i : Enclosing) (tag : List ℕ) (rs : List NameOf) (x : List ℕ) (seat : Seat) (place : ℕ) (moves po : Bool) (a v : Value) (u : Use) (e : Sense)
      → names_union (tag_in g.tables tag) ≡ false → (u.own ≡ true → po ≡ true) → (moves ≡ false → is_copyable g.tables v.type ≡ true)
      → Denotes n d g scope f b low a u e → a.type ≡ Struct tag rs → is_place seat ≡ true → a.seat ≡ seat → HasPart (within i g) tag rs x seat v
      → Denotes n d g scope f b low v (place_use place moves po u.look) (member scope.world e x)
  denotes_part i tag rs x seat place moves po a v u e apart mine copied h t here s p = record {
    simple = object_simple v.type object;
    below = subst (λ (y : StaticType). TypeBelow g.regions.count y) (sym type) (object_below g.regions.count rs p.type found.object below);
    seated = subst (λ (y : Seat). SeatKnown g.regions y) (s ∙ sym p.is.1) h.seated;
    place = λ z. object;
    own = h.own;
    sound = by h.sound;
  }
    where
      Promise : Bool → List shapes.Part → Type 0
      Promise own ps = Sound n d g scope f b low v (place_use place moves po u.look) own
          (place_sense scope.world (part_shape ps x) (e.place >>= λ s. give (beyond s (cells_before (cells_of scope.world) ps x))))

      some : a.type ≡ Void → ⊥
      some z = let y : Struct tag rs ≡ Void = sym t ∙ z in cc

      below : AllBelow g.regions.count rs
      below = subst (λ (y : StaticType). TypeBelow g.regions.count y) t h.below

      there : AreMembers (parts_in g.tables tag) (parts_of scope.world.structs tag) (member_types d.structs tag)
      there = members_at g.tables d.structs scope.world.structs tag structs.laid_out (struct_there d scope.world g.tables tag x p.part structs apart p.found)

      found : Found d.structs (parts_of scope.world.structs tag) x p.type
      found = member_found d.structs (parts_in g.tables tag) (parts_of scope.world.structs tag) (member_types d.structs tag) x p.part p.type there
          (members_typed d.structs tag structs.in_order) p.found p.typed

      type : v.type ≡ renamed (argument rs) p.type
      type = p.is.0

      object : IsObjectType v.type
      object = subst IsObjectType (sym type) (object_renamed (argument rs) p.type found.object)

      shaped : part_shape (parts_of scope.world.structs tag) x ≡ shape_of v.type
      shaped = found.shape ∙ (sym (shape_renamed (argument rs) p.type) ∙ ap shape_of (sym type))

      act : Act Spot
      act = e.place >>= λ s. give (beyond s (cells_before (cells_of scope.world) (parts_of scope.world.structs tag) x))

      -- where it is a part of a local, so is the member
      part : (own : Bool) → (own ≡ true → u.own ≡ true) → FindsAny n d g scope f b low u.look own a.seat a.type e.place
          → Promise own (parts_of scope.world.structs tag)
      part false is z =
          let finds : FindsAny n d g scope f b low u.look false seat (Struct tag rs) e.place =
          subst (λ (y : StaticType). FindsAny n d g scope f b low u.look false seat y e.place) t
          (subst (λ (q : Seat). FindsAny n d g scope f b low u.look false q a.type e.place) s z) in
          sound_placed n d g scope f b low (agrees d scope.world g.tables structs) v place moves po u.look (part_shape (parts_of scope.world.structs tag) x) _
          shaped (λ q. copyable_copied d scope.world g.tables f v.type structs (copied q))
          (subst (λ (q : Seat). FindsAny n d g scope f b low u.look false q v.type act) (sym p.is.1)
          (subst (λ (y : StaticType). FindsAny n d g scope f b low u.look false seat y act)
          (sym type) (finds_member n d g scope f b low structs u.look tag rs x p.part p.type seat e.place apart p.found p.typed finds)))
      part true is z =
          let k : parts_of_cells.Part d (filled heap (map f rs)) (flat_all (flat heap d) (map (renamed (filled heap (map f rs))) (member_types d.structs tag)))
          (cells_before (cells_of scope.world) (parts_of scope.world.structs tag) x) p.type =
          member_cells d scope.world (filled heap (map f rs)) (agrees d scope.world g.tables structs) (parts_in g.tables tag) (parts_of scope.world.structs tag)
          (member_types d.structs tag) x p.part p.type there p.found p.typed in
          sound_part n d g scope f b low (agrees d scope.world g.tables structs) v place moves po (mine (is refl)) u.look
          (part_shape (parts_of scope.world.structs tag) x) act
          shaped (λ q. copyable_copied d scope.world g.tables f v.type structs (copied q))
          (finds_own_part n d g scope f b low (agrees d scope.world g.tables structs) u.look v.seat a.type v.type e.place
          (cells_before (cells_of scope.world) (parts_of scope.world.structs tag) x) k.first k.others
          (λ here. ap (cells_type d f) t ∙ (struct_is d.structs tag (map f rs) structs.in_order
          ∙ (k.cells ∙ ap (λ (q : RunType). k.first ++ (flat heap d q ++ k.others))
          (sym (member_run f rs p.type here found.object) ∙ ap (renamed f) (sym type))))) k.count z)

      by : Sound n d g scope f b low a u h.own e ⊎ Refuses n d g scope f b low u
          → Sound n d g scope f b low v (place_use place moves po u.look) h.own (member scope.world e x)
          ⊎ Refuses n d g scope f b low (place_use place moves po u.look)
      by (inr r) = inr (refuses_place n d g scope f b low place moves po u.look r.look)
      by (inl y) =
          let parts : struct_parts scope.world e.shape ≡ parts_of scope.world.structs tag = ap (struct_parts scope.world) (y.shape some ∙ ap shape_of t) in
          inl (subst (λ (ps : List shapes.Part). Promise h.own ps) (sym parts) (part h.own y.owned (y.place (ap is_place s ∙ here))))

  pub denotes_member : (i : Enclosing) (x : tree.Name) (place : ℕ) (moves : Bool) (a v : Value) (u : Use) (e : Sense) → IsNoUnion g.tables a.type
      → (moves ≡ false → is_copyable g.tables v.type ≡ true)
      → Denotes n d g scope f b low a u e
      → places.member (within i g) x a ≡ Of v → Denotes n d g scope f b low v (member_use place moves u) (member scope.world e x.text)
  denotes_member i x place moves a v u e apart copied h j =
      let y : (is_place a.seat ≡ true) × MemberOf (within i g) x.text a.type a.seat v = member_is (within i g) x a.at a.type a.seat v j in
      let z : OfStruct (within i g) x.text a.type a.seat v = of_struct (within i g) x.text a.type a.seat v y.1 in
      denotes_part i z.tag z.regions x.text a.seat place moves u.own a v u e (subst (λ (t : StaticType). IsNoUnion g.tables t) z.is apart) (λ c. c) copied
      h z.is y.0 refl z.part

  pub denotes_arrow : (i : Enclosing) → g.lenient ≡ false → (x : tree.Name) (place : ℕ) (moves through : Bool) (a v : Value) (u : Use) (e : Sense)
      → LeadsToNoUnion g.tables a.type → (moves ≡ false → is_copyable g.tables v.type ≡ true)
      → (through ≡ false → (c : Bool) (t : StaticType) → a.type ≡ Unique c t → u.whole ≡ true) → Denotes n d g scope f b low a u e
      → places.arrow (within i g) x a ≡ Of v
      → Denotes n d g scope f b low v (place_use place moves false (λ s. then_passed (u.look s) (copy_if through place)))
      (member scope.world (contents scope.world e) x.text)
  denotes_arrow i strict x place moves through a v u e apart copied whole h j =
      let z : ToMember (within i g) x.text a.type v = to_member (within i g) x.text a.type v h.simple (arrow_is (within i g) x a.at a.type v j) in
      let at : Value = record { at = a.at; type = Struct z.tag z.regions; seat = z.seat } in
      let found : places.contents (within i g) a.at a ≡ Of at =
      pointer_contents (within i g) a.at a.type (Struct z.tag z.regions) z.seat z.is z.live in
      denotes_part i z.tag z.regions x.text z.seat place moves false at v (place_use place true false (λ s. then_passed (u.look s) (copy_if through place)))
      (contents scope.world e) (leads_to g.tables a.type (Struct z.tag z.regions) z.seat z.is apart) (λ c. absurd cc) copied
      (denotes_contents n d g scope f b low i strict structs a.at place true through a at u e (λ c. absurd cc) whole h found) refl
      (pointer_place a.type (Struct z.tag z.regions) z.seat z.is) refl
      z.part

  -- ---- makings

  pub called_struct : b ≤ low → (i : Enclosing) → EnclosingBelow g.regions.count i → (at : ℕ) (x : List ℕ) (t : Tag) (vs : List Value) (us : List Use)
      (es : List Sense)
      (v : Value) → Structure scope.world x t
      → find g.tables x ≡ Some (OfTag t) → AllDenote n d g scope f b low vs us es → rules_of_calls.called (within i g) at (ToStruct t) vs ≡ Of v
      → Denotes n d g scope f b low v (value_use (all_values us)) (call_sense scope.world x es)
  called_struct is i inside at x t vs us es v k there h e =
      let z : (rs : List NameOf) × (arguments_fit (within i g) at t.regions (part_types t.parts) vs ≡ Of rs) × (value at (Struct t.text rs) ≡ Of v) =
      after_is (arguments_fit (within i g) at t.regions (part_types t.parts) vs) (λ rs. value at (Struct t.text rs)) v e in
      let a : Arguments (within i g) (part_types t.parts) vs (fixed_from i at (all_fits (part_types t.parts) vs) 0 t.regions) z.0 =
      arguments_are (within i g) at t.regions (part_types t.parts) vs z.0 z.1 in
      let below : AllBelow g.regions.count z.0 =
      fixed_within g.regions.count at t.regions i types vs z.0 inside (members_objects d.structs types (members_typed d.structs x structs.in_order))
      (values_below n d g scope f b low vs us es h)
      (subst (λ (ps : List (Rattle.std.specs.Prelude.Option StaticType)). fixed_from i at (all_fits ps vs) 0 t.regions ≡ Of z.0) known a.found) in
      let valued : Valued v (Struct x z.0) = subst (λ (y : List ℕ). Valued v (Struct y z.0)) k.named (value_of at (Struct t.text z.0) v z.2) in
      let pass : AllPass n d g scope f b low (map shape_of types) (map (renamed (argument z.0)) types) us es =
      all_pass n d g scope f b low is (agrees d scope.world g.tables structs) z.0 types vs us es
      (members_objects d.structs types (members_typed d.structs x structs.in_order))
      (eqb-true _ _ (subst (λ (ps : List (Rattle.std.specs.Prelude.Option StaticType)). nat_eq (length ps) (length vs) ≡ true) known a.count))
      (subst (λ (ps : List (Rattle.std.specs.Prelude.Option StaticType)). AllConvert (within i g) z.0 ps vs) known a.convert) h in
      let made : Denotes n d g scope f b low v (value_use (all_values us)) (struct_made scope.world x es) =
      denotes_value n d g scope f b low v (all_values us) (Struct x z.0) (StructShape x) _ tt below valued refl
      (λ s q. gives_made n d g scope f b low structs s (all_values us s).states x z.0
      (converted_all scope.world (part_shapes (parts_of scope.world.structs x)) es)
      (all_passed n d g scope f b low (part_shapes (parts_of scope.world.structs x)) (map (renamed (argument z.0)) types) us es
      (subst (λ (ss : List Shape). AllPass n d g scope f b low ss (map (renamed (argument z.0)) types) us es) (sym shaped) pass) s q)) in
      subst (λ (c : Bool). Denotes n d g scope f b low v (value_use (all_values us)) (if c then value_sense IntShape (read_byte es)
      else (if bytes_eq x (codes "putchar") then value_sense IntShape (write_byte scope.world es)
      else (if has_tag scope.world.structs x then struct_made scope.world x es else called scope.world (function_of scope.world.functions x) es))))
      (sym k.not_read)
      (subst (λ (c : Bool). Denotes n d g scope f b low v (value_use (all_values us)) (if c then value_sense IntShape (write_byte scope.world es)
      else (if has_tag scope.world.structs x then struct_made scope.world x es else called scope.world (function_of scope.world.functions x) es)))
      (sym k.not_written)
      (subst (λ (c : Bool). Denotes n d g scope f b low v (value_use (all_values us))
      (if c then struct_made scope.world x es else called scope.world (function_of scope.world.functions x) es))
      (sym k.there) made))
    where
      types : List StaticType
      types = member_types d.structs x

      parts : parts_in g.tables x ≡ t.parts
      parts = ap (λ (o : Rattle.std.specs.Prelude.Option Entry). parts_of_tag (as_tag o)) there

      members : AreMembers t.parts (parts_of scope.world.structs x) types
      members = subst (λ (ps : List Part). AreMembers ps (parts_of scope.world.structs x) types) parts
          (members_at g.tables d.structs scope.world.structs x structs.laid_out k.there)

      known : part_types t.parts ≡ map (λ (t : StaticType). Some t) types
      known = members_known t.parts (parts_of scope.world.structs x) types members

      shaped : part_shapes (parts_of scope.world.structs x) ≡ map shape_of types
      shaped = members_shaped t.parts (parts_of scope.world.structs x) types members
