-- What the making of a tagged union denotes: it holds one member's value.
use Rattle.std.proofs.Common.{◌≡◌, ℕ, Bool, true, false, inl, inr, Option, Some, None, List, [], ◌∷◌, refl, sym, ◌∙◌, ap, subst, ◌≤◌}
use Rattle.std.specs.Prelude.{map, slice_get}
use Rattle.std.proofs.lemmas.Bool.{false≢true}
use Rattle.cyc_tree.specs.Tree as tree
use Rattle.source_meaning.specs.Shapes.{Shape, UnionShape, part_position, part_shape, parts_of}
use Rattle.source_meaning.specs.Memory.{Region, Scalar, Tagged}
use Rattle.source_meaning.specs.Steps.{Scope, Act, give, ◌>>=◌, need}
use Rattle.source_meaning.specs.Conversions.{converted, one}
use Rattle.source_meaning.specs.Places.{Sense}
use Rattle.source_meaning.specs.Calls.{union_made}
use Rattle.source_typing.specs.Verdicts.{Of, other_kind}
use Rattle.source_typing.specs.Written.{if_sound}
use Rattle.source_typing.specs.Calls as rules
use Rattle.source_typing.specs.Calls.{arguments_fit, union_tag, union_member}
use Rattle.source_typing.specs.Fixing.{all_fits, fixed_from}
use Rattle.source_typing.specs.Moves.{Use, value_use}
use Rattle.source_typing.specs.States.{States}
use Rattle.source_typing.specs.Scope.{Env, Enclosing, Value, meant, value}
use Rattle.source_typing.specs.Tables.{Entry, OfValue, OfTag, OfFunction, OfBuiltin, OfOther, Stored, Arrayed, Counter, Unknown, Part, Tag, argument, as_tag}
use Rattle.source_typing.specs.Tables.{part_in, parts_in, parts_of_tag}
use Rattle.source_typing.specs.Types.{StaticType, Union, renamed, shape_of}
use Rattle.source_typing.specs.Named.{AllBelow}
use Rattle.source_typing.proofs.Inversion.{of_is, after_is}
use Rattle.source_typing.proofs.CallsFit.{AllConvert, Arguments, arguments_are}
use Rattle.type_proof.specs.Entries.{PlainEntry, Unioned}
use Rattle.type_proof.specs.Flat.{Tables, filled}
use Rattle.type_proof.specs.Structs.{AreMembers, IsUnionMember}
use Rattle.type_proof.proofs.invariant.Invariant.{RunType, heap, Nobody, HaveTypes}
use Rattle.type_proof.proofs.invariant.Values.{copied_plain}
use Rattle.type_proof.proofs.invariant.After.{flying}
use Rattle.type_proof.proofs.invariant.Layouts.{Structs, agrees, member_types, members_at}
use Rattle.type_proof.proofs.invariant.Names.{NameOf}
use Rattle.type_proof.proofs.invariant.Runs.{Safe}
use Rattle.type_proof.proofs.invariant.Scenes.{Scene, scene_later}
use Rattle.type_proof.proofs.invariant.Sound.{cells_type, Gives}
use Rattle.type_proof.proofs.invariant.Unions.{Placed, part_placed, held_object, held_renamed, held_cell, held_copied, held_plain, held_at, mapped_at}
use Rattle.type_proof.proofs.invariant.Unions.{unions_typed, union_parts_are}
use Rattle.type_proof.proofs.expressions.Words.{OneValue, one_value, grown_itself, object_renamed}
use Rattle.type_proof.proofs.expressions.Fixed.{EnclosingBelow, within, fixed_within}
use Rattle.type_proof.proofs.expressions.Calling.{AllPass}
use Rattle.type_proof.proofs.expressions.Members.{member_run}
use Rattle.type_proof.proofs.expressions.CallForms.{tag_found}
use Rattle.type_proof.proofs.expressions.WordRules.{Valued, value_of}
use Rattle.type_proof.proofs.expressions.Forms.{Denotes, denotes_value}
use Rattle.type_proof.proofs.expressions.Applied.{all_pass}
use Rattle.type_proof.proofs.Entries.{MeansPlain}

-- ---- the union and its member

-- the union that a name means, and the member of a name
pub record OfUnion (o : Option Entry) (f : List ℕ) (p : Tag × Part) : Type 0 where
  pub tag : Tag
  pub is : o ≡ Some (OfTag tag)
  pub union : tag.is_union ≡ true
  pub part : Part
  pub found : part_in tag.parts f ≡ Some part
  pub same : (tag, part) ≡ p

pub union_is : (at f : tree.Name) (o : Option Entry) (p : Tag × Part) → union_tag at f o ≡ Of p → OfUnion o f.text p
union_is at f None p e = absurd cc
union_is at f (Some (OfTag t)) p e = by_sound t.sound e
  where
    by_part : (q : Option Part) → part_in t.parts f.text ≡ q → t.is_union ≡ true → union_member f t q ≡ Of p → OfUnion (Some (OfTag t)) f.text p
    by_part None z u h = absurd cc
    by_part (Some q) z u h = record { tag = t; is = refl; union = u; part = q; found = z; same = of_is (t, q) p h }

    by_kind : (c : Bool) → t.is_union ≡ c → rules.if_union c at f t ≡ Of p → OfUnion (Some (OfTag t)) f.text p
    by_kind true z h = by_part (part_in t.parts f.text) refl z h
    by_kind false z h = absurd cc

    by_sound : (c : Bool) → if_sound c (rules.if_union t.is_union at f t) ≡ Of p → OfUnion (Some (OfTag t)) f.text p
    by_sound true h = by_kind t.is_union refl h
    by_sound false h = absurd cc
union_is at f (Some (OfValue (Stored t r))) p e = absurd cc
union_is at f (Some (OfValue (Arrayed t r))) p e = absurd cc
union_is at f (Some (OfValue Counter)) p e = absurd cc
union_is at f (Some (OfValue (Unknown true))) p e = absurd cc
union_is at f (Some (OfValue (Unknown false))) p e = absurd cc
union_is at f (Some (OfFunction s)) p e = absurd (never s.sound e)
  where
    never : (c : Bool) → other_kind c at.at ≡ Of p → ⊥
    never true h = cc
    never false h = cc
union_is at f (Some (OfBuiltin c)) p e = absurd cc
union_is at f (Some OfOther) p e = absurd cc

union_there : (world : _) (x : List ℕ) (t : Tag) → t.is_union ≡ true → PlainEntry world x (OfTag t) → Unioned world x t
union_there world x t u (inl k) = absurd (false≢true (sym k.no_union ∙ u))
union_there world x t u (inr k) = k

module _ (n : ℕ) (d : Tables) (g : Env) (scope : Scope) (f : NameOf → Region) (b : ℕ) (low : ℕ) (structs : Structs d scope.world g.tables) where
  -- ---- its value

  -- the value of a member, with its position
  gives_tagged : (s s2 : States) (x name : List ℕ) (rs : List NameOf) (part : Part) (act : Act (List Scalar))
      → (p : Placed (parts_of scope.world.unions x) (member_types d.unions x) name part) → Gives n d g scope f b low s s2 (renamed (argument rs) p.type) act
      → Gives n d g scope f b low s s2 (Union x rs)
      (act >>= one >>= λ v. need (part_position (parts_of scope.world.unions x) name) >>= λ k. give (Tagged k v ∷ []))
  gives_tagged s s2 x name rs part act p gives = λ i w m inv q. record {
    by = λ next go. (gives i w m inv q).by (λ vs. (one vs >>= λ v. need (part_position (parts_of scope.world.unions x) name) >>= λ j. give (Tagged j v ∷ []))
        next) (λ vs m1 y.
        let q1 : Scene d g scope f b low s2 i y.ghost m1 = scene_later d g scope f b low s s2 i w m y.ghost m1 y.inv y.grows y.holds.1 q in
        let cell : cells_type d f (renamed (argument rs) p.type) ≡ renamed f (renamed (argument rs) p.type) ∷ [] =
        held_cell d f (renamed (argument rs) p.type) (held_renamed (argument rs) p.type (object_renamed (argument rs)) held) in
        let v : OneValue d y.ghost (flying i 0 0) vs (renamed f (renamed (argument rs) p.type)) =
        one_value d y.ghost (flying i 0) vs (renamed f (renamed (argument rs) p.type))
        (subst (λ (ts : List RunType). HaveTypes d y.ghost (flying i 0) vs ts) cell y.holds.0) in
        let run : renamed f (renamed (argument rs) p.type) ≡ renamed (filled heap (map f rs)) p.type =
        member_run f rs p.type q1.names.heap_is (held_object p.type held) in
        subst (λ (us : List Scalar). Safe n ((one us >>= λ v. need (part_position (parts_of scope.world.unions x) name) >>= λ j. give (Tagged j v ∷ [])) next
        m1)) (sym v.is)
        (subst (λ (o : Option ℕ). Safe n ((need o >>= λ j. give (Tagged j v.value ∷ [])) next m1)) (sym p.found)
        (go (Tagged p.position v.value ∷ []) m1 (record {
          ghost = y.ghost;
          inv = y.inv;
          grows = y.grows;
          holds = (
            (
              record {
                position = p.position;
                type = renamed (filled heap (map f rs)) p.type;
                value = v.value;
                is = refl;
                part = ap (λ (ts : List RunType). slice_get ts p.position) (union_parts_are d.unions x (map f rs))
                    ∙ mapped_at (renamed (filled heap (map f rs))) (member_types d.unions x) p.position p.type p.here;
                copied = held_copied (filled heap (map f rs)) p.type held;
                typed = copied_plain d y.ghost y.ghost (flying i 0 0) Nobody v.value (renamed (filled heap (map f rs)) p.type) (grown_itself y.ghost)
                    (held_copied (filled heap (map f rs)) p.type held)
                    (held_plain d (filled heap (map f rs)) y.ghost (flying i 0 0) v.value p.type held
                    (subst (λ (t : RunType). Rattle.type_proof.proofs.invariant.Invariant.HasType d y.ghost (flying i 0 0) v.value t) run v.typed));
              },
              tt,
            ),
            q1.stands,
          );
        }))));
  }
    where
      held : IsUnionMember p.type
      held = held_at (member_types d.unions x) p.position p.type (unions_typed d.unions scope.world.unions x structs.unions) p.here

  pub denotes_union : b ≤ low → (i : Enclosing) → EnclosingBelow g.regions.count i → (tag m : tree.Name) (p : Tag × Part) (a v : Value) (u : Use) (e : Sense)
      → MeansPlain scope.world g
      → union_tag tag m (meant (within i g) tag.text) ≡ Of p → Denotes n d g scope f b low a u e → rules.union_made (within i g) tag.at p a ≡ Of v
      → Denotes n d g scope f b low v (value_use u.value) (union_made scope.world tag.text m.text e)
  denotes_union loudly i inside tag m p a v u e plain is h j =
      by (union_is tag m (meant (within i g) tag.text) p is)
    where
      by : OfUnion (meant (within i g) tag.text) m.text p → Denotes n d g scope f b low v (value_use u.value) (union_made scope.world tag.text m.text e)
      by o =
          let x : List ℕ = tag.text in
          let k : Unioned scope.world x o.tag = union_there scope.world x o.tag o.union (plain x (OfTag o.tag) o.is) in
          let parts : parts_in g.tables x ≡ o.tag.parts = ap (λ (z : Option Entry). parts_of_tag (as_tag z)) (tag_found g x o.tag o.is) in
          let members : AreMembers o.tag.parts (parts_of scope.world.unions x) (member_types d.unions x) =
          subst (λ (ps : List Part). AreMembers ps (parts_of scope.world.unions x) (member_types d.unions x)) parts
          (members_at g.tables d.unions scope.world.unions x structs.unions_laid k.there) in
          let q : Placed (parts_of scope.world.unions x) (member_types d.unions x) m.text o.part =
          part_placed o.tag.parts (parts_of scope.world.unions x) (member_types d.unions x) m.text o.part members o.found in
          let held : IsUnionMember q.type = held_at (member_types d.unions x) q.position q.type (unions_typed d.unions scope.world.unions x structs.unions)
          q.here in
          let made : rules.union_made (within i g) tag.at (o.tag, o.part) a ≡ Of v =
          subst (λ (y : Tag × Part). rules.union_made (within i g) tag.at y a ≡ Of v) (sym o.same) j in
          let z : (rs : List NameOf) × (arguments_fit (within i g) tag.at o.tag.regions (o.part.type ∷ []) (a ∷ []) ≡ Of rs)
          × (value tag.at (Union o.tag.text rs) ≡ Of v) =
          after_is (arguments_fit (within i g) tag.at o.tag.regions (o.part.type ∷ []) (a ∷ [])) (λ rs. value tag.at (Union o.tag.text rs)) v made in
          let c : Arguments (within i g) (o.part.type ∷ []) (a ∷ []) (fixed_from i tag.at (all_fits (o.part.type ∷ []) (a ∷ [])) 0 o.tag.regions) z.0 =
          arguments_are (within i g) tag.at o.tag.regions (o.part.type ∷ []) (a ∷ []) z.0 z.1 in
          let below : AllBelow g.regions.count z.0 =
          fixed_within g.regions.count tag.at o.tag.regions i (q.type ∷ []) (a ∷ []) z.0 inside (held_object q.type held, tt) (h.below, tt)
          (subst (λ (t : Option StaticType). fixed_from i tag.at (all_fits (t ∷ []) (a ∷ [])) 0 o.tag.regions ≡ Of z.0) q.typed c.found) in
          let valued : Valued v (Union x z.0) = subst (λ (y : List ℕ). Valued v (Union y z.0)) k.named (value_of tag.at (Union o.tag.text z.0) v z.2) in
          let pass : AllPass n d g scope f b low (shape_of q.type ∷ []) (renamed (argument z.0) q.type ∷ []) (u ∷ []) (e ∷ []) =
          all_pass n d g scope f b low loudly (agrees d scope.world g.tables structs) z.0 (q.type ∷ []) (a ∷ []) (u ∷ []) (e ∷ [])
          (held_object q.type held, tt) refl
          (subst (λ (t : Option StaticType). AllConvert (within i g) z.0 (t ∷ []) (a ∷ [])) q.typed c.convert) (h, tt) in
          denotes_value n d g scope f b low v u.value (Union x z.0) (UnionShape x) _ tt below valued refl
          (λ s y. gives_tagged s (u.value s).states x m.text z.0 o.part
          (e.value >>= converted scope.world (part_shape (parts_of scope.world.unions x) m.text) e.shape) q
          (subst (λ (t : Shape). Gives n d g scope f b low s (u.value s).states (renamed (argument z.0) q.type) (e.value >>= converted scope.world t e.shape))
          (sym q.shape)
          (pass.0 s y)))
