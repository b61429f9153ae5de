-- The clauses of a `switch`: each is a block, in which the name of a member stands for a copy of what the union holds.
use Rattle.std.proofs.Common.{◌≡◌, ◌<◌, arith, ℕ, Bool, true, false, Option, Some, List, [], ◌∷◌, refl, sym, ◌∙◌, ap, subst}
use Rattle.std.specs.Prelude.{bytes_eq, map, ◌+◌, nat_eq, slice_get, if◌then◌else◌, nat_le}
use Rattle.std.proofs.lemmas.Bool.{eqb-true, and_parts, false≢true}
use Rattle.cyc_tree.specs.Tree as tree
use Rattle.cyc_tree.specs.Tree.{Clauses, NoClauses, MoreClauses, BlockItems, Case, Default}
use Rattle.source_meaning.specs.Shapes as shapes
use Rattle.source_meaning.specs.Shapes.{Layout, Shape, has_tag, part_position, part_shape, parts_of}
use Rattle.source_meaning.specs.Memory.{Region, Frame, Spot, Memory, blank_object, is_moved}
use Rattle.source_meaning.specs.Steps.{Variable, World, Scope, Flow, Act, ◌>>=◌, ◌>>◌}
use Rattle.source_meaning.specs.Making.{make_object}
use Rattle.source_meaning.specs.Values.{write_cells}
use Rattle.source_meaning.specs.Conversions.{cells_of}
use Rattle.source_meaning.specs.Places.{or_else, with_binding}
use Rattle.source_meaning.specs.Regions.{in_block, local_with}
use Rattle.source_meaning.specs.Statements as meaning
use Rattle.source_meaning.specs.Statements.{block_items, case_for, default_for, is_position}
use Rattle.source_typing.specs.Left.{Left, entering, left_by_items}
use Rattle.source_typing.specs.Named.{AllBelow, TypeBelow}
use Rattle.source_typing.specs.Scope.{Env, block_entered}
use Rattle.source_typing.specs.States.{States}
use Rattle.source_typing.specs.Statements.{Chosen, all_named, clauses_fit, defaults}
use Rattle.source_typing.specs.Tables as typing
use Rattle.source_typing.specs.Tables.{Stored, argument, parts_in}
use Rattle.source_typing.specs.Types.{StaticType, renamed, shape_of}
use Rattle.type_proof.specs.Entries.{IsObjectType}
use Rattle.type_proof.specs.Flat.{Declared, Tables, filled}
use Rattle.type_proof.specs.Judged.{ClauseNamed, ClausesJudged, extended}
use Rattle.type_proof.specs.Structs.{AreLaidOut, AreMembers, IsUnionMember}
use Rattle.type_proof.proofs.invariant.Facts.{at_region}
use Rattle.type_proof.proofs.invariant.Invariant as invariant
use Rattle.type_proof.proofs.invariant.Invariant.{RunType, heap, Nobody, Flying, Ghost, HasPlain, HaveTypes, Inv}
use Rattle.type_proof.proofs.invariant.Values.{Grown, copied_plain}
use Rattle.type_proof.proofs.invariant.Alikes.{renamed_alike}
use Rattle.type_proof.proofs.invariant.Runs.{Runs}
use Rattle.type_proof.proofs.invariant.After.{After, flying}
use Rattle.type_proof.proofs.invariant.Objects.{runs_made}
use Rattle.type_proof.proofs.invariant.Scopes.{above_scope, block_ghost, block_memory, runs_block}
use Rattle.type_proof.proofs.invariant.Received.{kept_as, kept_type}
use Rattle.type_proof.proofs.invariant.Names.{NameOf, naming}
use Rattle.type_proof.proofs.invariant.Scenes.{Scene, scene_later, stands_typed}
use Rattle.type_proof.proofs.invariant.Sound.{cells_type, shape_renamed}
use Rattle.type_proof.proofs.invariant.Layouts.{member_types, members_at}
use Rattle.type_proof.proofs.invariant.Unions.{NamedAt, Placed, at_mapped, held_at, held_cell, held_copied, held_object, held_renamed, part_placed, plain_held}
use Rattle.type_proof.proofs.invariant.Unions.{position_named, union_parts_are, unions_apart, unions_typed}
use Rattle.type_proof.proofs.expressions.Fixed.{object_below}
use Rattle.type_proof.proofs.expressions.Members.{member_run}
use Rattle.type_proof.proofs.expressions.Words.{object_renamed}
use Rattle.type_proof.proofs.Entries.{Invokes}
use Rattle.type_proof.proofs.statements.Surroundings.{Surrounds, naming_alike, scene_block, scene_local, surrounds_block, type_up}
use Rattle.type_proof.proofs.statements.Flows.{WaysStand, Leaves}
use Rattle.type_proof.proofs.statements.Statements.{block_out, leaves_block}
use Rattle.type_proof.proofs.statements.Dropped.{entering_none}
use Rattle.type_proof.proofs.statements.Declared.{follows, frame_live, local_cells, made_apart, made_counted}
use Rattle.type_proof.proofs.statements.Cases.{clause_found}
use Rattle.type_proof.proofs.statements.Switched.{HoldsMember, LeavesHere, clause_left}
use Rattle.type_proof.proofs.statements.Unreached.{NoneFalls}

-- ---- the union

-- what has members is a union of the program
union_there : (tables : typing.Tables) (ds : List Declared) (ls : List Layout) (tag : List ℕ) (k : ℕ) (t : StaticType) → AreLaidOut tables ds ls
    → slice_get (member_types ds tag) k ≡ Some t → has_tag ls tag ≡ true
union_there tables [] [] tag k t h e = absurd cc
union_there tables (d ∷ ds) (l ∷ ls) tag k t h e =
    by (bytes_eq l.tag tag) (bytes_eq d.tag tag) (ap (λ (x : List ℕ). bytes_eq x tag) h.0) (λ z. union_there tables ds ls tag k t h.2 z) e
  where
    by : (b c : Bool) → b ≡ c → (slice_get (member_types ds tag) k ≡ Some t → has_tag ls tag ≡ true)
        → slice_get (if c then d.parts else member_types ds tag) k ≡ Some t → (if b then true else has_tag ls tag) ≡ true
    by true c p others z = refl
    by false false p others z = others z
    by false true p others z = absurd (false≢true p)
union_there tables [] (l ∷ ls) tag k t h e = absurd h
union_there tables (d ∷ ds) [] tag k t h e = absurd h

-- a new block changes neither types nor the order of what there was
grown_block : (d : Tables) (w : Ghost) (m : Memory) → Inv d w m → Grown w (block_ghost w m)
grown_block d w m i = record {
  types = λ y t e. e;
  above = λ p y e. at_region (λ z. w.above p y) (Frame m.activations) (above_scope w m (Frame m.activations) p) y (λ z. z ≡ true)
      (λ z. absurd (fresh (subst (λ (r : Region). invariant.Known m r) z (i.born_lower p y e)))) (λ z. e);
}
  where
    fresh : m.activations < m.activations → ⊥
    fresh l = omega (arith, l)

-- no end of a clause whose start is reached is reachable
pub none_falls : (g : Env) (c : Chosen) (cs : Clauses) → ClausesJudged g true c cs → NoneFalls cs
none_falls g c NoClauses j = tt
none_falls g c (MoreClauses at pattern body others) j = (j.0, none_falls g c others j.3)

module _ (n : ℕ) (d : Tables) (world : World) (tables : typing.Tables) (invokes : Invokes n d world tables) (b : ℕ) (gives : RunType) (g : Env) (scope : Scope)
    (f : NameOf → Region) (h : Surrounds d world tables g scope f gives) (c : Chosen) (held : meaning.Held) (w : Ghost)
    (holds : HoldsMember d scope f c.tag c.regions held w)
  where
    -- the type of the member in the union's declaration
    its_type : (t : StaticType) × (slice_get (member_types d.unions c.tag) held.position ≡ Some t) × (renamed (filled heap (map f c.regions)) t ≡ holds.type)
    its_type = at_mapped (renamed (filled heap (map f c.regions))) (member_types d.unions c.tag) held.position holds.type
        (ap (λ (ts : List RunType). slice_get ts held.position) (sym (union_parts_are d.unions c.tag (map f c.regions))) ∙ holds.here)

    member : IsUnionMember its_type.0
    member = held_at (member_types d.unions c.tag) held.position its_type.0 (unions_typed d.unions world.unions c.tag h.structs.unions) its_type.1

    members : AreMembers (parts_in g.tables c.tag) (parts_of world.unions c.tag) (member_types d.unions c.tag)
    members = subst (λ (y : typing.Tables). AreMembers (parts_in y c.tag) (parts_of world.unions c.tag) (member_types d.unions c.tag)) (sym h.tables_are)
        (members_at tables d.unions world.unions c.tag h.structs.unions_laid
        (union_there tables d.unions world.unions c.tag held.position its_type.0 h.structs.unions_laid its_type.1))

    parts : held.parts ≡ parts_of world.unions c.tag
    parts = holds.parts ∙ ap (λ (y : World). parts_of y.unions c.tag) h.world_is

    -- one of the clauses is for it
    pub its_clause : (cs : Clauses) → clauses_fit g c cs ≡ true → (act : Act Flow) × (or_else (case_for cs held scope) (default_for cs scope) ≡ Some act)
    its_clause cs fit =
        let z : NamedAt (parts_in g.tables c.tag) (parts_of world.unions c.tag) held.position =
        position_named (parts_in g.tables c.tag) (parts_of world.unions c.tag) (member_types d.unions c.tag) held.position its_type.0 members
        (unions_apart d.unions world.unions c.tag h.structs.unions) its_type.1 in
        clause_found (parts_in g.tables c.tag) cs held scope z.name
        (and_parts (nat_le (defaults cs) 1) (all_named (parts_in g.tables c.tag) cs (nat_eq (defaults cs) 1)) fit).1 z.among
        (ap (λ (qs : List shapes.Part). part_position qs z.name) parts ∙ z.found)

    module _ (below : AllBelow g.regions.count c.regions) (k : ℕ) (s : States) (m : Memory) (i : Inv d w m) (x : Scene d g scope f b b s k w m) where
      -- `default` is a block
      pub default_here : (body : BlockItems)
          → ((a : ℕ) → Leaves n d gives (block_entered g) (record scope { frame = a }) (naming f g.regions.count (Frame a)) b
          (left_by_items (block_entered g) body)
          (block_items body (record scope { frame = a })))
          → LeavesHere n d gives g scope f b (clause_left n d gives g scope f b (Some c) Default body) k s w m
          (in_block (λ a. block_items body (record scope { frame = a })))
      default_here body inside e =
          let same : clause_left n d gives g scope f b (Some c) Default body s ≡ left_by_items (block_entered g) body s =
          entering_none g (block_entered g) refl (λ t. left_by_items (block_entered g) body t) s in
          subst (λ (l : Left). Runs n (in_block (λ a. block_items body (record scope { frame = a }))) m
          (λ flow. After d k b w m (λ w' m'. WaysStand d gives g scope f l flow w' m')))
          (sym same)
          (leaves_block n d world tables invokes b gives g scope f body h inside s (subst (λ (l : Left). l.faults ≡ []) same e) k w m i x)

      -- so is a member's clause, in which the name is a local that begins with the member's value
      pub case_here : (y z : tree.Name) (body : BlockItems) (j : ClauseNamed g c y z) → is_position (part_position held.parts y.text) held.position ≡ true
          → ((a : ℕ) (at : Spot) → at.region ≡ Frame a → IsObjectType (renamed (argument c.regions) j.type)
          → TypeBelow (g.regions.count + 1) (renamed (argument c.regions) j.type)
          → Leaves n d gives (extended (block_entered g) z (renamed (argument c.regions) j.type))
          (with_binding (record scope { frame = a }) z.text (Variable (shape_of (renamed (argument c.regions) j.type)) at)) (naming f g.regions.count (Frame a))
          b
          (left_by_items (extended (block_entered g) z (renamed (argument c.regions) j.type)) body)
          (block_items body (with_binding (record scope { frame = a }) z.text (Variable (shape_of (renamed (argument c.regions) j.type)) at))))
          → LeavesHere n d gives g scope f b (clause_left n d gives g scope f b (Some c) (Case y z) body) k s w m
          (in_block (λ a. local_with (record scope { frame = a }) z.text (part_shape held.parts y.text) (held.value ∷ []) (block_items body)))
      case_here y z body j here inside = subst (λ (q : Env). LeavesHere n d gives g scope f b (λ s. entering g q (λ t. left_by_items q body t) s) k s w m act)
          (sym j.scope) made
        where
          act : Act Flow
          act = in_block (λ a. local_with (record scope { frame = a }) z.text (part_shape held.parts y.text) (held.value ∷ []) (block_items body))

          t : StaticType
          t = renamed (argument c.regions) j.type

          a0 : ℕ
          a0 = m.activations

          its_scope : Scope
          its_scope = record scope { frame = a0 }

          its_names : NameOf → Region
          its_names = naming f g.regions.count (Frame a0)

          inner : Env
          inner = extended (block_entered g) z t

          p : States → Left
          p = λ st. left_by_items inner body st

          placed : Placed (parts_of world.unions c.tag) (member_types d.unions c.tag) y.text j.part
          placed = part_placed (parts_in g.tables c.tag) (parts_of world.unions c.tag) (member_types d.unions c.tag) y.text j.part members j.found

          -- the clause's member is the one that is held
          at_one : placed.position ≡ held.position
          at_one = eqb-true placed.position held.position
              (subst (λ (o : Option ℕ). is_position o held.position ≡ true) (ap (λ (qs : List shapes.Part). part_position qs y.text) parts ∙ placed.found) here)

          type_is : j.type ≡ its_type.0
          type_is = (let a : Some j.type ≡ Some placed.type = sym j.typed ∙ placed.typed in
              let q : Some placed.type ≡ Some its_type.0 = sym placed.here ∙ (ap (λ (e : ℕ). slice_get (member_types d.unions c.tag) e) at_one ∙ its_type.1)
              in cc)

          is_member : IsUnionMember j.type
          is_member = subst (λ (u : StaticType). IsUnionMember u) (sym type_is) member

          object : IsObjectType t
          object = object_renamed (argument c.regions) j.type (held_object j.type is_member)

          type_below : TypeBelow g.regions.count t
          type_below = object_below g.regions.count c.regions j.type (held_object j.type is_member) below

          -- the member's type in this run, in the clause too
          run : renamed its_names t ≡ holds.type
          run = renamed_alike g.regions.count f its_names t (naming_alike f g.regions.count (Frame a0)) type_below
              ∙ (member_run f c.regions j.type x.names.heap_is (held_object j.type is_member)
              ∙ (ap (renamed (filled heap (map f c.regions))) type_is ∙ its_type.2))

          shaped : part_shape held.parts y.text ≡ shape_of t
          shaped = ap (λ (qs : List shapes.Part). part_shape qs y.text) parts
              ∙ (placed.shape ∙ (ap shape_of (let a : Some placed.type ≡ Some j.type = sym placed.typed ∙ j.typed in cc)
              ∙ sym (shape_renamed (argument c.regions) j.type)))

          typed : HaveTypes d (block_ghost w m) (flying k 0) (held.value ∷ []) (cells_type d its_names t)
          typed =
              let copied = copied_plain d w (block_ghost w m) Nobody (Flying k 0) held.value holds.type (grown_block d w m i)
              (subst (λ (q : RunType). is_moved (shape_of q) ≡ false) its_type.2 (held_copied (filled heap (map f c.regions)) its_type.0 member)) holds.typed in
              let is : IsUnionMember t = held_renamed (argument c.regions) j.type (object_renamed (argument c.regions)) is_member in
              subst (λ (ts : List RunType). HaveTypes d (block_ghost w m) (flying k 0) (held.value ∷ []) ts) (sym (held_cell d its_names t is)) (
                plain_held d its_names (block_ghost w m) (Flying k 0) held.value t is
                    (subst (λ (q : RunType). HasPlain d (block_ghost w m) (Flying k 0) held.value q) (sym run) copied),
                tt,
              )

          opened : (entering g inner p s).faults ≡ [] → Inv d (block_ghost w m) (block_memory m)
              → Runs n (local_with its_scope z.text (part_shape held.parts y.text) (held.value ∷ []) (block_items body)) (block_memory m)
              (λ flow. After d k b (block_ghost w m) (block_memory m)
              (λ w' m'. WaysStand d gives (block_entered g) its_scope its_names (entering (block_entered g) inner p s) flow w' m'))
          opened e i1 =
              let x1 : Scene d (block_entered g) its_scope its_names b b s k (block_ghost w m) (block_memory m) =
              scene_block d world tables g scope f gives b s k w m h i x in
              let h1 : Surrounds d world tables (block_entered g) its_scope its_names gives = surrounds_block d world tables g scope f gives h a0 in
              let cells : cells_of scope.world (shape_of t) ≡ map shape_of (cells_type d its_names t) =
              local_cells n d world tables invokes b gives (block_entered g) its_scope its_names t h1 in
              subst (λ (sh : Shape). Runs n (local_with its_scope z.text sh (held.value ∷ []) (block_items body)) (block_memory m) post) (sym shaped)
              (subst (λ (cs : List Shape). Runs n (make_object (Frame a0) (blank_object cs) >>= λ at.
              write_cells at (held.value ∷ []) >> block_items body (with_binding its_scope z.text (Variable (shape_of t) at))) (block_memory m) post)
              (sym cells)
              (runs_made d n k b (kept_as g.tables t) (block_ghost w m) (block_memory m) (Frame a0) (cells_type d its_names t) (held.value ∷ [])
              (λ at. block_items body (with_binding its_scope z.text (Variable (shape_of t) at))) post (kept_type g.tables t) i1
              (frame_live n d world tables invokes b gives (block_entered g) its_scope its_names s k (block_ghost w m) (block_memory m) h1 x1) typed
              (λ at w2 m2 i2 g2 new full st settles.
              follows n d world tables invokes b gives (block_entered g) its_scope its_names z (Stored t (block_entered g).frame) (shape_of t) p
              (block_items body)
              (λ at2 there. inside a0 at2 there object (type_up g.regions.count t type_below)) at new.region s e k (block_ghost w m) (block_memory m) w2 m2 i2
              g2
              (scene_local d world tables (block_entered g) its_scope its_names z t at gives h1 object (type_up g.regions.count t type_below) new.region b
              inner s k w2 m2 (held.value ∷ []) refl
              (scene_later d (block_entered g) its_scope its_names b b s s k (block_ghost w m) (block_memory m) w2 m2 i2 g2
              (stands_typed d (block_entered g) its_scope its_names s (block_ghost w m) (block_memory m) w2 m2 g2.types settles.cells x1.stands) x1)
              full
              (made_apart n d world tables invokes b gives its_scope (block_memory m) m2 at new x1.counted)
              (made_counted n d world tables invokes b gives its_scope (block_memory m) m2 at new)))))
            where
              post : Flow → Memory → Type 0
              post flow = After d k b (block_ghost w m) (block_memory m)
                  (λ w' m'. WaysStand d gives (block_entered g) its_scope its_names (entering (block_entered g) inner p s) flow w' m')

          made : LeavesHere n d gives g scope f b (λ s. entering g inner p s) k s w m act
          made e = runs_block d n k b w m (λ a. local_with (record scope { frame = a }) z.text (part_shape held.parts y.text) (held.value ∷ [])
              (block_items body))
              (λ flow w' m'. WaysStand d gives (block_entered g) its_scope its_names (entering (block_entered g) inner p s) flow w' m')
              (λ flow w' m'. WaysStand d gives g scope f (entering g inner p s) flow w' m') i (opened e)
              (λ flow w2 m2 i2 g2 q. block_out n d world tables invokes b gives g scope f a0 x.below (entering g inner p s) flow w2 m2 q)
