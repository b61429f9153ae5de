-- Members of structs are places, and structs are made of their members' values.
use Rattle.std.proofs.lemmas.Bool.{false≢true}
use Rattle.std.proofs.Common.{◌≡◌, ℕ, zero, suc, ◌+◌, Bool, true, false, inl, inr, Option, Some, None, List, [], ◌∷◌, refl, sym, ◌∙◌, ap, subst, arith}
use Rattle.std.specs.Prelude.{map, length, slice_get, bytes_eq, if◌then◌else◌}
use Rattle.source_meaning.specs.Shapes as shapes
use Rattle.source_meaning.specs.Shapes.{Shape, has_tag, parts_of, part_shape, part_shapes}
use Rattle.source_meaning.specs.Sizes.{cells_before}
use Rattle.source_meaning.specs.Memory.{Region, Spot, Scalar, Memory, beyond}
use Rattle.source_meaning.specs.Steps.{World, Scope, Act, give, ◌>>=◌}
use Rattle.source_meaning.specs.Conversions.{cells_of}
use Rattle.source_meaning.specs.Calls as calls
use Rattle.source_typing.specs.Calls.{part_types}
use Rattle.source_typing.specs.Regions.{TheHeap, Level}
use Rattle.source_typing.specs.Scope.{Env, Seat, Nowhere, In, InBlock}
use Rattle.source_typing.specs.Tables as typing
use Rattle.source_typing.specs.Tables.{Entry, Tag, OfValue, OfTag, OfFunction, OfBuiltin, OfOther, find, as_tag, tag_in, parts_of_tag, parts_in, part_in}
use Rattle.source_typing.specs.Tables.{argument, or_heap}
use Rattle.source_typing.specs.Types.{StaticType, Int, Unsigned, Char, Void, Null, Thin, Fat, Unique, Handle, Key, Struct, Union, renamed, shape_of}
use Rattle.type_proof.specs.Entries.{IsObjectType, AreObjects, PlainEntry}
use Rattle.type_proof.specs.Members.{names_union}
use Rattle.source_typing.specs.States.{States, Passed}
use Rattle.type_proof.specs.Flat.{Declared, Tables, or_region, filled, flat, flat_all}
use Rattle.type_proof.specs.Structs.{AreMemberTypes, AreMembers}
use Rattle.type_proof.proofs.invariant.Facts.{further, not_further}
use Rattle.type_proof.proofs.invariant.Invariant.{RunType, heap, Ghost, Laid, HaveTypes}
use Rattle.type_proof.proofs.invariant.After.{flying}
use Rattle.type_proof.proofs.invariant.Arguments.{Agrees, Flown}
use Rattle.type_proof.proofs.invariant.Names.{NameOf}
use Rattle.type_proof.proofs.invariant.Scenes.{Scene, scene_later, stands_typed}
use Rattle.type_proof.proofs.invariant.Sound.{PlaceStands, Gives, FindsAny}
use Rattle.type_proof.proofs.invariant.Rows.{laid_first, laid_rest}
use Rattle.type_proof.proofs.expressions.Elements.{cells_counted}
use Rattle.type_proof.proofs.invariant.Layouts.{member_types, member_object, members_typed, members_at, struct_is, Structs, agrees}
use Rattle.type_proof.proofs.invariant.Growth.{grows_trans}
use Rattle.type_proof.proofs.expressions.Gathered.{Gathered, gathered}
use Rattle.type_proof.proofs.expressions.Words.{object_twice}
use Rattle.type_proof.proofs.expressions.Calling.{Passes}

-- ---- types in a struct

-- names that stand for the same make the same types
all_same : (f h : NameOf → Region) → ((a : NameOf) → f a ≡ h a) → (rs : List NameOf) → map f rs ≡ map h rs
all_same f h e [] = refl
all_same f h e (r ∷ rs) = let a : f r ≡ h r = e r in let c : map f rs ≡ map h rs = all_same f h e rs in cc

renamed_same : (f h : NameOf → Region) → ((a : NameOf) → f a ≡ h a) → (t : StaticType) → renamed f t ≡ renamed h t
renamed_same f h e Int = refl
renamed_same f h e Unsigned = refl
renamed_same f h e Char = refl
renamed_same f h e Void = refl
renamed_same f h e Null = refl
renamed_same f h e (Thin n r t) = let a : f r ≡ h r = e r in let c : renamed f t ≡ renamed h t = renamed_same f h e t in cc
renamed_same f h e (Fat r t) = let a : f r ≡ h r = e r in let c : renamed f t ≡ renamed h t = renamed_same f h e t in cc
renamed_same f h e (Unique n t) = ap (Unique n) (renamed_same f h e t)
renamed_same f h e (Handle r) = ap (λ (q : Region). Handle q) (e r)
renamed_same f h e (Key r) = ap (λ (q : Region). Key q) (e r)
renamed_same f h e (Struct tag rs) = ap (λ (qs : List Region). Struct tag qs) (all_same f h e rs)
renamed_same f h e (Union tag rs) = ap (λ (qs : List Region). Union tag qs) (all_same f h e rs)

-- the region names in a member's type stand for the arguments
listed : (f : NameOf → Region) → f TheHeap ≡ heap → (rs : List NameOf) (k : ℕ) → f (or_heap (slice_get rs k)) ≡ or_region heap (slice_get (map f rs) k)
listed f e [] k = e
listed f e (r ∷ rs) zero = refl
listed f e (r ∷ rs) (suc k) = listed f e rs k

filled_is : (f : NameOf → Region) (rs : List NameOf) → f TheHeap ≡ heap → (a : NameOf) → f (argument rs a) ≡ filled heap (map f rs) a
filled_is f rs e TheHeap = e
filled_is f rs e (Level k) = listed f e rs k

-- the type that a member has in a run
pub member_run : (f : NameOf → Region) (rs : List NameOf) (t : StaticType) → f TheHeap ≡ heap → IsObjectType t
    → renamed f (renamed (argument rs) t) ≡ renamed (filled heap (map f rs)) t
member_run f rs t e o =
    object_twice f (argument rs) t o ∙ renamed_same (λ a. f (argument rs a)) (filled heap (map f rs)) (filled_is f rs e) t

all_member_run : (f : NameOf → Region) (rs : List NameOf) (ds : List Declared) (ts : List StaticType) → f TheHeap ≡ heap → AreMemberTypes ds ts
    → map (renamed f) (map (renamed (argument rs)) ts) ≡ map (renamed (filled heap (map f rs))) ts
all_member_run f rs ds [] e h = refl
all_member_run f rs ds (t ∷ ts) e h =
    let a : renamed f (renamed (argument rs) t) ≡ renamed (filled heap (map f rs)) t = member_run f rs t e (member_object ds t h.0) in
    let c : map (renamed f) (map (renamed (argument rs)) ts) ≡ map (renamed (filled heap (map f rs))) ts = all_member_run f rs ds ts e h.1 in
    cc

pub members_objects : (ds : List Declared) (ts : List StaticType) → AreMemberTypes ds ts → AreObjects ts
members_objects ds [] h = tt
members_objects ds (t ∷ ts) h = (member_object ds t h.0, members_objects ds ts h.1)

-- ---- a member among the members

-- the type of a member that is found is one of those of the struct
pub record Found (ds : List Declared) (qs : List shapes.Part) (x : List ℕ) (t : StaticType) : Type 0 where
  pub object : IsObjectType t
  pub shape : part_shape qs x ≡ shape_of t

same_type : (p q : typing.Part) (t u : StaticType) → Some p ≡ Some q → p.type ≡ Some t → q.type ≡ Some u → t ≡ u
same_type p q t u e a c = let z : p ≡ q = cc in let y : p.type ≡ q.type = ap (λ (r : typing.Part). r.type) z in cc

pub member_found : (ds : List Declared) (ps : List typing.Part) (qs : List shapes.Part) (ts : List StaticType) (x : List ℕ) (part : typing.Part)
    (u : StaticType)
    → AreMembers ps qs ts → AreMemberTypes ds ts → part_in ps x ≡ Some part → part.type ≡ Some u → Found ds qs x u
member_found ds [] [] [] x part u h o e z = absurd cc
member_found ds (p ∷ ps) (q ∷ qs) (t ∷ ts) x part u h o e z =
    let r = by (bytes_eq p.name x) (bytes_eq q.name x) (ap (λ (y : List ℕ). bytes_eq y x) h.0) e (λ v. member_found ds ps qs ts x part u h.3 o.1 v z) in
    record { object = r.0; shape = r.1 }
  where
    by : (b c : Bool) → b ≡ c → (if b then Some p else part_in ps x) ≡ Some part → (part_in ps x ≡ Some part → Found ds qs x u)
        → (IsObjectType u) × ((if c then q.shape else part_shape qs x) ≡ shape_of u)
    by true true v e others =
        let same : t ≡ u = same_type p part t u e h.1 z in
        (subst IsObjectType same (member_object ds t o.0), h.2 ∙ ap shape_of same)
    by false false v e others = let r : Found ds qs x u = others e in (r.object, r.shape)
    by true false v e others = absurd cc
    by false true v e others = absurd cc
member_found ds [] [] (t ∷ ts) x part u h o e z = absurd h
member_found ds [] (q ∷ qs) ts x part u h o e z = absurd h
member_found ds (p ∷ ps) [] ts x part u h o e z = absurd h
member_found ds (p ∷ ps) (q ∷ qs) [] x part u h o e z = absurd h

-- its cells lie behind those of the members before it
member_laid : (d : Tables) (world : World) (f : NameOf → Region) (w : Ghost) → Agrees world d → (s : Spot) (ps : List typing.Part) (qs : List shapes.Part)
    (ts : List StaticType) (x : List ℕ) (part : typing.Part) (u : StaticType) → AreMembers ps qs ts → part_in ps x ≡ Some part → part.type ≡ Some u
    → Laid w s (flat_all (flat heap d) (map (renamed f) ts)) → Laid w (beyond s (cells_before (cells_of world) qs x)) (flat heap d (renamed f u))
member_laid d world f w same s [] [] [] x part u h e z l = absurd cc
member_laid d world f w same s (p ∷ ps) (q ∷ qs) (t ∷ ts) x part u h e z l =
    by (bytes_eq p.name x) (bytes_eq q.name x) (ap (λ (y : List ℕ). bytes_eq y x) h.0) e
    (λ v. member_laid d world f w same (beyond s (length first)) ps qs ts x part u h.3 v z (laid_rest w s first others l))
  where
    first : List RunType
    first = flat heap d (renamed f t)

    others : List RunType
    others = flat_all (flat heap d) (map (renamed f) ts)

    count : length (cells_of world q.shape) ≡ length first
    count = ap (λ (y : Shape). length (cells_of world y)) h.2 ∙ cells_counted d world f t same

    by : (b c : Bool) → b ≡ c → (if b then Some p else part_in ps x) ≡ Some part
        → (part_in ps x ≡ Some part → Laid w (beyond (beyond s (length first)) (cells_before (cells_of world) qs x)) (flat heap d (renamed f u)))
        → Laid w (beyond s (if c then 0 else length (cells_of world q.shape) + cells_before (cells_of world) qs x)) (flat heap d (renamed f u))
    by true true v e more =
        subst (λ (y : Spot). Laid w y (flat heap d (renamed f u))) (sym (not_further s))
        (subst (λ (y : StaticType). Laid w s (flat heap d (renamed f y))) (same_type p part t u e h.1 z) (laid_first w s first others l))
    by false false v e more =
        subst (λ (y : Spot). Laid w y (flat heap d (renamed f u)))
        (further s (length first) (cells_before (cells_of world) qs x) (length (cells_of world q.shape) + cells_before (cells_of world) qs x)
        (omega (arith, count))) (more e)
    by true false v e more = absurd cc
    by false true v e more = absurd cc
member_laid d world f w same s [] [] (t ∷ ts) x part u h e z l = absurd h
member_laid d world f w same s [] (q ∷ qs) ts x part u h e z l = absurd h
member_laid d world f w same s (p ∷ ps) [] ts x part u h e z l = absurd h
member_laid d world f w same s (p ∷ ps) (q ∷ qs) [] x part u h e z l = absurd h

-- ---- the struct of a tag

-- a struct that has a member is one of the program's
pub struct_there : (d : Tables) (world : World) (tables : typing.Tables) (tag x : List ℕ) (part : typing.Part) → Structs d world tables
    → names_union (tag_in tables tag) ≡ false → part_in (parts_in tables tag) x ≡ Some part → has_tag world.structs tag ≡ true
struct_there d world tables tag x part h apart e = by (find tables tag) refl apart e
  where
    of_tag : (t : Tag) → t.is_union ≡ false → PlainEntry world tag (OfTag t) → has_tag world.structs tag ≡ true
    of_tag t n (inl k) = k.there
    of_tag t n (inr k) = absurd (false≢true (sym n ∙ k.union))

    by : (o : Option Entry) → find tables tag ≡ o → names_union (as_tag o) ≡ false → part_in (parts_of_tag (as_tag o)) x ≡ Some part
        → has_tag world.structs tag ≡ true
    by None z n e = absurd cc
    by (Some (OfTag t)) z n e = of_tag t n (h.plain tag (OfTag t) z)
    by (Some (OfValue v)) z n e = absurd cc
    by (Some (OfFunction s)) z n e = absurd cc
    by (Some (OfBuiltin c)) z n e = absurd cc
    by (Some OfOther) z n e = absurd cc

module _ (n : ℕ) (d : Tables) (g : Env) (scope : Scope) (f : NameOf → Region) (b : ℕ) (low : ℕ) (h : Structs d scope.world g.tables) where
  -- a member of a struct that is a place is a place in the same region, or in the same block
  pub finds_member : (p : States → Passed) (tag : List ℕ) (rs : List NameOf) (x : List ℕ) (part : typing.Part) (u : StaticType) (seat : Seat)
      (place : Act Spot)
      → names_union (tag_in g.tables tag) ≡ false → part_in (parts_in g.tables tag) x ≡ Some part
      → part.type ≡ Some u → FindsAny n d g scope f b low p false seat (Struct tag rs) place
      → FindsAny n d g scope f b low p false seat (renamed (argument rs) u)
      (place >>= λ s. give (beyond s (cells_before (cells_of scope.world) (parts_of scope.world.structs tag) x)))
  finds_member p tag rs x part u seat place apart e z finds = λ s0 none k w m i q. record {
    by = λ next go. (finds s0 none k w m i q).by (λ s. next (beyond s (cells_before (cells_of scope.world) (parts_of scope.world.structs tag) x)))
        (λ s m1 y.
        let q1 : Scene d g scope f b low (p s0).states k y.ghost m1 =
        scene_later d g scope f b low s0 (p s0).states k w m y.ghost m1 y.inv y.grows y.holds.1 q in
        go (beyond s (cells_before (cells_of scope.world) (parts_of scope.world.structs tag) x)) m1 (record {
          ghost = y.ghost;
          inv = y.inv;
          grows = y.grows;
          holds = (stands seat q1.names.heap_is s y.ghost m1 y.holds.0, q1.stands);
        }));
  }
    where
      there : AreMembers (parts_in g.tables tag) (parts_of scope.world.structs tag) (member_types d.structs tag)
      there = members_at g.tables d.structs scope.world.structs tag h.laid_out (struct_there d scope.world g.tables tag x part h apart e)

      found : Found d.structs (parts_of scope.world.structs tag) x u
      found = member_found d.structs (parts_in g.tables tag) (parts_of scope.world.structs tag) (member_types d.structs tag) x part u there
          (members_typed d.structs tag h.in_order) e z

      laid : f TheHeap ≡ heap → (s : Spot) (w : Ghost) → Laid w s (flat heap d (Struct tag (map f rs)))
          → Laid w (beyond s (cells_before (cells_of scope.world) (parts_of scope.world.structs tag) x)) (flat heap d (renamed f (renamed (argument rs) u)))
      laid p s w l =
          subst (λ (t : RunType). Laid w (beyond s (cells_before (cells_of scope.world) (parts_of scope.world.structs tag) x)) (flat heap d t))
          (sym (member_run f rs u p found.object))
          (member_laid d scope.world (filled heap (map f rs)) w (agrees d scope.world g.tables h) s (parts_in g.tables tag) (parts_of scope.world.structs tag)
          (member_types d.structs tag) x part u there e z
          (subst (λ (ts : List RunType). Laid w s ts) (struct_is d.structs tag (map f rs) h.in_order) l))

      stands : (seat : Seat) → f TheHeap ≡ heap → (s : Spot) (w : Ghost) (m : Memory) → PlaceStands d f low false seat (Struct tag rs) s w m
          → PlaceStands d f low false seat (renamed (argument rs) u) (beyond s (cells_before (cells_of scope.world) (parts_of scope.world.structs tag) x)) w m
      stands Nowhere here s w m y = absurd y
      stands (In r) here s w m y = (record { typed = laid here s w y.0.typed; above = y.0.above }, y.1)
      stands InBlock here s w m y = (
        laid here s w y.0,
        y.1,
        (let a = y.2 in record {
          holder = a.holder;
          nullable = a.nullable;
          to = a.to;
          typed = a.typed;
          pointer = a.pointer;
          holds = a.holds;
          same = a.same;
          frame = a.frame;
          lies = a.lies;
          known = a.known;
        }),
      )

  -- ---- structs are made

  pub gives_made : (s0 s2 : States) (tag : List ℕ) (rs : List NameOf) (act : Act (List (List Scalar)))
      → Passes n d g scope f b low s0 s2 (map (renamed (argument rs)) (member_types d.structs tag)) act
      → Gives n d g scope f b low s0 s2 (Struct tag rs) (act >>= λ vss. give (calls.flat vss))
  gives_made s0 s2 tag rs act passes = λ k w m i q. record {
    by = λ next p. (passes k w m i q).by (λ vss. next (calls.flat vss)) (λ vss m1 y.
        let q1 : Scene d g scope f b low s2 k y.ghost m1 = scene_later d g scope f b low s0 s2 k w m y.ghost m1 y.inv y.grows y.holds.1 q in
        let flown : Flown d y.ghost k vss (map (renamed (filled heap (map f rs))) (member_types d.structs tag)) =
        subst (λ (ts : List RunType). Flown d y.ghost k vss ts)
        (all_member_run f rs d.structs (member_types d.structs tag) q1.names.heap_is (members_typed d.structs tag h.in_order)) y.holds.0 in
        let r : Gathered d k b y.ghost m1 (calls.flat vss)
        (flat_all (flat heap d) (map (renamed (filled heap (map f rs))) (member_types d.structs tag))) =
        gathered d k b y.ghost m1 vss (map (renamed (filled heap (map f rs))) (member_types d.structs tag)) y.inv flown in
        p (calls.flat vss) m1 (record {
          ghost = r.ghost;
          inv = r.inv;
          grows = grows_trans y.grows r.grows;
          holds = (
            subst (λ (ts : List RunType). HaveTypes d r.ghost (flying k 0) (calls.flat vss) ts) (sym (struct_is d.structs tag (map f rs) h.in_order)) r.typed,
            stands_typed d g scope f s2 y.ghost m1 r.ghost m1 r.types (λ y q e. refl) q1.stands,
          );
        }));
  }

-- the types and the shapes of the members of a struct
pub members_known : (ps : List typing.Part) (qs : List shapes.Part) (ts : List StaticType) → AreMembers ps qs ts → part_types ps ≡ map (λ t. Some t) ts
members_known [] [] [] h = refl
members_known (p ∷ ps) (q ∷ qs) (t ∷ ts) h =
    let a : p.type ≡ Some t = h.1 in let c : part_types ps ≡ map (λ t. Some t) ts = members_known ps qs ts h.3 in cc
members_known [] [] (t ∷ ts) h = absurd h
members_known [] (q ∷ qs) ts h = absurd h
members_known (p ∷ ps) [] ts h = absurd h
members_known (p ∷ ps) (q ∷ qs) [] h = absurd h

pub members_shaped : (ps : List typing.Part) (qs : List shapes.Part) (ts : List StaticType) → AreMembers ps qs ts → part_shapes qs ≡ map shape_of ts
members_shaped [] [] [] h = refl
members_shaped (p ∷ ps) (q ∷ qs) (t ∷ ts) h =
    let a : q.shape ≡ shape_of t = h.2 in let c : part_shapes qs ≡ map shape_of ts = members_shaped ps qs ts h.3 in cc
members_shaped [] [] (t ∷ ts) h = absurd h
members_shaped [] (q ∷ qs) ts h = absurd h
members_shaped (p ∷ ps) [] ts h = absurd h
members_shaped (p ∷ ps) (q ∷ qs) [] h = absurd h
