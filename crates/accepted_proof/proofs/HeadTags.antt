-- What is first known of a struct or a union: what its tag means before it is judged, and members that are in order then, where they are in the end.
use Rattle.std.proofs.Common.{◌≡◌, ◌⊎◌, ℕ, zero, suc, Bool, true, false, Option, Some, None, List, [], ◌∷◌, ◌++◌, refl, sym, subst, ap, ◌∙◌, arith, inl, inr}
use Rattle.std.proofs.lemmas.Bool.{and_parts}
use Rattle.std.proofs.lemmas.Bool.Decides.{nat_tests}
use Rattle.std.proofs.lemmas.List.{length-map}
use Rattle.std.specs.Prelude.{◌&&◌, bytes_eq, if◌then◌else◌, length, replicate}
use Rattle.cyc_tree.specs.declared.name.Sign.{Sign}
use Rattle.cyc_tree.specs.declared.name.Sign.TheVariants as sign
use Rattle.cyc_tree.specs.Tree as tree
use Rattle.cyc_tree.specs.Tree.{TypeName}
use Rattle.source_meaning.specs.Shapes as shapes
use Rattle.type_proof.specs.Entries.{IsObjectType}
use Rattle.source_typing.specs.Declarations.{stands_earlier}
use Rattle.source_typing.specs.Faults.{Fault}
use Rattle.source_typing.specs.Missing.{as_type}
use Rattle.source_typing.specs.Scope.{Env}
use Rattle.source_typing.specs.Tables.{Entry, Named, OfBuiltin, OfOther, OfTag, Tables, as_tag, find}
use Rattle.source_typing.specs.Tags.{fits_member, head_fitting, member_fitting, settled_alone}
use Rattle.source_typing.specs.Types.{Char, Fat, Handle, Int, Key, Null, PartialType, StaticType, Struct, Thin, Union, Unique, Unsigned, shape_of}
use Rattle.source_typing.specs.Verdicts.{Faulty, Of, Unjudged, Verdict, after, faults_of, if_fits, unless_faulty}
use Rattle.source_typing.specs.Written.{Found, RegionNamed, Spot, all_found, argument_spots, count_fits}
use Rattle.source_typing.specs.Written.{regions_of_tag, spot, type_built, written_on}
use Rattle.accepted_proof.proofs.good.Locals.{FilledAlone, IsSettled, alone_filled, alone_settled}
use Rattle.accepted_proof.proofs.good.Pointers.{IsPointed, PointedIfSome}
use Rattle.accepted_proof.proofs.good.Types.{KnowsTags, MeansKnown}
use Rattle.accepted_proof.proofs.Owners.{Writes, WritesAlone, WritesChar, WritesFat, WritesFresh, WritesHandle, WritesInt, WritesOpen, WritesShared}
use Rattle.accepted_proof.proofs.Owners.{WritesStruct, WritesUnion, WritesUnsigned, settled_alone_is}

-- ---- entries of one kind

-- a struct in both, or a union, with as many region parameters, or the same in both, and no value or function
abbrev pub AreAlike : Entry → Entry → Type 0
AreAlike (OfTag t) (OfTag u) = (t.regions ≡ u.regions) × (t.is_union ≡ u.is_union)
AreAlike (OfBuiltin n) (OfBuiltin m) = Unit {0}
AreAlike OfOther OfOther = Unit {0}
AreAlike _ _ = ⊥

abbrev pub MeanAlike : Option Entry → Option Entry → Type 0
MeanAlike None None = Unit {0}
MeanAlike (Some e) (Some d) = AreAlike e d
MeanAlike None (Some d) = ⊥
MeanAlike (Some e) None = ⊥

abbrev pub TablesAlike : Tables → Tables → Type 0
TablesAlike [] [] = Unit {0}
TablesAlike (n ∷ g) (m ∷ h) = (n.name ≡ m.name) × AreAlike n.entry m.entry × TablesAlike g h
TablesAlike [] (m ∷ h) = ⊥
TablesAlike (n ∷ g) [] = ⊥

pub found_alike : (g h : Tables) (x : List ℕ) → TablesAlike g h → MeanAlike (find g x) (find h x)
found_alike [] [] x k = tt
found_alike (n ∷ g) (m ∷ h) x k =
    subst (λ (y : List ℕ). MeanAlike (if bytes_eq n.name x then Some n.entry else find g x) (if bytes_eq y x then Some m.entry else find h x)) k.0
    (by (bytes_eq n.name x) (found_alike g h x k.2))
  where
    by : (b : Bool) → MeanAlike (find g x) (find h x) → MeanAlike (if b then Some n.entry else find g x) (if b then Some m.entry else find h x)
    by true others = k.1
    by false others = others
found_alike [] (m ∷ h) x k = absurd k
found_alike (n ∷ g) [] x k = absurd k

-- what a name means before a tag is judged: that tag, which isn't checked; or what it means in the end, where each tag is without fault
abbrev pub IsUnjudged : Option Entry → Type 0
IsUnjudged (Some (OfTag t)) = (t.sound ≡ false)
IsUnjudged _ = ⊥

abbrev pub MeansFirst : Option Entry → Option Entry → Type 0
MeansFirst o d = IsUnjudged d ⊎ (MeanAlike o d × MeansKnown d × MeansKnown o)

pub own_first : (g h : Tables) (own : Named) → IsUnjudged (Some own.entry) → TablesAlike g h → KnowsTags h
    → ((x : List ℕ) → bytes_eq own.name x ≡ false → MeansKnown (find g x)) → (x : List ℕ) → MeansFirst (find g x) (find (own ∷ h) x)
own_first g h own unjudged alike tags known x = by (bytes_eq own.name x) refl
  where
    by : (b : Bool) → bytes_eq own.name x ≡ b → MeansFirst (find g x) (if b then Some own.entry else find h x)
    by true e = inl unjudged
    by false e = inr (found_alike g h x alike, tags x, known x e)

-- ---- regions

-- missing regions have no fault
missing_fault : (names : List RegionNamed) (m : ℕ) (ss : List Spot) → (all_found names (replicate m (spot false None) ++ ss)).1 ≡ (all_found names ss).1
missing_fault names zero ss = refl
missing_fault names (suc m) ss = missing_fault names m ss

-- so the faults of a struct's regions are the same by all tables
pub same_fault : (g h : Tables) (names : List RegionNamed) (x : tree.Name) (rs : List tree.RegionName) (ss : List Spot)
    → (all_found names (argument_spots g x rs ++ ss)).1 ≡ (all_found names (argument_spots h x rs ++ ss)).1
same_fault g h names x [] ss =
    missing_fault names (regions_of_tag (as_tag (find g x.text))) ss ∙ sym (missing_fault names (regions_of_tag (as_tag (find h x.text))) ss)
same_fault g h names x (r ∷ rs) ss = refl

-- a tag asks for the arguments that are there
pub asks_fit : (g : Tables) (x : tree.Name) (rs : List tree.RegionName) → count_fits (tree.Struct x rs) (length (argument_spots g x rs)) ≡ true
asks_fit g x [] = refl
asks_fit g x (r ∷ rs) = let same : length (r ∷ rs) ≡ length (argument_spots g x (r ∷ rs)) = sym (length-map (r ∷ rs) (λ r. spot false (Some r))) in
    grind (arith, nat_tests, same)

pub union_asks_fit : (g : Tables) (x : tree.Name) (rs : List tree.RegionName) → count_fits (tree.Union x rs) (length (argument_spots g x rs)) ≡ true
union_asks_fit g x [] = refl
union_asks_fit g x (r ∷ rs) = asks_fit g x (r ∷ rs)

-- ---- one member

-- where a member's type is in order in the end, it is at the start
pub after_head : (v : Verdict PartialType) (at : ℕ) (g : Env) (union : Bool)
    → faults_of (after (after v (settled_alone at)) (member_fitting g union at)) ≡ []
    → faults_of (after (after v (settled_alone at)) (head_fitting union at)) ≡ []
after_head (Faulty f fs) at g union p = absurd cc
after_head Unjudged at g union p = refl
after_head (Of q) at g union p = by (settled_alone at q) p
  where
    fits : (a b : Bool) (u : StaticType) → faults_of (if_fits (a && b) at u) ≡ [] → faults_of (if_fits a at u) ≡ []
    fits true b u e = refl
    fits false b u e = absurd cc

    by : (w : Verdict StaticType) → faults_of (after w (member_fitting g union at)) ≡ [] → faults_of (after w (head_fitting union at)) ≡ []
    by (Faulty f fs) p = absurd cc
    by Unjudged p = refl
    by (Of u) p = fits (fits_member union u) _ u p

-- a pointer that isn't unique
abbrev pub IsCopiedPointer : shapes.Shape → Type 0
IsCopiedPointer (shapes.ThinShape b o t) = (shapes.shared_owner o ≡ shapes.Shared)
IsCopiedPointer (shapes.FatShape t) = Unit {0}
IsCopiedPointer _ = ⊥

-- what is written of an object is no key
written_no_key : (left_open : Bool) (s : shapes.Shape) (p : PartialType) → Writes left_open s p → shapes.settled s ≡ shapes.KeyShape → ⊥
written_no_key left_open s p WritesInt e = cc
written_no_key left_open s p WritesUnsigned e = cc
written_no_key left_open s p WritesChar e = cc
written_no_key left_open s p WritesHandle e = cc
written_no_key left_open s p WritesStruct e = cc
written_no_key left_open s p WritesUnion e = cc
written_no_key left_open s p (WritesFat w) e = cc
written_no_key left_open s p (WritesOpen q w) e = cc
written_no_key left_open s p (WritesFresh q w) e = cc
written_no_key left_open s p (WritesShared w) e = cc
written_no_key left_open s p (WritesAlone w) e = cc

-- an object that is no key is a struct's member, and such a pointer to one also a union's
abbrev pub CanBe : Bool → shapes.Shape → Type 0
CanBe union s = union ≡ true → IsCopiedPointer s

object_fits : (union : Bool) (u : StaticType) → IsObjectType u → (shape_of u ≡ shapes.KeyShape → ⊥) → CanBe union (shape_of u) → fits_member union u ≡ true
object_fits false Int o n h = refl
object_fits false Unsigned o n h = refl
object_fits false Char o n h = refl
object_fits false (Thin b r t) o n h = refl
object_fits false (Fat r t) o n h = refl
object_fits false (Unique b t) o n h = refl
object_fits false (Handle r) o n h = refl
object_fits false (Struct tag rs) o n h = refl
object_fits false (Union tag rs) o n h = refl
object_fits false (Key r) o n h = absurd (n refl)
object_fits false _ o n h = absurd o
object_fits true (Thin b r t) o n h = refl
object_fits true (Fat r t) o n h = refl
object_fits true Int o n h = refl
object_fits true Unsigned o n h = refl
object_fits true Char o n h = refl
object_fits true (Handle r) o n h = refl
object_fits true (Unique b t) o n h = absurd (let unowned : shapes.Alone ≡ shapes.Shared = h refl in cc)
object_fits true (Struct tag rs) o n h = absurd (h refl)
object_fits true (Union tag rs) o n h = absurd (h refl)
object_fits true (Key r) o n h = absurd (n refl)
object_fits true _ o n h = absurd o

pointer_settled : (s : shapes.Shape) → IsCopiedPointer s → IsCopiedPointer (shapes.settled s)
pointer_settled (shapes.ThinShape b o t) h = ap (λ q. shapes.shared_owner q) h
pointer_settled (shapes.FatShape t) h = tt
pointer_settled _ h = absurd h

-- what a tag gives, which is one in both
filled_fits : (at n : ℕ) (union : Bool) (s : shapes.Shape) (p : PartialType) → IsPointed true n s p → CanBe union s
    → faults_of (after (settled_alone at p) (head_fitting union at)) ≡ []
filled_fits at n union s p h k =
    let f : FilledAlone p = alone_filled n p h.object in
    let t : IsSettled n s None f.type = alone_settled true n s p f.type h.object h.writes f.is in
    let shape : shapes.settled s ≡ shape_of f.type = sym (settled_alone_is s) ∙ t.shape in
    subst (λ (o : Option StaticType). faults_of (after (as_type at o) (head_fitting union at)) ≡ []) (sym f.is)
    (ap (λ (b : Bool). faults_of (if_fits b at f.type))
    (object_fits union f.type t.object (λ e. written_no_key true s p h.writes (shape ∙ e))
    (λ e. subst (λ z. IsCopiedPointer z) shape (pointer_settled s (k e)))))

pub pointed_fits : (at n : ℕ) (union : Bool) (why : Type 0) (s : shapes.Shape) (bad : List Fault) (o : Option PartialType) → (why → ⊥) → bad ≡ []
    → PointedIfSome why true n s o → CanBe union s
    → faults_of (after (after (unless_faulty bad (type_built at o)) (settled_alone at)) (head_fitting union at)) ≡ []
pointed_fits at n union why s bad None never e h k = absurd (never h)
pointed_fits at n union why s bad (Some p) never e h k =
    subst (λ fs. faults_of (after (after (unless_faulty fs (type_built at (Some p))) (settled_alone at)) (head_fitting union at)) ≡ []) (sym e)
    (filled_fits at n union s p h.0 k)

-- regions that have a fault are so in the end
pub no_bad : (g : Env) (union : Bool) (t : TypeName) (fs : List Found) (bad : List Fault) (v : Verdict ℕ)
    → faults_of (after (after (written_on t fs bad v) (settled_alone t.at)) (member_fitting g union t.at)) ≡ [] → bad ≡ []
no_bad g union t fs [] v p = refl
no_bad g union t fs (f ∷ bad) (Faulty c others) p = absurd cc
no_bad g union t fs (f ∷ bad) Unjudged p = absurd cc
no_bad g union t fs (f ∷ bad) (Of n) p = absurd cc

-- ---- what a member may be

-- a struct, a union or a pointer
abbrev pub IsTagged : shapes.Shape → Type 0
IsTagged (shapes.StructShape tag) = Unit {0}
IsTagged (shapes.UnionShape tag) = Unit {0}
IsTagged (shapes.ThinShape b o t) = Unit {0}
IsTagged (shapes.FatShape t) = Unit {0}
IsTagged _ = ⊥

pub tagged_pointers : (ps : List tree.Pointer) (s : shapes.Shape) → IsTagged s → IsTagged (shapes.pointed ps s)
tagged_pointers [] s h = h
tagged_pointers (p ∷ ps) s h = tagged_pointers ps (shapes.signed_shape p.sign (shapes.owner_of p.region) s) (by p.sign)
  where
    by : (x : Sign) → IsTagged (shapes.signed_shape x (shapes.owner_of p.region) s)
    by (sign.Nullable count) = tt
    by (sign.NotNull count) = tt
    by sign.Fat = tt

-- what a union may have isn't unique
alone_fits : (b : shapes.Reach) (t : shapes.Shape) (u : StaticType) → shapes.ThinShape b shapes.Alone t ≡ shape_of u → fits_member true u ≡ true → ⊥
alone_fits b t (Unique n v) e f = cc
alone_fits b t (Thin n q v) e f = cc
alone_fits b t Null e f = cc
alone_fits b t _ e f = cc

tag_fits : (tag : List ℕ) (u : StaticType) → shapes.StructShape tag ≡ shape_of u → fits_member true u ≡ true → ⊥
tag_fits tag (Struct x rs) e f = cc
tag_fits tag _ e f = cc

union_tag_fits : (tag : List ℕ) (u : StaticType) → shapes.UnionShape tag ≡ shape_of u → fits_member true u ≡ true → ⊥
union_tag_fits tag (Union x rs) e f = cc
union_tag_fits tag _ e f = cc

copied_fits : (s : shapes.Shape) (u : StaticType) → IsTagged s → shapes.settled s ≡ shape_of u → fits_member true u ≡ true → IsCopiedPointer s
copied_fits (shapes.StructShape tag) u h e f = absurd (tag_fits tag u e f)
copied_fits (shapes.UnionShape tag) u h e f = absurd (union_tag_fits tag u e f)
copied_fits (shapes.FatShape t) u h e f = tt
copied_fits (shapes.ThinShape b shapes.Unsaid t) u h e f = refl
copied_fits (shapes.ThinShape b shapes.Shared t) u h e f = refl
copied_fits (shapes.ThinShape b shapes.Alone t) u h e f = absurd (alone_fits b (shapes.settled t) u e f)
copied_fits _ u h e f = absurd h

-- what is known of a member without fault
pub record MemberCan (union : Bool) (why : Type 0) (s : shapes.Shape) : Type 0 where
  pub never : why → ⊥
  pub can : CanBe union s

pub member_can : (g : Env) (at n : ℕ) (union : Bool) (why : Type 0) (s : shapes.Shape) (o : Option PartialType) → PointedIfSome why true n s o
    → IsTagged s → faults_of (after (after (type_built at o) (settled_alone at)) (member_fitting g union at)) ≡ [] → MemberCan union why s
member_can g at n union why s None h k e = absurd cc
member_can g at n union why s (Some p) h k e =
    let f : FilledAlone p = alone_filled n p h.0.object in
    let t : IsSettled n s None f.type = alone_settled true n s p f.type h.0.object h.0.writes f.is in
    let shape : shapes.settled s ≡ shape_of f.type = sym (settled_alone_is s) ∙ t.shape in
    let q : faults_of (member_fitting g union at f.type) ≡ [] =
    subst (λ (o : Option StaticType). faults_of (after (as_type at o) (member_fitting g union at)) ≡ []) f.is e in
    let fits : fits_member union f.type ≡ true =
    (and_parts (fits_member union f.type) (stands_earlier g f.type) (by (fits_member union f.type && stands_earlier g f.type) f.type q)).0 in
    record { never = h.1; can = λ u. copied_fits s f.type k shape (subst (λ (b : Bool). fits_member b f.type ≡ true) u fits) }
  where
    by : (b : Bool) (u : StaticType) → faults_of (if_fits b at u) ≡ [] → b ≡ true
    by true u e = refl
    by false u e = absurd cc
