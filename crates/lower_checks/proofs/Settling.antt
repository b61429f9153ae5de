-- The shape of a type by an initializer's: which pointers are unique though the type leaves their region out.
use Rattle.std.proofs.Common.{
  ◌≡◌,
  ◌∙◌,
  ◌<◌,
  ◌+◌,
  ℕ,
  Option,
  None,
  Some,
  refl,
  sym,
  ap,
  ap₂,
  List,
  [],
  ◌∷◌,
  ◌++◌,
  map,
  length,
  take,
  get_or,
  reverse,
}
use Rattle.std.proofs.lemmas.Grind.{reverse_onto}
use Rattle.std.proofs.lemmas.List.{reverse-append, reverse-reverse}
use Rattle.cyc_tree.specs.Tree as tree
use Rattle.cyc_tree.specs.Tree.{Base, Pointer, RegionName}
use Rattle.cyc_tree.specs.View.{pointer_tree}
use Rattle.cyc_tree.specs.declared.name.Pointer as code_pointer
use Rattle.cyc_tree.specs.declared.name.Sign.{Sign}
use Rattle.cyc_tree.specs.declared.name.Sign.TheVariants.{Nullable, NotNull, Fat}
use Rattle.source_meaning.specs.Shapes.{
  Owner,
  Shared,
  Alone,
  Unsaid,
  Reach,
  MayBeNull,
  NeverNull,
  Shape,
  ThinShape,
  FatShape,
  base_shape,
  first_owner,
  owner_of,
  pointed,
  pointee,
  settled,
  settled_by,
  shared_owner,
  signed_shape,
}
use Rattle.lower_checks.specs.Given.{given_by, given_inwards, given_to, is_given, is_unique, owner_given, pointed_given}
use Rattle.lower_checks.proofs.Pointers.{last_apart, outer_given, outer_pointed}
use Rattle.accepted_proof.proofs.Owners.{by_void}

-- ---- owners

-- an owner by a shape at the same place
abbrev owner_by : Owner → Shape → Owner
owner_by o (ThinShape bound other from) = first_owner o other
owner_by o s = shared_owner o

shared_stays : (by : Shape) → Shared ≡ owner_by Shared by
shared_stays (ThinShape n other from) = refl
shared_stays s = refl

alone_stays : (by : Shape) → Alone ≡ owner_by Alone by
alone_stays (ThinShape n other from) = refl
alone_stays s = refl

unsaid_is : (by : Shape) → shared_owner (owner_given (is_unique by) Unsaid) ≡ owner_by Unsaid by
unsaid_is (ThinShape n Shared from) = refl
unsaid_is (ThinShape n Alone from) = refl
unsaid_is (ThinShape n Unsaid from) = refl
unsaid_is s = refl

nullable_owner : (count : ℕ) (region : Option RegionName) (by : Shape)
    → shared_owner (owner_given (given_to (Nullable count) region by) (owner_of region)) ≡ owner_by (owner_of region) by
nullable_owner count None by = unsaid_is by
nullable_owner count (Some (tree.Heap at)) by = shared_stays by
nullable_owner count (Some (tree.Unique at)) by = alone_stays by
nullable_owner count (Some (tree.Named name)) by = shared_stays by

not_null_owner : (count : ℕ) (region : Option RegionName) (by : Shape)
    → shared_owner (owner_given (given_to (NotNull count) region by) (owner_of region)) ≡ owner_by (owner_of region) by
not_null_owner count None by = unsaid_is by
not_null_owner count (Some (tree.Heap at)) by = shared_stays by
not_null_owner count (Some (tree.Unique at)) by = alone_stays by
not_null_owner count (Some (tree.Named name)) by = shared_stays by

-- ---- shapes

base_settles : (b : Base) (by : Shape) → settled (base_shape b) ≡ settled_by (base_shape b) by
base_settles (tree.Struct tag arguments) by = refl
base_settles b by = refl

fat_settles : (by x y : Shape) → settled x ≡ settled_by y (pointee by) → FatShape (settled x) ≡ settled_by (FatShape y) by
fat_settles (ThinShape n other from) x y is = ap FatShape is
fat_settles (FatShape from) x y is = ap FatShape is
fat_settles by x y is = ap FatShape (is ∙ by_void y)

thin_settles :
    (m : Reach) (o p : Owner) (by x y : Shape) → shared_owner p ≡ owner_by o by → settled x ≡ settled_by y (pointee by) →
    ThinShape m (shared_owner p) (settled x) ≡ settled_by (ThinShape m o y) by
thin_settles m o p (ThinShape n other from) x y owner is = ap₂ (ThinShape m) owner is
thin_settles m o p (FatShape from) x y owner is = ap₂ (ThinShape m) owner is
thin_settles m o p by x y owner is = ap₂ (ThinShape m) owner (is ∙ by_void y)

pointer_settles :
    (sign : Sign) (region : Option RegionName) (by x y : Shape) → settled x ≡ settled_by y (pointee by) →
    settled (signed_shape sign (owner_given (given_to sign region by) (owner_of region)) x) ≡ settled_by (signed_shape sign (owner_of region) y) by
pointer_settles (Nullable count) region by x y is =
    thin_settles (MayBeNull count) (owner_of region) (owner_given (given_to (Nullable count) region by) (owner_of region)) by x y
    (nullable_owner count region by) is
pointer_settles (NotNull count) region by x y is =
    thin_settles (NeverNull count) (owner_of region) (owner_given (given_to (NotNull count) region by) (owner_of region)) by x y
    (not_null_owner count region by) is
pointer_settles Fat region by x y is = fat_settles by x y is

-- ---- which pointers are unique by that

inwards_settle :
    (s : Shape) (ps : List Pointer) (by : Shape) → ((other : Shape) → settled s ≡ settled_by s other) →
    settled (pointed_given (given_inwards ps by) (reverse ps) s) ≡ settled_by (pointed (reverse ps) s) by
inwards_settle s [] by base = base by
inwards_settle s (p ∷ ps) by base =
    let others = given_inwards ps (pointee by) in
    let given = is_given p by ∷ others in
    let inner = reverse ps in
    let back : reverse (p ∷ ps) ≡ inner ++ p ∷ [] = reverse_onto ps p [] in
    ap (λ (qs : List Pointer). settled (pointed_given given qs s)) back ∙ ap settled (outer_given given inner p s)
    ∙ pointer_settles p.sign p.region by (pointed_given others inner s) (pointed inner s) (inwards_settle s ps (pointee by) base)
    ∙ ap (λ (whole : Shape). settled_by whole by) (sym (outer_pointed inner p s))
    ∙ ap (λ (qs : List Pointer). settled_by (pointed qs s) by) (sym back)

-- what a shape gives makes a type what it is by that shape
pub given_settles :
    (ps : List Pointer) (b : Base) (by : Shape) → settled (pointed_given (given_by ps by) ps (base_shape b)) ≡ settled_by (pointed ps (base_shape b)) by
given_settles ps b by =
    let s = base_shape b in
    let back = reverse-reverse ps in
    ap (λ (qs : List Pointer). settled (pointed_given (given_by ps by) qs s)) (sym back) ∙ inwards_settle s (reverse ps) by (base_settles b)
    ∙ ap (λ (qs : List Pointer). settled_by (pointed qs s) by) back

-- ---- in the loop, from the outermost pointer inwards

pub one_inwards :
    (ps : List code_pointer.Pointer) (n : ℕ) (p : code_pointer.Pointer) (by : Shape) → n < length ps → p ≡ get_or ps n p →
    given_inwards (reverse (map pointer_tree (take (n + 1) ps))) by ≡
    is_given (pointer_tree p) by ∷ given_inwards (reverse (map pointer_tree (take n ps))) (pointee by)
one_inwards ps n p by within is =
    ap (λ (qs : List Pointer). given_inwards qs by)
    (ap reverse (last_apart ps n p within is) ∙ reverse-append (map pointer_tree (take n ps)) (pointer_tree p ∷ []))
