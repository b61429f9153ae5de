-- The bytes that are known of structs and unions in order are those of the rules.
use Rattle.std.proofs.Common.{◌≡◌, ℕ, ◌≤◌, Bool, true, false, List, [], ◌∷◌, ◌++◌, refl, sym, ap, subst, ◌∙◌, arith, cond, max, true≢false}
use Rattle.std.proofs.lemmas.Bool.{and_parts}
use Rattle.std.proofs.lemmas.List.{append_assoc, append-nil}
use Rattle.std.proofs.lemmas.Slice.Eq.{bytes_eq-Decides}
use Rattle.std.specs.Prelude.{None, Option, Some, bytes_eq, if◌then◌else◌, is_none, is_some, nat_eq, ◌||◌}
use Rattle.source_meaning.specs.Shapes.{Layout, parts_of}
use Rattle.source_meaning.specs.Sizes.{Extent, extent_by, laid_out, largest, no_extent, struct_extent, union_extent}
use Rattle.source_typing.specs.Extents.{fits_bytes, is_named_before, known_shape, layouts_of, layouts_onto, meant_first, part_shapes}
use Rattle.source_typing.specs.Tables.{OfTag, Part, each_part, if_known}
use Rattle.source_typing.specs.Types.{Char, Fat, Handle, Int, Key, Null, StaticType, Struct, Thin, Union, Unique, Unsigned, Void, same_bool, shape_of}
use Rattle.cyc_types.specs.InOrder.{are_known, is_known}
use Rattle.cyc_types.specs.Known.{Entry, entries_of, found, is_declared, named_by}
use Rattle.cyc_types.specs.Measures.{bytes_and, bytes_with, extent_in, limited, part_extent, quick_measure, quick_tag, same_measure, scalar_bytes, stored}
use Rattle.cyc_types.specs.Measures.{struct_if, struct_measure, union_bytes, union_if}
use Rattle.cyc_types.specs.Tags.{members_of, tag_of}
use Rattle.cyc_types.specs.declared.tag.Known.{Known}
use Rattle.cyc_types.proofs.InOrder.{facts, found_here, known_at, same_bytes, split}
use Rattle.cyc_types.proofs.Measured.{EachExtent, if_fits, laid_as}
use Rattle.source_meaning.specs.Shapes as shapes
use Rattle.source_typing.specs.Tables as rules

-- ---- one more tag

abbrev pub members : Entry → List Part
members e = members_of e.1.tag.members.items

abbrev pub layout_of : Entry → Layout
layout_of e = record { tag = e.0.now; parts = part_shapes (members e) }

one_of : (wanted u : Bool) (name : List ℕ) (t : rules.Tag) (ls : List Layout)
    → layouts_onto wanted ls (record { name = name; entry = OfTag (record t { is_union = u }) } ∷ [])
    ≡ cond (same_bool wanted u) (record { tag = t.text; parts = part_shapes t.parts } ∷ ls) ls
one_of true true name t ls = refl
one_of true false name t ls = refl
one_of false true name t ls = refl
one_of false false name t ls = refl

pub one_more : (wanted : Bool) (e : Entry) (ls : List Layout)
    → layouts_onto wanted ls (named_by e ∷ []) ≡ cond (same_bool wanted e.1.tag.is_union) (layout_of e ∷ ls) ls
one_more wanted e ls = one_of wanted e.1.tag.is_union e.0.now (tag_of e.0.now e.1.tag) ls

-- ---- each name is declared once

-- a name that isn't found isn't among these
abbrev AreOf : List Entry → List (List ℕ) → Type 0
AreOf acc names = (x : List ℕ) → is_none (found acc x) ≡ true → is_named_before names x ≡ false

none_of_more : (acc : List Entry) (e : Entry) (x : List ℕ) → is_none (found (acc ++ e ∷ []) x) ≡ true
    → (is_none (found acc x) ≡ true) × (bytes_eq x e.0.now ≡ false)
none_of_more [] e x h = by (bytes_eq x e.0.now) refl h
  where
    by : (b : Bool) → bytes_eq x e.0.now ≡ b → is_none (cond b (Some e.1) None) ≡ true → (is_none (found [] x) ≡ true) × (bytes_eq x e.0.now ≡ false)
    by true at h = absurd (true≢false (sym h))
    by false at h = (refl, at)
none_of_more (a ∷ others) e x h = by (bytes_eq x a.0.now) h (none_of_more others e x)
  where
    by : (b : Bool) → is_none (cond b (Some a.1) (found (others ++ e ∷ []) x)) ≡ true
        → (is_none (found (others ++ e ∷ []) x) ≡ true → (is_none (found others x) ≡ true) × (bytes_eq x e.0.now ≡ false))
        → (is_none (cond b (Some a.1) (found others x)) ≡ true) × (bytes_eq x e.0.now ≡ false)
    by true h next = absurd (true≢false (sym h))
    by false h next = next h

more_of : (acc : List Entry) (e : Entry) (names : List (List ℕ)) → AreOf acc names → AreOf (acc ++ e ∷ []) (e.0.now ∷ names)
more_of acc e names of x h =
    let split = none_of_more acc e x h in
    ap (λ c. c || is_named_before names x) (same_bytes e.0.now x ∙ split.1) ∙ of x split.0

each_meant : (acc es : List Entry) (names : List (List ℕ)) → are_known acc es ≡ true → AreOf acc names
    → meant_first names (entries_of es) ≡ entries_of es
each_meant acc [] names known of = refl
each_meant acc (e ∷ es) names known of =
    let both = and_parts (is_known acc e.0.now e.1) (are_known (acc ++ e ∷ []) es) known in
    ap (λ b. if b then meant_first names (entries_of es) else named_by e ∷ meant_first (e.0.now ∷ names) (entries_of es))
    (of e.0.now (facts acc e.0.now e.1 both.0).new)
    ∙ ap (λ ns. named_by e ∷ ns) (each_meant (acc ++ e ∷ []) es (e.0.now ∷ names) both.1 (more_of acc e names of))

-- so all of them are meant
pub layouts_known : (all : List Entry) → are_known [] all ≡ true → (union : Bool)
    → layouts_onto union [] (entries_of all) ≡ layouts_of union (entries_of all)
layouts_known all known union = ap (layouts_onto union []) (sym (each_meant [] all [] known (λ x h. refl)))

-- ---- what is found with it

cond_same : {A B : Type 0} (f : A → B) (b : Bool) (x y z : A) → f y ≡ f z → f (cond b x y) ≡ f (cond b x z)
cond_same f true x y z h = refl
cond_same f false x y z h = h

-- it is as if it weren't there
pub passed : {A : Type 0} (what : Option Known → A) (acc : List Entry) (e : Entry) (tag : List ℕ) → what None ≡ what (Some e.1)
    → what (found acc tag) ≡ what (found (acc ++ e ∷ []) tag)
passed what [] e tag h = by (bytes_eq tag e.0.now)
  where
    by : (b : Bool) → what None ≡ what (cond b (Some e.1) None)
    by true = h
    by false = refl
passed what (a ∷ others) e tag h =
    cond_same what (bytes_eq tag a.0.now) (Some a.1) (found others tag) (found (others ++ e ∷ []) tag) (passed what others e tag h)

elsewhere : (acc : List Entry) (e : Entry) (tag : List ℕ) → bytes_eq tag e.0.now ≡ false → found acc tag ≡ found (acc ++ e ∷ []) tag
elsewhere [] e tag h = sym (ap (λ b. cond b (Some e.1) None) h)
elsewhere (a ∷ others) e tag h = ap (cond (bytes_eq tag a.0.now) (Some a.1)) (elsewhere others e tag h)

-- it stands before the others
pub added : {A : Type 0} (what : Option Known → A) (acc : List Entry) (e : Entry) (tag : List ℕ) (here there : A) (b : Bool) → bytes_eq e.0.now tag ≡ b
    → is_none (found acc e.0.now) ≡ true → here ≡ what (Some e.1) → there ≡ what (found acc tag)
    → cond b here there ≡ what (found (acc ++ e ∷ []) tag)
added what acc e tag here there true h new own others =
    let same : e.0.now ≡ tag = (bytes_eq-Decides e.0.now tag).0 h in
    own ∙ sym (ap what (subst (λ x. found (acc ++ e ∷ []) x ≡ Some e.1) same (found_here acc [] e.0 e.1 new)))
added what acc e tag here there false h new own others = others ∙ ap what (elsewhere acc e tag (same_bytes tag e.0.now ∙ h))

pub kept : (acc after : List Entry) (tag : List ℕ) (k : Known) → found acc tag ≡ Some k → found (acc ++ after) tag ≡ Some k
kept [] after tag k h = absurd (true≢false (ap is_none h))
kept (a ∷ others) after tag k h = by (bytes_eq tag a.0.now) h (kept others after tag k)
  where
    by : (b : Bool) → cond b (Some a.1) (found others tag) ≡ Some k → (found others tag ≡ Some k → found (others ++ after) tag ≡ Some k)
        → cond b (Some a.1) (found (others ++ after) tag) ≡ Some k
    by true h ih = h
    by false h ih = ih h

-- ---- unions

abbrev pub union_parts : Option Known → List shapes.Part
union_parts None = []
union_parts (Some k) = cond k.tag.is_union (part_shapes (members_of k.tag.members.items)) []

abbrev HasUnions : List Layout → List Entry → Type 0
HasUnions ls acc = (tag : List ℕ) → parts_of ls tag ≡ union_parts (found acc tag)

next_union : (acc : List Entry) (e : Entry) (ls : List Layout) (u : Bool) → e.1.tag.is_union ≡ u → is_none (found acc e.0.now) ≡ true
    → HasUnions ls acc → HasUnions (cond (same_bool true u) (layout_of e ∷ ls) ls) (acc ++ e ∷ [])
next_union acc e ls true h new so_far tag =
    added union_parts acc e tag (part_shapes (members e)) (parts_of ls tag) (bytes_eq e.0.now tag) refl new
    (sym (ap (λ b. cond b (part_shapes (members e)) []) h)) (so_far tag)
next_union acc e ls false h new so_far tag = so_far tag ∙ passed union_parts acc e tag (sym (ap (λ b. cond b (part_shapes (members e)) []) h))

pub unions_onto : (acc es : List Entry) (ls : List Layout) → are_known acc es ≡ true → HasUnions ls acc
    → HasUnions (layouts_onto true ls (entries_of es)) (acc ++ es)
unions_onto acc [] ls known so_far = subst (HasUnions ls) (sym (append-nil acc)) so_far
unions_onto acc (e ∷ es) ls known so_far =
    let both = and_parts (is_known acc e.0.now e.1) (are_known (acc ++ e ∷ []) es) known in
    let new = (facts acc e.0.now e.1 both.0).new in
    let next = subst (λ l. HasUnions l (acc ++ e ∷ [])) (sym (one_more true e ls))
    (next_union acc e ls e.1.tag.is_union refl new so_far) in
    subst (HasUnions (layouts_onto true ls (entries_of (e ∷ es)))) (append_assoc acc (e ∷ []) es)
    (unions_onto (acc ++ e ∷ []) es (layouts_onto true ls (named_by e ∷ [])) both.1 next)

scalar_small : (t : StaticType) → (extent_by no_extent no_extent (shape_of t)).size ≤ 12
scalar_small Int = omega arith
scalar_small Unsigned = omega arith
scalar_small Char = omega arith
scalar_small Void = omega arith
scalar_small Null = omega arith
scalar_small (Thin m r t) = omega arith
scalar_small (Fat r t) = omega arith
scalar_small (Unique m t) = omega arith
scalar_small (Handle r) = omega arith
scalar_small (Key r) = omega arith
scalar_small (Struct tag rs) = omega arith
scalar_small (Union tag rs) = omega arith

pub member_small : (o : Option StaticType) → scalar_bytes o ≤ 12
member_small None = omega arith
member_small (Some t) = scalar_small t

pub largest_small : (ps : List Part) (most : ℕ) → most ≤ 12 → largest (extent_by no_extent no_extent) most (part_shapes ps) ≤ 12
largest_small [] most h = h
largest_small (p ∷ ps) most h =
    let own = member_small p.type in
    largest_small ps (max most (scalar_bytes p.type)) (omega (arith, h, own))

pub same_as : (a b : Option Extent) → same_measure a b ≡ true → a ≡ b
same_as None None h = refl
same_as None (Some b) h = absurd (true≢false (sym h))
same_as (Some a) None h = absurd (true≢false (sym h))
same_as (Some a) (Some b) h =
    let both = and_parts (nat_eq a.size b.size) (nat_eq a.align b.align) h in
    let sizes : a.size ≡ b.size = grind (arith, both.0) in
    let aligns : a.align ≡ b.align = grind (arith, both.1) in
    ap (λ n. Some (bytes_and n a.align)) sizes ∙ ap (λ n. Some (bytes_and b.size n)) aligns

-- ---- structs

abbrev pub AllUnions : List Layout → List Entry → Type 0
AllUnions unions all = (tag : List ℕ) → limited (union_extent unions tag) ≡ union_if stored (found all tag)

-- where it is declared
abbrev pub DeclaredUnions : List Layout → List Entry → Type 0
DeclaredUnions unions acc = (tag : List ℕ) → is_some (found acc tag) ≡ true → limited (union_extent unions tag) ≡ union_if stored (found acc tag)

abbrev pub HasStructs : List Layout → List Layout → List Entry → Type 0
HasStructs unions ls acc = (tag : List ℕ) → limited (struct_extent unions ls tag) ≡ struct_if stored (found acc tag)

pub declared_unions : (unions : List Layout) (acc after : List Entry) → AllUnions unions (acc ++ after) → DeclaredUnions unions acc
declared_unions unions acc after of tag h = by (found acc tag) refl h
  where
    by : (k : Option Known) → found acc tag ≡ k → is_some k ≡ true → limited (union_extent unions tag) ≡ union_if stored k
    by None at h = absurd (true≢false (sym h))
    by (Some k) at h = of tag ∙ ap (union_if stored) (kept acc after tag k at)

limited_either : (b : Bool) (x y : Extent) → limited (cond b x y) ≡ cond b (limited x) (limited y)
limited_either true x y = refl
limited_either false x y = refl

module _ (unions ls : List Layout) (acc : List Entry) (structs : HasStructs unions ls acc) (declared : DeclaredUnions unions acc) where
  type_measure : (t : StaticType) → is_declared acc t ≡ true
      → limited (extent_by (struct_extent unions ls) (union_extent unions) (shape_of t)) ≡ quick_measure acc t
  type_measure (Struct tag rs) h = structs tag
  type_measure (Union tag rs) h = declared tag h
  type_measure Int h = refl
  type_measure Unsigned h = refl
  type_measure Char h = refl
  type_measure Void h = refl
  type_measure Null h = refl
  type_measure (Thin m r t) h = refl
  type_measure (Fat r t) h = refl
  type_measure (Unique m t) h = refl
  type_measure (Handle r) h = refl
  type_measure (Key r) h = refl

  pub part_measure : (o : Option StaticType) → if_known (is_declared acc) o ≡ true
      → limited (extent_by (struct_extent unions ls) (union_extent unions) (known_shape o)) ≡ part_extent (quick_measure acc) o
  part_measure None h = refl
  part_measure (Some t) h = type_measure t h

  each_measure : (ps : List Part) → each_part (is_declared acc) ps ≡ true
      → EachExtent (extent_by (struct_extent unions ls) (union_extent unions)) (quick_measure acc) ps
  each_measure [] h = tt
  each_measure (p ∷ ps) h =
      let both = and_parts (if_known (is_declared acc) p.type) (each_part (is_declared acc) ps) h in
      (part_measure p.type both.0, each_measure ps both.1)

  pub struct_bytes : (ps : List Part) (tag : List ℕ) → each_part (is_declared acc) ps ≡ true
      → limited (laid_out (extent_by (struct_extent unions ls) (union_extent unions)) (no_extent tag) (part_shapes ps)) ≡ struct_measure acc ps
  struct_bytes ps tag h =
      laid_as (extent_by (struct_extent unions ls) (union_extent unions)) (quick_measure acc) ps (bytes_and 0 1) true refl (each_measure ps h)

  pub next_struct : (e : Entry) (u : Bool) → e.1.tag.is_union ≡ u → is_known acc e.0.now e.1 ≡ true
      → HasStructs unions (cond (same_bool false u) (layout_of e ∷ ls) ls) (acc ++ e ∷ [])
  next_struct e true h known tag = structs tag ∙ passed (struct_if stored) acc e tag (sym (ap (λ b. cond b (Some (bytes_and 0 1)) (stored e.1)) h))
  next_struct e false h known tag =
      let of = facts acc e.0.now e.1 known in
      let laid = laid_out (extent_by (struct_extent unions ls) (union_extent unions)) (no_extent tag) (part_shapes (members e)) in
      let own : limited laid ≡ struct_if stored (Some e.1) =
      struct_bytes (members e) tag of.declared
      ∙ sym (ap (λ b. cond b (Some (bytes_and 0 1)) (stored e.1)) h
      ∙ same_as (stored e.1) (quick_tag acc e.1.tag) of.counted
      ∙ ap (λ b. cond b (Some (union_bytes (members e))) (struct_measure acc (members e))) h) in
      limited_either (bytes_eq e.0.now tag) laid (struct_extent unions ls tag)
      ∙ added (struct_if stored) acc e tag (limited laid) (limited (struct_extent unions ls tag)) (bytes_eq e.0.now tag) refl of.new own (structs tag)

pub structs_onto : (unions : List Layout) (acc es : List Entry) (ls : List Layout) → AllUnions unions (acc ++ es) → are_known acc es ≡ true
    → HasStructs unions ls acc → HasStructs unions (layouts_onto false ls (entries_of es)) (acc ++ es)
structs_onto unions acc [] ls of known so_far = subst (HasStructs unions ls) (sym (append-nil acc)) so_far
structs_onto unions acc (e ∷ es) ls of known so_far =
    let both = and_parts (is_known acc e.0.now e.1) (are_known (acc ++ e ∷ []) es) known in
    let next = subst (λ l. HasStructs unions l (acc ++ e ∷ [])) (sym (one_more false e ls))
    (next_struct unions ls acc so_far (declared_unions unions acc (e ∷ es) of) e e.1.tag.is_union refl both.0) in
    let again : AllUnions unions ((acc ++ e ∷ []) ++ es) = subst (AllUnions unions) (sym (append_assoc acc (e ∷ []) es)) of in
    subst (HasStructs unions (layouts_onto false ls (entries_of (e ∷ es)))) (append_assoc acc (e ∷ []) es)
    (structs_onto unions (acc ++ e ∷ []) es (layouts_onto false ls (named_by e ∷ [])) again both.1 next)

-- ---- all

pub union_fits : (most : ℕ) → most ≤ 12 → fits_bytes (bytes_with most).size ≡ true
union_fits most h = grind (arith, h)

abbrev of_parts : List shapes.Part → Option Extent
of_parts ps = limited (bytes_with (largest (extent_by no_extent no_extent) 0 ps))

pub has_unions : (all : List Entry) → are_known [] all ≡ true → HasUnions (layouts_of true (entries_of all)) all
has_unions all known = subst (λ ls. HasUnions ls all) (layouts_known all known true) (unions_onto [] all [] known (λ tag. refl))

pub all_unions : (all : List Entry) → are_known [] all ≡ true → AllUnions (layouts_of true (entries_of all)) all
all_unions all known tag =
    ap of_parts (has_unions all known tag)
    ∙ by (found all tag) refl
  where
    within : (k : Known) (before : List Entry) (x : List ℕ) → is_known before x k ≡ true → (u : Bool) → k.tag.is_union ≡ u
        → of_parts (cond u (part_shapes (members_of k.tag.members.items)) []) ≡ cond u (stored k) (Some (bytes_and 4 4))
    within k before x own true h =
        let ps = members_of k.tag.members.items in
        let most = largest (extent_by no_extent no_extent) 0 (part_shapes ps) in
        if_fits (bytes_with most) (union_fits most (largest_small ps 0 (omega arith)))
        ∙ sym (same_as (stored k) (quick_tag before k.tag) (facts before x k own).counted
        ∙ ap (λ b. cond b (Some (union_bytes ps)) (struct_measure before ps)) h)
    within k before x own false h = refl

    by : (k : Option Known) → found all tag ≡ k → of_parts (union_parts k) ≡ union_if stored k
    by None at = refl
    by (Some k) at =
        let s = split all tag k at in
        let own = known_at [] s.before s.after (s.at, k) (subst (λ l. are_known [] l ≡ true) s.is known) in
        within k s.before s.at.now own k.tag.is_union refl

pub extent_known : (all : List Entry) → are_known [] all ≡ true → (t : StaticType) → limited (extent_in (entries_of all) t) ≡ quick_measure all t
extent_known all known t =
    let unions = layouts_of true (entries_of all) in
    let structs = layouts_of false (entries_of all) in
    by_type unions structs (all_unions all known) (subst (λ ls. HasStructs unions ls all) (layouts_known all known false)
    (structs_onto unions [] all [] (all_unions all known) known (λ tag. refl))) t
  where
    by_type : (unions structs : List Layout) → AllUnions unions all → HasStructs unions structs all → (t : StaticType)
        → limited (extent_by (struct_extent unions structs) (union_extent unions) (shape_of t)) ≡ quick_measure all t
    by_type unions structs a s (Struct tag rs) = s tag
    by_type unions structs a s (Union tag rs) = a tag
    by_type unions structs a s Int = refl
    by_type unions structs a s Unsigned = refl
    by_type unions structs a s Char = refl
    by_type unions structs a s Void = refl
    by_type unions structs a s Null = refl
    by_type unions structs a s (Thin m r t) = refl
    by_type unions structs a s (Fat r t) = refl
    by_type unions structs a s (Unique m t) = refl
    by_type unions structs a s (Handle r) = refl
    by_type unions structs a s (Key r) = refl
