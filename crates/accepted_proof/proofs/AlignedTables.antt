-- Two tables of a program, of which one knows its tags alone: heads and globals are judged alike by both.
use Rattle.std.proofs.Common.{◌≡◌, ◌⊎◌, ℕ, zero, suc, Bool, true, false, inl, inr, Option, Some, None, List, [], ◌∷◌, refl, sym, subst, ap, ap₂, ◌∙◌}
use Rattle.std.specs.Prelude.{◌*◌, ◌&&◌, ◌++◌, bytes_eq, if◌then◌else◌, length, nat_lt, not}
use Rattle.cyc_tree.specs.Tree as tree
use Rattle.cyc_tree.specs.Tree.{Initial, Item}
use Rattle.source_meaning.specs.Shapes.{Layout}
use Rattle.source_typing.proofs.Parts.{each_as}
use Rattle.source_typing.specs.Declarations.{can_be, converted_to, if_sized, stands_earlier, tag_earlier}
use Rattle.source_typing.specs.Extents.{fits_bytes, is_named_before, layouts_of, layouts_onto, meant_first, size_by, variable_size}
use Rattle.source_typing.specs.Functions.{head_of}
use Rattle.source_typing.specs.Globals.{string_faults, constant, count_of, fitting_global, foreign_names, global_entry, global_faults, global_type}
use Rattle.source_typing.specs.Globals.{global_type_by, has_none}
use Rattle.source_typing.specs.Globals.{initial_faults}
use Rattle.source_typing.specs.Programs.{Judged, builtins, entries, entries_with, named}
use Rattle.source_typing.specs.Scope.{Value, at_item}
use Rattle.source_typing.specs.Tables.{Entry, Named, OfBuiltin, OfFunction, OfOther, OfTag, OfValue, Tables, as_tag, begins, each_part, find}
use Rattle.source_typing.specs.Tables.{has_beginning, parts_in, parts_of_tag}
use Rattle.source_typing.specs.Tags.{settled_alone}
use Rattle.source_typing.specs.Types.{Char, Fat, Handle, Int, Key, Null, PartialType, StaticType, Struct, Thin, Union, Unique, Unsigned, Void}
use Rattle.source_typing.specs.Types.{is_element, is_key, is_void}
use Rattle.source_typing.specs.Verdicts.{Faulty, Of, Unjudged, Verdict, after, faults_of, if_fits, refuse}
use Rattle.source_typing.specs.Faults.{type_rule}
use Rattle.source_typing.specs.Written.{RegionNamed, Spot, spots_of, tag_of, written}
use Rattle.source_typing.proofs.SameTags.{SameTags, spots_same, written_same}
use Rattle.accepted_proof.proofs.Named.{AreNamed}

-- ---- entries

-- a name that is no tag
abbrev pub IsOther : Entry → Type 0
IsOther (OfTag t) = ⊥
IsOther e = Unit {0}

-- the same entry, or no tag in both
abbrev pub AreLike : Entry → Entry → Type 0
AreLike e d = (e ≡ d) ⊎ (IsOther e × IsOther d)

-- the same names in the same order
abbrev pub AreAligned : Tables → Tables → Type 0
AreAligned [] [] = Unit {0}
AreAligned (n ∷ g) (m ∷ h) = (n.name ≡ m.name) × (AreLike n.entry m.entry × AreAligned g h)
AreAligned [] (m ∷ h) = ⊥
AreAligned (n ∷ g) [] = ⊥

other_tag : (e : Entry) (union : Bool) (at : ℕ) → IsOther e → tag_of (Some e) union at ≡ refuse type_rule at
other_tag (OfTag t) union at o = absurd o
other_tag (OfValue w) union at o = refl
other_tag (OfFunction s) union at o = refl
other_tag (OfBuiltin n) union at o = refl
other_tag OfOther union at o = refl

no_tag : (e : Entry) → IsOther e → as_tag (Some e) ≡ None
no_tag (OfTag t) o = absurd o
no_tag (OfValue w) o = refl
no_tag (OfFunction s) o = refl
no_tag (OfBuiltin n) o = refl
no_tag OfOther o = refl

like_tag : (e d : Entry) (union : Bool) (at : ℕ) → AreLike e d → tag_of (Some e) union at ≡ tag_of (Some d) union at
like_tag e d union at (inl p) = ap (λ (z : Entry). tag_of (Some z) union at) p
like_tag e d union at (inr o) = other_tag e union at o.0 ∙ sym (other_tag d union at o.1)

like_as_tag : (e d : Entry) → AreLike e d → as_tag (Some e) ≡ as_tag (Some d)
like_as_tag e d (inl p) = ap (λ (z : Entry). as_tag (Some z)) p
like_as_tag e d (inr o) = no_tag e o.0 ∙ sym (no_tag d o.1)

-- ---- tables

pub same_tags : (g h : Tables) → AreAligned g h → SameTags g h
same_tags [] [] k = record { tags = λ x union at. refl; regions = λ x. refl }
same_tags [] (m ∷ h) k = absurd k
same_tags (n ∷ g) [] k = absurd k
same_tags (n ∷ g) (m ∷ h) k =
    let rest : SameTags g h = same_tags g h k.1.1 in
    record {
      tags = λ x union at. subst (λ (y : List ℕ). tag_of (if bytes_eq n.name x then Some n.entry else find g x) union at
          ≡ tag_of (if bytes_eq y x then Some m.entry else find h x) union at) k.0 (tags (bytes_eq n.name x) x union at (rest.tags x union at));
      regions = λ x. subst (λ (y : List ℕ). as_tag (if bytes_eq n.name x then Some n.entry else find g x)
          ≡ as_tag (if bytes_eq y x then Some m.entry else find h x)) k.0 (regions (bytes_eq n.name x) x (rest.regions x));
    }
  where
    tags : (b : Bool) (x : List ℕ) (union : Bool) (at : ℕ) → tag_of (find g x) union at ≡ tag_of (find h x) union at
        → tag_of (if b then Some n.entry else find g x) union at ≡ tag_of (if b then Some m.entry else find h x) union at
    tags true x union at others = like_tag n.entry m.entry union at k.1.0
    tags false x union at others = others

    regions : (b : Bool) (x : List ℕ) → as_tag (find g x) ≡ as_tag (find h x)
        → as_tag (if b then Some n.entry else find g x) ≡ as_tag (if b then Some m.entry else find h x)
    regions true x others = like_as_tag n.entry m.entry k.1.0
    regions false x others = others

pub same_length : (g h : Tables) → AreAligned g h → length g ≡ length h
same_length [] [] k = refl
same_length [] (m ∷ h) k = absurd k
same_length (n ∷ g) [] k = absurd k
same_length (n ∷ g) (m ∷ h) k = ap (λ c. suc c) (same_length g h k.1.1)

-- one entry's layout before others
abbrev with_entry : Bool → List Layout → List ℕ → Entry → List Layout
with_entry union ls x e = layouts_onto union ls (record { name = x; entry = e } ∷ [])

no_layout : (union : Bool) (ls : List Layout) (x : List ℕ) (e : Entry) → IsOther e → with_entry union ls x e ≡ ls
no_layout union ls x (OfTag t) o = absurd o
no_layout union ls x (OfValue w) o = refl
no_layout union ls x (OfFunction s) o = refl
no_layout union ls x (OfBuiltin n) o = refl
no_layout union ls x OfOther o = refl

like_layout : (union : Bool) (ls : List Layout) (x : List ℕ) (e d : Entry) → AreLike e d → with_entry union ls x e ≡ with_entry union ls x d
like_layout union ls x e d (inl p) = ap (λ (z : Entry). with_entry union ls x z) p
like_layout union ls x e d (inr o) = no_layout union ls x e o.0 ∙ sym (no_layout union ls x d o.1)

layouts_onto_same : (union : Bool) (ls : List Layout) (g h : Tables) → AreAligned g h → layouts_onto union ls g ≡ layouts_onto union ls h
layouts_onto_same union ls [] [] k = refl
layouts_onto_same union ls [] (m ∷ h) k = absurd k
layouts_onto_same union ls (n ∷ g) [] k = absurd k
layouts_onto_same union ls (n ∷ g) (m ∷ h) k =
    ap (λ (z : List Layout). layouts_onto union z g) (like_layout union ls n.name n.entry m.entry k.1.0)
    ∙ layouts_onto_same union (with_entry union ls n.name m.entry) g h k.1.1

-- so are those that names mean
meant_aligned : (before : List (List ℕ)) (g h : Tables) → AreAligned g h → AreAligned (meant_first before g) (meant_first before h)
meant_aligned before [] [] k = tt
meant_aligned before [] (m ∷ h) k = absurd k
meant_aligned before (n ∷ g) [] k = absurd k
meant_aligned before (n ∷ g) (m ∷ h) k =
    subst (λ (y : List ℕ). AreAligned (meant_first before (n ∷ g)) (if is_named_before before y then meant_first before h else m ∷ meant_first (y ∷ before) h))
    k.0 (by (is_named_before before n.name) (meant_aligned before g h k.1.1) (meant_aligned (n.name ∷ before) g h k.1.1))
  where
    by : (b : Bool) → AreAligned (meant_first before g) (meant_first before h)
        → AreAligned (meant_first (n.name ∷ before) g) (meant_first (n.name ∷ before) h)
        → AreAligned (if b then meant_first before g else n ∷ meant_first (n.name ∷ before) g)
        (if b then meant_first before h else m ∷ meant_first (n.name ∷ before) h)
    by true others own = others
    by false others own = (k.0, (k.1.0, own))

pub layouts_same : (union : Bool) (g h : Tables) → AreAligned g h → layouts_of union g ≡ layouts_of union h
layouts_same union g h k = layouts_onto_same union [] (meant_first [] g) (meant_first [] h) (meant_aligned [] g h k)

-- ---- what has a beginning

begins_same : (g h : Tables) → SameTags g h → (n : ℕ) (t : StaticType) → begins n g t ≡ begins n h t
begins_same g h s n Int = refl
begins_same g h s n Unsigned = refl
begins_same g h s n Char = refl
begins_same g h s n Void = refl
begins_same g h s n Null = refl
begins_same g h s n (Thin b r t) = refl
begins_same g h s n (Fat r t) = refl
begins_same g h s n (Unique b t) = refl
begins_same g h s n (Handle r) = refl
begins_same g h s n (Key r) = refl
begins_same g h s zero (Struct tag rs) = refl
begins_same g h s (suc n) (Struct tag rs) =
    ap (λ o. each_part (begins n g) (parts_of_tag o)) (s.regions tag) ∙ each_as (begins n g) (begins n h) (parts_in h tag) (λ t. begins_same g h s n t)
begins_same g h s n (Union tag rs) = refl

pub beginning_same : (g h : Tables) (t : StaticType) → AreAligned g h → has_beginning g t ≡ has_beginning h t
beginning_same g h t k = ap (λ n. begins n g t) (same_length g h k) ∙ begins_same g h (same_tags g h k) (length h) t

-- ---- globals

earlier_same : (g h : Tables) (i : ℕ) (t : StaticType) → SameTags g h → stands_earlier (at_item false g i) t ≡ stands_earlier (at_item false h i) t
earlier_same g h i (Struct tag rs) s = ap (λ o. tag_earlier i o) (s.regions tag)
earlier_same g h i (Union tag rs) s = ap (λ o. tag_earlier i o) (s.regions tag)
earlier_same g h i Int s = refl
earlier_same g h i Unsigned s = refl
earlier_same g h i Char s = refl
earlier_same g h i Void s = refl
earlier_same g h i Null s = refl
earlier_same g h i (Thin b r t) s = refl
earlier_same g h i (Fat r t) s = refl
earlier_same g h i (Unique b t) s = refl
earlier_same g h i (Handle r) s = refl
earlier_same g h i (Key r) s = refl

can_be_same : (g h : Tables) (i : ℕ) (c : Option ℕ) (t : StaticType) → SameTags g h → can_be (at_item false g i) c t ≡ can_be (at_item false h i) c t
can_be_same g h i None t s = ap (λ b. not (is_void t) && b) (earlier_same g h i t s)
can_be_same g h i (Some n) t s =
    ap (λ b. not (is_void t) && b && nat_lt 0 n && is_element t) (earlier_same g h i t s)

size_same : (g h : Tables) (c : Option ℕ) (t : StaticType) → AreAligned g h → variable_size g c t ≡ variable_size h c t
size_same g h c t k = by c (ap₂ (λ (a b : List Layout). size_by a b t) (layouts_same false g h k) (layouts_same true g h k))
  where
    by : (c : Option ℕ) → size_by (layouts_of false g) (layouts_of true g) t ≡ size_by (layouts_of false h) (layouts_of true h) t
        → variable_size g c t ≡ variable_size h c t
    by None e = e
    by (Some n) e = ap (λ (m : ℕ). n * m) e

module _ (g h : Tables) (k : AreAligned g h) (i : ℕ) where
  fitting_same : (at : ℕ) (c : Option ℕ) (native : Bool) (t : StaticType)
      → fitting_global (at_item false g i) at c native t ≡ fitting_global (at_item false h i) at c native t
  fitting_same at c native t =
      ap (λ (b : Bool). after (if_fits ((native && not (is_key t) && b) && can_be (at_item false g i) c t) at t)
      (if_sized (fits_bytes (variable_size g c t)) at))
      (beginning_same g h t k)
      ∙ (ap (λ (b : Bool). after (if_fits ((native && not (is_key t) && has_beginning h t) && b) at t) (if_sized (fits_bytes (variable_size g c t)) at))
      (can_be_same g h i c t (same_tags g h k))
      ∙ ap (λ (m : ℕ). after (if_fits ((native && not (is_key t) && has_beginning h t) && can_be (at_item false h i) c t) at t) (if_sized (fits_bytes m) at))
      (size_same g h c t k))

  after_same : {A B : Type 0} (v : Verdict A) (rule other : A → Verdict B) → ((a : A) → rule a ≡ other a) → after v rule ≡ after v other
  after_same (Of a) rule other e = e a
  after_same (Faulty f fs) rule other e = refl
  after_same Unjudged rule other e = refl

  type_same : (x : tree.Global) → global_type (at_item false g i) x ≡ global_type (at_item false h i) x
  type_same x =
      let names : List RegionNamed = foreign_names (spots_of h x.of) in
      let s : SameTags g h = same_tags g h k in
      ap (λ (ss : List Spot). global_type_by (at_item false g i) x (foreign_names ss)) (spots_same g h s x.of)
      ∙ (ap (λ (v : Verdict PartialType). after (after v (settled_alone x.of.at))
      (fitting_global (at_item false g i) x.of.at (count_of x.initial) (has_none names)))
      (written_same g h s names x.of)
      ∙ after_same (after (written h names x.of) (settled_alone x.of.at)) (fitting_global (at_item false g i) x.of.at (count_of x.initial) (has_none names))
      (fitting_global (at_item false h i) x.of.at (count_of x.initial) (has_none names))
      (λ t. fitting_same x.of.at (count_of x.initial) (has_none names) t))

  converted_same : (v : Verdict Value) (t : Verdict StaticType) → converted_to (at_item false g i) v t ≡ converted_to (at_item false h i) v t
  converted_same (Of v) (Of t) = refl
  converted_same (Of v) (Faulty f fs) = refl
  converted_same (Of v) Unjudged = refl
  converted_same (Faulty f fs) t = refl
  converted_same Unjudged t = refl

  initial_same : (c : Initial) (t : Verdict StaticType) → initial_faults (at_item false g i) c t ≡ initial_faults (at_item false h i) c t
  initial_same Initial.Unset t = refl
  initial_same (Initial.Elements n) t = refl
  initial_same (Initial.Given c) t = ap (λ fs. (faults_of (constant c) ++ fs) ++ string_faults (constant c) c t) (converted_same (constant c) t)

  -- a global has the same faults by both
  pub global_faults_same : (x : tree.Global) → global_faults (at_item false g i) x ≡ global_faults (at_item false h i) x
  global_faults_same x =
      ap (λ v. faults_of v ++ initial_faults (at_item false g i) x.initial v) (type_same x)
      ∙ ap (λ fs. faults_of (global_type (at_item false h i) x) ++ fs) (initial_same x.initial (global_type (at_item false h i) x))

-- ---- a program's tables, and those of its tags alone

other_named : (e : Entry) (x : tree.Name) (n : Named) (g h : Tables) → IsOther e → n ≡ named x OfOther → AreAligned g h → AreAligned (named x e ∷ g) (n ∷ h)
other_named e x n g h o p k = (sym (ap (λ (z : Named). z.name) p), (inr (o, subst (λ (z : Named). IsOther z.entry) (sym p) tt), k))

entries_aligned : (h : Tables) (i : ℕ) (js : List Judged) (is : List Item) → AreNamed js is → AreAligned (entries_with false h i js is) (entries js)
entries_aligned h i [] [] n = tt
entries_aligned h i [] (x ∷ is) n = absurd n
entries_aligned h i (j ∷ js) [] n = absurd n
entries_aligned h i (j ∷ js) (tree.StructItem s ∷ is) n =
    (sym (ap (λ (z : Named). z.name) n.0.is), (inl refl, entries_aligned h (suc i) js is n.1))
entries_aligned h i (j ∷ js) (tree.UnionItem s ∷ is) n =
    (sym (ap (λ (z : Named). z.name) n.0.is), (inl refl, entries_aligned h (suc i) js is n.1))
entries_aligned h i (j ∷ js) (tree.GlobalItem x ∷ is) n =
    other_named (global_entry (at_item false h i) x) x.name j.entry (entries_with false h (suc i) js is) (entries js) tt n.0
    (entries_aligned h (suc i) js is n.1)
entries_aligned h i (j ∷ js) (tree.FunctionItem f ∷ is) n =
    other_named (OfFunction (head_of false h f).signature) f.name j.entry (entries_with false h (suc i) js is) (entries js) tt n.0
    (entries_aligned h (suc i) js is n.1)

pub tables_aligned : (h : Tables) (js : List Judged) (is : List Item) → AreNamed js is
    → AreAligned (builtins (entries_with false h 0 js is)) (builtins (entries js))
tables_aligned h js is n = (refl, (inl refl, (refl, (inl refl, entries_aligned h 0 js is n))))
