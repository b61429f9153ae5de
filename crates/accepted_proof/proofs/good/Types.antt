-- The type of a local that is in order: an object's, whose region names are in scope, with the shape that it has as it is written.
use Rattle.std.proofs.Common.{◌≡◌, ℕ, Bool, true, false, Option, Some, None, List, [], ◌∷◌, refl, sym, subst, ap, ◌∙◌}
use Rattle.std.specs.Prelude.{if◌then◌else◌, length, option_map}
use Rattle.std.proofs.lemmas.Bool.{eqb-true}
use Rattle.std.proofs.lemmas.List.{length-map, length-replicate}
use Rattle.cyc_tree.specs.Tree as tree
use Rattle.cyc_tree.specs.Tree.{Pointer, TypeName}
use Rattle.source_meaning.specs.Shapes as shapes
use Rattle.source_meaning.specs.Shapes.{pointed}
use Rattle.source_typing.specs.Declarations.{as_tagged, faulty_tag, tagged}
use Rattle.source_typing.specs.Faults.{Fault}
use Rattle.source_typing.specs.Tables.{Arrayed, Counter, Entry, OfBuiltin, OfFunction, OfOther, OfTag, OfValue, Stored, Tables, Unknown, as_tag, find, tag_in}
use Rattle.source_typing.specs.Types.{Char, Int, PartialType, Struct, Union, Unsigned, Void, same_bool}
use Rattle.source_typing.specs.Verdicts.{Faulty, Of, Unjudged, Verdict, unless_faulty}
use Rattle.source_typing.specs.Written.{
  Found,
  RegionNamed,
  all_found,
  argument_spots,
  as_region,
  if_sound,
  of_kind,
  regions_of_tag,
  tag_of,
  written_on,
  base_spots,
  built,
  count_fits,
  counted_type,
  pointers_to,
  spot,
  spots_of,
  type_built,
  with_arguments,
  written,
  written_with,
}
use Rattle.source_typing.proofs.Entries.{find_tagged}
use Rattle.accepted_proof.specs.Good.{AllGood, IsGoodEntry, Surely}
use Rattle.source_typing.specs.Named.{NamesBelow}
use Rattle.accepted_proof.proofs.FoundRegions.{AreAllFound, AreFound, base_arguments, spots_found}
use Rattle.accepted_proof.proofs.good.Names.{MeansGood, found_good}
use Rattle.accepted_proof.proofs.Owners.{WritesChar, WritesInt, WritesUnsigned}
use Rattle.accepted_proof.proofs.Sure.{surely_unless}
use Rattle.accepted_proof.proofs.good.Pointers.{IsWritten, WritesKey, WritesObject, WritesNothing, IsPointed, HasRefused, PointedIfSome, no_pointer}
use Rattle.accepted_proof.proofs.good.Pointers.{all_pointed, found_region, struct_pointed, union_pointed, handle_pointed}

-- ---- tags

-- what a name in a type may mean: a struct or a union without fault; no name is of a declaration with a fault
abbrev pub IsKnownEntry : Entry → Type 0
IsKnownEntry (OfTag t) = (t.sound ≡ true)
IsKnownEntry (OfFunction s) = (s.sound ≡ true)
IsKnownEntry (OfValue (Stored t r)) = Unit {0}
IsKnownEntry (OfValue (Arrayed t r)) = Unit {0}
IsKnownEntry (OfValue Counter) = Unit {0}
IsKnownEntry (OfValue (Unknown sound)) = ⊥
IsKnownEntry (OfBuiltin n) = Unit {0}
IsKnownEntry OfOther = Unit {0}

abbrev pub MeansKnown : Option Entry → Type 0
MeansKnown None = Unit {0}
MeansKnown (Some e) = IsKnownEntry e

abbrev pub KnowsTags : Tables → Type 0
KnowsTags g = (x : List ℕ) → MeansKnown (find g x)

-- so each name means the same where a tag is wanted
entry_tagged : (e : Entry) → IsKnownEntry e → as_tagged e ≡ e
entry_tagged (OfTag t) h = refl
entry_tagged (OfFunction s) h = ap (λ (b : Bool). if b then OfFunction s else faulty_tag) h
entry_tagged (OfValue (Stored t r)) h = refl
entry_tagged (OfValue (Arrayed t r)) h = refl
entry_tagged (OfValue Counter) h = refl
entry_tagged (OfValue (Unknown true)) h = absurd h
entry_tagged (OfValue (Unknown false)) h = absurd h
entry_tagged (OfBuiltin n) h = refl
entry_tagged OfOther h = refl

pub tagged_same : (g : Tables) → KnowsTags g → (x : List ℕ) → find (tagged g) x ≡ find g x
tagged_same g k x = find_tagged g x ∙ by (find g x) (k x)
  where
    by : (o : Option Entry) → MeansKnown o → option_map as_tagged o ≡ o
    by None h = refl
    by (Some e) h = ap (λ (d : Entry). Some d) (entry_tagged e h)

pub tagged_known : (g : Tables) → KnowsTags g → KnowsTags (tagged g)
tagged_known g k x = subst (λ (o : Option Entry). MeansKnown o) (sym (tagged_same g k x)) (k x)

-- a tag has its count of region parameters, or has a fault
tag_judged : (at : ℕ) (union : Bool) (o : Option Entry) → MeansKnown o → Surely (λ n. n ≡ regions_of_tag (as_tag o)) (tag_of o union at)
tag_judged at union None h = tt
tag_judged at union (Some (OfTag t)) h =
    subst (λ b. Surely (λ n. n ≡ t.regions) (if_sound b (of_kind (same_bool t.is_union union) t at))) (sym h) (by (same_bool t.is_union union))
  where
    by : (b : Bool) → Surely (λ n. n ≡ t.regions) (of_kind b t at)
    by true = refl
    by false = tt
tag_judged at union (Some (OfFunction s)) h = tt
tag_judged at union (Some (OfValue (Stored t r))) h = tt
tag_judged at union (Some (OfValue (Arrayed t r))) h = tt
tag_judged at union (Some (OfValue Counter)) h = tt
tag_judged at union (Some (OfValue (Unknown true))) h = absurd h
tag_judged at union (Some (OfValue (Unknown false))) h = absurd h
tag_judged at union (Some (OfBuiltin n)) h = tt
tag_judged at union (Some OfOther) h = tt

-- ---- what is written

-- an object's type; and `void`, which has no pointers
object_written : (left_open : Bool) (n : ℕ) (t : TypeName) (b : tree.Base) (o : Option PartialType)
    → PointedIfSome (HasRefused t.pointers) left_open n (pointed t.pointers (shapes.base_shape b)) o
    → Surely (λ p. IsWritten left_open n (record { at = t.at; base = b; pointers = t.pointers }) p) (type_built t.at o)
object_written left_open n t b None h = tt
object_written left_open n t b (Some p) h = WritesObject (record { object = h.0.object; writes = h.0.writes })

nothing_written : (left_open : Bool) (n at place : ℕ) (ps : List Pointer) (fs : List Found) → AreFound left_open n ps fs
    → Surely (λ p. IsWritten left_open n (record { at = at; base = tree.Void; pointers = ps }) p) (type_built place (pointers_to ps fs (Some Void)))
nothing_written left_open n at place [] fs b = WritesNothing (record { pointers = refl; base = tt }) refl
nothing_written left_open n at place (p ∷ ps) [] b = absurd b
nothing_written left_open n at place (p ∷ ps) (f ∷ fs) b =
    subst (λ o. Surely (λ z. IsWritten left_open n (record { at = at; base = tree.Void; pointers = p ∷ ps }) z) (type_built place o))
    (sym (no_pointer ps fs)) tt

-- how many regions are found for a struct's arguments: all that its tag asks for, where their count fits
pub count_is : (g : Tables) (tag : tree.Name) (rs : List tree.RegionName) (m : ℕ) → m ≡ regions_of_tag (tag_in g tag.text)
    → count_fits (tree.Struct tag rs) m ≡ true → length (argument_spots g tag rs) ≡ m
count_is g tag [] m s e = length-replicate (regions_of_tag (tag_in g tag.text)) (spot false None) ∙ sym s
count_is g tag (r ∷ rs) m s e = length-map (r ∷ rs) (λ r. spot false (Some r)) ∙ eqb-true (length (r ∷ rs)) m e

pub union_count_is : (g : Tables) (tag : tree.Name) (rs : List tree.RegionName) (m : ℕ) → m ≡ regions_of_tag (tag_in g tag.text)
    → count_fits (tree.Union tag rs) m ≡ true → length (argument_spots g tag rs) ≡ m
union_count_is g tag [] m s e = count_is g tag [] m s e
union_count_is g tag (r ∷ rs) m s e = count_is g tag (r ∷ rs) m s e

-- a key's type; and a pointer to one, which is no type
key_written : (left_open : Bool) (n at place : ℕ) (r : tree.RegionName) (ps : List Pointer) (fs : List Found) → AreAllFound left_open n 1 ps fs
    → Surely (λ p. IsWritten left_open n (record { at = at; base = tree.Key r; pointers = ps }) p) (type_built place (built (tree.Key r) 0 ps fs))
key_written left_open n at place r ps [] h = absurd h
key_written left_open n at place r [] (f ∷ fs) h =
    WritesKey (record { region = as_region f; is = refl; below = found_region n f h.0; shape = refl })
key_written left_open n at place r (p ∷ ps) (f ∷ []) h = absurd h.1
key_written left_open n at place r (p ∷ ps) (f ∷ x ∷ fs) h =
    subst (λ o. Surely (λ z. IsWritten left_open n (record { at = at; base = tree.Key r; pointers = p ∷ ps }) z) (type_built place o))
    (sym (no_pointer ps fs)) tt

-- a type, where a region in scope is found for each argument and pointer, or a missing or the unique one
pub written_good : (left_open : Bool) (n : ℕ) (g : Tables) (t : TypeName) (fs : List Found) (bad : List Fault) → KnowsTags g
    → (bad ≡ [] → AreAllFound left_open n (length (base_spots g t.base)) t.pointers fs)
    → Surely (λ p. IsWritten left_open n t p) (written_with g t (fs, bad))
written_good left_open n g t fs bad tags h = by t.base h
  where
    with_base : tree.Base → TypeName
    with_base b = record { at = t.at; base = b; pointers = t.pointers }

    Good : tree.Base → Verdict PartialType → Type 0
    Good b v = Surely (λ p. IsWritten left_open n (with_base b) p) v

    word : (b : tree.Base) (p : PartialType) → (bad ≡ [] → AreFound left_open n t.pointers fs) → IsPointed left_open n (shapes.base_shape b) p
        → Good b (unless_faulty bad (type_built t.at (pointers_to t.pointers fs (Some p))))
    word b p h w =
        surely_unless (λ p. IsWritten left_open n (with_base b) p) bad (type_built t.at (pointers_to t.pointers fs (Some p)))
        (λ e. object_written left_open n t b (pointers_to t.pointers fs (Some p)) (all_pointed left_open n t.pointers fs p (shapes.base_shape b) (h e) w))

    struct : (tag : tree.Name) (rs : List tree.RegionName) (v : Verdict ℕ) → Surely (λ m. m ≡ regions_of_tag (tag_in g tag.text)) v
        → (bad ≡ [] → AreAllFound left_open n (length (argument_spots g tag rs)) t.pointers fs)
        → Good (tree.Struct tag rs) (written_on (with_base (tree.Struct tag rs)) fs bad v)
    struct tag rs (Faulty f others) s h = tt
    struct tag rs Unjudged s h = absurd s
    struct tag rs (Of m) s h =
        surely_unless (λ p. IsWritten left_open n (with_base (tree.Struct tag rs)) p) bad
        (counted_type (with_base (tree.Struct tag rs)) fs m (count_fits (tree.Struct tag rs) m))
        (λ e. counted (h e) (count_fits (tree.Struct tag rs) m) refl)
      where
        counted : AreAllFound left_open n (length (argument_spots g tag rs)) t.pointers fs → (c : Bool) → count_fits (tree.Struct tag rs) m ≡ c
            → Good (tree.Struct tag rs) (counted_type (with_base (tree.Struct tag rs)) fs m c)
        counted h false q = tt
        counted h true q =
            object_written left_open n t (tree.Struct tag rs) (with_arguments m (Struct tag.text) [] t.pointers fs)
            (struct_pointed left_open n m tag.text [] t.pointers fs tt (subst (λ (c : ℕ). AreAllFound left_open n c t.pointers fs) (count_is g tag rs m s q) h))

    union : (tag : tree.Name) (rs : List tree.RegionName) (v : Verdict ℕ) → Surely (λ m. m ≡ regions_of_tag (tag_in g tag.text)) v
        → (bad ≡ [] → AreAllFound left_open n (length (argument_spots g tag rs)) t.pointers fs)
        → Good (tree.Union tag rs) (written_on (with_base (tree.Union tag rs)) fs bad v)
    union tag rs (Faulty f others) s h = tt
    union tag rs Unjudged s h = absurd s
    union tag rs (Of m) s h =
        surely_unless (λ p. IsWritten left_open n (with_base (tree.Union tag rs)) p) bad
        (counted_type (with_base (tree.Union tag rs)) fs m (count_fits (tree.Union tag rs) m))
        (λ e. counted (h e) (count_fits (tree.Union tag rs) m) refl)
      where
        counted : AreAllFound left_open n (length (argument_spots g tag rs)) t.pointers fs → (c : Bool) → count_fits (tree.Union tag rs) m ≡ c
            → Good (tree.Union tag rs) (counted_type (with_base (tree.Union tag rs)) fs m c)
        counted h false q = tt
        counted h true q =
            object_written left_open n t (tree.Union tag rs) (with_arguments m (Union tag.text) [] t.pointers fs)
            (union_pointed left_open n m tag.text [] t.pointers fs tt
            (subst (λ (c : ℕ). AreAllFound left_open n c t.pointers fs) (union_count_is g tag rs m s q) h))

    by : (b : tree.Base) → (bad ≡ [] → AreAllFound left_open n (length (base_spots g b)) t.pointers fs)
        → Good b (written_with g (with_base b) (fs, bad))
    by tree.Int h = word tree.Int Int h (record { object = tt; writes = WritesInt })
    by tree.Unsigned h = word tree.Unsigned Unsigned h (record { object = tt; writes = WritesUnsigned })
    by tree.Char h = word tree.Char Char h (record { object = tt; writes = WritesChar })
    by tree.Void h =
        surely_unless (λ p. IsWritten left_open n (with_base tree.Void) p) bad (type_built t.at (pointers_to t.pointers fs (Some Void)))
        (λ e. nothing_written left_open n t.at t.at t.pointers fs (h e))
    by (tree.Struct tag rs) h = struct tag rs (tag_of (find g tag.text) false tag.at) (tag_judged tag.at false (find g tag.text) (tags tag.text)) h
    by (tree.Union tag rs) h = union tag rs (tag_of (find g tag.text) true tag.at) (tag_judged tag.at true (find g tag.text) (tags tag.text)) h
    by (tree.Handle r) h =
        surely_unless (λ p. IsWritten left_open n (with_base (tree.Handle r)) p) bad (type_built t.at (built (tree.Handle r) 0 t.pointers fs))
        (λ e. object_written left_open n t (tree.Handle r) (built (tree.Handle r) 0 t.pointers fs) (handle_pointed left_open n r 0 t.pointers fs (h e)))
    by (tree.Key r) h =
        surely_unless (λ p. IsWritten left_open n (with_base (tree.Key r)) p) bad (type_built t.at (built (tree.Key r) 0 t.pointers fs))
        (λ e. key_written left_open n t.at t.at r t.pointers fs (h e))

-- one by the region names in scope
pub scope_written : (n : ℕ) (g : Tables) (names : List RegionNamed) (t : TypeName) → KnowsTags g → NamesBelow n names
    → Surely (λ p. IsWritten true n t p) (written g names t)
scope_written n g names t tags h =
    written_good true n g t (all_found names (spots_of g t)).0 (all_found names (spots_of g t)).1 tags
    (λ clean. spots_found n names (base_spots g t.base) t.pointers h (base_arguments g t.base) clean)

-- all is known of the names in scope: so all tags are
entry_known : (n : ℕ) (e : Entry) → IsGoodEntry n e → IsKnownEntry e
entry_known n (OfTag t) h = h.sound
entry_known n (OfFunction s) h = h.sound
entry_known n (OfValue (Stored t r)) h = tt
entry_known n (OfValue (Arrayed t r)) h = tt
entry_known n (OfValue Counter) h = tt
entry_known n (OfValue (Unknown sound)) h = absurd h
entry_known n (OfBuiltin k) h = tt
entry_known n OfOther h = tt

pub good_tags : (n : ℕ) (g : Tables) → AllGood n g → KnowsTags g
good_tags n g h x = by (find g x) (found_good n g x h)
  where
    by : (o : Option Entry) → MeansGood n o → MeansKnown o
    by None k = tt
    by (Some e) k = entry_known n e k
