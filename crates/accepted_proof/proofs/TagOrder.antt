-- What is known of the tags of a program while they are judged: their kinds, and that those that stand later have no fault of their own.
use Rattle.std.proofs.Common.{◌≡◌, ◌<◌, ◌≤◌, ◌+◌, ℕ, suc, Bool, true, false, Option, Some, None, List, [], ◌∷◌, ◌++◌, refl, ap, ◌∙◌, arith}
use Rattle.std.specs.Prelude.{bytes_eq, length}
use Rattle.cyc_tree.specs.Tree as tree
use Rattle.cyc_tree.specs.Tree.{Item}
use Rattle.source_typing.specs.Named.{Below, NamesBelow}
use Rattle.source_typing.specs.Faults.{Fault, is_clean}
use Rattle.source_typing.specs.Programs.{Judged, all_tag_faults, bare_from, builtins, entries, first_entry, first_from, judged_tag, name_of, named}
use Rattle.source_typing.specs.Regions.{Level, Region, TheHeap}
use Rattle.source_typing.specs.Scope.{Env}
use Rattle.source_typing.specs.Tables.{Entry, Named, OfBuiltin, OfFunction, OfOther, OfTag, OfValue, Tables, find}
use Rattle.source_typing.specs.Tags.{bare_tag, head_entry, head_faults, head_scope, member_faults, parameter_added, parameters_from, region_parameters}
use Rattle.source_typing.specs.Tags.{repeated, struct_sized, tag_faults, tag_parts, tag_scope}
use Rattle.source_typing.specs.Written.{RegionNamed, find_region}
use Rattle.source_typing.proofs.Entries.{judged_name}
use Rattle.source_typing.proofs.Inversion.{both_none, none_of_both, own_is}
use Rattle.accepted_proof.proofs.good.Types.{IsKnownEntry, KnowsTags, MeansKnown}
use Rattle.accepted_proof.proofs.HeadClean.{heads_clean}
use Rattle.accepted_proof.proofs.HeadTags.{AreAlike, TablesAlike, own_first}
use Rattle.accepted_proof.proofs.Named.{named_known, one_known, others_known}
use Rattle.accepted_proof.proofs.Tags.{judged_list}

-- ---- tags alone

pub bare_known : (i : ℕ) (is : List Item) → KnowsTags (bare_from i is)
bare_known i [] = λ x. tt
bare_known i (tree.StructItem s ∷ is) = named_known _ (bare_from (suc i) is) refl (bare_known (suc i) is)
bare_known i (tree.UnionItem s ∷ is) = named_known _ (bare_from (suc i) is) refl (bare_known (suc i) is)
bare_known i (tree.GlobalItem x ∷ is) = named_known (named x.name OfOther) (bare_from (suc i) is) tt (bare_known (suc i) is)
bare_known i (tree.FunctionItem f ∷ is) = named_known (named f.name OfOther) (bare_from (suc i) is) tt (bare_known (suc i) is)

pub first_alike : (h : Tables) (i : ℕ) (is : List Item) → TablesAlike (first_from h i is) (bare_from i is)
first_alike h i [] = tt
first_alike h i (tree.StructItem s ∷ is) = (refl, (refl, refl), first_alike h (suc i) is)
first_alike h i (tree.UnionItem s ∷ is) = (refl, (refl, refl), first_alike h (suc i) is)
first_alike h i (tree.GlobalItem x ∷ is) = (refl, tt, first_alike h (suc i) is)
first_alike h i (tree.FunctionItem f ∷ is) = (refl, tt, first_alike h (suc i) is)

-- an item that was judged stands in the place of what was first known of it
pub alike_step : (done : List Judged) (j : Judged) (n : Named) (rest b : Tables) → j.entry.name ≡ n.name
    → ((e : Entry) → AreAlike n.entry e → AreAlike j.entry.entry e)
    → TablesAlike (entries done ++ n ∷ rest) b → TablesAlike (entries (done ++ j ∷ []) ++ rest) b
alike_step [] j n rest [] e k h = absurd h
alike_step [] j n rest (m ∷ b) e k h = (e ∙ h.0, k m.entry h.1, h.2)
alike_step (d ∷ done) j n rest [] e k h = absurd h
alike_step (d ∷ done) j n rest (m ∷ b) e k h = (h.0, h.1, alike_step done j n rest b e k h.2)

pub item_alike : (g h : Tables) (i : ℕ) (x : Item) (e : Entry) → AreAlike (first_entry h i x) e → AreAlike (judged_tag g i x).entry.entry e
item_alike g h i (tree.StructItem s) (OfTag z) k = k
item_alike g h i (tree.StructItem s) (OfValue v) k = absurd k
item_alike g h i (tree.StructItem s) (OfFunction f) k = absurd k
item_alike g h i (tree.StructItem s) (OfBuiltin n) k = absurd k
item_alike g h i (tree.StructItem s) OfOther k = absurd k
item_alike g h i (tree.UnionItem s) (OfTag z) k = k
item_alike g h i (tree.UnionItem s) (OfValue v) k = absurd k
item_alike g h i (tree.UnionItem s) (OfFunction f) k = absurd k
item_alike g h i (tree.UnionItem s) (OfBuiltin n) k = absurd k
item_alike g h i (tree.UnionItem s) OfOther k = absurd k
item_alike g h i (tree.GlobalItem x) e k = k
item_alike g h i (tree.FunctionItem f) e k = k

-- ---- the faults of a struct or a union

pub record TagClean (g : Tables) (i : ℕ) (union : Bool) (s : tree.Structure) : Type 0 where
  pub sized : struct_sized g union s (tag_parts g i union s) ≡ []
  pub parameters : (region_parameters s).1 ≡ []
  pub members : member_faults (tag_scope g i s) union s.members ≡ []
  pub once : repeated [] s.members ≡ []

pub tag_clean : (g : Tables) (i : ℕ) (union : Bool) (s : tree.Structure) → tag_faults g i union s ≡ [] → TagClean g i union s
tag_clean g i union s p =
    let o = own_is (struct_sized g union s (tag_parts g i union s))
    (((region_parameters s).1 ++ member_faults (tag_scope g i s) union s.members) ++ repeated [] s.members) p in
    let b = none_of_both ((region_parameters s).1 ++ member_faults (tag_scope g i s) union s.members) (repeated [] s.members) o.1 in
    let c = none_of_both (region_parameters s).1 (member_faults (tag_scope g i s) union s.members) b.0 in
    record { sized = o.0; parameters = c.0; members = c.1; once = b.1 }

-- the region parameters of a struct are names before so many
and_name : (m : ℕ) (ns : List RegionNamed) (n : RegionNamed) → NamesBelow m ns → Below m n.id → NamesBelow m (ns ++ n ∷ [])
and_name m [] n h b = (b, tt)
and_name m (x ∷ ns) n h b = (h.0, and_name m ns n h.1 b)

added : (m : ℕ) (o : Option Region) (at : ℕ) (rest : List RegionNamed × List Fault) → NamesBelow m rest.0 → NamesBelow m (parameter_added o at rest).0
added m None at rest h = h
added m (Some r) at (names, fs) h = h

names_from : (m k : ℕ) (names : List RegionNamed) (rs : List tree.RegionName) → k + length rs ≤ m → NamesBelow m names
    → NamesBelow m (parameters_from k names rs).0
names_from m k names [] l h = h
names_from m k names (tree.Named x ∷ rs) l h =
    let later : suc k + length rs ≤ m = omega (arith, l) in
    let one : k < m = omega (arith, l) in
    let new : RegionNamed = record { name = x.text; id = Level k } in
    added m (find_region names x.text) x.at (parameters_from (suc k) (names ++ new ∷ []) rs)
    (names_from m (suc k) (names ++ new ∷ []) rs later (and_name m names new h one))
names_from m k names (tree.Heap at ∷ rs) l h =
    let later : suc k + length rs ≤ m = omega (arith, l) in
    added m (Some TheHeap) at (parameters_from (suc k) names rs) (names_from m (suc k) names rs later h)
names_from m k names (tree.Unique at ∷ rs) l h =
    let later : suc k + length rs ≤ m = omega (arith, l) in
    added m (Some TheHeap) at (parameters_from (suc k) names rs) (names_from m (suc k) names rs later h)

pub parameters_below : (g : Tables) (i : ℕ) (s : tree.Structure) → NamesBelow (length s.regions) (tag_scope g i s).names
parameters_below g i s = names_from (length s.regions) 0 [] s.regions (omega arith) tt

-- what is first known of a struct or a union is that it has no fault
first_sound : (g h : Tables) (i : ℕ) (union : Bool) (s : tree.Structure) → KnowsTags h → TablesAlike g h
    → ((x : List ℕ) → bytes_eq s.tag.text x ≡ false → MeansKnown (find g x)) → tag_faults g i union s ≡ []
    → IsKnownEntry (head_entry h i union s)
first_sound g h i union s tags alike known p =
    let c : TagClean g i union s = tag_clean g i union s p in
    let e : Env = head_scope h i union s in
    let clean : head_faults e union s.members ≡ [] =
    heads_clean (length s.regions) union (tag_scope g i s) e (own_first g h (named s.tag (bare_tag i union s false)) refl alike tags known) refl
    (parameters_below h i s) s.members c.members in
    ap (λ (fs : List Fault). is_clean fs) (both_none ((region_parameters s).1 ++ head_faults e union s.members) (repeated [] s.members)
    (both_none (region_parameters s).1 (head_faults e union s.members) c.parameters clean) c.once)

-- an item that is judged has no fault
pub judged_known : (g : Tables) (i : ℕ) (x : Item) → (judged_tag g i x).faults ≡ [] → IsKnownEntry (judged_tag g i x).entry.entry
judged_known g i (tree.StructItem s) p = ap (λ (fs : List Fault). is_clean fs) p
judged_known g i (tree.UnionItem s) p = ap (λ (fs : List Fault). is_clean fs) p
judged_known g i (tree.GlobalItem x) p = tt
judged_known g i (tree.FunctionItem f) p = tt

pub builtins_alike : (g h : Tables) → TablesAlike g h → TablesAlike (builtins g) (builtins h)
builtins_alike g h k = (refl, tt, (refl, tt, k))

-- what is known of the items that aren't checked yet
pub first_known : (b : Tables) (i : ℕ) (done : List Judged) (is : List Item) → KnowsTags (builtins b)
    → TablesAlike (entries done ++ first_from (builtins b) i is) b
    → all_tag_faults (judged_list (builtins b) i done is) ≡ [] → KnowsTags (entries done) → KnowsTags (first_from (builtins b) i is)
first_known b i done [] tags alike p known = λ x. tt
first_known b i done (x ∷ is) tags alike p known =
    let h : Tables = builtins b in
    let g : Tables = builtins (entries done ++ first_from h i (x ∷ is)) in
    let j : Judged = judged_tag g i x in
    let c : (j.faults ≡ []) × (all_tag_faults (judged_list h (suc i) (done ++ j ∷ []) is) ≡ []) =
    none_of_both j.faults (all_tag_faults (judged_list h (suc i) (done ++ j ∷ []) is)) p in
    let others : KnowsTags (first_from h (suc i) is) =
    first_known b (suc i) (done ++ j ∷ []) is tags
    (alike_step done j (named (name_of x) (first_entry h i x)) (first_from h (suc i) is) b (judged_name g i x) (λ e q. item_alike g h i x e q) alike)
    c.1 (one_known done j known (judged_known g i x c.0)) in
    named_known (named (name_of x) (first_entry h i x)) (first_from h (suc i) is)
    (by x c.0 (builtins_alike (entries done ++ first_from h i (x ∷ is)) b alike)
    (λ y e. others_known done (named (name_of x) (first_entry h i x)) (first_from h (suc i) is) y known others e)) others
  where
    by : (x : Item) → (judged_tag (builtins (entries done ++ first_from (builtins b) i (x ∷ is))) i x).faults ≡ []
        → TablesAlike (builtins (entries done ++ first_from (builtins b) i (x ∷ is))) (builtins b)
        → ((y : List ℕ) → bytes_eq (name_of x).text y ≡ false → MeansKnown (find (builtins (entries done ++ first_from (builtins b) i (x ∷ is))) y))
        → IsKnownEntry (first_entry (builtins b) i x)
    by (tree.StructItem s) p a o =
        first_sound (builtins (entries done ++ first_from (builtins b) i (tree.StructItem s ∷ is))) (builtins b) i false s tags a o p
    by (tree.UnionItem s) p a o =
        first_sound (builtins (entries done ++ first_from (builtins b) i (tree.UnionItem s ∷ is))) (builtins b) i true s tags a o p
    by (tree.GlobalItem y) p a o = tt
    by (tree.FunctionItem f) p a o = tt
