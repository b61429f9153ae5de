-- What the rules' tables have for the items of a program while tags alone are known: structs and unions by their tags, and nothing of globals and functions.
use Rattle.std.proofs.Common.{◌≡◌, ℕ, Bool, true, false, Option, Some, None, List, [], ◌∷◌, ◌++◌, sym, subst}
use Rattle.std.specs.Prelude.{bytes_eq, codes, if◌then◌else◌}
use Rattle.cyc_tree.specs.Tree as tree
use Rattle.cyc_tree.specs.Tree.{Item}
use Rattle.source_meaning.specs.Places.{or_else}
use Rattle.source_typing.proofs.Entries.{entries_more, find_both}
use Rattle.source_typing.specs.Programs.{Judged, builtins, entries, named}
use Rattle.source_typing.specs.Tables.{Entry, Named, OfBuiltin, OfOther, OfTag, Tables, Tag, find}
use Rattle.accepted_proof.specs.Good.{IsGoodTag}
use Rattle.accepted_proof.proofs.good.Types.{IsKnownEntry, KnowsTags, MeansKnown}

-- a struct or a union without fault, by the entry that it has
pub record TagKnown (union : Bool) (s : tree.Structure) (n : Named) : Type 0 where
  pub tag : Tag
  pub kind : tag.is_union ≡ union
  pub is : n ≡ named s.tag (OfTag tag)
  pub good : IsGoodTag tag
  pub text : tag.text ≡ s.tag.text

abbrev pub IsNamed : Judged → Item → Type 0
IsNamed j (tree.StructItem s) = TagKnown false s j.entry
IsNamed j (tree.UnionItem s) = TagKnown true s j.entry
IsNamed j (tree.GlobalItem x) = (j.entry ≡ named x.name OfOther)
IsNamed j (tree.FunctionItem f) = (j.entry ≡ named f.name OfOther)

abbrev pub AreNamed : List Judged → List Item → Type 0
AreNamed [] [] = Unit {0}
AreNamed (j ∷ js) (x ∷ is) = IsNamed j x × AreNamed js is
AreNamed [] (x ∷ is) = ⊥
AreNamed (j ∷ js) [] = ⊥

-- ---- tags are known

pub named_known : (n : Named) (g : Tables) → IsKnownEntry n.entry → KnowsTags g → KnowsTags (n ∷ g)
named_known n g h k x = by (bytes_eq n.name x) (k x)
  where
    by : (b : Bool) → MeansKnown (find g x) → MeansKnown (if b then Some n.entry else find g x)
    by true others = h
    by false others = others

tag_known : (union : Bool) (s : tree.Structure) (n : Named) → TagKnown union s n → IsKnownEntry n.entry
tag_known union s n h = subst (λ (z : Named). IsKnownEntry z.entry) (sym h.is) h.good.sound

other_known : (x : tree.Name) (n : Named) → n ≡ named x OfOther → IsKnownEntry n.entry
other_known x n e = subst (λ (z : Named). IsKnownEntry z.entry) (sym e) tt

pub entries_known : (js : List Judged) (is : List Item) → AreNamed js is → KnowsTags (entries js)
entries_known [] is h = λ x. tt
entries_known (j ∷ js) [] h = absurd h
entries_known (j ∷ js) (tree.StructItem s ∷ is) h = named_known j.entry (entries js) (tag_known false s j.entry h.0) (entries_known js is h.1)
entries_known (j ∷ js) (tree.UnionItem s ∷ is) h = named_known j.entry (entries js) (tag_known true s j.entry h.0) (entries_known js is h.1)
entries_known (j ∷ js) (tree.GlobalItem x ∷ is) h = named_known j.entry (entries js) (other_known x.name j.entry h.0) (entries_known js is h.1)
entries_known (j ∷ js) (tree.FunctionItem f ∷ is) h = named_known j.entry (entries js) (other_known f.name j.entry h.0) (entries_known js is h.1)

pub builtin_known : (g : Tables) (x : List ℕ) → MeansKnown (find g x) → MeansKnown (find (builtins g) x)
builtin_known g x h = by (bytes_eq (codes "getchar") x) (bytes_eq (codes "putchar") x) h
  where
    by : (a c : Bool) → MeansKnown (find g x) → MeansKnown (if a then Some (OfBuiltin 0) else (if c then Some (OfBuiltin 1) else find g x))
    by true c k = tt
    by false true k = tt
    by false false k = k

pub builtins_known : (g : Tables) → KnowsTags g → KnowsTags (builtins g)
builtins_known g h x = builtin_known g x (h x)

-- two tables, one behind the other
both_known : (g h : Tables) (x : List ℕ) → MeansKnown (find g x) → MeansKnown (find h x) → MeansKnown (find (g ++ h) x)
both_known g h x a b = subst (λ (o : Option Entry). MeansKnown o) (sym (find_both g h x)) (by (find g x) (find h x) a b)
  where
    by : (o d : Option Entry) → MeansKnown o → MeansKnown d → MeansKnown (or_else o d)
    by None d k l = l
    by (Some e) d k l = k

pub either_known : (g h : Tables) → KnowsTags g → KnowsTags h → KnowsTags (g ++ h)
either_known g h a b x = both_known g h x (a x) (b x)

-- one item more
pub one_known : (done : List Judged) (j : Judged) → KnowsTags (entries done) → IsKnownEntry j.entry.entry → KnowsTags (entries (done ++ j ∷ []))
one_known done j a b =
    subst (λ (g : Tables). KnowsTags g) (sym (entries_more done j)) (either_known (entries done) (j.entry ∷ []) a (named_known j.entry [] b (λ x. tt)))

-- an item between others, whose name isn't looked for
pub others_known : (done : List Judged) (n : Named) (rest : Tables) (x : List ℕ) → KnowsTags (entries done) → KnowsTags rest → bytes_eq n.name x ≡ false
    → MeansKnown (find (builtins (entries done ++ n ∷ rest)) x)
others_known done n rest x a b e =
    builtin_known (entries done ++ n ∷ rest) x (both_known (entries done) (n ∷ rest) x (a x)
    (subst (λ (c : Bool). MeansKnown (if c then Some n.entry else find rest x)) (sym e) (b x)))
