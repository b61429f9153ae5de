-- Names of tags while they are judged one after another: what stands earlier, what was seen, and what the program's tables have under a name.
use Rattle.std.proofs.Common.{◌≡◌, ◌<◌, ◌≤◌, ℕ, suc, Bool, true, false, Option, Some, None, List, [], ◌∷◌, ◌++◌, refl, sym, subst, ap, ◌∙◌, arith}
use Rattle.std.specs.Prelude.{◌||◌, bytes_eq, if◌then◌else◌}
use Rattle.std.proofs.lemmas.Bool.{false≢true, ltb-true}
use Rattle.std.proofs.lemmas.Slice.Eq.{bytes_eq-Decides}
use Rattle.cyc_tree.specs.Tree as tree
use Rattle.cyc_tree.specs.Tree.{Item}
use Rattle.source_meaning.specs.Places.{or_else}
use Rattle.source_meaning.specs.Programs.{layout_of, unions_of}
use Rattle.source_meaning.specs.Shapes.{Layout, has_tag, parts_of}
use Rattle.type_proof.specs.Flat.{Declared}
use Rattle.type_proof.specs.Structs.{declares}
use Rattle.source_typing.specs.Declarations.{tag_earlier}
use Rattle.source_typing.specs.Programs.{Judged, builtins, entries, first_entry, first_from, is_seen, name_of}
use Rattle.source_typing.specs.Tables.{Entry, Named, OfTag, Tables, Tag, as_tag, find}
use Rattle.source_typing.specs.Tags.{tag_scope}
use Rattle.source_typing.proofs.Entries.{entries_more, find_both}
use Rattle.accepted_proof.proofs.MemberTypes.{EarlierDeclared}
use Rattle.accepted_proof.proofs.Tags.{behind_builtins}

pub found_one : (done : List Judged) (j : Judged) (y : List ℕ) → find (entries (done ++ j ∷ [])) y ≡ or_else (find (entries done) y) (find (j.entry ∷ []) y)
found_one done j y = ap (λ (g : Tables). find g y) (entries_more done j) ∙ find_both (entries done) (j.entry ∷ []) y

-- ---- what stands earlier

first_order : (h : Tables) (i : ℕ) (is : List Item) (x : List ℕ) (t : Tag) → find (first_from h i is) x ≡ Some (OfTag t) → i ≤ t.order
first_order h i [] x t e = absurd cc
first_order h i (y ∷ is) x t e = by y (bytes_eq (name_of y).text x) (λ q. first_order h (suc i) is x t q) e
  where
    later : suc i ≤ t.order → i ≤ t.order
    later l = omega (arith, l)

    order_is : (u : Tag) → u.order ≡ i → Some (OfTag u) ≡ Some (OfTag t) → i ≤ t.order
    order_is u o q = let z : u ≡ t = cc in let w : u.order ≡ t.order = ap (λ (v : Tag). v.order) z in omega (arith, o, w)

    by : (y : Item) (b : Bool) → (find (first_from h (suc i) is) x ≡ Some (OfTag t) → suc i ≤ t.order)
        → (if b then Some (first_entry h i y) else find (first_from h (suc i) is) x) ≡ Some (OfTag t) → i ≤ t.order
    by (tree.StructItem s) true others q = order_is _ refl q
    by (tree.UnionItem s) true others q = order_is _ refl q
    by (tree.GlobalItem z) true others q = absurd cc
    by (tree.FunctionItem f) true others q = absurd cc
    by y false others q = later (others q)

-- what is declared of a kind: structs, or unions
abbrev pub of_kind : Bool → List Declared → List Declared → List Declared
of_kind false ds us = ds
of_kind true ds us = us

-- what the judged items declare
abbrev pub AllDeclared : List Judged → (ds us : List Declared) → Type 0
AllDeclared done ds us = (x : List ℕ) (t : Tag) → find (entries done) x ≡ Some (OfTag t) → declares (of_kind t.is_union ds us) x ≡ true

pub earlier_declared : (h : Tables) (i : ℕ) (done : List Judged) (is : List Item) (s : tree.Structure) (ds us : List Declared) (kind : Bool)
    → AllDeclared done ds us → EarlierDeclared (tag_scope (builtins (entries done ++ first_from h i is)) i s) kind (of_kind kind ds us)
earlier_declared h i done is s ds us kind k tag t e same stands =
    by (find (entries done) tag) refl (sym (find_both (entries done) (first_from h i is) tag) ∙ behind_builtins (entries done ++ first_from h i is) tag t e)
  where
    less : t.order < i
    less = ltb-true t.order i (ap (λ (o : Option Entry). tag_earlier i (as_tag o)) (sym e) ∙ stands)

    by : (o : Option Entry) → find (entries done) tag ≡ o → or_else o (find (first_from h i is) tag) ≡ Some (OfTag t)
        → declares (of_kind kind ds us) tag ≡ true
    by None q p = absurd (let l : i ≤ t.order = first_order h i is tag t p in let z : t.order < i = less in omega (arith, l, z))
    by (Some d) q p = subst (λ (b : Bool). declares (of_kind b ds us) tag ≡ true) same (k tag t (q ∙ p))

-- one more struct, or one more union
pub more_structs : (kind : Bool) (d : Declared) (ds us : List Declared) (y : List ℕ) → declares (of_kind kind ds us) y ≡ true
    → declares (of_kind kind (d ∷ ds) us) y ≡ true
more_structs true d ds us y e = e
more_structs false d ds us y e = by (bytes_eq d.tag y)
  where
    by : (c : Bool) → (if c then true else declares ds y) ≡ true
    by true = refl
    by false = e

pub more_unions : (kind : Bool) (d : Declared) (ds us : List Declared) (y : List ℕ) → declares (of_kind kind ds us) y ≡ true
    → declares (of_kind kind ds (d ∷ us)) y ≡ true
more_unions false d ds us y e = e
more_unions true d ds us y e = by (bytes_eq d.tag y)
  where
    by : (c : Bool) → (if c then true else declares us y) ≡ true
    by true = refl
    by false = e

-- a tag that is judged is declared
pub declared_more : (done : List Judged) (j : Judged) (x : tree.Name) (u : Tag) (ds us es vs : List Declared)
    → j.entry ≡ record { name = x.text; entry = OfTag u } → AllDeclared done ds us
    → ((y : List ℕ) → bytes_eq x.text y ≡ true → declares (of_kind u.is_union es vs) y ≡ true)
    → ((kind : Bool) (y : List ℕ) → declares (of_kind kind ds us) y ≡ true → declares (of_kind kind es vs) y ≡ true)
    → AllDeclared (done ++ j ∷ []) es vs
declared_more done j x u ds us es vs is k own older y t q = by (find (entries done) y) refl (sym (found_one done j y) ∙ q)
  where
    now : (c : Bool) → bytes_eq x.text y ≡ c → (if c then Some (OfTag u) else None) ≡ Some (OfTag t) → declares (of_kind t.is_union es vs) y ≡ true
    now true e r = let same : u ≡ t = cc in subst (λ (z : Tag). declares (of_kind z.is_union es vs) y ≡ true) same (own y e)
    now false e r = absurd cc

    by : (o : Option Entry) → find (entries done) y ≡ o → or_else o (find (j.entry ∷ []) y) ≡ Some (OfTag t) → declares (of_kind t.is_union es vs) y ≡ true
    by None q r = now (bytes_eq x.text y) refl (subst (λ (n : Named). find (n ∷ []) y ≡ Some (OfTag t)) is r)
    by (Some d) q r = older t.is_union y (k y t (q ∙ r))

-- ---- names

-- a name that wasn't seen means in the program's tables what it means among the items that are left
abbrev pub Unseen : Tables → List (List ℕ) → Tables → Type 0
Unseen T seen rest = (x : List ℕ) → is_seen seen x ≡ false → find T x ≡ find rest x

pub unseen_step : (T rest : Tables) (seen : List (List ℕ)) (n : Named) → Unseen T seen (n ∷ rest) → Unseen T (n.name ∷ seen) rest
unseen_step T rest seen n h x e = by (bytes_eq n.name x) e (h x)
  where
    by : (b : Bool) → b || is_seen seen x ≡ false → (is_seen seen x ≡ false → find T x ≡ (if b then Some n.entry else find rest x)) → find T x ≡ find rest x
    by true e k = absurd cc
    by false e k = k e

-- each struct that was laid out has a tag in the tables
abbrev pub InTables : Tables → List Layout → Type 0
InTables T [] = Unit {0}
InTables T (l ∷ ls) = ((t : Tag) × (find T l.tag ≡ Some (OfTag t))) × InTables T ls

pub in_tables : (T : Tables) (ls : List Layout) (x : List ℕ) → InTables T ls → has_tag ls x ≡ true → (t : Tag) × (find T x ≡ Some (OfTag t))
in_tables T [] x h e = absurd (false≢true e)
in_tables T (l ∷ ls) x h e = by (bytes_eq l.tag x) refl (λ q. in_tables T ls x h.1 q) e
  where
    by : (b : Bool) → bytes_eq l.tag x ≡ b → (has_tag ls x ≡ true → (t : Tag) × (find T x ≡ Some (OfTag t))) → (if b then true else has_tag ls x) ≡ true
        → (t : Tag) × (find T x ≡ Some (OfTag t))
    by true q others p = (h.0.0, ap (find T) (sym ((bytes_eq-Decides l.tag x).0 q)) ∙ h.0.1)
    by false q others p = others p

-- what is declared was seen
abbrev pub DeclaredSeen : List Declared → List (List ℕ) → Type 0
DeclaredSeen ds seen = (x : List ℕ) → declares ds x ≡ true → is_seen seen x ≡ true

pub seen_more : (ds : List Declared) (seen : List (List ℕ)) (y : List ℕ) → DeclaredSeen ds seen → DeclaredSeen ds (y ∷ seen)
seen_more ds seen y h x e = by (bytes_eq y x) (h x e)
  where
    by : (b : Bool) → is_seen seen x ≡ true → b || is_seen seen x ≡ true
    by true k = refl
    by false k = k

pub seen_tag : (ds : List Declared) (seen : List (List ℕ)) (d : Declared) → DeclaredSeen ds seen → DeclaredSeen (d ∷ ds) (d.tag ∷ seen)
seen_tag ds seen d h x e = by (bytes_eq d.tag x) (h x) e
  where
    by : (b : Bool) → (declares ds x ≡ true → is_seen seen x ≡ true) → (if b then true else declares ds x) ≡ true → b || is_seen seen x ≡ true
    by true k p = refl
    by false k p = k p

pub not_declared : (ds : List Declared) (seen : List (List ℕ)) (x : List ℕ) → DeclaredSeen ds seen → is_seen seen x ≡ false → declares ds x ≡ false
not_declared ds seen x h n = by (declares ds x) (h x)
  where
    by : (b : Bool) → (b ≡ true → is_seen seen x ≡ true) → b ≡ false
    by true k = absurd (false≢true (sym n ∙ k refl))
    by false k = refl

-- a name that wasn't seen means in the world's unions what it means among the items that are left
abbrev pub UnionsLeft : List Layout → List (List ℕ) → List Item → Type 0
UnionsLeft unions seen is = (x : List ℕ) → is_seen seen x ≡ false → parts_of unions x ≡ parts_of (unions_of is) x

pub left_union : (unions : List Layout) (seen : List (List ℕ)) (s : tree.Structure) (is : List Item) → UnionsLeft unions seen (tree.UnionItem s ∷ is)
    → UnionsLeft unions (s.tag.text ∷ seen) is
left_union unions seen s is h x e = by (bytes_eq s.tag.text x) e (h x)
  where
    by : (b : Bool) → b || is_seen seen x ≡ false
        → (is_seen seen x ≡ false → parts_of unions x ≡ (if b then (layout_of s).parts else parts_of (unions_of is) x))
        → parts_of unions x ≡ parts_of (unions_of is) x
    by true e k = absurd cc
    by false e k = k e

pub left_other : (unions : List Layout) (seen : List (List ℕ)) (y : List ℕ) (is : List Item) → UnionsLeft unions seen is → UnionsLeft unions (y ∷ seen) is
left_other unions seen y is h x e = by (bytes_eq y x) e
  where
    by : (b : Bool) → b || is_seen seen x ≡ false → parts_of unions x ≡ parts_of (unions_of is) x
    by true e = absurd cc
    by false e = h x e
