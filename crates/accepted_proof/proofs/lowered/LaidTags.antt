-- The tags of a program: each is among its structs or its unions.
use Rattle.std.proofs.Common.{◌≡◌, ℕ, suc, Bool, true, false, Some, List, [], ◌∷◌, refl, sym, subst, ap, ◌∙◌}
use Rattle.std.specs.Prelude.{bytes_eq, if◌then◌else◌}
use Rattle.cyc_tree.specs.Tree as tree
use Rattle.cyc_tree.specs.Tree.{Item}
use Rattle.source_meaning.specs.Programs.{layout_of, structs_from, unions_of}
use Rattle.source_meaning.specs.Shapes.{Layout, has_tag}
use Rattle.source_typing.specs.Programs.{bare_entry, bare_from}
use Rattle.source_typing.specs.Tables.{OfOther, OfTag, Tag, find}

-- a tag that stays, once it was laid out
pub tag_stays : (is : List Item) (found : List Layout) (x : List ℕ) → has_tag found x ≡ true → has_tag (structs_from is found) x ≡ true
tag_stays [] found x e = e
tag_stays (tree.StructItem s ∷ is) found x e = tag_stays is (layout_of s ∷ found) x (by (bytes_eq s.tag.text x))
  where
    by : (c : Bool) → (if c then true else has_tag found x) ≡ true
    by true = refl
    by false = e
tag_stays (tree.UnionItem s ∷ is) found x e = tag_stays is found x e
tag_stays (tree.GlobalItem y ∷ is) found x e = tag_stays is found x e
tag_stays (tree.FunctionItem f ∷ is) found x e = tag_stays is found x e

-- a struct, or a union, that stands among the items
abbrev pub IsHere : Bool → List Item → List Layout → List ℕ → Type 0
IsHere false is found x = (has_tag (structs_from is found) x ≡ true)
IsHere true is found x = (has_tag (unions_of is) x ≡ true)

-- so it is with a further union before them
pub here_behind : (kind : Bool) (s : tree.Structure) (is : List Item) (found : List Layout) (x : List ℕ) → IsHere kind is found x
    → IsHere kind (tree.UnionItem s ∷ is) found x
here_behind false s is found x h = h
here_behind true s is found x h = by (bytes_eq s.tag.text x)
  where
    by : (c : Bool) → (if c then true else has_tag (unions_of is) x) ≡ true
    by true = refl
    by false = h

-- and with a further struct
pub here_after : (kind : Bool) (s : tree.Structure) (is : List Item) (found : List Layout) (x : List ℕ) → IsHere kind is (layout_of s ∷ found) x
    → IsHere kind (tree.StructItem s ∷ is) found x
here_after false s is found x h = h
here_after true s is found x h = h

pub here_global : (kind : Bool) (y : tree.Global) (is : List Item) (found : List Layout) (x : List ℕ) → IsHere kind is found x
    → IsHere kind (tree.GlobalItem y ∷ is) found x
here_global false y is found x h = h
here_global true y is found x h = h

pub here_function : (kind : Bool) (f : tree.Function) (is : List Item) (found : List Layout) (x : List ℕ) → IsHere kind is found x
    → IsHere kind (tree.FunctionItem f ∷ is) found x
here_function false f is found x h = h
here_function true f is found x h = h

pub own_struct : (s : tree.Structure) (is : List Item) (found : List Layout) (x : List ℕ) → bytes_eq s.tag.text x ≡ true
    → IsHere false (tree.StructItem s ∷ is) found x
own_struct s is found x q = tag_stays is (layout_of s ∷ found) x (ap (λ (c : Bool). if c then true else has_tag found x) q)

pub own_union : (s : tree.Structure) (is : List Item) (found : List Layout) (x : List ℕ) → bytes_eq s.tag.text x ≡ true
    → IsHere true (tree.UnionItem s ∷ is) found x
own_union s is found x q = ap (λ (c : Bool). if c then true else has_tag (unions_of is) x) q

pub bare_there : (i : ℕ) (is : List Item) (found : List Layout) (x : List ℕ) (t : Tag) → find (bare_from i is) x ≡ Some (OfTag t)
    → IsHere t.is_union is found x
bare_there i [] found x t e = absurd cc
bare_there i (tree.StructItem s ∷ is) found x t e =
    by (bytes_eq s.tag.text x) refl (λ p. here_after t.is_union s is found x (bare_there (suc i) is (layout_of s ∷ found) x t p)) e
  where
    own : (z : Tag) → z.is_union ≡ false → Some (OfTag z) ≡ Some (OfTag t) → IsHere false (tree.StructItem s ∷ is) found x
        → IsHere t.is_union (tree.StructItem s ∷ is) found x
    own z k q h =
        let same : z ≡ t = cc in
        let kind : t.is_union ≡ false = ap (λ (u : Tag). u.is_union) (sym same) ∙ k in subst (λ b. IsHere b (tree.StructItem s ∷ is) found x) (sym kind) h

    by : (c : Bool) → bytes_eq s.tag.text x ≡ c
        → (find (bare_from (suc i) is) x ≡ Some (OfTag t) → IsHere t.is_union (tree.StructItem s ∷ is) found x)
        → (if c then Some (bare_entry i (tree.StructItem s)) else find (bare_from (suc i) is) x) ≡ Some (OfTag t)
        → IsHere t.is_union (tree.StructItem s ∷ is) found x
    by true q others p = own _ refl p (own_struct s is found x q)
    by false q others p = others p
bare_there i (tree.UnionItem s ∷ is) found x t e =
    by (bytes_eq s.tag.text x) refl (λ p. here_behind t.is_union s is found x (bare_there (suc i) is found x t p)) e
  where
    own : (z : Tag) → z.is_union ≡ true → Some (OfTag z) ≡ Some (OfTag t) → IsHere true (tree.UnionItem s ∷ is) found x
        → IsHere t.is_union (tree.UnionItem s ∷ is) found x
    own z k q h =
        let same : z ≡ t = cc in
        let kind : t.is_union ≡ true = ap (λ (u : Tag). u.is_union) (sym same) ∙ k in subst (λ b. IsHere b (tree.UnionItem s ∷ is) found x) (sym kind) h

    by : (c : Bool) → bytes_eq s.tag.text x ≡ c
        → (find (bare_from (suc i) is) x ≡ Some (OfTag t) → IsHere t.is_union (tree.UnionItem s ∷ is) found x)
        → (if c then Some (bare_entry i (tree.UnionItem s)) else find (bare_from (suc i) is) x) ≡ Some (OfTag t)
        → IsHere t.is_union (tree.UnionItem s ∷ is) found x
    by true q others p = own _ refl p (own_union s is found x q)
    by false q others p = others p
bare_there i (tree.GlobalItem y ∷ is) found x t e =
    by (bytes_eq y.name.text x) (λ p. here_global t.is_union y is found x (bare_there (suc i) is found x t p)) e
  where
    by : (c : Bool) → (find (bare_from (suc i) is) x ≡ Some (OfTag t) → IsHere t.is_union (tree.GlobalItem y ∷ is) found x)
        → (if c then Some OfOther else find (bare_from (suc i) is) x) ≡ Some (OfTag t) → IsHere t.is_union (tree.GlobalItem y ∷ is) found x
    by true others p = absurd cc
    by false others p = others p
bare_there i (tree.FunctionItem f ∷ is) found x t e =
    by (bytes_eq f.name.text x) (λ p. here_function t.is_union f is found x (bare_there (suc i) is found x t p)) e
  where
    by : (c : Bool) → (find (bare_from (suc i) is) x ≡ Some (OfTag t) → IsHere t.is_union (tree.FunctionItem f ∷ is) found x)
        → (if c then Some OfOther else find (bare_from (suc i) is) x) ≡ Some (OfTag t) → IsHere t.is_union (tree.FunctionItem f ∷ is) found x
    by true others p = absurd cc
    by false others p = others p
