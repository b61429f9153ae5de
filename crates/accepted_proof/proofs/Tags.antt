-- The tags of a program as they are judged, one after another in the order of the text.
use Rattle.std.proofs.Common.{◌≡◌, ℕ, suc, Bool, true, false, Some, List, [], ◌∷◌, ◌++◌, refl, sym, ap, ◌∙◌, append_assoc}
use Rattle.std.specs.Prelude.{bytes_eq, codes, if◌then◌else◌}
use Rattle.cyc_tree.specs.Tree.{Item, Program}
use Rattle.source_typing.specs.Programs.{Judged, bare_from, builtins, entries, first_from, judged_tag, judged_tags, tags_from}
use Rattle.source_typing.specs.Tables.{OfBuiltin, OfTag, Tables, Tag, find}

-- ---- in the order of the text

-- the items from the i-th on, where these are judged and `g` has what is known of tags alone
abbrev pub judged_list : Tables → ℕ → List Judged → List Item → List Judged
judged_list g i done [] = []
judged_list g i done (x ∷ is) =
    judged_tag (builtins (entries done ++ first_from g i (x ∷ is))) i x
    ∷ judged_list g (suc i) (done ++ judged_tag (builtins (entries done ++ first_from g i (x ∷ is))) i x ∷ []) is

none_behind : (js : List Judged) → js ++ [] ≡ js
none_behind [] = refl
none_behind (j ∷ js) = ap (λ (ks : List Judged). j ∷ ks) (none_behind js)

list_from : (g : Tables) (i : ℕ) (done : List Judged) (is : List Item) → tags_from i done is (first_from g i is) ≡ done ++ judged_list g i done is
list_from g i done [] = sym (none_behind done)
list_from g i done (x ∷ is) =
    let j : Judged = judged_tag (builtins (entries done ++ first_from g i (x ∷ is))) i x in
    list_from g (suc i) (done ++ j ∷ []) is ∙ append_assoc done (j ∷ []) (judged_list g (suc i) (done ++ j ∷ []) is)

-- what is first known of the tags of a program
abbrev pub first_tables : Program → Tables
first_tables p = builtins (bare_from 0 p)

pub tags_are : (p : Program) → judged_tags p ≡ judged_list (first_tables p) 0 [] p
tags_are p = list_from (first_tables p) 0 [] p

-- ---- names behind those of the two functions that every program has

pub behind_builtins : (g : Tables) (x : List ℕ) (t : Tag) → find (builtins g) x ≡ Some (OfTag t) → find g x ≡ Some (OfTag t)
behind_builtins g x t e = by (bytes_eq (codes "getchar") x) (bytes_eq (codes "putchar") x) e
  where
    by : (a c : Bool) → (if a then Some (OfBuiltin 0) else (if c then Some (OfBuiltin 1) else find g x)) ≡ Some (OfTag t) → find g x ≡ Some (OfTag t)
    by true c p = absurd cc
    by false true p = absurd cc
    by false false p = p
