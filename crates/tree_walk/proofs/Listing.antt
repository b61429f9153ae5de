-- Literals and callees that are listed one after the other.
use Rattle.std.proofs.Common.{◌≡◌, ◌∙◌, ◌+◌, ◌<◌, ℕ, sym, ap, refl, false, List, [], ◌∷◌, ◌++◌, length, map, drop, get_or, append_assoc}
use Rattle.std.proofs.lemmas.List.{append-nil, drop_more}
use Rattle.source_meaning.specs.Callees.{clauses_callees, expression_callees, expressions_callees, items_callees, links_callees, suffixes_callees}
use Rattle.source_meaning.specs.Strings.{Literal, clauses_strings, expression_strings, expressions_strings, items_strings, links_strings, suffixes_strings}
use Rattle.cyc_tree.specs.Tree.{Expression}
use Rattle.cyc_tree.specs.View.{OneClause, OneItem, OneSuffix, clauses_of, expressions_of, items_of, links_of, suffixes_of}
use Rattle.cyc_tree.specs.declared.expression.Operator.{Operator}
use Rattle.tree_walk.specs.Listing.{Adds, AddsTo, Lists, ListsTo, clause_callees, clause_strings, link_callees, link_strings, literal_of, name_of}
use Rattle.tree_walk.specs.Listing.{one_item_callees, one_item_strings, suffix_callees, suffix_strings}
use Rattle.tree_walk.specs.declared.found.Found.{Found}

-- ---- of one list

-- some, and then others
adds_both : {C M : Type 0} (view : C → M) (a b c : List C) (x y z : List M) → Adds view a b x → Adds view b c y → z ≡ x ++ y → Adds view a c z
adds_both view a b c x y z one two is rest =
    two rest ∙ one (y ++ rest) ∙ ap (λ s. map view a ++ s) (sym (append_assoc x y rest) ∙ ap (λ s. s ++ rest) (sym is))

-- those of one more phrase, by its tree
adds_one_more : {C M X T : Type 0} (view : C → M) (tree : X → T) (parts : List T → List M) (one : T → List M)
    → ((t : T) (ts : List T) → parts (t ∷ ts) ≡ one t ++ parts ts) → (a b c : List C) (all : List X) (i : ℕ) (x : X) → i < length all
    → x ≡ get_or all i x → AddsTo view (λ xs. parts (map tree xs)) a all i b → Adds view b c (one (tree x))
    → AddsTo view (λ xs. parts (map tree xs)) a all (i + 1) c
adds_one_more view tree parts one first a b c all i x within x_is before last rest =
    let here = one (tree x) in
    let others = parts (map tree (drop (i + 1) all)) in
    let is : parts (map tree (drop i all)) ≡ here ++ others =
    ap (λ xs. parts (map tree xs)) (drop_more all i x within ∙ ap (λ y. y ∷ drop (i + 1) all) (sym x_is)) ∙ first (tree x) (map tree (drop (i + 1) all)) in
    last (others ++ rest) ∙ ap (λ s. map view b ++ s) (sym (append_assoc here others rest) ∙ ap (λ s. s ++ rest) (sym is)) ∙ before rest

-- what is listed from nothing on is all that there is
adds_from_nothing : {C M : Type 0} (view : C → M) (old new : List C) (more : List M) → old ≡ [] → Adds view old new more → map view new ≡ more
adds_from_nothing view old new more none adds =
    sym (append-nil (map view new)) ∙ adds [] ∙ ap (λ cs. map view cs ++ (more ++ [])) none ∙ append-nil more

-- ---- of both

-- some, and then others
pub both : (a b c : Found) (x y z : List Literal) (k l m : List (List ℕ)) → Lists a b x k → Lists b c y l → z ≡ x ++ y → m ≡ k ++ l → Lists a c z m
both a b c x y z k l m one two strings_are callees_are sound =
    let second = two sound in
    let first = one second.sound in
    record {
      sound = first.sound;
      literals = adds_both literal_of a.literals.items b.literals.items c.literals.items x y z first.literals second.literals strings_are;
      callees = adds_both name_of a.callees.items b.callees.items c.callees.items k l m first.callees second.callees callees_are;
    }

-- those of one more phrase, by its tree
pub one_more : {X T : Type 0} (tree : X → T) (strings : List T → List Literal) (one : T → List Literal)
    (callees : List T → List (List ℕ)) (named : T → List (List ℕ)) → ((t : T) (ts : List T) → strings (t ∷ ts) ≡ one t ++ strings ts)
    → ((t : T) (ts : List T) → callees (t ∷ ts) ≡ named t ++ callees ts) → (a b c : Found) (all : List X) (i : ℕ) (x : X) → i < length all
    → x ≡ get_or all i x → ListsTo (λ xs. strings (map tree xs)) (λ xs. callees (map tree xs)) a all i b → Lists b c (one (tree x)) (named (tree x))
    → ListsTo (λ xs. strings (map tree xs)) (λ xs. callees (map tree xs)) a all (i + 1) c
one_more tree strings one callees named first first_named a b c all i x within x_is left more is_sound =
    let last = more is_sound in
    let before = left last.sound in
    record {
      sound = before.sound;
      literals =
          adds_one_more literal_of tree strings one first a.literals.items b.literals.items c.literals.items all i x within x_is before.literals last.literals;
      callees =
          adds_one_more name_of tree callees named first_named a.callees.items b.callees.items c.callees.items all i x within x_is before.callees last.callees;
    }

-- the callees that are listed from nothing on are all that there are
pub from_nothing : (old new : Found) (x : List Literal) (k : List (List ℕ)) → old.callees.items ≡ [] → Lists old new x k → new.failed ≡ false
    → map name_of new.callees.items ≡ k
from_nothing old new x k none lists sound = adds_from_nothing name_of old.callees.items new.callees.items k none (lists sound).callees

-- ---- those of one and the others, of each kind of phrase

pub strings_of_expressions : (e : Expression) (es : List Expression)
    → expressions_strings (expressions_of (e ∷ es)) ≡ expression_strings e ++ expressions_strings (expressions_of es)
strings_of_expressions e es = refl

pub callees_of_expressions : (e : Expression) (es : List Expression)
    → expressions_callees (expressions_of (e ∷ es)) ≡ expression_callees e ++ expressions_callees (expressions_of es)
callees_of_expressions e es = refl

pub strings_of_links : (l : Operator × Expression) (ls : List (Operator × Expression))
    → links_strings (links_of (l ∷ ls)) ≡ link_strings l ++ links_strings (links_of ls)
strings_of_links (o, e) ls = refl

pub callees_of_links : (l : Operator × Expression) (ls : List (Operator × Expression))
    → links_callees (links_of (l ∷ ls)) ≡ link_callees l ++ links_callees (links_of ls)
callees_of_links (o, e) ls = refl

pub strings_of_suffixes : (s : OneSuffix) (ss : List OneSuffix)
    → suffixes_strings (suffixes_of (s ∷ ss)) ≡ suffix_strings s ++ suffixes_strings (suffixes_of ss)
strings_of_suffixes (OneSuffix.Index e) ss = refl
strings_of_suffixes (OneSuffix.Dot n) ss = refl
strings_of_suffixes (OneSuffix.Arrow n) ss = refl

pub callees_of_suffixes : (s : OneSuffix) (ss : List OneSuffix)
    → suffixes_callees (suffixes_of (s ∷ ss)) ≡ suffix_callees s ++ suffixes_callees (suffixes_of ss)
callees_of_suffixes (OneSuffix.Index e) ss = refl
callees_of_suffixes (OneSuffix.Dot n) ss = refl
callees_of_suffixes (OneSuffix.Arrow n) ss = refl

pub strings_of_items : (i : OneItem) (is : List OneItem)
    → items_strings (items_of (i ∷ is)) ≡ one_item_strings i ++ items_strings (items_of is)
strings_of_items (OneItem.Declare d) is = refl
strings_of_items (OneItem.Execute s) is = refl

pub callees_of_items : (i : OneItem) (is : List OneItem)
    → items_callees (items_of (i ∷ is)) ≡ one_item_callees i ++ items_callees (items_of is)
callees_of_items (OneItem.Declare d) is = refl
callees_of_items (OneItem.Execute s) is = refl

pub strings_of_clauses : (c : OneClause) (cs : List OneClause)
    → clauses_strings (clauses_of (c ∷ cs)) ≡ clause_strings c ++ clauses_strings (clauses_of cs)
strings_of_clauses c cs = refl

pub callees_of_clauses : (c : OneClause) (cs : List OneClause)
    → clauses_callees (clauses_of (c ∷ cs)) ≡ clause_callees c ++ clauses_callees (clauses_of cs)
callees_of_clauses c cs = refl
