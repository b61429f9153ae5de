-- Where the rules find no fault, a word counts the bytes of each string: all data together are within the limit on globals and strings.
use Rattle.std.proofs.Common.{◌≡◌, ℕ, suc, ◌+◌, ◌≤◌, Bool, true, false, List, [], ◌∷◌, ◌++◌, refl, sym, ◌∙◌, ap, subst, arith}
use Rattle.std.specs.Prelude.{nat_le, not, ◌||◌, bytes_eq, codes, map}
use Rattle.std.proofs.lemmas.Bool.{leb-true}
use Rattle.cyc_tree.specs.Tree as tree
use Rattle.cyc_tree.specs.Tree.{Item, Program}
use Rattle.source_lowering.specs.Lowerable.{AreStrings}
use Rattle.source_meaning.specs.Strings.{Literal, item_strings, program_strings}
use Rattle.source_typing.specs.Faults.{name_rule, test}
use Rattle.source_typing.specs.Globals.{Static, if_passed, item_statics, static_string, total_faults}
use Rattle.source_typing.specs.Programs.{if_first, is_seen, name_of, second_names, size_faults, statics_from}
use Rattle.source_typing.specs.Scope.{Env, at_item}
use Rattle.source_typing.specs.Tables.{Tables}
use Rattle.source_typing.proofs.Inversion.{none_of_both, test_is}

-- ---- the rule on sizes

-- where nothing passes the limit, the first object doesn't, with what stands before it, nor do those behind it
pub first_within : (so_far at bytes : ℕ) (others : List Static) → total_faults so_far ((at, bytes) ∷ others) ≡ []
    → (so_far + bytes ≤ 1048576) × (total_faults (so_far + bytes) others ≡ [])
first_within so_far at bytes others e = by (nat_le (so_far + bytes) 1048576) refl e
  where
    by : (b : Bool) → nat_le (so_far + bytes) 1048576 ≡ b → if_passed b at (total_faults (so_far + bytes) others) ≡ []
        → (so_far + bytes ≤ 1048576) × (total_faults (so_far + bytes) others ≡ [])
    by true l e = (leb-true (so_far + bytes) 1048576 l, e)
    by false l e = absurd cc

-- each is within it
abbrev AreWithin : List Static → Type 0
AreWithin [] = Unit {0}
AreWithin ((at, bytes) ∷ ss) = (bytes ≤ 1048576) × AreWithin ss

all_within : (so_far : ℕ) (ss : List Static) → total_faults so_far ss ≡ [] → AreWithin ss
all_within so_far [] e = tt
all_within so_far ((at, bytes) ∷ ss) e =
    let one = first_within so_far at bytes ss e in
    let within : so_far + bytes ≤ 1048576 = one.0 in
    (omega (arith, within), all_within (so_far + bytes) ss one.1)

-- ---- names

-- what was seen among some names was seen among others
abbrev pub AreSeen : List (List ℕ) → List (List ℕ) → Type 0
AreSeen some seen = (x : List ℕ) → is_seen some x ≡ true → is_seen seen x ≡ true

pub one_more : (some seen : List (List ℕ)) (y : List ℕ) → AreSeen some seen → AreSeen (y ∷ some) (y ∷ seen)
one_more some seen y h x e = by (bytes_eq y x) e
  where
    by : (b : Bool) → (b || is_seen some x) ≡ true → (b || is_seen seen x) ≡ true
    by true e = refl
    by false e = h x e

pub unseen : (some seen : List (List ℕ)) (x : List ℕ) → AreSeen some seen → not (is_seen seen x) ≡ true → not (is_seen some x) ≡ true
unseen some seen x h e = by (is_seen some x) refl
  where
    by : (b : Bool) → is_seen some x ≡ b → not b ≡ true
    by false f = refl
    by true f = absurd (cc (sym (ap not (h x f)) ∙ e))

-- ---- strings

both_short : (ss others : List Literal) → AreStrings ss → AreStrings others → AreStrings (ss ++ others)
both_short [] others a b = b
both_short (s ∷ ss) others a b = (a.0, both_short ss others a.1 b)

literals_short : (ss : List Literal) (rest : List Static) → AreWithin (map static_string ss ++ rest) → AreStrings ss × AreWithin rest
literals_short [] rest h = (tt, h)
literals_short ((at, bytes) ∷ ss) rest h =
    let r : AreStrings ss × AreWithin rest = literals_short ss rest h.1 in ((omega (arith, h.0), r.0), r.1)

item_short : (g : Env) (x : Item) (rest : List Static) → AreWithin (item_statics g x ++ rest) → AreStrings (item_strings x) × AreWithin rest
item_short g (tree.GlobalItem x) rest h = literals_short (item_strings (tree.GlobalItem x)) rest h.1
item_short g (tree.FunctionItem f) rest h = literals_short (item_strings (tree.FunctionItem f)) rest h
item_short g (tree.StructItem s) rest h = (tt, h)
item_short g (tree.UnionItem u) rest h = (tt, h)

-- no name is declared twice, so all items count
items_short : (g : Tables) (i : ℕ) (items : List Item) (some seen : List (List ℕ)) → AreSeen some seen → second_names seen items ≡ []
    → AreWithin (statics_from false g i some items) → AreStrings (program_strings items)
items_short g i [] some seen s n h = tt
items_short g i (x ∷ items) some seen s n h =
    let name : List ℕ = (name_of x).text in
    let rest : List Static = statics_from false g (suc i) (name ∷ some) items in
    let names = none_of_both (test (not (is_seen seen name)) name_rule (name_of x).at) (second_names (name ∷ seen) items) n in
    let first : not (is_seen some name) ≡ true = unseen some seen name s (test_is (not (is_seen seen name)) name_rule (name_of x).at names.0) in
    let one : AreStrings (item_strings x) × AreWithin rest =
    item_short (at_item false g i) x rest (subst (λ b. AreWithin (if_first b (item_statics (at_item false g i) x) ++ rest)) first h) in
    both_short (item_strings x) (program_strings items) one.0
    (items_short g (suc i) items (name ∷ some) (name ∷ seen) (one_more some seen name s) names.1 one.1)

pub strings_short : (g : Tables) (p : Program) → second_names (codes "getchar" ∷ codes "putchar" ∷ []) p ≡ [] → size_faults false g p ≡ []
    → AreStrings (program_strings p)
strings_short g p n e =
    items_short g 0 p [] (codes "getchar" ∷ codes "putchar" ∷ []) (λ x f. absurd cc) n (all_within 0 (statics_from false g 0 [] p) e)
