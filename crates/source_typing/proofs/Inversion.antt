-- What a phrase without fault says of its parts.
use Rattle.std.proofs.Common.{◌≡◌, ℕ, Bool, true, false, List, [], ◌∷◌, refl, sym, subst}
use Rattle.std.specs.Prelude.{None, Option, Some, not, ◌||◌, ◌++◌}
use Rattle.cyc_tree.specs.declared.expression.Prefix.{Prefix}
use Rattle.cyc_tree.specs.Tree as tree
use Rattle.cyc_tree.specs.Tree.{Expression, Expressions, NoExpressions, MoreExpressions, Links, NoLinks, MoreLinks, Suffixes, NoSuffixes, Index, Dot, Arrow}
use Rattle.source_typing.specs.Faults.{Fault, earliest, sooner_of, test, own_after, type_rule}
use Rattle.source_typing.specs.Functions.{Head, body_scope, end_reached, function_faults, head_of}
use Rattle.source_typing.specs.Statements.{items_faults}
use Rattle.source_typing.specs.Tables.{Tables}
use Rattle.source_typing.specs.Verdicts.{Verdict, Faulty, Unjudged, Of, faults_of, unless_faulty, after, both, if_fits}
use Rattle.source_typing.specs.Scope.{Env, Value, meant}
use Rattle.source_typing.specs.Types.{is_makeable}
use Rattle.source_typing.specs.Places.{assigned, member, arrow, indexed}
use Rattle.source_typing.specs.Operators.{prefixed, applied, tested_both}
use Rattle.source_typing.specs.Making.{Goal, array_made, array_misfits, array_of, by_parts, elements, is_no_handle, is_other, made, made_of}
use Rattle.source_typing.specs.Calls.{Target, target, called}
use Rattle.source_typing.specs.Expressions.{judge, judge_all, judge_tests, judge_links, judge_suffixes}

-- ---- verdicts

pub after_is : {A B : Type 0} (v : Verdict A) (rule : A → Verdict B) (b : B) → after v rule ≡ Of b → (a : A) × (v ≡ Of a) × (rule a ≡ Of b)
after_is (Faulty f fs) rule b e = absurd cc
after_is Unjudged rule b e = absurd cc
after_is (Of a) rule b e = (a, refl, e)

pub both_is : {A B C : Type 0} (v : Verdict A) (w : Verdict B) (rule : A → B → Verdict C) (c : C) → both v w rule ≡ Of c
    → (a : A) × (b : B) × (v ≡ Of a) × (w ≡ Of b) × (rule a b ≡ Of c)
both_is (Faulty f fs) (Faulty g gs) rule c e = absurd cc
both_is (Faulty f fs) Unjudged rule c e = absurd cc
both_is (Faulty f fs) (Of b) rule c e = absurd cc
both_is Unjudged (Faulty g gs) rule c e = absurd cc
both_is Unjudged Unjudged rule c e = absurd cc
both_is Unjudged (Of b) rule c e = absurd cc
both_is (Of a) (Faulty g gs) rule c e = absurd cc
both_is (Of a) Unjudged rule c e = absurd cc
both_is (Of a) (Of b) rule c e = (a, b, refl, refl, e)

pub unless_is : {A : Type 0} (fs : List Fault) (v : Verdict A) (a : A) → unless_faulty fs v ≡ Of a → (fs ≡ []) × (v ≡ Of a)
unless_is [] v a e = (refl, e)
unless_is (f ∷ fs) v a e = absurd cc

pub fits_is : {A : Type 0} (b : Bool) (at : ℕ) (a c : A) → if_fits b at a ≡ Of c → (b ≡ true) × (Of a ≡ Of c)
fits_is true at a c e = (refl, e)
fits_is false at a c e = absurd cc

pub of_is : {A : Type 0} (a b : A) → Of a ≡ Of b → a ≡ b
of_is a b e = cc

pub test_is : (b : Bool) (kind at : ℕ) → test b kind at ≡ [] → b ≡ true
test_is true kind at e = refl
test_is false kind at e = absurd cc

pub none_of_both : {A : Type 0} (xs ys : List A) → xs ++ ys ≡ [] → (xs ≡ []) × (ys ≡ [])
none_of_both [] ys e = (refl, e)
none_of_both (x ∷ xs) ys e = absurd cc

pub both_none : {A : Type 0} (xs ys : List A) → xs ≡ [] → ys ≡ [] → xs ++ ys ≡ []
both_none [] ys a b = b
both_none (x ∷ xs) ys a b = absurd cc

pub after_clean : {A B : Type 0} (v : Verdict A) (rule : A → Verdict B) → faults_of (after v rule) ≡ [] → faults_of v ≡ []
after_clean (Faulty f fs) rule e = e
after_clean Unjudged rule e = refl
after_clean (Of a) rule e = refl

pub own_is : (own parts : List Fault) → own_after own parts ≡ [] → (own ≡ []) × (parts ≡ [])
own_is own [] e = (e, refl)
own_is own (f ∷ fs) e = absurd cc

-- ---- expressions

pub assign_is : (g : Env) (to from : Expression) (w : Value) → judge g (Expression.Assign to from) ≡ Of w
    → (a : Value) × (b : Value) × (judge g to ≡ Of a) × (judge g from ≡ Of b) × (assigned g a b ≡ Of w)
assign_is g to from w e = both_is (judge g to) (judge g from) (assigned g) w e

pub prefix_is : (g : Env) (at : ℕ) (o : Prefix) (e : Expression) (w : Value) → judge g (Expression.Prefixed at o e) ≡ Of w
    → (a : Value) × (judge g e ≡ Of a) × (prefixed g at o a ≡ Of w)
prefix_is g at o e w p = after_is (judge g e) (prefixed g at o) w p

pub call_is : (g : Env) (x : tree.Name) (es : Expressions) (w : Value) → judge g (Expression.Call x es) ≡ Of w
    → (t : Target) × (vs : List Value) × (target x.at (meant g x.text) ≡ Of t) × (judge_all g es ≡ Of vs) × (called g x.at t vs ≡ Of w)
call_is g x es w p = both_is (target x.at (meant g x.text)) (judge_all g es) (called g x.at) w p

-- ---- chains, subscripts and members

-- the first part of two, or the part
pub first_of_both : {A B C : Type 0} (v : Verdict A) (w : Verdict B) (rule : A → B → Verdict C) (c : C) → both v w rule ≡ Of c → (a : A) × (v ≡ Of a)
first_of_both {A = A} {B = B} v w rule c e =
    let z : (a : A) × (b : B) × (v ≡ Of a) × (w ≡ Of b) × (rule a b ≡ Of c) = both_is v w rule c e in (z.0, z.2)

pub first_of_one : {A B : Type 0} (v : Verdict A) (rule : A → Verdict B) (b : B) → after v rule ≡ Of b → (a : A) × (v ≡ Of a)
first_of_one (Faulty f fs) rule b e = absurd cc
first_of_one Unjudged rule b e = absurd cc
first_of_one (Of a) rule b e = (a, refl)

-- a chain of operators without fault has a first operand without fault
pub links_first : (g : Env) (v : Verdict Value) (es : Links) (w : Value) → judge_links g v es ≡ Of w → (a : Value) × (v ≡ Of a)
links_first g v NoLinks w p = (w, p)
links_first g v (MoreLinks o e es) w p =
    let z : (a : Value) × (both v (judge g e) (applied g o) ≡ Of a) = links_first g (both v (judge g e) (applied g o)) es w p in
    first_of_both v (judge g e) (applied g o) z.0 z.1

pub tests_first : (g : Env) (v : Verdict Value) (es : Expressions) (w : Value) → judge_tests g v es ≡ Of w → (a : Value) × (v ≡ Of a)
tests_first g v NoExpressions w p = (w, p)
tests_first g v (MoreExpressions e es) w p =
    let z : (a : Value) × (both v (judge g e) tested_both ≡ Of a) = tests_first g (both v (judge g e) tested_both) es w p in
    first_of_both v (judge g e) tested_both z.0 z.1

pub suffixes_first : (g : Env) (v : Verdict Value) (es : Suffixes) (w : Value) → judge_suffixes g v es ≡ Of w → (a : Value) × (v ≡ Of a)
suffixes_first g v NoSuffixes w p = (w, p)
suffixes_first g v (Index e es) w p =
    let z : (a : Value) × (both v (judge g e) (indexed g) ≡ Of a) = suffixes_first g (both v (judge g e) (indexed g)) es w p in
    first_of_both v (judge g e) (indexed g) z.0 z.1
suffixes_first g v (Dot f es) w p =
    let z : (a : Value) × (after v (member g f) ≡ Of a) = suffixes_first g (after v (member g f)) es w p in first_of_one v (member g f) z.0 z.1
suffixes_first g v (Arrow f es) w p =
    let z : (a : Value) × (after v (arrow g f) ≡ Of a) = suffixes_first g (after v (arrow g f)) es w p in first_of_one v (arrow g f) z.0 z.1

-- what isn't checked is in order for no known part
pub by_parts_is : (at : ℕ) (misfits : Bool) (v : Verdict Value) (w : Value) → by_parts at misfits v ≡ Of w → v ≡ Of w
by_parts_is at misfits (Faulty f fs) w e = e
by_parts_is at true Unjudged w e = absurd cc
by_parts_is at false Unjudged w e = e
by_parts_is at misfits (Of v) w e = e

-- a making without fault has a goal and a value
pub goal_is : (at : ℕ) (goal : Verdict Goal) (e : Verdict Value) (w : Value) → made_of at goal e ≡ Of w
    → (x : Goal) × (y : Value) × (goal ≡ Of x) × (e ≡ Of y) × (made at x y ≡ Of w)
goal_is at goal e w p =
    both_is goal e (made at) w (by_parts_is at (is_no_handle goal || is_other is_makeable e) (both goal e (made at)) w p)

-- and an array's making also a count
pub array_is : (at : ℕ) (goal : Verdict Goal) (count e : Verdict Value) (w : Value) → array_of at goal count e ≡ Of w
    → (x : Goal) × (c : Value) × (a : Value) × (goal ≡ Of x) × (count ≡ Of c) × (e ≡ Of a) × (array_made at x (c, a) ≡ Of w)
array_is at goal count e w p =
    let z : (x : Goal) × (y : Value × Value) × (goal ≡ Of x) × (both count e elements ≡ Of y) × (array_made at x y ≡ Of w) =
    both_is goal (both count e elements) (array_made at) w
    (by_parts_is at (array_misfits goal count e) (both goal (both count e elements) (array_made at)) w p) in
    let y : (c : Value) × (a : Value) × (count ≡ Of c) × (e ≡ Of a) × (elements c a ≡ Of z.1) = both_is count e elements z.1 z.3 in
    (z.0, y.0, y.1, z.2, y.2, y.3, subst (λ (p : Value × Value). array_made at z.0 p ≡ Of w) (sym (of_is (y.0, y.1) z.1 y.4)) z.4)

-- ---- answers

sooner_is : (f : Fault) (g : Option Fault) → sooner_of f g ≡ None → ⊥
sooner_is f None e = cc
sooner_is f (Some g) e = cc

-- no fault is answered exactly where there is none
pub none_is : (fs : List Fault) → earliest fs ≡ None → fs ≡ []
none_is [] e = refl
none_is (f ∷ fs) e = absurd (sooner_is f (earliest fs) e)

-- ---- functions

-- the head of a function without fault has no fault
pub body_head_clean : (g : Tables) (i : ℕ) (f : tree.Function) → function_faults false g i f ≡ [] → (head_of false g f).faults ≡ []
body_head_clean g i f none =
    let h : Head = head_of false g f in
    let inner = items_faults (body_scope false g i f h) true f.body in
    (none_of_both h.faults (own_after (test (not (end_reached f h)) type_rule f.end) inner) none).0
