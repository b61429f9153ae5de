-- The forms of expressions, without the rules on live regions.
use Rattle.std.proofs.Common.{◌≡◌, ℕ, Bool, true, false, Option, Some, None, List, [], ◌∷◌, ◌++◌, refl, ap, ap₂, ◌∙◌}
use Rattle.std.specs.Prelude.{length, map, nat_eq, ◌&&◌, ◌||◌}
use Rattle.cyc_tree.specs.Tree as tree
use Rattle.cyc_tree.specs.declared.expression.Operator.{Operator}
use Rattle.cyc_tree.specs.declared.expression.Prefix.{Prefix}
use Rattle.cyc_tree.specs.declared.expression.Prefix.TheVariants as prefix
use Rattle.source_typing.proofs.Inversion.{both_none, none_of_both}
use Rattle.source_typing.specs.Calls.{Target, ToBuiltin, ToFunction, ToStruct, all_convert, all_known, all_live, all_ordered, arguments_converted}
use Rattle.source_typing.specs.Calls.{arguments_counted, arguments_fit, builtin_parameters, call_entered, called, if_all_known, if_regions_known, part_types}
use Rattle.source_typing.specs.Calls.{partly_convert, typed_result, union_made}
use Rattle.source_typing.specs.Conversions.{converts}
use Rattle.source_typing.specs.Faults.{effect_rule, outlives_rule, region_rule, test}
use Rattle.source_typing.specs.Fixing.{all_fits, all_regions, fixed_from, fixed_known, is_known}
use Rattle.source_typing.specs.Making.{goal_of, handled, handled_of, live_goal}
use Rattle.source_typing.specs.Operators.{applied, applied_to, compared, compared_thin, fat_moved, if_equality, integers_joined, is_equality, is_move}
use Rattle.source_typing.specs.Operators.{prefixed, signed, tested}
use Rattle.source_typing.specs.Places.{address, arrow, arrow_live, arrow_of, assigned, assigned_in, assigned_type, contents_of, in_live, indexed}
use Rattle.source_typing.specs.Places.{indexed_of, member, member_of, part_of}
use Rattle.source_typing.specs.Regions.{Region}
use Rattle.source_typing.specs.Scope.{Env, In, InBlock, Nowhere, Seat, Value, is_live, is_place, outlives, value}
use Rattle.source_typing.specs.Tables.{Part, Signature, Tag, argument, or_heap}
use Rattle.source_typing.specs.Types.{Fat, Handle, Int, StaticType, Struct, Thin, Union, Unique, is_integer, is_same, renamed}
use Rattle.source_typing.specs.Verdicts.{Faulty, Of, Unjudged, Verdict, unless_faulty}
use Rattle.region_types.proofs.EasedPhrases.{Stays, eased, stays_after, stays_of, stays_same, stays_unless}

-- ---- places

live_seat : (b : Bool) (at : ℕ) (t : StaticType) (r : Region) → Stays (in_live b at t r) (in_live true at t r)
live_seat true at t r = refl
live_seat false at t r = tt

contents_stay : (g : Env) (at : ℕ) (t : StaticType) → Stays (contents_of g at t) (contents_of (eased g) at t)
contents_stay g at (Thin n r t) = live_seat (is_live g r) at t r
contents_stay g at (Fat r t) = live_seat (is_live g r) at t r
contents_stay g at t = stays_same (contents_of g at t)

index_stays : (g : Env) (at : ℕ) (t : StaticType) (i : Bool) → Stays (indexed_of g at t i) (indexed_of (eased g) at t i)
index_stays g at (Fat r t) true = live_seat (is_live g r) at t r
index_stays g at (Thin n r t) true = live_seat (is_live g r) at t r
index_stays g at t i = stays_same (indexed_of g at t i)

pub indexed_stays : (g : Env) (a b : Value) → Stays (indexed g a b) (indexed (eased g) a b)
indexed_stays g a b = index_stays g a.at a.type (is_integer b.type)

place_member : (g : Env) (f : tree.Name) (at : ℕ) (t : StaticType) (s : Seat) → Stays (member_of g f at t s) (member_of (eased g) f at t s)
place_member g f at t Nowhere = tt
place_member g f at (Struct tag rs) s = stays_same (part_of g at s tag rs f)
place_member g f at t s = tt

pub member_stays : (g : Env) (f : tree.Name) (e : Value) → Stays (member g f e) (member (eased g) f e)
member_stays g f e = place_member g f e.at e.type e.seat

live_arrow : (b : Bool) (g : Env) (f : tree.Name) (at : ℕ) (r : Region) (tag : List ℕ) (rs : List Region)
    → Stays (arrow_live b g f at r tag rs) (arrow_live true (eased g) f at r tag rs)
live_arrow true g f at r tag rs = stays_same (part_of g at (In r) tag rs f)
live_arrow false g f at r tag rs = tt

pointed_member : (g : Env) (f : tree.Name) (at : ℕ) (t : StaticType) → Stays (arrow_of g f at t) (arrow_of (eased g) f at t)
pointed_member g f at (Thin n r (Struct tag rs)) = live_arrow (is_live g r) g f at r tag rs
pointed_member g f at (Fat r (Struct tag rs)) = live_arrow (is_live g r) g f at r tag rs
pointed_member g f at (Unique n (Struct tag rs)) = stays_same (part_of g at InBlock tag rs f)
pointed_member g f at t = stays_same (arrow_of g f at t)

pub arrow_stays : (g : Env) (f : tree.Name) (e : Value) → Stays (arrow g f e) (arrow (eased g) f e)
arrow_stays g f e = pointed_member g f e.at e.type

type_given : (g : Env) (t : StaticType) → assigned_type (eased g) t ≡ assigned_type g t
type_given g (Struct tag rs) = refl
type_given g (Union tag rs) = refl
type_given g t = refl

assigned_there : (b : Bool) (g : Env) (to from : Value) → Stays (assigned_in b g to from) (assigned_in b (eased g) to from)
assigned_there true g to from =
    stays_of (assigned_in true g to from) (assigned_in true (eased g) to from)
    (ap (λ t. unless_faulty (converts g from to.type) (value to.at t)) (type_given g to.type))
assigned_there false g to from = tt

pub assigned_stays : (g : Env) (to from : Value) → Stays (assigned g to from) (assigned (eased g) to from)
assigned_stays g to from = assigned_there (is_place to.seat) g to from

-- ---- operators

thin_stay : (g : Env) (at : ℕ) (same : Bool) (r q : Region) → Stays (compared_thin g at same r q) (compared_thin (eased g) at same r q)
thin_stay g at true r q =
    let order = test (outlives g r q || outlives g q r) outlives_rule at in
    let live = test (is_live g r && is_live g q) region_rule at in
    stays_unless (order ++ live) (order ++ []) (value at Int) (value at Int) (λ e. both_none order [] (none_of_both order live e).0 refl) refl
thin_stay g at false r q = tt

compared_stay : (g : Env) (at : ℕ) (a b : StaticType) → Stays (compared g at a b) (compared (eased g) at a b)
compared_stay g at (Thin n r t) (Thin m q u) = thin_stay g at (is_same t u) r q
compared_stay g at a b = stays_same (compared g at a b)

equal_stay : (b : Bool) (g : Env) (at : ℕ) (t u : StaticType) → Stays (if_equality b g at t u) (if_equality b (eased g) at t u)
equal_stay true g at t u = compared_stay g at t u
equal_stay false g at t u = tt

fat_stays : (b : Bool) (g : Env) (o : Operator) (at : ℕ) (t u : StaticType) → Stays (fat_moved b g o at t u) (fat_moved b (eased g) o at t u)
fat_stays true g o at t u = refl
fat_stays false g o at t u = equal_stay (is_equality o) g at t u

integers_stay : (b : Bool) (g : Env) (o : Operator) (at : ℕ) (t u : StaticType) → Stays (integers_joined b g o at t u) (integers_joined b (eased g) o at t u)
integers_stay true g o at t u = refl
integers_stay false g o at t u = equal_stay (is_equality o) g at t u

operands_stay : (g : Env) (o : Operator) (at : ℕ) (t u : StaticType) → Stays (applied_to g o at t u) (applied_to (eased g) o at t u)
operands_stay g o at (Fat r t) u = fat_stays (is_move o && is_integer u) g o at (Fat r t) u
operands_stay g o at t u = integers_stay (is_integer t && is_integer u) g o at t u

pub applied_stays : (g : Env) (o : Operator) (a b : Value) → Stays (applied g o a b) (applied (eased g) o a b)
applied_stays g o a b = operands_stay g o a.at a.type b.type

pub prefixed_stays : (g : Env) (at : ℕ) (o : Prefix) (e : Value) → Stays (prefixed g at o e) (prefixed (eased g) at o e)
prefixed_stays g at prefix.Negate e = stays_same (signed at e)
prefixed_stays g at prefix.Complement e = stays_same (signed at e)
prefixed_stays g at prefix.Not e = stays_same (tested at e)
prefixed_stays g at prefix.Dereference e = contents_stay g at e.type
prefixed_stays g at prefix.AddressOf e = stays_same (address at e)

-- ---- calls

all_convert_same : (g : Env) (rs : List Region) (ps : List (Option StaticType)) (vs : List Value) → all_convert (eased g) rs ps vs ≡ all_convert g rs ps vs
all_convert_same g rs [] vs = refl
all_convert_same g rs (Some p ∷ ps) [] = refl
all_convert_same g rs (None ∷ ps) [] = refl
all_convert_same g rs (Some p ∷ ps) (v ∷ vs) = ap (λ fs. converts g v (renamed (argument rs) p) ++ fs) (all_convert_same g rs ps vs)
all_convert_same g rs (None ∷ ps) (v ∷ vs) = all_convert_same g rs ps vs

partly_same : (g : Env) (rs : List (Option Region)) (ps : List (Option StaticType)) (vs : List Value)
    → partly_convert (eased g) rs ps vs ≡ partly_convert g rs ps vs
partly_same g rs [] vs = refl
partly_same g rs (Some p ∷ ps) [] = refl
partly_same g rs (None ∷ ps) [] = refl
partly_same g rs (Some p ∷ ps) (v ∷ vs) =
    ap (λ fs. if_regions_known (all_regions (is_known rs) p) (converts g v (renamed (argument (map or_heap rs)) p)) ++ fs) (partly_same g rs ps vs)
partly_same g rs (None ∷ ps) (v ∷ vs) = partly_same g rs ps vs

converted_same : (g : Env) (some : List (Option Region)) (ps : List (Option StaticType)) (vs : List Value) (v : Verdict (List Region))
    → arguments_converted (eased g) some ps vs v ≡ arguments_converted g some ps vs v
converted_same g some ps vs (Of rs) = ap (λ fs. unless_faulty fs (if_all_known (all_known ps) rs)) (all_convert_same g rs ps vs)
converted_same g some ps vs (Faulty f fs) = ap (λ others. Faulty f (fs ++ others)) (partly_same g some ps vs)
converted_same g some ps vs Unjudged = ap (λ fs. unless_faulty fs Unjudged) (partly_same g some ps vs)

counted_same : (b : Bool) (g : Env) (at n : ℕ) (ps : List (Option StaticType)) (vs : List Value)
    → arguments_counted b (eased g) at n ps vs ≡ arguments_counted b g at n ps vs
counted_same true g at n ps vs =
    converted_same g (fixed_known g.enclosing at (all_fits ps vs) 0 n) ps vs (fixed_from g.enclosing at (all_fits ps vs) 0 n)
counted_same false g at n ps vs = refl

fit_stays : (g : Env) (at n : ℕ) (ps : List (Option StaticType)) (vs : List Value) → Stays (arguments_fit g at n ps vs) (arguments_fit (eased g) at n ps vs)
fit_stays g at n ps vs = stays_of (arguments_fit g at n ps vs) (arguments_fit (eased g) at n ps vs) (counted_same (nat_eq (length ps) (length vs)) g at n ps vs)

-- the effect of a call is live
effect_live : (g : Env) (rs effect : List Region) → all_live (eased g) rs effect ≡ true
effect_live g rs [] = refl
effect_live g rs (r ∷ effect) = effect_live g rs effect

bounds_same : (g : Env) (rs : List Region) (bounds : List (Region × Region)) → all_ordered (eased g) rs bounds ≡ all_ordered g rs bounds
bounds_same g rs [] = refl
bounds_same g rs ((a, b) ∷ bounds) = ap (λ c. outlives g (argument rs a) (argument rs b) && c) (bounds_same g rs bounds)

entered_stays : (g : Env) (at : ℕ) (s : Signature) (rs : List Region) → Stays (call_entered g at s rs) (call_entered (eased g) at s rs)
entered_stays g at s rs =
    let faults = λ (live order : Bool). test live effect_rule at ++ test order outlives_rule at in
    let live = all_live g rs s.effect in
    let order = all_ordered g rs s.bounds in
    stays_unless (faults live order) (faults (all_live (eased g) rs s.effect) (all_ordered (eased g) rs s.bounds))
    (typed_result at rs s.result) (typed_result at rs s.result)
    (λ e. ap₂ faults (effect_live g rs s.effect) (bounds_same g rs s.bounds) ∙ (none_of_both (test live effect_rule at) (test order outlives_rule at) e).1)
    (stays_same (typed_result at rs s.result))

pub called_stays : (g : Env) (at : ℕ) (t : Target) (vs : List Value) → Stays (called g at t vs) (called (eased g) at t vs)
called_stays g at (ToBuiltin n) vs =
    stays_after (arguments_fit g at 0 (builtin_parameters n) vs) (arguments_fit (eased g) at 0 (builtin_parameters n) vs) (λ rs. value at Int)
    (λ rs. value at Int) (fit_stays g at 0 (builtin_parameters n) vs) (λ rs. refl)
called_stays g at (ToStruct t) vs =
    stays_after (arguments_fit g at t.regions (part_types t.parts) vs) (arguments_fit (eased g) at t.regions (part_types t.parts) vs)
    (λ rs. value at (Struct t.text rs)) (λ rs. value at (Struct t.text rs)) (fit_stays g at t.regions (part_types t.parts) vs) (λ rs. refl)
called_stays g at (ToFunction s) vs =
    stays_after (arguments_fit g at s.regions s.parameters vs) (arguments_fit (eased g) at s.regions s.parameters vs) (call_entered g at s)
    (call_entered (eased g) at s) (fit_stays g at s.regions s.parameters vs) (λ rs. entered_stays g at s rs)

pub union_stays : (g : Env) (at : ℕ) (t : Tag × Part) (v : Value) → Stays (union_made g at t v) (union_made (eased g) at t v)
union_stays g at (t, p) v =
    stays_after (arguments_fit g at t.regions (p.type ∷ []) (v ∷ [])) (arguments_fit (eased g) at t.regions (p.type ∷ []) (v ∷ []))
    (λ rs. value at (Union t.text rs)) (λ rs. value at (Union t.text rs)) (fit_stays g at t.regions (p.type ∷ []) (v ∷ [])) (λ rs. refl)

-- ---- goals

live_goal_stays : (b : Bool) (at : ℕ) (r : Region) → Stays (live_goal b at r) (live_goal true at r)
live_goal_stays true at r = refl
live_goal_stays false at r = tt

handle_stays : (g : Env) (at : ℕ) (t : StaticType) → Stays (handled_of g at t) (handled_of (eased g) at t)
handle_stays g at (Handle r) = live_goal_stays (is_live g r) at r
handle_stays g at t = refl

pub goal_stays : (u : Bool) (g : Env) (v w : Verdict Value) → Stays v w → Stays (goal_of u g v) (goal_of u (eased g) w)
goal_stays true g v w s = refl
goal_stays false g v w s = stays_after v w (handled g) (handled (eased g)) s (λ h. handle_stays g h.at h.type)
