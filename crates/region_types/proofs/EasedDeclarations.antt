-- A declaration in which the rules find no fault is the same without those on live regions.
use Rattle.std.proofs.Common.{◌≡◌, ℕ, Bool, true, false, Option, Some, None, List, [], ◌∷◌, ◌++◌, refl, ap, ap₂, ◌∙◌}
use Rattle.std.specs.Prelude.{if◌then◌else◌, nat_lt, not, ◌&&◌, ◌||◌}
use Rattle.cyc_tree.specs.Tree as tree
use Rattle.cyc_tree.specs.Tree.{Initializer, TypeName}
use Rattle.source_typing.proofs.Inversion.{none_of_both}
use Rattle.source_typing.specs.Declarations.{Declared, alias_declared, can_be, converted_to, declare, declared, fitting, if_sized}
use Rattle.source_typing.specs.Declarations.{local_set, local_type, local_unset, misses_region, open_declared, opened_region, operand, region_declared}
use Rattle.source_typing.specs.Declarations.{region_of, set_faults, set_type, stands_earlier, taken_from, type_in_scope, type_of_alias, unset_type}
use Rattle.source_typing.specs.Declarations.{what_after, what_of, with_region}
use Rattle.source_typing.specs.Expressions.{judge}
use Rattle.source_typing.specs.Extents.{fits_bytes, variable_size}
use Rattle.source_typing.specs.Faults.{Fault}
use Rattle.source_typing.specs.Missing.{settled}
use Rattle.source_typing.specs.Regions.{Region, Regions, opened, with_name, with_scope}
use Rattle.source_typing.specs.Scope.{Env, Value, is_second, next_region, second, with_local}
use Rattle.source_typing.specs.Tables.{Stored, Unknown, What, has_beginning}
use Rattle.source_typing.specs.Types.{Handle, Key, PartialType, StaticType, Struct, Union, is_element, is_unique, is_void}
use Rattle.source_typing.specs.Verdicts.{Faulty, Of, Unjudged, Verdict, after, faults_of, if_fits}
use Rattle.region_types.proofs.EasedExpressions.{judge_stays}
use Rattle.region_types.proofs.EasedPhrases.{eased, stays_is}

-- ---- types of variables

earlier_same : (g : Env) (t : StaticType) → stands_earlier (eased g) t ≡ stands_earlier g t
earlier_same g (Struct tag rs) = refl
earlier_same g (Union tag rs) = refl
earlier_same g t = refl

can_be_same : (g : Env) (count : Option ℕ) (t : StaticType) → can_be (eased g) count t ≡ can_be g count t
can_be_same g None t = ap (λ b. not (is_void t) && b) (earlier_same g t)
can_be_same g (Some n) t = ap (λ b. not (is_void t) && b && nat_lt 0 n && is_element t) (earlier_same g t)

pub fitting_same : (g : Env) (at : ℕ) (count : Option ℕ) (fits : Bool) (t : StaticType) → fitting (eased g) at count fits t ≡ fitting g at count fits t
fitting_same g at count fits t =
    ap (λ b. after (if_fits (fits && b) at t) (if_sized (fits_bytes (variable_size g.tables count t)) at)) (can_be_same g count t)

type_same : (g : Env) (at : ℕ) (count : Option ℕ) (set : Bool) (source : Option StaticType) (p : PartialType)
    → local_type (eased g) at count set source p ≡ local_type g at count set source p
type_same g at count set source p =
    ap (λ rule. after (settled at p source) rule) (λ i t. fitting_same g at count (set || has_beginning g.tables t) t i)

from_same : (g : Env) (at : ℕ) (missing : Bool) (v : Verdict Value) (p : PartialType) → taken_from (eased g) at missing v p ≡ taken_from g at missing v p
from_same g at true (Faulty f fs) p = refl
from_same g at true Unjudged p = refl
from_same g at true (Of v) p = type_same g at None true (Some v.type) p
from_same g at false v p = type_same g at None true None p

set_same : (g : Env) (t : TypeName) (v : Verdict Value) → set_type (eased g) t v ≡ set_type g t v
set_same g t v = ap (λ rule. after (type_in_scope g t) rule) (λ i p. from_same g t.at (misses_region g t) v p i)

unset_same : (g : Env) (t : TypeName) (count : Option ℕ) → unset_type (eased g) t count ≡ unset_type g t count
unset_same g t count = ap (λ rule. after (type_in_scope g t) rule) (λ i p. type_same g t.at count false None p i)

pub converted_same : (g : Env) (v : Verdict Value) (t : Verdict StaticType) → converted_to (eased g) v t ≡ converted_to g v t
converted_same g (Of v) (Of t) = refl
converted_same g v t = refl

faults_same : (g : Env) (v : Verdict Value) (t : Verdict StaticType) → set_faults (eased g) v t ≡ set_faults g v t
faults_same g v t = ap (λ fs. faults_of t ++ faults_of v ++ fs) (converted_same g v t)

-- ---- what is in scope after them

pub local_eased : (x : tree.Name) (w : What) (g : Env) → with_local x w (eased g) ≡ eased (with_local x w g)
local_eased x w g = by (is_second g.locals g.block x.text)
  where
    by : (b : Bool) → (if b then eased g else record (eased g) { locals = record { name = x.text; what = w; block = g.block } ∷ g.locals })
        ≡ eased (if b then g else record g { locals = record { name = x.text; what = w; block = g.block } ∷ g.locals })
    by true = refl
    by false = refl

region_eased : (r : tree.RegionName) (next : Regions → Regions) (g : Env) → with_region r next (eased g) ≡ eased (with_region r next g)
region_eased (tree.Named n) next g = refl
region_eased (tree.Heap at) next g = refl
region_eased (tree.Unique at) next g = refl

name_same : (g : Env) (r : tree.RegionName) → region_declared (eased g) r ≡ region_declared g r
name_same g (tree.Named n) = refl
name_same g (tree.Heap at) = refl
name_same g (tree.Unique at) = refl

-- ---- declarations

-- the same, and what is in scope after it without the rules on live regions
abbrev pub eased_after : Declared → Declared
eased_after d = declared d.faults (eased d.scope)

unset_eased : (g : Env) (t : TypeName) (x : tree.Name) (count : Option ℕ) → local_unset (eased g) t x count ≡ eased_after (local_unset g t x count)
unset_eased g t x count =
    ap (λ v. declared (faults_of v ++ second g x) (with_local x (what_of g.frame count v) (eased g))) (unset_same g t count)
    ∙ ap (declared (faults_of (unset_type g t count) ++ second g x)) (local_eased x (what_of g.frame count (unset_type g t count)) g)

set_eased : (g : Env) (t : TypeName) (x : tree.Name) (v : Verdict Value) → local_set (eased g) t x v ≡ eased_after (local_set g t x v)
set_eased g t x v =
    let type = set_type g t v in
    let faults = set_faults g v type in
    let with_type = λ (u : Verdict StaticType). declared (set_faults (eased g) v u ++ second g x)
    (with_local x (what_after (set_faults (eased g) v u) (what_of g.frame None u)) (eased g)) in
    let with_faults = λ (fs : List Fault). declared (fs ++ second g x) (with_local x (what_after fs (what_of g.frame None type)) (eased g)) in
    ap with_type (set_same g t v) ∙ ap with_faults (faults_same g v type)
    ∙ ap (declared (faults ++ second g x)) (local_eased x (what_after faults (what_of g.frame None type)) g)

handle_eased : (g : Env) (r : tree.RegionName) (x : tree.Name) (make : Region → StaticType) (next : Regions → Regions)
    → region_of (eased g) r x make next ≡ eased_after (region_of g r x make next)
handle_eased g r x make next =
    let w = Stored (make (next_region g)) g.frame in
    ap₂ (λ fs s. declared (fs ++ second g x) (with_local x w s)) (name_same g r) (region_eased r next g)
    ∙ ap (declared (region_declared g r ++ second g x)) (local_eased x w (with_region r next g))

opened_same : (g : Env) (r : tree.RegionName) (k : tree.Name) → opened_region (eased g) r k ≡ opened_region g r k
opened_same g (tree.Named n) k = refl
opened_same g (tree.Heap at) k = refl
opened_same g (tree.Unique at) k = refl

open_eased : (g : Env) (x : tree.Name) (v : Verdict Region) → open_declared (eased g) x v ≡ eased_after (open_declared g x v)
open_eased g x (Of r) = ap (declared (second g x)) (local_eased x (Stored (Handle r) g.frame) (record g { regions = opened r g.regions }))
open_eased g x (Faulty f fs) = ap (declared ((f ∷ fs) ++ second g x)) (local_eased x (Unknown false) g)
open_eased g x Unjudged = ap (declared (second g x)) (local_eased x (Unknown true) g)

alias_within : (g inside : Env) (r : tree.RegionName) (t : TypeName) (x p : tree.Name)
    → alias_declared (eased g) (eased inside) r t x p ≡ eased_after (alias_declared g inside r t x p)
alias_within g inside r t x p =
    let type = type_of_alias g inside t p in
    let faults = λ (fs : List Fault). fs ++ faults_of (operand g p is_unique) ++ faults_of type ++ second g x in
    ap₂ (λ fs s. declared (faults fs) s) (name_same g r) (local_eased x (what_of g.frame None type) inside)

alias_eased : (g : Env) (r : tree.RegionName) (t : TypeName) (x p : tree.Name)
    → alias_declared (eased g) (with_region r (with_name true) (eased g)) r t x p ≡ eased_after (alias_declared g (with_region r (with_name true) g) r t x p)
alias_eased g r t x p =
    ap (λ s. alias_declared (eased g) s r t x p) (region_eased r (with_name true) g) ∙ alias_within g (with_region r (with_name true) g) r t x p

-- what a local begins with has no fault where the declaration has none
value_clean : (g : Env) (v : Verdict Value) (t : Verdict StaticType) (others : List Fault) → set_faults g v t ++ others ≡ [] → faults_of v ≡ []
value_clean g v t others e =
    let all = none_of_both (set_faults g v t) others e in
    let parts = none_of_both (faults_of t ++ faults_of v) (converted_to g v t) all.0 in
    (none_of_both (faults_of t) (faults_of v) parts.0).1

pub declare_eased : (g : Env) (d : tree.Declaration) → (declare g d).faults ≡ [] → declare (eased g) d ≡ eased_after (declare g d)
declare_eased g (tree.Local t x Initializer.Unset) e = unset_eased g t x None
declare_eased g (tree.Local t x (Initializer.Elements n)) e = unset_eased g t x (Some n)
declare_eased g (tree.Local t x (Initializer.Value a)) e =
    let v = judge g a in
    let clean = value_clean g v (set_type g t v) (second g x) e in
    ap (local_set (eased g) t x) (stays_is v (judge (eased g) a) (judge_stays a g) clean) ∙ set_eased g t x v
declare_eased g (tree.Region at r x) e = handle_eased g r x (λ a. Handle a) with_scope
declare_eased g (tree.Open at r x k) e = ap (open_declared (eased g) x) (opened_same g r k) ∙ open_eased g x (opened_region g r k)
declare_eased g (tree.Alias at r t x p) e = alias_eased g r t x p
declare_eased g (tree.NewKey at r x) e = handle_eased g r x (λ a. Key a) (with_name false)
