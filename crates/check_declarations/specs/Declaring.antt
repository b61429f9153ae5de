-- View of code: declarations of locals: which types they may have, and what a declaration gives.
use Rattle.std.specs.Prelude.{Bool, List, None, Option, Some, false, nat_lt, not, true, ℕ, ◌≡◌, ◌&&◌, ◌||◌, ◌++◌}
use Rattle.cyc_tree.specs.Tree as tree
use Rattle.check_scopes.specs.Means.{WhatIs}
use Rattle.check_scopes.specs.declared.meaning.Meaning.{Meaning}
use Rattle.check_scopes.specs.declared.meaning.Meaning.TheVariants as meaning
use Rattle.source_typing.specs.Declarations.{if_sized, opened_region, operand, region_declared, set_faults, set_type, tag_earlier, type_of_alias, unset_type}
use Rattle.source_typing.specs.Declarations.{what_after, what_of, with_region}
use Rattle.source_typing.specs.Expressions.{judge}
use Rattle.source_typing.specs.Faults.{Fault, earliest}
use Rattle.source_typing.specs.Regions.{Region, opened, with_name, with_scope}
use Rattle.source_typing.specs.Scope.{Env, next_region}
use Rattle.source_typing.specs.Tables.{Stored, Tables, Unknown, What, has_beginning, tag_in}
use Rattle.source_typing.specs.Types.{Handle, Key, StaticType, Struct, Union, is_element, is_unique, is_void}
use Rattle.source_typing.specs.Verdicts as verdict
use Rattle.check_faults.specs.Faults.{faults_of}
use Rattle.check_types.specs.declared.tagged.TagName.{TagName}
use Rattle.check_types.specs.declared.tagged.TagName.TheVariants as tag
use Rattle.check_declarations.specs.declared.local.Judged.{Judged}

-- ---- types

-- whether a struct or union stands before the item with this number, by these tables
abbrev pub stands_before : Tables → ℕ → StaticType → Bool
stands_before g item (Struct tag rs) = tag_earlier item (tag_in g tag)
stands_before g item (Union tag rs) = tag_earlier item (tag_in g tag)
stands_before g item t = true

-- an array has elements, of a type that they may have
abbrev pub elements_fit : Option ℕ → StaticType → Bool
elements_fit None t = true
elements_fit (Some n) t = nat_lt 0 n && is_element t

-- what a local may be, or an array with a number of elements, by these tables
abbrev pub could_be : Tables → ℕ → Option ℕ → Bool → StaticType → Bool
could_be g item count set t = (set || has_beginning g t) && (not (is_void t) && (stands_before g item t && elements_fit count t))

-- the type of a local by whether it may be one and isn't too large
abbrev pub fitting_by : Bool → Bool → ℕ → StaticType → verdict.Verdict StaticType
fitting_by fits sized at t = verdict.after (verdict.if_fits fits at t) (if_sized sized at)

-- ---- tags

-- what a name means where a tag is wanted, by what it means in code
abbrev pub tag_of_meaning : Option Meaning → TagName
tag_of_meaning None = tag.NoName
tag_of_meaning (Some (meaning.Tag u n)) = tag.Tag u n
tag_of_meaning (Some (meaning.FaultyTag n)) = tag.NotJudged n
tag_of_meaning (Some meaning.NotKnown) = tag.NotJudged 0
tag_of_meaning (Some m) = tag.Other

-- ---- declarations

-- what is in scope after a region is opened, and its handle
abbrev pub opened_scope : Env → verdict.Verdict Region → Env
opened_scope g (verdict.Of r) = record g { regions = opened r g.regions }
opened_scope g v = g

abbrev pub opened_what : Region → verdict.Verdict Region → What
opened_what frame (verdict.Of r) = Stored (Handle r) frame
opened_what frame (verdict.Faulty f fs) = Unknown false
opened_what frame verdict.Unjudged = Unknown true

-- what is in scope after an alias's region begins
abbrev pub alias_scope : Env → tree.RegionName → Env
alias_scope g r = with_region r (with_name true) g

-- the faults of a declaration, a second name apart, what its local is, and what is in scope around it after the declaration
abbrev pub own_faults : Env → tree.Declaration → List Fault
own_faults g (tree.Local t x tree.Initializer.Unset) = verdict.faults_of (unset_type g t None)
own_faults g (tree.Local t x (tree.Initializer.Elements n)) = verdict.faults_of (unset_type g t (Some n))
own_faults g (tree.Local t x (tree.Initializer.Value e)) = set_faults g (judge g e) (set_type g t (judge g e))
own_faults g (tree.Region at r x) = region_declared g r
own_faults g (tree.Open at r x k) = verdict.faults_of (opened_region g r k)
own_faults g (tree.Alias at r t x p) =
    region_declared g r ++ verdict.faults_of (operand g p is_unique) ++ verdict.faults_of (type_of_alias g (alias_scope g r) t p)
own_faults g (tree.NewKey at r x) = region_declared g r

abbrev pub own_what : Env → tree.Declaration → What
own_what g (tree.Local t x tree.Initializer.Unset) = what_of g.frame None (unset_type g t None)
own_what g (tree.Local t x (tree.Initializer.Elements n)) = what_of g.frame (Some n) (unset_type g t (Some n))
own_what g (tree.Local t x (tree.Initializer.Value e)) =
    what_after (set_faults g (judge g e) (set_type g t (judge g e))) (what_of g.frame None (set_type g t (judge g e)))
own_what g (tree.Region at r x) = Stored (Handle (next_region g)) g.frame
own_what g (tree.Open at r x k) = opened_what g.frame (opened_region g r k)
own_what g (tree.Alias at r t x p) = what_of g.frame None (type_of_alias g (alias_scope g r) t p)
own_what g (tree.NewKey at r x) = Stored (Key (next_region g)) g.frame

abbrev pub own_scope : Env → tree.Declaration → Env
own_scope g (tree.Local t x i) = g
own_scope g (tree.Region at r x) = with_region r with_scope g
own_scope g (tree.Open at r x k) = opened_scope g (opened_region g r k)
own_scope g (tree.Alias at r t x p) = alias_scope g r
own_scope g (tree.NewKey at r x) = with_region r (with_name false) g

-- a local in code is what it is by the rules
pub record Matches (fs : List Fault) (w : What) (d : Judged) : Type 0 where
  pub fault : faults_of d.fault ≡ earliest fs
  pub what : WhatIs w d.what
