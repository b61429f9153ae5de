-- How many locals are in scope after a declaration, and in a clause.
use Rattle.std.specs.Prelude.{Bool, false, length, take, true, ◌+◌, ◌-◌, ◌≤◌, if◌then◌else◌}
use Rattle.std.proofs.Common.{◌≡◌, ℕ, Option, ◌∷◌, ◌∙◌, arith, length-take-le}
use Rattle.std.proofs.lemmas.List.{length-map}
use Rattle.cyc_tree.specs.Tree as tree
use Rattle.cyc_tree.specs.Tree.{Case, Default, Initializer}
use Rattle.source_typing.specs.Declarations.{declare, open_declared, opened_region, with_region}
use Rattle.source_typing.specs.Left.{added_by, begins_as}
use Rattle.source_typing.specs.Regions.{Region, Regions, opened}
use Rattle.source_typing.specs.Scope.{Env, block_entered, is_second, with_local}
use Rattle.source_typing.specs.Statements.{Chosen, clause_scope}
use Rattle.source_typing.specs.Tables.{What}
use Rattle.source_typing.specs.Verdicts.{Faulty, Of, Unjudged, Verdict}

-- no fewer locals are in scope
abbrev IsWithin : Env → Env → Type 0
IsWithin outer inside = length outer.locals ≤ length inside.locals

-- those that were there before and those that are added are all
pub all_counted : (outer inside : Env) → IsWithin outer inside → length inside.locals ≡ length (added_by outer inside) + length outer.locals
all_counted outer inside h =
    let k : ℕ = length inside.locals - length outer.locals in
    let within : k ≤ length inside.locals = omega arith in
    let added : length (added_by outer inside) ≡ k =
    length-map (take k inside.locals) (λ l. begins_as inside l.what) ∙ length-take-le k inside.locals within in
    omega (arith, added, h)

local_within : (x : tree.Name) (w : What) (g : Env) → IsWithin g (with_local x w g)
local_within x w g = by (is_second g.locals g.block x.text)
  where
    by : (t : Bool) → IsWithin g (if t then g else record g { locals = record { name = x.text; what = w; block = g.block } ∷ g.locals })
    by true = omega arith
    by false = omega arith

region_within : (r : tree.RegionName) (next : Regions → Regions) (g : Env) (x : tree.Name) (w : What) → IsWithin g (with_local x w (with_region r next g))
region_within (tree.Named n) next g x w = local_within x w (with_region (tree.Named n) next g)
region_within (tree.Heap at) next g x w = local_within x w (with_region (tree.Heap at) next g)
region_within (tree.Unique at) next g x w = local_within x w (with_region (tree.Unique at) next g)

open_within : (g : Env) (x : tree.Name) (v : Verdict Region) → IsWithin g (open_declared g x v).scope
open_within g x (Of r) = local_within x _ (record g { regions = opened r g.regions })
open_within g x (Faulty f fs) = local_within x _ g
open_within g x Unjudged = local_within x _ g

declared_within : (g : Env) (d : tree.Declaration) → IsWithin g (declare g d).scope
declared_within g (tree.Local t x Initializer.Unset) = local_within x _ g
declared_within g (tree.Local t x (Initializer.Elements n)) = local_within x _ g
declared_within g (tree.Local t x (Initializer.Value e)) = local_within x _ g
declared_within g (tree.Region at r x) = region_within r _ g x _
declared_within g (tree.Open at r x k) = open_within g x (opened_region g r k)
declared_within g (tree.Alias at r t x p) = region_within r _ g x _
declared_within g (tree.NewKey at r x) = region_within r _ g x _

clause_within : (g : Env) (c : Option Chosen) (p : tree.Pattern) → IsWithin g (clause_scope g c p)
clause_within g c Default = omega arith
clause_within g c (Case f x) = local_within x _ (block_entered g)

pub declared_counted : (g : Env) (d : tree.Declaration)
    → length (declare g d).scope.locals ≡ length (added_by g (declare g d).scope) + length g.locals
declared_counted g d = all_counted g (declare g d).scope (declared_within g d)

pub clause_counted : (g : Env) (c : Option Chosen) (p : tree.Pattern)
    → length (clause_scope g c p).locals ≡ length (added_by g (clause_scope g c p)) + length g.locals
clause_counted g c p = all_counted g (clause_scope g c p) (clause_within g c p)
