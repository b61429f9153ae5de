-- The earliest fault of a block's items, one at a time.
use Rattle.std.proofs.Common.{◌≡◌, ℕ, ◌+◌, ◌<◌, List, ◌∷◌, ◌++◌, Bool, true, false, Option, Some, None, refl, sym, ap, ◌∙◌}
use Rattle.std.proofs.Common.{map, length, drop, get_or}
use Rattle.std.specs.Prelude.{option_map, ◌&&◌}
use Rattle.std.proofs.lemmas.List.{drop_more}
use Rattle.cyc_tree.specs.declared.statement.BlockItem as code_item
use Rattle.cyc_tree.specs.declared.expression.Expression as code_expression
use Rattle.cyc_tree.specs.View.{OneItem, expression_tree, item_tree, items_of}
use Rattle.cyc_tree.specs.Tree.{Statement}
use Rattle.source_typing.specs.Declarations.{declare}
use Rattle.source_typing.specs.Expressions.{judge}
use Rattle.source_typing.specs.Faults.{Fault, earliest}
use Rattle.source_typing.specs.Scope.{Env}
use Rattle.source_typing.specs.Statements.{items_faults, returned, statement_faults}
use Rattle.check_faults.specs.Faults.{faults_of, first_of, sooner_found}
use Rattle.check_faults.specs.declared.fault.Fault as found
use Rattle.check_faults.proofs.Earliest.{earliest_of_both, first_joined, found_sooner}
use Rattle.check_scopes.specs.declared.scope.Scope.{Scope}
use Rattle.source_typing.specs.Written.{RegionNamed}
use Rattle.check_declarations.specs.Contexts.{StandsIn}
use Rattle.check_statements.specs.Leaving.{item_falls}
use Rattle.check_declarations.specs.declared.context.Context.{Context}
use Rattle.check_declarations.proofs.Blocks.{scope_behind}

-- the faults of one item
abbrev pub item_faults : Env → Bool → OneItem → List Fault
item_faults g reached (OneItem.Declare d) = (declare g d).faults
item_faults g reached (OneItem.Execute s) = statement_faults g reached s

and_true : (b : Bool) → (b && true) ≡ b
and_true true = refl
and_true false = refl

item_more : (g : Env) (reached : Bool) (i : OneItem) (rest : List OneItem) → items_faults g reached (items_of (i ∷ rest))
    ≡ item_faults g reached i ++ items_faults (scope_behind g i) (reached && item_falls i) (items_of rest)
item_more g reached (OneItem.Declare d) rest =
    ap (λ b. item_faults g reached (OneItem.Declare d) ++ items_faults (scope_behind g (OneItem.Declare d)) b (items_of rest)) (sym (and_true reached))
item_more g reached (OneItem.Execute s) rest = refl

-- where some items were judged: what stands in scope by the rules, and what was found, with the faults of the rest, is what is found of all
pub record Going (c : Context) (names : List RegionNamed) (outer : ℕ) (s : Scope) (reached : Bool) (o : Option found.Fault) (rest : List OneItem)
    (all : Option Fault) : Type 0 where
  pub env : Env
  pub stands : StandsIn c names outer s env
  pub same : first_of (faults_of o) (earliest (items_faults env reached (items_of rest))) ≡ all

pub goes_on : (c : Context) (names later : List RegionNamed) (outer : ℕ) (s after : Scope) (reached : Bool) (o fault : Option found.Fault)
    (items : List code_item.BlockItem) (index : ℕ) (item : code_item.BlockItem) (all : Option Fault) → index < length items
    → item ≡ get_or items index item → (h : Going c names outer s reached o (map item_tree (drop index items)) all)
    → faults_of fault ≡ earliest (item_faults h.env reached (item_tree item)) → StandsIn c later outer after (scope_behind h.env (item_tree item))
    → Going c later outer after (reached && item_falls (item_tree item)) (sooner_found o fault) (map item_tree (drop (index + 1) items)) all
goes_on c names later outer s after reached o fault items index item all l is_item h own stands =
    let i : OneItem = item_tree item in
    let rest : List OneItem = map item_tree (drop (index + 1) items) in
    let others : Option Fault = earliest (items_faults (scope_behind h.env i) (reached && item_falls i) (items_of rest)) in
    let next : drop index items ≡ item ∷ drop (index + 1) items = drop_more items index item l ∙ ap (λ y. y ∷ drop (index + 1) items) (sym is_item) in
    record {
      env = scope_behind h.env i;
      stands = stands;
      same =
          ap (λ f. first_of f others) (found_sooner o fault) ∙ first_joined (faults_of o) (faults_of fault) others
          ∙ ap (λ f. first_of (faults_of o) (first_of f others)) own
          ∙ ap (λ f. first_of (faults_of o) f)
          (sym (ap earliest (item_more h.env reached i rest)
          ∙ earliest_of_both (item_faults h.env reached i) (items_faults (scope_behind h.env i) (reached && item_falls i) (items_of rest))))
          ∙ ap (λ xs. first_of (faults_of o) (earliest (items_faults h.env reached (items_of (map item_tree xs))))) (sym next)
          ∙ h.same;
    }

-- one more was found
pub one_more : (o a r : Option found.Fault) (fs gs : List Fault) (all : Option Fault) → r ≡ sooner_found o a → faults_of a ≡ earliest fs
    → first_of (faults_of o) (earliest (fs ++ gs)) ≡ all → first_of (faults_of r) (earliest gs) ≡ all
one_more o a r fs gs all e own h =
    ap (λ f. first_of (faults_of f) (earliest gs)) e ∙ ap (λ f. first_of f (earliest gs)) (found_sooner o a)
    ∙ first_joined (faults_of o) (faults_of a) (earliest gs) ∙ ap (λ f. first_of (faults_of o) (first_of f (earliest gs))) own
    ∙ ap (λ f. first_of (faults_of o) f) (sym (earliest_of_both fs gs)) ∙ h

-- a `return`, with a result or without
pub return_faults : (g : Env) (reached : Bool) (at : ℕ) (v : Option code_expression.Expression)
    → statement_faults g reached (Statement.Return at (option_map expression_tree v))
    ≡ returned g at g.result (option_map (λ e. judge g (expression_tree e)) v)
return_faults g reached at None = refl
return_faults g reached at (Some e) = refl
