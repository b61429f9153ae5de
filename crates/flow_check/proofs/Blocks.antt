-- What the items of a block do, one at a time, and what is in scope after them.
use Rattle.std.proofs.Common.{List, [], ap, drop, get_or, length, map, sym, ℕ, ◌+◌, ◌++◌, ◌<◌, ◌∙◌, ◌∷◌, ◌≡◌}
use Rattle.std.proofs.lemmas.List.{drop_more}
use Rattle.cyc_tree.specs.View.{OneItem, item_tree, items_of}
use Rattle.cyc_tree.specs.declared.statement.BlockItem as code_item
use Rattle.flow_summaries.specs.Exits.{Exits}
use Rattle.flow_summaries.specs.Statements.{exits_of_items}
use Rattle.source_typing.specs.Scope.{Env}
use Rattle.source_typing.specs.Written.{RegionNamed}
use Rattle.check_scopes.specs.declared.scope.Scope.{Scope}
use Rattle.check_declarations.proofs.Blocks.{scope_behind}
use Rattle.check_declarations.specs.declared.context.Context.{Context}
use Rattle.flow_effects.proofs.Sequences.{before_more}
use Rattle.flow_effects.specs.Steps.{all_before, step_before}
use Rattle.flow_effects.specs.declared.steps.Step.{Step}
use Rattle.flow_check.specs.Standing.{Stands}

-- where the steps of some items are told: what stands in scope by the rules, and the steps before the rest are the whole
pub record Going (c : Context) (names : List RegionNamed) (outer : ℕ) (s : Scope) (steps : List Step) (rest : List OneItem) (all : Exits) : Type 0 where
  pub env : Env
  pub stands : Stands c names outer s env
  pub same : all_before steps (exits_of_items env (items_of rest)) ≡ all

pub goes_on : (c : Context) (names later : List RegionNamed) (outer : ℕ) (s after : Scope) (steps : List Step) (step : Step)
    (items : List code_item.BlockItem) (index : ℕ) (item : code_item.BlockItem) (all : Exits) → index < length items → item ≡ get_or items index item
    → (h : Going c names outer s steps (map item_tree (drop index items)) all)
    → ((rest : List OneItem) → step_before step (exits_of_items (scope_behind h.env (item_tree item)) (items_of rest))
    ≡ exits_of_items h.env (items_of (item_tree item ∷ rest)))
    → Stands c later outer after (scope_behind h.env (item_tree item))
    → Going c later outer after (steps ++ step ∷ []) (map item_tree (drop (index + 1) items)) all
goes_on c names later outer s after steps step items index item all l is_item h own stands =
    let rest : List OneItem = map item_tree (drop (index + 1) items) in
    let next : drop index items ≡ item ∷ drop (index + 1) items =
    drop_more items index item l ∙ ap (λ y. y ∷ drop (index + 1) items) (sym is_item) in
    let split : map item_tree (drop index items) ≡ item_tree item ∷ rest = ap (map item_tree) next in
    record {
      env = scope_behind h.env (item_tree item);
      stands = stands;
      same = before_more steps step (exits_of_items (scope_behind h.env (item_tree item)) (items_of rest))
          ∙ ap (all_before steps) (own rest ∙ sym (ap (λ is. exits_of_items h.env (items_of is)) split))
          ∙ h.same;
    }
