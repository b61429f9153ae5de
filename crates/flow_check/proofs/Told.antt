-- What the forms of statements do, by what their parts do.
use Rattle.std.proofs.Common.{IfOk, List, Option, [], ap, drop, get_or, length, map, subst, sym, true, ℕ, ◌+◌, ◌++◌, ◌<◌, ◌∙◌, ◌∷◌, ◌≡◌}
use Rattle.std.proofs.lemmas.List.{drop_more}
use Rattle.std.specs.Prelude.{Result}
use Rattle.cyc_tree.specs.Tree.{Statement}
use Rattle.cyc_tree.specs.View.{clause_tree, clauses_of, statement_tree}
use Rattle.cyc_tree.specs.declared.statement.Clause as code_clause
use Rattle.cyc_tree.specs.declared.statement.Statement as code_statement
use Rattle.flow_summaries.specs.Exits.{Exits, either_exits}
use Rattle.flow_summaries.specs.Statements as rules
use Rattle.source_typing.specs.Scope.{Env}
use Rattle.source_typing.specs.Statements.{Chosen, in_a_loop, in_a_switch}
use Rattle.source_typing.specs.Written.{RegionNamed}
use Rattle.check_scopes.specs.declared.scope.Scope.{Scope}
use Rattle.check_declarations.proofs.Blocks.{loop_known, loop_suits, switch_known, switch_suits}
use Rattle.check_declarations.specs.declared.context.Context.{Context}
use Rattle.flow_effects.proofs.Sequences.{before_more}
use Rattle.flow_effects.specs.Steps.{all_before}
use Rattle.flow_effects.specs.declared.steps.Step.{Step}
use Rattle.flow_effects.specs.declared.steps.Step.TheVariants as step
use Rattle.flow_effects.specs.Exits.{exits_of}
use Rattle.flow_effects.specs.declared.exits.Exits as code
use Rattle.flow_check.specs.Standing.{Follows}
use Rattle.flow_check.specs.Switched.{clause_exits}

module _ {E : Type 0} (r : Result code.Exits E) where
  -- what is answered, by the rules
  pub answers_as : (x y : Exits) → x ≡ y → IfOk r (λ w. exits_of w ≡ x) → IfOk r (λ w. exits_of w ≡ y)
  answers_as x y p h = subst (λ z. IfOk r (λ w. exits_of w ≡ z)) p h

  -- of a statement by its tree
  pub of_statement : (g : Env) (s : code_statement.Statement) (t : Statement) → statement_tree s ≡ t
      → IfOk r (λ w. exits_of w ≡ rules.exits_of g t) → IfOk r (λ w. exits_of w ≡ rules.exits_of g (statement_tree s))
  of_statement g s t p h = subst (λ u. IfOk r (λ w. exits_of w ≡ rules.exits_of g u)) (sym p) h

-- ---- within a loop, and within a `switch`

module _ (c d : Context) (names : List RegionNamed) (s : Scope) (g : Env) (h : Follows c names s g) where
  pub loop_follows : d ≡ record c { in_loop = true } → Follows d names s (in_a_loop g)
  loop_follows e = record { known = loop_known s g h.known; suits = loop_suits c d names g h.suits e; around = h.around; locals = h.locals }

  pub switch_follows : d ≡ record c { in_switch = true } → Follows d names s (in_a_switch g)
  switch_follows e = record { known = switch_known s g h.known; suits = switch_suits c d names g h.suits e; around = h.around; locals = h.locals }

-- where what is in scope in code is the same
pub still_follows : (c : Context) (names later : List RegionNamed) (s after : Scope) (g : Env) → after ≡ s → later ≡ names → Follows c names s g
    → Follows c later after g
still_follows c names later s after g same kept h =
    subst (λ t. Follows c later t g) (sym same) (subst (λ ns. Follows c ns s g) (sym kept) h)

-- ---- the clauses of a `switch`, one more of them

pub way_goes_on : (g : Env) (u : Option Chosen) (ways : List Step) (way : code.Exits) (clauses : List code_clause.Clause) (index : ℕ)
    (clause : code_clause.Clause) (all : Exits) → index < length clauses → clause ≡ get_or clauses index clause
    → all_before ways (rules.exits_of_clauses g u (clauses_of (map clause_tree (drop index clauses)))) ≡ all
    → exits_of way ≡ clause_exits g u (clause_tree clause)
    → all_before (ways ++ step.Way way ∷ []) (rules.exits_of_clauses g u (clauses_of (map clause_tree (drop (index + 1) clauses)))) ≡ all
way_goes_on g u ways way clauses index clause all l is_clause h own =
    let rest : List code_clause.Clause = drop (index + 1) clauses in
    let next : drop index clauses ≡ clause ∷ rest = drop_more clauses index clause l ∙ ap (λ y. y ∷ rest) (sym is_clause) in
    before_more ways (step.Way way) (rules.exits_of_clauses g u (clauses_of (map clause_tree rest)))
    ∙ ap (λ w. all_before ways (either_exits w (rules.exits_of_clauses g u (clauses_of (map clause_tree rest))))) own
    ∙ ap (λ xs. all_before ways (rules.exits_of_clauses g u (clauses_of (map clause_tree xs)))) (sym next)
    ∙ h
