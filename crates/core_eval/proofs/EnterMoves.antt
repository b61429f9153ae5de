-- The first move of each statement.
use Rattle.std.specs.Prelude.{if◌then◌else◌, nat_eq, not}
use Rattle.std.proofs.Common.{◌≡◌, ℕ, ◌+◌, ◌≤◌, Bool, true, false, Option, Some, None, List, ◌∷◌, refl, ap, ◌∙◌, sym, arith}
use Rattle.core_meaning.specs.Memory.{Content}
use Rattle.core_meaning.specs.Core as core
use Rattle.core_meaning.specs.Core.{Statements, NoStatements, MoreStatements}
use Rattle.core_meaning.specs.Steps.{Config, Step, stuck}
use Rattle.core_meaning.specs.Meaning.{branch}
use Rattle.core_eval.specs.declared.value.Value.{Value}
use Rattle.core_eval.specs.declared.value.Value.TheVariants as value
use Rattle.core_eval.specs.Values.{content_of, temp_of, truth_of}
use Rattle.core_eval.specs.Pendings.{Task, Follow, Execute, Wait, Breakable, Next, Go, Wrong, Mark, rest_of, coming}
use Rattle.core_eval.specs.Standing.{Known, Agrees}
use Rattle.core_eval.specs.Costs.{next_cost, task_cost, waits_cost, IsMove}
use Rattle.core_eval.proofs.Moves.{all_stand, goes_here}

-- ---- conditions

abbrev pub choice_step : Step → Step → Option Bool → Step
choice_step these those None = stuck
choice_step these those (Some b) = (if b then these else those)

word_choice : (b : Bool) (these those : Step) → (if b then those else these) ≡ (if not b then these else those)
word_choice true these those = refl
word_choice false these those = refl

branch_is : (v : Value) (these those : Step) → branch (content_of v) these those ≡ choice_step these those (truth_of v)
branch_is value.Blank these those = refl
branch_is (value.Word n) these those = word_choice (nat_eq n 0) these those
branch_is value.Null these those = refl
branch_is (value.Pointer p) these those = refl
branch_is (value.Birth d) these those = refl

pub branches : (x : Content) (v : Value) (b : Option Bool) (these those : Step) → x ≡ content_of v → truth_of v ≡ b → branch x these those
    ≡ choice_step these those b
branches x v b these those is truth = ap (λ y. branch y these those) is ∙ branch_is v these those ∙ ap (choice_step these those) truth

-- ---- moves that change nothing that is known

-- the same state, in which something else is next
pub same_state : (task : Task) (ws : List Wait) (next : Next) (ws' : List Wait) (known : Known)
    → ((main : ℕ) (marks : List Mark) (c : Config) → Agrees known ws marks c
    → Agrees known ws' marks c × (coming (Go task) (rest_of main ws marks) c ≡ coming next (rest_of main ws' marks) c))
    → next_cost next + waits_cost ws' ≤ task_cost task + waits_cost ws → IsMove task ws known next ws' known
same_state task ws next ws' known goes fewer = record {
  still = all_stand (Go task) ws known next ws' known (λ main marks c h. let g = goes main marks c h in goes_here main marks c _ next ws' known g.0 g.1);
  fewer = fewer;
}

module _ (known : Known) (ws : List Wait) where
  pub breakable_enters : (body : Statements) → IsMove (Execute (core.Leave body)) ws known (Go (Follow body)) (Breakable ∷ ws) known
  breakable_enters body =
      same_state (Execute (core.Leave body)) ws (Go (Follow body)) (Breakable ∷ ws) known
      (λ main marks c h. (
        record {
          temps = h.temps;
          fresh = h.fresh;
          globals = h.globals;
          nested = h.nested;
          entered = h.entered;
          live = h.live;
          owned = h.owned;
          called = h.called;
          values_live = h.values_live;
          born = h.born;
        },
        refl,
      )) (omega arith)

  module _ (t : ℕ) (v : Value) (read : content_of v ≡ temp_of known.temps t) where
    pub if_goes : (these those : Statements) (b : Bool) → truth_of v ≡ Some b
        → IsMove (Execute (core.If t these those)) ws known (Go (Follow (if b then these else those))) ws known
    if_goes these those true is =
        same_state (Execute (core.If t these those)) ws (Go (Follow these)) ws known
        (λ main marks c h. (h, branches (c.temps t) v (Some true) _ _ (h.temps t ∙ sym read) is)) (omega arith)
    if_goes these those false is =
        same_state (Execute (core.If t these those)) ws (Go (Follow those)) ws known
        (λ main marks c h. (h, branches (c.temps t) v (Some false) _ _ (h.temps t ∙ sym read) is)) (omega arith)

    pub if_wrong : (these those : Statements) → truth_of v ≡ None → IsMove (Execute (core.If t these those)) ws known Wrong ws known
    if_wrong these those is =
        same_state (Execute (core.If t these those)) ws Wrong ws known
        (λ main marks c h. (h, branches (c.temps t) v None _ _ (h.temps t ∙ sym read) is)) (omega arith)
