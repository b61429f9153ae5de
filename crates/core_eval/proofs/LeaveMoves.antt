-- What goes on at the end of a statement.
use Rattle.std.specs.Prelude.{if◌then◌else◌, nat_eq, option_map, drop}
use Rattle.std.proofs.lemmas.Bool.Decides.{nat_tests}
use Rattle.std.proofs.Common.{◌≡◌, ℕ, suc, ◌+◌, ◌≤◌, Bool, true, false, Option, Some, None, List, [], ◌∷◌, refl, ap, ◌∙◌, sym, arith}
use Rattle.step_trees.specs.Trees.{Says}
use Rattle.core_meaning.specs.Memory as memory
use Rattle.core_meaning.specs.Memory.{Own, Born, Dead, Content, Memory, is_live, with_standing}
use Rattle.core_meaning.specs.Core.{Statements}
use Rattle.core_meaning.specs.Steps as steps
use Rattle.core_meaning.specs.Steps.{Config, set_temp, with_temp, with_memory, Exit, Step, stuck}
use Rattle.core_meaning.specs.Meaning.{with_results, status_of}
use Rattle.core_eval.specs.declared.value.Value.{Value}
use Rattle.core_eval.specs.declared.value.Value.TheVariants as value
use Rattle.core_eval.specs.declared.pending.Returned.{Returned}
use Rattle.core_eval.specs.declared.pending.Returned.TheVariants as returned
use Rattle.core_eval.specs.Values.{content_of, bound_value, temp_of, truth_of}
use Rattle.core_eval.specs.Blocks.{Activation, position_of}
use Rattle.core_eval.specs.Pendings.{
  Follow,
  Leave,
  Wait,
  Then,
  Test,
  Body,
  Breakable,
  Caller,
  Saved,
  Next,
  Go,
  TurnDue,
  Over,
  Wrong,
  Mark,
  optional_value,
  word_returned,
  rest_of,
  coming,
}
use Rattle.core_eval.specs.Standing.{Known, Agrees, Stands, AreNested, AreOwned, are_as_many, set_temps, Takes}
use Rattle.core_eval.specs.Costs.{next_cost, IsMove}
use Rattle.core_eval.proofs.Memories.{other_number, shows_standing}
use Rattle.core_eval.proofs.Nested.{nested_still}
use Rattle.core_eval.proofs.Owned.{owned_still}
use Rattle.core_eval.proofs.Born.{born_kept}
use Rattle.core_eval.proofs.Moves.{all_stand, goes_here}
use Rattle.core_eval.proofs.EnterMoves.{same_state, branches}

-- not the end of the statements before
abbrev pub IsEarly : Exit → Type 0
IsEarly steps.Falls = ⊥
IsEarly _ = Unit {0}

-- no return
abbrev pub IsNoReturn : Exit → Type 0
IsNoReturn (steps.Returns vs) = ⊥
IsNoReturn _ = Unit {0}

-- what is known does not tell whether a loop, or the statements after one, wait behind it
behind : (w : Wait) (known : Known) (ws : List Wait) (marks : List Mark) (c : Config) → Agrees known (w ∷ ws) marks c
    → (AreNested c.memory c.memory.activations c.blocks known.base known.blocks (w ∷ ws) marks
    → AreNested c.memory c.memory.activations c.blocks known.base known.blocks ws marks)
    → (AreOwned c.memory c.memory.calls c.own known.owns (w ∷ ws) marks → AreOwned c.memory c.memory.calls c.own known.owns ws marks)
    → Agrees known ws marks c
behind w known ws marks c h drops keeps =
    record {
      temps = h.temps;
      fresh = h.fresh;
      globals = h.globals;
      nested = drops h.nested;
      entered = h.entered;
      live = h.live;
      owned = keeps h.owned;
      called = h.called;
      values_live = h.values_live;
      born = h.born;
    }

-- ---- results

results_are : (ts : List ℕ) (vs : List Content) (c : Config) (next : Config → Step) → are_as_many ts vs ≡ true
    → with_results ts vs c next ≡ next (record c { temps = set_temps ts vs c.temps })
results_are [] [] c next e = refl
results_are [] (v ∷ vs) c next e = cc
results_are (t ∷ ts) [] c next e = cc
results_are (t ∷ ts) (v ∷ vs) c next e = results_are ts vs (with_temp t v c) next e

results_unfit : (ts : List ℕ) (vs : List Content) (c : Config) (next : Config → Step) → are_as_many ts vs ≡ false → with_results ts vs c next ≡ stuck
results_unfit [] [] c next e = cc
results_unfit [] (v ∷ vs) c next e = refl
results_unfit (t ∷ ts) [] c next e = refl
results_unfit (t ∷ ts) (v ∷ vs) c next e = results_unfit ts vs (with_temp t v c) next e

set_same : (ts : List ℕ) (vs : List Content) (temps temps' : ℕ → Content) → ((k : ℕ) → temps k ≡ temps' k) → (k : ℕ)
    → set_temps ts vs temps k ≡ set_temps ts vs temps' k
set_same [] vs temps temps' h k = h k
set_same (t ∷ ts) [] temps temps' h k = h k
set_same (t ∷ ts) (v ∷ vs) temps temps' h k =
    set_same ts vs (set_temp t v temps) (set_temp t v temps') (λ l. ap (λ x. if nat_eq l t then v else x) (h l)) k

module _ (known : Known) (ws : List Wait) where
  -- ---- loops

  module _ (test : Statements) (flag : ℕ) (body : Statements) where
    pub test_leaves : (exit : Exit) → IsEarly exit → IsMove (Leave exit) (Test test flag body ∷ ws) known (Go (Leave exit)) ws known
    test_leaves steps.Falls early = absurd early
    test_leaves steps.Breaks early =
        same_state (Leave steps.Breaks) (Test test flag body ∷ ws) (Go (Leave steps.Breaks)) ws known
        (λ main marks c h. (behind (Test test flag body) known ws marks c h (λ n. n) (λ n. n), refl)) (omega arith)
    test_leaves steps.Continues early =
        same_state (Leave steps.Continues) (Test test flag body ∷ ws) (Go (Leave steps.Continues)) ws known
        (λ main marks c h. (behind (Test test flag body) known ws marks c h (λ n. n) (λ n. n), refl)) (omega arith)
    test_leaves (steps.Returns vs) early =
        same_state (Leave (steps.Returns vs)) (Test test flag body ∷ ws) (Go (Leave (steps.Returns vs))) ws known
        (λ main marks c h. (behind (Test test flag body) known ws marks c h (λ n. n) (λ n. n), refl)) (omega arith)

    module _ (v : Value) (read : content_of v ≡ temp_of known.temps flag) where
      pub turn_comes : truth_of v ≡ Some true → IsMove (Leave steps.Falls) (Test test flag body ∷ ws) known (TurnDue test flag body) ws known
      turn_comes is =
          same_state (Leave steps.Falls) (Test test flag body ∷ ws) (TurnDue test flag body) ws known
          (λ main marks c h. (
            behind (Test test flag body) known ws marks c h (λ n. n) (λ n. n),
            branches (c.temps flag) v (Some true) _ _
                (h.temps flag ∙ sym read) is,
          )) (omega arith)

      pub loop_ends : truth_of v ≡ Some false → IsMove (Leave steps.Falls) (Test test flag body ∷ ws) known (Go (Leave steps.Falls)) ws known
      loop_ends is =
          same_state (Leave steps.Falls) (Test test flag body ∷ ws) (Go (Leave steps.Falls)) ws known
          (λ main marks c h. (
            behind (Test test flag body) known ws marks c h (λ n. n) (λ n. n),
            branches (c.temps flag) v (Some false) _ _
                (h.temps flag ∙ sym read) is,
          )) (omega arith)

      pub test_wrong : truth_of v ≡ None → IsMove (Leave steps.Falls) (Test test flag body ∷ ws) known Wrong ws known
      test_wrong is =
          same_state (Leave steps.Falls) (Test test flag body ∷ ws) Wrong ws known
          (λ main marks c h. (
            behind (Test test flag body) known ws marks c h (λ n. n) (λ n. n),
            branches (c.temps flag) v None _ _ (h.temps flag ∙ sym read) is,
          ))
          (omega arith)

    again_as : (w : Wait) (main : ℕ) (marks : List Mark) (c : Config) → Agrees known (Body test flag body ∷ ws) marks c
        → Agrees known (Test test flag body ∷ ws) marks c
    again_as w main marks c h =
        record {
          temps = h.temps;
          fresh = h.fresh;
          globals = h.globals;
          nested = h.nested;
          entered = h.entered;
          live = h.live;
          owned = h.owned;
          called = h.called;
          values_live = h.values_live;
          born = h.born;
        }

    pub turn_falls : IsMove (Leave steps.Falls) (Body test flag body ∷ ws) known (Go (Follow test)) (Test test flag body ∷ ws) known
    turn_falls =
        same_state (Leave steps.Falls) (Body test flag body ∷ ws) (Go (Follow test)) (Test test flag body ∷ ws) known
        (λ main marks c h. (again_as (Body test flag body) main marks c h, refl)) (omega arith)

    pub turn_continues : IsMove (Leave steps.Continues) (Body test flag body ∷ ws) known (Go (Follow test)) (Test test flag body ∷ ws) known
    turn_continues =
        same_state (Leave steps.Continues) (Body test flag body ∷ ws) (Go (Follow test)) (Test test flag body ∷ ws) known
        (λ main marks c h. (again_as (Body test flag body) main marks c h, refl)) (omega arith)

    pub turn_breaks : IsMove (Leave steps.Breaks) (Body test flag body ∷ ws) known (Go (Leave steps.Falls)) ws known
    turn_breaks =
        same_state (Leave steps.Breaks) (Body test flag body ∷ ws) (Go (Leave steps.Falls)) ws known
        (λ main marks c h. (behind (Body test flag body) known ws marks c h (λ n. n) (λ n. n), refl)) (omega arith)

    pub turn_returns : (vs : List Content) → IsMove (Leave (steps.Returns vs)) (Body test flag body ∷ ws) known (Go (Leave (steps.Returns vs))) ws known
    turn_returns vs =
        same_state (Leave (steps.Returns vs)) (Body test flag body ∷ ws) (Go (Leave (steps.Returns vs))) ws known
        (λ main marks c h. (behind (Body test flag body) known ws marks c h (λ n. n) (λ n. n), refl)) (omega arith)

  -- ---- what waits within a function that returns

  pub then_returns : (ss : Statements) (vs : List Content) → IsMove (Leave (steps.Returns vs)) (Then ss ∷ ws) known (Go (Leave (steps.Returns vs))) ws known
  then_returns ss vs =
      same_state (Leave (steps.Returns vs)) (Then ss ∷ ws) (Go (Leave (steps.Returns vs))) ws known
      (λ main marks c h. (behind (Then ss) known ws marks c h (λ n. n) (λ n. n), refl)) (omega arith)

  pub breakable_returns : (vs : List Content) → IsMove (Leave (steps.Returns vs)) (Breakable ∷ ws) known (Go (Leave (steps.Returns vs))) ws known
  breakable_returns vs =
      same_state (Leave (steps.Returns vs)) (Breakable ∷ ws) (Go (Leave (steps.Returns vs))) ws known
      (λ main marks c h. (behind Breakable known ws marks c h (λ n. n) (λ n. n), refl)) (omega arith)

  -- ---- the caller goes on

  module _ (results : List ℕ) (f : ℕ) (saved : Saved) where
    -- what is known of the caller
    abbrev pub back : Known
    back = record known { temps = saved.temps; base = saved.base; owns = drop 1 known.owns }

    -- the caller's state
    abbrev resumed : Mark → Config → Config
    resumed mark c = with_memory (with_standing c.memory (Own mark.number) Dead) mark.outside

    -- the innermost function is over
    over_agrees : (mark : Mark) (marks : List Mark) (c : Config) (owns : List Activation) → known.owns ≡ owns
        → AreOwned c.memory c.memory.calls c.own owns (Caller results f saved ∷ ws) (mark ∷ marks)
        → Agrees known (Caller results f saved ∷ ws) (mark ∷ marks) c
        → Agrees (record back { owns = drop 1 owns }) ws marks (resumed mark c)
    over_agrees mark marks c [] is owned h = absurd owned
    over_agrees mark marks c (o ∷ owns) is (same, number, below, shows, others) h =
        let (none, outside, held, rest) = h.nested in
        let m' = with_standing c.memory (Own mark.number) Dead in
        record {
          temps = held;
          fresh = record { empty = h.fresh.empty; missing = h.fresh.missing; no_values = h.fresh.no_values; no_value = h.fresh.no_value };
          globals = shows_standing h.globals (Own mark.number) refl Dead;
          nested = nested_still c.memory m' c.memory.activations c.memory.activations mark.outside.blocks saved.base known.blocks ws marks
              (omega arith) (λ k os below s. shows_standing s (Own mark.number) refl Dead) rest;
          entered = h.entered;
          live = h.live;
          owned = owned_still c.memory m' c.own c.memory.calls mark.outside.own owns ws marks (omega (arith, below))
              (λ k os less s. shows_standing s (Own mark.number) (other_number k mark.number (omega (arith, less, same))) Dead) others;
          called = h.called;
          values_live = λ k gone. ended k (nat_eq k mark.number) refl gone;
          born = born_kept c.memory m' known.globals known.regions known.long_blocks h.born
              (record { births = refl; standing = λ d. refl; objects = λ d. refl; parts = λ d i k j. refl });
        }
      where
        ended : (k : ℕ) (t : Bool) → nat_eq k mark.number ≡ t → position_of owns k ≡ None
            → is_live (if nat_eq k mark.number then Dead else c.memory.standing (Own k)) ≡ false
        ended k true e gone = ap (λ b. is_live (if b then Dead else c.memory.standing (Own k))) e
        ended k false e gone =
            let other : nat_eq o.number k ≡ false = grind (arith, nat_tests, e, same, number) in
            ap (λ b. is_live (if b then Dead else c.memory.standing (Own k))) e
            ∙ h.values_live k (ap (λ os. position_of os k) is
            ∙ ap (λ t. if t then Some 0 else option_map suc (position_of owns k)) other ∙ ap (option_map suc) gone)

    resumed_agrees : (mark : Mark) (marks : List Mark) (c : Config) → Agrees known (Caller results f saved ∷ ws) (mark ∷ marks) c
        → Agrees back ws marks (resumed mark c)
    resumed_agrees mark marks c h = over_agrees mark marks c known.owns refl h.owned h

    -- where something waits, there is a mark for it
    marked : (next' : Next) (known' : Known) (task : Exit) → ((main : ℕ) (mark : Mark) (marks : List Mark) (c : Config)
        → Agrees known (Caller results f saved ∷ ws) (mark ∷ marks) c
        → Stands main (rest_of main (Caller results f saved ∷ ws) (mark ∷ marks) task c) next' ws known')
        → (main : ℕ) (marks : List Mark) (c : Config) → Agrees known (Caller results f saved ∷ ws) marks c
        → Stands main (rest_of main (Caller results f saved ∷ ws) marks task c) next' ws known'
    marked next' known' task goes main [] c h = absurd h.nested
    marked next' known' task goes main (mark ∷ marks) c h = goes main mark marks c h

    -- out of order, without a return
    pub caller_wrong : (exit : Exit) → IsNoReturn exit → IsMove (Leave exit) (Caller results f saved ∷ ws) known Wrong ws back
    caller_wrong exit no_return = record {
      still = all_stand (Go (Leave exit)) (Caller results f saved ∷ ws) known Wrong ws back (marked Wrong back exit (λ main mark marks c h.
          goes_here main marks (resumed mark c) _ Wrong ws back (resumed_agrees mark marks c h) (wrong_exit exit no_return main mark marks c)));
      fewer = omega arith;
    }
      where
        wrong_exit : (exit : Exit) → IsNoReturn exit → (main : ℕ) (mark : Mark) (marks : List Mark) (c : Config)
            → rest_of main (Caller results f saved ∷ ws) (mark ∷ marks) exit c ≡ stuck
        wrong_exit steps.Falls h main mark marks c = refl
        wrong_exit steps.Breaks h main mark marks c = refl
        wrong_exit steps.Continues h main mark marks c = refl
        wrong_exit (steps.Returns vs) h main mark marks c = absurd h

  -- with a result that its temporaries take
  pub result_taken : (ts : List ℕ) (f : ℕ) (vs : List Content) (saved : Saved) (temps : List Value) → are_as_many ts vs ≡ true → Takes ts vs saved.temps temps
      → IsMove (Leave (steps.Returns vs)) (Caller ts f saved ∷ ws) known (Go (Leave steps.Falls)) ws
      (record known { temps = temps; base = saved.base; owns = drop 1 known.owns })
  result_taken ts f vs saved temps fits takes = record {
    still = all_stand (Go (Leave (steps.Returns vs))) (Caller ts f saved ∷ ws) known (Go (Leave steps.Falls)) ws
        (record known { temps = temps; base = saved.base; owns = drop 1 known.owns })
        (marked ts f saved (Go (Leave steps.Falls)) _ (steps.Returns vs) (λ main mark marks c h.
        let was = resumed_agrees ts f saved mark marks c h in
        record {
          said = steps.Returned f ∷ [];
          silent = (tt, tt);
          marks = marks;
          config = record (resumed ts f saved mark c) { temps = set_temps ts vs mark.outside.temps };
          agrees = record {
            temps = λ k. set_same ts vs mark.outside.temps (temp_of saved.temps) was.temps k ∙ sym (takes k);
            fresh = was.fresh;
            globals = was.globals;
            nested = was.nested;
            entered = was.entered;
            live = was.live;
            owned = was.owned;
            called = was.called;
            values_live = was.values_live;
            born = was.born;
          };
          same = ap (λ s. Says (steps.Returned f) s) (results_are ts vs (resumed ts f saved mark c) (rest_of main ws marks steps.Falls) fits);
        }));
    fewer = omega arith;
  }

  -- with a result of another number of words
  pub result_unfit : (ts : List ℕ) (f : ℕ) (vs : List Content) (saved : Saved) → are_as_many ts vs ≡ false
      → IsMove (Leave (steps.Returns vs)) (Caller ts f saved ∷ ws) known Wrong ws (back ts f saved)
  result_unfit ts f vs saved unfit = record {
    still = all_stand (Go (Leave (steps.Returns vs))) (Caller ts f saved ∷ ws) known Wrong ws (back ts f saved)
        (marked ts f saved Wrong (back ts f saved) (steps.Returns vs) (λ main mark marks c h. record {
          said = steps.Returned f ∷ [];
          silent = (tt, tt);
          marks = marks;
          config = resumed ts f saved mark c;
          agrees = resumed_agrees ts f saved mark marks c h;
          same = ap (λ s. Says (steps.Returned f) s) (results_unfit ts vs (resumed ts f saved mark c) (rest_of main ws marks steps.Falls) unfit);
        }));
    fewer = omega arith;
  }

-- ---- `main` is left

-- without a return
pub main_wrong : (known : Known) (exit : Exit) → IsNoReturn exit → IsMove (Leave exit) [] known Wrong [] known
main_wrong known steps.Falls h = same_state (Leave steps.Falls) [] Wrong [] known (λ main marks c k. (k, refl)) (omega arith)
main_wrong known steps.Breaks h = same_state (Leave steps.Breaks) [] Wrong [] known (λ main marks c k. (k, refl)) (omega arith)
main_wrong known steps.Continues h = same_state (Leave steps.Continues) [] Wrong [] known (λ main marks c k. (k, refl)) (omega arith)
main_wrong known (steps.Returns vs) h = absurd h

-- what comes of the word that it returned
abbrev pub ends_as : Option ℕ → Next
ends_as None = Wrong
ends_as (Some n) = Over n

no_status : (u v : Content) (vs : List Content) (m : Memory) → status_of (u ∷ v ∷ vs) m ≡ stuck
no_status memory.Blank v vs m = refl
no_status (memory.Word n) v vs m = refl
no_status memory.Null v vs m = refl
no_status (memory.Pointer s b) v vs m = refl
no_status (memory.Birth d) v vs m = refl

status_is : (r : Option Returned) (m : Memory) (next : Exit → Config → Step) (c : Config)
    → status_of (optional_value r) m ≡ coming (ends_as (word_returned r)) next c
status_is None m next c = refl
status_is (Some (returned.One value.Blank)) m next c = refl
status_is (Some (returned.One (value.Word n))) m next c = refl
status_is (Some (returned.One value.Null)) m next c = refl
status_is (Some (returned.One (value.Pointer p))) m next c = refl
status_is (Some (returned.One (value.Birth d))) m next c = refl
status_is (Some (returned.Three u v w)) m next c = no_status (content_of u) (content_of (bound_value v)) (content_of (bound_value w) ∷ []) m

module _ (known : Known) where
  pub main_ends : (r : Option Returned) (o : Option ℕ) → word_returned r ≡ o
      → IsMove (Leave (steps.Returns (optional_value r))) [] known (ends_as o) [] known
  main_ends r o is = record {
    still = all_stand (Go (Leave (steps.Returns (optional_value r)))) [] known (ends_as o) [] known (λ main marks c h. record {
      said = steps.Returned main ∷ [];
      silent = (tt, tt);
      marks = marks;
      config = c;
      agrees = h;
      same = ap (λ s. Says (steps.Returned main) s) (status_is r (with_standing c.memory (Own 0) Dead) (rest_of main [] marks) c
          ∙ ap (λ o. coming (ends_as o) (rest_of main [] marks) c) is);
    });
    fewer = none_left o;
  }
    where
      none_left : (o : Option ℕ) → next_cost (ends_as o) + 0 ≤ 0
      none_left None = omega arith
      none_left (Some n) = omega arith
