-- `&&` and `||`: the rules join operands from the left, and the meaning goes on to the right.
use Rattle.std.proofs.Common.{◌≡◌, ℕ, Bool, true, false, List, [], refl, sym, subst}
use Rattle.std.specs.Prelude.{length}
use Rattle.cyc_tree.specs.Tree.{Expressions, NoExpressions, MoreExpressions}
use Rattle.source_meaning.specs.Memory.{Region, Memory}
use Rattle.source_meaning.specs.Steps.{Scope, Step, Act, ◌>>=◌, give, choose}
use Rattle.source_meaning.specs.Places.{Sense}
use Rattle.source_meaning.specs.Calls.{truth, all_true, any_true}
use Rattle.source_meaning.specs.Expressions.{sense, senses}
use Rattle.source_typing.specs.Flow.{use_of, use_tests}
use Rattle.source_typing.specs.Moves.{Use, value_use, tested_use, maybe}
use Rattle.source_typing.specs.Scope.{Env, Enclosing}
use Rattle.source_typing.specs.States.{States, Passed}
use Rattle.flow_summaries.specs.Expressions.{uses_of}
use Rattle.flow_summaries.specs.Effects.{Effects, states_after}
use Rattle.flow_summaries.proofs.Expressions.{uses_told}
use Rattle.type_proof.specs.Flat.{Tables}
use Rattle.type_proof.proofs.invariant.Growth.{grows_refl}
use Rattle.type_proof.proofs.invariant.Runs.{Safe}
use Rattle.type_proof.proofs.invariant.Names.{NameOf}
use Rattle.type_proof.proofs.invariant.Standing.{AreKinds, all_met_first, all_met_second, are_kinds, kinds_after}
use Rattle.type_proof.proofs.invariant.Sound.{none_first, none_second}
use Rattle.type_proof.proofs.expressions.Operands.{Tells, TellsBy, tells_choice}
use Rattle.type_proof.proofs.expressions.Fixed.{within}

-- a further operand, of `&&` or of `||`
abbrev pub further : Bool → Bool → Act Bool → Act Bool
further true t more = choose t more (give false)
further false t more = choose t (give true) more

-- all operands of one of the two
abbrev pub tests : Bool → List Sense → Act Bool
tests true es = all_true es
tests false es = any_true es

-- what tests do to the states is one act
pub tests_value : (g : Env) (p : States → Passed) (es : Expressions) → use_tests g (value_use p) es ≡ value_use (use_tests g (value_use p) es).look
tests_value g p NoExpressions = refl
tests_value g p (MoreExpressions e es) = tests_value g (λ s. maybe (p s) (use_of g e).look) es

module _ (n : ℕ) (d : Tables) (g : Env) (scope : Scope) (f : NameOf → Region) (b : ℕ) (low : ℕ) (i : Enclosing) where
  -- it may be evaluated or not
  maybe_tells : (c : Bool) (p q : States → Passed) (x : Effects) (act more : Act Bool) → TellsBy n d g scope f b low p act → TellsBy n d g scope f b low q more
      → ((s : States) → (q s).states ≡ states_after (length g.locals) x s)
      → TellsBy n d g scope f b low (λ s. maybe (p s) q) (act >>= λ t. further c t more)
  maybe_tells c p q x act more ha hm told s e = by c
    where
      s1 : States
      s1 = (p s).states

      s2 : States
      s2 = (maybe (p s) q).states

      first : Tells n d g scope f b low s s1 act
      first = ha s (none_first (p s).faults (q (p s).states).faults e)

      done : Tells n d g scope f b low s1 s2 more
      done = λ k w m j y. record {
        by = λ next r. (hm s1 (none_second (p s).faults (q (p s).states).faults e) k w m j y).by next (λ t m2 z. r t m2 (record {
          ghost = z.ghost;
          inv = z.inv;
          grows = z.grows;
          holds = all_met_second g.tables d f g.locals scope.locals s1 (q s1).states z.ghost m2 (are_kinds g.tables d f g.locals scope.locals s1 w m y.stands)
              z.holds;
        }));
      }

      skipped : (t : Bool) → Tells n d g scope f b low s1 s2 (give t)
      skipped t = λ k w m j y. record {
        by = λ next r. r t m (record {
          ghost = w;
          inv = j;
          grows = grows_refl k b w m;
          holds = all_met_first g.tables d f g.locals scope.locals s1 (q s1).states w m
              (subst (λ (a : States). AreKinds g.tables d f g.locals a) (sym (told s1))
              (kinds_after g.tables d f (length g.locals) x g.locals s1 (are_kinds g.tables d f g.locals scope.locals s1 w m y.stands)))
              y.stands;
        });
      }

      by : (c : Bool) → Tells n d g scope f b low s s2 (act >>= λ t. further c t more)
      by true = tells_choice n d g scope f b low s s1 s2 act more (give false) first done (skipped false)
      by false = tells_choice n d g scope f b low s s1 s2 act (give true) more first (skipped true) done

  -- each operand tells, from any states from which it has no fault
  abbrev pub AllTell : Expressions → Type 0
  AllTell NoExpressions = Unit {0}
  AllTell (MoreExpressions e es) = TellsBy n d g scope f b low (use_of (within i g) e).look (truth (sense e scope)) × AllTell es

  pub all_tell : (c : Bool) (es : Expressions) (u : Use) (act : Act Bool) → TellsBy n d g scope f b low u.look act → AllTell es
      → TellsBy n d g scope f b low (use_tests (within i g) u es).look (act >>= λ t. further c t (tests c (senses es scope)))
  all_tell c NoExpressions u act h hs s e k w m j x = record {
    by = λ next r. (h s e k w m j x).by (λ t. further c t (tests c []) next) (λ t m1 y. by c t next m1 (r t m1 y));
  }
    where
      by : (c t : Bool) (next : Bool → Memory → Step) (m1 : Memory) → Safe n (next t m1) → Safe n (further c t (tests c []) next m1)
      by true true next m1 q = q
      by true false next m1 q = q
      by false true next m1 q = q
      by false false next m1 q = q
  all_tell c (MoreExpressions e es) u act h hs s z k w m j x = record {
    by = λ next r. subst (λ (y : Bool → Memory → Step). Safe n (act y m)) (λ a t. same c next t a)
        ((all_tell c es (tested_use u (use_of (within i g) e)) (act >>= λ t. further c t (truth (sense e scope)))
        (maybe_tells c u.look (use_of (within i g) e).look (uses_of (within i g) e).look.effects act (truth (sense e scope)) h hs.0
        (uses_told e (within i g)).look.states) hs.1 s z k w m j x).by next r);
  }
    where
      same : (c : Bool) (next : Bool → Memory → Step) (t : Bool)
          → further c t (truth (sense e scope)) (λ y. further c y (tests c (senses es scope)) next)
          ≡ further c t (tests c (senses (MoreExpressions e es) scope)) next
      same true next true = refl
      same true next false = refl
      same false next true = refl
      same false next false = refl
