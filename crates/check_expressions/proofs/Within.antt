-- What is known of names within what is around.
use Rattle.std.proofs.Common.{◌≡◌, ℕ, Bool, true, false, List, [], Option, Some, refl, sym, ◌∙◌, ap, subst}
use Rattle.std.specs.Borrow.{Bor}
use Rattle.std.specs.Prelude.{bytes_eq, ◌||◌, if◌then◌else◌}
use Rattle.cyc_tree.specs.Tree.{Name}
use Rattle.source_typing.specs.Making.{Goal, enclosed, inside, with_counter}
use Rattle.source_typing.specs.Scope.{Env, meant}
use Rattle.source_typing.specs.Tables.{Counter, OfValue}
use Rattle.source_typing.specs.Verdicts.{Verdict}
use Rattle.check_scopes.specs.Knows.{Knows, means_in}
use Rattle.check_scopes.specs.Means.{Means}
use Rattle.check_scopes.specs.Means as means
use Rattle.check_scopes.specs.declared.meaning.Meaning.{Meaning}
use Rattle.check_scopes.specs.declared.meaning.Meaning.TheVariants as code
use Rattle.check_scopes.specs.declared.scope.Scope.{Scope}
use Rattle.check_scopes.proofs.Keeping.{sees}
use Rattle.check_calls.specs.Enclosings.{enclosing_of}
use Rattle.check_expressions.specs.Within.{IsIn, is_counter, means_inside}
use Rattle.check_expressions.specs.declared.around.Around.{Around}

-- nothing is around a whole expression
pub nothing_around : {s : Scope} {a : Around} {g : Env} → Knows s g → a.counters.now ≡ [] → g.enclosing ≡ enclosing_of a.enclosing → IsIn s a g
nothing_around {s} {a} {g} k none e = record {
  sees = sees k;
  names = λ x. subst (λ cs. Means (meant g x) (if is_counter cs x then Some code.Counter else means_in s x)) (sym none) (k.names x);
  enclosing = e;
}

-- what a name means that is the index or not
by_index : (s : Scope) (g : Env) (counters : List (Bor (List ℕ))) (x : List ℕ) (here there : Bool)
    → Means (meant g x) (if here then Some code.Counter else means_in s x)
    → Means (if there then Some (OfValue Counter) else meant g x) (if here || there then Some code.Counter else means_in s x)
by_index s g counters x true true is = means.Means.CounterValue
by_index s g counters x true false is = is
by_index s g counters x false true is = means.Means.CounterValue
by_index s g counters x false false is = is

-- the index of an array is in scope in its element
pub counter_around : {s : Scope} {a : Around} {g : Env} (b : Around) (index : Name) → IsIn s a g → b.enclosing ≡ a.enclosing
    → ((x : List ℕ) → is_counter b.counters.now x ≡ (is_counter a.counters.now x || bytes_eq index.text x)) → IsIn s b (with_counter index g)
counter_around {s} {a} {g} b index h e more = record {
  sees = record { tags = h.sees.tags; regions = h.sees.regions; lenient = h.sees.lenient };
  names = λ x. subst (λ c. Means (if bytes_eq index.text x then Some (OfValue Counter) else meant g x) (if c then Some code.Counter else means_in s x))
      (sym (more x)) (by_index s g a.counters.now x (is_counter a.counters.now x) (bytes_eq index.text x) (h.names x));
  enclosing = h.enclosing ∙ ap enclosing_of (sym e);
}

-- the same is in scope for what is made
pub inside_goal : {s : Scope} {a : Around} {g : Env} (b : Around) (v : Verdict Goal) → IsIn s a g → b.counters ≡ a.counters
    → enclosed v ≡ enclosing_of b.enclosing
    → IsIn s b (inside v g)
inside_goal {s} {a} {g} b v h same e = record {
  sees = record { tags = h.sees.tags; regions = h.sees.regions; lenient = h.sees.lenient };
  names = λ x. subst (λ c. Means (meant g x) (if is_counter c.now x then Some code.Counter else means_in s x)) (sym same) (h.names x);
  enclosing = e;
}

-- what a name means, by the rules
pub named_around : (s : Scope) (a : Around) (x : List ℕ) (m : Option Meaning) → m ≡ means_inside a s x → (g : Env) → IsIn s a g → Means (meant g x) m
named_around s a x m e g h = subst (λ o. Means (meant g x) o) (sym e) (h.names x)
