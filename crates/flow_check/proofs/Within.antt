-- What is known of locals within what is around.
use Rattle.std.proofs.Common.{Bool, List, Option, Some, [], ap, arith, false, length, refl, sym, subst, true, ℕ, ◌+◌, ◌∙◌, ◌≡◌, if◌then◌else◌}
use Rattle.std.specs.Prelude.{bytes_eq, ◌||◌}
use Rattle.cyc_tree.specs.Tree.{Name}
use Rattle.source_typing.specs.Making.{Goal, enclosed, inside, with_counter}
use Rattle.source_typing.specs.Scope.{Env, Local, find_local}
use Rattle.source_typing.specs.Tables.{Counter}
use Rattle.source_typing.specs.Verdicts.{Verdict}
use Rattle.flow_summaries.specs.Uses.{number_of}
use Rattle.check_scopes.specs.Knows.{Knows}
use Rattle.check_scopes.specs.Linked.{position_of}
use Rattle.check_scopes.specs.Locals.{find_what}
use Rattle.check_scopes.specs.Matching.{AreLocals}
use Rattle.check_scopes.specs.declared.locals.What.{What}
use Rattle.check_scopes.specs.declared.scope.Scope.{Scope}
use Rattle.check_calls.specs.Enclosings.{enclosing_of}
use Rattle.check_expressions.proofs.Within as judged
use Rattle.check_expressions.specs.Within.{is_counter}
use Rattle.check_expressions.specs.declared.around.Around.{Around}
use Rattle.flow_check.proofs.Located.{same_count, same_local}
use Rattle.flow_check.specs.Within.{IsWithin, SameLocal}

-- nothing is around a whole expression
pub nothing_around : {s : Scope} {a : Around} {g : Env} → Knows s g → AreLocals s.locals g.locals → a.counters.now ≡ [] → g.enclosing ≡ enclosing_of a.enclosing
    → IsWithin s a g
nothing_around {s} {a} {g} k ls none e = record {
  scope = judged.nothing_around k none e;
  locals = λ x. subst (λ cs. SameLocal (is_counter cs x) (find_what s.locals x) (position_of s.locals x) (find_local g.locals x)
      (number_of g.locals x)) (sym none)
      (same_local x s.locals g.locals ls);
  count = subst (λ cs. length g.locals ≡ length cs + length s.locals) (sym none) (omega (arith, same_count s.locals g.locals ls));
}

-- the same is in scope for what is made
pub inside_goal : {s : Scope} {a : Around} {g : Env} (b : Around) (v : Verdict Goal) → IsWithin s a g → b.counters ≡ a.counters
    → enclosed v ≡ enclosing_of b.enclosing → IsWithin s b (inside v g)
inside_goal {s} {a} {g} b v h same e = record {
  scope = judged.inside_goal b v h.scope same e;
  locals = λ x. subst (λ c. SameLocal (is_counter c.now x) (find_what s.locals x) (position_of s.locals x) (find_local g.locals x)
      (number_of g.locals x)) (sym same)
      (h.locals x);
  count = h.count ∙ ap (λ c. length c.now + length s.locals) (sym same);
}

-- a name that is the index or not
by_index : (l : Local) (w : Option What) (p : Option ℕ) (o : Option Local) (m n : Option ℕ) (here there : Bool) → l.what ≡ Counter → SameLocal here w p o n
    → SameLocal (here || there) w p (if there then Some l else o) (if there then m else n)
by_index l w p o m n true true c h = c
by_index l w p o m n true false c h = h
by_index l w p o m n false true c h = c
by_index l w p o m n false false c h = h

-- the index of an array is one more local in its element
pub counter_around : {s : Scope} {a : Around} {g : Env} (b : Around) (index : Name) → IsWithin s a g → b.enclosing ≡ a.enclosing
    → ((x : List ℕ) → is_counter b.counters.now x ≡ (is_counter a.counters.now x || bytes_eq index.text x))
    → length b.counters.now ≡ length a.counters.now + 1 → IsWithin s b (with_counter index g)
counter_around {s} {a} {g} b index h e more one = record {
  scope = judged.counter_around b index h.scope e more;
  locals = λ x. let l : Local = record { name = index.text; what = Counter; block = g.block } in
      subst (λ c. SameLocal c (find_what s.locals x) (position_of s.locals x) (if bytes_eq index.text x then Some l else find_local g.locals x)
      (if bytes_eq index.text x then Some (length g.locals) else number_of g.locals x)) (sym (more x))
      (by_index l (find_what s.locals x) (position_of s.locals x) (find_local g.locals x) (Some (length g.locals)) (number_of g.locals x)
      (is_counter a.counters.now x) (bytes_eq index.text x) refl (h.locals x));
  count = omega (arith, h.count, one);
}
