-- What tests, and what `new` and `rnew` with a handle, denote, by what their operands do.
use Rattle.std.proofs.Common.{◌≡◌, ℕ, Bool, true, false, ◌⊎◌, inl, inr, List, [], ◌∷◌, ◌++◌, sym, ◌∙◌, ap, subst, ◌≤◌}
use Rattle.cyc_tree.specs.Tree as tree
use Rattle.cyc_tree.specs.Operands.{AreSome}
use Rattle.cyc_tree.specs.Tree.{Expression, Expressions, MoreExpressions, One, Array}
use Rattle.source_meaning.specs.Memory.{Region}
use Rattle.source_meaning.specs.Steps.{Scope, ◌>>=◌}
use Rattle.source_meaning.specs.Places.{Sense}
use Rattle.source_meaning.specs.Calls.{truth, tested, handle_maker}
use Rattle.source_meaning.specs.Expressions.{sense, senses, new_sense, new_in_sense}
use Rattle.source_meaning.specs.Making.{heap_maker}
use Rattle.source_typing.specs.Verdicts.{Verdict, Of, after}
use Rattle.source_typing.specs.Regions.{TheHeap}
use Rattle.source_typing.specs.Expressions.{judge, judge_made, judge_made_in}
use Rattle.source_typing.specs.Faults.{Fault}
use Rattle.source_typing.specs.Making as rules_of_making
use Rattle.source_typing.specs.Making.{Goal, To, goal_of, handled, enclosed, with_counter, inside}
use Rattle.source_typing.specs.Scope.{Env, Enclosing, Value}
use Rattle.source_typing.specs.Types.{StaticType, Int, is_testable}
use Rattle.source_typing.proofs.Inversion.{of_is, after_is, goal_is, array_is}
use Rattle.source_typing.specs.Flow.{use_of, use_tests, use_made}
use Rattle.source_typing.specs.Moves.{Use, nothing, maybe}
use Rattle.flow_summaries.specs.Expressions.{uses_of}
use Rattle.flow_summaries.proofs.Expressions.{uses_told}
use Rattle.type_proof.specs.Flat.{Tables}
use Rattle.source_typing.specs.Named.{Below, TypeBelow}
use Rattle.type_proof.proofs.invariant.Layouts.{agrees}
use Rattle.type_proof.proofs.invariant.Names.{NameOf}
use Rattle.type_proof.proofs.invariant.Sound.{none_first, none_second}
use Rattle.type_proof.proofs.expressions.Operands.{TellsBy}
use Rattle.type_proof.proofs.expressions.Testing.{further, tests, all_tell, tests_value}
use Rattle.type_proof.proofs.expressions.Fixed.{EnclosingBelow, within}
use Rattle.type_proof.proofs.Entries.{strictly}
use Rattle.type_proof.proofs.expressions.Makings.{Handled, handled_is, array_handled, heap_lives, aims_at_heap, denotes_aims, denotes_made}
use Rattle.type_proof.proofs.expressions.Counters.{counted_scope}
use Rattle.type_proof.proofs.expressions.Filled.{denotes_filled}
use Rattle.type_proof.proofs.expressions.WordRules.{Valued}
use Rattle.type_proof.proofs.expressions.Forms.{Denotes}
use Rattle.type_proof.proofs.expressions.Applied.{denotes_tested, denotes_tells}
use Rattle.type_proof.proofs.expressions.Settings.{Setting, Tested}

pub must : {A B : Type 0} → A ⊎ B → (B → ⊥) → A
must (inl a) n = a
must (inr x) n = absurd (n x)

pub still_first : {A : Type 0} (xs ys : List Fault) → A ⊎ (xs ++ ys ≡ []) → A ⊎ (xs ≡ [])
still_first xs ys (inl a) = inl a
still_first xs ys (inr e) = inr (none_first xs ys e)

pub still_second : {A : Type 0} (xs ys : List Fault) → A ⊎ (xs ++ ys ≡ []) → A ⊎ (ys ≡ [])
still_second xs ys (inl a) = inl a
still_second xs ys (inr e) = inr (none_second xs ys e)

module _ (n : ℕ) (d : Tables) (g : Env) (scope : Scope) (f : NameOf → Region) (b : ℕ) (low : ℕ) (setting : Setting n d g scope f) where
  -- `&&` and `||`
  pub tests_denote : (i : Enclosing) (every : Bool) (x e : Expression) (es : Expressions) (a v : Value)
      → Denotes n d g scope f b low a (use_of (within i g) x) (sense x scope) → Tested n d g scope f b low setting i a v (MoreExpressions e es)
      → AreSome (MoreExpressions e es)
      → Denotes n d g scope f b low v (use_tests (within i g) (use_of (within i g) x) (MoreExpressions e es))
      (tested (tests every (sense x scope ∷ senses (MoreExpressions e es) scope)))
  tests_denote i every x e es a v h r o =
      let q : (is_testable a.type ≡ true) × Valued v Int = r.some o in
      subst (λ (u : Use). Denotes n d g scope f b low v u (tested (tests every (sense x scope ∷ senses (MoreExpressions e es) scope))))
      (sym (tests_value (within i g) (λ s. maybe ((use_of (within i g) x).look s) (use_of (within i g) e).look) es))
      (denotes_tested n d g scope f b low v (use_tests (within i g) (use_of (within i g) x) (MoreExpressions e es)).look
      (tests every (sense x scope ∷ senses (MoreExpressions e es) scope)) q.1
      (by every (all_tell n d g scope f b low i every (MoreExpressions e es) (use_of (within i g) x) (truth (sense x scope))
      (denotes_tells n d g scope f b low a (use_of (within i g) x) (sense x scope) h q.0) r.others)))
    where
      by : (c : Bool) → TellsBy n d g scope f b low (use_tests (within i g) (use_of (within i g) x) (MoreExpressions e es)).look
          (truth (sense x scope) >>= λ t. further c t (tests c (senses (MoreExpressions e es) scope)))
          → TellsBy n d g scope f b low (use_tests (within i g) (use_of (within i g) x) (MoreExpressions e es)).look
          (tests c (sense x scope ∷ senses (MoreExpressions e es) scope))
      by true z = z
      by false z = z

  -- an operand, and an element, of a making in which they are judged
  abbrev pub Operand : Enclosing → Expression → Type 0
  Operand i c = (p : Value) → judge (within i g) c ≡ Of p → Denotes n d g scope f b low p (use_of (within i g) c) (sense c scope)

  abbrev pub Element : Enclosing → tree.Name → Expression → Type 0
  Element i y x = (q : Value) (m : ℕ) → judge (with_counter y (within i g)) x ≡ Of q
      → Denotes n d (with_counter y g) (counted_scope g scope f y m) f b low q (use_of (with_counter y (within i g)) x)
      (sense x (counted_scope g scope f y m))

  -- an array in the heap
  pub filled_heap : b ≤ low → (y : tree.Name) (c x : Expression) (i : Enclosing) (at : ℕ) (v : Value) → Operand i c → Element i y x
      → judge_made (within i g) at (Of (To TheHeap)) (Array y c x) ≡ Of v
      → Denotes n d g scope f b low v (use_made (within i g) (Array y c x) nothing) (new_sense (Array y c x) scope)
  filled_heap loudly y c x i at v count element j =
      let a : (z : Goal) × (p : Value) × (q : Value) × (Of (To TheHeap) ≡ Of z) × (judge (within i g) c ≡ Of p)
      × (judge (with_counter y (within i g)) x ≡ Of q) × (rules_of_making.array_made at z (p, q) ≡ Of v) =
      array_is at (Of (To TheHeap)) (judge (within i g) c) (judge (with_counter y (within i g)) x) v j in
      denotes_filled n d g scope f b low loudly at TheHeap heap_maker nothing y a.1 a.2 v (use_of (within i g) c) (use_of (with_counter y (within i g)) x)
      (uses_of (with_counter y (within i g)) x).value (sense c scope) (λ m. sense x (counted_scope g scope f y m))
      (agrees d scope.world g.tables setting.structs)
      (heap_lives n d g scope f b low) tt (λ st z. aims_at_heap n d g scope f b low st) (count a.1 a.4)
      (uses_told x (with_counter y (within i g))).value (λ m. element a.2 m a.5)
      (subst (λ (q : Goal). rules_of_making.array_made at q (a.1, a.2) ≡ Of v) (sym (of_is (To TheHeap) a.0 a.3)) a.6)

  -- one value in the region of a handle, inside of which its operand is judged
  pub made_in : b ≤ low → (x : Expression) (i : Enclosing) (at : ℕ) (hv : Verdict Value) (v : Value) (uh : Use) (handle : Sense)
      → (EnclosingBelow g.regions.count (enclosed (after hv (handled (within i g)))) → Operand (enclosed (after hv (handled (within i g)))) x)
      → ((a : Value) → hv ≡ Of a → Denotes n d g scope f b low a uh handle)
      → judge_made_in (within i g) at (goal_of false (within i g) hv) (One x) ≡ Of v
      → Denotes n d g scope f b low v (use_made (inside (goal_of false (within i g) hv) (within i g)) (One x) uh.look) (new_in_sense (One x) scope false handle)
  made_in loudly x i at hv v uh handle operand h j =
      let goal : Verdict Goal = after hv (handled (within i g)) in
      let a : (y : Goal) × (a : Value) × (goal ≡ Of y) × (judge (within (enclosed goal) g) x ≡ Of a) × (rules_of_making.made at y a ≡ Of v) =
      goal_is at goal (judge (within (enclosed goal) g) x) v j in
      let p : (q : Value) × (hv ≡ Of q) × (handled (within i g) q ≡ Of a.0) = after_is hv (handled (within i g)) a.0 a.2 in
      let q : Handled (within i g) p.0.type a.0 = handled_is (within i g) p.0.at at p.0.type a.0 a.1 v p.2 a.4 in
      let dh : Denotes n d g scope f b low p.0 uh handle = h p.0 p.1 in
      let below : Below g.regions.count q.region = subst (λ (y : StaticType). TypeBelow g.regions.count y) q.is dh.below in
      let under : EnclosingBelow g.regions.count (enclosed goal) =
      subst (λ (y : Verdict Goal). EnclosingBelow g.regions.count (enclosed y)) (sym (a.2 ∙ ap (λ (y : Goal). Of y) q.goal)) below in
      denotes_made n d g scope f b low loudly at q.region (handle_maker handle) uh.look a.1 v (use_of (within (enclosed goal) g) x) (sense x scope)
      (agrees d scope.world g.tables setting.structs)
      (λ st k2 w m i2 x2. x2.names.live q.region (strictly g q.region setting.strict q.live)) below
      (λ st z. denotes_aims n d g scope f b low p.0 uh handle q.region dh q.is st z) (operand under a.1 a.3)
      (subst (λ (y : Goal). rules_of_making.made at y a.1 ≡ Of v) q.goal a.4)

  -- an array there
  pub filled_in : b ≤ low → (y : tree.Name) (c x : Expression) (i : Enclosing) (at : ℕ) (hv : Verdict Value) (v : Value) (uh : Use) (handle : Sense)
      → (EnclosingBelow g.regions.count (enclosed (after hv (handled (within i g)))) → Operand (enclosed (after hv (handled (within i g)))) c)
      → (EnclosingBelow g.regions.count (enclosed (after hv (handled (within i g)))) → Element (enclosed (after hv (handled (within i g)))) y x)
      → ((a : Value) → hv ≡ Of a → Denotes n d g scope f b low a uh handle)
      → judge_made_in (within i g) at (goal_of false (within i g) hv) (Array y c x) ≡ Of v
      → Denotes n d g scope f b low v (use_made (inside (goal_of false (within i g) hv) (within i g)) (Array y c x) uh.look)
      (new_in_sense (Array y c x) scope false handle)
  filled_in loudly y c x i at hv v uh handle count element h j =
      let goal : Verdict Goal = after hv (handled (within i g)) in
      let g1 : Env = within (enclosed goal) g in
      let a : (z : Goal) × (p : Value) × (q : Value) × (goal ≡ Of z) × (judge g1 c ≡ Of p) × (judge (with_counter y g1) x ≡ Of q)
      × (rules_of_making.array_made at z (p, q) ≡ Of v) =
      array_is at goal (judge g1 c) (judge (with_counter y g1) x) v j in
      let p : (q : Value) × (hv ≡ Of q) × (handled (within i g) q ≡ Of a.0) = after_is hv (handled (within i g)) a.0 a.3 in
      let q : Handled (within i g) p.0.type a.0 = array_handled (within i g) p.0.at at p.0.type a.0 a.1 a.2 v p.2 a.6 in
      let dh : Denotes n d g scope f b low p.0 uh handle = h p.0 p.1 in
      let below : Below g.regions.count q.region = subst (λ (y : StaticType). TypeBelow g.regions.count y) q.is dh.below in
      let under : EnclosingBelow g.regions.count (enclosed goal) =
      subst (λ (y : Verdict Goal). EnclosingBelow g.regions.count (enclosed y)) (sym (a.3 ∙ ap (λ (y : Goal). Of y) q.goal)) below in
      denotes_filled n d g scope f b low loudly at q.region (handle_maker handle) uh.look y a.1 a.2 v (use_of g1 c) (use_of (with_counter y g1) x)
      (uses_of (with_counter y g1) x).value (sense c scope) (λ m. sense x (counted_scope g scope f y m)) (agrees d scope.world g.tables setting.structs)
      (λ st k2 w m i2 x2. x2.names.live q.region (strictly g q.region setting.strict q.live)) below
      (λ st z. denotes_aims n d g scope f b low p.0 uh handle q.region dh q.is st z) (count under a.1 a.4) (uses_told x (with_counter y g1)).value
      (λ m. element under a.2 m a.5)
      (subst (λ (y : Goal). rules_of_making.array_made at y (a.1, a.2) ≡ Of v) q.goal a.6)
