-- Makings have a fault or are in order, where their handles and what they make are.
use Rattle.std.proofs.Common.{◌≡◌, ℕ, Bool, true, false, List, refl}
use Rattle.cyc_tree.specs.Tree.{Array, Expression, Name, One}
use Rattle.source_meaning.specs.Shapes.{NeverNull}
use Rattle.source_typing.specs.Expressions.{judge, judge_made_in}
use Rattle.source_typing.specs.Faults.{Fault}
use Rattle.source_typing.specs.Making.{Goal, NoHandle, To, ToUnique, array_made, array_to, elements, enclosed, goal_of, handled, handled_of, inside, live_goal}
use Rattle.source_typing.specs.Making.{made}
use Rattle.source_typing.specs.Making.{array_misfits, array_of, by_parts, is_other, made_of, made_to, with_counter}
use Rattle.source_typing.specs.Regions.{Region}
use Rattle.source_typing.specs.Scope.{Env, Nowhere, Value, is_live}
use Rattle.source_typing.specs.Types.{Char, Fat, Handle, Int, Key, Null, StaticType, Struct, Thin, Union, Unique, Unsigned, Void, is_integer, is_makeable}
use Rattle.source_typing.specs.Verdicts.{Faulty, Of, Unjudged, Verdict, both}
use Rattle.std.specs.Prelude.{not, ◌&&◌}
use Rattle.std.proofs.lemmas.Bool.{and_parts, false≢true}
use Rattle.type_proof.specs.Entries.{IsObjectType}
use Rattle.source_typing.specs.Named.{Below, TypeBelow}
use Rattle.accepted_proof.specs.Good.{IsAround, IsGoodValue, IsValueType, Surely}
use Rattle.accepted_proof.proofs.good.Places.{valued}
use Rattle.accepted_proof.proofs.Sure.{surely_after, surely_both, surely_fits}

module _ (g : Env) where
  -- what is made is an object
  makeable_object : (t : StaticType) → IsValueType t → is_makeable t ≡ true → IsObjectType t
  makeable_object Void h e = absurd (false≢true e)
  makeable_object Null h e = absurd (false≢true e)
  makeable_object Int h e = h
  makeable_object Unsigned h e = h
  makeable_object Char h e = h
  makeable_object (Thin n r t) h e = h
  makeable_object (Fat r t) h e = h
  makeable_object (Unique n t) h e = h
  makeable_object (Handle r) h e = h
  makeable_object (Key r) h e = h
  makeable_object (Struct tag rs) h e = h
  makeable_object (Union tag rs) h e = h

  -- a goal that is known
  abbrev pub IsKnownGoal : Goal → Type 0
  IsKnownGoal x = IsAround g.regions.count (enclosed (Of x))

  made_below : (at : ℕ) (x : Goal) (v : Value) → IsGoodValue g v → IsKnownGoal x → Surely (λ w. IsGoodValue g w) (made at x v)
  made_below at x v h b = surely_fits (λ w. IsGoodValue g w) (is_makeable v.type) at v.type (made_to at x) (λ e. by x b e)
    where
      by : (x : Goal) → IsKnownGoal x → is_makeable v.type ≡ true → Surely (λ w. IsGoodValue g w) (made_to at x v.type)
      by (To r) b e =
          valued g (record { at = at; type = Thin (NeverNull 1) r v.type; seat = Nowhere })
          (record { type = makeable_object v.type h.type e; below = (b, h.below); nowhere = refl })
      by ToUnique b e =
          valued g (record { at = at; type = Unique false v.type; seat = Nowhere })
          (record { type = makeable_object v.type h.type e; below = h.below; nowhere = refl })
      by NoHandle b e = tt

  -- a handle of a region that is live, and so in scope; the unique region; or no handle
  abbrev pub IsGoal : Goal → Type 0
  IsGoal (To r) = Below g.regions.count r
  IsGoal ToUnique = Unit {0}
  IsGoal NoHandle = Unit {0}

  live_good : (b : Bool) (at : ℕ) (r : Region) → Below g.regions.count r → Surely (λ x. IsGoal x) (live_goal b at r)
  live_good true at r h = h
  live_good false at r h = tt

  handled_good : (at : ℕ) (t : StaticType) → TypeBelow g.regions.count t → Surely (λ x. IsGoal x) (handled_of g at t)
  handled_good at Int h = tt
  handled_good at Unsigned h = tt
  handled_good at Char h = tt
  handled_good at Void h = tt
  handled_good at Null h = tt
  handled_good at (Thin n r t) h = tt
  handled_good at (Fat r t) h = tt
  handled_good at (Unique n t) h = tt
  handled_good at (Handle r) h = live_good (is_live g r) at r h
  handled_good at (Key r) h = tt
  handled_good at (Struct tag rs) h = tt
  handled_good at (Union tag rs) h = tt

  -- where the handle is none, or has a fault, so has the making, whether or not its operand is judged
  surely_parts : (at : ℕ) (misfits : Bool) (v : Verdict Value) → Surely (λ w. IsGoodValue g w) v → Surely (λ w. IsGoodValue g w) (by_parts at misfits v)
  surely_parts at misfits (Faulty f fs) h = tt
  surely_parts at misfits Unjudged h = absurd h
  surely_parts at misfits (Of v) h = h

  made_nowhere : (at : ℕ) (v : Verdict Value) → Surely (λ w. IsGoodValue g w) (made_of at (Of NoHandle) v)
  made_nowhere at Unjudged = tt
  made_nowhere at (Faulty f fs) = tt
  made_nowhere at (Of v) =
      surely_parts at true (made at NoHandle v)
      (surely_fits (λ w. IsGoodValue g w) (is_makeable v.type) at v.type (made_to at NoHandle) (λ e. tt))

  array_nowhere : (at : ℕ) (v : Verdict (Value × Value)) → Surely (λ w. IsGoodValue g w) (by_parts at true (both (Of NoHandle) v (array_made at)))
  array_nowhere at Unjudged = tt
  array_nowhere at (Faulty f fs) = tt
  array_nowhere at (Of (c, v)) =
      surely_parts at true (array_made at NoHandle (c, v))
      (surely_fits (λ w. IsGoodValue g w) (is_integer c.type && is_makeable v.type) at v.type (array_to at NoHandle) (λ e. tt))

  goal_faulty : {A : Type 0} (at : ℕ) (misfits : Bool) (f : Fault) (fs : List Fault) (v : Verdict A) (rule : Goal → A → Verdict Value)
      → Surely (λ w. IsGoodValue g w) (by_parts at misfits (both (Faulty f fs) v rule))
  goal_faulty at misfits f fs (Faulty c cs) rule = tt
  goal_faulty at misfits f fs Unjudged rule = tt
  goal_faulty at misfits f fs (Of v) rule = tt

  pub made_there : (at : ℕ) (x : Goal) (v : Verdict Value) → Surely (λ w. IsGoodValue g w) v → IsKnownGoal x
      → Surely (λ w. IsGoodValue g w) (made_of at (Of x) v)
  made_there at NoHandle v h b = absurd b
  made_there at (To r) (Faulty c cs) h b = tt
  made_there at (To r) Unjudged h b = absurd h
  made_there at (To r) (Of v) h b = surely_parts at (not (is_makeable v.type)) (made at (To r) v) (made_below at (To r) v h b)
  made_there at ToUnique (Faulty c cs) h b = tt
  made_there at ToUnique Unjudged h b = absurd h
  made_there at ToUnique (Of v) h b = surely_parts at (not (is_makeable v.type)) (made at ToUnique v) (made_below at ToUnique v h b)

  -- its operand is judged in the region of the handle
  pub made_good : (at : ℕ) (goal : Verdict Goal) (e : Expression) → Surely (λ x. IsGoal x) goal
      → ((x : Goal) → IsKnownGoal x → Surely (λ w. IsGoodValue g w) (judge (inside (Of x) g) e))
      → Surely (λ w. IsGoodValue g w) (judge_made_in g at goal (One e))
  made_good at (Faulty f fs) e h k =
      (let v : Verdict Value = judge (inside (Faulty f fs) g) e in goal_faulty at (is_other is_makeable v) f fs v (made at))
  made_good at Unjudged e h k = absurd h
  made_good at (Of (To r)) e h k = made_there at (To r) (judge (inside (Of (To r)) g) e) (k (To r) h) h
  made_good at (Of ToUnique) e h k = made_there at ToUnique (judge (inside (Of ToUnique) g) e) (k ToUnique tt) tt
  made_good at (Of NoHandle) e h k = made_nowhere at (judge (inside (Of NoHandle) g) e)

  -- ---- arrays

  abbrev pub IsKnownOperand : Value → Type 0
  IsKnownOperand v = IsValueType v.type × TypeBelow g.regions.count v.type

  pub elements_good : (c e : Verdict Value) → Surely (λ v. IsKnownOperand v) c
      → Surely (λ v. IsKnownOperand v) e → Surely (λ p. IsKnownOperand p.1) (both c e elements)
  elements_good c e h k =
      surely_both (λ v. IsKnownOperand v) (λ v. IsKnownOperand v) (λ (p : Value × Value). IsKnownOperand p.1) c e elements h k (λ a b l m. m)

  array_below : (at : ℕ) (x : Goal) (c v : Value) → IsKnownOperand v → IsKnownGoal x → Surely (λ w. IsGoodValue g w) (array_made at x (c, v))
  array_below at x c v h b =
      surely_fits (λ w. IsGoodValue g w) (is_integer c.type && is_makeable v.type) at v.type (array_to at x)
      (λ e. by x b (and_parts (is_integer c.type) (is_makeable v.type) e).1)
    where
      by : (x : Goal) → IsKnownGoal x → is_makeable v.type ≡ true → Surely (λ w. IsGoodValue g w) (array_to at x v.type)
      by (To r) b e =
          valued g (record { at = at; type = Fat r v.type; seat = Nowhere })
          (record { type = makeable_object v.type h.0 e; below = (b, h.1); nowhere = refl })
      by ToUnique b e = tt
      by NoHandle b e = tt

  array_by : (at : ℕ) (misfits : Bool) (x : Goal) (v : Verdict (Value × Value)) → Surely (λ p. IsKnownOperand p.1) v → IsKnownGoal x
      → Surely (λ w. IsGoodValue g w) (by_parts at misfits (both (Of x) v (array_made at)))
  array_by at misfits x (Faulty c cs) h b = tt
  array_by at misfits x Unjudged h b = absurd h
  array_by at misfits x (Of (c, v)) h b = surely_parts at misfits (array_made at x (c, v)) (array_below at x c v h b)

  pub array_there : (at : ℕ) (x : Goal) (c e : Verdict Value) → Surely (λ p. IsKnownOperand p.1) (both c e elements) → IsKnownGoal x
      → Surely (λ w. IsGoodValue g w) (array_of at (Of x) c e)
  array_there at x c e h b = array_by at (array_misfits (Of x) c e) x (both c e elements) h b

  -- count and element are judged in the region of the handle
  pub array_good : (at : ℕ) (goal : Verdict Goal) (x : Name) (c e : Expression) → Surely (λ y. IsGoal y) goal
      → ((y : Goal) → IsKnownGoal y
      → Surely (λ p. IsKnownOperand p.1) (both (judge (inside (Of y) g) c) (judge (with_counter x (inside (Of y) g)) e) elements))
      → Surely (λ w. IsGoodValue g w) (judge_made_in g at goal (Array x c e))
  array_good at (Faulty f fs) x c e h k =
      let inner : Env = inside (Faulty f fs) g in
      let misfits : Bool = array_misfits (Faulty f fs) (judge inner c) (judge (with_counter x inner) e) in
      goal_faulty at misfits f fs (both (judge inner c) (judge (with_counter x inner) e) elements) (array_made at)
  array_good at Unjudged x c e h k = absurd h
  array_good at (Of (To r)) x c e h k =
      let inner : Env = inside (Of (To r)) g in
      array_there at (To r) (judge inner c) (judge (with_counter x inner) e) (k (To r) h) h
  array_good at (Of ToUnique) x c e h k =
      let inner : Env = inside (Of ToUnique) g in
      array_there at ToUnique (judge inner c) (judge (with_counter x inner) e) (k ToUnique tt) tt
  array_good at (Of NoHandle) x c e h k =
      let inner : Env = inside (Of NoHandle) g in array_nowhere at (both (judge inner c) (judge (with_counter x inner) e) elements)

  pub handle_good : (e : Expression) → Surely (λ v. IsGoodValue g v) (judge g e) → Surely (λ x. IsGoal x) (goal_of false g (judge g e))
  handle_good e h =
      surely_after (λ v. IsGoodValue g v) (λ x. IsGoal x) (judge g e) (handled g) h (λ v k. handled_good v.at v.type k.below)
