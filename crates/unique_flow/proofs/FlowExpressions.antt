-- An expression has no fault of flow but Consumed, Lent and Copy.
use Rattle.std.proofs.Common.{◌≡◌, ℕ, Bool, true, false, Option, Some, None, List, [], ◌∷◌, ◌++◌, refl}
use Rattle.std.specs.Prelude.{not, ◌&&◌, ◌||◌}
use Rattle.cyc_tree.specs.Tree as tree
use Rattle.cyc_tree.specs.Tree.{
  Array,
  Arrow,
  Dot,
  Expression,
  Expressions,
  Index,
  Links,
  Made,
  MoreExpressions,
  MoreLinks,
  NoExpressions,
  NoLinks,
  NoSuffixes,
  One,
  Suffixes,
}
use Rattle.cyc_tree.specs.declared.expression.Prefix.{Prefix}
use Rattle.cyc_tree.specs.declared.expression.Prefix.TheVariants as prefix
use Rattle.source_meaning.specs.Expressions.{is_unique_region}
use Rattle.source_typing.specs.Expressions.{judge}
use Rattle.source_typing.specs.Faults.{Fault, is_of_flow}
use Rattle.source_typing.specs.Flow.{use_all, use_links, use_made, use_of, use_suffixes, use_tests}
use Rattle.source_typing.specs.Making.{goal_of, inside, with_counter}
use Rattle.source_typing.specs.Moves.{Use, applied_use, array_use, arrow_use, assigned_use, copy_if, elements_passed, if_moved, in_block}
use Rattle.source_typing.specs.Moves.{indexed_use, is_moved, is_unique_value, local_use, member_use, nothing, place_at, place_use, pointed_use, prefixed_use}
use Rattle.source_typing.specs.Moves.{tested_use, use_of_local, use_of_name, value_use, without_first}
use Rattle.source_typing.specs.Places.{arrow, contents, indexed, member, variable}
use Rattle.source_typing.specs.Scope.{Env, Local, Value, find_local}
use Rattle.source_typing.specs.States.{Gone, Held, Lent, Passed, Plain, State, States, loop_head, need_held, need_unlent, state_of, then_passed}
use Rattle.source_typing.specs.Tables.{Arrayed, Counter, Stored, Unknown, What, find, is_copyable}
use Rattle.source_typing.specs.Verdicts.{Verdict, after, both}

-- ---- faults of flow

abbrev pub AreOfFlow : List Fault → Type 0
AreOfFlow [] = Unit {0}
AreOfFlow (f ∷ fs) = (is_of_flow f.kind ≡ true) × AreOfFlow fs

pub both_of_flow : (fs gs : List Fault) → AreOfFlow fs → AreOfFlow gs → AreOfFlow (fs ++ gs)
both_of_flow [] gs a b = b
both_of_flow (f ∷ fs) gs a b = (a.0, both_of_flow fs gs a.1 b)

-- from any states
abbrev pub FindsFlow : (States → Passed) → Type 0
FindsFlow act = (s : States) → AreOfFlow (act s).faults

then_flow : (p : Passed) (next : States → Passed) → AreOfFlow p.faults → FindsFlow next → AreOfFlow (then_passed p next).faults
then_flow p next first others = both_of_flow p.faults (next p.states).faults first (others p.states)

pub copy_flow : (b : Bool) (at : ℕ) → FindsFlow (copy_if b at)
copy_flow true at s = (refl, tt)
copy_flow false at s = tt

pub held_flow : (at : ℕ) (a : State) → AreOfFlow (need_held at a)
held_flow at Plain = tt
held_flow at Held = tt
held_flow at Gone = (refl, tt)
held_flow at Lent = (refl, tt)

unlent_flow : (at : ℕ) (a : State) → AreOfFlow (need_unlent at a)
unlent_flow at Plain = tt
unlent_flow at Held = tt
unlent_flow at Gone = tt
unlent_flow at Lent = (refl, tt)

-- ---- uses

-- however the expression is used
pub record UsesFlow (u : Use) : Type 0 where
  pub value : FindsFlow u.value
  pub look : FindsFlow u.look
  pub place : FindsFlow u.place
  pub target : FindsFlow u.target

value_flow : (act : States → Passed) → FindsFlow act → UsesFlow (value_use act)
value_flow act f = record { value = f; look = f; place = f; target = f }

nothing_flow : UsesFlow (value_use nothing)
nothing_flow = value_flow nothing (λ s. tt)

place_flow : (at : ℕ) (moves own : Bool) (act : States → Passed) → FindsFlow act → UsesFlow (place_use at moves own act)
place_flow at moves own act f =
    record { value = λ s. then_flow (act s) (copy_if moves at) (f s) (copy_flow moves at); look = f; place = f; target = f }

local_flow : (ls : List Local) (x : tree.Name) → UsesFlow (local_use ls x)
local_flow ls x = record {
  value = λ s. held_flow x.at (state_of ls x.text s);
  look = λ s. held_flow x.at (state_of ls x.text s);
  place = λ s. tt;
  target = λ s. unlent_flow x.at (state_of ls x.text s);
}

array_flow : (at : ℕ) → UsesFlow (array_use at)
array_flow at = record { value = copy_flow true at; look = copy_flow true at; place = copy_flow true at; target = copy_flow true at }

moved_flow : (b : Bool) (u : Use) → UsesFlow u → UsesFlow (if_moved b u)
moved_flow true u f = f
moved_flow false u f = nothing_flow

what_flow : (g : Env) (x : tree.Name) (w : What) → UsesFlow (use_of_local g x w)
what_flow g x (Stored t r) = moved_flow (not (is_copyable g.tables t)) (local_use g.locals x) (local_flow g.locals x)
what_flow g x (Arrayed t r) = moved_flow (not (is_copyable g.tables t)) (array_use x.at) (array_flow x.at)
what_flow g x Counter = nothing_flow
what_flow g x (Unknown sound) = nothing_flow

name_flow : (g : Env) (x : tree.Name) (l : Option Local) → UsesFlow (use_of_name g x l)
name_flow g x (Some l) = what_flow g x l.what
name_flow g x None = place_flow x.at (is_moved g (variable x.at (find g.tables x.text))) false nothing (λ s. tt)

pointed_flow : (at : ℕ) (v : Verdict Value) (e : Use) → UsesFlow e → FindsFlow (pointed_use at v e)
pointed_flow at v e f s =
    let moves = is_unique_value v && not e.whole in then_flow (e.look s) (copy_if moves at) (f.look s) (copy_flow moves at)

prefixed_flow : (g : Env) (at : ℕ) (o : Prefix) (v : Verdict Value) (e : Use) → UsesFlow e → UsesFlow (prefixed_use g at o v e)
prefixed_flow g at prefix.Negate v e f = value_flow e.look f.look
prefixed_flow g at prefix.Not v e f = value_flow e.look f.look
prefixed_flow g at prefix.Complement v e f = value_flow e.look f.look
prefixed_flow g at prefix.Dereference v e f = place_flow at (is_moved g (after v (contents g at))) false (pointed_use at v e) (pointed_flow at v e f)
prefixed_flow g at prefix.AddressOf v e f =
    let copies = e.own || in_block v in
    value_flow (λ s. then_passed (e.place s) (copy_if copies at)) (λ s. then_flow (e.place s) (copy_if copies at) (f.place s) (copy_flow copies at))

applied_flow : (a b : Use) → UsesFlow a → UsesFlow b → UsesFlow (applied_use a b)
applied_flow a b f h = value_flow (λ s. then_passed (a.look s) b.look) (λ s. then_flow (a.look s) b.look (f.look s) h.look)

assigned_flow : (to from : Use) → UsesFlow to → UsesFlow from → UsesFlow (assigned_use to from)
assigned_flow to from f h =
    value_flow (λ s. then_passed (from.value s) to.target) (λ s. then_flow (from.value s) to.target (h.value s) f.target)

tested_flow : (a b : Use) → UsesFlow a → UsesFlow b → UsesFlow (tested_use a b)
tested_flow a b f h =
    let each : FindsFlow (tested_use a b).value = λ s. both_of_flow (a.look s).faults (b.look (a.look s).states).faults (f.look s) (h.look (a.look s).states) in
    record { value = each; look = each; place = each; target = each }

elements_flow : (element : States → Passed) → FindsFlow element → FindsFlow (elements_passed element)
elements_flow element f s = f (Plain ∷ loop_head s (λ h. Some (without_first (element (Plain ∷ h)).states)))

-- ---- expressions

mutual
  pub use_flow : (e : Expression) (g : Env) → UsesFlow (use_of g e)
  use_flow (Expression.Number at n suffix) g = nothing_flow
  use_flow (Expression.Character at byte) g = nothing_flow
  use_flow (Expression.Text at bytes) g = nothing_flow
  use_flow (Expression.Null at) g = nothing_flow
  use_flow (Expression.HeapRegion at) g = nothing_flow
  use_flow (Expression.UniqueRegion at) g = nothing_flow
  use_flow (Expression.Variable x) g = name_flow g x (find_local g.locals x.text)
  use_flow (Expression.Call x es) g = value_flow (λ s. use_all g es s) (λ s. all_flow es g s)
  use_flow (Expression.MakeUnion tag f e) g = value_flow (use_of g e).value (use_flow e g).value
  use_flow (Expression.NumElts at e) g = value_flow (use_of g e).look (use_flow e g).look
  use_flow (Expression.Grouped at e) g = use_flow e g
  use_flow (Expression.Suffixed e es) g = suffixes_flow es g (judge g e) (use_of g e) (use_flow e g)
  use_flow (Expression.Prefixed at o e) g = prefixed_flow g at o (judge g e) (use_of g e) (use_flow e g)
  use_flow (Expression.New at new) g = made_flow new g nothing (λ s. tt)
  use_flow (Expression.NewIn at handle new) g =
      made_flow new (inside (goal_of (is_unique_region handle) g (judge g handle)) g) (use_of g handle).look (use_flow handle g).look
  use_flow (Expression.Chain e es) g = links_flow es g (use_of g e) (use_flow e g)
  use_flow (Expression.AllOf e es) g = tests_flow es g (use_of g e) (use_flow e g)
  use_flow (Expression.AnyOf e es) g = tests_flow es g (use_of g e) (use_flow e g)
  use_flow (Expression.Assign to from) g = assigned_flow (use_of g to) (use_of g from) (use_flow to g) (use_flow from g)

  all_flow : (es : Expressions) (g : Env) → FindsFlow (λ s. use_all g es s)
  all_flow NoExpressions g s = tt
  all_flow (MoreExpressions e es) g s = then_flow ((use_of g e).value s) (λ t. use_all g es t) ((use_flow e g).value s) (all_flow es g)

  tests_flow : (es : Expressions) (g : Env) (u : Use) → UsesFlow u → UsesFlow (use_tests g u es)
  tests_flow NoExpressions g u f = f
  tests_flow (MoreExpressions e es) g u f = tests_flow es g (tested_use u (use_of g e)) (tested_flow u (use_of g e) f (use_flow e g))

  links_flow : (es : Links) (g : Env) (u : Use) → UsesFlow u → UsesFlow (use_links g u es)
  links_flow NoLinks g u f = f
  links_flow (MoreLinks o e es) g u f = links_flow es g (applied_use u (use_of g e)) (applied_flow u (use_of g e) f (use_flow e g))

  suffixes_flow : (es : Suffixes) (g : Env) (v : Verdict Value) (u : Use) → UsesFlow u → UsesFlow (use_suffixes g v u es)
  suffixes_flow NoSuffixes g v u f = f
  suffixes_flow (Index e es) g v u f =
      let w = both v (judge g e) (indexed g) in
      let b = use_of g e in
      let at = place_at 0 v in
      suffixes_flow es g w (indexed_use at (is_moved g w) v u b)
      (place_flow at (is_moved g w) (u.own && not (is_unique_value v)) (λ s. then_passed (b.look s) (pointed_use at v u))
      (λ s. then_flow (b.look s) (pointed_use at v u) ((use_flow e g).look s) (pointed_flow at v u f)))
  suffixes_flow (Dot x es) g v u f =
      let w = after v (member g x) in
      suffixes_flow es g w (member_use (place_at 0 v) (is_moved g w) u) (place_flow (place_at 0 v) (is_moved g w) u.own u.look f.look)
  suffixes_flow (Arrow x es) g v u f =
      let w = after v (arrow g x) in
      suffixes_flow es g w (arrow_use (place_at 0 v) (is_moved g w) v u)
      (place_flow (place_at 0 v) (is_moved g w) false (pointed_use (place_at 0 v) v u) (pointed_flow (place_at 0 v) v u f))

  made_flow : (new : Made) (g : Env) (handle : States → Passed) → FindsFlow handle → UsesFlow (use_made g new handle)
  made_flow (One e) g handle f =
      value_flow (λ s. then_passed (handle s) (use_of g e).value) (λ s. then_flow (handle s) (use_of g e).value (f s) (use_flow e g).value)
  made_flow (Array x n e) g handle f =
      let element = (use_of (with_counter x g) e).value in
      value_flow (λ s. then_passed (then_passed (handle s) (use_of g n).look) (elements_passed element))
      (λ s. then_flow (then_passed (handle s) (use_of g n).look) (elements_passed element)
      (then_flow (handle s) (use_of g n).look (f s) (use_flow n g).look) (elements_flow element (use_flow e (with_counter x g)).value))
