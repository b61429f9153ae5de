-- How the forms of expressions use locals is what their passages say.
use Rattle.std.specs.Prelude.{length, not, ◌&&◌, ◌||◌}
use Rattle.std.proofs.Common.{◌≡◌, ℕ, Bool, true, false, Option, Some, None, List, refl, subst, ap}
use Rattle.cyc_tree.specs.declared.expression.Prefix.{Prefix}
use Rattle.cyc_tree.specs.declared.expression.Prefix.TheVariants.{AddressOf, Complement, Dereference, Negate, Not}
use Rattle.cyc_tree.specs.Tree as tree
use Rattle.source_typing.specs.Moves.{Use, address_use, applied_use, array_use, arrow_use, assigned_use, contents_use, copy_if, if_moved, in_block}
use Rattle.source_typing.specs.Moves.{indexed_use, is_moved, is_unique_value, local_use, member_use, nothing, place_use, pointed_use, prefixed_use, tested_use}
use Rattle.source_typing.specs.Moves.{use_of_local, use_of_name, value_use}
use Rattle.source_typing.specs.Places.{contents, variable}
use Rattle.source_typing.specs.Scope.{Env, Local, Value}
use Rattle.source_typing.specs.States.{Passed, States}
use Rattle.source_typing.specs.Tables.{Arrayed, Counter, Stored, Unknown, What, find, is_copyable}
use Rattle.source_typing.specs.Verdicts.{Verdict, after}
use Rattle.flow_summaries.proofs.Names.{does_assign, does_look, does_move}
use Rattle.flow_summaries.proofs.Passages.{does_copy, does_in_turn, does_in_turn_or_not, does_nothing}
use Rattle.flow_summaries.specs.Laws.{DoesAs, UsesAs}
use Rattle.flow_summaries.specs.Passages.{Passage, copied_if, in_turn, unchanged}
use Rattle.flow_summaries.specs.Uses.{Uses, address_uses, applied_uses, arrow_uses, assigned_uses, contents_uses, indexed_uses, member_uses, pointed_uses}
use Rattle.flow_summaries.specs.Uses.{prefixed_uses, tested_uses, uses_as_place, uses_as_value, uses_if, uses_of_array, uses_of_local, uses_of_name}
use Rattle.flow_summaries.specs.Uses.{uses_of_own}

copies_if : (n : ℕ) (b c : Bool) (at : ℕ) → b ≡ c → DoesAs n (copy_if b at) (copied_if c at)
copies_if n b c at h = subst (λ t. DoesAs n (copy_if b at) (copied_if t at)) h (does_copy n b at)

pub used_as_value : (n : ℕ) (act : States → Passed) (p : Passage) → DoesAs n act p → UsesAs n (value_use act) (uses_as_value p)
used_as_value n act p h = record { value = h; look = h; place = h; target = h; whole = refl; own = refl }

used_as_place : (n at : ℕ) (moves b c : Bool) (act : States → Passed) (p : Passage) → b ≡ c → DoesAs n act p
    → UsesAs n (place_use at moves b act) (uses_as_place at moves c p)
used_as_place n at moves b c act p e h = record {
  value = does_in_turn n act (copy_if moves at) p (copied_if moves at) h (does_copy n moves at);
  look = h;
  place = h;
  target = h;
  whole = refl;
  own = e;
}

-- ---- names

own_used : (ls : List Local) (x : tree.Name) → UsesAs (length ls) (local_use ls x) (uses_of_own ls x)
own_used ls x =
    record { value = does_move ls x; look = does_look ls x; place = does_nothing (length ls); target = does_assign ls x; whole = refl; own = refl }

array_used : (n at : ℕ) → UsesAs n (array_use at) (uses_of_array at)
array_used n at =
    let c : DoesAs n (copy_if true at) (copied_if true at) = does_copy n true at in
    record { value = c; look = c; place = c; target = c; whole = refl; own = refl }

idle_used : (n : ℕ) → UsesAs n (value_use nothing) (uses_as_value unchanged)
idle_used n = used_as_value n nothing unchanged (does_nothing n)

used_if : (n : ℕ) (b : Bool) (u : Use) (v : Uses) → UsesAs n u v → UsesAs n (if_moved b u) (uses_if b v)
used_if n true u v h = h
used_if n false u v h = idle_used n

local_used : (g : Env) (x : tree.Name) (w : What) → UsesAs (length g.locals) (use_of_local g x w) (uses_of_local g x w)
local_used g x (Stored t r) =
    used_if (length g.locals) (not (is_copyable g.tables t)) (local_use g.locals x) (uses_of_own g.locals x) (own_used g.locals x)
local_used g x (Arrayed t r) =
    used_if (length g.locals) (not (is_copyable g.tables t)) (array_use x.at) (uses_of_array x.at) (array_used (length g.locals) x.at)
local_used g x Counter = idle_used (length g.locals)
local_used g x (Unknown sound) = idle_used (length g.locals)

pub name_used : (g : Env) (x : tree.Name) (l : Option Local) → UsesAs (length g.locals) (use_of_name g x l) (uses_of_name g x l)
name_used g x (Some l) = local_used g x l.what
name_used g x None =
    used_as_place (length g.locals) x.at (is_moved g (variable x.at (find g.tables x.text))) false false nothing unchanged refl (does_nothing (length g.locals))

-- ---- places

module _ (n : ℕ) (u : Use) (v : Uses) (h : UsesAs n u v) where
  pointed_does : (at : ℕ) (a : Verdict Value) → DoesAs n (pointed_use at a u) (pointed_uses at a v)
  pointed_does at a =
      does_in_turn n u.look (copy_if (is_unique_value a && not u.whole) at) v.look (copied_if (is_unique_value a && not v.whole) at) h.look
      (copies_if n (is_unique_value a && not u.whole) (is_unique_value a && not v.whole) at (ap (λ w. is_unique_value a && not w) h.whole))

  contents_used : (g : Env) (at : ℕ) (a : Verdict Value) → UsesAs n (contents_use g at a u) (contents_uses g at a v)
  contents_used g at a =
      used_as_place n at (is_moved g (after a (contents g at))) false false (pointed_use at a u) (pointed_uses at a v) refl (pointed_does at a)

  pub member_used : (at : ℕ) (moves : Bool) → UsesAs n (member_use at moves u) (member_uses at moves v)
  member_used at moves = used_as_place n at moves u.own v.own u.look v.look h.own h.look

  pub arrow_used : (at : ℕ) (moves : Bool) (a : Verdict Value) → UsesAs n (arrow_use at moves a u) (arrow_uses at moves a v)
  arrow_used at moves a = used_as_place n at moves false false (pointed_use at a u) (pointed_uses at a v) refl (pointed_does at a)

  address_used : (at : ℕ) (a : Verdict Value) → UsesAs n (address_use at a u) (address_uses at a v)
  address_used at a =
      used_as_value n (λ s. (address_use at a u).value s) (in_turn v.place (copied_if (v.own || in_block a) at))
      (does_in_turn n u.place (copy_if (u.own || in_block a) at) v.place (copied_if (v.own || in_block a) at) h.place
      (copies_if n (u.own || in_block a) (v.own || in_block a) at (ap (λ w. w || in_block a) h.own)))

  pub prefixed_used : (g : Env) (at : ℕ) (o : Prefix) (a : Verdict Value) → UsesAs n (prefixed_use g at o a u) (prefixed_uses g at o a v)
  prefixed_used g at Negate a = used_as_value n u.look v.look h.look
  prefixed_used g at Not a = used_as_value n u.look v.look h.look
  prefixed_used g at Complement a = used_as_value n u.look v.look h.look
  prefixed_used g at Dereference a = contents_used g at a
  prefixed_used g at AddressOf a = address_used at a

-- ---- the others

module _ (n : ℕ) (u w : Use) (v x : Uses) (h : UsesAs n u v) (k : UsesAs n w x) where
  pub indexed_used : (at : ℕ) (moves : Bool) (a : Verdict Value) → UsesAs n (indexed_use at moves a u w) (indexed_uses at moves a v x)
  indexed_used at moves a =
      used_as_place n at moves (u.own && not (is_unique_value a)) (v.own && not (is_unique_value a)) (λ s. (indexed_use at moves a u w).look s)
      (in_turn x.look (pointed_uses at a v)) (ap (λ o. o && not (is_unique_value a)) h.own)
      (does_in_turn n w.look (pointed_use at a u) x.look (pointed_uses at a v) k.look (pointed_does n u v h at a))

  pub applied_used : UsesAs n (applied_use u w) (applied_uses v x)
  applied_used =
      used_as_value n (λ s. (applied_use u w).value s) (in_turn v.look x.look) (does_in_turn n u.look w.look v.look x.look h.look k.look)

  -- the place, and the value, which goes before it
  pub assigned_used : UsesAs n (assigned_use u w) (assigned_uses v x)
  assigned_used =
      used_as_value n (λ s. (assigned_use u w).value s) (in_turn x.value v.target)
      (does_in_turn n w.value u.target x.value v.target k.value h.target)

  pub tested_used : UsesAs n (tested_use u w) (tested_uses v x)
  tested_used =
      used_as_value n (λ s. (tested_use u w).value s) (tested_uses v x).value (does_in_turn_or_not n u.look w.look v.look x.look h.look k.look)
