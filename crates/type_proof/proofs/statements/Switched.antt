-- `switch`: each clause is a way of its own, and a `break` ends it.
use Rattle.std.proofs.Common.{◌≡◌, ℕ, true, false, Bool, Option, Some, None, List, [], ◌∷◌, refl, sym, ◌∙◌, subst}
use Rattle.std.specs.Prelude.{length, map, slice_get, if◌then◌else◌}
use Rattle.cyc_tree.specs.Tree.{Expression, Statement, Clauses, NoClauses, MoreClauses, BlockItems, Pattern, Case, Default}
use Rattle.source_meaning.specs.Shapes.{UnionShape, Shape, part_position, part_shape, parts_of}
use Rattle.source_meaning.specs.Memory.{Region, Scalar, Tagged, Memory}
use Rattle.source_meaning.specs.Steps.{Scope, Flow, Falls, Breaks, Continues, Returns, Act, ◌>>=◌, give, need}
use Rattle.source_meaning.specs.Regions.{in_block, local_with}
use Rattle.source_meaning.specs.Places.{or_else}
use Rattle.source_meaning.specs.Conversions.{one}
use Rattle.source_meaning.specs.Expressions.{sense}
use Rattle.source_meaning.specs.Statements as meaning
use Rattle.source_meaning.specs.Statements.{statement, case_for, default_for, block_items, is_position, after_switch, held_by}
use Rattle.source_typing.specs.Flow.{use_of}
use Rattle.source_typing.specs.Expressions.{judge}
use Rattle.source_typing.specs.Left.{Left, either, left_by, left_by_items, left_by_clauses, entering}
use Rattle.source_typing.specs.Scope.{Env}
use Rattle.source_typing.specs.States.{States, Passed}
use Rattle.source_typing.specs.Statements.{Chosen, chosen, clause_scope, in_a_switch}
use Rattle.source_typing.specs.Types.{Union}
use Rattle.flow_summaries.specs.Exits.{Exits}
use Rattle.flow_summaries.specs.Laws.{LeavesAs}
use Rattle.flow_summaries.specs.Statements.{exits_of_clauses, exits_of_items, exits_within}
use Rattle.flow_summaries.proofs.Scopes.{clause_counted}
use Rattle.flow_summaries.proofs.Statements.{clauses_told, items_told, leaves_within}
use Rattle.type_proof.specs.Flat.{Tables, union_parts}
use Rattle.type_proof.proofs.invariant.Invariant as invariant
use Rattle.type_proof.proofs.invariant.Invariant.{RunType, heap, Nobody, Ghost, HasPlain, Inv}
use Rattle.type_proof.proofs.invariant.Growth.{grows_trans}
use Rattle.type_proof.proofs.invariant.Runs.{Runs, Safe}
use Rattle.type_proof.proofs.invariant.After.{After}
use Rattle.type_proof.proofs.invariant.Names.{NameOf}
use Rattle.type_proof.proofs.invariant.Scenes.{Scene, scene_later}
use Rattle.type_proof.proofs.invariant.Sound.{ShowsBy, none_first, none_second}
use Rattle.type_proof.proofs.invariant.Standing.{Standing, are_kinds}
use Rattle.type_proof.proofs.expressions.Words.{OneValue, one_value}
use Rattle.type_proof.proofs.statements.Flows.{WaysStand, Leaves}
use Rattle.type_proof.proofs.statements.Looped.{scene_switch}
use Rattle.type_proof.proofs.statements.Ways.{kinds_left, either_first, either_second}

-- ---- the clauses are ways

module _ (n : ℕ) (d : Tables) (gives : RunType) (g : Env) (scope : Scope) (f : NameOf → Region) (b : ℕ) where
  -- from one point
  abbrev pub LeavesHere : (States → Left) → ℕ → States → Ghost → Memory → Act Flow → Type 0
  LeavesHere p k s w m act = (p s).faults ≡ [] → Runs n act m (λ flow. After d k b w m (λ w' m'. WaysStand d gives g scope f (p s) flow w' m'))

  abbrev pub clause_left : Option Chosen → Pattern → BlockItems → States → Left
  clause_left c pattern body s = entering g (clause_scope g c pattern) (λ t. left_by_items (clause_scope g c pattern) body t) s

  -- each clause that may be taken is a block that is left so
  abbrev pub AllLeave : Option Chosen → meaning.Held → ℕ → States → Ghost → Memory → Clauses → Type 0
  AllLeave c held k s w m NoClauses = Unit {0}
  AllLeave c held k s w m (MoreClauses at (Case y z) body others) =
      (is_position (part_position held.parts y.text) held.position ≡ true → LeavesHere (clause_left c (Case y z) body) k s w m
      (in_block (λ a. local_with (record scope { frame = a }) z.text (part_shape held.parts y.text) (held.value ∷ []) (block_items body))))
      × AllLeave c held k s w m others
  AllLeave c held k s w m (MoreClauses at Default body others) =
      LeavesHere (clause_left c Default body) k s w m (in_block (λ a. block_items body (record scope { frame = a }))) × AllLeave c held k s w m others

  first_here : (l r : States → Left) (v : Exits) (act : Act Flow) (k : ℕ) (s : States) (w : Ghost) (m : Memory) → LeavesAs (length g.locals) r v
      → Standing d g scope f s w m
      → LeavesHere l k s w m act → LeavesHere (λ t. either (l t) (r t)) k s w m act
  first_here l r v act k s w m told st h e = record {
    by = λ next q. (h (none_first (l s).faults (r s).faults e)).by next (λ flow m1 y. q flow m1 (record {
      ghost = y.ghost;
      inv = y.inv;
      grows = y.grows;
      holds = either_first n d gives g scope f b (l s) (r s) flow y.ghost m1
          (kinds_left n d gives g scope f b r v told s (are_kinds g.tables d f g.locals scope.locals s w m st)) y.holds;
    }));
  }

  second_here : (l r : States → Left) (v : Exits) (act : Act Flow) (k : ℕ) (s : States) (w : Ghost) (m : Memory) → LeavesAs (length g.locals) l v
      → Standing d g scope f s w m
      → LeavesHere r k s w m act → LeavesHere (λ t. either (l t) (r t)) k s w m act
  second_here l r v act k s w m told st h e = record {
    by = λ next q. (h (none_second (l s).faults (r s).faults e)).by next (λ flow m1 y. q flow m1 (record {
      ghost = y.ghost;
      inv = y.inv;
      grows = y.grows;
      holds = either_second n d gives g scope f b (l s) (r s) flow y.ghost m1
          (kinds_left n d gives g scope f b l v told s (are_kinds g.tables d f g.locals scope.locals s w m st)) y.holds;
    }));
  }

  module _ (c : Option Chosen) (held : meaning.Held) (k : ℕ) (s : States) (w : Ghost) (m : Memory) (st : Standing d g scope f s w m) where
    within : (pattern : Pattern) (body : BlockItems) → LeavesAs (length g.locals) (clause_left c pattern body)
        (exits_within g (clause_scope g c pattern) (exits_of_items (clause_scope g c pattern) body))
    within pattern body = leaves_within g (clause_scope g c pattern) (λ t. left_by_items (clause_scope g c pattern) body t)
        (exits_of_items (clause_scope g c pattern) body)
        (clause_counted g c pattern) (items_told body (clause_scope g c pattern))

    here : (at : ℕ) (pattern : Pattern) (body : BlockItems) (others : Clauses) (act : Act Flow) → LeavesHere (clause_left c pattern body) k s w m act
        → LeavesHere (left_by_clauses g c (MoreClauses at pattern body others)) k s w m act
    here at pattern body others act h = first_here (clause_left c pattern body) (left_by_clauses g c others) (exits_of_clauses g c others) act k s w m
        (clauses_told others g c) st h

    there : (at : ℕ) (pattern : Pattern) (body : BlockItems) (others : Clauses) (act : Act Flow) → LeavesHere (left_by_clauses g c others) k s w m act
        → LeavesHere (left_by_clauses g c (MoreClauses at pattern body others)) k s w m act
    there at pattern body others act h =
        second_here (clause_left c pattern body) (left_by_clauses g c others)
        (exits_within g (clause_scope g c pattern) (exits_of_items (clause_scope g c pattern) body)) act k s w m
        (within pattern body) st h

    some_same : (a o : Act Flow) → Some a ≡ Some o → a ≡ o
    some_same a o e = cc

    pub cases_leave : (cs : Clauses) → AllLeave c held k s w m cs → (act : Act Flow) → case_for cs held scope ≡ Some act
        → LeavesHere (left_by_clauses g c cs) k s w m act
    cases_leave NoClauses h act e = absurd (let z : None ≡ Some act = e in cc)
    cases_leave (MoreClauses at Default body others) h act e = there at Default body others act (cases_leave others h.1 act e)
    cases_leave (MoreClauses at (Case y z) body others) h act e =
        by (is_position (part_position held.parts y.text) held.position) refl e (λ e2. cases_leave others h.1 act e2)
      where
        this : Act Flow
        this = in_block (λ a. local_with (record scope { frame = a }) z.text (part_shape held.parts y.text) (held.value ∷ []) (block_items body))

        by : (p : Bool) → is_position (part_position held.parts y.text) held.position ≡ p → (if p then Some this else case_for others held scope) ≡ Some act
            → (case_for others held scope ≡ Some act → LeavesHere (left_by_clauses g c others) k s w m act)
            → LeavesHere (left_by_clauses g c (MoreClauses at (Case y z) body others)) k s w m act
        by true q e2 more = here at (Case y z) body others act
            (subst (λ (a : Act Flow). LeavesHere (clause_left c (Case y z) body) k s w m a) (some_same this act e2) (h.0 q))
        by false q e2 more = there at (Case y z) body others act (more e2)

    pub default_leaves : (cs : Clauses) → AllLeave c held k s w m cs → (act : Act Flow) → default_for cs scope ≡ Some act
        → LeavesHere (left_by_clauses g c cs) k s w m act
    default_leaves NoClauses h act e = absurd (let z : None ≡ Some act = e in cc)
    default_leaves (MoreClauses at (Case y z) body others) h act e = there at (Case y z) body others act (default_leaves others h.1 act e)
    default_leaves (MoreClauses at Default body others) h act e =
        here at Default body others act (subst (λ (a : Act Flow). LeavesHere (clause_left c Default body) k s w m a)
        (some_same (in_block (λ a. block_items body (record scope { frame = a }))) act e) h.0)

    pub clauses_leave : (cs : Clauses) → AllLeave c held k s w m cs → (act : Act Flow) → or_else (case_for cs held scope) (default_for cs scope) ≡ Some act
        → LeavesHere (left_by_clauses g c cs) k s w m act
    clauses_leave cs h act e = by (case_for cs held scope) refl e
      where
        by : (o : Option (Act Flow)) → case_for cs held scope ≡ o → or_else o (default_for cs scope) ≡ Some act
            → LeavesHere (left_by_clauses g c cs) k s w m act
        by None q e2 = default_leaves cs h act e2
        by (Some a) q e2 = cases_leave cs h act (q ∙ e2)

-- ---- the statement

-- what a union place holds, by the position of the member
pub record HoldsMember (d : Tables) (scope : Scope) (f : NameOf → Region) (tag : List ℕ) (rs : List NameOf) (held : meaning.Held) (w : Ghost) : Type 0 where
  pub parts : held.parts ≡ parts_of scope.world.unions tag
  pub type : RunType
  pub here : slice_get (union_parts heap d.unions tag (map f rs)) held.position ≡ Some type
  pub typed : HasPlain d w Nobody held.value type

module _ (n : ℕ) (d : Tables) (gives : RunType) (g : Env) (scope : Scope) (f : NameOf → Region) (b : ℕ) where
  -- a clause is found, and none is left at its end
  pub switch_leaves : (at : ℕ) (e : Expression) (cs : Clauses) (tag : List ℕ) (rs : List NameOf) → (sense e scope).shape ≡ UnionShape tag
      → ShowsBy n d g scope f b b (use_of g e).look (Union tag rs) (sense e scope).look
      → ((s : States) → (left_by_clauses (in_a_switch g) (chosen (judge g e)) cs s).falls ≡ None)
      → ((held : meaning.Held) (w : Ghost) → HoldsMember d scope f tag rs held w → (act : Act Flow)
      × (or_else (case_for cs held scope) (default_for cs scope) ≡ Some act))
      → ((held : meaning.Held) (k : ℕ) (s : States) (w : Ghost) (m : Memory) → HoldsMember d scope f tag rs held w → Inv d w m
      → Scene d (in_a_switch g) scope f b b s k w m
      → AllLeave n d gives (in_a_switch g) scope f b (chosen (judge g e)) held k s w m cs)
      → Leaves n d gives g scope f b (left_by g (Statement.Switch at e cs)) (statement (Statement.Switch at e cs) scope)
  switch_leaves at e cs tag rs shape shows ends found clauses = λ s q k w m i x.
      let p : Passed = (use_of g e).look s in
      let inner : Left = left_by_clauses (in_a_switch g) (chosen (judge g e)) cs p.states in
      record {
        by = λ next r. (shows s (none_first p.faults inner.faults q) k w m i x).by (λ vs. (one vs >>= held_by scope.world (sense e scope).shape >>= rest) next)
            (λ vs m1 y.
            let z : OneValue d y.ghost (y.holds.0.by 0) vs (Union tag (map f rs)) =
            one_value d y.ghost y.holds.0.by vs (Union tag (map f rs)) y.holds.0.typed in
            let u : invariant.Member d y.ghost z.value tag (map f rs) = z.typed in
            let held : meaning.Held = record { parts = parts_of scope.world.unions tag; position = u.position; value = u.value } in
            let holds : HoldsMember d scope f tag rs held y.ghost = record { parts = refl; type = u.type; here = u.part; typed = u.typed } in
            let a : (act : Act Flow) × (or_else (case_for cs held scope) (default_for cs scope) ≡ Some act) = found held y.ghost holds in
            let x1 : Scene d g scope f b b p.states k y.ghost m1 = scene_later d g scope f b b s p.states k w m y.ghost m1 y.inv y.grows y.holds.1 x in
            subst (λ (xs : List Scalar). Safe n ((one xs >>= held_by scope.world (sense e scope).shape >>= rest) next m1)) (sym z.is)
            (subst (λ (v : Scalar). Safe n ((held_by scope.world (sense e scope).shape v >>= rest) next m1)) (sym u.is)
            (subst (λ (sh : Shape). Safe n ((held_by scope.world sh (Tagged u.position u.value) >>= rest) next m1)) (sym shape)
            (subst (λ (o : Option (Act Flow)). Safe n ((need o >>= λ clause. clause >>= λ flow. give (after_switch flow)) next m1)) (sym a.1)
            ((clauses_leave n d gives (in_a_switch g) scope f b (chosen (judge g e)) held k p.states y.ghost m1 y.holds.1 cs
            (clauses held k p.states y.ghost m1 holds y.inv (scene_switch d g scope f b p.states k y.ghost m1 x1)) a.0 a.1
            (none_second p.faults inner.faults q)).by (λ flow. next (after_switch flow))
            (λ flow m2 v. r (after_switch flow) m2 (record {
              ghost = v.ghost;
              inv = v.inv;
              grows = grows_trans y.grows v.grows;
              holds = out s flow v.ghost m2 v.holds;
            })))))));
      }
    where
      rest : meaning.Held → Act Flow
      rest held = need (or_else (case_for cs held scope) (default_for cs scope)) >>= λ clause. clause >>= λ flow. give (after_switch flow)

      -- a `break` ends it
      out : (s : States) (flow : Flow) (w2 : Ghost) (m2 : Memory)
          → WaysStand d gives (in_a_switch g) scope f (left_by_clauses (in_a_switch g) (chosen (judge g e)) cs ((use_of g e).look s).states) flow w2 m2
          → WaysStand d gives g scope f (left_by g (Statement.Switch at e cs) s) (after_switch flow) w2 m2
      out s Falls w2 m2 h = absurd (let z : None ≡ Some h.0 = sym (ends ((use_of g e).look s).states) ∙ h.1 in cc)
      out s Breaks w2 m2 h = h.0
      out s Continues w2 m2 h = h
      out s (Returns vs) w2 m2 h = h
