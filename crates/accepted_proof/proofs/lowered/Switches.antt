-- A `switch` without fault that lowering takes: its place is a union's, and the name of a clause has the shape of its member.
use Rattle.std.proofs.Common.{◌≡◌, ℕ, true, Some, List, ◌∷◌, refl, sym, subst, ap, ◌∙◌}
use Rattle.cyc_tree.specs.Tree as tree
use Rattle.cyc_tree.specs.Tree.{Case, Clauses, Expression}
use Rattle.source_lowering.specs.Lowerable.{IsMember, IsUnionShape, TakesPlace}
use Rattle.source_lowering.specs.Lowered.{Named, static_shape}
use Rattle.source_lowering.specs.Programs.{named_here, outward}
use Rattle.source_meaning.specs.Shapes.{Shape, UnionShape, has_tag, part_shape, parts_of}
use Rattle.source_meaning.specs.Steps.{World}
use Rattle.type_proof.proofs.invariant.Sound.{shape_renamed}
use Rattle.type_proof.specs.Judged.{ClauseNamed, Switching}
use Rattle.source_typing.specs.Scope.{Env, In, InBlock, Nowhere, Seat, Value, block_entered, is_place}
use Rattle.source_typing.specs.Statements.{Chosen, chosen, chosen_of, clause_scope}
use Rattle.source_typing.specs.Tables.{argument}
use Rattle.source_typing.specs.Types.{StaticType, Union, renamed, shape_of}
use Rattle.accepted_proof.proofs.lowered.Forms.{IsKnownScope, IsTaken, KnownChoice, TakenPlace}
use Rattle.accepted_proof.proofs.lowered.Scopes.{scope_block, scope_local}
use Rattle.accepted_proof.proofs.lowered.Stands.{stands_exactly, stands_same}
use Rattle.accepted_proof.proofs.Known.{IsKnown}

-- what a `switch` is on is a place
switched_place : (t : StaticType) (s : Seat) (c : Chosen) → chosen_of t s ≡ Some c → is_place s ≡ true
switched_place t Nowhere c e = absurd cc
switched_place t (In r) c e = refl
switched_place t InBlock c e = refl

module _ (w : World) (names : List Named) where
  -- the place of a union
  pub record UnionPlace (e : Expression) (tag : List ℕ) : Type 0 where
    pub takes : TakesPlace w names e
    pub shape : static_shape w names e ≡ UnionShape tag
    pub there : has_tag w.unions tag ≡ true

  pub union_place : (g : Env) (e : Expression) (cs : Clauses) (s : Switching g e cs) → IsTaken w names e s.accepted.value → UnionPlace e s.tag
  union_place g e cs s k =
      let v : Value = s.accepted.value in
      let seat : is_place v.seat ≡ true =
      switched_place v.type v.seat (record { tag = s.tag; regions = s.regions }) (ap (λ z. chosen z) (sym s.accepted.judged) ∙ s.place) in
      let p : TakenPlace w names e (Union s.tag s.regions) = subst (λ t. TakenPlace w names e t) s.is (k.place seat) in
      record { takes = p.takes; shape = stands_exactly (static_shape w names e) (UnionShape s.tag) p.shape tt; there = p.known }

  pub place_shape : (e : Expression) (tag : List ℕ) → UnionPlace e tag → IsUnionShape w.unions (static_shape w names e)
  place_shape e tag p = subst (λ (z : Shape). IsUnionShape w.unions z) (sym p.shape) p.there

  -- the name of a clause, and what is known in its block
  pub record ClauseTaken (g : Env) (c : Chosen) (f x : tree.Name) : Type 0 where
    pub member : IsMember (parts_of w.unions c.tag) f.text
    pub scope : IsKnownScope w (named_here x.text (part_shape (parts_of w.unions c.tag) f.text) 0 ∷ outward names) (clause_scope g (Some c) (Case f x))
    pub result : (clause_scope g (Some c) (Case f x)).result ≡ g.result

  pub clause_taken : (g : Env) (c : Chosen) (f x : tree.Name) → has_tag w.unions c.tag ≡ true → IsKnownScope w names g → ClauseNamed g c f x
      → ClauseTaken g c f x
  clause_taken g c f x there scope j =
      let k : KnownChoice w c.tag f.text j.type = scope.choices c.tag f.text j.part j.type there j.found j.typed in
      let t : StaticType = renamed (argument c.regions) j.type in
      let same : shape_of j.type ≡ shape_of t = sym (shape_renamed (argument c.regions) j.type) in
      record {
        member = k.member;
        scope = subst (λ z. IsKnownScope w (named_here x.text (part_shape (parts_of w.unions c.tag) f.text) 0 ∷ outward names) z) (sym j.scope)
            (scope_local w (outward names) (block_entered g) x t (part_shape (parts_of w.unions c.tag) f.text) 0
            (stands_same (part_shape (parts_of w.unions c.tag) f.text) (shape_of t) (k.shape ∙ same))
            (subst (λ (z : Shape). IsKnown w z) same k.known) (scope_block w names g scope));
        result = ap (λ (z : Env). z.result) j.scope;
      }
