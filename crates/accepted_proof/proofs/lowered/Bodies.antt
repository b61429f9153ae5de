-- Statements without fault, where all is known of each name in scope: lowering takes them.
use Rattle.std.proofs.Common.{◌≡◌, ℕ, suc, Bool, true, Some, None, List, [], ◌∷◌, sym, subst, ap, ◌∙◌}
use Rattle.std.specs.Prelude.{◌&&◌, ◌++◌}
use Rattle.cyc_tree.specs.Tree.{BlockItems, Case, Clauses, Declare, Default, Execute, Expression, MoreClauses, NoClauses, NoItems, Statement}
use Rattle.source_lowering.specs.Lowerable.{Takes, TakesClauses, TakesItems}
use Rattle.source_lowering.specs.Lowerable.{TakesStatement}
use Rattle.source_lowering.specs.Lowered.{Named, union_parts}
use Rattle.source_lowering.specs.Programs.{named_here, names_behind, outward}
use Rattle.source_meaning.specs.Shapes.{Shape, has_tag, part_shape, parts_of}
use Rattle.source_meaning.specs.Steps.{World}
use Rattle.type_proof.specs.Entries.{IsObjectType}
use Rattle.type_proof.specs.Judged.{Accepted, ClausesJudged, Condition, ItemsJudged, Returned}
use Rattle.type_proof.specs.Judged.{StatementJudged, Switching, on_union}
use Rattle.source_typing.specs.Declarations.{declare}
use Rattle.source_typing.specs.Scope.{Env, Value, block_entered}
use Rattle.source_typing.specs.Statements.{Chosen, clause_scope, clauses_faults, condition_faults, in_a_loop, in_a_switch}
use Rattle.source_typing.specs.Statements.{items_faults, statement_faults}
use Rattle.source_typing.specs.Types.{Char, Fat, Handle, Int, Key, Null, StaticType, Struct, Thin, Union, Unique, Unsigned, Void, shape_of}
use Rattle.source_typing.specs.Ways.{ways_of}
use Rattle.source_typing.proofs.Inversion.{none_of_both}
use Rattle.accepted_proof.proofs.good.Switches.{ClauseClean, SwitchClean, clause_clean, clauses_on, switch_clean}
use Rattle.accepted_proof.proofs.Known.{IsWord, converts_word, testable_word}
use Rattle.accepted_proof.proofs.lowered.Expressions.{taken_is}
use Rattle.accepted_proof.proofs.lowered.Forms.{IsGiven, IsKnownScope, IsTaken, word_is}
use Rattle.accepted_proof.proofs.lowered.Scopes.{scope_block, scope_loop, scope_switch}
use Rattle.accepted_proof.proofs.lowered.Switches.{ClauseTaken, UnionPlace, clause_taken, place_shape, union_place}
use Rattle.accepted_proof.proofs.lowered.Declarations.{DeclarationTaken, declaration_takes}
use Rattle.accepted_proof.proofs.lowered.Keys.{key_takes}
use Rattle.accepted_proof.proofs.lowered.Uniques.{exchange_takes, free_takes}

-- an object that a function gives is a word
given_word : (w : World) (t : StaticType) → IsGiven w t → IsObjectType t → IsWord t
given_word w Void h o = absurd o
given_word w Null h o = h.0
given_word w Int h o = h.0
given_word w Unsigned h o = h.0
given_word w Char h o = h.0
given_word w (Thin n r t) h o = h.0
given_word w (Fat r t) h o = h.0
given_word w (Unique n t) h o = h.0
given_word w (Handle r) h o = h.0
given_word w (Key r) h o = h.0
given_word w (Struct tag rs) h o = h.0
given_word w (Union tag rs) h o = h.0

module _ (w : World) where
  condition_takes : (names : List Named) (g : Env) (e : Expression) → IsKnownScope w names g → Condition g e → Takes w names e
  condition_takes names g e scope c =
      let v : Value = c.accepted.value in
      let k : IsTaken w names e v = taken_is w names g scope e v c.accepted.operands c.accepted.judged in
      (word_is w names v.type e (testable_word v.type c.testable) k.value).takes

  module _ (r : StaticType) (given : IsGiven w r) where
    return_takes : (names : List Named) (g : Env) (e : Expression) → g.result ≡ Some r → IsKnownScope w names g → Returned g e
        → Takes w names e
    return_takes names g e f scope j =
        let v : Value = j.fitting.accepted.value in
        let k : IsTaken w names e v = taken_is w names g scope e v j.fitting.accepted.operands j.fitting.accepted.judged in
        let q : Some r ≡ Some j.gives = sym f ∙ j.result in
        let same : r ≡ j.gives = cc in
        let word : IsWord j.gives = given_word w j.gives (subst (λ (t : StaticType). IsGiven w t) same given) j.object in
        (word_is w names v.type e (converts_word g.regions v.type j.gives j.fitting.converts word) k.value).takes

    mutual
      statement_takes : (x : Statement) (names : List Named) (g : Env) (c : Bool) → g.result ≡ Some r → IsKnownScope w names g
          → StatementJudged g c x → statement_faults g c x ≡ [] → TakesStatement w (shape_of r) names x
      statement_takes (Statement.Empty at) names g c f scope j p = tt
      statement_takes (Statement.Block at items) names g c f scope j p =
          items_takes items (outward names) 0 (block_entered g) c f (scope_block w names g scope) j p
      statement_takes (Statement.Run e) names g c f scope j p =
          (taken_is w names g scope e j.value j.operands j.judged).run
      statement_takes (Statement.Exchange a b) names g c f scope j p =
          let x : IsTaken w names a j.left.value = taken_is w names g scope a j.left.value j.left.operands j.left.judged in
          let y : IsTaken w names b j.right.value = taken_is w names g scope b j.right.value j.right.operands j.right.judged in
          exchange_takes w names a b j.left.value j.right.value x y j.fits
      statement_takes (Statement.If at e x) names g c f scope j p =
          let z = none_of_both (condition_faults g e) (statement_faults g c x) p in
          (condition_takes names g e scope j.0, statement_takes x names g c f scope j.1 z.1)
      statement_takes (Statement.IfElse at e x y) names g c f scope j p =
          let z = none_of_both (condition_faults g e ++ statement_faults g c x) (statement_faults g c y) p in
          let u = none_of_both (condition_faults g e) (statement_faults g c x) z.0 in
          (condition_takes names g e scope j.0, (statement_takes x names g c f scope j.1.0 u.1, statement_takes y names g c f scope j.1.1 z.1))
      statement_takes (Statement.While at e x) names g c f scope j p =
          let z = none_of_both (condition_faults g e) (statement_faults (in_a_loop g) c x) p in
          (condition_takes names g e scope j.0, statement_takes x names (in_a_loop g) c f (scope_loop w names g scope) j.1 z.1)
      statement_takes (Statement.Switch at e cs) names g c f scope j p =
          let s : Switching g e cs = j.0 in
          let z : SwitchClean g c at e cs = switch_clean g c at e cs p in
          let a : Accepted g e = s.accepted in
          let u : UnionPlace w names e s.tag = union_place w names g e cs s (taken_is w names g scope e a.value a.operands a.judged) in (
            u.takes,
            (
              place_shape w names e s.tag u,
              subst (λ (h : Shape). TakesClauses w (shape_of r) names (union_parts w h) cs) (sym u.shape)
                  (clauses_takes cs names (in_a_switch g) c (on_union s) f u.there (scope_switch w names g scope) j.1
                  (clauses_on g c at e cs s z)),
            ),
          )
      statement_takes (Statement.Break at) names g c f scope j p = tt
      statement_takes (Statement.Continue at) names g c f scope j p = tt
      statement_takes (Statement.Return at None) names g c f scope j p =
          let q : Some r ≡ Some Void = sym f ∙ j in let same : r ≡ Void = cc in ap (λ (t : StaticType). shape_of t) same
      statement_takes (Statement.Return at (Some e)) names g c f scope j p =
          return_takes names g e f scope j
      statement_takes (Statement.FreeUnique at x) names g c f scope j p =
          free_takes w names x j.value j.nullable j.to j.is (taken_is w names g scope (Expression.Variable x) j.value tt j.judged)
      statement_takes (Statement.FreeKey at x) names g c f scope j p =
          key_takes w names x j.value j.region j.is (taken_is w names g scope (Expression.Variable x) j.value tt j.judged)

      -- the items of a block without fault
      pub items_takes : (x : BlockItems) (names : List Named) (index : ℕ) (g : Env) (c : Bool) → g.result ≡ Some r → IsKnownScope w names g
          → ItemsJudged g c x → items_faults g c x ≡ [] → TakesItems w (shape_of r) names index x
      items_takes NoItems names index g c f scope j p = tt
      items_takes (Declare d others) names index g c f scope j p =
          let z = none_of_both (declare g d).faults (items_faults (declare g d).scope c others) p in
          let a : DeclarationTaken w names index g d = declaration_takes w d names index g scope j.0 z.0 in
          (a.takes, items_takes others (names_behind w names index d) (suc index) (declare g d).scope c (a.result ∙ f) a.scope j.1 z.1)
      items_takes (Execute x others) names index g c f scope j p =
          let d : Bool = c && (ways_of x).falls in
          let z = none_of_both (statement_faults g c x) (items_faults g d others) p in
          (statement_takes x names g c f scope j.0 z.0, items_takes others names index g d f scope j.1 z.1)

      clauses_takes : (x : Clauses) (names : List Named) (g : Env) (c : Bool) (u : Chosen) → g.result ≡ Some r → has_tag w.unions u.tag ≡ true
          → IsKnownScope w names g → ClausesJudged g c u x → clauses_faults g c (Some u) x ≡ []
          → TakesClauses w (shape_of r) names (parts_of w.unions u.tag) x
      clauses_takes NoClauses names g c u f there scope j p = tt
      clauses_takes (MoreClauses at Default body others) names g c u f there scope j p =
          let z : ClauseClean g c u Default body others = clause_clean g c u at Default body others p in (
            items_takes body (outward names) 0 (block_entered g) c f (scope_block w names g scope) j.2 z.body_clean,
            clauses_takes others names g c u f there scope j.3 z.others_clean,
          )
      clauses_takes (MoreClauses at (Case m x) body others) names g c u f there scope j p =
          let z : ClauseClean g c u (Case m x) body others = clause_clean g c u at (Case m x) body others p in
          let n : ClauseTaken w names g u m x = clause_taken w names g u m x there scope j.1 in
          let inside : List Named = named_here x.text (part_shape (parts_of w.unions u.tag) m.text) 0 ∷ outward names in (
            n.member,
            (
              items_takes body inside 1 (clause_scope g (Some u) (Case m x)) c (n.result ∙ f) n.scope j.2 z.body_clean,
              clauses_takes others names g c u f there scope j.3 z.others_clean,
            ),
          )
