-- A statement without fault, where all is known of each name in scope, is in order; and so is the body of a function.
use Rattle.std.proofs.Common.{◌≡◌, ℕ, Bool, true, false, Some, None, [], refl, subst, ap, ◌∙◌}
use Rattle.std.specs.Prelude.{◌&&◌, ◌||◌, ◌++◌}
use Rattle.cyc_tree.specs.Operands.{ClausesHaveOperands, ExpressionHasOperands, ItemsHaveOperands, StatementHasOperands}
use Rattle.cyc_tree.specs.Places.{expression_place}
use Rattle.cyc_tree.specs.Tree.{BlockItems, Clauses, Declare, Execute, Expression, MoreClauses, NoClauses, NoItems, Statement}
use Rattle.type_proof.specs.Entries.{IsPlain, IsObjectType}
use Rattle.type_proof.specs.Judged.{ClausesJudged, Condition, Exchanging, ItemsJudged, Returned, StatementJudged, on_union}
use Rattle.source_typing.specs.Conversions.{converts}
use Rattle.source_typing.specs.Declarations.{declare}
use Rattle.source_typing.specs.Expressions.{judge}
use Rattle.source_typing.specs.Faults.{type_rule}
use Rattle.source_typing.specs.Scope.{Env, Value, block_entered}
use Rattle.source_typing.specs.Statements.{Chosen, clause_scope, clauses_faults, condition, condition_faults, in_a_loop}
use Rattle.source_typing.specs.Statements.{in_a_switch, items_faults, returned, statement_faults}
use Rattle.source_typing.specs.Named.{AllBelow}
use Rattle.source_typing.specs.Types.{Fat, Handle, Char, Int, Key, StaticType, Struct, Thin, Union, Unique, Unsigned, Void, is_testable}
use Rattle.source_typing.specs.Verdicts.{Faulty, Of, Unjudged, Verdict, after, both, faults_of, if_fits}
use Rattle.source_typing.specs.Ways.{ways_of}
use Rattle.source_typing.proofs.Inversion.{after_clean, none_of_both, test_is}
use Rattle.accepted_proof.specs.Good.{BodiesJudged, ExpressionsJudged, IsGood}
use Rattle.accepted_proof.proofs.good.Scopes.{good_block, good_loop, good_switch}
use Rattle.accepted_proof.proofs.good.Declarations.{converted_is, declaration_good, expression_good}
use Rattle.accepted_proof.proofs.good.Switches.{ClauseClean, GoodPattern, GoodSwitch, SwitchClean, clause_clean, clauses_on, pattern_good, switch_clean}
use Rattle.accepted_proof.proofs.good.Switches.{switch_good}
use Rattle.accepted_proof.proofs.good.Keys.{key_operand}
use Rattle.accepted_proof.proofs.good.Uniques.{ExchangeClean, exchange_clean, exchange_fits, unique_operand}
use Rattle.source_typing.specs.Exchanges.{acts, exchanged}

-- ---- conditions and results

tested_is : (b : Bool) (at : ℕ) (v : Value) → faults_of (if_fits b at v) ≡ [] → b ≡ true
tested_is true at v e = refl
tested_is false at v e = absurd cc

-- where `return` has no fault, what it gives has none
returned_clean : (g : Env) (at : ℕ) (t : StaticType) (v : Verdict Value) → IsPlain t → returned g at (Some t) (Some v) ≡ [] → faults_of v ≡ []
returned_clean g at t Unjudged h e = refl
returned_clean g at t (Of a) h e = refl
returned_clean g at Int (Faulty f fs) h e = absurd cc
returned_clean g at Unsigned (Faulty f fs) h e = absurd cc
returned_clean g at Char (Faulty f fs) h e = absurd cc
returned_clean g at Void (Faulty f fs) h e = absurd cc
returned_clean g at (Thin b r t) (Faulty f fs) h e = absurd cc
returned_clean g at (Fat r t) (Faulty f fs) h e = absurd cc
returned_clean g at (Unique b t) (Faulty f fs) h e = absurd cc
returned_clean g at (Struct tag rs) (Faulty f fs) h e = absurd cc
returned_clean g at (Union tag rs) (Faulty f fs) h e = absurd cc
returned_clean g at (Handle r) (Faulty f fs) h e = absurd cc
returned_clean g at (Key r) (Faulty f fs) h e = absurd cc
returned_clean g at _ (Faulty f fs) h e = absurd h

-- the function gives an object then, and the result converts to it
returned_object : (g : Env) (at : ℕ) (t : StaticType) (v : Value) → IsPlain t → returned g at (Some t) (Some (Of v)) ≡ []
    → IsObjectType t × (converts g v t ≡ [])
returned_object g at Int v h e = (h, e)
returned_object g at Unsigned v h e = (h, e)
returned_object g at Char v h e = (h, e)
returned_object g at Void v h e = absurd cc
returned_object g at (Thin b r t) v h e = (h, e)
returned_object g at (Fat r t) v h e = (h, e)
returned_object g at (Unique b t) v h e = (h, e)
returned_object g at (Struct tag rs) v h e = (h, e)
returned_object g at (Union tag rs) v h e = (h, e)
returned_object g at (Handle r) v h e = (h, e)
returned_object g at (Key r) v h e = (h, e)
returned_object g at _ v h e = absurd h

-- `return` alone
nothing_returned : (g : Env) (at : ℕ) (t : StaticType) → IsPlain t → returned g at (Some t) None ≡ [] → t ≡ Void
nothing_returned g at Void h e = refl
nothing_returned g at Int h e = absurd cc
nothing_returned g at Unsigned h e = absurd cc
nothing_returned g at Char h e = absurd cc
nothing_returned g at (Thin b r t) h e = absurd cc
nothing_returned g at (Fat r t) h e = absurd cc
nothing_returned g at (Unique b t) h e = absurd cc
nothing_returned g at (Struct tag rs) h e = absurd cc
nothing_returned g at (Union tag rs) h e = absurd cc
nothing_returned g at (Handle r) h e = absurd cc
nothing_returned g at (Key r) h e = absurd cc
nothing_returned g at _ h e = absurd h

-- ---- statements

module _ (expressions : ExpressionsJudged) where
  condition_good : (e : Expression) (g : Env) → IsGood g → ExpressionHasOperands e → condition_faults g e ≡ []
      → Condition g e
  condition_good e g h o p =
      let at : ℕ = expression_place e in
      let a = expression_good expressions e g h o (after_clean (judge g e) (condition at) p) in
      let d : faults_of (after (Of a.accepted.value) (condition at)) ≡ [] = subst (λ z. faults_of (after z (condition at)) ≡ []) a.accepted.judged p in
      record { accepted = a.accepted; testable = tested_is (is_testable a.accepted.value.type) at a.accepted.value d }

  return_good : (e : Expression) (g : Env) (at : ℕ) (r : StaticType) → IsPlain r → g.result ≡ Some r → IsGood g → ExpressionHasOperands e
      → returned g at g.result (Some (judge g e)) ≡ []
      → Returned g e
  return_good e g at r k f h o p =
      let q : returned g at (Some r) (Some (judge g e)) ≡ [] = subst (λ z. returned g at z (Some (judge g e)) ≡ []) f p in
      let a = expression_good expressions e g h o (returned_clean g at r (judge g e) k q) in
      let b = returned_object g at r a.accepted.value k (subst (λ z. returned g at (Some r) (Some z) ≡ []) a.accepted.judged q) in
      record {
        gives = r;
        result = f;
        object = b.0;
        fitting = record { accepted = a.accepted; converts = converted_is g a.accepted.value r b.1 };
      }

  exchange_good : (a b : Expression) (g : Env) → IsGood g
      → ExpressionHasOperands a × ExpressionHasOperands b
      → faults_of (both (judge g a) (judge g b) (exchanged (acts a ++ acts b))) ≡ []
      → Exchanging g a b
  exchange_good a b g h o p =
      let z : ExchangeClean g a b = exchange_clean g a b p in
      let l = expression_good expressions a g h o.0 z.left in
      let u = expression_good expressions b g h o.1 z.right in
      let rule : Value → Value → Verdict Value = exchanged (acts a ++ acts b) in
      let q : faults_of (both (Of l.accepted.value) (judge g b) rule) ≡ [] = subst (λ v. faults_of (both v (judge g b) rule) ≡ []) l.accepted.judged p in
      let w : faults_of (both (Of l.accepted.value) (Of u.accepted.value) rule) ≡ [] =
      subst (λ v. faults_of (both (Of l.accepted.value) v rule) ≡ []) u.accepted.judged q in
      let f = exchange_fits a b l.accepted.value u.accepted.value w in
      record { left = l.accepted; right = u.accepted; fits = f.0; still = f.1 }

  mutual
    pub statement_good : (x : Statement) (g : Env) (c : Bool) (r : StaticType) → IsPlain r → g.result ≡ Some r → IsGood g
        → StatementHasOperands x
        → statement_faults g c x ≡ []
        → StatementJudged g c x
    statement_good (Statement.Empty at) g c r k f h o p = tt
    statement_good (Statement.Block at items) g c r k f h o p =
        items_good items (block_entered g) c r k f (good_block g h) o p
    statement_good (Statement.Run e) g c r k f h o p =
        (expression_good expressions e g h o p).accepted
    statement_good (Statement.Exchange a b) g c r k f h o p =
        exchange_good a b g h o p
    statement_good (Statement.If at e x) g c r k f h o p =
        let z = none_of_both (condition_faults g e) (statement_faults g c x) p in
        (condition_good e g h o.0 z.0, statement_good x g c r k f h o.1 z.1)
    statement_good (Statement.IfElse at e x y) g c r k f h o p =
        let z = none_of_both (condition_faults g e ++ statement_faults g c x) (statement_faults g c y) p in
        let w = none_of_both (condition_faults g e) (statement_faults g c x) z.0 in
        (condition_good e g h o.0 w.0, (statement_good x g c r k f h o.1.0 w.1, statement_good y g c r k f h o.1.1 z.1))
    statement_good (Statement.While at e x) g c r k f h o p =
        let z = none_of_both (condition_faults g e) (statement_faults (in_a_loop g) c x) p in
        (condition_good e g h o.0 z.0, statement_good x (in_a_loop g) c r k f (good_loop g h) o.1 z.1)
    statement_good (Statement.Switch at e cs) g c r k f h o p =
        let z : SwitchClean g c at e cs = switch_clean g c at e cs p in
        let s : GoodSwitch g e cs = switch_good g at e cs (expression_good expressions e g h o.0 z.place) z.own in (
          s.switching,
          clauses_good cs (in_a_switch g) c (on_union s.switching) r k f (good_switch g h) s.below o.1
              (clauses_on g c at e cs s.switching z),
        )
    statement_good (Statement.Break at) g c r k f h o p = test_is (g.in_loop || g.in_switch) type_rule at p
    statement_good (Statement.Continue at) g c r k f h o p = test_is g.in_loop type_rule at p
    statement_good (Statement.Return at None) g c r k f h o p =
        f ∙ ap (λ z. Some z) (nothing_returned g at r k (subst (λ z. returned g at z None ≡ []) f p))
    statement_good (Statement.Return at (Some e)) g c r k f h o p =
        return_good e g at r k f h o p
    statement_good (Statement.FreeUnique at x) g c r k f h o p = (unique_operand g x h p).held
    statement_good (Statement.FreeKey at x) g c r k f h o p = (key_operand g x h p).held

    pub items_good : (x : BlockItems) (g : Env) (c : Bool) (r : StaticType) → IsPlain r → g.result ≡ Some r → IsGood g → ItemsHaveOperands x
        → items_faults g c x ≡ []
        → ItemsJudged g c x
    items_good NoItems g c r k f h o p = tt
    items_good (Declare d others) g c r k f h o p =
        let z = none_of_both (declare g d).faults (items_faults (declare g d).scope c others) p in
        let a = declaration_good expressions d g h o.0 z.0 in
        (a.judged, items_good others (declare g d).scope c r k (a.result ∙ f) a.good o.1 z.1)
    items_good (Execute x others) g c r k f h o p =
        let d : Bool = c && (ways_of x).falls in
        let z = none_of_both (statement_faults g c x) (items_faults g d others) p in
        (statement_good x g c r k f h o.0 z.0, items_good others g d r k f h o.1 z.1)

    clauses_good : (x : Clauses) (g : Env) (c : Bool) (u : Chosen) (r : StaticType) → IsPlain r → g.result ≡ Some r → IsGood g
        → AllBelow g.regions.count u.regions
        → ClausesHaveOperands x
        → clauses_faults g c (Some u) x ≡ []
        → ClausesJudged g c u x
    clauses_good NoClauses g c u r k f h b o p = tt
    clauses_good (MoreClauses at pattern body others) g c u r k f h b o p =
        let z : ClauseClean g c u pattern body others = clause_clean g c u at pattern body others p in
        let a : GoodPattern g u pattern = pattern_good g u pattern h b z.names in (
          z.falls,
          a.judged,
          items_good body (clause_scope g (Some u) pattern) c r k (a.result ∙ f) a.good o.0 z.body_clean,
          clauses_good others g c u r k f h b o.1 z.others_clean,
        )

  -- the body of each function in which the rules find no fault
  pub bodies_judged : BodiesJudged
  bodies_judged items g gives h f k o p = items_good items g true gives k f h o p
