-- A statement in which the rules find no fault has none without those on live regions.
use Rattle.std.proofs.Common.{◌≡◌, ℕ, Bool, true, Option, Some, None, List, [], ◌++◌, refl, sym, subst, ap, ap₂, ◌∙◌}
use Rattle.std.specs.Prelude.{not, ◌&&◌}
use Rattle.cyc_tree.specs.Places.{expression_place}
use Rattle.cyc_tree.specs.Tree as tree
use Rattle.cyc_tree.specs.Tree.{BlockItems, Case, Clauses, Declare, Default, Execute, Expression, MoreClauses, NoClauses, NoItems, Statement}
use Rattle.source_typing.proofs.Inversion.{both_none, none_of_both, own_is}
use Rattle.source_typing.specs.Declarations.{Declared, declare}
use Rattle.source_typing.specs.Exchanges.{acts, exchanged}
use Rattle.source_typing.specs.Expressions.{judge}
use Rattle.source_typing.specs.Faults.{Fault, own_after, test, type_rule}
use Rattle.source_typing.specs.Scope.{Env, Value, block_entered, next_region, with_local}
use Rattle.source_typing.specs.Statements.{Chosen, bound_what, chosen, clause_names, clause_scope, clauses_faults, condition, condition_faults, in_a_loop}
use Rattle.source_typing.specs.Statements.{in_a_switch, items_faults, parts_of_chosen, returned, statement_faults, switched, switched_on}
use Rattle.source_typing.specs.Tables.{Part, part_in}
use Rattle.source_typing.specs.Types.{StaticType, Void}
use Rattle.source_typing.specs.Verdicts.{Faulty, Of, Unjudged, Verdict, after, both, faults_of}
use Rattle.source_typing.specs.Ways.{ways_of, ways_of_items}
use Rattle.region_types.proofs.EasedDeclarations.{declare_eased, eased_after, local_eased}
use Rattle.region_types.proofs.EasedExpressions.{judge_stays}
use Rattle.region_types.proofs.EasedPhrases.{Stays, eased, own_none, stays_after, stays_both, stays_clean, stays_is, stays_same}

-- ---- results

returned_same : (g : Env) (at : ℕ) (t : Option StaticType) (v : Option (Verdict Value)) → returned (eased g) at t v ≡ returned g at t v
returned_same g at None None = refl
returned_same g at (Some Void) None = refl
returned_same g at (Some t) None = refl
returned_same g at t (Some (Faulty f fs)) = refl
returned_same g at None (Some v) = refl
returned_same g at (Some Void) (Some v) = refl
returned_same g at (Some t) (Some (Of v)) = refl
returned_same g at (Some t) (Some v) = refl

-- a result without fault is of an expression without fault
result_clean : (g : Env) (at : ℕ) (t : Option StaticType) (v : Verdict Value) → returned g at t (Some v) ≡ [] → faults_of v ≡ []
result_clean g at t (Of v) e = refl
result_clean g at t Unjudged e = refl
result_clean g at None (Faulty f fs) e = absurd cc
result_clean g at (Some Void) (Faulty f fs) e = absurd cc
result_clean g at (Some t) (Faulty f fs) e = absurd cc

-- ---- `switch`

switched_same : (g : Env) (at : ℕ) (cs : Clauses) (v : Value) (c : Option Chosen) → switched_on (eased g) at cs v c ≡ switched_on g at cs v c
switched_same g at cs v None = refl
switched_same g at cs v (Some c) = refl

parts_same : (g : Env) (c : Option Chosen) → parts_of_chosen (eased g) c ≡ parts_of_chosen g c
parts_same g None = refl
parts_same g (Some c) = refl

names_same : (g : Env) (c : Option Chosen) (p : tree.Pattern) → clause_names (eased g) c p ≡ clause_names g c p
names_same g None p = refl
names_same g (Some c) Default = refl
names_same g (Some c) (Case f x) = refl

scope_eased : (g : Env) (c : Option Chosen) (p : tree.Pattern) → clause_scope (eased g) c p ≡ eased (clause_scope g c p)
scope_eased g c Default = refl
scope_eased g c (Case f x) =
    let what = λ (ps : List Part). bound_what (next_region g) c (part_in ps f.text) in
    ap (λ ps. with_local x (what ps) (eased (block_entered g))) (parts_same g c) ∙ local_eased x (what (parts_of_chosen g c)) (block_entered g)

-- ---- statements

condition_clean : (g : Env) (e : Expression) → condition_faults g e ≡ [] → condition_faults (eased g) e ≡ []
condition_clean g e none =
    let rule = condition (expression_place e) in
    stays_clean (after (judge g e) rule) (after (judge (eased g) e) rule)
    (stays_after (judge g e) (judge (eased g) e) rule rule (judge_stays e g) (λ v. stays_same (rule v))) none

exchange_clean : (g : Env) (a b : Expression) → statement_faults g true (Statement.Exchange a b) ≡ []
    → statement_faults (eased g) true (Statement.Exchange a b) ≡ []
exchange_clean g a b none =
    let rule = exchanged (acts a ++ acts b) in
    stays_clean (both (judge g a) (judge g b) rule) (both (judge (eased g) a) (judge (eased g) b) rule)
    (stays_both (judge g a) (judge (eased g) a) (judge g b) (judge (eased g) b) rule rule (judge_stays a g) (judge_stays b g) (λ x y. stays_same (rule x y)))
    none

value_clean : (g : Env) (at : ℕ) (t : Option StaticType) (e : Expression) → returned g at t (Some (judge g e)) ≡ []
    → returned (eased g) at t (Some (judge (eased g) e)) ≡ []
value_clean g at t e none =
    let same = stays_is (judge g e) (judge (eased g) e) (judge_stays e g) (result_clean g at t (judge g e) none) in
    ap (λ v. returned (eased g) at t (Some v)) same ∙ returned_same g at t (Some (judge g e)) ∙ none

-- the faults of a `switch`, where its expression and its clauses are so
abbrev switch_faults : Env → ℕ → Clauses → Verdict Value → List Fault → List Fault
switch_faults g at cs v inner = own_after (faults_of (after v (switched g at cs))) (faults_of v ++ inner)

switch_same : (g : Env) (at : ℕ) (cs : Clauses) (v : Verdict Value) (inner : List Fault)
    → switch_faults (eased g) at cs v inner ≡ switch_faults g at cs v inner
switch_same g at cs v inner =
    ap (λ rule. own_after (faults_of (after v rule)) (faults_of v ++ inner)) (λ i x. switched_same g at cs x (chosen (Of x)) i)

switch_clean : (g : Env) (at : ℕ) (cs : Clauses) (v w : Verdict Value) (inner others : List Fault) → Stays v w → (inner ≡ [] → others ≡ [])
    → switch_faults g at cs v inner ≡ [] → switch_faults (eased g) at cs w others ≡ []
switch_clean g at cs v w inner others s clauses none =
    let all = own_is (faults_of (after v (switched g at cs))) (faults_of v ++ inner) none in
    let parts = none_of_both (faults_of v) inner all.1 in
    ap₂ (switch_faults (eased g) at cs) (stays_is v w s parts.0) (clauses parts.1 ∙ sym parts.1) ∙ switch_same g at cs v inner ∙ none

-- what was declared, and the rest of its block
declared_clean : (d other : Declared) (rest : Env → List Fault) → (d.faults ≡ [] → other ≡ eased_after d)
    → (rest d.scope ≡ [] → rest (eased d.scope) ≡ []) → d.faults ++ rest d.scope ≡ [] → other.faults ++ rest other.scope ≡ []
declared_clean d other rest is others none =
    let all = none_of_both d.faults (rest d.scope) none in
    subst (λ (x : Declared). x.faults ++ rest x.scope ≡ []) (sym (is all.0)) (both_none d.faults (rest (eased d.scope)) all.0 (others all.1))

mutual
  pub statement_clean : (s : Statement) (g : Env) (reached : Bool) → statement_faults g reached s ≡ [] → statement_faults (eased g) reached s ≡ []
  statement_clean (Statement.Empty at) g reached none = refl
  statement_clean (Statement.Block at items) g reached none = items_clean items (block_entered g) reached none
  statement_clean (Statement.Run e) g reached none = stays_clean (judge g e) (judge (eased g) e) (judge_stays e g) none
  statement_clean (Statement.Exchange a b) g reached none = exchange_clean g a b none
  statement_clean (Statement.If at e body) g reached none =
      let all = none_of_both (condition_faults g e) (statement_faults g reached body) none in
      both_none (condition_faults (eased g) e) (statement_faults (eased g) reached body) (condition_clean g e all.0) (statement_clean body g reached all.1)
  statement_clean (Statement.IfElse at e body otherwise) g reached none =
      let all = none_of_both (condition_faults g e ++ statement_faults g reached body) (statement_faults g reached otherwise) none in
      let first = none_of_both (condition_faults g e) (statement_faults g reached body) all.0 in
      both_none (condition_faults (eased g) e ++ statement_faults (eased g) reached body) (statement_faults (eased g) reached otherwise)
      (both_none (condition_faults (eased g) e) (statement_faults (eased g) reached body) (condition_clean g e first.0)
      (statement_clean body g reached first.1)) (statement_clean otherwise g reached all.1)
  statement_clean (Statement.While at e body) g reached none =
      let all = none_of_both (condition_faults g e) (statement_faults (in_a_loop g) reached body) none in
      both_none (condition_faults (eased g) e) (statement_faults (in_a_loop (eased g)) reached body) (condition_clean g e all.0)
      (statement_clean body (in_a_loop g) reached all.1)
  statement_clean (Statement.Switch at e cs) g reached none =
      let inner = clauses_faults (in_a_switch g) reached (chosen (judge g e)) cs in
      let own = faults_of (after (judge g e) (switched g at cs)) in
      let clean = (none_of_both (faults_of (judge g e)) inner (own_is own (faults_of (judge g e) ++ inner) none).1).0 in
      switch_clean g at cs (judge g e) (judge (eased g) e) inner (clauses_faults (in_a_switch (eased g)) reached (chosen (judge (eased g) e)) cs)
      (judge_stays e g)
      (λ h. ap (λ v. clauses_faults (in_a_switch (eased g)) reached (chosen v) cs) (stays_is (judge g e) (judge (eased g) e) (judge_stays e g) clean)
      ∙ clauses_clean cs (in_a_switch g) reached (chosen (judge g e)) h) none
  statement_clean (Statement.Break at) g reached none = none
  statement_clean (Statement.Continue at) g reached none = none
  statement_clean (Statement.Return at None) g reached none = returned_same g at g.result None ∙ none
  statement_clean (Statement.Return at (Some e)) g reached none = value_clean g at g.result e none
  statement_clean (Statement.FreeUnique at p) g reached none = none
  statement_clean (Statement.FreeKey at k) g reached none = none

  pub items_clean : (items : BlockItems) (g : Env) (reached : Bool) → items_faults g reached items ≡ [] → items_faults (eased g) reached items ≡ []
  items_clean NoItems g reached none = refl
  items_clean (Declare d others) g reached none =
      declared_clean (declare g d) (declare (eased g) d) (λ f. items_faults f reached others) (declare_eased g d)
      (λ h. items_clean others (declare g d).scope reached h) none
  items_clean (Execute s others) g reached none =
      let falls = reached && (ways_of s).falls in
      let all = none_of_both (statement_faults g reached s) (items_faults g falls others) none in
      both_none (statement_faults (eased g) reached s) (items_faults (eased g) falls others) (statement_clean s g reached all.0)
      (items_clean others g falls all.1)

  clauses_clean : (cs : Clauses) (g : Env) (reached : Bool) (c : Option Chosen) → clauses_faults g reached c cs ≡ []
      → clauses_faults (eased g) reached c cs ≡ []
  clauses_clean NoClauses g reached c none = refl
  clauses_clean (MoreClauses at pattern body others) g reached c none =
      let end = test (not (reached && (ways_of_items body).falls)) type_rule at in
      let inside = clause_scope g c pattern in
      let all = none_of_both (own_after end (clause_names g c pattern ++ items_faults inside reached body)) (clauses_faults g reached c others) none in
      let own = own_is end (clause_names g c pattern ++ items_faults inside reached body) all.0 in
      let parts = none_of_both (clause_names g c pattern) (items_faults inside reached body) own.1 in
      both_none (own_after end (clause_names (eased g) c pattern ++ items_faults (clause_scope (eased g) c pattern) reached body))
      (clauses_faults (eased g) reached c others)
      (own_none end (clause_names (eased g) c pattern ++ items_faults (clause_scope (eased g) c pattern) reached body) own.0
      (both_none (clause_names (eased g) c pattern) (items_faults (clause_scope (eased g) c pattern) reached body) (names_same g c pattern ∙ parts.0)
      (ap (λ f. items_faults f reached body) (scope_eased g c pattern) ∙ items_clean body inside reached parts.1)))
      (clauses_clean others g reached c all.1)
