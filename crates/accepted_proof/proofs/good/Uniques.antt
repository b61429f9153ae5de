-- What unique pointers are for: aliases, exchanges and `ufree` without fault, where all is known of each name in scope.
use Rattle.std.proofs.Common.{◌≡◌, ℕ, Bool, true, false, Option, Some, None, List, [], ◌∷◌, refl, sym, subst, ap, ◌∙◌, arith}
use Rattle.std.specs.Prelude.{◌+◌, ◌++◌}
use Rattle.cyc_tree.specs.Tree as tree
use Rattle.cyc_tree.specs.Tree.{Expression, TypeName}
use Rattle.source_meaning.specs.Shapes.{single}
use Rattle.source_meaning.specs.Shapes as shapes
use Rattle.type_proof.proofs.statements.AliasScope.{aliasing, with_name_is}
use Rattle.type_proof.proofs.statements.Exchanged.{same_is}
use Rattle.type_proof.proofs.statements.Lexical.{names_with}
use Rattle.type_proof.proofs.statements.Surroundings.{type_up}
use Rattle.type_proof.specs.Entries.{IsObjectType}
use Rattle.type_proof.specs.Judged.{AliasOpened, UniqueOperand, extended}
use Rattle.source_typing.specs.Named.{TypeBelow}
use Rattle.source_typing.specs.Declarations.{alias_fits, alias_type, aliased, declare, if_type, misses_region, operand, region_declared, type_in_scope}
use Rattle.source_typing.specs.Declarations.{tags_in_scope, type_of_alias, what_of, with_region}
use Rattle.source_typing.specs.Exchanges.{acts, exchangeable, exchanged}
use Rattle.source_typing.specs.Expressions.{judge}
use Rattle.source_typing.specs.Faults.{Fault, own_after, region_rule, test, type_rule}
use Rattle.source_typing.specs.Missing.{settled}
use Rattle.source_typing.specs.Places.{variable}
use Rattle.source_typing.specs.Regions.{with_name}
use Rattle.source_typing.specs.Scope.{Env, Value, in_scope, meant, next_region, second, with_local}
use Rattle.source_typing.specs.Tables.{Stored, or_heap}
use Rattle.source_typing.specs.Types.{Key, PartialType, StaticType, Thin, Unique, Void, is_same, is_unique, shape_of}
use Rattle.source_typing.specs.Verdicts.{Faulty, Of, Unjudged, Verdict, after, both, faults_of, if_fits, unless_faulty}
use Rattle.source_typing.proofs.Inversion.{after_clean, none_of_both, own_is, test_is}
use Rattle.accepted_proof.specs.Good.{IsGood, IsGoodValue, IsStructTag, IsValueType, NamesStructs, Surely}
use Rattle.accepted_proof.proofs.kinds.Expressions.{expression_named}
use Rattle.accepted_proof.proofs.kinds.Perhaps.{perhaps_is}
use Rattle.accepted_proof.proofs.kinds.Phrases.{ValueNames}
use Rattle.accepted_proof.proofs.Owners.{settled_from}
use Rattle.accepted_proof.proofs.Sure.{surely_is}
use Rattle.accepted_proof.proofs.good.Locals.{IsSettled, object_settled}
use Rattle.accepted_proof.proofs.good.Names.{found_good}
use Rattle.accepted_proof.proofs.good.Places.{variable_judged}
use Rattle.accepted_proof.proofs.good.Scopes.{good_alias, good_local, one_more, region_names}
use Rattle.accepted_proof.proofs.good.Pointers.{IsWritten, WritesKey, WritesNothing, WritesObject}
use Rattle.accepted_proof.proofs.good.Types.{good_tags, scope_written, tagged_known}

-- ---- what is of a unique pointer

-- a name of a unique pointer, and what is known of it
pub record GoodOperand (g : Env) (x : tree.Name) : Type 0 where
  pub held : UniqueOperand g x
  pub is : operand g x is_unique ≡ Of held.value
  pub good : IsGoodValue g held.value
  pub named : NamesStructs (IsStructTag g.tables) held.value.type

unique_is : (t : StaticType) → is_unique t ≡ true → (n : Bool) × (u : StaticType) × (t ≡ Unique n u)
unique_is (Unique n u) e = (n, u, refl)
unique_is _ e = absurd cc

pub fits_true : (b : Bool) (at : ℕ) (v : Value) → faults_of (if_fits b at v) ≡ [] → b ≡ true
fits_true true at v e = refl
fits_true false at v e = absurd cc

pub unique_operand : (g : Env) (x : tree.Name) → IsGood g → faults_of (operand g x is_unique) ≡ [] → GoodOperand g x
unique_operand g x h p =
    let judged : Surely (λ v. IsGoodValue g v) (variable x.at (meant g x.text)) =
    variable_judged g x.at (meant g x.text) (found_good g.regions.count (in_scope g) x.text h.names) in
    let v = surely_is (λ v. IsGoodValue g v) (variable x.at (meant g x.text)) judged
    (after_clean (variable x.at (meant g x.text)) (if_type x.at is_unique) p) in
    let q : faults_of (if_fits (is_unique v.0.type) x.at v.0) ≡ [] = subst (λ z. faults_of (after z (if_type x.at is_unique)) ≡ []) v.1 p in
    let e : is_unique v.0.type ≡ true = fits_true (is_unique v.0.type) x.at v.0 q in
    let u : (n : Bool) × (t : StaticType) × (v.0.type ≡ Unique n t) = unique_is v.0.type e in
    record {
      held = record { value = v.0; judged = v.1; nullable = u.0; to = u.1; is = u.2 };
      is = ap (λ z. after z (if_type x.at is_unique)) v.1 ∙ ap (λ (b : Bool). if_fits b x.at v.0) e;
      good = v.2;
      named = perhaps_is (λ a. ValueNames (IsStructTag g.tables) a) (judge g (Expression.Variable x)) v.0
          (expression_named (IsStructTag g.tables) (Expression.Variable x) g h.kinds) v.1;
    }

-- ---- aliases

-- the type of an alias is its pointer's, with the next region for the unique one
pub record IsAliasType (g : Env) (of : TypeName) (n : Bool) (to : StaticType) (v : Verdict StaticType) : Type 0 where
  pub is : v ≡ Of (Thin (single n) (next_region g) to)
  pub shape : shapes.settled_by (shapes.written of) (shape_of (Unique n to)) ≡ shape_of (Thin (single n) (next_region g) to)

wanted_is : (at : ℕ) (w t : StaticType) → faults_of (alias_fits at w t) ≡ [] → (t ≡ w) × (alias_fits at w t ≡ Of w)
wanted_is at w t e = by (is_same t w) refl e
  where
    by : (b : Bool) → is_same t w ≡ b → faults_of (unless_faulty (test b region_rule at) (Of t)) ≡ []
        → (t ≡ w) × (unless_faulty (test b region_rule at) (Of t) ≡ Of w)
    by true q e = let same : t ≡ w = same_is t w q in (same, ap (λ (u : StaticType). Of u) same)
    by false q e = absurd cc

-- with what is written of it, by the pointer's type
alias_is : (g : Env) (of : TypeName) (n : Bool) (to : StaticType) (p : PartialType) → IsWritten true (g.regions.count + 1) of p → IsObjectType to
    → TypeBelow g.regions.count to
    → faults_of (after (settled of.at p (Some (Unique n to))) (alias_fits of.at (Thin (single n) (next_region g) to))) ≡ []
    → IsAliasType g of n to (after (settled of.at p (Some (Unique n to))) (alias_fits of.at (Thin (single n) (next_region g) to)))
alias_is g of n to p (WritesNothing v e) o b q =
    absurd (no (subst (λ z. faults_of (after (settled of.at z (Some (Unique n to))) (alias_fits of.at (Thin (single n) (next_region g) to))) ≡ []) e q))
  where
    no : faults_of (alias_fits of.at (Thin (single n) (next_region g) to) Void) ≡ [] → ⊥
    no e = cc
alias_is g of n to p (WritesKey w) o b q =
    absurd (no (subst (λ z. faults_of (after (settled of.at z (Some (Unique n to))) (alias_fits of.at (Thin (single n) (next_region g) to))) ≡ []) w.is q))
  where
    no : faults_of (alias_fits of.at (Thin (single n) (next_region g) to) (Key (or_heap w.region))) ≡ [] → ⊥
    no e = cc
alias_is g of n to p (WritesObject w) o b q =
    let m : ℕ = g.regions.count + 1 in
    let s : Option StaticType = Some (Unique n to) in
    let k : Surely (λ t. IsSettled m (shapes.written of) s t) (settled of.at p s) =
    object_settled true m of.at (shapes.written of) p s (λ e. absurd cc) w.object w.writes (o, type_up g.regions.count to b) in
    let rule : StaticType → Verdict StaticType = alias_fits of.at (Thin (single n) (next_region g) to) in
    let t = surely_is (λ t. IsSettled m (shapes.written of) s t) (settled of.at p s) k (after_clean (settled of.at p s) rule q) in
    let f = wanted_is of.at (Thin (single n) (next_region g) to) t.0 (subst (λ z. faults_of (after z rule) ≡ []) t.1 q) in
    record {
      is = ap (λ z. after z rule) t.1 ∙ f.1;
      shape = subst (λ z. settled_from (shapes.written of) s ≡ shape_of z) f.0 t.2.shape;
    }

module _ (g : Env) (h : IsGood g) (at : ℕ) (r : tree.RegionName) (of : TypeName) (x p : tree.Name) where
  abbrev inside : Env
  inside = aliasing g (names_with r g)

  -- an alias, and what is known after it
  pub record GoodAlias : Type 0 where
    pub judged : AliasOpened g at r of x p
    pub good : IsGood (declare g (tree.Alias at r of x p)).scope
    pub result : (declare g (tree.Alias at r of x p)).scope.result ≡ g.result

  type_is : (k : GoodOperand g p) → faults_of (type_of_alias g inside of p) ≡ []
      → IsAliasType g of k.held.nullable k.held.to (type_of_alias g inside of p)
  type_is k q =
      let v : Value = k.held.value in
      let n : Bool = k.held.nullable in
      let to : StaticType = k.held.to in
      let unique : v.type ≡ Unique n to = k.held.is in
      let rule : Verdict Value → PartialType → Verdict StaticType = alias_type of.at (next_region g) (misses_region g of) in
      let written : Surely (λ z. IsWritten true (g.regions.count + 1) of z) (type_in_scope inside of) =
      scope_written (g.regions.count + 1) (tags_in_scope g) (names_with r g) of
      (tagged_known (in_scope g) (good_tags g.regions.count (in_scope g) h.names)) (region_names r g h) in
      let w = surely_is (λ z. IsWritten true (g.regions.count + 1) of z) (type_in_scope inside of) written
      (after_clean (type_in_scope inside of) (rule (operand g p is_unique)) q) in
      let object : IsObjectType to = subst (λ z. IsValueType z) unique k.good.type in
      let below : TypeBelow g.regions.count to = subst (λ z. TypeBelow g.regions.count z) unique k.good.below in
      let same : type_of_alias g inside of p ≡ after (settled of.at w.0 (Some (Unique n to))) (alias_fits of.at (Thin (single n) (next_region g) to)) =
      ap (λ z. after z (rule (operand g p is_unique))) w.1
      ∙ (ap (λ z. rule z w.0) k.is
      ∙ ap (λ (t : StaticType). after (settled of.at w.0 (Some t)) (alias_fits of.at (aliased (next_region g) t))) unique) in
      subst (λ z. IsAliasType g of n to z) (sym same)
      (alias_is g of n to w.0 w.2 object below (subst (λ z. faults_of z ≡ []) same q))

  pub alias_good : (declare g (tree.Alias at r of x p)).faults ≡ [] → GoodAlias
  alias_good q = by (with_region r (with_name true) g) (with_name_is r g) q
    where
      by : (z : Env) → z ≡ inside
          → region_declared g r ++ faults_of (operand g p is_unique) ++ faults_of (type_of_alias g z of p) ++ second g x ≡ []
          → GoodAlias
      by z same q =
          let a = none_of_both (region_declared g r ++ faults_of (operand g p is_unique) ++ faults_of (type_of_alias g z of p)) (second g x) q in
          let b = none_of_both (region_declared g r ++ faults_of (operand g p is_unique)) (faults_of (type_of_alias g z of p)) a.0 in
          let c = none_of_both (region_declared g r) (faults_of (operand g p is_unique)) b.0 in
          let k : GoodOperand g p = unique_operand g p h c.1 in
          let n : Bool = k.held.nullable in
          let to : StaticType = k.held.to in
          let t : StaticType = Thin (single n) (next_region g) to in
          let types : IsAliasType g of n to (type_of_alias g inside of p) =
          type_is k (subst (λ y. faults_of (type_of_alias g y of p) ≡ []) same b.1) in
          let open_is : with_region r (with_name true) g ≡ inside = with_name_is r g in
          let found : type_of_alias g (with_region r (with_name true) g) of p ≡ Of t =
          ap (λ (y : Env). type_of_alias g y of p) open_is ∙ types.is in
          let opened : (declare g (tree.Alias at r of x p)).scope ≡ extended (with_region r (with_name true) g) x t =
          ap (λ y. with_local x (what_of g.frame None y) (with_region r (with_name true) g)) found
          ∙ subst (λ y. with_local x (Stored t g.frame) y ≡ extended y x t) (sym open_is) (one_more x (Stored t g.frame) inside a.1) in
          let scope : (declare g (tree.Alias at r of x p)).scope ≡ extended inside x t = opened ∙ ap (λ y. extended y x t) open_is in
          let object : IsObjectType to = subst (λ y. IsValueType y) k.held.is k.good.type in
          let below : TypeBelow g.regions.count to = subst (λ y. TypeBelow g.regions.count y) k.held.is k.good.below in
          let kind : NamesStructs (IsStructTag g.tables) to = subst (λ y. NamesStructs (IsStructTag g.tables) y) k.held.is k.named in
          record {
            judged = record { operand = k.held; shape = types.shape; scope = opened };
            good = subst (λ s. IsGood s) (sym scope)
                (good_local x t inside object (omega arith, type_up g.regions.count to below) kind (good_alias r g h));
            result = ap (λ (s : Env). s.result) scope;
          }

-- ---- exchanges

both_clean : {A B C : Type 0} (v : Verdict A) (w : Verdict B) (rule : A → B → Verdict C) → faults_of (both v w rule) ≡ []
    → (faults_of v ≡ []) × (faults_of w ≡ [])
both_clean (Faulty f fs) (Faulty c cs) rule e = absurd cc
both_clean (Faulty f fs) Unjudged rule e = absurd cc
both_clean (Faulty f fs) (Of b) rule e = absurd cc
both_clean Unjudged (Faulty c cs) rule e = absurd cc
both_clean Unjudged Unjudged rule e = (refl, refl)
both_clean Unjudged (Of b) rule e = (refl, refl)
both_clean (Of a) (Faulty c cs) rule e = absurd cc
both_clean (Of a) Unjudged rule e = (refl, refl)
both_clean (Of a) (Of b) rule e = (refl, refl)

pub record ExchangeClean (g : Env) (a b : Expression) : Type 0 where
  pub left : faults_of (judge g a) ≡ []
  pub right : faults_of (judge g b) ≡ []

pub exchange_clean : (g : Env) (a b : Expression) → faults_of (both (judge g a) (judge g b) (exchanged (acts a ++ acts b))) ≡ [] → ExchangeClean g a b
exchange_clean g a b e =
    let z = both_clean (judge g a) (judge g b) (exchanged (acts a ++ acts b)) e in record { left = z.0; right = z.1 }

-- the places fit, and nothing acts inside them
pub exchange_fits : (a b : Expression) (v w : Value) → faults_of (exchanged (acts a ++ acts b) v w) ≡ []
    → (exchangeable v w ≡ true) × (acts b ≡ [])
exchange_fits a b v w e =
    let own : own_after (test (exchangeable v w) type_rule v.at) (acts a ++ acts b) ≡ [] =
    by (own_after (test (exchangeable v w) type_rule v.at) (acts a ++ acts b)) e in
    let z = own_is (test (exchangeable v w) type_rule v.at) (acts a ++ acts b) own in
    (test_is (exchangeable v w) type_rule v.at z.0, (none_of_both (acts a) (acts b) z.1).1)
  where
    by : (fs : List Fault) → faults_of (unless_faulty fs (Of v)) ≡ [] → fs ≡ []
    by [] e = refl
    by (f ∷ fs) e = absurd cc
