-- A declaration without fault, where all is known of each name in scope: it is in order, and all is known after it.
use Rattle.std.proofs.Common.{◌≡◌, ℕ, true, false, Option, Some, None, [], sym, subst, ap, ◌∙◌, arith}
use Rattle.std.specs.Prelude.{◌++◌}
use Rattle.cyc_tree.specs.Operands.{DeclarationHasOperands, ExpressionHasOperands}
use Rattle.cyc_tree.specs.Tree as tree
use Rattle.cyc_tree.specs.Tree.{Expression, Initializer, TypeName}
use Rattle.type_proof.proofs.statements.Lexical.{lexical, names_with, with_region_is}
use Rattle.type_proof.specs.Judged.{Accepted, arrayed, extended}
use Rattle.source_typing.specs.Conversions.{conversion, converts}
use Rattle.source_typing.specs.Converts.{Converts}
use Rattle.source_typing.specs.Declarations.{converted_to, declare, region_declared, set_faults, set_type, unset_type, what_after, what_of, with_region}
use Rattle.source_typing.specs.Expressions.{judge}
use Rattle.source_typing.specs.Regions.{with_scope}
use Rattle.source_typing.specs.Scope.{Env, Value, in_scope, next_region, second, with_local}
use Rattle.source_typing.specs.Tables.{Arrayed, Stored}
use Rattle.source_typing.specs.Types.{Handle, StaticType}
use Rattle.source_typing.specs.Verdicts.{Of, Verdict, faults_of}
use Rattle.source_typing.proofs.Converting.{broken_is, conversion_is}
use Rattle.source_typing.proofs.Inversion.{none_of_both}
use Rattle.accepted_proof.specs.Good.{ExpressionsJudged, IsGood, IsGoodValue, IsStructTag, NamesStructs}
use Rattle.accepted_proof.proofs.kinds.Perhaps.{perhaps_is}
use Rattle.accepted_proof.proofs.kinds.Types.{TagsAreMeant, set_named, unset_named}
use Rattle.accepted_proof.proofs.Sure.{surely_is}
use Rattle.accepted_proof.proofs.StructMembers.{struct_members}
use Rattle.accepted_proof.proofs.good.Scopes.{good_array, good_local, good_region, one_more}
use Rattle.accepted_proof.proofs.good.Uniques.{alias_good}
pub use Rattle.accepted_proof.proofs.good.Keys.{GoodDeclaration}
use Rattle.accepted_proof.proofs.good.Keys.{key_good, open_good}
use Rattle.accepted_proof.proofs.good.Locals.{IsLocalType, local_begins, set_good, unset_good, unset_shape}
use Rattle.accepted_proof.proofs.good.Types.{good_tags, tagged_same}

-- ---- expressions

-- an expression without fault
pub record GoodExpression (g : Env) (e : Expression) : Type 0 where
  pub accepted : Accepted g e
  pub good : IsGoodValue g accepted.value

-- what is converted without fault
pub converted_is : (g : Env) (v : Value) (t : StaticType) → converts g v t ≡ [] → Converts g.regions v.type t
converted_is g v t e = conversion_is g.regions v.type t (broken_is v.at (conversion g.regions v.type t) e)

module _ (expressions : ExpressionsJudged) where
  pub expression_good : (e : Expression) (g : Env) → IsGood g → ExpressionHasOperands e → faults_of (judge g e) ≡ []
      → GoodExpression g e
  expression_good e g h o p =
      let z = surely_is (λ v. IsGoodValue g v) (judge g e) (expressions e g h) p in
      record {
        accepted = record {
          value = z.0;
          judged = z.1;
          operands = o;
          members = struct_members e g h.kinds;
        };
        good = z.2;
      }

-- ---- locals

-- no name in scope is of a declaration with a fault
tags_meant : (g : Env) → IsGood g → TagsAreMeant g
tags_meant g h x = tagged_same (in_scope g) (good_tags g.regions.count (in_scope g) h.names) x

-- the structs that its type names
unset_kind : (g : Env) (t : TypeName) (count : Option ℕ) (u : StaticType) → IsGood g → unset_type g t count ≡ Of u → NamesStructs (IsStructTag g.tables) u
unset_kind g t count u h e =
    perhaps_is (λ z. NamesStructs (IsStructTag g.tables) z) (unset_type g t count) u
    (unset_named (IsStructTag g.tables) g t count (tags_meant g h) h.kinds) e

unset_declared : (g : Env) (t : TypeName) (x : tree.Name) → IsGood g → (declare g (tree.Local t x Initializer.Unset)).faults ≡ []
    → GoodDeclaration g (tree.Local t x Initializer.Unset)
unset_declared g t x h p =
    let f = none_of_both (faults_of (unset_type g t None)) (second g x) p in
    let z = surely_is (λ u. IsLocalType g t false None u) (unset_type g t None) (unset_good g t None h) f.0 in
    let scope : (declare g (tree.Local t x Initializer.Unset)).scope ≡ extended g x z.0 =
    ap (λ v. with_local x (what_of g.frame None v) g) z.1 ∙ one_more x (Stored z.0 g.frame) g f.1 in
    record {
      judged = record {
        type = z.0;
        object = z.2.object;
        below = z.2.below;
        begins = local_begins g t z.0 z.2;
        shape = unset_shape g t z.0 z.2;
        scope = scope;
      };
      good = subst (λ s. IsGood s) (sym scope) (good_local x z.0 g z.2.object z.2.below (unset_kind g t None z.0 h z.1) h);
      result = ap (λ (s : Env). s.result) scope;
    }

-- an array
array_declared : (g : Env) (t : TypeName) (x : tree.Name) (n : ℕ) → IsGood g → (declare g (tree.Local t x (Initializer.Elements n))).faults ≡ []
    → GoodDeclaration g (tree.Local t x (Initializer.Elements n))
array_declared g t x n h p =
    let f = none_of_both (faults_of (unset_type g t (Some n))) (second g x) p in
    let z = surely_is (λ u. IsLocalType g t false None u) (unset_type g t (Some n)) (unset_good g t (Some n) h) f.0 in
    let scope : (declare g (tree.Local t x (Initializer.Elements n))).scope ≡ arrayed g x z.0 =
    ap (λ v. with_local x (what_of g.frame (Some n) v) g) z.1 ∙ one_more x (Arrayed z.0 g.frame) g f.1 in
    record {
      judged = record {
        type = z.0;
        object = z.2.object;
        below = z.2.below;
        begins = local_begins g t z.0 z.2;
        shape = unset_shape g t z.0 z.2;
        scope = scope;
      };
      good = subst (λ s. IsGood s) (sym scope) (good_array x z.0 g z.2.object z.2.below (unset_kind g t (Some n) z.0 h z.1) h);
      result = ap (λ (s : Env). s.result) scope;
    }

-- a local whose initializer is in order
set_declared : (g : Env) (t : TypeName) (x : tree.Name) (e : Expression) → IsGood g → GoodExpression g e
    → set_faults g (judge g e) (set_type g t (judge g e)) ≡ []
    → second g x ≡ []
    → GoodDeclaration g (tree.Local t x (Initializer.Value e))
set_declared g t x e h a p q =
    let v : Value = a.accepted.value in
    let f : set_faults g (Of v) (set_type g t (Of v)) ≡ [] = subst (λ w. set_faults g w (set_type g t w) ≡ []) a.accepted.judged p in
    let b = none_of_both (faults_of (set_type g t (Of v)) ++ []) (converted_to g (Of v) (set_type g t (Of v))) f in
    let c = none_of_both (faults_of (set_type g t (Of v))) [] b.0 in
    let z = surely_is (λ u. IsLocalType g t true (Some v.type) u) (set_type g t (Of v)) (set_good g t v h a.good.type a.good.below) c.0 in
    let d : converts g v z.0 ≡ [] = subst (λ w. converted_to g (Of v) w ≡ []) z.1 b.1 in
    let kind : NamesStructs (IsStructTag g.tables) z.0 =
    perhaps_is (λ u. NamesStructs (IsStructTag g.tables) u) (set_type g t (Of v)) z.0
    (set_named (IsStructTag g.tables) g t (Of v) (tags_meant g h) h.kinds) z.1 in
    let type_is : set_type g t (judge g e) ≡ Of z.0 = ap (λ w. set_type g t w) a.accepted.judged ∙ z.1 in
    let scope : (declare g (tree.Local t x (Initializer.Value e))).scope ≡ extended g x z.0 =
    ap (λ fs. with_local x (what_after fs (what_of g.frame None (set_type g t (judge g e)))) g) p
    ∙ (ap (λ w. with_local x (what_of g.frame None w) g) type_is ∙ one_more x (Stored z.0 g.frame) g q) in
    record {
      judged = record {
        type = z.0;
        object = z.2.object;
        below = z.2.below;
        fitting = record { accepted = a.accepted; converts = converted_is g v z.0 d };
        shape = z.2.shape;
        scope = scope;
      };
      good = subst (λ s. IsGood s) (sym scope) (good_local x z.0 g z.2.object z.2.below kind h);
      result = ap (λ (s : Env). s.result) scope;
    }

-- ---- lexical regions

-- its name and its handle are in scope from here on
region_good : (g : Env) (at : ℕ) (r : tree.RegionName) (x : tree.Name) → IsGood g → (declare g (tree.Region at r x)).faults ≡ []
    → GoodDeclaration g (tree.Region at r x)
region_good g at r x h p =
    let f = none_of_both (region_declared g r) (second g x) p in
    let t : StaticType = Handle (next_region g) in
    let inside : Env = lexical g (names_with r g) in
    let same : with_region r with_scope g ≡ inside = with_region_is r g in
    let opened : (declare g (tree.Region at r x)).scope ≡ extended (with_region r with_scope g) x t =
    subst (λ z. with_local x (Stored t g.frame) z ≡ extended z x t) (sym same) (one_more x (Stored t g.frame) inside f.1) in
    let scope : (declare g (tree.Region at r x)).scope ≡ extended inside x t = opened ∙ ap (λ z. extended z x t) same in
    record {
      judged = opened;
      good = subst (λ s. IsGood s) (sym scope) (good_local x t inside tt (omega arith) tt (good_region r g h));
      result = ap (λ (s : Env). s.result) scope;
    }

-- ---- all declarations

module _ (expressions : ExpressionsJudged) where
  value_declared : (g : Env) (t : TypeName) (x : tree.Name) (e : Expression) → IsGood g → ExpressionHasOperands e
      → (declare g (tree.Local t x (Initializer.Value e))).faults ≡ []
      → GoodDeclaration g (tree.Local t x (Initializer.Value e))
  value_declared g t x e h o p =
      let v : Verdict Value = judge g e in
      let a = none_of_both (set_faults g v (set_type g t v)) (second g x) p in
      let b = none_of_both (faults_of (set_type g t v) ++ faults_of v) (converted_to g v (set_type g t v)) a.0 in
      let c = none_of_both (faults_of (set_type g t v)) (faults_of v) b.0 in
      set_declared g t x e h (expression_good expressions e g h o c.1) a.0 a.1

  pub declaration_good : (d : tree.Declaration) (g : Env) → IsGood g → DeclarationHasOperands d
      → (declare g d).faults ≡ []
      → GoodDeclaration g d
  declaration_good (tree.Region at r x) g h o p = region_good g at r x h p
  declaration_good (tree.Open at r x y) g h o p = open_good g at r x y h p
  declaration_good (tree.Alias at r u x y) g h o p =
      let a = alias_good g h at r u x y p in record { judged = a.judged; good = a.good; result = a.result }
  declaration_good (tree.NewKey at r x) g h o p = key_good g at r x h p
  declaration_good (tree.Local u x Initializer.Unset) g h o p = unset_declared g u x h p
  declaration_good (tree.Local u x (Initializer.Elements n)) g h o p = array_declared g u x n h p
  declaration_good (tree.Local u x (Initializer.Value e)) g h o p = value_declared g u x e h o p
