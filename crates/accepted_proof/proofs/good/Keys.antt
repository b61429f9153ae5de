-- What keys are for: dynamic regions that are made, opened and freed without fault, where all is known of each name in scope.
use Rattle.std.proofs.Common.{◌≡◌, ℕ, Bool, true, false, Option, Some, None, List, [], ◌∷◌, refl, sym, subst, ap, ◌∙◌, arith}
use Rattle.std.specs.Prelude.{◌++◌}
use Rattle.cyc_tree.specs.Places.{region_place}
use Rattle.cyc_tree.specs.Tree as tree
use Rattle.type_proof.proofs.invariant.Names.{same_only}
use Rattle.type_proof.proofs.statements.AliasScope.{opening, with_named, with_named_is}
use Rattle.type_proof.proofs.statements.Lexical.{names_with}
use Rattle.type_proof.specs.Judged.{DeclarationJudged, KeyOperand, extended}
use Rattle.source_typing.specs.Declarations.{declare, if_own_region, if_type, key_region, named_region, open_declared, opened_region, opens, operand}
use Rattle.source_typing.specs.Declarations.{region_declared, unknown_region, with_region}
use Rattle.source_typing.specs.Faults.{Fault}
use Rattle.source_typing.specs.Named.{Below, TypeBelow}
use Rattle.source_typing.specs.Places.{variable}
use Rattle.source_typing.specs.Regions.{Region, same_id, with_name}
use Rattle.source_typing.specs.Scope.{Env, Value, in_scope, meant, next_region, second, with_local}
use Rattle.source_typing.specs.Tables.{Stored}
use Rattle.source_typing.specs.Types.{Handle, Key, StaticType, is_key}
use Rattle.source_typing.specs.Verdicts.{Faulty, Of, Unjudged, Verdict, after, faults_of, if_fits, unless_faulty}
use Rattle.source_typing.proofs.Inversion.{after_clean, none_of_both}
use Rattle.accepted_proof.specs.Good.{IsGood, IsGoodValue, Surely}
use Rattle.accepted_proof.proofs.Sure.{surely_is}
use Rattle.accepted_proof.proofs.good.Names.{found_good}
use Rattle.accepted_proof.proofs.good.Places.{variable_judged}
use Rattle.accepted_proof.proofs.good.Scopes.{good_local, good_named, good_open, one_more}
use Rattle.accepted_proof.proofs.good.Uniques.{fits_true}

-- ---- what is of a key

-- a name of a key, and what is known of it
pub record GoodKey (g : Env) (x : tree.Name) : Type 0 where
  pub held : KeyOperand g x
  pub is : operand g x is_key ≡ Of held.value
  pub below : Below g.regions.count held.region

key_is : (t : StaticType) → is_key t ≡ true → (r : Region) × (t ≡ Key r)
key_is (Key r) e = (r, refl)
key_is _ e = absurd cc

pub key_operand : (g : Env) (x : tree.Name) → IsGood g → faults_of (operand g x is_key) ≡ [] → GoodKey g x
key_operand g x h p =
    let judged : Surely (λ v. IsGoodValue g v) (variable x.at (meant g x.text)) =
    variable_judged g x.at (meant g x.text) (found_good g.regions.count (in_scope g) x.text h.names) in
    let v = surely_is (λ v. IsGoodValue g v) (variable x.at (meant g x.text)) judged
    (after_clean (variable x.at (meant g x.text)) (if_type x.at is_key) p) in
    let q : faults_of (if_fits (is_key v.0.type) x.at v.0) ≡ [] = subst (λ z. faults_of (after z (if_type x.at is_key)) ≡ []) v.1 p in
    let e : is_key v.0.type ≡ true = fits_true (is_key v.0.type) x.at v.0 q in
    let u : (r : Region) × (v.0.type ≡ Key r) = key_is v.0.type e in
    record {
      held = record { value = v.0; judged = v.1; region = u.0; is = u.1 };
      is = ap (λ z. after z (if_type x.at is_key)) v.1 ∙ ap (λ (b : Bool). if_fits b x.at v.0) e;
      below = subst (λ (t : StaticType). TypeBelow g.regions.count t) u.1 v.2.below;
    }

-- ---- what is in scope after a declaration

-- a declaration that is in order, and what is known after it
pub record GoodDeclaration (g : Env) (d : tree.Declaration) : Type 0 where
  pub judged : DeclarationJudged g d
  pub good : IsGood (declare g d).scope
  pub result : (declare g d).scope.result ≡ g.result

-- a dynamic region: its name and its key are in scope from here on
pub key_good : (g : Env) (at : ℕ) (r : tree.RegionName) (x : tree.Name) → IsGood g → (declare g (tree.NewKey at r x)).faults ≡ []
    → GoodDeclaration g (tree.NewKey at r x)
key_good g at r x h p =
    let f = none_of_both (region_declared g r) (second g x) p in
    let t : StaticType = Key (next_region g) in
    let inside : Env = with_named false g (names_with r g) in
    let same : with_region r (with_name false) g ≡ inside = with_named_is false r g in
    let made : (declare g (tree.NewKey at r x)).scope ≡ extended (with_region r (with_name false) g) x t =
    subst (λ z. with_local x (Stored t g.frame) z ≡ extended z x t) (sym same) (one_more x (Stored t g.frame) inside f.1) in
    let scope : (declare g (tree.NewKey at r x)).scope ≡ extended inside x t = made ∙ ap (λ z. extended z x t) same in
    record {
      judged = made;
      good = subst (λ s. IsGood s) (sym scope) (good_local x t inside tt (omega arith) tt (good_named false r g h));
      result = ap (λ (s : Env). s.result) scope;
    }

-- ---- `open`

unless_clean : (fs : List Fault) (v : Verdict Region) → faults_of (unless_faulty fs v) ≡ [] → fs ≡ []
unless_clean [] v e = refl
unless_clean (f ∷ fs) v e = absurd cc

own_is : (b : Bool) (at : ℕ) (r : Region) → faults_of (if_own_region b at r) ≡ [] → (b ≡ true) × (if_own_region b at r ≡ Of r)
own_is true at r e = (refl, refl)
own_is false at r e = absurd cc

-- the name is that of the key's region
opens_is : (at : ℕ) (o : Option Region) (v : Value) (r : Region) → v.type ≡ Key r → faults_of (opens at o v) ≡ [] → opens at o v ≡ Of r
opens_is at None v r k e = absurd cc
opens_is at (Some q) v r k e =
    let z = own_is (same_id q (key_region v.type)) at q e in
    z.1 ∙ ap (λ (a : Region). Of a) (same_only q (key_region v.type) z.0 ∙ ap key_region k)

-- the region that is opened is the key's
pub opened_is : (g : Env) (r : tree.RegionName) (k : tree.Name) → IsGood g → faults_of (opened_region g r k) ≡ []
    → (o : GoodKey g k) × (opened_region g r k ≡ Of o.held.region)
opened_is g r k h p =
    let bad : List Fault = faults_of (operand g k is_key) ++ unknown_region g r in
    let rule : Value → Verdict Region = opens (region_place r) (named_region g r) in
    let clean : bad ≡ [] = unless_clean bad (after (operand g k is_key) rule) p in
    let o : GoodKey g k = key_operand g k h (none_of_both (faults_of (operand g k is_key)) (unknown_region g r) clean).0 in
    let same : opened_region g r k ≡ rule o.held.value =
    ap (λ (fs : List Fault). unless_faulty fs (after (operand g k is_key) rule)) clean ∙ ap (λ z. after z rule) o.is in
    (o, same ∙ opens_is (region_place r) (named_region g r) o.held.value o.held.region o.held.is (subst (λ z. faults_of z ≡ []) same p))

open_clean : (g : Env) (x : tree.Name) (v : Verdict Region) → (open_declared g x v).faults ≡ [] → (faults_of v ≡ []) × (second g x ≡ [])
open_clean g x (Of r) e = (refl, e)
open_clean g x (Faulty f fs) e = none_of_both (f ∷ fs) (second g x) e
open_clean g x Unjudged e = (refl, e)

-- its region is live, and its handle is in scope from here on
pub open_good : (g : Env) (at : ℕ) (r : tree.RegionName) (x k : tree.Name) → IsGood g → (declare g (tree.Open at r x k)).faults ≡ []
    → GoodDeclaration g (tree.Open at r x k)
open_good g at r x k h p =
    let c = open_clean g x (opened_region g r k) p in
    let z : (o : GoodKey g k) × (opened_region g r k ≡ Of o.held.region) = opened_is g r k h c.0 in
    let q : Region = z.0.held.region in
    let scope : (declare g (tree.Open at r x k)).scope ≡ extended (opening g q) x (Handle q) =
    ap (λ (v : Verdict Region). (open_declared g x v).scope) z.1 ∙ one_more x (Stored (Handle q) g.frame) (opening g q) c.1 in
    record {
      judged = record { operand = z.0.held; scope = scope };
      good = subst (λ s. IsGood s) (sym scope) (good_local x (Handle q) (opening g q) tt z.0.below tt (good_open q g h));
      result = ap (λ (s : Env). s.result) scope;
    }
