-- A `switch` without fault, where all is known of each name in scope: it is on a union's place, its clauses are for the members, and the name of a clause
-- stands for a copy of an object.
use Rattle.std.proofs.Common.{◌≡◌, ℕ, Bool, true, false, Option, Some, None, List, [], ◌∷◌, refl, sym, subst, ap, ap₂, ◌∙◌}
use Rattle.std.specs.Prelude.{◌&&◌, ◌++◌, bytes_eq, if◌then◌else◌, is_some, map, not}
use Rattle.std.proofs.lemmas.Bool.{not-true}
use Rattle.cyc_tree.specs.Tree as tree
use Rattle.cyc_tree.specs.Tree.{BlockItems, Case, Clauses, Default, Expression, MoreClauses, Statement}
use Rattle.type_proof.proofs.expressions.Fixed.{object_below}
use Rattle.type_proof.proofs.expressions.Words.{object_renamed}
use Rattle.type_proof.proofs.statements.Surroundings.{type_up}
use Rattle.type_proof.specs.Entries.{AreObjects, IsObjectType}
use Rattle.type_proof.specs.Judged.{PatternJudged, Switching, extended, on_union}
use Rattle.source_typing.specs.Calls.{part_types}
use Rattle.source_typing.specs.Faults.{Fault, name_rule, own_after, test, type_rule}
use Rattle.source_typing.specs.Named.{AllBelow, TypeBelow}
use Rattle.source_typing.specs.Regions.{Region}
use Rattle.source_typing.specs.Scope.{Env, In, InBlock, Nowhere, Seat, Value, block_entered, next_region, with_local}
use Rattle.source_typing.specs.Statements.{Chosen, bound_what, chosen, chosen_of, clause_names, clause_scope, clauses_faults, clauses_fit}
use Rattle.source_typing.specs.Statements.{in_a_switch, items_faults, part_what, statement_faults, switched, switched_on}
use Rattle.source_typing.specs.Expressions.{judge}
use Rattle.source_typing.specs.Ways.{ways_of_items}
use Rattle.source_typing.specs.Tables.{Entry, OfBuiltin, OfFunction, OfOther, OfTag, OfValue, Part, Stored, What, argument, as_tag, find, part_in, parts_in}
use Rattle.source_typing.specs.Tables.{parts_of_tag}
use Rattle.source_typing.specs.Types.{StaticType, Union, renamed}
use Rattle.source_typing.specs.Verdicts.{Of, after, faults_of, if_fits}
use Rattle.source_typing.proofs.Inversion.{none_of_both, own_is, test_is}
use Rattle.accepted_proof.specs.Good.{IsGood, IsStructTag, NamesIfKnown, NamesStructs, PartsName}
use Rattle.accepted_proof.proofs.good.Declarations.{GoodExpression}
use Rattle.accepted_proof.proofs.good.Names.{MeansGood, found_good}
use Rattle.accepted_proof.proofs.good.Scopes.{first_inside, good_block, good_local}
use Rattle.accepted_proof.proofs.kinds.Phrases.{renamed_named, tag_parts_named}
use Rattle.accepted_proof.proofs.StructMembers.{tables_good}

-- ---- faults

-- a `switch` without fault
pub record SwitchClean (g : Env) (c : Bool) (at : ℕ) (e : Expression) (cs : Clauses) : Type 0 where
  pub own : faults_of (after (judge g e) (switched g at cs)) ≡ []
  pub place : faults_of (judge g e) ≡ []
  pub clauses : clauses_faults (in_a_switch g) c (chosen (judge g e)) cs ≡ []

pub switch_clean : (g : Env) (c : Bool) (at : ℕ) (e : Expression) (cs : Clauses) → statement_faults g c (Statement.Switch at e cs) ≡ []
    → SwitchClean g c at e cs
switch_clean g c at e cs p =
    let z = own_is (faults_of (after (judge g e) (switched g at cs)))
    (faults_of (judge g e) ++ clauses_faults (in_a_switch g) c (chosen (judge g e)) cs) p in
    let w = none_of_both (faults_of (judge g e)) (clauses_faults (in_a_switch g) c (chosen (judge g e)) cs) z.1 in
    record { own = z.0; place = w.0; clauses = w.1 }

-- a clause without fault, before others: its end isn't reached
pub record ClauseClean (g : Env) (c : Bool) (u : Chosen) (pattern : tree.Pattern) (body : BlockItems) (others : Clauses) : Type 0 where
  pub falls : c && (ways_of_items body).falls ≡ false
  pub names : clause_names g (Some u) pattern ≡ []
  pub body_clean : items_faults (clause_scope g (Some u) pattern) c body ≡ []
  pub others_clean : clauses_faults g c (Some u) others ≡ []

pub clause_clean : (g : Env) (c : Bool) (u : Chosen) (at : ℕ) (pattern : tree.Pattern) (body : BlockItems) (others : Clauses)
    → clauses_faults g c (Some u) (MoreClauses at pattern body others) ≡ [] → ClauseClean g c u pattern body others
clause_clean g c u at pattern body others p =
    let falls : Bool = c && (ways_of_items body).falls in
    let inner : List Fault = clause_names g (Some u) pattern ++ items_faults (clause_scope g (Some u) pattern) c body in
    let z = none_of_both (own_after (test (not falls) type_rule at) inner) (clauses_faults g c (Some u) others) p in
    let w = own_is (test (not falls) type_rule at) inner z.0 in
    let y = none_of_both (clause_names g (Some u) pattern) (items_faults (clause_scope g (Some u) pattern) c body) w.1 in
    record {
      falls = not-true falls (test_is (not falls) type_rule at w.0);
      names = y.0;
      body_clean = y.1;
      others_clean = z.1;
    }

-- ---- the union

record SwitchedOn (g : Env) (cs : Clauses) (v : Value) : Type 0 where
  tag : List ℕ
  regions : List Region
  is : v.type ≡ Union tag regions
  place : chosen (Of v) ≡ Some (record { tag = tag; regions = regions })
  fit : clauses_fit g (record { tag = tag; regions = regions }) cs ≡ true

switched_is : (g : Env) (at : ℕ) (cs : Clauses) (v : Value) → faults_of (switched g at cs v) ≡ [] → SwitchedOn g cs v
switched_is g at cs v p = by v.type v.seat refl refl p
  where
    fits : (b : Bool) → faults_of (if_fits b at v) ≡ [] → b ≡ true
    fits true e = refl
    fits false e = absurd cc

    by : (t : StaticType) (s : Seat) → v.type ≡ t → v.seat ≡ s → faults_of (switched_on g at cs v (chosen_of t s)) ≡ [] → SwitchedOn g cs v
    by t Nowhere e q p = absurd cc
    by (Union tag rs) (In r) e q p = record {
      tag = tag;
      regions = rs;
      is = e;
      place = ap₂ (λ (t : StaticType) (s : Seat). chosen_of t s) e q;
      fit = fits (clauses_fit g (record { tag = tag; regions = rs }) cs) p;
    }
    by (Union tag rs) InBlock e q p = record {
      tag = tag;
      regions = rs;
      is = e;
      place = ap₂ (λ (t : StaticType) (s : Seat). chosen_of t s) e q;
      fit = fits (clauses_fit g (record { tag = tag; regions = rs }) cs) p;
    }
    by _ (In r) e q p = absurd cc
    by _ InBlock e q p = absurd cc

-- what a `switch` without fault is on, and what is known of its region arguments
pub record GoodSwitch (g : Env) (e : Expression) (cs : Clauses) : Type 0 where
  pub switching : Switching g e cs
  pub below : AllBelow g.regions.count switching.regions

pub switch_good : (g : Env) (at : ℕ) (e : Expression) (cs : Clauses) (a : GoodExpression g e) → faults_of (after (judge g e) (switched g at cs)) ≡ []
    → GoodSwitch g e cs
switch_good g at e cs a p =
    let s : SwitchedOn g cs a.accepted.value =
    switched_is g at cs a.accepted.value (subst (λ v. faults_of (after v (switched g at cs)) ≡ []) a.accepted.judged p) in
    record {
      switching = record {
        accepted = a.accepted;
        tag = s.tag;
        regions = s.regions;
        is = s.is;
        place = ap (λ v. chosen v) a.accepted.judged ∙ s.place;
        fit = s.fit;
      };
      below = subst (λ t. TypeBelow g.regions.count t) s.is a.good.below;
    }

-- the faults of its clauses, by what it is on
pub clauses_on : (g : Env) (c : Bool) (at : ℕ) (e : Expression) (cs : Clauses) (s : Switching g e cs) → SwitchClean g c at e cs
    → clauses_faults (in_a_switch g) c (Some (on_union s)) cs ≡ []
clauses_on g c at e cs s z = subst (λ x. clauses_faults (in_a_switch g) c x cs ≡ []) s.place z.clauses

-- ---- the name of a clause

-- the type of a member, which is an object's
record PartKnown (P : List ℕ → Type 0) (p : Part) : Type 0 where
  type : StaticType
  is : p.type ≡ Some type
  object : IsObjectType type
  kind : NamesStructs P type

part_known : (P : List ℕ → Type 0) (ps : List Part) (ts : List StaticType) (x : List ℕ) (p : Part) → part_types ps ≡ map (λ t. Some t) ts → AreObjects ts
    → PartsName P ps → part_in ps x ≡ Some p → PartKnown P p
part_known P [] ts x p e o k q = absurd cc
part_known P (a ∷ ps) [] x p e o k q = absurd cc
part_known P (a ∷ ps) (t ∷ ts) x p e o k q =
    let c : a.type ≡ Some t = cc in
    let d : part_types ps ≡ map (λ t. Some t) ts = cc in
    by (bytes_eq a.name x) c (λ r. part_known P ps ts x p d o.1 k.1 r) q
  where
    by : (b : Bool) → a.type ≡ Some t → (part_in ps x ≡ Some p → PartKnown P p) → (if b then Some a else part_in ps x) ≡ Some p → PartKnown P p
    by true c others r =
        let same : a ≡ p = cc in
        record {
          type = t;
          is = ap (λ (z : Part). z.type) (sym same) ∙ c;
          object = o.0;
          kind = subst (λ (z : Option StaticType). NamesIfKnown P z) c k.0;
        }
    by false c others r = others r

tag_part_known : (count : ℕ) (P : List ℕ → Type 0) (z : Option Entry) (x : List ℕ) (p : Part) → MeansGood count z → PartsName P (parts_of_tag (as_tag z))
    → part_in (parts_of_tag (as_tag z)) x ≡ Some p → PartKnown P p
tag_part_known count P None x p h k q = absurd cc
tag_part_known count P (Some (OfTag t)) x p h k q = part_known P t.parts h.types x p h.parts h.objects k q
tag_part_known count P (Some (OfValue v)) x p h k q = absurd cc
tag_part_known count P (Some (OfFunction f)) x p h k q = absurd cc
tag_part_known count P (Some (OfBuiltin n)) x p h k q = absurd cc
tag_part_known count P (Some OfOther) x p h k q = absurd cc

some_is : {A : Type 0} (o : Option A) → is_some o ≡ true → (a : A) × (o ≡ Some a)
some_is None e = absurd cc
some_is (Some a) e = (a, refl)

-- a clause's pattern that is in order, and what is known in its block
pub record GoodPattern (g : Env) (c : Chosen) (p : tree.Pattern) : Type 0 where
  pub judged : PatternJudged g c p
  pub good : IsGood (clause_scope g (Some c) p)
  pub result : (clause_scope g (Some c) p).result ≡ g.result

pub pattern_good : (g : Env) (c : Chosen) (p : tree.Pattern) → IsGood g → AllBelow g.regions.count c.regions → clause_names g (Some c) p ≡ []
    → GoodPattern g c p
pattern_good g c Default h b q = record { judged = tt; good = good_block g h; result = refl }
pattern_good g c (Case f x) h b q =
    let s = some_is (part_in (parts_in g.tables c.tag) f.text) (test_is (is_some (part_in (parts_in g.tables c.tag) f.text)) name_rule f.at q) in
    let k : PartKnown (IsStructTag g.tables) s.0 =
    tag_part_known g.regions.count (IsStructTag g.tables) (find g.tables c.tag) f.text s.0
    (found_good g.regions.count g.tables c.tag (tables_good g h)) (tag_parts_named (IsStructTag g.tables) g c.tag h.kinds) s.1 in
    let t : StaticType = renamed (argument c.regions) k.type in
    let what : bound_what (next_region g) (Some c) (part_in (parts_in g.tables c.tag) f.text) ≡ Stored t (next_region g) =
    ap (λ (o : Option Part). bound_what (next_region g) (Some c) o) s.1
    ∙ ap (λ (o : Option StaticType). part_what (next_region g) c.regions o) k.is in
    let scope : clause_scope g (Some c) (Case f x) ≡ extended (block_entered g) x t =
    ap (λ (w : What). with_local x w (block_entered g)) what ∙ first_inside x (Stored t (next_region g)) g h in
    record {
      judged = record { part = s.0; type = k.type; found = s.1; typed = k.is; scope = scope };
      good = subst (λ z. IsGood z) (sym scope)
          (good_local x t (block_entered g) (object_renamed (argument c.regions) k.type k.object)
          (type_up g.regions.count t (object_below g.regions.count c.regions k.type k.object b))
          (renamed_named (IsStructTag g.tables) (argument c.regions) k.type k.kind) (good_block g h));
      result = ap (λ (z : Env). z.result) scope;
    }
