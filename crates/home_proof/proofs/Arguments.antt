-- In a body that the rules take, no call has more arguments than its function has parameters.
use Rattle.std.proofs.Common.{
  ◌≡◌,
  ◌⊎◌,
  ℕ,
  zero,
  suc,
  ◌≤◌,
  Bool,
  true,
  false,
  inl,
  inr,
  Option,
  Some,
  None,
  List,
  [],
  ◌∷◌,
  length,
  refl,
  sym,
  subst,
  ap,
  ◌∙◌,
  arith,
}
use Rattle.std.specs.Prelude.{bytes_eq, codes, if◌then◌else◌}
use Rattle.std.proofs.lemmas.Bool.{eqb-true, false≢true}
use Rattle.std.proofs.lemmas.List.{length-map}
use Rattle.cyc_tree.specs.Tree as tree
use Rattle.cyc_tree.specs.Tree.{Expression, Expressions, NoExpressions, MoreExpressions, Links, NoLinks, MoreLinks, Suffixes, NoSuffixes, Index, Dot, Arrow}
use Rattle.cyc_tree.specs.Tree.{
  Array,
  BlockItems,
  Case,
  Clauses,
  Declare,
  Default,
  Execute,
  Initializer,
  MoreClauses,
  NoClauses,
  NoItems,
  One,
  Program,
  Statement,
}
use Rattle.source_meaning.specs.Calls.{function_of}
use Rattle.source_meaning.specs.Expressions.{is_unique_region}
use Rattle.source_meaning.specs.Programs.{world_of}
use Rattle.source_meaning.specs.Shapes.{IntShape, Shape}
use Rattle.source_meaning.specs.Steps.{Routine, World}
use Rattle.source_typing.specs.Calls.{Target, ToBuiltin, ToFunction, arguments_fit, builtin_parameters, call_entered, called, target, target_of_tag}
use Rattle.source_typing.specs.Calls.{union_made, union_tag}
use Rattle.source_typing.specs.Declarations.{declare, with_region}
use Rattle.source_typing.specs.Expressions.{judge, judge_all, judge_links, judge_suffixes, judge_tests}
use Rattle.source_typing.specs.Making.{Goal, To, goal_of, handled, inside, made, with_counter}
use Rattle.source_typing.specs.Operators.{applied, counted, tested_both}
use Rattle.source_typing.specs.Places.{arrow, grouped, indexed, member}
use Rattle.source_typing.specs.Programs.{tables_of}
use Rattle.source_typing.specs.Regions.{Regions, TheHeap, with_name, with_scope}
use Rattle.source_typing.specs.Scope.{Env, block_entered, Local, Value, meant, value, with_locals}
use Rattle.source_typing.specs.Statements.{Chosen, clause_scope}
use Rattle.source_typing.specs.Tables.{Arrayed, Counter, Entry, OfBuiltin, OfFunction, OfOther, OfTag, OfValue, Signature, Stored, Tables, Unknown, find}
use Rattle.source_typing.specs.Types.{Int, StaticType, shape_of}
use Rattle.source_typing.specs.Verdicts.{Of, Verdict, after, both}
use Rattle.source_typing.proofs.CallsFit.{arguments_are, sound_is}
use Rattle.source_typing.proofs.Inversion.{after_is, array_is, assign_is, both_is, call_is, goal_is, links_first, of_is, prefix_is, suffixes_first, tests_first}
use Rattle.source_lowering.specs.Lowered.{call_parameters, makes_struct, parameter_shapes}
use Rattle.type_proof.specs.Entries.{Builtin, Function, Structure, Unioned}
use Rattle.type_proof.specs.Judged.{ClausesJudged, DeclarationJudged, ItemsJudged, PatternJudged, StatementJudged, on_union}
use Rattle.type_proof.specs.Programs.{ProgramJudged}
use Rattle.source_typing.specs.Fixing.{more}
use Rattle.accepted_proof.proofs.lowered.Calls.{makes_one, no_kind}
use Rattle.home_proof.specs.Arguments.{
  AreEnough,
  AreEnoughBy,
  HasArguments,
  AllHaveArguments,
  LinksHaveArguments,
  SuffixesHaveArguments,
  DeclarationHasArguments,
  StatementHasArguments,
  HaveArguments,
  ClausesHaveArguments,
}

-- ---- what is called

-- a function has as many parameters in the tables as in lowering, and a struct is made
abbrev pub CallFits : World → (x : List ℕ) → Entry → Type 0
CallFits w x (OfFunction s) = (length s.parameters ≡ length (call_parameters w x))
CallFits w x (OfBuiltin n) = (n ≡ length (call_parameters w x))
CallFits w x (OfTag t) = t.is_union ≡ false → makes_struct w x ≡ true
CallFits w x e = Unit {0}

abbrev pub CallsFit : World → Tables → Type 0
CallsFit w g = (x : List ℕ) (e : Entry) → find g x ≡ Some e → CallFits w x e

-- a local is nothing that is called
meant_fits : (w : World) (g : Tables) (ls : List Local) (x : List ℕ) (e : Entry) → CallsFit w g → find (with_locals ls g) x ≡ Some e → CallFits w x e
meant_fits w g [] x e fit q = fit x e q
meant_fits w g (l ∷ ls) x e fit q = by (bytes_eq l.name x) (λ z. meant_fits w g ls x e fit z) q
  where
    by : (b : Bool) → (find (with_locals ls g) x ≡ Some e → CallFits w x e) → (if b then Some (OfValue l.what) else find (with_locals ls g) x) ≡ Some e
        → CallFits w x e
    by true others p = let z : OfValue l.what ≡ e = cc in subst (λ d. CallFits w x d) z tt
    by false others p = others p

many_builtin : (n : ℕ) → length (builtin_parameters n) ≡ n
many_builtin zero = refl
many_builtin (suc n) = let h = many_builtin n in ap suc h

module _ (w : World) where
  enough_by : (g : Env) (ss : List Shape) (es : Expressions) (vs : List Value) → judge_all g es ≡ Of vs → length vs ≤ length ss → AreEnough ss es
  enough_by g [] NoExpressions vs p h = tt
  enough_by g (s ∷ ss) NoExpressions vs p h = tt
  enough_by g [] (MoreExpressions e es) vs p h =
      let z = both_is (judge g e) (judge_all g es) more vs p in
      absurd (some z.0 z.1 (subst (λ (ys : List Value). length ys ≤ 0) (sym (of_is (z.0 ∷ z.1) vs z.4)) h))
    where
      some : (y : Value) (ys : List Value) → length (y ∷ ys) ≤ 0 → ⊥
      some y ys k = omega (arith, k)
  enough_by g (s ∷ ss) (MoreExpressions e es) vs p h =
      let z = both_is (judge g e) (judge_all g es) more vs p in
      enough_by g ss es z.1 z.3 (fewer z.0 z.1 (subst (λ (ys : List Value). length ys ≤ suc (length ss)) (sym (of_is (z.0 ∷ z.1) vs z.4)) h))
    where
      fewer : (y : Value) (ys : List Value) → length (y ∷ ys) ≤ suc (length ss) → length ys ≤ length ss
      fewer y ys k = omega (arith, k)

  as_called : (b : Bool) (ss : List Shape) (es : Expressions) → AreEnough ss es → AreEnoughBy b ss es
  as_called true ss es h = tt
  as_called false ss es h = h

  made_enough : (ss : List Shape) (es : Expressions) (b : Bool) → b ≡ true → AreEnoughBy b ss es
  made_enough ss es true h = tt
  made_enough ss es false h = cc

  call_enough : (g : Env) (x : tree.Name) (es : Expressions) (o : Option Entry) (t : Target) (vs : List Value) (v : Value)
      → ((e : Entry) → o ≡ Some e → CallFits w x.text e) → target x.at o ≡ Of t → judge_all g es ≡ Of vs → called g x.at t vs ≡ Of v
      → AreEnoughBy (makes_struct w x.text) (call_parameters w x.text) es
  call_enough g x es None t vs v k q p e = absurd cc
  call_enough g x es (Some (OfValue (Stored u r))) t vs v k q p e = absurd cc
  call_enough g x es (Some (OfValue (Arrayed u r))) t vs v k q p e = absurd cc
  call_enough g x es (Some (OfValue Counter)) t vs v k q p e = absurd cc
  call_enough g x es (Some (OfValue (Unknown true))) t vs v k q p e = absurd cc
  call_enough g x es (Some (OfValue (Unknown false))) t vs v k q p e = absurd cc
  call_enough g x es (Some OfOther) t vs v k q p e = absurd cc
  call_enough g x es (Some (OfTag u)) t vs v k q p e = of u.is_union refl q
    where
      of : (b : Bool) → u.is_union ≡ b → target_of_tag b u x.at ≡ Of t → AreEnoughBy (makes_struct w x.text) (call_parameters w x.text) es
      of true z y = absurd (no_kind u.sound x.at t y)
      of false z y = made_enough (call_parameters w x.text) es (makes_struct w x.text) (k (OfTag u) refl z)
  call_enough g x es (Some (OfFunction s)) t vs v k q p e =
      let f : called g x.at (ToFunction s) vs ≡ Of v = subst (λ (y : Target). called g x.at y vs ≡ Of v) (sound_is s.sound s t q) e in
      let z = after_is (arguments_fit g x.at s.regions s.parameters vs) (call_entered g x.at s) v f in
      let a = arguments_are g x.at s.regions s.parameters vs z.0 z.1 in
      let many : length s.parameters ≡ length vs = eqb-true (length s.parameters) (length vs) a.count in
      let fit : length s.parameters ≡ length (call_parameters w x.text) = k (OfFunction s) refl in
      as_called (makes_struct w x.text) (call_parameters w x.text) es (enough_by g (call_parameters w x.text) es vs p (omega (arith, many, fit)))
  call_enough g x es (Some (OfBuiltin n)) t vs v k q p e =
      let f : called g x.at (ToBuiltin n) vs ≡ Of v = subst (λ (y : Target). called g x.at y vs ≡ Of v) (sym (of_is (ToBuiltin n) t q)) e in
      let z = after_is (arguments_fit g x.at 0 (builtin_parameters n) vs) (λ rs. value x.at Int) v f in
      let a = arguments_are g x.at 0 (builtin_parameters n) vs z.0 z.1 in
      let many : length (builtin_parameters n) ≡ length vs = eqb-true (length (builtin_parameters n)) (length vs) a.count in
      let count = many_builtin n in
      let fit : n ≡ length (call_parameters w x.text) = k (OfBuiltin n) refl in
      as_called (makes_struct w x.text) (call_parameters w x.text) es (enough_by g (call_parameters w x.text) es vs p (omega (arith, many, count, fit)))

  unique_enough : (h : Expression) → is_unique_region h ≡ true → HasArguments w h
  unique_enough (Expression.UniqueRegion at) q = tt
  unique_enough (Expression.Grouped at h) q = unique_enough h q
  unique_enough _ q = absurd cc

  -- the handle of a making is judged, or that of the unique region
  handle_enough : (g : Env) (h : Expression) (b : Bool) (x : Goal) → is_unique_region h ≡ b → goal_of b g (judge g h) ≡ Of x
      → ((y : Value) → judge g h ≡ Of y → HasArguments w h) → HasArguments w h
  handle_enough g h true x u q k = unique_enough h u
  handle_enough g h false x u q k = let y = after_is (judge g h) (handled g) x q in k y.0 y.1

  -- ---- expressions

  mutual
    pub enough_is : (g : Env) (fit : CallsFit w g.tables) (e : Expression) (v : Value) → judge g e ≡ Of v → HasArguments w e
    enough_is g fit (Expression.Number at n suffix) v p = tt
    enough_is g fit (Expression.Character at byte) v p = tt
    enough_is g fit (Expression.Text at bytes) v p = tt
    enough_is g fit (Expression.Null at) v p = tt
    enough_is g fit (Expression.HeapRegion at) v p = tt
    enough_is g fit (Expression.UniqueRegion at) v p = tt
    enough_is g fit (Expression.Variable x) v p = tt
    enough_is g fit (Expression.Call x es) v p =
        let z = call_is g x es v p in (
          call_enough g x es (meant g x.text) z.0 z.1 v (λ e q. meant_fits w g.tables g.locals x.text e fit q) z.2 z.3 z.4,
          all_enough g fit es z.1 z.3,
        )
    enough_is g fit (Expression.MakeUnion tag f e) v p =
        let z = both_is (union_tag tag f (meant g tag.text)) (judge g e) (union_made g tag.at) v p in enough_is g fit e z.1 z.3
    enough_is g fit (Expression.NumElts at e) v p = let z = after_is (judge g e) (counted at) v p in enough_is g fit e z.0 z.1
    enough_is g fit (Expression.Grouped at e) v p = let z = after_is (judge g e) (grouped at) v p in enough_is g fit e z.0 z.1
    enough_is g fit (Expression.Suffixed e es) v p =
        let z = suffixes_first g (judge g e) es v p in (enough_is g fit e z.0 z.1, suffixes_enough g fit es (judge g e) v p)
    enough_is g fit (Expression.Prefixed at o e) v p = let z = prefix_is g at o e v p in enough_is g fit e z.0 z.1
    enough_is g fit (Expression.New at (One e)) v p =
        let z = goal_is at (Of (To TheHeap)) (judge g e) v p in enough_is g fit e z.1 z.3
    enough_is g fit (Expression.New at (Array x n e)) v p =
        let z = array_is at (Of (To TheHeap)) (judge g n) (judge (with_counter x g) e) v p in
        (enough_is g fit n z.1 z.4, enough_is (with_counter x g) fit e z.2 z.5)
    enough_is g fit (Expression.NewIn at h (One e)) v p =
        let goal : Verdict Goal = goal_of (is_unique_region h) g (judge g h) in
        let z = goal_is at goal (judge (inside goal g) e) v p in (
          handle_enough g h (is_unique_region h) z.0 refl z.2 (λ y q. enough_is g fit h y q),
          enough_is (inside goal g) fit e z.1 z.3,
        )
    enough_is g fit (Expression.NewIn at h (Array x n e)) v p =
        let goal : Verdict Goal = goal_of (is_unique_region h) g (judge g h) in
        let z = array_is at goal (judge (inside goal g) n) (judge (with_counter x (inside goal g)) e) v p in (
          handle_enough g h (is_unique_region h) z.0 refl z.3 (λ y q. enough_is g fit h y q),
          (enough_is (inside goal g) fit n z.1 z.4, enough_is (with_counter x (inside goal g)) fit e z.2 z.5),
        )
    enough_is g fit (Expression.Chain e es) v p =
        let z = links_first g (judge g e) es v p in (enough_is g fit e z.0 z.1, links_enough g fit es (judge g e) v p)
    enough_is g fit (Expression.AllOf e es) v p =
        let z = tests_first g (judge g e) es v p in (enough_is g fit e z.0 z.1, tests_enough g fit es (judge g e) v p)
    enough_is g fit (Expression.AnyOf e es) v p =
        let z = tests_first g (judge g e) es v p in (enough_is g fit e z.0 z.1, tests_enough g fit es (judge g e) v p)
    enough_is g fit (Expression.Assign to from) v p =
        let z = assign_is g to from v p in (enough_is g fit to z.0 z.2, enough_is g fit from z.1 z.3)

    all_enough : (g : Env) (fit : CallsFit w g.tables) (es : Expressions) (vs : List Value) → judge_all g es ≡ Of vs → AllHaveArguments w es
    all_enough g fit NoExpressions vs p = tt
    all_enough g fit (MoreExpressions e es) vs p =
        let z = both_is (judge g e) (judge_all g es) more vs p in (enough_is g fit e z.0 z.2, all_enough g fit es z.1 z.3)

    tests_enough : (g : Env) (fit : CallsFit w g.tables) (es : Expressions) (a : Verdict Value) (v : Value) → judge_tests g a es ≡ Of v
        → AllHaveArguments w es
    tests_enough g fit NoExpressions a v p = tt
    tests_enough g fit (MoreExpressions e es) a v p =
        let b : Verdict Value = both a (judge g e) tested_both in
        let z = tests_first g b es v p in
        let y = both_is a (judge g e) tested_both z.0 z.1 in (enough_is g fit e y.1 y.3, tests_enough g fit es b v p)

    links_enough : (g : Env) (fit : CallsFit w g.tables) (es : Links) (a : Verdict Value) (v : Value) → judge_links g a es ≡ Of v → LinksHaveArguments w es
    links_enough g fit NoLinks a v p = tt
    links_enough g fit (MoreLinks o e es) a v p =
        let b : Verdict Value = both a (judge g e) (applied g o) in
        let z = links_first g b es v p in
        let y = both_is a (judge g e) (applied g o) z.0 z.1 in (enough_is g fit e y.1 y.3, links_enough g fit es b v p)

    suffixes_enough : (g : Env) (fit : CallsFit w g.tables) (es : Suffixes) (a : Verdict Value) (v : Value) → judge_suffixes g a es ≡ Of v
        → SuffixesHaveArguments w es
    suffixes_enough g fit NoSuffixes a v p = tt
    suffixes_enough g fit (Index e es) a v p =
        let b : Verdict Value = both a (judge g e) (indexed g) in
        let z = suffixes_first g b es v p in
        let y = both_is a (judge g e) (indexed g) z.0 z.1 in (enough_is g fit e y.1 y.3, suffixes_enough g fit es b v p)
    suffixes_enough g fit (Dot f es) a v p = suffixes_enough g fit es (after a (member g f)) v p
    suffixes_enough g fit (Arrow f es) a v p = suffixes_enough g fit es (after a (arrow g f)) v p

  -- ---- statements

  declaration_enough : (d : tree.Declaration) (g : Env) → CallsFit w g.tables → DeclarationJudged g d → DeclarationHasArguments w d
  declaration_enough (tree.Local of x Initializer.Unset) g fit j = tt
  declaration_enough (tree.Local of x (Initializer.Elements count)) g fit j = tt
  declaration_enough (tree.Local of x (Initializer.Value e)) g fit j = enough_is g fit e j.fitting.accepted.value j.fitting.accepted.judged
  declaration_enough (tree.Region at r x) g fit j = tt
  declaration_enough (tree.Alias at r of x p) g fit j = tt
  declaration_enough (tree.NewKey at r x) g fit j = tt
  declaration_enough (tree.Open at r x k) g fit j = tt

  region_tables : (r : tree.RegionName) (next : Regions → Regions) (g : Env) → (with_region r next g).tables ≡ g.tables
  region_tables (tree.Named n) next g = refl
  region_tables _ next g = refl

  -- a declaration leaves the tables as they are
  tables_behind : (d : tree.Declaration) (g : Env) → DeclarationJudged g d → (declare g d).scope.tables ≡ g.tables
  tables_behind (tree.Local of x Initializer.Unset) g j = ap (λ (z : Env). z.tables) j.scope
  tables_behind (tree.Local of x (Initializer.Elements count)) g j = ap (λ (z : Env). z.tables) j.scope
  tables_behind (tree.Local of x (Initializer.Value e)) g j = ap (λ (z : Env). z.tables) j.scope
  tables_behind (tree.Region at r x) g j = ap (λ (z : Env). z.tables) j ∙ region_tables r with_scope g
  tables_behind (tree.Alias at r of x p) g j = ap (λ (z : Env). z.tables) j.scope ∙ region_tables r (with_name true) g
  tables_behind (tree.NewKey at r x) g j = ap (λ (z : Env). z.tables) j ∙ region_tables r (with_name false) g
  tables_behind (tree.Open at r x k) g j = ap (λ (z : Env). z.tables) j.scope

  tables_inside : (pattern : tree.Pattern) (g : Env) (c : Chosen) → PatternJudged g c pattern → (clause_scope g (Some c) pattern).tables ≡ g.tables
  tables_inside Default g c j = refl
  tables_inside (Case f x) g c j = ap (λ (z : Env). z.tables) j.scope

  mutual
    statement_enough : (s : Statement) (g : Env) (reached : Bool) → CallsFit w g.tables → StatementJudged g reached s → StatementHasArguments w s
    statement_enough (Statement.Empty at) g reached fit j = tt
    statement_enough (Statement.Block at items) g reached fit j = items_enough items _ reached fit j
    statement_enough (Statement.Run e) g reached fit j = enough_is g fit e j.value j.judged
    statement_enough (Statement.Exchange a b) g reached fit j =
        (enough_is g fit a j.left.value j.left.judged, enough_is g fit b j.right.value j.right.judged)
    statement_enough (Statement.If at e body) g reached fit j =
        (enough_is g fit e j.0.accepted.value j.0.accepted.judged, statement_enough body g reached fit j.1)
    statement_enough (Statement.IfElse at e body otherwise) g reached fit j = (
      enough_is g fit e j.0.accepted.value j.0.accepted.judged,
      (statement_enough body g reached fit j.1.0, statement_enough otherwise g reached fit j.1.1),
    )
    statement_enough (Statement.While at e body) g reached fit j =
        (enough_is g fit e j.0.accepted.value j.0.accepted.judged, statement_enough body _ reached fit j.1)
    statement_enough (Statement.Switch at e cs) g reached fit j =
        (enough_is g fit e j.0.accepted.value j.0.accepted.judged, clauses_enough cs _ reached (on_union j.0) fit j.1)
    statement_enough (Statement.Break at) g reached fit j = tt
    statement_enough (Statement.Continue at) g reached fit j = tt
    statement_enough (Statement.Return at None) g reached fit j = tt
    statement_enough (Statement.Return at (Some e)) g reached fit j = enough_is g fit e j.fitting.accepted.value j.fitting.accepted.judged
    statement_enough (Statement.FreeUnique at x) g reached fit j = tt
    statement_enough (Statement.FreeKey at x) g reached fit j = tt

    pub items_enough : (items : BlockItems) (g : Env) (reached : Bool) → CallsFit w g.tables → ItemsJudged g reached items → HaveArguments w items
    items_enough NoItems g reached fit j = tt
    items_enough (Declare d others) g reached fit j = (
      declaration_enough d g fit j.0,
      items_enough others (declare g d).scope reached (subst (λ (z : Tables). CallsFit w z) (sym (tables_behind d g j.0)) fit) j.1,
    )
    items_enough (Execute s others) g reached fit j = (statement_enough s g reached fit j.0, items_enough others g _ fit j.1)

    clauses_enough : (cs : Clauses) (g : Env) (reached : Bool) (c : Chosen) → CallsFit w g.tables → ClausesJudged g reached c cs → ClausesHaveArguments w cs
    clauses_enough NoClauses g reached c fit j = tt
    clauses_enough (MoreClauses at pattern body others) g reached c fit j = (
      items_enough body (clause_scope g (Some c) pattern) reached (subst (λ (z : Tables). CallsFit w z) (sym (tables_inside pattern g c j.1)) fit) j.2,
      clauses_enough others g reached c fit j.3,
    )

-- ---- programs

named_parameters : (w : World) (x : List ℕ) → bytes_eq x (codes "getchar") ≡ false → bytes_eq x (codes "putchar") ≡ false
    → call_parameters w x ≡ parameter_shapes (function_of w.functions x)
named_parameters w x a b =
    ap (λ (z : Bool). if z then [] else (if bytes_eq x (codes "putchar") then IntShape ∷ [] else parameter_shapes (function_of w.functions x))) a ∙
    ap (λ (z : Bool). if z then IntShape ∷ [] else parameter_shapes (function_of w.functions x)) b

builtin_fits : (w : World) (x : List ℕ) (n : ℕ) → Builtin x n → n ≡ length (call_parameters w x)
builtin_fits w x n (inl z) =
    let others : List Shape = (if bytes_eq x (codes "putchar") then IntShape ∷ [] else parameter_shapes (function_of w.functions x)) in
    z.1 ∙ sym (ap (λ (b : Bool). length (if b then [] else others)) z.0)
builtin_fits w x n (inr z) =
    let own : List Shape = parameter_shapes (function_of w.functions x) in
    z.2 ∙ sym (ap (λ (b : Bool). length (if b then [] else (if bytes_eq x (codes "putchar") then IntShape ∷ [] else own))) z.0 ∙
    ap (λ (b : Bool). length (if b then IntShape ∷ [] else own)) z.1)

-- the names of a program that is judged are what lowering takes them for
pub calls_fit : (p : Program) → ProgramJudged p (tables_of false p) → CallsFit (world_of p) (tables_of false p)
calls_fit p judged x (OfFunction s) q =
    let f : Function (world_of p) x s = judged.plain x (OfFunction s) q in
    ap length f.parameters ∙ (length-map f.types (λ (t : StaticType). Some t) ∙
    sym (ap length (named_parameters (world_of p) x f.not_read f.not_written) ∙
    (ap (λ (o : Option Routine). length (parameter_shapes o)) f.found ∙ (ap length f.shapes ∙ length-map f.types (λ (t : StaticType). shape_of t)))))
calls_fit p judged x (OfBuiltin n) q = builtin_fits (world_of p) x n (judged.plain x (OfBuiltin n) q)
calls_fit p judged x (OfTag t) q = by (judged.plain x (OfTag t) q)
  where
    by : Structure (world_of p) x t ⊎ Unioned (world_of p) x t → t.is_union ≡ false → makes_struct (world_of p) x ≡ true
    by (inl s) none = makes_one (world_of p) x s.not_read s.not_written s.there
    by (inr u) none = absurd (false≢true (sym none ∙ u.union))
calls_fit p judged x (OfValue (Stored t r)) q = tt
calls_fit p judged x (OfValue (Arrayed t r)) q = tt
calls_fit p judged x (OfValue Counter) q = tt
calls_fit p judged x (OfValue (Unknown sound)) q = tt
calls_fit p judged x OfOther q = tt
