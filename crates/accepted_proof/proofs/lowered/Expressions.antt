-- Each expression that was judged is taken by lowering, where all is known of each name in scope.
use Rattle.std.proofs.Common.{◌≡◌, ℕ, Bool, true, false, Option, Some, None, List, [], ◌∷◌, refl, sym, subst, ap, ◌∙◌}
use Rattle.std.specs.Prelude.{length, nat_lt}
use Rattle.cyc_tree.specs.Operands.{AllHaveOperands, AreSuffixed, ExpressionHasOperands, LinksHaveOperands, SuffixesHaveOperands}
use Rattle.cyc_tree.specs.Tree.{Array, Arrow, Dot, Expression, Expressions, Index, Links, MoreExpressions, MoreLinks, Name, NoExpressions, NoLinks, NoSuffixes}
use Rattle.cyc_tree.specs.Tree.{One, Suffixes}
use Rattle.source_lowering.specs.Lowerable.{IsOperandShape, Takes}
use Rattle.source_lowering.specs.Lowered.{Named, element_names, named_shape, static_shape, valued}
use Rattle.source_lowering.specs.Pieces.{owner_in}
use Rattle.source_meaning.specs.Shapes.{NeverNull}
use Rattle.source_meaning.specs.Calls.{number_type}
use Rattle.source_meaning.specs.Expressions.{is_unique_region}
use Rattle.source_meaning.specs.Memory.{IntegerType, AsInt, AsUnsigned, AsChar}
use Rattle.source_meaning.specs.Programs.{integer_shape}
use Rattle.source_meaning.specs.Shapes.{Shape, ThinShape, UnsignedShape}
use Rattle.source_meaning.specs.Steps.{World}
use Rattle.source_typing.specs.Expressions.{judge, judge_all, judge_links, judge_suffixes, judge_tests}
use Rattle.source_typing.specs.Fixing.{more}
use Rattle.source_typing.specs.Making.{Goal, To, ToUnique, array_made, goal_of, handled, inside, made, with_counter}
use Rattle.source_typing.specs.Operators.{applied, counted, is_fat, tested_both}
use Rattle.source_typing.specs.Places.{grouped, variable}
use Rattle.source_typing.specs.Regions.{TheHeap}
use Rattle.source_typing.specs.Scope.{Env, In, Value, meant}
use Rattle.source_typing.specs.Tables.{Arrayed, Counter, Entry, OfBuiltin, OfFunction, OfOther, OfTag, OfValue, Stored, Unknown}
use Rattle.source_typing.specs.Types.{Char, Fat, Handle, Null, StaticType, Unsigned, integer_type, shape_of}
use Rattle.source_typing.specs.Verdicts.{Of, Verdict, both}
use Rattle.source_typing.proofs.Inversion.{after_is, array_is, assign_is, both_is, call_is, goal_is, links_first, of_is, prefix_is, suffixes_first, tests_first}
use Rattle.source_typing.proofs.OperatorsFit.{applied_to_is, counted_is}
use Rattle.type_proof.proofs.expressions.FatForms.{text_valued}
use Rattle.type_proof.proofs.expressions.Makings.{Handled, array_handled, handled_is}
use Rattle.type_proof.proofs.expressions.Single.{no_array_alone}
use Rattle.type_proof.proofs.expressions.WordRules.{Valued, value_of}
use Rattle.accepted_proof.proofs.Known.{IsKnownValue, IsWord, known_value}
use Rattle.accepted_proof.proofs.lowered.Forms.{IsKnownScope, IsTaken, TakenWord, taken_grouped, taken_place, taken_word, valued_type, word_is}
use Rattle.accepted_proof.proofs.lowered.Calls.{AllTaken, call_taken, no_kind}
use Rattle.accepted_proof.proofs.lowered.Unions.{union_taken}
use Rattle.source_typing.specs.Calls.{union_made, union_tag}
use Rattle.accepted_proof.proofs.lowered.Makings.{array_taken, making_taken, unique_making_taken}
use Rattle.accepted_proof.proofs.lowered.Stands.{Exactly, stands_same, stands_to, valued_stands}
use Rattle.accepted_proof.proofs.lowered.Members.{IndicesTaken, suffixed_taken}
use Rattle.accepted_proof.proofs.lowered.Operators.{are_joined, assign_taken, fits_seat, no_place, prefixed_taken}
use Rattle.accepted_proof.proofs.lowered.Scopes.{scope_counter, scope_inside}
use Rattle.accepted_proof.proofs.lowered.Several.{AreLinked, AreTested, known_first, linked_more, links_whole, tested_more, tests_whole}

number_shape : (i : IntegerType) → integer_shape i ≡ shape_of (integer_type i)
number_shape AsInt = refl
number_shape AsUnsigned = refl
number_shape AsChar = refl

number_word : (i : IntegerType) → IsWord (integer_type i)
number_word AsInt = tt
number_word AsUnsigned = tt
number_word AsChar = tt

number_known : (w : World) (i : IntegerType) → IsKnownValue w (integer_type i)
number_known w AsInt = tt
number_known w AsUnsigned = tt
number_known w AsChar = tt

fat_word : (t : StaticType) → is_fat t ≡ true → IsWord t
fat_word (Fat r t) e = tt
fat_word _ e = absurd cc

-- a form with suffixes has some
some_suffix : (es : Suffixes) → AreSuffixed es → es ≡ NoSuffixes → ⊥
some_suffix NoSuffixes own z = own
some_suffix (Index x others) own z = cc
some_suffix (Dot f others) own z = cc
some_suffix (Arrow f others) own z = cc

module _ (w : World) (names : List Named) (g : Env) (scope : IsKnownScope w names g) where
  abbrev Is : Expression → Value → Type 0
  Is e v = IsTaken w names e v

  variable_taken : (x : Name) (o : Option Entry) (v : Value) → meant g x.text ≡ o → variable x.at o ≡ Of v → Is (Expression.Variable x) v
  variable_taken x None v q e = absurd cc
  variable_taken x (Some (OfValue (Stored t r))) v q e =
      let k = scope.entries x.text (OfValue (Stored t r)) q in
      let z : record { at = x.at; type = t; seat = In r } ≡ v = of_is (record { at = x.at; type = t; seat = In r }) v e in
      taken_place w names (Expression.Variable x) v t (ap (λ (y : Value). y.type) (sym z))
      (record {
        takes = tt;
        shape = stands_to (static_shape w names (Expression.Variable x)) (valued (shape_of t)) (shape_of t)
            (valued_stands (named_shape w names x.text) (shape_of t) k.0) (valued_type t);
        known = k.1;
      }) (known_value w t k.1) (λ y. y) (λ y. y) (λ y. y)
  variable_taken x (Some (OfValue (Arrayed t r))) v q e =
      let k = scope.entries x.text (OfValue (Arrayed t r)) q in
      let d : Valued v (Fat r t) = value_of x.at (Fat r t) v e in
      let shape : static_shape w names (Expression.Variable x) ≡ shape_of (Fat r t) = ap (λ (s : Shape). valued s) k.1 in
      taken_word w names (Expression.Variable x) v (Fat r t) d.type (no_place v d.seat) tt k.2
      (record {
        takes = subst (λ (s : Shape). IsOperandShape s) (sym shape) tt;
        shape = stands_same (static_shape w names (Expression.Variable x)) (shape_of (Fat r t)) shape;
      }) (λ z. z)
  variable_taken x (Some (OfValue Counter)) v q e =
      let d : Valued v Unsigned = value_of x.at Unsigned v e in
      let shape : static_shape w names (Expression.Variable x) ≡ UnsignedShape = ap (λ (s : Shape). valued s) (scope.entries x.text (OfValue Counter) q) in
      taken_word w names (Expression.Variable x) v Unsigned d.type (no_place v d.seat) tt tt
      (record {
        takes = subst (λ (s : Shape). IsOperandShape s) (sym shape) tt;
        shape = stands_same (static_shape w names (Expression.Variable x)) UnsignedShape shape;
      }) (λ z. z)
  variable_taken x (Some (OfValue (Unknown sound))) v q e = absurd cc
  variable_taken x (Some (OfTag t)) v q e = absurd (no_kind t.sound x.at v e)
  variable_taken x (Some (OfFunction s)) v q e = absurd (no_kind s.sound x.at v e)
  variable_taken x (Some (OfBuiltin n)) v q e = absurd cc
  variable_taken x (Some OfOther) v q e = absurd cc

  -- ---- makings

  -- `unique_region` has no code
  unique_takes : (h : Expression) → is_unique_region h ≡ true → Takes w names h
  unique_takes (Expression.UniqueRegion at) q = tt
  unique_takes (Expression.Grouped at h) q = unique_takes h q
  unique_takes _ q = absurd cc

  owned_by : (e h : Expression) (b : Bool) → is_unique_region h ≡ b
      → ThinShape (NeverNull 1) (owner_in (is_unique_region h)) (static_shape w names e) ≡ ThinShape (NeverNull 1) (owner_in b) (static_shape w names e)
  owned_by e h b q = ap (λ (c : Bool). ThinShape (NeverNull 1) (owner_in c) (static_shape w names e)) q

  made_in_taken : (at : ℕ) (h e : Expression) (b : Bool) → is_unique_region h ≡ b → (x : Goal) (a v : Value) → goal_of b g (judge g h) ≡ Of x
      → ((y : Value) → judge g h ≡ Of y → Is h y) → Is e a → made at x a ≡ Of v → Is (Expression.NewIn at h (One e)) v
  made_in_taken at h e true unique x a v q k i p =
      unique_making_taken w names (Expression.NewIn at h (One e)) at e a v i (subst (λ (z : Goal). made at z a ≡ Of v) (sym (of_is ToUnique x q)) p)
      (λ n. (unique_takes h unique, n)) (owned_by e h true unique) (λ z. z)
  made_in_taken at h e false shared x a v q k i p =
      let y = after_is (judge g h) (handled g) x q in
      let d : Handled g (y.0).type x = handled_is g (y.0).at at (y.0).type x a v y.2 p in
      let handle : TakenWord w names h (y.0).type = word_is w names (y.0).type h (subst (λ u. IsWord u) (sym d.is) tt) (k y.0 y.1).value in
      making_taken w names (Expression.NewIn at h (One e)) at d.region e a v i (subst (λ (z : Goal). made at z a ≡ Of v) d.goal p)
      (λ n. (handle.takes, n)) (owned_by e h false shared) (λ z. z)

  -- an array isn't made in the unique region
  array_in_taken : (at : ℕ) (h : Expression) (x : Name) (n e : Expression) (u : Bool) (to : Goal) (c a v : Value) → goal_of u g (judge g h) ≡ Of to
      → ((y : Value) → judge g h ≡ Of y → Is h y) → Is n c → IsTaken w (element_names x.text names) e a
      → array_made at to (c, a) ≡ Of v → Is (Expression.NewIn at h (Array x n e)) v
  array_in_taken at h x n e true to c a v q k i l p = absurd (no_array_alone at to c a v q p)
  array_in_taken at h x n e false to c a v q k i l p =
      let y = after_is (judge g h) (handled g) to q in
      let d : Handled g (y.0).type to = array_handled g (y.0).at at (y.0).type to c a v y.2 p in
      let handle : TakenWord w names h (y.0).type = word_is w names (y.0).type h (subst (λ u. IsWord u) (sym d.is) tt) (k y.0 y.1).value in
      array_taken w names (Expression.NewIn at h (Array x n e)) at d.region x n e c a v i l (subst (λ (z : Goal). array_made at z (c, a) ≡ Of v) d.goal p)
      (λ o. (handle.takes, o)) refl (λ z. z)

-- ---- all of them

module _ (w : World) where
  mutual
    pub taken_is : (names : List Named) (g : Env) (scope : IsKnownScope w names g) (e : Expression) (v : Value) → ExpressionHasOperands e → judge g e ≡ Of v
        → IsTaken w names e v
    taken_is names g scope (Expression.Number at n suffix) v own p =
        let i : IntegerType = number_type n suffix in
        let d : Valued v (integer_type i) = value_of at (integer_type i) v p in
        taken_word w names (Expression.Number at n suffix) v (integer_type i) d.type (no_place v d.seat) (number_word i) (number_known w i)
        (record { takes = tt; shape = stands_same (integer_shape i) (shape_of (integer_type i)) (number_shape i) }) (λ z. z)
    taken_is names g scope (Expression.Character at byte) v own p =
        let d : Valued v Char = value_of at Char v p in
        taken_word w names (Expression.Character at byte) v Char d.type (no_place v d.seat) tt tt (record { takes = tt; shape = Exactly }) (λ z. z)
    taken_is names g scope (Expression.Text at bytes) v own p =
        let d : Valued v (Fat TheHeap Char) = text_valued at v (nat_lt (length bytes) 4096) p in
        taken_word w names (Expression.Text at bytes) v (Fat TheHeap Char) d.type (no_place v d.seat) tt tt (record { takes = tt; shape = Exactly }) (λ z. z)
    taken_is names g scope (Expression.Null at) v own p =
        let d : Valued v Null = value_of at Null v p in
        taken_word w names (Expression.Null at) v Null d.type (no_place v d.seat) tt tt (record { takes = tt; shape = Exactly }) (λ z. z)
    taken_is names g scope (Expression.HeapRegion at) v own p =
        let d : Valued v (Handle TheHeap) = value_of at (Handle TheHeap) v p in
        taken_word w names (Expression.HeapRegion at) v (Handle TheHeap) d.type (no_place v d.seat) tt tt (record { takes = tt; shape = Exactly }) (λ z. z)
    taken_is names g scope (Expression.UniqueRegion at) v own p = absurd cc
    taken_is names g scope (Expression.Variable x) v own p = variable_taken w names g scope x (meant g x.text) v refl p
    taken_is names g scope (Expression.Call x es) v own p =
        let z = call_is g x es v p in
        call_taken w names g x es (meant g x.text) z.0 z.1 v (λ e q. scope.entries x.text e q) z.2 (all_are names g scope es z.1 own z.3) z.4
    taken_is names g scope (Expression.MakeUnion tag f e) v own p =
        let z = both_is (union_tag tag f (meant g tag.text)) (judge g e) (union_made g tag.at) v p in
        union_taken w names g tag f e (meant g tag.text) z.0 z.1 v (λ d q. scope.entries tag.text d q) z.2 (taken_is names g scope e z.1 own z.3) z.4
    taken_is names g scope (Expression.NumElts at e) v own p =
        let z = after_is (judge g e) (counted at) v p in
        let r = counted_is at z.0 v z.2 in
        let k : TakenWord w names e z.0.type = word_is w names z.0.type e (fat_word z.0.type r.0) (taken_is names g scope e z.0 own z.1).value in
        taken_word w names (Expression.NumElts at e) v Unsigned r.1 (no_place v (fits_seat (is_fat z.0.type) at at Unsigned v z.2)) tt tt
        (record { takes = k.takes; shape = Exactly }) (λ y. y)
    taken_is names g scope (Expression.Grouped at e) v own p =
        let z = after_is (judge g e) (grouped at) v p in
        subst (λ (y : Value). IsTaken w names (Expression.Grouped at e) y) (of_is (record { at = at; type = z.0.type; seat = z.0.seat }) v z.2)
        (taken_grouped w names at e z.0 (taken_is names g scope e z.0 own z.1))
    taken_is names g scope (Expression.Suffixed e es) v own p =
        let z = suffixes_first g (judge g e) es v p in
        suffixed_taken w names g scope e es z.0 v (taken_is names g scope e z.0 own.1.0 z.1) (indices_are names g scope es own.1.1)
        (subst (λ (y : Verdict Value). judge_suffixes g y es ≡ Of v) z.1 p) (some_suffix es own.0)
    taken_is names g scope (Expression.Prefixed at o e) v own p =
        let z = prefix_is g at o e v p in
        prefixed_taken w names g at o e z.0 v (taken_is names g scope e z.0 own z.1) z.2
    taken_is names g scope (Expression.New at (One e)) v own p =
        let z = goal_is at (Of (To TheHeap)) (judge g e) v p in
        making_taken w names (Expression.New at (One e)) at TheHeap e z.1 v (taken_is names g scope e z.1 own z.3)
        (subst (λ (y : Goal). made at y z.1 ≡ Of v) (sym (of_is (To TheHeap) z.0 z.2)) z.4) (λ y. y) refl (λ y. y)
    taken_is names g scope (Expression.New at (Array x n e)) v own p =
        let inner : Env = with_counter x g in
        let z = array_is at (Of (To TheHeap)) (judge g n) (judge inner e) v p in
        array_taken w names (Expression.New at (Array x n e)) at TheHeap x n e z.1 z.2 v (taken_is names g scope n z.1 own.0 z.4)
        (taken_is (element_names x.text names) inner (scope_counter w names g x scope) e z.2 own.1 z.5)
        (subst (λ (q : Goal). array_made at q (z.1, z.2) ≡ Of v) (sym (of_is (To TheHeap) z.0 z.3)) z.6) (λ q. q) refl (λ q. q)
    taken_is names g scope (Expression.NewIn at h (One e)) v own p =
        let goal : Verdict Goal = goal_of (is_unique_region h) g (judge g h) in
        let z = goal_is at goal (judge (inside goal g) e) v p in
        made_in_taken w names g scope at h e (is_unique_region h) refl z.0 z.1 v z.2 (λ y q. taken_is names g scope h y own.0 q)
        (taken_is names (inside goal g) (scope_inside w names goal g scope) e z.1 own.1 z.3) z.4
    taken_is names g scope (Expression.NewIn at h (Array x n e)) v own p =
        let goal : Verdict Goal = goal_of (is_unique_region h) g (judge g h) in
        let within : Env = inside goal g in
        let inner : Env = with_counter x within in
        let known : IsKnownScope w names within = scope_inside w names goal g scope in
        let z = array_is at goal (judge within n) (judge inner e) v p in
        array_in_taken w names g scope at h x n e (is_unique_region h) z.0 z.1 z.2 v z.3 (λ y q. taken_is names g scope h y own.0 q)
        (taken_is names within known n z.1 own.1.0 z.4)
        (taken_is (element_names x.text names) inner (scope_counter w names within x known) e z.2 own.1.1 z.5) z.6
    taken_is names g scope (Expression.Chain e NoLinks) v own p = absurd own.0
    taken_is names g scope (Expression.Chain e (MoreLinks o y es)) v own p =
        let f = links_first g (judge g e) (MoreLinks o y es) v p in
        let h : IsTaken w names e f.0 = taken_is names g scope e f.0 own.1.0 f.1 in
        links_whole w names g scope e (MoreLinks o y es) f.0 v h
        (links_are names g scope (MoreLinks o y es) (judge g e) v own.1.1 (λ x q. known_first w names g scope f.0 x e h (sym f.1 ∙ q)) p) f.1
    taken_is names g scope (Expression.AllOf e NoExpressions) v own p = absurd own.0
    taken_is names g scope (Expression.AllOf e (MoreExpressions y es)) v own p =
        let f = tests_first g (judge g e) (MoreExpressions y es) v p in
        tests_whole w names g scope (Expression.AllOf e (MoreExpressions y es)) e (MoreExpressions y es) f.0 v (taken_is names g scope e f.0 own.1.0 f.1)
        (tests_are names g scope (MoreExpressions y es) (judge g e) v own.1.1 p) f.1 (λ z. record { takes = z; shape = Exactly }) (λ z. z)
    taken_is names g scope (Expression.AnyOf e NoExpressions) v own p = absurd own.0
    taken_is names g scope (Expression.AnyOf e (MoreExpressions y es)) v own p =
        let f = tests_first g (judge g e) (MoreExpressions y es) v p in
        tests_whole w names g scope (Expression.AnyOf e (MoreExpressions y es)) e (MoreExpressions y es) f.0 v (taken_is names g scope e f.0 own.1.0 f.1)
        (tests_are names g scope (MoreExpressions y es) (judge g e) v own.1.1 p) f.1 (λ z. record { takes = z; shape = Exactly }) (λ z. z)
    taken_is names g scope (Expression.Assign to from) v own p =
        let z = assign_is g to from v p in
        assign_taken w names g to from z.0 z.1 v (taken_is names g scope to z.0 own.0 z.2) (taken_is names g scope from z.1 own.1 z.3) z.4

    indices_are : (names : List Named) (g : Env) (scope : IsKnownScope w names g) (es : Suffixes) → SuffixesHaveOperands es
        → IndicesTaken w names g scope es
    indices_are names g scope NoSuffixes own = tt
    indices_are names g scope (Index e es) own =
        (λ b q. taken_is names g scope e b own.0 q, indices_are names g scope es own.1)
    indices_are names g scope (Dot f es) own = indices_are names g scope es own
    indices_are names g scope (Arrow f es) own = indices_are names g scope es own

    all_are : (names : List Named) (g : Env) (scope : IsKnownScope w names g) (es : Expressions) (vs : List Value) → AllHaveOperands es
        → judge_all g es ≡ Of vs → AllTaken w names es vs
    all_are names g scope NoExpressions vs own p = subst (λ (ys : List Value). AllTaken w names NoExpressions ys) (of_is [] vs p) tt
    all_are names g scope (MoreExpressions e es) vs own p =
        let z = both_is (judge g e) (judge_all g es) more vs p in
        subst (λ (ys : List Value). AllTaken w names (MoreExpressions e es) ys) (of_is (z.0 ∷ z.1) vs z.4)
        (taken_is names g scope e z.0 own.0 z.2, all_are names g scope es z.1 own.1 z.3)

    tests_are : (names : List Named) (g : Env) (scope : IsKnownScope w names g) (es : Expressions) (a : Verdict Value) (v : Value) → AllHaveOperands es
        → judge_tests g a es ≡ Of v → AreTested w names g scope es a v
    tests_are names g scope NoExpressions a v own p = p
    tests_are names g scope (MoreExpressions e es) a v own p =
        let b : Verdict Value = both a (judge g e) tested_both in
        let z = tests_first g b es v p in
        let y = both_is a (judge g e) tested_both z.0 z.1 in
        tested_more w names g scope e es a y.0 y.1 z.0 v y.2 (taken_is names g scope e y.1 own.0 y.3) y.4 z.1 (tests_are names g scope es b v own.1 p)

    links_are : (names : List Named) (g : Env) (scope : IsKnownScope w names g) (es : Links) (a : Verdict Value) (v : Value) → LinksHaveOperands es
        → ((x : Value) → a ≡ Of x → IsKnownValue w x.type)
        → judge_links g a es ≡ Of v → AreLinked w names g scope es a v
    links_are names g scope NoLinks a v own n p = p
    links_are names g scope (MoreLinks o e es) a v own n p =
        let b : Verdict Value = both a (judge g e) (applied g o) in
        let z = links_first g b es v p in
        let y = both_is a (judge g e) (applied g o) z.0 z.1 in
        let k : IsKnownValue w z.0.type = (are_joined w g o y.0.type y.1.type z.0.type
        (applied_to_is g o y.0.at y.0.type y.1.type z.0 y.4) (n y.0 y.2)).known in
        linked_more w names g scope o e es a y.0 y.1 z.0 v y.2 (n y.0 y.2) (taken_is names g scope e y.1 own.0 y.3) y.4 z.1
        (links_are names g scope es b v own.1 (λ x q. subst (λ (u : Value). IsKnownValue w u.type) (of_is z.0 x (sym z.1 ∙ q)) k) p)
