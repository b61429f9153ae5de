-- Several operands, tested or joined from the left, are taken by lowering where each is.
use Rattle.std.proofs.Common.{◌≡◌, Bool, true, false, List, refl, sym, subst, ap, ◌∙◌}
use Rattle.std.specs.Prelude.{◌&&◌}
use Rattle.cyc_tree.specs.declared.expression.Operator.{Operator}
use Rattle.cyc_tree.specs.Tree.{Expression, Expressions, Links, MoreExpressions, MoreLinks, NoExpressions, NoLinks}
use Rattle.source_lowering.specs.Lowerable.{Takes, TakesAll, TakesDropped, TakesLinks, TakesRun}
use Rattle.source_lowering.specs.Lowered.{Named, linked_shape, static_shape}
use Rattle.source_meaning.specs.Operators.{operator_shape}
use Rattle.source_meaning.specs.Shapes.{Shape}
use Rattle.source_meaning.specs.Steps.{World}
use Rattle.source_typing.specs.Expressions.{judge}
use Rattle.source_typing.specs.Operators.{applied, tested_both}
use Rattle.source_typing.specs.Scope.{Env, Nowhere, Value, value}
use Rattle.source_typing.specs.Types.{Int, is_testable, shape_of}
use Rattle.source_typing.specs.Verdicts.{Of, Verdict, after, both, if_fits}
use Rattle.source_typing.proofs.Inversion.{of_is}
use Rattle.source_typing.proofs.OperatorsFit.{applied_to_is, tested_both_is}
use Rattle.type_proof.proofs.expressions.WordRules.{value_of}
use Rattle.accepted_proof.proofs.Known.{IsKnownValue, IsWord, testable_word}
use Rattle.accepted_proof.proofs.lowered.Forms.{IsKnownScope, IsTaken, TakenWord, taken_word, word_is}
use Rattle.accepted_proof.proofs.lowered.Operators.{AreJoined, applied_seat, are_joined, no_place}
use Rattle.accepted_proof.proofs.lowered.Stands.{StandsAs}

both_seat : (a b v : Value) → tested_both a b ≡ Of v → v.seat ≡ Nowhere
both_seat a b v e = by (is_testable a.type && is_testable b.type) e
  where
    by : (c : Bool) → after (if_fits c a.at Int) (value a.at) ≡ Of v → v.seat ≡ Nowhere
    by true q = (value_of a.at Int v q).seat
    by false q = absurd cc

module _ (w : World) (names : List Named) (g : Env) (scope : IsKnownScope w names g) where
  abbrev Is : Expression → Value → Type 0
  Is e v = IsTaken w names e v

  -- of operands that are tested: those behind the first, and what all give
  pub record Tested (es : Expressions) (a : Verdict Value) (v : Value) : Type 0 where
    pub takes : TakesAll w names es
    pub first : (x : Value) × (a ≡ Of x) × (is_testable x.type ≡ true)
    pub type : v.type ≡ Int
    pub seat : v.seat ≡ Nowhere

  abbrev pub AreTested : Expressions → Verdict Value → Value → Type 0
  AreTested NoExpressions a v = (a ≡ Of v)
  AreTested (MoreExpressions e es) a v = Tested (MoreExpressions e es) a v

  pub tested_more : (e : Expression) (es : Expressions) (a : Verdict Value) (x y c v : Value) → a ≡ Of x → Is e y → tested_both x y ≡ Of c
      → both a (judge g e) tested_both ≡ Of c → AreTested es (both a (judge g e) tested_both) v → Tested (MoreExpressions e es) a v
  tested_more e es a x y c v p h q b k =
      let r = tested_both_is x y c q in
      let t : TakenWord w names e y.type = word_is w names y.type e (testable_word y.type r.1) h.value in
      by es k t.takes (x, p, r.0) r.2
    where
      by : (es : Expressions) → AreTested es (both a (judge g e) tested_both) v → Takes w names e
          → (x : Value) × (a ≡ Of x) × (is_testable x.type ≡ true) → c.type ≡ Int → Tested (MoreExpressions e es) a v
      by NoExpressions k t f i =
          let z : c ≡ v = of_is c v (sym b ∙ k) in
          record { takes = (t, tt); first = f; type = ap (λ (y : Value). y.type) (sym z) ∙ i; seat = ap (λ (y : Value). y.seat) (sym z) ∙ both_seat x y c q }
      by (MoreExpressions d ds) k t f i = record { takes = (t, k.takes); first = f; type = k.type; seat = k.seat }

  -- of operands that are joined from the left
  pub record Joined (es : Links) (a : Verdict Value) (v : Value) : Type 0 where
    pub takes : TakesLinks w names es
    pub first : Value
    pub is : a ≡ Of first
    pub first_word : IsWord first.type
    pub word : IsWord v.type
    pub known : IsKnownValue w v.type
    pub seat : v.seat ≡ Nowhere
    pub shape : (s : Shape) → StandsAs s (shape_of first.type) → StandsAs (linked_shape w names es s) (shape_of v.type)

  abbrev pub AreLinked : Links → Verdict Value → Value → Type 0
  AreLinked NoLinks a v = (a ≡ Of v)
  AreLinked (MoreLinks o e es) a v = Joined (MoreLinks o e es) a v

  pub linked_more : (o : Operator) (e : Expression) (es : Links) (a : Verdict Value) (x y c v : Value) → a ≡ Of x → IsKnownValue w x.type → Is e y
      → applied g o x y ≡ Of c → both a (judge g e) (applied g o) ≡ Of c → AreLinked es (both a (judge g e) (applied g o)) v
      → Joined (MoreLinks o e es) a v
  linked_more o e es a x y c v p n h q b k =
      let j : AreJoined w o x.type y.type c.type = are_joined w g o x.type y.type c.type (applied_to_is g o x.at x.type y.type c q) n in
      let t : TakenWord w names e y.type = word_is w names y.type e j.second h.value in
      by es k j t
    where
      joined_shape : AreJoined w o x.type y.type c.type → TakenWord w names e y.type → (s : Shape) → StandsAs s (shape_of x.type)
          → StandsAs (operator_shape o s (static_shape w names e)) (shape_of c.type)
      joined_shape j t s z = j.shape s (static_shape w names e) z t.shape

      by : (es : Links) → AreLinked es (both a (judge g e) (applied g o)) v → AreJoined w o x.type y.type c.type → TakenWord w names e y.type
          → Joined (MoreLinks o e es) a v
      by NoLinks k j t =
          let z : c ≡ v = of_is c v (sym b ∙ k) in
          record {
            takes = (t.takes, tt);
            first = x;
            is = p;
            first_word = j.first;
            word = subst (λ (y : Value). IsWord y.type) z j.word;
            known = subst (λ (y : Value). IsKnownValue w y.type) z j.known;
            seat = ap (λ (y : Value). y.seat) (sym z) ∙ applied_seat g o x.at x.type y.type c q;
            shape = λ s u. subst (λ (y : Value). StandsAs (operator_shape o s (static_shape w names e)) (shape_of y.type)) z (joined_shape j t s u);
          }
      by (MoreLinks o2 d ds) k j t =
          let z : c ≡ k.first = of_is c k.first (sym b ∙ k.is) in
          record {
            takes = (t.takes, k.takes);
            first = x;
            is = p;
            first_word = j.first;
            word = k.word;
            known = k.known;
            seat = k.seat;
            shape = λ s u. k.shape (operator_shape o s (static_shape w names e))
                (subst (λ (y : Value). StandsAs (operator_shape o s (static_shape w names e)) (shape_of y.type)) z (joined_shape j t s u));
          }

  pub tests_whole : (x e : Expression) (es : Expressions) (a v : Value) → Is e a → Tested es (judge g e) v → judge g e ≡ Of a
      → (Takes w names e × TakesAll w names es → TakenWord w names x Int)
      → (TakesDropped w names (static_shape w names x) x → TakesRun w names x)
      → Is x v
  tests_whole x e es a v h k p word run =
      let z : a ≡ k.first.0 = of_is a k.first.0 (sym p ∙ k.first.1) in
      let t : TakenWord w names e a.type = word_is w names a.type e (testable_word a.type (ap (λ (y : Value). is_testable y.type) z ∙ k.first.2)) h.value in
      taken_word w names x v Int k.type (no_place v k.seat) tt tt (word (t.takes, k.takes)) run

  pub known_first : (a x : Value) (e : Expression) → Is e a → Of a ≡ Of x → IsKnownValue w x.type
  known_first a x e h q = subst (λ (y : Value). IsKnownValue w y.type) (of_is a x q) h.known

  pub links_whole : (e : Expression) (es : Links) (a v : Value) → Is e a → Joined es (judge g e) v → judge g e ≡ Of a → Is (Expression.Chain e es) v
  links_whole e es a v h k p =
      let z : a ≡ k.first = of_is a k.first (sym p ∙ k.is) in
      let s : TakenWord w names e a.type = word_is w names a.type e (subst (λ (x : Value). IsWord x.type) (sym z) k.first_word) h.value in
      taken_word w names (Expression.Chain e es) v v.type refl (no_place v k.seat) k.word k.known
      (record {
        takes = (s.takes, k.takes);
        shape = k.shape (static_shape w names e) (subst (λ (x : Value). StandsAs (static_shape w names e) (shape_of x.type)) z s.shape);
      }) (λ x. x)
