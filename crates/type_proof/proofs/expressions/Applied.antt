-- What operators, tests, assignments and arguments denote, from what their parts do.
use Rattle.std.proofs.Common.{◌≡◌, ℕ, Bool, true, false, ◌⊎◌, inl, inr, Some, List, [], ◌∷◌, refl, sym, ◌∙◌, ap, subst, arith, ◌≤◌}
use Rattle.std.specs.Prelude.{map, length}
use Rattle.cyc_tree.specs.declared.expression.Operator.{Operator}
use Rattle.source_meaning.specs.Shapes.{Shape, IntShape}
use Rattle.source_meaning.specs.Memory.{Region, IntegerType, AsInt}
use Rattle.source_meaning.specs.Steps as steps
use Rattle.source_meaning.specs.Steps.{Scope, Act, give, ◌>>=◌, need}
use Rattle.source_meaning.specs.Conversions.{converted, one}
use Rattle.source_meaning.specs.Operators.{truth_value, operated, operator_shape}
use Rattle.source_meaning.specs.Places.{Sense, assigned}
use Rattle.source_meaning.specs.Calls.{constant, applied, tested, truth}
use Rattle.source_typing.specs.Verdicts.{Of, after, if_fits}
use Rattle.source_typing.specs.Converts.{IsInteger, Converts}
use Rattle.source_typing.specs.Operators.{on_integers, applied_to, is_equality}
use Rattle.source_typing.specs.Operators as rules
use Rattle.source_typing.specs.Places as places
use Rattle.source_typing.specs.Places.{assigned_type}
use Rattle.source_typing.specs.Scope.{Env, Enclosing, Value, Nowhere, value, is_place}
use Rattle.source_typing.specs.Tables.{argument}
use Rattle.source_typing.specs.Types.{
  StaticType,
  Int,
  Unsigned,
  Char,
  Void,
  Null,
  Thin,
  Fat,
  Unique,
  Handle,
  Key,
  Struct,
  Union,
  is_integer,
  is_pointer,
  is_testable,
  integer_type,
  renamed,
  shape_of,
}
use Rattle.source_typing.proofs.OperatorsFit.{Operates, OnIntegers, OnFat, WithNull, NullWith, OnThin, applied_to_is}
use Rattle.source_typing.proofs.PlacesFit.{assigned_is}
use Rattle.source_typing.proofs.CallsFit.{AllConvert}
use Rattle.source_typing.specs.Moves.{Use, nothing, value_use, applied_use, assigned_use}
use Rattle.source_typing.specs.States.{States, Passed, then_passed}
use Rattle.type_proof.specs.Flat.{Tables}
use Rattle.source_typing.specs.Named.{TypeBelow}
use Rattle.type_proof.proofs.invariant.Invariant.{HaveTypes}
use Rattle.type_proof.proofs.invariant.After.{After, flying}
use Rattle.type_proof.proofs.invariant.Arguments.{Agrees}
use Rattle.type_proof.proofs.invariant.Names.{NameOf}
use Rattle.type_proof.proofs.invariant.Sound.{shape_renamed, cells_type, GivesBy, ShowsBy, Sound, passed_first, passed_second}
use Rattle.type_proof.proofs.invariant.Standing.{Standing}
use Rattle.type_proof.proofs.invariant.Layouts.{agrees}
use Rattle.type_proof.proofs.expressions.WordRules.{testable_word, Valued, value_of, applied_seat, fitted, given_type, assigned_object, given_simple}
use Rattle.type_proof.proofs.expressions.WordRules.{given_below, given_shaped}
use Rattle.type_proof.proofs.expressions.Integers.{integer_is, on_integers_is, operator_shaped, joined_integer}
use Rattle.type_proof.proofs.expressions.Words.{IsObjectType, IsSimple, object_simple, object_some, integer_object, integer_below, object_renamed}
use Rattle.type_proof.proofs.expressions.Converting.{converts_some}
use Rattle.type_proof.proofs.expressions.Pointers.{
  IsValue,
  Compares,
  compares_thins,
  compares_with_null,
  compares_null_with,
  compares_unique_with_null,
  compares_null_with_unique,
  compares_fat_with_null,
  compares_null_with_fat,
  gives_compared,
  equality_shape,
}
use Rattle.type_proof.proofs.expressions.Operands.{gives_applied, TellsBy, tells_truth, gives_tested}
use Rattle.type_proof.proofs.expressions.Spans.{moved_shape, gives_moved}
use Rattle.type_proof.proofs.expressions.Storing.{runs_converted, gives_assigned}
use Rattle.type_proof.proofs.expressions.Calling.{AllPass}
use Rattle.type_proof.proofs.expressions.Fixed.{ValuesBelow, within}
use Rattle.type_proof.proofs.Entries.{AreObjects, strictly}
use Rattle.type_proof.proofs.expressions.Forms.{Denotes, Refuses, denotes_constant, denotes_given, denotes_refused, denotes_value}

module _ (n : ℕ) (d : Tables) (g : Env) (scope : Scope) (f : NameOf → Region) (b : ℕ) (low : ℕ) where
  -- ---- operators and tests

  -- what an operator gives, by the types of what it takes
  record Joins (o : Operator) (p q : States → Passed) (x y : Sense) (t : StaticType) : Type 0 where
    simple : IsSimple t
    below : TypeBelow g.regions.count t
    shape : operator_shape o x.shape y.shape ≡ shape_of t
    gives : GivesBy n d g scope f b low (λ s. then_passed (p s) q) t
        (x.look >>= one >>= λ p. y.look >>= one >>= λ q. steps.memory >>= λ m. need (operated m o p q) >>= λ r. give (r ∷ []))

  compares_pointer : (t : StaticType) → IsSimple t → is_pointer t ≡ true → IsValue t × Compares n d g scope f b low t Null × Compares n d g scope f b low Null t
  compares_pointer Int p e = absurd cc
  compares_pointer Unsigned p e = absurd cc
  compares_pointer Char p e = absurd cc
  compares_pointer Void p e = absurd cc
  compares_pointer Null p e = absurd cc
  compares_pointer (Thin c r t) p e = (p, compares_with_null n d g scope f b low c r t, compares_null_with n d g scope f b low c r t)
  compares_pointer (Fat r t) p e = (p, compares_fat_with_null n d g scope f b low r t, compares_null_with_fat n d g scope f b low r t)
  compares_pointer (Unique c t) p e = (p, compares_unique_with_null n d g scope f b low c t, compares_null_with_unique n d g scope f b low c t)
  compares_pointer (Handle r) p e = absurd cc
  compares_pointer (Key r) p e = absurd cc
  compares_pointer (Struct tag rs) p e = absurd cc
  compares_pointer (Union tag rs) p e = absurd cc

  joins_compared : (o : Operator) (p q : States → Passed) (x y : Sense) (s t : StaticType) → is_equality o ≡ true → IsValue s → IsValue t
      → Compares n d g scope f b low s t
      → ShowsBy n d g scope f b low p s x.look → ShowsBy n d g scope f b low q t y.look → Joins o p q x y Int
  joins_compared o p q x y s t e is it c hx hy = record {
    simple = tt;
    below = tt;
    shape = equality_shape o x.shape y.shape e;
    gives = λ st z. gives_compared n d g scope f b low st (p st).states (q (p st).states).states o s t x.look y.look e is it c
        (hx st (passed_first p q st z)) (hy (p st).states (passed_second p q st z));
  }

  joins_integers : (o : Operator) (p q : States → Passed) (x y : Sense) (a c : StaticType) → IsInteger a → IsInteger c → x.shape ≡ shape_of a → y.shape
      ≡ shape_of c
      → ShowsBy n d g scope f b low p a x.look → ShowsBy n d g scope f b low q c y.look → Joins o p q x y (on_integers o a c)
  joins_integers o p q x y a c ia ic ex ey hx hy =
      let s : (s : IntegerType) × (a ≡ integer_type s) = integer_is a ia in
      let t : (s : IntegerType) × (c ≡ integer_type s) = integer_is c ic in
      let result : IsInteger (on_integers o a c) = subst (λ (u : StaticType). IsInteger (on_integers o u c)) (sym s.1)
      (subst (λ (u : StaticType). IsInteger (on_integers o (integer_type s.0) u)) (sym t.1) (on_integers_is o s.0 t.0)) in
      record {
        simple = object_simple (on_integers o a c) (integer_object (on_integers o a c) result);
        below = integer_below g.regions.count (on_integers o a c) result;
        shape = ap (λ (u : Shape). operator_shape o u y.shape) (ex ∙ ap shape_of s.1)
            ∙ (ap (operator_shape o (shape_of (integer_type s.0))) (ey ∙ ap shape_of t.1)
            ∙ (operator_shaped o s.0 t.0 ∙ sym (ap (λ (u : StaticType). shape_of (on_integers o u c)) s.1
            ∙ ap (λ (u : StaticType). shape_of (on_integers o (integer_type s.0) u)) t.1)));
        gives = λ st z. gives_applied n d g scope f b low st (p st).states (q (p st).states).states o a c x.look y.look ia ic
            (hx st (passed_first p q st z)) (hy (p st).states (passed_second p q st z));
      }

  joins : (i : Enclosing) → g.lenient ≡ false → (o : Operator) (before behind : States → Passed) (x y : Sense) (a c t : StaticType) → IsSimple a → IsSimple c
      → TypeBelow g.regions.count a
      → ((a ≡ Void → ⊥) → x.shape ≡ shape_of a)
      → ((c ≡ Void → ⊥) → y.shape ≡ shape_of c) → ShowsBy n d g scope f b low before a x.look → ShowsBy n d g scope f b low behind c y.look
      → Operates (within i g) o a c t
      → Joins o before behind x y t
  joins i strict o before behind x y a c t p q l ex ey hx hy (OnIntegers ia ic) =
      joins_integers o before behind x y a c ia ic (ex (object_some a (integer_object a ia))) (ey (object_some c (integer_object c ic))) hx hy
  joins i strict o before behind x y a c t p q l ex ey hx hy (OnFat {r = r} {t = to} {b = u} move iu) = record {
    simple = p;
    below = l;
    shape = ap (λ (s : Shape). operator_shape o s y.shape) (ex (λ z. cc)) ∙ moved_shape o (shape_of to) y.shape move;
    gives = λ st z. gives_moved n d g scope f b low st (before st).states (behind (before st).states).states o r to u x.look y.look move p iu
        (hx st (passed_first before behind st z)) (hy (before st).states (passed_second before behind st z));
  }
  joins i strict o before behind x y a c t p q l ex ey hx hy (WithNull {a = s} e k) =
      let z : IsValue s × Compares n d g scope f b low s Null × Compares n d g scope f b low Null s = compares_pointer s p k in
      joins_compared o before behind x y s Null e z.0 tt z.1 hx hy
  joins i strict o before behind x y a c t p q l ex ey hx hy (NullWith {b = s} e k) =
      let z : IsValue s × Compares n d g scope f b low s Null × Compares n d g scope f b low Null s = compares_pointer s q k in
      joins_compared o before behind x y Null s e tt z.0 z.2 hx hy
  joins i strict o before behind x y a c t p q l ex ey hx hy (OnThin {n = n1} {m = n2} {r = r1} {q = r2} {t = u} e lr lq z) =
      joins_compared o before behind x y (Thin n1 r1 u) (Thin n2 r2 u) e p q
      (compares_thins n d g scope f b low n1 n2 r1 r2 u (strictly g r1 strict lr) (strictly g r2 strict lq)) hx hy

  joined_type : (i : Enclosing) (o : Operator) (a c t : StaticType) → IsSimple a → TypeBelow g.regions.count a → Operates (within i g) o a c t
      → IsSimple t × TypeBelow g.regions.count t
  joined_type i o a c t p l (OnIntegers ia ic) =
      let result : IsInteger (on_integers o a c) = joined_integer o a c ia ic in
      (object_simple (on_integers o a c) (integer_object (on_integers o a c) result), integer_below g.regions.count (on_integers o a c) result)
  joined_type i o a c t p l (OnFat {r = r} {t = to} {b = u} move iu) = (p, l)
  joined_type i o a c t p l (WithNull e k) = (tt, tt)
  joined_type i o a c t p l (NullWith e k) = (tt, tt)
  joined_type i o a c t p l (OnThin e lr lq z) = (tt, tt)

  pub denotes_applied : (i : Enclosing) → g.lenient ≡ false → (o : Operator) (at : ℕ) (a c v : Value) (ua uc : Use) (x y : Sense)
      → Denotes n d g scope f b low a ua x
      → Denotes n d g scope f b low c uc y
      → applied_to (within i g) o at a.type c.type ≡ Of v → Denotes n d g scope f b low v (applied_use ua uc) (applied o x y)
  denotes_applied i strict o at a c v ua uc x y ha hc e = by ha.sound hc.sound
    where
      type : IsSimple v.type × TypeBelow g.regions.count v.type
      type = joined_type i o a.type c.type v.type ha.simple ha.below (applied_to_is (within i g) o at a.type c.type v e)

      valued : Valued v v.type
      valued = record { type = refl; seat = applied_seat (within i g) o at a.type c.type v ha.simple hc.simple e }

      by : Sound n d g scope f b low a ua ha.own x ⊎ Refuses n d g scope f b low ua → Sound n d g scope f b low c uc hc.own y ⊎ Refuses n d g scope f b low uc
          → Denotes n d g scope f b low v (applied_use ua uc) (applied o x y)
      by (inl p) (inl q) =
          let z : Joins o ua.look uc.look x y v.type =
          joins i strict o ua.look uc.look x y a.type c.type v.type ha.simple hc.simple ha.below p.shape q.shape p.look q.look
          (applied_to_is (within i g) o at a.type c.type v e) in
          denotes_value n d g scope f b low v (λ s. then_passed (ua.look s) uc.look) v.type (operator_shape o x.shape y.shape) _ z.simple z.below valued z.shape
          z.gives
      by (inr r) q = denotes_refused n d g scope f b low v (λ s. then_passed (ua.look s) uc.look) v.type (applied o x y) type.0 type.1 valued
          (λ s k. r.look s (passed_first ua.look uc.look s k))
      by (inl p) (inr r) = denotes_refused n d g scope f b low v (λ s. then_passed (ua.look s) uc.look) v.type (applied o x y) type.0 type.1 valued
          (λ s k. r.look (ua.look s).states (passed_second ua.look uc.look s k))

  -- ---- tests

  pub denotes_tested : (v : Value) (p : States → Passed) (act : Act Bool) → Valued v Int → TellsBy n d g scope f b low p act
      → Denotes n d g scope f b low v (value_use p) (tested act)
  denotes_tested v p act h tells =
      denotes_value n d g scope f b low v p Int IntShape (act >>= λ t. give (truth_value t ∷ [])) tt tt h refl
      (λ s e. gives_tested n d g scope f b low s (p s).states act (tells s e))

  pub denotes_tells : (a : Value) (u : Use) (e : Sense) → Denotes n d g scope f b low a u e → is_testable a.type ≡ true
      → TellsBy n d g scope f b low u.look (truth e)
  denotes_tells a u e h t = by h.sound
    where
      by : Sound n d g scope f b low a u h.own e ⊎ Refuses n d g scope f b low u → TellsBy n d g scope f b low u.look (truth e)
      by (inr r) = λ s z. absurd (r.look s z)
      by (inl y) = λ s z. tells_truth n d g scope f b low s (u.look s).states a.type e (testable_word a.type h.simple t) (y.look s z)

  -- `-e` and `~e`, as operators on a constant
  pub denotes_signed : (i : Enclosing) → g.lenient ≡ false → (o : Operator) (at c : ℕ) (a v : Value) (u : Use) (e : Sense)
      → ((s : IntegerType) → applied_to (within i g) o at Int (integer_type s)
      ≡ after (if_fits (is_integer (integer_type s)) at (rules.promoted (integer_type s))) (value at))
      → Denotes n d g scope f b low a u e → rules.signed at a ≡ Of v → Denotes n d g scope f b low v (value_use u.look) (applied o (constant AsInt c) e)
  denotes_signed i strict o at c a v u e same h j =
      let r : (is_integer a.type ≡ true) × Valued v (rules.promoted a.type) = fitted (is_integer a.type) at at (rules.promoted a.type) v j in
      let s : (s : IntegerType) × (a.type ≡ integer_type s) = integer_is a.type r.0 in
      let k : applied_to (within i g) o at Int a.type ≡ after (if_fits (is_integer a.type) at (rules.promoted a.type)) (value at) =
      subst (λ (t : StaticType). applied_to (within i g) o at Int t ≡ after (if_fits (is_integer t) at (rules.promoted t)) (value at)) (sym s.1) (same s.0) in
      let zero_value : Value = record { at = at; type = Int; seat = Nowhere } in
      denotes_applied i strict o at zero_value a v (value_use nothing) u (constant AsInt c) e
      (denotes_constant n d g scope f b low AsInt c zero_value (record { type = refl; seat = refl })) h (k ∙ j)

  -- ---- assignments

  pub denotes_assigned : (i : Enclosing) → b ≤ low → Agrees scope.world d → (to from v : Value) (ut uf : Use) (x y : Sense)
      → Denotes n d g scope f b low to ut x
      → Denotes n d g scope f b low from uf y
      → places.assigned (within i g) to from ≡ Of v
      → Denotes n d g scope f b low v (assigned_use ut uf) (assigned scope.world x y)
  denotes_assigned i is agrees to from v ut uf x y ht hf e = by ht.sound hf.sound
    where
      seat : (c : Bool) → places.assigned_in c (within i g) to from ≡ Of v → v.seat ≡ Nowhere
      seat true z = (value_of to.at (assigned_type (within i g) to.type) v (Rattle.source_typing.proofs.Inversion.unless_is _ _ v z).1).seat
      seat false z = absurd cc

      rules_say : (is_place to.seat ≡ true) × Converts g.regions from.type to.type × (v.type ≡ assigned_type (within i g) to.type)
      rules_say = assigned_is (within i g) to from v e

      it : IsObjectType to.type
      it = ht.place rules_say.0

      act : States → Passed
      act s = then_passed (uf.value s) ut.target

      valued : Valued v (given_type to.type)
      valued = record { type = rules_say.2 ∙ assigned_object (within i g) to.type it; seat = seat (is_place to.seat) e }

      refused : ((s : States) → (act s).faults ≡ [] → ⊥) → Denotes n d g scope f b low v (assigned_use ut uf) (assigned scope.world x y)
      refused never = denotes_refused n d g scope f b low v act (given_type to.type) (assigned scope.world x y) (given_simple to.type it)
          (given_below g.regions.count to.type it ht.below) valued never

      by : Sound n d g scope f b low to ut ht.own x ⊎ Refuses n d g scope f b low ut
          → Sound n d g scope f b low from uf hf.own y ⊎ Refuses n d g scope f b low uf
          → Denotes n d g scope f b low v (assigned_use ut uf) (assigned scope.world x y)
      by p (inr r) = refused (λ s q. r.value s (passed_first uf.value ut.target s q))
      by (inr r) (inl q) = refused (λ s k. r.target (uf.value s).states (passed_second uf.value ut.target s k))
      by (inl p) (inl q) =
          let shape : x.shape ≡ shape_of to.type = p.shape (object_some to.type it) in
          denotes_given n d g scope f b low v act (given_type to.type) x.shape _ (given_simple to.type it)
          (given_below g.regions.count to.type it ht.below) valued (given_shaped to.type x.shape it shape)
          (λ s k. gives_assigned n d g scope f b low s (uf.value s).states (ut.target (uf.value s).states).states from.type to.type x y agrees hf.simple it
          rules_say.1
          (q.shape (converts_some g.regions from.type to.type rules_say.1 it)) shape (q.value is s (passed_first uf.value ut.target s k))
          (p.stores is rules_say.0 (uf.value s).states (passed_second uf.value ut.target s k)))

  -- ---- arguments

  abbrev pub AllDenote : List Value → List Use → List Sense → Type 0
  AllDenote [] [] [] = Unit {0}
  AllDenote (v ∷ vs) (u ∷ us) (e ∷ es) = Denotes n d g scope f b low v u e × AllDenote vs us es
  AllDenote _ _ _ = ⊥

  pub values_below : (vs : List Value) (us : List Use) (es : List Sense) → AllDenote vs us es → ValuesBelow g.regions.count vs
  values_below [] us es h = tt
  values_below (v ∷ vs) (u ∷ us) (e ∷ es) h = (h.0.below, values_below vs us es h.1)
  values_below (v ∷ vs) [] es h = absurd h
  values_below (v ∷ vs) (u ∷ us) [] h = absurd h

  -- one that converts to a parameter's type, whose region variables stand for these
  pub passes : b ≤ low → Agrees scope.world d → (v : Value) (u : Use) (e : Sense) (rs : List NameOf) (t : StaticType) → IsObjectType t
      → Converts g.regions v.type (renamed (argument rs) t) → Denotes n d g scope f b low v u e
      → GivesBy n d g scope f b low u.value (renamed (argument rs) t) (e.value >>= converted scope.world (shape_of t) e.shape)
  passes loudly agrees v u e rs t it conv h = by h.sound
    where
      by : Sound n d g scope f b low v u h.own e ⊎ Refuses n d g scope f b low u
          → GivesBy n d g scope f b low u.value (renamed (argument rs) t) (e.value >>= converted scope.world (shape_of t) e.shape)
      by (inr r) = λ s z. absurd (r.value s z)
      by (inl y) =
          subst (λ (s : Shape). GivesBy n d g scope f b low u.value (renamed (argument rs) t) (e.value >>= converted scope.world (shape_of t) s))
          (sym (y.shape (converts_some g.regions v.type (renamed (argument rs) t) conv (object_renamed (argument rs) t it))))
          (subst (λ (s : Shape). GivesBy n d g scope f b low u.value (renamed (argument rs) t) (e.value >>= converted scope.world s (shape_of v.type)))
          (shape_renamed (argument rs) t)
          (λ s z k w m i x. record {
            by = λ next q. (runs_converted n d g scope f b low s (u.value s).states v.type (renamed (argument rs) t) e.value (λ vs. give vs) k w m
                (λ vs. After d k b w m (λ w' m'. HaveTypes d w' (flying k 0) vs (cells_type d f (renamed (argument rs) t))
                × Standing d g scope f (u.value s).states w' m')) agrees h.simple
                (object_renamed (argument rs) t it) conv (y.value loudly s z) i x
                (λ vs w1 m1 i1 g1 typed x1. record {
                  by = λ next2 q2. q2 vs m1
                      (record { ghost = w1; inv = i1; grows = g1; holds = (typed, x1.stands) });
                })).by next
                q;
          }))

  pub all_pass : b ≤ low → Agrees scope.world d → (rs : List NameOf) (ts : List StaticType) (vs : List Value) (us : List Use) (es : List Sense) → AreObjects ts
      → length (map (λ (t : StaticType). Some t) ts) ≡ length vs → AllConvert g rs (map (λ (t : StaticType). Some t) ts) vs → AllDenote vs us es
      → AllPass n d g scope f b low (map shape_of ts) (map (renamed (argument rs)) ts) us es
  all_pass is agrees rs [] [] [] [] i c a h = tt
  all_pass is agrees rs (t ∷ ts) (v ∷ vs) (u ∷ us) (e ∷ es) i c a h =
      (passes is agrees v u e rs t i.0 a.0 h.0, all_pass is agrees rs ts vs us es i.1 (omega (arith, c)) a.1 h.1)
  all_pass is agrees rs [] [] [] (e ∷ es) i c a h = absurd h
  all_pass is agrees rs [] [] (u ∷ us) es i c a h = absurd h
  all_pass is agrees rs [] (v ∷ vs) us es i c a h = absurd (omega (arith, c))
  all_pass is agrees rs (t ∷ ts) [] us es i c a h = absurd (omega (arith, c))
  all_pass is agrees rs (t ∷ ts) (v ∷ vs) [] es i c a h = absurd h
  all_pass is agrees rs (t ∷ ts) (v ∷ vs) (u ∷ us) [] i c a h = absurd h
