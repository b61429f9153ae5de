-- Values of one cell are looked at; pointers are compared and dereferenced, and addresses are taken.
use Rattle.std.proofs.Common.{◌≡◌, ℕ, Bool, true, false, inl, inr, Option, Some, None, List, [], ◌∷◌, refl, sym, ◌∙◌, ap, subst}
use Rattle.std.specs.Prelude.{not, ◌&&◌, is_some, option_and_then, if◌then◌else◌}
use Rattle.cyc_words.specs.declared.faults.Kind.TheVariants.{NullException}
use Rattle.cyc_tree.specs.declared.expression.Operator.{Operator}
use Rattle.cyc_tree.specs.declared.expression.Operator.TheVariants.{Equal, NotEqual}
use Rattle.source_meaning.specs.Shapes.{Reach, NeverNull}
use Rattle.source_meaning.specs.Shapes.{Shape, IntShape}
use Rattle.source_meaning.specs.Memory as memory
use Rattle.source_meaning.specs.Memory.{Region, Spot, Span, Scalar, Live, Memory, state_is_live, is_live, same_spot}
use Rattle.source_meaning.specs.Steps.{Scope, Act, give, ◌>>=◌, need}
use Rattle.source_meaning.specs.Steps as steps
use Rattle.source_meaning.specs.Operators.{truth_value, same_thin, equality, operated, operator_shape, is_true}
use Rattle.source_meaning.specs.Conversions.{one, accessed}
use Rattle.source_typing.specs.Operators.{is_equality}
use Rattle.source_typing.specs.Types.{StaticType, Int, Unsigned, Char, Void, Null, Thin, Fat, Unique, Handle, Key, Struct, Union, renamed}
use Rattle.source_typing.specs.Scope.{Env}
use Rattle.source_typing.specs.States.{States}
use Rattle.type_proof.specs.Flat.{Tables}
use Rattle.type_proof.proofs.invariant.Invariant.{RunType, Owner, Ghost, HasType, HaveTypes, Inv, Grows}
use Rattle.type_proof.proofs.invariant.Values.{only_one, Grown, copied_kept}
use Rattle.type_proof.proofs.invariant.Growth.{grows_trans}
use Rattle.type_proof.proofs.invariant.Runs.{Safe, Runs, safe_raised}
use Rattle.type_proof.proofs.invariant.After.{After, flying}
use Rattle.type_proof.proofs.invariant.Names.{NameOf}
use Rattle.type_proof.proofs.invariant.Standing.{Standing}
use Rattle.type_proof.proofs.invariant.Scenes.{Scene, scene_later}
use Rattle.type_proof.proofs.invariant.Sound.{cells_type, PlaceOk, Gives, Shows, Finds}
use Rattle.type_proof.proofs.expressions.Integers.{truth_typed}
use Rattle.type_proof.proofs.expressions.Words.{IsObjectType, IsWordType, OneValue, one_value, grows_grown}

-- a word's type, or that of `NULL`
abbrev pub IsValue : StaticType → Type 0
IsValue Null = Unit {0}
IsValue t = IsWordType t

pub word_value : (t : StaticType) → IsWordType t → IsValue t
word_value Int e = tt
word_value Unsigned e = tt
word_value Char e = tt
word_value Void e = absurd e
word_value Null e = tt
word_value (Thin n r t) e = e
word_value (Fat r t) e = e
word_value (Unique n t) e = e
word_value (Handle r) e = absurd e
word_value (Key r) e = absurd e
word_value (Struct tag rs) e = absurd e
word_value (Union tag rs) e = absurd e

-- it is of one cell
value_cell : (d : Tables) (f : NameOf → Region) (t : StaticType) → IsValue t → cells_type d f t ≡ renamed f t ∷ []
value_cell d f Int e = refl
value_cell d f Unsigned e = refl
value_cell d f Char e = refl
value_cell d f Void e = absurd e
value_cell d f Null e = refl
value_cell d f (Thin n r t) e = refl
value_cell d f (Fat r t) e = refl
value_cell d f (Unique n t) e = refl
value_cell d f (Handle r) e = absurd e
value_cell d f (Key r) e = absurd e
value_cell d f (Struct tag rs) e = absurd e
value_cell d f (Union tag rs) e = absurd e

-- what is still known of it once something else was evaluated: of a unique pointer, that it is a thin one
abbrev pub Known : Tables → (NameOf → Region) → Ghost → Owner → Scalar → StaticType → Type 0
Known d f w by v (Unique n t) = (p : Option Spot) × (v ≡ memory.Thin p)
Known d f w by v t = HasType d w by v (renamed f t)

unique_of : (d : Tables) (w : Ghost) (by : Owner) (v : Scalar) (c : Bool) (t : RunType) → HasType d w by v (Unique c t)
    → (p : Option Spot) × (v ≡ memory.Thin p)
unique_of d w by v c t (inl h) = (None, h.is)
unique_of d w by v c t (inr h) = (Some (record { region = memory.Born h.block; object = 0; cell = 0 }), h.is)

known_later : (d : Tables) (f : NameOf → Region) (w w' : Ghost) (by : Owner) (v : Scalar) (t : StaticType) → IsValue t → Grown w w'
    → HasType d w by v (renamed f t) → Known d f w' by v t
known_later d f w w' by v Int e g h = copied_kept d w w' by by v Int g refl h
known_later d f w w' by v Unsigned e g h = copied_kept d w w' by by v Unsigned g refl h
known_later d f w w' by v Char e g h = copied_kept d w w' by by v Char g refl h
known_later d f w w' by v Void e g h = absurd e
known_later d f w w' by v Null e g h = copied_kept d w w' by by v Null g refl h
known_later d f w w' by v (Thin n r t) e g h = copied_kept d w w' by by v (renamed f (Thin n r t)) g refl h
known_later d f w w' by v (Fat r t) e g h = copied_kept d w w' by by v (renamed f (Fat r t)) g refl h
known_later d f w w' by v (Unique n t) e g h = unique_of d w by v n (renamed f t) h
known_later d f w w' by v (Handle r) e g h = absurd e
known_later d f w w' by v (Key r) e g h = absurd e
known_later d f w w' by v (Struct tag rs) e g h = absurd e
known_later d f w w' by v (Union tag rs) e g h = absurd e

-- whether a word counts as true
pub truth_known : (d : Tables) (f : NameOf → Region) (w : Ghost) (by : Owner) (v : Scalar) (t : StaticType) → IsWordType t → HasType d w by v (renamed f t)
    → (b : Bool) × (is_true v ≡ Some b)
truth_known d f w by v Int e h = (_, ap is_true h.is)
truth_known d f w by v Unsigned e h = (_, ap is_true h.is)
truth_known d f w by v Char e h = (_, ap is_true h.is)
truth_known d f w by v Void e h = absurd e
truth_known d f w by v Null e h = absurd e
truth_known d f w by v (Thin n r t) e (inl h) = (false, ap is_true h.is)
truth_known d f w by v (Thin n r t) e (inr h) = (true, ap is_true h.is)
truth_known d f w by v (Fat r t) e (inl h) = (false, ap is_true h)
truth_known d f w by v (Fat r t) e (inr h) = (true, ap is_true h.is)
truth_known d f w by v (Unique n t) e (inl h) = (false, ap is_true h.is)
truth_known d f w by v (Unique n t) e (inr h) = (true, ap is_true h.is)
truth_known d f w by v (Handle r) e h = absurd e
truth_known d f w by v (Key r) e h = absurd e
truth_known d f w by v (Struct tag rs) e h = absurd e
truth_known d f w by v (Union tag rs) e h = absurd e

-- ---- comparisons

-- what `==` and `!=` give
equality_gives : (o : Operator) (b : Bool) → is_equality o ≡ true → (c : Bool) × (equality o b ≡ Some (truth_value c))
equality_gives Equal b e = (b, refl)
equality_gives NotEqual b e = (not b, refl)
equality_gives _ b e = absurd cc

pub equality_shape : (o : Operator) (s t : Shape) → is_equality o ≡ true → operator_shape o s t ≡ IntShape
equality_shape Equal s t e = refl
equality_shape NotEqual s t e = refl
equality_shape _ s t e = absurd cc

-- two pointers that can be compared: whether they are the same is known
pub record Comparable (m : Memory) (v u : Scalar) : Type 0 where
  pub result : Bool
  pub joined : (o : Operator) → operated m o v u ≡ equality o result

pub compared_gives : (m : Memory) (o : Operator) (v u : Scalar) → is_equality o ≡ true → Comparable m v u
    → (c : Bool) × (operated m o v u ≡ Some (truth_value c))
compared_gives m o v u e h =
    let z : (c : Bool) × (equality o h.result ≡ Some (truth_value c)) = equality_gives o h.result e in (z.0, h.joined o ∙ z.1)

thins_comparable : (m : Memory) (v u : Scalar) (p q : Option Spot) (result : Bool) → v ≡ memory.Thin p → u ≡ memory.Thin q → same_thin m p q ≡ Some result
    → Comparable m v u
thins_comparable m v u p q result a c e = record {
  result = result;
  joined = λ o. ap (λ (x : Scalar). operated m o x u) a ∙ (ap (λ (x : Scalar). operated m o (memory.Thin p) x) c ∙ ap (option_and_then (equality o)) e);
}

-- where a pointer points is live
abbrev LiveAt : Memory → Option Spot → Type 0
LiveAt m None = Unit {0}
LiveAt m (Some s) = (m.state s.region ≡ Live)

live_is : (m : Memory) (s : Spot) → m.state s.region ≡ Live → is_live m s.region ≡ true
live_is m s l = ap state_is_live l

both_live : (m : Memory) (p q : Option Spot) → LiveAt m p → LiveAt m q → (b : Bool) × (same_thin m p q ≡ Some b)
both_live m None None lp lq = (true, refl)
both_live m None (Some t) lp lq = (false, refl)
both_live m (Some s) None lp lq = (false, refl)
both_live m (Some s) (Some t) lp lq = (
  same_spot s t,
  ap (λ (c : Bool). if c && is_live m t.region then Some (same_spot s t) else None) (live_is m s lp)
      ∙ ap (λ (c : Bool). if c then Some (same_spot s t) else None) (live_is m t lq),
)

none_left : (m : Memory) (q : Option Spot) → (b : Bool) × (same_thin m None q ≡ Some b)
none_left m None = (true, refl)
none_left m (Some t) = (false, refl)

none_right : (m : Memory) (p : Option Spot) → (b : Bool) × (same_thin m p None ≡ Some b)
none_right m None = (true, refl)
none_right m (Some s) = (false, refl)

pointer_of : (d : Tables) (w : Ghost) (by : Owner) (v : Scalar) (c : Reach) (r : Region) (t : RunType) → HasType d w by v (Thin c r t)
    → (p : Option Spot) × (v ≡ memory.Thin p)
pointer_of d w by v c r t (inl h) = (None, h.is)
pointer_of d w by v c r t (inr h) = (Some h.at, h.is)

span_of : (d : Tables) (w : Ghost) (by : Owner) (v : Scalar) (r : Region) (t : RunType) → HasType d w by v (Fat r t) → (p : Option Span) × (v ≡ memory.Wide p)
span_of d w by v r t (inl h) = (None, h)
span_of d w by v r t (inr h) = (Some h.span, h.is)

live_pointer : (d : Tables) (w : Ghost) (m : Memory) (by : Owner) (v : Scalar) (c : Reach) (r : Region) (t : RunType) → Inv d w m → m.state r ≡ Live
    → HasType d w by v (Thin c r t) → (p : Option Spot) × (v ≡ memory.Thin p) × LiveAt m p
live_pointer d w m by v c r t i l (inl h) = (None, h.is, tt)
live_pointer d w m by v c r t i l (inr h) = (Some h.at, h.is, i.closed r h.at.region l h.reaches.above)

module _ (n : ℕ) (d : Tables) (g : Env) (scope : Scope) (f : NameOf → Region) (b : ℕ) (low : ℕ) where
  -- what a value that is looked at is, and what goes on with it
  pub runs_value : {B : Type 0} (s s2 : States) (t : StaticType) (act : Act (List Scalar)) (h : Scalar → Act B) (k : ℕ) (w : Ghost) (m : Memory)
      (Q : B → Memory → Type 0)
      → IsValue t → Shows n d g scope f b low s s2 t act → Inv d w m → Scene d g scope f b low s k w m
      → ((by : Owner) (v : Scalar) (w' : Ghost) (m' : Memory) → HasType d w' by v (renamed f t) → Inv d w' m' → Grows k b w m w' m'
      → Scene d g scope f b low s2 k w' m'
      → Runs n (h v) m' Q)
      → Runs n (act >>= one >>= h) m Q
  runs_value s s2 t act h k w m Q e shows i x go = record {
    by = λ next q. (shows k w m i x).by (λ vs. one vs (λ a. h a next)) (λ vs m' y.
        let z : OneValue d y.ghost (y.holds.0.by 0) vs (renamed f t) =
        one_value d y.ghost y.holds.0.by vs (renamed f t) (subst (λ (ts : List RunType). HaveTypes d y.ghost y.holds.0.by vs ts) (value_cell d f t e)
        y.holds.0.typed) in
        subst (λ (us : List Scalar). Safe n (one us (λ a. h a next) m')) (sym z.is) ((go (y.holds.0.by 0) z.value y.ghost m' z.typed y.inv y.grows
        (scene_later d g scope f b low s s2 k w m y.ghost m' y.inv y.grows y.holds.1 x)).by next q));
  }

  -- what two values have to be like so that they are compared
  abbrev pub Compares : StaticType → StaticType → Type 0
  Compares s t = (a : States) (k : ℕ) (w : Ghost) (m : Memory) (one_by two_by : Owner) (v u : Scalar) → Inv d w m → Scene d g scope f b low a k w m
      → Known d f w one_by v s → HasType d w two_by u (renamed f t) → Comparable m v u

  pub compares_thins : (c e : Reach) (r q : NameOf) (t : StaticType) → g.regions.live r ≡ true → g.regions.live q ≡ true → Compares (Thin c r t) (Thin e q t)
  compares_thins c e r q t lr lq = λ a k w m one_by two_by v u i x hv hu.
      let p : (p : Option Spot) × (v ≡ memory.Thin p) × LiveAt m p = live_pointer d w m one_by v c (f r) (renamed f t) i (x.names.live r lr) hv in
      let s : (p : Option Spot) × (u ≡ memory.Thin p) × LiveAt m p = live_pointer d w m two_by u e (f q) (renamed f t) i (x.names.live q lq) hu in
      let z : (b : Bool) × (same_thin m p.0 s.0 ≡ Some b) = both_live m p.0 s.0 p.2 s.2 in
      thins_comparable m v u p.0 s.0 z.0 p.1 s.1 z.1

  pub compares_with_null : (c : Reach) (r : NameOf) (t : StaticType) → Compares (Thin c r t) Null
  compares_with_null c r t = λ a k w m one_by two_by v u i x hv hu.
      let p : (p : Option Spot) × (v ≡ memory.Thin p) = pointer_of d w one_by v c (f r) (renamed f t) hv in
      let z : (b : Bool) × (same_thin m p.0 None ≡ Some b) = none_right m p.0 in
      thins_comparable m v u p.0 None z.0 p.1 hu z.1

  pub compares_null_with : (c : Reach) (r : NameOf) (t : StaticType) → Compares Null (Thin c r t)
  compares_null_with c r t = λ a k w m one_by two_by v u i x hv hu.
      let p : (p : Option Spot) × (u ≡ memory.Thin p) = pointer_of d w two_by u c (f r) (renamed f t) hu in
      let z : (b : Bool) × (same_thin m None p.0 ≡ Some b) = none_left m p.0 in
      thins_comparable m v u None p.0 z.0 hv p.1 z.1

  -- a unique pointer is compared with `NULL` alone
  pub compares_unique_with_null : (c : Bool) (t : StaticType) → Compares (Unique c t) Null
  compares_unique_with_null c t = λ a k w m one_by two_by v u i x p hu.
      let z : (b : Bool) × (same_thin m p.0 None ≡ Some b) = none_right m p.0 in
      thins_comparable m v u p.0 None z.0 p.1 hu z.1

  pub compares_null_with_unique : (c : Bool) (t : StaticType) → Compares Null (Unique c t)
  compares_null_with_unique c t = λ a k w m one_by two_by v u i x hv hu.
      let p : (p : Option Spot) × (u ≡ memory.Thin p) = unique_of d w two_by u c (renamed f t) hu in
      let z : (b : Bool) × (same_thin m None p.0 ≡ Some b) = none_left m p.0 in
      thins_comparable m v u None p.0 z.0 hv p.1 z.1

  -- so is a fat one
  pub compares_fat_with_null : (r : NameOf) (t : StaticType) → Compares (Fat r t) Null
  compares_fat_with_null r t = λ a k w m one_by two_by v u i x hv hu.
      let p : (p : Option Span) × (v ≡ memory.Wide p) = span_of d w one_by v (f r) (renamed f t) hv in
      record {
        result = not (is_some p.0);
        joined = λ o. ap (λ (y : Scalar). operated m o y u) p.1 ∙ ap (λ (y : Scalar). operated m o (memory.Wide p.0) y) hu;
      }

  pub compares_null_with_fat : (r : NameOf) (t : StaticType) → Compares Null (Fat r t)
  compares_null_with_fat r t = λ a k w m one_by two_by v u i x hv hu.
      let p : (p : Option Span) × (u ≡ memory.Wide p) = span_of d w two_by u (f r) (renamed f t) hu in
      record {
        result = not (is_some p.0);
        joined = λ o. ap (λ (y : Scalar). operated m o y u) hv ∙ ap (λ (y : Scalar). operated m o (memory.Thin None) y) p.1;
      }

  -- two pointers are compared: the first one is as it was once the second one was evaluated
  pub gives_compared : (s0 s1 s2 : States) (o : Operator) (s t : StaticType) (a c : Act (List Scalar)) → is_equality o ≡ true → IsValue s → IsValue t
      → Compares s t
      → Shows n d g scope f b low s0 s1 s a → Shows n d g scope f b low s1 s2 t c
      → Gives n d g scope f b low s0 s2 Int (a >>= one >>= λ x. c >>= one >>= λ y. steps.memory >>= λ m. need (operated m o x y) >>= λ r. give (r ∷ []))
  gives_compared s0 s1 s2 o s t a c e is it compares ha hc = λ k w m i x.
      runs_value s0 s1 s a (λ x. c >>= one >>= λ y. steps.memory >>= λ m. need (operated m o x y) >>= λ r. give (r ∷ [])) k w m (post k w m) is ha i x
      (λ by v w1 m1 hv i1 g1 x1.
      runs_value s1 s2 t c (λ y. steps.memory >>= λ m. need (operated m o v y) >>= λ r. give (r ∷ [])) k w1 m1 (post k w m) it hc i1 x1
      (λ by2 u w2 m2 hu i2 g2 x2.
      let kept : Known d f w2 by v s = known_later d f w1 w2 by v s is (grows_grown g2) hv in
      let z : (c : Bool) × (operated m2 o v u ≡ Some (truth_value c)) = compared_gives m2 o v u e (compares s2 k w2 m2 by by2 v u i2 x2 kept hu) in
      record {
        by = λ next q. subst (λ (y : Option Scalar). Safe n ((need y >>= λ r. give (r ∷ [])) next m2)) (sym z.1) (q (truth_value z.0 ∷ []) m2 (record {
          ghost = w2;
          inv = i2;
          grows = grows_trans g1 g2;
          holds = (truth_typed d f w2 (flying k 0) z.0, x2.stands);
        }));
      }))
    where
      post : ℕ → Ghost → Memory → List Scalar → Memory → Type 0
      post k w m = λ vs. After d k b w m (λ w' m'. HaveTypes d w' (flying k 0) vs (cells_type d f Int) × Standing d g scope f s2 w' m')

  -- ---- `*e` and `&e`

  -- NULL raises, and else the cell is there, in a region that is live
  pub finds_contents : (s s2 : States) (c : Reach) (r : NameOf) (t : StaticType) (cells : ℕ) (act : Act (List Scalar)) → IsObjectType t
      → g.regions.live r ≡ true
      → Shows n d g scope f b low s s2 (Thin c r t) act → Finds n d g scope f b low s s2 t r (act >>= one >>= λ p. accessed cells p)
  finds_contents s s2 c r t cells act e live shows = λ k w m i x. record {
    by = λ next q. (runs_value s s2 (Thin c r t) act (λ p. accessed cells p) k w m (post k w m) e shows i x
        (λ by v w1 m1 hv i1 g1 x1. reached k w m by v w1 m1 hv i1 g1 x1)).by next q;
  }
    where
      post : ℕ → Ghost → Memory → Spot → Memory → Type 0
      post k w m = λ at. After d k b w m (λ w' m'. PlaceOk d f t r at w' m' × Standing d g scope f s2 w' m')

      reached : (k : ℕ) (w : Ghost) (m : Memory) (by : Owner) (v : Scalar) (w1 : Ghost) (m1 : Memory) → HasType d w1 by v (renamed f (Thin c r t)) → Inv d w1 m1
          → Grows k b w m w1 m1 → Scene d g scope f b low s2 k w1 m1 → Runs n (accessed cells v) m1 (post k w m)
      reached k w m by v w1 m1 (inl h) i1 g1 x1 = subst (λ (y : Scalar). Runs n (accessed cells y) m1 (post k w m)) (sym h.is)
          (record { by = λ next q. safe_raised n NullException })
      reached k w m by v w1 m1 (inr h) i1 g1 x1 = subst (λ (y : Scalar). Runs n (accessed cells y) m1 (post k w m)) (sym h.is) (record {
        by = λ next q. q h.at m1 (record {
          ghost = w1;
          inv = i1;
          grows = g1;
          holds = ((h.reaches, i1.closed (f r) h.at.region (x1.names.live r live) h.reaches.above), x1.stands);
        });
      })

  -- a pointer to a place is never NULL
  pub gives_address : (s s2 : States) (r : NameOf) (t : StaticType) (place : Act Spot) → Finds n d g scope f b low s s2 t r place
      → Gives n d g scope f b low s s2 (Thin (NeverNull 1) r t) (place >>= λ s. give (memory.Thin (Some s) ∷ []))
  gives_address s s2 r t place finds = λ k w m i x. record {
    by = λ next q. (finds k w m i x).by (λ a. next (memory.Thin (Some a) ∷ [])) (λ a m1 y. q (memory.Thin (Some a) ∷ []) m1 (record {
      ghost = y.ghost;
      inv = y.inv;
      grows = y.grows;
      holds = (let z : PlaceOk d f t r a y.ghost m1 = y.holds.0 in
          ((inr (record { at = a; is = refl; reaches = z.0; elements = only_one d y.ghost a (f r) (renamed f t) z.0 }), tt), y.holds.1));
    }));
  }
