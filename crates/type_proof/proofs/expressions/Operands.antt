-- Operands: operators on integers and tests run safely.
use Rattle.std.proofs.Common.{◌≡◌, ℕ, Bool, true, false, Some, List, [], ◌∷◌, sym, ◌∙◌, ap, subst}
use Rattle.cyc_tree.specs.declared.expression.Operator.{Operator}
use Rattle.source_meaning.specs.Memory.{Region, Scalar, Integer, IntegerType, Memory}
use Rattle.source_meaning.specs.Operators.{truth_value, operated, integers, is_true}
use Rattle.source_meaning.specs.Steps.{Scope, Act, give, ◌>>=◌, memory, need, choose}
use Rattle.source_meaning.specs.Conversions.{one}
use Rattle.source_meaning.specs.Places.{Sense}
use Rattle.source_meaning.specs.Calls.{truth, inverted}
use Rattle.source_typing.specs.Converts.{IsInteger}
use Rattle.source_typing.specs.Operators.{on_integers}
use Rattle.source_typing.specs.Types.{StaticType, Int, integer_type}
use Rattle.source_typing.specs.Scope.{Env}
use Rattle.source_typing.specs.States.{States, Passed}
use Rattle.type_proof.specs.Flat.{Tables}
use Rattle.type_proof.proofs.invariant.Invariant.{Ghost, HaveTypes, Inv, Grows}
use Rattle.type_proof.proofs.invariant.Growth.{grows_refl, grows_trans}
use Rattle.type_proof.proofs.invariant.Runs.{Safe, Runs}
use Rattle.type_proof.proofs.invariant.After.{After, flying}
use Rattle.type_proof.proofs.invariant.Names.{NameOf}
use Rattle.type_proof.proofs.invariant.Standing.{Standing}
use Rattle.type_proof.proofs.invariant.Scenes.{Scene, scene_later}
use Rattle.type_proof.proofs.invariant.Sound.{cells_type, Gives, Shows}
use Rattle.type_proof.proofs.expressions.Integers.{IsWord, word_of, joined_typed, truth_typed}
use Rattle.type_proof.proofs.expressions.Words.{IsWordType}
use Rattle.type_proof.proofs.expressions.Pointers.{word_value, truth_known, runs_value}

module _ (n : ℕ) (d : Tables) (g : Env) (scope : Scope) (f : NameOf → Region) (b : ℕ) (low : ℕ) where
  -- what an integer that is looked at is, and what goes on with it
  pub runs_word : {B : Type 0} (s s2 : States) (t : StaticType) (act : Act (List Scalar)) (h : Scalar → Act B) (k : ℕ) (w : Ghost) (m : Memory)
      (Q : B → Memory → Type 0)
      → IsInteger t → Shows n d g scope f b low s s2 t act → Inv d w m → Scene d g scope f b low s k w m
      → ((c : IntegerType) (x : ℕ) (w' : Ghost) (m' : Memory) → t ≡ integer_type c → Inv d w' m' → Grows k b w m w' m' → Scene d g scope f b low s2 k w' m'
      → Runs n (h (Integer c x)) m' Q)
      → Runs n (act >>= one >>= h) m Q
  runs_word s s2 t act h k w m Q integer shows i x go = record {
    by = λ next q. (shows k w m i x).by (λ vs. one vs (λ a. h a next)) (λ vs m' y.
        let z : IsWord vs t = word_of d f y.ghost y.holds.0.by vs t integer y.holds.0.typed in
        subst (λ (us : List Scalar). Safe n (one us (λ a. h a next) m')) (sym z.is) ((go z.of z.word y.ghost m' z.type y.inv y.grows
        (scene_later d g scope f b low s s2 k w m y.ghost m' y.inv y.grows y.holds.1 x)).by next q));
  }

  -- two integers are joined by an operator
  pub gives_applied : (s0 s1 s2 : States) (o : Operator) (s t : StaticType) (a c : Act (List Scalar)) → IsInteger s → IsInteger t
      → Shows n d g scope f b low s0 s1 s a
      → Shows n d g scope f b low s1 s2 t c
      → Gives n d g scope f b low s0 s2 (on_integers o s t) (a >>= one >>= λ x. c >>= one >>= λ y. memory >>= λ m. need (operated m o x y)
      >>= λ r. give (r ∷ []))
  gives_applied s0 s1 s2 o s t a c is it ha hc = λ k w m i x.
      runs_word s0 s1 s a (λ x. c >>= one >>= λ y. memory >>= λ m. need (operated m o x y) >>= λ r. give (r ∷ [])) k w m (post k w m) is ha i x
      (λ u p w1 m1 e i1 g1 x1.
      runs_word s1 s2 t c (λ y. memory >>= λ m. need (operated m o (Integer u p) y) >>= λ r. give (r ∷ [])) k w1 m1 (post k w m) it hc i1 x1
      (λ v q w2 m2 e2 i2 g2 x2. record {
        by = λ next go. go (_ ∷ []) m2 (record {
          ghost = w2;
          inv = i2;
          grows = grows_trans g1 g2;
          holds = (
            subst (λ (z : StaticType). HaveTypes d w2 (flying k 0) (integers o u p v q ∷ []) (cells_type d f z))
                (sym (ap (λ (z : StaticType). on_integers o z t) e ∙ ap (on_integers o (integer_type u)) e2))
                (joined_typed d f w2 (flying k 0) o u p v q),
            x2.stands,
          );
        });
      }))
    where
      post : ℕ → Ghost → Memory → List Scalar → Memory → Type 0
      post k w m = λ vs. After d k b w m (λ w' m'.
          HaveTypes d w' (flying k 0) vs (cells_type d f (on_integers o s t)) × Standing d g scope f s2 w' m')

  -- ---- tests

  -- an act that tells whether
  abbrev pub Tells : States → States → Act Bool → Type 0
  Tells s s2 act = (k : ℕ) (w : Ghost) (m : Memory) → Inv d w m → Scene d g scope f b low s k w m
      → Runs n act m (λ t. After d k b w m (λ w' m'. Standing d g scope f s2 w' m'))

  abbrev pub TellsBy : (States → Passed) → Act Bool → Type 0
  TellsBy p act = (s : States) → (p s).faults ≡ [] → Tells s (p s).states act

  pub tells_truth : (s s2 : States) (t : StaticType) (e : Sense) → IsWordType t → Shows n d g scope f b low s s2 t e.look → Tells s s2 (truth e)
  tells_truth s s2 t e is h = λ k w m i x.
      runs_value n d g scope f b low s s2 t e.look (λ v. need (is_true v)) k w m (λ t. After d k b w m (λ w' m'. Standing d g scope f s2 w' m'))
      (word_value t is) h
      i x
      (λ by v w1 m1 hv i1 g1 x1.
      let z : (c : Bool) × (is_true v ≡ Some c) = truth_known d f w1 by v t is hv in
      record {
        by = λ next q. subst (λ (y : _). Safe n (need y next m1)) (sym z.1) (q z.0 m1 (record { ghost = w1; inv = i1; grows = g1; holds = x1.stands }));
      })

  -- a test, and one of two acts
  pub runs_choose : {B : Type 0} (s s2 : States) (act : Act Bool) (k : ℕ) (w : Ghost) (m : Memory) (h : Bool → Act B) (Q : B → Memory → Type 0) → Tells s s2 act
      → Inv d w m
      → Scene d g scope f b low s k w m
      → ((t : Bool) (w' : Ghost) (m' : Memory) → Inv d w' m' → Grows k b w m w' m' → Scene d g scope f b low s2 k w' m' → Runs n (h t) m' Q)
      → Runs n (act >>= h) m Q
  runs_choose s s2 act k w m h Q tells i x go = record {
    by = λ next q. (tells k w m i x).by (λ t. h t next)
        (λ t m' y. (go t y.ghost m' y.inv y.grows (scene_later d g scope f b low s s2 k w m y.ghost m' y.inv y.grows y.holds x)).by next q);
  }

  tells_at_once : (s : States) (t : Bool) → Tells s s (give t)
  tells_at_once s t = λ k w m i x. record { by = λ next q. q t m (record { ghost = w; inv = i; grows = grows_refl k b w m; holds = x.stands }) }

  -- what tells after something else was done
  tells_then : (s s2 : States) (act : Act Bool) (k : ℕ) (w : Ghost) (m : Memory) (w' : Ghost) (m' : Memory) → Tells s s2 act → Inv d w' m' → Grows k b w m w' m'
      → Scene d g scope f b low s k w' m' → Runs n act m' (λ t. After d k b w m (λ w2 m2. Standing d g scope f s2 w2 m2))
  tells_then s s2 act k w m w' m' h i g1 x = record {
    by = λ next q. (h k w' m' i x).by next (λ t m2 y. q t m2 (record { ghost = y.ghost; inv = y.inv; grows = grows_trans g1 y.grows; holds = y.holds }));
  }

  pub tells_choice : (s s1 s2 : States) (act yes_act no_act : Act Bool) → Tells s s1 act → Tells s1 s2 yes_act → Tells s1 s2 no_act
      → Tells s s2 (act >>= λ t. choose t yes_act no_act)
  tells_choice s s1 s2 act yes_act no_act h hy hn = λ k w m i x.
      runs_choose s s1 act k w m (λ t. choose t yes_act no_act) (λ t. After d k b w m (λ w' m'. Standing d g scope f s2 w' m')) h i x
      (λ t w' m' i' g' x'. by k w m t w' m' i' g' x')
    where
      by : (k : ℕ) (w : Ghost) (m : Memory) (t : Bool) (w' : Ghost) (m' : Memory) → Inv d w' m' → Grows k b w m w' m' → Scene d g scope f b low s1 k w' m'
          → Runs n (choose t yes_act no_act) m' (λ t. After d k b w m (λ w2 m2. Standing d g scope f s2 w2 m2))
      by k w m true w' m' i g1 x = tells_then s1 s2 yes_act k w m w' m' hy i g1 x
      by k w m false w' m' i g1 x = tells_then s1 s2 no_act k w m w' m' hn i g1 x

  pub tells_not : (s s2 : States) (act : Act Bool) → Tells s s2 act → Tells s s2 (inverted act)
  tells_not s s2 act h = tells_choice s s2 s2 act (give false) (give true) h (tells_at_once s2 false) (tells_at_once s2 true)

  pub gives_tested : (s s2 : States) (act : Act Bool) → Tells s s2 act → Gives n d g scope f b low s s2 Int (act >>= λ t. give (truth_value t ∷ []))
  gives_tested s s2 act h = λ k w m i x. record {
    by = λ next q. (h k w m i x).by (λ t. next (truth_value t ∷ []))
        (λ t m' y. q (truth_value t ∷ []) m' (record {
          ghost = y.ghost;
          inv = y.inv;
          grows = y.grows;
          holds =
              (truth_typed d f y.ghost (flying k 0) t, y.holds);
        }));
  }
