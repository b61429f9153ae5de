-- Fat pointers are moved, counted, dereferenced and indexed.
use Rattle.std.proofs.Common.{◌≡◌, ◌<◌, ℕ, true, inl, inr, Option, Some, None, List, [], ◌∷◌, refl, sym, ap, subst}
use Rattle.std.specs.Prelude.{◌-◌, ◌*◌, length}
use Rattle.cyc_words.specs.Words.{sum_of, difference_of}
use Rattle.cyc_words.specs.declared.faults.Kind.TheVariants.{NullException}
use Rattle.cyc_tree.specs.declared.expression.Operator.{Operator}
use Rattle.cyc_tree.specs.declared.expression.Operator.TheVariants.{Add, Subtract}
use Rattle.source_meaning.specs.Shapes.{Reach, count_of, Shape, FatShape}
use Rattle.source_meaning.specs.Memory.{Region, Spot, Scalar, Integer, IntegerType, AsUnsigned, Wide, Memory, beyond}
use Rattle.source_meaning.specs.Steps.{Scope, Act, give, ◌>>=◌, memory, need}
use Rattle.source_meaning.specs.Operators.{operated, operator_shape, with_index}
use Rattle.source_meaning.specs.Conversions.{one, integer, accessed}
use Rattle.source_meaning.specs.Places.{indexed_span}
use Rattle.source_meaning.specs.Calls.{elements_left}
use Rattle.source_typing.specs.Converts.{IsInteger}
use Rattle.source_typing.specs.Operators.{is_move}
use Rattle.source_typing.specs.Scope.{Env}
use Rattle.source_typing.specs.Types.{StaticType, Unsigned, Fat, Thin, renamed}
use Rattle.source_typing.specs.States.{States}
use Rattle.type_proof.specs.Flat.{Tables}
use Rattle.type_proof.proofs.invariant.Invariant.{RunType, Owner, Ghost, Reaches, HasType, HaveTypes, Inv, Grows}
use Rattle.type_proof.proofs.invariant.Values.{copied_kept}
use Rattle.type_proof.proofs.invariant.Growth.{grows_trans}
use Rattle.type_proof.proofs.invariant.Runs.{Safe, Runs, safe_raised}
use Rattle.type_proof.proofs.invariant.After.{After, flying}
use Rattle.type_proof.proofs.invariant.Names.{NameOf}
use Rattle.type_proof.proofs.invariant.Standing.{Standing}
use Rattle.type_proof.proofs.invariant.Scenes.{Scene}
use Rattle.type_proof.proofs.invariant.Sound.{cells_type, PlaceOk, Gives, Shows, Finds}
use Rattle.type_proof.proofs.expressions.Words.{IsObjectType, grows_grown}
use Rattle.type_proof.proofs.expressions.Elements.{same_elements, these_elements, runs_element}
use Rattle.type_proof.proofs.expressions.Pointers.{runs_value}
use Rattle.type_proof.proofs.expressions.Operands.{runs_word}

-- what moves a fat pointer gives one to the same elements
moved_typed : (d : Tables) (w : Ghost) (m : Memory) (by to : Owner) (o : Operator) (v : Scalar) (s : IntegerType) (x : ℕ) (r : Region) (t : RunType)
    → is_move o ≡ true → HasType d w by v (Fat r t) → (u : Scalar) × (operated m o v (Integer s x) ≡ Some u) × HasType d w to u (Fat r t)
moved_typed d w m by to Add v s x r t e (inl h) = (Wide None, ap (λ y. operated m Add y (Integer s x)) h, inl refl)
moved_typed d w m by to Add v s x r t e (inr h) = (
  Wide (with_index (Some h.span) (λ i. sum_of i x)),
  ap (λ y. operated m Add y (Integer s x)) h.is,
  inr (same_elements d w h.span (sum_of h.span.index x) r t h.reaches),
)
moved_typed d w m by to Subtract v s x r t e (inl h) = (Wide None, ap (λ y. operated m Subtract y (Integer s x)) h, inl refl)
moved_typed d w m by to Subtract v s x r t e (inr h) = (
  Wide (with_index (Some h.span) (λ i. difference_of i x)),
  ap (λ y. operated m Subtract y (Integer s x)) h.is,
  inr (same_elements d w h.span (difference_of h.span.index x) r t h.reaches),
)
moved_typed d w m by to _ v s x r t e h = absurd cc

pub moved_shape : (o : Operator) (s t : Shape) → is_move o ≡ true → operator_shape o (FatShape s) t ≡ FatShape s
moved_shape Add s t e = refl
moved_shape Subtract s t e = refl
moved_shape _ s t e = absurd cc

module _ (n : ℕ) (d : Tables) (g : Env) (scope : Scope) (f : NameOf → Region) (b : ℕ) (low : ℕ) where
  -- `p + e` and `p - e`
  pub gives_moved : (s0 s1 s2 : States) (o : Operator) (r : NameOf) (t u : StaticType) (a c : Act (List Scalar)) → is_move o ≡ true → IsObjectType t
      → IsInteger u
      → Shows n d g scope f b low s0 s1 (Fat r t) a → Shows n d g scope f b low s1 s2 u c
      → Gives n d g scope f b low s0 s2 (Fat r t) (a >>= one >>= λ x. c >>= one >>= λ y. memory >>= λ m. need (operated m o x y) >>= λ r. give (r ∷ []))
  gives_moved s0 s1 s2 o r t u a c e it iu ha hc = λ k w m i x.
      runs_value n d g scope f b low s0 s1 (Fat r t) a (λ p. c >>= one >>= λ y. memory >>= λ m. need (operated m o p y) >>= λ r. give (r ∷ [])) k w m
      (post k w m) it ha i x
      (λ by v w1 m1 hv i1 g1 x1.
      runs_word n d g scope f b low s1 s2 u c (λ y. memory >>= λ m. need (operated m o v y) >>= λ r. give (r ∷ [])) k w1 m1 (post k w m) iu hc i1 x1
      (λ s q w2 m2 e2 i2 g2 x2.
      let kept : HasType d w2 by v (Fat (f r) (renamed f t)) = copied_kept d w1 w2 by by v (Fat (f r) (renamed f t)) (grows_grown g2) refl hv in
      let z = moved_typed d w2 m2 by (flying k 0 0) o v s q (f r) (renamed f t) e kept in
      record {
        by = λ next go. subst (λ (y : Option Scalar). Safe n ((need y >>= λ r. give (r ∷ [])) next m2)) (sym z.1) (go (z.0 ∷ []) m2 (record {
          ghost = w2;
          inv = i2;
          grows = grows_trans g1 g2;
          holds = ((z.2, tt), x2.stands);
        }));
      }))
    where
      post : ℕ → Ghost → Memory → List Scalar → Memory → Type 0
      post k w m = λ vs. After d k b w m (λ w' m'. HaveTypes d w' (flying k 0) vs (cells_type d f (Fat r t)) × Standing d g scope f s2 w' m')

  -- `numelts(e)`
  pub gives_counted : (s s2 : States) (r : NameOf) (t : StaticType) (act : Act (List Scalar)) → IsObjectType t → Shows n d g scope f b low s s2 (Fat r t) act
      → Gives n d g scope f b low s s2 Unsigned (act >>= one >>= elements_left >>= λ n. give (n ∷ []))
  gives_counted s s2 r t act it shows = λ k w m i x. record {
    by = λ next q. (runs_value n d g scope f b low s s2 (Fat r t) act (λ p. elements_left p >>= λ n. give (n ∷ [])) k w m (post k w m) it shows i x
        (λ by v w1 m1 hv i1 g1 x1. counted k w m by v w1 m1 hv i1 g1 x1)).by next q;
  }
    where
      post : ℕ → Ghost → Memory → List Scalar → Memory → Type 0
      post k w m = λ vs. After d k b w m (λ w' m'. HaveTypes d w' (flying k 0) vs (cells_type d f Unsigned) × Standing d g scope f s2 w' m')

      counted : (k : ℕ) (w : Ghost) (m : Memory) (by : Owner) (v : Scalar) (w1 : Ghost) (m1 : Memory) → HasType d w1 by v (renamed f (Fat r t)) → Inv d w1 m1
          → Grows k b w m w1 m1 → Scene d g scope f b low s2 k w1 m1 → Runs n (elements_left v >>= λ n. give (n ∷ [])) m1 (post k w m)
      counted k w m by v w1 m1 (inl h) i1 g1 x1 = subst (λ (y : Scalar). Runs n (elements_left y >>= λ n. give (n ∷ [])) m1 (post k w m)) (sym h) (record {
        by = λ next q. q (Integer AsUnsigned 0 ∷ []) m1 (record
            { ghost = w1; inv = i1; grows = g1; holds = ((record { word = 0; is = refl }, tt), x1.stands) });
      })
      counted k w m by v w1 m1 (inr h) i1 g1 x1 = subst (λ (y : Scalar). Runs n (elements_left y >>= λ n. give (n ∷ [])) m1 (post k w m)) (sym h.is) (record {
        by = λ next q. q (Integer AsUnsigned (h.span.count - h.span.index) ∷ []) m1 (record {
          ghost = w1;
          inv = i1;
          grows = g1;
          holds = ((record { word = h.span.count - h.span.index; is = refl }, tt), x1.stands);
        });
      })

  -- ---- an element as a place

  -- NULL raises, an index that isn't below the count raises, and else the element is there, in a region that is live
  finds_spanned : (s2 : States) (r : NameOf) (t : StaticType) (cells k : ℕ) (w : Ghost) (m : Memory) (by : Owner) (v : Scalar) (w1 : Ghost) (m1 : Memory)
      → cells ≡ length (cells_type d f t) → g.regions.live r ≡ true → HasType d w1 by v (renamed f (Fat r t)) → Inv d w1 m1 → Grows k b w m w1 m1
      → Scene d g scope f b low s2 k w1 m1 → Runs n (accessed cells v) m1
      (λ at. After d k b w m (λ w' m'. PlaceOk d f t r at w' m' × Standing d g scope f s2 w' m'))
  finds_spanned s2 r t cells k w m by v w1 m1 count live (inl h) i1 g1 x1 =
      subst (λ (y : Scalar). Runs n (accessed cells y) m1 (λ at. After d k b w m (λ w' m'. PlaceOk d f t r at w' m' × Standing d g scope f s2 w' m'))) (sym h)
      (record { by = λ next q. safe_raised n NullException })
  finds_spanned s2 r t cells k w m by v w1 m1 count live (inr h) i1 g1 x1 =
      subst (λ (y : Scalar). Runs n (accessed cells y) m1 (λ at. After d k b w m (λ w' m'. PlaceOk d f t r at w' m' × Standing d g scope f s2 w' m')))
      (sym h.is)
      (record {
        by = λ next q. (runs_element n cells h.span (λ at. give at) m1
            (λ at. After d k b w m (λ w' m'. PlaceOk d f t r at w' m' × Standing d g scope f s2 w' m')) here).by next q;
      })
    where
      at : Spot
      at = beyond h.span.first (h.span.index * cells)

      here : h.span.index < h.span.count → Runs n (give at) m1 (λ at. After d k b w m (λ w' m'. PlaceOk d f t r at w' m' × Standing d g scope f s2 w' m'))
      here l =
          let reach : Reaches d w1 at (f r) (renamed f t) =
          subst (λ (c : ℕ). Reaches d w1 (beyond h.span.first (h.span.index * c)) (f r) (renamed f t)) (sym count) (h.reaches h.span.index l) in
          record {
            by = λ next q. q at m1 (record {
              ghost = w1;
              inv = i1;
              grows = g1;
              holds = ((reach, i1.closed (f r) at.region (x1.names.live r live) reach.above), x1.stands);
            });
          }

  -- `*e`
  pub finds_element : (s s2 : States) (r : NameOf) (t : StaticType) (cells : ℕ) (act : Act (List Scalar)) → IsObjectType t → cells ≡ length (cells_type d f t)
      → g.regions.live r ≡ true → Shows n d g scope f b low s s2 (Fat r t) act → Finds n d g scope f b low s s2 t r (act >>= one >>= λ p. accessed cells p)
  finds_element s s2 r t cells act it count live shows = λ k w m i x. record {
    by = λ next q. (runs_value n d g scope f b low s s2 (Fat r t) act (λ p. accessed cells p) k w m
        (λ at. After d k b w m (λ w' m'. PlaceOk d f t r at w' m' × Standing d g scope f s2 w' m')) it shows i x
        (λ by v w1 m1 hv i1 g1 x1.
        finds_spanned s2 r t cells k w m by v w1 m1 count live hv i1 g1 x1)).by next q;
  }

  -- and so where the index is another one
  finds_further : (s2 : States) (r : NameOf) (t : StaticType) (cells all j k : ℕ) (w : Ghost) (m : Memory) (by : Owner) (v : Scalar) (w1 : Ghost) (m1 : Memory)
      → cells ≡ length (cells_type d f t) → g.regions.live r ≡ true → HasType d w1 by v (renamed f (Fat r t)) → Inv d w1 m1 → Grows k b w m w1 m1
      → Scene d g scope f b low s2 k w1 m1 → Runs n (indexed_span all j v >>= λ p. accessed cells p) m1
      (λ at. After d k b w m (λ w' m'. PlaceOk d f t r at w' m' × Standing d g scope f s2 w' m'))
  finds_further s2 r t cells all j k w m by v w1 m1 count live (inl h) i1 g1 x1 =
      subst (λ (y : Scalar). Runs n (indexed_span all j y >>= λ p. accessed cells p) m1
      (λ at. After d k b w m (λ w' m'. PlaceOk d f t r at w' m' × Standing d g scope f s2 w' m'))) (sym h)
      (record { by = λ next q. safe_raised n NullException })
  finds_further s2 r t cells all j k w m by v w1 m1 count live (inr h) i1 g1 x1 =
      let index : ℕ = sum_of h.span.index j in
      subst (λ (y : Scalar). Runs n (indexed_span all j y >>= λ p. accessed cells p) m1
      (λ at. After d k b w m (λ w' m'. PlaceOk d f t r at w' m' × Standing d g scope f s2 w' m'))) (sym h.is) (record {
        by = λ next q. (finds_spanned s2 r t cells k w m by (Wide (Some (record h.span { index = index }))) w1 m1 count live
            (inr (same_elements d w1 h.span index (f r) (renamed f t) h.reaches)) i1 g1 x1).by next q;
      })

  -- `a[b]`: the index goes first
  pub finds_indexed : (s0 s1 s2 : States) (r : NameOf) (t u : StaticType) (cells all : ℕ) (index act : Act (List Scalar)) → IsObjectType t → IsInteger u
      → cells ≡ length (cells_type d f t) → g.regions.live r ≡ true → Shows n d g scope f b low s0 s1 u index → Shows n d g scope f b low s1 s2 (Fat r t) act
      → Finds n d g scope f b low s0 s2 t r (index >>= one >>= integer >>= λ k. act >>= one >>= indexed_span all k >>= λ p. accessed cells p)
  finds_indexed s0 s1 s2 r t u cells all index act it iu count live hi ha = λ k w m i x. record {
    by = λ next q. (runs_word n d g scope f b low s0 s1 u index (λ y. integer y >>= λ j. act >>= one >>= indexed_span all j >>= λ p. accessed cells p) k w m
        (λ at. After d k b w m (λ w' m'. PlaceOk d f t r at w' m' × Standing d g scope f s2 w' m')) iu hi i x
        (λ s j w1 m1 e1 i1 g1 x1. record {
          by = λ next1 q1. (runs_value n d g scope f b low s1 s2 (Fat r t) act (λ p. indexed_span all j p >>= λ p. accessed cells p) k w1 m1
              (λ at. After d k b w m (λ w' m'. PlaceOk d f t r at w' m' × Standing d g scope f s2 w' m')) it ha i1 x1
              (λ by v w2 m2 hv i2 g2 x2.
              let g3 : Grows k b w m w2 m2 = grows_trans g1 g2 in
              finds_further s2 r t cells all j k w m by v w2 m2 count live hv i2 g3 x2)).by next1 q1;
        })).by next q;
  }

  -- ---- an element of a thin pointer as a place

  -- NULL raises, an index that isn't below the bound raises, and else the element is there
  finds_bounded : (s2 : States) (c : Reach) (r : NameOf) (t : StaticType) (cells j k : ℕ) (w : Ghost) (m : Memory) (by : Owner) (v : Scalar) (w1 : Ghost)
      (m1 : Memory)
      → cells ≡ length (cells_type d f t) → g.regions.live r ≡ true → HasType d w1 by v (renamed f (Thin c r t)) → Inv d w1 m1 → Grows k b w m w1 m1
      → Scene d g scope f b low s2 k w1 m1 → Runs n (indexed_span (count_of c) j v >>= λ p. accessed cells p) m1
      (λ at. After d k b w m (λ w' m'. PlaceOk d f t r at w' m' × Standing d g scope f s2 w' m'))
  finds_bounded s2 c r t cells j k w m by v w1 m1 count live (inl h) i1 g1 x1 =
      subst (λ (y : Scalar). Runs n (indexed_span (count_of c) j y >>= λ p. accessed cells p) m1
      (λ at. After d k b w m (λ w' m'. PlaceOk d f t r at w' m' × Standing d g scope f s2 w' m'))) (sym h.is)
      (record { by = λ next q. safe_raised n NullException })
  finds_bounded s2 c r t cells j k w m by v w1 m1 count live (inr h) i1 g1 x1 =
      subst (λ (y : Scalar). Runs n (indexed_span (count_of c) j y >>= λ p. accessed cells p) m1
      (λ at. After d k b w m (λ w' m'. PlaceOk d f t r at w' m' × Standing d g scope f s2 w' m'))) (sym h.is) (record {
        by = λ next q. (finds_spanned s2 r t cells k w m by (Wide (Some (record { first = h.at; count = count_of c; index = j }))) w1 m1 count live
            (inr (these_elements d w1 h.at (count_of c) j (f r) (renamed f t) h.elements)) i1 g1 x1).by next q;
      })

  -- `p[e]` of a thin pointer
  pub finds_subscripted : (s0 s1 s2 : States) (c : Reach) (r : NameOf) (t u : StaticType) (cells : ℕ) (index act : Act (List Scalar)) → IsObjectType t
      → IsInteger u
      → cells ≡ length (cells_type d f t) → g.regions.live r ≡ true → Shows n d g scope f b low s0 s1 u index
      → Shows n d g scope f b low s1 s2 (Thin c r t) act
      → Finds n d g scope f b low s0 s2 t r (index >>= one >>= integer >>= λ k. act >>= one >>= indexed_span (count_of c) k >>= λ p. accessed cells p)
  finds_subscripted s0 s1 s2 c r t u cells index act it iu count live hi ha = λ k w m i x. record {
    by = λ next q. (runs_word n d g scope f b low s0 s1 u index
        (λ y. integer y >>= λ j. act >>= one >>= indexed_span (count_of c) j >>= λ p. accessed cells p) k w m
        (λ at. After d k b w m (λ w' m'. PlaceOk d f t r at w' m' × Standing d g scope f s2 w' m')) iu hi i x
        (λ s j w1 m1 e1 i1 g1 x1. record {
          by = λ next1 q1. (runs_value n d g scope f b low s1 s2 (Thin c r t) act (λ p. indexed_span (count_of c) j p >>= λ p. accessed cells p) k w1 m1
              (λ at. After d k b w m (λ w' m'. PlaceOk d f t r at w' m' × Standing d g scope f s2 w' m')) it ha i1 x1
              (λ by v w2 m2 hv i2 g2 x2.
              let g3 : Grows k b w m w2 m2 = grows_trans g1 g2 in
              finds_bounded s2 c r t cells j k w m by v w2 m2 count live hv i2 g3 x2)).by next1 q1;
        })).by next q;
  }
