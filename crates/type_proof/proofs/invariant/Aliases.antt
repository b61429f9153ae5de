-- A unique pointer is lent, and its block has another region name, while the rest of a block runs.
use Rattle.std.proofs.Common.{◌≡◌, ℕ, suc, Bool, true, false, ◌<◌, ◌⊎◌, inl, inr, Some, refl, sym, ◌∙◌, ap, subst, arith}
use Rattle.std.specs.Prelude.{if◌then◌else◌}
use Rattle.source_meaning.specs.Shapes.{single}
use Rattle.source_meaning.specs.Memory.{Region, Born, Spot, Scalar, Holds, Lent, State, Live, Memory, same_region, with_cell, with_state}
use Rattle.source_meaning.specs.Steps.{Step, Flow, Act, give, ◌>>◌, finally}
use Rattle.source_meaning.specs.Values.{put_content}
use Rattle.source_meaning.specs.Regions.{lending}
use Rattle.source_typing.specs.Types as types
use Rattle.source_typing.specs.Types.{Unique, shape_of}
use Rattle.type_proof.specs.Flat.{Tables}
use Rattle.type_proof.proofs.invariant.Facts.{at_region, at_spot, same_at, same_here}
use Rattle.type_proof.proofs.invariant.Invariant.{IsNull, RunType, heap, Owner, Nobody, Flying, Returned, Pinned, InCell, Kept, Reached, Private, Ghost}
use Rattle.type_proof.proofs.invariant.Invariant.{HasType}
use Rattle.type_proof.proofs.invariant.Invariant.{Reaches, CellOk, Steady, ByLoan, Resting, StateOk, Known, Inv, Grows}
use Rattle.type_proof.proofs.invariant.Values.{laid_kept, single_one}
use Rattle.type_proof.proofs.invariant.Moves.{out_of, into, owned_by, Turns, inv_turn, Alone}
use Rattle.type_proof.proofs.invariant.Births.{known_live}
use Rattle.type_proof.proofs.invariant.Growth.{grows_trans, grows_less, grows_turn, loan_alone}
use Rattle.type_proof.proofs.invariant.Runs.{Safe, Runs}
use Rattle.type_proof.proofs.invariant.Cells.{cell, seen, runs_put, stored, inv_stored, grows_stored}
use Rattle.type_proof.proofs.invariant.After.{After}
use Rattle.type_proof.proofs.invariant.Rights.{Ours, emptied, inv_emptied, grows_emptied, content_same}
use Rattle.source_meaning.proofs.Reaches.{single_null}

-- what the end of a loan leaves as it was
pub record Ends (at : Spot) (w : Ghost) (m : Memory) (w' : Ghost) (m' : Memory) : Type 0 where
  pub types : (s : Spot) (k : Kept) → w.types s ≡ Some k → w'.types s ≡ Some k
  pub above : (q r : Region) → w.above q r ≡ true → w'.above q r ≡ true
  pub returned : (r : Region) (c : ℕ) → w.owner r ≡ Returned c → w'.owner r ≡ Returned c
  pub keyed : (r : Region) → w'.keyed r ≡ w.keyed r
  pub scoped : (r : Region) → w.owner r ≡ Nobody → w'.owner r ≡ Nobody
  pub state : (r : Region) → w.owner r ≡ Nobody → m'.state r ≡ m.state r
  pub cells : (s : Spot) → (s ≡ at → ⊥) → m'.cells s ≡ m.cells s

pub not_flying : (k c x y : ℕ) (o : Owner) → o ≡ Flying k c → x < k → o ≡ Flying x y → ⊥
not_flying k c x y o e l f = let z : k ≡ x = cc in omega (arith, l)

pub not_pinned : (k x : ℕ) (o : Owner) → o ≡ Pinned k → x < k → o ≡ Pinned x → ⊥
not_pinned k x o e l f = let z : k ≡ x = cc in omega (arith, l)

pub flying_some : (k c : ℕ) (o : Owner) → o ≡ Flying k c → o ≡ Nobody → ⊥
flying_some k c o e f = cc

pub flying_away : (k c : ℕ) (s : Spot) (o : Owner) → o ≡ Flying k c → o ≡ InCell s → ⊥
flying_away k c s o e f = cc

pub flying_unpinned : (k c x : ℕ) (o : Owner) → o ≡ Flying k c → o ≡ Pinned x → ⊥
flying_unpinned k c x o e f = cc

pub pinned_some : (k : ℕ) (o : Owner) → o ≡ Pinned k → o ≡ Nobody → ⊥
pinned_some k o e f = cc

pub pinned_away : (k : ℕ) (s : Spot) (o : Owner) → o ≡ Pinned k → o ≡ InCell s → ⊥
pinned_away k s o e f = cc

pub pinned_grounded : (k x y : ℕ) (o : Owner) → o ≡ Pinned k → o ≡ Flying x y → ⊥
pinned_grounded k x y o e f = cc

pub pinned_staying : (k c : ℕ) (o : Owner) → o ≡ Pinned k → o ≡ Returned c → ⊥
pinned_staying k c o e f = cc

pub flying_unsteady : (k c : ℕ) → Steady (Flying k c) → ⊥
flying_unsteady k c z = elim z [ ]

-- the loan ends
pub record Ended (d : Tables) (k b : ℕ) (w : Ghost) (m : Memory) (at : Spot) (t : RunType) (v : Scalar) (w2 : Ghost) (m2 : Memory) (m3 : Memory) : Type 0 where
  pub ghost : Ghost
  pub inv : Inv d ghost m3
  pub grows : Grows k b w m ghost m3
  pub holds : m3.cells at ≡ Some (cell t (Holds v))
  pub ends : Ends at w2 m2 ghost m3

-- a region that has a state already
same_state : (m : Memory) (r : Region) (st : State) → m.state r ≡ st → with_state m r st ≡ m
same_state m r st e = λ i. record m { state = λ q. point q i }
  where
    point : (q : Region) → (if same_region q r then st else m.state q) ≡ m.state q
    point q = at_region m.state r st q (λ x. x ≡ m.state q) (λ z. sym (ap m.state z ∙ e)) (λ z. refl)

-- the region for which an alias's name stands: the block's, or the heap where the pointer is NULL
pub record Names (d : Tables) (k : ℕ) (w : Ghost) (m : Memory) (v : Scalar) (nullable : Bool) (t : RunType) : Type 0 where
  pub region : Region
  pub live : m.state region ≡ Live
  pub stands : (w.owner region ≡ Pinned k) ⊎ (region ≡ heap)
  pub pointer : HasType d w (Flying (suc k) 0) v (types.Thin (single nullable) region t)

-- how the body of a loan begins, for a unique pointer
pub record Aliased (d : Tables) (k b : ℕ) (w : Ghost) (m : Memory) (at : Spot) (v : Scalar) (nullable : Bool) (t : RunType) (w' : Ghost) : Type 0 where
  pub inv : Inv d w' (with_cell m at (cell (Unique nullable t) (Lent v)))
  pub grows : Grows k b w m w' (with_cell m at (cell (Unique nullable t) (Lent v)))
  pub names : Names d k w' (with_cell m at (cell (Unique nullable t) (Lent v))) v nullable t
  pub above : (q p : Region) → w'.above q p ≡ w.above q p
  pub back : (w2 : Ghost) (m2 : Memory) → Inv d w2 m2 → Grows (suc k) b w' (with_cell m at (cell (Unique nullable t) (Lent v))) w2 m2
      → Ended d k b w m at (Unique nullable t) v w2 m2 (with_cell m2 at (cell (Unique nullable t) (Holds v)))

resting_live : (o : Owner) (f : Bool) (st : State) (k c : ℕ) → o ≡ Flying k c → f ≡ false → StateOk o f st → st ≡ Live
resting_live o f st k c e p h = subst (λ (x : Bool). Resting x st) p (subst (λ (x : Owner). StateOk x f st) e h)

pinned_state : (o : Owner) (f : Bool) (st : State) (k : ℕ) → o ≡ Pinned k → StateOk o f st → st ≡ Live
pinned_state o f st k e h = subst (λ (x : Owner). StateOk x f st) e h

pub alias_begins : (d : Tables) (k b : ℕ) (w : Ghost) (m : Memory) (at : Spot) (v : Scalar) (n : Bool) (t : RunType) → Inv d w m
    → w.types at ≡ Some (Private (Unique n t)) → Ours b at → HasType d w (InCell at) v (Unique n t) → (w' : Ghost) × Aliased d k b w m at v n t w'
alias_begins d k b w m at v n t i e ours (inl h) = (
  wa,
  record {
    inv = ia;
    grows = ga;
    above = λ q p. refl;
    names = record { region = heap; live = i.heap_lives; stands = inr refl; pointer = inl (subst (λ x. IsNull x v) (sym (single_null n)) h) };
    back = λ w2 m2 i2 g2.
        let e2 : w2.types at ≡ Some (Private (Unique n t)) = g2.types at _ e in
        record {
          ghost = stored at k 0 w2;
          inv = inv_stored d w2 m2 at (Private (Unique n t)) k 0 v i2 e2 (inl h);
          grows = grows_trans ga (grows_trans (grows_less g2) (grows_stored k b w2 m2 at (Private (Unique n t)) 0 _ e2 (λ j u f p l. ours j p l)));
          holds = same_at at _ (m2.cells at);
          ends = record {
            types = λ s x f. f;
            above = λ a c f. f;
            keyed = λ r. refl;
            returned = λ r c f. ap (into at k 0) f;
            scoped = λ r f. ap (into at k 0) f;
            state = λ r f. refl;
            cells = λ s z. at_spot m2.cells at (Some (cell (Unique n t) (Holds v))) s (λ x. x ≡ m2.cells s) (λ x. absurd (z x)) (λ x. refl);
          };
        };
  },
)
  where
    wa : Ghost
    wa = emptied at k 0 w

    ia : Inv d wa (with_cell m at (cell (Unique n t) (Lent v)))
    ia = inv_emptied d w m at (Unique n t) k 0 (Lent v) i e (λ u f. cc)

    ga : Grows k b w m wa (with_cell m at (cell (Unique n t) (Lent v)))
    ga = grows_emptied k b w m at (Unique n t) 0 (cell (Unique n t) (Lent v)) e ours
alias_begins d k b w m at v n t i e ours (inr h) = (
  wb,
  record {
    inv = ib;
    grows = gb;
    above = λ p r. refl;
    names = record {
      region = q;
      live = live;
      stands = inl pin1;
      pointer =
          inr (record {
            at = record { region = q; object = 0; cell = 0 };
            is = h.is;
            reaches = here;
            elements = single_one n d wb _ q t here;
          });
    };
    back = λ w2 m2 i2 g2. ends w2 m2 i2 g2;
  },
)
  where
    q : Region
    q = Born h.block

    wa : Ghost
    wa = emptied at k 0 w

    ma : Memory
    ma = with_cell m at (cell (Unique n t) (Lent v))

    ia : Inv d wa ma
    ia = inv_emptied d w m at (Unique n t) k 0 (Lent v) i e (λ u f. cc)

    ga : Grows k b w m wa ma
    ga = grows_emptied k b w m at (Unique n t) 0 (cell (Unique n t) (Lent v)) e ours

    own : wa.owner q ≡ Flying k 0
    own = ap (out_of at k 0) h.owner ∙ same_at at (Flying k 0) (InCell at)

    live : ma.state q ≡ Live
    live = resting_live _ _ _ k 0 own h.unkeyed (ia.states q)

    turn : Turns wa ma q (Pinned k) Live
    turn = record { had = flying_some k 0 _ own; gets = λ z. cc; ok = refl; alone = inl (ByLoan, refl); away = λ s z. flying_away k 0 s _ own z }

    wb : Ghost
    wb = owned_by wa q (Pinned k)

    here : Reaches d wb (record { region = q; object = 0; cell = 0 }) q t
    here = record { typed = laid_kept w wb _ _ (λ s u f. f) h.reaches.typed; above = h.reaches.above }

    same : with_state ma q Live ≡ ma
    same = same_state ma q Live live

    ib' : Inv d wb (with_state ma q Live)
    ib' = inv_turn d wa ma q (Pinned k) Live ia turn

    ib : Inv d wb ma
    ib = subst (λ (x : Memory). Inv d wb x) same ib'

    gb : Grows k b w m wb ma
    gb = grows_trans ga (subst (λ (x : Memory). Grows k b wa ma wb x) same
        (grows_turn k b wa ma q (Pinned k) Live turn.had turn.gets (λ x y l f. not_flying k 0 x y (wa.owner q) own l f)
        (λ x l f. flying_unpinned k 0 x _ own f)))

    pin1 : wb.owner q ≡ Pinned k
    pin1 = same_here q (Pinned k) (wa.owner q)

    ends : (w2 : Ghost) (m2 : Memory) → Inv d w2 m2 → Grows (suc k) b wb ma w2 m2
        → Ended d k b w m at (Unique n t) v w2 m2 (with_cell m2 at (cell (Unique n t) (Holds v)))
    ends w2 m2 i2 g2 =
        let pin : w2.owner q ≡ Pinned k = g2.pinned q k (omega arith) pin1 in
        let keyed : w2.keyed q ≡ false = g2.keyed q (known_live d wb ma q ib live) ∙ h.unkeyed in
        let alive : m2.state q ≡ Live = pinned_state _ _ _ k pin (i2.states q) in
        let alone : Alone w2 m2 q = loan_alone d (suc k) b wa ma q (Pinned k) Live w2 m2 ia (λ z. flying_unsteady k 0 (subst Steady own z)) ib' i2
        (subst (λ (x : Memory). Grows (suc k) b wb x w2 m2) (sym same) g2) in
        let turn2 : Turns w2 m2 q (Flying k 0) Live = record {
          had = pinned_some k _ pin;
          gets = λ z. cc;
          ok =
              subst (λ (x : Bool). Resting x Live) (sym keyed) refl;
          alone = inr alone;
          away = λ s z. pinned_away k s _ pin z;
        } in
        let w3 : Ghost = owned_by w2 q (Flying k 0) in
        let same2 : with_state m2 q Live ≡ m2 = same_state m2 q Live alive in
        let i3 : Inv d w3 m2 = subst (λ (x : Memory). Inv d w3 x) same2 (inv_turn d w2 m2 q (Flying k 0) Live i2 turn2) in
        let g3 : Grows k b w2 m2 w3 m2 = subst (λ (x : Memory). Grows k b w2 m2 w3 x) same2
        (grows_turn k b w2 m2 q (Flying k 0) Live turn2.had turn2.gets (λ x y l f. pinned_grounded k x y _ pin f)
        (λ x l f. not_pinned k x (w2.owner q) pin l f)) in
        let e3 : w3.types at ≡ Some (Private (Unique n t)) = g2.types at _ e in
        let v3 : HasType d w3 (Flying k 0) v (Unique n t) = inr (record {
          block = h.block;
          is = h.is;
          owner = same_here q (Flying k 0) (w2.owner q);
          unkeyed = keyed;
          reaches = record { typed = laid_kept w w3 _ _ (λ s u f. g2.types s (Reached u) f) h.reaches.typed; above = g2.above _ _ h.reaches.above };
        }) in
        record {
          ghost = stored at k 0 w3;
          inv = inv_stored d w3 m2 at (Private (Unique n t)) k 0 v i3 e3 v3;
          grows = grows_trans gb (grows_trans (grows_less g2)
              (grows_trans g3 (grows_stored k b w3 m2 at (Private (Unique n t)) 0 _ e3 (λ j u f p l. ours j p l))));
          holds = same_at at _ (m2.cells at);
          ends = record {
            types = λ s x f. f;
            above = λ a c f. f;
            keyed = λ r. refl;
            returned = λ r c f. ap (into at k 0) (at_region w2.owner q (Flying k 0) r (λ z. z ≡ Returned c)
                (λ z. absurd (pinned_staying k c _ pin (sym (ap w2.owner z) ∙ f))) (λ z. f));
            scoped = λ r f. ap (into at k 0) (at_region w2.owner q (Flying k 0) r (λ z. z ≡ Nobody)
                (λ z. absurd (pinned_some k _ pin (sym (ap w2.owner z) ∙ f))) (λ z. f));
            state = λ r f. refl;
            cells = λ s z. at_spot m2.cells at (Some (cell (Unique n t) (Holds v))) s (λ x. x ≡ m2.cells s) (λ x. absurd (z x)) (λ x. refl);
          };
        }

-- a held unique pointer is lent while an act runs
pub runs_lending : (d : Tables) (n k b : ℕ) (w : Ghost) (m : Memory) (at : Spot) (v : Scalar) (nullable : Bool) (t : RunType) (body : Act Flow)
    (P R : Flow → Ghost → Memory → Type 0) → Inv d w m → m.state at.region ≡ Live → w.owner at.region ≡ Nobody → Ours b at
    → w.types at ≡ Some (Private (Unique nullable t)) → m.cells at ≡ Some (cell (Unique nullable t) (Holds v))
    → ((w1 : Ghost) → Aliased d k b w m at v nullable t w1 → Runs n body (with_cell m at (cell (Unique nullable t) (Lent v)))
    (λ flow. After d (suc k) b w1 (with_cell m at (cell (Unique nullable t) (Lent v))) (P flow)))
    → ((flow : Flow) (w2 : Ghost) (m2 : Memory) (w3 : Ghost) (m3 : Memory) → P flow w2 m2 → Ends at w2 m2 w3 m3
    → m3.cells at ≡ Some (cell (Unique nullable t) (Holds v)) → R flow w3 m3) → Runs n (lending at v body) m (λ flow. After d k b w m (R flow))
runs_lending d n k b w m at v nullable t body P R i l scoped ours e holds run finish =
    runs_put n at (shape_of (Unique nullable t)) (Holds v) (Lent v) (finally body (put_content at (Holds v))) m (λ flow. After d k b w m (R flow))
    (seen m at _ l holds)
    (record { by = λ next g. (run w1 start).by (λ flow. (put_content at (Holds v) >> give flow) next) (closing next g) })
  where
    x : CellOk d w at (m.cells at) (Private (Unique nullable t))
    x = i.cells at (Private (Unique nullable t)) e

    ok : (u : Scalar) → x.content ≡ Holds u → HasType d w (InCell at) u (Unique nullable t)
    ok = x.ok

    begun : (w' : Ghost) × Aliased d k b w m at v nullable t w'
    begun = alias_begins d k b w m at v nullable t i e ours (ok v (content_same _ (Unique nullable t) x.content (Holds v) x.is holds))

    w1 : Ghost
    w1 = begun.0

    m1 : Memory
    m1 = with_cell m at (cell (Unique nullable t) (Lent v))

    start : Aliased d k b w m at v nullable t w1
    start = begun.1

    closing : (next : Flow → Memory → Step) → ((flow : Flow) (m' : Memory) → After d k b w m (R flow) m' → Safe n (next flow m')) → (flow : Flow) (m2 : Memory)
        → After d (suc k) b w1 m1 (P flow) m2 → Safe n ((put_content at (Holds v) >> give flow) next m2)
    closing next g flow m2 p =
        let w2 : Ghost = p.ghost in
        let done : Ended d k b w m at (Unique nullable t) v w2 m2 (with_cell m2 at (cell (Unique nullable t) (Holds v))) = start.back w2 m2 p.inv p.grows in
        let kn : Known m at.region = known_live d w m at.region i l in
        let frame : m2.state at.region ≡ Live = p.grows.state at.region
        (p.grows.scoped at.region (start.grows.known at.region kn) (start.grows.scoped at.region kn scoped)) ∙ l in
        let y : CellOk d w2 at (m2.cells at) (Private (Unique nullable t)) =
        p.inv.cells at (Private (Unique nullable t)) (p.grows.types at _ (start.grows.types at _ e)) in
        (runs_put n at (shape_of (Unique nullable t)) y.content (Holds v) (give flow) m2 (λ f. After d k b w m (R f)) (seen m2 at _ frame y.is)
        (record {
          by = λ next2 g2. g2 flow _ (record {
            ghost = done.ghost;
            inv = done.inv;
            grows = done.grows;
            holds =
                finish flow w2 m2 done.ghost _ p.holds done.ends done.holds;
          });
        })).by next g
