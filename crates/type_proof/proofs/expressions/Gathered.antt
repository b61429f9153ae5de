-- `S(e1, .., en)`: the members' values, each with rights of its own on its way, are one value.
use Rattle.std.proofs.Common.{◌≡◌, ℕ, suc, ◌+◌, ◌<◌, Bool, inl, inr, Some, List, [], ◌∷◌, ◌++◌, refl, sym, ◌∙◌, ap, subst, arith}
use Rattle.std.specs.Prelude.{nat_eq, length, if◌then◌else◌}
use Rattle.std.proofs.lemmas.Bool.Decides.{eqb_tells}
use Rattle.source_meaning.specs.Memory.{Spot, Scalar, State, Memory}
use Rattle.source_meaning.specs.Calls as calls
use Rattle.type_proof.specs.Flat.{Tables, flat, flat_all}
use Rattle.type_proof.proofs.invariant.Facts.{if_cases}
use Rattle.type_proof.proofs.invariant.Invariant.{RunType, heap, Owner, Nobody, Flying, Returned, Pinned, InCell, Freed, Kept, Ghost, HaveTypes, Steady}
use Rattle.type_proof.proofs.invariant.Invariant.{StateOk, Inv, Grows}
use Rattle.type_proof.proofs.invariant.Values.{Carries, values_kept}
use Rattle.type_proof.proofs.invariant.Moves.{passing, Class, inv_cells, cell_kept}
use Rattle.type_proof.proofs.invariant.Growth.{grows_cells, grows_refl, grows_trans}
use Rattle.type_proof.proofs.invariant.After.{flying}
use Rattle.type_proof.proofs.invariant.Arguments.{Flown}

-- the rights of the j-th value come behind the first c of the k-th
abbrev pub joins : ℕ → ℕ → ℕ → Owner → Owner
joins j k c Nobody = Nobody
joins j k c (Flying i x) = (if nat_eq i j then Flying k (c + x) else Flying i x)
joins j k c (Pinned i) = Pinned i
joins j k c (Returned i) = Returned i
joins j k c (InCell s) = InCell s
joins j k c Freed = Freed

pub joins_class : (j k c : ℕ) → Class (joins j k c)
joins_class j k c = record { state = held; steady = stands; nobody = was; free = refl }
  where
    held : (o : Owner) (keyed : Bool) (st : State) → StateOk o keyed st → StateOk (joins j k c o) keyed st
    held Nobody keyed st h = h
    held (Flying i x) keyed st h = if_cases (nat_eq i j) (Flying k (c + x)) (Flying i x) (λ o. StateOk o keyed st) (λ e. h) (λ e. h)
    held (Pinned i) keyed st h = h
    held (Returned i) keyed st h = h
    held (InCell s) keyed st h = h
    held Freed keyed st h = h

    stands : (o : Owner) → Steady o → Steady (joins j k c o)
    stands Nobody h = h
    stands (Flying i x) h = elim h [ ]
    stands (Pinned i) h = h
    stands (Returned i) h = elim h [ ]
    stands (InCell s) h = h
    stands Freed h = h

    was : (o : Owner) → joins j k c o ≡ Nobody → o ≡ Nobody
    was Nobody h = h
    was (Flying i x) h = if_cases (nat_eq i j) (Flying k (c + x)) (Flying i x) (λ o. o ≡ Nobody → Flying i x ≡ Nobody) (λ e z. absurd (cc)) (λ e z. z) h
    was (Pinned i) h = h
    was (Returned i) h = h
    was (InCell s) h = h
    was Freed h = h

pub others_stay : (j k c i x : ℕ) → (i ≡ j → ⊥) → joins j k c (Flying i x) ≡ Flying i x
others_stay j k c i x n = elim (eqb_tells i j) [
  | inl e ↦ absurd (n e.1)
  | inr e ↦ ap (λ (b : Bool). if b then Flying k (c + x) else Flying i x) e.0
]

pub this_comes : (j k c x : ℕ) → joins j k c (Flying j x) ≡ Flying k (c + x)
this_comes j k c x = elim (eqb_tells j j) [
  | inl e ↦ ap (λ (b : Bool). if b then Flying k (c + x) else Flying j x) e.0
  | inr e ↦ absurd (e.1 refl)
]

pub carried : (w : Ghost) (j k c : ℕ) (by to : Owner) → joins j k c by ≡ to → Carries w (passing (joins j k c) w) by to
carried w j k c by to e = record { types = λ s t q. q; above = λ q r z. z; owner = λ b q. ap (joins j k c) q ∙ e; keyed = λ b q. refl }

later_flown : (d : Tables) (w : Ghost) (j k c i : ℕ) (vss : List (List Scalar)) (ts : List RunType) → j < i → Flown d w i vss ts
    → Flown d (passing (joins j k c) w) i vss ts
later_flown d w j k c i [] [] l h = tt
later_flown d w j k c i (vs ∷ vss) (t ∷ ts) l h = (
  values_kept d w (passing (joins j k c) w) (flying i 0) (flying i 0) vs (flat heap d t)
      (λ x. carried w j k c (flying i 0 x) (flying i 0 x) (others_stay j k c i (0 + x) (λ e. omega (arith, l, e)))) h.0,
  later_flown d w j k c (suc i) vss ts (omega (arith, l)) h.1,
)
later_flown d w j k c i [] (t ∷ ts) l h = absurd h
later_flown d w j k c i (vs ∷ vss) [] l h = absurd h

-- values behind values
behind : (d : Tables) (w : Ghost) (by to : ℕ → Owner) (xs ys : List Scalar) (ts us : List RunType) → HaveTypes d w by xs ts
    → ((i : ℕ) → to i ≡ by (length xs + i)) → HaveTypes d w to ys us → HaveTypes d w by (xs ++ ys) (ts ++ us)
behind d w by to [] ys [] us p e q =
    values_kept d w w to by ys us (λ i. record { types = λ s t h. h; above = λ a b h. h; keyed = λ x h. refl; owner = λ x h. h ∙ e i ∙ ap by (omega arith) }) q
behind d w by to (x ∷ xs) ys (t ∷ ts) us p e q = (p.0, behind d w (λ i. by (suc i)) to xs ys ts us p.1 (λ i. e i ∙ ap by (omega arith)) q)
behind d w by to [] ys (t ∷ ts) us p e q = absurd p
behind d w by to (x ∷ xs) ys [] us p e q = absurd p

through : {A : Type 0} (xs ys zs : List A) → (xs ++ ys) ++ zs ≡ xs ++ (ys ++ zs)
through [] ys zs = refl
through (x ∷ xs) ys zs = ap (λ l. x ∷ l) (through xs ys zs)

no_more : {A : Type 0} (xs : List A) → xs ++ [] ≡ xs
no_more [] = refl
no_more (x ∷ xs) = ap (λ l. x ∷ l) (no_more xs)

pub record Gathered (d : Tables) (k b : ℕ) (w : Ghost) (m : Memory) (vs : List Scalar) (ts : List RunType) : Type 0 where
  pub ghost : Ghost
  pub inv : Inv d ghost m
  pub grows : Grows k b w m ghost m
  pub typed : HaveTypes d ghost (flying k 0) vs ts
  pub types : (y : Spot) (q : Kept) → w.types y ≡ Some q → ghost.types y ≡ Some q

gathered_from : (d : Tables) (k b j : ℕ) (w : Ghost) (m : Memory) (done : List Scalar) (us : List RunType) (vss : List (List Scalar)) (ts : List RunType)
    → k < j → Inv d w m
    → HaveTypes d w (flying k 0) done us → Flown d w j vss ts → Gathered d k b w m (done ++ calls.flat vss) (us ++ flat_all (flat heap d) ts)
gathered_from d k b j w m done us [] [] l i h fly =
    record {
      ghost = w;
      inv = i;
      grows = grows_refl k b w m;
      types = λ y q e. e;
      typed = subst (λ (vs : List Scalar). HaveTypes d w (flying k 0) vs (us ++ []))
          (sym (no_more done)) (subst (λ (ts : List RunType). HaveTypes d w (flying k 0) done ts) (sym (no_more us)) h);
    }
gathered_from d k b j w m done us (vs ∷ vss) (t ∷ ts) l i h fly =
    let r : Gathered d k b w1 m ((done ++ vs) ++ calls.flat vss) ((us ++ flat heap d t) ++ flat_all (flat heap d) ts) =
    gathered_from d k b (suc j) w1 m (done ++ vs) (us ++ flat heap d t) vss ts (omega (arith, l)) i1
    (behind d w1 (flying k 0) (λ x. Flying k (c + (0 + x))) done vs us (flat heap d t)
    (values_kept d w w1 (flying k 0) (flying k 0) done us (λ x. carried w j k c (flying k 0 x) (flying k 0 x)
    (others_stay j k c k (0 + x) (λ e. omega (arith, l, e)))) h)
    (λ x. ap (Flying k) (omega arith))
    (values_kept d w w1 (flying j 0) (λ x. Flying k (c + (0 + x))) vs (flat heap d t)
    (λ x. carried w j k c (flying j 0 x) (Flying k (c + (0 + x))) (this_comes j k c (0 + x))) fly.0))
    (later_flown d w j k c (suc j) vss ts (omega arith) fly.1) in
    record {
      ghost = r.ghost;
      inv = r.inv;
      grows = grows_trans g1 r.grows;
      types = r.types;
      typed = subst (λ (xs : List Scalar). HaveTypes d r.ghost (flying k 0) xs (us ++ (flat heap d t ++ flat_all (flat heap d) ts)))
          (through done vs (calls.flat vss))
          (subst (λ (q : List RunType). HaveTypes d r.ghost (flying k 0) ((done ++ vs) ++ calls.flat vss) q)
          (through us (flat heap d t) (flat_all (flat heap d) ts)) r.typed);
    }
  where
    c : ℕ
    c = length done

    w1 : Ghost
    w1 = passing (joins j k c) w

    i1 : Inv d w1 m
    i1 = inv_cells d w m (joins j k c) m.cells i (joins_class j k c)
        (λ s q e. cell_kept d w w1 s (m.cells s) q (carried w j k c (InCell s) (InCell s) refl) (i.cells s q e))

    g1 : Grows k b w m w1 m
    g1 = grows_cells k b w m (joins j k c) m.cells (joins_class j k c) (λ i x l2. others_stay j k c i x (λ e. omega (arith, l, l2, e))) (λ i. refl)
        (λ s t2 x p l2 e. refl) (λ s e. refl)
gathered_from d k b j w m done us [] (t ∷ ts) l i h fly = absurd fly
gathered_from d k b j w m done us (vs ∷ vss) [] l i h fly = absurd fly

pub gathered : (d : Tables) (k b : ℕ) (w : Ghost) (m : Memory) (vss : List (List Scalar)) (ts : List RunType) → Inv d w m → Flown d w k vss ts
    → Gathered d k b w m (calls.flat vss) (flat_all (flat heap d) ts)
gathered d k b w m [] [] i fly = record { ghost = w; inv = i; grows = grows_refl k b w m; types = λ y q e. e; typed = tt }
gathered d k b w m (vs ∷ vss) (t ∷ ts) i fly = gathered_from d k b (suc k) w m vs (flat heap d t) vss ts (omega arith) i fly.0 fly.1
gathered d k b w m [] (t ∷ ts) i fly = absurd fly
gathered d k b w m (vs ∷ vss) [] i fly = absurd fly
