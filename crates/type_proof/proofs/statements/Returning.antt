-- `return e`: the result's rights are the function's to give back.
use Rattle.std.proofs.Common.{◌≡◌, ℕ, ◌+◌, ◌<◌, Bool, inl, inr, List, refl, ◌∙◌, ap, arith}
use Rattle.std.specs.Prelude.{nat_eq, if◌then◌else◌}
use Rattle.std.proofs.lemmas.Bool.Decides.{eqb_tells}
use Rattle.source_meaning.specs.Memory.{Scalar, State, Memory}
use Rattle.type_proof.specs.Flat.{Tables}
use Rattle.type_proof.proofs.invariant.Facts.{if_cases}
use Rattle.type_proof.proofs.invariant.Invariant.{Owner, Nobody, Flying, Returned, Pinned, InCell, Freed, RunType, Ghost, HaveTypes, Steady, StateOk, Inv}
use Rattle.type_proof.proofs.invariant.Invariant.{Grows}
use Rattle.type_proof.proofs.invariant.Values.{Carries, values_kept}
use Rattle.type_proof.proofs.invariant.Moves.{passing, Class, inv_cells, cell_kept}
use Rattle.type_proof.proofs.invariant.Growth.{grows_cells}
use Rattle.type_proof.proofs.invariant.After.{flying}

-- the rights of the k-th value on its way become the result's
abbrev pub handing : ℕ → Owner → Owner
handing k Nobody = Nobody
handing k (Flying i x) = (if nat_eq i k then Returned x else Flying i x)
handing k (Pinned i) = Pinned i
handing k (Returned i) = Returned i
handing k (InCell s) = InCell s
handing k Freed = Freed

handing_class : (k : ℕ) → Class (handing k)
handing_class k = record { state = held; steady = stands; nobody = was; free = refl }
  where
    held : (o : Owner) (keyed : Bool) (st : State) → StateOk o keyed st → StateOk (handing k o) keyed st
    held Nobody keyed st h = h
    held (Flying i x) keyed st h = if_cases (nat_eq i k) (Returned x) (Flying i x) (λ o. StateOk o keyed st) (λ e. h) (λ e. h)
    held (Pinned i) keyed st h = h
    held (Returned i) keyed st h = h
    held (InCell s) keyed st h = h
    held Freed keyed st h = h

    stands : (o : Owner) → Steady o → Steady (handing k o)
    stands Nobody h = h
    stands (Flying i x) h = elim h [ ]
    stands (Pinned i) h = h
    stands (Returned i) h = elim h [ ]
    stands (InCell s) h = h
    stands Freed h = h

    was : (o : Owner) → handing k o ≡ Nobody → o ≡ Nobody
    was Nobody h = h
    was (Flying i x) h = if_cases (nat_eq i k) (Returned x) (Flying i x) (λ o. o ≡ Nobody → Flying i x ≡ Nobody) (λ e z. absurd (cc)) (λ e z. z) h
    was (Pinned i) h = h
    was (Returned i) h = h
    was (InCell s) h = h
    was Freed h = h

lower_stay : (k i x : ℕ) → i < k → handing k (Flying i x) ≡ Flying i x
lower_stay k i x l = elim (eqb_tells i k) [
  | inl e ↦ absurd (let z = e.1 in omega (arith, l))
  | inr e ↦ ap (λ (b : Bool). if b then Returned x else Flying i x) e.0
]

handed : (k x : ℕ) → handing k (Flying k (0 + x)) ≡ Returned x
handed k x = elim (eqb_tells k k) [
  | inl e ↦ ap (λ (b : Bool). if b then Returned (0 + x) else Flying k (0 + x)) e.0 ∙ ap Returned (omega arith)
  | inr e ↦ absurd (e.1 refl)
]

-- what is on its way is the result
pub record HandedOver (d : Tables) (k b : ℕ) (w : Ghost) (m : Memory) (vs : List Scalar) (ts : List RunType) : Type 0 where
  pub ghost : Ghost
  pub inv : Inv d ghost m
  pub grows : Grows k b w m ghost m
  pub typed : HaveTypes d ghost (λ c. Returned c) vs ts

pub handed_over : (d : Tables) (k b : ℕ) (w : Ghost) (m : Memory) (vs : List Scalar) (ts : List RunType) → Inv d w m → HaveTypes d w (flying k 0) vs ts
    → HandedOver d k b w m vs ts
handed_over d k b w m vs ts i typed = record {
  ghost = passing (handing k) w;
  inv = inv_cells d w m (handing k) m.cells i (handing_class k)
      (λ x t h. cell_kept d w (passing (handing k) w) x (m.cells x) t (carries (InCell x) (InCell x) refl) (i.cells x t h));
  grows = grows_cells k b w m (handing k) m.cells (handing_class k) (λ i x l. lower_stay k i x l) (λ i. refl) (λ x t j z l h. refl) (λ x h. refl);
  typed = values_kept d w (passing (handing k) w) (flying k 0) (λ x. Returned x) vs ts (λ x. carries (Flying k (0 + x)) (Returned x) (handed k x)) typed;
}
  where
    carries : (a o : Owner) → handing k a ≡ o → Carries w (passing (handing k) w) a o
    carries a o z = record { types = λ s t h. h; above = λ q r h. h; owner = λ x h. ap (handing k) h ∙ z; keyed = λ x h. refl }
