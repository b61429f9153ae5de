-- Locals that can't be copied are moved, assigned and freed.
use Rattle.std.proofs.Common.{◌≡◌, ℕ, suc, ◌+◌, ◌<◌, Bool, true, false, inl, inr, Option, Some, List, [], ◌∷◌, refl, sym, ◌∙◌, ap, subst, arith}
use Rattle.std.specs.Prelude.{nat_eq, ◌&&◌}
use Rattle.std.proofs.lemmas.Bool.{false≢true}
use Rattle.std.proofs.lemmas.Bool.Decides.{eqb_tells}
use Rattle.source_meaning.specs.Memory.{Spot, Scalar, Holds, Cell, Live, Memory, with_cell, beyond}
use Rattle.source_meaning.specs.Steps.{Act, ◌>>◌}
use Rattle.source_meaning.specs.Values.{write_cells}
use Rattle.source_typing.specs.Types.{shape_of}
use Rattle.type_proof.specs.Flat.{Tables}
use Rattle.type_proof.proofs.invariant.Facts.{if_cases, at_spot, same_at}
use Rattle.type_proof.proofs.invariant.Invariant.{RunType, Flying, InCell, Private, Ghost, HasType, HaveTypes, Inv, Grows}
use Rattle.type_proof.proofs.invariant.Values.{values_kept}
use Rattle.type_proof.proofs.invariant.Moves.{into}
use Rattle.type_proof.proofs.invariant.Growth.{grows_refl, grows_trans}
use Rattle.type_proof.proofs.invariant.Runs.{Runs}
use Rattle.type_proof.proofs.invariant.After.{flying}
use Rattle.type_proof.proofs.invariant.Cells.{cell, seen, typed_is, runs_write, stored, inv_stored, grows_stored}
use Rattle.type_proof.proofs.invariant.Rights.{Ours, HeldAt, Apart}
use Rattle.type_proof.proofs.invariant.LocalCells.{FreeAt}

pub into_later : (s : Spot) (i c j : ℕ) → (j ≡ c → ⊥) → into s i c (Flying i j) ≡ Flying i j
into_later s i c j n = elim (eqb_tells j c) [
  | inl e ↦ absurd (n e.1)
  | inr e ↦ if_cases (nat_eq i i && nat_eq j c) (InCell s) (Flying i j) (λ o. o ≡ Flying i j)
      (λ z. absurd (false≢true (sym e.0 ∙ both (nat_eq i i) (nat_eq j c) z))) (λ z. refl)
]
  where
    both : (a b : Bool) → a && b ≡ true → b ≡ true
    both true b h = h
    both false b h = absurd (false≢true h)

later_cell : (m : Memory) (s y : Spot) (x : Cell) (o : Option Cell) → s.cell < y.cell → m.cells y ≡ o → (with_cell m s x).cells y ≡ o
later_cell m s y x o l e = at_spot m.cells s (Some x) y (λ z. z ≡ o) (λ z. absurd (let a = ap (λ (p : Spot). p.cell) z in omega (arith, l))) (λ z. e)

free_later : (w : Ghost) (k c : ℕ) (m : Memory) (s y : Spot) (x : Cell) (ts : List RunType) → s.cell < y.cell → FreeAt w m y ts
    → FreeAt (stored s k c w) (with_cell m s x) y ts
free_later w k c m s y x [] l h = tt
free_later w k c m s y x (t ∷ ts) l h = (
  h.0,
  record { content = h.1.content; there = later_cell m s y x _ l h.1.there; unlent = h.1.unlent },
  free_later w k c m s (beyond y 1) x ts (omega (arith, l)) h.2,
)

-- a value on its way is stored to the cells of a local, which aren't lent
pub runs_write_free : {B : Type 0} (d : Tables) (n k b c : ℕ) (w : Ghost) (m : Memory) (s : Spot) (ts : List RunType) (vs : List Scalar) (g : Act B)
    (Q : B → Memory → Type 0) → Inv d w m → m.state s.region ≡ Live → Ours b s → FreeAt w m s ts → HaveTypes d w (flying k c) vs ts
    → ((w' : Ghost) (m' : Memory) → Inv d w' m' → Grows k b w m w' m' → ((y : Spot) → y.cell < s.cell → m'.cells y ≡ m.cells y)
    → ((y : Spot) → Apart y s → m'.cells y ≡ m.cells y) → HeldAt w' m' s ts vs → Runs n g m' Q)
    → Runs n (write_cells s vs >> g) m Q
runs_write_free d n k b c w m s [] [] g Q i l o h t r = record { by = λ next q. (r w m i (grows_refl k b w m) (λ y p. refl) (λ y p. refl) tt).by next q }
runs_write_free d n k b c w m s (t ∷ ts) (v ∷ vs) g Q i l o h hv r =
    let w1 : Ghost = stored s k c w in
    let m1 : Memory = with_cell m s (cell t (Holds v)) in
    let first : HasType d w (Flying k c) v t = subst (λ (q : ℕ). HasType d w (Flying k q) v t) (omega arith) hv.0 in
    let i1 : Inv d w1 m1 = inv_stored d w m s (Private t) k c v i h.0 first in
    let g1 : Grows k b w m w1 m1 = grows_stored k b w m s (Private t) c (cell t (Holds v)) h.0 (λ j u e p q. o j p q) in
    let rest : HaveTypes d w1 (flying k (suc c)) vs ts = values_kept d w w1 (λ j. flying k c (suc j)) (flying k (suc c)) vs ts (λ j. record {
      types = λ y u a. a;
      above = λ a q u. u;
      keyed = λ q u. refl;
      owner = λ q u. ap (into s k c) u ∙ into_later s k c (c + suc j) (λ e. omega arith) ∙ ap (Flying k) (omega arith);
    }) hv.1 in
    let tail = runs_write_free d n k b (suc c) w1 m1 (beyond s 1) ts vs g Q i1 l o (free_later w k c m s (beyond s 1) (cell t (Holds v)) ts (omega arith) h.2)
    rest
    (λ w' m' i' g' older away held. r w' m' i' (grows_trans g1 g')
    (λ y p. older y (omega (arith, p)) ∙ at_spot m.cells s (Some (cell t (Holds v))) y (λ z. z ≡ m.cells y)
    (λ z. absurd (let a = ap (λ (q : Spot). q.cell) z in omega (arith, p))) (λ z. refl))
    (λ y p. away y p ∙ at_spot m.cells s (Some (cell t (Holds v))) y (λ z. z ≡ m.cells y)
    (λ z. absurd (p (ap (λ (q : Spot). q.region) z) (ap (λ (q : Spot). q.object) z))) (λ z. refl))
    (g'.types s (Private t) h.0, older s (omega arith) ∙ same_at s (Some (cell t (Holds v))) (m.cells s), held)) in
    runs_write n s (shape_of t) h.1.content v (write_cells (beyond s 1) vs >> g) m Q (seen m s _ l h.1.there) h.1.unlent
    (typed_is d w (Flying k c) v t first) (record { by = λ next q. tail.by next q })
runs_write_free d n k b c w m s [] (v ∷ vs) g Q i l o h t r = absurd t
runs_write_free d n k b c w m s (t ∷ ts) [] g Q i l o h hv r = absurd hv
