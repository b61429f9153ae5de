-- A new object whose cells are filled one row after another, as an array that is made: what isn't filled yet stays blank.
use Rattle.std.proofs.Common.{◌≡◌, ℕ, suc, ◌+◌, ◌<◌, ◌≤◌, Bool, true, false, inl, inr, Some, None, List, [], ◌∷◌, ◌++◌, refl, sym, ◌∙◌, ap, subst, arith}
use Rattle.std.specs.Prelude.{nat_eq, ◌&&◌, length, map, slice_get}
use Rattle.std.proofs.lemmas.Bool.{false≢true}
use Rattle.std.proofs.lemmas.Bool.Decides.{eqb_tells}
use Rattle.source_meaning.specs.Memory.{Region, Spot, Scalar, Holds, Blank, Cell, Object, Live, Memory, with_cell, with_object, next_spot, beyond}
use Rattle.source_meaning.specs.Memory.{is_live, state_is_live}
use Rattle.source_meaning.specs.Steps.{Act, ◌>>=◌, ◌>>◌}
use Rattle.source_meaning.specs.Values.{write_cells}
use Rattle.source_meaning.specs.Making.{make_object}
use Rattle.source_typing.specs.Types.{shape_of}
use Rattle.type_proof.specs.Flat.{Tables}
use Rattle.type_proof.proofs.invariant.Facts.{if_cases, at_region, at_spot, same_at, further, not_further}
use Rattle.type_proof.proofs.invariant.Invariant.{RunType, Flying, InCell, Kept, Reached, Ghost, Laid, HasType, HaveTypes, Inv, Grows}
use Rattle.type_proof.proofs.invariant.Values.{values_kept}
use Rattle.type_proof.proofs.invariant.Moves.{into}
use Rattle.type_proof.proofs.invariant.Runs.{Runs, runs_check}
use Rattle.type_proof.proofs.invariant.After.{flying}
use Rattle.type_proof.proofs.invariant.Cells.{cell, seen, typed_is, runs_write}
use Rattle.type_proof.proofs.invariant.Objects.{BlankAt, filled, inv_filled, grows_filled}

-- ---- the object

pub runs_object : {B : Type 0} (n : ℕ) (m : Memory) (r : Region) (o : Object) (rest : Spot → Act B) (Q : B → Memory → Type 0) → m.state r ≡ Live
    → Runs n (rest (next_spot m r)) (with_object m r o) Q → Runs n (make_object r o >>= rest) m Q
runs_object n m r o rest Q l done = record {
  by = λ next q. (runs_check n (is_live m r) (λ next2 m2. rest (next_spot m r) next2 (with_object m r o)) m Q (ap state_is_live l)
      (record { by = λ next2 q2. done.by next2 q2 })).by next q;
}

-- what is being made stays as it is while an element is evaluated
pub blank_kept : (k b : ℕ) (w : Ghost) (m : Memory) (w' : Ghost) (m' : Memory) (s : Spot) (ts : List RunType) → s.object < m.objects s.region
    → Grows k b w m w' m' → BlankAt w m s ts
    → BlankAt w' m' s ts
blank_kept k b w m w' m' s [] there g h = tt
blank_kept k b w m w' m' s (t ∷ ts) there g h = (g.bare s h.0 there, g.blank s h.0 there ∙ h.1, blank_kept k b w m w' m' (beyond s 1) ts there g h.2)

-- ---- a row of cells

still : (w : Ghost) (s : Spot) (kept : Kept) (k c : ℕ) → w.types s ≡ None → (x : Spot) (q : Kept) → w.types x ≡ Some q → (filled s kept k c w).types x ≡ Some q
still w s kept k c none x q e = at_spot w.types s (Some kept) x (λ z. z ≡ Some q) (λ z. absurd (let a = ap w.types z in cc)) (λ z. e)

blank_behind : (w : Ghost) (m : Memory) (s y : Spot) (kept : Kept) (k c : ℕ) (x : Cell) (ts : List RunType) → s.cell < y.cell → BlankAt w m y ts
    → BlankAt (filled s kept k c w) (with_cell m s x) y ts
blank_behind w m s y kept k c x [] l h = tt
blank_behind w m s y kept k c x (t ∷ ts) l h = (
  at_spot w.types s (Some kept) y (λ z. z ≡ None) (λ z. absurd (let a = ap (λ (p : Spot). p.cell) z in omega (arith, l))) (λ z. h.0),
  at_spot m.cells s (Some x) y (λ z. z ≡ Some (cell t Blank)) (λ z. absurd (let a = ap (λ (p : Spot). p.cell) z in omega (arith, l))) (λ z. h.1),
  blank_behind w m s (beyond y 1) kept k c x ts (omega (arith, l)) h.2,
)

into_later : (s : Spot) (i c j : ℕ) → (j ≡ c → ⊥) → into s i c (Flying i j) ≡ Flying i j
into_later s i c j n = elim (eqb_tells j c) [
  | inl e ↦ absurd (n e.1)
  | inr e ↦ if_cases (nat_eq i i && nat_eq j c) (InCell s) (Flying i j) (λ o. o ≡ Flying i j)
      (λ z. absurd (false≢true (sym e.0 ∙ both (nat_eq i i) (nat_eq j c) z))) (λ z. refl)
]
  where
    both : (a b : Bool) → a && b ≡ true → b ≡ true
    both true b h = h
    both false b h = absurd (false≢true h)

-- Where a row was filled, it is there and what lies behind it is blank; no cell that had a type changed.
pub record Row (k b : ℕ) (w0 : Ghost) (m0 : Memory) (w : Ghost) (m : Memory) (s : Spot) (ts more : List RunType) (w' : Ghost) (m' : Memory) : Type 0 where
  pub grows : Grows k b w0 m0 w' m'
  pub laid : Laid w' s ts
  pub behind : BlankAt w' m' (beyond s (length ts)) more
  pub types : (y : Spot) (q : Kept) → w.types y ≡ Some q → w'.types y ≡ Some q
  pub cells : (y : Spot) (q : Kept) → w.types y ≡ Some q → m'.cells y ≡ m.cells y
  pub objects : m'.objects ≡ m.objects

pub runs_fill_row : {B : Type 0} (d : Tables) (n k b c : ℕ) (w0 w : Ghost) (m0 m : Memory) (s : Spot) (ts more : List RunType) (vs : List Scalar) (g : Act B)
    (Q : B → Memory → Type 0) → Inv d w m → m.state s.region ≡ Live → m0.objects s.region ≤ s.object → s.object < m.objects s.region
    → BlankAt w m s (ts ++ more)
    → HaveTypes d w (flying k c) vs ts → Grows k b w0 m0 w m
    → ((w' : Ghost) (m' : Memory) → Inv d w' m' → Row k b w0 m0 w m s ts more w' m' → Runs n g m' Q)
    → Runs n (write_cells s vs >> g) m Q
runs_fill_row d n k b c w0 w m0 m s [] more [] g Q i l new there h hv g0 r = record {
  by = λ next q. (r w m i (record {
    grows = g0;
    laid = tt;
    behind = subst (λ (y : Spot). BlankAt w m y more) (sym (not_further s)) h;
    types = λ y p e. e;
    cells = λ y p e. refl;
    objects = refl;
  })).by next q;
}
runs_fill_row d n k b c w0 w m0 m s (t ∷ ts) more (v ∷ vs) g Q i l new there h hv g0 r =
    let first : HasType d w (Flying k c) v t = subst (λ (q : ℕ). HasType d w (Flying k q) v t) (omega arith) hv.0 in
    let x : Cell = cell t (Holds v) in
    let w1 : Ghost = filled s (Reached t) k c w in
    let m1 : Memory = with_cell m s x in
    let i1 : Inv d w1 m1 = inv_filled d w m s (Reached t) k c v i h.0 there first in
    let g1 : Grows k b w0 m0 w1 m1 = grows_filled k b w0 w m0 m s (Reached t) c x g0 h.0 new in
    let rest : HaveTypes d w1 (flying k (suc c)) vs ts = values_kept d w w1 (λ j. flying k c (suc j)) (flying k (suc c)) vs ts (λ j. record {
      types = λ y u a. still w s (Reached t) k c h.0 y (Reached u) a;
      above = λ a q u. u;
      keyed = λ q u. refl;
      owner = λ q u. ap (into s k c) u ∙ into_later s k c (c + suc j) (λ e. omega arith) ∙ ap (Flying k) (omega arith);
    }) hv.1 in
    let tail = runs_fill_row d n k b (suc c) w0 w1 m0 m1 (beyond s 1) ts more vs g Q i1 l new there
    (blank_behind w m s (beyond s 1) (Reached t) k c x (ts ++ more) (omega arith) h.2) rest g1
    (λ w' m' i' z. r w' m' i' (record {
      grows = z.grows;
      laid = (z.types s (Reached t) (same_at s (Some (Reached t)) (w.types s)), z.laid);
      behind = subst (λ (y : Spot). BlankAt w' m' y more) (further s 1 (length ts) (length (t ∷ ts)) (omega arith)) z.behind;
      types = λ y q e. z.types y q (still w s (Reached t) k c h.0 y q e);
      cells = λ y q e. z.cells y q (still w s (Reached t) k c h.0 y q e)
          ∙ at_spot m.cells s (Some x) y (λ o. o ≡ m.cells y) (λ a. absurd (let p = ap w.types a in let q0 : w.types s ≡ None = h.0 in cc)) (λ a. refl);
      objects = z.objects;
    })) in
    runs_write n s (shape_of t) Blank v (write_cells (beyond s 1) vs >> g) m Q (seen m s _ l h.1) refl (typed_is d w (Flying k c) v t first)
    (record { by = λ next q. tail.by next q })
runs_fill_row d n k b c w0 w m0 m s [] more (v ∷ vs) g Q i l new there h hv g0 r = absurd hv
runs_fill_row d n k b c w0 w m0 m s (t ∷ ts) more [] g Q i l new there h hv g0 r = absurd hv
