-- A function's parameters get their arguments, one after another.
use Rattle.std.proofs.Common.{◌≡◌, ℕ, suc, ◌+◌, ◌<◌, ◌≤◌, Some, List, [], ◌∷◌, refl, sym, ◌∙◌, ap, subst, arith}
use Rattle.std.specs.Prelude.{map}
use Rattle.source_meaning.specs.Shapes.{Shape, Part}
use Rattle.source_meaning.specs.Memory.{Region, Frame, Born, Spot, Scalar, State, Live, Memory, beyond, blank_object}
use Rattle.source_meaning.specs.Steps.{World, Scope, Flow, Variable, Act, ◌>>=◌, ◌>>◌}
use Rattle.source_meaning.specs.Conversions.{cells_of}
use Rattle.source_meaning.specs.Values.{write_cells}
use Rattle.source_meaning.specs.Making.{make_object}
use Rattle.source_meaning.specs.Places.{with_binding}
use Rattle.source_meaning.specs.Programs.{with_arguments}
use Rattle.source_typing.specs.Types.{shape_of}
use Rattle.type_proof.specs.Flat.{Tables, flat}
use Rattle.type_proof.proofs.invariant.Invariant.{RunType, heap, Kept, Reached, type_of, Ghost, HaveTypes, Inv, Grows}
use Rattle.type_proof.proofs.invariant.Values.{values_kept}
use Rattle.type_proof.proofs.invariant.Growth.{grows_refl, grows_trans, grows_less}
use Rattle.type_proof.proofs.invariant.Runs.{Runs}
use Rattle.type_proof.proofs.invariant.After.{flying}
use Rattle.type_proof.proofs.invariant.Objects.{FullAt, Settles, runs_made}

-- the program's structs have the cells of their types
abbrev pub Agrees : World → Tables → Type 0
Agrees world d = (t : RunType) → cells_of world (shape_of t) ≡ map shape_of (flat heap d t)

-- the arguments on their way, the first of them with the number k
abbrev pub Flown : Tables → Ghost → ℕ → List (List Scalar) → List RunType → Type 0
Flown d w k [] [] = Unit {0}
Flown d w k (vs ∷ vss) (t ∷ ts) = HaveTypes d w (flying k 0) vs (flat heap d t) × Flown d w (suc k) vss ts
Flown d w k [] (t ∷ ts) = ⊥
Flown d w k (vs ∷ vss) [] = ⊥

-- parameters have the shapes of their types
abbrev pub Shaped : List Part → List RunType → Type 0
Shaped [] [] = Unit {0}
Shaped (p ∷ ps) (t ∷ ts) = (p.shape ≡ shape_of t) × Shaped ps ts
Shaped [] (t ∷ ts) = ⊥
Shaped (p ∷ ps) [] = ⊥

-- the parameters' spots, in the block of this activation, one object after another, from the o-th on
abbrev pub Landed : Tables → (RunType → RunType → Kept) → ℕ → ℕ → Ghost → Memory → List Spot → List RunType → List (List Scalar) → Type 0
Landed d K a o w m [] [] [] = Unit {0}
Landed d K a o w m (s ∷ ss) (t ∷ ts) (vs ∷ vss) =
    (s.region ≡ Frame a) × FullAt (K t) w m s (flat heap d t) vs × Landed d K a (suc s.object) w m ss ts vss × (o ≤ s.object) × (s.object < m.objects (Frame a))
Landed d K a o w m _ _ _ = ⊥

landed_from : (d : Tables) (K : RunType → RunType → Kept) (a o c : ℕ) (w : Ghost) (m : Memory) (ss : List Spot) (ts : List RunType) (vss : List (List Scalar))
    → c ≤ o
    → Landed d K a o w m ss ts vss → Landed d K a c w m ss ts vss
landed_from d K a o c w m [] [] [] l h = tt
landed_from d K a o c w m (s ∷ ss) (t ∷ ts) (vs ∷ vss) l h = let z = h.3 in (h.0, h.1, h.2, omega (arith, l, z), h.4)
landed_from d K a o c w m [] [] (vs ∷ vss) l h = absurd h
landed_from d K a o c w m [] (t ∷ ts) vss l h = absurd h
landed_from d K a o c w m (s ∷ ss) [] vss l h = absurd h
landed_from d K a o c w m (s ∷ ss) (t ∷ ts) [] l h = absurd h

abbrev pub bound_all : Scope → List Part → List Spot → Scope
bound_all scope [] ss = scope
bound_all scope (p ∷ ps) [] = scope
bound_all scope (p ∷ ps) (s ∷ ss) = bound_all (with_binding scope p.name (Variable p.shape s)) ps ss

full_kept : (K : RunType → Kept) (w : Ghost) (m : Memory) (w' : Ghost) (m' : Memory) (s : Spot) (ts : List RunType) (vs : List Scalar)
    → ((y : Spot) (q : Kept) → w.types y ≡ Some q → w'.types y ≡ Some q) → ((y : Spot) (q : Kept) → w.types y ≡ Some q → m'.cells y ≡ m.cells y)
    → FullAt K w m s ts vs → FullAt K w' m' s ts vs
full_kept K w m w' m' s [] [] g c h = tt
full_kept K w m w' m' s (t ∷ ts) (v ∷ vs) g c h = (g s (K t) h.0, c s (K t) h.0 ∙ h.1, full_kept K w m w' m' (beyond s 1) ts vs g c h.2)
full_kept K w m w' m' s [] (v ∷ vs) g c h = absurd h
full_kept K w m w' m' s (t ∷ ts) [] g c h = absurd h

flown_kept : (d : Tables) (k j : ℕ) (w : Ghost) (m : Memory) (w' : Ghost) (m' : Memory) (b : ℕ) (vss : List (List Scalar)) (ts : List RunType) → k < j
    → Settles k w m w' m' → Grows k b w m w' m' → Flown d w j vss ts → Flown d w' j vss ts
flown_kept d k j w m w' m' b [] [] l z g h = tt
flown_kept d k j w m w' m' b (vs ∷ vss) (t ∷ ts) l z g h = (
  values_kept d w w' (flying j 0) (flying j 0) vs (flat heap d t)
      (λ c. record {
        types = λ y u e. g.types y (Reached u) e;
        above = g.above;
        owner = λ x e. z.flights (Born x) j (0 + c) (λ q. omega (arith, l, q)) e;
        keyed = λ x e. z.keyed (Born x);
      }) h.0,
  flown_kept d k (suc j) w m w' m' b vss ts (omega (arith, l)) z g h.1,
)
flown_kept d k j w m w' m' b [] (t ∷ ts) l z g h = absurd h
flown_kept d k j w m w' m' b (vs ∷ vss) [] l z g h = absurd h

-- every parameter holds its argument before the body begins
pub runs_arguments : (n : ℕ) (d : Tables) (world : World) (K : RunType → RunType → Kept) (k b a : ℕ) (ps : List Part) (ts : List RunType)
    (vss : List (List Scalar)) (w : Ghost) (m : Memory) (scope : Scope) (body : Scope → Act Flow) (Q : Flow → Memory → Type 0) → Agrees world d
    → ((t : RunType) (u : RunType) → type_of (K t u) ≡ u) → scope.world ≡ world → scope.frame ≡ a → Shaped ps ts → Inv d w m → m.state (Frame a) ≡ Live
    → Flown d w k vss ts
    → ((ss : List Spot) (w' : Ghost) (m' : Memory) → Inv d w' m' → Grows k b w m w' m' → m'.state ≡ m.state
    → ((y : Spot) (q : Kept) → w.types y ≡ Some q → m'.cells y ≡ m.cells y) → Landed d K a (m.objects (Frame a)) w' m' ss ts vss
    → Runs n (body (bound_all scope ps ss)) m' Q)
    → Runs n (with_arguments ps vss body scope) m Q
runs_arguments n d world K k b a [] [] [] w m scope body Q agrees same in_world at_frame shaped i l flown go =
    record { by = λ next q. (go [] w m i (grows_refl k b w m) refl (λ y q2 e. refl) tt).by next q }
runs_arguments n d world K k b a (p ∷ ps) (t ∷ ts) (vs ∷ vss) w m scope body Q agrees same in_world at_frame shaped i l flown go =
    let cells : cells_of scope.world p.shape ≡ map shape_of (flat heap d t) = ap (λ (x : World). cells_of x p.shape) in_world
    ∙ (ap (cells_of world) shaped.0 ∙ agrees t) in
    subst (λ (r : ℕ). Runs n (make_object (Frame r) (blank_object (cells_of scope.world p.shape)) >>= λ at.
    write_cells at vs >> with_arguments ps vss body (with_binding scope p.name (Variable p.shape at))) m Q) (sym at_frame)
    (subst (λ (cs : List Shape). Runs n (make_object (Frame a) (blank_object cs) >>= λ at.
    write_cells at vs >> with_arguments ps vss body (with_binding scope p.name (Variable p.shape at))) m Q) (sym cells)
    (runs_made d n k b (K t) w m (Frame a) (flat heap d t) vs (λ at. with_arguments ps vss body (with_binding scope p.name (Variable p.shape at))) Q (same t) i
    l flown.0
    (λ at w1 m1 i1 g1 new full st settled.
    runs_arguments n d world K (suc k) b a ps ts vss w1 m1 (with_binding scope p.name (Variable p.shape at)) body Q agrees same in_world at_frame shaped.1 i1
    (ap (λ (z : Region → State). z (Frame a)) st ∙ l)
    (flown_kept d k (suc k) w m w1 m1 b vss ts (omega arith) settled g1 flown.1)
    (λ ss w2 m2 i2 g2 st2 cells2 landed. go (at ∷ ss) w2 m2 i2 (grows_trans g1 (grows_less g2)) (st2 ∙ st)
    (λ y q e. cells2 y q (g1.types y q e) ∙ settled.cells y q e) (
      new.region,
      full_kept (K t) w1 m1 w2 m2 at (flat heap d t) vs g2.types cells2 full,
      landed_from d K a (m1.objects (Frame a)) (suc at.object) w2 m2 ss ts vss new.counted landed,
      (let z : at.object ≡ m.objects (Frame a) = new.object in omega (arith, z)),
      (let z : m1.objects (Frame a) ≤ m2.objects (Frame a) = g2.objects (Frame a) in let c : at.object < m1.objects (Frame a) =
          new.counted in omega (arith, z, c)),
    )))))
runs_arguments n d world K k b a [] (t ∷ ts) vss w m scope body Q agrees same in_world at_frame shaped i l flown go = absurd shaped
runs_arguments n d world K k b a (p ∷ ps) [] vss w m scope body Q agrees same in_world at_frame shaped i l flown go = absurd shaped
runs_arguments n d world K k b a [] [] (vs ∷ vss) w m scope body Q agrees same in_world at_frame shaped i l flown go = absurd flown
runs_arguments n d world K k b a (p ∷ ps) (t ∷ ts) [] w m scope body Q agrees same in_world at_frame shaped i l flown go = absurd flown
