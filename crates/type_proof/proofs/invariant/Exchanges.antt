-- Two cells exchange what they hold, rights and all.
use Rattle.std.proofs.Common.{◌≡◌, ℕ, ◌<◌, Some, None, [], ◌∷◌, refl, sym, ◌∙◌, ap, subst}
use Rattle.std.specs.Prelude.{if◌then◌else◌}
use Rattle.source_meaning.specs.Memory.{Frame, Spot, Scalar, Holds, Live, Memory, same_spot, with_cell, cell_at}
use Rattle.source_meaning.specs.Steps.{Act, ◌>>=◌, ◌>>◌}
use Rattle.source_meaning.specs.Values.{read_cells, write_cells}
use Rattle.source_typing.specs.Types.{shape_of}
use Rattle.type_proof.specs.Flat.{Tables}
use Rattle.type_proof.proofs.invariant.Facts.{at_spot, same_at}
use Rattle.type_proof.proofs.invariant.Invariant.{RunType, Owner, InCell, Kept, Reached, Private, type_of, Ghost, HasType, CellOk, Inv, Grows}
use Rattle.type_proof.proofs.invariant.Values.{Carries, value_kept}
use Rattle.type_proof.proofs.invariant.Moves.{passing, inv_cells, cell_kept, other_of, swapped, swap_class}
use Rattle.type_proof.proofs.invariant.Growth.{grows_cells}
use Rattle.type_proof.proofs.invariant.Runs.{Runs}
use Rattle.type_proof.proofs.invariant.Cells.{cell, seen, typed_is, runs_read, runs_write}

-- a cell that holds a value of a type
pub record Held (d : Tables) (w : Ghost) (m : Memory) (s : Spot) (t : RunType) : Type 0 where
  pub kept : Kept
  pub typed : w.types s ≡ Some kept
  pub type : type_of kept ≡ t
  pub value : Scalar
  pub holds : m.cells s ≡ Some (cell t (Holds value))
  pub of_type : HasType d w (InCell s) value t

held_ok : (d : Tables) (w : Ghost) (s : Spot) (k : Kept) (t : RunType) (v : Scalar) → type_of k ≡ t → HasType d w (InCell s) v t
    → CellOk d w s (Some (cell t (Holds v))) k
held_ok d w s (Reached u) t v e h = record {
  content = Holds v;
  is = ap (λ (x : RunType). Some (cell x (Holds v))) (sym e);
  ok =
      record { value = v; is = refl; typed = subst (λ (x : RunType). HasType d w (InCell s) v x) (sym e) h };
}
held_ok d w s (Private u) t v e h = record {
  content = Holds v;
  is = ap (λ (x : RunType). Some (cell x (Holds v))) (sym e);
  ok = λ y a. let z : v ≡ y = cc in subst (λ (q : Scalar). HasType d w (InCell s) q u) z (subst (λ (x : RunType). HasType d w (InCell s) v x) (sym e) h);
}

-- the memory after both writes
abbrev pub exchanged_memory : Memory → Spot → Spot → RunType → Scalar → Scalar → Memory
exchanged_memory m s t u v v' = with_cell (with_cell m s (cell u (Holds v'))) t (cell u (Holds v))

pub inv_exchanged : (d : Tables) (w : Ghost) (m : Memory) (s t : Spot) (u : RunType) → Inv d w m → (a : Held d w m s u) → (b : Held d w m t u)
    → Inv d (passing (swapped s t) w) (exchanged_memory m s t u a.value b.value)
inv_exchanged d w m s t u i a b =
    inv_cells d w m (swapped s t) (λ x. if same_spot x t then Some (cell u (Holds a.value)) else
    (if same_spot x s then Some (cell u (Holds b.value)) else m.cells x)) i (swap_class s t)
    (λ x q e. at_spot (λ y. if same_spot y s then Some (cell u (Holds b.value)) else m.cells y) t (Some (cell u (Holds a.value))) x (λ z. CellOk d w' x z q)
    (λ z. at_second x q e z)
    (λ z. at_spot m.cells s (Some (cell u (Holds b.value))) x (λ y. CellOk d w' x y q) (λ y. at_first x q e y)
    (λ y. cell_kept d w w' x (m.cells x) q (carry (InCell x) (InCell x) (ap InCell (other x y z))) (i.cells x q e))))
  where
    w' : Ghost
    w' = passing (swapped s t) w

    carry : (o p : Owner) → swapped s t o ≡ p → Carries w w' o p
    carry o p e = record { types = λ y c h. h; above = λ y c h. h; owner = λ y h. ap (swapped s t) h ∙ e; keyed = λ y h. refl }

    other : (x : Spot) → (x ≡ s → ⊥) → (x ≡ t → ⊥) → other_of s t x ≡ x
    other x n k = at_spot (λ y. if same_spot x t then s else x) s t x (λ y. y ≡ x) (λ y. absurd (n y))
        (λ y. at_spot (λ z. x) t s x (λ z. z ≡ x) (λ z. absurd (k z)) (λ z. refl))

    to_second : other_of s t s ≡ t
    to_second = same_at s t (if same_spot s t then s else s)

    to_first : other_of s t t ≡ s
    to_first = at_spot (λ y. if same_spot t t then s else t) s t t (λ y. y ≡ s) (λ y. y) (λ y. same_at t s t)

    at_second : (x : Spot) (q : Kept) → w.types x ≡ Some q → x ≡ t → CellOk d w' x (Some (cell u (Holds a.value))) q
    at_second x q e z =
        let k : type_of q ≡ u = (let y = ap w.types z in let p : w.types t ≡ Some b.kept = b.typed in let f : q ≡ b.kept = cc in ap type_of f ∙ b.type) in
        subst (λ (y : Spot). CellOk d w' y (Some (cell u (Holds a.value))) q) (sym z)
        (held_ok d w' t q u a.value k (value_kept d w w' (InCell s) (InCell t) a.value u (carry (InCell s) (InCell t) (ap InCell to_second)) a.of_type))

    at_first : (x : Spot) (q : Kept) → w.types x ≡ Some q → x ≡ s → CellOk d w' x (Some (cell u (Holds b.value))) q
    at_first x q e z =
        let k : type_of q ≡ u = (let y = ap w.types z in let p : w.types s ≡ Some a.kept = a.typed in let f : q ≡ a.kept = cc in ap type_of f ∙ a.type) in
        subst (λ (y : Spot). CellOk d w' y (Some (cell u (Holds b.value))) q) (sym z)
        (held_ok d w' s q u b.value k (value_kept d w w' (InCell t) (InCell s) b.value u (carry (InCell t) (InCell s) (ap InCell to_first)) b.of_type))

-- the exchange of two cells whose places are known
abbrev pub exchange_at : Spot → Spot → Act (Unit {0})
exchange_at s t = read_cells 1 s >>= λ vs. read_cells 1 t >>= λ us. write_cells s us >> write_cells t vs

pub runs_exchange : {B : Type 0} (d : Tables) (n k b : ℕ) (w : Ghost) (m : Memory) (s t : Spot) (u : RunType) (g : Act B) (Q : B → Memory → Type 0) → Inv d w m
    → m.state s.region ≡ Live → m.state t.region ≡ Live → (x : Held d w m s u) → (y : Held d w m t u)
    → ((j : ℕ) (c : RunType) → x.kept ≡ Private c → s.region ≡ Frame j → j < b → ⊥)
    → ((j : ℕ) (c : RunType) → y.kept ≡ Private c → t.region ≡ Frame j → j < b → ⊥)
    → ((w' : Ghost) (m' : Memory) → Inv d w' m' → Grows k b w m w' m' → Held d w' m' t u
    → ((z : Spot) → m'.cells z ≡ (exchanged_memory m s t u x.value y.value).cells z) → w'.types ≡ w.types → Runs n g m' Q) → Runs n (exchange_at s t >> g) m Q
runs_exchange d n k b w m s t u g Q i ls lt x y ours_s ours_t r =
    let v : Scalar = x.value in
    let v' : Scalar = y.value in
    let m1 : Memory = with_cell m s (cell u (Holds v')) in
    let m2 : Memory = with_cell m1 t (cell u (Holds v)) in
    let seen_s : cell_at m s ≡ Some (cell u (Holds v)) = seen m s _ ls x.holds in
    let seen_t : cell_at m t ≡ Some (cell u (Holds v')) = seen m t _ lt y.holds in
    let w2 : Ghost = passing (swapped s t) w in
    let i2 : Inv d w2 m2 = inv_exchanged d w m s t u i x y in
    let g2 : Grows k b w m w2 m2 = grows_cells k b w m (swapped s t)
    (λ z. if same_spot z t then Some (cell u (Holds v)) else (if same_spot z s then Some (cell u (Holds v')) else m.cells z)) (swap_class s t)
    (λ a c l. refl) (λ a. refl) keeps bare in
    let later : cell_at m1 t ≡ Some (cell u (Holds (second v v'))) =
    seen m1 t _ lt (at_spot m.cells s (Some (cell u (Holds v'))) t (λ z. z ≡ Some (cell u (Holds v'))) (λ z. refl) (λ z. y.holds)) in
    let back : Held d w2 m2 t u = record {
      kept = y.kept;
      typed = y.typed;
      type = y.type;
      value = v;
      holds = same_at t (Some (cell u (Holds v))) (if same_spot t s then Some (cell u (Holds v')) else m.cells t);
      of_type = value_kept d w w2 (InCell s) (InCell t) v u (record {
        types = λ z c h. h;
        above = λ z c h. h;
        owner =
            λ z h. ap (swapped s t) h ∙ ap InCell (same_at s t (if same_spot s t then s else s));
        keyed = λ z h. refl;
      }) x.of_type;
    } in
    runs_read n s (shape_of u) v (λ a. read_cells 1 t >>= λ us. write_cells s us >> write_cells t (a ∷ []) >> g) m Q seen_s
    (record {
      by = λ next q. (runs_read n t (shape_of u) v' (λ c. write_cells s (c ∷ []) >> write_cells t (v ∷ []) >> g) m Q seen_t
          (record {
            by = λ next2 q2. (runs_write n s (shape_of u) (Holds v) v' (write_cells t (v ∷ []) >> g) m Q seen_s refl (typed_is d w (InCell t) v' u y.of_type)
                (record {
                  by = λ next3 q3. (runs_write n t (shape_of u) (Holds v') v g m1 Q later refl (typed_is d w (InCell s) v u x.of_type)
                      (r w2 m2 i2 g2 back (λ z. refl) refl)).by next3 q3;
                })).by next2 q2;
          })).by next q;
    })
  where
    second : Scalar → Scalar → Scalar
    second a c = c

    keeps : (z : Spot) (c : RunType) (j : ℕ) → z.region ≡ Frame j → j < b → w.types z ≡ Some (Private c)
        → (if same_spot z t then Some (cell u (Holds x.value)) else (if same_spot z s then Some (cell u (Holds y.value)) else m.cells z)) ≡ m.cells z
    keeps z c j p l h = at_spot (λ q. if same_spot q s then Some (cell u (Holds y.value)) else m.cells q) t (Some (cell u (Holds x.value))) z
        (λ q. q ≡ m.cells z)
        (λ q. absurd (ours_t j c (let f = ap w.types q in let e : w.types t ≡ Some y.kept = y.typed in cc) (sym (ap (λ (o : Spot). o.region) q) ∙ p) l))
        (λ q. at_spot m.cells s (Some (cell u (Holds y.value))) z (λ o. o ≡ m.cells z)
        (λ o. absurd (ours_s j c (let f = ap w.types o in let e : w.types s ≡ Some x.kept = x.typed in cc) (sym (ap (λ (a : Spot). a.region) o) ∙ p) l))
        (λ o. refl))

    bare : (z : Spot) → w.types z ≡ None → (if same_spot z t then Some (cell u (Holds x.value)) else
        (if same_spot z s then Some (cell u (Holds y.value)) else m.cells z)) ≡ m.cells z
    bare z h = at_spot (λ q. if same_spot q s then Some (cell u (Holds y.value)) else m.cells q) t (Some (cell u (Holds x.value))) z (λ q. q ≡ m.cells z)
        (λ q. absurd (let f = ap w.types q in let e : w.types t ≡ Some y.kept = y.typed in cc))
        (λ q. at_spot m.cells s (Some (cell u (Holds y.value))) z (λ o. o ≡ m.cells z)
        (λ o. absurd (let f = ap w.types o in let e : w.types s ≡ Some x.kept = x.typed in cc)) (λ o. refl))
