-- Noncopyable locals are moved, freed, lent and opened.
use Rattle.std.proofs.Common.{◌≡◌, ℕ, suc, ◌<◌, Bool, true, false, inl, inr, Option, Some, None, List, [], ◌∷◌, refl, sym, ◌∙◌, ap, subst, arith}
use Rattle.std.specs.Prelude.{map, length, if◌then◌else◌}
use Rattle.cyc_words.specs.Events.{KeyFree, UniqueFree}
use Rattle.source_meaning.specs.Memory.{Region, Frame, Born, Spot, Scalar, Content, Holds, Gone, Cell, State, Live, Closed, Dead, Memory, same_spot, with_cell}
use Rattle.source_meaning.specs.Memory.{with_state, is_live, is_closed, state_is_live, state_is_closed, beyond}
use Rattle.source_meaning.specs.Steps.{Act, ◌>>=◌, ◌>>◌, show}
use Rattle.source_meaning.specs.Values.{read_cells, put_contents}
use Rattle.source_meaning.specs.Regions.{key_freed, pointer_freed}
use Rattle.source_typing.specs.Types.{Key, Unique, shape_of}
use Rattle.type_proof.specs.Flat.{Tables}
use Rattle.type_proof.proofs.invariant.Facts.{at_spot, same_at}
use Rattle.type_proof.proofs.invariant.Invariant.{RunType, Owner, Flying, InCell, Freed, Kept, Reached, Private, Ghost, HasType, HaveTypes, CellOk, Steady}
use Rattle.type_proof.proofs.invariant.Invariant.{Resting, StateOk, Inv, Grows}
use Rattle.type_proof.proofs.invariant.Values.{value_kept, values_kept}
use Rattle.type_proof.proofs.invariant.Moves.{passing, inv_cells, cell_kept, out_of, out_class, owned_by, Turns, inv_turn, held_alone}
use Rattle.type_proof.proofs.invariant.Growth.{grows_cells, grows_refl, grows_trans, grows_turn}
use Rattle.type_proof.proofs.invariant.Runs.{Safe, Runs, runs_check}
use Rattle.type_proof.proofs.invariant.Cells.{cell, seen, runs_read, runs_put}
use Rattle.type_proof.proofs.invariant.After.{runs_show, flying}

-- ---- a cell gives its value away

abbrev content_of : Option Cell → Content
content_of None = Gone
content_of (Some x) = x.content

pub content_same : (o : Option Cell) (t : RunType) (c c' : Content) → o ≡ Some (cell t c) → o ≡ Some (cell t c') → c ≡ c'
content_same o t c c' p q = ap content_of (sym p ∙ q)

-- a spot is no caller's local
abbrev pub Ours : ℕ → Spot → Type 0
Ours b s = (j : ℕ) → s.region ≡ Frame j → j < b → ⊥

abbrev pub emptied : Spot → ℕ → ℕ → Ghost → Ghost
emptied s k c w = passing (out_of s k c) w

pub inv_emptied : (d : Tables) (w : Ghost) (m : Memory) (s : Spot) (t : RunType) (k c : ℕ) (x : Content) → Inv d w m → w.types s ≡ Some (Private t)
    → ((v : Scalar) → x ≡ Holds v → ⊥) → Inv d (emptied s k c w) (with_cell m s (cell t x))
inv_emptied d w m s t k c x i e none =
    inv_cells d w m (out_of s k c) (λ y. if same_spot y s then Some (cell t x) else m.cells y) i (out_class s k c)
    (λ y q h. at_spot m.cells s (Some (cell t x)) y (λ z. CellOk d w' y z q)
    (λ z. let same : Private t ≡ q = (let a = ap w.types z in cc) in subst (λ (p : Kept). CellOk d w' y (Some (cell t x)) p) same
    (record { content = x; is = refl; ok = λ v f. absurd (none v f) }))
    (λ z. cell_kept d w w' y (m.cells y) q (record {
      types = λ p u a. a;
      above = λ p u a. a;
      keyed = λ p a. refl;
      owner = λ p a. ap (out_of s k c) a ∙ at_spot (λ u. InCell y) s (Flying k c) y (λ o. o ≡ InCell y) (λ o. absurd (z o)) (λ o. refl);
    }) (i.cells y q h)))
  where
    w' : Ghost
    w' = emptied s k c w

pub grows_emptied : (k b : ℕ) (w : Ghost) (m : Memory) (s : Spot) (t : RunType) (c : ℕ) (x : Cell) → w.types s ≡ Some (Private t) → Ours b s
    → Grows k b w m (emptied s k c w) (with_cell m s x)
grows_emptied k b w m s t c x e ours =
    grows_cells k b w m (out_of s k c) (λ y. if same_spot y s then Some x else m.cells y) (out_class s k c) (λ i j l. refl) (λ i. refl)
    (λ y u j p l h. at_spot m.cells s (Some x) y (λ z. z ≡ m.cells y) (λ z. absurd (ours j (sym (ap (λ (o : Spot). o.region) z) ∙ p) l)) (λ z. refl))
    (λ y h. at_spot m.cells s (Some x) y (λ z. z ≡ m.cells y) (λ z. absurd (let a = ap w.types z in cc)) (λ z. refl))

pub now_flying : (d : Tables) (w : Ghost) (s : Spot) (t : RunType) (k c : ℕ) (v : Scalar) → HasType d w (InCell s) v t
    → HasType d (emptied s k c w) (Flying k c) v t
now_flying d w s t k c v h = value_kept d w (emptied s k c w) (InCell s) (Flying k c) v t (record {
  types = λ p u a. a;
  above = λ p u a. a;
  keyed = λ p a. refl;
  owner = λ p a. ap (out_of s k c) a ∙ same_at s (Flying k c) (InCell s);
}) h

-- a local of several cells, all of which hold values
abbrev pub HeldAt : Ghost → Memory → Spot → List RunType → List Scalar → Type 0
HeldAt w m s [] [] = Unit {0}
HeldAt w m s (t ∷ ts) (v ∷ vs) = (w.types s ≡ Some (Private t)) × (m.cells s ≡ Some (cell t (Holds v))) × HeldAt w m (beyond s 1) ts vs
HeldAt w m s [] (v ∷ vs) = ⊥
HeldAt w m s (t ∷ ts) [] = ⊥

-- a local of several cells, from each of which the value was moved
abbrev pub GoneAt : Ghost → Memory → Spot → List RunType → Type 0
GoneAt w m s [] = Unit {0}
GoneAt w m s (t ∷ ts) = (w.types s ≡ Some (Private t)) × (m.cells s ≡ Some (cell t Gone)) × GoneAt w m (beyond s 1) ts

pub runs_read_held : {B : Type 0} (n : ℕ) (w : Ghost) (m : Memory) (s : Spot) (ts : List RunType) (vs : List Scalar) (f : List Scalar → Act B)
    (Q : B → Memory → Type 0) → m.state s.region ≡ Live → HeldAt w m s ts vs → Runs n (f vs) m Q → Runs n (read_cells (length (map shape_of ts)) s >>= f) m Q
runs_read_held n w m s [] [] f Q l h r = record { by = λ next g. r.by next g }
runs_read_held n w m s (t ∷ ts) (v ∷ vs) f Q l h r =
    let tail = runs_read_held n w m (beyond s 1) ts vs (λ us. f (v ∷ us)) Q l h.2 r in
    record {
      by = λ next g. (runs_read n s (shape_of t) v (λ u. read_cells (length (map shape_of ts)) (beyond s 1) >>= λ us. f (u ∷ us)) m Q (seen m s _ l h.1)
          (record { by = λ next2 g2. tail.by next2 g2 })).by next g;
    }
runs_read_held n w m s [] (v ∷ vs) f Q l h r = absurd h
runs_read_held n w m s (t ∷ ts) [] f Q l h r = absurd h

later_cell : (m : Memory) (s y : Spot) (x : Cell) (o : Option Cell) → s.cell < y.cell → m.cells y ≡ o → (with_cell m s x).cells y ≡ o
later_cell m s y x o l e = at_spot m.cells s (Some x) y (λ z. z ≡ o) (λ z. absurd (let a = ap (λ (p : Spot). p.cell) z in omega (arith, l))) (λ z. e)

held_later : (w : Ghost) (f : Owner → Owner) (m : Memory) (s y : Spot) (x : Cell) (ts : List RunType) (vs : List Scalar) → s.cell < y.cell → HeldAt w m y ts vs
    → HeldAt (passing f w) (with_cell m s x) y ts vs
held_later w f m s y x [] [] l h = tt
held_later w f m s y x (t ∷ ts) (v ∷ vs) l h = (h.0, later_cell m s y x _ l h.1, held_later w f m s (beyond y 1) x ts vs (omega (arith, l)) h.2)
held_later w f m s y x [] (v ∷ vs) l h = absurd h
held_later w f m s y x (t ∷ ts) [] l h = absurd h

-- two locals are two objects
abbrev pub Apart : Spot → Spot → Type 0
Apart s t = s.region ≡ t.region → s.object ≡ t.object → ⊥

-- what moves out of cells leaves what was on its way as it was
pub record Outwards (w w' : Ghost) : Type 0 where
  pub flights : (r : Region) (i c : ℕ) → w.owner r ≡ Flying i c → w'.owner r ≡ Flying i c
  pub keyed : (r : Region) → w'.keyed r ≡ w.keyed r

-- the cells of a local that is moved are Gone, and its value is the k-th on its way
pub runs_gone : {B : Type 0} (d : Tables) (n k b c : ℕ) (w : Ghost) (m : Memory) (s : Spot) (ts : List RunType) (vs : List Scalar) (g : Act B)
    (Q : B → Memory → Type 0) → Inv d w m → m.state s.region ≡ Live → Ours b s → HeldAt w m s ts vs
    → ((w' : Ghost) (m' : Memory) → Inv d w' m' → Grows k b w m w' m' → HaveTypes d w' (flying k c) vs ts → Outwards w w'
    → ((y : Spot) → y.cell < s.cell → m'.cells y ≡ m.cells y) → ((y : Spot) → Apart y s → m'.cells y ≡ m.cells y) → GoneAt w' m' s ts → Runs n g m' Q)
    → Runs n (put_contents (length (map shape_of ts)) s Gone >> g) m Q
runs_gone d n k b c w m s [] [] g Q i l o h r = record
    { by = λ next q. (r w m i (grows_refl k b w m) tt (record { flights = λ y a c2 e. e; keyed = λ y. refl }) (λ y p. refl) (λ y p. refl) tt).by next q }
runs_gone d n k b c w m s (t ∷ ts) (v ∷ vs) g Q i l o h r =
    let x : CellOk d w s (m.cells s) (Private t) = i.cells s (Private t) h.0 in
    let ok : (u : Scalar) → x.content ≡ Holds u → HasType d w (InCell s) u t = x.ok in
    let same : x.content ≡ Holds v = content_same _ t x.content (Holds v) x.is h.1 in
    let typed : HasType d w (InCell s) v t = ok v same in
    let w1 : Ghost = emptied s k c w in
    let m1 : Memory = with_cell m s (cell t Gone) in
    let i1 : Inv d w1 m1 = inv_emptied d w m s t k c Gone i h.0 (λ u p. cc) in
    let g1 : Grows k b w m w1 m1 = grows_emptied k b w m s t c (cell t Gone) h.0 o in
    let fly : HasType d w1 (Flying k c) v t = now_flying d w s t k c v typed in
    let tail = runs_gone d n k b (suc c) w1 m1 (beyond s 1) ts vs g Q i1 l o
    (held_later w (out_of s k c) m s (beyond s 1) (cell t Gone) ts vs (omega arith) h.2)
    (λ w2 m2 i2 g2 hv out older away gone.
    r w2 m2 i2 (grows_trans g1 g2) (
      value_kept d w1 w2 (Flying k c) (flying k c 0) v t (record {
        types = λ y u e. g2.types y (Reached u) e;
        above = g2.above;
        keyed = λ y e. out.keyed (Born y);
        owner = λ y e. out.flights (Born y) k c e
            ∙ ap (Flying k) (omega arith);
      }) fly,
      values_kept d w2 w2 (flying k (suc c)) (λ j. flying k c (suc j)) vs ts
          (λ j. record { types = λ y u e. e; above = λ y u e. e; keyed = λ y e. refl; owner = λ y e. e ∙ ap (Flying k) (omega arith) }) hv,
    )
    (record { flights = λ y a c2 e. out.flights y a c2 (ap (out_of s k c) e); keyed = λ y. out.keyed y })
    (λ y p. older y (omega (arith, p)) ∙ at_spot m.cells s (Some (cell t Gone)) y (λ z. z ≡ m.cells y)
    (λ z. absurd (let a = ap (λ (q : Spot). q.cell) z in omega (arith, p))) (λ z. refl))
    (λ y p. away y p ∙ at_spot m.cells s (Some (cell t Gone)) y (λ z. z ≡ m.cells y)
    (λ z. absurd (p (ap (λ (q : Spot). q.region) z) (ap (λ (q : Spot). q.object) z))) (λ z. refl))
    (g2.types s (Private t) h.0, older s (omega arith) ∙ same_at s (Some (cell t Gone)) (m.cells s), gone)) in
    runs_put n s (shape_of t) (Holds v) Gone (put_contents (length (map shape_of ts)) (beyond s 1) Gone >> g) m Q (seen m s _ l h.1)
    (record { by = λ next q. tail.by next q })
runs_gone d n k b c w m s [] (v ∷ vs) g Q i l o h r = absurd h
runs_gone d n k b c w m s (t ∷ ts) [] g Q i l o h r = absurd h

-- ---- a value that is on its way is freed

-- the ghost after a right of a value on its way is used up
pub freed_turns : (d : Tables) (w : Ghost) (m : Memory) (r : Region) (k c : ℕ) → Inv d w m → w.owner r ≡ Flying k c → Turns w m r Freed Dead
freed_turns d w m r k c i e = record {
  had = λ z. cc;
  gets = λ z. cc;
  ok = refl;
  alone = inr (held_alone d w m r i (λ z. unsteady (subst Steady e z)));
  away = λ s z. cc;
}
  where
    unsteady : Steady (Flying k c) → ⊥
    unsteady z = elim z [ ]

-- `ufree` of a pointer that was moved out of its local: it is NULL, or its block is live
pub runs_pointer_freed : {B : Type 0} (d : Tables) (n k b : ℕ) (w : Ghost) (m : Memory) (v : Scalar) (nullable : Bool) (t : RunType) (g : Act B)
    (Q : B → Memory → Type 0) → Inv d w m → HasType d w (Flying k 0) v (Unique nullable t)
    → ((w' : Ghost) (m' : Memory) → Inv d w' m' → Grows k b w m w' m' → ((s : Spot) → m'.cells s ≡ m.cells s) → Runs n g m' Q)
    → Runs n (pointer_freed v >> g) m Q
runs_pointer_freed d n k b w m v nullable t g Q i (inl h) r =
    record { by = λ next q. subst (λ (x : Scalar). Safe n ((pointer_freed x >> g) next m)) (sym h.is) ((r w m i (grows_refl k b w m) (λ s. refl)).by next q) }
runs_pointer_freed d n k b w m v nullable t g Q i (inr h) r =
    let block : Region = Born h.block in
    let turn : Turns w m block Freed Dead = freed_turns d w m block k 0 i h.owner in
    let i2 : Inv d (owned_by w block Freed) (with_state m block Dead) = inv_turn d w m block Freed Dead i turn in
    let own : w.owner block ≡ Flying k 0 = h.owner in
    let g2 : Grows k b w m (owned_by w block Freed) (with_state m block Dead) =
    grows_turn k b w m block Freed Dead turn.had turn.gets (λ x y l e. flight_not k x 0 y l (sym own ∙ e)) (λ x l e. cc) in
    let live : m.state block ≡ Live = resting (w.owner block) (w.keyed block) (m.state block) k 0 own h.unkeyed (i.states block) in
    record {
      by = λ next q. subst (λ (x : Scalar). Safe n ((pointer_freed x >> g) next m)) (sym h.is)
          ((runs_check n (is_live m block) (show (UniqueFree h.block) >> (λ next2 m2. g next2 (with_state m2 block Dead))) m Q (ap state_is_live live)
          (runs_show n (UniqueFree h.block) (λ next2 m2. g next2 (with_state m2 block Dead)) m Q
          (record { by = λ next2 q2. (r (owned_by w block Freed) (with_state m block Dead) i2 g2 (λ s. refl)).by next2 q2 }))).by next q);
    }
  where
    flight_not : (k x c y : ℕ) → x < k → Flying k c ≡ Flying x y → ⊥
    flight_not k x c y l e = let z : k ≡ x = cc in omega (arith, l)

    resting : (o : Owner) (f : Bool) (st : State) (k c : ℕ) → o ≡ Flying k c → f ≡ false → StateOk o f st → st ≡ Live
    resting o f st k c e p h = subst (λ (x : Bool). Resting x st) p (subst (λ (x : Owner). StateOk x f st) e h)

-- `free_ukey` of a key that was moved out of its local: its region is closed
pub runs_key_freed : {B : Type 0} (d : Tables) (n k b : ℕ) (w : Ghost) (m : Memory) (v : Scalar) (r : Region) (g : Act B) (Q : B → Memory → Type 0) → Inv d w m
    → HasType d w (Flying k 0) v (Key r) → ((w' : Ghost) (m' : Memory) → Inv d w' m' → Grows k b w m w' m' → ((s : Spot) → m'.cells s ≡ m.cells s)
    → Runs n g m' Q) → Runs n (key_freed v >> g) m Q
runs_key_freed d n k b w m v r g Q i h f =
    let q : Region = Born h.birth in
    let turn : Turns w m q Freed Dead = freed_turns d w m q k 0 i h.owner in
    let i2 : Inv d (owned_by w q Freed) (with_state m q Dead) = inv_turn d w m q Freed Dead i turn in
    let own : w.owner q ≡ Flying k 0 = h.owner in
    let g2 : Grows k b w m (owned_by w q Freed) (with_state m q Dead) =
    grows_turn k b w m q Freed Dead turn.had turn.gets (λ x y l e. flight_not k x 0 y l (sym own ∙ e)) (λ x l e. cc) in
    let closed : m.state q ≡ Closed = resting (w.owner q) (w.keyed q) (m.state q) k 0 own h.keyed (i.states q) in
    record {
      by = λ next g3. subst (λ (x : Scalar). Safe n ((key_freed x >> g) next m)) (sym h.is)
          ((runs_check n (is_closed m q) (show (KeyFree h.birth) >> (λ next2 m2. g next2 (with_state m2 q Dead))) m Q (ap state_is_closed closed)
          (runs_show n (KeyFree h.birth) (λ next2 m2. g next2 (with_state m2 q Dead)) m Q
          (record { by = λ next2 q2. (f (owned_by w q Freed) (with_state m q Dead) i2 g2 (λ s. refl)).by next2 q2 }))).by next g3);
    }
  where
    flight_not : (k x c y : ℕ) → x < k → Flying k c ≡ Flying x y → ⊥
    flight_not k x c y l e = let z : k ≡ x = cc in omega (arith, l)

    resting : (o : Owner) (f : Bool) (st : State) (k c : ℕ) → o ≡ Flying k c → f ≡ true → StateOk o f st → st ≡ Closed
    resting o f st k c e p h = subst (λ (x : Bool). Resting x st) p (subst (λ (x : Owner). StateOk x f st) e h)
