-- Cells are read, written and exchanged.
use Rattle.std.proofs.Common.{◌≡◌, ℕ, suc, ◌+◌, ◌<◌, Bool, true, false, inl, inr, Option, Some, None, List, [], ◌∷◌, refl, sym, ◌∙◌, ap, subst, arith}
use Rattle.std.specs.Prelude.{nat_eq, ◌&&◌, not, map, length, if◌then◌else◌}
use Rattle.std.proofs.lemmas.Bool.{false≢true, eq-eqb}
use Rattle.std.proofs.lemmas.Bool.Decides.{eqb_tells}
use Rattle.source_meaning.specs.Shapes.{Shape, Reach, MayBeNull, NeverNull, may_be_null, single}
use Rattle.source_meaning.specs.Memory.{Region, Frame, Spot, Scalar, Thin, Content, Holds, Cell, State, Live, Memory, same_spot, with_cell, cell_at}
use Rattle.source_meaning.specs.Memory.{state_is_live, beyond, is_of, is_moved}
use Rattle.source_meaning.specs.Steps.{Act, ◌>>=◌, ◌>>◌, need, check}
use Rattle.source_meaning.specs.Values.{read_cell, read_cells, put_content, write_cell, write_cells, is_lent, value_held}
use Rattle.source_typing.specs.Types as types
use Rattle.source_typing.specs.Types.{Int, Unsigned, Char, Void, Null, Fat, Unique, Handle, Key, Struct, Union, shape_of}
use Rattle.type_proof.specs.Flat.{Tables}
use Rattle.type_proof.proofs.invariant.Facts.{if_cases, at_spot}
use Rattle.type_proof.proofs.invariant.Invariant.{RunType, Owner, Flying, InCell, Kept, Reached, Private, type_of, Ghost, Laid, IsNull, HasType, HaveTypes}
use Rattle.type_proof.proofs.invariant.Invariant.{Full, ContentOk, CellOk, Inv, Grows}
use Rattle.type_proof.proofs.invariant.Values.{Grown, value_kept, values_kept, copied_kept, laid_kept}
use Rattle.type_proof.proofs.invariant.Moves.{passing, inv_cells, cell_kept, into, into_class}
use Rattle.type_proof.proofs.invariant.Growth.{grows_cells, grows_refl, grows_trans}
use Rattle.type_proof.proofs.invariant.Runs.{Safe, Runs}
use Rattle.type_proof.proofs.invariant.After.{flying}

-- a typed cell
abbrev pub cell : RunType → Content → Cell
cell t c = record { shape = shape_of t; content = c }

-- a value's shape is its type's
thin_is : (n : Reach) (v : Scalar) (owner : _) (to : Shape) → IsNull (may_be_null n) v
    → is_of (Rattle.source_meaning.specs.Shapes.Shape.ThinShape n owner to) v ≡ true
thin_is (MayBeNull count) v owner to h = ap (is_of (Rattle.source_meaning.specs.Shapes.Shape.ThinShape (MayBeNull count) owner to)) h.is
thin_is (NeverNull count) v owner to h = absurd (false≢true h.allowed)

some_is : (n : Reach) (v : Scalar) (at : Spot) (owner : _) (to : Shape) → v ≡ Thin (Some at)
    → is_of (Rattle.source_meaning.specs.Shapes.Shape.ThinShape n owner to) v ≡ true
some_is (MayBeNull count) v at owner to h = ap (is_of (Rattle.source_meaning.specs.Shapes.Shape.ThinShape (MayBeNull count) owner to)) h
some_is (NeverNull count) v at owner to h = ap (is_of (Rattle.source_meaning.specs.Shapes.Shape.ThinShape (NeverNull count) owner to)) h

single_is : (n : Bool) (v : Scalar) (to : Shape) → IsNull n v
    → is_of (Rattle.source_meaning.specs.Shapes.Shape.ThinShape (single n) Rattle.source_meaning.specs.Shapes.Alone to) v ≡ true
single_is true v to h = thin_is (MayBeNull 1) v Rattle.source_meaning.specs.Shapes.Alone to h
single_is false v to h = absurd (false≢true h.allowed)

pub typed_is : (d : Tables) (w : Ghost) (by : Owner) (v : Scalar) (t : RunType) → HasType d w by v t → is_of (shape_of t) v ≡ true
typed_is d w by v Int h = ap (is_of (shape_of {R = Region} Int)) h.is
typed_is d w by v Unsigned h = ap (is_of (shape_of {R = Region} Unsigned)) h.is
typed_is d w by v Char h = ap (is_of (shape_of {R = Region} Char)) h.is
typed_is d w by v Void h = absurd h
typed_is d w by v Null h = ap (is_of (shape_of {R = Region} Null)) h
typed_is d w by v (types.Thin n r t) (inl h) = thin_is n v _ _ h
typed_is d w by v (types.Thin n r t) (inr h) = some_is n v h.at _ _ h.is
typed_is d w by v (Fat r t) (inl h) = ap (is_of (shape_of (Fat r t))) h
typed_is d w by v (Fat r t) (inr h) = ap (is_of (shape_of (Fat r t))) h.is
typed_is d w by v (Unique n t) (inl h) = single_is n v _ h
typed_is d w by v (Unique n t) (inr h) = some_is (single n) v _ _ _ h.is
typed_is d w by v (Handle r) h = ap (is_of (shape_of (Handle r))) h.is
typed_is d w by v (Key r) h = ap (is_of (shape_of (Key r))) h.is
typed_is d w by v (Struct tag rs) h = absurd h
typed_is d w by v (Union tag rs) h = ap (is_of (shape_of (Union tag rs))) h.is

-- ---- one cell, by what it is

pub seen : (m : Memory) (s : Spot) (o : Option Cell) → m.state s.region ≡ Live → m.cells s ≡ o → cell_at m s ≡ o
seen m s o l e = ap (λ (x : State). if state_is_live x then m.cells s else None) l ∙ e

pub runs_read : {B : Type 0} (n : ℕ) (s : Spot) (sh : Shape) (v : Scalar) (f : Scalar → Act B) (m : Memory) (Q : B → Memory → Type 0) → cell_at m s
    ≡ Some (record { shape = sh; content = Holds v }) → Runs n (f v) m Q → Runs n (read_cell s >>= f) m Q
runs_read n s sh v f m Q e h = record {
  by = λ next g.
      subst (λ (x : Option Cell). Safe n (need x (λ c. value_held c.content (λ a. f a next)) m)) (sym e) (h.by next g);
}

pub runs_put : {B : Type 0} (n : ℕ) (s : Spot) (sh : Shape) (c c' : Content) (g : Act B) (m : Memory) (Q : B → Memory → Type 0) → cell_at m s
    ≡ Some (record { shape = sh; content = c }) → Runs n g (with_cell m s (record { shape = sh; content = c' })) Q → Runs n (put_content s c' >> g) m Q
runs_put n s sh c c' g m Q e h = record {
  by = λ next k.
      subst (λ (x : Option Cell). Safe n (need x (λ old m2. g next (with_cell m s (record old { content = c' }))) m)) (sym e) (h.by next k);
}

pub runs_write : {B : Type 0} (n : ℕ) (s : Spot) (sh : Shape) (c : Content) (v : Scalar) (g : Act B) (m : Memory) (Q : B → Memory → Type 0) → cell_at m s
    ≡ Some (record { shape = sh; content = c }) → is_lent c ≡ false → is_of sh v ≡ true → Runs n g (with_cell m s (record { shape = sh; content = Holds v })) Q
    → Runs n (write_cell s v >> g) m Q
runs_write n s sh c v g m Q e nl is h = record {
  by = λ next k.
      subst (λ (x : Option Cell). Safe n (need x (λ old. check (not (is_lent old.content))
      (λ u. check (is_of old.shape v) (λ u2. put_content s (Holds v) (λ u3. g next)))) m)) (sym e)
      (subst (λ (x : Bool). Safe n (check (not x) (λ u. check (is_of sh v) (λ u2. put_content s (Holds v) (λ u3. g next))) m)) (sym nl)
      (subst (λ (x : Bool). Safe n (check x (λ u2. put_content s (Holds v) (λ u3. g next)) m)) (sym is)
      ((runs_put n s sh c (Holds v) g m Q e h).by next k)));
}

-- ---- structs are read

-- none of these is moved when it is read
abbrev pub Copied : List RunType → Type 0
Copied [] = Unit {0}
Copied (t ∷ ts) = (is_moved (shape_of t) ≡ false) × Copied ts

grown_itself : (w : Ghost) → Grown w w
grown_itself w = record { types = λ s t e. e; above = λ q r e. e }

pub runs_read_laid : {B : Type 0} (d : Tables) (n : ℕ) (w : Ghost) (m : Memory) (s : Spot) (ts : List RunType) (by : ℕ → Owner) (f : List Scalar → Act B)
    (Q : B → Memory → Type 0) → Inv d w m → m.state s.region ≡ Live → Laid w s ts → Copied ts
    → ((vs : List Scalar) → HaveTypes d w by vs ts → Runs n (f vs) m Q) → Runs n (read_cells (length (map shape_of ts)) s >>= f) m Q
runs_read_laid d n w m s [] by f Q i l h c k = record { by = λ next g. (k [] tt).by next g }
runs_read_laid d n w m s (t ∷ ts) by f Q i l h c k =
    let x : CellOk d w s (m.cells s) (Reached t) = i.cells s (Reached t) h.0 in
    let y : Full x.content (λ v. HasType d w (InCell s) v t) = x.ok in
    let there : cell_at m s ≡ Some (cell t (Holds y.value)) = seen m s _ l (x.is ∙ ap (λ (c : Content). Some (cell t c)) y.is) in
    let tail = runs_read_laid d n w m (beyond s 1) ts (λ j. by (suc j)) (λ vs. f (y.value ∷ vs)) Q i l h.1 c.1
    (λ vs hv. k (y.value ∷ vs) (copied_kept d w w (InCell s) (by 0) y.value t (grown_itself w) c.0 y.typed, hv)) in
    record {
      by = λ next g. (runs_read n s (shape_of t) y.value (λ v. read_cells (length (map shape_of ts)) (beyond s 1) >>= λ vs. f (v ∷ vs)) m Q there
          (record { by = λ next2 g2. tail.by next2 g2 })).by next g;
    }

-- ---- a value is stored to cells that pointers may reach

pub into_it : (s : Spot) (i c : ℕ) → into s i c (Flying i c) ≡ InCell s
into_it s i c = ap (λ (b : Bool). if b && nat_eq c c then InCell s else Flying i c) (eq-eqb i i refl)
    ∙ ap (λ (b : Bool). if b then InCell s else Flying i c) (eq-eqb c c refl)

into_later : (s : Spot) (i c j : ℕ) → (j ≡ c → ⊥) → into s i c (Flying i j) ≡ Flying i j
into_later s i c j n = elim (eqb_tells j c) [
  | inl e ↦ absurd (n e.1)
  | inr e ↦ if_cases (nat_eq i i && nat_eq j c) (InCell s) (Flying i j) (λ o. o ≡ Flying i j)
      (λ z. absurd (false≢true (sym e.0 ∙ both (nat_eq i i) (nat_eq j c) z))) (λ z. refl)
]
  where
    both : (a b : Bool) → a && b ≡ true → b ≡ true
    both true b h = h
    both false b h = absurd (false≢true h)

into_below : (s : Spot) (k c i j : ℕ) → i < k → into s k c (Flying i j) ≡ Flying i j
into_below s k c i j l = elim (eqb_tells i k) [
  | inl e ↦ absurd (let x = e.1 in omega (arith, l))
  | inr e ↦ ap (λ (b : Bool). if b && nat_eq j c then InCell s else Flying i j) e.0
]

-- the ghost and the memory after a cell got a value that was on its way
abbrev pub stored : Spot → ℕ → ℕ → Ghost → Ghost
stored s k c w = passing (into s k c) w

pub inv_stored : (d : Tables) (w : Ghost) (m : Memory) (s : Spot) (kept : Kept) (k c : ℕ) (v : Scalar) → Inv d w m → w.types s ≡ Some kept
    → HasType d w (Flying k c) v (type_of kept) → Inv d (stored s k c w) (with_cell m s (cell (type_of kept) (Holds v)))
inv_stored d w m s kept k c v i e h =
    inv_cells d w m (into s k c) (λ x. if same_spot x s then Some (cell (type_of kept) (Holds v)) else m.cells x) i (into_class s k c)
    (λ x q t. at_spot m.cells s (Some (cell (type_of kept) (Holds v))) x (λ z. CellOk d (stored s k c w) x z q)
    (λ z. let same : kept ≡ q = cc in subst (λ (y : Kept). CellOk d (stored s k c w) x (Some (cell (type_of kept) (Holds v))) y) same
    (subst (λ (y : Spot). CellOk d (stored s k c w) y (Some (cell (type_of kept) (Holds v))) kept) (sym z) (here kept h)))
    (λ z. cell_kept d w (stored s k c w) x (m.cells x) q (record
    { types = λ y u a. a; above = λ a b u. u; owner = λ b u. ap (into s k c) u; keyed = λ b u. refl }) (i.cells x q t)))
  where
    now : (t : RunType) → HasType d w (Flying k c) v t → HasType d (stored s k c w) (InCell s) v t
    now t x = value_kept d w (stored s k c w) (Flying k c) (InCell s) v t
        (record { types = λ y u a. a; above = λ a b u. u; owner = λ b u. ap (into s k c) u ∙ into_it s k c; keyed = λ b u. refl }) x

    here : (q : Kept) → HasType d w (Flying k c) v (type_of q) → CellOk d (stored s k c w) s (Some (cell (type_of q) (Holds v))) q
    here (Reached t) x = record { content = Holds v; is = refl; ok = record { value = v; is = refl; typed = now t x } }
    here (Private t) x = record {
      content = Holds v;
      is = refl;
      ok = λ u a. let z : v ≡ u =
          cc in subst (λ (y : Scalar). HasType d (stored s k c w) (InCell s) y t) z (now t x);
    }

pub grows_stored : (k b : ℕ) (w : Ghost) (m : Memory) (s : Spot) (kept : Kept) (c : ℕ) (x : Cell) → w.types s ≡ Some kept
    → ((j : ℕ) (t : RunType) → kept ≡ Private t → s.region ≡ Frame j → j < b → ⊥) → Grows k b w m (stored s k c w) (with_cell m s x)
grows_stored k b w m s kept c x e ours =
    grows_cells k b w m (into s k c) (λ y. if same_spot y s then Some x else m.cells y) (into_class s k c) (λ i j l. into_below s k c i j l) (λ i. refl)
    (λ y t j p l h. at_spot m.cells s (Some x) y (λ z. z ≡ m.cells y) (λ z. absurd (ours j t (private y t z h) (sym (ap (λ (u : Spot). u.region) z) ∙ p) l))
    (λ z. refl))
    (λ y h. at_spot m.cells s (Some x) y (λ z. z ≡ m.cells y) (λ z. absurd (none y z h)) (λ z. refl))
  where
    private : (y : Spot) (t : RunType) → y ≡ s → w.types y ≡ Some (Private t) → kept ≡ Private t
    private y t z h = let a = ap w.types z in cc

    none : (y : Spot) → y ≡ s → w.types y ≡ None → ⊥
    none y z h = let a = ap w.types z in cc

not_lent : (d : Tables) (w : Ghost) (s : Spot) (c : Content) (t : RunType) → ContentOk d w s c (Reached t) → is_lent c ≡ false
not_lent d w s c t h = ap is_lent h.is

pub runs_write_laid : {B : Type 0} (d : Tables) (n k b c : ℕ) (w : Ghost) (m : Memory) (s : Spot) (ts : List RunType) (vs : List Scalar) (g : Act B)
    (Q : B → Memory → Type 0) → Inv d w m → m.state s.region ≡ Live → Laid w s ts → HaveTypes d w (flying k c) vs ts
    → ((w' : Ghost) (m' : Memory) → Inv d w' m' → Grows k b w m w' m' → Runs n g m' Q) → Runs n (write_cells s vs >> g) m Q
runs_write_laid d n k b c w m s [] [] g Q i l h t r = record { by = λ next q. (r w m i (grows_refl k b w m)).by next q }
runs_write_laid d n k b c w m s (t ∷ ts) (v ∷ vs) g Q i l h hv r =
    let x : CellOk d w s (m.cells s) (Reached t) = i.cells s (Reached t) h.0 in
    let w1 : Ghost = stored s k c w in
    let m1 : Memory = with_cell m s (cell t (Holds v)) in
    let first : HasType d w (Flying k c) v t = subst (λ (q : ℕ). HasType d w (Flying k q) v t) (omega arith) hv.0 in
    let i1 : Inv d w1 m1 = inv_stored d w m s (Reached t) k c v i h.0 first in
    let g1 : Grows k b w m w1 m1 = grows_stored k b w m s (Reached t) c (cell t (Holds v)) h.0 (λ j u e p q. cc) in
    let rest : HaveTypes d w1 (flying k (suc c)) vs ts = values_kept d w w1 (λ j. flying k c (suc j)) (flying k (suc c)) vs ts (λ j. record {
      types = λ y u a. a;
      above = λ a q u. u;
      keyed = λ q u. refl;
      owner = λ q u. ap (into s k c) u ∙ into_later s k c (c + suc j) (λ e. omega arith) ∙ ap (Flying k) (omega arith);
    }) hv.1 in
    let tail = runs_write_laid d n k b (suc c) w1 m1 (beyond s 1) ts vs g Q i1 l (laid_kept w w1 (beyond s 1) ts (λ y u a. a) h.1) rest
    (λ w' m' i' g'. r w' m' i' (grows_trans g1 g')) in
    runs_write n s (shape_of t) x.content v (write_cells (beyond s 1) vs >> g) m Q (seen m s _ l x.is) (not_lent d w s x.content t x.ok)
    (typed_is d w (Flying k c) v t first) (record { by = λ next q. tail.by next q })
runs_write_laid d n k b c w m s [] (v ∷ vs) g Q i l h t r = absurd t
runs_write_laid d n k b c w m s (t ∷ ts) [] g Q i l h hv r = absurd hv
