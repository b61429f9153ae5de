-- Values that are given away: the source's cells are Gone then, where they can't be copied, and Core is as it was.
use Rattle.std.proofs.Common.{◌≡◌, ℕ, List, [], ◌∷◌, length, Bool, true, false, Some, None, refl, sym, ap, ◌∙◌, subst, arith}
use Rattle.std.specs.Prelude.{if◌then◌else◌}
use Rattle.source_meaning.specs.Shapes.{Shape}
use Rattle.source_meaning.specs.Memory as source
use Rattle.source_meaning.specs.Memory.{Scalar, Spot, Holds, Gone, Cell, is_live, any_moved, same_spot, with_cell}
use Rattle.source_meaning.specs.Steps as steps
use Rattle.source_meaning.specs.Steps.{World, give, ◌>>=◌, ◌>>◌}
use Rattle.source_meaning.specs.Values.{read_cells, take_cells, put_contents}
use Rattle.core_meaning.specs.Memory as core
use Rattle.core_meaning.specs.Core.{Program}
use Rattle.core_meaning.specs.Steps as core_steps
use Rattle.source_lowering.specs.Simulation.{AreCells, IsShown, kept_in, SameMemory, Bound, nothing, Grown, Same}
use Rattle.source_lowering.proofs.Runs.{stuck_same}
use Rattle.source_lowering.proofs.memory.Keeping.{Lasts, stays_self, later_self, later_on, shown_kept, shape_kept, unmade_kept, cell, content_in, IsUnlent}
use Rattle.source_lowering.proofs.memory.Keeping.{unlent_is, lent_kept}
use Rattle.source_lowering.proofs.memory.ObjectReads.{AllHeld, IsLiveFor, read_all}

-- the source's memory after values were given away
pub record Moved (w : World) (m : source.Memory) (c : core.Memory) (m' : source.Memory) : Type 0 where
  pub agree : SameMemory w m' c
  pub later : (b : Bound) → Grown b m c m' c

pub moved_self : (w : World) (m : source.Memory) (c : core.Memory) → SameMemory w m c → Moved w m c m
moved_self w m c a = record { agree = a; later = λ b. later_self b m c }

-- a cell gets another content, and no part changes
cell_later : (b : Bound) (m : source.Memory) (c : core.Memory) (s : Spot) (shape : Shape) (old new : source.Content) → m.cells s ≡ Some (cell shape old)
    → IsUnlent m s → Grown b m c (with_cell m s (cell shape new)) c
cell_later b m c s shape old new is free = record {
  shapes = shape_kept m s shape old new is;
  lent = lent_kept m s (cell shape new) free;
  parts = λ t j o w h. h;
  objects = λ k h. refl;
  begun = omega arith;
  called = omega arith;
  births = omega arith;
  stays = λ d less. stays_self _;
  stands = λ k h. refl;
  owned = λ k t j r h. refl;
}

no_value : (shape other : Shape) (x : source.Content) (v : Scalar) → kept_in x ≡ Some v → Some (cell shape Gone) ≡ Some (cell other x) → ⊥
no_value shape other x v keeps e = is_gone (ap kept_in (ap (content_in Gone) e) ∙ keeps)
  where
    is_gone : None ≡ Some v → ⊥
    is_gone f = cc f

-- what was given away isn't there any more
pub gone_agrees : (w : World) (m : source.Memory) (c : core.Memory) (s : Spot) (shape : Shape) (old : source.Content) → SameMemory w m c
    → m.cells s ≡ Some (cell shape old) → SameMemory w (with_cell m s (cell shape Gone)) c
gone_agrees w m c s shape old a is = record {
  cells = λ t other x v keeps h. by (same_spot t s) t other x v keeps refl h;
  live = a.live;
  activations = a.activations;
  unmade = unmade_kept m s shape old Gone is a.unmade;
  unentered = a.unentered;
  unbegun = a.unbegun;
  uncalled = a.uncalled;
  unowned = a.unowned;
  births = a.births;
  heap = a.heap;
  closed = a.closed;
  unborn = a.unborn;
  blocks = a.blocks;
  ungranted = a.ungranted;
}
  where
    m' : source.Memory
    m' = with_cell m s (cell shape Gone)

    later : Lasts m c m' c
    later = record { shapes = shape_kept m s shape old Gone is; parts = λ t j o x h. h; births = omega arith; stays = λ d less. stays_self _ }

    by : (b : Bool) (t : Spot) (other : Shape) (x : source.Content) (v : Scalar) → kept_in x ≡ Some v → same_spot t s ≡ b → m'.cells t ≡ Some (cell other x)
        → IsShown w m' c t other v
    by true t other x v keeps e h = absurd (no_value shape other x v keeps (sym (ap (λ b. if b then Some (cell shape Gone) else m.cells t) e) ∙ h))
    by false t other x v keeps e h =
        let one = a.cells t other x v keeps (sym (ap (λ b. if b then Some (cell shape Gone) else m.cells t) e) ∙ h) in
        record { contents = one.contents; shown = shown_kept w m m' c c other v one.contents later one.shown; held = one.held }

-- cells that aren't lent
abbrev pub AllUnlent : source.Memory → Spot → List Shape → Type 0
AllUnlent m s [] = Unit {0}
AllUnlent m s (x ∷ xs) = IsUnlent m s × AllUnlent m (source.beyond s 1) xs

held_unlent : (m : source.Memory) (s : Spot) (xs : List Shape) (vs : List Scalar) → AllHeld m s xs vs → AllUnlent m s xs
held_unlent m s [] [] h = tt
held_unlent m s [] (v ∷ vs) h = absurd h
held_unlent m s (x ∷ xs) [] h = absurd h
held_unlent m s (x ∷ xs) (v ∷ vs) h = (unlent_is m s x (Holds v) h.0 refl, held_unlent m (source.beyond s 1) xs vs h.1)

-- an object of one cell
pub held_one : (m : source.Memory) (s : Spot) (shape : Shape) (v : Scalar) (xs : List Shape) → xs ≡ shape ∷ []
    → m.cells s ≡ Some (record { shape = shape; content = Holds v }) → AllHeld m s xs (v ∷ [])
held_one m s shape v xs e h = subst (λ z. AllHeld m s z (v ∷ [])) (sym e) (h, tt)

-- they aren't lent when another one is Gone
gone_unlent : (m : source.Memory) (t : Spot) (x : Shape) (s : Spot) (xs : List Shape) → AllUnlent m s xs → AllUnlent (with_cell m t (cell x Gone)) s xs
gone_unlent m t x s [] h = tt
gone_unlent m t x s (y ∷ ys) h = (record { none = λ shape v e. by shape v (same_spot s t) refl e }, gone_unlent m t x (source.beyond s 1) ys h.1)
  where
    by : (shape : Shape) (v : Scalar) (b : Bool) → same_spot s t ≡ b → (with_cell m t (cell x Gone)).cells s ≡ Some (cell shape (source.Lent v)) → ⊥
    by shape v true e is = no_value x shape (source.Lent v) v refl (sym (ap (λ b. if b then Some (cell x Gone) else m.cells s) e) ∙ is)
    by shape v false e is = h.0.none shape v (sym (ap (λ b. if b then Some (cell x Gone) else m.cells s) e) ∙ is)

-- so many cells are Gone
pub gone_all : (w : World) (fs : Program) (n : ℕ) (xs : List Shape) (m0 m : source.Memory) (c : core.Memory) (t : Spot)
    (s : Unit {0} → source.Memory → steps.Step) (k : core_steps.Step) → AreCells m t xs → AllUnlent m t xs → Moved w m0 c m
    → ((m' : source.Memory) → Moved w m0 c m' → Same w fs n (s tt m') k) → Same w fs n (put_contents (length xs) t Gone s m) k
gone_all w fs n [] m0 m c t s k cells free moved go = go m moved
gone_all w fs n (x ∷ xs) m0 m c t s k cells free moved go =
    by (is_live m t.region) refl
    (gone_all w fs n xs m0 m' c (source.beyond t 1) s k (still (source.beyond t 1) xs cells.1) (gone_unlent m t x (source.beyond t 1) xs free.1) more go)
  where
    m' : source.Memory
    m' = with_cell m t (cell x Gone)

    later : (b : Bound) → Grown b m c m' c
    later b = cell_later b m c t x cells.0.content Gone cells.0.is free.0

    still : (u : Spot) (ys : List Shape) → AreCells m u ys → AreCells m' u ys
    still u [] h = tt
    still u (y ∷ ys) h = ((later nothing).shapes u y h.0, still (source.beyond u 1) ys h.1)

    more : Moved w m0 c m'
    more = record {
      agree = gone_agrees w m c t x cells.0.content moved.agree cells.0.is;
      later = λ b. later_on b m0 m m' c c c (moved.later b) (later b);
    }

    by : (b : Bool) → is_live m t.region ≡ b → Same w fs n (put_contents (length xs) (source.beyond t 1) Gone s m') k
        → Same w fs n (put_contents (length (x ∷ xs)) t Gone s m) k
    by false e rest = rw e (stuck_same w fs n k)
    by true e rest = rw (e, cells.0.is) rest

-- what can't be copied is moved out of its cells
abbrev pub moved_out : Bool → List Shape → Spot → steps.Act (Unit {0})
moved_out b shapes t = if b then put_contents (length shapes) t Gone else give tt

-- what is looked at, or given away
abbrev pub taking : Bool → List Shape → Spot → steps.Act (List Scalar)
taking b shapes t = read_cells (length shapes) t >>= λ vs. moved_out b shapes t >> give vs

pub out_same : (b : Bool) (w : World) (fs : Program) (n : ℕ) (xs : List Shape) (m : source.Memory) (c : core.Memory) (t : Spot) (vs : List Scalar)
    (s : Unit {0} → source.Memory → steps.Step) (k : core_steps.Step) → SameMemory w m c → AreCells m t xs → AllHeld m t xs vs
    → ((m' : source.Memory) → Moved w m c m' → Same w fs n (s tt m') k) → Same w fs n (moved_out b xs t s m) k
out_same true w fs n xs m c t vs s k a cells held go = gone_all w fs n xs m m c t s k cells (held_unlent m t xs vs held) (moved_self w m c a) go
out_same false w fs n xs m c t vs s k a cells held go = go m (moved_self w m c a)

-- an object is read, and given away
pub take_all : (w : World) (fs : Program) (n : ℕ) (xs : List Shape) (m : source.Memory) (c : core.Memory) (t : Spot)
    (s : List Scalar → source.Memory → steps.Step) (k : core_steps.Step) → SameMemory w m c → AreCells m t xs
    → ((vs : List Scalar) (m' : source.Memory) → AllHeld m t xs vs → IsLiveFor m t xs → Moved w m c m' → Same w fs n (s vs m') k)
    → Same w fs n (take_cells xs t s m) k
take_all w fs n xs m c t s k a cells go =
    read_all w fs n xs m t (λ vs. moved_out (any_moved xs) xs t (λ u. s vs)) k cells
    (λ vs held live. out_same (any_moved xs) w fs n xs m c t vs (λ u. s vs) k a cells held (λ m' moved. go vs m' held live moved))
