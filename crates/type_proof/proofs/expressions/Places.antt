-- Places are read: their cells are there, in a region that is live.
use Rattle.std.proofs.Common.{◌≡◌, ℕ, zero, suc, Bool, true, false, Some, List, [], ◌∷◌, refl, sym, ◌∙◌, ap, subst}
use Rattle.std.specs.Prelude.{map, length, if◌then◌else◌}
use Rattle.source_meaning.specs.Shapes.{Shape, UnsignedShape}
use Rattle.source_meaning.specs.Memory as memory
use Rattle.source_meaning.specs.Memory.{Spot, Scalar, Live, Memory, any_moved}
use Rattle.source_meaning.specs.Steps.{Scope, Act, give, ◌>>=◌, ◌>>◌}
use Rattle.source_meaning.specs.Conversions.{cells_of}
use Rattle.source_meaning.specs.Values.{read_cells, take_cells, put_contents, write_cells}
use Rattle.source_meaning.specs.Places.{place_sense}
use Rattle.source_typing.specs.Scope.{Env, Value, Seat, Nowhere, In, InBlock, is_place}
use Rattle.source_typing.specs.Types.{StaticType, Unsigned, renamed, shape_of}
use Rattle.source_typing.specs.Moves.{nothing, copy_if, place_use, value_use}
use Rattle.source_typing.specs.States.{States, Passed}
use Rattle.type_proof.specs.Flat.{Tables}
use Rattle.type_proof.proofs.invariant.Invariant.{RunType, Owner, InCell, Reached, Full, CellOk, Ghost, Laid, HasType, HaveTypes, Inv}
use Rattle.type_proof.proofs.invariant.Runs.{Safe, Runs, runs_bind}
use Rattle.type_proof.proofs.invariant.After.{After, flying, flight_kept, grows_base}
use Rattle.type_proof.proofs.invariant.Growth.{grows_refl, grows_trans, grows_less}
use Rattle.type_proof.proofs.invariant.Cells.{cell, seen, runs_read, Copied, runs_read_laid, runs_write_laid}
use Rattle.type_proof.proofs.invariant.Arguments.{Agrees}
use Rattle.type_proof.proofs.invariant.Names.{NameOf}
use Rattle.type_proof.proofs.invariant.Sound.{shape_renamed, Holder, Looked, cells_type, PlaceStands, Gives, Shows, Stores, FindsAny, Sound, gives_shows}
use Rattle.type_proof.proofs.invariant.Sound.{none_first}
use Rattle.type_proof.proofs.invariant.Sound.{none_second}
use Rattle.type_proof.proofs.invariant.Standing.{Standing, all_kept}
use Rattle.type_proof.proofs.invariant.Scenes.{IndexStands, Scene, scene_later, scene_more}

-- the cells from a spot on, as holders of rights
abbrev cells_from : Spot → ℕ → Owner
cells_from s zero = InCell s
cells_from s (suc j) = cells_from (memory.beyond s 1) j

cells_hold : (s : Spot) (j : ℕ) → Holder (cells_from s j)
cells_hold s zero = tt
cells_hold s (suc j) = cells_hold (memory.beyond s 1) j

-- cells that pointers may reach are looked at
runs_look_laid : {B : Type 0} (d : Tables) (n : ℕ) (w : Ghost) (m : Memory) (s : Spot) (ts : List RunType) (h : List Scalar → Act B) (Q : B → Memory → Type 0)
    → Inv d w m → m.state s.region ≡ Live → Laid w s ts → ((vs : List Scalar) → HaveTypes d w (cells_from s) vs ts → Runs n (h vs) m Q)
    → Runs n (read_cells (length (map shape_of ts)) s >>= h) m Q
runs_look_laid d n w m s [] h Q i l x k = record { by = λ next g. (k [] tt).by next g }
runs_look_laid d n w m s (t ∷ ts) h Q i l x k =
    let c : CellOk d w s (m.cells s) (Reached t) = i.cells s (Reached t) x.0 in
    let y : Full c.content (λ v. HasType d w (InCell s) v t) = c.ok in
    let there = seen m s (Some (cell t (memory.Holds y.value))) l (c.is ∙ ap (λ (z : memory.Content). Some (cell t z)) y.is) in
    let tail = runs_look_laid d n w m (memory.beyond s 1) ts (λ vs. h (y.value ∷ vs)) Q i l x.1 (λ vs hv. k (y.value ∷ vs) (y.typed, hv)) in
    let others : Scalar → Act _ = λ v. read_cells (length (map shape_of ts)) (memory.beyond s 1) >>= λ vs. h (v ∷ vs) in
    record { by = λ next g. (runs_read n s (shape_of t) y.value others m Q there (record { by = λ next2 g2. tail.by next2 g2 })).by next g }

pub none_moved : (ts : List RunType) → Copied ts → any_moved (map shape_of ts) ≡ false
none_moved [] h = refl
none_moved (t ∷ ts) h = ap (λ (x : Bool). if x then true else any_moved (map shape_of ts)) h.0 ∙ none_moved ts h.1

-- what would not be copied has a fault
pub uncopied : (c : Bool) (at : ℕ) (s : States) → (copy_if c at s).faults ≡ [] → (c ≡ false) × ((copy_if c at s).states ≡ s)
uncopied true at s e = absurd cc
uncopied false at s e = (refl, refl)

module _ (n : ℕ) (d : Tables) (g : Env) (scope : Scope) (f : NameOf → memory.Region) (b : ℕ) (low : ℕ) (agrees : Agrees scope.world d) where
  cells_are : (sh : Shape) (t : StaticType) → sh ≡ shape_of t → cells_of scope.world sh ≡ map shape_of (cells_type d f t)
  cells_are sh t e = ap (cells_of scope.world) (e ∙ sym (shape_renamed f t)) ∙ agrees (renamed f t)

  -- a place of a region, or in a block
  abbrev FindsThere : States → States → Seat → StaticType → Act Spot → Type 0
  FindsThere s s2 seat t act = (k : ℕ) (w : Ghost) (m : Memory) → Inv d w m → Scene d g scope f b low s k w m
      → Runs n act m (λ at. After d k b w m (λ w' m'. PlaceStands d f low false seat t at w' m' × Standing d g scope f s2 w' m'))

  -- its cells are reached
  reached_cells : (seat : Seat) (t : StaticType) (at : Spot) (w : Ghost) (m : Memory) → PlaceStands d f low false seat t at w m
      → Laid w at (cells_type d f t) × (m.state at.region ≡ Live)
  reached_cells Nowhere t at w m h = absurd h
  reached_cells (In r) t at w m h = (h.0.typed, h.1)
  reached_cells InBlock t at w m h = (h.0, h.1)

  -- a value is copied out of a place that pointers may reach
  pub gives_reached : (s s2 : States) (t : StaticType) (sh : Shape) (seat : Seat) (at : Act Spot) → sh ≡ shape_of t → Copied (cells_type d f t)
      → FindsThere s s2 seat t at → Gives n d g scope f b low s s2 t (place_sense scope.world sh at).value
  gives_reached s s2 t sh seat at e copied run = λ k w m i x.
      runs_bind n at (λ spot. take_cells (cells_of scope.world sh) spot) m
      (λ spot. After d k b w m (λ w' m'. PlaceStands d f low false seat t spot w' m' × Standing d g scope f s2 w' m'))
      (given k w m) (run k w m i x)
      (λ spot m1 y.
      let place : Laid y.ghost spot (cells_type d f t) × (m1.state spot.region ≡ Live) = reached_cells seat t spot y.ghost m1 y.holds.0 in
      subst (λ (cs : List Shape). Runs n (take_cells cs spot) m1 (given k w m)) (sym (cells_are sh t e))
      (runs_read_laid d n y.ghost m1 spot ts (flying k 0) (λ vs.
      (if any_moved (map shape_of ts) then put_contents (length (map shape_of ts)) spot memory.Gone else give tt) >> give vs)
      (given k w m) y.inv place.1 place.0 copied
      (λ vs hv. record {
        by = λ next q.
            subst (λ (z : Bool). Safe n (((if z then put_contents (length (map shape_of ts)) spot memory.Gone else give tt) >> give vs) next m1))
            (sym (none_moved ts copied))
            (q vs m1 (record { ghost = y.ghost; inv = y.inv; grows = y.grows; holds = (hv, y.holds.1) }));
      })))
    where
      ts : List RunType
      ts = cells_type d f t

      given : ℕ → Ghost → Memory → List Scalar → Memory → Type 0
      given k w m = λ vs. After d k b w m (λ w' m'. HaveTypes d w' (flying k 0) vs ts × Standing d g scope f s2 w' m')

  -- and looked at there
  pub shows_reached : (s s2 : States) (t : StaticType) (sh : Shape) (seat : Seat) (at : Act Spot) → sh ≡ shape_of t
      → FindsThere s s2 seat t at → Shows n d g scope f b low s s2 t (place_sense scope.world sh at).look
  shows_reached s s2 t sh seat at e run = λ k w m i x.
      runs_bind n at (λ spot. read_cells (length (cells_of scope.world sh)) spot) m
      (λ spot. After d k b w m (λ w' m'. PlaceStands d f low false seat t spot w' m' × Standing d g scope f s2 w' m')) (shown k w m) (run k w m i x)
      (λ spot m1 y.
      let place : Laid y.ghost spot (cells_type d f t) × (m1.state spot.region ≡ Live) = reached_cells seat t spot y.ghost m1 y.holds.0 in
      subst (λ (cs : List Shape). Runs n (read_cells (length cs) spot) m1 (shown k w m)) (sym (cells_are sh t e))
      (record {
        by = λ next q. (runs_look_laid d n y.ghost m1 spot ts (λ vs. give vs) (shown k w m) y.inv place.1 place.0
            (λ vs hv. record {
              by = λ next2 q2. q2 vs m1 (record {
                ghost = y.ghost;
                inv = y.inv;
                grows = y.grows;
                holds = (record { by = cells_from spot; holder = cells_hold spot; typed = hv }, y.holds.1);
              });
            })).by next q;
      }))
    where
      ts : List RunType
      ts = cells_type d f t

      shown : ℕ → Ghost → Memory → List Scalar → Memory → Type 0
      shown k w m = λ vs. After d k b w m (λ w' m'. Looked d w' vs ts × Standing d g scope f s2 w' m')

  -- a value is stored there: no local changes
  pub stores_reached : (s s2 : States) (t : StaticType) (seat : Seat) (at : Act Spot) → FindsThere s s2 seat t at → Stores n d g scope f b low s s2 t at
  stores_reached s s2 t seat at finds = λ k w m vs i x typed. record {
    by = λ next q. (finds (suc k) w m i (scene_more d g scope f b low s k w m x)).by (λ spot. (write_cells spot vs >> give tt) next) (λ spot m1 y.
        let place : Laid y.ghost spot (cells_type d f t) × (m1.state spot.region ≡ Live) = reached_cells seat t spot y.ghost m1 y.holds.0 in
        let x1 : Scene d g scope f b low s2 (suc k) y.ghost m1 =
        scene_later d g scope f b low s s2 (suc k) w m y.ghost m1 y.inv y.grows y.holds.1 (scene_more d g scope f b low s k w m x) in
        (runs_write_laid d n k m1.activations 0 y.ghost m1 spot (cells_type d f t) vs (give tt)
        (λ u. After d k b w m (λ w' m'. Standing d g scope f s2 w' m')) y.inv place.1 place.0
        (flight_kept d k b w m y.ghost m1 vs (cells_type d f t) i y.grows typed)
        (λ w2 m2 i2 g2. record {
          by = λ next2 q2. q2 tt m2 (record {
            ghost = w2;
            inv = i2;
            grows = grows_trans (grows_less y.grows) (grows_base x1.base g2);
            holds = all_kept g.tables d f k low m1.activations g.locals scope.locals s2 y.ghost m1 w2 m2 x1.rooms x1.inside g2 x1.stands;
          });
        })).by next q);
  }

  -- a place in the region of a name or in a block, that is no local
  pub sound_placed : (v : Value) (place : ℕ) (moves own : Bool) (p : States → Passed) (sh : Shape) (at : Act Spot) → sh ≡ shape_of v.type
      → (moves ≡ false → Copied (cells_type d f v.type)) → FindsAny n d g scope f b low p false v.seat v.type at
      → Sound n d g scope f b low v (place_use place moves own p) false (place_sense scope.world sh at)
  sound_placed v place moves own p sh at e copied run = record {
    shape = λ z. e;
    owned = λ z. absurd cc;
    value = λ y s z.
        let c : (moves ≡ false) × ((copy_if moves place (p s).states).states ≡ (p s).states) =
        uncopied moves place (p s).states (none_second (p s).faults (copy_if moves place (p s).states).faults z) in
        subst (λ (s2 : States). Gives n d g scope f b low s s2 v.type (place_sense scope.world sh at).value) (sym c.1)
        (gives_reached s (p s).states v.type sh v.seat at e (copied c.0) (run s (none_first (p s).faults (copy_if moves place (p s).states).faults z)));
    look = λ s z. shows_reached s (p s).states v.type sh v.seat at e (run s z);
    held = λ z. absurd cc;
    place = λ z. run;
    pointed = λ o r z. subst (λ (q : Seat). FindsAny n d g scope f b low p false q v.type at) z run;
    stores = λ y z s q. stores_reached s (p s).states v.type v.seat at (run s q);
  }

  -- a local that can be copied
  pub sound_copied : (v : Value) (p : States → Passed) (sh : Shape) (at : Act Spot) → sh ≡ shape_of v.type → Copied (cells_type d f v.type)
      → FindsAny n d g scope f b low p false v.seat v.type at → Sound n d g scope f b low v (value_use p) false (place_sense scope.world sh at)
  sound_copied v p sh at e copied run = record {
    shape = λ z. e;
    owned = λ z. absurd cc;
    value = λ y s z. gives_reached s (p s).states v.type sh v.seat at e copied (run s z);
    look = λ s z. shows_reached s (p s).states v.type sh v.seat at e (run s z);
    held = λ z. absurd cc;
    place = λ z. run;
    pointed = λ o r z. subst (λ (q : Seat). FindsAny n d g scope f b low p false q v.type at) z run;
    stores = λ y z s q. stores_reached s (p s).states v.type v.seat at (run s q);
  }

-- ---- the index of an element

module _ (n : ℕ) (d : Tables) (g : Env) (scope : Scope) (f : NameOf → memory.Region) (b : ℕ) (low : ℕ) where
  -- it is read where it lies
  gives_index : (at : Spot) → ((s : States) (k : ℕ) (w : Ghost) (m : Memory) → Scene d g scope f b low s k w m → IndexStands w m at) → (s : States)
      → Gives n d g scope f b low s s Unsigned (read_cells 1 at)
  gives_index at stands s = λ k w m i x.
      let z : IndexStands w m at = stands s k w m x in
      runs_read_laid d n w m at (Unsigned ∷ []) (flying k 0) (λ vs. give vs)
      (λ vs. After d k b w m (λ w' m'. HaveTypes d w' (flying k 0) vs (cells_type d f Unsigned) × Standing d g scope f s w' m')) i
      (ap m.state z.region ∙ z.live) (z.typed, tt) (refl, tt)
      (λ vs hv. record { by = λ next q. q vs m (record { ghost = w; inv = i; grows = grows_refl k b w m; holds = (hv, x.stands) }) })

  -- and is no place
  pub sound_index : (at : Spot) (v : Value) → ((s : States) (k : ℕ) (w : Ghost) (m : Memory) → Scene d g scope f b low s k w m → IndexStands w m at)
      → v.type ≡ Unsigned → v.seat ≡ Nowhere
      → Sound n d g scope f b low v (value_use nothing) false (place_sense scope.world UnsignedShape (give at))
  sound_index at v stands type seat = record {
    shape = λ z. ap shape_of (sym type);
    owned = λ z. absurd cc;
    value = λ y s z. subst (λ (t : StaticType). Gives n d g scope f b low s s t (read_cells 1 at)) (sym type) (gives_index at stands s);
    look = λ s z. subst (λ (t : StaticType). Shows n d g scope f b low s s t (read_cells 1 at)) (sym type)
        (gives_shows n d g scope f b low s s Unsigned (read_cells 1 at) (gives_index at stands s));
    held = λ z. absurd cc;
    place = λ z. absurd (let y = ap is_place seat in cc);
    pointed = λ o r z. absurd (let y : v.seat ≡ Nowhere = seat in cc);
    stores = λ y z. absurd (let u = ap is_place seat in cc);
  }
