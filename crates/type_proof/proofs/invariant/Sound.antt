-- What is promised of the meaning of an expression that is in order: it runs safely, and gives a value of its type.
use Rattle.std.proofs.Common.{◌≡◌, ℕ, ◌<◌, ◌≤◌, Bool, true, false, Some, List, [], ◌∷◌, ◌++◌, refl, sym, ◌∙◌, ap, arith}
use Rattle.source_meaning.specs.Shapes as shapes
use Rattle.source_meaning.specs.Shapes.{Shape}
use Rattle.source_meaning.specs.Memory as memory
use Rattle.source_meaning.specs.Memory.{Region, Frame, Spot, Scalar, Holds, Live, Memory}
use Rattle.source_meaning.specs.Steps.{Scope, Act, give, ◌>>=◌, ◌>>◌}
use Rattle.source_meaning.specs.Values.{write_cells}
use Rattle.source_meaning.specs.Places.{Sense, value_sense}
use Rattle.source_typing.specs.Moves.{Use, nothing, value_use}
use Rattle.source_typing.specs.Scope.{Env, Value, Seat, Nowhere, In, InBlock, is_place}
use Rattle.source_typing.specs.States.{States, Passed, then_passed}
use Rattle.source_typing.specs.Types.{TypeIn, Int, Unsigned, Char, Void, Null, Thin, Fat, Unique, Handle, Key, Struct, Union, StaticType, renamed, shape_of}
use Rattle.type_proof.specs.Flat.{Tables}
use Rattle.type_proof.proofs.invariant.Invariant.{RunType, Owner, Nobody, Flying, Returned, Pinned, InCell, Freed, Private, Ghost, Laid, Reaches, HaveTypes}
use Rattle.type_proof.proofs.invariant.Invariant.{Inv}
use Rattle.type_proof.proofs.invariant.Growth.{grows_refl}
use Rattle.type_proof.proofs.invariant.Cells.{cell}
use Rattle.type_proof.proofs.invariant.Runs.{Runs}
use Rattle.type_proof.proofs.invariant.After.{After, flying, grows_base}
use Rattle.type_proof.proofs.invariant.Names.{NameOf}
pub use Rattle.type_proof.proofs.invariant.Alikes.{cells_type}
use Rattle.type_proof.proofs.invariant.Rights.{HeldAt, Ours}
use Rattle.type_proof.proofs.invariant.Standing.{Standing}
use Rattle.type_proof.proofs.invariant.Scenes.{Scene, stands_kept}

-- regions have no part in shapes
pub shape_renamed : {R S : Type 0} (f : R → S) (t : TypeIn R) → shape_of (renamed f t) ≡ shape_of t
shape_renamed f Int = refl
shape_renamed f Unsigned = refl
shape_renamed f Char = refl
shape_renamed f Void = refl
shape_renamed f Null = refl
shape_renamed f (Thin n r t) = ap (λ (s : Shape). shapes.ThinShape n shapes.Shared s) (shape_renamed f t)
shape_renamed f (Fat r t) = ap shapes.FatShape (shape_renamed f t)
shape_renamed f (Unique n t) = ap (λ (s : Shape). shapes.ThinShape (shapes.single n) shapes.Alone s) (shape_renamed f t)
shape_renamed f (Handle r) = refl
shape_renamed f (Key r) = refl
shape_renamed f (Struct tag rs) = refl
shape_renamed f (Union tag rs) = refl

-- who may hold a right while a value is looked at: a cell, or a value on its way
abbrev pub Holder : Owner → Type 0
Holder Nobody = ⊥
Holder (Flying i c) = Unit {0}
Holder (Returned c) = Unit {0}
Holder (InCell s) = Unit {0}
Holder (Pinned i) = ⊥
Holder Freed = ⊥

-- a value of several cells that is looked at
pub record Looked (d : Tables) (w : Ghost) (vs : List Scalar) (ts : List RunType) : Type 0 where
  pub by : ℕ → Owner
  pub holder : (j : ℕ) → Holder (by j)
  pub typed : HaveTypes d w by vs ts

pub looked : (d : Tables) (w : Ghost) (vs : List Scalar) (ts : List RunType) (k : ℕ) → HaveTypes d w (flying k 0) vs ts → Looked d w vs ts
looked d w vs ts k h = record { by = flying k 0; holder = λ j. tt; typed = h }

-- a place of a type in the region of a name
abbrev pub PlaceOk : Tables → (NameOf → Region) → StaticType → NameOf → Spot → Ghost → Memory → Type 0
PlaceOk d f t r at w m = Reaches d w at (f r) (renamed f t) × (m.state at.region ≡ Live)

-- a private cell's region: a block of the function
pub record InOwn (low : ℕ) (at : Spot) (m : Memory) : Type 0 where
  pub frame : ℕ
  pub region : at.region ≡ Frame frame
  pub known : frame < m.activations
  pub own : low ≤ frame

-- a place in the block to which the pointer in such a cell leads
pub record Anchored (w : Ghost) (m : Memory) (at : Spot) : Type 0 where
  pub holder : Spot
  pub nullable : Bool
  pub to : RunType
  pub typed : w.types holder ≡ Some (Private (Unique nullable to))
  pub pointer : Spot
  pub holds : m.cells holder ≡ Some (cell (Unique nullable to) (Holds (memory.Thin (Some pointer))))
  pub same : at.region ≡ pointer.region
  pub frame : ℕ
  pub lies : holder.region ≡ Frame frame
  pub known : frame < m.activations

-- A place, by whether it is a part of a local that can't be copied, and by its seat: a region's, a block's, or private cells that hold a value.
abbrev pub PlaceStands : Tables → (NameOf → Region) → ℕ → Bool → Seat → StaticType → Spot → Ghost → Memory → Type 0
PlaceStands d f low false Nowhere t at w m = ⊥
PlaceStands d f low false (In r) t at w m = PlaceOk d f t r at w m
PlaceStands d f low false InBlock t at w m = Laid w at (cells_type d f t) × (m.state at.region ≡ Live) × Anchored w m at
PlaceStands d f low true seat t at w m = (vs : List Scalar) × HeldAt w m at (cells_type d f t) vs × (m.state at.region ≡ Live) × InOwn low at m

-- private cells that may be touched
pub in_own_ours : (b : ℕ) (low : ℕ) (at : Spot) (m : Memory) → b ≤ low → InOwn low at m → Ours b at
in_own_ours b low at m is h = λ j e l.
    let own : low ≤ h.frame = h.own in
    let same : h.frame ≡ j = (let z : Frame h.frame ≡ Frame j = sym h.region ∙ e in cc) in
    omega (arith, l, is, own, same)

module _ (n : ℕ) (d : Tables) (g : Env) (scope : Scope) (f : NameOf → Region) (b : ℕ) (low : ℕ) where
  -- ---- from one list of states to another

  abbrev pub Gives : States → States → StaticType → Act (List Scalar) → Type 0
  Gives s s' t act = (k : ℕ) (w : Ghost) (m : Memory) → Inv d w m → Scene d g scope f b low s k w m
      → Runs n act m (λ vs. After d k b w m (λ w' m'. HaveTypes d w' (flying k 0) vs (cells_type d f t) × Standing d g scope f s' w' m'))

  abbrev pub Shows : States → States → StaticType → Act (List Scalar) → Type 0
  Shows s s' t act = (k : ℕ) (w : Ghost) (m : Memory) → Inv d w m → Scene d g scope f b low s k w m
      → Runs n act m (λ vs. After d k b w m (λ w' m'. Looked d w' vs (cells_type d f t) × Standing d g scope f s' w' m'))

  -- what is looked at lies in private cells of the function
  abbrev pub ShowsHeld : States → States → StaticType → Act (List Scalar) → Type 0
  ShowsHeld s s' t act = (k : ℕ) (w : Ghost) (m : Memory) → Inv d w m → Scene d g scope f b low s k w m
      → Runs n act m (λ vs. After d k b w m
      (λ w' m'. ((at : Spot) × HeldAt w' m' at (cells_type d f t) vs × InOwn low at m') × Standing d g scope f s' w' m'))

  -- a place in the region of a name
  abbrev pub Finds : States → States → StaticType → NameOf → Act Spot → Type 0
  Finds s s' t r act = (k : ℕ) (w : Ghost) (m : Memory) → Inv d w m → Scene d g scope f b low s k w m
      → Runs n act m (λ at. After d k b w m (λ w' m'. PlaceOk d f t r at w' m' × Standing d g scope f s' w' m'))

  -- a value on its way is stored to a place, which is found after it
  abbrev pub Stores : States → States → StaticType → Act Spot → Type 0
  Stores s s' t place = (k : ℕ) (w : Ghost) (m : Memory) (vs : List Scalar) → Inv d w m → Scene d g scope f b low s k w m
      → HaveTypes d w (flying k 0) vs (cells_type d f t)
      → Runs n (place >>= λ at. write_cells at vs >> give (tt {0})) m (λ u. After d k b w m (λ w' m'. Standing d g scope f s' w' m'))

  -- ---- by what the rules of flow say of a use: from all states from which it has no fault

  abbrev pub GivesBy : (States → Passed) → StaticType → Act (List Scalar) → Type 0
  GivesBy p t act = (s : States) → (p s).faults ≡ [] → Gives s (p s).states t act

  abbrev pub ShowsBy : (States → Passed) → StaticType → Act (List Scalar) → Type 0
  ShowsBy p t act = (s : States) → (p s).faults ≡ [] → Shows s (p s).states t act

  abbrev pub FindsBy : (States → Passed) → StaticType → NameOf → Act Spot → Type 0
  FindsBy p t r act = (s : States) → (p s).faults ≡ [] → Finds s (p s).states t r act

  abbrev pub StoresBy : (States → Passed) → StaticType → Act Spot → Type 0
  StoresBy p t place = (s : States) → (p s).faults ≡ [] → Stores s (p s).states t place

  -- a place of any kind
  abbrev pub FindsAny : (States → Passed) → Bool → Seat → StaticType → Act Spot → Type 0
  FindsAny p own seat t act = (s : States) → (p s).faults ≡ [] → (k : ℕ) (w : Ghost) (m : Memory) → Inv d w m → Scene d g scope f b low s k w m
      → Runs n act m (λ at. After d k b w m (λ w' m'. PlaceStands d f low own seat t at w' m' × Standing d g scope f (p s).states w' m'))

  -- What is promised of a meaning, where the expression was judged to be this, is used so, and is, or isn't, a part of a local that can't be copied; what gives
  -- nothing may have any shape. Values are moved, and places stored to, only where the function's private cells may be touched.
  pub record Sound (v : Value) (u : Use) (own : Bool) (e : Sense) : Type 0 where
    pub shape : (v.type ≡ Void → ⊥) → e.shape ≡ shape_of v.type
    pub owned : own ≡ true → u.own ≡ true
    pub value : b ≤ low → GivesBy u.value v.type e.value
    pub look : ShowsBy u.look v.type e.look
    -- as what a unique pointer is dereferenced
    pub held : u.whole ≡ true → (s : States) → (u.look s).faults ≡ [] → ShowsHeld s (u.look s).states v.type e.look
    -- as what a member is of
    pub place : is_place v.seat ≡ true → FindsAny u.look own v.seat v.type e.place
    -- as what `&` points to
    pub pointed : u.own ≡ false → (r : NameOf) → v.seat ≡ In r → FindsBy u.place v.type r e.place
    -- as what is assigned
    pub stores : b ≤ low → is_place v.seat ≡ true → StoresBy u.target v.type e.place

  -- what is given may be looked at
  pub gives_shows : (s s' : States) (t : StaticType) (act : Act (List Scalar)) → Gives s s' t act → Shows s s' t act
  gives_shows s s' t act h = λ k w m i x. record {
    by = λ next q. (h k w m i x).by next (λ vs m' y. q vs m' (record {
      ghost = y.ghost;
      inv = y.inv;
      grows = y.grows;
      holds = (looked d y.ghost vs (cells_type d f t) k y.holds.0, y.holds.1);
    }));
  }

  no_place : (v : Value) (A : Type 0) → v.seat ≡ Nowhere → is_place v.seat ≡ true → A
  no_place v A e h = absurd (let z = ap is_place e in cc)

  -- an expression that is no place
  pub sound_value : (v : Value) (p : States → Passed) (s : Shape) (act : Act (List Scalar)) → ((v.type ≡ Void → ⊥) → s ≡ shape_of v.type) → v.seat ≡ Nowhere
      → GivesBy p v.type act → Sound v (value_use p) false (value_sense s act)
  sound_value v p s act e seat h = record {
    shape = e;
    owned = λ z. absurd cc;
    value = λ z. h;
    look = λ st q. gives_shows st (p st).states v.type act (h st q);
    held = λ z. absurd cc;
    place = λ z. no_place v (FindsAny p false v.seat v.type (value_sense s act).place) seat z;
    pointed = λ o r z. absurd (let y : v.seat ≡ Nowhere = seat in cc);
    stores = λ z y. no_place v (StoresBy p v.type (value_sense s act).place) seat y;
  }

  -- a value that is just given
  pub gives_at_once : (t : StaticType) (vs : List Scalar) → ((k : ℕ) (w : Ghost) → HaveTypes d w (flying k 0) vs (cells_type d f t))
      → GivesBy nothing t (give vs)
  gives_at_once t vs h = λ s e k w m i x.
      record { by = λ next q. q vs m (record { ghost = w; inv = i; grows = grows_refl k b w m; holds = (h k w, x.stands) }) }

  -- What is promised from all activations so far on, and not of states, changes no local.
  pub gives_kept : (s : States) (t : StaticType) (act : Act (List Scalar))
      → ((k : ℕ) (w : Ghost) (m : Memory) → Inv d w m → Scene d g scope f b low s k w m
      → Runs n act m (λ vs. After d k m.activations w m (λ w' m'. HaveTypes d w' (flying k 0) vs (cells_type d f t))))
      → Gives s s t act
  gives_kept s t act h = λ k w m i x. record {
    by = λ next q. (h k w m i x).by next (λ vs m' y. q vs m' (record {
      ghost = y.ghost;
      inv = y.inv;
      grows = grows_base x.base y.grows;
      holds = (y.holds, stands_kept d g scope f b low s k w m y.ghost m' x y.grows);
    }));
  }

-- ---- lists of faults

pub none_first : {A : Type 0} (xs ys : List A) → xs ++ ys ≡ [] → xs ≡ []
none_first [] ys e = refl
none_first (x ∷ xs) ys e = absurd cc

pub none_second : {A : Type 0} (xs ys : List A) → xs ++ ys ≡ [] → ys ≡ []
none_second [] ys e = e
none_second (x ∷ xs) ys e = absurd cc

-- no fault of two phrases is none of the first, and none of the second from where the first leaves
pub passed_first : (p q : States → Passed) (s : States) → (then_passed (p s) q).faults ≡ [] → (p s).faults ≡ []
passed_first p q s e = none_first (p s).faults (q (p s).states).faults e

pub passed_second : (p q : States → Passed) (s : States) → (then_passed (p s) q).faults ≡ [] → (q (p s).states).faults ≡ []
passed_second p q s e = none_second (p s).faults (q (p s).states).faults e
