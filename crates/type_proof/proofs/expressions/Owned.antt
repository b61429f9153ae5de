-- Places that are a part of a local that can't be copied: found while it is held, read and stored with it held before and after.
use Rattle.std.proofs.Common.{◌≡◌, ℕ, suc, ◌≤◌, ◌+◌, Bool, true, false, ◌⊎◌, inl, inr, Option, Some, List, [], ◌∷◌, ◌++◌, refl, sym, ◌∙◌, ap, subst, arith}
use Rattle.std.proofs.lemmas.Bool.{false≢true}
use Rattle.std.specs.Prelude.{map, length, if◌then◌else◌}
use Rattle.cyc_tree.specs.Tree as tree
use Rattle.source_meaning.specs.Shapes.{Shape}
use Rattle.source_meaning.specs.Memory as memory
use Rattle.source_meaning.specs.Memory.{Region, Spot, Scalar, Holds, Live, Memory, any_moved, with_cell, beyond}
use Rattle.source_meaning.specs.Steps.{Entity, Variable, Scope, Act, ◌>>=◌, ◌>>◌, give}
use Rattle.source_meaning.specs.Conversions.{cells_of}
use Rattle.source_meaning.specs.Values.{take_cells, read_cells, write_cells, put_contents}
use Rattle.source_meaning.specs.Places.{Sense, place_sense, bound_to, entity_sense, entity_of}
use Rattle.source_typing.specs.Moves.{local_use, copy_if, place_use}
use Rattle.source_typing.specs.Regions.{TheHeap}
use Rattle.source_typing.specs.Scope.{Env, Value, Seat}
use Rattle.source_typing.specs.States.{State, Held, States, Passed, state_of, with_state, unless_lent}
use Rattle.source_typing.specs.Types.{renamed, Int, Unsigned, Char, Void, Null, Thin, Fat, Unique, Handle, Key, Struct, Union, StaticType, shape_of}
use Rattle.type_proof.specs.Flat.{Tables}
use Rattle.type_proof.proofs.invariant.Facts.{at_spot, further, not_further}
use Rattle.type_proof.proofs.invariant.Invariant.{RunType, Private, Flying, Ghost, HasType, HaveTypes, Inv, Grows}
use Rattle.type_proof.proofs.invariant.Invariant as invariant
use Rattle.type_proof.proofs.invariant.Values.{values_kept}
use Rattle.type_proof.proofs.invariant.Moves.{into}
use Rattle.type_proof.proofs.invariant.Growth.{grows_refl, grows_trans, grows_less}
use Rattle.type_proof.proofs.invariant.Runs.{Runs, Safe}
use Rattle.type_proof.proofs.invariant.After.{After, flying, flight_kept}
use Rattle.type_proof.proofs.invariant.Arguments.{Agrees}
use Rattle.type_proof.proofs.invariant.Cells.{cell, seen, typed_is, runs_write, stored, inv_stored, grows_stored, Copied}
use Rattle.type_proof.proofs.invariant.Names.{NameOf}
use Rattle.type_proof.proofs.invariant.Sound.{InOwn, in_own_ours, Looked, ShowsHeld, shape_renamed, cells_type, PlaceStands, GivesBy, ShowsBy, FindsAny}
use Rattle.type_proof.proofs.invariant.Sound.{StoresBy, Sound, none_first, none_second}
use Rattle.type_proof.proofs.invariant.Scenes.{Scene, scene_more}
use Rattle.type_proof.proofs.invariant.Rights.{Ours, HeldAt, runs_read_held}
use Rattle.type_proof.proofs.invariant.LocalCells.{Whole}
use Rattle.type_proof.proofs.invariant.InRooms.{InFrame, room_found, in_frame}
use Rattle.type_proof.proofs.invariant.Standing.{Standing}
use Rattle.type_proof.proofs.invariant.Moving.{into_later}
use Rattle.type_proof.proofs.expressions.Uses.{Own, Setting, bound_here, gives_moved, shows_held, runs_assigned, copied_flies, looked_held, alive, here}
use Rattle.type_proof.proofs.expressions.Uses.{held_by, now, means}
use Rattle.type_proof.proofs.expressions.Places.{none_moved, uncopied}
use Rattle.type_proof.proofs.expressions.Rewriting.{Rewritten, Rewrites, held_again, all_again}

-- ---- a part of cells that are held

-- those behind the first ones
held_behind : (w : Ghost) (m : Memory) (s : Spot) (ts us : List RunType) (vs : List Scalar) → HeldAt w m s (ts ++ us) vs
    → (others : List Scalar) × HeldAt w m (beyond s (length ts)) us others
held_behind w m s [] us vs h = (vs, subst (λ (y : Spot). HeldAt w m y us vs) (sym (not_further s)) h)
held_behind w m s (t ∷ ts) us (v ∷ vs) h =
    let r : (others : List Scalar) × HeldAt w m (beyond (beyond s 1) (length ts)) us others = held_behind w m (beyond s 1) ts us vs h.2 in
    (r.0, subst (λ (y : Spot). HeldAt w m y us r.0) (further s 1 (length ts) (suc (length ts)) (omega arith)) r.1)
held_behind w m s (t ∷ ts) us [] h = absurd h

held_before : (w : Ghost) (m : Memory) (s : Spot) (ts us : List RunType) (vs : List Scalar) → HeldAt w m s (ts ++ us) vs → (first : List Scalar)
    × HeldAt w m s ts first
held_before w m s [] us vs h = ([], tt)
held_before w m s (t ∷ ts) us (v ∷ vs) h =
    let r : (first : List Scalar) × HeldAt w m (beyond s 1) ts first = held_before w m (beyond s 1) ts us vs h.2 in (v ∷ r.0, (h.0, h.1, r.1))
held_before w m s (t ∷ ts) us [] h = absurd h

-- a member's cells among those of the members one after another
pub held_part : (w : Ghost) (m : Memory) (s : Spot) (first part others : List RunType) (vs : List Scalar) → HeldAt w m s (first ++ (part ++ others)) vs
    → (us : List Scalar) × HeldAt w m (beyond s (length first)) part us
held_part w m s first part others vs h =
    let r : (us : List Scalar) × HeldAt w m (beyond s (length first)) (part ++ others) us = held_behind w m s first (part ++ others) vs h in
    held_before w m (beyond s (length first)) part others r.0 r.1

-- ---- values are stored to cells that are held

pub rewrites_refl : (w : Ghost) (m : Memory) → Rewrites w m w m
rewrites_refl w m = record { types = λ y k e. e; cells = λ y t e. inl refl }

pub rewrites_trans : (w : Ghost) (m : Memory) (w1 : Ghost) (m1 : Memory) (w2 : Ghost) (m2 : Memory) → Rewrites w m w1 m1 → Rewrites w1 m1 w2 m2
    → Rewrites w m w2 m2
rewrites_trans w m w1 m1 w2 m2 a b = record {
  types = λ y k e. b.types y k (a.types y k e);
  cells = λ y t e. by y t (a.cells y t e) (b.cells y t (a.types y (Private t) e));
}
  where
    by : (y : Spot) (t : RunType) → (m1.cells y ≡ m.cells y) ⊎ Rewritten m m1 y t → (m2.cells y ≡ m1.cells y) ⊎ Rewritten m1 m2 y t → (m2.cells y ≡ m.cells y)
        ⊎ Rewritten m m2 y t
    by y t (inl p) (inl q) = inl (q ∙ p)
    by y t (inl p) (inr q) = inr (record { before = q.before; after = q.after; had = sym p ∙ q.had; has = q.has })
    by y t (inr p) (inl q) = inr (record { before = p.before; after = p.after; had = p.had; has = q ∙ p.has })
    by y t (inr p) (inr q) = inr (record { before = p.before; after = q.after; had = p.had; has = q.has })

rewrites_one : (k c : ℕ) (w : Ghost) (m : Memory) (s : Spot) (t : RunType) (u v : Scalar) → w.types s ≡ Some (Private t) → m.cells s ≡ Some (cell t (Holds u))
    → Rewrites w m (stored s k c w) (with_cell m s (cell t (Holds v)))
rewrites_one k c w m s t u v typed holds = record {
  types = λ y q e. e;
  cells = λ y q e. at_spot m.cells s (Some (cell t (Holds v))) y (λ o. (with_cell m s (cell t (Holds v))).cells y ≡ o
      → ((with_cell m s (cell t (Holds v))).cells y ≡ m.cells y) ⊎ Rewritten m (with_cell m s (cell t (Holds v))) y q)
      (λ is after. inr (by y q is e after)) (λ other after. inl after) refl;
}
  where
    by : (y : Spot) (q : RunType) → y ≡ s → w.types y ≡ Some (Private q) → (with_cell m s (cell t (Holds v))).cells y ≡ Some (cell t (Holds v))
        → Rewritten m (with_cell m s (cell t (Holds v))) y q
    by y q is e after =
        let same : t ≡ q = (let a : Some (Private t) ≡ Some (Private q) = sym typed ∙ sym (ap w.types is) ∙ e in let z : Private t ≡ Private q =
        cc in ap invariant.type_of z) in
        subst (λ (z : RunType). Rewritten m (with_cell m s (cell t (Holds v))) y z) same
        (record { before = u; after = v; had = ap m.cells is ∙ holds; has = after })

pub runs_write_held : {B : Type 0} (d : Tables) (n k b c : ℕ) (w : Ghost) (m : Memory) (s : Spot) (ts : List RunType) (us vs : List Scalar) (g : Act B)
    (Q : B → Memory → Type 0) → Inv d w m → m.state s.region ≡ Live → Ours b s → HeldAt w m s ts us → HaveTypes d w (flying k c) vs ts
    → ((w' : Ghost) (m' : Memory) → Inv d w' m' → Grows k b w m w' m' → Rewrites w m w' m' → Runs n g m' Q)
    → Runs n (write_cells s vs >> g) m Q
runs_write_held d n k b c w m s [] us [] g Q i l o h t r = record { by = λ next q. (r w m i (grows_refl k b w m) (rewrites_refl w m)).by next q }
runs_write_held d n k b c w m s (t ∷ ts) (u ∷ us) (v ∷ vs) g Q i l o h hv r =
    let w1 : Ghost = stored s k c w in
    let m1 : Memory = with_cell m s (cell t (Holds v)) in
    let first : HasType d w (Flying k c) v t = subst (λ (q : ℕ). HasType d w (Flying k q) v t) (omega arith) hv.0 in
    let i1 : Inv d w1 m1 = inv_stored d w m s (Private t) k c v i h.0 first in
    let g1 : Grows k b w m w1 m1 = grows_stored k b w m s (Private t) c (cell t (Holds v)) h.0 (λ j u e p q. o j p q) in
    let rest : HaveTypes d w1 (flying k (suc c)) vs ts = values_kept d w w1 (λ j. flying k c (suc j)) (flying k (suc c)) vs ts (λ j. record {
      types = λ y u a. a;
      above = λ a q u. u;
      keyed = λ q u. refl;
      owner = λ q u. ap (into s k c) u ∙ into_later s k c (c + suc j) (λ e. omega arith) ∙ ap (Flying k) (omega arith);
    }) hv.1 in
    let one : Rewrites w m w1 m1 = rewrites_one k c w m s t u v h.0 h.1 in
    let others : Whole w1 m1 (beyond s 1) ts = held_again w m w1 m1 one (beyond s 1) ts us h.2 in
    let tail = runs_write_held d n k b (suc c) w1 m1 (beyond s 1) ts others.values vs g Q i1 l o others.held rest
    (λ w' m' i' g' z. r w' m' i' (grows_trans g1 g') (rewrites_trans w m w1 m1 w' m' one z)) in
    runs_write n s (shape_of t) (Holds u) v (write_cells (beyond s 1) vs >> g) m Q (seen m s _ l h.1) refl
    (typed_is d w (Flying k c) v t first) (record { by = λ next q. tail.by next q })
runs_write_held d n k b c w m s [] us (v ∷ vs) g Q i l o h t r = absurd t
runs_write_held d n k b c w m s (t ∷ ts) us [] g Q i l o h hv r = absurd hv
runs_write_held d n k b c w m s (t ∷ ts) [] (v ∷ vs) g Q i l o h hv r = absurd h

-- ---- places

module _ (n : ℕ) (d : Tables) (g : Env) (scope : Scope) (f : NameOf → Region) (b : ℕ) (low : ℕ) (agrees : Agrees scope.world d) where
  pub setting : (s : States) (k : ℕ) (w : Ghost) (m : Memory) → Scene d g scope f b low s k w m → Setting d g scope f b low
  setting s k w m x = record {
    alongside = x.alongside;
    rooms = x.rooms;
    agrees = agrees;
    own = λ y t at e j r. room_found low scope.locals y (shape_of t) at x.rooms e j r;
  }

  -- its cells lie in a block of the function
  pub in_own : (x : tree.Name) (t : StaticType) (o : Own d g scope f x.text t) (s : States) (k : ℕ) (w : Ghost) (m : Memory) → Scene d g scope f b low s k w m
      → InOwn low o.at m
  in_own x t o s k w m q =
      let z : Setting d g scope f b low = setting s k w m q in
      let bound : bound_to scope.locals x.text ≡ Some (Variable (shape_of t) o.at) = bound_here n d g scope f b low z x t o in
      let r : InFrame m.activations low o.at =
      in_frame m.activations low scope.locals x.text (shape_of t) o.at q.rooms q.inside bound in
      record { frame = r.frame; region = r.region; known = r.known; own = r.own }

  -- the local by its name, as what a member is of: it is held
  finds_held : (x : tree.Name) (t : StaticType) (seat : Seat) → Own d g scope f x.text t
      → FindsAny n d g scope f b low (local_use g.locals x).look true seat t (entity_sense scope.world (entity_of scope x.text)).place
  finds_held x t seat o s e k w m i q =
      let z : Setting d g scope f b low = setting s k w m q in
      subst (λ (a : Sense). Runs n a.place m (λ at. After d k b w m
      (λ w' m'. PlaceStands d f low true seat t at w' m' × Standing d g scope f ((local_use g.locals x).look s).states w' m')))
      (sym (means n d g scope f b low z x t o))
      (let h : Whole w m o.at (cells_type d f t) × ((c : State) → unless_lent (state_of g.locals x.text s) c ≡ c) =
      held_by n d g scope f b low z x t o x.at (state_of g.locals x.text s) w m (here n d g scope f b low z x t o s w m q.stands) e in
      record {
        by = λ next r. r o.at m (record {
          ghost = w;
          inv = i;
          grows = grows_refl k b w m;
          holds = (
            (h.0.values, h.0.held, alive n d g scope f b low z x t o k w m q.names, in_own x t o s k w m q),
            subst (λ (a : State). Standing d g scope f (with_state g.locals x.text a s) w m) (sym (h.1 Held))
                (now n d g scope f b low z x t o s Held w m w m q.stands (record { types = λ y q u. u; cells = λ y u q v. refl }) h.0),
          );
        });
      })

  -- the local by its name, as what is dereferenced
  shows_whole : (x : tree.Name) (t : StaticType) → (o : Own d g scope f x.text t) → (s : States) → ((local_use g.locals x).look s).faults ≡ []
      → ShowsHeld n d g scope f b low s ((local_use g.locals x).look s).states t (entity_sense scope.world (entity_of scope x.text)).look
  shows_whole x t o s e k w m i q =
      let z : Setting d g scope f b low = setting s k w m q in
      let ts : List RunType = cells_type d f t in
      let cells : cells_of scope.world (shape_of t) ≡ map shape_of ts =
      ap (cells_of scope.world) (sym (shape_renamed f t)) ∙ agrees (renamed f t) in
      let post : List Scalar → Memory → Type 0 = (λ vs. After d k b w m
      (λ w' m'. ((at : Spot) × HeldAt w' m' at (cells_type d f t) vs × InOwn low at m')
      × Standing d g scope f ((local_use g.locals x).look s).states w' m')) in
      let h : Whole w m o.at (cells_type d f t) × ((c : State) → unless_lent (state_of g.locals x.text s) c ≡ c) =
      held_by n d g scope f b low z x t o x.at (state_of g.locals x.text s) w m (here n d g scope f b low z x t o s w m q.stands) e in
      subst (λ (a : Sense). Runs n a.look m post) (sym (means n d g scope f b low z x t o))
      (subst (λ (cs : List Shape). Runs n (read_cells (length cs) o.at) m post) (sym cells)
      (record {
        by = λ next r. (runs_read_held n w m o.at (cells_type d f t) h.0.values (λ vs. give vs) post (alive n d g scope f b low z x t o k w m q.names) h.0.held
            (record {
              by = λ next2 r2. r2 h.0.values m (record {
                ghost = w;
                inv = i;
                grows = grows_refl k b w m;
                holds = (
                  (o.at, h.0.held, in_own x t o s k w m q),
                  subst (λ (a : State). Standing d g scope f (with_state g.locals x.text a s) w m) (sym (h.1 Held))
                      (now n d g scope f b low z x t o s Held w m w m q.stands (record { types = λ y q u. u; cells = λ y u q v. refl }) h.0),
                );
              });
            })).by next r;
      }))

  of_variable : (u : StaticType) (at : Spot) → (entity_sense scope.world (Some (Variable (shape_of u) at))).shape ≡ shape_of u
  of_variable Int at = refl
  of_variable Unsigned at = refl
  of_variable Char at = refl
  of_variable Void at = refl
  of_variable Null at = refl
  of_variable (Thin c r t) at = refl
  of_variable (Fat r t) at = refl
  of_variable (Unique c t) at = refl
  of_variable (Handle r) at = refl
  of_variable (Key r) at = refl
  of_variable (Struct tag rs) at = refl
  of_variable (Union tag rs) at = refl

  -- A local that can't be copied: moved where it is given away, held where it is looked at and where its members are, held again once it is assigned.
  pub sound_own : (x : tree.Name) (v : Value) → Own d g scope f x.text v.type
      → Sound n d g scope f b low v (local_use g.locals x) true (entity_sense scope.world (entity_of scope x.text))
  sound_own x v o = record {
    shape = λ z. shaped;
    owned = λ z. refl;
    value = λ is s e k w m i q. gives_moved n d g scope f b low (setting s k w m q) x v.type o is k s w m i q.names q.stands e;
    look = λ s e k w m i q. shows_held n d g scope f b low (setting s k w m q) x v.type o k s w m i q.names q.stands e;
    held = λ z s e k w m i q. shows_whole x v.type o s e k w m i q;
    place = λ z. finds_held x v.type v.seat o;
    pointed = λ z r q. absurd (false≢true (sym z));
    stores = λ is z s e k w m vs i q typed. runs_assigned n d g scope f b low (setting s k w m q) x v.type o is k s w m vs (give tt)
        (λ u. After d k b w m (λ w' m'. Standing d g scope f ((local_use g.locals x).target s).states w' m')) i q.names q.stands e typed
        (λ w' m' i' g' st'. record { by = λ next r. r tt m' (record { ghost = w'; inv = i'; grows = g'; holds = st' }) });
  }
    where
      shaped : (entity_sense scope.world (entity_of scope x.text)).shape ≡ shape_of v.type
      shaped = ap (λ (e : Option Entity). (entity_sense scope.world e).shape) o.bound ∙ of_variable v.type o.at

  -- ---- a part of one

  -- a member's cells are held where those of the local are
  pub finds_own_part : (p : States → Passed) (seat : Seat) (t u : StaticType) (place : Act Spot) (count : ℕ) (first others : List RunType)
      → (f TheHeap ≡ invariant.heap → cells_type d f t ≡ first ++ (cells_type d f u ++ others)) → count ≡ length first
      → FindsAny n d g scope f b low p true seat t place
      → FindsAny n d g scope f b low p true seat u (place >>= λ s. give (beyond s count))
  finds_own_part p seat t u place count first others cells counted finds s e k w m i x = record {
    by = λ next r. (finds s e k w m i x).by (λ at. next (beyond at count)) (λ at m1 y.
        let q : (us : List Scalar) × HeldAt y.ghost m1 (beyond at (length first)) (cells_type d f u) us =
        held_part y.ghost m1 at first (cells_type d f u) others y.holds.0.0
        (subst (λ (ts : List RunType). HeldAt y.ghost m1 at ts y.holds.0.0) (cells x.names.heap_is) y.holds.0.1) in
        r (beyond at count) m1 (record {
          ghost = y.ghost;
          inv = y.inv;
          grows = y.grows;
          holds = (
            (
              q.0,
              subst (λ (c : ℕ). HeldAt y.ghost m1 (beyond at c) (cells_type d f u) q.0) (sym counted) q.1,
              y.holds.0.2,
              (let z = y.holds.0.3 in record { frame = z.frame; region = z.region; known = z.known; own = z.own }),
            ),
            y.holds.1,
          );
        }));
  }

  own_cells : (t : StaticType) (sh : Shape) → sh ≡ shape_of t → cells_of scope.world sh ≡ map shape_of (cells_type d f t)
  own_cells t sh shape = ap (cells_of scope.world) (shape ∙ sym (shape_renamed f t)) ∙ agrees (renamed f t)

  -- what is given away out of it is copied, else Copy
  gives_own : (p : States → Passed) (at : ℕ) (moves po : Bool) (seat : Seat) (t : StaticType) (sh : Shape) (act : Act Spot) → sh ≡ shape_of t
      → (moves ≡ false → Copied (cells_type d f t)) → FindsAny n d g scope f b low p true seat t act
      → GivesBy n d g scope f b low (place_use at moves po p).value t (place_sense scope.world sh act).value
  gives_own p at moves po seat t sh act shape copies finds s e k w m i x = record {
    by = λ next q. (finds s (none_first (p s).faults (copy_if moves at (p s).states).faults e) k w m i x).by
        (λ spot. take_cells (cells_of scope.world sh) spot next) (λ spot m1 y.
        (subst (λ (cs : List Shape). Runs n (take_cells cs spot) m1 post) (sym (own_cells t sh shape))
        (runs_read_held n y.ghost m1 spot ts y.holds.0.0 (λ vs.
        (if any_moved (map shape_of ts) then put_contents (length (map shape_of ts)) spot memory.Gone else give tt) >> give vs) post
        y.holds.0.2 y.holds.0.1
        (record {
          by = λ next2 q2. subst (λ (c : Bool). Safe n (((if c then put_contents (length (map shape_of ts)) spot memory.Gone else give tt) >> give y.holds.0.0)
              next2 m1)) (sym (none_moved ts (copies c.0)))
              (q2 y.holds.0.0 m1 (record {
                ghost = y.ghost;
                inv = y.inv;
                grows = y.grows;
                holds = (
                  copied_flies d y.ghost m1 spot k 0 ts y.holds.0.0 y.inv (none_moved ts (copies c.0)) y.holds.0.1,
                  subst (λ (s2 : States). Standing d g scope f s2 y.ghost m1) (sym c.1) y.holds.1,
                );
              }));
        }))).by next q);
  }
    where
      ts : List RunType
      ts = cells_type d f t

      c : (moves ≡ false) × ((copy_if moves at (p s).states).states ≡ (p s).states)
      c = uncopied moves at (p s).states (none_second (p s).faults (copy_if moves at (p s).states).faults e)

      post : List Scalar → Memory → Type 0
      post vs = After d k b w m (λ w' m'. HaveTypes d w' (flying k 0) vs ts × Standing d g scope f (copy_if moves at (p s).states).states w' m')

  -- looked at, as `*x.p` and `x.p != NULL` do
  shows_own : (p : States → Passed) (seat : Seat) (t : StaticType) (sh : Shape) (act : Act Spot) → sh ≡ shape_of t
      → FindsAny n d g scope f b low p true seat t act → ShowsBy n d g scope f b low p t (place_sense scope.world sh act).look
  shows_own p seat t sh act shape finds s e k w m i x = record {
    by = λ next q. (finds s e k w m i x).by (λ spot. (read_cells (length (cells_of scope.world sh)) spot) next) (λ spot m1 y.
        (subst (λ (cs : List Shape). Runs n (read_cells (length cs) spot) m1 post) (sym (own_cells t sh shape))
        (read spot m1 y)).by next q);
  }
    where
      ts : List RunType
      ts = cells_type d f t

      post : List Scalar → Memory → Type 0
      post vs = After d k b w m (λ w' m'. Looked d w' vs ts × Standing d g scope f (p s).states w' m')

      read : (spot : Spot) (m1 : Memory) → After d k b w m (λ w' m'. PlaceStands d f low true seat t spot w' m' × Standing d g scope f (p s).states w' m') m1
          → Runs n (read_cells (length (map shape_of ts)) spot) m1 post
      read spot m1 y = record {
        by = λ next q. (runs_read_held n y.ghost m1 spot ts y.holds.0.0 (λ vs. give vs) post y.holds.0.2 y.holds.0.1 (record {
          by = λ next2 q2. q2 y.holds.0.0 m1 (record {
            ghost = y.ghost;
            inv = y.inv;
            grows = y.grows;
            holds = (
              record { by = λ j. invariant.InCell (beyond spot j); holder = λ j. tt; typed = looked_held d y.ghost m1 spot ts y.holds.0.0 y.inv y.holds.0.1 },
              y.holds.1,
            );
          });
        })).by next q;
      }

  -- a value is stored to it: all locals stand as they did
  stores_own : b ≤ low → (p : States → Passed) (seat : Seat) (t : StaticType) (act : Act Spot) → FindsAny n d g scope f b low p true seat t act
      → StoresBy n d g scope f b low p t act
  stores_own is p seat t act finds s e k w m vs i x typed = record {
    by = λ next q. (finds s e (suc k) w m i (scene_more d g scope f b low s k w m x)).by (λ spot. (write_cells spot vs >> give tt) next) (λ spot m1 y.
        (runs_write_held d n k b 0 y.ghost m1 spot (cells_type d f t) y.holds.0.0 vs (give tt)
        (λ u. After d k b w m (λ w' m'. Standing d g scope f (p s).states w' m'))
        y.inv y.holds.0.2 (in_own_ours b low spot m1 is y.holds.0.3) y.holds.0.1 (flight_kept d k b w m y.ghost m1 vs (cells_type d f t) i y.grows typed)
        (λ w2 m2 i2 g2 z. record {
          by = λ next2 q2. q2 tt m2 (record {
            ghost = w2;
            inv = i2;
            grows = grows_trans (grows_less y.grows) g2;
            holds = all_again y.ghost m1 w2 m2 z g.tables d f g.locals scope.locals (p s).states y.holds.1;
          });
        })).by next q);
  }

  -- A part of a local that can't be copied, as a place.
  pub sound_part : (v : Value) (place : ℕ) (moves po : Bool) → po ≡ true → (p : States → Passed) (sh : Shape) (act : Act Spot) → sh ≡ shape_of v.type
      → (moves ≡ false → Copied (cells_type d f v.type)) → FindsAny n d g scope f b low p true v.seat v.type act
      → Sound n d g scope f b low v (place_use place moves po p) true (place_sense scope.world sh act)
  sound_part v place moves po is p sh act shape copies finds = record {
    shape = λ z. shape;
    owned = λ z. is;
    value = λ z. gives_own p place moves po v.seat v.type sh act shape copies finds;
    look = shows_own p v.seat v.type sh act shape finds;
    held = λ z. absurd cc;
    place = λ z. finds;
    pointed = λ z r q. absurd (false≢true (sym z ∙ is));
    stores = λ is z. stores_own is p v.seat v.type act finds;
  }
