-- What expressions promise where locals stand in states: from each states from which the rules of flow find no fault, they run safely, and leave those that
-- the rules say.
use Rattle.std.proofs.Common.{◌≡◌, ℕ, suc, ◌≤◌, Bool, true, false, Option, Some, List, [], ◌∷◌, refl, sym, ◌∙◌, ap, subst, arith}
use Rattle.std.specs.Prelude.{map, length, bytes_eq, if◌then◌else◌}
use Rattle.cyc_tree.specs.Tree as tree
use Rattle.source_meaning.specs.Shapes.{Shape}
use Rattle.source_meaning.specs.Memory as memory
use Rattle.source_meaning.specs.Memory.{beyond, Region, Frame, Spot, Scalar, Holds, Live, Memory, is_moved, any_moved}
use Rattle.source_meaning.specs.Steps.{Binding, Entity, Variable, Scope, Act, ◌>>=◌, ◌>>◌, give}
use Rattle.source_meaning.specs.Conversions.{cells_of}
use Rattle.source_meaning.specs.Values.{read_cells, take_cells, put_contents, write_cells}
use Rattle.source_meaning.specs.Places.{Sense, place_sense, bound_to, or_else, entity_of, entity_sense}
use Rattle.source_typing.specs.Moves.{local_use}
use Rattle.source_typing.specs.Scope.{Env, Local, find_local}
use Rattle.source_typing.specs.States.{State, Plain, Held, Gone, Lent, States, Passed, state_of, with_state, need_held, need_unlent, then_passed, unless_lent}
use Rattle.source_typing.specs.Tables.{Stored, is_copyable}
use Rattle.source_typing.specs.Types.{Int, Unsigned, Char, Void, Null, Thin, Fat, Unique, Handle, Key, Struct, Union, StaticType, renamed, shape_of}
use Rattle.type_proof.specs.Flat.{Tables}
use Rattle.type_proof.proofs.invariant.Invariant.{RunType, Flying, InCell, Private, Ghost, HasType, HaveTypes, CellOk, Inv, Grows}
use Rattle.type_proof.proofs.invariant.Values.{values_kept, copied_kept}
use Rattle.type_proof.proofs.invariant.Growth.{grows_refl}
use Rattle.type_proof.proofs.invariant.Runs.{Runs}
use Rattle.type_proof.proofs.invariant.After.{After, flying}
use Rattle.type_proof.proofs.invariant.Arguments.{Agrees}
use Rattle.type_proof.proofs.invariant.Names.{NameOf, NamesOk, names_later}
use Rattle.type_proof.proofs.invariant.Sound.{Looked, shape_renamed, cells_type, none_first, none_second}
use Rattle.type_proof.proofs.invariant.Rights.{Ours, HeldAt, runs_read_held, runs_gone, content_same}
use Rattle.type_proof.proofs.invariant.LocalCells.{CellsStand, Whole, FreeAt, gone_free, held_free}
use Rattle.type_proof.proofs.invariant.Standing.{Standing, Beside, LocalStands, Alongside, Rooms, found_stands, updated}
use Rattle.type_proof.proofs.invariant.Moving.{runs_write_free}
use Rattle.type_proof.proofs.invariant.Facts.{further, not_further}

-- cells that are copied are read, where their values may go
pub copied_flies : (d : Tables) (w : Ghost) (m : Memory) (s : Spot) (k c : ℕ) (ts : List RunType) (vs : List Scalar) → Inv d w m → any_moved (map shape_of ts)
    ≡ false
    → HeldAt w m s ts vs → HaveTypes d w (flying k c) vs ts
copied_flies d w m s k c [] [] i e h = tt
copied_flies d w m s k c (u ∷ us) (v ∷ vs) i e h = by (is_moved (shape_of u))
    (λ r. copied_flies d w m (beyond s 1) k (suc c) us vs i r h.2) refl e
  where
    by : (q : Bool) → (any_moved (map shape_of us) ≡ false → HaveTypes d w (flying k (suc c)) vs us) → is_moved (shape_of u) ≡ q
        → (if q then true else any_moved (map shape_of us)) ≡ false → HaveTypes d w (flying k c) (v ∷ vs) (u ∷ us)
    by true others p r = absurd cc
    by false others p r =
        let y : CellOk d w s (m.cells s) (Private u) = i.cells s (Private u) h.0 in
        let ok : (a : Scalar) → y.content ≡ Holds a → HasType d w (InCell s) a u = y.ok in (
          copied_kept d w w (InCell s) (flying k c 0) v u (record { types = λ a b2 q. q; above = λ a b2 q. q }) p
              (ok v (content_same _ u y.content (Holds v) y.is h.1)),
          values_kept d w w (flying k (suc c)) (λ j. flying k c (suc j)) vs us
              (λ j. record { types = λ a b2 q. q; above = λ a b2 q. q; keyed = λ a q. refl; owner = λ a q. q ∙ ap (Flying k) (omega arith) })
              (others r),
        )
copied_flies d w m s k c [] (v ∷ vs) i e h = absurd h
copied_flies d w m s k c (u ∷ us) [] i e h = absurd h

-- cells of a local that are held, and looked at
pub looked_held : (d : Tables) (w : Ghost) (m : Memory) (s : Spot) (ts : List RunType) (vs : List Scalar) → Inv d w m → HeldAt w m s ts vs
    → HaveTypes d w (λ j. InCell (beyond s j)) vs ts
looked_held d w m s [] [] i h = tt
looked_held d w m s (u ∷ us) (v ∷ vs) i h =
    let y : CellOk d w s (m.cells s) (Private u) = i.cells s (Private u) h.0 in
    let ok : (a : Scalar) → y.content ≡ Holds a → HasType d w (InCell s) a u = y.ok in (
      subst (λ (p : Spot). HasType d w (InCell p) v u) (sym (not_further s))
          (ok v (content_same _ u y.content (Holds v) y.is h.1)),
      values_kept d w w
          (λ j. InCell (beyond (beyond s 1) j))
          (λ j. InCell (beyond s (suc j))) vs us
          (λ j. record {
            types = λ a b2 q. q;
            above = λ a b2 q. q;
            keyed = λ a q. refl;
            owner = λ a q. q
                ∙ ap InCell (further s 1 j (suc j) (omega arith));
          })
          (looked_held d w m (beyond s 1) us vs i h.2),
    )
looked_held d w m s [] (v ∷ vs) i h = absurd h
looked_held d w m s (u ∷ us) [] i h = absurd h

-- what a local's name is bound to is no global
found_bound : (ls : List Local) (bs : List Binding) (x : List ℕ) (l : Local) (e : Entity) (o : Option Entity) → Alongside ls bs → find_local ls x ≡ Some l
    → or_else (bound_to bs x) o ≡ Some e → bound_to bs x ≡ Some e
found_bound [] bs x l e o al f h = absurd cc
found_bound (y ∷ ls) [] x l e o al f h = absurd al
found_bound (y ∷ ls) (z ∷ bs) x l e o al f h =
    by (bytes_eq y.name x) (bytes_eq z.name x) (ap (λ (n : List ℕ). bytes_eq n x) al.0) (λ q r. found_bound ls bs x l e o al.1 q r) f h
  where
    by : (c k : Bool) → k ≡ c → (find_local ls x ≡ Some l → or_else (bound_to bs x) o ≡ Some e → bound_to bs x ≡ Some e)
        → (if c then Some y else find_local ls x) ≡ Some l
        → or_else (if k then Some z.entity else bound_to bs x) o ≡ Some e → (if k then Some z.entity else bound_to bs x) ≡ Some e
    by c true same others q r = r
    by false false same others q r = others q r
    by true false same others q r = absurd cc

-- ---- what surrounds an expression

-- a local that can't be copied, as it is found
pub record Own (d : Tables) (g : Env) (scope : Scope) (f : NameOf → Region) (x : List ℕ) (t : StaticType) : Type 0 where
  pub local : Local
  pub found : find_local g.locals x ≡ Some local
  pub region : NameOf
  pub what : local.what ≡ Stored t region
  pub moved : is_copyable g.tables t ≡ false
  pub at : Spot
  pub bound : entity_of scope x ≡ Some (Variable (shape_of t) at)
  pub lies : at.region ≡ f region
  pub lives : g.regions.live region ≡ true

-- the names and variables of a point of a function, whose blocks are the activations from b on
pub record Setting (d : Tables) (g : Env) (scope : Scope) (f : NameOf → Region) (b : ℕ) (low : ℕ) : Type 0 where
  pub alongside : Alongside g.locals scope.locals
  pub rooms : Rooms low scope.locals
  pub agrees : Agrees scope.world d
  pub own : (x : List ℕ) (t : StaticType) (at : Spot) → bound_to scope.locals x ≡ Some (Variable (shape_of t) at) → (j : ℕ) → at.region ≡ Frame j → low ≤ j

module _ (n : ℕ) (d : Tables) (g : Env) (scope : Scope) (f : NameOf → Region) (b : ℕ) (low : ℕ) where
  -- an act that gives a value of a type, by what the rules say of its use
  abbrev pub GivesBy : (States → Passed) → StaticType → Act (List Scalar) → Type 0
  GivesBy p t act = (k : ℕ) (s : States) (w : Ghost) (m : Memory) → Inv d w m → NamesOk g.regions f k w m → Standing d g scope f s w m → (p s).faults ≡ []
      → Runs n act m (λ vs. After d k b w m (λ w' m'. HaveTypes d w' (flying k 0) vs (cells_type d f t) × Standing d g scope f (p s).states w' m'))

  abbrev pub ShowsBy : (States → Passed) → StaticType → Act (List Scalar) → Type 0
  ShowsBy p t act = (k : ℕ) (s : States) (w : Ghost) (m : Memory) → Inv d w m → NamesOk g.regions f k w m → Standing d g scope f s w m → (p s).faults ≡ []
      → Runs n act m (λ vs. After d k b w m (λ w' m'. Looked d w' vs (cells_type d f t) × Standing d g scope f (p s).states w' m'))

  -- two acts, one after the other: no fault of both is none of the first, and none of the second from where the first leaves
  pub then_gives : {A : Type 0} (p q : States → Passed) (t : StaticType) (act : Act (List Scalar)) (h : List Scalar → Act A) (k : ℕ) (s : States) (w : Ghost)
      (m : Memory)
      (Q : A → Memory → Type 0) → GivesBy p t act → Inv d w m → NamesOk g.regions f k w m → Standing d g scope f s w m → (then_passed (p s) q).faults ≡ []
      → ((vs : List Scalar) (w' : Ghost) (m' : Memory) → Inv d w' m' → Grows k b w m w' m' → NamesOk g.regions f k w' m'
      → HaveTypes d w' (flying k 0) vs (cells_type d f t)
      → Standing d g scope f (p s).states w' m' → (q (p s).states).faults ≡ [] → Runs n (h vs) m' Q)
      → Runs n (act >>= h) m Q
  then_gives p q t act h k s w m Q gives i x st e go = record {
    by = λ next r. (gives k s w m i x st (none_first (p s).faults (q (p s).states).faults e)).by (λ vs. h vs next) (λ vs m' y.
        (go vs y.ghost m' y.inv y.grows (names_later d g.regions f k b w m y.ghost m' y.inv y.grows x) y.holds.0 y.holds.1
        (none_second (p s).faults (q (p s).states).faults e)).by next r);
  }

  module _ (z : Setting d g scope f b low) (x : tree.Name) (t : StaticType) (o : Own d g scope f x.text t) where
    pub bound_here : bound_to scope.locals x.text ≡ Some (Variable (shape_of t) o.at)
    bound_here = found_bound g.locals scope.locals x.text o.local (Variable (shape_of t) o.at) (bound_to scope.world.globals x.text) z.alongside o.found o.bound

    pub ours : b ≤ low → Ours b o.at
    ours is = λ j e l. let q : low ≤ j = z.own x.text t o.at bound_here j e in omega (arith, l, is, q)

    cells_are : cells_of scope.world (shape_of t) ≡ map shape_of (cells_type d f t)
    cells_are = ap (cells_of scope.world) (sym (shape_renamed f t)) ∙ z.agrees (renamed f t)

    pub here : (s : States) (w : Ghost) (m : Memory) → Standing d g scope f s w m → CellsStand (state_of g.locals x.text s) w m o.at (cells_type d f t)
    here s w m st =
        (let a : LocalStands g.tables d f o.local.what (Variable (shape_of t) o.at) (state_of g.locals x.text s) w m =
        found_stands g.tables d f g.locals scope.locals s x.text o.local (Variable (shape_of t) o.at) w m z.alongside o.found bound_here st in
        subst (λ v. LocalStands g.tables d f v (Variable (shape_of t) o.at) (state_of g.locals x.text s) w m) o.what a) o.moved

    pub alive : (k : ℕ) (w : Ghost) (m : Memory) → NamesOk g.regions f k w m → m.state o.at.region ≡ Live
    alive k w m h = ap m.state o.lies ∙ h.live o.region o.lives

    -- it stands in another state, and the others as they did
    pub now : (s : States) (a : State) (w : Ghost) (m : Memory) (w' : Ghost) (m' : Memory) → Standing d g scope f s w m → Beside o.at w m w' m'
        → CellsStand a w' m' o.at (cells_type d f t) → Standing d g scope f (with_state g.locals x.text a s) w' m'
    now s a w m w' m' st beside c =
        updated g.tables d f w m w' m' low g.locals scope.locals s x.text o.local (shape_of t) o.at a z.alongside z.rooms o.found bound_here beside
        (subst (λ v. LocalStands g.tables d f v (Variable (shape_of t) o.at) a w' m') (sym o.what) (λ q. c)) st

    -- what may be read is held: it isn't gone, and not lent
    pub held_by : (at : ℕ) (a : State) (w : Ghost) (m : Memory) → CellsStand a w m o.at (cells_type d f t) → need_held at a ≡ []
        → Whole w m o.at (cells_type d f t) × ((c : State) → unless_lent a c ≡ c)
    held_by at Plain w m h e = absurd h
    held_by at Held w m h e = (h, λ c. refl)
    held_by at Gone w m h e = absurd cc
    held_by at Lent w m h e = absurd cc

    -- what may be assigned isn't lent
    free_by : (at : ℕ) (a : State) (w : Ghost) (m : Memory) → CellsStand a w m o.at (cells_type d f t) → need_unlent at a ≡ []
        → FreeAt w m o.at (cells_type d f t) × ((c : State) → unless_lent a c ≡ c)
    free_by at Plain w m h e = absurd h
    free_by at Held w m h e = (held_free w m o.at (cells_type d f t) h.values h.held, λ c. refl)
    free_by at Gone w m h e = (h, λ c. refl)
    free_by at Lent w m h e = absurd cc

    -- ---- a local that is read as a value

    taken : b ≤ low → (k : ℕ) (s : States) (w : Ghost) (m : Memory) → Inv d w m → NamesOk g.regions f k w m → Standing d g scope f s w m
        → need_held x.at (state_of g.locals x.text s) ≡ []
        → Runs n (take_cells (map shape_of (cells_type d f t)) o.at) m (λ vs. After d k b w m (λ w' m'. HaveTypes d w' (flying k 0) vs (cells_type d f t)
        × Standing d g scope f (with_state g.locals x.text Gone s) w' m'))
    taken is k s w m i names st e =
        runs_read_held n w m o.at (cells_type d f t) a.0.values
        (λ vs. (if any_moved (map shape_of (cells_type d f t)) then put_contents (length (map shape_of (cells_type d f t))) o.at
        memory.Gone else give tt) >> give vs)
        (post) (alive k w m names) a.0.held (by (any_moved (map shape_of (cells_type d f t))) refl)
      where
        ts : List RunType
        ts = cells_type d f t

        a : Whole w m o.at ts × ((c : State) → unless_lent (state_of g.locals x.text s) c ≡ c)
        a = held_by x.at (state_of g.locals x.text s) w m (here s w m st) e

        post : List Scalar → Memory → Type 0
        post vs = After d k b w m (λ w' m'. HaveTypes d w' (flying k 0) vs ts × Standing d g scope f (with_state g.locals x.text Gone s) w' m')

        by : (q : Bool) → any_moved (map shape_of ts) ≡ q
            → Runs n ((if q then put_contents (length (map shape_of ts)) o.at memory.Gone else give tt) >> give a.0.values) m post
        by true p = runs_gone d n k b 0 w m o.at ts a.0.values (give a.0.values) post i (alive k w m names) (ours is) a.0.held
            (λ w' m' i' g' fly out older away gone. record {
              by = λ next r. r a.0.values m' (record {
                ghost = w';
                inv = i';
                grows = g';
                holds = (fly, now s Gone w m w' m' st (record { types = g'.types; cells = λ y u q v. away y q }) (gone_free w' m' o.at ts gone));
              });
            })
        by false p = record {
          by = λ next r. r a.0.values m (record {
            ghost = w;
            inv = i;
            grows = grows_refl k b w m;
            holds = (
              copied_flies d w m o.at k 0 ts a.0.values i p a.0.held,
              now s Gone w m w m st (record { types = λ y q u. u; cells = λ y u q v. refl }) (held_free w m o.at ts a.0.values a.0.held),
            );
          });
        }

    -- ---- the uses of the local, as the rules of flow have them

    -- the value of a variable of no array
    variable_sense : entity_sense scope.world (Some (Variable (shape_of t) o.at)) ≡ place_sense scope.world (shape_of t) (give o.at)
    variable_sense = by t o.at
      where
        by : (u : StaticType) (at : Spot) → entity_sense scope.world (Some (Variable (shape_of u) at)) ≡ place_sense scope.world (shape_of u) (give at)
        by Int at = refl
        by Unsigned at = refl
        by Char at = refl
        by Void at = refl
        by Null at = refl
        by (Thin c r v) at = refl
        by (Fat r v) at = refl
        by (Unique c v) at = refl
        by (Handle r) at = refl
        by (Key r) at = refl
        by (Struct tag rs) at = refl
        by (Union tag rs) at = refl

    pub means : entity_sense scope.world (entity_of scope x.text) ≡ place_sense scope.world (shape_of t) (give o.at)
    means = ap (entity_sense scope.world) o.bound ∙ variable_sense

    -- given away: it is moved
    pub gives_moved : b ≤ low → GivesBy (local_use g.locals x).value t (entity_sense scope.world (entity_of scope x.text)).value
    gives_moved is = subst (λ (e : Sense). GivesBy (local_use g.locals x).value t e.value) (sym means)
        (subst (λ (cs : List Shape). GivesBy (local_use g.locals x).value t (give o.at >>= λ spot. take_cells cs spot)) (sym cells_are)
        (λ k s w m i names st e. let h : Whole w m o.at (cells_type d f t) × ((c : State) → unless_lent (state_of g.locals x.text s) c ≡ c) =
        held_by x.at (state_of g.locals x.text s) w m (here s w m st) e in
        record {
          by = λ next r. (taken is k s w m i names st e).by next (λ vs m' y. r vs m' (record {
            ghost = y.ghost;
            inv = y.inv;
            grows = y.grows;
            holds = (y.holds.0, subst (λ (a : State). Standing d g scope f (with_state g.locals x.text a s) y.ghost m') (sym (h.1 Gone)) y.holds.1);
          }));
        }))

    -- looked at: it is held, and stays so
    pub shows_held : ShowsBy (local_use g.locals x).look t (entity_sense scope.world (entity_of scope x.text)).look
    shows_held = subst (λ (e : Sense). ShowsBy (local_use g.locals x).look t e.look) (sym means)
        (subst (λ (cs : List Shape). ShowsBy (local_use g.locals x).look t (give o.at >>= λ spot. read_cells (length cs) spot)) (sym cells_are)
        (λ k s w m i names st e. let h : Whole w m o.at (cells_type d f t) × ((c : State) → unless_lent (state_of g.locals x.text s) c ≡ c) =
        held_by x.at (state_of g.locals x.text s) w m (here s w m st) e in
        let post : List Scalar → Memory → Type 0 = (λ vs. After d k b w m
        (λ w' m'. Looked d w' vs (cells_type d f t) × Standing d g scope f ((local_use g.locals x).look s).states w' m')) in
        record {
          by = λ next r. (runs_read_held n w m o.at (cells_type d f t) h.0.values (λ vs. give vs) post (alive k w m names) h.0.held
              (record {
                by = λ next2 r2. r2 h.0.values m (record {
                  ghost = w;
                  inv = i;
                  grows = grows_refl k b w m;
                  holds = (
                    record {
                      by = λ j. InCell (beyond o.at j);
                      holder = λ j. tt;
                      typed =
                          looked_held d w m o.at (cells_type d f t) h.0.values i h.0.held;
                    },
                    subst (λ (a : State). Standing d g scope f (with_state g.locals x.text a s) w m) (sym (h.1 Held))
                        (now s Held w m w m st (record { types = λ y q u. u; cells = λ y u q v. refl }) h.0),
                  );
                });
              })).by next r;
        }))

    -- assigned as a whole, by a value that is on its way: it is held again
    pub runs_assigned : {B : Type 0} → b ≤ low → (k : ℕ) (s : States) (w : Ghost) (m : Memory) (vs : List Scalar) (h : Act B) (Q : B → Memory → Type 0)
        → Inv d w m
        → NamesOk g.regions f k w m → Standing d g scope f s w m → ((local_use g.locals x).target s).faults ≡ []
        → HaveTypes d w (flying k 0) vs (cells_type d f t)
        → ((w' : Ghost) (m' : Memory) → Inv d w' m' → Grows k b w m w' m' → Standing d g scope f ((local_use g.locals x).target s).states w' m' → Runs n h m' Q)
        → Runs n ((entity_sense scope.world (entity_of scope x.text)).place >>= λ at. write_cells at vs >> h) m Q
    runs_assigned is k s w m vs h Q i names st e typed go =
        subst (λ (a : Sense). Runs n (a.place >>= λ at. write_cells at vs >> h) m Q) (sym means)
        (let a : FreeAt w m o.at (cells_type d f t) × ((c : State) → unless_lent (state_of g.locals x.text s) c ≡ c) =
        free_by x.at (state_of g.locals x.text s) w m (here s w m st) e in
        record {
          by = λ next r. (runs_write_free d n k b 0 w m o.at (cells_type d f t) vs h Q i (alive k w m names) (ours is) a.0 typed
              (λ w' m' i' g' older away held. go w' m' i' g'
              (subst (λ (c : State). Standing d g scope f (with_state g.locals x.text c s) w' m') (sym (a.1 Held))
              (now s Held w m w' m' st (record { types = g'.types; cells = λ y u q v. away y q }) (record { values = vs; held = held }))))).by next r;
        })
