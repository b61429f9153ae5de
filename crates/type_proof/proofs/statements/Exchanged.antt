-- `a :=: b`: the left place stands while the right one is found, and both hold values before and after, so the locals stand as they did.
use Rattle.std.proofs.Common.{◌≡◌, ℕ, suc, ◌<◌, ◌≤◌, Bool, true, false, ◌⊎◌, inl, inr, Option, Some, List, [], ◌∷◌, refl, sym, ◌∙◌, ap, subst, arith}
use Rattle.std.specs.Prelude.{◌&&◌, not, if◌then◌else◌}
use Rattle.cyc_tree.specs.Tree.{Expression, Statement}
use Rattle.source_meaning.specs.Shapes.{Shape, same_shape}
use Rattle.source_meaning.specs.Memory.{Region, Frame, Spot, Scalar, Content, Holds, Live, Memory, same_spot, beyond}
use Rattle.source_meaning.specs.Steps.{World, Scope, Flow, Falls, ◌>>=◌, ◌>>◌, give}
use Rattle.source_meaning.specs.Expressions.{sense}
use Rattle.source_meaning.specs.Strings.{expression_strings}
use Rattle.source_meaning.specs.Statements.{statement}
use Rattle.source_typing.specs.Flow.{use_of}
use Rattle.source_typing.specs.Left.{left_by}
use Rattle.source_typing.specs.Scope.{Env, Seat, Nowhere, In, InBlock, is_place}
use Rattle.source_typing.specs.States.{States, Passed, then_passed}
use Rattle.source_typing.specs.Tables as typing
use Rattle.source_typing.specs.Types.{StaticType, Int, Unsigned, Char, Void, Null, Thin, Fat, Unique, Handle, Key, Struct, Union, Equals, Match, are_equal}
use Rattle.source_typing.specs.Types.{compare, is_key, is_same, is_scalar, renamed, shape_of}
use Rattle.source_typing.proofs.Converting.{compare_is}
use Rattle.type_proof.specs.Flat.{Tables}
use Rattle.type_proof.specs.Judged.{Exchanging}
use Rattle.type_proof.proofs.invariant.Facts.{at_spot}
use Rattle.type_proof.proofs.invariant.Invariant.{RunType, InCell, Kept, Reached, Private, type_of, Ghost, HasType, Full, CellOk, Laid, Inv, Grows}
use Rattle.type_proof.proofs.invariant.Values.{laid_kept}
use Rattle.type_proof.proofs.invariant.Growth.{grows_trans}
use Rattle.type_proof.proofs.invariant.Runs.{Runs, runs_check}
use Rattle.type_proof.proofs.invariant.After.{After, base_later, grows_base}
use Rattle.type_proof.proofs.invariant.Cells.{cell}
use Rattle.type_proof.proofs.invariant.Names.{NameOf, NamesOk}
use Rattle.type_proof.proofs.invariant.Scenes.{Scene, scene_later}
use Rattle.type_proof.proofs.invariant.Sound.{InOwn, PlaceStands, Sound, cells_type, none_first, none_second}
use Rattle.type_proof.proofs.invariant.Standing.{Standing}
use Rattle.type_proof.proofs.invariant.Rights.{HeldAt, content_same}
use Rattle.type_proof.proofs.invariant.Exchanges as exchanges
use Rattle.type_proof.proofs.invariant.Exchanges.{exchanged_memory, exchange_at, runs_exchange}
use Rattle.type_proof.proofs.Strings.{AreFound}
use Rattle.type_proof.proofs.Entries.{Invokes}
use Rattle.type_proof.proofs.expressions.BlockPlaces.{anchored_later}
use Rattle.type_proof.proofs.expressions.Forms.{Denotes, Refuses}
use Rattle.type_proof.proofs.expressions.Rewriting.{Rewritten, Rewrites, all_again}
use Rattle.type_proof.proofs.expressions.Words.{IsObjectType, object_some, shape_itself}
use Rattle.type_proof.proofs.expressions.WordRules.{SeatKnown}
use Rattle.type_proof.proofs.statements.Flows.{WaysStand, Leaves}
use Rattle.type_proof.proofs.statements.Statements.{denotes, denotes_by}
use Rattle.type_proof.proofs.statements.Surroundings.{Surrounds}

-- ---- what the rules say

pub all_five : (a b c d e : Bool) → a && b && c && d && e ≡ true → (a ≡ true) × (b ≡ true) × (c ≡ true) × (d ≡ true) × (e ≡ true)
all_five true true true true true h = (refl, refl, refl, refl, refl)
all_five false b c d e h = absurd cc
all_five true false c d e h = absurd cc
all_five true true false d e h = absurd cc
all_five true true true false e h = absurd cc
all_five true true true true false h = absurd cc

pub same_is : (t u : StaticType) → is_same t u ≡ true → t ≡ u
same_is t u e = compare_is t u (by (compare t u) e)
  where
    by : (c : Match) → are_equal c ≡ true → c ≡ Equals
    by Equals h = refl
    by Rattle.source_typing.specs.Types.ByRegions h = absurd cc
    by Rattle.source_typing.specs.Types.Differs h = absurd cc

-- a scalar has one cell
scalar_cell : (d : Tables) (f : NameOf → Region) (t : StaticType) → is_scalar t ≡ true → cells_type d f t ≡ renamed f t ∷ []
scalar_cell d f Int e = refl
scalar_cell d f Unsigned e = refl
scalar_cell d f Char e = refl
scalar_cell d f Void e = absurd cc
scalar_cell d f Null e = absurd cc
scalar_cell d f (Thin n r t) e = refl
scalar_cell d f (Fat r t) e = refl
scalar_cell d f (Unique n t) e = refl
scalar_cell d f (Handle r) e = refl
scalar_cell d f (Key r) e = refl
scalar_cell d f (Struct tag rs) e = absurd cc
scalar_cell d f (Union tag rs) e = refl

-- ---- one place

-- a place of one cell that holds a value, in a live region and in no caller's block
record Still (d : Tables) (b : ℕ) (w : Ghost) (m : Memory) (at : Spot) (u : RunType) : Type 0 where
  held : exchanges.Held d w m at u
  live : m.state at.region ≡ Live
  ours : (j : ℕ) (c : RunType) → held.kept ≡ Private c → at.region ≡ Frame j → j < b → ⊥

module _ (d : Tables) (f : NameOf → Region) (b : ℕ) (seat : Seat) (t : StaticType) (at : Spot) where
  reached_still : (u : RunType) (w : Ghost) (m : Memory) → Inv d w m → Laid w at (u ∷ []) → m.state at.region ≡ Live → Still d b w m at u
  reached_still u w m i h l =
      let x : CellOk d w at (m.cells at) (Reached u) = i.cells at (Reached u) h.0 in
      let y : Full x.content (λ v. HasType d w (InCell at) v u) = x.ok in
      record {
        held = record {
          kept = Reached u;
          typed = h.0;
          type = refl;
          value = y.value;
          holds = x.is ∙ ap (λ (c : Content). Some (cell u c)) y.is;
          of_type = y.typed;
        };
        live = l;
        ours = λ j c e r q. absurd cc;
      }

  place_still : (own : Bool) (u : RunType) (w : Ghost) (m : Memory) → Inv d w m → cells_type d f t ≡ u ∷ [] → PlaceStands d f b own seat t at w m
      → Still d b w m at u
  place_still false u w m i one h = by seat h
    where
      by : (s : Seat) → PlaceStands d f b false s t at w m → Still d b w m at u
      by Nowhere p = absurd p
      by (In r) p = reached_still u w m i (subst (λ (ts : List RunType). Laid w at ts) one p.0.typed) p.1
      by InBlock p = reached_still u w m i (subst (λ (ts : List RunType). Laid w at ts) one p.0) p.1
  place_still true u w m i one h = by h.0 (subst (λ (ts : List RunType). HeldAt w m at ts h.0) one h.1) h.2 h.3
    where
      by : (vs : List Scalar) → HeldAt w m at (u ∷ []) vs → m.state at.region ≡ Live → InOwn b at m → Still d b w m at u
      by [] p l o = absurd p
      by (v ∷ v2 ∷ vs) p l o = absurd p.2
      by (v ∷ []) p l o =
          let x : CellOk d w at (m.cells at) (Private u) = i.cells at (Private u) p.0 in
          let ok : (y : Scalar) → x.content ≡ Holds y → HasType d w (InCell at) y u = x.ok in
          record {
            held = record {
              kept = Private u;
              typed = p.0;
              type = refl;
              value = v;
              holds = p.1;
              of_type = ok v (content_same _ u x.content (Holds v) x.is p.1);
            };
            live = l;
            ours = λ j c e r q.
                let own : b ≤ o.frame = o.own in
                let same : o.frame ≡ j = (let z : Frame o.frame ≡ Frame j = sym o.region ∙ r in cc) in
                omega (arith, q, own, same);
          }

  held_stays : (k : ℕ) (w : Ghost) (m : Memory) (w' : Ghost) (m' : Memory) (s : Spot) (frame : ℕ) (ts : List RunType) (vs : List Scalar)
      → s.region ≡ Frame frame → frame < m.activations → Grows k m.activations w m w' m' → HeldAt w m s ts vs → HeldAt w' m' s ts vs
  held_stays k w m w' m' s frame [] [] e l g h = tt
  held_stays k w m w' m' s frame (u ∷ ts) (v ∷ vs) e l g h =
      (g.types s (Private u) h.0, g.kept s u frame e l h.0 ∙ h.1, held_stays k w m w' m' (beyond s 1) frame ts vs e l g h.2)
  held_stays k w m w' m' s frame [] (v ∷ vs) e l g h = absurd h
  held_stays k w m w' m' s frame (u ∷ ts) [] e l g h = absurd h

  -- it stands while what is evaluated leaves the function's private cells alone
  place_stays : (own : Bool) (g : Env) (k : ℕ) (w : Ghost) (m : Memory) (w' : Ghost) (m' : Memory) → Inv d w' m' → NamesOk g.regions f k w' m'
      → SeatKnown g.regions seat → Grows k m.activations w m w' m' → PlaceStands d f b own seat t at w m → PlaceStands d f b own seat t at w' m'
  place_stays false g k w m w' m' i names known grows h = by seat known h
    where
      by : (s : Seat) → SeatKnown g.regions s → PlaceStands d f b false s t at w m → PlaceStands d f b false s t at w' m'
      by Nowhere q p = absurd p
      by (In r) q p =
          let above : w'.above at.region (f r) ≡ true = grows.above at.region (f r) p.0.above in (
            record { typed = laid_kept w w' at (cells_type d f t) (λ s u e. grows.types s (Reached u) e) p.0.typed; above = above },
            i.closed (f r) at.region (names.live r q.1) above,
          )
      by InBlock q p =
          let a = anchored_later d k w m w' m' at i grows p.2 in
          (laid_kept w w' at (cells_type d f t) (λ s u e. grows.types s (Reached u) e) p.0, a.1, a.0)
  place_stays true g k w m w' m' i names known grows h = (
    h.0,
    held_stays k w m w' m' at h.3.frame (cells_type d f t) h.0 h.3.region h.3.known grows h.1,
    grows.state at.region (ap w'.owner h.3.region ∙ i.frames h.3.frame) ∙ h.2,
    record {
      frame = h.3.frame;
      region = h.3.region;
      known = base_later k m.activations (suc h.3.frame) w m w' m' (let z : h.3.frame < m.activations = h.3.known in omega (arith, z)) grows;
      own = h.3.own;
    },
  )

-- ---- the exchange

-- an exchange stores values where values were
exchange_rewrites : (d : Tables) (w : Ghost) (m : Memory) (s t : Spot) (u : RunType) (x : exchanges.Held d w m s u) (y : exchanges.Held d w m t u) (w' : Ghost)
    (m' : Memory)
    → w'.types ≡ w.types → ((z : Spot) → m'.cells z ≡ (exchanged_memory m s t u x.value y.value).cells z) → Rewrites w m w' m'
exchange_rewrites d w m s t u x y w' m' types cells = record {
  types = λ z k e. subst (λ (q : Spot → Option Kept). q z ≡ Some k) (sym types) e;
  cells = λ z c e. by z c e (cells z);
}
  where
    kind : (z : Spot) (c : RunType) (k : Kept) → w.types z ≡ Some (Private c) → w.types z ≡ Some k → type_of k ≡ c
    kind z c k e g = let a : k ≡ Private c = (let b : Some k ≡ Some (Private c) = sym g ∙ e in cc) in ap type_of a

    first : (z : Spot) (c : RunType) → w.types z ≡ Some (Private c) → z ≡ s → m'.cells z ≡ Some (cell u (Holds y.value)) → Rewritten m m' z c
    first z c e is after =
        let same : u ≡ c = sym x.type ∙ kind z c x.kept e (ap w.types is ∙ x.typed) in
        subst (λ (q : RunType). Rewritten m m' z q) same (record { before = x.value; after = y.value; had = ap m.cells is ∙ x.holds; has = after })

    second : (z : Spot) (c : RunType) → w.types z ≡ Some (Private c) → z ≡ t → m'.cells z ≡ Some (cell u (Holds x.value)) → Rewritten m m' z c
    second z c e is after =
        let same : u ≡ c = sym y.type ∙ kind z c y.kept e (ap w.types is ∙ y.typed) in
        subst (λ (q : RunType). Rewritten m m' z q) same (record { before = y.value; after = x.value; had = ap m.cells is ∙ y.holds; has = after })

    by : (z : Spot) (c : RunType) → w.types z ≡ Some (Private c) → m'.cells z ≡ (exchanged_memory m s t u x.value y.value).cells z
        → (m'.cells z ≡ m.cells z) ⊎ Rewritten m m' z c
    by z c e = at_spot (λ q. if same_spot q s then Some (cell u (Holds y.value)) else m.cells q) t (Some (cell u (Holds x.value))) z
        (λ o. m'.cells z ≡ o → (m'.cells z ≡ m.cells z) ⊎ Rewritten m m' z c)
        (λ is after. inr (second z c e is after))
        (λ away. at_spot m.cells s (Some (cell u (Holds y.value))) z (λ o. m'.cells z ≡ o → (m'.cells z ≡ m.cells z) ⊎ Rewritten m m' z c)
        (λ is after. inr (first z c e is after)) (λ other after. inl after))

-- the function's own private cells are to be left alone from here on
scene_still : (d : Tables) (g : Env) (scope : Scope) (f : NameOf → Region) (b : ℕ) (s : States) (k : ℕ) (w : Ghost) (m : Memory)
    → Scene d g scope f b b s k w m → Scene d g scope f m.activations b s k w m
scene_still d g scope f b s k w m h = record {
  names = h.names;
  base = omega arith;
  variables = h.variables;
  globals = h.globals;
  alongside = h.alongside;
  rooms = h.rooms;
  inside = h.inside;
  counted = h.counted;
  indices = h.indices;
  own = h.own;
  begun = h.begun;
  below = h.below;
  stands = h.stands;
}

pub leaves_exchange : (n : ℕ) (d : Tables) (world : World) (tables : typing.Tables) (invokes : Invokes n d world tables) (b : ℕ) (gives : RunType) (g : Env)
    (scope : Scope) (f : NameOf → Region) (a c : Expression) → Surrounds d world tables g scope f gives → Exchanging g a c
    → AreFound world.strings (expression_strings a) → AreFound world.strings (expression_strings c)
    → Leaves n d gives g scope f b (left_by g (Statement.Exchange a c)) (statement (Statement.Exchange a c) scope)
leaves_exchange n d world tables invokes b gives g scope f a c h j fa fc = by za.sound zc.sound
  where
    ta : StaticType
    ta = j.left.value.type

    fits : (is_place j.left.value.seat ≡ true) × (is_place j.right.value.seat ≡ true) × (is_same ta j.right.value.type ≡ true) × (is_scalar ta ≡ true)
        × (not (is_key ta) ≡ true)
    fits = all_five (is_place j.left.value.seat) (is_place j.right.value.seat) (is_same ta j.right.value.type) (is_scalar ta) (not (is_key ta)) j.fits

    one_type : ta ≡ j.right.value.type
    one_type = same_is ta j.right.value.type fits.2

    one : cells_type d f ta ≡ renamed f ta ∷ []
    one = scalar_cell d f ta fits.3

    p : States → Passed
    p = (use_of g a).look

    q : States → Passed
    q = (use_of g c).look

    za : Denotes n d g scope f b b j.left.value (use_of g a) (sense a scope)
    za = denotes n d world tables invokes b gives g scope f a h j.left fa

    zc : Denotes n d g scope f b b j.right.value (use_of g c) (sense c scope)
    zc = denotes n d world tables invokes b gives g scope f c h j.right fc

    post : (s : States) (k : ℕ) (w : Ghost) (m : Memory) → Flow → Memory → Type 0
    post s k w m flow = After d k b w m (λ w' m'. WaysStand d gives g scope f (left_by g (Statement.Exchange a c) s) flow w' m')

    -- both places are known
    exchanged : (s : States) (k : ℕ) (w : Ghost) (m : Memory) (own other : Bool) (x y : Spot) (w1 : Ghost) (m1 : Memory) (w2 : Ghost) (m2 : Memory)
        → Grows k b w m w1 m1 → b ≤ m1.activations → Grows k m1.activations w1 m1 w2 m2 → Inv d w2 m2 → NamesOk g.regions f k w2 m2
        → PlaceStands d f b own j.left.value.seat ta x w1 m1 → PlaceStands d f b other j.right.value.seat j.right.value.type y w2 m2
        → Standing d g scope f (q (p s).states).states w2 m2
        → Runs n (exchange_at x y >> give Falls) m2 (post s k w m)
    exchanged s k w m own other x y w1 m1 w2 m2 g1 base g2 i2 names hx hy st =
        let left_place : Still d b w2 m2 x (renamed f ta) =
        place_still d f b j.left.value.seat ta x own (renamed f ta) w2 m2 i2 one
        (place_stays d f b j.left.value.seat ta x own g k w1 m1 w2 m2 i2 names za.seated g2 hx) in
        let right_place : Still d b w2 m2 y (renamed f ta) =
        place_still d f b j.right.value.seat ta y other (renamed f ta) w2 m2 i2 one
        (subst (λ (t : StaticType). PlaceStands d f b other j.right.value.seat t y w2 m2) (sym one_type) hy) in
        runs_exchange d n k b w2 m2 x y (renamed f ta) (give Falls) (post s k w m) i2 left_place.live right_place.live left_place.held right_place.held
        left_place.ours right_place.ours
        (λ w3 m3 i3 g3 back cells types. record {
          by = λ next go. go Falls m3 (record {
            ghost = w3;
            inv = i3;
            grows = grows_trans g1 (grows_trans (grows_base base g2) g3);
            holds = (
              (then_passed (p s) q).states,
              refl,
              all_again w2 m2 w3 m3 (exchange_rewrites d w2 m2 x y (renamed f ta) left_place.held right_place.held w3 m3 types cells) g.tables d f g.locals
                  scope.locals (q (p s).states).states st,
            );
          });
        })

    -- the right place is found
    right : (s : States) (k : ℕ) (w : Ghost) (m : Memory) (own : Bool) (x : Spot) (w1 : Ghost) (m1 : Memory) → (q (p s).states).faults ≡ []
        → Grows k b w m w1 m1 → Inv d w1 m1 → Scene d g scope f b b (p s).states k w1 m1 → PlaceStands d f b own j.left.value.seat ta x w1 m1
        → Runs n ((sense c scope).place >>= λ y. exchange_at x y >> give Falls) m1 (post s k w m)
    right s k w m own x w1 m1 none g1 i1 x1 hx = found quiet.sound
      where
        quiet : Denotes n d g scope f m1.activations b j.right.value (use_of g c) (sense c scope)
        quiet = denotes_by n d world tables invokes b gives m1.activations b g scope f c (inr j.still) h j.right fc

        found : Sound n d g scope f m1.activations b j.right.value (use_of g c) quiet.own (sense c scope) ⊎ Refuses n d g scope f m1.activations b (use_of g c)
            → Runs n ((sense c scope).place >>= λ y. exchange_at x y >> give Falls) m1 (post s k w m)
        found (inr r) = absurd (r.look (p s).states none)
        found (inl r) = record {
          by = λ next go. (r.place fits.1 (p s).states none k w1 m1 i1 (scene_still d g scope f b (p s).states k w1 m1 x1)).by
              (λ y. (exchange_at x y >> give Falls) next) (λ y m2 v.
              let x2 : Scene d g scope f m1.activations b (q (p s).states).states k v.ghost m2 =
              scene_later d g scope f m1.activations b (p s).states (q (p s).states).states k w1 m1 v.ghost m2 v.inv v.grows v.holds.1
              (scene_still d g scope f b (p s).states k w1 m1 x1) in
              (exchanged s k w m own quiet.own x y w1 m1 v.ghost m2 g1 x1.base v.grows v.inv x2.names hx v.holds.0 v.holds.1).by next go);
        }

    by : Sound n d g scope f b b j.left.value (use_of g a) za.own (sense a scope) ⊎ Refuses n d g scope f b b (use_of g a)
        → Sound n d g scope f b b j.right.value (use_of g c) zc.own (sense c scope) ⊎ Refuses n d g scope f b b (use_of g c)
        → Leaves n d gives g scope f b (left_by g (Statement.Exchange a c)) (statement (Statement.Exchange a c) scope)
    by (inr r) z = λ s none. absurd (r.look s (none_first (p s).faults (q (p s).states).faults none))
    by (inl y) (inr r) = λ s none. absurd (r.look (p s).states (none_second (p s).faults (q (p s).states).faults none))
    by (inl y) (inl z) = λ s none k w m i x.
        let object : IsObjectType ta = za.place fits.0 in
        let left_shape : (sense a scope).shape ≡ shape_of ta = y.shape (object_some ta object) in
        let right_shape : (sense c scope).shape ≡ shape_of ta =
        z.shape (λ e. object_some ta object (one_type ∙ e)) ∙ ap shape_of (sym one_type) in
        let same : same_shape (sense a scope).shape (sense c scope).shape ≡ true =
        ap (λ (sh : Shape). same_shape sh (sense c scope).shape) left_shape ∙ (ap (same_shape (shape_of ta)) right_shape ∙ shape_itself ta object) in
        runs_check n (same_shape (sense a scope).shape (sense c scope).shape)
        ((sense a scope).place >>= λ at. (sense c scope).place >>= λ to. exchange_at at to >> give Falls) m (post s k w m) same (record {
          by = λ next go. (y.place fits.0 s (none_first (p s).faults (q (p s).states).faults none) k w m i x).by
              (λ at. ((sense c scope).place >>= λ to. exchange_at at to >> give Falls) next) (λ at m1 v.
              let x1 : Scene d g scope f b b (p s).states k v.ghost m1 =
              scene_later d g scope f b b s (p s).states k w m v.ghost m1 v.inv v.grows v.holds.1 x in
              (right s k w m za.own at v.ghost m1 (none_second (p s).faults (q (p s).states).faults none) v.grows v.inv x1 v.holds.0).by next go);
        })
