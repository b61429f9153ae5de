-- What surrounds a statement: the program's names and the locals, and how blocks and declarations change them.
use Rattle.std.proofs.Common.{◌≡◌, ℕ, ◌+◌, ◌<◌, ◌≤◌, Bool, true, false, inl, inr, Some, List, [], ◌∷◌, refl, sym, ◌∙◌, ap, subst, arith}
use Rattle.std.specs.Prelude.{bytes_eq, not, if◌then◌else◌}
use Rattle.std.proofs.lemmas.Bool.{eq-eqb}
use Rattle.std.proofs.lemmas.Bool.Decides.{eqb_tells}
use Rattle.cyc_tree.specs.Tree as tree
use Rattle.source_meaning.specs.Shapes.{Shape, UnsignedShape, ArrayShape}
use Rattle.source_meaning.specs.Memory.{Region, Frame, Spot, Scalar, Memory}
use Rattle.source_meaning.specs.Steps.{Binding, Entity, Variable, World, Scope}
use Rattle.source_meaning.specs.Places.{bound_to, or_else, entity_of, with_binding}
use Rattle.source_typing.specs.Regions.{Regions, TheHeap, Level, same_id, with_scope}
use Rattle.source_typing.specs.Scope.{Env, InRegion, Local, find_local, meant, block_entered}
use Rattle.source_typing.specs.Left.{begins_as}
use Rattle.source_typing.specs.States.{State, States}
use Rattle.source_typing.specs.Tables as typing
use Rattle.source_typing.specs.Tables.{What, is_copyable, Counter, Unknown, Entry, OfValue, OfFunction, Stored, Arrayed, Signature, find}
use Rattle.source_typing.specs.Types.{Int, Unsigned, Char, Void, Null, Thin, Fat, Unique, Handle, Key, Struct, Union, StaticType, renamed, shape_of}
use Rattle.type_proof.specs.Flat.{Tables, flat}
use Rattle.type_proof.specs.Judged.{named, extended, arrayed}
use Rattle.type_proof.proofs.invariant.Facts.{if_cases}
use Rattle.type_proof.proofs.invariant.Invariant.{RunType, heap, Nobody, Kept, Known, Ghost, Laid, AllLaid, Inv}
use Rattle.type_proof.proofs.invariant.Arguments.{Agrees}
use Rattle.type_proof.proofs.invariant.Layouts.{Structs, agrees}
use Rattle.type_proof.proofs.invariant.Scopes.{above_scope, block_ghost, block_memory, frame_births}
use Rattle.type_proof.proofs.invariant.Names.{NameOf, naming, names_scope}
use Rattle.source_typing.specs.Named.{Below}
use Rattle.source_typing.proofs.NamedBelow.{all_up, below_up}
use Rattle.type_proof.proofs.invariant.Scenes.{
  AllBelow,
  TypeBelow,
  Alike,
  renamed_alike,
  Bound,
  BoundAs,
  LivesAs,
  LaidAs,
  bound_as_alike,
  lives_more,
  laid_as_later,
  globals_kept,
  Binds,
  IndexStands,
  index_beside,
  Scene,
}
use Rattle.type_proof.proofs.invariant.Objects.{FullAt}
use Rattle.type_proof.proofs.invariant.Received.{kept_as, laid_new, stands_new}
use Rattle.type_proof.proofs.invariant.Standing.{owns, is_own, InRoom, Room, ApartFrom, EntityWithin, EntityCounted, WhatBelow, LocalsBelow, LocalStands}
use Rattle.type_proof.proofs.invariant.Standing.{SameAll, Standing, all_same, all_more}
use Rattle.type_proof.proofs.invariant.Standing as standing
use Rattle.type_proof.proofs.Entries.{IsObjectType, MeansEntry, MeansPlain}

-- a function's result: its shape, and its type in this run
pub record ResultIs (g : Env) (scope : Scope) (f : NameOf → Region) (gives : RunType) (t : StaticType) : Type 0 where
  pub shape : scope.result ≡ shape_of t
  pub below : TypeBelow g.regions.count t
  pub run : renamed f t ≡ gives

-- What holds of a scope wherever its function is run, where it gives a value of this type of the run: the names of the program are these, and what is in
-- scope is known.
pub record Surrounds (d : Tables) (world : World) (tables : typing.Tables) (g : Env) (scope : Scope) (f : NameOf → Region) (gives : RunType) : Type 0 where
  pub tables_are : g.tables ≡ tables
  pub world_is : scope.world ≡ world
  pub structs : Structs d world tables
  pub binds : Binds g scope f
  pub plain : MeansPlain scope.world g
  pub functions : (x : List ℕ) (s : Signature) → meant g x ≡ Some (OfFunction s) → find g.tables x ≡ Some (OfFunction s)
  pub result : (t : StaticType) → g.result ≡ Some t → ResultIs g scope f gives t
  -- the rules on liveness hold, and no `rnew` is around
  pub strict : g.lenient ≡ false
  pub inside : g.enclosing ≡ InRegion TheHeap
  -- the innermost block's region
  pub frame : f g.frame ≡ Frame scope.frame
  pub frame_lives : g.regions.live g.frame ≡ true
  pub frame_below : Below g.regions.count g.frame

-- the structs have the cells of their types
pub agrees_here : (d : Tables) (world : World) (tables : typing.Tables) (g : Env) (scope : Scope) (f : NameOf → Region) (gives : RunType)
    → Surrounds d world tables g scope f gives → Agrees scope.world d
agrees_here d world tables g scope f gives h = subst (λ (y : World). Agrees y d) (sym h.world_is) (agrees d world tables h.structs)

-- ---- a local is declared

module _ (d : Tables) (world : World) (tables : typing.Tables) (g : Env) (scope : Scope) (f : NameOf → Region) (x : tree.Name) (v : What) (e : Entity)
    (gives : RunType) (h : Surrounds d world tables g scope f gives) (plain : (y : List ℕ) → MeansEntry scope.world y (OfValue v))
    (bound : BoundAs g.regions.count f (Some e) v) (lives : LivesAs g.regions.live v) (no_index : v ≡ Counter → ⊥)
  where
    name_bound : (y : List ℕ) (u : What) (c : Bool) → (if c then Some (OfValue v) else meant g y) ≡ Some (OfValue u)
        → BoundAs g.regions.count f (or_else (if c then Some e else bound_to scope.locals y) (bound_to scope.world.globals y)) u
    name_bound y u true z = let a : v ≡ u = cc in subst (λ (q : What). BoundAs g.regions.count f (Some e) q) a bound
    name_bound y u false z = h.binds.variables y u z

    name_live : (y : List ℕ) (u : What) (c : Bool) → (if c then Some (OfValue v) else meant g y) ≡ Some (OfValue u) → LivesAs g.regions.live u
    name_live y u true z = let a : v ≡ u = cc in subst (λ (q : What). LivesAs g.regions.live q) a lives
    name_live y u false z = h.binds.live y u z

    entry_plain : (y : List ℕ) (o : Entry) (c : Bool) → (if c then Some (OfValue v) else meant g y) ≡ Some o → MeansEntry scope.world y o
    entry_plain y o true z = let q : OfValue v ≡ o = cc in subst (λ (u : Entry). MeansEntry scope.world y u) q (plain y)
    entry_plain y o false z = h.plain y o z

    function_found : (y : List ℕ) (s : Signature) (c : Bool) → (if c then Some (OfValue v) else meant g y) ≡ Some (OfFunction s)
        → find g.tables y ≡ Some (OfFunction s)
    function_found y s true z = absurd cc
    function_found y s false z = h.functions y s z

    pub surrounds_named : Surrounds d world tables (named g x v) (with_binding scope x.text e) f gives
    surrounds_named = record {
      tables_are = h.tables_are;
      world_is = h.world_is;
      structs = h.structs;
      binds = record {
        variables = λ y u z. name_bound y u (bytes_eq x.text y) z;
        live = λ y u z. name_live y u (bytes_eq x.text y) z;
        globals = h.binds.globals;
      };
      plain = λ y o z. entry_plain y o (bytes_eq x.text y) z;
      functions = λ y s z. function_found y s (bytes_eq x.text y) z;
      result = λ u z. let r : ResultIs g scope f gives u = h.result u z in record { shape = r.shape; below = r.below; run = r.run };
      strict = h.strict;
      inside = h.inside;
      frame = h.frame;
      frame_lives = h.frame_lives;
      frame_below = h.frame_below;
    }

    name_laid : (b : ℕ) (s : States) (k : ℕ) (w : Ghost) (m : Memory) → Scene d g scope f b b s k w m → (owns g.tables v ≡ false → LaidAs d f w (Some e) v)
        → (y : List ℕ) (u : What) (c : Bool)
        → (if c then Some (OfValue v) else meant g y) ≡ Some (OfValue u)
        → is_own g.tables (if c then Some (record { name = x.text; what = v; block = g.block }) else find_local g.locals y) ≡ false
        → LaidAs d f w (or_else (if c then Some e else bound_to scope.locals y) (bound_to scope.world.globals y)) u
    name_laid b s k w m z laid y u true q o = let a : v ≡ u = cc in subst (λ (p : What). LaidAs d f w (Some e) p) a (laid o)
    name_laid b s k w m z laid y u false q o = z.variables y u q o

    name_stands : (b : ℕ) (s : States) (k : ℕ) (w : Ghost) (m : Memory) → Scene d g scope f b b s k w m → (y : List ℕ) (at : Spot) (c : Bool)
        → (if c then Some (OfValue v) else meant g y) ≡ Some (OfValue Counter)
        → or_else (if c then Some e else bound_to scope.locals y) (bound_to scope.world.globals y) ≡ Some (Variable UnsignedShape at) → IndexStands w m at
    name_stands b s k w m z y at true q o = absurd (no_index (let a : v ≡ Counter = cc in a))
    name_stands b s k w m z y at false q o = z.indices y at q o

    -- the new local has a place of its own, and stands in some state
    pub scene_named : (b : ℕ) (a : State) (s : States) (k : ℕ) (w : Ghost) (m : Memory) → Scene d g scope f b b s k w m
        → (owns g.tables v ≡ false → LaidAs d f w (Some e) v)
        → InRoom b e scope.locals → EntityWithin m.activations e → EntityCounted m e → WhatBelow g.regions.count v → LocalStands g.tables d f v e a w m
        → Scene d (named g x v) (with_binding scope x.text e) f b b (a ∷ s) k w m
    scene_named b a s k w m z laid room inside counted below stands = record {
      names = z.names;
      base = z.base;
      variables = λ y u q o. name_laid b s k w m z laid y u (bytes_eq x.text y) q o;
      globals = z.globals;
      alongside = (refl, z.alongside);
      rooms = (room, z.rooms);
      inside = (inside, z.inside);
      counted = (counted, z.counted);
      indices = λ y at q o. name_stands b s k w m z y at (bytes_eq x.text y) q o;
      own = z.own;
      begun = z.begun;
      below = (below, z.below);
      stands = (stands, z.stands);
    }

-- a variable, or an array, of a type in the innermost block
module _ (d : Tables) (world : World) (tables : typing.Tables) (g : Env) (scope : Scope) (f : NameOf → Region) (x : tree.Name) (t : StaticType) (at : Spot)
    (gives : RunType) (h : Surrounds d world tables g scope f gives) (object : IsObjectType t) (below : TypeBelow g.regions.count t)
    (there : at.region ≡ Frame scope.frame)
  where
    new_bound : (s : Shape) → Bound g.regions.count f (Some (Variable s at)) s t g.frame
    new_bound s = record { at = at; is = refl; region = there ∙ sym h.frame; within = h.frame_below; below = below }

    pub surrounds_local : Surrounds d world tables (extended g x t) (with_binding scope x.text (Variable (shape_of t) at)) f gives
    surrounds_local =
        surrounds_named d world tables g scope f x (Stored t g.frame) (Variable (shape_of t) at) gives h (λ y. object) (new_bound (shape_of t)) h.frame_lives
        (λ q. cc)

    pub surrounds_array : (n : ℕ) → Surrounds d world tables (arrayed g x t) (with_binding scope x.text (Variable (ArrayShape n (shape_of t)) at)) f gives
    surrounds_array n =
        surrounds_named d world tables g scope f x (Arrayed t g.frame) (Variable (ArrayShape n (shape_of t)) at) gives h (λ y. object)
        (n, new_bound (ArrayShape n (shape_of t))) h.frame_lives (λ q. cc)

    -- the only variable that the name is bound to
    local_laid : (w : Ghost) → Laid w at (flat heap d (renamed f t)) → LaidAs d f w (Some (Variable (shape_of t) at)) (Stored t g.frame)
    local_laid w laid = λ s q. let c : at ≡ s = cc in subst (λ (p : Spot). Laid w p (flat heap d (renamed f t))) c laid

    array_laid : (w : Ghost) (n : ℕ) → AllLaid w at n (flat heap d (renamed f t))
        → LaidAs d f w (Some (Variable (ArrayShape n (shape_of t)) at)) (Arrayed t g.frame)
    array_laid w n laid = λ s c q.
        let a : at ≡ s = cc in
        let e : n ≡ c = cc in
        subst (λ (p : Spot). AllLaid w p c (flat heap d (renamed f t))) a (subst (λ (k : ℕ). AllLaid w at k (flat heap d (renamed f t))) e laid)

    -- it lies in the innermost block, in a new object
    new_room : (b : ℕ) (s : States) (k : ℕ) (w : Ghost) (m : Memory) → Scene d g scope f b b s k w m → ApartFrom at scope.locals → Room b at scope.locals
    new_room b s k w m z apart = record { frame = scope.frame; region = there; own = z.own; apart = apart }

    new_within : (b : ℕ) (s : States) (k : ℕ) (w : Ghost) (m : Memory) → Scene d g scope f b b s k w m → (i : ℕ) → at.region ≡ Frame i → i < m.activations
    new_within b s k w m z i e =
        let known : scope.frame < m.activations = subst (λ (r : Region). Known m r) h.frame (z.names.known g.frame h.frame_below) in
        subst (λ (r : Region). Known m r) (sym there ∙ e) known

    reached : (c : Bool) → not c ≡ false → c ≡ true
    reached true e = refl
    reached false e = absurd cc

    -- a local that holds a value
    pub scene_local : (b : ℕ) (top : Env) (s : States) (k : ℕ) (w : Ghost) (m : Memory) (vs : List Scalar) → top.tables ≡ g.tables
        → Scene d g scope f b b s k w m
        → FullAt (kept_as g.tables t) w m at (flat heap d (renamed f t)) vs
        → ApartFrom at scope.locals → at.object < m.objects at.region
        → Scene d (extended g x t) (with_binding scope x.text (Variable (shape_of t) at)) f b b (begins_as top (Stored t g.frame) ∷ s) k w m
    scene_local b top s k w m vs same z full apart counted =
        scene_named d world tables g scope f x (Stored t g.frame) (Variable (shape_of t) at) gives h (λ y. object) (new_bound (shape_of t))
        h.frame_lives (λ q. cc)
        b (begins_as top (Stored t g.frame)) s k w m z
        (λ o. local_laid w (laid_new g.tables d f t w m at vs full (reached (is_copyable g.tables t) o))) (new_room b s k w m z apart)
        (new_within b s k w m z) counted below
        (stands_new g.tables d f t w m at vs full g.frame (shape_of t) top same)

    pub scene_array : (n b : ℕ) (a : State) (s : States) (k : ℕ) (w : Ghost) (m : Memory) → Scene d g scope f b b s k w m
        → AllLaid w at n (flat heap d (renamed f t))
        → ApartFrom at scope.locals → at.object < m.objects at.region
        → Scene d (arrayed g x t) (with_binding scope x.text (Variable (ArrayShape n (shape_of t)) at)) f b b (a ∷ s) k w m
    scene_array n b a s k w m z laid apart counted =
        scene_named d world tables g scope f x (Arrayed t g.frame) (Variable (ArrayShape n (shape_of t)) at) gives h (λ y. object)
        (n, new_bound (ArrayShape n (shape_of t))) h.frame_lives (λ q. cc) b a s k w m z (λ o. array_laid w n laid) (new_room b s k w m z apart)
        (new_within b s k w m z)
        counted tt tt

-- ---- a block is entered

pub type_up : (n : ℕ) (t : StaticType) → TypeBelow n t → TypeBelow (n + 1) t
type_up n Int h = tt
type_up n Unsigned h = tt
type_up n Char h = tt
type_up n Void h = tt
type_up n Null h = tt
type_up n (Thin b r t) h = (below_up n r h.0, type_up n t h.1)
type_up n (Fat r t) h = (below_up n r h.0, type_up n t h.1)
type_up n (Unique b t) h = type_up n t h
type_up n (Handle r) h = below_up n r h
type_up n (Key r) h = below_up n r h
type_up n (Struct tag rs) h = all_up n rs h
type_up n (Union tag rs) h = all_up n rs h

-- names that are there from the start
pub below_zero : (n : ℕ) (a : NameOf) → Below 0 a → Below n a
below_zero n TheHeap h = tt
below_zero n (Level k) h = absurd (omega (arith, h))

all_zero : (n : ℕ) (rs : List NameOf) → AllBelow 0 rs → AllBelow n rs
all_zero n [] h = tt
all_zero n (r ∷ rs) h = (below_zero n r h.0, all_zero n rs h.1)

pub type_zero : (n : ℕ) (t : StaticType) → TypeBelow 0 t → TypeBelow n t
type_zero n Int h = tt
type_zero n Unsigned h = tt
type_zero n Char h = tt
type_zero n Void h = tt
type_zero n Null h = tt
type_zero n (Thin b r t) h = (below_zero n r h.0, type_zero n t h.1)
type_zero n (Fat r t) h = (below_zero n r h.0, type_zero n t h.1)
type_zero n (Unique b t) h = type_zero n t h
type_zero n (Handle r) h = below_zero n r h
type_zero n (Key r) h = below_zero n r h
type_zero n (Struct tag rs) h = all_zero n rs h
type_zero n (Union tag rs) h = all_zero n rs h

-- the older names stand for what they stood for
pub naming_alike : (f : NameOf → Region) (n : ℕ) (r : Region) → Alike n f (naming f n r)
naming_alike f n r TheHeap h = refl
naming_alike f n r (Level k) h = elim (eqb_tells k n) [
  | inl e ↦ absurd (let q = e.1 in omega (arith, h))
  | inr e ↦ ap (λ (c : Bool). if c then r else f (Level k)) e.0
]

-- what was live stays live
pub lives_in_scope : (g : Regions) (r : NameOf) → g.live r ≡ true → (with_scope g).live r ≡ true
lives_in_scope g r l = if_cases (same_id r (Level g.count)) true (g.live r) (λ z. z ≡ true) (λ z. refl) (λ z. l)

pub naming_itself : (f : NameOf → Region) (n : ℕ) (r : Region) → naming f n r (Level n) ≡ r
naming_itself f n r = ap (λ (c : Bool). if c then r else f (Level n)) (eq-eqb n n refl)

module _ (d : Tables) (world : World) (tables : typing.Tables) (g : Env) (scope : Scope) (f : NameOf → Region) (gives : RunType)
    (h : Surrounds d world tables g scope f gives) (a : ℕ) where
  -- what the names stand for in the block
  abbrev pub block_names : NameOf → Region
  block_names = naming f g.regions.count (Frame a)

  pub surrounds_block : Surrounds d world tables (block_entered g) (record scope { frame = a }) block_names gives
  surrounds_block = record {
    tables_are = h.tables_are;
    world_is = h.world_is;
    structs = h.structs;
    binds = record {
      variables = λ y u e. bound_as_alike g.regions.count (g.regions.count + 1) f block_names (entity_of scope y) u (below_up g.regions.count)
          (type_up g.regions.count) (naming_alike f g.regions.count (Frame a)) (h.binds.variables y u e);
      live = λ y u e. lives_more g.regions.live (with_scope g.regions).live u (lives_in_scope g.regions) (h.binds.live y u e);
      globals = h.binds.globals;
    };
    plain = h.plain;
    functions = h.functions;
    result = λ t e.
        let r : ResultIs g scope f gives t = h.result t e in record {
          shape = r.shape;
          below = type_up g.regions.count t r.below;
          run = renamed_alike g.regions.count f block_names t (naming_alike f g.regions.count (Frame a)) r.below ∙ r.run;
        };
    strict = h.strict;
    inside = h.inside;
    frame = naming_itself f g.regions.count (Frame a);
    frame_lives = ap (λ (c : Bool). if c then true else g.regions.live (Level g.regions.count)) (eq-eqb g.regions.count g.regions.count refl);
    frame_below = omega arith;
  }

what_up : (n : ℕ) (v : What) → WhatBelow n v → WhatBelow (n + 1) v
what_up n (Stored t r) h = type_up n t h
what_up n (Arrayed t r) h = tt
what_up n Counter h = tt
what_up n (Unknown sound) h = tt

pub locals_up : (n : ℕ) (ls : List Local) → LocalsBelow n ls → LocalsBelow (n + 1) ls
locals_up n [] h = tt
locals_up n (l ∷ ls) h = (what_up n l.what h.0, locals_up n ls h.1)

-- cells that are all as they were
pub same_all : (tables : typing.Tables) (d : Tables) (f : NameOf → Region) (w : Ghost) (m : Memory) (w' : Ghost) (m' : Memory) (bs : List Binding)
    → ((y : Spot) (q : Kept) → w.types y ≡ Some q → w'.types y ≡ Some q) → ((y : Spot) → m'.cells y ≡ m.cells y) → SameAll tables d f w m w' m' bs
same_all tables d f w m w' m' [] t c = tt
same_all tables d f w m w' m' (y ∷ bs) t c =
    (λ sh s e. record { types = t; cells = λ p u a b q. c p }, same_all tables d f w m w' m' bs t c)

-- the locals stand in a block as they did, and once it is left
pub stands_in : (d : Tables) (g : Env) (scope : Scope) (f : NameOf → Region) (s : States) (r : Region) (w : Ghost) (m : Memory) (w' : Ghost) (m' : Memory)
    → LocalsBelow g.regions.count g.locals → ((y : Spot) (q : Kept) → w.types y ≡ Some q → w'.types y ≡ Some q) → ((y : Spot) → m'.cells y ≡ m.cells y)
    → Standing d g scope f s w m → Standing d g scope (naming f g.regions.count r) s w' m'
stands_in d g scope f s r w m w' m' below t c st =
    standing.all_alike g.tables d f (naming f g.regions.count r) g.regions.count g.locals scope.locals s w' m' (naming_alike f g.regions.count r) below
    (all_same g.tables d f w m w' m' g.locals scope.locals s (same_all g.tables d f w m w' m' scope.locals t c) st)

pub stands_out : (d : Tables) (g : Env) (scope : Scope) (f : NameOf → Region) (s : States) (r : Region) (w : Ghost) (m m' : Memory)
    → LocalsBelow g.regions.count g.locals → ((y : Spot) → m'.cells y ≡ m.cells y)
    → Standing d g scope (naming f g.regions.count r) s w m → Standing d g scope f s w m'
stands_out d g scope f s r w m m' below c st =
    all_same g.tables d f w m w m' g.locals scope.locals s (same_all g.tables d f w m w m' scope.locals (λ y q e. e) c)
    (standing.all_alike g.tables d (naming f g.regions.count r) f g.regions.count g.locals scope.locals s w m
    (λ a l. sym (naming_alike f g.regions.count r a l)) below st)

pub scene_block : (d : Tables) (world : World) (tables : typing.Tables) (g : Env) (scope : Scope) (f : NameOf → Region) (gives : RunType) (b : ℕ) (s : States)
    (k : ℕ) (w : Ghost)
    (m : Memory)
    → Surrounds d world tables g scope f gives → Inv d w m → Scene d g scope f b b s k w m
    → Scene d (block_entered g) (record scope { frame = m.activations }) (naming f g.regions.count (Frame m.activations)) b b s k (block_ghost w m)
    (block_memory m)
scene_block d world tables g scope f gives b s k w m h i z = record {
  names = names_scope d g.regions f k w m (m.activations + 1) m.births (Frame m.activations) i (frame_births d w m i) z.names;
  base = let l : b ≤ m.activations = z.base in omega (arith, l);
  variables = λ y u e o. laid_as_later g.regions.count d f (naming f g.regions.count (Frame m.activations)) w (block_ghost w m) (entity_of scope y) u
      (naming_alike f g.regions.count (Frame m.activations)) (h.binds.variables y u e) (λ p t l. l) (z.variables y u e o);
  globals = globals_kept d g.tables scope.world w (block_ghost w m) (λ p t l. l) z.globals;
  alongside = z.alongside;
  rooms = z.rooms;
  inside = all_more m.activations (m.activations + 1) scope.locals (omega arith) z.inside;
  counted = z.counted;
  indices = λ y at e o. index_beside w m (m.activations + 1) m.births (Frame m.activations) (above_scope w m (Frame m.activations)) Nobody false at
      (λ j l. omega (arith, l)) (z.indices y at e o);
  own = z.base;
  begun = omega arith;
  below = locals_up g.regions.count g.locals z.below;
  stands = stands_in d g scope f s (Frame m.activations) w m (block_ghost w m) (block_memory m) z.below (λ y q e. e) (λ y. refl) z.stands;
}
