-- The index of the elements that are made: in scope it is a local, the one variable of a block of its own.
use Rattle.std.proofs.Common.{◌≡◌, ℕ, ◌+◌, ◌<◌, ◌≤◌, Bool, true, false, Option, Some, List, [], ◌∷◌, refl, sym, subst, arith}
use Rattle.std.specs.Prelude.{bytes_eq, if◌then◌else◌}
use Rattle.cyc_tree.specs.Tree as tree
use Rattle.source_meaning.specs.Shapes.{UnsignedShape}
use Rattle.source_meaning.specs.Memory.{Region, Frame, Spot, Memory}
use Rattle.source_meaning.specs.Steps.{Entity, Variable, Binding, World, Scope}
use Rattle.source_meaning.specs.Places.{bound_to, or_else}
use Rattle.source_meaning.specs.Calls.{index_in}
use Rattle.source_meaning.specs.Expressions.{element_scope}
use Rattle.source_typing.specs.Making.{with_counter}
use Rattle.source_typing.specs.Moves.{without_first}
use Rattle.source_typing.specs.Scope.{Env, find_local, meant}
use Rattle.source_typing.specs.States.{Plain, States}
use Rattle.source_typing.specs.Tables.{What, Entry, Counter, OfValue, OfFunction, Signature, find}
use Rattle.type_proof.specs.Flat.{Tables}
use Rattle.type_proof.proofs.invariant.Invariant.{Nobody, Ghost, Inv}
use Rattle.type_proof.proofs.invariant.Names.{NameOf}
use Rattle.type_proof.proofs.invariant.NamesMore.{names_beside}
use Rattle.type_proof.proofs.invariant.Scopes.{above_scope, block_ghost, block_memory, frame_births}
use Rattle.type_proof.proofs.invariant.Scenes.{BoundAs, LivesAs, LaidAs, Binds, IndexStands, Scene, globals_kept, index_beside, laid_as_kept, stands_typed}
use Rattle.type_proof.proofs.invariant.Standing.{ApartFrom, EntityApart, EntityWithin, AllWithin, Standing, all_more, is_own}
use Rattle.type_proof.proofs.Entries.{MeansEntry, MeansPlain}

-- it lies apart from the locals of the blocks before
pub within_apart : (a : ℕ) (bs : List Binding) → AllWithin a bs → ApartFrom (index_in a) bs
within_apart a [] h = tt
within_apart a (y ∷ bs) h = (one y.entity h.0, within_apart a bs h.1)
  where
    one : (e : Entity) → EntityWithin a e → EntityApart (index_in a) e
    one (Variable sh at) q = λ u v. let l : a < a = q a (sym u) in omega (arith, l)

-- within its block all is as before it
pub scene_inside : (d : Tables) (g : Env) (scope : Scope) (f : NameOf → Region) (b low : ℕ) (s : States) (k : ℕ) (w : Ghost) (m : Memory) → Inv d w m
    → Scene d g scope f b low s k w m → Scene d g scope f b low s k (block_ghost w m) (block_memory m)
scene_inside d g scope f b low s k w m i z = record {
  names = names_beside d g.regions f k w m (m.activations + 1) m.births (Frame m.activations) i (frame_births d w m i) z.names;
  base = let l : b ≤ m.activations = z.base in omega (arith, l);
  variables = λ y u e o. laid_as_kept d f w (block_ghost w m) _ u (λ p t l. l) (z.variables y u e o);
  globals = globals_kept d g.tables scope.world w (block_ghost w m) (λ p t l. l) z.globals;
  alongside = z.alongside;
  rooms = z.rooms;
  inside = all_more m.activations (m.activations + 1) scope.locals (omega arith) z.inside;
  counted = z.counted;
  indices = λ y at e o. index_beside w m (m.activations + 1) m.births (Frame m.activations) (above_scope w m (Frame m.activations)) Nobody false at
      (λ j l. omega (arith, l)) (z.indices y at e o);
  own = z.own;
  begun = let l : scope.frame < m.activations = z.begun in omega (arith, l);
  below = z.below;
  stands = stands_typed d g scope f s w m (block_ghost w m) (block_memory m) (λ y q e. e) (λ y q e. refl) z.stands;
}

module _ (g : Env) (scope : Scope) (f : NameOf → Region) (x : tree.Name) (a : ℕ) where
  -- the scope of an element in an activation of the block
  abbrev pub counted_scope : Scope
  counted_scope = element_scope scope x.text a

  -- what the index stands for
  abbrev numbered : Entity
  numbered = Variable UnsignedShape (index_in a)

  bound : (binds : Binds g scope f) (y : List ℕ) (u : What) (c : Bool) → (if c then Some (OfValue Counter) else meant g y) ≡ Some (OfValue u)
      → BoundAs g.regions.count f (or_else (if c then Some numbered else bound_to scope.locals y) (bound_to scope.world.globals y)) u
  bound binds y u true z =
      let e : Counter ≡ u = cc in
      subst (λ (q : What). BoundAs g.regions.count f (Some numbered) q) e (record { at = index_in a; is = refl })
  bound binds y u false z = binds.variables y u z

  lives : (binds : Binds g scope f) (y : List ℕ) (u : What) (c : Bool) → (if c then Some (OfValue Counter) else meant g y) ≡ Some (OfValue u)
      → LivesAs g.regions.live u
  lives binds y u true z = let e : Counter ≡ u = cc in subst (λ (q : What). LivesAs g.regions.live q) e tt
  lives binds y u false z = binds.live y u z

  pub counter_binds : Binds g scope f → Binds (with_counter x g) counted_scope f
  counter_binds binds = record {
    variables = λ y u z. bound binds y u (bytes_eq x.text y) z;
    live = λ y u z. lives binds y u (bytes_eq x.text y) z;
    globals = binds.globals;
  }

  means : (world : World) → MeansPlain world g → (y : List ℕ) (e : Entry) (c : Bool) → (if c then Some (OfValue Counter) else meant g y) ≡ Some e
      → MeansEntry world y e
  means world plain y e true z = let q : OfValue Counter ≡ e = cc in subst (λ (u : Entry). MeansEntry world y u) q tt
  means world plain y e false z = plain y e z

  pub counter_means : (world : World) → MeansPlain world g → MeansPlain world (with_counter x g)
  counter_means world plain = λ y e z. means world plain y e (bytes_eq x.text y) z

  pub counter_functions : ((y : List ℕ) (s : Signature) → meant g y ≡ Some (OfFunction s) → find g.tables y ≡ Some (OfFunction s))
      → (y : List ℕ) (s : Signature)
      → meant (with_counter x g) y ≡ Some (OfFunction s) → find g.tables y ≡ Some (OfFunction s)
  counter_functions functions y s z = by (bytes_eq x.text y) z
    where
      by : (c : Bool) → (if c then Some (OfValue Counter) else meant g y) ≡ Some (OfFunction s) → find g.tables y ≡ Some (OfFunction s)
      by true e = absurd cc
      by false e = functions y s e

  module _ (d : Tables) (b : ℕ) (low : ℕ) (s : States) (i : ℕ) (w : Ghost) (m : Memory) where
    laid : Scene d g scope f b low s i w m → (y : List ℕ) (u : What) (c : Bool) → (if c then Some (OfValue Counter) else meant g y) ≡ Some (OfValue u)
        → is_own g.tables (if c then Some (record { name = x.text; what = Counter; block = g.block }) else find_local g.locals y) ≡ false
        → LaidAs d f w (or_else (if c then Some numbered else bound_to scope.locals y) (bound_to scope.world.globals y)) u
    laid h y u true z o = let e : Counter ≡ u = cc in subst (λ (q : What). LaidAs d f w (Some numbered) q) e tt
    laid h y u false z o = h.variables y u z o

    stands_here : Scene d g scope f b low s i w m → IndexStands w m (index_in a) → (y : List ℕ) (at : Spot) (c : Bool)
        → (if c then Some (OfValue Counter) else meant g y) ≡ Some (OfValue Counter)
        → or_else (if c then Some numbered else bound_to scope.locals y) (bound_to scope.world.globals y) ≡ Some (Variable UnsignedShape at)
        → IndexStands w m at
    stands_here h index y at true z o = let e : index_in a ≡ at = cc in subst (λ (q : Spot). IndexStands w m q) e index
    stands_here h index y at false z o = h.indices y at z o

    -- it comes into scope, and no other local changes
    pub scene_counter : low ≤ a → ApartFrom (index_in a) scope.locals → IndexStands w m (index_in a) → 0 < m.objects (Frame a)
        → Scene d g scope f b low s i w m → Scene d (with_counter x g) counted_scope f b low (Plain ∷ s) i w m
    scene_counter own apart index counted h = record {
      names = h.names;
      base = h.base;
      variables = λ y u z o. laid h y u (bytes_eq x.text y) z o;
      globals = h.globals;
      alongside = (refl, h.alongside);
      rooms = (record { frame = a; region = refl; own = own; apart = apart }, h.rooms);
      inside = (λ j e. within j e, h.inside);
      counted = (counted, h.counted);
      indices = λ y at e o. stands_here h index y at (bytes_eq x.text y) e o;
      own = own;
      begun = within a refl;
      below = (tt, h.below);
      stands = (tt, h.stands);
    }
      where
        within : (j : ℕ) → Frame a ≡ Frame j → j < m.activations
        within j e =
            let known : index.frame < m.activations = index.known in
            let same : Frame j ≡ Frame index.frame = (let p : Frame a ≡ Frame index.frame = index.region in cc) in
            let number : j ≡ index.frame = cc in
            omega (arith, known, number)

    -- and goes out of it
    pub counter_left : Standing d (with_counter x g) counted_scope f s w m → Standing d g scope f (without_first s) w m
    counter_left h = by s h
      where
        by : (t : States) → Standing d (with_counter x g) counted_scope f t w m → Standing d g scope f (without_first t) w m
        by [] z = absurd z
        by (c ∷ t) z = z.1
