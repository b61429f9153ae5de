-- What stands for the names in scope: each variable has its cells, in a region that is live.
use Rattle.std.proofs.Common.{◌≡◌, ℕ, suc, ◌<◌, ◌≤◌, Bool, true, false, arith, Option, Some, List, [], ◌∷◌, refl, sym, ◌∙◌, subst}
use Rattle.source_meaning.specs.Shapes.{Shape, ArrayShape, UnsignedShape}
use Rattle.source_meaning.specs.Memory.{Region, Frame, Spot, Live, Memory}
use Rattle.source_meaning.specs.Steps.{Binding, Entity, Variable, World, Scope}
use Rattle.source_meaning.specs.Places.{bound_to, entity_of}
use Rattle.source_typing.specs.Scope.{Env, find_local, meant}
use Rattle.source_typing.specs.States.{States}
use Rattle.source_typing.specs.Tables as typing
use Rattle.source_typing.specs.Tables.{What, OfValue, Stored, Arrayed, Counter, Unknown, find}
use Rattle.source_typing.specs.Types.{StaticType, Unsigned, renamed, shape_of}
use Rattle.type_proof.specs.Flat.{Tables, flat}
pub use Rattle.source_typing.specs.Named.{AllBelow, TypeBelow}
pub use Rattle.type_proof.proofs.invariant.Alikes.{Alike, renamed_alike}
use Rattle.type_proof.proofs.invariant.Standing.{Alongside, Rooms, AllWithin, AllCounted, counted_more, LocalsBelow, Standing, SameAll, is_own, all_more}
use Rattle.type_proof.proofs.invariant.Standing.{all_kept, all_same}
use Rattle.type_proof.proofs.invariant.Facts.{at_region}
use Rattle.type_proof.proofs.invariant.Births.{bearing, with_birth}
use Rattle.type_proof.proofs.invariant.Invariant.{RunType, heap, Kept, Reached, Private, Owner, Ghost, Laid, AllLaid, Inv, Grows}
use Rattle.type_proof.proofs.invariant.Values.{laid_kept, all_laid_kept}
use Rattle.type_proof.proofs.Strings.{StringsLaid, strings_kept}
use Rattle.type_proof.proofs.invariant.Names.{NameOf, NamesOk, names_later, names_more}
use Rattle.source_typing.specs.Named.{Below}
use Rattle.type_proof.proofs.invariant.After.{base_later}

-- ---- variables and arrays

-- a variable of a shape and a type, in the region of a name
pub record Bound (count : ℕ) (f : NameOf → Region) (e : Option Entity) (s : Shape) (t : StaticType) (r : NameOf) : Type 0 where
  pub at : Spot
  pub is : e ≡ Some (Variable s at)
  pub region : at.region ≡ f r
  pub within : Below count r
  pub below : TypeBelow count t

-- the index of the elements that are made, which is a variable too
pub record Numbered (e : Option Entity) : Type 0 where
  pub at : Spot
  pub is : e ≡ Some (Variable UnsignedShape at)

-- it is an unsigned number in a block that goes on
pub record IndexStands (w : Ghost) (m : Memory) (at : Spot) : Type 0 where
  pub typed : w.types at ≡ Some (Reached Unsigned)
  pub frame : ℕ
  pub region : at.region ≡ Frame frame
  pub known : frame < m.activations
  pub live : m.state (Frame frame) ≡ Live

pub index_later : (d : Tables) (k b : ℕ) (w : Ghost) (m : Memory) (w' : Ghost) (m' : Memory) (at : Spot) → Inv d w' m' → Grows k b w m w' m'
    → IndexStands w m at → IndexStands w' m' at
index_later d k b w m w' m' at i x h = record {
  typed = x.types at (Reached Unsigned) h.typed;
  frame = h.frame;
  region = h.region;
  known = x.known (Frame h.frame) h.known;
  live = x.state (Frame h.frame) (i.frames h.frame) ∙ h.live;
}

-- where a region is born
pub index_beside : (w : Ghost) (m : Memory) (x y : ℕ) (r : Region) (u : Region → Bool) (o : Owner) (keyed : Bool) (at : Spot)
    → ((j : ℕ) → j < m.activations → j < x) → IndexStands w m at → IndexStands (bearing w r u o keyed) (with_birth m x y r Live) at
index_beside w m x y r u o keyed at more h = record {
  typed = h.typed;
  frame = h.frame;
  region = h.region;
  known = more h.frame h.known;
  live = at_region m.state r Live (Frame h.frame) (λ z. z ≡ Live) (λ e. refl) (λ e. h.live);
}

-- what a name is bound to: a variable of its type, an array of so many elements, or an index
abbrev pub BoundAs : ℕ → (NameOf → Region) → Option Entity → What → Type 0
BoundAs count f e (Stored t r) = Bound count f e (shape_of t) t r
BoundAs count f e (Arrayed t r) = (n : ℕ) × Bound count f e (ArrayShape n (shape_of t)) t r
BoundAs count f e Counter = Numbered e
BoundAs count f e (Unknown sound) = Unit {0}

-- in a region that is live
abbrev pub LivesAs : (NameOf → Bool) → What → Type 0
LivesAs live (Stored t r) = live r ≡ true
LivesAs live (Arrayed t r) = live r ≡ true
LivesAs live Counter = Unit {0}
LivesAs live (Unknown sound) = Unit {0}

-- and its cells
abbrev pub LaidAs : Tables → (NameOf → Region) → Ghost → Option Entity → What → Type 0
LaidAs d f w e (Stored t r) = (at : Spot) → e ≡ Some (Variable (shape_of t) at) → Laid w at (flat heap d (renamed f t))
LaidAs d f w e (Arrayed t r) = (at : Spot) (n : ℕ) → e ≡ Some (Variable (ArrayShape n (shape_of t)) at) → AllLaid w at n (flat heap d (renamed f t))
LaidAs d f w e Counter = Unit {0}
LaidAs d f w e (Unknown sound) = Unit {0}

bound_alike : (n m : ℕ) (f h : NameOf → Region) (e : Option Entity) (s : Shape) (t : StaticType) (r : NameOf) → ((a : NameOf) → Below n a → Below m a)
    → ((u : StaticType) → TypeBelow n u → TypeBelow m u) → Alike n f h → Bound n f e s t r → Bound m h e s t r
bound_alike n m f h e s t r up ups same p =
    record { at = p.at; is = p.is; region = p.region ∙ sym (same r p.within); within = up r p.within; below = ups t p.below }

-- where the same names stand for the same
pub bound_as_alike : (n m : ℕ) (f h : NameOf → Region) (e : Option Entity) (v : What) → ((a : NameOf) → Below n a → Below m a)
    → ((u : StaticType) → TypeBelow n u → TypeBelow m u) → Alike n f h → BoundAs n f e v → BoundAs m h e v
bound_as_alike n m f h e (Stored t r) up ups same p = bound_alike n m f h e (shape_of t) t r up ups same p
bound_as_alike n m f h e (Arrayed t r) up ups same p = (p.0, bound_alike n m f h e (ArrayShape p.0 (shape_of t)) t r up ups same p.1)
bound_as_alike n m f h e Counter up ups same p = p
bound_as_alike n m f h e (Unknown sound) up ups same p = tt

-- where more is live
pub lives_more : (live more : NameOf → Bool) (v : What) → ((r : NameOf) → live r ≡ true → more r ≡ true) → LivesAs live v → LivesAs more v
lives_more live more (Stored t r) up l = up r l
lives_more live more (Arrayed t r) up l = up r l
lives_more live more Counter up l = tt
lives_more live more (Unknown sound) up l = tt

-- later, where the same names stand for the same
pub laid_as_later : (n : ℕ) (d : Tables) (f h : NameOf → Region) (w w' : Ghost) (e : Option Entity) (v : What) → Alike n f h → BoundAs n f e v
    → ((s : Spot) (t : RunType) → w.types s ≡ Some (Reached t) → w'.types s ≡ Some (Reached t)) → LaidAs d f w e v → LaidAs d h w' e v
laid_as_later n d f h w w' e (Stored t r) same p keep l = λ at q.
    subst (λ (u : RunType). Laid w' at (flat heap d u)) (sym (renamed_alike n f h t same p.below)) (laid_kept w w' at (flat heap d (renamed f t)) keep (l at q))
laid_as_later n d f h w w' e (Arrayed t r) same p keep l = λ at c q.
    subst (λ (u : RunType). AllLaid w' at c (flat heap d u)) (sym (renamed_alike n f h t same p.1.below))
    (all_laid_kept w w' at c (flat heap d (renamed f t)) keep (l at c q))
laid_as_later n d f h w w' e Counter same p keep l = tt
laid_as_later n d f h w w' e (Unknown sound) same p keep l = tt

pub laid_as_kept : (d : Tables) (f : NameOf → Region) (w w' : Ghost) (e : Option Entity) (v : What)
    → ((s : Spot) (t : RunType) → w.types s ≡ Some (Reached t) → w'.types s ≡ Some (Reached t)) → LaidAs d f w e v → LaidAs d f w' e v
laid_as_kept d f w w' e (Stored t r) keep l = λ at q. laid_kept w w' at (flat heap d (renamed f t)) keep (l at q)
laid_as_kept d f w w' e (Arrayed t r) keep l = λ at c q. all_laid_kept w w' at c (flat heap d (renamed f t)) keep (l at c q)
laid_as_kept d f w w' e Counter keep l = tt
laid_as_kept d f w w' e (Unknown sound) keep l = tt

-- the variables in scope and the globals, which lie in the heap, have their spots
pub record Binds (g : Env) (scope : Scope) (f : NameOf → Region) : Type 0 where
  pub variables : (x : List ℕ) (v : What) → meant g x ≡ Some (OfValue v) → BoundAs g.regions.count f (entity_of scope x) v
  pub live : (x : List ℕ) (v : What) → meant g x ≡ Some (OfValue v) → LivesAs g.regions.live v
  pub globals : (x : List ℕ) (v : What) → find g.tables x ≡ Some (OfValue v) → BoundAs 0 (λ a. heap) (bound_to scope.world.globals x) v

-- the cells of the globals and of the strings
pub record Globals (d : Tables) (tables : typing.Tables) (world : World) (w : Ghost) : Type 0 where
  pub named : (x : List ℕ) (v : What) → find tables x ≡ Some (OfValue v) → LaidAs d (λ a. heap) w (bound_to world.globals x) v
  pub strings : StringsLaid w world.strings

pub globals_kept : (d : Tables) (tables : typing.Tables) (world : World) (w w' : Ghost)
    → ((s : Spot) (t : RunType) → w.types s ≡ Some (Reached t) → w'.types s ≡ Some (Reached t)) → Globals d tables world w → Globals d tables world w'
globals_kept d tables world w w' keep h = record {
  named = λ y v e. laid_as_kept d (λ a. heap) w w' (bound_to world.globals y) v keep (h.named y v e);
  strings = strings_kept w w' world.strings keep h.strings;
}

-- The function's blocks are the activations from `low` on, and the private cells of those below b are left alone: where b isn't more than that, the
-- function's own ones may be touched.

-- What holds of a scope at a point of its function, while k values are on their way: its region names stand for regions; its variables have their cells,
-- which pointers may reach where they can be copied; and those that can't be copied stand in these states.
pub record Scene (d : Tables) (g : Env) (scope : Scope) (f : NameOf → Region) (b : ℕ) (low : ℕ) (s : States) (k : ℕ) (w : Ghost) (m : Memory) : Type 0 where
  pub names : NamesOk g.regions f k w m
  pub base : b ≤ m.activations
  pub variables : (x : List ℕ) (v : What) → meant g x ≡ Some (OfValue v) → is_own g.tables (find_local g.locals x) ≡ false → LaidAs d f w (entity_of scope x) v
  pub globals : Globals d g.tables scope.world w
  -- the locals, by what is bound to their names, each in a place of its own
  pub alongside : Alongside g.locals scope.locals
  pub rooms : Rooms low scope.locals
  pub inside : AllWithin m.activations scope.locals
  pub counted : AllCounted m scope.locals
  pub indices : (x : List ℕ) (at : Spot) → meant g x ≡ Some (OfValue Counter) → entity_of scope x ≡ Some (Variable UnsignedShape at) → IndexStands w m at
  -- the innermost block
  pub own : low ≤ scope.frame
  pub begun : scope.frame < m.activations
  pub below : LocalsBelow g.regions.count g.locals
  pub stands : Standing d g scope f s w m

pub globals_later : (d : Tables) (tables : typing.Tables) (world : World) (k b : ℕ) (w : Ghost) (m : Memory) (w' : Ghost) (m' : Memory) → Grows k b w m w' m'
    → Globals d tables world w → Globals d tables world w'
globals_later d tables world k b w m w' m' x h = globals_kept d tables world w w' (λ s u z. x.types s (Reached u) z) h

-- later memories, in which the locals stand in other states
pub scene_later : (d : Tables) (g : Env) (scope : Scope) (f : NameOf → Region) (b : ℕ) (low : ℕ) (s s' : States) (k : ℕ) (w : Ghost) (m : Memory) (w' : Ghost)
    (m' : Memory)
    → Inv d w' m' → Grows k b w m w' m' → Standing d g scope f s' w' m' → Scene d g scope f b low s k w m → Scene d g scope f b low s' k w' m'
scene_later d g scope f b low s s' k w m w' m' i x st h = record {
  names = names_later d g.regions f k b w m w' m' i x h.names;
  base = base_later k b b w m w' m' h.base x;
  variables = λ y v e o. laid_as_kept d f w w' (entity_of scope y) v (λ s u z. x.types s (Reached u) z) (h.variables y v e o);
  globals = globals_later d g.tables scope.world k b w m w' m' x h.globals;
  alongside = h.alongside;
  rooms = h.rooms;
  inside = all_more m.activations m'.activations scope.locals (base_later k b m.activations w m w' m' (omega arith) x) h.inside;
  counted = counted_more m m' scope.locals x.objects h.counted;
  indices = λ y at e o. index_later d k b w m w' m' at i x (h.indices y at e o);
  own = h.own;
  begun = x.known (Frame scope.frame) h.begun;
  below = h.below;
  stands = st;
}

-- more may be on its way
pub scene_more : (d : Tables) (g : Env) (scope : Scope) (f : NameOf → Region) (b : ℕ) (low : ℕ) (s : States) (k : ℕ) (w : Ghost) (m : Memory)
    → Scene d g scope f b low s k w m
    → Scene d g scope f b low s (suc k) w m
scene_more d g scope f b low s k w m h = record {
  names = names_more g.regions f k w m h.names;
  base = h.base;
  variables = h.variables;
  globals = h.globals;
  alongside = h.alongside;
  rooms = h.rooms;
  inside = h.inside;
  counted = h.counted;
  indices = h.indices;
  own = h.own;
  begun = h.begun;
  below = h.below;
  stands = h.stands;
}

-- Where each cell that has a type is as it was, all locals stand as they did.
pub stands_typed : (d : Tables) (g : Env) (scope : Scope) (f : NameOf → Region) (s : States) (w : Ghost) (m : Memory) (w1 : Ghost) (m1 : Memory)
    → ((y : Spot) (q : Kept) → w.types y ≡ Some q → w1.types y ≡ Some q) → ((y : Spot) (q : Kept) → w.types y ≡ Some q → m1.cells y ≡ m.cells y)
    → Standing d g scope f s w m → Standing d g scope f s w1 m1
stands_typed d g scope f s w m w1 m1 t c st = all_same g.tables d f w m w1 m1 g.locals scope.locals s (each scope.locals) st
  where
    each : (bs : List Binding) → SameAll g.tables d f w m w1 m1 bs
    each [] = tt
    each (y ∷ bs) = (λ sh p e. record { types = t; cells = λ q u a o z. c q (Private u) z }, each bs)

-- What leaves the private cells of all activations so far alone leaves the locals as they stood.
pub stands_kept : (d : Tables) (g : Env) (scope : Scope) (f : NameOf → Region) (b : ℕ) (low : ℕ) (s : States) (k : ℕ) (w : Ghost) (m : Memory) (w' : Ghost)
    (m' : Memory)
    → Scene d g scope f b low s k w m → Grows k m.activations w m w' m' → Standing d g scope f s w' m'
stands_kept d g scope f b low s k w m w' m' h x = all_kept g.tables d f k low m.activations g.locals scope.locals s w m w' m' h.rooms h.inside x h.stands
