-- What the names of a program mean, and how its functions are called.
use Rattle.std.proofs.Common.{◌≡◌, ℕ, ◌≤◌, arith, Bool, true, false, Some, List, [], ◌∷◌, refl, sym, subst}
use Rattle.std.specs.Prelude.{map, ◌||◌}
use Rattle.std.proofs.lemmas.Bool.{and_parts}
use Rattle.source_meaning.specs.Shapes.{part_shapes}
use Rattle.source_meaning.specs.Memory.{Region, Scalar, Memory}
use Rattle.source_meaning.specs.Steps.{World, Scope, ◌>>=◌, invoke}
use Rattle.source_meaning.specs.Places.{Sense}
use Rattle.source_meaning.specs.Calls.{converted_all}
use Rattle.source_typing.specs.Calls.{all_live, all_ordered}
use Rattle.source_typing.specs.Regions.{TheHeap}
use Rattle.source_typing.specs.Scope.{Env, meant, is_live, outlives}
use Rattle.source_typing.specs.Tables as typing
use Rattle.source_typing.specs.Tables.{Entry, OfValue, OfTag, OfFunction, OfBuiltin, OfOther, Stored, Arrayed, Counter, Unknown, Signature, find, argument}
use Rattle.source_typing.specs.Types.{StaticType, Int, Unsigned, Char, Void, Null, Thin, Fat, Unique, Handle, Key, Struct, Union, renamed}
use Rattle.source_typing.specs.Moves.{Use}
use Rattle.source_typing.specs.States.{States}
use Rattle.type_proof.specs.Flat.{Tables, flat}
pub use Rattle.type_proof.specs.Entries.{IsObjectType, IsPlain, AreObjects, Function, Structure, Builtin, PlainEntry, PlainTables}
use Rattle.type_proof.proofs.invariant.Invariant.{RunType, heap, Ghost, HaveTypes, Known, Inv}
use Rattle.type_proof.proofs.invariant.Growth.{grows_trans}
use Rattle.type_proof.proofs.invariant.Runs.{Runs}
use Rattle.type_proof.proofs.invariant.After.{After, flying, grows_base}
use Rattle.type_proof.proofs.invariant.Arguments.{Flown}
use Rattle.type_proof.proofs.invariant.Names.{NameOf, NamesOk, AllStand, AllOrdered}
use Rattle.source_typing.specs.Named.{AllBelow}
use Rattle.type_proof.proofs.invariant.Scenes.{Globals, Scene, scene_later, stands_kept}
use Rattle.type_proof.proofs.invariant.Sound.{GivesBy}
use Rattle.type_proof.proofs.expressions.Words.{object_twice, plain_twice}
use Rattle.type_proof.proofs.expressions.Fixed.{argument_below}
use Rattle.type_proof.proofs.expressions.Calling.{AllPass, all_values, all_passed}

-- ---- types

pub object_plain : (t : StaticType) → IsObjectType t → IsPlain t
object_plain Int e = tt
object_plain Unsigned e = tt
object_plain Char e = tt
object_plain Void e = absurd e
object_plain Null e = absurd e
object_plain (Thin n r t) e = e
object_plain (Fat r t) e = e
object_plain (Unique n t) e = e
object_plain (Handle r) e = tt
object_plain (Key r) e = tt
object_plain (Struct tag rs) e = e
object_plain (Union tag rs) e = e

-- ---- functions

-- what a name in scope may be: what is declared, or the index of elements that are made
abbrev pub MeansEntry : World → List ℕ → Entry → Type 0
MeansEntry world x (OfValue Counter) = Unit {0}
MeansEntry world x e = PlainEntry world x e

-- all that is in scope is of these
abbrev pub MeansPlain : World → Env → Type 0
MeansPlain world g = (x : List ℕ) (e : Entry) → meant g x ≡ Some e → MeansEntry world x e

-- what is declared may be in scope
pub declared_means : (world : World) (x : List ℕ) (e : Entry) → PlainEntry world x e → MeansEntry world x e
declared_means world x (OfValue (Stored t r)) h = h
declared_means world x (OfValue (Arrayed t r)) h = h
declared_means world x (OfValue Counter) h = absurd h
declared_means world x (OfValue (Unknown sound)) h = absurd h
declared_means world x (OfTag t) h = h
declared_means world x (OfFunction s) h = h
declared_means world x (OfBuiltin c) h = h
declared_means world x OfOther h = absurd h

-- a type as it is in any run, if it names no region but the heap
abbrev pub run_type : StaticType → RunType
run_type t = renamed (λ a. heap) t

-- What a caller owes to a function: its region variables stand for regions, those of the effect stay live, and the bounds hold.
pub record Enters (s : Signature) (h : NameOf → Region) (k : ℕ) (w : Ghost) (m : Memory) : Type 0 where
  pub heap_is : h TheHeap ≡ heap
  pub known : (a : NameOf) → Known m (h a)
  pub effect : AllStand h k w m s.effect
  pub bounds : AllOrdered h w s.bounds

-- Each call of a function runs safely, with n units: the arguments are on their way, and so is the result then.
abbrev pub Invokes : ℕ → Tables → World → typing.Tables → Type 0
Invokes n d world tables =
    (x : List ℕ) (s : Signature) (F : Function world x s) → find tables x ≡ Some (OfFunction s)
    → (h : NameOf → Region) (k b : ℕ) (w : Ghost) (m : Memory) (vss : List (List Scalar))
    → b ≤ m.activations → Inv d w m → Globals d tables world w → Enters s h k w m → Flown d w k vss (map (renamed h) F.types)
    → Runs n (invoke F.routine world vss) m (λ us. After d k b w m (λ w' m'. HaveTypes d w' (flying k 0) us (flat heap d (renamed h F.gives))))

objects_twice : (f : NameOf → Region) (h : NameOf → NameOf) (ts : List StaticType) → AreObjects ts
    → map (renamed f) (map (renamed h) ts) ≡ map (renamed (λ a. f (h a))) ts
objects_twice f h [] e = refl
objects_twice f h (t ∷ ts) e =
    let a : renamed f (renamed h t) ≡ renamed (λ a. f (h a)) t = object_twice f h t e.0 in
    let c : map (renamed f) (map (renamed h) ts) ≡ map (renamed (λ a. f (h a))) ts = objects_twice f h ts e.1 in
    cc

-- ---- what region variables stand for

pub strictly : (g : Env) (r : NameOf) → g.lenient ≡ false → is_live g r ≡ true → g.regions.live r ≡ true
strictly g r e h = subst (λ (c : Bool). c || g.regions.live r ≡ true) e h

module _ (d : Tables) (g : Env) (f : NameOf → Region) (k : ℕ) (w : Ghost) (m : Memory) (names : NamesOk g.regions f k w m) (strict : g.lenient ≡ false)
    (rs : List NameOf)
  where
    effect_stands : (effect : List NameOf) → all_live g rs effect ≡ true → AllStand (λ a. f (argument rs a)) k w m effect
    effect_stands [] e = tt
    effect_stands (r ∷ others) e =
        let z : (is_live g (argument rs r) ≡ true) × (all_live g rs others ≡ true) = and_parts (is_live g (argument rs r)) (all_live g rs others) e in
        let l : g.regions.live (argument rs r) ≡ true = strictly g (argument rs r) strict z.0 in
        (names.live (argument rs r) l, names.stands (argument rs r) l, effect_stands others z.1)

    bounds_hold : (bounds : List (NameOf × NameOf)) → all_ordered g rs bounds ≡ true → AllOrdered (λ a. f (argument rs a)) w bounds
    bounds_hold [] e = tt
    bounds_hold ((a, c) ∷ others) e =
        let z : (outlives g (argument rs a) (argument rs c) ≡ true) × (all_ordered g rs others ≡ true) =
        and_parts (outlives g (argument rs a) (argument rs c)) (all_ordered g rs others) e in
        (names.order (argument rs a) (argument rs c) z.0, bounds_hold others z.1)

    pub enters : (s : Signature) → AllBelow g.regions.count rs → all_live g rs s.effect ≡ true → all_ordered g rs s.bounds ≡ true
        → Enters s (λ a. f (argument rs a)) k w m
    enters s below live ordered = record {
      heap_is = names.heap_is;
      known = λ a. names.known (argument rs a) (argument_below g.regions.count rs a below);
      effect = effect_stands s.effect live;
      bounds = bounds_hold s.bounds ordered;
    }

module _ (n : ℕ) (d : Tables) (g : Env) (scope : Scope) (f : NameOf → Region) (b : ℕ) (low : ℕ) where
  -- a call of one of the program's functions, whose region variables stand for these
  pub gives_called : (x : List ℕ) (s : Signature) (F : Function scope.world x s) (us : List Use) (es : List Sense) (rs : List NameOf)
      → Invokes n d scope.world g.tables
      → find g.tables x ≡ Some (OfFunction s) → g.lenient ≡ false → AllBelow g.regions.count rs → all_live g rs s.effect ≡ true
      → all_ordered g rs s.bounds ≡ true
      → AllPass n d g scope f b low (part_shapes F.routine.parameters) (map (renamed (argument rs)) F.types) us es
      → GivesBy n d g scope f b low (all_values us) (renamed (argument rs) F.gives)
      (converted_all scope.world (part_shapes F.routine.parameters) es >>= λ vss. invoke F.routine scope.world vss)
  gives_called x s F us es rs invokes there strict below live ordered h = λ st e k w m i z. record {
    by = λ next q. (all_passed n d g scope f b low (part_shapes F.routine.parameters) (map (renamed (argument rs)) F.types) us es h st e k w m i z).by
        (λ vss. invoke F.routine scope.world vss next)
        (λ vss m1 y.
        let s2 : States = (all_values us st).states in
        let z1 : Scene d g scope f b low s2 k y.ghost m1 = scene_later d g scope f b low st s2 k w m y.ghost m1 y.inv y.grows y.holds.1 z in
        let flown : Flown d y.ghost k vss (map (renamed (λ a. f (argument rs a))) F.types) =
        subst (λ (ts : List RunType). Flown d y.ghost k vss ts) (objects_twice f (argument rs) F.types F.objects) y.holds.0 in
        (invokes x s F there (λ a. f (argument rs a)) k m1.activations y.ghost m1 vss (omega arith) y.inv z1.globals
        (enters d g f k y.ghost m1 z1.names strict rs s below live ordered) flown).by next (λ vs m2 u. q vs m2 (record {
          ghost = u.ghost;
          inv = u.inv;
          grows = grows_trans y.grows (grows_base z1.base u.grows);
          holds = (
            subst (λ (t : RunType). HaveTypes d u.ghost (flying k 0) vs (flat heap d t)) (sym (plain_twice f (argument rs) F.gives F.plain)) u.holds,
            stands_kept d g scope f b low s2 k y.ghost m1 u.ghost m2 z1 u.grows,
          );
        })));
  }
