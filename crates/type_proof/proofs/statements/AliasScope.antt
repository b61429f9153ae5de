-- The region of an alias or of a key comes into scope: its name stands for the region that the pointer leads to, or that was born, and what was in scope
-- stays as it was. So it does where a key's region is opened.
use Rattle.std.proofs.Common.{◌≡◌, ℕ, ◌+◌, Bool, true, false, inl, inr, Option, List, refl, ◌∙◌, ap, arith}
use Rattle.std.specs.Prelude.{if◌then◌else◌}
use Rattle.std.proofs.lemmas.Bool.Decides.{eqb_tells}
use Rattle.cyc_tree.specs.Tree as tree
use Rattle.source_meaning.specs.Memory.{Region, Memory}
use Rattle.source_meaning.specs.Steps.{Entity, World, Scope}
use Rattle.source_meaning.specs.Places.{entity_of}
use Rattle.source_typing.specs.Declarations.{with_region}
use Rattle.source_typing.specs.Regions.{Regions, TheHeap, Level, same_id, opened, with_name}
use Rattle.source_typing.specs.Scope.{Env}
use Rattle.source_typing.specs.Tables as typing
use Rattle.source_typing.specs.Tables.{What, Stored, Arrayed, Counter, Unknown}
use Rattle.source_typing.specs.Written.{RegionNamed}
use Rattle.source_typing.specs.States.{States}
use Rattle.type_proof.specs.Flat.{Tables}
use Rattle.type_proof.proofs.invariant.Facts.{if_cases}
use Rattle.type_proof.proofs.invariant.Invariant.{RunType, Ghost}
use Rattle.type_proof.proofs.invariant.Names.{NameOf, NamesOk, naming}
use Rattle.source_typing.specs.Named.{Below}
use Rattle.source_typing.proofs.NamedBelow.{below_up}
use Rattle.type_proof.proofs.invariant.Scenes.{renamed_alike, BoundAs, LivesAs, bound_as_alike, lives_more, laid_as_later, globals_kept, Scene}
use Rattle.type_proof.proofs.statements.Lexical.{names_with}
use Rattle.type_proof.proofs.statements.Surroundings.{ResultIs, Surrounds, type_up, locals_up, stands_in, naming_alike}

-- a scope with one more region, which only the heap outlives, and these names
abbrev pub with_named : Bool → Env → List RegionNamed → Env
with_named live g names = record g { regions = with_name live g.regions; names = names }

-- that of an alias is live
abbrev pub aliasing : Env → List RegionNamed → Env
aliasing g names = with_named true g names

pub with_named_is : (live : Bool) (r : tree.RegionName) (g : Env) → with_region r (with_name live) g ≡ with_named live g (names_with r g)
with_named_is live (tree.Named x) g = refl
with_named_is live (tree.Heap at) g = refl
with_named_is live (tree.Unique at) g = refl

pub with_name_is : (r : tree.RegionName) (g : Env) → with_region r (with_name true) g ≡ aliasing g (names_with r g)
with_name_is r g = with_named_is true r g

-- what was declared before isn't the next region
not_next : (n : ℕ) (r : NameOf) → Below n r → same_id r (Level n) ≡ false
not_next n TheHeap l = refl
not_next n (Level k) l = elim (eqb_tells k n) [
  | inl e ↦ absurd (let q = e.1 in omega (arith, l))
  | inr e ↦ e.0
]

lives_in_name : (live : Bool) (g : Regions) (r : NameOf) → Below g.count r → g.live r ≡ true → (with_name live g).live r ≡ true
lives_in_name live g r below l = ap (λ (c : Bool). if c then live else g.live r) (not_next g.count r below) ∙ l

bound_lives : (live : Bool) (g : Regions) (f : NameOf → Region) (e : Option Entity) (v : What) → BoundAs g.count f e v → LivesAs g.live v
    → LivesAs (with_name live g).live v
bound_lives live g f e (Stored t r) p l = lives_in_name live g r p.within l
bound_lives live g f e (Arrayed t r) p l = lives_in_name live g r p.1.within l
bound_lives live g f e Counter p l = tt
bound_lives live g f e (Unknown sound) p l = tt

pub surrounds_name : (live : Bool) (d : Tables) (world : World) (tables : typing.Tables) (g : Env) (scope : Scope) (f : NameOf → Region) (gives : RunType)
    (names : List RegionNamed) (q : Region)
    → Surrounds d world tables g scope f gives → Surrounds d world tables (with_named live g names) scope (naming f g.regions.count q) gives
surrounds_name live d world tables g scope f gives names q h = record {
  tables_are = h.tables_are;
  world_is = h.world_is;
  structs = h.structs;
  binds = record {
    variables = λ y u e.
        bound_as_alike g.regions.count (g.regions.count + 1) f (naming f g.regions.count q) (entity_of scope y) u (below_up g.regions.count)
        (type_up g.regions.count) (naming_alike f g.regions.count q) (h.binds.variables y u e);
    live = λ y u e. bound_lives live g.regions f (entity_of scope y) u (h.binds.variables y u e) (h.binds.live y u e);
    globals = h.binds.globals;
  };
  plain = h.plain;
  functions = h.functions;
  result = λ t e.
      let r : ResultIs g scope f gives t = h.result t e in record {
        shape = r.shape;
        below = type_up g.regions.count t r.below;
        run = renamed_alike g.regions.count f (naming f g.regions.count q) t (naming_alike f g.regions.count q) r.below ∙ r.run;
      };
  strict = h.strict;
  inside = h.inside;
  frame = naming_alike f g.regions.count q g.frame h.frame_below ∙ h.frame;
  frame_lives = lives_in_name live g.regions g.frame h.frame_below h.frame_lives;
  frame_below = below_up g.regions.count g.frame h.frame_below;
}

pub surrounds_alias : (d : Tables) (world : World) (tables : typing.Tables) (g : Env) (scope : Scope) (f : NameOf → Region) (gives : RunType)
    (names : List RegionNamed) (q : Region)
    → Surrounds d world tables g scope f gives → Surrounds d world tables (aliasing g names) scope (naming f g.regions.count q) gives
surrounds_alias d world tables g scope f gives names q h = surrounds_name true d world tables g scope f gives names q h

pub scene_name : (live : Bool) (d : Tables) (world : World) (tables : typing.Tables) (g : Env) (scope : Scope) (f : NameOf → Region) (gives : RunType)
    (names : List RegionNamed) (q : Region) (b : ℕ) (s : States) (k : ℕ) (w : Ghost) (m : Memory)
    → Surrounds d world tables g scope f gives → NamesOk (with_name live g.regions) (naming f g.regions.count q) k w m → Scene d g scope f b b s k w m
    → Scene d (with_named live g names) scope (naming f g.regions.count q) b b s k w m
scene_name live d world tables g scope f gives names q b s k w m h ok z = record {
  names = ok;
  base = z.base;
  variables = λ y u e o. laid_as_later g.regions.count d f (naming f g.regions.count q) w w (entity_of scope y) u (naming_alike f g.regions.count q)
      (h.binds.variables y u e) (λ p t l. l) (z.variables y u e o);
  globals = globals_kept d g.tables scope.world w w (λ p t l. l) z.globals;
  alongside = z.alongside;
  rooms = z.rooms;
  inside = z.inside;
  counted = z.counted;
  indices = z.indices;
  own = z.own;
  begun = z.begun;
  below = locals_up g.regions.count g.locals z.below;
  stands = stands_in d g scope f s q w m w m z.below (λ y p e. e) (λ y. refl) z.stands;
}

pub scene_alias : (d : Tables) (world : World) (tables : typing.Tables) (g : Env) (scope : Scope) (f : NameOf → Region) (gives : RunType)
    (names : List RegionNamed) (q : Region) (b : ℕ) (s : States) (k : ℕ) (w : Ghost) (m : Memory)
    → Surrounds d world tables g scope f gives → NamesOk (with_name true g.regions) (naming f g.regions.count q) k w m → Scene d g scope f b b s k w m
    → Scene d (aliasing g names) scope (naming f g.regions.count q) b b s k w m
scene_alias d world tables g scope f gives names q b s k w m h ok z = scene_name true d world tables g scope f gives names q b s k w m h ok z

-- ---- a key's region is opened

-- a scope in which one more region is live
abbrev pub opening : Env → NameOf → Env
opening g r = record g { regions = opened r g.regions }

lives_open : (g : Regions) (q r : NameOf) → g.live r ≡ true → (opened q g).live r ≡ true
lives_open g q r l = if_cases (same_id r q) true (g.live r) (λ z. z ≡ true) (λ z. refl) (λ z. l)

pub surrounds_open : (d : Tables) (world : World) (tables : typing.Tables) (g : Env) (scope : Scope) (f : NameOf → Region) (gives : RunType) (q : NameOf)
    → Surrounds d world tables g scope f gives → Surrounds d world tables (opening g q) scope f gives
surrounds_open d world tables g scope f gives q h = record {
  tables_are = h.tables_are;
  world_is = h.world_is;
  structs = h.structs;
  binds = record {
    variables = h.binds.variables;
    live = λ y u e. lives_more g.regions.live (opened q g.regions).live u (lives_open g.regions q) (h.binds.live y u e);
    globals = h.binds.globals;
  };
  plain = h.plain;
  functions = h.functions;
  result = λ t e. let r : ResultIs g scope f gives t = h.result t e in record { shape = r.shape; below = r.below; run = r.run };
  strict = h.strict;
  inside = h.inside;
  frame = h.frame;
  frame_lives = lives_open g.regions q g.frame h.frame_lives;
  frame_below = h.frame_below;
}

pub scene_open : (d : Tables) (g : Env) (scope : Scope) (f : NameOf → Region) (q : NameOf) (b : ℕ) (s : States) (k : ℕ) (w : Ghost) (m : Memory)
    → NamesOk (opened q g.regions) f k w m → Scene d g scope f b b s k w m → Scene d (opening g q) scope f b b s k w m
scene_open d g scope f q b s k w m ok z = record {
  names = ok;
  base = z.base;
  variables = z.variables;
  globals = z.globals;
  alongside = z.alongside;
  rooms = z.rooms;
  inside = z.inside;
  counted = z.counted;
  indices = z.indices;
  own = z.own;
  begun = z.begun;
  below = z.below;
  stands = z.stands;
}
