-- A lexical region comes into scope: its name stands for the region that was born, and what was in scope stays as it was.
use Rattle.std.proofs.Common.{◌≡◌, ℕ, ◌+◌, true, false, List, refl, ◌∙◌}
use Rattle.std.specs.Prelude.{is_some}
use Rattle.cyc_tree.specs.Tree as tree
use Rattle.source_meaning.specs.Memory.{Region, Born, Memory}
use Rattle.source_meaning.specs.Steps.{World, Scope}
use Rattle.source_meaning.specs.Places.{entity_of}
use Rattle.source_typing.specs.Declarations.{name_added, with_region}
use Rattle.source_typing.specs.Regions.{Level, same_id, with_scope}
use Rattle.source_typing.specs.Scope.{Env, next_region}
use Rattle.source_typing.specs.Tables as typing
use Rattle.source_typing.specs.Written.{RegionNamed, find_region}
use Rattle.source_typing.specs.States.{States}
use Rattle.type_proof.specs.Flat.{Tables}
use Rattle.type_proof.proofs.invariant.Facts.{if_cases}
use Rattle.type_proof.proofs.invariant.Invariant.{RunType, Nobody, Ghost, Inv}
use Rattle.type_proof.proofs.invariant.Scopes.{above_scope, region_ghost, region_memory, born_births}
use Rattle.type_proof.proofs.invariant.Names.{NameOf, naming, names_scope}
use Rattle.source_typing.proofs.NamedBelow.{below_up}
use Rattle.type_proof.proofs.invariant.Scenes.{renamed_alike, bound_as_alike, lives_more, laid_as_later, globals_kept, index_beside, Scene}
use Rattle.type_proof.proofs.statements.Surroundings.{ResultIs, Surrounds, type_up, locals_up, stands_in, naming_alike, lives_in_scope}

-- a scope with one more region, and these names
abbrev pub lexical : Env → List RegionNamed → Env
lexical g names = record g { regions = with_scope g.regions; names = names }

-- the names in scope and that of the next region
abbrev pub names_with : tree.RegionName → Env → List RegionNamed
names_with (tree.Named x) g = name_added (is_some (find_region g.names x.text)) x (next_region g) g.names
names_with (tree.Heap at) g = g.names
names_with (tree.Unique at) g = g.names

pub with_region_is : (r : tree.RegionName) (g : Env) → with_region r with_scope g ≡ lexical g (names_with r g)
with_region_is (tree.Named x) g = refl
with_region_is (tree.Heap at) g = refl
with_region_is (tree.Unique at) g = refl

pub surrounds_region : (d : Tables) (world : World) (tables : typing.Tables) (g : Env) (scope : Scope) (f : NameOf → Region) (gives : RunType)
    (names : List RegionNamed) (a : ℕ)
    → Surrounds d world tables g scope f gives → Surrounds d world tables (lexical g names) scope (naming f g.regions.count (Born a)) gives
surrounds_region d world tables g scope f gives names a h = record {
  tables_are = h.tables_are;
  world_is = h.world_is;
  structs = h.structs;
  binds = record {
    variables = λ y u e.
        bound_as_alike g.regions.count (g.regions.count + 1) f (naming f g.regions.count (Born a)) (entity_of scope y) u (below_up g.regions.count)
        (type_up g.regions.count) (naming_alike f g.regions.count (Born a)) (h.binds.variables y u e);
    live = λ y u e. lives_more g.regions.live (with_scope g.regions).live u (lives_in_scope g.regions) (h.binds.live y u e);
    globals = h.binds.globals;
  };
  plain = h.plain;
  functions = h.functions;
  result = λ t e.
      let r : ResultIs g scope f gives t = h.result t e in record {
        shape = r.shape;
        below = type_up g.regions.count t r.below;
        run = renamed_alike g.regions.count f (naming f g.regions.count (Born a)) t (naming_alike f g.regions.count (Born a)) r.below ∙ r.run;
      };
  strict = h.strict;
  inside = h.inside;
  frame = naming_alike f g.regions.count (Born a) g.frame h.frame_below ∙ h.frame;
  frame_lives = if_cases (same_id g.frame (Level g.regions.count)) true (g.regions.live g.frame) (λ z. z ≡ true) (λ z. refl) (λ z. h.frame_lives);
  frame_below = below_up g.regions.count g.frame h.frame_below;
}

pub scene_region : (d : Tables) (world : World) (tables : typing.Tables) (g : Env) (scope : Scope) (f : NameOf → Region) (gives : RunType)
    (names : List RegionNamed) (b : ℕ) (s : States) (k : ℕ) (w : Ghost) (m : Memory)
    → Surrounds d world tables g scope f gives → Inv d w m → Scene d g scope f b b s k w m
    → Scene d (lexical g names) scope (naming f g.regions.count (Born m.births)) b b s k (region_ghost w m) (region_memory m)
scene_region d world tables g scope f gives names b s k w m h i z = record {
  names = names_scope d g.regions f k w m m.activations (m.births + 1) (Born m.births) i (born_births d w m i) z.names;
  base = z.base;
  variables = λ y u e o. laid_as_later g.regions.count d f (naming f g.regions.count (Born m.births)) w (region_ghost w m) (entity_of scope y) u
      (naming_alike f g.regions.count (Born m.births)) (h.binds.variables y u e) (λ p t l. l) (z.variables y u e o);
  globals = globals_kept d g.tables scope.world w (region_ghost w m) (λ p t l. l) z.globals;
  alongside = z.alongside;
  rooms = z.rooms;
  inside = z.inside;
  counted = z.counted;
  indices = λ y at e o. index_beside w m m.activations (m.births + 1) (Born m.births) (above_scope w m (Born m.births)) Nobody false at (λ j l. l)
      (z.indices y at e o);
  own = z.own;
  begun = z.begun;
  below = locals_up g.regions.count g.locals z.below;
  stands = stands_in d g scope f s (Born m.births) w m (region_ghost w m) (region_memory m) z.below (λ y q e. e) (λ y. refl) z.stands;
}
