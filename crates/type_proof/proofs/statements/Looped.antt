-- In a loop or a `switch` nothing of what surrounds a statement changes.
use Rattle.std.specs.Prelude.{ℕ}
use Rattle.source_meaning.specs.Memory.{Region, Memory}
use Rattle.source_meaning.specs.Steps.{World, Scope}
use Rattle.source_typing.specs.Scope.{Env}
use Rattle.source_typing.specs.States.{States}
use Rattle.source_typing.specs.Statements.{in_a_loop, in_a_switch}
use Rattle.source_typing.specs.Tables as typing
use Rattle.type_proof.specs.Flat.{Tables}
use Rattle.type_proof.proofs.invariant.Invariant.{RunType, Ghost}
use Rattle.type_proof.proofs.invariant.Names.{NameOf}
use Rattle.type_proof.proofs.invariant.Scenes.{Scene}
use Rattle.type_proof.proofs.statements.Surroundings.{ResultIs, Surrounds}

-- in a loop nothing of it changes
pub surrounds_loop : (d : Tables) (world : World) (tables : typing.Tables) (g : Env) (scope : Scope) (f : NameOf → Region) (gives : RunType)
    → Surrounds d world tables g scope f gives → Surrounds d world tables (in_a_loop g) scope f gives
surrounds_loop d world tables g scope f gives h = record {
  tables_are = h.tables_are;
  world_is = h.world_is;
  structs = h.structs;
  binds = record { variables = h.binds.variables; live = h.binds.live; globals = h.binds.globals };
  plain = h.plain;
  functions = h.functions;
  result = λ t e. let r : ResultIs g scope f gives t = h.result t e in record { shape = r.shape; below = r.below; run = r.run };
  strict = h.strict;
  inside = h.inside;
  frame = h.frame;
  frame_lives = h.frame_lives;
  frame_below = h.frame_below;
}

pub scene_loop : (d : Tables) (g : Env) (scope : Scope) (f : NameOf → Region) (b : ℕ) (s : States) (k : ℕ) (w : Ghost) (m : Memory)
    → Scene d g scope f b b s k w m
    → Scene d (in_a_loop g) scope f b b s k w m
scene_loop d g scope f b s k w m h = record {
  names = h.names;
  base = h.base;
  variables = h.variables;
  globals = h.globals;
  alongside = h.alongside;
  rooms = h.rooms;
  inside = h.inside;
  counted = h.counted;
  indices = h.indices;
  own = h.own;
  begun = h.begun;
  below = h.below;
  stands = h.stands;
}

-- nor in a `switch`
pub surrounds_switch : (d : Tables) (world : World) (tables : typing.Tables) (g : Env) (scope : Scope) (f : NameOf → Region) (gives : RunType)
    → Surrounds d world tables g scope f gives → Surrounds d world tables (in_a_switch g) scope f gives
surrounds_switch d world tables g scope f gives h = record {
  tables_are = h.tables_are;
  world_is = h.world_is;
  structs = h.structs;
  binds = record { variables = h.binds.variables; live = h.binds.live; globals = h.binds.globals };
  plain = h.plain;
  functions = h.functions;
  result = λ t e. let r : ResultIs g scope f gives t = h.result t e in record { shape = r.shape; below = r.below; run = r.run };
  strict = h.strict;
  inside = h.inside;
  frame = h.frame;
  frame_lives = h.frame_lives;
  frame_below = h.frame_below;
}

pub scene_switch : (d : Tables) (g : Env) (scope : Scope) (f : NameOf → Region) (b : ℕ) (s : States) (k : ℕ) (w : Ghost) (m : Memory)
    → Scene d g scope f b b s k w m
    → Scene d (in_a_switch g) scope f b b s k w m
scene_switch d g scope f b s k w m h = record {
  names = h.names;
  base = h.base;
  variables = h.variables;
  globals = h.globals;
  alongside = h.alongside;
  rooms = h.rooms;
  inside = h.inside;
  counted = h.counted;
  indices = h.indices;
  own = h.own;
  begun = h.begun;
  below = h.below;
  stands = h.stands;
}
