-- Believed: what a statement means: how it runs in a scope, and how it is left.
use Rattle.std.specs.Prelude.{ℕ, Bool, false, Option, Some, None, List, [], ◌∷◌, map, nat_eq, if◌then◌else◌}
use Rattle.cyc_tree.specs.Tree as tree
use Rattle.cyc_tree.specs.Tree.{Expression, Initializer, Declaration, Statement, BlockItems, NoItems, Declare, Execute, Clauses, NoClauses, MoreClauses, Case}
use Rattle.cyc_tree.specs.Tree.{Default}
use Rattle.source_meaning.specs.Shapes.{ArrayShape, UnionShape, Shape, Part, parts_of, part_position, part_shape, written, settled, settled_by, same_shape}
use Rattle.source_meaning.specs.Memory.{Scalar, Tagged, Object, object_of, array_of, first_cell}
use Rattle.source_meaning.specs.Steps.{Scope, World, Flow, Falls, Breaks, Continues, Returns, Act, give, ◌>>=◌, ◌>>◌, stuck, take_turn, need, choose, check}
use Rattle.source_meaning.specs.Conversions.{cells_of, one, converted}
use Rattle.source_meaning.specs.Values.{read_cells, write_cells}
use Rattle.source_meaning.specs.Places.{Sense, or_else}
use Rattle.source_meaning.specs.Calls.{truth}
use Rattle.source_meaning.specs.Expressions.{sense}
use Rattle.source_meaning.specs.Regions.{in_block, declared, local_with, initialised, lexical_region, new_key, open_key, key_freed, pointer_freed, local_freed}
use Rattle.source_meaning.specs.Regions.{aliased}

-- ---- ways on

-- what follows in the block is reached where a statement falls through
abbrev pub falls_to : Flow → Act Flow → Act Flow
falls_to Falls rest = rest
falls_to Breaks rest = give Breaks
falls_to Continues rest = give Continues
falls_to (Returns vs) rest = give (Returns vs)

-- how a loop goes on after its body
abbrev pub after_turn : Flow → Act Flow → Act Flow
after_turn Falls again = again
after_turn Continues again = again
after_turn Breaks again = give Falls
after_turn (Returns vs) again = give (Returns vs)

-- a `break` leaves the `switch`
abbrev pub after_switch : Flow → Flow
after_switch Breaks = Falls
after_switch Falls = Falls
after_switch Continues = Continues
after_switch (Returns vs) = Returns vs

-- a loop: the unit of a turn is due after the test was true and before the body; the last test takes none
abbrev pub loop : Expression → Statement → Scope → Act Flow
loop condition body scope =
    truth (sense condition scope) >>= λ t. choose t (take_turn condition body scope) (give Falls)

-- ---- exchanges

-- The left place goes first. Both cells are read and written when both places are known; none may be Lent, Gone or Blank.
abbrev pub exchanged : Sense → Sense → Act (Unit {0})
exchanged a b =
    check (same_shape a.shape b.shape) >> (a.place >>= λ s. b.place >>= λ t. read_cells 1 s >>= λ vs. read_cells 1 t >>= λ us.
    write_cells s us >> write_cells t vs)

-- ---- declarations

-- without an initializer each cell begins by its type
abbrev pub first_object : World → Shape → Object
first_object w s = object_of (map first_cell (cells_of w s))

-- and so does each cell of each element of an array
abbrev pub first_array : World → ℕ → Shape → Object
first_array w count s = array_of count (map first_cell (cells_of w s))

-- a local as it is declared, and then what follows it in its block
abbrev pub local : Scope → Shape → List ℕ → Initializer → (Scope → Act Flow) → Act Flow
local scope of name Initializer.Unset rest = declared scope name (settled of) (first_object scope.world (settled of)) rest
local scope of name (Initializer.Elements count) rest =
    declared scope name (ArrayShape count (settled of)) (first_array scope.world count (settled of)) rest
local scope of name (Initializer.Value e) rest =
    let a = sense e scope in initialised scope name (settled_by of a.shape) a rest

-- a declaration, and then what follows it in its block
abbrev pub declaration : Declaration → Scope → (Scope → Act Flow) → Act Flow
declaration (tree.Local of name initializer) scope rest = local scope (written of) name.text initializer rest
declaration (tree.Region at region handle) scope rest = lexical_region scope handle.text rest
declaration (tree.Open at region handle key) scope rest = open_key scope handle.text key.text rest
declaration (tree.Alias at region of alias pointer) scope rest = aliased scope (written of) alias.text pointer.text rest
declaration (tree.NewKey at region key) scope rest = new_key scope key.text rest

-- ---- switches

-- what a union place holds: the union's members, the position of the one that is held, and its value
pub record Held : Type 0 where
  pub parts : List Part
  pub position : ℕ
  pub value : Scalar

-- a union place is read for what it holds
abbrev pub held_by : World → Shape → Scalar → Act Held
held_by w (UnionShape tag) (Tagged k v) = give (record { parts = parts_of w.unions tag; position = k; value = v })
held_by w s v = stuck

-- whether a member that was found stands at this position
abbrev pub is_position : Option ℕ → ℕ → Bool
is_position None k = false
is_position (Some j) k = nat_eq j k

-- ---- statements

abbrev mutual
  -- a statement, and how it is left
  pub statement : Statement → Scope → Act Flow
  statement (Statement.Empty at) scope = give Falls
  statement (Statement.Block at items) scope = in_block (λ k. block_items items (record scope { frame = k }))
  -- an expression's value is read and discarded
  statement (Statement.Run e) scope = let a = sense e scope in a.value >>= λ vs. give Falls
  statement (Statement.Exchange left right) scope = exchanged (sense left scope) (sense right scope) >> give Falls
  statement (Statement.If at condition body) scope =
      truth (sense condition scope) >>= λ t. choose t (statement body scope) (give Falls)
  statement (Statement.IfElse at condition body otherwise) scope =
      truth (sense condition scope) >>= λ t. choose t (statement body scope) (statement otherwise scope)
  statement (Statement.While at condition body) scope = loop condition body scope
  -- the place is read once; where no clause names the member, `default` is taken
  statement (Statement.Switch at place clauses) scope =
      let a = sense place scope in
      a.look >>= one >>= held_by scope.world a.shape >>= λ held.
      need (or_else (case_for clauses held scope) (default_for clauses scope)) >>= λ clause.
      clause >>= λ flow. give (after_switch flow)
  statement (Statement.Break at) scope = give Breaks
  statement (Statement.Continue at) scope = give Continues
  statement (Statement.Return at None) scope = give (Returns [])
  -- the result is converted before any region is left
  statement (Statement.Return at (Some e)) scope =
      let a = sense e scope in a.value >>= converted scope.world scope.result a.shape >>= λ vs. give (Returns vs)
  statement (Statement.FreeUnique at pointer) scope = local_freed scope pointer.text pointer_freed >> give Falls
  statement (Statement.FreeKey at key) scope = local_freed scope key.text key_freed >> give Falls

  -- the items of a block, one after another
  pub block_items : BlockItems → Scope → Act Flow
  block_items NoItems scope = give Falls
  block_items (Declare d others) scope = declaration d scope (block_items others)
  block_items (Execute s others) scope = statement s scope >>= λ flow. falls_to flow (block_items others scope)

  -- the clause for the member that is held: a block, in which the name is a copy of the member
  pub case_for : Clauses → Held → Scope → Option (Act Flow)
  case_for NoClauses held scope = None
  case_for (MoreClauses at (Case f x) body others) held scope =
      (if is_position (part_position held.parts f.text) held.position
      then Some (in_block (λ k. local_with (record scope { frame = k }) x.text (part_shape held.parts f.text) (held.value ∷ []) (block_items body)))
      else case_for others held scope)
  case_for (MoreClauses at Default body others) held scope = case_for others held scope

  -- the `default` clause, a block too
  pub default_for : Clauses → Scope → Option (Act Flow)
  default_for NoClauses scope = None
  default_for (MoreClauses at (Case f x) body others) scope = default_for others scope
  default_for (MoreClauses at Default body others) scope = Some (in_block (λ k. block_items body (record scope { frame = k })))
