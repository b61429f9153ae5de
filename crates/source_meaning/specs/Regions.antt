-- Believed: blocks, regions, keys and unique pointers: how they are entered, left and freed.
use Rattle.std.specs.Prelude.{ℕ, ◌+◌, Option, Some, None, List, [], ◌∷◌}
use Rattle.cyc_words.specs.Events.{RegionNew, RegionFree, UniqueFree, KeyNew, KeyOpen, KeyClose, KeyFree}
use Rattle.source_meaning.specs.Shapes.{Shape, HandleShape, KeyShape, settled_by}
use Rattle.source_meaning.specs.Memory.{Region, Frame, Born, Spot, Scalar, Thin, HandleOf, KeyOf, Holds, Gone, Lent, Object, blank_object, Live, Closed, Dead}
use Rattle.source_meaning.specs.Memory.{is_live, is_closed, is_moved, with_state}
use Rattle.source_meaning.specs.Steps.{Entity, Variable, Scope, Flow, Act, give, ◌>>=◌, ◌>>◌, stuck, show, memory, set_memory, check, finally}
use Rattle.source_meaning.specs.Conversions.{cells_of, converted, converted_scalar}
use Rattle.source_meaning.specs.Values.{read_cell, write_cells, put_content}
use Rattle.source_meaning.specs.Making.{set_state, make_object, new_region}
use Rattle.source_meaning.specs.Places.{Sense, entity_of, with_binding}

-- A scoped region: it is entered, then comes what is done in it, and then it is left, however that ends. A raise leaves nothing.
abbrev pub in_region : {A : Type 0} → Act ℕ → (ℕ → Act (Unit {0})) → (ℕ → Act A) → Act A
in_region enter leave body = enter >>= λ r. finally (body r) (leave r)

-- ---- blocks and their locals

-- each activation of a block has a region of its own for its locals, which has no event
abbrev pub enter_block : Act ℕ
enter_block =
    memory >>= λ m. set_memory (with_state (record m { activations = m.activations + 1 }) (Frame m.activations) Live) >> give m.activations

-- a block's locals go with it, however it is left
abbrev pub in_block : {A : Type 0} → (ℕ → Act A) → Act A
in_block body = in_region enter_block (λ k. set_state (Frame k) Dead) body

-- a local of the block, and what follows with it in scope
abbrev pub declared : Scope → List ℕ → Shape → Object → (Scope → Act Flow) → Act Flow
declared scope name s o rest =
    make_object (Frame scope.frame) o >>= λ at. rest (with_binding scope name (Variable s at))

-- a local with a value: its cells begin Blank, and the value is stored to them
abbrev pub local_with : Scope → List ℕ → Shape → List Scalar → (Scope → Act Flow) → Act Flow
local_with scope name s vs rest =
    make_object (Frame scope.frame) (blank_object (cells_of scope.world s)) >>= λ at.
    write_cells at vs >> rest (with_binding scope name (Variable s at))

-- a local with an initializer, whose value is converted to the local's type
abbrev pub initialised : Scope → List ℕ → Shape → Sense → (Scope → Act Flow) → Act Flow
initialised scope name s e rest =
    e.value >>= converted scope.world s e.shape >>= λ vs. local_with scope name s vs rest

-- a local that is named as an operand
pub record Operand : Type 0 where
  pub shape : Shape
  pub at : Spot

-- A variable that can't be copied is an operand of what frees, lends and opens; one that can be is none.
abbrev pub operand_of : Option Entity → Act Operand
operand_of (Some (Variable s at)) = check (is_moved s) >> give (record { shape = s; at = at })
operand_of None = stuck

-- the innermost local of a name, or else the global
abbrev pub operand : Scope → List ℕ → Act Operand
operand scope name = operand_of (entity_of scope name)

-- a local is lent while the rest of the block runs, and has its value again when the block is left
abbrev pub lending : Spot → Scalar → Act Flow → Act Flow
lending at v act = put_content at (Lent v) >> finally act (put_content at (Holds v))

-- ---- lexical regions

-- a region for the rest of its block; when that is left, all its objects are freed together
abbrev pub region_born : Act ℕ
region_born = new_region Live >>= λ r. show (RegionNew r) >> give r

-- all objects of a region are freed together; what isn't live can't be freed
abbrev pub region_freed : ℕ → Act (Unit {0})
region_freed r = memory >>= λ m. check (is_live m (Born r)) >> (show (RegionFree r) >> set_state (Born r) Dead)

-- `region<..> h;` opens a region for the rest of its block, and the handle is a local of that block
abbrev pub lexical_region : Scope → List ℕ → (Scope → Act Flow) → Act Flow
lexical_region scope handle rest =
    in_region region_born region_freed (λ r. local_with scope handle HandleShape (HandleOf r ∷ []) rest)

-- ---- dynamic regions and their keys

-- the region of a key
abbrev pub key_of : Scalar → Act ℕ
key_of (KeyOf r) = give r
key_of v = stuck

-- a dynamic region is born closed, with its key; it isn't freed when the key goes out of scope
abbrev pub new_key : Scope → List ℕ → (Scope → Act Flow) → Act Flow
new_key scope key rest =
    new_region Closed >>= λ r. show (KeyNew r) >> local_with scope key KeyShape (KeyOf r ∷ []) rest

-- only a closed region is opened
abbrev pub key_opened : ℕ → Act ℕ
key_opened r = memory >>= λ m. check (is_closed m (Born r)) >> (show (KeyOpen r) >> (set_state (Born r) Live >> give r))

-- only a live one is closed
abbrev pub key_closed : ℕ → Act (Unit {0})
key_closed r = memory >>= λ m. check (is_live m (Born r)) >> (show (KeyClose r) >> set_state (Born r) Closed)

-- the key's region is open for the rest of the block, and the key is lent meanwhile
abbrev pub open_key : Scope → List ℕ → List ℕ → (Scope → Act Flow) → Act Flow
open_key scope handle key rest =
    operand scope key >>= λ x. read_cell x.at >>= λ v. key_of v >>= λ r.
    lending x.at v (in_region (key_opened r) key_closed (λ q. local_with scope handle HandleShape (HandleOf q ∷ []) rest))

-- only a closed region is freed by its key
abbrev pub key_freed : Scalar → Act (Unit {0})
key_freed v =
    key_of v >>= λ r. memory >>= λ m. check (is_closed m (Born r)) >> (show (KeyFree r) >> set_state (Born r) Dead)

-- ---- unique pointers

-- a unique block is freed with its region; what isn't live can't be freed
abbrev pub unique_freed : Region → Act (Unit {0})
unique_freed (Frame k) = stuck
unique_freed (Born r) = memory >>= λ m. check (is_live m (Born r)) >> (show (UniqueFree r) >> set_state (Born r) Dead)

-- freeing NULL does nothing
abbrev pub pointer_freed : Scalar → Act (Unit {0})
pointer_freed (Thin None) = give tt
pointer_freed (Thin (Some s)) = unique_freed s.region
pointer_freed v = stuck

-- `ufree` and `free_ukey`: the operand is moved out of its local, and what it holds is freed
abbrev pub local_freed : Scope → List ℕ → (Scalar → Act (Unit {0})) → Act (Unit {0})
local_freed scope name freed = operand scope name >>= λ x. read_cell x.at >>= λ v. put_content x.at Gone >> freed v

-- An alias is a copy of the pointer for the rest of the block, and the pointer is lent meanwhile. Where its type leaves a region out, the pointer's has it.
abbrev pub aliased : Scope → Shape → List ℕ → List ℕ → (Scope → Act Flow) → Act Flow
aliased scope s alias pointer rest =
    operand scope pointer >>= λ x. read_cell x.at >>= λ v. converted_scalar scope.world (settled_by s x.shape) x.shape v >>= λ c.
    lending x.at v (local_with scope alias (settled_by s x.shape) (c ∷ []) rest)
