-- Believed: which programs are in order: their structs, unions, globals, functions and `main`, by what their names mean.
use Rattle.std.specs.Prelude.{◌≡◌, ℕ, true, false, ◌⊎◌, Some, List, [], ◌∷◌, codes}
use Rattle.cyc_tree.specs.Tree as tree
use Rattle.cyc_tree.specs.Tree.{Constant, Initial, Item, Program}
use Rattle.cyc_words.specs.Events.{SourceEnding}
use Rattle.source_meaning.specs.Shapes.{Shape, CharShape, ArrayShape, Part, written, settled}
use Rattle.source_meaning.specs.Memory.{Integer, IntegerType, Scalar}
use Rattle.source_meaning.specs.Steps.{Variable, World, give}
use Rattle.source_meaning.specs.Places.{bound_to}
use Rattle.source_meaning.specs.Programs.{heap_spot, is_main, constant_value, world_of, source}
use Rattle.source_typing.specs.Left.{left_by_items, states_at}
use Rattle.source_typing.specs.Regions.{Region, TheHeap, entry_regions}
use Rattle.source_typing.specs.Scope.{Env, InRegion, block_entered}
use Rattle.source_typing.specs.Tables as typing
use Rattle.source_typing.specs.Tables.{OfValue, OfFunction, Stored, Arrayed, Signature, find, has_beginning}
use Rattle.source_typing.specs.Types.{StaticType, Int, Void, Thin, Fat, Unique, Handle, Key, Struct, Union, shape_of}
use Rattle.source_typing.specs.Ways.{ways_of_items}
use Rattle.type_proof.specs.Entries.{IsObjectType, Function, PlainTables}
use Rattle.type_proof.specs.Judged.{extended, ItemsJudged}
use Rattle.source_typing.specs.Named.{AllBelow, BoundsBelow, TypeBelow, TypesBelow}
use Rattle.type_proof.specs.Structs.{StructsJudged, UnionsJudged}

-- ---- functions

-- a name without a place in the text
abbrev pub name_alone : List ℕ → tree.Name
name_alone x = record { at = 0; text = x }

-- a scope with all parameters
abbrev pub with_all : List Part → List StaticType → Env → Env
with_all (p ∷ ps) (t ∷ ts) g = with_all ps ts (extended g (name_alone p.name) t)
with_all _ _ g = g

-- A function whose body is in order: the scope around it, in which its region variables are the first names, its effect's regions are live and its bounds
-- hold; its types, effect and bounds, which speak of those variables and the heap alone; its body in the scope of its parameters; and its end, which is
-- reached only where nothing has to be given.
pub record FunctionJudged (world : World) (tables : typing.Tables) (x : List ℕ) (s : Signature) (F : Function world x s) : Type 0 where
  pub outside : Env
  pub tables_are : outside.tables ≡ tables
  pub locals : outside.locals ≡ []
  pub regions : outside.regions ≡ entry_regions s.regions s.effect s.bounds
  pub strict : outside.lenient ≡ false
  pub enclosing : outside.enclosing ≡ InRegion TheHeap
  pub takes_below : TypesBelow s.regions F.types
  pub gives_below : TypeBelow s.regions F.gives
  pub effect_below : AllBelow s.regions s.effect
  pub bounds_below : BoundsBelow s.regions s.bounds
  pub result : outside.result ≡ Some F.gives
  pub no_loop : outside.in_loop ≡ false
  pub no_switch : outside.in_switch ≡ false
  pub body : ItemsJudged (with_all F.routine.parameters F.types (block_entered outside)) true F.routine.body
  -- no fault of flow, where the parameters that can't be copied are held
  pub flow : (left_by_items (with_all F.routine.parameters F.types (block_entered outside)) F.routine.body
      (states_at (with_all F.routine.parameters F.types (block_entered outside)))).faults ≡ []
  pub ends : (ways_of_items F.routine.body).falls ≡ true → (F.gives ≡ Void) ⊎ ((is_main F.routine.name ≡ true) × (F.gives ≡ Int))

-- ---- globals

-- what a constant of an integer gives
pub record IsNumber (c : Constant) : Type 0 where
  pub of : IntegerType
  pub word : ℕ
  pub gives : (strings : List (ℕ × Scalar)) → constant_value strings c ≡ give (Integer of word)

-- the constant of a pointer to what has such a shape: `NULL`, or a string, where it points to chars
abbrev pub IsPointerConstant : Shape → Constant → Type 0
IsPointerConstant to (Constant.Null at) = Unit {0}
IsPointerConstant to (Constant.Text at bytes) = (to ≡ CharShape)
IsPointerConstant to _ = ⊥

abbrev pub IsNullConstant : Constant → Type 0
IsNullConstant (Constant.Null at) = Unit {0}
IsNullConstant c = ⊥

-- the first value of a global of a type: a pointer's is `NULL` or a string, a unique pointer's is `NULL`, and an integer's is a number; there is none of a
-- handle, a key, a struct or a union
abbrev pub IsFirst : StaticType → Constant → Type 0
IsFirst (Thin n r t) c = IsPointerConstant (shape_of t) c
IsFirst (Fat r t) c = IsPointerConstant (shape_of t) c
IsFirst (Unique n t) c = IsNullConstant c
IsFirst (Handle r) c = ⊥
IsFirst (Key r) c = ⊥
IsFirst (Struct tag rs) c = ⊥
IsFirst (Union tag rs) c = ⊥
IsFirst t c = IsNumber c

-- the initializer of a global, where there is one; the elements of an array have none
abbrev pub InitialJudged : StaticType → Initial → Type 0
InitialJudged t Initial.Unset = Unit {0}
InitialJudged t (Initial.Elements count) = Unit {0}
InitialJudged t (Initial.Given c) = IsFirst t c

-- a global, or a global array, of a type that begins without an initializer
pub record GlobalJudged (tables : typing.Tables) (x : tree.Global) : Type 0 where
  pub type : StaticType
  pub object : IsObjectType type
  pub begins : has_beginning tables type ≡ true
  pub shape : settled (written x.of) ≡ shape_of type
  pub initial : InitialJudged type x.initial

abbrev pub GlobalsJudged : typing.Tables → List Item → Type 0
GlobalsJudged tables [] = Unit {0}
GlobalsJudged tables (tree.GlobalItem x ∷ items) = GlobalJudged tables x × GlobalsJudged tables items
GlobalsJudged tables (tree.StructItem s ∷ items) = GlobalsJudged tables items
GlobalsJudged tables (tree.UnionItem s ∷ items) = GlobalsJudged tables items
GlobalsJudged tables (tree.FunctionItem f ∷ items) = GlobalsJudged tables items

-- ---- programs

-- a variable that the tables have is a global of the program, and its type names no region but the heap
pub record GlobalFound (world : World) (x : List ℕ) (t : StaticType) (r : Region) : Type 0 where
  pub number : ℕ
  pub is : bound_to world.globals x ≡ Some (Variable (shape_of t) (heap_spot number))
  pub region : r ≡ TheHeap
  pub below : TypeBelow 0 t

-- so is an array
pub record ArrayFound (world : World) (x : List ℕ) (t : StaticType) (r : Region) : Type 0 where
  pub number : ℕ
  pub count : ℕ
  pub is : bound_to world.globals x ≡ Some (Variable (ArrayShape count (shape_of t)) (heap_spot number))
  pub region : r ≡ TheHeap
  pub below : TypeBelow 0 t

-- `main` takes nothing and gives an int
pub record MainFound (world : World) (tables : typing.Tables) : Type 0 where
  pub signature : Signature
  pub function : Function world (codes "main") signature
  pub found : find tables (codes "main") ≡ Some (OfFunction signature)
  pub types : function.types ≡ []
  pub gives : function.gives ≡ Int

-- A program in which nothing has a fault, by these tables of its names.
pub record ProgramJudged (p : Program) (tables : typing.Tables) : Type 0 where
  pub structs : StructsJudged (world_of p) tables
  pub unions : UnionsJudged (world_of p) tables
  pub plain : PlainTables (world_of p) tables
  pub globals : GlobalsJudged tables p
  pub variables : (x : List ℕ) (t : StaticType) (r : Region) → find tables x ≡ Some (OfValue (Stored t r)) → GlobalFound (world_of p) x t r
  pub arrays : (x : List ℕ) (t : StaticType) (r : Region) → find tables x ≡ Some (OfValue (Arrayed t r)) → ArrayFound (world_of p) x t r
  pub functions : (x : List ℕ) (s : Signature) (F : Function (world_of p) x s) → find tables x ≡ Some (OfFunction s)
      → FunctionJudged (world_of p) tables x s F
  pub main : MainFound (world_of p) tables

-- a program that is in order is never stuck, on any input, with any fuel
abbrev pub NeverStuck : Type 0
NeverStuck = (p : Program) (tables : typing.Tables) → ProgramJudged p tables → (input : List ℕ) (n : ℕ) → (source p input n).ending ≡ SourceEnding.Stuck → ⊥
