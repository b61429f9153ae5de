-- What lowering knows where an expression stands, and the senses of what `new` and `rnew` make.
use Rattle.std.proofs.Common.{◌≡◌, ℕ, ◌+◌, Bool, true, false, List, [], ◌∷◌, ◌++◌, refl}
use Rattle.cyc_tree.specs.Tree.{Array, Expression, Made, One}
use Rattle.source_meaning.specs.Shapes.{Shape}
use Rattle.source_meaning.specs.Steps.{Act, Scope, World, give}
use Rattle.source_meaning.specs.Making.{Maker, heap_maker, AsUnique}
use Rattle.source_meaning.specs.Places.{Sense}
use Rattle.source_meaning.specs.Calls.{array_made, handle_maker, made}
use Rattle.source_meaning.specs.Expressions.{element_scope, is_unique_region, new_in_sense, new_sense, sense}
use Rattle.core_meaning.specs.Core.{Program, Statement}
use Rattle.source_lowering.specs.Lowered.{Named, element_names, expression_code, new_code, new_shape, owner_in}
use Rattle.source_lowering.specs.Programs.{RegionsAround}
use Rattle.source_lowering.specs.Simulation.{AreLocals, Point}
use Rattle.source_lowering.proofs.expressions.Names.{AreObjectNames, IsPlainWorld}
use Rattle.std.proofs.lemmas.Bool.{false≢true}
use Rattle.source_lowering.proofs.expressions.Variables.{Agrees}
use Rattle.source_lowering.proofs.statements.Blocks.{locals_outward, objects_outward}

-- What lowering knows beside the scope: the names, the blocks around this one, and how far this one is; the temporary objects that are kept; and the regions in
-- scope, by which so many of the first temporaries are taken.
pub record Known : Type 0 where
  pub program : Program
  pub names : List Named
  pub outer : List ℕ
  pub made : ℕ
  pub pending : List Shape
  pub own : ℕ
  pub owned : List Shape
  pub kept : ℕ
  pub regions : RegionsAround

abbrev pub place_in : Scope → Known → Point
place_in scope k = record {
  world = scope.world;
  program = k.program;
  locals = scope.locals;
  names = k.names;
  frame = scope.frame;
  outer = k.outer;
  made = k.made;
  pending = k.pending;
  own = k.own;
  owned = k.owned;
  kept = k.kept;
  regions = k.regions;
}

-- what holds of the names in a scope
pub record IsKnown (scope : Scope) (k : Known) : Type 0 where
  pub world : IsPlainWorld scope.world
  pub locals : AreLocals (scope.frame ∷ k.outer) scope.locals k.names
  pub words : AreObjectNames scope.world.unions scope.world.structs k.names

-- the same with so many temporary objects that are left as they are
abbrev pub known_keeping : Known → ℕ → Known
known_keeping k values = record k { kept = values }

pub keeping_known : (scope : Scope) (k : Known) (values : ℕ) → IsKnown scope k → IsKnown scope (known_keeping k values)
keeping_known scope k values known = record { world = known.world; locals = known.locals; words = known.words }

-- ---- within the elements of an array

-- the index is the one local of a block, and the array's pointer and its count are in temporaries
abbrev pub known_inside : Scope → Known → List ℕ → ℕ → Known
known_inside scope k name d = record k {
  names = element_names name k.names;
  outer = scope.frame ∷ k.outer;
  made = 1;
  pending = [];
  regions = record k.regions { all = d + 2 };
}

pub inside_known : (scope : Scope) (k : Known) (name : List ℕ) (d a : ℕ) → IsKnown scope k → IsKnown (element_scope scope name a) (known_inside scope k name d)
inside_known scope k name d a known = record {
  world = known.world;
  locals = (
    record { named = refl; stands = record { frame = a; in_block = refl; is = refl } },
    locals_outward a (scope.frame ∷ k.outer) scope.locals k.names known.locals,
  );
  words = (tt, objects_outward scope.world.unions scope.world.structs k.names known.words);
}

-- ---- what is made

-- where to make it, and whether that is the unique region
abbrev pub new_by : Made → Scope → (unique : Bool) → Act Maker → Sense
new_by (One value) scope unique to = made scope.world to (owner_in unique) (sense value scope)
new_by (Array index count element) scope unique to = array_made scope.world to (sense count scope) (λ a. sense element (element_scope scope index.text a))

pub new_is : (new : Made) (scope : Scope) → new_by new scope false heap_maker ≡ new_sense new scope
new_is (One value) scope = refl
new_is (Array index count element) scope = refl

-- one object alone is made in the unique region
abbrev pub in_one : Bool → Made → Bool
in_one unique (One value) = unique
in_one unique (Array index count element) = false

abbrev pub maker_in : Bool → Sense → Act Maker
maker_in true handle = give AsUnique
maker_in false handle = handle_maker handle

pub new_in_same : (p : Point) (n d own : ℕ) (w : World) (names : List Named) (new : Made) (scope : Scope) (unique : Bool) (handle : Sense)
    (code : List Statement)
    → Agrees p n d (new_by new scope (in_one unique new) (maker_in (in_one unique new) handle)) (new_shape w names (owner_in (in_one unique new)) new)
    (code ++ new_code w names (in_one unique new) new d own)
    → Agrees p n d (new_in_sense new scope unique handle) (new_shape w names (owner_in unique) new) (code ++ new_code w names unique new d own)
new_in_same p n d own w names (One value) scope true handle code one = one
new_in_same p n d own w names (One value) scope false handle code one = one
new_in_same p n d own w names (Array index count element) scope unique handle code one = one

-- the unique region has no code
pub unique_none : (w : World) (names : List Named) (e : Expression) (d own : ℕ) → is_unique_region e ≡ true → expression_code w names e d own ≡ []
unique_none w names (Expression.UniqueRegion at) d own h = refl
unique_none w names (Expression.Grouped at inner) d own h = unique_none w names inner d own h
unique_none w names _ d own h = absurd (false≢true h)
