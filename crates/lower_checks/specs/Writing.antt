-- View of code: what has been written of a function's body, and whether that failed for lack of memory.
use Rattle.std.specs.Prelude.{◌≡◌, ℕ, false, List, [], ◌++◌, length, map}
use Rattle.core_meaning.specs.Core.{Statement}
use Rattle.cyc_core.specs.Trees.{statement_tree}
use Rattle.source_meaning.specs.Shapes.{Shape}
use Rattle.lower_checks.specs.Views.{shape_tree}
use Rattle.lower_checks.specs.declared.body.Body.{Body}

abbrev pub code_of : Body → List Statement
code_of b = map statement_tree b.code.items

abbrev pub values_of : Body → List Shape
values_of b = map shape_tree b.own.items

-- the next temporary object's number
abbrev pub next_of : Body → ℕ
next_of b = length b.own.items

-- no step has failed
abbrev pub IsSound : Body → Type 0
IsSound b = b.failed ≡ false

pub record IsEmitted (a b : Body) (more : List Statement) : Type 0 where
  pub sound : IsSound a
  pub code : code_of b ≡ code_of a ++ more
  pub own : b.own ≡ a.own

-- statements are appended, or else the body has failed
abbrev pub Emits : Body → Body → List Statement → Type 0
Emits a b code = IsSound b → IsEmitted a b code

pub record IsSame (a b : Body) : Type 0 where
  pub sound : IsSound a
  pub code : b.code ≡ a.code
  pub own : b.own ≡ a.own

-- nothing is appended, and the body may have failed
abbrev pub Stays : Body → Body → Type 0
Stays a b = IsSound b → IsSame a b

pub record IsWritten (a b : Body) (more : List Statement) (shapes : List Shape) : Type 0 where
  pub sound : IsSound a
  pub code : code_of b ≡ code_of a ++ more
  pub values : values_of b ≡ values_of a ++ shapes

-- statements are appended, and shapes of temporary objects, or else the body has failed
abbrev pub Writes : Body → Body → List Statement → List Shape → Type 0
Writes a b code values = IsSound b → IsWritten a b code values

-- a body that is begun in another one, whose statements are set aside
pub record IsBegun (a b : Body) : Type 0 where
  pub code : code_of b ≡ []
  pub own : b.own ≡ a.own
  pub failed : b.failed ≡ a.failed

-- the part is put away again
pub record IsEnded (a b : Body) (outer : List Statement) : Type 0 where
  pub code : code_of b ≡ outer
  pub own : b.own ≡ a.own
  pub failed : b.failed ≡ a.failed

-- of what is to be written, so much is left
pub record IsLeft (a b : Body) (code code_left : List Statement) (shapes shapes_left : List Shape) : Type 0 where
  pub sound : IsSound a
  pub written : code_of b ++ code_left ≡ code_of a ++ code
  pub values : values_of b ++ shapes_left ≡ values_of a ++ shapes

-- a part is written apart: no statement is appended here, but the shapes of temporary objects
pub record IsApart (a b : Body) (shapes : List Shape) : Type 0 where
  pub sound : IsSound a
  pub code : code_of b ≡ code_of a
  pub values : values_of b ≡ values_of a ++ shapes

-- of what is to be emitted, so much is left
pub record IsEmitting (a b : Body) (code code_left : List Statement) : Type 0 where
  pub sound : IsSound a
  pub written : code_of b ++ code_left ≡ code_of a ++ code
  pub own : b.own ≡ a.own
