-- View of two runs side by side: what the names in a scope stand for, as lowering knows them.
use Rattle.std.proofs.Common.{◌≡◌, ℕ, List, [], ◌∷◌, Some}
use Rattle.std.specs.Prelude.{slice_get}
use Rattle.source_meaning.specs.Shapes.{Shape}
use Rattle.source_meaning.specs.Memory as source
use Rattle.source_meaning.specs.Steps.{Binding, Entity, Variable}
use Rattle.source_lowering.specs.Naming.{Home, InBlock, Named}

-- a variable of a block
pub record IsVariableAt (blocks : List ℕ) (e : Entity) (shape : Shape) (out index : ℕ) : Type 0 where
  pub frame : ℕ
  pub in_block : slice_get blocks out ≡ Some frame
  pub is : e ≡ Variable shape (record { region = source.Frame frame; object = index; cell = 0 })

abbrev pub StandsFor : List ℕ → Entity → Shape → Home → Type 0
StandsFor blocks e shape (InBlock out index) = IsVariableAt blocks e shape out index

pub record IsLocal (blocks : List ℕ) (b : Binding) (l : Named) : Type 0 where
  pub named : b.name ≡ l.name
  pub stands : StandsFor blocks b.entity l.shape l.home

abbrev pub AreLocals : List ℕ → List Binding → List Named → Type 0
AreLocals blocks [] [] = Unit {0}
AreLocals blocks (b ∷ bs) (l ∷ ls) = IsLocal blocks b l × AreLocals blocks bs ls
AreLocals blocks [] (l ∷ ls) = ⊥
AreLocals blocks (b ∷ bs) [] = ⊥
