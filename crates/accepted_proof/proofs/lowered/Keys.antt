-- What `open` and `free_ukey` name, where all is known of each name in scope: lowering takes it as a key.
use Rattle.std.proofs.Common.{◌≡◌, List, sym, subst}
use Rattle.cyc_tree.specs.Tree as tree
use Rattle.cyc_tree.specs.Tree.{Expression}
use Rattle.source_lowering.specs.Lowerable.{IsKeyShape}
use Rattle.source_lowering.specs.Lowered.{Named, static_shape}
use Rattle.source_meaning.specs.Shapes.{KeyShape, Shape}
use Rattle.source_meaning.specs.Steps.{World}
use Rattle.source_typing.specs.Regions.{Region}
use Rattle.source_typing.specs.Scope.{Value}
use Rattle.source_typing.specs.Types.{Key, StaticType}
use Rattle.accepted_proof.proofs.lowered.Forms.{IsTaken, TakenAs, TakenWord}
use Rattle.accepted_proof.proofs.lowered.Stands.{stands_exactly}

-- a key's shape is no pointer's, so it is exactly its type's
pub key_takes : (w : World) (names : List Named) (x : tree.Name) (v : Value) (r : Region) → v.type ≡ Key r → IsTaken w names (Expression.Variable x) v
    → IsKeyShape (static_shape w names (Expression.Variable x))
key_takes w names x v r e k =
    let word : TakenWord w names (Expression.Variable x) (Key r) =
    subst (λ (t : StaticType). TakenAs w names t (Expression.Variable x)) e k.value in
    let s : Shape = static_shape w names (Expression.Variable x) in
    subst (λ (z : Shape). IsKeyShape z) (sym (stands_exactly s KeyShape word.shape tt)) tt
