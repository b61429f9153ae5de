use Rattle.std.proofs.Common.{◌≡◌, ◌+◌, ◌<◌, ◌^◌, rules, arith, sym, ap, subst}
use Rattle.cyc_tree.specs.Tree.{Declaration, Initializer}
use Rattle.cyc_tree.specs.View.{declaration_tree, expression_tree, initializer_tree, type_tree}
use Rattle.source_meaning.specs.Shapes.{Shape, settled, settled_by, written}
use Rattle.source_lowering.specs.Lowered.{static_shape}
use Rattle.source_lowering.specs.Programs.{object_shape}
use Rattle.source_lowering.specs.Lowerable.{IsObject, IsVariable, TakesDeclaration, TakesInitializer, TakesValue}
use Rattle.cyc_tree.specs.Room.{declaration_room, initializer_room, room}
use Rattle.source_lowering.proofs.memory.ObjectShapes.{object_named}
use Rattle.source_lowering.proofs.statements.WrittenTypes.{object_by, object_settled}
use Rattle.lower_checks.specs.Room.{HasRoom}
use Rattle.lower_checks.specs.Scoped.{names_in, world_in}
use Rattle.lower_checks.specs.Views.{shape_tree}
use Rattle.lower_checks.proofs.declaration.lower_first.Goals as goal

-- a local that is taken is an object, or an array of objects
pub lower_unset-requires : goal.lower_unset-requires
lower_unset-requires c = record {
  taken = λ sound.
      let w = world_in c.args.scope.now in
      let names = names_in c.args.scope.now in
      let of = type_tree c.in-Local-default-default-None.of in
      let both = subst (λ (d : Declaration). TakesDeclaration w names d) (ap declaration_tree c.in-Local-default-default-None.is) (c.requires.taken sound) in
      subst (IsVariable w.unions w.structs) (sym c.one.ensures)
      (object_named w.unions w.structs (settled (written of)) (object_settled w.unions w.structs of both.0));
}

pub lower_unset-requires-in-Local-default-default-Array : goal.lower_unset-requires-in-Local-default-default-Array
lower_unset-requires-in-Local-default-default-Array c = record {
  taken = λ sound.
      let w = world_in c.args.scope.now in
      let names = names_in c.args.scope.now in
      let of = type_tree c.in-Local-default-default-Array.of in
      let both = subst (λ (d : Declaration). TakesDeclaration w names d) (ap declaration_tree c.in-Local-default-default-Array.is) (c.requires.taken sound) in
      let small : c.in-Local-default-default-Array.count < 2 ^ 32 = search rules in
      subst (IsVariable w.unions w.structs) (sym c.array.ensures)
      (omega (arith, small, c.in-Local-default-default-Array.count-is), object_settled w.unions w.structs of both.0);
}

pub lower_set-requires : goal.lower_set-requires
lower_set-requires c = record {
  room =
      let to = c.args.to.0 in
      let e = expression_tree c.in-Local-default-default-Value.value in
      let asked = subst (λ (d : Declaration). HasRoom to (declaration_room d)) (ap declaration_tree c.in-Local-default-default-Value.is) c.requires.room in
      let initial = rw c.in-Local-default-default-Value.is at c.in-Local-default-default-Value.field-2-is in
      let here : HasRoom to (16 + room e) = subst (λ (i : Initializer). HasRoom to (16 + initializer_room i)) (ap initializer_tree initial) asked in
      let roomy : HasRoom to (3 + room e) = omega (arith, here) in
      rw c.in-Local-default-default-Value.field-2-is roomy;
  taken = λ sound.
      let w = world_in c.args.scope.now in
      let names = names_in c.args.scope.now in
      let of = type_tree c.in-Local-default-default-Value.of in
      let e = expression_tree c.in-Local-default-default-Value.value in
      let s = settled_by (written of) (static_shape w names e) in
      let stays = c.initial_shape-shape.ensures.stays sound in
      let both =
      subst (λ (d : Declaration). TakesDeclaration w names d) (ap declaration_tree c.in-Local-default-default-Value.is) (c.requires.taken stays.sound) in
      let initial = rw c.in-Local-default-default-Value.is at c.in-Local-default-default-Value.field-2-is in
      let given =
      subst (λ (i : Initializer). TakesInitializer w names (object_shape w names (written of) i) i) (ap initializer_tree initial) both.1 in
      let found = c.initial_shape-shape.ensures.shape sound in
      let shape_is : shape_tree c.initial_shape-shape.result ≡ s = rw c.in-Local-default-default-Value.field-2-is at found in
      let shaped = subst (λ (s : Shape). TakesValue w names s e) (sym shape_is) given in (
        subst (IsObject w.unions w.structs) (sym shape_is) (object_by w.unions w.structs of both.0 (static_shape w names e)),
        rw c.in-Local-default-default-Value.field-2-is shaped,
      );
}
