use Rattle.std.proofs.Common.{◌≡◌, ◌∙◌, ◌+◌, arith, sym, ap, ap₂, subst, [], ◌∷◌, ◌++◌, length, map, append-nil}
use Rattle.cyc_tree.specs.Tree.{Statement}
use Rattle.cyc_tree.specs.View.{expression_tree, name_tree, statement_tree as source_tree}
use Rattle.cyc_tree.proofs.StatementForms.{exchange_tree, free_key_tree, free_unique_tree}
use Rattle.core_meaning.specs.Core as core
use Rattle.source_lowering.specs.Lowered.{expression_values, get_code, place_code, static_shape}
use Rattle.source_lowering.specs.Programs.{exchange_code, side_code, side_of, statement_code, statement_values, unique_free}
use Rattle.source_lowering.specs.Lowerable.{TakesStatement}
use Rattle.cyc_tree.specs.Room.{statement_room}
use Rattle.lower_checks.specs.Room.{HasRoom}
use Rattle.lower_checks.specs.Scoped.{names_in, world_in}
use Rattle.lower_checks.specs.Views.{regions_tree, shape_tree}
use Rattle.lower_checks.specs.Writing.{IsEmitted, IsWritten, next_of, values_of}
use Rattle.lower_checks.proofs.Phrases.{statement_least}
use Rattle.lower_checks.proofs.simple.lower_plain.Goals as goal

-- an exchange, whose places are taken
pub lower_exchange-requires : goal.lower_exchange-requires
lower_exchange-requires c =
    let is = ap source_tree c.in-Exchange.is ∙ exchange_tree c.in-Exchange.left c.in-Exchange.right
    ∙ sym (ap₂ (λ l r. Statement.Exchange (expression_tree l) (expression_tree r)) c.deref.ensures c.deref-in-Exchange.ensures) in
    record {
      room = let asked = subst (λ s. HasRoom c.args.around.all (statement_room s)) is c.requires.room in
          omega (arith, c.value-to.ensures, asked);
      taken = λ sound.
          subst (TakesStatement (world_in c.args.scope.now) (shape_tree c.args.shape.now) (names_in c.args.scope.now)) is (c.requires.taken sound);
    }

pub returns-in-Exchange : goal.returns-in-Exchange
returns-in-Exchange c sound =
    let w = world_in c.args.scope.now in
    let names = names_in c.args.scope.now in
    let result = shape_tree c.args.shape.now in
    let h = regions_tree c.args.around c.args.opened.now in
    let a = c.args.body.now in
    let own = next_of a in
    let z = c.lower_exchange.new.body in
    let left = expression_tree c.deref.result.now in
    let right = expression_tree c.deref-in-Exchange.result.now in
    let x = side_of names left in
    let y = side_of names right in
    let to_is : c.value-to.result.0 ≡ h.all = c.value-to.ensures in
    let done =
    subst
    (λ n. IsWritten a z
    (side_code x (place_code w names left n own) ++
    (side_code y (place_code w names right (n + 1) (own + length (expression_values w names left))) ++ exchange_code w x y (static_shape w names left) n))
    (expression_values w names left ++ expression_values w names right)) to_is (c.lower_exchange.ensures.writes sound) in
    subst (λ s. IsWritten a z (statement_code w result names h own s) (statement_values w names s))
    (sym (ap source_tree c.in-Exchange.is ∙ exchange_tree c.in-Exchange.left c.in-Exchange.right
    ∙ sym (ap₂ (λ l r. Statement.Exchange (expression_tree l) (expression_tree r)) c.deref.ensures c.deref-in-Exchange.ensures))) done

pub lower_free-requires : goal.lower_free-requires
lower_free-requires c = omega (arith, c.value-to.ensures, c.requires.room, statement_least (source_tree c.args.statement.now))

pub lower_free_key-requires : goal.lower_free_key-requires
lower_free_key-requires c = omega (arith, c.value-to.ensures, c.requires.room, statement_least (source_tree c.args.statement.now))

-- a unique pointer that is freed
pub returns-in-FreeUnique : goal.returns-in-FreeUnique
returns-in-FreeUnique c sound =
    let w = world_in c.args.scope.now in
    let names = names_in c.args.scope.now in
    let result = shape_tree c.args.shape.now in
    let h = regions_tree c.args.around c.args.opened.now in
    let a = c.args.body.now in
    let own = next_of a in
    let z = c.lower_free.new.body in
    let name = (name_tree c.in-FreeUnique.pointer).text in
    let to_is : c.value-to.result.0 ≡ h.all = c.value-to.ensures in
    let freed = subst (λ n. IsEmitted a z (get_code w names name n ++ unique_free n)) to_is (c.lower_free.ensures sound) in
    let done : IsWritten a z (get_code w names name h.all ++ unique_free h.all) [] = record {
      sound = freed.sound;
      code = freed.code;
      values = ap (λ own. map shape_tree own.items) freed.own ∙ sym (append-nil (values_of a));
    } in
    subst (λ s. IsWritten a z (statement_code w result names h own s) (statement_values w names s))
    (sym (ap source_tree c.in-FreeUnique.is ∙ free_unique_tree c.in-FreeUnique.field-0 c.in-FreeUnique.pointer)) done

-- a key's region that is freed
pub returns-in-FreeKey : goal.returns-in-FreeKey
returns-in-FreeKey c sound =
    let w = world_in c.args.scope.now in
    let names = names_in c.args.scope.now in
    let result = shape_tree c.args.shape.now in
    let h = regions_tree c.args.around c.args.opened.now in
    let a = c.args.body.now in
    let own = next_of a in
    let z = c.lower_free_key.new.body in
    let name = (name_tree c.in-FreeKey.key).text in
    let to_is : c.value-to.result.0 ≡ h.all = c.value-to.ensures in
    let freed = subst (λ n. IsEmitted a z (get_code w names name n ++ core.Do (core.KeyFree n) ∷ [])) to_is (c.lower_free_key.ensures sound) in
    let done : IsWritten a z (get_code w names name h.all ++ core.Do (core.KeyFree h.all) ∷ []) [] = record {
      sound = freed.sound;
      code = freed.code;
      values = ap (λ own. map shape_tree own.items) freed.own ∙ sym (append-nil (values_of a));
    } in
    subst (λ s. IsWritten a z (statement_code w result names h own s) (statement_values w names s))
    (sym (ap source_tree c.in-FreeKey.is ∙ free_key_tree c.in-FreeKey.field-0 c.in-FreeKey.key)) done
