use Rattle.std.proofs.Common.{◌≡◌, ◌∙◌, ◌+◌, ◌*◌, ℕ, arith, sym, ap, subst, ◌++◌, [], List, length, map}
use Rattle.std.proofs.lemmas.List.{length-map}
use Rattle.cyc_tree.specs.Tree.{BlockItems}
use Rattle.cyc_tree.specs.View.{item_tree, items_of, member_tree, function_tree as source_tree}
use Rattle.cyc_core.specs.Trees.{statement_tree}
use Rattle.source_meaning.specs.Shapes.{Shape, part_of, part_shapes}
use Rattle.source_meaning.specs.Programs.{world_of, routine_of}
use Rattle.source_lowering.specs.Lowered.{Named}
use Rattle.source_lowering.specs.Programs.{RegionsAround, no_regions, block_shapes, locals_of, parameter_names, parameters_code, item_values, items_code}
use Rattle.source_lowering.specs.Programs.{end_code}
use Rattle.source_lowering.specs.Lowerable.{TakesItems}
use Rattle.source_lowering.specs.Objects.{AreVariables}
use Rattle.cyc_tree.specs.Room.{item_room}
use Rattle.lower_checks.specs.Room.{HasRoom}
use Rattle.lower_checks.specs.Views.{regions_tree, shape_tree, stored_tree}
use Rattle.lower_checks.specs.Visible.{names_of}
use Rattle.lower_checks.specs.Writing.{code_of, next_of, values_of}
use Rattle.source_lowering.proofs.statements.BlockVariables.{block_variables}
use Rattle.lower_checks.proofs.Taken.{parameter_variables}
use Rattle.lower_checks.proofs.Bodies.{all_parameters, as_many_shapes, body_shapes, inside_of, body_of}
use Rattle.lower_checks.proofs.function.lower_body.Goals as goal

-- its parameters have the room that they ask for
pub lower_parameters-requires : goal.lower_parameters-requires
lower_parameters-requires c =
    let f = source_tree c.args.function.now in
    let room : HasRoom 0 (16 + (3 * length f.parameters + item_room f.body)) = c.requires.room in
    let as_many : length c.deref.result.now ≡ length f.parameters =
    ap length c.deref.ensures.value ∙ sym (length-map c.args.function.now.parameters.items member_tree) in
    record { room = omega (arith, room, as_many) }

-- its items are taken, by what its parameters are
pub lower_items-requires : goal.lower_items-requires
lower_items-requires c = record {
  room =
      let f = source_tree c.args.function.now in
      let all_is : c.none.result.all ≡ 0 = ap (λ (h : RegionsAround). h.all) c.none.ensures.none in
      let items_are : items_of (map item_tree c.deref-2.result.now) ≡ f.body = ap (λ bs. items_of (map item_tree bs)) c.deref-2.ensures.value in
      let room : HasRoom 0 (16 + (3 * length f.parameters + item_room f.body)) = c.requires.room in
      subst (λ (is : BlockItems). HasRoom c.none.result.all (item_room is)) (sym items_are) (omega (arith, room, all_is));
  counted = c.none.ensures.counted;
  taken = λ sound.
      let w = world_of c.args.program.now in
      let f = source_tree c.args.function.now in
      let r = routine_of f in
      let result = shape_tree c.of-shape.result in
      let taken = map stored_tree c.lower_parameters.new.all.items in
      let count = length c.lower_parameters.new.all.items in
      let names = names_of c.lower_parameters.new.locals in
      let taken_is : taken ≡ part_shapes r.parameters =
      c.lower_parameters.ensures.stored sound
      ∙ ap (λ ms. map stored_tree c.new-all.result.items ++ part_shapes (map part_of (map member_tree ms))) c.deref.ensures.value
      ∙ ap (λ ss. map stored_tree ss ++ part_shapes r.parameters) c.new-all.ensures.items in
      let count_is : count ≡ length r.parameters =
      sym (length-map c.lower_parameters.new.all.items stored_tree) ∙ ap length taken_is ∙ as_many_shapes r.parameters in
      let names_are : names ≡ parameter_names r.parameters 0 [] =
      c.lower_parameters.ensures.names sound
      ∙ ap (λ ms. parameter_names (map part_of (map member_tree ms)) 0 (names_of c.new-locals.result)) c.deref.ensures.value
      ∙ ap (λ ns. parameter_names r.parameters 0 (names_of ns)) c.new-locals.ensures in
      subst (λ bs. TakesItems w result names count (items_of (map item_tree bs))) (sym c.deref-2.ensures.value)
      (subst (λ (s : Shape). TakesItems w s names count f.body) (sym c.of-shape.ensures)
      (subst (λ (n : ℕ). TakesItems w r.result names n f.body) (sym count_is)
      (subst (λ (ns : List Named). TakesItems w r.result ns (length r.parameters) f.body) (sym names_are) c.requires.taken.body)));
}

-- the locals of a function that is taken are variables
pub lower_inside-requires : goal.lower_inside-requires
lower_inside-requires c = record {
  taken = λ sound.
      let w = world_of c.args.program.now in
      let f = source_tree c.args.function.now in
      let r = routine_of f in
      let taken = map stored_tree c.lower_parameters.new.all.items in
      let shapes = map stored_tree c.lower_items.new.declared_here.items in
      let filled = sym c.end-inside.ensures.ended.failed ∙ sound in
      let begun = (c.lower_items.ensures.writes filled).sound in
      let taken_is : taken ≡ part_shapes r.parameters =
      c.lower_parameters.ensures.stored begun
      ∙ ap (λ ms. map stored_tree c.new-all.result.items ++ part_shapes (map part_of (map member_tree ms))) c.deref.ensures.value
      ∙ ap (λ ss. map stored_tree ss ++ part_shapes r.parameters) c.new-all.ensures.items in
      let count = length c.lower_parameters.new.all.items in
      let names = names_of c.lower_parameters.new.locals in
      let count_is : count ≡ length r.parameters =
      sym (length-map c.lower_parameters.new.all.items stored_tree) ∙ ap length taken_is ∙ as_many_shapes r.parameters in
      let names_are : names ≡ parameter_names r.parameters 0 [] =
      c.lower_parameters.ensures.names begun
      ∙ ap (λ ms. parameter_names (map part_of (map member_tree ms)) 0 (names_of c.new-locals.result)) c.deref.ensures.value
      ∙ ap (λ ns. parameter_names r.parameters 0 (names_of ns)) c.new-locals.ensures in
      let own = body_shapes w r in
      let shapes_are : shapes ≡ taken ++ own =
      c.lower_items.ensures.shapes filled ∙ ap (λ bs. taken ++ block_shapes w names count (items_of (map item_tree bs))) c.deref-2.ensures.value
      ∙ ap (λ (ns : List Named). taken ++ block_shapes w ns count r.body) names_are
      ∙ ap (λ (n : ℕ). taken ++ block_shapes w (parameter_names r.parameters 0 []) n r.body) count_is in
      let declared : AreVariables w.unions w.structs own =
      block_variables w r.result (parameter_names r.parameters 0 []) (length r.parameters) r.body c.requires.taken.body in
      let all : AreVariables w.unions w.structs (part_shapes r.parameters ++ own) =
      parameter_variables w.unions w.structs f.parameters own c.requires.taken.parameters declared in
      let same : map stored_tree c.deref-4.result.now ≡ part_shapes r.parameters ++ own =
      ap (map stored_tree) c.deref-4.ensures.value ∙ shapes_are ∙ ap (λ ss. ss ++ own) taken_is in
      subst (AreVariables w.unions w.structs) (sym same) all;
}

pub returns-clause-code : goal.returns-clause-code
returns-clause-code c sound =
    let w = world_of c.args.program.now in
    let f = routine_of (source_tree c.args.function.now) in
    let result = shape_tree c.of-shape.result in
    let free = c.args.parameters in
    let n = c.new-body.result in
    let p = c.lower_parameters.new.body in
    let x = c.lower_items.new.body in
    let outer = c.end-inside.new.self in
    let b = c.lower_inside.new.body in
    let z = c.lower_end.new.body in
    let five = c.lower_end.ensures sound in
    let four = c.lower_inside.ensures five.sound in
    let ended = c.end-inside.ensures.ended in
    let filled = sym ended.failed ∙ four.sound in
    let three = c.lower_items.ensures.writes filled in
    let two = c.lower_parameters.ensures.code three.sound in
    let count = length c.lower_parameters.new.all.items in
    let taken = map stored_tree c.lower_parameters.new.all.items in
    let shapes = map stored_tree c.lower_items.new.declared_here.items in
    let names = names_of c.lower_parameters.new.locals in
    let first = code_of p in
    let inside = map statement_tree c.end-inside.result.items in
    let locals = locals_of w (map stored_tree c.deref-4.result.now) in
    let result_is : result ≡ f.result = c.of-shape.ensures in
    let taken_is : taken ≡ part_shapes f.parameters =
    c.lower_parameters.ensures.stored three.sound
    ∙ ap (λ ms. map stored_tree c.new-all.result.items ++ part_shapes (map part_of (map member_tree ms))) c.deref.ensures.value
    ∙ ap (λ ss. map stored_tree ss ++ part_shapes f.parameters) c.new-all.ensures.items in
    let names_are : names ≡ parameter_names f.parameters 0 [] =
    c.lower_parameters.ensures.names three.sound
    ∙ ap (λ ms. parameter_names (map part_of (map member_tree ms)) 0 (names_of c.new-locals.result)) c.deref.ensures.value
    ∙ ap (λ ns. parameter_names f.parameters 0 (names_of ns)) c.new-locals.ensures in
    let first_is : first ≡ all_parameters f =
    two.code ∙ ap (λ ms. code_of n ++ parameters_code (map part_of (map member_tree ms)) 0 0 free) c.deref.ensures.value
    ∙ ap (λ ss. map statement_tree ss ++ parameters_code f.parameters 0 0 free) c.new-body.ensures.code
    ∙ ap (λ (k : ℕ). parameters_code f.parameters 0 0 k) c.requires.words in
    let regions = regions_tree c.none.result c.deref-3.result.now in
    let regions_are : regions ≡ no_regions =
    ap (λ os. regions_tree c.none.result os) (c.deref-3.ensures.value ∙ c.new-opened.ensures.items) ∙ c.none.ensures.none in
    let none_owned : next_of p ≡ 0 = ap (λ own. length own.items) two.own ∙ ap length c.new-body.ensures.own in
    let inside_is : inside ≡ first ++ items_code w f.result names no_regions (length taken) 0 f.body =
    c.end-inside.ensures.part ∙ three.code
    ∙ ap (λ bs. first ++ items_code w result names regions count (next_of p) (items_of (map item_tree bs))) c.deref-2.ensures.value
    ∙ ap (λ (k : ℕ). first ++ items_code w result names regions count k f.body) none_owned
    ∙ ap (λ (s : Shape). first ++ items_code w s names regions count 0 f.body) result_is
    ∙ ap (λ (h : RegionsAround). first ++ items_code w f.result names h count 0 f.body) regions_are
    ∙ ap (λ (k : ℕ). first ++ items_code w f.result names no_regions k 0 f.body) (sym (length-map c.lower_parameters.new.all.items stored_tree)) in
    let shapes_are : shapes ≡ taken ++ block_shapes w names (length taken) f.body =
    c.lower_items.ensures.shapes filled ∙ ap (λ bs. taken ++ block_shapes w names count (items_of (map item_tree bs))) c.deref-2.ensures.value
    ∙ ap (λ (n : ℕ). taken ++ block_shapes w names n f.body) (sym (length-map c.lower_parameters.new.all.items stored_tree)) in
    let locals_are : locals ≡ locals_of w shapes = ap (λ ss. locals_of w (map stored_tree ss)) c.deref-4.ensures.value in
    let none_is : code_of outer ≡ [] = ended.code ∙ ap (map statement_tree) c.new.ensures.items in
    let body_is : code_of z ≡ code_of b ++ end_code f.result = five.code ∙ ap (λ (s : Shape). code_of b ++ end_code s) result_is in
    let within = inside_of w f taken shapes names first inside locals taken_is names_are first_is inside_is shapes_are locals_are in
    body_of w f locals inside (code_of outer) (code_of b) (code_of z) within none_is four.code body_is

pub returns-clause-values : goal.returns-clause-values
returns-clause-values c sound =
    let w = world_of c.args.program.now in
    let f = routine_of (source_tree c.args.function.now) in
    let p = c.lower_parameters.new.body in
    let five = c.lower_end.ensures sound in
    let four = c.lower_inside.ensures five.sound in
    let ended = c.end-inside.ensures.ended in
    let three = c.lower_items.ensures.writes (sym ended.failed ∙ four.sound) in
    let two = c.lower_parameters.ensures.code three.sound in
    let taken = map stored_tree c.lower_parameters.new.all.items in
    let count = length c.lower_parameters.new.all.items in
    let names = names_of c.lower_parameters.new.locals in
    let taken_is : taken ≡ part_shapes f.parameters =
    c.lower_parameters.ensures.stored three.sound
    ∙ ap (λ ms. map stored_tree c.new-all.result.items ++ part_shapes (map part_of (map member_tree ms))) c.deref.ensures.value
    ∙ ap (λ ss. map stored_tree ss ++ part_shapes f.parameters) c.new-all.ensures.items in
    let count_is : count ≡ length f.parameters =
    sym (length-map c.lower_parameters.new.all.items stored_tree) ∙ ap length taken_is ∙ as_many_shapes f.parameters in
    let names_are : names ≡ parameter_names f.parameters 0 [] =
    c.lower_parameters.ensures.names three.sound
    ∙ ap (λ ms. parameter_names (map part_of (map member_tree ms)) 0 (names_of c.new-locals.result)) c.deref.ensures.value
    ∙ ap (λ ns. parameter_names f.parameters 0 (names_of ns)) c.new-locals.ensures in
    let owned : values_of p ≡ [] = ap (λ own. map shape_tree own.items) two.own ∙ ap (map shape_tree) c.new-body.ensures.own in
    ap (λ own. map shape_tree own.items) (five.own ∙ four.own ∙ ended.own) ∙ three.values
    ∙ ap (λ bs. values_of p ++ item_values w names count (items_of (map item_tree bs))) c.deref-2.ensures.value
    ∙ ap (λ ss. ss ++ item_values w names count f.body) owned ∙ ap (λ (n : ℕ). item_values w names n f.body) count_is
    ∙ ap (λ (ns : List Named). item_values w ns (length f.parameters) f.body) names_are
