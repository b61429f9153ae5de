use Rattle.std.proofs.Common.{◌≡◌, ◌∙◌, ◌+◌, ◌*◌, arith, sym, ap, subst, map, [], length}
use Rattle.std.proofs.lemmas.List.{length-map}
use Rattle.cyc_tree.specs.View.{member_tree, function_tree as source_tree}
use Rattle.cyc_core.specs.Trees.{body_tree}
use Rattle.source_meaning.specs.Shapes.{part_of, part_shapes}
use Rattle.source_meaning.specs.Programs.{world_of, routine_of}
use Rattle.source_lowering.specs.Members.{all_words}
use Rattle.source_lowering.specs.Programs.{body_code, parameter_names, passed_by, routine_values, temporaries_of}
use Rattle.source_lowering.specs.Lowerable.{AreObjects}
use Rattle.cyc_tree.specs.Room.{item_room}
use Rattle.source_lowering.proofs.bounds.Rooms.{parameters_have_room, passed_have_room, temporaries_have_room}
use Rattle.source_lowering.proofs.bounds.WholeObjects.{item_objects}
use Rattle.lower_checks.specs.Room.{HasRoom}
use Rattle.lower_checks.specs.Views.{shape_tree}
use Rattle.lower_checks.proofs.function.lower_function.Goals as goal

-- its parameters have the room that they ask for
pub parameter_words-parameters-requires : goal.parameter_words-parameters-requires
parameter_words-parameters-requires c =
    let f = source_tree c.args.function.now in
    let room : HasRoom 0 (16 + (3 * length f.parameters + item_room f.body)) = c.requires.room in
    let as_many : length c.deref.result.now ≡ length f.parameters =
    ap length c.deref.ensures.value ∙ sym (length-map c.args.function.now.parameters.items member_tree) in
    record { room = omega (arith, room, as_many) }

-- its temporaries are fewer than its room
pub word-temporaries-requires : goal.word-temporaries-requires
word-temporaries-requires c =
    let w = world_of c.args.program.now in
    let f = source_tree c.args.function.now in
    let room : HasRoom 0 (16 + (3 * length f.parameters + item_room f.body)) = c.requires.room in
    let words_are : c.parameter_words-parameters.result ≡ all_words (part_shapes (routine_of f).parameters) =
    c.parameter_words-parameters.ensures ∙ ap (λ ms. all_words (part_shapes (map part_of (map member_tree ms)))) c.deref.ensures.value in
    let temporaries_are : c.temporaries.result ≡ temporaries_of (body_code w (routine_of f)) =
    c.temporaries.ensures
    ∙ ap temporaries_of (ap body_tree c.deref-2.ensures.value ∙ c.lower_body-code.ensures.code c.if-failed.false) in
    let most = c.max.ensures in
    let parameters = parameters_have_room f in
    let temporaries = temporaries_have_room w f c.requires.taken in
    record { fits = omega (arith, room, words_are, temporaries_are, most, parameters, temporaries) }

-- and so are the words that it passes
pub word-passed-requires : goal.word-passed-requires
word-passed-requires c =
    let w = world_of c.args.program.now in
    let f = source_tree c.args.function.now in
    let room : HasRoom 0 (16 + (3 * length f.parameters + item_room f.body)) = c.requires.room in
    let passed_are : c.passed.result ≡ passed_by (body_code w (routine_of f)) =
    c.passed.ensures ∙ ap passed_by (ap body_tree c.deref-3.ensures.value ∙ c.lower_body-code.ensures.code c.if-failed.false) in
    let passed = passed_have_room w f c.requires.taken in
    record { fits = omega (arith, room, passed_are, passed) }

-- the temporary objects of a function that is taken are objects
pub values_of-requires : goal.values_of-requires
values_of-requires c =
    let w = world_of c.args.program.now in
    let f = routine_of (source_tree c.args.function.now) in
    let objects : AreObjects w.unions w.structs (routine_values w f) =
    item_objects w f.result (parameter_names f.parameters 0 []) (length f.parameters) f.body c.requires.taken.body in
    let values_are : map shape_tree c.deref-4.result.now ≡ routine_values w f =
    ap (map shape_tree) c.deref-4.ensures.value ∙ c.lower_body-code.ensures.values c.if-failed.false in
    record { taken = subst (AreObjects w.unions w.structs) (sym values_are) objects }
