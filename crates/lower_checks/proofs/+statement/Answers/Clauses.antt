-- What a clause of a `switch` does, behind its member's copy.
use Rattle.std.proofs.Common.{rules, arith, ◌≡◌, ◌∙◌, ◌+◌, ℕ, suc, sym, ap, subst, [], ◌∷◌, ◌++◌, length, map, List}
use Rattle.cyc_tree.specs.View.{name_tree, item_tree, items_of}
use Rattle.cyc_tree.specs.declared.statement.BlockItem.TheFolds.{the_lemmas}
use Rattle.core_meaning.specs.Core as core
use Rattle.cyc_core.specs.Trees.{statement_tree}
use Rattle.source_meaning.specs.Programs.{world_of}
use Rattle.source_lowering.specs.Lowered.{Named, all_of, held_loads, put_local}
use Rattle.source_lowering.specs.Programs.{block_shapes, item_values, items_code, locals_of, named_here, outward}
use Rattle.source_lowering.specs.Lowerable.{IsVariable, TakesItems}
use Rattle.source_lowering.specs.Objects.{AreVariables}
use Rattle.cyc_tree.specs.Room.{item_room}
use Rattle.lower_checks.specs.Counted.{IsCounted}
use Rattle.lower_checks.specs.Room.{HasRoom}
use Rattle.lower_checks.specs.Views.{regions_tree, shape_tree, stored_tree}
use Rattle.lower_checks.specs.Visible.{names_of, left as left_of}
use Rattle.lower_checks.specs.Writing.{IsEmitted, IsSound, IsWritten, next_of}
use Rattle.lower_checks.proofs.Clauses.{case_next, case_written, clause_apart, clause_part, clause_written}
use Rattle.source_lowering.proofs.statements.BlockVariables.{block_variables}
use Rattle.lower_checks.proofs.Writing.{part_is, same_same}
use Rattle.lower_checks.proofs.+statement.Goals as goal

-- what a clause does goes behind its member's copy, whose local is the first of its block
pub switch::lower_clause-lower_items-requires : goal.switch::lower_clause-lower_items-requires
switch::lower_clause-lower_items-requires t c =
    let w = world_of c.args.program.now in
    let result = shape_tree c.args.shape.now in
    let items = items_of (map item_tree c.args.items.now) in
    let inner = named_here (name_tree c.args.name.now).text (shape_tree c.args.of) 0 ∷ outward (names_of c.args.locals.now) in
    let count = length c.declare.new.declared_here.items in
    let taken : IsSound c.lower_put_local.new.body → TakesItems w result (names_of c.declare.new.locals) count items = λ sound.
    let four = c.lower_held_loads.ensures (c.lower_put_local.ensures sound).sound in
    let three = c.declare.ensures.stays four.sound in
    let two = c.enter.ensures.stays three.sound in
    let names_are : names_of c.declare.new.locals ≡ inner =
    ap names_of (c.declare.ensures.declared four.sound)
    ∙ ap (λ (ns : List Named). named_here (name_tree c.args.name.now).text (shape_tree c.args.of) 0 ∷ ns) (ap names_of (c.enter.ensures.entered three.sound)) in
    let index_is : count ≡ 1 = c.declare.ensures.grows four.sound ∙ ap (λ xs. suc (length xs)) c.new-declared_here.ensures.items in
    subst (λ (ns : List Named). TakesItems w result ns count items) (sym names_are)
    (subst (λ (n : ℕ). TakesItems w result inner n items) (sym index_is) (c.requires.taken (sym c.begin-outer.ensures.begun.failed ∙ two.sound))) in
    let room : HasRoom c.args.around.all (item_room items) = omega (arith, c.requires.room) in
    let counted : IsCounted c.args.around = c.requires.counted in
    search (rules, the_lemmas, room, counted, taken)

pub switch::lower_clause-lower_inside-requires : goal.switch::lower_clause-lower_inside-requires
switch::lower_clause-lower_inside-requires t c = record {
  taken = λ sound.
      let w = world_of c.args.program.now in
      let result = shape_tree c.args.shape.now in
      let items = items_of (map item_tree c.args.items.now) in
      let s = shape_tree c.args.of in
      let inner = named_here (name_tree c.args.name.now).text s 0 ∷ outward (names_of c.args.locals.now) in
      let filled = sym c.end-inside.ensures.ended.failed ∙ sound in
      let six = c.lower_items.ensures.writes filled in
      let four = c.lower_held_loads.ensures (c.lower_put_local.ensures six.sound).sound in
      let three = c.declare.ensures.stays four.sound in
      let two = c.enter.ensures.stays three.sound in
      let begun = sym c.begin-outer.ensures.begun.failed ∙ two.sound in
      let count = length c.declare.new.declared_here.items in
      let names_are : names_of c.declare.new.locals ≡ inner =
      ap names_of (c.declare.ensures.declared four.sound)
      ∙ ap (λ (ns : List Named). named_here (name_tree c.args.name.now).text s 0 ∷ ns) (ap names_of (c.enter.ensures.entered three.sound)) in
      let index_is : count ≡ 1 = c.declare.ensures.grows four.sound ∙ ap (λ xs. suc (length xs)) c.new-declared_here.ensures.items in
      let shapes_are : map stored_tree c.deref.result.now ≡ s ∷ block_shapes w inner 1 items =
      ap (map stored_tree) c.deref.ensures.value ∙ c.lower_items.ensures.shapes filled
      ∙ ap (λ (ns : List Named). map stored_tree c.declare.new.declared_here.items ++ block_shapes w ns count items) names_are
      ∙ ap (λ (n : ℕ). map stored_tree c.declare.new.declared_here.items ++ block_shapes w inner n items) index_is
      ∙ ap (λ ss. ss ++ block_shapes w inner 1 items)
      (c.declare.ensures.added four.sound ∙ ap (λ ss. map stored_tree ss ++ s ∷ []) c.new-declared_here.ensures.items) in
      subst (AreVariables w.unions w.structs) (sym shapes_are) (c.requires.variable begun, block_variables w result inner 1 items (c.requires.taken begun));
}

pub switch::lower_clause-returns : goal.switch::lower_clause-returns
switch::lower_clause-returns t c =
    let w = world_of c.args.program.now in
    let result = shape_tree c.args.shape.now in
    let h = regions_tree c.args.around c.args.opened.now in
    let d = h.all in
    let s = shape_tree c.args.of in
    let items = items_of (map item_tree c.args.items.now) in
    let inner = named_here (name_tree c.args.name.now).text s 0 ∷ outward (names_of c.args.locals.now) in
    let a = c.args.body.now in
    let b = c.begin-outer.new.self in
    let n = c.enter.new.body in
    let o = c.declare.new.body in
    let p = c.lower_held_loads.new.body in
    let q = c.lower_put_local.new.body in
    let x = c.lower_items.new.body in
    let f = c.end-inside.new.self in
    let g = c.lower_inside.new.body in
    let k = c.breaks.new.self in
    let z = c.end.new.self in
    let count = length c.declare.new.declared_here.items in
    let code : ℕ → List core.Statement = λ m. items_code w result inner h 1 m items in
    let whole : ℕ → List core.Statement = λ m. held_loads s d ++ (put_local s d 0 0 ++ code m) in
    let values = item_values w inner 1 items in
    let begun = c.begin-outer.ensures.begun in
    let inside_ended = c.end-inside.ensures.ended in
    let ended = c.end.ensures.ended in
    let part = map statement_tree c.end-inside.result.items in
    let shapes = s ∷ block_shapes w inner 1 items in
    let block = core.Block (locals_of w shapes) (all_of (whole (next_of a))) ∷ [] in
    let eight : IsSound z → IsEmitted g k (core.Break ∷ []) = λ sound. c.breaks.ensures (sym ended.failed ∙ sound) in
    let filled : IsSound z → IsSound x = λ sound. sym inside_ended.failed ∙ (c.lower_inside.ensures (eight sound).sound).sound in
    let four : IsSound z → IsEmitted o p (held_loads s c.value-to.result.0) = λ sound.
    c.lower_held_loads.ensures (c.lower_put_local.ensures (c.lower_items.ensures.writes (filled sound)).sound).sound in
    let to_is : c.value-to.result.0 ≡ d = c.value-to.ensures in
    let names_are : IsSound z → names_of c.declare.new.locals ≡ inner = λ sound.
    ap names_of (c.declare.ensures.declared (four sound).sound)
    ∙ ap (λ (ns : List Named). named_here (name_tree c.args.name.now).text s 0 ∷ ns)
    (ap names_of (c.enter.ensures.entered (c.declare.ensures.stays (four sound).sound).sound)) in
    let index_is : IsSound z → count ≡ 1 = λ sound.
    c.declare.ensures.grows (four sound).sound ∙ ap (λ xs. suc (length xs)) c.new-declared_here.ensures.items in
    let inside : IsSound z → IsWritten b x (whole (next_of b)) values = λ sound.
    let six = c.lower_items.ensures.writes (filled sound) in
    let five = c.lower_put_local.ensures six.sound in
    let three = c.declare.ensures.stays (four sound).sound in
    let two = c.enter.ensures.stays three.sound in
    let named =
    subst (λ (ns : List Named). IsWritten q x (items_code w result ns h count (next_of q) items) (item_values w ns count items)) (names_are sound) six in
    let written =
    subst (λ (m : ℕ). IsWritten q x (items_code w result inner h m (next_of q) items) (item_values w inner m items)) (index_is sound) named in
    let loads = subst (λ (m : ℕ). IsEmitted o p (held_loads s m)) to_is (four sound) in
    let puts = subst (λ (m : ℕ). IsEmitted p q (put_local s m 0 0)) to_is five in
    clause_written b o p q x (held_loads s d) (put_local s d 0 0) code values (same_same b n o two three) loads puts written in
    let shapes_are : IsSound z → map stored_tree c.deref.result.now ≡ shapes = λ sound.
    ap (map stored_tree) c.deref.ensures.value ∙ c.lower_items.ensures.shapes (filled sound)
    ∙ ap (λ (ns : List Named). map stored_tree c.declare.new.declared_here.items ++ block_shapes w ns count items) (names_are sound)
    ∙ ap (λ (n : ℕ). map stored_tree c.declare.new.declared_here.items ++ block_shapes w inner n items) (index_is sound)
    ∙ ap (λ ss. ss ++ block_shapes w inner 1 items)
    (c.declare.ensures.added (four sound).sound ∙ ap (λ ss. map stored_tree ss ++ s ∷ []) c.new-declared_here.ensures.items) in
    let blocked : IsSound z → IsEmitted f g block = λ sound.
    let part_are : part ≡ whole (next_of a) = part_is a b x part whole values begun (inside sound) c.end-inside.ensures.part in
    subst (λ ss. IsEmitted f g (core.Block (locals_of w shapes) (all_of ss) ∷ [])) part_are
    (subst (λ ss. IsEmitted f g (core.Block (locals_of w ss) (all_of part) ∷ [])) (shapes_are sound) (c.lower_inside.ensures (eight sound).sound)) in
    let none = map statement_tree c.new.result.items in
    let outer = map statement_tree c.begin-outer.result.items in
    record {
      apart = λ sound.
          clause_apart a b x f g k z outer none block (core.Break ∷ []) (whole (next_of b)) values begun c.begin-outer.ensures.aside (inside sound) inside_ended
          (blocked sound) (eight sound) ended;
      part = λ sound.
          clause_part x f g k none block (core.Break ∷ []) (map statement_tree c.end.result.items) (ap (map statement_tree) c.new.ensures.items) inside_ended
          (blocked sound) (eight sound) c.end.ensures.part;
      kept = λ sound.
          c.leave.ensures ∙ c.lower_items.ensures.left (filled sound) ∙ ap left_of (c.declare.ensures.declared (four sound).sound)
          ∙ ap left_of (c.enter.ensures.entered (c.declare.ensures.stays (four sound).sound).sound);
    }

pub switch::lower_case-lower_clause-clause-requires : goal.switch::lower_case-lower_clause-clause-requires
switch::lower_case-lower_clause-clause-requires t c =
    let w = world_of c.args.program.now in
    let result = shape_tree c.args.shape.now in
    let items = items_of (map item_tree c.args.items.now) in
    let s = shape_tree c.args.chosen.shape in
    let inner = named_here (name_tree c.args.name.now).text s 0 ∷ outward (names_of c.args.locals.now) in
    let before : IsSound c.operation-2.new.self → IsSound c.args.body.now = λ sound.
    (c.operation.ensures (c.operation-2.ensures sound).sound).sound in
    let taken : IsSound c.operation-2.new.self → TakesItems w result inner 1 items = λ sound. c.requires.taken (before sound) in
    let variable : IsSound c.operation-2.new.self → IsVariable w.unions w.structs s = λ sound. c.requires.variable (before sound) in
    let room : HasRoom c.args.around.all (16 + item_room items) = c.requires.room in
    let counted : IsCounted c.args.around = c.requires.counted in
    search (rules, the_lemmas, room, counted, taken, variable)

pub switch::lower_case-returns-clause-writes : goal.switch::lower_case-returns-clause-writes
switch::lower_case-returns-clause-writes t c sound =
    let w = world_of c.args.program.now in
    let result = shape_tree c.args.shape.now in
    let h = regions_tree c.args.around c.args.opened.now in
    let s = shape_tree c.args.chosen.shape in
    let items = items_of (map item_tree c.args.items.now) in
    let inner = named_here (name_tree c.args.name.now).text s 0 ∷ outward (names_of c.args.locals.now) in
    let a = c.args.body.now in
    let x = c.operation.new.self in
    let y = c.operation-2.new.self in
    let e = c.lower_clause-clause.new.body in
    let z = c.branch-body.new.self in
    let number = c.args.chosen.number in
    let tag = c.behind-tag.result.0 in
    let test = c.behind-test.result.0 in
    let clause = map statement_tree c.lower_clause-clause.result.items in
    let values = item_values w inner 1 items in
    let block : ℕ → List core.Statement = λ n.
    core.Block (locals_of w (s ∷ block_shapes w inner 1 items))
    (all_of (held_loads s h.all ++ (put_local s h.all 0 0 ++ items_code w result inner h 1 n items))) ∷ core.Break ∷ [] in
    let six = c.branch-body.ensures sound in
    let five = c.lower_clause-clause.ensures.apart six.sound in
    let four = c.operation-2.ensures five.sound in
    let three = c.operation.ensures four.sound in
    let tag_is : tag ≡ h.all + 1 = c.behind-tag.ensures ∙ ap (λ (n : ℕ). n + 1) c.value.ensures in
    let test_is : test ≡ h.all + 2 = c.behind-test.ensures ∙ ap (λ (n : ℕ). n + 2) c.value-2.ensures in
    let first = subst (λ (n : ℕ). IsEmitted a x (core.Do (core.Constant n number) ∷ [])) test_is three in
    let second =
    subst (λ (n : ℕ). IsEmitted x y (core.Do (core.Apply core.Equal (h.all + 2) n (h.all + 2)) ∷ [])) tag_is
    (subst (λ (n : ℕ). IsEmitted x y (core.Do (core.Apply core.Equal n tag n) ∷ [])) test_is four) in
    let next : next_of y ≡ next_of a = case_next a x y (core.Do (core.Constant (h.all + 2) number) ∷ [])
    (core.Do (core.Apply core.Equal (h.all + 2) (h.all + 1) (h.all + 2)) ∷ []) first second in
    let clause_is : clause ≡ block (next_of a) = ◌∙◌ {b = block (next_of y)} (c.lower_clause-clause.ensures.part six.sound) (ap block next) in
    let plain = subst (λ xs. IsEmitted e z (core.If test (all_of clause) (all_of (map statement_tree xs)) ∷ [])) c.new.ensures.items six in
    let third =
    subst (λ ss. IsEmitted e z (core.If (h.all + 2) (all_of ss) core.NoStatements ∷ [])) clause_is
    (subst (λ (n : ℕ). IsEmitted e z (core.If n (all_of clause) core.NoStatements ∷ [])) test_is plain) in
    case_written a x y e z (core.Do (core.Constant (h.all + 2) number) ∷ [])
    (core.Do (core.Apply core.Equal (h.all + 2) (h.all + 1) (h.all + 2)) ∷ []) (core.If (h.all + 2) (all_of (block (next_of a))) core.NoStatements ∷ [])
    values first second five third
