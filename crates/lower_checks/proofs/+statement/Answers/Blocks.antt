-- Blocks, and the items in them one after another.
use Rattle.std.proofs.Common.{rules, ◌≡◌, ◌∙◌, ◌≤◌, ◌+◌, ℕ, suc, arith, refl, sym, ap, subst, [], ◌∷◌, ◌++◌, length, map, drop, List, append-nil}
use Rattle.std.proofs.lemmas.List.{drop_all}
use Rattle.std.specs.Prelude.{reverse}
use Rattle.cyc_tree.specs.View.{OneItem, declaration_tree, statement_tree as source_tree, item_tree, items_of}
use Rattle.cyc_tree.specs.Tree.{BlockItems, NoItems, Declare, Execute}
use Rattle.cyc_tree.proofs.StatementForms.{declare_tree, execute_tree}
use Rattle.cyc_tree.specs.declared.statement.BlockItem.TheFolds.{the_lemmas}
use Rattle.core_meaning.specs.Core as core
use Rattle.cyc_core.specs.Trees.{statement_tree}
use Rattle.source_meaning.specs.Programs.{world_of}
use Rattle.source_lowering.specs.Lowered.{Named, all_of}
use Rattle.source_lowering.specs.Programs.{
  RegionsAround,
  block_shapes,
  declaration_values,
  declaration_code,
  item_values,
  items_code,
  leaving_code,
  local_shape,
  locals_of,
  names_behind,
  outward,
  regions_with,
  statement_code,
  statement_values,
}
use Rattle.source_lowering.specs.Lowerable.{TakesItems, TakesStatement}
use Rattle.source_lowering.specs.Objects.{AreVariables}
use Rattle.cyc_tree.specs.Room.{declaration_room, item_room, statement_room}
use Rattle.lower_checks.specs.Counted.{IsCounted}
use Rattle.lower_checks.specs.Room.{HasRoom}
use Rattle.lower_checks.specs.Views.{regions_tree, shape_tree, stored_tree}
use Rattle.lower_checks.specs.Visible.{names_of, left as left_of}
use Rattle.lower_checks.specs.Writing.{IsEmitted, IsLeft, IsSound, IsWritten, code_of, next_of, values_of}
use Rattle.lower_checks.proofs.Items.{
  ending_items,
  left_items,
  none_opened,
  code_declared,
  declared_within,
  values_declared,
  shapes_declared,
  shapes_executed,
  code_executed,
  values_executed,
}
use Rattle.source_lowering.proofs.statements.BlockVariables.{block_variables}
use Rattle.lower_checks.specs.declared.leaving.RegionsAround as code_regions
use Rattle.lower_checks.proofs.Phrases.{declaration_least}
use Rattle.lower_checks.proofs.Writing.{apart_emit, moved, next_is, part_apart, part_is, write_same}
use Rattle.lower_checks.proofs.+statement.Goals as goal
use Rattle.lower_checks.proofs.+statement.Goals.{statement::lower_items-in-Declare, statement::lower_items-in-Execute}

-- the locals of a block that is taken are variables
pub statement::lower_block-lower_inside-requires : goal.statement::lower_block-lower_inside-requires
statement::lower_block-lower_inside-requires t c = record {
  taken = λ sound.
      let w = world_of c.args.program.now in
      let result = shape_tree c.args.shape.now in
      let items = items_of (map item_tree c.args.items.now) in
      let three = c.lower_items.ensures.writes (sym c.end-inside.ensures.ended.failed ∙ sound) in
      let two = c.enter.ensures.stays three.sound in
      let names = outward (names_of c.args.locals.now) in
      let shapes_are : map stored_tree c.deref.result.now ≡ block_shapes w names 0 items =
      ap (map stored_tree) c.deref.ensures.value ∙ c.lower_items.ensures.shapes (sym c.end-inside.ensures.ended.failed ∙ sound)
      ∙ ap (λ ms. map stored_tree c.new-declared_here.result.items ++ block_shapes w (names_of ms) (length c.new-declared_here.result.items) items)
      (c.enter.ensures.entered three.sound)
      ∙ ap (λ ss. map stored_tree ss ++ block_shapes w names (length ss) items) c.new-declared_here.ensures.items in
      subst (AreVariables w.unions w.structs) (sym shapes_are)
      (block_variables w result names 0 items (c.requires.taken (sym c.begin-outer.ensures.begun.failed ∙ two.sound)));
}

pub statement::lower_block-returns-clause-writes : goal.statement::lower_block-returns-clause-writes
statement::lower_block-returns-clause-writes t c sound =
    let w = world_of c.args.program.now in
    let names = outward (names_of c.args.locals.now) in
    let result = shape_tree c.args.shape.now in
    let h = regions_tree c.args.around c.args.opened.now in
    let a = c.args.body.now in
    let b = c.begin-outer.new.self in
    let n = c.enter.new.body in
    let x = c.lower_items.new.body in
    let f = c.end-inside.new.self in
    let z = c.lower_inside.new.body in
    let items = items_of (map item_tree c.args.items.now) in
    let ended = c.end-inside.ensures.ended in
    let begun = c.begin-outer.ensures.begun in
    let four = c.lower_inside.ensures sound in
    let filled = sym ended.failed ∙ four.sound in
    let three = c.lower_items.ensures.writes filled in
    let two = c.enter.ensures.stays three.sound in
    let names_are : names_of c.enter.new.locals ≡ names = ap names_of (c.enter.ensures.entered three.sound) in
    let index_is : length c.new-declared_here.result.items ≡ 0 = ap length c.new-declared_here.ensures.items in
    let code : ℕ → List core.Statement = λ k. items_code w result names h 0 k items in
    let values = item_values w names 0 items in
    let named =
    subst (λ (ns : List Named). IsWritten n x (items_code w result ns h (length c.new-declared_here.result.items) (next_of n) items)
    (item_values w ns (length c.new-declared_here.result.items) items)) names_are three in
    let written = subst (λ k. IsWritten n x (items_code w result names h k (next_of n) items) (item_values w names k items)) index_is named in
    let inner = moved b n x code values two written in
    let part = map statement_tree c.end-inside.result.items in
    let inside_is : part ≡ code (next_of a) = part_is a b x part code values begun inner c.end-inside.ensures.part in
    let apart = part_apart a b x f (map statement_tree c.begin-outer.result.items) (code (next_of b)) values begun c.begin-outer.ensures.aside inner ended in
    let shapes = block_shapes w names 0 items in
    let shapes_are : map stored_tree c.deref.result.now ≡ shapes =
    ap (map stored_tree) c.deref.ensures.value ∙ c.lower_items.ensures.shapes filled
    ∙ ap (λ (ns : List Named). map stored_tree c.new-declared_here.result.items ++ block_shapes w ns (length c.new-declared_here.result.items) items) names_are
    ∙ ap (λ ss. map stored_tree ss ++ block_shapes w names (length ss) items) c.new-declared_here.ensures.items in
    let block =
    subst (λ ss. IsEmitted f z (core.Block (locals_of w shapes) (all_of ss) ∷ [])) inside_is
    (subst (λ ss. IsEmitted f z (core.Block (locals_of w ss) (all_of part) ∷ [])) shapes_are four) in
    apart_emit a f z (core.Block (locals_of w shapes) (all_of (code (next_of a))) ∷ []) values apart block

-- before the first item no region was opened
pub statement::lower_items-each-init : goal.statement::lower_items-each-init
statement::lower_items-each-init t c =
    let w = world_of c.args.program.now in
    let a = c.opened_outside-all.new.body in
    let result = shape_tree c.args.shape.now in
    let names = names_of c.args.locals.now in
    let index = length c.args.declared_here.now.items in
    let items = items_of (map item_tree c.args.items.now) in
    let h = regions_tree c.args.around c.args.opened.now in
    record {
      written = λ sound.
          let code_is =
          ap (λ os. ending_items w result names (regions_tree c.args.around os) h.all index (next_of a) items) (c.opened_outside-all.ensures.opened sound)
          ∙ none_opened w result names h index (next_of a) items in
          record {
            within = omega arith;
            code = record {
              sound = sound;
              written = ap (λ (x : List core.Statement). code_of a ++ x) code_is;
              values = refl {a = values_of a ++ item_values w names index items};
            };
            shapes = refl {a = map stored_tree c.args.declared_here.now.items ++ block_shapes w names index items};
            left = refl;
            taken = c.requires.taken (c.opened_outside-all.ensures.stays sound).sound;
          };
      room = c.requires.room;
      counted = c.requires.counted;
    }

-- an item of a block that is taken is taken
pub statement::lower_items-lower_declared-requires : goal.statement::lower_items-lower_declared-requires
statement::lower_items-lower_declared-requires t c =
    let w = world_of c.args.program.now in
    let result = shape_tree c.args.shape.now in
    let n = c.each.item-index in
    let names = names_of c.each.locals in
    let d = declaration_tree c.deref.result.now in
    let others = items_of (map item_tree (drop (n + 1) c.args.items.now)) in
    let here = left_items c.args.items.now n c.item-item.result (OneItem.Declare d) c.each-test.true c.item-item.is
    (ap item_tree c.in-Declare.is ∙ declare_tree c.in-Declare.declaration
    ∙ ap (λ e. OneItem.Declare (declaration_tree e)) (sym c.deref.ensures)) in
    let room : HasRoom c.each.regions.all (declaration_room d + item_room others) =
    subst (λ (x : BlockItems). HasRoom c.each.regions.all (item_room x)) here c.each.invariant.room in
    record {
      room = omega (arith, room, c.value-to.ensures);
      taken = λ sound.
          (subst (λ (x : BlockItems). TakesItems w result names (length c.each.declared_here.items) x) here (c.each.invariant.written sound).taken).0;
    }

-- a declaration has room for a region
pub statement::lower_items-with-regions-requires : goal.statement::lower_items-with-regions-requires
statement::lower_items-with-regions-requires t c =
    let n = c.each.item-index in
    let d = declaration_tree c.deref-in-Declare.result.now in
    let others = items_of (map item_tree (drop (n + 1) c.args.items.now)) in
    let here = left_items c.args.items.now n c.item-item.result (OneItem.Declare d) c.each-test.true c.item-item.is
    (ap item_tree c.in-Declare.is ∙ declare_tree c.in-Declare.declaration
    ∙ ap (λ e. OneItem.Declare (declaration_tree e)) (sym c.deref-in-Declare.ensures)) in
    let room : HasRoom c.each.regions.all (declaration_room d + item_room others) =
    subst (λ (x : BlockItems). HasRoom c.each.regions.all (item_room x)) here c.each.invariant.room in
    record {
      room = omega (arith, room, declaration_least d);
      counted = c.each.invariant.counted;
    }

pub statement::lower_items-lower_statement-requires : goal.statement::lower_items-lower_statement-requires
statement::lower_items-lower_statement-requires t c =
    let w = world_of c.args.program.now in
    let result = shape_tree c.args.shape.now in
    let n = c.each.item-index in
    let names = names_of c.each.locals in
    let s = source_tree c.in-Execute.statement in
    let here = left_items c.args.items.now n c.item-item.result (OneItem.Execute s) c.each-test.true c.item-item.is
    (ap item_tree c.in-Execute.is ∙ execute_tree c.in-Execute.statement) in
    let others = items_of (map item_tree (drop (n + 1) c.args.items.now)) in
    let both : HasRoom c.each.regions.all (statement_room s + item_room others) =
    subst (λ (x : BlockItems). HasRoom c.each.regions.all (item_room x)) here c.each.invariant.room in
    let room : HasRoom c.each.regions.all (statement_room s) = omega (arith, both) in
    let counted : IsCounted c.each.regions = c.each.invariant.counted in
    let taken : IsSound c.each.body → TakesStatement w result names s = λ sound.
    (subst (λ (x : BlockItems). TakesItems w result names (length c.each.declared_here.items) x) here (c.each.invariant.written sound).taken).0 in
    search (rules, the_lemmas, room, counted, taken)

pub statement::lower_items-each-preserved : goal.statement::lower_items-each-preserved
statement::lower_items-each-preserved t c =
    let w = world_of c.args.program.now in
    let result = shape_tree c.args.shape.now in
    let items = c.args.items.now in
    let n = c.each.item-index in
    let item = c.item-item.result in
    let names = names_of c.each.locals in
    let more = names_of c.match-item.locals in
    let index = length c.each.declared_here.items in
    let next = length c.match-item.declared_here.items in
    let a = c.opened_outside-all.new.body in
    let b = c.each.body in
    let z = c.match-item.body in
    let own = next_of b in
    let number = next_of z in
    let all = items_of (map item_tree items) in
    let left = items_of (map item_tree (drop n items)) in
    let others = items_of (map item_tree (drop (n + 1) items)) in
    let h = regions_tree c.each.regions c.each.all.items in
    let inside = regions_tree c.match-item.regions c.match-item.all.items in
    let first = c.args.around.all in
    let index_0 = length c.args.declared_here.now.items in
    let code = code_of a ++ items_code w result (names_of c.args.locals.now) (regions_tree c.args.around c.args.opened.now) index_0 (next_of a) all in
    let values = values_of a ++ item_values w (names_of c.args.locals.now) index_0 all in
    elim c.match-item.branch [
      | statement::lower_items-in-Declare v ↦
          let d = declaration_tree v.deref.result.now in
          let here : left ≡ Declare d others = left_items items n item (OneItem.Declare d) c.each-test.true c.item-item.is
          (ap item_tree v.in-Declare.is ∙ declare_tree v.in-Declare.declaration
          ∙ ap (λ e. OneItem.Declare (declaration_tree e)) (sym v.deref.ensures)) in
          let room : HasRoom c.each.regions.all (declaration_room d + item_room others) =
          subst (λ (x : BlockItems). HasRoom c.each.regions.all (item_room x)) here c.each.invariant.room in
          let roomy : HasRoom v.with-regions.result.all (item_room others) = omega (arith, room, declaration_least d, v.with-regions.ensures.all) in
          record {
            written = λ sound.
                let x = v.lower_declared.new.body in
                let last = v.with-regions.new.body in
                let two = v.with-regions.ensures.stays (subst IsSound v.body-is sound) in
                let one = v.lower_declared.ensures.writes two.sound in
                let invariant = c.each.invariant.written one.sound in
                let names_are : more ≡ names_behind w names index d = ap names_of v.locals-is ∙ v.lower_declared.ensures.names two.sound in
                let shapes_is : next ≡ length v.lower_declared.new.declared_here.items = cc v.declared_here-is in
                let next_is_suc : next ≡ suc index = shapes_is ∙ v.lower_declared.ensures.grows two.sound in
                let these = declaration_values w names d in
                let to_is : v.value-to.result.0 ≡ h.all = v.value-to.ensures in
                let here_code = declaration_code w names d h.all index own in
                let placed = subst (λ k. IsWritten b x (declaration_code w names d k index own) these) to_is one in
                let done = subst (λ q. IsWritten b q here_code these) (sym v.body-is) (write_same b x last here_code these placed two) in
                let regions_are : inside ≡ regions_with d h =
                ap (λ r. regions_tree r c.match-item.all.items) v.regions-is ∙ ap (λ os. regions_tree v.with-regions.result os.items) v.all-is
                ∙ v.with-regions.ensures.regions (subst IsSound v.body-is sound)
                ∙ ap (λ e. regions_with (declaration_tree e) h) (v.deref-in-Declare.ensures ∙ sym v.deref.ensures) in
                record {
                  within = declared_within d h inside first regions_are invariant.within;
                  code = record {
                    sound = invariant.code.sound;
                    written = code_declared w result names more h inside first index next own number others left d names_are next_is_suc here (code_of b)
                        (code_of z) code regions_are invariant.within (next_is b z here_code these done) done.code invariant.code.written;
                    values = values_declared w result names more h inside first index next own number others left d names_are next_is_suc here (values_of b)
                        (values_of z) values done.values invariant.code.values;
                  };
                  shapes =
                      let added : map stored_tree c.match-item.declared_here.items ≡ map stored_tree v.lower_declared.new.declared_here.items =
                      cc v.declared_here-is in
                      shapes_declared w result names more h inside first index next own number others left d names_are next_is_suc here
                      (map stored_tree c.each.declared_here.items) (map stored_tree c.match-item.declared_here.items)
                      (map stored_tree c.args.declared_here.now.items ++ block_shapes w (names_of c.args.locals.now) index_0 all) (local_shape w names d)
                      (added ∙ v.lower_declared.ensures.shapes two.sound) refl invariant.shapes;
                  left = ap left_of v.locals-is ∙ v.lower_declared.ensures.left two.sound ∙ invariant.left;
                  taken =
                      let inner = names_behind w names index d in
                      subst (λ (q : List Named). TakesItems w result q next others) (sym names_are)
                      (subst (λ (q : ℕ). TakesItems w result inner q others) (sym next_is_suc)
                      (subst (λ (q : BlockItems). TakesItems w result names index q) here invariant.taken).1);
                };
            room = subst (λ (r : code_regions.RegionsAround). HasRoom r.all (item_room others)) (sym v.regions-is) roomy;
            counted = subst IsCounted (sym v.regions-is) v.with-regions.ensures.counted;
          }
      | statement::lower_items-in-Execute v ↦
          let s = source_tree v.in-Execute.statement in
          let here : left ≡ Execute s others = left_items items n item (OneItem.Execute s) c.each-test.true c.item-item.is
          (ap item_tree v.in-Execute.is ∙ execute_tree v.in-Execute.statement) in
          let room : HasRoom c.each.regions.all (statement_room s + item_room others) =
          subst (λ (x : BlockItems). HasRoom c.each.regions.all (item_room x)) here c.each.invariant.room in
          let roomy : HasRoom c.each.regions.all (item_room others) = omega (arith, room) in
          record {
            written = λ sound.
                let one = v.lower_statement.ensures.writes (subst IsSound v.body-is sound) in
                let invariant = c.each.invariant.written one.sound in
                let locals_are = v.locals-is ∙ v.lower_statement.ensures.kept (subst IsSound v.body-is sound) in
                let names_are : more ≡ names = ap names_of locals_are in
                let next_same : next ≡ index = cc v.declared_here-is in
                let these = statement_values w names s in
                let here_code = statement_code w result names h own s in
                let stated = subst (λ os. IsWritten b v.lower_statement.new.body (statement_code w result names (regions_tree c.each.regions os) own s) these)
                v.deref-in-Execute.ensures.value one in
                let done = subst (λ q. IsWritten b q here_code these) (sym v.body-is) stated in
                let regions_are : inside ≡ h =
                ap (λ r. regions_tree r c.match-item.all.items) v.regions-is ∙ ap (λ os. regions_tree c.each.regions os.items) v.all-is in
                record {
                  within = subst (λ (r : RegionsAround). first ≤ r.all) (sym regions_are) invariant.within;
                  code = record {
                    sound = invariant.code.sound;
                    written = code_executed w result names more h inside first index next own number others left s names_are next_same here (code_of b)
                        (code_of z) code regions_are (next_is b z here_code these done) done.code invariant.code.written;
                    values = values_executed w result names more h inside first index next own number others left s names_are next_same here (values_of b)
                        (values_of z) values done.values invariant.code.values;
                  };
                  shapes =
                      let same : map stored_tree c.match-item.declared_here.items ≡ map stored_tree c.each.declared_here.items = cc v.declared_here-is in
                      shapes_executed w result names more h inside first index next own number others left s names_are next_same here
                      (map stored_tree c.each.declared_here.items) (map stored_tree c.match-item.declared_here.items)
                      (map stored_tree c.args.declared_here.now.items ++ block_shapes w (names_of c.args.locals.now) index_0 all) same invariant.shapes;
                  left = ap left_of locals_are ∙ invariant.left;
                  taken =
                      subst (λ (q : List Named). TakesItems w result q next others) (sym names_are)
                      (subst (λ (q : ℕ). TakesItems w result names q others) (sym next_same)
                      (subst (λ (q : BlockItems). TakesItems w result names index q) here invariant.taken).1);
                };
            room = subst (λ (r : code_regions.RegionsAround). HasRoom r.all (item_room others)) (sym v.regions-is) roomy;
            counted = subst IsCounted (sym v.regions-is) c.each.invariant.counted;
          }
    ]

-- behind the last item what they opened is left
pub statement::lower_items-returns-clause-writes : goal.statement::lower_items-returns-clause-writes
statement::lower_items-returns-clause-writes t c sound =
    let w = world_of c.args.program.now in
    let result = shape_tree c.args.shape.now in
    let items = c.args.items.now in
    let a = c.args.body.now in
    let begun = c.opened_outside-all.new.body in
    let b = c.each.body in
    let z = c.lower_leaving.new.body in
    let names = names_of c.each.locals in
    let index = length c.each.declared_here.items in
    let h = regions_tree c.each.regions c.each.all.items in
    let first = c.args.around.all in
    let index_0 = length c.args.declared_here.now.items in
    let all = items_of (map item_tree items) in
    let code : ℕ → List core.Statement = λ n.
    items_code w result (names_of c.args.locals.now) (regions_tree c.args.around c.args.opened.now) index_0 n all in
    let values = item_values w (names_of c.args.locals.now) index_0 all in
    let done = c.lower_leaving.ensures sound in
    let invariant = c.each.invariant.written done.sound in
    let none : items_of (map item_tree (drop c.each.item-index items)) ≡ NoItems =
    ap (λ xs. items_of (map item_tree xs)) (drop_all c.each.item-index items (omega (arith, c.each-test.false))) in
    let left =
    subst (λ is. IsLeft begun b (code (next_of begun)) (ending_items w result names h first index (next_of b) is) values (item_values w names index is)) none
    invariant.code in
    let written : IsWritten begun z (code (next_of begun)) values = record {
      sound = left.sound;
      code = done.code ∙ ap (λ os. code_of b ++ leaving_code (reverse os) h.all c.saturating_sub-count.result) c.deref-2.ensures.value
          ∙ ap (λ n. code_of b ++ leaving_code h.opened h.all n) c.saturating_sub-count.ensures ∙ left.written;
      values = ap (λ own. map shape_tree own.items) done.own ∙ sym (append-nil (values_of b)) ∙ left.values;
    } in
    moved a begun z code values (c.opened_outside-all.ensures.stays left.sound) written
