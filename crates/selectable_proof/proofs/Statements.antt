-- The code of statements names what there is: locals of the blocks around it, globals, strings and temporary objects of its function.
use Rattle.std.proofs.Common.{◌≡◌, ℕ, zero, suc, ◌+◌, ◌<◌, ◌≤◌, List, [], ◌∷◌, ◌++◌, length, Bool, true, false, Some, None, refl, ap, arith}
use Rattle.std.proofs.Common.{length-append}
use Rattle.cyc_tree.specs.Tree as tree
use Rattle.cyc_tree.specs.Tree.{Expression, Initializer, Declaration, Statement, BlockItems, NoItems, Declare, Execute}
use Rattle.cyc_tree.specs.Tree.{Clauses, NoClauses, MoreClauses, Case, Default}
use Rattle.source_meaning.specs.Shapes.{Shape, ThinShape, FatShape, StructShape, UnionShape, ArrayShape, Layout, Part, part_shape}
use Rattle.source_meaning.specs.Shapes.{part_shapes, written, settled, settled_by}
use Rattle.source_meaning.specs.Steps.{World}
use Rattle.source_meaning.specs.Places.{bound_to}
use Rattle.core_meaning.specs.Selectable.{AreLayouts}
use Rattle.source_lowering.specs.Members.{words_in}
use Rattle.source_lowering.specs.Lowered.{Named, static_shape, union_parts, put_local, conversion_code, expression_values, expression_code}
use Rattle.source_lowering.specs.Lowered.{local_named}
use Rattle.source_lowering.specs.Programs.{local_shape, names_behind, block_shapes, locals_of, outward, named_here, begun_code, unset_code, value_code}
use Rattle.source_lowering.specs.Programs.{declaration_code, ending_code, leaving_code, declaration_values, statement_values, item_values, case_values}
use Rattle.source_lowering.specs.Programs.{default_values, RegionsAround, in_loop, in_switch, regions_with, side_of, statement_code, items_code, cases_code}
use Rattle.source_lowering.specs.Programs.{default_code, initial_values}
use Rattle.source_lowering.specs.Lowerable.{IsTarget, IsObject, IsVariable, IsWordShape, AreObjects, AreValues, Takes, TakesValue, TakesDeclaration}
use Rattle.source_lowering.specs.Lowerable.{TakesStatement, TakesItems, TakesClauses}
use Rattle.source_lowering.proofs.values.Integers.{value_object, object_target}
use Rattle.source_lowering.proofs.expressions.Names.{IsPlainWorld}
use Rattle.source_lowering.proofs.memory.ObjectShapes.{object_named}
use Rattle.source_lowering.specs.Objects.{AreVariables}
use Rattle.source_lowering.proofs.statements.BlockVariables.{block_variables}
use Rattle.source_lowering.proofs.statements.EachDeclaration.{shape_object}
use Rattle.source_lowering.proofs.statements.WrittenTypes.{object_settled, object_by}
use Rattle.source_lowering.proofs.bounds.PartCosts.{results_many}
use Rattle.selectable_proof.specs.Naming.{CodeNames}
use Rattle.selectable_proof.proofs.Naming.{both_name, all_name}
use Rattle.selectable_proof.proofs.Layouts.{object_layout, variable_layout}
use Rattle.selectable_proof.proofs.Parts.{Around, further_in, local_lies, global_lies, stored_local, get_names, conversion_names}
use Rattle.selectable_proof.proofs.StaticShapes.{union_values, member_value}
use Rattle.selectable_proof.proofs.Pointers.{held_names}
use Rattle.selectable_proof.proofs.Exchanges.{exchange_names, side_lies, side_names}
use Rattle.selectable_proof.proofs.Expressions.{place_names, expression_names}
use Rattle.selectable_proof.proofs.WholeNames.{source_names, run_names}
use Rattle.source_lowering.proofs.statements.Freeing.{thin_operand}

-- ---- layouts

pub layouts_taken : (w : World) (ss : List Shape) → IsPlainWorld w → AreVariables w.unions w.structs ss → AreLayouts (locals_of w ss)
layouts_taken w [] plain h = tt
layouts_taken w (s ∷ ss) plain h = ((variable_layout w s plain h.0).lies, layouts_taken w ss plain h.1)

pub objects_are : (unions structs : List Layout) (ss : List Shape) → AreObjects unions structs ss → AreVariables unions structs ss
objects_are unions structs [] h = tt
objects_are unions structs (s ∷ ss) h = (object_named unions structs s h.0, objects_are unions structs ss h.1)

pub as_many : (w : World) (ss : List Shape) → length (locals_of w ss) ≡ length ss
as_many w [] = refl
as_many w (s ∷ ss) = ap suc (as_many w ss)

one_more : (k : ℕ) (blocks : List ℕ) (n : ℕ) (w : World) (names : List Named) (name : List ℕ) (s : Shape) (index : ℕ) → index < k
    → IsVariable w.unions w.structs s
    → Around (k ∷ blocks) n w names → Around (k ∷ blocks) n w (named_here name s index ∷ names)
one_more k blocks n w names name s index h v a = record {
  locals = (h, a.locals);
  globals = a.globals;
  texts = a.texts;
  words = (v, a.words);
  plain = a.plain;
}

-- ---- declarations

begun_names : (k : ℕ) (blocks : List ℕ) (own n : ℕ) (w : World) (s : Shape) (d index : ℕ) → IsPlainWorld w → IsVariable w.unions w.structs s
    → index < k → CodeNames (k ∷ blocks) own n (begun_code w s d index)
begun_names k blocks own n w s d index plain variable h =
    let l = variable_layout w s plain variable in (h, ((l.lies, l.full, l.nothing), tt))

unset_names : (k : ℕ) (blocks : List ℕ) (own n : ℕ) (w : World) (s : Shape) (d index : ℕ) → IsPlainWorld w → IsVariable w.unions w.structs s
    → index < k → CodeNames (k ∷ blocks) own n (unset_code w s d index)
unset_names k blocks own n w (StructShape tag) d index plain variable h = begun_names k blocks own n w (StructShape tag) d index plain variable h
unset_names k blocks own n w (FatShape to) d index plain variable h = begun_names k blocks own n w (FatShape to) d index plain variable h
unset_names k blocks own n w (ArrayShape count of) d index plain variable h =
    begun_names k blocks own n w (ArrayShape count of) d index plain variable h
unset_names k blocks own n w (ThinShape b owner to) d index plain variable h = (tt, (h, tt))
unset_names k blocks own n w _ d index plain variable h = (tt, (h, tt))

value_names : (k : ℕ) (blocks : List ℕ) (own n : ℕ) (w : World) (names : List Named) (s : Shape) (e : Expression) (d index next : ℕ)
    → IsPlainWorld w → Around (k ∷ blocks) n w names → IsObject w.unions w.structs s → TakesValue w names s e → index < k
    → next + length (initial_values w names s e) ≤ own → CodeNames (k ∷ blocks) own n (value_code w names s e d index next)
value_names k blocks own n w names s e d index next plain a object takes h f = by s object takes f
  where
    word : (of : Shape) → IsObject w.unions w.structs of → Takes w names e → next + length (expression_values w names e) ≤ own → CodeNames (k ∷ blocks) own n
        (expression_code w names e d next ++ (conversion_code w of (static_shape w names e) d ++ put_local of d 0 index))
    word of o takes f =
        both_name (k ∷ blocks) own n _ _ (expression_names own n w plain names a e d next takes f)
        (both_name (k ∷ blocks) own n _ _
        (conversion_names (k ∷ blocks) own n w plain of (static_shape w names e) d (object_target w.unions w.structs of o))
        (stored_local (k ∷ blocks) own n of (d + words_in of) d 0 index h))

    by : (of : Shape) → IsObject w.unions w.structs of → TakesValue w names of e → next + length (initial_values w names of e) ≤ own
        → CodeNames (k ∷ blocks) own n (value_code w names of e d index next)
    by (StructShape tag) o takes f =
        let l = object_layout w (StructShape tag) plain o in
        both_name (k ∷ blocks) own n _ _ (source_names (k ∷ blocks) own n w names plain a e d next takes f) (h, ((l.lies, l.full), tt))
    by (UnionShape tag) o takes f =
        let l = object_layout w (UnionShape tag) plain o in
        both_name (k ∷ blocks) own n _ _ (source_names (k ∷ blocks) own n w names plain a e d next takes f) (h, ((l.lies, l.full), tt))
    by of o takes f = word of o takes f

-- a name for a unique pointer begins with its value
aliased_value : (w : World) (names : List Named) (e : Expression) (s : Shape) → IsWordShape s → Takes w names e → TakesValue w names s e
aliased_value w names e (StructShape tag) h takes = absurd h
aliased_value w names e (UnionShape tag) h takes = absurd h
aliased_value w names e _ h takes = takes

aliased_none : (w : World) (names : List Named) (pointer : tree.Name) (s : Shape) → IsWordShape s
    → length (initial_values w names s (Expression.Variable pointer)) ≡ 0
aliased_none w names pointer (StructShape tag) h = absurd h
aliased_none w names pointer (UnionShape tag) h = absurd h
aliased_none w names pointer _ h = refl

declaration_names : (k : ℕ) (blocks : List ℕ) (own n : ℕ) (w : World) (names : List Named) → IsPlainWorld w
    → Around (k ∷ blocks) n w names → (declared : Declaration) (d index next : ℕ) → TakesDeclaration w names declared → index < k
    → next + length (declaration_values w names declared) ≤ own → CodeNames (k ∷ blocks) own n (declaration_code w names declared d index next)
declaration_names k blocks own n w names plain a (tree.Local of name Initializer.Unset) d index next takes h f =
    unset_names k blocks own n w (settled (written of)) d index plain
    (object_named w.unions w.structs (settled (written of)) (object_settled w.unions w.structs of takes.0)) h
declaration_names k blocks own n w names plain a (tree.Local of name (Initializer.Elements count)) d index next takes h f =
    unset_names k blocks own n w (ArrayShape count (settled (written of))) d index plain (takes.1.0, object_settled w.unions w.structs of takes.0) h
declaration_names k blocks own n w names plain a (tree.Local of name (Initializer.Value e)) d index next takes h f =
    let s = static_shape w names e in
    value_names k blocks own n w names (settled_by (written of) s) e d index next plain a (object_by w.unions w.structs of takes.0 s) takes.1 h f
declaration_names k blocks own n w names plain a (tree.Region at region handle) d index next takes h f = (tt, (h, tt))
declaration_names k blocks own n w names plain a (tree.Alias at region of alias pointer) d index next takes h f =
    let e = Expression.Variable pointer in
    let s = static_shape w names e in
    let none = aliased_none w names pointer (settled_by (written of) s) takes.1.1 in
    value_names k blocks own n w names (settled_by (written of) s) e d index next plain a (object_by w.unions w.structs of takes.0 s)
    (aliased_value w names e (settled_by (written of) s) takes.1.1 (thin_operand s takes.1.0)) h (omega (arith, f, none))
declaration_names k blocks own n w names plain a (tree.Open at region handle key) d index next takes h f =
    both_name (k ∷ blocks) own n _ _
    (get_names (k ∷ blocks) own n d (local_named names key.text) (bound_to w.globals key.text) (local_lies (k ∷ blocks) names key.text a.locals)
    (global_lies n w.globals key.text a.globals)) (tt, (h, tt))
declaration_names k blocks own n w names plain a (tree.NewKey at region key) d index next takes h f = (tt, (h, tt))

-- regions are freed, or closed
ending_names : (blocks : List ℕ) (own n : ℕ) (declared : Declaration) (d : ℕ) → CodeNames blocks own n (ending_code declared d)
ending_names blocks own n (tree.Local of name initializer) d = tt
ending_names blocks own n (tree.Region at region handle) d = (tt, tt)
ending_names blocks own n (tree.Open at region handle key) d = (tt, tt)
ending_names blocks own n (tree.Alias at region of alias pointer) d = tt
ending_names blocks own n (tree.NewKey at region key) d = tt

leaving_names : (blocks : List ℕ) (own n : ℕ) (opened : List Bool) (all count : ℕ) → CodeNames blocks own n (leaving_code opened all count)
leaving_names blocks own n opened all zero = tt
leaving_names blocks own n [] all (suc count) = tt
leaving_names blocks own n (o ∷ os) zero (suc count) = tt
leaving_names blocks own n (true ∷ os) (suc all) (suc count) = (tt, leaving_names blocks own n os all count)
leaving_names blocks own n (false ∷ os) (suc all) (suc count) = (tt, leaving_names blocks own n os all count)

-- ---- statements

mutual
  -- the temporary objects of a statement are the function's next ones
  statement_names : (blocks : List ℕ) (own n : ℕ) (w : World) (result : Shape) (names : List Named) → IsPlainWorld w
      → Around blocks n w names → IsTarget result → (r : RegionsAround) (s : Statement) (next : ℕ) → TakesStatement w result names s
      → next + length (statement_values w names s) ≤ own → CodeNames blocks own n (statement_code w result names r next s)
  statement_names blocks own n w result names plain a t r (Statement.Empty at) next h f = tt
  statement_names blocks own n w result names plain a t r (Statement.Block at items) next h f =
      let shapes = block_shapes w (outward names) 0 items in
      let k = length (locals_of w shapes) in
      let many = as_many w shapes in (
        (
          layouts_taken w shapes plain (block_variables w result (outward names) 0 items h),
          all_name (k ∷ blocks) own n _ (items_names k blocks own n w result (outward names) plain (further_in blocks n k w names a) t r 0 next items h
              (omega (arith, many)) f),
        ),
        tt,
      )
  statement_names blocks own n w result names plain a t r (Statement.Run e) next h f = run_names blocks own n w names plain a e r.all next h f
  statement_names blocks own n w result names plain a t r (Statement.Exchange left right) next h f =
      let many = length-append (expression_values w names left) (expression_values w names right) in
      let x = side_of names left in
      let y = side_of names right in
      both_name blocks own n _ _ (side_names blocks own n x _ (place_names own n w plain names a left r.all next h.0 (omega (arith, f, many))))
      (both_name blocks own n _ _
      (side_names blocks own n y _
      (place_names own n w plain names a right (r.all + 1) (next + length (expression_values w names left)) h.1.0 (omega (arith, f, many))))
      (exchange_names blocks own n w x y (static_shape w names left) r.all (side_lies blocks names a.locals left) (side_lies blocks names a.locals right)))
  statement_names blocks own n w result names plain a t r (Statement.If at condition body) next h f =
      let tested = length (expression_values w names condition) in
      let many = length-append (expression_values w names condition) (statement_values w names body) in
      both_name blocks own n _ _ (expression_names own n w plain names a condition r.all next h.0 (omega (arith, f, many)))
      ((all_name blocks own n _ (statement_names blocks own n w result names plain a t r body (next + tested) h.1 (omega (arith, f, many))), tt), tt)
  statement_names blocks own n w result names plain a t r (Statement.IfElse at condition body otherwise) next h f =
      let first = next + length (expression_values w names condition) in
      let both = length-append (statement_values w names body) (statement_values w names otherwise) in
      let many = length-append (expression_values w names condition) (statement_values w names body ++ statement_values w names otherwise) in
      both_name blocks own n _ _ (expression_names own n w plain names a condition r.all next h.0 (omega (arith, f, many))) (
        (
          all_name blocks own n _ (statement_names blocks own n w result names plain a t r body first h.1.0 (omega (arith, f, many, both))),
          all_name blocks own n _ (statement_names blocks own n w result names plain a t r otherwise (first + length (statement_values w names body)) h.1.1
              (omega (arith, f, many, both))),
        ),
        tt,
      )
  statement_names blocks own n w result names plain a t r (Statement.While at condition body) next h f =
      let tested = length (expression_values w names condition) in
      let many = length-append (expression_values w names condition) (statement_values w names body) in (
        (
          all_name blocks own n _ (expression_names own n w plain names a condition r.all next h.0 (omega (arith, f, many))),
          all_name blocks own n _ (statement_names blocks own n w result names plain a t (in_loop r) body (next + tested) h.1 (omega (arith, f, many))),
        ),
        tt,
      )
  statement_names blocks own n w result names plain a t r (Statement.Switch at place clauses) next h f =
      let parts = union_parts w (static_shape w names place) in
      let cases = case_values w names parts clauses in
      let first = next + length (expression_values w names place) in
      let both = length-append cases (default_values w names clauses) in
      let many = length-append (expression_values w names place) (cases ++ default_values w names clauses) in (
        all_name blocks own n _
            (both_name blocks own n _ _ (place_names own n w plain names a place r.all next h.0 (omega (arith, f, many))) (
              tt,
              both_name blocks own n _ _
                  (cases_names blocks own n w result names plain a t (in_switch r) parts (union_values w (static_shape w names place) plain h.1.0) first clauses
                  h.1.1 (omega (arith, f, many, both)))
                  (default_names blocks own n w result names plain a t (in_switch r) parts (first + length cases) clauses h.1.1 (omega (arith, f, many, both))),
            )),
        tt,
      )
  statement_names blocks own n w result names plain a t r (Statement.Break at) next h f =
      both_name blocks own n _ _ (leaving_names blocks own n r.opened r.all r.broken) (tt, tt)
  statement_names blocks own n w result names plain a t r (Statement.Continue at) next h f =
      both_name blocks own n _ _ (leaving_names blocks own n r.opened r.all r.continued) (tt, tt)
  statement_names blocks own n w result names plain a t r (Statement.Return at None) next h f =
      both_name blocks own n _ _ (leaving_names blocks own n r.opened r.all r.all) (omega arith, tt)
  statement_names blocks own n w result names plain a t r (Statement.Return at (Some e)) next h f =
      let few = results_many result r.all in
      both_name blocks own n _ _ (expression_names own n w plain names a e r.all next h f)
      (both_name blocks own n _ _ (conversion_names blocks own n w plain result (static_shape w names e) r.all t)
      (both_name blocks own n _ _ (leaving_names blocks own n r.opened r.all r.all) (omega (arith, few), tt)))
  statement_names blocks own n w result names plain a t r (Statement.FreeUnique at pointer) next h f =
      both_name blocks own n _ _
      (get_names blocks own n r.all (local_named names pointer.text) (bound_to w.globals pointer.text) (local_lies blocks names pointer.text a.locals)
      (global_lies n w.globals pointer.text a.globals)) (((tt, tt), tt), tt)
  statement_names blocks own n w result names plain a t r (Statement.FreeKey at key) next h f =
      both_name blocks own n _ _
      (get_names blocks own n r.all (local_named names key.text) (bound_to w.globals key.text) (local_lies blocks names key.text a.locals)
      (global_lies n w.globals key.text a.globals)) (tt, tt)

  -- the locals that the items declare are the block's next ones
  pub items_names : (k : ℕ) (blocks : List ℕ) (own n : ℕ) (w : World) (result : Shape) (names : List Named) → IsPlainWorld w
      → Around (k ∷ blocks) n w names → IsTarget result → (r : RegionsAround) (index next : ℕ) (items : BlockItems) → TakesItems w result names index items
      → index + length (block_shapes w names index items) ≤ k → next + length (item_values w names index items) ≤ own
      → CodeNames (k ∷ blocks) own n (items_code w result names r index next items)
  items_names k blocks own n w result names plain a t r index next NoItems h f g = tt
  items_names k blocks own n w result names plain a t r index next (Declare d others) h f g =
      let less : index < k = omega (arith, f) in
      let inside = names_behind w names index d in
      let further = one_more k blocks n w names (tree.local_of d).text (local_shape w names d) index less (shape_object w names d h.0) a in
      let many = length-append (declaration_values w names d) (item_values w inside (suc index) others) in
      both_name (k ∷ blocks) own n _ _ (declaration_names k blocks own n w names plain a d r.all index next h.0 less (omega (arith, g, many)))
      (both_name (k ∷ blocks) own n _ _
      (items_names k blocks own n w result inside plain further t (regions_with d r) (suc index) (next + length (declaration_values w names d)) others h.1
      (omega (arith, f)) (omega (arith, g, many)))
      (ending_names (k ∷ blocks) own n d r.all))
  items_names k blocks own n w result names plain a t r index next (Execute s others) h f g =
      let many = length-append (statement_values w names s) (item_values w names index others) in
      both_name (k ∷ blocks) own n _ _ (statement_names (k ∷ blocks) own n w result names plain a t r s next h.0 (omega (arith, g, many)))
      (items_names k blocks own n w result names plain a t r index (next + length (statement_values w names s)) others h.1 f (omega (arith, g, many)))

  -- the copy of a member is the first local of its clause
  cases_names : (blocks : List ℕ) (own n : ℕ) (w : World) (result : Shape) (names : List Named) → IsPlainWorld w → Around blocks n w names → IsTarget result
      → (r : RegionsAround) (parts : List Part) → AreValues (part_shapes parts) → (next : ℕ) (clauses : Clauses) → TakesClauses w result names parts clauses
      → next + length (case_values w names parts clauses) ≤ own → CodeNames blocks own n (cases_code w result names r parts next clauses)
  cases_names blocks own n w result names plain a t r parts values next NoClauses h g = tt
  cases_names blocks own n w result names plain a t r parts values next (MoreClauses at (Case f x) body others) h g =
      let s = part_shape parts f.text in
      let inside = named_here x.text s 0 ∷ outward names in
      let shapes = s ∷ block_shapes w inside 1 body in
      let k = length (locals_of w shapes) in
      let count = as_many w shapes in
      let variable = object_named w.unions w.structs s (value_object w.unions w.structs s (member_value parts f.text values h.0)) in
      let further = one_more k blocks n w (outward names) x.text s 0 (omega (arith, count)) variable (further_in blocks n k w names a) in
      let many = length-append (item_values w inside 1 body) (case_values w names parts others) in (
        tt,
        (
          tt,
          (
            (
              (
                (
                  layouts_taken w shapes plain (variable, block_variables w result inside 1 body h.1.0),
                  all_name (k ∷ blocks) own n _
                      (both_name (k ∷ blocks) own n _ _ (held_names (k ∷ blocks) own n s r.all)
                      (both_name (k ∷ blocks) own n _ _ (stored_local (k ∷ blocks) own n s (r.all + words_in s) r.all 0 0 (omega (arith, count)))
                      (items_names k blocks own n w result inside plain further t r 1 next body h.1.0 (omega (arith, count)) (omega (arith, g, many))))),
                ),
                (tt, tt),
              ),
              tt,
            ),
            cases_names blocks own n w result names plain a t r parts values (next + length (item_values w inside 1 body)) others h.1.1
                (omega (arith, g, many)),
          ),
        ),
      )
  cases_names blocks own n w result names plain a t r parts values next (MoreClauses at Default body others) h g =
      cases_names blocks own n w result names plain a t r parts values next others h.1 g

  default_names : (blocks : List ℕ) (own n : ℕ) (w : World) (result : Shape) (names : List Named) → IsPlainWorld w → Around blocks n w names
      → IsTarget result → (r : RegionsAround) (parts : List Part) (next : ℕ) (clauses : Clauses) → TakesClauses w result names parts clauses
      → next + length (default_values w names clauses) ≤ own → CodeNames blocks own n (default_code w result names r next clauses)
  default_names blocks own n w result names plain a t r parts next NoClauses h g = tt
  default_names blocks own n w result names plain a t r parts next (MoreClauses at (Case f x) body others) h g =
      default_names blocks own n w result names plain a t r parts next others h.1.1 g
  default_names blocks own n w result names plain a t r parts next (MoreClauses at Default body others) h g =
      let shapes = block_shapes w (outward names) 0 body in
      let k = length (locals_of w shapes) in
      let count = as_many w shapes in (
        (
          layouts_taken w shapes plain (block_variables w result (outward names) 0 body h.0),
          all_name (k ∷ blocks) own n _
              (items_names k blocks own n w result (outward names) plain (further_in blocks n k w names a) t r 0 next body h.0 (omega (arith, count)) g),
        ),
        tt,
      )
