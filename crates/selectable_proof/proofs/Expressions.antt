-- The code of an expression names locals of the blocks around it, globals, and temporary objects of its function, where its names and the program's globals lie
-- there, and its temporary objects are numbered among the function's.
use Rattle.std.proofs.Common.{ℕ, suc, ◌+◌, ◌≤◌, Bool, false, List, [], ◌∷◌, length, arith, length-append}
use Rattle.cyc_tree.specs.Tree.{Expression, Expressions, NoExpressions, MoreExpressions, Links, NoLinks, MoreLinks, Suffixes, NoSuffixes, Index, Dot, Arrow}
use Rattle.cyc_tree.specs.Tree.{Made, One, Array}
use Rattle.source_meaning.specs.Shapes.{Shape, Part, part_shape, part_shapes, parts_of}
use Rattle.source_meaning.specs.Sizes.{rounded_up}
use Rattle.source_meaning.specs.Steps.{World}
use Rattle.source_meaning.specs.Operators.{operator_shape}
use Rattle.source_meaning.specs.Places.{bound_to}
use Rattle.source_meaning.specs.Conversions.{cells_of}
use Rattle.source_meaning.specs.Expressions.{is_unique_region}
use Rattle.core_meaning.specs.Core.{Statement}
use Rattle.source_lowering.specs.Layouts.{extent_of}
use Rattle.source_lowering.specs.Members.{words_in}
use Rattle.source_lowering.specs.Lowered.{Named, local_named, member_number, prefix_shape, static_shape, suffixed_shape, values_by, expression_values}
use Rattle.source_lowering.specs.Lowered.{suffix_values, all_values, link_values, new_values, whole_values, made_values, Left, left_of, member_at}
use Rattle.source_lowering.specs.Lowered.{member_behind, element_at, suffixed_code, put_code, place_code, operator_code, truth_code, word_code, address_by}
use Rattle.source_lowering.specs.Lowered.{call_parameters, argument_words, expression_code, links_code, all_code, any_code, arguments_code, new_code}
use Rattle.source_lowering.specs.Lowered.{whole_code, members_code, element_names as names_inside}
use Rattle.source_lowering.specs.Lowerable.{
  IsTarget,
  AreObjects,
  TakesSuffixes,
  TakesMembers,
  Takes,
  TakesPlace,
  TakesAll,
  TakesLinks,
  TakesNew,
  TakesWhole,
  TakesMade,
}
use Rattle.source_lowering.proofs.Structs.{struct_made}
use Rattle.source_lowering.proofs.UnionSizes.{union_of}
use Rattle.source_lowering.proofs.values.Integers.{value_taken, taken_target}
use Rattle.source_lowering.proofs.expressions.Names.{IsPlainWorld}
use Rattle.source_lowering.proofs.expressions.EachCall.{AllValues, call_values}
use Rattle.selectable_proof.specs.Naming.{CodeNames}
use Rattle.selectable_proof.proofs.Naming.{both_name, all_name}
use Rattle.selectable_proof.proofs.StaticShapes.{member_value, place_target, shape_taken}
use Rattle.selectable_proof.proofs.Texts.{text_names}
use Rattle.selectable_proof.proofs.Pointers.{stores_names, LeftNames, member_left, behind_left, element_left, pointed_left, stored_left}
use Rattle.selectable_proof.proofs.MadeNames.{read_names, union_names, member_names, made_names, array_names, element_names}
use Rattle.selectable_proof.proofs.Parts.{
  local_lies,
  global_lies,
  Around,
  index_around,
  get_names,
  put_names,
  address_names,
  conversion_names,
  operator_names,
  count_names,
  word_names,
  prefix_names,
  pointed_names,
  call_names,
}

-- the code is in blocks that have so many locals each, in a function of so many temporary objects, over so many objects of the data
module _ (own n : ℕ) (w : World) (plain : IsPlainWorld w) where
  -- a pointer to a variable
  variable_names : {blocks : List ℕ} (names : List Named) (around : Around blocks n w names) (name : List ℕ) (d : ℕ)
      → CodeNames blocks own n (address_by (local_named names name) (bound_to w.globals name) d)
  variable_names {blocks = blocks} names around name d =
      address_names blocks own n d (local_named names name) (bound_to w.globals name) (local_lies blocks names name around.locals)
      (global_lies n w.globals name around.globals)

  -- what a pointer that is taken leads to is no array
  value_target : {blocks : List ℕ} (names : List Named) (around : Around blocks n w names) (e : Expression) → Takes w names e
      → IsTarget (static_shape w names e)
  value_target {blocks = blocks} names around e h = taken_target (static_shape w names e) (shape_taken w names around.plain around.words e h)

  mutual
    stored_names : {blocks : List ℕ} (names : List Named) (around : Around blocks n w names) (e : Expression) (d next : ℕ) → TakesPlace w names e
        → next + length (expression_values w names e) ≤ own
        → CodeNames blocks own n (put_code w names e d next)
    stored_names {blocks = blocks} names around (Expression.Variable name) d next h f =
        put_names blocks own n d (local_named names name.text) (bound_to w.globals name.text) (local_lies blocks names name.text around.locals)
        (global_lies n w.globals name.text around.globals)
    stored_names {blocks = blocks} names around (Expression.Grouped at inner) d next h f = stored_names names around inner d next h f
    stored_names {blocks = blocks} names around (Expression.Prefixed at operator operand) d next h f =
        let s = prefix_shape operator (static_shape w names operand) in
        let p = d + words_in s in
        both_name blocks own n _ _
        (pointed_names blocks own n w plain operator (static_shape w names operand) p (expression_code w names operand p next) (Takes w names operand) h
        (λ k. value_target names around operand k) (λ k. expression_names names around operand p next k f)) (stores_names blocks own n s p d 0 0)
    stored_names {blocks = blocks} names around (Expression.Suffixed primary others) d next h f =
        let first = next + length (suffix_values w names others) in
        let many = length-append (suffix_values w names others) (expression_values w names primary) in
        stored_left blocks own n w plain _ (d + words_in (suffixed_shape w others (static_shape w names primary))) d
        (primary_names names around others (static_shape w names primary) (λ x. expression_code w names primary x first)
        (λ x. place_code w names primary x first)
        primary next h (omega (arith, f, many)) (λ k. value_target names around primary k)
        (λ k x. expression_names names around primary x first k (omega (arith, f, many)))
        (λ k x. place_names names around primary x first k (omega (arith, f, many))))
    stored_names {blocks = blocks} names around _ d next h f = absurd h

    pub place_names : {blocks : List ℕ} (names : List Named) (around : Around blocks n w names) (e : Expression) (d next : ℕ) → TakesPlace w names e
        → next + length (expression_values w names e) ≤ own
        → CodeNames blocks own n (place_code w names e d next)
    place_names {blocks = blocks} names around (Expression.Variable name) d next h f = variable_names names around name.text d
    place_names {blocks = blocks} names around (Expression.Grouped at inner) d next h f = place_names names around inner d next h f
    place_names {blocks = blocks} names around (Expression.Prefixed at operator operand) d next h f =
        pointed_names blocks own n w plain operator (static_shape w names operand) d (expression_code w names operand d next) (Takes w names operand) h
        (λ k. value_target names around operand k) (λ k. expression_names names around operand d next k f)
    place_names {blocks = blocks} names around (Expression.Suffixed primary others) d next h f =
        let first = next + length (suffix_values w names others) in
        let many = length-append (suffix_values w names others) (expression_values w names primary) in
        pointed_left blocks own n w plain _ d
        (primary_names names around others (static_shape w names primary) (λ x. expression_code w names primary x first)
        (λ x. place_code w names primary x first)
        primary next h (omega (arith, f, many)) (λ k. value_target names around primary k)
        (λ k x. expression_names names around primary x first k (omega (arith, f, many)))
        (λ k x. place_names names around primary x first k (omega (arith, f, many))))
    place_names {blocks = blocks} names around _ d next h f = absurd h

    pub expression_names : {blocks : List ℕ} (names : List Named) (around : Around blocks n w names) (e : Expression) (d next : ℕ) → Takes w names e
        → next + length (expression_values w names e) ≤ own
        → CodeNames blocks own n (expression_code w names e d next)
    expression_names {blocks = blocks} names around (Expression.Number at value suffix) d next h f = (tt, tt)
    expression_names {blocks = blocks} names around (Expression.Character at byte) d next h f = (tt, tt)
    expression_names {blocks = blocks} names around (Expression.Null at) d next h f = (tt, tt)
    expression_names {blocks = blocks} names around (Expression.HeapRegion at) d next h f = (tt, tt)
    expression_names {blocks = blocks} names around (Expression.Variable name) d next h f =
        get_names blocks own n d (local_named names name.text) (bound_to w.globals name.text) (local_lies blocks names name.text around.locals)
        (global_lies n w.globals name.text around.globals)
    expression_names {blocks = blocks} names around (Expression.Call name arguments) d next h f =
        both_name blocks own n _ _
        (arguments_name names around (call_parameters w name.text) arguments d next (call_values w name.text around.plain) h.1 f)
        (call_names blocks own n w name.text (argument_words (call_parameters w name.text) arguments) d)
    expression_names {blocks = blocks} names around (Expression.Text at bytes) d next h f = text_names blocks own n d at w.strings around.texts
    expression_names {blocks = blocks} names around (Expression.NumElts at operand) d next h f =
        both_name blocks own n _ _ (expression_names names around operand d next h f) (count_names blocks own n d)
    expression_names {blocks = blocks} names around (Expression.Grouped at inner) d next h f = expression_names names around inner d next h f
    expression_names {blocks = blocks} names around (Expression.Prefixed at operator operand) d next h f =
        prefix_names blocks own n w plain operator (static_shape w names operand) d (expression_code w names operand (d + 1) next)
        (expression_code w names operand d next) (place_code w names operand d next) (Takes w names operand) (TakesPlace w names operand) h
        (λ k. value_target names around operand k) (λ k. expression_names names around operand (d + 1) next k f)
        (λ k. expression_names names around operand d next k f)
        (λ k. place_names names around operand d next k f)
    expression_names {blocks = blocks} names around (Expression.Suffixed primary others) d next h f =
        let first = next + length (suffix_values w names others) in
        let many = length-append (suffix_values w names others) (expression_values w names primary) in
        (primary_names names around others (static_shape w names primary) (λ x. expression_code w names primary x first)
        (λ x. place_code w names primary x first)
        primary next h.0 (omega (arith, f, many)) (λ k. value_target names around primary k)
        (λ k x. expression_names names around primary x first k (omega (arith, f, many)))
        (λ k x. place_names names around primary x first k (omega (arith, f, many)))).value d
    expression_names {blocks = blocks} names around (Expression.UniqueRegion at) d next h f = tt
    expression_names {blocks = blocks} names around (Expression.New at new) d next h f = (tt, new_names names around false new d next h f)
    expression_names {blocks = blocks} names around (Expression.NewIn at handle new) d next h f =
        let many = length-append (expression_values w names handle) (new_values w names new) in
        both_name blocks own n _ _ (expression_names names around handle d next h.0 (omega (arith, f, many)))
        (new_names names around (is_unique_region handle) new d (next + length (expression_values w names handle)) h.1 (omega (arith, f, many)))
    expression_names {blocks = blocks} names around (Expression.Chain first others) d next h f =
        let many = length-append (expression_values w names first) (link_values w names others) in
        both_name blocks own n _ _ (expression_names names around first d next h.0 (omega (arith, f, many)))
        (links_name names around others (static_shape w names first) d (next + length (expression_values w names first)) h.1 (omega (arith, f, many)))
    expression_names {blocks = blocks} names around (Expression.AllOf first others) d next h f =
        let many = length-append (expression_values w names first) (all_values w names others) in
        let behind = next + length (expression_values w names first) in
        both_name blocks own n _ _
        (both_name blocks own n _ _ (expression_names names around first d next h.0 (omega (arith, f, many)))
        (word_names blocks own n (static_shape w names first) d))
        (both_name blocks own n (all_code w names others d behind) (truth_code d) (each_names names around others d behind h.1 (omega (arith, f, many)))
        (tt, (tt, tt)))
    expression_names {blocks = blocks} names around (Expression.AnyOf first others) d next h f =
        let many = length-append (expression_values w names first) (all_values w names others) in
        let behind = next + length (expression_values w names first) in
        both_name blocks own n _ _
        (both_name blocks own n _ _ (expression_names names around first d next h.0 (omega (arith, f, many)))
        (word_names blocks own n (static_shape w names first) d))
        (both_name blocks own n (any_code w names others d behind) (truth_code d) (any_names names around others d behind h.1 (omega (arith, f, many)))
        (tt, (tt, tt)))
    expression_names {blocks = blocks} names around (Expression.Assign place value) d next h f =
        let many = length-append (expression_values w names value) (expression_values w names place) in
        both_name blocks own n _ _ (expression_names names around value d next h.1.0 (omega (arith, f, many)))
        (both_name blocks own n _ _
        (conversion_names blocks own n w plain (static_shape w names place) (static_shape w names value) d
        (place_target w names around.plain around.words place h.0))
        (stored_names names around place d (next + length (expression_values w names value)) h.0 (omega (arith, f, many))))
    expression_names {blocks = blocks} names around _ d next h f = absurd h

    -- suffixes on a primary expression
    primary_names : {blocks : List ℕ} (names : List Named) (around : Around blocks n w names) (suffixes : Suffixes) (s : Shape) (value pointer : ℕ
        → List Statement)
        (primary : Expression) (next : ℕ)
        → TakesSuffixes w names suffixes s (Takes w names primary) (TakesPlace w names primary) → next + length (suffix_values w names suffixes) ≤ own
        → (Takes w names primary → IsTarget s) → (Takes w names primary → (d : ℕ) → CodeNames blocks own n (value d))
        → (TakesPlace w names primary → (d : ℕ) → CodeNames blocks own n (pointer d))
        → LeftNames blocks own n w plain (suffixed_code w names suffixes (left_of s value pointer) next)
    primary_names {blocks = blocks} names around NoSuffixes s value pointer primary next takes f t v p = absurd takes
    primary_names {blocks = blocks} names around (Index index others) s value pointer primary next takes f t v p =
        let first = next + length (suffix_values w names others) in
        let many = length-append (suffix_values w names others) (expression_values w names index) in
        let code : ℕ → List Statement = λ d. expression_code w names index d first in
        suffixes_names names around others (element_at w s code value) next takes.1.1.1 (omega (arith, f, many))
        (element_left blocks own n w plain s code value takes.1.1.0
        (λ d. expression_names names around index d first takes.1.0 (omega (arith, f, many))) (v takes.0))
    primary_names {blocks = blocks} names around (Dot field others) s value pointer primary next takes f t v p =
        suffixes_names names around others (member_at w s pointer 0 0 field.text) next takes.1.1 f
        (member_left blocks own n w plain s pointer 0 0 field.text takes.1.0 (p takes.0))
    primary_names {blocks = blocks} names around (Arrow field others) s value pointer primary next takes f t v p =
        let left : Left = left_of s value pointer in
        suffixes_names names around others (member_behind w left field.text) next takes.1.1 f
        (behind_left blocks own n w plain left field.text (t takes.0) takes.1.0 (v takes.0))

    -- further ones on what they lead to
    suffixes_names : {blocks : List ℕ} (names : List Named) (around : Around blocks n w names) (suffixes : Suffixes) (left : Left) (next : ℕ)
        → TakesMembers w names suffixes left.shape
        → next + length (suffix_values w names suffixes) ≤ own → LeftNames blocks own n w plain left
        → LeftNames blocks own n w plain (suffixed_code w names suffixes left next)
    suffixes_names {blocks = blocks} names around NoSuffixes left next takes f h = h
    suffixes_names {blocks = blocks} names around (Index index others) left next takes f h =
        let first = next + length (suffix_values w names others) in
        let many = length-append (suffix_values w names others) (expression_values w names index) in
        let code : ℕ → List Statement = λ d. expression_code w names index d first in
        suffixes_names names around others (element_at w left.shape code left.value) next takes.1.1.1 (omega (arith, f, many))
        (element_left blocks own n w plain left.shape code left.value takes.1.1.0
        (λ d. expression_names names around index d first takes.1.0 (omega (arith, f, many))) h.value)
    suffixes_names {blocks = blocks} names around (Dot field others) left next takes f h =
        suffixes_names names around others (member_at w left.shape left.pointer left.cells left.bytes field.text) next takes.1 f
        (member_left blocks own n w plain left.shape left.pointer left.cells left.bytes field.text takes.0 h.pointer)
    suffixes_names {blocks = blocks} names around (Arrow field others) left next takes f h =
        suffixes_names names around others (member_behind w left field.text) next takes.1.1 f
        (behind_left blocks own n w plain left field.text h.target takes.1.0 h.value)

    arguments_name : {blocks : List ℕ} (names : List Named) (around : Around blocks n w names) (shapes : List Shape) (es : Expressions) (d next : ℕ)
        → AllValues shapes
        → TakesAll w names es
        → next + length (all_values w names es) ≤ own → CodeNames blocks own n (arguments_code w names shapes es d next)
    arguments_name {blocks = blocks} names around [] es d next values h f = tt
    arguments_name {blocks = blocks} names around (s ∷ ss) NoExpressions d next values h f = tt
    arguments_name {blocks = blocks} names around (s ∷ ss) (MoreExpressions e es) d next values h f =
        let many = length-append (expression_values w names e) (all_values w names es) in
        both_name blocks own n _ _ (expression_names names around e d next h.0 (omega (arith, f, many)))
        (both_name blocks own n _ _ (conversion_names blocks own n w plain s (static_shape w names e) d (taken_target s (value_taken s values.0)))
        (arguments_name names around ss es (d + words_in s) (next + length (expression_values w names e)) values.1 h.1 (omega (arith, f, many))))

    links_name : {blocks : List ℕ} (names : List Named) (around : Around blocks n w names) (links : Links) (left : Shape) (d next : ℕ)
        → TakesLinks w names links
        → next + length (link_values w names links) ≤ own
        → CodeNames blocks own n (links_code w names links left d next)
    links_name {blocks = blocks} names around NoLinks left d next h f = tt
    links_name {blocks = blocks} names around (MoreLinks operator operand others) left d next h f =
        let many = length-append (expression_values w names operand) (link_values w names others) in
        both_name blocks own n _ _ (expression_names names around operand (d + words_in left) next h.0 (omega (arith, f, many)))
        (both_name blocks own n (operator_code operator left (static_shape w names operand) d) _
        (operator_names blocks own n operator left (static_shape w names operand) d)
        (links_name names around others (operator_shape operator left (static_shape w names operand)) d (next + length (expression_values w names operand)) h.1
        (omega (arith, f, many))))

    each_names : {blocks : List ℕ} (names : List Named) (around : Around blocks n w names) (es : Expressions) (d next : ℕ) → TakesAll w names es
        → next + length (all_values w names es) ≤ own
        → CodeNames blocks own n (all_code w names es d next)
    each_names {blocks = blocks} names around NoExpressions d next h f = tt
    each_names {blocks = blocks} names around (MoreExpressions e es) d next h f =
        let many = length-append (expression_values w names e) (all_values w names es) in (
          (
            all_name blocks own n _ (both_name blocks own n (expression_code w names e d next) (word_code (static_shape w names e) d)
                (expression_names names around e d next h.0 (omega (arith, f, many))) (word_names blocks own n (static_shape w names e) d)),
            tt,
          ),
          each_names names around es d (next + length (expression_values w names e)) h.1 (omega (arith, f, many)),
        )

    any_names : {blocks : List ℕ} (names : List Named) (around : Around blocks n w names) (es : Expressions) (d next : ℕ) → TakesAll w names es
        → next + length (all_values w names es) ≤ own
        → CodeNames blocks own n (any_code w names es d next)
    any_names {blocks = blocks} names around NoExpressions d next h f = tt
    any_names {blocks = blocks} names around (MoreExpressions e es) d next h f =
        let many = length-append (expression_values w names e) (all_values w names es) in (
          (
            tt,
            all_name blocks own n _ (both_name blocks own n (expression_code w names e d next) (word_code (static_shape w names e) d)
                (expression_names names around e d next h.0 (omega (arith, f, many))) (word_names blocks own n (static_shape w names e) d)),
          ),
          any_names names around es d (next + length (expression_values w names e)) h.1 (omega (arith, f, many)),
        )

    new_names : {blocks : List ℕ} (names : List Named) (around : Around blocks n w names) (unique : Bool) (new : Made) (d next : ℕ) → TakesNew w names new
        → next + length (new_values w names new) ≤ own
        → CodeNames blocks own n (new_code w names unique new d next)
    new_names {blocks = blocks} names around unique (One e) d next h f =
        made_names blocks own n w plain d next (whole_values w names e) (expression_values w names e) (whole_code w names e (d + 1) next)
        (expression_code w names e (d + 1) next) (TakesWhole w names e) (Takes w names e) (λ k room. whole_names names around e (d + 1) next k room)
        (λ k room. expression_names names around e (d + 1) next k room) unique (static_shape w names e) h.0 h.1 f
    new_names {blocks = blocks} names around unique (Array index count element) d next h f =
        let inner = names_inside index.text names in
        let within : Around (1 ∷ blocks) n w inner = index_around blocks n w names index.text around in
        let counted = expression_values w names count in
        let first = next + length counted in
        let s = static_shape w inner element in
        let many = length-append counted (values_by s (whole_values w inner element) (expression_values w inner element)) in
        both_name blocks own n _ _ (expression_names names around count (d + 1) next h.0 (omega (arith, f, many)))
        (array_names blocks own n w plain s d _ h.1.0
        (element_names (1 ∷ blocks) own n w plain d first (whole_values w inner element) (expression_values w inner element)
        (whole_code w inner element (d + 3) first)
        (expression_code w inner element (d + 3) first) (TakesWhole w inner element) (Takes w inner element)
        (λ k room. whole_names inner within element (d + 3) first k room) (λ k room. expression_names inner within element (d + 3) first k room)
        s h.1.0 h.1.1 (omega (arith, f, many))))

    -- structs and tagged unions
    pub whole_names : {blocks : List ℕ} (names : List Named) (around : Around blocks n w names) (e : Expression) (d next : ℕ) → TakesWhole w names e
        → next + length (whole_values w names e) ≤ own
        → CodeNames blocks own n (whole_code w names e d next)
    whole_names {blocks = blocks} names around (Expression.Call name arguments) d next h f = (
      omega (arith, f),
      members_names names around (parts_of w.structs name.text) arguments d 0 0 (suc next) (struct_made w.unions w.structs name.text plain.structs).members h.1
          (omega (arith, f)),
    )
    whole_names {blocks = blocks} names around (Expression.MakeUnion tag member value) d next h f =
        let parts = parts_of w.unions tag.text in
        let s = part_shape parts member.text in
        let is_value = member_value parts member.text (union_of w.unions tag.text plain.unions h.0).members h.1.0 in (
          omega (arith, f),
          both_name blocks own n _ _ (expression_names names around value (d + 1) (suc next) h.1.1 (omega (arith, f)))
              (union_names blocks own n w plain s (static_shape w names value) (member_number parts member.text) d (taken_target s (value_taken s is_value))),
        )
    whole_names {blocks = blocks} names around (Expression.Grouped at inner) d next h f = whole_names names around inner d next h f
    whole_names {blocks = blocks} names around (Expression.Variable name) d next h f =
        read_names blocks own n w plain (static_shape w names (Expression.Variable name)) d next _ h.1 (omega (arith, f))
        (variable_names names around name.text d)
    whole_names {blocks = blocks} names around (Expression.Suffixed primary others) d next h f =
        let first = suc next + length (suffix_values w names others) in
        let many = length-append (suffix_values w names others) (expression_values w names primary) in
        read_names blocks own n w plain (static_shape w names (Expression.Suffixed primary others)) d next _ h.1 (omega (arith, f))
        (pointed_left blocks own n w plain _ d
        (primary_names names around others (static_shape w names primary) (λ x. expression_code w names primary x first)
        (λ x. place_code w names primary x first)
        primary (suc next) h.0 (omega (arith, f, many)) (λ k. value_target names around primary k)
        (λ k x. expression_names names around primary x first k (omega (arith, f, many)))
        (λ k x. place_names names around primary x first k (omega (arith, f, many)))))
    whole_names {blocks = blocks} names around (Expression.Prefixed at operator operand) d next h f =
        read_names blocks own n w plain (static_shape w names (Expression.Prefixed at operator operand)) d next _ h.1 (omega (arith, f))
        (pointed_names blocks own n w plain operator (static_shape w names operand) d (expression_code w names operand d (suc next))
        (Takes w names operand) h.0 (λ k. value_target names around operand k) (λ k. expression_names names around operand d (suc next) k (omega (arith, f))))
    whole_names {blocks = blocks} names around _ d next h f = absurd h

    members_names : {blocks : List ℕ} (names : List Named) (around : Around blocks n w names) (ps : List Part) (arguments : Expressions)
        (d cells bytes next : ℕ)
        → AreObjects w.unions w.structs (part_shapes ps)
        → TakesMade w names ps arguments → next + length (made_values w names ps arguments) ≤ own
        → CodeNames blocks own n (members_code w names ps arguments d cells bytes next)
    members_names {blocks = blocks} names around [] arguments d cells bytes next objects h f = tt
    members_names {blocks = blocks} names around (p ∷ ps) NoExpressions d cells bytes next objects h f = tt
    members_names {blocks = blocks} names around (p ∷ ps) (MoreExpressions first others) d cells bytes next objects h f =
        let at = rounded_up bytes (extent_of w p.shape).align in
        let values = values_by p.shape (whole_values w names first) (expression_values w names first) in
        let many = length-append values (made_values w names ps others) in
        both_name blocks own n _ _
        (member_names blocks own n w plain d next (whole_values w names first) (expression_values w names first) (whole_code w names first (d + 1) next)
        (expression_code w names first (d + 1) next) (TakesWhole w names first) (Takes w names first)
        (λ k room. whole_names names around first (d + 1) next k room)
        (λ k room. expression_names names around first (d + 1) next k room) p.shape (static_shape w names first) cells at objects.0 h.0
        (omega (arith, f, many)))
        (members_names names around ps others d (cells + length (cells_of w p.shape)) (at + (extent_of w p.shape).size) (next + length values) objects.1 h.1
        (omega (arith, f, many)))

  -- a value is stored to its place, be it given away or not
  pub assign_names : {blocks : List ℕ} (names : List Named) (around : Around blocks n w names) (place value : Expression) (d next : ℕ)
      → TakesPlace w names place
      → Takes w names value → next + length (expression_values w names (Expression.Assign place value)) ≤ own
      → CodeNames blocks own n (expression_code w names (Expression.Assign place value) d next)
  assign_names {blocks = blocks} names around place value d next h g f =
      let many = length-append (expression_values w names value) (expression_values w names place) in
      both_name blocks own n _ _ (expression_names names around value d next g (omega (arith, f, many)))
      (both_name blocks own n _ _
      (conversion_names blocks own n w plain (static_shape w names place) (static_shape w names value) d
      (place_target w names around.plain around.words place h))
      (stored_names names around place d (next + length (expression_values w names value)) h (omega (arith, f, many))))
