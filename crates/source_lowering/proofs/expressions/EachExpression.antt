-- Each expression that is taken does the same as its code, and so does each that is a struct.
use Rattle.std.proofs.Common.{Bool, false, ℕ, suc, ◌+◌, ◌<◌, ◌≤◌, List, [], ◌∷◌, ◌++◌, length, max, refl, sym, ap, ◌∙◌, subst, arith}
use Rattle.std.proofs.lemmas.List.{append_assoc, append-nil}
use Rattle.cyc_tree.specs.declared.expression.Prefix.TheVariants as prefix
use Rattle.cyc_tree.specs.Tree.{Expression, Expressions, NoExpressions, MoreExpressions, Links, NoLinks, MoreLinks, Suffixes, NoSuffixes, Index, Dot, Arrow}
use Rattle.cyc_tree.specs.Tree.{Made, One, Array}
use Rattle.source_meaning.specs.Shapes.{Shape, IntShape, FatShape, StructShape, UnionShape, Part, part_shapes, parts_of, pointee, Shared}
use Rattle.source_meaning.specs.Sizes.{Extent, rounded_up, laid_out, no_extent}
use Rattle.source_meaning.specs.Steps.{Act, Scope, ◌>>=◌}
use Rattle.source_meaning.specs.Operators.{operator_shape}
use Rattle.source_meaning.specs.Conversions.{cells_of, converted}
use Rattle.source_meaning.specs.Making.{Maker, heap_maker}
use Rattle.source_meaning.specs.Places.{Sense}
use Rattle.source_meaning.specs.Calls.{applied, converted_all}
use Rattle.source_meaning.specs.Expressions.{element_scope, sense, senses, linked, is_unique_region}
use Rattle.core_meaning.specs.Core.{Statement, Do, HeapHandle}
use Rattle.source_lowering.specs.Layouts.{extent_of}
use Rattle.source_lowering.specs.Members.{words_in}
use Rattle.source_lowering.specs.Lowered.{argument_words, static_shape, new_shape, linked_shape, operator_code, call_parameters, values_by, expression_values}
use Rattle.source_lowering.specs.Lowered.{suffix_values, all_values, link_values, new_values, whole_values, made_values, expression_code, place_code, put_code}
use Rattle.source_lowering.specs.Lowered.{element_names, links_code, all_code, any_code, arguments_code, new_code, whole_code, members_code, member_code}
use Rattle.source_lowering.specs.Lowerable.{AreObjects, TakesPlace, Takes, TakesAll, TakesLinks, TakesNew, TakesWhole, TakesMade, TakesIndices}
use Rattle.source_lowering.proofs.Structs.{struct_made as struct_is_made}
use Rattle.source_lowering.proofs.memory.StructCells.{AllHaveCells}
use Rattle.source_lowering.proofs.memory.Members.{have_cells}
use Rattle.source_lowering.specs.Simulation.{keeping}
use Rattle.source_lowering.proofs.values.Integers.{IsOperandShape, target_taken}
use Rattle.source_lowering.proofs.expressions.Variables.{Agrees, stuck_agrees}
use Rattle.source_lowering.proofs.expressions.VariableForms.{variable_agrees, variable_stores}
use Rattle.source_lowering.proofs.expressions.Counting.{counted_agrees}
use Rattle.source_lowering.proofs.Texts.{text_agrees}
use Rattle.source_lowering.proofs.expressions.Forms.{number_agrees, character_agrees, applied_agrees, value_agrees, assigned_agrees, given_single}
use Rattle.source_lowering.proofs.expressions.Places.{IsPlaced, variable_placed, address_agrees, null_agrees}
use Rattle.source_lowering.proofs.expressions.ValuePlaces.{target_stored}
use Rattle.source_lowering.proofs.expressions.Reaching.{placed_reached}
use Rattle.source_lowering.proofs.expressions.Indices.{IndicesAs}
use Rattle.source_lowering.proofs.expressions.Suffixed.{primary_left, left_shape, suffixed_same}
use Rattle.source_lowering.proofs.values.Joined.{AllAs, all_none, all_more, all_gives, AnyAs, any_none, any_more, any_gives}
use Rattle.source_lowering.proofs.expressions.EachCall.{Passed, AllValues, call_values, call_agrees}
use Rattle.source_lowering.proofs.expressions.Calls.{CallsAs, calls_less, no_arguments, stuck_arguments, more_arguments}
use Rattle.source_lowering.proofs.expressions.Numbered.{AreNumbered, numbered_first, numbered_after, numbered_one, numbered_more}
use Rattle.source_lowering.proofs.expressions.ExpressionForms.{IsStored, negate_agrees, complement_agrees, not_agrees, contents_agrees}
use Rattle.source_lowering.proofs.expressions.ExpressionForms.{contents_are, no_shapes, suffixes_value, suffixes_stored, suffixes_placed}
use Rattle.source_lowering.proofs.expressions.WholeForms.{IsWholeAs, whole_place, member_same, call_whole}
use Rattle.source_lowering.proofs.expressions.MakingStructs.{MembersGo, no_members, more_members, made_whole}
use Rattle.source_lowering.proofs.expressions.MakingUnions.{union_whole}
use Rattle.source_lowering.proofs.expressions.Requests.{GivesTo, region_to, to_region, maker_to, heap_agrees, heap_gives, made_agrees}
use Rattle.source_lowering.proofs.expressions.MadeArrays.{made_array}
use Rattle.source_lowering.proofs.expressions.Known.{inside_known, known_inside}
pub use Rattle.source_lowering.proofs.expressions.Known.{Known, place_in, IsKnown, known_keeping, keeping_known, new_by, new_is, in_one, maker_in, new_in_same}
pub use Rattle.source_lowering.proofs.expressions.Known.{unique_none}
use Rattle.source_lowering.proofs.expressions.Requests.{IsInOne, shared_in_one, in_one_none, in_one_unique}
use Rattle.source_lowering.specs.Lowered.{owner_in}

mutual
  pub named_same : (e : Expression) (scope : Scope) (k : Known) → TakesPlace scope.world k.names e → IsOperandShape (static_shape scope.world k.names e)
      → IsKnown scope k → (n : ℕ) → CallsAs scope.world k.program n → (d own : ℕ)
      → AreNumbered k.owned own (expression_values scope.world k.names e) → k.kept ≤ own
      → IsStored (place_in scope k) n d (sense e scope) (static_shape scope.world k.names e) (put_code scope.world k.names e d own)
  named_same (Expression.Variable name) scope k h single known n calls d own numbered less =
      let one = variable_agrees (place_in scope k) n d name.text known.locals known.words known.world.globals known.world.structs single in
      record {
        shape_is = one.shape_is;
        taken = one.taken;
        stores = variable_stores (place_in scope k) n d name.text known.locals known.words known.world.globals known.world.structs single;
      }
  named_same (Expression.Grouped at inner) scope k h single known n calls d own numbered less =
      named_same inner scope k h single known n calls d own numbered less
  named_same (Expression.Prefixed at prefix.Dereference operand) scope k h single known n calls d own numbered less =
      let to = pointee (static_shape scope.world k.names operand) in
      let p = d + words_in to in
      let one = contents_are (place_in scope k) n p (sense operand scope) (static_shape scope.world k.names operand)
      (expression_code scope.world k.names operand p own) (expression_same operand scope k h known n calls p own numbered less) in
      record {
        shape_is = one.shape_is;
        taken = target_taken to one.target single;
        stores = target_stored (place_in scope k) n d 0 0 to _ _ one.target single (placed_reached (place_in scope k) n p to _ _ one.placed);
      }
  named_same (Expression.Suffixed primary suffixes) scope k h single known n calls d own numbered less =
      suffixes_stored (place_in scope k) n d (sense (Expression.Suffixed primary suffixes) scope)
      (static_shape scope.world k.names (Expression.Suffixed primary suffixes)) _ (left_shape scope.world k.names primary suffixes own) single
      (suffixed_same primary suffixes scope k h known n own numbered less
      (λ first nums below g d. expression_same primary scope k g known n calls d first nums below)
      (λ first nums below g d. place_same primary scope k g known n calls d first nums below)
      (λ g nums. indices_same suffixes scope k g known n calls own nums less))
  named_same _ scope k h single known n calls d own numbered less = absurd h

  pub place_same : (e : Expression) (scope : Scope) (k : Known) → TakesPlace scope.world k.names e → IsKnown scope k → (n : ℕ)
      → CallsAs scope.world k.program n → (d own : ℕ) → AreNumbered k.owned own (expression_values scope.world k.names e) → k.kept ≤ own
      → IsPlaced (place_in scope k) n d (sense e scope) (static_shape scope.world k.names e) (place_code scope.world k.names e d own)
  place_same (Expression.Variable name) scope k h known n calls d own numbered less =
      variable_placed (place_in scope k) n d name.text known.locals known.words known.world.globals known.world.structs
  place_same (Expression.Grouped at inner) scope k h known n calls d own numbered less = place_same inner scope k h known n calls d own numbered less
  place_same (Expression.Prefixed at prefix.Dereference operand) scope k h known n calls d own numbered less =
      contents_are (place_in scope k) n d (sense operand scope) (static_shape scope.world k.names operand) (expression_code scope.world k.names operand d own)
      (expression_same operand scope k h known n calls d own numbered less)
  place_same (Expression.Suffixed primary suffixes) scope k h known n calls d own numbered less =
      suffixes_placed (place_in scope k) n d (sense (Expression.Suffixed primary suffixes) scope)
      (static_shape scope.world k.names (Expression.Suffixed primary suffixes)) _ (left_shape scope.world k.names primary suffixes own)
      (suffixed_same primary suffixes scope k h known n own numbered less
      (λ first nums below g d. expression_same primary scope k g known n calls d first nums below)
      (λ first nums below g d. place_same primary scope k g known n calls d first nums below)
      (λ g nums. indices_same suffixes scope k g known n calls own nums less))
  place_same _ scope k h known n calls d own numbered less = absurd h

  pub expression_same : (e : Expression) (scope : Scope) (k : Known) → Takes scope.world k.names e → IsKnown scope k → (n : ℕ)
      → CallsAs scope.world k.program n → (d own : ℕ) → AreNumbered k.owned own (expression_values scope.world k.names e) → k.kept ≤ own
      → Agrees (place_in scope k) n d (sense e scope) (static_shape scope.world k.names e) (expression_code scope.world k.names e d own)
  expression_same (Expression.Number at value suffix) scope k h known n calls d own numbered less = number_agrees (place_in scope k) n d value suffix
  expression_same (Expression.Character at byte) scope k h known n calls d own numbered less = character_agrees (place_in scope k) n d byte
  expression_same (Expression.Null at) scope k h known n calls d own numbered less = null_agrees (place_in scope k) n d
  expression_same (Expression.HeapRegion at) scope k h known n calls d own numbered less = heap_agrees (place_in scope k) n d
  expression_same (Expression.Variable name) scope k h known n calls d own numbered less =
      variable_agrees (place_in scope k) n d name.text known.locals known.words known.world.globals known.world.structs h
  expression_same (Expression.Call name arguments) scope k h known n calls d own numbered less =
      call_agrees (place_in scope k) n d (argument_words (call_parameters scope.world name.text) arguments) name.text (senses arguments scope)
      (arguments_code scope.world k.names (call_parameters scope.world name.text) arguments d own) known.world h.0 calls
      (λ e. no_shapes scope.world k.names (call_parameters scope.world name.text) arguments d own e)
      (arguments_same arguments scope k h.1 known n calls (call_parameters scope.world name.text) (call_values scope.world name.text known.world) d own
      numbered less)
  expression_same (Expression.Text at bytes) scope k h known n calls d own numbered less = text_agrees (place_in scope k) n d at known.world.structs
  expression_same (Expression.NumElts at operand) scope k h known n calls d own numbered less =
      counted_agrees (place_in scope k) n d (sense operand scope) (static_shape scope.world k.names operand)
      (expression_code scope.world k.names operand d own) (expression_same operand scope k h known n calls d own numbered less)
  expression_same (Expression.Grouped at inner) scope k h known n calls d own numbered less = expression_same inner scope k h known n calls d own numbered less
  expression_same (Expression.Suffixed primary suffixes) scope k h known n calls d own numbered less =
      suffixes_value (place_in scope k) n d (sense (Expression.Suffixed primary suffixes) scope)
      (static_shape scope.world k.names (Expression.Suffixed primary suffixes)) _ (left_shape scope.world k.names primary suffixes own) h.1
      (suffixed_same primary suffixes scope k h.0 known n own numbered less
      (λ first nums below g d. expression_same primary scope k g known n calls d first nums below)
      (λ first nums below g d. place_same primary scope k g known n calls d first nums below)
      (λ g nums. indices_same suffixes scope k g known n calls own nums less))
  expression_same (Expression.Prefixed at prefix.Negate operand) scope k h known n calls d own numbered less =
      negate_agrees (place_in scope k) n d (sense operand scope) _ _ [] [] (expression_same operand scope k h known n calls (d + 1) own numbered less)
  expression_same (Expression.Prefixed at prefix.Complement operand) scope k h known n calls d own numbered less =
      complement_agrees (place_in scope k) n d (sense operand scope) _ _ [] [] (expression_same operand scope k h known n calls (d + 1) own numbered less)
  expression_same (Expression.Prefixed at prefix.Not operand) scope k h known n calls d own numbered less =
      not_agrees (place_in scope k) n d (sense operand scope) _ _ [] [] (expression_same operand scope k h known n calls (d + 1) own numbered less)
  expression_same (Expression.Prefixed at prefix.Dereference operand) scope k h known n calls d own numbered less =
      contents_agrees (place_in scope k) n d (sense operand scope) (static_shape scope.world k.names operand) [] _ [] h.1
      (expression_same operand scope k h.0 known n calls d own numbered less)
  expression_same (Expression.Prefixed at prefix.AddressOf operand) scope k h known n calls d own numbered less =
      let to = place_same operand scope k h known n calls d own numbered less in
      address_agrees (place_in scope k) n d (sense operand scope) (static_shape scope.world k.names operand) (place_code scope.world k.names operand d own)
      to.shape_is to.target to.placed
  expression_same (Expression.New at new) scope k h known n calls d own numbered less =
      subst (λ z. Agrees (place_in scope k) n d z (new_shape scope.world k.names Shared new)
      (Do (HeapHandle d) ∷ new_code scope.world k.names false new d own)) (new_is new scope)
      (new_same new scope k h known n calls false (shared_in_one new) heap_maker d own numbered less (Do (HeapHandle d) ∷ [])
      (region_to (place_in scope k) n d heap_maker (Do (HeapHandle d) ∷ []) (heap_gives (place_in scope k) n d)))
  expression_same (Expression.UniqueRegion at) scope k h known n calls d own numbered less = stuck_agrees (place_in scope k) n d []
  expression_same (Expression.NewIn at handle new) scope k h known n calls d own numbered less =
      let values = expression_values scope.world k.names handle in
      let behind = own + length values in
      let code = expression_code scope.world k.names handle d own in
      let unique = is_unique_region handle in
      new_in_same (place_in scope k) n d behind scope.world k.names new scope unique (sense handle scope) code
      (new_same new scope k h.1 known n calls (in_one unique new) (in_one_none unique new) (maker_in (in_one unique new) (sense handle scope)) d behind
      (numbered_after k.owned own values (new_values scope.world k.names new) numbered) (omega (arith, less)) code
      (maker_to (place_in scope k) n d unique (in_one unique new) (sense handle scope) (static_shape scope.world k.names handle) code
      (in_one_unique unique new) (λ e. unique_none scope.world k.names handle d own e)
      (expression_same handle scope k h.0 known n calls d own (numbered_first k.owned own values (new_values scope.world k.names new) numbered) less)))
  expression_same (Expression.Chain first others) scope k h known n calls d own numbered less =
      let values = expression_values scope.world k.names first in
      let more = link_values scope.world k.names others in
      links_same others scope k h.1 known n calls d (own + length values) (numbered_after k.owned own values more numbered) (omega (arith, less))
      (sense first scope) (static_shape scope.world k.names first) (expression_code scope.world k.names first d own)
      (expression_same first scope k h.0 known n calls d own (numbered_first k.owned own values more numbered) less)
  expression_same (Expression.AllOf first others) scope k h known n calls d own numbered less =
      let values = expression_values scope.world k.names first in
      let more = all_values scope.world k.names others in
      let behind = own + length values in
      let one = expression_same first scope k h.0 known n calls d own (numbered_first k.owned own values more numbered) less in
      value_agrees (place_in scope k) n d IntShape IntShape _ _ refl tt
      (all_gives (place_in scope k) n d (sense first scope) (senses others scope) (static_shape scope.world k.names first)
      (expression_code scope.world k.names first d own) (all_code scope.world k.names others d behind) one.taken one.looks
      (all_of_same others scope k h.1 known n calls d behind (numbered_after k.owned own values more numbered) (omega (arith, less))))
  expression_same (Expression.AnyOf first others) scope k h known n calls d own numbered less =
      let values = expression_values scope.world k.names first in
      let more = all_values scope.world k.names others in
      let behind = own + length values in
      let one = expression_same first scope k h.0 known n calls d own (numbered_first k.owned own values more numbered) less in
      value_agrees (place_in scope k) n d IntShape IntShape _ _ refl tt
      (any_gives (place_in scope k) n d (sense first scope) (senses others scope) (static_shape scope.world k.names first)
      (expression_code scope.world k.names first d own) (any_code scope.world k.names others d behind) one.taken one.looks
      (any_of_same others scope k h.1 known n calls d behind (numbered_after k.owned own values more numbered) (omega (arith, less))))
  expression_same (Expression.Assign place value) scope k h known n calls d own numbered less =
      let values = expression_values scope.world k.names value in
      let more = expression_values scope.world k.names place in
      let behind = own + length values in
      let to = named_same place scope k h.0 (given_single (static_shape scope.world k.names place) h.1.1) known n calls d behind
      (numbered_after k.owned own values more numbered) (omega (arith, less)) in
      assigned_agrees (place_in scope k) n d (sense place scope) (sense value scope) (static_shape scope.world k.names place)
      (static_shape scope.world k.names value) (expression_code scope.world k.names value d own) (put_code scope.world k.names place d behind)
      to.shape_is to.taken h.1.1 to.stores (expression_same value scope k h.1.0 known n calls d own (numbered_first k.owned own values more numbered) less)
  expression_same _ scope k h known n calls d own numbered less = absurd h

  pub arguments_same : (es : Expressions) (scope : Scope) (k : Known) → TakesAll scope.world k.names es → IsKnown scope k → (n : ℕ)
      → CallsAs scope.world k.program n → (shapes : List Shape) → AllValues shapes → (d own : ℕ)
      → AreNumbered k.owned own (all_values scope.world k.names es) → k.kept ≤ own
      → Passed (place_in scope k) n d (argument_words shapes es) shapes (senses es scope) (arguments_code scope.world k.names shapes es d own)
  arguments_same NoExpressions scope k h known n calls [] words d own numbered less = no_arguments (place_in scope k) n d
  arguments_same NoExpressions scope k h known n calls (s ∷ ss) words d own numbered less = stuck_arguments (place_in scope k) n d 0 (s ∷ ss) []
  arguments_same (MoreExpressions e es) scope k h known n calls [] words d own numbered less =
      stuck_arguments (place_in scope k) n d 0 [] []
  arguments_same (MoreExpressions e es) scope k h known n calls (s ∷ ss) words d own numbered less =
      let values = expression_values scope.world k.names e in
      let more = all_values scope.world k.names es in
      let behind = own + length values in
      more_arguments (place_in scope k) n d (argument_words ss es) s ss (sense e scope) (senses es scope) (static_shape scope.world k.names e)
      (expression_code scope.world k.names e d own) (arguments_code scope.world k.names ss es (d + words_in s) behind) words.0
      (expression_same e scope k h.0 known n calls d own (numbered_first k.owned own values more numbered) less)
      (arguments_same es scope k h.1 known n calls ss words.1 (d + words_in s) behind (numbered_after k.owned own values more numbered) (omega (arith, less)))

  -- each index among suffixes
  indices_same : (suffixes : Suffixes) (scope : Scope) (k : Known) → TakesIndices scope.world k.names suffixes → IsKnown scope k → (n : ℕ)
      → CallsAs scope.world k.program n → (own : ℕ) → AreNumbered k.owned own (suffix_values scope.world k.names suffixes) → k.kept ≤ own
      → IndicesAs (place_in scope k) n scope k.names suffixes own
  indices_same NoSuffixes scope k h known n calls own numbered less = tt
  indices_same (Index index others) scope k h known n calls own numbered less =
      let values = suffix_values scope.world k.names others in
      let more = expression_values scope.world k.names index in (
        λ d. expression_same index scope k h.0 known n calls d (own + length values) (numbered_after k.owned own values more numbered) (omega (arith, less)),
        indices_same others scope k h.1 known n calls own (numbered_first k.owned own values more numbered) less,
      )
  indices_same (Dot f others) scope k h known n calls own numbered less = indices_same others scope k h known n calls own numbered less
  indices_same (Arrow f others) scope k h known n calls own numbered less = indices_same others scope k h known n calls own numbered less

  pub links_same : (links : Links) (scope : Scope) (k : Known) → TakesLinks scope.world k.names links → IsKnown scope k → (n : ℕ)
      → CallsAs scope.world k.program n → (d own : ℕ) → AreNumbered k.owned own (link_values scope.world k.names links) → k.kept ≤ own
      → (left : Sense) (shape : Shape) (code : List Statement) → Agrees (place_in scope k) n d left shape code
      → Agrees (place_in scope k) n d (linked links scope left) (linked_shape scope.world k.names links shape)
      (code ++ links_code scope.world k.names links shape d own)
  links_same NoLinks scope k h known n calls d own numbered less left shape code one =
      subst (λ z. Agrees (place_in scope k) n d left shape z) (sym (append-nil code)) one
  links_same (MoreLinks operator operand others) scope k h known n calls d own numbered less left shape code one =
      let values = expression_values scope.world k.names operand in
      let more = link_values scope.world k.names others in
      let behind = own + length values in
      let right = static_shape scope.world k.names operand in
      let row = expression_code scope.world k.names operand (d + words_in shape) own in
      let rest = links_code scope.world k.names others (operator_shape operator shape right) d behind in
      let both = applied_agrees (place_in scope k) n d operator left (sense operand scope) shape right code row one
      (expression_same operand scope k h.0 known n calls (d + words_in shape) own (numbered_first k.owned own values more numbered) less) in
      subst (λ z. Agrees (place_in scope k) n d (linked others scope (applied operator left (sense operand scope)))
      (linked_shape scope.world k.names others (operator_shape operator shape right)) z)
      (append_assoc code (row ++ operator_code operator shape right d) rest ∙ ap (λ z. code ++ z) (append_assoc row (operator_code operator shape right d)
      rest)) (links_same others scope k h.1 known n calls d behind (numbered_after k.owned own values more numbered) (omega (arith, less))
      (applied operator left (sense operand scope)) (operator_shape operator shape right) (code ++ (row ++ operator_code operator shape right d)) both)

  pub all_of_same : (es : Expressions) (scope : Scope) (k : Known) → TakesAll scope.world k.names es → IsKnown scope k → (n : ℕ)
      → CallsAs scope.world k.program n → (d own : ℕ) → AreNumbered k.owned own (all_values scope.world k.names es) → k.kept ≤ own
      → AllAs (place_in scope k) n d (senses es scope) (all_code scope.world k.names es d own)
  all_of_same NoExpressions scope k h known n calls d own numbered less = all_none (place_in scope k) n d
  all_of_same (MoreExpressions e es) scope k h known n calls d own numbered less =
      let values = expression_values scope.world k.names e in
      let more = all_values scope.world k.names es in
      let behind = own + length values in
      let one = expression_same e scope k h.0 known n calls d own (numbered_first k.owned own values more numbered) less in
      all_more (place_in scope k) n d (sense e scope) (senses es scope) (static_shape scope.world k.names e) (expression_code scope.world k.names e d own)
      (all_code scope.world k.names es d behind) one.taken one.looks
      (all_of_same es scope k h.1 known n calls d behind (numbered_after k.owned own values more numbered) (omega (arith, less)))

  pub any_of_same : (es : Expressions) (scope : Scope) (k : Known) → TakesAll scope.world k.names es → IsKnown scope k → (n : ℕ)
      → CallsAs scope.world k.program n → (d own : ℕ) → AreNumbered k.owned own (all_values scope.world k.names es) → k.kept ≤ own
      → AnyAs (place_in scope k) n d (senses es scope) (any_code scope.world k.names es d own)
  any_of_same NoExpressions scope k h known n calls d own numbered less = any_none (place_in scope k) n d
  any_of_same (MoreExpressions e es) scope k h known n calls d own numbered less =
      let values = expression_values scope.world k.names e in
      let more = all_values scope.world k.names es in
      let behind = own + length values in
      let one = expression_same e scope k h.0 known n calls d own (numbered_first k.owned own values more numbered) less in
      any_more (place_in scope k) n d (sense e scope) (senses es scope) (static_shape scope.world k.names e) (expression_code scope.world k.names e d own)
      (any_code scope.world k.names es d behind) one.taken one.looks
      (any_of_same es scope k h.1 known n calls d behind (numbered_after k.owned own values more numbered) (omega (arith, less)))

  -- what is made, in the region of a handle
  pub new_same : (new : Made) (scope : Scope) (k : Known) → TakesNew scope.world k.names new → IsKnown scope k → (n : ℕ) → CallsAs scope.world k.program n
      → (unique : Bool) → IsInOne unique new → (to : Act Maker) (d own : ℕ) → AreNumbered k.owned own (new_values scope.world k.names new) → k.kept ≤ own
      → (code : List Statement) → GivesTo (place_in scope k) n d unique to code
      → Agrees (place_in scope k) n d (new_by new scope unique to) (new_shape scope.world k.names (owner_in unique) new)
      (code ++ new_code scope.world k.names unique new d own)
  new_same (One value) scope k h known n calls unique one to d own numbered less code handle =
      made_agrees (place_in scope k) n d own unique to (sense value scope) (static_shape scope.world k.names value) (whole_values scope.world k.names value)
      (expression_values scope.world k.names value) code (whole_code scope.world k.names value (d + 1) own)
      (expression_code scope.world k.names value (d + 1) own) (TakesWhole scope.world k.names value)
      (Takes scope.world k.names value) known.world.unions known.world.structs h.0
      less h.1 numbered handle (λ g nums. whole_same value scope k g known n calls (d + 1) own nums)
      (λ g nums. expression_same value scope k g known n calls (d + 1) own nums less)
  new_same (Array index count element) scope k h known n calls unique one to d own numbered less code handle =
      let w = scope.world in
      let inner = element_names index.text k.names in
      let counted = expression_values w k.names count in
      let first = own + length counted in
      let values = values_by (static_shape w inner element) (whole_values w inner element) (expression_values w inner element) in
      let shape = static_shape w inner element in
      let count_code = expression_code w k.names count (d + 1) own in
      let whole = whole_code w inner element (d + 3) first in
      let word = expression_code w inner element (d + 3) first in
      made_array (place_in scope k) n index.text d first to (sense count scope) (λ a. sense element (element_scope scope index.text a))
      (static_shape w k.names count) shape (whole_values w inner element) (expression_values w inner element) code count_code whole word
      (TakesWhole w inner element) (Takes w inner element) known.world.structs h.1.0 (omega (arith, less)) h.1.1
      (numbered_after k.owned own counted values numbered)
      (to_region (place_in scope k) n d to code (subst (λ z. GivesTo (place_in scope k) n d z to code) one handle))
      (expression_same count scope k h.0 known n calls (d + 1) own (numbered_first k.owned own counted values numbered) less)
      (λ g nums j a below.
      whole_same element (element_scope scope index.text a) (known_inside scope k index.text d) g (inside_known scope k index.text d a known) j
      (calls_less w k.program n j below calls) (d + 3) first nums)
      (λ g nums j a below.
      expression_same element (element_scope scope index.text a) (known_inside scope k index.text d) g (inside_known scope k index.text d a known) j
      (calls_less w k.program n j below calls) (d + 3) first nums (omega (arith, less)))

  -- a struct, which has its static shape
  pub whole_same : (e : Expression) (scope : Scope) (k : Known) → TakesWhole scope.world k.names e → IsKnown scope k → (n : ℕ)
      → CallsAs scope.world k.program n → (d value : ℕ) → AreNumbered k.owned value (whole_values scope.world k.names e)
      → IsWholeAs (place_in scope k) n d value (sense e scope) (static_shape scope.world k.names e) (whole_code scope.world k.names e d value)
  whole_same (Expression.Call name arguments) scope k h known n calls d value numbered =
      let made = struct_is_made scope.world.unions scope.world.structs name.text known.world.structs in
      let parts = parts_of scope.world.structs name.text in
      call_whole (place_in scope k) n d value name.text (senses arguments scope) (whole_code scope.world k.names (Expression.Call name arguments) d value) h.0
      (λ tag.
      made_whole (place_in scope k) n d value name.text (senses arguments scope) (members_code scope.world k.names parts arguments d 0 0 (suc value))
      known.world.structs tag (numbered_one k.owned value (StructShape name.text) (made_values scope.world k.names parts arguments) numbered)
      (members_same arguments parts scope k h.1 known n calls d value 0 (extent_of scope.world (StructShape name.text)).size (no_extent name.text) (suc value)
      made.members (have_cells scope.world.unions scope.world.structs parts known.world.structs made.members)
      (subst (λ z. z.size ≤ (extent_of scope.world (StructShape name.text)).size) made.extent (omega arith)) (omega arith)
      (numbered_more k.owned value (StructShape name.text) (made_values scope.world k.names parts arguments) numbered)))
  whole_same (Expression.MakeUnion tag member held) scope k h known n calls d value numbered =
      let values = expression_values scope.world k.names held in
      union_whole (place_in scope k) n d value tag.text member.text (sense held scope) (static_shape scope.world k.names held)
      (expression_code scope.world k.names held (d + 1) (suc value)) known.world.unions h.0 (numbered_one k.owned value (UnionShape tag.text) values numbered)
      h.1.0 (expression_same held scope (known_keeping k (suc value)) h.1.1 (keeping_known scope k (suc value) known) n calls (d + 1) (suc value)
      (numbered_more k.owned value (UnionShape tag.text) values numbered) (omega arith))
  whole_same (Expression.Grouped at inner) scope k h known n calls d value numbered = whole_same inner scope k h known n calls d value numbered
  whole_same (Expression.Variable name) scope k h known n calls d value numbered =
      let s = static_shape scope.world k.names (Expression.Variable name) in
      whole_place (place_in scope k) n d value (sense (Expression.Variable name) scope) s
      (place_code scope.world k.names (Expression.Variable name) d (suc value)) known.world.structs h.1 (numbered_one k.owned value s [] numbered)
      (variable_placed (keeping (place_in scope k) value) n d name.text known.locals known.words known.world.globals known.world.structs)
  whole_same (Expression.Suffixed primary suffixes) scope k h known n calls d value numbered =
      let s = static_shape scope.world k.names (Expression.Suffixed primary suffixes) in
      let values = suffix_values scope.world k.names suffixes ++ expression_values scope.world k.names primary in
      let still = keeping_known scope k value known in
      whole_place (place_in scope k) n d value (sense (Expression.Suffixed primary suffixes) scope) s
      (place_code scope.world k.names (Expression.Suffixed primary suffixes) d (suc value)) known.world.structs h.1
      (numbered_one k.owned value s values numbered)
      (suffixes_placed (keeping (place_in scope k) value) n d (sense (Expression.Suffixed primary suffixes) scope) s
      (primary_left scope.world k.names primary suffixes (suc value)) (left_shape scope.world k.names primary suffixes (suc value))
      (suffixed_same primary suffixes scope (known_keeping k value) h.0 still n (suc value) (numbered_more k.owned value s values numbered) (omega arith)
      (λ first nums below g d. expression_same primary scope (known_keeping k value) g still n calls d first nums below)
      (λ first nums below g d. place_same primary scope (known_keeping k value) g still n calls d first nums below)
      (λ g nums. indices_same suffixes scope (known_keeping k value) g still n calls (suc value) nums (omega arith))))
  whole_same (Expression.Prefixed at prefix.Dereference operand) scope k h known n calls d value numbered =
      let s = static_shape scope.world k.names (Expression.Prefixed at prefix.Dereference operand) in
      let values = expression_values scope.world k.names operand in
      whole_place (place_in scope k) n d value (sense (Expression.Prefixed at prefix.Dereference operand) scope) s
      (place_code scope.world k.names (Expression.Prefixed at prefix.Dereference operand) d (suc value)) known.world.structs h.1
      (numbered_one k.owned value s values numbered)
      (contents_are (keeping (place_in scope k) value) n d (sense operand scope) (static_shape scope.world k.names operand)
      (expression_code scope.world k.names operand d (suc value))
      (expression_same operand scope (known_keeping k value) h.0 (keeping_known scope k value known) n calls d (suc value)
      (numbered_more k.owned value s values numbered) (omega arith)))
  whole_same (Expression.Prefixed at _ operand) scope k h known n calls d value numbered = absurd h.0
  whole_same _ scope k h known n calls d value numbered = absurd h

  pub members_same : (es : Expressions) (ps : List Part) (scope : Scope) (k : Known) → TakesMade scope.world k.names ps es → IsKnown scope k → (n : ℕ)
      → CallsAs scope.world k.program n → (d value cells total : ℕ) (so_far : Extent) (own : ℕ)
      → AreObjects scope.world.unions scope.world.structs (part_shapes ps)
      → AllHaveCells scope.world.unions scope.world.structs ps → (laid_out (extent_of scope.world) so_far ps).size ≤ total → value < own
      → AreNumbered k.owned own (made_values scope.world k.names ps es)
      → MembersGo (place_in scope k) n d value cells total so_far.size ps (converted_all scope.world (part_shapes ps) (senses es scope))
      (members_code scope.world k.names ps es d cells so_far.size own)
  members_same NoExpressions [] scope k h known n calls d value cells total so_far own objects have room less numbered =
      no_members (place_in scope k) n d value cells total so_far.size
  members_same (MoreExpressions e es) [] scope k h known n calls d value cells total so_far own objects have room less numbered = absurd h
  members_same NoExpressions (p ∷ ps) scope k h known n calls d value cells total so_far own objects have room less numbered = absurd h
  members_same (MoreExpressions e es) (p ∷ ps) scope k h known n calls d value cells total so_far own objects have room less numbered =
      let extent = extent_of scope.world p.shape in
      let at : ℕ = rounded_up so_far.size extent.align in
      let next : Extent = record { size = at + extent.size; align = max so_far.align extent.align } in
      let values = values_by p.shape (whole_values scope.world k.names e) (expression_values scope.world k.names e) in
      let others = made_values scope.world k.names ps es in
      more_members (place_in scope k) n d value cells total so_far p ps ((sense e scope).value >>= converted scope.world p.shape (sense e scope).shape)
      (converted_all scope.world (part_shapes ps) (senses es scope))
      (member_code scope.world p.shape (static_shape scope.world k.names e) d cells at (whole_code scope.world k.names e (d + 1) own)
      (expression_code scope.world k.names e (d + 1) own))
      (members_code scope.world k.names ps es d (cells + length (cells_of scope.world p.shape)) (at + extent.size) (own + length values)) have room
      (member_same (place_in scope k) n d value cells at own p.shape (sense e scope) (static_shape scope.world k.names e)
      (whole_values scope.world k.names e) (expression_values scope.world k.names e) (whole_code scope.world k.names e (d + 1) own)
      (expression_code scope.world k.names e (d + 1) own) (TakesWhole scope.world k.names e) (Takes scope.world k.names e) known.world.structs objects.0
      less h.0 (numbered_first k.owned own values others numbered) (λ g nums. (whole_same e scope k g known n calls (d + 1) own nums).whole)
      (λ g nums. expression_same e scope (known_keeping k (suc value)) g (keeping_known scope k (suc value) known) n calls (d + 1) own nums
      (omega (arith, less))))
      (members_same es ps scope k h.1 known n calls d value (cells + length (cells_of scope.world p.shape)) total next (own + length values) objects.1 have.1
      room (omega (arith, less)) (numbered_after k.owned own values others numbered))
