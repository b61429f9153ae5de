-- What the code of an expression takes: temporaries by its nodes, and operations by its tokens.
use Rattle.std.proofs.Common.{ℕ, suc, ◌+◌, ◌*◌, ◌%◌, ◌≤◌, List, [], ◌∷◌, ◌++◌, length, arith}
use Rattle.cyc_tree.specs.declared.expression.Prefix.TheVariants as prefix
use Rattle.cyc_tree.specs.Tree.{Expression, Expressions, NoExpressions, MoreExpressions, Links, NoLinks, MoreLinks, Suffixes, NoSuffixes, Index, Dot, Arrow}
use Rattle.cyc_tree.specs.Tree.{Made, One, Array}
use Rattle.source_meaning.specs.Shapes.{Shape, Part, part_shape, parts_of}
use Rattle.source_meaning.specs.Sizes.{rounded_up}
use Rattle.source_meaning.specs.Steps.{World}
use Rattle.source_meaning.specs.Operators.{operator_shape}
use Rattle.source_meaning.specs.Places.{bound_to, string_at}
use Rattle.source_meaning.specs.Conversions.{cells_of}
use Rattle.core_meaning.specs.Core.{Statement, Do, If, Constant, HeapHandle, NullPointer, OwnAddress, NoStatements}
use Rattle.source_lowering.specs.Layouts.{extent_of}
use Rattle.source_lowering.specs.Lowered.{Named, local_named, static_shape, values_by, expression_values, whole_values, all_of, prefix_shape, suffixed_shape}
use Rattle.source_lowering.specs.Lowered.{element_names}
use Rattle.source_lowering.specs.Order.{indices_in, indices_in_all, indices_in_links, indices_in_made, indices_in_suffixes}
use Rattle.source_lowering.specs.Lowered.{suffix_values, Left, left_of, member_at, member_behind, element_at, suffixed_code, word_code, call_parameters}
use Rattle.source_lowering.specs.Lowered.{call_shape, expression_code, place_code, put_code, links_code, all_code, any_code, arguments_code, new_code}
use Rattle.source_lowering.specs.Lowered.{whole_code, members_code, member_number}
use Rattle.source_lowering.specs.Lowerable.{TakesMembers, TakesSuffixes, TakesPlace, Takes, TakesAll, TakesLinks, TakesNew, TakesWhole, TakesMade}
use Rattle.source_lowering.specs.Bounds.{tokens_of, made_tokens}
use Rattle.source_lowering.specs.Bounds.{argument_tokens, tested_tokens, link_tokens, suffix_tokens}
use Rattle.source_lowering.proofs.bounds.Nodes.{expression_count, made_count, argument_count, joined_count, link_count, suffix_count}
use Rattle.source_lowering.proofs.bounds.Counted.{one_node, many_tokens}
use Rattle.source_lowering.proofs.bounds.Costs.{no_costs, both_cost, does_one, sized}
use Rattle.source_lowering.proofs.bounds.PartCosts.{IsCheap, ArePassed, get_costs, put_costs, conversion_costs, operator_costs, tested_word, results_few}
use Rattle.source_lowering.proofs.bounds.PrefixCosts.{IsPointed, negate_costs, complement_costs, inverted_costs, contents_costs, loaded_costs}
use Rattle.source_lowering.specs.Members.{words_in}
use Rattle.source_lowering.proofs.bounds.ValueCosts.{words_few, kept_costs, count_costs, text_costs}
use Rattle.source_lowering.proofs.bounds.SuffixCosts.{IsLeft, more_left, member_left, dot_left, arrow_left, element_left, pointed_left, stored_left}
use Rattle.source_lowering.proofs.bounds.MadeCosts.{IsWhole, IsMade, read_costs, union_costs, member_costs, made_costs, heap_costs, array_costs}
use Rattle.source_lowering.proofs.bounds.OperandCosts.{tested_costs, IsJoined, tested_less, these_costs, those_costs, AreArguments, one_cheap, called_cheap}
use Rattle.source_lowering.proofs.bounds.OperandCosts.{variable_costs}
use Rattle.std.proofs.Common.{Bool, false}
use Rattle.source_meaning.specs.Expressions.{is_unique_region}

-- ---- all of them

mutual
  -- a value is stored; it takes three temporaries at most
  pub stores_costs : (w : World) (names : List Named) (e : Expression) (t p d own : ℕ) → TakesPlace w names e
      → d + 3 + 4 * expression_count e ≤ t
      → 3 * expression_count e ≤ p → IsCheap t p (indices_in e) (tokens_of e) (put_code w names e d own)
  stores_costs w names (Expression.Variable name) t p d own h f g =
      one_cheap t p 1 4 _ (put_costs t p d (local_named names name.text) (bound_to w.globals name.text) (omega (arith, f))) (omega arith) (omega arith)
  stores_costs w names (Expression.Grouped at inner) t p d own h f g =
      let a = stores_costs w names inner t p d own h f g in let l = a.less in
      one_cheap t p (2 + tokens_of inner) a.operations _ a.costs (omega (arith, l)) (omega arith)
  stores_costs w names (Expression.Prefixed at prefix.Dereference operand) t p d own h f g =
      let s = prefix_shape prefix.Dereference (static_shape w names operand) in
      let few = words_few s in let at = d + words_in s in
      let a = expression_costs w names operand t p at own h (omega (arith, f, few)) (omega (arith, g)) in
      let one = contents_costs w t p at (tokens_of operand) (static_shape w names operand) (expression_code w names operand at own)
      (omega (arith, f, few)) a in
      let l = one.less in
      one_cheap t p (1 + tokens_of operand) (one.operations + 3) _ (both_cost t p _ one.operations _ 3 _ _ one.costs
      (kept_costs s t p at d 0 0 (omega (arith, f, few)) (omega (arith, f)))) (omega (arith, l)) (omega arith)
  stores_costs w names (Expression.Suffixed primary suffixes) t p d own h f g =
      let s = suffixed_shape w suffixes (static_shape w names primary) in
      let few = words_few s in let all = own + length (suffix_values w names suffixes) in
      stored_left t p (expression_count primary + suffix_count suffixes) (tokens_of primary + suffix_tokens suffixes) (d + words_in s) d _
      (omega (arith, f, few)) (omega (arith, f)) (primary_costs w names suffixes (static_shape w names primary) (λ e. expression_code w names primary e all)
      (λ e. place_code w names primary e all) primary t p (expression_count primary) (tokens_of primary) (indices_in primary) own
      (one_node primary) h (omega (arith, g))
      (λ k d r. expression_costs w names primary t p d all k (omega (arith, r, f)) (omega (arith, g)))
      (λ k d r. place_costs w names primary t p d all k (omega (arith, r, f)) (omega (arith, g))))
  stores_costs w names _ t p d own h f g = absurd h

  -- a pointer to a place
  pub place_costs : (w : World) (names : List Named) (e : Expression) (t p d own : ℕ) → TakesPlace w names e
      → d + 4 * expression_count e ≤ t
      → 3 * expression_count e ≤ p → IsPointed t p (indices_in e) (tokens_of e) (place_code w names e d own)
  place_costs w names (Expression.Variable name) t p d own h f g = variable_costs w names name.text t p d (omega (arith, f))
  place_costs w names (Expression.Grouped at inner) t p d own h f g =
      let a = place_costs w names inner t p d own h f g in let l = a.less in
      record { operations = a.operations; costs = a.costs; less = omega (arith, l) }
  place_costs w names (Expression.Prefixed at prefix.Dereference operand) t p d own h f g =
      contents_costs w t p d (tokens_of operand) (static_shape w names operand) (expression_code w names operand d own) (omega (arith, f))
      (expression_costs w names operand t p d own h (omega (arith, f)) (omega (arith, g)))
  place_costs w names (Expression.Suffixed primary suffixes) t p d own h f g =
      let all = own + length (suffix_values w names suffixes) in
      pointed_left t p (expression_count primary + suffix_count suffixes) (tokens_of primary + suffix_tokens suffixes) d _ (omega (arith, f))
      (primary_costs w names suffixes (static_shape w names primary) (λ e. expression_code w names primary e all)
      (λ e. place_code w names primary e all) primary t p (expression_count primary) (tokens_of primary) (indices_in primary) own
      (one_node primary) h (omega (arith, g))
      (λ k d r. expression_costs w names primary t p d all k (omega (arith, r, f)) (omega (arith, g)))
      (λ k d r. place_costs w names primary t p d all k (omega (arith, r, f)) (omega (arith, g))))
  place_costs w names _ t p d own h f g = absurd h

  pub expression_costs : (w : World) (names : List Named) (e : Expression) (t p d own : ℕ) → Takes w names e
      → d + 4 * expression_count e ≤ t
      → 3 * expression_count e ≤ p → IsCheap t p (indices_in e) (tokens_of e) (expression_code w names e d own)
  expression_costs w names (Expression.Number at value suffix) t p d own h f g =
      one_cheap t p 1 1 _ (does_one t p (Constant d value) (omega (arith, f))) (omega arith) (omega arith)
  expression_costs w names (Expression.Character at byte) t p d own h f g =
      one_cheap t p 1 1 _ (does_one t p (Constant d (byte % 256)) (omega (arith, f))) (omega arith) (omega arith)
  expression_costs w names (Expression.Null at) t p d own h f g = one_cheap t p 1 1 _ (does_one t p (NullPointer d) (omega (arith, f))) (omega arith)
      (omega arith)
  expression_costs w names (Expression.Text at bytes) t p d own h f g =
      one_cheap t p 1 3 _ (text_costs t p d (string_at w.strings at) (omega (arith, f))) (omega arith) (omega arith)
  expression_costs w names (Expression.HeapRegion at) t p d own h f g = one_cheap t p 1 1 _ (does_one t p (HeapHandle d) (omega (arith, f))) (omega arith)
      (omega arith)
  expression_costs w names (Expression.Variable name) t p d own h f g =
      one_cheap t p 1 4 _ (get_costs t p d (local_named names name.text) (bound_to w.globals name.text) (omega (arith, f))) (omega arith) (omega arith)
  expression_costs w names (Expression.Call name arguments) t p d own h f g =
      let few = results_few (call_shape w name.text) in
      called_cheap w name.text (call_parameters w name.text) arguments (arguments_code w names (call_parameters w name.text) arguments d own) t p d
      (omega (arith, f, few))
      (omega (arith, f)) (omega (arith, g))
      (arguments_costs w names (call_parameters w name.text) arguments t p d own h.1 (omega (arith, f)) (omega (arith, g)))
  expression_costs w names (Expression.Grouped at inner) t p d own h f g =
      let a = expression_costs w names inner t p d own h f g in let l = a.less in
      one_cheap t p (2 + tokens_of inner) a.operations _ a.costs (omega (arith, l)) (omega arith)
  expression_costs w names (Expression.Prefixed at prefix.Negate operand) t p d own h f g =
      negate_costs w t p d (tokens_of operand) (static_shape w names operand) (expression_code w names operand (d + 1) own)
      (expression_code w names operand d own) (place_code w names operand d own) (omega (arith, f))
      (expression_costs w names operand t p (d + 1) own h (omega (arith, f)) (omega (arith, g)))
  expression_costs w names (Expression.Prefixed at prefix.Complement operand) t p d own h f g =
      complement_costs w t p d (tokens_of operand) (static_shape w names operand) (expression_code w names operand (d + 1) own)
      (expression_code w names operand d own) (place_code w names operand d own) (omega (arith, f))
      (expression_costs w names operand t p (d + 1) own h (omega (arith, f)) (omega (arith, g)))
  expression_costs w names (Expression.Prefixed at prefix.Not operand) t p d own h f g =
      inverted_costs w t p d (tokens_of operand) (static_shape w names operand) (expression_code w names operand (d + 1) own)
      (expression_code w names operand d own) (place_code w names operand d own) (omega (arith, f))
      (expression_costs w names operand t p (d + 1) own h (omega (arith, f)) (omega (arith, g)))
  expression_costs w names (Expression.Prefixed at prefix.Dereference operand) t p d own h f g =
      loaded_costs w t p d (tokens_of operand) (static_shape w names operand) (expression_code w names operand (d + 1) own)
      (expression_code w names operand d own) (place_code w names operand d own) (omega (arith, f))
      (expression_costs w names operand t p d own h.0 (omega (arith, f)) (omega (arith, g)))
  expression_costs w names (Expression.Prefixed at prefix.AddressOf operand) t p d own h f g =
      let a = place_costs w names operand t p d own h (omega (arith, f)) (omega (arith, g)) in
      let l = a.less in
      one_cheap t p (1 + tokens_of operand) a.operations _ a.costs (omega (arith, l)) (omega arith)
  expression_costs w names (Expression.NumElts at operand) t p d own h f g =
      let a = expression_costs w names operand t p d own h (omega (arith, f)) (omega (arith, g)) in let l = a.less in
      one_cheap t p (3 + tokens_of operand) (a.operations + 3) _ (both_cost t p _ a.operations _ 3 _ _ a.costs (count_costs t p d (omega (arith, f))))
      (omega (arith, l)) (omega arith)
  expression_costs w names (Expression.Suffixed primary suffixes) t p d own h f g =
      let all = own + length (suffix_values w names suffixes) in
      (primary_costs w names suffixes (static_shape w names primary) (λ e. expression_code w names primary e all)
      (λ e. place_code w names primary e all) primary t p (expression_count primary) (tokens_of primary) (indices_in primary) own
      (one_node primary) h.0 (omega (arith, g))
      (λ k d r. expression_costs w names primary t p d all k (omega (arith, r, f)) (omega (arith, g)))
      (λ k d r. place_costs w names primary t p d all k (omega (arith, r, f)) (omega (arith, g)))).value d (omega (arith, f))
  expression_costs w names (Expression.New at new) t p d own h f g =
      heap_costs t p d (made_tokens new) _ (omega (arith, f)) (new_costs w names false new t p d own h (omega (arith, f)) (omega (arith, g)))
  expression_costs w names (Expression.UniqueRegion at) t p d own h f g = one_cheap t p 1 0 [] (no_costs t p) (omega arith) (omega arith)
  expression_costs w names (Expression.NewIn at handle new) t p d own h f g =
      let a = expression_costs w names handle t p d own h.0 (omega (arith, f)) (omega (arith, g)) in
      let b = new_costs w names (is_unique_region handle) new t p d (own + length (expression_values w names handle)) h.1 (omega (arith, f))
      (omega (arith, g)) in
      let l = a.less in let k = b.less in
      one_cheap t p (3 + (tokens_of handle + made_tokens new)) (a.operations + b.operations) _ (both_cost t p _ a.operations _ b.operations _ _ a.costs b.costs)
      (omega (arith, l, k)) (omega arith)
  expression_costs w names (Expression.Chain first others) t p d own h f g =
      let a = expression_costs w names first t p d own h.0 (omega (arith, f)) (omega (arith, g)) in
      let b = links_costs w names others (static_shape w names first) t p d (own + length (expression_values w names first)) h.1 (omega (arith, f))
      (omega (arith, g)) in
      let l = a.less in let k = b.less in
      one_cheap t p (tokens_of first + link_tokens others) (a.operations + b.operations) _ (both_cost t p _ a.operations _ b.operations _ _ a.costs b.costs)
      (omega (arith, l, k)) (omega arith)
  expression_costs w names (Expression.AllOf first others) t p d own h f g =
      let n = one_node first in
      let next = own + length (expression_values w names first) in
      let a = expression_costs w names first t p d own h.0 (omega (arith, f)) (omega (arith, g)) in
      let b = all_costs w names others t p d next h.1 (omega (arith, f)) (omega (arith, g)) in
      tested_costs t p d (tokens_of first) (tested_tokens others) b.operations (static_shape w names first) (expression_code w names first d own)
      (all_code w names others d next) (omega (arith, f, n)) a b.costs (tested_less others b.operations b.less)
  expression_costs w names (Expression.AnyOf first others) t p d own h f g =
      let n = one_node first in
      let next = own + length (expression_values w names first) in
      let a = expression_costs w names first t p d own h.0 (omega (arith, f)) (omega (arith, g)) in
      let b = any_costs w names others t p d next h.1 (omega (arith, f)) (omega (arith, g)) in
      tested_costs t p d (tokens_of first) (tested_tokens others) b.operations (static_shape w names first) (expression_code w names first d own)
      (any_code w names others d next) (omega (arith, f, n)) a b.costs (tested_less others b.operations b.less)
  expression_costs w names (Expression.Assign place value) t p d own h f g =
      let n = one_node value in
      let a = expression_costs w names value t p d own h.1.0 (omega (arith, f)) (omega (arith, g)) in
      let b = stores_costs w names place t p d (own + length (expression_values w names value)) h.0 (omega (arith, f, n)) (omega (arith, g)) in
      let l = a.less in let k = b.less in
      one_cheap t p (tokens_of place + (1 + tokens_of value)) (a.operations + (8 + b.operations)) _
      (both_cost t p _ a.operations _ (8 + b.operations) _ _ a.costs
      (both_cost t p _ 8 _ b.operations _ _ (conversion_costs w t p d (static_shape w names place) (static_shape w names value) (omega (arith, f, n))) b.costs))
      (omega (arith, l, k)) (omega arith)
  expression_costs w names _ t p d own h f g = absurd h

  -- suffixes on what stands on their left
  pub suffixes_costs : (w : World) (names : List Named) (suffixes : Suffixes) (left : Left) (t p m n m' n' l l' own : ℕ)
      → TakesMembers w names suffixes left.shape → 3 * suffix_count suffixes ≤ p → m + suffix_count suffixes ≤ m' → n + suffix_tokens suffixes ≤ n'
      → l + indices_in_suffixes suffixes ≤ l' → IsLeft t p m l n left
      → IsLeft t p m' l' n' (suffixed_code w names suffixes left own)
  suffixes_costs w names NoSuffixes left t p m n m' n' l l' own h g e k i one = more_left t p m n m' n' left (omega (arith, e)) (omega (arith, k))
      (omega (arith, i)) one
  suffixes_costs w names (Index index others) left t p m n m' n' l l' own h g e k i one =
      let first = own + length (suffix_values w names others) in
      suffixes_costs w names others (element_at w left.shape (λ d. expression_code w names index d first) left.value) t p
      (m + (1 + expression_count index)) (n + (2 + tokens_of index)) m' n' (indices_in index + l) l' own h.1.1.1 (omega (arith, g)) (omega (arith, e))
      (omega (arith, k)) (omega (arith, i))
      (element_left w left.shape (λ d. expression_code w names index d first) left.value t p m n (expression_count index) (tokens_of index) one.enough
      (λ d f. expression_costs w names index t p d first h.1.0 (omega (arith, f)) (omega (arith, g))) one.value)
  suffixes_costs w names (Dot f others) left t p m n m' n' l l' own h g e k i one =
      suffixes_costs w names others (member_at w left.shape left.pointer left.cells left.bytes f.text) t p (m + 1) (n + 2) m' n' l l' own h.1
      (omega (arith, g)) (omega (arith, e)) (omega (arith, k)) (omega (arith, i)) (dot_left w left f.text t p m n one)
  suffixes_costs w names (Arrow f others) left t p m n m' n' l l' own h g e k i one =
      suffixes_costs w names others (member_behind w left f.text) t p (m + 1) (n + 2) m' n' l l' own h.1.1 (omega (arith, g)) (omega (arith, e))
      (omega (arith, k)) (omega (arith, i)) (arrow_left w left f.text t p m n one.enough one.value)

  -- suffixes on a primary expression
  pub primary_costs : (w : World) (names : List Named) (suffixes : Suffixes) (s : Shape) (value pointer : ℕ → List Statement) (primary : Expression)
      (t p m n l own : ℕ) → 1 ≤ m → TakesSuffixes w names suffixes s (Takes w names primary) (TakesPlace w names primary)
      → 3 * suffix_count suffixes ≤ p
      → (Takes w names primary → (d : ℕ) → d + 4 * m ≤ t → IsCheap t p l n (value d))
      → (TakesPlace w names primary → (d : ℕ) → d + 4 * m ≤ t → IsPointed t p l n (pointer d))
      → IsLeft t p (m + suffix_count suffixes) (indices_in_suffixes suffixes + l) (n + suffix_tokens suffixes)
      (suffixed_code w names suffixes (left_of s value pointer) own)
  primary_costs w names NoSuffixes s value pointer primary t p m n l own enough h g as_value as_place = absurd h
  primary_costs w names (Index index others) s value pointer primary t p m n l own enough h g as_value as_place =
      let first = own + length (suffix_values w names others) in
      suffixes_costs w names others (element_at w s (λ d. expression_code w names index d first) value) t p
      (m + (1 + expression_count index)) (n + (2 + tokens_of index)) (m + (1 + (expression_count index + suffix_count others)))
      (n + (2 + (tokens_of index + suffix_tokens others))) (indices_in index + l) (indices_in_suffixes others + indices_in index + l) own h.1.1.1
      (omega (arith, g)) (omega arith) (omega arith) (omega arith)
      (element_left w s (λ d. expression_code w names index d first) value t p m n (expression_count index) (tokens_of index) enough
      (λ d r. expression_costs w names index t p d first h.1.0 (omega (arith, r)) (omega (arith, g))) (as_value h.0))
  primary_costs w names (Dot f others) s value pointer primary t p m n l own enough h g as_value as_place =
      suffixes_costs w names others (member_at w s pointer 0 0 f.text) t p (m + 1) (n + 2) (m + (1 + suffix_count others)) (n + (2 + suffix_tokens others)) l
      (indices_in_suffixes others + l) own
      h.1.1 (omega (arith, g)) (omega arith) (omega arith) (omega arith) (member_left w s pointer 0 0 f.text t p m n enough
      (λ d r. let a = as_place h.0 d r in let l = a.less in record { operations = a.operations; costs = a.costs; less = omega (arith, l) }))
  primary_costs w names (Arrow f others) s value pointer primary t p m n l own enough h g as_value as_place =
      let left : Left = left_of s value pointer in
      suffixes_costs w names others (member_behind w left f.text) t p (m + 1) (n + 2) (m + (1 + suffix_count others)) (n + (2 + suffix_tokens others)) l
      (indices_in_suffixes others + l) own
      h.1.1 (omega (arith, g)) (omega arith) (omega arith) (omega arith) (arrow_left w left f.text t p m n enough (as_value h.0))

  pub arguments_costs : (w : World) (names : List Named) (shapes : List Shape) (es : Expressions) (t p d own : ℕ) → TakesAll w names es
      → d + 4 * argument_count es ≤ t → 3 * argument_count es ≤ p → AreArguments t p (indices_in_all es) es (arguments_code w names shapes es d own)
  arguments_costs w names [] es t p d own h f g = let n = many_tokens es in record {
    operations = 0;
    costs = sized (no_costs t p) (omega arith);
    less = omega (arith, n);
  }
  arguments_costs w names (s ∷ ss) NoExpressions t p d own h f g = record { operations = 0; costs = sized (no_costs t p) (omega arith); less = omega arith }
  arguments_costs w names (s ∷ ss) (MoreExpressions e es) t p d own h f g =
      let n = one_node e in
      let a = expression_costs w names e t p d own h.0 (omega (arith, f)) (omega (arith, g)) in
      let few = words_few s in
      let b = arguments_costs w names ss es t p (d + words_in s) (own + length (expression_values w names e)) h.1 (omega (arith, f, n, few))
      (omega (arith, g)) in
      let l = a.less in let k = b.less in
      record {
        operations = a.operations + (8 + b.operations);
        costs = sized (both_cost t p _ a.operations _ (8 + b.operations) _ _ a.costs (both_cost t p _ 8 _ b.operations _ _
            (conversion_costs w t p d s (static_shape w names e) (omega (arith, f, n))) b.costs)) (omega arith);
        less = omega (arith, l, k);
      }

  pub links_costs : (w : World) (names : List Named) (links : Links) (left : Shape) (t p d own : ℕ) → TakesLinks w names links
      → d + 4 * link_count links ≤ t → 3 * link_count links ≤ p
      → ArePassed t p (indices_in_links links) (link_tokens links) (links_code w names links left d own)
  links_costs w names NoLinks left t p d own h f g = record { operations = 0; costs = sized (no_costs t p) (omega arith); less = omega arith }
  links_costs w names (MoreLinks operator operand others) left t p d own h f g =
      let few = words_few left in
      let a = expression_costs w names operand t p (d + words_in left) own h.0 (omega (arith, f, few)) (omega (arith, g)) in
      let b = links_costs w names others (operator_shape operator left (static_shape w names operand)) t p d
      (own + length (expression_values w names operand)) h.1 (omega (arith, f)) (omega (arith, g)) in
      let l = a.less in let k = b.less in
      record {
        operations = a.operations + (3 + b.operations);
        costs = sized (both_cost t p _ a.operations _ (3 + b.operations) _ _ a.costs (both_cost t p _ 3 _ b.operations _ _
            (operator_costs t p d operator left (static_shape w names operand) (omega (arith, f))) b.costs)) (omega arith);
        less = omega (arith, l, k);
      }

  pub all_costs : (w : World) (names : List Named) (es : Expressions) (t p d own : ℕ) → TakesAll w names es → d + 4 * joined_count es ≤ t
      → 3 * joined_count es ≤ p → IsJoined t p (indices_in_all es) es (all_code w names es d own)
  all_costs w names NoExpressions t p d own h f g = record { operations = 0; costs = sized (no_costs t p) (omega arith); less = omega arith }
  all_costs w names (MoreExpressions e es) t p d own h f g =
      let a = expression_costs w names e t p d own h.0 (omega (arith, f)) (omega (arith, g)) in
      let b = all_costs w names es t p d (own + length (expression_values w names e)) h.1 (omega (arith, f)) (omega (arith, g)) in
      let l = a.less in let k = b.less in
      record {
        operations = 1 + (a.operations + 3) + b.operations;
        costs = sized (both_cost t p _ (1 + (a.operations + 3)) _ b.operations
            (If d (all_of (expression_code w names e d own ++ word_code (static_shape w names e) d)) NoStatements ∷ []) _
            (these_costs t p d (a.operations + 3) (expression_code w names e d own ++ word_code (static_shape w names e) d) (omega (arith, f))
            (both_cost t p _ a.operations _ 3 _ _ a.costs (tested_word t p d (static_shape w names e) (omega (arith, f)))))
            b.costs) (omega arith);
        less = omega (arith, l, k);
      }

  pub any_costs : (w : World) (names : List Named) (es : Expressions) (t p d own : ℕ) → TakesAll w names es → d + 4 * joined_count es ≤ t
      → 3 * joined_count es ≤ p → IsJoined t p (indices_in_all es) es (any_code w names es d own)
  any_costs w names NoExpressions t p d own h f g = record { operations = 0; costs = sized (no_costs t p) (omega arith); less = omega arith }
  any_costs w names (MoreExpressions e es) t p d own h f g =
      let a = expression_costs w names e t p d own h.0 (omega (arith, f)) (omega (arith, g)) in
      let b = any_costs w names es t p d (own + length (expression_values w names e)) h.1 (omega (arith, f)) (omega (arith, g)) in
      let l = a.less in let k = b.less in
      record {
        operations = 1 + (a.operations + 3) + b.operations;
        costs = sized (both_cost t p _ (1 + (a.operations + 3)) _ b.operations
            (If d NoStatements (all_of (expression_code w names e d own ++ word_code (static_shape w names e) d)) ∷ []) _
            (those_costs t p d (a.operations + 3) (expression_code w names e d own ++ word_code (static_shape w names e) d) (omega (arith, f))
            (both_cost t p _ a.operations _ 3 _ _ a.costs (tested_word t p d (static_shape w names e) (omega (arith, f)))))
            b.costs) (omega arith);
        less = omega (arith, l, k);
      }

  -- what `new` and `rnew` make, whose value comes into the next temporary
  pub new_costs : (w : World) (names : List Named) (unique : Bool) (new : Made) (t p d own : ℕ) → TakesNew w names new → d + 4 + 4 * made_count new ≤ t
      → 3 * made_count new ≤ p → IsMade t p (indices_in_made new) (made_tokens new) (new_code w names unique new d own)
  new_costs w names unique (One e) t p d own h f g =
      let n = one_node e in
      made_costs w unique (static_shape w names e) t p d (tokens_of e) (whole_code w names e (d + 1) own) (expression_code w names e (d + 1) own)
      (TakesWhole w names e) (Takes w names e) h.1
      (λ k. whole_costs w names e t p (d + 1) own k (omega (arith, f)) (omega (arith, g)))
      (λ k. expression_costs w names e t p (d + 1) own k (omega (arith, f)) (omega (arith, g))) (omega (arith, f, n))
  new_costs w names unique (Array index count element) t p d own h f g =
      let n = one_node count in
      let m = one_node element in
      let inner = element_names index.text names in
      let first = own + length (expression_values w names count) in
      array_costs w (static_shape w inner element) t p d (tokens_of count) (tokens_of element) (expression_code w names count (d + 1) own)
      (whole_code w inner element (d + 3) first) (expression_code w inner element (d + 3) first) (TakesWhole w inner element) (Takes w inner element)
      h.1.1 (expression_costs w names count t p (d + 1) own h.0 (omega (arith, f)) (omega (arith, g)))
      (λ k. whole_costs w inner element t p (d + 3) first k (omega (arith, f, n)) (omega (arith, g)))
      (λ k. expression_costs w inner element t p (d + 3) first k (omega (arith, f, n)) (omega (arith, g))) (omega (arith, f, n, m))

  -- a struct or a union
  pub whole_costs : (w : World) (names : List Named) (e : Expression) (t p d own : ℕ) → TakesWhole w names e
      → d + 4 * expression_count e ≤ t
      → 3 * expression_count e ≤ p → IsWhole t p (indices_in e) (tokens_of e) (whole_code w names e d own)
  whole_costs w names (Expression.Call name arguments) t p d own h f g =
      let a = members_costs w names (parts_of w.structs name.text) arguments t p d 0 0 (suc own) h.1 (omega (arith, f)) (omega (arith, g)) in
      let l = a.less in
      record {
        operations = 1 + a.operations;
        costs = sized (both_cost t p _ 1 _ a.operations (Do (OwnAddress d own) ∷ []) _ (does_one t p _ (omega (arith, f))) a.costs) (omega arith);
        less = omega (arith, l);
      }
  whole_costs w names (Expression.MakeUnion tag member value) t p d own h f g =
      let parts = parts_of w.unions tag.text in let n = one_node value in
      union_costs w (part_shape parts member.text) (static_shape w names value) t p d own (member_number parts member.text) (tokens_of value)
      (expression_code w names value (d + 1) (suc own)) (omega (arith, f, n))
      (expression_costs w names value t p (d + 1) (suc own) h.1.1 (omega (arith, f)) (omega (arith, g)))
  whole_costs w names (Expression.Grouped at inner) t p d own h f g =
      let a = whole_costs w names inner t p d own h f g in let l = a.less in
      record { operations = a.operations; costs = a.costs; less = omega (arith, l) }
  whole_costs w names (Expression.Variable name) t p d own h f g =
      read_costs w (static_shape w names (Expression.Variable name)) t p d own 1 _ (omega (arith, f))
      (variable_costs w names name.text t p d (omega (arith, f)))
  whole_costs w names (Expression.Suffixed primary suffixes) t p d own h f g =
      let m = expression_count primary + suffix_count suffixes in let n = tokens_of primary + suffix_tokens suffixes in
      let two = one_node primary in let all = suc own + length (suffix_values w names suffixes) in
      read_costs w (static_shape w names (Expression.Suffixed primary suffixes)) t p d own n _ (omega (arith, f, two))
      (pointed_left t p m n d _ (omega (arith, f)) (primary_costs w names suffixes (static_shape w names primary) (λ e. expression_code w names primary e all)
      (λ e. place_code w names primary e all) primary t p (expression_count primary) (tokens_of primary) (indices_in primary) (suc own)
      (one_node primary) h.0 (omega (arith, g))
      (λ k d r. expression_costs w names primary t p d all k (omega (arith, r, f)) (omega (arith, g)))
      (λ k d r. place_costs w names primary t p d all k (omega (arith, r, f)) (omega (arith, g)))))
  whole_costs w names (Expression.Prefixed at prefix.Dereference operand) t p d own h f g =
      read_costs w (static_shape w names (Expression.Prefixed at prefix.Dereference operand)) t p d own (1 + tokens_of operand) _ (omega (arith, f))
      (contents_costs w t p d (tokens_of operand) (static_shape w names operand) (expression_code w names operand d (suc own)) (omega (arith, f))
      (expression_costs w names operand t p d (suc own) h.0 (omega (arith, f)) (omega (arith, g))))
  whole_costs w names (Expression.Prefixed at _ operand) t p d own h f g = absurd h.0
  whole_costs w names _ t p d own h f g = absurd h

  pub members_costs : (w : World) (names : List Named) (ps : List Part) (arguments : Expressions) (t p d cells bytes own : ℕ)
      → TakesMade w names ps arguments → d + 4 + 4 * argument_count arguments ≤ t → 3 * argument_count arguments ≤ p
      → ArePassed t p (indices_in_all arguments) (argument_tokens arguments) (members_code w names ps arguments d cells bytes own)
  members_costs w names [] NoExpressions t p d cells bytes own h f g = record { operations = 0; costs = sized (no_costs t p) (omega arith); less = omega arith }
  members_costs w names [] (MoreExpressions first others) t p d cells bytes own h f g = absurd h
  members_costs w names (q ∷ qs) NoExpressions t p d cells bytes own h f g = absurd h
  members_costs w names (q ∷ qs) (MoreExpressions first others) t p d cells bytes own h f g =
      let n = one_node first in
      let at = rounded_up bytes (extent_of w q.shape).align in
      let a = member_costs w q.shape (static_shape w names first) t p d cells at (tokens_of first) (whole_code w names first (d + 1) own)
      (expression_code w names first (d + 1) own) (TakesWhole w names first) (Takes w names first) h.0
      (λ k. whole_costs w names first t p (d + 1) own k (omega (arith, f)) (omega (arith, g)))
      (λ k. expression_costs w names first t p (d + 1) own k (omega (arith, f)) (omega (arith, g))) (omega (arith, f, n)) in
      let b = members_costs w names qs others t p d (cells + length (cells_of w q.shape)) (at + (extent_of w q.shape).size)
      (own + length (values_by q.shape (whole_values w names first) (expression_values w names first))) h.1 (omega (arith, f)) (omega (arith, g)) in
      let l = a.less in let k = b.less in
      record {
        operations = a.operations + b.operations;
        costs = sized (both_cost t p _ a.operations _ b.operations _ _ a.costs b.costs) (omega arith);
        less = omega (arith, l, k);
      }
