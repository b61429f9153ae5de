-- What the nodes of an expression count is enough for its temporaries, for the words that it passes and for its temporary objects.
use Rattle.std.proofs.Common.{◌≡◌, ℕ, suc, ◌+◌, ◌*◌, ◌≤◌, List, [], ◌∷◌, ◌++◌, Bool, true, false, max, refl, subst, sym, arith}
use Rattle.std.proofs.lemmas.Bool.{false≢true}
use Rattle.std.specs.Prelude.{bytes_eq, codes, if◌then◌else◌}
use Rattle.cyc_tree.specs.Tree.{Expression, Expressions, NoExpressions, MoreExpressions, Links, NoLinks, MoreLinks, Suffixes, NoSuffixes, Index, Dot, Arrow}
use Rattle.cyc_tree.specs.Tree.{Made, One, Array}
use Rattle.source_meaning.specs.Shapes.{Shape, IntShape, UnsignedShape, StructShape, UnionShape, Part, parts_of, has_tag, pointee}
use Rattle.source_meaning.specs.Steps.{World}
use Rattle.source_meaning.specs.Operators.{operator_shape}
use Rattle.source_meaning.specs.Calls.{function_of}
use Rattle.source_lowering.specs.Lowered.{Named, element_names, static_shape, new_shape, prefix_shape, member_shape, suffixed_shape, call_shape, result_shape}
use Rattle.source_lowering.specs.Lowered.{values_by}
use Rattle.source_lowering.specs.Lowered.{expression_values, suffix_values, all_values, link_values, new_values, whole_values, made_values}
use Rattle.source_lowering.specs.Whole.{makes_struct}
use Rattle.source_lowering.specs.Lowerable.{
  Takes,
  TakesAll,
  TakesLinks,
  TakesNew,
  TakesSuffixes,
  TakesMembers,
  TakesMember,
  TakesPlace,
  TakesWhole,
  TakesMade,
}
use Rattle.source_lowering.specs.Bounds.{
  shape_words,
  node,
  assigned_node,
  frame_nodes,
  made_nodes,
  argument_nodes,
  joined_nodes,
  link_nodes,
  suffix_nodes,
}
use Rattle.source_lowering.specs.Order.{indices_in, indices_in_all, indices_in_links, indices_in_made, indices_in_suffixes}
use Rattle.source_lowering.proofs.bounds.Nodes.{expression_count, made_count, argument_count, joined_count, link_count, suffix_count}
use Rattle.source_lowering.proofs.bounds.LocalWords.{shapes_words}
use Rattle.source_lowering.proofs.bounds.WholeObjects.{suffixed_objects, prefixed_objects, pointed_objects}
use Rattle.source_lowering.specs.Lowered.{owner_in}
use Rattle.source_meaning.specs.Shapes.{Shared}
use Rattle.source_meaning.specs.Expressions.{is_unique_region}

-- so many nodes have four temporaries each and pass three words, indices have a word each, and temporary objects have their own words
pub record Pays (w : World) (c i n : ℕ) (values : List Shape) : Type 0 where
  pub less : 7 * c + (i + shapes_words w values) ≤ 4 * n

-- ---- parts

pub words_both : (w : World) (xs ys : List Shape) → shapes_words w (xs ++ ys) ≡ shapes_words w xs + shapes_words w ys
words_both w [] ys = omega arith
words_both w (a ∷ xs) ys = let h = words_both w xs ys in omega (arith, h)

most_pays : (x : ℕ) → 7 + x ≤ 4 * (1 + max 1 x)
most_pays x = omega arith

-- a node pays for itself, and for a whole that it makes
node_pays : (w : World) (s : Shape) → 7 + shape_words w s ≤ 4 * node w s
node_pays w s = most_pays (shape_words w s)

pub nothing_pays : (w : World) (n : ℕ) → Pays w 0 0 n []
nothing_pays w n = record { less = omega arith }

pub both_pay : {i j : ℕ} (w : World) (c n d m : ℕ) (xs ys : List Shape) → Pays w c i n xs → Pays w d j m ys → Pays w (c + d) (i + j) (n + m) (xs ++ ys)
both_pay w c n d m xs ys a b = let h = words_both w xs ys in let f = a.less in let g = b.less in record { less = omega (arith, h, f, g) }

-- the values of the second come first
other_pay : {i j : ℕ} (w : World) (c n d m : ℕ) (xs ys : List Shape) → Pays w c i n xs → Pays w d j m ys → Pays w (c + d) (j + i) (n + m) (ys ++ xs)
other_pay w c n d m xs ys a b = let h = words_both w ys xs in let f = a.less in let g = b.less in record { less = omega (arith, h, f, g) }

-- an index has a node of its own
index_paid : (w : World) (c i j n : ℕ) (xs : List Shape) → Pays w c (i + j) n xs → Pays w c (i + suc j) (1 + n) xs
index_paid w c i j n xs a = let f = a.less in record { less = omega (arith, f) }

node_paid : {i : ℕ} (w : World) (s : Shape) (c n : ℕ) (xs : List Shape) → Pays w c i n xs → Pays w (1 + c) i (node w s + n) xs
node_paid {i = i} w s c n xs a = by (node w s) (node_pays w s)
  where
    by : (k : ℕ) → 7 + shape_words w s ≤ 4 * k → Pays w (1 + c) i (k + n) xs
    by k h = let f = a.less in record { less = omega (arith, h, f) }

one_paid : (w : World) (s : Shape) → Pays w 1 0 (node w s) []
one_paid w s = by (node w s) (node_pays w s)
  where
    by : (k : ℕ) → 7 + shape_words w s ≤ 4 * k → Pays w 1 0 k []
    by k h = record { less = omega (arith, h) }

-- what is made or read whole
whole_node : {i : ℕ} (w : World) (s : Shape) (c n : ℕ) (xs : List Shape) → Pays w c i n xs → Pays w (1 + c) i (node w s + n) (s ∷ xs)
whole_node {i = i} w s c n xs a = by (node w s) (node_pays w s)
  where
    by : (k : ℕ) → 7 + shape_words w s ≤ 4 * k → Pays w (1 + c) i (k + n) (s ∷ xs)
    by k h = let f = a.less in record { less = omega (arith, h, f) }

by_paid : {i : ℕ} (w : World) (s : Shape) (c n : ℕ) (whole word : List Shape) (for_whole for_word : Type 0) → TakesMember s for_whole for_word
    → (for_whole → Pays w c i n whole) → (for_word → Pays w c i n word) → Pays w c i n (values_by s whole word)
by_paid w (StructShape tag) c n whole word for_whole for_word h wholes words = wholes h
by_paid w (UnionShape tag) c n whole word for_whole for_word h wholes words = wholes h
by_paid w _ c n whole word for_whole for_word h wholes words = words h

-- what a struct's name makes
pub made_shape : (w : World) (name : List ℕ) → makes_struct w name ≡ true → call_shape w name ≡ StructShape name
made_shape w name is = by (bytes_eq name (codes "getchar")) (bytes_eq name (codes "putchar")) (has_tag w.structs name) is
  where
    by : (reads writes tagged : Bool) → (if reads then false else (if writes then false else tagged)) ≡ true
        → (if reads then IntShape else (if writes then IntShape else (if tagged then StructShape name else result_shape (function_of w.functions name)))) ≡
        StructShape name
    by true writes tagged is = absurd (false≢true is)
    by false true tagged is = absurd (false≢true is)
    by false false true is = refl
    by false false false is = absurd (false≢true is)

-- ---- suffixes

-- what suffixes lead to, from a whole of another shape that lies on their left
record IsFurther (w : World) (c i n : ℕ) (s last : Shape) (values : List Shape) : Type 0 where
  less : 7 * c + (i + (shape_words w last + shapes_words w values)) ≤ 4 * n + shape_words w s

-- a suffix that leads to a shape, with further ones
further_one : {i : ℕ} (w : World) (c n : ℕ) (s last : Shape) (xs : List Shape) → IsFurther w c i n s last xs → Pays w (1 + c) i (node w s + n) (last ∷ xs)
further_one {i = i} w c n s last xs a = by (node w s) (node_pays w s)
  where
    by : (k : ℕ) → 7 + shape_words w s ≤ 4 * k → Pays w (1 + c) i (k + n) (last ∷ xs)
    by k h = let f = a.less in record { less = omega (arith, h, f) }

-- an index among them
further_index : {i j : ℕ} (w : World) (c n d m : ℕ) (s last : Shape) (xs ys : List Shape) → Pays w d j m ys → IsFurther w c i n s last xs
    → Pays w (1 + (d + c)) (i + j) (node w s + (m + n)) (last ∷ (xs ++ ys))
further_index {i = i} {j = j} w c n d m s last xs ys b a = by (node w s) (node_pays w s)
  where
    by : (k : ℕ) → 7 + shape_words w s ≤ 4 * k → Pays w (1 + (d + c)) (i + j) (k + (m + n)) (last ∷ (xs ++ ys))
    by k h = let e = words_both w xs ys in let f = a.less in let g = b.less in record { less = omega (arith, h, e, f, g) }

-- it is one of several
further_more : {i : ℕ} (w : World) (c n : ℕ) (s last : Shape) (xs : List Shape) → Pays w c i n (last ∷ xs) → IsFurther w c i n s last xs
further_more w c n s last xs a = let f = a.less in record { less = omega (arith, f) }

-- the last one's own value is no whole
no_whole : {i : ℕ} (w : World) (c n : ℕ) (s : Shape) (xs : List Shape) → Pays w c i n (s ∷ xs) → Pays w c i n xs
no_whole w c n s xs a = let f = a.less in record { less = omega (arith, f) }

-- suffixes on what stands on their left, which lead to a whole
suffixed_pays : {i j : ℕ} (w : World) (c n d m : ℕ) (s : Shape) (xs ys : List Shape) → Pays w c i n xs → Pays w d j m (s ∷ ys)
    → Pays w (c + d) (j + i) (n + m) (s ∷ (ys ++ xs))
suffixed_pays w c n d m s xs ys a b = let h = words_both w ys xs in let f = a.less in let g = b.less in record { less = omega (arith, h, f, g) }

-- or to a value
primary_paid : (w : World) (names : List Named) (primary : Expression) (suffixes : Suffixes)
    → TakesSuffixes w names suffixes (static_shape w names primary) (Takes w names primary) (TakesPlace w names primary)
    → (Takes w names primary → Pays w (expression_count primary) (indices_in primary) (frame_nodes w names primary) (expression_values w names primary))
    → (TakesPlace w names primary → Pays w (expression_count primary) (indices_in primary) (frame_nodes w names primary) (expression_values w names primary))
    → Pays w (suffix_count suffixes) (indices_in_suffixes suffixes) (suffix_nodes w names suffixes (static_shape w names primary))
    (suffixed_shape w suffixes (static_shape w names primary) ∷ suffix_values w names suffixes)
    → Pays w (expression_count primary + suffix_count suffixes) (indices_in_suffixes suffixes + indices_in primary)
    (frame_nodes w names primary + suffix_nodes w names suffixes (static_shape w names primary))
    (suffix_values w names suffixes ++ expression_values w names primary)
primary_paid w names primary suffixes h by_value by_place paid =
    let s = static_shape w names primary in
    other_pay w (expression_count primary) (frame_nodes w names primary) (suffix_count suffixes) (suffix_nodes w names suffixes s) _ _
    (suffixed_objects w names suffixes s (Takes w names primary) (TakesPlace w names primary)
    (Pays w (expression_count primary) (indices_in primary) (frame_nodes w names primary) (expression_values w names primary)) h by_value by_place)
    (no_whole w (suffix_count suffixes) (suffix_nodes w names suffixes s) (suffixed_shape w suffixes s) _ paid)

-- ---- expressions

-- an assigned value comes before its place
pub assigned_pays : {i j : ℕ} (w : World) (c n d m k : ℕ) (xs ys : List Shape) → Pays w c i n xs → Pays w d j m ys
    → Pays w (c + d) (j + i) (k + (n + m)) (ys ++ xs)
assigned_pays w c n d m k xs ys a b = let h = words_both w ys xs in let f = a.less in let g = b.less in record { less = omega (arith, h, f, g) }

mutual
  pub expression_paid : (w : World) (names : List Named) (e : Expression) → Takes w names e
      → Pays w (expression_count e) (indices_in e) (frame_nodes w names e) (expression_values w names e)
  expression_paid w names (Expression.Number at value suffix) h = one_paid w (static_shape w names (Expression.Number at value suffix))
  expression_paid w names (Expression.Character at byte) h = one_paid w (static_shape w names (Expression.Character at byte))
  expression_paid w names (Expression.Text at bytes) h = one_paid w (static_shape w names (Expression.Text at bytes))
  expression_paid w names (Expression.Null at) h = one_paid w (static_shape w names (Expression.Null at))
  expression_paid w names (Expression.HeapRegion at) h = one_paid w (static_shape w names (Expression.HeapRegion at))
  expression_paid w names (Expression.Variable name) h = one_paid w (static_shape w names (Expression.Variable name))
  expression_paid w names (Expression.Call name arguments) h =
      node_paid w (call_shape w name.text) (argument_count arguments) (argument_nodes w names arguments) _ (arguments_paid w names arguments h.1)
  expression_paid w names (Expression.NumElts at operand) h =
      node_paid w UnsignedShape (expression_count operand) (frame_nodes w names operand) _ (expression_paid w names operand h)
  expression_paid w names (Expression.Grouped at inner) h = expression_paid w names inner h
  expression_paid w names (Expression.Suffixed primary suffixes) h = primary_paid w names primary suffixes h.0 (λ g. expression_paid w names primary g)
      (λ g. place_paid w names primary g) (suffixes_paid w names suffixes (static_shape w names primary) primary h.0)
  expression_paid w names (Expression.Prefixed at operator operand) h =
      let s = static_shape w names operand in
      node_paid w (prefix_shape operator s) (expression_count operand) (frame_nodes w names operand) _
      (prefixed_objects operator s (Takes w names operand) (TakesPlace w names operand)
      (Pays w (expression_count operand) (indices_in operand) (frame_nodes w names operand) (expression_values w names operand)) h
      (λ g. expression_paid w names operand g)
      (λ g. place_paid w names operand g))
  expression_paid w names (Expression.New at new) h =
      node_paid w (new_shape w names Shared new) (made_count new) (made_nodes w names new) _ (new_paid w names new h)
  expression_paid w names (Expression.NewIn at handle new) h =
      node_paid w (new_shape w names (owner_in (is_unique_region handle)) new) (expression_count handle + made_count new)
      (frame_nodes w names handle + made_nodes w names new) _
      (both_pay w (expression_count handle) (frame_nodes w names handle) (made_count new) (made_nodes w names new) _ _ (expression_paid w names handle h.0)
      (new_paid w names new h.1))
  expression_paid w names (Expression.UniqueRegion at) h = one_paid w (static_shape w names (Expression.UniqueRegion at))
  expression_paid w names (Expression.Chain first others) h =
      let s = static_shape w names first in
      both_pay w (expression_count first) (frame_nodes w names first) (link_count others) (link_nodes w names others s) _ _
      (expression_paid w names first h.0) (links_paid w names others s h.1)
  expression_paid w names (Expression.AllOf first others) h =
      both_pay w (expression_count first) (frame_nodes w names first) (joined_count others) (joined_nodes w names others) _ _
      (expression_paid w names first h.0) (joined_paid w names others h.1)
  expression_paid w names (Expression.AnyOf first others) h =
      both_pay w (expression_count first) (frame_nodes w names first) (joined_count others) (joined_nodes w names others) _ _
      (expression_paid w names first h.0) (joined_paid w names others h.1)
  expression_paid w names (Expression.Assign place value) h =
      assigned_pays w (expression_count place) (frame_nodes w names place) (expression_count value) (frame_nodes w names value)
      (assigned_node w (static_shape w names place)) _ _ (place_paid w names place h.0) (expression_paid w names value h.1.0)
  expression_paid w names _ h = absurd h

  pub place_paid : (w : World) (names : List Named) (e : Expression) → TakesPlace w names e
      → Pays w (expression_count e) (indices_in e) (frame_nodes w names e) (expression_values w names e)
  place_paid w names (Expression.Variable name) h = one_paid w (static_shape w names (Expression.Variable name))
  place_paid w names (Expression.Grouped at inner) h = place_paid w names inner h
  place_paid w names (Expression.Suffixed primary suffixes) h = primary_paid w names primary suffixes h (λ g. expression_paid w names primary g)
      (λ g. place_paid w names primary g) (suffixes_paid w names suffixes (static_shape w names primary) primary h)
  place_paid w names (Expression.Prefixed at operator operand) h =
      node_paid w (prefix_shape operator (static_shape w names operand)) (expression_count operand) (frame_nodes w names operand) _
      (pointed_objects operator (Takes w names operand) (Pays w (expression_count operand) (indices_in operand) (frame_nodes w names operand)
      (expression_values w names operand)) h
      (λ g. expression_paid w names operand g))
  place_paid w names _ h = absurd h

  -- suffixes, whose last one may lead to a whole
  suffixes_paid : (w : World) (names : List Named) (suffixes : Suffixes) (s : Shape) (primary : Expression)
      → TakesSuffixes w names suffixes s (Takes w names primary) (TakesPlace w names primary)
      → Pays w (suffix_count suffixes) (indices_in_suffixes suffixes) (suffix_nodes w names suffixes s)
      (suffixed_shape w suffixes s ∷ suffix_values w names suffixes)
  suffixes_paid w names NoSuffixes s primary h = absurd h
  suffixes_paid w names (Index index others) s primary h =
      further_index w (suffix_count others) (suffix_nodes w names others (pointee s)) (expression_count index) (frame_nodes w names index) (pointee s)
      (suffixed_shape w others (pointee s)) _ _ (expression_paid w names index h.1.0) (further_paid w names others (pointee s) h.1.1.1)
  suffixes_paid w names (Dot f others) s primary h =
      let at = member_shape w s f.text in
      further_one w (suffix_count others) (suffix_nodes w names others at) at (suffixed_shape w others at) _ (further_paid w names others at h.1.1)
  suffixes_paid w names (Arrow f others) s primary h =
      let at = member_shape w (pointee s) f.text in
      further_one w (suffix_count others) (suffix_nodes w names others at) at (suffixed_shape w others at) _ (further_paid w names others at h.1.1)

  further_paid : (w : World) (names : List Named) (suffixes : Suffixes) (s : Shape) → TakesMembers w names suffixes s
      → IsFurther w (suffix_count suffixes) (indices_in_suffixes suffixes) (suffix_nodes w names suffixes s) s (suffixed_shape w suffixes s)
      (suffix_values w names suffixes)
  further_paid w names NoSuffixes s h = record { less = omega arith }
  further_paid w names (Index index others) s h =
      further_more w (suffix_count (Index index others)) (suffix_nodes w names (Index index others) s) s (suffixed_shape w others (pointee s)) _
      (further_index w (suffix_count others) (suffix_nodes w names others (pointee s)) (expression_count index) (frame_nodes w names index) (pointee s)
      (suffixed_shape w others (pointee s)) _ _ (expression_paid w names index h.1.0) (further_paid w names others (pointee s) h.1.1.1))
  further_paid w names (Dot f others) s h =
      let at = member_shape w s f.text in
      further_more w (suffix_count (Dot f others)) (suffix_nodes w names (Dot f others) s) s (suffixed_shape w others at) _
      (further_one w (suffix_count others) (suffix_nodes w names others at) at (suffixed_shape w others at) _ (further_paid w names others at h.1))
  further_paid w names (Arrow f others) s h =
      let at = member_shape w (pointee s) f.text in
      further_more w (suffix_count (Arrow f others)) (suffix_nodes w names (Arrow f others) s) s (suffixed_shape w others at) _
      (further_one w (suffix_count others) (suffix_nodes w names others at) at (suffixed_shape w others at) _ (further_paid w names others at h.1.1))

  pub arguments_paid : (w : World) (names : List Named) (es : Expressions) → TakesAll w names es
      → Pays w (argument_count es) (indices_in_all es) (argument_nodes w names es) (all_values w names es)
  arguments_paid w names NoExpressions h = nothing_pays w 0
  arguments_paid w names (MoreExpressions first others) h =
      both_pay w (expression_count first) (frame_nodes w names first) (argument_count others) (argument_nodes w names others) _ _
      (expression_paid w names first h.0) (arguments_paid w names others h.1)

  joined_paid : (w : World) (names : List Named) (es : Expressions) → TakesAll w names es
      → Pays w (joined_count es) (indices_in_all es) (joined_nodes w names es) (all_values w names es)
  joined_paid w names NoExpressions h = nothing_pays w 0
  joined_paid w names (MoreExpressions first others) h =
      node_paid w IntShape (expression_count first + joined_count others) (frame_nodes w names first + joined_nodes w names others) _
      (both_pay w (expression_count first) (frame_nodes w names first) (joined_count others) (joined_nodes w names others) _ _
      (expression_paid w names first h.0) (joined_paid w names others h.1))

  links_paid : (w : World) (names : List Named) (links : Links) (left : Shape) → TakesLinks w names links
      → Pays w (link_count links) (indices_in_links links) (link_nodes w names links left) (link_values w names links)
  links_paid w names NoLinks left h = nothing_pays w 0
  links_paid w names (MoreLinks operator operand others) left h =
      let s = operator_shape operator left (static_shape w names operand) in
      node_paid w s (expression_count operand + link_count others) (frame_nodes w names operand + link_nodes w names others s) _
      (both_pay w (expression_count operand) (frame_nodes w names operand) (link_count others) (link_nodes w names others s) _ _
      (expression_paid w names operand h.0) (links_paid w names others s h.1))

  new_paid : (w : World) (names : List Named) (new : Made) → TakesNew w names new
      → Pays w (made_count new) (indices_in_made new) (made_nodes w names new) (new_values w names new)
  new_paid w names (One value) h =
      by_paid w (static_shape w names value) (expression_count value) (frame_nodes w names value) _ _ (TakesWhole w names value) (Takes w names value) h.1
      (λ g. whole_paid w names value g) (λ g. expression_paid w names value g)
  new_paid w names (Array index count element) h =
      let inner = element_names index.text names in
      let nodes = frame_nodes w names count + frame_nodes w inner element in
      index_paid w (expression_count count + expression_count element) (indices_in count) (indices_in element) nodes _
      (both_pay w (expression_count count) (frame_nodes w names count) (expression_count element) (frame_nodes w inner element) _ _
      (expression_paid w names count h.0)
      (by_paid w (static_shape w inner element) (expression_count element) (frame_nodes w inner element) _ _ (TakesWhole w inner element)
      (Takes w inner element) h.1.1 (λ g. whole_paid w inner element g) (λ g. expression_paid w inner element g)))

  pub whole_paid : (w : World) (names : List Named) (e : Expression) → TakesWhole w names e
      → Pays w (expression_count e) (indices_in e) (frame_nodes w names e) (whole_values w names e)
  whole_paid w names (Expression.Call name arguments) h =
      let made = made_paid w names (parts_of w.structs name.text) arguments h.1 in
      subst
      (λ s. Pays w (1 + argument_count arguments) (indices_in_all arguments) (node w s + argument_nodes w names arguments)
      (StructShape name.text ∷ made_values w names (parts_of w.structs name.text) arguments))
      (sym (made_shape w name.text h.0))
      (whole_node w (StructShape name.text) (argument_count arguments) (argument_nodes w names arguments) _ made)
  whole_paid w names (Expression.MakeUnion tag member value) h =
      whole_node w (UnionShape tag.text) (expression_count value) (frame_nodes w names value) _ (expression_paid w names value h.1.1)
  whole_paid w names (Expression.Grouped at inner) h = whole_paid w names inner h
  whole_paid w names (Expression.Variable name) h =
      let s = static_shape w names (Expression.Variable name) in let a = node_pays w s in record { less = omega (arith, a) }
  whole_paid w names (Expression.Suffixed primary suffixes) h =
      let s = static_shape w names primary in
      suffixed_pays w (expression_count primary) (frame_nodes w names primary) (suffix_count suffixes) (suffix_nodes w names suffixes s)
      (suffixed_shape w suffixes s) _ _
      (suffixed_objects w names suffixes s (Takes w names primary) (TakesPlace w names primary)
      (Pays w (expression_count primary) (indices_in primary) (frame_nodes w names primary) (expression_values w names primary)) h.0
      (λ g. expression_paid w names primary g)
      (λ g. place_paid w names primary g))
      (suffixes_paid w names suffixes s primary h.0)
  whole_paid w names (Expression.Prefixed at operator operand) h =
      whole_node w (prefix_shape operator (static_shape w names operand)) (expression_count operand) (frame_nodes w names operand) _
      (pointed_objects operator (Takes w names operand) (Pays w (expression_count operand) (indices_in operand) (frame_nodes w names operand)
      (expression_values w names operand))
      h.0 (λ g. expression_paid w names operand g))
  whole_paid w names _ h = absurd h

  made_paid : (w : World) (names : List Named) (ps : List Part) (es : Expressions) → TakesMade w names ps es
      → Pays w (argument_count es) (indices_in_all es) (argument_nodes w names es) (made_values w names ps es)
  made_paid w names [] NoExpressions h = nothing_pays w 0
  made_paid w names [] (MoreExpressions first others) h = absurd h
  made_paid w names (p ∷ ps) NoExpressions h = absurd h
  made_paid w names (p ∷ ps) (MoreExpressions first others) h =
      both_pay w (expression_count first) (frame_nodes w names first) (argument_count others) (argument_nodes w names others) _ _
      (by_paid w p.shape (expression_count first) (frame_nodes w names first) _ _ (TakesWhole w names first) (Takes w names first) h.0
      (λ g. whole_paid w names first g) (λ g. expression_paid w names first g))
      (made_paid w names ps others h.1)
