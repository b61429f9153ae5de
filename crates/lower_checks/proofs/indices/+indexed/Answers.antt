use Rattle.std.proofs.Common.{◌≡◌, ◌∙◌, ◌+◌, ◌-◌, ◌^◌, ℕ, min, arith, sym, ap, subst, List, ◌∷◌, ◌++◌, append-nil, map, drop}
use Rattle.cyc_tree.proofs.PartForms.{arrow_tree, dot_tree, index_tree}
use Rattle.cyc_tree.specs.Tree as tree
use Rattle.cyc_tree.specs.View.{OneSuffix, expression_tree, name_tree, suffix_tree, suffixes_of}
use Rattle.source_lowering.specs.Order.{expression_order, indices_in, indices_in_suffixes, suffix_order}
use Rattle.lower_checks.specs.Ordering.{AreLeft, IsOrdered}
use Rattle.lower_checks.specs.declared.order.Order.{Order}
use Rattle.lower_checks.proofs.NoIndices.{count_none, suffixes_none}
use Rattle.lower_checks.proofs.Ordered.{count_before, left_behind}
use Rattle.lower_checks.proofs.Remaining.{left_suffixes}
use Rattle.lower_checks.proofs.indices.+indexed.Goals as goal
use Rattle.lower_checks.proofs.indices.+indexed.Goals.{order_suffixes-in-Arrow, order_suffixes-in-Dot, order_suffixes-in-Index}

-- no index is put in order where there is none
pub order_suffixes-returns-then-count-eq0 : goal.order_suffixes-returns-then-count-eq0
order_suffixes-returns-then-count-eq0 t c sound =
    let ss = suffixes_of (map suffix_tree c.args.suffixes.now) in
    let none = count_none (indices_in_suffixes ss) c.indices_in_suffixes-count.result c.indices_in_suffixes-count.ensures c.if-count-eq0.true in
    let first = c.args.first in
    let old = c.args.order.now.numbers.items in
    let behind = c.behind-next.ensures sound in
    record {
      sound = behind.sound;
      numbers = ap (λ ns. ns.items) behind.numbers ∙ sym (append-nil old) ∙ ap (λ ns. old ++ ns) (sym (suffixes_none first ss none));
      behind = behind.sum ∙ ap (λ n. first + n) (c.if-count-eq0.true ∙ sym none);
    }

-- the indices of a subscript have the numbers before those of the suffixes on its left
pub order_suffixes-each-preserved : goal.order_suffixes-each-preserved
order_suffixes-each-preserved t c sound =
    let suffixes = c.args.suffixes.now in
    let k = c.each.suffix-index in
    let suffix = c.suffix-item.result in
    let a = c.behind-next.new.self in
    let b = c.each.order in
    let last = c.match-suffix.order in
    let first = c.args.first in
    let end = c.each.behind in
    let all = suffix_order first (suffixes_of (map suffix_tree suffixes)) in
    let left = suffixes_of (map suffix_tree (drop k suffixes)) in
    let others = suffixes_of (map suffix_tree (drop (k + 1) suffixes)) in
    let these : left ≡ suffixes_of (suffix_tree suffix ∷ map suffix_tree (drop (k + 1) suffixes)) =
    left_suffixes suffixes k suffix c.each-test.true c.suffix-item.is in
    let begins = λ (s : OneSuffix) (is : suffix_tree suffix ≡ s). these ∙ ap (λ x. suffixes_of (x ∷ map suffix_tree (drop (k + 1) suffixes))) is in
    elim c.match-suffix.branch [
      | order_suffixes-in-Index w ↦
          let e = expression_tree w.deref-in-Index.result.now in
          let is : left ≡ tree.Index e others =
          begins (OneSuffix.Index (expression_tree w.in-Index.index.value)) (ap suffix_tree w.in-Index.is ∙ index_tree w.in-Index.index)
          ∙ ap (λ i. tree.Index (expression_tree i) others) (sym w.deref-in-Index.ensures) in
          let put = w.order_expression.ensures (ap (λ (x : Order). x.failed) (sym w.order-is) ∙ sound) in
          let before = c.each.invariant put.sound in
          let number = w.saturating_sub-behind.result in
          let number_is : number ≡ first + indices_in_suffixes others =
          count_before first (indices_in_suffixes others) (indices_in e) w.indices_in.result end number
          (before.behind ∙ ap (λ x. first + indices_in_suffixes x) is)
          (w.indices_in.ensures ∙ ap (λ i. min (indices_in (expression_tree i)) (2 ^ 64 - 1)) (w.deref.ensures ∙ sym w.deref-in-Index.ensures))
          before.fits w.saturating_sub-behind.ensures in
          record {
            numbers = left_behind a b w.order_expression.new.order last all (suffix_order first left)
                (expression_order (first + indices_in_suffixes others) e) (suffix_order first others) w.order_expression.result
                (first + indices_in_suffixes others + indices_in e) before.numbers
                (subst (λ (n : ℕ). IsOrdered b w.order_expression.new.order (expression_order n e) w.order_expression.result (n + indices_in e)) number_is put)
                w.order-is (ap (suffix_order first) is);
            behind = w.behind-is ∙ number_is;
            fits = omega (arith, w.behind-is, w.saturating_sub-behind.ensures, before.fits);
          }
      | order_suffixes-in-Dot w ↦
          let is : left ≡ tree.Dot (name_tree w.in-Dot.field-0) others =
          begins (OneSuffix.Dot (name_tree w.in-Dot.field-0)) (ap suffix_tree w.in-Dot.is ∙ dot_tree w.in-Dot.field-0) in
          let before = c.each.invariant (ap (λ (x : Order). x.failed) (sym w.order-is) ∙ sound) in
          record {
            numbers = subst (λ (x : Order). AreLeft a x all (suffix_order first others)) (sym w.order-is)
                (subst (λ (x : List ℕ). AreLeft a b all x) (ap (suffix_order first) is) before.numbers);
            behind = w.behind-is ∙ before.behind ∙ ap (λ x. first + indices_in_suffixes x) is;
            fits = omega (arith, w.behind-is, before.fits);
          }
      | order_suffixes-in-Arrow w ↦
          let is : left ≡ tree.Arrow (name_tree w.in-Arrow.field-0) others =
          begins (OneSuffix.Arrow (name_tree w.in-Arrow.field-0)) (ap suffix_tree w.in-Arrow.is ∙ arrow_tree w.in-Arrow.field-0) in
          let before = c.each.invariant (ap (λ (x : Order). x.failed) (sym w.order-is) ∙ sound) in
          record {
            numbers = subst (λ (x : Order). AreLeft a x all (suffix_order first others)) (sym w.order-is)
                (subst (λ (x : List ℕ). AreLeft a b all x) (ap (suffix_order first) is) before.numbers);
            behind = w.behind-is ∙ before.behind ∙ ap (λ x. first + indices_in_suffixes x) is;
            fits = omega (arith, w.behind-is, before.fits);
          }
    ]
