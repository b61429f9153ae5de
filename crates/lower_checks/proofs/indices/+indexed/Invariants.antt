use Rattle.std.proofs.Common.{◌≡◌, ◌+◌, ◌-◌, ◌^◌, ◌≤◌, drop, map, false}
use Rattle.cyc_tree.specs.View.{expression_tree, expressions_of, link_tree, links_of, suffix_tree, suffixes_of}
use Rattle.source_lowering.specs.Order.{all_order, indices_in_all, indices_in_links, indices_in_suffixes, link_order, suffix_order}
use Rattle.lower_checks.specs.Ordering.{AreLeft}
use Rattle.lower_checks.proofs.indices.+indexed.Given as goal

-- the suffixes so far and the rest are all suffixes, and those of the rest are numbered before this number
abbrev pub invariant-order_suffixes-each : goal.invariant-order_suffixes-each
invariant-order_suffixes-each l =
    let others = suffixes_of (map suffix_tree (drop l.suffix-index l.suffixes)) in
    l.order.failed ≡ false → record {
      numbers : AreLeft l.initial.order l.order (suffix_order l.first (suffixes_of (map suffix_tree l.suffixes))) (suffix_order l.first others);
      behind : l.behind ≡ l.first + indices_in_suffixes others;
      fits : l.behind ≤ 2 ^ 64 - 1;
    }

-- the expressions so far and the rest are all expressions
abbrev pub invariant-order_all-each : goal.invariant-order_all-each
invariant-order_all-each l =
    let all = expressions_of (map expression_tree l.expressions) in
    let others = expressions_of (map expression_tree (drop l.expression-index l.expressions)) in
    l.order.failed ≡ false → record {
      numbers : AreLeft l.initial.order l.order (all_order l.initial.next all) (all_order l.next others);
      next : l.next + indices_in_all others ≡ l.initial.next + indices_in_all all;
    }

-- the links so far and the rest are all links
abbrev pub invariant-order_links-each : goal.invariant-order_links-each
invariant-order_links-each l =
    let all = links_of (map link_tree l.links) in
    let others = links_of (map link_tree (drop l.link-index l.links)) in
    l.order.failed ≡ false → record {
      numbers : AreLeft l.initial.order l.order (link_order l.initial.next all) (link_order l.next others);
      next : l.next + indices_in_links others ≡ l.initial.next + indices_in_links all;
    }
