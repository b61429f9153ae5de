use Rattle.std.proofs.Common.{◌≡◌, ◌+◌, ◌-◌, ◌^◌, ◌≤◌, drop, map, min}
use Rattle.cyc_tree.specs.View.{expression_tree, expressions_of, link_tree, links_of, suffix_tree, suffixes_of}
use Rattle.source_lowering.specs.Order.{indices_in_all, indices_in_links, indices_in_suffixes}
use Rattle.lower_checks.proofs.indices.+indices.Given as goal

-- the suffixes so far and the rest are all suffixes
abbrev pub invariant-indices_in_suffixes-each : goal.invariant-indices_in_suffixes-each
invariant-indices_in_suffixes-each l = record {
  counts : min (l.count + indices_in_suffixes (suffixes_of (map suffix_tree (drop l.suffix-index l.suffixes)))) (2 ^ 64 - 1)
      ≡ min (indices_in_suffixes (suffixes_of (map suffix_tree l.suffixes))) (2 ^ 64 - 1);
  fits : l.count ≤ 2 ^ 64 - 1;
}

-- the expressions so far and the rest are all expressions
abbrev pub invariant-indices_in_all-each : goal.invariant-indices_in_all-each
invariant-indices_in_all-each l = record {
  counts : min (l.count + indices_in_all (expressions_of (map expression_tree (drop l.expression-index l.expressions)))) (2 ^ 64 - 1)
      ≡ min (indices_in_all (expressions_of (map expression_tree l.expressions))) (2 ^ 64 - 1);
  fits : l.count ≤ 2 ^ 64 - 1;
}

-- the links so far and the rest are all links
abbrev pub invariant-indices_in_links-each : goal.invariant-indices_in_links-each
invariant-indices_in_links-each l = record {
  counts : min (l.count + indices_in_links (links_of (map link_tree (drop l.link-index l.links)))) (2 ^ 64 - 1)
      ≡ min (indices_in_links (links_of (map link_tree l.links))) (2 ^ 64 - 1);
  fits : l.count ≤ 2 ^ 64 - 1;
}
