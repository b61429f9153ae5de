-- View of code: parts of phrases, as the functions that read them hand them on.
use Rattle.cyc_tree.specs.Tree.{Expression, Chain, Links, NoLinks, MoreLinks}

-- an operand with the operators and operands after it, where there are such
abbrev pub chained : Expression → Links → Expression
chained first NoLinks = first
chained first (MoreLinks o operand others) = Chain first (MoreLinks o operand others)
