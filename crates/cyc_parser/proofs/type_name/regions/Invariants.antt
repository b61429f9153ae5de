use Rattle.std.proofs.Common.{◌≤◌, map, length}
use Rattle.cyc_lexer.specs.declared.token.Sign.TheVariants as sign
use Rattle.cyc_tree.specs.View.{region_tree}
use Rattle.cyc_parser.specs.Tests.{is_sign}
use Rattle.cyc_parser.specs.Reader.{behind}
use Rattle.cyc_parser.specs.ReadTypes.{region}
use Rattle.cyc_parser.proofs.ReadSome.{Before}
use Rattle.cyc_parser.proofs.type_name.regions.Given as goal

abbrev pub invariant-more : goal.invariant-more
invariant-more l =
    Before region (is_sign sign.Comma) (behind sign.Comma region) l.fn.cursor (map region_tree l.regions.items) l.cursor
    × (length l.cursor ≤ length l.fn.cursor)

abbrev pub decreases-more : goal.decreases-more
decreases-more l = length l.cursor
