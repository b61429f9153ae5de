use Rattle.std.proofs.Common.{◌≡◌, length, map, drop}
use Rattle.cyc_lexer.specs.Tokens.{token_tree}
use Rattle.cyc_format.specs.Comments.{comments_around}
use Rattle.cyc_format.specs.Layout.{spellings}
use Rattle.cyc_format.proofs.same.is_same.Given as goal

-- what holds of the tokens from here on holds of all
abbrev pub invariant-tokens : goal.invariant-tokens
invariant-tokens l = record {
  lengths : length l.found ≡ length l.others;
  tokens : spellings (map token_tree (drop l.i l.found)) ≡ spellings (map token_tree (drop l.i l.others))
      → spellings (map token_tree l.found) ≡ spellings (map token_tree l.others);
  comments : comments_around l.at l.text (map token_tree (drop l.i l.found)) ≡ comments_around l.to l.out (map token_tree (drop l.i l.others))
      → comments_around 0 l.text (map token_tree l.found) ≡ comments_around 0 l.out (map token_tree l.others);
}
