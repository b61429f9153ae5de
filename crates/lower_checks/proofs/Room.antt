-- What has room: each expression for one node at least, and the words of arguments, and indices.
use Rattle.std.proofs.Common.{◌≡◌, ◌+◌, ◌≤◌, ℕ, arith, List, [], ◌∷◌, map, drop, zero, suc}
use Rattle.cyc_tree.specs.Tree.{Expression, Expressions, NoExpressions, MoreExpressions, Suffixes, NoSuffixes, Index, Dot, Arrow}
use Rattle.cyc_tree.specs.View.{OneSuffix, suffix_tree, suffixes_of}
use Rattle.cyc_tree.specs.declared.expression.Suffix as code
use Rattle.source_meaning.specs.Shapes.{FatShape, Shape}
use Rattle.source_lowering.specs.Lowered.{argument_words}
use Rattle.source_lowering.specs.Members.{words_in}
use Rattle.cyc_tree.specs.Room.{argument_room, room, suffix_room}
use Rattle.lower_checks.specs.Reaching.{indices_in}

pub room_least : (e : Expression) → 16 ≤ room e
room_least (Expression.Call name arguments) = omega arith
room_least (Expression.MakeUnion tag member value) = omega arith
room_least (Expression.NumElts at operand) = omega arith
room_least (Expression.Grouped at inner) = omega arith
room_least (Expression.Suffixed primary _) = omega arith
room_least (Expression.Prefixed at operator operand) = omega arith
room_least (Expression.New at made) = omega arith
room_least (Expression.NewIn at handle made) = omega arith
room_least (Expression.Chain first others) = omega arith
room_least (Expression.AllOf first others) = omega arith
room_least (Expression.AnyOf first others) = omega arith
room_least (Expression.Assign place value) = omega arith
room_least _ = omega arith

pub few_words : (s : Shape) → words_in s ≤ 3
few_words (FatShape to) = omega arith
few_words _ = omega arith

-- an argument takes no more words than it has room
pub words_within : (ss : List Shape) (es : Expressions) → argument_words ss es ≤ argument_room es
words_within [] es = omega arith
words_within (s ∷ ss) NoExpressions = omega arith
words_within (s ∷ ss) (MoreExpressions first others) = omega (arith, words_within ss others, few_words s, room_least first)

-- nor are there more indices
pub indices_within : (ss : Suffixes) → indices_in ss ≤ suffix_room ss
indices_within NoSuffixes = omega arith
indices_within (Index index others) = omega (arith, indices_within others)
indices_within (Dot f others) = omega (arith, indices_within others)
indices_within (Arrow f others) = omega (arith, indices_within others)

pub suffix_first : (one : OneSuffix) (rest : List OneSuffix)
    → suffix_room (suffixes_of (one ∷ rest)) ≡ suffix_room (suffixes_of (one ∷ [])) + suffix_room (suffixes_of rest)
suffix_first (OneSuffix.Index index) rest = omega arith
suffix_first (OneSuffix.Dot f) rest = omega arith
suffix_first (OneSuffix.Arrow f) rest = omega arith

-- those from one on have no more room than all
pub suffix_from : (ss : List code.Suffix) (n : ℕ) → suffix_room (suffixes_of (map suffix_tree (drop n ss))) ≤ suffix_room (suffixes_of (map suffix_tree ss))
suffix_from ss zero = omega arith
suffix_from [] (suc n) = omega arith
suffix_from (s ∷ ss) (suc n) = omega (arith, suffix_from ss n, suffix_first (suffix_tree s) (map suffix_tree ss))
