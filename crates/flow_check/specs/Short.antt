-- View of code: what flow asks for of the judgement of a part, by what is answered of it.
use Rattle.std.specs.Prelude.{Bool, false, not, ℕ}
use Rattle.source_typing.specs.Moves.{in_block}
use Rattle.source_typing.specs.Scope.{Env, Value}
use Rattle.source_typing.specs.Tables.{is_copyable}
use Rattle.source_typing.specs.Types.{is_unique}
use Rattle.source_typing.specs.Verdicts.{Of}
use Rattle.check_faults.specs.Verdicts.{Is, NotJudged, Short, Wrong}

-- whether a use takes the value away, since its type can't be copied; of a part that has a fault or isn't checked, no
abbrev pub is_moved_short : Env → Short Value → Bool
is_moved_short g (Is v) = not (is_copyable g.tables v.type)
is_moved_short g (Wrong f) = false
is_moved_short g NotJudged = false

-- whether it is a unique pointer
abbrev pub is_unique_short : Short Value → Bool
is_unique_short (Is v) = is_unique v.type
is_unique_short (Wrong f) = false
is_unique_short NotJudged = false

-- where it begins in the text
abbrev pub place_short : Short Value → ℕ
place_short (Is v) = v.at
place_short (Wrong f) = 0
place_short NotJudged = 0

-- whether it lies in the block of a unique pointer
abbrev pub in_block_short : Short Value → Bool
in_block_short (Is v) = in_block (Of v)
in_block_short (Wrong f) = false
in_block_short NotJudged = false
