-- Believed: results that go straight into the home of a local, where the next statement puts them there.
use Rattle.std.specs.Prelude.{ℕ, zero, suc, Bool, true, false, not, ◌&&◌, nat_eq, if◌then◌else◌, List, [], ◌++◌, Option, Some, None}
use Rattle.core_meaning.specs.Core.{Binary, Equal, NotEqual, Less, LessEqual, LessUnsigned, LessEqualUnsigned}
use Rattle.core_meaning.specs.Core.{Operation, Apply, Put, Statement, Do, Statements, NoStatements, MoreStatements}
use Rattle.core_lines.specs.declared.line.Line.{Line}
use Rattle.core_lines.specs.Held.{Holding, nth, nth_block, source_of, same_as}
use Rattle.core_lines.specs.Operands.{keep_code}
use Rattle.core_lines.specs.Computed.{Surroundings, apply_code}

-- Whether an operation's last instruction alone changes the result's register, so that both words are read before. Comparisons are left out, of which most have
-- two that do.
abbrev pub is_arithmetic : Binary → Bool
is_arithmetic Equal = false
is_arithmetic NotEqual = false
is_arithmetic Less = false
is_arithmetic LessEqual = false
is_arithmetic LessUnsigned = false
is_arithmetic LessEqualUnsigned = false
is_arithmetic o = true

-- the home that an operation puts a temporary's whole word into, or 0: a byte's home doesn't get all of it
abbrev pub home_put : (homes : List (List ℕ)) → ℕ → Operation → ℕ
home_put homes t (Put out local width x) = (if nat_eq x t && not (nat_eq width 1) then nth (nth_block homes out) local else 0)
home_put homes t operation = 0

abbrev pub home_put_by : (homes : List (List ℕ)) → ℕ → Statement → ℕ
home_put_by homes t (Do operation) = home_put homes t operation
home_put_by homes t s = 0

abbrev pub home_put_first : (homes : List (List ℕ)) → ℕ → Statements → ℕ
home_put_first homes t NoStatements = 0
home_put_first homes t (MoreStatements s ss) = home_put_by homes t s

-- a sum with 0 is a move
abbrev pub home_of_result : Bool → Option ℕ → ℕ → ℕ
home_of_result computes None home = (if computes then home else 0)
home_of_result computes (Some z) home = 0

-- The home that the result of an operation goes straight into, where these statements are next, or 0.
abbrev pub home_of_operation : (homes : List (List ℕ)) → List Holding → Operation → Statements → ℕ
home_of_operation homes hs (Apply o t x y) ss =
    home_of_result (is_arithmetic o) (same_as o x y (source_of hs x) (source_of hs y)) (home_put_first homes t ss)
home_of_operation homes hs operation ss = 0

abbrev pub home_behind : (homes : List (List ℕ)) → List Holding → Statement → Statements → ℕ
home_behind homes hs (Do operation) ss = home_of_operation homes hs operation ss
home_behind homes hs s ss = 0

-- the code of such an operation: its last instruction has the home in the place of the result's register
abbrev pub straight_operation : Bool → Surroundings → ℕ → Operation → List Line
straight_operation keeps u home (Apply o t x y) = apply_code u o home x y ++ keep_code keeps u.passed home t
straight_operation keeps u home operation = []

abbrev pub straight_code : Bool → Surroundings → ℕ → Statement → List Line
straight_code keeps u home (Do operation) = straight_operation keeps u home operation
straight_code keeps u home s = []

-- the code of the first of statements, whose result goes straight into this home, if it isn't 0
abbrev pub first_code : ℕ → Bool → Surroundings → Statement → List Line → List Line
first_code zero keeps u s lines = lines
first_code (suc h) keeps u s lines = straight_code keeps u (suc h) s

-- and of the others, without the one that puts it there then
abbrev pub later_code : ℕ → (all others : List Line) → List Line
later_code zero all others = all
later_code (suc h) all others = others
