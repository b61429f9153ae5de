-- Believed: where locals lie in a frame, and globals and strings in the data.
use Rattle.std.specs.Prelude.{ℕ, zero, suc, ◌+◌, ◌-◌, ◌*◌, ◌/◌, ◌^◌, List, [], ◌∷◌, nat_le, if◌then◌else◌, length}
use Rattle.core_meaning.specs.Core.{
  Local,
  Statement,
  Do,
  If,
  While,
  Block,
  Leave,
  Break,
  Continue,
  Call,
  Return,
  Raise,
  Statements,
  NoStatements,
  MoreStatements,
  Function,
  Datum,
}
use Rattle.core_lines.specs.Homes.{homes_in, saved_slot, saved_by}

-- ---- where locals lie in a frame

-- up to the next multiple of 4
abbrev pub rounded : ℕ → ℕ
rounded n = (n + 3) / 4 * 4

abbrev pub bytes_of : Local → ℕ
bytes_of l = l.count * l.layout.bytes

-- objects in order from an offset on, each at the next multiple of 4: where each begins, and where the last ends
abbrev pub offsets_from : ℕ → List Local → List ℕ
offsets_from low [] = []
offsets_from low (l ∷ ls) = rounded low ∷ offsets_from (rounded low + bytes_of l) ls

abbrev pub end_from : ℕ → List Local → ℕ
end_from low [] = low
end_from low (l ∷ ls) = end_from (rounded low + bytes_of l) ls

-- locals of which those with a home take no bytes
abbrev pub first_of : List ℕ → ℕ
first_of [] = 0
first_of (h ∷ hs) = h

abbrev pub rest_of : List ℕ → List ℕ
rest_of [] = []
rest_of (h ∷ hs) = hs

abbrev pub shrink : ℕ → Local → Local
shrink zero l = l
shrink (suc h) l = record l { count = 0 }

abbrev pub shrunk : List Local → List ℕ → List Local
shrunk [] hs = []
shrunk (l ∷ ls) hs = shrink (first_of hs) l ∷ shrunk ls (rest_of hs)

-- of the homes of names to come, those of a block's locals, and those of what comes behind them
abbrev pub homes_here : List Local → List ℕ → List ℕ
homes_here [] hs = []
homes_here (l ∷ ls) hs = first_of hs ∷ homes_here ls (rest_of hs)

abbrev pub homes_after : List Local → List ℕ → List ℕ
homes_after [] hs = hs
homes_after (l ∷ ls) hs = homes_after ls (rest_of hs)

-- those behind a statement
abbrev mutual
  pub names_after : Statement → List ℕ → List ℕ
  names_after (Do operation) hs = hs
  names_after (If t these those) hs = names_after_all those (names_after_all these hs)
  names_after (While test t body) hs = names_after_all body (names_after_all test hs)
  names_after (Block locals body) hs = names_after_all body (homes_after locals hs)
  names_after (Leave body) hs = names_after_all body hs
  names_after Break hs = hs
  names_after Continue hs = hs
  names_after (Call results f arguments) hs = hs
  names_after (Return values) hs = hs
  names_after (Raise kind) hs = hs

  pub names_after_all : Statements → List ℕ → List ℕ
  names_after_all NoStatements hs = hs
  names_after_all (MoreStatements s ss) hs = names_after_all ss (names_after s hs)

-- a statement whose locals with homes take no bytes
abbrev mutual
  pub shrunk_in : List ℕ → Statement → Statement
  shrunk_in hs (Do operation) = Do operation
  shrunk_in hs (If t these those) = If t (shrunk_of hs these) (shrunk_of (names_after_all these hs) those)
  shrunk_in hs (While test t body) = While (shrunk_of hs test) t (shrunk_of (names_after_all test hs) body)
  shrunk_in hs (Block locals body) = Block (shrunk locals (homes_here locals hs)) (shrunk_of (homes_after locals hs) body)
  shrunk_in hs (Leave body) = Leave (shrunk_of hs body)
  shrunk_in hs Break = Break
  shrunk_in hs Continue = Continue
  shrunk_in hs (Call results f arguments) = Call results f arguments
  shrunk_in hs (Return values) = Return values
  shrunk_in hs (Raise kind) = Raise kind

  pub shrunk_of : List ℕ → Statements → Statements
  shrunk_of hs NoStatements = NoStatements
  shrunk_of hs (MoreStatements s ss) = MoreStatements (shrunk_in hs s) (shrunk_of (names_after s hs) ss)

-- a function's body, as its frame has it
abbrev pub placed_body : Function → Statements
placed_body f = shrunk_of (homes_in f) f.body

abbrev pub greater : ℕ → ℕ → ℕ
greater a b = (if nat_le a b then b else a)

-- how high the locals of all blocks of a statement reach that begins at an offset: blocks that aren't in one another share their bytes
abbrev mutual
  pub highest : ℕ → Statement → ℕ
  highest low (Do operation) = low
  highest low (If t these those) = greater (highest_of low these) (highest_of low those)
  highest low (While test t body) = greater (highest_of low test) (highest_of low body)
  highest low (Block locals body) = highest_of (end_from low locals) body
  highest low (Leave body) = highest_of low body
  highest low Break = low
  highest low Continue = low
  highest low (Call results f arguments) = low
  highest low (Return values) = low
  highest low (Raise kind) = low

  pub highest_of : ℕ → Statements → ℕ
  highest_of low NoStatements = low
  highest_of low (MoreStatements s ss) = greater (highest low s) (highest_of low ss)

-- the words of a frame that are no objects: the return address, what is passed to a callee, the temporaries, and the registers that are saved
abbrev pub slots_of : Function → ℕ
slots_of f = saved_slot f + length (saved_by f)

-- where a function's temporary objects end, and its blocks' locals begin
abbrev pub own_end : Function → ℕ
own_end f = end_from (4 * slots_of f) f.own

-- more bytes than a stack has
abbrev pub too_many : ℕ
too_many = 2 ^ 25

-- the bytes of a frame: rounded up to 16, and no more than too many
abbrev pub frame_bytes : Function → ℕ
frame_bytes f =
    (if nat_le (highest_of (own_end f) (placed_body f)) (too_many - 16) then (highest_of (own_end f) (placed_body f) + 15) / 16 * 16 else too_many)

-- ---- the data: each global and string from a multiple of 4 on

abbrev pub datum_local : Datum → Local
datum_local d = record { layout = d.layout; count = d.count }

abbrev pub datum_locals : List Datum → List Local
datum_locals [] = []
datum_locals (d ∷ ds) = datum_local d ∷ datum_locals ds
