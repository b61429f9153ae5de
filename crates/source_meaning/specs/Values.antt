-- Believed: reads and writes of cells.
use Rattle.std.specs.Prelude.{ℕ, zero, suc, Bool, true, false, not, List, [], ◌∷◌, length, if◌then◌else◌}
use Rattle.source_meaning.specs.Shapes.{Shape}
use Rattle.source_meaning.specs.Memory.{Spot, Scalar, Content, Holds, Blank, Gone, Lent, cell_at, with_cell, beyond, any_moved, is_of}
use Rattle.source_meaning.specs.Steps.{Act, give, ◌>>=◌, ◌>>◌, stuck, memory, set_memory, need, check}

-- a cell that is Blank, Gone or Lent isn't read
abbrev pub value_held : Content → Act Scalar
value_held (Holds v) = give v
value_held Blank = stuck
value_held Gone = stuck
value_held (Lent v) = stuck

-- a read through a region that isn't live is stuck
abbrev pub read_cell : Spot → Act Scalar
read_cell s = memory >>= λ m. need (cell_at m s) >>= λ c. value_held c.content

-- reads the given number of cells from a spot on
abbrev pub read_cells : ℕ → Spot → Act (List Scalar)
read_cells zero s = give []
read_cells (suc n) s = read_cell s >>= λ v. read_cells n (beyond s 1) >>= λ vs. give (v ∷ vs)

-- a cell's content is replaced
abbrev pub put_content : Spot → Content → Act (Unit {0})
put_content s c = memory >>= λ m. need (cell_at m s) >>= λ old. set_memory (with_cell m s (record old { content = c }))

-- whether a cell is lent
abbrev pub is_lent : Content → Bool
is_lent (Lent v) = true
is_lent c = false

-- a cell that is Lent isn't written, and what is written is of the cell's type
abbrev pub write_cell : Spot → Scalar → Act (Unit {0})
write_cell s v =
    memory >>= λ m. need (cell_at m s) >>= λ old.
    check (not (is_lent old.content)) >> (check (is_of old.shape v) >> put_content s (Holds v))

-- a value is stored to the cells from a spot on
abbrev pub write_cells : Spot → List Scalar → Act (Unit {0})
write_cells s [] = give tt
write_cells s (v ∷ vs) = write_cell s v >> write_cells (beyond s 1) vs

-- the given number of cells from a spot on get this content
abbrev pub put_contents : ℕ → Spot → Content → Act (Unit {0})
put_contents zero s c = give tt
put_contents (suc n) s c = put_content s c >> put_contents n (beyond s 1) c

-- a value that is given away: where it can't be copied, it is moved and leaves all its cells Gone
abbrev pub take_cells : List Shape → Spot → Act (List Scalar)
take_cells shapes s =
    read_cells (length shapes) s >>= λ vs.
    (if any_moved shapes then put_contents (length shapes) s Gone else give tt) >> give vs
