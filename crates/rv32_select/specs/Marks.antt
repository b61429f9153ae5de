-- View of code: which locals may have a home, as one walk over a body finds it: each local of the blocks around is marked as long as its address isn't taken.
use Rattle.std.specs.Prelude.{ℕ, zero, suc, Bool, false, not, ◌&&◌, nat_eq, if◌then◌else◌, List, [], ◌∷◌}
use Rattle.core_meaning.specs.Core.{Local}
use Rattle.core_lines.specs.Homes.{fills, is_scalar, flag_at}
use Rattle.core_lines.specs.Selected.{first_of, rest_of}
use Rattle.cyc_core.specs.declared.layout.CellLayout.{CellLayout}
use Rattle.cyc_core.specs.Trees.{cell_bytes, made_parts}

-- of a block's locals, from the n-th on, those that are marked stay so but for some
abbrev pub masked : (ℕ → Bool) → ℕ → List Bool → List Bool
masked without n [] = []
masked without n (b ∷ bs) = (b && not (without n)) ∷ masked without (suc n) bs

-- and of blocks, the first of which is so many blocks out
abbrev pub marked : (ℕ → ℕ → Bool) → ℕ → List (List Bool) → List (List Bool)
marked without out [] = []
marked without out (bs ∷ bss) = masked (without out) 0 bs ∷ marked without (suc out) bss

-- a block's locals before any address of them is taken
abbrev pub scalars : List Local → List Bool
scalars [] = []
scalars (l ∷ ls) = is_scalar l ∷ scalars ls

-- of these numbers, in turn, those of marked locals
abbrev pub chosen : List Bool → List ℕ → List ℕ
chosen flags [] = []
chosen flags (n ∷ ns) = (if flag_at flags n then n ∷ chosen flags ns else chosen flags ns)

-- the register of a number where those of a list get these in turn, or 0
abbrev pub register_of : List ℕ → List ℕ → ℕ → ℕ
register_of [] rs i = 0
register_of (n ∷ ns) [] i = 0
register_of (n ∷ ns) (r ∷ rs) i = (if nat_eq n i then r else register_of ns rs i)

-- whether a list has a number there
abbrev pub is_at : List ℕ → ℕ → ℕ → Bool
is_at [] index n = false
is_at (x ∷ xs) zero n = nat_eq x n
is_at (x ∷ xs) (suc index) n = is_at xs index n

-- the first so many of a list, 0 for those that it hasn't
abbrev pub first_homes : ℕ → List ℕ → List ℕ
first_homes zero hs = []
first_homes (suc n) hs = first_of hs ∷ first_homes n (rest_of hs)

-- a cell of one part is all that an object of so many bytes has
abbrev pub fills_alone : CellLayout → ℕ → Bool
fills_alone c bytes =
    fills (cell_bytes c.cell) (made_parts c.cell 0 ∷ []) && (nat_eq c.offset 0 && (nat_eq c.padding 0 && nat_eq (cell_bytes c.cell) bytes))
