-- Believed: the homes of locals: which registers they are, and which locals of a function have one.
use Rattle.std.specs.Prelude.{ℕ, zero, suc, ◌+◌, Bool, false, not, ◌||◌, ◌&&◌, nat_eq, nat_le, if◌then◌else◌, List, [], ◌∷◌, ◌++◌, length}
use Rattle.core_meaning.specs.Memory.{PartShape}
use Rattle.core_meaning.specs.Core.{
  Operation,
  LocalAddress,
  Local,
  Statement,
  Do,
  If,
  While,
  Block,
  Leave,
  Break,
  Continue,
  Call,
  Return,
  Raise,
  Statements,
  NoStatements,
  MoreStatements,
  Function,
}

-- ---- registers

-- x8, x9, and x18 to x27, which a callee keeps
abbrev pub is_home : ℕ → Bool
is_home q = nat_eq q 8 || (nat_eq q 9 || (nat_le 18 q && nat_le q 27))

abbrev pub home_registers : List ℕ
home_registers = 8 ∷ 9 ∷ 18 ∷ 19 ∷ 20 ∷ 21 ∷ 22 ∷ 23 ∷ 24 ∷ 25 ∷ 26 ∷ 27 ∷ []

-- a register that only first lines, returns and stores to locals change: the stack pointer, x3, where the stack's start is, and the homes
abbrev pub stays : ℕ → Bool
stays q = nat_eq q 2 || (nat_eq q 3 || is_home q)

abbrev pub is_among : ℕ → List ℕ → Bool
is_among q [] = false
is_among q (r ∷ rs) = nat_eq q r || is_among q rs

-- ---- which locals may have a home: those of one part that is a word or a byte, whose address no operation takes

abbrev pub fills : ℕ → List (List PartShape) → Bool
fills bytes ((s ∷ []) ∷ []) = nat_eq s.offset 0 && (nat_eq s.width bytes && (nat_eq bytes 1 || nat_eq bytes 4))
fills bytes [] = false
fills bytes ([] ∷ cs) = false
fills bytes ((s ∷ t ∷ ss) ∷ cs) = false
fills bytes ((s ∷ []) ∷ c ∷ cs) = false

abbrev pub is_scalar : Local → Bool
is_scalar l = nat_eq l.count 1 && fills l.layout.bytes l.layout.cells

abbrev pub takes : ℕ → ℕ → Operation → Bool
takes out local (LocalAddress t o l) = nat_eq o out && nat_eq l local
takes out local _ = false

-- whether a statement takes the address of a local of the block that is `out` blocks out
abbrev mutual
  pub addressed : ℕ → ℕ → Statement → Bool
  addressed out local (Do operation) = takes out local operation
  addressed out local (If t these those) = addressed_of out local these || addressed_of out local those
  addressed out local (While test t body) = addressed_of out local test || addressed_of out local body
  addressed out local (Block locals body) = addressed_of (suc out) local body
  addressed out local (Leave body) = addressed_of out local body
  addressed out local Break = false
  addressed out local Continue = false
  addressed out local (Call results f arguments) = false
  addressed out local (Return values) = false
  addressed out local (Raise kind) = false

  pub addressed_of : ℕ → ℕ → Statements → Bool
  addressed_of out local NoStatements = false
  addressed_of out local (MoreStatements s ss) = addressed out local s || addressed_of out local ss

-- of a block's locals, from the n-th on
abbrev pub eligible_from : ℕ → List Local → Statements → List Bool
eligible_from n [] body = []
eligible_from n (l ∷ ls) body = (is_scalar l && not (addressed_of 0 n body)) ∷ eligible_from (suc n) ls body

-- of all blocks of a statement, each block before those in it
abbrev mutual
  pub eligible : Statement → List Bool
  eligible (Do operation) = []
  eligible (If t these those) = eligible_of these ++ eligible_of those
  eligible (While test t body) = eligible_of test ++ eligible_of body
  eligible (Block locals body) = eligible_from 0 locals body ++ eligible_of body
  eligible (Leave body) = eligible_of body
  eligible Break = []
  eligible Continue = []
  eligible (Call results f arguments) = []
  eligible (Return values) = []
  eligible (Raise kind) = []

  pub eligible_of : Statements → List Bool
  eligible_of NoStatements = []
  eligible_of (MoreStatements s ss) = eligible s ++ eligible_of ss

abbrev pub flag_at : List Bool → ℕ → Bool
flag_at [] i = false
flag_at (b ∷ bs) zero = b
flag_at (b ∷ bs) (suc i) = flag_at bs i

-- The register of a local, or 0: those that may have one get these registers in turn, in this order.
abbrev pub home_for : List Bool → List ℕ → List ℕ → ℕ → ℕ
home_for flags [] rs i = 0
home_for flags (n ∷ ns) [] i = 0
home_for flags (n ∷ ns) (r ∷ rs) i =
    (if flag_at flags n then (if nat_eq i n then r else home_for flags ns rs i) else home_for flags ns (r ∷ rs) i)

-- those of `count` locals, from the i-th on
abbrev pub homes_from : (ℕ → ℕ) → ℕ → ℕ → List ℕ
homes_from home i zero = []
homes_from home i (suc count) = home i ∷ homes_from home (suc i) count

abbrev pub home_in : Function → ℕ → ℕ
home_in f = home_for (eligible_of f.body) f.order home_registers

abbrev pub homes_in : Function → List ℕ
homes_in f = homes_from (home_in f) 0 (length (eligible_of f.body))

-- those that are none but 0
abbrev pub some_of : List ℕ → List ℕ
some_of [] = []
some_of (zero ∷ rs) = some_of rs
some_of (suc r ∷ rs) = suc r ∷ some_of rs

-- the registers that a function saves and restores, and the first of the slots where it keeps them
abbrev pub saved_by : Function → List ℕ
saved_by f = some_of (homes_in f)

abbrev pub saved_slot : Function → ℕ
saved_slot f = 1 + f.passed + f.temporaries
