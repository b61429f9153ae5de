-- What a machine's memory holds where its code is placed and its data are a program's: bytes.
use Rattle.std.specs.Prelude.{slice_index}
use Rattle.std.proofs.Common.{◌≡◌, ℕ, zero, suc, ◌+◌, ◌-◌, ◌*◌, ◌/◌, ◌%◌, ◌<◌, ◌^◌, Bool, true, false, List, [], ◌∷◌, ◌++◌, length, nat_eq, nat_lt}
use Rattle.std.proofs.Common.{if◌then◌else◌, sym, ap, subst, arith}
use Rattle.std.proofs.Common.{length-append}
use Rattle.arena_laws.specs.Holdings.{arena_base}
use Rattle.cyc_image.specs.Format.{u32_bytes}
use Rattle.core_meaning.specs.Memory.{Content, PartShape}
use Rattle.core_meaning.specs.Core.{Datum}
use Rattle.core_lines.specs.Selected.{rounded}
use Rattle.core_lines.specs.Statics.{data_bytes, datum_bytes, element_bytes, cells_bytes, parts_bytes, number_bytes, number_in, zeros}
use Rattle.rv32_layout.specs.Placed.{AreWords, AreInstructions}
use Rattle.rv32_isa.specs.declared.instruction.Instr.{Instr}
use Rattle.rv32_machine.specs.Arrays.{bytes_in}
use Rattle.rv32_machine.specs.State.{code_base, data_base, stack_base}

abbrev pub AreSmall : List ℕ → Type 0
AreSmall [] = Unit {0}
AreSmall (b ∷ bs) = (b < 256) × AreSmall bs

both_small : (xs ys : List ℕ) → AreSmall xs → AreSmall ys → AreSmall (xs ++ ys)
both_small [] ys first second = second
both_small (x ∷ xs) ys first second = (first.0, both_small xs ys first.1 second)

pub each_small : (xs : List ℕ) → AreSmall xs → (k : ℕ) → slice_index xs k < 256
each_small [] small k = omega arith
each_small (x ∷ xs) small zero = small.0
each_small (x ∷ xs) small (suc k) = each_small xs small.1 k

-- ---- code

word_small : (n : ℕ) → n < 2 ^ 32 → AreSmall (u32_bytes n)
word_small n small = (omega arith, (omega arith, (omega arith, (omega arith, tt))))

words_small : (instrs : List Instr) (bytes : List ℕ) → AreWords instrs bytes → AreSmall bytes
words_small [] bytes are = subst AreSmall (sym are) tt
words_small (instr ∷ instrs) bytes (front, rest, parts, is, more) =
    subst AreSmall (sym parts)
    (both_small front rest (subst AreSmall (sym is.spelled) (word_small is.word is.is_word)) (words_small instrs rest more))

pub code_small : (bytes : List ℕ) → AreInstructions bytes → AreSmall bytes
code_small bytes (instrs, are) = words_small instrs bytes are

words_whole : (instrs : List Instr) (bytes : List ℕ) → AreWords instrs bytes → length bytes % 4 ≡ 0
words_whole [] bytes are = ap (λ bs. length bs % 4) are
words_whole (instr ∷ instrs) bytes (front, rest, parts, is, more) =
    let others = words_whole instrs rest more in
    omega (arith, ap length parts, length-append front rest, ap length is.spelled, others)

pub code_whole : (bytes : List ℕ) → AreInstructions bytes → length bytes % 4 ≡ 0
code_whole bytes (instrs, are) = words_whole instrs bytes are

-- ---- data

zeros_small : (n : ℕ) → AreSmall (zeros n)
zeros_small zero = tt
zeros_small (suc n) = (omega arith, zeros_small n)

number_small : (width n : ℕ) → AreSmall (number_bytes width n)
number_small width n = by (nat_eq width 1)
  where
    by : (b : Bool) → AreSmall (if b then n % 2 ^ 8 ∷ [] else n % 2 ^ 8 ∷ n / 2 ^ 8 % 2 ^ 8 ∷ n / 2 ^ 16 % 2 ^ 8 ∷ n / 2 ^ 24 % 2 ^ 8 ∷ [])
    by true = (omega arith, tt)
    by false = (omega arith, (omega arith, (omega arith, (omega arith, tt))))

parts_small : (os : List ℕ) (first : ℕ → Content) (j : ℕ) (ss : List PartShape) → AreSmall (parts_bytes os first j ss)
parts_small os first j [] = tt
parts_small os first j (s ∷ ss) =
    both_small (number_bytes s.width (number_in os (first j))) (parts_bytes os first (j + 1) ss) (number_small s.width (number_in os (first j)))
    (parts_small os first (j + 1) ss)

cells_small : (os : List ℕ) (first : ℕ → ℕ → Content) (k : ℕ) (cs : List (List PartShape)) → AreSmall (cells_bytes os first k cs)
cells_small os first k [] = tt
cells_small os first k (c ∷ cs) =
    both_small (parts_bytes os (first k) 0 c) (cells_bytes os first (k + 1) cs) (parts_small os (first k) 0 c) (cells_small os first (k + 1) cs)

elements_small : (os : List ℕ) (cells : List (List PartShape)) (first : ℕ → ℕ → Content) (k count : ℕ) → AreSmall (element_bytes os cells first k count)
elements_small os cells first k zero = tt
elements_small os cells first k (suc count) =
    both_small (cells_bytes os first k cells) (element_bytes os cells first (k + length cells) count) (cells_small os first k cells)
    (elements_small os cells first (k + length cells) count)

pub data_small : (os : List ℕ) (low : ℕ) (ds : List Datum) → AreSmall (data_bytes os low ds)
data_small os low [] = tt
data_small os low (d ∷ ds) =
    let next = rounded low + length (datum_bytes os d) in
    let rest = data_bytes os next ds in
    both_small (zeros (rounded low - low)) (datum_bytes os d ++ rest) (zeros_small (rounded low - low))
    (both_small (datum_bytes os d) rest (elements_small os d.layout.cells d.first 0 d.count) (data_small os next ds))

-- ---- memory

if_small : (b : Bool) (x y : ℕ) → x < 256 → y < 256 → (if b then x else y) < 256
if_small true x y one other = one
if_small false x y one other = other

pub memory_small : (pages : ℕ) (arena : ℕ → ℕ) (code statics stack : List ℕ) → ((at : ℕ) → arena at < 256) → ((k : ℕ) → slice_index code k < 256)
    → ((k : ℕ) → slice_index statics k < 256) → ((k : ℕ) → slice_index stack k < 256) → (at : ℕ) → bytes_in pages arena code statics stack at < 256
unfolding bytes_in
memory_small pages arena code statics stack small_arena small_code small_statics small_stack at =
    if_small (nat_lt at code_base) 0 _ (omega arith)
    (if_small (nat_lt at (code_base + length code)) (slice_index code (at - code_base)) _ (small_code (at - code_base))
    (if_small (nat_lt at data_base) 0 _ (omega arith)
    (if_small (nat_lt at (data_base + length statics)) (slice_index statics (at - data_base)) _ (small_statics (at - data_base))
    (if_small (nat_lt at stack_base) 0 _ (omega arith)
    (if_small (nat_lt at (stack_base + length stack)) (slice_index stack (at - stack_base)) _ (small_stack (at - stack_base))
    (if_small (nat_lt at arena_base) 0 _ (omega arith)
    (if_small (nat_lt at (arena_base + pages * 4096)) (arena at) 0 (small_arena at) (omega arith))))))))
