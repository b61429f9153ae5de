-- Flags in runs: what is put behind them, what is set in them, and those of two lists together.
use Rattle.std.proofs.Common.{◌≡◌, ℕ, zero, suc, ◌+◌, ◌-◌, ◌<◌, ◌≤◌, Bool, true, false, not, ◌||◌, List, [], ◌∷◌, ◌++◌, length, replicate, reverse}
use Rattle.std.proofs.Common.{Option, Some, None, IsSome, option_to_list, refl, sym, ap, ◌∙◌, arith}
use Rattle.std.proofs.lemmas.Bool.{false≢true}
use Rattle.std.proofs.lemmas.List.{append_assoc, append-nil, reverse-append, replicate-append-replicate}
use Rattle.core_lines.specs.Homes.{flag_at}
use Rattle.core_lines.specs.Saved.{no_flags, cleared, flagged, either_flagged}
use Rattle.rv32_select.specs.declared.runs.Run.{Run}
use Rattle.rv32_select.specs.Runs.{flags_in, run_flags, set_at}

-- ---- two flags

pub both_true : (a b : Bool) → a ≡ true → b ≡ true → a ≡ b
both_true a b e f = e ∙ sym f

pub not_both : (a b : Bool) → a ≡ false → not b ≡ true → a ≡ b
not_both a true e f = absurd (false≢true f)
not_both a false e f = e

-- ---- what is put behind runs

pub flags_behind : (xs ys : List Run) → flags_in (xs ++ ys) ≡ flags_in xs ++ flags_in ys
flags_behind [] ys = refl
flags_behind (x ∷ xs) ys = ap (λ bs. run_flags x ++ bs) (flags_behind xs ys) ∙ sym (append_assoc (run_flags x) (flags_in xs) (flags_in ys))

pub flags_last : (xs : List Run) (r : Run) → flags_in (xs ++ r ∷ []) ≡ flags_in xs ++ run_flags r
flags_last xs r = flags_behind xs (r ∷ []) ∙ ap (λ bs. flags_in xs ++ bs) (append-nil (run_flags r))

pub run_pushed : (old new : List Run) (r : Run) → new ≡ old ++ r ∷ [] → flags_in new ≡ flags_in old ++ replicate r.count r.value
run_pushed old new r e = ap flags_in e ∙ flags_last old r

pub one_run : (old new : List Bool) (last : Run) (count both : ℕ) (value : Bool) → last.value ≡ value → both ≡ last.count + count
    → new ≡ old ++ replicate both value → new ≡ (old ++ run_flags last) ++ replicate count value
one_run old new last count both value same many e =
    e ∙ ap (λ n. old ++ replicate n value) many ∙ ap (λ bs. old ++ bs) (sym (replicate-append-replicate last.count count value))
    ∙ ap (λ v. old ++ (replicate last.count v ++ replicate count value)) (sym same)
    ∙ sym (append_assoc old (run_flags last) (replicate count value))

pub two_runs : (old middle new : List Bool) (last : Run) (count : ℕ) (value : Bool) → middle ≡ old ++ replicate last.count last.value
    → new ≡ middle ++ replicate count value → new ≡ (old ++ run_flags last) ++ replicate count value
two_runs old middle new last count value e f = f ∙ ap (λ bs. bs ++ replicate count value) e

pub none_put : (bs : List Bool) (count : ℕ) (value : Bool) → count ≡ 0 → bs ≡ bs ++ replicate count value
none_put bs count value none = sym (append-nil bs) ∙ ap (λ n. bs ++ replicate n value) (sym none)

pub put_last : (old left new : List Run) (last : Run) (count : ℕ) (value : Bool) → old ≡ left ++ option_to_list (Some last)
    → flags_in new ≡ (flags_in left ++ run_flags last) ++ replicate count value → flags_in new ≡ flags_in old ++ replicate count value
put_last old left new last count value e f = f ∙ ap (λ bs. bs ++ replicate count value) (sym (ap flags_in e ∙ flags_last left last))

pub put_first : (old left new : List Run) (count : ℕ) (value : Bool) → old ≡ left ++ option_to_list None
    → flags_in new ≡ flags_in left ++ replicate count value → flags_in new ≡ flags_in old ++ replicate count value
put_first old left new count value e f = f ∙ ap (λ rs. flags_in rs ++ replicate count value) (sym (e ∙ append-nil left))

-- ---- a flag that is set, and one that is asked for

set_within : (value v : Bool) (left count : ℕ) → left < count
    → flagged value left (replicate count v) ≡ replicate left v ++ value ∷ replicate (count - left - 1) v
set_within value v left zero less = absurd (omega (arith, less))
set_within value v zero (suc count) less =
    let one : count ≡ suc count - 0 - 1 = omega arith in
    ap (λ n. value ∷ replicate n v) one
set_within value v (suc left) (suc count) less =
    let one : count - left - 1 ≡ suc count - suc left - 1 = omega arith in
    ap (λ bs. v ∷ bs) (set_within value v left count (omega (arith, less)))
    ∙ ap (λ n. v ∷ (replicate left v ++ value ∷ replicate n v)) one

set_first : (value v : Bool) (left count : ℕ) (rest : List Bool) → left < count
    → flagged value left (replicate count v ++ rest) ≡ flagged value left (replicate count v) ++ rest
set_first value v left zero rest less = absurd (omega (arith, less))
set_first value v zero (suc count) rest less = refl
set_first value v (suc left) (suc count) rest less = ap (λ bs. v ∷ bs) (set_first value v left count rest (omega (arith, less)))

set_behind : (value v : Bool) (left count : ℕ) (rest : List Bool) → count ≤ left
    → flagged value left (replicate count v ++ rest) ≡ replicate count v ++ flagged value (left - count) rest
set_behind value v left zero rest more =
    let all : left ≡ left - 0 = omega arith in
    ap (λ n. flagged value n rest) all
set_behind value v zero (suc count) rest more = absurd (omega (arith, more))
set_behind value v (suc left) (suc count) rest more =
    let same : left - count ≡ suc left - suc count = omega arith in
    ap (λ bs. v ∷ bs) (set_behind value v left count rest (omega (arith, more))) ∙ ap (λ n. v ∷ (replicate count v ++ flagged value n rest)) same

pub set_run : (old before middle new : List Bool) (r : Run) (number rest : ℕ) (value : Bool) → number + 1 ≤ r.count → rest ≡ r.count - number - 1
    → before ≡ old ++ replicate number r.value → middle ≡ before ++ replicate 1 value → new ≡ middle ++ replicate rest r.value
    → new ≡ old ++ flagged value number (run_flags r)
set_run old before middle new r number rest value less many e f g =
    let last = replicate rest r.value in
    g ∙ ap (λ bs. bs ++ last) (f ∙ ap (λ bs. bs ++ value ∷ []) e) ∙ append_assoc (old ++ replicate number r.value) (value ∷ []) last
    ∙ append_assoc old (replicate number r.value) (value ∷ last)
    ∙ ap (λ n. old ++ (replicate number r.value ++ value ∷ replicate n r.value)) many
    ∙ ap (λ bs. old ++ bs) (sym (set_within value r.value number r.count (omega (arith, less))))

-- behind a run that has the flag, and behind one that hasn't
pub next_here : (old new rest : List Bool) (r : Run) (number : ℕ) (value : Bool) → number < r.count → new ≡ old ++ flagged value number (run_flags r)
    → new ++ rest ≡ old ++ flagged value number (run_flags r ++ rest)
next_here old new rest r number value less e =
    ap (λ bs. bs ++ rest) e ∙ append_assoc old (flagged value number (run_flags r)) rest
    ∙ ap (λ bs. old ++ bs) (sym (set_first value r.value number r.count rest less))

pub next_behind : (old new rest : List Bool) (r : Run) (number left : ℕ) (value : Bool) → r.count ≤ number → left ≡ number - r.count
    → new ≡ old ++ run_flags r → new ++ flagged value left rest ≡ old ++ flagged value number (run_flags r ++ rest)
next_behind old new rest r number left value more is e =
    (λ i. e i ++ flagged value (is i) rest) ∙ append_assoc old (run_flags r) (flagged value (number - r.count) rest)
    ∙ ap (λ bs. old ++ bs) (sym (set_behind value r.value number r.count rest more))

pub next_none : (old new rest : List Bool) (r : Run) → new ≡ old ++ run_flags r → new ++ rest ≡ old ++ (run_flags r ++ rest)
next_none old new rest r e = ap (λ bs. bs ++ rest) e ∙ append_assoc old (run_flags r) rest

pub set_nothing : (value : Bool) (o : Option ℕ) → set_at value o [] ≡ []
set_nothing value None = refl
set_nothing value (Some t) = refl

pub flag_here : (v : Bool) (left count : ℕ) (rest : List Bool) → left < count → flag_at (replicate count v ++ rest) left ≡ v
flag_here v left zero rest less = absurd (omega (arith, less))
flag_here v zero (suc count) rest less = refl
flag_here v (suc left) (suc count) rest less = flag_here v left count rest (omega (arith, less))

pub flag_behind : (v : Bool) (left count : ℕ) (rest : List Bool) → count ≤ left
    → flag_at (replicate count v ++ rest) left ≡ flag_at rest (left - count)
flag_behind v left zero rest more =
    let all : left ≡ left - 0 = omega arith in
    ap (λ n. flag_at rest n) all
flag_behind v zero (suc count) rest more = absurd (omega (arith, more))
flag_behind v (suc left) (suc count) rest more =
    let same : left - count ≡ suc left - suc count = omega arith in
    flag_behind v left count rest (omega (arith, more)) ∙ ap (λ n. flag_at rest n) same

-- one that is set to what it is
pub same_set : (bs : List Bool) (t : ℕ) (value : Bool) → flag_at bs t ≡ value → bs ≡ flagged value t bs
same_set [] t value e = refl
same_set (b ∷ bs) zero value e = ap (λ c. c ∷ bs) e
same_set (b ∷ bs) (suc t) value e = ap (λ cs. b ∷ cs) (same_set bs t value e)

-- ---- all of them

pub none_alike : (n : ℕ) (rs : List Run) → flags_in rs ≡ [] ++ replicate n false → flags_in rs ≡ no_flags n
none_alike n rs e = e ∙ by n
  where
    by : (k : ℕ) → replicate k false ≡ no_flags k
    by zero = refl
    by (suc k) = ap (λ bs. false ∷ bs) (by k)

pub cleared_run : (v : Bool) (count : ℕ) (rest : List Bool) → cleared (replicate count v ++ rest) ≡ replicate count false ++ cleared rest
cleared_run v zero rest = refl
cleared_run v (suc count) rest = ap (λ bs. false ∷ bs) (cleared_run v count rest)

-- ---- those of two lists together

either_runs : (a b : Bool) (n : ℕ) (xs ys : List Bool)
    → either_flagged (replicate n a ++ xs) (replicate n b ++ ys) ≡ replicate n (a || b) ++ either_flagged xs ys
either_runs a b zero xs ys = refl
either_runs a b (suc n) xs ys = ap (λ cs. (a || b) ∷ cs) (either_runs a b n xs ys)

parted : (n m : ℕ) (b : Bool) (bs : List Bool) → n ≤ m → replicate m b ++ bs ≡ replicate n b ++ (replicate (m - n) b ++ bs)
parted n m b bs less =
    let many : m ≡ n + (m - n) = omega (arith, less) in
    ap (λ k. replicate k b ++ bs) many ∙ ap (λ cs. cs ++ bs) (sym (replicate-append-replicate n (m - n) b))
    ∙ append_assoc (replicate n b) (replicate (m - n) b) bs

-- a run that is there again, the first of what is left
again : (old new : List Run) (r : Run) → new ≡ old ++ r ∷ [] → flags_in (reverse new) ≡ run_flags r ++ flags_in (reverse old)
again old new r e = ap flags_in (ap reverse e ∙ reverse-append old (r ∷ []))

pub pair_first : (old new : List Bool) (one other r : Run) (first second left : List Run) (value : Bool) → one.count ≤ other.count
    → value ≡ (one.value || other.value) → new ≡ old ++ replicate one.count value → r.count ≡ other.count - one.count → r.value ≡ other.value
    → left ≡ second ++ r ∷ []
    → new ++ either_flagged (flags_in (reverse first)) (flags_in (reverse left))
    ≡ old ++ either_flagged (run_flags one ++ flags_in (reverse first)) (run_flags other ++ flags_in (reverse second))
pair_first old new one other r first second left value less v e many same is =
    let xs = flags_in (reverse first) in
    let ys = flags_in (reverse second) in
    let rest = replicate (other.count - one.count) other.value ++ ys in
    let there : flags_in (reverse left) ≡ rest = again second left r is ∙ (λ i. replicate (many i) (same i) ++ ys) in
    (λ i. (e ∙ ap (λ w. old ++ replicate one.count w) v) i ++ either_flagged xs (there i))
    ∙ append_assoc old (replicate one.count (one.value || other.value)) (either_flagged xs rest)
    ∙ ap (λ bs. old ++ bs) (sym (either_runs one.value other.value one.count xs rest))
    ∙ ap (λ bs. old ++ either_flagged (run_flags one ++ xs) bs) (sym (parted one.count other.count other.value ys less))

pub pair_second : (old new : List Bool) (one other r : Run) (first second left : List Run) (value : Bool) → other.count ≤ one.count
    → value ≡ (one.value || other.value) → new ≡ old ++ replicate other.count value → r.count ≡ one.count - other.count → r.value ≡ one.value
    → left ≡ first ++ r ∷ []
    → new ++ either_flagged (flags_in (reverse left)) (flags_in (reverse second))
    ≡ old ++ either_flagged (run_flags one ++ flags_in (reverse first)) (run_flags other ++ flags_in (reverse second))
pair_second old new one other r first second left value less v e many same is =
    let xs = flags_in (reverse first) in
    let ys = flags_in (reverse second) in
    let rest = replicate (one.count - other.count) one.value ++ xs in
    let there : flags_in (reverse left) ≡ rest = again first left r is ∙ (λ i. replicate (many i) (same i) ++ xs) in
    (λ i. (e ∙ ap (λ w. old ++ replicate other.count w) v) i ++ either_flagged (there i) ys)
    ∙ append_assoc old (replicate other.count (one.value || other.value)) (either_flagged rest ys)
    ∙ ap (λ bs. old ++ bs) (sym (either_runs one.value other.value other.count rest ys))
    ∙ ap (λ bs. old ++ either_flagged bs (run_flags other ++ ys)) (sym (parted other.count one.count one.value xs less))

pub either_alone : (bs : List Bool) → either_flagged bs [] ≡ bs
either_alone [] = refl
either_alone (b ∷ bs) = refl

no_runs : (xs : List Run) → (0 < length xs → IsSome {T = Run} None) → xs ≡ []
no_runs [] some = refl
no_runs (x ∷ xs) some = absurd (false≢true (some (omega arith)))

pub none_left : (now left : List Run) → now ≡ left ++ option_to_list None → (0 < length now → IsSome {T = Run} None) → (now ≡ []) × (left ≡ [])
none_left now left e some = let none = no_runs now some in (none, sym (append-nil left) ∙ sym e ∙ none)

-- a run is taken off where the other list has none left, and where both have one
pub taken_alone : (old new : List Bool) (now left others left_others : List Run) (r : Run) → now ≡ left ++ r ∷ []
    → others ≡ left_others ++ option_to_list None → (0 < length others → IsSome {T = Run} None) → new ≡ old ++ run_flags r
    → new ++ either_flagged (flags_in (reverse left)) (flags_in (reverse left_others))
    ≡ old ++ either_flagged (flags_in (reverse now)) (flags_in (reverse others))
taken_alone old new now left others left_others r e g some f =
    let rest = flags_in (reverse left) in
    let none = none_left others left_others g some in
    (λ i. new ++ either_flagged rest (flags_in (reverse (none.1 i))))
    ∙ (λ i. f i ++ either_alone rest i) ∙ append_assoc old (run_flags r) rest ∙ ap (λ bs. old ++ bs) (sym (again left now r e))
    ∙ ap (λ bs. old ++ bs) (sym (either_alone (flags_in (reverse now))))
    ∙ ap (λ rs. old ++ either_flagged (flags_in (reverse now)) (flags_in (reverse rs))) (sym none.0)

pub turned_more : (old new : List Bool) (now left : List Run) (r : Run) → now ≡ left ++ r ∷ [] → new ≡ old ++ run_flags r
    → new ++ flags_in (reverse left) ≡ old ++ flags_in (reverse now)
turned_more old new now left r e f =
    let rest = flags_in (reverse left) in
    ap (λ bs. bs ++ rest) f ∙ append_assoc old (run_flags r) rest ∙ ap (λ bs. old ++ bs) (sym (again left now r e))

pub taken_both : (old : List Bool) (ones others left_ones left_others : List Run) (one other : Run) → ones ≡ left_ones ++ one ∷ []
    → others ≡ left_others ++ other ∷ []
    → old ++ either_flagged (run_flags one ++ flags_in (reverse left_ones)) (run_flags other ++ flags_in (reverse left_others))
    ≡ old ++ either_flagged (flags_in (reverse ones)) (flags_in (reverse others))
taken_both old ones others left_ones left_others one other e f =
    let first = sym (again left_ones ones one e) in
    let second = sym (again left_others others other f) in
    λ i. old ++ either_flagged (first i) (second i)
