-- No function saves more than twelve registers; how long its first and last lines are.
use Rattle.std.specs.Prelude.{nat_eq, nat_lt, pos, length, ◌++◌, if◌then◌else◌}
use Rattle.std.proofs.Common.{◌≡◌, ℕ, zero, suc, ◌+◌, ◌*◌, ◌≤◌, Bool, true, false, List, [], ◌∷◌, refl, ap, ◌∙◌, subst, arith}
use Rattle.std.proofs.lemmas.Bool.{eqb-true, ne_eqb}
use Rattle.rv32_isa.specs.declared.instruction.Instr.TheVariants.{Addi, Add, Jalr}
use Rattle.core_meaning.specs.Core.{Function}
use Rattle.core_lines.specs.declared.line.Line.{Line}
use Rattle.core_lines.specs.declared.line.Line.TheVariants.{Plain}
use Rattle.core_lines.specs.Lines.{code_length}
use Rattle.core_lines.specs.Frames.{is_short, word_code, load_code, save_code, saves_code, restores_code, give_code, leave_code, epilogue_code}
use Rattle.core_lines.specs.Homes.{eligible_of, flag_at, home_for, homes_from, home_registers, some_of, saved_by}
use Rattle.core_lines.proofs.memory.Access.{length_of_both}

-- ---- twelve at most

same_homes : (f g : ℕ → ℕ) (i n : ℕ) → ((j : ℕ) → i ≤ j → f j ≡ g j) → homes_from f i n ≡ homes_from g i n
same_homes f g i zero same = refl
same_homes f g i (suc n) same =
    ap (λ h. h ∷ homes_from f (suc i) n) (same i (omega arith))
    ∙ ap (λ hs. g i ∷ hs) (same_homes f g (suc i) n (λ j le. same j (omega (arith, le))))

some_below : (h : ℕ) (hs : List ℕ) → length (some_of (h ∷ hs)) ≤ suc (length (some_of hs))
some_below zero hs = omega arith
some_below (suc h) hs = omega arith

some_above : (h : ℕ) (hs : List ℕ) → length (some_of hs) ≤ length (some_of (h ∷ hs))
some_above zero hs = omega arith
some_above (suc h) hs = omega arith

-- two that differ at one number alone
one_more : (f g : ℕ → ℕ) (m i n : ℕ) → ((j : ℕ) → nat_eq j m ≡ false → f j ≡ g j)
    → length (some_of (homes_from f i n)) ≤ suc (length (some_of (homes_from g i n)))
one_more f g m i zero same = omega arith
one_more f g m i (suc n) same = by (nat_eq i m) refl (one_more f g m (suc i) n same)
  where
    by : (c : Bool) → nat_eq i m ≡ c → length (some_of (homes_from f (suc i) n)) ≤ suc (length (some_of (homes_from g (suc i) n)))
        → length (some_of (f i ∷ homes_from f (suc i) n)) ≤ suc (length (some_of (g i ∷ homes_from g (suc i) n)))
    by true e rest =
        let is = eqb-true i m e in
        let others : homes_from f (suc i) n ≡ homes_from g (suc i) n =
        same_homes f g (suc i) n (λ j le. same j (ne_eqb j m (λ q. omega (arith, q, le, is)))) in
        let one = some_below (f i) (homes_from f (suc i) n) in
        let two = some_above (g i) (homes_from g (suc i) n) in
        let equal = ap (λ (hs : List ℕ). length (some_of hs)) others in
        omega (arith, one, two, equal)
    by false e rest = head (f i) (g i) (same i e)
      where
        head : (a b : ℕ) → a ≡ b → length (some_of (a ∷ homes_from f (suc i) n)) ≤ suc (length (some_of (b ∷ homes_from g (suc i) n)))
        head zero b is = subst (λ c. length (some_of (homes_from f (suc i) n)) ≤ suc (length (some_of (c ∷ homes_from g (suc i) n)))) is rest
        head (suc a) b is =
            subst (λ c. suc (length (some_of (homes_from f (suc i) n))) ≤ suc (length (some_of (c ∷ homes_from g (suc i) n)))) is (omega (arith, rest))

none_some : (f : ℕ → ℕ) (i n : ℕ) → ((j : ℕ) → f j ≡ 0) → length (some_of (homes_from f i n)) ≤ 0
none_some f i zero none = omega arith
none_some f i (suc n) none = by (f i) (none i) (none_some f (suc i) n none)
  where
    by : (h : ℕ) → h ≡ 0 → length (some_of (homes_from f (suc i) n)) ≤ 0 → length (some_of (h ∷ homes_from f (suc i) n)) ≤ 0
    by zero e rest = rest
    by (suc h) e rest = absurd (cc e)

few_homes : (flags : List Bool) (ns rs : List ℕ) (i n : ℕ) → length (some_of (homes_from (home_for flags ns rs) i n)) ≤ length rs
few_homes flags [] rs i n = let h = none_some (home_for flags [] rs) i n (λ j. refl) in omega (arith, h)
few_homes flags (m ∷ ns) [] i n = none_some (home_for flags (m ∷ ns) []) i n (λ j. refl)
few_homes flags (m ∷ ns) (q ∷ rs) i n = by (flag_at flags m) refl (few_homes flags ns rs i n) (few_homes flags ns (q ∷ rs) i n)
  where
    by : (b : Bool) → flag_at flags m ≡ b → length (some_of (homes_from (home_for flags ns rs) i n)) ≤ length rs
        → length (some_of (homes_from (home_for flags ns (q ∷ rs)) i n)) ≤ length (q ∷ rs)
        → length (some_of (homes_from (home_for flags (m ∷ ns) (q ∷ rs)) i n)) ≤ length (q ∷ rs)
    by true e one other =
        let more = one_more (home_for flags (m ∷ ns) (q ∷ rs)) (home_for flags ns rs) m i n
        (λ j not. ap (λ b. if b then (if nat_eq j m then q else home_for flags ns rs j) else home_for flags ns (q ∷ rs) j) e
        ∙ ap (λ c. if c then q else home_for flags ns rs j) not) in
        omega (arith, more, one)
    by false e one other =
        let same : homes_from (home_for flags (m ∷ ns) (q ∷ rs)) i n ≡ homes_from (home_for flags ns (q ∷ rs)) i n =
        same_homes (home_for flags (m ∷ ns) (q ∷ rs)) (home_for flags ns (q ∷ rs)) i n
        (λ j le. ap (λ b. if b then (if nat_eq j m then q else home_for flags ns rs j) else home_for flags ns (q ∷ rs) j) e) in
        let equal = ap (λ (hs : List ℕ). length (some_of hs)) same in
        omega (arith, equal, other)

pub saved_few : (f : Function) → length (saved_by f) ≤ 12
saved_few f = few_homes (eligible_of f.body) f.order home_registers 0 (length (eligible_of f.body))

-- ---- how long code is

pick_within : (short : Bool) (a b : List Line) → code_length a ≤ 12 → code_length b ≤ 12 → code_length (if short then a else b) ≤ 12
pick_within true a b p q = p
pick_within false a b p q = q

load_within : (to k : ℕ) → code_length (load_code to k) ≤ 12
load_within to k = pick_within (is_short (4 * k)) _ _ (omega arith) (omega arith)

save_within : (from k : ℕ) → code_length (save_code from k) ≤ 12
save_within from k = pick_within (is_short (4 * k)) _ _ (omega arith) (omega arith)

saves_within : (k : ℕ) (rs : List ℕ) → code_length (saves_code k rs) ≤ 12 * length rs
saves_within k [] = omega arith
saves_within k (r ∷ rs) =
    let a = save_within r k in let b = saves_within (suc k) rs in omega (arith, length_of_both (save_code r k) (saves_code (suc k) rs), a, b)

restores_within : (k : ℕ) (rs : List ℕ) → code_length (restores_code k rs) ≤ 12 * length rs
restores_within k [] = omega arith
restores_within k (r ∷ rs) =
    let a = load_within r k in let b = restores_within (suc k) rs in omega (arith, length_of_both (load_code r k) (restores_code (suc k) rs), a, b)

give_within : (bytes : ℕ) → code_length (give_code bytes) ≤ 12
give_within bytes = by (nat_lt bytes 2048)
  where
    by : (small : Bool)
        → code_length (if small then Plain (Addi 2 2 (pos bytes)) ∷ [] else word_code 7 bytes ++ (Plain (Add 2 2 7) ∷ [])) ≤ 12
    by true = omega arith
    by false = omega arith

-- a function counts for 512 bytes and 64 for each parameter beside its statements: its first and last lines have fewer
pub ends_within : (f : Function) (bytes : ℕ) → 52 + code_length (saves_code (1 + f.passed + f.temporaries) (saved_by f)) + 24 * f.parameters
    + code_length (epilogue_code bytes (1 + f.passed + f.temporaries) (saved_by f)) ≤ 64 * (8 + f.parameters)
ends_within f bytes =
    let k = 1 + f.passed + f.temporaries in
    let few = saved_few f in
    let a = saves_within k (saved_by f) in
    let b = restores_within k (saved_by f) in
    let given = give_within bytes in
    let last : code_length (leave_code bytes) ≤ 20 =
    omega (arith, length_of_both (give_code bytes) (Plain (Jalr 0 1 (pos 0)) ∷ []), given) in
    omega (arith, length_of_both (restores_code k (saved_by f)) (leave_code bytes), a, b, few, last)
