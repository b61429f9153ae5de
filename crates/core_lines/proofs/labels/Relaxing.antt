-- The rounds come to an end: then each branch alone reaches its label, and the code is no longer than where all are two words.
use Rattle.std.specs.Prelude.{not, ◌||◌, length}
use Rattle.std.proofs.Common.{◌≡◌, ℕ, zero, suc, ◌+◌, ◌*◌, ◌≤◌, ◌<◌, ◌⊎◌, inl, inr, ⊎_elim, Bool, true, false, List, [], ◌∷◌, refl, sym, ap, ◌∙◌, subst, arith}
use Rattle.core_lines.specs.declared.line.Line.{Line}
use Rattle.core_lines.specs.declared.line.Line.TheVariants.{Plain, Label, Jump, JumpUnless, BranchUnless, CallTo}
use Rattle.core_lines.specs.Lines.{size_of, code_length}
use Rattle.core_lines.specs.Relaxed.{place_of, shorten, shortened, is_in_reach, reaches, widened, next_round, rounds, none_wide, wide_in, AllReach}

-- how many are wide
abbrev count : List Bool → ℕ
count [] = 0
count (true ∷ ws) = suc (count ws)
count (false ∷ ws) = count ws

count_few : (ws : List Bool) → count ws ≤ length ws
count_few [] = omega arith
count_few (true ∷ ws) = let h = count_few ws in omega (arith, h)
count_few (false ∷ ws) = let h = count_few ws in omega (arith, h)

-- a round changes nothing, or makes one more wide
round_grows : (places : ℕ → ℕ) (at : ℕ) (ws : List Bool) (lines : List Line)
    → (widened places at ws lines ≡ ws) ⊎ (count ws < count (widened places at ws lines))
round_grows places at [] lines = inl refl
round_grows places at (w ∷ ws) [] = inl refl
round_grows places at (w ∷ ws) (line ∷ lines) = by w (reaches places at line) (widened places (at + size_of (shorten w line)) ws lines)
    (round_grows places (at + size_of (shorten w line)) ws lines)
  where
    by : (v r : Bool) (new : List Bool) → (new ≡ ws) ⊎ (count ws < count new)
        → (◌≡◌ {A = List Bool} ((v || not r) ∷ new) (v ∷ ws)) ⊎ (count (v ∷ ws) < count ((v || not r) ∷ new))
    by true r new (inl same) = inl (ap (λ xs. true ∷ xs) same)
    by true r new (inr more) = inr (omega (arith, more))
    by false true new (inl same) = inl (ap (λ xs. false ∷ xs) same)
    by false true new (inr more) = inr more
    by false false new (inl same) = inr (let e = ap count same in omega (arith, e))
    by false false new (inr more) = inr (omega (arith, more))

pub as_long : (places : ℕ → ℕ) (at : ℕ) (ws : List Bool) (lines : List Line) → length (widened places at ws lines) ≡ length ws
as_long places at [] lines = refl
as_long places at (w ∷ ws) [] = refl
as_long places at (w ∷ ws) (line ∷ lines) = ap suc (as_long places (at + size_of (shorten w line)) ws lines)

-- once nothing changes, nothing does later
pub still : (n : ℕ) (lines : List Line) (ws : List Bool) → next_round lines ws ≡ ws → rounds n lines ws ≡ ws
still zero lines ws same = refl
still (suc n) lines ws same = ap (λ xs. rounds n lines xs) same ∙ still n lines ws same

settles : (n : ℕ) (lines : List Line) (ws : List Bool) → length ws ≤ count ws + n → next_round lines (rounds n lines ws) ≡ rounds n lines ws
settles zero lines ws enough = ⊎_elim
    (λ (same : next_round lines ws ≡ ws). same)
    (λ (more : count ws < count (next_round lines ws)).
    let few = count_few (next_round lines ws) in
    let long = as_long (place_of (shortened ws lines)) 0 ws lines in
    absurd (omega (arith, more, few, long, enough)))
    (round_grows (place_of (shortened ws lines)) 0 ws lines)
settles (suc n) lines ws enough = ⊎_elim
    (λ (same : next_round lines ws ≡ ws).
    subst (λ xs. next_round lines xs ≡ xs) (sym (still (suc n) lines ws same)) same)
    (λ (more : count ws < count (next_round lines ws)).
    let long = as_long (place_of (shortened ws lines)) 0 ws lines in
    settles n lines (next_round lines ws) (omega (arith, more, long, enough)))
    (round_grows (place_of (shortened ws lines)) 0 ws lines)

pub none_long : (lines : List Line) → length (none_wide lines) ≡ length lines
none_long [] = refl
none_long (line ∷ lines) = ap suc (none_long lines)

pub settled : (lines : List Line) → next_round lines (wide_in lines) ≡ wide_in lines
settled lines = settles (length lines) lines (none_wide lines) (let e = none_long lines in omega (arith, e))

-- ---- where a round changes nothing, all reach; lines are to have no branches alone at first

abbrev pub AreLong : List Line → Type 0
AreLong [] = Unit {0}
AreLong (Plain instr ∷ lines) = AreLong lines
AreLong (Label label ∷ lines) = AreLong lines
AreLong (Jump label ∷ lines) = AreLong lines
AreLong (JumpUnless comparison label ∷ lines) = AreLong lines
AreLong (BranchUnless comparison label ∷ lines) = ⊥
AreLong (CallTo label ∷ lines) = AreLong lines

first_same : (v w : Bool) (vs ws : List Bool) → ◌≡◌ {A = List Bool} (v ∷ vs) (w ∷ ws) → v ≡ w
first_same v w vs ws e = ap first e
  where
    first : List Bool → Bool
    first [] = true
    first (b ∷ bs) = b

others_same : (v w : Bool) (vs ws : List Bool) → ◌≡◌ {A = List Bool} (v ∷ vs) (w ∷ ws) → vs ≡ ws
others_same v w vs ws e = ap others e
  where
    others : List Bool → List Bool
    others [] = []
    others (b ∷ bs) = bs

reach_all : (places : ℕ → ℕ) (at : ℕ) (ws : List Bool) (lines : List Line) → AreLong lines → length ws ≡ length lines → widened places at ws lines ≡ ws
    → AllReach places at (shortened ws lines)
reach_all places at [] [] long same settled = tt
reach_all places at [] (line ∷ lines) long same settled = absurd (omega (arith, same))
reach_all places at (w ∷ ws) [] long same settled = tt
reach_all places at (w ∷ ws) (Plain instr ∷ lines) long same settled =
    (tt, reach_all places (at + 4) ws lines long (omega (arith, same)) (others_same _ w _ ws settled))
reach_all places at (w ∷ ws) (Label label ∷ lines) long same settled =
    (tt, reach_all places (at + 0) ws lines long (omega (arith, same)) (others_same _ w _ ws settled))
reach_all places at (w ∷ ws) (Jump label ∷ lines) long same settled =
    (tt, reach_all places (at + 4) ws lines long (omega (arith, same)) (others_same _ w _ ws settled))
reach_all places at (true ∷ ws) (JumpUnless comparison label ∷ lines) long same settled =
    (tt, reach_all places (at + 8) ws lines long (omega (arith, same)) (others_same _ true _ ws settled))
reach_all places at (false ∷ ws) (JumpUnless comparison label ∷ lines) long same settled = (
  by (is_in_reach (places label) at) (first_same _ false _ ws settled),
  reach_all places (at + 4) ws lines long (omega (arith, same)) (others_same _ false _ ws settled),
)
  where
    by : (b : Bool) → not b ≡ false → b ≡ true
    by true e = refl
    by false e = absurd (cc e)
reach_all places at (w ∷ ws) (BranchUnless comparison label ∷ lines) long same settled = absurd long
reach_all places at (w ∷ ws) (CallTo label ∷ lines) long same settled =
    (tt, reach_all places (at + 4) ws lines long (omega (arith, same)) (others_same _ w _ ws settled))

rounds_long : (n : ℕ) (lines : List Line) (ws : List Bool) → length (rounds n lines ws) ≡ length ws
rounds_long zero lines ws = refl
rounds_long (suc n) lines ws = rounds_long n lines (next_round lines ws) ∙ as_long (place_of (shortened ws lines)) 0 ws lines

-- each line is said to be wide or not
pub all_said : (lines : List Line) → length (wide_in lines) ≡ length lines
all_said lines = rounds_long (length lines) lines (none_wide lines) ∙ none_long lines

-- all branches alone reach their labels in the placed code
pub all_reach : (lines : List Line) → AreLong lines → AllReach (place_of (shortened (wide_in lines) lines)) 0 (shortened (wide_in lines) lines)
all_reach lines long = reach_all (place_of (shortened (wide_in lines) lines)) 0 (wide_in lines) lines long (all_said lines) (settled lines)

-- ---- how long the code is

-- a line that is said to be wide too isn't shorter
pub size_grows : (w v : Bool) (line : Line) → size_of (shorten w line) ≤ size_of (shorten (w || v) line)
size_grows true v line = omega arith
size_grows false false line = omega arith
size_grows false true (Plain instr) = omega arith
size_grows false true (Label label) = omega arith
size_grows false true (Jump label) = omega arith
size_grows false true (JumpUnless comparison label) = omega arith
size_grows false true (BranchUnless comparison label) = omega arith
size_grows false true (CallTo label) = omega arith

-- no round makes the code shorter
pub round_longer : (places : ℕ → ℕ) (at : ℕ) (ws : List Bool) (lines : List Line)
    → code_length (shortened ws lines) ≤ code_length (shortened (widened places at ws lines) lines)
round_longer places at [] lines = omega arith
round_longer places at (w ∷ ws) [] = omega arith
round_longer places at (w ∷ ws) (line ∷ lines) =
    omega (arith, size_grows w (not (reaches places at line)) line, round_longer places (at + size_of (shorten w line)) ws lines)

pub rounds_longer : (n : ℕ) (lines : List Line) (ws : List Bool) → code_length (shortened ws lines) ≤ code_length (shortened (rounds n lines ws) lines)
rounds_longer zero lines ws = omega arith
rounds_longer (suc n) lines ws =
    omega (arith, round_longer (place_of (shortened ws lines)) 0 ws lines, rounds_longer n lines (next_round lines ws))

-- the code isn't longer than where all conditional jumps are two words
pub no_longer : (ws : List Bool) (lines : List Line) → code_length (shortened ws lines) ≤ code_length lines
no_longer [] lines = omega arith
no_longer (w ∷ ws) [] = omega arith
no_longer (w ∷ ws) (Plain instr ∷ lines) = let h = no_longer ws lines in omega (arith, h)
no_longer (w ∷ ws) (Label label ∷ lines) = let h = no_longer ws lines in omega (arith, h)
no_longer (w ∷ ws) (Jump label ∷ lines) = let h = no_longer ws lines in omega (arith, h)
no_longer (true ∷ ws) (JumpUnless comparison label ∷ lines) = let h = no_longer ws lines in omega (arith, h)
no_longer (false ∷ ws) (JumpUnless comparison label ∷ lines) = let h = no_longer ws lines in omega (arith, h)
no_longer (w ∷ ws) (BranchUnless comparison label ∷ lines) = let h = no_longer ws lines in omega (arith, h)
no_longer (w ∷ ws) (CallTo label ∷ lines) = let h = no_longer ws lines in omega (arith, h)

-- ---- samples: so many words between a branch and its label

pub ahead_reaches : is_in_reach (4 + 4 * 1022) 0 ≡ true
ahead_reaches = refl

pub ahead_not : is_in_reach (4 + 4 * 1023) 0 ≡ false
ahead_not = refl

pub behind_reaches : is_in_reach 0 (4 * 1024) ≡ true
behind_reaches = refl

pub behind_not : is_in_reach 0 (4 * 1025) ≡ false
behind_not = refl
