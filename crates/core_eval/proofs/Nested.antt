-- Blocks in blocks, and callers behind them, in a changed memory.
use Rattle.std.specs.Prelude.{slice_get, slice_set, nat_eq, nat_lt, option_map, if◌then◌else◌}
use Rattle.std.proofs.Common.{
  ◌≡◌,
  ◌≢◌,
  ℕ,
  zero,
  suc,
  ◌+◌,
  ◌<◌,
  ◌≤◌,
  Bool,
  true,
  false,
  Option,
  Some,
  None,
  List,
  [],
  ◌∷◌,
  length,
  refl,
  ap,
  ◌∙◌,
  sym,
  subst,
  arith,
}
use Rattle.std.proofs.lemmas.Bool.Decides.{nat_tests}
use Rattle.core_meaning.specs.Memory.{Frame, Memory}
use Rattle.core_eval.specs.declared.value.Slot.{Slot}
use Rattle.core_eval.specs.Values.{Shows}
use Rattle.core_eval.specs.Blocks.{Activation, Descends, own_position, position_of, number_through}
use Rattle.core_eval.specs.Pendings.{Wait, Then, Test, Body, Block, Breakable, Caller, Mark}
use Rattle.core_eval.specs.Standing.{AreNested}
use Rattle.core_eval.proofs.Lists.{get_past}

-- what is shown of frames below a bound in one memory is shown in another
abbrev pub Still : Memory → Memory → ℕ → Type 0
Still m m' bound = (k : ℕ) (objects : List (List Slot)) → k < bound → Shows m (Frame k) objects → Shows m' (Frame k) objects

module _ (m m' : Memory) where
  pub nested_still : (low high : ℕ) (numbers : List ℕ) (base : ℕ) (blocks : List Activation) (ws : List Wait) (marks : List Mark) → low ≤ high → Still m m' low
      → AreNested m low numbers base blocks ws marks → AreNested m' high numbers base blocks ws marks
  nested_still low high numbers base blocks [] marks le still n = n
  nested_still low high numbers base blocks (Block ∷ ws) [] le still n = n
  nested_still low high numbers base [] (Block ∷ ws) (mark ∷ marks) le still n = n
  nested_still low high numbers base (b ∷ blocks) (Block ∷ ws) (mark ∷ marks) le still (same, number, below, shows, rest) = (
    same,
    number,
    omega (arith, below, le),
    still mark.number b.objects below shows,
    nested_still mark.number mark.number mark.outside.blocks base blocks ws marks (omega arith) (λ k os h s. still k os (omega (arith, h, below)) s) rest,
  )
  nested_still low high numbers base blocks (Caller results f saved ∷ ws) [] le still n = n
  nested_still low high numbers base blocks (Caller results f saved ∷ ws) (mark ∷ marks) le still (none, outside, held, rest) =
      (none, outside, held, nested_still low high mark.outside.blocks saved.base blocks ws marks le still rest)
  nested_still low high numbers base blocks (Then ss ∷ ws) marks le still n = nested_still low high numbers base blocks ws marks le still n
  nested_still low high numbers base blocks (Test test flag body ∷ ws) marks le still n = nested_still low high numbers base blocks ws marks le still n
  nested_still low high numbers base blocks (Body test flag body ∷ ws) marks le still n = nested_still low high numbers base blocks ws marks le still n
  nested_still low high numbers base blocks (Breakable ∷ ws) marks le still n = nested_still low high numbers base blocks ws marks le still n

module _ (m : Memory) where
  -- the numbers fall
  descends_too : (low high : ℕ) (blocks : List Activation) → low ≤ high → Descends low blocks → Descends high blocks
  descends_too low high [] le d = tt
  descends_too low high (b ∷ blocks) le (below, rest) = (omega (arith, below, le), rest)

  pub nested_descends : (bound : ℕ) (numbers : List ℕ) (base : ℕ) (blocks : List Activation) (ws : List Wait) (marks : List Mark)
      → AreNested m bound numbers base blocks ws marks → Descends bound blocks
  nested_descends bound numbers base blocks [] marks (none, whole, empty) = subst (Descends bound) (sym empty) tt
  nested_descends bound numbers base blocks (Block ∷ ws) [] n = absurd n
  nested_descends bound numbers base [] (Block ∷ ws) (mark ∷ marks) n = absurd n
  nested_descends bound numbers base (b ∷ blocks) (Block ∷ ws) (mark ∷ marks) (same, number, below, shows, rest) = (
    omega (arith, below, number),
    descends_too mark.number b.number blocks (omega (arith, number))
        (nested_descends mark.number mark.outside.blocks base blocks ws marks rest),
  )
  nested_descends bound numbers base blocks (Caller results f saved ∷ ws) [] n = absurd n
  nested_descends bound numbers base blocks (Caller results f saved ∷ ws) (mark ∷ marks) (none, outside, held, rest) =
      nested_descends bound mark.outside.blocks saved.base blocks ws marks rest
  nested_descends bound numbers base blocks (Then ss ∷ ws) marks n = nested_descends bound numbers base blocks ws marks n
  nested_descends bound numbers base blocks (Test test flag body ∷ ws) marks n = nested_descends bound numbers base blocks ws marks n
  nested_descends bound numbers base blocks (Body test flag body ∷ ws) marks n = nested_descends bound numbers base blocks ws marks n
  nested_descends bound numbers base blocks (Breakable ∷ ws) marks n = nested_descends bound numbers base blocks ws marks n

  -- each block shows its locals
  pub nested_shows : (bound : ℕ) (numbers : List ℕ) (base : ℕ) (blocks : List Activation) (ws : List Wait) (marks : List Mark) (p : ℕ) (b : Activation)
      → AreNested m bound numbers base blocks ws marks → slice_get blocks p ≡ Some b → (b.number < bound) × Shows m (Frame b.number) b.objects
  nested_shows bound numbers base blocks [] marks p b (none, whole, empty) at =
      absurd (let e : slice_get {X = Activation} [] p ≡ Some b = ap (λ bs. slice_get bs p) (sym empty) ∙ at in cc)
  nested_shows bound numbers base blocks (Block ∷ ws) [] p b n at = absurd n
  nested_shows bound numbers base [] (Block ∷ ws) (mark ∷ marks) p b n at = absurd n
  nested_shows bound numbers base (a ∷ blocks) (Block ∷ ws) (mark ∷ marks) zero b (same, number, below, shows, rest) at =
      let is : a ≡ b = cc in
      subst (λ (x : Activation). (x.number < bound) × Shows m (Frame x.number) x.objects) is
      (omega (arith, below, number), subst (λ (k : ℕ). Shows m (Frame k) a.objects) number shows)
  nested_shows bound numbers base (a ∷ blocks) (Block ∷ ws) (mark ∷ marks) (suc p) b (same, number, below, shows, rest) at =
      let (less, there) = nested_shows mark.number mark.outside.blocks base blocks ws marks p b rest at in (omega (arith, less, below), there)
  nested_shows bound numbers base blocks (Caller results f saved ∷ ws) [] p b n at = absurd n
  nested_shows bound numbers base blocks (Caller results f saved ∷ ws) (mark ∷ marks) p b (none, outside, held, rest) at =
      nested_shows bound mark.outside.blocks saved.base blocks ws marks p b rest at
  nested_shows bound numbers base blocks (Then ss ∷ ws) marks p b n at = nested_shows bound numbers base blocks ws marks p b n at
  nested_shows bound numbers base blocks (Test test flag body ∷ ws) marks p b n at = nested_shows bound numbers base blocks ws marks p b n at
  nested_shows bound numbers base blocks (Body test flag body ∷ ws) marks p b n at = nested_shows bound numbers base blocks ws marks p b n at
  nested_shows bound numbers base blocks (Breakable ∷ ws) marks p b n at = nested_shows bound numbers base blocks ws marks p b n at

  -- how many blocks are the function's own
  nested_length : (bound : ℕ) (numbers : List ℕ) (base : ℕ) (blocks : List Activation) (ws : List Wait) (marks : List Mark)
      → AreNested m bound numbers base blocks ws marks → length numbers + base ≡ length blocks
  nested_length bound numbers base blocks [] marks (none, whole, empty) =
      let n = ap length none in let b = ap length empty in omega (arith, n, b, whole)
  nested_length bound numbers base blocks (Block ∷ ws) [] n = absurd n
  nested_length bound numbers base [] (Block ∷ ws) (mark ∷ marks) n = absurd n
  nested_length bound numbers base (a ∷ blocks) (Block ∷ ws) (mark ∷ marks) (same, number, below, shows, rest) =
      let n = ap length same in let r = nested_length mark.number mark.outside.blocks base blocks ws marks rest in omega (arith, n, r)
  nested_length bound numbers base blocks (Caller results f saved ∷ ws) [] n = absurd n
  nested_length bound numbers base blocks (Caller results f saved ∷ ws) (mark ∷ marks) (none, outside, held, rest) =
      let n = ap length none in omega (arith, n, outside)
  nested_length bound numbers base blocks (Then ss ∷ ws) marks n = nested_length bound numbers base blocks ws marks n
  nested_length bound numbers base blocks (Test test flag body ∷ ws) marks n = nested_length bound numbers base blocks ws marks n
  nested_length bound numbers base blocks (Body test flag body ∷ ws) marks n = nested_length bound numbers base blocks ws marks n
  nested_length bound numbers base blocks (Breakable ∷ ws) marks n = nested_length bound numbers base blocks ws marks n

  nested_number : (bound : ℕ) (numbers : List ℕ) (base : ℕ) (blocks : List Activation) (ws : List Wait) (marks : List Mark) (out : ℕ)
      → AreNested m bound numbers base blocks ws marks → out < length numbers → slice_get numbers out ≡ option_map (λ b. b.number) (slice_get blocks out)
  nested_number bound numbers base blocks [] marks out (none, whole, empty) lt = absurd (let n = ap length none in omega (arith, n, lt))
  nested_number bound numbers base blocks (Block ∷ ws) [] out n lt = absurd n
  nested_number bound numbers base [] (Block ∷ ws) (mark ∷ marks) out n lt = absurd n
  nested_number bound numbers base (a ∷ blocks) (Block ∷ ws) (mark ∷ marks) zero (same, number, below, shows, rest) lt =
      ap (λ ns. slice_get ns zero) same ∙ ap Some number
  nested_number bound numbers base (a ∷ blocks) (Block ∷ ws) (mark ∷ marks) (suc out) (same, number, below, shows, rest) lt =
      ap (λ ns. slice_get ns (suc out)) same
      ∙ nested_number mark.number mark.outside.blocks base blocks ws marks out rest (let n = ap length same in omega (arith, n, lt))
  nested_number bound numbers base blocks (Caller results f saved ∷ ws) [] out n lt = absurd n
  nested_number bound numbers base blocks (Caller results f saved ∷ ws) (mark ∷ marks) out (none, outside, held, rest) lt =
      absurd (let n = ap length none in omega (arith, n, lt))
  nested_number bound numbers base blocks (Then ss ∷ ws) marks out n lt = nested_number bound numbers base blocks ws marks out n lt
  nested_number bound numbers base blocks (Test test flag body ∷ ws) marks out n lt = nested_number bound numbers base blocks ws marks out n lt
  nested_number bound numbers base blocks (Body test flag body ∷ ws) marks out n lt = nested_number bound numbers base blocks ws marks out n lt
  nested_number bound numbers base blocks (Breakable ∷ ws) marks out n lt = nested_number bound numbers base blocks ws marks out n lt

  -- the number of the block so many out
  pub nested_own : (bound : ℕ) (numbers : List ℕ) (base : ℕ) (blocks : List Activation) (ws : List Wait) (marks : List Mark) (out : ℕ)
      → AreNested m bound numbers base blocks ws marks → slice_get numbers out ≡ number_through blocks (own_position base blocks out)
  nested_own bound numbers base blocks ws marks out n = by (nat_lt (out + base) (length blocks)) refl
    where
      by : (b : Bool) → nat_lt (out + base) (length blocks) ≡ b → slice_get numbers out ≡ number_through blocks (if b then Some out else None)
      by true e =
          let all = nested_length bound numbers base blocks ws marks n in
          nested_number bound numbers base blocks ws marks out n (let lt : out + base < length blocks = grind (arith, nat_tests, e) in omega (arith, all, lt))
      by false e =
          let all = nested_length bound numbers base blocks ws marks n in
          get_past numbers out (let ge : length blocks ≤ out + base = grind (arith, nat_tests, e) in omega (arith, all, ge))

-- ---- a block by its number

-- the number of a block that stands there
abbrev number_at : List Activation → ℕ → Option ℕ
number_at blocks p = option_map (λ b. b.number) (slice_get blocks p)

there_later : (b : Activation) (blocks : List Activation) (k p : ℕ) (o : Option ℕ) → ((q : ℕ) → o ≡ Some q → number_at blocks q ≡ Some k)
    → option_map suc o ≡ Some p → number_at (b ∷ blocks) p ≡ Some k
there_later b blocks k p None later e = cc
there_later b blocks k p (Some q) later e = let s : suc q ≡ p = cc in subst (λ (n : ℕ). number_at (b ∷ blocks) n ≡ Some k) s (later q refl)

there_here : (b : Activation) (blocks : List Activation) (k p : ℕ) (t : Bool) (o : Option ℕ) → nat_eq b.number k ≡ t
    → ((q : ℕ) → o ≡ Some q → number_at blocks q ≡ Some k)
    → (if t then Some 0 else option_map suc o) ≡ Some p → number_at (b ∷ blocks) p ≡ Some k
there_here b blocks k p true o t later e =
    let z : 0 ≡ p = cc in
    let same : b.number ≡ k = grind (arith, nat_tests, t) in
    subst (λ (n : ℕ). number_at (b ∷ blocks) n ≡ Some k) z (ap Some same)
there_here b blocks k p false o t later e = there_later b blocks k p o later e

pub position_there : (blocks : List Activation) (k p : ℕ) → position_of blocks k ≡ Some p → option_map (λ b. b.number) (slice_get blocks p) ≡ Some k
position_there [] k p e = cc
position_there (b ∷ blocks) k p e =
    there_here b blocks k p (nat_eq b.number k) (position_of blocks k) refl (λ q is. position_there blocks k q is) e

-- ---- a store to one local of one block

set_length : {A : Type 0} (xs : List A) (p : ℕ) (x : A) → length (slice_set xs p x) ≡ length xs
set_length [] p x = refl
set_length (y ∷ xs) zero x = refl
set_length (y ∷ xs) (suc p) x = ap suc (set_length xs p x)

module _ (m m' : Memory) (k : ℕ) (objects' : List (List Slot)) (shows' : Shows m' (Frame k) objects')
    (others : (q : ℕ) (objects : List (List Slot)) → q ≢ k → Shows m (Frame q) objects → Shows m' (Frame q) objects) where
  -- its block with other locals
  abbrev changed : Activation
  changed = record { number = k; objects = objects' }

  pub nested_put : (bound : ℕ) (numbers : List ℕ) (base : ℕ) (blocks : List Activation) (ws : List Wait) (marks : List Mark) (p : ℕ) (b : Activation)
      → slice_get blocks p ≡ Some b → b.number ≡ k → AreNested m bound numbers base blocks ws marks
      → AreNested m' bound numbers base (slice_set blocks p changed) ws marks
  nested_put bound numbers base blocks [] marks p b at is (none, whole, empty) =
      absurd (let e : slice_get {X = Activation} [] p ≡ Some b = ap (λ bs. slice_get bs p) (sym empty) ∙ at in cc)
  nested_put bound numbers base blocks (Block ∷ ws) [] p b at is n = absurd n
  nested_put bound numbers base [] (Block ∷ ws) (mark ∷ marks) p b at is n = absurd n
  nested_put bound numbers base (a ∷ blocks) (Block ∷ ws) (mark ∷ marks) zero b at is (same, number, below, shows, rest) =
      let e : a ≡ b = cc in
      let here : mark.number ≡ k = number ∙ ap (λ x. x.number) e ∙ is in (
        same,
        here,
        below,
        subst (λ (n : ℕ). Shows m' (Frame n) objects') (sym here) shows',
        nested_still m m' mark.number mark.number mark.outside.blocks base blocks ws marks (omega arith) (λ q os h s. others q os (omega (
          arith,
          h,
          here,
        )) s) rest,
      )
  nested_put bound numbers base (a ∷ blocks) (Block ∷ ws) (mark ∷ marks) (suc p) b at is (same, number, below, shows, rest) =
      let (less, there) = nested_shows m mark.number mark.outside.blocks base blocks ws marks p b rest at in (
        same,
        number,
        below,
        others mark.number a.objects (omega (arith, less, is)) shows,
        nested_put mark.number mark.outside.blocks base blocks ws marks p b at is rest,
      )
  nested_put bound numbers base blocks (Caller results f saved ∷ ws) [] p b at is n = absurd n
  nested_put bound numbers base blocks (Caller results f saved ∷ ws) (mark ∷ marks) p b at is (none, outside, held, rest) =
      (none, outside ∙ sym (set_length blocks p changed), held, nested_put bound mark.outside.blocks saved.base blocks ws marks p b at is rest)
  nested_put bound numbers base blocks (Then ss ∷ ws) marks p b at is n = nested_put bound numbers base blocks ws marks p b at is n
  nested_put bound numbers base blocks (Test test flag body ∷ ws) marks p b at is n = nested_put bound numbers base blocks ws marks p b at is n
  nested_put bound numbers base blocks (Body test flag body ∷ ws) marks p b at is n = nested_put bound numbers base blocks ws marks p b at is n
  nested_put bound numbers base blocks (Breakable ∷ ws) marks p b at is n = nested_put bound numbers base blocks ws marks p b at is n

-- the same blocks by number
pub position_put : (blocks : List Activation) (p j : ℕ) (b c : Activation) → slice_get blocks p ≡ Some b → c.number ≡ b.number
    → position_of (slice_set blocks p c) j ≡ position_of blocks j
position_put [] p j b c at same = refl
position_put (a ∷ blocks) zero j b c at same =
    let e : a ≡ b = cc in
    ap (λ n. if nat_eq n j then Some 0 else option_map suc (position_of blocks j)) (same ∙ ap (λ x. x.number) (sym e))
position_put (a ∷ blocks) (suc p) j b c at same = ap (λ o. if nat_eq a.number j then Some 0 else option_map suc o) (position_put blocks p j b c at same)

-- a block stands where its number is found, for the numbers fall
later_number : (bound : ℕ) (blocks : List Activation) (p : ℕ) (b : Activation) → Descends bound blocks → slice_get blocks p ≡ Some b → b.number < bound
later_number bound [] p b d at = cc
later_number bound (a ∷ blocks) zero b (below, rest) at =
    let e : a ≡ b = cc in subst (λ (x : Activation). x.number < bound) e below
later_number bound (a ∷ blocks) (suc p) b (below, rest) at = let less = later_number a.number blocks p b rest at in omega (arith, less, below)

pub position_is : (bound : ℕ) (blocks : List Activation) (p : ℕ) (b : Activation) → Descends bound blocks → slice_get blocks p ≡ Some b
    → position_of blocks b.number ≡ Some p
position_is bound [] p b d at = cc
position_is bound (a ∷ blocks) zero b (below, rest) at =
    let e : a ≡ b = cc in
    let same : nat_eq a.number b.number ≡ true = let n : a.number ≡ b.number = ap (λ x. x.number) e in grind (arith, nat_tests, n) in
    ap (λ t. if t then Some 0 else option_map suc (position_of blocks b.number)) same
position_is bound (a ∷ blocks) (suc p) b (below, rest) at =
    let less = later_number a.number blocks p b rest at in
    let other : nat_eq a.number b.number ≡ false = grind (arith, nat_tests, less) in
    ap (λ t. if t then Some 0 else option_map suc (position_of blocks b.number)) other ∙ ap (option_map suc) (position_is a.number blocks p b rest at)
