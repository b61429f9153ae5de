-- Functions that are active, with their temporary objects, in a changed memory.
use Rattle.std.specs.Prelude.{slice_get, slice_set}
use Rattle.std.proofs.Common.{◌≡◌, ◌≢◌, ℕ, zero, suc, ◌<◌, ◌≤◌, Some, List, [], ◌∷◌, refl, ap, ◌∙◌, sym, subst, arith}
use Rattle.core_meaning.specs.Memory.{Own, Memory}
use Rattle.core_eval.specs.declared.value.Slot.{Slot}
use Rattle.core_eval.specs.Values.{Shows}
use Rattle.core_eval.specs.Blocks.{Activation, Descends}
use Rattle.core_eval.specs.Pendings.{Wait, Then, Test, Body, Block, Breakable, Caller, Mark}
use Rattle.core_eval.specs.Standing.{AreOwned}

-- what is shown of functions below a bound in one memory is shown in another
abbrev pub StillOwn : Memory → Memory → ℕ → Type 0
StillOwn m m' bound = (k : ℕ) (objects : List (List Slot)) → k < bound → Shows m (Own k) objects → Shows m' (Own k) objects

module _ (m m' : Memory) where
  pub owned_still : (low high own : ℕ) (owns : List Activation) (ws : List Wait) (marks : List Mark) → low ≤ high → StillOwn m m' low
      → AreOwned m low own owns ws marks → AreOwned m' high own owns ws marks
  owned_still low high own owns [] marks le still (o, alone, main, number, below, shows) =
      (o, alone, main, number, omega (arith, below, le), still own o.objects below shows)
  owned_still low high own owns (Block ∷ ws) [] le still n = n
  owned_still low high own owns (Block ∷ ws) (mark ∷ marks) le still n = owned_still low high own owns ws marks le still n
  owned_still low high own owns (Caller results f saved ∷ ws) [] le still n = n
  owned_still low high own [] (Caller results f saved ∷ ws) (mark ∷ marks) le still n = n
  owned_still low high own (o ∷ owns) (Caller results f saved ∷ ws) (mark ∷ marks) le still (same, number, below, shows, rest) = (
    same,
    number,
    omega (arith, below, le),
    still own o.objects below shows,
    owned_still own own mark.outside.own owns ws marks (omega arith) (λ k os less s. still k os (omega (arith, less, below)) s) rest,
  )
  owned_still low high own owns (Then ss ∷ ws) marks le still n = owned_still low high own owns ws marks le still n
  owned_still low high own owns (Test test flag body ∷ ws) marks le still n = owned_still low high own owns ws marks le still n
  owned_still low high own owns (Body test flag body ∷ ws) marks le still n = owned_still low high own owns ws marks le still n
  owned_still low high own owns (Breakable ∷ ws) marks le still n = owned_still low high own owns ws marks le still n

-- the innermost function
pub record HasFirst (own : ℕ) (owns : List Activation) : Type 0 where
  pub first : Activation
  pub others : List Activation
  pub are : owns ≡ first ∷ others
  pub number : own ≡ first.number

module _ (m : Memory) where
  pub owned_first : (bound own : ℕ) (owns : List Activation) (ws : List Wait) (marks : List Mark) → AreOwned m bound own owns ws marks → HasFirst own owns
  owned_first bound own owns [] marks (o, alone, main, number, below, shows) = record { first = o; others = []; are = alone; number = number }
  owned_first bound own owns (Block ∷ ws) [] n = absurd n
  owned_first bound own owns (Block ∷ ws) (mark ∷ marks) n = owned_first bound own owns ws marks n
  owned_first bound own owns (Caller results f saved ∷ ws) [] n = absurd n
  owned_first bound own [] (Caller results f saved ∷ ws) (mark ∷ marks) n = absurd n
  owned_first bound own (o ∷ owns) (Caller results f saved ∷ ws) (mark ∷ marks) (same, number, below, shows, rest) =
      record { first = o; others = owns; are = refl; number = number }
  owned_first bound own owns (Then ss ∷ ws) marks n = owned_first bound own owns ws marks n
  owned_first bound own owns (Test test flag body ∷ ws) marks n = owned_first bound own owns ws marks n
  owned_first bound own owns (Body test flag body ∷ ws) marks n = owned_first bound own owns ws marks n
  owned_first bound own owns (Breakable ∷ ws) marks n = owned_first bound own owns ws marks n

  -- the numbers fall
  descends_at : (bound own : ℕ) (o : Activation) (owns : List Activation) → own ≡ o.number → own < bound → Descends own owns → Descends bound (o ∷ owns)
  descends_at bound own o owns number below rest = (omega (arith, number, below), subst (λ (n : ℕ). Descends n owns) number rest)

  pub owned_descends : (bound own : ℕ) (owns : List Activation) (ws : List Wait) (marks : List Mark) → AreOwned m bound own owns ws marks → Descends bound owns
  owned_descends bound own owns [] marks (o, alone, main, number, below, shows) =
      subst (Descends bound) (sym alone) (descends_at bound own o [] number below tt)
  owned_descends bound own owns (Block ∷ ws) [] n = absurd n
  owned_descends bound own owns (Block ∷ ws) (mark ∷ marks) n = owned_descends bound own owns ws marks n
  owned_descends bound own owns (Caller results f saved ∷ ws) [] n = absurd n
  owned_descends bound own [] (Caller results f saved ∷ ws) (mark ∷ marks) n = absurd n
  owned_descends bound own (o ∷ owns) (Caller results f saved ∷ ws) (mark ∷ marks) (same, number, below, shows, rest) =
      descends_at bound own o owns number below (owned_descends own mark.outside.own owns ws marks rest)
  owned_descends bound own owns (Then ss ∷ ws) marks n = owned_descends bound own owns ws marks n
  owned_descends bound own owns (Test test flag body ∷ ws) marks n = owned_descends bound own owns ws marks n
  owned_descends bound own owns (Body test flag body ∷ ws) marks n = owned_descends bound own owns ws marks n
  owned_descends bound own owns (Breakable ∷ ws) marks n = owned_descends bound own owns ws marks n

  -- each shows its temporary objects
  here_shows : (bound own : ℕ) (o b : Activation) → own ≡ o.number → own < bound → Shows m (Own own) o.objects → o ≡ b
      → (b.number < bound) × Shows m (Own b.number) b.objects
  here_shows bound own o b number below shows is =
      subst (λ (x : Activation). (x.number < bound) × Shows m (Own x.number) x.objects) is
      (omega (arith, below, number), subst (λ (k : ℕ). Shows m (Own k) o.objects) number shows)

  pub owned_shows : (bound own : ℕ) (owns : List Activation) (ws : List Wait) (marks : List Mark) (p : ℕ) (b : Activation)
      → AreOwned m bound own owns ws marks → slice_get owns p ≡ Some b → (b.number < bound) × Shows m (Own b.number) b.objects
  owned_shows bound own owns [] marks p b (o, alone, main, number, below, shows) at = by p (ap (λ os. slice_get os p) (sym alone) ∙ at)
    where
      by : (p : ℕ) → slice_get (o ∷ []) p ≡ Some b → (b.number < bound) × Shows m (Own b.number) b.objects
      by zero e = here_shows bound own o b number below shows (cc)
      by (suc p) e = absurd (cc)
  owned_shows bound own owns (Block ∷ ws) [] p b n at = absurd n
  owned_shows bound own owns (Block ∷ ws) (mark ∷ marks) p b n at = owned_shows bound own owns ws marks p b n at
  owned_shows bound own owns (Caller results f saved ∷ ws) [] p b n at = absurd n
  owned_shows bound own [] (Caller results f saved ∷ ws) (mark ∷ marks) p b n at = absurd n
  owned_shows bound own (o ∷ owns) (Caller results f saved ∷ ws) (mark ∷ marks) zero b (same, number, below, shows, rest) at =
      here_shows bound own o b number below shows (cc)
  owned_shows bound own (o ∷ owns) (Caller results f saved ∷ ws) (mark ∷ marks) (suc p) b (same, number, below, shows, rest) at =
      let (less, there) = owned_shows own mark.outside.own owns ws marks p b rest at in (omega (arith, less, below), there)
  owned_shows bound own owns (Then ss ∷ ws) marks p b n at = owned_shows bound own owns ws marks p b n at
  owned_shows bound own owns (Test test flag body ∷ ws) marks p b n at = owned_shows bound own owns ws marks p b n at
  owned_shows bound own owns (Body test flag body ∷ ws) marks p b n at = owned_shows bound own owns ws marks p b n at
  owned_shows bound own owns (Breakable ∷ ws) marks p b n at = owned_shows bound own owns ws marks p b n at

-- ---- a change of the temporary objects of one function

module _ (m m' : Memory) (k : ℕ) (objects' : List (List Slot)) (shows' : Shows m' (Own k) objects')
    (others : (q : ℕ) (objects : List (List Slot)) → q ≢ k → Shows m (Own q) objects → Shows m' (Own q) objects) where
  -- the function with other values
  abbrev changed : Activation
  changed = record { number = k; objects = objects' }

  own_is : (own : ℕ) (o b : Activation) → own ≡ o.number → o ≡ b → b.number ≡ k → own ≡ k
  own_is own o b number same is = number ∙ ap (λ x. x.number) same ∙ is

  pub owned_put : (bound own : ℕ) (owns : List Activation) (ws : List Wait) (marks : List Mark) (p : ℕ) (b : Activation)
      → slice_get owns p ≡ Some b → b.number ≡ k → AreOwned m bound own owns ws marks → AreOwned m' bound own (slice_set owns p changed) ws marks
  owned_put bound own owns [] marks p b at is (o, alone, main, number, below, shows) = by p (ap (λ os. slice_get os p) (sym alone) ∙ at)
    where
      by : (p : ℕ) → slice_get (o ∷ []) p ≡ Some b
          → (x : Activation) × (slice_set owns p changed ≡ x ∷ []) × (own ≡ 0) × (own ≡ x.number) × (own < bound) × Shows m' (Own own) x.objects
      by zero e =
          let same : o ≡ b = cc in
          let here = own_is own o b number same is in
          (changed, ap (λ os. slice_set os zero changed) alone, main, here, below, subst (λ (n : ℕ). Shows m' (Own n) objects') (sym here) shows')
      by (suc p) e = absurd (cc)
  owned_put bound own owns (Block ∷ ws) [] p b at is n = absurd n
  owned_put bound own owns (Block ∷ ws) (mark ∷ marks) p b at is n = owned_put bound own owns ws marks p b at is n
  owned_put bound own owns (Caller results f saved ∷ ws) [] p b at is n = absurd n
  owned_put bound own [] (Caller results f saved ∷ ws) (mark ∷ marks) p b at is n = absurd n
  owned_put bound own (o ∷ owns) (Caller results f saved ∷ ws) (mark ∷ marks) zero b at is (same, number, below, shows, rest) =
      let e : o ≡ b = cc in
      let here = own_is own o b number e is in (
        same,
        here,
        below,
        subst (λ (n : ℕ). Shows m' (Own n) objects') (sym here) shows',
        owned_still m m' own own mark.outside.own owns ws marks (omega arith) (λ q os less s. others q os (omega (arith, less, here)) s) rest,
      )
  owned_put bound own (o ∷ owns) (Caller results f saved ∷ ws) (mark ∷ marks) (suc p) b at is (same, number, below, shows, rest) =
      let (less, there) = owned_shows m own mark.outside.own owns ws marks p b rest at in (
        same,
        number,
        below,
        others own o.objects (omega (arith, less, is)) shows,
        owned_put own mark.outside.own owns ws marks p b at is rest,
      )
  owned_put bound own owns (Then ss ∷ ws) marks p b at is n = owned_put bound own owns ws marks p b at is n
  owned_put bound own owns (Test test flag body ∷ ws) marks p b at is n = owned_put bound own owns ws marks p b at is n
  owned_put bound own owns (Body test flag body ∷ ws) marks p b at is n = owned_put bound own owns ws marks p b at is n
  owned_put bound own owns (Breakable ∷ ws) marks p b at is n = owned_put bound own owns ws marks p b at is n
