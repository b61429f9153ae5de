-- A region is born, as Core does it.
use Rattle.std.specs.Prelude.{if◌then◌else◌, ◌&&◌, nat_eq}
use Rattle.std.proofs.Common.{◌≡◌, ◌≢◌, ℕ, suc, ◌+◌, Bool, true, false, Option, Some, List, [], ◌∷◌, ◌++◌, length, refl, ap, ◌∙◌, sym, subst, arith}
use Rattle.std.proofs.lemmas.Bool.Decides.{nat_tests}
use Rattle.cyc_words.specs.Events as events
use Rattle.core_meaning.specs.Memory as memory
use Rattle.core_meaning.specs.Memory.{
  Region,
  Born,
  Part,
  Memory,
  with_standing,
  with_object,
}
use Rattle.core_meaning.specs.Core as core
use Rattle.core_meaning.specs.Steps as steps
use Rattle.core_meaning.specs.Steps.{Config, with_temp, with_memory, Step, Visible}
use Rattle.core_meaning.specs.Operations.{born, does, says}
use Rattle.core_eval.specs.declared.value.Value.{Value}
use Rattle.core_eval.specs.declared.value.Slot.{Slot}
use Rattle.core_eval.specs.Values.{spot_of}
use Rattle.core_eval.specs.declared.region.Standing.{Standing}
use Rattle.core_eval.specs.Regions.{Kept, region_at}
use Rattle.core_eval.specs.Pendings.{Execute, Leave, Wait, Go, Mark}
use Rattle.core_eval.specs.Standing.{Known, Agrees, IsSilent, ShowsBlocks, AreBorn, Gives, standing_of}
use Rattle.core_eval.specs.Costs.{IsMove}
use Rattle.core_eval.proofs.Lists.{length_more}
use Rattle.core_eval.proofs.Memories.{other_number, shows_standing}
use Rattle.core_eval.proofs.Born.{
  KeepsFrames,
  KeepsOthers,
  region_grown,
  blocks_same,
  born_agrees,
}
use Rattle.core_eval.proofs.Moves.{becomes_saying}
use Rattle.core_eval.proofs.OperationMoves.{given, agrees_given}
use Rattle.core_meaning.proofs.Spots.{region_self}

-- nothing of blocks and functions changes where a region's standing does, or it gets an object
pub standing_keeps : (m : Memory) (d : ℕ) (now : memory.Standing) → KeepsFrames m (with_standing m (Born d) now)
standing_keeps m d now = record {
  activations = refl;
  calls = refl;
  standing = λ k. refl;
  objects = λ k. refl;
  parts = λ n i k j. refl;
  own_standing = λ k. refl;
  own_objects = λ k. refl;
  own_parts = λ n i k j. refl;
}

pub object_keeps : (m : Memory) (d : ℕ) (o : ℕ → ℕ → Option Part) → KeepsFrames m (with_object m (Born d) o)
object_keeps m d o = record {
  activations = refl;
  calls = refl;
  standing = λ k. refl;
  objects = λ k. refl;
  parts = λ n i k j. refl;
  own_standing = λ k. refl;
  own_objects = λ k. refl;
  own_parts = λ n i k j. refl;
}

-- nor of other regions
pub standing_others : (m : Memory) (d : ℕ) (now : memory.Standing) → KeepsOthers d m (with_standing m (Born d) now)
standing_others m d now = record {
  births = refl;
  standing = λ q other. ap (λ b. if b then now else m.standing (Born q)) (other_number q d other);
  objects = λ q other. refl;
  parts = λ q i k j other. refl;
}

pub object_others : (m : Memory) (d : ℕ) (o : ℕ → ℕ → Option Part) → KeepsOthers d m (with_object m (Born d) o)
object_others m d o = record {
  births = refl;
  standing = λ q other. refl;
  objects = λ q other. ap (λ b. if b then m.objects (Born d) + 1 else m.objects (Born q)) (other_number q d other);
  parts = λ q i k j other.
      ap (λ b. if b && nat_eq i (m.objects (Born d)) then o k j else m.parts (spot_of (Born q) i k) j) (other_number q d other);
}

-- one object more is counted
pub one_counted : (m : Memory) (r : Region) (o : ℕ → ℕ → Option Part) (objects : List (List Slot)) (block : List Slot) → m.objects r ≡ length objects
    → (with_object m r o).objects r ≡ length (objects ++ block ∷ [])
one_counted m r o objects block counted =
    ap (λ b. if b then m.objects r + 1 else m.objects r) (region_self r) ∙ ap (λ n. n + 1) counted ∙ length_more objects block

-- ---- a region is born

module _ (known : Known) (ws : List Wait) (s : Standing) where
  -- what is known then
  abbrev pub with_birth : Known
  with_birth = record known { regions = known.regions ++ Some (record { standing = s; objects = [] }) ∷ [] }

  -- the memory in which it is what it is
  each_born : (m : Memory) → AreBorn m known.globals known.regions known.long_blocks → (n : ℕ) (b : Bool) → nat_eq n (length known.regions) ≡ b
      → ShowsBlocks (born (standing_of s) m) (Born (suc n)) (if b then Some (record { standing = s; objects = [] }) else region_at known.regions n)
  each_born m b n true e =
      let last : n ≡ length known.regions = grind (arith, nat_tests, e) in
      let births = b.births in
      let here : nat_eq (suc n) m.births ≡ true = grind (arith, nat_tests, last, births) in
      record {
        standing = ap (λ t. if t then standing_of s else m.standing (Born (suc n))) here;
        holds = λ i k j. b.missing n i k j (omega (arith, last));
        counted = b.empty n (omega (arith, last));
      }
  each_born m b n false e =
      let other : n ≢ length known.regions = grind (arith, nat_tests, e) in
      let births = b.births in
      let apart : nat_eq (suc n) m.births ≡ false = grind (arith, nat_tests, other, births) in
      blocks_same m (born (standing_of s) m) (Born (suc n)) (ap (λ t. if t then standing_of s else m.standing (Born (suc n))) apart) refl (λ i k j. refl)
      (region_at known.regions n) (b.each n)

  pub birth_agrees : (marks : List Mark) (c : Config) → Agrees known ws marks c
      → Agrees with_birth ws marks (with_memory (born (standing_of s) c.memory) c)
  birth_agrees marks c h =
      let m = c.memory in
      let m' = born (standing_of s) m in
      let b = h.born in
      let births = b.births in
      let one : Kept = record { standing = s; objects = [] } in
      let long = length_more {A = Option Kept} known.regions (Some one) in
      let first : nat_eq 0 m.births ≡ false = other_number 0 m.births (omega (arith, births)) in
      let shows = shows_standing h.globals (Born m.births) first (standing_of s) in
      born_agrees known ws marks c h m'
      (record {
        activations = refl;
        calls = refl;
        standing = λ k. refl;
        objects = λ k. refl;
        parts = λ n i k j. refl;
        own_standing = λ k. refl;
        own_objects = λ k. refl;
        own_parts = λ n i k j. refl;
      })
      known.globals (known.regions ++ Some one ∷ []) known.long_blocks (record { live = shows.live; holds = shows.holds })
      (record {
        births = omega (arith, births, long);
        lexical = ap (λ t. if t then standing_of s else m.standing (Born 0)) first ∙ b.lexical;
        heap = b.heap;
        each = λ n. subst (ShowsBlocks m' (Born (suc n))) (sym (region_grown known.regions (Some one) n))
            (each_born m b n (nat_eq n (length known.regions)) refl);
        empty = λ n le. b.empty n (omega (arith, le, long));
        missing = λ n i k j le. b.missing n i k j (omega (arith, le, long));
        kept = b.kept;
      })

  -- an operation that gives a temporary the birth of a new region
  module _ (o : core.Operation) (event : ℕ → events.Event) (silent : (d : ℕ) → IsSilent (Visible (event d))) (t : ℕ)
      (does_so : (next : Config → Step) (c : Config) → does o next c
      ≡ says (event c.memory.births) (next (with_temp t (memory.Birth c.memory.births) (with_memory (born (standing_of s) c.memory) c)))) where
    pub birth_moves : (temps : List Value) (d : ℕ) → d ≡ suc (length known.regions) → Gives t (memory.Birth d) known.temps temps
        → IsMove (Execute (core.Do o)) ws known (Go (Leave steps.Falls)) ws (given with_birth temps)
    birth_moves temps d is gives =
        becomes_saying o ws known (given with_birth temps) (λ c. event c.memory.births)
        (λ c. with_temp t (memory.Birth c.memory.births) (with_memory (born (standing_of s) c.memory) c)) (λ c. silent c.memory.births)
        (λ marks c h next. does_so next c)
        (λ marks c h. agrees_given with_birth temps ws t (memory.Birth c.memory.births)
        (subst (λ (n : ℕ). Gives t (memory.Birth n) known.temps temps) (is ∙ sym h.born.births) gives) marks (with_memory (born (standing_of s) c.memory) c)
        (birth_agrees marks c h))
