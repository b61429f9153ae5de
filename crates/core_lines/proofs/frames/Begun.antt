-- A call in Core: an activation more, which has no temporary objects yet. The machine's memory fits as before.
use Rattle.std.proofs.Common.{◌≡◌, ℕ, ◌+◌, Bool, true, false, List, refl, sym, ap, ◌∙◌, arith}
use Rattle.std.specs.Prelude.{if◌then◌else◌}
use Rattle.rv32_machine.specs.State.{Areas}
use Rattle.core_meaning.specs.Memory.{Region, Content, Memory, Live, Own, same_region, with_standing}
use Rattle.core_lines.specs.Machines.{Store}
use Rattle.core_lines.specs.Lies.{Maps, Activation, Name, Slot, Cell, PartLies, Lies, Fits, Known}
use Rattle.core_lines.proofs.memory.Knowing.{no_parts}

-- the memory with an activation more, which has no temporary objects
abbrev pub with_call : Memory → Memory
with_call mem = record (with_standing mem (Own mem.calls) Live) { calls = mem.calls + 1 }

-- a region without objects begins
pub begun_back : (m : Maps) (fs : List Activation) (mem : Memory) (st : Store) (r : Region) → mem.objects r ≡ 0 → Known m mem st
    → (x : Name) (at width : ℕ) (v : Content) → Lies m fs (with_standing mem r Live) x at width v → Lies m fs mem x at width v
begun_back m fs mem st r none k (Slot f j) at width v h = h
begun_back m fs mem st r none k (Cell s j) at width v h = by (same_region s.region r) refl
  where
    by : (c : Bool) → same_region s.region r ≡ c → PartLies m mem s j at width v
    by true e = absurd (no_parts m mem st r none k s j _ e h.has)
    by false e = record {
      base = h.base;
      offset = h.offset;
      known = h.known;
      there = h.there;
      has = h.has;
      lasts = λ dead. h.lasts (ap (λ c. if c then Live else mem.standing s.region) e ∙ dead);
    }

pub begun_fits : (n : Areas) (m : Maps) (fs : List Activation) (mem : Memory) (b : ℕ → ℕ) (st : Store) (r : Region) → mem.objects r ≡ 0 → Known m mem st
    → Fits n m fs mem b st → Fits n m fs (with_standing mem r Live) b st
begun_fits n m fs mem b st r none k f = record {
  shows = λ x at width v h. f.shows x at width v (begun_back m fs mem st r none k x at width v h);
  apart = λ x y at width at' width' v v' ne h h'. f.apart x y at width at' width' v v' ne (begun_back m fs mem st r none k x at width v h)
      (begun_back m fs mem st r none k y at' width' v' h');
  ground = λ x at width v h. f.ground x at width v (begun_back m fs mem st r none k x at width v h);
  aligned = λ x at width v h. f.aligned x at width v (begun_back m fs mem st r none k x at width v h);
}

-- the counts are not spoken of
pub counted_fits : (n : Areas) (m : Maps) (fs : List Activation) (mem mem' : Memory) (b : ℕ → ℕ) (st : Store) → mem'.parts ≡ mem.parts → mem'.standing
    ≡ mem.standing
    → Fits n m fs mem b st → Fits n m fs mem' b st
counted_fits n m fs mem mem' b st parts standing f = record {
  shows = λ x at width v h. f.shows x at width v (back x at width v h);
  apart = λ x y at width at' width' v v' ne h h'. f.apart x y at width at' width' v v' ne (back x at width v h) (back y at' width' v' h');
  ground = λ x at width v h. f.ground x at width v (back x at width v h);
  aligned = λ x at width v h. f.aligned x at width v (back x at width v h);
}
  where
    back : (x : Name) (at width : ℕ) (v : Content) → Lies m fs mem' x at width v → Lies m fs mem x at width v
    back (Slot f j) at width v h = h
    back (Cell s j) at width v h = record {
      base = h.base;
      offset = h.offset;
      known = h.known;
      there = h.there;
      has = ap (λ ps. ps s j) (sym parts) ∙ h.has;
      lasts = λ dead. h.lasts (ap (λ t. t s.region) standing ∙ dead);
    }

pub call_fits : (n : Areas) (m : Maps) (fs : List Activation) (mem : Memory) (b : ℕ → ℕ) (st : Store) → Known m mem st → Fits n m fs mem b st
    → Fits n m fs (with_call mem) b st
call_fits n m fs mem b st k f =
    counted_fits n m fs (with_standing mem (Own mem.calls) Live) (with_call mem) b st refl refl
    (begun_fits n m fs mem b st (Own mem.calls) ((k.uncalled mem.calls (omega arith)).1) k f)
