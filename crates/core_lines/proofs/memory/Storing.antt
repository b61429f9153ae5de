-- What a store leaves: what is known of the memory, and what a byte of a word shows.
use Rattle.std.specs.Prelude.{nat_eq}
use Rattle.std.proofs.Common.{◌≡◌, ℕ, ◌%◌, ◌<◌, ⊎_elim, true, false, Some, sym, ap, subst}
use Rattle.std.proofs.lemmas.Bool.{ne_eqb, eq-eqb}
use Rattle.std.proofs.lemmas.Option.{same_Some}
use Rattle.core_meaning.specs.Memory.{Spot, Content, Blank, Word, Null, Pointer, Birth, Part, Memory, Standing, Dead, is_live, with_part}
use Rattle.core_meaning.specs.Operations.{too_far, low_byte}
use Rattle.core_meaning.proofs.Spots.{spot_same}
use Rattle.core_lines.specs.Machines.{Store}
use Rattle.core_lines.specs.Lies.{Maps, Shows, Known}
use Rattle.core_lines.proofs.memory.Fitting.{if_split}

pub live_lasts : (t : Standing) → is_live t ≡ true → t ≡ Dead → ⊥
live_lasts t live dead = cc (live, ap is_live dead)

-- what is known of a memory doesn't speak of what parts hold
pub known_part : (m : Maps) (mem : Memory) (st : Store) (s : Spot) (j : ℕ) (old : Part) (v : Content) → mem.parts s j ≡ Some old → Known m mem st
    → Known m (with_part mem s j (record old { content = v })) st
known_part m mem st s j old v is k = record {
  births = k.births;
  heap = k.heap;
  no_zero = k.no_zero;
  held = λ h x e. let held = k.held h x e in record { known = held.known; stands = held.stands };
  numbered = k.numbered;
  zero_is_heap = k.zero_is_heap;
  heap_is_zero = k.heap_is_zero;
  single = k.single;
  made = λ t i p e. ⊎_elim
      (λ (x : (_ ≡ true) × (Some (record old { content = v }) ≡ Some p)).
      let q = Rattle.std.proofs.lemmas.Bool.and_parts _ (nat_eq i j) x.0 in
      let same = spot_same t s q.0 in
      subst (λ (u : Spot). u.object < mem.objects u.region) (sym same) (k.made s j old is))
      (λ (x : (_ ≡ false) × (mem.parts t i ≡ Some p)). k.made t i p x.1)
      (if_split _ (Some (record old { content = v })) (mem.parts t i) (Some p) e);
  near = λ t i p e. ⊎_elim
      (λ (x : (_ ≡ true) × (Some (record old { content = v }) ≡ Some p)).
      subst (λ (q : Part). q.offset < too_far) (same_Some (record old { content = v }) p x.1) (k.near s j old is))
      (λ (x : (_ ≡ false) × (mem.parts t i ≡ Some p)). k.near t i p x.1)
      (if_split _ (Some (record old { content = v })) (mem.parts t i) (Some p) e);
  low = k.low;
  unmade = k.unmade;
  unborn = k.unborn;
  unentered = k.unentered;
  uncalled = k.uncalled;
}

pub low_shows : (m : Maps) (v : Content) (x : ℕ) → Shows m v x → Shows m (low_byte v) (x % 256)
low_shows m (Word n) x e = ap (λ k. k % 256) e
low_shows m Blank x e = tt
low_shows m Null x e = tt
low_shows m (Pointer s b) x e = tt
low_shows m (Birth d) x e = tt
