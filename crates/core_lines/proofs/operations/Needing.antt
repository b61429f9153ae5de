-- What goes on where an operation finds what it needs, and is out of order where it doesn't.
use Rattle.std.specs.Prelude.{nat_eq, ◌&&◌, if◌then◌else◌}
use Rattle.std.proofs.Common.{◌≡◌, ℕ, ◌+◌, ◌^◌, ◌<◌, Bool, true, false, List, Option, Some, None, refl, arith}
use Rattle.std.proofs.lemmas.Bool.{and_parts, eqb-true}
use Rattle.core_meaning.specs.Memory.{Spot, Content, Blank, Word, Null, Pointer, Birth, Part, Memory, is_live, same_spot, part_at, beyond}
use Rattle.core_meaning.specs.Core.{Distance}
use Rattle.core_meaning.specs.Words.{truth}
use Rattle.core_meaning.specs.Steps.{Step, word_of, pointer_of, birth_of, needed, checked}
use Rattle.core_meaning.specs.Operations.{reached, is_null, same_place}
use Rattle.core_meaning.proofs.Results.{truth_below}
use Rattle.core_lines.specs.Machines.{Machine}
use Rattle.core_lines.proofs.memory.Relations.{World, Goes}
use Rattle.core_lines.proofs.memory.Moving.{goes_stuck}
use Rattle.core_lines.proofs.operations.Comparing.{IsAtPart}

module _ (w : World) (R : Machine → Type 0) (active : List (List ℕ)) (fuel : ℕ) where
  pub word_goes : (v : Content) (k : ℕ → Step) → ((n : ℕ) → v ≡ Word n → Goes w fuel (k n) R active) → Goes w fuel (word_of v k) R active
  word_goes (Word n) k goes = goes n refl
  word_goes Blank k goes = goes_stuck w R active fuel
  word_goes Null k goes = goes_stuck w R active fuel
  word_goes (Pointer s b) k goes = goes_stuck w R active fuel
  word_goes (Birth d) k goes = goes_stuck w R active fuel

  pub pointer_goes : (v : Content) (k : Spot → ℕ → Step) → ((s : Spot) (b : ℕ) → v ≡ Pointer s b → Goes w fuel (k s b) R active) → Goes w fuel
      (pointer_of v k) R active
  pointer_goes (Pointer s b) k goes = goes s b refl
  pointer_goes Blank k goes = goes_stuck w R active fuel
  pointer_goes Null k goes = goes_stuck w R active fuel
  pointer_goes (Word n) k goes = goes_stuck w R active fuel
  pointer_goes (Birth d) k goes = goes_stuck w R active fuel

  pub birth_goes : (v : Content) (k : ℕ → Step) → ((d : ℕ) → v ≡ Birth d → Goes w fuel (k d) R active) → Goes w fuel (birth_of v k) R active
  birth_goes (Birth d) k goes = goes d refl
  birth_goes Blank k goes = goes_stuck w R active fuel
  birth_goes Null k goes = goes_stuck w R active fuel
  birth_goes (Word n) k goes = goes_stuck w R active fuel
  birth_goes (Pointer s b) k goes = goes_stuck w R active fuel

  pub null_goes : (v : Content) (k : ℕ → Step) → (v ≡ Null → Goes w fuel (k 1) R active) → ((s : Spot) (b : ℕ) → v ≡ Pointer s b → Goes w fuel (k 0) R active)
      → Goes w fuel (is_null v k) R active
  null_goes Null k one other = one refl
  null_goes (Pointer s b) k one other = other s b refl
  null_goes Blank k one other = goes_stuck w R active fuel
  null_goes (Word n) k one other = goes_stuck w R active fuel
  null_goes (Birth d) k one other = goes_stuck w R active fuel

  -- what is checked holds
  pub checked_goes : (c : Bool) (k : Step) → (c ≡ true → Goes w fuel k R active) → Goes w fuel (checked c k) R active
  checked_goes true k goes = goes refl
  checked_goes false k goes = goes_stuck w R active fuel

  pub block_goes : (o : Option ℕ) (k : ℕ → Step) → ((n : ℕ) → o ≡ Some n → Goes w fuel (k n) R active) → Goes w fuel (needed o k) R active
  block_goes None k goes = goes_stuck w R active fuel
  block_goes (Some n) k goes = goes n refl

  -- a part of a live region
  part_goes : (m : Memory) (s : Spot) (k : Part → Step)
      → ((p : Part) → m.parts s 0 ≡ Some p → is_live (m.standing s.region) ≡ true → Goes w fuel (k p) R active)
      → Goes w fuel (needed (part_at m s 0) k) R active
  part_goes m s k goes = by (is_live (m.standing s.region)) refl (m.parts s 0) refl
    where
      by : (live : Bool) → is_live (m.standing s.region) ≡ live → (found : Option Part) → m.parts s 0 ≡ found
          → Goes w fuel (needed (if live then found else None) k) R active
      by false e found f = goes_stuck w R active fuel
      by true e None f = goes_stuck w R active fuel
      by true e (Some p) f = goes p f e

  -- two pointers that are compared
  module _ (m : Memory) (k : ℕ → Step) (Gives : Content → Content → ℕ → Type 0) (two_none : Gives Null Null 1)
      (none_first : (t : Spot) (c : ℕ) → Gives Null (Pointer t c) 0) (none_second : (s : Spot) (b : ℕ) → Gives (Pointer s b) Null 0)
      (two_places : (s t : Spot) (b c : ℕ) → IsAtPart m s b → IsAtPart m t c → Gives (Pointer s b) (Pointer t c) (truth (same_spot s t))) where
    places_of : (s t : Spot) (b c : ℕ) → ((n : ℕ) → n < 2 ^ 32 → Gives (Pointer s b) (Pointer t c) n → Goes w fuel (k n) R active)
        → Goes w fuel (same_place m (Pointer s b) (Pointer t c) k) R active
    places_of s t b c go =
        part_goes m s (λ p. needed (part_at m t 0) (λ q. checked (nat_eq p.offset b && nat_eq q.offset c) (k (truth (same_spot s t))))) (λ p is live.
        part_goes m t (λ q. checked (nat_eq p.offset b && nat_eq q.offset c) (k (truth (same_spot s t)))) (λ q is' live'.
        by p q is live is' live' (nat_eq p.offset b && nat_eq q.offset c) refl))
      where
        by : (p q : Part) → m.parts s 0 ≡ Some p → is_live (m.standing s.region) ≡ true → m.parts t 0 ≡ Some q → is_live (m.standing t.region) ≡ true
            → (same : Bool) → (nat_eq p.offset b && nat_eq q.offset c) ≡ same → Goes w fuel (checked same (k (truth (same_spot s t)))) R active
        by p q is live is' live' false e = goes_stuck w R active fuel
        by p q is live is' live' true e =
            let both = and_parts (nat_eq p.offset b) (nat_eq q.offset c) e in
            go (truth (same_spot s t)) (truth_below (same_spot s t)) (two_places s t b c
            (record { part = p; is = is; live = live; offset = eqb-true p.offset b both.0 })
            (record { part = q; is = is'; live = live'; offset = eqb-true q.offset c both.1 }))

    pub places_go : (a b : Content) → ((n : ℕ) → n < 2 ^ 32 → Gives a b n → Goes w fuel (k n) R active) → Goes w fuel (same_place m a b k) R active
    places_go Null Null go = go 1 (omega arith) two_none
    places_go Null (Pointer t c) go = go 0 (omega arith) (none_first t c)
    places_go (Pointer s b) Null go = go 0 (omega arith) (none_second s b)
    places_go (Pointer s b) (Pointer t c) go = places_of s t b c go
    places_go Null Blank go = goes_stuck w R active fuel
    places_go Null (Word n) go = goes_stuck w R active fuel
    places_go Null (Birth d) go = goes_stuck w R active fuel
    places_go (Pointer s b) Blank go = goes_stuck w R active fuel
    places_go (Pointer s b) (Word n) go = goes_stuck w R active fuel
    places_go (Pointer s b) (Birth d) go = goes_stuck w R active fuel
    places_go Blank b go = goes_stuck w R active fuel
    places_go (Word n) b go = goes_stuck w R active fuel
    places_go (Birth d) b go = goes_stuck w R active fuel

  -- a part that is where it is looked for
  pub reached_goes : (m : Memory) (d : Distance) (s : Spot) (b : ℕ) (k : Spot → Part → Step)
      → ((part : Part) → m.parts (beyond s d.cells) d.part ≡ Some part → is_live (m.standing s.region) ≡ true → part.offset ≡ b + d.bytes → part.width ≡ d.width
      → Goes w fuel (k (beyond s d.cells) part) R active)
      → Goes w fuel (reached m d s b k) R active
  reached_goes m d s b k goes = by (is_live (m.standing s.region)) refl (m.parts (beyond s d.cells) d.part) refl
    where
      fits : (part : Part) → m.parts (beyond s d.cells) d.part ≡ Some part → is_live (m.standing s.region) ≡ true → (c : Bool)
          → (nat_eq part.offset (b + d.bytes) && nat_eq part.width d.width) ≡ c → Goes w fuel (checked c (k (beyond s d.cells) part)) R active
      fits part is live false e = goes_stuck w R active fuel
      fits part is live true e =
          let both = and_parts (nat_eq part.offset (b + d.bytes)) (nat_eq part.width d.width) e in
          goes part is live (eqb-true part.offset (b + d.bytes) both.0) (eqb-true part.width d.width both.1)

      by : (live : Bool) → is_live (m.standing s.region) ≡ live → (found : Option Part) → m.parts (beyond s d.cells) d.part ≡ found
          → Goes w fuel (needed (if live then found else None) (λ p. checked (nat_eq p.offset (b + d.bytes) && nat_eq p.width d.width)
          (k (beyond s d.cells) p))) R active
      by false e found is = goes_stuck w R active fuel
      by true e None is = goes_stuck w R active fuel
      by true e (Some part) is = fits part is e (nat_eq part.offset (b + d.bytes) && nat_eq part.width d.width) refl
