-- What the code that asks for a region does: where the store grants it the machine goes on with its number, and else the run is cut.
use Rattle.std.specs.Prelude.{nat_le, nat_lt, ◌&&◌, if◌then◌else◌}
use Rattle.std.proofs.Common.{◌≡◌, ℕ, ◌+◌, ◌^◌, ◌<◌, ◌≤◌, ◌⊎◌, inl, inr, ⊎_elim, Bool, true, false, List, [], ◌∷◌, ◌++◌, Option, Some, None, Ok, refl, ap}
use Rattle.std.proofs.Common.{arith}
use Rattle.std.proofs.lemmas.Bool.{and_parts, leb-true, ltb-true}
use Rattle.cyc_words.specs.Events as events
use Rattle.arena_laws.specs.declared.refusal.StoreRefusal.TheVariants.{Full, Memory as NoMemory}
use Rattle.arena_laws.specs.declared.standing.Standing.{Standing as Tag}
use Rattle.arena_laws.specs.declared.standing.Standing.TheVariants as tag
use Rattle.arena_laws.specs.Asked.{RegionNew, lawfully}
use Rattle.arena_laws.specs.Holdings.{Holdings, is_none}
use Rattle.arena_laws.specs.Lawful.{Answer, Grants, Refuses, Lacks, Done, refuses, makes, is_new_number, with_number}
use Rattle.step_trees.specs.Trees.{Says}
use Rattle.core_meaning.specs.Memory.{Birth, Live, Memory}
use Rattle.core_meaning.specs.Operations.{born}
use Rattle.core_meaning.specs.Steps.{Step, Visible}
use Rattle.core_lines.specs.Frames.{environment_code}
use Rattle.core_lines.specs.Lies.{Maps}
use Rattle.core_lines.specs.Lines.{code_length}
use Rattle.core_lines.specs.Machines.{Machine}
use Rattle.core_lines.specs.Held.{Holding, with_answer}
use Rattle.core_lines.specs.Operands.{keep_code}
use Rattle.core_lines.proofs.memory.Relations.{World, IsInOrder, Has, Waiting, Follows, keeping, Goes}
use Rattle.core_lines.proofs.memory.Moving.{Comes, comes_then}
use Rattle.core_lines.proofs.frames.Passing.{has_first}
use Rattle.core_lines.proofs.operations.Registers.{having, AtWith, AtHolding, InRegister, stays_there}
use Rattle.core_lines.proofs.operations.Calling.{Others, without_code}
use Rattle.core_lines.proofs.regions.RegionsBorn.{numbered_maps, is_born, its_number_is}
use Rattle.core_lines.proofs.regions.StoreCalls.{Carries, IsRefusing, Free, call_goes, then_kept}

-- ---- what a store makes of a request for a number

-- it grants a number that is none's
pub record IsMade (tag : Tag) (s : Holdings) (done : Done) : Type 0 where
  pub number : ℕ
  pub low : 1 ≤ number
  pub small : number < 2 ^ 32
  pub free : s.standing number ≡ None
  pub is : done ≡ record { says = Ok number; after = with_number number tag s }

pub none_is : {A : Type 0} (o : Option A) → is_none o ≡ true → o ≡ None
none_is None e = refl
none_is (Some x) e = absurd (cc e)

-- or has no room, or no host memory
pub makes_or_not : (tag : Tag) (answer : Answer) (s : Holdings)
    → IsMade tag s (makes tag answer s) ⊎ ((makes tag answer s ≡ refuses Full s) ⊎ (makes tag answer s ≡ refuses NoMemory s))
makes_or_not tag Refuses s = inr (inl refl)
makes_or_not tag Lacks s = inr (inr refl)
makes_or_not tag (Grants h) s = by (is_new_number s h) refl
  where
    by : (c : Bool) → is_new_number s h ≡ c → IsMade tag s (makes tag (Grants h) s) ⊎ ((makes tag (Grants h) s ≡ refuses Full s)
        ⊎ (makes tag (Grants h) s ≡ refuses NoMemory s))
    by true e =
        let one = and_parts (nat_le 1 h) (nat_lt h (2 ^ 32) && is_none (s.standing h)) e in
        let two = and_parts (nat_lt h (2 ^ 32)) (is_none (s.standing h)) one.1 in
        inl (record {
          number = h;
          low = leb-true 1 h one.0;
          small = ltb-true h (2 ^ 32) two.0;
          free = none_is (s.standing h) two.1;
          is = ap (λ c. if c then record { says = Ok h; after = with_number h tag s } else refuses Full s) e;
        })
    by false e = inr (inl (ap (λ c. if c then record { says = Ok h; after = with_number h tag s } else refuses Full s) e))

-- the call alone, without an argument
pub from_free : (w : World) (order : IsInOrder w) (x : Waiting) (outer : List Waiting) (mem : Memory) (hs : List Holding) (place : ℕ)
    → Comes w (AtHolding w x outer mem place hs) (AtWith w x outer mem (place + 0) (λ m registers. Free m registers × Others x hs m registers))
from_free w order x outer mem hs place =
    comes_then w _ _ _ (without_code w order x outer mem hs place)
    (stays_there w order x outer mem place (Others x hs) (λ m registers. Free m registers × Others x hs m registers) (λ m registers h. (tt, h)))

module _ (w : World) (order : IsInOrder w) (x : Waiting) (outer : List Waiting) (mem : Memory) where
  abbrev event : events.Event
  event = events.RegionNew mem.births

  abbrev Number : Maps → (ℕ → ℕ) → Type 0
  Number m registers = InRegister 10 (Birth mem.births) m registers

  new_answered : (place : ℕ) (s : Machine) (a : AtWith w x outer mem place (λ m registers. (registers 17 ≡ 4) × Free m registers) s) (answer : Answer)
      → Carries w.areas a.maps (a.frame ∷ a.others) mem (born Live mem) s.bytes s.registers s.store RegionNew answer event Number
      ⊎ IsRefusing s.store RegionNew answer event
  new_answered place s a answer =
      let n = w.areas in
      let st = s.store in
      let fs = a.frame ∷ a.others in
      let fits = a.stands.fits in
      let known = a.stands.known in
      let holds_blocks = a.stands.holds_blocks in
      ⊎_elim
      (λ (g : IsMade tag.Lexical st.holdings (lawfully RegionNew answer st.holdings)).
      let h = g.number in
      inl (record {
        number = h;
        held = with_number h tag.Lexical st.holdings;
        is = g.is;
        shows = ap (λ d. events.RegionNew d) known.births;
        maps = numbered_maps n a.maps fs mem s.bytes st fits known holds_blocks Live tag.Lexical refl h g.low g.free;
        changed = is_born n a.maps fs mem s.bytes st fits known holds_blocks Live tag.Lexical refl h g.low g.free;
        holds = (its_number_is n a.maps fs mem s.bytes st fits known holds_blocks Live tag.Lexical refl h g.low g.free, g.small);
      }))
      (λ r. inr (⊎_elim
      (λ (full : lawfully RegionNew answer st.holdings ≡ refuses Full st.holdings).
      inl (record { request = events.NewRegion; is = full; requested = refl; wanted = (mem.births, refl) }))
      (λ (lacks : lawfully RegionNew answer st.holdings ≡ refuses NoMemory st.holdings). inr lacks) r))
      (makes_or_not tag.Lexical answer st.holdings)

  pub region_new_goes : (hs : List Holding) (most : ℕ) (active : List (List ℕ)) (rest : Step) (t place : ℕ) → t < x.fn.temporaries
      → (keeps : Bool) (after : List Bool) → Follows keeps (t ∷ []) x.kept after
      → Has w place (environment_code 4 ++ keep_code keeps x.fn.passed 10 t)
      → Goes w most rest (AtHolding w (keeping after (having t (Birth mem.births) x)) outer (born Live mem)
      (place + code_length (environment_code 4 ++ keep_code keeps x.fn.passed 10 t)) (with_answer t hs)) active
      → Goes w most (Says (Visible event) rest) (AtHolding w x outer mem place hs) active
  region_new_goes hs most active rest t place named keeps after follows has goes =
      let first = environment_code 4 in
      call_goes w order x outer mem (born Live mem) hs 4 (omega arith) (λ a b. RegionNew) event Free Number (λ answer a b s. refl) new_answered most active rest
      place [] (AtHolding w x outer mem place hs) (λ m registers v k. tt) (from_free w order x outer mem hs place)
      (has_first w place first (keep_code keeps x.fn.passed 10 t) has)
      (then_kept w order x outer hs (born Live mem) most active rest t place first (Birth mem.births) named keeps after follows has goes)
