-- What the code that frees a region does: the machine goes on, and the region's blocks are gone.
use Rattle.std.proofs.Common.{◌≡◌, ℕ, ◌+◌, ◌<◌, ⊎_elim, List, ◌∷◌, ◌++◌, Some, refl, ap, ◌∙◌, arith}
use Rattle.cyc_words.specs.Events as events
use Rattle.arena_laws.specs.declared.standing.Standing.{Standing as Tag}
use Rattle.arena_laws.specs.declared.standing.Standing.TheVariants as tag
use Rattle.arena_laws.specs.Asked.{RegionFree}
use Rattle.arena_laws.specs.Lawful.{Answer, frees_region, without_number}
use Rattle.step_trees.specs.Trees.{Says}
use Rattle.core_meaning.specs.Memory.{Born, Birth, Standing, Live, Dead, Memory, with_standing}
use Rattle.core_meaning.specs.Steps.{Step, Visible}
use Rattle.core_lines.specs.Frames.{environment_code}
use Rattle.core_lines.specs.Lies.{TagOf, IsNumber}
use Rattle.core_lines.specs.Lines.{code_length}
use Rattle.core_lines.specs.Machines.{Machine}
use Rattle.core_lines.specs.Held.{Holding, without_call}
use Rattle.core_lines.specs.Operands.{into_code}
use Rattle.core_lines.proofs.memory.Relations.{World, IsInOrder, Has, Waiting, Goes}
use Rattle.core_lines.proofs.operations.Registers.{AtWith, AtHolding, InRegister, IsServed}
use Rattle.core_lines.proofs.regions.RegionsFreed.{is_freed}
use Rattle.core_lines.proofs.regions.StoreCalls.{Carries, Free, passed_goes}

-- a number that stands for a lexical region
lexical_tag : (x : Tag) (now : Standing) → TagOf x now → now ≡ Live → x ≡ tag.Lexical
lexical_tag tag.Lexical now is e = refl
lexical_tag tag.Opened now is e = absurd (cc (is, e))
lexical_tag tag.Closed now is e = absurd (cc (is, e))

module _ (w : World) (order : IsInOrder w) (x : Waiting) (outer : List Waiting) (mem : Memory) (d : ℕ) (later : d ≡ 0 → ⊥) where
  abbrev freed : Memory
  freed = with_standing mem (Born d) Dead

  -- the number of a birth that isn't dead, nor the heap
  pub number_of : (P : (ℕ → ℕ) → Type 0) (place : ℕ) (s : Machine)
      (a : AtWith w x outer mem place (λ m registers. P registers × InRegister 10 (Birth d) m registers) s)
      → (mem.standing (Born d) ≡ Dead → ⊥) → IsNumber s.store d (s.registers 10)
  number_of P place s a alive =
      ⊎_elim (λ (zero_is : d ≡ 0). absurd (later zero_is)) (λ (i : IsNumber s.store d (s.registers 10)). i)
      (a.stands.known.numbered d (s.registers 10) a.holds.1.0 alive)

  abbrev event : events.Event
  event = events.RegionFree d

  free_carries : mem.standing (Born d) ≡ Live → (place : ℕ) (s : Machine)
      (a : AtWith w x outer mem place (λ m registers. (registers 17 ≡ 6) × InRegister 10 (Birth d) m registers) s) (answer : Answer)
      → Carries w.areas a.maps (a.frame ∷ a.others) mem freed s.bytes s.registers s.store (RegionFree (s.registers 10)) answer event Free
  free_carries live place s a answer =
      let h = s.registers 10 in
      let st = s.store in
      let known = a.stands.known in
      let i = number_of (λ registers. registers 17 ≡ 6) place s a (λ dead. cc (live, dead)) in
      let lexical : i.tag ≡ tag.Lexical =
      lexical_tag i.tag (mem.standing (Born (st.ledger.birth_of h))) (known.held h i.tag i.held).stands (ap (λ e. mem.standing (Born e)) i.birth ∙ live) in
      record {
        number = 0;
        held = without_number h st.holdings;
        is = ap (λ o. frees_region h o st.holdings) (i.held ∙ ap (λ t. Some t) lexical);
        shows = ap (λ e. events.RegionFree e) i.birth;
        maps = a.maps;
        changed = is_freed w.areas a.maps (a.frame ∷ a.others) mem s.bytes st a.stands.fits known a.stands.holds_blocks d h i later;
        holds = tt;
      }

  pub region_free_goes : mem.standing (Born d) ≡ Live → (hs : List Holding) (most : ℕ) (active : List (List ℕ)) (rest : Step) (t place : ℕ)
      → t < x.fn.temporaries → IsServed w x hs t → x.config.temps t ≡ Birth d → Has w place (into_code x.fn.passed hs 10 t ++ environment_code 6)
      → Goes w most rest (AtHolding w x outer freed (place + code_length (into_code x.fn.passed hs 10 t ++ environment_code 6)) (without_call hs)) active
      → Goes w most (Says (Visible event) rest) (AtHolding w x outer mem place hs) active
  region_free_goes live hs =
      passed_goes w order x outer hs mem freed 6 (omega arith) (λ a. RegionFree a) event (Birth d) (λ answer a b s. refl) (free_carries live)
