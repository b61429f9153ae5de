-- What the code of the operations on keys does: a key is asked for, opened, closed and freed.
use Rattle.std.proofs.Common.{◌≡◌, ℕ, ◌+◌, ◌<◌, ◌⊎◌, inl, inr, ⊎_elim, Bool, List, [], ◌∷◌, ◌++◌, Some, refl, sym, ap, ◌∙◌, arith}
use Rattle.cyc_words.specs.Events as events
use Rattle.arena_laws.specs.declared.refusal.StoreRefusal.TheVariants.{Full, Memory as NoMemory}
use Rattle.arena_laws.specs.declared.standing.Standing.{Standing as Tag}
use Rattle.arena_laws.specs.declared.standing.Standing.TheVariants as tag
use Rattle.arena_laws.specs.Asked.{KeyNew, KeyOpen, KeyClose, KeyFree, lawfully}
use Rattle.arena_laws.specs.Lawful.{Answer, refuses, with_number, without_number, standing_as, opens, closes, frees_key}
use Rattle.step_trees.specs.Trees.{Says}
use Rattle.core_meaning.specs.Memory.{Born, Birth, Standing, Live, Opened, Closed, Dead, Memory, with_standing}
use Rattle.core_meaning.specs.Operations.{born}
use Rattle.core_meaning.specs.Steps.{Step, Visible}
use Rattle.core_lines.specs.Frames.{environment_code}
use Rattle.core_lines.specs.Lies.{Maps, TagOf}
use Rattle.core_lines.specs.Lines.{code_length}
use Rattle.core_lines.specs.Machines.{Machine}
use Rattle.core_lines.specs.Held.{Holding, without_call, with_answer}
use Rattle.core_lines.specs.Operands.{into_code, keep_code}
use Rattle.core_lines.proofs.memory.Relations.{World, IsInOrder, Has, Waiting, Follows, keeping, Goes}
use Rattle.core_lines.proofs.frames.Passing.{has_first}
use Rattle.core_lines.proofs.operations.Registers.{having, AtWith, AtHolding, InRegister, IsServed}
use Rattle.core_lines.proofs.regions.RegionsBorn.{numbered_maps, is_born, its_number_is}
use Rattle.core_lines.proofs.regions.RegionsFreed.{is_freed}
use Rattle.core_lines.proofs.regions.KeysTurned.{is_turned}
use Rattle.core_lines.proofs.regions.RegionCalls.{IsMade, makes_or_not, from_free}
use Rattle.core_lines.proofs.regions.FreeCalls.{number_of}
use Rattle.core_lines.proofs.regions.StoreCalls.{Carries, IsRefusing, Free, call_goes, then_kept, passed_goes}

-- what a number stands for is as the region stands
opened_tag : (x : Tag) (now : Standing) → TagOf x now → now ≡ Opened → x ≡ tag.Opened
opened_tag tag.Opened now is e = refl
opened_tag tag.Lexical now is e = absurd (cc (is, e))
opened_tag tag.Closed now is e = absurd (cc (is, e))

closed_tag : (x : Tag) (now : Standing) → TagOf x now → now ≡ Closed → x ≡ tag.Closed
closed_tag tag.Closed now is e = refl
closed_tag tag.Lexical now is e = absurd (cc (is, e))
closed_tag tag.Opened now is e = absurd (cc (is, e))

module _ (w : World) (order : IsInOrder w) (x : Waiting) (outer : List Waiting) (mem : Memory) where
  -- ---- a key is asked for: it is closed

  abbrev new_event : events.Event
  new_event = events.KeyNew mem.births

  abbrev Number : Maps → (ℕ → ℕ) → Type 0
  Number m registers = InRegister 10 (Birth mem.births) m registers

  new_answered : (place : ℕ) (s : Machine) (a : AtWith w x outer mem place (λ m registers. (registers 17 ≡ 9) × Free m registers) s) (answer : Answer)
      → Carries w.areas a.maps (a.frame ∷ a.others) mem (born Closed mem) s.bytes s.registers s.store KeyNew answer new_event Number
      ⊎ IsRefusing s.store KeyNew answer new_event
  new_answered place s a answer =
      let n = w.areas in
      let st = s.store in
      let fs = a.frame ∷ a.others in
      let fits = a.stands.fits in
      let known = a.stands.known in
      let holds_blocks = a.stands.holds_blocks in
      ⊎_elim
      (λ (g : IsMade tag.Closed st.holdings (lawfully KeyNew answer st.holdings)).
      let h = g.number in
      inl (record {
        number = h;
        held = with_number h tag.Closed st.holdings;
        is = g.is;
        shows = ap (λ d. events.KeyNew d) known.births;
        maps = numbered_maps n a.maps fs mem s.bytes st fits known holds_blocks Closed tag.Closed refl h g.low g.free;
        changed = is_born n a.maps fs mem s.bytes st fits known holds_blocks Closed tag.Closed refl h g.low g.free;
        holds = (its_number_is n a.maps fs mem s.bytes st fits known holds_blocks Closed tag.Closed refl h g.low g.free, g.small);
      }))
      (λ r. inr (⊎_elim
      (λ (full : lawfully KeyNew answer st.holdings ≡ refuses Full st.holdings).
      inl (record { request = events.NewKey; is = full; requested = refl; wanted = (mem.births, refl) }))
      (λ (lacks : lawfully KeyNew answer st.holdings ≡ refuses NoMemory st.holdings). inr lacks) r))
      (makes_or_not tag.Closed answer st.holdings)

  pub key_new_goes : (hs : List Holding) (most : ℕ) (active : List (List ℕ)) (rest : Step) (t place : ℕ) → t < x.fn.temporaries
      → (keeps : Bool) (after : List Bool) → Follows keeps (t ∷ []) x.kept after
      → Has w place (environment_code 9 ++ keep_code keeps x.fn.passed 10 t)
      → Goes w most rest (AtHolding w (keeping after (having t (Birth mem.births) x)) outer (born Closed mem)
      (place + code_length (environment_code 9 ++ keep_code keeps x.fn.passed 10 t)) (with_answer t hs)) active
      → Goes w most (Says (Visible new_event) rest) (AtHolding w x outer mem place hs) active
  key_new_goes hs most active rest t place named keeps after follows has goes =
      let first = environment_code 9 in
      call_goes w order x outer mem (born Closed mem) hs 9 (omega arith) (λ a b. KeyNew) new_event Free Number (λ answer a b s. refl) new_answered most active
      rest place [] (AtHolding w x outer mem place hs) (λ m registers v k. tt) (from_free w order x outer mem hs place)
      (has_first w place first (keep_code keeps x.fn.passed 10 t) has)
      (then_kept w order x outer hs (born Closed mem) most active rest t place first (Birth mem.births) named keeps after follows has goes)

  module _ (d : ℕ) where
    -- a region that doesn't stand as the heap does isn't the heap's
    not_heap : (now : Standing) → mem.standing (Born 0) ≡ Live → mem.standing (Born d) ≡ now → (Live ≡ now → ⊥) → d ≡ 0 → ⊥
    not_heap now heap is other zero_is = other (sym heap ∙ ap (λ e. mem.standing (Born e)) (sym zero_is) ∙ is)

    -- ---- it is opened: the handle is the key's own number

    open_carries : mem.standing (Born d) ≡ Closed → (place : ℕ) (s : Machine)
        (a : AtWith w x outer mem place (λ m registers. (registers 17 ≡ 10) × InRegister 10 (Birth d) m registers) s) (answer : Answer)
        → Carries w.areas a.maps (a.frame ∷ a.others) mem (with_standing mem (Born d) Opened) s.bytes s.registers s.store (KeyOpen (s.registers 10)) answer
        (events.KeyOpen d) Free
    open_carries closed place s a answer =
        let h = s.registers 10 in
        let st = s.store in
        let known = a.stands.known in
        let later = not_heap Closed known.heap closed (λ e. cc e) in
        let i = number_of w order x outer mem d later (λ registers. registers 17 ≡ 10) place s a (λ dead. cc (closed, dead)) in
        let is_closed = closed_tag i.tag (mem.standing (Born (st.ledger.birth_of h))) (known.held h i.tag i.held).stands
        (ap (λ e. mem.standing (Born e)) i.birth ∙ closed) in
        record {
          number = h;
          held = standing_as h tag.Opened st.holdings;
          is = ap (λ o. opens h o st.holdings) (i.held ∙ ap (λ t. Some t) is_closed);
          shows = ap (λ e. events.KeyOpen e) i.birth;
          maps = a.maps;
          changed = is_turned w.areas a.maps (a.frame ∷ a.others) mem s.bytes st a.stands.fits known a.stands.holds_blocks d h i later Opened tag.Opened refl;
          holds = tt;
        }

    pub key_open_goes : mem.standing (Born d) ≡ Closed → (hs : List Holding) (most : ℕ) (active : List (List ℕ)) (rest : Step) (t place : ℕ)
        → t < x.fn.temporaries → IsServed w x hs t → x.config.temps t ≡ Birth d → Has w place (into_code x.fn.passed hs 10 t ++ environment_code 10)
        → Goes w most rest (AtHolding w x outer (with_standing mem (Born d) Opened)
        (place + code_length (into_code x.fn.passed hs 10 t ++ environment_code 10)) (without_call hs)) active
        → Goes w most (Says (Visible (events.KeyOpen d)) rest) (AtHolding w x outer mem place hs) active
    key_open_goes closed hs =
        passed_goes w order x outer hs mem (with_standing mem (Born d) Opened) 10 (omega arith) (λ a. KeyOpen a) (events.KeyOpen d) (Birth d)
        (λ answer a b s. refl) (open_carries closed)

    -- ---- it is closed

    close_carries : mem.standing (Born d) ≡ Opened → (place : ℕ) (s : Machine)
        (a : AtWith w x outer mem place (λ m registers. (registers 17 ≡ 11) × InRegister 10 (Birth d) m registers) s) (answer : Answer)
        → Carries w.areas a.maps (a.frame ∷ a.others) mem (with_standing mem (Born d) Closed) s.bytes s.registers s.store (KeyClose (s.registers 10)) answer
        (events.KeyClose d) Free
    close_carries opened place s a answer =
        let h = s.registers 10 in
        let st = s.store in
        let known = a.stands.known in
        let later = not_heap Opened known.heap opened (λ e. cc e) in
        let i = number_of w order x outer mem d later (λ registers. registers 17 ≡ 11) place s a (λ dead. cc (opened, dead)) in
        let is_opened = opened_tag i.tag (mem.standing (Born (st.ledger.birth_of h))) (known.held h i.tag i.held).stands
        (ap (λ e. mem.standing (Born e)) i.birth ∙ opened) in
        record {
          number = 0;
          held = standing_as h tag.Closed st.holdings;
          is = ap (λ o. closes h o st.holdings) (i.held ∙ ap (λ t. Some t) is_opened);
          shows = ap (λ e. events.KeyClose e) i.birth;
          maps = a.maps;
          changed = is_turned w.areas a.maps (a.frame ∷ a.others) mem s.bytes st a.stands.fits known a.stands.holds_blocks d h i later Closed tag.Closed refl;
          holds = tt;
        }

    pub key_close_goes : mem.standing (Born d) ≡ Opened → (hs : List Holding) (most : ℕ) (active : List (List ℕ)) (rest : Step) (t place : ℕ)
        → t < x.fn.temporaries → IsServed w x hs t → x.config.temps t ≡ Birth d → Has w place (into_code x.fn.passed hs 10 t ++ environment_code 11)
        → Goes w most rest (AtHolding w x outer (with_standing mem (Born d) Closed)
        (place + code_length (into_code x.fn.passed hs 10 t ++ environment_code 11)) (without_call hs)) active
        → Goes w most (Says (Visible (events.KeyClose d)) rest) (AtHolding w x outer mem place hs) active
    key_close_goes opened hs =
        passed_goes w order x outer hs mem (with_standing mem (Born d) Closed) 11 (omega arith) (λ a. KeyClose a) (events.KeyClose d) (Birth d)
        (λ answer a b s. refl) (close_carries opened)

    -- ---- it is freed with its region

    free_carries : mem.standing (Born d) ≡ Closed → (place : ℕ) (s : Machine)
        (a : AtWith w x outer mem place (λ m registers. (registers 17 ≡ 12) × InRegister 10 (Birth d) m registers) s) (answer : Answer)
        → Carries w.areas a.maps (a.frame ∷ a.others) mem (with_standing mem (Born d) Dead) s.bytes s.registers s.store (KeyFree (s.registers 10)) answer
        (events.KeyFree d) Free
    free_carries closed place s a answer =
        let h = s.registers 10 in
        let st = s.store in
        let known = a.stands.known in
        let later = not_heap Closed known.heap closed (λ e. cc e) in
        let i = number_of w order x outer mem d later (λ registers. registers 17 ≡ 12) place s a (λ dead. cc (closed, dead)) in
        let is_closed = closed_tag i.tag (mem.standing (Born (st.ledger.birth_of h))) (known.held h i.tag i.held).stands
        (ap (λ e. mem.standing (Born e)) i.birth ∙ closed) in
        record {
          number = 0;
          held = without_number h st.holdings;
          is = ap (λ o. frees_key h o st.holdings) (i.held ∙ ap (λ t. Some t) is_closed);
          shows = ap (λ e. events.KeyFree e) i.birth;
          maps = a.maps;
          changed = is_freed w.areas a.maps (a.frame ∷ a.others) mem s.bytes st a.stands.fits known a.stands.holds_blocks d h i later;
          holds = tt;
        }

    pub key_free_goes : mem.standing (Born d) ≡ Closed → (hs : List Holding) (most : ℕ) (active : List (List ℕ)) (rest : Step) (t place : ℕ)
        → t < x.fn.temporaries → IsServed w x hs t → x.config.temps t ≡ Birth d → Has w place (into_code x.fn.passed hs 10 t ++ environment_code 12)
        → Goes w most rest (AtHolding w x outer (with_standing mem (Born d) Dead)
        (place + code_length (into_code x.fn.passed hs 10 t ++ environment_code 12)) (without_call hs)) active
        → Goes w most (Says (Visible (events.KeyFree d)) rest) (AtHolding w x outer mem place hs) active
    key_free_goes closed hs =
        passed_goes w order x outer hs mem (with_standing mem (Born d) Dead) 12 (omega arith) (λ a. KeyFree a) (events.KeyFree d) (Birth d)
        (λ answer a b s. refl) (free_carries closed)
