-- What the code that asks for a unique block does, and the code that frees one.
use Rattle.std.specs.Prelude.{if◌then◌else◌}
use Rattle.std.proofs.Common.{
  ◌≡◌,
  ℕ,
  ◌+◌,
  ◌%◌,
  ◌^◌,
  ◌<◌,
  ◌≤◌,
  ◌⊎◌,
  inl,
  inr,
  ⊎_elim,
  Bool,
  true,
  false,
  List,
  [],
  ◌∷◌,
  ◌++◌,
  Option,
  Ok,
  refl,
  sym,
  ap,
  subst,
  ◌∙◌,
  arith,
}
use Rattle.std.proofs.lemmas.Bool.{ltb-false, eq-eqb}
use Rattle.cyc_words.specs.Events as events
use Rattle.arena_laws.specs.declared.refusal.StoreRefusal.TheVariants.{Full, NotABlock, Memory as NoMemory}
use Rattle.arena_laws.specs.Asked.{UniqueAlloc, UniqueFree}
use Rattle.arena_laws.specs.Counts.{is_too_long_alone, class_of}
use Rattle.arena_laws.specs.Holdings.{Holdings}
use Rattle.arena_laws.specs.Lawful.{Answer, Grants, Refuses, Lacks, Done, refuses, is_lawful_room, with_alone, gives_alone, unique_alloc, without_alone}
use Rattle.arena_laws.specs.Lawful.{frees_alone}
use Rattle.step_trees.specs.Trees.{Says}
use Rattle.core_meaning.specs.Memory.{Born, Single, Dead, Spot, Pointer, Part, Memory, with_standing, with_object}
use Rattle.core_meaning.specs.Operations.{born}
use Rattle.core_meaning.specs.Steps.{Step, Visible}
use Rattle.core_lines.specs.Frames.{word_code, environment_code}
use Rattle.core_lines.specs.Lies.{Maps, IsBlock}
use Rattle.core_lines.specs.Lines.{code_length}
use Rattle.core_lines.specs.Machines.{Machine, Store}
use Rattle.core_lines.specs.Held.{Holding, without_call, with_answer}
use Rattle.core_lines.specs.Operands.{into_code, keep_code}
use Rattle.core_lines.proofs.memory.Relations.{World, IsInOrder, Has, Waiting, Follows, keeping, Goes}
use Rattle.core_lines.proofs.memory.Moving.{comes_then}
use Rattle.core_lines.proofs.memory.Growing.{ObjectFits}
use Rattle.core_lines.proofs.frames.Passing.{has_first}
use Rattle.core_lines.proofs.operations.Registers.{having, AtWith, AtHolding, InRegister, IsServed, puts_into}
use Rattle.core_lines.proofs.operations.Calling.{Others, argument_changes, without_code}
use Rattle.core_lines.proofs.regions.UniquesBorn.{single_maps, single_born, single_points}
use Rattle.core_lines.proofs.regions.UniquesFreed.{alone_freed}
use Rattle.core_lines.proofs.regions.StoreCalls.{Carries, IsRefusing, Free, call_goes, then_kept, passed_goes}

-- ---- what a store makes of a request for a unique block

-- it grants a room
pub record IsAlone (bytes : ℕ) (s : Holdings) (done : Done) : Type 0 where
  pub at : ℕ
  pub few : bytes ≤ 4096
  pub lawful : is_lawful_room s at (class_of bytes) ≡ true
  pub is : done ≡ record { says = Ok at; after = with_alone at (class_of bytes) s }

-- or has none, or no host memory
alone_or_not : (bytes : ℕ) (answer : Answer) (s : Holdings)
    → IsAlone bytes s (unique_alloc bytes answer s) ⊎ ((unique_alloc bytes answer s ≡ refuses Full s) ⊎ (unique_alloc bytes answer s ≡ refuses NoMemory s))
alone_or_not bytes answer s = by (is_too_long_alone bytes) refl
  where
    gives : (answer : Answer) (done : Done) → bytes ≤ 4096 → done ≡ gives_alone (class_of bytes) answer s
        → IsAlone bytes s done ⊎ ((done ≡ refuses Full s) ⊎ (done ≡ refuses NoMemory s))
    gives Refuses done few is = inr (inl is)
    gives Lacks done few is = inr (inr is)
    gives (Grants at) done few is = of_room (is_lawful_room s at (class_of bytes)) refl
      where
        of_room : (c : Bool) → is_lawful_room s at (class_of bytes) ≡ c → IsAlone bytes s done ⊎ ((done ≡ refuses Full s) ⊎ (done ≡ refuses NoMemory s))
        of_room true e = inl (record {
          at = at;
          few = few;
          lawful = e;
          is = is ∙ ap (λ c. if c then record { says = Ok at; after = with_alone at (class_of bytes) s } else refuses Full s) e;
        })
        of_room false e = inr (inl (is ∙ ap (λ c. if c then record { says = Ok at; after = with_alone at (class_of bytes) s } else refuses Full s) e))

    by : (c : Bool) → is_too_long_alone bytes ≡ c → IsAlone bytes s (unique_alloc bytes answer s) ⊎ ((unique_alloc bytes answer s ≡ refuses Full s)
        ⊎ (unique_alloc bytes answer s ≡ refuses NoMemory s))
    by true long = inr (inl (ap (λ c. if c then refuses Full s else gives_alone (class_of bytes) answer s) long))
    by false short = gives answer (unique_alloc bytes answer s) (ltb-false 4096 bytes short)
        (ap (λ c. if c then refuses Full s else gives_alone (class_of bytes) answer s) short)

-- ---- it is asked for

module _ (w : World) (order : IsInOrder w) (x : Waiting) (outer : List Waiting) (mem : Memory) (bytes : ℕ) (small : bytes < 2 ^ 32) (o : ℕ → ℕ → Option Part)
    (fits : ObjectFits o bytes) where
  abbrev born_alone : Memory
  born_alone = with_object (born Single mem) (Born mem.births) o

  abbrev event : events.Event
  event = events.UniqueAlloc mem.births bytes

  abbrev Sized : Maps → (ℕ → ℕ) → Type 0
  Sized m registers = registers 10 ≡ bytes

  abbrev Block : Maps → (ℕ → ℕ) → Type 0
  Block m registers = InRegister 10 (Pointer (record { region = Born mem.births; object = 0; cell = 0 }) 0) m registers

  module _ (place : ℕ) (s : Machine) (a : AtWith w x outer mem place (λ m registers. (registers 17 ≡ 7) × Sized m registers) s) (answer : Answer) where
    abbrev st : Store
    st = s.store

    grants : IsAlone bytes st.holdings (unique_alloc bytes answer st.holdings)
        → Carries w.areas a.maps (a.frame ∷ a.others) mem born_alone s.bytes s.registers st (UniqueAlloc bytes) answer event Block
    grants g =
        let n = w.areas in
        let fs = a.frame ∷ a.others in
        let few = order.statics_within in
        let stands = a.stands in
        record {
          number = g.at;
          held = with_alone g.at (class_of bytes) st.holdings;
          is = g.is;
          shows = ap (λ d. events.UniqueAlloc d bytes) stands.known.births;
          maps = single_maps n few order.stack_within a.maps fs mem s.bytes st a.sp stands.stacked stands.fits stands.known stands.holds_blocks o
              bytes g.at fits g.few g.lawful order.pages_within;
          changed = single_born n few order.stack_within a.maps fs mem s.bytes st a.sp stands.stacked stands.fits stands.known stands.holds_blocks o
              bytes g.at fits g.few g.lawful order.pages_within;
          holds = single_points n few order.stack_within a.maps fs mem s.bytes st a.sp stands.stacked stands.fits stands.known stands.holds_blocks o
              bytes g.at fits g.few g.lawful order.pages_within g.at refl;
        }

    refuses_it : (unique_alloc bytes answer st.holdings ≡ refuses Full st.holdings) ⊎ (unique_alloc bytes answer st.holdings ≡ refuses NoMemory st.holdings)
        → IsRefusing st (UniqueAlloc bytes) answer event
    refuses_it (inl full) = inl (record { request = events.UniqueBlock bytes; is = full; requested = refl; wanted = (mem.births, refl) })
    refuses_it (inr lacks) = inr lacks

    alone_answered : Carries w.areas a.maps (a.frame ∷ a.others) mem born_alone s.bytes s.registers st (UniqueAlloc (s.registers 10)) answer event Block
        ⊎ IsRefusing st (UniqueAlloc (s.registers 10)) answer event
    alone_answered =
        subst (λ q. Carries w.areas a.maps (a.frame ∷ a.others) mem born_alone s.bytes s.registers st (UniqueAlloc q) answer event Block
        ⊎ IsRefusing st (UniqueAlloc q) answer event) (sym a.holds.1)
        (⊎_elim (λ (g : IsAlone bytes st.holdings (unique_alloc bytes answer st.holdings)). inl (grants g)) (λ r. inr (refuses_it r))
        (alone_or_not bytes answer st.holdings))

  pub unique_alloc_goes : (hs : List Holding) (most : ℕ) (active : List (List ℕ)) (rest : Step) (t place : ℕ) → t < x.fn.temporaries
      → (keeps : Bool) (after : List Bool) → Follows keeps (t ∷ []) x.kept after
      → Has w place (word_code 10 (bytes % 2 ^ 32) ++ environment_code 7 ++ keep_code keeps x.fn.passed 10 t)
      → Goes w most rest (AtHolding w (keeping after (having t (Pointer (record { region = Born mem.births; object = 0; cell = 0 }) 0) x)) outer born_alone
      (place + code_length (word_code 10 (bytes % 2 ^ 32) ++ environment_code 7 ++ keep_code keeps x.fn.passed 10 t)) (with_answer t hs)) active
      → Goes w most (Says (Visible event) rest) (AtHolding w x outer mem place hs) active
  unique_alloc_goes hs most active rest t place named keeps after follows has goes =
      let first = word_code 10 (bytes % 2 ^ 32) in
      let second = environment_code 7 in
      let third = keep_code keeps x.fn.passed 10 t in
      let has_both = has_first w place (first ++ second) third has in
      let same : bytes % 2 ^ 32 ≡ bytes = omega (arith, small) in
      call_goes w order x outer mem born_alone hs 7 (omega arith) (λ a b. UniqueAlloc a) event Sized Block (λ answer a b s. refl) alone_answered
      most active rest
      place first (AtHolding w x outer mem place hs) (λ m registers v k. k)
      (comes_then w _ (AtWith w x outer mem place (Others x hs)) _ (without_code w order x outer mem hs place)
      (puts_into w order x outer mem 9 (bytes % 2 ^ 32) place (Others x hs) (λ m registers. Sized m registers × Others x hs m registers) (omega arith) refl
      (has_first w place first second has_both)
      (λ m new old is kept h. (is ∙ same, argument_changes x hs m new old kept h)))) has_both
      (then_kept w order x outer hs born_alone most active rest t place (first ++ second)
      (Pointer (record { region = Born mem.births; object = 0; cell = 0 }) 0)
      named keeps after follows has goes)

-- ---- it is freed

module _ (w : World) (order : IsInOrder w) (x : Waiting) (outer : List Waiting) (mem : Memory) (d : ℕ) (single : mem.standing (Born d) ≡ Single) (p : Spot)
    (there : p.region ≡ Born d) where
  abbrev freed : Memory
  freed = with_standing mem (Born d) Dead

  abbrev gone : events.Event
  gone = events.UniqueFree d

  free_carries : (place : ℕ) (s : Machine) (a : AtWith w x outer mem place (λ m registers. (registers 17 ≡ 8) × InRegister 10 (Pointer p 0) m registers) s)
      (answer : Answer)
      → Carries w.areas a.maps (a.frame ∷ a.others) mem freed s.bytes s.registers s.store (UniqueFree (s.registers 10)) answer gone Free
  free_carries place s a answer =
      let at = s.registers 10 in
      let st = s.store in
      let known = a.stands.known in
      let points = a.holds.1.0 in
      let is_at = points.at in
      let same : points.base ≡ at = omega (arith, is_at) in
      let block : IsBlock st d at =
      subst (λ q. IsBlock st d q) same (known.single d p.object points.base single (ap (λ r. a.maps.base r p.object) (sym there) ∙ points.known)) in
      record {
        number = 0;
        held = without_alone at block.room st.holdings;
        is = ap (λ o. frees_alone at o st.holdings) block.owned
            ∙ ap (λ c. if c then record { says = Ok 0; after = without_alone at block.room st.holdings } else refuses NotABlock st.holdings)
            (eq-eqb at at refl);
        shows = ap (λ e. events.UniqueFree e) block.birth;
        maps = a.maps;
        changed = alone_freed w.areas a.maps (a.frame ∷ a.others) mem s.bytes st a.stands.fits known a.stands.holds_blocks d at single block;
        holds = tt;
      }

  pub unique_free_goes : (hs : List Holding) (most : ℕ) (active : List (List ℕ)) (rest : Step) (t place : ℕ) → t < x.fn.temporaries
      → IsServed w x hs t → x.config.temps t ≡ Pointer p 0 → Has w place (into_code x.fn.passed hs 10 t ++ environment_code 8)
      → Goes w most rest (AtHolding w x outer freed (place + code_length (into_code x.fn.passed hs 10 t ++ environment_code 8)) (without_call hs)) active
      → Goes w most (Says (Visible gone) rest) (AtHolding w x outer mem place hs) active
  unique_free_goes hs =
      passed_goes w order x outer hs mem freed 8 (omega arith) (λ a. UniqueFree a) gone (Pointer p 0) (λ answer a b s. refl) free_carries
