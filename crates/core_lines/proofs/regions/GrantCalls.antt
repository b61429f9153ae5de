-- What the code that asks for a block does: where the store grants it the machine goes on with the object's address, and else the run is cut.
use Rattle.std.specs.Prelude.{if◌then◌else◌}
use Rattle.std.proofs.Common.{◌≡◌, ℕ, ◌≤◌, ◌⊎◌, inl, inr, ⊎_elim, Bool, true, false, List, ◌∷◌, Option, Some, Ok, refl, sym, ap, subst, ◌∙◌}
use Rattle.std.proofs.lemmas.Bool.{ltb-false}
use Rattle.std.proofs.lemmas.Option.{same_Some}
use Rattle.cyc_words.specs.Events as events
use Rattle.arena_laws.specs.declared.owner.Owner.TheVariants as owner
use Rattle.arena_laws.specs.declared.refusal.StoreRefusal.TheVariants.{Full, BadHandle, Memory as NoMemory}
use Rattle.arena_laws.specs.declared.standing.Standing.{Standing as Tag}
use Rattle.arena_laws.specs.declared.standing.Standing.TheVariants as tag
use Rattle.arena_laws.specs.Asked.{RegionAlloc}
use Rattle.arena_laws.specs.Counts.{is_too_long, room_of, with_block}
use Rattle.arena_laws.specs.Holdings.{Holdings, is_some}
use Rattle.arena_laws.specs.Lawful.{Answer, Grants, Refuses, Lacks, Done, refuses, is_lawful_room, with_region_block, gives_block, takes_blocks, region_alloc}
use Rattle.core_meaning.specs.Memory.{Born, Standing, Single, Pointer, Birth, Part, Memory, is_live, first_spot, with_object}
use Rattle.core_lines.specs.Lies.{Maps, TagOf, IsNumber, Known, IsNamed}
use Rattle.core_lines.specs.Machines.{Machine, Store}
use Rattle.core_lines.proofs.memory.Relations.{World, IsInOrder, Waiting}
use Rattle.core_lines.proofs.memory.Growing.{ObjectFits}
use Rattle.core_lines.proofs.memory.Knowing.{not_single}
use Rattle.core_lines.proofs.operations.Registers.{AtWith, InRegister}
use Rattle.core_lines.proofs.regions.Granting.{room_bound, room_some, granted_maps, granted, granted_points}
use Rattle.core_lines.proofs.regions.StoreCalls.{Carries, IsRefusing}

-- ---- what a store makes of a request for a block

-- it grants a room
pub record IsGranted (h bytes : ℕ) (s : Holdings) (done : Done) : Type 0 where
  pub at : ℕ
  pub few : bytes ≤ 1048576
  pub lawful : is_lawful_room s at (room_of bytes) ≡ true
  pub is : done ≡ record { says = Ok at; after = with_region_block h at (room_of bytes) s }

-- or has none, or no host memory
pub grants_or_not : (h bytes : ℕ) (answer : Answer) (s : Holdings) → takes_blocks h (s.standing h) ≡ true
    → IsGranted h bytes s (region_alloc h bytes answer s) ⊎ ((region_alloc h bytes answer s ≡ refuses Full s)
    ⊎ (region_alloc h bytes answer s ≡ refuses NoMemory s))
grants_or_not h bytes answer s takes = by (is_too_long bytes) refl
  where
    taken : region_alloc h bytes answer s ≡ (if is_too_long bytes then refuses Full s else gives_block h (room_of bytes) answer s)
    taken = ap (λ c. if c then (if is_too_long bytes then refuses Full s else gives_block h (room_of bytes) answer s) else refuses BadHandle s) takes

    gives : (answer : Answer) (done : Done) → bytes ≤ 1048576 → done ≡ gives_block h (room_of bytes) answer s
        → IsGranted h bytes s done ⊎ ((done ≡ refuses Full s) ⊎ (done ≡ refuses NoMemory s))
    gives Refuses done few is = inr (inl is)
    gives Lacks done few is = inr (inr is)
    gives (Grants at) done few is = of_room (is_lawful_room s at (room_of bytes)) refl
      where
        of_room : (c : Bool) → is_lawful_room s at (room_of bytes) ≡ c → IsGranted h bytes s done ⊎ ((done ≡ refuses Full s) ⊎ (done ≡ refuses NoMemory s))
        of_room true e = inl (record {
          at = at;
          few = few;
          lawful = e;
          is = is ∙ ap (λ c. if c then record { says = Ok at; after = with_region_block h at (room_of bytes) s } else refuses Full s) e;
        })
        of_room false e =
            inr (inl (is ∙ ap (λ c. if c then record { says = Ok at; after = with_region_block h at (room_of bytes) s } else refuses Full s) e))

    by : (c : Bool) → is_too_long bytes ≡ c → IsGranted h bytes s (region_alloc h bytes answer s) ⊎ ((region_alloc h bytes answer s ≡ refuses Full s)
        ⊎ (region_alloc h bytes answer s ≡ refuses NoMemory s))
    by true long = inr (inl (taken ∙ ap (λ c. if c then refuses Full s else gives_block h (room_of bytes) answer s) long))
    by false short = gives answer (region_alloc h bytes answer s) (ltb-false 1048576 bytes short)
        (taken ∙ ap (λ c. if c then refuses Full s else gives_block h (room_of bytes) answer s) short)

-- ---- a handle in order

-- the number takes blocks, and stands for the birth
pub record IsHandle (st : Store) (now : Standing) (d h : ℕ) : Type 0 where
  pub takes : takes_blocks h (st.holdings.standing h) ≡ true
  pub birth : st.ledger.birth_of h ≡ d
  pub named : (from : ℕ) → IsNamed st from (owner.Region h)
  pub plural : now ≡ Single → ⊥

-- that of a live region does
pub handle_of : (m : Maps) (mem : Memory) (st : Store) (d h : ℕ) → Known m mem st → m.number d ≡ Some h → is_live (mem.standing (Born d)) ≡ true
    → IsHandle st (mem.standing (Born d)) d h
handle_of m mem st d h k number live = ⊎_elim
    (λ (zero_is : d ≡ 0).
    let h_is : h ≡ 0 = same_Some h 0 (sym number ∙ ap (λ e. m.number e) zero_is ∙ k.zero_is_heap) in
    record {
      takes = ap (λ q. takes_blocks q (st.holdings.standing q)) h_is ∙ ap (λ o. takes_blocks 0 o) k.no_zero;
      birth = ap (λ q. st.ledger.birth_of q) h_is ∙ k.heap_is_zero ∙ sym zero_is;
      named = λ from. inl h_is;
      plural = λ is. cc (sym k.heap ∙ ap (λ e. mem.standing (Born e)) (sym zero_is) ∙ is);
    })
    (λ (i : IsNumber st d h). record {
      takes = ap (λ o. takes_blocks h o) i.held
          ∙ by i.tag (mem.standing (Born (st.ledger.birth_of h))) (k.held h i.tag i.held).stands (ap (λ e. is_live (mem.standing (Born e))) i.birth ∙ live);
      birth = i.birth;
      named = λ from. inr (ap is_some i.held);
      plural = λ is. not_single i.tag (mem.standing (Born (st.ledger.birth_of h))) (k.held h i.tag i.held).stands
          (ap (λ e. mem.standing (Born e)) i.birth ∙ is);
    })
    (k.numbered d h number (λ dead. cc (live, ap is_live dead)))
  where
    by : (x : Tag) (now : Standing) → TagOf x now → is_live now ≡ true → takes_blocks h (Some x) ≡ true
    by tag.Lexical now is live = refl
    by tag.Opened now is live = refl
    by tag.Closed now is live = absurd (cc (live, ap is_live is))

-- ---- at the call

module _ (w : World) (order : IsInOrder w) (x : Waiting) (outer : List Waiting) (mem : Memory) (d bytes : ℕ) (o : ℕ → ℕ → Option Part)
    (fits : bytes ≤ 1048576 → ObjectFits o bytes) (live : is_live (mem.standing (Born d)) ≡ true) where
  abbrev pub Wanted : Maps → (ℕ → ℕ) → Type 0
  Wanted m registers = InRegister 10 (Birth d) m registers × (registers 11 ≡ bytes)

  abbrev grown : Memory
  grown = with_object mem (Born d) o

  abbrev event : events.Event
  event = events.RegionAlloc d bytes

  abbrev pub Object : Maps → (ℕ → ℕ) → Type 0
  Object m registers = InRegister 10 (Pointer (first_spot mem (Born d)) 0) m registers

  module _ (s : Machine) (h place : ℕ) (a : AtWith w x outer mem place (λ m registers. (registers 17 ≡ 5) × Wanted m registers) s)
      (answer : Answer) (handle : IsHandle s.store (mem.standing (Born d)) d h) where
    abbrev st : Store
    st = s.store

    grants : IsGranted h bytes st.holdings (region_alloc h bytes answer st.holdings)
        → Carries w.areas a.maps (a.frame ∷ a.others) mem grown s.bytes s.registers st (RegionAlloc h bytes) answer event Object
    grants g =
        let n = w.areas in
        let fs = a.frame ∷ a.others in
        let room = room_of bytes in
        let counts = with_block h room st.holdings.counts in
        let births = st.ledger.births in
        let alone = st.ledger.alone_birth in
        let k = a.stands.known in
        let which = owner.Region h in
        let one : (mem.standing (Born d) ≡ Single) → (which ≡ owner.Alone g.at room) × (alone g.at ≡ d) = λ is. absurd (handle.plural is) in
        record {
          number = g.at;
          held = with_region_block h g.at room st.holdings;
          is = g.is;
          shows = ap (λ e. events.RegionAlloc e bytes) handle.birth;
          maps = granted_maps n order.statics_within order.stack_within a.maps fs mem s.bytes st a.sp a.stands.stacked a.stands.fits
              a.stands.holds_blocks d o bytes g.at (fits g.few) which room (room_bound bytes) (room_some bytes) g.lawful counts births alone k live
              (λ c among. refl) (λ e at i. refl) handle.birth (handle.named g.at) one;
          changed = granted n order.statics_within order.stack_within a.maps fs mem s.bytes st a.sp a.stands.stacked a.stands.fits
              a.stands.holds_blocks d o bytes g.at (fits g.few) which room (room_bound bytes) (room_some bytes) g.lawful counts births alone k live
              (λ c among. refl) (λ e at i. refl) handle.birth (handle.named g.at) one
              order.pages_within;
          holds = granted_points n order.statics_within order.stack_within a.maps fs mem s.bytes st a.sp a.stands.stacked a.stands.fits
              a.stands.holds_blocks d o bytes g.at (fits g.few) which room (room_bound bytes) (room_some bytes) g.lawful counts births alone k live
              (λ c among. refl) (λ e at i. refl) handle.birth (handle.named g.at) one g.at refl order.pages_within;
        }

    refuses_it : (region_alloc h bytes answer st.holdings ≡ refuses Full st.holdings) ⊎ (region_alloc h bytes answer st.holdings ≡ refuses NoMemory st.holdings)
        → IsRefusing st (RegionAlloc h bytes) answer event
    refuses_it (inl full) = inl (record {
      request = events.BlockIn (st.ledger.birth_of h) bytes;
      is = full;
      requested = refl;
      wanted = ap (λ e. events.RegionAlloc e bytes) (sym handle.birth);
    })
    refuses_it (inr lacks) = inr lacks

    asked : Carries w.areas a.maps (a.frame ∷ a.others) mem grown s.bytes s.registers st (RegionAlloc h bytes) answer event Object
        ⊎ IsRefusing st (RegionAlloc h bytes) answer event
    asked = ⊎_elim (λ (g : IsGranted h bytes st.holdings (region_alloc h bytes answer st.holdings)). inl (grants g)) (λ r. inr (refuses_it r))
        (grants_or_not h bytes answer st.holdings handle.takes)

  pub block_answered : (place : ℕ) (s : Machine) (a : AtWith w x outer mem place (λ m registers. (registers 17 ≡ 5) × Wanted m registers) s) (answer : Answer)
      → Carries w.areas a.maps (a.frame ∷ a.others) mem grown s.bytes s.registers s.store (RegionAlloc (s.registers 10) (s.registers 11)) answer event Object
      ⊎ IsRefusing s.store (RegionAlloc (s.registers 10) (s.registers 11)) answer event
  block_answered place s a answer =
      subst (λ q. Carries w.areas a.maps (a.frame ∷ a.others) mem grown s.bytes s.registers s.store (RegionAlloc (s.registers 10) q) answer event Object
      ⊎ IsRefusing s.store (RegionAlloc (s.registers 10) q) answer event) (sym a.holds.1.1)
      (asked s (s.registers 10) place a answer (handle_of a.maps mem s.store d (s.registers 10) a.stands.known a.holds.1.0.0 live))
