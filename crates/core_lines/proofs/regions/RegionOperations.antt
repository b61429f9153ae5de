-- The operations on regions, unique blocks and keys, from their code and with what goes on behind it.
use Rattle.std.specs.Prelude.{not, nat_eq, ◌&&◌}
use Rattle.std.proofs.Common.{◌≡◌, ℕ, ◌+◌, ◌*◌, ◌%◌, ◌^◌, ◌<◌, ◌≤◌, Bool, true, List, [], ◌∷◌, ◌++◌, refl, sym, ap, subst, ◌∙◌, arith}
use Rattle.std.proofs.lemmas.Bool.{and_parts, eqb-true, eq-eqb}
use Rattle.cyc_words.specs.Events as events
use Rattle.core_meaning.specs.Memory.{
  Region,
  Frame,
  Own,
  Born,
  Spot,
  Content,
  Pointer,
  Birth,
  Standing,
  Live,
  Opened,
  Single,
  Closed,
  Dead,
  Memory,
  is_live,
  is_lexical,
  is_opened,
  is_single,
  is_closed,
  with_standing,
  Layout,
  blanks,
  with_object,
  first_spot,
}
use Rattle.arena_laws.specs.Asked.{RegionAlloc}
use Rattle.core_meaning.specs.Core.{RegionNew, RegionFree, UniqueAlloc, UniqueFree, KeyNew, KeyOpen, KeyClose, KeyFree}
use Rattle.core_meaning.specs.Core as core
use Rattle.core_meaning.specs.Operations.{born, saturated, alone_freed, does}
use Rattle.core_meaning.specs.Steps.{Config, Step, with_temp, with_memory}
use Rattle.core_lines.specs.Frames.{word_code, environment_code}
use Rattle.core_meaning.specs.Layouts.{IsLayout}
use Rattle.core_lines.specs.Lines.{code_length}
use Rattle.core_lines.specs.Selected.{bytes_code}
use Rattle.core_lines.specs.Held.{Holding, without_call, with_answer}
use Rattle.core_lines.specs.Operands.{into_code, keep_code}
use Rattle.core_lines.specs.Machines.{Machine}
use Rattle.core_lines.specs.declared.line.Line.{Line}
use Rattle.core_lines.proofs.memory.Relations.{World, IsInOrder, Has, Waiting, Follows, keeping, Goes, active_of}
use Rattle.core_lines.proofs.memory.Moving.{goes_as, goes_stuck}
use Rattle.core_lines.proofs.memory.Growing.{ObjectFits}
use Rattle.core_lines.proofs.memory.Arrays.{object_fits}
use Rattle.core_lines.proofs.frames.Passing.{has_first}
use Rattle.core_lines.proofs.operations.Products.{saturated_is}
use Rattle.core_lines.proofs.regions.BlockBytes.{wants}
use Rattle.core_lines.proofs.regions.GrantCalls.{Wanted, Object, block_answered}
use Rattle.core_lines.proofs.regions.StoreCalls.{call_goes, then_kept}
use Rattle.core_lines.proofs.operations.Needing.{word_goes, pointer_goes, birth_goes, checked_goes}
use Rattle.core_lines.proofs.frames.Going.{with_config, IsIn, GoesHolding}
use Rattle.core_lines.proofs.operations.PartOperations.{with_memory_holding}
use Rattle.core_lines.proofs.operations.Registers.{having, AtHolding, IsServed}
use Rattle.core_lines.proofs.regions.RegionCalls.{region_new_goes}
use Rattle.core_lines.proofs.regions.FreeCalls.{region_free_goes}
use Rattle.core_lines.proofs.regions.UniqueCalls.{unique_alloc_goes, unique_free_goes}
use Rattle.core_lines.proofs.regions.KeyCalls.{key_new_goes, key_open_goes, key_close_goes, key_free_goes}

lexical_live : (now : Standing) → is_lexical now ≡ true → now ≡ Live
lexical_live Live e = refl
lexical_live Opened e = absurd (cc e)
lexical_live Single e = absurd (cc e)
lexical_live Closed e = absurd (cc e)
lexical_live Dead e = absurd (cc e)

single_is : (now : Standing) → is_single now ≡ true → now ≡ Single
single_is Live e = absurd (cc e)
single_is Opened e = absurd (cc e)
single_is Single e = refl
single_is Closed e = absurd (cc e)
single_is Dead e = absurd (cc e)

closed_is : (now : Standing) → is_closed now ≡ true → now ≡ Closed
closed_is Live e = absurd (cc e)
closed_is Opened e = absurd (cc e)
closed_is Single e = absurd (cc e)
closed_is Closed e = refl
closed_is Dead e = absurd (cc e)

opened_is : (now : Standing) → is_opened now ≡ true → now ≡ Opened
opened_is Live e = absurd (cc e)
opened_is Opened e = refl
opened_is Single e = absurd (cc e)
opened_is Closed e = absurd (cc e)
opened_is Dead e = absurd (cc e)

-- ---- the operations

module _ (w : World) (order : IsInOrder w) (x : Waiting) (outer : List Waiting) (fuel place : ℕ) (hs : List Holding) (next : Config → Step) where
  abbrev active : List (List ℕ)
  active = active_of w (x ∷ outer)

  abbrev Before : Config → Machine → Type 0
  Before c = AtHolding w (with_config x c) outer c.memory place hs

  abbrev given : ℕ → List Line
  given t = into_code x.fn.passed hs 10 t

  abbrev kept_answer : Bool → ℕ → List Line
  kept_answer keeps t = keep_code keeps x.fn.passed 10 t

  -- with a temporary set and another memory
  behind_goes : (c : Config) (t : ℕ) (v : Content) (m : Memory) (after : List Bool) (end : ℕ) → IsIn x c
      → GoesHolding w (keeping after x) outer fuel end (with_answer t hs) next
      → Goes w fuel (next (with_temp t v (with_memory m c))) (AtHolding w (keeping after (having t v (with_config x c))) outer m end (with_answer t hs)) active
  behind_goes c t v m after end is ends =
      let d = with_temp t v (with_memory m c) in
      goes_as w (AtHolding w (keeping after (having t v (with_config x c))) outer m end (with_answer t hs)) active fuel (next d)
      (AtHolding w (with_config (keeping after x) d) outer m end (with_answer t hs))
      (λ s a. with_memory_holding w (keeping after x) outer (with_temp t v c) m end (with_answer t hs) s a)
      (ends d (record { blocks = is.blocks; own = is.own }))

  -- with another memory
  stands_goes : (c : Config) (m : Memory) (end : ℕ) → IsIn x c → GoesHolding w x outer fuel end (without_call hs) next
      → Goes w fuel (next (with_memory m c)) (AtHolding w (with_config x c) outer m end (without_call hs)) active
  stands_goes c m end is ends =
      let after = with_memory m c in
      goes_as w (AtHolding w (with_config x c) outer m end (without_call hs)) active fuel (next after)
      (AtHolding w (with_config x after) outer m end (without_call hs))
      (λ s a. with_memory_holding w x outer c m end (without_call hs) s a) (ends after (record { blocks = is.blocks; own = is.own }))

  -- what gives an answer, and what doesn't
  abbrev Answers : ℕ → List Bool → List Line → (Config → Step) → Type 0
  Answers t after lines step = Has w place lines → GoesHolding w (keeping after x) outer fuel (place + code_length lines) (with_answer t hs) next
      → GoesHolding w x outer fuel place hs step

  abbrev Calls : List Line → (Config → Step) → Type 0
  Calls lines step =
      Has w place lines → GoesHolding w x outer fuel (place + code_length lines) (without_call hs) next → GoesHolding w x outer fuel place hs step

  module _ (t : ℕ) (named : t < x.fn.temporaries) (keeps : Bool) (after : List Bool) (follows : Follows keeps (t ∷ []) x.kept after) where
    pub new_region_does : Answers t after (environment_code 4 ++ kept_answer keeps t) (does (RegionNew t) next)
    new_region_does has ends c is =
        let lines = environment_code 4 ++ kept_answer keeps t in
        let d = c.memory.births in
        let m = born Live c.memory in
        region_new_goes w order (with_config x c) outer c.memory hs fuel active (next (with_temp t (Birth d) (with_memory m c))) t place named keeps after
        follows has (behind_goes c t (Birth d) m after (place + code_length lines) is ends)

    pub new_key_does : Answers t after (environment_code 9 ++ kept_answer keeps t) (does (KeyNew t) next)
    new_key_does has ends c is =
        let lines = environment_code 9 ++ kept_answer keeps t in
        let d = c.memory.births in
        let m = born Closed c.memory in
        key_new_goes w order (with_config x c) outer c.memory hs fuel active (next (with_temp t (Birth d) (with_memory m c))) t place named keeps after
        follows has (behind_goes c t (Birth d) m after (place + code_length lines) is ends)

    pub alloc_region_does : (h n : ℕ) (l : Layout) → h < x.fn.temporaries → IsServed w x hs h → n < x.fn.temporaries → IsServed w x hs n → IsLayout l
        → Answers t after (into_code x.fn.passed hs 5 n ++ given h ++ bytes_code l.bytes ++ environment_code 5 ++ kept_answer keeps t)
        (does (core.RegionAlloc t h n l) next)
    alloc_region_does h n l named_h served_h named_n served_n ok has ends c is =
        let first = into_code x.fn.passed hs 5 n ++ given h ++ bytes_code l.bytes in
        let second = environment_code 5 in
        let third = kept_answer keeps t in
        let y = with_config x c in
        let R = Before c in
        birth_goes w R active fuel (c.temps h) _ (λ d e. word_goes w R active fuel (c.temps n) _ (λ count e'.
        checked_goes w R active fuel (is_live (c.memory.standing (Born d))) _ (λ live.
        let o = blanks l count in
        let bytes = saturated (count * l.bytes) in
        let v = Pointer (first_spot c.memory (Born d)) 0 in
        let m = with_object c.memory (Born d) o in
        let fits : bytes ≤ 1048576 → ObjectFits o bytes =
        λ few. subst (ObjectFits o) (sym (saturated_is (count * l.bytes) (omega (arith, few)))) (object_fits l count ok) in
        let lines = first ++ second ++ third in
        let rest = next (with_temp t v (with_memory m c)) in
        let has_both = has_first w place (first ++ second) third has in
        call_goes w order y outer c.memory m hs 5 (omega arith) (λ h b. RegionAlloc h b) (events.RegionAlloc d bytes)
        (Wanted w order y outer c.memory d bytes o fits live) (Object w order y outer c.memory d bytes o fits live) (λ answer a b s. refl)
        (block_answered w order y outer c.memory d bytes o fits live) fuel active rest place first R (λ m registers q k. k)
        (wants w order y outer c.memory hs d count l.bytes h n place named_h served_h named_n served_n e e' (has_first w place first second has_both)) has_both
        (then_kept w order y outer hs m fuel active rest t place (first ++ second) v named keeps after follows has
        (behind_goes c t v m after (place + code_length lines) is ends)))))

    pub alloc_unique_does : (l : Layout) → IsLayout l → l.bytes < 2 ^ 32
        → Answers t after (word_code 10 (l.bytes % 2 ^ 32) ++ environment_code 7 ++ kept_answer keeps t) (does (UniqueAlloc t l) next)
    alloc_unique_does l ok small has ends c is =
        let lines = word_code 10 (l.bytes % 2 ^ 32) ++ environment_code 7 ++ kept_answer keeps t in
        let d = c.memory.births in
        let v = Pointer (record { region = Born d; object = 0; cell = 0 }) 0 in
        let m = with_object (born Single c.memory) (Born d) (blanks l 1) in
        let bytes : 1 * l.bytes ≡ l.bytes = omega arith in
        unique_alloc_goes w order (with_config x c) outer c.memory l.bytes small (blanks l 1) (subst (ObjectFits (blanks l 1)) bytes (object_fits l 1 ok)) hs
        fuel active (next (with_temp t v (with_memory m c))) t place named keeps after follows has
        (behind_goes c t v m after (place + code_length lines) is ends)

  module _ (p : ℕ) (named : p < x.fn.temporaries) (served : IsServed w x hs p) where
    pub free_unique_does : Calls (given p ++ environment_code 8) (does (UniqueFree p) next)
    free_unique_does has ends c is =
        let R = Before c in
        pointer_goes w R active fuel (c.temps p) _ (λ s b e. checked_goes w R active fuel (nat_eq b 0) _ (λ first.
        let points : c.temps p ≡ Pointer s 0 = e ∙ ap (λ q. Pointer s q) (eqb-true b 0 first) in
        by s points s.region refl))
      where
        by : (s : Spot) → c.temps p ≡ Pointer s 0 → (r : Region) → s.region ≡ r → Goes w fuel (alone_freed r next c) (Before c) active
        by s points (Frame k) there = goes_stuck w _ active fuel
        by s points (Own k) there = goes_stuck w _ active fuel
        by s points (Born d) there = checked_goes w _ active fuel (is_single (c.memory.standing (Born d))) _ (λ single.
            let m = with_standing c.memory (Born d) Dead in
            unique_free_goes w order (with_config x c) outer c.memory d (single_is (c.memory.standing (Born d)) single) s there hs fuel active
            (next (with_memory m c)) p place named served points has
            (stands_goes c m (place + code_length (given p ++ environment_code 8)) is ends))

    pub free_region_does : Calls (given p ++ environment_code 6) (does (RegionFree p) next)
    free_region_does has ends c is =
        let end = place + code_length (given p ++ environment_code 6) in
        let R = Before c in
        birth_goes w R active fuel (c.temps p) _ (λ d e.
        checked_goes w R active fuel (not (nat_eq d 0) && is_lexical (c.memory.standing (Born d))) _ (λ may.
        let both = and_parts (not (nat_eq d 0)) (is_lexical (c.memory.standing (Born d))) may in
        let m = with_standing c.memory (Born d) Dead in
        region_free_goes w order (with_config x c) outer c.memory d (λ zero_is. cc (both.0, eq-eqb d 0 zero_is))
        (lexical_live (c.memory.standing (Born d)) both.1) hs fuel active (next (with_memory m c)) p place named served e has
        (stands_goes c m end is ends)))

    -- ---- keys

    pub open_key_does : Calls (given p ++ environment_code 10) (does (KeyOpen p) next)
    open_key_does has ends c is =
        let end = place + code_length (given p ++ environment_code 10) in
        let R = Before c in
        birth_goes w R active fuel (c.temps p) _ (λ d e. checked_goes w R active fuel (is_closed (c.memory.standing (Born d))) _ (λ may.
        let m = with_standing c.memory (Born d) Opened in
        key_open_goes w order (with_config x c) outer c.memory d (closed_is (c.memory.standing (Born d)) may) hs fuel active
        (next (with_memory m c)) p place named served e has
        (stands_goes c m end is ends)))

    pub close_key_does : Calls (given p ++ environment_code 11) (does (KeyClose p) next)
    close_key_does has ends c is =
        let end = place + code_length (given p ++ environment_code 11) in
        let R = Before c in
        birth_goes w R active fuel (c.temps p) _ (λ d e. checked_goes w R active fuel (is_opened (c.memory.standing (Born d))) _ (λ may.
        let m = with_standing c.memory (Born d) Closed in
        key_close_goes w order (with_config x c) outer c.memory d (opened_is (c.memory.standing (Born d)) may) hs fuel active
        (next (with_memory m c)) p place named served e has
        (stands_goes c m end is ends)))

    pub free_key_does : Calls (given p ++ environment_code 12) (does (KeyFree p) next)
    free_key_does has ends c is =
        let end = place + code_length (given p ++ environment_code 12) in
        let R = Before c in
        birth_goes w R active fuel (c.temps p) _ (λ d e. checked_goes w R active fuel (is_closed (c.memory.standing (Born d))) _ (λ may.
        let m = with_standing c.memory (Born d) Dead in
        key_free_goes w order (with_config x c) outer c.memory d (closed_is (c.memory.standing (Born d)) may) hs fuel active
        (next (with_memory m c)) p place named served e has
        (stands_goes c m end is ends)))
