-- A region becomes another one, or is freed, as Core does it.
use Rattle.std.specs.Prelude.{if◌then◌else◌, not, ◌&&◌, nat_eq, slice_set, option_map}
use Rattle.std.proofs.Common.{◌≡◌, ℕ, zero, suc, Bool, true, false, Option, Some, None, List, refl, ap, ◌∙◌, sym, subst, arith}
use Rattle.std.proofs.Math.Dec.{eqb-suc-zero}
use Rattle.cyc_words.specs.Events as events
use Rattle.core_meaning.specs.Memory as memory
use Rattle.core_meaning.specs.Memory.{
  Born,
  Live,
  Dead,
  Content,
  Memory,
  is_lexical,
  is_opened,
  is_single,
  is_closed,
  with_standing,
}
use Rattle.core_meaning.specs.Core as core
use Rattle.core_meaning.specs.Steps as steps
use Rattle.core_meaning.specs.Steps.{Config, with_memory, Step, Visible, stuck, checked, birth_of}
use Rattle.core_meaning.specs.Operations.{does, says}
use Rattle.core_eval.specs.declared.region.Standing.{Standing}
use Rattle.core_eval.specs.declared.region.Standing.TheVariants as standing
use Rattle.core_eval.specs.declared.value.Value.{Value}
use Rattle.core_eval.specs.declared.value.Value.TheVariants as value
use Rattle.core_eval.specs.Values.{content_of, temp_of}
use Rattle.core_eval.specs.Regions.{Kept, Regions, region_at, same_standing, as_now, turned_held, turned_region, turned}
use Rattle.core_eval.specs.Pendings.{Execute, Leave, Wait, Go, Wrong, Mark}
use Rattle.core_eval.specs.Standing.{Known, Agrees, IsSilent, ShowsKept, ShowsBlocks, standing_of}
use Rattle.core_eval.specs.Costs.{IsMove}
use Rattle.core_eval.proofs.Memories.{other_number, shows_standing}
use Rattle.core_eval.proofs.Born.{held_there, region_changed, region_shows, born_agrees}
use Rattle.core_eval.proofs.Moves.{Becomes, becomes_saying, goes_wrong}
use Rattle.core_eval.proofs.RegionMoves.{standing_keeps, standing_others}
use Rattle.core_meaning.proofs.Spots.{region_self}

-- what Core asks of a region
abbrev pub is_of : Standing → memory.Standing → Bool
is_of standing.Lexical = is_lexical
is_of standing.Single = is_single
is_of standing.Opened = is_opened
is_of standing.Closed = is_closed

asked_is : (from now : Standing) → is_of from (standing_of now) ≡ same_standing now from
asked_is standing.Lexical standing.Lexical = refl
asked_is standing.Lexical standing.Single = refl
asked_is standing.Lexical standing.Opened = refl
asked_is standing.Lexical standing.Closed = refl
asked_is standing.Single standing.Lexical = refl
asked_is standing.Single standing.Single = refl
asked_is standing.Single standing.Opened = refl
asked_is standing.Single standing.Closed = refl
asked_is standing.Opened standing.Lexical = refl
asked_is standing.Opened standing.Single = refl
asked_is standing.Opened standing.Opened = refl
asked_is standing.Opened standing.Closed = refl
asked_is standing.Closed standing.Lexical = refl
asked_is standing.Closed standing.Single = refl
asked_is standing.Closed standing.Opened = refl
asked_is standing.Closed standing.Closed = refl

none_dead : (from : Standing) → is_of from Dead ≡ false
none_dead standing.Lexical = refl
none_dead standing.Single = refl
none_dead standing.Opened = refl
none_dead standing.Closed = refl

-- what it is then
abbrev pub standing_then : Option Standing → memory.Standing
standing_then None = Dead
standing_then (Some s) = standing_of s

abbrev pub can_turn : Standing → Option Kept → Bool
can_turn from None = false
can_turn from (Some kept) = same_standing kept.standing from

module _ (known : Known) (ws : List Wait) (from : Standing) (to : Option Standing) (n : ℕ) where
  asked : (marks : List Mark) (c : Config) → Agrees known ws marks c
      → is_of from (c.memory.standing (Born (suc n))) ≡ can_turn from (region_at known.regions n)
  asked marks c h = by (region_at known.regions n) (h.born.each n)
    where
      by : (held : Option Kept) → ShowsBlocks c.memory (Born (suc n)) held → is_of from (c.memory.standing (Born (suc n))) ≡ can_turn from held
      by None dead = ap (is_of from) dead ∙ none_dead from
      by (Some kept) shows = ap (is_of from) shows.standing ∙ asked_is from kept.standing

  now_shows : (m : Memory) (kept : Kept) (now : Option Standing) → ShowsKept m (Born (suc n)) kept
      → ShowsBlocks (with_standing m (Born (suc n)) (standing_then now)) (Born (suc n)) (as_now now kept)
  now_shows m kept None shows = ap (λ b. if b then Dead else m.standing (Born (suc n))) (region_self (Born (suc n)))
  now_shows m kept (Some s) shows = record {
    standing = ap (λ b. if b then standing_of s else m.standing (Born (suc n))) (region_self (Born (suc n)));
    holds = shows.holds;
    counted = shows.counted;
  }

  abbrev then_memory : Config → Memory
  then_memory c = with_standing c.memory (Born (suc n)) (standing_then to)

  turned_agrees : (kept : Kept) → region_at known.regions n ≡ Some kept → (marks : List Mark) (c : Config) → Agrees known ws marks c
      → Agrees (record known { regions = slice_set known.regions n (as_now to kept) }) ws marks (with_memory (then_memory c) c)
  turned_agrees kept has marks c h =
      let m = c.memory in
      let at = held_there known.regions n kept has in
      born_agrees known ws marks c h (then_memory c) (standing_keeps m (suc n) (standing_then to)) known.globals (slice_set known.regions n (as_now to kept))
      known.long_blocks
      (shows_standing h.globals (Born (suc n)) (other_number 0 (suc n) (omega arith)) (standing_then to))
      (region_changed m (then_memory c) known.globals known.regions known.long_blocks h.born n (standing_others m (suc n) (standing_then to)) (as_now to kept)
      (Some kept) at
      (now_shows m kept to (region_shows m m known.globals known.regions known.long_blocks h.born n kept at)) known.long_blocks h.born.kept)

  -- an operation that does this to the region with a number
  module _ (o : core.Operation) (event : events.Event) (silent : IsSilent (Visible event))
      (does_so : Becomes o ws known (λ next c.
      checked (is_of from (c.memory.standing (Born (suc n)))) (says event (next (with_memory (then_memory c) c))))) where
    at_known : (b : Bool) → can_turn from (region_at known.regions n) ≡ b
        → Becomes o ws known (λ next c. checked b (says event (next (with_memory (then_memory c) c))))
    at_known b can marks c h next =
        does_so marks c h next ∙ ap (λ t. checked t (says event (next (with_memory (then_memory c) c)))) (asked marks c h ∙ can)

    turns_kept : (regions' : Regions) (kept : Kept) (b : Bool) → region_at known.regions n ≡ Some kept → same_standing kept.standing from ≡ b
        → option_map (slice_set known.regions n) (if b then Some (as_now to kept) else None) ≡ Some regions'
        → IsMove (Execute (core.Do o)) ws known (Go (Leave steps.Falls)) ws (record known { regions = regions' })
    turns_kept regions' kept true has can e =
        let same : slice_set known.regions n (as_now to kept) ≡ regions' = cc in
        subst (λ (rs : Regions). IsMove (Execute (core.Do o)) ws known (Go (Leave steps.Falls)) ws (record known { regions = rs })) same
        (becomes_saying o ws known (record known { regions = slice_set known.regions n (as_now to kept) }) (λ c. event)
        (λ c. with_memory (then_memory c) c) (λ c. silent) (at_known true (ap (can_turn from) has ∙ can)) (turned_agrees kept has))
    turns_kept regions' kept false has can e = cc

    turns : (regions' : Regions) (held : Option Kept) → region_at known.regions n ≡ held
        → option_map (slice_set known.regions n) (turned_held from to held) ≡ Some regions'
        → IsMove (Execute (core.Do o)) ws known (Go (Leave steps.Falls)) ws (record known { regions = regions' })
    turns regions' None has e = cc
    turns regions' (Some kept) has e = turns_kept regions' kept (same_standing kept.standing from) has refl e

    stays_kept : (kept : Kept) (b : Bool) → region_at known.regions n ≡ Some kept → same_standing kept.standing from ≡ b
        → option_map (slice_set known.regions n) (if b then Some (as_now to kept) else None) ≡ None
        → IsMove (Execute (core.Do o)) ws known Wrong ws known
    stays_kept kept true has can e = cc
    stays_kept kept false has can e = goes_wrong o ws known (at_known false (ap (can_turn from) has ∙ can))

    stays : (held : Option Kept) → region_at known.regions n ≡ held → option_map (slice_set known.regions n) (turned_held from to held) ≡ None
        → IsMove (Execute (core.Do o)) ws known Wrong ws known
    stays None has e = goes_wrong o ws known (at_known false (ap (can_turn from) has))
    stays (Some kept) has e = stays_kept kept (same_standing kept.standing from) has refl e

    -- what is answered
    pub turn_answer : (is_done : Bool) (regions' : Regions) → turned_region known.regions n from to ≡ (if is_done then Some regions' else None)
        → (is_done ≡ false → regions' ≡ known.regions)
        → IsMove (Execute (core.Do o)) ws known (if is_done then Go (Leave steps.Falls) else Wrong) ws (record known { regions = regions' })
    turn_answer true regions' e kept = turns regions' (region_at known.regions n) refl e
    turn_answer false regions' e kept =
        subst (λ (rs : Regions). IsMove (Execute (core.Do o)) ws known Wrong ws (record known { regions = rs })) (sym (kept refl))
        (stays (region_at known.regions n) refl e)

-- where nothing can be done
pub wrong_answer : (known : Known) (ws : List Wait) (o : core.Operation) (is_done : Bool) (regions' : Regions)
    → None ≡ (if is_done then Some regions' else None) → (is_done ≡ false → regions' ≡ known.regions) → Becomes o ws known (λ next c. stuck)
    → IsMove (Execute (core.Do o)) ws known (if is_done then Go (Leave steps.Falls) else Wrong) ws (record known { regions = regions' })
wrong_answer known ws o true regions' e kept does_so = cc
wrong_answer known ws o false regions' e kept does_so =
    subst (λ (rs : Regions). IsMove (Execute (core.Do o)) ws known Wrong ws (record known { regions = rs })) (sym (kept refl)) (goes_wrong o ws known does_so)

-- ---- operations on a region by its birth, which a temporary holds

-- one that asks something of it, and says an event
pub record IsTurn (o : core.Operation) (x : ℕ) (from : Standing) (to : Option Standing) : Type 0 where
  pub event : ℕ → events.Event
  pub silent : (d : ℕ) → IsSilent (Visible (event d))
  pub asks : ℕ → memory.Standing → Bool
  -- the heap is never what it asks for
  pub never : asks 0 Live ≡ false
  pub asks_so : (n : ℕ) (now : memory.Standing) → asks (suc n) now ≡ is_of from now
  pub does_so : (next : Config → Step) (c : Config) → does o next c ≡ birth_of (c.temps x) (λ d.
      checked (asks d (c.memory.standing (Born d))) (says (event d) (next (with_memory (with_standing c.memory (Born d) (standing_then to)) c))))

module _ (known : Known) (ws : List Wait) (o : core.Operation) (x : ℕ) (from : Standing) (to : Option Standing) (is_turn : IsTurn o x from to) (v : Value)
    (read : content_of v ≡ temp_of known.temps x) where
  abbrev turn_step : (Config → Step) → Config → ℕ → Step
  turn_step next c d =
      checked (is_turn.asks d (c.memory.standing (Born d)))
      (says (is_turn.event d) (next (with_memory (with_standing c.memory (Born d) (standing_then to)) c)))

  at_birth : (d : ℕ) → v ≡ value.Birth d → Becomes o ws known (λ next c. turn_step next c d)
  at_birth d is marks c h next =
      is_turn.does_so next c ∙ ap (λ (u : Content). birth_of u (turn_step next c)) (h.temps x ∙ sym read ∙ ap content_of is)

  pub birth_answer : (d : ℕ) → v ≡ value.Birth d → (is_done : Bool) (regions' : Regions)
      → turned known.regions d from to ≡ (if is_done then Some regions' else None) → (is_done ≡ false → regions' ≡ known.regions)
      → IsMove (Execute (core.Do o)) ws known (if is_done then Go (Leave steps.Falls) else Wrong) ws (record known { regions = regions' })
  birth_answer zero is is_done regions' e kept =
      wrong_answer known ws o is_done regions' e kept (λ marks c h next.
      at_birth zero is marks c h next
      ∙ ap (λ (now : memory.Standing). checked (is_turn.asks 0 now)
      (says (is_turn.event 0) (next (with_memory (with_standing c.memory (Born 0) (standing_then to)) c)))) h.born.lexical
      ∙ ap (λ b. checked b (says (is_turn.event 0) (next (with_memory (with_standing c.memory (Born 0) (standing_then to)) c)))) is_turn.never)
  birth_answer (suc n) is is_done regions' e kept =
      turn_answer known ws from to n o (is_turn.event (suc n)) (is_turn.silent (suc n))
      (λ marks c h next. at_birth (suc n) is marks c h next
      ∙ ap (λ b. checked b (says (is_turn.event (suc n)) (next (with_memory (with_standing c.memory (Born (suc n)) (standing_then to)) c))))
      (is_turn.asks_so n (c.memory.standing (Born (suc n)))))
      is_done regions' e kept

pub region_frees : (x : ℕ) → IsTurn (core.RegionFree x) x standing.Lexical None
region_frees x = record {
  event = λ d. events.RegionFree d;
  silent = λ d. tt;
  asks = λ d now. not (nat_eq d 0) && is_lexical now;
  never = refl;
  asks_so = λ n now. ap (λ b. not b && is_lexical now) (eqb-suc-zero n);
  does_so = λ next c. refl;
}

pub key_opens : (x : ℕ) → IsTurn (core.KeyOpen x) x standing.Closed (Some standing.Opened)
key_opens x = record {
  event = λ d. events.KeyOpen d;
  silent = λ d. tt;
  asks = λ d now. is_closed now;
  never = refl;
  asks_so = λ n now. refl;
  does_so = λ next c. refl;
}

pub key_closes : (x : ℕ) → IsTurn (core.KeyClose x) x standing.Opened (Some standing.Closed)
key_closes x = record {
  event = λ d. events.KeyClose d;
  silent = λ d. tt;
  asks = λ d now. is_opened now;
  never = refl;
  asks_so = λ n now. refl;
  does_so = λ next c. refl;
}

pub key_frees : (x : ℕ) → IsTurn (core.KeyFree x) x standing.Closed None
key_frees x = record {
  event = λ d. events.KeyFree d;
  silent = λ d. tt;
  asks = λ d now. is_closed now;
  never = refl;
  asks_so = λ n now. refl;
  does_so = λ next c. refl;
}
