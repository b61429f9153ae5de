-- Pointers that lead further on, as Core does it.
use Rattle.std.specs.Prelude.{if◌then◌else◌, ◌||◌, nat_lt}
use Rattle.std.proofs.Common.{◌≡◌, ℕ, ◌+◌, ◌*◌, Bool, true, false, Option, Some, None, List, refl, ap, ◌∙◌, sym}
use Rattle.core_meaning.specs.Memory.{Frame, Own, Content, Pointer, Part, beyond, is_live}
use Rattle.core_meaning.specs.Core as core
use Rattle.core_meaning.specs.Steps as steps
use Rattle.core_meaning.specs.Steps.{Config, with_temp, Step, stuck, word_of, pointer_of, checked}
use Rattle.core_meaning.specs.Operations.{does, too_far, lies_at, reaches}
use Rattle.core_eval.specs.declared.value.Area.{Area}
use Rattle.core_eval.specs.declared.value.Area.TheVariants as area
use Rattle.core_eval.specs.declared.value.Place.{Place}
use Rattle.core_eval.specs.declared.value.Value.{Value}
use Rattle.core_eval.specs.declared.value.Value.TheVariants as value
use Rattle.core_eval.specs.declared.value.Slot.{Slot}
use Rattle.core_eval.specs.Values.{region_of, spot_of, place_spot, content_of, temp_of, part_in}
use Rattle.core_eval.specs.Blocks.{Stored, slot_in, is_there}
use Rattle.core_eval.specs.Leading.{lies_far, recalls, place_on, may_lead, lead_on}
use Rattle.core_eval.specs.Pendings.{Execute, Leave, Wait, Go, Wrong, Mark}
use Rattle.core_eval.specs.Standing.{Known, Agrees, Gives}
use Rattle.core_eval.specs.Costs.{IsMove}
use Rattle.core_eval.proofs.Changes.{stored_in}
use Rattle.core_eval.proofs.LongBlocks.{lies_is}
use Rattle.core_eval.proofs.Moves.{goes_wrong}
use Rattle.core_eval.proofs.OperationMoves.{IsNoWord, no_word, given, given_moves}
use Rattle.core_eval.proofs.MemoryMoves.{AreInOrder, ordered, area_part}
use Rattle.core_eval.proofs.Laid.{held_part}

-- ---- where a pointer may lead

-- a part of a live region lies where a cell is
live_lies : (live : Bool) (p : Option Part) (byte : ℕ) (o : Option Slot) → (if live then p else None) ≡ part_in o 0 → is_there byte o ≡ true
    → lies_at p byte ≡ true
live_lies true p byte o same there = ap (λ q. lies_at q byte) same ∙ lies_is byte o ∙ there
live_lies false p byte o same there =
    let lies : false ≡ true = ap (λ q. lies_at q byte) same ∙ lies_is byte o ∙ there in cc

-- the place that a pointer leads to, said in another way
pub leads_as : (stored : Stored) (p : Place) (cells cells' bytes bytes' : ℕ) (o r : Option Place) → cells' ≡ cells → bytes' ≡ bytes
    → r ≡ lead_on stored p cells' bytes' → r ≡ o → o ≡ lead_on stored p cells bytes
leads_as stored p cells cells' bytes bytes' o r further later leads is =
    sym is ∙ leads ∙ ap (λ (n : ℕ). lead_on stored p n bytes') further ∙ ap (λ (n : ℕ). lead_on stored p cells n) later

-- what comes of the place that a pointer leads to
abbrev pub lead_step : (Content → Step) → Option Place → Step
lead_step next None = stuck
lead_step next (Some q) = next (content_of (value.Pointer q))

module _ (known : Known) (ws : List Wait) (marks : List Mark) (c : Config) (h : Agrees known ws marks c) where
  -- a part lies where a cell does
  lies_there : (a : Area) (i k byte : ℕ) → recalls (stored_in known) a ≡ true → nat_lt byte too_far ≡ false
      → lies_at (c.memory.parts (spot_of (region_of a) i k) 0) byte ≡ lies_far (stored_in known) a i k byte
  lies_there area.Globals i k byte known_there far =
      ap (λ p. lies_at p byte) (h.globals.holds i k 0) ∙ lies_is byte (slot_in (stored_in known) area.Globals i k)
  lies_there (area.Region n) i k byte known_there far = h.born.kept n i k byte far
  lies_there (area.Block n) i k byte held far =
      ap (λ p. lies_at p byte) (held_part known ws marks c h (area.Block n) i k 0 held) ∙ lies_is byte (slot_in (stored_in known) (area.Block n) i k)
  lies_there (area.Own n) i k byte held far =
      ap (λ p. lies_at p byte) (held_part known ws marks c h (area.Own n) i k 0 held) ∙ lies_is byte (slot_in (stored_in known) (area.Own n) i k)

  -- one does where a cell lies that is known of
  there_lies : (a : Area) (i k byte : ℕ) → nat_lt byte too_far ≡ false → lies_far (stored_in known) a i k byte ≡ true
      → lies_at (c.memory.parts (spot_of (region_of a) i k) 0) byte ≡ true
  there_lies area.Globals i k byte far lies = lies_there area.Globals i k byte refl far ∙ lies
  there_lies (area.Region n) i k byte far lies = lies_there (area.Region n) i k byte refl far ∙ lies
  there_lies (area.Block n) i k byte far lies =
      live_lies (is_live (c.memory.standing (Frame n))) (c.memory.parts (spot_of (Frame n) i k) 0) byte (slot_in (stored_in known) (area.Block n) i k)
      (area_part known ws marks c h (area.Block n) i k 0) lies
  there_lies (area.Own n) i k byte far lies =
      live_lies (is_live (c.memory.standing (Own n))) (c.memory.parts (spot_of (Own n) i k) 0) byte (slot_in (stored_in known) (area.Own n) i k)
      (area_part known ws marks c h (area.Own n) i k 0) lies

  may_reach : (q : Place) → may_lead (stored_in known) q ≡ true → reaches c.memory (place_spot q) q.byte ≡ true
  may_reach q may = by (nat_lt q.byte too_far) refl may
    where
      by : (near : Bool) → nat_lt q.byte too_far ≡ near → (near || lies_far (stored_in known) q.area q.object q.cell q.byte) ≡ true
          → (near || lies_at (c.memory.parts (place_spot q) 0) q.byte) ≡ true
      by true is may = refl
      by false far lies = there_lies q.area q.object q.cell q.byte far lies

  recalled_reach : (q : Place) → recalls (stored_in known) q.area ≡ true → reaches c.memory (place_spot q) q.byte ≡ may_lead (stored_in known) q
  recalled_reach q recalled = by (nat_lt q.byte too_far) refl
    where
      by : (near : Bool) → nat_lt q.byte too_far ≡ near
          → (near || lies_at (c.memory.parts (place_spot q) 0) q.byte) ≡ (near || lies_far (stored_in known) q.area q.object q.cell q.byte)
      by true is = refl
      by false far = lies_there q.area q.object q.cell q.byte recalled far

  pub leads_there : (p : Place) (cells bytes : ℕ) (o : Option Place) → o ≡ lead_on (stored_in known) p cells bytes
      → (o ≡ None → recalls (stored_in known) p.area ≡ true) → (next : Content → Step)
      → checked (reaches c.memory (beyond (place_spot p) cells) (p.byte + bytes)) (next (Pointer (beyond (place_spot p) cells) (p.byte + bytes)))
      ≡ lead_step next o
  leads_there p cells bytes o is recalled next = by (may_lead (stored_in known) (place_on p cells bytes)) refl
    where
      step : Bool → Step
      step b = checked b (next (Pointer (beyond (place_spot p) cells) (p.byte + bytes)))

      found : (t : Bool) → may_lead (stored_in known) (place_on p cells bytes) ≡ t → o ≡ (if t then Some (place_on p cells bytes) else None)
      found t may = is ∙ ap (λ b. if b then Some (place_on p cells bytes) else None) may

      by : (t : Bool) → may_lead (stored_in known) (place_on p cells bytes) ≡ t
          → step (reaches c.memory (beyond (place_spot p) cells) (p.byte + bytes)) ≡ lead_step next o
      by true may = ap step (may_reach (place_on p cells bytes) may) ∙ ap (lead_step next) (sym (found true may))
      by false none =
          ap step (recalled_reach (place_on p cells bytes) (recalled (found false none)) ∙ none) ∙ ap (lead_step next) (sym (found false none))

-- ---- operations

-- an operation gives a temporary a pointer that leads so many cells and bytes further than a place
abbrev pub Leads : core.Operation → List Wait → Known → ℕ → Place → (cells bytes : ℕ) → Type 0
Leads o ws known t p cells bytes =
    (marks : List Mark) (c : Config) → Agrees known ws marks c → (next : Config → Step)
    → does o next c
    ≡ checked (reaches c.memory (beyond (place_spot p) cells) (p.byte + bytes))
    (next (with_temp t (Pointer (beyond (place_spot p) cells) (p.byte + bytes)) c))

module _ (known : Known) (ws : List Wait) (x : ℕ) (v : Value) (read : content_of v ≡ temp_of known.temps x) (p : Place) (is_place : v ≡ value.Pointer p) where
  holds_place : (marks : List Mark) (c : Config) → Agrees known ws marks c → c.temps x ≡ content_of (value.Pointer p)
  holds_place marks c h = h.temps x ∙ sym read ∙ ap content_of is_place

  pub offset_leads : (t cells bytes : ℕ) → Leads (core.Offset t x cells bytes) ws known t p cells bytes
  offset_leads t cells bytes marks c h next =
      ap (λ (u : Content). pointer_of u (λ s b. checked (reaches c.memory (beyond s cells) (b + bytes))
      (next (with_temp t (Pointer (beyond s cells) (b + bytes)) c)))) (holds_place marks c h)

  module _ (i : ℕ) (u : Value) (second : content_of u ≡ temp_of known.temps i) where
    -- which element it leads to
    abbrev element_step : (t cells bytes : ℕ) (c : Config) → (Config → Step) → Content → Content → Step
    element_step t cells bytes c next a b =
        pointer_of a (λ s e. word_of b (λ n. checked (reaches c.memory (beyond s (n * cells)) (e + n * bytes))
        (next (with_temp t (Pointer (beyond s (n * cells)) (e + n * bytes)) c))))

    pub element_leads : (t cells bytes n : ℕ) → u ≡ value.Word n
        → Leads (core.Element t x i cells bytes) ws known t p (n * cells) (n * bytes)
    element_leads t cells bytes n is marks c h next =
        ap (λ (a : Content). element_step t cells bytes c next a (c.temps i)) (holds_place marks c h)
        ∙ ap (λ (b : Content). element_step t cells bytes c next (content_of (value.Pointer p)) b) (h.temps i ∙ sym second ∙ ap content_of is)

    pub element_wrong : (t cells bytes : ℕ) → IsNoWord u → IsMove (Execute (core.Do (core.Element t x i cells bytes))) ws known Wrong ws known
    element_wrong t cells bytes none =
        goes_wrong (core.Element t x i cells bytes) ws known (λ marks c h next.
        ap (λ (a : Content). element_step t cells bytes c next a (c.temps i)) (holds_place marks c h)
        ∙ ap (λ (b : Content). element_step t cells bytes c next (content_of (value.Pointer p)) b) (h.temps i ∙ sym second)
        ∙ no_word u (λ n. checked (reaches c.memory (beyond (place_spot p) (n * cells)) (p.byte + n * bytes))
        (next (with_temp t (Pointer (beyond (place_spot p) (n * cells)) (p.byte + n * bytes)) c))) none)

module _ (known : Known) (ws : List Wait) (o : core.Operation) (t : ℕ) (p : Place) (cells bytes : ℕ) (leads : Leads o ws known t p cells bytes) where
  pub lead_moves : (temps : List Value) (q : Place) → (AreInOrder known → Some q ≡ lead_on (stored_in known) p cells bytes)
      → Gives t (content_of (value.Pointer q)) known.temps temps
      → IsMove (Execute (core.Do o)) ws known (Go (Leave steps.Falls)) ws (given known temps)
  lead_moves temps q is gives =
      given_moves known temps ws o t (content_of (value.Pointer q)) gives (λ marks c h next.
      leads marks c h next
      ∙ leads_there known ws marks c h p cells bytes (Some q) (is (ordered known ws marks c h)) (λ none. cc) (λ (u : Content). next (with_temp t u c)))

  pub lead_wrong : (AreInOrder known → None ≡ lead_on (stored_in known) p cells bytes) → (AreInOrder known → recalls (stored_in known) p.area ≡ true)
      → IsMove (Execute (core.Do o)) ws known Wrong ws known
  lead_wrong is recalled =
      goes_wrong o ws known (λ marks c h next.
      leads marks c h next
      ∙ leads_there known ws marks c h p cells bytes None (is (ordered known ws marks c h)) (λ none. recalled (ordered known ws marks c h))
      (λ (u : Content). next (with_temp t u c)))
