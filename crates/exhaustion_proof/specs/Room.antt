-- Believed: what events need of an arena with a number of pages, all free at first: a count over the events alone, with no store in it.
use Rattle.std.specs.Prelude.{◌≡◌, ℕ, Bool, true, false, List, [], ◌∷◌, ◌++◌, Option, Some, None}
use Rattle.cyc_words.specs.Events as events
use Rattle.cyc_words.specs.Events.{Event, SourceEvent, Visible, Called, Returned, visible}
use Rattle.arena_laws.specs.Pages as pages
use Rattle.arena_laws.specs.Pages.{ByBirth, unborn, counted, is_refused}
use Rattle.rv32_machine.specs.Implements.{HasNoFrame, active_after}

-- what an event asks of the store, by births; nothing where it reads or writes a byte
abbrev pub asked : Event → Option pages.Request
asked (events.ByteRead byte) = None
asked (events.ByteWritten byte) = None
asked (events.RegionNew region) = Some pages.NewRegion
asked (events.RegionAlloc region bytes) = Some (pages.BlockIn region bytes)
asked (events.RegionFree region) = Some (pages.FreeRegion region)
asked (events.UniqueAlloc block bytes) = Some (pages.NewAlone bytes)
asked (events.UniqueFree block) = Some (pages.FreeAlone block)
asked (events.KeyNew key) = Some pages.NewKey
asked (events.KeyOpen key) = Some (pages.OpenKey key)
asked (events.KeyClose key) = Some (pages.CloseKey key)
asked (events.KeyFree key) = Some (pages.FreeKey key)

-- the counts after a request, which wasn't refused
abbrev pub counted_if : Option pages.Request → ByBirth → ByBirth
counted_if None b = b
counted_if (Some q) b = counted q b

-- the counts after events
abbrev pub counts_after : List Event → ByBirth → ByBirth
counts_after [] b = b
counts_after (e ∷ es) b = counts_after es (counted_if (asked e) b)

abbrev pub refused_if : Option pages.Request → ByBirth → Bool
refused_if None b = false
refused_if (Some q) b = is_refused q b.counts

-- with `count` pages, the counts refuse an event after these
abbrev pub is_refused_after : ℕ → List Event → Event → Bool
is_refused_after count before e = refused_if (asked e) (counts_after before (unborn count))

-- the next of a source's events is a request that the counts refuse
abbrev pub WantsPages : ℕ → List SourceEvent → SourceEvent → Type 0
WantsPages count before (Visible e) = is_refused_after count (visible before) e ≡ true
WantsPages count before (Called f) = ⊥
WantsPages count before (Returned f) = ⊥

-- there are pages for each of these events, and stack for each call among them; `bound` says how many bytes a function's frame may take
abbrev pub HasRoom : (List ℕ → ℕ) → (count stack : ℕ) → List SourceEvent → Type 0
HasRoom bound count stack all =
    (before : List SourceEvent) (next : SourceEvent) (rest : List SourceEvent) → all ≡ before ++ next ∷ rest
    → (WantsPages count before next → ⊥) × (HasNoFrame bound stack (active_after [] before) next → ⊥)
