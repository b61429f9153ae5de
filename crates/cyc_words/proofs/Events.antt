-- Events one after another.
use Rattle.std.proofs.Common.{◌≡◌, ℕ, ◌<◌, List, [], ◌∷◌, ◌++◌, Some, None, refl, ap, inl, inr}
use Rattle.std.specs.List.{Contains}
use Rattle.std.proofs.lemmas.List.Elements.{Contains-push_cases}
use Rattle.cyc_words.specs.Events.{AreBytes, Event, ByteRead, ByteWritten, RegionNew, RegionAlloc, RegionFree, UniqueAlloc, UniqueFree, KeyNew, KeyOpen}
use Rattle.cyc_words.specs.Events.{KeyClose, KeyFree, output, bytes_read, SourceEvent, Visible, Called, Returned, visible}

-- the visible ones of a source's events, and then more
pub visible_append : (first more : List SourceEvent) → visible (first ++ more) ≡ visible first ++ visible more
visible_append [] more = refl
visible_append (Visible e ∷ es) more = ap (λ l. e ∷ l) (visible_append es more)
visible_append (Called f ∷ es) more = visible_append es more
visible_append (Returned f ∷ es) more = visible_append es more

-- the output of events, and then more
pub output_append : (first more : List Event) → output (first ++ more) ≡ output first ++ output more
output_append [] more = refl
output_append (ByteWritten b ∷ es) more = ap (λ l. b ∷ l) (output_append es more)
output_append (ByteRead b ∷ es) more = output_append es more
output_append (RegionNew r ∷ es) more = output_append es more
output_append (RegionAlloc r n ∷ es) more = output_append es more
output_append (RegionFree r ∷ es) more = output_append es more
output_append (UniqueAlloc b n ∷ es) more = output_append es more
output_append (UniqueFree b ∷ es) more = output_append es more
output_append (KeyNew k ∷ es) more = output_append es more
output_append (KeyOpen k ∷ es) more = output_append es more
output_append (KeyClose k ∷ es) more = output_append es more
output_append (KeyFree k ∷ es) more = output_append es more

-- the bytes that were read, and then more
pub read_append : (first more : List Event) → bytes_read (first ++ more) ≡ bytes_read first ++ bytes_read more
read_append [] more = refl
read_append (ByteRead (Some b) ∷ es) more = ap (λ l. b ∷ l) (read_append es more)
read_append (ByteRead None ∷ es) more = read_append es more
read_append (ByteWritten b ∷ es) more = read_append es more
read_append (RegionNew r ∷ es) more = read_append es more
read_append (RegionAlloc r n ∷ es) more = read_append es more
read_append (RegionFree r ∷ es) more = read_append es more
read_append (UniqueAlloc b n ∷ es) more = read_append es more
read_append (UniqueFree b ∷ es) more = read_append es more
read_append (KeyNew k ∷ es) more = read_append es more
read_append (KeyOpen k ∷ es) more = read_append es more
read_append (KeyClose k ∷ es) more = read_append es more
read_append (KeyFree k ∷ es) more = read_append es more

-- bytes, and one more
pub bytes_push : (bytes : List ℕ) (byte : ℕ) → AreBytes bytes → byte < 256 → AreBytes (bytes ++ byte ∷ [])
bytes_push [] byte all below = (below, tt)
bytes_push (first ∷ rest) byte (fits, all) below = (fits, bytes_push rest byte all below)

-- an event of a longer list is one of the shorter or the last one
pub told_before : {P : Type 0} (events : List Event) (last x : Event) → (Contains events x → P) → (last ≡ x → P) → Contains (events ++ last ∷ []) x → P
told_before events last x early late has = elim (Contains-push_cases events last x has) [ inl there ↦ early there | inr same ↦ late same ]
