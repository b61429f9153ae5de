-- Runs of three programs that want more pages than there are, by their events alone: where the count by births first refuses one, with 1 to 8 pages.
use Rattle.std.proofs.Common.{◌≡◌, ℕ, zero, suc, ◌+◌, List, [], ◌∷◌, ◌++◌, Bool, true, false, Option, Some, None, refl}
use Rattle.cyc_words.specs.Events.{Event, ByteWritten, RegionNew, RegionAlloc, RegionFree, UniqueAlloc, UniqueFree}
use Rattle.arena_laws.specs.Pages.{ByBirth, unborn}
use Rattle.exhaustion_proof.specs.Room.{asked, counted_if, refused_if}

-- how many events come before the first one that is refused
abbrev by_refused : Bool → ℕ → Option ℕ → Option ℕ
by_refused true so_far later = Some so_far
by_refused false so_far later = later

abbrev first_refused : ℕ → List Event → ByBirth → Option ℕ
first_refused so_far [] b = None
first_refused so_far (e ∷ es) b = by_refused (refused_if (asked e) b) so_far (first_refused (suc so_far) es (counted_if (asked e) b))

-- region<`r> h; while (1) { int *`r p = rnew(h) 1; putchar(46); }
abbrev blocks : ℕ → List Event
blocks zero = []
blocks (suc n) = RegionAlloc 1 4 ∷ ByteWritten 46 ∷ blocks n

abbrev one_region : ℕ → Option ℕ
one_region pages = first_refused 0 (RegionNew 1 ∷ blocks 4200) (unborn pages)

-- 512 blocks of 8 bytes a page, and as many bytes written
region_1 : one_region 1 ≡ Some 1025
region_1 = refl

region_2 : one_region 2 ≡ Some 2049
region_2 = refl

region_3 : one_region 3 ≡ Some 3073
region_3 = refl

region_4 : one_region 4 ≡ Some 4097
region_4 = refl

region_5 : one_region 5 ≡ Some 5121
region_5 = refl

region_6 : one_region 6 ≡ Some 6145
region_6 = refl

region_7 : one_region 7 ≡ Some 7169
region_7 = refl

region_8 : one_region 8 ≡ Some 8193
region_8 = refl

-- three regions a call, and a block in the last one; they end with the call
abbrev calls : ℕ → ℕ → List Event
calls births zero = []
calls births (suc n) =
    RegionNew (births + 1) ∷ RegionNew (births + 2) ∷ RegionNew (births + 3) ∷ RegionAlloc (births + 3) 4 ∷ RegionFree (births + 3) ∷ RegionFree (births + 2)
    ∷ RegionFree (births + 1) ∷ calls (births + 3) n

abbrev three_regions : ℕ → Option ℕ
three_regions pages = first_refused 0 (calls 0 40) (unborn pages)

calls_1 : three_regions 1 ≡ Some 1
calls_1 = refl

calls_2 : three_regions 2 ≡ Some 2
calls_2 = refl

calls_3 : three_regions 3 ≡ None
calls_3 = refl

calls_4 : three_regions 4 ≡ None
calls_4 = refl

calls_5 : three_regions 5 ≡ None
calls_5 = refl

calls_6 : three_regions 6 ≡ None
calls_6 = refl

calls_7 : three_regions 7 ≡ None
calls_7 = refl

calls_8 : three_regions 8 ≡ None
calls_8 = refl

-- unique blocks of 12 bytes that are dropped, a byte written after each: 128 slots a page
abbrev dropped : ℕ → ℕ → List Event
dropped births zero = []
dropped births (suc n) = UniqueAlloc (births + 1) 12 ∷ ByteWritten 46 ∷ dropped (births + 1) n

abbrev unique_blocks : ℕ → Option ℕ
unique_blocks pages = first_refused 0 (dropped 0 1100) (unborn pages)

unique_1 : unique_blocks 1 ≡ Some 256
unique_1 = refl

unique_2 : unique_blocks 2 ≡ Some 512
unique_2 = refl

unique_3 : unique_blocks 3 ≡ Some 768
unique_3 = refl

unique_4 : unique_blocks 4 ≡ Some 1024
unique_4 = refl

unique_5 : unique_blocks 5 ≡ Some 1280
unique_5 = refl

unique_6 : unique_blocks 6 ≡ Some 1536
unique_6 = refl

unique_7 : unique_blocks 7 ≡ Some 1792
unique_7 = refl

unique_8 : unique_blocks 8 ≡ Some 2048
unique_8 = refl

-- and freed before the byte is written: one slot serves all
abbrev freed : ℕ → ℕ → List Event
freed births zero = []
freed births (suc n) = UniqueAlloc (births + 1) 12 ∷ UniqueFree (births + 1) ∷ ByteWritten 46 ∷ freed (births + 1) n

freed_1 : first_refused 0 (freed 0 1000) (unborn 1) ≡ None
freed_1 = refl
