-- Computed runs: what the laws and the count by births give on small stores, worked out by hand.
use Rattle.std.proofs.Common.{◌≡◌, ℕ, ◌+◌, true, false, List, [], ◌∷◌, Result, Ok, Err, refl}
use Rattle.arena_laws.specs.declared.refusal.StoreRefusal.{StoreRefusal}
use Rattle.arena_laws.specs.declared.refusal.StoreRefusal.TheVariants.{Full, BadHandle, NotABlock, BadKey, Open, NotOpen, Memory}
use Rattle.arena_laws.specs.Holdings.{Holdings, fresh, is_live_in}
use Rattle.arena_laws.specs.Lawful.{Grants, Lacks, Done, region_free, unique_free, key_open, key_close, key_free}
use Rattle.arena_laws.specs.Laws.{region_new, region_alloc, unique_alloc, key_new}
use Rattle.arena_laws.specs.Pages.{NewRegion, BlockIn, FreeRegion, NewAlone, FreeAlone, NewKey, OpenKey, CloseKey, FreeKey, unborn, refusals}

-- what each call says, one after the other
says_of : List (Holdings → Done) → Holdings → List (Result ℕ StoreRefusal)
says_of [] s = []
says_of (f ∷ fs) s = (f s).says ∷ says_of fs (f s).after

-- A store of 4 pages: a region's first page is 1, a block of 8,193 takes a run of 3, and the next one of 4,096 the first page, whole. What comes back
-- makes no run again, but single pages. (A room is clear of live rooms; the run here begins at the second page.)
large_and_back : says_of (region_new (Grants 1) ∷ region_alloc 1 8193 (Grants 268439552) ∷ region_alloc 1 4096 (Grants 268435456) ∷ region_alloc 1 1
    (Grants 268447800) ∷ region_free 1 ∷ region_new (Grants 1) ∷ region_alloc 1 4097 (Grants 268439552) ∷ region_alloc 1 4096 (Grants 268435456)
    ∷ region_alloc 1 1 (Grants 268439552) ∷ []) (fresh 4)
    ≡ Ok 1 ∷ Ok 268439552 ∷ Ok 268435456 ∷ Err Full ∷ Ok 0 ∷ Ok 1 ∷ Err Full ∷ Ok 268435456 ∷ Ok 268439552 ∷ []
unfolding says_of
large_and_back = refl

-- the same by births; then the counts after the free: 4 pages were given back and none was never used
same_large_and_back : refusals (NewRegion ∷ BlockIn 1 8193 ∷ BlockIn 1 4096 ∷ BlockIn 1 1 ∷ FreeRegion 1 ∷ NewRegion ∷ BlockIn 2 4097 ∷ BlockIn 2 4096
    ∷ BlockIn 2 1 ∷ []) (unborn 4)
    ≡ false ∷ false ∷ false ∷ true ∷ false ∷ false ∷ true ∷ false ∷ false ∷ []
same_large_and_back = refl

-- the limit: 258 pages are a region's first and the 256 of a block of 1,048,576, with one to spare, and one byte more is always refused; with 257 the
-- block takes all, with 256 it has one page too few, and a unique block has at most a page
at_the_limit : refusals (NewRegion ∷ BlockIn 1 1048577 ∷ BlockIn 1 1048576 ∷ BlockIn 1 4096 ∷ BlockIn 1 1 ∷ BlockIn 1 1 ∷ []) (unborn 258)
    ≡ false ∷ true ∷ false ∷ false ∷ false ∷ false ∷ []
at_the_limit = refl

just_the_limit : refusals (NewRegion ∷ BlockIn 1 1048576 ∷ BlockIn 1 4096 ∷ BlockIn 1 1 ∷ []) (unborn 257) ≡ false ∷ false ∷ false ∷ true ∷ []
just_the_limit = refl

below_the_limit : refusals (NewRegion ∷ BlockIn 1 1048576 ∷ BlockIn 1 1044480 ∷ NewAlone 4097 ∷ NewAlone 4096 ∷ []) (unborn 256)
    ≡ false ∷ true ∷ false ∷ true ∷ true ∷ []
below_the_limit = refl

never_longer : refusals (BlockIn 0 1048577 ∷ BlockIn 0 4294967295 ∷ BlockIn 0 1048569 ∷ []) (unborn 4096) ≡ true ∷ true ∷ false ∷ []
never_longer = refl

-- 4,096 bytes are no large block, 4,097 take two pages that were never used
no_large : refusals (NewRegion ∷ BlockIn 1 4089 ∷ BlockIn 1 1 ∷ []) (unborn 1) ≡ false ∷ false ∷ true ∷ []
no_large = refl

two_never_used : refusals (NewRegion ∷ BlockIn 1 4097 ∷ []) (unborn 2) ≡ false ∷ true ∷ []
two_never_used = refl

three_for_it : refusals (NewRegion ∷ BlockIn 1 4097 ∷ []) (unborn 3) ≡ false ∷ false ∷ []
three_for_it = refl

-- a large block leaves the last page: 4 bytes, 8,000, then 4,088 in the first page, which is full then
last_page_stays : refusals (NewRegion ∷ BlockIn 1 4 ∷ BlockIn 1 8000 ∷ BlockIn 1 4088 ∷ BlockIn 1 4 ∷ []) (unborn 3)
    ≡ false ∷ false ∷ false ∷ false ∷ true ∷ []
last_page_stays = refl

-- never into the run's rest: 4,096 and 4,100 bytes, then 4 take a page of their own
no_rest : refusals (NewRegion ∷ BlockIn 1 4096 ∷ BlockIn 1 4100 ∷ BlockIn 1 4 ∷ []) (unborn 3) ≡ false ∷ false ∷ false ∷ true ∷ []
no_rest = refl

with_a_page_more : refusals (NewRegion ∷ BlockIn 1 4096 ∷ BlockIn 1 4100 ∷ BlockIn 1 4 ∷ []) (unborn 4) ≡ false ∷ false ∷ false ∷ false ∷ []
with_a_page_more = refl

-- the heap's first block may be large, and takes its run alone
heap_run : refusals (BlockIn 0 8000 ∷ BlockIn 0 4 ∷ []) (unborn 2) ≡ false ∷ true ∷ []
heap_run = refl

heap_run_and_page : refusals (BlockIn 0 8000 ∷ BlockIn 0 4 ∷ []) (unborn 3) ≡ false ∷ false ∷ []
heap_run_and_page = refl

-- what was given back makes no run; single pages (of a region, a key, the heap and a class) come from it and spare those never used
no_run_of_given : refusals (NewRegion ∷ BlockIn 1 8000 ∷ FreeRegion 1 ∷ NewRegion ∷ BlockIn 2 8000 ∷ []) (unborn 4) ≡ false ∷ false ∷ false ∷ false ∷
    true ∷ []
no_run_of_given = refl

one_more_for_it : refusals (NewRegion ∷ BlockIn 1 8000 ∷ FreeRegion 1 ∷ NewRegion ∷ BlockIn 2 8000 ∷ []) (unborn 5) ≡ false ∷ false ∷ false ∷ false ∷
    false ∷ []
one_more_for_it = refl

singles_spare : refusals (NewRegion ∷ BlockIn 1 12000 ∷ FreeRegion 1 ∷ BlockIn 0 1 ∷ NewKey ∷ NewAlone 32 ∷ NewRegion ∷ BlockIn 0 8192 ∷ NewRegion ∷ [])
    (unborn 6)
    ≡ false ∷ false ∷ false ∷ false ∷ false ∷ false ∷ false ∷ false ∷ true ∷ []
singles_spare = refl

-- a refused large block takes nothing
takes_nothing : refusals (NewRegion ∷ BlockIn 1 8000 ∷ NewRegion ∷ NewRegion ∷ []) (unborn 2) ≡ false ∷ true ∷ false ∷ true ∷ []
takes_nothing = refl

-- a bad handle goes before the size
bad_first : says_of (region_alloc 9 4097 (Grants 268435456) ∷ region_alloc 9 4294967295 (Grants 268435456) ∷ region_alloc 0 4294967295
    (Grants 268435456) ∷ []) (fresh 16) ≡ Err BadHandle ∷ Err BadHandle ∷ Err Full ∷ []
unfolding says_of
bad_first = refl

-- what is held after the calls
left_of : List (Holdings → Done) → Holdings → Holdings
left_of [] s = s
left_of (f ∷ fs) s = left_of fs (f s).after

-- a large block is live in its rounded bytes, and not in the rest of its last page
live_in_large : is_live_in (left_of (region_new (Grants 1) ∷ region_alloc 1 4097 (Grants 268439552) ∷ []) (fresh 3)) (268439552 + 4103) ≡ true
unfolding left_of
live_in_large = refl

not_live_past : is_live_in (left_of (region_new (Grants 1) ∷ region_alloc 1 4097 (Grants 268439552) ∷ []) (fresh 3)) (268439552 + 4104) ≡ false
unfolding left_of
not_live_past = refl

-- a store of 2 pages: a page each for the blocks of 4,096 and 1, what is left of the second is 4,088; then nothing is left to take
two_pages : says_of (region_new (Grants 7) ∷ region_alloc 7 4097 (Grants 268435456) ∷ region_alloc 7 4096 (Grants 268435456) ∷ region_alloc 7 1
    (Grants 268439552)
    ∷ region_alloc 7 4089 (Grants 268439560) ∷ region_alloc 7 4080 (Grants 268439560) ∷ region_new (Grants 8) ∷ region_free 7 ∷ region_free 7 ∷ region_new
    (Grants 7) ∷ []) (fresh 2)
    ≡ Ok 7 ∷ Err Full ∷ Ok 268435456 ∷ Ok 268439552 ∷ Err Full ∷ Ok 268439560 ∷ Err Full ∷ Ok 0 ∷ Err BadHandle ∷ Ok 7 ∷ []
unfolding says_of
two_pages = refl

-- a store of 1 page: keys, then a unique block
one_page : says_of (key_new (Grants 1) ∷ key_new (Grants 2) ∷ key_close 1 ∷ key_open 1 ∷ key_open 1 ∷ key_free 1 ∷ key_close 1 ∷ key_free 1 ∷ key_free 1
    ∷ unique_alloc 4097 (Grants 268435456) ∷ unique_alloc 0 (Grants 268435456) ∷ unique_free 268435464 ∷ unique_free 268435456 ∷ unique_free 268435456 ∷ [])
    (fresh 1)
    ≡ Ok 1 ∷ Err Full ∷ Err NotOpen ∷ Ok 1 ∷ Err Open ∷ Err Open ∷ Ok 0 ∷ Ok 0 ∷ Err BadKey ∷ Err Full ∷ Ok 268435456 ∷ Err NotABlock ∷ Ok 0 ∷ Err NotABlock ∷
    []
unfolding says_of
one_page = refl

-- a closed key takes no block and its number is no region's; an open one takes blocks; a live number isn't given twice; the heap takes a page at its first
-- block
mixed : says_of (key_new (Grants 5) ∷ region_alloc 5 8 (Grants 268435456) ∷ region_free 5 ∷ key_open 5 ∷ region_alloc 5 8 (Grants 268435456) ∷ region_free 5
    ∷ region_new (Grants 5) ∷ region_new (Grants 0) ∷ region_new (Grants 6) ∷ region_alloc 6 8 (Grants 268435456) ∷ region_alloc 6 8
    (Grants 268435460) ∷ region_alloc 0 8 (Grants 268443648)
    ∷ region_new (Grants 9) ∷ region_free 0 ∷ key_open 6 ∷ key_free 0 ∷ region_alloc 9 8 Lacks ∷ region_alloc 6 8 Lacks ∷ []) (fresh 3)
    ≡ Ok 5 ∷ Err BadHandle ∷ Err BadHandle ∷ Ok 5 ∷ Ok 268435456 ∷ Err BadHandle
    ∷ Err Full ∷ Err Full ∷ Ok 6 ∷ Err Full ∷ Err Full ∷ Ok 268443648
    ∷ Err Full ∷ Err BadHandle ∷ Err BadKey ∷ Err BadKey ∷ Err BadHandle ∷ Err Memory ∷ []
unfolding says_of
mixed = refl

-- classes take a page each; a slot that was freed serves its class again
full_class : refusals (NewAlone 32 ∷ NewAlone 33 ∷ NewRegion ∷ NewAlone 1 ∷ FreeAlone 2 ∷ NewAlone 64 ∷ NewRegion ∷ []) (unborn 2)
    ≡ false ∷ false ∷ true ∷ false ∷ false ∷ false ∷ true ∷ []
full_class = refl

-- the count by births refuses where the store's law did
same_two_pages : refusals (NewRegion ∷ BlockIn 1 4097 ∷ BlockIn 1 4096 ∷ BlockIn 1 1 ∷ BlockIn 1 4089 ∷ BlockIn 1 4080 ∷ NewRegion ∷ FreeRegion 1 ∷ NewRegion ∷
    []) (unborn 2)
    ≡ false ∷ true ∷ false ∷ false ∷ true ∷ false ∷ true ∷ false ∷ false ∷ []
same_two_pages = refl

same_one_page : refusals (NewKey ∷ NewKey ∷ OpenKey 1 ∷ CloseKey 1 ∷ FreeKey 1 ∷ NewAlone 4097 ∷ NewAlone 0 ∷ FreeAlone 2 ∷ NewAlone 4096 ∷ NewAlone 32 ∷ [])
    (unborn 1)
    ≡ false ∷ true ∷ false ∷ false ∷ false ∷ true ∷ false ∷ false ∷ true ∷ false ∷ []
same_one_page = refl
