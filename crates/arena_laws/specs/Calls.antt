-- Believed: a store over a list of calls: what it was asked, by births, and what it said, by its own numbers.
use Rattle.std.specs.Prelude.{◌≡◌, Option, Some, None, ℕ, suc, ◌<◌, Bool, true, false, List, [], ◌∷◌, Result, Ok, Err}
use Rattle.arena_laws.specs.declared.owner.Owner.TheVariants.{Alone}
use Rattle.arena_laws.specs.declared.refusal.StoreRefusal.{StoreRefusal}
use Rattle.arena_laws.specs.declared.refusal.StoreRefusal.TheVariants.{Full}
use Rattle.arena_laws.specs.Counts.{put, is_full, is_full_for_slot}
use Rattle.arena_laws.specs.Holdings.{Holdings, fresh, is_some}
use Rattle.arena_laws.specs.Lawful.{region_free, unique_free, key_open, key_close, key_free}
use Rattle.arena_laws.specs.Laws.{Does, answer_of, is_refused_full, region_new, key_new, is_block_refused, region_alloc, unique_alloc}
use Rattle.arena_laws.specs.Pages.{Request, NewRegion, BlockIn, FreeRegion, NewAlone, FreeAlone, NewKey, OpenKey, CloseKey, FreeKey, ByBirth, unborn, said}
use Rattle.arena_laws.specs.Pages.{refusals}

-- the number of each live region and key by its birth (the heap is 0), and the address of each live unique block
pub record Names : Type 0 where
  pub number : ℕ → Option ℕ
  pub address : ℕ → Option ℕ

-- only the heap has a name
abbrev pub no_names : Names
no_names = record { number = put 0 (Some 0) (λ d. None); address = λ d. None }

-- what was said is a grant, or Full: the request was in order, and no host memory lacked
abbrev pub is_granted_or_full : Result ℕ StoreRefusal → Bool
is_granted_or_full (Ok n) = true
is_granted_or_full (Err Full) = true
is_granted_or_full (Err _) = false

-- a call on the live region or key with this birth, by the store's own number
pub record Speaks (number : ℕ → Option ℕ) (d : ℕ) (law : ℕ → Type 0) : Type 0 where
  pub own : ℕ
  pub is : number d ≡ Some own
  pub says : law own

-- a growing call: it does as its law, and is Full exactly where the counts say so
pub record Grows (result : Result ℕ StoreRefusal) (is_short : Bool) (does : Type 0) : Type 0 where
  pub law : does
  pub full : is_refused_full result ≡ is_short

abbrev pub Answers : Names → Request → Holdings → Result ℕ StoreRefusal → Holdings → Type 0
Answers names NewRegion s r after = Grows r (is_full s.counts) (Does r after (region_new (answer_of r) s))
Answers names (BlockIn d bytes) s r after =
    Speaks names.number d (λ h. Grows r (is_block_refused h bytes s) (Does r after (region_alloc h bytes (answer_of r) s)))
Answers names (FreeRegion d) s r after = Speaks names.number d (λ h. Does r after (region_free h s))
Answers names (NewAlone bytes) s r after = Grows r (is_full_for_slot bytes s.counts) (Does r after (unique_alloc bytes (answer_of r) s))
Answers names (FreeAlone d) s r after = Speaks names.address d (λ at. Does r after (unique_free at s))
Answers names NewKey s r after = Grows r (is_full s.counts) (Does r after (key_new (answer_of r) s))
Answers names (OpenKey d) s r after = Speaks names.number d (λ h. Does r after (key_open h s))
Answers names (CloseKey d) s r after = Speaks names.number d (λ h. Does r after (key_close h s))
Answers names (FreeKey d) s r after = Speaks names.number d (λ h. Does r after (key_free h s))

-- what is born gets a name, and what is freed loses it
abbrev pub named : Request → ByBirth → Result ℕ StoreRefusal → Names → Names
named NewRegion b (Ok h) names = record names { number = put (suc b.births) (Some h) names.number }
named NewKey b (Ok h) names = record names { number = put (suc b.births) (Some h) names.number }
named (NewAlone bytes) b (Ok at) names = record names { address = put (suc b.births) (Some at) names.address }
named (FreeRegion d) b (Ok x) names = record names { number = put d None names.number }
named (FreeKey d) b (Ok x) names = record names { number = put d None names.number }
named (FreeAlone d) b (Ok x) names = record names { address = put d None names.address }
named (BlockIn d bytes) b (Ok x) names = names
named (OpenKey d) b (Ok x) names = names
named (CloseKey d) b (Ok x) names = names
named q b (Err why) names = names

-- one call of a list
pub record IsCall (names : Names) (q : Request) (s : Holdings) (result : Result ℕ StoreRefusal) (after : Holdings) : Type 0 where
  pub answers : Answers names q s result after
  pub in_order : is_granted_or_full result ≡ true

-- a list of calls, what each said, and what was held after each
pub data Run : Type 0 where
  Done : Run
  Call : (result : Result ℕ StoreRefusal) (after : Holdings) (rest : Run) → Run

abbrev pub IsRun : Names → ByBirth → Holdings → List Request → Run → Type 0
IsRun names b s [] Done = Unit {0}
IsRun names b s [] (Call r after rest) = ⊥
IsRun names b s (q ∷ qs) Done = ⊥
IsRun names b s (q ∷ qs) (Call r after rest) = IsCall names q s r after × IsRun (named q b r names) (said q b (is_refused_full r)) after qs rest

abbrev pub refused_in : Run → List Bool
refused_in Done = []
refused_in (Call r after rest) = is_refused_full r ∷ refused_in rest

-- A law: over each list of calls in order on a store just made, with no want of host memory, those refused are the ones that the count by
-- births refuses, which knows the requests alone.
abbrev pub RefusedByCount : Type 0
RefusedByCount = (pages : ℕ) (qs : List Request) (run : Run) → IsRun no_names (unborn pages) (fresh pages) qs run → refused_in run ≡ refusals qs (unborn pages)

-- The counts by births are the store's by its own numbers.
pub record Agree (names : Names) (b : ByBirth) (s : Holdings) : Type 0 where
  pub fresh : s.counts.fresh ≡ b.counts.fresh
  pub given : s.counts.given ≡ b.counts.given
  pub taken : (d h : ℕ) → names.number d ≡ Some h → s.counts.taken h ≡ b.counts.taken d
  pub left : (d h : ℕ) → names.number d ≡ Some h → s.counts.left h ≡ b.counts.left d
  pub class_pages : (c : ℕ) → s.counts.class_pages c ≡ b.counts.class_pages c
  pub slots : (c : ℕ) → s.counts.slots c ≡ b.counts.slots c
  -- numbers and addresses are of one birth each
  pub apart : (d e h : ℕ) → names.number d ≡ Some h → names.number e ≡ Some h → d ≡ e
  pub apart_blocks : (d e at : ℕ) → names.address d ≡ Some at → names.address e ≡ Some at → d ≡ e
  pub heap : names.number 0 ≡ Some 0
  pub no_heap : s.standing 0 ≡ None
  pub live : (d h : ℕ) → names.number (suc d) ≡ Some h → is_some (s.standing h) ≡ true
  pub blocks : (d at : ℕ) → names.address d ≡ Some at → s.owner at ≡ Some (Alone at (b.class d))
  pub unborn : (d : ℕ) → b.births < d → names.number d ≡ None
  pub unborn_blocks : (d : ℕ) → b.births < d → names.address d ≡ None
