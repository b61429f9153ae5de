-- Believed: functions by their numbers: how many bytes the frame of each may take, and which functions each calls.
use Rattle.std.specs.Prelude.{◌≡◌, ℕ, zero, suc, Bool, true, false, ◌+◌, ◌-◌, ◌^◌, ◌<◌, ◌≤◌, max, min, Option, Some, None, List, [], ◌∷◌, ◌++◌, Vec, map}
use Rattle.std.specs.Prelude.{length, slice_index, slice_index_or, slice_set, option_and_then, option_map}
use Rattle.std.specs.List.{Contains}

-- the numbers of functions, as they stand in code
abbrev pub rows_of : {Z : Type 0} → List (Vec ℕ Z) → List (List ℕ)
rows_of rows = map (λ r. r.items) rows

-- the functions that a function calls
abbrev pub called_by : List (List ℕ) → ℕ → List ℕ
called_by calls k = slice_index_or calls k []

-- the function of a number fits so many bytes: its frame, and beside it each function that it calls
pub data FitsAt (frames : List ℕ) (calls : List (List ℕ)) : ℕ → ℕ → Type 0 where
  LeavesAt : {k n : ℕ} (others : ℕ) → slice_index frames k + others ≤ n
      → ((g : ℕ) → Contains (called_by calls k) g → FitsAt frames calls g others) → FitsAt frames calls k n

-- the greatest word, which stands for itself and for all that is more
abbrev pub most_bytes : ℕ
most_bytes = 2 ^ 64 - 1

-- so many bytes are enough and no fewer are, or the greatest word are too few; some number is enough
pub record IsNeed (frames : List ℕ) (calls : List (List ℕ)) (k n : ℕ) : Type 0 where
  pub fits : n < most_bytes → FitsAt frames calls k n
  pub least : (m : ℕ) → FitsAt frames calls k m → n ≤ m
  pub some : (m : ℕ) × FitsAt frames calls k m

-- what a function needs, or that it fits nothing
abbrev pub IsAnswer : (frames : List ℕ) (calls : List (List ℕ)) (k : ℕ) → Option ℕ → Type 0
IsAnswer frames calls k (Some n) = IsNeed frames calls k n
IsAnswer frames calls k None = (n : ℕ) → FitsAt frames calls k n → ⊥

-- ---- how it is found

-- what is known of a function's need
abbrev pub known : List (Option ℕ) → ℕ → Option ℕ
known needs k = slice_index_or needs k None

-- the greatest of a number and the needs of these functions, where all are known
abbrev pub greatest : List (Option ℕ) → List ℕ → ℕ → Option ℕ
greatest needs [] n = Some n
greatest needs (g ∷ gs) n = option_and_then (λ need. greatest needs gs (max n need)) (known needs g)

-- a function's need, where those of all that it calls are known
abbrev pub need_by : List ℕ → List (List ℕ) → List (Option ℕ) → ℕ → Option ℕ
need_by frames calls needs k = option_map (λ n. min (slice_index frames k + n) most_bytes) (greatest needs (called_by calls k) 0)

-- the needs that are known, and the functions that were looked at in vain
pub record Found : Type 0 where
  pub needs : List (Option ℕ)
  pub waiting : List ℕ

-- with what was found of one more function
abbrev pub with_need : Found → ℕ → Option ℕ → Found
with_need found k (Some n) = record found { needs = slice_set found.needs k (Some n) }
with_need found k None = record found { waiting = found.waiting ++ k ∷ [] }

-- these functions are looked at, one after another
abbrev pub looked_at : List ℕ → List (List ℕ) → Found → List ℕ → Found
looked_at frames calls found [] = found
looked_at frames calls found (k ∷ ks) = looked_at frames calls (with_need found k (need_by frames calls found.needs k)) ks

abbrev pub found : List (Option ℕ) → List ℕ → Found
found needs waiting = record { needs = needs; waiting = waiting }

-- each function that is called is one of so many
abbrev pub AreNumbers : ℕ → List (List ℕ) → Type 0
AreNumbers count calls = (k g : ℕ) → Contains (called_by calls k) g → g < count

-- Between two functions that are looked at: what is known is right, and each function whose need isn't known was looked at in vain or is yet to be.
pub record AreFound (frames : List ℕ) (calls : List (List ℕ)) (count : ℕ) (f : Found) (others : List ℕ) : Type 0 where
  pub long : length f.needs ≡ count
  pub right : (k n : ℕ) → known f.needs k ≡ Some n → IsNeed frames calls k n
  pub listed : (k : ℕ) → k < count → known f.needs k ≡ None → Contains (f.waiting ++ others) k
  pub within : (k : ℕ) → Contains (f.waiting ++ others) k → k < count

-- none of these functions' needs follows from what is known
abbrev pub AreStuck : (frames : List ℕ) (calls : List (List ℕ)) → List (Option ℕ) → List ℕ → Type 0
AreStuck frames calls needs waiting = (k : ℕ) → Contains waiting k → need_by frames calls needs k ≡ None

-- the numbers below another one
abbrev pub numbers_below : ℕ → List ℕ
numbers_below zero = []
numbers_below (suc n) = numbers_below n ++ n ∷ []

-- at a loop's begin: as far as is known, and stuck where it is the last time
pub record AreLooked (frames : List ℕ) (calls : List (List ℕ)) (is_last : Bool) (needs : List (Option ℕ)) (waiting : List ℕ) : Type 0 where
  pub found_so : AreFound frames calls (length calls) (found needs waiting) []
  pub stuck : is_last ≡ true → AreStuck frames calls needs waiting

-- ---- recursions

-- a function's need isn't known because that of one that it calls isn't
pub record WaitsFor (calls : List (List ℕ)) (needs : List (Option ℕ)) (k : ℕ) : Type 0 where
  pub called : ℕ
  pub calls_it : Contains (called_by calls k) called
  pub unknown : known needs called ≡ None

-- and so it is with each whose need isn't known
abbrev pub AreWaiting : ℕ → List (List ℕ) → List (Option ℕ) → Type 0
AreWaiting count calls needs = (k : ℕ) → k < count → known needs k ≡ None → WaitsFor calls needs k

-- each calls the next
abbrev pub ArePath : List (List ℕ) → List ℕ → Type 0
ArePath calls [] = Unit {0}
ArePath calls (k ∷ []) = Unit {0}
ArePath calls (k ∷ g ∷ others) = Contains (called_by calls k) g × ArePath calls (g ∷ others)

-- A recursion: each of these functions calls the next, and the last of them calls one that is among them.
pub record IsRecursion (calls : List (List ℕ)) (from : ℕ) (path : List ℕ) (again : ℕ) : Type 0 where
  pub first : Contains path from
  pub calls_next : ArePath calls (path ++ again ∷ [])
  pub closes : Contains path again

-- from one function a path of one call or more leads to another
pub data Leads (calls : List (List ℕ)) : ℕ → ℕ → Type 0 where
  Calls : {k g : ℕ} → Contains (called_by calls k) g → Leads calls k g
  Goes : {k g h : ℕ} → Contains (called_by calls k) g → Leads calls g h → Leads calls k h

-- the functions that were seen are on the path, and its last one calls the one at hand, whose need isn't known
pub record IsOnPath (calls : List (List ℕ)) (needs : List (Option ℕ)) (from at : ℕ) (path : List ℕ) (seen : List Bool) : Type 0 where
  pub long : length seen ≡ length calls
  pub below : at < length calls
  pub unknown : known needs at ≡ None
  pub calls_next : ArePath calls (path ++ at ∷ [])
  pub listed : (k : ℕ) → slice_index_or seen k false ≡ true → Contains path k
  pub begins : Contains (path ++ at ∷ []) from
