-- Believed: what the pool's calls say, in the words of the laws of every store.
use Rattle.std.specs.Prelude.{◌≡◌, Option, Some, None, ℕ, ◌<◌, ◌≤◌, true, false, ◌&&◌, nat_eq, if◌then◌else◌, Result, Ok, Err}
use Rattle.arena_laws.specs.declared.refusal.StoreRefusal.{StoreRefusal}
use Rattle.arena_laws.specs.declared.refusal.StoreRefusal.TheVariants as store
use Rattle.arena_laws.specs.Counts.{put, is_full, one_less}
use Rattle.arena_laws.specs.Holdings.{arena_base, is_some}
use Rattle.region_runtime.specs.declared.handle.Handle.{Handle}
use Rattle.region_runtime.specs.declared.refusal.Refusal.{Refusal}
use Rattle.region_runtime.specs.declared.refusal.Refusal.TheVariants.{Full, BadHandle}
use Rattle.region_runtime.specs.Pool.{Pooled, held, is_free_field, is_taken, page_at, word_of}

abbrev pub refusal_of : Refusal → StoreRefusal
refusal_of Full = store.Full
refusal_of BadHandle = store.BadHandle

-- no handle stands for Full
abbrev pub said_handle : Option Handle → Result ℕ StoreRefusal
said_handle None = Err store.Full
said_handle (Some h) = Ok h.0

abbrev pub said_address : Result ℕ Refusal → Result ℕ StoreRefusal
said_address (Ok at) = Ok at
said_address (Err why) = Err (refusal_of why)

abbrev pub said_done : Result (Unit {0}) Refusal → Result ℕ StoreRefusal
said_done (Ok x) = Ok 0
said_done (Err why) = Err (refusal_of why)

-- the tags after a call that grants a region, and after one that frees it
abbrev pub tags_with : Option Handle → (ℕ → Option ℕ) → ℕ → Option ℕ
tags_with None tags = tags
tags_with (Some h) tags = put h.0 (Some 0) tags

abbrev pub tags_without : ℕ → Result (Unit {0}) Refusal → (ℕ → Option ℕ) → ℕ → Option ℕ
tags_without h (Ok x) tags = put h None tags
tags_without h (Err why) tags = tags

-- a live region's tag is set
abbrev pub tags_set : ℕ → ℕ → (ℕ → Option ℕ) → ℕ → Option ℕ
tags_set h value tags = (if is_some (tags h) then put h (Some value) tags else tags)

-- a word of a taken page, or none
abbrev pub word_seen : Pooled → ℕ → ℕ → Option ℕ
word_seen p page field = (if is_taken p page && is_free_field field then Some (word_of p page field) else None)

-- that word is set
abbrev pub words_set : Pooled → ℕ → ℕ → ℕ → ℕ → ℕ → ℕ
words_set p page field value q g =
    (if is_taken p page && is_free_field field then (if nat_eq q page && nat_eq g field then value else word_of p q g) else word_of p q g)

-- a free page is got: it wasn't taken, and none of its addresses had an owner
pub record IsGot (old new : Pooled) (page : ℕ) : Type 0 where
  pub within : page < (held old).pages
  pub fresh : is_taken old page ≡ false
  pub clear : (q : ℕ) → arena_base ≤ q → page_at q ≡ page → (held old).owner q ≡ None
  pub holds : held new ≡ record (held old) { counts = one_less (held old).counts }
  pub taken : is_taken new ≡ put page true (is_taken old)
  pub words : (q field : ℕ) → nat_eq q page ≡ false → word_of new q field ≡ word_of old q field

-- no page is got, and nothing else changed
pub record IsNotGot (old new : Pooled) : Type 0 where
  pub full : is_full (held old).counts ≡ true
  pub holds : held new ≡ held old
  pub taken : is_taken new ≡ is_taken old
  pub words : word_of new ≡ word_of old

abbrev pub Gets : Pooled → Pooled → Option ℕ → Type 0
Gets old new None = IsNotGot old new
Gets old new (Some page) = IsGot old new page
