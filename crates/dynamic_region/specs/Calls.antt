-- Believed: what the calls on keys say, in the words of the laws of every store.
use Rattle.std.specs.Prelude.{ℕ, Result, Ok, Err}
use Rattle.arena_laws.specs.declared.refusal.StoreRefusal.{StoreRefusal}
use Rattle.arena_laws.specs.declared.refusal.StoreRefusal.TheVariants as store
use Rattle.region_runtime.specs.declared.handle.Handle.{Handle}
use Rattle.dynamic_region.specs.declared.key.Key.{Key}
use Rattle.dynamic_region.specs.declared.refusal.KeyRefusal.{KeyRefusal}
use Rattle.dynamic_region.specs.declared.refusal.KeyRefusal.TheVariants.{Full, BadKey, Open, NotOpen}

abbrev pub refusal_of : KeyRefusal → StoreRefusal
refusal_of Full = store.Full
refusal_of BadKey = store.BadKey
refusal_of Open = store.Open
refusal_of NotOpen = store.NotOpen

abbrev pub said_key : Result Key KeyRefusal → Result ℕ StoreRefusal
said_key (Ok k) = Ok k.0
said_key (Err why) = Err (refusal_of why)

abbrev pub said_opened : Result Handle KeyRefusal → Result ℕ StoreRefusal
said_opened (Ok h) = Ok h.0
said_opened (Err why) = Err (refusal_of why)

abbrev pub said_done : Result (Unit {0}) KeyRefusal → Result ℕ StoreRefusal
said_done (Ok x) = Ok 0
said_done (Err why) = Err (refusal_of why)
