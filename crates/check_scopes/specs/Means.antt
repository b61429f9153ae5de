-- View of code: what names mean in code, as the rules say it.
use Rattle.std.specs.Prelude.{None, Option, Some, false, map, option_map, true, ℕ, ◌≡◌}
use Rattle.cyc_types.specs.Regions.{region_of, regions_of}
use Rattle.cyc_types.specs.Types.{static_type}
use Rattle.source_typing.specs.Tables.{Arrayed, Counter, Entry, OfBuiltin, OfFunction, OfTag, OfValue, Signature, Stored, Tag, Unknown}
use Rattle.source_typing.specs.Tables as rules
use Rattle.check_scopes.specs.declared.locals.What.{What}
use Rattle.check_scopes.specs.declared.locals.What.TheVariants as local
use Rattle.check_scopes.specs.declared.meaning.Meaning.{Meaning}
use Rattle.check_scopes.specs.declared.meaning.Meaning.TheVariants as code
use Rattle.check_scopes.specs.declared.meaning.Signature as head
use Rattle.check_scopes.specs.declared.scope.Named.{Named}
use Rattle.check_scopes.specs.declared.scope.Named.TheVariants as named
use Rattle.cyc_types.specs.declared.ctype.CType.{CType}
use Rattle.cyc_types.specs.declared.region.RegionId.{RegionId}

-- a function whose head has no fault
abbrev pub signature_of : head.Signature → Signature
signature_of s = record {
  regions = s.regions;
  parameters = map (option_map static_type) s.parameters.items;
  result = option_map static_type s.result;
  effect = regions_of s.effect.items;
  bounds = s.bounds;
  sound = true;
}

-- what is borrowed of a meaning, by itself
abbrev pub meaning_of : Named → Meaning
meaning_of (named.Variable t r) = code.Variable t.now r
meaning_of (named.Array t r) = code.Array t.now r
meaning_of named.Counter = code.Counter
meaning_of (named.Function s) = code.Function s.now
meaning_of (named.Builtin n) = code.Builtin n
meaning_of (named.Tag u n) = code.Tag u n
meaning_of (named.FaultyTag n) = code.FaultyTag n
meaning_of named.Untyped = code.Untyped
meaning_of named.NotKnown = code.NotKnown

-- What the rules know of a name, and what is known of it in code. A variable and a function with a fault are those that aren't known.
pub data Means : Option Entry → Option Meaning → Type 0 where
  NoName : Means None None
  Variable : (t : CType) (r : RegionId) → Means (Some (OfValue (Stored (static_type t) (region_of r)))) (Some (code.Variable t r))
  Array : (t : CType) (r : RegionId) → Means (Some (OfValue (Arrayed (static_type t) (region_of r)))) (Some (code.Array t r))
  CounterValue : Means (Some (OfValue Counter)) (Some code.Counter)
  Function : (s : head.Signature) → Means (Some (OfFunction (signature_of s))) (Some (code.Function s))
  Builtin : (n : ℕ) → Means (Some (OfBuiltin n)) (Some (code.Builtin n))
  UntypedValue : Means (Some (OfValue (Unknown true))) (Some code.Untyped)
  UnknownValue : Means (Some (OfValue (Unknown false))) (Some code.NotKnown)
  UnsoundFunction : (s : Signature) → s.sound ≡ false → Means (Some (OfFunction s)) (Some code.NotKnown)
  SoundTag : (t : Tag) → t.sound ≡ true → Means (Some (OfTag t)) (Some (code.Tag t.is_union t.regions))
  UnsoundTag : (t : Tag) → t.sound ≡ false → Means (Some (OfTag t)) (Some (code.FaultyTag t.regions))

-- what the rules know of a local, and what is known of it in code
pub data WhatIs : rules.What → What → Type 0 where
  Variable : (t : CType) (r : RegionId) → WhatIs (Stored (static_type t) (region_of r)) (local.Variable t r)
  Array : (t : CType) (r : RegionId) → WhatIs (Arrayed (static_type t) (region_of r)) (local.Array t r)
  Counted : WhatIs Counter local.Counter
  Untyped : WhatIs (Unknown true) local.Untyped
  NotKnown : WhatIs (Unknown false) local.NotKnown
