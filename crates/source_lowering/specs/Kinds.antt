-- View of two runs side by side: what a region that was born is in Core, until it is dead: one of a scope, a unique block's own, or one of a key.
use Rattle.core_meaning.specs.Memory as core

-- the heap is one of these too
abbrev pub IsLexical : core.Standing → Type 0
IsLexical core.Live = Unit {0}
IsLexical core.Dead = Unit {0}
IsLexical core.Opened = ⊥
IsLexical core.Single = ⊥
IsLexical core.Closed = ⊥

abbrev pub IsSingle : core.Standing → Type 0
IsSingle core.Single = Unit {0}
IsSingle core.Dead = Unit {0}
IsSingle core.Live = ⊥
IsSingle core.Opened = ⊥
IsSingle core.Closed = ⊥

abbrev pub IsDynamic : core.Standing → Type 0
IsDynamic core.Opened = Unit {0}
IsDynamic core.Closed = Unit {0}
IsDynamic core.Dead = Unit {0}
IsDynamic core.Live = ⊥
IsDynamic core.Single = ⊥

-- it stays what it is
pub record StaysAs (old new : core.Standing) : Type 0 where
  pub lexical : IsLexical old → IsLexical new
  pub single : IsSingle old → IsSingle new
  pub dynamic : IsDynamic old → IsDynamic new
