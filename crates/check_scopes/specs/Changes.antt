-- View of code: what is in scope in code where a local is declared, and where a block is entered and left.
use Rattle.std.specs.Prelude.{List, length, ℕ, ◌≡◌, ◌≤◌, [], ◌∷◌}
use Rattle.source_typing.specs.Scope.{Env, is_second}
use Rattle.source_typing.specs.Scope as rules
use Rattle.check_regions.specs.Scopes.{first_of, with_begun}
use Rattle.check_regions.specs.declared.begun.Begun.TheVariants.{Block}
use Rattle.check_regions.specs.declared.scope.RegionMark.{RegionMark}
use Rattle.check_scopes.specs.Locals.{dropped_to, is_after, known}
use Rattle.check_scopes.specs.declared.locals.What.{What}
use Rattle.check_scopes.specs.declared.scope.Scope.{Scope}

-- one more local
abbrev pub with_known : List ℕ → What → Scope → Scope
with_known x w s = record s { locals = known x w ∷ s.locals }

-- a block is entered
abbrev pub entered : Scope → Scope
entered s = record s { regions = with_begun Block s.regions }

-- a block is left: the first `count` locals stay, and the regions up to a mark
abbrev pub left : ℕ → RegionMark → Scope → Scope
left count mark s = record s { locals = dropped_to count s.locals; regions = first_of mark.names mark.opened s.regions }

-- these locals are of blocks that are around
abbrev pub AllAround : ℕ → List rules.Local → Type 0
AllAround block [] = Unit {0}
AllAround block (l ∷ ls) = (l.block ≤ block) × AllAround block ls

-- The locals after the first `outer` ones are those of the innermost block.
pub record IsBlock (outer : ℕ) (s : Scope) (g : Env) : Type 0 where
  pub second : (x : List ℕ) → is_after s.locals outer x ≡ is_second g.locals g.block x
  pub within : outer ≤ length s.locals
  pub around : AllAround g.block g.locals
