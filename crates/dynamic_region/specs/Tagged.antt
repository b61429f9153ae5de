-- View of code: a pool's live regions are those with a tag.
use Rattle.std.specs.Prelude.{◌≡◌, Some, None, ℕ, Bool, true, false, refl, if◌then◌else◌}
use Rattle.arena_laws.specs.declared.standing.Standing.TheVariants.{Lexical}
use Rattle.region_runtime.specs.Headers.{word_in, owner_of, tag_in, is_live_number}
use Rattle.region_runtime.specs.Pool.{Pooled, held, tag_by, tag_of}
use Rattle.unique_blocks.specs.Blocks.{Slotted}
use Rattle.unique_blocks.specs.Blocks as blocks
use Rattle.dynamic_region.specs.Keyed.{lexical, AreTagged}

pub pool_tagged : (p : Pooled) → AreTagged (held p) (tag_of p)
unfolding tag_by
pool_tagged p = record { each = λ h. by_live h (is_live_number (owner_of (word_in p.words)) h) }
  where
    by_live : (h : ℕ) (b : Bool) → (if b then Some Lexical else None) ≡ lexical (if b then Some (tag_in (word_in p.words) h) else None)
    by_live h true = refl
    by_live h false = refl

-- likewise with unique blocks beside
pub blocks_tagged : (u : Slotted) → AreTagged (blocks.held u) (blocks.tag_of u)
blocks_tagged u = record { each = (pool_tagged u.pool).each }
