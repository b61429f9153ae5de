-- View of code: a run: neighbouring pages that were never used join the heap or a live region, one by one.
use Rattle.std.specs.Prelude.{◌≡◌, ℕ, ◌+◌, ◌-◌}
use Rattle.arena_laws.specs.declared.owner.Owner.TheVariants.{Region}
use Rattle.arena_laws.specs.Counts.{put}
use Rattle.arena_laws.specs.Holdings.{Holdings}
use Rattle.arena_laws.specs.Lawful.{owns}
use Rattle.region_runtime.specs.Pool.{Shape, holdings_of, is_taken_by, tag_by, word_by}
use Rattle.region_runtime.specs.Sound.{IsOrdered, no_page}

-- a run of n pages that were never used is the region's, with `room` bytes from an address on; its last page stays
abbrev pub ran : ℕ → ℕ → ℕ → ℕ → Holdings → Holdings
ran h at room n k = record k {
  owner = owns at room (Region h) k.owner;
  counts = record (k.counts) { fresh = k.counts.fresh - n; taken = put h (k.counts.taken h + n) k.counts.taken };
}

-- n pages with `room` bytes have joined
pub record IsRun (t now : Shape) (h at room n : ℕ) : Type 0 where
  pub ordered : IsOrdered now no_page
  pub holds : holdings_of now ≡ ran h at room n (holdings_of t)
  pub tags : tag_by now.word ≡ tag_by t.word
  pub taken : is_taken_by now.word ≡ is_taken_by t.word
  pub words : word_by now.word ≡ word_by t.word
  pub used : now.ever_used ≡ t.ever_used + n
