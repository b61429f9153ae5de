-- Where members lie, and the members of a tag that stands for no struct.
use Rattle.std.specs.Prelude.{bytes_eq, if◌then◌else◌}
use Rattle.std.proofs.Common.{◌≡◌, ℕ, zero, suc, ◌≤◌, ◌+◌, ◌*◌, ◌/◌, ◌<◌, Bool, true, false, List, [], ◌∷◌, max, refl, arith, true≢false}
use Rattle.std.proofs.Math.Nat.{lt-div-mul-add, zero-lt-suc}
use Rattle.source_meaning.specs.Shapes.{Layout, Part, Shape, has_tag, parts_of}
use Rattle.source_meaning.specs.Sizes.{Extent, laid_out, rounded_up}

pub rounded_above : (x a : ℕ) → x ≤ rounded_up x a
rounded_above x zero = omega arith
rounded_above x (suc a) = let more : x + a < (x + a) / suc a * suc a + suc a = lt-div-mul-add (zero-lt-suc a) in omega (arith, more)

-- what lies so far ends no later than all
pub laid_above : (extent : Shape → Extent) (s : Extent) (ps : List Part) → s.size ≤ (laid_out extent s ps).size
laid_above extent s [] = rounded_above s.size s.align
laid_above extent s (p ∷ ps) =
    let e = extent p.shape in
    let further : rounded_up s.size e.align + e.size ≤ (laid_out extent s (p ∷ ps)).size =
    laid_above extent (record { size = rounded_up s.size e.align + e.size; align = max s.align e.align }) ps in
    omega (arith, rounded_above s.size e.align, further)

pub no_parts : (ls : List Layout) (x : List ℕ) → has_tag ls x ≡ false → parts_of ls x ≡ []
no_parts [] x h = refl
no_parts (l ∷ ls) x h = by (bytes_eq l.tag x) h (no_parts ls x)
  where
    by : (b : Bool) → (if b then true else has_tag ls x) ≡ false → (has_tag ls x ≡ false → parts_of ls x ≡ []) → (if b then l.parts else parts_of ls x) ≡ []
    by true h others = absurd (true≢false h)
    by false h others = others h
