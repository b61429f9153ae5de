-- The place of code at the start of a function, and within a block.
use Rattle.std.proofs.Common.{◌≡◌, ℕ, ◌*◌, List, [], ◌∷◌, ap, ◌∙◌}
use Rattle.core_meaning.specs.Core.{Local, Function}
use Rattle.core_lines.specs.Choosing.{far}
use Rattle.core_lines.specs.Held.{Holding}
use Rattle.core_lines.specs.Homes.{homes_in}
use Rattle.core_lines.specs.Saved.{taken_in}
use Rattle.core_lines.specs.Selected.{Surroundings, around, slots_of, offsets_from, end_from, shrunk, homes_here, homes_after, within_block}
use Rattle.rv32_select.proofs.Shrinking.{unshrunk}

pub settled : (f : Function) (statics own names : List ℕ) (blocks homes : List (List ℕ)) (exit first low : ℕ) (held : List Holding) → first ≡ 4 * slots_of f
    → own ≡ offsets_from first (shrunk f.own []) → low ≡ end_from first (shrunk f.own []) → names ≡ homes_in f → blocks ≡ [] → homes ≡ [] → held ≡ taken_in f
    → record {
      wide = far;
      passed = f.passed;
      exit = exit;
      own = own;
      blocks = blocks;
      homes = homes;
      names = names;
      low = low;
      statics = statics;
      held = held;
    } ≡ around far statics exit f
settled f statics own names blocks homes exit first low held a o l n b h e =
    let own' = o ∙ (λ i. offsets_from (a i) (unshrunk f.own i)) in
    let low' = l ∙ (λ i. end_from (a i) (unshrunk f.own i)) in
    λ i. record {
      wide = far;
      passed = f.passed;
      exit = exit;
      own = own' i;
      blocks = b i;
      homes = h i;
      names = n i;
      low = low' i;
      statics = statics;
      held = e i;
    }

pub entered : (u : Surroundings) (ls : List Local) (here offsets later : List ℕ) (end : ℕ) (blocks homes : List (List ℕ))
    → here ≡ homes_here ls u.names → offsets ≡ offsets_from u.low (shrunk ls here) → end ≡ end_from u.low (shrunk ls here)
    → later ≡ homes_after ls u.names → blocks ≡ offsets ∷ u.blocks → homes ≡ here ∷ u.homes
    → record u { blocks = blocks; homes = homes; names = later; low = end } ≡ within_block ls u
entered u ls here offsets later end blocks homes h o e n b k =
    let offsets' = o ∙ ap (λ hs. offsets_from u.low (shrunk ls hs)) h in
    let end' = e ∙ ap (λ hs. end_from u.low (shrunk ls hs)) h in
    let blocks' = b ∙ ap (λ os. os ∷ u.blocks) offsets' in
    let homes' = k ∙ ap (λ hs. hs ∷ u.homes) h in
    λ i. record u { blocks = blocks' i; homes = homes' i; names = n i; low = end' i }
