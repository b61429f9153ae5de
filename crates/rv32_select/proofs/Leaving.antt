-- The place of code behind a block is that before it, but for the names that its statements took.
use Rattle.std.specs.Prelude.{remove}
use Rattle.std.proofs.Common.{◌≡◌, ℕ, List, [], ◌∷◌, map, ap}
use Rattle.core_meaning.specs.Core.{Local}
use Rattle.core_lines.specs.Choosing.{far}
use Rattle.core_lines.specs.Held.{Holding}
use Rattle.core_lines.specs.Selected.{Surroundings, offsets_from, shrunk, homes_here, holding, naming, within_block}

module _ {V : Type 0} (items : V → List ℕ) where
  others : (vs : List V) (b : List ℕ) (bs : List (List ℕ)) → map items vs ≡ b ∷ bs → map items (remove vs 0) ≡ bs
  others [] b bs e = absurd cc
  others (v ∷ vs) b bs e = cc

module _ {V : Type 0} (offsets homes : V → List ℕ) where
  pub left_is : (vs : List V) (passed exit low : ℕ) (own statics left : List ℕ) (now held gone : List Holding) (locals : List Local) (outer : Surroundings)
      (names : List ℕ) (last : ℕ)
      → record {
        wide = far;
        passed = passed;
        exit = exit;
        own = own;
        blocks = map offsets vs;
        homes = map homes vs;
        names = left;
        low = low;
        statics = statics;
        held = now;
      } ≡ holding held (naming names (within_block locals outer))
      → last ≡ outer.low → gone ≡ []
      → record {
        wide = far;
        passed = passed;
        exit = exit;
        own = own;
        blocks = map offsets (remove vs 0);
        homes = map homes (remove vs 0);
        names = left;
        low = last;
        statics = statics;
        held = gone;
      } ≡ holding [] (naming names outer)
  left_is vs passed exit low own statics left now held gone locals outer names last e e' none =
      let here = homes_here locals outer.names in
      let blocks = others offsets vs (offsets_from outer.low (shrunk locals here)) outer.blocks (ap (λ (u : Surroundings). u.blocks) e) in
      let homed = others homes vs here outer.homes (ap (λ (u : Surroundings). u.homes) e) in
      λ i. record {
        wide = ap (λ (u : Surroundings). u.wide) e i;
        passed = ap (λ (u : Surroundings). u.passed) e i;
        exit = ap (λ (u : Surroundings). u.exit) e i;
        own = ap (λ (u : Surroundings). u.own) e i;
        blocks = blocks i;
        homes = homed i;
        names = ap (λ (u : Surroundings). u.names) e i;
        low = e' i;
        statics = ap (λ (u : Surroundings). u.statics) e i;
        held = none i;
      }
