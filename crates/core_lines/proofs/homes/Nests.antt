-- The locals of the blocks around a statement have addresses where the code looks for them.
use Rattle.std.specs.Prelude.{slice_get, length}
use Rattle.std.proofs.Common.{◌≡◌, ℕ, zero, suc, ◌+◌, ◌<◌, ◌^◌, ◌⊎◌, inl, inr, true, List, [], ◌∷◌, Option, Some, None, refl, sym, ap, subst, ◌∙◌, arith}
use Rattle.std.proofs.lemmas.Option.{same_Some, none-some}
use Rattle.core_meaning.specs.Memory.{Frame}
use Rattle.core_lines.specs.Lies.{Maps, Zone}
use Rattle.core_lines.specs.Selected.{nth, nth_block}
use Rattle.core_meaning.specs.Selectable.{IsLocal}
use Rattle.core_lines.specs.Homes.{is_among}
use Rattle.core_lines.proofs.memory.Relations.{Place, BlocksLie, home_of, HaveHomes, IsHomeIn}

-- each block around has so many locals, and their offsets are those of its place in the frame
abbrev pub BlocksAre : List ℕ → List Place → List (List ℕ) → List (List ℕ) → Type 0
BlocksAre [] [] [] [] = Unit {0}
BlocksAre (n ∷ ns) (p ∷ ps) (os ∷ oss) (hs ∷ hss) =
    (n ≡ length os) × (p.offsets ≡ os) × ((o y : ℕ) → slice_get os o ≡ Some y → y < 2 ^ 25) × (p.homes ≡ hs) × BlocksAre ns ps oss hss
BlocksAre [] [] [] (hs ∷ hss) = ⊥
BlocksAre [] [] (os ∷ oss) hss = ⊥
BlocksAre [] (p ∷ ps) oss hss = ⊥
BlocksAre (n ∷ ns) [] oss hss = ⊥
BlocksAre (n ∷ ns) (p ∷ ps) [] hss = ⊥
BlocksAre (n ∷ ns) (p ∷ ps) (os ∷ oss) [] = ⊥

pub nth_is : (xs : List ℕ) (k : ℕ) → k < length xs → slice_get xs k ≡ Some (nth xs k)
nth_is [] k less = absurd (omega (arith, less))
nth_is (x ∷ xs) zero less = refl
nth_is (x ∷ xs) (suc k) less = nth_is xs k (omega (arith, less))

-- a local's address, and that its offset isn't large
pub record Found (m : Maps) (at k local offset : ℕ) : Type 0 where
  pub known : m.base (Frame k) local ≡ Some (at + offset)
  pub small : offset < 2 ^ 25

pub local_found : (m : Maps) (at : ℕ) (ns : List ℕ) (ps : List Place) (oss hss : List (List ℕ)) (ks : List ℕ) (zs : List Zone) (out local k : ℕ)
    → BlocksAre ns ps oss hss → home_of (nth_block hss out) local ≡ None
    → BlocksLie m at ps ks zs → IsLocal ns out local → slice_get ks out ≡ Some k → Found m at k local (nth (nth_block oss out) local)
local_found m at [] ps oss hss ks zs out local k are none lie is e = absurd is
local_found m at (n ∷ ns) [] oss hss ks zs out local k are none lie is e = absurd are
local_found m at (n ∷ ns) (p ∷ ps) [] hss ks zs out local k are none lie is e = absurd are
local_found m at (n ∷ ns) (p ∷ ps) (os ∷ oss) [] ks zs out local k are none lie is e = absurd are
local_found m at (n ∷ ns) (p ∷ ps) (os ∷ oss) (hs ∷ hss) [] zs out local k are none lie is e = absurd (none-some k e)
local_found m at (n ∷ ns) (p ∷ ps) (os ∷ oss) (hs ∷ hss) (j ∷ ks) [] out local k are none lie is e = absurd lie
local_found m at (n ∷ ns) (p ∷ ps) (os ∷ oss) (hs ∷ hss) (j ∷ ks) (z ∷ zs) zero local k are none lie is e =
    let found = nth_is os local (subst (λ q. local < q) are.0 is) in
    let known = lie.1 local (nth os local) (ap (λ q. slice_get q local) are.1 ∙ found) (ap (λ q. home_of q local) are.3 ∙ none) in
    record { known = ap (λ q. m.base (Frame q) local) (sym (same_Some j k e)) ∙ known; small = are.2 local (nth os local) found }
local_found m at (n ∷ ns) (p ∷ ps) (os ∷ oss) (hs ∷ hss) (j ∷ ks) (z ∷ zs) (suc out) local k are none lie is e =
    local_found m at ns ps oss hss ks zs out local k are.4 none lie.2 is e

pub local_small : (ns : List ℕ) (ps : List Place) (oss hss : List (List ℕ)) (out local : ℕ) → BlocksAre ns ps oss hss → IsLocal ns out local → nth
    (nth_block oss out) local < 2 ^ 25
local_small [] ps oss hss out local are is = absurd is
local_small (n ∷ ns) [] oss hss out local are is = absurd are
local_small (n ∷ ns) (p ∷ ps) [] hss out local are is = absurd are
local_small (n ∷ ns) (p ∷ ps) (os ∷ oss) [] out local are is = absurd are
local_small (n ∷ ns) (p ∷ ps) (os ∷ oss) (hs ∷ hss) zero local are is = are.2 local (nth os local) (nth_is os local (subst (λ q. local < q) are.0 is))
local_small (n ∷ ns) (p ∷ ps) (os ∷ oss) (hs ∷ hss) (suc out) local are is = local_small ns ps oss hss out local are.4 is

-- where the code looks for a local in a register, it is
pub home_found : (ns : List ℕ) (ps : List Place) (oss hss : List (List ℕ)) (ks : List ℕ) (homes : ℕ → ℕ → Option ℕ) (out local k r : ℕ)
    → BlocksAre ns ps oss hss → HaveHomes ps ks homes → slice_get ks out ≡ Some k → home_of (nth_block hss out) local ≡ Some r → homes k local ≡ Some r
home_found [] [] [] [] ks homes out local k r are have e is = absurd (none-some r is)
home_found [] [] [] (hs ∷ hss) ks homes out local k r are have e is = absurd are
home_found [] [] (os ∷ oss) hss ks homes out local k r are have e is = absurd are
home_found [] (p ∷ ps) oss hss ks homes out local k r are have e is = absurd are
home_found (n ∷ ns) [] oss hss ks homes out local k r are have e is = absurd are
home_found (n ∷ ns) (p ∷ ps) [] hss ks homes out local k r are have e is = absurd are
home_found (n ∷ ns) (p ∷ ps) (os ∷ oss) [] ks homes out local k r are have e is = absurd are
home_found (n ∷ ns) (p ∷ ps) (os ∷ oss) (hs ∷ hss) [] homes out local k r are have e is = absurd (none-some k e)
home_found (n ∷ ns) (p ∷ ps) (os ∷ oss) (hs ∷ hss) (j ∷ ks) homes zero local k r are have e is =
    ap (λ q. homes q local) (sym (same_Some j k e)) ∙ have.0 local r (ap (λ q. home_of q local) are.3 ∙ is)
home_found (n ∷ ns) (p ∷ ps) (os ∷ oss) (hs ∷ hss) (j ∷ ks) homes (suc out) local k r are have e is =
    home_found ns ps oss hss ks homes out local k r are.4 have.1 e is

-- a register that is a home in the places around is one in these lists
abbrev pub IsHomeOf : ℕ → List (List ℕ) → Type 0
IsHomeOf r [] = ⊥
IsHomeOf r (hs ∷ hss) = (is_among r hs ≡ true) ⊎ IsHomeOf r hss

pub home_around : (ns : List ℕ) (ps : List Place) (oss hss : List (List ℕ)) (r : ℕ) → BlocksAre ns ps oss hss → IsHomeIn r ps → IsHomeOf r hss
home_around [] [] [] [] r are is = is
home_around [] [] [] (hs ∷ hss) r are is = absurd are
home_around [] [] (os ∷ oss) hss r are is = absurd are
home_around [] (p ∷ ps) oss hss r are is = absurd are
home_around (n ∷ ns) [] oss hss r are is = absurd are
home_around (n ∷ ns) (p ∷ ps) [] hss r are is = absurd are
home_around (n ∷ ns) (p ∷ ps) (os ∷ oss) [] r are is = absurd are
home_around (n ∷ ns) (p ∷ ps) (os ∷ oss) (hs ∷ hss) r are (inl here) = inl (subst (λ q. is_among r q ≡ true) are.3 here)
home_around (n ∷ ns) (p ∷ ps) (os ∷ oss) (hs ∷ hss) r are (inr is) = inr (home_around ns ps oss hss r are.4 is)
