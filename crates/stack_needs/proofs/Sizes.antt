-- Frames by the names of functions are those by their numbers.
use Rattle.std.proofs.Common.{◌≡◌, ◌<◌, ◌∙◌, ℕ, List, [], ◌∷◌, Option, Some, None, refl, sym, ap, arith}
use Rattle.std.specs.Prelude.{map}
use Rattle.cyc_tree.specs.Tree.{Program}
use Rattle.source_meaning.specs.Calls.{function_of}
use Rattle.source_meaning.specs.Programs.{functions_of, world_of}
use Rattle.source_meaning.specs.Steps.{Routine, World}
use Rattle.source_lowering.specs.Programs.{function_code}
use Rattle.core_lines.specs.LocalPlaces.{frame_bytes}
use Rattle.compile_proof.specs.Promise.{frame_size_in, frame_size_of}
use Rattle.stack_proof.specs.Fits.{Fits, Leaves}
use Rattle.stack_needs.specs.Graph.{known}
use Rattle.stack_needs.specs.Numbers.{AreNeedsOf, IsNeedOf, IsStackNeed, frame_by, number_from}
use Rattle.stack_needs.proofs.Standing.{bytes_in, frame_is}

-- two bounds are the same by each name
record IsSame (one other : List ℕ → ℕ) : Type 0 where
  each : (name : List ℕ) → one name ≡ other name

module _ {one other : List ℕ → ℕ} (is : IsSame one other) {w : World} where
  fits_other : {g : Routine} {n : ℕ} → Fits one w g n → Fits other w g n
  fits_other {g = g} (Leaves others le callees) =
      let its = is.each g.name in Leaves others (omega arith) (λ name h has of. fits_other (callees name h has of))

  fits_one : {g : Routine} {n : ℕ} → Fits other w g n → Fits one w g n
  fits_one {g = g} (Leaves others le callees) =
      let its = is.each g.name in Leaves others (omega arith) (λ name h has of. fits_one (callees name h has of))

need_of_other : {one other : List ℕ → ℕ} → IsSame one other → (w : World) (name : List ℕ) (need : Option ℕ) → IsNeedOf one w name need
    → IsNeedOf other w name need
need_of_other is w name None none = λ g of n fits. none g of n (fits_one is fits)
need_of_other is w name (Some n) need = λ g of. (λ few. fits_other is ((need g of).0 few), λ m fits. (need g of).1 m (fits_one is fits))

-- the frames of a program's code, by the names of its functions
code_frames : (p : Program) (frames : List ℕ) → frames ≡ map frame_bytes (map (function_code (world_of p)) (functions_of p))
    → IsSame (frame_by (functions_of p) frames) (frame_size_of (world_of p))
code_frames p frames are = record {
  each = λ name.
      ap (λ bytes. frame_by (functions_of p) bytes name) (are ∙ sym (map-map (functions_of p)))
      ∙ frame_is (λ f. frame_bytes (function_code w f)) (functions_of p) name
      ∙ size (function_of (functions_of p) name);
}
  where
    w : World
    w = world_of p

    map-map : (fs : List Routine) → map (λ f. frame_bytes (function_code w f)) fs ≡ map frame_bytes (map (function_code w) fs)
    map-map [] = refl
    map-map (f ∷ fs) = ap (λ xs. frame_bytes (function_code w f) ∷ xs) (map-map fs)

    size : (o : Option Routine) → bytes_in (λ f. frame_bytes (function_code w f)) o ≡ frame_size_in w o
    size None = refl
    size (Some f) = refl

module _ (p : Program) (frames : List ℕ) (are : frames ≡ map frame_bytes (map (function_code (world_of p)) (functions_of p))) where
  pub sized_needs : (needs : List (Option ℕ)) → AreNeedsOf (frame_by (functions_of p) frames) p needs → AreNeedsOf (frame_size_of (world_of p)) p needs
  sized_needs needs each = λ name k number. need_of_other (code_frames p frames are) (world_of p) name (known needs k) (each name k number)

  pub sized_need : (need : Option ℕ) → IsStackNeed (frame_by (functions_of p) frames) p need → IsStackNeed (frame_size_of (world_of p)) p need
  sized_need (Some n) need =
      let same = code_frames p frames are in (
        λ few. let its = need.0 few in record { main = its.main; found = its.found; fits = fits_other same its.fits },
        λ m its. need.1 m (record { main = its.main; found = its.found; fits = fits_one same its.fits }),
      )
  sized_need None none =
      let same = code_frames p frames are in λ n its. none n (record { main = its.main; found = its.found; fits = fits_one same its.fits })
