-- Which temporaries that code uses are saved: those of which it isn't known where else their words are.
use Rattle.std.proofs.Common.{◌≡◌, ℕ, ⊎_elim, Bool, true, false, List, [], ◌∷◌, Option, Some, None, subst}
use Rattle.core_lines.specs.Held.{Source, Holding, source_of}
use Rattle.core_lines.specs.Homes.{flag_at}
use Rattle.core_lines.specs.Loaded.{if_unknown, unknown_in}
use Rattle.core_lines.proofs.memory.Relations.{World, Waiting, Covers, Follows, IsKept, AreKept}

-- where there is no result, nothing more is shown than before
pub follows_none : (keeps : Bool) (before after : List Bool) → Follows keeps [] before after → Covers before after
follows_none keeps before after follows u now =
    ⊎_elim (λ (h : (false ≡ true) × (keeps ≡ true)). absurd (cc (h.0))) (λ (h : (false ≡ false) × (flag_at before u ≡ true)). h.1) (follows u now)

-- a temporary is saved, unless it is known where else its word is
abbrev pub IsServed : World → Waiting → List Holding → ℕ → Type 0
IsServed w x hs t = source_of hs t ≡ None → IsKept w x t

-- the first of those that code uses, and the others
pub served_first : (w : World) (x : Waiting) (hs : List Holding) (t : ℕ) (ts : List ℕ) → AreKept w x (unknown_in hs (t ∷ ts)) → IsServed w x hs t
served_first w x hs t ts kept e = (subst (λ s. AreKept w x (if_unknown s t (unknown_in hs ts))) e kept).0

pub served_others : (w : World) (x : Waiting) (hs : List Holding) (t : ℕ) (ts : List ℕ) → AreKept w x (unknown_in hs (t ∷ ts))
    → AreKept w x (unknown_in hs ts)
served_others w x hs t ts kept = by (source_of hs t) kept
  where
    by : (s : Option Source) → AreKept w x (if_unknown s t (unknown_in hs ts)) → AreKept w x (unknown_in hs ts)
    by None kept = kept.1
    by (Some s) kept = kept

pub served_one : (w : World) (x : Waiting) (hs : List Holding) (t : ℕ) → AreKept w x (unknown_in hs (t ∷ [])) → IsServed w x hs t
served_one w x hs t kept = served_first w x hs t [] kept

pub served_two : (w : World) (x : Waiting) (hs : List Holding) (t u : ℕ) → AreKept w x (unknown_in hs (t ∷ u ∷ [])) → IsServed w x hs t × IsServed w x hs u
served_two w x hs t u kept = (served_first w x hs t (u ∷ []) kept, served_one w x hs u (served_others w x hs t (u ∷ []) kept))
