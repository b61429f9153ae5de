-- Functions of regions and spots that are changed at one place.
use Rattle.std.proofs.Common.{◌≡◌, ℕ, ◌+◌, Bool, true, false, refl, sym, ◌∙◌, ap, arith}
use Rattle.std.specs.Prelude.{◌*◌, if◌then◌else◌}
use Rattle.std.proofs.lemmas.Bool.{false≢true}
use Rattle.source_meaning.specs.Shapes.{may_be_null, single}
use Rattle.source_meaning.specs.Memory.{Region, Spot, beyond, same_region, same_spot}
use Rattle.source_meaning.proofs.Cases.{region_is, region_itself, spot_itself, spot_is}

pub if_cases : {A : Type 0} (b : Bool) (x y : A) (P : A → Type 0) → (b ≡ true → P x) → (b ≡ false → P y) → P (if b then x else y)
if_cases true x y P h k = h refl
if_cases false x y P h k = k refl

pub not_region : (q r : Region) → same_region q r ≡ false → q ≡ r → ⊥
not_region q r e d = false≢true (sym e ∙ ap (λ x. same_region x r) d ∙ region_itself r)

pub not_spot : (t s : Spot) → same_spot t s ≡ false → t ≡ s → ⊥
not_spot t s e d = false≢true (sym e ∙ ap (λ x. same_spot x s) d ∙ spot_itself s)

pub at_region : {A : Type 0} (f : Region → A) (r : Region) (v : A) (q : Region) (P : A → Type 0) → (q ≡ r → P v) → ((q ≡ r → ⊥) → P (f q))
    → P (if same_region q r then v else f q)
at_region f r v q P h k = if_cases (same_region q r) v (f q) P (λ e. h (region_is q r e)) (λ e. k (not_region q r e))

pub at_spot : {A : Type 0} (f : Spot → A) (s : Spot) (v : A) (t : Spot) (P : A → Type 0) → (t ≡ s → P v) → ((t ≡ s → ⊥) → P (f t))
    → P (if same_spot t s then v else f t)
at_spot f s v t P h k = if_cases (same_spot t s) v (f t) P (λ e. h (spot_is t s e)) (λ e. k (not_spot t s e))

pub same_here : {A : Type 0} (r : Region) (v u : A) → (if same_region r r then v else u) ≡ v
same_here r v u = ap (λ (b : Bool). if b then v else u) (region_itself r)

pub same_at : {A : Type 0} (s : Spot) (v u : A) → (if same_spot s s then v else u) ≡ v
same_at s v u = ap (λ (b : Bool). if b then v else u) (spot_itself s)

-- cells further on in an object
pub further : (s : Spot) (a b c : ℕ) → a + b ≡ c → beyond (beyond s a) b ≡ beyond s c
further s a b c e = ap (λ (j : ℕ). record { region = s.region; object = s.object; cell = j }) (omega (arith, e))

pub not_further : (s : Spot) → beyond s 0 ≡ s
not_further s = ap (λ (j : ℕ). record { region = s.region; object = s.object; cell = j }) (omega arith)

-- the first element of an array lies at its start
pub at_start : (s : Spot) (cells : ℕ) → beyond s (0 * cells) ≡ s
at_start s cells = ap (beyond s) (omega arith) ∙ not_further s
