-- Regions and spots that compare as the same are the same.
use Rattle.std.proofs.Common.{◌≡◌, true, refl, ap}
use Rattle.std.specs.Prelude.{nat_eq}
use Rattle.std.proofs.lemmas.Bool.{eqb-true, eq-eqb, and_parts}
use Rattle.core_meaning.specs.Memory as core
use Rattle.core_meaning.specs.Memory.{Frame, Own, Born, same_region, same_spot}

pub region_same : (r s : core.Region) → same_region r s ≡ true → r ≡ s
region_same (Frame j) (Frame k) e = ap Frame (eqb-true j k e)
region_same (Own j) (Own k) e = ap Own (eqb-true j k e)
region_same (Born j) (Born k) e = ap Born (eqb-true j k e)
region_same (Frame j) (Own k) e = absurd (cc e)
region_same (Frame j) (Born k) e = absurd (cc e)
region_same (Own j) (Frame k) e = absurd (cc e)
region_same (Own j) (Born k) e = absurd (cc e)
region_same (Born j) (Frame k) e = absurd (cc e)
region_same (Born j) (Own k) e = absurd (cc e)

pub region_self : (r : core.Region) → same_region r r ≡ true
region_self (Frame j) = eq-eqb j j refl
region_self (Own j) = eq-eqb j j refl
region_self (Born j) = eq-eqb j j refl

pub spot_same : (s t : core.Spot) → same_spot s t ≡ true → s ≡ t
spot_same s t e =
    let p = and_parts (same_region s.region t.region) _ e in
    let q = and_parts (nat_eq s.object t.object) (nat_eq s.cell t.cell) p.1 in
    let a = region_same s.region t.region p.0 in
    let b = eqb-true s.object t.object q.0 in
    let c = eqb-true s.cell t.cell q.1 in
    λ i. record { region = a i; object = b i; cell = c i }

pub spot_self : (t : core.Spot) → same_spot t t ≡ true
spot_self t = rw (region_self t.region, eq-eqb t.object t.object refl, eq-eqb t.cell t.cell refl) refl
