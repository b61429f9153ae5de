-- What a scope's functions do, as the rules say it.
use Rattle.std.specs.Prelude.{IfOk, OnOk, Result, take, ◌||◌, ◌++◌}
use Rattle.std.specs.List.{list_any}
use Rattle.std.proofs.Common.{◌≡◌, ℕ, zero, suc, Bool, List, [], ◌∷◌, refl, sym, ◌∙◌, ap, subst}
use Rattle.cyc_types.specs.Regions.{region_of, regions_of}
use Rattle.cyc_types.specs.declared.region.RegionId.{RegionId}
use Rattle.source_typing.specs.Named.{Below}
use Rattle.source_typing.specs.Regions.{Region, Regions, is_among, opened, same_id, with_name, with_scope}
use Rattle.check_regions.specs.Scopes.{AreThose, Scoped, outlives_in, with_begun, with_opened}
use Rattle.check_regions.specs.declared.begun.Begun.TheVariants.{Block, Name}
use Rattle.check_regions.proofs.Extending.{block_begins, name_begins, region_opens}

module _ {T E : Type 0} (old later : Scoped) where
  pub block_by_rules : (r : Result T E) → OnOk r (later ≡ with_begun Block old)
      → OnOk r ((g : Regions) → AreThose old g → AreThose later (with_scope g))
  block_by_rules (Result.Ok v) e = λ g h. subst (λ s. AreThose s (with_scope g)) (sym e) (block_begins old g h)
  block_by_rules (Result.Err v) e = tt

  pub name_by_rules : (r : Result T E) (live : Bool) → OnOk r (later ≡ with_begun (Name live) old)
      → OnOk r ((g : Regions) → AreThose old g → AreThose later (with_name live g))
  name_by_rules (Result.Ok v) live e = λ g h. subst (λ s. AreThose s (with_name live g)) (sym e) (name_begins old g h live)
  name_by_rules (Result.Err v) live e = tt

  pub open_by_rules : (r : Result T E) (q : Region) → OnOk r (later ≡ with_opened q old)
      → OnOk r ((g : Regions) → AreThose old g → Below g.count q → AreThose later (opened q g))
  open_by_rules (Result.Ok v) q e = λ g h l. subst (λ s. AreThose s (opened q g)) (sym e) (region_opens old g h q l)
  open_by_rules (Result.Err v) q e = tt

pub ordered_by_rules : {E : Type 0} (r : Result Bool E) (s : Scoped) (a b : Region) → IfOk r (λ x. x ≡ outlives_in s a b)
    → (g : Regions) → AreThose s g → IfOk r (λ x. x ≡ g.order a b)
ordered_by_rules (Result.Ok x) s a b e = λ g h. e ∙ h.order a b
ordered_by_rules (Result.Err x) s a b e = λ g h. tt

pub regions_taken : (n : ℕ) (rs : List RegionId) → regions_of (take n rs) ≡ take n (regions_of rs)
regions_taken zero rs = refl
regions_taken (suc n) [] = refl
regions_taken (suc n) (r ∷ rs) = ap (λ qs. region_of r ∷ qs) (regions_taken n rs)

pub any_among : (rs : List RegionId) (q : Region) → list_any (λ r. same_id (region_of r) q) rs ≡ is_among (regions_of rs) q
any_among [] q = refl
any_among (r ∷ rs) q = ap (λ b. same_id (region_of r) q || b) (any_among rs q)

pub regions_and : (rs : List RegionId) (r : RegionId) → regions_of (rs ++ r ∷ []) ≡ regions_of rs ++ region_of r ∷ []
regions_and [] r = refl
regions_and (q ∷ rs) r = ap (λ qs. region_of q ∷ qs) (regions_and rs r)
