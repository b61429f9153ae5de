-- The bytes of variables and arrays.
use Rattle.std.proofs.Common.{◌≡◌, ℕ, zero, suc, ◌+◌, ◌*◌, Bool, true, false, Option, Some, None, refl, sym, ap, arith}
use Rattle.std.proofs.lemmas.Bool.Decides.{nat_tests}
use Rattle.std.specs.Prelude.{if◌then◌else◌, is_some, nat_eq}
use Rattle.cyc_types.specs.Measures.{extent_in, extent_of, limited, measured}
use Rattle.cyc_types.specs.declared.extent.Extent as code
use Rattle.source_typing.specs.Extents.{fits_bytes, size_of}
use Rattle.source_typing.specs.Tables.{Tables}
use Rattle.source_typing.specs.Types.{StaticType}

module _ (g : Tables) (t : StaticType) where
  -- how many bytes there are, where a type may have as many
  pub bytes_are : (x : code.Extent) → measured (Some x) ≡ limited (extent_in g t) → (extent_of x).size ≡ size_of g t
  bytes_are x h = by (fits_bytes (size_of g t)) h
    where
      by : (b : Bool) → Some (extent_of x) ≡ (if b then Some (extent_in g t) else None) → (extent_of x).size ≡ size_of g t
      by true e = let same : extent_of x ≡ extent_in g t = cc in ap (λ y. y.size) same
      by false e = absurd cc

  pub is_fitting : (o : Option code.Extent) → measured o ≡ limited (extent_in g t) → is_some o ≡ fits_bytes (size_of g t)
  is_fitting o h = by o (fits_bytes (size_of g t)) h
    where
      by : (o : Option code.Extent) (b : Bool) → measured o ≡ (if b then Some (extent_in g t) else None) → is_some o ≡ b
      by None true e = absurd cc
      by None false e = refl
      by (Some x) true e = refl
      by (Some x) false e = absurd cc

-- an array of too large elements is too large, unless it has none
pub too_large : (n size : ℕ) → fits_bytes size ≡ false → nat_eq n 0 ≡ fits_bytes (n * size)
too_large zero size e = let none : 0 * size ≡ 0 = grind arith in ap fits_bytes (sym none)
too_large (suc n) size e = let rest : ℕ = n * size in let all : suc n * size ≡ size + rest = grind arith in grind (arith, nat_tests, e, all)
