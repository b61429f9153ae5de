-- Tables of the first value of each name.
use Rattle.std.proofs.Common.{◌≡◌, ap, sym, refl, Bool, true, false, Option, Some, None, if◌then◌else◌}
use Rattle.std.specs.Prelude.{is_some}
use Rattle.source_meaning.specs.Places.{or_else}

pub nothing_more : {V : Type 0} (found : Option V) → or_else found None ≡ found
nothing_more (Some v) = refl
nothing_more None = refl

-- one more of a name, where the name has none
pub first_added : {V : Type 0} (own : Bool) (value : V) (old : Option V) → (own ≡ true → old ≡ None)
    → (if own then Some value else old) ≡ or_else old (if own then Some value else None)
first_added true value old absent = ap (λ o. or_else o (Some value)) (sym (absent refl))
first_added false value old absent = sym (nothing_more old)

pub has_none : {V : Type 0} (found : Option V) → is_some found ≡ false → found ≡ None
has_none (Some v) h = absurd cc
has_none None h = refl
