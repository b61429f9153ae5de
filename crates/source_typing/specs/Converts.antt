-- Believed: what converts to what, as a relation: what the rule on conversions leaves where it finds no fault.
use Rattle.std.specs.Prelude.{Bool, true, ◌≡◌, nat_le, ℕ}
use Rattle.source_meaning.specs.Shapes.{Reach, MayBeNull, count_of}
use Rattle.source_typing.specs.Regions.{Region, Regions}
use Rattle.source_typing.specs.Types.{Fat, Null, StaticType, Thin, Unique, is_integer}

abbrev pub IsInteger : StaticType → Type 0
IsInteger t = is_integer t ≡ true

-- Integers convert to each other, `NULL` to pointers that may be NULL, pointers to pointers into regions that theirs outlive, with equal pointees; all
-- else to itself.
pub data Converts (g : Regions) : StaticType → StaticType → Type 0 where
  Same : {t : StaticType} → Converts g t t
  Integers : {t u : StaticType} → IsInteger t → IsInteger u → Converts g t u
  NullToThin : {count : ℕ} {a : Region} {t : StaticType} → Converts g Null (Thin (MayBeNull count) a t)
  NullToFat : {a : Region} {t : StaticType} → Converts g Null (Fat a t)
  NullToUnique : {t : StaticType} → Converts g Null (Unique true t)
  Thins : {n m : Reach} {a b : Region} {t : StaticType} → nat_le (count_of m) (count_of n) ≡ true → g.order a b ≡ true
      → Converts g (Thin n a t) (Thin m b t)
  Fats : {a b : Region} {t : StaticType} → g.order a b ≡ true → Converts g (Fat a t) (Fat b t)
  ThinToFat : {n : Reach} {a b : Region} {t : StaticType} → g.order a b ≡ true → Converts g (Thin n a t) (Fat b t)
  FatToThin : {n : Reach} {a b : Region} {t : StaticType} → g.order a b ≡ true → Converts g (Fat a t) (Thin n b t)
  Uniques : {n m : Bool} {t : StaticType} → Converts g (Unique n t) (Unique m t)
