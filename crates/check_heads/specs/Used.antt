-- View of code: the region names of effects and bounds, one by one, and the regions that keys name.
use Rattle.std.specs.Prelude.{List, None, Option, Some, if◌then◌else◌, map, ℕ, ◌≡◌, [], ◌∷◌, ◌++◌}
use Rattle.source_typing.specs.Faults.{earliest}
use Rattle.source_typing.specs.Functions.{all_faults, all_of, pair_of, used_region}
use Rattle.source_typing.specs.Regions.{Level, Region, is_among}
use Rattle.source_typing.specs.Types.{Key, StaticType}
use Rattle.source_typing.specs.Verdicts.{Verdict, both}
use Rattle.source_typing.specs.Written.{RegionNamed}
use Rattle.check_faults.specs.Faults.{faults_of}
use Rattle.check_faults.specs.declared.verdict.Verdict as verdict
use Rattle.check_faults.specs.declared.verdict.Verdict.TheVariants as variant
use Rattle.check_heads.specs.declared.effect.Used.{Used}
use Rattle.cyc_tree.specs.Tree as tree

-- what is known of a phrase, where it is in order
abbrev pub in_order : {T : Type 0} → verdict.Verdict T → List T
in_order (variant.Of t) = t ∷ []
in_order (variant.Wrong f) = []
in_order variant.NotJudged = []

-- of such phrases this is known, by what a phrase in code is, with this earliest fault
pub record IsUsed {T A : Type 0} (as_is : T → A) (vs : List (Verdict A)) (u : Used T) : Type 0 where
  pub known : map as_is u.known.items ≡ all_of vs
  pub fault : faults_of u.fault ≡ earliest (all_faults vs)

-- a bound, where these region names are known
abbrev pub bound_by : List RegionNamed → tree.Bound → Verdict (Region × Region)
bound_by names b = both (used_region names b.longer) (used_region names b.shorter) pair_of

-- ---- keys

-- the region of a key
abbrev pub key_of : StaticType → Option Region
key_of (Key r) = Some r
key_of t = None

-- that of a type which is known
abbrev pub known_key : Option StaticType → Option Region
known_key None = None
known_key (Some t) = key_of t

abbrev pub listed : Option Region → List Region
listed None = []
listed (Some r) = r ∷ []

-- those of all keys among some types
abbrev pub keys_of : List (Option StaticType) → List Region
keys_of [] = []
keys_of (t ∷ ts) = listed (known_key t) ++ keys_of ts

-- a region variable, unless a key names it
abbrev pub level_unless : List Region → ℕ → List Region
level_unless keys n = (if is_among keys (Level n) then [] else Level n ∷ [])
