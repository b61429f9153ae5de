-- View of code: the region parameters of a struct or union, one by one.
use Rattle.std.specs.Prelude.{Bool, List, false, is_none, is_some, length, ℕ, ◌+◌, ◌≡◌, []}
use Rattle.source_typing.specs.Declarations.{name_added}
use Rattle.source_typing.specs.Faults.{earliest}
use Rattle.source_typing.specs.Regions.{Level}
use Rattle.source_typing.specs.Tags.{parameters_from}
use Rattle.source_typing.specs.Written.{RegionNamed, find_region}
use Rattle.check_faults.specs.Faults.{faults_of, first_of}
use Rattle.check_structs.specs.declared.parameters.RegionParameters.{RegionParameters}
use Rattle.cyc_tree.specs.Tree as tree

-- each name means the same
abbrev pub SameNames : List RegionNamed → List RegionNamed → Type 0
SameNames a b = (x : List ℕ) → find_region a x ≡ find_region b x

-- names with a region parameter of this number more, where it has a name that isn't there
abbrev pub with_parameter : ℕ → tree.RegionName → List RegionNamed → List RegionNamed
with_parameter k (tree.Named n) names = name_added (is_some (find_region names n.text)) n (Level k) names
with_parameter k (tree.Heap at) names = names
with_parameter k (tree.Unique at) names = names

abbrev pub is_new_parameter : tree.RegionName → List RegionNamed → Bool
is_new_parameter (tree.Named n) names = is_none (find_region names n.text)
is_new_parameter (tree.Heap at) names = false
is_new_parameter (tree.Unique at) names = false

-- these are the region parameters of a struct or union
pub record AreParameters (all : List tree.RegionName) (found : RegionParameters) : Type 0 where
  pub names : SameNames found.names (parameters_from 0 [] all).0
  pub count : found.count ≡ length all
  pub fault : faults_of found.fault ≡ earliest (parameters_from 0 [] all).1

-- what was found of region parameters, with what is left: the rest, after others with these names
pub record ParametersLeft (all : List tree.RegionName) (found : RegionParameters) (rest : List tree.RegionName) : Type 0 where
  pub before : List RegionNamed
  pub are : SameNames found.names before
  pub count : found.count + length rest ≡ length all
  pub names : (parameters_from found.count before rest).0 ≡ (parameters_from 0 [] all).0
  pub fault : first_of (faults_of found.fault) (earliest (parameters_from found.count before rest).1) ≡ earliest (parameters_from 0 [] all).1
