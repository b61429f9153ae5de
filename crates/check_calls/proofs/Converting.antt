-- Conversions of arguments, by what is said of each.
use Rattle.std.specs.List.{list_all}
use Rattle.std.specs.Prelude.{if◌then◌else◌, is_some, map, nat_eq, not, option_map, replicate, unwrap_or, ◌&&◌, ◌||◌, ◌++◌}
use Rattle.std.proofs.Common.{◌≡◌, ℕ, Bool, true, false, Option, Some, None, List, [], ◌∷◌, refl, sym, ◌∙◌, ap, length}
use Rattle.std.proofs.lemmas.List.{length-map}
use Rattle.cyc_types.specs.Regions.{region_of}
use Rattle.cyc_types.specs.Types.{static_type}
use Rattle.cyc_types.specs.declared.ctype.CType.{CType}
use Rattle.check_operators.specs.Values.{value_of}
use Rattle.check_operators.specs.declared.value.Value.{Value}
use Rattle.source_typing.specs.Calls.{all_convert, all_known, arguments_converted, arguments_counted, arguments_fit, if_all_known, if_regions_known}
use Rattle.source_typing.specs.Calls.{partly_convert}
use Rattle.source_typing.specs.Conversions.{broken, conversion, converts}
use Rattle.source_typing.specs.Faults.{Fault, earliest, fault, sooner_of, type_rule}
use Rattle.source_typing.specs.Fixing.{fixed_from, fixed_known}
use Rattle.source_typing.specs.Regions.{Region, TheHeap}
use Rattle.source_typing.specs.Scope.{Enclosing, Env}
use Rattle.source_typing.specs.Tables.{argument, or_heap}
use Rattle.source_typing.specs.Types.{StaticType, renamed}
use Rattle.source_typing.specs.Verdicts.{unless_faulty}
use Rattle.check_faults.specs.Faults.{faults_of, first_of, sooner_found}
use Rattle.check_faults.specs.Verdicts.{Wrong, shortened}
use Rattle.check_faults.specs.declared.fault.Fault as found
use Rattle.check_faults.proofs.Earliest.{earliest_of_both, found_sooner, sooner_none}
use Rattle.check_calls.specs.Converted.{argument_faults, arguments_faults, counted, is_whole, short_unless}
use Rattle.check_calls.specs.Fitted.{fits_all, parameter_types}
use Rattle.check_calls.specs.Fixings.{fixed_with, fixing_faults, fixings_of, last_fixing, regions_by, settled, which_are_known}
use Rattle.check_calls.specs.declared.fixing.Fixed.{Fixed}
use Rattle.check_calls.specs.declared.fixing.Fixed.TheVariants as region
use Rattle.check_calls.specs.declared.fixing.Fixing as code
use Rattle.check_calls.proofs.Fitting.{known_parameters, variables_fixed, variables_known}
use Rattle.check_calls.proofs.Settling.{are_settled}

-- ---- of all of them

pub none_given : (partly : Bool) (g : Env) (some : List (Option Region)) (rs : List Region) (ps : List (Option CType))
    → arguments_faults partly g some rs ps [] ≡ []
none_given partly g some rs [] = refl
none_given partly g some rs (p ∷ ps) = refl

module _ (g : Env) (some : List (Option Region)) (rs : List Region) where
  all_is : (ps : List (Option CType)) (vs : List Value) → arguments_faults false g some rs ps vs ≡ all_convert g rs (parameter_types ps) (map value_of vs)
  all_is [] vs = refl
  all_is (None ∷ ps) [] = refl
  all_is (Some p ∷ ps) [] = refl
  all_is (None ∷ ps) (v ∷ vs) = all_is ps vs
  all_is (Some p ∷ ps) (v ∷ vs) = ap (λ fs. converts g (value_of v) (renamed (argument rs) (static_type p)) ++ fs) (all_is ps vs)

  abbrev of_one : List Region → Option CType → Value → List Fault
  of_one qs p v = argument_faults true g some qs p v

  partly_is : (ps : List (Option CType)) (vs : List Value) → rs ≡ map or_heap some
      → arguments_faults true g some rs ps vs ≡ partly_convert g some (parameter_types ps) (map value_of vs)
  partly_is [] vs e = refl
  partly_is (None ∷ ps) [] e = refl
  partly_is (Some p ∷ ps) [] e = refl
  partly_is (None ∷ ps) (v ∷ vs) e = partly_is ps vs e
  partly_is (Some p ∷ ps) (v ∷ vs) e =
      ap (λ qs. of_one qs (Some p) v ++ arguments_faults true g some rs ps vs) e
      ∙ ap (λ fs. of_one (map or_heap some) (Some p) v ++ fs) (partly_is ps vs e)

-- a variable with a fault counts as the heap, and so does one that nothing fixes
heap_in : (fs : List (Option code.Fixing)) → regions_by (fixings_of fs) ≡ map or_heap (which_are_known (fixings_of fs))
heap_in [] = refl
heap_in (None ∷ fs) = ap (λ rs. TheHeap ∷ rs) (heap_in fs)
heap_in (Some f ∷ fs) = by (heap_in fs) f.is
  where
    by : regions_by (fixings_of fs) ≡ map or_heap (which_are_known (fixings_of fs)) → (is : Fixed)
        → regions_by (fixings_of (Some (record f { is = is }) ∷ fs)) ≡ map or_heap (which_are_known (fixings_of (Some (record f { is = is }) ∷ fs)))
    by h (region.Is r) = ap (λ rs. region_of r ∷ rs) h
    by h region.Unique = ap (λ rs. TheHeap ∷ rs) h

-- ---- what the variables stand for, or a fault

short_unless_is : (fs : List Fault) (known : Bool) (rs : List Region)
    → short_unless (earliest fs) known rs ≡ shortened (unless_faulty fs (if_all_known known rs))
short_unless_is [] true rs = refl
short_unless_is [] false rs = refl
short_unless_is (f ∷ fs) known rs = by (earliest fs)
  where
    by : (o : Option Fault) → short_unless (sooner_of f o) known rs ≡ Wrong (unwrap_or (sooner_of f o) f)
    by None = refl
    by (Some g) = refl

-- by the counts in code
counts_are : (t : Bool) (ps : List (Option CType)) (vs : List Value) → nat_eq (length ps) (length vs) ≡ t
    → nat_eq (length (parameter_types ps)) (length (map value_of vs)) ≡ t
counts_are t ps vs e =
    ap (λ n. nat_eq n (length (map value_of vs))) (length-map ps (option_map static_type)) ∙ ap (λ n. nat_eq (length ps) n) (length-map vs value_of) ∙ e

pub miscounted : (g : Env) (at n : ℕ) (ps : List (Option CType)) (vs : List Value) → nat_eq (length ps) (length vs) ≡ false
    → Wrong (fault type_rule at) ≡ shortened (arguments_fit g at n (parameter_types ps) (map value_of vs))
miscounted g at n ps vs e =
    ap (λ b. shortened (arguments_counted b g at n (parameter_types ps) (map value_of vs))) (sym (counts_are false ps vs e))

module _ (g : Env) (ps : List (Option CType)) (vs : List Value) (fs : List (Option code.Fixing)) (conversion : Option found.Fault) where
  abbrev rs : List Region
  rs = regions_by (fixings_of fs)

  abbrev some : List (Option Region)
  some = which_are_known (fixings_of fs)

  abbrev known : Bool
  known = all_known (parameter_types ps)

  converted_by : (faults : List Fault) (all : Bool) (fixing : Option found.Fault) → faults_of fixing ≡ earliest faults
      → faults_of conversion ≡ earliest (arguments_faults (is_some fixing || not all) g some rs ps vs)
      → short_unless (faults_of (sooner_found fixing conversion)) (all && known) rs
      ≡ shortened (arguments_converted g some (parameter_types ps) (map value_of vs) (unless_faulty faults (if_all_known all rs)))
  converted_by [] true None e h =
      ap (λ o. short_unless o known rs) (h ∙ ap earliest (all_is g some rs ps vs))
      ∙ short_unless_is (all_convert g rs (parameter_types ps) (map value_of vs)) known rs
  converted_by [] false None e h =
      ap (λ o. short_unless o false rs) (h ∙ ap earliest (partly_is g some rs ps vs (heap_in fs)))
      ∙ short_unless_is (partly_convert g some (parameter_types ps) (map value_of vs)) false rs
  converted_by [] all (Some x) e h = absurd cc
  converted_by (f ∷ more) all None e h = absurd (sooner_none f (earliest more) e)
  converted_by (f ∷ more) all (Some x) e h =
      ap (λ o. short_unless o (all && known) rs) (found_sooner (Some x) conversion)
      ∙ ap (λ o. short_unless (first_of o (faults_of conversion)) (all && known) rs) e
      ∙ ap (λ o. short_unless (first_of (earliest (f ∷ more)) o) (all && known) rs) (h ∙ ap earliest (partly_is g some rs ps vs (heap_in fs)))
      ∙ ap (λ o. short_unless o (all && known) rs) (sym (earliest_of_both (f ∷ more) (partly_convert g some (parameter_types ps) (map value_of vs))))
      ∙ short_unless_is ((f ∷ more) ++ partly_convert g some (parameter_types ps) (map value_of vs)) (all && known) rs

  -- with as many arguments as parameters, and with an `rnew` around or none
  pub arguments_are : (at n : ℕ) (around : Enclosing) (fixing : Option found.Fault) (fixed all : Bool) → g.enclosing ≡ around
      → fixings_of fs ≡ settled (last_fixing around at) (fixed_with (fits_all ps vs) 0 (replicate n None)) → nat_eq (length ps) (length vs) ≡ true
      → fixed ≡ are_settled fs → all ≡ list_all (λ o. is_some o) ps
      → faults_of fixing ≡ earliest (fixing_faults (fixings_of fs))
      → faults_of conversion ≡ earliest (arguments_faults (is_some fixing || not fixed) g some rs ps vs)
      → short_unless (faults_of (sooner_found fixing conversion)) (fixed && all) rs
      ≡ shortened (arguments_fit g at n (parameter_types ps) (map value_of vs))
  arguments_are at n around fixing fixed all same are count are_fixed are_known e h =
      ap (λ b. short_unless (faults_of (sooner_found fixing conversion)) (fixed && b) rs) (are_known ∙ known_parameters ps)
      ∙ converted_by (fixing_faults (fixings_of fs)) fixed fixing e h
      ∙ ap (λ b. shortened (arguments_converted g some (parameter_types ps) (map value_of vs)
      (unless_faulty (fixing_faults (fixings_of fs)) (if_all_known b rs)))) are_fixed
      ∙ ap (λ v. shortened (arguments_converted g some (parameter_types ps) (map value_of vs) v))
      (sym (variables_fixed around at n (fits_all ps vs) fs are))
      ∙ ap (λ k. shortened (arguments_converted g k (parameter_types ps) (map value_of vs) (fixed_from around at (fits_all ps vs) 0 n)))
      (sym (variables_known around at n (fits_all ps vs) fs are))
      ∙ ap (λ h. shortened (arguments_converted g (fixed_known h at (fits_all ps vs) 0 n) (parameter_types ps) (map value_of vs)
      (fixed_from h at (fits_all ps vs) 0 n))) (sym same)
      ∙ ap (λ b. shortened (arguments_counted b g at n (parameter_types ps) (map value_of vs))) (sym (counts_are true ps vs count))

-- ---- of one of them

-- a conversion's fault is found alone, whether or not it is looked at with its regions
alone : (types : Bool) (f : Fault) → (if types then Some f else None) ≡ earliest (if types then f ∷ [] else [])
alone true f = refl
alone false f = refl

pub counted_alone : (whole : Bool) (at : ℕ) (rule : Option ℕ) → counted whole (earliest (broken at rule)) ≡ earliest (if_regions_known whole (broken at rule))
counted_alone true at rule = refl
counted_alone false at None = refl
counted_alone false at (Some rule) = alone (nat_eq rule type_rule) (fault rule at)

-- what is found of one argument, by whether its conversion is looked at with its regions and by what its parameter's type is renamed to
pub argument_found : (partly : Bool) (g : Env) (some : List (Option Region)) (rs : List Region) (o : Option CType) (p : CType) (v : Value) (whole : Bool)
    (t : StaticType) (found : Option Fault) → o ≡ Some p → whole ≡ is_whole partly some (static_type p) → t ≡ renamed (argument rs) (static_type p)
    → found ≡ earliest (converts g (value_of v) t) → counted whole found ≡ earliest (argument_faults partly g some rs o v)
argument_found partly g some rs o p v whole t found parameter_is whole_is type_is found_is =
    ap (λ b. counted b found) whole_is ∙ ap (counted (is_whole partly some (static_type p))) (found_is ∙ ap (λ u. earliest (converts g (value_of v) u)) type_is)
    ∙ counted_alone (is_whole partly some (static_type p)) (value_of v).at (conversion g.regions (value_of v).type (renamed (argument rs) (static_type p)))
    ∙ ap (λ x. earliest (argument_faults partly g some rs x v)) (sym parameter_is)
