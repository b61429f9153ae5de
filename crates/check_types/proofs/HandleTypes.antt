-- Types of handles and of keys, by their regions and pointers.
use Rattle.std.proofs.Common.{◌≡◌, Bool, true, false, List, [], ◌∷◌, ◌++◌, map, refl, sym, ap, ◌∙◌}
use Rattle.std.specs.Prelude.{None, Option, Some}
use Rattle.cyc_tree.specs.Tree.{TypeName}
use Rattle.source_typing.specs.Faults.{earliest}
use Rattle.source_typing.specs.Functions.{Spotted, Variables, parameter_type, take_spot, take_spots}
use Rattle.source_typing.specs.Regions.{Region}
use Rattle.source_typing.specs.Tables.{Tables}
use Rattle.source_typing.specs.Types.{PartialType}
use Rattle.source_typing.specs.Verdicts.{Verdict, unless_faulty}
use Rattle.source_typing.specs.Written.{
  Found,
  RegionNamed,
  Spot,
  all_found,
  as_region,
  base_spots,
  found_before,
  found_by,
  pointers_to,
  spot,
  spots_of,
  type_built,
  written,
  written_with,
}
use Rattle.check_faults.proofs.Earliest.{earliest_of_both, found_sooner}
use Rattle.check_faults.proofs.Shortened.{shortened_faulty, shortened_unless}
use Rattle.check_faults.specs.Faults.{fault_of, faults_of, first_of, sooner_found}
use Rattle.check_faults.specs.Verdicts.{Wrong, shortened}
use Rattle.check_faults.specs.declared.fault.Fault.{Fault}
use Rattle.check_types.proofs.Parameters.{no_faults}
use Rattle.check_types.proofs.Places.{unique_taken}
use Rattle.check_types.specs.Arguments.{unique_in}
use Rattle.check_types.specs.Handles.{is_key_base, region_base, region_type}
use Rattle.check_types.specs.Parameters.{as_parameter}
use Rattle.check_types.specs.Reading.{led_by, listed}
use Rattle.check_types.specs.Tagged.{pointers_found}
use Rattle.check_types.specs.declared.layer.WrittenLayer.{WrittenLayer}
use Rattle.cyc_tree.specs.Tree as tree
use Rattle.source_typing.specs.Faults as rules

-- ---- its regions

-- the places of its regions: that of the handle or key, and those of the pointers
abbrev pub handle_spots : tree.RegionName → TypeName → List Spot
handle_spots r t = spot false (Some r) ∷ map (λ q. spot true q.region) t.pointers

region_spots : (g : Tables) (key : Bool) (r : tree.RegionName) → base_spots g (region_base key r) ≡ spot false (Some r) ∷ []
region_spots g true r = refl
region_spots g false r = refl

pub spots_are_handle : (g : Tables) (t : TypeName) (r : tree.RegionName) → t.base ≡ region_base (is_key_base t.base) r → spots_of g t ≡ handle_spots r t
spots_are_handle g t r base =
    ap (λ b. base_spots g b ++ map (λ q. spot true q.region) t.pointers) base
    ∙ ap (λ ss. ss ++ map (λ q. spot true q.region) t.pointers) (region_spots g (is_key_base t.base) r)

-- a type of handles or keys of what was found, or of pointers to them
abbrev pub handle_built : TypeName → Found → List Found → List rules.Fault → Verdict PartialType
handle_built t f fs bad = unless_faulty bad (type_built t.at (pointers_to t.pointers fs (Some (region_type (is_key_base t.base) (as_region f)))))

pub handle_with : (g : Tables) (t : TypeName) (r : tree.RegionName) (f : Found) (fs : List Found) (bad : List rules.Fault)
    → t.base ≡ region_base (is_key_base t.base) r → written_with g t (f ∷ fs, bad) ≡ handle_built t f fs bad
handle_with g t r f fs bad base =
    ap (λ c. written_with g (record { at = t.at; base = c; pointers = t.pointers }) (f ∷ fs, bad)) base ∙ by (is_key_base t.base)
  where
    by : (key : Bool) → written_with g (record { at = t.at; base = region_base key r; pointers = t.pointers }) (f ∷ fs, bad)
        ≡ unless_faulty bad (type_built t.at (pointers_to t.pointers fs (Some (region_type key (as_region f)))))
    by true = refl
    by false = refl

before_is : (x : Found × List rules.Fault) (y : List Found × List rules.Fault) → found_before x y ≡ (x.0 ∷ y.0, x.1 ++ y.1)
before_is (f, fs) (g, gs) = refl

-- the fault of one place
pub listed_earliest : (o : Option Fault) → faults_of o ≡ earliest (listed o)
listed_earliest None = refl
listed_earliest (Some f) = refl

-- the fault of two phrases, the first of one place
pub sooner_listed : (a b : Option Fault) (fs gs : List rules.Fault) → fs ≡ listed a → faults_of b ≡ earliest gs
    → faults_of (sooner_found a b) ≡ earliest (fs ++ gs)
sooner_listed a b fs gs e h =
    found_sooner a b
    ∙ ap (λ o. first_of o (faults_of b)) (listed_earliest a ∙ ap earliest (sym e))
    ∙ ap (λ o. first_of (earliest fs) o) h
    ∙ sym (earliest_of_both fs gs)

-- ---- as a text writes it

module _ (g : Tables) (names : List RegionNamed) (t : TypeName) (r : tree.RegionName) (base : t.base ≡ region_base (is_key_base t.base) r) where
  abbrev own : Found × List rules.Fault
  own = found_by names (Some r) false

  abbrev others : List Found × List rules.Fault
  others = pointers_found names t

  handle_written : written g names t ≡ handle_built t own.0 others.0 (own.1 ++ others.1)
  handle_written =
      ap (λ ss. written_with g t (all_found names ss)) (spots_are_handle g t r base)
      ∙ ap (λ x. written_with g t x) (before_is own others)
      ∙ handle_with g t r own.0 others.0 (own.1 ++ others.1) base

  pub handle_wrong : (f : rules.Fault) → earliest (own.1 ++ others.1) ≡ Some f → Wrong f ≡ shortened (written g names t)
  handle_wrong f h =
      sym (ap (λ v. shortened v) handle_written
      ∙ shortened_faulty (own.1 ++ others.1)
      (type_built t.at (pointers_to t.pointers others.0 (Some (region_type (is_key_base t.base) (as_region own.0))))) f h)

  pub handle_right : (q : Option Region) (o : Option (List WrittenLayer)) → earliest (own.1 ++ others.1) ≡ None → q ≡ as_region own.0
      → pointers_to t.pointers others.0 (Some (region_type (is_key_base t.base) q)) ≡ led_by o (region_type (is_key_base t.base) q)
      → shortened (type_built t.at (led_by o (region_type (is_key_base t.base) q))) ≡ shortened (written g names t)
  handle_right q o h is k =
      ap (λ o. shortened (type_built t.at o))
      (sym k ∙ ap (λ p. pointers_to t.pointers others.0 (Some (region_type (is_key_base t.base) p))) is)
      ∙ sym (ap (λ v. shortened v) handle_written ∙ shortened_unless (own.1 ++ others.1)
      (type_built t.at (pointers_to t.pointers others.0 (Some (region_type (is_key_base t.base) (as_region own.0))))) h)

-- ---- as a parameter's

module _ (g : Tables) (vs : Variables) (t : TypeName) (r : tree.RegionName)
    (base : t.base ≡ region_base (is_key_base t.base) r) where
  abbrev one : Spotted
  one = take_spot vs (Some r) false

  abbrev rest : List Spot
  rest = map (λ q. spot true q.region) t.pointers

  pub handle_after : (take_spots one.after_it rest).after_all ≡ (take_spots vs (spots_of g t)).after_all
  handle_after = ap (λ ss. (take_spots vs ss).after_all) (sym (spots_are_handle g t r base))

  bad_are : (take_spots vs (handle_spots r t)).faults ≡ unique_in r ++ []
  bad_are =
      ap (λ fs. one.faults ++ fs) (no_faults one.after_it t.pointers) ∙ ap (λ fs. fs ++ []) (unique_taken vs r)

  read_as : shortened (as_parameter t.at (handle_built t one.found (take_spots one.after_it rest).found (unique_in r ++ [])))
      ≡ shortened (parameter_type g t (take_spots vs (spots_of g t)))
  read_as =
      ap (λ fs. shortened (as_parameter t.at (handle_built t one.found (take_spots one.after_it rest).found fs))) (sym bad_are)
      ∙ ap (λ v. shortened (as_parameter t.at v))
      (sym (handle_with g t r one.found (take_spots one.after_it rest).found (take_spots vs (handle_spots r t)).faults base))
      ∙ ap (λ ss. shortened (parameter_type g t (take_spots vs ss))) (sym (spots_are_handle g t r base))

  pub parameter_wrong : (f : Fault) → unique_in r ≡ listed (Some f) → Wrong (fault_of f) ≡ shortened (parameter_type g t (take_spots vs (spots_of g t)))
  parameter_wrong f h =
      ap (λ fs. shortened (as_parameter t.at (handle_built t one.found (take_spots one.after_it rest).found (fs ++ [])))) (sym h) ∙ read_as

  pub parameter_right : (q : Option Region) (o : Option (List WrittenLayer)) → unique_in r ≡ listed None → q ≡ as_region one.found
      → pointers_to t.pointers (take_spots one.after_it rest).found (Some (region_type (is_key_base t.base) q)) ≡ led_by o (region_type (is_key_base t.base) q)
      → shortened (as_parameter t.at (type_built t.at (led_by o (region_type (is_key_base t.base) q))))
      ≡ shortened (parameter_type g t (take_spots vs (spots_of g t)))
  parameter_right q o h is k =
      ap (λ o. shortened (as_parameter t.at (type_built t.at o)))
      (sym k ∙ ap (λ p. pointers_to t.pointers (take_spots one.after_it rest).found (Some (region_type (is_key_base t.base) p))) is)
      ∙ ap (λ fs. shortened (as_parameter t.at (handle_built t one.found (take_spots one.after_it rest).found (fs ++ [])))) (sym h) ∙ read_as
