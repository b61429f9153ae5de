-- Region parameters, one by one.
use Rattle.std.proofs.Common.{◌≡◌, ℕ, Bool, true, false, List, [], ◌∷◌, ◌++◌, refl, sym, ap, ◌∙◌, arith, ◌+◌, suc}
use Rattle.std.proofs.lemmas.Slice.Eq.{bytes_eq-Decides}
use Rattle.std.specs.Prelude.{None, Option, Some, bytes_eq, if◌then◌else◌, is_none, is_some}
use Rattle.cyc_tree.specs.Places.{region_place}
use Rattle.check_regions.proofs.Naming.{found_before, or_this}
use Rattle.source_typing.specs.Declarations.{name_added}
use Rattle.source_typing.specs.Faults.{Fault, earliest, region_rule, test}
use Rattle.source_typing.specs.Regions.{Level, Region, TheHeap}
use Rattle.source_typing.specs.Tags.{parameter_added, parameters_from}
use Rattle.source_typing.specs.Written.{RegionNamed, find_region}
use Rattle.check_faults.specs.Faults.{faults_of, first_of, sooner_found}
use Rattle.check_faults.specs.declared.fault.Fault as code
use Rattle.check_structs.specs.Parameters.{ParametersLeft, SameNames, is_new_parameter, with_parameter}
use Rattle.check_structs.specs.declared.parameters.RegionParameters.{RegionParameters}
use Rattle.check_structs.proofs.Members.{one_more}
use Rattle.cyc_tree.specs.Tree as tree

-- a name more, at the front in code, and at the end by the rules
same_added : (old before : List RegionNamed) (n : tree.Name) (r : Region) → SameNames old before
    → SameNames (name_added (is_some (find_region old n.text)) n r old) (before ++ record { name = n.text; id = r } ∷ [])
same_added old before n r same x =
    by (find_region old n.text) (bytes_eq n.text x) refl refl ∙ sym (found_before before (record { name = n.text; id = r }) x)
  where
    by : (o : Option Region) (b : Bool) → find_region old n.text ≡ o → bytes_eq n.text x ≡ b
        → find_region (name_added (is_some o) n r old) x ≡ or_this (find_region before x) (if bytes_eq n.text x then Some r else None)
    by None true e h =
        let none : find_region before x ≡ None = sym (same x) ∙ ap (find_region old) (sym ((bytes_eq-Decides n.text x).0 h)) ∙ e in
        ap (λ (b : Bool). if b then Some r else find_region old x) h
        ∙ sym (ap (λ o. or_this o (if bytes_eq n.text x then Some r else None)) none ∙ ap (λ (b : Bool). if b then Some r else None) h)
    by None false e h = ap (λ (b : Bool). if b then Some r else find_region old x) h ∙ same x ∙ alone (find_region before x)
      where
        alone : (o : Option Region) → o ≡ or_this o (if bytes_eq n.text x then Some r else None)
        alone None = sym (ap (λ (b : Bool). if b then Some r else None) h)
        alone (Some q) = refl
    by (Some q) true e h =
        let there : find_region old x ≡ Some q = ap (find_region old) (sym ((bytes_eq-Decides n.text x).0 h)) ∙ e in
        there ∙ sym (ap (λ o. or_this o (if bytes_eq n.text x then Some r else None)) (sym (same x) ∙ there))
    by (Some q) false e h = same x ∙ alone (find_region before x)
      where
        alone : (o : Option Region) → o ≡ or_this o (if bytes_eq n.text x then Some r else None)
        alone None = sym (ap (λ (b : Bool). if b then Some r else None) h)
        alone (Some q) = refl

-- a name that is found has a fault
added_names : (o : Option Region) (at : ℕ) (x : List RegionNamed × List Fault) → (parameter_added o at x).0 ≡ x.0
added_names None at x = refl
added_names (Some r) at (ns, fs) = refl

added_faults : (o : Option Region) (at : ℕ) (x : List RegionNamed × List Fault) → (parameter_added o at x).1 ≡ test (is_none o) region_rule at ++ x.1
added_faults None at x = refl
added_faults (Some r) at (ns, fs) = refl

-- the names after a region parameter, by the rules
abbrev before_next : ℕ → tree.RegionName → List RegionNamed → List RegionNamed
before_next k (tree.Named n) names = names ++ record { name = n.text; id = Level k } ∷ []
before_next k r names = names

-- how the rules go on after one
record GoesOn (k : ℕ) (r : tree.RegionName) (rest : List tree.RegionName) (old before : List RegionNamed) : Type 0 where
  are : SameNames (with_parameter k r old) (before_next k r before)
  names : (parameters_from (suc k) (before_next k r before) rest).0 ≡ (parameters_from k before (r ∷ rest)).0
  faults : (parameters_from k before (r ∷ rest)).1
      ≡ test (is_new_parameter r old) region_rule (region_place r) ++ (parameters_from (suc k) (before_next k r before) rest).1

goes_on : (k : ℕ) (r : tree.RegionName) (rest : List tree.RegionName) (old before : List RegionNamed) → SameNames old before → GoesOn k r rest old before
goes_on k (tree.Named n) rest old before same =
    let more = before ++ record { name = n.text; id = Level k } ∷ [] in
    let next = parameters_from (suc k) more rest in
    record {
      are = same_added old before n (Level k) same;
      names = sym (added_names (find_region before n.text) n.at next);
      faults =
          added_faults (find_region before n.text) n.at next
          ∙ ap (λ o. test (is_none o) region_rule n.at ++ next.1) (sym (same n.text));
    }
goes_on k (tree.Heap at) rest old before same = record {
  are = same;
  names = sym (added_names (Some TheHeap) at (parameters_from (suc k) before rest));
  faults = added_faults (Some TheHeap) at (parameters_from (suc k) before rest);
}
goes_on k (tree.Unique at) rest old before same = record {
  are = same;
  names = sym (added_names (Some TheHeap) at (parameters_from (suc k) before rest));
  faults = added_faults (Some TheHeap) at (parameters_from (suc k) before rest);
}

-- the next region parameter
pub parameters_next : (all rest : List tree.RegionName) (r : tree.RegionName) (old new : RegionParameters) (own : Option code.Fault) (is_new : Bool)
    → new.names ≡ with_parameter old.count r old.names → is_new ≡ is_new_parameter r old.names
    → faults_of own ≡ earliest (test is_new region_rule (region_place r)) → new.fault ≡ sooner_found old.fault own → new.count ≡ old.count + 1
    → ParametersLeft all old (r ∷ rest) → ParametersLeft all new rest
parameters_next all rest r old new own is_new names first own_is fault count left =
    let on = goes_on old.count r rest old.names left.before left.are in
    let one : suc old.count ≡ new.count = omega (arith, count) in
    let before = before_next old.count r left.before in
    record {
      before = before;
      are = λ x. ap (λ ns. find_region ns x) names ∙ on.are x;
      count = omega (arith, count, left.count);
      names = ap (λ n. (parameters_from n before rest).0) (sym one) ∙ on.names ∙ left.names;
      fault =
          ap (λ n. first_of (faults_of new.fault) (earliest (parameters_from n before rest).1)) (sym one)
          ∙ one_more old.fault own new.fault (test (is_new_parameter r old.names) region_rule (region_place r))
          (parameters_from (suc old.count) before rest).1 fault
          (own_is ∙ ap (λ b. earliest (test b region_rule (region_place r))) first)
          ∙ ap (λ fs. first_of (faults_of old.fault) (earliest fs)) (sym on.faults)
          ∙ left.fault;
    }
