-- Parameters' types and their region variables.
use Rattle.std.proofs.Common.{◌≡◌, ◌+◌, ℕ, true, List, [], ◌∷◌, ◌++◌, drop, map, refl, sym, ap, ◌∙◌}
use Rattle.std.specs.Prelude.{None, Option, Some, option_map}
use Rattle.cyc_tree.specs.Tree.{TypeName}
use Rattle.cyc_tree.specs.View.{pointer_tree, region_tree}
use Rattle.cyc_tree.specs.declared.name.Pointer.{Pointer}
use Rattle.source_typing.specs.Functions.{Variables, parameter_type, take_named, take_spot, take_spots}
use Rattle.source_typing.specs.Regions.{Region}
use Rattle.source_typing.specs.Tables.{Tables}
use Rattle.source_typing.specs.Types.{PartialType}
use Rattle.source_typing.specs.Verdicts.{unless_faulty}
use Rattle.source_typing.specs.Written.{IsUnique, Spot, pointers_to, spot, spots_of, type_built}
use Rattle.check_faults.specs.Verdicts.{shortened}
use Rattle.check_types.proofs.Pointers.{next_led}
use Rattle.check_types.proofs.PlainTypes.{plain_built, plain_spots}
use Rattle.check_types.specs.Parameters.{as_parameter}
use Rattle.check_types.specs.Reading.{and_layer, is_unique_name, led_by, made, plain_of, pointer_spots, pointer_trees}
use Rattle.check_types.specs.Written.{partial_to}
use Rattle.check_types.specs.declared.layer.WrittenLayer.{WrittenLayer}
use Rattle.cyc_tree.specs.Tree as tree

-- ---- a pointer's region

-- a pointer's region never has a fault
pub no_fault_named : (vs : Variables) (n : tree.Name) (o : Option Region) → (take_named vs n o).faults ≡ []
no_fault_named vs n None = refl
no_fault_named vs n (Some r) = refl

no_fault_in : (vs : Variables) (r : Option tree.RegionName) → (take_spot vs r true).faults ≡ []
no_fault_in vs None = refl
no_fault_in vs (Some (tree.Heap at)) = refl
no_fault_in vs (Some (tree.Unique at)) = refl
no_fault_in vs (Some (tree.Named n)) = no_fault_named vs n _

pub no_faults : (vs : Variables) (ps : List tree.Pointer) → (take_spots vs (map (λ q. spot true q.region) ps)).faults ≡ []
no_faults vs [] = refl
no_faults vs (p ∷ ps) =
    let s = take_spot vs p.region true in
    ap (λ fs. fs ++ (take_spots s.after_it (map (λ q. spot true q.region) ps)).faults) (no_fault_in vs p.region) ∙ no_faults s.after_it ps

-- the unique region
pub taken_unique : (vs : Variables) (r : Option tree.RegionName) → is_unique_name r ≡ true → IsUnique ≡ (take_spot vs r true).found
taken_unique vs (Some (tree.Unique at)) h = refl
taken_unique vs (Some (tree.Heap at)) h = absurd cc
taken_unique vs (Some (tree.Named n)) h = absurd cc
taken_unique vs None h = absurd cc

-- ---- one pointer more

module _ (ps : List Pointer) (i : ℕ) (x : Pointer) (e : drop i ps ≡ x ∷ drop (i + 1) ps) (vs new : Variables)
    (after : new ≡ (take_spot vs (option_map region_tree x.region) true).after_it) where
  pub next_after : (take_spots new (pointer_spots (drop (i + 1) ps))).after_all ≡ (take_spots vs (pointer_spots (drop i ps))).after_all
  next_after =
      ap (λ v. (take_spots v (pointer_spots (drop (i + 1) ps))).after_all) after
      ∙ sym (ap (λ qs. (take_spots vs (pointer_spots qs)).after_all) e)

  pub next_spotted : (b : PartialType) (o : Option (List WrittenLayer)) (l : Option WrittenLayer)
      → ((u : PartialType) → option_map (λ l. partial_to l u) l ≡ made x.sign (take_spot vs (option_map region_tree x.region) true).found u)
      → pointers_to (pointer_trees (drop (i + 1) ps)) (take_spots new (pointer_spots (drop (i + 1) ps))).found (led_by (and_layer o l) b)
      ≡ pointers_to (pointer_trees (drop i ps)) (take_spots vs (pointer_spots (drop i ps))).found (led_by o b)
  next_spotted b o l k =
      let qs = drop (i + 1) ps in
      let own = take_spot vs (option_map region_tree x.region) true in
      ap (λ v. pointers_to (pointer_trees qs) (take_spots v (pointer_spots qs)).found (led_by (and_layer o l) b)) after
      ∙ next_led b o l (pointer_tree x) (pointer_trees qs) own.found (take_spots own.after_it (pointer_spots qs)).found k
      ∙ sym (ap (λ qs. pointers_to (pointer_trees qs) (take_spots vs (pointer_spots qs)).found (led_by o b)) e)

-- ---- a parameter's type

module _ (g : Tables) (vs : Variables) (t : TypeName) (b : PartialType) (e : plain_of t.base ≡ Some b) where
  abbrev spots : List Spot
  spots = map (λ q. spot true q.region) t.pointers

  pub plain_after : (take_spots vs spots).after_all ≡ (take_spots vs (spots_of g t)).after_all
  plain_after = sym (ap (λ ss. (take_spots vs ss).after_all) (plain_spots g t b e))

  pub plain_parameter : (o : Option (List WrittenLayer)) → pointers_to t.pointers (take_spots vs spots).found (Some b) ≡ led_by o b
      → shortened (as_parameter t.at (type_built t.at (led_by o b))) ≡ shortened (parameter_type g t (take_spots vs (spots_of g t)))
  plain_parameter o k =
      let s = take_spots vs spots in
      ap (λ o. shortened (as_parameter t.at (type_built t.at o))) (sym k)
      ∙ ap (λ fs. shortened (as_parameter t.at (unless_faulty fs (type_built t.at (pointers_to t.pointers s.found (Some b))))))
      (sym (no_faults vs t.pointers))
      ∙ ap (λ v. shortened (as_parameter t.at v)) (sym (plain_built g t b (s.found, s.faults) e))
      ∙ ap (λ ss. shortened (parameter_type g t (take_spots vs ss))) (sym (plain_spots g t b e))
