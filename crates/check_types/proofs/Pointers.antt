-- The pointers of types one by one: their regions, and what they lead to.
use Rattle.std.proofs.Common.{◌≡◌, ◌+◌, ℕ, Bool, true, false, List, [], ◌∷◌, ◌++◌, drop, refl, sym, ap, ◌∙◌}
use Rattle.std.specs.Prelude.{None, Option, Some, is_none, option_map, ◌||◌}
use Rattle.std.specs.List.{list_any}
use Rattle.cyc_tree.specs.Tree.{TypeName}
use Rattle.cyc_tree.specs.View.{pointer_tree, region_tree}
use Rattle.cyc_tree.specs.declared.name.Pointer.{Pointer}
use Rattle.cyc_tree.specs.declared.name.Sign.{Sign}
use Rattle.source_typing.specs.Faults.{earliest}
use Rattle.source_typing.specs.Types.{PartialType, Void}
use Rattle.source_typing.specs.Written.{
  Found,
  Is,
  IsUnique,
  Missing,
  RegionNamed,
  all_found,
  any_missing,
  found_before,
  found_by,
  pointer_to,
  pointers_to,
  type_built,
}
use Rattle.check_faults.proofs.Earliest.{earliest_of_both, found_sooner}
use Rattle.check_faults.proofs.Shortened.{shortened_faulty, shortened_unless}
use Rattle.check_faults.specs.Faults.{fault_of, faults_of, first_of, sooner_found}
use Rattle.check_faults.specs.Verdicts.{Wrong, shortened}
use Rattle.check_faults.specs.declared.fault.Fault.{Fault}
use Rattle.check_types.specs.Reading.{and_layer, can_lead, is_unique_name, led, led_by, listed, made, pointer_spots, pointer_trees}
use Rattle.check_types.specs.Tagged.{pointed_on, pointers_found}
use Rattle.check_types.specs.Written.{partial_to, partial_under}
use Rattle.check_types.specs.declared.layer.WrittenLayer.{WrittenLayer}
use Rattle.check_types.specs.declared.layer.WrittenLayer.TheVariants as code
use Rattle.cyc_tree.specs.Tree as tree
use Rattle.cyc_tree.specs.declared.name.Sign.TheVariants as sign
use Rattle.source_typing.specs.Faults as rules
use Rattle.source_typing.specs.Types as type

-- ---- pointers to a type

-- a type that a pointer leads to
pointer_made : (s : Sign) (f : Found) (t : PartialType) → can_lead t ≡ true → pointer_to s f t ≡ made s f t
pointer_made s f Void h = absurd cc
pointer_made s f (type.Key q) h = absurd cc
pointer_made (sign.Nullable count) f t h = refl
pointer_made (sign.NotNull count) f t h = refl
pointer_made sign.Fat (Is r) t h = refl
pointer_made sign.Fat IsUnique t h = refl
pointer_made sign.Fat Missing t h = refl

no_pointer : (s : Sign) (f : Found) (t : PartialType) → can_lead t ≡ false → pointer_to s f t ≡ None
no_pointer s f Void h = refl
no_pointer s f (type.Key q) h = refl
no_pointer s f t h = absurd cc

none_pointed : (ps : List tree.Pointer) (fs : List Found) → pointers_to ps fs None ≡ None
none_pointed [] fs = refl
none_pointed (p ∷ ps) [] = refl
none_pointed (p ∷ ps) (f ∷ fs) = refl

leads_under : (ls : List WrittenLayer) (b : PartialType) → can_lead b ≡ true → can_lead (partial_under b ls) ≡ true
leads_under [] b h = h
leads_under (code.Thin n r ∷ ls) b h = leads_under ls _ refl
leads_under (code.Fat r ∷ ls) b h = leads_under ls _ refl
leads_under (code.Unique n ∷ ls) b h = leads_under ls _ refl

under_more : (ls : List WrittenLayer) (b : PartialType) (l : WrittenLayer) → partial_under b (ls ++ l ∷ []) ≡ partial_to l (partial_under b ls)
under_more [] b l = refl
under_more (k ∷ ls) b l = under_more ls (partial_to k b) l

led_true : (b : PartialType) (ls : List WrittenLayer) → led true b ls ≡ Some (partial_under b ls)
led_true b [] = refl
led_true b (l ∷ ls) = refl

-- pointers on a base, and one more
module _ (b : PartialType) (ls : List WrittenLayer) (p : tree.Pointer) (ps : List tree.Pointer) (f : Found) (fs : List Found) where
  -- that it can be
  led_more : (l : WrittenLayer) → ((u : PartialType) → Some (partial_to l u) ≡ made p.sign f u) → (c : Bool) → can_lead b ≡ c
      → pointers_to ps fs (led c b (ls ++ l ∷ [])) ≡ pointers_to (p ∷ ps) (f ∷ fs) (led c b ls)
  led_more l k true h =
      let under : PartialType = partial_under b ls in
      ap (pointers_to ps fs)
      (led_true b (ls ++ l ∷ []) ∙ ap (λ u. Some u) (under_more ls b l) ∙ k under ∙ sym (pointer_made p.sign f under (leads_under ls b h)))
      ∙ ap (pointers_to (p ∷ ps) (f ∷ fs)) (sym (led_true b ls))
  led_more l k false h = none ls
    where
      none : (ks : List WrittenLayer) → pointers_to ps fs (led false b (ks ++ l ∷ [])) ≡ pointers_to (p ∷ ps) (f ∷ fs) (led false b ks)
      none [] = ap (pointers_to ps fs) (sym (no_pointer p.sign f b h))
      none (m ∷ ks) = none_pointed ps fs

  -- that it can't
  led_none : ((u : PartialType) → None ≡ made p.sign f u) → (c : Bool) → can_lead b ≡ c → None ≡ pointers_to (p ∷ ps) (f ∷ fs) (led c b ls)
  led_none k true h =
      let under : PartialType = partial_under b ls in
      sym (ap (pointers_to (p ∷ ps) (f ∷ fs)) (led_true b ls)
      ∙ ap (pointers_to ps fs) (pointer_made p.sign f under (leads_under ls b h) ∙ sym (k under)) ∙ none_pointed ps fs)
  led_none k false h = none ls
    where
      none : (ks : List WrittenLayer) → None ≡ pointers_to (p ∷ ps) (f ∷ fs) (led false b ks)
      none [] = sym (ap (pointers_to ps fs) (no_pointer p.sign f b h) ∙ none_pointed ps fs)
      none (m ∷ ks) = refl

-- one pointer more
pub next_led : (b : PartialType) (o : Option (List WrittenLayer)) (l : Option WrittenLayer) (p : tree.Pointer) (ps : List tree.Pointer) (f : Found)
    (fs : List Found) → ((u : PartialType) → option_map (λ l. partial_to l u) l ≡ made p.sign f u)
    → pointers_to ps fs (led_by (and_layer o l) b) ≡ pointers_to (p ∷ ps) (f ∷ fs) (led_by o b)
next_led b None l p ps f fs k = none_pointed ps fs
next_led b (Some ls) None p ps f fs k = none_pointed ps fs ∙ led_none b ls p ps f fs k (can_lead b) refl
next_led b (Some ls) (Some l) p ps f fs k = led_more b ls p ps f fs l k (can_lead b) refl

-- ---- regions by their names

-- the unique region
pub found_unique : (names : List RegionNamed) (r : Option tree.RegionName) → is_unique_name r ≡ true → IsUnique ≡ (found_by names r true).0
found_unique names (Some (tree.Unique at)) h = refl
found_unique names (Some (tree.Heap at)) h = absurd cc
found_unique names (Some (tree.Named n)) h = absurd cc
found_unique names None h = absurd cc

pub before_found : (x : Found × List rules.Fault) (y : List Found × List rules.Fault) → (found_before x y).0 ≡ x.0 ∷ y.0
before_found (f, fs) (g, gs) = refl

pub before_faults : (x : Found × List rules.Fault) (y : List Found × List rules.Fault) → (found_before x y).1 ≡ x.1 ++ y.1
before_faults (f, fs) (g, gs) = refl

pub joined : (a b : Option Fault) (gs : List rules.Fault)
    → first_of (faults_of (sooner_found a b)) (earliest gs) ≡ first_of (faults_of a) (earliest (listed b ++ gs))
joined None None gs = refl
joined None (Some g) gs = refl
joined (Some f) None gs = refl
joined (Some f) (Some g) gs =
    ap (λ o. first_of o (earliest gs)) (found_sooner (Some f) (Some g)) ∙ sym (earliest_of_both (fault_of f ∷ fault_of g ∷ []) gs)

module _ (names : List RegionNamed) (ps : List Pointer) (i : ℕ) (x : Pointer) (e : drop i ps ≡ x ∷ drop (i + 1) ps) where
  pub next_named : (b : PartialType) (o : Option (List WrittenLayer)) (l : Option WrittenLayer)
      → ((u : PartialType) → option_map (λ l. partial_to l u) l ≡ made x.sign (found_by names (option_map region_tree x.region) true).0 u)
      → pointers_to (pointer_trees (drop (i + 1) ps)) (all_found names (pointer_spots (drop (i + 1) ps))).0 (led_by (and_layer o l) b)
      ≡ pointers_to (pointer_trees (drop i ps)) (all_found names (pointer_spots (drop i ps))).0 (led_by o b)
  next_named b o l k =
      let qs = drop (i + 1) ps in
      let own = found_by names (option_map region_tree x.region) true in
      next_led b o l (pointer_tree x) (pointer_trees qs) own.0 (all_found names (pointer_spots qs)).0 k
      ∙ ap (λ fs. pointers_to (pointer_trees (x ∷ qs)) fs (led_by o b)) (sym (before_found own (all_found names (pointer_spots qs))))
      ∙ sym (ap (λ qs. pointers_to (pointer_trees qs) (all_found names (pointer_spots qs)).0 (led_by o b)) e)

  pub next_fault : (found own : Option Fault) → (found_by names (option_map region_tree x.region) true).1 ≡ listed own
      → first_of (faults_of (sooner_found found own)) (earliest (all_found names (pointer_spots (drop (i + 1) ps))).1)
      ≡ first_of (faults_of found) (earliest (all_found names (pointer_spots (drop i ps))).1)
  next_fault found own is =
      let others = all_found names (pointer_spots (drop (i + 1) ps)) in
      joined found own others.1
      ∙ ap (λ fs. first_of (faults_of found) (earliest (fs ++ others.1))) (sym is)
      ∙ ap (λ fs. first_of (faults_of found) (earliest fs)) (sym (before_faults (found_by names (option_map region_tree x.region) true) others))
      ∙ sym (ap (λ qs. first_of (faults_of found) (earliest (all_found names (pointer_spots qs)).1)) e)

pub first_none : (o : Option rules.Fault) → first_of o None ≡ o
first_none None = refl
first_none (Some f) = refl

-- ---- a type's pointers on a base

module _ (names : List RegionNamed) (t : TypeName) (b : PartialType) where
  pub pointed_wrong : (f : rules.Fault) → earliest (pointers_found names t).1 ≡ Some f → Wrong f ≡ shortened (pointed_on names t b)
  pointed_wrong f h = sym (shortened_faulty (pointers_found names t).1 (type_built t.at (pointers_to t.pointers (pointers_found names t).0 (Some b))) f h)

  pub pointed_right : (o : Option (List WrittenLayer)) → earliest (pointers_found names t).1 ≡ None
      → pointers_to t.pointers (pointers_found names t).0 (Some b) ≡ led_by o b
      → shortened (type_built t.at (led_by o b)) ≡ shortened (pointed_on names t b)
  pointed_right o h k =
      ap (λ o. shortened (type_built t.at o)) (sym k)
      ∙ sym (shortened_unless (pointers_found names t).1 (type_built t.at (pointers_to t.pointers (pointers_found names t).0 (Some b))) h)

-- ---- missing regions

pub missing_in : (ps : List Pointer) → list_any (λ p. is_none (pointer_tree p).region) ps ≡ any_missing (pointer_spots ps)
missing_in [] = refl
missing_in (p ∷ ps) = ap (λ b. is_none (pointer_tree p).region || b) (missing_in ps)
