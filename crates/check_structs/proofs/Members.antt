-- Second members of a name, one by one, and members that are unique pointers.
use Rattle.std.proofs.Common.{◌≡◌, ℕ, Bool, false, List, [], ◌∷◌, ◌++◌, refl, sym, ap, ◌∙◌}
use Rattle.std.specs.Prelude.{Option, Some, bytes_eq, not, ◌||◌}
use Rattle.cyc_tree.specs.Tree.{Member}
use Rattle.cyc_types.proofs.Converting.{by_outer}
use Rattle.cyc_types.specs.Bases.{base_type}
use Rattle.cyc_types.specs.Layers.{last_or, outermost, pointed, pointer_to}
use Rattle.cyc_types.specs.declared.base.BaseType.{BaseType}
use Rattle.cyc_types.specs.declared.base.BaseType.TheVariants as base
use Rattle.cyc_types.specs.declared.layer.Layer.{Layer}
use Rattle.cyc_types.specs.declared.layer.Layer.TheVariants as pointer
use Rattle.source_typing.specs.Faults.{Fault, earliest, name_rule, test}
use Rattle.source_typing.specs.Tags.{is_named, repeated}
use Rattle.source_typing.specs.Types.{StaticType, is_unique}
use Rattle.check_faults.proofs.Earliest.{earliest_of_both, first_joined, found_sooner}
use Rattle.check_faults.specs.Faults.{faults_of, first_of, sooner_found}
use Rattle.check_faults.specs.declared.fault.Fault as code
use Rattle.check_structs.specs.Members.{RepeatedLeft, is_unique_layer}
use Rattle.check_types.specs.Naming.{has_tag_name}
use Rattle.check_types.specs.declared.tag_names.TagNames.{TagNames}

-- what was found, with one fault more and with the faults of the rest
pub one_more : (found fault now : Option code.Fault) (own rest : List Fault) → now ≡ sooner_found found fault → faults_of fault ≡ earliest own
    → first_of (faults_of now) (earliest rest) ≡ first_of (faults_of found) (earliest (own ++ rest))
one_more found fault now own rest is e =
    ap (λ o. first_of (faults_of o) (earliest rest)) is
    ∙ ap (λ o. first_of o (earliest rest)) (found_sooner found fault)
    ∙ first_joined (faults_of found) (faults_of fault) (earliest rest)
    ∙ ap (λ o. first_of (faults_of found) (first_of o (earliest rest))) e
    ∙ ap (first_of (faults_of found)) (sym (earliest_of_both own rest))

-- the next member
pub repeated_next : (members rest : List Member) (m : Member) (text : List ℕ) (old new : TagNames) (found fault now : Option code.Fault) (is_new : Bool)
    → text ≡ m.name.text → now ≡ sooner_found found fault → faults_of fault ≡ earliest (test is_new name_rule m.name.at)
    → is_new ≡ not (has_tag_name old text) → ((x : List ℕ) → has_tag_name new x ≡ (bytes_eq text x || has_tag_name old x))
    → RepeatedLeft members found (m ∷ rest) old → RepeatedLeft members now rest new
repeated_next members rest m text old new found fault now is_new same is e is_first known left = record {
  before = m ∷ left.before;
  are = λ x. known x ∙ ap (λ t. bytes_eq t x || has_tag_name old x) same ∙ ap (λ b. bytes_eq m.name.text x || b) (left.are x);
  is =
      one_more found fault now (test is_new name_rule m.name.at) (repeated (m ∷ left.before) rest) is e
      ∙ ap (λ b. first_of (faults_of found) (earliest (test b name_rule m.name.at ++ repeated (m ∷ left.before) rest)))
      (is_first ∙ ap (λ t. not (has_tag_name old t)) same ∙ ap not (left.are m.name.text))
      ∙ left.is;
}

-- ---- unique pointers

pub unique_outer : (b : BaseType) (ls : List Layer) → is_unique_layer (outermost ls) ≡ is_unique (pointed (base_type b) ls)
unique_outer b [] = no_pointer b
  where
    no_pointer : (b : BaseType) → false ≡ is_unique (base_type b)
    no_pointer base.Int = refl
    no_pointer base.Unsigned = refl
    no_pointer base.Char = refl
    no_pointer base.Void = refl
    no_pointer base.Null = refl
    no_pointer (base.Handle r) = refl
    no_pointer (base.Key r) = refl
    no_pointer (base.Struct tag rs) = refl
    no_pointer (base.Union tag rs) = refl
unique_outer b (l ∷ ls) = by (last_or l ls) _ ∙ ap is_unique (sym (by_outer (l ∷ ls) (base_type b) (last_or l ls) refl))
  where
    by : (k : Layer) (t : StaticType) → is_unique_layer (Some k) ≡ is_unique (pointer_to k t)
    by (pointer.Thin n r) t = refl
    by (pointer.Fat r) t = refl
    by (pointer.Unique n) t = refl
