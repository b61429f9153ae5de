-- View of code: the parameters of a head in code, as far as they are read.
use Rattle.std.specs.Prelude.{Bool, List, None, Option, bytes_eq, codes, false, not, true, ℕ, ◌≡◌, ◌||◌, [], ◌∷◌, ◌++◌}
use Rattle.std.specs.Borrow.{Bor}
use Rattle.cyc_types.specs.Types.{static_type}
use Rattle.cyc_types.specs.declared.ctype.CType.{CType}
use Rattle.source_typing.specs.Faults.{fault, name_rule, test, type_rule}
use Rattle.source_typing.specs.Functions.{Variables, main_form, read_parameters, variables}
use Rattle.source_typing.specs.Tables.{Tables}
use Rattle.source_typing.specs.Types.{Int, StaticType}
use Rattle.source_typing.specs.Verdicts.{Verdict}
use Rattle.check_faults.specs.Faults.{faults_of, first_of}
use Rattle.check_faults.specs.Verdicts.{fault_found, short_of, shortened}
use Rattle.check_heads.specs.declared.head.Parameter.{Parameter}
use Rattle.cyc_tree.specs.Tree as tree
use Rattle.source_typing.specs.Faults as rules
use Rattle.check_faults.specs.declared.verdict.Verdict as verdict
use Rattle.check_faults.specs.declared.verdict.Verdict.TheVariants as variant

-- ---- parameters

-- a parameter in code is that of the rules
pub record IsParameter (p : Parameter) (m : tree.Member) (v : Verdict StaticType) : Type 0 where
  pub named : p.name.now ≡ m.name.text
  pub placed : p.at ≡ m.name.at
  pub typed : short_of static_type p.of ≡ shortened v

abbrev pub AreParameters : List Parameter → List tree.Member → List (Verdict StaticType) → Type 0
AreParameters [] [] [] = Unit {0}
AreParameters (p ∷ ps) (m ∷ ms) (v ∷ vs) = IsParameter p m v × AreParameters ps ms vs
AreParameters ps ms vs = ⊥

-- they are read, and these are the region variables after them
pub record AreRead (g : Tables) (vs : Variables) (ps : List Parameter) (ms : List tree.Member) : Type 0 where
  pub variables_after : vs ≡ (read_parameters g (variables [] 0) ms).variables_after
  pub parameters : AreParameters ps ms (read_parameters g (variables [] 0) ms).types

-- ---- faults

-- the earliest fault of the types
abbrev pub types_fault : List Parameter → Option rules.Fault
types_fault [] = None
types_fault (p ∷ ps) = first_of (faults_of (fault_found p.of)) (types_fault ps)

-- the names of the parameters after those of these names
abbrev pub repeated_after : (Bor (List ℕ) → Bool) → List Parameter → List rules.Fault
repeated_after seen [] = []
repeated_after seen (p ∷ ps) = test (not (seen p.name)) name_rule p.at ++ repeated_after (λ x. bytes_eq p.name.now x.now || seen x) ps

abbrev pub never : Bor (List ℕ) → Bool
never x = false

abbrev pub is_int : StaticType → Bool
is_int Int = true
is_int t = false

-- whether a head is that of `int main()`, apart from the name
abbrev pub main_in : verdict.Verdict CType → List Parameter → Bool
main_in (variant.Of t) [] = is_int (static_type t)
main_in v ps = false

-- `main` is `int main()`
abbrev pub main_faults_of : tree.Name → Verdict StaticType → List tree.Member → List rules.Fault
main_faults_of n v ms = test (not (bytes_eq n.text (codes "main")) || main_form v ms) type_rule n.at

abbrev pub main_faults_in : tree.Name → verdict.Verdict CType → List Parameter → List rules.Fault
main_faults_in n v ps = test (not (bytes_eq n.text (codes "main")) || main_in v ps) type_rule n.at
