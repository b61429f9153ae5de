-- Globals by what their types are.
use Rattle.std.proofs.Common.{◌≡◌, ℕ, zero, suc, Bool, true, false, List, [], ◌∷◌, ◌*◌, append-nil, arith, nat_eq, refl, sym, ap, subst, ◌∙◌, true≢false}
use Rattle.std.specs.Prelude.{None, Option, Some, if◌then◌else◌, is_some}
use Rattle.std.proofs.lemmas.Bool.Decides.{nat_tests}
use Rattle.cyc_tree.specs.Tree.{Initial}
use Rattle.cyc_types.specs.Measures.{extent_in, extent_of, limited, measured}
use Rattle.cyc_types.specs.Sameness.{HasTags}
use Rattle.cyc_types.specs.Tables.{tables_of}
use Rattle.cyc_types.specs.Types.{static_type}
use Rattle.cyc_types.specs.declared.ctype.CType.{CType}
use Rattle.cyc_types.specs.declared.extent.Extent as code_extent
use Rattle.cyc_types.specs.declared.region.RegionId.TheVariants.{Heap}
use Rattle.cyc_types.specs.declared.tables.Tables as code_tables
use Rattle.check_heads.proofs.Answered.{of_short}
use Rattle.check_declarations.proofs.LocalTypes.{alike}
use Rattle.check_declarations.proofs.Sizes.{bytes_are, is_fitting, too_large}
use Rattle.check_scopes.specs.Means.{Array, Means, UntypedValue, UnknownValue, Variable}
use Rattle.check_scopes.specs.declared.meaning.Meaning.TheVariants.{NotKnown as NotKnownName}
use Rattle.source_meaning.specs.Sizes.{rounded_up}
use Rattle.source_typing.specs.Declarations.{what_after, what_of}
use Rattle.source_typing.specs.Faults.{Fault, earliest}
use Rattle.source_typing.specs.Extents.{fits_bytes, size_of, variable_size}
use Rattle.source_typing.specs.Globals.{count_of, global_faults, global_size, global_type, if_clean, typed_size}
use Rattle.source_typing.specs.Regions.{TheHeap}
use Rattle.source_typing.specs.Scope.{Env}
use Rattle.source_typing.specs.Tables.{OfValue, Tables}
use Rattle.source_typing.specs.Types.{StaticType}
use Rattle.source_typing.specs.Verdicts.{Faulty, Of, Unjudged, Verdict, faults_of}
use Rattle.check_faults.specs.Verdicts.{Is, NotJudged, Short, Wrong, shortened}
use Rattle.check_tables.specs.Globals.{IsSized, bytes_by, bytes_of, faults_by, meaning_by, untyped_by}
use Rattle.cyc_tree.specs.Tree as tree
use Rattle.check_faults.specs.Faults as found
use Rattle.check_faults.specs.declared.fault.Fault as code
use Rattle.check_faults.proofs.Earliest.{sooner_none}

-- ---- what a global begins with

-- without a constant it has no faults but its type's
pub unset_faults : (g : Env) (i : Initial) (v : Verdict StaticType) → i ≡ Initial.Unset → faults_of v ≡ faults_by g i v
unset_faults g i v e = sym (append-nil (faults_of v)) ∙ ap (λ j. faults_by g j v) (sym e)

pub array_faults : (g : Env) (i : Initial) (v : Verdict StaticType) (n : ℕ) → i ≡ Initial.Elements n → faults_of v ≡ faults_by g i v
array_faults g i v n e = sym (append-nil (faults_of v)) ∙ ap (λ j. faults_by g j v) (sym e)

-- ---- by what the type is

-- a type with a fault
pub wrong_means : (fs : List Fault) (count : Option ℕ) (f : Fault) (v : Verdict StaticType) → Wrong f ≡ shortened v
    → Means (Some (OfValue (what_after fs (what_of TheHeap count v)))) (Some NotKnownName)
wrong_means [] None f (Faulty h hs) e = UnknownValue
wrong_means [] (Some n) f (Faulty h hs) e = UnknownValue
wrong_means (x ∷ fs) count f (Faulty h hs) e = UnknownValue
wrong_means fs count f Unjudged e = absurd cc
wrong_means fs count f (Of s) e = absurd cc

-- a type that isn't checked, by the fault of its global
pub unjudged_means : (o : Option code.Fault) (fs : List Fault) (count : Option ℕ) (v : Verdict StaticType)
    → (let s : Short StaticType = NotJudged in s) ≡ shortened v → found.faults_of o ≡ earliest fs
    → Means (Some (OfValue (what_after fs (what_of TheHeap count v)))) (Some (untyped_by o))
unjudged_means o fs count (Faulty h hs) e is = absurd cc
unjudged_means None [] None Unjudged e is = UntypedValue
unjudged_means None [] (Some n) Unjudged e is = UntypedValue
unjudged_means (Some w) [] count Unjudged e is = absurd cc
unjudged_means None (f ∷ fs) count Unjudged e is = absurd (sooner_none f (earliest fs) is)
unjudged_means (Some w) (f ∷ fs) count Unjudged e is = UnknownValue
unjudged_means o fs count (Of s) e is = absurd cc

-- a type in order
means_by : (o : Option code.Fault) (count : Option ℕ) (s : CType) (fs : List Fault) → found.faults_of o ≡ earliest fs
    → Means (Some (OfValue (what_after fs (what_of TheHeap count (Of (static_type s)))))) (Some (meaning_by o count s))
means_by None None s [] e = Variable s Heap
means_by None (Some n) s [] e = Array s Heap
means_by (Some w) count s [] e = absurd cc
means_by None count s (f ∷ fs) e = absurd (sooner_none f (earliest fs) e)
means_by (Some w) count s (f ∷ fs) e = UnknownValue

pub of_means : (o : Option code.Fault) (count : Option ℕ) (s : CType) (fs : List Fault) (v : Verdict StaticType) → Is (static_type s) ≡ shortened v
    → found.faults_of o ≡ earliest fs → Means (Some (OfValue (what_after fs (what_of TheHeap count v)))) (Some (meaning_by o count s))
of_means o count s fs v e is =
    subst (λ w. Means (Some (OfValue (what_after fs (what_of TheHeap count w)))) (Some (meaning_by o count s))) (sym (of_short v (static_type s) e))
    (means_by o count s fs is)

-- ---- bytes

pub of_bytes : (o : Option code.Fault) (n : ℕ) (fs : List Fault) (m : ℕ) → found.faults_of o ≡ earliest fs → n ≡ m
    → (if is_some o then 0 else n) ≡ if_clean fs m
of_bytes None n [] m e is = is
of_bytes (Some w) n [] m e is = absurd cc
of_bytes None n (f ∷ fs) m e is = absurd (sooner_none f (earliest fs) e)
of_bytes (Some w) n (f ∷ fs) m e is = refl

clean_none : (fs : List Fault) → 0 ≡ if_clean fs 0
clean_none [] = refl
clean_none (f ∷ fs) = refl

pub wrong_bytes : (fs : List Fault) (g : Tables) (count : Option ℕ) (f : Fault) (v : Verdict StaticType) → Wrong f ≡ shortened v
    → 0 ≡ if_clean fs (bytes_by g count v)
wrong_bytes fs g count f (Faulty h hs) e = clean_none fs
wrong_bytes fs g count f Unjudged e = absurd cc
wrong_bytes fs g count f (Of s) e = absurd cc

pub unjudged_bytes : (fs : List Fault) (g : Tables) (count : Option ℕ) (v : Verdict StaticType) → (let s : Short StaticType = NotJudged in s) ≡ shortened v
    → 0 ≡ if_clean fs (bytes_by g count v)
unjudged_bytes fs g count (Faulty h hs) e = absurd cc
unjudged_bytes fs g count Unjudged e = clean_none fs
unjudged_bytes fs g count (Of s) e = absurd cc

-- ---- the bytes of a type

bytes_same : (g : Tables) (count : Option ℕ) (t : StaticType) → bytes_of count (size_of g t) ≡ variable_size g count t
bytes_same g None t = refl
bytes_same g (Some n) t = refl

none_of : (n size : ℕ) → nat_eq n 0 ≡ true → n * size ≡ 0
none_of zero size e = grind arith
none_of (suc n) size e = absurd (grind (arith, nat_tests, e))

-- by the structs and unions in code, and by the rules
module _ (tables : code_tables.Tables) (g : Tables) (count : Option ℕ) (v : Verdict StaticType) (t : StaticType) (has : HasTags tables g)
    (e : Is t ≡ shortened v) where
  size_alike : size_of (tables_of tables) t ≡ size_of g t
  size_alike = sym (alike tables g 0 t has).size

  pub found_bytes : (x : code_extent.Extent) → measured (Some x) ≡ limited (extent_in (tables_of tables) t)
      → rounded_up (bytes_of count (extent_of x).size) 8 ≡ bytes_by g count v
  found_bytes x h =
      ap (λ n. rounded_up (bytes_of count n) 8) (bytes_are (tables_of tables) t x h ∙ size_alike)
      ∙ ap (λ n. rounded_up n 8) (bytes_same g count t) ∙ ap (bytes_by g count) (sym (of_short v t e))

  -- where there is none it is too large, and an array of it has no element
  pub no_bytes : IsSized g count v → measured None ≡ limited (extent_in (tables_of tables) t) → 0 ≡ bytes_by g count v
  no_bytes sized h =
      by count (sized t (of_short v t e)) ∙ ap (bytes_by g count) (sym (of_short v t e))
    where
      large : fits_bytes (size_of g t) ≡ false
      large = ap fits_bytes (sym size_alike) ∙ sym (is_fitting (tables_of tables) t None h)

      by : (count : Option ℕ) → fits_bytes (variable_size g count t) ≡ true → 0 ≡ bytes_by g count (Of t)
      by None fits = absurd (true≢false (sym fits ∙ large))
      by (Some n) fits = sym (ap (λ m. rounded_up m 8) (none_of n (size_of g t) (too_large n (size_of g t) large ∙ fits)))

rounded_by : (g : Env) (x : tree.Global) (v : Verdict StaticType) (fs : List Fault)
    → rounded_up (if_clean fs (typed_size g x v)) 8 ≡ if_clean fs (bytes_by g.tables (count_of x.initial) v)
rounded_by g x v (f ∷ fs) = refl
rounded_by g x (Faulty f hs) [] = refl
rounded_by g x Unjudged [] = refl
rounded_by g x (Of t) [] = refl

pub global_bytes : (g : Env) (x : tree.Global) (count : Option ℕ) → count_of x.initial ≡ count
    → if_clean (global_faults g x) (bytes_by g.tables count (global_type g x)) ≡ rounded_up (global_size g x) 8
global_bytes g x count e =
    ap (λ n. if_clean (global_faults g x) (bytes_by g.tables n (global_type g x))) (sym e) ∙ sym (rounded_by g x (global_type g x) (global_faults g x))
