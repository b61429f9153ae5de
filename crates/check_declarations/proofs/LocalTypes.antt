-- What types locals have by the structs and unions that are known in code, and by the rules.
use Rattle.std.proofs.Common.{◌≡◌, ℕ, ◌*◌, Bool, true, false, List, Option, Some, None, refl, sym, ap, ◌∙◌}
use Rattle.std.specs.Prelude.{nat_lt, not, option_map, if◌then◌else◌, ◌&&◌, ◌||◌}
use Rattle.cyc_types.proofs.Converting.{by_none, by_outer}
use Rattle.cyc_types.proofs.Sameness.{beginning_same, size_same}
use Rattle.cyc_types.specs.Layers.{outermost, pointed, pointer_to}
use Rattle.cyc_types.specs.Sameness.{HasTags}
use Rattle.cyc_types.specs.Tables.{tables_of}
use Rattle.cyc_types.specs.Types.{static_type}
use Rattle.cyc_types.specs.declared.layer.Layer.{Layer}
use Rattle.cyc_types.specs.declared.layer.Layer.TheVariants as code
use Rattle.cyc_types.specs.declared.tables.Tables as code_tables
use Rattle.check_scopes.specs.Knows.{Knows}
use Rattle.check_scopes.specs.Means.{Means}
use Rattle.check_scopes.specs.Means as means
use Rattle.check_scopes.specs.declared.meaning.Meaning.{Meaning}
use Rattle.check_scopes.specs.declared.scope.Scope.{Scope}
use Rattle.source_typing.specs.Declarations.{as_tagged, can_be, faulty_tag, fitting_local, local_type, stands_earlier, tag_earlier, taken_from}
use Rattle.source_typing.specs.Extents.{fits_bytes, size_of, variable_size}
use Rattle.source_typing.specs.Faults.{Fault}
use Rattle.source_typing.specs.Scope.{Env}
use Rattle.source_typing.specs.Scope as judged
use Rattle.source_typing.specs.Tables.{Entry, OfFunction, Tables, has_beginning, tag_in}
use Rattle.source_typing.specs.Types.{Char, Fat, Handle, Int, Key, Null, PartialType, StaticType, Struct, Thin, Union, Unique, Unsigned, Void, is_element}
use Rattle.source_typing.specs.Types.{is_void}
use Rattle.source_typing.specs.Verdicts as verdict
use Rattle.check_faults.proofs.Shortened.{after_of, after_unjudged, after_wrong}
use Rattle.check_faults.specs.Verdicts.{Is, Wrong, fault_found, short_of, shortened, wrong_if}
use Rattle.check_faults.specs.declared.verdict.Verdict as code_verdict
use Rattle.check_faults.specs.declared.verdict.Verdict.TheVariants as variant
use Rattle.check_types.specs.Tagged.{tag_name_of}
use Rattle.check_types.specs.Written.{partial_type}
use Rattle.check_types.specs.declared.settling.WrittenType.{WrittenType}
use Rattle.check_types.specs.declared.tagged.TagName.TheVariants as tag
use Rattle.check_declarations.specs.Declaring.{could_be, elements_fit, fitting_by, stands_before, tag_of_meaning}
use Rattle.check_heads.proofs.Answered.{of_short}

-- ---- tags

-- what a name means where a tag is wanted
pub tag_meant : (e : Option Entry) (m : Option Meaning) → Means e m → tag_name_of (option_map as_tagged e) ≡ tag_of_meaning m
tag_meant e m means.NoName = refl
tag_meant e m (means.Variable t r) = refl
tag_meant e m (means.Array t r) = refl
tag_meant e m means.CounterValue = refl
tag_meant e m (means.Function s) = refl
tag_meant e m (means.Builtin n) = refl
tag_meant e m means.UntypedValue = refl
tag_meant e m means.UnknownValue = refl
tag_meant e m (means.UnsoundFunction s u) = ap (λ (b : Bool). tag_name_of (Some (if b then OfFunction s else faulty_tag))) u
tag_meant e m (means.SoundTag t u) = ap (λ (b : Bool). if b then tag.Tag t.is_union t.regions else tag.NotJudged t.regions) u
tag_meant e m (means.UnsoundTag t u) = ap (λ (b : Bool). if b then tag.Tag t.is_union t.regions else tag.NotJudged t.regions) u

-- ---- what is no pointer

pub plain_stands : (g : Tables) (item : ℕ) (ls : List Layer) (t : StaticType) → outermost ls ≡ None
    → stands_before g item (pointed t ls) ≡ stands_before g item t
plain_stands g item ls t e = ap (stands_before g item) (by_none ls t e)

of_pointer : (g : Tables) (item : ℕ) (l : Layer) (t : StaticType) → stands_before g item (pointer_to l t) ≡ true
of_pointer g item (code.Thin n r) t = refl
of_pointer g item (code.Fat r) t = refl
of_pointer g item (code.Unique n) t = refl

pub pointer_stands : (g : Tables) (item : ℕ) (ls : List Layer) (t : StaticType) (l : Layer) → outermost ls ≡ Some l → stands_before g item (pointed t ls) ≡ true
pointer_stands g item ls t l e = ap (stands_before g item) (by_outer ls t l e) ∙ of_pointer g item l _

-- ---- the same by both tables

pub record Alike (g h : Tables) (item : ℕ) (t : StaticType) : Type 0 where
  pub begins : has_beginning g t ≡ has_beginning h t
  pub stands : stands_before g item t ≡ stands_before h item t
  pub size : size_of g t ≡ size_of h t

stands_same : (g h : Tables) (item : ℕ) (t : StaticType) → ((x : List ℕ) → tag_in g x ≡ tag_in h x) → stands_before g item t ≡ stands_before h item t
stands_same g h item Int e = refl
stands_same g h item Unsigned e = refl
stands_same g h item Char e = refl
stands_same g h item Void e = refl
stands_same g h item Null e = refl
stands_same g h item (Thin n r t) e = refl
stands_same g h item (Fat r t) e = refl
stands_same g h item (Unique n t) e = refl
stands_same g h item (Handle r) e = refl
stands_same g h item (Key r) e = refl
stands_same g h item (Struct x rs) e = ap (tag_earlier item) (e x)
stands_same g h item (Union x rs) e = ap (tag_earlier item) (e x)

pub alike : (tables : code_tables.Tables) (g : Tables) (item : ℕ) (t : StaticType) → HasTags tables g → Alike g (tables_of tables) item t
alike tables g item t has = record {
  begins = beginning_same tables g has t;
  stands = stands_same g (tables_of tables) item t has.tags;
  size = size_same tables g has t;
}

-- ---- the type of a local

pub stands_is : (g : Env) (t : StaticType) → stands_earlier g t ≡ stands_before g.tables g.item t
stands_is g Int = refl
stands_is g Unsigned = refl
stands_is g Char = refl
stands_is g Void = refl
stands_is g Null = refl
stands_is g (Thin n r t) = refl
stands_is g (Fat r t) = refl
stands_is g (Unique n t) = refl
stands_is g (Handle r) = refl
stands_is g (Key r) = refl
stands_is g (Struct x rs) = refl
stands_is g (Union x rs) = refl

true_after : (b : Bool) → (b && true) ≡ b
true_after true = refl
true_after false = refl

joined : (a b c d : Bool) → (a && (b && (c && d))) ≡ (((a && b) && c) && d)
joined true true c d = refl
joined true false c d = refl
joined false b c d = refl

-- what an array may be of, and a variable
pub can_be_is : (g : Env) (count : Option ℕ) (t : StaticType) → (not (is_void t) && (stands_earlier g t && elements_fit count t)) ≡ can_be g count t
can_be_is g None t = ap (λ b. not (is_void t) && b) (true_after (stands_earlier g t))
can_be_is g (Some n) t = joined (not (is_void t)) (stands_earlier g t) (nat_lt 0 n) (is_element t)

pub size_alike : (g h : Tables) (count : Option ℕ) (t : StaticType) → size_of g t ≡ size_of h t → variable_size g count t ≡ variable_size h count t
size_alike g h None t e = e
size_alike g h (Some n) t e = ap (λ (z : ℕ). n * z) e

module _ (s : Scope) (g : Env) (known : Knows s g) (item : ℕ) (same_item : item ≡ g.item) (at : ℕ) (count : Option ℕ) (set : Bool) (t : StaticType) where
  abbrev tables : Tables
  tables = tables_of s.tables.now

  same : Alike g.tables tables g.item t
  same = alike s.tables.now g.tables g.item t known.tags

  abbrev by_parts : Bool → Bool → ℕ → verdict.Verdict StaticType
  by_parts begins could bytes = fitting_by ((set || begins) && could) (fits_bytes bytes) at t

  pub fitting_is : fitting_by (could_be tables item count set t) (fits_bytes (variable_size tables count t)) at t ≡ fitting_local g at count set t
  fitting_is =
      ap (λ i. fitting_by (could_be tables i count set t) (fits_bytes (variable_size tables count t)) at t) same_item
      ∙ ap (λ b. by_parts b (not (is_void t) && (stands_before tables g.item t && elements_fit count t)) (variable_size tables count t)) (sym same.begins)
      ∙ ap (λ b. by_parts (has_beginning g.tables t) (not (is_void t) && (b && elements_fit count t)) (variable_size tables count t))
      (sym (stands_is g t ∙ same.stands))
      ∙ ap (λ b. by_parts (has_beginning g.tables t) b (variable_size tables count t)) (can_be_is g count t)
      ∙ ap (λ n. by_parts (has_beginning g.tables t) (can_be g count t) n) (sym (size_alike g.tables tables count t same.size))

-- ---- types with the initializer's regions

pub unsettled_is : (v : code_verdict.Verdict WrittenType) (w : verdict.Verdict PartialType) → short_of partial_type v ≡ shortened w
    → short_of static_type (wrong_if (fault_found v)) ≡ shortened (verdict.after w (λ p. verdict.Unjudged))
unsettled_is (variant.Wrong f) w e = sym (after_wrong partial_type (variant.Wrong f) w (λ p. verdict.Unjudged) e f refl)
unsettled_is variant.NotJudged w e = sym (after_unjudged partial_type variant.NotJudged w (λ p. verdict.Unjudged) e refl)
unsettled_is (variant.Of t) w e = sym (after_of partial_type (variant.Of t) w (λ p. verdict.Unjudged) e t refl)

module _ (g : Env) (at : ℕ) (w : verdict.Verdict PartialType) where
  pub from_value : (v : verdict.Verdict judged.Value) (a : judged.Value) → Is a ≡ shortened v
      → verdict.after w (taken_from g at true v) ≡ verdict.after w (local_type g at None true (Some a.type))
  from_value v a e = ap (λ u. verdict.after w (taken_from g at true u)) (of_short v a e)

  pub from_faulty : (v : verdict.Verdict judged.Value) (f : Fault) → Wrong f ≡ shortened v
      → verdict.after w (taken_from g at true v) ≡ verdict.after w (λ p. verdict.Unjudged)
  from_faulty (verdict.Faulty x xs) f e = refl
  from_faulty verdict.Unjudged f e = absurd cc
  from_faulty (verdict.Of a) f e = absurd cc
