-- An item's scope in code without any name.
use Rattle.std.proofs.Common.{◌≡◌, ℕ, [], List, Bool, arith, false, length, refl, subst, sym, ap, ◌∙◌}
use Rattle.std.specs.Prelude.{None}
use Rattle.cyc_types.specs.Sameness.{HasTags}
use Rattle.cyc_types.specs.Tables.{tables_of}
use Rattle.cyc_types.specs.declared.tables.Tables as code
use Rattle.check_scopes.specs.Globals.{global_meaning}
use Rattle.check_scopes.specs.Knows.{Knows, local_or, means_in}
use Rattle.check_scopes.specs.Locals.{find_what}
use Rattle.check_scopes.specs.Means.{Means, NoName}
use Rattle.check_scopes.specs.declared.scope.Scope.{Scope}
use Rattle.check_regions.specs.Scopes.{AreThose}
use Rattle.source_typing.specs.Declarations.{converted_to, set_faults}
use Rattle.source_typing.specs.Extents.{layouts_of}
use Rattle.source_typing.specs.Regions.{no_regions}
use Rattle.source_typing.specs.Scope.{Value, at_item}
use Rattle.source_typing.specs.Tables.{Tables, tag_in}
use Rattle.source_typing.specs.Types.{StaticType}
use Rattle.source_typing.specs.Verdicts.{Faulty, Of, Unjudged, Verdict, faults_of}
use Rattle.std.specs.Prelude.{◌++◌}

-- there is no struct and no union
no_tags : (tables : code.Tables) → tables_of tables ≡ [] → HasTags tables []
no_tags tables none = record {
  tags = λ x. sym (ap (λ g. tag_in g x) none);
  layouts = λ union. sym (ap (λ g. layouts_of union g) none);
  depth = let nothing : length (tables_of tables) ≡ 0 = ap length none in omega (arith, nothing);
}

pub knows_nothing : (s : Scope) → ((x : List ℕ) → global_meaning s.globals.now x ≡ None) → tables_of s.tables.now ≡ [] → s.locals ≡ []
    → AreThose s.regions no_regions → s.lenient ≡ false → Knows s (at_item false [] 0)
knows_nothing s none no_tables locals regions lenient = record {
  names = λ x. subst (λ m. Means None m) (sym (nothing x)) NoName;
  tags = no_tags s.tables.now no_tables;
  regions = regions;
  lenient = lenient;
  enclosing = refl;
}
  where
    nothing : (x : List ℕ) → means_in s x ≡ None
    nothing x = ap (λ ls. local_or (find_what ls x) (global_meaning s.globals.now x)) locals ∙ none x

-- a conversion doesn't hang on names
pub same_conversion : (lenient : Bool) (g : Tables) (i : ℕ) (v : Verdict Value) (t : Verdict StaticType)
    → set_faults (at_item false [] 0) v t ≡ set_faults (at_item lenient g i) v t
same_conversion lenient g i v t = ap (λ fs. faults_of t ++ faults_of v ++ fs) (by v t)
  where
    by : (v : Verdict Value) (t : Verdict StaticType) → converted_to (at_item false [] 0) v t ≡ converted_to (at_item lenient g i) v t
    by (Of v) (Of t) = refl
    by (Of v) (Faulty f fs) = refl
    by (Of v) Unjudged = refl
    by (Faulty f fs) t = refl
    by Unjudged t = refl
