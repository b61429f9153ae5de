-- A program that is in order, by the rules' own tables of its names: `int main() { return 0; }`.
use Rattle.std.proofs.Common.{◌≡◌, ℕ, Bool, true, false, inl, inr, Option, Some, None, List, [], ◌∷◌, refl, subst, arith}
use Rattle.std.specs.Prelude.{bytes_eq, codes, if◌then◌else◌}
use Rattle.std.proofs.lemmas.Slice.Eq.{bytes_eq-Decides}
use Rattle.std.proofs.lemmas.Bool.{false≢true}
use Rattle.std.proofs.lemmas.Option.{same_Some}
use Rattle.cyc_tree.specs.Tree as tree
use Rattle.cyc_tree.specs.Tree.{Expression, Statement, NoItems, Execute, Program}
use Rattle.source_meaning.specs.Steps.{World}
use Rattle.source_meaning.specs.Programs.{world_of}
use Rattle.source_typing.specs.Converts.{Integers}
use Rattle.source_typing.specs.Programs.{tables_of}
use Rattle.source_typing.specs.Regions.{entry_regions}
use Rattle.source_typing.specs.Scope.{Nowhere, at_item}
use Rattle.source_typing.specs.Tables as typing
use Rattle.source_typing.specs.Tables.{What, Entry, OfValue, OfFunction, OfBuiltin, Stored, Arrayed, Signature, find}
use Rattle.source_typing.specs.Types.{Int}
use Rattle.type_proof.specs.Entries.{Function, Builtin, PlainEntry}
use Rattle.type_proof.specs.Programs.{FunctionJudged, ProgramJudged}
use Rattle.type_proof.proofs.Same.{judged_same}

abbrev nothing : Program
nothing = tree.FunctionItem (record {
  result = record { at = 0; base = tree.Int; pointers = [] };
  name = record { at = 4; text = codes "main" };
  parameters = [];
  effect = None;
  bounds = [];
  body = Execute (Statement.Return 13 (Some (Expression.Number 20 0 false))) NoItems;
  end = 23;
}) ∷ []

abbrev its_tables : typing.Tables
its_tables = tables_of false nothing

abbrev its_world : World
its_world = world_of nothing

abbrev main_signature : Signature
main_signature = record { regions = 0; parameters = []; result = Some Int; effect = []; bounds = []; sound = true }

is_main_found : find its_tables (codes "main") ≡ Some (OfFunction main_signature)
is_main_found = refl

abbrev main_function : Function its_world (codes "main") main_signature
main_function = record {
  routine = _;
  found = refl;
  not_read = refl;
  not_written = refl;
  not_made = refl;
  types = [];
  parameters = refl;
  shapes = refl;
  objects = tt;
  gives = Int;
  result = refl;
  shape = refl;
  plain = tt;
}

main_judged : FunctionJudged its_world its_tables (codes "main") main_signature main_function
main_judged = record {
  outside = record (at_item false its_tables 0) { regions = entry_regions 0 [] []; result = Some Int };
  tables_are = refl;
  locals = refl;
  regions = refl;
  strict = refl;
  enclosing = refl;
  takes_below = tt;
  gives_below = tt;
  effect_below = tt;
  bounds_below = tt;
  result = refl;
  no_loop = refl;
  no_switch = refl;
  body = (
    record {
      gives = Int;
      result = refl;
      object = tt;
      fitting = record {
        accepted = record { value = record { at = 20; type = Int; seat = Nowhere }; judged = refl; operands = tt; members = tt };
        converts = Integers refl refl;
      };
    },
    tt,
  );
  flow = refl;
  ends = λ e. absurd (false≢true e);
}

-- which of its names a text is
abbrev by_names : Bool → Bool → Bool → Option Entry
by_names read written main =
    (if read then Some (OfBuiltin 0) else (if written then Some (OfBuiltin 1) else (if main then Some (OfFunction main_signature) else None)))

entry_plain : (x : List ℕ) (e : Entry) (a c m : Bool) → bytes_eq (codes "getchar") x ≡ a → bytes_eq (codes "putchar") x ≡ c → bytes_eq (codes "main") x ≡ m
    → by_names a c m ≡ Some e → PlainEntry its_world x e
entry_plain x e true c m p q r h =
    subst (λ (y : Entry). PlainEntry its_world x y) (same_Some (OfBuiltin 0) e h)
    (subst (λ (y : List ℕ). Builtin y 0) ((bytes_eq-Decides (codes "getchar") x).0 p) (inl (refl, refl)))
entry_plain x e false true m p q r h =
    subst (λ (y : Entry). PlainEntry its_world x y) (same_Some (OfBuiltin 1) e h)
    (subst (λ (y : List ℕ). Builtin y 1) ((bytes_eq-Decides (codes "putchar") x).0 q) (inr (refl, refl, refl)))
entry_plain x e false false true p q r h =
    subst (λ (y : Entry). PlainEntry its_world x y) (same_Some (OfFunction main_signature) e h)
    (subst (λ (y : List ℕ). Function its_world y main_signature) ((bytes_eq-Decides (codes "main") x).0 r) main_function)
entry_plain x e false false false p q r h = absurd cc

function_judged : (x : List ℕ) (s : Signature) (a c m : Bool) → bytes_eq (codes "main") x ≡ m → by_names a c m ≡ Some (OfFunction s)
    → (F : Function its_world x s) → FunctionJudged its_world its_tables x s F
function_judged x s true c m r h = absurd cc
function_judged x s false true m r h = absurd cc
function_judged x s false false false r h = absurd cc
function_judged x s false false true r h =
    let same : main_signature ≡ s = signature_is main_signature s (same_Some (OfFunction main_signature) (OfFunction s) h) in
    subst (λ (y : List ℕ). (F : Function its_world y s) → FunctionJudged its_world its_tables y s F) ((bytes_eq-Decides (codes "main") x).0 r)
    (subst (λ (u : Signature). (F : Function its_world (codes "main") u) → FunctionJudged its_world its_tables (codes "main") u F) same
    (λ F. judged_same its_world its_tables (codes "main") main_signature main_function F main_judged))
  where
    signature_is : (s u : Signature) → OfFunction s ≡ OfFunction u → s ≡ u
    signature_is s u e = cc

no_value : (v : What) (a c m : Bool) → by_names a c m ≡ Some (OfValue v) → ⊥
no_value v true c m h = absurd cc
no_value v false true m h = absurd cc
no_value v false false true h = absurd cc
no_value v false false false h = absurd cc

-- what the law on runs asks for is met by the rules' tables
pub nothing_judged : ProgramJudged nothing its_tables
nothing_judged = record {
  structs = record { types = []; in_order = tt; laid_out = tt; few = omega arith };
  unions = record { types = []; laid_out = tt; members = tt };
  plain = λ x e h. entry_plain x e (bytes_eq (codes "getchar") x) (bytes_eq (codes "putchar") x) (bytes_eq (codes "main") x) refl refl refl h;
  globals = tt;
  variables = λ x t r h. absurd (no_value (Stored t r) (bytes_eq (codes "getchar") x) (bytes_eq (codes "putchar") x) (bytes_eq (codes "main") x) h);
  arrays = λ x t r h. absurd (no_value (Arrayed t r) (bytes_eq (codes "getchar") x) (bytes_eq (codes "putchar") x) (bytes_eq (codes "main") x) h);
  functions = λ x s F h. function_judged x s (bytes_eq (codes "getchar") x) (bytes_eq (codes "putchar") x) (bytes_eq (codes "main") x) refl h F;
  main = record { signature = main_signature; function = main_function; found = refl; types = refl; gives = refl };
}
