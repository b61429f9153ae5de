-- Programs of dynamic regions: a key is made, opens its region until a block is left, is passed, and frees it; Core's runs give what the source's do.
use Rattle.std.proofs.Common.{◌≡◌, Some, [], ◌∷◌, refl}
use Rattle.std.specs.Prelude.{codes}
use Rattle.cyc_tree.specs.Tree as tree
use Rattle.cyc_tree.specs.Tree.{Expression, Initializer, MoreExpressions, NoExpressions, NoItems, One, Program, Statement, TypeName}
use Rattle.cyc_words.specs.Events as events
use Rattle.cyc_words.specs.Events.{KeyClose, KeyFree, KeyNew, KeyOpen, RegionAlloc, RegionFree, RegionNew, SourceEnding}
use Rattle.source_meaning.specs.Programs.{routine_of, source, world_of}
use Rattle.source_meaning.proofs.Trees.{function, gives, named, number, typed, variable, ◌▸◌, ◌▹◌}
use Rattle.core_meaning.specs.Memory.{Blank}
use Rattle.core_meaning.specs.Core as code
use Rattle.core_meaning.specs.Core.{Block, Break, Constant, Do, Get, Put, Return, While}
use Rattle.core_meaning.specs.Steps.{Called, Returned, Visible}
use Rattle.core_meaning.specs.Meaning.{core}
use Rattle.source_lowering.specs.Bounds.{items_left}
use Rattle.source_lowering.specs.Lowerable.{GivesWord, IsLowerable}
use Rattle.source_lowering.specs.Lowered.{all_of}
use Rattle.source_lowering.specs.Programs.{function_code, no_regions, program_code}
use Rattle.source_lowering.proofs.samples.Samples.{contents_of, member, nullable}

-- int main() { let NewDynamicRegion{<`r> k} = new_ukey(); while (1) { region<..> g; region<`r> h = open(k); break; } free_ukey(k); return 7; }
abbrev main_function : tree.Function
main_function =
    function (typed tree.Int []) (named "main") [] (
    (tree.NewKey 0 (tree.Named (named "r")) (named "k")) ▹
    (Statement.While 0 (number 1) (Statement.Block 0 (
    (tree.Region 0 (tree.Heap 0) (named "g")) ▹
    (tree.Open 0 (tree.Named (named "r")) (named "h") (named "k")) ▹
    (Statement.Break 0) ▸
    NoItems))) ▸
    (Statement.FreeKey 0 (named "k")) ▸
    (Statement.Return 0 (Some (number 7))) ▸
    NoItems)

abbrev keys : Program
keys = tree.FunctionItem main_function ∷ []

-- neither a handle nor a key has a beginning
abbrev birth : code.Local
birth = record { layout = record { cells = (record { offset = 0; width = 4; first = Blank } ∷ []) ∷ []; bytes = 4 }; count = 1 }

-- `break` closes the region that the key opened, which is in the temporary 1, and then frees the one around it.
main_code : (function_code (world_of keys) (routine_of main_function)).body ≡ all_of (
    Block (birth ∷ []) (all_of (
    Do (code.KeyNew 0) ∷ Do (Put 0 0 4 0) ∷
    While (all_of (Do (Constant 0 1) ∷ [])) 0 (all_of (
    Block (birth ∷ birth ∷ []) (all_of (
    Do (code.RegionNew 0) ∷ Do (Put 0 0 4 0) ∷
    Do (Get 1 1 0 4) ∷ Do (code.KeyOpen 1) ∷ Do (Put 0 1 4 1) ∷
    Do (code.KeyClose 1) ∷ Do (code.RegionFree 0) ∷ Break ∷
    Do (code.KeyClose 1) ∷ Do (code.RegionFree 0) ∷ [])) ∷ [])) ∷
    Do (Get 0 0 0 4) ∷ Do (code.KeyFree 0) ∷
    Do (Constant 0 7) ∷ Return (0 ∷ []) ∷ [])) ∷
    Do (Constant 0 0) ∷ Return (0 ∷ []) ∷ [])
main_code = refl

-- `break` leaves two
main_leaves : items_left no_regions (routine_of main_function).body ≡ 2
main_leaves = refl

keys_mean : source keys [] 20 ≡
    gives (events.Called (codes "main") ∷ events.Visible (KeyNew 1) ∷ events.Visible (RegionNew 2) ∷ events.Visible (KeyOpen 1) ∷
    events.Visible (KeyClose 1) ∷ events.Visible (RegionFree 2) ∷ events.Visible (KeyFree 1) ∷ events.Returned (codes "main") ∷ [])
    (SourceEnding.Ended 7)
keys_mean = refl

keys_run : core (program_code keys) [] 20 ≡ record {
  events = Called 0 ∷ Visible (KeyNew 1) ∷ Visible (RegionNew 2) ∷ Visible (KeyOpen 1) ∷ Visible (KeyClose 1) ∷ Visible (RegionFree 2) ∷
      Visible (KeyFree 1) ∷ Returned 0 ∷ [];
  ending = SourceEnding.Ended 7;
}
keys_run = refl

keys_taken : IsLowerable keys
keys_taken = record {
  items = (
    record {
      result = GivesWord (record { base = tt; word = tt });
      main = λ e. record { pointers = refl; base = refl };
      parameters = tt;
      body = (tt, ((tt, (tt, (tt, (tt, tt)))), (tt, (tt, tt))));
    },
    tt,
  );
  unions = tt;
  structs = tt;
  strings = tt;
}

-- int main() { let NewDynamicRegion{<`r> k} = new_ukey(); region<`r> h = open(k); int *p = rnew(h) 3; return *p; }
abbrev returned : Program
returned =
    tree.FunctionItem (function (typed tree.Int []) (named "main") [] (
    (tree.NewKey 0 (tree.Named (named "r")) (named "k")) ▹
    (tree.Open 0 (tree.Named (named "r")) (named "h") (named "k")) ▹
    (tree.Local (typed tree.Int nullable) (named "p") (Initializer.Value (Expression.NewIn 0 (variable "h") (One (number 3))))) ▹
    (Statement.Return 0 (Some (contents_of (variable "p")))) ▸
    NoItems)) ∷ []

-- the result is read before the region is closed
returned_means : source returned [] 20 ≡
    gives (events.Called (codes "main") ∷ events.Visible (KeyNew 1) ∷ events.Visible (KeyOpen 1) ∷ events.Visible (RegionAlloc 1 4) ∷
    events.Visible (KeyClose 1) ∷ events.Returned (codes "main") ∷ []) (SourceEnding.Ended 3)
returned_means = refl

returned_runs : core (program_code returned) [] 20 ≡ record {
  events = Called 0 ∷ Visible (KeyNew 1) ∷ Visible (KeyOpen 1) ∷ Visible (RegionAlloc 1 4) ∷ Visible (KeyClose 1) ∷ Returned 0 ∷ [];
  ending = SourceEnding.Ended 3;
}
returned_runs = refl

-- the type of a key of `r
abbrev key_type : TypeName
key_type = typed (tree.Key (tree.Named (named "r"))) []

-- a key k is returned, passed and freed:
-- key fresh() { .. k = new_ukey(); return k; } int ends(key k) { free_ukey(k); return 1; } int main() { key k = fresh(); return ends(k); }
abbrev passed : Program
passed =
    tree.FunctionItem (function key_type (named "fresh") [] (
    (tree.NewKey 0 (tree.Named (named "r")) (named "k")) ▹
    (Statement.Return 0 (Some (variable "k"))) ▸
    NoItems)) ∷
    tree.FunctionItem (function (typed tree.Int []) (named "ends") (member key_type (named "k") ∷ []) (
    (Statement.FreeKey 0 (named "k")) ▸
    (Statement.Return 0 (Some (number 1))) ▸
    NoItems)) ∷
    tree.FunctionItem (function (typed tree.Int []) (named "main") [] (
    (tree.Local key_type (named "k") (Initializer.Value (Expression.Call (named "fresh") NoExpressions))) ▹
    (Statement.Return 0 (Some (Expression.Call (named "ends") (MoreExpressions (variable "k") NoExpressions)))) ▸
    NoItems)) ∷ []

-- the key is moved each time
passed_means : source passed [] 20 ≡
    gives (events.Called (codes "main") ∷ events.Called (codes "fresh") ∷ events.Visible (KeyNew 1) ∷ events.Returned (codes "fresh") ∷
    events.Called (codes "ends") ∷ events.Visible (KeyFree 1) ∷ events.Returned (codes "ends") ∷ events.Returned (codes "main") ∷ []) (SourceEnding.Ended 1)
passed_means = refl

passed_runs : core (program_code passed) [] 20 ≡ record {
  events = Called 2 ∷ Called 0 ∷ Visible (KeyNew 1) ∷ Returned 0 ∷ Called 1 ∷ Visible (KeyFree 1) ∷ Returned 1 ∷ Returned 2 ∷ [];
  ending = SourceEnding.Ended 1;
}
passed_runs = refl
