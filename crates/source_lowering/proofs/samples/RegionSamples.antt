-- A program of regions: its code is written out by the rules, and Core's run of it gives what the source's does.
use Rattle.std.proofs.Common.{◌≡◌, ℕ, Some, [], ◌∷◌, refl}
use Rattle.std.specs.Prelude.{codes}
use Rattle.cyc_tree.specs.Tree as tree
use Rattle.cyc_tree.specs.Tree.{Expression, Initializer, MoreExpressions, NoExpressions, NoItems, One, Program, Statement}
use Rattle.cyc_words.specs.Events as events
use Rattle.cyc_words.specs.Events.{RegionAlloc, RegionFree, RegionNew, SourceEnding}
use Rattle.source_meaning.specs.Programs.{routine_of, source, world_of}
use Rattle.source_meaning.specs.Steps.{World}
use Rattle.source_meaning.proofs.Trees.{function, gives, named, number, typed, variable, ◌▸◌, ◌▹◌}
use Rattle.core_meaning.specs.Memory.{Blank, Layout, Null, Word}
use Rattle.core_meaning.specs.Core as code
use Rattle.core_meaning.specs.Core.{Block, Break, Constant, Copy, Distance, Do, Get, OwnAddress, Put, Return, Store, While}
use Rattle.core_meaning.specs.Steps.{Called, Returned, Visible}
use Rattle.core_meaning.specs.Meaning.{core}
use Rattle.source_lowering.specs.Bounds.{items_left}
use Rattle.source_lowering.specs.Lowered.{all_of}
use Rattle.source_lowering.specs.Programs.{function_code, no_regions, program_code}
use Rattle.source_lowering.proofs.samples.Samples.{member, nullable}

-- struct pair { int a; int b; };
-- int main() { region<..> h; struct pair *p = rnew(h) pair(1, 2); while (1) { region<..> g; { region<..> k; break; } } return 7; }
abbrev main_function : tree.Function
main_function =
    function (typed tree.Int []) (named "main") [] (
    (tree.Region 0 (tree.Heap 0) (named "h")) ▹
    (tree.Local (typed (tree.Struct (named "pair") []) nullable) (named "p") (Initializer.Value (Expression.NewIn 0 (variable "h")
    (One (Expression.Call (named "pair") (MoreExpressions (number 1) (MoreExpressions (number 2) NoExpressions))))))) ▹
    (Statement.While 0 (number 1) (Statement.Block 0 (
    (tree.Region 0 (tree.Heap 0) (named "g")) ▹
    (Statement.Block 0 (
    (tree.Region 0 (tree.Heap 0) (named "k")) ▹
    (Statement.Break 0) ▸
    NoItems)) ▸
    NoItems))) ▸
    (Statement.Return 0 (Some (number 7))) ▸
    NoItems)

abbrev regions : Program
regions =
    tree.StructItem (record {
      at = 0;
      tag = named "pair";
      regions = [];
      members = member (typed tree.Int []) (named "a") ∷ member (typed tree.Int []) (named "b") ∷ [];
    }) ∷
    tree.FunctionItem main_function ∷ []

abbrev w : World
w = world_of regions

abbrev pair_layout : Layout
pair_layout = record {
  cells = (record { offset = 0; width = 4; first = Word 0 } ∷ []) ∷ (record { offset = 4; width = 4; first = Word 0 } ∷ []) ∷ [];
  bytes = 8;
}

-- a handle has no beginning
abbrev handle : code.Local
handle = record { layout = record { cells = (record { offset = 0; width = 4; first = Blank } ∷ []) ∷ []; bytes = 4 }; count = 1 }

abbrev pointer : code.Local
pointer = record { layout = record { cells = (record { offset = 0; width = 4; first = Null } ∷ []) ∷ []; bytes = 4 }; count = 1 }

abbrev part : (cells bytes : ℕ) → Distance
part cells bytes = record { cells = cells; bytes = bytes; part = 0; width = 4 }

-- The handles stay in the temporaries 0, 1 and 2. `break` frees the two regions of its loop, the inner one first, and `return` the function's.
main_code : (function_code w (routine_of main_function)).body ≡ all_of (
    Block (handle ∷ pointer ∷ []) (all_of (
    Do (code.RegionNew 0) ∷ Do (Put 0 0 4 0) ∷
    Do (Get 1 0 0 4) ∷ Do (OwnAddress 2 0) ∷ Do (Constant 3 1) ∷ Do (Store 2 (part 0 0) 3) ∷ Do (Constant 3 2) ∷ Do (Store 2 (part 1 4) 3) ∷
    Do (Constant 3 1) ∷ Do (code.RegionAlloc 1 1 3 pair_layout) ∷ Do (Copy 1 2 pair_layout) ∷ Do (Put 0 1 4 1) ∷
    While (all_of (Do (Constant 1 1) ∷ [])) 1 (all_of (
    Block (handle ∷ []) (all_of (
    Do (code.RegionNew 1) ∷ Do (Put 0 0 4 1) ∷
    Block (handle ∷ []) (all_of (
    Do (code.RegionNew 2) ∷ Do (Put 0 0 4 2) ∷ Do (code.RegionFree 2) ∷ Do (code.RegionFree 1) ∷ Break ∷ Do (code.RegionFree 2) ∷ [])) ∷
    Do (code.RegionFree 1) ∷ [])) ∷ [])) ∷
    Do (Constant 1 7) ∷ Do (code.RegionFree 0) ∷ Return (1 ∷ []) ∷ Do (code.RegionFree 0) ∷ [])) ∷
    Do (Constant 0 0) ∷ Return (0 ∷ []) ∷ [])
main_code = refl

-- `break` leaves two, and `return` one
main_leaves : items_left no_regions (routine_of main_function).body ≡ 3
main_leaves = refl

regions_mean : source regions [] 20 ≡
    gives (events.Called (codes "main") ∷ events.Visible (RegionNew 1) ∷ events.Visible (RegionAlloc 1 8) ∷ events.Visible (RegionNew 2) ∷
    events.Visible (RegionNew 3) ∷ events.Visible (RegionFree 3) ∷ events.Visible (RegionFree 2) ∷ events.Visible (RegionFree 1) ∷
    events.Returned (codes "main") ∷ []) (SourceEnding.Ended 7)
regions_mean = refl

regions_run : core (program_code regions) [] 20 ≡ record {
  events = Called 0 ∷ Visible (RegionNew 1) ∷ Visible (RegionAlloc 1 8) ∷ Visible (RegionNew 2) ∷ Visible (RegionNew 3) ∷ Visible (RegionFree 3) ∷
      Visible (RegionFree 2) ∷ Visible (RegionFree 1) ∷ Returned 0 ∷ [];
  ending = SourceEnding.Ended 7;
}
regions_run = refl
