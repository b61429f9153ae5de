-- Short words for the trees of samples, with their places.
use Rattle.std.specs.Prelude.{ℕ, ◌+◌, false, codes, Option, Some, None, List, []}
use Prim.Native.String.{String}
use Rattle.cyc_tree.specs.Tree as tree
use Rattle.cyc_tree.specs.Tree.{Name, RegionName, Base, Pointer, TypeName, Expression, Member, Structure, Initial, Global, Bound}
use Rattle.cyc_tree.specs.Tree.{Statement, BlockItems, NoItems, Execute, Function, Item}

abbrev pub name_at : ℕ → String → Name
name_at at s = record { at = at; text = codes s }

abbrev pub region_at : ℕ → String → RegionName
region_at at s = tree.Named (name_at at s)

abbrev pub type_at : ℕ → Base → List Pointer → TypeName
type_at at base pointers = record { at = at; base = base; pointers = pointers }

abbrev pub int_at : ℕ → TypeName
int_at at = type_at at tree.Int []

abbrev pub number : ℕ → ℕ → Expression
number at n = Expression.Number at n false

abbrev pub variable_at : ℕ → String → Expression
variable_at at s = Expression.Variable (name_at at s)

abbrev pub returns : ℕ → Expression → Statement
returns at e = Statement.Return at (Some e)

abbrev pub member : TypeName → Name → Member
member of name = record { of = of; name = name }

abbrev pub structure : ℕ → Name → List RegionName → List Member → Structure
structure at tag regions members = record { at = at; tag = tag; regions = regions; members = members }

abbrev pub global : TypeName → Name → Initial → Global
global of name initial = record { of = of; name = name; initial = initial }

abbrev pub bound : RegionName → RegionName → Bound
bound longer shorter = record { longer = longer; shorter = shorter }

abbrev pub routine : TypeName → Name → List Member → Option (List RegionName) → List Bound → BlockItems → ℕ → Function
routine result name parameters effect bounds body end =
    record { result = result; name = name; parameters = parameters; effect = effect; bounds = bounds; body = body; end = end }

-- `int main() { .. }` from a place on, with its body and the place of its closing brace
abbrev pub main_at : ℕ → BlockItems → ℕ → Item
main_at at body end = tree.FunctionItem (routine (int_at at) (name_at (at + 4) "main") [] None [] body end)

-- `int main() { return 0; }` from a place on
abbrev pub main_returns : ℕ → Item
main_returns at = main_at at (Execute (returns (at + 13) (number (at + 20) 0)) NoItems) (at + 23)
