-- Short words for the trees of samples, with their places.
use Rattle.std.specs.Prelude.{codes, false, ◌+◌}
use Rattle.std.proofs.Common.{ℕ, Some, None, List, [], ◌∷◌}
use Prim.Native.String.{String}
use Rattle.cyc_tree.specs.declared.name.Sign.TheVariants as sign
use Rattle.cyc_tree.specs.Tree as tree
use Rattle.cyc_tree.specs.Tree.{BlockItems, Declaration, Execute, Expression, Initializer, Item, Member, Name, NoItems, RegionName, Statement, TypeName}
use Rattle.source_meaning.proofs.Trees.{pointer}

abbrev pub name_at : ℕ → String → Name
name_at at s = record { at = at; text = codes s }

abbrev pub region_at : ℕ → String → RegionName
region_at at s = tree.Named (name_at at s)

abbrev pub number_at : ℕ → ℕ → Expression
number_at at n = Expression.Number at n false

abbrev pub variable_at : ℕ → String → Expression
variable_at at s = Expression.Variable (name_at at s)

-- the types int *`U, int *`r and int ? from a place on
abbrev pub unique_at : ℕ → TypeName
unique_at at = record { at = at; base = tree.Int; pointers = pointer (sign.Nullable 1) (Some (tree.Unique (at + 5))) ∷ [] }

abbrev pub alias_type_at : ℕ → TypeName
alias_type_at at = record { at = at; base = tree.Int; pointers = pointer (sign.Nullable 1) (Some (region_at (at + 5) "r")) ∷ [] }

abbrev pub fat_at : ℕ → TypeName
fat_at at = record { at = at; base = tree.Int; pointers = pointer sign.Fat None ∷ [] }

-- int *`U p = NULL; from a place on, of any name
abbrev pub null_at : ℕ → String → Declaration
null_at at s = tree.Local (unique_at at) (name_at (at + 8) s) (Initializer.Value (Expression.Null (at + 12)))

abbrev function_at : ℕ → Name → List Member → BlockItems → ℕ → Item
function_at at name parameters body end = tree.FunctionItem (record {
  result = record { at = at; base = tree.Int; pointers = [] };
  name = name;
  parameters = parameters;
  effect = None;
  bounds = [];
  body = body;
  end = end;
})

-- int main() { .. } from a place on, with its body and the place of its closing brace
abbrev pub main_at : ℕ → BlockItems → ℕ → Item
main_at at body end = function_at at (name_at (at + 4) "main") [] body end

-- int f(int *`U p) { ufree(p); return 0; } from a place on
abbrev pub free_function_at : ℕ → Item
free_function_at at =
    function_at at (name_at (at + 4) "f") (record { of = unique_at (at + 6); name = name_at (at + 14) "p" } ∷ [])
    (Execute (Statement.FreeUnique (at + 19) (name_at (at + 25) "p")) (Execute (Statement.Return (at + 29) (Some (number_at (at + 36) 0))) NoItems))
    (at + 39)
