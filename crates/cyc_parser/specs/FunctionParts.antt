-- View of code: parts of functions, as the functions that read them hand them on.
use Rattle.std.specs.Prelude.{map}
use Rattle.cyc_tree.specs.Tree.{Name, TypeName, Function}
use Rattle.cyc_tree.specs.View.{member_tree, effect_tree, bound_tree, item_tree, items_of}
use Rattle.cyc_parser.specs.declared.function.Rest.{Rest}

-- a function, from its result's type, its name and what stands behind that
abbrev pub function_with : TypeName → Name → Rest → Function
function_with t n rest = record {
  result = t;
  name = n;
  parameters = map member_tree rest.parameters.items;
  effect = effect_tree rest.effect;
  bounds = map bound_tree rest.bounds.items;
  body = items_of (map item_tree rest.body.items);
  end = rest.end;
}
