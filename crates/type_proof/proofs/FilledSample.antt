-- A block with an array that is made: `{ unsigned ?p = new {for i < 3 : i}; return p[1]; }`.
use Rattle.std.proofs.Common.{true, Some, [], ◌∷◌, refl}
use Rattle.cyc_tree.specs.declared.name.Sign.TheVariants as sign
use Rattle.cyc_tree.specs.Tree as tree
use Rattle.cyc_tree.specs.Tree.{Array, Expression, Initializer, Statement, BlockItems, NoItems, Declare, Execute, NoSuffixes, Index}
use Rattle.source_typing.specs.Converts.{Integers, Same}
use Rattle.source_typing.specs.Regions.{TheHeap}
use Rattle.source_typing.specs.Scope.{In, Nowhere}
use Rattle.source_typing.specs.Types.{Int, Unsigned, Fat}
use Rattle.type_proof.specs.Judged.{ItemsJudged}
use Rattle.type_proof.proofs.ArraySample.{name_at, variable_at, number, inside}

abbrev block : BlockItems
block = Declare (tree.Local (record { at = 2; base = tree.Unsigned; pointers = record { sign = sign.Fat; region = Some (tree.Heap 12) } ∷ [] }) (name_at 15 "p")
    (Initializer.Value (Expression.New 19 (Array (name_at 28 "i") (number 32 3) (variable_at 36 "i")))))
    (Execute (Statement.Return 40 (Some (Expression.Suffixed (variable_at 47 "p") (Index (number 49 1) NoSuffixes)))) NoItems)

-- the elements lie in the heap, and the index is one of them
pub block_judged : ItemsJudged inside true block
block_judged = (
  record {
    type = Fat TheHeap Unsigned;
    object = tt;
    below = (tt, tt);
    fitting = record {
      accepted = record {
        value = record { at = 19; type = Fat TheHeap Unsigned; seat = Nowhere };
        judged = refl;
        operands = (tt, tt);
        members = (tt, tt);
      };
      converts = Same;
    };
    shape = refl;
    scope = refl;
  },
  (
    record {
      gives = Int;
      result = refl;
      object = tt;
      fitting = record {
        accepted = record {
          value = record { at = 47; type = Unsigned; seat = In TheHeap };
          judged = refl;
          operands = (tt, (tt, (tt, tt)));
          members = (tt, (tt, tt));
        };
        converts = Integers refl refl;
      };
    },
    tt,
  ),
)
