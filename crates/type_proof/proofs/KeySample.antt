-- A block with a dynamic region that is in order:
-- `{ let NewDynamicRegion{<r> k} = new_ukey(); { region<r> h = open(k); int *r p = rnew(h) 1; *p = 2; } free_ukey(k); return 0; }`.
use Rattle.std.proofs.Common.{◌≡◌, true, Some, [], ◌∷◌, refl, arith}
use Rattle.cyc_tree.specs.declared.expression.Prefix.TheVariants.{Dereference}
use Rattle.cyc_tree.specs.declared.name.Sign.TheVariants as sign
use Rattle.cyc_tree.specs.Tree as tree
use Rattle.cyc_tree.specs.Tree.{Expression, Initializer, Statement, BlockItems, NoItems, Declare, Execute, One}
use Rattle.source_meaning.specs.Shapes.{MayBeNull, NeverNull}
use Rattle.source_typing.specs.Converts.{Integers, Thins}
use Rattle.source_typing.specs.Left.{left_by_items}
use Rattle.source_typing.specs.Regions.{Level}
use Rattle.source_typing.specs.Scope.{In, Nowhere}
use Rattle.source_typing.specs.Types.{Int, Key, Thin}
use Rattle.type_proof.specs.Judged.{ItemsJudged}
use Rattle.type_proof.proofs.ArraySample.{name_at, variable_at, number, inside}

-- while the key is lent, its region is live, and a value is made in it
abbrev opened : BlockItems
opened = Declare (tree.Open 47 (tree.Named (name_at 54 "r")) (name_at 58 "h") (name_at 67 "k"))
    (Declare (tree.Local (record { at = 71; base = tree.Int; pointers = record { sign = sign.Nullable 1; region = Some (tree.Named (name_at 76 "r")) } ∷ [] })
    (name_at 79 "p") (Initializer.Value (Expression.NewIn 83 (variable_at 88 "h") (One (number 91 1)))))
    (Execute (Statement.Run (Expression.Assign (Expression.Prefixed 94 Dereference (variable_at 95 "p")) (number 99 2))) NoItems))

abbrev block : BlockItems
block = Declare (tree.NewKey 2 (tree.Named (name_at 24 "r")) (name_at 28 "k"))
    (Execute (Statement.Block 45 opened)
    (Execute (Statement.FreeKey 104 (name_at 114 "k"))
    (Execute (Statement.Return 118 (Some (number 125 0))) NoItems)))

-- the key is held wherever it is opened or freed
pub block_flows : (left_by_items inside block []).faults ≡ []
block_flows = refl

pub block_judged : ItemsJudged inside true block
block_judged = (
  refl,
  (
    (
      record {
        operand = record { value = record { at = 67; type = Key (Level 1); seat = In (Level 0) }; judged = refl; region = Level 1; is = refl };
        scope = refl;
      },
      (
        record {
          type = Thin (MayBeNull 1) (Level 1) Int;
          object = tt;
          below = (omega arith, tt);
          fitting = record {
            accepted = record {
              value = record { at = 83; type = Thin (NeverNull 1) (Level 1) Int; seat = Nowhere };
              judged = refl;
              operands = (tt, tt);
              members = (tt, tt);
            };
            converts = Thins refl refl;
          };
          shape = refl;
          scope = refl;
        },
        (
          record { value = record { at = 94; type = Int; seat = Nowhere }; judged = refl; operands = (tt, tt); members = (tt, tt) },
          tt,
        ),
      ),
    ),
    (
      record { value = record { at = 114; type = Key (Level 1); seat = In (Level 0) }; judged = refl; region = Level 1; is = refl },
      (
        record {
          gives = Int;
          result = refl;
          object = tt;
          fitting = record {
            accepted = record { value = record { at = 125; type = Int; seat = Nowhere }; judged = refl; operands = tt; members = tt };
            converts = Integers refl refl;
          };
        },
        tt,
      ),
    ),
  ),
)
