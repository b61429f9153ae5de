-- A block with unique pointers that is in order:
-- `{ int *unique_region x = rnew(unique_region) 1; int *unique_region y = NULL; { let alias<r> int *r a = x; *a = 2; } x :=: y; ufree(y); return 0; }`.
use Rattle.std.proofs.Common.{◌≡◌, true, false, Some, [], ◌∷◌, refl}
use Rattle.cyc_tree.specs.declared.expression.Prefix.TheVariants.{Dereference}
use Rattle.cyc_tree.specs.declared.name.Sign.TheVariants as sign
use Rattle.cyc_tree.specs.Tree as tree
use Rattle.cyc_tree.specs.Tree.{Expression, Initializer, Statement, BlockItems, NoItems, Declare, Execute, One}
use Rattle.source_typing.specs.Converts.{Integers, NullToUnique, Uniques}
use Rattle.source_typing.specs.Left.{left_by_items}
use Rattle.source_typing.specs.Regions.{Level}
use Rattle.source_typing.specs.Scope.{In, Nowhere}
use Rattle.source_typing.specs.Types.{Int, Null, Unique}
use Rattle.type_proof.specs.Judged.{ItemsJudged}
use Rattle.type_proof.proofs.ArraySample.{name_at, variable_at, number, inside}

abbrev pub unique_type : tree.TypeName
unique_type = record { at = 2; base = tree.Int; pointers = record { sign = sign.Nullable 1; region = Some (tree.Unique 7) } ∷ [] }

-- the alias leads to the block, and what is stored through it is there when the loan ends
abbrev lent : BlockItems
lent = Declare (tree.Alias 84 (tree.Named (name_at 94 "r"))
    (record { at = 97; base = tree.Int; pointers = record { sign = sign.Nullable 1; region = Some (tree.Named (name_at 102 "r")) } ∷ [] }) (name_at 104 "a")
    (name_at 108 "x"))
    (Execute (Statement.Run (Expression.Assign (Expression.Prefixed 111 Dereference (variable_at 112 "a")) (number 116 2))) NoItems)

abbrev block : BlockItems
block = Declare (tree.Local unique_type (name_at 21 "x") (Initializer.Value (Expression.NewIn 25 (Expression.UniqueRegion 30) (One (number 45 1)))))
    (Declare (tree.Local unique_type (name_at 68 "y") (Initializer.Value (Expression.Null 72)))
    (Execute (Statement.Block 82 lent)
    (Execute (Statement.Exchange (variable_at 121 "x") (variable_at 127 "y"))
    (Execute (Statement.FreeUnique 130 (name_at 136 "y"))
    (Execute (Statement.Return 140 (Some (number 147 0))) NoItems)))))

-- each local holds a pointer, or NULL, wherever it is used
pub block_flows : (left_by_items inside block []).faults ≡ []
block_flows = refl

pub block_judged : ItemsJudged inside true block
block_judged = (
  record {
    type = Unique true Int;
    object = tt;
    below = tt;
    fitting = record {
      accepted = record {
        value = record { at = 25; type = Unique false Int; seat = Nowhere };
        judged = refl;
        operands = (tt, tt);
        members = (tt, tt);
      };
      converts = Uniques;
    };
    shape = refl;
    scope = refl;
  },
  (
    record {
      type = Unique true Int;
      object = tt;
      below = tt;
      fitting = record {
        accepted = record { value = record { at = 72; type = Null; seat = Nowhere }; judged = refl; operands = tt; members = tt };
        converts = NullToUnique;
      };
      shape = refl;
      scope = refl;
    },
    (
      (
        record {
          operand = record { value = record { at = 108; type = Unique true Int; seat = In (Level 0) }; judged = refl; nullable = true; to = Int; is = refl };
          shape = refl;
          scope = refl;
        },
        (
          record { value = record { at = 111; type = Int; seat = Nowhere }; judged = refl; operands = (tt, tt); members = (tt, tt) },
          tt,
        ),
      ),
      (
        record {
          left = record {
            value = record { at = 121; type = Unique true Int; seat = In (Level 0) };
            judged = refl;
            operands = tt;
            members =
                tt;
          };
          right = record {
            value = record { at = 127; type = Unique true Int; seat = In (Level 0) };
            judged = refl;
            operands = tt;
            members =
                tt;
          };
          fits = refl;
          still = refl;
        },
        (
          record { value = record { at = 136; type = Unique true Int; seat = In (Level 0) }; judged = refl; nullable = true; to = Int; is = refl },
          (
            record {
              gives = Int;
              result = refl;
              object = tt;
              fitting = record {
                accepted = record { value = record { at = 147; type = Int; seat = Nowhere }; judged = refl; operands = tt; members = tt };
                converts = Integers refl refl;
              };
            },
            tt,
          ),
        ),
      ),
    ),
  ),
)
