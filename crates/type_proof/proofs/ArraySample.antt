-- A block with an array that is in order: `{ int a[3]; a[1] = 5; int ?p = a + 1; return *p + numelts(p); }`.
use Rattle.std.proofs.Common.{false, Some, None, [], ◌∷◌, refl, arith, true}
use Prim.Native.String.{String}
use Rattle.std.specs.Prelude.{ℕ, codes}
use Rattle.cyc_tree.specs.declared.expression.Operator.TheVariants.{Add}
use Rattle.cyc_tree.specs.declared.expression.Prefix.TheVariants.{Dereference}
use Rattle.cyc_tree.specs.declared.name.Sign.TheVariants as sign
use Rattle.cyc_tree.specs.Tree as tree
use Rattle.cyc_tree.specs.Tree.{Expression, Initializer, Statement, BlockItems, NoItems, Declare, Execute, NoLinks, MoreLinks, NoSuffixes, Index}
use Rattle.source_typing.specs.Converts.{Integers, Same}
use Rattle.source_typing.specs.Regions.{Level, entry_regions}
use Rattle.source_typing.specs.Scope.{Env, Nowhere, at_item, block_entered}
use Rattle.source_typing.specs.Types.{Int, Unsigned, Fat}
use Rattle.type_proof.specs.Judged.{ItemsJudged}

abbrev pub name_at : ℕ → String → tree.Name
name_at at s = record { at = at; text = codes s }

abbrev pub variable_at : ℕ → String → Expression
variable_at at s = Expression.Variable (name_at at s)

abbrev pub number : ℕ → ℕ → Expression
number at n = Expression.Number at n false

-- the body of a function that takes nothing and gives an int
abbrev pub inside : Env
inside = block_entered (record (at_item false [] 0) { regions = entry_regions 0 [] []; result = Some Int })

abbrev block : BlockItems
block = Declare (tree.Local (record { at = 2; base = tree.Int; pointers = [] }) (name_at 6 "a") (Initializer.Elements 3))
    (Execute (Statement.Run (Expression.Assign (Expression.Suffixed (variable_at 12 "a") (Index (number 14 1) NoSuffixes)) (number 19 5)))
    (Declare (tree.Local (record { at = 22; base = tree.Int; pointers = record { sign = sign.Fat; region = None } ∷ [] }) (name_at 27 "p")
    (Initializer.Value (Expression.Chain (variable_at 31 "a") (MoreLinks Add (number 35 1) NoLinks))))
    (Execute (Statement.Return 38 (Some (Expression.Chain (Expression.Prefixed 45 Dereference (variable_at 46 "p"))
    (MoreLinks Add (Expression.NumElts 50 (variable_at 58 "p")) NoLinks)))) NoItems)))

-- the array lies in the block's region, and so do the elements that p spans
pub block_judged : ItemsJudged inside true block
block_judged = (
  record { type = Int; object = tt; below = tt; begins = refl; shape = refl; scope = refl },
  (
    record {
      value = record { at = 12; type = Int; seat = Nowhere };
      judged = refl;
      operands = ((tt, (tt, (tt, tt))), tt);
      members =
          ((tt, (tt, tt)), tt);
    },
    (
      record {
        type = Fat (Level 0) Int;
        object = tt;
        below = (omega arith, tt);
        fitting = record {
          accepted = record {
            value = record { at = 31; type = Fat (Level 0) Int; seat = Nowhere };
            judged = refl;
            operands =
                (tt, (tt, (tt, tt)));
            members = (tt, (tt, tt));
          };
          converts = Same;
        };
        shape = refl;
        scope = refl;
      },
      (
        record {
          gives = Int;
          result = refl;
          object = tt;
          fitting = record {
            accepted = record {
              value = record { at = 45; type = Unsigned; seat = Nowhere };
              judged = refl;
              operands = (tt, (tt, (tt, tt)));
              members = (tt, (tt, tt));
            };
            converts = Integers refl refl;
          };
        },
        tt,
      ),
    ),
  ),
)
