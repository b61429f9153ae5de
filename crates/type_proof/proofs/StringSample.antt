-- A block with strings that is in order: `{ char ?s = "ab"; s[1] = 'c'; return numelts("") + s[0]; }`.
use Rattle.std.proofs.Common.{true, Some, [], ◌∷◌, refl}
use Rattle.std.specs.Prelude.{codes}
use Rattle.cyc_tree.specs.declared.expression.Operator.TheVariants.{Add}
use Rattle.cyc_tree.specs.declared.name.Sign.TheVariants as sign
use Rattle.cyc_tree.specs.Tree as tree
use Rattle.cyc_tree.specs.Tree.{Constant, Expression, Initializer, Statement, BlockItems, NoItems, Declare, Execute, NoLinks, MoreLinks, NoSuffixes, Index}
use Rattle.source_meaning.specs.Shapes.{MayBeNull}
use Rattle.source_typing.specs.Converts.{Integers, Same}
use Rattle.source_typing.specs.Regions.{TheHeap}
use Rattle.source_typing.specs.Scope.{Nowhere}
use Rattle.source_typing.specs.Types.{Int, Unsigned, Char, Fat, Thin}
use Rattle.type_proof.specs.Judged.{ItemsJudged}
use Rattle.type_proof.specs.Programs.{IsFirst}
use Rattle.type_proof.proofs.ArraySample.{name_at, variable_at, number, inside}

abbrev block : BlockItems
block = Declare (tree.Local (record { at = 2; base = tree.Char; pointers = record { sign = sign.Fat; region = Some (tree.Heap 8) } ∷ [] }) (name_at 10 "s")
    (Initializer.Value (Expression.Text 14 (codes "ab"))))
    (Execute (Statement.Run (Expression.Assign (Expression.Suffixed (variable_at 20 "s") (Index (number 22 1) NoSuffixes)) (Expression.Character 27 99)))
    (Execute (Statement.Return 32 (Some (Expression.Chain (Expression.NumElts 39 (Expression.Text 47 []))
    (MoreLinks Add (Expression.Suffixed (variable_at 53 "s") (Index (number 55 0) NoSuffixes)) NoLinks)))) NoItems))

-- a string's chars lie in the heap, and can be written
pub block_judged : ItemsJudged inside true block
block_judged = (
  record {
    type = Fat TheHeap Char;
    object = tt;
    below = (tt, tt);
    fitting = record {
      accepted = record { value = record { at = 14; type = Fat TheHeap Char; seat = Nowhere }; judged = refl; operands = tt; members = tt };
      converts = Same;
    };
    shape = refl;
    scope = refl;
  },
  (
    record {
      value = record { at = 20; type = Char; seat = Nowhere };
      judged = refl;
      operands = ((tt, (tt, (tt, tt))), tt);
      members =
          ((tt, (tt, tt)), tt);
    },
    (
      record {
        gives = Int;
        result = refl;
        object = tt;
        fitting = record {
          accepted = record {
            value = record { at = 39; type = Unsigned; seat = Nowhere };
            judged = refl;
            operands =
                (tt, (tt, (((tt, (tt, (tt, tt)))), tt)));
            members = (tt, ((tt, (tt, tt)), tt));
          };
          converts = Integers refl refl;
        };
      },
      tt,
    ),
  ),
)

-- a global pointer to chars may begin with a string, and no other one
pub chars_begin : IsFirst (Fat TheHeap Char) (Constant.Text 10 (codes "ab")) × IsFirst (Thin (MayBeNull 1) TheHeap Char) (Constant.Text 10 [])
chars_begin = (refl, refl)

pub ints_do_not : IsFirst (Fat TheHeap Int) (Constant.Text 10 (codes "ab")) → ⊥
ints_do_not e = cc
