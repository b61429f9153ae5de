-- A block with a tagged union: `{ union u x = u.a(1); switch (x) { case {.a = y}: return y; default: return 0; } }`.
use Rattle.std.proofs.Common.{true, false, Some, [], ◌∷◌, refl}
use Rattle.std.specs.Prelude.{codes}
use Rattle.cyc_tree.specs.Tree as tree
use Rattle.cyc_tree.specs.Tree.{Expression, Initializer, Statement, BlockItems, NoItems, Declare, Execute, MoreClauses, NoClauses, Case, Default}
use Rattle.source_typing.specs.Converts.{Integers, Same}
use Rattle.source_typing.specs.Regions.{Level, entry_regions}
use Rattle.source_typing.specs.Scope.{Env, In, Nowhere, at_item, block_entered}
use Rattle.source_typing.specs.Tables.{OfTag, Tables, Tag}
use Rattle.source_typing.specs.Types.{Char, Int, Union}
use Rattle.type_proof.specs.Judged.{ItemsJudged}
use Rattle.type_proof.proofs.ArraySample.{name_at, variable_at, number}

-- a union of an int and a char
abbrev its_tag : Tag
its_tag = record {
  text = codes "u";
  is_union = true;
  order = 0;
  regions = 0;
  parts = record { name = codes "a"; type = Some Int } ∷ record { name = codes "b"; type = Some Char } ∷ [];
  sound = true;
}

abbrev its_tables : Tables
its_tables = record { name = codes "u"; entry = OfTag its_tag } ∷ []

-- the body of a function that takes nothing and gives an int
abbrev inside : Env
inside = block_entered (record (at_item false its_tables 1) { regions = entry_regions 0 [] []; result = Some Int })

abbrev block : BlockItems
block = Declare (tree.Local (record { at = 2; base = tree.Union (name_at 8 "u") []; pointers = [] }) (name_at 10 "x")
    (Initializer.Value (Expression.MakeUnion (name_at 14 "u") (name_at 16 "a") (number 18 1))))
    (Execute (Statement.Switch 22 (variable_at 30 "x")
    (MoreClauses 35 (Case (name_at 40 "a") (name_at 42 "y")) (Execute (Statement.Return 48 (Some (variable_at 55 "y"))) NoItems)
    (MoreClauses 60 Default (Execute (Statement.Return 71 (Some (number 78 0))) NoItems) NoClauses))) NoItems)

-- each clause returns, so none is left at its end
pub block_judged : ItemsJudged inside true block
block_judged = (
  record {
    type = Union (codes "u") [];
    object = tt;
    below = tt;
    fitting = record {
      accepted = record {
        value = record { at = 14; type = Union (codes "u") []; seat = Nowhere };
        judged = refl;
        operands = tt;
        members =
            tt;
      };
      converts = Same;
    };
    shape = refl;
    scope = refl;
  },
  (
    (
      record {
        accepted = record {
          value = record { at = 30; type = Union (codes "u") []; seat = In (Level 0) };
          judged = refl;
          operands = tt;
          members = tt;
        };
        tag = codes "u";
        regions = [];
        is = refl;
        place = refl;
        fit = refl;
      },
      (
        refl,
        record { part = record { name = codes "a"; type = Some Int }; type = Int; found = refl; typed = refl; scope = refl },
        (
          record {
            gives = Int;
            result = refl;
            object = tt;
            fitting = record {
              accepted = record { value = record { at = 55; type = Int; seat = In (Level 1) }; judged = refl; operands = tt; members = tt };
              converts = Integers refl refl;
            };
          },
          tt,
        ),
        (
          refl,
          tt,
          (
            record {
              gives = Int;
              result = refl;
              object = tt;
              fitting = record {
                accepted = record { value = record { at = 78; type = Int; seat = Nowhere }; judged = refl; operands = tt; members = tt };
                converts = Integers refl refl;
              };
            },
            tt,
          ),
          tt,
        ),
      ),
    ),
    tt,
  ),
)
