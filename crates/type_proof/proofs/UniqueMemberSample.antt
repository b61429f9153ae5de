-- A block in which a member in a unique block is exchanged:
-- `{ struct s *unique_region x = rnew(unique_region) s(NULL, 1); int *unique_region y = rnew(unique_region) 2; x->p :=: y; x->n = 3; ufree(y); return x->n; }`.
use Rattle.std.proofs.Common.{◌≡◌, true, false, Some, [], ◌∷◌, refl}
use Rattle.std.specs.Prelude.{codes}
use Rattle.cyc_tree.specs.declared.name.Sign.TheVariants as sign
use Rattle.cyc_tree.specs.Tree as tree
use Rattle.cyc_tree.specs.Tree.{Expression, Initializer, Statement, BlockItems, NoItems, Declare, Execute, One, MoreExpressions, NoExpressions, Arrow}
use Rattle.cyc_tree.specs.Tree.{NoSuffixes}
use Rattle.source_typing.specs.Converts.{Same, Uniques}
use Rattle.source_typing.specs.Left.{left_by_items}
use Rattle.source_typing.specs.Regions.{Level, entry_regions}
use Rattle.source_typing.specs.Scope.{Env, In, InBlock, Nowhere, at_item, block_entered}
use Rattle.source_typing.specs.Tables.{OfTag, Tables, Tag}
use Rattle.source_typing.specs.Types.{Int, Struct, Unique}
use Rattle.type_proof.specs.Judged.{ItemsJudged}
use Rattle.type_proof.proofs.ArraySample.{name_at, variable_at, number}
use Rattle.type_proof.proofs.UniqueSample.{unique_type}

abbrev its_tag : Tag
its_tag = record {
  text = codes "s";
  is_union = false;
  order = 0;
  regions = 0;
  parts = record { name = codes "p"; type = Some (Unique true Int) } ∷ record { name = codes "n"; type = Some Int } ∷ [];
  sound = true;
}

abbrev its_tables : Tables
its_tables = record { name = codes "s"; entry = OfTag its_tag } ∷ []

abbrev inside : Env
inside = block_entered (record (at_item false its_tables 1) { regions = entry_regions 0 [] []; result = Some Int })

abbrev block : BlockItems
block = Declare (tree.Local (record {
  at = 2;
  base = tree.Struct (name_at 9 "s") [];
  pointers =
      record { sign = sign.Nullable 1; region = Some (tree.Unique 12) } ∷ [];
})
    (name_at 26 "x") (Initializer.Value (Expression.NewIn 30 (Expression.UniqueRegion 35)
    (One (Expression.Call (name_at 50 "s") (MoreExpressions (Expression.Null 52) (MoreExpressions (number 58 1) NoExpressions)))))))
    (Declare (tree.Local unique_type (name_at 82 "y") (Initializer.Value (Expression.NewIn 86 (Expression.UniqueRegion 91) (One (number 106 2)))))
    (Execute (Statement.Exchange (Expression.Suffixed (variable_at 109 "x") (Arrow (name_at 112 "p") NoSuffixes)) (variable_at 118 "y"))
    (Execute (Statement.Run (Expression.Assign (Expression.Suffixed (variable_at 121 "x") (Arrow (name_at 124 "n") NoSuffixes)) (number 128 3)))
    (Execute (Statement.FreeUnique 131 (name_at 137 "y"))
    (Execute (Statement.Return 141 (Some (Expression.Suffixed (variable_at 148 "x") (Arrow (name_at 151 "n") NoSuffixes)))) NoItems)))))

pub block_flows : (left_by_items inside block []).faults ≡ []
block_flows = refl

pub block_judged : ItemsJudged inside true block
block_judged = (
  record {
    type = Unique true (Struct (codes "s") []);
    object = tt;
    below = tt;
    fitting = record {
      accepted = record {
        value = record { at = 30; type = Unique false (Struct (codes "s") []); seat = Nowhere };
        judged = refl;
        operands = (tt, (tt, (tt, tt)));
        members = (tt, (tt, (tt, tt)));
      };
      converts = Uniques;
    };
    shape = refl;
    scope = refl;
  },
  (
    record {
      type = Unique true Int;
      object = tt;
      below = tt;
      fitting = record {
        accepted = record {
          value = record { at = 86; type = Unique false Int; seat = Nowhere };
          judged = refl;
          operands = (tt, tt);
          members = (tt, tt);
        };
        converts = Uniques;
      };
      shape = refl;
      scope = refl;
    },
    (
      record {
        left = record {
          value = record { at = 109; type = Unique true Int; seat = InBlock };
          judged = refl;
          operands = (tt, (tt, tt));
          members = (tt, (refl, tt));
        };
        right = record {
          value = record { at = 118; type = Unique true Int; seat = In (Level 0) };
          judged = refl;
          operands = tt;
          members =
              tt;
        };
        fits = refl;
        still = refl;
      },
      (
        record {
          value = record { at = 121; type = Int; seat = Nowhere };
          judged = refl;
          operands = ((tt, (tt, tt)), tt);
          members = ((tt, (refl, tt)), tt);
        },
        (
          record { value = record { at = 137; type = Unique true Int; seat = In (Level 0) }; judged = refl; nullable = true; to = Int; is = refl },
          (
            record {
              gives = Int;
              result = refl;
              object = tt;
              fitting = record {
                accepted = record {
                  value = record { at = 148; type = Int; seat = InBlock };
                  judged = refl;
                  operands = (tt, (tt, tt));
                  members = (tt, (refl, tt));
                };
                converts = Same;
              };
            },
            tt,
          ),
        ),
      ),
    ),
  ),
)
