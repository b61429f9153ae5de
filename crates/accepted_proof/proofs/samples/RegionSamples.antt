-- A program with a lexical region, a making in the region of a handle that is an argument, and one in the heap, in which the rules find no fault.
use Rattle.std.proofs.Common.{◌≡◌, ℕ, false, List, None, Some, [], ◌∷◌, refl}
use Rattle.std.specs.Prelude.{◌+◌, codes}
use Rattle.cyc_tree.specs.declared.expression.Operator.TheVariants.{Add}
use Rattle.cyc_tree.specs.declared.expression.Prefix.TheVariants.{Dereference}
use Rattle.cyc_tree.specs.declared.name.Sign.TheVariants as sign
use Rattle.cyc_tree.specs.Tree as tree
use Rattle.cyc_tree.specs.Tree.{Declare, Execute, Expression, Initializer, MoreExpressions, MoreLinks, NoExpressions, NoItems, NoLinks, One, Program, Statement}
use Rattle.cyc_words.specs.Events.{SourceEnding}
use Rattle.source_meaning.specs.Programs.{source}
use Rattle.source_typing.specs.Answers.{program_faults}

abbrev named : ℕ → List ℕ → tree.Name
named at x = record { at = at; text = x }

abbrev variable : ℕ → List ℕ → Expression
variable at x = Expression.Variable (named at x)

abbrev int_type : ℕ → tree.TypeName
int_type at = record { at = at; base = tree.Int; pointers = [] }

abbrev region_r : ℕ → tree.RegionName
region_r at = tree.Named (named at (codes "r"))

abbrev to_int : ℕ → tree.TypeName
to_int at = record { at = at; base = tree.Int; pointers = record { sign = sign.Nullable 1; region = None } ∷ [] }

abbrev to_int_in : ℕ → tree.TypeName
to_int_in at = record { at = at; base = tree.Int; pointers = record { sign = sign.Nullable 1; region = Some (region_r (at + 5)) } ∷ [] }

-- int *`r make(region_t<`r> h, int x) { return rnew(h) x; }
-- int main() { region<`r> h; int *`r p = make(h, 5); int *q = new 2; return *p + *q; }
abbrev with_a_region : Program
with_a_region =
    tree.FunctionItem (record {
      result = to_int_in 0;
      name = named 8 (codes "make");
      parameters = record { of = record { at = 13; base = tree.Handle (region_r 22); pointers = [] }; name = named 26 (codes "h") }
          ∷ record { of = int_type 29; name = named 33 (codes "x") } ∷ [];
      effect = None;
      bounds = [];
      body = Execute (Statement.Return 38 (Some (Expression.NewIn 45 (variable 50 (codes "h")) (One (variable 53 (codes "x")))))) NoItems;
      end = 56;
    })
    ∷ tree.FunctionItem (record {
      result = int_type 60;
      name = named 64 (codes "main");
      parameters = [];
      effect = None;
      bounds = [];
      body = Declare (tree.Region 73 (region_r 80) (named 84 (codes "h")))
          (Declare
          (tree.Local (to_int_in 87) (named 95 (codes "p"))
          (Initializer.Value (Expression.Call (named 99 (codes "make"))
          (MoreExpressions (variable 104 (codes "h")) (MoreExpressions (Expression.Number 107 5 false) NoExpressions)))))
          (Declare (tree.Local (to_int 111) (named 116 (codes "q")) (Initializer.Value (Expression.New 120 (One (Expression.Number 124 2 false)))))
          (Execute
          (Statement.Return 127 (Some (Expression.Chain (Expression.Prefixed 134 Dereference (variable 135 (codes "p")))
          (MoreLinks Add (Expression.Prefixed 139 Dereference (variable 140 (codes "q"))) NoLinks))))
          NoItems)));
      end = 143;
    })
    ∷ []

no_fault_with_regions : program_faults with_a_region ≡ []
no_fault_with_regions = refl

its_ending : (source with_a_region [] 9).ending ≡ SourceEnding.Ended 7
its_ending = refl
