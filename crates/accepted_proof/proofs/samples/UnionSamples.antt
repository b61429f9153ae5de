-- A program with a tagged union, of a number and of a pointer to a struct, in which the rules find no fault: a `switch` of it gives one or the other.
use Rattle.std.proofs.Common.{◌≡◌, ℕ, false, List, None, Some, [], ◌∷◌, refl}
use Rattle.std.specs.Prelude.{◌+◌, codes}
use Rattle.cyc_tree.specs.declared.expression.Operator.TheVariants.{Add}
use Rattle.cyc_tree.specs.declared.expression.Prefix.TheVariants.{Dereference}
use Rattle.cyc_tree.specs.declared.name.Sign.TheVariants as sign
use Rattle.cyc_tree.specs.Tree as tree
use Rattle.cyc_tree.specs.Tree.{Arrow, Case, Clauses, Declare, Default, Execute, Expression, Initializer, MoreClauses, MoreExpressions, MoreLinks, NoClauses}
use Rattle.cyc_tree.specs.Tree.{NoExpressions, NoItems, NoLinks, NoSuffixes, One, Program, Statement}
use Rattle.cyc_words.specs.Events.{SourceEnding}
use Rattle.source_meaning.specs.Programs.{source}
use Rattle.source_typing.specs.Answers.{first_fault, program_faults}
use Rattle.source_typing.specs.Faults.{fault, type_rule}

abbrev named : ℕ → List ℕ → tree.Name
named at x = record { at = at; text = x }

abbrev variable : ℕ → List ℕ → Expression
variable at x = Expression.Variable (named at x)

abbrev int_type : ℕ → tree.TypeName
int_type at = record { at = at; base = tree.Int; pointers = [] }

abbrev to_union : ℕ → tree.TypeName
to_union at = record { at = at; base = tree.Union (named (at + 6) (codes "u")) []; pointers = record { sign = sign.Nullable 1; region = None } ∷ [] }

abbrev to_struct : ℕ → tree.TypeName
to_struct at = record { at = at; base = tree.Struct (named (at + 7) (codes "s")) []; pointers = record { sign = sign.Nullable 1; region = None } ∷ [] }

abbrev make : ℕ → List ℕ → Expression → Expression
make at member e = Expression.New at (One (Expression.MakeUnion (named (at + 4) (codes "u")) (named (at + 6) member) e))

abbrev get : ℕ → Expression → Expression
get at e = Expression.Call (named at (codes "get")) (MoreExpressions e NoExpressions)

-- case {.a = n}: return n;
abbrev of_number : Clauses → Clauses
of_number = MoreClauses 80 (Case (named 87 (codes "a")) (named 91 (codes "n"))) (Execute (Statement.Return 95 (Some (variable 102 (codes "n")))) NoItems)

-- case {.b = p}: return p->k;
abbrev of_pointer : Clauses → Clauses
of_pointer = MoreClauses 105 (Case (named 112 (codes "b")) (named 116 (codes "p")))
    (Execute (Statement.Return 120 (Some (Expression.Suffixed (variable 127 (codes "p")) (Arrow (named 130 (codes "k")) NoSuffixes)))) NoItems)

-- struct s { int k; };
-- @tagged union u { int a; struct s *b; };
-- int get(union u *x) { switch (*x) { .. } }
-- int main() { struct s *q = new s(4); return get(new u.a(3)) + get(new u.b(q)); }
abbrev switched_by : Clauses → Program
switched_by clauses =
    tree.StructItem (record { at = 0; tag = named 7 (codes "s"); regions = []; members = record { of = int_type 11; name = named 15 (codes "k") } ∷ [] })
    ∷ tree.UnionItem (record {
      at = 20;
      tag = named 34 (codes "u");
      regions = [];
      members = record { of = int_type 38; name = named 42 (codes "a") } ∷ record { of = to_struct 45; name = named 55 (codes "b") } ∷ [];
    })
    ∷ tree.FunctionItem (record {
      result = int_type 60;
      name = named 64 (codes "get");
      parameters = record { of = to_union 66; name = named 70 (codes "x") } ∷ [];
      effect = None;
      bounds = [];
      body = Execute (Statement.Switch 72 (Expression.Prefixed 76 Dereference (variable 77 (codes "x"))) clauses) NoItems;
      end = 140;
    })
    ∷ tree.FunctionItem (record {
      result = int_type 142;
      name = named 146 (codes "main");
      parameters = [];
      effect = None;
      bounds = [];
      body = Declare (tree.Local (to_struct 155) (named 165 (codes "q")) (Initializer.Value (Expression.New 169
          (One (Expression.Call (named 173 (codes "s")) (MoreExpressions (Expression.Number 175 4 false) NoExpressions))))))
          (Execute
          (Statement.Return 180 (Some (Expression.Chain (get 187 (make 191 (codes "a") (Expression.Number 199 3 false)))
          (MoreLinks Add (get 202 (make 206 (codes "b") (variable 214 (codes "q")))) NoLinks))))
          NoItems);
      end = 219;
    })
    ∷ []

abbrev both : Program
both = switched_by (of_number (of_pointer NoClauses))

no_faults : program_faults both ≡ []
no_faults = refl

its_ending : (source both [] 9).ending ≡ SourceEnding.Ended 7
its_ending = refl

-- a `default` stands for what no clause names
abbrev with_default : Program
with_default = switched_by (of_pointer (MoreClauses 132 Default (Execute (Statement.Return 134 (Some (Expression.Number 136 1 false))) NoItems) NoClauses))

no_faults_with_default : program_faults with_default ≡ []
no_faults_with_default = refl

its_ending_with_default : (source with_default [] 9).ending ≡ SourceEnding.Ended 5
its_ending_with_default = refl

-- a member that no clause names
one_left_out : first_fault (switched_by (of_number NoClauses)) ≡ Some (fault type_rule 72)
one_left_out = refl
