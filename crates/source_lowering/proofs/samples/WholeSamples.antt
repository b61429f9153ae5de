-- A program of structs as values: it is taken, its code is written out by the rules, and Core's run of it gives what the source's does.
use Rattle.std.proofs.Common.{◌≡◌, ℕ, Some, List, [], ◌∷◌, refl, arith}
use Rattle.std.specs.Prelude.{codes}
use Rattle.cyc_tree.specs.declared.expression.Operator.TheVariants.{Add, Multiply}
use Rattle.cyc_tree.specs.declared.expression.Prefix.TheVariants.{AddressOf}
use Rattle.cyc_tree.specs.Tree as tree
use Rattle.cyc_tree.specs.Tree.{Expression, Expressions, NoExpressions, MoreExpressions, NoLinks, MoreLinks, NoSuffixes, Dot, Initializer, Statement, NoItems}
use Rattle.cyc_tree.specs.Tree.{Initial, Program}
use Rattle.cyc_words.specs.declared.faults.Kind.TheVariants.{NullException}
use Rattle.cyc_words.specs.Events as events
use Rattle.cyc_words.specs.Events.{ByteWritten, SourceEnding}
use Rattle.source_meaning.specs.Shapes.{IntShape, StructShape}
use Rattle.source_meaning.specs.Steps.{World}
use Rattle.source_meaning.specs.Programs.{routine_of, source, world_of}
use Rattle.source_meaning.proofs.Trees.{named, variable, number, typed, ◌▸◌, ◌▹◌, function, gives}
use Rattle.core_meaning.specs.Memory.{Layout, PartShape, Blank, Word}
use Rattle.core_meaning.specs.Core as code
use Rattle.core_meaning.specs.Core.{Distance, Do, If, Raise, Constant, Narrow, Apply, LocalAddress, OwnAddress, DataAddress, Offset, Load, Store, Copy}
use Rattle.core_meaning.specs.Core.{NoStatements, MoreStatements}
use Rattle.core_meaning.specs.Steps.{Visible, Called, Returned}
use Rattle.core_meaning.specs.Meaning.{core}
use Rattle.source_lowering.specs.Programs.{no_regions, declaration_code, function_code, program_code, statement_code}
use Rattle.source_lowering.specs.Lowered.{Named}
use Rattle.source_lowering.specs.Programs.{named_here}
use Rattle.source_lowering.specs.Lowerable.{GivesWord, IsLowerable}
use Rattle.source_lowering.proofs.samples.Samples.{contents_of, dot, member, nullable, struct_of}

abbrev pair : Expression → Expression → Expressions
pair e f = MoreExpressions e (MoreExpressions f NoExpressions)

-- out(1, t)
abbrev out_of_place : Expression
out_of_place = Expression.Call (named "out") (pair (number 1) (variable "t"))

-- u.a.n
abbrev inner_number : Expression
inner_number = Expression.Suffixed (variable "u") (Dot (named "a") (Dot (named "n") NoSuffixes))

-- s = out(3, in(66, u.a.n + 5))
abbrev out_assigned : Statement
out_assigned = Statement.Run (Expression.Assign (variable "s") (Expression.Call (named "out") (pair (number 3)
    (Expression.Call (named "in") (pair (number 66) (Expression.Chain inner_number (MoreLinks Add (number 5) NoLinks)))))))

-- *f() = s
abbrev old_assigned : Statement
old_assigned = Statement.Run (Expression.Assign (contents_of (Expression.Call (named "f") NoExpressions)) (variable "s"))

-- struct in { char c; int n; }; struct out { int k; struct in a; }; struct out s; struct out r;
-- struct out *f() { s.k = 9; return &r; }
-- int main() { struct in t = (in(321, 2)); struct out u = out(1, t); s = out(3, in(66, u.a.n + 5)); *f() = s; s; putchar(u.a.c);
-- return r.k + s.k * 10 + r.a.n * 100 + r.a.c * 1000; }
abbrev main_function : tree.Function
main_function =
    function (typed tree.Int []) (named "main") [] (
    (tree.Local (struct_of (named "in")) (named "t")
    (Initializer.Value (Expression.Grouped 0 (Expression.Call (named "in") (pair (number 321) (number 2)))))) ▹
    (tree.Local (struct_of (named "out")) (named "u") (Initializer.Value out_of_place)) ▹
    out_assigned ▸
    old_assigned ▸
    (Statement.Run (variable "s")) ▸
    (Statement.Run (Expression.Call (named "putchar") (MoreExpressions (Expression.Suffixed (variable "u") (Dot (named "a") (Dot (named "c") NoSuffixes)))
    NoExpressions))) ▸
    (Statement.Return 0 (Some (Expression.Chain (dot (variable "r") (named "k"))
    (MoreLinks Add (Expression.Chain (dot (variable "s") (named "k")) (MoreLinks Multiply (number 10) NoLinks))
    (MoreLinks Add (Expression.Chain (Expression.Suffixed (variable "r") (Dot (named "a") (Dot (named "n") NoSuffixes)))
    (MoreLinks Multiply (number 100) NoLinks))
    (MoreLinks Add (Expression.Chain (Expression.Suffixed (variable "r") (Dot (named "a") (Dot (named "c") NoSuffixes)))
    (MoreLinks Multiply (number 1000) NoLinks))
    NoLinks)))))) ▸
    NoItems)

abbrev whole_forms : Program
whole_forms =
    tree.StructItem (record {
      at = 0;
      tag = named "in";
      regions = [];
      members = member (typed tree.Char []) (named "c") ∷ member (typed tree.Int []) (named "n") ∷ [];
    }) ∷
    tree.StructItem (record {
      at = 0;
      tag = named "out";
      regions = [];
      members = member (typed tree.Int []) (named "k") ∷ member (struct_of (named "in")) (named "a") ∷ [];
    }) ∷
    tree.GlobalItem (record { of = struct_of (named "out"); name = (named "s"); initial = Initial.Unset }) ∷
    tree.GlobalItem (record { of = struct_of (named "out"); name = (named "r"); initial = Initial.Unset }) ∷
    tree.FunctionItem (function (typed (tree.Struct (named "out") []) nullable) (named "f") [] (
    (Statement.Run (Expression.Assign (dot (variable "s") (named "k")) (number 9))) ▸
    (Statement.Return 0 (Some (Expression.Prefixed 0 AddressOf (variable "r")))) ▸
    NoItems)) ∷
    tree.FunctionItem main_function ∷ []

abbrev w : World
w = world_of whole_forms

-- `t` and `u`
abbrev with_t : List Named
with_t = named_here (codes "t") (StructShape (codes "in")) 0 ∷ []

abbrev with_both : List Named
with_both = named_here (codes "u") (StructShape (codes "out")) 1 ∷ with_t

-- ---- the temporary objects

abbrev filler : ℕ → PartShape
filler at = record { offset = at; width = 1; first = Blank }

abbrev in_layout : Layout
in_layout = record {
  cells = (record { offset = 0; width = 1; first = Word 0 } ∷ filler 1 ∷ filler 2 ∷ filler 3 ∷ []) ∷
      (record { offset = 4; width = 4; first = Word 0 } ∷ []) ∷ [];
  bytes = 8;
}

abbrev out_layout : Layout
out_layout = record {
  cells = (record { offset = 0; width = 4; first = Word 0 } ∷ []) ∷
      (record { offset = 4; width = 1; first = Word 0 } ∷ filler 5 ∷ filler 6 ∷ filler 7 ∷ []) ∷ (record { offset = 8; width = 4; first = Word 0 } ∷ []) ∷ [];
  bytes = 12;
}

abbrev one : Layout → code.Local
one layout = record { layout = layout; count = 1 }

-- in(321, 2); out(1, t) and t; out(3, ..) and in(66, ..); the two of s
own_values : (function_code w (routine_of main_function)).own ≡
    one in_layout ∷ one out_layout ∷ one in_layout ∷ one out_layout ∷ one in_layout ∷ one out_layout ∷ one out_layout ∷ []
own_values = refl

-- ---- the code

abbrev part : (cells bytes width : ℕ) → Distance
part cells bytes width = record { cells = cells; bytes = bytes; part = 0; width = width }

initialized : declaration_code w with_t (tree.Local (struct_of (named "out")) (named "u") (Initializer.Value out_of_place)) 0 1 1 ≡
    Do (OwnAddress 0 1) ∷ Do (Constant 1 1) ∷ Do (Store 0 (part 0 0 4) 1) ∷ Do (LocalAddress 1 0 0) ∷ Do (OwnAddress 2 2) ∷ Do (Copy 2 1 in_layout) ∷
    Do (OwnAddress 1 2) ∷ Do (Offset 2 0 1 4) ∷ Do (Copy 2 1 in_layout) ∷ Do (LocalAddress 1 0 1) ∷ Do (Copy 1 0 out_layout) ∷ []
initialized = refl

assigned : statement_code w IntShape with_both no_regions 3 out_assigned ≡
    Do (OwnAddress 0 3) ∷ Do (Constant 1 3) ∷ Do (Store 0 (part 0 0 4) 1) ∷ Do (OwnAddress 1 4) ∷ Do (Constant 2 66) ∷ Do (Narrow 2 2) ∷
    Do (Store 1 (part 0 0 1) 2) ∷ Do (LocalAddress 2 0 1) ∷ Do (Load 2 2 (part 2 8 4)) ∷ Do (Constant 3 5) ∷ Do (Apply code.Add 2 2 3) ∷
    Do (Store 1 (part 1 4 4) 2) ∷ Do (Offset 2 0 1 4) ∷ Do (Copy 2 1 in_layout) ∷ Do (DataAddress 1 0) ∷ Do (Copy 1 0 out_layout) ∷ []
assigned = refl

old_one_assigned : statement_code w IntShape with_both no_regions 5 old_assigned ≡
    Do (DataAddress 0 0) ∷ Do (OwnAddress 1 5) ∷ Do (Copy 1 0 out_layout) ∷ Do (OwnAddress 0 5) ∷ code.Call (1 ∷ []) 0 [] ∷
    If 1 NoStatements (MoreStatements (Raise NullException) NoStatements) ∷ Do (Copy 1 0 out_layout) ∷ []
old_one_assigned = refl

dropped : statement_code w IntShape with_both no_regions 6 (Statement.Run (variable "s")) ≡
    Do (DataAddress 0 0) ∷ Do (OwnAddress 1 6) ∷ Do (Copy 1 0 out_layout) ∷ Do (OwnAddress 0 6) ∷ []
dropped = refl

-- ---- the meaning

-- `r` gets the `k` that `s` has before the call
whole_forms_mean : source whole_forms [] 20 ≡
    gives (events.Called (codes "main") ∷ events.Called (codes "f") ∷ events.Returned (codes "f") ∷ events.Visible (ByteWritten 65) ∷
    events.Returned (codes "main") ∷ []) (SourceEnding.Ended 66793)
whole_forms_mean = refl

whole_forms_run : core (program_code whole_forms) [] 20 ≡ record {
  events = Called 1 ∷ Called 0 ∷ Returned 0 ∷ Visible (ByteWritten 65) ∷ Returned 1 ∷ [];
  ending = SourceEnding.Ended 66793;
}
whole_forms_run = refl

-- ---- it is taken

whole_forms_taken : IsLowerable whole_forms
whole_forms_taken = record {
  items = (
    tt,
    (
      tt,
      (
        (record { base = tt; known = refl }, tt),
        (
          (record { base = tt; known = refl }, tt),
          (
            record {
              result = GivesWord (record { base = tt; word = tt });
              main = λ e. absurd (cc e);
              parameters = tt;
              body = (((tt, (tt, tt)), (tt, tt)), (tt, tt));
            },
            (
              record {
                result = GivesWord (record { base = tt; word = tt });
                main = λ e. record { pointers = refl; base = refl };
                parameters = tt;
                body = (
                  (record { base = tt; known = refl }, (refl, (tt, (tt, tt)))),
                  (
                    (record { base = tt; known = refl }, (refl, (tt, ((tt, refl), tt)))),
                    (
                      (tt, ((refl, (tt, ((refl, (tt, ((((tt, (refl, (tt, tt))), tt), (tt, tt)), tt))), tt))), refl)),
                      (
                        ((refl, tt), ((tt, refl), refl)),
                        (
                          (tt, refl),
                          (
                            (refl, (((tt, (refl, (tt, tt))), tt), tt)),
                            (
                              (
                                ((tt, (tt, tt)), tt),
                                (
                                  (((tt, (tt, tt)), tt), (tt, tt)),
                                  ((((tt, (refl, (tt, tt))), tt), (tt, tt)), ((((tt, (refl, (tt, tt))), tt), (tt, tt)), tt)),
                                ),
                              ),
                              tt,
                            ),
                          ),
                        ),
                      ),
                    ),
                  ),
                );
              },
              tt,
            ),
          ),
        ),
      ),
    ),
  );
  unions = tt;
  structs = (
    record { new = refl; some = tt; members = (tt, (refl, tt)); small = omega arith },
    (record { new = refl; some = tt; members = (tt, (tt, tt)); small = omega arith }, tt),
  );
  strings = tt;
}
