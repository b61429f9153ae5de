-- A program with strings: it is taken, and Core's run of its code is computed.
use Rattle.std.proofs.Common.{◌≡◌, arith, None, Some, [], ◌∷◌, List, refl}
use Rattle.cyc_tree.specs.declared.expression.Operator.TheVariants.{Add}
use Rattle.cyc_tree.specs.declared.name.Sign.TheVariants.{Nullable, Fat}
use Rattle.cyc_tree.specs.Tree as tree
use Rattle.cyc_tree.specs.Tree.{Expression, NoExpressions, MoreExpressions, NoLinks, MoreLinks, NoSuffixes, Index, Initializer, Statement, NoItems}
use Rattle.cyc_tree.specs.Tree.{Constant, Initial, Program}
use Rattle.cyc_words.specs.Events.{ByteWritten, SourceEnding}
use Rattle.source_meaning.proofs.Trees.{named, variable, number, pointer, typed, ◌▸◌, ◌▹◌, function}
use Rattle.core_meaning.specs.Steps.{Visible, Called, Returned}
use Rattle.core_meaning.specs.Meaning.{core}
use Rattle.source_lowering.specs.Programs.{program_code}
use Rattle.source_lowering.specs.Lowerable.{GivesWord, IsLowerable}
use Rattle.source_lowering.proofs.samples.Samples.{contents_of}

abbrev fat : List tree.Pointer
fat = pointer Fat None ∷ []

abbrev element : Expression → Expression → Expression
element e i = Expression.Suffixed e (Index i NoSuffixes)

abbrev put : Expression → Statement
put e = Statement.Run (Expression.Call (named "putchar") (MoreExpressions e NoExpressions))

-- char ?s = "hi"; char *t = "c";
-- int main() { char ?u = "ab"; u[1] = *t; s[0] = u[1]; putchar(u[0]); putchar(*s); return numelts(s) + ""[0]; }
abbrev text_forms : Program
text_forms =
    tree.GlobalItem (record { of = typed tree.Char fat; name = named "s"; initial = Initial.Given (Constant.Text 1 (104 ∷ 105 ∷ [])) }) ∷
    tree.GlobalItem (record { of = typed tree.Char (pointer (Nullable 1) None ∷ []); name = named "t"; initial = Initial.Given (Constant.Text 2 (99 ∷ [])) }) ∷
    tree.FunctionItem (function (typed tree.Int []) (named "main") [] (
    (tree.Local (typed tree.Char fat) (named "u") (Initializer.Value (Expression.Text 3 (97 ∷ 98 ∷ [])))) ▹
    (Statement.Run (Expression.Assign (element (variable "u") (number 1)) (contents_of (variable "t")))) ▸
    (Statement.Run (Expression.Assign (element (variable "s") (number 0)) (element (variable "u") (number 1)))) ▸
    put (element (variable "u") (number 0)) ▸
    put (contents_of (variable "s")) ▸
    (Statement.Return 0 (Some (Expression.Chain (Expression.NumElts 0 (variable "s")) (MoreLinks Add (element (Expression.Text 4 []) (number 0)) NoLinks)))) ▸
    NoItems)) ∷ []

text_forms_run : core (program_code text_forms) [] 9 ≡ record {
  events = Called 0 ∷ Visible (ByteWritten 97) ∷ Visible (ByteWritten 99) ∷ Returned 0 ∷ [];
  ending = SourceEnding.Ended 3;
}
text_forms_run = refl

text_forms_taken : IsLowerable text_forms
text_forms_taken = record {
  items = (
    (record { base = tt; known = tt }, tt),
    (
      (record { base = tt; known = tt }, omega arith),
      (
        record {
          result = GivesWord (record { base = tt; word = tt });
          main = λ e. record { pointers = refl; base = refl };
          parameters = tt;
          body = (
            (record { base = tt; known = tt }, tt),
            (
              ((tt, (tt, (tt, tt))), ((tt, tt), tt)),
              (
                ((tt, (tt, (tt, tt))), (((tt, (tt, (tt, tt))), tt), tt)),
                ((refl, (((tt, (tt, (tt, tt))), tt), tt)), ((refl, ((tt, tt), tt)), ((tt, (((tt, (tt, (tt, tt))), tt), tt)), tt))),
              ),
            ),
          );
        },
        tt,
      ),
    ),
  );
  unions = tt;
  structs = tt;
  strings = (omega arith, (omega arith, (omega arith, (omega arith, tt))));
}
