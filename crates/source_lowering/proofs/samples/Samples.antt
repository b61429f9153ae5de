-- A program of integers and functions: it is taken, and Core's run of its code is computed.
use Rattle.std.proofs.Common.{◌≡◌, arith, false, Some, None, List, [], ◌∷◌, ◌++◌, refl}
use Rattle.cyc_tree.specs.declared.expression.Operator.TheVariants.{Less, Add, Multiply, Divide, Equal, GreaterEqual}
use Rattle.cyc_tree.specs.declared.expression.Prefix.TheVariants.{Not, Dereference, AddressOf}
use Rattle.cyc_tree.specs.declared.name.Sign.TheVariants.{Nullable, NotNull}
use Rattle.cyc_tree.specs.Tree as tree
use Rattle.cyc_tree.specs.Tree.{Expression, NoExpressions, MoreExpressions, NoLinks, MoreLinks, NoSuffixes, Dot, Arrow, Initializer, Statement, NoItems}
use Rattle.cyc_tree.specs.Tree.{Constant, Initial, Program}
use Rattle.cyc_words.specs.declared.faults.Kind.TheVariants.{NullException}
use Rattle.cyc_words.specs.Events.{ByteRead, ByteWritten, SourceEnding}
use Rattle.source_meaning.proofs.Trees.{named, variable, number, typed, ◌▸◌, ◌▹◌, function}
use Rattle.core_meaning.specs.Steps.{Visible, Called, Returned}
use Rattle.core_meaning.specs.Meaning.{core}
use Rattle.source_lowering.specs.Programs.{program_code}
use Rattle.source_lowering.specs.Lowerable.{GivesWord, GivesNothing, IsLowerable}

-- char g = 321; void put(char c) { putchar(c); }
-- int main() { int i; unsigned s = g; while (i < 3 && !(s >= 100)) { int b = getchar(); s = s * 2 + b / 4; put(b); i = i + 1; if (i >= 2) break; } return s; }
abbrev all_forms : Program
all_forms =
    tree.GlobalItem (record { of = (typed tree.Char []); name = (named "g"); initial = (Initial.Given (Constant.Number 0 321 false)) }) ∷
    tree.FunctionItem (function (typed tree.Void []) (named "put") ((record { of = (typed tree.Char []); name = (named "c") }) ∷ []) (
    (Statement.Run (Expression.Call (named "putchar") (MoreExpressions (variable "c") NoExpressions))) ▸
    NoItems)) ∷
    tree.FunctionItem (function (typed tree.Int []) (named "main") [] (
    (tree.Local (typed tree.Int []) (named "i") Initializer.Unset) ▹
    (tree.Local (typed tree.Unsigned []) (named "s") (Initializer.Value (variable "g"))) ▹
    (Statement.While 0
    (Expression.AllOf (Expression.Chain (variable "i") (MoreLinks Less (number 3) NoLinks))
    (MoreExpressions (Expression.Prefixed 0 Not (Expression.Grouped 0 (Expression.Chain (variable "s") (MoreLinks GreaterEqual (number 100) NoLinks))))
    NoExpressions))
    (Statement.Block 0 (
    (tree.Local (typed tree.Int []) (named "b") (Initializer.Value (Expression.Call (named "getchar") NoExpressions))) ▹
    (Statement.Run (Expression.Assign (variable "s") (Expression.Chain (Expression.Chain (variable "s") (MoreLinks Multiply (number 2) NoLinks))
    (MoreLinks Add (Expression.Chain (variable "b") (MoreLinks Divide (number 4) NoLinks)) NoLinks)))) ▸
    (Statement.Run (Expression.Call (named "put") (MoreExpressions (variable "b") NoExpressions))) ▸
    (Statement.Run (Expression.Assign (variable "i") (Expression.Chain (variable "i") (MoreLinks Add (number 1) NoLinks)))) ▸
    (Statement.If 0 (Expression.Chain (variable "i") (MoreLinks GreaterEqual (number 2) NoLinks)) (Statement.Break 0)) ▸
    NoItems))) ▸
    (Statement.Return 0 (Some (variable "s"))) ▸
    NoItems)) ∷ []

all_forms_runs : core (program_code all_forms) (8 ∷ 300 ∷ []) 20 ≡ record {
  events = Called 1 ∷ Visible (ByteRead (Some 8)) ∷ Called 0 ∷ Visible (ByteWritten 8) ∷ Returned 0 ∷ Returned 1 ∷ [];
  ending = SourceEnding.Ended 132;
}
all_forms_runs = refl

-- the same without `main`'s `return`, which gives 0 there
abbrev end_alone : Program
end_alone = tree.FunctionItem (function (typed tree.Int []) (named "main") [] NoItems) ∷ []

end_alone_runs : core (program_code end_alone) [] 0 ≡ record { events = Called 0 ∷ Returned 0 ∷ []; ending = SourceEnding.Ended 0 }
end_alone_runs = refl

all_forms_taken : IsLowerable all_forms
all_forms_taken = record {
  items = (
    (record { base = tt; known = tt }, tt),
    (
      record {
        result = GivesNothing (record { pointers = refl; base = tt });
        main = λ e. absurd (cc e);
        parameters = (record { base = tt; word = tt }, tt);
        body = ((refl, (tt, tt)), tt);
      },
      (
        record {
          result = GivesWord (record { base = tt; word = tt });
          main = λ e. record { pointers = refl; base = refl };
          parameters = tt;
          body = (
            (record { base = tt; known = tt }, tt),
            (
              (record { base = tt; known = tt }, tt),
              (
                (
                  ((tt, (tt, tt)), ((tt, (tt, tt)), tt)),
                  (
                    (record { base = tt; known = tt }, (refl, tt)),
                    (
                      (tt, (((tt, (tt, tt)), ((tt, (tt, tt)), tt)), tt)),
                      ((refl, (tt, tt)), ((tt, ((tt, (tt, tt)), tt)), (((tt, (tt, tt)), tt), tt))),
                    ),
                  ),
                ),
                (tt, tt),
              ),
            ),
          );
        },
        tt,
      ),
    ),
  );
  unions = tt;
  structs = tt;
  strings = tt;
}

-- ---- pointers

abbrev pub nullable : List tree.Pointer
nullable = (record { sign = Nullable 1; region = None }) ∷ []

abbrev not_null : List tree.Pointer
not_null = (record { sign = NotNull 1; region = None }) ∷ []

abbrev pub contents_of : Expression → Expression
contents_of e = Expression.Prefixed 0 Dereference e

abbrev address_of : Expression → Expression
address_of e = Expression.Prefixed 0 AddressOf e

-- int *g = NULL; char *same(char *p) { return p; }
-- void set(int @p, char *c) { *p = *p + 1; if (c) *same(c) = 66; }
-- int main() { int x = 4; int *p = &x; int **r = &p; char k = 65; set(*r, NULL); set(p, &k);
-- if ((p == *r) && !g) putchar(k); g = &x; if (g == p) x = *g + *p; return x; }
abbrev pointer_forms : Program
pointer_forms =
    tree.GlobalItem (record { of = (typed tree.Int nullable); name = (named "g"); initial = (Initial.Given (Constant.Null 0)) }) ∷
    tree.FunctionItem (function (typed tree.Char nullable) (named "same") ((record { of = (typed tree.Char nullable); name = (named "p") }) ∷ []) (
    (Statement.Return 0 (Some (variable "p"))) ▸
    NoItems)) ∷
    tree.FunctionItem (function (typed tree.Void []) (named "set") ((record { of = (typed tree.Int not_null); name = (named "p") }) ∷
    (record { of = (typed tree.Char nullable); name = (named "c") }) ∷ []) (
    (Statement.Run (Expression.Assign (contents_of (variable "p")) (Expression.Chain (contents_of (variable "p")) (MoreLinks Add (number 1) NoLinks)))) ▸
    (Statement.If 0 (variable "c") (Statement.Run (Expression.Assign (contents_of (Expression.Call (named "same") (MoreExpressions (variable "c")
    NoExpressions))) (number 66)))) ▸
    NoItems)) ∷
    tree.FunctionItem (function (typed tree.Int []) (named "main") [] (
    (tree.Local (typed tree.Int []) (named "x") (Initializer.Value (number 4))) ▹
    (tree.Local (typed tree.Int nullable) (named "p") (Initializer.Value (address_of (variable "x")))) ▹
    (tree.Local (typed tree.Int (nullable ++ nullable)) (named "r") (Initializer.Value (address_of (variable "p")))) ▹
    (tree.Local (typed tree.Char []) (named "k") (Initializer.Value (number 65))) ▹
    (Statement.Run (Expression.Call (named "set") (MoreExpressions (contents_of (variable "r")) (MoreExpressions (Expression.Null 0) NoExpressions)))) ▸
    (Statement.Run (Expression.Call (named "set") (MoreExpressions (variable "p") (MoreExpressions (address_of (variable "k")) NoExpressions)))) ▸
    (Statement.If 0 (Expression.AllOf (Expression.Chain (variable "p") (MoreLinks Equal (contents_of (variable "r")) NoLinks))
    (MoreExpressions (Expression.Prefixed 0 Not (variable "g")) NoExpressions))
    (Statement.Run (Expression.Call (named "putchar") (MoreExpressions (variable "k") NoExpressions)))) ▸
    (Statement.Run (Expression.Assign (variable "g") (address_of (variable "x")))) ▸
    (Statement.If 0 (Expression.Chain (variable "g") (MoreLinks Equal (variable "p") NoLinks))
    (Statement.Run (Expression.Assign (variable "x") (Expression.Chain (contents_of (variable "g")) (MoreLinks Add (contents_of (variable "p")) NoLinks))))) ▸
    (Statement.Return 0 (Some (variable "x"))) ▸
    NoItems)) ∷ []

pointer_forms_run : core (program_code pointer_forms) [] 20 ≡ record {
  events = Called 2 ∷ Called 1 ∷ Returned 1 ∷ Called 1 ∷ Called 0 ∷ Returned 0 ∷ Returned 1 ∷ Visible (ByteWritten 66) ∷ Returned 2 ∷ [];
  ending = SourceEnding.Ended 12;
}
pointer_forms_run = refl

-- int main() { int *p; return *p; }
abbrev null_read : Program
null_read =
    tree.FunctionItem (function (typed tree.Int []) (named "main") [] (
    (tree.Local (typed tree.Int nullable) (named "p") Initializer.Unset) ▹
    (Statement.Return 0 (Some (contents_of (variable "p")))) ▸
    NoItems)) ∷ []

null_read_runs : core (program_code null_read) [] 0 ≡ record { events = Called 0 ∷ []; ending = SourceEnding.Raised NullException }
null_read_runs = refl

-- ---- structs

abbrev pub struct_of : tree.Name → tree.TypeName
struct_of tag = typed (tree.Struct tag []) []

abbrev pub member : tree.TypeName → tree.Name → tree.Member
member of name = record { of = of; name = name }

abbrev pub dot : Expression → tree.Name → Expression
dot e f = Expression.Suffixed e (Dot f NoSuffixes)

abbrev arrow : Expression → tree.Name → Expression
arrow e f = Expression.Suffixed e (Arrow f NoSuffixes)

-- struct in { char c; int n; }; struct out { struct in a; struct out *next; char last; }; struct out g;
-- int main() { struct out s; struct in *p = &s.a; int *q = &p->n; s.next = &s; s.a.n = 5; p->c = 300; g.a.n = s.next->a.n + p->c; s.next->last = 2;
-- if (!g.next) putchar(*q); struct in b = s.next->a; struct out t = *s.next; p->c = 7; return g.a.n + t.last + b.c; }
abbrev struct_forms : Program
struct_forms =
    tree.StructItem (record {
      at = 0;
      tag = named "in";
      regions = [];
      members = member (typed tree.Char []) (named "c") ∷ member (typed tree.Int []) (named "n") ∷ [];
    }) ∷
    tree.StructItem (record {
      at = 0;
      tag = named "out";
      regions = [];
      members = member (struct_of (named "in")) (named "a") ∷ member (typed (tree.Struct (named "out") []) nullable) (named "next") ∷
          member (typed tree.Char []) (named "last") ∷ [];
    }) ∷
    tree.GlobalItem (record { of = struct_of (named "out"); name = (named "g"); initial = Initial.Unset }) ∷
    tree.FunctionItem (function (typed tree.Int []) (named "main") [] (
    (tree.Local (struct_of (named "out")) (named "s") Initializer.Unset) ▹
    (tree.Local (typed (tree.Struct (named "in") []) nullable) (named "p") (Initializer.Value (address_of (dot (variable "s") (named "a"))))) ▹
    (tree.Local (typed tree.Int nullable) (named "q") (Initializer.Value (address_of (arrow (variable "p") (named "n"))))) ▹
    (Statement.Run (Expression.Assign (dot (variable "s") (named "next")) (address_of (variable "s")))) ▸
    (Statement.Run (Expression.Assign (Expression.Suffixed (variable "s") (Dot (named "a") (Dot (named "n") NoSuffixes))) (number 5))) ▸
    (Statement.Run (Expression.Assign (arrow (variable "p") (named "c")) (number 300))) ▸
    (Statement.Run (Expression.Assign (Expression.Suffixed (variable "g") (Dot (named "a") (Dot (named "n") NoSuffixes)))
    (Expression.Chain (Expression.Suffixed (variable "s") (Dot (named "next") (Arrow (named "a") (Dot (named "n") NoSuffixes))))
    (MoreLinks Add (arrow (variable "p") (named "c")) NoLinks)))) ▸
    (Statement.Run (Expression.Assign (Expression.Suffixed (variable "s") (Dot (named "next") (Arrow (named "last") NoSuffixes))) (number 2))) ▸
    (Statement.If 0 (Expression.Prefixed 0 Not (dot (variable "g") (named "next")))
    (Statement.Run (Expression.Call (named "putchar") (MoreExpressions (contents_of (variable "q")) NoExpressions)))) ▸
    (tree.Local (struct_of (named "in")) (named "b")
    (Initializer.Value (Expression.Suffixed (variable "s") (Dot (named "next") (Arrow (named "a") NoSuffixes))))) ▹
    (tree.Local (struct_of (named "out")) (named "t") (Initializer.Value (contents_of (dot (variable "s") (named "next"))))) ▹
    (Statement.Run (Expression.Assign (arrow (variable "p") (named "c")) (number 7))) ▸
    (Statement.Return 0 (Some (Expression.Chain (Expression.Suffixed (variable "g") (Dot (named "a") (Dot (named "n") NoSuffixes)))
    (MoreLinks Add (dot (variable "t") (named "last")) (MoreLinks Add (dot (variable "b") (named "c")) NoLinks))))) ▸
    NoItems)) ∷ []

struct_forms_run : core (program_code struct_forms) [] 20 ≡ record {
  events = Called 0 ∷ Visible (ByteWritten 5) ∷ Returned 0 ∷ [];
  ending = SourceEnding.Ended 95;
}
struct_forms_run = refl

struct_forms_taken : IsLowerable struct_forms
struct_forms_taken = record {
  items = (
    tt,
    (
      tt,
      (
        (record { base = tt; known = refl }, tt),
        (
          record {
            result = GivesWord (record { base = tt; word = tt });
            main = λ e. record { pointers = refl; base = refl };
            parameters = tt;
            body = (
              (record { base = tt; known = refl }, tt),
              (
                (record { base = tt; known = tt }, (tt, (refl, tt))),
                (
                  (record { base = tt; known = tt }, (tt, (tt, tt))),
                  (
                    ((tt, (tt, tt)), (tt, tt)),
                    (
                      ((tt, (refl, (tt, tt))), (tt, tt)),
                      (
                        ((tt, (tt, tt)), (tt, tt)),
                        (
                          (
                            (tt, (refl, (tt, tt))),
                            ((((tt, (tt, (tt, (refl, (tt, tt))))), tt), (((tt, (tt, tt)), tt), tt)), tt),
                          ),
                          (
                            ((tt, (tt, (tt, (tt, tt)))), (tt, tt)),
                            (
                              (((tt, (tt, tt)), tt), (refl, ((tt, tt), tt))),
                              (
                                (record { base = tt; known = refl }, ((tt, (tt, (tt, (refl, tt)))), refl)),
                                (
                                  (record { base = tt; known = refl }, (((tt, (tt, tt)), tt), refl)),
                                  (
                                    ((tt, (tt, tt)), (tt, tt)),
                                    ((((tt, (refl, (tt, tt))), tt), (((tt, (tt, tt)), tt), (((tt, (tt, tt)), tt), tt))), tt),
                                  ),
                                ),
                              ),
                            ),
                          ),
                        ),
                      ),
                    ),
                  ),
                ),
              ),
            );
          },
          tt,
        ),
      ),
    ),
  );
  unions = tt;
  structs = (
    record { new = refl; some = tt; members = (refl, (tt, (tt, tt))); small = omega arith },
    (record { new = refl; some = tt; members = (tt, (tt, tt)); small = omega arith }, tt),
  );
  strings = tt;
}
