-- A program that makes arrays: it is taken, its code is written out by the rules, and Core's run of it gives what the source's does.
use Rattle.std.proofs.Common.{◌≡◌, None, Some, List, [], ◌∷◌, refl, arith}
use Rattle.std.specs.Prelude.{codes}
use Rattle.cyc_tree.specs.declared.expression.Operator.TheVariants.{Add, Multiply}
use Rattle.cyc_tree.specs.declared.name.Sign.TheVariants.{Fat}
use Rattle.cyc_tree.specs.Tree as tree
use Rattle.cyc_tree.specs.Tree.{Array, Expression, Initializer, Made, MoreExpressions, MoreLinks, NoExpressions, NoItems, NoLinks, NoSuffixes, Index, Dot}
use Rattle.cyc_tree.specs.Tree.{Name, Program, Statement, TypeName}
use Rattle.cyc_words.specs.Events as events
use Rattle.cyc_words.specs.Events.{RegionAlloc, RegionFree, RegionNew, SourceEnding}
use Rattle.source_meaning.specs.Programs.{source, world_of}
use Rattle.source_meaning.specs.Steps.{World}
use Rattle.source_meaning.proofs.Trees.{function, gives, named, number, pointer, typed, variable, ◌▸◌, ◌▹◌}
use Rattle.core_meaning.specs.Memory.{Layout, Word}
use Rattle.core_meaning.specs.Core as code
use Rattle.core_meaning.specs.Core.{Apply, Block, Constant, Distance, Do, Element, Get, HeapHandle, LessUnsigned, Local, Put, Store, While}
use Rattle.core_meaning.specs.Steps.{Called, Returned, Visible}
use Rattle.core_meaning.specs.Meaning.{core}
use Rattle.source_lowering.specs.Lowered.{all_of, expression_code}
use Rattle.source_lowering.specs.Lowerable.{GivesWord, IsLowerable}
use Rattle.source_lowering.specs.Programs.{program_code}
use Rattle.source_lowering.proofs.samples.Samples.{member}

abbrev pub fat : List tree.Pointer
fat = pointer Fat None ∷ []

-- e * f, and e + f
abbrev times : Expression → Expression → Expression
times e f = Expression.Chain e (MoreLinks Multiply f NoLinks)

abbrev pub plus : Expression → Expression → Expression
plus e f = Expression.Chain e (MoreLinks Add f NoLinks)

abbrev pub at_index : Expression → Expression → Expression
at_index e i = Expression.Suffixed e (Index i NoSuffixes)

-- new {for i < n : e}
abbrev pub array : Name → Expression → Expression → Expression
array i n e = Expression.New 0 (Array i n e)

abbrev pub declared : TypeName → Name → Expression → tree.Declaration
declared of name e = tree.Local of name (Initializer.Value e)

-- struct pair { int a; int b; };
-- int main() { region<..> h; unsigned ?s = rnew(h) {for i < 3 : i * i}; struct pair ?t = new {for j < 2 : pair(j, s[j + 1])};
-- unsigned ??q = new {for i < 2 : new {for k < i : k + i * 5}}; int ?z = new {for i < 0 : 1};
-- return s[2] + t[1].b * 10 + q[1][0] * 100 + numelts(z) * 1000; }
abbrev made_forms : Program
made_forms =
    tree.StructItem (record {
      at = 0;
      tag = named "pair";
      regions = [];
      members = member (typed tree.Int []) (named "a") ∷ member (typed tree.Int []) (named "b") ∷ [];
    }) ∷
    tree.FunctionItem (function (typed tree.Int []) (named "main") [] (
    (tree.Region 0 (tree.Heap 0) (named "h")) ▹
    declared (typed tree.Unsigned fat) (named "s") (Expression.NewIn 0 (variable "h") (Array (named "i") (number 3) (times (variable "i") (variable "i")))) ▹
    declared (typed (tree.Struct (named "pair") []) fat) (named "t") (array (named "j") (number 2) (Expression.Call (named "pair")
    (MoreExpressions (variable "j") (MoreExpressions (at_index (variable "s") (plus (variable "j") (number 1))) NoExpressions)))) ▹
    declared (typed tree.Unsigned (pointer Fat None ∷ pointer Fat None ∷ [])) (named "q")
    (array (named "i") (number 2) (array (named "k") (variable "i") (plus (variable "k") (times (variable "i") (number 5))))) ▹
    declared (typed tree.Int fat) (named "z") (array (named "i") (number 0) (number 1)) ▹
    (Statement.Return 0 (Some (plus (at_index (variable "s") (number 2))
    (plus (times (Expression.Suffixed (variable "t") (Index (number 1) (Dot (named "b") NoSuffixes))) (number 10))
    (plus (times (Expression.Suffixed (variable "q") (Index (number 1) (Index (number 0) NoSuffixes))) (number 100))
    (times (Expression.NumElts 0 (variable "z")) (number 1000))))))) ▸
    NoItems)) ∷ []

abbrev w : World
w = world_of made_forms

abbrev pub word_layout : Layout
word_layout = record { cells = (record { offset = 0; width = 4; first = Word 0 } ∷ []) ∷ []; bytes = 4 }

abbrev at_once : Distance
at_once = record { cells = 0; bytes = 0; part = 0; width = 4 }

abbrev index_local : Local
index_local = record { layout = word_layout; count = 1 }

-- The pointer, the count and the number are in the temporaries 0, 1 and 2, and behind the elements the pointer's index 0 is in the last of them. The element
-- reads the index as the one local of a block, which gets the number before.
array_code : expression_code w [] (array (named "i") (number 3) (variable "i")) 0 0 ≡
    Do (HeapHandle 0) ∷ Do (Constant 1 3) ∷ Do (code.RegionAlloc 0 0 1 word_layout) ∷
    Block (index_local ∷ []) (all_of (Do (Constant 2 0) ∷ Do (Put 0 0 4 2) ∷ While (all_of (Do (Apply LessUnsigned 3 2 1) ∷ [])) 3 (all_of (
    Do (Put 0 0 4 2) ∷ Do (Get 3 0 0 4) ∷ Do (Element 4 0 2 1 4) ∷ Do (Store 4 at_once 3) ∷ Do (Constant 3 1) ∷ Do (Apply code.Add 2 2 3) ∷ [])) ∷ [])) ∷
    Do (Constant 2 0) ∷ []
array_code = refl

made_mean : source made_forms [] 8 ≡
    gives (events.Called (codes "main") ∷ events.Visible (RegionNew 1) ∷ events.Visible (RegionAlloc 1 12) ∷ events.Visible (RegionAlloc 0 16) ∷
    events.Visible (RegionAlloc 0 24) ∷ events.Visible (RegionAlloc 0 0) ∷ events.Visible (RegionAlloc 0 4) ∷ events.Visible (RegionAlloc 0 0) ∷
    events.Visible (RegionFree 1) ∷ events.Returned (codes "main") ∷ []) (SourceEnding.Ended 544)
made_mean = refl

made_run : core (program_code made_forms) [] 8 ≡ record {
  events = Called 0 ∷ Visible (RegionNew 1) ∷ Visible (RegionAlloc 1 12) ∷ Visible (RegionAlloc 0 16) ∷ Visible (RegionAlloc 0 24) ∷
      Visible (RegionAlloc 0 0) ∷ Visible (RegionAlloc 0 4) ∷ Visible (RegionAlloc 0 0) ∷ Visible (RegionFree 1) ∷ Returned 0 ∷ [];
  ending = SourceEnding.Ended 544;
}
made_run = refl

-- an element takes a unit, before it is made
made_short : core (program_code made_forms) [] 7 ≡ record {
  events = Called 0 ∷ Visible (RegionNew 1) ∷ Visible (RegionAlloc 1 12) ∷ Visible (RegionAlloc 0 16) ∷ Visible (RegionAlloc 0 24) ∷
      Visible (RegionAlloc 0 0) ∷ Visible (RegionAlloc 0 4) ∷ [];
  ending = SourceEnding.Running;
}
made_short = refl

made_forms_taken : IsLowerable made_forms
made_forms_taken = record {
  items = (
    tt,
    (
      record {
        result = GivesWord (record { base = tt; word = tt });
        main = λ e. record { pointers = refl; base = refl };
        parameters = tt;
        body = (
          tt,
          (
            (record { base = tt; known = tt }, (tt, (tt, (tt, (tt, (tt, tt)))))),
            (
              (
                record { base = tt; known = tt },
                (tt, (refl, (refl, (tt, (((tt, ((tt, (tt, tt)), (tt, tt))), tt), tt))))),
              ),
              (
                (
                  record { base = tt; known = tt },
                  (tt, (tt, (tt, (tt, (tt, ((tt, (tt, tt)), tt)))))),
                ),
                (
                  (record { base = tt; known = tt }, (tt, (tt, tt))),
                  (
                    (
                      ((tt, (tt, (tt, tt))), tt),
                      (
                        (
                          (((tt, (tt, (refl, (tt, tt)))), tt), (tt, tt)),
                          (((((tt, (tt, (tt, (tt, (tt, (tt, tt)))))), tt), (tt, tt)), ((tt, (tt, tt)), tt)), tt),
                        ),
                        tt,
                      ),
                    ),
                    tt,
                  ),
                ),
              ),
            ),
          ),
        );
      },
      tt,
    ),
  );
  unions = tt;
  structs = (record { new = refl; some = tt; members = (tt, (tt, tt)); small = omega arith }, tt);
  strings = tt;
}
