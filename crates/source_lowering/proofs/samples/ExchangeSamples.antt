-- A program whose unions are exchanged, and one of them with itself: it is taken, its code is written out by the rules, and Core's run of it gives what the
-- source's does.
use Rattle.std.proofs.Common.{◌≡◌, ℕ, ◌*◌, Some, [], ◌∷◌, refl, arith}
use Rattle.std.specs.Prelude.{codes}
use Rattle.cyc_tree.specs.Tree as tree
use Rattle.cyc_tree.specs.Tree.{Case, Default, Expression, MoreClauses, NoClauses, NoItems, Program, Statement}
use Rattle.cyc_words.specs.Events as events
use Rattle.cyc_words.specs.Events.{SourceEnding}
use Rattle.source_meaning.specs.Programs.{source, world_of}
use Rattle.source_meaning.specs.Shapes.{UnionShape}
use Rattle.source_meaning.proofs.Trees.{function, gives, named, number, typed, variable, ◌▸◌, ◌▹◌}
use Rattle.core_meaning.specs.Core.{Distance, Do, Load, Store}
use Rattle.core_meaning.specs.Steps.{Called, Returned}
use Rattle.core_meaning.specs.Meaning.{core}
use Rattle.source_lowering.specs.Lowerable.{GivesWord, IsLowerable}
use Rattle.source_lowering.specs.Programs.{ByPlace, exchange_code, program_code}
use Rattle.source_lowering.proofs.samples.Samples.{member}
use Rattle.source_lowering.proofs.samples.MadeSamples.{declared, plus}

-- union u { int n; char c; };
-- int main() { union u x = u.n(40); union u y = u.c(7); x :=: y; x :=: x;
-- switch (y) { case {.n = a}: switch (x) { case {.c = b}: return a + b; default: return 1; } default: return 2; } }
abbrev of_union : tree.TypeName
of_union = typed (tree.Union (named "u") []) []

abbrev the_union : tree.Structure
the_union = record {
  at = 0;
  tag = named "u";
  regions = [];
  members = member (typed tree.Int []) (named "n") ∷ member (typed tree.Char []) (named "c") ∷ [];
}

abbrev giving : Expression → tree.BlockItems
giving e = (Statement.Return 0 (Some e)) ▸ NoItems

abbrev exchanges : Program
exchanges =
    tree.UnionItem the_union ∷ tree.FunctionItem (function (typed tree.Int []) (named "main") [] (
    declared of_union (named "x") (Expression.MakeUnion (named "u") (named "n") (number 40)) ▹
    declared of_union (named "y") (Expression.MakeUnion (named "u") (named "c") (number 7)) ▹
    (Statement.Exchange (variable "x") (variable "y")) ▸
    (Statement.Exchange (variable "x") (variable "x")) ▸
    (Statement.Switch 0 (variable "y")
    (MoreClauses 0 (Case (named "n") (named "a")) (
    (Statement.Switch 0 (variable "x")
    (MoreClauses 0 (Case (named "c") (named "b")) (giving (plus (variable "a") (variable "b"))) (MoreClauses 0 Default (giving (number 1)) NoClauses))) ▸
    NoItems)
    (MoreClauses 0 Default (giving (number 2)) NoClauses))) ▸
    NoItems)) ∷ []

-- the code behind two pointers
abbrev part : ℕ → Distance
part k = record { cells = 0; bytes = 4 * k; part = k; width = 4 }

two_words : exchange_code (world_of exchanges) ByPlace ByPlace (UnionShape (codes "u")) 0 ≡
    Do (Load 2 0 (part 0)) ∷ Do (Load 3 0 (part 1)) ∷ Do (Load 4 1 (part 0)) ∷ Do (Load 5 1 (part 1)) ∷
    Do (Store 0 (part 0) 4) ∷ Do (Store 0 (part 1) 5) ∷ Do (Store 1 (part 0) 2) ∷ Do (Store 1 (part 1) 3) ∷ []
two_words = refl

exchanges_mean : source exchanges [] 20 ≡ gives (events.Called (codes "main") ∷ events.Returned (codes "main") ∷ []) (SourceEnding.Ended 47)
exchanges_mean = refl

exchanges_run : core (program_code exchanges) [] 20 ≡ record { events = Called 0 ∷ Returned 0 ∷ []; ending = SourceEnding.Ended 47 }
exchanges_run = refl

exchanges_taken : IsLowerable exchanges
exchanges_taken = record {
  items = (
    tt,
    (
      record {
        result = GivesWord (record { base = tt; word = tt });
        main = λ e. record { pointers = refl; base = refl };
        parameters = tt;
        body = (
          (record { base = tt; known = refl }, (refl, (record { number = 0; is = refl }, tt))),
          (
            (record { base = tt; known = refl }, (refl, (record { number = 1; is = refl }, tt))),
            (
              (tt, (tt, refl)),
              (
                (tt, (tt, refl)),
                (
                  (
                    tt,
                    (
                      refl,
                      (
                        record { number = 0; is = refl },
                        (
                          (
                            (
                              tt,
                              (
                                refl,
                                (record { number = 1; is = refl }, (((tt, (tt, tt)), tt), ((tt, tt), tt))),
                              ),
                            ),
                            tt,
                          ),
                          ((tt, tt), tt),
                        ),
                      ),
                    ),
                  ),
                  tt,
                ),
              ),
            ),
          ),
        );
      },
      tt,
    ),
  );
  unions = (record { some = tt; members = (tt, (tt, tt)); few = omega arith }, tt);
  structs = tt;
  strings = tt;
}
