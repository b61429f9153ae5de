-- A program with a `switch` in a loop: it is taken, its code is written out by the rules, and Core's run of it gives what the source's does.
use Rattle.std.proofs.Common.{◌≡◌, ℕ, ◌*◌, Some, List, [], ◌∷◌, ◌++◌, refl, arith}
use Rattle.std.specs.Prelude.{codes}
use Rattle.cyc_tree.specs.Tree as tree
use Rattle.cyc_tree.specs.Tree.{Case, Clauses, Default, Expression, MoreClauses, NoClauses, NoItems, Program, Statement}
use Rattle.cyc_words.specs.declared.faults.Kind.TheVariants.{ArrayBounds, NullException}
use Rattle.cyc_words.specs.Events as events
use Rattle.cyc_words.specs.Events.{RegionAlloc, RegionFree, RegionNew, SourceEnding}
use Rattle.source_meaning.specs.Programs.{routine_of, source, world_of}
use Rattle.source_meaning.specs.Steps.{World}
use Rattle.source_meaning.proofs.Trees.{function, gives, named, number, typed, variable, ◌▸◌, ◌▹◌}
use Rattle.core_meaning.specs.Memory.{Blank, Content, Layout, Null, PartShape, Word}
use Rattle.core_meaning.specs.Core as code
use Rattle.core_meaning.specs.Core.{Apply, Block, Break, Constant, Continue, Copy, Distance, Do, Get, Leave, Load, LocalAddress, OwnAddress, Put, Return, Store}
use Rattle.core_meaning.specs.Core.{Element, Equal, HeapHandle, If, LessUnsigned, Narrow, NoStatements, Raise, While}
use Rattle.core_meaning.specs.Steps.{Called, Returned, Visible}
use Rattle.core_meaning.specs.Meaning.{core}
use Rattle.source_lowering.specs.Bounds.{items_left}
use Rattle.source_lowering.specs.Lowered.{all_of}
use Rattle.source_lowering.specs.Lowerable.{GivesWord, IsLowerable}
use Rattle.source_lowering.specs.Programs.{function_code, no_regions, program_code}
use Rattle.source_lowering.proofs.samples.Samples.{member}
use Rattle.source_lowering.proofs.samples.MadeSamples.{array, at_index, declared, fat, plus, word_layout}

-- union u { int n; char c; unsigned ?s; };
-- int main() { union u x = u.n(1); int r = 0; while (1) { region<..> g; switch (x) {
-- case {.c = b}: region<..> k; x = u.s(new {for i < 2 : b + i}); break; default: region<..> l; x = u.c(7); continue; case {.s = p}: return p[1] + r; }
-- r = r + 1; } }
abbrev of_union : tree.TypeName
of_union = typed (tree.Union (named "u") []) []

abbrev the_union : tree.Structure
the_union = record {
  at = 0;
  tag = named "u";
  regions = [];
  members = member (typed tree.Int []) (named "n") ∷ member (typed tree.Char []) (named "c") ∷ member (typed tree.Unsigned fat) (named "s") ∷ [];
}

abbrev assigned : Expression → Statement
assigned e = Statement.Run (Expression.Assign (variable "x") e)

abbrev clauses : Clauses
clauses =
    MoreClauses 0 (Case (named "c") (named "b")) (
    (tree.Region 0 (tree.Heap 0) (named "k")) ▹
    assigned (Expression.MakeUnion (named "u") (named "s") (array (named "i") (number 2) (plus (variable "b") (variable "i")))) ▸
    (Statement.Break 0) ▸
    NoItems)
    (MoreClauses 0 Default (
    (tree.Region 0 (tree.Heap 0) (named "l")) ▹
    assigned (Expression.MakeUnion (named "u") (named "c") (number 7)) ▸
    (Statement.Continue 0) ▸
    NoItems)
    (MoreClauses 0 (Case (named "s") (named "p")) (
    (Statement.Return 0 (Some (plus (at_index (variable "p") (number 1)) (variable "r")))) ▸
    NoItems)
    NoClauses))

abbrev main_function : tree.Function
main_function =
    function (typed tree.Int []) (named "main") [] (
    declared of_union (named "x") (Expression.MakeUnion (named "u") (named "n") (number 1)) ▹
    declared (typed tree.Int []) (named "r") (number 0) ▹
    (Statement.While 0 (number 1) (Statement.Block 0 (
    (tree.Region 0 (tree.Heap 0) (named "g")) ▹
    (Statement.Switch 0 (variable "x") clauses) ▸
    (Statement.Run (Expression.Assign (variable "r") (plus (variable "r") (number 1)))) ▸
    NoItems))) ▸
    NoItems)

abbrev switch_forms : Program
switch_forms = tree.UnionItem the_union ∷ tree.FunctionItem main_function ∷ []

abbrev w : World
w = world_of switch_forms

-- ---- its code

-- a part of a union, or of a fat pointer, and an element
abbrev part : ℕ → Distance
part k = record { cells = 0; bytes = 4 * k; part = k; width = 4 }

abbrev one_part : (width : ℕ) → Content → code.Local
one_part width x = record { layout = record { cells = (record { offset = 0; width = width; first = x } ∷ []) ∷ []; bytes = width }; count = 1 }

abbrev blank_at : ℕ → PartShape
blank_at offset = record { offset = offset; width = 4; first = Blank }

-- the tag, and three words for the fat pointer
abbrev union_layout : Layout
union_layout = record { cells = (blank_at 0 ∷ blank_at 4 ∷ blank_at 8 ∷ blank_at 12 ∷ []) ∷ []; bytes = 16 }

abbrev fat_layout : Layout
fat_layout = record {
  cells = (
      (record { offset = 0; width = 4; first = Null }) ∷ (record { offset = 4; width = 4; first = Word 0 }) ∷
      (record { offset = 8; width = 4; first = Word 0 }) ∷ []
      ) ∷ [];
  bytes = 12;
}

abbrev handle : code.Local
handle = one_part 4 Blank

-- the tag is compared with a member's number
abbrev case_code : ℕ → List code.Statement → List code.Statement
case_code number block = Do (Constant 3 number) ∷ Do (Apply Equal 3 2 3) ∷ If 3 (all_of block) NoStatements ∷ []

-- the char is loaded from behind the tag to the first local; the array of `new` becomes the third member, and its parts come behind the tag
abbrev char_block : code.Statement
char_block = Block (one_part 1 (Word 0) ∷ handle ∷ []) (all_of (
    Do (Load 1 1 (part 1)) ∷ Do (Put 0 0 1 1) ∷ Do (code.RegionNew 1) ∷ Do (Put 0 1 4 1) ∷
    Do (OwnAddress 2 1) ∷ Do (HeapHandle 3) ∷ Do (Constant 4 2) ∷ Do (code.RegionAlloc 3 3 4 word_layout) ∷
    Block (one_part 4 (Word 0) ∷ []) (all_of (Do (Constant 5 0) ∷ Do (Put 0 0 4 5) ∷ While (all_of (Do (Apply LessUnsigned 6 5 4) ∷ [])) 6 (all_of (
    Do (Put 0 0 4 5) ∷ Do (Get 6 1 0 1) ∷ Do (Get 7 0 0 4) ∷ Do (Apply code.Add 6 6 7) ∷ Do (Element 7 3 5 1 4) ∷ Do (Store 7 (part 0) 6) ∷
    Do (Constant 6 1) ∷ Do (Apply code.Add 5 5 6) ∷ [])) ∷ [])) ∷
    Do (Constant 5 0) ∷ Do (Constant 6 2) ∷ Do (Store 2 (part 0) 6) ∷
    Do (Store 2 (part 1) 3) ∷ Do (Store 2 (part 2) 4) ∷ Do (Store 2 (part 3) 5) ∷
    Do (LocalAddress 3 2 0) ∷ Do (Copy 3 2 union_layout) ∷ Do (code.RegionFree 1) ∷ Break ∷ Do (code.RegionFree 1) ∷ []))

-- the fat pointer is loaded to the first local
abbrev fat_block : code.Statement
fat_block = Block ((record { layout = fat_layout; count = 1 }) ∷ []) (all_of (
    Do (Load 3 1 (part 3)) ∷ Do (Load 2 1 (part 2)) ∷ Do (Load 1 1 (part 1)) ∷
    Do (LocalAddress 4 0 0) ∷ Do (Store 4 (part 0) 1) ∷ Do (Store 4 (part 1) 2) ∷ Do (Store 4 (part 2) 3) ∷
    Do (Constant 1 1) ∷ Do (LocalAddress 2 0 0) ∷ Do (Load 4 2 (part 2)) ∷ Do (Load 3 2 (part 1)) ∷ Do (Load 2 2 (part 0)) ∷
    Do (Apply code.Add 4 4 1) ∷ Do (Apply LessUnsigned 3 4 3) ∷
    If 3 NoStatements (all_of (If 2 (all_of (Raise ArrayBounds ∷ [])) (all_of (Raise NullException ∷ [])) ∷ [])) ∷ Do (Element 1 2 4 1 4) ∷
    Do (Load 1 1 (part 0)) ∷ Do (Get 2 2 1 4) ∷ Do (Apply code.Add 1 1 2) ∷ Do (code.RegionFree 0) ∷ Return (1 ∷ []) ∷ []))

-- `continue` frees the region of the clause, and the one around the `switch`
abbrev default_block : code.Statement
default_block = Block (handle ∷ []) (all_of (
    Do (code.RegionNew 1) ∷ Do (Put 0 0 4 1) ∷
    Do (OwnAddress 2 2) ∷ Do (Constant 3 7) ∷ Do (Narrow 3 3) ∷ Do (Constant 4 1) ∷ Do (Store 2 (part 0) 4) ∷ Do (Store 2 (part 1) 3) ∷
    Do (LocalAddress 3 2 0) ∷ Do (Copy 3 2 union_layout) ∷ Do (code.RegionFree 1) ∷ Do (code.RegionFree 0) ∷ Continue ∷ Do (code.RegionFree 1) ∷ []))

-- The first handle stays in the temporary 0, the pointer to the union in 1, and its tag in 2. The block of the `default` is behind those of the members.
main_code : (function_code w (routine_of main_function)).body ≡ all_of (
    Block ((record { layout = union_layout; count = 1 }) ∷ one_part 4 (Word 0) ∷ []) (all_of (
    Do (OwnAddress 0 0) ∷ Do (Constant 1 1) ∷ Do (Constant 2 0) ∷ Do (Store 0 (part 0) 2) ∷ Do (Store 0 (part 1) 1) ∷
    Do (LocalAddress 1 0 0) ∷ Do (Copy 1 0 union_layout) ∷ Do (Constant 0 0) ∷ Do (Put 0 1 4 0) ∷
    While (all_of (Do (Constant 0 1) ∷ [])) 0 (all_of (
    Block (handle ∷ []) (all_of (
    Do (code.RegionNew 0) ∷ Do (Put 0 0 4 0) ∷
    Leave (all_of ((Do (LocalAddress 1 1 0) ∷ Do (Load 2 1 (part 0)) ∷ []) ++
    (case_code 1 (char_block ∷ Break ∷ []) ++ (case_code 2 (fat_block ∷ Break ∷ []) ++ (default_block ∷ []))))) ∷
    Do (Get 1 1 1 4) ∷ Do (Constant 2 1) ∷ Do (Apply code.Add 1 1 2) ∷ Do (Put 1 1 4 1) ∷ Do (code.RegionFree 0) ∷ [])) ∷ [])) ∷ [])) ∷
    Do (Constant 0 0) ∷ Return (0 ∷ []) ∷ [])
main_code = refl

-- `break` in its clause leaves one region, `continue` in its own two, and `return` one. Were those around the `switch` counted too where a clause begins, the
-- `break` would free the region 3 with the region 4, and the end of its block once more, at which Core is stuck.
main_leaves : items_left no_regions (routine_of main_function).body ≡ 4
main_leaves = refl

switch_mean : source switch_forms [] 20 ≡
    gives (events.Called (codes "main") ∷ events.Visible (RegionNew 1) ∷ events.Visible (RegionNew 2) ∷ events.Visible (RegionFree 2) ∷
    events.Visible (RegionFree 1) ∷ events.Visible (RegionNew 3) ∷ events.Visible (RegionNew 4) ∷ events.Visible (RegionAlloc 0 8) ∷
    events.Visible (RegionFree 4) ∷ events.Visible (RegionFree 3) ∷ events.Visible (RegionNew 5) ∷ events.Visible (RegionFree 5) ∷
    events.Returned (codes "main") ∷ []) (SourceEnding.Ended 9)
switch_mean = refl

switch_run : core (program_code switch_forms) [] 20 ≡ record {
  events = Called 0 ∷ Visible (RegionNew 1) ∷ Visible (RegionNew 2) ∷ Visible (RegionFree 2) ∷ Visible (RegionFree 1) ∷ Visible (RegionNew 3) ∷
      Visible (RegionNew 4) ∷ Visible (RegionAlloc 0 8) ∷ Visible (RegionFree 4) ∷ Visible (RegionFree 3) ∷ Visible (RegionNew 5) ∷
      Visible (RegionFree 5) ∷ Returned 0 ∷ [];
  ending = SourceEnding.Ended 9;
}
switch_run = refl

switch_forms_taken : IsLowerable switch_forms
switch_forms_taken = record {
  items = (
    tt,
    (
      record {
        result = GivesWord (record { base = tt; word = tt });
        main = λ e. record { pointers = refl; base = refl };
        parameters = tt;
        body = (
          (record { base = tt; known = refl }, (refl, (record { number = 0; is = refl }, tt))),
          (
            (record { base = tt; known = tt }, tt),
            (
              (
                tt,
                (
                  tt,
                  (
                    (
                      tt,
                      (
                        refl,
                        (
                          record { number = 1; is = refl },
                          (
                            (
                              tt,
                              (
                                (tt, ((refl, (record { number = 2; is = refl }, (tt, (tt, (tt, (tt, tt)))))), refl)),
                                (tt, tt),
                              ),
                            ),
                            (
                              (tt, ((tt, ((refl, (record { number = 1; is = refl }, tt)), refl)), (tt, tt))),
                              (record { number = 2; is = refl }, (((((tt, (tt, (tt, tt))), tt), (tt, tt)), tt), tt)),
                            ),
                          ),
                        ),
                      ),
                    ),
                    ((tt, ((tt, (tt, tt)), tt)), tt),
                  ),
                ),
              ),
              tt,
            ),
          ),
        );
      },
      tt,
    ),
  );
  unions = (record { some = tt; members = (tt, (tt, (tt, tt))); few = omega arith }, tt);
  structs = tt;
  strings = tt;
}
