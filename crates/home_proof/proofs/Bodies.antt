-- In the functions of a program that is accepted no `switch` has more than one `default`, and no call more arguments than its function has parameters.
use Rattle.std.specs.Prelude.{nat_le, nat_eq, slice_get, ◌&&◌}
use Rattle.std.proofs.Common.{◌≡◌, ◌≤◌, ℕ, zero, suc, Bool, true, false, Some, None, List, [], ◌∷◌, map, sym, subst}
use Rattle.std.proofs.lemmas.Bool.{and_parts, leb-true}
use Rattle.std.proofs.lemmas.Option.{same_Some, none-some}
use Rattle.cyc_tree.specs.Tree as tree
use Rattle.cyc_tree.specs.Tree.{Statement, BlockItems, NoItems, Declare, Execute, Clauses, NoClauses, MoreClauses, Item, Program}
use Rattle.source_meaning.specs.Programs.{functions_of, world_of}
use Rattle.source_meaning.specs.Shapes.{part_of}
use Rattle.source_meaning.specs.Steps.{Routine, World}
use Rattle.source_typing.specs.Declarations.{declare}
use Rattle.source_typing.specs.Functions.{function_scope, head_of}
use Rattle.source_typing.specs.Programs.{Judged, builtins, entries, judged_tags, tables_of}
use Rattle.source_typing.specs.Scope.{Env, block_entered}
use Rattle.source_typing.specs.Statements.{Chosen, all_named, clause_scope, clauses_fit, defaults, in_a_loop, in_a_switch, parts_of_chosen}
use Rattle.source_typing.specs.Tables.{Tables}
use Rattle.source_typing.specs.Ways.{ways_of}
use Rattle.type_proof.specs.Judged.{ClausesJudged, ItemsJudged, StatementJudged, on_union}
use Rattle.type_proof.specs.Programs.{with_all}
use Rattle.type_proof.proofs.statements.Parameters.{with_all_tables}
use Rattle.accepted_programs.specs.Accepted.{IsAccepted}
use Rattle.accepted_proof.specs.Good.{BodiesJudged}
use Rattle.accepted_proof.proofs.Found.{AllKnown}
use Rattle.accepted_proof.proofs.good.Bodies.{bodies_judged}
use Rattle.accepted_proof.proofs.good.Expressions.{expressions_judged}
use Rattle.accepted_proof.proofs.Programs as programs
use Rattle.home_proof.specs.Arguments.{HaveArguments}
use Rattle.home_proof.specs.Defaults.{HasOneDefault, HaveOneDefault, ClausesHaveOneDefault}
use Rattle.home_proof.proofs.Arguments.{CallsFit, calls_fit, items_enough}

-- clauses that fit have one at most
few_defaults : (g : Env) (c : Chosen) (cs : Clauses) → clauses_fit g c cs ≡ true → defaults cs ≤ 1
few_defaults g c cs e =
    leb-true (defaults cs) 1 (and_parts (nat_le (defaults cs) 1) (all_named (parts_of_chosen g (Some c)) cs (nat_eq (defaults cs) 1)) e).0

mutual
  statement_one : (g : Env) (reached : Bool) (s : Statement) → StatementJudged g reached s → HasOneDefault s
  statement_one g reached (Statement.Empty at) h = tt
  statement_one g reached (Statement.Block at items) h = items_one (block_entered g) reached items h
  statement_one g reached (Statement.Run e) h = tt
  statement_one g reached (Statement.Exchange left right) h = tt
  statement_one g reached (Statement.If at condition body) h = statement_one g reached body h.1
  statement_one g reached (Statement.IfElse at condition body otherwise) h =
      (statement_one g reached body h.1.0, statement_one g reached otherwise h.1.1)
  statement_one g reached (Statement.While at condition body) h = statement_one (in_a_loop g) reached body h.1
  statement_one g reached (Statement.Switch at place clauses) h =
      (few_defaults g (on_union h.0) clauses h.0.fit, clauses_one (in_a_switch g) reached (on_union h.0) clauses h.1)
  statement_one g reached (Statement.Break at) h = tt
  statement_one g reached (Statement.Continue at) h = tt
  statement_one g reached (Statement.Return at value) h = tt
  statement_one g reached (Statement.FreeUnique at pointer) h = tt
  statement_one g reached (Statement.FreeKey at key) h = tt

  items_one : (g : Env) (reached : Bool) (items : BlockItems) → ItemsJudged g reached items → HaveOneDefault items
  items_one g reached NoItems h = tt
  items_one g reached (Declare d others) h = items_one (declare g d).scope reached others h.1
  items_one g reached (Execute s others) h = (statement_one g reached s h.0, items_one g (reached && (ways_of s).falls) others h.1)

  clauses_one : (g : Env) (reached : Bool) (c : Chosen) (cs : Clauses) → ClausesJudged g reached c cs → ClausesHaveOneDefault cs
  clauses_one g reached c NoClauses h = tt
  clauses_one g reached c (MoreClauses at pattern body others) h =
      (items_one (clause_scope g (Some c) pattern) reached body h.2, clauses_one g reached c others h.3)

-- ---- programs

-- of each function: no `switch` has more than one `default`, and each call has a parameter for each argument
abbrev AllFit : World → List Routine → Type 0
AllFit w [] = Unit {0}
AllFit w (f ∷ fs) = (HaveOneDefault f.body × HaveArguments w f.body) × AllFit w fs

all_fit : (w : World) (g h : Tables) (i : ℕ) (js : List Judged) (is : List Item) → CallsFit w g → AllKnown g h i js is → AllFit w (functions_of is)
all_fit w g h i [] [] fit k = tt
all_fit w g h i [] (x ∷ is) fit k = absurd k
all_fit w g h i (j ∷ js) [] fit k = tt
all_fit w g h i (j ∷ js) (tree.StructItem s ∷ is) fit k = all_fit w g h (suc i) js is fit k.1
all_fit w g h i (j ∷ js) (tree.UnionItem u ∷ is) fit k = all_fit w g h (suc i) js is fit k.1
all_fit w g h i (j ∷ js) (tree.GlobalItem x ∷ is) fit k = all_fit w g h (suc i) js is fit k.1
all_fit w g h i (j ∷ js) (tree.FunctionItem f ∷ is) fit k =
    let good = k.0.good in
    let ps = map part_of f.parameters in
    let outside : Env = function_scope false g i (head_of false g f) in
    let same = with_all_tables ps good.head.signature.types outside in (
      (
        items_one _ true f.body good.body,
        items_enough w f.body (with_all ps good.head.signature.types outside) true (subst (CallsFit w) (sym same) fit) good.body,
      ),
      all_fit w g h (suc i) js is fit k.1,
    )

at_number : (w : World) (fs : List Routine) (number : ℕ) (f : Routine) → AllFit w fs → slice_get fs number ≡ Some f
    → HaveOneDefault f.body × HaveArguments w f.body
at_number w [] number f h e = absurd (none-some f e)
at_number w (r ∷ rs) zero f h e = subst (λ (x : Routine). HaveOneDefault x.body × HaveArguments w x.body) (same_Some r f e) h.0
at_number w (r ∷ rs) (suc number) f h e = at_number w rs number f h.1 e

bodies : BodiesJudged
bodies = bodies_judged expressions_judged

pub bodies_fit : (p : Program) → IsAccepted p → (number : ℕ) (f : Routine) → slice_get (world_of p).functions number ≡ Some f
    → HaveOneDefault f.body × HaveArguments (world_of p) f.body
bodies_fit p accepted number f e =
    at_number (world_of p) (world_of p).functions number f
    (all_fit (world_of p) (tables_of false p) (builtins (entries (judged_tags p))) 0 (judged_tags p) p
    (calls_fit p (programs.judged bodies p accepted)) (programs.known bodies p accepted)) e
