-- A program that exchanges locals of one word, by name, with each other, with a global and with a member, and a global with a member, by pointers: its code is
-- written out by the rules, and Core's run of it gives what the source's does.
use Rattle.std.proofs.Common.{◌≡◌, false, Some, List, [], ◌∷◌, refl}
use Rattle.std.specs.Prelude.{codes}
use Prim.Native.String.{String}
use Rattle.cyc_tree.specs.declared.expression.Operator.TheVariants.{Add, Multiply}
use Rattle.cyc_tree.specs.Tree as tree
use Rattle.cyc_tree.specs.Tree.{Constant, Dot, Expression, Initial, Initializer, MoreExpressions, MoreLinks, NoExpressions, NoItems, NoLinks, NoSuffixes}
use Rattle.cyc_tree.specs.Tree.{Program, Statement}
use Rattle.cyc_words.specs.Events as events
use Rattle.cyc_words.specs.Events.{SourceEnding}
use Rattle.source_meaning.specs.Shapes.{CharShape, IntShape, StructShape}
use Rattle.source_meaning.specs.Programs.{source, world_of}
use Rattle.source_meaning.proofs.Trees.{function, gives, named, number, typed, variable, ◌▸◌, ◌▹◌}
use Rattle.core_meaning.specs.Core as code
use Rattle.core_meaning.specs.Core.{DataAddress, Distance, Do, Get, Load, LocalAddress, Move, Offset, Put, Store}
use Rattle.core_meaning.specs.Steps.{Called, Returned}
use Rattle.core_meaning.specs.Meaning.{core}
use Rattle.source_lowering.specs.Lowered.{Named}
use Rattle.source_lowering.specs.Programs.{named_here, no_regions, outward, program_code, statement_code}
use Rattle.source_lowering.proofs.samples.Samples.{member}
use Rattle.source_lowering.proofs.samples.MadeSamples.{declared}

abbrev word : tree.TypeName
word = typed tree.Int []

abbrev part : String → Expression
part f = Expression.Suffixed (variable "s") (Dot (named f) NoSuffixes)

-- e * 10 + f
abbrev then_digit : Expression → Expression → Expression
then_digit e f = Expression.Chain (Expression.Grouped 0 (Expression.Chain e (MoreLinks Multiply (number 10) NoLinks))) (MoreLinks Add f NoLinks)

-- struct pair { int a; int b; }; int g = 5;
-- int main() { int a = 1; int b = 2; struct pair s = pair(3, 4); a :=: b; a :=: g; s.a :=: b; g :=: s.b; a :=: (a);
-- return (((g * 10 + s.b) * 10 + s.a) * 10 + b) * 10 + a; }
abbrev sides : Program
sides =
    tree.StructItem (record { at = 0; tag = named "pair"; regions = []; members = member word (named "a") ∷ member word (named "b") ∷ [] }) ∷
    tree.GlobalItem (record { of = word; name = named "g"; initial = Initial.Given (Constant.Number 0 5 false) }) ∷
    tree.FunctionItem (function word (named "main") [] (
    declared word (named "a") (number 1) ▹
    declared word (named "b") (number 2) ▹
    declared (typed (tree.Struct (named "pair") []) []) (named "s")
    (Expression.Call (named "pair") (MoreExpressions (number 3) (MoreExpressions (number 4) NoExpressions))) ▹
    (Statement.Exchange (variable "a") (variable "b")) ▸
    (Statement.Exchange (variable "a") (variable "g")) ▸
    (Statement.Exchange (part "a") (variable "b")) ▸
    (Statement.Exchange (variable "g") (part "b")) ▸
    (Statement.Exchange (variable "a") (Expression.Grouped 0 (variable "a"))) ▸
    (Statement.Return 0 (Some (then_digit (then_digit (then_digit (then_digit (variable "g") (part "b")) (part "a")) (variable "b")) (variable "a")))) ▸
    NoItems)) ∷ []

sides_mean : source sides [] 20 ≡ gives (events.Called (codes "main") ∷ events.Returned (codes "main") ∷ []) (SourceEnding.Ended 42135)
sides_mean = refl

sides_run : core (program_code sides) [] 20 ≡ record { events = Called 0 ∷ Returned 0 ∷ []; ending = SourceEnding.Ended 42135 }
sides_run = refl

-- ---- the code of each exchange, among the names in scope there

abbrev in_scope : List Named
in_scope = named_here (codes "s") (StructShape (codes "pair")) 2 ∷ named_here (codes "b") IntShape 1 ∷ named_here (codes "a") IntShape 0 ∷ []

abbrev exchange : List Named → Expression → Expression → List code.Statement
exchange names e f = statement_code (world_of sides) IntShape names no_regions 0 (Statement.Exchange e f)

-- a word where a pointer leads
abbrev here : Distance
here = record { cells = 0; bytes = 0; part = 0; width = 4 }

two_locals : exchange in_scope (variable "a") (variable "b") ≡ Do (Get 2 0 0 4) ∷ Do (Get 3 0 1 4) ∷ Do (Put 0 0 4 3) ∷ Do (Put 0 1 4 2) ∷ []
two_locals = refl

local_and_global : exchange in_scope (variable "a") (variable "g") ≡
    Do (DataAddress 1 0) ∷ Do (Get 2 0 0 4) ∷ Do (Move 3 1) ∷ Do (Load 3 3 here) ∷ Do (Put 0 0 4 3) ∷ Do (Store 1 here 2) ∷ []
local_and_global = refl

member_and_local : exchange in_scope (part "a") (variable "b") ≡
    Do (LocalAddress 0 0 2) ∷ Do (Move 2 0) ∷ Do (Load 2 2 here) ∷ Do (Get 3 0 1 4) ∷ Do (Store 0 here 3) ∷ Do (Put 0 1 4 2) ∷ []
member_and_local = refl

global_and_member : exchange in_scope (variable "g") (part "b") ≡
    Do (DataAddress 0 0) ∷ Do (LocalAddress 1 0 2) ∷ Do (Offset 1 1 1 4) ∷ Do (Move 2 0) ∷ Do (Load 2 2 here) ∷ Do (Move 3 1) ∷ Do (Load 3 3 here) ∷
    Do (Store 0 here 3) ∷ Do (Store 1 here 2) ∷ []
global_and_member = refl

-- a char is a byte, and a local further out is named as such, in parentheses too
chars_further_out : exchange (named_here (codes "d") CharShape 0 ∷ outward (named_here (codes "c") CharShape 3 ∷ [])) (variable "d")
    (Expression.Grouped 0 (variable "c")) ≡ Do (Get 2 0 0 1) ∷ Do (Get 3 1 3 1) ∷ Do (Put 0 0 1 3) ∷ Do (Put 1 3 1 2) ∷ []
chars_further_out = refl
