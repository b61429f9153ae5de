-- What small programs do, computed: integers, loops, input and output
use Rattle.std.proofs.Common.{◌≡◌, true, false, Some, None, [], ◌∷◌, refl}
use Rattle.std.specs.Prelude.{codes}
use Rattle.cyc_tree.specs.declared.expression.Operator.TheVariants.{BitOr, BitXor, BitAnd, Equal, Less, GreaterEqual, ShiftLeft, ShiftRight, Add, Subtract}
use Rattle.cyc_tree.specs.declared.expression.Operator.TheVariants.{Multiply, Divide, Remainder}
use Rattle.cyc_tree.specs.declared.expression.Prefix.TheVariants.{Negate, Not, Complement}
use Rattle.cyc_tree.specs.Tree as tree
use Rattle.cyc_tree.specs.Tree.{Expression, NoExpressions, MoreExpressions, NoLinks, MoreLinks, NoSuffixes, Index, Dot, Arrow, One, Array, Initializer, Case}
use Rattle.cyc_tree.specs.Tree.{Default, Statement, NoItems, NoClauses, MoreClauses, Constant, Initial, Program}
use Rattle.cyc_words.specs.Events.{ByteRead, ByteWritten, Visible, Called, Returned, SourceEnding}
use Rattle.source_meaning.specs.Programs.{source}
use Rattle.source_meaning.proofs.Trees.{named, variable, number, typed, ◌▸◌, ◌▹◌, function, gives}

-- int main() { putchar(72); return 0; }
abbrev letter : Program
letter =
    tree.FunctionItem (function (typed tree.Int []) (named "main") [] (
    (Statement.Run (Expression.Call (named "putchar") (MoreExpressions (number 72) NoExpressions))) ▸
    (Statement.Return 0 (Some (number 0))) ▸
    NoItems)) ∷ []

letter_runs : source letter [] 1 ≡ gives (Called (codes "main") ∷ Visible (ByteWritten 72) ∷ Returned (codes "main") ∷ []) (SourceEnding.Ended 0)
letter_runs = refl

-- int main() { putchar(72); return 0; }
abbrev letter_unpaid : Program
letter_unpaid =
    tree.FunctionItem (function (typed tree.Int []) (named "main") [] (
    (Statement.Run (Expression.Call (named "putchar") (MoreExpressions (number 72) NoExpressions))) ▸
    (Statement.Return 0 (Some (number 0))) ▸
    NoItems)) ∷ []

letter_unpaid_runs : source letter_unpaid [] 0 ≡ gives (Called (codes "main") ∷ []) SourceEnding.Running
letter_unpaid_runs = refl

-- int main() { putchar(7/0); putchar((0-2147483647-1)/(0-1)); }
abbrev divisions : Program
divisions =
    tree.FunctionItem (function (typed tree.Int []) (named "main") [] (
    (Statement.Run (Expression.Call (named "putchar") (MoreExpressions (Expression.Chain (number 7) (MoreLinks Divide (number 0) NoLinks)) NoExpressions))) ▸
    (Statement.Run (Expression.Call (named "putchar")
    (MoreExpressions (Expression.Chain
    (Expression.Grouped 0 (Expression.Chain (number 0) (MoreLinks Subtract (number 2147483647) (MoreLinks Subtract (number 1) NoLinks))))
    (MoreLinks Divide (Expression.Grouped 0 (Expression.Chain (number 0) (MoreLinks Subtract (number 1) NoLinks))) NoLinks)) NoExpressions))) ▸
    NoItems)) ∷ []

divisions_runs : source divisions [] 2 ≡ gives (Called (codes "main") ∷ Visible (ByteWritten 255) ∷ Visible (ByteWritten 0) ∷ Returned (codes "main") ∷ [])
    (SourceEnding.Ended 0)
divisions_runs = refl

-- int main() { if (-7 % 3 == -1 && -7 / 3 == -2 && 7u / 0 == 0xFFFFFFFF && 5 % 0 == 5 && (0-2147483647-1) % (0-1) == 0) return 1; return 0; }
abbrev remainders : Program
remainders =
    tree.FunctionItem (function (typed tree.Int []) (named "main") [] (
    (Statement.If 0 (Expression.AllOf (Expression.Chain (Expression.Chain (Expression.Prefixed 0 Negate (number 7)) (MoreLinks Remainder (number 3) NoLinks))
    (MoreLinks Equal (Expression.Prefixed 0 Negate (number 1)) NoLinks))
    (MoreExpressions (Expression.Chain (Expression.Chain (Expression.Prefixed 0 Negate (number 7)) (MoreLinks Divide (number 3) NoLinks))
    (MoreLinks Equal (Expression.Prefixed 0 Negate (number 2)) NoLinks))
    (MoreExpressions (Expression.Chain (Expression.Chain (Expression.Number 0 7 true) (MoreLinks Divide (number 0) NoLinks))
    (MoreLinks Equal (number 4294967295) NoLinks))
    (MoreExpressions (Expression.Chain (Expression.Chain (number 5) (MoreLinks Remainder (number 0) NoLinks)) (MoreLinks Equal (number 5) NoLinks))
    (MoreExpressions (Expression.Chain
    (Expression.Chain (Expression.Grouped 0 (Expression.Chain (number 0) (MoreLinks Subtract (number 2147483647) (MoreLinks Subtract (number 1) NoLinks))))
    (MoreLinks Remainder (Expression.Grouped 0 (Expression.Chain (number 0) (MoreLinks Subtract (number 1) NoLinks))) NoLinks))
    (MoreLinks Equal (number 0) NoLinks)) NoExpressions))))) (Statement.Return 0 (Some (number 1)))) ▸
    (Statement.Return 0 (Some (number 0))) ▸
    NoItems)) ∷ []

remainders_runs : source remainders [] 0 ≡ gives (Called (codes "main") ∷ Returned (codes "main") ∷ []) (SourceEnding.Ended 1)
remainders_runs = refl

-- int main() { if ((-8 >> 33) == -4 && (1 << 31 >> 31) == -1 && (1u << 31 >> 31) == 1 && ~0 == -1) return 1; return 0; }
abbrev shifts : Program
shifts =
    tree.FunctionItem (function (typed tree.Int []) (named "main") [] (
    (Statement.If 0 (Expression.AllOf
    (Expression.Chain (Expression.Grouped 0 (Expression.Chain (Expression.Prefixed 0 Negate (number 8)) (MoreLinks ShiftRight (number 33) NoLinks)))
    (MoreLinks Equal (Expression.Prefixed 0 Negate (number 4)) NoLinks))
    (MoreExpressions (Expression.Chain
    (Expression.Grouped 0 (Expression.Chain (number 1) (MoreLinks ShiftLeft (number 31) (MoreLinks ShiftRight (number 31) NoLinks))))
    (MoreLinks Equal (Expression.Prefixed 0 Negate (number 1)) NoLinks))
    (MoreExpressions (Expression.Chain
    (Expression.Grouped 0 (Expression.Chain (Expression.Number 0 1 true) (MoreLinks ShiftLeft (number 31) (MoreLinks ShiftRight (number 31) NoLinks))))
    (MoreLinks Equal (number 1) NoLinks))
    (MoreExpressions (Expression.Chain (Expression.Prefixed 0 Complement (number 0)) (MoreLinks Equal (Expression.Prefixed 0 Negate (number 1)) NoLinks))
    NoExpressions)))) (Statement.Return 0 (Some (number 1)))) ▸
    (Statement.Return 0 (Some (number 0))) ▸
    NoItems)) ∷ []

shifts_runs : source shifts [] 0 ≡ gives (Called (codes "main") ∷ Returned (codes "main") ∷ []) (SourceEnding.Ended 1)
shifts_runs = refl

-- int main() { char c = 300; if (-1 < 1 && !(-1 < 1u) && c == 44 && c - 45 < 0 && (5 & 6 | 8 ^ 1) == 13) return 1; return 0; }
abbrev orders : Program
orders =
    tree.FunctionItem (function (typed tree.Int []) (named "main") [] (
    (tree.Local (typed tree.Char []) (named "c") (Initializer.Value (number 300))) ▹
    (Statement.If 0 (Expression.AllOf (Expression.Chain (Expression.Prefixed 0 Negate (number 1)) (MoreLinks Less (number 1) NoLinks))
    (MoreExpressions (Expression.Prefixed 0 Not
    (Expression.Grouped 0 (Expression.Chain (Expression.Prefixed 0 Negate (number 1)) (MoreLinks Less (Expression.Number 0 1 true) NoLinks))))
    (MoreExpressions (Expression.Chain (variable "c") (MoreLinks Equal (number 44) NoLinks))
    (MoreExpressions (Expression.Chain (Expression.Chain (variable "c") (MoreLinks Subtract (number 45) NoLinks)) (MoreLinks Less (number 0) NoLinks))
    (MoreExpressions (Expression.Chain
    (Expression.Grouped 0 (Expression.Chain (Expression.Chain (number 5) (MoreLinks BitAnd (number 6) NoLinks))
    (MoreLinks BitOr (Expression.Chain (number 8) (MoreLinks BitXor (number 1) NoLinks)) NoLinks))) (MoreLinks Equal (number 13) NoLinks))
    NoExpressions))))) (Statement.Return 0 (Some (number 1)))) ▸
    (Statement.Return 0 (Some (number 0))) ▸
    NoItems)) ∷ []

orders_runs : source orders [] 0 ≡ gives (Called (codes "main") ∷ Returned (codes "main") ∷ []) (SourceEnding.Ended 1)
orders_runs = refl

-- int main() { int x = 0 && putchar(65); int y = 1 || putchar(66); return x + y * 2; }
abbrev early_stops : Program
early_stops =
    tree.FunctionItem (function (typed tree.Int []) (named "main") [] (
    (tree.Local (typed tree.Int []) (named "x")
    (Initializer.Value (Expression.AllOf (number 0)
    (MoreExpressions (Expression.Call (named "putchar") (MoreExpressions (number 65) NoExpressions)) NoExpressions)))) ▹
    (tree.Local (typed tree.Int []) (named "y")
    (Initializer.Value (Expression.AnyOf (number 1)
    (MoreExpressions (Expression.Call (named "putchar") (MoreExpressions (number 66) NoExpressions)) NoExpressions)))) ▹
    (Statement.Return 0 (Some (Expression.Chain (variable "x")
    (MoreLinks Add (Expression.Chain (variable "y") (MoreLinks Multiply (number 2) NoLinks)) NoLinks)))) ▸
    NoItems)) ∷ []

early_stops_runs : source early_stops [] 0 ≡ gives (Called (codes "main") ∷ Returned (codes "main") ∷ []) (SourceEnding.Ended 2)
early_stops_runs = refl

-- int main() { int i = 0; while (1) { if (i == 3) break; i = i + 1; if (i == 1) continue; putchar(i); } return i; }
abbrev loop_with_break : Program
loop_with_break =
    tree.FunctionItem (function (typed tree.Int []) (named "main") [] (
    (tree.Local (typed tree.Int []) (named "i") (Initializer.Value (number 0))) ▹
    (Statement.While 0 (number 1) (Statement.Block 0 (
    (Statement.If 0 (Expression.Chain (variable "i") (MoreLinks Equal (number 3) NoLinks)) (Statement.Break 0)) ▸
    (Statement.Run (Expression.Assign (variable "i") (Expression.Chain (variable "i") (MoreLinks Add (number 1) NoLinks)))) ▸
    (Statement.If 0 (Expression.Chain (variable "i") (MoreLinks Equal (number 1) NoLinks)) (Statement.Continue 0)) ▸
    (Statement.Run (Expression.Call (named "putchar") (MoreExpressions (variable "i") NoExpressions))) ▸
    NoItems))) ▸
    (Statement.Return 0 (Some (variable "i"))) ▸
    NoItems)) ∷ []

loop_with_break_runs : source loop_with_break [] 6 ≡ gives (Called (codes "main") ∷ Visible (ByteWritten 2) ∷ Visible (ByteWritten 3) ∷ Returned (codes "main")
    ∷ []) (SourceEnding.Ended 3)
loop_with_break_runs = refl

-- int main() { int i = 0; while (1) { if (i == 3) break; i = i + 1; if (i == 1) continue; putchar(i); } return i; }
abbrev loop_unpaid : Program
loop_unpaid =
    tree.FunctionItem (function (typed tree.Int []) (named "main") [] (
    (tree.Local (typed tree.Int []) (named "i") (Initializer.Value (number 0))) ▹
    (Statement.While 0 (number 1) (Statement.Block 0 (
    (Statement.If 0 (Expression.Chain (variable "i") (MoreLinks Equal (number 3) NoLinks)) (Statement.Break 0)) ▸
    (Statement.Run (Expression.Assign (variable "i") (Expression.Chain (variable "i") (MoreLinks Add (number 1) NoLinks)))) ▸
    (Statement.If 0 (Expression.Chain (variable "i") (MoreLinks Equal (number 1) NoLinks)) (Statement.Continue 0)) ▸
    (Statement.Run (Expression.Call (named "putchar") (MoreExpressions (variable "i") NoExpressions))) ▸
    NoItems))) ▸
    (Statement.Return 0 (Some (variable "i"))) ▸
    NoItems)) ∷ []

loop_unpaid_runs : source loop_unpaid [] 5 ≡ gives (Called (codes "main") ∷ Visible (ByteWritten 2) ∷ Visible (ByteWritten 3) ∷ []) SourceEnding.Running
loop_unpaid_runs = refl

-- int main() { int i = 0; while (i < 2) i = i + 1; return i; }
abbrev last_test_is_free : Program
last_test_is_free =
    tree.FunctionItem (function (typed tree.Int []) (named "main") [] (
    (tree.Local (typed tree.Int []) (named "i") (Initializer.Value (number 0))) ▹
    (Statement.While 0 (Expression.Chain (variable "i") (MoreLinks Less (number 2) NoLinks))
    (Statement.Run (Expression.Assign (variable "i") (Expression.Chain (variable "i") (MoreLinks Add (number 1) NoLinks))))) ▸
    (Statement.Return 0 (Some (variable "i"))) ▸
    NoItems)) ∷ []

last_test_is_free_runs : source last_test_is_free [] 2 ≡ gives (Called (codes "main") ∷ Returned (codes "main") ∷ []) (SourceEnding.Ended 2)
last_test_is_free_runs = refl

-- int main() { int c = getchar(); while (c >= 0) { putchar(c); c = getchar(); } }
abbrev echo : Program
echo =
    tree.FunctionItem (function (typed tree.Int []) (named "main") [] (
    (tree.Local (typed tree.Int []) (named "c") (Initializer.Value (Expression.Call (named "getchar") NoExpressions))) ▹
    (Statement.While 0 (Expression.Chain (variable "c") (MoreLinks GreaterEqual (number 0) NoLinks)) (Statement.Block 0 (
    (Statement.Run (Expression.Call (named "putchar") (MoreExpressions (variable "c") NoExpressions))) ▸
    (Statement.Run (Expression.Assign (variable "c") (Expression.Call (named "getchar") NoExpressions))) ▸
    NoItems))) ▸
    NoItems)) ∷ []

echo_runs : source echo (0 ∷ 255 ∷ []) 7 ≡ gives (Called (codes "main") ∷ Visible (ByteRead (Some 0)) ∷ Visible (ByteWritten 0) ∷ Visible (ByteRead (Some 255))
    ∷ Visible (ByteWritten 255) ∷ Visible (ByteRead None) ∷ Returned (codes "main") ∷ []) (SourceEnding.Ended 0)
echo_runs = refl

-- int main() { return getchar() + getchar(); }
abbrev after_the_end : Program
after_the_end =
    tree.FunctionItem (function (typed tree.Int []) (named "main") [] (
    (Statement.Return 0 (Some (Expression.Chain (Expression.Call (named "getchar") NoExpressions)
    (MoreLinks Add (Expression.Call (named "getchar") NoExpressions) NoLinks)))) ▸
    NoItems)) ∷ []

after_the_end_runs : source after_the_end [] 2 ≡ gives (Called (codes "main") ∷ Visible (ByteRead None) ∷ Visible (ByteRead None) ∷ Returned (codes "main")
    ∷ []) (SourceEnding.Ended 4294967294)
after_the_end_runs = refl

-- int main() { return -1; }
abbrev status : Program
status =
    tree.FunctionItem (function (typed tree.Int []) (named "main") [] (
    (Statement.Return 0 (Some (Expression.Prefixed 0 Negate (number 1)))) ▸
    NoItems)) ∷ []

status_runs : source status [] 0 ≡ gives (Called (codes "main") ∷ Returned (codes "main") ∷ []) (SourceEnding.Ended 4294967295)
status_runs = refl

-- int main() { return 'a'; }
abbrev character_status : Program
character_status =
    tree.FunctionItem (function (typed tree.Int []) (named "main") [] (
    (Statement.Return 0 (Some (Expression.Character 0 97))) ▸
    NoItems)) ∷ []

character_status_runs : source character_status [] 0 ≡ gives (Called (codes "main") ∷ Returned (codes "main") ∷ []) (SourceEnding.Ended 97)
character_status_runs = refl

-- char f(char x) { return x + 1; } int main() { return f(300) + f(255); }
abbrev character_result : Program
character_result =
    tree.FunctionItem (function (typed tree.Char []) (named "f") ((record { of = (typed tree.Char []); name = (named "x") }) ∷ []) (
    (Statement.Return 0 (Some (Expression.Chain (variable "x") (MoreLinks Add (number 1) NoLinks)))) ▸
    NoItems)) ∷
    tree.FunctionItem (function (typed tree.Int []) (named "main") [] (
    (Statement.Return 0 (Some (Expression.Chain (Expression.Call (named "f") (MoreExpressions (number 300) NoExpressions))
    (MoreLinks Add (Expression.Call (named "f") (MoreExpressions (number 255) NoExpressions)) NoLinks)))) ▸
    NoItems)) ∷ []

character_result_runs : source character_result [] 2 ≡ gives (Called (codes "main") ∷ Called (codes "f") ∷ Returned (codes "f") ∷ Called (codes "f")
    ∷ Returned (codes "f") ∷ Returned (codes "main") ∷ []) (SourceEnding.Ended 45)
character_result_runs = refl

-- int main() { char c; int x = c = 300; return x; }
abbrev stored_value : Program
stored_value =
    tree.FunctionItem (function (typed tree.Int []) (named "main") [] (
    (tree.Local (typed tree.Char []) (named "c") Initializer.Unset) ▹
    (tree.Local (typed tree.Int []) (named "x") (Initializer.Value (Expression.Assign (variable "c") (number 300)))) ▹
    (Statement.Return 0 (Some (variable "x"))) ▸
    NoItems)) ∷ []

stored_value_runs : source stored_value [] 0 ≡ gives (Called (codes "main") ∷ Returned (codes "main") ∷ []) (SourceEnding.Ended 44)
stored_value_runs = refl

-- int x = 1; int main() { int y = x; int x = 2; { int x = 3; y = y + x; } return y * 10 + x; }
abbrev hidden_names : Program
hidden_names =
    tree.GlobalItem (record { of = (typed tree.Int []); name = (named "x"); initial = (Initial.Given (Constant.Number 0 1 false)) }) ∷
    tree.FunctionItem (function (typed tree.Int []) (named "main") [] (
    (tree.Local (typed tree.Int []) (named "y") (Initializer.Value (variable "x"))) ▹
    (tree.Local (typed tree.Int []) (named "x") (Initializer.Value (number 2))) ▹
    (Statement.Block 0 (
    (tree.Local (typed tree.Int []) (named "x") (Initializer.Value (number 3))) ▹
    (Statement.Run (Expression.Assign (variable "y") (Expression.Chain (variable "y") (MoreLinks Add (variable "x") NoLinks)))) ▸
    NoItems)) ▸
    (Statement.Return 0 (Some (Expression.Chain (Expression.Chain (variable "y") (MoreLinks Multiply (number 10) NoLinks))
    (MoreLinks Add (variable "x") NoLinks)))) ▸
    NoItems)) ∷ []

hidden_names_runs : source hidden_names [] 0 ≡ gives (Called (codes "main") ∷ Returned (codes "main") ∷ []) (SourceEnding.Ended 42)
hidden_names_runs = refl

-- int main() { int a = 1; int b = 2; a :=: b; return a * 10 + b; }
abbrev integers_exchanged : Program
integers_exchanged =
    tree.FunctionItem (function (typed tree.Int []) (named "main") [] (
    (tree.Local (typed tree.Int []) (named "a") (Initializer.Value (number 1))) ▹
    (tree.Local (typed tree.Int []) (named "b") (Initializer.Value (number 2))) ▹
    (Statement.Exchange (variable "a") (variable "b")) ▸
    (Statement.Return 0 (Some (Expression.Chain (Expression.Chain (variable "a") (MoreLinks Multiply (number 10) NoLinks))
    (MoreLinks Add (variable "b") NoLinks)))) ▸
    NoItems)) ∷ []

integers_exchanged_runs : source integers_exchanged [] 0 ≡ gives (Called (codes "main") ∷ Returned (codes "main") ∷ []) (SourceEnding.Ended 21)
integers_exchanged_runs = refl

-- int f() { putchar(97); return f(); } int main() { return f(); }
abbrev endless_calls : Program
endless_calls =
    tree.FunctionItem (function (typed tree.Int []) (named "f") [] (
    (Statement.Run (Expression.Call (named "putchar") (MoreExpressions (number 97) NoExpressions))) ▸
    (Statement.Return 0 (Some (Expression.Call (named "f") NoExpressions))) ▸
    NoItems)) ∷
    tree.FunctionItem (function (typed tree.Int []) (named "main") [] (
    (Statement.Return 0 (Some (Expression.Call (named "f") NoExpressions))) ▸
    NoItems)) ∷ []

endless_calls_runs : source endless_calls [] 4 ≡ gives (Called (codes "main") ∷ Called (codes "f") ∷ Visible (ByteWritten 97) ∷ Called (codes "f")
    ∷ Visible (ByteWritten 97) ∷ []) SourceEnding.Running
endless_calls_runs = refl

-- unsigned f(unsigned n) { if (n < 2) return n; return f(n - 1) + f(n - 2); } int main() { return f(4); }
abbrev fibonacci : Program
fibonacci =
    tree.FunctionItem (function (typed tree.Unsigned []) (named "f") ((record { of = (typed tree.Unsigned []); name = (named "n") }) ∷ []) (
    (Statement.If 0 (Expression.Chain (variable "n") (MoreLinks Less (number 2) NoLinks)) (Statement.Return 0 (Some (variable "n")))) ▸
    (Statement.Return 0 (Some (Expression.Chain
    (Expression.Call (named "f") (MoreExpressions (Expression.Chain (variable "n") (MoreLinks Subtract (number 1) NoLinks)) NoExpressions))
    (MoreLinks Add (Expression.Call (named "f") (MoreExpressions (Expression.Chain (variable "n") (MoreLinks Subtract (number 2) NoLinks)) NoExpressions))
    NoLinks)))) ▸
    NoItems)) ∷
    tree.FunctionItem (function (typed tree.Int []) (named "main") [] (
    (Statement.Return 0 (Some (Expression.Call (named "f") (MoreExpressions (number 4) NoExpressions)))) ▸
    NoItems)) ∷ []

fibonacci_runs : source fibonacci [] 9 ≡ gives (Called (codes "main") ∷ Called (codes "f") ∷ Called (codes "f") ∷ Called (codes "f") ∷ Called (codes "f")
    ∷ Returned (codes "f") ∷ Called (codes "f") ∷ Returned (codes "f") ∷ Returned (codes "f") ∷ Called (codes "f") ∷ Returned (codes "f") ∷ Returned (codes "f")
    ∷ Called (codes "f") ∷ Called (codes "f") ∷ Returned (codes "f") ∷ Called (codes "f") ∷ Returned (codes "f") ∷ Returned (codes "f") ∷ Returned (codes "f")
    ∷ Returned (codes "main") ∷ []) (SourceEnding.Ended 3)
fibonacci_runs = refl

-- int main() { int x = NULL; return 0; }
abbrev wrong_type_stored : Program
wrong_type_stored =
    tree.FunctionItem (function (typed tree.Int []) (named "main") [] (
    (tree.Local (typed tree.Int []) (named "x") (Initializer.Value (Expression.Null 0))) ▹
    (Statement.Return 0 (Some (number 0))) ▸
    NoItems)) ∷ []

wrong_type_stored_runs : source wrong_type_stored [] 0 ≡ gives (Called (codes "main") ∷ []) SourceEnding.Stuck
wrong_type_stored_runs = refl

-- int f() { } int main() { return f(); }
abbrev no_result : Program
no_result =
    tree.FunctionItem (function (typed tree.Int []) (named "f") [] NoItems) ∷
    tree.FunctionItem (function (typed tree.Int []) (named "main") [] (
    (Statement.Return 0 (Some (Expression.Call (named "f") NoExpressions))) ▸
    NoItems)) ∷ []

no_result_runs : source no_result [] 1 ≡ gives (Called (codes "main") ∷ Called (codes "f") ∷ []) SourceEnding.Stuck
no_result_runs = refl

-- void f() { } int main() { f(); }
abbrev no_result_wanted : Program
no_result_wanted =
    tree.FunctionItem (function (typed tree.Void []) (named "f") [] NoItems) ∷
    tree.FunctionItem (function (typed tree.Int []) (named "main") [] (
    (Statement.Run (Expression.Call (named "f") NoExpressions)) ▸
    NoItems)) ∷ []

no_result_wanted_runs : source no_result_wanted [] 1 ≡ gives (Called (codes "main") ∷ Called (codes "f") ∷ Returned (codes "f") ∷ Returned (codes "main") ∷ [])
    (SourceEnding.Ended 0)
no_result_wanted_runs = refl
