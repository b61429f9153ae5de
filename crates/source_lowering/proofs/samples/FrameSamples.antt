-- The bounds on the frames of a few functions.
use Rattle.std.proofs.Common.{◌≡◌, ℕ, ◌+◌, ◌*◌, Some, None, List, [], ◌∷◌, refl}
use Rattle.cyc_tree.specs.declared.expression.Operator.TheVariants.{Add}
use Rattle.cyc_tree.specs.declared.name.Sign.TheVariants.{Fat, Nullable}
use Rattle.cyc_tree.specs.Tree as tree
use Rattle.cyc_tree.specs.Tree.{Array, Arrow, BlockItems, Case, Default, Expression, Initializer, Member, MoreClauses, MoreExpressions, MoreLinks, NoClauses}
use Rattle.cyc_tree.specs.Tree.{NoExpressions, NoItems, NoLinks, NoSuffixes, Program, Statement, TypeName}
use Rattle.source_meaning.specs.Shapes.{Shape, IntShape, UnsignedShape, CharShape, ThinShape, FatShape, HandleShape, KeyShape}
use Rattle.source_meaning.specs.Steps.{World}
use Rattle.source_meaning.specs.Programs.{routine_of, world_of}
use Rattle.source_meaning.proofs.Trees.{named, variable, number, pointer, typed, ◌▸◌, ◌▹◌, function}
use Rattle.source_lowering.specs.Bounds.{shape_words, value_words, frame_bound}
use Rattle.source_lowering.specs.Lowerable.{IsValueShape}
use Rattle.source_lowering.proofs.samples.Samples.{contents_of, dot, member, nullable, struct_of}

-- a word and a fat pointer have no less than one word of their own
value_exact : (w : World) (s : Shape) → IsValueShape s → value_words w s ≡ shape_words w s
value_exact w IntShape h = refl
value_exact w UnsignedShape h = refl
value_exact w CharShape h = refl
value_exact w (ThinShape may_be_null owner to) h = refl
value_exact w (FatShape to) h = refl
value_exact w HandleShape h = refl
value_exact w KeyShape h = refl
value_exact w _ h = absurd h

-- struct P { int a; int b; }; tagunion U { int i; char c; };
abbrev declared : Program
declared =
    tree.StructItem (record {
      at = 0;
      tag = named "P";
      regions = [];
      members = member (typed tree.Int []) (named "a") ∷ member (typed tree.Int []) (named "b") ∷ [];
    }) ∷
    tree.UnionItem (record {
      at = 0;
      tag = named "U";
      regions = [];
      members = member (typed tree.Int []) (named "i") ∷ member (typed tree.Char []) (named "c") ∷ [];
    }) ∷ []

-- that of a function `f` beside them
abbrev bound_of : TypeName → List Member → BlockItems → ℕ
bound_of result parameters body =
    let f = function result (named "f") parameters body in frame_bound (world_of (tree.FunctionItem f ∷ declared)) (routine_of f)

abbrev of_int : TypeName
of_int = typed tree.Int []

abbrev of_nothing : TypeName
of_nothing = typed tree.Void []

abbrev of_key : TypeName
of_key = typed (tree.Key (tree.Named (named "r"))) []

abbrev one : Expression → tree.Expressions
one e = MoreExpressions e NoExpressions

abbrev calls : tree.Expressions → Expression
calls arguments = Expression.Call (named "f") arguments

abbrev pair_made : Expression → Expression → Expression
pair_made a b = Expression.Call (named "P") (MoreExpressions a (one b))

abbrev to_pair : TypeName
to_pair = typed (tree.Struct (named "P") []) nullable

-- void f() {}
empty_bound : bound_of of_nothing [] NoItems ≡ 128
empty_bound = refl

-- void f() { f(); }
nothing_bound : bound_of of_nothing [] ((Statement.Run (calls NoExpressions)) ▸ NoItems) ≡ 128 + 16 * 1
nothing_bound = refl

-- int f(int n) { P(n, n); return f(n + 1); }: 3 for what is made, and 2 for each value of a word
made_bound : bound_of of_int (member of_int (named "n") ∷ []) ((Statement.Run (pair_made (variable "n") (variable "n"))) ▸
    (Statement.Return 0 (Some (calls (one (Expression.Chain (variable "n") (MoreLinks Add (number 1) NoLinks)))))) ▸ NoItems) ≡ 128 + 16 * (1 + 7 + 8)
made_bound = refl

-- void f(struct P *p) { *p = P(1, 2); }: 1 for the assignment, which gives no value, 5 for `*p`, and 7 for what is made
assigned_bound : bound_of of_nothing (member to_pair (named "p") ∷ []) ((Statement.Run (Expression.Assign (contents_of (variable "p"))
    (pair_made (number 1) (number 2)))) ▸ NoItems) ≡ 128 + 16 * (1 + 1 + 5 + 7)
assigned_bound = refl

-- int f(struct P *p) { struct P q = *p; p->a = q.b; return 0; }: a struct counts on the left of a member too
member_bound : bound_of of_int (member to_pair (named "p") ∷ []) (
    (tree.Local (struct_of (named "P")) (named "q") (Initializer.Value (contents_of (variable "p")))) ▹
    (Statement.Run (Expression.Assign (Expression.Suffixed (variable "p") (Arrow (named "a") NoSuffixes)) (dot (variable "q") (named "b")))) ▸
    (Statement.Return 0 (Some (number 0))) ▸ NoItems) ≡ 128 + 16 * (1 + 2 + 5 + (2 + 4 + 5) + 2)
member_bound = refl

-- int ?f(int n) { return new {for i < n : i}; }: 4 for the fat pointer, and 1 for `i`
array_bound : bound_of (typed tree.Int (pointer Fat None ∷ [])) (member of_int (named "n") ∷ [])
    ((Statement.Return 0 (Some (Expression.New 0 (Array (named "i") (variable "n") (variable "i"))))) ▸ NoItems) ≡ 128 + 16 * (1 + 4 + 1 + 2 + 2)
array_bound = refl

-- int f(int n) { tagunion U u = U.i(n); switch (u) { case {.i = x}: return x; default: return 0; } return 1; }: 1 for the word of `x`
union_bound : bound_of of_int (member of_int (named "n") ∷ []) (
    (tree.Local (typed (tree.Union (named "U") []) []) (named "u") (Initializer.Value (Expression.MakeUnion (named "U") (named "i") (variable "n")))) ▹
    (Statement.Switch 0 (variable "u") (MoreClauses 0 (Case (named "i") (named "x")) ((Statement.Return 0 (Some (variable "x"))) ▸ NoItems)
    (MoreClauses 0 Default ((Statement.Return 0 (Some (number 0))) ▸ NoItems) NoClauses))) ▸
    (Statement.Return 0 (Some (number 1))) ▸ NoItems) ≡ 128 + 16 * (1 + 2 + 1 + (3 + 2) + 3 + 2 + 2 + 2)
union_bound = refl

-- int f() { int *`U p = NULL; p = NULL; return 0; }: 1 for the assignment, which gives no value
alone_bound : bound_of of_int [] (
    (tree.Local (typed tree.Int (pointer (Nullable 1) (Some (tree.Unique 0)) ∷ [])) (named "p") (Initializer.Value (Expression.Null 0))) ▹
    (Statement.Run (Expression.Assign (variable "p") (Expression.Null 0))) ▸
    (Statement.Return 0 (Some (number 0))) ▸ NoItems) ≡ 128 + 16 * (1 + 2 + (1 + 2 + 2) + 2)
alone_bound = refl

-- void f(uregion_key_t<`r> k, uregion_key_t<`r> j) { k = j; }: likewise
key_bound : bound_of of_nothing (member of_key (named "k") ∷ member of_key (named "j") ∷ [])
    ((Statement.Run (Expression.Assign (variable "k") (variable "j"))) ▸ NoItems) ≡ 128 + 16 * (2 + (1 + 2 + 2))
key_bound = refl
