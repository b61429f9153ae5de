-- Programs with aliases: a unique pointer is lent until a block is left, and has its value then; Core's runs give what the source's do.
use Rattle.std.proofs.Common.{◌≡◌, Some, [], ◌∷◌, refl}
use Rattle.std.specs.Prelude.{codes}
use Rattle.cyc_tree.specs.declared.expression.Prefix.TheVariants.{Dereference}
use Rattle.cyc_tree.specs.declared.name.Sign.TheVariants.{NotNull, Nullable}
use Rattle.cyc_tree.specs.Tree as tree
use Rattle.cyc_tree.specs.Tree.{Declaration, Expression, Initializer, NoItems, One, Program, Statement, TypeName}
use Rattle.cyc_words.specs.declared.faults.Kind.TheVariants.{NullException}
use Rattle.cyc_words.specs.Events as events
use Rattle.cyc_words.specs.Events.{SourceEnding, UniqueAlloc, UniqueFree}
use Rattle.source_meaning.specs.Programs.{source}
use Rattle.source_meaning.proofs.Trees.{function, gives, named, number, pointer, typed, variable, ◌▸◌, ◌▹◌}
use Rattle.core_meaning.specs.Steps.{Called, Returned, Visible}
use Rattle.core_meaning.specs.Meaning.{core}
use Rattle.source_lowering.specs.Lowerable.{GivesWord, IsLowerable}
use Rattle.source_lowering.specs.Programs.{program_code}

-- int *`U
abbrev unique : TypeName
unique = typed tree.Int (pointer (Nullable 1) (Some (tree.Unique 0)) ∷ [])

-- let alias<`r> int *`r x = p; and one that is never NULL
abbrev lends : Declaration
lends = tree.Alias 0 (tree.Named (named "r")) (typed tree.Int (pointer (Nullable 1) (Some (tree.Named (named "r"))) ∷ [])) (named "x") (named "p")

abbrev lends_some : Declaration
lends_some = tree.Alias 0 (tree.Named (named "r")) (typed tree.Int (pointer (NotNull 1) (Some (tree.Named (named "r"))) ∷ [])) (named "x") (named "p")

-- int main() {
--   int *`U p = rnew(unique_region) 3; while (1) { let alias<`r> int *`r x = p; *x = 4; break; } int s = *p; ufree(p); return s;
-- }
abbrev lent : Program
lent =
    tree.FunctionItem (function (typed tree.Int []) (named "main") [] (
    (tree.Local unique (named "p") (Initializer.Value (Expression.NewIn 0 (Expression.UniqueRegion 0) (One (number 3))))) ▹
    (Statement.While 0 (number 1) (Statement.Block 0 (
    lends ▹
    (Statement.Run (Expression.Assign (Expression.Prefixed 0 Dereference (variable "x")) (number 4))) ▸
    (Statement.Break 0) ▸
    NoItems))) ▸
    (tree.Local (typed tree.Int []) (named "s") (Initializer.Value (Expression.Prefixed 0 Dereference (variable "p")))) ▹
    (Statement.FreeUnique 0 (named "p")) ▸
    (Statement.Return 0 (Some (variable "s"))) ▸
    NoItems)) ∷ []

lent_means : source lent [] 20 ≡
    gives (events.Called (codes "main") ∷ events.Visible (UniqueAlloc 1 4) ∷ events.Visible (UniqueFree 1) ∷ events.Returned (codes "main") ∷ [])
    (SourceEnding.Ended 4)
lent_means = refl

lent_runs : core (program_code lent) [] 20 ≡ record {
  events = Called 0 ∷ Visible (UniqueAlloc 1 4) ∷ Visible (UniqueFree 1) ∷ Returned 0 ∷ [];
  ending = SourceEnding.Ended 4;
}
lent_runs = refl

lent_taken : IsLowerable lent
lent_taken = record {
  items = (
    record {
      result = GivesWord (record { base = tt; word = tt });
      main = λ e. record { pointers = refl; base = refl };
      parameters = tt;
      body = (
        (record { base = tt; known = tt }, (tt, (tt, tt))),
        (
          (tt, ((record { base = tt; known = tt }, (tt, tt)), ((tt, (tt, tt)), (tt, tt)))),
          ((record { base = tt; known = tt }, (tt, tt)), (tt, (tt, tt))),
        ),
      );
    },
    tt,
  );
  unions = tt;
  structs = tt;
  strings = tt;
}

-- int main() { int *`U p = NULL; let alias<`r> int @`r x = p; return 0; }
abbrev null_lent : Program
null_lent =
    tree.FunctionItem (function (typed tree.Int []) (named "main") [] (
    (tree.Local unique (named "p") (Initializer.Value (Expression.Null 0))) ▹
    lends_some ▹
    (Statement.Return 0 (Some (number 0))) ▸
    NoItems)) ∷ []

null_means : source null_lent [] 20 ≡ gives (events.Called (codes "main") ∷ []) (SourceEnding.Raised NullException)
null_means = refl

null_runs : core (program_code null_lent) [] 20 ≡ record { events = Called 0 ∷ []; ending = SourceEnding.Raised NullException }
null_runs = refl
