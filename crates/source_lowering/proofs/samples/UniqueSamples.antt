-- A program of unique pointers: they are made, exchanged, moved and freed, and Core's run of it gives what the source's does.
use Rattle.std.proofs.Common.{◌≡◌, Some, None, [], ◌∷◌, refl}
use Rattle.std.specs.Prelude.{codes}
use Rattle.cyc_tree.specs.declared.expression.Prefix.TheVariants.{Dereference}
use Rattle.cyc_tree.specs.declared.name.Sign.TheVariants.{Nullable}
use Rattle.cyc_tree.specs.Tree as tree
use Rattle.cyc_tree.specs.Tree.{Expression, Initializer, NoItems, One, Program, Statement, TypeName}
use Rattle.cyc_words.specs.Events as events
use Rattle.cyc_words.specs.Events.{SourceEnding, UniqueAlloc, UniqueFree}
use Rattle.source_meaning.specs.Programs.{source}
use Rattle.source_meaning.proofs.Trees.{function, gives, named, number, typed, variable, ◌▸◌, ◌▹◌}
use Rattle.core_meaning.specs.Steps.{Called, Returned, Visible}
use Rattle.core_meaning.specs.Meaning.{core}
use Rattle.source_lowering.specs.Lowerable.{GivesWord, IsLowerable}
use Rattle.source_lowering.specs.Programs.{program_code}

-- int *`U, and int *, which is unique by its initializer
abbrev unique : TypeName
unique = typed tree.Int (record { sign = Nullable 1; region = Some (tree.Unique 0) } ∷ [])

abbrev open_pointer : TypeName
open_pointer = typed tree.Int (record { sign = Nullable 1; region = None } ∷ [])

-- int main() {
--   int *`U p = rnew(unique_region) 3; int *q = rnew(unique_region) 4; p :=: q; *p = 5; int *`U r = p; ufree(r); int s = *q; ufree(q); return s;
-- }
abbrev blocks : Program
blocks =
    tree.FunctionItem (function (typed tree.Int []) (named "main") [] (
    (tree.Local unique (named "p") (Initializer.Value (Expression.NewIn 0 (Expression.UniqueRegion 0) (One (number 3))))) ▹
    (tree.Local open_pointer (named "q") (Initializer.Value (Expression.NewIn 0 (Expression.UniqueRegion 0) (One (number 4))))) ▹
    (Statement.Exchange (variable "p") (variable "q")) ▸
    (Statement.Run (Expression.Assign (Expression.Prefixed 0 Dereference (variable "p")) (number 5))) ▸
    (tree.Local unique (named "r") (Initializer.Value (variable "p"))) ▹
    (Statement.FreeUnique 0 (named "r")) ▸
    (tree.Local (typed tree.Int []) (named "s") (Initializer.Value (Expression.Prefixed 0 Dereference (variable "q")))) ▹
    (Statement.FreeUnique 0 (named "q")) ▸
    (Statement.Return 0 (Some (variable "s"))) ▸
    NoItems)) ∷ []

blocks_mean : source blocks [] 20 ≡
    gives (events.Called (codes "main") ∷ events.Visible (UniqueAlloc 1 4) ∷ events.Visible (UniqueAlloc 2 4) ∷ events.Visible (UniqueFree 2) ∷
    events.Visible (UniqueFree 1) ∷ events.Returned (codes "main") ∷ []) (SourceEnding.Ended 3)
blocks_mean = refl

blocks_run : core (program_code blocks) [] 20 ≡ record {
  events = Called 0 ∷ Visible (UniqueAlloc 1 4) ∷ Visible (UniqueAlloc 2 4) ∷ Visible (UniqueFree 2) ∷ Visible (UniqueFree 1) ∷ Returned 0 ∷ [];
  ending = SourceEnding.Ended 3;
}
blocks_run = refl

blocks_taken : IsLowerable blocks
blocks_taken = record {
  items = (
    record {
      result = GivesWord (record { base = tt; word = tt });
      main = λ e. record { pointers = refl; base = refl };
      parameters = tt;
      body = (
        (record { base = tt; known = tt }, (tt, (tt, tt))),
        (
          (record { base = tt; known = tt }, (tt, (tt, tt))),
          (
            (tt, (tt, tt)),
            (
              (tt, (tt, tt)),
              (
                (record { base = tt; known = tt }, tt),
                (
                  tt,
                  (
                    (record { base = tt; known = tt }, (tt, tt)),
                    (tt, (tt, tt)),
                  ),
                ),
              ),
            ),
          ),
        ),
      );
    },
    tt,
  );
  unions = tt;
  structs = tt;
  strings = tt;
}
