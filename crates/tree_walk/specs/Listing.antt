-- Believed, for this crate's laws: the string literals and the names that calls name, as far as they were listed, in the order of the text.
use Rattle.std.specs.Prelude.{ℕ, ◌≡◌, false, List, ◌++◌, drop, map, []}
use Rattle.cyc_tree.specs.Tree as tree
use Rattle.cyc_tree.specs.Tree.{Expression, Item}
use Rattle.cyc_tree.specs.View.{OneClause, OneItem, OneSuffix}
use Rattle.cyc_tree.specs.declared.expression.Operator.{Operator}
use Rattle.source_meaning.specs.Callees.{declaration_callees, expression_callees, items_callees, statement_callees}
use Rattle.source_meaning.specs.Strings as meaning
use Rattle.source_meaning.specs.Strings.{declaration_strings, expression_strings, items_strings, statement_strings}
use Rattle.tree_walk.specs.declared.found.Callee.{Callee}
use Rattle.tree_walk.specs.declared.found.Found.{Found}
use Rattle.tree_walk.specs.declared.found.Literal.{Literal}

-- a literal as the meaning has it
abbrev pub literal_of : Literal → meaning.Literal
literal_of l = (l.at, l.bytes.now)

abbrev pub listed : List Literal → List meaning.Literal
listed literals = map literal_of literals

-- the name of a callee
abbrev pub name_of : Callee → List ℕ
name_of c = c.name.now

-- Between the two these were listed, as the view sees them, and nothing else.
abbrev pub Adds : {C M : Type 0} → (C → M) → List C → List C → List M → Type 0
Adds view old new more = (rest : List _) → map view new ++ rest ≡ map view old ++ (more ++ rest)

-- no allocation failed, and these were listed, and nothing else
pub record IsListed (old new : Found) (strings : List meaning.Literal) (names : List (List ℕ)) : Type 0 where
  pub sound : old.failed ≡ false
  pub literals : Adds literal_of old.literals.items new.literals.items strings
  pub callees : Adds name_of old.callees.items new.callees.items names

-- between the two these were listed, and nothing else, or else an allocation failed
abbrev pub Lists : Found → Found → List meaning.Literal → List (List ℕ) → Type 0
Lists old new strings names = new.failed ≡ false → IsListed old new strings names

-- what was listed, with that of the rest of some phrases, is what was there before, with that of all
abbrev pub AddsTo : {C M X : Type 0} → (C → M) → (List X → List M) → List C → List X → ℕ → List C → Type 0
AddsTo view parts old all i now =
    (rest : List _) → map view now ++ (parts (drop i all) ++ rest) ≡ map view old ++ (parts all ++ rest)

-- no allocation failed, and what was listed is that of the first `i` of these
pub record AreListed {X : Type 0} (strings : List X → List meaning.Literal) (names : List X → List (List ℕ))
    (old : Found) (all : List X) (i : ℕ) (now : Found) : Type 0 where
  pub sound : old.failed ≡ false
  pub literals : AddsTo literal_of strings old.literals.items all i now.literals.items
  pub callees : AddsTo name_of names old.callees.items all i now.callees.items

-- so much is listed of these, or else an allocation failed
abbrev pub ListsTo : {X : Type 0} → (List X → List meaning.Literal) → (List X → List (List ℕ)) → Found → List X → ℕ → Found → Type 0
ListsTo strings names old all i now = now.failed ≡ false → AreListed strings names old all i now

-- ---- of one of several

abbrev pub suffix_strings : OneSuffix → List meaning.Literal
suffix_strings (OneSuffix.Index e) = expression_strings e
suffix_strings (OneSuffix.Dot f) = []
suffix_strings (OneSuffix.Arrow f) = []

abbrev pub suffix_callees : OneSuffix → List (List ℕ)
suffix_callees (OneSuffix.Index e) = expression_callees e
suffix_callees (OneSuffix.Dot f) = []
suffix_callees (OneSuffix.Arrow f) = []

abbrev pub link_strings : Operator × Expression → List meaning.Literal
link_strings (o, e) = expression_strings e

abbrev pub link_callees : Operator × Expression → List (List ℕ)
link_callees (o, e) = expression_callees e

abbrev pub one_item_strings : OneItem → List meaning.Literal
one_item_strings (OneItem.Declare d) = declaration_strings d
one_item_strings (OneItem.Execute s) = statement_strings s

abbrev pub one_item_callees : OneItem → List (List ℕ)
one_item_callees (OneItem.Declare d) = declaration_callees d
one_item_callees (OneItem.Execute s) = statement_callees s

abbrev pub clause_strings : OneClause → List meaning.Literal
clause_strings c = items_strings c.body

abbrev pub clause_callees : OneClause → List (List ℕ)
clause_callees c = items_callees c.body

-- of an item of a program: those of a function's body
abbrev pub item_callees : Item → List (List ℕ)
item_callees (tree.FunctionItem f) = items_callees f.body
item_callees _ = []
