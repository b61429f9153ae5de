-- Believed: which statements are in order, of the whole language: the judgement of each of their expressions, where it stands.
use Rattle.std.specs.Prelude.{◌≡◌, ℕ, Bool, true, false, ◌||◌, ◌&&◌, Some, None, List, [], ◌∷◌}
use Rattle.cyc_tree.specs.Operands.{ExpressionHasOperands}
use Rattle.cyc_tree.specs.Tree as tree
use Rattle.cyc_tree.specs.Tree.{Expression, Initializer, Statement, BlockItems, NoItems, Declare, Execute, TypeName, Clauses, NoClauses, MoreClauses, Case}
use Rattle.cyc_tree.specs.Tree.{Default}
use Rattle.source_meaning.specs.Shapes.{written, settled, settled_by}
use Rattle.source_typing.specs.Converts.{Converts}
use Rattle.source_typing.specs.Declarations.{declare, with_region}
use Rattle.source_typing.specs.Exchanges.{acts, exchangeable}
use Rattle.source_typing.specs.Expressions.{judge}
use Rattle.source_typing.specs.Regions.{Region, opened, with_name, with_scope}
use Rattle.source_typing.specs.Places.{variable}
use Rattle.source_typing.specs.Scope.{Env, Value, block_entered, meant, next_region}
use Rattle.source_typing.specs.Statements.{Chosen, chosen, clauses_fit, clause_scope, in_a_loop, in_a_switch}
use Rattle.source_typing.specs.Tables.{What, Stored, Arrayed, Part, argument, has_beginning, part_in, parts_in}
use Rattle.source_meaning.specs.Shapes.{single}
use Rattle.source_typing.specs.Types.{StaticType, Void, Handle, Key, Thin, Union, Unique, is_testable, renamed, shape_of}
use Rattle.source_typing.specs.Ways.{ways_of, ways_of_items}
use Rattle.source_typing.specs.Verdicts.{Of}
use Rattle.type_proof.specs.Entries.{IsObjectType}
use Rattle.type_proof.specs.Members.{HasStructMembers}
use Rattle.source_typing.specs.Named.{TypeBelow}

-- an expression that is in order, and what it is
pub record Accepted (g : Env) (e : Expression) : Type 0 where
  pub value : Value
  pub judged : judge g e ≡ Of value
  pub operands : ExpressionHasOperands e
  pub members : HasStructMembers g e

-- a condition
pub record Condition (g : Env) (e : Expression) : Type 0 where
  pub accepted : Accepted g e
  pub testable : is_testable accepted.value.type ≡ true

-- a scope with one more local
abbrev pub named : Env → tree.Name → What → Env
named g x w = record g { locals = record { name = x.text; what = w; block = g.block } ∷ g.locals }

-- a variable of a type, in the innermost block
abbrev pub extended : Env → tree.Name → StaticType → Env
extended g x t = named g x (Stored t g.frame)

-- an array of elements of a type, in the innermost block
abbrev pub arrayed : Env → tree.Name → StaticType → Env
arrayed g x t = named g x (Arrayed t g.frame)

-- what is stored, passed or returned as a value of a type
pub record Fitting (g : Env) (e : Expression) (t : StaticType) : Type 0 where
  pub accepted : Accepted g e
  pub converts : Converts g.regions accepted.value.type t

-- A local, which has its type as it is written: its region names are in scope, and it begins without an initializer.
pub record LocalUnset (g : Env) (of : TypeName) (x : tree.Name) : Type 0 where
  pub type : StaticType
  pub object : IsObjectType type
  pub below : TypeBelow g.regions.count type
  pub begins : has_beginning g.tables type ≡ true
  pub shape : settled (written of) ≡ shape_of type
  pub scope : (declare g (tree.Local of x Initializer.Unset)).scope ≡ extended g x type

-- An array, of elements whose type begins without an initializer. How many there are is no matter: the index of each access is compared with their count.
pub record LocalArray (g : Env) (of : TypeName) (x : tree.Name) (count : ℕ) : Type 0 where
  pub type : StaticType
  pub object : IsObjectType type
  pub below : TypeBelow g.regions.count type
  pub begins : has_beginning g.tables type ≡ true
  pub shape : settled (written of) ≡ shape_of type
  pub scope : (declare g (tree.Local of x (Initializer.Elements count))).scope ≡ arrayed g x type

-- one with an initializer, whose value converts to its type
pub record LocalSet (g : Env) (of : TypeName) (x : tree.Name) (e : Expression) : Type 0 where
  pub type : StaticType
  pub object : IsObjectType type
  pub below : TypeBelow g.regions.count type
  pub fitting : Fitting g e type
  pub shape : settled_by (written of) (shape_of fitting.accepted.value.type) ≡ shape_of type
  pub scope : (declare g (tree.Local of x (Initializer.Value e))).scope ≡ extended g x type

-- a lexical region, whose name and handle are in scope from here on
abbrev pub RegionOpened : Env → ℕ → tree.RegionName → tree.Name → Type 0
RegionOpened g at r x = ((declare g (tree.Region at r x)).scope ≡ extended (with_region r with_scope g) x (Handle (next_region g)))

-- a name that is of a unique pointer
pub record UniqueOperand (g : Env) (x : tree.Name) : Type 0 where
  pub value : Value
  pub judged : variable x.at (meant g x.text) ≡ Of value
  pub nullable : Bool
  pub to : StaticType
  pub is : value.type ≡ Unique nullable to

-- a unique pointer's alias: its type is the pointer's, with the new region for the unique one
pub record AliasOpened (g : Env) (at : ℕ) (r : tree.RegionName) (of : TypeName) (x p : tree.Name) : Type 0 where
  pub operand : UniqueOperand g p
  pub shape : settled_by (written of) (shape_of (Unique operand.nullable operand.to)) ≡ shape_of (Thin (single operand.nullable) (next_region g) operand.to)
  pub scope : (declare g (tree.Alias at r of x p)).scope ≡ extended (with_region r (with_name true) g) x
      (Thin (single operand.nullable) (next_region g) operand.to)

-- a name that is of a key
pub record KeyOperand (g : Env) (x : tree.Name) : Type 0 where
  pub value : Value
  pub judged : variable x.at (meant g x.text) ≡ Of value
  pub region : Region
  pub is : value.type ≡ Key region

-- a dynamic region, whose name and key are in scope from here on; the region is closed
abbrev pub KeyDeclared : Env → ℕ → tree.RegionName → tree.Name → Type 0
KeyDeclared g at r x = ((declare g (tree.NewKey at r x)).scope ≡ extended (with_region r (with_name false) g) x (Key (next_region g)))

-- a key's region, which is live from here on, and its handle
pub record KeyOpened (g : Env) (at : ℕ) (r : tree.RegionName) (x k : tree.Name) : Type 0 where
  pub operand : KeyOperand g k
  pub scope : (declare g (tree.Open at r x k)).scope ≡ extended (record g { regions = opened operand.region g.regions }) x (Handle operand.region)

abbrev pub DeclarationJudged : Env → tree.Declaration → Type 0
DeclarationJudged g (tree.Local of x Initializer.Unset) = LocalUnset g of x
DeclarationJudged g (tree.Local of x (Initializer.Elements count)) = LocalArray g of x count
DeclarationJudged g (tree.Local of x (Initializer.Value e)) = LocalSet g of x e
DeclarationJudged g (tree.Region at r x) = RegionOpened g at r x
DeclarationJudged g (tree.Alias at r of x p) = AliasOpened g at r of x p
DeclarationJudged g (tree.NewKey at r x) = KeyDeclared g at r x
DeclarationJudged g (tree.Open at r x k) = KeyOpened g at r x k

-- a result that converts to the type that the function gives
pub record Returned (g : Env) (e : Expression) : Type 0 where
  pub gives : StaticType
  pub result : g.result ≡ Some gives
  pub object : IsObjectType gives
  pub fitting : Fitting g e gives

-- two places of one type of one cell, in the second of which nothing is called, made or assigned
pub record Exchanging (g : Env) (a b : Expression) : Type 0 where
  pub left : Accepted g a
  pub right : Accepted g b
  pub fits : exchangeable left.value right.value ≡ true
  pub still : acts b ≡ []

-- ---- `switch`

-- the union place that a `switch` is on: it is known, and the clauses are for its members
pub record Switching (g : Env) (e : Expression) (cs : Clauses) : Type 0 where
  pub accepted : Accepted g e
  pub tag : List ℕ
  pub regions : List Region
  pub is : accepted.value.type ≡ Union tag regions
  pub place : chosen (judge g e) ≡ Some (record { tag = tag; regions = regions })
  pub fit : clauses_fit g (record { tag = tag; regions = regions }) cs ≡ true

abbrev pub on_union : {g : Env} {e : Expression} {cs : Clauses} → Switching g e cs → Chosen
on_union s = record { tag = s.tag; regions = s.regions }

-- the name of a clause stands for a copy of its member
pub record ClauseNamed (g : Env) (c : Chosen) (f x : tree.Name) : Type 0 where
  pub part : Part
  pub type : StaticType
  pub found : part_in (parts_in g.tables c.tag) f.text ≡ Some part
  pub typed : part.type ≡ Some type
  pub scope : clause_scope g (Some c) (Case f x) ≡ extended (block_entered g) x (renamed (argument c.regions) type)

abbrev pub PatternJudged : Env → Chosen → tree.Pattern → Type 0
PatternJudged g c Default = Unit {0}
PatternJudged g c (Case f x) = ClauseNamed g c f x

-- ---- all statements

-- The Boolean tells whether the start is reachable. `return` without a value stands in a function that gives none, `break` and `continue` in a loop, or in a
-- `switch`; a clause whose start is reachable isn't left at its end.
abbrev mutual
  pub StatementJudged : Env → Bool → Statement → Type 0
  StatementJudged g reached (Statement.Empty at) = Unit {0}
  StatementJudged g reached (Statement.Block at items) = ItemsJudged (block_entered g) reached items
  StatementJudged g reached (Statement.Run e) = Accepted g e
  StatementJudged g reached (Statement.If at e body) = Condition g e × StatementJudged g reached body
  StatementJudged g reached (Statement.IfElse at e body otherwise) =
      Condition g e × (StatementJudged g reached body × StatementJudged g reached otherwise)
  StatementJudged g reached (Statement.While at e body) = Condition g e × StatementJudged (in_a_loop g) reached body
  StatementJudged g reached (Statement.Switch at e cs) = (s : Switching g e cs) × ClausesJudged (in_a_switch g) reached (on_union s) cs
  StatementJudged g reached (Statement.Break at) = (g.in_loop || g.in_switch ≡ true)
  StatementJudged g reached (Statement.Continue at) = (g.in_loop ≡ true)
  StatementJudged g reached (Statement.Return at None) = (g.result ≡ Some Void)
  StatementJudged g reached (Statement.Return at (Some e)) = Returned g e
  StatementJudged g reached (Statement.Exchange a b) = Exchanging g a b
  StatementJudged g reached (Statement.FreeUnique at p) = UniqueOperand g p
  StatementJudged g reached (Statement.FreeKey at k) = KeyOperand g k

  pub ItemsJudged : Env → Bool → BlockItems → Type 0
  ItemsJudged g reached NoItems = Unit {0}
  ItemsJudged g reached (Declare d others) = DeclarationJudged g d × ItemsJudged (declare g d).scope reached others
  ItemsJudged g reached (Execute s others) = StatementJudged g reached s × ItemsJudged g (reached && (ways_of s).falls) others

  pub ClausesJudged : Env → Bool → Chosen → Clauses → Type 0
  ClausesJudged g reached c NoClauses = Unit {0}
  ClausesJudged g reached c (MoreClauses at pattern body others) =
      (reached && (ways_of_items body).falls ≡ false) × PatternJudged g c pattern × ItemsJudged (clause_scope g (Some c) pattern) reached body
      × ClausesJudged g reached c others
