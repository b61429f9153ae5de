-- Believed: the syntax tree of a text: what all definitions of the language speak of. A number `at` is a place: the offset in the text of the first byte of the
-- form's first token.
use Rattle.std.specs.Prelude.{ℕ, Bool, List, Option}
use Rattle.cyc_tree.specs.declared.expression.Operator.{Operator}
use Rattle.cyc_tree.specs.declared.expression.Prefix.{Prefix}
use Rattle.cyc_tree.specs.declared.name.Sign.{Sign}

-- ---- names and types

-- a name: where it stands, and its spelling
pub record Name : Type 0 where
  pub at : ℕ
  pub text : List ℕ

-- a region name: the heap, the unique region, or another one
pub data RegionName : Type 0 where
  Heap : (at : ℕ) → RegionName
  Unique : (at : ℕ) → RegionName
  Named : Name → RegionName

-- what a type begins with; a struct and a union have their region arguments, where such are written
pub data Base : Type 0 where
  Int : Base
  Unsigned : Base
  Char : Base
  Void : Base
  Struct : (tag : Name) (arguments : List RegionName) → Base
  Union : (tag : Name) (arguments : List RegionName) → Base
  Handle : (region : RegionName) → Base
  Key : (region : RegionName) → Base

-- a pointer's sign, and its region where one is written
pub record Pointer : Type 0 where
  pub sign : Sign
  pub region : Option RegionName

-- a type: its base, and the pointers to it from the base outwards
pub record TypeName : Type 0 where
  pub at : ℕ
  pub base : Base
  pub pointers : List Pointer

-- ---- expressions

mutual
  pub data Expression : Type 0 where
    -- a number, and whether it has the suffix
    Number : (at value : ℕ) (suffix : Bool) → Expression
    Character : (at byte : ℕ) → Expression
    -- a string's bytes, without the final 0
    Text : (at : ℕ) (bytes : List ℕ) → Expression
    Null : (at : ℕ) → Expression
    HeapRegion : (at : ℕ) → Expression
    UniqueRegion : (at : ℕ) → Expression
    Variable : Name → Expression
    -- a call, or the making of a struct
    Call : (name : Name) (arguments : Expressions) → Expression
    -- the making of a union value
    MakeUnion : (tag member : Name) (value : Expression) → Expression
    NumElts : (at : ℕ) (operand : Expression) → Expression
    -- an expression in parentheses
    Grouped : (at : ℕ) (inner : Expression) → Expression
    -- a primary with its suffixes
    Suffixed : (primary : Expression) (suffixes : Suffixes) → Expression
    Prefixed : (at : ℕ) (operator : Prefix) (operand : Expression) → Expression
    -- `new`, and `rnew` with its handle
    New : (at : ℕ) (made : Made) → Expression
    NewIn : (at : ℕ) (handle : Expression) (made : Made) → Expression
    -- operands of one level of binary operators, from the left
    Chain : (first : Expression) (others : Links) → Expression
    -- operands of `&&`, and of `||`
    AllOf : (first : Expression) (others : Expressions) → Expression
    AnyOf : (first : Expression) (others : Expressions) → Expression
    Assign : (place value : Expression) → Expression

  pub data Expressions : Type 0 where
    NoExpressions : Expressions
    MoreExpressions : (first : Expression) (others : Expressions) → Expressions

  pub data Links : Type 0 where
    NoLinks : Links
    MoreLinks : (operator : Operator) (operand : Expression) (others : Links) → Links

  pub data Suffixes : Type 0 where
    NoSuffixes : Suffixes
    Index : (index : Expression) (others : Suffixes) → Suffixes
    Dot : (member : Name) (others : Suffixes) → Suffixes
    Arrow : (member : Name) (others : Suffixes) → Suffixes

  pub data Made : Type 0 where
    One : (value : Expression) → Made
    -- `{for index < count : element}`
    Array : (index : Name) (count element : Expression) → Made

-- ---- declarations and statements

-- what a local begins with
pub data Initializer : Type 0 where
  Unset : Initializer
  Elements : (count : ℕ) → Initializer
  Value : Expression → Initializer

pub data Declaration : Type 0 where
  Local : (of : TypeName) (name : Name) (initializer : Initializer) → Declaration
  Region : (at : ℕ) (region : RegionName) (handle : Name) → Declaration
  Open : (at : ℕ) (region : RegionName) (handle key : Name) → Declaration
  Alias : (at : ℕ) (region : RegionName) (of : TypeName) (alias pointer : Name) → Declaration
  NewKey : (at : ℕ) (region : RegionName) (key : Name) → Declaration

-- the local that a declaration declares
abbrev pub local_of : Declaration → Name
local_of (Local of name initializer) = name
local_of (Region at region handle) = handle
local_of (Open at region handle key) = handle
local_of (Alias at region of alias pointer) = alias
local_of (NewKey at region key) = key

-- which members a clause takes: one, whose value the name stands for, or all that no other clause names
pub data Pattern : Type 0 where
  Case : (member name : Name) → Pattern
  Default : Pattern

mutual
  pub data Statement : Type 0 where
    Empty : (at : ℕ) → Statement
    Block : (at : ℕ) (items : BlockItems) → Statement
    -- an expression, whose value is discarded
    Run : Expression → Statement
    Exchange : (left right : Expression) → Statement
    If : (at : ℕ) (condition : Expression) (body : Statement) → Statement
    IfElse : (at : ℕ) (condition : Expression) (body otherwise : Statement) → Statement
    While : (at : ℕ) (condition : Expression) (body : Statement) → Statement
    Switch : (at : ℕ) (place : Expression) (clauses : Clauses) → Statement
    Break : (at : ℕ) → Statement
    Continue : (at : ℕ) → Statement
    Return : (at : ℕ) (value : Option Expression) → Statement
    FreeUnique : (at : ℕ) (pointer : Name) → Statement
    FreeKey : (at : ℕ) (key : Name) → Statement

  pub data BlockItems : Type 0 where
    NoItems : BlockItems
    Declare : Declaration → BlockItems → BlockItems
    Execute : Statement → BlockItems → BlockItems

  pub data Clauses : Type 0 where
    NoClauses : Clauses
    MoreClauses : (at : ℕ) (pattern : Pattern) (body : BlockItems) (others : Clauses) → Clauses

-- ---- items

-- a member of a struct or union, or a parameter
pub record Member : Type 0 where
  pub of : TypeName
  pub name : Name

-- a struct or a tagged union
pub record Structure : Type 0 where
  pub at : ℕ
  pub tag : Name
  pub regions : List RegionName
  pub members : List Member

pub data Constant : Type 0 where
  -- a number, or its negative, and whether it has the suffix
  Number : (at value : ℕ) (suffix : Bool) → Constant
  Negative : (at value : ℕ) (suffix : Bool) → Constant
  Character : (at byte : ℕ) → Constant
  Text : (at : ℕ) (bytes : List ℕ) → Constant
  Null : (at : ℕ) → Constant

-- what a global begins with
pub data Initial : Type 0 where
  Unset : Initial
  Elements : (count : ℕ) → Initial
  Given : Constant → Initial

pub record Global : Type 0 where
  pub of : TypeName
  pub name : Name
  pub initial : Initial

-- the first region outlives the second
pub record Bound : Type 0 where
  pub longer : RegionName
  pub shorter : RegionName

pub record Function : Type 0 where
  pub result : TypeName
  pub name : Name
  pub parameters : List Member
  pub effect : Option (List RegionName)
  pub bounds : List Bound
  pub body : BlockItems
  -- the place of the closing brace
  pub end : ℕ

pub data Item : Type 0 where
  StructItem : Structure → Item
  UnionItem : Structure → Item
  GlobalItem : Global → Item
  FunctionItem : Function → Item

-- a program: its items, in order
abbrev pub Program : Type 0
Program = List Item
