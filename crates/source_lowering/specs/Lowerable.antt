-- Believed: of which programs lowering is proved, by the forms of the tree and by shapes. Each accepted program is one.
use Rattle.std.specs.Prelude.{◌≡◌, ◌<◌, ◌^◌, ℕ, suc, ◌+◌, Bool, true, false, Some, None, List, [], ◌∷◌, length}
use Rattle.cyc_tree.specs.declared.expression.Prefix.{Prefix}
use Rattle.cyc_tree.specs.declared.expression.Prefix.TheVariants as prefix
use Rattle.cyc_tree.specs.Tree as tree
use Rattle.cyc_tree.specs.Tree.{
  TypeName,
  Expression,
  Expressions,
  NoExpressions,
  MoreExpressions,
  Links,
  NoLinks,
  MoreLinks,
  Made,
  One,
  Array,
  Suffixes,
  NoSuffixes,
  Index,
  Dot,
  Arrow,
  Initializer,
  Declaration,
  Statement,
  BlockItems,
  NoItems,
  Declare,
  Execute,
  Clauses,
  NoClauses,
  MoreClauses,
  Case,
  Default,
  Member,
  Initial,
  Function,
  Item,
  Program,
}
use Rattle.source_meaning.specs.Shapes.{Shape, VoidShape, StructShape}
use Rattle.source_meaning.specs.Shapes.{UnionShape, Part, part_position, part_shape, parts_of, has_tag, pointee, written, settled, settled_by}
use Rattle.source_meaning.specs.Steps.{World, Routine}
use Rattle.source_meaning.specs.Programs.{is_main, routine_of, world_of}
use Rattle.source_meaning.specs.Strings.{Literal, program_strings}
use Rattle.source_lowering.specs.Lowered.{Named, element_names, static_shape, member_shape, suffixed_shape, union_parts}
use Rattle.source_lowering.specs.Programs.{object_shape, named_here, names_behind, outward, parameter_names}
use Rattle.source_lowering.specs.Whole.{makes_struct}
use Rattle.source_lowering.specs.Taken.{IsVoidType, IsIntType, TakesConstant}
pub use Rattle.source_lowering.specs.Objects.{
  IsKeyShape,
  IsTarget,
  IsWordShape,
  IsValueShape,
  IsObject,
  IsVariable,
  AreObjects,
  IsUnionShape,
  IsWholeShape,
  IsGivenShape,
  IsExchanged,
  IsThinShape,
  IsOperandShape,
  HasMember,
  AreValues,
  HaveFewMembers,
  AreUnions,
  AreStructs,
  IsObjectBase,
  IsKnownIn,
  HasBeginning,
  IsUnion,
  IsStruct,
  IsObjectType,
  IsWordType,
}

-- ---- expressions

-- an operator on a value of a shape; `*` and `&` are taken by their operands
abbrev pub TakesPrefix : Prefix → Shape → Type 0 → Type 0 → Type 0
TakesPrefix prefix.Negate s value place = value
TakesPrefix prefix.Complement s value place = value
TakesPrefix prefix.Not s value place = value
TakesPrefix prefix.Dereference s value place = value × IsOperandShape (pointee s)
TakesPrefix prefix.AddressOf s value place = place

-- only `*e` names a place
abbrev pub TakesPointer : Prefix → Type 0 → Type 0
TakesPointer prefix.Negate value = ⊥
TakesPointer prefix.Complement value = ⊥
TakesPointer prefix.Not value = ⊥
TakesPointer prefix.Dereference value = value
TakesPointer prefix.AddressOf value = ⊥

-- a member of a union is named
pub record IsMember (parts : List Part) (f : List ℕ) : Type 0 where
  pub number : ℕ
  pub is : part_position parts f ≡ Some number

-- what has a shape is taken as a whole, if it is a struct or a union, or else as an operand
abbrev pub TakesMember : Shape → (whole word : Type 0) → Type 0
TakesMember (StructShape tag) whole word = whole
TakesMember (UnionShape tag) whole word = whole
TakesMember s whole word = word

abbrev mutual
  -- what is assigned to, has its address taken or is a struct or a union: a name, `*e`, a member or an element, in parentheses too
  pub TakesPlace : World → List Named → Expression → Type 0
  TakesPlace w names (Expression.Variable name) = Unit {0}
  TakesPlace w names (Expression.Grouped at inner) = TakesPlace w names inner
  TakesPlace w names (Expression.Suffixed primary suffixes) =
      TakesSuffixes w names suffixes (static_shape w names primary) (Takes w names primary) (TakesPlace w names primary)
  TakesPlace w names (Expression.Prefixed at operator operand) = TakesPointer operator (Takes w names operand)
  TakesPlace w names _ = ⊥

  -- suffixes on what has a shape: `e.f` needs e's place, `e->f` and `e[i]` its value, and what they lead to has to be an object
  pub TakesSuffixes : World → List Named → Suffixes → Shape → Type 0 → Type 0 → Type 0
  TakesSuffixes w names NoSuffixes s value place = ⊥
  TakesSuffixes w names (Index index others) s value place =
      value × (Takes w names index × (IsObject w.unions w.structs (pointee s) × TakesMembers w names others (pointee s)))
  TakesSuffixes w names (Dot f others) s value place =
      place × (IsObject w.unions w.structs (member_shape w s f.text) × TakesMembers w names others (member_shape w s f.text))
  TakesSuffixes w names (Arrow f others) s value place =
      value × (IsObject w.unions w.structs (member_shape w (pointee s) f.text) × TakesMembers w names others (member_shape w (pointee s) f.text))

  -- further suffixes on what they lead to: it is a place, and a value where it is no struct and no union
  pub TakesMembers : World → List Named → Suffixes → Shape → Type 0
  TakesMembers w names NoSuffixes s = Unit {0}
  TakesMembers w names (Index index others) s =
      IsOperandShape s × (Takes w names index × (IsObject w.unions w.structs (pointee s) × TakesMembers w names others (pointee s)))
  TakesMembers w names (Dot f others) s = IsObject w.unions w.structs (member_shape w s f.text) × TakesMembers w names others (member_shape w s f.text)
  TakesMembers w names (Arrow f others) s =
      IsOperandShape s × (IsObject w.unions w.structs (member_shape w (pointee s) f.text) × TakesMembers w names others (member_shape w (pointee s) f.text))

  -- a value that is no struct and no union; a name that is called is no struct's
  pub Takes : World → List Named → Expression → Type 0
  Takes w names (Expression.Number at value suffix) = Unit {0}
  Takes w names (Expression.Character at byte) = Unit {0}
  Takes w names (Expression.Null at) = Unit {0}
  Takes w names (Expression.HeapRegion at) = Unit {0}
  Takes w names (Expression.Variable name) = IsOperandShape (static_shape w names (Expression.Variable name))
  Takes w names (Expression.Call name arguments) = (has_tag w.structs name.text ≡ false) × TakesAll w names arguments
  Takes w names (Expression.NumElts at operand) = Takes w names operand
  Takes w names (Expression.Text at bytes) = Unit {0}
  Takes w names (Expression.Grouped at inner) = Takes w names inner
  Takes w names (Expression.Suffixed primary suffixes) =
      TakesSuffixes w names suffixes (static_shape w names primary) (Takes w names primary) (TakesPlace w names primary) ×
      IsOperandShape (suffixed_shape w suffixes (static_shape w names primary))
  Takes w names (Expression.Prefixed at operator operand) =
      TakesPrefix operator (static_shape w names operand) (Takes w names operand) (TakesPlace w names operand)
  Takes w names (Expression.New at new) = TakesNew w names new
  Takes w names (Expression.NewIn at handle new) = Takes w names handle × TakesNew w names new
  -- it stands for no value, and has no code
  Takes w names (Expression.UniqueRegion at) = Unit {0}
  Takes w names (Expression.Chain first others) = Takes w names first × TakesLinks w names others
  Takes w names (Expression.AllOf first others) = Takes w names first × TakesAll w names others
  Takes w names (Expression.AnyOf first others) = Takes w names first × TakesAll w names others
  Takes w names (Expression.Assign place value) = TakesPlace w names place × (Takes w names value × IsGivenShape (static_shape w names place))
  Takes w names _ = ⊥

  pub TakesAll : World → List Named → Expressions → Type 0
  TakesAll w names NoExpressions = Unit {0}
  TakesAll w names (MoreExpressions first others) = Takes w names first × TakesAll w names others

  pub TakesLinks : World → List Named → Links → Type 0
  TakesLinks w names NoLinks = Unit {0}
  TakesLinks w names (MoreLinks operator operand others) = Takes w names operand × TakesLinks w names others

  -- An object is made: a struct, a union, a word or a fat pointer; or an array of them.
  pub TakesNew : World → List Named → Made → Type 0
  TakesNew w names (One value) =
      IsObject w.unions w.structs (static_shape w names value) ×
      TakesMember (static_shape w names value) (TakesWhole w names value) (Takes w names value)
  TakesNew w names (Array index count element) =
      Takes w names count ×
      (let inner = element_names index.text names in
      IsObject w.unions w.structs (static_shape w inner element) ×
      TakesMember (static_shape w inner element) (TakesWhole w inner element) (Takes w inner element))

  -- a struct that is made of its members, a union that is made of one of its own, or what names either
  pub TakesWhole : World → List Named → Expression → Type 0
  TakesWhole w names (Expression.Call name arguments) =
      (makes_struct w name.text ≡ true) × TakesMade w names (parts_of w.structs name.text) arguments
  TakesWhole w names (Expression.MakeUnion tag member value) =
      (has_tag w.unions tag.text ≡ true) × (IsMember (parts_of w.unions tag.text) member.text × Takes w names value)
  TakesWhole w names (Expression.Grouped at inner) = TakesWhole w names inner
  TakesWhole w names (Expression.Variable name) = Unit {0} × IsWholeShape w.unions w.structs (static_shape w names (Expression.Variable name))
  TakesWhole w names (Expression.Suffixed primary suffixes) =
      TakesSuffixes w names suffixes (static_shape w names primary) (Takes w names primary) (TakesPlace w names primary) ×
      IsWholeShape w.unions w.structs (static_shape w names (Expression.Suffixed primary suffixes))
  TakesWhole w names (Expression.Prefixed at operator operand) =
      TakesPointer operator (Takes w names operand) × IsWholeShape w.unions w.structs (static_shape w names (Expression.Prefixed at operator operand))
  TakesWhole w names _ = ⊥

  -- one argument for each member, a value of its type
  pub TakesMade : World → List Named → List Part → Expressions → Type 0
  TakesMade w names [] NoExpressions = Unit {0}
  TakesMade w names [] (MoreExpressions first others) = ⊥
  TakesMade w names (p ∷ ps) NoExpressions = ⊥
  TakesMade w names (p ∷ ps) (MoreExpressions first others) = TakesMember p.shape (TakesWhole w names first) (Takes w names first) × TakesMade w names ps others

-- the indices among suffixes are taken, each as a value
abbrev pub TakesIndices : World → List Named → Suffixes → Type 0
TakesIndices w names NoSuffixes = Unit {0}
TakesIndices w names (Index index others) = Takes w names index × TakesIndices w names others
TakesIndices w names (Dot f others) = TakesIndices w names others
TakesIndices w names (Arrow f others) = TakesIndices w names others

-- ---- structs and unions that are assigned

-- what is assigned: a struct, a union, a word or a fat pointer
abbrev pub TakesAssigned : World → List Named → Shape → (place value : Expression) → Type 0
TakesAssigned w names (StructShape tag) place value =
    TakesPlace w names place × (TakesWhole w names value × IsWholeShape w.unions w.structs (StructShape tag))
TakesAssigned w names (UnionShape tag) place value =
    TakesPlace w names place × (TakesWhole w names value × IsWholeShape w.unions w.structs (UnionShape tag))
TakesAssigned w names s place value = TakesPlace w names place × (Takes w names value × IsOperandShape s)

abbrev pub TakesDropped : World → List Named → Shape → Expression → Type 0
TakesDropped w names (StructShape tag) e = TakesWhole w names e
TakesDropped w names (UnionShape tag) e = TakesWhole w names e
TakesDropped w names s e = Takes w names e

-- what a name calls, by whether it makes a struct
abbrev pub TakesCalled : Bool → (whole word : Type 0) → Type 0
TakesCalled true whole word = whole
TakesCalled false whole word = word

-- an expression whose value is dropped: a struct or a union that is assigned, made or read, or what is neither
abbrev pub TakesRun : World → List Named → Expression → Type 0
TakesRun w names (Expression.Assign place value) = TakesAssigned w names (static_shape w names place) place value
TakesRun w names (Expression.Grouped at inner) = TakesRun w names inner
TakesRun w names (Expression.Call name arguments) =
    TakesCalled (makes_struct w name.text) (TakesWhole w names (Expression.Call name arguments)) (Takes w names (Expression.Call name arguments))
TakesRun w names e = TakesDropped w names (static_shape w names e) e

-- ---- statements

-- what a local of a shape is initialized with
abbrev pub TakesValue : World → List Named → Shape → Expression → Type 0
TakesValue w names (StructShape tag) e = TakesWhole w names e
TakesValue w names (UnionShape tag) e = TakesWhole w names e
TakesValue w names s e = Takes w names e

-- of a local of a shape
abbrev pub TakesInitializer : World → List Named → Shape → Initializer → Type 0
TakesInitializer w names shape Initializer.Unset = HasBeginning shape
TakesInitializer w names shape (Initializer.Elements count) = (count < 2 ^ 32) × HasBeginning shape
TakesInitializer w names shape (Initializer.Value e) = TakesValue w names shape e

abbrev pub TakesDeclaration : World → List Named → Declaration → Type 0
TakesDeclaration w names (tree.Local of name initializer) =
    IsObjectType w.unions w.structs of × TakesInitializer w names (object_shape w names (written of) initializer) initializer
TakesDeclaration w names (tree.Region at region handle) = Unit {0}
-- a pointer for a unique one
TakesDeclaration w names (tree.Alias at region of alias pointer) =
    let s = static_shape w names (Expression.Variable pointer) in
    IsObjectType w.unions w.structs of × (IsThinShape s × IsWordShape (settled_by (written of) s))
-- a region that a key opens, and a new key
TakesDeclaration w names (tree.Open at region handle key) = IsKeyShape (static_shape w names (Expression.Variable key))
TakesDeclaration w names (tree.NewKey at region key) = Unit {0}

-- a `return` without a value stands in a function that gives none
abbrev mutual
  pub TakesStatement : World → Shape → List Named → Statement → Type 0
  TakesStatement w result names (Statement.Empty at) = Unit {0}
  TakesStatement w result names (Statement.Block at items) = TakesItems w result (outward names) 0 items
  TakesStatement w result names (Statement.Run e) = TakesRun w names e
  TakesStatement w result names (Statement.Exchange left right) =
      TakesPlace w names left × (TakesPlace w names right × IsExchanged w.unions (static_shape w names left))
  TakesStatement w result names (Statement.If at condition body) = Takes w names condition × TakesStatement w result names body
  TakesStatement w result names (Statement.IfElse at condition body otherwise) =
      Takes w names condition × (TakesStatement w result names body × TakesStatement w result names otherwise)
  TakesStatement w result names (Statement.While at condition body) = Takes w names condition × TakesStatement w result names body
  TakesStatement w result names (Statement.Switch at place clauses) =
      TakesPlace w names place ×
      (IsUnionShape w.unions (static_shape w names place) × TakesClauses w result names (union_parts w (static_shape w names place)) clauses)
  TakesStatement w result names (Statement.Break at) = Unit {0}
  TakesStatement w result names (Statement.Continue at) = Unit {0}
  TakesStatement w result names (Statement.Return at None) = (result ≡ VoidShape)
  TakesStatement w result names (Statement.Return at (Some e)) = Takes w names e
  TakesStatement w result names (Statement.FreeUnique at pointer) = IsThinShape (static_shape w names (Expression.Variable pointer))
  TakesStatement w result names (Statement.FreeKey at key) = IsKeyShape (static_shape w names (Expression.Variable key))

  -- the next local of the block has this number
  pub TakesItems : World → Shape → List Named → ℕ → BlockItems → Type 0
  TakesItems w result names index NoItems = Unit {0}
  TakesItems w result names index (Declare d others) =
      TakesDeclaration w names d × TakesItems w result (names_behind w names index d) (suc index) others
  TakesItems w result names index (Execute s others) = TakesStatement w result names s × TakesItems w result names index others

  -- each clause is for one of these members, whose copy is its first local, or for those that aren't named
  pub TakesClauses : World → Shape → List Named → List Part → Clauses → Type 0
  TakesClauses w result names parts NoClauses = Unit {0}
  TakesClauses w result names parts (MoreClauses at (Case f x) body others) =
      IsMember parts f.text ×
      (TakesItems w result (named_here x.text (part_shape parts f.text) 0 ∷ outward names) 1 body × TakesClauses w result names parts others)
  TakesClauses w result names parts (MoreClauses at Default body others) =
      TakesItems w result (outward names) 0 body × TakesClauses w result names parts others

-- ---- items

-- what is passed: words and fat pointers
abbrev pub AreWords : List Member → Type 0
AreWords [] = Unit {0}
AreWords (m ∷ ms) = IsWordType m.of × AreWords ms

-- a word, a fat pointer, or nothing
pub data TakesResult (t : TypeName) : Type 0 where
  GivesWord : IsWordType t → TakesResult t
  GivesNothing : IsVoidType t → TakesResult t

abbrev pub TakesBody : World → Routine → Type 0
TakesBody w f = TakesItems w f.result (parameter_names f.parameters 0 []) (length f.parameters) f.body

-- `main` gives an int
pub record TakesFunction (w : World) (f : Function) : Type 0 where
  pub result : TakesResult f.result
  pub main : is_main f.name.text ≡ true → IsIntType f.result
  pub parameters : AreWords f.parameters
  pub body : TakesBody w (routine_of f)

-- a number for an integer, and NULL for a pointer that may be NULL; without one, and in an array, what has a beginning
abbrev pub TakesGlobal : Shape → Initial → Type 0
TakesGlobal shape Initial.Unset = HasBeginning shape
TakesGlobal shape (Initial.Elements count) = (count < 2 ^ 32) × HasBeginning shape
TakesGlobal shape (Initial.Given c) = TakesConstant shape c

abbrev pub TakesItem : World → Item → Type 0
TakesItem w (tree.StructItem s) = Unit {0}
TakesItem w (tree.UnionItem u) = Unit {0}
TakesItem w (tree.GlobalItem g) = IsObjectType w.unions w.structs g.of × TakesGlobal (settled (written g.of)) g.initial
TakesItem w (tree.FunctionItem f) = TakesFunction w f

abbrev pub TakesProgram : World → List Item → Type 0
TakesProgram w [] = Unit {0}
TakesProgram w (i ∷ items) = TakesItem w i × TakesProgram w items

-- strings whose bytes, with the final 0, a word counts
abbrev pub AreStrings : List Literal → Type 0
AreStrings [] = Unit {0}
AreStrings (s ∷ ss) = (length s.1 + 1 < 2 ^ 32) × AreStrings ss

-- its items are such, its unions and structs are laid out one after the other, and a word counts its strings
pub record IsLowerable (p : Program) : Type 0 where
  pub items : TakesProgram (world_of p) p
  pub unions : AreUnions (world_of p).unions
  pub structs : AreStructs (world_of p).unions (world_of p).structs
  pub strings : AreStrings (program_strings p)
