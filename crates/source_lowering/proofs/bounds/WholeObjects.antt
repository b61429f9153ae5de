-- The temporary objects of what is taken are structs and unions of the program.
use Rattle.std.proofs.Common.{◌≡◌, ℕ, suc, Some, List, [], ◌∷◌, ◌++◌, Bool, true, false, refl, sym, ◌∙◌}
use Rattle.std.specs.Prelude.{bytes_eq, codes, if◌then◌else◌}
use Rattle.std.proofs.lemmas.Bool.{false≢true, true≢false}
use Rattle.cyc_tree.specs.Tree as tree
use Rattle.cyc_tree.specs.declared.expression.Prefix.{Prefix}
use Rattle.cyc_tree.specs.declared.expression.Prefix.TheVariants as prefix
use Rattle.cyc_tree.specs.Tree.{
  Expression,
  Expressions,
  NoExpressions,
  MoreExpressions,
  Links,
  NoLinks,
  MoreLinks,
  Suffixes,
  NoSuffixes,
  Index,
  Dot,
  Arrow,
  Made,
  One,
  Array,
}
use Rattle.cyc_tree.specs.Tree.{Initializer, Declaration, Statement, BlockItems, NoItems, Declare, Execute, Clauses, NoClauses, MoreClauses, Case, Default}
use Rattle.source_meaning.specs.Shapes.{Shape, StructShape, UnionShape, Layout, Part, part_shape, parts_of, has_tag, written}
use Rattle.source_meaning.specs.Steps.{World}
use Rattle.source_lowering.specs.Lowered.{Named, element_names, static_shape, values_by, expression_values, suffix_values, all_values, link_values, new_values}
use Rattle.source_lowering.specs.Lowered.{union_parts}
use Rattle.source_lowering.specs.Whole.{makes_struct, is_made, whole_values, made_values, assigned_values, dropped_values, run_values}
use Rattle.source_lowering.specs.Programs.{named_here, outward, initial_values, declaration_values, statement_values, item_values, case_values}
use Rattle.source_lowering.specs.Programs.{default_values}
use Rattle.source_lowering.specs.Lowerable.{
  IsObject,
  AreObjects,
  IsWholeShape,
  Takes,
  TakesAll,
  TakesLinks,
  TakesNew,
  TakesSuffixes,
  TakesIndices,
  TakesPrefix,
  TakesPointer,
  TakesMember,
  TakesPlace,
  TakesWhole,
  TakesMade,
  TakesAssigned,
  TakesDropped,
  TakesCalled,
  TakesRun,
  TakesValue,
  TakesDeclaration,
  TakesStatement,
  TakesItems,
  TakesClauses,
}
use Rattle.source_lowering.proofs.expressions.Indices.{indices_taken}
use Rattle.source_meaning.specs.Shapes.{settled_by}
use Rattle.source_lowering.specs.Programs.{names_behind}

-- ---- expressions

-- the name that makes a struct is its tag
pub made_tag : (w : World) (name : List ℕ) → makes_struct w name ≡ true → has_tag w.structs name ≡ true
made_tag w name h = by (bytes_eq name (codes "getchar")) (bytes_eq name (codes "putchar")) h
  where
    by : (reads writes : Bool) → (if reads then false else (if writes then false else has_tag w.structs name)) ≡ true → has_tag w.structs name ≡ true
    by true writes h = absurd (false≢true h)
    by false true h = absurd (false≢true h)
    by false false h = h

pub struct_object : (unions structs : List Layout) (s : Shape) → IsWholeShape unions structs s → IsObject unions structs s
struct_object unions structs (StructShape tag) h = h
struct_object unions structs (UnionShape tag) h = h
struct_object unions structs _ h = absurd h

both_objects : (unions structs : List Layout) (ss us : List Shape) → AreObjects unions structs ss → AreObjects unions structs us
    → AreObjects unions structs (ss ++ us)
both_objects unions structs [] us h g = g
both_objects unions structs (s ∷ ss) us h g = (h.0, both_objects unions structs ss us h.1 g)

-- the values of a value of a shape
value_objects : (unions structs : List Layout) (s : Shape) (whole word : List Shape) (for_whole for_word : Type 0) → TakesMember s for_whole for_word
    → (for_whole → AreObjects unions structs whole) → (for_word → AreObjects unions structs word) → AreObjects unions structs (values_by s whole word)
value_objects unions structs (StructShape tag) whole word for_whole for_word h wholes words = wholes h
value_objects unions structs (UnionShape tag) whole word for_whole for_word h wholes words = wholes h
value_objects unions structs _ whole word for_whole for_word h wholes words = words h

-- what stands on the left of suffixes is taken
pub suffixed_objects : (w : World) (names : List Named) (suffixes : Suffixes) (s : Shape) (value place : Type 0) (goal : Type 0)
    → TakesSuffixes w names suffixes s value place → (value → goal) → (place → goal) → goal
suffixed_objects w names NoSuffixes s value place goal h by_value by_place = absurd h
suffixed_objects w names (Index index others) s value place goal h by_value by_place = by_value h.0
suffixed_objects w names (Dot f others) s value place goal h by_value by_place = by_place h.0
suffixed_objects w names (Arrow f others) s value place goal h by_value by_place = by_value h.0

-- the values of the indices, and then those of what stands on the left
primary_objects : (w : World) (names : List Named) (primary : Expression) (suffixes : Suffixes)
    → TakesSuffixes w names suffixes (static_shape w names primary) (Takes w names primary) (TakesPlace w names primary)
    → (TakesIndices w names suffixes → AreObjects w.unions w.structs (suffix_values w names suffixes))
    → (Takes w names primary → AreObjects w.unions w.structs (expression_values w names primary))
    → (TakesPlace w names primary → AreObjects w.unions w.structs (expression_values w names primary))
    → AreObjects w.unions w.structs (suffix_values w names suffixes ++ expression_values w names primary)
primary_objects w names primary suffixes h indices by_value by_place =
    both_objects w.unions w.structs (suffix_values w names suffixes) (expression_values w names primary)
    (indices (indices_taken w names suffixes (static_shape w names primary) (Takes w names primary) (TakesPlace w names primary) h))
    (suffixed_objects w names suffixes (static_shape w names primary) (Takes w names primary) (TakesPlace w names primary)
    (AreObjects w.unions w.structs (expression_values w names primary)) h by_value by_place)

pub prefixed_objects : (operator : Prefix) (s : Shape) (value place : Type 0) (goal : Type 0) → TakesPrefix operator s value place → (value → goal)
    → (place → goal) → goal
prefixed_objects prefix.Negate s value place goal h by_value by_place = by_value h
prefixed_objects prefix.Complement s value place goal h by_value by_place = by_value h
prefixed_objects prefix.Not s value place goal h by_value by_place = by_value h
prefixed_objects prefix.Dereference s value place goal h by_value by_place = by_value h.0
prefixed_objects prefix.AddressOf s value place goal h by_value by_place = by_place h

pub pointed_objects : (operator : Prefix) (value : Type 0) (goal : Type 0) → TakesPointer operator value → (value → goal) → goal
pointed_objects prefix.Negate value goal h by_value = absurd h
pointed_objects prefix.Complement value goal h by_value = absurd h
pointed_objects prefix.Not value goal h by_value = absurd h
pointed_objects prefix.Dereference value goal h by_value = by_value h
pointed_objects prefix.AddressOf value goal h by_value = absurd h

mutual
  pub expression_objects : (w : World) (names : List Named) (e : Expression) → Takes w names e → AreObjects w.unions w.structs (expression_values w names e)
  expression_objects w names (Expression.Call name arguments) h = all_objects w names arguments h.1
  expression_objects w names (Expression.Grouped at inner) h = expression_objects w names inner h
  expression_objects w names (Expression.Suffixed primary suffixes) h =
      primary_objects w names primary suffixes h.0 (λ g. index_objects w names suffixes g) (λ g. expression_objects w names primary g)
      (λ g. place_objects w names primary g)
  expression_objects w names (Expression.Prefixed at operator operand) h =
      prefixed_objects operator (static_shape w names operand) (Takes w names operand) (TakesPlace w names operand)
      (AreObjects w.unions w.structs (expression_values w names operand)) h (λ g. expression_objects w names operand g) (λ g. place_objects w names operand g)
  expression_objects w names (Expression.New at new) h = new_objects w names new h
  expression_objects w names (Expression.NewIn at handle new) h =
      both_objects w.unions w.structs (expression_values w names handle) (new_values w names new) (expression_objects w names handle h.0)
      (new_objects w names new h.1)
  expression_objects w names (Expression.Chain first others) h =
      both_objects w.unions w.structs (expression_values w names first) (link_values w names others) (expression_objects w names first h.0)
      (link_objects w names others h.1)
  expression_objects w names (Expression.AllOf first others) h =
      both_objects w.unions w.structs (expression_values w names first) (all_values w names others) (expression_objects w names first h.0)
      (all_objects w names others h.1)
  expression_objects w names (Expression.AnyOf first others) h =
      both_objects w.unions w.structs (expression_values w names first) (all_values w names others) (expression_objects w names first h.0)
      (all_objects w names others h.1)
  expression_objects w names (Expression.Assign place value) h =
      both_objects w.unions w.structs (expression_values w names value) (expression_values w names place) (expression_objects w names value h.1.0)
      (place_objects w names place h.0)
  expression_objects w names (Expression.Number at value suffix) h = tt
  expression_objects w names (Expression.Character at byte) h = tt
  expression_objects w names (Expression.Text at bytes) h = tt
  expression_objects w names (Expression.Null at) h = tt
  expression_objects w names (Expression.HeapRegion at) h = tt
  expression_objects w names (Expression.UniqueRegion at) h = tt
  expression_objects w names (Expression.Variable name) h = tt
  expression_objects w names (Expression.MakeUnion tag f value) h = tt
  expression_objects w names (Expression.NumElts at operand) h = expression_objects w names operand h

  pub place_objects : (w : World) (names : List Named) (e : Expression) → TakesPlace w names e → AreObjects w.unions w.structs (expression_values w names e)
  place_objects w names (Expression.Variable name) h = tt
  place_objects w names (Expression.Grouped at inner) h = place_objects w names inner h
  place_objects w names (Expression.Suffixed primary suffixes) h =
      primary_objects w names primary suffixes h (λ g. index_objects w names suffixes g) (λ g. expression_objects w names primary g)
      (λ g. place_objects w names primary g)
  place_objects w names (Expression.Prefixed at operator operand) h =
      pointed_objects operator (Takes w names operand) (AreObjects w.unions w.structs (expression_values w names operand)) h
      (λ g. expression_objects w names operand g)
  place_objects w names _ h = absurd h

  index_objects : (w : World) (names : List Named) (suffixes : Suffixes) → TakesIndices w names suffixes
      → AreObjects w.unions w.structs (suffix_values w names suffixes)
  index_objects w names NoSuffixes h = tt
  index_objects w names (Index index others) h =
      both_objects w.unions w.structs (suffix_values w names others) (expression_values w names index) (index_objects w names others h.1)
      (expression_objects w names index h.0)
  index_objects w names (Dot f others) h = index_objects w names others h
  index_objects w names (Arrow f others) h = index_objects w names others h

  all_objects : (w : World) (names : List Named) (es : Expressions) → TakesAll w names es → AreObjects w.unions w.structs (all_values w names es)
  all_objects w names NoExpressions h = tt
  all_objects w names (MoreExpressions first others) h =
      both_objects w.unions w.structs (expression_values w names first) (all_values w names others) (expression_objects w names first h.0)
      (all_objects w names others h.1)

  link_objects : (w : World) (names : List Named) (links : Links) → TakesLinks w names links → AreObjects w.unions w.structs (link_values w names links)
  link_objects w names NoLinks h = tt
  link_objects w names (MoreLinks operator operand others) h =
      both_objects w.unions w.structs (expression_values w names operand) (link_values w names others) (expression_objects w names operand h.0)
      (link_objects w names others h.1)

  new_objects : (w : World) (names : List Named) (new : Made) → TakesNew w names new → AreObjects w.unions w.structs (new_values w names new)
  new_objects w names (One value) h =
      value_objects w.unions w.structs (static_shape w names value) (whole_values w names value) (expression_values w names value) (TakesWhole w names value)
      (Takes w names value) h.1 (λ g. whole_objects w names value g) (λ g. expression_objects w names value g)
  new_objects w names (Array index count element) h =
      let inner = element_names index.text names in
      both_objects w.unions w.structs (expression_values w names count)
      (values_by (static_shape w inner element) (whole_values w inner element) (expression_values w inner element))
      (expression_objects w names count h.0)
      (value_objects w.unions w.structs (static_shape w inner element) (whole_values w inner element) (expression_values w inner element)
      (TakesWhole w inner element) (Takes w inner element) h.1.1 (λ g. whole_objects w inner element g) (λ g. expression_objects w inner element g))

  pub whole_objects : (w : World) (names : List Named) (e : Expression) → TakesWhole w names e → AreObjects w.unions w.structs (whole_values w names e)
  whole_objects w names (Expression.Call name arguments) h =
      (made_tag w name.text h.0, made_objects w names (parts_of w.structs name.text) arguments h.1)
  whole_objects w names (Expression.MakeUnion tag member value) h = (h.0, expression_objects w names value h.1.1)
  whole_objects w names (Expression.Grouped at inner) h = whole_objects w names inner h
  whole_objects w names (Expression.Variable name) h = (struct_object w.unions w.structs (static_shape w names (Expression.Variable name)) h.1, tt)
  whole_objects w names (Expression.Suffixed primary suffixes) h = (
    struct_object w.unions w.structs (static_shape w names (Expression.Suffixed primary suffixes)) h.1,
    primary_objects w names primary suffixes h.0 (λ g. index_objects w names suffixes g) (λ g. expression_objects w names primary g)
        (λ g. place_objects w names primary g),
  )
  whole_objects w names (Expression.Prefixed at operator operand) h = (
    struct_object w.unions w.structs (static_shape w names (Expression.Prefixed at operator operand)) h.1,
    pointed_objects operator (Takes w names operand) (AreObjects w.unions w.structs (expression_values w names operand)) h.0
        (λ g. expression_objects w names operand g),
  )
  whole_objects w names _ h = absurd h

  made_objects : (w : World) (names : List Named) (ps : List Part) (arguments : Expressions) → TakesMade w names ps arguments
      → AreObjects w.unions w.structs (made_values w names ps arguments)
  made_objects w names [] arguments h = tt
  made_objects w names (p ∷ ps) NoExpressions h = tt
  made_objects w names (p ∷ ps) (MoreExpressions first others) h =
      both_objects w.unions w.structs (values_by p.shape (whole_values w names first) (expression_values w names first)) (made_values w names ps others)
      (value_objects w.unions w.structs p.shape (whole_values w names first) (expression_values w names first) (TakesWhole w names first) (Takes w names first)
      h.0 (λ g. whole_objects w names first g) (λ g. expression_objects w names first g))
      (made_objects w names ps others h.1)

-- what is taken whole and isn't made is a place
pub unmade_place : (w : World) (names : List Named) (e : Expression) → TakesWhole w names e → is_made w e ≡ false → TakesPlace w names e
unmade_place w names (Expression.Call name arguments) h is = absurd (true≢false (sym h.0 ∙ is))
unmade_place w names (Expression.MakeUnion tag member value) h is = absurd (true≢false is)
unmade_place w names (Expression.Grouped at inner) h is = unmade_place w names inner h is
unmade_place w names (Expression.Variable name) h is = tt
unmade_place w names (Expression.Suffixed primary _) h is = h.0
unmade_place w names (Expression.Prefixed at operator operand) h is = h.0
unmade_place w names _ h is = absurd h

-- of a struct or a union
pub unmade_struct : (w : World) (names : List Named) (e : Expression) → TakesWhole w names e → is_made w e ≡ false
    → IsWholeShape w.unions w.structs (static_shape w names e)
unmade_struct w names (Expression.Call name arguments) h is = absurd (true≢false (sym h.0 ∙ is))
unmade_struct w names (Expression.MakeUnion tag member value) h is = absurd (true≢false is)
unmade_struct w names (Expression.Grouped at inner) h is = unmade_struct w names inner h is
unmade_struct w names (Expression.Variable name) h is = h.1
unmade_struct w names (Expression.Suffixed primary _) h is = h.1
unmade_struct w names (Expression.Prefixed at operator operand) h is = h.1
unmade_struct w names _ h is = absurd h

-- ---- statements

-- a struct or a union that is assigned, or a word
assigned_objects : (w : World) (names : List Named) (s : Shape) (place value : Expression) → TakesAssigned w names s place value
    → AreObjects w.unions w.structs (assigned_values w names s place value)
assigned_objects w names (StructShape tag) place value h =
    both_objects w.unions w.structs (whole_values w names value) (expression_values w names place) (whole_objects w names value h.1.0)
    (place_objects w names place h.0)
assigned_objects w names (UnionShape tag) place value h =
    both_objects w.unions w.structs (whole_values w names value) (expression_values w names place) (whole_objects w names value h.1.0)
    (place_objects w names place h.0)
assigned_objects w names _ place value h =
    both_objects w.unions w.structs (expression_values w names value) (expression_values w names place) (expression_objects w names value h.1.0)
    (place_objects w names place h.0)

dropped_objects : (w : World) (names : List Named) (s : Shape) (e : Expression) → TakesDropped w names s e
    → AreObjects w.unions w.structs (dropped_values w names s e)
dropped_objects w names (StructShape tag) e h = whole_objects w names e h
dropped_objects w names (UnionShape tag) e h = whole_objects w names e h
dropped_objects w names _ e h = expression_objects w names e h

called_objects : (unions structs : List Layout) (made : Bool) (whole word : List Shape) (for_whole for_word : Type 0) → TakesCalled made for_whole for_word
    → (for_whole → AreObjects unions structs whole) → (for_word → AreObjects unions structs word) → AreObjects unions structs (if made then whole else word)
called_objects unions structs true whole word for_whole for_word h wholes words = wholes h
called_objects unions structs false whole word for_whole for_word h wholes words = words h

run_objects : (w : World) (names : List Named) (e : Expression) → TakesRun w names e → AreObjects w.unions w.structs (run_values w names e)
run_objects w names (Expression.Assign place value) h = assigned_objects w names (static_shape w names place) place value h
run_objects w names (Expression.Grouped at inner) h = run_objects w names inner h
run_objects w names (Expression.Call name arguments) h =
    let e = Expression.Call name arguments in
    called_objects w.unions w.structs (makes_struct w name.text) (whole_values w names e) (expression_values w names e) (TakesWhole w names e) (Takes w names e)
    h (λ k. whole_objects w names e k) (λ k. expression_objects w names e k)
run_objects w names e h = dropped_objects w names (static_shape w names e) e h

initial_objects : (w : World) (names : List Named) (s : Shape) (e : Expression) → TakesValue w names s e
    → AreObjects w.unions w.structs (initial_values w names s e)
initial_objects w names s e h = by s h
  where
    whole : TakesWhole w names e → (made : Bool) → is_made w e ≡ made
        → AreObjects w.unions w.structs (if made then whole_values w names e else expression_values w names e)
    whole h true is = whole_objects w names e h
    whole h false is = place_objects w names e (unmade_place w names e h is)

    by : (of : Shape) → TakesValue w names of e → AreObjects w.unions w.structs (initial_values w names of e)
    by (StructShape tag) h = whole h (is_made w e) refl
    by (UnionShape tag) h = whole h (is_made w e) refl
    by _ h = expression_objects w names e h

declaration_objects : (w : World) (names : List Named) (d : Declaration) → TakesDeclaration w names d
    → AreObjects w.unions w.structs (declaration_values w names d)
declaration_objects w names (tree.Local of name (Initializer.Value e)) h = initial_objects w names (settled_by (written of) (static_shape w names e)) e h.1
declaration_objects w names (tree.Local of name _) h = tt
declaration_objects w names _ h = tt

mutual
  pub statement_objects : (w : World) (result : Shape) (names : List Named) (s : Statement) → TakesStatement w result names s
      → AreObjects w.unions w.structs (statement_values w names s)
  statement_objects w result names (Statement.Block at items) h = item_objects w result (outward names) 0 items h
  statement_objects w result names (Statement.Run e) h = run_objects w names e h
  statement_objects w result names (Statement.Exchange left right) h =
      both_objects w.unions w.structs (expression_values w names left) (expression_values w names right) (place_objects w names left h.0)
      (place_objects w names right h.1.0)
  statement_objects w result names (Statement.If at condition body) h =
      both_objects w.unions w.structs (expression_values w names condition) (statement_values w names body) (expression_objects w names condition h.0)
      (statement_objects w result names body h.1)
  statement_objects w result names (Statement.IfElse at condition body otherwise) h =
      both_objects w.unions w.structs (expression_values w names condition) (statement_values w names body ++ statement_values w names otherwise)
      (expression_objects w names condition h.0)
      (both_objects w.unions w.structs (statement_values w names body) (statement_values w names otherwise) (statement_objects w result names body h.1.0)
      (statement_objects w result names otherwise h.1.1))
  statement_objects w result names (Statement.While at condition body) h =
      both_objects w.unions w.structs (expression_values w names condition) (statement_values w names body) (expression_objects w names condition h.0)
      (statement_objects w result names body h.1)
  statement_objects w result names (Statement.Switch at place clauses) h =
      let parts = union_parts w (static_shape w names place) in
      both_objects w.unions w.structs (expression_values w names place) (case_values w names parts clauses ++ default_values w names clauses)
      (place_objects w names place h.0)
      (both_objects w.unions w.structs (case_values w names parts clauses) (default_values w names clauses)
      (case_objects w result names parts clauses h.1.1) (default_objects w result names parts clauses h.1.1))
  statement_objects w result names (Statement.Return at (Some e)) h = expression_objects w names e h
  statement_objects w result names _ h = tt

  pub item_objects : (w : World) (result : Shape) (names : List Named) (index : ℕ) (items : BlockItems) → TakesItems w result names index items
      → AreObjects w.unions w.structs (item_values w names index items)
  item_objects w result names index NoItems h = tt
  item_objects w result names index (Declare d others) h =
      let inside = names_behind w names index d in
      both_objects w.unions w.structs (declaration_values w names d) (item_values w inside (suc index) others) (declaration_objects w names d h.0)
      (item_objects w result inside (suc index) others h.1)
  item_objects w result names index (Execute s others) h =
      both_objects w.unions w.structs (statement_values w names s) (item_values w names index others) (statement_objects w result names s h.0)
      (item_objects w result names index others h.1)

  case_objects : (w : World) (result : Shape) (names : List Named) (parts : List Part) (clauses : Clauses)
      → TakesClauses w result names parts clauses → AreObjects w.unions w.structs (case_values w names parts clauses)
  case_objects w result names parts NoClauses h = tt
  case_objects w result names parts (MoreClauses at (Case f x) body others) h =
      let inside = named_here x.text (part_shape parts f.text) 0 ∷ outward names in
      both_objects w.unions w.structs (item_values w inside 1 body) (case_values w names parts others) (item_objects w result inside 1 body h.1.0)
      (case_objects w result names parts others h.1.1)
  case_objects w result names parts (MoreClauses at Default body others) h = case_objects w result names parts others h.1

  default_objects : (w : World) (result : Shape) (names : List Named) (parts : List Part) (clauses : Clauses)
      → TakesClauses w result names parts clauses → AreObjects w.unions w.structs (default_values w names clauses)
  default_objects w result names parts NoClauses h = tt
  default_objects w result names parts (MoreClauses at (Case f x) body others) h = default_objects w result names parts others h.1.1
  default_objects w result names parts (MoreClauses at Default body others) h = item_objects w result (outward names) 0 body h.0
