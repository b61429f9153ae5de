-- Believed: what an expression denotes in a scope.
use Rattle.std.specs.Prelude.{ℕ, Bool, true, false, None, List, [], ◌∷◌}
use Rattle.cyc_tree.specs.Tree.{Expression, Expressions, NoExpressions, MoreExpressions, Links, NoLinks, MoreLinks, Suffixes, NoSuffixes, Index, Dot, Arrow}
use Rattle.cyc_tree.specs.Tree.{Made, One, Array}
use Rattle.source_meaning.specs.Shapes.{Shared, CharShape, UnsignedShape, VoidShape, MayBeNull, ThinShape, FatShape, HandleShape}
use Rattle.source_meaning.specs.Memory.{AsChar, Thin, HandleOf}
use Rattle.source_meaning.specs.Steps.{Variable, Scope, give, ◌>>=◌, need}
use Rattle.source_meaning.specs.Making.{heap_maker}
use Rattle.source_meaning.specs.Places.{Sense, value_sense, no_sense, entity_of, with_binding, entity_sense, string_at, contents, indexed, member, assigned}
use Rattle.source_meaning.specs.Calls.{constant, number_type, applied, all_true, any_true, tested, prefixed, counted, call_sense, union_made, made, index_in}
use Rattle.source_meaning.specs.Calls.{array_made, handle_maker, made_in}

-- `unique_region` is no value, and stands as the handle of `rnew` alone, in parentheses too
abbrev pub is_unique_region : Expression → Bool
is_unique_region (Expression.UniqueRegion at) = true
is_unique_region (Expression.Grouped at inner) = is_unique_region inner
is_unique_region _ = false

-- what is in scope in an array's elements: the index too, a variable of their block's activation
abbrev pub element_scope : Scope → List ℕ → ℕ → Scope
element_scope scope index k = with_binding (record scope { frame = k }) index (Variable UnsignedShape (index_in k))

abbrev mutual
  -- An expression. A literal is a value, a name what it stands for; parentheses change nothing.
  pub sense : Expression → Scope → Sense
  sense (Expression.Number at value suffix) scope = constant (number_type value suffix) value
  sense (Expression.Character at byte) scope = constant AsChar byte
  sense (Expression.Text at bytes) scope = value_sense (FatShape CharShape) (need (string_at scope.world.strings at) >>= λ v. give (v ∷ []))
  sense (Expression.Null at) scope = value_sense (ThinShape (MayBeNull 1) Shared VoidShape) (give (Thin None ∷ []))
  -- the heap is the birth 0
  sense (Expression.HeapRegion at) scope = value_sense HandleShape (give (HandleOf 0 ∷ []))
  sense (Expression.UniqueRegion at) scope = no_sense
  sense (Expression.Variable name) scope = entity_sense scope.world (entity_of scope name.text)
  sense (Expression.Call name arguments) scope = call_sense scope.world name.text (senses arguments scope)
  sense (Expression.MakeUnion tag f value) scope = union_made scope.world tag.text f.text (sense value scope)
  sense (Expression.NumElts at operand) scope = counted (sense operand scope)
  sense (Expression.Grouped at inner) scope = sense inner scope
  sense (Expression.Suffixed primary suffixes) scope = suffixed suffixes scope (sense primary scope)
  sense (Expression.Prefixed at operator operand) scope = prefixed scope.world operator (sense operand scope)
  sense (Expression.New at new) scope = new_sense new scope
  sense (Expression.NewIn at handle new) scope = new_in_sense new scope (is_unique_region handle) (sense handle scope)
  sense (Expression.Chain first others) scope = linked others scope (sense first scope)
  sense (Expression.AllOf first others) scope = tested (all_true (sense first scope ∷ senses others scope))
  sense (Expression.AnyOf first others) scope = tested (any_true (sense first scope ∷ senses others scope))
  sense (Expression.Assign place value) scope = assigned scope.world (sense place scope) (sense value scope)

  -- arguments or operands, from the left
  pub senses : Expressions → Scope → List Sense
  senses NoExpressions scope = []
  senses (MoreExpressions first others) scope = sense first scope ∷ senses others scope

  -- operands of one level, from the left
  pub linked : Links → Scope → Sense → Sense
  linked NoLinks scope left = left
  linked (MoreLinks operator operand others) scope left = linked others scope (applied operator left (sense operand scope))

  -- suffixes, from the left; e->f is (*e).f
  pub suffixed : Suffixes → Scope → Sense → Sense
  suffixed NoSuffixes scope e = e
  suffixed (Index index others) scope e = suffixed others scope (indexed scope.world e (sense index scope))
  suffixed (Dot f others) scope e = suffixed others scope (member scope.world e f.text)
  suffixed (Arrow f others) scope e = suffixed others scope (member scope.world (contents scope.world e) f.text)

  -- `new`, in the heap
  pub new_sense : Made → Scope → Sense
  new_sense (One value) scope = made scope.world heap_maker Shared (sense value scope)
  new_sense (Array index count element) scope =
      array_made scope.world heap_maker (sense count scope)
      (λ k. sense element (element_scope scope index.text k))

  -- `rnew`, in the unique region or that of the handle
  pub new_in_sense : Made → Scope → Bool → Sense → Sense
  new_in_sense (One value) scope in_unique handle = made_in scope.world in_unique handle (sense value scope)
  new_in_sense (Array index count element) scope in_unique handle =
      array_made scope.world (handle_maker handle) (sense count scope)
      (λ k. sense element (element_scope scope index.text k))
