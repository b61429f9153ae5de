-- A property of steps that the steps of every act have where what comes after it has, provided that calls are of names that it may have. Here: expressions,
-- regions,
-- statements and functions.
use Rattle.std.proofs.Common.{ℕ, suc, ◌+◌, Bool, true, false, Option, Some, None, List, [], ◌∷◌, ◌++◌}
use Rattle.std.specs.List.{AllByRecursion}
use Rattle.std.specs.Prelude.{if◌then◌else◌}
use Rattle.cyc_tree.specs.Tree as tree
use Rattle.cyc_tree.specs.Tree.{Expression, Expressions, NoExpressions, MoreExpressions, Links, NoLinks, MoreLinks, Suffixes, NoSuffixes, Index, Dot, Arrow}
use Rattle.cyc_tree.specs.Tree.{Made, One, Array, Initializer, Declaration, Statement, BlockItems, NoItems, Clauses, NoClauses, MoreClauses, Case, Default}
use Rattle.cyc_tree.specs.Tree.{Constant, Initial, Item}
use Rattle.source_meaning.specs.Shapes.{Shared, Shape, VoidShape, UnionShape, HandleShape, KeyShape, Part, part_position, part_shape, written, settled}
use Rattle.source_meaning.specs.Shapes.{settled_by, same_shape}
use Rattle.source_meaning.specs.Memory.{Region, Frame, Born, Spot, Scalar, AsInt, AsChar, Integer, Thin, HandleOf, KeyOf, Tagged, Holds, Gone, Lent, Object}
use Rattle.source_meaning.specs.Memory.{Closed, is_live, is_closed, with_state, blank_object, is_moved}
use Rattle.source_meaning.specs.Steps.{Entity, Variable, Routine, World, Scope, Flow, Falls, Breaks, Continues, Returns, Act, give, ◌>>=◌, stuck, take_turn}
use Rattle.source_meaning.specs.Steps.{need}
use Rattle.source_meaning.specs.Conversions.{cells_of, element}
use Rattle.source_meaning.specs.Values.{put_content}
use Rattle.source_meaning.specs.Making.{heap_maker}
use Rattle.source_meaning.specs.Places.{Sense, entity_of, with_binding, string_at, literal_string, contents, indexed, member, or_else}
use Rattle.source_meaning.specs.Calls.{number_type, applied, handle_maker}
use Rattle.source_meaning.specs.Expressions.{is_unique_region, element_scope, sense, senses, linked, suffixed, new_sense, new_in_sense}
use Rattle.source_meaning.specs.Regions.{in_block, declared, local_with, initialised, operand_of, operand, lending, region_born, region_freed, lexical_region}
use Rattle.source_meaning.specs.Regions.{key_of, new_key, key_opened, key_closed, open_key, key_freed, unique_freed, pointer_freed, local_freed, aliased}
use Rattle.source_meaning.specs.Statements.{falls_to, after_turn, loop, exchanged, after_switch, local, declaration, Held, held_by, is_position, statement}
use Rattle.source_meaning.specs.Statements.{block_items, case_for, default_for}
use Rattle.source_meaning.specs.Programs.{is_main, result_at_end, result_of, with_arguments, turned, constant_value, constant_shape, global_stored}
use Rattle.source_meaning.specs.Programs.{globals_stored, heap_spot}
use Rattle.source_meaning.proofs.Kept.{Property, SensesKeep, SenseKeeps, Keeps, both_parts, all_true_keeps, any_true_keeps, applied_keeps, array_keeps}
use Rattle.source_meaning.proofs.Kept.{assigned_keeps, block_keeps, call_keeps, check_keeps, choose_keeps, constant_keeps, contents_keeps, converted_keeps}
use Rattle.source_meaning.proofs.Kept.{counted_keeps, entity_keeps, finally_keeps, give_keeps, handle_keeps, if_keeps, in_region_keeps, indexed_keeps, looked}
use Rattle.source_meaning.proofs.Kept.{made_in_keeps, made_keeps, member_keeps, need_keeps, no_sense_keeps, object_keeps, prefixed_keeps, put_keeps}
use Rattle.source_meaning.proofs.Kept.{read_cell_keeps, read_cells_keeps, scalar_keeps, stuck_keeps, tested_keeps, truth_keeps, union_keeps, value_is_keeps}
use Rattle.source_meaning.proofs.Kept.{write_cells_keeps}
use Rattle.source_meaning.specs.Callees.{expression_callees, expressions_callees, links_callees, suffixes_callees, made_callees, initializer_callees}
use Rattle.source_meaning.specs.Callees.{declaration_callees, statement_callees, items_callees, clauses_callees}

-- a scope's program may have calls of all these names
abbrev pub MayCallAll : Property → Scope → List (List ℕ) → Type 0
MayCallAll P scope names = AllByRecursion (P.MayCall scope.world) names

-- what follows a declaration keeps the property, whatever the declaration is of
abbrev pub KeepsWithin : Property → Scope → (Scope → Act Flow) → Type 0
KeepsWithin P scope rest = (name : List ℕ) (e : Entity) → Keeps P (rest (with_binding scope name e))

-- an act that may not be there
abbrev KeepsIfAny : Property → Option (Act Flow) → Type 0
KeepsIfAny P None = Unit {0}
KeepsIfAny P (Some act) = Keeps P act

module _ (P : Property) where
  parts : (scope : Scope) (first others : List (List ℕ)) → MayCallAll P scope (first ++ others) → MayCallAll P scope first × MayCallAll P scope others
  parts scope first others c = both_parts (P.MayCall scope.world) first others c

  -- ---- expressions

  mutual
    pub sense_keeps : (e : Expression) (scope : Scope) → MayCallAll P scope (expression_callees e) → SenseKeeps P (sense e scope)
    sense_keeps (Expression.Number at value suffix) scope c = constant_keeps P (number_type value suffix) value
    sense_keeps (Expression.Character at byte) scope c = constant_keeps P AsChar byte
    sense_keeps (Expression.Text at bytes) scope c =
        value_is_keeps P _ _ (record { go = λ next m h. (need_keeps P (string_at scope.world.strings at)).go _ m (λ v m1. h _ m1) })
    sense_keeps (Expression.Null at) scope c = value_is_keeps P _ _ (give_keeps P _)
    sense_keeps (Expression.HeapRegion at) scope c = value_is_keeps P _ _ (give_keeps P _)
    sense_keeps (Expression.UniqueRegion at) scope c = no_sense_keeps P
    sense_keeps (Expression.Variable name) scope c = entity_keeps P scope.world (entity_of scope name.text)
    sense_keeps (Expression.Call name arguments) scope c =
        call_keeps P scope.world name.text (senses arguments scope) c.0 (senses_keeps arguments scope c.1)
    sense_keeps (Expression.MakeUnion tag f value) scope c = union_keeps P scope.world tag.text f.text (sense value scope) (sense_keeps value scope c)
    sense_keeps (Expression.NumElts at operand) scope c = counted_keeps P (sense operand scope) (sense_keeps operand scope c)
    sense_keeps (Expression.Grouped at inner) scope c = sense_keeps inner scope c
    sense_keeps (Expression.Suffixed primary suffixes) scope c =
        let d = parts scope (expression_callees primary) _ c in suffixed_keeps suffixes scope (sense primary scope) (sense_keeps primary scope d.0) d.1
    sense_keeps (Expression.Prefixed at operator operand) scope c =
        prefixed_keeps P scope.world operator (sense operand scope) (sense_keeps operand scope c)
    sense_keeps (Expression.New at new) scope c = new_keeps new scope c
    sense_keeps (Expression.NewIn at handle new) scope c =
        let d = parts scope (expression_callees handle) _ c in
        new_in_keeps new scope (is_unique_region handle) (sense handle scope) (sense_keeps handle scope d.0) d.1
    sense_keeps (Expression.Chain first others) scope c =
        let d = parts scope (expression_callees first) _ c in linked_keeps others scope (sense first scope) (sense_keeps first scope d.0) d.1
    sense_keeps (Expression.AllOf first others) scope c =
        let d = parts scope (expression_callees first) _ c in
        tested_keeps P _ (all_true_keeps P (sense first scope ∷ senses others scope) (sense_keeps first scope d.0, senses_keeps others scope d.1))
    sense_keeps (Expression.AnyOf first others) scope c =
        let d = parts scope (expression_callees first) _ c in
        tested_keeps P _ (any_true_keeps P (sense first scope ∷ senses others scope) (sense_keeps first scope d.0, senses_keeps others scope d.1))
    sense_keeps (Expression.Assign place value) scope c =
        let d = parts scope (expression_callees place) _ c in
        assigned_keeps P scope.world (sense place scope) (sense value scope) (sense_keeps place scope d.0) (sense_keeps value scope d.1)

    pub senses_keeps : (es : Expressions) (scope : Scope) → MayCallAll P scope (expressions_callees es) → SensesKeep P (senses es scope)
    senses_keeps NoExpressions scope c = tt
    senses_keeps (MoreExpressions e es) scope c =
        let d = parts scope (expression_callees e) _ c in (sense_keeps e scope d.0, senses_keeps es scope d.1)

    linked_keeps : (links : Links) (scope : Scope) (left : Sense) → SenseKeeps P left → MayCallAll P scope (links_callees links)
        → SenseKeeps P (linked links scope left)
    linked_keeps NoLinks scope left x c = x
    linked_keeps (MoreLinks operator operand others) scope left x c =
        let d = parts scope (expression_callees operand) _ c in
        linked_keeps others scope (applied operator left (sense operand scope))
        (applied_keeps P operator left (sense operand scope) x (sense_keeps operand scope d.0)) d.1

    suffixed_keeps : (suffixes : Suffixes) (scope : Scope) (e : Sense) → SenseKeeps P e → MayCallAll P scope (suffixes_callees suffixes)
        → SenseKeeps P (suffixed suffixes scope e)
    suffixed_keeps NoSuffixes scope e x c = x
    suffixed_keeps (Index index others) scope e x c =
        let d = parts scope (expression_callees index) _ c in
        suffixed_keeps others scope (indexed scope.world e (sense index scope))
        (indexed_keeps P scope.world e (sense index scope) x (sense_keeps index scope d.0)) d.1
    suffixed_keeps (Dot f others) scope e x c = suffixed_keeps others scope (member scope.world e f.text) (member_keeps P scope.world e f.text x) c
    suffixed_keeps (Arrow f others) scope e x c =
        suffixed_keeps others scope (member scope.world (contents scope.world e) f.text)
        (member_keeps P scope.world (contents scope.world e) f.text (contents_keeps P scope.world e x)) c

    new_keeps : (new : Made) (scope : Scope) → MayCallAll P scope (made_callees new) → SenseKeeps P (new_sense new scope)
    new_keeps (One value) scope c = made_keeps P scope.world heap_maker Shared (sense value scope) (give_keeps P _) (sense_keeps value scope c)
    new_keeps (Array index count element) scope c =
        let d = parts scope (expression_callees count) _ c in
        array_keeps P scope.world heap_maker (sense count scope) (λ k. sense element (element_scope scope index.text k)) (give_keeps P _)
        (sense_keeps count scope d.0) (λ k. sense_keeps element (element_scope scope index.text k) d.1)

    new_in_keeps : (new : Made) (scope : Scope) (unique : Bool) (handle : Sense) → SenseKeeps P handle → MayCallAll P scope (made_callees new)
        → SenseKeeps P (new_in_sense new scope unique handle)
    new_in_keeps (One value) scope unique handle x c = made_in_keeps P scope.world unique handle (sense value scope) x (sense_keeps value scope c)
    new_in_keeps (Array index count element) scope unique handle x c =
        let d = parts scope (expression_callees count) _ c in
        array_keeps P scope.world (handle_maker handle) (sense count scope) (λ k. sense element (element_scope scope index.text k))
        (handle_keeps P handle x) (sense_keeps count scope d.0) (λ k. sense_keeps element (element_scope scope index.text k) d.1)

  -- ---- regions and locals

  declared_keeps : (scope : Scope) (name : List ℕ) (s : Shape) (o : Object) (rest : Scope → Act Flow) → KeepsWithin P scope rest
      → Keeps P (declared scope name s o rest)
  declared_keeps scope name s o rest x = record {
    go = λ next m h. (object_keeps P (Frame scope.frame) o).go _ m (λ at m1. (x name (Variable s at)).go next m1 h);
  }

  pub local_with_keeps : (scope : Scope) (name : List ℕ) (s : Shape) (vs : List Scalar) (rest : Scope → Act Flow) → KeepsWithin P scope rest
      → Keeps P (local_with scope name s vs rest)
  local_with_keeps scope name s vs rest x = record {
    go = λ next m h. (object_keeps P (Frame scope.frame) (blank_object (cells_of scope.world s))).go _ m (λ at m1.
        (write_cells_keeps P at vs).go _ m1 (λ a m2. (x name (Variable s at)).go next m2 h));
  }

  initialised_keeps : (scope : Scope) (name : List ℕ) (s : Shape) (e : Sense) (rest : Scope → Act Flow) → SenseKeeps P e → KeepsWithin P scope rest
      → Keeps P (initialised scope name s e rest)
  initialised_keeps scope name s e rest x y = record {
    go = λ next m h. x.value.go _ m (λ us m1. (converted_keeps P scope.world s _ us).go _ m1 (λ vs m2. (local_with_keeps scope name s vs rest y).go next m2 h));
  }

  operand_of_keeps : (e : Option Entity) → Keeps P (operand_of e)
  operand_of_keeps (Some (Variable s at)) = record { go = λ next m h. (check_keeps P (is_moved s)).go _ m (λ a m1. h _ m1) }
  operand_of_keeps None = stuck_keeps P

  lending_keeps : (at : Spot) (v : Scalar) (act : Act Flow) → Keeps P act → Keeps P (lending at v act)
  lending_keeps at v act x = record {
    go = λ next m h. (put_keeps P at (Lent v)).go _ m (λ a m1. (finally_keeps P act (put_content at (Holds v)) x (put_keeps P at (Holds v))).go next m1 h);
  }

  born_keeps : Keeps P region_born
  born_keeps = record { go = λ next m h. P.says _ tt _ (h _ _) }

  region_freed_keeps : (r : ℕ) → Keeps P (region_freed r)
  region_freed_keeps r = record { go = λ next m h. (check_keeps P (is_live m (Born r))).go _ m (λ a m1. P.says _ tt _ (h tt _)) }

  lexical_keeps : (scope : Scope) (handle : List ℕ) (rest : Scope → Act Flow) → KeepsWithin P scope rest → Keeps P (lexical_region scope handle rest)
  lexical_keeps scope handle rest x = in_region_keeps P region_born region_freed _ born_keeps region_freed_keeps (λ r. local_with_keeps scope handle HandleShape
      (HandleOf r ∷ []) rest x)

  key_keeps : (v : Scalar) → Keeps P (key_of v)
  key_keeps (KeyOf r) = give_keeps P r
  key_keeps v = stuck_keeps P

  new_key_keeps : (scope : Scope) (key : List ℕ) (rest : Scope → Act Flow) → KeepsWithin P scope rest → Keeps P (new_key scope key rest)
  new_key_keeps scope key rest x = record {
    go = λ next m h. P.says _ tt _ ((local_with_keeps scope key KeyShape (KeyOf m.births ∷ []) rest x).go next (with_state (record m { births = m.births + 1 })
        (Born m.births) Closed) h);
  }

  opened_keeps : (r : ℕ) → Keeps P (key_opened r)
  opened_keeps r = record { go = λ next m h. (check_keeps P (is_closed m (Born r))).go _ m (λ a m1. P.says _ tt _ (h r _)) }

  closed_keeps : (r : ℕ) → Keeps P (key_closed r)
  closed_keeps r = record { go = λ next m h. (check_keeps P (is_live m (Born r))).go _ m (λ a m1. P.says _ tt _ (h tt _)) }

  open_keeps : (scope : Scope) (handle key : List ℕ) (rest : Scope → Act Flow) → KeepsWithin P scope rest → Keeps P (open_key scope handle key rest)
  open_keeps scope handle key rest x = record {
    go = λ next m h. (operand_of_keeps (entity_of scope key)).go _ m (λ o m1. (read_cell_keeps P o.at).go _ m1 (λ v m2. (key_keeps v).go _ m2 (λ r m3.
        (lending_keeps o.at v _ (in_region_keeps P (key_opened r) key_closed _ (opened_keeps r) closed_keeps (λ q. local_with_keeps scope handle HandleShape
        (HandleOf q ∷ []) rest x))).go next m3 h)));
  }

  key_freed_keeps : (v : Scalar) → Keeps P (key_freed v)
  key_freed_keeps v = record {
    go = λ next m h.
        (key_keeps v).go _ m (λ r m1. (check_keeps P (is_closed m1 (Born r))).go _ m1 (λ a m2. P.says _ tt _ (h tt _)));
  }

  unique_freed_keeps : (r : Region) → Keeps P (unique_freed r)
  unique_freed_keeps (Frame k) = stuck_keeps P
  unique_freed_keeps (Born r) = record { go = λ next m h. (check_keeps P (is_live m (Born r))).go _ m (λ a m1. P.says _ tt _ (h tt _)) }

  pointer_freed_keeps : (v : Scalar) → Keeps P (pointer_freed v)
  pointer_freed_keeps (Thin None) = give_keeps P tt
  pointer_freed_keeps (Thin (Some s)) = unique_freed_keeps s.region
  pointer_freed_keeps v = stuck_keeps P

  local_freed_keeps : (scope : Scope) (name : List ℕ) (freed : Scalar → Act (Unit {0})) → ((v : Scalar) → Keeps P (freed v))
      → Keeps P (local_freed scope name freed)
  local_freed_keeps scope name freed x = record {
    go = λ next m h. (operand_of_keeps (entity_of scope name)).go _ m
        (λ o m1. (read_cell_keeps P o.at).go _ m1 (λ v m2. (put_keeps P o.at Gone).go _ m2 (λ a m3.
        (x v).go next m3 h)));
  }

  aliased_keeps : (scope : Scope) (s : Shape) (alias pointer : List ℕ) (rest : Scope → Act Flow) → KeepsWithin P scope rest
      → Keeps P (aliased scope s alias pointer rest)
  aliased_keeps scope s alias pointer rest x = record {
    go = λ next m h. (operand_of_keeps (entity_of scope pointer)).go _ m
        (λ o m1. (read_cell_keeps P o.at).go _ m1 (λ v m2. (scalar_keeps P scope.world (settled_by s o.shape) o.shape v).go _ m2 (λ c m3.
        (lending_keeps o.at v _ (local_with_keeps scope alias (settled_by s o.shape) (c ∷ []) rest x)).go next m3 h)));
  }

  -- ---- statements

  pub falls_keeps : (f : Flow) (rest : Act Flow) → Keeps P rest → Keeps P (falls_to f rest)
  falls_keeps Falls rest x = x
  falls_keeps Breaks rest x = give_keeps P _
  falls_keeps Continues rest x = give_keeps P _
  falls_keeps (Returns vs) rest x = give_keeps P _

  pub turn_keeps : (f : Flow) (again : Act Flow) → Keeps P again → Keeps P (after_turn f again)
  turn_keeps Falls again x = x
  turn_keeps Continues again x = x
  turn_keeps Breaks again x = give_keeps P _
  turn_keeps (Returns vs) again x = give_keeps P _

  pub loop_keeps : (condition : Expression) (body : Statement) (scope : Scope)
      → MayCallAll P scope (expression_callees condition ++ statement_callees body) → Keeps P (loop condition body scope)
  loop_keeps condition body scope c = record {
    go = λ next m h. (truth_keeps P (sense condition scope) (sense_keeps condition scope (parts scope (expression_callees condition) _ c).0)).go _ m (λ t m1.
        (choose_keeps P t (take_turn condition body scope) (give Falls) (record { go = λ k m2 i. P.turns _ c k m2 i }) (give_keeps P Falls)).go next m1 h);
  }

  exchanged_keeps : (a b : Sense) → SenseKeeps P a → SenseKeeps P b → Keeps P (exchanged a b)
  exchanged_keeps a b x y = record {
    go = λ next m h. (check_keeps P (same_shape a.shape b.shape)).go _ m (λ u m0. x.place.go _ m0 (λ s m1. y.place.go _ m1 (λ t m2.
        (read_cells_keeps P 1 s).go _ m2
        (λ vs m3. (read_cells_keeps P 1 t).go _ m3 (λ us m4. (write_cells_keeps P s us).go _ m4 (λ c m5. (write_cells_keeps P t vs).go next m5 h))))));
  }

  pub local_keeps : (scope : Scope) (of : Shape) (name : List ℕ) (i : Initializer) (rest : Scope → Act Flow) → MayCallAll P scope (initializer_callees i)
      → KeepsWithin P scope rest → Keeps P (local scope of name i rest)
  local_keeps scope of name Initializer.Unset rest c x = declared_keeps scope name _ _ rest x
  local_keeps scope of name (Initializer.Elements count) rest c x = declared_keeps scope name _ _ rest x
  local_keeps scope of name (Initializer.Value e) rest c x = initialised_keeps scope name _ (sense e scope) rest (sense_keeps e scope c) x

  declaration_keeps : (d : Declaration) (scope : Scope) (rest : Scope → Act Flow) → MayCallAll P scope (declaration_callees d) → KeepsWithin P scope rest
      → Keeps P (declaration d scope rest)
  declaration_keeps (tree.Local of name initializer) scope rest c x = local_keeps scope (written of) name.text initializer rest c x
  declaration_keeps (tree.Region at region handle) scope rest c x = lexical_keeps scope handle.text rest x
  declaration_keeps (tree.Open at region handle key) scope rest c x = open_keeps scope handle.text key.text rest x
  declaration_keeps (tree.Alias at region of alias pointer) scope rest c x = aliased_keeps scope (written of) alias.text pointer.text rest x
  declaration_keeps (tree.NewKey at region key) scope rest c x = new_key_keeps scope key.text rest x

  held_by_keeps : (w : World) (s : Shape) (v : Scalar) → Keeps P (held_by w s v)
  held_by_keeps w (UnionShape tag) (Tagged k v) = give_keeps P _
  held_by_keeps w s v = stuck_keeps P

  either_keeps : (a b : Option (Act Flow)) → KeepsIfAny P a → KeepsIfAny P b → KeepsIfAny P (or_else a b)
  either_keeps (Some a) b x y = x
  either_keeps None b x y = y

  if_any_keeps : (b : Bool) (first second : Option (Act Flow)) → KeepsIfAny P first → KeepsIfAny P second → KeepsIfAny P (if b then first else second)
  if_any_keeps true first second x y = x
  if_any_keeps false first second x y = y

  clause_keeps : (clause : Option (Act Flow)) → KeepsIfAny P clause → Keeps P (need clause >>= λ act. act >>= λ flow. give (after_switch flow))
  clause_keeps None x = record { go = λ next m h. P.stops _ }
  clause_keeps (Some act) x = record { go = λ next m h. x.go _ m (λ flow m1. h _ m1) }

  mutual
    pub statement_keeps : (s : Statement) (scope : Scope) → MayCallAll P scope (statement_callees s) → Keeps P (statement s scope)
    statement_keeps (Statement.Empty at) scope c = give_keeps P _
    statement_keeps (Statement.Block at items) scope c = block_keeps P _ (λ k. items_keeps items (record scope { frame = k }) c)
    statement_keeps (Statement.Run e) scope c = record { go = λ next m h. (sense_keeps e scope c).value.go _ m (λ vs m1. h Falls m1) }
    statement_keeps (Statement.Exchange left right) scope c =
        let d = parts scope (expression_callees left) _ c in
        let x : Keeps P (exchanged (sense left scope) (sense right scope)) =
        exchanged_keeps (sense left scope) (sense right scope) (sense_keeps left scope d.0) (sense_keeps right scope d.1) in
        record { go = λ next m h. x.go _ m (λ a m1. h Falls m1) }
    statement_keeps (Statement.If at condition body) scope c =
        let d = parts scope (expression_callees condition) _ c in
        record {
          go = λ next m h. (truth_keeps P (sense condition scope) (sense_keeps condition scope d.0)).go _ m (λ t m1.
              (choose_keeps P t (statement body scope) (give Falls) (statement_keeps body scope d.1) (give_keeps P Falls)).go next m1 h);
        }
    statement_keeps (Statement.IfElse at condition body otherwise) scope c =
        let d = parts scope (expression_callees condition) _ c in
        let e = parts scope (statement_callees body) _ d.1 in
        record {
          go = λ next m h. (truth_keeps P (sense condition scope) (sense_keeps condition scope d.0)).go _ m (λ t m1.
              (choose_keeps P t (statement body scope) (statement otherwise scope) (statement_keeps body scope e.0)
              (statement_keeps otherwise scope e.1)).go next m1 h);
        }
    statement_keeps (Statement.While at condition body) scope c = loop_keeps condition body scope c
    statement_keeps (Statement.Switch at place clauses) scope c =
        let d = parts scope (expression_callees place) _ c in
        record {
          go = λ next m h. (looked P (sense place scope) (sense_keeps place scope d.0) _ (held_by_keeps scope.world (sense place scope).shape)).go _ m
              (λ held m1. (clause_keeps (or_else (case_for clauses held scope) (default_for clauses scope))
              (either_keeps _ _ (case_keeps clauses held scope d.1) (default_keeps clauses scope d.1))).go next m1 h);
        }
    statement_keeps (Statement.Break at) scope c = give_keeps P _
    statement_keeps (Statement.Continue at) scope c = give_keeps P _
    statement_keeps (Statement.Return at None) scope c = give_keeps P _
    statement_keeps (Statement.Return at (Some e)) scope c = record {
      go = λ next m h. (sense_keeps e scope c).value.go _ m (λ us m1.
          (converted_keeps P scope.world scope.result (sense e scope).shape us).go _ m1 (λ vs m2. h _ m2));
    }
    statement_keeps (Statement.FreeUnique at pointer) scope c = record {
      go = λ next m h. (local_freed_keeps scope pointer.text pointer_freed pointer_freed_keeps).go _ m (λ a m1. h Falls m1);
    }
    statement_keeps (Statement.FreeKey at key) scope c = record {
      go = λ next m h. (local_freed_keeps scope key.text key_freed key_freed_keeps).go _ m (λ a m1. h Falls m1);
    }

    pub items_keeps : (items : BlockItems) (scope : Scope) → MayCallAll P scope (items_callees items) → Keeps P (block_items items scope)
    items_keeps NoItems scope c = give_keeps P _
    items_keeps (tree.Declare d others) scope c =
        let e = parts scope (declaration_callees d) _ c in
        declaration_keeps d scope (block_items others) e.0 (λ name entity. items_keeps others (with_binding scope name entity) e.1)
    items_keeps (tree.Execute s others) scope c =
        let d = parts scope (statement_callees s) _ c in
        record {
          go = λ next m h. (statement_keeps s scope d.0).go _ m (λ flow m1.
              (falls_keeps flow (block_items others scope) (items_keeps others scope d.1)).go next m1 h);
        }

    case_keeps : (clauses : Clauses) (held : Held) (scope : Scope) → MayCallAll P scope (clauses_callees clauses)
        → KeepsIfAny P (case_for clauses held scope)
    case_keeps NoClauses held scope c = tt
    case_keeps (MoreClauses at (Case f x) body others) held scope c =
        let d = parts scope (items_callees body) _ c in
        if_any_keeps (is_position (part_position held.parts f.text) held.position) _ _
        (block_keeps P _ (λ k. local_with_keeps (record scope { frame = k }) x.text (part_shape held.parts f.text) (held.value ∷ []) (block_items body)
        (λ name entity. items_keeps body (with_binding (record scope { frame = k }) name entity) d.0)))
        (case_keeps others held scope d.1)
    case_keeps (MoreClauses at Default body others) held scope c = case_keeps others held scope (parts scope (items_callees body) _ c).1

    default_keeps : (clauses : Clauses) (scope : Scope) → MayCallAll P scope (clauses_callees clauses) → KeepsIfAny P (default_for clauses scope)
    default_keeps NoClauses scope c = tt
    default_keeps (MoreClauses at (Case f x) body others) scope c = default_keeps others scope (parts scope (items_callees body) _ c).1
    default_keeps (MoreClauses at Default body others) scope c =
        block_keeps P _ (λ k. items_keeps body (record scope { frame = k }) (parts scope (items_callees body) _ c).0)

  -- ---- functions

  pub result_keeps : (f : Routine) (flow : Flow) → Keeps P (result_of f flow)
  result_keeps f (Returns vs) = give_keeps P _
  result_keeps f Falls = end_keeps f.result
    where
      end_keeps : (s : Shape) → Keeps P (result_at_end f s)
      end_keeps VoidShape = give_keeps P _
      end_keeps s = if_keeps P (is_main f.name) (give (Integer AsInt 0 ∷ [])) stuck (give_keeps P _) (stuck_keeps P)
  result_keeps f Breaks = stuck_keeps P
  result_keeps f Continues = stuck_keeps P

  -- a body, with the parameters in scope
  arguments_keeps : (items : BlockItems) (ps : List Part) (vss : List (List Scalar)) (scope : Scope) → MayCallAll P scope (items_callees items)
      → Keeps P (with_arguments ps vss (block_items items) scope)
  arguments_keeps items [] [] scope c = items_keeps items scope c
  arguments_keeps items (part ∷ ps) (vs ∷ vss) scope c =
      local_with_keeps scope part.name part.shape vs (with_arguments ps vss (block_items items))
      (λ name entity. arguments_keeps items ps vss (with_binding scope name entity) c)
  arguments_keeps items [] (vs ∷ vss) scope c = stuck_keeps P
  arguments_keeps items (part ∷ ps) [] scope c = stuck_keeps P

  -- what is done between a call and its return
  pub body_keeps : (f : Routine) (w : World) (arguments : List (List Scalar)) → AllByRecursion (P.MayCall w) (items_callees f.body)
      → Keeps P (in_block (λ k. with_arguments f.parameters arguments (block_items f.body)
      (record { world = w; locals = []; frame = k; result = f.result })) >>= result_of f)
  body_keeps f w arguments c = record {
    go = λ next m h. (block_keeps P _ (λ k. arguments_keeps f.body f.parameters arguments
        (record { world = w; locals = []; frame = k; result = f.result }) c)).go _ m (λ flow m1. (result_keeps f flow).go next m1 h);
  }

  -- a turn of a loop, and the loop again
  pub turned_keeps : (condition : Expression) (body : Statement) (scope : Scope)
      → MayCallAll P scope (expression_callees condition ++ statement_callees body) → Keeps P (turned condition body scope)
  turned_keeps condition body scope c = record {
    go = λ next m h. (statement_keeps body scope (parts scope (expression_callees condition) _ c).1).go _ m (λ flow m1.
        (turn_keeps flow (loop condition body scope) (loop_keeps condition body scope c)).go next m1 h);
  }

  -- ---- the start of a run

  constant_value_keeps : (strings : List (ℕ × Scalar)) (c : Constant) → Keeps P (constant_value strings c)
  constant_value_keeps strings (Constant.Number at value suffix) = give_keeps P _
  constant_value_keeps strings (Constant.Negative at value suffix) = give_keeps P _
  constant_value_keeps strings (Constant.Character at byte) = give_keeps P _
  constant_value_keeps strings (Constant.Text at bytes) = need_keeps P (literal_string strings at bytes)
  constant_value_keeps strings (Constant.Null at) = give_keeps P _

  stored_keeps : (w : World) (i : Initial) (s : Shape) (at : Spot) → Keeps P (global_stored w i s at)
  stored_keeps w Initial.Unset s at = give_keeps P tt
  stored_keeps w (Initial.Elements count) s at = give_keeps P tt
  stored_keeps w (Initial.Given c) s at = record {
    go = λ next m h. (constant_value_keeps w.strings c).go _ m (λ v m1. (converted_keeps P w s (constant_shape c) (v ∷ [])).go _ m1
        (λ vs m2. (write_cells_keeps P at vs).go next m2 h));
  }

  -- the constants of all globals
  pub globals_keep : (w : World) (items : List Item) (k : ℕ) → Keeps P (globals_stored w items k)
  globals_keep w [] k = give_keeps P tt
  globals_keep w (tree.GlobalItem g ∷ items) k = record {
    go = λ next m h. (stored_keeps w g.initial (settled (written g.of)) (heap_spot k)).go _ m (λ a m1. (globals_keep w items (suc k)).go next m1 h);
  }
  globals_keep w (_ ∷ items) k = globals_keep w items k
