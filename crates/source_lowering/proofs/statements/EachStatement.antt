-- Each statement that is taken, each block's items, and a function's body with its arguments do the same as their code.
use Rattle.std.proofs.Common.{◌≡◌, ℕ, suc, ◌+◌, ◌≤◌, List, [], ◌∷◌, ◌++◌, length, true, Some, None, refl, sym, ap, ◌∙◌, subst, arith}
use Rattle.std.specs.Prelude.{if◌then◌else◌, unwrap_or}
use Rattle.cyc_tree.specs.Tree as tree
use Rattle.cyc_tree.specs.Tree.{Statement, BlockItems, NoItems, Declare, Execute, Clauses, NoClauses, MoreClauses, Case, Default}
use Rattle.source_meaning.specs.Shapes.{Shape, IntShape, UnsignedShape, CharShape, VoidShape, ThinShape, FatShape, HandleShape, KeyShape, StructShape}
use Rattle.source_meaning.specs.Shapes.{UnionShape, ArrayShape, Part, Layout, has_tag, parts_of, part_shape, part_shapes}
use Rattle.source_meaning.specs.Regions.{in_block, local_with}
use Rattle.source_meaning.specs.Memory as source
use Rattle.source_meaning.specs.Memory.{Scalar}
use Rattle.source_meaning.specs.Steps as steps
use Rattle.source_meaning.specs.Steps.{World, Scope, Flow, give}
use Rattle.source_meaning.specs.Expressions.{sense}
use Rattle.source_meaning.specs.Statements as meaning_of
use Rattle.source_meaning.specs.Programs.{with_arguments}
use Rattle.core_meaning.specs.Memory as core_memory
use Rattle.core_meaning.specs.Memory.{Content}
use Rattle.core_meaning.specs.Core as core
use Rattle.core_meaning.specs.Core.{Block, Leave, Break, Statements}
use Rattle.core_meaning.specs.Steps.{Config}
use Rattle.core_meaning.specs.Meaning as meaning
use Rattle.source_lowering.specs.Lowered.{put, put_local, all_of, stored_code, static_shape, union_parts, expression_code, place_code}
use Rattle.source_lowering.specs.Programs.{local_shape, block_shapes, outward, named_here, statement_code, items_code, parameter_names, parameters_code}
use Rattle.source_lowering.specs.Programs.{side_of}
use Rattle.source_lowering.specs.Lowerable.{IsUnionShape, IsWholeShape, TakesStatement, TakesItems, TakesClauses}
use Rattle.source_lowering.specs.Simulation.{Grown, SameState, SameAt, Next, AreKept, AValue, around, Bound, contents_in}
use Rattle.source_lowering.proofs.memory.Keeping.{less_self}
use Rattle.source_lowering.proofs.Runs.{stuck_same}
use Rattle.source_lowering.proofs.values.Integers.{IsTaken, value_object}
use Rattle.source_lowering.proofs.expressions.Names.{AreParameters}
use Rattle.source_lowering.proofs.expressions.Calls.{AllGiven, CallsAs, calls_less}
use Rattle.source_lowering.specs.Members.{words_in, all_words, tag_load, held_loads}
use Rattle.source_lowering.proofs.values.Values.{value_later, kept_contents}
use Rattle.source_lowering.proofs.Runs.{put_all}
use Rattle.std.proofs.lemmas.List.{append_assoc}
use Rattle.source_lowering.proofs.UnionSizes.{union_of}
use Rattle.source_lowering.proofs.expressions.Places.{PlacedAs}
use Rattle.source_lowering.proofs.expressions.UnionMembers.{part_found, union_few, value_at}
use Rattle.source_lowering.proofs.expressions.EachExpression.{Known, place_in, IsKnown, expression_same, place_same}
use Rattle.source_lowering.proofs.statements.Statements.{WaysOn, RunsAs, ways_later, falls_same, breaks_same, continues_same, return_same, leave_same}
use Rattle.source_lowering.proofs.statements.Statements.{choice_same, sequence_same, loop_same}
use Rattle.source_lowering.proofs.statements.Declaring.{local_with_same}
use Rattle.source_lowering.proofs.statements.Blocks.{locals_outward, objects_outward, block_same}
use Rattle.source_lowering.specs.Programs.{in_loop, in_switch, locals_of, regions_with, cases_code, default_code, declaration_values, statement_values}
use Rattle.source_lowering.specs.Programs.{item_values, case_values, default_values}
use Rattle.source_lowering.specs.Whole.{expression_values}
use Rattle.source_lowering.proofs.expressions.Numbered.{AreNumbered, numbered_first, numbered_after}
use Rattle.source_lowering.proofs.memory.ObjectShapes.{object_named}
use Rattle.source_lowering.proofs.statements.EachDeclaration.{known_more, known_behind, scope_more, known_still, known_next, declaration_same, shape_object}
use Rattle.source_lowering.proofs.statements.EachRun.{run_statement}
use Rattle.source_lowering.proofs.statements.Clauses.{CasesAs, chosen, held_of, test_code, no_cases, case_more, none_chosen}
use Rattle.source_lowering.proofs.statements.Switching.{switch_same}
use Rattle.source_lowering.proofs.statements.Freeing.{name_freed}
use Rattle.source_lowering.proofs.statements.FreeingKeys.{key_freed_by}
use Rattle.source_lowering.proofs.statements.Sides.{side_same}
use Rattle.source_lowering.proofs.statements.Exchanges.{exchange_same}
use Rattle.source_lowering.proofs.expressions.VariableForms.{variable_agrees}
use Rattle.source_lowering.specs.Naming.{local_named}
use Rattle.source_meaning.specs.Places.{bound_to}
use Rattle.source_lowering.specs.Programs.{names_behind}

-- ---- statements

-- a block further in
abbrev pub known_inside : Scope → Known → List Shape → Known
known_inside scope k shapes = record k { names = outward k.names; outer = scope.frame ∷ k.outer; made = 0; pending = shapes }

known_in_block : (scope : Scope) (k : Known) (frame : ℕ) (shapes : List Shape) → IsKnown scope k
    → IsKnown (record scope { frame = frame }) (known_inside scope k shapes)
known_in_block scope k frame shapes known = record {
  world = known.world;
  locals = locals_outward frame (scope.frame ∷ k.outer) scope.locals k.names known.locals;
  words = objects_outward scope.world.unions scope.world.structs k.names known.words;
}

-- within a loop
abbrev pub known_looped : Known → Known
known_looped k = record k { regions = in_loop k.regions }

known_in_loop : (scope : Scope) (k : Known) → IsKnown scope k → IsKnown scope (known_looped k)
known_in_loop scope k known = record { world = known.world; locals = known.locals; words = known.words }

-- within a `switch`
abbrev pub known_switched : Known → Known
known_switched k = record k { regions = in_switch k.regions }

known_in_switch : (scope : Scope) (k : Known) → IsKnown scope k → IsKnown scope (known_switched k)
known_in_switch scope k known = record { world = known.world; locals = known.locals; words = known.words }

-- which union the place of a `switch` is
record IsUnionNamed (unions : List Layout) (s : Shape) : Type 0 where
  tag : List ℕ
  is : s ≡ UnionShape tag
  known : has_tag unions tag ≡ true

union_named : (unions : List Layout) (s : Shape) → IsUnionShape unions s → IsUnionNamed unions s
union_named unions (UnionShape tag) h = record { tag = tag; is = refl; known = h }
union_named unions IntShape h = absurd h
union_named unions UnsignedShape h = absurd h
union_named unions CharShape h = absurd h
union_named unions VoidShape h = absurd h
union_named unions (ThinShape may_be_null owner to) h = absurd h
union_named unions (FatShape to) h = absurd h
union_named unions HandleShape h = absurd h
union_named unions KeyShape h = absurd h
union_named unions (StructShape tag) h = absurd h
union_named unions (ArrayShape count of) h = absurd h

union_whole : (unions structs : List Layout) (s : Shape) → IsUnionShape unions s → IsWholeShape unions structs s
union_whole unions structs (UnionShape tag) h = h
union_whole unions structs IntShape h = absurd h
union_whole unions structs UnsignedShape h = absurd h
union_whole unions structs CharShape h = absurd h
union_whole unions structs VoidShape h = absurd h
union_whole unions structs (ThinShape may_be_null owner to) h = absurd h
union_whole unions structs (FatShape to) h = absurd h
union_whole unions structs HandleShape h = absurd h
union_whole unions structs KeyShape h = absurd h
union_whole unions structs (StructShape tag) h = absurd h
union_whole unions structs (ArrayShape count of) h = absurd h

-- in a clause's block, behind the copy of the member
abbrev known_bound : Scope → Known → List ℕ → Shape → List Shape → Known
known_bound scope k name shape shapes = known_more (known_inside scope k (shape ∷ shapes)) name shape shapes

mutual
  pub statement_same : (s : Statement) (own : ℕ) (scope : Scope) (k : Known) → TakesStatement scope.world scope.result k.names s
      → AreNumbered k.owned own (statement_values scope.world k.names s) → k.kept ≤ own → IsKnown scope k → IsTaken scope.result → (n : ℕ)
      → CallsAs scope.world k.program n → RunsAs (place_in scope k) n (suc scope.frame) scope.result (meaning_of.statement s scope)
      (statement_code scope.world scope.result k.names k.regions own s)
  statement_same (Statement.Empty at) own scope k h numbered less known result n calls = falls_same (place_in scope k) n (suc scope.frame) scope.result
  statement_same (Statement.Block at items) own scope k h numbered less known result n calls =
      block_same (place_in scope k) n scope.result (block_shapes scope.world (outward k.names) 0 items)
      (λ frame. meaning_of.block_items items (record scope { frame = frame }))
      (items_code scope.world scope.result (outward k.names) k.regions 0 own items)
      (λ frame. items_same items own (record scope { frame = frame }) (known_inside scope k (block_shapes scope.world (outward k.names) 0 items)) h
      numbered less
      (known_in_block scope k frame (block_shapes scope.world (outward k.names) 0 items) known) result n calls refl)
  statement_same (Statement.Run e) own scope k h numbered less known result n calls =
      run_statement e own scope k h numbered less known n calls
  statement_same (Statement.Exchange left right) own scope k h numbered less known result n calls =
      let firsts = expression_values scope.world k.names left in
      let others = expression_values scope.world k.names right in
      let behind = own + length firsts in
      let d = k.regions.all in
      let one = place_same left scope k h.0 known n calls d own (numbered_first k.owned own firsts others numbered) less in
      let other = place_same right scope k h.1.0 known n calls (d + 1) behind (numbered_after k.owned own firsts others numbered) (omega (arith, less)) in
      let first = place_code scope.world k.names left d own in
      let second = place_code scope.world k.names right (d + 1) behind in
      exchange_same (place_in scope k) n scope.result (sense left scope) (sense right scope) (side_of k.names left) (side_of k.names right)
      (static_shape scope.world k.names left) (static_shape scope.world k.names right) first second one.shape_is other.shape_is h.1.1
      (side_same left scope k known n d first one.placed) (side_same right scope k known n (d + 1) second other.placed)
  statement_same (Statement.If at condition body) own scope k h numbered less known result n calls =
      let tested = expression_values scope.world k.names condition in
      let values = statement_values scope.world k.names body in
      let first = own + length tested in
      choice_same (place_in scope k) n scope.result (sense condition scope) (static_shape scope.world k.names condition)
      (expression_code scope.world k.names condition k.regions.all own) (meaning_of.statement body scope) (give steps.Falls)
      (statement_code scope.world scope.result k.names k.regions first body) []
      (expression_same condition scope k h.0 known n calls k.regions.all own (numbered_first k.owned own tested values numbered) less)
      (statement_same body first scope k h.1 (numbered_after k.owned own tested values numbered) (omega (arith, less)) known result n calls)
      (falls_same (place_in scope k) n (suc scope.frame) scope.result)
  statement_same (Statement.IfElse at condition body otherwise) own scope k h numbered less known result n calls =
      let tested = expression_values scope.world k.names condition in
      let values = statement_values scope.world k.names body in
      let others = statement_values scope.world k.names otherwise in
      let first = own + length tested in
      let behind = numbered_after k.owned own tested (values ++ others) numbered in
      choice_same (place_in scope k) n scope.result (sense condition scope) (static_shape scope.world k.names condition)
      (expression_code scope.world k.names condition k.regions.all own) (meaning_of.statement body scope) (meaning_of.statement otherwise scope)
      (statement_code scope.world scope.result k.names k.regions first body)
      (statement_code scope.world scope.result k.names k.regions (first + length values) otherwise)
      (expression_same condition scope k h.0 known n calls k.regions.all own (numbered_first k.owned own tested (values ++ others) numbered) less)
      (statement_same body first scope k h.1.0 (numbered_first k.owned first values others behind) (omega (arith, less)) known result n calls)
      (statement_same otherwise (first + length values) scope k h.1.1 (numbered_after k.owned first values others behind) (omega (arith, less)) known result n
      calls)
  statement_same (Statement.While at condition body) own scope k h numbered less known result n calls =
      let tested = expression_values scope.world k.names condition in
      let values = statement_values scope.world k.names body in
      let first = own + length tested in
      loop_same (place_in scope k) n scope.result scope condition body (static_shape scope.world k.names condition)
      (expression_code scope.world k.names condition k.regions.all own)
      (statement_code scope.world scope.result k.names (in_loop k.regions) first body)
      (λ j below. expression_same condition scope k h.0 known j (calls_less scope.world k.program n j below calls) k.regions.all own
      (numbered_first k.owned own tested values numbered) less)
      (λ j below. statement_same body first scope (known_looped k) h.1 (numbered_after k.owned own tested values numbered) (omega (arith, less))
      (known_in_loop scope k known) result j (calls_less scope.world k.program n j below calls))
  statement_same (Statement.Switch at place clauses) own scope k h numbered less known result n calls =
      let w = scope.world in
      let shape = static_shape w k.names place in
      let union = union_named w.unions shape h.1.0 in
      let parts : union_parts w shape ≡ parts_of w.unions union.tag = ap (union_parts w) union.is in
      let first = own + length (expression_values w k.names place) in
      let one = place_same place scope k h.0 known n calls k.regions.all own
      (numbered_first k.owned own (expression_values w k.names place) (case_values w k.names (union_parts w shape) clauses ++ default_values w k.names clauses)
      numbered) less in
      let behind = subst (λ z. AreNumbered k.owned first (case_values w k.names z clauses ++ default_values w k.names clauses)) parts
      (numbered_after k.owned own (expression_values w k.names place) (case_values w k.names (union_parts w shape) clauses ++ default_values w k.names clauses)
      numbered) in
      let takes = subst (λ z. TakesClauses w scope.result k.names z clauses) parts h.1.1 in
      let cases = case_values w k.names (parts_of w.unions union.tag) clauses in
      subst (λ z. RunsAs (place_in scope k) n (suc scope.frame) scope.result (meaning_of.statement (Statement.Switch at place clauses) scope)
      (Leave (all_of (place_code w k.names place k.regions.all own ++ (tag_load (k.regions.all + 1) k.regions.all ++
      (cases_code w scope.result k.names (in_switch k.regions) z first clauses ++
      default_code w scope.result k.names (in_switch k.regions) (first + length (case_values w k.names z clauses)) clauses)))) ∷ [])) (sym parts)
      (switch_same (place_in scope k) n scope.result union.tag (sense place scope) (place_code w k.names place k.regions.all own)
      (cases_code w scope.result k.names (in_switch k.regions) (parts_of w.unions union.tag) first clauses)
      (default_code w scope.result k.names (in_switch k.regions) (first + length cases) clauses)
      (λ held. meaning_of.case_for clauses held scope) (meaning_of.default_for clauses scope) known.world.unions union.known (one.shape_is ∙ union.is)
      (subst (λ z. PlacedAs (place_in scope k) n k.regions.all z (sense place scope).place (place_code w k.names place k.regions.all own)) union.is one.placed)
      (one.look (union_whole w.unions w.structs shape h.1.0))
      (cases_same clauses first scope (known_switched k) union.tag takes
      (numbered_first k.owned first cases (default_values w k.names clauses) behind) (omega (arith, less)) (known_in_switch scope k known) result union.known n
      calls)
      (default_same clauses (first + length cases) scope (known_switched k) (parts_of w.unions union.tag) takes
      (numbered_after k.owned first cases (default_values w k.names clauses) behind) (omega (arith, less)) (known_in_switch scope k known) result n calls))
  statement_same (Statement.Break at) own scope k h numbered less known result n calls = breaks_same (place_in scope k) n (suc scope.frame) scope.result
  statement_same (Statement.Continue at) own scope k h numbered less known result n calls = continues_same (place_in scope k) n (suc scope.frame) scope.result
  statement_same (Statement.Return at None) own scope k h numbered less known result n calls =
      leave_same (place_in scope k) n (suc scope.frame) scope.result h
  statement_same (Statement.Return at (Some e)) own scope k h numbered less known result n calls =
      return_same (place_in scope k) n scope.result (sense e scope) (static_shape scope.world k.names e)
      (expression_code scope.world k.names e k.regions.all own) result (expression_same e scope k h known n calls k.regions.all own numbered less)
  statement_same (Statement.FreeUnique at pointer) own scope k h numbered less known result n calls =
      name_freed (place_in scope k) n scope.result pointer.text (local_named k.names pointer.text) (bound_to scope.world.globals pointer.text) h
      (λ single. variable_agrees (place_in scope k) n k.regions.all pointer.text known.locals known.words known.world.globals known.world.structs single)
  statement_same (Statement.FreeKey at key) own scope k h numbered less known result n calls =
      key_freed_by (place_in scope k) n scope.result key.text (local_named k.names key.text) (bound_to scope.world.globals key.text) h
      (λ single. variable_agrees (place_in scope k) n k.regions.all key.text known.locals known.words known.world.globals known.world.structs single)

  pub items_same : (items : BlockItems) (own : ℕ) (scope : Scope) (k : Known) → TakesItems scope.world scope.result k.names k.made items
      → AreNumbered k.owned own (item_values scope.world k.names k.made items) → k.kept ≤ own → IsKnown scope k → IsTaken scope.result → (n : ℕ)
      → CallsAs scope.world k.program n → k.pending ≡ block_shapes scope.world k.names k.made items → RunsAs (place_in scope k) n scope.frame scope.result
      (meaning_of.block_items items scope) (items_code scope.world scope.result k.names k.regions k.made own items)
  items_same NoItems own scope k h numbered less known result n calls pending = falls_same (place_in scope k) n scope.frame scope.result
  items_same (Declare d others) own scope k h numbered less known result n calls pending =
      let after = own + length (declaration_values scope.world k.names d) in
      let names = names_behind scope.world k.names k.made d in
      let values = item_values scope.world names (suc k.made) others in
      declaration_same n d own scope k scope.result (block_shapes scope.world names (suc k.made) others) (meaning_of.block_items others)
      (items_code scope.world scope.result names (regions_with d k.regions) (suc k.made) after others) h.0
      (numbered_first k.owned own (declaration_values scope.world k.names d) values numbered) less known calls pending
      (items_same others after (scope_more scope k (tree.local_of d).text (local_shape scope.world k.names d))
      (known_behind scope.world k d (block_shapes scope.world names (suc k.made) others)) h.1
      (numbered_after k.owned own (declaration_values scope.world k.names d) values numbered) (omega (arith, less))
      (known_next scope k d (block_shapes scope.world names (suc k.made) others) (shape_object scope.world k.names d h.0) known) result n calls refl)
  items_same (Execute s others) own scope k h numbered less known result n calls pending =
      let after = own + length (statement_values scope.world k.names s) in
      let values = item_values scope.world k.names k.made others in
      sequence_same (place_in scope k) n scope.result (meaning_of.statement s scope) (meaning_of.block_items others scope)
      (statement_code scope.world scope.result k.names k.regions own s) (items_code scope.world scope.result k.names k.regions k.made after others)
      (statement_same s own scope k h.0 (numbered_first k.owned own (statement_values scope.world k.names s) values numbered) less known result n calls)
      (items_same others after scope k h.1 (numbered_after k.owned own (statement_values scope.world k.names s) values numbered) (omega (arith, less)) known
      result n calls pending)

  cases_same : (clauses : Clauses) (own : ℕ) (scope : Scope) (k : Known) (tag : List ℕ)
      → TakesClauses scope.world scope.result k.names (parts_of scope.world.unions tag) clauses
      → AreNumbered k.owned own (case_values scope.world k.names (parts_of scope.world.unions tag) clauses) → k.kept ≤ own → IsKnown scope k
      → IsTaken scope.result → has_tag scope.world.unions tag ≡ true → (n : ℕ) → CallsAs scope.world k.program n
      → CasesAs (place_in scope k) n scope.result tag (λ number v. meaning_of.case_for clauses (held_of scope.world tag number v) scope)
      (cases_code scope.world scope.result k.names k.regions (parts_of scope.world.unions tag) own clauses)
  cases_same NoClauses own scope k tag h numbered less known result is n calls = no_cases (place_in scope k) n scope.result tag
  cases_same (MoreClauses at (Case f x) body others) own scope k tag h numbered less known result is n calls =
      let w = scope.world in
      let parts = parts_of w.unions tag in
      let s = part_shape parts f.text in
      let found = part_found parts f.text h.0.number h.0.is in
      let is_value = value_at (part_shapes parts) h.0.number s (union_of w.unions tag known.world.unions is).members found.shape in
      let values = item_values w (named_here x.text s 0 ∷ outward k.names) 1 body in
      let after = own + length values in
      let below = found.below in
      let few = union_few w.unions tag known.world.unions in
      subst (λ z. CasesAs (place_in scope k) n scope.result tag (λ number v. if meaning_of.is_position z number then
      Some (in_block (λ frame. local_with (record scope { frame = frame }) x.text s (v ∷ []) (meaning_of.block_items body))) else
      meaning_of.case_for others (held_of w tag number v) scope) (test_code k.regions.all (unwrap_or z 0)
      (all_of (Block (locals_of w (s ∷ block_shapes w (named_here x.text s 0 ∷ outward k.names) 1 body))
      (all_of (held_loads s k.regions.all ++ (put_local s k.regions.all 0 0 ++
      items_code w scope.result (named_here x.text s 0 ∷ outward k.names) k.regions 1 own body))) ∷ Break ∷ [])) ++
      cases_code w scope.result k.names k.regions parts after others)) (sym h.0.is)
      (case_more (place_in scope k) n scope.result scope x.text tag h.0.number s (block_shapes w (named_here x.text s 0 ∷ outward k.names) 1 body)
      (meaning_of.block_items body)
      (λ number v. meaning_of.case_for others (held_of w tag number v) scope)
      (items_code w scope.result (named_here x.text s 0 ∷ outward k.names) k.regions 1 own body)
      (cases_code w scope.result k.names k.regions parts after others) refl known.world.unions is_value found.shape (omega (arith, below, few))
      (λ frame. items_same body own (scope_more (record scope { frame = frame })
      (known_inside scope k (s ∷ block_shapes w (named_here x.text s 0 ∷ outward k.names) 1 body)) x.text s)
      (known_bound scope k x.text s (block_shapes w (named_here x.text s 0 ∷ outward k.names) 1 body)) h.1.0
      (numbered_first k.owned own values (case_values w k.names parts others) numbered) less
      (known_still (record scope { frame = frame }) (known_inside scope k (s ∷ block_shapes w (named_here x.text s 0 ∷ outward k.names) 1 body)) x.text s
      (block_shapes w (named_here x.text s 0 ∷ outward k.names) 1 body)
      (object_named w.unions w.structs s (value_object w.unions w.structs s is_value))
      (known_in_block scope k frame (s ∷ block_shapes w (named_here x.text s 0 ∷ outward k.names) 1 body) known)) result n
      calls refl)
      (cases_same others after scope k tag h.1.1 (numbered_after k.owned own values (case_values w k.names parts others) numbered) (omega (arith, less)) known
      result is n calls))
  cases_same (MoreClauses at Default body others) own scope k tag h numbered less known result is n calls =
      cases_same others own scope k tag h.1 numbered less known result is n calls

  default_same : (clauses : Clauses) (own : ℕ) (scope : Scope) (k : Known) (parts : List Part)
      → TakesClauses scope.world scope.result k.names parts clauses → AreNumbered k.owned own (default_values scope.world k.names clauses) → k.kept ≤ own
      → IsKnown scope k → IsTaken scope.result → (n : ℕ) → CallsAs scope.world k.program n
      → RunsAs (place_in scope k) n (suc scope.frame) scope.result (chosen (meaning_of.default_for clauses scope))
      (default_code scope.world scope.result k.names k.regions own clauses)
  default_same NoClauses own scope k parts h numbered less known result n calls = none_chosen (place_in scope k) n (suc scope.frame) scope.result
  default_same (MoreClauses at (Case f x) body others) own scope k parts h numbered less known result n calls =
      default_same others own scope k parts h.1.1 numbered less known result n calls
  default_same (MoreClauses at Default body others) own scope k parts h numbered less known result n calls =
      block_same (place_in scope k) n scope.result (block_shapes scope.world (outward k.names) 0 body)
      (λ frame. meaning_of.block_items body (record scope { frame = frame }))
      (items_code scope.world scope.result (outward k.names) k.regions 0 own body)
      (λ frame. items_same body own (record scope { frame = frame }) (known_inside scope k (block_shapes scope.world (outward k.names) 0 body)) h.0
      numbered less
      (known_in_block scope k frame (block_shapes scope.world (outward k.names) 0 body) known) result n calls refl)

-- ---- a function's body, whose arguments are in the first temporaries

pub given_later : (b : Bound) (w : World) (m m' : source.Memory) (c c' : core_memory.Memory) (shapes : List Shape) (vss : List (List Scalar)) (d : ℕ)
    (temps : ℕ → Content) → Grown b m c m' c' → AllGiven w m c shapes vss d temps → AllGiven w m' c' shapes vss d temps
given_later b w m m' c c' [] [] d temps l h = tt
given_later b w m m' c c' (s ∷ ss) (vs ∷ vss) d temps l h =
    (value_later b w m m' c c' s vs (contents_in d s temps) l h.0, given_later b w m m' c c' ss vss (d + words_in s) temps l h.1)
given_later b w m m' c c' [] (vs ∷ vss) d temps l h = absurd h
given_later b w m m' c c' (s ∷ ss) [] d temps l h = absurd h

-- the temporaries of all of them stay
given_kept : (w : World) (m : source.Memory) (c : core_memory.Memory) (shapes : List Shape) (vss : List (List Scalar)) (d free : ℕ) (c0 c1 : Config)
    → d + all_words shapes ≤ free → AreKept free c0 c1 → AllGiven w m c shapes vss d c0.temps → AllGiven w m c shapes vss d c1.temps
given_kept w m c [] [] d free c0 c1 below kept h = tt
given_kept w m c (s ∷ ss) (vs ∷ vss) d free c0 c1 below kept h = (
  subst (λ z. AValue w m c s vs z) (sym (kept_contents s d c0 c1 (λ k less. kept k (omega (arith, less, below))))) h.0,
  given_kept w m c ss vss (d + words_in s) free c0 c1 (omega (arith, below)) kept h.1,
)
given_kept w m c [] (vs ∷ vss) d free c0 c1 below kept h = absurd h
given_kept w m c (s ∷ ss) [] d free c0 c1 below kept h = absurd h

-- each parameter's words are stored, the first one's from this temporary on
pub body_same : (ps : List Part) (items : BlockItems) (scope : Scope) (k : Known) (total n t free : ℕ) (vss : List (List Scalar)) → AreParameters ps
    → TakesItems scope.world scope.result (parameter_names ps k.made k.names) total items
    → AreNumbered k.owned 0 (item_values scope.world (parameter_names ps k.made k.names) total items) → k.kept ≤ 0
    → IsKnown scope k → IsTaken scope.result → CallsAs scope.world k.program n → k.made + length ps ≡ total → t + all_words (part_shapes ps) ≤ free
    → k.regions.all ≤ free → k.pending ≡ part_shapes ps ++ block_shapes scope.world (parameter_names ps k.made k.names) total items
    → (m : source.Memory) (c : Config) (next : Flow → source.Memory → steps.Step) (rest : Statements) (after : Next) → SameState (place_in scope k) m c
    → AllGiven scope.world m c.memory (part_shapes ps) vss t c.temps
    → WaysOn scope.world k.program n k.regions (around (place_in scope k) scope.frame) m c scope.result next (meaning.statements rest after) after
    → SameAt (place_in scope k) n (with_arguments ps vss (meaning_of.block_items items) scope next m) (meaning.statements
    (put (parameters_code ps k.made t free ++ items_code scope.world scope.result (parameter_names ps k.made k.names) k.regions total 0 items) rest) after c)
body_same [] items scope k total n t free [] values h numbered less known result calls sum below regions pending m c next rest after fits given ways =
    let e : k.made ≡ total = omega (arith, sum) in
    subst (λ z. SameAt (place_in scope k) n (meaning_of.block_items items scope next m) (meaning.statements (put
    (items_code scope.world scope.result k.names k.regions z 0 items) rest) after c)) e
    ((items_same items 0 scope k (subst (λ z. TakesItems scope.world scope.result k.names z items) (sym e) h)
    (subst (λ z. AreNumbered k.owned 0 (item_values scope.world k.names z items)) (sym e) numbered) less known result n calls
    (pending ∙ ap (λ z. block_shapes scope.world k.names z items) (sym e))).same m c next rest
    after fits ways)
body_same [] items scope k total n t free (vs ∷ vss) values h numbered less known result calls sum below regions pending m c next rest after fits given ways =
    stuck_same scope.world k.program n _
body_same (p ∷ ps) items scope k total n t free [] values h numbered less known result calls sum below regions pending m c next rest after fits given ways =
    stuck_same scope.world k.program n _
body_same (p ∷ ps) items scope k total n t free (vs ∷ vss) values h numbered less known result calls sum below regions pending m c next rest
    after fits given ways =
    let shapes : List Shape = part_shapes ps ++ block_shapes scope.world (parameter_names ps (suc k.made)
    (named_here p.name p.shape k.made ∷ k.names)) total items in
    let more : Known = known_more k p.name p.shape shapes in
    let others : List core.Statement = items_code scope.world scope.result (parameter_names ps (suc k.made)
    (named_here p.name p.shape k.made ∷ k.names)) k.regions total 0 items in
    let code : List core.Statement = parameters_code ps (suc k.made) (t + words_in p.shape) free ++ others in
    subst (λ z. SameAt (place_in scope k) n (with_arguments (p ∷ ps) (vs ∷ vss) (meaning_of.block_items items) scope next m) (meaning.statements z after c))
    (sym (ap (λ z. put z rest) (append_assoc (stored_code p.shape free t 0 k.made) (parameters_code ps (suc k.made) (t + words_in p.shape) free) others)
    ∙ put_all (stored_code p.shape free t 0 k.made) code rest))
    (local_with_same (place_in scope k) n free t scope p.name p.shape shapes vs (with_arguments ps vss (meaning_of.block_items items)) next m c (put code rest)
    after refl refl values.0 (omega (arith, below)) pending fits given.0 (record {
      above = regions;
      go = λ m2 c2 fits2 later2 temps2 blocks2.
          body_same ps items (scope_more scope k p.name p.shape) more total n (t + words_in p.shape) free vss values.1 h numbered less
          (known_still scope k p.name p.shape shapes (object_named scope.world.unions scope.world.structs p.shape
          (value_object scope.world.unions scope.world.structs p.shape values.0)) known)
          result calls (omega (arith, sum)) (omega (arith, below)) regions refl m2 c2 next rest after fits2
          (given_later (around (place_in scope k) scope.frame) scope.world m m2 c.memory c2.memory (part_shapes ps) vss (t + words_in p.shape) c2.temps later2
          (given_kept scope.world m c.memory (part_shapes ps) vss (t + words_in p.shape) free c c2 (omega (arith, below)) temps2 given.1))
          (ways_later scope.world k.program n k.regions (around (place_in scope k) scope.frame) (around (place_in scope k) scope.frame) m m2 c c2 scope.result
          next (meaning.statements rest after) after (less_self (around (place_in scope k) scope.frame)) later2 blocks2
          (λ i small. temps2 i (omega (arith, small, regions))) ways);
    }))
