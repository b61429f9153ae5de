-- The code of statements: the addresses that it takes, and which locals of its blocks may live in registers.
use Rattle.std.proofs.Common.{◌≡◌, ℕ, suc, ◌+◌, ◌≤◌, List, [], ◌∷◌, ◌++◌, length, Bool, false, Some, None, refl, sym, ap, ◌∙◌, arith}
use Rattle.std.specs.Prelude.{◌||◌, ◌&&◌, not, bytes_eq}
use Rattle.cyc_tree.specs.Tree as tree
use Rattle.cyc_tree.specs.Tree.{BlockItems, NoItems, Declare, Execute, Clauses, NoClauses, MoreClauses, Case, Default}
use Rattle.source_meaning.specs.Shapes.{Shape, ArrayShape, StructShape, Part, part_shape, part_shapes}
use Rattle.source_meaning.specs.Steps.{World}
use Rattle.source_typing.specs.Statements.{defaults}
use Rattle.core_meaning.specs.Core as core
use Rattle.source_lowering.specs.Members.{words_in}
use Rattle.source_lowering.specs.Lowered.{Named, all_of, expression_code, expression_values, held_loads, member_number, place_code, put_local}
use Rattle.source_lowering.specs.Lowered.{results_in, static_shape, union_parts}
use Rattle.source_lowering.specs.Programs.{
  RegionsAround,
  block_shapes,
  case_values,
  cases_code,
  declaration_code,
  declaration_values,
  default_code,
  ending_code,
  in_loop,
  in_switch,
  item_values,
  items_code,
  leaving_code,
  local_shape,
  locals_of,
  named_here,
  names_behind,
  outward,
  regions_with,
  side_of,
  statement_code,
  statement_values,
}
use Rattle.source_lowering.specs.Lowerable.{AreValues, IsValueShape, TakesClauses, TakesItems, TakesStatement}
use Rattle.source_lowering.proofs.values.Integers.{value_object}
use Rattle.source_lowering.proofs.expressions.Names.{IsPlainWorld}
use Rattle.source_lowering.proofs.memory.ObjectShapes.{object_named}
use Rattle.source_lowering.proofs.statements.EachDeclaration.{shape_object}
use Rattle.selectable_proof.proofs.StaticShapes.{member_value, union_values}
use Rattle.home_proof.specs.Arguments.{ClausesHaveArguments, HaveArguments, StatementHasArguments}
use Rattle.home_proof.specs.Defaults.{ClausesHaveOneDefault, HasOneDefault, HaveOneDefault}
use Rattle.home_proof.specs.Names.{pointed, pointed_in, pointed_in_clauses, pointed_in_items}
use Rattle.home_proof.specs.Numbered.{case_flags, default_flags, statement_flags}
use Rattle.home_proof.proofs.Codes.{both_plain, or_assoc, or_false, or_swap, plain}
use Rattle.home_proof.proofs.Leads.{Does, ahead, behind, both, nothing, said}
use Rattle.home_proof.proofs.Branches.{if_does, when_does, while_does}
use Rattle.home_proof.proofs.Pieces.{conversion_plain, ending_plain, exchange_plain, held_plain, leaving_plain}
use Rattle.home_proof.proofs.Scopes.{AreBefore, behind_before, outward_before}
use Rattle.home_proof.proofs.Variables.{placed, read_does, stored_flags, stored_free, union_word}
use Rattle.home_proof.proofs.Expressions.{expression_does, place_does}
use Rattle.home_proof.proofs.Runs.{run_does}
use Rattle.home_proof.proofs.Locals.{nothing_at}
use Rattle.home_proof.proofs.Declared.{begins_itself, declaration_does, declaration_taken}
use Rattle.home_proof.proofs.Exchanges.{side_does}
use Rattle.home_proof.proofs.Blocks.{ItemsDo, block_does, clause_does, declared_do, executed_do, leave_does}

-- ---- clauses

-- where `&` is applied in the clauses for members, and in the first `default`
abbrev pub pointed_in_cases : (name : List ℕ) → Clauses → Bool
pointed_in_cases name NoClauses = false
pointed_in_cases name (MoreClauses at (Case f x) body others) =
    (not (bytes_eq x.text name) && pointed_in_items name body) || pointed_in_cases name others
pointed_in_cases name (MoreClauses at Default body others) = pointed_in_cases name others

abbrev pub pointed_in_default : (name : List ℕ) → Clauses → Bool
pointed_in_default name NoClauses = false
pointed_in_default name (MoreClauses at (Case f x) body others) = pointed_in_default name others
pointed_in_default name (MoreClauses at Default body others) = pointed_in_items name body

none_pointed : (name : List ℕ) (clauses : Clauses) → defaults clauses ≤ 0 → pointed_in_default name clauses ≡ false
none_pointed name NoClauses h = refl
none_pointed name (MoreClauses at (Case f x) body others) h = none_pointed name others h
none_pointed name (MoreClauses at Default body others) h = absurd (omega (arith, h))

clauses_pointed : (name : List ℕ) (clauses : Clauses) → defaults clauses ≤ 1
    → (pointed_in_cases name clauses || pointed_in_default name clauses) ≡ pointed_in_clauses name clauses
clauses_pointed name NoClauses h = refl
clauses_pointed name (MoreClauses at (Case f x) body others) h =
    let here = not (bytes_eq x.text name) && pointed_in_items name body in
    or_assoc here (pointed_in_cases name others) (pointed_in_default name others) ∙ ap (λ z. here || z) (clauses_pointed name others h)
clauses_pointed name (MoreClauses at Default body others) h =
    let cases = pointed_in_cases name others in
    or_swap cases (pointed_in_items name body) ∙
    ap (λ z. pointed_in_items name body || z)
    (sym (or_false cases) ∙ (ap (λ z. cases || z) (sym (none_pointed name others (omega (arith, h)))) ∙ clauses_pointed name others (omega (arith, h))))

-- a value begins with its initializer alone
pub value_simple : (s : Shape) → IsValueShape s → begins_itself s ≡ false
value_simple (StructShape tag) h = absurd h
value_simple (ArrayShape count of) h = absurd h
value_simple _ h = refl

-- ---- statements

module _ (w : World) (is_plain : IsPlainWorld w) (result : Shape) where
  mutual
    pub statement_does : (names : List Named) (r : RegionsAround) (s : tree.Statement) (next : ℕ) → TakesStatement w result names s
        → StatementHasArguments w s → HasOneDefault s
        → Does names (statement_code w result names r next s) (λ n. pointed_in n s) (statement_flags w names s)
    statement_does names r (tree.Statement.Empty at) next h g k = nothing (plain refl (λ o i. refl))
    statement_does names r (tree.Statement.Block at items) next h g k =
        block_does w names items (items_code w result (outward names) r 0 next items) (items_do (outward names) r 0 next items (outward_before names) h g k)
    statement_does names r (tree.Statement.Run e) next h g k = run_does w names e r.all next h g
    statement_does names r (tree.Statement.Exchange left right) next h g k =
        both (side_does w names left r.all next h.0 g.0)
        (behind (side_does w names right (r.all + 1) (next + length (expression_values w names left)) h.1.0 g.1)
        (exchange_plain w (side_of names left) (side_of names right) (static_shape w names left) r.all))
    statement_does names r (tree.Statement.If at condition body) next h g k =
        let first = next + length (expression_values w names condition) in
        both (expression_does w names condition r.all next h.0 g.0)
        (when_does r.all (statement_code w result names r first body) (statement_does names r body first h.1 g.1 k))
    statement_does names r (tree.Statement.IfElse at condition body otherwise) next h g k =
        let first = next + length (expression_values w names condition) in
        let second = first + length (statement_values w names body) in
        both (expression_does w names condition r.all next h.0 g.0)
        (if_does r.all (statement_code w result names r first body) (statement_code w result names r second otherwise)
        (statement_does names r body first h.1.0 g.1.0 k.0) (statement_does names r otherwise second h.1.1 g.1.1 k.1))
    statement_does names r (tree.Statement.While at condition body) next h g k =
        let first = next + length (expression_values w names condition) in
        while_does r.all (expression_code w names condition r.all next) (statement_code w result names (in_loop r) first body)
        (expression_does w names condition r.all next h.0 g.0) (statement_does names (in_loop r) body first h.1 g.1 k)
    statement_does names r (tree.Statement.Switch at place clauses) next h g k =
        let parts = union_parts w (static_shape w names place) in
        let first = next + length (expression_values w names place) in
        let values = union_values w (static_shape w names place) is_plain h.1.0 in
        leave_does _
        (said
        (both
        (placed w names place (place_code w names place r.all next) _ (place_does w names place r.all next h.0 g.0)
        (union_word w.unions (static_shape w names place) h.1.0))
        (ahead {xs = core.Do (core.Load (r.all + 1) r.all _) ∷ []} (plain refl (λ o i. refl))
        (both (cases_do names (in_switch r) parts values first clauses h.1.1 g.1 k.1)
        (default_does names (in_switch r) parts (first + length (case_values w names parts clauses)) clauses h.1.1 g.1 k.1))))
        (λ n. ap (λ z. pointed n place || z) (clauses_pointed n clauses k.0)) refl)
    statement_does names r (tree.Statement.Break at) next h g k =
        nothing (both_plain (leaving_code r.opened r.all r.broken) (core.Break ∷ []) (leaving_plain r.opened r.all r.broken) (plain refl (λ o i. refl)))
    statement_does names r (tree.Statement.Continue at) next h g k =
        nothing (both_plain (leaving_code r.opened r.all r.continued) (core.Continue ∷ []) (leaving_plain r.opened r.all r.continued)
        (plain refl (λ o i. refl)))
    statement_does names r (tree.Statement.Return at None) next h g k =
        nothing (both_plain (leaving_code r.opened r.all r.all) (core.Return [] ∷ []) (leaving_plain r.opened r.all r.all) (plain refl (λ o i. refl)))
    statement_does names r (tree.Statement.Return at (Some e)) next h g k =
        behind (expression_does w names e r.all next h g)
        (both_plain _ _ (conversion_plain w result (static_shape w names e) r.all)
        (both_plain (leaving_code r.opened r.all r.all) (core.Return (results_in result r.all) ∷ []) (leaving_plain r.opened r.all r.all)
        (plain refl (λ o i. refl))))
    statement_does names r (tree.Statement.FreeUnique at pointer) next h g k = behind (read_does w names pointer.text r.all) (plain refl (λ o i. refl))
    statement_does names r (tree.Statement.FreeKey at key) next h g k = behind (read_does w names key.text r.all) (plain refl (λ o i. refl))

    pub items_do : (names : List Named) (r : RegionsAround) (count next : ℕ) (items : BlockItems) → AreBefore names count
        → TakesItems w result names count items → HaveArguments w items → HaveOneDefault items
        → ItemsDo w names count items (items_code w result names r count next items)
    items_do names r count next NoItems before h g k = record { does = nothing_at refl (λ out index t. refl); here = λ body e. refl }
    items_do names r count next (Declare d others) before h g k =
        let inside = names_behind w names count d in
        let own = next + length (declaration_values w names d) in
        declared_do w names d count others (declaration_code w names d r.all count next)
        (items_code w result inside (regions_with d r) (suc count) own others) (ending_code d r.all) before (shape_object w names d h.0)
        (declaration_does w names d r.all count next h.0 g.0) (declaration_taken w names r.all count next d h.0)
        (items_do inside (regions_with d r) (suc count) own others (behind_before names (tree.local_of d).text (local_shape w names d) count before) h.1 g.1 k)
        (ending_plain d r.all)
    items_do names r count next (Execute s others) before h g k =
        let own = next + length (statement_values w names s) in
        executed_do w names s count others (statement_code w result names r next s) (items_code w result names r count own others) before
        (statement_does names r s next h.0 g.0 k.0) (items_do names r count own others before h.1 g.1 k.1)

    -- the copy of a member is the first local of its clause
    cases_do : (names : List Named) (r : RegionsAround) (parts : List Part) → AreValues (part_shapes parts) → (next : ℕ) (clauses : Clauses)
        → TakesClauses w result names parts clauses → ClausesHaveArguments w clauses → ClausesHaveOneDefault clauses
        → Does names (cases_code w result names r parts next clauses) (λ n. pointed_in_cases n clauses) (case_flags w names parts clauses)
    cases_do names r parts values next NoClauses h g k = nothing (plain refl (λ o i. refl))
    cases_do names r parts values next (MoreClauses at (Case f x) body others) h g k =
        let s = part_shape parts f.text in
        let inside = named_here x.text s 0 ∷ outward names in
        let code = items_code w result inside r 1 next body in
        let put = put_local s r.all 0 0 in
        let value = member_value parts f.text values h.0 in
        ahead
        {xs = core.Do (core.Constant (r.all + 2) (member_number parts f.text)) ∷ core.Do (core.Apply core.Equal (r.all + 2) (r.all + 1) (r.all + 2)) ∷ []}
        (plain refl (λ o i. refl))
        (both
        (when_does (r.all + 2)
        (core.Block (locals_of w (s ∷ block_shapes w inside 1 body)) (all_of (held_loads s r.all ++ (put ++ code))) ∷ core.Break ∷ [])
        (behind {ys = core.Break ∷ []}
        (clause_does w names x.text s body (held_loads s r.all) put code (object_named w.unions w.structs s (value_object w.unions w.structs s value))
        (value_simple s value) (held_plain s r.all) (stored_flags s (r.all + words_in s) r.all 0 0)
        (λ out index t. stored_free s (r.all + words_in s) r.all 0 0 out index t)
        (items_do inside r 1 next body (behind_before (outward names) x.text s 0 (outward_before names)) h.1.0 g.0 k.0))
        (plain refl (λ o i. refl))))
        (cases_do names r parts values (next + length (item_values w inside 1 body)) others h.1.1 g.1 k.1))
    cases_do names r parts values next (MoreClauses at Default body others) h g k = cases_do names r parts values next others h.1 g.1 k.1

    default_does : (names : List Named) (r : RegionsAround) (parts : List Part) (next : ℕ) (clauses : Clauses) → TakesClauses w result names parts clauses
        → ClausesHaveArguments w clauses → ClausesHaveOneDefault clauses
        → Does names (default_code w result names r next clauses) (λ n. pointed_in_default n clauses) (default_flags w names clauses)
    default_does names r parts next NoClauses h g k = nothing (plain refl (λ o i. refl))
    default_does names r parts next (MoreClauses at (Case f x) body others) h g k = default_does names r parts next others h.1.1 g.1 k.1
    default_does names r parts next (MoreClauses at Default body others) h g k =
        block_does w names body (items_code w result (outward names) r 0 next body) (items_do (outward names) r 0 next body (outward_before names) h.0 g.0 k.0)
