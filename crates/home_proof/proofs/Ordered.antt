-- Flags that lie in a list by their numbers are, in the order of the text, those of the names.
use Rattle.std.proofs.Common.{◌≡◌, ℕ, zero, suc, ◌+◌, ◌≤◌, Bool, List, [], ◌∷◌, ◌++◌, length, map, Some, None, refl, sym, ap, ◌∙◌, subst, arith, length-append}
use Rattle.std.proofs.lemmas.List.{map-append}
use Rattle.cyc_tree.specs.Tree as tree
use Rattle.cyc_tree.specs.Tree.{
  Expression,
  Expressions,
  NoExpressions,
  MoreExpressions,
  Links,
  NoLinks,
  MoreLinks,
  Suffixes,
  NoSuffixes,
  Index,
  Dot,
  Arrow,
  Made,
  One,
  Array,
  Initializer,
  Declaration,
  Statement,
  BlockItems,
  NoItems,
  Declare,
  Execute,
  Clauses,
  NoClauses,
  MoreClauses,
  Case,
  Default,
}
use Rattle.source_typing.specs.Statements.{defaults}
use Rattle.source_meaning.specs.Shapes.{UnsignedShape, Part, part_shape}
use Rattle.source_meaning.specs.Steps.{Routine, World}
use Rattle.source_lowering.specs.Lowered.{Named, static_shape, union_parts}
use Rattle.source_lowering.specs.Programs.{named_here, names_behind, outward, parameter_names}
use Rattle.source_lowering.specs.Order.{
  indices_in,
  indices_in_suffixes,
  indices_in_declaration,
  declared_here,
  declared_in,
  declared_in_cases,
  declared_within,
  expression_order,
  all_order,
  link_order,
  suffix_order,
  made_order,
  declaration_order,
  statement_order,
  items_order,
  clauses_order,
  numbers_from,
  locals_order,
}
use Rattle.core_lines.specs.Homes.{flag_at}
use Rattle.home_proof.specs.Defaults.{HasOneDefault, HaveOneDefault, ClausesHaveOneDefault}
use Rattle.home_proof.specs.Names.{
  may_live,
  pointed,
  expression_names,
  all_names,
  link_names,
  suffix_names,
  made_names,
  declaration_names,
  statement_names,
  item_names,
  clause_names,
  parameter_flags,
  function_names,
}
use Rattle.home_proof.specs.Numbered.{
  expression_flags,
  all_flags,
  link_flags,
  suffix_flags,
  made_flags,
  declaration_flags,
  here_flags,
  statement_flags,
  within_flags,
  case_flags,
  default_flags,
  function_flags,
}
use Rattle.home_proof.proofs.Places.{LieAt, first_lie, second_lie, lies}
use Rattle.home_proof.proofs.Counts.{many_flags, many_in_suffixes, many_in_declaration, many_here, many_declared, many_in_cases, many_in_block, many_within}

module _ (flags : List Bool) where
  both : (ns ms : List ℕ) (bs cs : List Bool) → map (flag_at flags) ns ≡ bs → map (flag_at flags) ms ≡ cs → map (flag_at flags) (ns ++ ms) ≡ bs ++ cs
  both ns ms bs cs h k = map-append (flag_at flags) ns ms ∙ (λ i. h i ++ k i)

  mutual
    pub expression_ordered : (n : ℕ) (e : Expression) → LieAt flags n (expression_flags e) → map (flag_at flags) (expression_order n e) ≡ expression_names e
    expression_ordered n (Expression.Call x arguments) h = all_ordered n arguments h
    expression_ordered n (Expression.MakeUnion tag member value) h = expression_ordered n value h
    expression_ordered n (Expression.NumElts at operand) h = expression_ordered n operand h
    expression_ordered n (Expression.Grouped at inner) h = expression_ordered n inner h
    expression_ordered n (Expression.Suffixed primary suffixes) h =
        both _ _ _ _
        (expression_ordered (n + indices_in_suffixes suffixes) primary
        (second_lie flags n (suffix_flags suffixes) (expression_flags primary) (indices_in_suffixes suffixes) (many_in_suffixes suffixes) h))
        (suffixes_ordered n suffixes (first_lie flags n (suffix_flags suffixes) (expression_flags primary) h))
    expression_ordered n (Expression.Prefixed at operator operand) h = expression_ordered n operand h
    expression_ordered n (Expression.New at new) h = made_ordered n new h
    expression_ordered n (Expression.NewIn at handle new) h =
        both _ _ _ _ (expression_ordered n handle (first_lie flags n (expression_flags handle) (made_flags new) h))
        (made_ordered (n + indices_in handle) new
        (second_lie flags n (expression_flags handle) (made_flags new) (indices_in handle) (many_flags handle) h))
    expression_ordered n (Expression.Chain e others) h =
        both _ _ _ _ (expression_ordered n e (first_lie flags n (expression_flags e) (link_flags others) h))
        (links_ordered (n + indices_in e) others (second_lie flags n (expression_flags e) (link_flags others) (indices_in e) (many_flags e) h))
    expression_ordered n (Expression.AllOf e others) h =
        both _ _ _ _ (expression_ordered n e (first_lie flags n (expression_flags e) (all_flags others) h))
        (all_ordered (n + indices_in e) others (second_lie flags n (expression_flags e) (all_flags others) (indices_in e) (many_flags e) h))
    expression_ordered n (Expression.AnyOf e others) h =
        both _ _ _ _ (expression_ordered n e (first_lie flags n (expression_flags e) (all_flags others) h))
        (all_ordered (n + indices_in e) others (second_lie flags n (expression_flags e) (all_flags others) (indices_in e) (many_flags e) h))
    expression_ordered n (Expression.Assign place value) h =
        both _ _ _ _
        (expression_ordered (n + indices_in value) place
        (second_lie flags n (expression_flags value) (expression_flags place) (indices_in value) (many_flags value) h))
        (expression_ordered n value (first_lie flags n (expression_flags value) (expression_flags place) h))
    expression_ordered n _ h = refl

    all_ordered : (n : ℕ) (es : Expressions) → LieAt flags n (all_flags es) → map (flag_at flags) (all_order n es) ≡ all_names es
    all_ordered n NoExpressions h = refl
    all_ordered n (MoreExpressions e others) h =
        both _ _ _ _ (expression_ordered n e (first_lie flags n (expression_flags e) (all_flags others) h))
        (all_ordered (n + indices_in e) others (second_lie flags n (expression_flags e) (all_flags others) (indices_in e) (many_flags e) h))

    links_ordered : (n : ℕ) (ls : Links) → LieAt flags n (link_flags ls) → map (flag_at flags) (link_order n ls) ≡ link_names ls
    links_ordered n NoLinks h = refl
    links_ordered n (MoreLinks operator operand others) h =
        both _ _ _ _ (expression_ordered n operand (first_lie flags n (expression_flags operand) (link_flags others) h))
        (links_ordered (n + indices_in operand) others
        (second_lie flags n (expression_flags operand) (link_flags others) (indices_in operand) (many_flags operand) h))

    suffixes_ordered : (n : ℕ) (ss : Suffixes) → LieAt flags n (suffix_flags ss) → map (flag_at flags) (suffix_order n ss) ≡ suffix_names ss
    suffixes_ordered n NoSuffixes h = refl
    suffixes_ordered n (Index index others) h =
        both _ _ _ _
        (expression_ordered (n + indices_in_suffixes others) index
        (second_lie flags n (suffix_flags others) (expression_flags index) (indices_in_suffixes others) (many_in_suffixes others) h))
        (suffixes_ordered n others (first_lie flags n (suffix_flags others) (expression_flags index) h))
    suffixes_ordered n (Dot f others) h = suffixes_ordered n others h
    suffixes_ordered n (Arrow f others) h = suffixes_ordered n others h

    made_ordered : (n : ℕ) (new : Made) → LieAt flags n (made_flags new) → map (flag_at flags) (made_order n new) ≡ made_names new
    made_ordered n (One value) h = expression_ordered n value h
    made_ordered n (Array index count element) h =
        let its = may_live UnsignedShape (pointed index.text element) in
        let behind = second_lie flags n (expression_flags count) (its ∷ expression_flags element) (indices_in count) (many_flags count) h in
        let rest = both (expression_order n count) (expression_order (suc (n + indices_in count)) element) (expression_names count) (expression_names element)
        (expression_ordered n count (first_lie flags n (expression_flags count) (its ∷ expression_flags element) h))
        (expression_ordered (suc (n + indices_in count)) element behind.1) in
        (λ i. behind.0 i ∷ rest i)

  declaration_ordered : (n : ℕ) (d : Declaration) → LieAt flags n (declaration_flags d) → map (flag_at flags) (declaration_order n d) ≡ declaration_names d
  declaration_ordered n (tree.Local of x (Initializer.Value e)) h = expression_ordered n e h
  declaration_ordered n (tree.Local of x Initializer.Unset) h = refl
  declaration_ordered n (tree.Local of x (Initializer.Elements count)) h = refl
  declaration_ordered n (tree.Region at region handle) h = refl
  declaration_ordered n (tree.Open at region handle key) h = refl
  declaration_ordered n (tree.Alias at region of alias pointer) h = refl
  declaration_ordered n (tree.NewKey at region key) h = refl

  -- where no more `default` comes, none has flags
  no_default : (w : World) (names : List Named) (cs : Clauses) → defaults cs ≡ 0 → default_flags w names cs ≡ []
  no_default w names NoClauses e = refl
  no_default w names (MoreClauses at (Case f x) body others) e = no_default w names others e
  no_default w names (MoreClauses at Default body others) e = absurd (omega (arith, e))

  mutual
    pub statement_ordered : (w : World) (names : List Named) (n : ℕ) (s : Statement) → HasOneDefault s → LieAt flags n (statement_flags w names s)
        → map (flag_at flags) (statement_order n s) ≡ statement_names w names s
    statement_ordered w names n (Statement.Empty at) one h = refl
    statement_ordered w names n (Statement.Block at items) one h =
        let outer = outward names in
        items_ordered w outer 0 n (n + declared_here items) items one
        (first_lie flags n (here_flags w outer 0 items) (within_flags w outer 0 items) h)
        (second_lie flags n (here_flags w outer 0 items) (within_flags w outer 0 items) (declared_here items) (many_here w outer 0 items) h)
    statement_ordered w names n (Statement.Run e) one h = expression_ordered n e h
    statement_ordered w names n (Statement.Exchange left right) one h =
        both _ _ _ _ (expression_ordered n left (first_lie flags n (expression_flags left) (expression_flags right) h))
        (expression_ordered (n + indices_in left) right
        (second_lie flags n (expression_flags left) (expression_flags right) (indices_in left) (many_flags left) h))
    statement_ordered w names n (Statement.If at condition body) one h =
        both _ _ _ _ (expression_ordered n condition (first_lie flags n (expression_flags condition) (statement_flags w names body) h))
        (statement_ordered w names (n + indices_in condition) body one
        (second_lie flags n (expression_flags condition) (statement_flags w names body) (indices_in condition) (many_flags condition) h))
    statement_ordered w names n (Statement.IfElse at condition body otherwise) one h =
        let k = n + indices_in condition in
        let these = statement_flags w names body in
        let those = statement_flags w names otherwise in
        let ways = second_lie flags n (expression_flags condition) (these ++ those) (indices_in condition) (many_flags condition) h in
        both _ _ _ _ (expression_ordered n condition (first_lie flags n (expression_flags condition) (these ++ those) h))
        (both _ _ _ _ (statement_ordered w names k body one.0 (first_lie flags k these those ways))
        (statement_ordered w names (k + declared_in body) otherwise one.1
        (second_lie flags k these those (declared_in body) (many_declared w names body) ways)))
    statement_ordered w names n (Statement.While at condition body) one h =
        both _ _ _ _ (expression_ordered n condition (first_lie flags n (expression_flags condition) (statement_flags w names body) h))
        (statement_ordered w names (n + indices_in condition) body one
        (second_lie flags n (expression_flags condition) (statement_flags w names body) (indices_in condition) (many_flags condition) h))
    statement_ordered w names n (Statement.Switch at place clauses) one h =
        let parts : List Part = union_parts w (static_shape w names place) in
        let k = n + indices_in place in
        let cases = case_flags w names parts clauses in
        let last = default_flags w names clauses in
        let behind = second_lie flags n (expression_flags place) (cases ++ last) (indices_in place) (many_flags place) h in
        both _ _ _ _ (expression_ordered n place (first_lie flags n (expression_flags place) (cases ++ last) h))
        (clauses_ordered w names parts k (k + declared_in_cases clauses) clauses one.0 one.1 (first_lie flags k cases last behind)
        (second_lie flags k cases last (declared_in_cases clauses) (many_in_cases w names parts clauses) behind))
    statement_ordered w names n (Statement.Break at) one h = refl
    statement_ordered w names n (Statement.Continue at) one h = refl
    statement_ordered w names n (Statement.Return at (Some e)) one h = expression_ordered n e h
    statement_ordered w names n (Statement.Return at None) one h = refl
    statement_ordered w names n (Statement.FreeUnique at pointer) one h = refl
    statement_ordered w names n (Statement.FreeKey at key) one h = refl

    pub items_ordered : (w : World) (names : List Named) (index here inner : ℕ) (items : BlockItems) → HaveOneDefault items
        → LieAt flags here (here_flags w names index items) → LieAt flags inner (within_flags w names index items)
        → map (flag_at flags) (items_order here inner items) ≡ item_names w names index items
    items_ordered w names index here inner NoItems one h k = refl
    items_ordered w names index here inner (Declare d others) one h k =
        let names' = names_behind w names index d in
        let inside = within_flags w names' (suc index) others in
        let rest = both (declaration_order inner d) (items_order (suc here) (inner + indices_in_declaration d) others) (declaration_names d)
        (item_names w names' (suc index) others)
        (declaration_ordered inner d (first_lie flags inner (declaration_flags d) inside k))
        (items_ordered w names' (suc index) (suc here) (inner + indices_in_declaration d) others one h.1
        (second_lie flags inner (declaration_flags d) inside (indices_in_declaration d) (many_in_declaration d) k)) in
        (λ i. h.0 i ∷ rest i)
    items_ordered w names index here inner (Execute s others) one h k =
        let its = statement_flags w names s in
        let inside = within_flags w names index others in
        both _ _ _ _ (statement_ordered w names inner s one.0 (first_lie flags inner its inside k))
        (items_ordered w names index here (inner + declared_in s) others one.1 h
        (second_lie flags inner its inside (declared_in s) (many_declared w names s) k))

    pub clauses_ordered : (w : World) (names : List Named) (parts : List Part) (named default : ℕ) (cs : Clauses) → defaults cs ≤ 1
        → ClausesHaveOneDefault cs → LieAt flags named (case_flags w names parts cs) → LieAt flags default (default_flags w names cs)
        → map (flag_at flags) (clauses_order named default cs) ≡ clause_names w names parts cs
    clauses_ordered w names parts named default NoClauses few one h k = refl
    clauses_ordered w names parts named default (MoreClauses at (Case f x) body others) few one h k =
        let s = part_shape parts f.text in
        let inner = named_here x.text s 0 ∷ outward names in
        let own = here_flags w inner 1 body in
        let inside = within_flags w inner 1 body in
        let rest = case_flags w names parts others in
        let its = first_lie flags (suc named) (own ++ inside) rest h.1 in
        let all = both (items_order (suc named) (suc named + declared_here body) body)
        (clauses_order (suc named + (declared_here body + declared_within body)) default others) (item_names w inner 1 body)
        (clause_names w names parts others)
        (items_ordered w inner 1 (suc named) (suc named + declared_here body) body one.0 (first_lie flags (suc named) own inside its)
        (second_lie flags (suc named) own inside (declared_here body) (many_here w inner 1 body) its))
        (clauses_ordered w names parts (suc named + (declared_here body + declared_within body)) default others few one.1
        (second_lie flags (suc named) (own ++ inside) rest (declared_here body + declared_within body)
        (many_in_block w inner 1 body (many_within w inner 1 body)) h.1) k) in
        (λ i. h.0 i ∷ all i)
    clauses_ordered w names parts named default (MoreClauses at Default body others) few one h k =
        let outer = outward names in
        let own = here_flags w outer 0 body in
        let inside = within_flags w outer 0 body in
        let none = no_default w names others (omega (arith, few)) in
        both _ _ _ _
        (items_ordered w outer 0 default (default + declared_here body) body one.0 (first_lie flags default own inside k)
        (second_lie flags default own inside (declared_here body) (many_here w outer 0 body) k))
        (clauses_ordered w names parts named default others (omega (arith, few)) one.1 h (subst (LieAt flags default) (sym none) tt))

  -- as many flags as a count says, from a number on
  parameters_ordered : (n : ℕ) (bs : List Bool) (count : ℕ) → length bs ≡ count → LieAt flags n bs → map (flag_at flags) (numbers_from n count) ≡ bs
  parameters_ordered n [] zero e h = refl
  parameters_ordered n [] (suc count) e h = absurd (omega (arith, e))
  parameters_ordered n (b ∷ bs) zero e h = absurd (omega (arith, e))
  parameters_ordered n (b ∷ bs) (suc count) e h = let rest = parameters_ordered (suc n) bs count (omega (arith, e)) h.1 in (λ i. h.0 i ∷ rest i)

many_parameters : (ps : List Part) (body : BlockItems) → length (parameter_flags ps body) ≡ length ps
many_parameters [] body = refl
many_parameters (p ∷ ps) body = let h = many_parameters ps body in omega (arith, h)

-- The flags of a function's locals, in the order of the text, are those of its names.
pub function_ordered : (w : World) (f : Routine) → HaveOneDefault f.body → map (flag_at (function_flags w f)) (locals_order f) ≡ function_names w f
function_ordered w f one =
    let names = parameter_names f.parameters 0 [] in
    let p = length f.parameters in
    let flags = function_flags w f in
    let parameters = parameter_flags f.parameters f.body in
    let own = here_flags w names p f.body in
    let inside = within_flags w names p f.body in
    let many = many_parameters f.parameters f.body in
    let here = many_here w names p f.body in
    let front = length-append parameters own in
    let all = lies flags in
    let outer = first_lie flags 0 (parameters ++ own) inside all in
    let own_lie = second_lie flags 0 parameters own p many outer in
    let inside_lie = second_lie flags 0 (parameters ++ own) inside (p + declared_here f.body) (omega (arith, front, many, here)) all in
    both flags (numbers_from 0 p) (items_order p (p + declared_here f.body) f.body) parameters (item_names w names p f.body)
    (parameters_ordered flags 0 parameters p many (first_lie flags 0 parameters own outer))
    (items_ordered flags w names p p (p + declared_here f.body) f.body one (subst (λ k. LieAt flags k own) (omega arith) own_lie)
    (subst (λ k. LieAt flags k inside) (omega arith) inside_lie))
