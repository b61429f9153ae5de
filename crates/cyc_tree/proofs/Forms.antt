-- The pure tree of each form of an expression of the code, from those of its parts: what a proof about code that matches on a tree rewrites by.
use Rattle.std.proofs.Common.{◌≡◌, ℕ, Bool, map, sym, ap, ◌∙◌}
use Rattle.std.specs.declared.boxed.Box.{Box}
use Rattle.std.specs.declared.vec.Vec.{Vec}
use Rattle.std.specs.declared.alloc.Global.{Global}
use Rattle.cyc_tree.specs.declared.name.Name.{Name}
use Rattle.cyc_tree.specs.declared.expression.Operator.{Operator}
use Rattle.cyc_tree.specs.declared.expression.Prefix.{Prefix}
use Rattle.cyc_tree.specs.declared.expression.Expression as code
use Rattle.cyc_tree.specs.declared.expression.Expression.TheVariants as form
use Rattle.cyc_tree.specs.declared.expression.Made as code_made
use Rattle.cyc_tree.specs.declared.expression.Suffix as code_suffix
use Rattle.cyc_tree.specs.declared.expression.Link as code_link
use Rattle.cyc_tree.specs.declared.expression.Expression.TheOpen.{Expression-F}
use Rattle.cyc_tree.specs.declared.expression.Expression.TheFolds.{fold-roll-Expression, fold-roll-Link}
use Rattle.cyc_tree.specs.Tree.{Expression, Made}
use Rattle.cyc_tree.specs.View.{OneSuffix, name_tree, expressions_of, suffixes_of, links_of, expression_step, made_step, suffix_step, link_step}
use Rattle.cyc_tree.specs.View.{expression_tree, made_tree, suffix_tree, link_tree}

pub number_tree : (at : ℕ) (value : ℕ) (suffix : Bool) → expression_tree (form.Number at value suffix) ≡ Expression.Number at value suffix
number_tree at value suffix =
    ap expression_tree (sym (form.rolls-Number at value suffix)) ∙ fold-roll-Expression Expression Made OneSuffix (Operator × Expression) expression_step
    made_step suffix_step link_step (Expression-F.Number at value suffix)

pub character_tree : (at : ℕ) (byte : ℕ) → expression_tree (form.Character at byte) ≡ Expression.Character at byte
character_tree at byte =
    ap expression_tree (sym (form.rolls-Character at byte)) ∙ fold-roll-Expression Expression Made OneSuffix (Operator × Expression) expression_step made_step
    suffix_step link_step (Expression-F.Character at byte)

pub text_tree : (at : ℕ) (bytes : Vec ℕ Global) → expression_tree (form.Text at bytes) ≡ Expression.Text at bytes.items
text_tree at bytes =
    ap expression_tree (sym (form.rolls-Text at bytes)) ∙ fold-roll-Expression Expression Made OneSuffix (Operator × Expression) expression_step made_step
    suffix_step link_step (Expression-F.Text at bytes)

pub null_tree : (at : ℕ) → expression_tree (form.Null at) ≡ Expression.Null at
null_tree at =
    ap expression_tree (sym (form.rolls-Null at)) ∙ fold-roll-Expression Expression Made OneSuffix (Operator × Expression) expression_step made_step suffix_step
    link_step (Expression-F.Null at)

pub heap_region_tree : (at : ℕ) → expression_tree (form.HeapRegion at) ≡ Expression.HeapRegion at
heap_region_tree at =
    ap expression_tree (sym (form.rolls-HeapRegion at)) ∙ fold-roll-Expression Expression Made OneSuffix (Operator × Expression) expression_step made_step
    suffix_step link_step (Expression-F.HeapRegion at)

pub unique_region_tree : (at : ℕ) → expression_tree (form.UniqueRegion at) ≡ Expression.UniqueRegion at
unique_region_tree at =
    ap expression_tree (sym (form.rolls-UniqueRegion at)) ∙ fold-roll-Expression Expression Made OneSuffix (Operator × Expression) expression_step made_step
    suffix_step link_step (Expression-F.UniqueRegion at)

pub variable_tree : (name : Name) → expression_tree (form.Variable name) ≡ Expression.Variable (name_tree name)
variable_tree name =
    ap expression_tree (sym (form.rolls-Variable name)) ∙ fold-roll-Expression Expression Made OneSuffix (Operator × Expression) expression_step made_step
    suffix_step link_step (Expression-F.Variable name)

pub call_tree : (name : Name) (arguments : Vec code.Expression Global)
    → expression_tree (form.Call name arguments) ≡ Expression.Call (name_tree name) (expressions_of (map expression_tree arguments.items))
call_tree name arguments =
    ap expression_tree (sym (form.rolls-Call name arguments)) ∙ fold-roll-Expression Expression Made OneSuffix (Operator × Expression) expression_step made_step
    suffix_step link_step (Expression-F.Call name arguments)

pub make_union_tree : (tag : Name) (member : Name) (value : Box code.Expression Global)
    → expression_tree (form.MakeUnion tag member value) ≡ Expression.MakeUnion (name_tree tag) (name_tree member) (expression_tree value.value)
make_union_tree tag member value =
    ap expression_tree (sym (form.rolls-MakeUnion tag member value)) ∙ fold-roll-Expression Expression Made OneSuffix (Operator × Expression) expression_step
    made_step suffix_step link_step (Expression-F.MakeUnion tag member value)

pub num_elts_tree : (at : ℕ) (operand : Box code.Expression Global)
    → expression_tree (form.NumElts at operand) ≡ Expression.NumElts at (expression_tree operand.value)
num_elts_tree at operand =
    ap expression_tree (sym (form.rolls-NumElts at operand)) ∙ fold-roll-Expression Expression Made OneSuffix (Operator × Expression) expression_step made_step
    suffix_step link_step (Expression-F.NumElts at operand)

pub grouped_tree : (at : ℕ) (inner : Box code.Expression Global) → expression_tree (form.Grouped at inner) ≡ Expression.Grouped at (expression_tree inner.value)
grouped_tree at inner =
    ap expression_tree (sym (form.rolls-Grouped at inner)) ∙ fold-roll-Expression Expression Made OneSuffix (Operator × Expression) expression_step made_step
    suffix_step link_step (Expression-F.Grouped at inner)

pub suffixed_tree : (primary : Box code.Expression Global) (suffixes : Vec code_suffix.Suffix Global)
    → expression_tree (form.Suffixed primary suffixes) ≡ Expression.Suffixed (expression_tree primary.value) (suffixes_of (map suffix_tree suffixes.items))
suffixed_tree primary suffixes =
    ap expression_tree (sym (form.rolls-Suffixed primary suffixes)) ∙ fold-roll-Expression Expression Made OneSuffix (Operator × Expression) expression_step
    made_step suffix_step link_step (Expression-F.Suffixed primary suffixes)

pub prefixed_tree : (at : ℕ) (operator : Prefix) (operand : Box code.Expression Global)
    → expression_tree (form.Prefixed at operator operand) ≡ Expression.Prefixed at operator (expression_tree operand.value)
prefixed_tree at operator operand =
    ap expression_tree (sym (form.rolls-Prefixed at operator operand)) ∙ fold-roll-Expression Expression Made OneSuffix (Operator × Expression) expression_step
    made_step suffix_step link_step (Expression-F.Prefixed at operator operand)

pub new_tree : (at : ℕ) (made : code_made.Made) → expression_tree (form.New at made) ≡ Expression.New at (made_tree made)
new_tree at made =
    ap expression_tree (sym (form.rolls-New at made)) ∙ fold-roll-Expression Expression Made OneSuffix (Operator × Expression) expression_step made_step
    suffix_step link_step (Expression-F.New at made)

pub new_in_tree : (at : ℕ) (handle : Box code.Expression Global) (made : code_made.Made)
    → expression_tree (form.NewIn at handle made) ≡ Expression.NewIn at (expression_tree handle.value) (made_tree made)
new_in_tree at handle made =
    ap expression_tree (sym (form.rolls-NewIn at handle made)) ∙ fold-roll-Expression Expression Made OneSuffix (Operator × Expression) expression_step
    made_step suffix_step link_step (Expression-F.NewIn at handle made)

pub chain_tree : (first : Box code.Expression Global) (others : Vec code_link.Link Global)
    → expression_tree (form.Chain first others) ≡ Expression.Chain (expression_tree first.value) (links_of (map link_tree others.items))
chain_tree first others =
    ap expression_tree (sym (form.rolls-Chain first others)) ∙ fold-roll-Expression Expression Made OneSuffix (Operator × Expression) expression_step made_step
    suffix_step link_step (Expression-F.Chain first others)

pub all_of_tree : (first : Box code.Expression Global) (others : Vec code.Expression Global)
    → expression_tree (form.AllOf first others) ≡ Expression.AllOf (expression_tree first.value) (expressions_of (map expression_tree others.items))
all_of_tree first others =
    ap expression_tree (sym (form.rolls-AllOf first others)) ∙ fold-roll-Expression Expression Made OneSuffix (Operator × Expression) expression_step made_step
    suffix_step link_step (Expression-F.AllOf first others)

pub any_of_tree : (first : Box code.Expression Global) (others : Vec code.Expression Global)
    → expression_tree (form.AnyOf first others) ≡ Expression.AnyOf (expression_tree first.value) (expressions_of (map expression_tree others.items))
any_of_tree first others =
    ap expression_tree (sym (form.rolls-AnyOf first others)) ∙ fold-roll-Expression Expression Made OneSuffix (Operator × Expression) expression_step made_step
    suffix_step link_step (Expression-F.AnyOf first others)

pub assign_tree : (place : Box code.Expression Global) (value : Box code.Expression Global)
    → expression_tree (form.Assign place value) ≡ Expression.Assign (expression_tree place.value) (expression_tree value.value)
assign_tree place value =
    ap expression_tree (sym (form.rolls-Assign place value)) ∙ fold-roll-Expression Expression Made OneSuffix (Operator × Expression) expression_step made_step
    suffix_step link_step (Expression-F.Assign place value)

pub link_parts : (l : code_link.Link) → link_tree l ≡ (l.operator, expression_tree l.operand)
link_parts l =
    fold-roll-Link Expression Made OneSuffix (Operator × Expression) expression_step made_step suffix_step link_step
    (record { operator = l.operator; operand = l.operand })
