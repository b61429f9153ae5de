-- The readers of functions and of typed items answer the tree, or the first place that is too deep.
use Rattle.std.proofs.Common.{◌≡◌, ℕ, false, Option, refl, sym, subst, Ok, arith}
use Rattle.cyc_lexer.specs.declared.token.Sign.{Sign}
use Rattle.cyc_lexer.specs.declared.token.Sign.TheVariants as sign_of
use Rattle.cyc_tree.specs.Depths.{items_starts, item_starts, first_deeper}
use Rattle.cyc_tree.specs.Tree.{Name, TypeName, Function, BlockItems, Item, StructItem, UnionItem, GlobalItem, FunctionItem}
use Rattle.cyc_tree.specs.View.{items_of}
use Rattle.source_grammar.specs.Phrases.{Tokens, SignAt}
use Rattle.source_grammar.specs.StatementGrammar.{AreItems}
use Rattle.cyc_parser.specs.Tests.{is_sign}
use Rattle.cyc_parser.specs.Reader.{done, sign}
use Rattle.cyc_parser.specs.ReadExpressions.{expression_at}
use Rattle.cyc_parser.specs.ReadStatements.{items_by, statement_at}
use Rattle.cyc_parser.specs.ReadPrograms.{parameters, effect, bounds, function_of, typed}
use Rattle.cyc_parser.specs.ReadTypes.{name}
use Rattle.cyc_parser.specs.Exact.{Stops}
use Rattle.cyc_parser.proofs.exactness.Composed.{begins_with, stops_at, stops_ends, finish}
use Rattle.cyc_parser.proofs.exactness.Types.{sign_exact, name_exact}
use Rattle.cyc_parser.proofs.exactness.Parameters.{parameters_exact}
use Rattle.cyc_parser.proofs.exactness.Effects.{effect_exact, bounds_on, bounds_exact}
use Rattle.cyc_parser.proofs.exactness.Blocks.{list_of, list_same}
use Rattle.cyc_parser.proofs.StatementsWithin.{goes_on_in_block}
use Rattle.cyc_parser.proofs.exactness.Functions.{IsFunctionOf, make_function, function_same, function_back, effected_begins, bounded_begins}
use Rattle.cyc_parser.proofs.exactness.Typed.{IsTypedItem, typed_exact}
use Rattle.cyc_parser.proofs.Goes.{Goes, goes_behind, goes_before}
use Rattle.cyc_parser.proofs.going.Expressions.{expression_goes}
use Rattle.cyc_parser.proofs.going.Statements.{statement_goes}
use Rattle.cyc_parser.proofs.going.Blocks.{items_goes}

sign_again : (s : Sign) (at : ℕ) (from to : Tokens) → SignAt s at from to → sign s from ≡ Ok (at, to)
sign_again s at from to is = (sign_exact s).again at from to is (stops_ends at to)

-- declarations and statements that stand in no phrase
body_goes : (most : ℕ) (items : BlockItems) (from to : Tokens) → AreItems items from to → Stops goes_on_in_block to
    → Goes (items_by (expression_at most) (statement_at most) from) (list_of items) to (first_deeper most (items_starts 0 items))
body_goes most = items_goes most 0 most (expression_goes most 0 most (omega arith)) (statement_goes most 0 most (omega arith))

-- a function, from its parameters on: its body stands in no phrase
pub function_goes : (most : ℕ) (result : TypeName) (n : Name) (f : Function) (from to : Tokens) → IsFunctionOf most result n false f from to
    → Goes (function_of most result n from) f to (first_deeper most (items_starts 0 f.body))
unfolding function_of
function_goes most result n f from to w =
    let opens = function_back most result n false f from to w in let ps = opens.3 in let e = ps.3 in let bs = e.3 in let closes = bs.3 in
    let brace = closes.3 in let is = brace.3 in let end = is.3 in
    let items : BlockItems = items_of is.0 in
    let deep : Option ℕ = first_deeper most (items_starts 0 items) in
    let made : Function = make_function result n ps.0 e.0 bs.0 (list_of items) end.0 in
    let same : made ≡ make_function result n ps.0 e.0 bs.0 is.0 end.0 =
    sym (function_same (make_function result n ps.0 e.0 bs.0 is.0 end.0) result n (list_of items) refl refl (sym (list_same items))) in
    finish (λ f to. Goes (function_of most result n from) f to (first_deeper most (items_starts 0 f.body))) end.3
    (subst (λ f. Goes (function_of most result n from) f end.1 deep) same
    (goes_behind (sign sign_of.LeftParenthesis) _ from opens.0 opens.1 made end.1 deep
    (sign_again sign_of.LeftParenthesis opens.0 from opens.1 opens.2)
    (goes_behind parameters _ opens.1 ps.0 ps.1 made end.1 deep
    (parameters_exact.again ps.0 opens.1 ps.1 ps.2 (effected_begins most (make_function result n ps.0) false f ps.1 to e))
    (goes_behind effect _ ps.1 e.0 e.1 made end.1 deep
    (effect_exact.again e.0 ps.1 e.1 e.2
    (bounded_begins most (is_sign sign_of.Semicolon) refl refl (make_function result n ps.0 e.0) false f e.1 to bs))
    (goes_behind bounds _ e.1 bs.0 bs.1 made end.1 deep
    (bounds_exact.again bs.0 e.1 bs.1 bs.2 (stops_at bounds_on bs.1 _ _ closes.2.1 refl))
    (goes_behind (sign sign_of.RightParenthesis) _ bs.1 closes.0 closes.1 made end.1 deep
    (sign_again sign_of.RightParenthesis closes.0 bs.1 closes.1 closes.2)
    (goes_behind (sign sign_of.LeftBrace) _ closes.1 brace.0 brace.1 made end.1 deep
    (sign_again sign_of.LeftBrace brace.0 closes.1 brace.1 brace.2)
    (goes_before (items_by (expression_at most) (statement_at most)) _ brace.1 (list_of items) is.1 made end.1 deep
    (body_goes most items brace.1 is.1 is.2.0 (stops_at goes_on_in_block is.1 _ _ end.2.1 refl))
    (rw (sign_again sign_of.RightBrace end.0 is.1 end.1 end.2) refl)))))))))

-- a global or a function of this type, from its name on
pub typed_goes : (most : ℕ) (t : TypeName) (i : Item) (from to : Tokens) → IsTypedItem most t false i from to
    → Goes (typed most t from) i to (first_deeper most (item_starts i))
unfolding typed
typed_goes most t (StructItem s) from to w = absurd w
typed_goes most t (UnionItem u) from to w = absurd w
typed_goes most t (GlobalItem g) from to w = (typed_exact most t).again (GlobalItem g) from to w (stops_ends (GlobalItem g) to)
typed_goes most t (FunctionItem f) from to w =
    let deep : Option ℕ = first_deeper most (items_starts 0 f.body) in
    goes_behind name _ from f.name w.1 (FunctionItem f) to deep (name_exact.again f.name from w.1 w.2 (stops_ends f.name w.1))
    (rw (begins_with (is_sign sign_of.LeftParenthesis) w.1 _ _ w.3.7.1.1 refl)
    (goes_before (function_of most t f.name) (λ f. done (FunctionItem f)) w.1 f to (FunctionItem f) to deep
    (function_goes most t f.name f w.1 to (w.0, refl, w.3, tt)) refl))
