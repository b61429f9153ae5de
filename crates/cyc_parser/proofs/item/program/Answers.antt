use Rattle.std.proofs.Common.{◌≤◌, map, sym, ap, subst, ◌∙◌}
use Rattle.std.proofs.lemmas.Result.{err_from_is_err_and}
use Rattle.cyc_lexer.specs.Tokens.{token_tree}
use Rattle.cyc_tree.specs.Tree.{Program}
use Rattle.cyc_tree.specs.Depths.{nesting, nesting_limit}
use Rattle.cyc_tree.specs.View.{program_item_tree}
use Rattle.source_grammar.specs.Phrases.{Tokens}
use Rattle.source_grammar.specs.Grammar.{IsProgram}
use Rattle.source_grammar.proofs.Operands.{has_operands}
use Rattle.source_grammar.proofs.Rooms.{room_is_there}
use Rattle.cyc_parser.specs.Reader.{Fails}
use Rattle.cyc_parser.specs.ReadPrograms.{program}
use Rattle.cyc_parser.proofs.WholePrograms.{is_found, is_nested, is_only, is_refused_for, is_refused_program}
use Rattle.cyc_parser.proofs.item.program.Goals as goal

pub new-requires-clause-operands : goal.new-requires-clause-operands
new-requires-clause-operands c =
    let tokens = map token_tree c.args.tokens.now in
    let read = ap (program nesting_limit) (sym c.new-cursor.ensures) ∙ c.in_ok-items.ensures in
    let items = map program_item_tree c.in_ok-items.items.items in
    has_operands items tokens (is_found tokens items c.items.new.cursor read)

pub new-requires-clause-room : goal.new-requires-clause-room
new-requires-clause-room c =
    let tokens = map token_tree c.args.tokens.now in
    let read = ap (program nesting_limit) (sym c.new-cursor.ensures) ∙ c.in_ok-items.ensures in
    let items = map program_item_tree c.in_ok-items.items.items in
    room_is_there items tokens c.requires.few (is_found tokens items c.items.new.cursor read)

pub returns-in-Ok-clause-found : goal.returns-in-Ok-clause-found
returns-in-Ok-clause-found c =
    let tokens = map token_tree c.args.tokens.now in
    let read = ap (program nesting_limit) (sym c.new-cursor.ensures) ∙ c.in_ok-items.ensures in
    subst (λ (p : Program). IsProgram p tokens) (sym c.in-Ok.ensures)
    (is_found tokens (map program_item_tree c.in_ok-items.items.items) c.items.new.cursor read)

pub returns-in-Ok-clause-nested : goal.returns-in-Ok-clause-nested
returns-in-Ok-clause-nested c =
    let tokens = map token_tree c.args.tokens.now in
    let read = ap (program nesting_limit) (sym c.new-cursor.ensures) ∙ c.in_ok-items.ensures in
    subst (λ (p : Program). nesting p ≤ nesting_limit) (sym c.in-Ok.ensures)
    (is_nested tokens (map program_item_tree c.in_ok-items.items.items) c.items.new.cursor read)

pub returns-in-Ok-clause-only : goal.returns-in-Ok-clause-only
returns-in-Ok-clause-only c = λ p phrase.
    let tokens = map token_tree c.args.tokens.now in
    let read = ap (program nesting_limit) (sym c.new-cursor.ensures) ∙ c.in_ok-items.ensures in
    c.in-Ok.ensures ∙ is_only p tokens (map program_item_tree c.in_ok-items.items.items) c.items.new.cursor phrase read

pub returns-in_err-items-clause-only : goal.returns-in_err-items-clause-only
returns-in_err-items-clause-only c = λ p phrase.
    let tokens = map token_tree c.args.tokens.now in
    let result = err_from_is_err_and c.from_residual.result c.from_residual.ensures.1 in
    let fails : Fails c.in_err-items.field-0.0 (program nesting_limit tokens) =
    subst (λ (ts : Tokens). Fails c.in_err-items.field-0.0 (program nesting_limit ts)) c.new-cursor.ensures c.in_err-items.ensures in
    rw (result.1, result.2) (is_refused_program p tokens c.in_err-items.field-0.0 phrase fails)

pub returns-in_err-items-clause-refused : goal.returns-in_err-items-clause-refused
returns-in_err-items-clause-refused c =
    let tokens = map token_tree c.args.tokens.now in
    let result = err_from_is_err_and c.from_residual.result c.from_residual.ensures.1 in
    let fails : Fails c.in_err-items.field-0.0 (program nesting_limit tokens) =
    subst (λ (ts : Tokens). Fails c.in_err-items.field-0.0 (program nesting_limit ts)) c.new-cursor.ensures c.in_err-items.ensures in
    rw (result.1, result.2) (is_refused_for tokens c.in_err-items.field-0.0 c.requires.few fails)
