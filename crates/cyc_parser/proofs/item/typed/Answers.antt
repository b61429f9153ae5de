use Rattle.std.proofs.Common.{refl, sym}
use Rattle.std.proofs.lemmas.Result.{err_from_is_err_and}
use Rattle.cyc_tree.specs.Depths.{nesting_limit}
use Rattle.cyc_tree.specs.View.{name_tree, type_tree}
use Rattle.cyc_parser.specs.ReadPrograms.{function_behind, function_of, typed}
use Rattle.cyc_parser.proofs.ReadSteps.{first_fails}
use Rattle.cyc_parser.proofs.item.typed.Goals as goal

pub returns-in_err-rest-clause-reads : goal.returns-in_err-rest-clause-reads
unfolding typed function_of
returns-in_err-rest-clause-reads c =
    let p = err_from_is_err_and c.from_residual-in_err-rest.result c.from_residual-in_err-rest.ensures.1 in
    let t = type_tree c.args.of in
    let n = name_tree c.in_ok-name.name in
    rw (p.1, p.2, c.in_ok-name.ensures.reads, sym c.if-eat.ensures.next, c.if-eat.ensures.reads)
    (first_fails c.in_err-rest.field-0.0 (function_behind nesting_limit t n c.eat.new.self) _ (c.in_err-rest.ensures.reads t n))

pub returns-in_ok-rest-clause-reads : goal.returns-in_ok-rest-clause-reads
unfolding typed function_of
returns-in_ok-rest-clause-reads c =
    let read = c.in_ok-rest.ensures.reads (type_tree c.args.of) (name_tree c.in_ok-name.name) in
    rw (c.in_ok-name.ensures.reads, sym c.if-eat.ensures.next, c.if-eat.ensures.reads, read) refl
