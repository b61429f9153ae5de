use Rattle.std.proofs.Common.{◌≡◌, ◌∙◌, sym, ap, subst, Option}
use Rattle.std.specs.Prelude.{option_map, IfSome}
use Rattle.cyc_tree.specs.Tree as tree
use Rattle.source_meaning.specs.Programs.{functions_of, routine_of}
use Rattle.source_lowering.specs.Lowered.{number_of}
use Rattle.lower_checks.specs.Tables.{Numbered, callee_tree, first_function}
use Rattle.lower_checks.proofs.Tables.{callee_routine, first_is, first_number, from_zero, if_callee}
use Rattle.lower_checks.proofs.table.Table.function_named.Goals as goal

pub returns-clause-named : goal.returns-clause-named
returns-clause-named c =
    let p = c.args.self.now in
    let name = c.args.name.now in
    let found : option_map callee_tree c.of.result ≡ first_function p 0 name =
    ap (option_map callee_tree) c.of.ensures ∙ c.self.invariant.functions_are name ∙ ap (λ (t : tree.Program). first_function t 0 name) c.self.view_is in
    callee_routine c.of.result ∙ ap (option_map (λ (n : Numbered). routine_of n.function)) found ∙ first_is p 0 name

pub returns-clause-number : goal.returns-clause-number
returns-clause-number c =
    let p = c.args.self.now in
    let name = c.args.name.now in
    let found : option_map callee_tree c.of.result ≡ first_function p 0 name =
    ap (option_map callee_tree) c.of.ensures ∙ c.self.invariant.functions_are name ∙ ap (λ (t : tree.Program). first_function t 0 name) c.self.view_is in
    if_callee (λ n. n.number ≡ number_of (functions_of p) name) c.of.result
    (subst (λ (o : Option Numbered). IfSome o (λ n. n.number ≡ number_of (functions_of p) name)) (sym found)
    (from_zero (number_of (functions_of p) name) (first_function p 0 name) (first_number p 0 name)))
