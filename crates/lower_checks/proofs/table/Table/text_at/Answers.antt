use Rattle.std.proofs.Common.{◌∙◌, length, sym, ap, arith, subst}
use Rattle.std.specs.Prelude.{option_map}
use Rattle.cyc_tree.specs.Tree as tree
use Rattle.source_meaning.specs.Programs.{globals_from}
use Rattle.source_meaning.specs.Strings.{program_strings}
use Rattle.source_lowering.specs.Lowerable.{AreStrings}
use Rattle.lower_checks.proofs.Texts.{few_globals, short_found, text_in, value_of}
use Rattle.lower_checks.proofs.table.Table.text_at.Goals as goal

-- each global is an item
pub prove-unreachable-requires : goal.prove-unreachable-requires
prove-unreachable-requires c = omega (arith, c.self.invariant.behind_globals, few_globals c.self.inside.items.now)

pub overflow_cast-result : goal.overflow_cast-result
overflow_cast-result c =
    let all = c.self.invariant.strings_are ∙ ap program_strings c.self.view_is in
    let short = subst (λ (t : tree.Program). AreStrings (program_strings t)) c.self.view_is c.self.invariant.short in
    omega (
      arith,
      short_found c.self.inside.strings (program_strings c.args.self.now) c.args.at c.in-Some.found short all
          (sym c.in-Some.is ∙ c.at.ensures.first),
    )

pub returns-in-Some : goal.returns-in-Some
returns-in-Some c =
    let p = c.args.self.now in
    let all = c.self.invariant.strings_are ∙ ap program_strings c.self.view_is in
    let many = c.self.invariant.behind_globals ∙ ap (λ (t : tree.Program). length (globals_from t 0)) c.self.view_is in
    ap (option_map (value_of c.self.inside.behind)) (sym c.in-Some.is)
    ∙ text_in c.self.inside.strings (program_strings p) c.self.inside.behind (length (globals_from p 0)) c.args.at c.at.result c.at.ensures.first all many

pub returns-in-None : goal.returns-in-None
returns-in-None c =
    let p = c.args.self.now in
    let all = c.self.invariant.strings_are ∙ ap program_strings c.self.view_is in
    let many = c.self.invariant.behind_globals ∙ ap (λ (t : tree.Program). length (globals_from t 0)) c.self.view_is in
    ap (option_map (value_of c.self.inside.behind)) (sym c.in-None.is)
    ∙ text_in c.self.inside.strings (program_strings p) c.self.inside.behind (length (globals_from p 0)) c.args.at c.at.result c.at.ensures.first all many
