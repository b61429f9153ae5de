-- Why a text has no image, from why its program has no code.
use Rattle.std.proofs.Common.{ℕ, List, arith}
use Rattle.cyc_tree.specs.Tree.{Program}
use Rattle.cycc_driver.specs.declared.fault.CompileFault.{CompileFault}
use Rattle.cycc_driver.specs.declared.fault.CompileFault.TheVariants as fault
use Rattle.cycc_driver.specs.Texts.{IsAcceptedAs}
use Rattle.cycc_driver.specs.Refusals.{IsRefusedFor, HasNoImageFor}
use Rattle.cycc_driver.specs.Refused.{HasNoCodeFor}
use Rattle.token_proof.proofs.ProgramSizes.{tokens_pay}

-- what a text is refused for
pub refused_image : (f : CompileFault) (text : List ℕ) → IsRefusedFor f text → HasNoImageFor f text
refused_image (fault.Lex place) text why = why
refused_image (fault.Parse place) text why = why
refused_image (fault.TooDeep place) text why = why
refused_image (fault.Name place) text why = why
refused_image (fault.Typing place) text why = why
refused_image (fault.Region place) text why = why
refused_image (fault.Outlives place) text why = why
refused_image (fault.Effect place) text why = why
refused_image (fault.Consumed place) text why = why
refused_image (fault.Lent place) text why = why
refused_image (fault.Copy place) text why = why
refused_image (fault.Size place) text why = why
refused_image (fault.TooLarge place) text why = absurd why
refused_image fault.Memory text why = tt

-- what an accepted program has no code for
pub codeless_image : (f : CompileFault) (text : List ℕ) (program : Program) → IsAcceptedAs text program → HasNoCodeFor f program → HasNoImageFor f text
codeless_image (fault.Lex place) text program accepted why = absurd why
codeless_image (fault.Parse place) text program accepted why = absurd why
codeless_image (fault.TooDeep place) text program accepted why = absurd why
codeless_image (fault.Name place) text program accepted why = absurd why
codeless_image (fault.Typing place) text program accepted why = absurd why
codeless_image (fault.Region place) text program accepted why = absurd why
codeless_image (fault.Outlives place) text program accepted why = absurd why
codeless_image (fault.Effect place) text program accepted why = absurd why
codeless_image (fault.Consumed place) text program accepted why = absurd why
codeless_image (fault.Lent place) text program accepted why = absurd why
codeless_image (fault.Copy place) text program accepted why = absurd why
codeless_image (fault.Size place) text program accepted why = absurd why
codeless_image (fault.TooLarge place) text program accepted why =
    let paid = tokens_pay program accepted.spelled.tokens accepted.spelled.parsed in
    let long = why.long in
    record { program = program; accepted = accepted; large = omega (arith, paid, long); line = why.line; column = why.column }
codeless_image fault.Memory text program accepted why = tt
