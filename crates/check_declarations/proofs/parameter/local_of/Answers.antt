use Rattle.std.specs.Prelude.{Some, option_map}
use Rattle.std.proofs.Common.{ap, sym, ◌∙◌}
use Rattle.cyc_types.specs.Types.{static_type}
use Rattle.check_heads.specs.Heads.{known_static}
use Rattle.check_declarations.proofs.Parameters.{known_is, unknown_is}
use Rattle.check_declarations.proofs.parameter.local_of.Goals as goal

pub returns-in_ok-try_clone-in-Some : goal.returns-in_ok-try_clone-in-Some
returns-in_ok-try_clone-in-Some c =
    known_is c.args.frame (known_static c.args.of.now) c.in_ok-try_clone-in-Some.field-0
    (ap Some c.in_ok-try_clone-in-Some.ensures ∙ sym (ap (option_map (λ t. static_type t.now)) c.in-Some.is) ∙ c.known_type.ensures)

pub returns-in-None : goal.returns-in-None
returns-in-None c =
    unknown_is c.args.frame (known_static c.args.of.now) (sym (ap (option_map (λ t. static_type t.now)) c.in-None.is) ∙ c.known_type.ensures)
