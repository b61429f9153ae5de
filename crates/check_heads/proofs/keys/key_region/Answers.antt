use Rattle.std.proofs.Common.{sym, ◌∙◌}
use Rattle.check_heads.proofs.KeyTypes.{base_key, pointer_key}
use Rattle.check_heads.proofs.keys.key_region.Goals as goal

pub returns-in-Some : goal.returns-in-Some
returns-in-Some c = sym (pointer_key c.args.of.now c.in-Some.field-0 (sym c.outer.ensures ∙ c.in-Some.is))

pub returns-in-None : goal.returns-in-None
returns-in-None c = c.base_key.ensures ∙ sym (base_key c.args.of.now (sym c.outer.ensures ∙ c.in-None.is))
