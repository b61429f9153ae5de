use Rattle.std.specs.Prelude.{if◌then◌else◌, nat_eq}
use Rattle.std.proofs.Common.{rules, ◌≡◌, ◌<◌, ◌∷◌, [], ◌++◌, length, ap, ◌∙◌}
use Rattle.core_eval.specs.declared.value.Value.TheVariants as value
use Rattle.core_eval.specs.Values.{content_of, temp_of}
use Rattle.core_eval.proofs.Lists.{temp_grown, temp_set}
use Rattle.core_eval.proofs.frame.Frame.set_temp.Goals as goal

pub grow-preserved : goal.grow-preserved
grow-preserved c =
    let grown : c.push.new.self.items ≡ c.grow.self.temps.items ++ value.Blank ∷ [] = search rules in
    record {
      temps = λ k. ap (λ l. temp_of l k) grown ∙ temp_grown c.grow.self.temps.items k ∙ c.grow.invariant.temps k;
      base = c.grow.invariant.base;
    }

pub returns-clause-temps : goal.returns-clause-temps
returns-clause-temps c =
    let within : c.args.temporary.0 < length c.grow.self.temps.items = search rules in
    λ k. temp_set c.grow.self.temps.items c.args.temporary.0 c.args.value k within
    ∙ ap (λ v. if nat_eq k c.args.temporary.0 then content_of c.args.value else v) (c.grow.invariant.temps k)
