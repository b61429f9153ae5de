use Rattle.std.proofs.Common.{◌≡◌, Bool, ap, false, refl, true, ◌∙◌}
use Rattle.std.specs.Prelude.{Option, Some, bytes_eq, if◌then◌else◌, is_some, unwrap_or, ◌||◌}
use Rattle.std.proofs.lemmas.Map.Text.{hash_map_updates_str}
use Rattle.check_types.specs.Naming.{tag_entry}
use Rattle.check_types.specs.declared.tagged.TagName.{TagName}
use Rattle.check_types.specs.declared.tagged.TagName.TheVariants as code
use Rattle.check_types.proofs.tag_names.TagNames.add.Goals as goal

by_entry : (b : Bool) (n : TagName) (o : Option TagName) → unwrap_or (if b then Some n else o) code.NoName ≡ (if b then n else unwrap_or o code.NoName)
by_entry true n o = refl
by_entry false n o = refl

pub returns-clause-names : goal.returns-clause-names
returns-clause-names c x =
    ap (λ (o : Option TagName). unwrap_or o code.NoName)
    (hash_map_updates_str c.args.name.now c.args.self.now.entries c.insert.new.self (Some c.args.tag) c.in_ok-insert.ensures.updates x)
    ∙ by_entry (bytes_eq c.args.name.now x) c.args.tag (tag_entry c.args.self.now x)

any_entry : (b : Bool) (n : TagName) (o : Option TagName) → is_some (if b then Some n else o) ≡ (b || is_some o)
any_entry true n o = refl
any_entry false n o = refl

pub returns-clause-known : goal.returns-clause-known
returns-clause-known c x =
    ap is_some (hash_map_updates_str c.args.name.now c.args.self.now.entries c.insert.new.self (Some c.args.tag) c.in_ok-insert.ensures.updates x)
    ∙ any_entry (bytes_eq c.args.name.now x) c.args.tag (tag_entry c.args.self.now x)
