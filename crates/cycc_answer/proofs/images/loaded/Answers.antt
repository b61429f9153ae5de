use Rattle.std.proofs.Common.{rules, ◌≡◌, ◌↔◌, IfErr, List, ℕ, Result, Ok, Err}
use Rattle.cyc_image.specs.declared.fault.ImageFault.{ImageFault}
use Rattle.cyc_image.specs.declared.fault.ImageFault.TheVariants as image
use Rattle.cyc_image.specs.Format.{Contents, IsShort, RefusedAsMagic, RefusedAsVersion, RefusedAsLimit, RefusedAsEntry, RefusedAsTrailing}
use Rattle.cycc_answer.specs.Answers.{IsNoImageFor}
use Rattle.cycc_answer.proofs.images.loaded.Goals as goal

-- each refusal comes where its rule applies
no_image : (bytes : List ℕ) (r : Result Contents ImageFault)
    → (r ≡ Err image.Short ↔ IsShort bytes) → (r ≡ Err image.Magic ↔ RefusedAsMagic bytes) → (r ≡ Err image.Version ↔ RefusedAsVersion bytes)
    → (r ≡ Err image.Limit ↔ RefusedAsLimit bytes) → (r ≡ Err image.Entry ↔ RefusedAsEntry bytes) → (r ≡ Err image.Trailing ↔ RefusedAsTrailing bytes)
    → IfErr r (IsNoImageFor bytes)
no_image bytes (Ok image) short magic version limit entry trailing = search rules
no_image bytes (Err image.Short) short magic version limit entry trailing = search (rules, short)
no_image bytes (Err image.Magic) short magic version limit entry trailing = search (rules, magic)
no_image bytes (Err image.Version) short magic version limit entry trailing = search (rules, version)
no_image bytes (Err image.Limit) short magic version limit entry trailing = search (rules, limit)
no_image bytes (Err image.Entry) short magic version limit entry trailing = search (rules, entry)
no_image bytes (Err image.Trailing) short magic version limit entry trailing = search (rules, trailing)
no_image bytes (Err image.Memory) short magic version limit entry trailing = search rules

pub returns-clause-refused : goal.returns-clause-refused
returns-clause-refused c = no_image c.args.file.now c.load.result c.load.ensures.short c.load.ensures.magic c.load.ensures.version c.load.ensures.limit
    c.load.ensures.entry c.load.ensures.trailing
