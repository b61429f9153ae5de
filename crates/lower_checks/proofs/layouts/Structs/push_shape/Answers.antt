use Rattle.std.proofs.Common.{Bor, Option, rules, sym, subst}
use Rattle.std.specs.Prelude.{IfSome, option_copied}
use Rattle.lower_checks.specs.Structs.{AreNear}
use Rattle.lower_checks.specs.declared.layouts.Known.{Known}
use Rattle.lower_checks.proofs.layouts.Structs.push_shape.Goals as goal

-- the struct is the table's
pub push_moved-requires : goal.push_moved-requires
push_moved-requires c =
    let found = subst (λ (o : Option Known). IfSome o (λ k. AreNear k.layout.value.cells.items)) (sym c.of.ensures) (c.requires.near c.in-Struct.tag.now) in
    let near : AreNear c.in-Some.known.now.layout.value.cells.items =
    subst (λ (o : Option (Bor Known)). IfSome (option_copied o) (λ k. AreNear k.layout.value.cells.items)) c.in-Some.is found in
    search (rules, near)
