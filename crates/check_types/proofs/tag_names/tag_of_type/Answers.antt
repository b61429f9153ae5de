use Rattle.std.proofs.Common.{◌≡◌, List, ap, subst, sym, ℕ, ◌∙◌}
use Rattle.cyc_tree.specs.View.{name_tree, type_tree}
use Rattle.check_types.specs.Naming.{tag_named}
use Rattle.check_types.specs.Tagged.{IsNamed}
use Rattle.check_types.specs.declared.tagged.TagName.{TagName}
use Rattle.check_types.proofs.Naming.{tag_means, tag_of_none}
use Rattle.check_types.proofs.tag_names.tag_of_type.Goals as goal

pub returns-in-Some : goal.returns-in-Some
returns-in-Some c g named =
    let x = name_tree c.in-Some.name.now in
    let is : tag_named c.args.names.now x.text ≡ c.of.result =
    ap (λ (y : List ℕ). tag_named c.args.names.now y) (sym c.deref.ensures.value) ∙ sym c.of.ensures in
    tag_means g (type_tree c.args.of.now) c.of.result x (sym c.in-Some.ensures)
    (subst (λ (n : TagName). IsNamed g x.text n) is (named x.text))

pub returns-in-None : goal.returns-in-None
returns-in-None c g named = tag_of_none g (type_tree c.args.of.now) _ (sym c.in-None.ensures)
