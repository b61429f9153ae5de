use Rattle.std.proofs.Common.{◌≡◌, ap, ⊎_elim}
use Rattle.std.specs.Prelude.{Some}
use Rattle.cyc_tree.specs.View.{base_tree, name_tree, type_tree}
use Rattle.check_types.specs.Tagged.{base_tag, type_tag}
use Rattle.check_types.proofs.PlainTypes.{tag_is_base}
use Rattle.check_types.proofs.variables.RegionVariables.parameter_in.Goals as goal

pub returns-in-Struct-clause-found : goal.returns-in-Struct-clause-found
returns-in-Struct-clause-found c g h =
    let t = type_tree c.args.of.now in
    let x = name_tree c.in-Struct.name in
    let e : type_tag t ≡ Some x =
    ⊎_elim (λ s. ap (λ b. base_tag (base_tree b)) s.1) (λ u. ap (λ b. base_tag (base_tree b)) u.1) c.in-Struct.is in
    c.on_tagged.ensures.found g (h x e) (tag_is_base t x e)

pub returns-in-Struct-clause-after : goal.returns-in-Struct-clause-after
returns-in-Struct-clause-after c g h =
    let t = type_tree c.args.of.now in
    let x = name_tree c.in-Struct.name in
    let e : type_tag t ≡ Some x =
    ⊎_elim (λ s. ap (λ b. base_tag (base_tree b)) s.1) (λ u. ap (λ b. base_tag (base_tree b)) u.1) c.in-Struct.is in
    c.on_tagged.ensures.after g (h x e) (tag_is_base t x e)
