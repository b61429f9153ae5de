use Rattle.std.proofs.Common.{◌≡◌, ap, subst, ⊎_elim}
use Rattle.std.specs.Prelude.{IfOk, Some}
use Rattle.cyc_tree.specs.View.{base_tree, name_tree, type_tree}
use Rattle.check_faults.specs.Verdicts.{short_of, shortened}
use Rattle.check_types.specs.Tagged.{base_tag, type_tag}
use Rattle.check_types.specs.Written.{partial_type}
use Rattle.check_types.proofs.PlainTypes.{tag_is_base}
use Rattle.check_types.proofs.TagTypes.{tagged_written}
use Rattle.check_types.proofs.tagged.written_in.Goals as goal

pub returns-in-Struct : goal.returns-in-Struct
returns-in-Struct c g h =
    let t = type_tree c.args.of.now in
    let x = name_tree c.in-Struct.name in
    let e : type_tag t ≡ Some x =
    ⊎_elim (λ s. ap (λ b. base_tag (base_tree b)) s.1) (λ u. ap (λ b. base_tag (base_tree b)) u.1) c.in-Struct.is in
    subst (λ v. IfOk c.written_tagged.result (λ r. short_of partial_type r ≡ shortened v)) (tagged_written g c.args.names.now t x c.args.tag e h)
    (c.written_tagged.ensures (tag_is_base t x e))
