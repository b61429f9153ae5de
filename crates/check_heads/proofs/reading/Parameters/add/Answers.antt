use Rattle.std.proofs.Common.{◌++◌, ◌∷◌, List, [], refl, subst, sym}
use Rattle.cyc_tree.specs.View.{member_tree}
use Rattle.check_heads.proofs.ReadParameters.{read_more}
use Rattle.check_heads.specs.Reading.{AreRead}
use Rattle.check_heads.specs.declared.head.Parameter.{Parameter}
use Rattle.check_heads.proofs.reading.Parameters.add.Goals as goal

pub returns : goal.returns
returns c g ms tags h =
    let tag = c.tag_of_type-tag.ensures g tags in
    let m = member_tree c.args.member.now in
    let old = c.args.self.now in
    let p : Parameter = record { name = c.deref.result; at = c.args.member.now.name.at; of = c.in_ok-of.of } in
    subst (λ xs. AreRead g c.parameter_in.new.self xs (ms ++ m ∷ [])) (sym {A = List Parameter} c.in_ok-push.ensures.items)
    (read_more g m old.variables c.parameter_in.new.self old.items.items p ms h
    (record {
      named = c.deref.ensures.value;
      placed = refl;
      typed = c.in_ok-of.ensures.found g tag;
    })
    (c.in_ok-of.ensures.after g tag))
