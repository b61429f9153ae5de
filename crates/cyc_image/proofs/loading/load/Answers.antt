use Rattle.std.proofs.Common.{rules, Ok, inl, ap, sym, ◌∙◌}
use Rattle.cyc_image.proofs.Images.{accepted_image, image_parts, image_unrefused}
use Rattle.cyc_image.proofs.loading.load.Goals as goal

pub returns-in_ok-image_of-in-None-clause-found : goal.returns-in_ok-image_of-in-None-clause-found
returns-in_ok-image_of-in-None-clause-found c =
    rw c.in_ok-image_of-in-None.ensures (accepted_image c.args.bytes.now (search rules) c.in-None.ensures)

pub returns-in_ok-image_of-in-None-clause-all : goal.returns-in_ok-image_of-in-None-clause-all
returns-in_ok-image_of-in-None-clause-all c parts is =
    inl (ap Ok (c.in_ok-image_of-in-None.ensures ∙ sym (image_parts c.args.bytes.now parts is)))

pub returns-in-Some-clause-all : goal.returns-in-Some-clause-all
returns-in-Some-clause-all c parts is = absurd (image_unrefused c.args.bytes.now parts is c.in-Some.fault c.in-Some.ensures)
