use Rattle.std.proofs.Common.{sym, ◌∙◌}
use Rattle.cyc_image.proofs.Images.{image_parts}
use Rattle.cyc_image.proofs.laws.one_meaning.Goals as goal

pub returns : goal.returns
returns c bytes parts other is also = image_parts bytes parts is ∙ sym (image_parts bytes other also)
