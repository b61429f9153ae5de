use Rattle.cyc_image.proofs.Images.{image_text}
use Rattle.cyc_image.proofs.laws.one_text.Goals as goal

pub returns : goal.returns
returns c = image_text
