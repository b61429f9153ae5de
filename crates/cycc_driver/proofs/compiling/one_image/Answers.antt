use Rattle.cycc_driver.proofs.OneImage.{one_image}
use Rattle.cycc_driver.proofs.compiling.one_image.Goals as goal

pub returns : goal.returns
returns c = one_image
