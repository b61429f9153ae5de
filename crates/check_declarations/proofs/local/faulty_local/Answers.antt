use Rattle.check_scopes.specs.Means.{WhatIs}
use Rattle.check_declarations.proofs.local.faulty_local.Goals as goal

pub returns : goal.returns
returns c = λ fs h. record { fault = h; what = WhatIs.NotKnown }
