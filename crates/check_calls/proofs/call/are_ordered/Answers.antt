use Rattle.std.proofs.Common.{refl, sym}
use Rattle.source_typing.specs.Regions.{TheHeap}
use Rattle.check_calls.proofs.call.are_ordered.Goals as goal

pub each-init : goal.each-init
each-init c = λ g h. record { rest = refl; known = sym (h.regions.order TheHeap TheHeap) }
