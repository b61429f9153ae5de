use Rattle.std.proofs.Common.{◌≡◌, drop, map}
use Rattle.language_server.specs.Methods.{find_method}
use Rattle.language_server.proofs.methods.find_method.Given as goal

abbrev pub invariant-loop-method : goal.invariant-loop-method
invariant-loop-method l =
    find_method (map (λ e. (e.0, e.1.now)) (drop l.method-index l.methods)) l.name ≡ find_method (map (λ e. (e.0, e.1.now)) l.methods) l.name
