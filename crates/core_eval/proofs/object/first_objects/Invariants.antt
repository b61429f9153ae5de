use Rattle.std.proofs.Common.{◌≡◌, ◌++◌, drop, map}
use Rattle.core_eval.specs.Elements.{first_object, cells_of}
use Rattle.core_eval.proofs.object.first_objects.Given as goal

abbrev pub invariant-each : goal.invariant-each
invariant-each l = record { whole : map cells_of l.objects.items ++ map first_object (drop l.datum-index l.globals) ≡ map first_object l.globals }
