use Rattle.std.proofs.Common.{◌≡◌, ◌++◌, drop, map}
use Rattle.core_eval.specs.Elements.{blank_object, cells_of}
use Rattle.core_eval.proofs.object.push_blanks.Given as goal

abbrev pub invariant-each : goal.invariant-each
invariant-each l = record {
  whole : map cells_of l.objects.items ++ map blank_object (drop l.local-index l.locals) ≡ map cells_of l.fn.objects.items
      ++ map blank_object l.locals;
}
