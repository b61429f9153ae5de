use Rattle.std.proofs.Common.{ap, map, refl}
use Rattle.cyc_types.specs.Regions.{regions_of}
use Rattle.source_typing.specs.Regions.{entry_regions}
use Rattle.check_scopes.specs.declared.scope.Scope.{Scope}
use Rattle.check_regions.specs.Fields.{pair_of}
use Rattle.check_heads.proofs.Bodies.{begins, same_regions}
use Rattle.check_heads.proofs.entering.entered.Goals as goal

pub returns-clause-known : goal.returns-clause-known
returns-clause-known c g i f h known is =
    let head = c.args.head.now in
    let names = c.args.names in
    let s : Scope = record {
      globals = names.globals;
      tables = names.tables;
      locals = c.new.result;
      regions = c.begin_block.new.self;
      lenient = c.args.lenient;
    } in
    begins head f h is c.args.lenient g i s c.new.ensures known.globals known.tags refl
    (c.in_ok-begin_block.ensures.by_the_rules (entry_regions h.signature.regions h.signature.effect h.signature.bounds)
    (same_regions head f h is c.count.result (regions_of c.as_slice.result.now) (map pair_of c.as_slice-2.result.now) c.in_ok-regions.regions c.count.ensures
    (ap regions_of c.as_slice.ensures.value) (ap (map pair_of) c.as_slice-2.ensures.value) c.in_ok-regions.ensures))
