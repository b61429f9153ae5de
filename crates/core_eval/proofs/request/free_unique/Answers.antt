use Rattle.std.specs.Prelude.{nat_eq}
use Rattle.std.proofs.Common.{◌≡◌, true, arith}
use Rattle.std.proofs.lemmas.Bool.Decides.{nat_tests}
use Rattle.core_meaning.specs.Core as core
use Rattle.core_eval.specs.Regions.{regions_of}
use Rattle.core_eval.specs.Standing.{known_of}
use Rattle.core_eval.proofs.RegionAnswers.{done_answer}
use Rattle.core_eval.proofs.UniqueMoves.{free_answer}
use Rattle.core_eval.proofs.request.free_unique.Goals as goal

pub returns-in-Pointer : goal.returns-in-Pointer
returns-in-Pointer c =
    let x = c.args.place.0 in
    let f = c.args.frame.now in
    let m = c.args.memory.now in
    let m' = c.free_single.new.self in
    let after = c.free_single.ensures in
    let zero_byte = c.if-place-eq0.true in
    let first : nat_eq c.in-Pointer.place.byte 0 ≡ true = grind (arith, nat_tests, zero_byte) in
    done_answer c.done.result f m m' (core.UniqueFree x) c.free_single.result c.done.ensures
    (record {
      blocks = after.blocks;
      entered = after.entered;
      owns = after.owns;
      called = after.called;
      globals = after.globals;
      long_blocks = after.long_blocks;
    })
    (λ ws. free_answer (known_of f m) ws x c.temp.result c.temp.ensures c.in-Pointer.place c.in-Pointer.is first c.free_single.result
    (regions_of m'.regions) after.regions after.kept)
