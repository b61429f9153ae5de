use Rattle.std.proofs.Common.{◌≡◌, ◌+◌, ℕ, arith, subst, true}
use Rattle.cyc_types.specs.Regions.{region_of}
use Rattle.source_typing.specs.Regions.{Region, reaches}
use Rattle.check_regions.proofs.Leading.{joined}
use Rattle.check_regions.proofs.ways.way_behind.Goals as goal

pub returns-then-next-lt-LONGEST : goal.returns-then-next-lt-LONGEST
returns-then-next-lt-LONGEST c = λ bs r h e.
    let m : ℕ = c.way_of-next.result.length in
    let n : ℕ = c.way_of-beyond.result.length in
    let by : Region = region_of c.way_of-next.result.far in
    let end : Region = region_of c.way_of-beyond.result.far in
    let both : reaches (m + n) bs (region_of c.args.other) end ≡ true =
    joined bs m n (region_of c.args.other) by end (c.way_of-next.ensures bs h).far (c.way_of-beyond.ensures bs h).far in
    record {
      next = e;
      far = subst (λ k. reaches k bs r end ≡ true) (omega arith) (joined bs 1 (m + n) r (region_of c.args.other) end e both);
    }
