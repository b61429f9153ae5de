use Rattle.std.proofs.Common.{◌≡◌, length}
use Rattle.region_runtime.specs.Steps.{seen}
use Rattle.region_runtime.proofs.Runs.{IsRunning}
use Rattle.region_runtime.proofs.book.Book.run.Given as goal

abbrev pub invariant-pages : goal.invariant-pages
invariant-pages l =
    record {
      running : IsRunning (seen l.fn.self) (seen l.self) l.fn.number l.fn.room l.left l.fn.self.touched l.self.touched;
      long : length l.self.raw.words ≡ length l.fn.self.raw.words;
      bytes : l.self.raw.bytes ≡ l.fn.self.raw.bytes;
    }

abbrev pub decreases-pages : goal.decreases-pages
decreases-pages l = l.left
