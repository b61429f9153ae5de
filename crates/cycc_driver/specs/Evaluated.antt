-- Believed: what the evaluation of a text is.
use Rattle.std.specs.Prelude.{ℕ, List, Option}
use Rattle.cyc_tree.specs.Tree.{Program}
use Rattle.core_eval.specs.declared.ending.EvalEnding.{EvalEnding}
use Rattle.cyc_meaning.specs.Evaluated.{IsEvaluated}
use Rattle.cycc_driver.specs.Texts.{IsAcceptedAs}

-- The run of an accepted text's program with `fuel` units, on the bytes that the reader gave.
pub record IsTextEvaluated (text : List ℕ) (fuel : ℕ) (why : EvalEnding) (reader_old reader_new writer_old writer_new : Option (List ℕ)) : Type 0 where
  pub program : Program
  pub accepted : IsAcceptedAs text program
  pub evaluated : IsEvaluated why program fuel reader_old reader_new writer_old writer_new
