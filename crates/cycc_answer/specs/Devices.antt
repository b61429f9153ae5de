-- Believed: what an exit status says of the calls of the two devices.
use Rattle.std.specs.Prelude.{◌≡◌, ◌≢◌, ◌⊎◌, ℕ, Bool, true, false}
use Rattle.cyc_words.specs.Devices.{one_more}
use Rattle.command_line.specs.declared.command.Command.{Command}
use Rattle.command_line.specs.declared.command.Command.TheVariants as command

-- a command that runs a program or an image, and so reads and writes what that does
abbrev pub runs : Command → Bool
runs (command.Check input shows_why shows_all) = false
runs (command.Compile input output map pages stack_pages shows_why) = false
runs (command.Run input pages stack_pages steps shows_ending shows_why shows_where shows_values shows_stats shows_counts) = true
runs (command.Eval input fuel depth memory shows_ending shows_why shows_where) = true
runs (command.Stack input shows_why shows_all) = false
runs (command.Exec input steps shows_ending shows_where shows_stats shows_counts) = true
runs (command.Dump input) = false
runs (command.Explain text) = false

-- How many calls of a reader and of a writer have failed, before and after: where the status is 6 just one call of one of them did, and at every other
-- status none.
pub record AreCounted (status reader_old reader_new writer_old writer_new : ℕ) : Type 0 where
  pub failed : status ≡ 6
      → ((reader_new ≡ one_more reader_old) × (writer_new ≡ writer_old)) ⊎ ((reader_new ≡ reader_old) × (writer_new ≡ one_more writer_old))
  pub none : status ≢ 6 → (reader_new ≡ reader_old) × (writer_new ≡ writer_old)
