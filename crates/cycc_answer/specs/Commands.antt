-- Believed: what a command is answered.
use Rattle.std.specs.Prelude.{◌≡◌, ℕ, ◌+◌, List, Option, None}
use Rattle.cyc_lexer.specs.Lexing.{text_limit}
use Rattle.cyc_image.specs.Format.{header_length, code_limit, data_limit}
use Rattle.command_line.specs.declared.command.Command.{Command}
use Rattle.command_line.specs.declared.command.Command.TheVariants as command
use Rattle.cycc_answer.specs.Answers.{IsChecked, IsCompiled, IsRun, IsEvalWithin, IsStack, IsExec, IsDumped, IsExplained}

-- the length of the longest text, and of the longest image; where no file is read, none counts as an empty one
abbrev pub longest : Command → ℕ
longest (command.Check input shows_why shows_all) = text_limit
longest (command.Compile input output map pages stack_pages shows_why) = text_limit
longest (command.Run input pages stack_pages steps shows_ending shows_why shows_where shows_values shows_stats shows_counts) = text_limit
longest (command.Eval input fuel depth memory shows_ending shows_why shows_where) = text_limit
longest (command.Stack input shows_why shows_all) = text_limit
longest (command.Exec input steps shows_ending shows_where shows_stats shows_counts) = header_length + code_limit + data_limit
longest (command.Dump input) = header_length + code_limit + data_limit
longest (command.Explain text) = 0

-- The answer to a command on a file, with what a reader held and a writer has before it and after. Only `compile` answers with an image.
abbrev pub IsAnswered : Command
    → (file : List ℕ) (reader_old reader_new writer_old writer_new : Option (List ℕ)) (bytes : Option (List ℕ)) (status : ℕ) → Type 0
IsAnswered (command.Check input shows_why shows_all) file reader_old reader_new writer_old writer_new bytes status =
    (bytes ≡ None) × IsChecked file writer_old writer_new status
IsAnswered (command.Compile input output map pages stack_pages shows_why) file reader_old reader_new writer_old writer_new bytes status =
    IsCompiled file pages stack_pages bytes status
IsAnswered (command.Run input pages stack_pages steps shows_ending shows_why shows_where shows_values shows_stats shows_counts) file reader_old reader_new
    writer_old writer_new bytes status =
    (bytes ≡ None) × IsRun file pages stack_pages steps reader_old reader_new writer_old writer_new status
IsAnswered (command.Eval input fuel depth memory shows_ending shows_why shows_where) file reader_old reader_new writer_old writer_new bytes status =
    (bytes ≡ None) × IsEvalWithin depth memory file fuel reader_old reader_new writer_old writer_new status
IsAnswered (command.Stack input shows_why shows_all) file reader_old reader_new writer_old writer_new bytes status =
    (bytes ≡ None) × IsStack file status
IsAnswered (command.Exec input steps shows_ending shows_where shows_stats shows_counts) file reader_old reader_new writer_old writer_new bytes status =
    (bytes ≡ None) × IsExec file steps reader_old reader_new writer_old writer_new status
IsAnswered (command.Dump input) file reader_old reader_new writer_old writer_new bytes status = (bytes ≡ None) × IsDumped file status
IsAnswered (command.Explain text) file reader_old reader_new writer_old writer_new bytes status =
    (bytes ≡ None) × IsExplained text.now writer_old writer_new status
