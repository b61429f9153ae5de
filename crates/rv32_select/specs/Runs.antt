-- View of code: flags of temporaries as runs of those that are alike.
use Rattle.std.specs.Prelude.{ℕ, Bool, List, [], ◌∷◌, ◌++◌, Option, Some, None, replicate}
use Rattle.core_lines.specs.Saved.{flagged}
use Rattle.rv32_select.specs.declared.runs.Run.{Run}

abbrev pub run_flags : Run → List Bool
run_flags r = replicate r.count r.value

abbrev pub flags_in : List Run → List Bool
flags_in [] = []
flags_in (r ∷ rs) = run_flags r ++ flags_in rs

-- with the flag of a number set, if one still is to be
abbrev pub set_at : Bool → Option ℕ → List Bool → List Bool
set_at value None bs = bs
set_at value (Some t) bs = flagged value t bs
