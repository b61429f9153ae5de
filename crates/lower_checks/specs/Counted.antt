-- View of code: the regions around a statement are counted, and so are those that a loop or a `switch` has of them.
use Rattle.std.specs.Prelude.{◌≤◌}
use Rattle.lower_checks.specs.declared.leaving.RegionsAround.{RegionsAround}

-- the regions that a `break` or a `continue` leaves are among all of them
pub record IsCounted (regions : RegionsAround) : Type 0 where
  pub broken : regions.broken ≤ regions.all
  pub continued : regions.continued ≤ regions.all
