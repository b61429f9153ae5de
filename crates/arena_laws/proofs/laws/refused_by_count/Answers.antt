use Rattle.arena_laws.proofs.Counting.{refused_by_count}
use Rattle.arena_laws.proofs.laws.refused_by_count.Goals as goal

pub returns : goal.returns
returns c = refused_by_count
