use Rattle.flow_effects.proofs.touches.+placed.Given as goal

abbrev pub decreases-placed : goal.decreases-placed
decreases-placed l = l.number
