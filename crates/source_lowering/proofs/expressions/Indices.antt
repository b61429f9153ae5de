-- The indices among suffixes, each of which is evaluated.
use Rattle.std.proofs.Common.{ℕ, ◌+◌, List, length}
use Rattle.cyc_tree.specs.Tree.{Suffixes, NoSuffixes, Index, Dot, Arrow}
use Rattle.source_meaning.specs.Shapes.{Shape, pointee}
use Rattle.source_meaning.specs.Steps.{World, Scope}
use Rattle.source_meaning.specs.Expressions.{sense}
use Rattle.source_lowering.specs.Lowered.{Named, static_shape, member_shape, suffix_values, expression_code}
use Rattle.source_lowering.specs.Lowerable.{TakesMembers, TakesSuffixes, TakesIndices}
use Rattle.source_lowering.specs.Simulation.{Point}
use Rattle.source_lowering.proofs.expressions.Variables.{Agrees}

further_taken : (w : World) (names : List Named) (suffixes : Suffixes) (s : Shape) → TakesMembers w names suffixes s → TakesIndices w names suffixes
further_taken w names NoSuffixes s h = tt
further_taken w names (Index index others) s h = (h.1.0, further_taken w names others (pointee s) h.1.1.1)
further_taken w names (Dot f others) s h = further_taken w names others (member_shape w s f.text) h.1
further_taken w names (Arrow f others) s h = further_taken w names others (member_shape w (pointee s) f.text) h.1.1

pub indices_taken : (w : World) (names : List Named) (suffixes : Suffixes) (s : Shape) (value place : Type 0)
    → TakesSuffixes w names suffixes s value place → TakesIndices w names suffixes
indices_taken w names NoSuffixes s value place h = absurd h
indices_taken w names (Index index others) s value place h = (h.1.0, further_taken w names others (pointee s) h.1.1.1)
indices_taken w names (Dot f others) s value place h = further_taken w names others (member_shape w s f.text) h.1.1
indices_taken w names (Arrow f others) s value place h = further_taken w names others (member_shape w (pointee s) f.text) h.1.1

-- all of them agree, wherever they come: the last one is evaluated first
abbrev pub IndicesAs : Point → ℕ → Scope → List Named → Suffixes → (own : ℕ) → Type 0
IndicesAs p n scope names NoSuffixes own = Unit {0}
IndicesAs p n scope names (Index index others) own =
    ((d : ℕ) → Agrees p n d (sense index scope) (static_shape p.world names index)
    (expression_code p.world names index d (own + length (suffix_values p.world names others)))) × IndicesAs p n scope names others own
IndicesAs p n scope names (Dot f others) own = IndicesAs p n scope names others own
IndicesAs p n scope names (Arrow f others) own = IndicesAs p n scope names others own
