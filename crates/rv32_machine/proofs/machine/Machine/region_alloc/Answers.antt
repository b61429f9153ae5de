use Rattle.std.proofs.Common.{◌≡◌, ℕ, true, subst, ◌∙◌, ap}
use Rattle.arena_laws.specs.Asked.{RegionAlloc, is_short}
use Rattle.arena_laws.specs.Blocks.{law_of}
use Rattle.arena_laws.specs.Laws.{Does, is_refused_full}
use Rattle.rv32_machine.proofs.Asking.{concluded}
use Rattle.rv32_machine.proofs.Served.{served}
use Rattle.rv32_machine.proofs.machine.Machine.region_alloc.Goals as goal

pub returns-clause-step : goal.returns-clause-step
returns-clause-step g c =
    let held = g.S.BlockStore.holdings c.self.inside.store in
    let made = c.region_alloc-made.result in
    let P : ℕ → Type 0 = λ bytes. Does made (g.S.BlockStore.holdings c.region_alloc-made.new.self) (law_of (RegionAlloc c.args.handle bytes) made held) in
    rw (← c.self.view_is)
    (concluded (RegionAlloc c.args.handle c.args.bytes) _ _ _ _ _ _
    (subst P (rw (← c.self.view_is) at c.handed-handed.ensures) c.region_alloc-made.ensures.does) c.region_alloc-made.ensures.bytes c.numbered.ensures)

pub returns-clause-served : goal.returns-clause-served
returns-clause-served g c =
    let held = g.S.BlockStore.holdings c.self.inside.store in
    let P : ℕ → Type 0 = λ bytes. is_refused_full c.region_alloc-made.result ≡ is_short (RegionAlloc c.args.handle bytes) held in
    rw (← c.self.view_is)
    (served true _ _ _ _ _ _ c.numbered.ensures (subst P (rw (← c.self.view_is) at c.handed-handed.ensures) c.region_alloc-made.ensures.full)
    c.region_alloc-made.ensures.memory)
