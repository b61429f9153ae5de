use Rattle.std.proofs.Common.{◌≡◌, ◌/◌, ◌%◌, Some, ap, ◌∙◌, sym, Bor}
use Rattle.std.specs.Prelude.{option_map, slice_get}
use Rattle.core_eval.specs.declared.region.Region.{Region}
use Rattle.core_eval.proofs.RegionsListed.{Chunk, item_lent, region_there, region_unborn, region_nowhere}
use Rattle.core_eval.proofs.regions.Regions.region.Goals as goal

pub returns-then-number-self : goal.returns-then-number-self
returns-then-number-self c = region_unborn c.args.self.now.chunks.items c.args.self.now.born c.args.number c.if-number-self.true

pub returns-in-Some : goal.returns-in-Some
returns-in-Some c =
    let s = c.args.self.now in
    let n = c.args.number in
    let chunk = c.in-Some.chunk.now in
    let there : slice_get s.chunks.items (n / 64) ≡ Some chunk =
    ap (λ cs. slice_get cs (n / 64)) (sym c.deref.ensures.value)
    ∙ item_lent (λ (chunk : Bor Chunk). chunk.now) c.deref.result.now (n / 64) c.get.result c.get.ensures.lookup
    ∙ ap (option_map (λ (chunk : Bor Chunk). chunk.now)) c.in-Some.is in
    region_there s.chunks.items s.born n c.if-number-self.false chunk there _
    (ap (λ rs. slice_get rs (n % 64)) (sym c.deref-in-Some.ensures.value)
    ∙ item_lent (λ (region : Bor Region). region.now) c.deref-in-Some.result.now (n % 64) c.get-in-Some.result c.get-in-Some.ensures.lookup)

pub returns-in-None : goal.returns-in-None
returns-in-None c =
    let s = c.args.self.now in
    let n = c.args.number in
    region_nowhere s.chunks.items s.born n
    (ap (λ cs. slice_get cs (n / 64)) (sym c.deref.ensures.value)
    ∙ item_lent (λ (chunk : Bor Chunk). chunk.now) c.deref.result.now (n / 64) c.get.result c.get.ensures.lookup
    ∙ ap (option_map (λ (chunk : Bor Chunk). chunk.now)) c.in-None.is)
