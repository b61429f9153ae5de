use Rattle.std.proofs.Common.{◌<◌, ◌≤◌, ◌/◌, ◌%◌, length, refl, rules, MutBor}
use Rattle.core_eval.specs.declared.region.Region.{Region}
use Rattle.core_eval.proofs.Lists.{get_within, get_past}
use Rattle.core_eval.proofs.RegionsListed.{item_lent, lent_item, kept_listed, region_there, region_unborn, region_nowhere}
use Rattle.core_eval.proofs.regions.Regions.region_mut.Goals as goal

pub returns-then-number-self : goal.returns-then-number-self
returns-then-number-self c =
    let s = c.args.self.now in
    ((refl, (λ w. tt), refl), record { lends = tt; held = region_unborn s.chunks.items s.born c.args.number c.if-number-self.true })

pub returns-in-Some : goal.returns-in-Some
returns-in-Some c =
    let s = c.args.self.now in
    let n = c.args.number in
    let chunk = c.in-Some.chunk.now in
    let within : n / 64 < length s.chunks.items = search rules in
    let there = get_within s.chunks.items (n / 64) chunk within c.in-Some.ensures.value in
    let lent = c.get_mut-in-Some.result in
    let item = item_lent (λ (region : MutBor Region). region.now) chunk.items (n % 64) lent c.get_mut-in-Some.ensures.item in (
      (refl, lent_item s.chunks.items n chunk there s.born lent item, kept_listed s.chunks.items (n / 64) chunk chunk s.born there (λ k. refl)),
      record { lends = tt; held = region_there s.chunks.items s.born n c.if-number-self.false chunk there _ item },
    )

pub returns-in-None : goal.returns-in-None
returns-in-None c =
    let s = c.args.self.now in
    let n = c.args.number in
    let past : length s.chunks.items ≤ n / 64 = search rules in
    ((refl, (λ w. tt), refl), record { lends = tt; held = region_nowhere s.chunks.items s.born n (get_past s.chunks.items (n / 64) past) })
