-- What ends with an activation that has returned: its frame is popped, and its temporary objects end.
use Rattle.std.proofs.Common.{
  ◌≡◌,
  ◌+◌,
  List,
  [],
  refl,
  subst,
  arith,
}
use Rattle.core_meaning.specs.Memory.{Own, Content, Memory, Dead, with_standing}
use Rattle.core_lines.specs.Machines.{Machine}
use Rattle.core_lines.specs.Lies.{Stacked, Fits}
use Rattle.core_lines.proofs.memory.Relations.{
  World,
  IsInOrder,
  Waiting,
  BlocksLie,
  Returning,
  Back,
  no_zones,
}
use Rattle.core_lines.proofs.homes.Homes.{homes_on, homes_spared, spares_standing}
use Rattle.core_lines.proofs.memory.Fitting.{slot_ground}
use Rattle.core_lines.proofs.frames.Frames.{pop_fits}
use Rattle.core_lines.proofs.memory.Knowing.{known_death}

module _ (w : World) (order : IsInOrder w) (x : Waiting) (outer : List Waiting) (mem : Memory) where
  -- an activation that is in no block any more is gone
  pub is_back : x.nest ≡ [] → x.config.blocks ≡ [] → (values : List Content) (s : Machine) → Returning w x outer mem values s
      → Back w outer (with_standing mem (Own x.config.own) Dead) values s
  is_back none none_open values s r =
      let lie : BlocksLie r.maps r.frame.at [] [] r.frame.zones =
      subst (λ ks. BlocksLie r.maps r.frame.at [] ks r.frame.zones) none_open
      (subst (λ ps. BlocksLie r.maps r.frame.at ps x.config.blocks r.frame.zones) none r.shows.blocks) in
      let own = r.shows.own in
      let at = r.stands.stacked.0.there in
      let bytes = r.shows.bytes in
      let above = r.above in
      let there : r.frame.at + r.frame.bytes ≡ r.pointer = omega (arith, at, bytes, above) in
      let stacked : Stacked w.areas r.pointer r.others = subst (λ q. Stacked w.areas q r.others) there r.stands.stacked.1 in
      let slots = slot_ground w.areas order.statics_within order.pages_within order.stack_within order.code_within w.code s.store r.pointer r.others stacked in
      record {
        maps = r.maps;
        frames = r.others;
        sp = r.pointer;
        stands = record {
          runs = r.stands.runs;
          there = r.stands.there;
          aligned = r.stands.aligned;
          pointer = r.stands.pointer;
          stack_start = r.stands.stack_start;
          small = r.stands.small;
          kept = r.stands.kept;
          stacked = stacked;
          fits = subst (λ k. Fits w.areas r.maps r.others (with_standing mem (Own k) Dead) s.bytes s.store) own
              (pop_fits w.areas r.maps r.frame r.others mem s.bytes s.store r.sp r.stands.fits r.stands.stacked (no_zones r.maps r.frame.at r.frame.zones lie)
              slots);
          homes = homes_spared r.maps mem r.maps (with_standing mem (Own x.config.own) Dead) r.others s.registers
              (spares_standing r.maps mem (with_standing mem (Own x.config.own) Dead) refl refl)
              (homes_on r.maps mem r.others s.registers r.frame.callers (λ q is. r.stands.homes.0.others q is (r.shows.changed q)) r.stands.homes.2);
          known = known_death r.maps mem s.store (Own x.config.own) tt r.stands.known;
          holds_blocks = r.stands.holds_blocks;
          data_based = r.stands.data_based;
        };
        stack = r.stack;
        results = r.results;
      }
