use Rattle.cyc_types.specs.Regions.{region_of}
use Rattle.check_regions.proofs.Leading.{itself_leads}
use Rattle.check_regions.proofs.ways.ended.Goals as goal

pub returns : goal.returns
returns c = λ bs. record {
  next = itself_leads bs 1 (region_of c.args.region);
  far = itself_leads bs 0 (region_of c.args.region);
}
