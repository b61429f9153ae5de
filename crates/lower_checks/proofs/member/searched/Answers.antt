use Rattle.source_meaning.specs.Programs.{world_of}
use Rattle.lower_checks.proofs.Within.{members_within}
use Rattle.lower_checks.proofs.member.searched.Goals as goal

-- a struct's members end within 4,096 bytes and cells
pub among-requires : goal.among-requires
among-requires c = record {
  within = members_within (world_of c.args.program.now) c.args.tag.now c.in-Some.known.now c.struct_of.ensures.small c.in-Some.ensures.found;
}
