use Rattle.std.proofs.Common.{◌≡◌, ◌∙◌, ap, arith, length, map, refl}
use Rattle.std.proofs.lemmas.List.{length-map}
use Rattle.cyc_tree.specs.View.{program_tree}
use Rattle.core_lines.specs.LocalPlaces.{frame_bytes}
use Rattle.source_meaning.specs.Programs.{functions_of, world_of}
use Rattle.source_lowering.specs.Programs.{function_code}
use Rattle.stack_needs.specs.Numbers.{need_at}
use Rattle.stack_needs.proofs.Sizes.{sized_need, sized_needs}
use Rattle.stack_needs.proofs.need.stack_needs.Goals as goal

-- there is a frame for each function
pub needs_by-requires : goal.needs_by-requires
needs_by-requires c =
    let p = program_tree c.args.items.now in
    let codes = map (function_code (world_of p)) (functions_of p) in
    let one = length-map codes frame_bytes in
    let two = length-map (functions_of p) (function_code (world_of p)) in
    let all : length c.args.frames.now ≡ length (map frame_bytes codes) = ap (λ fs. length fs) c.requires in
    omega arith

pub returns : goal.returns
returns c =
    let p = program_tree c.args.items.now in
    let its = c.in_ok-needs.ensures in
    record {
      main = its.main;
      calls = its.calls;
      each = sized_needs p c.args.frames.now c.requires c.in_ok-needs.needs.each.items its.each;
      stack = sized_need p c.args.frames.now c.requires (need_at c.in_ok-needs.needs.main c.in_ok-needs.needs.each.items) its.stack;
    }
