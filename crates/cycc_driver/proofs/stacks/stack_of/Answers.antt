use Rattle.std.proofs.Common.{◌≡◌, map, sym, ap, subst, ◌∙◌}
use Rattle.cyc_tree.specs.Tree.{Program}
use Rattle.cyc_tree.specs.View.{program_tree}
use Rattle.core_lines.specs.LocalPlaces.{frame_bytes}
use Rattle.source_lowering.specs.Programs.{program_code}
use Rattle.cycc_driver.specs.declared.stacks.StackUse.{StackUse}
use Rattle.cycc_driver.specs.Stack.{IsStackOf}
use Rattle.cycc_driver.proofs.stacks.stack_of.Goals as goal

pub returns : goal.returns
returns c =
    let is : program_tree c.items-items.result.now ≡ c.args.checked.now = c.items-items.ensures.same ∙ c.program.ensures.same in
    let its = c.in_ok-needs.ensures in
    let s : StackUse = record {
      names = c.in_ok-names.names;
      frames = c.in_ok-frames.frames;
      needs = c.in_ok-needs.needs;
      recursion = c.in_ok-recursion.recursion;
      closes = c.in_ok-closes.closes;
    } in
    subst (λ (p : Program). IsStackOf p s) is
    (record {
      names = c.in_ok-names.ensures;
      frames = c.in_ok-frames.ensures ∙ ap (λ (p : Program). map frame_bytes (program_code p).functions) (sym is);
      main = its.main;
      calls = its.calls;
      each = its.each;
      need = its.stack;
      recursion = c.in_ok-recursion.ensures.found;
      none = c.in_ok-recursion.ensures.none;
    })
