use Rattle.std.proofs.Common.{refl}
use Rattle.cyc_image.specs.Format.{Contents, second_block_limit}
use Rattle.cycc_driver.proofs.Implementing.{text_image}
use Rattle.cycc_driver.proofs.Refusing.{codeless_image}
use Rattle.cycc_driver.proofs.compiling.compile.Goals as goal

pub returns-clause-implemented : goal.returns-clause-implemented
returns-clause-implemented c =
    let code = c.in-Ok-lay_out.placed.code.items in
    let statics = c.in-Ok-lay_out.placed.data.items in
    let parts : Contents = record {
      entry = 0;
      code = c.deref.result.now;
      statics = c.deref-2.result.now;
      pages = c.args.pages;
      stack_pages = c.args.stack_pages;
      block_limit = second_block_limit;
    } in
    text_image c.args.text.now c.in_ok-write.field-0.items code statics c.in-Ok.checked parts c.args.pages c.args.stack_pages c.in-Ok.ensures.accepted
    c.in_ok-write.ensures.image c.deref.ensures.value c.deref-2.ensures.value refl refl refl refl c.in-Ok-lay_out.ensures.lines
    c.in-Ok-lay_out.ensures.statics c.in-Ok-lay_out.ensures.implemented

pub returns-in-Err-lay_out-clause-refused : goal.returns-in-Err-lay_out-clause-refused
returns-in-Err-lay_out-clause-refused c = codeless_image c.in-Err-lay_out.fault c.args.text.now c.in-Ok.checked c.in-Ok.ensures.accepted
    c.in-Err-lay_out.ensures.refused
