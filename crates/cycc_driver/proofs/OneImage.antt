-- A text has one image for its pages.
use Rattle.std.proofs.Common.{◌≡◌, ◌∙◌, ℕ, List, sym, ap, subst, arith}
use Rattle.cyc_tree.specs.Tree.{Program}
use Rattle.cyc_image.specs.Format.{Contents, First, IsImage, Second, laid_out, second_block_limit, u32_bytes}
use Rattle.rv32_layout.specs.Placed.{ArePlaced}
use Rattle.rv32_layout.proofs.Alone.{code_alone}
use Rattle.cycc_driver.proofs.Exactness.{same_program}
use Rattle.cycc_driver.specs.Outcome.{IsTextImage, data_of, placed_lines}

-- images with large blocks are of version 2
second : (bytes : List ℕ) (parts : Contents) → IsImage bytes parts → parts.block_limit ≡ second_block_limit
    → bytes ≡ laid_out 2 (u32_bytes parts.stack_pages) parts
second bytes parts (First laid stack limit fits) blocks = absurd (omega (arith, limit, blocks))
second bytes parts (Second laid limit fits) blocks = laid

pub one_image : (text : List ℕ) (pages stack_pages : ℕ) (bytes others : List ℕ) → IsTextImage text pages stack_pages bytes
    → IsTextImage text pages stack_pages others → bytes ≡ others
one_image text pages stack_pages bytes others is its =
    second bytes is.parts is.image is.blocks ∙ ap (λ (c : Contents). laid_out 2 (u32_bytes c.stack_pages) c) same
    ∙ sym (second others its.parts its.image its.blocks)
  where
    program : is.program ≡ its.program
    program = same_program text is.program its.program is.accepted.spelled its.accepted.spelled

    code : is.parts.code ≡ its.parts.code
    code = code_alone (placed_lines its.program) is.parts.code its.parts.code
        (subst (λ (p : Program). ArePlaced (placed_lines p) is.parts.code) program is.code) its.code

    statics : is.parts.statics ≡ its.parts.statics
    statics = is.statics ∙ ap data_of program ∙ sym its.statics

    same : is.parts ≡ its.parts
    same = λ i. record {
      entry = (is.from_first ∙ sym its.from_first) i;
      code = code i;
      statics = statics i;
      pages = (is.as_asked ∙ sym its.as_asked) i;
      stack_pages = (is.stack_as_asked ∙ sym its.stack_as_asked) i;
      block_limit = (is.blocks ∙ sym its.blocks) i;
    }
