-- Lines have one code.
use Rattle.std.proofs.Common.{◌≡◌, ◌∙◌, ℕ, List, [], ◌∷◌, ◌++◌, sym, ap}
use Rattle.cyc_image.specs.Format.{u32_bytes}
use Rattle.rv32_isa.specs.declared.instruction.Instr.{Instr}
use Rattle.rv32_isa.proofs.Back.{assembled_of_decoded}
use Rattle.core_lines.specs.declared.line.Line.{Line}
use Rattle.core_lines.specs.Relaxed.{place_of}
use Rattle.rv32_layout.specs.Placed.{ArePlaced, AreWords, IsWord, instructions_from}

-- an instruction has one word
word_alone : (instr : Instr) (some others : List ℕ) → IsWord instr some → IsWord instr others → some ≡ others
word_alone instr some others is its =
    is.spelled
    ∙ ap u32_bytes (sym (assembled_of_decoded is.word is.is_word instr is.decodes) ∙ assembled_of_decoded its.word its.is_word instr its.decodes)
    ∙ sym its.spelled

words_alone : (instrs : List Instr) (some others : List ℕ) → AreWords instrs some → AreWords instrs others → some ≡ others
words_alone [] some others is its = is ∙ sym its
words_alone (instr ∷ instrs) some others (front, rest, split, word, words) (front2, rest2, split2, word2, words2) =
    split ∙ ap (λ bytes. bytes ++ rest) (word_alone instr front front2 word word2)
    ∙ ap (λ bytes. front2 ++ bytes) (words_alone instrs rest rest2 words words2) ∙ sym split2

pub code_alone : (lines : List Line) (some others : List ℕ) → ArePlaced lines some → ArePlaced lines others → some ≡ others
code_alone lines = words_alone (instructions_from (place_of lines) 0 lines)
