-- Believed: the loops that copy and clear whole objects: each goes over an object's units, which are words where all parts of its layout are words, and else
-- bytes.
use Rattle.std.specs.Prelude.{pos, negsuc, ◌&&◌, Bool, true, false, List, [], ◌∷◌, nat_eq}
use Rattle.rv32_isa.specs.declared.instruction.Instr.TheVariants as instr
use Rattle.core_meaning.specs.Memory.{PartShape, Layout}
use Rattle.core_lines.specs.declared.line.Line.{Line}
use Rattle.core_lines.specs.declared.line.Line.TheVariants.{Plain}

-- whether all parts of a cell, of some cells, and of a layout are words
abbrev pub are_word_parts : List PartShape → Bool
are_word_parts [] = true
are_word_parts (s ∷ ss) = nat_eq s.width 4 && are_word_parts ss

abbrev pub are_word_cells : List (List PartShape) → Bool
are_word_cells [] = true
are_word_cells (c ∷ cs) = are_word_parts c && are_word_cells cs

abbrev pub are_words : Layout → Bool
are_words l = are_word_cells l.cells

-- from x6 on by way of x28 to x5 on, one unit after the other, until x5 is x7
abbrev pub copy_loop : Bool → List Line
copy_loop true =
    Plain (instr.Lw 28 6 (pos 0)) ∷ Plain (instr.Sw 5 28 (pos 0)) ∷ Plain (instr.Addi 5 5 (pos 4)) ∷ Plain (instr.Addi 6 6 (pos 4)) ∷
    Plain (instr.Bne 5 7 (negsuc 15)) ∷ []
copy_loop false =
    Plain (instr.Lbu 28 6 (pos 0)) ∷ Plain (instr.Sb 5 28 (pos 0)) ∷ Plain (instr.Addi 5 5 (pos 1)) ∷ Plain (instr.Addi 6 6 (pos 1)) ∷
    Plain (instr.Bne 5 7 (negsuc 15)) ∷ []

-- 0 to x5 on
abbrev pub clear_loop : Bool → List Line
clear_loop true = Plain (instr.Sw 5 0 (pos 0)) ∷ Plain (instr.Addi 5 5 (pos 4)) ∷ Plain (instr.Bne 5 7 (negsuc 7)) ∷ []
clear_loop false = Plain (instr.Sb 5 0 (pos 0)) ∷ Plain (instr.Addi 5 5 (pos 1)) ∷ Plain (instr.Bne 5 7 (negsuc 7)) ∷ []
