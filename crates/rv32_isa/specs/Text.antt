-- View of code: the assembler's text of the instructions, with numbers decimal and no pseudoinstructions.
use Rattle.std.specs.Prelude.{ℕ, ℤ, ◌%◌, List, ◌++◌, codes, nat_eq, if◌then◌else◌}
use Rattle.std.specs.Fmt.{decimal, signed_decimal}
use Rattle.rv32_isa.specs.declared.instruction.Instr.{Instr}
use Rattle.rv32_isa.specs.declared.instruction.Instr.TheVariants.{Lui, Auipc, Jal, Jalr, Beq, Bne, Blt, Bge, Bltu, Bgeu, Lb, Lh, Lw, Lbu, Lhu, Sb, Sh, Sw, Addi}
use Rattle.rv32_isa.specs.declared.instruction.Instr.TheVariants.{Slti, Sltiu, Xori, Ori, Andi, Slli, Srli, Srai, Add, Sub, Sll, Slt, Sltu, Xor, Srl, Sra, Or}
use Rattle.rv32_isa.specs.declared.instruction.Instr.TheVariants.{And, Fence, Ecall, Ebreak, Mul, Mulh, Mulhsu, Mulhu, Div, Divu, Rem, Remu}
use Rattle.rv32_isa.specs.Words.{Layout, RType, IType, SType, BType, UType, JType, FenceType, Alone}
use Rattle.rv32_isa.specs.declared.text.Operands.{Operands}
use Rattle.rv32_isa.specs.declared.text.Operands.TheVariants.{Upper, Jump, Address, Branch, Immediate, Shift, Bits, Registers, Nothing}

-- a register by its number, as x0
abbrev pub register_text : ℕ → List ℕ
register_text n = codes "x" ++ decimal n

-- three registers, as in add x1, x2, x3
abbrev pub registers_text : List ℕ → ℕ → ℕ → ℕ → List ℕ
registers_text name a b c = name ++ codes " " ++ register_text a ++ codes ", " ++ register_text b ++ codes ", " ++ register_text c

-- two registers and a number without a sign, as in slli x1, x2, 3
abbrev pub number_text : List ℕ → ℕ → ℕ → ℕ → List ℕ
number_text name a b n = name ++ codes " " ++ register_text a ++ codes ", " ++ register_text b ++ codes ", " ++ decimal n

-- two registers and a signed number, as in addi x1, x2, -5
abbrev pub signed_text : List ℕ → ℕ → ℕ → ℤ → List ℕ
signed_text name a b z = name ++ codes " " ++ register_text a ++ codes ", " ++ register_text b ++ codes ", " ++ signed_decimal z

-- a register and an address, as in lw x1, 8(x2)
abbrev pub memory_text : List ℕ → ℕ → ℤ → ℕ → List ℕ
memory_text name a z b = name ++ codes " " ++ register_text a ++ codes ", " ++ signed_decimal z ++ codes "(" ++ register_text b ++ codes ")"

-- a register and the upper 20 bits, as in lui x1, 74565
abbrev pub upper_text : List ℕ → ℕ → ℕ → List ℕ
upper_text name a n = name ++ codes " " ++ register_text a ++ codes ", " ++ decimal n

-- a register and a distance, as in jal x1, 16
abbrev pub jump_text : List ℕ → ℕ → ℤ → List ℕ
jump_text name a z = name ++ codes " " ++ register_text a ++ codes ", " ++ signed_decimal z

-- a name, and what stands behind it
abbrev pub parts_text : List ℕ → Operands → List ℕ
parts_text name (Upper rd n) = upper_text name rd n
parts_text name (Jump rd z) = jump_text name rd z
parts_text name (Address rd z base) = memory_text name rd z base
parts_text name (Branch rs1 rs2 z) = signed_text name rs1 rs2 z
parts_text name (Immediate rd rs1 z) = signed_text name rd rs1 z
parts_text name (Shift rd rs1 n) = number_text name rd rs1 n
parts_text name (Bits rd rs1 n) = number_text name rd rs1 n
parts_text name (Registers rd rs1 rs2) = registers_text name rd rs1 rs2
parts_text name Nothing = name

-- what stands behind the name, by the layout of the word: a computation with a constant shows it, and a load an address
abbrev pub operands_in : Layout → Operands
operands_in (RType value rd rs1 rs2) = (if nat_eq (value % 128) 0x13 then Shift rd rs1 rs2 else Registers rd rs1 rs2)
operands_in (IType value rd rs1 imm) = (if nat_eq (value % 128) 0x13 then Immediate rd rs1 imm else Address rd imm rs1)
operands_in (SType value rs1 rs2 imm) = Address rs2 imm rs1
operands_in (BType value rs1 rs2 offset) = Branch rs1 rs2 offset
operands_in (UType value rd imm) = Upper rd imm
operands_in (JType value rd offset) = Jump rd offset
operands_in (FenceType value rd rs1 upper) = Bits rd rs1 upper
operands_in (Alone value) = Nothing

-- the text of an instruction, in the table's order; a store's data register stands before its base
abbrev pub instr_text : Instr → List ℕ
instr_text (Lui rd n) = upper_text (codes "lui") rd n
instr_text (Auipc rd n) = upper_text (codes "auipc") rd n
instr_text (Jal rd z) = jump_text (codes "jal") rd z
instr_text (Jalr rd rs1 z) = memory_text (codes "jalr") rd z rs1
instr_text (Beq rs1 rs2 z) = signed_text (codes "beq") rs1 rs2 z
instr_text (Bne rs1 rs2 z) = signed_text (codes "bne") rs1 rs2 z
instr_text (Blt rs1 rs2 z) = signed_text (codes "blt") rs1 rs2 z
instr_text (Bge rs1 rs2 z) = signed_text (codes "bge") rs1 rs2 z
instr_text (Bltu rs1 rs2 z) = signed_text (codes "bltu") rs1 rs2 z
instr_text (Bgeu rs1 rs2 z) = signed_text (codes "bgeu") rs1 rs2 z
instr_text (Lb rd rs1 z) = memory_text (codes "lb") rd z rs1
instr_text (Lh rd rs1 z) = memory_text (codes "lh") rd z rs1
instr_text (Lw rd rs1 z) = memory_text (codes "lw") rd z rs1
instr_text (Lbu rd rs1 z) = memory_text (codes "lbu") rd z rs1
instr_text (Lhu rd rs1 z) = memory_text (codes "lhu") rd z rs1
instr_text (Sb rs1 rs2 z) = memory_text (codes "sb") rs2 z rs1
instr_text (Sh rs1 rs2 z) = memory_text (codes "sh") rs2 z rs1
instr_text (Sw rs1 rs2 z) = memory_text (codes "sw") rs2 z rs1
instr_text (Addi rd rs1 z) = signed_text (codes "addi") rd rs1 z
instr_text (Slti rd rs1 z) = signed_text (codes "slti") rd rs1 z
instr_text (Sltiu rd rs1 z) = signed_text (codes "sltiu") rd rs1 z
instr_text (Xori rd rs1 z) = signed_text (codes "xori") rd rs1 z
instr_text (Ori rd rs1 z) = signed_text (codes "ori") rd rs1 z
instr_text (Andi rd rs1 z) = signed_text (codes "andi") rd rs1 z
instr_text (Slli rd rs1 n) = number_text (codes "slli") rd rs1 n
instr_text (Srli rd rs1 n) = number_text (codes "srli") rd rs1 n
instr_text (Srai rd rs1 n) = number_text (codes "srai") rd rs1 n
instr_text (Add rd rs1 rs2) = registers_text (codes "add") rd rs1 rs2
instr_text (Sub rd rs1 rs2) = registers_text (codes "sub") rd rs1 rs2
instr_text (Sll rd rs1 rs2) = registers_text (codes "sll") rd rs1 rs2
instr_text (Slt rd rs1 rs2) = registers_text (codes "slt") rd rs1 rs2
instr_text (Sltu rd rs1 rs2) = registers_text (codes "sltu") rd rs1 rs2
instr_text (Xor rd rs1 rs2) = registers_text (codes "xor") rd rs1 rs2
instr_text (Srl rd rs1 rs2) = registers_text (codes "srl") rd rs1 rs2
instr_text (Sra rd rs1 rs2) = registers_text (codes "sra") rd rs1 rs2
instr_text (Or rd rs1 rs2) = registers_text (codes "or") rd rs1 rs2
instr_text (And rd rs1 rs2) = registers_text (codes "and") rd rs1 rs2
instr_text (Fence rd rs1 n) = number_text (codes "fence") rd rs1 n
instr_text Ecall = codes "ecall"
instr_text Ebreak = codes "ebreak"
instr_text (Mul rd rs1 rs2) = registers_text (codes "mul") rd rs1 rs2
instr_text (Mulh rd rs1 rs2) = registers_text (codes "mulh") rd rs1 rs2
instr_text (Mulhsu rd rs1 rs2) = registers_text (codes "mulhsu") rd rs1 rs2
instr_text (Mulhu rd rs1 rs2) = registers_text (codes "mulhu") rd rs1 rs2
instr_text (Div rd rs1 rs2) = registers_text (codes "div") rd rs1 rs2
instr_text (Divu rd rs1 rs2) = registers_text (codes "divu") rd rs1 rs2
instr_text (Rem rd rs1 rs2) = registers_text (codes "rem") rd rs1 rs2
instr_text (Remu rd rs1 rs2) = registers_text (codes "remu") rd rs1 rs2
