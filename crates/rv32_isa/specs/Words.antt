-- Believed: the word of an instruction, put together from its operands: RISC-V Unprivileged ISA 20191213, chapter RV32I, sections Base Instruction Formats and
-- Immediate Encoding Variants. `encode` is proved against these definitions, and these against the table.
use Rattle.std.specs.Prelude.{◌≡◌, ℕ, ℤ, ◌+◌, ◌*◌, ◌/◌, ◌%◌, ◌^◌, ◌<◌}
use Rattle.rv32_isa.specs.Numbers.{signed, unsigned}
use Rattle.rv32_isa.specs.declared.instruction.Instr.{Instr}
use Rattle.rv32_isa.specs.declared.instruction.Instr.TheVariants.{Lui, Auipc, Jal, Jalr, Beq, Bne, Blt, Bge, Bltu, Bgeu, Lb, Lh, Lw, Lbu, Lhu, Sb, Sh, Sw, Addi}
use Rattle.rv32_isa.specs.declared.instruction.Instr.TheVariants.{Slti, Sltiu, Xori, Ori, Andi, Slli, Srli, Srai, Add, Sub, Sll, Slt, Sltu, Xor, Srl, Sra, Or}
use Rattle.rv32_isa.specs.declared.instruction.Instr.TheVariants.{And, Fence, Ecall, Ebreak, Mul, Mulh, Mulhsu, Mulhu, Div, Divu, Rem, Remu}

-- a word's format, with the bits that name the instruction, and its operands
pub data Layout : Type 0 where
  RType : (value rd rs1 rs2 : ℕ) → Layout
  IType : (value rd rs1 : ℕ) (imm : ℤ) → Layout
  SType : (value rs1 rs2 : ℕ) (imm : ℤ) → Layout
  BType : (value rs1 rs2 : ℕ) (offset : ℤ) → Layout
  UType : (value rd imm : ℕ) → Layout
  JType : (value rd : ℕ) (offset : ℤ) → Layout
  FenceType : (value rd rs1 upper : ℕ) → Layout
  Alone : (value : ℕ) → Layout

-- each operand in its bits of the word
abbrev pub assembled : Layout → ℕ
assembled (RType value rd rs1 rs2) = value + rd * 2 ^ 7 + rs1 * 2 ^ 15 + rs2 * 2 ^ 20
assembled (IType value rd rs1 imm) = value + rd * 2 ^ 7 + rs1 * 2 ^ 15 + unsigned 12 imm * 2 ^ 20
assembled (SType value rs1 rs2 imm) = value + unsigned 12 imm % 2 ^ 5 * 2 ^ 7 + rs1 * 2 ^ 15 + rs2 * 2 ^ 20 + unsigned 12 imm / 2 ^ 5 * 2 ^ 25
assembled (BType value rs1 rs2 offset) = value + unsigned 13 offset / 2 ^ 11 % 2 * 2 ^ 7 + unsigned 13 offset / 2 % 2 ^ 4 * 2 ^ 8 + rs1 * 2 ^ 15 + rs2 * 2 ^ 20
    + unsigned 13 offset / 2 ^ 5 % 2 ^ 6 * 2 ^ 25 + unsigned 13 offset / 2 ^ 12 * 2 ^ 31
assembled (UType value rd imm) = value + rd * 2 ^ 7 + imm * 2 ^ 12
assembled (JType value rd offset) = value + rd * 2 ^ 7 + unsigned 21 offset / 2 ^ 12 % 2 ^ 8 * 2 ^ 12 + unsigned 21 offset / 2 ^ 11 % 2 * 2 ^ 20
    + unsigned 21 offset / 2 % 2 ^ 10 * 2 ^ 21 + unsigned 21 offset / 2 ^ 20 * 2 ^ 31
assembled (FenceType value rd rs1 upper) = value + rd * 2 ^ 7 + rs1 * 2 ^ 15 + upper * 2 ^ 20
assembled (Alone value) = value

-- a number that has a two's complement in `count` bits, and an even one
abbrev pub IsSigned : ℕ → ℤ → Type 0
IsSigned count z = (unsigned count z < 2 ^ count) × (signed count (unsigned count z) ≡ z)

abbrev pub IsEven : ℕ → ℤ → Type 0
IsEven count z = (unsigned count z < 2 ^ count) × (signed count (unsigned count z) ≡ z) × (unsigned count z % 2 ≡ 0)

-- each operand fits its bits of the word
abbrev pub Fits : Layout → Type 0
Fits (RType value rd rs1 rs2) = (rd < 32) × (rs1 < 32) × (rs2 < 32)
Fits (IType value rd rs1 imm) = (rd < 32) × (rs1 < 32) × IsSigned 12 imm
Fits (SType value rs1 rs2 imm) = (rs1 < 32) × (rs2 < 32) × IsSigned 12 imm
Fits (BType value rs1 rs2 offset) = (rs1 < 32) × (rs2 < 32) × IsEven 13 offset
Fits (UType value rd imm) = (rd < 32) × (imm < 2 ^ 20)
Fits (JType value rd offset) = (rd < 32) × IsEven 21 offset
Fits (FenceType value rd rs1 upper) = (rd < 32) × (rs1 < 32) × (upper < 2 ^ 12)
Fits (Alone value) = Unit {0}

-- the layout of an instruction's word, in the table's order
abbrev pub layout : Instr → Layout
layout (Lui rd imm) = UType 0x37 rd imm
layout (Auipc rd imm) = UType 0x17 rd imm
layout (Jal rd offset) = JType 0x6f rd offset
layout (Jalr rd rs1 imm) = IType 0x67 rd rs1 imm
layout (Beq rs1 rs2 offset) = BType 0x63 rs1 rs2 offset
layout (Bne rs1 rs2 offset) = BType 0x1063 rs1 rs2 offset
layout (Blt rs1 rs2 offset) = BType 0x4063 rs1 rs2 offset
layout (Bge rs1 rs2 offset) = BType 0x5063 rs1 rs2 offset
layout (Bltu rs1 rs2 offset) = BType 0x6063 rs1 rs2 offset
layout (Bgeu rs1 rs2 offset) = BType 0x7063 rs1 rs2 offset
layout (Lb rd rs1 imm) = IType 0x3 rd rs1 imm
layout (Lh rd rs1 imm) = IType 0x1003 rd rs1 imm
layout (Lw rd rs1 imm) = IType 0x2003 rd rs1 imm
layout (Lbu rd rs1 imm) = IType 0x4003 rd rs1 imm
layout (Lhu rd rs1 imm) = IType 0x5003 rd rs1 imm
layout (Sb rs1 rs2 imm) = SType 0x23 rs1 rs2 imm
layout (Sh rs1 rs2 imm) = SType 0x1023 rs1 rs2 imm
layout (Sw rs1 rs2 imm) = SType 0x2023 rs1 rs2 imm
layout (Addi rd rs1 imm) = IType 0x13 rd rs1 imm
layout (Slti rd rs1 imm) = IType 0x2013 rd rs1 imm
layout (Sltiu rd rs1 imm) = IType 0x3013 rd rs1 imm
layout (Xori rd rs1 imm) = IType 0x4013 rd rs1 imm
layout (Ori rd rs1 imm) = IType 0x6013 rd rs1 imm
layout (Andi rd rs1 imm) = IType 0x7013 rd rs1 imm
layout (Slli rd rs1 count) = RType 0x1013 rd rs1 count
layout (Srli rd rs1 count) = RType 0x5013 rd rs1 count
layout (Srai rd rs1 count) = RType 0x40005013 rd rs1 count
layout (Add rd rs1 rs2) = RType 0x33 rd rs1 rs2
layout (Sub rd rs1 rs2) = RType 0x40000033 rd rs1 rs2
layout (Sll rd rs1 rs2) = RType 0x1033 rd rs1 rs2
layout (Slt rd rs1 rs2) = RType 0x2033 rd rs1 rs2
layout (Sltu rd rs1 rs2) = RType 0x3033 rd rs1 rs2
layout (Xor rd rs1 rs2) = RType 0x4033 rd rs1 rs2
layout (Srl rd rs1 rs2) = RType 0x5033 rd rs1 rs2
layout (Sra rd rs1 rs2) = RType 0x40005033 rd rs1 rs2
layout (Or rd rs1 rs2) = RType 0x6033 rd rs1 rs2
layout (And rd rs1 rs2) = RType 0x7033 rd rs1 rs2
layout (Fence rd rs1 upper) = FenceType 0xf rd rs1 upper
layout Ecall = Alone 0x73
layout Ebreak = Alone 0x100073
layout (Mul rd rs1 rs2) = RType 0x2000033 rd rs1 rs2
layout (Mulh rd rs1 rs2) = RType 0x2001033 rd rs1 rs2
layout (Mulhsu rd rs1 rs2) = RType 0x2002033 rd rs1 rs2
layout (Mulhu rd rs1 rs2) = RType 0x2003033 rd rs1 rs2
layout (Div rd rs1 rs2) = RType 0x2004033 rd rs1 rs2
layout (Divu rd rs1 rs2) = RType 0x2005033 rd rs1 rs2
layout (Rem rd rs1 rs2) = RType 0x2006033 rd rs1 rs2
layout (Remu rd rs1 rs2) = RType 0x2007033 rd rs1 rs2
