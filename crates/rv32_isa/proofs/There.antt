use Rattle.std.proofs.Common.{◌≡◌, ℕ, ℤ, ◌+◌, ◌*◌, ◌/◌, ◌%◌, ◌^◌, ◌∙◌, sym, ap, refl, arith, lit<}
use Rattle.std.specs.Prelude.{Some}
use Rattle.rv32_isa.specs.Numbers.{bits, signed, unsigned}
use Rattle.rv32_isa.specs.Table.{rows, decoded, rd, rs1, rs2, i_immediate, s_immediate, b_immediate, j_immediate, r_format, i_format, fence_format, s_format}
use Rattle.rv32_isa.specs.Table.{b_format, u_format, j_format}
use Rattle.rv32_isa.specs.Words.{RType, IType, SType, BType, UType, JType, FenceType, assembled, Fits, layout}
use Rattle.rv32_isa.proofs.Fields.{first_agreeing, decoded_at, decoded_by_fields}
use Rattle.rv32_isa.specs.declared.instruction.Instr.{Instr}
use Rattle.rv32_isa.specs.declared.instruction.Instr.TheVariants.{Lui, Auipc, Jal, Jalr, Beq, Bne, Blt, Bge, Bltu, Bgeu, Lb, Lh, Lw, Lbu, Lhu, Sb, Sh, Sw, Addi}
use Rattle.rv32_isa.specs.declared.instruction.Instr.TheVariants.{Slti, Sltiu, Xori, Ori, Andi, Slli, Srli, Srai, Add, Sub, Sll, Slt, Sltu, Xor, Srl, Sra, Or}
use Rattle.rv32_isa.specs.declared.instruction.Instr.TheVariants.{And, Fence, Ecall, Ebreak, Mul, Mulh, Mulhsu, Mulhu, Div, Divu, Rem, Remu}

-- a value under each mask
abbrev IsBase7 : ℕ → Type 0
IsBase7 v = v % 128 ≡ v

abbrev IsBase10 : ℕ → Type 0
IsBase10 v = v / 4096 % 8 * 4096 + v % 128 ≡ v

abbrev IsBase17 : ℕ → Type 0
IsBase17 v = v / 33554432 % 128 * 33554432 + v / 4096 % 8 * 4096 + v % 128 ≡ v

-- what the table reads from the word of a format
r_there : (instr : ℕ → ℕ → ℕ → Instr) (v : ℕ) → IsBase17 v
    → ((w : ℕ) → first_agreeing (v % 128) (v / 4096 % 8) (v / 33554432 % 128) w rows ≡ Some (r_format instr w)) → (a b c : ℕ) → Fits (RType v a b c)
    → decoded (assembled (RType v a b c)) ≡ Some (instr a b c)
r_there instr v base there a b c fit = go (assembled (RType v a b c)) refl where
  go : (w : ℕ) → w ≡ assembled (RType v a b c) → decoded w ≡ Some (instr a b c)
  go w e =
      let known : first_agreeing (v % 128) (v / 4096 % 8) (v / 33554432 % 128) w rows ≡ decoded w = decoded_at w (v % 128) (v / 4096 % 8) (v / 33554432 % 128)
      (omega arith) (omega arith) (omega arith) (omega arith) in
      let ea : rd w ≡ a = omega arith in
      let eb : rs1 w ≡ b = omega arith in
      let ec : rs2 w ≡ c = omega arith in
      sym known ∙ there w ∙ rw (ea, eb, ec) refl

fence_there : (instr : ℕ → ℕ → ℕ → Instr) (v : ℕ) → IsBase10 v → ((w f : ℕ) → first_agreeing (v % 128) (v / 4096 % 8) f w rows ≡ Some (fence_format instr w))
    → (a b n : ℕ) → Fits (FenceType v a b n) → decoded (assembled (FenceType v a b n)) ≡ Some (instr a b n)
fence_there instr v base there a b n fit = go (assembled (FenceType v a b n)) refl where
  go : (w : ℕ) → w ≡ assembled (FenceType v a b n) → decoded w ≡ Some (instr a b n)
  go w e =
      let known : first_agreeing (v % 128) (v / 4096 % 8) (w / 33554432) w rows ≡ decoded w = decoded_at w (v % 128) (v / 4096 % 8) (w / 33554432) (omega arith)
      (omega arith) (omega arith) refl in
      let ea : rd w ≡ a = omega arith in
      let eb : rs1 w ≡ b = omega arith in
      let en : bits w 31 20 ≡ n = omega arith in
      sym known ∙ there w (w / 33554432) ∙ rw (ea, eb, en) refl

i_there : (instr : ℕ → ℕ → ℤ → Instr) (v : ℕ) → IsBase10 v → ((w f : ℕ) → first_agreeing (v % 128) (v / 4096 % 8) f w rows ≡ Some (i_format instr w))
    → (a b : ℕ) (z : ℤ) → Fits (IType v a b z) → decoded (assembled (IType v a b z)) ≡ Some (instr a b z)
i_there instr v base there a b z fit = go (assembled (IType v a b z)) refl (unsigned 12 z) refl where
  go : (w : ℕ) → w ≡ assembled (IType v a b z) → (u : ℕ) → u ≡ unsigned 12 z → decoded w ≡ Some (instr a b z)
  go w e u eu =
      let known : first_agreeing (v % 128) (v / 4096 % 8) (w / 33554432) w rows ≡ decoded w = decoded_at w (v % 128) (v / 4096 % 8) (w / 33554432) (omega arith)
      (omega arith) (omega arith) refl in
      let ea : rd w ≡ a = omega arith in
      let eb : rs1 w ≡ b = omega arith in
      let en : bits w 31 20 ≡ unsigned 12 z = omega arith in
      let ez : i_immediate w ≡ z = ap (signed 12) en ∙ fit.2.1 in
      sym known ∙ there w (w / 33554432) ∙ rw (ea, eb, ez) refl

s_there : (instr : ℕ → ℕ → ℤ → Instr) (v : ℕ) → IsBase10 v → ((w f : ℕ) → first_agreeing (v % 128) (v / 4096 % 8) f w rows ≡ Some (s_format instr w))
    → (b c : ℕ) (z : ℤ) → Fits (SType v b c z) → decoded (assembled (SType v b c z)) ≡ Some (instr b c z)
s_there instr v base there b c z fit = go (assembled (SType v b c z)) refl where
  go : (w : ℕ) → w ≡ assembled (SType v b c z) → decoded w ≡ Some (instr b c z)
  go w e =
      let known : first_agreeing (v % 128) (v / 4096 % 8) (w / 33554432) w rows ≡ decoded w = decoded_at w (v % 128) (v / 4096 % 8) (w / 33554432) (omega arith)
      (omega arith) (omega arith) refl in
      let eb : rs1 w ≡ b = omega arith in
      let ec : rs2 w ≡ c = omega arith in
      let en : bits w 31 25 * 2 ^ 5 + bits w 11 7 ≡ unsigned 12 z = omega arith in
      let ez : s_immediate w ≡ z = ap (signed 12) en ∙ fit.2.1 in
      sym known ∙ there w (w / 33554432) ∙ rw (eb, ec, ez) refl

b_there : (instr : ℕ → ℕ → ℤ → Instr) (v : ℕ) → IsBase10 v → ((w f : ℕ) → first_agreeing (v % 128) (v / 4096 % 8) f w rows ≡ Some (b_format instr w))
    → (b c : ℕ) (z : ℤ) → Fits (BType v b c z) → decoded (assembled (BType v b c z)) ≡ Some (instr b c z)
b_there instr v base there b c z fit = go (assembled (BType v b c z)) refl where
  go : (w : ℕ) → w ≡ assembled (BType v b c z) → decoded w ≡ Some (instr b c z)
  go w e =
      let known : first_agreeing (v % 128) (v / 4096 % 8) (w / 33554432) w rows ≡ decoded w = decoded_at w (v % 128) (v / 4096 % 8) (w / 33554432) (omega arith)
      (omega arith) (omega arith) refl in
      let eb : rs1 w ≡ b = omega arith in
      let ec : rs2 w ≡ c = omega arith in
      let en : bits w 31 31 * 2 ^ 12 + bits w 7 7 * 2 ^ 11 + bits w 30 25 * 2 ^ 5 + bits w 11 8 * 2 ≡ unsigned 13 z = omega arith in
      let ez : b_immediate w ≡ z = ap (signed 13) en ∙ fit.2.1 in
      sym known ∙ there w (w / 33554432) ∙ rw (eb, ec, ez) refl

u_there : (instr : ℕ → ℕ → Instr) (v : ℕ) → IsBase7 v → ((w f g : ℕ) → first_agreeing (v % 128) f g w rows ≡ Some (u_format instr w)) → (a n : ℕ)
    → Fits (UType v a n) → decoded (assembled (UType v a n)) ≡ Some (instr a n)
u_there instr v base there a n fit = go (assembled (UType v a n)) refl where
  go : (w : ℕ) → w ≡ assembled (UType v a n) → decoded w ≡ Some (instr a n)
  go w e =
      let known : first_agreeing (v % 128) (w / 4096 % 8) (w / 33554432) w rows ≡ decoded w = decoded_at w (v % 128) (w / 4096 % 8) (w / 33554432) (omega arith)
      (omega arith) refl refl in
      let ea : rd w ≡ a = omega arith in
      let en : bits w 31 12 ≡ n = omega arith in
      sym known ∙ there w (w / 4096 % 8) (w / 33554432) ∙ rw (ea, en) refl

j_there : (instr : ℕ → ℤ → Instr) (v : ℕ) → IsBase7 v → ((w f g : ℕ) → first_agreeing (v % 128) f g w rows ≡ Some (j_format instr w)) → (a : ℕ) (z : ℤ)
    → Fits (JType v a z) → decoded (assembled (JType v a z)) ≡ Some (instr a z)
j_there instr v base there a z fit = go (assembled (JType v a z)) refl where
  go : (w : ℕ) → w ≡ assembled (JType v a z) → decoded w ≡ Some (instr a z)
  go w e =
      let known : first_agreeing (v % 128) (w / 4096 % 8) (w / 33554432) w rows ≡ decoded w = decoded_at w (v % 128) (w / 4096 % 8) (w / 33554432) (omega arith)
      (omega arith) refl refl in
      let ea : rd w ≡ a = omega arith in
      let en : bits w 31 31 * 2 ^ 20 + bits w 19 12 * 2 ^ 12 + bits w 20 20 * 2 ^ 11 + bits w 30 21 * 2 ≡ unsigned 21 z = omega arith in
      let ez : j_immediate w ≡ z = ap (signed 21) en ∙ fit.1.1 in
      sym known ∙ there w (w / 4096 % 8) (w / 33554432) ∙ rw (ea, ez) refl

-- the word of an instruction is that instruction
pub decoded_of_assembled : (i : Instr) → Fits (layout i) → decoded (assembled (layout i)) ≡ Some i
decoded_of_assembled (Lui rd n) fit = u_there Lui 0x37 refl (λ w f g. refl) rd n fit
decoded_of_assembled (Auipc rd n) fit = u_there Auipc 0x17 refl (λ w f g. refl) rd n fit
decoded_of_assembled (Jal rd z) fit = j_there Jal 0x6f refl (λ w f g. refl) rd z fit
decoded_of_assembled (Jalr rd rs1 z) fit = i_there Jalr 0x67 refl (λ w f. refl) rd rs1 z fit
decoded_of_assembled (Beq rs1 rs2 z) fit = b_there Beq 0x63 refl (λ w f. refl) rs1 rs2 z fit
decoded_of_assembled (Bne rs1 rs2 z) fit = b_there Bne 0x1063 refl (λ w f. refl) rs1 rs2 z fit
decoded_of_assembled (Blt rs1 rs2 z) fit = b_there Blt 0x4063 refl (λ w f. refl) rs1 rs2 z fit
decoded_of_assembled (Bge rs1 rs2 z) fit = b_there Bge 0x5063 refl (λ w f. refl) rs1 rs2 z fit
decoded_of_assembled (Bltu rs1 rs2 z) fit = b_there Bltu 0x6063 refl (λ w f. refl) rs1 rs2 z fit
decoded_of_assembled (Bgeu rs1 rs2 z) fit = b_there Bgeu 0x7063 refl (λ w f. refl) rs1 rs2 z fit
decoded_of_assembled (Lb rd rs1 z) fit = i_there Lb 0x3 refl (λ w f. refl) rd rs1 z fit
decoded_of_assembled (Lh rd rs1 z) fit = i_there Lh 0x1003 refl (λ w f. refl) rd rs1 z fit
decoded_of_assembled (Lw rd rs1 z) fit = i_there Lw 0x2003 refl (λ w f. refl) rd rs1 z fit
decoded_of_assembled (Lbu rd rs1 z) fit = i_there Lbu 0x4003 refl (λ w f. refl) rd rs1 z fit
decoded_of_assembled (Lhu rd rs1 z) fit = i_there Lhu 0x5003 refl (λ w f. refl) rd rs1 z fit
decoded_of_assembled (Sb rs1 rs2 z) fit = s_there Sb 0x23 refl (λ w f. refl) rs1 rs2 z fit
decoded_of_assembled (Sh rs1 rs2 z) fit = s_there Sh 0x1023 refl (λ w f. refl) rs1 rs2 z fit
decoded_of_assembled (Sw rs1 rs2 z) fit = s_there Sw 0x2023 refl (λ w f. refl) rs1 rs2 z fit
decoded_of_assembled (Addi rd rs1 z) fit = i_there Addi 0x13 refl (λ w f. refl) rd rs1 z fit
decoded_of_assembled (Slti rd rs1 z) fit = i_there Slti 0x2013 refl (λ w f. refl) rd rs1 z fit
decoded_of_assembled (Sltiu rd rs1 z) fit = i_there Sltiu 0x3013 refl (λ w f. refl) rd rs1 z fit
decoded_of_assembled (Xori rd rs1 z) fit = i_there Xori 0x4013 refl (λ w f. refl) rd rs1 z fit
decoded_of_assembled (Ori rd rs1 z) fit = i_there Ori 0x6013 refl (λ w f. refl) rd rs1 z fit
decoded_of_assembled (Andi rd rs1 z) fit = i_there Andi 0x7013 refl (λ w f. refl) rd rs1 z fit
decoded_of_assembled (Slli rd rs1 n) fit = r_there Slli 0x1013 refl (λ w. refl) rd rs1 n fit
decoded_of_assembled (Srli rd rs1 n) fit = r_there Srli 0x5013 refl (λ w. refl) rd rs1 n fit
decoded_of_assembled (Srai rd rs1 n) fit = r_there Srai 0x40005013 refl (λ w. refl) rd rs1 n fit
decoded_of_assembled (Add rd rs1 rs2) fit = r_there Add 0x33 refl (λ w. refl) rd rs1 rs2 fit
decoded_of_assembled (Sub rd rs1 rs2) fit = r_there Sub 0x40000033 refl (λ w. refl) rd rs1 rs2 fit
decoded_of_assembled (Sll rd rs1 rs2) fit = r_there Sll 0x1033 refl (λ w. refl) rd rs1 rs2 fit
decoded_of_assembled (Slt rd rs1 rs2) fit = r_there Slt 0x2033 refl (λ w. refl) rd rs1 rs2 fit
decoded_of_assembled (Sltu rd rs1 rs2) fit = r_there Sltu 0x3033 refl (λ w. refl) rd rs1 rs2 fit
decoded_of_assembled (Xor rd rs1 rs2) fit = r_there Xor 0x4033 refl (λ w. refl) rd rs1 rs2 fit
decoded_of_assembled (Srl rd rs1 rs2) fit = r_there Srl 0x5033 refl (λ w. refl) rd rs1 rs2 fit
decoded_of_assembled (Sra rd rs1 rs2) fit = r_there Sra 0x40005033 refl (λ w. refl) rd rs1 rs2 fit
decoded_of_assembled (Or rd rs1 rs2) fit = r_there Or 0x6033 refl (λ w. refl) rd rs1 rs2 fit
decoded_of_assembled (And rd rs1 rs2) fit = r_there And 0x7033 refl (λ w. refl) rd rs1 rs2 fit
decoded_of_assembled (Fence rd rs1 n) fit = fence_there Fence 0xf refl (λ w f. refl) rd rs1 n fit
decoded_of_assembled Ecall fit = decoded_by_fields 0x73 (lit< tt)
decoded_of_assembled Ebreak fit = decoded_by_fields 0x100073 (lit< tt)
decoded_of_assembled (Mul rd rs1 rs2) fit = r_there Mul 0x2000033 refl (λ w. refl) rd rs1 rs2 fit
decoded_of_assembled (Mulh rd rs1 rs2) fit = r_there Mulh 0x2001033 refl (λ w. refl) rd rs1 rs2 fit
decoded_of_assembled (Mulhsu rd rs1 rs2) fit = r_there Mulhsu 0x2002033 refl (λ w. refl) rd rs1 rs2 fit
decoded_of_assembled (Mulhu rd rs1 rs2) fit = r_there Mulhu 0x2003033 refl (λ w. refl) rd rs1 rs2 fit
decoded_of_assembled (Div rd rs1 rs2) fit = r_there Div 0x2004033 refl (λ w. refl) rd rs1 rs2 fit
decoded_of_assembled (Divu rd rs1 rs2) fit = r_there Divu 0x2005033 refl (λ w. refl) rd rs1 rs2 fit
decoded_of_assembled (Rem rd rs1 rs2) fit = r_there Rem 0x2006033 refl (λ w. refl) rd rs1 rs2 fit
decoded_of_assembled (Remu rd rs1 rs2) fit = r_there Remu 0x2007033 refl (λ w. refl) rd rs1 rs2 fit
