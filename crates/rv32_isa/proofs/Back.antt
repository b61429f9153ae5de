use Rattle.std.proofs.Common.{◌≡◌, ℕ, ◌+◌, ◌*◌, ◌/◌, ◌%◌, ◌^◌, ◌<◌, ◌∙◌, sym, ap, arith, bit_and, nat_eq, List, [], ◌∷◌, inl, inr}
use Rattle.std.specs.Prelude.{Some}
use Rattle.std.proofs.lemmas.Bool.{eqb-true, cases_Bool}
use Rattle.std.proofs.lemmas.Bool.Decides.{nat_tests}
use Rattle.rv32_isa.specs.Numbers.{bits, signed, unsigned}
use Rattle.rv32_isa.specs.Table.{Row, rows, first_match, decoded, rd, rs1, rs2, i_immediate, s_immediate, b_immediate, j_immediate}
use Rattle.rv32_isa.specs.Words.{RType, IType, SType, BType, UType, JType, FenceType, assembled, layout}
use Rattle.rv32_isa.proofs.Fields.{mask_opcode, mask_funct3, mask_funct7, mask_all}
use Rattle.rv32_isa.specs.declared.instruction.Instr.{Instr}

unsigned-signed_12 : (v : ℕ) → v < 2 ^ 12 → unsigned 12 (signed 12 v) ≡ v
unsigned-signed_12 v h = grind (arith, nat_tests)

unsigned-signed_13 : (v : ℕ) → v < 2 ^ 13 → unsigned 13 (signed 13 v) ≡ v
unsigned-signed_13 v h = grind (arith, nat_tests)

unsigned-signed_21 : (v : ℕ) → v < 2 ^ 21 → unsigned 21 (signed 21 v) ≡ v
unsigned-signed_21 v h = grind (arith, nat_tests)

-- a word of a format is the sum of the row's value and of its operands
r_back : (v w : ℕ) → w < 2 ^ 32 → bit_and w 0xfe00707f ≡ v → assembled (RType v (rd w) (rs1 w) (rs2 w)) ≡ w
r_back v w fits e = let kept : bit_and w 0xfe00707f ≡ (w / 33554432) * 33554432 + (w / 4096 % 8) * 4096 + w % 128 = mask_funct7 w fits in omega arith

fence_back : (v w : ℕ) → w < 2 ^ 32 → bit_and w 0x707f ≡ v → assembled (FenceType v (rd w) (rs1 w) (bits w 31 20)) ≡ w
fence_back v w fits e = let kept : bit_and w 0x707f ≡ (w / 4096 % 8) * 4096 + w % 128 = mask_funct3 w in omega arith

i_back : (v w : ℕ) → w < 2 ^ 32 → bit_and w 0x707f ≡ v → assembled (IType v (rd w) (rs1 w) (i_immediate w)) ≡ w
i_back v w fits e =
    let kept : bit_and w 0x707f ≡ (w / 4096 % 8) * 4096 + w % 128 = mask_funct3 w in
    let back : unsigned 12 (i_immediate w) ≡ bits w 31 20 = unsigned-signed_12 (bits w 31 20) (omega arith) in
    rw back (omega arith)

s_back : (v w : ℕ) → w < 2 ^ 32 → bit_and w 0x707f ≡ v → assembled (SType v (rs1 w) (rs2 w) (s_immediate w)) ≡ w
s_back v w fits e =
    let kept : bit_and w 0x707f ≡ (w / 4096 % 8) * 4096 + w % 128 = mask_funct3 w in
    let back : unsigned 12 (s_immediate w) ≡ bits w 31 25 * 2 ^ 5 + bits w 11 7 = unsigned-signed_12 (bits w 31 25 * 2 ^ 5 + bits w 11 7) (omega arith) in
    rw back (omega arith)

b_back : (v w : ℕ) → w < 2 ^ 32 → bit_and w 0x707f ≡ v → assembled (BType v (rs1 w) (rs2 w) (b_immediate w)) ≡ w
b_back v w fits e =
    let kept : bit_and w 0x707f ≡ (w / 4096 % 8) * 4096 + w % 128 = mask_funct3 w in
    let back : unsigned 13 (b_immediate w) ≡ bits w 31 31 * 2 ^ 12 + bits w 7 7 * 2 ^ 11 + bits w 30 25 * 2 ^ 5 + bits w 11 8 * 2 =
    unsigned-signed_13 (bits w 31 31 * 2 ^ 12 + bits w 7 7 * 2 ^ 11 + bits w 30 25 * 2 ^ 5 + bits w 11 8 * 2) (omega arith) in
    rw back (omega arith)

u_back : (v w : ℕ) → w < 2 ^ 32 → bit_and w 0x7f ≡ v → assembled (UType v (rd w) (bits w 31 12)) ≡ w
u_back v w fits e = let kept : bit_and w 0x7f ≡ w % 128 = mask_opcode w in omega arith

j_back : (v w : ℕ) → w < 2 ^ 32 → bit_and w 0x7f ≡ v → assembled (JType v (rd w) (j_immediate w)) ≡ w
j_back v w fits e =
    let kept : bit_and w 0x7f ≡ w % 128 = mask_opcode w in
    let back : unsigned 21 (j_immediate w) ≡ bits w 31 31 * 2 ^ 20 + bits w 19 12 * 2 ^ 12 + bits w 20 20 * 2 ^ 11 + bits w 30 21 * 2 =
    unsigned-signed_21 (bits w 31 31 * 2 ^ 20 + bits w 19 12 * 2 ^ 12 + bits w 20 20 * 2 ^ 11 + bits w 30 21 * 2) (omega arith) in
    rw back (omega arith)

none_back : (v w : ℕ) → w < 2 ^ 32 → bit_and w 0xffffffff ≡ v → v ≡ w
none_back v w fits e = sym e ∙ mask_all w fits

-- what a row reads from a word goes back to that word
abbrev GoesBack : Row → Type 0
GoesBack r = (w : ℕ) → w < 2 ^ 32 → bit_and w r.mask ≡ r.value → assembled (layout (r.instr w)) ≡ w

abbrev AllGoBack : List Row → Type 0
AllGoBack [] = Unit {0}
AllGoBack (r ∷ rs) = GoesBack r × AllGoBack rs

all_go_back : AllGoBack rows
all_go_back = (
  u_back 0x37,
  (
    u_back 0x17,
    (
      j_back 0x6f,
      (
        i_back 0x67,
        (
          b_back 0x63,
          (
            b_back 0x1063,
            (
              b_back 0x4063,
              (
                b_back 0x5063,
                (
                  b_back 0x6063,
                  (
                    b_back 0x7063,
                    (
                      i_back 0x3,
                      (
                        i_back 0x1003,
                        (
                          i_back 0x2003,
                          (
                            i_back 0x4003,
                            (
                              i_back 0x5003,
                              (
                                s_back 0x23,
                                (
                                  s_back 0x1023,
                                  (
                                    s_back 0x2023,
                                    (
                                      i_back 0x13,
                                      (
                                        i_back 0x2013,
                                        (
                                          i_back 0x3013,
                                          (
                                            i_back 0x4013,
                                            (
                                              i_back 0x6013,
                                              (
                                                i_back 0x7013,
                                                (
                                                  r_back 0x1013,
                                                  (
                                                    r_back 0x5013,
                                                    (
                                                      r_back 0x40005013,
                                                      (
                                                        r_back 0x33,
                                                        (
                                                          r_back 0x40000033,
                                                          (
                                                            r_back 0x1033,
                                                            (
                                                              r_back 0x2033,
                                                              (
                                                                r_back 0x3033,
                                                                (
                                                                  r_back 0x4033,
                                                                  (
                                                                    r_back 0x5033,
                                                                    (
                                                                      r_back 0x40005033,
                                                                      (
                                                                        r_back 0x6033,
                                                                        (
                                                                          r_back 0x7033,
                                                                          (
                                                                            fence_back 0xf,
                                                                            (
                                                                              none_back 0x73,
                                                                              (
                                                                                none_back 0x100073,
                                                                                (
                                                                                  r_back 0x2000033,
                                                                                  (
                                                                                    r_back 0x2001033,
                                                                                    (
                                                                                      r_back 0x2002033,
                                                                                      (
                                                                                        r_back 0x2003033,
                                                                                        (
                                                                                          r_back 0x2004033,
                                                                                          (
                                                                                            r_back 0x2005033,
                                                                                            (
                                                                                              r_back 0x2006033,
                                                                                              (
                                                                                                r_back 0x2007033,
                                                                                                tt,
                                                                                              ),
                                                                                            ),
                                                                                          ),
                                                                                        ),
                                                                                      ),
                                                                                    ),
                                                                                  ),
                                                                                ),
                                                                              ),
                                                                            ),
                                                                          ),
                                                                        ),
                                                                      ),
                                                                    ),
                                                                  ),
                                                                ),
                                                              ),
                                                            ),
                                                          ),
                                                        ),
                                                      ),
                                                    ),
                                                  ),
                                                ),
                                              ),
                                            ),
                                          ),
                                        ),
                                      ),
                                    ),
                                  ),
                                ),
                              ),
                            ),
                          ),
                        ),
                      ),
                    ),
                  ),
                ),
              ),
            ),
          ),
        ),
      ),
    ),
  ),
)

first_goes_back : (w : ℕ) → w < 2 ^ 32 → (i : Instr) (rs : List Row) → AllGoBack rs → first_match w rs ≡ Some i → assembled (layout i) ≡ w
first_goes_back w fits i [] all found = cc
first_goes_back w fits i (r ∷ rs) all found =
    elim (cases_Bool (nat_eq (bit_and w r.mask) r.value)) [
      | inl matched ↦ let here : Some (r.instr w) ≡ Some i = rw matched at found in
          let same : r.instr w ≡ i = cc in
          ap (λ j. assembled (layout j)) (sym same) ∙ all.0 w fits (eqb-true _ _ matched)
      | inr passed ↦ first_goes_back w fits i rs all.1 (rw passed at found)
    ]

-- the word that an instruction was read from is the instruction's word
pub assembled_of_decoded : (w : ℕ) → w < 2 ^ 32 → (i : Instr) → decoded w ≡ Some i → assembled (layout i) ≡ w
unfolding decoded
assembled_of_decoded w fits i found = first_goes_back w fits i rows all_go_back found
