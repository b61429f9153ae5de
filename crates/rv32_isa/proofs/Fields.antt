use Rattle.std.proofs.Common.{◌≡◌, ℕ, ◌+◌, ◌*◌, ◌/◌, ◌%◌, ◌^◌, ◌<◌, ◌∙◌, sym, ap, refl, arith, bit_and, Bool, true, false, nat_eq, List, [], ◌∷◌, inl, inr}
use Rattle.std.proofs.Common.{subst, nat_lt}
use Rattle.std.specs.Prelude.{Option, Some, None, ◌&&◌, ◌||◌, not, if◌then◌else◌}
use Rattle.std.specs.List.{list_all}
use Rattle.std.proofs.lemmas.Nat.{and_mask, and_block}
use Rattle.std.proofs.lemmas.Bool.{eqb-true, ne_eqb, and_parts, or_cases, ltb-true, not-true}
use Rattle.std.proofs.lemmas.Bool.Decides.{nat_tests}
use Rattle.std.proofs.Math.Bool.{and-false}
use Rattle.rv32_isa.specs.Table.{Row, rows, first_match, decoded}
use Rattle.rv32_isa.specs.declared.instruction.Instr.{Instr}

-- what each mask of the table keeps of a word
pub mask_opcode : (w : ℕ) → bit_and w 0x7f ≡ w % 128
mask_opcode w = and_mask w 7

pub mask_funct3 : (w : ℕ) → bit_and w 0x707f ≡ (w / 4096 % 8) * 4096 + w % 128
mask_funct3 w =
    let whole : (w / 4096) * 4096 + w % 4096 ≡ w = omega arith in
    let low : w % 4096 < 4096 = omega arith in
    let cut : bit_and ((w / 4096) * 4096 + w % 4096) (7 * 4096 + 127) ≡ bit_and (w / 4096) 7 * 4096 + bit_and (w % 4096) 127 =
    and_block 12 (w / 4096) 7 (w % 4096) 127 low (omega arith) in
    let high : bit_and (w / 4096) 7 ≡ w / 4096 % 8 = and_mask (w / 4096) 3 in
    let rest : bit_and (w % 4096) 127 ≡ w % 4096 % 128 = and_mask (w % 4096) 7 in
    rw (whole, high, rest) at cut ∙ omega arith

pub mask_funct7 : (w : ℕ) → w < 2 ^ 32 → bit_and w 0xfe00707f ≡ (w / 33554432) * 33554432 + (w / 4096 % 8) * 4096 + w % 128
mask_funct7 w fits =
    let whole : (w / 33554432) * 33554432 + w % 33554432 ≡ w = omega arith in
    let low : w % 33554432 < 33554432 = omega arith in
    let cut : bit_and ((w / 33554432) * 33554432 + w % 33554432) (127 * 33554432 + 0x707f) ≡ bit_and (w / 33554432) 127 * 33554432
    + bit_and (w % 33554432) 0x707f = and_block 25 (w / 33554432) 127 (w % 33554432) 0x707f low (omega arith) in
    let high : bit_and (w / 33554432) 127 ≡ w / 33554432 % 128 = and_mask (w / 33554432) 7 in
    let rest : bit_and (w % 33554432) 0x707f ≡ (w % 33554432 / 4096 % 8) * 4096 + w % 33554432 % 128 = mask_funct3 (w % 33554432) in
    rw (whole, high, rest) at cut ∙ omega arith

pub mask_all : (w : ℕ) → w < 2 ^ 32 → bit_and w 0xffffffff ≡ w
mask_all w fits = let cut : bit_and w 0xffffffff ≡ w % 4294967296 = and_mask w 32 in omega (arith, cut)

-- whether a row's test succeeds, by the word's opcode, funct3 and funct7
abbrev pub agrees : ℕ → ℕ → ℕ → ℕ → ℕ → ℕ → Bool
agrees opcode funct3 funct7 w mask value =
    nat_eq opcode (value % 128) && (if nat_eq mask 0x7f then true else (nat_eq funct3 (value / 4096 % 8)
    && (if nat_eq mask 0x707f then true else (nat_eq funct7 (value / 33554432)
    && (if nat_eq mask 0xfe00707f then true else nat_eq w value)))))

-- the row's mask is one of four, and its value lies within it
abbrev pub is_sound : Row → Bool
is_sound r = nat_eq (bit_and r.value r.mask) r.value
    && (nat_lt r.value (2 ^ 32) && (nat_eq r.mask 0x7f || nat_eq r.mask 0x707f || nat_eq r.mask 0xfe00707f || nat_eq r.mask 0xffffffff))

same_bool : (a b : Bool) → (a ≡ true → b ≡ true) → (b ≡ true → a ≡ true) → a ≡ b
same_bool true b f g = sym (f refl)
same_bool false true f g = g refl
same_bool false false f g = refl

-- the two readings of a row's test, mask by mask
agrees_opcode : (w v : ℕ) → bit_and v 0x7f ≡ v → nat_eq (bit_and w 0x7f) v ≡ agrees (w % 128) (w / 4096 % 8) (w / 33554432) w 0x7f v
agrees_opcode w v e =
    let ew : bit_and w 0x7f ≡ w % 128 = mask_opcode w in
    let ev : bit_and v 0x7f ≡ v % 128 = mask_opcode v in
    grind (arith, nat_tests)

agrees_funct3 : (w v : ℕ) → bit_and v 0x707f ≡ v → nat_eq (bit_and w 0x707f) v ≡ agrees (w % 128) (w / 4096 % 8) (w / 33554432) w 0x707f v
agrees_funct3 w v e =
    let ew : bit_and w 0x707f ≡ (w / 4096 % 8) * 4096 + w % 128 = mask_funct3 w in
    let ev : bit_and v 0x707f ≡ (v / 4096 % 8) * 4096 + v % 128 = mask_funct3 v in
    grind (arith, nat_tests)

agrees_funct7 : (w v : ℕ) → w < 2 ^ 32 → v < 2 ^ 32 → bit_and v 0xfe00707f ≡ v
    → nat_eq (bit_and w 0xfe00707f) v ≡ agrees (w % 128) (w / 4096 % 8) (w / 33554432) w 0xfe00707f v
agrees_funct7 w v fits fits' e =
    let ew : bit_and w 0xfe00707f ≡ (w / 33554432) * 33554432 + (w / 4096 % 8) * 4096 + w % 128 = mask_funct7 w fits in
    let ev : bit_and v 0xfe00707f ≡ (v / 33554432) * 33554432 + (v / 4096 % 8) * 4096 + v % 128 = mask_funct7 v fits' in
    grind (arith, nat_tests)

agrees_all : (w v : ℕ) → w < 2 ^ 32 → nat_eq (bit_and w 0xffffffff) v ≡ agrees (w % 128) (w / 4096 % 8) (w / 33554432) w 0xffffffff v
agrees_all w v fits =
    let ew : bit_and w 0xffffffff ≡ w = mask_all w fits in
    grind (arith, nat_tests)

agrees_row : (w : ℕ) → w < 2 ^ 32 → (m v : ℕ) → bit_and v m ≡ v → v < 2 ^ 32
    → (nat_eq m 0x7f || nat_eq m 0x707f || nat_eq m 0xfe00707f || nat_eq m 0xffffffff) ≡ true
    → nat_eq (bit_and w m) v ≡ agrees (w % 128) (w / 4096 % 8) (w / 33554432) w m v
agrees_row w fits m v within fits' known =
    elim (or_cases _ _ known) [
      | inl a ↦ elim (or_cases _ _ a) [
        | inl b ↦ elim (or_cases _ _ b) [
          | inl d ↦ let e : m ≡ 0x7f = eqb-true _ _ d in
              subst (λ (x : ℕ). bit_and v x ≡ v → nat_eq (bit_and w x) v ≡ agrees (w % 128) (w / 4096 % 8) (w / 33554432) w x v) (sym e)
              (agrees_opcode w v) within
          | inr d ↦ let e : m ≡ 0x707f = eqb-true _ _ d in
              subst (λ (x : ℕ). bit_and v x ≡ v → nat_eq (bit_and w x) v ≡ agrees (w % 128) (w / 4096 % 8) (w / 33554432) w x v) (sym e)
              (agrees_funct3 w v) within
        ]
        | inr b ↦ let e : m ≡ 0xfe00707f = eqb-true _ _ b in
            subst (λ (x : ℕ). bit_and v x ≡ v → nat_eq (bit_and w x) v ≡ agrees (w % 128) (w / 4096 % 8) (w / 33554432) w x v) (sym e)
            (agrees_funct7 w v fits fits') within
      ]
      | inr a ↦ let e : m ≡ 0xffffffff = eqb-true _ _ a in
          subst (λ (x : ℕ). nat_eq (bit_and w x) v ≡ agrees (w % 128) (w / 4096 % 8) (w / 33554432) w x v) (sym e) (agrees_all w v fits)
    ]

-- the instruction of the first row that agrees
abbrev pub first_agreeing : ℕ → ℕ → ℕ → ℕ → List Row → Option Instr
first_agreeing opcode funct3 funct7 w [] = None
first_agreeing opcode funct3 funct7 w (r ∷ rs) =
    (if agrees opcode funct3 funct7 w r.mask r.value then Some (r.instr w) else first_agreeing opcode funct3 funct7 w rs)

agree_rows : (w : ℕ) → w < 2 ^ 32 → (rs : List Row) → list_all is_sound rs ≡ true
    → first_match w rs ≡ first_agreeing (w % 128) (w / 4096 % 8) (w / 33554432) w rs
agree_rows w fits [] sound = refl
agree_rows w fits (r ∷ rs) sound =
    let parts = and_parts (is_sound r) (list_all is_sound rs) sound in
    let one = and_parts _ _ parts.0 in
    let two = and_parts _ _ one.1 in
    let here : nat_eq (bit_and w r.mask) r.value ≡ agrees (w % 128) (w / 4096 % 8) (w / 33554432) w r.mask r.value =
    agrees_row w fits r.mask r.value (eqb-true _ _ one.0) (ltb-true _ _ two.0) two.1 in
    let rest : first_match w rs ≡ first_agreeing (w % 128) (w / 4096 % 8) (w / 33554432) w rs = agree_rows w fits rs parts.1 in
    rw (here, rest) refl

-- what a word is, by its opcode, funct3 and funct7
pub decoded_by_fields : (w : ℕ) → w < 2 ^ 32 → decoded w ≡ first_agreeing (w % 128) (w / 4096 % 8) (w / 33554432) w rows
unfolding decoded
decoded_by_fields w fits = agree_rows w fits rows refl

-- the same, where the opcode, funct3 and funct7 are known by other names
pub decoded_at : (w opcode funct3 funct7 : ℕ) → w < 2 ^ 32 → w % 128 ≡ opcode → w / 4096 % 8 ≡ funct3 → w / 33554432 ≡ funct7
    → first_agreeing opcode funct3 funct7 w rows ≡ decoded w
decoded_at w opcode funct3 funct7 fits a b d = rw (← a, ← b, ← d) (sym (decoded_by_fields w fits))

-- what the words of each opcode are
pub lui_rows : (w : ℕ) → w < 2 ^ 32 → w % 128 ≡ 0x37 → decoded w ≡ first_agreeing 0x37 (w / 4096 % 8) (w / 33554432) w rows
lui_rows w fits a = rw (decoded_by_fields w fits, a) refl

pub auipc_rows : (w : ℕ) → w < 2 ^ 32 → w % 128 ≡ 0x17 → decoded w ≡ first_agreeing 0x17 (w / 4096 % 8) (w / 33554432) w rows
auipc_rows w fits a = rw (decoded_by_fields w fits, a) refl

pub jump_rows : (w : ℕ) → w < 2 ^ 32 → w % 128 ≡ 0x6f → decoded w ≡ first_agreeing 0x6f (w / 4096 % 8) (w / 33554432) w rows
jump_rows w fits a = rw (decoded_by_fields w fits, a) refl

pub jump_register_rows : (w : ℕ) → w < 2 ^ 32 → w % 128 ≡ 0x67 → decoded w ≡ first_agreeing 0x67 (w / 4096 % 8) (w / 33554432) w rows
jump_register_rows w fits a = rw (decoded_by_fields w fits, a) refl

pub branch_rows : (w : ℕ) → w < 2 ^ 32 → w % 128 ≡ 0x63 → decoded w ≡ first_agreeing 0x63 (w / 4096 % 8) (w / 33554432) w rows
branch_rows w fits a = rw (decoded_by_fields w fits, a) refl

pub load_rows : (w : ℕ) → w < 2 ^ 32 → w % 128 ≡ 0x3 → decoded w ≡ first_agreeing 0x3 (w / 4096 % 8) (w / 33554432) w rows
load_rows w fits a = rw (decoded_by_fields w fits, a) refl

pub store_rows : (w : ℕ) → w < 2 ^ 32 → w % 128 ≡ 0x23 → decoded w ≡ first_agreeing 0x23 (w / 4096 % 8) (w / 33554432) w rows
store_rows w fits a = rw (decoded_by_fields w fits, a) refl

pub immediate_rows : (w : ℕ) → w < 2 ^ 32 → w % 128 ≡ 0x13 → decoded w ≡ first_agreeing 0x13 (w / 4096 % 8) (w / 33554432) w rows
immediate_rows w fits a = rw (decoded_by_fields w fits, a) refl

pub register_rows : (w : ℕ) → w < 2 ^ 32 → w % 128 ≡ 0x33 → decoded w ≡ first_agreeing 0x33 (w / 4096 % 8) (w / 33554432) w rows
register_rows w fits a = rw (decoded_by_fields w fits, a) refl

pub fence_rows : (w : ℕ) → w < 2 ^ 32 → w % 128 ≡ 0xf → decoded w ≡ first_agreeing 0xf (w / 4096 % 8) (w / 33554432) w rows
fence_rows w fits a = rw (decoded_by_fields w fits, a) refl

pub system_rows : (w : ℕ) → w < 2 ^ 32 → w % 128 ≡ 0x73 → decoded w ≡ first_agreeing 0x73 (w / 4096 % 8) (w / 33554432) w rows
system_rows w fits a = rw (decoded_by_fields w fits, a) refl

pub register_base_rows : (w : ℕ) → w < 2 ^ 32 → w % 128 ≡ 0x33 → w / 33554432 % 128 ≡ 0 → decoded w ≡ first_agreeing 0x33 (w / 4096 % 8) 0 w rows
register_base_rows w fits a b = let top : w / 33554432 ≡ 0 = omega arith in register_rows w fits a ∙ ap (λ f. first_agreeing 0x33 (w / 4096 % 8) f w rows) top

pub register_other_rows : (w : ℕ) → w < 2 ^ 32 → w % 128 ≡ 0x33 → w / 33554432 % 128 ≡ 32 → decoded w ≡ first_agreeing 0x33 (w / 4096 % 8) 32 w rows
register_other_rows w fits a b = let top : w / 33554432 ≡ 32 = omega arith in register_rows w fits a ∙ ap (λ f. first_agreeing 0x33 (w / 4096 % 8) f w rows) top

pub register_multiply_rows : (w : ℕ) → w < 2 ^ 32 → w % 128 ≡ 0x33 → w / 33554432 % 128 ≡ 1 → decoded w ≡ first_agreeing 0x33 (w / 4096 % 8) 1 w rows
register_multiply_rows w fits a b = let top : w / 33554432 ≡ 1 = omega arith in register_rows w fits a
    ∙ ap (λ f. first_agreeing 0x33 (w / 4096 % 8) f w rows) top

pub shift_right_rows : (w : ℕ) → w < 2 ^ 32 → w % 128 ≡ 0x13 → w / 4096 % 8 ≡ 5 → decoded w ≡ first_agreeing 0x13 5 (w / 33554432) w rows
shift_right_rows w fits a b = rw (decoded_by_fields w fits, a, b) refl

-- whether an opcode is of no row
abbrev pub is_no_opcode : ℕ → List Row → Bool
is_no_opcode opcode [] = true
is_no_opcode opcode (r ∷ rs) = not (nat_eq opcode (r.value % 128)) && is_no_opcode opcode rs

no_row : (opcode funct3 funct7 w : ℕ) (rs : List Row) → is_no_opcode opcode rs ≡ true → first_agreeing opcode funct3 funct7 w rs ≡ None
no_row opcode funct3 funct7 w [] e = refl
no_row opcode funct3 funct7 w (r ∷ rs) e =
    let parts = and_parts _ _ e in
    let other : nat_eq opcode (r.value % 128) ≡ false = not-true _ parts.0 in
    rw other (no_row opcode funct3 funct7 w rs parts.1)

-- a word of any other opcode is no instruction
pub other_rows : (w : ℕ) → w < 2 ^ 32 → (w % 128 ≡ 0x37 → ⊥) → (w % 128 ≡ 0x17 → ⊥) → (w % 128 ≡ 0x6f → ⊥) → (w % 128 ≡ 0x67 → ⊥) → (w % 128 ≡ 0x63 → ⊥)
    → (w % 128 ≡ 3 → ⊥) → (w % 128 ≡ 0x23 → ⊥) → (w % 128 ≡ 0x13 → ⊥) → (w % 128 ≡ 0x33 → ⊥) → (w % 128 ≡ 0x0f → ⊥) → (w % 128 ≡ 0x73 → ⊥) → decoded w ≡ None
other_rows w fits a b d e f g h i j k l =
    let none : is_no_opcode (w % 128) rows ≡ true = simp (
      ne_eqb _ _ a,
      ne_eqb _ _ b,
      ne_eqb _ _ d,
      ne_eqb _ _ e,
      ne_eqb _ _ f,
      ne_eqb _ _ g,
      ne_eqb _ _ h,
      ne_eqb _ _ i,
      ne_eqb _ _ j,
      ne_eqb _ _ k,
      ne_eqb _ _ l,
    ) in
    decoded_by_fields w fits ∙ no_row (w % 128) (w / 4096 % 8) (w / 33554432) w rows none

-- a word of the registers' opcode with any other funct7 is no instruction
pub register_none_rows : (w : ℕ) → w < 2 ^ 32 → w % 128 ≡ 0x33 → (w / 33554432 % 128 ≡ 0 → ⊥) → (w / 33554432 % 128 ≡ 1 → ⊥) → (w / 33554432 % 128 ≡ 32 → ⊥)
    → decoded w ≡ None
register_none_rows w fits a b d e =
    let b' : w / 33554432 ≡ 0 → ⊥ = λ h. b (omega arith) in
    let d' : w / 33554432 ≡ 1 → ⊥ = λ h. d (omega arith) in
    let e' : w / 33554432 ≡ 32 → ⊥ = λ h. e (omega arith) in
    register_rows w fits a ∙ simp (ne_eqb _ _ b', ne_eqb _ _ d', ne_eqb _ _ e', and-false)
