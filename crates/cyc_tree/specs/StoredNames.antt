-- View of code: how a pure tree is told apart from others: a map of each of its types to numbers and pairs, one to one. The toolchain asks for it where a value
-- that contracts see is a tree; no contract speaks of it. Each form is its number, and then its parts.
use Rattle.std.specs.Prelude.{◌≡◌, ℕ, false, List, Option, nat_eq, refl}
use Rattle.std.proofs.Common.{ap, subst, sym}
use Rattle.std.proofs.Math.Dec.{eqb_refl, T}
use base.Stored.{Gv, gnil, gnum, gcons, num}
use Rattle.std.specs.Coded.{Coded, code_by, coded×, coded_ℕ, coded_list, coded_option}
use Rattle.cyc_tree.specs.declared.expression.Operator.{Operator}
use Rattle.cyc_tree.specs.declared.expression.Operator.TheVariants.{BitOr, BitXor, BitAnd, Equal, NotEqual, Less, LessEqual, Greater, GreaterEqual, ShiftLeft}
use Rattle.cyc_tree.specs.declared.expression.Operator.TheVariants.{ShiftRight, Add, Subtract, Multiply, Divide, Remainder}
use Rattle.cyc_tree.specs.declared.expression.Prefix.{Prefix}
use Rattle.cyc_tree.specs.declared.expression.Prefix.TheVariants.{Negate, Not, Complement, Dereference, AddressOf}
use Rattle.cyc_tree.specs.declared.name.Sign.{Sign}
use Rattle.cyc_tree.specs.declared.name.Sign.TheVariants.{Nullable, NotNull, Fat}
use Rattle.cyc_tree.specs.Tree.{Name, RegionName, Base, Pointer, TypeName}

abbrev pub head : Gv → Gv
head gnil = gnil
head (gnum n) = gnil
head (gcons a b) = a

abbrev pub tail : Gv → Gv
tail gnil = gnil
tail (gnum n) = gnil
tail (gcons a b) = b

-- two forms of different numbers are not stored alike
pub apart : {A : Type 0} (x y : Gv) → x ≡ y → nat_eq (num (head x)) (num (head y)) ≡ false → A
apart x y p differ =
    let same : nat_eq (num (head x)) (num (head x)) ≡ false = subst (λ z. nat_eq (num (head x)) (num (head z)) ≡ false) (sym p) differ in
    absurd (subst T same (eqb_refl (num (head x))))

abbrev pub operator_number : Operator → ℕ
operator_number BitOr = 0
operator_number BitXor = 1
operator_number BitAnd = 2
operator_number Equal = 3
operator_number NotEqual = 4
operator_number Less = 5
operator_number LessEqual = 6
operator_number Greater = 7
operator_number GreaterEqual = 8
operator_number ShiftLeft = 9
operator_number ShiftRight = 10
operator_number Add = 11
operator_number Subtract = 12
operator_number Multiply = 13
operator_number Divide = 14
operator_number Remainder = 15

pub operator_inj : (x y : Operator) → gcons (gnum (operator_number x)) gnil ≡ gcons (gnum (operator_number y)) gnil → x ≡ y
operator_inj BitOr BitOr p = refl
operator_inj BitXor BitXor p = refl
operator_inj BitAnd BitAnd p = refl
operator_inj Equal Equal p = refl
operator_inj NotEqual NotEqual p = refl
operator_inj Less Less p = refl
operator_inj LessEqual LessEqual p = refl
operator_inj Greater Greater p = refl
operator_inj GreaterEqual GreaterEqual p = refl
operator_inj ShiftLeft ShiftLeft p = refl
operator_inj ShiftRight ShiftRight p = refl
operator_inj Add Add p = refl
operator_inj Subtract Subtract p = refl
operator_inj Multiply Multiply p = refl
operator_inj Divide Divide p = refl
operator_inj Remainder Remainder p = refl
operator_inj x y p = apart (gcons (gnum (operator_number x)) gnil) (gcons (gnum (operator_number y)) gnil) p refl

abbrev pub coded_operator : Coded Operator
coded_operator = record { code = λ x. gcons (gnum (operator_number x)) gnil; inj = operator_inj }

abbrev pub prefix_number : Prefix → ℕ
prefix_number Negate = 0
prefix_number Not = 1
prefix_number Complement = 2
prefix_number Dereference = 3
prefix_number AddressOf = 4

pub prefix_inj : (x y : Prefix) → gcons (gnum (prefix_number x)) gnil ≡ gcons (gnum (prefix_number y)) gnil → x ≡ y
prefix_inj Negate Negate p = refl
prefix_inj Not Not p = refl
prefix_inj Complement Complement p = refl
prefix_inj Dereference Dereference p = refl
prefix_inj AddressOf AddressOf p = refl
prefix_inj x y p = apart (gcons (gnum (prefix_number x)) gnil) (gcons (gnum (prefix_number y)) gnil) p refl

abbrev pub coded_prefix : Coded Prefix
coded_prefix = record { code = λ x. gcons (gnum (prefix_number x)) gnil; inj = prefix_inj }

abbrev pub sign_code : Sign → Gv
sign_code (Nullable count) = gcons (gnum 0) (coded_ℕ.code count)
sign_code (NotNull count) = gcons (gnum 1) (coded_ℕ.code count)
sign_code Fat = gcons (gnum 2) gnil

pub sign_inj : (x y : Sign) → sign_code x ≡ sign_code y → x ≡ y
sign_inj (Nullable m) (Nullable n) p = λ i. Nullable (coded_ℕ.inj m n (ap (λ g. tail g) p) i)
sign_inj (NotNull m) (NotNull n) p = λ i. NotNull (coded_ℕ.inj m n (ap (λ g. tail g) p) i)
sign_inj Fat Fat p = refl
sign_inj x y p = apart (sign_code x) (sign_code y) p refl

abbrev pub coded_sign : Coded Sign
coded_sign = record { code = sign_code; inj = sign_inj }

abbrev pub coded_name : Coded Name
coded_name =
    code_by (ℕ × (List ℕ)) (coded× coded_ℕ (coded_list coded_ℕ)) (λ r. (r.at, r.text))
    (λ p. record { at = p.0; text = p.1 }) (λ _. refl)

abbrev pub region_name_code : RegionName → Gv
region_name_code (RegionName.Heap x1) = gcons (gnum 0) (coded_ℕ.code x1)
region_name_code (RegionName.Unique x1) = gcons (gnum 1) (coded_ℕ.code x1)
region_name_code (RegionName.Named x1) = gcons (gnum 2) (coded_name.code x1)

pub region_name_inj : (x y : RegionName) → region_name_code x ≡ region_name_code y → x ≡ y
region_name_inj (RegionName.Heap x1) (RegionName.Heap y1) p = λ i. RegionName.Heap (coded_ℕ.inj x1 y1 (ap (λ g. tail g) p) i)
region_name_inj (RegionName.Unique x1) (RegionName.Unique y1) p = λ i. RegionName.Unique (coded_ℕ.inj x1 y1 (ap (λ g. tail g) p) i)
region_name_inj (RegionName.Named x1) (RegionName.Named y1) p = λ i. RegionName.Named (coded_name.inj x1 y1 (ap (λ g. tail g) p) i)
region_name_inj x y p = apart (region_name_code x) (region_name_code y) p refl

abbrev pub coded_region_name : Coded RegionName
coded_region_name = record { code = region_name_code; inj = region_name_inj }

abbrev pub base_code : Base → Gv
base_code Base.Int = gcons (gnum 0) gnil
base_code Base.Unsigned = gcons (gnum 1) gnil
base_code Base.Char = gcons (gnum 2) gnil
base_code Base.Void = gcons (gnum 3) gnil
base_code (Base.Struct x1 x2) = gcons (gnum 4) (gcons (coded_name.code x1) ((coded_list coded_region_name).code x2))
base_code (Base.Union x1 x2) = gcons (gnum 5) (gcons (coded_name.code x1) ((coded_list coded_region_name).code x2))
base_code (Base.Handle x1) = gcons (gnum 6) (coded_region_name.code x1)
base_code (Base.Key x1) = gcons (gnum 7) (coded_region_name.code x1)

pub base_inj : (x y : Base) → base_code x ≡ base_code y → x ≡ y
base_inj Base.Int Base.Int p = refl
base_inj Base.Unsigned Base.Unsigned p = refl
base_inj Base.Char Base.Char p = refl
base_inj Base.Void Base.Void p = refl
base_inj (Base.Struct x1 x2) (Base.Struct y1 y2) p = λ i. Base.Struct (coded_name.inj x1 y1 (ap (λ g. head (tail g)) p) i)
    ((coded_list coded_region_name).inj x2 y2 (ap (λ g. tail (tail g)) p) i)
base_inj (Base.Union x1 x2) (Base.Union y1 y2) p = λ i. Base.Union (coded_name.inj x1 y1 (ap (λ g. head (tail g)) p) i)
    ((coded_list coded_region_name).inj x2 y2 (ap (λ g. tail (tail g)) p) i)
base_inj (Base.Handle x1) (Base.Handle y1) p = λ i. Base.Handle (coded_region_name.inj x1 y1 (ap (λ g. tail g) p) i)
base_inj (Base.Key x1) (Base.Key y1) p = λ i. Base.Key (coded_region_name.inj x1 y1 (ap (λ g. tail g) p) i)
base_inj x y p = apart (base_code x) (base_code y) p refl

abbrev pub coded_base : Coded Base
coded_base = record { code = base_code; inj = base_inj }

abbrev pub coded_pointer : Coded Pointer
coded_pointer =
    code_by (Sign × (Option RegionName)) (coded× coded_sign (coded_option coded_region_name)) (λ r. (r.sign, r.region))
    (λ p. record { sign = p.0; region = p.1 }) (λ _. refl)

abbrev pub coded_type_name : Coded TypeName
coded_type_name =
    code_by (ℕ × (Base × (List Pointer))) (coded× coded_ℕ (coded× coded_base (coded_list coded_pointer))) (λ r. (r.at, (r.base, r.pointers)))
    (λ p. record { at = p.0; base = p.1.0; pointers = p.1.1 }) (λ _. refl)
