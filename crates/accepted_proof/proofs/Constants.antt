-- The constant of a global without fault: a number, where it is an integer, and `NULL` or a string, where it is a pointer.
use Rattle.std.proofs.Common.{◌≡◌, ℕ, ◌<◌, ◌%◌, ◌^◌, Bool, true, false, List, [], refl, sym, ap, subst}
use Rattle.std.specs.Prelude.{◌+◌, ◌++◌, length, nat_le, nat_lt}
use Rattle.cyc_tree.specs.Tree.{Constant, Initial}
use Rattle.cyc_words.specs.Words.{difference_of}
use Rattle.source_lowering.specs.Lowerable.{HasBeginning, TakesGlobal}
use Rattle.source_lowering.specs.Taken.{IsIntegerShape, TakesConstant}
use Rattle.std.proofs.lemmas.Bool.{leb-true}
use Rattle.source_meaning.specs.Shapes.{count_of}
use Rattle.source_typing.specs.Faults.{test, type_rule}
use Rattle.source_typing.specs.Globals.{string_faults}
use Rattle.source_typing.proofs.Inversion.{none_of_both, test_is}
use Rattle.source_meaning.specs.Shapes.{MayBeNull, NeverNull, Reach}
use Rattle.source_meaning.specs.Calls.{number_type}
use Rattle.source_meaning.specs.Memory.{AsChar, AsInt, AsUnsigned, IntegerType}
use Rattle.type_proof.specs.Entries.{IsObjectType}
use Rattle.type_proof.specs.Programs.{InitialJudged, IsFirst, IsNumber}
use Rattle.source_typing.specs.Conversions.{broken, conversion, if_integer}
use Rattle.source_typing.specs.Globals.{constant, initial_faults}
use Rattle.source_typing.specs.Declarations.{converted_to}
use Rattle.source_typing.specs.Converts.{Converts, FatToThin, Fats, Integers, IsInteger, NullToFat, NullToThin, NullToUnique, Same, ThinToFat, Thins, Uniques}
use Rattle.source_typing.specs.Operators.{string_sized}
use Rattle.source_typing.specs.Regions.{Region, Regions, TheHeap}
use Rattle.source_typing.specs.Scope.{Env, value}
use Rattle.source_typing.specs.Types.{Fat, Handle, Char, Int, Key, Null, StaticType, Struct, Thin, Union, Unique, Unsigned, integer_type, is_integer, shape_of}
use Rattle.source_typing.specs.Verdicts.{Of, faults_of}
use Rattle.source_typing.proofs.Converting.{broken_is, conversion_is}

-- what the meaning and lowering want of a first value
pub record ConstantGood (u : StaticType) (c : Constant) : Type 0 where
  pub first : IsFirst u c
  pub taken : HasBeginning (shape_of u) → TakesConstant (shape_of u) c

-- ---- numbers

if_broken : (at : ℕ) (b : Bool) → broken at (if_integer b) ≡ [] → b ≡ true
if_broken at true e = refl
if_broken at false e = absurd cc

-- an integer converts to integers alone
from_integer : (r : Regions) (k : IntegerType) (at : ℕ) (u : StaticType) → broken at (conversion r (integer_type k) u) ≡ [] → IsInteger u
from_integer r AsInt at u e = if_broken at (is_integer u) e
from_integer r AsUnsigned at u e = if_broken at (is_integer u) e
from_integer r AsChar at u e = if_broken at (is_integer u) e

number_first : (u : StaticType) (c : Constant) → IsInteger u → IsNumber c → IsFirst u c
number_first Int c h n = n
number_first Unsigned c h n = n
number_first Char c h n = n
number_first _ c h n = absurd cc

integer_shape : (u : StaticType) → IsInteger u → IsIntegerShape (shape_of u)
integer_shape Int h = tt
integer_shape Unsigned h = tt
integer_shape Char h = tt
integer_shape _ h = absurd cc

-- ---- `NULL`

null_good : (r : Regions) (at place : ℕ) (u : StaticType) → IsObjectType u → broken at (conversion r Null u) ≡ [] → ConstantGood u (Constant.Null place)
null_good r at place (Thin (MayBeNull count) q t) w e = record { first = tt; taken = λ b. tt }
null_good r at place (Thin (NeverNull count) q t) w e = absurd cc
null_good r at place (Unique true t) w e = record { first = tt; taken = λ b. tt }
null_good r at place (Unique false t) w e = absurd cc
null_good r at place (Fat q t) w e = record { first = tt; taken = λ b. tt }
null_good r at place Int w e = absurd cc
null_good r at place Unsigned w e = absurd cc
null_good r at place Char w e = absurd cc
null_good r at place (Struct tag rs) w e = absurd cc
null_good r at place (Union tag rs) w e = absurd cc
null_good r at place (Handle q) w e = absurd cc
null_good r at place (Key q) w e = absurd cc
null_good r at place _ w e = absurd w

-- ---- strings

-- a string converts to pointers to chars
text_first : (r : Regions) (t : StaticType) (place : ℕ) (bytes : List ℕ) (u : StaticType) → IsObjectType u → t ≡ Fat TheHeap Char → Converts r t u
    → string_faults (value place t) (Constant.Text place bytes) (Of u) ≡ []
    → ConstantGood u (Constant.Text place bytes)
text_first r t place bytes u w h Same f =
    subst (λ (y : StaticType). ConstantGood y (Constant.Text place bytes)) (sym h) (record { first = refl; taken = λ b. tt })
text_first r t place bytes u w h (Fats {b = q} {t = s} o) f =
    let c : s ≡ Char = cc in
    subst (λ (y : StaticType). ConstantGood (Fat q y) (Constant.Text place bytes)) (sym c) (record { first = refl; taken = λ b. tt })
text_first r t place bytes u w h (FatToThin {n = z} {b = q} {t = s} o) f =
    let c : s ≡ Char = cc in
    subst (λ (y : StaticType). ConstantGood (Thin z q y) (Constant.Text place bytes)) (sym c) (record { first = refl; taken = thin_taken z q f })
  where
    thin_taken : (z : Reach) (q : Region) → test (nat_le (count_of z) (length bytes + 1)) type_rule place ≡ [] → HasBeginning (shape_of (Thin z q Char))
        → TakesConstant (shape_of (Thin z q Char)) (Constant.Text place bytes)
    thin_taken (MayBeNull count) q e b =
        leb-true (count % 2 ^ 32) (length bytes + 1) (test_is (nat_le (count % 2 ^ 32) (length bytes + 1)) type_rule place e)
    thin_taken (NeverNull count) q e b = absurd b
text_first r t place bytes u w h (Integers a c) f = absurd (let q = ap is_integer h in cc)
text_first r t place bytes u w h NullToThin f = absurd cc
text_first r t place bytes u w h NullToFat f = absurd cc
text_first r t place bytes u w h NullToUnique f = absurd cc
text_first r t place bytes u w h (Thins few o) f = absurd cc
text_first r t place bytes u w h (ThinToFat o) f = absurd cc
text_first r t place bytes u w h Uniques f = absurd cc

text_good : (g : Env) (at : ℕ) (bytes : List ℕ) (u : StaticType) (b : Bool) → IsObjectType u
    → faults_of (string_sized b at) ++ converted_to g (string_sized b at) (Of u) ≡ []
    → string_faults (string_sized b at) (Constant.Text at bytes) (Of u) ≡ [] → ConstantGood u (Constant.Text at bytes)
text_good g at bytes u true w e f =
    text_first g.regions (Fat TheHeap Char) at bytes u w refl
    (conversion_is g.regions (Fat TheHeap Char) u (broken_is at (conversion g.regions (Fat TheHeap Char) u) e)) f
text_good g at bytes u false w e f = absurd cc

-- ---- all of them

constant_good : (g : Env) (c : Constant) (u : StaticType) → IsObjectType u → faults_of (constant c) ++ converted_to g (constant c) (Of u) ≡ []
    → string_faults (constant c) c (Of u) ≡ [] → ConstantGood u c
constant_good g (Constant.Number at n suffix) u w e f =
    let i : IsInteger u = from_integer g.regions (number_type n suffix) at u e in
    record {
      first = number_first u (Constant.Number at n suffix) i (record { of = number_type n suffix; word = n % 2 ^ 32; gives = λ strings. refl });
      taken = λ b. integer_shape u i;
    }
constant_good g (Constant.Negative at n suffix) u w e f =
    let i : IsInteger u = from_integer g.regions (number_type n suffix) at u e in
    record {
      first = number_first u (Constant.Negative at n suffix) i
          (record { of = number_type n suffix; word = difference_of 0 (n % 2 ^ 32); gives = λ strings. refl });
      taken = λ b. integer_shape u i;
    }
constant_good g (Constant.Character at byte) u w e f =
    let i : IsInteger u = from_integer g.regions AsChar at u e in
    record {
      first = number_first u (Constant.Character at byte) i (record { of = AsChar; word = byte % 256; gives = λ strings. refl });
      taken = λ b. integer_shape u i;
    }
constant_good g (Constant.Text at bytes) u w e f = text_good g at bytes u (nat_lt (length bytes) 4096) w e f
constant_good g (Constant.Null at) u w e f = null_good g.regions at at u w e

-- ---- initializers

-- where a global has elements, they are few
abbrev pub IsFew : Initial → Type 0
IsFew Initial.Unset = Unit {0}
IsFew (Initial.Elements n) = n < 2 ^ 32
IsFew (Initial.Given c) = Unit {0}

pub record InitialGood (u : StaticType) (i : Initial) : Type 0 where
  pub first : InitialJudged u i
  pub taken : HasBeginning (shape_of u) → IsFew i → TakesGlobal (shape_of u) i

pub initial_good : (g : Env) (i : Initial) (u : StaticType) → IsObjectType u → initial_faults g i (Of u) ≡ []
    → InitialGood u i
initial_good g Initial.Unset u w e = record { first = tt; taken = λ h few. h }
initial_good g (Initial.Elements n) u w e = record { first = tt; taken = λ h few. (few, h) }
initial_good g (Initial.Given c) u w e =
    let q = none_of_both (faults_of (constant c) ++ converted_to g (constant c) (Of u)) (string_faults (constant c) c (Of u)) e in
    let k : ConstantGood u c = constant_good g c u w q.0 q.1 in record { first = k.first; taken = λ h few. k.taken h }
