-- One lemma a form: constants, operators, conversions, assignments.
use Rattle.std.proofs.Common.{◌≡◌, ℕ, ◌+◌, ◌%◌, ◌^◌, ◌<◌, ◌≤◌, List, [], ◌∷◌, ◌++◌, Bool, true, false, nat_lt, refl, sym, ap, ◌∙◌, subst, arith}
use Rattle.std.specs.Prelude.{if◌then◌else◌}
use Rattle.cyc_tree.specs.declared.expression.Operator.{Operator}
use Rattle.cyc_tree.specs.declared.expression.Operator.TheVariants as operator
use Rattle.std.proofs.lemmas.Bool.{false≢true}
use Rattle.source_meaning.specs.Shapes.{
  Shared,
  Alone,
  Unsaid,
  Shape,
  IntShape,
  UnsignedShape,
  CharShape,
  VoidShape,
  ThinShape,
  FatShape,
  HandleShape,
  KeyShape,
  StructShape,
  UnionShape,
  ArrayShape,
}
use Rattle.source_meaning.specs.Memory as source
use Rattle.source_meaning.specs.Memory.{IntegerType, AsInt, AsUnsigned, AsChar, Scalar, Integer}
use Rattle.source_meaning.specs.Steps as steps
use Rattle.source_meaning.specs.Steps.{give, need}
use Rattle.source_meaning.specs.Operators as operators
use Rattle.source_meaning.specs.Operators.{operator_shape, common_shape, promoted_shape}
use Rattle.source_meaning.specs.Conversions.{one, converted}
use Rattle.source_meaning.specs.Values.{write_cells}
use Rattle.source_meaning.specs.Places.{Sense, value_sense, given_by, assigned}
use Rattle.source_meaning.specs.Calls.{constant, number_type, applied}
use Rattle.source_meaning.specs.Programs.{integer_shape}
use Rattle.core_meaning.specs.Memory.{Word}
use Rattle.core_meaning.specs.Core.{Statement, Statements, Do, Constant}
use Rattle.core_meaning.specs.Steps.{Config}
use Rattle.core_meaning.specs.Meaning as meaning
use Rattle.source_lowering.specs.Lowered.{put, operator_code, conversion_code}
use Rattle.source_lowering.specs.Lowerable.{IsGivenShape, IsOperandShape}
use Rattle.source_lowering.specs.Simulation.{Point, SameState, Next, Shown, SameAt, GivesAs, within, contents_in}
use Rattle.source_lowering.proofs.memory.Keeping.{later_self, later_on, shown_later}
use Rattle.source_lowering.proofs.Runs.{put_all}
use Rattle.source_lowering.proofs.values.Integers.{IsTaken, limit, word_given, integer_one}
use Rattle.source_lowering.proofs.values.AnyValues.{value_same}
use Rattle.source_lowering.proofs.expressions.Operands.{operands_same}
use Rattle.source_lowering.proofs.values.Operators.{modulo_small}
use Rattle.source_lowering.proofs.values.Values.{put_value, put_three, kept_contents, over}
use Rattle.source_lowering.proofs.values.Conversions.{converted_gives}
use Rattle.source_lowering.specs.Members.{words_in}
use Rattle.source_lowering.proofs.expressions.Variables.{Agrees, StoresAs, StoredOn}

-- ---- constants

pub constant_gives : (p : Point) (n d : ℕ) (t : IntegerType) (v value : ℕ) → value % 2 ^ 32 ≡ v → v < limit t
    → GivesAs p n d (integer_shape t) (give (Integer t v ∷ [])) (Do (Constant d value) ∷ [])
constant_gives p n d t v value e small = record {
  same = λ m c s rest next fits goes.
      put_value p n d m c m c (integer_shape t) (Integer t v ∷ []) (Word (value % 2 ^ 32)) s (meaning.statements rest next) fits
      (later_self (within p) m c.memory) (λ k h. refl) (integer_one t)
      (word_given p.world m c.memory t v (Word (value % 2 ^ 32)) small (ap (λ z. Word z) e)) goes;
}

pub int_agrees : (p : Point) (n d value : ℕ) → Agrees p n d (constant AsInt value) IntShape (Do (Constant d value) ∷ [])
int_agrees p n d value =
    let one = constant_gives p n d AsInt (value % 2 ^ 32) value refl (modulo_small value) in
    record { shape_is = refl; taken = tt; looks = one; values = one }

pub unsigned_agrees : (p : Point) (n d value : ℕ) → Agrees p n d (constant AsUnsigned value) UnsignedShape (Do (Constant d value) ∷ [])
unsigned_agrees p n d value =
    let one = constant_gives p n d AsUnsigned (value % 2 ^ 32) value refl (modulo_small value) in
    record { shape_is = refl; taken = tt; looks = one; values = one }

pub number_agrees : (p : Point) (n d value : ℕ) (suffix : Bool) → Agrees p n d (constant (number_type value suffix) value)
    (integer_shape (number_type value suffix)) (Do (Constant d value) ∷ [])
number_agrees p n d value true = unsigned_agrees p n d value
number_agrees p n d value false = by (nat_lt value (2 ^ 31))
  where
    by : (b : Bool) → Agrees p n d (constant (if b then AsInt else AsUnsigned) value) (integer_shape (if b then AsInt else AsUnsigned))
        (Do (Constant d value) ∷ [])
    by true = int_agrees p n d value
    by false = unsigned_agrees p n d value

pub character_agrees : (p : Point) (n d byte : ℕ) → Agrees p n d (constant AsChar byte) CharShape (Do (Constant d (byte % 256)) ∷ [])
character_agrees p n d byte =
    let one = constant_gives p n d AsChar (byte % 256) (byte % 256) (omega arith) (omega arith) in
    record { shape_is = refl; taken = tt; looks = one; values = one }

-- ---- binary operators

promoted_taken : (s : Shape) → IsTaken (promoted_shape s)
promoted_taken IntShape = tt
promoted_taken UnsignedShape = tt
promoted_taken CharShape = tt
promoted_taken VoidShape = tt
promoted_taken (ThinShape may_be_null owner to) = tt
promoted_taken (FatShape to) = tt
promoted_taken HandleShape = tt
promoted_taken KeyShape = tt
promoted_taken (StructShape tag) = tt
promoted_taken (UnionShape tag) = tt
promoted_taken (ArrayShape count of) = tt

common_taken : (s t : Shape) → IsTaken s → IsTaken (common_shape s t)
common_taken IntShape t h = promoted_taken t
common_taken UnsignedShape t h = tt
common_taken CharShape t h = promoted_taken t
common_taken VoidShape t h = promoted_taken t
common_taken (ThinShape may_be_null owner to) t h = promoted_taken t
common_taken (FatShape to) t h = h
common_taken HandleShape t h = promoted_taken t
common_taken KeyShape t h = promoted_taken t
common_taken (StructShape tag) t h = absurd h
common_taken (UnionShape tag) t h = absurd h
common_taken (ArrayShape count of) t h = absurd h

pub operator_taken : (o : Operator) (s t : Shape) → IsTaken s → IsTaken (operator_shape o s t)
operator_taken operator.BitOr s t h = common_taken s t h
operator_taken operator.BitXor s t h = common_taken s t h
operator_taken operator.BitAnd s t h = common_taken s t h
operator_taken operator.Equal s t h = tt
operator_taken operator.NotEqual s t h = tt
operator_taken operator.Less s t h = tt
operator_taken operator.LessEqual s t h = tt
operator_taken operator.Greater s t h = tt
operator_taken operator.GreaterEqual s t h = tt
operator_taken operator.ShiftLeft s t h = promoted_taken s
operator_taken operator.ShiftRight s t h = promoted_taken s
operator_taken operator.Add s t h = common_taken s t h
operator_taken operator.Subtract s t h = common_taken s t h
operator_taken operator.Multiply s t h = common_taken s t h
operator_taken operator.Divide s t h = common_taken s t h
operator_taken operator.Remainder s t h = common_taken s t h

-- the left operand's value stays in its temporaries
pub applied_gives : (p : Point) (n d : ℕ) (o : Operator) (a b : Sense) (sa sb : Shape) (ca cb : List Statement) → IsTaken sa → IsTaken sb
    → GivesAs p n d sa a.look ca → GivesAs p n (d + words_in sa) sb b.look cb → GivesAs p n d (operator_shape o sa sb) (applied o a b).look
    (ca ++ (cb ++ operator_code o sa sb d))
applied_gives p n d o a b sa sb ca cb taken1 taken2 left right = record {
  same = λ m c s rest next fits goes.
      subst (λ z. SameAt p n ((applied o a b).look s m) (meaning.statements z next c)) (sym (put_three ca cb (operator_code o sa sb d) rest))
      (left.same m c (λ vs. first s vs) (put cb (put (operator_code o sa sb d) rest)) next fits (record {
        above = over goes.above (omega arith);
        go = λ m1 c1 vs1 fits1 later1 kept1 given1.
            value_same p.world p.program n sa m1 c1.memory vs1 (contents_in d sa c1.temps) (λ x. b.look (λ ys. second s x ys)) _ given1
            (λ u shown1.
            right.same m1 c1 (λ ys. second s u ys) (put (operator_code o sa sb d) rest) next fits1 (record {
              above = over goes.above (omega arith);
              go = λ m2 c2 vs2 fits2 later2 kept2 given2.
                  value_same p.world p.program n sb m2 c2.memory vs2 (contents_in (d + words_in sa) sb c2.temps) (λ y. third s u y) _ given2
                  (λ v shown2.
                  operands_same p n d o sa sb u v m c m2 c2 s rest next taken1 taken2
                  (subst (λ z. Shown p.world m2 c2.memory sa u z) (sym (kept_contents sa d c1 c2 kept2))
                  (shown_later (within p) p.world m1 m2 c1.memory c2.memory sa u (contents_in d sa c1.temps) later2 shown1)) shown2 fits2
                  (later_on (within p) m m1 m2 c.memory c1.memory c2.memory later1 later2) (λ k h. kept2 k (omega (arith, h)) ∙ kept1 k h) goes);
            }));
      }));
}
  where
    third : (List Scalar → source.Memory → steps.Step) → Scalar → Scalar → source.Memory → steps.Step
    third s x y = λ m. need (operators.operated m o x y) (λ r. s (r ∷ [])) m

    second : (List Scalar → source.Memory → steps.Step) → Scalar → List Scalar → source.Memory → steps.Step
    second s x ys = one ys (λ y. third s x y)

    first : (List Scalar → source.Memory → steps.Step) → List Scalar → source.Memory → steps.Step
    first s vs = one vs (λ x. b.look (λ ys. second s x ys))

-- an operator's value is no place: looked at as it is given away
pub value_agrees : (p : Point) (n d : ℕ) (shape of : Shape) (act : steps.Act (List Scalar)) (code : List Statement) → shape ≡ of → IsTaken of
    → GivesAs p n d of act code → Agrees p n d (value_sense shape act) of code
value_agrees p n d shape of act code same taken gives = record { shape_is = same; taken = taken; looks = gives; values = gives }

pub applied_agrees : (p : Point) (n d : ℕ) (o : Operator) (a b : Sense) (sa sb : Shape) (ca cb : List Statement) → Agrees p n d a sa ca
    → Agrees p n (d + words_in sa) b sb cb → Agrees p n d (applied o a b) (operator_shape o sa sb) (ca ++ (cb ++ operator_code o sa sb d))
applied_agrees p n d o a b sa sb ca cb x y =
    value_agrees p n d (operator_shape o a.shape b.shape) (operator_shape o sa sb) (applied o a b).look (ca ++ (cb ++ operator_code o sa sb d))
    (ap (λ z. operator_shape o z b.shape) x.shape_is ∙ ap (λ z. operator_shape o sa z) y.shape_is) (operator_taken o sa sb x.taken)
    (applied_gives p n d o a b sa sb ca cb x.taken y.taken x.looks y.looks)

-- ---- assignments

-- a value is evaluated, converted and stored
pub assigned_stores : (p : Point) (n d : ℕ) (to from : Sense) (shape of : Shape) (code stores : List Statement) → to.shape ≡ shape → IsTaken shape
    → StoresAs p n d shape to.place stores → Agrees p n d from of code → (m : source.Memory) (c : Config)
    (s : List Scalar → source.Memory → steps.Step) (rest : Statements) (next : Next) → SameState p m c → p.regions.all ≤ d
    → ((us : List Scalar) → StoredOn p n d m c shape us s (meaning.statements rest next))
    → SameAt p n ((assigned p.world to from).value s m) (meaning.statements (put (code ++ (conversion_code p.world shape of d ++ stores)) rest) next c)
assigned_stores p n d to from shape of code stores same taken place one m c s rest next fits above goes =
    subst (λ z. SameAt p n (from.value (λ vs. converted p.world z from.shape vs (λ us. to.place (λ t. write_cells t us (λ u. s (given_by z us))))) m)
    (meaning.statements (put (code ++ (conversion_code p.world shape of d ++ stores)) rest) next c)) (sym same)
    (subst (λ z. SameAt p n (from.value (λ vs. converted p.world shape from.shape vs (λ us. to.place (λ t. write_cells t us
    (λ u. s (given_by shape us)))))
    m) (meaning.statements z next c))
    (sym (put_three code (conversion_code p.world shape of d) stores rest ∙ sym (put_all code (conversion_code p.world shape of d) (put stores rest))))
    ((converted_gives p n d shape from of code taken one).same m c (λ us. to.place (λ t. write_cells t us (λ u. s (given_by shape us)))) (put stores rest)
    next fits (record {
      above = above;
      go = λ m1 c1 us fits1 later1 kept1 given1. place.same m c m1 c1 us s rest next fits1 later1 kept1 given1 (goes us);
    })))

-- what is stored is given
given_all : (s : Shape) → IsGivenShape s → (vs : List Scalar) → given_by s vs ≡ vs
given_all IntShape h vs = refl
given_all UnsignedShape h vs = refl
given_all CharShape h vs = refl
given_all VoidShape h vs = refl
given_all (ThinShape b Shared to) h vs = refl
given_all (ThinShape b Unsaid to) h vs = refl
given_all (ThinShape b Alone to) h vs = absurd (false≢true (sym h))
given_all (FatShape to) h vs = refl
given_all HandleShape h vs = refl
given_all KeyShape h vs = absurd h
given_all (StructShape tag) h vs = absurd h
given_all (UnionShape tag) h vs = absurd h
given_all (ArrayShape count of) h vs = refl

pub given_single : (s : Shape) → IsGivenShape s → IsOperandShape s
given_single (StructShape tag) h = h
given_single (UnionShape tag) h = h
given_single _ h = tt

pub assigned_agrees : (p : Point) (n d : ℕ) (to from : Sense) (shape of : Shape) (code stores : List Statement) → to.shape ≡ shape → IsTaken shape
    → IsGivenShape shape → StoresAs p n d shape to.place stores → Agrees p n d from of code → Agrees p n d (assigned p.world to from) shape
    (code ++ (conversion_code p.world shape of d ++ stores))
assigned_agrees p n d to from shape of code stores same taken is_given place one = value_agrees p n d to.shape shape (assigned p.world to from).value
    (code ++ (conversion_code p.world shape of d ++ stores)) same taken (record {
      same = λ m c s rest next fits goes.
          assigned_stores p n d to from shape of code stores same taken place one m c s rest next fits goes.above (λ us. record {
            above = goes.above;
            go = λ m1 c1 fits1 later1 kept1 given1.
                subst (λ z. SameAt p n (s z m1) (meaning.statements rest next c1)) (sym (given_all shape is_given us))
                (goes.go m1 c1 us fits1 later1 kept1 given1);
          });
    })
