-- A fat pointer is moved, and its elements are counted.
use Rattle.std.proofs.Common.{◌≡◌, ⊎_elim, inl, inr, ℕ, ◌+◌, ◌-◌, ◌^◌, ◌<◌, ◌≤◌, List, [], ◌∷◌, ◌++◌, length, Bool, true, false, refl, sym, ap, ◌∙◌, subst}
use Rattle.std.proofs.Common.{arith}
use Rattle.std.specs.Prelude.{nat_lt}
use Rattle.std.proofs.lemmas.Bool.Decides.{nat_tests}
use Rattle.cyc_words.specs.Words.{sum_of, difference_of, product_of}
use Rattle.std.specs.Prelude.{◌-◌}
use Rattle.source_meaning.specs.Shapes.{Shape, UnsignedShape, FatShape}
use Rattle.source_meaning.specs.Memory as source
use Rattle.source_meaning.specs.Memory.{AsUnsigned, Integer, Scalar, Wide, Spot}
use Rattle.source_meaning.specs.Steps as steps
use Rattle.source_meaning.specs.Steps.{World, give, ◌>>=◌}
use Rattle.source_meaning.specs.Conversions.{cells_of, size_of, one, accessed}
use Rattle.source_meaning.specs.Operators.{with_index}
use Rattle.source_meaning.specs.Calls.{elements_left}
use Rattle.core_meaning.specs.Memory as core
use Rattle.core_meaning.specs.Memory.{Content, Word, Null, Pointer}
use Rattle.core_meaning.specs.Core.{Binary, Add, Subtract, Multiply, LessUnsigned, Apply, Do, Statement, Statements}
use Rattle.core_meaning.specs.Words as words
use Rattle.core_meaning.specs.Steps as core_steps
use Rattle.core_meaning.specs.Steps.{Config, with_temp}
use Rattle.core_meaning.specs.Operations.{does}
use Rattle.core_meaning.specs.Meaning as meaning
use Rattle.source_lowering.specs.Members.{element_code, index_code}
use Rattle.source_lowering.specs.Lowered.{put, count_code}
use Rattle.source_lowering.specs.Simulation.{at, AFatNull, AFat, Shown, Point, SameState, SameAt, Next, AreKept, GrownAt, GoesOn, GivesAs, contents_in}
use Rattle.source_lowering.proofs.Runs.{put_all}
use Rattle.source_lowering.proofs.values.Integers.{word_given}
use Rattle.source_lowering.proofs.values.Operators.{modulo_small}
use Rattle.source_lowering.proofs.values.Values.{put_temp, other_temp, kept_temp, temp_fits, put_value, over}
use Rattle.source_lowering.proofs.memory.Loading.{after_temp}
use Rattle.source_lowering.proofs.values.Tests.{two_words}
use Rattle.source_lowering.proofs.expressions.Elements.{AreThree, three_are, these_three, head_in, second_in, third_in, ElementGoesOn, element_same}
use Rattle.source_lowering.proofs.values.FatConversions.{fat_value}

-- ---- what stands for a fat pointer

-- its count and its index
pub record FatWords (y z : Content) : Type 0 where
  pub count : ℕ
  pub index : ℕ
  pub count_is : y ≡ Word count
  pub index_is : z ≡ Word index
  pub few : count < 2 ^ 32
  pub small : index < 2 ^ 32

pub fat_words : (w : World) (m : source.Memory) (c : core.Memory) (to : Shape) (v : Scalar) (x y z : Content)
    → Shown w m c (FatShape to) v (x ∷ y ∷ z ∷ []) → FatWords y z
fat_words w m c to v x y z shown =
    ⊎_elim
    (λ (n : AFatNull v (x ∷ y ∷ z ∷ [])). record {
      count = 0;
      index = n.word;
      count_is = ap second_in n.shown;
      index_is = ap third_in n.shown;
      few = omega arith;
      small = n.small;
    })
    (λ (f : AFat w m c to (size_of w to) v (x ∷ y ∷ z ∷ [])). record {
      count = f.span.count;
      index = f.span.index;
      count_is = ap second_in f.shown;
      index_is = ap third_in f.shown;
      few = f.few;
      small = f.small;
    }) shown

-- ---- the index is changed

abbrev pub moved_value : Scalar → (ℕ → ℕ) → Scalar
moved_value (Wide q) f = Wide (with_index q f)
moved_value v f = v

abbrev word_in : Content → ℕ
word_in (Word n) = n
word_in _ = 0

-- a fat pointer with another index is one: nothing is said of where that leads
pub moved_shown : (w : World) (m : source.Memory) (c : core.Memory) (to : Shape) (v : Scalar) (x y : Content) (i : ℕ) (f : ℕ → ℕ)
    → ((k : ℕ) → f k < 2 ^ 32) → Shown w m c (FatShape to) v (x ∷ y ∷ Word i ∷ [])
    → Shown w m c (FatShape to) (moved_value v f) (x ∷ y ∷ Word (f i) ∷ [])
moved_shown w m c to v x y i f small shown = ⊎_elim null some shown
  where
    null : AFatNull v (x ∷ y ∷ Word i ∷ []) → Shown w m c (FatShape to) (moved_value v f) (x ∷ y ∷ Word (f i) ∷ [])
    null z = inl (record {
      word = f i;
      value = ap (λ u. moved_value u f) z.value;
      shown = ap (λ u. u ∷ y ∷ Word (f i) ∷ []) (ap head_in z.shown) ∙ ap (λ u. Null ∷ u ∷ Word (f i) ∷ []) (ap second_in z.shown);
      small = small i;
    })

    some : AFat w m c to (size_of w to) v (x ∷ y ∷ Word i ∷ []) → Shown w m c (FatShape to) (moved_value v f) (x ∷ y ∷ Word (f i) ∷ [])
    some z =
        let pointer : Content = Pointer (at z.span.first) z.byte in
        let same : i ≡ z.span.index = ap word_in (ap third_in z.shown) in
        inr (record {
          span = record z.span { index = f z.span.index };
          byte = z.byte;
          value = ap (λ u. moved_value u f) z.value;
          shown = ap (λ u. u ∷ y ∷ Word (f i) ∷ []) (ap head_in z.shown) ∙ ap (λ u. pointer ∷ u ∷ Word (f i) ∷ []) (ap second_in z.shown) ∙
              ap (λ u. pointer ∷ Word z.span.count ∷ Word (f u) ∷ []) same;
          small = small z.span.index;
          few = z.few;
          lies = z.lies;
          leads = z.leads;
        })

-- Core after it
abbrev pub moved : Config → (d index : ℕ) → Config
moved c d index = with_temp (d + 2) (Word index) c

moved_three : (c : Config) (d i : ℕ) (x y z : Content) → AreThree c d x y z → AreThree (moved c d i) d x y (Word i)
moved_three c d i x y z three = record {
  pointer = other_temp (d + 2) d (Word i) c (omega arith) ∙ three.pointer;
  count = other_temp (d + 2) (d + 1) (Word i) c (omega arith) ∙ three.count;
  index = put_temp (d + 2) (Word i) c;
}

-- both are moved alike, by the word in some temporary
pub record BothMoved (p : Point) (m : source.Memory) (c : Config) (d e k : ℕ) (to : Shape) (o : Binary) (v : Scalar) : Type 0 where
  pub index : ℕ
  pub shown : Shown p.world m c.memory (FatShape to) (moved_value v (λ i. words.two o i k)) (contents_in d (FatShape to) (moved c d index).temps)
  pub done : (next : Config → core_steps.Step) → does (Apply o (d + 2) (d + 2) e) next c ≡ next (moved c d index)

pub both_moved : (p : Point) (m : source.Memory) (c : Config) (d e k : ℕ) (to : Shape) (o : Binary) (v : Scalar) → ((i : ℕ) → words.two o i k < 2 ^ 32)
    → c.temps e ≡ Word k → Shown p.world m c.memory (FatShape to) v (contents_in d (FatShape to) c.temps) → BothMoved p m c d e k to o v
both_moved p m c d e k to o v small operand shown =
    let x = c.temps d in
    let y = c.temps (d + 1) in
    let has = fat_words p.world m c.memory to v x y (c.temps (d + 2)) shown in
    let three = three_are c d to x y (c.temps (d + 2)) refl in
    let i : ℕ = words.two o has.index k in
    record {
      index = i;
      shown = subst (λ z. Shown p.world m c.memory (FatShape to) (moved_value v (λ i. words.two o i k)) z)
          (sym (these_three (moved c d i) d to x y (Word i) (moved_three c d i x y (c.temps (d + 2)) three)))
          (moved_shown p.world m c.memory to v x y has.index (λ i. words.two o i k) small
          (subst (λ z. Shown p.world m c.memory (FatShape to) v (x ∷ y ∷ z ∷ [])) has.index_is shown));
      done = λ next. two_words o c (d + 2) (d + 2) e has.index k next has.index_is operand;
    }

-- `p + e` and `p - e`, with the integer behind the pointer
pub fat_moves : (p : Point) (n d k : ℕ) (to : Shape) (o : Binary) (v : Scalar) (m0 : source.Memory) (c0 : Config) (m : source.Memory) (c : Config)
    (s : List Scalar → source.Memory → steps.Step) (rest : Statements) (next : Next) → ((i : ℕ) → words.two o i k < 2 ^ 32) → c.temps (d + 3) ≡ Word k
    → Shown p.world m c.memory (FatShape to) v (contents_in d (FatShape to) c.temps) → SameState p m c → GrownAt p m0 c0 m c → AreKept d c0 c
    → GoesOn p n d m0 c0 (FatShape to) s (meaning.statements rest next)
    → SameAt p n (s (moved_value v (λ i. words.two o i k) ∷ []) m)
    (meaning.statements (put (Do (Apply o (d + 2) (d + 2) (d + 3)) ∷ []) rest) next c)
fat_moves p n d k to o v m0 c0 m c s rest next small operand shown fits later kept goes =
    let both = both_moved p m c d (d + 3) k to o v small operand shown in
    let value = moved_value v (λ i. words.two o i k) in
    subst (λ z. SameAt p n (s (value ∷ []) m) z) (sym (both.done (meaning.statements rest next)))
    (goes.go m (moved c d both.index) (value ∷ []) (temp_fits p m c (d + 2) (Word both.index) fits (over goes.above (omega arith))) later
    (kept_temp d (d + 2) (Word both.index) c0 c (omega arith) kept) (inl (record { value = value; alone = refl; shown = both.shown })))

-- ---- `a[b]`

-- b is in this temporary, and the fat pointer in the three behind it
pub index_same : (p : Point) (n d k : ℕ) (to : Shape) (v : Scalar) (m : source.Memory) (c : Config) (s : Spot → source.Memory → steps.Step)
    (rest : Statements) (next : Next) → c.temps d ≡ Word k
    → Shown p.world m c.memory (FatShape to) v (contents_in (d + 1) (FatShape to) c.temps)
    → ((index left : ℕ) → ElementGoesOn p n d (d + 1) left to m (moved c (d + 1) index) s (meaning.statements rest next))
    → SameAt p n (accessed (length (cells_of p.world to)) (moved_value v (λ i. sum_of i k)) s m)
    (meaning.statements (put (index_code p.world to d) rest) next c)
index_same p n d k to v m c s rest next operand shown goes =
    let both = both_moved p m c (d + 1) d k to Add v (λ i. modulo_small (i + k)) operand shown in
    let here : Config = moved c (d + 1) both.index in
    let there : d + 3 ≡ d + 1 + 2 = omega arith in
    let after : Config → core_steps.Step = meaning.statements (put (element_code p.world to d (d + 1)) rest) next in
    subst (λ z. SameAt p n (accessed (length (cells_of p.world to)) (moved_value v (λ i. sum_of i k)) s m) z)
    (sym (ap (λ t. does (Apply Add t t d) after c) there ∙ both.done after))
    (element_same p n d (d + 1) to (moved_value v (λ i. sum_of i k)) m here s rest next both.shown (λ z less. goes both.index (z.span.count - z.span.index)))

-- ---- `numelts`

-- the difference where the index is below the count, and 0 else
counted : (i k : ℕ) → i < 2 ^ 32 → k < 2 ^ 32 → product_of (words.truth (nat_lt i k)) (difference_of k i) ≡ k - i
counted i k small few = by (nat_lt i k) refl
  where
    by : (b : Bool) → nat_lt i k ≡ b → product_of (words.truth b) (difference_of k i) ≡ k - i
    by true e = let less : i < k = grind (arith, nat_tests, e) in omega (arith, less, small, few)
    by false e = let more : k ≤ i = grind (arith, nat_tests, e) in omega (arith, more, small, few)

-- what Core does
count_does : (c : Config) (d i k : ℕ) (rest : Statements) (next : Next) → c.temps (d + 1) ≡ Word k → c.temps (d + 2) ≡ Word i
    → meaning.statements (put (count_code d) rest) next c ≡ meaning.statements rest next (with_temp d (Word
    (product_of (words.truth (nat_lt i k)) (difference_of k i)))
    (with_temp (d + 1) (Word (difference_of k i)) (with_temp d (Word (words.truth (nat_lt i k))) c)))
count_does c d i k rest next count index =
    two_words LessUnsigned c d (d + 2) (d + 1) i k after_one index count ∙
    two_words Subtract first (d + 1) (d + 1) (d + 2) k i after_two (after_temp d (d + 1) test c (omega arith) ∙ count)
    (after_temp d (d + 2) test c (omega arith) ∙ index) ∙
    two_words Multiply second d d (d + 1) (words.truth (nat_lt i k)) (difference_of k i) (meaning.statements rest next)
    (other_temp (d + 1) d (Word (difference_of k i)) first (omega arith) ∙ put_temp d test c) (put_temp (d + 1) (Word (difference_of k i)) first)
  where
    test : Content
    test = Word (words.truth (nat_lt i k))

    first : Config
    first = with_temp d test c

    second : Config
    second = with_temp (d + 1) (Word (difference_of k i)) first

    after_two : Config → core_steps.Step
    after_two = meaning.statements (put (Do (Apply Multiply d d (d + 1)) ∷ []) rest) next

    after_one : Config → core_steps.Step
    after_one = meaning.statements (put (Do (Apply Subtract (d + 1) (d + 1) (d + 2)) ∷ Do (Apply Multiply d d (d + 1)) ∷ []) rest) next

-- the number of elements that are left
left_is : (w : World) (m : source.Memory) (c : core.Memory) (to : Shape) (v : Scalar) (x : Content) (k i : ℕ) (s : Scalar → source.Memory → steps.Step)
    → Shown w m c (FatShape to) v (x ∷ Word k ∷ Word i ∷ []) → elements_left v s m ≡ s (Integer AsUnsigned (k - i)) m
left_is w m c to v x k i s shown = ⊎_elim null some shown
  where
    null : AFatNull v (x ∷ Word k ∷ Word i ∷ []) → elements_left v s m ≡ s (Integer AsUnsigned (k - i)) m
    null z =
        let none : k ≡ 0 = ap word_in (ap second_in z.shown) in
        let zero_left : 0 ≡ k - i = omega (arith, none) in
        ap (λ u. elements_left u s m) z.value ∙ ap (λ u. s (Integer AsUnsigned u) m) zero_left

    some : AFat w m c to (size_of w to) v (x ∷ Word k ∷ Word i ∷ []) → elements_left v s m ≡ s (Integer AsUnsigned (k - i)) m
    some z =
        let count : k ≡ z.span.count = ap word_in (ap second_in z.shown) in
        let index : i ≡ z.span.index = ap word_in (ap third_in z.shown) in
        ap (λ u. elements_left u s m) z.value ∙ ap (λ u. s (Integer AsUnsigned (u - z.span.index)) m) (sym count) ∙
        ap (λ u. s (Integer AsUnsigned (k - u)) m) (sym index)

pub count_gives : (p : Point) (n d : ℕ) (to : Shape) (look : steps.Act (List Scalar)) (code : List Statement) → GivesAs p n d (FatShape to) look code
    → GivesAs p n d UnsignedShape (look >>= one >>= elements_left >>= λ k. give (k ∷ [])) (code ++ count_code d)
count_gives p n d to look code gives = record {
  same = λ m c s rest next fits goes.
      let counts : Scalar → source.Memory → steps.Step = λ v. elements_left v (λ k. s (k ∷ [])) in
      subst (λ z. SameAt p n (look (λ vs. one vs counts) m) (meaning.statements z next c)) (sym (put_all code (count_code d) rest))
      (gives.same m c (λ vs. one vs counts) (put (count_code d) rest) next fits (record {
        above = over goes.above (omega arith);
        go = λ m1 c1 vs fits1 later1 kept1 given1.
            let v = fat_value p.world m1 c1.memory to vs (contents_in d (FatShape to) c1.temps) given1 in
            let x = c1.temps d in
            let has = fat_words p.world m1 c1.memory to v.value x (c1.temps (d + 1)) (c1.temps (d + 2)) v.shown in
            let shown = subst (λ z. Shown p.world m1 c1.memory (FatShape to) v.value (x ∷ Word has.count ∷ z ∷ [])) has.index_is
            (subst (λ z. Shown p.world m1 c1.memory (FatShape to) v.value (x ∷ z ∷ c1.temps (d + 2) ∷ [])) has.count_is v.shown) in
            let test : Content = Word (words.truth (nat_lt has.index has.count)) in
            let first : Config = with_temp d test c1 in
            let second : Config = with_temp (d + 1) (Word (difference_of has.count has.index)) first in
            let left : ℕ = has.count - has.index in
            let few = has.few in
            subst (λ z. SameAt p n (one z counts m1) (meaning.statements (put (count_code d) rest) next c1)) (sym v.alone)
            (subst (λ z. SameAt p n z (meaning.statements (put (count_code d) rest) next c1))
            (sym (left_is p.world m1 c1.memory to v.value x has.count has.index (λ k. s (k ∷ [])) shown))
            (subst (λ z. SameAt p n (s (Integer AsUnsigned left ∷ []) m1) z)
            (sym (count_does c1 d has.index has.count rest next has.count_is has.index_is ∙
            ap (λ z. meaning.statements rest next (with_temp d (Word z) second)) (counted has.index has.count has.small has.few)))
            (put_value p n d m c m1 second UnsignedShape (Integer AsUnsigned left ∷ []) (Word left) s (meaning.statements rest next)
            (temp_fits p m1 first (d + 1) (Word (difference_of has.count has.index)) (temp_fits p m1 c1 d test fits1 goes.above)
            (over goes.above (omega arith))) later1
            (kept_temp d (d + 1) (Word (difference_of has.count has.index)) c first (omega arith) (kept_temp d d test c c1 (omega arith) kept1)) refl
            (word_given p.world m1 c1.memory AsUnsigned left (Word left) (omega (arith, few)) refl) goes)));
      }));
}
