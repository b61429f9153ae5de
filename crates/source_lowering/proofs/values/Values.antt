-- Values in temporaries: what is put there, and what stays.
use Rattle.std.proofs.Common.{⊎_elim, ◌≡◌, ℕ, ◌+◌, ◌<◌, ◌≤◌, List, [], ◌∷◌, ◌++◌, false, nat_eq, refl, sym, ap, ◌∙◌, subst, arith}
use Rattle.std.specs.Prelude.{if◌then◌else◌}
use Rattle.std.proofs.lemmas.Bool.{eq-eqb}
use Rattle.std.proofs.lemmas.Bool.Decides.{nat_tests}
use Rattle.source_meaning.specs.Shapes.{
  Shape,
  IntShape,
  UnsignedShape,
  CharShape,
  VoidShape,
  ThinShape,
  FatShape,
  HandleShape,
  KeyShape,
  StructShape,
  UnionShape,
  ArrayShape,
}
use Rattle.source_meaning.specs.Memory as source
use Rattle.source_meaning.specs.Memory.{Scalar}
use Rattle.source_meaning.specs.Steps as steps
use Rattle.source_meaning.specs.Steps.{World}
use Rattle.core_meaning.specs.Memory as core
use Rattle.core_meaning.specs.Memory.{Content}
use Rattle.core_meaning.specs.Core.{Statement, Statements}
use Rattle.core_meaning.specs.Steps as core_steps
use Rattle.core_meaning.specs.Steps.{Config, with_temp}
use Rattle.source_lowering.specs.Lowered.{put}
use Rattle.source_lowering.specs.Simulation.{Point, SameState, SameAt, AreKept, GrownAt, AValue, Given, GoesOn, Grown, Bound, contents_in}
use Rattle.source_lowering.proofs.memory.Keeping.{shown_later}
use Rattle.source_lowering.specs.Members.{words_in}
use Rattle.source_lowering.proofs.values.Integers.{given_one}
use Rattle.source_lowering.proofs.Runs.{put_all}
use Rattle.std.proofs.Common.{inl}
use Rattle.source_lowering.specs.Simulation.{ANothing}
use Rattle.std.proofs.Common.{inr}

pub put_temp : (d : ℕ) (x : Content) (c : Config) → (with_temp d x c).temps d ≡ x
put_temp d x c = ap (λ b. if b then x else c.temps d) (eq-eqb d d refl)

pub other_temp : (d k : ℕ) (x : Content) (c : Config) → k < d → (with_temp d x c).temps k ≡ c.temps k
other_temp d k x c h = let no : nat_eq k d ≡ false = grind (arith, nat_tests, h) in ap (λ b. if b then x else c.temps k) no

pub kept_temp : (d e : ℕ) (x : Content) (c0 c : Config) → d ≤ e → AreKept d c0 c → AreKept d c0 (with_temp e x c)
kept_temp d e x c0 c h kept = λ k g. other_temp e k x c (omega (arith, h, g)) ∙ kept k g

pub over : {low middle high : ℕ} → low ≤ middle → middle ≤ high → low ≤ high
over less more = omega (arith, less, more)

pub temp_fits : (p : Point) (m : source.Memory) (c : Config) (d : ℕ) (x : Content) → SameState p m c → p.regions.all ≤ d
    → SameState p m (with_temp d x c)
temp_fits p m c d x f above = record {
  agree = f.agree;
  blocks = f.blocks;
  locals = f.locals;
  statics = f.statics;
  begun = f.begun;
  made = f.made;
  pending = f.pending;
  own = f.own;
  called = f.called;
  stands = f.stands;
  owned = f.owned;
}

pub value_later : (b : Bound) (w : World) (m m' : source.Memory) (c c' : core.Memory) (shape : Shape) (vs : List Scalar) (cs : List Content) → Grown b m c m' c'
    → AValue w m c shape vs cs → AValue w m' c' shape vs cs
value_later b w m m' c c' shape vs cs l v =
    record { value = v.value; alone = v.alone; shown = shown_later b w m m' c c' shape v.value cs l v.shown }

pub given_later : (b : Bound) (w : World) (m m' : source.Memory) (c c' : core.Memory) (shape : Shape) (vs : List Scalar) (cs : List Content) → Grown b m c m' c'
    → Given w m c shape vs cs → Given w m' c' shape vs cs
given_later b w m m' c c' shape vs cs l given =
    ⊎_elim (λ (v : AValue w m c shape vs cs). inl (value_later b w m m' c c' shape vs cs l v)) (λ (v : ANothing shape vs). inr v) given

-- a value is put into the temporary that it was asked for in
pub put_value : (p : Point) (n d : ℕ) (m0 : source.Memory) (c0 : Config) (m : source.Memory) (c : Config) (shape : Shape) (vs : List Scalar) (x : Content)
    (s : List Scalar → source.Memory → steps.Step) (k : Config → core_steps.Step)
    → SameState p m c → GrownAt p m0 c0 m c → AreKept d c0 c → words_in shape ≡ 1 → Given p.world m c.memory shape vs (x ∷ []) → GoesOn p n d m0 c0 shape s k
    → SameAt p n (s vs m) (k (with_temp d x c))
put_value p n d m0 c0 m c shape vs x s k fits later kept one given goes =
    goes.go m (with_temp d x c) vs (temp_fits p m c d x fits goes.above) later (kept_temp d d x c0 c (omega arith) kept)
    (given_one p.world m c.memory shape vs d (with_temp d x c).temps one
    (subst (λ z. Given p.world m c.memory shape vs (z ∷ [])) (sym (put_temp d x c)) given))

-- the temporaries of a value are as they were
pub between_contents : (s : Shape) (d : ℕ) (c0 c : Config) → ((k : ℕ) → d ≤ k → k < d + words_in s → c.temps k ≡ c0.temps k)
    → contents_in d s c.temps ≡ contents_in d s c0.temps
between_contents (FatShape to) d c0 c kept =
    ap (λ u. u ∷ c.temps (d + 1) ∷ c.temps (d + 2) ∷ []) (kept d (omega arith) (omega arith)) ∙
    ap (λ u. c0.temps d ∷ u ∷ c.temps (d + 2) ∷ []) (kept (d + 1) (omega arith) (omega arith)) ∙
    ap (λ u. c0.temps d ∷ c0.temps (d + 1) ∷ u ∷ []) (kept (d + 2) (omega arith) (omega arith))
between_contents IntShape d c0 c kept = ap (λ u. u ∷ []) (kept d (omega arith) (omega arith))
between_contents UnsignedShape d c0 c kept = ap (λ u. u ∷ []) (kept d (omega arith) (omega arith))
between_contents CharShape d c0 c kept = ap (λ u. u ∷ []) (kept d (omega arith) (omega arith))
between_contents VoidShape d c0 c kept = ap (λ u. u ∷ []) (kept d (omega arith) (omega arith))
between_contents (ThinShape b owner to) d c0 c kept = ap (λ u. u ∷ []) (kept d (omega arith) (omega arith))
between_contents HandleShape d c0 c kept = ap (λ u. u ∷ []) (kept d (omega arith) (omega arith))
between_contents KeyShape d c0 c kept = ap (λ u. u ∷ []) (kept d (omega arith) (omega arith))
between_contents (StructShape tag) d c0 c kept = ap (λ u. u ∷ []) (kept d (omega arith) (omega arith))
between_contents (UnionShape tag) d c0 c kept = ap (λ u. u ∷ []) (kept d (omega arith) (omega arith))
between_contents (ArrayShape count of) d c0 c kept = ap (λ u. u ∷ []) (kept d (omega arith) (omega arith))

-- and so they are with those below the next
pub kept_contents : (s : Shape) (d : ℕ) (c0 c : Config) → AreKept (d + words_in s) c0 c → contents_in d s c.temps ≡ contents_in d s c0.temps
kept_contents s d c0 c kept = between_contents s d c0 c (λ k above less. kept k less)

-- three pieces of code, one after the other
pub put_three : (xs ys zs : List Statement) (rest : Statements) → put (xs ++ (ys ++ zs)) rest ≡ put xs (put ys (put zs rest))
put_three xs ys zs rest = put_all xs (ys ++ zs) rest ∙ ap (put xs) (put_all ys zs rest)
