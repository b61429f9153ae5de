-- Calls: arguments, and the program's own functions.
use Rattle.std.proofs.Common.{◌≡◌, ℕ, zero, suc, ◌+◌, ◌<◌, ◌≤◌, ◌⊎◌, inl, inr, ⊎_elim, List, [], ◌∷◌, ◌++◌, length, Some, refl, sym, ap, ◌∙◌, subst, arith}
use Rattle.std.specs.Prelude.{slice_get}
use Rattle.source_meaning.specs.Shapes.{count_of}
use Rattle.source_meaning.specs.Shapes.{
  Shape,
  IntShape,
  UnsignedShape,
  CharShape,
  VoidShape,
  ThinShape,
  FatShape,
  HandleShape,
  KeyShape,
  StructShape,
  UnionShape,
  ArrayShape,
  part_shapes,
}
use Rattle.source_meaning.specs.Memory as source
use Rattle.source_meaning.specs.Memory.{Scalar}
use Rattle.source_meaning.specs.Steps as steps
use Rattle.source_meaning.specs.Steps.{World, Routine, give, invoke, ◌>>=◌, ◌>>◌}
use Rattle.source_meaning.specs.Conversions.{one, size_of}
use Rattle.source_meaning.specs.Places.{Sense}
use Rattle.source_meaning.specs.Calls.{converted_all}
use Rattle.source_meaning.specs.Programs.{entered}
use Rattle.core_meaning.specs.Memory as core
use Rattle.core_meaning.specs.Memory.{Content}
use Rattle.core_meaning.specs.Core.{Program, Statement, Call, Statements}
use Rattle.core_meaning.specs.Steps as core_steps
use Rattle.core_meaning.specs.Steps.{Config, with_temp, with_memory}
use Rattle.core_meaning.specs.Meaning as meaning
use Rattle.core_meaning.specs.Meaning.{values_of, with_results, passed_in}
use Rattle.source_lowering.specs.Members.{words_in, all_words}
use Rattle.source_lowering.specs.Lowered.{number_of, put, conversion_code, from_on, results_in}
use Rattle.source_lowering.specs.Simulation.{SameMemory, HasStatics, Bound, within, Grown, Point, SameState, SameAt, Same, Next, AreKept, GrownAt, Shown, ANull}
use Rattle.source_lowering.specs.Simulation.{APointer}
use Rattle.source_lowering.specs.Simulation.{AFatNull, AFat, AValue, ANothing, contents_in, GoesOn, GivesAs}
use Rattle.source_lowering.proofs.memory.Keeping.{IsLess, later_self, later_on, later_less, fits_later}
use Rattle.source_lowering.proofs.Runs.{stuck_same, calls_same, less_fuel, put_all}
use Rattle.source_lowering.proofs.values.Integers.{IsTaken, IsTarget, IsWordShape, IsValueShape, word_taken, value_taken, not_void, one_word}
use Rattle.source_lowering.proofs.values.AnyValues.{value_void, value_given}
use Rattle.source_lowering.proofs.expressions.Elements.{these_three}
use Rattle.source_lowering.proofs.expressions.Names.{IsRoutine}
use Rattle.source_lowering.proofs.values.Values.{put_temp, other_temp, temp_fits, kept_temp, put_value, put_three, kept_contents, value_later, over}
use Rattle.source_lowering.proofs.expressions.Variables.{Agrees}
use Rattle.source_lowering.proofs.values.Conversions.{converted_gives}

-- ---- what is passed, and what comes back

-- each value is shown by its words, from a temporary on
abbrev pub AllGiven : World → source.Memory → core.Memory → List Shape → List (List Scalar) → (d : ℕ) → (temps : ℕ → Content) → Type 0
AllGiven w m c [] [] d temps = Unit {0}
AllGiven w m c (s ∷ ss) (vs ∷ vss) d temps = AValue w m c s vs (contents_in d s temps) × AllGiven w m c ss vss (d + words_in s) temps
AllGiven w m c [] (vs ∷ vss) d temps = ⊥
AllGiven w m c (s ∷ ss) [] d temps = ⊥

pub record NoResult (shape : Shape) (vs : List Scalar) (xs : List Content) : Type 0 where
  pub nothing : xs ≡ []
  pub value : ANothing shape vs

-- a value is shown by what is returned
abbrev pub ResultIs : World → source.Memory → core.Memory → Shape → List Scalar → List Content → Type 0
ResultIs w m c shape vs xs = AValue w m c shape vs xs ⊎ NoResult shape vs xs

-- what a call keeps: the locals of all blocks that there are, and all temporary objects
abbrev pub called_before : source.Memory → core.Memory → Bound
called_before m c = record { frames = m.activations; standing = c.calls; own = c.calls; values = 0 }

pub within_called : (p : Point) (m : source.Memory) (c : Config) → SameState p m c → IsLess (within p) (called_before m c.memory)
within_called p m c fits =
    let b = fits.begun in
    let f = fits.called in
    record {
      frames = omega (arith, b);
      standing = omega (arith, f);
      kept = λ k i h. let g = h.0 in (omega (arith, f, g), λ e. absurd (omega (arith, e, g, f)));
    }

-- what comes after a function's return: memories that agree, and no more locals in the blocks before it
pub record Returning (w : World) (fs : Program) (n : ℕ) (m0 : source.Memory) (c0 : core.Memory) (shape : Shape) (s : List Scalar → source.Memory → steps.Step)
    (k : List Content → core.Memory → core_steps.Step) : Type 0 where
  pub go : (m : source.Memory) (c : core.Memory) (vs : List Scalar) (xs : List Content) → SameMemory w m c → Grown (called_before m0 c0) m0 c0 m c
      → ResultIs w m c shape vs xs → Same w fs n (s vs m) (k xs c)

-- with so much fuel each function does the same as its code
pub record EntersAs (w : World) (fs : Program) (n : ℕ) : Type 0 where
  pub same : (name : List ℕ) (f : Routine) (vss : List (List Scalar)) (xs : List Content) (m : source.Memory) (c : core.Memory)
      (s : List Scalar → source.Memory → steps.Step) (k : List Content → core.Memory → core_steps.Step)
      → slice_get w.functions (number_of w.functions name) ≡ Some f → IsRoutine w f → SameMemory w m c → HasStatics w m c
      → length xs ≡ all_words (part_shapes f.parameters) → AllGiven w m c (part_shapes f.parameters) vss 0 (passed_in xs) → Returning w fs n m c f.result s k
      → Same w fs n (entered f w vss s m) (meaning.called fs.functions (record { function = number_of w.functions name; arguments = xs }) k c)

-- with less fuel than this
abbrev pub CallsAs : World → Program → ℕ → Type 0
CallsAs w fs n = (j : ℕ) → suc j ≤ n → EntersAs w fs j

pub calls_less : (w : World) (fs : Program) (n j : ℕ) → j ≤ n → CallsAs w fs n → CallsAs w fs j
calls_less w fs n j less calls i h = calls i (omega (arith, less, h))

-- ---- arguments

-- so many words are passed, as many as the shapes have where each has its argument
pub record ArgumentsGo (p : Point) (n d count : ℕ) (m0 : source.Memory) (c0 : Config) (shapes : List Shape)
    (s : List (List Scalar) → source.Memory → steps.Step)
    (k : Config → core_steps.Step) : Type 0 where
  pub above : p.regions.all ≤ d
  pub go : (m : source.Memory) (c : Config) (vss : List (List Scalar)) → SameState p m c → GrownAt p m0 c0 m c → AreKept d c0 c
      → count ≡ all_words shapes → AllGiven p.world m c.memory shapes vss d c.temps → SameAt p n (s vss m) (k c)

pub record ArgumentsAs (p : Point) (n d count : ℕ) (shapes : List Shape) (act : steps.Act (List (List Scalar))) (code : List Statement) : Type 0 where
  pub same : (m : source.Memory) (c : Config) (s : List (List Scalar) → source.Memory → steps.Step) (rest : Statements) (next : Next) → SameState p m c
      → ArgumentsGo p n d count m c shapes s (meaning.statements rest next) → SameAt p n (act s m) (meaning.statements (put code rest) next c)

pub no_arguments : (p : Point) (n d : ℕ) → ArgumentsAs p n d 0 [] (give []) []
no_arguments p n d = record { same = λ m c s rest next fits goes. goes.go m c [] fits (later_self (within p) m c.memory) (λ k h. refl) refl tt }

pub stuck_arguments : (p : Point) (n d count : ℕ) (shapes : List Shape) (code : List Statement) → ArgumentsAs p n d count shapes steps.stuck code
stuck_arguments p n d count shapes code = record { same = λ m c s rest next fits goes. stuck_same p.world p.program n _ }

pub more_arguments : (p : Point) (n d count : ℕ) (shape : Shape) (shapes : List Shape) (e : Sense) (es : List Sense) (from : Shape)
    (first others : List Statement) → IsValueShape shape → Agrees p n d e from first
    → ArgumentsAs p n (d + words_in shape) count shapes (converted_all p.world shapes es) others
    → ArgumentsAs p n d (words_in shape + count) (shape ∷ shapes) (converted_all p.world (shape ∷ shapes) (e ∷ es))
    (first ++ (conversion_code p.world shape from d ++ others))
more_arguments p n d count shape shapes e es from first others is_value one more = record {
  same = λ m c s rest next fits goes.
      subst (λ z. SameAt p n (converted_all p.world (shape ∷ shapes) (e ∷ es) s m) (meaning.statements z next c))
      (sym (put_three first (conversion_code p.world shape from d) others rest ∙ sym (put_all first (conversion_code p.world shape from d) (put others rest))))
      ((converted_gives p n d shape e from first (value_taken shape is_value) one).same m c (λ vs. converted_all p.world shapes es (λ vss. s (vs ∷ vss)))
      (put others rest) next fits (record {
        above = over goes.above (omega arith);
        go = λ m1 c1 vs fits1 later1 kept1 given1.
            let v = value_given p.world m1 c1.memory shape vs (contents_in d shape c1.temps) is_value given1 in
            more.same m1 c1 (λ vss. s (vs ∷ vss)) rest next fits1 (record {
              above = over goes.above (omega arith);
              go = λ m2 c2 vss fits2 later2 kept2 many all.
                  goes.go m2 c2 (vs ∷ vss) fits2 (later_on (within p) m m1 m2 c.memory c1.memory c2.memory later1 later2)
                  (λ k h. kept2 k (omega (arith, h)) ∙ kept1 k h) (ap (λ z. words_in shape + z) many) (
                    subst (λ z. AValue p.world m2 c2.memory shape vs z) (sym (kept_contents shape d c1 c2 kept2))
                        (value_later (within p) p.world m1 m2 c1.memory c2.memory shape vs (contents_in d shape c1.temps) later2 v),
                    all,
                  );
            });
      }));
}

-- ---- the program's own functions

-- what stands for a value takes as many contents as its shape has words
shown_many : (w : World) (m : source.Memory) (c : core.Memory) (s : Shape) (v : Scalar) (cs : List Content) → IsTaken s → Shown w m c s v cs
    → length cs ≡ words_in s
shown_many w m c IntShape v cs h o = ap length o.shown
shown_many w m c UnsignedShape v cs h o = ap length o.shown
shown_many w m c CharShape v cs h o = ap length o.shown
shown_many w m c VoidShape v cs h o = absurd o
shown_many w m c (ThinShape b owner to) v cs h o = ⊎_elim (λ (z : ANull b v cs). ap length z.shown) (λ (z : APointer w m c (count_of b) owner to v cs).
    ap length z.shown) o
shown_many w m c (FatShape to) v cs h o =
    ⊎_elim (λ (z : AFatNull v cs). ap length z.shown) (λ (z : AFat w m c to (size_of w to) v cs). ap length z.shown) o
shown_many w m c HandleShape v cs h o = ap length o.shown
shown_many w m c KeyShape v cs h o = ap length o.shown
shown_many w m c (StructShape tag) v cs h o = absurd h
shown_many w m c (UnionShape tag) v cs h o = absurd h
shown_many w m c (ArrayShape count of) v cs h o = absurd h

-- a result goes to its temporaries
results_same : (p : Point) (n d : ℕ) (m0 : source.Memory) (c0 : Config) (m : source.Memory) (c : Config) (shape : Shape) (vs : List Scalar)
    (xs : List Content) (s : List Scalar → source.Memory → steps.Step) (k : Config → core_steps.Step) → IsTaken shape
    → ResultIs p.world m c.memory shape vs xs → SameState p m c → GrownAt p m0 c0 m c → AreKept d c0 c → GoesOn p n d m0 c0 shape s k
    → SameAt p n (s vs m) (with_results (results_in shape d) xs c k)
results_same p n d m0 c0 m c shape vs xs s k taken result fits later kept goes = by shape taken goes result
  where
    one : (of : Shape) → IsWordShape of → GoesOn p n d m0 c0 of s k → (ys : List Content) → length ys ≡ 1 → AValue p.world m c.memory of vs ys
        → SameAt p n (s vs m) (with_results (d ∷ []) ys c k)
    one of is_word go [] many v = absurd (omega (arith, many))
    one of is_word go (y ∷ []) many v = put_value p n d m0 c0 m c of vs y s k fits later kept (one_word of is_word) (inl v) go
    one of is_word go (y ∷ z ∷ zs) many v = absurd (omega (arith, many))

    three : (to : Shape) → GoesOn p n d m0 c0 (FatShape to) s k → (ys : List Content) → length ys ≡ 3 → AValue p.world m c.memory (FatShape to) vs ys
        → SameAt p n (s vs m) (with_results (d ∷ (d + 1) ∷ (d + 2) ∷ []) ys c k)
    three to go [] many v = absurd (omega (arith, many))
    three to go (x ∷ []) many v = absurd (omega (arith, many))
    three to go (x ∷ y ∷ []) many v = absurd (omega (arith, many))
    three to go (x ∷ y ∷ z ∷ []) many v =
        let first : Config = with_temp d x c in
        let second : Config = with_temp (d + 1) y first in
        let third : Config = with_temp (d + 2) z second in
        go.go m third vs (temp_fits p m second (d + 2) z (temp_fits p m first (d + 1) y (temp_fits p m c d x fits goes.above)
        (over goes.above (omega arith))) (over goes.above (omega arith))) later
        (kept_temp d (d + 2) z c0 second (omega arith) (kept_temp d (d + 1) y c0 first (omega arith) (kept_temp d d x c0 c (omega arith) kept)))
        (inl (subst (λ u. AValue p.world m c.memory (FatShape to) vs u) (sym (these_three third d to x y z (record {
          pointer = other_temp (d + 2) d z second (omega arith) ∙ other_temp (d + 1) d y first (omega arith) ∙ put_temp d x c;
          count = other_temp (d + 2) (d + 1) z second (omega arith) ∙ put_temp (d + 1) y first;
          index = put_temp (d + 2) z second;
        }))) v))
    three to go (x ∷ y ∷ z ∷ u ∷ us) many v = absurd (omega (arith, many))

    some : (of : Shape) → (is_word : IsWordShape of) → GoesOn p n d m0 c0 of s k → ResultIs p.world m c.memory of vs xs
        → SameAt p n (s vs m) (with_results (d ∷ []) xs c k)
    some of is_word go r =
        ⊎_elim
        (λ (v : AValue p.world m c.memory of vs xs).
        one of is_word go xs (shown_many p.world m c.memory of v.value xs (word_taken of is_word) v.shown ∙ one_word of is_word) v)
        (λ (o : NoResult of vs xs). absurd (not_void of is_word o.value.void)) r

    fat : (to : Shape) → IsTarget to → GoesOn p n d m0 c0 (FatShape to) s k → ResultIs p.world m c.memory (FatShape to) vs xs
        → SameAt p n (s vs m) (with_results (d ∷ (d + 1) ∷ (d + 2) ∷ []) xs c k)
    fat to target go r =
        ⊎_elim
        (λ (v : AValue p.world m c.memory (FatShape to) vs xs).
        three to go xs (shown_many p.world m c.memory (FatShape to) v.value xs target v.shown) v)
        (λ (o : NoResult (FatShape to) vs xs). absurd (value_void (FatShape to) target o.value.void)) r

    none : GoesOn p n d m0 c0 VoidShape s k → ResultIs p.world m c.memory VoidShape vs xs → SameAt p n (s vs m) (with_results [] xs c k)
    none go r =
        ⊎_elim (λ (v : AValue p.world m c.memory VoidShape vs xs). absurd v.shown)
        (λ (o : NoResult VoidShape vs xs). subst (λ z. SameAt p n (s vs m) (with_results [] z c k)) (sym o.nothing)
        (go.go m c vs fits later kept (inr o.value))) r

    by : (of : Shape) → IsTaken of → GoesOn p n d m0 c0 of s k → ResultIs p.world m c.memory of vs xs
        → SameAt p n (s vs m) (with_results (results_in of d) xs c k)
    by IntShape h go r = some IntShape tt go r
    by UnsignedShape h go r = some UnsignedShape tt go r
    by CharShape h go r = some CharShape tt go r
    by VoidShape h go r = none go r
    by (ThinShape may_be_null owner to) h go r = some (ThinShape may_be_null owner to) h go r
    by (FatShape to) h go r = fat to h go r
    by HandleShape h go r = some HandleShape tt go r
    by KeyShape h go r = some KeyShape tt go r
    by (StructShape tag) h go r = absurd h
    by (UnionShape tag) h go r = absurd h
    by (ArrayShape count of) h go r = absurd h

-- what is passed, as the callee has it
passed_at : (temps : ℕ → Content) (d count i : ℕ) → i < count → passed_in (values_of temps (from_on d count)) i ≡ temps (d + i)
passed_at temps d zero i less = absurd (omega (arith, less))
passed_at temps d (suc count) zero less = ap temps (none d)
  where
    none : (a : ℕ) → a ≡ a + 0
    none a = omega arith
passed_at temps d (suc count) (suc i) less = passed_at temps (d + 1) count i (omega (arith, less)) ∙ ap temps (next d i)
  where
    next : (a b : ℕ) → a + 1 + b ≡ a + suc b
    next a b = omega arith

passed_many : (temps : ℕ → Content) (d count : ℕ) → length (values_of temps (from_on d count)) ≡ count
passed_many temps d zero = refl
passed_many temps d (suc count) = ap suc (passed_many temps (d + 1) count)

passed_contents : (s : Shape) (f g : ℕ → Content) (d i : ℕ) → ((j : ℕ) → j < i + words_in s → f j ≡ g (d + j)) → contents_in i s f ≡ contents_in (d + i) s g
passed_contents (FatShape to) f g d i same =
    ap (λ z. z ∷ f (i + 1) ∷ f (i + 2) ∷ []) (same i (omega arith)) ∙
    ap (λ z. g (d + i) ∷ z ∷ f (i + 2) ∷ []) (same (i + 1) (omega arith) ∙ ap g (on d i 1)) ∙
    ap (λ z. g (d + i) ∷ g (d + i + 1) ∷ z ∷ []) (same (i + 2) (omega arith) ∙ ap g (on d i 2))
  where
    on : (a b j : ℕ) → a + (b + j) ≡ a + b + j
    on a b j = omega arith
passed_contents IntShape f g d i same = ap (λ z. z ∷ []) (same i (omega arith))
passed_contents UnsignedShape f g d i same = ap (λ z. z ∷ []) (same i (omega arith))
passed_contents CharShape f g d i same = ap (λ z. z ∷ []) (same i (omega arith))
passed_contents VoidShape f g d i same = ap (λ z. z ∷ []) (same i (omega arith))
passed_contents (ThinShape b owner to) f g d i same = ap (λ z. z ∷ []) (same i (omega arith))
passed_contents HandleShape f g d i same = ap (λ z. z ∷ []) (same i (omega arith))
passed_contents KeyShape f g d i same = ap (λ z. z ∷ []) (same i (omega arith))
passed_contents (StructShape tag) f g d i same = ap (λ z. z ∷ []) (same i (omega arith))
passed_contents (UnionShape tag) f g d i same = ap (λ z. z ∷ []) (same i (omega arith))
passed_contents (ArrayShape count of) f g d i same = ap (λ z. z ∷ []) (same i (omega arith))

passed_given : (w : World) (m : source.Memory) (c : core.Memory) (shapes : List Shape) (vss : List (List Scalar)) (f g : ℕ → Content) (d i : ℕ)
    → ((j : ℕ) → j < i + all_words shapes → f j ≡ g (d + j)) → AllGiven w m c shapes vss (d + i) g → AllGiven w m c shapes vss i f
passed_given w m c [] [] f g d i same h = tt
passed_given w m c [] (vs ∷ vss) f g d i same h = absurd h
passed_given w m c (s ∷ ss) [] f g d i same h = absurd h
passed_given w m c (s ∷ ss) (vs ∷ vss) f g d i same h = (
  subst (λ z. AValue w m c s vs z) (sym (passed_contents s f g d i (λ j less. same j (omega (arith, less))))) h.0,
  passed_given w m c ss vss f g d (i + words_in s) (λ j less. same j (omega (arith, less))) (subst (λ z. AllGiven w m c ss vss z g) on h.1),
)
  where
    on : d + i + words_in s ≡ d + (i + words_in s)
    on = omega arith

pub called_gives : (p : Point) (n d count : ℕ) (name : List ℕ) (f : Routine) (act : steps.Act (List (List Scalar))) (code : List Statement)
    → slice_get p.world.functions (number_of p.world.functions name) ≡ Some f → IsRoutine p.world f → CallsAs p.world p.program n
    → ArgumentsAs p n d count (part_shapes f.parameters) act code
    → GivesAs p n d f.result (act >>= λ vss. invoke f p.world vss)
    (code ++ (Call (results_in f.result d) (number_of p.world.functions name) (from_on d count) ∷ []))
called_gives p n d count name f act code numbered routine enters arguments = record {
  same = λ m c s rest next fits goes.
      subst (λ z. SameAt p n (act (λ vss. invoke f p.world vss s) m) (meaning.statements z next c)) (sym (put_all code calls rest))
      (arguments.same m c (λ vss. invoke f p.world vss s) (put calls rest) next fits (record {
        above = over goes.above (omega arith);
        go = λ m1 c1 vss fits1 later1 kept1 many all.
            let passed : List Content = values_of c1.temps (from_on d count) in
            let given = passed_given p.world m1 c1.memory (part_shapes f.parameters) vss (passed_in passed) c1.temps d 0
            (λ j less. passed_at c1.temps d count j (omega (arith, less, many)))
            (subst (λ z. AllGiven p.world m1 c1.memory (part_shapes f.parameters) vss z c1.temps) none all) in
            calls_same p.world p.program n (record { routine = f; world = p.world; arguments = vss }) s m1
            (record { function = number_of p.world.functions name; arguments = passed })
            (λ values memory. with_results (results_in f.result d) values (with_memory memory c1) (meaning.statements rest next)) c1.memory
            (λ j less. (enters j less).same name f vss passed m1 c1.memory s
            (λ values memory. with_results (results_in f.result d) values (with_memory memory c1) (meaning.statements rest next))
            numbered routine fits1.agree fits1.statics (passed_many c1.temps d count ∙ many) given
            (record {
              go = λ m2 c2 vs xs agree later result.
                  let more = later_less (called_before m1 c1.memory) (within p) m1 m2 c1.memory c2 (within_called p m1 c1 fits1) later in
                  less_fuel p.world p.program n j _ _ (omega (arith, less))
                  (results_same p n d m c m2 (with_memory c2 c1) f.result vs xs s (meaning.statements rest next) routine.result result
                  (fits_later p m1 m2 c1 (with_memory c2 c1) fits1 agree more refl (λ k less. refl))
                  (later_on (within p) m m1 m2 c.memory c1.memory c2 later1 more) kept1 goes);
            }));
      }));
}
  where
    calls : List Statement
    calls = Call (results_in f.result d) (number_of p.world.functions name) (from_on d count) ∷ []

    none : d ≡ d + 0
    none = omega arith
