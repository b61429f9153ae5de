-- A function is entered and left, in the source and in Core, with each amount of fuel.
use Rattle.std.proofs.Common.{
  ◌≡◌,
  ℕ,
  zero,
  suc,
  ◌+◌,
  ◌≤◌,
  inl,
  inr,
  List,
  [],
  ◌∷◌,
  ◌++◌,
  length,
  Bool,
  true,
  false,
  nat_eq,
  Option,
  Some,
  None,
  refl,
  sym,
  ap,
  ◌∙◌,
  subst,
  arith,
}
use Rattle.std.specs.Prelude.{map, slice_get, if◌then◌else◌}
use Rattle.std.proofs.lemmas.Bool.{eq-eqb}
use Rattle.cyc_words.specs.Events as events
use Rattle.step_trees.specs.Trees.{Says}
use Rattle.source_meaning.specs.Shapes.{Shape, IntShape, UnsignedShape, CharShape, VoidShape, ThinShape, FatShape, HandleShape, KeyShape, StructShape}
use Rattle.source_meaning.specs.Shapes.{UnionShape, ArrayShape, part_shapes}
use Rattle.source_meaning.specs.Memory as source
use Rattle.source_meaning.specs.Memory.{AsInt, Integer, Scalar}
use Rattle.source_meaning.specs.Steps as steps
use Rattle.source_meaning.specs.Steps.{World, Routine, Scope, Flow, give}
use Rattle.source_meaning.specs.Regions.{in_block}
use Rattle.source_meaning.specs.Statements as meaning_of
use Rattle.source_meaning.specs.Programs.{is_main, result_of, result_at_end, with_arguments}
use Rattle.core_meaning.specs.Memory as core
use Rattle.core_meaning.specs.Memory.{Content, Word, with_standing}
use Rattle.core_meaning.specs.Core.{Program, Function, Statements, NoStatements, Local}
use Rattle.core_meaning.specs.Steps as core_steps
use Rattle.core_meaning.specs.Steps.{Config, with_temp}
use Rattle.core_meaning.specs.Meaning as meaning
use Rattle.core_meaning.specs.Meaning.{passed_in}
use Rattle.source_lowering.specs.Lowered.{number_of, all_of}
use Rattle.source_lowering.specs.Members.{all_words}
use Rattle.source_lowering.specs.Programs.{no_regions, locals_of, block_shapes, end_code, body_code, function_code, routine_values}
use Rattle.source_lowering.specs.Simulation.{Shown, SameMemory, Grown, HasStatics, Same, Next, BothCalled, BothReturned, Bound, nothing}
use Rattle.source_lowering.proofs.memory.Keeping.{later_on, statics_later, IsLess, later_less}
use Rattle.source_lowering.proofs.Runs.{stuck_same, says_same}
use Rattle.source_lowering.proofs.values.Integers.{IsTaken, word_shown}
use Rattle.source_lowering.proofs.expressions.Names.{IsRoutine, IsPlainWorld}
use Rattle.source_lowering.proofs.memory.Entering.{source_in, entered_later}
use Rattle.source_lowering.proofs.memory.Owning.{own_gone, gone_later, gone_agree, own_later, own_agree, own_made, own_live, own_counted}
use Rattle.source_lowering.proofs.expressions.Calls.{AllGiven, ResultIs, Returning, EntersAs, CallsAs, called_before}
use Rattle.source_lowering.proofs.statements.Blocks.{result_later, entered_fits, next_out, after_out, ways_out, HasOwn}
use Rattle.source_lowering.proofs.expressions.EachExpression.{Known}
use Rattle.source_lowering.proofs.expressions.Numbered.{AreNumbered}
use Rattle.source_lowering.proofs.statements.EachStatement.{given_later, body_same}
use Rattle.source_lowering.specs.Programs.{parameter_names}

-- ---- the numbers of functions

pub mapped : (w : World) (fs : List Routine) (k : ℕ) (f : Routine) → slice_get fs k ≡ Some f → slice_get (map (function_code w) fs) k ≡ Some (function_code w f)
mapped w [] k f e = absurd (cc e)
mapped w (g ∷ fs) zero f e = ap (code_in (function_code w g)) e
  where
    code_in : Function → Option Routine → Option Function
    code_in h None = Some h
    code_in h (Some r) = Some (function_code w r)
mapped w (g ∷ fs) (suc k) f e = mapped w fs k f e

-- ---- the ways out of a body

-- what comes after a call in the source, by how the body is left
abbrev left_by : Routine → (List Scalar → source.Memory → steps.Step) → Flow → source.Memory → steps.Step
left_by f s flow = result_of f flow (λ vs m. Says (events.Returned f.name) (s vs m))

-- and in Core, whose code goes on to the function's end
abbrev ended : Routine → ℕ → ℕ → (List Content → core.Memory → core_steps.Step) → Next
ended f number own k = λ exit. meaning.falls_to exit (meaning.statements (all_of (end_code f.result)) (meaning.left number own k)) (meaning.left number own k)

-- a return, with a result
returned_same : (w : World) (fs : Program) (n number own : ℕ) (f : Routine) (m0 : source.Memory) (c0 : core.Memory)
    (s : List Scalar → source.Memory → steps.Step) (k : List Content → core.Memory → core_steps.Step) (m : source.Memory) (c : Config) (vs : List Scalar)
    (xs : List Content) → c0.calls ≤ own → slice_get w.functions number ≡ Some f → Returning w fs n m0 c0 f.result s k → SameMemory w m c.memory
    → Grown (called_before m0 c0) m0 c0 m c.memory → ResultIs w m c.memory f.result vs xs
    → Same w fs n (Says (events.Returned f.name) (s vs m)) (meaning.left number own k (core_steps.Returns xs) c)
returned_same w fs n number own f m0 c0 s k m c vs xs first numbered goes a l r =
    let c' : core.Memory = own_gone c.memory own in
    let more = gone_later (called_before m0 c0) m c.memory own (omega (arith, first)) in
    says_same w fs n (events.Returned f.name) (core_steps.Returned number) (s vs m) (k xs (with_standing c.memory (core.Own own) core.Dead))
    (BothReturned number f numbered)
    (goes.go m c' vs xs (gone_agree w m c.memory own a) (later_on (called_before m0 c0) m0 m m c0 c.memory c' l more)
    (result_later (called_before m0 c0) w m m c.memory c' f.result vs xs more r))

-- the end of a body without `return`
end_same : (w : World) (fs : Program) (n number own : ℕ) (f : Routine) (m0 : source.Memory) (c0 : core.Memory) (s : List Scalar → source.Memory → steps.Step)
    (k : List Content → core.Memory → core_steps.Step) (m : source.Memory) (c : Config) → c0.calls ≤ own → slice_get w.functions number ≡ Some f → IsRoutine w f
    → Returning w fs n m0 c0 f.result s k → SameMemory w m c.memory → Grown (called_before m0 c0) m0 c0 m c.memory
    → Same w fs n (left_by f s steps.Falls m) (ended f number own k core_steps.Falls c)
end_same w fs n number own f m0 c0 s k m c first numbered routine goes a l = by f.result refl routine.result
  where
    again : List Scalar → source.Memory → steps.Step
    again vs m' = Says (events.Returned f.name) (s vs m')

    left : Next
    left = meaning.left number own k

    nothing : f.result ≡ VoidShape → Same w fs n (result_at_end f VoidShape again m) (meaning.statements (all_of (end_code VoidShape)) left c)
    nothing e = returned_same w fs n number own f m0 c0 s k m c [] [] first numbered goes a l (inr (record {
      nothing = refl;
      value = record
          { void = e; none = refl };
    }))

    zero_result : f.result ≡ IntShape → Same w fs n (again (Integer AsInt 0 ∷ []) m) (meaning.statements (all_of (end_code IntShape)) left c)
    zero_result e =
        let c' : Config = with_temp 0 (Word 0) c in
        returned_same w fs n number own f m0 c0 s k m c' (Integer AsInt 0 ∷ []) (c'.temps 0 ∷ []) first numbered goes a l
        (inl (record {
          value = Integer AsInt 0;
          alone = refl;
          shown = subst (λ z. Shown w m c.memory z (Integer AsInt 0) (c'.temps 0 ∷ [])) (sym e) (word_shown w m c.memory AsInt 0 (omega arith));
        }))

    main_alone : (b : Bool) (of : Shape) → is_main f.name ≡ b → f.result ≡ of → (code : Statements) → (of ≡ IntShape → code ≡ all_of (end_code IntShape))
        → Same w fs n ((if b then give (Integer AsInt 0 ∷ []) else steps.stuck) again m) (meaning.statements code left c)
    main_alone false of e g code same = stuck_same w fs n _
    main_alone true of e g code same =
        let int : f.result ≡ IntShape = routine.main e in
        subst (λ z. Same w fs n (again (Integer AsInt 0 ∷ []) m) (meaning.statements z left c)) (sym (same (sym g ∙ int))) (zero_result int)

    by : (of : Shape) → f.result ≡ of → IsTaken of → Same w fs n (result_at_end f f.result again m) (meaning.statements (all_of (end_code f.result)) left c)
    by IntShape e taken = rw e (main_alone (is_main f.name) IntShape refl e (all_of (end_code IntShape)) (λ z. refl))
    by UnsignedShape e taken = rw e (main_alone (is_main f.name) UnsignedShape refl e (all_of (end_code UnsignedShape)) (λ z. refl))
    by CharShape e taken = rw e (main_alone (is_main f.name) CharShape refl e (all_of (end_code CharShape)) (λ z. refl))
    by VoidShape e taken = rw e (nothing e)
    by (ThinShape may_be_null owner to) e taken =
        rw e (main_alone (is_main f.name) (ThinShape may_be_null owner to) refl e (all_of (end_code (ThinShape may_be_null owner to))) (λ z. refl))
    by (FatShape to) e taken = rw e (main_alone (is_main f.name) (FatShape to) refl e (all_of (end_code (FatShape to))) (λ z. refl))
    by HandleShape e taken = rw e (main_alone (is_main f.name) HandleShape refl e (all_of (end_code HandleShape)) (λ z. refl))
    by KeyShape e taken = rw e (main_alone (is_main f.name) KeyShape refl e (all_of (end_code KeyShape)) (λ z. refl))
    by (StructShape tag) e taken = absurd taken
    by (UnionShape tag) e taken = absurd taken
    by (ArrayShape count of) e taken = absurd taken

-- ---- a function is entered

-- the body's block, from memories that agree
entered_same : (w : World) (fs : Program) (n number : ℕ) (f : Routine) (vss : List (List Scalar)) (m : source.Memory)
    (c : core.Memory) (c0 : Config) (s : List Scalar → source.Memory → steps.Step) (k : List Content → core.Memory → core_steps.Step)
    → IsPlainWorld w → CallsAs w fs n → slice_get w.functions number ≡ Some f → IsRoutine w f → SameMemory w m c0.memory → HasStatics w m c0.memory
    → AllGiven w m c0.memory (part_shapes f.parameters) vss 0 c0.temps → c0.blocks ≡ []
    → HasOwn w c0 c.calls (routine_values w f) → Grown (called_before m c) m c m c0.memory
    → Returning w fs n m c f.result s k
    → Same w fs n (in_block (λ frame. with_arguments f.parameters vss (meaning_of.block_items f.body) (record {
      world = w;
      locals = [];
      frame = frame;
      result
          = f.result;
    })) (left_by f s) m) (meaning.statements (body_code w f) (meaning.left number c.calls k) c0)
entered_same w fs n number f vss m c c0 s k plain calls numbered routine agree statics given blocks has later goes =
    body_same f.parameters f.body scope known (length f.parameters) n 0 (all_words (part_shapes f.parameters))
    vss routine.parameters routine.body values_numbered
    (omega arith) (record { world = plain; locals = tt; words = tt }) routine.result calls (omega arith) (omega arith) (omega arith) refl
    (source_in m) inside (next_out (left_by f s) m.activations) NoStatements (after_out (ended f number c.calls k) c0)
    (entered_fits w fs [] [] [] shapes m c0 c.calls (routine_values w f) 0 no_regions agree blocks has tt statics)
    (given_later nothing w m (source_in m) c0.memory inside.memory (part_shapes f.parameters) vss 0 c0.temps
    (entered_later nothing w m c0.memory (locals_of w shapes) agree) given)
    (ways_out w fs n no_regions inside_bound shapes m c0 f.result (left_by f s) (ended f number c.calls k) agree (omega arith) (record {
      falls = λ m' c' o. end_same w fs n number c.calls f m c s k m' c' (omega arith) numbered routine goes o.agree (on m' c' o.later);
      breaks = λ m' c' o. stuck_same w fs n _;
      continues = λ m' c' o. stuck_same w fs n _;
      returns = λ m' c' vs ys o r.
          returned_same w fs n number c.calls f m c s k m' c' vs ys (omega arith) numbered goes o.agree (on m' c' o.later) r;
    }))
  where
    scope : Scope
    scope = record { world = w; locals = []; frame = m.activations; result = f.result }

    shapes : List Shape
    shapes = part_shapes f.parameters ++ block_shapes w (parameter_names f.parameters 0 []) (length f.parameters) f.body

    values_numbered : AreNumbered (routine_values w f) 0 (routine_values w f)
    values_numbered i s e = ap (slice_get (routine_values w f)) (zero_on i) ∙ e
      where
        zero_on : (i : ℕ) → 0 + i ≡ i
        zero_on i = omega arith

    known : Known
    known = record {
      program = fs;
      names = [];
      outer = [];
      made = 0;
      pending = shapes;
      own = c.calls;
      owned = routine_values w f;
      kept = 0;
      regions = no_regions;
    }

    inside : Config
    inside = meaning.in_block (locals_of w shapes) c0

    -- what the body keeps
    inside_bound : Bound
    inside_bound = record { frames = m.activations; standing = suc c.calls; own = c.calls; values = 0 }

    less : IsLess (called_before m c) inside_bound
    less = record { frames = omega arith; standing = omega arith; kept = λ k i h. h }

    on : (m' : source.Memory) (c' : Config) → Grown inside_bound m c0.memory m' c'.memory → Grown (called_before m c) m c m' c'.memory
    on m' c' l = later_on (called_before m c) m m m' c c0.memory c'.memory later
        (later_less inside_bound (called_before m c) m m' c0.memory c'.memory less l)

-- a call of a function by its number
pub enters_same : (w : World) (fs : Program) (n : ℕ) → IsPlainWorld w → fs.functions ≡ map (function_code w) w.functions → CallsAs w fs n → EntersAs w fs n
enters_same w fs n plain functions calls = record {
  same = λ name f vss xs m c s k numbered routine agree statics many given goes.
      let number : ℕ = number_of w.functions name in
      let found : slice_get fs.functions number ≡ Some (function_code w f) = ap (λ z. slice_get z number) functions ∙ mapped w w.functions number f numbered in
      let c0 : Config = meaning.entered (function_code w f) xs c in
      let locals : List Local = locals_of w (routine_values w f) in
      let more = own_later (called_before m c) w m c locals agree (omega arith) (omega arith) refl in
      let words : ℕ = all_words (part_shapes f.parameters) in
      let counted : nat_eq (length xs) words ≡ true = eq-eqb (length xs) words many in
      rw (found, counted)
      (says_same w fs n (events.Called f.name) (core_steps.Called number) _ _ (BothCalled number f numbered)
      (entered_same w fs n number f vss m c c0 s k plain calls numbered routine (own_agree w m c locals agree)
      (statics_later (called_before m c) w m m c c0.memory more statics)
      (given_later (called_before m c) w m m c c0.memory (part_shapes f.parameters) vss 0 (passed_in xs) more given) refl (record {
        is = refl;
        called = own_counted c locals;
        stands = own_live c locals;
        values = own_made w m c (routine_values w f) agree;
      }) more goes));
}

-- with each amount of fuel up to one
enters_to : (n : ℕ) (w : World) (fs : Program) → IsPlainWorld w → fs.functions ≡ map (function_code w) w.functions → (j : ℕ) → j ≤ n → EntersAs w fs j
enters_to zero w fs plain functions j h = enters_same w fs j plain functions (λ i less. absurd (omega (arith, h, less)))
enters_to (suc n) w fs plain functions j h = enters_same w fs j plain functions (λ i less. enters_to n w fs plain functions i (omega (arith, h, less)))

pub enters_always : (w : World) (fs : Program) (n : ℕ) → IsPlainWorld w → fs.functions ≡ map (function_code w) w.functions → EntersAs w fs n
enters_always w fs n plain functions = enters_to n w fs plain functions n (omega arith)
