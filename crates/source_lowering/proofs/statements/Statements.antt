-- Each form of a statement does the same as its code, where its parts do.
use Rattle.std.proofs.Common.{◌≡◌, ℕ, zero, suc, ◌≤◌, inl, inr, ⊎_elim, List, [], ◌∷◌, ◌++◌, Bool, true, false, refl, sym, ap, ◌∙◌, subst, arith}
use Rattle.step_trees.specs.Trees.{Turns}
use Rattle.cyc_tree.specs.Tree as tree
use Rattle.cyc_tree.specs.Tree.{Expression}
use Rattle.source_meaning.specs.Shapes.{
  Shape,
  IntShape,
  UnsignedShape,
  CharShape,
  VoidShape,
  ThinShape,
  FatShape,
  HandleShape,
  KeyShape,
  StructShape,
  UnionShape,
  ArrayShape,
}
use Rattle.source_meaning.specs.Memory as source
use Rattle.source_meaning.specs.Memory.{Scalar}
use Rattle.source_meaning.specs.Steps as steps
use Rattle.source_meaning.specs.Steps.{World, Scope, Flow, Act, give, choose, ◌>>=◌, ◌>>◌}
use Rattle.source_meaning.specs.Conversions.{converted}
use Rattle.source_meaning.specs.Places.{Sense}
use Rattle.source_meaning.specs.Calls.{truth}
use Rattle.source_meaning.specs.Expressions.{sense}
use Rattle.source_meaning.specs.Statements as source_statements
use Rattle.source_meaning.specs.Programs as programs
use Rattle.core_meaning.specs.Core.{Statement, If, While, Break, Continue, Return, Statements, NoStatements, MoreStatements}
use Rattle.core_meaning.specs.Steps as core_steps
use Rattle.core_meaning.specs.Steps.{Config}
use Rattle.core_meaning.specs.Meaning as meaning
use Rattle.core_meaning.specs.Meaning.{values_of}
use Rattle.source_lowering.specs.Lowered.{put, all_of, results_in, conversion_code}
use Rattle.source_lowering.specs.Programs.{in_loop, leaving_code}
use Rattle.source_lowering.specs.Simulation.{Bound, Point, SameState, SameAt, Next, around, AValue, ANothing, Given, GivesAs, contents_in}
use Rattle.source_lowering.proofs.memory.Keeping.{less_self, around_items, later_self, later_less, later_around, blocks_of, fits_on}
use Rattle.source_lowering.proofs.Runs.{turns_same, put_all}
use Rattle.source_lowering.proofs.values.Integers.{IsTaken, IsValueShape}
use Rattle.source_lowering.proofs.values.AnyValues.{value_given}
use Rattle.source_lowering.proofs.values.Values.{put_three}
use Rattle.source_lowering.proofs.expressions.Variables.{Agrees}
use Rattle.source_lowering.proofs.values.Conversions.{converted_gives}
use Rattle.source_lowering.proofs.values.Tests.{Decides, truth_decided}
use Rattle.source_lowering.proofs.expressions.Calls.{ResultIs}
pub use Rattle.source_lowering.proofs.statements.Ways.{freed, Onward, WaysOn, RunsAs, onward_self, onward_behind, onward_on, ways_less, ways_later, ways_inside}
pub use Rattle.source_lowering.proofs.statements.Ways.{leaving_runs, freed_keeps}

-- ---- simple statements

pub falls_same : (p : Point) (n b : ℕ) (result : Shape) → RunsAs p n b result (give steps.Falls) []
falls_same p n b result = record { same = λ m c next rest after fits ways. ways.falls m c (onward_self p p.regions.all b m c fits) }

pub breaks_same : (p : Point) (n b : ℕ) (result : Shape)
    → RunsAs p n b result (give steps.Breaks) (leaving_code p.regions.opened p.regions.all p.regions.broken ++ (Break ∷ []))
breaks_same p n b result = record {
  same = λ m c next rest after fits ways.
      subst (λ z. SameAt p n (next steps.Breaks m) z)
      (sym (ap (λ z. meaning.statements z after c) (put_all (leaving_code p.regions.opened p.regions.all p.regions.broken) (Break ∷ []) rest)
      ∙ leaving_runs p.regions.opened p.regions.all p.regions.broken (MoreStatements Break rest) after c))
      (ways.breaks m c (onward_self p p.regions.all b m c fits));
}

pub continues_same : (p : Point) (n b : ℕ) (result : Shape)
    → RunsAs p n b result (give steps.Continues) (leaving_code p.regions.opened p.regions.all p.regions.continued ++ (Continue ∷ []))
continues_same p n b result = record {
  same = λ m c next rest after fits ways.
      subst (λ z. SameAt p n (next steps.Continues m) z)
      (sym (ap (λ z. meaning.statements z after c) (put_all (leaving_code p.regions.opened p.regions.all p.regions.continued) (Continue ∷ []) rest)
      ∙ leaving_runs p.regions.opened p.regions.all p.regions.continued (MoreStatements Continue rest) after c))
      (ways.continues m c (onward_self p p.regions.all b m c fits));
}

-- an expression whose value is dropped
pub run_same : (p : Point) (n : ℕ) (result : Shape) (e : Sense) (shape : Shape) (code : List Statement) → GivesAs p n p.regions.all shape e.value code
    → RunsAs p n (suc p.frame) result (e.value >>= λ vs. give steps.Falls) code
run_same p n result e shape code one = record {
  same = λ m c next rest after fits ways.
      one.same m c (λ vs. next steps.Falls) rest after fits (record {
        above = omega arith;
        go = λ m2 c2 vs fits2 later2 kept2 given2. ways.falls m2 c2 (onward_behind p m m2 c c2 fits fits2 later2 kept2);
      });
}

-- a result in its temporaries
result_here : (w : World) (d : ℕ) (m : source.Memory) (c : Config) (shape : Shape) (vs : List Scalar) → IsTaken shape
    → Given w m c.memory shape vs (contents_in d shape c.temps) → ResultIs w m c.memory shape vs (values_of c.temps (results_in shape d))
result_here w d m c shape vs taken given = by shape taken given
  where
    some : (of : Shape) → IsValueShape of → Given w m c.memory of vs (contents_in d of c.temps) → ResultIs w m c.memory of vs (contents_in d of c.temps)
    some of is_value g = inl (value_given w m c.memory of vs (contents_in d of c.temps) is_value g)

    none : Given w m c.memory VoidShape vs (c.temps d ∷ []) → ResultIs w m c.memory VoidShape vs []
    none g =
        ⊎_elim (λ (v : AValue w m c.memory VoidShape vs (c.temps d ∷ [])). absurd v.shown)
        (λ (v : ANothing VoidShape vs). inr (record { nothing = refl; value = v })) g

    by : (of : Shape) → IsTaken of → Given w m c.memory of vs (contents_in d of c.temps) → ResultIs w m c.memory of vs (values_of c.temps (results_in of d))
    by IntShape h g = some IntShape tt g
    by UnsignedShape h g = some UnsignedShape tt g
    by CharShape h g = some CharShape tt g
    by VoidShape h g = none g
    by (ThinShape may_be_null owner to) h g = some (ThinShape may_be_null owner to) h g
    by (FatShape to) h g = some (FatShape to) h g
    by HandleShape h g = some HandleShape tt g
    by KeyShape h g = some KeyShape tt g
    by (StructShape tag) h g = absurd h
    by (UnionShape tag) h g = absurd h
    by (ArrayShape count of) h g = absurd h

pub return_same : (p : Point) (n : ℕ) (result : Shape) (e : Sense) (from : Shape) (code : List Statement) → IsTaken result
    → Agrees p n p.regions.all e from code
    → RunsAs p n (suc p.frame) result (e.value >>= converted p.world result e.shape >>= λ vs. give (steps.Returns vs))
    (code ++ (conversion_code p.world result from p.regions.all ++
    (leaving_code p.regions.opened p.regions.all p.regions.all ++ (Return (results_in result p.regions.all) ∷ []))))
return_same p n result e from code taken one = record {
  same = λ m c next rest after fits ways.
      subst (λ z. SameAt p n (e.value (λ vs. converted p.world result e.shape vs (λ us. next (steps.Returns us))) m) (meaning.statements z after c))
      (sym (put_three code (conversion_code p.world result from d) leaves rest ∙ sym (put_all code (conversion_code p.world result from d) (put leaves rest))))
      ((converted_gives p n d result e from code taken one).same m c (λ us. next (steps.Returns us)) (put leaves rest) after fits
      (record {
        above = omega arith;
        go = λ m2 c2 vs fits2 later2 kept2 given2.
            subst (λ z. SameAt p n (next (steps.Returns vs) m2) z) (sym (leaves_run rest after c2))
            (ways.returns m2 c2 vs (values_of c2.temps (results_in result d)) (onward_behind p m m2 c c2 fits fits2 later2 kept2)
            (result_here p.world d m2 c2 result vs taken given2));
      }));
}
  where
    d : ℕ
    d = p.regions.all

    leaves : List Statement
    leaves = leaving_code p.regions.opened d d ++ (Return (results_in result d) ∷ [])

    leaves_run : (rest : Statements) (after : Next) (c : Config)
        → meaning.statements (put leaves rest) after c ≡ freed p.regions.opened d d (after (core_steps.Returns (values_of c.temps (results_in result d)))) c
    leaves_run rest after c =
        ap (λ z. meaning.statements z after c) (put_all (leaving_code p.regions.opened d d) (Return (results_in result d) ∷ []) rest)
        ∙ leaving_runs p.regions.opened d d (MoreStatements (Return (results_in result d)) rest) after c
        ∙ freed_keeps p.regions.opened d d (λ xs. after (core_steps.Returns xs)) (results_in result d) c

-- `return;` in a function that gives nothing; elsewhere the source goes on with no value
pub leave_same : (p : Point) (n b : ℕ) (result : Shape) → result ≡ VoidShape
    → RunsAs p n b result (give (steps.Returns [])) (leaving_code p.regions.opened p.regions.all p.regions.all ++ (Return [] ∷ []))
leave_same p n b result void = record {
  same = λ m c next rest after fits ways.
      subst (λ z. SameAt p n (next (steps.Returns []) m) z)
      (sym (ap (λ z. meaning.statements z after c) (put_all (leaving_code p.regions.opened p.regions.all p.regions.all) (Return [] ∷ []) rest)
      ∙ leaving_runs p.regions.opened p.regions.all p.regions.all (MoreStatements (Return []) rest) after c))
      (ways.returns m c [] [] (onward_self p p.regions.all b m c fits)
      (inr (record { nothing = refl; value = record { void = void; none = refl } })));
}

-- ---- one of two statements

choice_by : (t : Bool) (p : Point) (n b : ℕ) (result : Shape) (first second : Act Flow) (these those : List Statement) (m : source.Memory) (c : Config)
    (next : Flow → source.Memory → steps.Step) (rest : Statements) (after : Next) → Decides t (c.temps p.regions.all) → RunsAs p n b result first these
    → RunsAs p n b result second those → SameState p m c
    → WaysOn p.world p.program n p.regions (around p b) m c result next (meaning.statements rest after) after
    → SameAt p n (choose t first second next m) (meaning.statements (MoreStatements (If p.regions.all (all_of these) (all_of those)) rest) after c)
choice_by true p n b result first second these those m c next rest after decides one other fits ways =
    let inner : Next = λ exit. meaning.falls_to exit (meaning.statements rest after) after in
    subst (λ z. SameAt p n (first next m) z)
    (sym (decides.branches (meaning.statements (all_of these) inner c) (meaning.statements (all_of those) inner c)))
    (one.same m c next NoStatements inner fits (ways_inside p.world p.program n p.regions (around p b) m c result next rest after ways))
choice_by false p n b result first second these those m c next rest after decides one other fits ways =
    let inner : Next = λ exit. meaning.falls_to exit (meaning.statements rest after) after in
    subst (λ z. SameAt p n (second next m) z)
    (sym (decides.branches (meaning.statements (all_of these) inner c) (meaning.statements (all_of those) inner c)))
    (other.same m c next NoStatements inner fits (ways_inside p.world p.program n p.regions (around p b) m c result next rest after ways))

pub choice_same : (p : Point) (n : ℕ) (result : Shape) (condition : Sense) (shape : Shape) (test : List Statement) (first second : Act Flow)
    (these those : List Statement) → Agrees p n p.regions.all condition shape test → RunsAs p n (suc p.frame) result first these
    → RunsAs p n (suc p.frame) result second those → RunsAs p n (suc p.frame) result (truth condition >>= λ t. choose t first second)
    (test ++ (If p.regions.all (all_of these) (all_of those) ∷ []))
choice_same p n result condition shape test first second these those looks one other = record {
  same = λ m c next rest after fits ways.
      subst (λ z. SameAt p n (truth condition (λ t. choose t first second next) m) (meaning.statements z after c))
      (sym (put_all test (If p.regions.all (all_of these) (all_of those) ∷ []) rest))
      (truth_decided p n p.regions.all condition shape test m c (λ t. choose t first second next)
      (MoreStatements (If p.regions.all (all_of these) (all_of those)) rest) after
      looks.taken looks.looks fits (record {
        above = omega arith;
        go = λ m2 c2 t fits2 later2 kept2 decides2.
            choice_by t p n (suc p.frame) result first second these those m2 c2 next rest after decides2 one other fits2
            (ways_later p.world p.program n p.regions (around p (suc p.frame)) (around p (suc p.frame)) m m2 c c2 result next (meaning.statements rest after)
            after (less_self (around p (suc p.frame))) (later_around p m m2 c c2 later2) (blocks_of p m m2 c c2 fits fits2) kept2 ways);
      }));
}

-- one statement and then others; what the others declare is in this block
pub sequence_same : (p : Point) (n : ℕ) (result : Shape) (first second : Act Flow) (these those : List Statement)
    → RunsAs p n (suc p.frame) result first these → RunsAs p n p.frame result second those
    → RunsAs p n p.frame result (first >>= λ flow. source_statements.falls_to flow second) (these ++ those)
sequence_same p n result first second these those one other = record {
  same = λ m c next rest after fits ways.
      let more = ways_later p.world p.program n p.regions (around p p.frame) (around p (suc p.frame)) m m c c result next (meaning.statements rest after) after
      (around_items p) (later_self (around p p.frame) m c.memory) refl (λ k less. refl) ways in
      subst (λ z. SameAt p n (first (λ flow. source_statements.falls_to flow second next) m) (meaning.statements z after c)) (sym (put_all these those rest))
      (one.same m c (λ flow. source_statements.falls_to flow second next) (put those rest) after fits (record {
        falls = λ m2 c2 o.
            other.same m2 c2 next rest after (fits_on p m m2 c c2 fits o.agree o.later o.active o.kept)
            (ways_later p.world p.program n p.regions (around p p.frame) (around p p.frame) m m2 c c2 result next (meaning.statements rest after) after
            (less_self (around p p.frame)) (later_less (around p (suc p.frame)) (around p p.frame) m m2 c.memory c2.memory (around_items p) o.later) o.active
            o.kept ways);
        breaks = more.breaks;
        continues = more.continues;
        returns = more.returns;
      }));
}

-- ---- loops

-- the place within a loop
abbrev pub looped : Point → Point
looped p = record p { regions = in_loop p.regions }

fits_looped : (p : Point) (m : source.Memory) (c : Config) → SameState p m c → SameState (looped p) m c
fits_looped p m c f = record {
  agree = f.agree;
  blocks = f.blocks;
  locals = f.locals;
  statics = f.statics;
  begun = f.begun;
  made = f.made;
  pending = f.pending;
  own = f.own;
  called = f.called;
  stands = f.stands;
  owned = f.owned;
}

-- a loop, whose test leaves its value in the first free temporary
abbrev pub loop_code : Point → (test these : List Statement) → Statement
loop_code p test these = While (all_of test) p.regions.all (all_of these)

-- a loop does the same as its code, with so much fuel
pub record LoopsAs (p : Point) (n : ℕ) (result : Shape) (scope : Scope) (condition : Expression) (body : tree.Statement) (code : Statement) : Type 0 where
  pub same : (m : source.Memory) (c : Config) (next : Flow → source.Memory → steps.Step) (after : Next) → SameState p m c
      → WaysOn p.world p.program n p.regions (around p (suc p.frame)) m c result next (after core_steps.Falls) after
      → SameAt p n (source_statements.loop condition body scope next m) (meaning.statement code after c)

-- a turn, after which comes the loop with less fuel
turn_same : (p : Point) (n j : ℕ) (result : Shape) (scope : Scope) (condition : Expression) (body : tree.Statement) (test these : List Statement)
    (m : source.Memory) (c : Config) (next : Flow → source.Memory → steps.Step) (after : Next) → suc j ≤ n
    → RunsAs (looped p) j (suc p.frame) result (source_statements.statement body scope) these → LoopsAs p j result scope condition body (loop_code p test these)
    → SameState p m c → WaysOn p.world p.program n p.regions (around p (suc p.frame)) m c result next (after core_steps.Falls) after
    → SameAt p j (programs.turned condition body scope next m)
    (meaning.turned (record { test = all_of test; flag = p.regions.all; body = all_of these }) after c)
turn_same p n j result scope condition body test these m c next after less runs again fits ways =
    let b : Bound = around p (suc p.frame) in
    let fewer = ways_less p.world p.program n j p.regions b m c result next (after core_steps.Falls) after (omega (arith, less)) ways in
    let code : Statement = loop_code p test these in
    let once : (m2 : source.Memory) (c2 : Config) → Onward p.world p.regions.all b m c m2 c2
    → SameAt p j (source_statements.loop condition body scope next m2) (meaning.statement code after c2) =
    λ m2 c2 o. again.same m2 c2 next after (fits_on p m m2 c c2 fits o.agree o.later o.active o.kept) (ways_later p.world p.program j p.regions b b m m2 c c2
    result next (after core_steps.Falls) after (less_self b) o.later o.active o.kept fewer) in
    runs.same m c (λ flow m2. source_statements.after_turn flow (source_statements.loop condition body scope) next m2) NoStatements
    (λ exit. meaning.after_turn exit (meaning.statement code after) after) (fits_looped p m c fits) (record {
      falls = once;
      breaks = fewer.falls;
      continues = once;
      returns = fewer.returns;
    })

one_loop : (p : Point) (n : ℕ) (result : Shape) (scope : Scope) (condition : Expression) (body : tree.Statement) (shape : Shape) (test these : List Statement)
    → Agrees p n p.regions.all (sense condition scope) shape test
    → ((j : ℕ) → suc j ≤ n → RunsAs (looped p) j (suc p.frame) result (source_statements.statement body scope) these)
    → ((j : ℕ) → suc j ≤ n → LoopsAs p j result scope condition body (loop_code p test these))
    → LoopsAs p n result scope condition body (loop_code p test these)
one_loop p n result scope condition body shape test these looks runs again = record {
  same = λ m c next after fits ways.
      let tested : Next =
      λ exit. meaning.falls_to exit (λ now. meaning.branch (now.temps p.regions.all) (Turns loop after now) (after core_steps.Falls now)) after in
      truth_decided p n p.regions.all (sense condition scope) shape test m c (λ t. choose t (steps.take_turn condition body scope) (give steps.Falls) next)
      NoStatements tested looks.taken looks.looks fits (record {
        above = omega arith;
        go = λ m2 c2 t fits2 later2 kept2 decides2.
            by t m2 c2 next after decides2 fits2
            (ways_later p.world p.program n p.regions (around p (suc p.frame)) (around p (suc p.frame)) m m2 c c2 result next (after core_steps.Falls) after
            (less_self (around p (suc p.frame))) (later_around p m m2 c c2 later2) (blocks_of p m m2 c c2 fits fits2) kept2 ways);
      });
}
  where
    loop : core_steps.LoopTurn
    loop = record { test = all_of test; flag = p.regions.all; body = all_of these }

    by : (t : Bool) (m : source.Memory) (c : Config) (next : Flow → source.Memory → steps.Step) (after : Next) → Decides t (c.temps p.regions.all)
        → SameState p m c → WaysOn p.world p.program n p.regions (around p (suc p.frame)) m c result next (after core_steps.Falls) after
        → SameAt p n (choose t (steps.take_turn condition body scope) (give steps.Falls) next m)
        (meaning.branch (c.temps p.regions.all) (Turns loop after c) (after core_steps.Falls c))
    by false m c next after decides fits ways =
        subst (λ z. SameAt p n (next steps.Falls m) z) (sym (decides.branches (Turns loop after c) (after core_steps.Falls c)))
        (ways.falls m c (onward_self p p.regions.all (suc p.frame) m c fits))
    by true m c next after decides fits ways =
        subst (λ z. SameAt p n (steps.take_turn condition body scope next m) z) (sym (decides.branches (Turns loop after c) (after core_steps.Falls c)))
        (turns_same p.world p.program n (record { condition = condition; body = body; scope = scope }) next m loop after c
        (λ j less. turn_same p n j result scope condition body test these m c next after less (runs j less) (again j less) fits ways))

-- with each amount of fuel up to one
loops_to : (n : ℕ) (p : Point) (result : Shape) (scope : Scope) (condition : Expression) (body : tree.Statement) (shape : Shape) (test these : List Statement)
    → ((j : ℕ) → j ≤ n → Agrees p j p.regions.all (sense condition scope) shape test)
    → ((j : ℕ) → j ≤ n → RunsAs (looped p) j (suc p.frame) result (source_statements.statement body scope) these)
    → (j : ℕ) → j ≤ n → LoopsAs p j result scope condition body (loop_code p test these)
loops_to zero p result scope condition body shape test these looks runs j h =
    one_loop p j result scope condition body shape test these (looks j h) (λ i less. runs i (omega (arith, h, less)))
    (λ i less. absurd (omega (arith, h, less)))
loops_to (suc n) p result scope condition body shape test these looks runs j h =
    one_loop p j result scope condition body shape test these (looks j h) (λ i less. runs i (omega (arith, h, less)))
    (λ i less. loops_to n p result scope condition body shape test these (λ k g. looks k (omega (arith, g))) (λ k g. runs k (omega (arith, g))) i
    (omega (arith, h, less)))

pub loop_same : (p : Point) (n : ℕ) (result : Shape) (scope : Scope) (condition : Expression) (body : tree.Statement) (shape : Shape)
    (test these : List Statement) → ((j : ℕ) → j ≤ n → Agrees p j p.regions.all (sense condition scope) shape test)
    → ((j : ℕ) → j ≤ n → RunsAs (looped p) j (suc p.frame) result (source_statements.statement body scope) these)
    → RunsAs p n (suc p.frame) result (source_statements.loop condition body scope) (loop_code p test these ∷ [])
loop_same p n result scope condition body shape test these looks runs = record {
  same = λ m c next rest after fits ways.
      (loops_to n p result scope condition body shape test these looks runs n (omega arith)).same m c next (λ exit. meaning.falls_to exit
      (meaning.statements rest after) after) fits
      (ways_inside p.world p.program n p.regions (around p (suc p.frame)) m c result next rest after ways);
}
