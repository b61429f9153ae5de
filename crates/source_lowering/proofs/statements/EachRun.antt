-- Each expression that is a statement does the same as its code.
use Rattle.std.proofs.Common.{◌≡◌, ℕ, suc, ◌+◌, ◌<◌, ◌≤◌, List, [], ◌∷◌, ◌++◌, length, Bool, true, false, refl, sym, subst, arith}
use Rattle.std.specs.Prelude.{if◌then◌else◌}
use Rattle.cyc_tree.specs.Tree.{Expression}
use Rattle.source_meaning.specs.Shapes.{
  Shape,
  IntShape,
  UnsignedShape,
  CharShape,
  VoidShape,
  ThinShape,
  FatShape,
  HandleShape,
  KeyShape,
  StructShape,
  UnionShape,
  ArrayShape,
}
use Rattle.source_meaning.specs.Steps as steps
use Rattle.source_meaning.specs.Steps.{World, Scope, give, ◌>>=◌}
use Rattle.source_meaning.specs.Expressions.{sense}
use Rattle.core_meaning.specs.Core.{Statement, Do, Copy}
use Rattle.source_lowering.specs.Layouts.{layout_of}
use Rattle.source_lowering.specs.Lowered.{Named, static_shape, place_code, put_code, expression_code}
use Rattle.source_lowering.specs.Lowerable.{IsOperandShape, IsWholeShape, Takes, TakesPlace, TakesWhole, TakesAssigned, TakesDropped, TakesCalled, TakesRun}
use Rattle.source_lowering.specs.Whole.{makes_struct, expression_values, whole_values, whole_code, assigned_code, assigned_values, dropped_code, dropped_values}
use Rattle.source_lowering.specs.Whole.{run_code, run_values}
use Rattle.source_lowering.proofs.expressions.Calls.{CallsAs}
use Rattle.source_lowering.proofs.expressions.EachExpression.{Known, place_in, IsKnown, named_same, place_same, expression_same, known_keeping, keeping_known}
use Rattle.source_lowering.proofs.expressions.EachExpression.{whole_same}
use Rattle.source_lowering.specs.Simulation.{keeping}
use Rattle.source_lowering.proofs.expressions.Places.{IsPlaced}
use Rattle.source_lowering.proofs.statements.Statements.{RunsAs, run_same}
use Rattle.source_lowering.proofs.statements.Ways.{onward_behind}
use Rattle.source_lowering.proofs.expressions.Forms.{assigned_stores}
use Rattle.source_lowering.proofs.expressions.Numbered.{AreNumbered, numbered_first, numbered_after}
use Rattle.source_lowering.proofs.statements.WholeStatements.{whole_dropped, whole_assigned}

abbrev pub RunsTo : Scope → Known → ℕ → Expression → List Statement → Type 0
RunsTo scope k n e code = RunsAs (place_in scope k) n (suc scope.frame) scope.result ((sense e scope).value >>= λ vs. give steps.Falls) code

word_run : (e : Expression) (own : ℕ) (scope : Scope) (k : Known) → Takes scope.world k.names e
    → AreNumbered k.owned own (expression_values scope.world k.names e) → k.kept ≤ own → IsKnown scope k → (n : ℕ) → CallsAs scope.world k.program n
    → RunsTo scope k n e (expression_code scope.world k.names e k.regions.all own)
word_run e own scope k h numbered less known n calls =
    run_same (place_in scope k) n scope.result (sense e scope) (static_shape scope.world k.names e) (expression_code scope.world k.names e k.regions.all own)
    (expression_same e scope k h known n calls k.regions.all own numbered less).values

whole_run : (e : Expression) (own : ℕ) (scope : Scope) (k : Known) → TakesWhole scope.world k.names e
    → AreNumbered k.owned own (whole_values scope.world k.names e) → k.kept ≤ own → IsKnown scope k → (n : ℕ) → CallsAs scope.world k.program n
    → RunsTo scope k n e (whole_code scope.world k.names e k.regions.all own)
whole_run e own scope k h numbered less known n calls =
    whole_dropped (place_in scope k) n own scope.result (sense e scope) (whole_code scope.world k.names e k.regions.all own)
    (whole_same e scope k h known n calls k.regions.all own numbered).whole

-- what is read
dropped_run : (s : Shape) (e : Expression) (own : ℕ) (scope : Scope) (k : Known) → TakesDropped scope.world k.names s e
    → AreNumbered k.owned own (dropped_values scope.world k.names s e) → k.kept ≤ own → IsKnown scope k → (n : ℕ) → CallsAs scope.world k.program n
    → RunsTo scope k n e (dropped_code scope.world k.names s e k.regions.all own)
dropped_run (StructShape tag) e own scope k h numbered less known n calls = whole_run e own scope k h numbered less known n calls
dropped_run (UnionShape tag) e own scope k h numbered less known n calls = whole_run e own scope k h numbered less known n calls
dropped_run IntShape e own scope k h numbered less known n calls = word_run e own scope k h numbered less known n calls
dropped_run UnsignedShape e own scope k h numbered less known n calls = word_run e own scope k h numbered less known n calls
dropped_run CharShape e own scope k h numbered less known n calls = word_run e own scope k h numbered less known n calls
dropped_run VoidShape e own scope k h numbered less known n calls = word_run e own scope k h numbered less known n calls
dropped_run (ThinShape may_be_null owner to) e own scope k h numbered less known n calls = word_run e own scope k h numbered less known n calls
dropped_run (FatShape to) e own scope k h numbered less known n calls = word_run e own scope k h numbered less known n calls
dropped_run HandleShape e own scope k h numbered less known n calls = word_run e own scope k h numbered less known n calls
dropped_run KeyShape e own scope k h numbered less known n calls = word_run e own scope k h numbered less known n calls
dropped_run (ArrayShape count of) e own scope k h numbered less known n calls = word_run e own scope k h numbered less known n calls

-- a struct or a union has a value of its own
whole_some : (w : World) (names : List Named) (e : Expression) → TakesWhole w names e → 0 < length (whole_values w names e)
whole_some w names (Expression.Call name arguments) h = omega arith
whole_some w names (Expression.MakeUnion tag member value) h = omega arith
whole_some w names (Expression.Grouped at inner) h = whole_some w names inner h
whole_some w names (Expression.Variable name) h = omega arith
whole_some w names (Expression.Suffixed primary _) h = omega arith
whole_some w names (Expression.Prefixed at operator operand) h = omega arith
whole_some w names _ h = absurd h

-- a struct or a union that is assigned
assigned_whole : (s : Shape) (place value : Expression) (own : ℕ) (scope : Scope) (k : Known) → static_shape scope.world k.names place ≡ s
    → TakesPlace scope.world k.names place → TakesWhole scope.world k.names value → IsWholeShape scope.world.unions scope.world.structs s
    → AreNumbered k.owned own (whole_values scope.world k.names value ++ expression_values scope.world k.names place) → k.kept ≤ own → IsKnown scope k → (n : ℕ)
    → CallsAs scope.world k.program n → RunsTo scope k n (Expression.Assign place value)
    (whole_code scope.world k.names value k.regions.all own ++ (place_code scope.world k.names place (k.regions.all + 1)
    (own + length (whole_values scope.world k.names value)) ++ (Do (Copy (k.regions.all + 1) k.regions.all (layout_of scope.world s)) ∷ [])))
assigned_whole shape place value own scope k is takes takes_value whole numbered less known n calls =
    let values = whole_values scope.world k.names value in
    let behind = own + length values in
    whole_assigned (place_in scope k) n own scope.result (sense place scope) (sense value scope) shape (whole_code scope.world k.names value k.regions.all own)
    (place_code scope.world k.names place (k.regions.all + 1) behind) known.world.structs whole
    (whole_same value scope k takes_value known n calls k.regions.all own
    (numbered_first k.owned own values (expression_values scope.world k.names place) numbered)).whole
    (subst (λ z. IsPlaced (keeping (place_in scope k) (suc own)) n (k.regions.all + 1) (sense place scope) z
    (place_code scope.world k.names place (k.regions.all + 1) behind)) is
    (place_same place scope (known_keeping k (suc own)) takes (keeping_known scope k (suc own) known) n calls (k.regions.all + 1) behind
    (numbered_after k.owned own values (expression_values scope.world k.names place) numbered)
    (let some = whole_some scope.world k.names value takes_value in omega (arith, some))))

-- a word or a fat pointer that is assigned
stored_run : (place value : Expression) (own : ℕ) (scope : Scope) (k : Known) → TakesPlace scope.world k.names place → Takes scope.world k.names value
    → IsOperandShape (static_shape scope.world k.names place)
    → AreNumbered k.owned own (expression_values scope.world k.names (Expression.Assign place value)) → k.kept ≤ own → IsKnown scope k → (n : ℕ)
    → CallsAs scope.world k.program n
    → RunsTo scope k n (Expression.Assign place value) (expression_code scope.world k.names (Expression.Assign place value) k.regions.all own)
stored_run place value own scope k takes takes_value single numbered less known n calls =
    let p = place_in scope k in
    let d = k.regions.all in
    let values = expression_values scope.world k.names value in
    let more = expression_values scope.world k.names place in
    let behind = own + length values in
    let to = named_same place scope k takes single known n calls d behind (numbered_after k.owned own values more numbered) (omega (arith, less)) in
    record {
      same = λ m c next rest after fits ways.
          assigned_stores p n d (sense place scope) (sense value scope) (static_shape scope.world k.names place) (static_shape scope.world k.names value)
          (expression_code scope.world k.names value d own) (put_code scope.world k.names place d behind) to.shape_is to.taken to.stores
          (expression_same value scope k takes_value known n calls d own (numbered_first k.owned own values more numbered) less) m c (λ vs. next steps.Falls)
          rest after fits (omega arith) (λ us. record {
            above = omega arith;
            go = λ m1 c1 fits1 later1 kept1 given1. ways.falls m1 c1 (onward_behind p m m1 c c1 fits fits1 later1 kept1);
          });
    }

-- what is assigned
assigned_run : (s : Shape) (place value : Expression) (own : ℕ) (scope : Scope) (k : Known) → static_shape scope.world k.names place ≡ s
    → TakesAssigned scope.world k.names s place value → AreNumbered k.owned own (assigned_values scope.world k.names s place value) → k.kept ≤ own
    → IsKnown scope k → (n : ℕ)
    → CallsAs scope.world k.program n → RunsTo scope k n (Expression.Assign place value) (assigned_code scope.world k.names s place value k.regions.all own)
assigned_run (StructShape tag) place value own scope k is h numbered less known n calls =
    assigned_whole (StructShape tag) place value own scope k is h.0 h.1.0 h.1.1 numbered less known n calls
assigned_run (UnionShape tag) place value own scope k is h numbered less known n calls =
    assigned_whole (UnionShape tag) place value own scope k is h.0 h.1.0 h.1.1 numbered less known n calls
assigned_run IntShape place value own scope k is h numbered less known n calls =
    stored_run place value own scope k h.0 h.1.0 (subst IsOperandShape (sym is) tt) numbered less known n calls
assigned_run UnsignedShape place value own scope k is h numbered less known n calls =
    stored_run place value own scope k h.0 h.1.0 (subst IsOperandShape (sym is) tt) numbered less known n calls
assigned_run CharShape place value own scope k is h numbered less known n calls =
    stored_run place value own scope k h.0 h.1.0 (subst IsOperandShape (sym is) tt) numbered less known n calls
assigned_run VoidShape place value own scope k is h numbered less known n calls =
    stored_run place value own scope k h.0 h.1.0 (subst IsOperandShape (sym is) tt) numbered less known n calls
assigned_run (ThinShape may_be_null owner to) place value own scope k is h numbered less known n calls =
    stored_run place value own scope k h.0 h.1.0 (subst IsOperandShape (sym is) tt) numbered less known n calls
assigned_run (FatShape to) place value own scope k is h numbered less known n calls =
    stored_run place value own scope k h.0 h.1.0 (subst IsOperandShape (sym is) tt) numbered less known n calls
assigned_run HandleShape place value own scope k is h numbered less known n calls =
    stored_run place value own scope k h.0 h.1.0 (subst IsOperandShape (sym is) tt) numbered less known n calls
assigned_run KeyShape place value own scope k is h numbered less known n calls =
    stored_run place value own scope k h.0 h.1.0 (subst IsOperandShape (sym is) tt) numbered less known n calls
assigned_run (ArrayShape count of) place value own scope k is h numbered less known n calls =
    stored_run place value own scope k h.0 h.1.0 (subst IsOperandShape (sym is) tt) numbered less known n calls

-- what is called or made
called_run : (b : Bool) (e : Expression) (own : ℕ) (scope : Scope) (k : Known) → TakesCalled b (TakesWhole scope.world k.names e) (Takes scope.world k.names e)
    → AreNumbered k.owned own (if b then whole_values scope.world k.names e else expression_values scope.world k.names e) → k.kept ≤ own → IsKnown scope k
    → (n : ℕ) → CallsAs scope.world k.program n
    → RunsTo scope k n e (if b then whole_code scope.world k.names e k.regions.all own else expression_code scope.world k.names e k.regions.all own)
called_run true e own scope k h numbered less known n calls = whole_run e own scope k h numbered less known n calls
called_run false e own scope k h numbered less known n calls = word_run e own scope k h numbered less known n calls

pub run_statement : (e : Expression) (own : ℕ) (scope : Scope) (k : Known) → TakesRun scope.world k.names e
    → AreNumbered k.owned own (run_values scope.world k.names e) → k.kept ≤ own → IsKnown scope k → (n : ℕ) → CallsAs scope.world k.program n
    → RunsTo scope k n e (run_code scope.world k.names e k.regions.all own)
run_statement (Expression.Assign place value) own scope k h numbered less known n calls =
    assigned_run (static_shape scope.world k.names place) place value own scope k refl h numbered less known n calls
run_statement (Expression.Grouped at inner) own scope k h numbered less known n calls = run_statement inner own scope k h numbered less known n calls
run_statement (Expression.Call name arguments) own scope k h numbered less known n calls =
    called_run (makes_struct scope.world name.text) (Expression.Call name arguments) own scope k h numbered less known n calls
run_statement (Expression.Number at number suffix) own scope k h numbered less known n calls =
    dropped_run (static_shape scope.world k.names (Expression.Number at number suffix)) (Expression.Number at number suffix)
    own scope k h numbered less known n calls
run_statement (Expression.Character at byte) own scope k h numbered less known n calls =
    dropped_run (static_shape scope.world k.names (Expression.Character at byte)) (Expression.Character at byte) own scope k h numbered less known n calls
run_statement (Expression.Text at bytes) own scope k h numbered less known n calls =
    dropped_run (static_shape scope.world k.names (Expression.Text at bytes)) (Expression.Text at bytes) own scope k h numbered less known n calls
run_statement (Expression.Null at) own scope k h numbered less known n calls =
    dropped_run (static_shape scope.world k.names (Expression.Null at)) (Expression.Null at) own scope k h numbered less known n calls
run_statement (Expression.HeapRegion at) own scope k h numbered less known n calls =
    dropped_run (static_shape scope.world k.names (Expression.HeapRegion at)) (Expression.HeapRegion at) own scope k h numbered less known n calls
run_statement (Expression.UniqueRegion at) own scope k h numbered less known n calls =
    dropped_run (static_shape scope.world k.names (Expression.UniqueRegion at)) (Expression.UniqueRegion at) own scope k h numbered less known n calls
run_statement (Expression.Variable name) own scope k h numbered less known n calls =
    dropped_run (static_shape scope.world k.names (Expression.Variable name)) (Expression.Variable name) own scope k h numbered less known n calls
run_statement (Expression.MakeUnion tag member inner) own scope k h numbered less known n calls =
    dropped_run (static_shape scope.world k.names (Expression.MakeUnion tag member inner)) (Expression.MakeUnion tag member inner)
    own scope k h numbered less known n calls
run_statement (Expression.NumElts at operand) own scope k h numbered less known n calls =
    dropped_run (static_shape scope.world k.names (Expression.NumElts at operand)) (Expression.NumElts at operand) own scope k h numbered less known n calls
run_statement (Expression.Suffixed primary suffixes) own scope k h numbered less known n calls =
    dropped_run (static_shape scope.world k.names (Expression.Suffixed primary suffixes)) (Expression.Suffixed primary suffixes)
    own scope k h numbered less known n calls
run_statement (Expression.Prefixed at operator operand) own scope k h numbered less known n calls =
    dropped_run (static_shape scope.world k.names (Expression.Prefixed at operator operand)) (Expression.Prefixed at operator operand)
    own scope k h numbered less known n calls
run_statement (Expression.New at new) own scope k h numbered less known n calls =
    dropped_run (static_shape scope.world k.names (Expression.New at new)) (Expression.New at new) own scope k h numbered less known n calls
run_statement (Expression.NewIn at handle new) own scope k h numbered less known n calls =
    dropped_run (static_shape scope.world k.names (Expression.NewIn at handle new)) (Expression.NewIn at handle new) own scope k h numbered less known n calls
run_statement (Expression.Chain first others) own scope k h numbered less known n calls =
    dropped_run (static_shape scope.world k.names (Expression.Chain first others)) (Expression.Chain first others) own scope k h numbered less known n calls
run_statement (Expression.AllOf first others) own scope k h numbered less known n calls =
    dropped_run (static_shape scope.world k.names (Expression.AllOf first others)) (Expression.AllOf first others) own scope k h numbered less known n calls
run_statement (Expression.AnyOf first others) own scope k h numbered less known n calls =
    dropped_run (static_shape scope.world k.names (Expression.AnyOf first others)) (Expression.AnyOf first others) own scope k h numbered less known n calls
