-- A value of one part or three at a distance from a pointer: it is read into temporaries, and stored from there.
use Rattle.std.proofs.Common.{◌≡◌, ℕ, ◌+◌, Bool, false, inl, List, [], ◌∷◌, ◌++◌, length, refl, sym, ◌∙◌, subst, ⊎_elim, arith, ◌≤◌}
use Rattle.source_meaning.specs.Shapes.{
  Shape,
  IntShape,
  UnsignedShape,
  CharShape,
  VoidShape,
  ThinShape,
  FatShape,
  HandleShape,
  KeyShape,
  StructShape,
  UnionShape,
  ArrayShape,
}
use Rattle.source_meaning.specs.Memory as source
use Rattle.source_meaning.specs.Memory.{Scalar, Spot, any_moved}
use Rattle.source_meaning.specs.Steps as steps
use Rattle.source_meaning.specs.Steps.{◌>>=◌}
use Rattle.source_meaning.specs.Conversions.{cells_of}
use Rattle.source_meaning.specs.Values.{read_cells, take_cells, write_cells}
use Rattle.source_meaning.specs.Places.{place_sense, given_by}
use Rattle.core_meaning.specs.Memory as core
use Rattle.core_meaning.specs.Memory.{Content}
use Rattle.core_meaning.specs.Core.{Statement, Statements}
use Rattle.core_meaning.specs.Steps as core_steps
use Rattle.core_meaning.specs.Steps.{Config, with_memory}
use Rattle.core_meaning.specs.Meaning as meaning
use Rattle.source_lowering.specs.Layouts.{pieces_of}
use Rattle.source_lowering.specs.Members.{loads_code, stores_code, words_in}
use Rattle.source_lowering.specs.Lowered.{put}
use Rattle.source_lowering.specs.Lowerable.{IsTarget, IsValueShape, IsOperandShape}
use Rattle.source_lowering.specs.Simulation.{
  at,
  Leads,
  Point,
  SameState,
  SameAt,
  Next,
  AreKept,
  GrownAt,
  AValue,
  ANothing,
  Given,
  GoesOn,
  GivesAs,
  contents_in,
  within,
}
use Rattle.source_lowering.proofs.memory.Keeping.{later_on, fits_later, m_written, shown_later}
use Rattle.source_lowering.proofs.memory.Moving.{moved_out, out_same, held_one, taking}
use Rattle.source_lowering.proofs.memory.CellParts.{with_values}
use Rattle.source_lowering.proofs.Runs.{put_all}
use Rattle.source_lowering.proofs.memory.ValueCells.{IsCell, CellRead, CellWritten, cell_of, cell_reads, cell_writes}
use Rattle.source_lowering.proofs.values.Integers.{value_taken}
use Rattle.source_lowering.proofs.values.AnyValues.{value_void}
use Rattle.source_lowering.proofs.values.Values.{value_later, kept_contents, over}
use Rattle.source_lowering.proofs.memory.Loading.{with_contents, other_contents, contents_are, loads_does, stores_does}
use Rattle.source_lowering.proofs.expressions.Variables.{Agrees, StoresAs, StoredOn}
use Rattle.source_lowering.proofs.expressions.Reaching.{ReachedAs}

-- ---- temporaries

pub contents_fits : (p : Point) (m : source.Memory) (c : Config) (d : ℕ) (xs : List Content) → SameState p m c
    → p.regions.all ≤ d → SameState p m (with_contents d xs c)
contents_fits p m c d xs f above = record {
  agree = f.agree;
  blocks = f.blocks;
  locals = f.locals;
  statics = f.statics;
  begun = f.begun;
  made = f.made;
  pending = f.pending;
  own = f.own;
  called = f.called;
  stands = f.stands;
  owned = f.owned;
}

-- a value is put into the temporaries from one on
pub put_contents : (p : Point) (n d : ℕ) (m0 : source.Memory) (c0 : Config) (m : source.Memory) (c : Config) (shape : Shape) (vs : List Scalar)
    (xs : List Content) (s : List Scalar → source.Memory → steps.Step) (k : Config → core_steps.Step) → SameState p m c → GrownAt p m0 c0 m c → AreKept d c0 c
    → contents_in d shape (with_contents d xs c).temps ≡ xs → Given p.world m c.memory shape vs xs → GoesOn p n d m0 c0 shape s k
    → SameAt p n (s vs m) (k (with_contents d xs c))
put_contents p n d m0 c0 m c shape vs xs s k fits later kept are given goes =
    goes.go m (with_contents d xs c) vs (contents_fits p m c d xs fits goes.above) later (λ i less. other_contents d i xs c less ∙ kept i less)
    (subst (λ z. Given p.world m c.memory shape vs z) (sym are) given)

-- ---- a value is read

-- it is looked at, or given away
pub value_read : (p : Point) (n d cells bytes : ℕ) (shape : Shape) (act : steps.Act Spot) (code : List Statement) (b : Bool)
    → IsValueShape shape → ReachedAs p n d cells bytes shape act code
    → GivesAs p n d shape (act >>= taking b (cells_of p.world shape)) (code ++ loads_code shape d cells bytes)
value_read p n d cells bytes shape act code b is_value reached = record {
  same = λ m c s rest next fits goes.
      let loads : List Statement = loads_code shape d cells bytes in
      let reads : Spot → steps.Act (List Scalar) = taking b (cells_of p.world shape) in
      subst (λ z. SameAt p n (act (λ t. reads t s) m) (meaning.statements z next c)) (sym (put_all code loads rest))
      (reached.same m c (λ t. reads t s) (put loads rest) next fits (record {
        above = over goes.above (omega arith);
        go = λ m1 c1 t byte fits1 later1 kept1 temp lies leads.
            let u : Spot = source.beyond t cells in
            let step : core_steps.Step = meaning.statements (put loads rest) next c1 in
            cell_reads p.world p.program n shape m1 c1.memory u (byte + bytes) (λ vs. moved_out b (cells_of p.world shape) u (λ z. s vs)) step
            (cell_of p.world shape is_value) fits1.agree leads
            (λ v (o : CellRead p.world m1 c1.memory shape u (byte + bytes) v).
            out_same b p.world p.program n (cells_of p.world shape) m1 c1.memory u (v ∷ []) (λ z. s (v ∷ [])) step fits1.agree leads.0
            (held_one m1 u shape v (cells_of p.world shape) (cell_of p.world shape is_value).cells o.holds)
            (λ m2 moved.
            subst (λ z. SameAt p n (s (v ∷ []) m2) z)
            (sym (loads_does shape is_value c1 d cells bytes byte (at t) o.contents rest next temp o.live o.parts))
            (put_contents p n d m c m2 c1 shape (v ∷ []) o.contents s (meaning.statements rest next)
            (fits_later p m1 m2 c1 c1 fits1 moved.agree (moved.later (within p)) refl (λ k less. refl))
            (later_on (within p) m m1 m2 c.memory c1.memory c1.memory later1 (moved.later (within p))) kept1
            (contents_are shape is_value d o.contents c1 o.fit) (inl (record {
              value = v;
              alone = refl;
              shown = shown_later (within p) p.world m1 m2 c1.memory c1.memory shape v o.contents (moved.later (within p)) o.shown;
            })) goes)));
      }));
}

pub reached_value : (p : Point) (n d cells bytes : ℕ) (shape : Shape) (act : steps.Act Spot) (code : List Statement) → IsValueShape shape
    → ReachedAs p n d cells bytes shape act code → Agrees p n d (place_sense p.world shape act) shape (code ++ loads_code shape d cells bytes)
reached_value p n d cells bytes shape act code is_value reached = record {
  shape_is = refl;
  taken = value_taken shape is_value;
  looks = value_read p n d cells bytes shape act code false is_value reached;
  values = value_read p n d cells bytes shape act code (any_moved (cells_of p.world shape)) is_value reached;
}

-- ---- a value is stored

-- a value is in temporaries, and a pointer behind it
pub value_put : (p : Point) (n d cells bytes : ℕ) (shape : Shape) (m0 : source.Memory) (c0 : Config) (m1 : source.Memory) (c1 : Config) (t : Spot) (byte : ℕ)
    (vs : List Scalar) (s : List Scalar → source.Memory → steps.Step) (rest : Statements) (next : Next) → IsValueShape shape → SameState p m1 c1
    → GrownAt p m0 c0 m1 c1 → AreKept d c0 c1 → c1.temps (d + words_in shape) ≡ core.Pointer (at t) byte
    → Leads p.world m1 c1.memory shape (source.beyond t cells) (byte + bytes) → AValue p.world m1 c1.memory shape vs (contents_in d shape c1.temps)
    → StoredOn p n d m0 c0 shape vs s (meaning.statements rest next)
    → SameAt p n (write_cells (source.beyond t cells) vs (λ u. s (given_by shape vs)) m1)
    (meaning.statements (put (stores_code shape (d + words_in shape) d cells bytes) rest) next c1)
value_put p n d cells bytes shape m0 c0 m1 c1 t byte vs s rest next is_value fits1 later1 kept1 temp leads v goes =
    let u : Spot = source.beyond t cells in
    let xs : List Content = contents_in d shape c1.temps in
    let one : IsCell p.world shape = cell_of p.world shape is_value in
    let step : core_steps.Step = meaning.statements (put (stores_code shape (d + words_in shape) d cells bytes) rest) next c1 in
    subst (λ z. SameAt p n (write_cells u z (λ w. s (given_by shape vs)) m1) step) (sym v.alone)
    (cell_writes p.world p.program n shape m1 c1.memory u (byte + bytes) v.value xs (λ w. s (given_by shape vs)) step one fits1.agree leads v.shown
    (λ (o : CellWritten p.world m1 c1.memory shape u (byte + bytes) v.value xs).
    let m2 : source.Memory = m_written m1 u shape v.value in
    let c2 : Config = with_memory (with_values c1.memory (at u) (byte + bytes) (pieces_of shape) xs) c1 in
    let more = o.later (within p) in
    subst (λ z. SameAt p n (s (given_by shape vs) m2) z)
    (sym (stores_does shape is_value c1 (d + words_in shape) d cells bytes byte (at t) o.old rest next temp o.live o.parts o.fit))
    (goes.go m2 c2 (fits_later p m1 m2 c1 c2 fits1 o.agree more refl (λ k less. refl))
    (later_on (within p) m0 m1 m2 c0.memory c1.memory c2.memory later1 more) kept1
    (inl (value_later (within p) p.world m1 m2 c1.memory c2.memory shape vs xs more v)))))

pub value_stored : (p : Point) (n d cells bytes : ℕ) (shape : Shape) (act : steps.Act Spot) (code : List Statement) → IsValueShape shape
    → ReachedAs p n (d + words_in shape) cells bytes shape act code
    → StoresAs p n d shape act (code ++ stores_code shape (d + words_in shape) d cells bytes)
value_stored p n d cells bytes shape act code is_value reached = record {
  same = λ m0 c0 m c vs s rest next fits later kept given goes.
      let then_act : Spot → source.Memory → steps.Step = λ t. write_cells t vs (λ u. s (given_by shape vs)) in
      let stores : List Statement = stores_code shape (d + words_in shape) d cells bytes in
      subst (λ z. SameAt p n (act then_act m) (meaning.statements z next c)) (sym (put_all code stores rest))
      (reached.same m c then_act (put stores rest) next fits (record {
        above = over goes.above (omega arith);
        go = λ m1 c1 t byte fits1 later1 kept1 temp lies leads.
            ⊎_elim
            (λ (v : AValue p.world m c.memory shape vs (contents_in d shape c.temps)).
            value_put p n d cells bytes shape m0 c0 m1 c1 t byte vs s rest next is_value fits1
            (later_on (within p) m0 m m1 c0.memory c.memory c1.memory later later1)
            (λ k h. kept1 k (omega (arith, h)) ∙ kept k h) temp leads (subst (λ z. AValue p.world m1 c1.memory shape vs z)
            (sym (kept_contents shape d c c1 kept1)) (value_later (within p) p.world m m1 c.memory c1.memory shape vs (contents_in d shape c.temps) later1 v))
            goes)
            (λ (v : ANothing shape vs). absurd (value_void shape is_value v.void)) given;
      }));
}

-- ---- what a pointer leads to

-- nothing lies where a pointer to void leads
nothing_read : (p : Point) (n d cells bytes : ℕ) (act : steps.Act Spot) (code loads : List Statement) (reads : Spot → steps.Act (List Scalar))
    → ReachedAs p n d cells bytes VoidShape act code → GivesAs p n d VoidShape (act >>= reads) (code ++ loads)
nothing_read p n d cells bytes act code loads reads reached = record {
  same = λ m c s rest next fits goes.
      subst (λ z. SameAt p n (act (λ t. reads t s) m) (meaning.statements z next c)) (sym (put_all code loads rest))
      (reached.same m c (λ t. reads t s) (put loads rest) next fits (record {
        above = over goes.above (omega arith);
        go = λ m1 c1 t byte fits1 later1 kept1 temp lies leads. absurd lies.object;
      }));
}

pub target_read : (p : Point) (n d cells bytes : ℕ) (shape : Shape) (act : steps.Act Spot) (code : List Statement) → IsTarget shape → IsOperandShape shape
    → ReachedAs p n d cells bytes shape act code → Agrees p n d (place_sense p.world shape act) shape (code ++ loads_code shape d cells bytes)
target_read p n d cells bytes IntShape act code h g reached = reached_value p n d cells bytes IntShape act code tt reached
target_read p n d cells bytes UnsignedShape act code h g reached = reached_value p n d cells bytes UnsignedShape act code tt reached
target_read p n d cells bytes CharShape act code h g reached = reached_value p n d cells bytes CharShape act code tt reached
target_read p n d cells bytes VoidShape act code h g reached = record {
  shape_is = refl;
  taken = tt;
  looks = nothing_read p n d cells bytes act code (loads_code VoidShape d cells bytes) (λ t. read_cells (length (cells_of p.world VoidShape)) t) reached;
  values = nothing_read p n d cells bytes act code (loads_code VoidShape d cells bytes) (λ t. take_cells (cells_of p.world VoidShape) t) reached;
}
target_read p n d cells bytes (ThinShape b owner to) act code h g reached = reached_value p n d cells bytes (ThinShape b owner to) act code h reached
target_read p n d cells bytes (FatShape to) act code h g reached = reached_value p n d cells bytes (FatShape to) act code h reached
target_read p n d cells bytes HandleShape act code h g reached = reached_value p n d cells bytes HandleShape act code tt reached
target_read p n d cells bytes KeyShape act code h g reached = reached_value p n d cells bytes KeyShape act code tt reached
target_read p n d cells bytes (StructShape tag) act code h g reached = absurd g
target_read p n d cells bytes (UnionShape tag) act code h g reached = absurd g
target_read p n d cells bytes (ArrayShape count of) act code h g reached = absurd h

nothing_stored : (p : Point) (n d e cells bytes : ℕ) (act : steps.Act Spot) (code stores : List Statement)
    → d ≤ e → ReachedAs p n e cells bytes VoidShape act code → StoresAs p n d VoidShape act (code ++ stores)
nothing_stored p n d e cells bytes act code stores below reached = record {
  same = λ m0 c0 m c vs s rest next fits later kept given goes.
      let then_act : Spot → source.Memory → steps.Step = λ t. write_cells t vs (λ u. s (given_by VoidShape vs)) in
      subst (λ z. SameAt p n (act then_act m) (meaning.statements z next c)) (sym (put_all code stores rest))
      (reached.same m c then_act (put stores rest) next fits (record {
        above = over goes.above below;
        go = λ m1 c1 t byte fits1 later1 kept1 temp lies leads. absurd lies.object;
      }));
}

pub target_stored : (p : Point) (n d cells bytes : ℕ) (shape : Shape) (act : steps.Act Spot) (code : List Statement) → IsTarget shape → IsOperandShape shape
    → ReachedAs p n (d + words_in shape) cells bytes shape act code
    → StoresAs p n d shape act (code ++ stores_code shape (d + words_in shape) d cells bytes)
target_stored p n d cells bytes IntShape act code h g reached = value_stored p n d cells bytes IntShape act code tt reached
target_stored p n d cells bytes UnsignedShape act code h g reached = value_stored p n d cells bytes UnsignedShape act code tt reached
target_stored p n d cells bytes CharShape act code h g reached = value_stored p n d cells bytes CharShape act code tt reached
target_stored p n d cells bytes VoidShape act code h g reached =
    nothing_stored p n d (d + 1) cells bytes act code (stores_code VoidShape (d + 1) d cells bytes) (omega arith) reached
target_stored p n d cells bytes (ThinShape b owner to) act code h g reached = value_stored p n d cells bytes (ThinShape b owner to) act code h reached
target_stored p n d cells bytes (FatShape to) act code h g reached = value_stored p n d cells bytes (FatShape to) act code h reached
target_stored p n d cells bytes HandleShape act code h g reached = value_stored p n d cells bytes HandleShape act code tt reached
target_stored p n d cells bytes KeyShape act code h g reached = value_stored p n d cells bytes KeyShape act code tt reached
target_stored p n d cells bytes (StructShape tag) act code h g reached = absurd g
target_stored p n d cells bytes (UnionShape tag) act code h g reached = absurd g
target_stored p n d cells bytes (ArrayShape count of) act code h g reached = absurd h
