-- What an expression and its code have in common, and a word's local: read and written by one operation.
use Rattle.std.proofs.Common.{◌≡◌, ℕ, ◌≤◌, inl, ⊎_elim, List, [], ◌∷◌, Bool, true, Some, refl, sym, ap, ◌∙◌, subst}
use Rattle.std.specs.Prelude.{slice_get}
use Rattle.std.proofs.lemmas.Bool.{eq-eqb}
use Rattle.source_meaning.specs.Shapes.{Shape, VoidShape}
use Rattle.source_meaning.specs.Memory as source
use Rattle.source_meaning.specs.Memory.{Scalar, Spot}
use Rattle.source_meaning.specs.Steps as steps
use Rattle.source_meaning.specs.Steps.{World, give}
use Rattle.source_meaning.specs.Conversions.{cells_of}
use Rattle.source_meaning.specs.Values.{write_cells}
use Rattle.source_meaning.specs.Places.{Sense, no_sense, given_by}
use Rattle.core_meaning.specs.Memory as core
use Rattle.core_meaning.specs.Memory.{Content, Part, with_part}
use Rattle.core_meaning.specs.Core.{Statement, Do, Get, Put, Statements}
use Rattle.core_meaning.specs.Steps as core_steps
use Rattle.core_meaning.specs.Steps.{Config, with_temp, with_memory}
use Rattle.core_meaning.specs.Meaning as meaning
use Rattle.core_meaning.specs.Operations.{does, fitting}
use Rattle.source_lowering.specs.Lowered.{put, width_of}
use Rattle.source_lowering.specs.Simulation.{at, Leads, AreLed, Point, SameState, SameAt, Next, AreKept, GrownAt, AValue, ANothing, Given, GivesAs, within}
use Rattle.source_lowering.specs.Simulation.{contents_in}
use Rattle.source_lowering.proofs.memory.Keeping.{later_on, fits_later, shown_later, m_written}
use Rattle.source_lowering.proofs.memory.Moving.{moved_out, out_same, held_one, taking}
use Rattle.source_lowering.proofs.Runs.{stuck_same}
use Rattle.source_lowering.proofs.values.Integers.{IsTaken, IsWordShape, not_void, one_word, one_given, given_one}
use Rattle.source_lowering.proofs.memory.Cells.{IsPlain, plain_of, read_same, IsWritten, write_same}
use Rattle.source_lowering.proofs.expressions.Making.{local_spot}
use Rattle.source_lowering.proofs.values.Values.{put_value, value_later}
use Rattle.source_lowering.specs.Members.{words_in}

-- an expression's meaning and its code: the same shape, and the same value, looked at or given away
pub record Agrees (p : Point) (n d : ℕ) (e : Sense) (shape : Shape) (code : List Statement) : Type 0 where
  pub shape_is : e.shape ≡ shape
  pub taken : IsTaken shape
  pub looks : GivesAs p n d shape e.look code
  pub values : GivesAs p n d shape e.value code

abbrev part_with : ℕ → Content → Part
part_with width x = record { offset = 0; width = width; content = x }

-- ---- what the operations do

pub got : (c : Config) (d out index width frame : ℕ) (x : Content) (next : Config → core_steps.Step) → slice_get c.blocks out ≡ Some frame
    → core.is_live (c.memory.standing (core.Frame frame)) ≡ true → c.memory.parts (at (local_spot frame index)) 0 ≡ Some (part_with width x)
    → does (Get d out index width) next c ≡ next (with_temp d x c)
got c d out index width frame x next block live part = rw (block, live, part, eq-eqb width width refl) refl

pub placed : (c : Config) (d out index width frame : ℕ) (old : Content) (next : Config → core_steps.Step) → slice_get c.blocks out ≡ Some frame
    → core.is_live (c.memory.standing (core.Frame frame)) ≡ true → c.memory.parts (at (local_spot frame index)) 0 ≡ Some (part_with width old)
    → does (Put out index width d) next c ≡ next (with_memory (with_part c.memory (at (local_spot frame index)) 0
    (part_with width (fitting width (c.temps d)))) c)
placed c d out index width frame old next block live part = rw (block, live, part, eq-eqb width width refl) refl

-- ---- reads

-- a local is looked at, or given away
pub get_local : (p : Point) (n d out index frame : ℕ) (shape : Shape) (b : Bool) → IsWordShape shape → slice_get (p.frame ∷ p.outer) out ≡ Some frame
    → ((m : source.Memory) (c : core.Memory) → AreLed p.world m c p.locals → Leads p.world m c shape (local_spot frame index) 0)
    → GivesAs p n d shape (taking b (cells_of p.world shape) (local_spot frame index)) (Do (Get d out index (width_of shape)) ∷ [])
get_local p n d out index frame shape b is_word block led = record {
  same = λ m c s rest next fits goes.
      let t : Spot = local_spot frame index in
      let xs : List Shape = cells_of p.world shape in
      let plain = plain_of p.world shape is_word in
      let leads = led m c.memory fits.locals in
      let step : core_steps.Step = meaning.statements (put (Do (Get d out index (width_of shape)) ∷ []) rest) next c in
      read_same p.world p.program n shape (width_of shape) m c.memory t 0 (λ vs. moved_out b xs t (λ u. s vs)) step plain fits.agree leads
      (λ v o.
      out_same b p.world p.program n xs m c.memory t (v ∷ []) (λ u. s (v ∷ [])) step fits.agree leads.0 (held_one m t shape v xs plain.cells o.holds)
      (λ m1 moved.
      subst (λ z. SameAt p n (s (v ∷ []) m1) z)
      (sym (got c d out index (width_of shape) frame o.content (meaning.statements rest next) (ap (λ z. slice_get z out) fits.blocks ∙ block) o.live o.part))
      (put_value p n d m c m1 c shape (v ∷ []) o.content s (meaning.statements rest next)
      (fits_later p m m1 c c fits moved.agree (moved.later (within p)) refl (λ k less. refl)) (moved.later (within p)) (λ k h. refl)
      (one_word shape is_word) (inl (record {
        value = v;
        alone = refl;
        shown = shown_later (within p) p.world m m1 c.memory c.memory shape v (o.content ∷ []) (moved.later (within p)) o.shown;
      })) goes)));
}

-- what is stuck gives whatever is said of it
pub stuck_gives : (p : Point) (n d : ℕ) (shape : Shape) (code : List Statement) → GivesAs p n d shape steps.stuck code
stuck_gives p n d shape code = record { same = λ m c s rest next fits goes. stuck_same p.world p.program n _ }

pub stuck_agrees : (p : Point) (n d : ℕ) (code : List Statement) → Agrees p n d no_sense VoidShape code
stuck_agrees p n d code = record { shape_is = refl; taken = tt; looks = stuck_gives p n d VoidShape code; values = stuck_gives p n d VoidShape code }

-- ---- writes

-- what comes after a value was stored, which is still in its temporaries
pub record StoredOn (p : Point) (n d : ℕ) (m0 : source.Memory) (c0 : Config) (shape : Shape) (vs : List Scalar) (s : List Scalar → source.Memory → steps.Step)
    (k : Config → core_steps.Step) : Type 0 where
  pub above : p.regions.all ≤ d
  pub go : (m : source.Memory) (c : Config) → SameState p m c → GrownAt p m0 c0 m c → AreKept d c0 c
      → Given p.world m c.memory shape vs (contents_in d shape c.temps) → SameAt p n (s (given_by shape vs) m) (k c)

-- a value in a temporary is stored at a place
pub record StoresAs (p : Point) (n d : ℕ) (shape : Shape) (act : steps.Act Spot) (code : List Statement) : Type 0 where
  pub same : (m0 : source.Memory) (c0 : Config) (m : source.Memory) (c : Config) (vs : List Scalar) (s : List Scalar → source.Memory → steps.Step)
      (rest : Statements) (next : Next) → SameState p m c → GrownAt p m0 c0 m c → AreKept d c0 c
      → Given p.world m c.memory shape vs (contents_in d shape c.temps)
      → StoredOn p n d m0 c0 shape vs s (meaning.statements rest next)
      → SameAt p n (act (λ t. write_cells t vs (λ u. s (given_by shape vs))) m) (meaning.statements (put code rest) next c)

-- what is given of a word's shape is a value
pub value_of : (w : World) (m : source.Memory) (c : core.Memory) (shape : Shape) (vs : List Scalar) (d : ℕ) (temps : ℕ → Content)
    → IsWordShape shape → Given w m c shape vs (contents_in d shape temps) → AValue w m c shape vs (temps d ∷ [])
value_of w m c shape vs d temps is_word given =
    ⊎_elim (λ (v : AValue w m c shape vs (temps d ∷ [])). v) (λ (v : ANothing shape vs). absurd (not_void shape is_word v.void))
    (one_given w m c shape vs d temps (one_word shape is_word) given)

abbrev pub part_at_byte : ℕ → ℕ → Content → Part
part_at_byte byte width x = record { offset = byte; width = width; content = x }

-- after the store the value is given on
pub written_on : (p : Point) (n d : ℕ) (shape : Shape) (m0 : source.Memory) (c0 : Config) (m : source.Memory) (c : Config) (t : Spot) (byte width : ℕ)
    (vs : List Scalar) (s : List Scalar → source.Memory → steps.Step) (k : Config → core_steps.Step) (v : AValue p.world m c.memory shape vs (c.temps d ∷ []))
    → words_in shape ≡ 1 → IsPlain p.world shape width → SameState p m c → GrownAt p m0 c0 m c → AreKept d c0 c → StoredOn p n d m0 c0 shape vs s k
    → IsWritten p.world m c.memory shape t byte width v.value (c.temps d)
    → SameAt p n (s (given_by shape vs) (m_written m t shape v.value)) (k (with_memory (with_part c.memory (at t) 0
    (part_at_byte byte width (c.temps d))) c))
written_on p n d shape m0 c0 m c t byte width vs s k v one plain fits later kept goes o =
    let m' : source.Memory = m_written m t shape v.value in
    let c' : Config = with_memory (with_part c.memory (at t) 0 (part_at_byte byte width (c.temps d))) c in
    let more = o.later (within p) in
    (goes.go m' c' (fits_later p m m' c c' fits o.agree more refl (λ k less. refl)) (later_on (within p) m0 m m' c0.memory c.memory c'.memory later more) kept
    (given_one p.world m' c'.memory shape vs d c'.temps one (inl (value_later (within p) p.world m m' c.memory c'.memory shape vs (c.temps d ∷ []) more v))))

pub put_local : (p : Point) (n d out index frame : ℕ) (shape : Shape) → IsWordShape shape → slice_get (p.frame ∷ p.outer) out ≡ Some frame
    → ((m : source.Memory) (c : core.Memory) → AreLed p.world m c p.locals → Leads p.world m c shape (local_spot frame index) 0)
    → StoresAs p n d shape (give (local_spot frame index)) (Do (Put out index (width_of shape) d) ∷ [])
put_local p n d out index frame shape is_word block led = record {
  same = λ m0 c0 m c vs s rest next fits later kept given goes.
      let t : Spot = local_spot frame index in
      let plain = plain_of p.world shape is_word in
      let v = value_of p.world m c.memory shape vs d c.temps is_word given in
      subst (λ z. SameAt p n (write_cells t z (λ u. s (given_by shape vs)) m) (meaning.statements (put (Do (Put out index (width_of shape) d) ∷ []) rest) next
      c)) (sym v.alone)
      (write_same p.world p.program n shape (width_of shape) m c.memory t 0 v.value (c.temps d) (λ u. s (given_by shape vs)) _ plain fits.agree
      (led m c.memory fits.locals) v.shown
      (λ o.
      subst (λ z. SameAt p n (s (given_by shape vs) (m_written m t shape v.value)) z)
      (sym (placed c d out index (width_of shape) frame o.old (meaning.statements rest next) (ap (λ z. slice_get z out) fits.blocks ∙ block) o.live o.part ∙
      ap (λ z. meaning.statements rest next (with_memory (with_part c.memory (at t) 0 (part_with (width_of shape) z)) c)) o.fits))
      (written_on p n d shape m0 c0 m c t 0 (width_of shape) vs s (meaning.statements rest next) v (one_word shape is_word) plain fits later kept goes o)));
}
