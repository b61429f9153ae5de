-- An element of an array that is being made: its value is evaluated, and stored where the element lies.
use Rattle.std.proofs.Common.{◌≡◌, ℕ, ◌+◌, ◌*◌, ◌<◌, ◌≤◌, List, [], ◌∷◌, ◌++◌, length, Bool, true, false, Some, refl, sym, ap, ◌∙◌, subst, arith}
use Rattle.source_meaning.specs.Shapes.{Shape}
use Rattle.source_meaning.specs.Memory as source
use Rattle.source_meaning.specs.Memory.{Scalar, Spot, is_live}
use Rattle.source_meaning.specs.Steps as steps
use Rattle.source_meaning.specs.Conversions.{cells_of}
use Rattle.source_meaning.specs.Values.{write_cells}
use Rattle.source_meaning.specs.Places.{Sense}
use Rattle.core_meaning.specs.Memory as core
use Rattle.core_meaning.specs.Memory.{Content, Layout, Pointer, Word}
use Rattle.core_meaning.specs.Core.{Copy, Do, Element, Statement, Statements}
use Rattle.core_meaning.specs.Steps as core_steps
use Rattle.core_meaning.specs.Steps.{Config, with_memory, with_temp}
use Rattle.core_meaning.specs.Operations.{copied, does}
use Rattle.core_meaning.specs.Meaning as meaning
use Rattle.source_lowering.specs.Layouts.{extent_of, layout_of}
use Rattle.source_lowering.specs.Members.{words_in}
use Rattle.source_lowering.specs.Lowered.{put, stores_code}
use Rattle.source_lowering.specs.Lowerable.{AreStructs, IsObject, IsValueShape}
use Rattle.source_lowering.specs.Simulation.{AValue, AreKept, AreMade, GrownAt, Leads, LeadsAll, Next, Point, SameAt, SameState, at, before_value, contents_in}
use Rattle.source_lowering.specs.Simulation.{within}
use Rattle.source_lowering.proofs.memory.Keeping.{fits_later, later_less, later_on, leads_later}
use Rattle.source_lowering.proofs.memory.Members.{FirstPart, first_part_of, first_reached, layout_count, lies_here}
use Rattle.source_lowering.proofs.memory.StructCells.{HasCells, shapes_in}
use Rattle.source_lowering.proofs.memory.Clearing.{laid_there}
use Rattle.source_lowering.proofs.memory.Copying.{AllShown, whole_copied}
use Rattle.source_lowering.proofs.memory.CopiedOver.{copy_over, dead_stuck, shown_count}
use Rattle.source_lowering.proofs.memory.Overwriting.{all_written, overwritten, writes_all}
use Rattle.source_lowering.proofs.Runs.{put_all}
use Rattle.source_lowering.proofs.values.Integers.{value_object}
use Rattle.source_lowering.proofs.values.AnyValues.{value_given}
use Rattle.source_lowering.proofs.values.Values.{kept_contents, kept_temp, other_temp, over, put_temp, temp_fits}
use Rattle.source_lowering.proofs.expressions.Variables.{Agrees}
use Rattle.source_lowering.proofs.expressions.ValuePlaces.{value_put}
use Rattle.source_lowering.proofs.expressions.Wholes.{before_less, own_apart, own_spot, value_made}
use Rattle.source_lowering.proofs.expressions.WholeForms.{IsWholeAs}

-- ---- forms

-- an array of so many elements, whose pointer and count are in temporaries
pub record ArrayAt (p : Point) (m : source.Memory) (c : Config) (d count : ℕ) (shape : Shape) (t : Spot) : Type 0 where
  pub pointer : c.temps d ≡ Pointer (at t) 0
  pub counted : c.temps (d + 1) ≡ Word count
  pub leads : LeadsAll p.world m c.memory shape count t 0

-- where its elements lie
abbrev pub element_of : Point → Shape → Spot → ℕ → Spot
element_of p shape t i = source.beyond t (i * length (cells_of p.world shape))

pub array_later : (p : Point) (m : source.Memory) (c : Config) (d count : ℕ) (shape : Shape) (t : Spot) (m' : source.Memory) (c' : Config)
    → GrownAt p m c m' c' → AreKept (d + 2) c c' → ArrayAt p m c d count shape t → ArrayAt p m' c' d count shape t
array_later p m c d count shape t m' c' later kept there = record {
  pointer = kept d (omega arith) ∙ there.pointer;
  counted = kept (d + 1) (omega arith) ∙ there.counted;
  leads = λ k less. leads_later (within p) p.world m m' c.memory c'.memory shape _ _ later (there.leads k less);
}

-- an element of a number is evaluated, and stored
pub record ElementAs (p : Point) (n d count i : ℕ) (shape : Shape) (act : steps.Act (List Scalar)) (code : List Statement) : Type 0 where
  pub same : (m : source.Memory) (c : Config) (t : Spot) (s : source.Memory → steps.Step) (rest : Statements) (next : Next) → SameState p m c
      → ArrayAt p m c d count shape t → c.temps (d + 2) ≡ Word i → i < count
      → ((m' : source.Memory) (c' : Config) → SameState p m' c' → GrownAt p m c m' c' → AreKept (d + 3) c c'
      → SameAt p n (s m') (meaning.statements rest next c'))
      → SameAt p n (act (λ vs. write_cells (element_of p shape t i) vs (λ u. s)) m) (meaning.statements (put code rest) next c)

-- ---- the element is reached

element_does : (c : Config) (d e i cells bytes : ℕ) (t : core.Spot) (next : Config → core_steps.Step) → c.temps d ≡ Pointer t 0 → c.temps (d + 2) ≡ Word i
    → FirstPart c.memory (core.beyond t (i * cells)) (0 + i * bytes)
    → does (Element e d (d + 2) cells bytes) next c ≡ next (with_temp e (Pointer (core.beyond t (i * cells)) (0 + i * bytes)) c)
element_does c d e i cells bytes t next pointer number first =
    rw (pointer, number, first_reached c.memory (core.beyond t (i * cells)) (0 + i * bytes) first) refl

-- ---- a value

pub value_element : (p : Point) (n d count i : ℕ) (shape : Shape) (e : Sense) (code : List Statement) → AreStructs p.world.unions p.world.structs
    → IsValueShape shape → p.regions.all ≤ d + 3 → Agrees p n (d + 3) e shape code
    → ElementAs p n d count i shape e.value (code ++ (Do (Element (d + 3 + words_in shape) d (d + 2) (length (cells_of p.world shape))
    (extent_of p.world shape).size) ∷ stores_code shape (d + 3 + words_in shape) (d + 3) 0 0))
value_element p n d count i shape e code structs is_value above one = record {
  same = λ m c t s rest next fits there number less goes.
      subst (λ z. SameAt p n (e.value (λ vs. write_cells (element_of p shape t i) vs (λ u. s)) m) (meaning.statements z next c))
      (sym (put_all code stores rest))
      (one.values.same m c (λ vs. write_cells (element_of p shape t i) vs (λ u. s)) (put stores rest) next fits (record {
        above = above;
        go = λ m1 c1 vs fits1 later1 kept1 given1.
            stored m c t s rest next m1 c1 vs fits1 later1 kept1
            (array_later p m c d count shape t m1 c1 later1 (λ k h. kept1 k (over h (omega arith))) there)
            (kept1 (d + 2) (omega arith) ∙ number) less (value_given p.world m1 c1.memory shape vs (contents_in (d + 3) shape c1.temps) is_value given1) goes;
      }));
}
  where
    cells : ℕ
    cells = length (cells_of p.world shape)

    bytes : ℕ
    bytes = (extent_of p.world shape).size

    q : ℕ
    q = d + 3 + words_in shape

    stores : List Statement
    stores = Do (Element q d (d + 2) cells bytes) ∷ stores_code shape q (d + 3) 0 0

    stored : (m : source.Memory) (c : Config) (t : Spot) (s : source.Memory → steps.Step) (rest : Statements) (next : Next) (m1 : source.Memory) (c1 : Config)
        (vs : List Scalar) → SameState p m1 c1 → GrownAt p m c m1 c1 → AreKept (d + 3) c c1 → ArrayAt p m1 c1 d count shape t → c1.temps (d + 2) ≡ Word i
        → i < count → AValue p.world m1 c1.memory shape vs (contents_in (d + 3) shape c1.temps)
        → ((m' : source.Memory) (c' : Config) → SameState p m' c' → GrownAt p m c m' c' → AreKept (d + 3) c c'
        → SameAt p n (s m') (meaning.statements rest next c'))
        → SameAt p n (write_cells (element_of p shape t i) vs (λ u. s) m1) (meaning.statements (put stores rest) next c1)
    stored m c t s rest next m1 c1 vs fits1 later1 kept1 there number less v goes =
        let u : Spot = element_of p shape t i in
        let byte : ℕ = 0 + i * bytes in
        let x : Content = Pointer (at u) byte in
        let c2 : Config = with_temp q x c1 in
        let leads = there.leads i less in
        let first = first_part_of p.world c1.memory shape (at u) byte
        (lies_here p.world shape structs (value_object p.world.unions p.world.structs shape is_value)).cells
        leads.1 in
        let kept2 : AreKept (d + 3 + words_in shape) c1 c2 = kept_temp q q x c1 c1 (omega arith) (λ k h. refl) in
        subst (λ z. SameAt p n (write_cells u vs (λ w. s) m1) z)
        (sym (element_does c1 d q i cells bytes (at t) (meaning.statements (put (stores_code shape q (d + 3) 0 0) rest) next) there.pointer number first))
        (subst (λ z. SameAt p n (write_cells z vs (λ w. s) m1) (meaning.statements (put (stores_code shape q (d + 3) 0 0) rest) next c2)) (none u)
        (value_put p n (d + 3) 0 0 shape m c m1 c2 u byte vs (λ us. s) rest next is_value (temp_fits p m1 c1 q x fits1 (over above (omega arith))) later1
        (kept_temp (d + 3) q x c c1 (omega arith) kept1) (put_temp q x c1)
        (subst (λ z. Leads p.world m1 c1.memory shape z (byte + 0)) (sym (none u)) (subst (λ z. Leads p.world m1 c1.memory shape u z) (more byte) leads))
        (subst (λ z. AValue p.world m1 c1.memory shape vs z) (sym (kept_contents shape (d + 3) c1 c2 kept2)) v) (record {
          above = above;
          go = λ m3 c3 fits3 later3 kept3 given3. goes m3 c3 fits3 later3 kept3;
        })))
      where
        none : (z : Spot) → source.beyond z 0 ≡ z
        none z = λ j. record z { cell = same j }
          where
            same : z.cell + 0 ≡ z.cell
            same = omega arith

        more : (z : ℕ) → z ≡ z + 0
        more z = omega arith

-- ---- a struct or a union

-- the temporary object goes to the element's cells
pub whole_element : (p : Point) (n d count i value : ℕ) (shape : Shape) (e : Sense) (code : List Statement) → AreStructs p.world.unions p.world.structs
    → IsObject p.world.unions p.world.structs shape → p.regions.all ≤ d + 3 → p.kept ≤ value → IsWholeAs p n (d + 3) value e shape code
    → ElementAs p n d count i shape e.value (code ++ (Do (Element (d + 4) d (d + 2) (length (cells_of p.world shape))
    (extent_of p.world shape).size) ∷ Do (Copy (d + 4) (d + 3) (layout_of p.world shape)) ∷ []))
whole_element p n d count i value shape e code structs object above kept_value one = record {
  same = λ m c t s rest next fits there number less goes.
      subst (λ z. SameAt p n (e.value (λ vs. write_cells (element_of p shape t i) vs (λ u. s)) m) (meaning.statements z next c))
      (sym (put_all code stores rest))
      (one.whole.same m c (λ vs. write_cells (element_of p shape t i) vs (λ u. s)) (put stores rest) next fits (record {
        above = above;
        go = λ m1 c1 vs fits1 later1 kept1 from shown1.
            let same : one.whole.shape ≡ shape = sym one.whole.shape_is ∙ one.shape_is in
            let within1 : GrownAt p m c m1 c1 =
            later_less (before_value p value) (within p) m m1 c.memory c1.memory (before_less p p.kept value kept_value) later1 in
            stored m c t s rest next m1 c1 vs fits1 within1 kept1
            (array_later p m c d count shape t m1 c1 within1 (λ k h. kept1 k (over h (omega arith))) there)
            (kept1 (d + 2) (omega arith) ∙ number) less from (value_made p m1 c1 value shape object fits1 (one.whole.numbered ∙ ap (λ z. Some z) same))
            (subst (λ z. AllShown p.world m1 c1.memory (own_spot p.own value 0) (cells_of p.world z) vs) same shown1) goes;
      }));
}
  where
    layout : Layout
    layout = layout_of p.world shape

    cells : ℕ
    cells = length (cells_of p.world shape)

    bytes : ℕ
    bytes = (extent_of p.world shape).size

    stores : List Statement
    stores = Do (Element (d + 4) d (d + 2) cells bytes) ∷ Do (Copy (d + 4) (d + 3) layout) ∷ []

    stored : (m : source.Memory) (c : Config) (t : Spot) (s : source.Memory → steps.Step) (rest : Statements) (next : Next) (m1 : source.Memory) (c1 : Config)
        (vs : List Scalar) → SameState p m1 c1 → GrownAt p m c m1 c1 → AreKept (d + 3) c c1 → ArrayAt p m1 c1 d count shape t → c1.temps (d + 2) ≡ Word i
        → i < count → c1.temps (d + 3) ≡ Pointer (own_spot p.own value 0) 0
        → AreMade c1.memory (own_spot p.own value 0) 0 layout.cells
        → AllShown p.world m1 c1.memory (own_spot p.own value 0) (cells_of p.world shape) vs
        → ((m' : source.Memory) (c' : Config) → SameState p m' c' → GrownAt p m c m' c' → AreKept (d + 3) c c'
        → SameAt p n (s m') (meaning.statements rest next c'))
        → SameAt p n (write_cells (element_of p shape t i) vs (λ u. s) m1) (meaning.statements (put stores rest) next c1)
    stored m c t s rest next m1 c1 vs fits1 later1 kept1 there number less from made shown goes =
        subst (λ z. SameAt p n (write_cells u vs (λ w. s) m1) z)
        (sym (element_does c1 d (d + 4) i cells bytes (at t) (meaning.statements (put (Do (Copy (d + 4) (d + 3) layout) ∷ []) rest) next) there.pointer number
        (first_part_of p.world c1.memory shape (at u) byte has leads.1)))
        (by (is_live m1 u.region) refl)
      where
        u : Spot
        u = element_of p shape t i

        byte : ℕ
        byte = 0 + i * bytes

        x : Content
        x = Pointer (at u) byte

        own : core.Spot
        own = own_spot p.own value 0

        xs : List Shape
        xs = cells_of p.world shape

        c2 : Config
        c2 = with_temp (d + 4) x c1

        c3 : Config
        c3 = with_memory (copied layout (at u) own c1.memory) c2

        has : HasCells p.world.unions p.world.structs shape
        has = (lies_here p.world shape structs object).cells

        leads : Leads p.world m1 c1.memory shape u byte
        leads = there.leads i less

        first : xs ≡ has.first.shape ∷ shapes_in has.others
        first = sym has.shapes ∙ ap shapes_in has.is

        by : (b : Bool) → is_live m1 u.region ≡ b
            → SameAt p n (write_cells u vs (λ w. s) m1) (meaning.statements (put (Do (Copy (d + 4) (d + 3) layout) ∷ []) rest) next c2)
        by false dead =
            dead_stuck p.world p.program n has.first.shape (shapes_in has.others) vs m1 u (λ w. s) _
            (shown_count p.world m1 c1.memory own xs vs shown ∙ ap length first) dead
        by true live =
            subst (λ z. SameAt p n (write_cells u vs (λ w. s) m1) z)
            (sym (copy_over c2 (d + 4) (d + 3) (at u) own byte layout (meaning.statements rest next) (put_temp (d + 4) x c1)
            (other_temp (d + 4) (d + 3) x c1 (omega arith) ∙ from) (sym (fits1.agree.live u.region) ∙ live) fits1.stands
            (laid_there c1.memory (at u) byte layout.cells leads.1) (laid_there c1.memory own 0 layout.cells made) (own_apart u p.own value 0)))
            (writes_all p.world p.program n xs vs m1 u (λ w. s) (meaning.statements rest next c3) (shown_count p.world m1 c1.memory own xs vs shown) live
            leads.0
            (λ free.
            let written = overwritten p.world m1 c1.memory u own layout xs vs (layout_count p.world shape has) fits1.agree leads.0 free
            (whole_copied p.world m1 c1.memory (at u) own byte shape vs structs object leads.1 shown) in
            goes (all_written m1 u xs vs) c3
            (fits_later p m1 (all_written m1 u xs vs) c2 c3 (temp_fits p m1 c1 (d + 4) x fits1 (over above (omega arith))) written.agree
            (written.later (within p)) refl (λ k h. refl))
            (later_on (within p) m m1 (all_written m1 u xs vs) c.memory c1.memory c3.memory later1 (written.later (within p)))
            (kept_temp (d + 3) (d + 4) x c c1 (omega arith) kept1)))
