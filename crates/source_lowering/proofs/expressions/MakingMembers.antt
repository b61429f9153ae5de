-- A struct is made of its members: one after the other each is converted, and goes where it lies in the temporary object.
use Rattle.std.proofs.Common.{◌≡◌, ℕ, suc, ◌+◌, ◌<◌, List, [], ◌∷◌, ◌++◌, length, true, false, nat_eq, None, refl, sym, ◌∙◌, subst, arith, ◌≤◌}
use Rattle.std.specs.Prelude.{nat_le}
use Rattle.std.proofs.lemmas.Bool.{eq-eqb}
use Rattle.std.proofs.lemmas.Bool.Decides.{nat_tests}
use Rattle.source_meaning.specs.Shapes.{Shape}
use Rattle.source_meaning.specs.Memory as source
use Rattle.source_meaning.specs.Memory.{Scalar, Spot}
use Rattle.source_meaning.specs.Steps as steps
use Rattle.source_meaning.specs.Steps.{◌>>=◌}
use Rattle.source_meaning.specs.Conversions.{cells_of, converted}
use Rattle.source_meaning.specs.Places.{Sense}
use Rattle.core_meaning.specs.Memory as core
use Rattle.core_meaning.specs.Memory.{Content, Pointer, Layout}
use Rattle.core_meaning.specs.Core.{Statement, Do, Offset, Copy, Statements}
use Rattle.core_meaning.specs.Steps as core_steps
use Rattle.core_meaning.specs.Steps.{Config, with_temp, with_memory}
use Rattle.core_meaning.specs.Operations.{does, are_laid, same_object, cells_on, copied, reaches}
use Rattle.core_meaning.specs.Meaning as meaning
use Rattle.source_lowering.specs.Layouts.{Piece, layout_of, pieces_of}
use Rattle.source_lowering.specs.Lowered.{put, stores_code, conversion_code}
use Rattle.source_lowering.specs.Lowerable.{IsObject, IsWholeShape, AreStructs, IsValueShape}
use Rattle.source_lowering.specs.Whole.{struct_member_code, word_member_code}
use Rattle.source_lowering.specs.Simulation.{at, AreMade, nothing, Grown, Point, SameState, SameAt, Next, AreKept, around, before_value, keeping, AValue}
use Rattle.source_lowering.specs.Simulation.{contents_in}
use Rattle.source_lowering.proofs.memory.Keeping.{made_later, later_on, later_less, shown_later, free_nothing, fits_on}
use Rattle.source_lowering.proofs.Runs.{put_all}
use Rattle.source_lowering.proofs.values.Integers.{value_taken}
use Rattle.source_lowering.proofs.values.AnyValues.{value_given}
use Rattle.source_lowering.proofs.memory.CellParts.{FitFirst, fit_first, with_values, all_other, none_written, all_hold, later_put}
use Rattle.source_lowering.proofs.memory.Loading.{stores_does}
use Rattle.source_lowering.proofs.values.Values.{kept_temp, temp_fits, put_three, over}
use Rattle.source_lowering.proofs.expressions.Variables.{Agrees}
use Rattle.source_lowering.proofs.values.Conversions.{converted_gives}
use Rattle.source_lowering.proofs.memory.Clearing.{laid_there}
use Rattle.source_lowering.proofs.memory.Copying.{AllShown, copied_later, copied_nowhere, whole_copied}
use Rattle.source_lowering.proofs.memory.StructCells.{object_cells}
use Rattle.source_lowering.proofs.memory.ObjectShapes.{whole_object}
use Rattle.source_lowering.proofs.memory.Members.{cells_pieces, first_part_of, first_reached}
use Rattle.source_lowering.proofs.memory.SameShapes.{shapes_same}
use Rattle.source_lowering.proofs.memory.Initialising.{converted_whole}
use Rattle.source_lowering.proofs.memory.ValueCells.{IsCell, cell_of, shaped_have}
use Rattle.source_lowering.proofs.expressions.Wholes.{own_spot, IsWhole, fits_keeping, fits_kept, before_less, own_free, agree_parts, agree_own_copied}
use Rattle.source_lowering.proofs.expressions.Wholes.{value_made}

-- ---- forms

-- where a member lies in a value
abbrev pub member_spot : ℕ → ℕ → ℕ → core.Spot
member_spot own value cells = core.beyond (own_spot own value 0) cells

-- the cells of a value before one are as they were
abbrev pub AreBefore : Point → ℕ → ℕ → Config → Config → Type 0
AreBefore p value cells c0 c = (i j : ℕ) → i < cells → c.memory.parts (member_spot p.own value i) j ≡ c0.memory.parts (member_spot p.own value i) j

-- a member has its value
pub record MemberGoesOn (p : Point) (n d value cells : ℕ) (m0 : source.Memory) (c0 : Config) (shape : Shape) (s : List Scalar → source.Memory → steps.Step)
    (k : Config → core_steps.Step) : Type 0 where
  pub above : p.regions.all ≤ d
  pub go : (m : source.Memory) (c : Config) (vs : List Scalar) → SameState p m c → Grown (before_value p value) m0 c0.memory m c.memory
      → AreBefore p value cells c0 c → AreKept (d + 1) c0 c
      → AllShown p.world m c.memory (member_spot p.own value cells) (cells_of p.world shape) vs → SameAt p n (s vs m) (k c)

-- an act gives a member's value, and its code puts it there
pub record MemberGoes (p : Point) (n d value cells byte : ℕ) (shape : Shape) (act : steps.Act (List Scalar)) (code : List Statement) : Type 0 where
  pub same : (m : source.Memory) (c : Config) (s : List Scalar → source.Memory → steps.Step) (rest : Statements) (next : Next) → SameState p m c
      → c.temps d ≡ Pointer (own_spot p.own value 0) 0 → AreMade c.memory (member_spot p.own value cells) (0 + byte) (layout_of p.world shape).cells
      → MemberGoesOn p n d value cells m c shape s (meaning.statements rest next) → SameAt p n (act s m) (meaning.statements (put code rest) next c)

-- ---- a value

pub spots_apart : (s : Spot) (own value cells : ℕ) → core.same_spot (at s) (member_spot own value cells) ≡ false
spots_apart s own value cells = by s.region
  where
    by : (r : source.Region) → core.same_spot (at (record { region = r; object = s.object; cell = s.cell })) (member_spot own value cells) ≡ false
    by (source.Frame k) = refl
    by (source.Born k) = refl

-- another cell of the value stays as it was
cells_apart : (own value i cells : ℕ) → i < cells → core.same_spot (member_spot own value i) (member_spot own value cells) ≡ false
cells_apart own value i cells less =
    let other : nat_eq (0 + i) (0 + cells) ≡ false = grind (arith, nat_tests, less) in
    rw (eq-eqb own own refl, eq-eqb value value refl, other) refl

pub value_member : (p : Point) (n d value cells byte : ℕ) (shape : Shape) (e : Sense) (from : Shape) (first : List Statement) → IsValueShape shape
    → Agrees (keeping p (suc value)) n (d + 1) e from first
    → MemberGoes p n d value cells byte shape (e.value >>= converted p.world shape e.shape) (first ++ word_member_code p.world shape from d cells byte)
value_member p n d value cells byte shape e from first is_value one = record {
  same = λ m c s rest next fits temp made goes.
      subst (λ z. SameAt p n (e.value (λ vs. converted p.world shape e.shape vs s) m) (meaning.statements z next c))
      (sym (put_three first (conversion_code p.world shape from (d + 1)) stores rest ∙
      sym (put_all first (conversion_code p.world shape from (d + 1)) (put stores rest))))
      ((converted_gives (keeping p (suc value)) n (d + 1) shape e from first (value_taken shape is_value) one).same m c s (put stores rest) next
      (fits_keeping p (suc value) m c fits) (record {
        above = over goes.above (omega arith);
        go = λ m1 c1 vs fits1 later1 kept1 given1.
            stored m c s rest next goes m1 c1 vs (fits_kept p (suc value) m1 c1 fits1)
            (later_less (before_value p (suc value)) (before_value p value) m m1 c.memory c1.memory (before_less p value (suc value) (omega arith)) later1)
            (λ i j less. later1.owned p.own (member_spot p.own value i) j refl (omega arith, λ f. omega arith)) kept1
            (kept1 d (omega arith) ∙ temp) (made_later (before_value p (suc value)) m m1 c.memory c1.memory (member_spot p.own value cells) (0 + byte)
            (layout_of p.world shape).cells later1 made)
            (value_given p.world m1 c1.memory shape vs (contents_in (d + 1) shape c1.temps) is_value given1);
      }));
}
  where
    stores : List Statement
    stores = stores_code shape d (d + 1) cells byte

    stored : (m : source.Memory) (c : Config) (s : List Scalar → source.Memory → steps.Step) (rest : Statements) (next : Next)
        → MemberGoesOn p n d value cells m c shape s (meaning.statements rest next) → (m1 : source.Memory) (c1 : Config) (vs : List Scalar) → SameState p m1 c1
        → Grown (before_value p value) m c.memory m1 c1.memory → AreBefore p value cells c c1 → AreKept (d + 1) c c1
        → c1.temps d ≡ Pointer (own_spot p.own value 0) 0
        → AreMade c1.memory (member_spot p.own value cells) (0 + byte) (layout_of p.world shape).cells
        → AValue p.world m1 c1.memory shape vs (contents_in (d + 1) shape c1.temps) → SameAt p n (s vs m1) (meaning.statements (put stores rest) next c1)
    stored m c s rest next goes m1 c1 vs fits1 later1 before1 kept1 temp made v =
        let one : IsCell p.world shape = cell_of p.world shape is_value in
        let qs : List Piece = pieces_of shape in
        let xs : List Content = contents_in (d + 1) shape c1.temps in
        let spot : core.Spot = member_spot p.own value cells in
        let have = shaped_have c1.memory spot (0 + byte) 0 shape qs (subst (λ z. AreMade c1.memory spot (0 + byte) z) one.layout made).0 in
        let fit = one.fit m1 c1.memory v.value xs v.shown in
        let c2 : Config = with_memory (with_values c1.memory spot (0 + byte) qs xs) c1 in
        let puts = later_put (before_value p value) m1 c1.memory spot (0 + byte) qs have.contents xs
        (own_free p value value (0 + cells) (omega arith)) have.are in
        let around_puts = later_put (around p (suc p.frame)) m1 c1.memory spot (0 + byte) qs have.contents xs
        (own_free p 0 value (0 + cells) (omega arith)) have.are in
        let still = later_put nothing m1 c1.memory spot (0 + byte) qs have.contents xs (free_nothing spot) have.are in
        let agree = agree_parts p.world m1 c1.memory c2.memory.parts fits1.agree still
        (λ t j. all_other c1.memory.parts spot (0 + byte) 0 qs xs (at t) j (spots_apart t p.own value cells))
        (λ t j e. none_written c1.memory spot (0 + byte) 0 qs have.contents xs have.are t j e) in
        subst (λ z. SameAt p n (s vs m1) z)
        (sym (stores_does shape is_value c1 d (d + 1) cells byte 0 (own_spot p.own value 0) have.contents rest next temp fits1.stands have.are fit))
        (goes.go m1 c2 vs (fits_on p m1 m1 c1 c2 fits1 agree around_puts refl (λ k less. refl))
        (later_on (before_value p value) m m1 m1 c.memory c1.memory c2.memory later1 puts)
        (λ i j less. all_other c1.memory.parts spot (0 + byte) 0 qs xs (member_spot p.own value i) j (cells_apart p.own value i cells less) ∙ before1 i j less)
        kept1
        (subst (λ z. AllShown p.world m1 c2.memory spot z vs) (sym one.cells)
        (subst (λ z. AllShown p.world m1 c2.memory spot (shape ∷ []) z) (sym v.alone) (
          record {
            contents = xs;
            fit = subst (λ z. FitFirst z xs) (sym (cells_pieces p.world.unions shape is_value)) (fit_first qs xs fit);
            held = all_hold c1.memory spot (0 + byte) 0 qs xs fit;
            shown = shown_later nothing p.world m1 m1 c1.memory c2.memory shape v.value xs still v.shown;
          },
          tt,
        ))))

-- ---- a struct or a union

member_copied : (c : Config) (d own value cells byte other : ℕ) (l : Layout) (next : Config → core_steps.Step)
    → c.temps d ≡ Pointer (own_spot own value 0) 0 → reaches c.memory (member_spot own value cells) (0 + byte) ≡ true
    → c.temps (d + 1) ≡ Pointer (own_spot own other 0) 0
    → core.is_live (c.memory.standing (core.Own own)) ≡ true → are_laid c.memory (member_spot own value cells) (0 + byte) l.cells ≡ true
    → are_laid c.memory (own_spot own other 0) 0 l.cells ≡ true → same_object (member_spot own value cells) (own_spot own other 0) ≡ false
    → does (Offset (d + 2) d cells byte) (does (Copy (d + 2) (d + 1) l) next) c
    ≡ next (with_memory (copied l (member_spot own value cells) (own_spot own other 0) c.memory)
    (with_temp (d + 2) (Pointer (member_spot own value cells) (0 + byte)) c))
member_copied c d own value cells byte other l next temp near there live laid laid_t apart =
    let here : nat_eq (d + 2) (d + 2) ≡ true = eq-eqb (d + 2) (d + 2) refl in
    let below : nat_eq (d + 1) (d + 2) ≡ false = grind (arith, nat_tests) in
    rw (temp, near, here, below, there, live, laid, laid_t, apart) refl

values_apart : (own value cells other : ℕ) → value < other → same_object (member_spot own value cells) (own_spot own other 0) ≡ false
values_apart own value cells other less =
    let no : nat_eq value other ≡ false = grind (arith, nat_tests, less) in rw (eq-eqb own own refl, no) refl

-- cells before those that are copied
cells_before_copied : (own value i cells count : ℕ) → i < cells → cells_on count (member_spot own value cells) (member_spot own value i) ≡ None
cells_before_copied own value i cells count less =
    let no : nat_le (0 + cells) (0 + i) ≡ false = grind (arith, nat_tests, less) in rw (eq-eqb own own refl, eq-eqb value value refl, no) refl

pub whole_member : (p : Point) (n d value cells byte other : ℕ) (shape : Shape) (e : Sense) (code : List Statement) → AreStructs p.world.unions p.world.structs
    → IsWholeShape p.world.unions p.world.structs shape → value < other → IsWhole p n (d + 1) other e code
    → MemberGoes p n d value cells byte shape (e.value >>= converted p.world shape e.shape)
    (code ++ struct_member_code p.world shape d cells byte)
whole_member p n d value cells byte other shape e code structs whole after one = record {
  same = λ m c s rest next fits temp made goes.
      subst (λ z. SameAt p n (e.value (λ vs. converted p.world shape e.shape vs s) m) (meaning.statements z next c)) (sym (put_all code copies rest))
      (one.same m c (λ vs. converted p.world shape e.shape vs s) (put copies rest) next fits (record {
        above = over goes.above (omega arith);
        go = λ m1 c1 vs fits1 later1 kept1 temp1 shown1.
            converted_whole p n shape e.shape vs s m1 (meaning.statements (put copies rest) next c1) whole
            (λ equal.
            let same : shape ≡ one.shape = shapes_same shape e.shape equal ∙ one.shape_is in
            copy_same m c s rest next goes m1 c1 vs fits1
            (later_less (before_value p other) (before_value p value) m m1 c.memory c1.memory (before_less p value other (omega (arith, after))) later1)
            (λ i j less. later1.owned p.own (member_spot p.own value i) j refl (omega arith, λ f. after)) kept1 (kept1 d (omega arith) ∙ temp) temp1
            (made_later (before_value p other) m m1 c.memory c1.memory (member_spot p.own value cells) (0 + byte) layout.cells later1 made)
            (subst (λ z. AreMade c1.memory (own_spot p.own other 0) 0 (layout_of p.world z).cells) (sym same)
            (value_made p m1 c1 other one.shape one.object fits1 one.numbered))
            (subst (λ z. AllShown p.world m1 c1.memory (own_spot p.own other 0) (cells_of p.world z) vs) (sym same) shown1));
      }));
}
  where
    object : IsObject p.world.unions p.world.structs shape
    object = whole_object p.world.unions p.world.structs shape whole

    layout : Layout
    layout = layout_of p.world shape

    copies : List Statement
    copies = Do (Offset (d + 2) d cells byte) ∷ Do (Copy (d + 2) (d + 1) (layout_of p.world shape)) ∷ []

    copy_same : (m : source.Memory) (c : Config) (s : List Scalar → source.Memory → steps.Step) (rest : Statements) (next : Next)
        → MemberGoesOn p n d value cells m c shape s (meaning.statements rest next) → (m1 : source.Memory) (c1 : Config) (vs : List Scalar)
        → SameState p m1 c1 → Grown (before_value p value) m c.memory m1 c1.memory → AreBefore p value cells c c1 → AreKept (d + 1) c c1
        → c1.temps d ≡ Pointer (own_spot p.own value 0) 0 → c1.temps (d + 1) ≡ Pointer (own_spot p.own other 0) 0
        → AreMade c1.memory (member_spot p.own value cells) (0 + byte) layout.cells → AreMade c1.memory (own_spot p.own other 0) 0 layout.cells
        → AllShown p.world m1 c1.memory (own_spot p.own other 0) (cells_of p.world shape) vs
        → SameAt p n (s vs m1) (meaning.statements (put copies rest) next c1)
    copy_same m c s rest next goes m1 c1 vs fits1 later1 before1 kept1 temp there made made_t shown =
        let spot : core.Spot = member_spot p.own value cells in
        let from : core.Spot = own_spot p.own other 0 in
        let middle : Config = with_temp (d + 2) (Pointer spot (0 + byte)) c1 in
        let c2 : Config = with_memory (copied layout spot from c1.memory) middle in
        let copying = copied_later (before_value p value) m1 c1.memory layout spot from (own_free p value value (0 + cells) (omega arith)) in
        let around_copying = copied_later (around p (suc p.frame)) m1 c1.memory layout spot from (own_free p 0 value (0 + cells) (omega arith)) in
        let agree = agree_own_copied p.world m1 c1.memory layout p.own value (0 + cells) from fits1.agree in
        let first = first_part_of p.world c1.memory shape spot (0 + byte) (object_cells p.world.unions p.world.structs shape structs object) made in
        subst (λ z. SameAt p n (s vs m1) z)
        (sym (member_copied c1 d p.own value cells byte other layout (meaning.statements rest next) temp
        (first_reached c1.memory spot (0 + byte) first) there fits1.stands
        (laid_there c1.memory spot (0 + byte) layout.cells made) (laid_there c1.memory from 0 layout.cells made_t)
        (values_apart p.own value cells other after)))
        (goes.go m1 c2 vs (fits_on p m1 m1 middle c2 (temp_fits p m1 c1 (d + 2) (Pointer spot (0 + byte)) fits1 (over goes.above (omega arith))) agree
        around_copying refl
        (λ k less. refl))
        (later_on (before_value p value) m m1 m1 c.memory c1.memory c2.memory later1 copying)
        (λ i j less.
        copied_nowhere layout spot from c1.memory (member_spot p.own value i) j (cells_before_copied p.own value i cells (length layout.cells) less) ∙
        before1 i j less)
        (kept_temp (d + 1) (d + 2) (Pointer spot (0 + byte)) c c1 (omega arith) kept1)
        (whole_copied p.world m1 c1.memory spot from (0 + byte) shape vs structs object made shown))
