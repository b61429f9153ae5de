-- The globals' constants are stored before `main` is entered; Core's data have them from the start.
use Rattle.std.proofs.Common.{◌≡◌, inl, inr, ⊎_elim, ◌⊎◌, Option, Some, None, ℕ, suc, ◌+◌, ◌-◌, ◌%◌, ◌^◌, ◌<◌, ◌≤◌, List, [], ◌∷◌, refl, sym, ap}
use Rattle.std.proofs.Common.{Bool, true, false, ◌∙◌, subst, arith}
use Rattle.std.specs.Prelude.{length, nat_eq, nat_le, nat_lt, if◌then◌else◌, option_map}
use Rattle.std.proofs.lemmas.Bool.{eqb-true, le-leb}
use Rattle.std.proofs.lemmas.Bool.Decides.{nat_tests}
use Rattle.cyc_words.specs.Events.{SourceEnding}
use Rattle.step_trees.specs.Trees.{Stops}
use Rattle.cyc_tree.specs.Tree as tree
use Rattle.cyc_tree.specs.Tree.{Initial, Item, Constant}
use Rattle.source_meaning.specs.Shapes.{
  MayBeNull,
  NeverNull,
  Owner,
  Shared,
  Alone,
  Unsaid,
  Shape,
  IntShape,
  UnsignedShape,
  CharShape,
  VoidShape,
  ThinShape,
  FatShape,
  HandleShape,
  KeyShape,
  StructShape,
  UnionShape,
  ArrayShape,
  written,
  settled,
}
use Rattle.source_meaning.specs.Memory as source
use Rattle.source_meaning.specs.Memory.{IntegerType, AsInt, AsUnsigned, AsChar, Integer, Thin, Wide, Scalar, Holds}
use Rattle.source_meaning.specs.Steps as steps
use Rattle.source_meaning.specs.Steps.{World, need}
use Rattle.source_meaning.specs.Conversions.{converted}
use Rattle.source_meaning.specs.Values.{write_cells}
use Rattle.source_meaning.specs.Places.{literal_string, own_string, span_at, string_at}
use Rattle.source_meaning.specs.Calls.{number_type}
use Rattle.source_meaning.specs.Programs.{constant_value, constant_shape, integer_shape, global_shape, global_stored, globals_stored, globals_from, heap_spot}
use Rattle.core_meaning.specs.Memory as core
use Rattle.core_meaning.specs.Memory.{Word}
use Rattle.core_meaning.specs.Core.{Program}
use Rattle.core_meaning.specs.Steps as core_steps
use Rattle.source_lowering.specs.Programs.{word_in, constant_word, text_content, constant_content}
use Rattle.source_lowering.specs.Taken.{IsIntegerShape, IsNullable, IsString, TakesConstant}
use Rattle.source_lowering.specs.Lowerable.{IsObject, AreStructs, TakesGlobal, TakesProgram}
use Rattle.source_lowering.specs.Simulation.{at, IsTakenObject, Leads, LeadsAll, Shown, SameMemory, Grown, AreLed, IsText, AreTexts, HasStatics, Same, nothing}
use Rattle.source_lowering.specs.Simulation.{VariableLeads, Bound}
use Rattle.source_lowering.proofs.Runs.{stuck_same}
use Rattle.source_lowering.proofs.memory.Members.{lies_here}
use Rattle.source_lowering.proofs.Texts.{string_found}
use Rattle.source_lowering.proofs.memory.Keeping.{later_self, all_led_later, statics_later, m_written, stays_self}
use Rattle.source_lowering.proofs.memory.CellParts.{agree_shown}
use Rattle.source_lowering.proofs.values.Operators.{modulo_small}
use Rattle.source_lowering.proofs.values.Integers.{limit, word_shown, integer_word}
use Rattle.source_lowering.proofs.memory.ValueCells.{IsCell, cell_of, CellAt, cell_there, cell_writes}
use Rattle.source_lowering.proofs.statements.WrittenTypes.{object_settled}
use Rattle.source_lowering.proofs.memory.ObjectShapes.{object_leads}
use Rattle.source_lowering.proofs.regions.Heap.{constant_is_value, constant_contents, word_contents, IsStored, AreStored}
use Rattle.source_meaning.specs.Memory.{Spot}
use Rattle.source_lowering.specs.Simulation.{IsOwned}

-- ---- the value of a constant

-- the contents that stand for a string
abbrev text_contents : Option Scalar → Shape → List core.Content
text_contents found (FatShape to) = text_content found 0 ∷ text_content found 1 ∷ text_content found 2 ∷ []
text_contents found s = text_content found 0 ∷ []

contents_of_text : (w : World) (at : ℕ) (bytes : List ℕ) (s : Shape) → IsString bytes s
    → constant_contents w (Constant.Text at bytes) s ≡ text_contents (literal_string w.strings at bytes) s
contents_of_text w at bytes (FatShape CharShape) h = refl
contents_of_text w at bytes (ThinShape (MayBeNull count) owner CharShape) h = refl
contents_of_text w at bytes _ h = absurd h

enough_left : (b count : ℕ) → b % 2 ^ 32 ≤ count → nat_le (b % 2 ^ 32) (count - 0) ≡ true
enough_left b count few = le-leb (b % 2 ^ 32) (count - 0) (omega (arith, few))

is_some : (count : ℕ) → 0 < count → nat_lt 0 count ≡ true
is_some count some = grind (arith, nat_tests, some)

-- a constant's value, converted to a global's shape
record IsConverted (w : World) (m0 : source.Memory) (c0 : core.Memory) (c : Constant) (s : Shape) : Type 0 where
  value : Scalar
  shown : Shown w m0 c0 s value (constant_contents w c s)
  gives : (k : List Scalar → source.Memory → steps.Step) (m : source.Memory) → constant_value w.strings c (λ v. converted w s (constant_shape c) (v ∷ []) k) m
      ≡ k (value ∷ []) m

-- a string that isn't there has no value
record HasNoValue (w : World) (c : Constant) (s : Shape) : Type 0 where
  stops : (k : List Scalar → source.Memory → steps.Step) (m : source.Memory) → constant_value w.strings c (λ v. converted w s (constant_shape c) (v ∷ []) k) m
      ≡ Stops SourceEnding.Stuck

low_small : (x : ℕ) → x % 256 < 256
low_small x = omega arith

byte_small : (x : ℕ) → x % 256 < 2 ^ 32
byte_small x = omega arith

-- an integer's word, of whatever type
integer_converted : (w : World) (s : Shape) (word : ℕ) (t : IntegerType) (from : Shape) → IsIntegerShape s → word < 2 ^ 32
    → (type : IntegerType) × ((s ≡ integer_shape type) × ((word_in s word < limit type) × ((k : List Scalar → source.Memory → steps.Step) (m : source.Memory)
    → converted w s from (Integer t word ∷ []) k m ≡ k (Integer type (word_in s word) ∷ []) m)))
integer_converted w IntShape word t from h small = (AsInt, (refl, (small, λ k m. refl)))
integer_converted w UnsignedShape word t from h small = (AsUnsigned, (refl, (small, λ k m. refl)))
integer_converted w CharShape word t from h small = (AsChar, (refl, (low_small word, λ k m. refl)))
integer_converted w VoidShape word t from h small = absurd h
integer_converted w (ThinShape may_be_null owner to) word t from h small = absurd h
integer_converted w (FatShape to) word t from h small = absurd h
integer_converted w HandleShape word t from h small = absurd h
integer_converted w KeyShape word t from h small = absurd h
integer_converted w (StructShape tag) word t from h small = absurd h
integer_converted w (UnionShape tag) word t from h small = absurd h
integer_converted w (ArrayShape count of) word t from h small = absurd h

number_converted : (w : World) (m0 : source.Memory) (c0 : core.Memory) (c : Constant) (s : Shape) (t : IntegerType) (from : Shape) → IsIntegerShape s
    → constant_word c < 2 ^ 32 → constant_content w c s ≡ Word (word_in s (constant_word c))
    → ((k : List Scalar → source.Memory → steps.Step) (m : source.Memory)
    → constant_value w.strings c (λ v. converted w s (constant_shape c) (v ∷ []) k) m ≡ converted w s from (Integer t (constant_word c) ∷ []) k m)
    → IsConverted w m0 c0 c s ⊎ HasNoValue w c s
number_converted w m0 c0 c s t from h small content gives =
    let one = integer_converted w s (constant_word c) t from h small in
    inl (record {
      value = Integer one.0 (word_in s (constant_word c));
      shown =
          subst (λ xs. Shown w m0 c0 s (Integer one.0 (word_in s (constant_word c))) xs)
          (sym (word_contents w c s (integer_word s h) ∙ ap (λ x. x ∷ []) content))
          (subst (λ z. Shown w m0 c0 z (Integer one.0 (word_in s (constant_word c))) (Word (word_in s (constant_word c)) ∷ [])) (sym one.1.0)
          (word_shown w m0 c0 one.0 (word_in s (constant_word c)) one.1.1.0));
      gives = λ k m. gives k m ∙ one.1.1.1 k m;
    })

-- NULL, for a pointer that may be it
null_converted : (w : World) (m0 : source.Memory) (c0 : core.Memory) (at : ℕ) (s : Shape) → IsNullable s → IsConverted w m0 c0 (Constant.Null at) s
null_converted w m0 c0 at (ThinShape (MayBeNull count) owner to) h = record {
  value = Thin None;
  shown = inl (record { allowed = refl; value = refl; shown = refl });
  gives = λ k m. refl;
}
null_converted w m0 c0 at (ThinShape (NeverNull count) owner to) h = absurd h
null_converted w m0 c0 at IntShape h = absurd h
null_converted w m0 c0 at UnsignedShape h = absurd h
null_converted w m0 c0 at CharShape h = absurd h
null_converted w m0 c0 at VoidShape h = absurd h
null_converted w m0 c0 at (FatShape to) h = record {
  value = Wide None;
  shown = inl (record { word = 0; value = refl; shown = refl; small = omega arith });
  gives = λ k m. refl;
}
null_converted w m0 c0 at HandleShape h = absurd h
null_converted w m0 c0 at KeyShape h = absurd h
null_converted w m0 c0 at (StructShape tag) h = absurd h
null_converted w m0 c0 at (UnionShape tag) h = absurd h
null_converted w m0 c0 at (ArrayShape count of) h = absurd h

-- a string, for a pointer to no more characters than it has, or NULL, where another string is at its place
text_converted : (w : World) (m0 : source.Memory) (c0 : core.Memory) (at : ℕ) (bytes : List ℕ) (s : Shape) → AreStructs w.unions w.structs → IsString bytes s
    → IsObject w.unions w.structs s → AreTexts w m0 c0 w.strings
    → IsConverted w m0 c0 (Constant.Text at bytes) s ⊎ HasNoValue w (Constant.Text at bytes) s
text_converted w m0 c0 at bytes s structs h object texts = by (string_at w.strings at) refl
  where
    lies : IsTakenObject w CharShape
    lies = lies_here w CharShape structs tt

    own : Option Scalar → Option Scalar
    own found = option_map (own_string (length bytes + 1)) found

    IsGiven : Option Scalar → Shape → Type 0
    IsGiven found z = (value : Scalar) × (Shown w m0 c0 z value (text_contents found z) × ((k : List Scalar → source.Memory → steps.Step) (m : source.Memory)
        → need found (λ v. converted w z (FatShape CharShape) (v ∷ []) k) m ≡ k (value ∷ []) m))

    -- no unique pointer leads to a string
    given_stuck : Option Scalar → Shape → Type 0
    given_stuck found z = (k : List Scalar → source.Memory → steps.Step) (m : source.Memory)
        → need found (λ v. converted w z (FatShape CharShape) (v ∷ []) k) m ≡ Stops SourceEnding.Stuck

    thin_given : (b : ℕ) (o : Owner) (number count : ℕ) → b % 2 ^ 32 ≤ count → 0 < count → count < 2 ^ 32
        → LeadsAll w m0 c0 CharShape count (heap_spot number) 0
        → ((c : core.Memory) (t : Spot) (byte : ℕ) → IsOwned o c t byte)
        → ((k : List Scalar → source.Memory → steps.Step) (m : source.Memory)
        → need (Some (span_at count (heap_spot number))) (λ v. converted w (ThinShape (MayBeNull b) o CharShape) (FatShape CharShape) (v ∷ []) k) m
        ≡ k (Thin (Some (heap_spot number)) ∷ []) m) → IsGiven (Some (span_at count (heap_spot number))) (ThinShape (MayBeNull b) o CharShape)
    thin_given b o number count fewer some few leads owned gives = (
      Thin (Some (heap_spot number)),
      (
        inr (record {
          spot = heap_spot number;
          byte = 0;
          value = refl;
          shown = refl;
          lies = lies;
          leads = leads 0 some;
          few = omega (arith, fewer, few);
          elements = λ k less. leads k (omega (arith, fewer, less));
          owned = owned c0 (heap_spot number) 0;
        }),
        gives,
      ),
    )

    span_given : (number count : ℕ) → count ≡ length bytes + 1 → 0 < count → count < 2 ^ 32 → LeadsAll w m0 c0 CharShape count (heap_spot number) 0
        → (z : Shape) → IsString bytes z
        → IsGiven (Some (span_at count (heap_spot number))) z ⊎ given_stuck (Some (span_at count (heap_spot number))) z
    span_given number count is some few leads (FatShape CharShape) g = inl (
      span_at count (heap_spot number),
      (
        inr (record {
          span = record { first = heap_spot number; count = count; index = 0 };
          byte = 0;
          value = refl;
          shown = refl;
          small = omega arith;
          few = few;
          lies = lies;
          leads = leads;
        }),
        λ k m. refl,
      ),
    )
    span_given number count is some few leads (ThinShape (MayBeNull b) Shared CharShape) g =
        let fewer : b % 2 ^ 32 ≤ count = subst (λ n. b % 2 ^ 32 ≤ n) (sym is) g in
        inl (thin_given b Shared number count fewer some few leads (λ c t byte. tt) (λ k m. rw (is_some count some, enough_left b count fewer) refl))
    span_given number count is some few leads (ThinShape (MayBeNull b) Unsaid CharShape) g =
        let fewer : b % 2 ^ 32 ≤ count = subst (λ n. b % 2 ^ 32 ≤ n) (sym is) g in
        inl (thin_given b Unsaid number count fewer some few leads (λ c t byte. tt) (λ k m. rw (is_some count some, enough_left b count fewer) refl))
    span_given number count is some few leads (ThinShape (MayBeNull b) Alone CharShape) g = inr (λ k m. refl)
    span_given number count is some few leads _ g = absurd g

    null_given : (z : Shape) → IsString bytes z → IsGiven (Some (Wide None)) z
    null_given (FatShape CharShape) g = (Wide None, (inl (record { word = 0; value = refl; shown = refl; small = omega arith }), λ k m. refl))
    null_given (ThinShape (MayBeNull b) Shared CharShape) g = (Thin None, (inl (record { allowed = refl; value = refl; shown = refl }), λ k m. refl))
    null_given (ThinShape (MayBeNull b) Unsaid CharShape) g = (Thin None, (inl (record { allowed = refl; value = refl; shown = refl }), λ k m. refl))
    null_given (ThinShape (MayBeNull b) Alone CharShape) g = (Thin None, (inl (record { allowed = refl; value = refl; shown = refl }), λ k m. refl))
    null_given _ g = absurd g

    own_given : (number count : ℕ) → 0 < count → count < 2 ^ 32 → LeadsAll w m0 c0 CharShape count (heap_spot number) 0 → (same : Bool)
        → nat_eq count (length bytes + 1) ≡ same
        → (let found = Some (Wide (if same then Some (record { first = heap_spot number; count = count; index = 0 }) else None)) in
        IsGiven found s ⊎ given_stuck found s)
    own_given number count some few leads true e = span_given number count (eqb-true count (length bytes + 1) e) some few leads s h
    own_given number count some few leads false e = inl (null_given s h)

    by : (found : Option Scalar) → string_at w.strings at ≡ found → IsConverted w m0 c0 (Constant.Text at bytes) s ⊎ HasNoValue w (Constant.Text at bytes) s
    by None e = inr (record { stops = λ k m. ap (λ z. need (own z) (λ v. converted w s (FatShape CharShape) (v ∷ []) k) m) e })
    by (Some v) e =
        let text = string_found (λ z. IsText w m0 c0 z) w.strings at v texts e in
        ⊎_elim
        (λ (o : IsGiven (own (Some v)) s). inl (record {
          value = o.0;
          shown = subst (λ xs. Shown w m0 c0 s o.0 xs) (ap (λ z. text_contents (own z) s) (sym e) ∙ sym (contents_of_text w at bytes s h)) o.1.0;
          gives = λ k m. ap (λ z. need (own z) (λ v. converted w s (FatShape CharShape) (v ∷ []) k) m) e ∙ o.1.1 k m;
        }))
        (λ (o : given_stuck (own (Some v)) s). inr (record {
          stops = λ k m. ap (λ z. need (own z) (λ v. converted w s (FatShape CharShape) (v ∷ []) k) m) e ∙ o k m;
        }))
        (subst (λ z. IsGiven (own (Some z)) s ⊎ given_stuck (own (Some z)) s) (sym text.value)
        (own_given text.number text.count text.some text.few text.leads (nat_eq text.count (length bytes + 1)) refl))

constant_converted : (w : World) (m0 : source.Memory) (c0 : core.Memory) (c : Constant) (s : Shape) → AreStructs w.unions w.structs → TakesConstant s c
    → IsObject w.unions w.structs s → AreTexts w m0 c0 w.strings → IsConverted w m0 c0 c s ⊎ HasNoValue w c s
constant_converted w m0 c0 (Constant.Number at value suffix) s structs h object texts =
    number_converted w m0 c0 (Constant.Number at value suffix) s (number_type value suffix) (integer_shape (number_type value suffix)) h (modulo_small value)
    refl (λ k m. refl)
constant_converted w m0 c0 (Constant.Negative at value suffix) s structs h object texts =
    number_converted w m0 c0 (Constant.Negative at value suffix) s (number_type value suffix) (integer_shape (number_type value suffix)) h
    (modulo_small (0 + 2 ^ 32 - value % 2 ^ 32)) refl (λ k m. refl)
constant_converted w m0 c0 (Constant.Character at byte) s structs h object texts =
    number_converted w m0 c0 (Constant.Character at byte) s AsChar CharShape h (byte_small byte) refl (λ k m. refl)
constant_converted w m0 c0 (Constant.Text at bytes) s structs h object texts = text_converted w m0 c0 at bytes s structs h object texts
constant_converted w m0 c0 (Constant.Null at) s structs h object texts = inl (null_converted w m0 c0 at s h)

-- ---- the globals

-- what comes after the globals: memories that agree, where the globals lie
pub record Begins (w : World) (fs : Program) (n : ℕ) (c : core.Memory) (s : source.Memory → steps.Step) (k : core_steps.Step) : Type 0 where
  pub go : (m : source.Memory) → SameMemory w m c → HasStatics w m c → Same w fs n (s m) k

-- the source's memory alone
source_later : (b : Bound) (m m' : source.Memory) (c c' : core.Memory) → Grown b m c m' c' → Grown b m c m' c
source_later b m m' c c' l = record {
  shapes = l.shapes;
  lent = l.lent;
  parts = λ t j o w h. h;
  objects = l.objects;
  begun = l.begun;
  called = omega arith;
  births = omega arith;
  stays = λ d less. stays_self _;
  stands = λ k h. refl;
  owned = λ k t j r h. refl;
}

-- one global's constant is stored
one_stored : (w : World) (fs : Program) (n : ℕ) (initial : Initial) (shape : Shape) (i : ℕ) (m : source.Memory) (c : core.Memory)
    (s : Unit {0} → source.Memory → steps.Step) (k : core_steps.Step) → AreStructs w.unions w.structs → TakesGlobal shape initial
    → IsObject w.unions w.structs shape
    → SameMemory w m c → AreTexts w m c w.strings → VariableLeads w m c (global_shape initial shape) (heap_spot i) → IsStored w c initial shape i
    → ((m' : source.Memory) → SameMemory w m' c → Grown nothing m c m' c → Same w fs n (s tt m') k)
    → Same w fs n (global_stored w initial shape (heap_spot i) s m) k
one_stored w fs n Initial.Unset shape i m c s k structs h object agree texts leads part go = go m agree (later_self nothing m c)
one_stored w fs n (Initial.Elements count) shape i m c s k structs h object agree texts leads part go = go m agree (later_self nothing m c)
one_stored w fs n (Initial.Given constant) shape i m c s k structs h object agree texts leads part go =
    ⊎_elim given (λ (o : HasNoValue w constant shape). subst (λ z. Same w fs n z k) (sym (o.stops (λ vs. write_cells (heap_spot i) vs s) m))
    (stuck_same w fs n k)) (constant_converted w m c constant shape structs h object texts)
  where
    one : IsCell w shape
    one = cell_of w shape (constant_is_value w constant shape h object)

    leads_to : Leads w m c shape (heap_spot i) 0
    leads_to = object_leads w.unions w.structs w m c shape (heap_spot i) object leads

    here : CellAt m c (heap_spot i) 0 shape
    here = cell_there w m c (heap_spot i) 0 shape one leads_to

    given : IsConverted w m c constant shape → Same w fs n (global_stored w (Initial.Given constant) shape (heap_spot i) s m) k
    given o =
        subst (λ z. Same w fs n z k) (sym (o.gives (λ vs. write_cells (heap_spot i) vs s) m))
        (cell_writes w fs n shape m c (heap_spot i) 0 o.value (constant_contents w constant shape) s k one agree leads_to o.shown
        (λ y. go (m_written m (heap_spot i) shape o.value)
        (agree_shown w m c (heap_spot i) shape here.has.content o.value (constant_contents w constant shape) agree here.has.is part o.shown)
        (source_later nothing m (m_written m (heap_spot i) shape o.value) c _ (y.later nothing))))

pub globals_same : (w : World) (fs : Program) (n : ℕ) (items : List Item) (i : ℕ) (m : source.Memory) (c : core.Memory)
    (s : Unit {0} → source.Memory → steps.Step) (k : core_steps.Step) → AreStructs w.unions w.structs → TakesProgram w items → SameMemory w m c
    → HasStatics w m c
    → AreLed w m c (globals_from items i) → AreStored w c items i
    → Begins w fs n c (s tt) k → Same w fs n (globals_stored w items i s m) k
globals_same w fs n [] i m c s k structs h agree statics here stored begins = begins.go m agree statics
globals_same w fs n (tree.StructItem x ∷ items) i m c s k structs h agree statics here stored begins =
    globals_same w fs n items i m c s k structs h.1 agree statics here stored begins
globals_same w fs n (tree.UnionItem u ∷ items) i m c s k structs h agree statics here stored begins =
    globals_same w fs n items i m c s k structs h.1 agree statics here stored begins
globals_same w fs n (tree.FunctionItem f ∷ items) i m c s k structs h agree statics here stored begins =
    globals_same w fs n items i m c s k structs h.1 agree statics here stored begins
globals_same w fs n (tree.GlobalItem g ∷ items) i m c s k structs h agree statics here stored begins =
    one_stored w fs n g.initial (settled (written g.of)) i m c (λ u. globals_stored w items (suc i) s) k structs h.0.1
    (object_settled w.unions w.structs g.of h.0.0) agree statics.strings here.0
    stored.0
    (λ m' agree' later.
    globals_same w fs n items (suc i) m' c s k structs h.1 agree' (statics_later nothing w m m' c c later statics) (all_led_later nothing w m m' c c
    (globals_from items (suc i)) later here.1) stored.1 begins)
