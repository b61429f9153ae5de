-- Arrays that `new` and `rnew` make: the handle is there, the count is evaluated, a block for so many objects is asked for, and then come the elements.
use Rattle.std.proofs.Common.{◌≡◌, ℕ, ◌+◌, ◌*◌, ◌^◌, ◌<◌, ◌≤◌, inl, inr, List, [], ◌∷◌, ◌++◌, length, map, Bool, true, false, Some, nat_lt, refl, sym, ap, ◌∙◌}
use Rattle.std.proofs.Common.{subst, arith}
use Rattle.std.specs.Prelude.{◌-◌, min, if◌then◌else◌}
use Rattle.std.proofs.lemmas.Bool.Decides.{nat_tests}
use Rattle.cyc_words.specs.Events as events
use Rattle.step_trees.specs.Trees.{Says}
use Rattle.source_meaning.specs.Shapes.{
  Shape,
  IntShape,
  UnsignedShape,
  CharShape,
  VoidShape,
  ThinShape,
  FatShape,
  HandleShape,
  KeyShape,
  StructShape,
  UnionShape,
  ArrayShape,
}
use Rattle.source_meaning.specs.Memory as source
use Rattle.source_meaning.specs.Memory.{Holds, Object, Scalar, Spot, array_of, blank_cell, is_live, next_spot}
use Rattle.source_meaning.specs.Steps as steps
use Rattle.source_meaning.specs.Steps.{World, give, ◌>>=◌, ◌>>◌}
use Rattle.source_meaning.specs.Conversions as conversions
use Rattle.source_meaning.specs.Conversions.{cells_of, integer, size_of}
use Rattle.source_meaning.specs.Making as making
use Rattle.source_meaning.specs.Making.{InRegion, Maker, ask, make_object}
use Rattle.source_meaning.specs.Places.{Sense, span_at}
use Rattle.source_meaning.specs.Calls.{array_made, elements, index_in, index_made}
use Rattle.source_meaning.specs.Regions.{in_block}
use Rattle.core_meaning.specs.Memory as core
use Rattle.core_meaning.specs.Memory.{Birth, Pointer, Word, blanks, first_spot}
use Rattle.core_meaning.specs.Core.{Constant, Do, Element, Statement, Statements}
use Rattle.core_meaning.specs.Steps as core_steps
use Rattle.core_meaning.specs.Steps.{Config, with_memory, with_temp}
use Rattle.core_meaning.specs.Operations.{saturated}
use Rattle.core_meaning.specs.Meaning as meaning
use Rattle.source_lowering.specs.Layouts.{extent_of, layout_of}
use Rattle.source_lowering.specs.Members.{words_in}
use Rattle.source_lowering.specs.Lowered.{array_code, element_by, indexed_code, put, stores_code, values_by}
use Rattle.source_lowering.specs.Lowerable.{AreStructs, IsObject, IsValueShape, TakesMember}
use Rattle.source_lowering.specs.ObjectCells.{HasCells}
use Rattle.source_lowering.specs.Simulation.{
  AreCells,
  AreKept,
  BothVisible,
  GivesAs,
  GoesOn,
  GrownAt,
  LeadsAll,
  LocalMade,
  Next,
  Point,
  SameAt,
  SameMemory,
  SameState,
  at,
  within,
  kept_in,
}
use Rattle.source_lowering.proofs.memory.Keeping.{fits_later, later_on}
use Rattle.source_lowering.proofs.memory.Members.{lies_here}
use Rattle.source_lowering.proofs.memory.Entering.{last_made, local_made}
use Rattle.source_lowering.proofs.memory.Loading.{after_temp}
use Rattle.source_lowering.proofs.Runs.{put_all, says_same, stuck_same}
use Rattle.source_lowering.proofs.regions.Granting.{core_more, more_agree, more_later, source_more}
use Rattle.source_lowering.proofs.statements.Declaring.{blank_keeps}
use Rattle.source_lowering.proofs.values.Integers.{object_target, small_word, value_object}
use Rattle.source_lowering.proofs.values.AnyValues.{fat_same, one_same, thin_same}
use Rattle.source_lowering.proofs.values.Values.{kept_temp, other_temp, over, put_temp, put_three, temp_fits}
use Rattle.source_lowering.proofs.expressions.ArrayBeginning.{element_led}
use Rattle.source_lowering.proofs.expressions.ArrayCells.{element_there, in_element}
use Rattle.source_lowering.proofs.expressions.Elements.{these_three}
use Rattle.source_lowering.proofs.expressions.Making.{here_is, spot_of}
use Rattle.source_lowering.proofs.expressions.Numbered.{AreNumbered}
use Rattle.source_lowering.proofs.expressions.Requests.{GivesMaker}
use Rattle.source_lowering.proofs.expressions.Variables.{Agrees}
use Rattle.source_lowering.proofs.expressions.WholeForms.{IsWholeAs}
use Rattle.source_lowering.proofs.expressions.MadeElements.{ArrayAt, ElementAs, array_later, whole_element, value_element}
use Rattle.source_lowering.proofs.expressions.MadeLoops.{block_same, index_place}
use Rattle.source_lowering.proofs.regions.Regions.{live_born}

-- ---- the block is there

-- nothing was stored to its elements yet
abbrev blank_array : World → Shape → ℕ → Object
blank_array w shape count = array_of count (map blank_cell (cells_of w shape))

array_keeps : (w : World) (shape : Shape) (count cell : ℕ) (of : Shape) (x : source.Content) (v : Scalar) → kept_in x ≡ Some v
    → blank_array w shape count cell ≡ Some (record { shape = of; content = x }) → ⊥
array_keeps w shape count cell of x v keeps e =
    let inside = in_element count cell (map blank_cell (cells_of w shape)) (record { shape = of; content = x }) e in
    blank_keeps (cells_of w shape) inside.number of x v keeps inside.is

abbrev source_arrayed : World → source.Memory → ℕ → Shape → ℕ → source.Memory
source_arrayed w m r shape count = source_more m r (blank_array w shape count)

abbrev core_arrayed : World → core.Memory → ℕ → Shape → ℕ → core.Memory
core_arrayed w c r shape count = core_more c r (blanks (layout_of w shape) count)

abbrev new_spot : source.Memory → ℕ → Spot
new_spot m r = next_spot m (source.Born r)

-- both number it alike
same_spot : (w : World) (m : source.Memory) (c : core.Memory) (r : ℕ) → SameMemory w m c → at (new_spot m r) ≡ first_spot c (core.Born r)
same_spot w m c r a = ap (λ z. record { region = core.Born r; object = z; cell = 0 }) (a.blocks r)

-- its elements lie one after the other
array_leads : (w : World) (m : source.Memory) (c : core.Memory) (r : ℕ) (shape : Shape) (count : ℕ) → HasCells w.unions w.structs shape → SameMemory w m c
    → LeadsAll w (source_arrayed w m r shape count) (core_arrayed w c r shape count) shape count (new_spot m r) 0
array_leads w m c r shape count has a k less = (
  subst (λ z. AreCells m' z (cells_of w shape)) (λ i. spot_of (source.Born r) index (none i))
      (element_there m' (source.Born r) index count k (λ s. source.Blank) (cells_of w shape) less
      (λ cell. here_is m (source.Born r) index cell (blank_array w shape count) refl)),
  element_led w c' (source.Born r) index count k shape has less made,
)
  where
    index : ℕ
    index = m.objects (source.Born r)

    m' : source.Memory
    m' = source_arrayed w m r shape count

    c' : core.Memory
    c' = core_arrayed w c r shape count

    none : k * length (cells_of w shape) ≡ 0 + k * length (cells_of w shape)
    none = omega arith

    made : LocalMade w c' (core.Born r) index (ArrayShape count shape)
    made = local_made w (ArrayShape count shape) c' (core.Born r) index
        (λ cell j p f. record { content = p.content; is = last_made c (core.Born r) index (blanks (layout_of w shape) count) (sym (a.blocks r)) cell j ∙ f })

-- ---- it is asked for

-- both ask for as many bytes
same_bytes : (bytes : ℕ) → making.saturated bytes ≡ saturated bytes
same_bytes bytes = by (nat_lt bytes (2 ^ 32)) refl
  where
    by : (b : Bool) → nat_lt bytes (2 ^ 32) ≡ b → min bytes (2 ^ 32 - 1) ≡ (if b then bytes else 2 ^ 32 - 1)
    by true e = let less : bytes < 2 ^ 32 = grind (arith, nat_tests, e) in omega (arith, less)
    by false e = let more : 2 ^ 32 ≤ bytes = grind (arith, nat_tests, e) in omega (arith, more)

-- the elements, and the index 0 behind them
abbrev behind_code : World → ℕ → (each : List Statement) → List Statement
behind_code w d each = indexed_code w d each ++ (Do (Constant (d + 2) 0) ∷ [])

-- Core behind the request
abbrev asked : World → source.Memory → Config → (d r : ℕ) → Shape → ℕ → Config
asked w m c d r shape count =
    with_temp d (Pointer (at (new_spot m r)) 0) (with_memory (core_arrayed w c.memory r shape count) c)

array_requested : (w : World) (d r count : ℕ) (shape : Shape) (each : List Statement) (c : Config) (rest : Statements) (next : Next) → c.temps d ≡ Birth r
    → c.temps (d + 1) ≡ Word count → core.is_live (c.memory.standing (core.Born r)) ≡ true → meaning.statements (put (array_code w shape d each) rest) next c
    ≡ Says (core_steps.Visible (events.RegionAlloc r (saturated (count * (layout_of w shape).bytes))))
    (meaning.statements (put (behind_code w d each) rest) next
    (with_temp d (Pointer (first_spot c.memory (core.Born r)) 0) (with_memory (core_arrayed w c.memory r shape count) c)))
array_requested w d r count shape each c rest next temp counted live = rw (temp, counted, live) refl

-- the source is stuck where the region isn't live
array_request_same : (p : Point) (n d r count : ℕ) (shape : Shape) (each : List Statement) (m : source.Memory) (c : Config)
    (s : Spot → source.Memory → steps.Step) (rest : Statements) (next : Next) → SameMemory p.world m c.memory → c.temps d ≡ Birth r
    → c.temps (d + 1) ≡ Word count
    → (is_live m (source.Born r) ≡ true → SameAt p n (s (new_spot m r) (source_arrayed p.world m r shape count))
    (meaning.statements (put (behind_code p.world d each) rest) next (asked p.world m c d r shape count)))
    → SameAt p n (ask (InRegion r) (making.saturated (count * size_of p.world shape)) (blank_array p.world shape count) s m)
    (meaning.statements (put (array_code p.world shape d each) rest) next c)
array_request_same p n d r count shape each m c s rest next a temp counted go = by (is_live m (source.Born r)) refl
  where
    after : core_steps.Step
    after = meaning.statements (put (array_code p.world shape d each) rest) next c

    by : (b : Bool) → is_live m (source.Born r) ≡ b
        → SameAt p n (ask (InRegion r) (making.saturated (count * size_of p.world shape)) (blank_array p.world shape count) s m) after
    by false f = rw f (stuck_same p.world p.program n after)
    by true f =
        let live : core.is_live (c.memory.standing (core.Born r)) ≡ true = sym (a.live (source.Born r)) ∙ f in
        rw (
          f,
          array_requested p.world d r count shape each c rest next temp counted live,
          same_bytes (count * size_of p.world shape),
          sym (same_spot p.world m c.memory r a),
        )
        (says_same p.world p.program n _ _ (make_object (source.Born r) (blank_array p.world shape count) s m) _
        (BothVisible (events.RegionAlloc r (saturated (count * size_of p.world shape)))) (rw f (go f)))

-- ---- the elements are made

-- each does the same as its code, with any fuel
abbrev EachElement : Point → ℕ → List ℕ → (d : ℕ) → Shape → (ℕ → Sense) → List Statement → Type 0
EachElement p n name d shape element_at each =
    (j a count k : ℕ) → j ≤ n → ElementAs (index_place p name d a) j d count k shape (element_at a).value each

-- behind the elements the index is 0
array_done : (p : Point) (n d count : ℕ) (shape : Shape) (m0 : source.Memory) (c0 : Config) (m : source.Memory) (c : Config) (t : Spot)
    (s : List Scalar → source.Memory → steps.Step) (k : Config → core_steps.Step) → AreStructs p.world.unions p.world.structs
    → IsObject p.world.unions p.world.structs shape
    → count < 2 ^ 32 → SameState p m c → GrownAt p m0 c0 m c → AreKept d c0 c → ArrayAt p m c d count shape t
    → GoesOn p n d m0 c0 (FatShape shape) s k → SameAt p n (s (span_at count t ∷ []) m) (k (with_temp (d + 2) (Word 0) c))
array_done p n d count shape m0 c0 m c t s k structs object few fits later kept there goes =
    goes.go m last (span_at count t ∷ []) (temp_fits p m c (d + 2) (Word 0) fits (over goes.above (omega arith))) later
    (kept_temp d (d + 2) (Word 0) c0 c (omega arith) kept) (inl (record {
      value = span_at count t;
      alone = refl;
      shown = inr (record {
        span = record { first = t; count = count; index = 0 };
        byte = 0;
        value = refl;
        shown = these_three last d shape (Pointer (at t) 0) (Word count) (Word 0) (record {
          pointer = other_temp (d + 2) d (Word 0) c (omega arith) ∙ there.pointer;
          count = other_temp (d + 2) (d + 1) (Word 0) c (omega arith) ∙ there.counted;
          index = put_temp (d + 2) (Word 0) c;
        });
        small = omega arith;
        few = few;
        lies = lies_here p.world shape structs object;
        leads = there.leads;
      });
    }))
  where
    last : Config
    last = with_temp (d + 2) (Word 0) c

-- what both do with the array
abbrev filled : Point → Shape → (ℕ → Sense) → ℕ → (List Scalar → source.Memory → steps.Step) → Spot → source.Memory → steps.Step
filled p shape element_at count s t =
    in_block (λ k. index_made k >> elements (length (cells_of p.world shape)) count 0 t (index_in k) (element_at k)) (λ u. s (span_at count t ∷ []))

-- the handle and the count are in temporaries
array_there : (p : Point) (n : ℕ) (name : List ℕ) (d r count : ℕ) (shape : Shape) (element_at : ℕ → Sense) (each : List Statement) (m0 : source.Memory)
    (c0 : Config) (m : source.Memory) (c : Config) (s : List Scalar → source.Memory → steps.Step) (rest : Statements) (next : Next)
    → AreStructs p.world.unions p.world.structs → IsObject p.world.unions p.world.structs shape → count < 2 ^ 32 → EachElement p n name d shape element_at each
    → SameState p m c → GrownAt p m0 c0 m c → AreKept d c0 c → c.temps d ≡ Birth r → c.temps (d + 1) ≡ Word count
    → GoesOn p n d m0 c0 (FatShape shape) s (meaning.statements rest next)
    → SameAt p n (ask (InRegion r) (making.saturated (count * size_of p.world shape)) (blank_array p.world shape count) (filled p shape element_at count s) m)
    (meaning.statements (put (array_code p.world shape d each) rest) next c)
array_there p n name d r count shape element_at each m0 c0 m c s rest next structs object few one fits later kept temp counted goes =
    array_request_same p n d r count shape each m c (filled p shape element_at count s) rest next fits.agree temp counted
    (λ live.
    subst (λ z. SameAt p n (filled p shape element_at count s t m1) (meaning.statements z next c1))
    (sym (put_all (indexed_code p.world d each) (Do (Constant (d + 2) 0) ∷ []) rest))
    (block_same p n name d count shape element_at each m1 c1 t (s (span_at count t ∷ [])) (put (Do (Constant (d + 2) 0) ∷ []) rest) next goes.above few
    (λ j a k below less. one j a count k below) (fits1 live) there1 (λ m2 c2 fits2 later2 kept2.
    array_done p n d count shape m0 c0 m2 c2 t s (meaning.statements rest next) structs object few fits2
    (later_on (within p) m0 m m2 c0.memory c.memory c2.memory later (later_on (within p) m m1 m2 c.memory c1.memory c2.memory later1 later2))
    (λ k h. kept2 k (over h (omega arith)) ∙ kept1 k h ∙ kept k h)
    (array_later p m1 c1 d count shape t m2 c2 later2 kept2 there1) goes)))
  where
    t : Spot
    t = new_spot m r

    m1 : source.Memory
    m1 = source_arrayed p.world m r shape count

    granted : Config
    granted = with_memory (core_arrayed p.world c.memory r shape count) c

    c1 : Config
    c1 = asked p.world m c d r shape count

    later1 : GrownAt p m c m1 c1
    later1 = more_later (within p) p.world m c.memory r (blank_array p.world shape count) (blanks (layout_of p.world shape) count) fits.agree

    fits1 : is_live m (source.Born r) ≡ true → SameState p m1 c1
    fits1 live =
        temp_fits p m1 granted d (Pointer (at t) 0)
        (fits_later p m m1 c granted fits
        (more_agree p.world m c.memory r (blank_array p.world shape count) (blanks (layout_of p.world shape) count)
        (λ cell of x v keeps e. array_keeps p.world shape count cell of x v keeps e) (live_born p.world m c.memory fits.agree r live) fits.agree) later1 refl
        (λ k h. refl)) goes.above

    kept1 : AreKept d c c1
    kept1 = kept_temp d d (Pointer (at t) 0) c granted (omega arith) (λ k h. refl)

    there1 : ArrayAt p m1 c1 d count shape t
    there1 = record {
      pointer = put_temp d (Pointer (at t) 0) granted;
      counted = after_temp d (d + 1) (Pointer (at t) 0) granted (omega arith) ∙ counted;
      leads = array_leads p.world m c.memory r shape count (lies_here p.world shape structs object).cells fits.agree;
    }

-- ---- the whole

-- the handle comes first, and then the count
pub array_agrees : (p : Point) (n : ℕ) (name : List ℕ) (d : ℕ) (to : steps.Act Maker) (count : Sense) (element_at : ℕ → Sense) (count_shape shape : Shape)
    (code count_code each : List Statement) → AreStructs p.world.unions p.world.structs → IsObject p.world.unions p.world.structs shape
    → (element_at 0).shape ≡ shape
    → GivesMaker p n d to code → Agrees p n (d + 1) count count_shape count_code → EachElement p n name d shape element_at each
    → Agrees p n d (array_made p.world to count element_at) (FatShape shape) (code ++ (count_code ++ array_code p.world shape d each))
array_agrees p n name d to count element_at count_shape shape code count_code each structs object shape_is handle counts one = record {
  shape_is = ap (λ z. FatShape z) shape_is;
  taken = object_target p.world.unions p.world.structs shape object;
  looks = gives;
  values = gives;
}
  where
    array : List Statement
    array = array_code p.world shape d each

    -- the elements, of so many cells each
    filled_by : Shape → ℕ → (List Scalar → source.Memory → steps.Step) → Spot → source.Memory → steps.Step
    filled_by z k s t =
        in_block (λ a. index_made a >> elements (length (cells_of p.world z)) k 0 t (index_in a) (element_at a)) (λ u. s (span_at k t ∷ []))

    -- what is made of a region and a number
    make : Shape → ℕ → (List Scalar → source.Memory → steps.Step) → ℕ → source.Memory → steps.Step
    make z r s k = ask (InRegion r) (making.saturated (k * size_of p.world z)) (blank_array p.world z k)
        (filled_by z k s)

    made_by : Shape → Maker → (List Scalar → source.Memory → steps.Step) → source.Memory → steps.Step
    made_by z maker s = count.look (λ vs. conversions.one vs (λ v. integer v (λ k. ask maker (making.saturated (k * size_of p.world z))
        (blank_array p.world z k) (filled_by z k s))))

    gives : GivesAs p n d (FatShape shape) (array_made p.world to count element_at).look (code ++ (count_code ++ array))
    gives = record {
      same = λ m c s rest next fits goes.
          subst (λ z. SameAt p n (to (λ maker. made_by (element_at 0).shape maker s) m) (meaning.statements z next c))
          (sym (put_three code count_code array rest))
          (subst (λ z. SameAt p n (to (λ maker. made_by z maker s) m) (meaning.statements (put code (put count_code (put array rest))) next c)) (sym shape_is)
          (handle.same m c (λ maker. made_by shape maker s) (put count_code (put array rest)) next fits (record {
            above = goes.above;
            go = λ m1 c1 r fits1 later1 kept1 temp1.
                counts.looks.same m1 c1 (λ vs. conversions.one vs (λ v. integer v (make shape r s))) (put array rest) next fits1 (record {
                  above = over goes.above (omega arith);
                  go = λ m2 c2 vs fits2 later2 kept2 given2.
                      one_same p.world p.program n count_shape m2 c2.memory vs (d + 1) c2.temps (λ v. integer v (make shape r s)) _ counts.taken given2
                      (λ t word temp2 is type_is small.
                      array_there p n name d r word shape element_at each m c m2 c2 s rest next structs object (small_word t word small) one fits2
                      (later_on (within p) m m1 m2 c.memory c1.memory c2.memory later1 later2) (λ k h. kept2 k (over h (omega arith)) ∙ kept1 k h)
                      (kept2 d (omega arith) ∙ temp1) temp2 goes)
                      (λ v o.
                      thin_same p.world p.program n count_shape m2 c2.memory v (c2.temps (d + 1)) (λ u. integer u (make shape r s)) _ o
                      (λ x b. stuck_same p.world p.program n _) (λ t byte x lies leads. stuck_same p.world p.program n _))
                      (λ birth x is. stuck_same p.world p.program n _)
                      (λ birth is. stuck_same p.world p.program n _)
                      (λ v o.
                      fat_same p.world p.program n count_shape m2 c2.memory v (c2.temps (d + 1)) (c2.temps (d + 1 + 1)) (c2.temps (d + 1 + 2))
                      (λ u. integer u (make shape r s)) _ o (λ x. stuck_same p.world p.program n _) (λ span byte x. stuck_same p.world p.program n _));
                });
          })));
    }

-- by the shape of an element: a struct is evaluated to a temporary object, and a word to a temporary
pub made_array : (p : Point) (n : ℕ) (name : List ℕ) (d first : ℕ) (to : steps.Act Maker) (count : Sense) (element_at : ℕ → Sense)
    (count_shape shape : Shape) (whole_values word_values : List Shape) (code count_code whole word : List Statement) (takes_whole takes : Type 0)
    → AreStructs p.world.unions p.world.structs → IsObject p.world.unions p.world.structs shape → p.kept ≤ first → TakesMember shape takes_whole takes
    → AreNumbered p.owned first (values_by shape whole_values word_values) → GivesMaker p n d to code → Agrees p n (d + 1) count count_shape count_code
    → (takes_whole → AreNumbered p.owned first whole_values → (j a : ℕ) → j ≤ n
    → IsWholeAs (index_place p name d a) j (d + 3) first (element_at a) shape whole)
    → (takes → AreNumbered p.owned first word_values → (j a : ℕ) → j ≤ n → Agrees (index_place p name d a) j (d + 3) (element_at a) shape word)
    → Agrees p n d (array_made p.world to count element_at) (FatShape shape)
    (code ++ (count_code ++ array_code p.world shape d (element_by p.world shape d whole word)))
made_array p n name d first to count element_at count_shape shape whole_values word_values code count_code whole word takes_whole takes structs object less h
    numbered handle counts structs_as words_as = by shape object h numbered structs_as words_as
  where
    goal : Shape → Type 0
    goal z = Agrees p n d (array_made p.world to count element_at) (FatShape z)
        (code ++ (count_code ++ array_code p.world z d (element_by p.world z d whole word)))

    stored : Shape → List Statement
    stored z = word ++ (Do (Element (d + 3 + words_in z) d (d + 2) (length (cells_of p.world z)) (extent_of p.world z).size) ∷
        stores_code z (d + 3 + words_in z) (d + 3) 0 0)

    value : (z : Shape) → IsValueShape z → ((j a : ℕ) → j ≤ n → Agrees (index_place p name d a) j (d + 3) (element_at a) z word)
        → Agrees p n d (array_made p.world to count element_at) (FatShape z) (code ++ (count_code ++ array_code p.world z d (stored z)))
    value z is_value one =
        array_agrees p n name d to count element_at count_shape z code count_code (stored z) structs (value_object p.world.unions p.world.structs z is_value)
        (one n 0 (omega arith)).shape_is handle counts
        (λ j a many k below. value_element (index_place p name d a) j d many k z (element_at a) word structs is_value (omega arith) (one j a below))

    by : (z : Shape) → IsObject p.world.unions p.world.structs z → TakesMember z takes_whole takes
        → AreNumbered p.owned first (values_by z whole_values word_values)
        → (takes_whole → AreNumbered p.owned first whole_values → (j a : ℕ) → j ≤ n
        → IsWholeAs (index_place p name d a) j (d + 3) first (element_at a) z whole)
        → (takes → AreNumbered p.owned first word_values → (j a : ℕ) → j ≤ n → Agrees (index_place p name d a) j (d + 3) (element_at a) z word) → goal z
    by (StructShape tag) o t nums as_struct as_word =
        let one = as_struct t nums in
        array_agrees p n name d to count element_at count_shape (StructShape tag) code count_code
        (element_by p.world (StructShape tag) d whole word) structs o (one n 0 (omega arith)).shape_is handle counts
        (λ j a many k below.
        whole_element (index_place p name d a) j d many k first (StructShape tag) (element_at a) whole structs o (omega arith) less (one j a below))
    by IntShape o t nums as_struct as_word = value IntShape tt (as_word t nums)
    by UnsignedShape o t nums as_struct as_word = value UnsignedShape tt (as_word t nums)
    by CharShape o t nums as_struct as_word = value CharShape tt (as_word t nums)
    by (ThinShape b owner q) o t nums as_struct as_word = value (ThinShape b owner q) o (as_word t nums)
    by HandleShape o t nums as_struct as_word = value HandleShape tt (as_word t nums)
    by VoidShape o t nums as_struct as_word = absurd o
    by (FatShape q) o t nums as_struct as_word = value (FatShape q) o (as_word t nums)
    by KeyShape o t nums as_struct as_word = value KeyShape tt (as_word t nums)
    by (UnionShape tag) o t nums as_struct as_word =
        let one = as_struct t nums in
        array_agrees p n name d to count element_at count_shape (UnionShape tag) code count_code
        (element_by p.world (UnionShape tag) d whole word) structs o (one n 0 (omega arith)).shape_is handle counts
        (λ j a many k below.
        whole_element (index_place p name d a) j d many k first (UnionShape tag) (element_at a) whole structs o (omega arith) less (one j a below))
    by (ArrayShape many of) o t nums as_struct as_word = absurd o
