-- The element to which a fat pointer leads: it is there, or an exception is raised.
use Rattle.std.proofs.Common.{◌≡◌, ⊎_elim, ℕ, ◌+◌, ◌*◌, ◌<◌, List, [], ◌∷◌, length, Bool, true, false, Some, None, refl, sym, ap, ◌∙◌, subst, arith}
use Rattle.std.specs.Prelude.{nat_lt, nat_eq, if◌then◌else◌}
use Rattle.std.proofs.lemmas.Bool.Decides.{nat_tests}
use Rattle.cyc_words.specs.Events.{SourceEnding}
use Rattle.step_trees.specs.Trees.{Stops}
use Rattle.cyc_words.specs.declared.faults.Kind.TheVariants.{NullException, ArrayBounds}
use Rattle.std.specs.Prelude.{◌-◌}
use Rattle.source_lowering.specs.Memories.{LeadsAll}
use Rattle.source_meaning.specs.Shapes.{Shape, FatShape}
use Rattle.source_meaning.specs.Memory as source
use Rattle.source_meaning.specs.Memory.{Scalar, Wide, Spot, Span}
use Rattle.source_meaning.specs.Steps as steps
use Rattle.source_meaning.specs.Steps.{World}
use Rattle.source_meaning.specs.Conversions.{cells_of, size_of, accessed}
use Rattle.core_meaning.specs.Memory as core
use Rattle.core_meaning.specs.Memory.{Content, Word, Null, Pointer}
use Rattle.core_meaning.specs.Core.{Apply, LessUnsigned, Element, Statement, Do, If, Statements}
use Rattle.core_meaning.specs.Words as words
use Rattle.core_meaning.specs.Steps as core_steps
use Rattle.core_meaning.specs.Steps.{Config, with_temp}
use Rattle.core_meaning.specs.Meaning as meaning
use Rattle.source_lowering.specs.Members.{raised, reached_code, element_code}
use Rattle.source_lowering.specs.Layouts.{extent_of}
use Rattle.source_lowering.specs.Lowered.{put, all_of}
use Rattle.source_lowering.specs.Simulation.{at, IsTakenObject, Leads, AFatNull, AFat, Shown, Point, SameAt, Next, contents_in}
use Rattle.source_lowering.proofs.Runs.{stops_same}
use Rattle.source_lowering.proofs.memory.Members.{beyond_on, FirstPart, first_part_of, first_reached}
use Rattle.source_lowering.proofs.values.Values.{put_temp}
use Rattle.source_lowering.proofs.values.Tests.{two_words}

-- ---- three temporaries

-- what stands for a fat pointer, in its temporaries
pub record AreThree (c : Config) (p : ℕ) (x y z : Content) : Type 0 where
  pub pointer : c.temps p ≡ x
  pub count : c.temps (p + 1) ≡ y
  pub index : c.temps (p + 2) ≡ z

abbrev pub second_in : List Content → Content
second_in [] = Null
second_in (x ∷ []) = Null
second_in (x ∷ y ∷ ys) = y

abbrev pub third_in : List Content → Content
third_in [] = Null
third_in (x ∷ []) = Null
third_in (x ∷ y ∷ []) = Null
third_in (x ∷ y ∷ z ∷ zs) = z

abbrev pub head_in : List Content → Content
head_in [] = Null
head_in (x ∷ xs) = x

pub three_are : (c : Config) (p : ℕ) (to : Shape) (x y z : Content) → contents_in p (FatShape to) c.temps ≡ x ∷ y ∷ z ∷ [] → AreThree c p x y z
three_are c p to x y z e = record { pointer = ap head_in e; count = ap second_in e; index = ap third_in e }

pub these_three : (c : Config) (p : ℕ) (to : Shape) (x y z : Content) → AreThree c p x y z → contents_in p (FatShape to) c.temps ≡ x ∷ y ∷ z ∷ []
these_three c p to x y z three =
    ap (λ u. u ∷ c.temps (p + 1) ∷ c.temps (p + 2) ∷ []) three.pointer ∙ ap (λ u. x ∷ u ∷ c.temps (p + 2) ∷ []) three.count ∙
    ap (λ u. x ∷ y ∷ u ∷ []) three.index

-- ---- the test

-- the index is compared with the count
abbrev pub tested : Config → ℕ → Bool → Config
tested c p b = with_temp (p + 1) (Word (words.truth b)) c

pub tested_pointer : (c : Config) (p : ℕ) (b : Bool) → (tested c p b).temps p ≡ c.temps p
tested_pointer c p b = let no : nat_eq p (p + 1) ≡ false = grind (arith, nat_tests) in ap (λ z. if z then Word (words.truth b) else c.temps p) no

tested_index : (c : Config) (p : ℕ) (b : Bool) → (tested c p b).temps (p + 2) ≡ c.temps (p + 2)
tested_index c p b = let no : nat_eq (p + 2) (p + 1) ≡ false = grind (arith, nat_tests) in ap (λ z. if z then Word (words.truth b) else c.temps (p + 2)) no

pub compared : (c : Config) (p i k : ℕ) (x : Content) (code : List Statement) (rest : Statements) (next : Next) → AreThree c p x (Word k) (Word i)
    → meaning.statements (put (Do (Apply LessUnsigned (p + 1) (p + 2) (p + 1)) ∷ code) rest) next c
    ≡ meaning.statements (put code rest) next (tested c p (nat_lt i k))
compared c p i k x code rest next three =
    two_words LessUnsigned c (p + 1) (p + 2) (p + 1) i k (meaning.statements (put code rest) next) three.index three.count

-- where it isn't below, something else is done
pub otherwise_done : (w : World) (to : Shape) (c : Config) (t p : ℕ) (otherwise rest : Statements) (next : Next)
    → meaning.statements (put (reached_code w to t p otherwise) rest) next (tested c p false)
    ≡ meaning.statements otherwise (λ exit. meaning.falls_to exit
    (meaning.statements (put (Do (Element t p (p + 2) (length (cells_of w to)) (extent_of w to).size) ∷ []) rest) next) next) (tested c p false)
otherwise_done w to c t p otherwise rest next = rw (put_temp (p + 1) (Word 0) c) refl

-- an exception is raised
abbrev raises : Next → Config → ℕ → core_steps.Step
raises next c p = meaning.statements (all_of (If p (raised ArrayBounds) (raised NullException) ∷ [])) next c

null_raised : (c : Config) (p : ℕ) (next : Next) → c.temps p ≡ Null → raises next (tested c p false) p ≡ Stops (SourceEnding.Raised NullException)
null_raised c p next null = rw (tested_pointer c p false, null) refl

bounds_raised : (c : Config) (p byte : ℕ) (s : core.Spot) (next : Next) → c.temps p ≡ Pointer s byte
    → raises next (tested c p false) p ≡ Stops (SourceEnding.Raised ArrayBounds)
bounds_raised c p byte s next pointer = rw (tested_pointer c p false, pointer) refl

-- where it is, the element is reached
pub element_reached : (w : World) (to : Shape) (c : Config) (t p byte i : ℕ) (s : core.Spot) (otherwise rest : Statements) (next : Next)
    → c.temps p ≡ Pointer s byte → c.temps (p + 2) ≡ Word i
    → FirstPart c.memory (core.beyond s (i * length (cells_of w to))) (byte + i * (extent_of w to).size)
    → meaning.statements (put (reached_code w to t p otherwise) rest) next (tested c p true)
    ≡ meaning.statements rest next (with_temp t (Pointer (core.beyond s (i * length (cells_of w to))) (byte + i * (extent_of w to).size)) (tested c p true))
element_reached w to c t p byte i s otherwise rest next pointer index first =
    rw (
      put_temp (p + 1) (Word 1) c,
      tested_pointer c p true,
      pointer,
      tested_index c p true,
      index,
      first_reached c.memory (core.beyond s (i * length (cells_of w to))) (byte + i * (extent_of w to).size) first,
    ) refl

-- ---- both do the same

-- what comes after: a pointer to the element is in its temporary
pub record ElementGoesOn (p : Point) (n t q left : ℕ) (to : Shape) (m : source.Memory) (c : Config) (s : Spot → source.Memory → steps.Step)
    (k : Config → core_steps.Step) : Type 0 where
  pub go : (spot : Spot) (byte : ℕ) → IsTakenObject p.world to → Leads p.world m c.memory to spot byte
      → LeadsAll p.world m c.memory to left spot byte → SameAt p n (s spot m) (k (with_temp t (Pointer (at spot) byte) (with_temp (q + 1) (Word 1) c)))

-- the current element
abbrev pub element_spot : World → Shape → Span → Spot
element_spot w to span = source.beyond span.first (span.index * length (cells_of w to))

-- it is there where the index is below the count
pub record ElementThere (w : World) (m : source.Memory) (c : core.Memory) (to : Shape) (span : Span) (byte : ℕ) : Type 0 where
  pub leads : Leads w m c to (element_spot w to span) (byte + span.index * (extent_of w to).size)
  pub first : FirstPart c (at (element_spot w to span)) (byte + span.index * (extent_of w to).size)

pub element_there : (w : World) (m : source.Memory) (c : core.Memory) (to : Shape) (v : Scalar) (cs : List Content)
    → (z : AFat w m c to (size_of w to) v cs) → z.span.index < z.span.count → ElementThere w m c to z.span z.byte
element_there w m c to v cs z less =
    let leads = z.leads z.span.index less in
    record { leads = leads; first = first_part_of w c to (at (element_spot w to z.span)) (z.byte + z.span.index * (extent_of w to).size) z.lies.cells leads.1 }

-- so are those behind it
pub rest_led : (w : World) (m : source.Memory) (c : core.Memory) (to : Shape) (v : Scalar) (cs : List Content) → (z : AFat w m c to (size_of w to) v cs)
    → z.span.index < z.span.count
    → LeadsAll w m c to (z.span.count - z.span.index) (element_spot w to z.span) (z.byte + z.span.index * (extent_of w to).size)
rest_led w m c to v cs z less i few =
    let cells : ℕ = length (cells_of w to) in
    let size : ℕ = size_of w to in
    let here : source.beyond (element_spot w to z.span) (i * cells) ≡ source.beyond z.span.first ((z.span.index + i) * cells) =
    beyond_on z.span.first (z.span.index * cells) (i * cells) ((z.span.index + i) * cells) (omega arith) in
    let there : z.byte + (z.span.index + i) * size ≡ z.byte + z.span.index * size + i * size = omega arith in
    subst (λ a. Leads w m c to a (z.byte + z.span.index * size + i * size)) (sym here)
    (subst (λ b. Leads w m c to (source.beyond z.span.first ((z.span.index + i) * cells)) b) there (z.leads (z.span.index + i) (omega (arith, less, few))))

pub element_same : (p : Point) (n t q : ℕ) (to : Shape) (v : Scalar) (m : source.Memory) (c : Config) (s : Spot → source.Memory → steps.Step)
    (rest : Statements) (next : Next) → Shown p.world m c.memory (FatShape to) v (contents_in q (FatShape to) c.temps)
    → ((z : AFat p.world m c.memory to (size_of p.world to) v (contents_in q (FatShape to) c.temps)) → z.span.index < z.span.count
    → ElementGoesOn p n t q (z.span.count - z.span.index) to m c s (meaning.statements rest next))
    → SameAt p n (accessed (length (cells_of p.world to)) v s m) (meaning.statements (put (element_code p.world to t q) rest) next c)
element_same p n t q to v m c s rest next shown goes = ⊎_elim null some shown
  where
    cells : ℕ
    cells = length (cells_of p.world to)

    bytes : ℕ
    bytes = (extent_of p.world to).size

    otherwise : Statements
    otherwise = all_of (If q (raised ArrayBounds) (raised NullException) ∷ [])

    reaches : List Statement
    reaches = reached_code p.world to t q otherwise

    further : Next
    further exit = meaning.falls_to exit (meaning.statements (put (Do (Element t q (q + 2) cells bytes) ∷ []) rest) next) next

    code : core_steps.Step
    code = meaning.statements (put (element_code p.world to t q) rest) next c

    null : AFatNull v (contents_in q (FatShape to) c.temps) → SameAt p n (accessed cells v s m) code
    null z =
        let three = three_are c q to Null (Word 0) (Word z.word) z.shown in
        let not_below : nat_lt z.word 0 ≡ false = grind (arith, nat_tests) in
        subst (λ u. SameAt p n (accessed cells u s m) code) (sym z.value)
        (subst (λ u. SameAt p n (accessed cells (Wide None) s m) u)
        (sym (compared c q z.word 0 Null reaches rest next three ∙ ap (λ b. meaning.statements (put reaches rest) next (tested c q b)) not_below ∙
        otherwise_done p.world to c t q otherwise rest next ∙ null_raised c q further three.pointer))
        (stops_same p.world p.program n (SourceEnding.Raised NullException)))

    some : AFat p.world m c.memory to (size_of p.world to) v (contents_in q (FatShape to) c.temps) → SameAt p n (accessed cells v s m) code
    some z =
        subst (λ u. SameAt p n (accessed cells u s m) code) (sym z.value)
        (subst (λ u. SameAt p n (accessed cells (Wide (Some z.span)) s m) u)
        (sym (compared c q z.span.index z.span.count (Pointer (at z.span.first) z.byte) reaches rest next three))
        (by (nat_lt z.span.index z.span.count) refl))
      where
        three : AreThree c q (Pointer (at z.span.first) z.byte) (Word z.span.count) (Word z.span.index)
        three = three_are c q to (Pointer (at z.span.first) z.byte) (Word z.span.count) (Word z.span.index) z.shown

        by : (b : Bool) → nat_lt z.span.index z.span.count ≡ b → SameAt p n (accessed cells (Wide (Some z.span)) s m)
            (meaning.statements (put reaches rest) next (tested c q (nat_lt z.span.index z.span.count)))
        by false e =
            rw e
            (subst (λ u. SameAt p n (Stops (SourceEnding.Raised ArrayBounds)) u)
            (sym (otherwise_done p.world to c t q otherwise rest next ∙ bounds_raised c q z.byte (at z.span.first) further three.pointer))
            (stops_same p.world p.program n (SourceEnding.Raised ArrayBounds)))
        by true e =
            let less : z.span.index < z.span.count = grind (arith, nat_tests, e) in
            let one = element_there p.world m c.memory to v (contents_in q (FatShape to) c.temps) z less in
            rw e
            (subst (λ u. SameAt p n (s (element_spot p.world to z.span) m) u)
            (sym (element_reached p.world to c t q z.byte z.span.index (at z.span.first) otherwise rest next three.pointer three.index one.first))
            ((goes z less).go (element_spot p.world to z.span) (z.byte + z.span.index * bytes) z.lies one.leads
            (rest_led p.world m c.memory to v (contents_in q (FatShape to) c.temps) z less)))
