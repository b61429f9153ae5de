-- A value is loaded into temporaries and stored from there, part by part.
use Rattle.std.proofs.Common.{◌≡◌, ℕ, ◌+◌, ◌*◌, ◌<◌, List, [], ◌∷◌, true, false, nat_eq, Some, refl, ap, ◌∙◌, arith}
use Rattle.std.specs.Prelude.{if◌then◌else◌}
use Rattle.std.proofs.lemmas.Bool.{eq-eqb}
use Rattle.std.proofs.lemmas.Bool.Decides.{nat_tests}
use Rattle.source_meaning.specs.Shapes.{
  Shape,
  IntShape,
  UnsignedShape,
  CharShape,
  VoidShape,
  ThinShape,
  FatShape,
  HandleShape,
  KeyShape,
  StructShape,
  UnionShape,
  ArrayShape,
}
use Rattle.core_meaning.specs.Memory as core
use Rattle.core_meaning.specs.Memory.{Content, Pointer, with_part}
use Rattle.core_meaning.specs.Core.{Do, Load, Store, Statements}
use Rattle.core_meaning.specs.Steps as core_steps
use Rattle.core_meaning.specs.Steps.{Config, set_temp, with_temp, with_memory}
use Rattle.core_meaning.specs.Operations.{does, fitting}
use Rattle.core_meaning.specs.Meaning as meaning
use Rattle.source_lowering.specs.Layouts.{pieces_of, piece, first_part}
use Rattle.source_lowering.specs.Members.{part_at, loads_code, stores_code}
use Rattle.source_lowering.specs.Lowered.{put, distance, width_of}
use Rattle.source_lowering.specs.Lowerable.{IsValueShape}
use Rattle.source_lowering.specs.Simulation.{Next, contents_in}
use Rattle.source_lowering.proofs.memory.CellParts.{PartsAre, FitPieces, with_values, parts_after}
use Rattle.source_lowering.proofs.values.Values.{put_temp, other_temp}

-- ---- temporaries

-- those from one on get these contents: one, or three
abbrev pub contents_put : ℕ → List Content → (ℕ → Content) → ℕ → Content
contents_put d [] temps = temps
contents_put d (x ∷ []) temps = set_temp d x temps
contents_put d (x ∷ y ∷ []) temps = set_temp d x (set_temp (d + 1) y temps)
contents_put d (x ∷ y ∷ z ∷ zs) temps = set_temp d x (set_temp (d + 1) y (set_temp (d + 2) z temps))

abbrev pub with_contents : ℕ → List Content → Config → Config
with_contents d xs c = record c { temps = contents_put d xs c.temps }

-- those below stay
pub other_contents : (d k : ℕ) (xs : List Content) (c : Config) → k < d → (with_contents d xs c).temps k ≡ c.temps k
other_contents d k [] c less = refl
other_contents d k (x ∷ []) c less = other_temp d k x c less
other_contents d k (x ∷ y ∷ []) c less = other_temp d k x (with_temp (d + 1) y c) less ∙ other_temp (d + 1) k y c (omega (arith, less))
other_contents d k (x ∷ y ∷ z ∷ zs) c less =
    other_temp d k x (with_temp (d + 1) y (with_temp (d + 2) z c)) less ∙ other_temp (d + 1) k y (with_temp (d + 2) z c) (omega (arith, less)) ∙
    other_temp (d + 2) k z c (omega (arith, less))

pub after_temp : (d k : ℕ) (x : Content) (c : Config) → d < k → (with_temp d x c).temps k ≡ c.temps k
after_temp d k x c h = let no : nat_eq k d ≡ false = grind (arith, nat_tests, h) in ap (λ b. if b then x else c.temps k) no

three_in : (d : ℕ) (x y z : Content) (c : Config) → contents_in d (FatShape VoidShape) (with_contents d (x ∷ y ∷ z ∷ []) c).temps ≡ x ∷ y ∷ z ∷ []
three_in d x y z c =
    ap (λ u. u ∷ next.temps (d + 1) ∷ next.temps (d + 2) ∷ []) (put_temp d x more) ∙
    ap (λ u. x ∷ u ∷ next.temps (d + 2) ∷ []) (after_temp d (d + 1) x more (omega arith) ∙ put_temp (d + 1) y last) ∙
    ap (λ u. x ∷ y ∷ u ∷ []) (after_temp d (d + 2) x more (omega arith) ∙ after_temp (d + 1) (d + 2) y last (omega arith) ∙ put_temp (d + 2) z c)
  where
    last : Config
    last = with_temp (d + 2) z c

    more : Config
    more = with_temp (d + 1) y last

    next : Config
    next = with_temp d x more

-- a value's are what was put there
word_in : (s : Shape) (first : Content) (d : ℕ) (xs : List Content) (c : Config) → FitPieces (piece 0 (width_of s) first ∷ []) xs
    → (with_contents d xs c).temps d ∷ [] ≡ xs
word_in s first d [] c fit = absurd fit
word_in s first d (x ∷ []) c fit = ap (λ u. u ∷ []) (put_temp d x c)
word_in s first d (x ∷ y ∷ ys) c fit = absurd fit.1

pub contents_are : (s : Shape) → IsValueShape s → (d : ℕ) (xs : List Content) (c : Config) → FitPieces (pieces_of s) xs
    → contents_in d s (with_contents d xs c).temps ≡ xs
contents_are IntShape h d xs c fit = word_in IntShape (first_part IntShape) d xs c fit
contents_are UnsignedShape h d xs c fit = word_in UnsignedShape (first_part UnsignedShape) d xs c fit
contents_are CharShape h d xs c fit = word_in CharShape (first_part CharShape) d xs c fit
contents_are VoidShape h d xs c fit = absurd h
contents_are (ThinShape b owner to) h d xs c fit = word_in (ThinShape b owner to) (first_part (ThinShape b owner to)) d xs c fit
contents_are (FatShape to) h d [] c fit = absurd fit
contents_are (FatShape to) h d (x ∷ []) c fit = absurd fit.1
contents_are (FatShape to) h d (x ∷ y ∷ []) c fit = absurd fit.1.1
contents_are (FatShape to) h d (x ∷ y ∷ z ∷ []) c fit = three_in d x y z c
contents_are (FatShape to) h d (x ∷ y ∷ z ∷ u ∷ us) c fit = absurd fit.1.1.1
contents_are HandleShape h d xs c fit = word_in HandleShape (first_part HandleShape) d xs c fit
contents_are KeyShape h d xs c fit = word_in KeyShape (first_part KeyShape) d xs c fit
contents_are (StructShape tag) h d xs c fit = absurd h
contents_are (UnionShape tag) h d xs c fit = absurd h
contents_are (ArrayShape count of) h d xs c fit = absurd h

-- ---- loads

-- a part that lies so far on
pub part_loaded : (c : Config) (t p cells bytes part width offset byte : ℕ) (spot : core.Spot) (x : Content) (next : Config → core_steps.Step)
    → c.temps p ≡ Pointer spot byte → core.is_live (c.memory.standing spot.region) ≡ true
    → c.memory.parts (core.beyond spot cells) part ≡ Some (record { offset = offset; width = width; content = x }) → offset ≡ byte + bytes
    → does (Load t p (record { cells = cells; bytes = bytes; part = part; width = width })) next c ≡ next (with_temp t x c)
part_loaded c t p cells bytes part width offset byte spot x next temp live there same =
    rw (temp, live, there, eq-eqb offset (byte + bytes) same, eq-eqb width width refl) refl

word_loads : (s : Shape) (first : Content) (c : Config) (d cells bytes byte : ℕ) (spot : core.Spot) (xs : List Content) (next : Config → core_steps.Step)
    → c.temps d ≡ Pointer spot byte → core.is_live (c.memory.standing spot.region) ≡ true
    → PartsAre c.memory (core.beyond spot cells) (byte + bytes) 0 (piece 0 (width_of s) first ∷ []) xs
    → does (Load d d (distance cells bytes (width_of s))) next c ≡ next (with_contents d xs c)
word_loads s first c d cells bytes byte spot [] next temp live parts = absurd parts
word_loads s first c d cells bytes byte spot (x ∷ []) next temp live parts =
    part_loaded c d d cells bytes 0 (width_of s) (byte + bytes + 0) byte spot x next temp live parts.0 (omega arith)
word_loads s first c d cells bytes byte spot (x ∷ y ∷ ys) next temp live parts = absurd parts.1

-- the pointer itself is loaded last
fat_loads : (to : Shape) (c : Config) (d cells bytes byte : ℕ) (spot : core.Spot) (x y z : Content) (rest : Statements) (next : Next)
    → c.temps d ≡ Pointer spot byte → core.is_live (c.memory.standing spot.region) ≡ true
    → PartsAre c.memory (core.beyond spot cells) (byte + bytes) 0 (pieces_of (FatShape to)) (x ∷ y ∷ z ∷ [])
    → meaning.statements (put (loads_code (FatShape to) d cells bytes) rest) next c ≡ meaning.statements rest next (with_contents d (x ∷ y ∷ z ∷ []) c)
fat_loads to c d cells bytes byte spot x y z rest next temp live parts =
    part_loaded c (d + 2) d cells (bytes + 4 * 2) 2 4 (byte + bytes + 8) byte spot z after_one temp live parts.1.1.0 (omega arith) ∙
    part_loaded last (d + 1) d cells (bytes + 4 * 1) 1 4 (byte + bytes + 4) byte spot y after_two (other_temp (d + 2) d z c (omega arith) ∙ temp) live parts.1.0
    (omega arith) ∙
    part_loaded more d d cells (bytes + 4 * 0) 0 4 (byte + bytes + 0) byte spot x (meaning.statements rest next)
    (other_temp (d + 1) d y last (omega arith) ∙ other_temp (d + 2) d z c (omega arith) ∙ temp) live parts.0 (omega arith)
  where
    last : Config
    last = with_temp (d + 2) z c

    more : Config
    more = with_temp (d + 1) y last

    after_two : Config → core_steps.Step
    after_two = meaning.statements (put (Do (Load d d (part_at cells bytes 0)) ∷ []) rest) next

    after_one : Config → core_steps.Step
    after_one = meaning.statements (put (Do (Load (d + 1) d (part_at cells bytes 1)) ∷ Do (Load d d (part_at cells bytes 0)) ∷ []) rest) next

pub loads_does : (s : Shape) → IsValueShape s → (c : Config) (d cells bytes byte : ℕ) (spot : core.Spot) (xs : List Content) (rest : Statements) (next : Next)
    → c.temps d ≡ Pointer spot byte → core.is_live (c.memory.standing spot.region) ≡ true
    → PartsAre c.memory (core.beyond spot cells) (byte + bytes) 0 (pieces_of s) xs
    → meaning.statements (put (loads_code s d cells bytes) rest) next c ≡ meaning.statements rest next (with_contents d xs c)
loads_does IntShape h c d cells bytes byte spot xs rest next temp live parts =
    word_loads IntShape (first_part IntShape) c d cells bytes byte spot xs (meaning.statements rest next) temp live parts
loads_does UnsignedShape h c d cells bytes byte spot xs rest next temp live parts =
    word_loads UnsignedShape (first_part UnsignedShape) c d cells bytes byte spot xs (meaning.statements rest next) temp live parts
loads_does CharShape h c d cells bytes byte spot xs rest next temp live parts =
    word_loads CharShape (first_part CharShape) c d cells bytes byte spot xs (meaning.statements rest next) temp live parts
loads_does VoidShape h c d cells bytes byte spot xs rest next temp live parts = absurd h
loads_does (ThinShape b owner to) h c d cells bytes byte spot xs rest next temp live parts =
    word_loads (ThinShape b owner to) (first_part (ThinShape b owner to)) c d cells bytes byte spot xs (meaning.statements rest next) temp live parts
loads_does (FatShape to) h c d cells bytes byte spot [] rest next temp live parts = absurd parts
loads_does (FatShape to) h c d cells bytes byte spot (x ∷ []) rest next temp live parts = absurd parts.1
loads_does (FatShape to) h c d cells bytes byte spot (x ∷ y ∷ []) rest next temp live parts = absurd parts.1.1
loads_does (FatShape to) h c d cells bytes byte spot (x ∷ y ∷ z ∷ []) rest next temp live parts =
    fat_loads to c d cells bytes byte spot x y z rest next temp live parts
loads_does (FatShape to) h c d cells bytes byte spot (x ∷ y ∷ z ∷ u ∷ us) rest next temp live parts = absurd parts.1.1.1
loads_does HandleShape h c d cells bytes byte spot xs rest next temp live parts =
    word_loads HandleShape (first_part HandleShape) c d cells bytes byte spot xs (meaning.statements rest next) temp live parts
loads_does KeyShape h c d cells bytes byte spot xs rest next temp live parts =
    word_loads KeyShape (first_part KeyShape) c d cells bytes byte spot xs (meaning.statements rest next) temp live parts
loads_does (StructShape tag) h c d cells bytes byte spot xs rest next temp live parts = absurd h
loads_does (UnionShape tag) h c d cells bytes byte spot xs rest next temp live parts = absurd h
loads_does (ArrayShape count of) h c d cells bytes byte spot xs rest next temp live parts = absurd h

-- ---- stores

pub part_stored : (c : Config) (p t cells bytes part width offset byte : ℕ) (spot : core.Spot) (old x : Content) (next : Config → core_steps.Step)
    → c.temps p ≡ Pointer spot byte → core.is_live (c.memory.standing spot.region) ≡ true
    → c.memory.parts (core.beyond spot cells) part ≡ Some (record { offset = offset; width = width; content = old }) → offset ≡ byte + bytes
    → fitting width (c.temps t) ≡ x
    → does (Store p (record { cells = cells; bytes = bytes; part = part; width = width }) t) next c
    ≡ next (with_memory (with_part c.memory (core.beyond spot cells) part (record { offset = offset; width = width; content = x })) c)
part_stored c p t cells bytes part width offset byte spot old x next temp live there same fits =
    rw (temp, live, there, eq-eqb offset (byte + bytes) same, eq-eqb width width refl)
    (ap (λ z. next (with_memory (with_part c.memory (core.beyond spot cells) part (record { offset = offset; width = width; content = z })) c)) fits)

word_stores : (s : Shape) (first : Content) (c : Config) (p d cells bytes byte : ℕ) (spot : core.Spot) (olds : List Content)
    (next : Config → core_steps.Step) → c.temps p ≡ Pointer spot byte → core.is_live (c.memory.standing spot.region) ≡ true
    → PartsAre c.memory (core.beyond spot cells) (byte + bytes) 0 (piece 0 (width_of s) first ∷ []) olds → fitting (width_of s) (c.temps d) ≡ c.temps d
    → does (Store p (distance cells bytes (width_of s)) d) next c
    ≡ next (with_memory (with_values c.memory (core.beyond spot cells) (byte + bytes) (piece 0 (width_of s) first ∷ []) (c.temps d ∷ [])) c)
word_stores s first c p d cells bytes byte spot [] next temp live parts fits = absurd parts
word_stores s first c p d cells bytes byte spot (old ∷ []) next temp live parts fits =
    part_stored c p d cells bytes 0 (width_of s) (byte + bytes + 0) byte spot old (c.temps d) next temp live parts.0 (omega arith) fits
word_stores s first c p d cells bytes byte spot (x ∷ y ∷ ys) next temp live parts fits = absurd parts.1

fat_stores : (to : Shape) (c : Config) (p d cells bytes byte : ℕ) (spot : core.Spot) (x y z : Content) (rest : Statements) (next : Next)
    → c.temps p ≡ Pointer spot byte → core.is_live (c.memory.standing spot.region) ≡ true
    → PartsAre c.memory (core.beyond spot cells) (byte + bytes) 0 (pieces_of (FatShape to)) (x ∷ y ∷ z ∷ [])
    → meaning.statements (put (stores_code (FatShape to) p d cells bytes) rest) next c
    ≡ meaning.statements rest next (with_memory (with_values c.memory (core.beyond spot cells) (byte + bytes) (pieces_of (FatShape to))
    (contents_in d (FatShape to) c.temps)) c)
fat_stores to c p d cells bytes byte spot x y z rest next temp live parts =
    part_stored c p d cells (bytes + 4 * 0) 0 4 (here + 0) byte spot x (c.temps d) after_one temp live parts.0 (omega arith) refl ∙
    part_stored one p (d + 1) cells (bytes + 4 * 1) 1 4 (here + 4) byte spot y (c.temps (d + 1)) after_two temp live after.0 (omega arith) refl ∙
    part_stored two p (d + 2) cells (bytes + 4 * 2) 2 4 (here + 8) byte spot z (c.temps (d + 2)) (meaning.statements rest next) temp live behind.0
    (omega arith) refl
  where
    there : core.Spot
    there = core.beyond spot cells

    here : ℕ
    here = byte + bytes

    first : core.Part
    first = record { offset = here + 0; width = 4; content = c.temps d }

    second : core.Part
    second = record { offset = here + 4; width = 4; content = c.temps (d + 1) }

    one : Config
    one = with_memory (with_part c.memory there 0 first) c

    two : Config
    two = with_memory (with_part one.memory there 1 second) one

    after_two : Config → core_steps.Step
    after_two = meaning.statements (put (Do (Store p (part_at cells bytes 2) (d + 2)) ∷ []) rest) next

    after_one : Config → core_steps.Step
    after_one = meaning.statements (put (Do (Store p (part_at cells bytes 1) (d + 1)) ∷ Do (Store p (part_at cells bytes 2) (d + 2)) ∷ []) rest) next

    after : PartsAre one.memory there here 1 (piece 4 4 (core.Word 0) ∷ piece 8 4 (core.Word 0) ∷ []) (y ∷ z ∷ [])
    after = parts_after c.memory there here 0 1 first (piece 4 4 (core.Word 0) ∷ piece 8 4 (core.Word 0) ∷ []) (y ∷ z ∷ []) (omega arith) parts.1

    behind : PartsAre two.memory there here 2 (piece 8 4 (core.Word 0) ∷ []) (z ∷ [])
    behind = parts_after one.memory there here 1 2 second (piece 8 4 (core.Word 0) ∷ []) (z ∷ []) (omega arith) after.1

pub stores_does : (s : Shape) → IsValueShape s → (c : Config) (p d cells bytes byte : ℕ) (spot : core.Spot) (olds : List Content) (rest : Statements)
    (next : Next) → c.temps p ≡ Pointer spot byte → core.is_live (c.memory.standing spot.region) ≡ true
    → PartsAre c.memory (core.beyond spot cells) (byte + bytes) 0 (pieces_of s) olds → FitPieces (pieces_of s) (contents_in d s c.temps)
    → meaning.statements (put (stores_code s p d cells bytes) rest) next c
    ≡ meaning.statements rest next (with_memory (with_values c.memory (core.beyond spot cells) (byte + bytes) (pieces_of s) (contents_in d s c.temps)) c)
stores_does IntShape h c p d cells bytes byte spot olds rest next temp live parts fit =
    word_stores IntShape (first_part IntShape) c p d cells bytes byte spot olds (meaning.statements rest next) temp live parts fit.0
stores_does UnsignedShape h c p d cells bytes byte spot olds rest next temp live parts fit =
    word_stores UnsignedShape (first_part UnsignedShape) c p d cells bytes byte spot olds (meaning.statements rest next) temp live parts fit.0
stores_does CharShape h c p d cells bytes byte spot olds rest next temp live parts fit =
    word_stores CharShape (first_part CharShape) c p d cells bytes byte spot olds (meaning.statements rest next) temp live parts fit.0
stores_does VoidShape h c p d cells bytes byte spot olds rest next temp live parts fit = absurd h
stores_does (ThinShape b owner to) h c p d cells bytes byte spot olds rest next temp live parts fit =
    word_stores (ThinShape b owner to) (first_part (ThinShape b owner to)) c p d cells bytes byte spot olds (meaning.statements rest next) temp live parts
    fit.0
stores_does (FatShape to) h c p d cells bytes byte spot [] rest next temp live parts fit = absurd parts
stores_does (FatShape to) h c p d cells bytes byte spot (x ∷ []) rest next temp live parts fit = absurd parts.1
stores_does (FatShape to) h c p d cells bytes byte spot (x ∷ y ∷ []) rest next temp live parts fit = absurd parts.1.1
stores_does (FatShape to) h c p d cells bytes byte spot (x ∷ y ∷ z ∷ []) rest next temp live parts fit =
    fat_stores to c p d cells bytes byte spot x y z rest next temp live parts
stores_does (FatShape to) h c p d cells bytes byte spot (x ∷ y ∷ z ∷ u ∷ us) rest next temp live parts fit = absurd parts.1.1.1
stores_does HandleShape h c p d cells bytes byte spot olds rest next temp live parts fit =
    word_stores HandleShape (first_part HandleShape) c p d cells bytes byte spot olds (meaning.statements rest next) temp live parts fit.0
stores_does KeyShape h c p d cells bytes byte spot olds rest next temp live parts fit =
    word_stores KeyShape (first_part KeyShape) c p d cells bytes byte spot olds (meaning.statements rest next) temp live parts fit.0
stores_does (StructShape tag) h c p d cells bytes byte spot olds rest next temp live parts fit = absurd h
stores_does (UnionShape tag) h c p d cells bytes byte spot olds rest next temp live parts fit = absurd h
stores_does (ArrayShape count of) h c p d cells bytes byte spot olds rest next temp live parts fit = absurd h
