-- The tag and the member of a union are loaded into temporaries, and stored from there.
use Rattle.std.proofs.Common.{◌≡◌, ℕ, ◌+◌, ◌*◌, ◌^◌, ◌<◌, List, [], ◌∷◌, ◌++◌, Bool, true, false, Some, refl, sym, ap, ◌∙◌, subst, arith}
use Rattle.std.proofs.Math.Nat.{mod-eq_of_lt}
use Rattle.source_meaning.specs.Shapes.{
  Shape,
  IntShape,
  UnsignedShape,
  CharShape,
  VoidShape,
  ThinShape,
  FatShape,
  HandleShape,
  KeyShape,
  StructShape,
  UnionShape,
  ArrayShape,
}
use Rattle.core_meaning.specs.Memory as core
use Rattle.core_meaning.specs.Memory.{Content, Pointer, Word, with_part}
use Rattle.core_meaning.specs.Core.{Do, Load, Store, Statements}
use Rattle.core_meaning.specs.Steps as core_steps
use Rattle.core_meaning.specs.Steps.{Config, with_temp, with_memory}
use Rattle.core_meaning.specs.Operations.{does}
use Rattle.core_meaning.specs.Meaning as meaning
use Rattle.core_meaning.proofs.Wholes.{beyond_none}
use Rattle.source_lowering.specs.Layouts.{Piece, piece, pieces_of}
use Rattle.source_lowering.specs.Members.{part_at, words_in, tag_load, tag_store, held_loads, held_stores}
use Rattle.source_lowering.specs.Lowered.{put}
use Rattle.source_lowering.specs.Lowerable.{IsValueShape}
use Rattle.source_lowering.specs.Simulation.{Next, contents_in}
use Rattle.source_lowering.proofs.memory.CellParts.{PartsAre, FitFirst, FitPieces, part_of, all_written, with_values, parts_after}
use Rattle.source_lowering.proofs.memory.Members.{words_behind}
use Rattle.source_lowering.proofs.memory.Loading.{part_loaded, part_stored, with_contents}
use Rattle.source_lowering.proofs.memory.UnionCells.{FirstAre}
use Rattle.source_lowering.proofs.values.Values.{put_temp, other_temp, kept_temp, kept_contents}

-- ---- loads

-- a union's part
pub part_read : (c : Config) (t p part offset byte : ℕ) (spot : core.Spot) (x : Content) (next : Config → core_steps.Step) → c.temps p ≡ Pointer spot byte
    → core.is_live (c.memory.standing spot.region) ≡ true → c.memory.parts spot part ≡ Some (record { offset = offset; width = 4; content = x })
    → offset ≡ byte + (0 + 4 * part) → does (Load t p (part_at 0 0 part)) next c ≡ next (with_temp t x c)
part_read c t p part offset byte spot x next temp live there same =
    part_loaded c t p 0 (0 + 4 * part) part 4 offset byte spot x next temp live
    (subst (λ z. c.memory.parts z part ≡ Some (record { offset = offset; width = 4; content = x })) (beyond_none spot) there) same

pub tag_loads : (c : Config) (t p byte : ℕ) (spot : core.Spot) (qs : List Piece) (number : ℕ) (words : List Content) (rest : Statements) (next : Next)
    → c.temps p ≡ Pointer spot byte → core.is_live (c.memory.standing spot.region) ≡ true
    → FirstAre c.memory spot byte 0 (piece 0 4 core.Blank ∷ qs) (Word number ∷ words)
    → meaning.statements (put (tag_load t p) rest) next c ≡ meaning.statements rest next (with_temp t (Word number) c)
tag_loads c t p byte spot qs number words rest next temp live parts =
    part_read c t p 0 (byte + 0) byte spot (Word number) (meaning.statements rest next) temp live parts.0 (omega arith)

first_word : (c : core.Memory) (t : core.Spot) (byte : ℕ) (fat : Bool) (x : Content) (xs : List Content) → FirstAre c t byte 1 (words_behind fat) (x ∷ xs)
    → c.parts t 1 ≡ Some (part_of byte (piece 4 4 core.Blank) x)
first_word c t byte true x xs h = h.0
first_word c t byte false x xs h = h.0

-- a word
word_held : (c : Config) (d byte : ℕ) (spot : core.Spot) (fat : Bool) (first : Piece) (xs : List Content) (next : Config → core_steps.Step)
    → c.temps d ≡ Pointer spot byte → core.is_live (c.memory.standing spot.region) ≡ true → FirstAre c.memory spot byte 1 (words_behind fat) xs
    → FitPieces (first ∷ []) xs → does (Load d d (part_at 0 0 1)) next c ≡ next (with_contents d xs c)
word_held c d byte spot fat first [] next temp live parts fit = absurd fit
word_held c d byte spot fat first (x ∷ []) next temp live parts fit =
    part_read c d d 1 (byte + 4) byte spot x next temp live (first_word c.memory spot byte fat x [] parts) (omega arith)
word_held c d byte spot fat first (x ∷ y ∷ ys) next temp live parts fit = absurd fit.1

-- the pointer itself is loaded last
fat_held : (to : Shape) (c : Config) (d byte : ℕ) (spot : core.Spot) (fat : Bool) (x y z : Content) (rest : Statements) (next : Next)
    → c.temps d ≡ Pointer spot byte → core.is_live (c.memory.standing spot.region) ≡ true
    → FirstAre c.memory spot byte 1 (words_behind fat) (x ∷ y ∷ z ∷ [])
    → meaning.statements (put (held_loads (FatShape to) d) rest) next c ≡ meaning.statements rest next (with_contents d (x ∷ y ∷ z ∷ []) c)
fat_held to c d byte spot false x y z rest next temp live parts = absurd parts.1
fat_held to c d byte spot true x y z rest next temp live parts =
    part_read c (d + 2) d 3 (byte + 12) byte spot z after_one temp live parts.1.1.0 (omega arith) ∙
    part_read last (d + 1) d 2 (byte + 8) byte spot y after_two (other_temp (d + 2) d z c (omega arith) ∙ temp) live parts.1.0 (omega arith) ∙
    part_read more d d 1 (byte + 4) byte spot x (meaning.statements rest next)
    (other_temp (d + 1) d y last (omega arith) ∙ other_temp (d + 2) d z c (omega arith) ∙ temp) live parts.0 (omega arith)
  where
    last : Config
    last = with_temp (d + 2) z c

    more : Config
    more = with_temp (d + 1) y last

    after_two : Config → core_steps.Step
    after_two = meaning.statements (put (Do (Load d d (part_at 0 0 1)) ∷ []) rest) next

    after_one : Config → core_steps.Step
    after_one = meaning.statements (put (Do (Load (d + 1) d (part_at 0 0 2)) ∷ Do (Load d d (part_at 0 0 1)) ∷ []) rest) next

-- the words of a member, behind the tag
pub held_does : (s : Shape) → IsValueShape s → (c : Config) (d byte : ℕ) (spot : core.Spot) (fat : Bool) (tag : Content) (xs : List Content) (rest : Statements)
    (next : Next) → c.temps d ≡ Pointer spot byte → core.is_live (c.memory.standing spot.region) ≡ true
    → FirstAre c.memory spot byte 0 (piece 0 4 core.Blank ∷ words_behind fat) (tag ∷ xs) → FitPieces (pieces_of s) xs
    → meaning.statements (put (held_loads s d) rest) next c ≡ meaning.statements rest next (with_contents d xs c)
held_does IntShape h c d byte spot fat tag xs rest next temp live parts fit =
    word_held c d byte spot fat (piece 0 4 (Word 0)) xs (meaning.statements rest next) temp live parts.1 fit
held_does UnsignedShape h c d byte spot fat tag xs rest next temp live parts fit =
    word_held c d byte spot fat (piece 0 4 (Word 0)) xs (meaning.statements rest next) temp live parts.1 fit
held_does CharShape h c d byte spot fat tag xs rest next temp live parts fit =
    word_held c d byte spot fat (piece 0 1 (Word 0)) xs (meaning.statements rest next) temp live parts.1 fit
held_does VoidShape h c d byte spot fat tag xs rest next temp live parts fit = absurd h
held_does (ThinShape b owner to) h c d byte spot fat tag xs rest next temp live parts fit =
    word_held c d byte spot fat (piece 0 4 core.Null) xs (meaning.statements rest next) temp live parts.1 fit
held_does (FatShape to) h c d byte spot fat tag [] rest next temp live parts fit = absurd fit
held_does (FatShape to) h c d byte spot fat tag (x ∷ []) rest next temp live parts fit = absurd fit.1
held_does (FatShape to) h c d byte spot fat tag (x ∷ y ∷ []) rest next temp live parts fit = absurd fit.1.1
held_does (FatShape to) h c d byte spot fat tag (x ∷ y ∷ z ∷ []) rest next temp live parts fit =
    fat_held to c d byte spot fat x y z rest next temp live parts.1
held_does (FatShape to) h c d byte spot fat tag (x ∷ y ∷ z ∷ u ∷ us) rest next temp live parts fit = absurd fit.1.1.1
held_does HandleShape h c d byte spot fat tag xs rest next temp live parts fit =
    word_held c d byte spot fat (piece 0 4 core.Blank) xs (meaning.statements rest next) temp live parts.1 fit
held_does KeyShape h c d byte spot fat tag xs rest next temp live parts fit =
    word_held c d byte spot fat (piece 0 4 core.Blank) xs (meaning.statements rest next) temp live parts.1 fit
held_does (StructShape tag) h c d byte spot fat number xs rest next temp live parts fit = absurd h
held_does (UnionShape tag) h c d byte spot fat number xs rest next temp live parts fit = absurd h
held_does (ArrayShape count of) h c d byte spot fat tag xs rest next temp live parts fit = absurd h

-- ---- stores

-- a part's content is another
abbrev pub part_put : core.Spot → ℕ → ℕ → ℕ → Content → Config → Config
part_put t byte part offset x c = with_memory (with_part c.memory t part (part_of byte (piece offset 4 core.Blank) x)) c

pub part_wrote : (c : Config) (p t part offset byte : ℕ) (spot : core.Spot) (old x : Content) (next : Config → core_steps.Step) → c.temps p ≡ Pointer spot byte
    → core.is_live (c.memory.standing spot.region) ≡ true → c.memory.parts spot part ≡ Some (part_of byte (piece offset 4 core.Blank) old)
    → offset ≡ 4 * part → c.temps t ≡ x → does (Store p (part_at 0 0 part) t) next c ≡ next (part_put spot byte part offset x c)
part_wrote c p t part offset byte spot old x next temp live there same is =
    part_stored c p t 0 (0 + 4 * part) part 4 (byte + offset) byte spot old x next temp live
    (subst (λ z. c.memory.parts z part ≡ Some (part_of byte (piece offset 4 core.Blank) old)) (beyond_none spot) there) (omega (arith, same)) is ∙
    ap (λ z. next (with_memory (with_part c.memory z part (part_of byte (piece offset 4 core.Blank) x)) c)) (sym (beyond_none spot))

-- the words of a member are stored behind the tag
abbrev words_put : core.Spot → (byte : ℕ) → Bool → List Content → Config → Config
words_put t byte fat xs c = with_memory (record c.memory { parts = all_written c.memory.parts t byte 1 (words_behind fat) xs }) c

word_put : (c : Config) (p e byte : ℕ) (spot : core.Spot) (fat : Bool) (olds : List Content) (next : Config → core_steps.Step)
    → c.temps p ≡ Pointer spot byte → core.is_live (c.memory.standing spot.region) ≡ true → PartsAre c.memory spot byte 1 (words_behind fat) olds
    → does (Store p (part_at 0 0 1) e) next c ≡ next (words_put spot byte fat (c.temps e ∷ []) c)
word_put c p e byte spot true [] next temp live parts = absurd parts
word_put c p e byte spot true (old ∷ olds) next temp live parts =
    part_wrote c p e 1 4 byte spot old (c.temps e) next temp live parts.0 refl refl
word_put c p e byte spot false [] next temp live parts = absurd parts
word_put c p e byte spot false (old ∷ olds) next temp live parts =
    part_wrote c p e 1 4 byte spot old (c.temps e) next temp live parts.0 refl refl

fat_put : (to : Shape) (c : Config) (p e byte : ℕ) (spot : core.Spot) (x y z : Content) (rest : Statements) (next : Next)
    → c.temps p ≡ Pointer spot byte → core.is_live (c.memory.standing spot.region) ≡ true
    → PartsAre c.memory spot byte 1 (words_behind true) (x ∷ y ∷ z ∷ [])
    → meaning.statements (put (held_stores (FatShape to) p e) rest) next c
    ≡ meaning.statements rest next (words_put spot byte true (contents_in e (FatShape to) c.temps) c)
fat_put to c p e byte spot x y z rest next temp live parts =
    part_wrote c p e 1 4 byte spot x (c.temps e) after_one temp live parts.0 refl refl ∙
    part_wrote one p (e + 1) 2 8 byte spot y (c.temps (e + 1)) after_two temp live after.0 refl refl ∙
    part_wrote two p (e + 2) 3 12 byte spot z (c.temps (e + 2)) (meaning.statements rest next) temp live behind.0 refl refl
  where
    first : core.Part
    first = part_of byte (piece 4 4 core.Blank) (c.temps e)

    second : core.Part
    second = part_of byte (piece 8 4 core.Blank) (c.temps (e + 1))

    one : Config
    one = with_memory (with_part c.memory spot 1 first) c

    two : Config
    two = with_memory (with_part one.memory spot 2 second) one

    after_two : Config → core_steps.Step
    after_two = meaning.statements (put (Do (Store p (part_at 0 0 3) (e + 2)) ∷ []) rest) next

    after_one : Config → core_steps.Step
    after_one = meaning.statements (put (Do (Store p (part_at 0 0 2) (e + 1)) ∷ Do (Store p (part_at 0 0 3) (e + 2)) ∷ []) rest) next

    after : PartsAre one.memory spot byte 2 (piece 8 4 core.Blank ∷ piece 12 4 core.Blank ∷ []) (y ∷ z ∷ [])
    after = parts_after c.memory spot byte 1 2 first (piece 8 4 core.Blank ∷ piece 12 4 core.Blank ∷ []) (y ∷ z ∷ []) (omega arith) parts.1

    behind : PartsAre two.memory spot byte 3 (piece 12 4 core.Blank ∷ []) (z ∷ [])
    behind = parts_after one.memory spot byte 2 3 second (piece 12 4 core.Blank ∷ []) (z ∷ []) (omega arith) after.1

held_put : (s : Shape) → IsValueShape s → (c : Config) (p e byte : ℕ) (spot : core.Spot) (fat : Bool) (olds : List Content) (rest : Statements) (next : Next)
    → c.temps p ≡ Pointer spot byte → core.is_live (c.memory.standing spot.region) ≡ true → PartsAre c.memory spot byte 1 (words_behind fat) olds
    → FitFirst (words_behind fat) (contents_in e s c.temps)
    → meaning.statements (put (held_stores s p e) rest) next c ≡ meaning.statements rest next (words_put spot byte fat (contents_in e s c.temps) c)
held_put IntShape h c p e byte spot fat olds rest next temp live parts fit = word_put c p e byte spot fat olds (meaning.statements rest next) temp live parts
held_put UnsignedShape h c p e byte spot fat olds rest next temp live parts fit =
    word_put c p e byte spot fat olds (meaning.statements rest next) temp live parts
held_put CharShape h c p e byte spot fat olds rest next temp live parts fit = word_put c p e byte spot fat olds (meaning.statements rest next) temp live parts
held_put VoidShape h c p e byte spot fat olds rest next temp live parts fit = absurd h
held_put (ThinShape b owner to) h c p e byte spot fat olds rest next temp live parts fit =
    word_put c p e byte spot fat olds (meaning.statements rest next) temp live parts
held_put (FatShape to) h c p e byte spot false olds rest next temp live parts fit = absurd fit.1
held_put (FatShape to) h c p e byte spot true [] rest next temp live parts fit = absurd parts
held_put (FatShape to) h c p e byte spot true (x ∷ []) rest next temp live parts fit = absurd parts.1
held_put (FatShape to) h c p e byte spot true (x ∷ y ∷ []) rest next temp live parts fit = absurd parts.1.1
held_put (FatShape to) h c p e byte spot true (x ∷ y ∷ z ∷ []) rest next temp live parts fit = fat_put to c p e byte spot x y z rest next temp live parts
held_put (FatShape to) h c p e byte spot true (x ∷ y ∷ z ∷ u ∷ us) rest next temp live parts fit = absurd parts.1.1.1
held_put HandleShape h c p e byte spot fat olds rest next temp live parts fit = word_put c p e byte spot fat olds (meaning.statements rest next) temp live parts
held_put KeyShape h c p e byte spot fat olds rest next temp live parts fit = word_put c p e byte spot fat olds (meaning.statements rest next) temp live parts
held_put (StructShape tag) h c p e byte spot fat olds rest next temp live parts fit = absurd h
held_put (UnionShape tag) h c p e byte spot fat olds rest next temp live parts fit = absurd h
held_put (ArrayShape count of) h c p e byte spot fat olds rest next temp live parts fit = absurd h

-- a tag, by way of a temporary behind the member's words, and then these
pub union_stores : (s : Shape) → IsValueShape s → (c : Config) (d number byte : ℕ) (spot : core.Spot) (fat : Bool) (olds : List Content) (rest : Statements)
    (next : Next) → number < 2 ^ 32 → c.temps d ≡ Pointer spot byte → core.is_live (c.memory.standing spot.region) ≡ true
    → PartsAre c.memory spot byte 0 (piece 0 4 core.Blank ∷ words_behind fat) olds → FitFirst (words_behind fat) (contents_in (d + 1) s c.temps)
    → meaning.statements (put (tag_store d (d + 1 + words_in s) number ++ held_stores s d (d + 1)) rest) next c
    ≡ meaning.statements rest next (with_memory (with_values c.memory spot byte (piece 0 4 core.Blank ∷ words_behind fat)
    (Word number ∷ contents_in (d + 1) s c.temps)) (with_temp (d + 1 + words_in s) (Word number) c))
union_stores s h c d number byte spot fat [] rest next small temp live parts fit = absurd parts
union_stores s h c d number byte spot fat (old ∷ olds) rest next small temp live parts fit =
    ap (λ z. does (Store d (part_at 0 0 0) t) (meaning.statements (put (held_stores s d (d + 1)) rest) next) (with_temp t (Word z) c)) (mod-eq_of_lt small) ∙
    part_wrote c1 d t 0 0 byte spot old (Word number) (meaning.statements (put (held_stores s d (d + 1)) rest) next) pointer live parts.0 refl
    (put_temp t (Word number) c) ∙
    held_put s h c2 d (d + 1) byte spot fat olds rest next pointer live
    (parts_after c.memory spot byte 0 1 (part_of byte (piece 0 4 core.Blank) (Word number)) (words_behind fat) olds (omega arith) parts.1)
    (subst (FitFirst (words_behind fat)) (sym same) fit) ∙
    ap (λ z. meaning.statements rest next (words_put spot byte fat z c2)) same
  where
    t : ℕ
    t = d + 1 + words_in s

    c1 : Config
    c1 = with_temp t (Word number) c

    c2 : Config
    c2 = part_put spot byte 0 0 (Word number) c1

    pointer : c1.temps d ≡ Pointer spot byte
    pointer = other_temp t d (Word number) c (omega arith) ∙ temp

    same : contents_in (d + 1) s c2.temps ≡ contents_in (d + 1) s c.temps
    same = kept_contents s (d + 1) c c1 (kept_temp t t (Word number) c c (omega arith) (λ k less. refl))
