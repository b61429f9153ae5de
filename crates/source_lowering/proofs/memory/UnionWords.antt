-- The words of a union's cell are taken as they are: they are read into temporaries, and written from there.
use Rattle.std.proofs.Common.{◌≡◌, ℕ, zero, suc, ◌+◌, ◌*◌, ◌<◌, Bool, true, false, Option, Some, None, List, [], ◌∷◌, refl, sym, ap, ◌∙◌, arith, length}
use Rattle.core_meaning.specs.Memory as core
use Rattle.core_meaning.specs.Memory.{Content, Pointer}
use Rattle.core_meaning.specs.Core.{Statement, Statements}
use Rattle.core_meaning.specs.Steps.{Config, with_memory, with_temp}
use Rattle.core_meaning.specs.Meaning as meaning
use Rattle.source_lowering.specs.Layouts.{Piece, piece, union_pieces}
use Rattle.source_lowering.specs.Lowered.{put}
use Rattle.source_lowering.specs.Programs.{words_read, words_written}
use Rattle.source_lowering.specs.Simulation.{Next, PartsHold}
use Rattle.source_lowering.proofs.memory.CellParts.{FitFirst, FitPieces, PartsAre, all_written, part_of, parts_after}
use Rattle.source_lowering.proofs.memory.UnionCode.{part_put, part_read, part_wrote}
use Rattle.source_lowering.proofs.values.Values.{other_temp, put_temp}

-- ---- words

-- so many pieces of a union, from one on
abbrev pub pieces_from : (part count : ℕ) → List Piece
pieces_from part zero = []
pieces_from part (suc count) = piece (4 * part) 4 core.Blank ∷ pieces_from (suc part) count

pub union_pieces_are : (fat : Bool) → union_pieces fat ≡ pieces_from 0 (length (union_pieces fat))
union_pieces_are true = refl
union_pieces_are false = refl

-- each fits its piece, whatever it is
pub words_fit : (c : core.Memory) (t : core.Spot) (byte j part count : ℕ) (xs : List Content) → PartsAre c t byte j (pieces_from part count) xs
    → FitPieces (pieces_from part count) xs
words_fit c t byte j part zero [] h = tt
words_fit c t byte j part zero (x ∷ xs) h = absurd h
words_fit c t byte j part (suc count) [] h = absurd h
words_fit c t byte j part (suc count) (x ∷ xs) h = (refl, words_fit c t byte (suc j) (suc part) count xs h.1)

-- the first ones are these
abbrev pub Begins : (all first : List Content) → Type 0
Begins xs [] = Unit {0}
Begins [] (y ∷ ys) = ⊥
Begins (x ∷ xs) (y ∷ ys) = (x ≡ y) × Begins xs ys

abbrev content_in : Content → Option core.Part → Content
content_in y None = y
content_in y (Some q) = q.content

pub held_begin : (c : core.Memory) (t : core.Spot) (byte j : ℕ) (qs : List Piece) (xs ys : List Content) → PartsAre c t byte j qs xs → FitFirst qs ys
    → PartsHold c t j ys → Begins xs ys
held_begin c t byte j qs xs [] are fit hold = tt
held_begin c t byte j [] xs (y ∷ ys) are fit hold = absurd fit
held_begin c t byte j (q ∷ qs) [] (y ∷ ys) are fit hold = absurd are
held_begin c t byte j (q ∷ qs) (x ∷ xs) (y ∷ ys) are fit hold =
    let both : Some (part_of byte q x) ≡ Some hold.0.0 = sym are.0 ∙ hold.0.1.0 in
    (ap (content_in x) both ∙ hold.0.1.1, held_begin c t byte (suc j) qs xs ys are.1 fit.1 hold.1)

pub begin_hold : (c : core.Memory) (t : core.Spot) (j : ℕ) (xs ys : List Content) → Begins xs ys → PartsHold c t j xs → PartsHold c t j ys
begin_hold c t j xs [] begin hold = tt
begin_hold c t j [] (y ∷ ys) begin hold = absurd begin
begin_hold c t j (x ∷ xs) (y ∷ ys) begin hold = ((hold.0.0, (hold.0.1.0, hold.0.1.1 ∙ begin.0)), begin_hold c t (suc j) xs ys begin.1 hold.1)

-- ---- temporaries

-- those from one on hold these
abbrev pub AreIn : ℕ → List Content → (ℕ → Content) → Type 0
AreIn t [] temps = Unit {0}
AreIn t (x ∷ xs) temps = (temps t ≡ x) × AreIn (suc t) xs temps

pub are_kept : (part count t : ℕ) (xs : List Content) (temps later : ℕ → Content) → FitPieces (pieces_from part count) xs
    → ((k : ℕ) → k < t + count → later k ≡ temps k) → AreIn t xs temps → AreIn t xs later
are_kept part zero t [] temps later fit kept are = tt
are_kept part zero t (x ∷ xs) temps later fit kept are = absurd fit
are_kept part (suc count) t [] temps later fit kept are = absurd fit
are_kept part (suc count) t (x ∷ xs) temps later fit kept are =
    (kept t (omega arith) ∙ are.0, are_kept (suc part) count (suc t) xs temps later fit.1 (λ k less. kept k (omega (arith, less))) are.1)

-- ---- the code

-- words are read into the temporaries from one on
pub record WordsRead (c : Config) (code : List Statement) (t : ℕ) (xs : List Content) : Type 0 where
  pub temps : ℕ → Content
  pub does : (rest : Statements) (next : Next) → meaning.statements (put code rest) next c
      ≡ meaning.statements rest next (record c { temps = temps })
  pub kept : (k : ℕ) → k < t → temps k ≡ c.temps k
  pub are : AreIn t xs temps

pub words_are_read : (count : ℕ) (c : Config) (t p part byte : ℕ) (spot : core.Spot) (xs : List Content) → p < t → c.temps p ≡ Pointer spot byte
    → core.is_live (c.memory.standing spot.region) ≡ true → PartsAre c.memory spot byte part (pieces_from part count) xs
    → WordsRead c (words_read count part t p) t xs
words_are_read zero c t p part byte spot [] less temp live parts = record {
  temps = c.temps;
  does = λ rest next. refl;
  kept = λ k h. refl;
  are = tt;
}
words_are_read zero c t p part byte spot (x ∷ xs) less temp live parts = absurd parts
words_are_read (suc count) c t p part byte spot [] less temp live parts = absurd parts
words_are_read (suc count) c t p part byte spot (x ∷ xs) less temp live parts =
    let more = words_are_read count (with_temp t x c) (suc t) p (suc part) byte spot xs (omega (arith, less)) (other_temp t p x c less ∙ temp) live parts.1 in
    record {
      temps = more.temps;
      does = λ rest next.
          part_read c t p part (byte + 4 * part) byte spot x (meaning.statements (put (words_read count (suc part) (suc t) p) rest) next) temp live parts.0
          (omega arith) ∙ more.does rest next;
      kept = λ k h. more.kept k (omega (arith, h)) ∙ other_temp t k x c h;
      are = (more.kept t (omega arith) ∙ put_temp t x c, more.are);
    }

-- the words in the temporaries from one on are written
pub words_are_written : (count : ℕ) (c : Config) (p t part byte : ℕ) (spot : core.Spot) (olds xs : List Content) (rest : Statements) (next : Next)
    → c.temps p ≡ Pointer spot byte → core.is_live (c.memory.standing spot.region) ≡ true
    → PartsAre c.memory spot byte part (pieces_from part count) olds → FitPieces (pieces_from part count) xs → AreIn t xs c.temps
    → meaning.statements (put (words_written count part p t) rest) next c ≡ meaning.statements rest next
    (with_memory (record c.memory { parts = all_written c.memory.parts spot byte part (pieces_from part count) xs }) c)
words_are_written zero c p t part byte spot olds [] rest next temp live parts fit are = refl
words_are_written zero c p t part byte spot olds (x ∷ xs) rest next temp live parts fit are = absurd fit
words_are_written (suc count) c p t part byte spot olds [] rest next temp live parts fit are = absurd fit
words_are_written (suc count) c p t part byte spot [] (x ∷ xs) rest next temp live parts fit are = absurd parts
words_are_written (suc count) c p t part byte spot (old ∷ olds) (x ∷ xs) rest next temp live parts fit are =
    part_wrote c p t part (4 * part) byte spot old x (meaning.statements (put (words_written count (suc part) p (suc t)) rest) next) temp live parts.0 refl
    are.0 ∙
    words_are_written count (part_put spot byte part (4 * part) x c) p (suc t) (suc part) byte spot olds xs rest next temp live
    (parts_after c.memory spot byte part (suc part) (part_of byte (piece (4 * part) 4 core.Blank) x) (pieces_from (suc part) count) olds (omega arith)
    parts.1) fit.1 are.1
