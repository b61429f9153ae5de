-- Globals and strings: each lies in the data, and the parts of no two meet.
use Rattle.std.specs.Prelude.{slice_get, length}
use Rattle.std.proofs.Common.{◌≡◌, ℕ, zero, suc, ◌+◌, ◌*◌, ◌%◌, ◌<◌, ◌≤◌, List, [], ◌∷◌, Option, Some, None, refl, sym, ap, ◌∙◌, arith}
use Rattle.std.proofs.lemmas.Option.{same_Some, none-some}
use Rattle.core_meaning.specs.Memory.{Part, blanks}
use Rattle.core_meaning.specs.Core.{Local, Datum}
use Rattle.core_meaning.specs.Meaning.{datum_parts}
use Rattle.core_lines.specs.Selected.{datum_local, datum_locals}
use Rattle.core_lines.proofs.memory.Growing.{ObjectFits}
use Rattle.core_lines.proofs.memory.Laying.{LaidOut, laid_high}

-- a part of a datum lies as the blank one of the same object
pub record LikeBlank (l : Local) (cell part : ℕ) (p : Part) : Type 0 where
  pub blank : Part
  pub is : blanks l.layout l.count cell part ≡ Some blank
  pub offset : p.offset ≡ blank.offset
  pub width : p.width ≡ blank.width

-- an object of the data: where it begins, and that the others end before or begin behind it
pub record IsObject (ds : List Datum) (offsets : List ℕ) (low high object offset : ℕ) : Type 0 where
  pub local : Local
  pub above : low ≤ offset
  pub even : offset % 4 ≡ 0
  pub fits : ObjectFits (blanks local.layout local.count) (local.count * local.layout.bytes)
  pub within : offset + local.count * local.layout.bytes ≤ high
  pub before : (other offset' : ℕ) → object < other → slice_get offsets other ≡ Some offset' → offset + local.count * local.layout.bytes ≤ offset'
  pub parts : (cell part : ℕ) (p : Part) → datum_parts ds object cell part ≡ Some p → LikeBlank local cell part p

like_blank : (d : Datum) (ds : List Datum) (cell part : ℕ) (p : Part) → datum_parts (d ∷ ds) zero cell part ≡ Some p → LikeBlank (datum_local d) cell part p
like_blank d ds cell part p e = by (blanks d.layout d.count cell part) refl e
  where
    by : (found : Option Part) → blanks d.layout d.count cell part ≡ found → datum_parts (d ∷ ds) zero cell part ≡ Some p → LikeBlank
        (datum_local d) cell part p
    by None is e = absurd (none-some p (ap (λ (f : Option Part). filled f) (sym is) ∙ e))
      where
        filled : Option Part → Option Part
        filled None = None
        filled (Some q) = Some (record q { content = d.first cell part })
    by (Some q) is e =
        let same = same_Some (record q { content = d.first cell part }) p (ap (λ (f : Option Part). filled f) (sym is) ∙ e) in
        record { blank = q; is = is; offset = sym (ap (λ (x : Part). x.offset) same); width = sym (ap (λ (x : Part). x.width) same) }
      where
        filled : Option Part → Option Part
        filled None = None
        filled (Some q) = Some (record q { content = d.first cell part })

-- all offsets of objects from an offset on are at or above it
above_all : (ds : List Datum) (offsets : List ℕ) (low high object offset : ℕ) → LaidOut (datum_locals ds) offsets low high → slice_get offsets object
    ≡ Some offset
    → low ≤ offset
above_all [] [] low high object offset laid e = absurd (none-some offset e)
above_all [] (o ∷ os) low high object offset laid e = absurd laid
above_all (d ∷ ds) [] low high object offset laid e = absurd laid
above_all (d ∷ ds) (o ∷ os) low high zero offset laid e = let is = same_Some o offset e in let first = laid.0 in omega (arith, is, first)
above_all (d ∷ ds) (o ∷ os) low high (suc object) offset laid e =
    let rest = above_all ds os (o + d.count * d.layout.bytes) high object offset laid.3 e in let first = laid.0 in omega (arith, rest, first)

pub object_at : (ds : List Datum) (offsets : List ℕ) (low high object offset : ℕ) → LaidOut (datum_locals ds) offsets low high → slice_get offsets object
    ≡ Some offset
    → IsObject ds offsets low high object offset
object_at [] [] low high object offset laid e = absurd (none-some offset e)
object_at [] (o ∷ os) low high object offset laid e = absurd laid
object_at (d ∷ ds) [] low high object offset laid e = absurd laid
object_at (d ∷ ds) (o ∷ os) low high zero offset laid e =
    let is = same_Some o offset e in
    let first = laid.0 in
    let behind = laid_high (datum_locals ds) os (o + d.count * d.layout.bytes) high laid.3 in
    record {
      local = datum_local d;
      above = omega (arith, is, first);
      even = ap (λ k. k % 4) (sym is) ∙ laid.1;
      fits = laid.2;
      within = omega (arith, is, behind);
      before = λ other offset' less e'. by other offset' less e' is;
      parts = λ cell part p e. like_blank d ds cell part p e;
    }
  where
    by : (other offset' : ℕ) → 0 < other → slice_get (o ∷ os) other ≡ Some offset' → o ≡ offset → offset + d.count * d.layout.bytes ≤ offset'
    by zero offset' less e' is = absurd (omega (arith, less))
    by (suc other) offset' less e' is = let rest = above_all ds os (o + d.count * d.layout.bytes) high other offset' laid.3 e' in omega (arith, rest, is)
object_at (d ∷ ds) (o ∷ os) low high (suc object) offset laid e =
    let rest = object_at ds os (o + d.count * d.layout.bytes) high object offset laid.3 e in
    let first = laid.0 in
    let above = rest.above in
    record {
      local = rest.local;
      above = omega (arith, above, first);
      even = rest.even;
      fits = rest.fits;
      within = rest.within;
      before = λ other offset' less e'. by other offset' less e' rest;
      parts = rest.parts;
    }
  where
    by : (other offset' : ℕ) → suc object < other → slice_get (o ∷ os) other ≡ Some offset'
        → (rest : IsObject ds os (o + d.count * d.layout.bytes) high object offset) → offset + rest.local.count * rest.local.layout.bytes ≤ offset'
    by zero offset' less e' rest = absurd (omega (arith, less))
    by (suc other) offset' less e' rest = rest.before other offset' (omega (arith, less)) e'

-- each object with a part has an offset
pub placed_at : (ds : List Datum) (offsets : List ℕ) (low high object cell part : ℕ) (p : Part) → LaidOut (datum_locals ds) offsets low high
    → datum_parts ds object cell part ≡ Some p → (offset : ℕ) × (slice_get offsets object ≡ Some offset)
placed_at [] os low high object cell part p laid e = absurd (none-some p e)
placed_at (d ∷ ds) [] low high object cell part p laid e = absurd laid
placed_at (d ∷ ds) (o ∷ os) low high zero cell part p laid e = (o, refl)
placed_at (d ∷ ds) (o ∷ os) low high (suc object) cell part p laid e = placed_at ds os (o + d.count * d.layout.bytes) high object cell part p laid.3 e

-- and there are no more offsets than objects
pub none_behind : (ds : List Datum) (offsets : List ℕ) (low high object : ℕ) → LaidOut (datum_locals ds) offsets low high → length ds ≤ object
    → slice_get offsets object ≡ None
none_behind [] [] low high object laid le = refl
none_behind [] (o ∷ os) low high object laid le = absurd laid
none_behind (d ∷ ds) [] low high object laid le = absurd laid
none_behind (d ∷ ds) (o ∷ os) low high zero laid le = absurd (omega (arith, le))
none_behind (d ∷ ds) (o ∷ os) low high (suc object) laid le = none_behind ds os (o + d.count * d.layout.bytes) high object laid.3 (omega (arith, le))
