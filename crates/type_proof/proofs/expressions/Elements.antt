-- Elements: where the index of a fat pointer is below its count, the element is there.
use Rattle.std.proofs.Common.{◌≡◌, ℕ, zero, suc, ◌+◌, ◌<◌, ◌≤◌, Bool, true, false, Some, refl, sym, ◌∙◌, ap, subst, arith}
use Rattle.std.specs.Prelude.{◌-◌, nat_le, ◌*◌, length, nat_lt, if◌then◌else◌}
use Rattle.std.proofs.lemmas.Bool.{ltb-true, leb-true}
use Rattle.std.proofs.lemmas.List.{length-map}
use Rattle.cyc_words.specs.declared.faults.Kind.TheVariants.{ArrayBounds}
use Rattle.source_meaning.specs.Memory.{Region, Spot, Span, Wide, Memory, beyond}
use Rattle.source_meaning.specs.Steps.{World, Step, Act, give, raise, ◌>>=◌}
use Rattle.source_meaning.specs.Conversions.{cells_of, element, elements_from}
use Rattle.source_meaning.specs.Places.{span_at}
use Rattle.source_typing.specs.Types.{StaticType, renamed, shape_of}
use Rattle.type_proof.specs.Flat.{Tables, flat}
use Rattle.type_proof.proofs.invariant.Facts.{at_start, further}
use Rattle.type_proof.proofs.invariant.Invariant.{RunType, heap, Ghost, AllLaid, Reaches, ReachesOn, Spans}
use Rattle.type_proof.proofs.invariant.Runs.{Safe, Runs, safe_raised}
use Rattle.type_proof.proofs.invariant.Arguments.{Agrees}
use Rattle.type_proof.proofs.invariant.Names.{NameOf}
use Rattle.type_proof.proofs.invariant.Sound.{shape_renamed, cells_type}

-- an element has as many cells as its type
pub cells_counted : (d : Tables) (world : World) (f : NameOf → Region) (t : StaticType) → Agrees world d
    → length (cells_of world (shape_of t)) ≡ length (cells_type d f t)
cells_counted d world f t agrees =
    ap (λ s. length (cells_of world s)) (sym (shape_renamed f t)) ∙ (ap length (agrees (renamed f t)) ∙ length-map (cells_type d f t) shape_of)

-- each element of a fat pointer is there, and its region outlives the pointer's
abbrev pub ReachesAll : Tables → Ghost → Span → Region → RunType → Type 0
ReachesAll d w s r t = (i : ℕ) → i < s.count → Reaches d w (beyond s.first (i * length (flat heap d t))) r t

-- a pointer to one object spans one element
pub one_element : (d : Tables) (w : Ghost) (at : Spot) (r : Region) (t : RunType) → Reaches d w at r t → Spans d w (span_at 1 at) r t
one_element d w at r t h = record { span = record { first = at; count = 1; index = 0 }; is = refl; reaches = first }
  where
    first : (i : ℕ) → i < 1 → Reaches d w (beyond at (i * length (flat heap d t))) r t
    first zero l = subst (λ (s : Spot). Reaches d w s r t) (sym (at_start at (length (flat heap d t)))) h
    first (suc i) l = absurd (omega (arith, l))

-- a pointer to so many elements spans them
pub these_elements : (d : Tables) (w : Ghost) (at : Spot) (count index : ℕ) (r : Region) (t : RunType) → ReachesOn d w count at r t
    → Spans d w (Wide (Some (record { first = at; count = count; index = index }))) r t
these_elements d w at count index r t h = record { span = record { first = at; count = count; index = index }; is = refl; reaches = h }

-- so many elements from the current one on are a part of a fat pointer's
pub rest_reached : (d : Tables) (w : Ghost) (s : Span) (count : ℕ) (r : Region) (t : RunType) → ReachesAll d w s r t → s.index < s.count
    → count ≤ s.count - s.index → ReachesOn d w count (beyond s.first (s.index * length (flat heap d t))) r t
rest_reached d w s count r t h below few i l =
    let cells : ℕ = length (flat heap d t) in
    subst (λ (a : Spot). Reaches d w a r t) (sym (further s.first (s.index * cells) (i * cells) ((s.index + i) * cells) (omega arith)))
    (h (s.index + i) (omega (arith, below, few, l)))

-- an array's name spans all its elements
pub all_elements : (d : Tables) (w : Ghost) (at : Spot) (count : ℕ) (r : Region) (t : RunType) → w.above at.region r ≡ true
    → AllLaid w at count (flat heap d t) → Spans d w (span_at count at) r t
all_elements d w at count r t up laid = record {
  span = record { first = at; count = count; index = 0 };
  is = refl;
  reaches = λ i l. record { typed = laid i l; above = up };
}

-- another index spans the same elements
pub same_elements : (d : Tables) (w : Ghost) (s : Span) (index : ℕ) (r : Region) (t : RunType) → ReachesAll d w s r t
    → Spans d w (Wide (Some (record s { index = index }))) r t
same_elements d w s index r t h = record { span = record s { index = index }; is = refl; reaches = h }

-- the element where the index is; an exception where there is none
pub runs_element : {B : Type 0} (n cells : ℕ) (s : Span) (h : Spot → Act B) (m : Memory) (Q : B → Memory → Type 0)
    → (s.index < s.count → Runs n (h (beyond s.first (s.index * cells))) m Q) → Runs n (element cells (Some s) >>= h) m Q
runs_element {B = B} n cells s h m Q go = record { by = λ next q. by (nat_lt s.index s.count) refl next q }
  where
    by : (c : Bool) → nat_lt s.index s.count ≡ c → (next : B → Memory → Step) → ((a : B) (m' : Memory) → Q a m' → Safe n (next a m'))
        → Safe n (((if c then give (beyond s.first (s.index * cells)) else raise ArrayBounds) >>= h) next m)
    by true e next q = (go (ltb-true s.index s.count e)).by next q
    by false e next q = safe_raised n ArrayBounds

-- the element where the index is and so many from there on; an exception where they aren't there
pub runs_elements : {B : Type 0} (n cells count : ℕ) (s : Span) (h : Spot → Act B) (m : Memory) (Q : B → Memory → Type 0)
    → (s.index < s.count → count ≤ s.count - s.index → Runs n (h (beyond s.first (s.index * cells))) m Q)
    → Runs n (elements_from cells count (Some s) >>= h) m Q
runs_elements {B = B} n cells count s h m Q go =
    runs_element n cells s (λ at. (if nat_le count (s.count - s.index) then give at else raise ArrayBounds) >>= h) m Q (λ l. record {
      by = λ next q. by (nat_le count (s.count - s.index)) refl l next q;
    })
  where
    by : (c : Bool) → nat_le count (s.count - s.index) ≡ c → s.index < s.count → (next : B → Memory → Step)
        → ((a : B) (m' : Memory) → Q a m' → Safe n (next a m'))
        → Safe n (((if c then give (beyond s.first (s.index * cells)) else raise ArrayBounds) >>= h) next m)
    by true e l next q = (go l (leb-true count (s.count - s.index) e)).by next q
    by false e l next q = safe_raised n ArrayBounds
