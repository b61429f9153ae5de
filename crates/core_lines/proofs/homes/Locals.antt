-- Where the locals of blocks lie in a frame: in order, and all within it. A frame takes no more than its function's bound.
use Rattle.std.specs.Prelude.{nat_le, slice_get, length, if◌then◌else◌}
use Rattle.std.proofs.Common.{◌≡◌, ℕ, zero, suc, ◌+◌, ◌-◌, ◌*◌, ◌/◌, ◌%◌, ◌^◌, ◌<◌, ◌≤◌, Bool, true, false, List, [], ◌∷◌, Some, refl, ap, arith}
use Rattle.std.proofs.lemmas.Bool.{leb-true, leb-false}
use Rattle.std.proofs.lemmas.Option.{same_Some, none-some}
use Rattle.core_meaning.specs.Core.{
  Local,
  Statement,
  Do,
  If,
  While,
  Block,
  Leave,
  Break,
  Continue,
  Call,
  Return,
  Raise,
  Statements,
  NoStatements,
  MoreStatements,
  Function,
}
use Rattle.core_lines.specs.Selected.{rounded, bytes_of, offsets_from, end_from, greater, highest, highest_of, slots_of, own_end, placed_body, shrink, shrunk}
use Rattle.core_lines.specs.Selected.{first_of, rest_of, frame_bytes, too_many}
use Rattle.core_meaning.specs.Selectable.{AreLayouts}
use Rattle.core_meaning.specs.Layouts.{IsLayout}
use Rattle.core_meaning.specs.Bounds.{local_words, statement_words, block_words, core_bound}
use Rattle.core_lines.proofs.homes.HomeWords.{homes_are_words}
use Rattle.core_lines.proofs.memory.Arrays.{object_fits}
use Rattle.core_lines.proofs.memory.Laying.{LaidOut}

pub offsets_lie : (low : ℕ) (ls : List Local) → AreLayouts ls → LaidOut ls (offsets_from low ls) low (end_from low ls)
offsets_lie low [] good = refl
offsets_lie low (l ∷ ls) good =
    (omega arith, omega arith, object_fits l.layout l.count good.0, offsets_lie (rounded low + bytes_of l) ls good.1)

pub shrunk_layouts : (ls : List Local) (hs : List ℕ) → AreLayouts ls → AreLayouts (shrunk ls hs)
shrunk_layouts [] hs good = tt
shrunk_layouts (l ∷ ls) hs good = (by (first_of hs), shrunk_layouts ls (rest_of hs) good.1)
  where
    by : (h : ℕ) → IsLayout (shrink h l).layout
    by zero = good.0
    by (suc h) = good.0

pub as_many_shrunk : (ls : List Local) (hs : List ℕ) → length (shrunk ls hs) ≡ length ls
as_many_shrunk [] hs = refl
as_many_shrunk (l ∷ ls) hs = ap suc (as_many_shrunk ls (rest_of hs))

pub as_many_offsets : (low : ℕ) (ls : List Local) → length (offsets_from low ls) ≡ length ls
as_many_offsets low [] = refl
as_many_offsets low (l ∷ ls) = ap suc (as_many_offsets (rounded low + bytes_of l) ls)

pub end_above : (low : ℕ) (ls : List Local) → low ≤ end_from low ls
end_above low [] = omega arith
end_above low (l ∷ ls) = let h = end_above (rounded low + bytes_of l) ls in omega (arith, h)

pub offset_below : (low : ℕ) (ls : List Local) (o y : ℕ) → slice_get (offsets_from low ls) o ≡ Some y → y ≤ end_from low ls
offset_below low [] o y e = absurd (none-some y e)
offset_below low (l ∷ ls) zero y e =
    let h = end_above (rounded low + bytes_of l) ls in let same = same_Some (rounded low) y e in omega (arith, h, same)
offset_below low (l ∷ ls) (suc o) y e = offset_below (rounded low + bytes_of l) ls o y e

-- ---- how high all blocks reach

pub greater_left : (a b : ℕ) → a ≤ greater a b
greater_left a b = by (nat_le a b) refl
  where
    by : (c : Bool) → nat_le a b ≡ c → a ≤ (if c then b else a)
    by true e = leb-true a b e
    by false e = omega arith

pub greater_right : (a b : ℕ) → b ≤ greater a b
greater_right a b = by (nat_le a b) refl
  where
    by : (c : Bool) → nat_le a b ≡ c → b ≤ (if c then b else a)
    by true e = omega arith
    by false e = let h = leb-false a b e in omega (arith, h)

pub greater_below : (a b high : ℕ) → a ≤ high → b ≤ high → greater a b ≤ high
greater_below a b high l m = by (nat_le a b)
  where
    by : (c : Bool) → (if c then b else a) ≤ high
    by true = m
    by false = l

-- what lies below the greater of two
pub both_below : (a b high : ℕ) → greater a b ≤ high → (a ≤ high) × (b ≤ high)
both_below a b high h =
    let l = greater_left a b in let r = greater_right a b in (omega (arith, h, l), omega (arith, h, r))

mutual
  pub highest_above : (low : ℕ) (s : Statement) → low ≤ highest low s
  highest_above low (Do operation) = omega arith
  highest_above low (If t these those) =
      let h = highest_of_above low these in let g = greater_left (highest_of low these) (highest_of low those) in omega (arith, h, g)
  highest_above low (While test t body) =
      let h = highest_of_above low test in let g = greater_left (highest_of low test) (highest_of low body) in omega (arith, h, g)
  highest_above low (Block locals body) =
      let h = highest_of_above (end_from low locals) body in let g = end_above low locals in omega (arith, h, g)
  highest_above low (Leave body) = highest_of_above low body
  highest_above low Break = omega arith
  highest_above low Continue = omega arith
  highest_above low (Call results f arguments) = omega arith
  highest_above low (Return values) = omega arith
  highest_above low (Raise kind) = omega arith

  pub highest_of_above : (low : ℕ) (ss : Statements) → low ≤ highest_of low ss
  highest_of_above low NoStatements = omega arith
  highest_of_above low (MoreStatements s ss) =
      let h = highest_above low s in let g = greater_left (highest low s) (highest_of low ss) in omega (arith, h, g)

-- ---- no more than the bound

end_bounded : (low : ℕ) (ls : List Local) → rounded (end_from low ls) ≤ rounded low + 4 * local_words ls
end_bounded low [] = omega arith
end_bounded low (l ∷ ls) = let h = end_bounded (rounded low + bytes_of l) ls in omega (arith, h)

rounded_greater : (a b high : ℕ) → rounded a ≤ high → rounded b ≤ high → rounded (greater a b) ≤ high
rounded_greater a b high l m = by (nat_le a b)
  where
    by : (c : Bool) → rounded (if c then b else a) ≤ high
    by true = m
    by false = l

mutual
  highest_bounded : (low : ℕ) (s : Statement) → rounded (highest low s) ≤ rounded low + 4 * statement_words s
  highest_bounded low (Do operation) = omega arith
  highest_bounded low (If t these those) =
      let h = highest_of_bounded low these in let g = highest_of_bounded low those in
      rounded_greater (highest_of low these) (highest_of low those) _ (omega (arith, h)) (omega (arith, g))
  highest_bounded low (While test t body) =
      let h = highest_of_bounded low test in let g = highest_of_bounded low body in
      rounded_greater (highest_of low test) (highest_of low body) _ (omega (arith, h)) (omega (arith, g))
  highest_bounded low (Block locals body) =
      let h = highest_of_bounded (end_from low locals) body in let g = end_bounded low locals in omega (arith, h, g)
  highest_bounded low (Leave body) = highest_of_bounded low body
  highest_bounded low Break = omega arith
  highest_bounded low Continue = omega arith
  highest_bounded low (Call results f arguments) = omega arith
  highest_bounded low (Return values) = omega arith
  highest_bounded low (Raise kind) = omega arith

  highest_of_bounded : (low : ℕ) (ss : Statements) → rounded (highest_of low ss) ≤ rounded low + 4 * block_words ss
  highest_of_bounded low NoStatements = omega arith
  highest_of_bounded low (MoreStatements s ss) =
      let h = highest_bounded low s in let g = highest_of_bounded low ss in
      rounded_greater (highest low s) (highest_of low ss) _ (omega (arith, h)) (omega (arith, g))

-- the highest offset that a function's objects reach
abbrev pub top_of : Function → ℕ
top_of f = highest_of (own_end f) (placed_body f)

top_bounded : (f : Function) → top_of f + 60 ≤ core_bound f
top_bounded f =
    let h = highest_of_bounded (own_end f) (placed_body f) in
    let fewer = homes_are_words f in
    let g = end_bounded (4 * slots_of f) f.own in
    omega (arith, h, g, fewer)

pub frame_bounded : (f : Function) → frame_bytes f ≤ core_bound f
frame_bounded f = by (nat_le (top_of f) (too_many - 16)) refl
  where
    by : (c : Bool) → nat_le (top_of f) (too_many - 16) ≡ c → (if c then (top_of f + 15) / 16 * 16 else too_many) ≤ core_bound f
    by true e = let h = top_bounded f in omega (arith, h)
    by false e = let h = top_bounded f in let g = leb-false (top_of f) (too_many - 16) e in omega (arith, h, g)

pub frame_even : (f : Function) → frame_bytes f % 16 ≡ 0
frame_even f = by (nat_le (top_of f) (too_many - 16))
  where
    by : (c : Bool) → (if c then (top_of f + 15) / 16 * 16 else too_many) % 16 ≡ 0
    by true = omega arith
    by false = refl

-- where a frame isn't too large, all its objects lie in it
pub frame_has_all : (f : Function) → frame_bytes f < 2 ^ 25 → top_of f ≤ frame_bytes f
frame_has_all f = by (nat_le (top_of f) (too_many - 16))
  where
    by : (c : Bool) → (if c then (top_of f + 15) / 16 * 16 else too_many) < 2 ^ 25 → top_of f ≤ (if c then (top_of f + 15) / 16 * 16 else too_many)
    by true less = omega arith
    by false less = absurd (omega (arith, less))
