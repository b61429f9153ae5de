-- Marks of locals of the blocks around code, as statements take addresses of them.
use Rattle.std.specs.Prelude.{nat_eq, not, ◌&&◌, ◌||◌, slice_index_or, remove}
use Rattle.std.proofs.Common.{◌≡◌, ℕ, zero, suc, ◌+◌, ◌<◌, ◌≤◌, Bool, true, false, List, [], ◌∷◌, ◌++◌, length, get_or, map, refl, sym, ap, ◌∙◌, arith}
use Rattle.std.proofs.Math.ListN.{set}
use Rattle.std.proofs.lemmas.Bool.{and_left, and_right, eqb-true, eq-eqb, ne_eqb}
use Rattle.std.proofs.lemmas.List.{length-map}
use Rattle.core_meaning.specs.Core.{Local, Statements}
use Rattle.core_meaning.specs.Memory.{PartShape}
use Rattle.core_lines.specs.Homes.{addressed_of, eligible_from, fills, is_scalar}
use Rattle.cyc_core.specs.declared.operation.Cell.{Cell}
use Rattle.cyc_core.specs.declared.operation.Cell.TheVariants as cell
use Rattle.cyc_core.specs.declared.layout.CellLayout.{CellLayout}
use Rattle.cyc_core.specs.Trees.{cell_bytes, cell_parts, made_parts, padding_parts}
use Rattle.rv32_select.specs.Marks.{fills_alone, masked, marked, scalars}

-- ---- one after the other

kept_twice : (x a b : Bool) → ((x && not a) && not b) ≡ (x && not (a || b))
kept_twice true true b = refl
kept_twice true false b = refl
kept_twice false a b = refl

masked_twice : (a b : ℕ → Bool) (n : ℕ) (xs : List Bool) → masked b n (masked a n xs) ≡ masked (λ k. a k || b k) n xs
masked_twice a b n [] = refl
masked_twice a b n (x ∷ xs) =
    let here = kept_twice x (a n) (b n) in let rest = masked_twice a b (suc n) xs in λ i. here i ∷ rest i

pub marked_twice : (a b : ℕ → ℕ → Bool) (o : ℕ) (xss : List (List Bool)) → marked b o (marked a o xss) ≡ marked (λ k n. a k n || b k n) o xss
marked_twice a b o [] = refl
marked_twice a b o (xs ∷ xss) =
    let here = masked_twice (a o) (b o) 0 xs in let rest = marked_twice a b (suc o) xss in λ i. here i ∷ rest i

-- ---- none, one, and those of a block's statements

kept_all : (x : Bool) → (x && true) ≡ x
kept_all true = refl
kept_all false = refl

masked_other : (a : ℕ → Bool) (n : ℕ) (xs : List Bool) → ((k : ℕ) → n ≤ k → k < n + length xs → a k ≡ false) → masked a n xs ≡ xs
masked_other a n [] none = refl
masked_other a n (x ∷ xs) none =
    let here = ap (λ b. x && not b) (none n (omega arith) (omega arith)) ∙ kept_all x in
    let rest = masked_other a (suc n) xs (λ k low high. none k (omega (arith, low)) (omega (arith, high))) in
    λ i. here i ∷ rest i

marked_other : (a : ℕ → ℕ → Bool) (o : ℕ) (xss : List (List Bool)) → ((k n : ℕ) → o ≤ k → k < o + length xss → a k n ≡ false) → marked a o xss ≡ xss
marked_other a o [] none = refl
marked_other a o (xs ∷ xss) none =
    let here = masked_other (a o) 0 xs (λ n low high. none o n (omega arith) (omega arith)) in
    let rest = marked_other a (suc o) xss (λ k n low high. none k n (omega (arith, low)) (omega (arith, high))) in
    λ i. here i ∷ rest i

pub marked_none : (a : ℕ → ℕ → Bool) (xss : List (List Bool)) → ((k n : ℕ) → a k n ≡ false) → xss ≡ marked a 0 xss
marked_none a xss none = sym (marked_other a 0 xss (λ k n low high. none k n))

-- one local of a block
masked_one : (i n : ℕ) (xs : List Bool) → i < length xs → set xs i false ≡ masked (λ k. nat_eq (i + n) k) n xs
masked_one i n [] less = absurd (omega (arith, less))
masked_one zero n (x ∷ xs) less =
    let here : false ≡ (x && not (nat_eq (0 + n) n)) = sym (and_right x (not (nat_eq (0 + n) n)) (ap not (eq-eqb (0 + n) n (omega arith)))) in
    let rest = masked_other (λ k. nat_eq (0 + n) k) (suc n) xs (λ k low high. ne_eqb (0 + n) k (λ e. omega (arith, e, low))) in
    λ j. here j ∷ sym rest j
masked_one (suc i) n (x ∷ xs) less =
    let here : x ≡ (x && not (nat_eq (suc i + n) n)) =
    sym (ap (λ b. x && not b) (ne_eqb (suc i + n) n (λ e. omega (arith, e))) ∙ kept_all x) in
    let same : i + suc n ≡ suc i + n = omega arith in
    let rest = masked_one i (suc n) xs (omega (arith, less)) ∙ ap (λ m. masked (λ k. nat_eq m k) (suc n) xs) same in
    λ j. here j ∷ rest j

pub mask_set : (i : ℕ) (xs : List Bool) → i < length xs → set xs i false ≡ masked (λ k. nat_eq i k) 0 xs
mask_set i xs less = let e : i + 0 ≡ i = omega arith in masked_one i 0 xs less ∙ ap (λ m. masked (λ k. nat_eq m k) 0 xs) e

pub mask_beyond : (i : ℕ) (xs : List Bool) → length xs ≤ i → xs ≡ masked (λ k. nat_eq i k) 0 xs
mask_beyond i xs more = sym (masked_other (λ k. nat_eq i k) 0 xs (λ k low high. ne_eqb i k (λ e. omega (arith, e, high, more))))

-- and of the blocks around
module _ {V : Type 0} (items : V → List Bool) (local : ℕ) where
  marked_one : (out o : ℕ) (vs : List V) (old new : V) → out < length vs → old ≡ slice_index_or vs out old
      → items new ≡ masked (λ n. nat_eq local n) 0 (items old)
      → map items (set vs out new) ≡ marked (λ k n. nat_eq (out + o) k && nat_eq local n) o (map items vs)
  marked_one out o [] old new less is e = absurd (omega (arith, less))
  marked_one zero o (v ∷ vs) old new less is e =
      let same = eq-eqb (0 + o) o (omega arith) in
      let here : items new ≡ masked (λ n. nat_eq (0 + o) o && nat_eq local n) 0 (items v) =
      e ∙ ap (λ w. masked (λ n. nat_eq local n) 0 (items w)) is ∙ ap (λ b. masked (λ n. b && nat_eq local n) 0 (items v)) (sym same) in
      let rest = marked_other (λ k n. nat_eq (0 + o) k && nat_eq local n) (suc o) (map items vs)
      (λ k n low high. and_left (nat_eq (0 + o) k) (nat_eq local n) (ne_eqb (0 + o) k (λ q. omega (arith, q, low)))) in
      λ j. here j ∷ sym rest j
  marked_one (suc out) o (v ∷ vs) old new less is e =
      let other = ne_eqb (suc out + o) o (λ q. omega (arith, q)) in
      let here : items v ≡ masked (λ n. nat_eq (suc out + o) o && nat_eq local n) 0 (items v) =
      sym (masked_other (λ n. nat_eq (suc out + o) o && nat_eq local n) 0 (items v) (λ n low high. and_left (nat_eq (suc out + o) o) (nat_eq local n) other)) in
      let same : out + suc o ≡ suc out + o = omega arith in
      let rest = marked_one out (suc o) vs old new (omega (arith, less)) is e
      ∙ ap (λ m. marked (λ k n. nat_eq m k && nat_eq local n) (suc o) (map items vs)) same in
      λ j. here j ∷ rest j

  pub mark_set : (out : ℕ) (vs : List V) (old new : V) → out < length vs → old ≡ slice_index_or vs out old
      → items new ≡ masked (λ n. nat_eq local n) 0 (items old)
      → map items (set vs out new) ≡ marked (λ k n. nat_eq out k && nat_eq local n) 0 (map items vs)
  mark_set out vs old new less is e =
      let same : out + 0 ≡ out = omega arith in
      marked_one out 0 vs old new less is e ∙ ap (λ m. marked (λ k n. nat_eq m k && nat_eq local n) 0 (map items vs)) same

  pub mark_beyond : (out : ℕ) (vs : List V) → length vs ≤ out → map items vs ≡ marked (λ k n. nat_eq out k && nat_eq local n) 0 (map items vs)
  mark_beyond out vs more =
      let many = length-map vs items in
      sym (marked_other (λ k n. nat_eq out k && nat_eq local n) 0 (map items vs)
      (λ k n low high. and_left (nat_eq out k) (nat_eq local n) (ne_eqb out k (λ q. omega (arith, q, high, more, many)))))

marked_within : (a : ℕ → ℕ → Bool) (o : ℕ) (xss : List (List Bool)) → marked a (suc o) xss ≡ marked (λ i. a (suc i)) o xss
marked_within a o [] = refl
marked_within a o (xs ∷ xss) = ap (λ yss. masked (a (suc o)) 0 xs ∷ yss) (marked_within a (suc o) xss)

-- the innermost block
module _ {V : Type 0} (items : V → List Bool) where
  pub left_none : (vs : List V) (new b : List Bool) (bs : List (List Bool)) → length vs ≡ 0 → map items vs ≡ b ∷ bs → (new ≡ b) × (map items vs ≡ bs)
  left_none [] new b bs none e = absurd (cc e)
  left_none (v ∷ vs) new b bs none e = absurd (omega (arith, none))

  -- the marks of a block and of those around it, where it was laid within them and its statements were gone over
  pub block_marked : (a : ℕ → ℕ → Bool) (now before outer : List V) (v : V) → before ≡ v ∷ outer → map items now ≡ marked a 0 (map items before)
      → map items now ≡ masked (a 0) 0 (items v) ∷ marked (λ o. a (suc o)) 0 (map items outer)
  block_marked a now before outer v is e =
      e ∙ ap (λ vs. marked a 0 (map items vs)) is ∙ ap (λ bs. masked (a 0) 0 (items v) ∷ bs) (marked_within a 0 (map items outer))

  pub left_first : (vs : List V) (v : V) (b : List Bool) (bs : List (List Bool)) → v ≡ slice_index_or vs 0 v → map items vs ≡ b ∷ bs
      → (items v ≡ b) × (map items (remove vs 0) ≡ bs)
  left_first [] v b bs is e = absurd (cc e)
  left_first (w ∷ vs) v b bs is e = let here : items w ≡ b = cc in (ap items is ∙ here, cc)

pub eligible_masked : (n : ℕ) (ls : List Local) (body : Statements) → eligible_from n ls body ≡ masked (λ k. addressed_of 0 k body) n (scalars ls)
eligible_masked n [] body = refl
eligible_masked n (l ∷ ls) body = ap (λ bs. (is_scalar l && not (addressed_of 0 n body)) ∷ bs) (eligible_masked (suc n) ls body)

-- ---- cells

one_byte : (bytes : ℕ) → nat_eq 1 bytes ≡ (nat_eq 1 bytes && (nat_eq bytes 1 || nat_eq bytes 4))
one_byte bytes = by (nat_eq 1 bytes) refl
  where
    by : (b : Bool) → nat_eq 1 bytes ≡ b → b ≡ (b && (nat_eq bytes 1 || nat_eq bytes 4))
    by true e = ap (λ n. nat_eq n 1 || nat_eq n 4) (eqb-true 1 bytes e)
    by false e = refl

one_word : (bytes : ℕ) → nat_eq 4 bytes ≡ (nat_eq 4 bytes && (nat_eq bytes 1 || nat_eq bytes 4))
one_word bytes = by (nat_eq 4 bytes) refl
  where
    by : (b : Bool) → nat_eq 4 bytes ≡ b → b ≡ (b && (nat_eq bytes 1 || nat_eq bytes 4))
    by true e = ap (λ n. nat_eq n 1 || nat_eq n 4) (eqb-true 4 bytes e)
    by false e = refl

tail_false : (offset n : ℕ) (b : Bool) → (nat_eq offset 0 && (nat_eq (suc n) 0 && b)) ≡ false
tail_false offset n b =
    and_right (nat_eq offset 0) (nat_eq (suc n) 0 && b) (and_left (nat_eq (suc n) 0) b (ne_eqb (suc n) 0 (λ e. omega (arith, e))))

-- a cell of one part and no padding is all of an object with its bytes
cell_fills : (c : Cell) (offset padding bytes : ℕ)
    → (fills (cell_bytes c) (made_parts c 0 ∷ []) && (nat_eq offset 0 && (nat_eq padding 0 && nat_eq (cell_bytes c) bytes)))
    ≡ fills bytes ((made_parts c offset ++ padding_parts (offset + cell_bytes c) padding) ∷ [])
cell_fills cell.Byte offset zero bytes = ap (λ b. nat_eq offset 0 && b) (one_byte bytes)
cell_fills cell.Byte offset (suc n) bytes = tail_false offset n (nat_eq 1 bytes)
cell_fills cell.Word offset zero bytes = ap (λ b. nat_eq offset 0 && b) (one_word bytes)
cell_fills cell.Word offset (suc n) bytes = tail_false offset n (nat_eq 4 bytes)
cell_fills cell.Pointer offset zero bytes = ap (λ b. nat_eq offset 0 && b) (one_word bytes)
cell_fills cell.Pointer offset (suc n) bytes = tail_false offset n (nat_eq 4 bytes)
cell_fills cell.Fat offset padding bytes = refl
cell_fills cell.Handle offset zero bytes = ap (λ b. nat_eq offset 0 && b) (one_word bytes)
cell_fills cell.Handle offset (suc n) bytes = tail_false offset n (nat_eq 4 bytes)
cell_fills cell.Tagged offset padding bytes = refl
cell_fills cell.TaggedFat offset padding bytes = refl

-- an object of no cell, or of several, isn't of one part
cells_none : (c : CellLayout) (cs : List CellLayout) (bytes : ℕ) → 0 < length cs → false ≡ fills bytes (map cell_parts (c ∷ cs))
cells_none c [] bytes some = absurd (omega (arith, some))
cells_none c (d ∷ cs) bytes some = by (cell_parts c)
  where
    by : (parts : List PartShape) → false ≡ fills bytes (parts ∷ map cell_parts (d ∷ cs))
    by [] = refl
    by (s ∷ []) = refl
    by (s ∷ t ∷ ss) = refl

pub one_cell : (cs : List CellLayout) (d : CellLayout) (bytes : ℕ) → length cs ≡ 1 → fills_alone (get_or cs 0 d) bytes ≡ fills bytes (map cell_parts cs)
one_cell [] d bytes one = absurd (omega (arith, one))
one_cell (c ∷ []) d bytes one = cell_fills c.cell c.offset c.padding bytes
one_cell (c ∷ k ∷ cs) d bytes one = absurd (omega (arith, one))

pub other_cells : (cs : List CellLayout) (bytes : ℕ) → (length cs ≡ 1 → ⊥) → false ≡ fills bytes (map cell_parts cs)
other_cells [] bytes other = refl
other_cells (d ∷ []) bytes other = absurd (other refl)
other_cells (d ∷ k ∷ cs) bytes other = cells_none d (k ∷ cs) bytes (omega arith)
