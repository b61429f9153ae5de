-- What lists of temporaries, objects and blocks hold at an index.
use Rattle.std.specs.Prelude.{if◌then◌else◌, slice_index_or, slice_get, slice_set, nat_eq, drop, option_to_list, option_map, Option}
use Rattle.std.proofs.Common.{◌≡◌, ℕ, zero, suc, ◌+◌, ◌<◌, ◌≤◌, Bool, true, false, Some, None, List, [], ◌∷◌, ◌++◌, length, map, refl, ap, ◌∙◌, sym, arith}
use Rattle.std.proofs.lemmas.List.{length-map}
use Rattle.std.proofs.Math.Dec.{eqb-suc-suc, eqb-zero-suc, eqb-suc-zero}
use Rattle.core_meaning.specs.Memory.{Blank}
use Rattle.core_meaning.specs.Steps.{set_temp}
use Rattle.core_meaning.specs.Meaning.{values_of}
use Rattle.cyc_core.specs.declared.operation.Width.{Width}
use Rattle.core_eval.specs.declared.value.Value.{Value}
use Rattle.core_eval.specs.declared.value.Value.TheVariants as value
use Rattle.core_eval.specs.declared.held.Held.{Held}
use Rattle.core_eval.specs.declared.blocks.Block.{Block}
use Rattle.core_eval.specs.declared.value.Object.{Object}
use Rattle.core_eval.specs.declared.value.Slot.{Slot}
use Rattle.core_eval.specs.Values.{content_of, temp_of, with_held, fitted, is_fit, put_part, put_slot, put_within, put_cell, put_object, put_in}
use Rattle.core_eval.specs.Elements.{cells_of}
use Rattle.core_eval.specs.Blocks.{activation_of, put_block, put_among, put_through}
use Rattle.core_eval.specs.Whole.{fill_cells, fill_object, fill_in, fill_among, fill_through}

-- ---- temporaries

pub temp_some : (vs : List Value) (k : ℕ) (v : Value) → k < length vs → v ≡ slice_index_or vs k v → content_of v ≡ temp_of vs k
temp_some [] k v h e = absurd (omega (arith, h))
temp_some (u ∷ vs) zero v h e = ap content_of e
temp_some (u ∷ vs) (suc k) v h e = temp_some vs k v (omega (arith, h)) e

pub temp_none : (vs : List Value) (k : ℕ) → length vs ≤ k → Blank ≡ temp_of vs k
temp_none [] k h = refl
temp_none (v ∷ vs) zero h = absurd (omega (arith, h))
temp_none (v ∷ vs) (suc k) h = temp_none vs k (omega (arith, h))

-- a blank one more
pub temp_grown : (vs : List Value) (k : ℕ) → temp_of (vs ++ value.Blank ∷ []) k ≡ temp_of vs k
temp_grown [] zero = refl
temp_grown [] (suc k) = refl
temp_grown (v ∷ vs) zero = refl
temp_grown (v ∷ vs) (suc k) = temp_grown vs k

pub temp_set : (vs : List Value) (t : ℕ) (v : Value) (k : ℕ) → t < length vs → temp_of (slice_set vs t v) k ≡ set_temp t (content_of v) (temp_of vs) k
temp_set [] t v k h = absurd (omega (arith, h))
temp_set (u ∷ vs) zero v zero h = refl
temp_set (u ∷ vs) zero v (suc k) h = ap (λ b. if b then content_of v else temp_of vs k) (sym (eqb-suc-zero k))
temp_set (u ∷ vs) (suc t) v zero h = ap (λ b. if b then content_of v else content_of u) (sym (eqb-zero-suc t))
temp_set (u ∷ vs) (suc t) v (suc k) h =
    temp_set vs t v k (omega (arith, h)) ∙ ap (λ b. if b then content_of v else temp_of vs k) (sym (eqb-suc-suc k t))

-- ---- lists of any kind

module _ {A : Type 0} where
  pub get_set : (xs : List A) (k : ℕ) (x old : A) (i : ℕ) → slice_get xs k ≡ Some old
      → slice_get (slice_set xs k x) i ≡ (if nat_eq i k then Some x else slice_get xs i)
  get_set [] k x old i h = cc
  get_set (y ∷ xs) zero x old zero h = refl
  get_set (y ∷ xs) zero x old (suc i) h = ap (λ b. if b then Some x else slice_get xs i) (sym (eqb-suc-zero i))
  get_set (y ∷ xs) (suc k) x old zero h = ap (λ b. if b then Some x else Some y) (sym (eqb-zero-suc k))
  get_set (y ∷ xs) (suc k) x old (suc i) h = get_set xs k x old i h ∙ ap (λ b. if b then Some x else slice_get xs i) (sym (eqb-suc-suc i k))

  pub get_grown : (xs : List A) (x : A) (i : ℕ) → slice_get (xs ++ x ∷ []) i ≡ (if nat_eq i (length xs) then Some x else slice_get xs i)
  get_grown [] x zero = refl
  get_grown [] x (suc i) = ap (λ b. if b then Some x else None) (sym (eqb-suc-zero i))
  get_grown (y ∷ xs) x zero = ap (λ b. if b then Some x else Some y) (sym (eqb-zero-suc (length xs)))
  get_grown (y ∷ xs) x (suc i) = get_grown xs x i ∙ ap (λ b. if b then Some x else slice_get xs i) (sym (eqb-suc-suc i (length xs)))

  pub get_within : (xs : List A) (k : ℕ) (x : A) → k < length xs → x ≡ slice_index_or xs k x → slice_get xs k ≡ Some x
  get_within [] k x h e = absurd (omega (arith, h))
  get_within (y ∷ xs) zero x h e = ap Some (sym e)
  get_within (y ∷ xs) (suc k) x h e = get_within xs k x (omega (arith, h)) e

  pub get_past : (xs : List A) (k : ℕ) → length xs ≤ k → slice_get xs k ≡ None
  get_past [] k h = refl
  get_past (y ∷ xs) zero h = absurd (omega (arith, h))
  get_past (y ∷ xs) (suc k) h = get_past xs k (omega (arith, h))

  pub get_less : (xs : List A) (k : ℕ) (x : A) → slice_get xs k ≡ Some x → k < length xs
  get_less [] k x e = cc
  get_less (y ∷ xs) zero x e = omega arith
  get_less (y ∷ xs) (suc k) x e = let h = get_less xs k x e in omega (arith, h)

  pub length_more : (xs : List A) (x : A) → length xs + 1 ≡ length (xs ++ x ∷ [])
  length_more [] x = refl
  length_more (y ∷ xs) x = let h = length_more xs x in omega (arith, h)

-- ---- blocks, as the code has them

pub get_block : (bs : List Block) (k : ℕ) (b : Block) → k < length bs → b ≡ slice_index_or bs k b → slice_get (map activation_of bs) k ≡ Some (activation_of b)
get_block [] k b h e = absurd (omega (arith, h))
get_block (c ∷ bs) zero b h e = ap (λ c. Some (activation_of c)) (sym e)
get_block (c ∷ bs) (suc k) b h e = get_block bs k b (omega (arith, h)) e

pub no_block : (bs : List Block) (k : ℕ) → length bs ≤ k → slice_get (map activation_of bs) k ≡ None
no_block [] k h = refl
no_block (c ∷ bs) zero h = absurd (omega (arith, h))
no_block (c ∷ bs) (suc k) h = no_block bs k (omega (arith, h))

set_block : (bs : List Block) (k : ℕ) (b : Block) → map activation_of (slice_set bs k b) ≡ slice_set (map activation_of bs) k (activation_of b)
set_block [] k b = refl
set_block (c ∷ bs) zero b = refl
set_block (c ∷ bs) (suc k) b = ap (λ l. activation_of c ∷ l) (set_block bs k b)

-- a store to a cell of an object of one of the blocks
module _ (bs : List Block) (n i k byte j : ℕ) (w : Width) (v : Value) where
  pub put_some : (b new : Block) (is_there : Bool) → n < length bs → b ≡ slice_index_or bs n b → new.number ≡ b.number
      → put_in (map cells_of b.objects.items) i k byte j w v ≡ (if is_there then Some (map cells_of new.objects.items) else None)
      → put_through (map activation_of bs) (Some n) i k byte j w v ≡ (if is_there then Some (map activation_of (slice_set bs n new)) else None)
  put_some b new true h e same put =
      ap (put_among (map activation_of bs) n i k byte j w v) (get_block bs n b h e)
      ∙ ap (option_map (put_block (map activation_of bs) n (activation_of b))) put
      ∙ ap (λ x. Some (slice_set (map activation_of bs) n (record { number = x; objects = map cells_of new.objects.items }))) (sym same)
      ∙ ap Some (sym (set_block bs n new))
  put_some b new false h e same put =
      ap (put_among (map activation_of bs) n i k byte j w v) (get_block bs n b h e)
      ∙ ap (option_map (put_block (map activation_of bs) n (activation_of b))) put

  pub put_none : length bs ≤ n → put_through (map activation_of bs) (Some n) i k byte j w v ≡ None
  put_none h = ap (put_among (map activation_of bs) n i k byte j w v) (no_block bs n h)

-- no store
pub kept_block : (bs : List Block) (n : ℕ) (b new : Block) → n < length bs → b ≡ slice_index_or bs n b → new.number ≡ b.number
    → new.objects.items ≡ b.objects.items → map activation_of (slice_set bs n new) ≡ map activation_of bs
kept_block [] n b new h e same kept = absurd (omega (arith, h))
kept_block (c ∷ bs) zero b new h e same kept =
    ap (λ k. record { number = k; objects = map cells_of new.objects.items } ∷ map activation_of bs) same
    ∙ ap (λ os. record { number = b.number; objects = map cells_of os } ∷ map activation_of bs) kept ∙ ap (λ x. activation_of x ∷ map activation_of bs) e
kept_block (c ∷ bs) (suc n) b new h e same kept = ap (λ l. activation_of c ∷ l) (kept_block bs n b new (omega (arith, h)) e same kept)

-- ---- objects, as the code has them

get_object : (os : List Object) (i : ℕ) (o : Object) → i < length os → o ≡ slice_index_or os i o → slice_get (map cells_of os) i ≡ Some (cells_of o)
get_object [] i o h e = absurd (omega (arith, h))
get_object (p ∷ os) zero o h e = ap (λ o. Some (cells_of o)) (sym e)
get_object (p ∷ os) (suc i) o h e = get_object os i o (omega (arith, h)) e

set_object : (os : List Object) (i : ℕ) (o : Object) → map cells_of (slice_set os i o) ≡ slice_set (map cells_of os) i (cells_of o)
set_object [] i o = refl
set_object (p ∷ os) zero o = refl
set_object (p ∷ os) (suc i) o = ap (λ l. cells_of p ∷ l) (set_object os i o)

module _ (os : List Object) (i k byte j : ℕ) (w : Width) (v : Value) where
  pub put_object_some : (o new : Object) (is_there : Bool) → i < length os → o ≡ slice_index_or os i o
      → put_cell (cells_of o) k byte j w v ≡ (if is_there then Some (cells_of new) else None)
      → put_in (map cells_of os) i k byte j w v ≡ (if is_there then Some (map cells_of (slice_set os i new)) else None)
  put_object_some o new true h e put =
      ap (put_object (map cells_of os) i k byte j w v) (get_object os i o h e) ∙ ap (option_map (slice_set (map cells_of os) i)) put
      ∙ ap Some (sym (set_object os i new))
  put_object_some o new false h e put =
      ap (put_object (map cells_of os) i k byte j w v) (get_object os i o h e) ∙ ap (option_map (slice_set (map cells_of os) i)) put

  pub put_object_none : length os ≤ i → put_in (map cells_of os) i k byte j w v ≡ None
  put_object_none h = ap (put_object (map cells_of os) i k byte j w v) (get_past (map cells_of os) i (let e = length-map os cells_of in omega (arith, h, e)))

-- ---- a store to a cell

module _ (cells : List Slot) (k byte j : ℕ) (w : Width) (v : Value) (s : Slot) where
  put_slot_is : (fits : Bool) (held : Option Held)
      → (if fits then option_map (λ h. slice_set cells k (with_held s h)) held else None)
      ≡ option_map (slice_set cells k) (if fits then option_map (with_held s) held else None)
  put_slot_is true None = refl
  put_slot_is true (Some h) = refl
  put_slot_is false held = refl

  pub put_cell_some : (new : Slot) (is_put : Bool) → slice_get cells k ≡ Some s → put_within s byte j w v ≡ (if is_put then Some new else None)
      → put_cell cells k byte j w v ≡ (if is_put then Some (slice_set cells k new) else None)
  put_cell_some new true there put =
      ap (put_slot cells k byte j w v) there ∙ put_slot_is (is_fit byte j w s) (put_part s.held j (fitted w v)) ∙ ap (option_map (slice_set cells k)) put
  put_cell_some new false there put =
      ap (put_slot cells k byte j w v) there ∙ put_slot_is (is_fit byte j w s) (put_part s.held j (fitted w v)) ∙ ap (option_map (slice_set cells k)) put

-- ---- cells that get other values

module _ (os : List Object) (i k : ℕ) (vs : List Held) where
  pub fill_object_some : (o new : Object) → i < length os → o ≡ slice_index_or os i o → cells_of new ≡ fill_cells (cells_of o) k vs
      → map cells_of (slice_set os i new) ≡ fill_in (map cells_of os) i k vs
  fill_object_some o new h e filled =
      set_object os i new ∙ ap (slice_set (map cells_of os) i) filled ∙ sym (ap (fill_object (map cells_of os) i k vs) (get_object os i o h e))

  pub fill_object_none : length os ≤ i → map cells_of os ≡ fill_in (map cells_of os) i k vs
  fill_object_none h =
      sym (ap (fill_object (map cells_of os) i k vs) (get_past (map cells_of os) i (let e = length-map os cells_of in omega (arith, h, e))))

module _ (bs : List Block) (n i k : ℕ) (vs : List Held) where
  pub fill_some : (b new : Block) → n < length bs → b ≡ slice_index_or bs n b → new.number ≡ b.number
      → map cells_of new.objects.items ≡ fill_in (map cells_of b.objects.items) i k vs
      → map activation_of (slice_set bs n new) ≡ fill_through (map activation_of bs) (Some n) i k vs
  fill_some b new h e same filled =
      set_block bs n new
      ∙ ap (λ x. slice_set (map activation_of bs) n (record { number = x; objects = map cells_of new.objects.items })) same
      ∙ ap (λ os. slice_set (map activation_of bs) n (record { number = b.number; objects = os })) filled
      ∙ sym (ap (fill_among (map activation_of bs) n i k vs) (get_block bs n b h e))

  pub fill_none : length bs ≤ n → map activation_of bs ≡ fill_through (map activation_of bs) (Some n) i k vs
  fill_none h = sym (ap (fill_among (map activation_of bs) n i k vs) (no_block bs n h))

-- all but the first block
pub first_left : (gone : Option Block) (bs rest : List Block) → bs ≡ option_to_list gone ++ rest → (gone ≡ None → length bs ≡ 0)
    → map activation_of rest ≡ drop 1 (map activation_of bs)
first_left None [] rest e h = ap (map activation_of) (sym e)
first_left None (b ∷ bs) rest e h = absurd (let no = h refl in omega (arith, no))
first_left (Some b) bs rest e h = sym (ap (λ l. drop 1 (map activation_of l)) e)

-- a temporary more that is read
pub read_one : (temps values : List Value) (v : Value) (t : ℕ) (ts : List ℕ) → content_of v ≡ temp_of temps t
    → map content_of (values ++ v ∷ []) ++ values_of (temp_of temps) ts ≡ map content_of values ++ temp_of temps t ∷ values_of (temp_of temps) ts
read_one temps [] v t ts e = ap (λ x. x ∷ values_of (temp_of temps) ts) e
read_one temps (u ∷ values) v t ts e = ap (λ l. content_of u ∷ l) (read_one temps values v t ts e)
