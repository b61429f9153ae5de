-- What Core's memory shows after each change of it.
use Rattle.std.specs.Prelude.{if◌then◌else◌, slice_get, slice_set, nat_eq, nat_lt, ◌&&◌, ◌||◌, option_map}
use Rattle.std.proofs.Common.{
  ◌≡◌,
  ◌≢◌,
  ℕ,
  zero,
  suc,
  ◌+◌,
  ◌*◌,
  Bool,
  true,
  false,
  Option,
  Some,
  None,
  List,
  [],
  ◌∷◌,
  ◌++◌,
  length,
  refl,
  ap,
  ◌∙◌,
  sym,
  arith,
}
use Rattle.std.proofs.Math.Bool.{and-false}
use Rattle.std.proofs.Math.Dec.{eqb-suc-zero}
use Rattle.std.proofs.lemmas.Bool.Decides.{nat_tests}
use Rattle.core_meaning.specs.Memory as memory
use Rattle.core_meaning.specs.Memory.{
  Region,
  Standing,
  Spot,
  Part,
  Memory,
  is_live,
  same_region,
  part_at,
  with_standing,
  with_part,
  with_object,
  blanks,
}
use Rattle.core_meaning.specs.Core.{Local}
use Rattle.core_meaning.specs.Steps.{Step, stuck, needed, checked}
use Rattle.core_meaning.specs.Operations.{reached}
use Rattle.core_meaning.specs.Meaning.{with_objects}
use Rattle.cyc_core.specs.declared.operation.Width.{Width}
use Rattle.cyc_core.specs.declared.operation.Width.TheVariants as width
use Rattle.cyc_core.specs.Trees.{bytes_of}
use Rattle.core_eval.specs.declared.value.Value.{Value}
use Rattle.core_eval.specs.declared.value.Slot.{Slot}
use Rattle.core_eval.specs.declared.held.Held.{Held}
use Rattle.core_eval.specs.declared.held.Held.TheVariants as held
use Rattle.core_eval.specs.Values.{
  spot_of,
  content_of,
  width_of,
  bound_value,
  first_of,
  values_in,
  put_part,
  same_width,
  part_in,
  cell_in,
  slot_at,
  Shows,
  fitted,
  is_fit,
  is_kept,
  value_of,
  with_held,
  put_slot,
  put_object,
  put_in,
}
use Rattle.core_eval.proofs.Lists.{get_set, get_grown}
use Rattle.core_eval.proofs.Parts.{nothing_at, valued_part, part_set}
use Rattle.core_meaning.proofs.Spots.{region_self}

-- ---- reading

-- what comes of a part of a cell, if there is one
abbrev pub found_step : Slot → ℕ → (Part → Step) → Option Value → Step
found_step s j next None = stuck
found_step s j next (Some v) = next (valued_part s j v)

-- what comes of it where it has to lie there, and to be so wide
abbrev pub found : (byte j : ℕ) → Width → (Part → Step) → Option Slot → Step
found byte j w next None = stuck
found byte j w next (Some s) = (if is_fit byte j w s then found_step s j next (slice_get (values_in s.held) j) else stuck)

-- what a part has to be
abbrev reads : ℕ → ℕ → (Part → Step) → Part → Step
reads byte width next p = checked (nat_eq p.offset byte && nat_eq p.width width) (next p)

found_width : (b : Bool) (a w : Width) (next : Step) → checked (b && nat_eq (bytes_of a) (bytes_of w)) next ≡ (if b && same_width a w then next else stuck)
found_width true width.Byte width.Byte next = refl
found_width true width.Byte width.Word next = refl
found_width true width.Word width.Byte next = refl
found_width true width.Word width.Word next = refl
found_width false a w next = refl

-- one that has a value
found_there : (s : Slot) (byte j at : ℕ) (w : Width) (v : Value) (next : Part → Step) → at ≡ s.offset + j * bytes_of (width_of s.held)
    → reads byte (bytes_of w) next (record { offset = at; width = bytes_of (width_of s.held); content = content_of v })
    ≡ (if is_fit byte j w s then next (valued_part s j v) else stuck)
found_there s byte j at w v next is =
    ap (λ (o : ℕ). reads byte (bytes_of w) next (record { offset = o; width = bytes_of (width_of s.held); content = content_of v })) is
    ∙ found_width (nat_eq (s.offset + j * bytes_of (width_of s.held)) byte) (width_of s.held) w (next (valued_part s j v))

no_fit : (b : Bool) → stuck ≡ (if b then stuck else stuck)
no_fit true = refl
no_fit false = refl

-- none that is a byte which holds nothing is as wide as a word
found_nothing : (byte at : ℕ) (there fit : Bool) (next : Part → Step)
    → needed (nothing_at there at) (reads byte 4 next) ≡ (if fit then stuck else stuck)
found_nothing byte at true fit next =
    ap (λ b. checked b (next (record { offset = at; width = 1; content = memory.Blank }))) (and-false (nat_eq at byte)) ∙ no_fit fit
found_nothing byte at false fit next = no_fit fit

found_part : (o : Option Slot) (byte j : ℕ) (w : Width) (next : Part → Step) → is_kept j w ≡ true
    → needed (part_in o j) (reads byte (bytes_of w) next) ≡ found byte j w next o
found_part None byte j w next kept = refl
found_part (Some s) byte zero w next kept = found_there s byte 0 s.offset w (first_of s.held) next (omega arith)
found_part (Some s) byte (suc j) width.Byte next kept =
    absurd (let none : is_kept (suc j) width.Byte ≡ false = ap (λ b. b || false) (eqb-suc-zero j) in let no : false ≡ true = sym none ∙ kept in cc)
found_part (Some s) byte (suc j) width.Word next kept = by s.offset s.padding s.held j
  where
    by : (offset padding : ℕ) (h : Held) (j : ℕ) → let s : Slot = record { offset = offset; padding = padding; held = h } in
        needed (part_in (Some s) (suc j)) (reads byte 4 next) ≡ found byte (suc j) width.Word next (Some s)
    by offset padding (held.Byte v) j =
        let s : Slot = record { offset = offset; padding = padding; held = held.Byte v } in
        found_nothing byte (offset + 1 + j) (nat_lt j padding) (is_fit byte (suc j) width.Word s) next
    by offset padding (held.Word v) j =
        let s : Slot = record { offset = offset; padding = padding; held = held.Word v } in
        found_nothing byte (offset + 4 + j) (nat_lt j padding) (is_fit byte (suc j) width.Word s) next
    by offset padding (held.Fat u v w) zero =
        let s : Slot = record { offset = offset; padding = padding; held = held.Fat u v w } in
        found_there s byte 1 (offset + 4) width.Word (bound_value v) next (omega arith)
    by offset padding (held.Fat u v w) (suc zero) =
        let s : Slot = record { offset = offset; padding = padding; held = held.Fat u v w } in
        found_there s byte 2 (offset + 4 + 4) width.Word (bound_value w) next (omega arith)
    by offset padding (held.Fat u v w) (suc (suc j)) =
        let s : Slot = record { offset = offset; padding = padding; held = held.Fat u v w } in
        found_nothing byte (offset + 4 + 4 + 4 + j) (nat_lt j padding) (is_fit byte (suc (suc (suc j))) width.Word s) next
    by offset padding (held.Tagged t v) zero =
        let s : Slot = record { offset = offset; padding = padding; held = held.Tagged t v } in
        found_there s byte 1 (offset + 4) width.Word v next (omega arith)
    by offset padding (held.Tagged t v) (suc j) =
        let s : Slot = record { offset = offset; padding = padding; held = held.Tagged t v } in
        found_nothing byte (offset + 4 + 4 + j) (nat_lt j padding) (is_fit byte (suc (suc j)) width.Word s) next
    by offset padding (held.TaggedFat t u v w) zero =
        let s : Slot = record { offset = offset; padding = padding; held = held.TaggedFat t u v w } in
        found_there s byte 1 (offset + 4) width.Word u next (omega arith)
    by offset padding (held.TaggedFat t u v w) (suc zero) =
        let s : Slot = record { offset = offset; padding = padding; held = held.TaggedFat t u v w } in
        found_there s byte 2 (offset + 4 + 4) width.Word (bound_value v) next (omega arith)
    by offset padding (held.TaggedFat t u v w) (suc (suc zero)) =
        let s : Slot = record { offset = offset; padding = padding; held = held.TaggedFat t u v w } in
        found_there s byte 3 (offset + 4 + 4 + 4) width.Word (bound_value w) next (omega arith)
    by offset padding (held.TaggedFat t u v w) (suc (suc (suc j))) =
        let s : Slot = record { offset = offset; padding = padding; held = held.TaggedFat t u v w } in
        found_nothing byte (offset + 4 + 4 + 4 + 4 + j) (nat_lt j padding) (is_fit byte (suc (suc (suc (suc j)))) width.Word s) next

-- a part that is a cell's
pub reached_at : (m : Memory) (r : Region) (i k b cells bytes j : ℕ) (o : Option Slot) (w : Width) (next : Spot → Part → Step) → is_kept j w ≡ true
    → part_at m (spot_of r i (k + cells)) j ≡ part_in o j
    → reached m (record { cells = cells; bytes = bytes; part = j; width = bytes_of w }) (spot_of r i k) b next
    ≡ found (b + bytes) j w (next (spot_of r i (k + cells))) o
reached_at m r i k b cells bytes j o w next kept there =
    ap (λ part. needed part (reads (b + bytes) (bytes_of w) (next (spot_of r i (k + cells))))) there
    ∙ found_part o (b + bytes) j w (next (spot_of r i (k + cells))) kept

module _ {m : Memory} {r : Region} {objects : List (List Slot)} (shows : Shows m r objects) where
  pub shown_part : (i k j : ℕ) → part_at m (spot_of r i k) j ≡ part_in (slot_at objects i k) j
  shown_part i k j = ap (λ b. if b then m.parts (spot_of r i k) j else None) shows.live ∙ shows.holds i k j

-- no part that has a value
pub found_missing : (byte j : ℕ) (w : Width) (next : Part → Step) (o : Option Slot) → value_of byte j w o ≡ None → found byte j w next o ≡ stuck
found_missing byte j w next None e = refl
found_missing byte j w next (Some s) e = by (is_fit byte j w s) (slice_get (values_in s.held) j) e
  where
    by : (fit : Bool) (v : Option Value) → (if fit then v else None) ≡ None → (if fit then found_step s j next v else stuck) ≡ stuck
    by true None e = refl
    by true (Some v) e = cc
    by false v e = refl

-- ---- storing

-- a store to a part of a cell of one of these objects leads to those
pub record IsPut (objects : List (List Slot)) (i k byte j : ℕ) (w : Width) (v : Value) (objects' : List (List Slot)) : Type 0 where
  pub cells : List Slot
  pub old : Slot
  pub holds : Held
  pub object : slice_get objects i ≡ Some cells
  pub there : slice_get cells k ≡ Some old
  pub fits : is_fit byte j w old ≡ true
  pub set : put_part old.held j (fitted w v) ≡ Some holds
  pub after : objects' ≡ slice_set objects i (slice_set cells k (with_held old holds))

module _ (objects : List (List Slot)) (i k byte j : ℕ) (w : Width) (v : Value) where
  -- the cells with what one of them holds then
  abbrev put_to_cell : List Slot → Slot → Option Held → Option (List Slot)
  put_to_cell cells s h = option_map (λ h. slice_set cells k (with_held s h)) h

  put_where : (objects' : List (List Slot)) (cells : List Slot) (s : Slot) (fits : Bool) (h : Option Held) → slice_get objects i ≡ Some cells
      → slice_get cells k ≡ Some s → is_fit byte j w s ≡ fits → put_part s.held j (fitted w v) ≡ h
      → option_map (slice_set objects i) (if fits then put_to_cell cells s h else None) ≡ Some objects'
      → IsPut objects i k byte j w v objects'
  put_where objects' cells s true (Some h) object at fits set e =
      record { cells = cells; old = s; holds = h; object = object; there = at; fits = fits; set = set; after = cc }
  put_where objects' cells s true None object at fits set e = cc
  put_where objects' cells s false h object at fits set e = cc

  put_case : (objects' : List (List Slot)) (cells : List Slot) (o : Option Slot) → slice_get objects i ≡ Some cells → slice_get cells k ≡ o
      → option_map (slice_set objects i) (put_slot cells k byte j w v o) ≡ Some objects' → IsPut objects i k byte j w v objects'
  put_case objects' cells None object at e = cc
  put_case objects' cells (Some s) object at e = put_where objects' cells s (is_fit byte j w s) (put_part s.held j (fitted w v)) object at refl refl e

  put_found : (objects' : List (List Slot)) (o : Option (List Slot)) → slice_get objects i ≡ o → put_object objects i k byte j w v o ≡ Some objects'
      → IsPut objects i k byte j w v objects'
  put_found objects' None object e = cc
  put_found objects' (Some cells) object e = put_case objects' cells (slice_get cells k) object refl e

  pub put_is : (objects' : List (List Slot)) → put_in objects i k byte j w v ≡ Some objects' → IsPut objects i k byte j w v objects'
  put_is objects' e = put_found objects' (slice_get objects i) refl e

-- ---- regions

pub same_number : (k : ℕ) → nat_eq k k ≡ true
same_number k = grind (arith, nat_tests)

pub other_number : (j k : ℕ) → j ≢ k → nat_eq j k ≡ false
other_number j k h = grind (arith, nat_tests, h)

module _ {m : Memory} {q : Region} {objects : List (List Slot)} (shows : Shows m q objects) (r : Region) (other : same_region q r ≡ false) where
  pub shows_standing : (now : Standing) → Shows (with_standing m r now) q objects
  shows_standing now = record { live = ap (λ b. is_live (if b then now else m.standing q)) other ∙ shows.live; holds = shows.holds }

  pub shows_object : (o : ℕ → ℕ → Option Part) → Shows (with_object m r o) q objects
  shows_object o = record {
    live = shows.live;
    holds = λ x y z. ap (λ b. if b && nat_eq x (m.objects r) then o y z else m.parts (spot_of q x y) z) other ∙ shows.holds x y z;
  }

pub shows_objects : (q r : Region) (objects : List (List Slot)) (other : same_region q r ≡ false) (ls : List Local) (m : Memory) → Shows m q objects
    → Shows (with_objects r ls m) q objects
shows_objects q r objects other [] m shows = shows
shows_objects q r objects other (l ∷ ls) m shows =
    shows_objects q r objects other ls (with_object m r (blanks l.layout l.count)) (shows_object shows r other (blanks l.layout l.count))

-- ---- a store to an object

-- what a cell of an object is after a store to one
pub slot_put : (objects : List (List Slot)) (i k : ℕ) (cells : List Slot) (old s : Slot) (x y : ℕ) → slice_get objects i ≡ Some cells
    → slice_get cells k ≡ Some old
    → slot_at (slice_set objects i (slice_set cells k s)) x y ≡ (if nat_eq x i && nat_eq y k then Some s else slot_at objects x y)
slot_put objects i k cells old s x y object there =
    ap (λ o. cell_in o y) (get_set objects i (slice_set cells k s) cells x object)
    ∙ by (nat_eq x i) refl
  where
    by : (b : Bool) → nat_eq x i ≡ b
        → cell_in (if b then Some (slice_set cells k s) else slice_get objects x) y ≡ (if b && nat_eq y k then Some s else slot_at objects x y)
    by true e =
        let same : x ≡ i = grind (arith, nat_tests, e) in
        get_set cells k s old y there
        ∙ ap (λ o. if nat_eq y k then Some s else o) (sym (ap (λ n. slot_at objects n y) same ∙ ap (λ o. cell_in o y) object))
    by false e = refl

module _ {m : Memory} {r : Region} {objects : List (List Slot)} (shows : Shows m r objects) where
  pub parts_put : (i k j : ℕ) (cells : List Slot) (old : Slot) (v : Value) (h : Held) → slice_get objects i ≡ Some cells → slice_get cells k ≡ Some old
      → put_part old.held j v ≡ Some h → (x y z : ℕ)
      → (with_part m (spot_of r i k) j (valued_part old j v)).parts (spot_of r x y) z
      ≡ part_in (slot_at (slice_set objects i (slice_set cells k (with_held old h))) x y) z
  parts_put i k j cells old v h object there set x y z =
      ap (λ b. if (b && (nat_eq x i && nat_eq y k)) && nat_eq z j then Some (valued_part old j v) else m.parts (spot_of r x y) z) (region_self r)
      ∙ by (nat_eq x i && nat_eq y k) refl
      ∙ ap (λ o. part_in o z) (sym (slot_put objects i k cells old (with_held old h) x y object there))
    where
      here : nat_eq x i && nat_eq y k ≡ true → slot_at objects x y ≡ Some old
      here both =
          let first : x ≡ i = grind (arith, nat_tests, both) in
          let second : y ≡ k = grind (arith, nat_tests, both) in
          ap (λ n. slot_at objects n y) first ∙ ap (λ n. slot_at objects i n) second ∙ ap (λ o. cell_in o k) object ∙ there

      by : (b : Bool) → nat_eq x i && nat_eq y k ≡ b
          → (if b && nat_eq z j then Some (valued_part old j v) else m.parts (spot_of r x y) z)
          ≡ part_in (if b then Some (with_held old h) else slot_at objects x y) z
      by true e =
          ap (λ p. if nat_eq z j then Some (valued_part old j v) else p) (shows.holds x y z ∙ ap (λ o. part_in o z) (here e))
          ∙ sym (part_set v old j h set z)
      by false e = shows.holds x y z

  -- one more object
  pub shows_grown : m.objects r ≡ length objects → (o : ℕ → ℕ → Option Part) (cells : List Slot) → ((k j : ℕ) → o k j ≡ part_in (slice_get cells k) j)
      → Shows (with_object m r o) r (objects ++ cells ∷ [])
  shows_grown counted o cells is = record {
    live = shows.live;
    holds = λ x y z.
        ap (λ b. if b && nat_eq x (m.objects r) then o y z else m.parts (spot_of r x y) z) (region_self r)
        ∙ ap (λ n. if nat_eq x n then o y z else m.parts (spot_of r x y) z) counted
        ∙ both (nat_eq x (length objects)) x y z
        ∙ ap (λ o. part_in (cell_in o y) z) (sym (get_grown objects cells x));
  }
    where
      both : (b : Bool) (x y z : ℕ) → (if b then o y z else m.parts (spot_of r x y) z)
          ≡ part_in (cell_in (if b then Some cells else slice_get objects x) y) z
      both true x y z = is y z
      both false x y z = shows.holds x y z
