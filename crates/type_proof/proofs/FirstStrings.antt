-- The strings have their chars at the start, behind the globals: so they are there before any constant is stored.
use Rattle.std.proofs.Common.{◌≡◌, ℕ, zero, suc, ◌+◌, ◌<◌, ◌≤◌, Bool, true, false, Some, None, List, [], ◌∷◌, ◌++◌, refl, sym, ◌∙◌, ap, subst, arith}
use Rattle.std.specs.Prelude.{◌%◌, map, length, nat_eq, slice_get, option_and_then, if◌then◌else◌}
use Rattle.std.proofs.lemmas.List.{length-append}
use Rattle.std.proofs.lemmas.Option.{slice_get_within, same_Some}
use Rattle.cyc_tree.specs.Tree as tree
use Rattle.cyc_tree.specs.Tree.{Item}
use Rattle.source_meaning.specs.Memory.{Spot, Scalar, Integer, AsChar, Object, Memory, beyond}
use Rattle.source_meaning.specs.Steps.{World}
use Rattle.source_meaning.specs.Places.{span_at, string_at}
use Rattle.source_meaning.specs.Strings.{Literal}
use Rattle.source_meaning.specs.Programs.{heap_spot, heap_alone, byte_cell, globals_from, global_objects, string_object, strings_from}
use Rattle.source_typing.specs.Types.{Char}
use Rattle.type_proof.specs.Flat.{Tables}
use Rattle.type_proof.proofs.invariant.Facts.{further, not_further}
use Rattle.type_proof.proofs.invariant.Invariant.{RunType, Kept, Reached, Ghost, Laid, Inv}
use Rattle.type_proof.proofs.invariant.Values.{laid_kept}
use Rattle.type_proof.proofs.Strings.{StringLaid, StringsLaid}
use Rattle.type_proof.proofs.statements.Begun.{HeldAt, Typed, held_typed, typed_laid}
use Rattle.type_proof.proofs.Started.{Ready}

-- ---- the chars of a string

abbrev chars : List ℕ → List RunType
chars bs = map (λ b. Char) bs

chars_held : (w : Ghost) (m : Memory) (s : Spot) (bs : List ℕ) → ((j : ℕ) → w.types (beyond s j) ≡ None)
    → ((j : ℕ) → m.cells (beyond s j) ≡ slice_get (map byte_cell bs) j) → HeldAt w m s (chars bs)
chars_held w m s [] none here = tt
chars_held w m s (b ∷ bs) none here = (
  record {
    none = sym (ap w.types (not_further s)) ∙ none 0;
    value = Integer AsChar (b % 256);
    is = sym (ap m.cells (not_further s)) ∙ here 0;
    typed = λ d w' by. record { word = b % 256; is = refl };
  },
  chars_held w m (beyond s 1) bs (λ j. ap w.types (further s 1 j (suc j) (omega arith)) ∙ none (suc j))
      (λ j. ap m.cells (further s 1 j (suc j) (omega arith)) ∙ here (suc j)),
)

-- each of them
chars_laid : (w : Ghost) (s : Spot) (bs : List ℕ) → Laid w s (chars bs) → (i : ℕ) → i < length bs → Laid w (beyond s i) (Char ∷ [])
chars_laid w s [] h i l = absurd (omega (arith, l))
chars_laid w s (b ∷ bs) h zero l = subst (λ (x : Spot). Laid w x (Char ∷ [])) (sym (not_further s)) (h.0, tt)
chars_laid w s (b ∷ bs) h (suc i) l =
    subst (λ (x : Spot). Laid w x (Char ∷ [])) (further s 1 i (suc i) (omega arith)) (chars_laid w (beyond s 1) bs h.1 i (omega (arith, l)))

string_laid : (w : Ghost) (k : ℕ) (s : Literal) → Laid w (heap_spot k) (chars (s.1 ++ 0 ∷ [])) → StringLaid w (span_at (length s.1 + 1) (heap_spot k))
string_laid w k s h = record {
  span = record { first = heap_spot k; count = length s.1 + 1; index = 0 };
  is = refl;
  in_heap = refl;
  laid = λ i l.
      let few : i < length (s.1 ++ 0 ∷ []) = subst (λ (n : ℕ). i < n) (sym (length-append s.1 (0 ∷ []))) l in
      subst (λ (j : ℕ). Laid w (beyond (heap_spot k) j) (Char ∷ [])) (omega arith) (chars_laid w (heap_spot k) (s.1 ++ 0 ∷ []) h i few);
}

-- ---- all strings

-- the ghost in which the strings have their types, which are numbered from k on; what lies before them is as it was
pub record StringsTyped (d : Tables) (w : Ghost) (m : Memory) (ss : List Literal) (k : ℕ) : Type 0 where
  pub ghost : Ghost
  pub inv : Inv d ghost m
  pub keeps : (y : Spot) (q : Kept) → w.types y ≡ Some q → ghost.types y ≡ Some q
  pub before : (y : Spot) → y.object < k → ghost.types y ≡ w.types y
  pub laid : StringsLaid ghost (strings_from ss k)

pub strings_typed : (d : Tables) (w : Ghost) (os : List Object) (ss : List Literal) (k : ℕ) → Inv d w (heap_alone os)
    → ((y : Spot) → k ≤ y.object → w.types y ≡ None) → ((i : ℕ) → slice_get os (k + i) ≡ slice_get (map string_object ss) i)
    → StringsTyped d w (heap_alone os) ss k
strings_typed d w os [] k i none h =
    record { ghost = w; inv = i; keeps = λ y q e. e; before = λ y l. refl; laid = λ at v e. absurd cc }
strings_typed d w os (s ∷ ss) k i none h =
    let m : Memory = heap_alone os in
    let o : Object = string_object s in
    let here : slice_get os k ≡ Some o = ap (slice_get os) (omega arith) ∙ h 0 in
    let z : Typed d 0 0 (λ u. Reached u) w m (heap_spot k) (chars (s.1 ++ 0 ∷ [])) =
    held_typed d 0 0 (λ u. Reached u) w m (heap_spot k) (chars (s.1 ++ 0 ∷ [])) (λ u. refl) i (slice_get_within os k o here)
    (chars_held w m (heap_spot k) (s.1 ++ 0 ∷ []) (λ j. none (beyond (heap_spot k) j) (omega arith))
    (λ j. ap (option_and_then (λ (y : Object). y (0 + j))) here ∙ ap (λ (c : ℕ). o c) (omega arith))) in
    let r : StringsTyped d z.ghost m ss (suc k) =
    strings_typed d z.ghost os ss (suc k) z.inv (λ y l. z.others y (λ e. omega (arith, l, e)) ∙ none y (omega (arith, l)))
    (λ j. ap (slice_get os) (omega arith) ∙ h (suc j)) in
    record {
      ghost = r.ghost;
      inv = r.inv;
      keeps = λ y q e. r.keeps y q (z.keeps y q e);
      before = λ y l. r.before y (omega (arith, l)) ∙ z.others y (λ e. omega (arith, l, e));
      laid = λ at v e. by r (typed_laid d 0 0 w m (heap_spot k) (chars (s.1 ++ 0 ∷ [])) z) at v (nat_eq s.0 at) e;
    }
  where
    kept_chars : (w0 w1 : Ghost) (at : Spot) (bs : List ℕ) → ((y : Spot) (q : Kept) → w0.types y ≡ Some q → w1.types y ≡ Some q) → Laid w0 at (chars bs)
        → Laid w1 at (chars bs)
    kept_chars w0 w1 at bs keep l = laid_kept w0 w1 at (chars bs) (λ y t e. keep y (Reached t) e) l

    by : {w0 : Ghost} (r : StringsTyped d w0 (heap_alone os) ss (suc k)) → Laid w0 (heap_spot k) (chars (s.1 ++ 0 ∷ [])) → (at : ℕ) (v : Scalar) (c : Bool)
        → (if c then Some (span_at (length s.1 + 1) (heap_spot k)) else string_at (strings_from ss (suc k)) at) ≡ Some v → StringLaid r.ghost v
    by {w0} r l at v true e =
        subst (λ (y : Scalar). StringLaid r.ghost y) (same_Some (span_at (length s.1 + 1) (heap_spot k)) v e)
        (string_laid r.ghost k s (kept_chars w0 r.ghost (heap_spot k) (s.1 ++ 0 ∷ []) r.keeps l))
    by r l at v false e = r.laid at v e

-- ---- behind the globals

-- so many objects are globals
pub globals_counted : (world : World) (items : List Item) (k : ℕ) → length (globals_from items k) ≡ length (global_objects world items)
globals_counted world [] k = refl
globals_counted world (tree.GlobalItem x ∷ items) k = ap suc (globals_counted world items (suc k))
globals_counted world (tree.StructItem s ∷ items) k = globals_counted world items k
globals_counted world (tree.UnionItem s ∷ items) k = globals_counted world items k
globals_counted world (tree.FunctionItem f ∷ items) k = globals_counted world items k

-- the globals wait for their constants as before
pub ready_before : (world : World) (items : List Item) (k : ℕ) (w w' : Ghost) (m : Memory)
    → ((y : Spot) → y.object < k + length (globals_from items k) → w'.types y ≡ w.types y) → Ready world items k w m → Ready world items k w' m
ready_before world [] k w w' m same h = tt
ready_before world (tree.GlobalItem x ∷ items) k w w' m same h = (
  λ j. same (beyond (heap_spot k) j) (omega arith) ∙ h.0 j,
  h.1,
  h.2,
  ready_before world items (suc k) w w' m (λ y l. same y (omega (arith, l))) h.3,
)
ready_before world (tree.StructItem s ∷ items) k w w' m same h = ready_before world items k w w' m same h
ready_before world (tree.UnionItem s ∷ items) k w w' m same h = ready_before world items k w w' m same h
ready_before world (tree.FunctionItem f ∷ items) k w w' m same h = ready_before world items k w w' m same h
