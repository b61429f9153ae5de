-- The globals have their first values before `main` is entered.
use Rattle.std.proofs.Common.{◌≡◌, ℕ, suc, ◌<◌, Bool, true, false, inl, Option, Some, None, List, [], ◌∷◌, refl, sym, ◌∙◌, ap, subst, arith}
use Rattle.std.specs.Prelude.{◌+◌, ◌%◌, length, map, slice_get, is_some, option_map}
use Rattle.cyc_tree.specs.Tree as tree
use Rattle.cyc_tree.specs.Tree.{Constant, Initial, Item}
use Rattle.source_meaning.specs.Shapes.{Reach, MayBeNull, NeverNull, may_be_null}
use Rattle.source_meaning.specs.Shapes.{Shape, CharShape, FatShape, written, settled}
use Rattle.source_meaning.specs.Memory as memory
use Rattle.source_meaning.specs.Memory.{
  Spot,
  Scalar,
  Integer,
  IntegerType,
  AsInt,
  AsUnsigned,
  AsChar,
  Holds,
  Blank,
  Live,
  Memory,
  array_of,
  beyond,
  first_cell,
  with_cell,
}
use Rattle.source_meaning.specs.Sizes.{repeated}
use Rattle.source_meaning.specs.Steps.{Variable, Binding, World, Act, give, ◌>>=◌, ◌>>◌, need}
use Rattle.source_meaning.specs.Conversions.{cells_of, converted}
use Rattle.source_meaning.specs.Values.{write_cell, write_cells}
use Rattle.source_meaning.specs.Places.{literal_string, own_string, string_at}
use Rattle.source_meaning.specs.Strings.{constant_strings, initial_strings, items_strings, program_strings}
use Rattle.source_meaning.specs.Programs.{heap_spot, globals_from, global_shape, constant_value, constant_shape, global_object, global_stored, globals_stored}
use Rattle.source_typing.specs.Types.{StaticType, Int, Unsigned, Char, Void, Null, Thin, Fat, Unique, Handle, Key, Struct, Union, integer_type, shape_of}
use Rattle.type_proof.specs.Flat.{Tables, flat}
pub use Rattle.type_proof.specs.Programs.{IsNullConstant, IsNumber, IsPointerConstant, IsFirst, InitialJudged, GlobalJudged}
use Rattle.source_typing.specs.Tables as typing
use Rattle.source_typing.specs.Tables.{What, OfValue, find, has_beginning}
use Rattle.type_proof.specs.Entries.{IsObjectType, IsWordType}
use Rattle.type_proof.proofs.invariant.Facts.{at_spot, same_at}
use Rattle.type_proof.proofs.invariant.Invariant.{RunType, heap, Flying, Kept, Reached, Ghost, Laid, AllLaid, HasType, HaveTypes, Inv}
use Rattle.type_proof.proofs.invariant.Values.{laid_kept, all_laid_kept}
use Rattle.type_proof.proofs.invariant.Layouts.{Structs, agrees, all_begin, cells_begin}
use Rattle.type_proof.proofs.invariant.Rows.{laid_all, array_row}
use Rattle.type_proof.proofs.Strings.{AreFound, StringsLaid, found_parts, strings_kept, own_string_typed}
use Rattle.type_proof.proofs.expressions.Converting.{fat_thin_goes, fat_goes}
use Rattle.type_proof.proofs.invariant.Runs.{Runs}
use Rattle.type_proof.proofs.invariant.Cells.{cell, typed_is, seen, runs_write}
use Rattle.type_proof.proofs.invariant.Objects.{filled, inv_filled}
use Rattle.type_proof.proofs.invariant.Names.{NameOf}
use Rattle.type_proof.proofs.invariant.Sound.{shape_renamed}
use Rattle.type_proof.proofs.Entries.{run_type}
use Rattle.type_proof.proofs.GlobalTypes.{held_type, GlobalsTyped}
use Rattle.type_proof.proofs.statements.Begun.{Typed, cells_typed, typed_laid, begun_slice}

-- ---- the memory before a global is stored, and after

-- the cells of the globals, numbered from k on, are there and have no type yet
abbrev pub Ready : World → List Item → ℕ → Ghost → Memory → Type 0
Ready world [] k w m = Unit {0}
Ready world (tree.GlobalItem x ∷ items) k w m =
    ((j : ℕ) → w.types (beyond (heap_spot k) j) ≡ None)
    × ((j : ℕ) → m.cells (beyond (heap_spot k) j) ≡ global_object world x.initial (settled (written x.of)) j) × (k < m.objects heap)
    × Ready world items (suc k) w m
Ready world (tree.StructItem s ∷ items) k w m = Ready world items k w m
Ready world (tree.UnionItem s ∷ items) k w m = Ready world items k w m
Ready world (tree.FunctionItem f ∷ items) k w m = Ready world items k w m

-- the cells of a global, or of each element of a global array
abbrev pub InitialLaid : Tables → Ghost → Initial → StaticType → Spot → Type 0
InitialLaid d w Initial.Unset t at = Laid w at (flat heap d (run_type t))
InitialLaid d w (Initial.Elements count) t at = AllLaid w at count (flat heap d (run_type t))
InitialLaid d w (Initial.Given c) t at = Laid w at (flat heap d (run_type t))

initial_kept : (d : Tables) (w w' : Ghost) (i : Initial) (t : StaticType) (at : Spot)
    → ((s : Spot) (u : RunType) → w.types s ≡ Some (Reached u) → w'.types s ≡ Some (Reached u)) → InitialLaid d w i t at → InitialLaid d w' i t at
initial_kept d w w' Initial.Unset t at keep h = laid_kept w w' at (flat heap d (run_type t)) keep h
initial_kept d w w' (Initial.Elements count) t at keep h = all_laid_kept w w' at count (flat heap d (run_type t)) keep h
initial_kept d w w' (Initial.Given c) t at keep h = laid_kept w w' at (flat heap d (run_type t)) keep h

-- a variable, or an array, whose cells are there
pub record TypedEntity (d : Tables) (tables : typing.Tables) (w : Ghost) (b : Binding) : Type 0 where
  pub type : StaticType
  pub initial : Initial
  pub at : Spot
  pub is : b.entity ≡ Variable (global_shape initial (shape_of type)) at
  -- its type is the one that the tables have, if that has its shape
  pub same : (v : What) (t : StaticType) → find tables b.name ≡ Some (OfValue v) → held_type v ≡ Some t → shape_of t ≡ shape_of type → t ≡ type
  pub in_heap : at.region ≡ heap
  pub laid : InitialLaid d w initial type at

abbrev pub EachTyped : Tables → typing.Tables → Ghost → List Binding → Type 0
EachTyped d tables w [] = Unit {0}
EachTyped d tables w (b ∷ bs) = TypedEntity d tables w b × EachTyped d tables w bs

-- types that are there stay
abbrev pub Keeps : Ghost → Ghost → Type 0
Keeps w w' = (s : Spot) (k : Kept) → w.types s ≡ Some k → w'.types s ≡ Some k

-- where one object alone was changed, the later ones are as they were
ready_later : (world : World) (items : List Item) (j k : ℕ) (w : Ghost) (m : Memory) (w' : Ghost) (m' : Memory) → j < k
    → ((y : Spot) → (y.object ≡ j → ⊥) → w'.types y ≡ w.types y) → ((y : Spot) → (y.object ≡ j → ⊥) → m'.cells y ≡ m.cells y)
    → m'.objects heap ≡ m.objects heap → Ready world items k w m → Ready world items k w' m'
ready_later world [] j k w m w' m' l types cells objects h = tt
ready_later world (tree.GlobalItem g ∷ items) j k w m w' m' l types cells objects h = (
  λ c. types (beyond (heap_spot k) c) (λ e. omega (arith, l, e)) ∙ h.0 c,
  λ c. cells (beyond (heap_spot k) c) (λ e. omega (arith, l, e)) ∙ h.1 c,
  (let there : k < m.objects heap = h.2 in omega (arith, objects, there)),
  ready_later world items j (suc k) w m w' m' (omega (arith, l)) types cells objects h.3,
)
ready_later world (tree.StructItem s ∷ items) j k w m w' m' l types cells objects h = ready_later world items j k w m w' m' l types cells objects h
ready_later world (tree.UnionItem s ∷ items) j k w m w' m' l types cells objects h = ready_later world items j k w m w' m' l types cells objects h
ready_later world (tree.FunctionItem f ∷ items) j k w m w' m' l types cells objects h = ready_later world items j k w m w' m' l types cells objects h

keeps_filled : (w : Ghost) (s : Spot) (t : Kept) → w.types s ≡ None → Keeps w (filled s t 0 0 w)
keeps_filled w s t none y q e = at_spot w.types s (Some t) y (λ z. z ≡ Some q) (λ z. absurd (let a = ap w.types z in cc)) (λ z. e)

word_typed : (d : Tables) (w : Ghost) (s : IntegerType) (x : ℕ) → HasType d w (Flying 0 0) (Integer s x) (run_type (integer_type s))
word_typed d w AsInt x = record { word = x; is = refl }
word_typed d w AsUnsigned x = record { word = x; is = refl }
word_typed d w AsChar x = record { word = x; is = refl }

-- a value that is stored where nothing was
runs_stored : {B : Type 0} (d : Tables) (n : ℕ) (w : Ghost) (m : Memory) (s : Spot) (t : RunType) (v : Scalar) (g : Act B) (Q : B → Memory → Type 0) → Inv d w m
    → m.state s.region ≡ Live → w.types s ≡ None → s.object < m.objects s.region → m.cells s ≡ Some (cell t Blank) → HasType d w (Flying 0 0) v t
    → (Inv d (filled s (Reached t) 0 0 w) (with_cell m s (cell t (Holds v))) → Runs n g (with_cell m s (cell t (Holds v))) Q)
    → Runs n (write_cell s v >> g) m Q
runs_stored d n w m s t v g Q i l none there blank typed go =
    runs_write n s (shape_of t) Blank v g m Q (seen m s _ l blank) refl (typed_is d w (Flying 0 0) v t typed)
    (go (inv_filled d w m s (Reached t) 0 0 v i none there typed))

-- the one cell of a word, to which nothing was stored yet
begins_blank : (world : World) (c : Constant) (t : StaticType) → IsWordType t
    → global_object world (Initial.Given c) (shape_of t) 0 ≡ Some (cell (run_type t) Blank)
begins_blank world c Int e = refl
begins_blank world c Unsigned e = refl
begins_blank world c Char e = refl
begins_blank world c Void e = absurd e
begins_blank world c Null e = absurd e
begins_blank world c (Thin n r t) e = ap (λ (s : Shape). Some (record { shape = s; content = Blank })) (sym (shape_renamed (λ (a : NameOf). heap) (Thin n r t)))
begins_blank world c (Fat r t) e = ap (λ (s : Shape). Some (record { shape = s; content = Blank })) (sym (shape_renamed (λ (a : NameOf). heap) (Fat r t)))
begins_blank world c (Unique n t) e = ap (λ (s : Shape). Some (record { shape = s; content = Blank })) (sym (shape_renamed (λ (a : NameOf). heap) (Unique n t)))
begins_blank world c (Handle r) e = absurd e
begins_blank world c (Key r) e = absurd e
begins_blank world c (Struct tag rs) e = absurd e
begins_blank world c (Union tag rs) e = absurd e

laid_one : (d : Tables) (w : Ghost) (t : StaticType) (at : Spot) → IsWordType t → w.types at ≡ Some (Reached (run_type t))
    → Laid w at (flat heap d (run_type t))
laid_one d w Int at word e = (e, tt)
laid_one d w Unsigned at word e = (e, tt)
laid_one d w Char at word e = (e, tt)
laid_one d w Void at word e = absurd word
laid_one d w Null at word e = absurd word
laid_one d w (Thin n r t) at word e = (e, tt)
laid_one d w (Fat r t) at word e = (e, tt)
laid_one d w (Unique n t) at word e = (e, tt)
laid_one d w (Handle r) at word e = absurd word
laid_one d w (Key r) at word e = absurd word
laid_one d w (Struct tag rs) at word e = absurd word
laid_one d w (Union tag rs) at word e = absurd word

-- chars are known by their shape
char_shaped : (t : StaticType) → IsObjectType t → shape_of t ≡ CharShape → t ≡ Char
char_shaped Char e z = refl
char_shaped Int e z = absurd cc
char_shaped Unsigned e z = absurd cc
char_shaped Void e z = absurd e
char_shaped Null e z = absurd e
char_shaped (Thin n r t) e z = absurd cc
char_shaped (Fat r t) e z = absurd cc
char_shaped (Unique n t) e z = absurd cc
char_shaped (Handle r) e z = absurd cc
char_shaped (Key r) e z = absurd cc
char_shaped (Struct tag rs) e z = absurd cc
char_shaped (Union tag rs) e z = absurd cc

-- ---- one global, and all of them

module _ {B : Type 0} (d : Tables) (n : ℕ) (world : World) (tables : typing.Tables) (structs : Structs d world tables) (Q : B → Memory → Type 0) where
  global_cells : (u : StaticType) → cells_of world (shape_of u) ≡ map shape_of (flat heap d (run_type u))
  global_cells u = ap (cells_of world) (sym (shape_renamed (λ (a : NameOf). heap) u)) ∙ agrees d world tables structs (run_type u)

  -- a global gets its value, and its cells their types
  runs_one : (i : Initial) (u : StaticType) (items : List Item) (k : ℕ) (w : Ghost) (m : Memory) (rest : Act B) → IsObjectType u
      → has_beginning tables u ≡ true → InitialJudged u i → AreFound world.strings (initial_strings i) → StringsLaid w world.strings → Inv d w m
      → ((j : ℕ) → w.types (beyond (heap_spot k) j) ≡ None)
      → ((j : ℕ) → m.cells (beyond (heap_spot k) j) ≡ global_object world i (shape_of u) j) → k < m.objects heap → Ready world items (suc k) w m
      → ((w' : Ghost) (m' : Memory) → Inv d w' m' → Keeps w w' → InitialLaid d w' i u (heap_spot k) → Ready world items (suc k) w' m'
      → Runs n rest m' Q)
      → Runs n (global_stored world i (shape_of u) (heap_spot k) >> rest) m Q
  runs_one (Initial.Elements c) u items k w m rest e b j f laid i none there l ready go = record {
    by = λ next q. (go z.ghost m z.inv z.keeps (laid_all z.ghost (heap_spot k) c (flat heap d (run_type u))
        (typed_laid d 0 0 w m (heap_spot k) (repeated c (flat heap d (run_type u))) z))
        (ready_later world items k (suc k) w m z.ghost m (omega arith) z.others (λ y p. refl) refl ready)).by next q;
  }
    where
      z : Typed d 0 0 (λ u. Reached u) w m (heap_spot k) (repeated c (flat heap d (run_type u)))
      z = cells_typed d 0 0 (λ u. Reached u) w m (heap_spot k) (repeated c (flat heap d (run_type u))) (λ u. refl) i l
          (all_begin c (flat heap d (run_type u)) (cells_begin d world tables (λ a. heap) u structs e b))
          (begun_slice w m (heap_spot k) (repeated c (flat heap d (run_type u))) none
          (λ j. there j ∙ (ap (λ (ss : List Shape). array_of c (map first_cell ss) j) (global_cells u) ∙ array_row first_cell c (flat heap d (run_type u)) j)))
  runs_one Initial.Unset u items k w m rest e b j f laid i none there l ready go = record {
    by = λ next q. (go z.ghost m z.inv z.keeps (typed_laid d 0 0 w m (heap_spot k) (flat heap d (run_type u)) z)
        (ready_later world items k (suc k) w m z.ghost m (omega arith) z.others (λ y p. refl) refl ready)).by next q;
  }
    where
      z : Typed d 0 0 (λ u. Reached u) w m (heap_spot k) (flat heap d (run_type u))
      z = cells_typed d 0 0 (λ u. Reached u) w m (heap_spot k) (flat heap d (run_type u)) (λ u. refl) i l (cells_begin d world tables (λ a. heap) u structs e b)
          (begun_slice w m (heap_spot k) (flat heap d (run_type u)) none
          (λ c. there c ∙ ap (λ (ss : List Shape). slice_get (map first_cell ss) c) (global_cells u)))
  runs_one (Initial.Given c) u items k w m rest e b j f strings i none there l ready go = by u e j (there 0) go b
    where
      Going : StaticType → Type 0
      Going u = (w' : Ghost) (m' : Memory) → Inv d w' m' → Keeps w w' → Laid w' (heap_spot k) (flat heap d (run_type u)) → Ready world items (suc k) w' m'
          → Runs n rest m' Q

      store : (u : StaticType) (v : Scalar) → IsWordType u → HasType d w (Flying 0 0) v (run_type u)
          → m.cells (heap_spot k) ≡ global_object world (Initial.Given c) (shape_of u) 0 → Going u → Runs n (write_cell (heap_spot k) v >> rest) m Q
      store u v e typed there go =
          let w1 : Ghost = filled (heap_spot k) (Reached (run_type u)) 0 0 w in
          let m1 : Memory = with_cell m (heap_spot k) (cell (run_type u) (Holds v)) in
          runs_stored d n w m (heap_spot k) (run_type u) v rest Q i i.heap_lives (none 0) l (there ∙ begins_blank world c u e) typed (λ i1.
          go w1 m1 i1 (keeps_filled w (heap_spot k) (Reached (run_type u)) (none 0))
          (laid_one d w1 u (heap_spot k) e (same_at (heap_spot k) (Some (Reached (run_type u))) (w.types (heap_spot k))))
          (ready_later world items k (suc k) w m w1 m1 (omega arith)
          (λ y p. at_spot w.types (heap_spot k) (Some (Reached (run_type u))) y (λ z. z ≡ w.types y) (λ z. absurd (p (ap (λ (s : Spot). s.object) z)))
          (λ z. refl))
          (λ y p. at_spot m.cells (heap_spot k) (Some (cell (run_type u) (Holds v))) y (λ z. z ≡ m.cells y)
          (λ z. absurd (p (ap (λ (s : Spot). s.object) z))) (λ z. refl)) refl ready))

      -- the act that stores a constant's value
      storing : Shape → Act Scalar → Act B
      storing s a = (a >>= λ v. converted world s (constant_shape c) (v ∷ []) >>= λ vs. write_cells (heap_spot k) vs) >> rest

      number : (u : IntegerType) → (x : IsNumber c) → m.cells (heap_spot k) ≡ global_object world (Initial.Given c) (shape_of (integer_type u)) 0
          → Going (integer_type u)
          → Runs n (storing (shape_of (integer_type u)) (give (Integer x.of x.word))) m Q
      number AsInt x there go = record { by = λ next q. (store Int (Integer AsInt x.word) tt (word_typed d w AsInt x.word) there go).by next q }
      number AsUnsigned x there go = record {
        by = λ next q. (store Unsigned (Integer AsUnsigned x.word) tt (word_typed d w AsUnsigned x.word) there go).by next
            q;
      }
      number AsChar x there go = record {
        by = λ next q. (store Char (Integer AsChar (x.word % 256)) tt (word_typed d w AsChar (x.word % 256)) there go).by next
            q;
      }

      -- a string's value is converted, and what that gives is stored
      word_goes : (u : StaticType) → IsWordType u → m.cells (heap_spot k) ≡ global_object world (Initial.Given c) (shape_of u) 0 → Going u
          → (us : List Scalar) → HaveTypes d w (λ j. Flying 0 0) us (run_type u ∷ []) → Runs n (write_cells (heap_spot k) us >> rest) m Q
      word_goes u e there go [] x = absurd x
      word_goes u e there go (v ∷ a ∷ us) x = absurd x.1
      word_goes u e there go (v ∷ []) x = record { by = λ next q. (store u v e x.0 there go).by next q }

      text : (s : Shape) (at : ℕ) (bytes : List ℕ) → AreFound world.strings ((at, []) ∷ [])
          → ((v : Scalar) → HasType d w (Flying 0 0) v (Fat heap Char)
          → Runs n (converted world s (FatShape CharShape) (v ∷ []) >>= λ vs. write_cells (heap_spot k) vs >> rest) m Q)
          → Runs n ((need (literal_string world.strings at bytes) >>= λ v. converted world s (FatShape CharShape) (v ∷ []) >>= λ vs.
          write_cells (heap_spot k) vs) >> rest)
          m Q
      text s at bytes h go = by_value (string_at world.strings at) refl h.0
        where
          by_value : (o : Option Scalar) → string_at world.strings at ≡ o → is_some o ≡ true
              → Runs n ((need (option_map (own_string (length bytes + 1)) o) >>= λ v. converted world s (FatShape CharShape) (v ∷ []) >>= λ vs.
              write_cells (heap_spot k) vs) >> rest) m Q
          by_value None z y = absurd cc
          by_value (Some v) z y = record {
            by = λ next q.
                (go (own_string (length bytes + 1) v) (own_string_typed d w m (Flying 0 0) (length bytes + 1) v i (strings at v z))).by next q;
          }

      text_thin : (b : ℕ) (r : NameOf) (t : StaticType) (at : ℕ) (bytes : List ℕ) → t ≡ Char → AreFound world.strings ((at, []) ∷ [])
          → m.cells (heap_spot k) ≡ global_object world (Initial.Given c) (shape_of (Thin (MayBeNull b) r t)) 0 → Going (Thin (MayBeNull b) r t)
          → Runs n ((need (literal_string world.strings at bytes) >>= λ v. converted world (shape_of (Thin (MayBeNull b) r t)) (FatShape CharShape)
          (v ∷ []) >>= λ vs.
          write_cells (heap_spot k) vs) >> rest) m Q
      text_thin b r t at bytes is h =
          subst (λ (u : StaticType). m.cells (heap_spot k) ≡ global_object world (Initial.Given c) (shape_of (Thin (MayBeNull b) r u)) 0
          → Going (Thin (MayBeNull b) r u)
          → Runs n ((need (literal_string world.strings at bytes) >>= λ v. converted world (shape_of (Thin (MayBeNull b) r u)) (FatShape CharShape)
          (v ∷ []) >>= λ vs.
          write_cells (heap_spot k) vs) >> rest) m Q) (sym is)
          (λ there go. text (shape_of (Thin (MayBeNull b) r Char)) at bytes h (λ v typed.
          fat_thin_goes n d world (λ a. heap) w m (λ j. Flying 0 0) i Q (λ vs. write_cells (heap_spot k) vs >> rest) (MayBeNull b) r r Char (v ∷ []) tt
          (agrees d world tables structs) (λ a z. z) (typed, tt) (word_goes (Thin (MayBeNull b) r Char) tt there go)))

      text_fat : (r : NameOf) (t : StaticType) (at : ℕ) (bytes : List ℕ) → t ≡ Char → AreFound world.strings ((at, []) ∷ [])
          → m.cells (heap_spot k) ≡ global_object world (Initial.Given c) (shape_of (Fat r t)) 0 → Going (Fat r t)
          → Runs n ((need (literal_string world.strings at bytes) >>= λ v. converted world (shape_of (Fat r t)) (FatShape CharShape) (v ∷ []) >>= λ vs.
          write_cells (heap_spot k) vs) >> rest) m Q
      text_fat r t at bytes is h = subst (λ (u : StaticType). m.cells (heap_spot k) ≡ global_object world (Initial.Given c) (shape_of (Fat r u)) 0
          → Going (Fat r u)
          → Runs n ((need (literal_string world.strings at bytes) >>= λ v. converted world (shape_of (Fat r u)) (FatShape CharShape) (v ∷ []) >>= λ vs.
          write_cells (heap_spot k) vs) >> rest) m Q) (sym is)
          (λ there go. text (shape_of (Fat r Char)) at bytes h (λ v typed.
          fat_goes n d world (λ a. heap) w m (λ j. Flying 0 0) i Q (λ vs. write_cells (heap_spot k) vs >> rest) r r Char (v ∷ []) tt
          (λ a z. z) (typed, tt) (word_goes (Fat r Char) tt there go)))

      null : (b : ℕ) (r : NameOf) (t : StaticType) → IsObjectType t → (y : Constant) → IsPointerConstant (shape_of t) y
          → AreFound world.strings (constant_strings y)
          → m.cells (heap_spot k) ≡ global_object world (Initial.Given c) (shape_of (Thin (MayBeNull b) r t)) 0 → Going (Thin (MayBeNull b) r t)
          → Runs n ((constant_value world.strings y >>= λ v. converted world (shape_of (Thin (MayBeNull b) r t)) (constant_shape y) (v ∷ []) >>= λ vs.
          write_cells (heap_spot k) vs) >> rest) m Q
      null b r t e (Constant.Null at) x h there go =
          record { by = λ next q. (store (Thin (MayBeNull b) r t) (memory.Thin None) e (inl (record { allowed = refl; is = refl })) there go).by next q }
      null b r t e (Constant.Number at y suffix) x h there go = absurd x
      null b r t e (Constant.Negative at y suffix) x h there go = absurd x
      null b r t e (Constant.Character at byte) x h there go = absurd x
      null b r t e (Constant.Text at bytes) x h there go = text_thin b r t at bytes (char_shaped t e x) (h.0, tt) there go

      alone : (z : Bool) (t : StaticType) → IsObjectType t → z ≡ true → (y : Constant) → IsNullConstant y
          → m.cells (heap_spot k) ≡ global_object world (Initial.Given c) (shape_of {R = NameOf} (Unique z t)) 0 → Going (Unique z t)
          → Runs n ((constant_value world.strings y >>= λ v. converted world (shape_of {R = NameOf} (Unique z t)) (constant_shape y) (v ∷ []) >>= λ vs.
          write_cells (heap_spot k) vs) >> rest) m Q
      alone false t e z y x there go = absurd cc
      alone true t e z (Constant.Null at) x there go =
          record { by = λ next q. (store (Unique true t) (memory.Thin None) e (inl (record { allowed = refl; is = refl })) there go).by next q }
      alone true t e z (Constant.Number at y suffix) x there go = absurd x
      alone true t e z (Constant.Negative at y suffix) x there go = absurd x
      alone true t e z (Constant.Character at byte) x there go = absurd x
      alone true t e z (Constant.Text at bytes) x there go = absurd x

      fat : (r : NameOf) (t : StaticType) → IsObjectType t → (y : Constant) → IsPointerConstant (shape_of t) y → AreFound world.strings (constant_strings y)
          → m.cells (heap_spot k) ≡ global_object world (Initial.Given c) (shape_of (Fat r t)) 0 → Going (Fat r t)
          → Runs n ((constant_value world.strings y >>= λ v. converted world (shape_of (Fat r t)) (constant_shape y) (v ∷ []) >>= λ vs.
          write_cells (heap_spot k) vs) >> rest) m Q
      fat r t e (Constant.Null at) x h there go = record { by = λ next q. (store (Fat r t) (memory.Wide None) e (inl refl) there go).by next q }
      fat r t e (Constant.Number at y suffix) x h there go = absurd x
      fat r t e (Constant.Negative at y suffix) x h there go = absurd x
      fat r t e (Constant.Character at byte) x h there go = absurd x
      fat r t e (Constant.Text at bytes) x h there go = text_fat r t at bytes (char_shaped t e x) (h.0, tt) there go

      pointer : (z : Reach) (r : NameOf) (t : StaticType) → IsObjectType t → may_be_null z ≡ true → IsPointerConstant (shape_of t) c
          → m.cells (heap_spot k) ≡ global_object world (Initial.Given c) (shape_of (Thin z r t)) 0 → Going (Thin z r t)
          → Runs n (storing (shape_of (Thin z r t)) (constant_value world.strings c)) m Q
      pointer (MayBeNull b) r t e z x there go = null b r t e c x f there go
      pointer (NeverNull b) r t e z x there go = absurd cc

      by : (u : StaticType) → IsObjectType u → IsFirst u c → m.cells (heap_spot k) ≡ global_object world (Initial.Given c) (shape_of u) 0 → Going u
          → has_beginning tables u ≡ true → Runs n (storing (shape_of u) (constant_value world.strings c)) m Q
      by Int e x there go b = subst (λ (a : Act Scalar). Runs n (storing (shape_of {R = NameOf} Int) a) m Q) (sym (x.gives world.strings))
          (number AsInt x there go)
      by Unsigned e x there go b =
          subst (λ (a : Act Scalar). Runs n (storing (shape_of {R = NameOf} Unsigned) a) m Q) (sym (x.gives world.strings)) (number AsUnsigned x there go)
      by Char e x there go b = subst (λ (a : Act Scalar). Runs n (storing (shape_of {R = NameOf} Char) a) m Q) (sym (x.gives world.strings))
          (number AsChar x there go)
      by Void e x there go b = absurd e
      by Null e x there go b = absurd e
      by (Thin z r t) e x there go b = pointer z r t e b x there go
      by (Fat r t) e x there go b = fat r t e c x f there go
      by (Unique z t) e x there go b = alone z t e b c x there go
      by (Handle r) e x there go b = absurd x
      by (Key r) e x there go b = absurd x
      by (Struct tag rs) e x there go b = absurd x
      by (Union tag rs) e x there go b = absurd x

  -- all globals get their values before what follows
  pub runs_globals : (items : List Item) (k : ℕ) (w : Ghost) (m : Memory) (rest : Act B) → GlobalsTyped tables items
      → AreFound world.strings (program_strings items) → StringsLaid w world.strings → Inv d w m → Ready world items k w m
      → ((w' : Ghost) (m' : Memory) → Inv d w' m' → Keeps w w' → EachTyped d tables w' (globals_from items k) → Runs n rest m' Q)
      → Runs n (globals_stored world items k >> rest) m Q
  runs_globals [] k w m rest j f strings i ready go = record { by = λ next q. (go w m i (λ s t e. e) tt).by next q }
  runs_globals (tree.GlobalItem x ∷ items) k w m rest j f strings i ready go =
      let u : StaticType = j.0.judged.type in
      let found : AreFound world.strings (initial_strings x.initial) × AreFound world.strings (program_strings items) =
      found_parts world.strings (initial_strings x.initial) (program_strings items) f in
      let one = runs_one x.initial u items k w m (globals_stored world items (suc k) >> rest) j.0.judged.object j.0.judged.begins j.0.judged.initial found.0
      strings i ready.0
      (λ c. ready.1 c ∙ ap (λ (s : Shape). global_object world x.initial s c) j.0.judged.shape) ready.2 ready.3
      (λ w1 m1 i1 keeps laid ready1. runs_globals items (suc k) w1 m1 rest j.1 found.1
      (strings_kept w w1 world.strings (λ s t e. keeps s (Reached t) e) strings) i1 ready1 (λ w2 m2 i2 keeps2 each.
      go w2 m2 i2 (λ s t e. keeps2 s t (keeps s t e)) (
        record {
          type = u;
          initial = x.initial;
          at = heap_spot k;
          is = ap (λ (s : Shape). Variable (global_shape x.initial s) (heap_spot k)) j.0.judged.shape;
          same = j.0.same;
          in_heap = refl;
          laid = initial_kept d w1 w2 x.initial u (heap_spot k) (λ s t e. keeps2 s (Reached t) e) laid;
        },
        each,
      ))) in
      subst (λ (s : Shape). Runs n ((global_stored world x.initial s (heap_spot k) >> globals_stored world items (suc k)) >> rest) m Q) (sym j.0.judged.shape)
      (record { by = λ next q. one.by next q })
  runs_globals (tree.StructItem s ∷ items) k w m rest j f strings i ready go = runs_globals items k w m rest j f strings i ready go
  runs_globals (tree.UnionItem s ∷ items) k w m rest j f strings i ready go = runs_globals items k w m rest j f strings i ready go
  runs_globals (tree.FunctionItem q ∷ items) k w m rest j f strings i ready go =
      runs_globals items k w m rest j (found_parts world.strings (items_strings q.body) (program_strings items) f).1 strings i ready go
