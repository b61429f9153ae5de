-- The strings of a program are fat pointers to objects of its data, behind the globals' objects.
use Rattle.std.proofs.Common.{◌≡◌, ℕ, suc, ◌+◌, ◌^◌, ◌<◌, ◌≤◌, List, [], ◌∷◌, length, map, Option, Some, None, refl, sym, subst, arith}
use Rattle.std.proofs.Common.{length-append}
use Rattle.std.proofs.lemmas.List.{length-map}
use Rattle.cyc_tree.specs.Tree as tree
use Rattle.cyc_tree.specs.Tree.{Item}
use Rattle.source_meaning.specs.Memory.{Scalar}
use Rattle.source_meaning.specs.Steps.{World}
use Rattle.source_meaning.specs.Places.{span_at, string_at}
use Rattle.source_meaning.specs.Strings.{Literal, program_strings}
use Rattle.source_meaning.specs.Programs.{heap_spot, globals_from, strings_from, world_of}
use Rattle.source_lowering.specs.Lowered.{text_code}
use Rattle.source_lowering.specs.Programs.{data_of, string_datum, program_code}
use Rattle.source_lowering.specs.Lowerable.{AreStrings, IsLowerable}
use Rattle.source_lowering.specs.Simulation.{AllStrings}
use Rattle.source_lowering.proofs.Texts.{string_found}
use Rattle.selectable_proof.specs.Naming.{CodeNames}

-- a fat pointer to the first of so many characters, whose object is one of the first
pub record IsTextIn (n : ℕ) (v : Scalar) : Type 0 where
  pub number : ℕ
  pub count : ℕ
  pub value : v ≡ span_at count (heap_spot number)
  pub there : number < n
  pub few : count < 2 ^ 32

abbrev pub TextsLie : ℕ → List (ℕ × Scalar) → Type 0
TextsLie n ss = AllStrings (λ v. IsTextIn n v) ss

texts_lie : (ss : List Literal) (k n : ℕ) → AreStrings ss → k + length ss ≤ n → TextsLie n (strings_from ss k)
texts_lie [] k n h f = tt
texts_lie (s ∷ ss) k n h f = (
  record { number = k; count = length s.1 + 1; value = refl; there = omega (arith, f); few = h.0 },
  texts_lie ss (suc k) n h.1 (omega (arith, f)),
)

-- a string's code names its object
pub text_names : (blocks : List ℕ) (own n d at : ℕ) (ss : List (ℕ × Scalar)) → TextsLie n ss → CodeNames blocks own n (text_code (string_at ss at) d)
text_names blocks own n d at ss lie = by (string_at ss at) refl
  where
    by : (found : Option Scalar) → string_at ss at ≡ found → CodeNames blocks own n (text_code found d)
    by None e = tt
    by (Some v) e =
        let text = string_found (λ z. IsTextIn n z) ss at v lie e in
        subst (λ z. CodeNames blocks own n (text_code (Some z) d)) (sym text.value) (text.there, (tt, (tt, tt)))

-- the globals have as many objects as names
globals_many : (w : World) (items : List Item) (k : ℕ) → length (globals_from items k) ≡ length (data_of w items)
globals_many w [] k = refl
globals_many w (tree.StructItem s ∷ items) k = globals_many w items k
globals_many w (tree.UnionItem u ∷ items) k = globals_many w items k
globals_many w (tree.FunctionItem f ∷ items) k = globals_many w items k
globals_many w (tree.GlobalItem g ∷ items) k = let h = globals_many w items (suc k) in omega (arith, h)

-- each of a program is in its data
pub program_texts : (p : tree.Program) → IsLowerable p → TextsLie (length (program_code p).data_objects) (world_of p).strings
program_texts p h =
    texts_lie (program_strings p) (length (globals_from p 0)) (length (program_code p).data_objects) h.strings (omega (arith, many, strings, globals))
  where
    w : World
    w = world_of p

    many : length (program_code p).data_objects ≡ length (data_of w p) + length (map (string_datum w) (program_strings p))
    many = length-append (data_of w p) (map (string_datum w) (program_strings p))

    strings : length (map (string_datum w) (program_strings p)) ≡ length (program_strings p)
    strings = length-map (program_strings p) (string_datum w)

    globals : length (globals_from p 0) ≡ length (data_of w p)
    globals = globals_many w p 0
