-- Where the rules find `main`, it is a function of the program, and one of the functions of its Core.
use Rattle.std.specs.Prelude.{bytes_eq, codes, if◌then◌else◌, length}
use Rattle.std.proofs.Common.{◌≡◌, ℕ, suc, ◌<◌, Bool, true, false, Option, Some, List, [], ◌∷◌, refl, ap, ◌∙◌, arith}
use Rattle.cyc_tree.specs.Tree as tree
use Rattle.cyc_tree.specs.Tree.{Item}
use Rattle.source_meaning.specs.Calls.{function_of}
use Rattle.source_meaning.specs.Steps.{Routine}
use Rattle.source_lowering.specs.Lowered.{number_of}
use Rattle.source_typing.specs.Functions.{head_of}
use Rattle.source_typing.specs.Globals.{global_entry}
use Rattle.source_typing.specs.Programs.{Judged, entries_with, main_found, main_is}
use Rattle.source_typing.specs.Scope.{at_item}
use Rattle.source_typing.specs.Tables.{Entry, OfFunction, Tables, find}
use Rattle.accepted_proof.proofs.Found.{AllKnown}

-- ---- `main` among them

-- the function that has the name first
pub record MainHere (h : Tables) (i : ℕ) (js : List Judged) (is : List Item) : Type 0 where
  pub function : tree.Function
  pub found : find (entries_with false h i js is) (codes "main") ≡ Some (OfFunction (head_of false h function).signature)

pub find_main : (g h : Tables) (i : ℕ) (js : List Judged) (is : List Item) → AllKnown g h i js is → main_found is ≡ [] → MainHere h i js is
find_main g h i js [] k e = absurd cc
find_main g h i [] (x ∷ is) k e = absurd k
find_main g h i (j ∷ js) (tree.StructItem y ∷ is) k e =
    by (bytes_eq y.tag.text (codes "main")) refl (λ p. find_main g h (suc i) js is k.1 p) e
  where
    by : (b : Bool) → bytes_eq y.tag.text (codes "main") ≡ b → (main_found is ≡ [] → MainHere h (suc i) js is)
        → (if b then main_is (tree.StructItem y) y.tag.at else main_found is) ≡ [] → MainHere h i (j ∷ js) (tree.StructItem y ∷ is)
    by true q others p = absurd cc
    by false q others p =
        let rest : MainHere h (suc i) js is = others p in
        record {
          function = rest.function;
          found = ap (λ (b : Bool). if b then Some j.entry.entry else find (entries_with false h (suc i) js is) (codes "main")) q ∙ rest.found;
        }
find_main g h i (j ∷ js) (tree.UnionItem y ∷ is) k e =
    by (bytes_eq y.tag.text (codes "main")) refl (λ p. find_main g h (suc i) js is k.1 p) e
  where
    by : (b : Bool) → bytes_eq y.tag.text (codes "main") ≡ b → (main_found is ≡ [] → MainHere h (suc i) js is)
        → (if b then main_is (tree.UnionItem y) y.tag.at else main_found is) ≡ [] → MainHere h i (j ∷ js) (tree.UnionItem y ∷ is)
    by true q others p = absurd cc
    by false q others p =
        let rest : MainHere h (suc i) js is = others p in
        record {
          function = rest.function;
          found = ap (λ (b : Bool). if b then Some j.entry.entry else find (entries_with false h (suc i) js is) (codes "main")) q ∙ rest.found;
        }
find_main g h i (j ∷ js) (tree.GlobalItem y ∷ is) k e =
    by (bytes_eq y.name.text (codes "main")) refl (λ p. find_main g h (suc i) js is k.1 p) e
  where
    by : (b : Bool) → bytes_eq y.name.text (codes "main") ≡ b → (main_found is ≡ [] → MainHere h (suc i) js is)
        → (if b then main_is (tree.GlobalItem y) y.name.at else main_found is) ≡ [] → MainHere h i (j ∷ js) (tree.GlobalItem y ∷ is)
    by true q others p = absurd cc
    by false q others p =
        let rest : MainHere h (suc i) js is = others p in
        record {
          function = rest.function;
          found = ap (λ (b : Bool). if b then Some (global_entry (at_item false h i) y) else find (entries_with false h (suc i) js is) (codes "main")) q
              ∙ rest.found;
        }
find_main g h i (j ∷ js) (tree.FunctionItem f ∷ is) k e =
    by (bytes_eq f.name.text (codes "main")) refl (λ p. find_main g h (suc i) js is k.1 p) e
  where
    either : Bool → Option Entry
    either b = (if b then Some (OfFunction (head_of false h f).signature) else find (entries_with false h (suc i) js is) (codes "main"))

    by : (b : Bool) → bytes_eq f.name.text (codes "main") ≡ b → (main_found is ≡ [] → MainHere h (suc i) js is)
        → (if b then main_is (tree.FunctionItem f) f.name.at else main_found is) ≡ [] → MainHere h i (j ∷ js) (tree.FunctionItem f ∷ is)
    by true q others p = record { function = f; found = ap either q }
    by false q others p = let rest : MainHere h (suc i) js is = others p in record { function = rest.function; found = ap either q ∙ rest.found }

-- ---- its number

-- a function that is found has a number (it belongs to `source_lowering`)
pub number_below : (fs : List Routine) (x : List ℕ) (f : Routine) → function_of fs x ≡ Some f → number_of fs x < length fs
number_below [] x f e = absurd cc
number_below (r ∷ rs) x f e = by (bytes_eq r.name x) (λ p. number_below rs x f p) e
  where
    by : (b : Bool) → (function_of rs x ≡ Some f → number_of rs x < length rs) → (if b then Some r else function_of rs x) ≡ Some f
        → (if b then 0 else suc (number_of rs x)) < length (r ∷ rs)
    by true others p = omega arith
    by false others p = let less : number_of rs x < length rs = others p in omega (arith, less)
