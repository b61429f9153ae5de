-- The strings of a program by their places: their objects lie behind those of the globals, and a word counts their bytes.
use Rattle.std.proofs.Common.{
  ◌≡◌,
  ◌∙◌,
  ◌+◌,
  ◌<◌,
  ◌≤◌,
  ◌^◌,
  ℕ,
  suc,
  Bool,
  true,
  false,
  Option,
  Some,
  List,
  [],
  ◌∷◌,
  length,
  refl,
  sym,
  ap,
  ap₂,
  subst,
  arith,
  if◌then◌else◌,
}
use Rattle.std.proofs.lemmas.List.{length-map}
use Rattle.std.specs.Prelude.{IfSome, nat_eq, option_map}
use Rattle.cyc_tree.specs.Tree as tree
use Rattle.cyc_tree.specs.View.{program_item_tree, program_tree}
use Rattle.cyc_tree.specs.declared.item.Item.{Item}
use Rattle.source_meaning.specs.Memory.{Scalar}
use Rattle.source_meaning.specs.Places.{span_at, string_at}
use Rattle.source_meaning.specs.Programs.{globals_from, heap_spot, strings_from}
use Rattle.source_meaning.specs.Strings.{Literal}
use Rattle.source_lowering.specs.Lowerable.{AreStrings}
use Rattle.tree_walk.specs.Numbered.{first_at, numbered}
use Rattle.tree_walk.specs.declared.places.Numbered as code

-- the value of a string of a number, where so many objects lie before all strings
abbrev pub value_of : ℕ → code.Numbered → Scalar
value_of behind n = span_at n.count (heap_spot (behind + n.number))

mapped : (behind : ℕ) (own : Bool) (n : code.Numbered) (others : Option code.Numbered) (rest : Option Scalar) → option_map (value_of behind) others ≡ rest
    → option_map (value_of behind) (if own then Some n else others) ≡ (if own then Some (value_of behind n) else rest)
mapped behind true n others rest e = refl
mapped behind false n others rest e = e

pub text_found : (ss : List Literal) (behind k at : ℕ) → option_map (value_of behind) (first_at ss k at) ≡ string_at (strings_from ss (behind + k)) at
text_found [] behind k at = refl
text_found (s ∷ ss) behind k at =
    mapped behind (nat_eq s.0 at) (numbered s k) (first_at ss (suc k) at) (string_at (strings_from ss (suc (behind + k))) at)
    (text_found ss behind (suc k) at ∙ ap (λ (c : ℕ). string_at (strings_from ss c) at) (omega arith))

-- so is what a table finds, whose strings are these, behind so many objects
pub text_in : (ss all : List Literal) (behind many at : ℕ) (found : Option code.Numbered) → found ≡ first_at ss 0 at → ss ≡ all → behind ≡ many
    → option_map (value_of behind) found ≡ string_at (strings_from all many) at
text_in ss all behind many at found is strings objects =
    ap (option_map (value_of behind)) is
    ∙ text_found ss behind 0 at
    ∙ ap₂ (λ (qs : List Literal) (c : ℕ). string_at (strings_from qs c) at) strings (omega (arith, objects))

-- ---- a word counts a string's bytes and the final 0

short_if : (own : Bool) (n : code.Numbered) (others : Option code.Numbered) → n.count < 2 ^ 32 → IfSome others (λ m. m.count < 2 ^ 32)
    → IfSome (if own then Some n else others) (λ m. m.count < 2 ^ 32)
short_if true n others here there = here
short_if false n others here there = there

-- those of a string that is found at a place
pub short_at : (ss : List Literal) (k at : ℕ) → AreStrings ss → IfSome (first_at ss k at) (λ n. n.count < 2 ^ 32)
short_at [] k at short = tt
short_at (s ∷ ss) k at short = short_if (nat_eq s.0 at) (numbered s k) (first_at ss (suc k) at) short.0 (short_at ss (suc k) at short.1)

-- so it is of what a table finds, whose strings are these
pub short_found : (ss all : List Literal) (at : ℕ) (n : code.Numbered) → AreStrings all → ss ≡ all → Some n ≡ first_at ss 0 at → n.count < 2 ^ 32
short_found ss all at n short strings is =
    subst (λ (o : Option code.Numbered). IfSome o (λ m. m.count < 2 ^ 32)) (sym is)
    (short_at ss 0 at (subst (λ (qs : List Literal). AreStrings qs) (sym strings) short))

-- ---- how many globals there are

globals_within : (items : List tree.Item) (k : ℕ) → length (globals_from items k) ≤ length items
globals_within [] k = omega arith
globals_within (tree.FunctionItem f ∷ items) k = omega (arith, globals_within items k)
globals_within (tree.GlobalItem g ∷ items) k = omega (arith, globals_within items (suc k))
globals_within (tree.StructItem s ∷ items) k = omega (arith, globals_within items k)
globals_within (tree.UnionItem u ∷ items) k = omega (arith, globals_within items k)

-- each is an item
pub few_globals : (items : List Item) → length (globals_from (program_tree items) 0) ≤ length items
few_globals items = omega (arith, globals_within (program_tree items) 0, length-map items program_item_tree)
