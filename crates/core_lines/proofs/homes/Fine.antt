-- What the code of a statement asks of the homes of its locals.
use Rattle.std.specs.Prelude.{length}
use Rattle.std.proofs.Common.{◌≡◌, ℕ, zero, suc, ◌*◌, ◌≤◌, ◌<◌, true, List, [], ◌∷◌, Some, None, arith}
use Rattle.std.proofs.lemmas.Option.{none-some}
use Rattle.core_meaning.specs.Core.{Operation, LocalAddress, Local, Statement, Do, If, While, Block, Leave, Break, Continue, Call, Return, Raise}
use Rattle.core_meaning.specs.Core.{Statements, NoStatements, MoreStatements, Function}
use Rattle.core_lines.specs.Homes.{is_home, is_among, saved_by}
use Rattle.core_lines.specs.Selected.{nth_block, first_of, rest_of, homes_here, homes_after, names_after, names_after_all}
use Rattle.core_lines.proofs.memory.Relations.{home_of, Place}
use Rattle.core_lines.proofs.homes.Nests.{IsHomeOf, BlocksAre, home_around}
use Rattle.core_meaning.specs.Selectable.{AreLayouts}
use Rattle.core_lines.proofs.memory.Arrays.{object_fits}
use Rattle.core_lines.proofs.memory.Laying.{AreTiny}
use Rattle.core_lines.proofs.homes.Saving.{HomesFit}

-- no address is taken of a local that has a home
abbrev pub IsFineOperation : List (List ℕ) → Operation → Type 0
IsFineOperation hss (LocalAddress t out local) = home_of (nth_block hss out) local ≡ None
IsFineOperation hss _ = Unit {0}

-- a local that has a home takes a word at most
abbrev pub AreShort : List Local → List ℕ → Type 0
AreShort [] hs = Unit {0}
AreShort (l ∷ ls) hs = (0 < first_of hs → l.count * l.layout.bytes ≤ 4) × AreShort ls (rest_of hs)

pub tiny : (ls : List Local) (hs : List ℕ) → AreLayouts ls → AreShort ls hs → AreTiny ls hs
tiny [] hs good short = tt
tiny (l ∷ ls) hs good short = (
  λ some c j p e.
      let within = (object_fits l.layout l.count good.0).within c j p e in let few = short.0 some in omega (arith, within, few),
  tiny ls (rest_of hs) good.1 short.1,
)

-- the homes of a block's locals, where the blocks around have these
pub record FitsIn (fn : Function) (ls : List Local) (hs : List ℕ) (hss : List (List ℕ)) : Type 0 where
  pub short : AreShort ls hs
  pub once : (o o' r : ℕ) → home_of hs o ≡ Some r → home_of hs o' ≡ Some r → o ≡ o'
  pub differ : (r : ℕ) → is_among (suc r) hs ≡ true → IsHomeOf (suc r) hss → ⊥
  pub saved : (o r : ℕ) → home_of hs o ≡ Some r → (is_home r ≡ true) × (is_among r (saved_by fn) ≡ true)

-- where these are the homes of the locals of the blocks around, and those of the names to come
abbrev mutual
  pub IsFine : Function → List (List ℕ) → List ℕ → Statement → Type 0
  IsFine fn hss hs (Do operation) = IsFineOperation hss operation
  IsFine fn hss hs (If t these those) = AreFine fn hss hs these × AreFine fn hss (names_after_all these hs) those
  IsFine fn hss hs (While test t body) = AreFine fn hss hs test × AreFine fn hss (names_after_all test hs) body
  IsFine fn hss hs (Block ls body) = FitsIn fn ls (homes_here ls hs) hss × AreFine fn (homes_here ls hs ∷ hss) (homes_after ls hs) body
  IsFine fn hss hs (Leave body) = AreFine fn hss hs body
  IsFine fn hss hs Break = Unit {0}
  IsFine fn hss hs Continue = Unit {0}
  IsFine fn hss hs (Call results f arguments) = Unit {0}
  IsFine fn hss hs (Return values) = Unit {0}
  IsFine fn hss hs (Raise kind) = Unit {0}

  pub AreFine : Function → List (List ℕ) → List ℕ → Statements → Type 0
  AreFine fn hss hs NoStatements = Unit {0}
  AreFine fn hss hs (MoreStatements s ss) = IsFine fn hss hs s × AreFine fn hss (names_after s hs) ss

-- there are no more homes than locals
pub homes_within : (ls : List Local) (hs : List ℕ) (o r : ℕ) → home_of (homes_here ls hs) o ≡ Some r → o < length ls
homes_within [] hs o r e = absurd (none-some r e)
homes_within (l ∷ ls) hs zero r e = omega arith
homes_within (l ∷ ls) hs (suc o) r e = let h = homes_within ls (rest_of hs) o r e in omega (arith, h)

pub fit : (fn : Function) (ls : List Local) (names : List ℕ) (ns : List ℕ) (ps : List Place) (oss hss : List (List ℕ)) → BlocksAre ns ps oss hss
    → FitsIn fn ls (homes_here ls names) hss → HomesFit fn (length ls) (homes_here ls names) ps
fit fn ls names ns ps oss hss are f = record {
  within = λ o r e. homes_within ls names o r e;
  once = f.once;
  differ = λ r among around. f.differ r among (home_around ns ps oss hss (suc r) are around);
  saved = f.saved;
}
