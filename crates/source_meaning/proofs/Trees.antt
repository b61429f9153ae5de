-- Short words for trees that are built by hand. Places are 0, but for those of strings.
use Rattle.std.proofs.Common.{ℕ, false, Option, None, List, []}
use Rattle.std.specs.Prelude.{codes}
use Prim.Native.String.{String}
use Rattle.cyc_tree.specs.declared.name.Sign.{Sign}
use Rattle.cyc_tree.specs.Tree.{Name, RegionName, Base, Pointer, TypeName, Expression, Declaration, Statement, BlockItems, Declare, Execute, Member, Function}
use Rattle.cyc_words.specs.Events.{SourceEvent, SourceEnding}
use Rattle.step_trees.specs.Trees.{Outcome}

abbrev pub named : String → Name
named s = record { at = 0; text = codes s }

abbrev pub variable : String → Expression
variable s = Expression.Variable (named s)

-- a number without suffix
abbrev pub number : ℕ → Expression
number n = Expression.Number 0 n false

abbrev pub pointer : Sign → Option RegionName → Pointer
pointer sign region = record { sign = sign; region = region }

abbrev pub typed : Base → List Pointer → TypeName
typed base pointers = record { at = 0; base = base; pointers = pointers }

-- the items of a block, statements and declarations, one before the other
infixr 4 ◌▸◌
infixr 4 ◌▹◌
abbrev pub ◌▸◌ : Statement → BlockItems → BlockItems
s ▸ others = Execute s others

abbrev pub ◌▹◌ : Declaration → BlockItems → BlockItems
d ▹ others = Declare d others

-- a function with the effect that its parameters give
abbrev pub function : TypeName → Name → List Member → BlockItems → Function
function result name parameters body =
    record { result = result; name = name; parameters = parameters; effect = None; bounds = []; body = body; end = 0 }

abbrev pub gives : List SourceEvent → SourceEnding → Outcome SourceEvent
gives events ending = record { events = events; ending = ending }
