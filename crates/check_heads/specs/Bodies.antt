-- View of code: what a function's body is judged in.
use Rattle.std.specs.Prelude.{List, Option, map, ℕ}
use Rattle.cyc_types.specs.Sameness.{HasTags}
use Rattle.source_typing.specs.Tables.{Tables, find}
use Rattle.source_typing.specs.Types.{StaticType}
use Rattle.check_scopes.specs.Globals.{global_meaning}
use Rattle.check_scopes.specs.Means.{Means}
use Rattle.check_scopes.specs.declared.globals.Globals.{Globals}
use Rattle.check_types.specs.Naming.{AreTagNames}
use Rattle.check_heads.specs.Heads.{known_static}
use Rattle.check_heads.specs.declared.entering.Names.{Names}
use Rattle.check_heads.specs.declared.head.Parameter.{Parameter}
use Rattle.cyc_tree.specs.Tree as tree

-- each global and function means what it means by the rules
abbrev pub KnowsGlobals : Globals → Tables → Type 0
KnowsGlobals s g = (x : List ℕ) → Means (find g x) (global_meaning s x)

-- Each name of a program means what it means by the rules, also where a tag is wanted, and so do structs and unions.
pub record KnowsNames (s : Names) (g : Tables) : Type 0 where
  pub globals : KnowsGlobals s.globals.now g
  pub tag_names : AreTagNames s.tags.now g
  pub tags : HasTags s.tables.now g

-- parameters by their names, and by their types where these are known
abbrev pub code_names : List Parameter → List (List ℕ)
code_names ps = map (λ (p : Parameter). p.name.now) ps

abbrev pub names_of : List tree.Member → List (List ℕ)
names_of ms = map (λ (m : tree.Member). m.name.text) ms

abbrev pub types_of : List Parameter → List (Option StaticType)
types_of ps = map (λ (p : Parameter). known_static p.of) ps
