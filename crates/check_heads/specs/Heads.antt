-- View of code: what a head in code says, as the rules say it.
use Rattle.std.specs.Prelude.{None, Option, Some, is_none, map, ◌≡◌}
use Rattle.cyc_types.specs.Regions.{regions_of}
use Rattle.cyc_types.specs.Types.{static_type}
use Rattle.cyc_types.specs.declared.ctype.CType.{CType}
use Rattle.source_typing.specs.Faults.{earliest}
use Rattle.check_regions.specs.Fields.{pair_of}
use Rattle.source_typing.specs.Named.{AllBelow, BoundsBelow, NamesBelow}
use Rattle.source_typing.specs.Types.{StaticType}
use Rattle.check_faults.specs.Faults.{faults_of}
use Rattle.check_faults.specs.declared.verdict.Verdict as verdict
use Rattle.check_faults.specs.declared.verdict.Verdict.TheVariants as variant
use Rattle.check_heads.specs.declared.head.Head as code
use Rattle.check_heads.specs.declared.head.Parameter.{Parameter}
use Rattle.cyc_tree.specs.Tree as tree
use Rattle.source_typing.specs.Functions as rules

-- the type of what is in order
abbrev pub known_static : verdict.Verdict CType → Option StaticType
known_static (variant.Of t) = Some (static_type t)
known_static (variant.Wrong f) = None
known_static variant.NotJudged = None

-- The head in code has the region variables, parameters, result, effect, bounds and earliest fault of that of the rules.
pub record IsHead (c : code.Head) (f : tree.Function) (h : rules.Head) : Type 0 where
  pub names : c.variables.names ≡ h.names
  pub count : c.variables.count ≡ h.signature.regions
  pub named : map (λ (p : Parameter). p.name.now) c.parameters.items ≡ map (λ (m : tree.Member). m.name.text) f.parameters
  pub types : map (λ (p : Parameter). known_static p.of) c.parameters.items ≡ h.signature.parameters
  pub result : known_static c.result ≡ h.signature.result
  pub effect : regions_of c.effect.items ≡ h.signature.effect
  pub bounds : map pair_of c.bounds.items ≡ h.signature.bounds
  -- the names are of the head's region variables, and so are those that effect and bounds speak of
  pub names_below : NamesBelow h.signature.regions h.names
  pub effect_below : AllBelow h.signature.regions h.signature.effect
  pub bounds_below : BoundsBelow h.signature.regions h.signature.bounds
  pub fault : faults_of c.fault ≡ earliest h.faults
  pub sound : is_none c.fault ≡ h.signature.sound
