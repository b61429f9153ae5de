-- View of code: what is called in code, as the rules say it.
use Rattle.std.specs.Prelude.{None, Option, Some}
use Rattle.cyc_types.specs.Tags.{tag_of}
use Rattle.source_typing.specs.Calls.{Target, ToBuiltin, ToFunction, ToStruct}
use Rattle.source_typing.specs.Tables.{Tag}
use Rattle.source_typing.specs.Verdicts.{Of, Unjudged, Verdict}
use Rattle.check_scopes.specs.Means.{signature_of}
use Rattle.check_calls.specs.declared.target.Target as code
use Rattle.check_calls.specs.declared.target.Target.TheVariants as target

abbrev pub target_of : code.Target → Target
target_of (target.Builtin n) = ToBuiltin n
target_of (target.Struct x t) = ToStruct (tag_of x.now t.now)
target_of (target.Function s) = ToFunction (signature_of s.now)

-- a struct that is made, where there is one of its name
abbrev pub struct_in : Option Tag → Verdict Target
struct_in None = Unjudged
struct_in (Some t) = Of (ToStruct t)
