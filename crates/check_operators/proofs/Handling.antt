-- Handles by the outermost pointer and the base of their types.
use Rattle.std.proofs.Common.{◌≡◌, ℕ, Option, Some, None, refl, ap, ◌∙◌}
use Rattle.cyc_types.proofs.Converting.{by_none, by_outer}
use Rattle.cyc_types.specs.Bases.{base_type}
use Rattle.cyc_types.specs.Layers.{outermost, pointer_to}
use Rattle.cyc_types.specs.Types.{static_type}
use Rattle.cyc_types.specs.declared.ctype.CType.{CType}
use Rattle.cyc_types.specs.declared.layer.Layer.{Layer}
use Rattle.cyc_types.specs.declared.layer.Layer.TheVariants as code
use Rattle.check_operators.specs.Goals.{region_handled}
use Rattle.source_typing.specs.Making.{Goal, NoHandle, handled_of, live_goal}
use Rattle.source_typing.specs.Regions.{Region}
use Rattle.source_typing.specs.Scope.{Env, is_live}
use Rattle.source_typing.specs.Types.{Char, Fat, Handle, Int, Key, Null, StaticType, Struct, Thin, Union, Unique, Unsigned, Void}
use Rattle.source_typing.specs.Verdicts.{Of, Verdict}

no_handle : (l : Layer) (t : StaticType) → region_handled (pointer_to l t) ≡ None
no_handle (code.Thin n r) t = refl
no_handle (code.Fat r) t = refl
no_handle (code.Unique n) t = refl

pub pointer_handled : (t : CType) (l : Layer) → outermost t.layers.items ≡ Some l → region_handled (static_type t) ≡ None
pointer_handled t l h = ap region_handled (by_outer t.layers.items (base_type t.base) l h) ∙ no_handle l _

pub plain_handled : (t : CType) → outermost t.layers.items ≡ None → region_handled (static_type t) ≡ region_handled (base_type t.base)
plain_handled t h = ap region_handled (by_none t.layers.items (base_type t.base) h)

-- where something makes, by the region that it is a handle of
abbrev pub handled_by : Env → ℕ → Option Region → Verdict Goal
handled_by g at (Some r) = live_goal (is_live g r) at r
handled_by g at None = Of NoHandle

pub handled_is : (g : Env) (at : ℕ) (t : StaticType) → handled_of g at t ≡ handled_by g at (region_handled t)
handled_is g at Int = refl
handled_is g at Unsigned = refl
handled_is g at Char = refl
handled_is g at Void = refl
handled_is g at Null = refl
handled_is g at (Thin n r t) = refl
handled_is g at (Fat r t) = refl
handled_is g at (Unique n t) = refl
handled_is g at (Handle r) = refl
handled_is g at (Key r) = refl
handled_is g at (Struct tag rs) = refl
handled_is g at (Union tag rs) = refl
