-- Subscripts, by whether they fit.
use Rattle.std.proofs.Common.{◌≡◌, ℕ, Bool, true, false, refl}
use Rattle.source_typing.specs.Faults.{type_rule}
use Rattle.source_typing.specs.Places.{contents_of, indexed_of}
use Rattle.source_typing.specs.Scope.{Env, Value}
use Rattle.source_typing.specs.Types.{Char, Fat, Handle, Int, Key, Null, StaticType, Struct, Thin, Union, Unique, Unsigned, Void}
use Rattle.source_typing.specs.Verdicts.{Verdict, refuse}

abbrev pub indexed_by : Bool → Env → ℕ → StaticType → Verdict Value
indexed_by true g at t = contents_of g at t
indexed_by false g at t = refuse type_rule at

pub indexed_is : (g : Env) (at : ℕ) (t : StaticType) (i : Bool) → indexed_of g at t i ≡ indexed_by i g at t
indexed_is g at (Fat r t) true = refl
indexed_is g at (Fat r t) false = refl
indexed_is g at (Thin n r t) true = refl
indexed_is g at (Thin n r t) false = refl
indexed_is g at (Unique n t) true = refl
indexed_is g at (Unique n t) false = refl
indexed_is g at Int true = refl
indexed_is g at Int false = refl
indexed_is g at Unsigned true = refl
indexed_is g at Unsigned false = refl
indexed_is g at Char true = refl
indexed_is g at Char false = refl
indexed_is g at Void true = refl
indexed_is g at Void false = refl
indexed_is g at Null true = refl
indexed_is g at Null false = refl
indexed_is g at (Handle r) true = refl
indexed_is g at (Handle r) false = refl
indexed_is g at (Key r) true = refl
indexed_is g at (Key r) false = refl
indexed_is g at (Struct tag rs) true = refl
indexed_is g at (Struct tag rs) false = refl
indexed_is g at (Union tag rs) true = refl
indexed_is g at (Union tag rs) false = refl
