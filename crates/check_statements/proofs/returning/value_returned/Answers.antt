use Rattle.std.proofs.Common.{◌≡◌, ℕ, false, IfOk, Some, refl, subst, sym, ◌∙◌, true≢false}
use Rattle.cyc_types.specs.Types.{static_type}
use Rattle.check_operators.specs.Values.{value_of}
use Rattle.source_typing.specs.Faults.{earliest}
use Rattle.source_typing.specs.Scope.{Env, Value}
use Rattle.source_typing.specs.Statements.{returned}
use Rattle.source_typing.specs.Types.{Char, Fat, Handle, Int, Key, Null, StaticType, Struct, Thin, Union, Unique, Unsigned, Void, is_void}
use Rattle.source_typing.specs.Conversions.{converts}
use Rattle.source_typing.specs.Verdicts.{Of}
use Rattle.check_faults.specs.Faults.{faults_of}
use Rattle.check_scopes.proofs.Keeping.{sees}
use Rattle.check_statements.proofs.returning.value_returned.Goals as goal

-- what is returned where the result isn't `void` is converted to it
is_converted : (g : Env) (at : ℕ) (t : StaticType) (v : Value) → is_void t ≡ false → returned g at (Some t) (Some (Of v)) ≡ converts g v t
is_converted g at Int v e = refl
is_converted g at Unsigned v e = refl
is_converted g at Char v e = refl
is_converted g at Void v e = absurd (true≢false e)
is_converted g at Null v e = refl
is_converted g at (Thin n r t) v e = refl
is_converted g at (Fat r t) v e = refl
is_converted g at (Unique n t) v e = refl
is_converted g at (Handle r) v e = refl
is_converted g at (Key r) v e = refl
is_converted g at (Struct x rs) v e = refl
is_converted g at (Union x rs) v e = refl

pub returns-else-is_void : goal.returns-else-is_void
returns-else-is_void c = λ g h.
    subst (λ fs. IfOk c.converted.result (λ f. faults_of f ≡ earliest fs))
    (sym (is_converted g c.args.at (static_type c.args.of.now) (value_of c.args.value.now) (sym c.is_void.ensures ∙ c.if-is_void.false)))
    (c.converted.ensures g (sees h))
