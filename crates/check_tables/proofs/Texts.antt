-- Strings that globals begin with.
use Rattle.std.proofs.Common.{◌≡◌, ℕ, ◌+◌, Bool, true, false, List, length, refl, sym, ap, ◌∙◌}
use Rattle.std.specs.Prelude.{None, Option, Some}
use Rattle.cyc_tree.specs.Tree.{Constant}
use Rattle.cyc_types.proofs.Converting.{by_none, by_outer}
use Rattle.cyc_types.specs.Bases.{base_type}
use Rattle.cyc_types.specs.Layers.{outermost, pointer_to}
use Rattle.cyc_types.specs.Types.{static_type}
use Rattle.cyc_types.specs.declared.base.BaseType.{BaseType}
use Rattle.cyc_types.specs.declared.base.BaseType.TheVariants as base
use Rattle.cyc_types.specs.declared.ctype.CType.{CType}
use Rattle.cyc_types.specs.declared.layer.Layer.{Layer}
use Rattle.cyc_types.specs.declared.layer.Layer.TheVariants as pointer
use Rattle.source_typing.specs.Faults.{earliest, fault, test, type_rule}
use Rattle.source_typing.specs.Globals.{string_faults}
use Rattle.source_typing.specs.Scope.{Value}
use Rattle.source_typing.specs.Types.{Char, Fat, Handle, Int, Key, Null, StaticType, Struct, Thin, Union, Unique, Unsigned, Void}
use Rattle.source_typing.specs.Verdicts.{Faulty, Of, Unjudged, Verdict}
use Rattle.check_heads.proofs.Answered.{of_short}
use Rattle.check_faults.specs.Verdicts.{Is, NotJudged, Wrong, shortened}
use Rattle.check_tables.specs.Globals.{are_enough, enough_for}
use Rattle.source_typing.specs.Faults as rules

-- ---- by the outermost pointer

of_pointer : (n : ℕ) (l : Layer) (t : StaticType) → are_enough n (Some l) ≡ enough_for n (Of (pointer_to l t))
of_pointer n (pointer.Thin bound r) t = refl
of_pointer n (pointer.Fat r) t = refl
of_pointer n (pointer.Unique b) t = refl

of_base : (n : ℕ) (b : BaseType) → true ≡ enough_for n (Of (base_type b))
of_base n base.Int = refl
of_base n base.Unsigned = refl
of_base n base.Char = refl
of_base n base.Void = refl
of_base n base.Null = refl
of_base n (base.Handle r) = refl
of_base n (base.Key r) = refl
of_base n (base.Struct tag rs) = refl
of_base n (base.Union tag rs) = refl

of_outermost : (n : ℕ) (t : CType) (o : Option Layer) → outermost t.layers.items ≡ o → are_enough n o ≡ enough_for n (Of (static_type t))
of_outermost n t None e = of_base n t.base ∙ ap (λ u. enough_for n (Of u)) (sym (by_none t.layers.items (base_type t.base) e))
of_outermost n t (Some l) e = of_pointer n l _ ∙ ap (λ u. enough_for n (Of u)) (sym (by_outer t.layers.items (base_type t.base) l e))

pub enough_of : (n : ℕ) (t : CType) (v : Verdict StaticType) → Is (static_type t) ≡ shortened v → are_enough n (outermost t.layers.items) ≡ enough_for n v
enough_of n t v e = of_outermost n t (outermost t.layers.items) refl ∙ ap (enough_for n) (sym (of_short v (static_type t) e))

pub wrong_enough : (n : ℕ) (f : rules.Fault) (v : Verdict StaticType) → Wrong f ≡ shortened v → true ≡ enough_for n v
wrong_enough n f (Faulty g gs) e = refl
wrong_enough n f Unjudged e = refl
wrong_enough n f (Of t) e = absurd cc

pub unjudged_enough : (n : ℕ) (v : Verdict StaticType) → NotJudged ≡ shortened v → true ≡ enough_for n v
unjudged_enough n (Faulty g gs) e = refl
unjudged_enough n Unjudged e = refl
unjudged_enough n (Of t) e = absurd cc

-- ---- faults

text_is : (at : ℕ) (bytes : List ℕ) (x : Value) (v : Verdict StaticType)
    → string_faults (Of x) (Constant.Text at bytes) v ≡ test (enough_for (length bytes + 1) v) type_rule at
text_is at bytes x (Faulty f fs) = refl
text_is at bytes x Unjudged = refl
text_is at bytes x (Of (Thin n r t)) = refl
text_is at bytes x (Of Int) = refl
text_is at bytes x (Of Unsigned) = refl
text_is at bytes x (Of Char) = refl
text_is at bytes x (Of Void) = refl
text_is at bytes x (Of Null) = refl
text_is at bytes x (Of (Fat r t)) = refl
text_is at bytes x (Of (Unique b t)) = refl
text_is at bytes x (Of (Handle r)) = refl
text_is at bytes x (Of (Key r)) = refl
text_is at bytes x (Of (Struct tag rs)) = refl
text_is at bytes x (Of (Union tag rs)) = refl

pub enough_faults : (at : ℕ) (bytes : List ℕ) (x : Value) (v : Verdict StaticType) → enough_for (length bytes + 1) v ≡ true
    → None ≡ earliest (string_faults (Of x) (Constant.Text at bytes) v)
enough_faults at bytes x v e = sym (ap earliest (text_is at bytes x v ∙ ap (λ b. test b type_rule at) e))

pub short_faults : (at : ℕ) (bytes : List ℕ) (x : Value) (v : Verdict StaticType) → enough_for (length bytes + 1) v ≡ false
    → Some (fault type_rule at) ≡ earliest (string_faults (Of x) (Constant.Text at bytes) v)
short_faults at bytes x v e = sym (ap earliest (text_is at bytes x v ∙ ap (λ b. test b type_rule at) e))

-- ---- by the constant's value

pub of_value : (o : Option rules.Fault) (c : Constant) (x : Value) (w : Verdict Value) (v : Verdict StaticType) → Is x ≡ shortened w
    → o ≡ earliest (string_faults (Of x) c v) → o ≡ earliest (string_faults w c v)
of_value o c x w v e f = f ∙ ap (λ u. earliest (string_faults u c v)) (sym (of_short w x e))

pub of_wrong : (c : Constant) (f : rules.Fault) (w : Verdict Value) (v : Verdict StaticType) → Wrong f ≡ shortened w
    → None ≡ earliest (string_faults w c v)
of_wrong c f (Faulty g gs) v e = refl
of_wrong c f Unjudged v e = refl
of_wrong c f (Of x) v e = absurd cc

pub of_unjudged : (c : Constant) (w : Verdict Value) (v : Verdict StaticType) → NotJudged ≡ shortened w
    → None ≡ earliest (string_faults w c v)
of_unjudged c (Faulty g gs) v e = refl
of_unjudged c Unjudged v e = refl
of_unjudged c (Of x) v e = absurd cc
