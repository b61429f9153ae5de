-- Where nothing is written, no code is there.
use Rattle.std.proofs.Common.{◌≡◌, ◌∙◌, refl, sym, ap, false, List, [], ◌++◌, append-nil}
use Rattle.core_meaning.specs.Core.{Statement}
use Rattle.source_meaning.specs.Shapes.{Shape}
use Rattle.lower_checks.specs.Writing.{IsEmitted, IsWritten, code_of, values_of}
use Rattle.lower_checks.specs.declared.body.Body.{Body}

pub emitted_none : (b : Body) (x : List Statement) → b.failed ≡ false → x ≡ [] → IsEmitted b b x
emitted_none b x sound none = record {
  sound = sound;
  code = sym (append-nil (code_of b)) ∙ ap (λ (more : List Statement). code_of b ++ more) (sym none);
  own = refl;
}

pub written_none : (b : Body) (x : List Statement) (p : List Shape) → b.failed ≡ false → x ≡ [] → p ≡ [] → IsWritten b b x p
written_none b x p sound none no_values = record {
  sound = sound;
  code = sym (append-nil (code_of b)) ∙ ap (λ (more : List Statement). code_of b ++ more) (sym none);
  values = sym (append-nil (values_of b)) ∙ ap (λ (more : List Shape). values_of b ++ more) (sym no_values);
}
