-- View of code: when the locals in code are those of the rules.
use Rattle.std.specs.Prelude.{List, ◌≡◌, [], ◌∷◌}
use Rattle.source_typing.specs.Scope.{Local}
use Rattle.check_scopes.specs.Locals.{Known}
use Rattle.check_scopes.specs.Means.{WhatIs}

-- each has the same name, and is the same
abbrev pub AreLocals : List Known → List Local → Type 0
AreLocals [] [] = Unit {0}
AreLocals (k ∷ ks) (l ∷ ls) = ((k.name ≡ l.name) × WhatIs l.what k.what) × AreLocals ks ls
AreLocals ks ls = ⊥
