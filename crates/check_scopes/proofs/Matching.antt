-- Locals in code stay those of the rules where one is declared.
use Rattle.std.proofs.Common.{List, false, true, ℕ, ◌∷◌, ◌≡◌}
use Rattle.cyc_tree.specs.Tree as tree
use Rattle.source_typing.specs.Scope.{Env, is_second, with_local}
use Rattle.source_typing.specs.Tables as rules
use Rattle.check_scopes.specs.Locals.{Known, known}
use Rattle.check_scopes.specs.Matching.{AreLocals}
use Rattle.check_scopes.specs.Means.{WhatIs}
use Rattle.check_scopes.specs.declared.locals.What.{What}

-- a second one of a name in its block leaves the first
pub second_matches : (ks : List Known) (x : tree.Name) (w : rules.What) (g : Env) → is_second g.locals g.block x.text ≡ true → AreLocals ks g.locals
    → AreLocals ks (with_local x w g).locals
second_matches ks x w g e h = rw e h

pub first_matches : (ks : List Known) (name : List ℕ) (x : tree.Name) (w : rules.What) (what : What) (g : Env) → name ≡ x.text → WhatIs w what
    → is_second g.locals g.block x.text ≡ false → AreLocals ks g.locals → AreLocals (known name what ∷ ks) (with_local x w g).locals
first_matches ks name x w what g named is e h = rw e ((named, is), h)
