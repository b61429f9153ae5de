-- What a scope answers, as the rules say it.
use Rattle.std.specs.Prelude.{List, Option, ℕ, ◌≡◌}
use Rattle.std.proofs.Common.{subst, sym}
use Rattle.source_typing.specs.Scope.{Env, meant}
use Rattle.check_regions.specs.Scopes.{AreThose}
use Rattle.check_scopes.specs.Knows.{Names, Sees, means_in}
use Rattle.check_scopes.specs.Means.{Means}
use Rattle.check_scopes.specs.declared.meaning.Meaning.{Meaning}
use Rattle.check_scopes.specs.declared.scope.Scope.{Scope}

-- what a name means is what it means by the rules
pub named_by_rules : (s : Scope) (x : List ℕ) (m : Option Meaning) → m ≡ means_in s x → (g : Env) → Names s g → Means (meant g x) m
named_by_rules s x m e g names = subst (λ o. Means (meant g x) o) (sym e) (names x)

-- regions are the same whatever `rnew` is around
pub seen_regions : (s : Scope) (g : Env) → Sees s g → AreThose s.regions g.regions
seen_regions s g k = k.regions

pub seen_lenient : (s : Scope) (g : Env) → Sees s g → s.lenient ≡ g.lenient
seen_lenient s g k = k.lenient
