-- Calls of functions whose arguments fit.
use Rattle.std.specs.Prelude.{nat_le, ◌&&◌, ◌+◌, ◌*◌, ◌++◌, if◌then◌else◌}
use Rattle.std.specs.List.{list_all}
use Rattle.std.proofs.Common.{◌≡◌, ◌∙◌, ℕ, Bool, true, false, List, [], ◌∷◌, refl, sym, ap, arith}
use Rattle.std.proofs.lemmas.Bool.Decides.{nat_tests}
use Rattle.source_typing.specs.Calls.{all_ordered}
use Rattle.source_typing.specs.Faults.{effect_rule, fault, outlives_rule, test}
use Rattle.source_typing.proofs.Converting.{id_is}
use Rattle.source_typing.specs.Regions.{Region, same_id}
use Rattle.source_typing.specs.Scope.{Env, outlives}
use Rattle.source_typing.specs.Tables.{argument}
use Rattle.source_typing.specs.Verdicts.{Verdict, unless_faulty}
use Rattle.check_faults.specs.Verdicts.{Short, Wrong, shortened}
use Rattle.check_regions.specs.Once.{HaveSame}

-- by both tests: Outlives is the earlier rule
abbrev pub entered_by : {A : Type 0} → Bool → Bool → ℕ → Verdict A → Short A
entered_by live false at v = Wrong (fault outlives_rule at)
entered_by false true at v = Wrong (fault effect_rule at)
entered_by true true at v = shortened v

pub tests_entered : {A : Type 0} (live ordered : Bool) (at : ℕ) (v : Verdict A)
    → shortened (unless_faulty (test live effect_rule at ++ test ordered outlives_rule at) v) ≡ entered_by live ordered at v
tests_entered true true at v = refl
tests_entered true false at v = refl
tests_entered false true at v = refl
tests_entered false false at v =
    let later : nat_le (at * 16 + 8) (at * 16 + 7) ≡ false = grind (arith, nat_tests) in
    ap (λ (b : Bool). Wrong (if b then fault effect_rule at else fault outlives_rule at)) later

-- ---- bounds

all_of : (g : Env) (rs : List Region) (bs : List (Region × Region))
    → all_ordered g rs bs ≡ list_all (λ b. outlives g (argument rs b.0) (argument rs b.1)) bs
all_of g rs [] = refl
all_of g rs ((a, b) ∷ bs) = ap (λ t. outlives g (argument rs a) (argument rs b) && t) (all_of g rs bs)

-- each of them is asked once
pub once_ordered : (g : Env) (rs : List Region) (once bs : List (Region × Region)) → HaveSame once bs → all_ordered g rs once ≡ all_ordered g rs bs
once_ordered g rs once bs h = all_of g rs once ∙ h.all (λ b. outlives g (argument rs b.0) (argument rs b.1)) ∙ sym (all_of g rs bs)

-- the same is asked again
pub same_asked : (g : Env) (a b c d : Region) → same_id a c && same_id b d ≡ true → outlives g a b ≡ true → true ≡ outlives g c d
same_asked g a b c d e h = by (same_id a c) (same_id b d) refl refl e
  where
    by : (s t : Bool) → same_id a c ≡ s → same_id b d ≡ t → s && t ≡ true → true ≡ outlives g c d
    by true true p q z = sym h ∙ (λ j. outlives g (id_is a c p j) (id_is b d q j))
    by true false p q z = absurd (grind (arith, z))
    by false t p q z = absurd (grind (arith, z))
