-- The names that are seen, one more.
use Rattle.std.proofs.Common.{◌≡◌, ℕ, Bool, true, false, List, ◌∷◌, refl, sym, ap, ◌∙◌}
use Rattle.std.specs.Prelude.{Option, Some, bytes_eq, is_some, not, ◌&&◌, ◌||◌, if◌then◌else◌}
use Rattle.std.proofs.lemmas.Slice.Eq.{bytes_eq-Decides}
use Rattle.source_typing.specs.Programs.{is_seen}
use Rattle.check_scopes.specs.Globals.{global_meaning}
use Rattle.check_scopes.specs.declared.globals.Globals.{Globals}
use Rattle.check_scopes.specs.declared.meaning.Meaning.{Meaning}
use Rattle.check_programs.specs.Programs.{AreSeen}

pub seen_now : (names : List (List ℕ)) (s : Globals) (n : List ℕ) (b : Bool) → AreSeen names s → b ≡ not (is_some (global_meaning s n))
    → b ≡ not (is_seen names n)
seen_now names s n b same is = is ∙ ap not (sym (same n))

-- by whether the name is the new one, and whether it was seen
one_more : (new same seen : Bool) (m : Meaning) (o : Option Meaning) → is_some o ≡ seen → (same ≡ true → new ≡ not seen)
    → (same || seen) ≡ is_some (if new && same then Some m else o)
one_more new true seen m o p q = by new seen (q refl) p
  where
    by : (new seen : Bool) → new ≡ not seen → is_some o ≡ seen → true ≡ is_some (if new && true then Some m else o)
    by true seen e h = refl
    by false true e h = sym h
    by false false e h = absurd cc
one_more true false seen m o p q = sym p
one_more false false seen m o p q = sym p

pub seen_more : (names : List (List ℕ)) (old new : Globals) (n : List ℕ) (b : Bool) (m : Meaning) → AreSeen names old
    → b ≡ not (is_some (global_meaning old n))
    → ((x : List ℕ) → global_meaning new x ≡ (if b && bytes_eq n x then Some m else global_meaning old x)) → AreSeen (n ∷ names) new
seen_more names old new n b m same is now x =
    ap (λ t. bytes_eq n x || t) (same x)
    ∙ one_more b (bytes_eq n x) (is_some (global_meaning old x)) m (global_meaning old x) refl
    (λ e. is ∙ ap (λ y. not (is_some (global_meaning old y))) ((bytes_eq-Decides n x).0 e))
    ∙ ap is_some (sym (now x))
