-- Locals by their names, where those in code are those of the rules.
use Rattle.std.proofs.Common.{Bool, List, Some, [], ap, bytes_eq, false, length, refl, subst, suc, sym, true, ℕ, ◌∷◌, ◌≡◌, if◌then◌else◌}
use Rattle.source_typing.specs.Scope.{Local, find_local}
use Rattle.flow_summaries.specs.Uses.{number_of}
use Rattle.check_scopes.specs.Linked.{position_of}
use Rattle.check_scopes.specs.Locals.{Known, find_what}
use Rattle.check_scopes.specs.Matching.{AreLocals}
use Rattle.flow_check.specs.Within.{SameLocal}

pub same_count : (ks : List Known) (ls : List Local) → AreLocals ks ls → length ls ≡ length ks
same_count [] [] h = refl
same_count (k ∷ ks) (l ∷ ls) (h, more) = ap suc (same_count ks ls more)
same_count [] (l ∷ ls) h = absurd h
same_count (k ∷ ks) [] h = absurd h

pub same_local : (x : List ℕ) (ks : List Known) (ls : List Local) → AreLocals ks ls
    → SameLocal false (find_what ks x) (position_of ks x) (find_local ls x) (number_of ls x)
same_local x [] [] h = tt
same_local x (k ∷ ks) (l ∷ ls) ((named, is), more) =
    subst (λ y. SameLocal false (if bytes_eq k.name x then Some k.what else find_what ks x) (if bytes_eq k.name x then Some (length ks) else position_of ks x)
    (if bytes_eq y x then Some l else find_local ls x) (if bytes_eq y x then Some (length ls) else number_of ls x)) named
    (by (bytes_eq k.name x) (same_local x ks ls more))
  where
    by : (t : Bool) → SameLocal false (find_what ks x) (position_of ks x) (find_local ls x) (number_of ls x)
        → SameLocal false (if t then Some k.what else find_what ks x) (if t then Some (length ks) else position_of ks x) (if t then Some l else find_local ls x)
        (if t then Some (length ls) else number_of ls x)
    by true later = (is, ap Some (same_count ks ls more))
    by false later = later
same_local x [] (l ∷ ls) h = absurd h
same_local x (k ∷ ks) [] h = absurd h

-- the number of a local
pub same_position : (x : List ℕ) (ks : List Known) (ls : List Local) → AreLocals ks ls → position_of ks x ≡ number_of ls x
same_position x [] [] h = refl
same_position x (k ∷ ks) (l ∷ ls) ((named, is), more) =
    λ j. if bytes_eq (named j) x then Some (sym (same_count ks ls more) j) else same_position x ks ls more j
same_position x [] (l ∷ ls) h = absurd h
same_position x (k ∷ ks) [] h = absurd h
