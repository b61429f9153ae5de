-- Steps that don't get stuck.
use Rattle.std.proofs.Common.{◌≡◌, ℕ, zero, suc, Bool, true, Option, Some, None, List, [], ◌∷◌, sym, subst}
use Rattle.cyc_tree.specs.Tree.{Program}
use Rattle.cyc_words.specs.Events.{SourceEvent, SourceEnding}
use Rattle.cyc_words.specs.declared.faults.Kind.{Kind}
use Rattle.source_meaning.specs.Memory.{Memory}
use Rattle.step_trees.specs.Trees.{Calls, Turns, walk, spend, Stops, Says, Reads, Pays, Outcome}
use Rattle.source_meaning.specs.Steps.{Step, Act, ◌>>=◌, ◌>>◌, check}
use Rattle.source_meaning.specs.Programs.{source, source_bodies, start}

-- the steps up to the first unit don't get stuck, and what follows it is as P says
abbrev pub safe_walk : (Step → Type 0) → Step → Type 0
safe_walk P (Stops (SourceEnding.Ended status)) = Unit {0}
safe_walk P (Stops (SourceEnding.Raised kind)) = Unit {0}
safe_walk P (Stops SourceEnding.Running) = Unit {0}
safe_walk P (Stops SourceEnding.Stuck) = ⊥
safe_walk P (Says event step) = safe_walk P step
safe_walk P (Reads next) = (b : Option ℕ) → safe_walk P (next b)
safe_walk P (Pays next m) = P (next m)
safe_walk P (Calls c next m) = P (source_bodies.call c next m)
safe_walk P (Turns t next m) = P (source_bodies.turn t next m)

-- the steps don't get stuck with less than n units
abbrev pub Safe : ℕ → Step → Type 0
Safe zero = λ s. Unit {0}
Safe (suc n) = safe_walk (Safe n)

walk_less : (P Q : Step → Type 0) → ((s : Step) → P s → Q s) → (s : Step) → safe_walk P s → safe_walk Q s
walk_less P Q h (Stops (SourceEnding.Ended status)) x = x
walk_less P Q h (Stops (SourceEnding.Raised kind)) x = x
walk_less P Q h (Stops SourceEnding.Running) x = x
walk_less P Q h (Stops SourceEnding.Stuck) x = x
walk_less P Q h (Says event s) x = walk_less P Q h s x
walk_less P Q h (Reads next) x = λ b. walk_less P Q h (next b) (x b)
walk_less P Q h (Pays next m) x = h _ x
walk_less P Q h (Calls c next m) x = h _ x
walk_less P Q h (Turns t next m) x = h _ x

pub safe_less : (n : ℕ) (s : Step) → Safe (suc n) s → Safe n s
safe_less zero s x = tt
safe_less (suc n) s x = walk_less (Safe (suc n)) (Safe n) (safe_less n) s x

walk_not_stuck : (P : Step → Type 0) (rest : Step → List ℕ → Outcome SourceEvent)
    → ((s : Step) (input : List ℕ) → P s → (rest s input).ending ≡ SourceEnding.Stuck → ⊥) → (s : Step) (input : List ℕ) → safe_walk P s
    → (walk source_bodies rest s input).ending ≡ SourceEnding.Stuck → ⊥
walk_not_stuck P rest h (Stops (SourceEnding.Ended status)) input x e = cc
walk_not_stuck P rest h (Stops (SourceEnding.Raised kind)) input x e = cc
walk_not_stuck P rest h (Stops SourceEnding.Running) input x e = cc
walk_not_stuck P rest h (Stops SourceEnding.Stuck) input x e = x
walk_not_stuck P rest h (Says event s) input x e = walk_not_stuck P rest h s input x e
walk_not_stuck P rest h (Reads next) [] x e = walk_not_stuck P rest h (next None) [] (x None) e
walk_not_stuck P rest h (Reads next) (b ∷ input) x e = walk_not_stuck P rest h (next (Some b)) input (x (Some b)) e
walk_not_stuck P rest h (Pays next m) input x e = h _ input x e
walk_not_stuck P rest h (Calls c next m) input x e = h _ input x e
walk_not_stuck P rest h (Turns t next m) input x e = h _ input x e

spend_not_stuck : (n : ℕ) (s : Step) (input : List ℕ) → Safe n s → (spend source_bodies n s input).ending ≡ SourceEnding.Stuck → ⊥
spend_not_stuck zero s input x e = cc
spend_not_stuck (suc n) s input x e = walk_not_stuck (Safe n) (spend source_bodies n) (spend_not_stuck n) s input x e

-- what is never stuck by its steps is never stuck on any input
pub not_stuck : (p : Program) (input : List ℕ) (n : ℕ) → Safe (suc n) (start p) → (source p input n).ending ≡ SourceEnding.Stuck → ⊥
not_stuck p input n x e = walk_not_stuck (Safe n) (spend source_bodies n) (spend_not_stuck n) (start p) input x e

-- an act doesn't get stuck, and is over only where Post holds
pub record Runs {A : Type 0} (n : ℕ) (act : Act A) (m : Memory) (Post : A → Memory → Type 0) : Type 0 where
  pub by : (next : A → Memory → Step) → ((a : A) (m' : Memory) → Post a m' → Safe n (next a m')) → Safe n (act next m)

pub safe_says : (n : ℕ) (event : SourceEvent) (s : Step) → Safe n s → Safe n (Says event s)
safe_says zero event s h = tt
safe_says (suc n) event s h = h

pub safe_raised : (n : ℕ) (kind : Kind) → Safe n (Stops (SourceEnding.Raised kind))
safe_raised zero kind = tt
safe_raised (suc n) kind = tt

pub runs_bind : {A B : Type 0} (n : ℕ) (act : Act A) (f : A → Act B) (m : Memory) (P : A → Memory → Type 0) (Q : B → Memory → Type 0) → Runs n act m P
    → ((a : A) (m' : Memory) → P a m' → Runs n (f a) m' Q) → Runs n (act >>= f) m Q
runs_bind n act f m P Q h k = record { by = λ next g. h.by (λ a. f a next) (λ a m' p. (k a m' p).by next g) }

-- a fact that holds
pub runs_check : {B : Type 0} (n : ℕ) (b : Bool) (act : Act B) (m : Memory) (Q : B → Memory → Type 0) → b ≡ true → Runs n act m Q → Runs n (check b >> act) m Q
runs_check n b act m Q e h = record { by = λ next g. subst (λ (x : Bool). Safe n (check x (λ y. act next) m)) (sym e) (h.by next g) }
