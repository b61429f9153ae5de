-- What an act leaves behind.
use Rattle.std.proofs.Common.{◌≡◌, ℕ, zero, suc, ◌+◌, ◌<◌, ◌≤◌, List, inl, inr, arith}
use Rattle.cyc_words.specs.Events.{Event, Visible}
use Rattle.source_meaning.specs.Memory.{Region, Frame, Born, Scalar, Memory}
use Rattle.source_meaning.specs.Steps.{Act, ◌>>◌, show}
use Rattle.type_proof.specs.Flat.{Tables}
use Rattle.type_proof.proofs.invariant.Invariant.{RunType, Owner, Nobody, Flying, Ghost, HaveTypes, Known, Inv, Grows}
use Rattle.type_proof.proofs.invariant.Values.{Carries, values_kept}
use Rattle.type_proof.proofs.invariant.Births.{known_or_not}
use Rattle.type_proof.proofs.invariant.Runs.{Runs, safe_says}

-- after an act: a ghost for its memory, and what holds of both
pub record After (d : Tables) (k b : ℕ) (w : Ghost) (m : Memory) (P : Ghost → Memory → Type 0) (m' : Memory) : Type 0 where
  pub ghost : Ghost
  pub inv : Inv d ghost m'
  pub grows : Grows k b w m ghost m'
  pub holds : P ghost m'

-- an event is no step of the memory
pub runs_show : {B : Type 0} (n : ℕ) (e : Event) (g : Act B) (m : Memory) (Q : B → Memory → Type 0) → Runs n g m Q → Runs n (show e >> g) m Q
runs_show n e g m Q h = record { by = λ next q. safe_says n (Visible e) _ (h.by next q) }

-- the rights of a value on its way, from its c-th cell on
abbrev pub flying : ℕ → ℕ → ℕ → Owner
flying i c j = Flying i (c + j)

-- the callers' locals are those of fewer activations too
pub grows_base : {k b b' : ℕ} {w w' : Ghost} {m m' : Memory} → b ≤ b' → Grows k b' w m w' m' → Grows k b w m w' m'
grows_base {b = b} {b' = b'} l x = record {
  types = x.types;
  above = x.above;
  old = x.old;
  known = x.known;
  keyed = x.keyed;
  scoped = x.scoped;
  nobody = x.nobody;
  state = x.state;
  flying = x.flying;
  pinned = x.pinned;
  bare = x.bare;
  blank = x.blank;
  objects = x.objects;
  kept = λ s t j e h p. x.kept s t j e (omega (arith, l, h)) p;
}

-- a value on its way stays of its type while what comes after it is evaluated
pub flight_kept : (d : Tables) (k b : ℕ) (w : Ghost) (m : Memory) (w' : Ghost) (m' : Memory) (vs : List Scalar) (ts : List RunType) → Inv d w m
    → Grows (suc k) b w m w' m' → HaveTypes d w (flying k 0) vs ts → HaveTypes d w' (flying k 0) vs ts
flight_kept d k b w m w' m' vs ts i g h = values_kept d w w' (flying k 0) (flying k 0) vs ts carries h
  where
    held : (r : Region) (c : ℕ) → w.owner r ≡ Flying k c → Known m r
    held r c e = elim (known_or_not m r) [ inl z ↦ z | inr z ↦ absurd (let n : w.owner r ≡ Nobody = i.unowned r z in cc) ]

    carries : (j : ℕ) → Carries w w' (flying k 0 j) (flying k 0 j)
    carries j = record {
      types = λ s t e. g.types s _ e;
      above = g.above;
      owner = λ c e. g.flying (Born c) k (0 + j) (omega arith) e;
      keyed = λ c e. g.keyed (Born c) (held (Born c) (0 + j) e);
    }

-- there are never fewer activations
pub base_later : (k b c : ℕ) (w : Ghost) (m : Memory) (w' : Ghost) (m' : Memory) → c ≤ m.activations → Grows k b w m w' m' → c ≤ m'.activations
base_later k b zero w m w' m' l g = omega arith
base_later k b (suc c) w m w' m' l g = let h : c < m'.activations = g.known (Frame c) (omega (arith, l)) in omega (arith, h)
