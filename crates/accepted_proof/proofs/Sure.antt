-- Phrases that have a fault or are in order, and never left without judgement: how a phrase follows its parts.
use Rattle.std.proofs.Common.{◌≡◌, ℕ, Bool, true, false, List, [], ◌∷◌, refl}
use Rattle.source_typing.specs.Faults.{Fault}
use Rattle.source_typing.specs.Verdicts.{Faulty, Of, Unjudged, Verdict, after, both, faults_of, if_fits, other_kind, unless_faulty}
use Rattle.accepted_proof.specs.Good.{Surely}

-- what follows from what is known, of a phrase that is in order
pub surely_since : {A : Type 0} (P Q : A → Type 0) (v : Verdict A) → Surely P v → ((a : A) → v ≡ Of a → P a → Q a) → Surely Q v
surely_since P Q (Of a) h k = k a refl h
surely_since P Q (Faulty f fs) h k = tt
surely_since P Q Unjudged h k = absurd h

pub surely_also : {A : Type 0} (P Q : A → Type 0) (v : Verdict A) → Surely P v → ((a : A) → P a → Q a) → Surely Q v
surely_also P Q (Of a) h k = k a h
surely_also P Q (Faulty f fs) h k = tt
surely_also P Q Unjudged h k = absurd h

-- a phrase of one part
pub surely_after : {A B : Type 0} (P : A → Type 0) (Q : B → Type 0) (v : Verdict A) (rule : A → Verdict B) → Surely P v
    → ((a : A) → P a → Surely Q (rule a)) → Surely Q (after v rule)
surely_after P Q (Of a) rule h k = k a h
surely_after P Q (Faulty f fs) rule h k = tt
surely_after P Q Unjudged rule h k = absurd h

-- a phrase of two parts
pub surely_both : {A B C : Type 0} (P : A → Type 0) (R : B → Type 0) (Q : C → Type 0) (v : Verdict A) (w : Verdict B) (rule : A → B → Verdict C)
    → Surely P v → Surely R w → ((a : A) (b : B) → P a → R b → Surely Q (rule a b)) → Surely Q (both v w rule)
surely_both P R Q (Faulty f fs) (Faulty g gs) rule h l k = tt
surely_both P R Q (Faulty f fs) Unjudged rule h l k = tt
surely_both P R Q (Faulty f fs) (Of b) rule h l k = tt
surely_both P R Q Unjudged w rule h l k = absurd h
surely_both P R Q (Of a) (Faulty g gs) rule h l k = tt
surely_both P R Q (Of a) Unjudged rule h l k = absurd l
surely_both P R Q (Of a) (Of b) rule h l k = k a b h l

-- further faults
pub surely_unless : {A : Type 0} (P : A → Type 0) (fs : List Fault) (v : Verdict A) → (fs ≡ [] → Surely P v) → Surely P (unless_faulty fs v)
surely_unless P [] v h = h refl
surely_unless P (f ∷ fs) v h = tt

-- a phrase that has to be so
pub surely_fits : {A B : Type 0} (P : B → Type 0) (b : Bool) (at : ℕ) (a : A) (rule : A → Verdict B) → (b ≡ true → Surely P (rule a))
    → Surely P (after (if_fits b at a) rule)
surely_fits P true at a rule h = h refl
surely_fits P false at a rule h = tt

-- a name of another kind, whose declaration has no fault
pub surely_other : {A : Type 0} (P : A → Type 0) (sound : Bool) (at : ℕ) → sound ≡ true → Surely P (other_kind sound at)
surely_other P true at e = tt
surely_other P false at e = absurd cc

-- what has no fault is in order
pub surely_is : {A : Type 0} (P : A → Type 0) (v : Verdict A) → Surely P v → faults_of v ≡ [] → (a : A) × (v ≡ Of a) × P a
surely_is P (Of a) h e = (a, refl, h)
surely_is P (Faulty f fs) h e = absurd cc
surely_is P Unjudged h e = absurd h
