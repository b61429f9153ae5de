-- What is known of a phrase where it is in order, and nothing where it has a fault or isn't checked: how a phrase follows its parts.
use Rattle.std.proofs.Common.{ℕ, Bool, true, false, List, [], ◌∷◌, ◌≡◌, subst}
use Rattle.std.specs.Prelude.{◌||◌}
use Rattle.source_typing.specs.Faults.{Fault}
use Rattle.source_typing.specs.Making.{Goal, array_made, array_misfits, array_of, by_parts, elements, is_no_handle, is_other, made, made_of}
use Rattle.source_typing.specs.Scope.{Value}
use Rattle.source_typing.specs.Types.{is_makeable}
use Rattle.source_typing.specs.Verdicts.{Faulty, Of, Unjudged, Verdict, after, both, if_fits, other_kind, unless_faulty}
use Rattle.source_typing.specs.Written.{if_sound}

abbrev pub Perhaps : {A : Type 0} → (A → Type 0) → Verdict A → Type 0
Perhaps P (Of a) = P a
Perhaps P (Faulty f fs) = Unit {0}
Perhaps P Unjudged = Unit {0}

pub perhaps_is : {A : Type 0} (P : A → Type 0) (v : Verdict A) (a : A) → Perhaps P v → v ≡ Of a → P a
perhaps_is P (Of b) a h e = let same : b ≡ a = cc in subst P same h
perhaps_is P (Faulty f fs) a h e = absurd cc
perhaps_is P Unjudged a h e = absurd cc

-- a phrase of one part
pub perhaps_after : {A B : Type 0} (P : A → Type 0) (Q : B → Type 0) (v : Verdict A) (rule : A → Verdict B) → Perhaps P v
    → ((a : A) → P a → Perhaps Q (rule a)) → Perhaps Q (after v rule)
perhaps_after P Q (Of a) rule h k = k a h
perhaps_after P Q (Faulty f fs) rule h k = tt
perhaps_after P Q Unjudged rule h k = tt

-- whatever the part is
pub perhaps_rule : {A B : Type 0} (Q : B → Type 0) (v : Verdict A) (rule : A → Verdict B) → ((a : A) → Perhaps Q (rule a)) → Perhaps Q (after v rule)
perhaps_rule Q (Of a) rule k = k a
perhaps_rule Q (Faulty f fs) rule k = tt
perhaps_rule Q Unjudged rule k = tt

-- a phrase of two parts
pub perhaps_both : {A B C : Type 0} (P : A → Type 0) (R : B → Type 0) (Q : C → Type 0) (v : Verdict A) (w : Verdict B) (rule : A → B → Verdict C)
    → Perhaps P v → Perhaps R w → ((a : A) (b : B) → P a → R b → Perhaps Q (rule a b)) → Perhaps Q (both v w rule)
perhaps_both P R Q (Faulty f fs) (Faulty g gs) rule h l k = tt
perhaps_both P R Q (Faulty f fs) Unjudged rule h l k = tt
perhaps_both P R Q (Faulty f fs) (Of b) rule h l k = tt
perhaps_both P R Q Unjudged (Faulty g gs) rule h l k = tt
perhaps_both P R Q Unjudged Unjudged rule h l k = tt
perhaps_both P R Q Unjudged (Of b) rule h l k = tt
perhaps_both P R Q (Of a) (Faulty g gs) rule h l k = tt
perhaps_both P R Q (Of a) Unjudged rule h l k = tt
perhaps_both P R Q (Of a) (Of b) rule h l k = k a b h l

-- by the first of them, whatever the second is
pub perhaps_first : {A B C : Type 0} (P : A → Type 0) (Q : C → Type 0) (v : Verdict A) (w : Verdict B) (rule : A → B → Verdict C)
    → Perhaps P v → ((a : A) (b : B) → P a → Perhaps Q (rule a b)) → Perhaps Q (both v w rule)
perhaps_first P Q v w rule h k = perhaps_both P (λ b. Unit {0}) Q v w rule h (always w) (λ a b p q. k a b p)
  where
    always : {B : Type 0} (w : Verdict B) → Perhaps (λ (b : B). Unit {0}) w
    always (Of b) = tt
    always (Faulty f fs) = tt
    always Unjudged = tt

-- further faults
pub perhaps_unless : {A : Type 0} (P : A → Type 0) (fs : List Fault) (v : Verdict A) → Perhaps P v → Perhaps P (unless_faulty fs v)
perhaps_unless P [] v h = h
perhaps_unless P (f ∷ fs) v h = tt

-- a phrase that has to be so
pub perhaps_fits : {A : Type 0} (P : A → Type 0) (b : Bool) (at : ℕ) (a : A) → P a → Perhaps P (if_fits b at a)
perhaps_fits P true at a h = h
perhaps_fits P false at a h = tt

pub perhaps_fitting : {A B : Type 0} (Q : B → Type 0) (b : Bool) (at : ℕ) (a : A) (rule : A → Verdict B) → Perhaps Q (rule a)
    → Perhaps Q (after (if_fits b at a) rule)
perhaps_fitting Q true at a rule h = h
perhaps_fitting Q false at a rule h = tt

-- a name of another kind, and one whose declaration has a fault
pub perhaps_other : {A : Type 0} (P : A → Type 0) (sound : Bool) (at : ℕ) → Perhaps P (other_kind sound at)
perhaps_other P true at = tt
perhaps_other P false at = tt

pub perhaps_sound : {A : Type 0} (P : A → Type 0) (sound : Bool) (v : Verdict A) → Perhaps P v → Perhaps P (if_sound sound v)
perhaps_sound P true v h = h
perhaps_sound P false v h = tt

-- a making, wherever it is
perhaps_parts : (Q : Value → Type 0) (at : ℕ) (misfits : Bool) (v : Verdict Value) → Perhaps Q v → Perhaps Q (by_parts at misfits v)
perhaps_parts Q at misfits (Faulty f fs) h = tt
perhaps_parts Q at true Unjudged h = tt
perhaps_parts Q at false Unjudged h = tt
perhaps_parts Q at misfits (Of v) h = h

there : {A : Type 0} (P : A → Type 0) (Q : Value → Type 0) (at : ℕ) (misfits : Bool) (goal : Verdict Goal) (v : Verdict A) (rule : Goal → A → Verdict Value)
    → Perhaps P v → ((x : Goal) (a : A) → P a → Perhaps Q (rule x a)) → Perhaps Q (by_parts at misfits (both goal v rule))
there P Q at misfits goal v rule h k =
    perhaps_parts Q at misfits (both goal v rule) (perhaps_both (λ x. Unit {0}) P Q goal v rule (always goal) h (λ x a u p. k x a p))
  where
    always : (goal : Verdict Goal) → Perhaps (λ (x : Goal). Unit {0}) goal
    always (Of x) = tt
    always (Faulty f fs) = tt
    always Unjudged = tt

pub perhaps_made : (P Q : Value → Type 0) (at : ℕ) (goal : Verdict Goal) (e : Verdict Value) → Perhaps P e
    → ((x : Goal) (a : Value) → P a → Perhaps Q (made at x a)) → Perhaps Q (made_of at goal e)
perhaps_made P Q at goal e h k = there P Q at (is_no_handle goal || is_other is_makeable e) goal e (made at) h k

pub perhaps_array : (P : Value × Value → Type 0) (Q : Value → Type 0) (at : ℕ) (goal : Verdict Goal) (count e : Verdict Value)
    → Perhaps P (both count e elements) → ((x : Goal) (p : Value × Value) → P p → Perhaps Q (array_made at x p)) → Perhaps Q (array_of at goal count e)
perhaps_array P Q at goal count e h k = there P Q at (array_misfits goal count e) goal (both count e elements) (array_made at) h k
