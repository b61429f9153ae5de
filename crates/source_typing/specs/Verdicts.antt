-- Believed: how a phrase is judged from its parts.
use Rattle.std.specs.Prelude.{Bool, List, None, Option, Some, false, true, ℕ, [], ◌∷◌, ◌++◌}
use Rattle.source_typing.specs.Faults.{Fault, fault, type_rule}

-- A phrase is invalid, with a first fault and others; or it isn't checked, since the declaration of a name in it has a fault; or it is in order.
pub data Verdict (A : Type 0) : Type 0 where
  Faulty : Fault → List Fault → Verdict A
  Unjudged : Verdict A
  Of : A → Verdict A

abbrev pub refuse : {A : Type 0} → ℕ → ℕ → Verdict A
refuse kind at = Faulty (fault kind at) []

-- the faults of a phrase
abbrev pub faults_of : {A : Type 0} → Verdict A → List Fault
faults_of (Faulty f fs) = f ∷ fs
faults_of Unjudged = []
faults_of (Of a) = []

-- what a phrase is, where it is in order
abbrev pub known : {A : Type 0} → Verdict A → Option A
known (Of a) = Some a
known (Faulty f fs) = None
known Unjudged = None

-- these faults, or else what the rule says
abbrev pub unless_faulty : {A : Type 0} → List Fault → Verdict A → Verdict A
unless_faulty [] v = v
unless_faulty (f ∷ fs) v = Faulty f fs

-- a phrase of one part: its faults; or it isn't checked, as the part isn't; or the rule on what the part is
abbrev pub after : {A B : Type 0} → Verdict A → (A → Verdict B) → Verdict B
after (Faulty f fs) rule = Faulty f fs
after Unjudged rule = Unjudged
after (Of a) rule = rule a

-- a phrase of two parts: all faults of both; or it isn't checked; or the rule on what they are
abbrev pub both : {A B C : Type 0} → Verdict A → Verdict B → (A → B → Verdict C) → Verdict C
both (Faulty f fs) (Faulty g gs) rule = Faulty f (fs ++ g ∷ gs)
both (Faulty f fs) Unjudged rule = Faulty f fs
both (Faulty f fs) (Of b) rule = Faulty f fs
both Unjudged (Faulty g gs) rule = Faulty g gs
both Unjudged Unjudged rule = Unjudged
both Unjudged (Of b) rule = Unjudged
both (Of a) (Faulty g gs) rule = Faulty g gs
both (Of a) Unjudged rule = Unjudged
both (Of a) (Of b) rule = rule a b

-- a phrase that has to be so
abbrev pub if_fits : {A : Type 0} → Bool → ℕ → A → Verdict A
if_fits true at a = Of a
if_fits false at a = refuse type_rule at

-- a name of another kind than its use needs; where its declaration has a fault, the use isn't checked
abbrev pub other_kind : {A : Type 0} → Bool → ℕ → Verdict A
other_kind true at = refuse type_rule at
other_kind false at = Unjudged
