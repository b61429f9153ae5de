-- A phrase in which the rules find no fault is the same without those on live regions.
use Rattle.std.proofs.Common.{◌≡◌, ℕ, Bool, true, false, List, [], ◌∷◌, refl, sym, subst, ap, ap₂}
use Rattle.std.specs.Prelude.{◌||◌, ◌++◌}
use Rattle.source_typing.specs.Faults.{Fault, own_after}
use Rattle.source_typing.specs.Making.{Goal, array_made, array_misfits, array_of, by_parts, is_no_handle, made, made_of}
use Rattle.source_typing.specs.Scope.{Env, Value}
use Rattle.source_typing.specs.Verdicts.{Faulty, Of, Unjudged, Verdict, after, both, faults_of, unless_faulty}

-- a scope without the rules on live regions
abbrev pub eased : Env → Env
eased g = record g { lenient = true }

-- where there is no fault, the phrase is the same
abbrev pub Stays : {A : Type 0} → Verdict A → Verdict A → Type 0
Stays (Faulty f fs) w = Unit {0}
Stays Unjudged w = (w ≡ Unjudged)
Stays (Of a) w = (w ≡ Of a)

pub stays_same : {A : Type 0} (v : Verdict A) → Stays v v
stays_same (Faulty f fs) = tt
stays_same Unjudged = refl
stays_same (Of a) = refl

pub stays_of : {A : Type 0} (v w : Verdict A) → w ≡ v → Stays v w
stays_of v w e = subst (λ x. Stays v x) (sym e) (stays_same v)

pub stays_is : {A : Type 0} (v w : Verdict A) → Stays v w → faults_of v ≡ [] → w ≡ v
stays_is (Faulty f fs) w s e = absurd cc
stays_is Unjudged w s e = s
stays_is (Of a) w s e = s

-- it has no fault then
pub stays_clean : {A : Type 0} (v w : Verdict A) → Stays v w → faults_of v ≡ [] → faults_of w ≡ []
stays_clean v w s e = subst (λ x. faults_of x ≡ []) (sym (stays_is v w s e)) e

pub stays_after : {A B : Type 0} (v w : Verdict A) (rule other : A → Verdict B) → Stays v w → ((a : A) → Stays (rule a) (other a))
    → Stays (after v rule) (after w other)
stays_after (Faulty f fs) w rule other s each = tt
stays_after Unjudged w rule other s each = ap (λ x. after x other) s
stays_after (Of a) w rule other s each = subst (λ x. Stays (rule a) (after x other)) (sym s) (each a)

pub stays_both : {A B C : Type 0} (v w : Verdict A) (x y : Verdict B) (rule other : A → B → Verdict C) → Stays v w → Stays x y
    → ((a : A) (b : B) → Stays (rule a b) (other a b)) → Stays (both v x rule) (both w y other)
stays_both (Faulty f fs) w (Faulty g gs) y rule other s t each = tt
stays_both (Faulty f fs) w Unjudged y rule other s t each = tt
stays_both (Faulty f fs) w (Of b) y rule other s t each = tt
stays_both Unjudged w (Faulty g gs) y rule other s t each = tt
stays_both Unjudged w Unjudged y rule other s t each = ap₂ (λ p q. both p q other) s t
stays_both Unjudged w (Of b) y rule other s t each = ap₂ (λ p q. both p q other) s t
stays_both (Of a) w (Faulty g gs) y rule other s t each = tt
stays_both (Of a) w Unjudged y rule other s t each = ap₂ (λ p q. both p q other) s t
stays_both (Of a) w (Of b) y rule other s t each =
    subst (λ p. Stays (rule a b) (both p y other)) (sym s) (subst (λ q. Stays (rule a b) (both (Of a) q other)) (sym t) (each a b))

-- faults that aren't there, or else what the rule says
pub stays_unless : {A : Type 0} (fs gs : List Fault) (v w : Verdict A) → (fs ≡ [] → gs ≡ []) → Stays v w → Stays (unless_faulty fs v) (unless_faulty gs w)
stays_unless [] gs v w none s = subst (λ hs. Stays v (unless_faulty hs w)) (sym (none refl)) s
stays_unless (f ∷ fs) gs v w none s = tt

-- ---- making

stays_parts : (at : ℕ) (misfits : Bool) (v w : Verdict Value) → Stays v w → Stays (by_parts at misfits v) (by_parts at misfits w)
stays_parts at misfits (Faulty f fs) w s = tt
stays_parts at misfits Unjudged w s = stays_of (by_parts at misfits Unjudged) (by_parts at misfits w) (ap (by_parts at misfits) s)
stays_parts at misfits (Of a) w s = stays_of (by_parts at misfits (Of a)) (by_parts at misfits w) (ap (by_parts at misfits) s)

faulty_parts : {A : Type 0} (at : ℕ) (misfits : Bool) (goal : Verdict Goal) (f : Fault) (fs : List Fault) (rule : Goal → A → Verdict Value)
    (w : Verdict Value) → Stays (by_parts at misfits (both goal (Faulty f fs) rule)) w
faulty_parts at misfits (Faulty g gs) f fs rule w = tt
faulty_parts at misfits Unjudged f fs rule w = tt
faulty_parts at misfits (Of x) f fs rule w = tt

pub wrong_goal : {A : Type 0} (at : ℕ) (misfits : Bool) (f : Fault) (fs : List Fault) (v : Verdict A) (rule : Goal → A → Verdict Value) (w : Verdict Value)
    → Stays (by_parts at misfits (both (Faulty f fs) v rule)) w
wrong_goal at misfits f fs (Faulty g gs) rule w = tt
wrong_goal at misfits f fs Unjudged rule w = tt
wrong_goal at misfits f fs (Of a) rule w = tt

-- by an operand that stays
pub stays_made : (at : ℕ) (goal : Verdict Goal) (v w : Verdict Value) → Stays v w → Stays (made_of at goal v) (made_of at goal w)
stays_made at goal (Faulty f fs) w s = faulty_parts at (is_no_handle goal || false) goal f fs (made at) (made_of at goal w)
stays_made at goal Unjudged w s = stays_of (made_of at goal Unjudged) (made_of at goal w) (ap (made_of at goal) s)
stays_made at goal (Of a) w s = stays_of (made_of at goal (Of a)) (made_of at goal w) (ap (made_of at goal) s)

-- by a count and an element that stay
faulty_element : (at : ℕ) (goal : Verdict Goal) (n : Verdict Value) (f : Fault) (fs : List Fault) (w : Verdict Value)
    → Stays (array_of at goal n (Faulty f fs)) w
faulty_element at goal (Faulty c cs) f fs w = faulty_parts at (array_misfits goal (Faulty c cs) (Faulty f fs)) goal c (cs ++ f ∷ fs) (array_made at) w
faulty_element at goal Unjudged f fs w = faulty_parts at (array_misfits goal Unjudged (Faulty f fs)) goal f fs (array_made at) w
faulty_element at goal (Of c) f fs w = faulty_parts at (array_misfits goal (Of c) (Faulty f fs)) goal f fs (array_made at) w

faulty_count : (at : ℕ) (goal : Verdict Goal) (f : Fault) (fs : List Fault) (e w : Verdict Value) → Stays (array_of at goal (Faulty f fs) e) w
faulty_count at goal f fs (Faulty c cs) w = faulty_parts at (array_misfits goal (Faulty f fs) (Faulty c cs)) goal f (fs ++ c ∷ cs) (array_made at) w
faulty_count at goal f fs Unjudged w = faulty_parts at (array_misfits goal (Faulty f fs) Unjudged) goal f fs (array_made at) w
faulty_count at goal f fs (Of c) w = faulty_parts at (array_misfits goal (Faulty f fs) (Of c)) goal f fs (array_made at) w

array_same : (at : ℕ) (goal : Verdict Goal) (n m e x : Verdict Value) → m ≡ n → x ≡ e → Stays (array_of at goal n e) (array_of at goal m x)
array_same at goal n m e x p q = stays_of (array_of at goal n e) (array_of at goal m x) (ap₂ (array_of at goal) p q)

pub stays_array : (at : ℕ) (goal : Verdict Goal) (n m e x : Verdict Value) → Stays n m → Stays e x
    → Stays (array_of at goal n e) (array_of at goal m x)
stays_array at goal (Faulty f fs) m e x s t = faulty_count at goal f fs e (array_of at goal m x)
stays_array at goal Unjudged m (Faulty f fs) x s t = faulty_element at goal Unjudged f fs (array_of at goal m x)
stays_array at goal Unjudged m Unjudged x s t = array_same at goal Unjudged m Unjudged x s t
stays_array at goal Unjudged m (Of b) x s t = array_same at goal Unjudged m (Of b) x s t
stays_array at goal (Of a) m (Faulty f fs) x s t = faulty_element at goal (Of a) f fs (array_of at goal m x)
stays_array at goal (Of a) m Unjudged x s t = array_same at goal (Of a) m Unjudged x s t
stays_array at goal (Of a) m (Of b) x s t = array_same at goal (Of a) m (Of b) x s t

-- ---- lists of faults

pub own_none : (own parts : List Fault) → own ≡ [] → parts ≡ [] → own_after own parts ≡ []
own_none own parts a b = ap₂ own_after a b
