-- Maps: what stays where they are extended.
use Rattle.std.specs.Prelude.{if◌then◌else◌}
use Rattle.std.proofs.Common.{◌≡◌, ℕ, ◌⊎◌, inl, inr, Bool, true, false, Option, Some, None, refl}
use Rattle.core_meaning.specs.Memory.{Content, Blank, Word, Null, Pointer, Birth}
use Rattle.core_lines.specs.Lies.{Maps, Extends, Shows}

pub if_split : {A : Type 0} (b : Bool) (x y z : A) → (if b then x else y) ≡ z → ((b ≡ true) × (x ≡ z)) ⊎ ((b ≡ false) × (y ≡ z))
if_split true x y z e = inl (refl, e)
if_split false x y z e = inr (refl, e)

abbrev or_else : {A : Type 0} → A → Option A → A
or_else x None = x
or_else x (Some y) = y

-- ---- maps

pub shows_on : (m n : Maps) (v : Content) (x : ℕ) → Extends m n → Shows m v x → Shows n v x
shows_on m n Blank x e s = s
shows_on m n (Word k) x e s = s
shows_on m n Null x e s = s
shows_on m n (Pointer p b) x e s = record { base = s.base; known = e.base p.region p.object s.base s.known; at = s.at; positive = s.positive }
shows_on m n (Birth d) x e s = e.number d x s

pub extends_self : (m : Maps) → Extends m m
extends_self m = record { base = λ r o x h. h; number = λ d h k. k }

pub extends_on : (m n k : Maps) → Extends m n → Extends n k → Extends m k
extends_on m n k e f = record { base = λ r o x h. f.base r o x (e.base r o x h); number = λ d h x. f.number d h (e.number d h x) }
