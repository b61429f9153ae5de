-- The shape that an expression has without a run is that of its type, but that a pointer may be shared where its type is unique: `&` of a place in a unique
-- block gives one, where nothing gets to it.
use Rattle.std.proofs.Common.{◌≡◌, false, refl, sym, subst}
use Rattle.source_lowering.specs.Lowerable.{IsGivenShape, IsOperandShape, IsThinShape, IsWordShape}
use Rattle.source_lowering.specs.Lowered.{valued}
use Rattle.source_meaning.specs.Shapes.{Reach}
use Rattle.source_meaning.specs.Memory.{is_alone}
use Rattle.source_meaning.specs.Shapes.{
  Alone,
  FatShape,
  Owner,
  Shape,
  Shared,
  ThinShape,
  Unsaid,
  first_owner,
  pointee,
  settled_by,
  shared_owner,
}
use Rattle.source_meaning.specs.Steps.{World}
use Rattle.accepted_proof.proofs.Known.{IsKnown, known_target}

pub data StandsAs : Shape → Shape → Type 0 where
  Exactly : {s : Shape} → StandsAs s s
  ThinAs : {b : Reach} {o q : Owner} {s t : Shape} → (is_alone q ≡ false → is_alone o ≡ false) → StandsAs s t → StandsAs (ThinShape b o s) (ThinShape b q t)
  FatAs : {s t : Shape} → StandsAs s t → StandsAs (FatShape s) (FatShape t)

pub stands_same : (s t : Shape) → s ≡ t → StandsAs s t
stands_same s t e = subst (λ z. StandsAs s z) e Exactly

pub stands_to : (s t u : Shape) → StandsAs s t → t ≡ u → StandsAs s u
stands_to s t u h e = subst (λ z. StandsAs s z) e h

pub stands_from : (s t u : Shape) → s ≡ t → StandsAs t u → StandsAs s u
stands_from s t u e h = subst (λ z. StandsAs z u) (sym e) h

-- what no pointer is
abbrev pub IsNoPointer : Shape → Type 0
IsNoPointer (ThinShape b o s) = ⊥
IsNoPointer (FatShape s) = ⊥
IsNoPointer s = Unit {0}

pub stands_exactly : (s t : Shape) → StandsAs s t → IsNoPointer t → s ≡ t
stands_exactly s t Exactly k = refl
stands_exactly s t (ThinAs e h) k = absurd k
stands_exactly s t (FatAs h) k = absurd k

pub operand_stands : (s t : Shape) → StandsAs s t → IsOperandShape t → IsOperandShape s
operand_stands s t Exactly k = k
operand_stands s t (ThinAs e h) k = tt
operand_stands s t (FatAs h) k = tt

-- a thin pointer, unique or not
pub thin_stands : (s t : Shape) → StandsAs s t → IsThinShape t → IsThinShape s
thin_stands s t Exactly k = k
thin_stands s t (ThinAs e h) k = tt
thin_stands s t (FatAs h) k = absurd k

pub thin_word : (w : World) (s : Shape) → IsThinShape s → IsKnown w s → IsWordShape s
thin_word w (ThinShape b o s) h k = known_target w s k
thin_word w _ h k = absurd h

-- no unique pointer, where the type is none
pub given_stands : (s t : Shape) → StandsAs s t → IsGivenShape t → IsGivenShape s
given_stands s t Exactly k = k
given_stands s t (ThinAs e h) k = e k
given_stands s t (FatAs h) k = tt

pub known_stands : (w : World) (s t : Shape) → StandsAs s t → IsKnown w t → IsKnown w s
known_stands w s t Exactly k = k
known_stands w s t (ThinAs {s = a} {t = b} e h) k = known_stands w a b h k
known_stands w s t (FatAs {s = a} {t = b} h) k = known_stands w a b h k

pub pointee_stands : (s t : Shape) → StandsAs s t → StandsAs (pointee s) (pointee t)
pointee_stands s t Exactly = Exactly
pointee_stands s t (ThinAs e h) = h
pointee_stands s t (FatAs h) = h

pub valued_stands : (s t : Shape) → StandsAs s t → StandsAs (valued s) (valued t)
valued_stands s t Exactly = Exactly
valued_stands s t (ThinAs e h) = ThinAs e h
valued_stands s t (FatAs h) = FatAs h

-- ---- types as they are written, with what an initializer says

shared_alone : (o : Owner) → is_alone (shared_owner o) ≡ is_alone o
shared_alone Shared = refl
shared_alone Alone = refl
shared_alone Unsaid = refl

first_stands : (o p q : Owner) → (is_alone q ≡ false → is_alone p ≡ false) → is_alone (first_owner o q) ≡ false → is_alone (first_owner o p) ≡ false
first_stands Unsaid p q e h = subst (λ z. z ≡ false) (sym (shared_alone p)) (e (subst (λ z. z ≡ false) (shared_alone q) h))
first_stands Shared p q e h = refl
first_stands Alone p q e h = h

pub settled_stands : (x s t : Shape) → StandsAs s t → StandsAs (settled_by x s) (settled_by x t)
settled_stands x s t Exactly = Exactly
settled_stands (ThinShape b o y) s t (ThinAs {o = p} {q = q} {s = c} {t = d} e h) = ThinAs (first_stands o p q e) (settled_stands y c d h)
settled_stands (FatShape y) s t (ThinAs {s = c} {t = d} e h) = FatAs (settled_stands y c d h)
settled_stands _ s t (ThinAs e h) = Exactly
settled_stands (ThinShape b o y) s t (FatAs {s = c} {t = d} h) = ThinAs (λ z. z) (settled_stands y c d h)
settled_stands (FatShape y) s t (FatAs {s = c} {t = d} h) = FatAs (settled_stands y c d h)
settled_stands _ s t (FatAs h) = Exactly
