-- A string: a fat pointer to its first character is in the temporaries.
use Rattle.std.proofs.Common.{◌≡◌, ℕ, List, [], ◌∷◌, Bool, true, false, nat_eq, Option, Some, None, refl, sym, ap, ◌∙◌, subst}
use Rattle.std.specs.Prelude.{if◌then◌else◌}
use Rattle.std.proofs.lemmas.Option.{none-some}
use Rattle.source_meaning.specs.Shapes.{CharShape, FatShape}
use Rattle.source_meaning.specs.Memory.{Scalar}
use Rattle.source_meaning.specs.Steps.{give, need, ◌>>=◌}
use Rattle.source_meaning.specs.Places.{value_sense, string_at}
use Rattle.core_meaning.specs.Meaning as meaning
use Rattle.source_lowering.specs.Lowered.{put, text_code}
use Rattle.source_lowering.specs.Lowerable.{AreStructs}
use Rattle.source_lowering.specs.Simulation.{IsText, AllStrings, Point, SameAt, GivesAs}
use Rattle.source_lowering.proofs.memory.Members.{lies_here}
use Rattle.source_lowering.proofs.expressions.Variables.{Agrees, stuck_gives}
use Rattle.source_lowering.proofs.expressions.VariableForms.{array_pointed}
use Rattle.source_lowering.proofs.expressions.Forms.{value_agrees}

-- what holds of all strings holds of the one that is found by its place
pub string_found : (holds : Scalar → Type 0) (ss : List (ℕ × Scalar)) (at : ℕ) (v : Scalar) → AllStrings holds ss → string_at ss at ≡ Some v → holds v
string_found holds [] at v h e = absurd (none-some v e)
string_found holds (s ∷ ss) at v (one, others) e = by (nat_eq s.0 at) refl (λ f. string_found holds ss at v others f)
  where
    some_is : (x y : Scalar) → Some x ≡ Some y → x ≡ y
    some_is x y f = cc f

    by : (b : Bool) → nat_eq s.0 at ≡ b → (string_at ss at ≡ Some v → holds v) → holds v
    by true f more = subst (λ z. holds z) (some_is s.1 v (sym (ap (λ b. if b then Some s.1 else string_at ss at) f) ∙ e)) one
    by false f more = more (sym (ap (λ b. if b then Some s.1 else string_at ss at) f) ∙ e)

pub text_agrees : (p : Point) (n d at : ℕ) → AreStructs p.world.unions p.world.structs
    → Agrees p n d (value_sense (FatShape CharShape) (need (string_at p.world.strings at) >>= λ v. give (v ∷ []))) (FatShape CharShape)
    (text_code (string_at p.world.strings at) d)
text_agrees p n d at structs =
    value_agrees p n d (FatShape CharShape) (FatShape CharShape) (need (string_at p.world.strings at) >>= λ v. give (v ∷ []))
    (text_code (string_at p.world.strings at) d) refl tt (gives (string_at p.world.strings at) refl)
  where
    gives : (found : Option Scalar) → string_at p.world.strings at ≡ found
        → GivesAs p n d (FatShape CharShape) (need found >>= λ v. give (v ∷ [])) (text_code found d)
    gives None e = stuck_gives p n d (FatShape CharShape) []
    gives (Some v) e = record {
      same = λ m c s rest next fits goes.
          let text = string_found (λ z. IsText p.world m c.memory z) p.world.strings at v fits.statics.strings e in
          subst (λ z. SameAt p n (s (z ∷ []) m) (meaning.statements (put (text_code (Some z) d) rest) next c)) (sym text.value)
          (array_pointed p n d text.number text.count CharShape m c s rest next text.few (lies_here p.world CharShape structs tt) fits text.leads goes);
    }
