-- States that meet themselves, and turns of a loop that change nothing.
use Rattle.std.proofs.Common.{◌≡◌, ℕ, zero, suc, [], ◌∷◌, refl, ap, ap₂, ◌∙◌}
use Rattle.source_typing.specs.States.{Gone, Held, Lent, Plain, State, States, iterate, meet, meet_all}

meet_itself : (a : State) → meet a a ≡ a
meet_itself Plain = refl
meet_itself Held = refl
meet_itself Gone = refl
meet_itself Lent = refl

pub meet_all_itself : (s : States) → meet_all s s ≡ s
meet_all_itself [] = refl
meet_all_itself (a ∷ s) = ap₂ (λ b t. b ∷ t) (meet_itself a) (meet_all_itself s)

pub same_turns : (n : ℕ) (turn : States → States) (s : States) → turn s ≡ s → iterate n turn s ≡ s
same_turns zero turn s e = refl
same_turns (suc n) turn s e = ap (λ t. iterate n turn t) e ∙ same_turns n turn s e
