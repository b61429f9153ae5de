-- What was shown of a store's fields holds of its value.
use Rattle.std.proofs.Common.{◌≡◌, ℕ, Bool, true, Option, Some, Result, ap, subst, sym, ◌∙◌}
use Rattle.arena_laws.specs.declared.refusal.StoreRefusal.{StoreRefusal}
use Rattle.arena_laws.specs.declared.owner.Owner.{Owner}
use Rattle.arena_laws.specs.declared.owner.Owner.TheVariants.{Alone}
use Rattle.arena_laws.specs.Holdings.{Holdings, is_some}
use Rattle.arena_laws.specs.Lawful.{Done}
use Rattle.arena_laws.specs.Laws.{Does, stored}
use Rattle.cyc_arena.specs.Plain.{Plain, byte_at, holdings_of, owner_at, standing_at}

pub does_along : (law : Holdings → Done) (result : Result ℕ StoreRefusal) (after : Holdings) (fields value : Plain) → fields ≡ value →
    Does result after (law (holdings_of fields)) → Does result after (law (holdings_of value))
does_along law result after fields value e d = subst (λ m. Does result after (law (holdings_of m))) e d

pub test_along : (test : Holdings → Bool) (b : Bool) (fields value : Plain) → fields ≡ value → b ≡ test (holdings_of fields) → b ≡ test (holdings_of value)
test_along test b fields value e d = subst (λ m. b ≡ test (holdings_of m)) e d

pub holds_along : (law : Holdings → Holdings) (after : Holdings) (fields value : Plain) → fields ≡ value →
    after ≡ law (holdings_of fields) → after ≡ law (holdings_of value)
holds_along law after fields value e d = subst (λ m. after ≡ law (holdings_of m)) e d

-- a number that stands for something in the value does in the fields
pub there_before : (number : ℕ) (fields value : Plain) → fields ≡ value → is_some (standing_at value.standing number) ≡ true →
    is_some (standing_at fields.standing number) ≡ true
there_before number fields value e d = subst (λ m. is_some (standing_at m.standing number) ≡ true) (sym e) d

pub stores_along : (at byte : ℕ) (after : ℕ → ℕ) (fields value : Plain) → fields ≡ value →
    after ≡ stored at byte (holdings_of fields) (byte_at fields.bytes) → after ≡ stored at byte (holdings_of value) (byte_at value.bytes)
stores_along at byte after fields value e d = subst (λ m. after ≡ stored at byte (holdings_of m) (byte_at m.bytes)) e d

pub owner_along : (q : ℕ) (owner : Option Owner) (fields value : Plain) → fields ≡ value →
    owner ≡ owner_at fields.owner fields.used fields.slots q → owner ≡ owner_at value.owner value.used value.slots q
owner_along q owner fields value e d = subst (λ m. owner ≡ owner_at m.owner m.used m.slots q) e d

-- what was found of the value: the unique block that begins at an address
pub alone_before : (at : ℕ) (found : Option Owner) (owner : Owner) (from room : ℕ) (fields value : Plain) → fields ≡ value →
    found ≡ owner_at value.owner value.used value.slots at → found ≡ Some owner → owner ≡ Alone from room → from ≡ at →
    owner_at fields.owner fields.used fields.slots at ≡ Some (Alone at room)
alone_before at found owner from room fields value e f s o b =
    subst (λ m. owner_at m.owner m.used m.slots at ≡ Some (Alone at room)) (sym e) (sym f ∙ s ∙ ap Some (o ∙ ap (λ n. Alone n room) b))
