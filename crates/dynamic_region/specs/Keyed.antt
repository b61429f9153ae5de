-- Believed: what is held where some regions are keys'.
use Rattle.std.specs.Prelude.{◌≡◌, Option, Some, None, ℕ, Bool, true, false, nat_eq, if◌then◌else◌}
use Rattle.arena_laws.specs.declared.standing.Standing.{Standing}
use Rattle.arena_laws.specs.declared.standing.Standing.TheVariants.{Lexical, Opened, Closed}
use Rattle.arena_laws.specs.Holdings.{Holdings}

-- what a number stands for by its region's tag: 0 for a lexical region, 1 for a closed key, any other for an open key
abbrev pub standing_of : Option ℕ → Option Standing
standing_of None = None
standing_of (Some tag) = Some (if nat_eq tag 0 then Lexical else if nat_eq tag 1 then Closed else Opened)

-- what no block is taken under, though its region is live
abbrev pub is_closed_key : Option Standing → Bool
is_closed_key None = false
is_closed_key (Some Lexical) = false
is_closed_key (Some Opened) = false
is_closed_key (Some Closed) = true

-- what regions with tags hold: their blocks and counts, and numbers that stand for what their tags say
abbrev pub keyed : Holdings → (ℕ → Option ℕ) → Holdings
keyed s tags = record s { standing = λ h. standing_of (tags h) }

abbrev pub held_by : {A : Type 0} → (A → Holdings) → (A → ℕ → Option ℕ) → A → Holdings
held_by holdings tag_of x = keyed (holdings x) (tag_of x)

-- regions without keys: each that has a tag is a lexical one
abbrev pub lexical : Option ℕ → Option Standing
lexical None = None
lexical (Some tag) = Some Lexical

-- the live regions are those with a tag
pub record AreTagged (s : Holdings) (tags : ℕ → Option ℕ) : Type 0 where
  pub each : (h : ℕ) → s.standing h ≡ lexical (tags h)
