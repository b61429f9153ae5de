-- A key is opened or closed.
use Rattle.std.proofs.Common.{◌≡◌, ℕ, ◌<◌, List, length, Option, Some, Ok, refl, subst, arith}
use Rattle.std.specs.Prelude.{slice_set}
use Rattle.arena_laws.specs.declared.standing.Standing.{Standing}
use Rattle.arena_laws.specs.declared.standing.Standing.TheVariants.{Opened, Closed}
use Rattle.arena_laws.specs.Lawful.{standing_as, key_open, opens, key_close, closes}
use Rattle.arena_laws.specs.Laws.{Does}
use Rattle.cyc_arena.specs.Plain.{Plain, standing_at, holdings_of}
use Rattle.std.proofs.lemmas.Grind.{common_steps}
use Rattle.cyc_arena.proofs.Words.{standing_set}

-- a number that stands for something has a place
is_number : (xs : List (Option Standing)) (k : ℕ) (x : Standing) → Some x ≡ standing_at xs k → k < length xs
is_number xs k x e = grind (arith, common_steps)

module _ (s : Plain) (k : ℕ) where
  turned_holds : (was now : Standing) → Some was ≡ standing_at s.standing k → holdings_of (record s { standing = slice_set s.standing k (Some now) })
      ≡ standing_as k now (holdings_of s)
  turned_holds was now e = λ i. record (holdings_of s) { standing = λ q. standing_set s.standing k (Some now) q (is_number s.standing k was e) i }

  pub opened_does : Some Closed ≡ standing_at s.standing k → Does (Ok k) (holdings_of (record s { standing = slice_set s.standing k (Some Opened) }))
      (key_open k (holdings_of s))
  opened_does e =
      subst (λ t. Does (Ok k) (holdings_of (record s { standing = slice_set s.standing k (Some Opened) })) (opens k t (holdings_of s))) e
      (record { says = refl; holds = turned_holds Closed Opened e })

  pub closed_does : Some Opened ≡ standing_at s.standing k → Does (Ok 0) (holdings_of (record s { standing = slice_set s.standing k (Some Closed) }))
      (key_close k (holdings_of s))
  closed_does e =
      subst (λ t. Does (Ok 0) (holdings_of (record s { standing = slice_set s.standing k (Some Closed) })) (closes k t (holdings_of s))) e
      (record { says = refl; holds = turned_holds Opened Closed e })
