-- Members of structs and unions by their names: the first of a name is the one that the rules find.
use Rattle.std.proofs.Common.{◌≡◌, ◌∙◌, ℕ, suc, ◌+◌, List, [], ◌∷◌, Bool, true, false, Option, Some, None, if◌then◌else◌, ap, refl, sym, arith}
use Rattle.std.specs.Prelude.{bytes_eq, is_some, option_map}
use Rattle.source_meaning.specs.Places.{or_else}
use Rattle.source_typing.specs.Tables.{Part, part_in}
use Rattle.cyc_types.specs.MemberNames.{member_at, position_from}
use Rattle.cyc_types.specs.Tags.{member_of, members_of}
use Rattle.cyc_types.specs.declared.tag.Member.{Member}

-- ---- a member at its position

moved_on : (ms : List Member) (k : ℕ) (x : List ℕ) → position_from ms (k + 1) x ≡ option_map suc (position_from ms k x)
moved_on [] k x = refl
moved_on (m ∷ ms) k x = by (bytes_eq m.name.now x) (moved_on ms (k + 1) x)
  where
    by : (b : Bool) → position_from ms (k + 1 + 1) x ≡ option_map suc (position_from ms (k + 1) x)
        → (if b then Some (k + 1) else position_from ms (k + 1 + 1) x) ≡ option_map suc (if b then Some k else position_from ms (k + 1) x)
    by true others = let next : k + 1 ≡ suc k = omega arith in ap Some next
    by false others = others

behind : (m : Member) (ms : List Member) (i : Option ℕ) → member_at (m ∷ ms) (option_map suc i) ≡ member_at ms i
behind m ms None = refl
behind m ms (Some i) = refl

-- the member at the position of the first of a name is what the rules find
pub found_at : (ms : List Member) (x : List ℕ) → option_map member_of (member_at ms (position_from ms 0 x)) ≡ part_in (members_of ms) x
found_at [] x = refl
found_at (m ∷ ms) x = by (bytes_eq m.name.now x) (found_at ms x)
  where
    by : (b : Bool) → option_map member_of (member_at ms (position_from ms 0 x)) ≡ part_in (members_of ms) x
        → option_map member_of (member_at (m ∷ ms) (if b then Some 0 else position_from ms (0 + 1) x))
        ≡ (if b then Some (member_of m) else part_in (members_of ms) x)
    by true others = refl
    by false others =
        ap (λ i. option_map member_of (member_at (m ∷ ms) i)) (moved_on ms 0 x)
        ∙ ap (option_map member_of) (behind m ms (position_from ms 0 x))
        ∙ others

-- ---- one name more

-- the next of the members that are left
pub one_further : (old : Option ℕ) (own : Bool) (k : ℕ) (rest : Option ℕ)
    → or_else (or_else old (if own then Some k else None)) rest ≡ or_else old (if own then Some k else rest)
one_further None true k rest = refl
one_further None false k rest = refl
one_further (Some i) own k rest = refl
