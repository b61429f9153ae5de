-- View of code: where the members of a struct or union stand, by their names.
use Rattle.std.specs.Prelude.{List, None, Option, Some, bytes_eq, slice_get, ℕ, ◌+◌, ◌≡◌, if◌then◌else◌, [], ◌∷◌}
use Rattle.indexmap.specs.IndexMap.{get_by}
use Rattle.cyc_types.specs.declared.member_names.MemberNames.{MemberNames}
use Rattle.cyc_types.specs.declared.tag.Member.{Member}

-- the position that a table has for a name
abbrev pub position_named : MemberNames → List ℕ → Option ℕ
position_named names x = get_by (λ key. bytes_eq x key.now) names.by_name

-- the position of the first member of a name, where the first of these has the position k
abbrev pub position_from : List Member → ℕ → List ℕ → Option ℕ
position_from [] k x = None
position_from (m ∷ ms) k x = (if bytes_eq m.name.now x then Some k else position_from ms (k + 1) x)

-- the member at a position, where there is one
abbrev pub member_at : List Member → Option ℕ → Option Member
member_at ms None = None
member_at ms (Some i) = slice_get ms i

-- each name has the position of the first member of that name
pub record AreNamed (names : MemberNames) (ms : List Member) : Type 0 where
  pub positions : (x : List ℕ) → position_named names x ≡ position_from ms 0 x
