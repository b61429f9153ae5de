-- View of code: how locals are linked: each name to its last local, and each local to the one that it hides.
use Rattle.std.specs.Prelude.{List, None, Option, Some, bytes_eq, length, map, reverse, unwrap_or, ℕ, ◌≡◌, if◌then◌else◌, [], ◌∷◌}
use Rattle.indexmap.specs.IndexMap.{get_by}
use Rattle.check_scopes.specs.Locals.{Known, known}
use Rattle.check_scopes.specs.declared.last.LastLocals.{LastLocals}
use Rattle.check_scopes.specs.declared.locals.Local.{Local}

-- these locals, in the same order
abbrev pub each_known : List Local → List Known
each_known ls = map (λ l. known l.name.now l.what) ls

-- locals in the order of their declarations, the latest first
abbrev pub known_of : List Local → List Known
known_of ls = each_known (reverse ls)

-- the last local of a name, by the table
abbrev pub last_in : LastLocals → List ℕ → Option ℕ
last_in last x = unwrap_or (get_by (λ key. bytes_eq x key.now) last.by_name) None

-- the latest one of a name, by how many were declared before it
abbrev pub position_of : List Known → List ℕ → Option ℕ
position_of [] x = None
position_of (k ∷ ks) x = (if bytes_eq k.name x then Some (length ks) else position_of ks x)

-- each of these, the latest first, hides what its name is before it
abbrev pub Hide : List Local → Type 0
Hide [] = Unit {0}
Hide (l ∷ ls) = (l.hidden ≡ position_of (each_known ls) l.name.now) × Hide ls

-- each local hides what its name is before it, and the table has what each name is
pub record AreLinked (locals : List Local) (last : LastLocals) : Type 0 where
  pub hide : Hide (reverse locals)
  pub means : (x : List ℕ) → last_in last x ≡ position_of (known_of locals) x
