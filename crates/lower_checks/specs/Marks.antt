-- View of code: how the code keeps the locals: each with the one that it hides, and a table of the innermost one of each name.
use Rattle.std.specs.Prelude.{◌≡◌, ℕ, suc, List, [], ◌∷◌, map, Option, Some, None, unwrap_or, bytes_eq, if◌then◌else◌}
use Rattle.indexmap.specs.IndexMap.{get_by}
use Rattle.lower_checks.specs.Visible.{Declared, declared}
use Rattle.lower_checks.specs.declared.last.Lasts.{Lasts}
use Rattle.lower_checks.specs.declared.mark.Local.{Local}
use Rattle.lower_checks.specs.declared.mark.Mark.{Mark}
use Rattle.lower_checks.specs.declared.mark.Mark.TheVariants.{Begin, Declare}

abbrev pub mark_of : Mark → Option Declared
mark_of Begin = None
mark_of (Declare l hidden) = Some (declared l.name.now l.stored l.index)

abbrev pub marks_of : List Mark → List (Option Declared)
marks_of ms = map mark_of ms

-- the last of a name, by the table
abbrev pub last_in : {V : Type 0} → Lasts V → List ℕ → Option V
last_in last name = unwrap_or (get_by (λ key. bytes_eq name key.now) last.by_name) None

-- the innermost local of a name; the last mark is the first of these
abbrev pub found : List Mark → List ℕ → Option Local
found [] name = None
found (Begin ∷ others) name = found others name
found (Declare l hidden ∷ others) name = (if bytes_eq l.name.now name then Some l else found others name)

-- how many blocks are open
abbrev pub depth_of : List Mark → ℕ
depth_of [] = 0
depth_of (Begin ∷ others) = suc (depth_of others)
depth_of (Declare l hidden ∷ others) = depth_of others

-- a local hides what its name means before it, and knows how many blocks are open there
pub record IsKept (l : Local) (hidden : Option Local) (others : List Mark) : Type 0 where
  pub hides : hidden ≡ found others l.name.now
  pub depth : l.depth ≡ depth_of others

abbrev pub AreKept : List Mark → Type 0
AreKept [] = Unit {0}
AreKept (Begin ∷ others) = AreKept others
AreKept (Declare l hidden ∷ others) = IsKept l hidden others × AreKept others

-- so do all; the table has what each name means, and the number of open blocks is known
pub record AreLinked (marks : List Mark) (last : Lasts Local) (depth : ℕ) : Type 0 where
  pub kept : AreKept marks
  pub means : (name : List ℕ) → last_in last name ≡ found marks name
  pub depth_is : depth ≡ depth_of marks
