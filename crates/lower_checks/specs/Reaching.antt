-- View of code: how far the code has come on the way along suffixes.
use Rattle.std.specs.Prelude.{◌≡◌, ℕ, suc, ◌+◌, ◌-◌, List, [], ◌++◌, length}
use Rattle.cyc_tree.specs.Tree.{Expression, Suffixes, NoSuffixes, Index, Dot, Arrow}
use Rattle.source_meaning.specs.Shapes.{Shape, pointee}
use Rattle.source_meaning.specs.Sizes.{cells_before}
use Rattle.source_meaning.specs.Steps.{World}
use Rattle.source_meaning.specs.Conversions.{cells_of}
use Rattle.source_meaning.specs.Places.{struct_parts}
use Rattle.source_lowering.specs.Layouts.{bytes_before, extent_of}
use Rattle.source_lowering.specs.Lowered.{Left, Named, expression_code, left_of, loads_code, member_shape, place_code, reach_code, static_shape, suffix_values}
use Rattle.source_lowering.specs.Lowered.{suffixed_code}
use Rattle.source_lowering.specs.Lowerable.{Takes, TakesPlace, TakesSuffixes}
use Rattle.source_lowering.specs.Members.{subscript_code}
use Rattle.core_meaning.specs.Core.{Statement}
use Rattle.lower_checks.specs.Views.{shape_tree}
use Rattle.lower_checks.specs.declared.member.Reached.{Reached}

-- ---- indices: the last one is evaluated first

-- how many there are
abbrev pub indices_in : Suffixes → ℕ
indices_in NoSuffixes = 0
indices_in (Index index others) = suc (indices_in others)
indices_in (Dot f others) = indices_in others
indices_in (Arrow f others) = indices_in others

-- each comes into the temporary behind those that are evaluated before it
abbrev pub indices_code : World → List Named → Suffixes → (d own : ℕ) → List Statement
indices_code w names NoSuffixes d own = []
indices_code w names (Index index others) d own =
    indices_code w names others d own ++ expression_code w names index (d + indices_in others) (own + length (suffix_values w names others))
indices_code w names (Dot f others) d own = indices_code w names others d own
indices_code w names (Arrow f others) d own = indices_code w names others d own

-- ---- places

-- a shape, and how many cells and bytes from where a pointer leads
pub record Place : Type 0 where
  pub shape : Shape
  pub cells : ℕ
  pub bytes : ℕ

abbrev pub reached_place : Reached → Place
reached_place r = record { shape = shape_tree r.shape; cells = r.cells; bytes = r.bytes }

abbrev pub place_at_once : Shape → Place
place_at_once s = record { shape = s; cells = 0; bytes = 0 }

-- a member of the struct that is there
abbrev pub member_place : World → Place → List ℕ → Place
member_place w p f = record {
  shape = member_shape w p.shape f;
  cells = p.cells + cells_before (cells_of w) (struct_parts w p.shape) f;
  bytes = p.bytes + bytes_before (extent_of w) 0 (struct_parts w p.shape) f;
}

-- where suffixes lead to from there
abbrev pub further_place : World → Suffixes → Place → Place
further_place w NoSuffixes p = p
further_place w (Index index others) p = further_place w others (place_at_once (pointee p.shape))
further_place w (Dot f others) p = further_place w others (member_place w p f.text)
further_place w (Arrow f others) p = further_place w others (member_place w (place_at_once (pointee p.shape)) f.text)

-- the pointer is in this temporary, and the indices, the last one first, in those right before it
abbrev pub further_code : World → Suffixes → Place → ℕ → List Statement
further_code w NoSuffixes p t = []
further_code w (Index index others) p t =
    loads_code p.shape t p.cells p.bytes ++
    (subscript_code w p.shape (t - 1) ++ further_code w others (place_at_once (pointee p.shape)) (t - 1))
further_code w (Dot f others) p t = further_code w others (member_place w p f.text) t
further_code w (Arrow f others) p t =
    loads_code p.shape t p.cells p.bytes ++
    (reach_code w p.shape t ++ further_code w others (member_place w (place_at_once (pointee p.shape)) f.text) t)

-- the first suffix needs the place of what stands on its left, or its value, in this temporary
abbrev pub first_code : World → Suffixes → Left → ℕ → List Statement
first_code w NoSuffixes left t = left.pointer t
first_code w (Index index others) left t = left.value t ++ subscript_code w left.shape (t - 1)
first_code w (Dot f others) left t = left.pointer t
first_code w (Arrow f others) left t = left.value t ++ reach_code w left.shape t

-- ---- what stands on the left of suffixes

-- what suffixes lead to from an expression
abbrev pub left_by : World → List Named → Expression → Suffixes → (own : ℕ) → Left
left_by w names e suffixes own =
    let first = own + length (suffix_values w names suffixes) in
    suffixed_code w names suffixes
    (left_of (static_shape w names e) (λ d. expression_code w names e d first) (λ d. place_code w names e d first)) own

-- and an expression with suffixes
abbrev pub suffixed_left : World → List Named → Expression → (own : ℕ) → Left
suffixed_left w names (Expression.Suffixed primary suffixes) own = left_by w names primary suffixes own
suffixed_left w names e own = left_of (static_shape w names e) (λ d. expression_code w names e d own) (λ d. place_code w names e d own)

abbrev pub TakesSuffixed : World → List Named → Expression → Type 0
TakesSuffixed w names (Expression.Suffixed primary suffixes) =
    TakesSuffixes w names suffixes (static_shape w names primary) (Takes w names primary) (TakesPlace w names primary)
TakesSuffixed w names e = ⊥

-- it is a place so far on from where its pointer leads, and its value is read from there
pub record IsLeftAt (left : Left) (p : Place) (d : ℕ) : Type 0 where
  pub shape : p.shape ≡ left.shape
  pub cells : p.cells ≡ left.cells
  pub bytes : p.bytes ≡ left.bytes
  pub value : left.value d ≡ left.pointer d ++ loads_code left.shape d left.cells left.bytes
