-- Parts of cells that lie so many bytes on.
use Rattle.std.proofs.Common.{◌≡◌, ℕ, zero, suc, ◌+◌, ◌-◌, ◌≤◌, List, [], ◌∷◌, ◌++◌, map, refl, subst, arith}
use Rattle.source_meaning.specs.Shapes.{Shape, Layout}
use Rattle.source_meaning.specs.Sizes.{Extent}
use Rattle.source_meaning.specs.Placing.{Placed, moved}
use Rattle.core_meaning.specs.Memory as core
use Rattle.source_lowering.specs.Layouts.{Piece, cell_pieces, part_shape_of, padding, next_at, padded}
use Rattle.source_lowering.specs.Simulation.{PartIs, AreShaped, AreMade}

-- parts that lie so many bytes on in another list, which may have more
abbrev Moved : ℕ → List core.PartShape → List core.PartShape → Type 0
Moved a [] xs = Unit {0}
Moved a (y ∷ ys) [] = ⊥
Moved a (y ∷ ys) (x ∷ xs) = (x.offset ≡ a + y.offset) × ((x.width ≡ y.width) × Moved a ys xs)

abbrev AllMoved : ℕ → List (List core.PartShape) → List (List core.PartShape) → Type 0
AllMoved a [] xss = Unit {0}
AllMoved a (ys ∷ yss) [] = ⊥
AllMoved a (ys ∷ yss) (xs ∷ xss) = Moved a ys xs × AllMoved a yss xss

shaped_moved : (c : core.Memory) (t : core.Spot) (b a j : ℕ) (ys xs : List core.PartShape) → Moved a ys xs → AreShaped c t b j xs
    → AreShaped c t (b + a) j ys
shaped_moved c t b a j [] xs e h = tt
shaped_moved c t b a j (y ∷ ys) [] e h = absurd e
shaped_moved c t b a j (y ∷ ys) (x ∷ xs) e h = (
  subst (λ z. PartIs c t j z y.width) same (subst (λ z. PartIs c t j (b + x.offset) z) e.1.0 h.0),
  shaped_moved c t b a (suc j) ys xs e.1.1 h.1,
)
  where
    same : b + x.offset ≡ b + a + y.offset
    same = let f = e.0 in omega (arith, f)

pub made_moved : (c : core.Memory) (t : core.Spot) (b a : ℕ) (yss xss : List (List core.PartShape)) → AllMoved a yss xss → AreMade c t b xss
    → AreMade c t (b + a) yss
made_moved c t b a [] xss e h = tt
made_moved c t b a (ys ∷ yss) [] e h = absurd e
made_moved c t b a (ys ∷ yss) (xs ∷ xss) e h = (shaped_moved c t b a 0 ys xs e.0 h.0, made_moved c (core.beyond t 1) b a yss xss e.1 h.1)

padding_moved : (a e e' n n' : ℕ) → e' ≡ a + e → n ≤ n' → Moved a (padding e n) (padding e' n')
padding_moved a e e' zero n' same less = tt
padding_moved a e e' (suc n) zero same less = absurd (omega (arith, less))
padding_moved a e e' (suc n) (suc n') same less = (same, (refl, padding_moved a (e + 1) (e' + 1) n n' (omega (arith, same)) (omega (arith, less))))

pieces_moved : (a : ℕ) (p : Placed) (qs : List Piece) (ys xs : List core.PartShape) → Moved a ys xs
    → Moved a (map (part_shape_of p) qs ++ ys) (map (part_shape_of (moved a p)) qs ++ xs)
pieces_moved a p [] ys xs h = h
pieces_moved a p (q ∷ qs) ys xs h = (omega arith, (refl, pieces_moved a p qs ys xs h))

pub next_moved : (size bytes a : ℕ) (ps qs : List Placed) → a + size ≤ next_at bytes qs → a + next_at size ps ≤ next_at bytes (map (moved a) ps ++ qs)
next_moved size bytes a [] qs h = h
next_moved size bytes a (p ∷ ps) qs h = omega arith

pub padded_moved : (unions : List Layout) (extent : Shape → Extent) (size bytes a : ℕ) (ps qs : List Placed) → a + size ≤ next_at bytes qs
    → AllMoved a (padded unions extent size ps) (padded unions extent bytes (map (moved a) ps ++ qs))
padded_moved unions extent size bytes a [] qs h = tt
padded_moved unions extent size bytes a (p ∷ ps) qs h =
    let more = next_moved size bytes a ps qs h in
    let end : ℕ = p.offset + (extent p.shape).size in
    let far : ℕ = a + p.offset + (extent p.shape).size in (
      pieces_moved a p (cell_pieces unions p.shape) (padding end (next_at size ps - end)) (padding far (next_at bytes (map (moved a) ps ++ qs) - far))
          (padding_moved a end far (next_at size ps - end) (next_at bytes (map (moved a) ps ++ qs) - far) (omega arith) (omega (arith, more))),
      padded_moved unions extent size bytes a ps qs h,
    )
