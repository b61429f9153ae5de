-- Layouts and regions that are kept: where a pointer leads is so then, and what a value shows.
use Rattle.std.proofs.Common.{ℕ, ◌+◌, ◌<◌, ◌≤◌, inl, inr, ⊎_elim, suc, List, [], ◌∷◌, arith}
use Rattle.source_lowering.specs.Memories.{LeadsAll}
use Rattle.std.proofs.Common.{◌≡◌, zero, suc}
use Rattle.std.proofs.Common.{◌*◌}
use Rattle.std.proofs.Common.{length}
use Rattle.std.proofs.Common.{subst}
use Rattle.source_meaning.specs.Shapes.{count_of}
use Rattle.source_meaning.specs.Shapes.{
  Owner,
  Shared,
  Alone,
  Unsaid,
  Shape,
  IntShape,
  UnsignedShape,
  CharShape,
  VoidShape,
  ThinShape,
  FatShape,
  HandleShape,
  KeyShape,
  StructShape,
  UnionShape,
  ArrayShape,
}
use Rattle.source_meaning.specs.Memory as source
use Rattle.source_meaning.specs.Memory.{Scalar, Spot}
use Rattle.source_meaning.specs.Steps.{World}
use Rattle.source_meaning.specs.Conversions.{cells_of, size_of}
use Rattle.core_meaning.specs.Memory as core
use Rattle.core_meaning.specs.Memory.{Content}
use Rattle.source_lowering.specs.Layouts.{layout_of}
use Rattle.source_lowering.specs.Simulation.{at, HasShape, PartIs, AreShaped, AreCells, Leads, IsBlock, IsOwned, APointer, AFat, Shown, ShownMember, StaysAs}
use Rattle.source_lowering.specs.Simulation.{AreMade}

-- memories that have the layouts of earlier ones, and whose regions are still what they were
pub record Lasts (m : source.Memory) (c : core.Memory) (m' : source.Memory) (c' : core.Memory) : Type 0 where
  pub shapes : (s : Spot) (shape : Shape) → HasShape m s shape → HasShape m' s shape
  pub parts : (t : core.Spot) (j offset width : ℕ) → PartIs c t j offset width → PartIs c' t j offset width
  pub births : c.births ≤ c'.births
  pub stays : (d : ℕ) → d < c.births → StaysAs (c.standing (core.Born d)) (c'.standing (core.Born d))

shaped_kept : (m m' : source.Memory) (c c' : core.Memory) (t : core.Spot) (byte j : ℕ) (xs : List core.PartShape) → Lasts m c m' c'
    → AreShaped c t byte j xs → AreShaped c' t byte j xs
shaped_kept m m' c c' t byte j [] l h = tt
shaped_kept m m' c c' t byte j (x ∷ xs) l (one, others) = (
  l.parts t j (byte + x.offset) x.width one,
  shaped_kept m m' c c' t byte (suc j) xs l others,
)

pub made_kept : (m m' : source.Memory) (c c' : core.Memory) (t : core.Spot) (byte : ℕ) (xs : List (List core.PartShape)) → Lasts m c m' c'
    → AreMade c t byte xs → AreMade c' t byte xs
made_kept m m' c c' t byte [] l h = tt
made_kept m m' c c' t byte (x ∷ xs) l (one, others) =
    (shaped_kept m m' c c' t byte 0 x l one, made_kept m m' c c' (core.beyond t 1) byte xs l others)

cells_kept : (m m' : source.Memory) (c c' : core.Memory) (s : Spot) (xs : List Shape) → Lasts m c m' c' → AreCells m s xs → AreCells m' s xs
cells_kept m m' c c' s [] l h = tt
cells_kept m m' c c' s (x ∷ xs) l (one, others) = (l.shapes s x one, cells_kept m m' c c' (source.beyond s 1) xs l others)

pub leads_kept : (w : World) (m m' : source.Memory) (c c' : core.Memory) (shape : Shape) (s : Spot) (byte : ℕ) → Lasts m c m' c'
    → Leads w m c shape s byte → Leads w m' c' shape s byte
leads_kept w m m' c c' shape s byte l h = (
  cells_kept m m' c c' s (cells_of w shape) l h.0,
  made_kept m m' c c' (at s) byte (layout_of w shape).cells l h.1,
)

block_kept : (m m' : source.Memory) (c c' : core.Memory) (s : Spot) (byte : ℕ) → Lasts m c m' c' → IsBlock c s byte → IsBlock c' s byte
block_kept m m' c c' s byte l h = record {
  birth = h.birth;
  first = h.first;
  start = h.start;
  born = let f = h.born in let g = l.births in omega (arith, f, g);
  single = (l.stays h.birth h.born).single h.single;
}

pub owned_kept : (m m' : source.Memory) (c c' : core.Memory) (o : Owner) (s : Spot) (byte : ℕ) → Lasts m c m' c' → IsOwned o c s byte
    → IsOwned o c' s byte
owned_kept m m' c c' Alone s byte l h = block_kept m m' c c' s byte l h
owned_kept m m' c c' Shared s byte l h = tt
owned_kept m m' c c' Unsaid s byte l h = tt

-- what a union holds
pub member_kept : (w : World) (m m' : source.Memory) (c c' : core.Memory) (shape : Shape) (v : Scalar) (cs : List Content) → Lasts m c m' c'
    → ShownMember w m c shape v cs → ShownMember w m' c' shape v cs
member_kept w m m' c c' IntShape v cs l h = h
member_kept w m m' c c' UnsignedShape v cs l h = h
member_kept w m m' c c' CharShape v cs l h = h
member_kept w m m' c c' VoidShape v cs l h = h
member_kept w m m' c c' (ThinShape n o to) v cs l h =
    ⊎_elim (λ x. inl x) (λ (p : APointer w m c (count_of n) o to v cs). inr (record {
      spot = p.spot;
      byte = p.byte;
      value = p.value;
      shown = p.shown;
      lies = p.lies;
      leads = leads_kept w m m' c c' to p.spot p.byte l p.leads;
      few = p.few;
      elements = λ k less. leads_kept w m m' c c' to _ _ l (p.elements k less);
      owned = owned_kept m m' c c' o p.spot p.byte l p.owned;
    })) h
member_kept w m m' c c' (FatShape to) v cs l h =
    ⊎_elim (λ x. inl x) (λ (p : AFat w m c to (size_of w to) v cs). inr (record {
      span = p.span;
      byte = p.byte;
      value = p.value;
      shown = p.shown;
      small = p.small;
      few = p.few;
      lies = p.lies;
      leads = λ k less. leads_kept w m m' c c' to _ _ l (p.leads k less);
    })) h
member_kept w m m' c c' HandleShape v cs l h = h
member_kept w m m' c c' KeyShape v cs l h = h
member_kept w m m' c c' (StructShape tag) v cs l h = h
member_kept w m m' c c' (UnionShape tag) v cs l h = h
member_kept w m m' c c' (ArrayShape count of) v cs l h = h

pub shown_kept : (w : World) (m m' : source.Memory) (c c' : core.Memory) (shape : Shape) (v : Scalar) (cs : List Content) → Lasts m c m' c'
    → Shown w m c shape v cs → Shown w m' c' shape v cs
shown_kept w m m' c c' IntShape v cs l h = member_kept w m m' c c' IntShape v cs l h
shown_kept w m m' c c' UnsignedShape v cs l h = member_kept w m m' c c' UnsignedShape v cs l h
shown_kept w m m' c c' CharShape v cs l h = member_kept w m m' c c' CharShape v cs l h
shown_kept w m m' c c' VoidShape v cs l h = member_kept w m m' c c' VoidShape v cs l h
shown_kept w m m' c c' (ThinShape n o to) v cs l h = member_kept w m m' c c' (ThinShape n o to) v cs l h
shown_kept w m m' c c' (FatShape to) v cs l h = member_kept w m m' c c' (FatShape to) v cs l h
shown_kept w m m' c c' HandleShape v cs l h = member_kept w m m' c c' HandleShape v cs l h
shown_kept w m m' c c' KeyShape v cs l h = member_kept w m m' c c' KeyShape v cs l h
shown_kept w m m' c c' (StructShape tag) v cs l h = member_kept w m m' c c' (StructShape tag) v cs l h
shown_kept w m m' c c' (UnionShape tag) v cs l h = record {
  number = h.number;
  shape = h.shape;
  held = h.held;
  words = h.words;
  value = h.value;
  known = h.known;
  member = member_kept w m m' c c' h.shape h.held h.words l h.member;
  shown = h.shown;
}
shown_kept w m m' c c' (ArrayShape count of) v cs l h = member_kept w m m' c c' (ArrayShape count of) v cs l h

-- one object is one element, the first
pub one_led : (w : World) (m : source.Memory) (c : core.Memory) (to : Shape) (t : Spot) (byte : ℕ) → Leads w m c to t byte → LeadsAll w m c to 1 t byte
one_led w m c to t byte leads zero less =
    let first : t ≡ source.beyond t (0 * length (cells_of w to)) = λ i. record t { cell = none i } in
    let here : byte ≡ byte + 0 * size_of w to = omega arith in
    subst (λ z. Leads w m c to z (byte + 0 * size_of w to)) first (subst (λ z. Leads w m c to t z) here leads)
  where
    none : t.cell ≡ t.cell + 0 * length (cells_of w to)
    none = omega arith
one_led w m c to t byte leads (suc i) less = absurd (omega (arith, less))
