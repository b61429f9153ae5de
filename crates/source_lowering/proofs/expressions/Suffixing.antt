-- Suffixes: what they lead to lies at a distance from a pointer.
use Rattle.std.proofs.Common.{◌≡◌, ℕ, ◌+◌, List, ◌++◌, length, refl, sym, ap, subst}
use Rattle.cyc_tree.specs.Tree.{Suffixes, NoSuffixes, Index, Dot, Arrow}
use Rattle.source_lowering.specs.Members.{subscript_code}
use Rattle.source_meaning.specs.Shapes.{bound_in}
use Rattle.source_meaning.specs.Shapes.{Shape, part_shape, pointee}
use Rattle.source_meaning.specs.Sizes.{cells_before}
use Rattle.source_meaning.specs.Memory as source
use Rattle.source_meaning.specs.Memory.{Scalar}
use Rattle.source_meaning.specs.Steps as steps
use Rattle.source_meaning.specs.Steps.{World, Scope, give, ◌>>=◌}
use Rattle.source_meaning.specs.Conversions.{cells_of, one, integer, accessed}
use Rattle.source_meaning.specs.Values.{read_cells, take_cells}
use Rattle.source_meaning.specs.Places.{Sense, place_sense, struct_parts, contents, indexed, indexed_span, member}
use Rattle.source_meaning.specs.Expressions.{sense, suffixed}
use Rattle.core_meaning.specs.Core.{Statement}
use Rattle.source_lowering.specs.Layouts.{extent_of, bytes_before}
use Rattle.source_lowering.specs.Lowered.{
  reach_code,
  member_shape,
  suffixed_shape,
  Left,
  left_of,
  member_at,
  member_behind,
  element_at,
  Named,
  static_shape,
  suffix_values,
  expression_code,
  suffixed_code,
}
use Rattle.source_lowering.specs.Lowerable.{IsObject, IsOperandShape, AreStructs, TakesMembers, TakesSuffixes}
use Rattle.source_lowering.specs.Simulation.{Point}
use Rattle.source_lowering.proofs.values.Integers.{object_value}
use Rattle.source_lowering.proofs.expressions.Variables.{Agrees}
use Rattle.source_lowering.proofs.expressions.Places.{IsPlaced, contents_placed}
use Rattle.source_lowering.proofs.expressions.Reaching.{ReachedAs, placed_reached, member_reached}
use Rattle.source_lowering.proofs.expressions.ValuePlaces.{reached_value}
use Rattle.source_lowering.proofs.expressions.Indices.{IndicesAs}
use Rattle.source_lowering.proofs.expressions.Subscripts.{indexed_placed}

-- ---- suffixes

-- what suffixes lead to, and what stands for it in each temporary
pub record MemberAs (p : Point) (n : ℕ) (e : Sense) (left : Left) : Type 0 where
  pub shape_is : e.shape ≡ left.shape
  pub object : IsObject p.world.unions p.world.structs left.shape
  pub reached : (d : ℕ) → ReachedAs p n d left.cells left.bytes left.shape e.place (left.pointer d)
  pub value : IsOperandShape left.shape → (d : ℕ) → Agrees p n d e left.shape (left.value d)
  pub given : (s : List Scalar → source.Memory → steps.Step) (m : source.Memory) → e.value s m ≡ e.place (λ t. take_cells (cells_of p.world e.shape) t s) m
  pub looked : (s : List Scalar → source.Memory → steps.Step) (m : source.Memory)
      → e.look s m ≡ e.place (λ t. read_cells (length (cells_of p.world e.shape)) t s) m

-- `e.f`
pub dot_same : (p : Point) (n cells bytes : ℕ) (e : Sense) (shape : Shape) (f : List ℕ) (pointer : ℕ → List Statement)
    → AreStructs p.world.unions p.world.structs → e.shape ≡ shape → ((d : ℕ) → ReachedAs p n d cells bytes shape e.place (pointer d))
    → IsObject p.world.unions p.world.structs (member_shape p.world shape f)
    → MemberAs p n (member p.world e f) (member_at p.world shape pointer cells bytes f)
dot_same p n cells bytes e shape f pointer structs same reached object =
    subst (λ z. MemberAs p n (place_sense p.world (part_shape (struct_parts p.world z) f)
    (e.place >>= λ s. give (source.beyond s (cells_before (cells_of p.world) (struct_parts p.world z) f)))) (member_at p.world shape pointer cells bytes f))
    (sym same)
    (record {
      shape_is = refl;
      object = object;
      reached = here;
      value = λ single d. reached_value p n d _ _ (member_shape p.world shape f) _ (pointer d)
          (object_value p.world.unions p.world.structs (member_shape p.world shape f) object single) (here d);
      given = λ s m. refl;
      looked = λ s m. refl;
    })
  where
    here : (d : ℕ) → ReachedAs p n d (cells + cells_before (cells_of p.world) (struct_parts p.world shape) f)
        (bytes + bytes_before (extent_of p.world) 0 (struct_parts p.world shape) f) (member_shape p.world shape f)
        (e.place >>= λ s. give (source.beyond s (cells_before (cells_of p.world) (struct_parts p.world shape) f))) (pointer d)
    here d = member_reached p n d cells bytes shape f e.place (pointer d) structs object (reached d)

-- `e->f`
pub arrow_same : (p : Point) (n : ℕ) (e : Sense) (left : Left) (f : List ℕ) → AreStructs p.world.unions p.world.structs
    → ((d : ℕ) → Agrees p n d e left.shape (left.value d)) → IsObject p.world.unions p.world.structs (member_shape p.world (pointee left.shape) f)
    → MemberAs p n (member p.world (contents p.world e) f) (member_behind p.world left f)
arrow_same p n e left f structs agrees object =
    dot_same p n 0 0 (contents p.world e) (pointee left.shape) f (λ d. left.value d ++ reach_code p.world left.shape d) structs
    (ap pointee (agrees 0).shape_is)
    (λ d. placed_reached p n d (pointee left.shape) _ (left.value d ++ reach_code p.world left.shape d)
    (contents_placed p n d e left.shape (left.value d) (agrees d))) object

-- `a[b]`
pub element_same : (p : Point) (n : ℕ) (a b : Sense) (sa sb : Shape) (ca cb : ℕ → List Statement) → ((d : ℕ) → Agrees p n d a sa (ca d))
    → ((d : ℕ) → Agrees p n d b sb (cb d)) → IsObject p.world.unions p.world.structs (pointee sa)
    → MemberAs p n (indexed p.world a b) (element_at p.world sa cb ca)
element_same p n a b sa sb ca cb x y object =
    subst (λ z. MemberAs p n (place_sense p.world (pointee z)
    (b.look >>= one >>= integer >>= λ k. a.look >>= one >>= indexed_span (bound_in z) k >>= λ q. accessed (length (cells_of p.world (pointee z))) q))
    (element_at p.world sa cb ca)) (sym (x 0).shape_is)
    (record {
      shape_is = refl;
      object = object;
      reached = here;
      value = λ single d. reached_value p n d 0 0 (pointee sa) _ (cb d ++ (ca (d + 1) ++ subscript_code p.world sa d))
          (object_value p.world.unions p.world.structs (pointee sa) object single) (here d);
      given = λ s m. refl;
      looked = λ s m. refl;
    })
  where
    here : (d : ℕ) → ReachedAs p n d 0 0 (pointee sa)
        (b.look >>= one >>= integer >>= λ k. a.look >>= one >>= indexed_span (bound_in sa) k >>= λ q. accessed (length (cells_of p.world (pointee sa))) q)
        (cb d ++ (ca (d + 1) ++ subscript_code p.world sa d))
    here d = placed_reached p n d (pointee sa) _ (cb d ++ (ca (d + 1) ++ subscript_code p.world sa d))
        (indexed_placed p n d a b sa sb (ca (d + 1)) (cb d) (x (d + 1)) (y d))

-- further suffixes on what they lead to
pub further_same : (suffixes : Suffixes) (scope : Scope) (p : Point) (n : ℕ) (names : List Named) (e : Sense) (left : Left) (own : ℕ)
    → scope.world ≡ p.world → AreStructs p.world.unions p.world.structs → TakesMembers p.world names suffixes left.shape
    → IndicesAs p n scope names suffixes own → MemberAs p n e left
    → MemberAs p n (suffixed suffixes scope e) (suffixed_code p.world names suffixes left own)
further_same NoSuffixes scope p n names e left own world structs h indices so_far = so_far
further_same (Index index others) scope p n names e left own world structs h indices so_far =
    let to = pointee left.shape in
    let code : ℕ → List Statement = λ d. expression_code p.world names index d (own + length (suffix_values p.world names others)) in
    further_same others scope p n names (indexed scope.world e (sense index scope)) (element_at p.world left.shape code left.value) own world structs
    h.1.1.1 indices.1
    (subst (λ z. MemberAs p n (indexed z e (sense index scope)) (element_at p.world left.shape code left.value)) (sym world)
    (element_same p n e (sense index scope) left.shape (static_shape p.world names index) left.value code (so_far.value h.0) indices.0 h.1.1.0))
further_same (Dot f others) scope p n names e left own world structs h indices so_far =
    let more = member_at p.world left.shape left.pointer left.cells left.bytes f.text in
    further_same others scope p n names (member scope.world e f.text) more own world structs h.1 indices
    (subst (λ z. MemberAs p n (member z e f.text) more) (sym world)
    (dot_same p n left.cells left.bytes e left.shape f.text left.pointer structs so_far.shape_is so_far.reached h.0))
further_same (Arrow f others) scope p n names e left own world structs h indices so_far =
    further_same others scope p n names (member scope.world (contents scope.world e) f.text) (member_behind p.world left f.text) own world structs h.1.1 indices
    (subst (λ z. MemberAs p n (member z (contents z e) f.text) (member_behind p.world left f.text)) (sym world)
    (arrow_same p n e left f.text structs (so_far.value h.0) h.1.0))

-- the shape is as it is known without code
pub suffixes_shape : (suffixes : Suffixes) (w : World) (names : List Named) (left : Left) (own : ℕ)
    → (suffixed_code w names suffixes left own).shape ≡ suffixed_shape w suffixes left.shape
suffixes_shape NoSuffixes w names left own = refl
suffixes_shape (Index index others) w names left own =
    suffixes_shape others w names (element_at w left.shape
    (λ d. expression_code w names index d (own + length (suffix_values w names others))) left.value) own
suffixes_shape (Dot f others) w names left own =
    suffixes_shape others w names (member_at w left.shape left.pointer left.cells left.bytes f.text) own
suffixes_shape (Arrow f others) w names left own = suffixes_shape others w names (member_behind w left f.text) own

-- ---- suffixes on a primary expression

pub suffixes_same : (suffixes : Suffixes) (scope : Scope) (p : Point) (n : ℕ) (names : List Named) (e : Sense) (shape : Shape)
    (value pointer : ℕ → List Statement) (for_value for_place : Type 0) (own : ℕ) → scope.world ≡ p.world → AreStructs p.world.unions p.world.structs
    → (for_value → (d : ℕ) → Agrees p n d e shape (value d)) → (for_place → (d : ℕ) → IsPlaced p n d e shape (pointer d))
    → TakesSuffixes p.world names suffixes shape for_value for_place → IndicesAs p n scope names suffixes own
    → MemberAs p n (suffixed suffixes scope e) (suffixed_code p.world names suffixes (left_of shape value pointer) own)
suffixes_same NoSuffixes scope p n names e shape value pointer for_value for_place own world structs agrees placed h indices = absurd h
suffixes_same (Index index others) scope p n names e shape value pointer for_value for_place own world structs agrees placed h indices =
    let code : ℕ → List Statement = λ d. expression_code p.world names index d (own + length (suffix_values p.world names others)) in
    further_same others scope p n names (indexed scope.world e (sense index scope)) (element_at p.world shape code value) own world structs h.1.1.1
    indices.1
    (subst (λ z. MemberAs p n (indexed z e (sense index scope)) (element_at p.world shape code value)) (sym world)
    (element_same p n e (sense index scope) shape (static_shape p.world names index) value code (agrees h.0) indices.0 h.1.1.0))
suffixes_same (Dot f others) scope p n names e shape value pointer for_value for_place own world structs agrees placed h indices =
    let more = member_at p.world shape pointer 0 0 f.text in
    let here = placed h.0 in
    further_same others scope p n names (member scope.world e f.text) more own world structs h.1.1 indices
    (subst (λ z. MemberAs p n (member z e f.text) more) (sym world)
    (dot_same p n 0 0 e shape f.text pointer structs (here 0).shape_is
    (λ d. placed_reached p n d shape e.place (pointer d) (here d).placed) h.1.0))
suffixes_same (Arrow f others) scope p n names e shape value pointer for_value for_place own world structs agrees placed h indices =
    let left = left_of shape value pointer in
    further_same others scope p n names (member scope.world (contents scope.world e) f.text) (member_behind p.world left f.text) own world structs h.1.1 indices
    (subst (λ z. MemberAs p n (member z (contents z e) f.text) (member_behind p.world left f.text)) (sym world)
    (arrow_same p n e left f.text structs (agrees h.0) h.1.0))
