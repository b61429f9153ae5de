-- The code of a declaration, and whether its local may live in a register.
use Rattle.std.proofs.Common.{◌≡◌, ℕ, ◌+◌, List, [], ◌∷◌, ◌++◌, Bool, true, false, refl, ap, ◌∙◌}
use Rattle.std.specs.Prelude.{◌||◌, ◌&&◌, ◌-◌, map, not, nat_eq}
use Rattle.std.proofs.lemmas.Bool.{eq-eqb, or_right}
use Rattle.cyc_tree.specs.Tree as tree
use Rattle.cyc_tree.specs.Tree.{Declaration, Expression, Initializer}
use Rattle.source_meaning.specs.Shapes.{Shape, IntShape, UnsignedShape, CharShape, VoidShape, ThinShape, FatShape, HandleShape, KeyShape, StructShape}
use Rattle.source_meaning.specs.Shapes.{UnionShape, ArrayShape, parts_of, settled, settled_by, written}
use Rattle.source_meaning.specs.Steps.{World}
use Rattle.source_meaning.specs.Placing.{Placed}
use Rattle.core_meaning.specs.Core.{Copy, Do, LocalAddress, Statement}
use Rattle.source_lowering.specs.Layouts.{extent_of, has_fat, layout_of, local_of, padding, part_shape_of, union_pieces}
use Rattle.core_meaning.specs.Memory.{PartShape}
use Rattle.source_lowering.specs.Lowered.{Named, static_shape}
use Rattle.source_lowering.specs.Programs.{declaration_code, local_shape, source_code, unset_code, value_code}
use Rattle.source_lowering.specs.Whole.{is_made}
use Rattle.source_lowering.specs.Lowerable.{IsObject, IsVariable, TakesDeclaration, TakesValue, IsThinShape, IsWordShape}
use Rattle.source_lowering.proofs.statements.Freeing.{thin_operand}
use Rattle.source_lowering.proofs.statements.WrittenTypes.{object_by}
use Rattle.core_lines.specs.Homes.{fills, is_scalar}
use Rattle.home_proof.specs.Arguments.{DeclarationHasArguments}
use Rattle.home_proof.specs.Names.{is_word, may_live, pointed_in_declaration}
use Rattle.home_proof.specs.Numbered.{declaration_flags}
use Rattle.home_proof.proofs.Codes.{addresses, addresses_both}
use Rattle.home_proof.proofs.Variables.{read_does}
use Rattle.home_proof.proofs.Locals.{DoesAt, Fits, anywhere, behind_at, nothing_at, unset_does, value_does}

-- ---- declarations

-- a word is initialized with a value
word_value : (w : World) (names : List Named) (s : Shape) (pointer : tree.Name) → IsWordShape s
    → IsThinShape (static_shape w names (Expression.Variable pointer)) → TakesValue w names s (Expression.Variable pointer)
word_value w names s pointer h thin = by s h
  where
    by : (of : Shape) → IsWordShape of → TakesValue w names of (Expression.Variable pointer)
    by (StructShape tag) k = absurd k
    by (UnionShape tag) k = absurd k
    by _ k = thin_operand (static_shape w names (Expression.Variable pointer)) thin

pub declaration_does : (w : World) (names : List Named) (d : Declaration) (free count own : ℕ) → TakesDeclaration w names d → DeclarationHasArguments w d
    → DoesAt (Fits (local_shape w names d) count) names (declaration_code w names d free count own) (λ n. pointed_in_declaration n d) (declaration_flags d)
declaration_does w names (tree.Local of name Initializer.Unset) free count own h g = unset_does w names count (settled (written of)) free
declaration_does w names (tree.Local of name (Initializer.Elements many)) free count own h g =
    unset_does w names count (ArrayShape many (settled (written of))) free
declaration_does w names (tree.Local of name (Initializer.Value e)) free count own h g =
    value_does w names count (settled_by (written of) (static_shape w names e)) e free own h.1 g
declaration_does w names (tree.Region at region handle) free count own h g = nothing_at refl (λ out index t. refl)
declaration_does w names (tree.Open at region handle key) free count own h g =
    behind_at _ (anywhere (read_does w names key.text free)) refl (λ out index t. refl)
declaration_does w names (tree.Alias at region of alias pointer) free count own h g =
    let e = Expression.Variable pointer in
    let s = settled_by (written of) (static_shape w names e) in
    value_does w names count s e free own (word_value w names s pointer h.1.1 h.1.0) tt
declaration_does w names (tree.NewKey at region key) free count own h g = nothing_at refl (λ out index t. refl)

-- ---- its own local

-- a struct, and an array
abbrev pub begins_itself : Shape → Bool
begins_itself (StructShape tag) = true
begins_itself (ArrayShape count of) = true
begins_itself s = false

here : (count : ℕ) → (nat_eq 0 0 && nat_eq count count) ≡ true
here count = eq-eqb count count refl

module _ (w : World) (names : List Named) (free count own : ℕ) where
  unset_taken : (s : Shape) → begins_itself s ≡ true → addresses 0 count (unset_code w s free count) ≡ true
  unset_taken (StructShape tag) h = ap (λ z. z || false) (here count)
  unset_taken (ArrayShape many of) h = ap (λ z. z || false) (here count)
  unset_taken (FatShape to) h = cc
  unset_taken (ThinShape bound owner to) h = cc
  unset_taken (UnionShape tag) h = cc
  unset_taken IntShape h = cc
  unset_taken UnsignedShape h = cc
  unset_taken CharShape h = cc
  unset_taken VoidShape h = cc
  unset_taken HandleShape h = cc
  unset_taken KeyShape h = cc

  -- no object that has an initializer is an array
  value_taken : (s : Shape) (e : Expression) → begins_itself s ≡ true → IsObject w.unions w.structs s
      → addresses 0 count (value_code w names s e free count own) ≡ true
  value_taken (StructShape tag) e h v =
      let source = source_code w names (is_made w e) e free own in
      let copy : List Statement = Do (LocalAddress (free + 1) 0 count) ∷ Do (Copy (free + 1) free (layout_of w (StructShape tag))) ∷ [] in
      addresses_both 0 count source copy ∙ or_right (addresses 0 count source) (addresses 0 count copy) (ap (λ z. z || false) (here count))
  value_taken (ArrayShape many of) e h v = absurd v
  value_taken (FatShape to) e h v = cc
  value_taken (ThinShape bound owner to) e h v = cc
  value_taken (UnionShape tag) e h v = cc
  value_taken IntShape e h v = cc
  value_taken UnsignedShape e h v = cc
  value_taken CharShape e h v = cc
  value_taken VoidShape e h v = cc
  value_taken HandleShape e h v = cc
  value_taken KeyShape e h v = cc

  no_word : (s : Shape) → begins_itself s ≡ true → IsWordShape s → ⊥
  no_word (StructShape tag) h k = absurd k
  no_word (ArrayShape many of) h k = absurd k
  no_word (FatShape to) h k = cc
  no_word (ThinShape bound owner to) h k = cc
  no_word (UnionShape tag) h k = cc
  no_word IntShape h k = cc
  no_word UnsignedShape h k = cc
  no_word CharShape h k = cc
  no_word VoidShape h k = cc
  no_word HandleShape h k = cc
  no_word KeyShape h k = cc

  pub declaration_taken : (d : Declaration) → TakesDeclaration w names d → begins_itself (local_shape w names d) ≡ true
      → addresses 0 count (declaration_code w names d free count own) ≡ true
  declaration_taken (tree.Local of name Initializer.Unset) h is = unset_taken (settled (written of)) is
  declaration_taken (tree.Local of name (Initializer.Elements many)) h is = unset_taken (ArrayShape many (settled (written of))) is
  declaration_taken (tree.Local of name (Initializer.Value e)) h is =
      let s = static_shape w names e in value_taken (settled_by (written of) s) e is (object_by w.unions w.structs of h.0 s)
  declaration_taken (tree.Region at region handle) h is = cc
  declaration_taken (tree.Open at region handle key) h is = cc
  declaration_taken (tree.Alias at region of alias pointer) h is =
      absurd (no_word (settled_by (written of) (static_shape w names (Expression.Variable pointer))) is h.1.1)
  declaration_taken (tree.NewKey at region key) h is = cc

-- ---- registers

scalar_word : (w : World) (s : Shape) → is_word s ≡ true → is_scalar (local_of w s) ≡ true
scalar_word w IntShape h = refl
scalar_word w UnsignedShape h = refl
scalar_word w CharShape h = refl
scalar_word w (ThinShape bound owner to) h = refl
scalar_word w HandleShape h = refl
scalar_word w KeyShape h = refl
scalar_word w VoidShape h = cc
scalar_word w (FatShape to) h = cc
scalar_word w (StructShape tag) h = cc
scalar_word w (UnionShape tag) h = cc
scalar_word w (ArrayShape count of) h = cc

parts_many : (bytes : ℕ) (p : Placed) (rest : List PartShape) (fat : Bool) → fills bytes ((map (part_shape_of p) (union_pieces fat) ++ rest) ∷ []) ≡ false
parts_many bytes p rest true = refl
parts_many bytes p rest false = refl

union_flag : (w : World) (tag : List ℕ) → is_scalar (local_of w (UnionShape tag)) ≡ false
union_flag w tag =
    let bytes = (extent_of w (UnionShape tag)).size in
    parts_many bytes (record { offset = 0; shape = UnionShape tag }) (padding (0 + bytes) (bytes - (0 + bytes))) (has_fat (parts_of w.unions tag))

-- A word may live in a register where its address isn't taken. A struct and an array take their own, and fat pointers and tagged unions have several parts.
pub local_flag : (w : World) (s : Shape) (taken points : Bool) → IsVariable w.unions w.structs s → (is_word s ≡ true → taken ≡ points)
    → (begins_itself s ≡ true → taken ≡ true) → (is_scalar (local_of w s) && not taken) ≡ may_live s points
local_flag w IntShape taken points v word itself = ap not (word refl)
local_flag w UnsignedShape taken points v word itself = ap not (word refl)
local_flag w CharShape taken points v word itself = ap not (word refl)
local_flag w (ThinShape bound owner to) taken points v word itself = ap not (word refl)
local_flag w HandleShape taken points v word itself = ap not (word refl)
local_flag w KeyShape taken points v word itself = ap not (word refl)
local_flag w VoidShape taken points v word itself = absurd v
local_flag w (FatShape to) taken points v word itself = refl
local_flag w (StructShape tag) taken points v word itself =
    ap (λ z. is_scalar (local_of w (StructShape tag)) && not z) (itself refl) ∙ none (is_scalar (local_of w (StructShape tag)))
  where
    none : (a : Bool) → (a && false) ≡ false
    none true = refl
    none false = refl
local_flag w (UnionShape tag) taken points v word itself = ap (λ z. z && not taken) (union_flag w tag)
local_flag w (ArrayShape count of) taken points v word itself =
    ap (λ z. is_scalar (local_of w (ArrayShape count of)) && not z) (itself refl) ∙ none (is_scalar (local_of w (ArrayShape count of)))
  where
    none : (a : Bool) → (a && false) ≡ false
    none true = refl
    none false = refl
