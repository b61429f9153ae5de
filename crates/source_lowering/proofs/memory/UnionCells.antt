-- A tagged union's one cell: the parts of its tag and of its member, whatever is behind them.
use Rattle.std.proofs.Common.{◌≡◌, ⊎_elim, ℕ, zero, suc, ◌+◌, ◌-◌, ◌^◌, List, [], ◌∷◌, ◌++◌, Bool, true, false, Option, Some, None, refl, sym, ap, ◌∙◌, subst}
use Rattle.std.proofs.Common.{arith}
use Rattle.std.specs.Prelude.{◌||◌, map, slice_get}
use Rattle.std.proofs.lemmas.Bool.{or_right}
use Rattle.std.proofs.lemmas.Option.{none-some}
use Rattle.std.proofs.lemmas.List.{append-nil}
use Rattle.source_meaning.specs.Shapes.{count_of}
use Rattle.source_meaning.specs.Shapes.{Reach}
use Rattle.source_meaning.specs.Shapes.{
  Owner,
  Shape,
  IntShape,
  UnsignedShape,
  CharShape,
  VoidShape,
  ThinShape,
  FatShape,
  HandleShape,
  KeyShape,
  StructShape,
  UnionShape,
  ArrayShape,
  Part,
  parts_of,
  part_shapes,
}
use Rattle.source_meaning.specs.Memory as source
use Rattle.source_meaning.specs.Memory.{Scalar, Spot, AsInt, AsUnsigned, AsChar, HandleOf, KeyOf, Holds, Tagged}
use Rattle.source_meaning.specs.Steps.{World}
use Rattle.source_meaning.specs.Conversions.{size_of}
use Rattle.core_meaning.specs.Memory as core
use Rattle.core_meaning.specs.Memory.{Content, Word}
use Rattle.source_lowering.specs.Layouts.{Piece, piece, is_fat, has_fat, cell_pieces, part_shape_of, padding, layout_of, extent_of}
use Rattle.source_lowering.specs.Lowerable.{IsValueShape}
use Rattle.source_lowering.specs.ObjectCells.{IsCellShape}
use Rattle.source_lowering.specs.Simulation.{at, AreMade, ANull, APointer, AFatNull, AFat, ABirth, AnInteger, AUnion, Shown, ShownMember}
use Rattle.source_lowering.specs.Simulation.{PartsHold, SameMemory}
use Rattle.source_lowering.proofs.memory.CellParts.{PartsAre, FitFirst, fit_first, part_of}
use Rattle.source_lowering.proofs.memory.Members.{cells_pieces, words_behind, tag_first}
use Rattle.source_lowering.proofs.memory.ValueCells.{HaveContents, alone, cell_of, shaped_have}

-- ---- a value as a member

pub shown_member : (w : World) (m : source.Memory) (c : core.Memory) (s : Shape) (v : Scalar) (cs : List Content) → IsValueShape s → Shown w m c s v cs
    → ShownMember w m c s v cs
shown_member w m c IntShape v cs h o = o
shown_member w m c UnsignedShape v cs h o = o
shown_member w m c CharShape v cs h o = o
shown_member w m c VoidShape v cs h o = o
shown_member w m c (ThinShape b owner to) v cs h o = o
shown_member w m c (FatShape to) v cs h o = o
shown_member w m c HandleShape v cs h o = o
shown_member w m c KeyShape v cs h o = o
shown_member w m c (StructShape tag) v cs h o = o
shown_member w m c (UnionShape tag) v cs h o = absurd h
shown_member w m c (ArrayShape count of) v cs h o = o

pub member_shown : (w : World) (m : source.Memory) (c : core.Memory) (s : Shape) (v : Scalar) (cs : List Content) → ShownMember w m c s v cs
    → Shown w m c s v cs
member_shown w m c IntShape v cs o = o
member_shown w m c UnsignedShape v cs o = o
member_shown w m c CharShape v cs o = o
member_shown w m c VoidShape v cs o = o
member_shown w m c (ThinShape b owner to) v cs o = o
member_shown w m c (FatShape to) v cs o = o
member_shown w m c HandleShape v cs o = o
member_shown w m c KeyShape v cs o = o
member_shown w m c (StructShape tag) v cs o = o
member_shown w m c (UnionShape tag) v cs o = absurd o
member_shown w m c (ArrayShape count of) v cs o = o

-- ---- a member's words fit behind the tag

word_fits : (fat : Bool) (t : source.IntegerType) (below : ℕ) (v : Scalar) (cs : List Content) → AnInteger t below v cs → FitFirst (words_behind fat) cs
word_fits true t below v cs o = subst (FitFirst (words_behind true)) (sym o.shown) (refl, tt)
word_fits false t below v cs o = subst (FitFirst (words_behind false)) (sym o.shown) (refl, tt)

birth_fits : (fat : Bool) (which : ℕ → Scalar) (v : Scalar) (cs : List Content) → ABirth which v cs → FitFirst (words_behind fat) cs
birth_fits true which v cs o = subst (FitFirst (words_behind true)) (sym o.shown) (refl, tt)
birth_fits false which v cs o = subst (FitFirst (words_behind false)) (sym o.shown) (refl, tt)

thin_fits : (w : World) (m : source.Memory) (c : core.Memory) (fat : Bool) (b : Reach) (owner : Owner) (to : Shape) (v : Scalar) (cs : List Content)
    → ShownMember w m c (ThinShape b owner to) v cs → FitFirst (words_behind fat) cs
thin_fits w m c true b owner to v cs o =
    ⊎_elim (λ (z : ANull b v cs). subst (FitFirst (words_behind true)) (sym z.shown) (refl, tt))
    (λ (z : APointer w m c (count_of b) owner to v cs). subst (FitFirst (words_behind true)) (sym z.shown) (refl, tt)) o
thin_fits w m c false b owner to v cs o =
    ⊎_elim (λ (z : ANull b v cs). subst (FitFirst (words_behind false)) (sym z.shown) (refl, tt))
    (λ (z : APointer w m c (count_of b) owner to v cs). subst (FitFirst (words_behind false)) (sym z.shown) (refl, tt)) o

pub member_fits : (w : World) (m : source.Memory) (c : core.Memory) (fat : Bool) (s : Shape) (v : Scalar) (cs : List Content) → (is_fat s ≡ true → fat ≡ true)
    → ShownMember w m c s v cs → FitFirst (words_behind fat) cs
member_fits w m c fat IntShape v cs e o = word_fits fat AsInt (2 ^ 32) v cs o
member_fits w m c fat UnsignedShape v cs e o = word_fits fat AsUnsigned (2 ^ 32) v cs o
member_fits w m c fat CharShape v cs e o = word_fits fat AsChar 256 v cs o
member_fits w m c fat VoidShape v cs e o = absurd o
member_fits w m c fat (ThinShape b owner to) v cs e o = thin_fits w m c fat b owner to v cs o
member_fits w m c fat (FatShape to) v cs e o =
    subst (λ z. FitFirst (words_behind z) cs) (sym (e refl))
    (⊎_elim (λ (z : AFatNull v cs). subst (FitFirst (words_behind true)) (sym z.shown) (refl, (refl, (refl, tt))))
    (λ (z : AFat w m c to (size_of w to) v cs). subst (FitFirst (words_behind true)) (sym z.shown) (refl, (refl, (refl, tt)))) o)
member_fits w m c fat HandleShape v cs e o = birth_fits fat HandleOf v cs o
member_fits w m c fat KeyShape v cs e o = birth_fits fat KeyOf v cs o
member_fits w m c fat (StructShape tag) v cs e o = absurd o
member_fits w m c fat (UnionShape tag) v cs e o = absurd o
member_fits w m c fat (ArrayShape count of) v cs e o = absurd o

-- a union with such a member has room for a fat pointer
pub fat_of : (ps : List Part) (number : ℕ) (s : Shape) → slice_get (part_shapes ps) number ≡ Some s → is_fat s ≡ true → has_fat ps ≡ true
fat_of [] number s e f = absurd (none-some s e)
fat_of (p ∷ ps) zero s e f =
    let same : p.shape ≡ s = cc e in ap (λ z. is_fat z || has_fat ps) same ∙ ap (λ z. z || has_fat ps) f
fat_of (p ∷ ps) (suc number) s e f = or_right (is_fat p.shape) (has_fat ps) (fat_of ps number s e f)

-- ---- what is shown fits its cell

pub union_fits : (w : World) (m : source.Memory) (c : core.Memory) (tag : List ℕ) (v : Scalar) (cs : List Content) → AUnion w m c tag v cs
    → FitFirst (cell_pieces w.unions (UnionShape tag)) cs
union_fits w m c tag v cs o =
    let fat = has_fat (parts_of w.unions tag) in
    subst (FitFirst (cell_pieces w.unions (UnionShape tag))) (sym o.shown)
    (subst (λ z. FitFirst z (Word o.number ∷ o.words)) (sym (tag_first fat))
    (refl, member_fits w m c fat o.shape o.held o.words (fat_of (parts_of w.unions tag) o.number o.shape o.known) o.member))

pub shown_fits : (w : World) (m : source.Memory) (c : core.Memory) (s : Shape) (v : Scalar) (cs : List Content) → IsCellShape w.unions s → Shown w m c s v cs
    → FitFirst (cell_pieces w.unions s) cs
shown_fits w m c s v cs h o = by s h o
  where
    value : (z : Shape) → IsValueShape z → Shown w m c z v cs → FitFirst (cell_pieces w.unions z) cs
    value z g u =
        subst (λ qs. FitFirst qs cs) (sym (cells_pieces w.unions z g)) (fit_first _ cs ((cell_of w z g).fit m c v cs u))

    by : (z : Shape) → IsCellShape w.unions z → Shown w m c z v cs → FitFirst (cell_pieces w.unions z) cs
    by (UnionShape tag) g u = union_fits w m c tag v cs u
    by IntShape g u = value IntShape tt u
    by UnsignedShape g u = value UnsignedShape tt u
    by CharShape g u = value CharShape tt u
    by VoidShape g u = absurd g
    by (ThinShape b owner to) g u = value (ThinShape b owner to) g u
    by (FatShape to) g u = value (FatShape to) g u
    by HandleShape g u = value HandleShape tt u
    by KeyShape g u = value KeyShape tt u
    by (StructShape tag) g u = absurd g
    by (ArrayShape count of) g u = absurd g

-- ---- where its parts lie

pub union_layout : (w : World) (tag : List ℕ)
    → (layout_of w (UnionShape tag)).cells ≡ map (part_shape_of (alone (UnionShape tag))) (cell_pieces w.unions (UnionShape tag)) ∷ []
union_layout w tag =
    let size : ℕ = (extent_of w (UnionShape tag)).size in
    let parts : List core.PartShape = map (part_shape_of (alone (UnionShape tag))) (cell_pieces w.unions (UnionShape tag)) in
    let none : size - (0 + size) ≡ 0 = omega arith in
    ap (λ z. (parts ++ padding (0 + size) z) ∷ []) none ∙ ap (λ z. z ∷ []) (append-nil parts)

pub union_parts_there : (w : World) (c : core.Memory) (t : core.Spot) (byte : ℕ) (tag : List ℕ) → AreMade c t byte (layout_of w (UnionShape tag)).cells
    → HaveContents c t byte 0 (cell_pieces w.unions (UnionShape tag))
union_parts_there w c t byte tag made =
    shaped_have c t byte 0 (UnionShape tag) (cell_pieces w.unions (UnionShape tag)) (subst (AreMade c t byte) (union_layout w tag) made).0

-- the first parts of a cell hold these contents
abbrev pub FirstAre : core.Memory → core.Spot → (byte j : ℕ) → List Piece → List Content → Type 0
FirstAre c t byte j qs [] = Unit {0}
FirstAre c t byte j [] (x ∷ xs) = ⊥
FirstAre c t byte j (q ∷ qs) (x ∷ xs) = (c.parts t j ≡ Some (part_of byte q x)) × FirstAre c t byte (suc j) qs xs

abbrev content_in : Content → Option core.Part → Content
content_in y None = y
content_in y (Some q) = q.content

first_are : (c : core.Memory) (t : core.Spot) (byte j : ℕ) (qs : List Piece) (ys xs : List Content) → PartsAre c t byte j qs ys → FitFirst qs xs
    → PartsHold c t j xs → FirstAre c t byte j qs xs
first_are c t byte j [] ys [] are fit hold = tt
first_are c t byte j (q ∷ qs) ys [] are fit hold = tt
first_are c t byte j [] ys (x ∷ xs) are fit hold = absurd fit
first_are c t byte j (q ∷ qs) [] (x ∷ xs) are fit hold = absurd are
first_are c t byte j (q ∷ qs) (y ∷ ys) (x ∷ xs) are fit hold =
    let both : Some (part_of byte q y) ≡ Some hold.0.0 = sym are.0 ∙ hold.0.1.0 in
    let same : y ≡ x = ap (content_in y) both ∙ hold.0.1.1 in
    (are.0 ∙ ap (λ z. Some (part_of byte q z)) same, first_are c t byte (suc j) qs ys xs are.1 fit.1 hold.1)

-- ---- what is known of a union that holds a member

pub record UnionHeld (w : World) (m : source.Memory) (c : core.Memory) (tag : List ℕ) (t : core.Spot) (byte number : ℕ) (v : Scalar) : Type 0 where
  pub shape : Shape
  pub words : List Content
  pub known : slice_get (part_shapes (parts_of w.unions tag)) number ≡ Some shape
  pub parts : FirstAre c t byte 0 (piece 0 4 core.Blank ∷ words_behind (has_fat (parts_of w.unions tag))) (Word number ∷ words)
  pub shown : ShownMember w m c shape v words

-- what a source's cell holds
pub record UnionRead (w : World) (m : source.Memory) (c : core.Memory) (tag : List ℕ) (s : Spot) (byte : ℕ) (x : Scalar) : Type 0 where
  pub number : ℕ
  pub value : Scalar
  pub is : x ≡ Tagged number value
  pub held : UnionHeld w m c tag (at s) byte number value

pub union_read : (w : World) (m : source.Memory) (c : core.Memory) (tag : List ℕ) (s : Spot) (byte : ℕ) (x : Scalar) → SameMemory w m c
    → AreMade c (at s) byte (layout_of w (UnionShape tag)).cells → m.cells s ≡ Some (record { shape = UnionShape tag; content = Holds x })
    → UnionRead w m c tag s byte x
union_read w m c tag s byte x a made holds =
    let one = a.cells s (UnionShape tag) (Holds x) x refl holds in
    let u : AUnion w m c tag x one.contents = one.shown in
    let have = union_parts_there w c (at s) byte tag made in
    let fit = union_fits w m c tag x one.contents u in
    let are = first_are c (at s) byte 0 (cell_pieces w.unions (UnionShape tag)) have.contents one.contents have.are fit one.held in
    record {
      number = u.number;
      value = u.held;
      is = u.value;
      held = record {
        shape = u.shape;
        words = u.words;
        known = u.known;
        parts = subst (λ z. FirstAre c (at s) byte 0 z (Word u.number ∷ u.words)) (tag_first (has_fat (parts_of w.unions tag)))
            (subst (FirstAre c (at s) byte 0 (cell_pieces w.unions (UnionShape tag))) u.shown are);
        shown = u.member;
      };
    }

-- where it is known which member that is
pub union_held : (w : World) (m : source.Memory) (c : core.Memory) (tag : List ℕ) (s : Spot) (byte number : ℕ) (v : Scalar) → SameMemory w m c
    → AreMade c (at s) byte (layout_of w (UnionShape tag)).cells → m.cells s ≡ Some (record { shape = UnionShape tag; content = Holds (Tagged number v) })
    → UnionHeld w m c tag (at s) byte number v
union_held w m c tag s byte number v a made holds =
    let one = union_read w m c tag s byte (Tagged number v) a made holds in
    let k : one.number ≡ number = number_is one.number number one.value v (sym one.is) in
    let u : one.value ≡ v = value_is one.number number one.value v (sym one.is) in
    subst (λ z. UnionHeld w m c tag (at s) byte z v) k (subst (λ z. UnionHeld w m c tag (at s) byte one.number z) u one.held)
  where
    number_is : (i j : ℕ) (x y : Scalar) → Tagged i x ≡ Tagged j y → i ≡ j
    number_is i j x y e = cc e

    value_is : (i j : ℕ) (x y : Scalar) → Tagged i x ≡ Tagged j y → x ≡ y
    value_is i j x y e = cc e
