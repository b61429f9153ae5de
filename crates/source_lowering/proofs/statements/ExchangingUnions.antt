-- Tagged unions of two places are exchanged, word by word, whatever is behind the members that they hold.
use Rattle.std.proofs.Common.{◌≡◌, ℕ, ◌+◌, ◌<◌, List, [], ◌∷◌, ◌++◌, true, Some, refl, sym, ap, ◌∙◌, subst, arith, length}
use Rattle.source_meaning.specs.Shapes.{Shape, UnionShape, parts_of}
use Rattle.source_meaning.specs.Memory as source
use Rattle.source_meaning.specs.Memory.{Holds, Scalar, Spot, is_live}
use Rattle.source_meaning.specs.Steps as steps
use Rattle.source_meaning.specs.Steps.{World}
use Rattle.source_meaning.specs.Values.{read_cells, write_cells}
use Rattle.core_meaning.specs.Memory as core
use Rattle.core_meaning.specs.Memory.{Content, Pointer}
use Rattle.core_meaning.specs.Core.{Statement}
use Rattle.core_meaning.specs.Steps as core_steps
use Rattle.core_meaning.specs.Steps.{Config}
use Rattle.core_meaning.specs.Meaning as meaning
use Rattle.source_lowering.specs.Layouts.{Piece, cell_pieces, has_fat}
use Rattle.source_lowering.specs.Lowered.{put}
use Rattle.source_lowering.specs.Programs.{Side, exchange_code, words_read, words_written}
use Rattle.source_lowering.specs.Simulation.{at, region_at, AreKept, AUnion, Grown, GrownAt, HasShape, Leads, Point, SameAt, SameMemory, Bound, within}
use Rattle.source_lowering.proofs.memory.Keeping.{fits_later, leads_later, later_on, m_written, shown_later, IsUnlent}
use Rattle.source_lowering.proofs.Runs.{put_all}
use Rattle.source_lowering.proofs.memory.CellParts.{FitFirst, FitPieces, PartsAre, agree_values, all_hold, later_values, with_values}
use Rattle.source_lowering.proofs.memory.ValueCells.{HaveContents, cell_held, cell_put}
use Rattle.source_lowering.proofs.memory.UnionCells.{union_fits, union_parts_there}
use Rattle.source_lowering.proofs.memory.UnionWords.{Begins, WordsRead, are_kept, begin_hold, held_begin, pieces_from, union_pieces_are, words_fit}
use Rattle.source_lowering.proofs.memory.UnionWords.{words_are_read, words_are_written}
use Rattle.source_lowering.proofs.statements.Sides.{union_pointed}
use Rattle.source_lowering.proofs.statements.Exchanging.{ExchangesAs}

-- ---- a union's cell, by all its words

abbrev words_of : World → List ℕ → ℕ
words_of w tag = length (cell_pieces w.unions (UnionShape tag))

abbrev pieces : World → List ℕ → List Piece
pieces w tag = pieces_from 0 (words_of w tag)

-- words of which the first ones stand for a value
record StandFor (w : World) (m : source.Memory) (c : core.Memory) (tag : List ℕ) (v : Scalar) (words : List Content) : Type 0 where
  pub first : List Content
  pub shown : AUnion w m c tag v first
  pub begin : Begins words first

stand_later : (b : Bound) (w : World) (m m' : source.Memory) (c c' : core.Memory) (tag : List ℕ) (v : Scalar) (words : List Content) → Grown b m c m' c'
    → StandFor w m c tag v words → StandFor w m' c' tag v words
stand_later b w m m' c c' tag v words later o = record {
  first = o.first;
  shown = shown_later b w m m' c c' (UnionShape tag) v o.first later o.shown;
  begin = o.begin;
}

-- all that a place holds
record UnionThere (w : World) (m : source.Memory) (c : core.Memory) (tag : List ℕ) (t : Spot) (byte : ℕ) : Type 0 where
  pub has : HasShape m t (UnionShape tag)
  pub words : List Content
  pub parts : PartsAre c (at t) byte 0 (pieces w tag) words
  pub fit : FitPieces (pieces w tag) words

union_there : (w : World) (m : source.Memory) (c : core.Memory) (tag : List ℕ) (t : Spot) (byte : ℕ) → Leads w m c (UnionShape tag) t byte
    → UnionThere w m c tag t byte
union_there w m c tag t byte leads =
    let have : HaveContents c (at t) byte 0 (cell_pieces w.unions (UnionShape tag)) = union_parts_there w c (at t) byte tag leads.1 in
    let parts : PartsAre c (at t) byte 0 (pieces w tag) have.contents =
    subst (λ z. PartsAre c (at t) byte 0 z have.contents) (union_pieces_are (has_fat (parts_of w.unions tag))) have.are in
    record { has = leads.0.0; words = have.contents; parts = parts; fit = words_fit c (at t) byte 0 0 (words_of w tag) have.contents parts }

-- what it holds stands for the source's value
stand_there : (w : World) (m : source.Memory) (c : core.Memory) (tag : List ℕ) (t : Spot) (byte : ℕ) (v : Scalar) (there : UnionThere w m c tag t byte)
    → SameMemory w m c → m.cells t ≡ Some (record { shape = UnionShape tag; content = Holds v }) → StandFor w m c tag v there.words
stand_there w m c tag t byte v there agree is =
    let one = agree.cells t (UnionShape tag) (Holds v) v refl is in
    record {
      first = one.contents;
      shown = one.shown;
      begin = held_begin c (at t) byte 0 (pieces w tag) there.words one.contents there.parts
          (subst (λ z. FitFirst z one.contents) (union_pieces_are (has_fat (parts_of w.unions tag))) (union_fits w m c tag v one.contents one.shown)) one.held;
    }

-- what it has when others are written to it
union_written : (w : World) (m : source.Memory) (c : core.Memory) (tag : List ℕ) (t : Spot) (byte : ℕ) (v : Scalar) (words : List Content)
    (there : UnionThere w m c tag t byte) → SameMemory w m c → FitPieces (pieces w tag) words → StandFor w m c tag v words
    → SameMemory w (m_written m t (UnionShape tag) v) (with_values c (at t) byte (pieces w tag) words)
union_written w m c tag t byte v words there agree fit o =
    agree_values w m c t (UnionShape tag) there.has.content v byte (pieces w tag) there.words words o.first agree there.has.is there.parts
    (begin_hold (with_values c (at t) byte (pieces w tag) words) (at t) 0 words o.first o.begin (all_hold c (at t) byte 0 (pieces w tag) words fit)) o.shown

union_grown : (b : Bound) (w : World) (m : source.Memory) (c : core.Memory) (tag : List ℕ) (t : Spot) (byte : ℕ) (v : Scalar) (words : List Content)
    (there : UnionThere w m c tag t byte) → IsUnlent m t → Grown b m c (m_written m t (UnionShape tag) v) (with_values c (at t) byte (pieces w tag) words)
union_grown b w m c tag t byte v words there free =
    later_values b m c t (UnionShape tag) there.has.content (Holds v) byte (pieces w tag) there.words words there.has.is free there.parts

-- ---- both do the same

pub unions_exchange : (p : Point) (n : ℕ) (a b : Side) (tag : List ℕ)
    → ExchangesAs p n a b (UnionShape tag) (exchange_code p.world a b (UnionShape tag) p.regions.all)
unions_exchange p n a b tag m0 c0 m c t u bt bu s rest next fits later kept left_side right_side leads_t leads_u go =
    cell_held p.world p.program n shape m t (λ vs. read_cells 1 u (then_write vs)) whole left_there.has
    (λ v live_t is_t.
    cell_held p.world p.program n shape m u (then_write (v ∷ [])) whole right_there.has
    (λ x live_u is_u.
    cell_put p.world p.program n shape m t x (λ y. write_cells u (v ∷ []) (λ z. s)) whole left_there.has
    (λ again free. written v x free (sym (fits.agree.live t.region) ∙ live_t) (sym (fits.agree.live u.region) ∙ live_u)
    (stand_there p.world m c.memory tag t bt v left_there fits.agree is_t) (stand_there p.world m c.memory tag u bu x right_there fits.agree is_u))))
  where
    shape : Shape
    shape = UnionShape tag

    d : ℕ
    d = p.regions.all

    count : ℕ
    count = words_of p.world tag

    e : ℕ
    e = d + 2 + count

    left : c.temps d ≡ Pointer (at t) bt
    left = union_pointed p a tag c.temps d t bt left_side

    right : c.temps (d + 1) ≡ Pointer (at u) bu
    right = union_pointed p b tag c.temps (d + 1) u bu right_side

    left_there : UnionThere p.world m c.memory tag t bt
    left_there = union_there p.world m c.memory tag t bt leads_t

    right_there : UnionThere p.world m c.memory tag u bu
    right_there = union_there p.world m c.memory tag u bu leads_u

    first : List Statement
    first = words_read count 0 (d + 2) d

    second : List Statement
    second = words_read count 0 e (d + 1)

    to_left : List Statement
    to_left = words_written count 0 d e

    to_right : List Statement
    to_right = words_written count 0 (d + 1) (d + 2)

    then_write : List Scalar → List Scalar → source.Memory → steps.Step
    then_write vs us = write_cells t us (λ z. write_cells u vs (λ y. s))

    whole : core_steps.Step
    whole = meaning.statements (put (exchange_code p.world a b shape d) rest) next c

    written : (v x : Scalar) → IsUnlent m t → core.is_live (c.memory.standing (region_at t.region)) ≡ true
        → core.is_live (c.memory.standing (region_at u.region)) ≡ true → StandFor p.world m c.memory tag v left_there.words
        → StandFor p.world m c.memory tag x right_there.words
        → SameAt p n (write_cells u (v ∷ []) (λ y. s) (m_written m t shape x)) whole
    written v x free live_t live_u o q =
        let one : WordsRead c first (d + 2) left_there.words =
        words_are_read count c (d + 2) d 0 bt (at t) left_there.words (omega arith) left live_t left_there.parts in
        let other : WordsRead (record c { temps = one.temps }) second e right_there.words =
        words_are_read count (record c { temps = one.temps }) e (d + 1) 0 bu (at u) right_there.words (omega arith) (one.kept (d + 1) (omega arith) ∙ right)
        live_u right_there.parts in
        let before : (k : ℕ) → k < d + 2 → other.temps k ≡ c.temps k = λ k less. other.kept k (omega (arith, less)) ∙ one.kept k less in
        let c1 : Config = record c { temps = other.temps } in
        let c2 : Config = record c1 { memory = with_values c.memory (at t) bt (pieces p.world tag) right_there.words } in
        let m2 : source.Memory = m_written m t shape x in
        let agree2 = union_written p.world m c.memory tag t bt x right_there.words left_there fits.agree right_there.fit q in
        let later2 : GrownAt p m c m2 c2 = union_grown (within p) p.world m c.memory tag t bt x right_there.words left_there free in
        let there = union_there p.world m2 c2.memory tag u bu (leads_later (within p) p.world m m2 c.memory c2.memory shape u bu later2 leads_u) in
        let c3 : Config = record c2 { memory = with_values c2.memory (at u) bu (pieces p.world tag) left_there.words } in
        let m3 : source.Memory = m_written m2 u shape v in
        let done : whole ≡ meaning.statements rest next c3 =
        ap (λ z. meaning.statements z next c)
        (put_all first (second ++ (to_left ++ to_right)) rest ∙ ap (put first) (put_all second (to_left ++ to_right) rest ∙
        ap (put second) (put_all to_left to_right rest))) ∙
        one.does (put second (put to_left (put to_right rest))) next ∙ other.does (put to_left (put to_right rest)) next ∙
        words_are_written count c1 d e 0 bt (at t) left_there.words right_there.words (put to_right rest) next (before d (omega arith) ∙ left) live_t
        left_there.parts right_there.fit other.are ∙
        words_are_written count c2 (d + 1) (d + 2) 0 bu (at u) there.words left_there.words rest next (before (d + 1) (omega arith) ∙ right) live_u there.parts
        left_there.fit (are_kept 0 count (d + 2) left_there.words one.temps other.temps left_there.fit (λ k less. other.kept k less) one.are) in
        subst (λ z. SameAt p n (write_cells u (v ∷ []) (λ y. s) m2) z) (sym done)
        (cell_put p.world p.program n shape m2 u v (λ y. s) (meaning.statements rest next c3) there.has
        (λ again unlent.
        let more = later_on (within p) m m2 m3 c.memory c2.memory c3.memory later2
        (union_grown (within p) p.world m2 c2.memory tag u bu v left_there.words there unlent) in
        let same : AreKept d c c3 = λ k less. before k (omega (arith, less)) in
        go m3 c3
        (fits_later p m m3 c c3 fits
        (union_written p.world m2 c2.memory tag u bu v left_there.words there agree2 left_there.fit
        (stand_later (within p) p.world m m2 c.memory c2.memory tag v left_there.words later2 o)) more refl same)
        (later_on (within p) m0 m m3 c0.memory c.memory c3.memory later more) (λ k less. same k less ∙ kept k less)))
