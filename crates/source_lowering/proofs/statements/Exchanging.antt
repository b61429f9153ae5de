-- Values of two places are exchanged: both are read, and each goes to the other place.
use Rattle.std.proofs.Common.{◌≡◌, ℕ, ◌+◌, ◌<◌, List, [], ◌∷◌, ◌++◌, length, refl, sym, ap, ◌∙◌, subst, arith}
use Rattle.source_meaning.specs.Shapes.{Shape}
use Rattle.source_meaning.specs.Memory as source
use Rattle.source_meaning.specs.Memory.{Scalar, Spot}
use Rattle.source_meaning.specs.Steps as steps
use Rattle.source_meaning.specs.Steps.{give, ◌>>=◌, ◌>>◌, check}
use Rattle.source_meaning.specs.Values.{read_cells, write_cells}
use Rattle.core_meaning.specs.Memory.{Content}
use Rattle.core_meaning.specs.Core.{Statement, Statements}
use Rattle.core_meaning.specs.Steps as core_steps
use Rattle.core_meaning.specs.Steps.{Config, with_memory}
use Rattle.core_meaning.specs.Meaning as meaning
use Rattle.source_lowering.specs.Layouts.{pieces_of}
use Rattle.source_lowering.specs.Members.{words_in}
use Rattle.source_lowering.specs.Lowered.{put}
use Rattle.source_lowering.specs.Lowerable.{IsValueShape}
use Rattle.source_lowering.specs.Programs.{Side, side_read, side_written, value_exchange}
use Rattle.source_lowering.specs.Simulation.{at, AreKept, GrownAt, Leads, Next, Point, SameAt, SameState, Shown, contents_in, within}
use Rattle.source_lowering.proofs.memory.Keeping.{fits_later, later_on, leads_later, m_written, shown_later}
use Rattle.source_lowering.proofs.Runs.{put_all}
use Rattle.source_lowering.proofs.memory.CellParts.{with_values}
use Rattle.source_lowering.proofs.memory.ValueCells.{CellRead, CellWritten, IsCell, cell_of, cell_reads, cell_writes}
use Rattle.source_lowering.proofs.values.Values.{kept_contents, put_three}
use Rattle.source_lowering.proofs.statements.Sides.{IsReached, SideRead, reached_still, side_is_read, side_is_written}

-- ---- both do the same

-- the source exchanges what two places hold
abbrev pub exchanged_at : Spot → Spot → (source.Memory → steps.Step) → source.Memory → steps.Step
exchanged_at t u s = read_cells 1 t (λ vs. read_cells 1 u (λ us. write_cells t us (λ z. write_cells u vs (λ y. s))))

-- so does code that reaches both places, by pointers to them in the first free temporaries or by name
abbrev pub ExchangesAs : Point → ℕ → Side → Side → Shape → List Statement → Type 0
ExchangesAs p n a b shape code = (m0 : source.Memory) (c0 : Config) (m : source.Memory) (c : Config) (t u : Spot) (bt bu : ℕ)
    (s : source.Memory → steps.Step) (rest : Statements) (next : Next) → SameState p m c → GrownAt p m0 c0 m c
    → AreKept p.regions.all c0 c → IsReached p a shape c.temps p.regions.all t bt → IsReached p b shape c.temps (p.regions.all + 1) u bu
    → Leads p.world m c.memory shape t bt → Leads p.world m c.memory shape u bu
    → ((m' : source.Memory) (c' : Config) → SameState p m' c' → GrownAt p m0 c0 m' c' → AreKept p.regions.all c0 c'
    → SameAt p n (s m') (meaning.statements rest next c'))
    → SameAt p n (exchanged_at t u s m) (meaning.statements (put code rest) next c)

pub values_exchange : (p : Point) (n : ℕ) (a b : Side) (shape : Shape) → IsValueShape shape
    → ExchangesAs p n a b shape (value_exchange a b shape p.regions.all)
values_exchange p n a b shape is_value m0 c0 m c t u bt bu s rest next fits later kept left right leads_t leads_u go =
    subst (λ z. SameAt p n (read_cells z t (λ vs. read_cells 1 u (then_write vs)) m) whole) (ap length one.cells)
    (cell_reads p.world p.program n shape m c.memory t bt (λ vs. read_cells 1 u (then_write vs)) whole one fits.agree leads_t
    (λ v (o : CellRead p.world m c.memory shape t bt v).
    subst (λ z. SameAt p n (read_cells z u (then_write (v ∷ [])) m) whole) (ap length one.cells)
    (cell_reads p.world p.program n shape m c.memory u bu (then_write (v ∷ [])) whole one fits.agree leads_u
    (λ x (q : CellRead p.world m c.memory shape u bu x).
    subst (λ z. SameAt p n (write_cells t (x ∷ []) (λ y. write_cells u (v ∷ []) (λ z. s)) m) z) (sym (loaded v x o q)) (stored v x o q)))))
  where
    d : ℕ
    d = p.regions.all

    e : ℕ
    e = d + 2 + words_in shape

    one : IsCell p.world shape
    one = cell_of p.world shape is_value

    then_write : List Scalar → List Scalar → source.Memory → steps.Step
    then_write vs us = write_cells t us (λ z. write_cells u vs (λ y. s))

    first : List Statement
    first = side_read a shape d (d + 2)

    second : List Statement
    second = side_read b shape (d + 1) e

    to_left : List Statement
    to_left = side_written a shape d e

    to_right : List Statement
    to_right = side_written b shape (d + 1) (d + 2)

    whole : core_steps.Step
    whole = meaning.statements (put (value_exchange a b shape d) rest) next c

    -- the left value is read, and then the right one
    left_read : (v : Scalar) (o : CellRead p.world m c.memory shape t bt v) → SideRead c first (d + 2) shape o.contents
    left_read v o = side_is_read p a shape is_value c (d + 2) d bt t o.contents fits.blocks left o.live o.parts o.fit

    one_read : (v : Scalar) → CellRead p.world m c.memory shape t bt v → Config
    one_read v o = record c { temps = (left_read v o).temps }

    right_read : (v x : Scalar) (o : CellRead p.world m c.memory shape t bt v) (q : CellRead p.world m c.memory shape u bu x)
        → SideRead (one_read v o) second e shape q.contents
    right_read v x o q =
        side_is_read p b shape is_value (one_read v o) e (d + 1) bu u q.contents fits.blocks
        (reached_still p b shape c.temps (left_read v o).temps (d + 1) u bu ((left_read v o).kept (d + 1) (omega arith)) right) q.live q.parts q.fit

    both_read : (v x : Scalar) → CellRead p.world m c.memory shape t bt v → CellRead p.world m c.memory shape u bu x → Config
    both_read v x o q = record c { temps = (right_read v x o q).temps }

    both_kept : (v x : Scalar) (o : CellRead p.world m c.memory shape t bt v) (q : CellRead p.world m c.memory shape u bu x) (k : ℕ) → k < d + 2
        → (both_read v x o q).temps k ≡ c.temps k
    both_kept v x o q k less = (right_read v x o q).kept k (omega (arith, less)) ∙ (left_read v o).kept k less

    loaded : (v x : Scalar) (o : CellRead p.world m c.memory shape t bt v) (q : CellRead p.world m c.memory shape u bu x)
        → whole ≡ meaning.statements (put to_left (put to_right rest)) next (both_read v x o q)
    loaded v x o q =
        ap (λ z. meaning.statements z next c)
        (put_all first (second ++ (to_left ++ to_right)) rest ∙ ap (put first) (put_three second to_left to_right rest)) ∙
        (left_read v o).does (put second (put to_left (put to_right rest))) next ∙ (right_read v x o q).does (put to_left (put to_right rest)) next

    stored : (v x : Scalar) (o : CellRead p.world m c.memory shape t bt v) (q : CellRead p.world m c.memory shape u bu x)
        → SameAt p n (write_cells t (x ∷ []) (λ y. write_cells u (v ∷ []) (λ z. s)) m)
        (meaning.statements (put to_left (put to_right rest)) next (both_read v x o q))
    stored v x o q =
        let c1 : Config = both_read v x o q in
        let xs : List Content = contents_in (d + 2) shape c1.temps in
        let ys : List Content = contents_in e shape c1.temps in
        let these : ys ≡ q.contents = (right_read v x o q).are in
        let those : xs ≡ o.contents =
        kept_contents shape (d + 2) (one_read v o) c1 (λ k less. (right_read v x o q).kept k less) ∙ (left_read v o).are in
        let kept1 : (k : ℕ) → k < d + 2 → c1.temps k ≡ c.temps k = both_kept v x o q in
        cell_writes p.world p.program n shape m c.memory t bt x ys (λ y. write_cells u (v ∷ []) (λ z. s))
        (meaning.statements (put to_left (put to_right rest)) next c1) one fits.agree leads_t
        (subst (λ z. Shown p.world m c.memory shape x z) (sym these) q.shown)
        (λ (f : CellWritten p.world m c.memory shape t bt x ys).
        let m2 : source.Memory = m_written m t shape x in
        let c2 : Config = with_memory (with_values c1.memory (at t) bt (pieces_of shape) ys) c1 in
        subst (λ z. SameAt p n (write_cells u (v ∷ []) (λ z. s) m2) z)
        (sym (side_is_written p a shape is_value c1 d e bt t f.old (put to_right rest) next fits.blocks
        (reached_still p a shape c.temps c1.temps d t bt (kept1 d (omega arith)) left) f.live f.parts f.fit))
        (cell_writes p.world p.program n shape m2 c2.memory u bu v xs (λ z. s) (meaning.statements (put to_right rest) next c2) one f.agree
        (leads_later (within p) p.world m m2 c.memory c2.memory shape u bu (f.later (within p)) leads_u)
        (shown_later (within p) p.world m m2 c.memory c2.memory shape v xs (f.later (within p))
        (subst (λ z. Shown p.world m c.memory shape v z) (sym those) o.shown))
        (λ (g : CellWritten p.world m2 c2.memory shape u bu v xs).
        let m3 : source.Memory = m_written m2 u shape v in
        let c3 : Config = with_memory (with_values c2.memory (at u) bu (pieces_of shape) xs) c2 in
        let more = later_on (within p) m m2 m3 c.memory c2.memory c3.memory (f.later (within p)) (g.later (within p)) in
        let same : AreKept d c c3 = λ k less. kept1 k (omega (arith, less)) in
        subst (λ z. SameAt p n (s m3) z)
        (sym (side_is_written p b shape is_value c2 (d + 1) (d + 2) bu u g.old rest next fits.blocks
        (reached_still p b shape c.temps c2.temps (d + 1) u bu (kept1 (d + 1) (omega arith)) right) g.live g.parts g.fit))
        (go m3 c3 (fits_later p m m3 c c3 fits g.agree more refl same)
        (later_on (within p) m0 m m3 c0.memory c.memory c3.memory later more) (λ k less. same k less ∙ kept k less)))))
