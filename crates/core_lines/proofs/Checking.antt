-- What the code of a check does: a branch over what raises its exception.
use Rattle.std.specs.Prelude.{not, if◌then◌else◌}
use Rattle.std.proofs.Common.{◌≡◌, ℕ, zero, suc, pos, ◌+◌, ◌%◌, ◌<◌, ◌≤◌, Bool, true, false, List, [], ◌∷◌, ◌++◌, Option, Some, None}
use Rattle.std.proofs.Common.{refl, sym, ap, subst, ◌∙◌, arith}
use Rattle.std.proofs.lemmas.Option.{none-some}
use Rattle.cyc_words.specs.declared.faults.Kind.{Kind}
use Rattle.cyc_words.specs.Words.{word, sum_of}
use Rattle.core_lines.specs.declared.comparison.Comparison.{Comparison}
use Rattle.core_lines.specs.Comparisons.{inverse, branch_if}
use Rattle.rv32_machine.specs.State.{code_base}
use Rattle.core_meaning.specs.Memory.{Content, Memory}
use Rattle.core_meaning.specs.Core.{Statement, Do, If, While, Block, Leave, Break, Continue, Call, Return, Raise, Statements, NoStatements, MoreStatements}
use Rattle.core_meaning.specs.Meaning as core
use Rattle.core_meaning.specs.Selectable.{HasLinesIn}
use Rattle.core_meaning.specs.Steps.{Config, Step, Exit, Falls}
use Rattle.core_lines.specs.declared.line.Line.{Line}
use Rattle.core_lines.specs.declared.line.Line.TheVariants.{Plain}
use Rattle.core_lines.specs.Machines.{Machine, state_of}
use Rattle.core_lines.specs.Lines.{code_length}
use Rattle.core_lines.specs.Frames.{raise_code}
use Rattle.core_lines.specs.Held.{Holding, source_of, number_in, held_behind}
use Rattle.core_lines.specs.Operands.{test_in, test_ready}
use Rattle.core_lines.specs.Checks.{kind_of, kind_in, Failure, Always, ByTest, either_failure, failure_of, failure_in, check_of}
use Rattle.core_lines.specs.Checks.{either_code, failure_code, tested_code, check_code, checked_code}
use Rattle.core_lines.specs.Completing.{can_complete}
use Rattle.core_lines.specs.Lies.{Maps}
use Rattle.core_lines.proofs.Lengths.{failure_within}
use Rattle.core_lines.proofs.memory.Relations.{Moves, World, IsInOrder, Has, Waiting, Goes, active_of, keeping}
use Rattle.core_lines.proofs.memory.Moving.{Reach, Comes, comes_then, comes_as, bare, goes_from, goes_stuck}
use Rattle.core_lines.proofs.memory.Verdicts.{is_so, not_so, branch_as, branch_lawful}
use Rattle.core_lines.proofs.memory.Access.{written_out, length_of_both, behind}
use Rattle.core_lines.proofs.Steps.{state_at, is_in_code, goes_to, passes}
use Rattle.core_lines.proofs.frames.Passing.{has_first, has_second}
use Rattle.core_lines.proofs.frames.Going.{with_config, GoesHolding, goes_any, goes_fewer}
use Rattle.core_lines.proofs.operations.Raising.{raise_goes}
use Rattle.core_lines.proofs.operations.Registers.{AtWith, AtHolding, AreThere, IsServed, elsewhere, knows, with_there, as_holding}
use Rattle.core_lines.proofs.operations.EachOperation.{scoped}
use Rattle.core_lines.proofs.Loads.{statements_below}
use Rattle.core_lines.proofs.Ways.{Needs, Does, Tested, Fails, Holds, Neither}
use Rattle.core_lines.proofs.Shown.{AreWhole, showing, showing_all, first_way, second_way, choice_served}
use Rattle.core_lines.proofs.Decided.{number_found, fails_known, holds_known}
use Rattle.core_lines.proofs.Tests.{isnt_so, is_so_where, Tells, ready, tested}

-- ---- a branch over code, behind a test

module _ (w : World) (order : IsInOrder w) (x : Waiting) (outer : List Waiting) (mem : Memory) (held : List Holding) (t place : ℕ) (skipped : List Line)
    (named : t < x.fn.temporaries) (served : IsServed w x held t) (few : code_length skipped ≤ 60) where
  abbrev over : ℕ
  over = 4 + code_length skipped

  abbrev ready_lines : List Line
  ready_lines = test_ready x.fn.passed held 5 t

  abbrev at_branch : ℕ
  at_branch = place + code_length ready_lines

  abbrev Told : Maps → (ℕ → ℕ) → Type 0
  Told = Tells w order x outer mem held t place named served (test_in held 5 t)

  abbrev At_branch : Machine → Type 0
  At_branch = AtWith w x outer mem at_branch Told

  still : (at : ℕ) (s : Machine) → AtWith w x outer mem at Told s → AtHolding w x outer mem at held s
  still at s a = as_holding w x outer mem at held s (knows w order x outer mem at Told (AreThere held x.config.temps) s (λ m registers h. h.1) a)

  -- the branch is made where a comparison holds, which is that of the test or its inverse
  module _ (c : Comparison) (has : Has w place (ready_lines ++ (Plain (branch_if c (pos over)) ∷ []))) where
    abbrev last : Has w at_branch (Plain (branch_if c (pos over)) ∷ [])
    last = has_second w place ready_lines (Plain (branch_if c (pos over)) ∷ []) has

    abbrev here : Comes w (AtHolding w x outer mem place held) At_branch
    here = comes_then w _ _ _ (comes_as w _ _ (with_there w x outer mem place held))
        (ready w order x outer mem held t place named served (has_first w place ready_lines (Plain (branch_if c (pos over)) ∷ []) has))

    is_made : (s : Machine) → At_branch s → is_so c s.registers ≡ true → Reach w.areas 1 (AtHolding w x outer mem (at_branch + over) held) s
    is_made s a is =
        let now = state_at at_branch s.registers s.bytes s.store in
        let to = at_branch + over in
        let aligned = behind (at_branch + 4) skipped (let e = a.stands.aligned in omega (arith, e)) in
        let lines_aligned : to % 4 ≡ 0 = omega (arith, aligned) in
        let near = is_in_code w.areas w.code order.code_within s.store at_branch (branch_if c (pos over)) last.0.0 in
        record {
          next = state_at to s.registers s.bytes s.store;
          moves = subst (λ (q : Machine). Moves w.areas 1 q (state_at to s.registers s.bytes s.store))
              (sym (written_out w order mem at_branch a.maps (a.frame ∷ a.others) a.sp s a.stands))
              (goes_to w.areas w.code order.code_within s.store at_branch s.registers s.bytes a.stands.kept (branch_if c (pos over)) last.0.0 0
              (sum_of (code_base + at_branch) (word (pos over))) to (omega (arith, near, few)) lines_aligned
              (λ answer. branch_as w.areas answer c (pos over) (state_of now) true is) (branch_lawful w.areas (bare now) c (pos over)));
          there = still to _ (elsewhere w order x outer mem at_branch to Told Told s a s.registers lines_aligned (λ q h. refl) a.holds);
        }

    isnt_made : (s : Machine) → At_branch s → is_so c s.registers ≡ false → Reach w.areas 1 (AtHolding w x outer mem (at_branch + 4) held) s
    isnt_made s a isnt =
        let now = state_at at_branch s.registers s.bytes s.store in
        let to = at_branch + 4 in
        let lines_aligned : to % 4 ≡ 0 = let e = a.stands.aligned in omega (arith, e) in
        record {
          next = state_at to s.registers s.bytes s.store;
          moves = subst (λ (q : Machine). Moves w.areas 1 q (state_at to s.registers s.bytes s.store))
              (sym (written_out w order mem at_branch a.maps (a.frame ∷ a.others) a.sp s a.stands))
              (passes w.areas w.code order.code_within s.store at_branch s.registers s.bytes a.stands.kept (branch_if c (pos over)) last.0.0
              (λ answer. branch_as w.areas answer c (pos over) (state_of now) false isnt) (branch_lawful w.areas (bare now) c (pos over)));
          there = still to _ (elsewhere w order x outer mem at_branch to Told Told s a s.registers lines_aligned (λ q h. refl) a.holds);
        }

    -- where it is known whether it is made
    abbrev Decided : Bool → Type 0
    Decided b = (m : Maps) (registers : ℕ → ℕ) → Told m registers → is_so c registers ≡ b

    pub made : Decided true → Comes w (AtHolding w x outer mem place held) (AtHolding w x outer mem (at_branch + over) held)
    made decided = comes_then w _ _ _ here (record { count = 1; by = λ s a. is_made s a (decided a.maps s.registers a.holds) })

    pub not_made : Decided false → Comes w (AtHolding w x outer mem place held) (AtHolding w x outer mem (at_branch + 4) held)
    not_made decided = comes_then w _ _ _ here (record { count = 1; by = λ s a. isnt_made s a (decided a.maps s.registers a.holds) })

-- ---- by what the temporary holds

module _ (w : World) (order : IsInOrder w) (x : Waiting) (outer : List Waiting) where
  -- a choice by a branch, made where the temporary is 0 or NULL, or where it is neither
  abbrev branch_by : Bool → Comparison → Comparison
  branch_by none test = (if none then inverse test else test)

  branch_goes : (kept : List Bool) (fuel : ℕ) (held : List Holding) (t place : ℕ) (skipped : List Line) (none : Bool) (these those : Config → Step)
      → t < x.fn.temporaries → IsServed w (keeping kept x) held t → code_length skipped ≤ 60
      → Has w place (test_ready x.fn.passed held 5 t ++ (Plain (branch_if (branch_by none (test_in held 5 t)) (pos (4 + code_length skipped))) ∷ []))
      → GoesHolding w (keeping kept x) outer fuel (place + code_length (test_ready x.fn.passed held 5 t) + (if none then 4 else 4 + code_length skipped)) held
      these
      → GoesHolding w (keeping kept x) outer fuel (place + code_length (test_ready x.fn.passed held 5 t) + (if none then 4 + code_length skipped else 4)) held
      those
      → GoesHolding w (keeping kept x) outer fuel place held (λ c. core.branch (c.temps t) (these c) (those c))
  branch_goes kept fuel held t place skipped none these those named served few has one other c is = by (c.temps t) refl (tested (c.temps t))
    where
      y : Waiting
      y = with_config (keeping kept x) c

      R : ℕ → Machine → Type 0
      R at s = AtHolding w y outer c.memory at held s

      at_branch : ℕ
      at_branch = place + code_length (test_ready x.fn.passed held 5 t)

      test : Comparison
      test = test_in held 5 t

      There : Bool → Type 0
      There b = Has w place (test_ready x.fn.passed held 5 t ++ (Plain (branch_if (branch_by b test) (pos (4 + code_length skipped))) ∷ []))

      holds : (b : Bool) → There b → ((a d : Step) → core.branch (c.temps t) a d ≡ a)
          → Comes w (R place) (R (at_branch + (if b then 4 else 4 + code_length skipped)))
      holds true there h = not_made w order y outer c.memory held t place skipped named served few (inverse test) there
          (λ m registers j. not_so test registers ∙ ap not (is_so_where test m (c.temps t) registers j.0 h))
      holds false there h = made w order y outer c.memory held t place skipped named served few test there
          (λ m registers j. is_so_where test m (c.temps t) registers j.0 h)

      fails : (b : Bool) → There b → ((a d : Step) → core.branch (c.temps t) a d ≡ d)
          → Comes w (R place) (R (at_branch + (if b then 4 + code_length skipped else 4)))
      fails true there h = made w order y outer c.memory held t place skipped named served few (inverse test) there
          (λ m registers j. not_so test registers ∙ ap not (isnt_so test m (c.temps t) registers j.0 h))
      fails false there h = not_made w order y outer c.memory held t place skipped named served few test there
          (λ m registers j. isnt_so test m (c.temps t) registers j.0 h)

      by : (v : Content) → c.temps t ≡ v → Tested v → Goes w fuel (core.branch (c.temps t) (these c) (those c)) (R place) (active_of w (x ∷ outer))
      by v e (Fails u f) =
          let g : (a b : Step) → core.branch (c.temps t) a b ≡ b = λ a b. ap (λ q. core.branch q a b) e ∙ f a b in
          subst (λ q. Goes w fuel q (R place) (active_of w (x ∷ outer))) (sym (g (these c) (those c)))
          (goes_from w _ _ fuel (those c) _ (fails none has g) (other c is))
      by v e (Holds u f) =
          let g : (a b : Step) → core.branch (c.temps t) a b ≡ a = λ a b. ap (λ q. core.branch q a b) e ∙ f a b in
          subst (λ q. Goes w fuel q (R place) (active_of w (x ∷ outer))) (sym (g (these c) (those c)))
          (goes_from w _ _ fuel (these c) _ (holds none has g) (one c is))
      by v e (Neither u f) =
          subst (λ q. Goes w fuel q (R place) (active_of w (x ∷ outer)))
          (sym (ap (λ q. core.branch q (these c) (those c)) e ∙ f (these c) (those c))) (goes_stuck w _ _ fuel)

  -- an exception
  raised_goes : (kept : List Bool) (fuel : ℕ) (held : List Holding) (kind : Kind) (place : ℕ) (k : Exit → Config → Step) → Has w place (raise_code kind)
      → GoesHolding w (keeping kept x) outer fuel place held (core.statements (MoreStatements (Raise kind) NoStatements) k)
  raised_goes kept fuel held kind place k has =
      let y = keeping kept x in
      goes_any w y outer fuel place held (core.statements (MoreStatements (Raise kind) NoStatements) k)
      (λ c is. raise_goes w order (with_config y c) outer c.memory fuel kind place (active_of w (x ∷ outer)) has)

  -- one or another, of which only one has code where the test is known to be a number
  either_goes : (kept : List Bool) (fuel : ℕ) (held : List Holding) (t : ℕ) (first second : Kind) (place : ℕ) (k : Exit → Config → Step)
      (number : Option ℕ) → number_in (source_of held t) ≡ number
      → t < x.fn.temporaries → IsServed w (keeping kept x) held t → Has w place (either_code x.fn.passed held t first second number)
      → GoesHolding w (keeping kept x) outer fuel place held
      (λ c. core.branch (c.temps t) (core.statements (MoreStatements (Raise first) NoStatements) k c)
      (core.statements (MoreStatements (Raise second) NoStatements) k c))
  either_goes kept fuel held t first second place k (Some zero) e named served has =
      fails_known w x outer kept fuel held t place (core.statements (MoreStatements (Raise first) NoStatements) k)
      (core.statements (MoreStatements (Raise second) NoStatements) k) (number_found (source_of held t) 0 e)
      (raised_goes kept fuel held second place k has)
  either_goes kept fuel held t first second place k (Some (suc n)) e named served has =
      holds_known w x outer kept fuel held t place n (core.statements (MoreStatements (Raise first) NoStatements) k)
      (core.statements (MoreStatements (Raise second) NoStatements) k) (number_found (source_of held t) (suc n) e)
      (raised_goes kept fuel held first place k has)
  either_goes kept fuel held t first second place k None e named served has =
      let operand = test_ready x.fn.passed held 5 t in
      let branch : List Line = Plain (branch_if (inverse (test_in held 5 t)) (pos 16)) ∷ [] in
      let front = operand ++ branch in
      let both = front ++ raise_code first in
      let has_both = has_first w place both (raise_code second) has in
      let at_first : place + code_length front ≡ place + code_length operand + 4 = omega (arith, length_of_both operand branch) in
      let at_second : place + code_length both ≡ place + code_length operand + 16 =
      omega (arith, length_of_both operand branch, length_of_both front (raise_code first)) in
      branch_goes kept fuel held t place (raise_code first) true (core.statements (MoreStatements (Raise first) NoStatements) k)
      (core.statements (MoreStatements (Raise second) NoStatements) k) named served (omega arith) (has_first w place front (raise_code first) has_both)
      (raised_goes kept fuel held first (place + code_length operand + 4) k
      (subst (λ p. Has w p (raise_code first)) at_first (has_second w place front (raise_code first) has_both)))
      (raised_goes kept fuel held second (place + code_length operand + 16) k
      (subst (λ p. Has w p (raise_code second)) at_second (has_second w place both (raise_code second) has)))

-- ---- the statements of a check

-- what raises a failure's exception
abbrev pub failing : Failure → Statements
failing (Always kind) = MoreStatements (Raise kind) NoStatements
failing (ByTest t first second) =
    MoreStatements (If t (MoreStatements (Raise first) NoStatements) (MoreStatements (Raise second) NoStatements)) NoStatements

some_same : {A : Type 0} (a b : A) → Some a ≡ Some b → a ≡ b
some_same a b e = cc e

is_kind : (s : Statement) (kind : Kind) → kind_of s ≡ Some kind → s ≡ Raise kind
is_kind (Do operation) kind e = absurd (none-some kind e)
is_kind (If t these those) kind e = absurd (none-some kind e)
is_kind (While test t body) kind e = absurd (none-some kind e)
is_kind (Block ls body) kind e = absurd (none-some kind e)
is_kind (Leave body) kind e = absurd (none-some kind e)
is_kind Break kind e = absurd (none-some kind e)
is_kind Continue kind e = absurd (none-some kind e)
is_kind (Call results f arguments) kind e = absurd (none-some kind e)
is_kind (Return values) kind e = absurd (none-some kind e)
is_kind (Raise k) kind e = ap (λ z. Raise z) (some_same k kind e)

is_raise : (ss : Statements) (kind : Kind) → kind_in ss ≡ Some kind → ss ≡ MoreStatements (Raise kind) NoStatements
is_raise NoStatements kind e = absurd (none-some kind e)
is_raise (MoreStatements s NoStatements) kind e = ap (λ z. MoreStatements z NoStatements) (is_kind s kind e)
is_raise (MoreStatements s (MoreStatements s' ss)) kind e = absurd (none-some kind e)

is_either : (t : ℕ) (these those : Statements) (one other : Option Kind) (f : Failure) → kind_in these ≡ one → kind_in those ≡ other
    → either_failure t one other ≡ Some f → MoreStatements (If t these those) NoStatements ≡ failing f
is_either t these those None other f a b e = absurd (none-some f e)
is_either t these those (Some first) None f a b e = absurd (none-some f e)
is_either t these those (Some first) (Some second) f a b e =
    ap (λ z. MoreStatements (If t z those) NoStatements) (is_raise these first a)
    ∙ ap (λ z. MoreStatements (If t (MoreStatements (Raise first) NoStatements) z) NoStatements) (is_raise those second b)
    ∙ ap failing (some_same (ByTest t first second) f e)

is_failure : (s : Statement) (f : Failure) → failure_of s ≡ Some f → MoreStatements s NoStatements ≡ failing f
is_failure (Do operation) f e = absurd (none-some f e)
is_failure (If t these those) f e = is_either t these those (kind_in these) (kind_in those) f refl refl e
is_failure (While test t body) f e = absurd (none-some f e)
is_failure (Block ls body) f e = absurd (none-some f e)
is_failure (Leave body) f e = absurd (none-some f e)
is_failure Break f e = absurd (none-some f e)
is_failure Continue f e = absurd (none-some f e)
is_failure (Call results g arguments) f e = absurd (none-some f e)
is_failure (Return values) f e = absurd (none-some f e)
is_failure (Raise kind) f e = ap failing (some_same (Always kind) f e)

fails_with : (ss : Statements) (f : Failure) → failure_in ss ≡ Some f → ss ≡ failing f
fails_with NoStatements f e = absurd (none-some f e)
fails_with (MoreStatements s NoStatements) f e = is_failure s f e
fails_with (MoreStatements s (MoreStatements s' ss)) f e = absurd (none-some f e)

pub checks_with : (these those : Statements) (f : Failure) → check_of these those ≡ Some f → (these ≡ NoStatements) × (those ≡ failing f)
checks_with NoStatements those f e = (refl, fails_with those f e)
checks_with (MoreStatements s ss) those f e = absurd (none-some f e)

-- ---- a check does as it means

module _ (w : World) (order : IsInOrder w) (x : Waiting) (outer : List Waiting) (most : ℕ) (ns : List ℕ) (hss : List (List ℕ)) (names : List ℕ)
    (held : List Holding) (needs : Needs) (t out again : ℕ) (whole : AreWhole x.fn.temporaries needs) where
  -- that the lines of a choice do
  abbrev Choice_does : (these those : Statements) → List Line → Type 0
  Choice_does these those lines =
      Does w x outer most (can_complete (If t these those)) held (held_behind hss w.data_offsets held (If t these those))
      (showing w hss names held needs (If t these those)) needs lines out again (core.statement (If t these those))

  -- what a failure raises goes, where the choice shows what it loads
  failure_goes : (f : Failure) (fuel place : ℕ) (k : Exit → Config → Step) → HasLinesIn (scoped w x ns) (If t NoStatements (failing f))
      → Has w place (failure_code x.fn.passed held f)
      → GoesHolding w (keeping (showing w hss names held needs (If t NoStatements (failing f))) x) outer fuel place held (core.statements (failing f) k)
  failure_goes (Always kind) fuel place k has lines =
      raised_goes w order x outer (showing w hss names held needs (If t NoStatements (failing (Always kind)))) fuel held kind place k lines
  failure_goes (ByTest p first second) fuel place k has lines =
      let inner = failing (ByTest p first second) in
      let a : Statements = MoreStatements (Raise first) NoStatements in
      let b : Statements = MoreStatements (Raise second) NoStatements in
      let start = showing w hss names held needs (If t NoStatements inner) in
      let other = showing_all w hss names held needs inner in
      goes_fewer w x outer fuel place held (core.statements inner k) start other
      (second_way w x hss names held needs t NoStatements inner whole (statements_below w.data_offsets (scoped w x ns) hss names held inner has.2))
      (either_goes w order x outer other fuel held p first second place (λ exit. core.falls_to exit (core.statements NoStatements k) k)
      (number_in (source_of held p)) refl has.2.0.0
      (choice_served w x hss names held needs p a b whole has.2.0.0) lines)

  check_does : (f : Failure) → HasLinesIn (scoped w x ns) (If t NoStatements (failing f))
      → Choice_does NoStatements (failing f) (check_code x.fn.passed held t f)
  check_does f has = by f has (knows_all f) (number_in (source_of held t)) refl
    where
      -- what is known behind it is what was known before
      knows_all : (f : Failure) → held_behind hss w.data_offsets held (If t NoStatements (failing f)) ≡ held
      knows_all (Always kind) = refl
      knows_all (ByTest p first second) = refl

      by : (f : Failure) → HasLinesIn (scoped w x ns) (If t NoStatements (failing f))
          → held_behind hss w.data_offsets held (If t NoStatements (failing f)) ≡ held → (number : Option ℕ) → number_in (source_of held t) ≡ number
          → Choice_does NoStatements (failing f) (tested_code x.fn.passed held t f number)
      by f has known (Some zero) e = record {
        goes = λ place fuel le k aligned lines ways.
            fails_known w x outer (showing w hss names held needs (If t NoStatements (failing f))) fuel held t place (core.statements NoStatements k)
            (core.statements (failing f) k) (number_found (source_of held t) 0 e) (failure_goes f fuel place k has lines);
      }
      by f has known (Some (suc n)) e = record {
        goes = λ place fuel le k aligned lines ways.
            let start = showing w hss names held needs (If t NoStatements (failing f)) in
            holds_known w x outer start fuel held t place n (core.statements NoStatements k) (core.statements (failing f) k)
            (number_found (source_of held t) (suc n) e)
            (goes_fewer w x outer fuel place held (k Falls) start needs.after (first_way w x hss names held needs t NoStatements (failing f) whole)
            (subst (λ h. GoesHolding w (keeping needs.after x) outer fuel place h (k Falls)) known
            (subst (λ p. GoesHolding w (keeping needs.after x) outer fuel p (held_behind hss w.data_offsets held (If t NoStatements (failing f))) (k Falls))
            (omega arith) (ways.falls refl))));
      }
      by f has known None e = record {
        goes = λ place fuel le k aligned lines ways.
            let start = showing w hss names held needs (If t NoStatements (failing f)) in
            let operand = test_ready x.fn.passed held 5 t in
            let raising = failure_code x.fn.passed held f in
            let branch : List Line = Plain (branch_if (test_in held 5 t) (pos (4 + code_length raising))) ∷ [] in
            let front = operand ++ branch in
            let few = (failure_within x.fn.passed held f).is in
            let at_raising : place + code_length front ≡ place + code_length operand + 4 = omega (arith, length_of_both operand branch) in
            let at_end : place + code_length (front ++ raising) ≡ place + code_length operand + (4 + code_length raising) =
            omega (arith, length_of_both operand branch, length_of_both front raising) in
            branch_goes w order x outer start fuel held t place raising false (core.statements NoStatements k) (core.statements (failing f) k) has.0
            (choice_served w x hss names held needs t NoStatements (failing f) whole has.0) (omega (arith, few)) (has_first w place front raising lines)
            (subst (λ p. GoesHolding w (keeping start x) outer fuel p held (k Falls)) at_end
            (goes_fewer w x outer fuel (place + code_length (front ++ raising)) held (k Falls) start needs.after
            (first_way w x hss names held needs t NoStatements (failing f) whole)
            (subst (λ h. GoesHolding w (keeping needs.after x) outer fuel (place + code_length (front ++ raising)) h (k Falls)) known (ways.falls refl))))
            (failure_goes f fuel (place + code_length operand + 4) k has
            (subst (λ p. Has w p raising) at_raising (has_second w place front raising lines)));
      }

  -- a choice's lines do, where those of one that is no check do
  pub checked_does : (these those : Statements) (check : Option Failure) (lines : List Line) → check_of these those ≡ check
      → HasLinesIn (scoped w x ns) (If t these those) → Choice_does these those lines
      → Choice_does these those (checked_code x.fn.passed held t check lines)
  checked_does these those None lines e has does = does
  checked_does these those (Some f) lines e has does =
      let is = checks_with these those f e in
      let code = check_code x.fn.passed held t f in
      let has_empty = subst (λ ss. HasLinesIn (scoped w x ns) (If t ss those)) is.0 has in
      subst (λ ss. Choice_does ss those code) (sym is.0)
      (subst (λ ss. Choice_does NoStatements ss code) (sym is.1)
      (check_does f (subst (λ ss. HasLinesIn (scoped w x ns) (If t NoStatements ss)) is.1 has_empty)))

-- ---- samples

-- a null check
of_null : (kind : Kind) → check_of NoStatements (MoreStatements (Raise kind) NoStatements) ≡ Some (Always kind)
of_null kind = refl

-- one of an index
of_index : (t : ℕ) (a b : Kind) → check_of NoStatements (failing (ByTest t a b)) ≡ Some (ByTest t a b)
of_index t a b = refl

-- a choice whose first way does something is none
of_break : (kind : Kind) → check_of (MoreStatements Break NoStatements) (MoreStatements (Raise kind) NoStatements) ≡ None
of_break kind = refl
