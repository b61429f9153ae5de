-- When the lines of a statement do as it means: they go on by each of its ways out. And what tests and jumps do.
use Rattle.std.proofs.Common.{◌≡◌, ℕ, ◌+◌, ◌%◌, ◌<◌, ◌≤◌, Bool, true, false, List, [], ◌∷◌}
use Rattle.core_meaning.specs.Memory.{Content}
use Rattle.core_meaning.specs.Meaning as core
use Rattle.core_meaning.specs.Steps.{Config, Step, Exit, Falls, Breaks, Continues, Returns}
use Rattle.core_lines.specs.declared.line.Line.{Line}
use Rattle.core_lines.specs.declared.line.Line.TheVariants.{Jump}
use Rattle.core_lines.specs.Lines.{code_length}
use Rattle.core_lines.proofs.memory.Relations.{Covers, keeping}
use Rattle.core_lines.proofs.memory.Relations.{World, Has, Waiting, active_of}
use Rattle.core_lines.proofs.memory.Moving.{Comes, fewer}
use Rattle.core_lines.proofs.memory.Access.{behind}
use Rattle.core_lines.proofs.frames.Going.{with_config, IsIn, GoesFrom, GoesHolding, goes_any, goes_fewer, GoesReturning}
use Rattle.core_lines.specs.Held.{Holding}
use Rattle.core_lines.proofs.operations.Registers.{AtHolding, IsServed}
use Rattle.core_meaning.specs.Steps.{stuck}

-- which temporaries' slots show their words behind a statement, where a `Break` goes, and where a `Continue` goes
pub record Needs : Type 0 where
  pub after : List Bool
  pub out : List Bool
  pub again : List Bool

-- the ways out of a statement: each goes on, behind the statement with what is known of temporaries there, if it can complete
pub record WaysOut (w : World) (x : Waiting) (outer : List Waiting) (most : ℕ) (completes : Bool) (end : ℕ) (held : List Holding) (needs : Needs)
    (out again : ℕ) (next : Exit → Config → Step) : Type 0 where
  pub falls : completes ≡ true → GoesHolding w (keeping needs.after x) outer most end held (next Falls)
  pub breaks : GoesFrom w (keeping needs.out x) outer most (w.places out) (next Breaks)
  pub continues : GoesFrom w (keeping needs.again x) outer most (w.places again) (next Continues)
  pub returns : GoesReturning w (keeping [] x) outer most next

pub fewer_ways : (w : World) (x : Waiting) (outer : List Waiting) (most less : ℕ) (completes : Bool) (end : ℕ) (held : List Holding) (needs : Needs)
    (out again : ℕ) (next : Exit → Config → Step) → less ≤ most
    → WaysOut w x outer most completes end held needs out again next → WaysOut w x outer less completes end held needs out again next
fewer_ways w x outer most less completes end held needs out again next le ways = record {
  falls = λ e c is. fewer w (AtHolding w (with_config (keeping needs.after x) c) outer c.memory end held) (active_of w (x ∷ outer)) most less (next Falls c) le
      (ways.falls e c is);
  breaks = λ c is. fewer w _ _ most less (next Breaks c) le (ways.breaks c is);
  continues = λ c is. fewer w _ _ most less (next Continues c) le (ways.continues c is);
  returns = λ c values is. fewer w _ _ most less (next (Returns values) c) le (ways.returns c values is);
}

-- A statement's lines do as it means, wherever they stand, and whatever comes after it, where this is known of temporaries before it and behind it. These
-- temporaries' slots show their words where it begins. Where it can't complete, nothing has to go on behind it.
pub record Does (w : World) (x : Waiting) (outer : List Waiting) (most : ℕ) (completes : Bool) (held behind : List Holding) (start : List Bool) (needs : Needs)
    (lines : List Line) (out again : ℕ) (means : (Exit → Config → Step) → Config → Step) : Type 0 where
  pub goes : (place fuel : ℕ) → fuel ≤ most → (next : Exit → Config → Step) → place % 4 ≡ 0 → Has w place lines → WaysOut w x outer fuel completes
      (place + code_length lines) behind needs out again next
      → GoesHolding w (keeping start x) outer fuel place held (means next)

-- what is known before it isn't needed
pub does_any : (w : World) (x : Waiting) (outer : List Waiting) (most : ℕ) (completes : Bool) (held behind : List Holding) (start : List Bool) (needs : Needs)
    (lines : List Line) (out again : ℕ) (means : (Exit → Config → Step) → Config → Step)
    → Does w x outer most completes [] behind start needs lines out again means → Does w x outer most completes held behind start needs lines out again means
does_any w x outer most completes held behind start needs lines out again means d = record {
  goes = λ place fuel le next aligned has ways.
      goes_any w (keeping start x) outer fuel place held (means next) (d.goes place fuel le next aligned has ways);
}

-- nor what is known behind it
pub does_less : (w : World) (x : Waiting) (outer : List Waiting) (most : ℕ) (completes : Bool) (held behind : List Holding) (start : List Bool) (needs : Needs)
    (lines : List Line) (out again : ℕ) (means : (Exit → Config → Step) → Config → Step)
    → Does w x outer most completes held behind start needs lines out again means → Does w x outer most completes held [] start needs lines out again means
does_less w x outer most completes held behind start needs lines out again means d = record {
  goes = λ place fuel le next aligned has ways. d.goes place fuel le next aligned has (record {
    falls = λ e. goes_any w (keeping needs.after x) outer fuel (place + code_length lines) behind (next Falls) (ways.falls e);
    breaks = ways.breaks;
    continues = ways.continues;
    returns = ways.returns;
  });
}

-- where it can't complete, anything is known behind it
pub does_ends : (w : World) (x : Waiting) (outer : List Waiting) (most : ℕ) (completes : Bool) (held behind other : List Holding) (start : List Bool)
    (needs : Needs) (lines : List Line) (out again : ℕ) (means : (Exit → Config → Step) → Config → Step) → completes ≡ false
    → Does w x outer most completes held behind start needs lines out again means → Does w x outer most completes held other start needs lines out again means
does_ends w x outer most completes held behind other start needs lines out again means never d = record {
  goes = λ place fuel le next aligned has ways. d.goes place fuel le next aligned has (record {
    falls = λ e. absurd (cc (e, never));
    breaks = ways.breaks;
    continues = ways.continues;
    returns = ways.returns;
  });
}

-- more slots may show their words before it
pub does_fewer : (w : World) (x : Waiting) (outer : List Waiting) (most : ℕ) (completes : Bool) (held behind : List Holding) (more start : List Bool)
    (needs : Needs) (lines : List Line) (out again : ℕ) (means : (Exit → Config → Step) → Config → Step) → Covers more start
    → Does w x outer most completes held behind start needs lines out again means → Does w x outer most completes held behind more needs lines out again means
does_fewer w x outer most completes held behind more start needs lines out again means covers d = record {
  goes = λ place fuel le next aligned has ways.
      goes_fewer w x outer fuel place held (means next) more start covers (d.goes place fuel le next aligned has ways);
}

-- what a test holds: 0 and NULL fail it, another word and a pointer don't, and it is out of order for the rest
pub data Tested : Content → Type 0 where
  Fails : (v : Content) → ((these those : Step) → core.branch v these those ≡ those) → Tested v
  Holds : (v : Content) → ((these those : Step) → core.branch v these those ≡ these) → Tested v
  Neither : (v : Content) → ((these those : Step) → core.branch v these those ≡ stuck) → Tested v

-- tests and jumps, which keep what is known
pub record Jumps (w : World) (x : Waiting) (outer : List Waiting) (test : List Holding → ℕ → ℕ → List Line) : Type 0 where
  pub jump : (held : List Holding) (label place : ℕ) → Has w place (Jump label ∷ []) → (c : Config) → IsIn x c
      → Comes w (AtHolding w (with_config x c) outer c.memory place held) (AtHolding w (with_config x c) outer c.memory (w.places label) held)
  pub fails : (held : List Holding) (t label place : ℕ) → t < x.fn.temporaries → IsServed w x held t → Has w place (test held t label) → (c : Config)
      → IsIn x c → ((these those : Step) → core.branch (c.temps t) these those ≡ those)
      → Comes w (AtHolding w (with_config x c) outer c.memory place held) (AtHolding w (with_config x c) outer c.memory (w.places label) held)
  pub holds : (held : List Holding) (t label place : ℕ) → t < x.fn.temporaries → IsServed w x held t → Has w place (test held t label) → (c : Config)
      → IsIn x c → ((these those : Step) → core.branch (c.temps t) these those ≡ these)
      → Comes w (AtHolding w (with_config x c) outer c.memory place held)
      (AtHolding w (with_config x c) outer c.memory (place + code_length (test held t label)) held)
  pub some : (held : List Holding) (t label place : ℕ) (named : t < x.fn.temporaries) (served : IsServed w x held t) (has : Has w place (test held t label))
      (c : Config) (is : IsIn x c) (h : (these those : Step) → core.branch (c.temps t) these those ≡ these)
      → 1 ≤ (holds held t label place named served has c is h).count
  pub tested : (v : Content) → Tested v
