-- The forms of statements, from what their parts do: a choice, a loop, a block, one after the other. Tests, jumps and operations are given.
use Rattle.std.specs.Prelude.{◌&&◌, if◌then◌else◌, slice_get}
use Rattle.std.proofs.Common.{◌≡◌, ℕ, zero, suc, Bool, true, false, ◌+◌, ◌%◌, ◌<◌, ◌≤◌, inl, List, [], ◌∷◌, ◌++◌, Some, refl, sym, ap, ◌∙◌, subst, arith}
use Rattle.cyc_words.specs.Events.{AreBytes}
use Rattle.core_meaning.specs.Memory.{Content, Memory, Frame, Own, Live, Dead, with_standing}
use Rattle.core_meaning.specs.Core.{Local, Statement, Statements, While, Block, Break, Continue, NoStatements, MoreStatements}
use Rattle.core_meaning.specs.Meaning as core
use Rattle.core_meaning.specs.Steps.{Config, Step, Exit, Falls, Breaks, Continues, Returns}
use Rattle.core_meaning.specs.Meaning.{with_objects, in_block, out_of_block}
use Rattle.core_lines.specs.Machines.{Machine}
use Rattle.rv32_machine.specs.State.{Runs}
use Rattle.core_lines.specs.declared.line.Line.{Line}
use Rattle.core_lines.specs.declared.line.Line.TheVariants.{Jump}
use Rattle.core_lines.specs.Lines.{code_length}
use Rattle.std.specs.Prelude.{length}
use Rattle.core_lines.specs.Selected.{shrunk}
use Rattle.core_lines.proofs.homes.Saving.{HomesFit}
use Rattle.core_lines.proofs.memory.Relations.{Covers, keeping, Inside, AreHomes, BlocksLie, back_of, FrameShows, restored}
use Rattle.core_lines.proofs.memory.Relations.{World, IsInOrder, Has, Waiting, Place, Leads, Goes, At, Returning, active_of}
use Rattle.core_lines.proofs.memory.Moving.{Comes, goes_from, goes_as, goes_stuck, leads_from}
use Rattle.core_lines.proofs.memory.Access.{length_of_both, behind}
use Rattle.core_lines.proofs.frames.Passing.{has_first, has_second}
use Rattle.core_lines.proofs.frames.Going.{with_config, IsIn, GoesFrom, from_same, GoesHolding, goes_any, goes_fewer}
use Rattle.core_lines.specs.Held.{Holding}
use Rattle.core_lines.specs.Lies.{Maps, Activation}
use Rattle.core_lines.proofs.operations.Registers.{AtHolding, AreThere, IsServed, at_any, at_of, there_extends}
use Rattle.core_lines.proofs.memory.Laying.{AreTiny, LaidOut}
use Rattle.core_lines.proofs.memory.Nested.{NestFits, enters_block}
use Rattle.core_lines.proofs.memory.Zones.{leaves_block, leaves_block_returning}
use Rattle.core_meaning.specs.Steps.{LoopTurn}
use Rattle.step_trees.specs.Trees.{Turns}
use Rattle.core_lines.proofs.Ways.{Needs, WaysOut, fewer_ways, Does, Tested, Fails, Holds, Neither, Jumps}

-- ---- a turn of a loop takes a unit

turn_goes : (w : World) (R R' : Machine → Type 0) (active : List (List ℕ)) (most : ℕ) (turn : LoopTurn) (next : Exit → Config → Step) (c : Config)
    (comes : Comes w R R') → 1 ≤ comes.count → ((s : Machine) → R s → s.mode ≡ Runs) → ((j : ℕ) → suc j ≤ most → Goes w j (core.turned turn next c) R' active)
    → Goes w most (Turns turn next c) R active
turn_goes w R R' active most turn next c comes some runs goes = record { at = by }
  where
    by : (fuel : ℕ) → fuel ≤ most → (input : List ℕ) → AreBytes input → Leads w fuel (Turns turn next c) R active input
    by zero within input bytes = record {
      count = 0;
      leads = λ s answers r. inl (record { events = refl; ends = runs s r });
      paid = λ running. omega arith;
      lawful = λ s answers r. tt;
    }
    by (suc j) within input bytes =
        leads_from w R active (suc j) j (Turns turn next c) (core.turned turn next c) R' input comes refl (omega (arith, some))
        ((goes j within).at j (omega arith) input bytes)

module _ (w : World) (order : IsInOrder w) (x : Waiting) (outer : List Waiting) (most : ℕ) (test : List Holding → ℕ → ℕ → List Line)
    (jumps : (kept : List Bool) → Jumps w (keeping kept x) outer test) where
  pub same_holding : (kept : List Bool) (fuel a b : ℕ) (held : List Holding) (next : Config → Step) → a ≡ b
      → GoesHolding w (keeping kept x) outer fuel a held next → GoesHolding w (keeping kept x) outer fuel b held next
  same_holding kept fuel a b held next e goes = subst (λ p. GoesHolding w (keeping kept x) outer fuel p held next) e goes

  pub jump_goes : (kept : List Bool) (fuel : ℕ) (held : List Holding) (label place : ℕ) (next : Config → Step) → Has w place (Jump label ∷ [])
      → GoesHolding w (keeping kept x) outer fuel (w.places label) held next → GoesHolding w (keeping kept x) outer fuel place held next
  jump_goes kept fuel held label place next has goes c is = goes_from w _ _ fuel (next c) _ ((jumps kept).jump held label place has c is) (goes c is)

  pub break_does : (needs : Needs) (out again : ℕ) → Does w x outer most false [] [] needs.out needs (Jump out ∷ []) out again (core.statement Break)
  break_does needs out again =
      record { goes = λ place fuel le next aligned has ways. jump_goes needs.out fuel [] out place (next Breaks) has ways.breaks }

  pub continue_does : (needs : Needs) (out again : ℕ) → Does w x outer most false [] [] needs.again needs (Jump again ∷ []) out again (core.statement Continue)
  continue_does needs out again =
      record { goes = λ place fuel le next aligned has ways. jump_goes needs.again fuel [] again place (next Continues) has ways.continues }

  pub nothing_does : (held : List Holding) (needs : Needs) (out again : ℕ)
      → Does w x outer most true held held needs.after needs [] out again (core.statements NoStatements)
  nothing_does held needs out again = record {
    goes = λ place fuel le next aligned has ways. same_holding needs.after fuel (place + 0) place held (next Falls) (omega arith) (ways.falls refl);
  }

  -- what stands behind a statement that can't complete has no lines
  pub sequence_does : (completes others_complete : Bool) (held between end : List Holding) (start middle_needs : List Bool) (needs : Needs)
      (first second : List Line) (out again : ℕ) (s : Statement) (ss : Statements)
      → Does w x outer most completes held between start (record needs { after = middle_needs }) first out again (core.statement s)
      → Does w x outer most others_complete between end middle_needs needs second out again (core.statements ss)
      → Does w x outer most (completes && others_complete) held end start needs (first ++ (if completes then second else [])) out again
      (core.statements (MoreStatements s ss))
  sequence_does true others_complete held between end start middle_needs needs first second out again s ss one others = record {
    goes = λ place fuel le next aligned has ways.
        let middle = place + code_length first in
        let e : place + code_length (first ++ second) ≡ middle + code_length second = omega (arith, length_of_both first second) in
        one.goes place fuel le (λ exit. core.falls_to exit (core.statements ss next) next) aligned (has_first w place first second has) (record {
          falls = λ completes. others.goes middle fuel le next (behind place first aligned) (has_second w place first second has) (record {
            falls = λ both. same_holding needs.after fuel (place + code_length (first ++ second)) (middle + code_length second) end (next Falls) e
                (ways.falls both);
            breaks = ways.breaks;
            continues = ways.continues;
            returns = ways.returns;
          });
          breaks = ways.breaks;
          continues = ways.continues;
          returns = ways.returns;
        });
  }
  sequence_does false others_complete held between end start middle_needs needs first second out again s ss one others = record {
    goes = λ place fuel le next aligned has ways.
        one.goes place fuel le (λ exit. core.falls_to exit (core.statements ss next) next) aligned (has_first w place first [] has) (record {
          falls = λ completes. absurd (cc completes);
          breaks = ways.breaks;
          continues = ways.continues;
          returns = ways.returns;
        });
  }

  -- a choice, where its parts stand as these say
  pub choice_goes : (kept : List Bool) (fuel : ℕ) (held : List Holding) (t label place : ℕ) (these those : Config → Step) → t < x.fn.temporaries
      → IsServed w (keeping kept x) held t → Has w place (test held t label)
      → GoesHolding w (keeping kept x) outer fuel (place + code_length (test held t label)) held these
      → GoesHolding w (keeping kept x) outer fuel (w.places label) held those
      → GoesHolding w (keeping kept x) outer fuel place held (λ c. core.branch (c.temps t) (these c) (those c))
  choice_goes kept fuel held t label place these those named served has one other c is = by (c.temps t) refl ((jumps kept).tested (c.temps t))
    where
      R : Machine → Type 0
      R s = AtHolding w (with_config (keeping kept x) c) outer c.memory place held s

      by : (v : Content) → c.temps t ≡ v → Tested v → Goes w fuel (core.branch (c.temps t) (these c) (those c)) R (active_of w (x ∷ outer))
      by v e (Fails u f) =
          let g : (a b : Step) → core.branch (c.temps t) a b ≡ b = λ a b. ap (λ q. core.branch q a b) e ∙ f a b in
          subst (λ q. Goes w fuel q R (active_of w (x ∷ outer))) (sym (g (these c) (those c)))
          (goes_from w _ _ fuel (those c) _ ((jumps kept).fails held t label place named served has c is g) (other c is))
      by v e (Holds u f) =
          let g : (a b : Step) → core.branch (c.temps t) a b ≡ a = λ a b. ap (λ q. core.branch q a b) e ∙ f a b in
          subst (λ q. Goes w fuel q R (active_of w (x ∷ outer))) (sym (g (these c) (those c)))
          (goes_from w _ _ fuel (these c) _ ((jumps kept).holds held t label place named served has c is g) (one c is))
      by v e (Neither u f) =
          subst (λ q. Goes w fuel q R (active_of w (x ∷ outer)))
          (sym (ap (λ q. core.branch q (these c) (those c)) e ∙ f (these c) (those c))) (goes_stuck w _ _ fuel)

  -- ---- a loop: a label, its test, the test's cell, its body, a jump back and a label

  module _ (place tested body_at end next_label behind_label out again : ℕ) (aligned : place % 4 ≡ 0) (ts : Statements) (t : ℕ) (body : Statements)
      (first second : List Line) (held last : List Holding) (needs : Needs) (head between : List Bool)
      (k : Exit → Config → Step) (label_first : w.places next_label ≡ place) (has_first_part : Has w place first)
      (at_tested : place + code_length first ≡ tested)
      (named : t < x.fn.temporaries) (served : IsServed w (keeping between x) held t) (has_test : Has w tested (test held t behind_label))
      (at_body : tested + code_length (test held t behind_label) ≡ body_at)
      (has_body : Has w body_at second)
      (body_aligned : body_at % 4 ≡ 0)
      (back : Has w (body_at + code_length second) (Jump next_label ∷ [])) (label_end : w.places behind_label ≡ end)
      (to_end : Covers between needs.after)
      (test_completes body_completes : Bool)
      (one : Does w x outer most test_completes [] held head (record needs { after = between }) first out again (core.statements ts))
      (other : Does w x outer most body_completes [] last between (record { after = head; out = needs.after; again = head }) second behind_label next_label
      (core.statements body)) where
    abbrev here : LoopTurn
    here = record { test = ts; flag = t; body = body }

    abbrev loop : Config → Step
    loop = core.statement (While ts t body) k

    abbrev turn : Config → Step
    turn = core.turned here k

    abbrev on_test : Config → Step
    on_test c = core.branch (c.temps t) (Turns here k c) (k Falls c)

    abbrev at_choice : Waiting
    at_choice = keeping between x

    abbrev active : List (List ℕ)
    active = active_of w (x ∷ outer)

    abbrev R : Config → Machine → Type 0
    R c = AtHolding w (with_config at_choice c) outer c.memory tested held

    abbrev Goes_again : ℕ → Type 0
    Goes_again j = GoesFrom w (keeping head x) outer j place loop

    abbrev Ways : ℕ → Type 0
    Ways j = WaysOut w x outer j true end [] needs out again k

    turn_again : (j : ℕ) → j ≤ most → Goes_again j → Ways j → GoesFrom w at_choice outer j body_at turn
    turn_again j le goes ways =
        let from_label = from_same w (keeping head x) outer j place (w.places next_label) loop (sym label_first) goes in
        other.goes body_at j le (λ exit. core.after_turn exit loop k) body_aligned has_body (record {
          falls = λ completes. goes_any w (keeping head x) outer j (body_at + code_length second) last loop
              (jump_goes head j [] next_label (body_at + code_length second) loop back from_label);
          breaks = from_same w (keeping needs.after x) outer j end (w.places behind_label) (k Falls) (sym label_end) (ways.falls refl);
          continues = from_label;
          returns = ways.returns;
        })

    -- what is behind the loop goes on from the choice
    ends_goes : (fuel : ℕ) → Ways fuel → GoesHolding w at_choice outer fuel (w.places behind_label) held (k Falls)
    ends_goes fuel ways =
        goes_fewer w x outer fuel (w.places behind_label) held (k Falls) between needs.after to_end
        (goes_any w (keeping needs.after x) outer fuel (w.places behind_label) held (k Falls)
        (from_same w (keeping needs.after x) outer fuel end (w.places behind_label) (k Falls) (sym label_end) (ways.falls refl)))

    tested_goes : (fuel : ℕ) → fuel ≤ most → ((j : ℕ) → suc j ≤ fuel → Goes_again j) → Ways fuel → GoesHolding w at_choice outer fuel tested held on_test
    tested_goes fuel le goes ways c is = by (c.temps t) refl ((jumps between).tested (c.temps t))
      where
        by : (v : Content) → c.temps t ≡ v → Tested v → Goes w fuel (on_test c) (R c) active
        by v e (Fails u f) =
            let g : (a b : Step) → core.branch (c.temps t) a b ≡ b = λ a b. ap (λ q. core.branch q a b) e ∙ f a b in
            subst (λ q. Goes w fuel q (R c) active) (sym (g (Turns here k c) (k Falls c)))
            (goes_from w (R c) active fuel (k Falls c) (AtHolding w (with_config at_choice c) outer c.memory (w.places behind_label) held)
            ((jumps between).fails held t behind_label tested named served has_test c is g) (ends_goes fuel ways c is))
        by v e (Holds u f) =
            let g : (a b : Step) → core.branch (c.temps t) a b ≡ a = λ a b. ap (λ q. core.branch q a b) e ∙ f a b in
            subst (λ q. Goes w fuel q (R c) active) (sym (g (Turns here k c) (k Falls c)))
            (turn_goes w (R c) (AtHolding w (with_config at_choice c) outer c.memory (tested + code_length (test held t behind_label)) held) active fuel
            here k c ((jumps between).holds held t behind_label tested named served has_test c is g)
            ((jumps between).some held t behind_label tested named served has_test c is g)
            (λ s a. (at_any w (with_config at_choice c) outer c.memory tested held s a).stands.runs)
            (λ j less. goes_any w at_choice outer j (tested + code_length (test held t behind_label)) held turn
            (from_same w at_choice outer j body_at (tested + code_length (test held t behind_label)) turn (sym at_body)
            (turn_again j (omega (arith, less, le)) (goes j less)
            (fewer_ways w x outer fuel j true end [] needs out again k (omega (arith, less)) ways))) c is))
        by v e (Neither u f) =
            subst (λ q. Goes w fuel q (R c) active) (sym
            (ap (λ q. core.branch q (Turns here k c) (k Falls c)) e ∙ f (Turns here k c) (k Falls c)))
            (goes_stuck w (R c) active fuel)

    loops_below : (bound fuel : ℕ) → suc fuel ≤ bound → fuel ≤ most → Ways fuel → Goes_again fuel
    loops_below zero fuel less le ways = absurd (omega (arith, less))
    loops_below (suc bound) fuel less le ways =
        one.goes place fuel le (λ exit. core.falls_to exit on_test k) aligned has_first_part (record {
          falls = λ completes. same_holding between fuel tested (place + code_length first) held on_test (sym at_tested)
              (tested_goes fuel le (λ j fewer_units. loops_below bound j (omega (arith, less, fewer_units)) (omega (arith, fewer_units, le))
              (fewer_ways w x outer fuel j true end [] needs out again k (omega (arith, fewer_units)) ways)) ways);
          breaks = ways.breaks;
          continues = ways.continues;
          returns = ways.returns;
        })

    pub loop_goes : (fuel : ℕ) → fuel ≤ most → Ways fuel → Goes_again fuel
    loop_goes fuel le ways = loops_below (suc fuel) fuel (omega arith) le ways

-- ---- a block

-- a frame doesn't speak of the memory in a configuration
pub frame_config : (w : World) (m : Maps) (x : Waiting) (back : ℕ) (a : Activation) (c d : Config) → c.temps ≡ d.temps → c.blocks ≡ d.blocks
    → c.own ≡ d.own → FrameShows w m (with_config x c) back a → FrameShows w m (with_config x d) back a
frame_config w m x back a c d temps blocks own f = record {
  function = f.function;
  bytes = f.bytes;
  size = f.size;
  is = f.is;
  back_place = f.back_place;
  returns_to = f.returns_to;
  temps = λ t less kept. f.temps t less kept ∙ ap (λ g. g t) temps;
  blocks = subst (λ ks. BlocksLie m a.at x.nest ks a.zones) blocks f.blocks;
  own = f.own ∙ own;
  own_high = f.own_high;
  own_based = subst (λ k. (o y : ℕ) → slice_get x.unnamed o ≡ Some y → m.base (Own k) o ≡ Some (a.at + y)) own f.own_based;
  saved = f.saved;
  changed = f.changed;
  homes = subst (λ ks. AreHomes x.phase x.nest ks a.homes) blocks f.homes;
}

pub at_config : (w : World) (x : Waiting) (outer : List Waiting) (c d : Config) (mem : Memory) (place : ℕ) (s : Machine) → c.temps ≡ d.temps → c.blocks
    ≡ d.blocks → c.own ≡ d.own
    → At w (with_config x c) outer mem place s → At w (with_config x d) outer mem place s
at_config w x outer c d mem place s temps blocks own a = record {
  maps = a.maps;
  frame = a.frame;
  others = a.others;
  sp = a.sp;
  stands = a.stands;
  stack = a.stack;
  shows = frame_config w a.maps x (back_of w outer) a.frame c d temps blocks own a.shows;
}

-- nor does what is known
holding_config : (w : World) (x : Waiting) (outer : List Waiting) (c d : Config) (mem : Memory) (place : ℕ) (held : List Holding) (s : Machine)
    → c.temps ≡ d.temps → c.blocks ≡ d.blocks → c.own ≡ d.own
    → AtHolding w (with_config x c) outer mem place held s → AtHolding w (with_config x d) outer mem place held s
holding_config w x outer c d mem place [] s temps blocks own a = at_config w x outer c d mem place s temps blocks own a
holding_config w x outer c d mem place (h ∷ hs) s temps blocks own a = record {
  maps = a.maps;
  frame = a.frame;
  others = a.others;
  sp = a.sp;
  stands = a.stands;
  shows = frame_config w a.maps x (back_of w outer) a.frame c d temps blocks own a.shows;
  stack = a.stack;
  holds = subst (λ g. AreThere (h ∷ hs) g a.maps s.registers) temps a.holds;
}

returning_config : (w : World) (x : Waiting) (outer : List Waiting) (c d : Config) (mem : Memory) (values : List Content) (s : Machine) → c.temps ≡ d.temps
    → c.blocks ≡ d.blocks
    → c.own ≡ d.own → Returning w (with_config x c) outer mem values s → Returning w (with_config x d) outer mem values s
returning_config w x outer c d mem values s temps blocks own a = record {
  maps = a.maps;
  frame = a.frame;
  others = a.others;
  sp = a.sp;
  pointer = a.pointer;
  above = a.above;
  stands = a.stands;
  stack = a.stack;
  results = a.results;
  shows = frame_config w a.maps (restored x) (back_of w outer) a.frame c d temps blocks own a.shows;
}

-- an activation in a block more
abbrev pub within_block : Waiting → Place → ℕ → Waiting
within_block x p k = record x { nest = p ∷ x.nest; config = record x.config { blocks = k ∷ x.config.blocks } }

-- what is known of temporaries is known within it
enters_holding : (w : World) (order : IsInOrder w) (x : Waiting) (outer : List Waiting) (p : Place) (ls : List Local) (mem : Memory) (place : ℕ)
    (held : List Holding) (s : Machine)
    → LaidOut (shrunk ls p.homes) p.offsets p.low p.high → p.high ≤ w.frame_bytes x.function → NestFits x.own_high p.low x.nest
    → AreTiny ls p.homes → HomesFit x.fn (length ls) p.homes x.nest → x.phase ≡ Inside
    → AtHolding w x outer mem place held s
    → AtHolding w (within_block x p mem.activations) outer
    (with_objects (Frame mem.activations) ls (record (with_standing mem (Frame mem.activations) Live) { activations = mem.activations + 1 })) place held s
enters_holding w order x outer p ls mem place [] s laid room nest tiny fit inside a =
    (enters_block w order x outer p ls mem place s laid room nest tiny fit inside a).at
enters_holding w order x outer p ls mem place (h ∷ hs) s laid room nest tiny fit inside a =
    let more = enters_block w order x outer p ls mem place s laid room nest tiny fit inside
    (at_of w order x outer mem place (AreThere (h ∷ hs) x.config.temps) s a) in
    let at = more.at in
    record {
      maps = at.maps;
      frame = at.frame;
      others = at.others;
      sp = at.sp;
      stands = at.stands;
      shows = at.shows;
      stack = at.stack;
      holds = there_extends (h ∷ hs) x.config.temps a.maps at.maps s.registers more.extends a.holds;
    }

pub block_does : (w : World) (order : IsInOrder w) (x : Waiting) (outer : List Waiting) (most : ℕ) (p : Place) (ls : List Local) (body : Statements)
    (completes : Bool) (held last : List Holding) (start : List Bool) (needs : Needs) (lines : List Line) (out again : ℕ)
    → LaidOut (shrunk ls p.homes) p.offsets p.low p.high → p.high ≤ w.frame_bytes x.function → NestFits x.own_high p.low x.nest
    → AreTiny ls p.homes → HomesFit x.fn (length ls) p.homes x.nest → x.phase ≡ Inside
    → ((k : ℕ) → Does w (within_block x p k) outer most completes held last start needs lines out again (core.statements body))
    → Does w x outer most completes held [] start needs lines out again (core.statement (Block ls body))
block_does w order x outer most p ls body completes held last start needs lines out again laid room nest tiny fit inside inner = record {
  goes = λ place fuel le next aligned has ways c is.
      let k = c.memory.activations in
      let y = within_block x p k in
      let ends : Exit → Config → Step = λ exit left. next exit (out_of_block k c.blocks left) in
      let out_is : (d : Config) → IsIn y d → IsIn x (out_of_block k c.blocks d) = λ d i. record { blocks = is.blocks; own = i.own } in
      let leave : (kept : List Bool) (at : ℕ) (e : Exit) → GoesFrom w (keeping kept x) outer fuel at (next e)
      → GoesFrom w (keeping kept y) outer fuel at (ends e) =
      λ kept at e goes d i.
      let within = with_config (keeping kept y) d in
      goes_as w (At w within outer d.memory at) (active_of w (x ∷ outer)) fuel (ends e d)
      (At w (with_config (keeping kept x) (out_of_block k c.blocks d)) outer (with_standing d.memory (Frame k) Dead) at)
      (λ s a. at_config w (keeping kept x) outer (record d { blocks = x.config.blocks }) (out_of_block k c.blocks d)
      (with_standing d.memory (Frame k) Dead) at s refl (sym is.blocks) refl
      (leaves_block w within outer p x.nest k x.config.blocks d.memory at s refl i.blocks fit.differ a))
      (goes (out_of_block k c.blocks d) (out_is d i)) in
      goes_as w (AtHolding w (with_config (keeping start x) c) outer c.memory place held) (active_of w (x ∷ outer)) fuel
      (core.statements body ends (in_block ls c)) (AtHolding w (with_config (keeping start y) (in_block ls c)) outer (in_block ls c).memory place held)
      (λ s a. holding_config w (keeping start y) outer (record c { blocks = k ∷ c.blocks }) (in_block ls c) (in_block ls c).memory place held s refl refl refl
      (enters_holding w order (with_config (keeping start x) c) outer p ls c.memory place held s laid room nest tiny fit inside a))
      ((inner k).goes place fuel le ends aligned has (record {
        falls = λ e. goes_any w (keeping needs.after y) outer fuel (place + code_length lines) last (ends Falls)
            (leave needs.after (place + code_length lines) Falls (ways.falls e));
        breaks = leave needs.out (w.places out) Breaks ways.breaks;
        continues = leave needs.again (w.places again) Continues ways.continues;
        returns = λ d values i.
            let within = with_config (keeping [] y) d in
            goes_as w (Returning w within outer d.memory values) (active_of w (x ∷ outer)) fuel (ends (Returns values) d)
            (Returning w (with_config (keeping [] x) (out_of_block k c.blocks d)) outer (with_standing d.memory (Frame k) Dead) values)
            (λ s a. returning_config w (keeping [] x) outer (record d { blocks = x.config.blocks }) (out_of_block k c.blocks d)
            (with_standing d.memory (Frame k) Dead) values s refl (sym is.blocks) refl
            (leaves_block_returning w within outer p x.nest k x.config.blocks d.memory values s refl i.blocks fit.differ a))
            (ways.returns (out_of_block k c.blocks d) values (out_is d i));
      }) (in_block ls c) (record { blocks = ap (λ bs. k ∷ bs) is.blocks; own = is.own }));
}
