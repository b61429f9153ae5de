-- Statements that end in a `Return` do as they mean where, in the place of its jump, the function ends.
use Rattle.std.specs.Prelude.{◌&&◌, drop, if◌then◌else◌, length}
use Rattle.std.proofs.Common.{◌≡◌, ℕ, zero, suc, Bool, true, false, ◌+◌, ◌≤◌, List, [], ◌∷◌, ◌++◌, refl, sym, ap, subst, ◌∙◌, arith}
use Rattle.std.proofs.Common.{append_assoc, append-nil}
use Rattle.core_meaning.specs.Core.{Statement, Do, If, While, Block, Leave, Break, Continue, Call, Return, Raise, Statements, NoStatements}
use Rattle.core_meaning.specs.Core.{MoreStatements}
use Rattle.core_meaning.specs.Meaning as core
use Rattle.core_meaning.specs.Steps.{Config, Step, Exit, Falls}
use Rattle.core_meaning.specs.Selectable.{HasLinesIn, HaveLinesIn}
use Rattle.core_lines.specs.declared.line.Line.{Line}
use Rattle.core_lines.specs.declared.line.Line.TheVariants.{Label, Jump}
use Rattle.core_lines.specs.Lines.{code_length}
use Rattle.core_lines.specs.Held.{Holding, held_behind, held_behind_all}
use Rattle.core_lines.specs.Completing.{can_complete, can_complete_all, ends_in_return, ends_in_return_all}
use Rattle.core_lines.specs.Loaded.{loads_of_values}
use Rattle.core_lines.specs.Saved.{cleared, results_in}
use Rattle.core_lines.specs.Homes.{flag_at}
use Rattle.core_lines.specs.Straight.{straight_code}
use Rattle.core_lines.specs.Selected.{statements_behind, home_behind, first_code, later_code}
use Rattle.core_lines.specs.Selected.{offsets_from, end_from, highest, highest_of, labels_in, statement_code, statements_code, ended_code}
use Rattle.core_lines.specs.Selected.{shrunk, shrunk_in, shrunk_of, homes_here, homes_after, names_after}
use Rattle.core_lines.proofs.memory.Relations.{World, IsInOrder, Waiting, Place, keeping}
use Rattle.core_lines.proofs.memory.Access.{length_of_both}
use Rattle.core_lines.proofs.frames.Passing.{has_first}
use Rattle.core_lines.proofs.frames.Going.{BodyGoes}
use Rattle.core_lines.proofs.frames.Calls.{return_last_goes}
use Rattle.core_lines.proofs.Flags.{length_cleared, flags_behind}
use Rattle.core_lines.proofs.Live.{saved_in}
use Rattle.core_lines.proofs.Loads.{values_below}
use Rattle.core_lines.proofs.Ways.{Needs, Does}
use Rattle.core_lines.proofs.Shown.{AreWhole, showing, showing_all, saving, saving_all, whole_all, loads_show}
use Rattle.core_lines.proofs.Forms.{within_block, same_holding, sequence_does, block_does}
use Rattle.core_lines.proofs.Choices.{test, jumps}
use Rattle.core_lines.proofs.homes.Locals.{shrunk_layouts, offsets_lie, highest_of_above, both_below}
use Rattle.core_lines.proofs.homes.Fine.{IsFine, AreFine, tiny, fit}
use Rattle.core_lines.proofs.operations.EachOperation.{DataSmall, surrounding, scoped}
use Rattle.core_lines.proofs.EachStatement.{IsAround, in_block, statement_does, statements_do}
use Rattle.core_lines.proofs.Returning.{JumpsLast, without_last, same_before, last_of_both, last_if, first_completes, behind_jump_last}
use Rattle.core_lines.proofs.Returning.{statement_jumps_last, statements_jump_last}
use Rattle.core_lines.proofs.Straight.{goes_straight}
use Rattle.core_lines.proofs.Pairs.{BehindDo, straight_does}

-- where a function ends
abbrev pub exit_of : World → Waiting → List Line
exit_of w x = Label (w.exits x.function) ∷ []

module _ (w : World) (order : IsInOrder w) (x : Waiting) (outer : List Waiting) (most : ℕ) where
  abbrev exit : ℕ
  exit = w.exits x.function

  sequence_ends : (completes others_complete : Bool) (held between end : List Holding) (start middle_needs : List Bool) (needs : Needs)
      (first second : List Line) (out again : ℕ) (s : Statement) (ss : Statements) (one_ends other_ends : Bool)
      (ends : (if completes then other_ends else one_ends) ≡ true) (one : one_ends ≡ true → JumpsLast exit first)
      (other : other_ends ≡ true → JumpsLast exit second)
      → Does w x outer most completes held between start (record needs { after = middle_needs }) first out again (core.statement s)
      → Does w x outer most others_complete between end middle_needs needs second out again (core.statements ss)
      → ((e : one_ends ≡ true) → Does w x outer most completes held between start (record needs { after = middle_needs }) ((one e).before ++ exit_of w x)
      out again (core.statement s))
      → ((e : other_ends ≡ true) → Does w x outer most others_complete between end middle_needs needs ((other e).before ++ exit_of w x) out again
      (core.statements ss))
      → Does w x outer most (completes && others_complete) held end start needs
      ((last_of_both exit completes one_ends other_ends ends first second one other).before ++ exit_of w x) out again (core.statements (MoreStatements s ss))
  sequence_ends true others_complete held between end start middle_needs needs first second out again s ss one_ends other_ends ends one other does others
      one_does others_do =
      let last = (other ends).before in
      subst (λ lines. Does w x outer most others_complete held end start needs lines out again (core.statements (MoreStatements s ss)))
      (sym (append_assoc first last (exit_of w x)))
      (sequence_does w order x outer most (test w order x outer most) (jumps w order x outer most) true others_complete held between end start middle_needs
      needs first (last ++ exit_of w x) out again s ss does (others_do ends))
  sequence_ends false others_complete held between end start middle_needs needs first second out again s ss one_ends other_ends ends one other does others
      one_does others_do =
      let lines = (one ends).before ++ exit_of w x in
      subst (λ lines. Does w x outer most false held end start needs lines out again (core.statements (MoreStatements s ss))) (append-nil lines)
      (sequence_does w order x outer most (test w order x outer most) (jumps w order x outer most) false others_complete held between end start middle_needs
      needs lines second out again s ss (one_does ends) others)

  -- what does as it means does so where the function ends behind it
  does_before_end : (completes : Bool) (held behind : List Holding) (start : List Bool) (needs : Needs) (lines : List Line) (out again : ℕ)
      (means : (Exit → Config → Step) → Config → Step)
      → Does w x outer most completes held behind start needs lines out again means
      → Does w x outer most completes held behind start needs (lines ++ exit_of w x) out again means
  does_before_end completes held behind start needs lines out again means one = record {
    goes = λ place fuel le next aligned has ways.
        let e : place + code_length (lines ++ exit_of w x) ≡ place + code_length lines = omega (arith, length_of_both lines (exit_of w x)) in
        one.goes place fuel le next aligned (has_first w place lines (exit_of w x) has) (record {
          falls = λ reached. same_holding w order x outer most (test w order x outer most) (jumps w order x outer most) needs.after fuel
              (place + code_length (lines ++ exit_of w x)) (place + code_length lines) behind (next Falls) e (ways.falls reached);
          breaks = ways.breaks;
          continues = ways.continues;
          returns = ways.returns;
        });
  }

-- where what completes is reached
ended_if : (exit : ℕ) (completes : Bool) (is : completes ≡ true) (one_ends other_ends : Bool) (ends : (if completes then other_ends else one_ends) ≡ true)
    (lines : List Line) (last : other_ends ≡ true → JumpsLast exit lines) (D : List Line → Type 0) → ((e : other_ends ≡ true) → D (last e).before)
    → D (last_if exit completes one_ends other_ends is ends lines last).before
ended_if exit true is one_ends other_ends ends lines last D does = does ends
ended_if exit false is one_ends other_ends ends lines last D does = absurd (cc is)

module _ (w : World) (order : IsInOrder w) (outer : List Waiting) (small : DataSmall w) (bytes most : ℕ)
    (calls : (j : ℕ) → suc j ≤ most → (g : ℕ) → BodyGoes w j g) where
  -- A statement and those behind it, whether or not its result goes straight into the home of a local.
  followed_ends : (x : Waiting) (ns : List ℕ) (oss hss : List (List ℕ)) (names : List ℕ) (low : ℕ) (held : List Holding) (needs : Needs)
      (flags rest : List Bool) (next out again : ℕ) (s : Statement) (ss : Statements) → AreWhole x.fn.temporaries needs
      → flags ≡ saving_all w hss names held needs (MoreStatements s ss) ++ rest → IsAround w x ns oss hss low bytes
      → HaveLinesIn (scoped w x ns) (MoreStatements s ss) → (ends : ends_in_return_all (MoreStatements s ss) ≡ true) → (home : ℕ)
      → home_behind hss held s ss ≡ home
      → (let last = held_behind hss w.data_offsets held s in
      let u = surrounding w x oss hss names low held in
      let v = surrounding w x oss hss (names_after s names) low last in
      let left = drop (results_in s) flags in
      let between = showing_all w hss (names_after s names) last needs ss in
      let all = statements_code left v (next + labels_in s) out again ss in
      let exit = w.exits x.function in
      (l : JumpsLast exit (first_code home (flag_at flags 0) u s (statement_code flags u next out again s)
      ++ (if can_complete s then later_code home all (statements_behind left v (next + labels_in s) out again ss) else [])))
      → Does w x outer most (can_complete s) held last (showing w hss names held (record needs { after = between }) s) (record needs { after = between })
      (statement_code flags u next out again s) out again (core.statement s)
      → Does w x outer most (can_complete_all ss) last (held_behind_all hss w.data_offsets last ss) between needs all out again (core.statements ss)
      → ((e : ends_in_return s ≡ true) → Does w x outer most (can_complete s) held last (showing w hss names held (record needs { after = between }) s)
      (record needs { after = between }) ((statement_jumps_last flags u next out again s e).before ++ exit_of w x) out again (core.statement s))
      → ((e : ends_in_return_all ss ≡ true) → Does w x outer most (can_complete_all ss) last (held_behind_all hss w.data_offsets last ss) between needs
      ((statements_jump_last left v (next + labels_in s) out again ss e).before ++ exit_of w x) out again (core.statements ss))
      → ((completes : first_completes ss ≡ true) (e : ends_in_return_all ss ≡ true)
      → BehindDo w order x outer most ns oss hss low (names_after s names) last needs
      ((behind_jump_last left v (next + labels_in s) out again ss completes e).before ++ exit_of w x) out again ss)
      → Does w x outer most (can_complete_all (MoreStatements s ss)) held (held_behind_all hss w.data_offsets held (MoreStatements s ss))
      (showing_all w hss names held needs (MoreStatements s ss)) needs (l.before ++ exit_of w x) out again (core.statements (MoreStatements s ss)))
  followed_ends x ns oss hss names low held needs flags rest next out again s ss whole are around has ends zero none l one others one_ends others_end behind =
      let last = held_behind hss w.data_offsets held s in
      let u = surrounding w x oss hss names low held in
      let v = surrounding w x oss hss (names_after s names) low last in
      let left = drop (results_in s) flags in
      let between = showing_all w hss (names_after s names) last needs ss in
      let exit = w.exits x.function in
      let first = statement_code flags u next out again s in
      let second = statements_code left v (next + labels_in s) out again ss in
      let jumps_first = statement_jumps_last flags u next out again s in
      let jumps_second = statements_jump_last left v (next + labels_in s) out again ss in
      let m = last_of_both exit (can_complete s) (ends_in_return s) (ends_in_return_all ss) ends first second jumps_first jumps_second in
      subst (λ before. Does w x outer most (can_complete_all (MoreStatements s ss)) held (held_behind_all hss w.data_offsets held (MoreStatements s ss))
      (showing_all w hss names held needs (MoreStatements s ss)) needs (before ++ exit_of w x) out again (core.statements (MoreStatements s ss)))
      (same_before exit (first ++ (if can_complete s then second else [])) (first ++ (if can_complete s then second else [])) refl m l)
      (sequence_ends w order x outer most (can_complete s) (can_complete_all ss) held last (held_behind_all hss w.data_offsets last ss)
      (showing w hss names held (record needs { after = between }) s) between needs first second out again s ss (ends_in_return s) (ends_in_return_all ss) ends
      jumps_first jumps_second one others one_ends others_end)
  followed_ends x ns oss hss names low held needs flags rest next out again s ss whole are around has ends (suc h) some l one others one_ends others_end
      behind =
      let g = goes_straight hss held s ss h some in
      let u = surrounding w x oss hss names low held in
      let v = surrounding w x oss hss (names_after s names) low (held_behind hss w.data_offsets held s) in
      let left = drop (results_in s) flags in
      let exit = w.exits x.function in
      let first = straight_code (flag_at flags 0) u (suc h) s in
      let second = statements_behind left v (next + labels_in s) out again ss in
      let completes : can_complete s ≡ true = ap can_complete g.first_is in
      let next_completes : first_completes ss ≡ true = ap first_completes g.next_is in
      let ends_behind : ends_in_return_all ss ≡ true = ap (λ c. if c then ends_in_return_all ss else ends_in_return s) (sym completes) ∙ ends in
      let tail = behind_jump_last left v (next + labels_in s) out again ss next_completes ends_behind in
      let lines = first ++ (if can_complete s then second else []) in
      let m : JumpsLast exit lines = record {
        before = first ++ tail.before;
        are = ap (λ c. first ++ (if c then second else [])) completes ∙ ap (λ ls. first ++ ls) tail.are
            ∙ sym (append_assoc first tail.before (Jump exit ∷ []));
      } in
      subst (λ before. Does w x outer most (can_complete_all (MoreStatements s ss)) held (held_behind_all hss w.data_offsets held (MoreStatements s ss))
      (showing_all w hss names held needs (MoreStatements s ss)) needs (before ++ exit_of w x) out again (core.statements (MoreStatements s ss)))
      (same_before exit lines lines refl m l)
      (subst (λ ls. Does w x outer most (can_complete_all (MoreStatements s ss)) held (held_behind_all hss w.data_offsets held (MoreStatements s ss))
      (showing_all w hss names held needs (MoreStatements s ss)) needs ls out again (core.statements (MoreStatements s ss)))
      (sym (append_assoc first tail.before (exit_of w x)))
      (straight_does w order x outer most ns oss hss low around.blocks around.inside around.are_homes names held needs flags rest (tail.before ++ exit_of w x)
      out again whole s ss h g are has (behind next_completes ends_behind)))

  mutual
    statement_ends : (x : Waiting) (ns : List ℕ) (oss hss : List (List ℕ)) (names : List ℕ) (low : ℕ) (held : List Holding) (needs : Needs)
        (flags rest : List Bool) (next out again : ℕ) (s : Statement) → AreWhole x.fn.temporaries needs → flags ≡ saving w hss names held needs s ++ rest
        → IsAround w x ns oss hss low bytes → HasLinesIn (scoped w x ns) s → IsFine x.fn hss names s → highest low (shrunk_in names s) ≤ bytes
        → (ends : ends_in_return s ≡ true)
        → Does w x outer most (can_complete s) held (held_behind hss w.data_offsets held s) (showing w hss names held needs s) needs
        ((statement_jumps_last flags (surrounding w x oss hss names low held) next out again s ends).before ++ exit_of w x) out again (core.statement s)
    statement_ends x ns oss hss names low held needs flags rest next out again (Do operation) whole are around has fine below ends = absurd (cc ends)
    statement_ends x ns oss hss names low held needs flags rest next out again (If t these those) whole are around has fine below ends = absurd (cc ends)
    statement_ends x ns oss hss names low held needs flags rest next out again (While ts t body) whole are around has fine below ends = absurd (cc ends)
    statement_ends x ns oss hss names low held needs flags rest next out again (Block ls body) whole are around has fine below ends =
        let hs = homes_here ls names in
        let placed = shrunk ls hs in
        let high = end_from low placed in
        let p : Place = record { low = low; high = high; offsets = offsets_from low placed; homes = hs } in
        let inner = homes_after ls names in
        let upto = highest_of_above high (shrunk_of inner body) in
        let framed = around.framed in
        let start = showing w hss names held needs (Block ls body) in
        let u = surrounding w x (offsets_from low placed ∷ oss) (hs ∷ hss) inner high held in
        let lines = (statements_jump_last flags u next out again body ends).before ++ exit_of w x in
        block_does w order x outer most p ls body (can_complete_all body) held (held_behind_all (hs ∷ hss) w.data_offsets held body) start needs lines out again
        (offsets_lie low placed (shrunk_layouts ls hs has.0)) (omega (arith, upto, below, framed)) around.nest
        (tiny ls hs has.0 fine.0.short) (fit x.fn ls names ns x.nest oss hss around.blocks fine.0) around.inside
        (λ k. statements_end (within_block x p k) (length ls ∷ ns) (offsets_from low placed ∷ oss) (hs ∷ hss) inner high held needs flags rest next out again
        body whole are (in_block w order outer small bytes most calls x ns oss hss names low k ls around fine.0 (omega (arith, upto, below))) has.1 fine.1
        below ends)
    statement_ends x ns oss hss names low held needs flags rest next out again (Leave body) whole are around has fine below ends = absurd (cc ends)
    statement_ends x ns oss hss names low held needs flags rest next out again Break whole are around has fine below ends = absurd (cc ends)
    statement_ends x ns oss hss names low held needs flags rest next out again Continue whole are around has fine below ends = absurd (cc ends)
    statement_ends x ns oss hss names low held needs flags rest next out again (Call results f arguments) whole are around has fine below ends =
        absurd (cc ends)
    statement_ends x ns oss hss names low held needs flags rest next out again (Return values) whole are around has fine below ends = record {
      goes = λ place fuel le k aligned lines ways.
          let y = keeping (showing w hss names held needs (Return values)) x in
          return_last_goes w order y outer fuel values k held place around.ends around.inside has.0
          (loads_show x.fn.temporaries (loads_of_values held 9 values) (cleared needs.after) (length_cleared needs.after ∙ whole.after)
          (values_below x.fn.temporaries held 9 values has.0)) has.1 lines ways.returns;
    }
    statement_ends x ns oss hss names low held needs flags rest next out again (Raise kind) whole are around has fine below ends = absurd (cc ends)

    statements_end : (x : Waiting) (ns : List ℕ) (oss hss : List (List ℕ)) (names : List ℕ) (low : ℕ) (held : List Holding) (needs : Needs)
        (flags rest : List Bool) (next out again : ℕ) (ss : Statements) → AreWhole x.fn.temporaries needs
        → flags ≡ saving_all w hss names held needs ss ++ rest
        → IsAround w x ns oss hss low bytes → HaveLinesIn (scoped w x ns) ss → AreFine x.fn hss names ss → highest_of low (shrunk_of names ss) ≤ bytes
        → (ends : ends_in_return_all ss ≡ true)
        → Does w x outer most (can_complete_all ss) held (held_behind_all hss w.data_offsets held ss) (showing_all w hss names held needs ss) needs
        ((statements_jump_last flags (surrounding w x oss hss names low held) next out again ss ends).before ++ exit_of w x) out again (core.statements ss)
    statements_end x ns oss hss names low held needs flags rest next out again NoStatements whole are around has fine below ends = absurd (cc ends)
    statements_end x ns oss hss names low held needs flags rest next out again (MoreStatements s ss) whole are around has fine below ends =
        let behind = names_after s names in
        let b = both_below (highest low (shrunk_in names s)) (highest_of low (shrunk_of behind ss)) bytes below in
        let last = held_behind hss w.data_offsets held s in
        let between = showing_all w hss behind last needs ss in
        let needs_first : Needs = record needs { after = between } in
        let whole_first : AreWhole x.fn.temporaries needs_first =
        record { after = whole_all w hss behind last needs x.fn.temporaries whole ss; out = whole.out; again = whole.again } in
        let saved = saving w hss names held needs_first s in
        let saved_others = saving_all w hss behind last needs ss in
        let flags_others = drop (results_in s) flags in
        let are_first : flags ≡ saved ++ (saved_others ++ rest) = are ∙ append_assoc saved saved_others rest in
        let are_others : flags_others ≡ saved_others ++ rest = flags_behind (results_in s) flags saved (saved_others ++ rest)
        (saved_in w.data_offsets hss names held between needs.out needs.again s) are_first in
        let u = surrounding w x oss hss names low held in
        let v = surrounding w x oss hss behind low last in
        followed_ends x ns oss hss names low held needs flags rest next out again s ss whole are around has ends (home_behind hss held s ss) refl
        (statements_jump_last flags u next out again (MoreStatements s ss) ends)
        (statement_does w order outer small bytes most calls x ns oss hss names low held needs_first flags (saved_others ++ rest) next out again s whole_first
        are_first around has.0 fine.0 b.0)
        (statements_do w order outer small bytes most calls x ns oss hss behind low last needs flags_others rest (next + labels_in s) out again ss whole
        are_others around has.1 fine.1 b.1)
        (λ e. statement_ends x ns oss hss names low held needs_first flags (saved_others ++ rest) next out again s whole_first are_first around has.0 fine.0
        b.0 e)
        (λ e. statements_end x ns oss hss behind low last needs flags_others rest (next + labels_in s) out again ss whole are_others around has.1 fine.1 b.1 e)
        (λ completes e. behind_end x ns oss hss behind low last needs flags_others rest (next + labels_in s) out again ss whole are_others around has.1 fine.1
        b.1 completes e)

    -- those behind the first of statements, which completes
    behind_end : (x : Waiting) (ns : List ℕ) (oss hss : List (List ℕ)) (names : List ℕ) (low : ℕ) (held : List Holding) (needs : Needs)
        (flags rest : List Bool) (next out again : ℕ) (ss : Statements) → AreWhole x.fn.temporaries needs
        → flags ≡ saving_all w hss names held needs ss ++ rest
        → IsAround w x ns oss hss low bytes → HaveLinesIn (scoped w x ns) ss → AreFine x.fn hss names ss → highest_of low (shrunk_of names ss) ≤ bytes
        → (completes : first_completes ss ≡ true) (ends : ends_in_return_all ss ≡ true)
        → BehindDo w order x outer most ns oss hss low names held needs
        ((behind_jump_last flags (surrounding w x oss hss names low held) next out again ss completes ends).before ++ exit_of w x) out again ss
    behind_end x ns oss hss names low held needs flags rest next out again NoStatements whole are around has fine below completes ends = tt
    behind_end x ns oss hss names low held needs flags rest next out again (MoreStatements s ss) whole are around has fine below completes ends =
        let behind = names_after s names in
        let b = both_below (highest low (shrunk_in names s)) (highest_of low (shrunk_of behind ss)) bytes below in
        let last = held_behind hss w.data_offsets held s in
        let between = showing_all w hss behind last needs ss in
        let saved = saving w hss names held (record needs { after = between }) s in
        let saved_others = saving_all w hss behind last needs ss in
        let left = drop (results_in s) flags in
        let are_others : left ≡ saved_others ++ rest = flags_behind (results_in s) flags saved (saved_others ++ rest)
        (saved_in w.data_offsets hss names held between needs.out needs.again s) (are ∙ append_assoc saved saved_others rest) in
        let v = surrounding w x oss hss behind low last in
        ended_if (w.exits x.function) (can_complete s) completes (ends_in_return s) (ends_in_return_all ss) ends
        (statements_code left v (next + labels_in s) out again ss) (statements_jump_last left v (next + labels_in s) out again ss)
        (λ before. Does w x outer most (can_complete_all ss) last (held_behind_all hss w.data_offsets last ss) between needs (before ++ exit_of w x) out again
        (core.statements ss))
        (λ e. statements_end x ns oss hss behind low last needs left rest (next + labels_in s) out again ss whole are_others around has.1 fine.1 b.1 e)

  -- what is so of lines, or of those before their last jump, is so of ended ones
  at_end : (D : List Line → Type 0) (to : ℕ) (lines : List Line) (returns : Bool) (last : returns ≡ true → JumpsLast to lines) → D lines
      → ((e : returns ≡ true) → D (last e).before) → D (ended_code returns lines)
  at_end D to lines false last as_is without = as_is
  at_end D to lines true last as_is without =
      let l = last refl in
      subst D (sym (ap (λ ls. ended_code true ls) l.are ∙ without_last l.before (Jump to))) (without refl)

  -- the lines of a function's statements, and its end
  pub ended_do : (x : Waiting) (ns : List ℕ) (oss hss : List (List ℕ)) (names : List ℕ) (low : ℕ) (held : List Holding) (needs : Needs)
      (flags rest : List Bool) (next out again : ℕ) (ss : Statements) → AreWhole x.fn.temporaries needs
      → flags ≡ saving_all w hss names held needs ss ++ rest
      → IsAround w x ns oss hss low bytes → HaveLinesIn (scoped w x ns) ss → AreFine x.fn hss names ss → highest_of low (shrunk_of names ss) ≤ bytes
      → Does w x outer most (can_complete_all ss) held (held_behind_all hss w.data_offsets held ss) (showing_all w hss names held needs ss) needs
      (ended_code (ends_in_return_all ss) (statements_code flags (surrounding w x oss hss names low held) next out again ss) ++ exit_of w x) out again
      (core.statements ss)
  ended_do x ns oss hss names low held needs flags rest next out again ss whole are around has fine below =
      let u = surrounding w x oss hss names low held in
      let behind = held_behind_all hss w.data_offsets held ss in
      let start = showing_all w hss names held needs ss in
      let lines = statements_code flags u next out again ss in
      at_end (λ ls. Does w x outer most (can_complete_all ss) held behind start needs (ls ++ exit_of w x) out again (core.statements ss)) (w.exits x.function)
      lines (ends_in_return_all ss) (λ e. statements_jump_last flags u next out again ss e)
      (does_before_end w order x outer most (can_complete_all ss) held behind start needs lines out again (core.statements ss)
      (statements_do w order outer small bytes most calls x ns oss hss names low held needs flags rest next out again ss whole are around has fine below))
      (λ e. statements_end x ns oss hss names low held needs flags rest next out again ss whole are around has fine below e)
