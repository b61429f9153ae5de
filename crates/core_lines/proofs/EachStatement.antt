-- Each statement's code does as the statement means, by the forms of statements, where calls with less fuel do as Core.
use Rattle.std.specs.Prelude.{length, drop, if◌then◌else◌}
use Rattle.rv32_machine.specs.Arrays.{longest_stack}
use Rattle.std.proofs.Common.{◌≡◌, ℕ, zero, suc, Bool, true, false, Some, ◌+◌, ◌≤◌, List, [], ◌∷◌, ◌++◌, refl, sym, ap, subst, ◌∙◌, arith}
use Rattle.std.proofs.Common.{append_assoc}
use Rattle.core_meaning.specs.Core.{Local, Statement, Do, If, While, Block, Leave, Break, Continue, Call, Return, Raise, Statements, NoStatements}
use Rattle.core_meaning.specs.Core.{MoreStatements}
use Rattle.core_meaning.specs.Meaning as core
use Rattle.core_meaning.specs.Steps.{Falls}
use Rattle.core_lines.specs.declared.line.Line.{Line}
use Rattle.core_lines.specs.declared.line.Line.TheVariants.{Jump}
use Rattle.core_lines.specs.Held.{Holding, held_behind, held_behind_all}
use Rattle.core_lines.specs.Completing.{can_complete, can_complete_all}
use Rattle.core_lines.specs.Straight.{straight_code}
use Rattle.core_lines.specs.Choosing.{choice_code, between_code, behind_code}
use Rattle.core_lines.specs.Checks.{check_of}
use Rattle.core_lines.specs.Loaded.{unknown_in, loads_of_operation, loads_of_values}
use Rattle.core_lines.specs.Saved.{cleared, all_flagged, results_of, results_in, results_all}
use Rattle.core_lines.specs.Selected.{offsets_from, end_from, highest, highest_of, labels_in, labels_of, statement_code, statements_code}
use Rattle.core_lines.specs.Selected.{Surroundings, holding, naming, statements_behind, home_behind, first_code, later_code}
use Rattle.core_lines.specs.Selected.{nth_block, shrunk, shrunk_in, shrunk_of, homes_here, homes_after, names_after, names_after_all}
use Rattle.core_lines.specs.Homes.{is_home, flag_at}
use Rattle.core_meaning.specs.Selectable.{HasLinesIn, HaveLinesIn}
use Rattle.core_lines.proofs.memory.Relations.{Covers, Inside, EndsThere, home_of, active_of, World, IsInOrder, Waiting, Place, keeping}
use Rattle.core_lines.proofs.frames.Going.{with_config, goes_any, BodyGoes}
use Rattle.core_lines.proofs.frames.Calls.{call_goes, return_goes}
use Rattle.core_lines.proofs.Flags.{length_cleared, length_all, more_flagged, flags_behind, follows_flags}
use Rattle.core_lines.proofs.Live.{few_results, saved_in, saved_of, choice_to_after, choice_to_body, head_to_test}
use Rattle.core_lines.proofs.Loads.{unknown_below, operation_below, values_below, statement_below, statements_below}
use Rattle.core_lines.proofs.Ways.{Needs, Does, does_any, does_fewer}
use Rattle.core_lines.proofs.Shown.{AreWhole, showing, showing_all, saving, saving_all, whole_all, loads_show, first_way, second_way, choice_served}
use Rattle.core_lines.proofs.Shown.{at_choice, of_test, of_body, whole_test, whole_body, loop_shows, loop_served}
use Rattle.core_lines.proofs.Forms.{within_block, break_does, continue_does, nothing_does, sequence_does, block_does}
use Rattle.core_lines.proofs.Checking.{checked_does}
use Rattle.core_lines.proofs.Choices.{test, jumps, either_does, leave_does, loop_does}
use Rattle.core_lines.proofs.Straight.{goes_straight}
use Rattle.core_lines.proofs.Pairs.{BehindDo, straight_does}
use Rattle.core_lines.proofs.memory.Nested.{NestFits}
use Rattle.core_lines.proofs.homes.Locals.{shrunk_layouts, as_many_shrunk, offsets_lie, as_many_offsets, end_above, offset_below, highest_of_above, both_below}
use Rattle.core_lines.proofs.homes.Nests.{BlocksAre}
use Rattle.core_lines.proofs.homes.Fine.{FitsIn, IsFine, AreFine, tiny, fit}
use Rattle.core_lines.proofs.operations.Raising.{raise_goes}
use Rattle.core_lines.proofs.operations.EachOperation.{DataSmall, OwnSmall, surrounding, scoped, operation_goes}

-- what is so of where a statement stands: the blocks around it, where the next one's locals would begin, and the bytes of the frame
pub record IsAround (w : World) (x : Waiting) (ns : List ℕ) (oss hss : List (List ℕ)) (low bytes : ℕ) : Type 0 where
  pub blocks : BlocksAre ns x.nest oss hss
  pub inside : x.phase ≡ Inside
  pub ends : EndsThere w x.function x.fn
  pub are_homes : (out local r : ℕ) → home_of (nth_block hss out) local ≡ Some r → is_home r ≡ true
  pub nest : NestFits x.own_high low x.nest
  pub framed : w.frame_bytes x.function ≡ bytes
  pub small : bytes ≤ longest_stack
  pub own_small : OwnSmall x

-- ---- each

module _ (w : World) (order : IsInOrder w) (outer : List Waiting) (small : DataSmall w) (bytes most : ℕ)
    (calls : (j : ℕ) → suc j ≤ most → (g : ℕ) → BodyGoes w j g) where
  -- in a block more
  pub in_block : (x : Waiting) (ns : List ℕ) (oss hss : List (List ℕ)) (names : List ℕ) (low k : ℕ) (ls : List Local) → IsAround w x ns oss hss low bytes
      → FitsIn x.fn ls (homes_here ls names) hss → end_from low (shrunk ls (homes_here ls names)) ≤ bytes
      → IsAround w (within_block x (record {
        low = low;
        high = end_from low (shrunk ls (homes_here ls names));
        offsets = offsets_from low (shrunk ls (homes_here ls names));
        homes = homes_here ls names;
      }) k) (length ls ∷ ns)
      (offsets_from low (shrunk ls (homes_here ls names)) ∷ oss) (homes_here ls names ∷ hss) (end_from low (shrunk ls (homes_here ls names))) bytes
  in_block x ns oss hss names low k ls around fits below =
      let few = around.small in
      let hs = homes_here ls names in
      let placed = shrunk ls hs in
      record {
        blocks = (
          sym (as_many_offsets low placed ∙ as_many_shrunk ls hs),
          refl,
          (λ o y e. let h = offset_below low placed o y e in omega (arith, h, below, few)),
          refl,
          around.blocks,
        );
        inside = around.inside;
        ends = around.ends;
        are_homes = λ out local r e. homes_of out local r e;
        nest = (omega arith, end_above low placed, around.nest);
        framed = around.framed;
        small = around.small;
        own_small = around.own_small;
      }
    where
      homes_of : (out local r : ℕ) → home_of (nth_block (homes_here ls names ∷ hss) out) local ≡ Some r → is_home r ≡ true
      homes_of zero local r e = (fits.saved local r e).0
      homes_of (suc out) local r e = around.are_homes out local r e

  -- the code of the statements behind the first of some, where that completes
  abbrev others_code : (flags : List Bool) → Surroundings → (next out again : ℕ) → Statements → List Line
  others_code flags u next out again NoStatements = []
  others_code flags u next out again (MoreStatements s ss) = statements_code (drop (results_in s) flags)
      (holding (held_behind u.homes u.statics u.held s) (naming (names_after s u.names) u)) (next + labels_in s) out again ss

  -- A statement and those behind it, whether or not its result goes straight into the home of a local.
  followed : (x : Waiting) (ns : List ℕ) (oss hss : List (List ℕ)) (names : List ℕ) (low : ℕ) (held : List Holding) (needs : Needs)
      (flags rest : List Bool) (next out again : ℕ) (s : Statement) (ss : Statements) → AreWhole x.fn.temporaries needs
      → flags ≡ saving_all w hss names held needs (MoreStatements s ss) ++ rest → IsAround w x ns oss hss low bytes
      → HaveLinesIn (scoped w x ns) (MoreStatements s ss) → (home : ℕ) → home_behind hss held s ss ≡ home
      → (let last = held_behind hss w.data_offsets held s in
      let later = surrounding w x oss hss (names_after s names) low last in
      let left = drop (results_in s) flags in
      Does w x outer most (can_complete s) held last
      (showing w hss names held (record needs { after = showing_all w hss (names_after s names) last needs ss }) s)
      (record needs { after = showing_all w hss (names_after s names) last needs ss })
      (statement_code flags (surrounding w x oss hss names low held) next out again s) out again (core.statement s)
      → Does w x outer most (can_complete_all ss) last (held_behind_all hss w.data_offsets last ss) (showing_all w hss (names_after s names) last needs ss)
      needs (statements_code left later (next + labels_in s) out again ss) out again (core.statements ss)
      → BehindDo w order x outer most ns oss hss low (names_after s names) last needs (others_code left later (next + labels_in s) out again ss) out again ss
      → Does w x outer most (can_complete_all (MoreStatements s ss)) held (held_behind_all hss w.data_offsets held (MoreStatements s ss))
      (showing_all w hss names held needs (MoreStatements s ss)) needs
      (first_code home (flag_at flags 0) (surrounding w x oss hss names low held) s
      (statement_code flags (surrounding w x oss hss names low held) next out again s)
      ++ (if can_complete s then later_code home (statements_code left later (next + labels_in s) out again ss)
      (statements_behind left later (next + labels_in s) out again ss) else [])) out again (core.statements (MoreStatements s ss)))
  followed x ns oss hss names low held needs flags rest next out again s ss whole are around has zero none one others behind =
      let last = held_behind hss w.data_offsets held s in
      sequence_does w order x outer most (test w order x outer most) (jumps w order x outer most) (can_complete s) (can_complete_all ss) held last
      (held_behind_all hss w.data_offsets last ss)
      (showing w hss names held (record needs { after = showing_all w hss (names_after s names) last needs ss }) s)
      (showing_all w hss (names_after s names) last needs ss) needs
      (statement_code flags (surrounding w x oss hss names low held) next out again s)
      (statements_code (drop (results_in s) flags) (surrounding w x oss hss (names_after s names) low last) (next + labels_in s) out again ss) out again s ss
      one others
  followed x ns oss hss names low held needs flags rest next out again s ss whole are around has (suc h) some one others behind =
      let g = goes_straight hss held s ss h some in
      let u = surrounding w x oss hss names low held in
      let last = held_behind hss w.data_offsets held s in
      let later = surrounding w x oss hss (names_after s names) low last in
      let left = drop (results_in s) flags in
      let lines = others_code left later (next + labels_in s) out again ss in
      let same : lines ≡ (if can_complete s then statements_behind left later (next + labels_in s) out again ss else []) =
      (λ i. others_code left later (next + labels_in s) out again (g.next_is i))
      ∙ (λ i. if can_complete (sym g.first_is i) then statements_behind left later (next + labels_in s) out again (sym g.next_is i) else []) in
      subst (λ second. Does w x outer most (can_complete_all (MoreStatements s ss)) held (held_behind_all hss w.data_offsets held (MoreStatements s ss))
      (showing_all w hss names held needs (MoreStatements s ss)) needs (straight_code (flag_at flags 0) u (suc h) s ++ second) out again
      (core.statements (MoreStatements s ss))) same
      (straight_does w order x outer most ns oss hss low around.blocks around.inside around.are_homes names held needs flags rest lines out again whole s ss h g
      are has behind)

  mutual
    pub statement_does : (x : Waiting) (ns : List ℕ) (oss hss : List (List ℕ)) (names : List ℕ) (low : ℕ) (held : List Holding) (needs : Needs)
        (flags rest : List Bool) (next out again : ℕ) (s : Statement) → AreWhole x.fn.temporaries needs → flags ≡ saving w hss names held needs s ++ rest
        → IsAround w x ns oss hss low bytes → HasLinesIn (scoped w x ns) s → IsFine x.fn hss names s → highest low (shrunk_in names s) ≤ bytes
        → Does w x outer most (can_complete s) held (held_behind hss w.data_offsets held s) (showing w hss names held needs s) needs
        (statement_code flags (surrounding w x oss hss names low held) next out again s) out again (core.statement s)
    statement_does x ns oss hss names low held needs flags rest next out again (Do operation) whole are around has fine below = record {
      goes = λ place fuel le k aligned lines ways.
          let y = keeping (showing w hss names held needs (Do operation)) x in
          let loads = loads_of_operation held operation in
          let results = results_of operation in
          operation_goes w order y outer small around.own_small ns oss hss names low held around.blocks around.inside around.are_homes fuel place (k Falls)
          operation (flag_at flags 0) needs.after has
          (loads_show x.fn.temporaries loads (all_flagged false results needs.after) (length_all false results needs.after ∙ whole.after)
          (operation_below (scoped w x ns) held operation has))
          (follows_flags results loads needs.after flags rest (few_results operation) are) fine lines (ways.falls refl);
    }
    statement_does x ns oss hss names low held needs flags rest next out again (If t these those) whole are around has fine below =
        let behind_these = names_after_all these names in
        let b = both_below (highest_of low (shrunk_of names these)) (highest_of low (shrunk_of behind_these those)) bytes below in
        let behind_label = next + 1 + labels_of these in
        let last = held_behind_all hss w.data_offsets held these in
        let last_of_those = held_behind_all hss w.data_offsets held those in
        let start = showing w hss names held needs (If t these those) in
        let one = showing_all w hss names held needs these in
        let other = showing_all w hss behind_these held needs those in
        let shows_other = second_way w x hss names held needs t these those whole
        (statements_below w.data_offsets (scoped w x ns) hss behind_these held those has.2) in
        let saved = saving_all w hss names held needs these in
        let saved_others = saving_all w hss behind_these held needs those in
        let flags_those = drop (results_all these) flags in
        let are_these : flags ≡ saved ++ (saved_others ++ rest) = are ∙ append_assoc saved saved_others rest in
        let are_those : flags_those ≡ saved_others ++ rest = flags_behind (results_all these) flags saved (saved_others ++ rest)
        (saved_of w.data_offsets hss names held needs.after needs.out needs.again these) are_these in
        let second = statements_code flags (surrounding w x oss hss names low held) (next + 1) out again these in
        let fourth = statements_code flags_those (surrounding w x oss hss behind_these low held) (behind_label + 1) out again those in
        checked_does w order x outer most ns hss names held needs t out again whole these those (check_of these those)
        (choice_code w.wide x.fn.passed held t next ++ second ++ between_code (can_complete_all these) those behind_label next ++ fourth
        ++ behind_code those behind_label) refl has
        (either_does w order x outer most (can_complete_all these) held last last_of_those start needs t next behind_label out again these those second fourth
        has.0 (choice_served w x hss names held needs t these those whole has.0)
        (does_fewer w x outer most (can_complete_all these) held last start one needs second out again (core.statements these)
        (first_way w x hss names held needs t these those whole)
        (statements_do x ns oss hss names low held needs flags (saved_others ++ rest) (next + 1) out again these whole are_these around has.1 fine.0 b.0))
        (does_fewer w x outer most (can_complete_all those) held last_of_those start other needs fourth out again (core.statements those) shows_other
        (statements_do x ns oss hss behind_these low held needs flags_those rest (behind_label + 1) out again those whole are_those around has.2 fine.1 b.1))
        (λ none. (
          ap (λ ss. statements_code flags_those (surrounding w x oss hss behind_these low held) (behind_label + 1) out again ss) none,
          subst (λ ss. Covers start (showing_all w hss behind_these held needs ss)) none shows_other,
        )))
    statement_does x ns oss hss names low held needs flags rest next out again (While ts t body) whole are around has fine below =
        let behind = names_after_all ts names in
        let b = both_below (highest_of low (shrunk_of names ts)) (highest_of low (shrunk_of behind body)) bytes below in
        let behind_label = next + 1 + labels_of ts in
        let known = held_behind_all hss w.data_offsets [] ts in
        let last = held_behind_all hss w.data_offsets [] body in
        let start = showing w hss names held needs (While ts t body) in
        let between = at_choice w x hss names needs ts t body whole in
        let needs_test = of_test w x hss names needs ts t body whole in
        let needs_body = of_body w x hss names needs ts t body whole in
        let in_test = showing_all w hss names [] needs_test ts in
        let in_body = showing_all w hss behind [] needs_body body in
        let saved = saving_all w hss names [] needs_test ts in
        let saved_others = saving_all w hss behind [] needs_body body in
        let flags_body = drop (results_all ts) flags in
        let are_test : flags ≡ saved ++ (saved_others ++ rest) = are ∙ append_assoc saved saved_others rest in
        let are_body : flags_body ≡ saved_others ++ rest = flags_behind (results_all ts) flags saved (saved_others ++ rest)
        (saved_of w.data_offsets hss names [] between needs.out needs.again ts) are_test in
        let second = statements_code flags (surrounding w x oss hss names low []) (next + 1) out again ts in
        let fourth = statements_code flags_body (surrounding w x oss hss behind low []) (behind_label + 1) behind_label next body in
        let lines = statement_code flags (surrounding w x oss hss names low held) next out again (While ts t body) in
        does_any w x outer most true held [] start needs lines out again (core.statement (While ts t body))
        (loop_does w order x outer most (can_complete_all ts) (can_complete_all body) known last needs start between t next behind_label out again ts body
        second fourth has.0
        (loop_served w x hss names needs ts t body whole has.0)
        (choice_to_after w.data_offsets hss names needs.after needs.out needs.again ts t body)
        (does_fewer w x outer most (can_complete_all ts) [] known start in_test needs_test second out again (core.statements ts)
        (head_to_test w.data_offsets hss names needs.after needs.out needs.again ts t body
        (loop_shows w x hss names needs ts t body whole (statement_below w.data_offsets (scoped w x ns) hss names [] (While ts t body) has)))
        (statements_do x ns oss hss names low [] needs_test flags (saved_others ++ rest) (next + 1) out again ts
        (whole_test w x hss names needs ts t body whole) are_test around has.1 fine.0 b.0))
        (does_fewer w x outer most (can_complete_all body) [] last between in_body needs_body fourth behind_label next (core.statements body)
        (choice_to_body w.data_offsets hss names needs.after needs.out needs.again ts t body)
        (statements_do x ns oss hss behind low [] needs_body flags_body rest (behind_label + 1) behind_label next body
        (whole_body w x hss names needs ts t body whole) are_body around has.2 fine.1 b.1)))
    statement_does x ns oss hss names low held needs flags rest next out again (Block ls body) whole are around has fine below =
        let hs = homes_here ls names in
        let placed = shrunk ls hs in
        let high = end_from low placed in
        let p : Place = record { low = low; high = high; offsets = offsets_from low placed; homes = hs } in
        let inner = homes_after ls names in
        let upto = highest_of_above high (shrunk_of inner body) in
        let framed = around.framed in
        let start = showing w hss names held needs (Block ls body) in
        let lines = statements_code flags (surrounding w x (offsets_from low placed ∷ oss) (hs ∷ hss) inner high held) next out again body in
        block_does w order x outer most p ls body (can_complete_all body) held (held_behind_all (hs ∷ hss) w.data_offsets held body) start needs lines out again
        (offsets_lie low placed (shrunk_layouts ls hs has.0)) (omega (arith, upto, below, framed)) around.nest
        (tiny ls hs has.0 fine.0.short) (fit x.fn ls names ns x.nest oss hss around.blocks fine.0) around.inside
        (λ k. statements_do (within_block x p k) (length ls ∷ ns) (offsets_from low placed ∷ oss) (hs ∷ hss) inner high held needs flags rest next out again
        body whole are (in_block x ns oss hss names low k ls around fine.0 (omega (arith, upto, below))) has.1 fine.1 below)
    statement_does x ns oss hss names low held needs flags rest next out again (Leave body) whole are around has fine below =
        leave_does w order x outer most (can_complete_all body) held (held_behind_all hss w.data_offsets held body)
        (showing w hss names held needs (Leave body)) needs next out again body
        (statements_code flags (surrounding w x oss hss names low held) (next + 1) next again body)
        (statements_do x ns oss hss names low held (record needs { out = needs.after }) flags rest (next + 1) next again body
        (record { after = whole.after; out = whole.after; again = whole.again }) are around has fine below)
    statement_does x ns oss hss names low held needs flags rest next out again Break whole are around has fine below =
        does_any w x outer most false held [] needs.out needs (Jump out ∷ []) out again (core.statement Break)
        (break_does w order x outer most (test w order x outer most) (jumps w order x outer most) needs out again)
    statement_does x ns oss hss names low held needs flags rest next out again Continue whole are around has fine below =
        does_any w x outer most false held [] needs.again needs (Jump again ∷ []) out again (core.statement Continue)
        (continue_does w order x outer most (test w order x outer most) (jumps w order x outer most) needs out again)
    statement_does x ns oss hss names low held needs flags rest next out again (Call results f arguments) whole are around has fine below = record {
      goes = λ place fuel le k aligned lines ways.
          let y = keeping (showing w hss names held needs (Call results f arguments)) x in
          let loads = unknown_in held arguments in
          let others = all_flagged false results needs.after in
          call_goes w order y outer fuel results f arguments has.0
          has.1 has.2 k held
          (loads_show x.fn.temporaries loads others (length_all false results needs.after ∙ whole.after)
          (unknown_below x.fn.temporaries held arguments has.1)) needs.after flags rest (more_flagged loads others) are place aligned lines
          (λ j less. calls j (omega (arith, less, le)) f) (ways.falls refl);
    }
    statement_does x ns oss hss names low held needs flags rest next out again (Return values) whole are around has fine below = record {
      goes = λ place fuel le k aligned lines ways.
          let y = keeping (showing w hss names held needs (Return values)) x in
          return_goes w order y outer fuel values k held place around.ends around.inside has.0
          (loads_show x.fn.temporaries (loads_of_values held 9 values) (cleared needs.after) (length_cleared needs.after ∙ whole.after)
          (values_below x.fn.temporaries held 9 values has.0)) has.1 lines ways.returns;
    }
    statement_does x ns oss hss names low held needs flags rest next out again (Raise kind) whole are around has fine below =
        record {
          goes = λ place fuel le k aligned lines ways.
              let y = keeping (showing w hss names held needs (Raise kind)) x in
              goes_any w y outer fuel place held (core.statement (Raise kind) k)
              (λ c is. raise_goes w order (with_config y c) outer c.memory fuel kind place (active_of w (x ∷ outer)) lines);
        }

    pub statements_do : (x : Waiting) (ns : List ℕ) (oss hss : List (List ℕ)) (names : List ℕ) (low : ℕ) (held : List Holding) (needs : Needs)
        (flags rest : List Bool) (next out again : ℕ) (ss : Statements) → AreWhole x.fn.temporaries needs
        → flags ≡ saving_all w hss names held needs ss ++ rest
        → IsAround w x ns oss hss low bytes → HaveLinesIn (scoped w x ns) ss → AreFine x.fn hss names ss → highest_of low (shrunk_of names ss) ≤ bytes
        → Does w x outer most (can_complete_all ss) held (held_behind_all hss w.data_offsets held ss) (showing_all w hss names held needs ss) needs
        (statements_code flags (surrounding w x oss hss names low held) next out again ss) out again (core.statements ss)
    statements_do x ns oss hss names low held needs flags rest next out again NoStatements whole are around has fine below =
        nothing_does w order x outer most (test w order x outer most) (jumps w order x outer most) held needs out again
    statements_do x ns oss hss names low held needs flags rest next out again (MoreStatements s ss) whole are around has fine below =
        let behind = names_after s names in
        let b = both_below (highest low (shrunk_in names s)) (highest_of low (shrunk_of behind ss)) bytes below in
        let last = held_behind hss w.data_offsets held s in
        let between = showing_all w hss behind last needs ss in
        let needs_first : Needs = record needs { after = between } in
        let whole_first : AreWhole x.fn.temporaries needs_first =
        record { after = whole_all w hss behind last needs x.fn.temporaries whole ss; out = whole.out; again = whole.again } in
        let saved = saving w hss names held needs_first s in
        let saved_others = saving_all w hss behind last needs ss in
        let flags_others = drop (results_in s) flags in
        let are_first : flags ≡ saved ++ (saved_others ++ rest) = are ∙ append_assoc saved saved_others rest in
        let are_others : flags_others ≡ saved_others ++ rest = flags_behind (results_in s) flags saved (saved_others ++ rest)
        (saved_in w.data_offsets hss names held between needs.out needs.again s) are_first in
        followed x ns oss hss names low held needs flags rest next out again s ss whole are around has (home_behind hss held s ss) refl
        (statement_does x ns oss hss names low held needs_first flags (saved_others ++ rest) next out again s whole_first are_first around has.0 fine.0 b.0)
        (statements_do x ns oss hss behind low last needs flags_others rest (next + labels_in s) out again ss whole are_others around has.1 fine.1 b.1)
        (behind_do x ns oss hss behind low last needs flags_others rest (next + labels_in s) out again ss whole are_others around has.1 fine.1 b.1)

    -- those behind the first of statements
    behind_do : (x : Waiting) (ns : List ℕ) (oss hss : List (List ℕ)) (names : List ℕ) (low : ℕ) (held : List Holding) (needs : Needs)
        (flags rest : List Bool) (next out again : ℕ) (ss : Statements) → AreWhole x.fn.temporaries needs
        → flags ≡ saving_all w hss names held needs ss ++ rest
        → IsAround w x ns oss hss low bytes → HaveLinesIn (scoped w x ns) ss → AreFine x.fn hss names ss → highest_of low (shrunk_of names ss) ≤ bytes
        → BehindDo w order x outer most ns oss hss low names held needs
        (others_code flags (surrounding w x oss hss names low held) next out again ss) out again ss
    behind_do x ns oss hss names low held needs flags rest next out again NoStatements whole are around has fine below = tt
    behind_do x ns oss hss names low held needs flags rest next out again (MoreStatements s ss) whole are around has fine below =
        let behind = names_after s names in
        let b = both_below (highest low (shrunk_in names s)) (highest_of low (shrunk_of behind ss)) bytes below in
        let last = held_behind hss w.data_offsets held s in
        let between = showing_all w hss behind last needs ss in
        let saved = saving w hss names held (record needs { after = between }) s in
        let saved_others = saving_all w hss behind last needs ss in
        let are_others : drop (results_in s) flags ≡ saved_others ++ rest = flags_behind (results_in s) flags saved (saved_others ++ rest)
        (saved_in w.data_offsets hss names held between needs.out needs.again s) (are ∙ append_assoc saved saved_others rest) in
        statements_do x ns oss hss behind low last needs (drop (results_in s) flags) rest (next + labels_in s) out again ss whole are_others around has.1 fine.1
        b.1
