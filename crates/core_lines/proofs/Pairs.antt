-- An operation whose result goes straight into the home of a local, and the statement that puts it there: their code is one, and does as both mean.
use Rattle.std.specs.Prelude.{slice_get, nat_eq, ◌&&◌, if◌then◌else◌}
use Rattle.std.proofs.Common.{◌≡◌, ℕ, suc, ◌+◌, ◌<◌, Bool, true, false, List, [], ◌∷◌, ◌++◌, Some, None, refl, sym, ap, subst, ◌∙◌, arith, append_assoc}
use Rattle.std.proofs.lemmas.Bool.{eq-eqb}
use Rattle.core_meaning.specs.Memory.{Content, Word, with_part}
use Rattle.core_meaning.specs.Core.{Binary, Apply, Put, Statement, Do, Statements, NoStatements, MoreStatements}
use Rattle.core_meaning.specs.Meaning as core
use Rattle.core_meaning.specs.Words.{two}
use Rattle.core_meaning.specs.Steps.{Config, Step, Falls, with_temp, with_memory, word_of}
use Rattle.core_meaning.specs.Operations.{does, reached, local_spot, at_once, low_byte, fitting}
use Rattle.core_meaning.specs.Selectable.{HaveLinesIn}
use Rattle.core_lines.specs.declared.line.Line.{Line}
use Rattle.core_lines.specs.Lines.{code_length}
use Rattle.core_lines.specs.Machines.{Machine}
use Rattle.core_lines.specs.Held.{Holding, nth, nth_block, source_of, same_as, with_result, with_applied, with_put, held_behind, held_behind_all}
use Rattle.core_lines.specs.Completing.{can_complete, can_complete_all}
use Rattle.core_lines.specs.Homes.{is_home, flag_at}
use Rattle.core_lines.specs.Loaded.{unknown_in}
use Rattle.core_lines.specs.Saved.{all_flagged}
use Rattle.core_lines.specs.Straight.{is_arithmetic, straight_operation, straight_code}
use Rattle.core_lines.specs.Selected.{Surroundings, names_after}
use Rattle.core_lines.proofs.memory.Relations.{Inside, as_home, home_of, Follows, AreKept, keeping, World, IsInOrder, Has, Waiting, Goes, active_of}
use Rattle.core_lines.proofs.memory.Moving.{comes_then, comes_as, goes_from}
use Rattle.core_lines.proofs.memory.Access.{length_of_both, behind}
use Rattle.core_lines.proofs.frames.Passing.{has_first, has_second}
use Rattle.core_lines.proofs.frames.Going.{with_config, GoesHolding, goes_fewer}
use Rattle.core_lines.proofs.operations.Registers.{AtHolding, served_two}
use Rattle.core_lines.proofs.homes.Nests.{BlocksAre}
use Rattle.core_lines.proofs.homes.HomeResults.{straight}
use Rattle.core_lines.proofs.operations.Needing.{word_goes, block_goes, reached_goes}
use Rattle.core_lines.proofs.operations.PartOperations.{surrounding, scoped, with_memory_holding, local_home_is}
use Rattle.core_lines.proofs.Flags.{length_all, more_flagged, follows_flags}
use Rattle.core_lines.proofs.Live.{few_results}
use Rattle.core_lines.proofs.Loads.{operation_below}
use Rattle.core_lines.proofs.Ways.{Needs, Does}
use Rattle.core_lines.proofs.Shown.{AreWhole, showing_all, saving, saving_all, whole_all, loads_show}
use Rattle.core_lines.proofs.Forms.{same_holding}
use Rattle.core_lines.proofs.Choices.{test, jumps}
use Rattle.core_lines.proofs.Straight.{GoesStraight, compares_none, numbers_none}

-- what is known behind both
abbrev pub behind_both : ℕ → ℕ → List Holding → List Holding
behind_both t home held = with_put false t home (with_result t held)

module _ (w : World) (order : IsInOrder w) (x : Waiting) (outer : List Waiting) (ns : List ℕ) (oss hss : List (List ℕ)) (names : List ℕ) (low : ℕ)
    (held : List Holding) (are : BlocksAre ns x.nest oss hss) (inside : x.phase ≡ Inside)
    (are_homes : (out local r : ℕ) → home_of (nth_block hss out) local ≡ Some r → is_home r ≡ true) (fuel place : ℕ) (next : Config → Step) where
  abbrev u : Surroundings
  u = surrounding w x oss hss names low held

  abbrev At_first : Config → Machine → Type 0
  At_first c = AtHolding w (with_config x c) outer c.memory place held

  abbrev active : List (List ℕ)
  active = active_of w (x ∷ outer)

  pub pair_goes : (keeps : Bool) (after : List Bool) (o : Binary) (t y z out local width r : ℕ) → is_arithmetic o ≡ true → nat_eq width 1 ≡ false
      → nth (nth_block hss out) local ≡ suc r → t < x.fn.temporaries → y < x.fn.temporaries → z < x.fn.temporaries
      → AreKept w x (unknown_in held (y ∷ z ∷ [])) → Follows keeps (t ∷ []) x.kept after
      → Has w place (straight_operation keeps u (suc r) (Apply o t y z))
      → GoesHolding w (keeping after x) outer fuel (place + code_length (straight_operation keeps u (suc r) (Apply o t y z))) (behind_both t (suc r) held) next
      → GoesHolding w x outer fuel place held (does (Apply o t y z) (does (Put out local width t) next))
  pair_goes keeps after o t y z out local width r computes whole there named named' named'' kept follows has ends c is =
      let served = served_two w x held y z kept in
      let home = ap as_home there in
      let end = place + code_length (straight_operation keeps u (suc r) (Apply o t y z)) in
      let last = behind_both t (suc r) held in
      let put : Config → Step = does (Put out local width t) next in
      word_goes w (At_first c) active fuel (c.temps y) (λ a. word_of (c.temps z) (λ b. put (with_temp t (Word (two o a b)) c))) (λ a e.
      word_goes w (At_first c) active fuel (c.temps z) (λ b. put (with_temp t (Word (two o a b)) c)) (λ b e'.
      let v = Word (two o a b) in
      let d = with_temp t v c in
      let given = fitting width (d.temps t) in
      block_goes w (At_first c) active fuel (slice_get c.blocks out) (λ k. reached c.memory (at_once width) (local_spot k local) 0 (λ spot part.
      next (with_memory (with_part c.memory spot 0 (record part { content = given })) d))) (λ k block.
      reached_goes w (At_first c) active fuel c.memory (at_once width) (local_spot k local) 0
      (λ spot part. next (with_memory (with_part c.memory spot 0 (record part { content = given })) d)) (λ part found live offset wide.
      let value : given ≡ v = ap (λ byte. if byte then low_byte (d.temps t) else d.temps t) whole ∙ ap (λ q. if q then v else c.temps t) (eq-eqb t t refl) in
      let m = with_part c.memory (local_spot k local) 0 (record part { content = v }) in
      let y' = keeping after x in
      subst (λ (content : Content). Goes w fuel (next (with_memory (with_part c.memory (local_spot k local) 0 (record part { content = content })) d))
      (At_first c) active) (sym value)
      (goes_from w (At_first c) active fuel (next (with_memory m d)) (AtHolding w (with_config y' (with_memory m d)) outer m end last)
      (comes_then w _ (AtHolding w (with_config y' d) outer m end last) _
      (straight w order (with_config x c) outer c.memory held k local r (are_homes out local (suc r) home) part found
      (local_home_is w order x outer held fuel place next ns oss hss are names low inside are_homes c out local k (suc r) home block)
      keeps after t named follows u o computes y z a b place named' named'' served.0 served.1 e e' has)
      (comes_as w (AtHolding w (with_config y' d) outer m end last) (AtHolding w (with_config y' (with_memory m d)) outer m end last)
      (with_memory_holding w y' outer d m end last)))
      (ends (with_memory m d) (record { blocks = is.blocks; own = is.own })))))))

-- ---- statements

module _ (w : World) (order : IsInOrder w) (x : Waiting) (outer : List Waiting) (most : ℕ) (ns : List ℕ) (oss hss : List (List ℕ)) (low : ℕ) where
  -- the statements behind the first of some do as they mean, by these lines
  abbrev pub BehindDo : (names : List ℕ) (held : List Holding) (needs : Needs) (lines : List Line) (out again : ℕ) → Statements → Type 0
  BehindDo names held needs lines out again NoStatements = Unit {0}
  BehindDo names held needs lines out again (MoreStatements s ss) = let last = held_behind hss w.data_offsets held s in
      Does w x outer most (can_complete_all ss) last (held_behind_all hss w.data_offsets last ss) (showing_all w hss (names_after s names) last needs ss) needs
      lines out again (core.statements ss)

  module _ (are : BlocksAre ns x.nest oss hss) (inside : x.phase ≡ Inside)
      (are_homes : (out local r : ℕ) → home_of (nth_block hss out) local ≡ Some r → is_home r ≡ true) (names : List ℕ) (held : List Holding) (needs : Needs)
      (flags rest : List Bool) (second : List Line) (out again : ℕ) (whole : AreWhole x.fn.temporaries needs) where
    abbrev place_here : Surroundings
    place_here = surrounding w x oss hss names low held

    abbrev Straight : ℕ → Statement → Statements → Type 0
    Straight home s ss = flags ≡ saving_all w hss names held needs (MoreStatements s ss) ++ rest → HaveLinesIn (scoped w x ns) (MoreStatements s ss)
        → BehindDo (names_after s names) (held_behind hss w.data_offsets held s) needs second out again ss
        → Does w x outer most (can_complete s && can_complete_all ss) held (held_behind_all hss w.data_offsets (held_behind hss w.data_offsets held s) ss)
        (showing_all w hss names held needs (MoreStatements s ss)) needs (straight_code (flag_at flags 0) place_here home s ++ second) out again
        (core.statements (MoreStatements s ss))

    of_form : (o : Binary) (t y z blocks local width r : ℕ) (others : Statements) → is_arithmetic o ≡ true
        → same_as o y z (source_of held y) (source_of held z) ≡ None → nat_eq width 1 ≡ false → nth (nth_block hss blocks) local ≡ suc r
        → Straight (suc r) (Do (Apply o t y z)) (MoreStatements (Do (Put blocks local width t)) others)
    of_form o t y z blocks local width r others computes moves_none word there flags_are has others_do =
        let operation = Apply o t y z in
        let put : Statement = Do (Put blocks local width t) in
        let keeps = flag_at flags 0 in
        let first = straight_operation keeps place_here (suc r) operation in
        let between_held = held_behind hss w.data_offsets held (Do operation) in
        let last = held_behind hss w.data_offsets between_held put in
        let between = showing_all w hss names between_held needs (MoreStatements put others) in
        let behind_put = showing_all w hss names last needs others in
        let start = showing_all w hss names held needs (MoreStatements (Do operation) (MoreStatements put others)) in
        let loads = unknown_in held (y ∷ z ∷ []) in
        let saved_others = saving_all w hss names between_held needs (MoreStatements put others) in
        let are_first = flags_are ∙ append_assoc (saving w hss names held (record needs { after = between }) (Do operation)) saved_others rest in
        let length_between = whole_all w hss names between_held needs x.fn.temporaries whole (MoreStatements put others) in
        let known : last ≡ behind_both t (suc r) held =
        (λ i. with_put (word i) t (there i)
        (with_applied t (moves_none i) (numbers_none o (source_of held y) (source_of held z) computes i)
        (compares_none o (source_of held y) (source_of held z) computes i) held)) in
        record {
          goes = λ place fuel le k aligned lines ways.
              let middle = place + code_length first in
              let end : place + code_length (first ++ second) ≡ middle + code_length second = omega (arith, length_of_both first second) in
              let tail : GoesHolding w (keeping behind_put x) outer fuel middle last (core.statements others k) =
              others_do.goes middle fuel le k (behind place first aligned) (has_second w place first second lines) (record {
                falls = λ both. same_holding w order x outer most (test w order x outer most) (jumps w order x outer most) needs.after fuel
                    (place + code_length (first ++ second)) (middle + code_length second) (held_behind_all hss w.data_offsets last others)
                    (k Falls) end (ways.falls both);
                breaks = ways.breaks;
                continues = ways.continues;
                returns = ways.returns;
              }) in
              pair_goes w order (keeping start x) outer ns oss hss names low held are inside are_homes fuel place (core.statements others k) keeps between o t y
              z blocks local width r computes word there has.0.0 has.0.1 has.0.2
              (loads_show x.fn.temporaries loads (all_flagged false (t ∷ []) between) (length_all false (t ∷ []) between ∙ length_between)
              (operation_below (scoped w x ns) held operation has.0))
              (follows_flags (t ∷ []) loads between flags (saved_others ++ rest) (few_results operation) are_first)
              (has_first w place first second lines)
              (goes_fewer w x outer fuel middle (behind_both t (suc r) held) (core.statements others k) between behind_put
              (more_flagged (unknown_in between_held (t ∷ [])) behind_put)
              (subst (λ hs. GoesHolding w (keeping behind_put x) outer fuel middle hs (core.statements others k)) known tail));
        }

    pub straight_does : (s : Statement) (ss : Statements) (h : ℕ) → GoesStraight hss held s ss (suc h) → Straight (suc h) s ss
    straight_does s ss h g =
        let operation = Apply g.o g.t g.x g.y in
        subst (λ s. Straight (suc h) s ss) (sym g.first_is) (subst (λ ss. Straight (suc h) (Do operation) ss) (sym g.next_is)
        (of_form g.o g.t g.x g.y g.out g.local g.width h g.others g.computes g.moves_none g.whole g.there))
