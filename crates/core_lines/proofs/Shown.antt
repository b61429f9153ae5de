-- Which temporaries' slots show their words before statements, and which results are saved, by what is loaded behind them.
use Rattle.std.specs.Prelude.{length}
use Rattle.std.proofs.Common.{◌≡◌, ℕ, ◌<◌, Bool, true, List, [], ◌∷◌, sym, subst, ◌∙◌}
use Rattle.core_meaning.specs.Core.{Statement, If, While, Statements}
use Rattle.core_lines.specs.Held.{Holding, raises_only, held_behind_all}
use Rattle.core_lines.specs.Loaded.{unknown_in, loads_in, loads_of}
use Rattle.core_lines.specs.Saved.{all_flagged, either_flagged, either_way, live_in, live_of, behind_test, saves_in, saves_of}
use Rattle.core_lines.specs.Selected.{names_after_all}
use Rattle.core_meaning.specs.Selectable.{AreBelow}
use Rattle.core_lines.proofs.memory.Relations.{World, Waiting, Covers, keeping, AreFlagged}
use Rattle.core_lines.proofs.Flags.{length_all, length_either, length_way, more_flagged, all_are_flagged, covers_then, way_first, way_second}
use Rattle.core_lines.proofs.Live.{length_of, raising_of}
use Rattle.core_lines.proofs.Loads.{one_below}
use Rattle.core_lines.proofs.Ways.{Needs}
use Rattle.core_lines.proofs.operations.Registers.{IsServed, served_one}

-- flags of as many temporaries as there are
pub record AreWhole (most : ℕ) (needs : Needs) : Type 0 where
  pub after : length needs.after ≡ most
  pub out : length needs.out ≡ most
  pub again : length needs.again ≡ most

module _ (w : World) (hss : List (List ℕ)) (names : List ℕ) (held : List Holding) (needs : Needs) where
  -- before a statement, or several
  abbrev pub showing : Statement → List Bool
  showing s = live_in hss w.data_offsets names held needs.after needs.out needs.again s

  abbrev pub showing_all : Statements → List Bool
  showing_all ss = live_of hss w.data_offsets names held needs.after needs.out needs.again ss

  -- which results are saved
  abbrev pub saving : Statement → List Bool
  saving s = saves_in hss w.data_offsets names held needs.after needs.out needs.again s

  abbrev pub saving_all : Statements → List Bool
  saving_all ss = saves_of hss w.data_offsets names held needs.after needs.out needs.again ss

  pub whole_all : (most : ℕ) → AreWhole most needs → (ss : Statements) → length (showing_all ss) ≡ most
  whole_all most whole ss =
      length_of w.data_offsets hss names held needs.after needs.out needs.again ss (whole.out ∙ sym whole.after) (whole.again ∙ sym whole.after) ∙ whole.after

-- what is loaded shows
pub loads_show : (most : ℕ) (ts : List ℕ) (flags : List Bool) → length flags ≡ most → AreBelow most ts → AreFlagged (all_flagged true ts flags) ts
loads_show most ts flags whole below = all_are_flagged ts flags (subst (λ n. AreBelow n ts) (sym whole) below)

-- ---- a choice: what either way loads shows

module _ (w : World) (x : Waiting) (hss : List (List ℕ)) (names : List ℕ) (held : List Holding) (needs : Needs) (t : ℕ) (these those : Statements)
    (whole : AreWhole x.fn.temporaries needs) where
  abbrev behind : List ℕ
  behind = names_after_all these names

  abbrev one : List Bool
  one = showing_all w hss names held needs these

  abbrev other : List Bool
  other = showing_all w hss behind held needs those

  abbrev others : List ℕ
  others = loads_of hss w.data_offsets behind held those

  abbrev ways : List Bool
  ways = either_way (raises_only those) others one other

  abbrev tests : List ℕ
  tests = unknown_in held (t ∷ [])

  whole_one : length one ≡ x.fn.temporaries
  whole_one = whole_all w hss names held needs x.fn.temporaries whole these

  whole_other : length other ≡ x.fn.temporaries
  whole_other = whole_all w hss behind held needs x.fn.temporaries whole those

  pub first_way : Covers (showing w hss names held needs (If t these those)) one
  first_way = covers_then (all_flagged true tests ways) ways one (more_flagged tests ways) (way_first (raises_only those) others one other)

  pub second_way : AreBelow x.fn.temporaries others → Covers (showing w hss names held needs (If t these those)) other
  second_way below = covers_then (all_flagged true tests ways) ways other (more_flagged tests ways) (way_second (raises_only those) others one other
      (λ only. raising_of w.data_offsets (all_flagged true others one) hss behind held needs.after needs.out needs.again those only
      (loads_show x.fn.temporaries others one whole_one below)))

  -- and what it tests
  pub choice_served : t < x.fn.temporaries → IsServed w (keeping (showing w hss names held needs (If t these those)) x) held t
  choice_served named = served_one w (keeping (showing w hss names held needs (If t these those)) x) held t
      (loads_show x.fn.temporaries tests ways
      (length_way (raises_only those) others one other (whole_one ∙ sym whole_other) ∙ whole_other) (one_below x.fn.temporaries held t named))

-- ---- a loop

module _ (w : World) (x : Waiting) (hss : List (List ℕ)) (names : List ℕ) (needs : Needs) (ts : Statements) (t : ℕ) (body : Statements)
    (whole : AreWhole x.fn.temporaries needs) where
  abbrev loads : List ℕ
  loads = loads_in hss w.data_offsets names [] (While ts t body)

  -- where it begins, and at its choice
  abbrev pub at_start : List Bool
  at_start = showing w hss names [] needs (While ts t body)

  abbrev pub at_choice : List Bool
  at_choice = behind_test hss w.data_offsets names needs.after at_start ts t body

  -- what its test and its body need
  abbrev pub of_test : Needs
  of_test = record needs { after = at_choice }

  abbrev pub of_body : Needs
  of_body = record { after = at_start; out = needs.after; again = at_start }

  abbrev in_body : List Bool
  in_body = showing_all w hss (names_after_all ts names) [] of_body body

  abbrev anywhere : List Bool
  anywhere = either_flagged needs.after (either_flagged needs.out needs.again)

  whole_anywhere : length anywhere ≡ x.fn.temporaries
  whole_anywhere =
      let whole_others = length_either needs.out needs.again (whole.out ∙ sym whole.again) ∙ whole.again in
      length_either needs.after (either_flagged needs.out needs.again) (whole.after ∙ sym whole_others) ∙ whole_others

  pub whole_body : AreWhole x.fn.temporaries of_body
  whole_body =
      let whole_start = length_all true loads anywhere ∙ whole_anywhere in
      record { after = whole_start; out = whole.after; again = whole_start }

  whole_ways : length (either_flagged needs.after in_body) ≡ x.fn.temporaries
  whole_ways =
      let as_body = whole_all w hss (names_after_all ts names) [] of_body x.fn.temporaries whole_body body in
      length_either needs.after in_body (whole.after ∙ sym as_body) ∙ as_body

  pub whole_test : AreWhole x.fn.temporaries of_test
  whole_test = record {
    after = length_all true (unknown_in (held_behind_all hss w.data_offsets [] ts) (t ∷ [])) (either_flagged needs.after in_body) ∙ whole_ways;
    out = whole.out;
    again = whole.again;
  }

  -- all that it loads shows where it begins, and what it tests
  pub loop_shows : AreBelow x.fn.temporaries loads → AreFlagged at_start loads
  loop_shows below = loads_show x.fn.temporaries loads anywhere whole_anywhere below

  pub loop_served : t < x.fn.temporaries → IsServed w (keeping at_choice x) (held_behind_all hss w.data_offsets [] ts) t
  loop_served named =
      let held = held_behind_all hss w.data_offsets [] ts in
      served_one w (keeping at_choice x) held t
      (loads_show x.fn.temporaries (unknown_in held (t ∷ [])) (either_flagged needs.after in_body) whole_ways (one_below x.fn.temporaries held t named))
