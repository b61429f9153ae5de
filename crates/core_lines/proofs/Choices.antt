-- A choice, a loop, and what a `Break` ends, from where their parts stand.
use Rattle.std.specs.Prelude.{◌||◌, if◌then◌else◌}
use Rattle.std.proofs.Common.{◌≡◌, ℕ, Bool, true, false, ◌+◌, ◌<◌, List, [], ◌∷◌, ◌++◌, refl, sym, ap, subst, ◌∙◌, arith, append-nil}
use Rattle.std.proofs.lemmas.Bool.{or_left, or_right}
use Rattle.core_meaning.specs.Core.{If, While, Leave, Statements, NoStatements, MoreStatements}
use Rattle.core_meaning.specs.Meaning as core
use Rattle.core_meaning.specs.Steps.{Config, Step, Falls}
use Rattle.core_lines.specs.declared.line.Line.{Line}
use Rattle.core_lines.specs.declared.line.Line.TheVariants.{Label, Jump}
use Rattle.core_lines.specs.Lines.{code_length}
use Rattle.core_lines.specs.Held.{Holding, raises_only}
use Rattle.core_lines.specs.Choosing.{choice_code, jump_code, between_code, behind_code}
use Rattle.core_lines.specs.Completing.{can_complete_all}
use Rattle.core_lines.proofs.Completing.{raises_never_all}
use Rattle.core_lines.proofs.memory.Relations.{World, IsInOrder, Has, Waiting, Covers, keeping}
use Rattle.core_lines.proofs.memory.Access.{behind, length_of_both}
use Rattle.core_lines.proofs.frames.Passing.{has_first, has_second}
use Rattle.core_lines.proofs.frames.Going.{from_same, GoesHolding, goes_any, goes_fewer}
use Rattle.core_lines.proofs.Ways.{Needs, Jumps, Does, does_less, does_ends}
use Rattle.core_lines.proofs.Forms.{same_holding, jump_goes, choice_goes, loop_goes}
use Rattle.core_lines.proofs.Tests.{tests_and_jumps}
use Rattle.core_lines.proofs.operations.Registers.{IsServed}

module _ (w : World) (order : IsInOrder w) (x : Waiting) (outer : List Waiting) (most : ℕ) where
  abbrev pub test : List Holding → ℕ → ℕ → List Line
  test = choice_code w.wide x.fn.passed

  abbrev pub jumps : (kept : List Bool) → Jumps w (keeping kept x) outer test
  jumps = tests_and_jumps w order x outer

  goes_to_same : (kept : List Bool) (fuel a b : ℕ) (held : List Holding) (next : Config → Step) → a ≡ b
      → GoesHolding w (keeping kept x) outer fuel a held next → GoesHolding w (keeping kept x) outer fuel b held next
  goes_to_same = same_holding w order x outer most test jumps

  -- a jump over code, where code is reached
  over_goes : (kept : List Bool) (fuel : ℕ) (held : List Holding) (label place : ℕ) (next : Config → Step) (reached : Bool)
      → Has w place (jump_code reached label) → GoesHolding w (keeping kept x) outer fuel (w.places label) held next → reached ≡ true
      → GoesHolding w (keeping kept x) outer fuel place held next
  over_goes kept fuel held label place next true has goes is = jump_goes w order x outer most test jumps kept fuel held label place next has goes
  over_goes kept fuel held label place next false has goes is = absurd (cc is)

  -- a choice with a second way
  choice_does : (completes other_completes : Bool) (held last : List Holding) (start : List Bool) (needs : Needs) (t next behind_label out again : ℕ)
      (these those : Statements) (second fourth : List Line) → t < x.fn.temporaries → IsServed w (keeping start x) held t
      → Does w x outer most completes held last start needs second out again (core.statements these)
      → Does w x outer most other_completes held last start needs fourth out again (core.statements those)
      → Does w x outer most (completes || other_completes) held last start needs
      (test held t next ++ second ++ (jump_code completes behind_label ++ (Label next ∷ [])) ++ fourth ++ (Label behind_label ∷ [])) out again
      (core.statement (If t these those))
  choice_does completes other_completes held last start needs t next behind_label out again these those second fourth named served one other = record {
    goes = λ place fuel le k aligned has ways.
        let first = test held t next in
        let over = jump_code completes behind_label in
        let next_label : List Line = Label next ∷ [] in
        let third = over ++ next_label in
        let end_label : List Line = Label behind_label ∷ [] in
        let two = first ++ second in
        let three = two ++ third in
        let four = three ++ fourth in
        let has4 = has_first w place four end_label has in
        let has3 = has_first w place three fourth has4 in
        let has2 = has_first w place two third has3 in
        let has1 = has_first w place first second has2 in
        let at_second = has_second w place first second has2 in
        let at_third = has_second w place two third has3 in
        let at_over = has_first w (place + code_length two) over next_label at_third in
        let at_next = has_second w (place + code_length two) over next_label at_third in
        let at_fourth = has_second w place three fourth has4 in
        let at_last = has_second w place four end_label has in
        let next_there : w.places next ≡ place + code_length three =
        at_next.1 ∙ omega (arith, length_of_both two third, length_of_both over next_label) in
        let end : w.places behind_label ≡ place + code_length (four ++ end_label) = at_last.1 ∙ omega (arith, length_of_both four end_label) in
        let end' : w.places behind_label ≡ place + code_length three + code_length fourth = at_last.1 ∙ omega (arith, length_of_both three fourth) in
        let falls : (completes || other_completes) ≡ true → GoesHolding w (keeping needs.after x) outer fuel (w.places behind_label) last (k Falls) =
        λ reached. goes_to_same needs.after fuel (place + code_length (four ++ end_label)) (w.places behind_label) last (k Falls) (sym end)
        (ways.falls reached) in
        let e : place + code_length two ≡ place + code_length first + code_length second = omega (arith, length_of_both first second) in
        choice_goes w order x outer most test jumps start fuel held t next place (core.statements these k) (core.statements those k) named served has1
        (one.goes (place + code_length first) fuel le k (behind place first aligned) at_second (record {
          falls = λ reached. goes_to_same needs.after fuel (place + code_length two) (place + code_length first + code_length second) last (k Falls) e
              (over_goes needs.after fuel last behind_label (place + code_length two) (k Falls) completes at_over
              (falls (or_left completes other_completes reached)) reached);
          breaks = ways.breaks;
          continues = ways.continues;
          returns = ways.returns;
        }))
        (goes_to_same start fuel (place + code_length three) (w.places next) held (core.statements those k) (sym next_there)
        (other.goes (place + code_length three) fuel le k (behind place three aligned) at_fourth (record {
          falls = λ reached. goes_to_same needs.after fuel (w.places behind_label) (place + code_length three + code_length fourth) last (k Falls) end'
              (falls (or_right completes other_completes reached));
          breaks = ways.breaks;
          continues = ways.continues;
          returns = ways.returns;
        })));
  }

  -- one without: what is behind it goes on from the label of the second way
  choice_alone_does : (completes : Bool) (held : List Holding) (start : List Bool) (needs : Needs) (t next out again : ℕ) (these : Statements)
      (second : List Line) → t < x.fn.temporaries → IsServed w (keeping start x) held t → Covers start needs.after
      → Does w x outer most completes held [] start needs second out again (core.statements these)
      → Does w x outer most (completes || true) held [] start needs (test held t next ++ second ++ (Label next ∷ [])) out again
      (core.statement (If t these NoStatements))
  choice_alone_does completes held start needs t next out again these second named served covers one = record {
    goes = λ place fuel le k aligned has ways.
        let first = test held t next in
        let two = first ++ second in
        let last : List Line = Label next ∷ [] in
        let has2 = has_first w place two last has in
        let at_last = has_second w place two last has in
        let end : w.places next ≡ place + code_length (two ++ last) = at_last.1 ∙ omega (arith, length_of_both two last) in
        let e : place + code_length (two ++ last) ≡ place + code_length first + code_length second =
        omega (arith, length_of_both two last, length_of_both first second) in
        let falls = ways.falls (or_right completes true refl) in
        choice_goes w order x outer most test jumps start fuel held t next place (core.statements these k) (core.statements NoStatements k) named served
        (has_first w place first second has2)
        (one.goes (place + code_length first) fuel le k (behind place first aligned) (has_second w place first second has2) (record {
          falls = λ reached. goes_to_same needs.after fuel (place + code_length (two ++ last)) (place + code_length first + code_length second) [] (k Falls) e
              falls;
          breaks = ways.breaks;
          continues = ways.continues;
          returns = ways.returns;
        }))
        (goes_fewer w x outer fuel (w.places next) held (k Falls) start needs.after covers
        (goes_any w (keeping needs.after x) outer fuel (w.places next) held (k Falls)
        (goes_to_same needs.after fuel (place + code_length (two ++ last)) (w.places next) [] (k Falls) (sym end) falls)));
  }

  -- behind it what the first way leaves is known, where the second way only raises an exception
  choice_either : (completes other_completes : Bool) (held first_last second_last : List Holding) (start : List Bool) (needs : Needs)
      (t next behind_label out again : ℕ) (these those : Statements) (second fourth : List Line) → t < x.fn.temporaries → IsServed w (keeping start x) held t
      → Does w x outer most completes held first_last start needs second out again (core.statements these)
      → Does w x outer most other_completes held second_last start needs fourth out again (core.statements those)
      → (only : Bool) → (only ≡ true → other_completes ≡ false)
      → Does w x outer most (completes || other_completes) held (if only then first_last else []) start needs
      (test held t next ++ second ++ (jump_code completes behind_label ++ (Label next ∷ [])) ++ fourth ++ (Label behind_label ∷ [])) out again
      (core.statement (If t these those))
  choice_either completes other_completes held first_last second_last start needs t next behind_label out again these those second fourth named served one
      other true never =
      choice_does completes other_completes held first_last start needs t next behind_label out again these those second fourth named served one
      (does_ends w x outer most other_completes held second_last first_last start needs fourth out again (core.statements those) (never refl) other)
  choice_either completes other_completes held first_last second_last start needs t next behind_label out again these those second fourth named served one
      other false never =
      choice_does completes other_completes held [] start needs t next behind_label out again these those second fourth named served
      (does_less w x outer most completes held first_last start needs second out again (core.statements these) one)
      (does_less w x outer most other_completes held second_last start needs fourth out again (core.statements those) other)

  -- with a second way or without
  pub either_does : (completes : Bool) (held first_last second_last : List Holding) (start : List Bool) (needs : Needs)
      (t next behind_label out again : ℕ) (these those : Statements) (second fourth : List Line) → t < x.fn.temporaries → IsServed w (keeping start x) held t
      → Does w x outer most completes held first_last start needs second out again (core.statements these)
      → Does w x outer most (can_complete_all those) held second_last start needs fourth out again (core.statements those)
      → (those ≡ NoStatements → (fourth ≡ []) × Covers start needs.after)
      → Does w x outer most (completes || can_complete_all those) held (if raises_only those then first_last else []) start needs
      (test held t next ++ second ++ between_code completes those behind_label next ++ fourth ++ behind_code those behind_label) out again
      (core.statement (If t these those))
  either_does completes held first_last second_last start needs t next behind_label out again these NoStatements second fourth named served one other none =
      let three = test held t next ++ second ++ (Label next ∷ []) in
      let same : three ++ fourth ++ [] ≡ three =
      append-nil (three ++ fourth) ∙ ap (λ lines. three ++ lines) (none refl).0 ∙ append-nil three in
      subst (λ lines. Does w x outer most (completes || true) held [] start needs lines out again (core.statement (If t these NoStatements))) (sym same)
      (choice_alone_does completes held start needs t next out again these second named served (none refl).1
      (does_less w x outer most completes held first_last start needs second out again (core.statements these) one))
  either_does completes held first_last second_last start needs t next behind_label out again these (MoreStatements s ss) second fourth named served one
      other none =
      choice_either completes (can_complete_all (MoreStatements s ss)) held first_last second_last start needs t next behind_label out again these
      (MoreStatements s ss) second fourth named served one other (raises_only (MoreStatements s ss)) (raises_never_all (MoreStatements s ss))

  pub leave_does : (completes : Bool) (held last : List Holding) (start : List Bool) (needs : Needs) (next out again : ℕ) (body : Statements)
      (first : List Line)
      → Does w x outer most completes held last start (record needs { out = needs.after }) first next again (core.statements body)
      → Does w x outer most true held [] start needs (first ++ (Label next ∷ [])) out again (core.statement (Leave body))
  leave_does completes held last start needs next out again body first one = record {
    goes = λ place fuel le k aligned has ways.
        let second : List Line = Label next ∷ [] in
        let y = keeping needs.after x in
        let at_second = has_second w place first second has in
        let end : w.places next ≡ place + code_length (first ++ second) = at_second.1 ∙ omega (arith, length_of_both first second) in
        let end' : place + code_length (first ++ second) ≡ place + code_length first = omega (arith, length_of_both first second) in
        one.goes place fuel le (λ exit. core.left_by exit k) aligned (has_first w place first second has) (record {
          falls = λ reached. goes_any w y outer fuel (place + code_length first) last (k Falls)
              (from_same w y outer fuel (place + code_length (first ++ second)) (place + code_length first) (k Falls) end' (ways.falls refl));
          breaks = from_same w y outer fuel (place + code_length (first ++ second)) (w.places next) (k Falls) (sym end) (ways.falls refl);
          continues = ways.continues;
          returns = ways.returns;
        });
  }

  pub loop_does : (test_completes body_completes : Bool) (held last_held : List Holding) (needs : Needs) (head between : List Bool)
      (t next behind_label out again : ℕ) (ts body : Statements) (second fourth : List Line) → t < x.fn.temporaries → IsServed w (keeping between x) held t
      → Covers between needs.after
      → Does w x outer most test_completes [] held head (record needs { after = between }) second out again (core.statements ts)
      → Does w x outer most body_completes [] last_held between (record { after = head; out = needs.after; again = head }) fourth behind_label next
      (core.statements body)
      → Does w x outer most true [] [] head needs
      ((Label next ∷ []) ++ second ++ test held t behind_label ++ fourth ++ (Jump next ∷ Label behind_label ∷ [])) out again
      (core.statement (While ts t body))
  loop_does test_completes body_completes held last_held needs head between t next behind_label out again ts body second fourth named
      served to_end one other = record {
        goes = λ place fuel le k aligned has ways.
            let first : List Line = Label next ∷ [] in
            let third = test held t behind_label in
            let last : List Line = Jump next ∷ Label behind_label ∷ [] in
            let two = first ++ second in
            let three = two ++ third in
            let four = three ++ fourth in
            let has4 = has_first w place four last has in
            let has3 = has_first w place three fourth has4 in
            let has2 = has_first w place two third has3 in
            let at_second = has_second w place first second has2 in
            let at_third = has_second w place two third has3 in
            let at_fourth = has_second w place three fourth has4 in
            let at_last = has_second w place four last has in
            let start : place + 0 ≡ place = omega arith in
            let e : place + code_length three + code_length fourth ≡ place + code_length four = omega (arith, length_of_both three fourth) in
            loop_goes w order x outer most test jumps place (place + code_length two) (place + code_length three) (place + code_length (four ++ last))
            next behind_label out again aligned ts t body second fourth held last_held needs head between k has2.1
            (subst (λ p. Has w p second) start at_second) (omega (arith, length_of_both first second)) named served at_third
            (omega (arith, length_of_both two third)) at_fourth (behind place three aligned)
            (subst (λ p. Has w p (Jump next ∷ [])) (sym e) (at_last.0, at_last.1, tt))
            (at_last.2.1 ∙ omega (arith, length_of_both four last)) to_end test_completes body_completes one other fuel le ways;
      }
