use Rattle.std.proofs.Common.{◌≡◌, ◌∙◌, ℕ, List, Option, None, Some, ap, subst, sym}
use Rattle.source_meaning.specs.Programs.{functions_of}
use Rattle.stack_needs.specs.Graph.{IsAnswer, IsNeed, known, rows_of}
use Rattle.stack_needs.specs.Numbers.{calls_among}
use Rattle.stack_needs.proofs.Loops.{none_reached}
use Rattle.cyc_tree.specs.View.{program_tree}
use Rattle.stack_needs.proofs.Main.{are_numbered, are_rows, main_below, main_found}
use Rattle.stack_needs.proofs.need.recursion_of.Goals as goal

pub needs_of-requires-clause-numbered : goal.needs_of-requires-clause-numbered
needs_of-requires-clause-numbered c =
    let p = program_tree c.args.items.now in
    are_numbered p c.as_slice-2.result.now
    (are_rows p _ c.in_ok-functions.ensures c.in_ok-calls.calls.items c.as_slice-2.result.now c.as_slice-2.ensures.value c.in_ok-calls.ensures)

pub recursion_from-requires-clause-numbered : goal.recursion_from-requires-clause-numbered
recursion_from-requires-clause-numbered c =
    let p = program_tree c.args.items.now in
    let slice = c.as_slice-in-None-known in
    are_numbered p slice.result.now
    (are_rows p _ c.in_ok-functions.ensures c.in_ok-calls.calls.items slice.result.now slice.ensures.value c.in_ok-calls.ensures)

pub recursion_from-requires-clause-below : goal.recursion_from-requires-clause-below
recursion_from-requires-clause-below c =
    let p = program_tree c.args.items.now in
    let slice = c.as_slice-in-None-known in
    main_below p slice.result.now
    (are_rows p _ c.in_ok-functions.ensures c.in_ok-calls.calls.items slice.result.now slice.ensures.value c.in_ok-calls.ensures) c.in-Some.main
    (main_found p _ c.in_ok-functions.ensures c.number.result (Some c.in-Some.main) c.number.ensures c.in-Some.is)

pub returns-in-None : goal.returns-in-None
returns-in-None c = record {
  found = tt;
  none = λ path again is.
      let no = main_found (program_tree c.args.items.now) _ c.in_ok-functions.ensures c.number.result None c.number.ensures c.in-None.is in
      let found = is.found in absurd (cc);
}

pub returns-in-Some-known : goal.returns-in-Some-known
returns-in-Some-known c =
    let p = program_tree c.args.items.now in
    let fs = functions_of p in
    let main = c.in-Some.main in
    let calls = c.as_slice-2.result.now in
    let rows : rows_of calls ≡ calls_among fs fs =
    are_rows p _ c.in_ok-functions.ensures c.in_ok-calls.calls.items calls c.as_slice-2.ensures.value c.in_ok-calls.ensures in
    let number = main_found p _ c.in_ok-functions.ensures c.number.result (Some main) c.number.ensures c.in-Some.is in
    let is_known : known c.in_ok-needs.needs.items main ≡ Some c.in-Some-known.field-0 =
    sym (c.known.ensures ∙ ap (λ ns. known ns main) c.as_slice-3.ensures.value) ∙ c.in-Some-known.is in
    let answer = subst (λ (o : Option ℕ). IsAnswer c.as_slice.result.now (rows_of calls) main o) is_known
    (c.in_ok-needs.ensures.right main (main_below p calls rows main number)) in
    let need : IsNeed c.as_slice.result.now (calls_among fs fs) main c.in-Some-known.field-0 =
    subst (λ (rs : List (List ℕ)). IsNeed c.as_slice.result.now rs main c.in-Some-known.field-0) rows answer in
    record { found = tt; none = none_reached p c.as_slice.result.now main c.in-Some-known.field-0 number need }
