use Rattle.std.proofs.Common.{◌≡◌, ◌<◌, ◌∙◌, ℕ, sym, ap, subst, arith, length, List, Option, refl}
use Rattle.std.proofs.lemmas.List.{length-map}
use Rattle.cyc_tree.specs.View.{program_tree}
use Rattle.source_meaning.specs.Programs.{functions_of}
use Rattle.stack_needs.specs.Graph.{IsAnswer, known, rows_of}
use Rattle.stack_needs.specs.Numbers.{calls_among}
use Rattle.stack_needs.proofs.Standing.{as_many, each_needs, stack_is}
use Rattle.stack_needs.proofs.Main.{are_numbered, are_rows, main_is}
use Rattle.stack_needs.proofs.need.needs_by.Goals as goal

pub needs_of-requires : goal.needs_of-requires
needs_of-requires c =
    let p = program_tree c.args.items.now in
    let fs = functions_of p in
    let rows : rows_of c.deref.result.now ≡ calls_among fs fs =
    are_rows p _ c.in_ok-functions.ensures c.in_ok-calls.calls.items c.deref.result.now c.deref.ensures.value c.in_ok-calls.ensures in
    let long = length-map c.deref.result.now (λ r. r.items) in
    let same : length (rows_of c.deref.result.now) ≡ length (calls_among fs fs) = ap (λ rs. length rs) rows in
    let many = as_many fs fs in
    record { framed = omega (arith, c.requires); numbered = are_numbered p c.deref.result.now rows }

pub returns : goal.returns
returns c =
    let p = program_tree c.args.items.now in
    let fs = functions_of p in
    let listed = c.in_ok-calls.ensures in
    let rows : rows_of c.deref.result.now ≡ calls_among fs fs =
    are_rows p _ c.in_ok-functions.ensures c.in_ok-calls.calls.items c.deref.result.now c.deref.ensures.value listed in
    let long = length-map c.deref.result.now (λ r. r.items) in
    let same : length (rows_of c.deref.result.now) ≡ length (calls_among fs fs) = ap (λ rs. length rs) rows in
    let many = as_many fs fs in
    let number = main_is p _ c.in_ok-functions.ensures c.number-main.result c.number-main.ensures in
    let answers : (k : ℕ) → k < length fs → IsAnswer c.args.frames.now (calls_among fs fs) k (known c.in_ok-each.each.items k) =
    λ k low. subst (λ (rs : List (List ℕ)). IsAnswer c.args.frames.now rs k (known c.in_ok-each.each.items k)) rows
    (c.in_ok-each.ensures.right k (omega arith)) in
    record {
      main = number;
      calls = are_rows p _ c.in_ok-functions.ensures c.in_ok-calls.calls.items c.in_ok-calls.calls.items refl listed;
      each = each_needs p c.args.frames.now c.in_ok-each.each.items answers;
      stack = stack_is p c.args.frames.now c.in_ok-each.each.items c.number-main.result number answers;
    }
