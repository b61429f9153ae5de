use Rattle.std.proofs.Common.{◌≡◌, ◌≢◌, ◌∷◌, length, map, ap, ◌∙◌, sym, rules}
use Rattle.std.proofs.lemmas.List.{length-map}
use Rattle.cyc_core.specs.Trees.{function_tree, optional_tree, body_tree}
use Rattle.core_eval.specs.declared.frame.Frame.{Frame}
use Rattle.core_eval.specs.Values.{content_of}
use Rattle.core_eval.specs.Elements.{blank_object}
use Rattle.core_eval.specs.Blocks.{activation_of}
use Rattle.core_eval.specs.Pendings.{Go, Follow, Caller, waits_of}
use Rattle.core_eval.specs.Standing.{known_of}
use Rattle.core_eval.proofs.Calls.{call_enters, call_missing, call_unfit}
use Rattle.core_eval.proofs.CalledAs.{called_known, call_as}
use Rattle.core_eval.proofs.call.enter_call.Goals as goal

pub returns-in_default-clause-enters : goal.returns-in_default-clause-enters
returns-in_default-clause-enters c =
    let m = c.args.run.now.memory in
    call_missing c.args.run.now.functions.now (optional_tree c.args.call.to) c.args.call.function c.args.call.arguments.items (known_of c.args.run.now.frame m)
    (waits_of c.args.run.now.stack.items)
    c.in_default.ensures.none

pub returns-then-callee-len-clause-enters : goal.returns-then-callee-len-clause-enters
returns-then-callee-len-clause-enters c =
    let m = c.args.run.now.memory in
    let unfit : c.in-Some.callee.now.parameters ≢ length c.args.call.arguments.items = search rules in
    call_unfit c.args.run.now.functions.now (optional_tree c.args.call.to) c.args.call.function c.args.call.arguments.items (known_of c.args.run.now.frame m)
    (waits_of c.args.run.now.stack.items)
    c.in-Some.callee.now c.in-Some.ensures.some unfit

pub returns-clause-enters : goal.returns-clause-enters
returns-clause-enters c =
    let fits : c.in-Some.callee.now.parameters ≡ length c.args.call.arguments.items = search rules in
    let ws = waits_of c.args.run.now.stack.items in
    let f = c.args.run.now.frame in
    let m = c.args.run.now.memory in
    let m' = c.enter_call.new.self in
    let counted : c.len-2.result ≡ length m.blocks.items = search rules in
    let outside : c.len-2.result ≡ length (map activation_of m.blocks.items) = counted ∙ sym (length-map m.blocks.items activation_of) in
    call_as (map function_tree c.args.run.now.functions.now) (optional_tree c.args.call.to) c.args.call.function (map content_of c.args.call.arguments.items) ws
    (known_of f m) _ _ _ _ _ _
    (ap (λ b. Go (Follow (body_tree b))) c.deref-2.ensures.value)
    (c.in_ok-wait.ensures ∙ ap (λ w. w ∷ ws) c.in_ok-caller.ensures
    ∙ ap (λ (f : Frame). Caller (optional_tree c.args.call.to) c.args.call.function (record { temps = f.temps.items; base = f.base }) ∷ ws)
    c.replace-saved.ensures.value)
    (ap (λ f. known_of f m') c.replace-saved.ensures.after
    ∙ called_known f m m' c.in_ok-begun.begun c.args.call.arguments.items c.in-Some.callee.now.own.items c.in_ok-begun.ensures.temps
    (c.in_ok-begun.ensures.base ∙ outside)
    c.in_ok-enter_call.ensures.blocks c.in_ok-enter_call.ensures.entered
    (c.in_ok-enter_call.ensures.owns
    ∙ ap (λ os. record { number = m.called; objects = os } ∷ map activation_of m.owns.items)
    (c.in_ok-own.ensures ∙ ap (map blank_object) c.deref.ensures.value))
    c.in_ok-enter_call.ensures.called c.in_ok-enter_call.ensures.globals c.in_ok-enter_call.ensures.regions c.in_ok-enter_call.ensures.long_blocks)
    (call_enters c.args.run.now.functions.now (optional_tree c.args.call.to) c.args.call.function c.args.call.arguments.items
    (known_of f m) ws c.in-Some.callee.now c.in-Some.ensures.some fits)
