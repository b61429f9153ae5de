use Rattle.std.specs.Prelude.{IfOk, map, true}
use Rattle.std.proofs.Common.{◌≡◌, false, ap, refl, subst, ◌∙◌}
use Rattle.cyc_tree.specs.View.{function_tree, item_tree, items_of}
use Rattle.cyc_types.specs.declared.region.RegionId.TheVariants.{Level}
use Rattle.source_typing.specs.Faults.{earliest}
use Rattle.source_typing.specs.Functions.{function_scope, with_parameters}
use Rattle.source_typing.specs.Statements.{items_faults}
use Rattle.check_faults.specs.Faults.{faults_of}
use Rattle.check_declarations.specs.declared.context.Context.{Context}
use Rattle.check_heads.specs.Bodies.{code_names, types_of}
use Rattle.check_declarations.proofs.Bodies.{stands}
use Rattle.check_functions.proofs.body.body_fault.Goals as goal

pub returns : goal.returns
returns c g h known is =
    let head = c.args.head in
    let lenient = c.args.lenient in
    let i = c.args.item in
    let f = function_tree c.args.function.now in
    let d : Context = record { result = c.known_type.result; frame = Level c.count.result; item = i; in_loop = false; in_switch = false } in
    let begun =
    stands head f h is lenient g i c.in_ok-scope.scope c.in_ok-scope.ensures.alone d c.into_names-known.result
    (c.in_ok-scope.ensures.known g i f h known is) c.into_names-known.ensures c.known_type.ensures (ap Level c.count.ensures) refl refl refl in
    subst (λ b. IfOk c.inside_fault.result (λ found. faults_of found
    ≡ earliest (items_faults (with_parameters f.parameters h.signature.parameters (function_scope lenient g i h)) true (items_of (map item_tree b)))))
    c.deref.ensures.value
    (subst (λ ts. IfOk c.inside_fault.result (λ found. faults_of found
    ≡ earliest (items_faults (with_parameters f.parameters ts (function_scope lenient g i h)) true (items_of (map item_tree c.deref.result.now)))))
    (ap (λ ps. types_of ps) c.as_slice-parameters.ensures.value ∙ is.types)
    (c.inside_fault.ensures (function_scope lenient g i h) f.parameters
    (ap (λ ps. code_names ps) c.as_slice-parameters.ensures.value ∙ is.named) begun))
