use Rattle.std.proofs.Common.{IfOk, [], ap, false, refl, subst, sym, ◌∙◌, ◌≡◌}
use Rattle.cyc_tree.specs.View.{function_tree}
use Rattle.cyc_types.specs.declared.region.RegionId.TheVariants.{Level}
use Rattle.flow_summaries.specs.Statements.{fault_of_body}
use Rattle.check_scopes.specs.Matching.{AreLocals}
use Rattle.source_typing.specs.Functions.{body_scope, function_scope, with_parameters}
use Rattle.check_heads.specs.Bodies.{code_names, types_of}
use Rattle.check_declarations.proofs.Bodies.{stands}
use Rattle.check_declarations.specs.declared.context.Context.{Context}
use Rattle.flow_check.specs.Standing.{Stands}
use Rattle.flow_check.proofs.function.headed_flow.Goals as goal

pub returns : goal.returns
returns c g h known is =
    let head = c.args.head in
    let i = c.args.item in
    let f = function_tree c.args.function.now in
    let d : Context = record { result = c.known_type.result; frame = Level c.count.result; item = i; in_loop = false; in_switch = false } in
    let ns = c.into_names-known.result in
    let s = c.in_ok-scope.scope in
    let outer = function_scope false g i h in
    let begun : Stands d ns 0 s outer = record {
      stands = stands head f h is false g i s c.in_ok-scope.ensures.alone d ns (c.in_ok-scope.ensures.known g i f h known is) c.into_names-known.ensures
          c.known_type.ensures (ap Level c.count.ensures) refl refl refl;
      locals = subst (λ ls. AreLocals ls []) (sym c.in_ok-scope.ensures.alone) tt;
    } in
    let named = ap (λ ps. code_names ps) c.as_slice-parameters.ensures.value ∙ is.named in
    let parameters : with_parameters f.parameters (types_of c.as_slice-parameters.result.now) outer ≡ body_scope false g i f h =
    ap (λ ps. with_parameters f.parameters (types_of ps) outer) c.as_slice-parameters.ensures.value
    ∙ ap (λ ts. with_parameters f.parameters ts outer) is.types in
    subst (λ e. IfOk c.body_flow.result (λ o. o ≡ fault_of_body e f)) parameters (c.body_flow.ensures outer refl named begun)
