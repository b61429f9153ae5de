use Rattle.std.proofs.Common.{◌≡◌, ◌∙◌, arith, ap, subst, [], ◌∷◌, ◌++◌, length, map}
use Rattle.cyc_tree.specs.Tree.{Name, local_of}
use Rattle.cyc_tree.specs.View.{declaration_tree, name_tree}
use Rattle.source_meaning.specs.Shapes.{Shape}
use Rattle.source_meaning.specs.Programs.{world_of}
use Rattle.source_lowering.specs.Programs.{declaration_code, declaration_values, local_shape}
use Rattle.lower_checks.specs.Views.{stored_tree}
use Rattle.lower_checks.specs.Visible.{names_of}
use Rattle.lower_checks.specs.Writing.{IsWritten, next_of}
use Rattle.lower_checks.proofs.Items.{same_name}
use Rattle.lower_checks.proofs.Writing.{moved, write_same}
use Rattle.lower_checks.proofs.statement.lower_declared.Goals as goal

-- the local's first value, behind its number
pub returns-clause-writes : goal.returns-clause-writes
returns-clause-writes c sound =
    let w = world_of c.args.program.now in
    let names = names_of c.args.locals.now in
    let b = c.args.body.now in
    let m = c.declared-stored.new.body in
    let x = c.lower_declaration.new.body in
    let d = declaration_tree c.args.declaration.now in
    let to = c.args.to.0 in
    let index = length c.args.declared_here.now.items in
    let four = c.declare.ensures.stays sound in
    let three = c.lower_declaration.ensures.writes four.sound in
    let two = c.declared-stored.ensures.stays three.sound in
    let index_is : c.len-index.result ≡ index = omega (arith, c.len-index.ensures, c.args.declared_here.now.ok.0) in
    let these = declaration_values w names d in
    let placed = subst (λ i. IsWritten m x (declaration_code w names d to i (next_of m)) these) index_is three in
    let begun = moved b m x (λ k. declaration_code w names d to index k) these two placed in
    write_same b x c.declare.new.body (declaration_code w names d to index (next_of b)) these begun four

-- the local is the innermost one
pub returns-clause-names : goal.returns-clause-names
returns-clause-names c sound =
    let w = world_of c.args.program.now in
    let names = names_of c.args.locals.now in
    let d = declaration_tree c.args.declaration.now in
    let index = length c.args.declared_here.now.items in
    let three = c.lower_declaration.ensures.writes (c.declare.ensures.stays sound).sound in
    let index_is : c.len-index.result ≡ index = omega (arith, c.len-index.ensures, c.args.declared_here.now.ok.0) in
    ap names_of (c.declare.ensures.declared sound)
    ∙ same_name (name_tree c.local.result.now).text (local_of d).text (stored_tree c.declared-stored.result) (local_shape w names d) c.len-index.result
    index names (ap (λ (q : Name). q.text) c.local.ensures) (c.declared-stored.ensures.declared three.sound) index_is

pub returns-clause-shapes : goal.returns-clause-shapes
returns-clause-shapes c sound =
    let three = c.lower_declaration.ensures.writes (c.declare.ensures.stays sound).sound in
    c.declare.ensures.added sound
    ∙ ap (λ (s : Shape). map stored_tree c.args.declared_here.now.items ++ s ∷ []) (c.declared-stored.ensures.declared three.sound)
