-- A function's body, from its parts as the code makes them.
use Rattle.std.proofs.Common.{◌≡◌, ◌∙◌, ◌+◌, ◌<◌, ℕ, suc, refl, sym, ap, List, [], ◌∷◌, ◌++◌, length, map, drop, get_or}
use Rattle.std.proofs.lemmas.List.{drop_more}
use Rattle.cyc_tree.specs.View.{member_tree}
use Rattle.cyc_tree.specs.declared.item.Member as code_member
use Rattle.source_meaning.specs.Shapes.{Shape, Part, part_of, part_shapes}
use Rattle.source_meaning.specs.Steps.{Routine, World}
use Rattle.core_meaning.specs.Core.{Local, Statement, Block, MoreStatements}
use Rattle.cyc_core.specs.Trees.{statements_of}
use Rattle.source_lowering.specs.Lowered.{Named, all_of}
use Rattle.source_lowering.specs.Members.{all_words}
use Rattle.source_lowering.specs.Programs.{no_regions, block_shapes, locals_of, items_code, parameter_names, parameters_code, end_code, body_code}
use Rattle.lower_checks.proofs.Lists.{all_is}

pub as_many_shapes : (ps : List Part) → length (part_shapes ps) ≡ length ps
as_many_shapes [] = refl
as_many_shapes (p ∷ ps) = ap suc (as_many_shapes ps)

-- the parameters that are left begin with this one
pub left_parameters : (ms : List code_member.Member) (n : ℕ) (m : code_member.Member) → n < length ms → m ≡ get_or ms n m
    → map part_of (map member_tree (drop n ms)) ≡ part_of (member_tree m) ∷ map part_of (map member_tree (drop (n + 1) ms))
left_parameters ms n m within m_is =
    ap (λ (xs : List code_member.Member). map part_of (map member_tree xs))
    (drop_more ms n m within ∙ ap (λ (x : code_member.Member). x ∷ drop (n + 1) ms) (sym m_is))

-- what stores all parameters
abbrev pub all_parameters : Routine → List Statement
all_parameters f = parameters_code f.parameters 0 0 (all_words (part_shapes f.parameters))

-- the locals that the body declares itself
abbrev pub body_shapes : World → Routine → List Shape
body_shapes w f = block_shapes w (parameter_names f.parameters 0 []) (length f.parameters) f.body

-- the body's block: its locals, and what is inside
pub record Inside (w : World) (f : Routine) (locals : List Local) (inside : List Statement) : Type 0 where
  pub locals_are : locals ≡ locals_of w (part_shapes f.parameters ++ body_shapes w f)
  pub inside_is :
      inside ≡ all_parameters f ++ items_code w f.result (parameter_names f.parameters 0 []) no_regions (length f.parameters) 0 f.body

pub inside_of :
    (w : World) (f : Routine) (taken shapes : List Shape) (names : List Named) (first inside : List Statement) (locals : List Local) →
    taken ≡ part_shapes f.parameters → names ≡ parameter_names f.parameters 0 [] → first ≡ all_parameters f →
    inside ≡ first ++ items_code w f.result names no_regions (length taken) 0 f.body → shapes ≡ taken ++ block_shapes w names (length taken) f.body →
    locals ≡ locals_of w shapes →
    Inside w f locals inside
inside_of w f taken shapes names first inside locals taken_is names_are first_is inside_is shapes_are locals_are = record {
  locals_are =
      locals_are
      ∙ ap (locals_of w)
      (shapes_are ∙ ap (λ (ns : List Named). taken ++ block_shapes w ns (length taken) f.body) names_are
      ∙ ap (λ (n : ℕ). taken ++ block_shapes w (parameter_names f.parameters 0 []) n f.body) (ap length taken_is ∙ as_many_shapes f.parameters)
      ∙ ap (λ (ss : List Shape). ss ++ body_shapes w f) taken_is);
  inside_is =
      inside_is ∙ ap (λ (ss : List Statement). ss ++ items_code w f.result names no_regions (length taken) 0 f.body) first_is
      ∙ ap (λ (ns : List Named). all_parameters f ++ items_code w f.result ns no_regions (length taken) 0 f.body) names_are
      ∙ ap (λ (n : ℕ). all_parameters f ++ items_code w f.result (parameter_names f.parameters 0 []) no_regions n 0 f.body)
      (ap length taken_is ∙ as_many_shapes f.parameters);
}

pub body_of :
    (w : World) (f : Routine) (locals : List Local) (inside none blocked body : List Statement) → Inside w f locals inside →
    none ≡ [] → blocked ≡ none ++ Block locals (all_of inside) ∷ [] → body ≡ blocked ++ end_code f.result → statements_of body ≡ body_code w f
body_of w f locals inside none blocked body is none_is blocked_is body_is =
    ap statements_of (body_is ∙ ap (λ (ss : List Statement). ss ++ end_code f.result)
    (blocked_is ∙ ap (λ (ss : List Statement). ss ++ Block locals (all_of inside) ∷ []) none_is))
    ∙ ap (MoreStatements (Block locals (all_of inside))) (all_is (end_code f.result))
    ∙ ap (λ (ls : List Local). MoreStatements (Block ls (all_of inside)) (all_of (end_code f.result))) is.locals_are
    ∙ ap (λ (ss : List Statement).
    MoreStatements (Block (locals_of w (part_shapes f.parameters ++ body_shapes w f)) (all_of ss)) (all_of (end_code f.result))) is.inside_is
