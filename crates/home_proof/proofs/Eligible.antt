-- Which locals of a function's Core may have homes is what is said of the names of its source.
use Rattle.std.proofs.Common.{◌≡◌, ℕ, suc, ◌+◌, ◌<◌, ◌≤◌, List, [], ◌∷◌, ◌++◌, length, Bool, true, false, refl, sym, ap, subst, ◌∙◌, arith}
use Rattle.std.specs.Prelude.{◌||◌, ◌&&◌, not, bytes_eq}
use Rattle.std.proofs.lemmas.Bool.{false≢true, ne_eqb}
use Rattle.std.proofs.lemmas.List.{append-nil}
use Rattle.cyc_tree.specs.Tree.{BlockItems}
use Rattle.source_meaning.specs.Shapes.{Shape, Part, part_shapes}
use Rattle.source_meaning.specs.Steps.{Routine, World}
use Rattle.core_meaning.specs.Core.{Statement, Statements}
use Rattle.source_lowering.specs.Layouts.{local_of}
use Rattle.source_lowering.specs.Members.{all_words, words_in}
use Rattle.source_lowering.specs.Lowered.{Named, all_of, stored_code}
use Rattle.source_lowering.specs.Programs.{block_shapes, body_code, items_code, locals_of, named_here, no_regions, parameter_names, parameters_code}
use Rattle.source_lowering.proofs.values.Integers.{value_object}
use Rattle.source_lowering.proofs.expressions.Names.{AreParameters, IsPlainWorld, IsRoutine}
use Rattle.source_lowering.proofs.memory.ObjectShapes.{object_named}
use Rattle.core_lines.specs.Homes.{addressed_of, eligible_from, eligible_of, is_scalar}
use Rattle.home_proof.specs.Arguments.{HaveArguments}
use Rattle.home_proof.specs.Defaults.{HaveOneDefault}
use Rattle.home_proof.specs.Names.{is_parameter, is_word, may_live, parameter_flags, pointed_in_items}
use Rattle.home_proof.specs.Numbered.{function_flags, here_flags, within_flags}
use Rattle.home_proof.proofs.Codes.{addresses, addresses_both, flags_both, flags_of}
use Rattle.home_proof.proofs.Leads.{Leads}
use Rattle.home_proof.proofs.Pieces.{end_plain}
use Rattle.home_proof.proofs.Scopes.{AreBefore, behind_before, leads_behind, leads_here, nothing_before}
use Rattle.home_proof.proofs.Variables.{stored_flags, stored_free}
use Rattle.home_proof.proofs.Locals.{Fits}
use Rattle.home_proof.proofs.Declared.{local_flag}
use Rattle.home_proof.proofs.Blocks.{ItemsDo, fits_behind, fits_word}
use Rattle.home_proof.proofs.Statements.{items_do, value_simple}

-- ---- parameters

-- the local of this number is no parameter, or a word's
abbrev pub AllFit : (ps : List Part) → (count index : ℕ) → Type 0
AllFit [] count index = Unit {0}
AllFit (p ∷ ps) count index = Fits p.shape count 0 index × AllFit ps (suc count) index

earlier_fit : (ps : List Part) (count index : ℕ) → index < count → AllFit ps count index
earlier_fit [] count index h = tt
earlier_fit (p ∷ ps) count index h =
    (ap (λ z. not z || is_word p.shape) (ne_eqb count index (λ q. omega (arith, h, q))), earlier_fit ps (suc count) index (omega (arith, h)))

later_fit : (ps : List Part) (count index : ℕ) → count + length ps ≤ index → AllFit ps count index
later_fit [] count index h = tt
later_fit (p ∷ ps) count index h = (fits_behind p.shape index count (omega (arith, h)), later_fit ps (suc count) index (omega (arith, h)))

parameters_flags : (ps : List Part) (count t free : ℕ) → flags_of (parameters_code ps count t free) ≡ []
parameters_flags [] count t free = refl
parameters_flags (p ∷ ps) count t free =
    let stored = stored_code p.shape free t 0 count in
    let others = parameters_code ps (suc count) (t + words_in p.shape) free in
    flags_both stored others ∙
    (ap (λ z. z ++ flags_of others) (stored_flags p.shape free t 0 count) ∙ parameters_flags ps (suc count) (t + words_in p.shape) free)

parameters_free : (ps : List Part) (count t free index : ℕ) → AllFit ps count index → addresses 0 index (parameters_code ps count t free) ≡ false
parameters_free [] count t free index h = refl
parameters_free (p ∷ ps) count t free index h =
    let stored = stored_code p.shape free t 0 count in
    let others = parameters_code ps (suc count) (t + words_in p.shape) free in
    addresses_both 0 index stored others ∙
    (ap (λ z. z || addresses 0 index others) (stored_free p.shape free t 0 count 0 index h.0) ∙
    parameters_free ps (suc count) (t + words_in p.shape) free index h.1)

-- a later parameter of its name would hide one
leads_behind_all : (ps : List Part) (count : ℕ) (names : List Named) (index : ℕ) (name : List ℕ) (visible : Bool) → index < count
    → Leads names 0 index name visible → Leads (parameter_names ps count names) 0 index name (visible && not (is_parameter name ps))
leads_behind_all [] count names index name visible less h = subst (λ v. Leads names 0 index name v) (by visible) h
  where
    by : (v : Bool) → v ≡ (v && true)
    by true = refl
    by false = refl
leads_behind_all (p ∷ ps) count names index name visible less h =
    subst (λ v. Leads (parameter_names ps (suc count) (named_here p.name p.shape count ∷ names)) 0 index name v)
    (by visible (bytes_eq p.name name) (is_parameter name ps))
    (leads_behind_all ps (suc count) (named_here p.name p.shape count ∷ names) index name (visible && not (bytes_eq p.name name)) (omega (arith, less))
    (leads_behind names p.name p.shape count 0 index name visible less h))
  where
    by : (v a b : Bool) → ((v && not a) && not b) ≡ (v && not (a || b))
    by true true b = refl
    by true false b = refl
    by false a b = refl

parameters_before : (ps : List Part) (count last : ℕ) (names : List Named) → count + length ps ≡ last → AreBefore names count
    → AreBefore (parameter_names ps count names) last
parameters_before [] count last names e h = subst (λ z. AreBefore names z) (omega (arith, e)) h
parameters_before (p ∷ ps) count last names e h =
    parameters_before ps (suc count) last (named_here p.name p.shape count ∷ names) (omega (arith, e)) (behind_before names p.name p.shape count h)

module _ (w : World) (items : BlockItems) (body : Statements) (more : List Shape) (flags : List Bool) (last : ℕ)
    (end : eligible_from last (locals_of w more) body ≡ flags) where
  parameters_here : (ps : List Part) (count : ℕ) (names : List Named) → count + length ps ≡ last → AreParameters ps → AreBefore names count
      → ((index : ℕ) (name : List ℕ) (visible : Bool) → count ≤ index → index < last → AllFit ps count index
      → Leads (parameter_names ps count names) 0 index name visible → addressed_of 0 index body ≡ (visible && pointed_in_items name items))
      → eligible_from count (locals_of w (part_shapes ps ++ more)) body ≡ parameter_flags ps items ++ flags
  parameters_here [] count names e values before asked =
      subst (λ z. eligible_from z (locals_of w more) body ≡ flags) (omega (arith, e)) end
  parameters_here (p ∷ ps) count names e values before asked =
      let inside = named_here p.name p.shape count ∷ names in
      let points = not (is_parameter p.name ps) && pointed_in_items p.name items in
      let flag : (is_scalar (local_of w p.shape) && not (addressed_of 0 count body)) ≡ may_live p.shape points =
      local_flag w p.shape (addressed_of 0 count body) points (object_named w.unions w.structs p.shape (value_object w.unions w.structs p.shape values.0))
      (λ is. asked count p.name (not (is_parameter p.name ps)) (omega arith) (omega (arith, e))
      (fits_word p.shape 0 count count is, earlier_fit ps (suc count) count (omega arith))
      (leads_behind_all ps (suc count) inside count p.name true (omega arith) (leads_here names p.name p.shape count before is)))
      (λ is. absurd (false≢true (sym (value_simple p.shape values.0) ∙ is))) in
      ap (λ z. z ∷ eligible_from (suc count) (locals_of w (part_shapes ps ++ more)) body) flag ∙
      ap (λ z. may_live p.shape points ∷ z)
      (parameters_here ps (suc count) inside (omega (arith, e)) values.1 (behind_before names p.name p.shape count before)
      (λ index name visible least less fits leads.
      asked index name visible (omega (arith, least)) less (fits_behind p.shape index count least, fits) leads))

-- ---- functions

-- of the Core of each function that lowering takes
pub eligible_flags : (w : World) (f : Routine) → IsPlainWorld w → IsRoutine w f → HaveOneDefault f.body → HaveArguments w f.body
    → eligible_of (body_code w f) ≡ function_flags w f
eligible_flags w f plain is one enough =
    ap (λ z. (eligible_from 0 (locals_of w (part_shapes f.parameters ++ shapes)) (all_of body) ++ flags_of body) ++ z) (end_plain f.result).flags ∙
    (append-nil (eligible_from 0 (locals_of w (part_shapes f.parameters ++ shapes)) (all_of body) ++ flags_of body) ∙
    (ap (λ z. z ++ flags_of body) locals ∙ ap (λ z. (parameter_flags f.parameters f.body ++ here_flags w names last f.body) ++ z) within))
  where
    names : List Named
    names = parameter_names f.parameters 0 []

    last : ℕ
    last = length f.parameters

    shapes : List Shape
    shapes = block_shapes w names last f.body

    begin : List Statement
    begin = parameters_code f.parameters 0 0 (all_words (part_shapes f.parameters))

    code : List Statement
    code = items_code w f.result names no_regions last 0 f.body

    body : List Statement
    body = begin ++ code

    done : ItemsDo w names last f.body code
    done = items_do w plain f.result names no_regions last 0 f.body (parameters_before f.parameters 0 last [] (omega arith) nothing_before) is.body enough one

    only : (index : ℕ) → AllFit f.parameters 0 index → addresses 0 index body ≡ addresses 0 index code
    only index h =
        addresses_both 0 index begin code ∙
        ap (λ z. z || addresses 0 index code) (parameters_free f.parameters 0 0 (all_words (part_shapes f.parameters)) index h)

    within : flags_of body ≡ within_flags w names last f.body
    within =
        flags_both begin code ∙
        (ap (λ z. z ++ flags_of code) (parameters_flags f.parameters 0 0 (all_words (part_shapes f.parameters))) ∙ done.does.flagged)

    locals : eligible_from 0 (locals_of w (part_shapes f.parameters ++ shapes)) (all_of body)
        ≡ parameter_flags f.parameters f.body ++ here_flags w names last f.body
    locals =
        parameters_here w f.body (all_of body) shapes (here_flags w names last f.body) last
        (done.here (all_of body) (λ index less. only index (later_fit f.parameters 0 index (omega (arith, less)))))
        f.parameters 0 [] (omega arith) is.parameters nothing_before
        (λ index name visible least less fits leads. only index fits ∙ done.does.pointed 0 index name visible less leads)
