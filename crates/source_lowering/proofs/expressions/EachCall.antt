-- Each call does the same as its code.
use Rattle.std.proofs.Common.{◌≡◌, ℕ, ⊎_elim, List, [], ◌∷◌, ◌++◌, Bool, true, false, Option, None, refl, sym, ap, ◌∙◌, subst}
use Rattle.std.specs.Prelude.{bytes_eq, codes, if◌then◌else◌}
use Rattle.source_meaning.specs.Shapes.{Shape, IntShape, Part, has_tag, part_shapes}
use Rattle.source_meaning.specs.Steps.{World, Routine}
use Rattle.source_meaning.specs.Places.{Sense, value_sense}
use Rattle.source_meaning.specs.Calls.{function_of, called, converted_all, read_byte, write_byte, call_sense}
use Rattle.core_meaning.specs.Core.{Statement, Do, Getchar}
use Rattle.source_lowering.specs.Lowered.{number_of, result_shape, call_shape, parameter_shapes, call_parameters, function_call, call_code}
use Rattle.source_lowering.specs.Simulation.{Point}
use Rattle.source_lowering.proofs.values.Integers.{IsValueShape}
use Rattle.source_lowering.proofs.expressions.Names.{AreParameters, IsPlainWorld, FoundFunction, find_function}
use Rattle.source_lowering.proofs.expressions.Variables.{Agrees, stuck_agrees}
use Rattle.source_lowering.proofs.expressions.Forms.{value_agrees}
use Rattle.source_lowering.proofs.expressions.Calls.{CallsAs, ArgumentsAs, called_gives}
use Rattle.source_lowering.proofs.expressions.ByteCalls.{read_gives, stuck_read, write_gives}

-- the arguments that a call's function takes
abbrev pub Passed : Point → ℕ → ℕ → ℕ → List Shape → List Sense → List Statement → Type 0
Passed p n d count shapes es code = ArgumentsAs p n d count shapes (converted_all p.world shapes es) code

own_call : (p : Point) (n d count : ℕ) (name : List ℕ) (es : List Sense) (code : List Statement) → IsPlainWorld p.world → CallsAs p.world p.program n
    → Passed p n d count (parameter_shapes (function_of p.world.functions name)) es code
    → Agrees p n d (called p.world (function_of p.world.functions name) es) (result_shape (function_of p.world.functions name))
    (code ++ function_call (function_of p.world.functions name) (number_of p.world.functions name) count d)
own_call p n d count name es code plain calls passed =
    ⊎_elim
    (λ (f : FoundFunction p.world p.world.functions name).
    let arguments : Passed p n d count (part_shapes f.routine.parameters) es code =
    subst (λ z. Passed p n d count (parameter_shapes z) es code) f.found passed in
    let gives = called_gives p n d count name f.routine (converted_all p.world (part_shapes f.routine.parameters) es) code f.numbered f.is calls arguments in
    subst (λ z. Agrees p n d (called p.world z es) (result_shape z)
    (code ++ function_call z (number_of p.world.functions name) count d)) (sym f.found)
    (value_agrees p n d f.routine.result f.routine.result _ _ refl f.is.result gives))
    (λ (none : function_of p.world.functions name ≡ None).
    subst (λ z. Agrees p n d (called p.world z es) (result_shape z)
    (code ++ function_call z (number_of p.world.functions name) count d)) (sym none)
    (stuck_agrees p n d (code ++ [])))
    (find_function p.world p.world.functions name plain.functions)

read_call : (p : Point) (n d : ℕ) (es : List Sense) (code : List Statement) → (es ≡ [] → code ≡ [])
    → Agrees p n d (value_sense IntShape (read_byte es)) IntShape (code ++ (Do (Getchar d) ∷ []))
read_call p n d [] code none =
    subst (λ z. Agrees p n d (value_sense IntShape (read_byte [])) IntShape (z ++ (Do (Getchar d) ∷ []))) (sym (none refl))
    (value_agrees p n d IntShape IntShape (read_byte []) (Do (Getchar d) ∷ []) refl tt (read_gives p n d))
read_call p n d (e ∷ es) code none = value_agrees p n d IntShape IntShape (read_byte (e ∷ es)) _ refl tt (stuck_read p n d e es (code ++ (Do (Getchar d) ∷ [])))

-- the shapes that a name's function takes, by the two tests of the name
abbrev parameters_by : Bool → Bool → Option Routine → List Shape
parameters_by reads writes f = (if reads then [] else (if writes then IntShape ∷ [] else parameter_shapes f))

pub call_agrees : (p : Point) (n d count : ℕ) (name : List ℕ) (es : List Sense) (code : List Statement) → IsPlainWorld p.world
    → has_tag p.world.structs name ≡ false → CallsAs p.world p.program n
    → (call_parameters p.world name ≡ [] → code ≡ []) → Passed p n d count (call_parameters p.world name) es code
    → Agrees p n d (call_sense p.world name es) (call_shape p.world name) (code ++ call_code p.world name count d)
call_agrees p n d count name es code plain no_tag calls none passed = by (bytes_eq name (codes "getchar")) (bytes_eq name (codes "putchar")) refl refl
  where
    by : (reads writes : Bool) → bytes_eq name (codes "getchar") ≡ reads → bytes_eq name (codes "putchar") ≡ writes
        → Agrees p n d (call_sense p.world name es) (call_shape p.world name) (code ++ call_code p.world name count d)
    by true writes e f =
        rw e (read_call p n d es code (λ z. none (ap (λ b. parameters_by b (bytes_eq name (codes "putchar")) (function_of p.world.functions name)) e)))
    by false true e f =
        let arguments : Passed p n d count (IntShape ∷ []) es code = subst (λ z. Passed p n d count z es code)
        (ap (λ b. parameters_by b (bytes_eq name (codes "putchar")) (function_of p.world.functions name)) e ∙ ap
        (λ b. parameters_by false b (function_of p.world.functions name)) f) passed in
        rw (e, f) (value_agrees p n d IntShape IntShape (write_byte p.world es) _ refl tt (write_gives p n d count es code arguments))
    by false false e f =
        let arguments : Passed p n d count (parameter_shapes (function_of p.world.functions name)) es code = subst (λ z. Passed p n d count z es code)
        (ap (λ b. parameters_by b (bytes_eq name (codes "putchar")) (function_of p.world.functions name)) e ∙ ap
        (λ b. parameters_by false b (function_of p.world.functions name)) f) passed in
        rw (e, f, no_tag) (own_call p n d count name es code plain calls arguments)

-- what a name's function takes are values
abbrev pub AllValues : List Shape → Type 0
AllValues [] = Unit {0}
AllValues (s ∷ ss) = IsValueShape s × AllValues ss

parameters_values : (ps : List Part) → AreParameters ps → AllValues (part_shapes ps)
parameters_values [] h = tt
parameters_values (p ∷ ps) h = (h.0, parameters_values ps h.1)

pub call_values : (w : World) (name : List ℕ) → IsPlainWorld w → AllValues (call_parameters w name)
call_values w name plain = by (bytes_eq name (codes "getchar")) (bytes_eq name (codes "putchar"))
  where
    own : AllValues (parameter_shapes (function_of w.functions name))
    own = ⊎_elim
        (λ (f : FoundFunction w w.functions name). subst (λ z. AllValues (parameter_shapes z)) (sym f.found) (parameters_values f.routine.parameters
        f.is.parameters))
        (λ (none : function_of w.functions name ≡ None). subst (λ z. AllValues (parameter_shapes z)) (sym none) tt)
        (find_function w w.functions name plain.functions)

    by : (reads writes : Bool) → AllValues (parameters_by reads writes (function_of w.functions name))
    by true writes = tt
    by false true = (tt, tt)
    by false false = own
