-- A function is known by its name and signature: what is judged of it as it was found once holds however it is found.
use Rattle.std.proofs.Common.{◌≡◌, ℕ, true, ◌⊎◌, Some, List, [], ◌∷◌, refl, sym, ◌∙◌, ap, subst}
use Rattle.std.specs.Prelude.{map}
use Rattle.std.proofs.lemmas.Option.{same_Some}
use Rattle.source_meaning.specs.Steps.{Routine, World}
use Rattle.source_meaning.specs.Programs.{is_main}
use Rattle.source_typing.specs.Left.{left_by_items, states_at}
use Rattle.source_typing.specs.Scope.{block_entered}
use Rattle.source_typing.specs.Tables as typing
use Rattle.source_typing.specs.Tables.{Signature}
use Rattle.source_typing.specs.Types.{StaticType, Int, Void}
use Rattle.source_typing.specs.Ways.{ways_of_items}
use Rattle.type_proof.specs.Entries.{Function}
use Rattle.type_proof.specs.Judged.{ItemsJudged}
use Rattle.source_typing.specs.Named.{TypeBelow, TypesBelow}
use Rattle.type_proof.specs.Programs.{with_all, FunctionJudged}

types_are : (ts us : List StaticType) → map (λ t. Some t) ts ≡ map (λ t. Some t) us → ts ≡ us
types_are [] [] e = refl
types_are [] (u ∷ us) e = absurd cc
types_are (t ∷ ts) [] e = absurd cc
types_are (t ∷ ts) (u ∷ us) e =
    let a : t ≡ u = cc in let c : map (λ t. Some t) ts ≡ map (λ t. Some t) us = cc in let r : ts ≡ us = types_are ts us c in cc

pub judged_same : (world : World) (tables : typing.Tables) (x : List ℕ) (s : Signature) (F H : Function world x s) → FunctionJudged world tables x s F
    → FunctionJudged world tables x s H
judged_same world tables x s F H j =
    let routine : F.routine ≡ H.routine = same_Some F.routine H.routine (sym F.found ∙ H.found) in
    let types : F.types ≡ H.types = types_are F.types H.types (sym F.parameters ∙ H.parameters) in
    let gives : F.gives ≡ H.gives = same_Some F.gives H.gives (sym F.result ∙ H.result) in
    record {
      outside = j.outside;
      tables_are = j.tables_are;
      locals = j.locals;
      regions = j.regions;
      strict = j.strict;
      enclosing = j.enclosing;
      takes_below = subst (λ (ts : List StaticType). TypesBelow s.regions ts) types j.takes_below;
      gives_below = subst (λ (t : StaticType). TypeBelow s.regions t) gives j.gives_below;
      effect_below = j.effect_below;
      bounds_below = j.bounds_below;
      result = j.result ∙ ap (λ t. Some t) gives;
      no_loop = j.no_loop;
      no_switch = j.no_switch;
      body = subst (λ (r : Routine). ItemsJudged (with_all r.parameters H.types (block_entered j.outside)) true r.body) routine
          (subst (λ (ts : List StaticType). ItemsJudged (with_all F.routine.parameters ts (block_entered j.outside)) true F.routine.body) types j.body);
      flow = subst (λ (r : Routine). (left_by_items (with_all r.parameters H.types (block_entered j.outside)) r.body
          (states_at (with_all r.parameters H.types (block_entered j.outside)))).faults ≡ []) routine
          (subst (λ (ts : List StaticType). (left_by_items (with_all F.routine.parameters ts (block_entered j.outside)) F.routine.body
          (states_at (with_all F.routine.parameters ts (block_entered j.outside)))).faults ≡ []) types j.flow);
      ends = λ e.
          subst (λ (t : StaticType). (t ≡ Void) ⊎ ((is_main H.routine.name ≡ true) × (t ≡ Int))) gives
          (subst (λ (r : Routine). (F.gives ≡ Void) ⊎ ((is_main r.name ≡ true) × (F.gives ≡ Int))) routine
          (j.ends (subst (λ (r : Routine). (ways_of_items r.body).falls ≡ true) (sym routine) e)));
    }
