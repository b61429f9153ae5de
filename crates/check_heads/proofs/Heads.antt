-- What a head says, by its parts.
use Rattle.std.proofs.Common.{◌≡◌, Bool, Option, List, [], ◌++◌, append_assoc, map, sym, ap, subst, ◌∙◌}
use Rattle.cyc_types.specs.Regions.{region_of}
use Rattle.cyc_types.specs.Types.{static_type}
use Rattle.cyc_types.specs.declared.region.RegionId.{RegionId}
use Rattle.check_regions.specs.Fields.{pair_of}
use Rattle.source_typing.specs.Faults.{earliest, own_after}
use Rattle.source_typing.specs.Functions.{Variables, all_faults, bounds_of, effect_of, head_of, key_regions, read_parameters, result_type, variables}
use Rattle.source_typing.specs.Regions.{Region}
use Rattle.source_typing.specs.Tables.{Tables}
use Rattle.source_typing.specs.Tags.{repeated}
use Rattle.source_typing.specs.Types.{StaticType}
use Rattle.source_typing.specs.Verdicts.{Verdict}
use Rattle.check_faults.specs.Faults.{faults_of, sooner_found}
use Rattle.check_faults.specs.Verdicts.{short_of, shortened}
use Rattle.check_faults.specs.declared.fault.Fault.{Fault}
use Rattle.check_heads.proofs.Below.{AreBelow, bounds_below, effect_below, parameters_below}
use Rattle.check_heads.proofs.HeadFaults.{sound_found, two_are}
use Rattle.check_heads.proofs.ReadParameters.{keys_known, known_same, names_same, types_same}
use Rattle.check_heads.specs.Bodies.{types_of}
use Rattle.check_heads.specs.Heads.{IsHead}
use Rattle.check_heads.specs.Reading.{AreParameters, AreRead, main_faults_of}
use Rattle.check_heads.specs.Used.{IsUsed, keys_of}
use Rattle.check_heads.specs.declared.effect.Used.{Used}
use Rattle.check_heads.specs.declared.head.Head as code
use Rattle.cyc_tree.specs.Tree as tree
use Rattle.source_typing.specs.Faults as rules
use Rattle.source_typing.specs.Verdicts as rules_of

-- ---- the head

module _ (lenient : Bool) (g : Tables) (f : tree.Function) (c : code.Head) where
  -- what is found of its faults, by what its parts are
  abbrev FaultFound : Option Fault → Type 0
  FaultFound used = (v : Verdict StaticType) (ms : List tree.Member) (vs : List (Verdict StaticType)) (us : List rules.Fault)
      → short_of static_type c.result ≡ shortened v → AreParameters c.parameters.items ms vs → faults_of used ≡ earliest us
      → faults_of c.fault ≡ earliest (own_after (main_faults_of f.name v ms) (all_faults vs ++ repeated [] ms ++ rules_of.faults_of v ++ us))

  module _ (effect : Used RegionId) (bounds : Used (RegionId × RegionId)) where
    pub head_is : (ks : List Region) → ks ≡ keys_of (types_of c.parameters.items) → AreRead g c.variables c.parameters.items f.parameters
        → short_of static_type c.result ≡ shortened (result_type g c.variables.names f.result)
        → IsUsed region_of (effect_of lenient c.variables ks f.effect) effect → c.effect ≡ effect.known
        → IsUsed pair_of (bounds_of c.variables.names f.bounds) bounds → c.bounds ≡ bounds.known
        → FaultFound (sooner_found effect.fault bounds.fault) → IsHead c f (head_of lenient g f)
    head_is ks key_is read is of_effect effect_is of_bounds bounds_is found =
        let ps = read_parameters g (variables [] 0) f.parameters in
        let vs = ps.variables_after in
        let ms = f.parameters in
        let v : Verdict StaticType = result_type g vs.names f.result in
        let is_result : short_of static_type c.result ≡ shortened v =
        is ∙ ap (λ (us : Variables). shortened (result_type g us.names f.result)) read.variables_after in
        let types = types_same c.parameters.items ms ps.types read.parameters in
        let keys : ks ≡ key_regions ps.types = key_is ∙ ap keys_of types ∙ keys_known ps.types in
        let es = effect_of lenient vs (key_regions ps.types) f.effect in
        let bs = bounds_of vs.names f.bounds in
        let effects : IsUsed region_of es effect =
        subst (λ qs. IsUsed region_of (effect_of lenient vs qs f.effect) effect) keys
        (subst (λ (us : Variables). IsUsed region_of (effect_of lenient us ks f.effect) effect) read.variables_after of_effect) in
        let bound : IsUsed pair_of bs bounds =
        subst (λ (us : Variables). IsUsed pair_of (bounds_of us.names f.bounds) bounds) read.variables_after of_bounds in
        let fault : faults_of c.fault ≡ earliest (head_of lenient g f).faults =
        found v ms ps.types (all_faults es ++ all_faults bs) is_result read.parameters
        (two_are effect.fault bounds.fault (all_faults es) (all_faults bs) effects.fault bound.fault)
        ∙ ap (λ fs. earliest (own_after (main_faults_of f.name v ms) fs))
        (sym (append_assoc (all_faults ps.types ++ repeated [] ms ++ rules_of.faults_of v) (all_faults es) (all_faults bs))) in
        let below : AreBelow vs = parameters_below g (variables [] 0) ms tt in
        record {
          names = ap (λ (us : Variables). us.names) read.variables_after;
          count = ap (λ (us : Variables). us.count) read.variables_after;
          named = names_same c.parameters.items ms ps.types read.parameters;
          types = types;
          result = known_same c.result v is_result;
          effect = ap (λ u. map region_of u.items) effect_is ∙ effects.known;
          bounds = ap (λ u. map pair_of u.items) bounds_is ∙ bound.known;
          names_below = below;
          effect_below = effect_below lenient vs (key_regions ps.types) f.effect below;
          bounds_below = bounds_below vs.count vs.names below f.bounds;
          fault = fault;
          sound = sound_found c.fault (head_of lenient g f).faults fault;
        }
