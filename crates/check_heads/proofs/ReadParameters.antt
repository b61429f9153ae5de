-- Parameters that are read one by one.
use Rattle.std.proofs.Common.{◌≡◌, ◌+◌, ℕ, List, [], ◌∷◌, ◌++◌, drop, map, refl, sym, ap, subst, ◌∙◌, append_assoc}
use Rattle.std.specs.Prelude.{None, Option, Some, unwrap_or}
use Rattle.cyc_types.specs.Types.{static_type}
use Rattle.cyc_types.specs.declared.ctype.CType.{CType}
use Rattle.cyc_tree.specs.View.{member_tree}
use Rattle.source_typing.specs.Faults.{earliest, sooner_of}
use Rattle.source_typing.specs.Functions.{Variables, key_regions, parameter_type, read_parameters, take_spots, variables}
use Rattle.source_typing.specs.Tables.{Tables}
use Rattle.source_typing.specs.Types.{Key, StaticType}
use Rattle.source_typing.specs.Verdicts.{Faulty, Of, Unjudged, Verdict, known}
use Rattle.source_typing.specs.Written.{spots_of}
use Rattle.check_faults.proofs.Shortened.{fault_same}
use Rattle.check_faults.specs.Faults.{faults_of}
use Rattle.check_faults.specs.Verdicts.{Is, NotJudged, Short, Wrong, fault_found, fault_in, short_of, shortened}
use Rattle.check_heads.specs.Heads.{known_static}
use Rattle.check_heads.specs.Reading.{AreParameters, AreRead, IsParameter}
use Rattle.check_heads.specs.Used.{keys_of}
use Rattle.check_heads.specs.declared.head.Parameter.{Parameter}
use Rattle.cyc_tree.specs.Tree as tree
use Rattle.cyc_tree.specs.declared.item.Member as code_member
use Rattle.source_typing.specs.Faults as rules
use Rattle.source_typing.specs.Verdicts as rules_of
use Rattle.check_faults.specs.declared.verdict.Verdict as code
use Rattle.check_faults.specs.declared.verdict.Verdict.TheVariants as variant

-- ---- a verdict in code and that of the rules

abbrev known_in : Short StaticType → Option StaticType
known_in (Wrong f) = None
known_in NotJudged = None
known_in (Is t) = Some t

known_by_rules : (v : Verdict StaticType) → known_in (shortened v) ≡ known v
known_by_rules (Faulty f fs) = refl
known_by_rules Unjudged = refl
known_by_rules (Of t) = refl

known_in_code : (v : code.Verdict CType) → known_static v ≡ known_in (short_of static_type v)
known_in_code (variant.Wrong f) = refl
known_in_code variant.NotJudged = refl
known_in_code (variant.Of t) = refl

fault_by_rules : (v : Verdict StaticType) → fault_in (shortened v) ≡ earliest (rules_of.faults_of v)
fault_by_rules (Faulty f fs) = by (earliest fs)
  where
    by : (o : Option rules.Fault) → Some (unwrap_or (sooner_of f o) f) ≡ sooner_of f o
    by None = refl
    by (Some g) = refl
fault_by_rules Unjudged = refl
fault_by_rules (Of t) = refl

module _ (c : code.Verdict CType) (v : Verdict StaticType) (e : short_of static_type c ≡ shortened v) where
  pub known_same : known_static c ≡ known v
  known_same = known_in_code c ∙ ap known_in e ∙ known_by_rules v

  pub fault_is : faults_of (fault_found c) ≡ earliest (rules_of.faults_of v)
  fault_is = fault_same static_type c ∙ ap (λ (s : Short StaticType). fault_in s) e ∙ fault_by_rules v

-- ---- all parameters

pub names_same : (ps : List Parameter) (ms : List tree.Member) (vs : List (Verdict StaticType)) → AreParameters ps ms vs
    → map (λ (p : Parameter). p.name.now) ps ≡ map (λ (m : tree.Member). m.name.text) ms
names_same [] [] [] h = refl
names_same (p ∷ ps) (m ∷ ms) (v ∷ vs) h =
    ap (λ x. x ∷ map (λ (p : Parameter). p.name.now) ps) h.0.named ∙ ap (λ xs. m.name.text ∷ xs) (names_same ps ms vs h.1)
names_same ps ms vs h = absurd h

pub types_same : (ps : List Parameter) (ms : List tree.Member) (vs : List (Verdict StaticType)) → AreParameters ps ms vs
    → map (λ (p : Parameter). known_static p.of) ps ≡ map known vs
types_same [] [] [] h = refl
types_same (p ∷ ps) (m ∷ ms) (v ∷ vs) h =
    ap (λ x. x ∷ map (λ (p : Parameter). known_static p.of) ps) (known_same p.of v h.0.typed) ∙ ap (λ xs. known v ∷ xs) (types_same ps ms vs h.1)
types_same ps ms vs h = absurd h

-- the regions of the keys among them
pub keys_known : (vs : List (Verdict StaticType)) → keys_of (map known vs) ≡ key_regions vs
keys_known [] = refl
keys_known (Faulty f fs ∷ vs) = keys_known vs
keys_known (Unjudged ∷ vs) = keys_known vs
keys_known (Of t ∷ vs) = by t (keys_known vs)
  where
    by : (t : StaticType) → keys_of (map known vs) ≡ key_regions vs → keys_of (Some t ∷ map known vs) ≡ key_regions (Of t ∷ vs)
    by (Key r) e = ap (λ rs. r ∷ rs) e
    by t e = e

-- ---- one more

parameter_more : (p : Parameter) (m : tree.Member) (v : Verdict StaticType) → IsParameter p m v
    → (ps : List Parameter) (ms : List tree.Member) (vs : List (Verdict StaticType)) → AreParameters ps ms vs
    → AreParameters (ps ++ p ∷ []) (ms ++ m ∷ []) (vs ++ v ∷ [])
parameter_more p m v k [] [] [] h = (k, tt)
parameter_more p m v k (q ∷ ps) (n ∷ ms) (w ∷ vs) h = (h.0, parameter_more p m v k ps ms vs h.1)
parameter_more p m v k ps ms vs h = absurd h

module _ (g : Tables) (m : tree.Member) where
  abbrev type_at : Variables → Verdict StaticType
  type_at vs = parameter_type g m.of (take_spots vs (spots_of g m.of))

  abbrev after_at : Variables → Variables
  after_at vs = (take_spots vs (spots_of g m.of)).after_all

  types_more : (vs : Variables) (ms : List tree.Member)
      → (read_parameters g vs (ms ++ m ∷ [])).types ≡ (read_parameters g vs ms).types ++ type_at (read_parameters g vs ms).variables_after ∷ []
  types_more vs [] = refl
  types_more vs (n ∷ ms) =
      let s = take_spots vs (spots_of g n.of) in ap (λ ts. parameter_type g n.of s ∷ ts) (types_more s.after_all ms)

  variables_more : (vs : Variables) (ms : List tree.Member)
      → (read_parameters g vs (ms ++ m ∷ [])).variables_after ≡ after_at (read_parameters g vs ms).variables_after
  variables_more vs [] = refl
  variables_more vs (n ∷ ms) = variables_more (take_spots vs (spots_of g n.of)).after_all ms

  pub read_more : (vs new : Variables) (ps : List Parameter) (p : Parameter) (ms : List tree.Member) → AreRead g vs ps ms
      → IsParameter p m (type_at vs) → new ≡ after_at vs → AreRead g new (ps ++ p ∷ []) (ms ++ m ∷ [])
  read_more vs new ps p ms h k e =
      let r = read_parameters g (variables [] 0) ms in
      record {
        variables_after = e ∙ ap after_at h.variables_after ∙ sym (variables_more (variables [] 0) ms);
        parameters = subst (λ ts. AreParameters (ps ++ p ∷ []) (ms ++ m ∷ []) ts) (sym (types_more (variables [] 0) ms))
            (parameter_more p m (type_at r.variables_after) (subst (λ us. IsParameter p m (type_at us)) h.variables_after k) ps ms r.types h.parameters);
      }

-- of the rest of the members one comes next
pub next_member : (ms : List tree.Member) (xs : List code_member.Member) (i : ℕ) (x : code_member.Member) → drop i xs ≡ x ∷ drop (i + 1) xs
    → (ms ++ member_tree x ∷ []) ++ map member_tree (drop (i + 1) xs) ≡ ms ++ map member_tree (drop i xs)
next_member ms xs i x e =
    append_assoc ms (member_tree x ∷ []) (map member_tree (drop (i + 1) xs)) ∙ ap (λ ys. ms ++ map member_tree ys) (sym e)
