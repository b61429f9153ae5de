-- The faults of heads.
use Rattle.std.proofs.Common.{◌≡◌, ℕ, Bool, true, false, Bor, Option, Some, None, List, [], ◌∷◌, ◌++◌, append_assoc, cond, refl, sym, ap, ◌∙◌, nat_eq, length}
use Rattle.std.specs.Prelude.{bytes_eq, is_none, is_some, not, ◌||◌, ◌&&◌}
use Rattle.cyc_types.proofs.KindsUnder.{no_pointer}
use Rattle.cyc_types.specs.Bases.{base_type}
use Rattle.cyc_types.specs.Layers.{is_plain, pointer_to}
use Rattle.cyc_types.specs.Types.{static_type}
use Rattle.cyc_types.specs.declared.ctype.CType.{CType}
use Rattle.cyc_types.specs.declared.layer.Layer.{Layer}
use Rattle.cyc_types.specs.declared.layer.Layer.TheVariants as pointer
use Rattle.source_typing.specs.Faults.{earliest, is_clean, own_after, name_rule, test}
use Rattle.source_typing.specs.Functions.{all_faults, main_form}
use Rattle.source_typing.specs.Tags.{is_named, repeated}
use Rattle.source_typing.specs.Types.{Int, StaticType}
use Rattle.source_typing.specs.Verdicts.{Faulty, Of, Unjudged, Verdict}
use Rattle.check_faults.proofs.Earliest.{earliest_of_both, first_joined, found_sooner}
use Rattle.check_faults.specs.Faults.{fault_of, faults_of, first_of, sooner_found}
use Rattle.check_faults.specs.Verdicts.{Is, NotJudged, Short, Wrong, short_of, shortened}
use Rattle.check_heads.proofs.ReadParameters.{fault_is}
use Rattle.check_heads.specs.Reading.{AreParameters, is_int, main_in, never, repeated_after, types_fault}
use Rattle.check_heads.specs.declared.head.Parameter.{Parameter}
use Rattle.cyc_tree.specs.Tree as tree
use Rattle.source_typing.specs.Faults as rules
use Rattle.source_typing.specs.Verdicts as rules_of
use Rattle.check_faults.specs.declared.fault.Fault as found
use Rattle.check_faults.specs.declared.verdict.Verdict as code
use Rattle.check_faults.specs.declared.verdict.Verdict.TheVariants as variant

-- ---- one fault after another

-- what was found, then one more, then the rest
pub next_found : (was own now : Option found.Fault) (rest : Option rules.Fault) → now ≡ sooner_found was own
    → first_of (faults_of now) rest ≡ first_of (faults_of was) (first_of (faults_of own) rest)
next_found was own now rest e =
    ap (λ o. first_of (faults_of o) rest) e
    ∙ ap (λ o. first_of o rest) (found_sooner was own)
    ∙ first_joined (faults_of was) (faults_of own) rest

-- ---- types

pub types_found : (ps : List Parameter) (ms : List tree.Member) (vs : List (Verdict StaticType)) → AreParameters ps ms vs
    → types_fault ps ≡ earliest (all_faults vs)
types_found [] [] [] h = refl
types_found (p ∷ ps) (m ∷ ms) (v ∷ vs) h =
    ap (λ o. first_of o (types_fault ps)) (fault_is p.of v h.0.typed)
    ∙ ap (λ o. first_of (earliest (rules_of.faults_of v)) o) (types_found ps ms vs h.1)
    ∙ sym (earliest_of_both (rules_of.faults_of v) (all_faults vs))
types_found ps ms vs h = absurd h

-- ---- second names

-- it says of the same names that they were seen
pub seen_same : (ps : List Parameter) (s t : Bor (List ℕ) → Bool) → ((x : Bor (List ℕ)) → s x ≡ t x) → repeated_after s ps ≡ repeated_after t ps
seen_same [] s t e = refl
seen_same (p ∷ ps) s t e =
    ap (λ b. test (not b) name_rule p.at ++ repeated_after (λ x. bytes_eq p.name.now x.now || s x) ps) (e p.name)
    ∙ ap (λ fs. test (not (t p.name)) name_rule p.at ++ fs)
    (seen_same ps (λ x. bytes_eq p.name.now x.now || s x) (λ x. bytes_eq p.name.now x.now || t x) (λ x. ap (λ b. bytes_eq p.name.now x.now || b) (e x)))

-- one parameter more
pub next_named : (s t : Bor (List ℕ) → Bool) (p : Parameter) (ps : List Parameter) (own : Option found.Fault)
    → faults_of own ≡ earliest (test (not (s p.name)) name_rule p.at) → ((x : Bor (List ℕ)) → t x ≡ cond (bytes_eq p.name.now x.now) true (s x))
    → first_of (faults_of own) (earliest (repeated_after t ps)) ≡ earliest (repeated_after s (p ∷ ps))
next_named s t p ps own h e =
    let others = repeated_after (λ x. bytes_eq p.name.now x.now || s x) ps in
    ap (λ o. first_of o (earliest (repeated_after t ps))) h
    ∙ ap (λ fs. first_of (earliest (test (not (s p.name)) name_rule p.at)) (earliest fs))
    (seen_same ps t (λ x. bytes_eq p.name.now x.now || s x) (λ x. e x ∙ either (bytes_eq p.name.now x.now) (s x)))
    ∙ sym (earliest_of_both (test (not (s p.name)) name_rule p.at) others)
  where
    either : (a b : Bool) → cond a true b ≡ (a || b)
    either true b = refl
    either false b = refl

repeated_by : (ps : List Parameter) (ms before : List tree.Member) (vs : List (Verdict StaticType)) → AreParameters ps ms vs
    → repeated_after (λ x. is_named before x.now) ps ≡ repeated before ms
repeated_by [] [] before [] h = refl
repeated_by (p ∷ ps) (m ∷ ms) before (v ∷ vs) h =
    let others = repeated_after (λ x. bytes_eq p.name.now x.now || is_named before x.now) ps in
    ap (λ y. test (not (is_named before y)) name_rule p.at ++ others) h.0.named
    ∙ ap (λ n. test (not (is_named before m.name.text)) name_rule n ++ others) h.0.placed
    ∙ ap (λ y. test (not (is_named before m.name.text)) name_rule m.name.at ++ repeated_after (λ x. bytes_eq y x.now || is_named before x.now) ps) h.0.named
    ∙ ap (λ fs. test (not (is_named before m.name.text)) name_rule m.name.at ++ fs) (repeated_by ps ms (m ∷ before) vs h.1)
repeated_by ps ms before vs h = absurd h

pub repeated_found : (ps : List Parameter) (ms : List tree.Member) (vs : List (Verdict StaticType)) → AreParameters ps ms vs
    → repeated_after never ps ≡ repeated [] ms
repeated_found ps ms vs h = repeated_by ps ms [] vs h

-- ---- `main`

pub int_kind : (t : CType) → is_int (static_type t) ≡ (is_plain t.layers.items && is_int (base_type t.base))
int_kind t = no_pointer is_int of (base_type t.base) t.layers.items
  where
    of : (l : Layer) (u : StaticType) → is_int (pointer_to l u) ≡ false
    of (pointer.Thin n r) u = refl
    of (pointer.Fat r) u = refl
    of (pointer.Unique n) u = refl

pub not_plain : (ls : List Layer) → nat_eq (length ls) 0 ≡ false → is_plain ls ≡ false
not_plain [] e = absurd cc
not_plain (l ∷ ls) e = refl

form_of : (t : StaticType) → is_int t ≡ main_form (Of t) []
form_of Int = refl
form_of t = refl

no_form : (v : Verdict StaticType) (m : tree.Member) (ms : List tree.Member) → false ≡ main_form v (m ∷ ms)
no_form (Of Int) m ms = refl
no_form (Of t) m ms = refl
no_form (Faulty f fs) m ms = refl
no_form Unjudged m ms = refl

none_in : (c : code.Verdict CType) (p : Parameter) (ps : List Parameter) → main_in c (p ∷ ps) ≡ false
none_in (variant.Of t) p ps = refl
none_in (variant.Wrong f) p ps = refl
none_in variant.NotJudged p ps = refl

abbrev alone_in : Short StaticType → Bool
alone_in (Is t) = is_int t
alone_in (Wrong f) = false
alone_in NotJudged = false

alone_code : (c : code.Verdict CType) → main_in c [] ≡ alone_in (short_of static_type c)
alone_code (variant.Of t) = refl
alone_code (variant.Wrong f) = refl
alone_code variant.NotJudged = refl

alone_rules : (v : Verdict StaticType) → alone_in (shortened v) ≡ main_form v []
alone_rules (Of t) = form_of t
alone_rules (Faulty f fs) = refl
alone_rules Unjudged = refl

pub form_found : (c : code.Verdict CType) (v : Verdict StaticType) → short_of static_type c ≡ shortened v
    → (ps : List Parameter) (ms : List tree.Member) (vs : List (Verdict StaticType)) → AreParameters ps ms vs → main_in c ps ≡ main_form v ms
form_found c v e [] [] [] h = alone_code c ∙ ap alone_in e ∙ alone_rules v
form_found c v e (p ∷ ps) (m ∷ ms) (w ∷ vs) h = none_in c p ps ∙ no_form v m ms
form_found c v e ps ms vs h = absurd h

-- ---- the head's own fault, or its parts'

none_after : (own fs : List rules.Fault) → earliest fs ≡ None → earliest own ≡ earliest (own_after own fs)
none_after own [] e = refl
none_after own (f ∷ fs) e = absurd (by (earliest fs) e)
  where
    by : (o : Option rules.Fault) → rules.sooner_of f o ≡ None → ⊥
    by None k = absurd cc
    by (Some g) k = absurd cc

some_after : (own fs : List rules.Fault) (f : rules.Fault) → earliest fs ≡ Some f → earliest fs ≡ earliest (own_after own fs)
some_after own [] f e = absurd cc
some_after own (g ∷ fs) f e = refl

pub is_none_of : {A : Type 0} {b : Bool} (o : Option A) → is_some o ≡ b → is_none o ≡ not b
is_none_of None e = ap not e
is_none_of (Some a) e = ap not e

module _ (parts : Option found.Fault) (own fs : List rules.Fault) (e : faults_of parts ≡ earliest fs) where
  pub own_found : (f : Option found.Fault) → is_none parts ≡ true → faults_of f ≡ earliest own → faults_of f ≡ earliest (own_after own fs)
  own_found f n k = k ∙ none_after own fs (by parts e n)
    where
      by : (o : Option found.Fault) → faults_of o ≡ earliest fs → is_none o ≡ true → earliest fs ≡ None
      by None h m = sym h
      by (Some g) h m = absurd cc

  pub parts_found : is_none parts ≡ false → faults_of parts ≡ earliest (own_after own fs)
  parts_found n = by parts e n
    where
      by : (o : Option found.Fault) → faults_of o ≡ earliest fs → is_none o ≡ false → faults_of o ≡ earliest (own_after own fs)
      by None h m = absurd cc
      by (Some g) h m = h ∙ some_after own fs (fault_of g) (sym h)

-- the earliest fault of two parts
pub two_are : (a b : Option found.Fault) (fs gs : List rules.Fault) → faults_of a ≡ earliest fs → faults_of b ≡ earliest gs
    → faults_of (sooner_found a b) ≡ earliest (fs ++ gs)
two_are a b fs gs p q =
    found_sooner a b ∙ ap (λ o. first_of o (faults_of b)) p ∙ ap (λ o. first_of (earliest fs) o) q ∙ sym (earliest_of_both fs gs)

-- and of all
pub parts_are : (a b c d : Option found.Fault) (fs gs hs us : List rules.Fault) → faults_of a ≡ earliest fs → faults_of b ≡ earliest gs
    → faults_of c ≡ earliest hs → faults_of d ≡ earliest us
    → faults_of (sooner_found a (sooner_found b (sooner_found c d))) ≡ earliest (fs ++ gs ++ hs ++ us)
parts_are a b c d fs gs hs us p q r s =
    two_are a (sooner_found b (sooner_found c d)) fs (gs ++ (hs ++ us)) p
    (two_are b (sooner_found c d) gs (hs ++ us) q (two_are c d hs us r s))
    ∙ sym (ap earliest (append_assoc (fs ++ gs) hs us ∙ append_assoc fs gs (hs ++ us)))

-- a head is sound where it has no fault
pub sound_found : (f : Option found.Fault) (fs : List rules.Fault) → faults_of f ≡ earliest fs → is_none f ≡ is_clean fs
sound_found None [] e = refl
sound_found (Some g) (f ∷ fs) e = refl
sound_found (Some g) [] e = absurd cc
sound_found None (f ∷ fs) e = absurd (by (earliest fs) e)
  where
    by : (o : Option rules.Fault) → None ≡ rules.sooner_of f o → ⊥
    by None k = absurd cc
    by (Some g) k = absurd cc
