-- Declarations of locals by the faults that are answered of their types and initializers.
use Rattle.std.proofs.Common.{◌≡◌, ℕ, true, false, List, [], ◌∷◌, Option, Some, None, refl, sym, ap, subst, ◌∙◌}
use Rattle.std.specs.Prelude.{◌++◌, if◌then◌else◌, not}
use Rattle.cyc_tree.specs.Tree as tree
use Rattle.source_typing.specs.Declarations.{Declared, converted_to, declare, declared, open_declared, opened_region, set_faults}
use Rattle.source_typing.specs.Declarations.{what_after, what_of, with_region}
use Rattle.source_typing.specs.Faults.{Fault, earliest, fault, name_rule}
use Rattle.source_typing.specs.Regions.{Region, Regions, with_name, with_scope}
use Rattle.source_typing.specs.Scope.{Env, is_second, second, with_local}
use Rattle.source_typing.specs.Scope as judged
use Rattle.source_typing.specs.Tables.{Unknown, What}
use Rattle.source_typing.specs.Types.{StaticType}
use Rattle.source_typing.specs.Verdicts.{Faulty, Of, Unjudged, Verdict}
use Rattle.source_typing.specs.Verdicts as verdict
use Rattle.source_typing.specs.Written.{RegionNamed}
use Rattle.check_faults.specs.Faults.{faults_of, first_of, sooner_found}
use Rattle.check_faults.specs.declared.fault.Fault as found
use Rattle.check_faults.specs.Verdicts.{NotJudged, Wrong, fault_in, shortened}
use Rattle.check_faults.proofs.Earliest.{earliest_of_both, first_none, found_sooner}
use Rattle.check_scopes.specs.Changes.{with_known}
use Rattle.check_scopes.specs.Means.{WhatIs}
use Rattle.check_scopes.specs.declared.locals.What as local
use Rattle.check_scopes.specs.declared.scope.Scope.{Scope}
use Rattle.check_scopes.proofs.Keeping.{block_goes_on, declared_known, is_declared, not_declared}
use Rattle.check_heads.proofs.Answered.{earliest_in}
use Rattle.check_declarations.specs.Contexts.{StandsIn, Suits}
use Rattle.check_declarations.specs.Declaring.{opened_scope, opened_what, own_faults, own_scope, own_what}
use Rattle.check_declarations.specs.declared.context.Context.{Context}

-- ---- lists of faults

-- what is declared where a fault is answered
pub what_unsound : (fs : List Fault) (w : What) (f : Fault) → Some f ≡ earliest fs → what_after fs w ≡ Unknown false
what_unsound [] w f e = absurd cc
what_unsound (g ∷ fs) w f e = refl

-- the fault of a local's type and its initializer, by those in code
pub set_earliest : (g : Env) (v : Verdict judged.Value) (t : Verdict StaticType) (a b c : Option found.Fault)
    → faults_of a ≡ fault_in (shortened t) → faults_of b ≡ fault_in (shortened v) → faults_of c ≡ earliest (converted_to g v t)
    → faults_of (sooner_found (sooner_found a b) c) ≡ earliest (set_faults g v t)
set_earliest g v t a b c of value conversion =
    found_sooner (sooner_found a b) c ∙ ap (λ o. first_of o (faults_of c)) (found_sooner a b)
    ∙ ap (λ o. first_of (first_of (faults_of a) (faults_of b)) o) conversion
    ∙ ap (λ o. first_of (first_of o (faults_of b)) (earliest (converted_to g v t))) (of ∙ earliest_in t)
    ∙ ap (λ o. first_of (first_of (earliest (verdict.faults_of t)) o) (earliest (converted_to g v t))) (value ∙ earliest_in v)
    ∙ ap (λ o. first_of o (earliest (converted_to g v t))) (sym (earliest_of_both (verdict.faults_of t) (verdict.faults_of v)))
    ∙ sym (earliest_of_both (verdict.faults_of t ++ verdict.faults_of v) (converted_to g v t))

-- ---- what a local is

module _ (r : Region) (count : Option ℕ) where
  pub what_unset : (t : Verdict StaticType) → what_after (verdict.faults_of t) (what_of r count t) ≡ what_of r count t
  what_unset (Faulty f fs) = by count
    where
      by : (n : Option ℕ) → Unknown false ≡ what_of r n (Faulty f fs)
      by None = refl
      by (Some n) = refl
  what_unset Unjudged = refl
  what_unset (Of t) = refl

  pub wrong_what : (t : Verdict StaticType) (f : Fault) → Wrong f ≡ shortened t → what_of r count t ≡ Unknown false
  wrong_what (Faulty x xs) f e = by count
    where
      by : (n : Option ℕ) → what_of r n (Faulty x xs) ≡ Unknown false
      by None = refl
      by (Some n) = refl
  wrong_what Unjudged f e = absurd cc
  wrong_what (Of t) f e = absurd cc

  pub unjudged_what : (t : Verdict StaticType) → NotJudged ≡ shortened t → what_of r count t ≡ Unknown true
  unjudged_what (Faulty x xs) e = absurd cc
  unjudged_what Unjudged e = by count
    where
      by : (n : Option ℕ) → what_of r n Unjudged ≡ Unknown true
      by None = refl
      by (Some n) = refl
  unjudged_what (Of t) e = absurd cc

-- each is a declaration of a local
locals_declared : (g : Env) (t : tree.TypeName) (x : tree.Name) (i : tree.Initializer)
    → declare g (tree.Local t x i) ≡ declared (own_faults g (tree.Local t x i) ++ second g x) (with_local x (own_what g (tree.Local t x i)) g)
locals_declared g t x tree.Initializer.Unset = refl
locals_declared g t x (tree.Initializer.Elements n) = refl
locals_declared g t x (tree.Initializer.Value e) = refl

abbrev declared_in : Env → tree.Name → tree.Declaration → Declared
declared_in g x d = declared (own_faults g d ++ second g x) (with_local x (own_what g d) (own_scope g d))

opened_declared : (g : Env) (x : tree.Name) (v : Verdict Region) → open_declared g x v
    ≡ declared (verdict.faults_of v ++ second g x) (with_local x (opened_what g.frame v) (opened_scope g v))
opened_declared g x (Of r) = refl
opened_declared g x (Faulty f fs) = refl
opened_declared g x Unjudged = refl

all_declared : (g : Env) (d : tree.Declaration) → declare g d ≡ declared_in g (tree.local_of d) d
all_declared g (tree.Local t x i) = locals_declared g t x i
all_declared g (tree.Region at r x) = refl
all_declared g (tree.Open at r x y) = opened_declared g x (opened_region g r y)
all_declared g (tree.Alias at r t x p) = refl
all_declared g (tree.NewKey at r x) = refl

-- ---- regions that begin, and that are opened

-- no local is declared with them
begun_second : (g : Env) (r : tree.RegionName) (next : Regions → Regions) (x : tree.Name) → second (with_region r next g) x ≡ second g x
begun_second g (tree.Named n) next x = refl
begun_second g (tree.Heap at) next x = refl
begun_second g (tree.Unique at) next x = refl

opened_second : (g : Env) (v : Verdict Region) (x : tree.Name) → second (opened_scope g v) x ≡ second g x
opened_second g (Of r) x = refl
opened_second g (Faulty f fs) x = refl
opened_second g Unjudged x = refl

pub own_second : (g : Env) (d : tree.Declaration) (x : tree.Name) → second (own_scope g d) x ≡ second g x
own_second g (tree.Local t y i) x = refl
own_second g (tree.Region at r y) x = begun_second g r with_scope x
own_second g (tree.Open at r y k) x = opened_second g (opened_region g r k) x
own_second g (tree.Alias at r t y p) x = begun_second g r (with_name true) x
own_second g (tree.NewKey at r y) x = begun_second g r (with_name false) x

-- where no region is opened
pub wrong_opened : (frame : Region) (v : Verdict Region) (f : Fault) → Wrong f ≡ shortened v → opened_what frame v ≡ Unknown false
wrong_opened frame (Faulty x xs) f e = refl
wrong_opened frame Unjudged f e = absurd cc
wrong_opened frame (Of r) f e = absurd cc

pub wrong_scope : (g : Env) (v : Verdict Region) (f : Fault) → Wrong f ≡ shortened v → g ≡ opened_scope g v
wrong_scope g (Faulty x xs) f e = refl
wrong_scope g Unjudged f e = refl
wrong_scope g (Of r) f e = absurd cc

pub unjudged_opened : (frame : Region) (v : Verdict Region) → NotJudged ≡ shortened v → opened_what frame v ≡ Unknown true
unjudged_opened frame (Faulty x xs) e = absurd cc
unjudged_opened frame Unjudged e = refl
unjudged_opened frame (Of r) e = absurd cc

pub unjudged_scope : (g : Env) (v : Verdict Region) → NotJudged ≡ shortened v → g ≡ opened_scope g v
unjudged_scope g (Faulty x xs) e = refl
unjudged_scope g Unjudged e = refl
unjudged_scope g (Of r) e = absurd cc

-- ---- a second one

module _ (g : Env) (x : tree.Name) (fs : List Fault) where
  pub alone : is_second g.locals g.block x.text ≡ false → earliest fs ≡ earliest (fs ++ second g x)
  alone e =
      sym (earliest_of_both fs (second g x)
      ∙ ap (λ b. first_of (earliest fs) (earliest (if not b then [] else fault name_rule x.at ∷ []))) e ∙ first_none (earliest fs))

  pub twice : is_second g.locals g.block x.text ≡ true → first_of (earliest fs) (Some (fault name_rule x.at)) ≡ earliest (fs ++ second g x)
  twice e =
      sym (earliest_of_both fs (second g x)
      ∙ ap (λ b. first_of (earliest fs) (earliest (if not b then [] else fault name_rule x.at ∷ []))) e)

-- ---- what stands in scope after a local

module _ (c : Context) (known : List RegionNamed) (outer : ℕ) (s : Scope) (g : Env) (h : StandsIn c known outer s g) (x : tree.Name) (w : What) where
  pub second_stands : is_second g.locals g.block x.text ≡ true → StandsIn c known outer s (with_local x w g)
  second_stands e = subst (StandsIn c known outer s) (sym (not_declared x w g e)) h

  first_suits : is_second g.locals g.block x.text ≡ false → Suits c known (with_local x w g)
  first_suits e = subst (Suits c known) (sym (is_declared x w g e)) record {
    names = h.suits.names;
    below = h.suits.below;
    result = h.suits.result;
    frame = h.suits.frame;
    item = h.suits.item;
    in_loop = h.suits.in_loop;
    in_switch = h.suits.in_switch;
  }

  pub first_stands : (v : local.What) → WhatIs w v → is_second g.locals g.block x.text ≡ false
      → StandsIn c known outer (with_known x.text v s) (with_local x w g)
  first_stands v is e = record {
    known = declared_known s g h.known x w v is e;
    suits = first_suits e;
    block = block_goes_on outer s g x w v h.block e;
  }

-- ---- the local and what is around it

module _ (g : Env) (d : tree.Declaration) (n : tree.Name) (named : n ≡ tree.local_of d) where
  pub both_faults : own_faults g d ++ second (own_scope g d) n ≡ (declare g d).faults
  both_faults =
      ap (λ fs. own_faults g d ++ fs) (own_second g d n) ∙ ap (λ x. own_faults g d ++ second g x) named ∙ sym (ap (λ r. r.faults) (all_declared g d))

  pub both_scopes : with_local n (own_what g d) (own_scope g d) ≡ (declare g d).scope
  both_scopes = ap (λ x. with_local x (own_what g d) (own_scope g d)) named ∙ sym (ap (λ r. r.scope) (all_declared g d))
