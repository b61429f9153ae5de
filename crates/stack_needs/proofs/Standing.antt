-- Functions by their names and by their numbers fit the same.
use Rattle.std.proofs.Common.{◌≡◌, ◌<◌, ◌≤◌, ◌+◌, ◌∙◌, ℕ, zero, suc, Bool, true, false, Option, Some, None, List, [], ◌∷◌, inl, inr, length, refl, sym, ap}
use Rattle.std.proofs.Common.{subst, arith, if◌then◌else◌}
use Rattle.std.specs.Prelude.{bytes_eq, codes, map, slice_index}
use Rattle.std.specs.List.{Contains}
use Rattle.std.specs.Cmp.Lexicographic.{bytes_decides}
use Rattle.cyc_tree.specs.Tree.{Program}
use Rattle.source_meaning.specs.Calls.{function_of}
use Rattle.source_meaning.specs.Programs.{functions_of, world_of}
use Rattle.source_meaning.specs.Steps.{Routine, World}
use Rattle.source_meaning.specs.Callees.{items_callees}
use Rattle.stack_proof.specs.Fits.{Fits, Leaves}
use Rattle.stack_needs.specs.Graph.{AreNumbers, FitsAt, IsAnswer, IsNeed, LeavesAt, called_by, known, most_bytes}
use Rattle.stack_needs.specs.Numbers.{calls_among, frame_at, frame_by, number_from, numbers_among, with_number, AreNeedsOf, IsNeedOf, IsStackNeed, need_at}
use Rattle.stack_needs.proofs.Needs.{cases_of, first_of, later_of}

-- ---- names and numbers

named_by : (fs : List Routine) (name : List ℕ) (g : Routine) → function_of fs name ≡ Some g → g.name ≡ name
named_by [] name g is = absurd (cc)
named_by (f ∷ fs) name g is = by (bytes_eq f.name name) refl is (named_by fs name g)
  where
    by : (b : Bool) → bytes_eq f.name name ≡ b → (if b then Some f else function_of fs name) ≡ Some g → (function_of fs name ≡ Some g → g.name ≡ name)
        → g.name ≡ name
    by true e is rest = let same : f ≡ g = cc in ap (λ (r : Routine). r.name) (sym same) ∙ (bytes_decides f.name name).0 e
    by false e is rest = rest is

has_number : (fs : List Routine) (j : ℕ) (name : List ℕ) (g : Routine) → function_of fs name ≡ Some g → (k : ℕ) × (number_from fs j name ≡ Some k)
has_number [] j name g is = absurd (cc)
has_number (f ∷ fs) j name g is = by (bytes_eq f.name name) is (has_number fs (suc j) name g)
  where
    by : (b : Bool) → (if b then Some f else function_of fs name) ≡ Some g
        → (function_of fs name ≡ Some g → (k : ℕ) × (number_from fs (suc j) name ≡ Some k))
        → (k : ℕ) × ((if b then Some j else number_from fs (suc j) name) ≡ Some k)
    by true is rest = (j, refl)
    by false is rest = rest is

has_function : (fs : List Routine) (j : ℕ) (name : List ℕ) (k : ℕ) → number_from fs j name ≡ Some k → (g : Routine) × (function_of fs name ≡ Some g)
has_function [] j name k is = absurd (cc)
has_function (f ∷ fs) j name k is = by (bytes_eq f.name name) is (has_function fs (suc j) name k)
  where
    by : (b : Bool) → (if b then Some j else number_from fs (suc j) name) ≡ Some k
        → (number_from fs (suc j) name ≡ Some k → (g : Routine) × (function_of fs name ≡ Some g))
        → (g : Routine) × ((if b then Some f else function_of fs name) ≡ Some g)
    by true is rest = (f, refl)
    by false is rest = rest is

-- where the function of a name stands among these, and what it calls
record StandsIn (all fs : List Routine) (j k : ℕ) (g : Routine) : Type 0 where
  place : ℕ
  below : place < length fs
  is : k ≡ j + place
  calls : called_by (calls_among all fs) place ≡ numbers_among all (items_callees g.body)
  frame : (bytes : Routine → ℕ) → slice_index (map bytes fs) place ≡ bytes g

stands : (all fs : List Routine) (j : ℕ) (name : List ℕ) (k : ℕ) (g : Routine) → function_of fs name ≡ Some g → number_from fs j name ≡ Some k
    → StandsIn all fs j k g
stands all [] j name k g of number = absurd (cc)
stands all (f ∷ fs) j name k g of number = by (bytes_eq f.name name) of number (stands all fs (suc j) name k g)
  where
    by : (b : Bool) → (if b then Some f else function_of fs name) ≡ Some g → (if b then Some j else number_from fs (suc j) name) ≡ Some k
        → (function_of fs name ≡ Some g → number_from fs (suc j) name ≡ Some k → StandsIn all fs (suc j) k g) → StandsIn all (f ∷ fs) j k g
    by true is here rest =
        let same : f ≡ g = cc in
        let at : j ≡ k = cc in
        record {
          place = 0;
          below = omega arith;
          is = omega arith;
          calls = ap (λ (r : Routine). numbers_among all (items_callees r.body)) same;
          frame = λ bytes. ap bytes same;
        }
    by false is here rest =
        let s : StandsIn all fs (suc j) k g = rest is here in
        record { place = suc s.place; below = omega (arith, s.below); is = omega (arith, s.is); calls = s.calls; frame = s.frame }

-- ---- the numbers of what is called

among_from : (fs : List Routine) (names : List (List ℕ)) (name : List ℕ) (k : ℕ) → Contains names name → number_from fs 0 name ≡ Some k
    → Contains (numbers_among fs names) k
among_from fs [] name k has is = absurd (omega (arith, has.1))
among_from fs (x ∷ xs) name k has is = elim (cases_of x xs name has) [
  | inl same ↦ here (number_from fs 0 x) (ap (λ n. number_from fs 0 n) same ∙ is)
  | inr there ↦ later (number_from fs 0 x) (among_from fs xs name k there is)
]
  where
    here : (o : Option ℕ) → o ≡ Some k → Contains (with_number o (numbers_among fs xs)) k
    here None e = absurd (cc)
    here (Some i) e = let same : k ≡ i = cc in subst (λ (h : ℕ). Contains (h ∷ numbers_among fs xs) k) same (first_of k (numbers_among fs xs))

    later : (o : Option ℕ) → Contains (numbers_among fs xs) k → Contains (with_number o (numbers_among fs xs)) k
    later None has = has
    later (Some i) has = later_of i (numbers_among fs xs) k has

among_to : (fs : List Routine) (names : List (List ℕ)) (k : ℕ) → Contains (numbers_among fs names) k
    → (name : List ℕ) × Contains names name × (number_from fs 0 name ≡ Some k)
among_to fs [] k has = absurd (omega (arith, has.1))
among_to fs (x ∷ xs) k has = by (number_from fs 0 x) refl has (among_to fs xs k)
  where
    after : (name : List ℕ) × Contains xs name × (number_from fs 0 name ≡ Some k)
        → (name : List ℕ) × Contains (x ∷ xs) name × (number_from fs 0 name ≡ Some k)
    after r = (r.0, later_of x xs r.0 r.1, r.2)

    by : (o : Option ℕ) → number_from fs 0 x ≡ o → Contains (with_number o (numbers_among fs xs)) k
        → (Contains (numbers_among fs xs) k → (name : List ℕ) × Contains xs name × (number_from fs 0 name ≡ Some k))
        → (name : List ℕ) × Contains (x ∷ xs) name × (number_from fs 0 name ≡ Some k)
    by None e has rest = after (rest has)
    by (Some i) e has rest = elim (cases_of i (numbers_among fs xs) k has) [
      | inl same ↦ (x, first_of x xs, e ∙ ap (λ h. Some h) same)
      | inr there ↦ after (rest there)
    ]

-- ---- numbers are below the count

pub as_many : (all fs : List Routine) → length (calls_among all fs) ≡ length fs
as_many all [] = refl
as_many all (f ∷ fs) = let rest = as_many all fs in omega arith

pub number_is_below : (fs : List Routine) (name : List ℕ) (k : ℕ) → number_from fs 0 name ≡ Some k → k < length fs
number_is_below fs name k number =
    let function = has_function fs 0 name k number in
    let s : StandsIn fs fs 0 k function.0 = stands fs fs 0 name k function.0 function.1 number in
    omega (arith, s.below, s.is)

callees_are_below : (all fs : List Routine) (k g : ℕ) → Contains (called_by (calls_among all fs) k) g → g < length all
callees_are_below all [] k g has = absurd (omega (arith, has.1))
callees_are_below all (f ∷ fs) zero g has =
    let called = among_to all (items_callees f.body) g has in number_is_below all called.0 g called.2
callees_are_below all (f ∷ fs) (suc k) g has = callees_are_below all fs k g has

pub numbers_are_right : (fs : List Routine) → AreNumbers (length (calls_among fs fs)) (calls_among fs fs)
numbers_are_right fs k g has = let low = callees_are_below fs fs k g has in let long = as_many fs fs in omega arith

-- ---- what fits

module _ (w : World) (frames : List ℕ) where
  -- a function with its name and its number
  pub record Known (name : List ℕ) (k : ℕ) (g : Routine) : Type 0 where
    pub of : function_of w.functions name ≡ Some g
    pub number : number_from w.functions 0 name ≡ Some k

  calls_of_it : (name : List ℕ) (k : ℕ) (g : Routine) → Known name k g
      → called_by (calls_among w.functions w.functions) k ≡ numbers_among w.functions (items_callees g.body)
  calls_of_it name k g it =
      let s : StandsIn w.functions w.functions 0 k g = stands w.functions w.functions 0 name k g it.of it.number in
      let same : k ≡ s.place = omega (arith, s.is) in
      ap (λ i. called_by (calls_among w.functions w.functions) i) same ∙ s.calls

  frame_of_it : (name : List ℕ) (k : ℕ) (g : Routine) → Known name k g → frame_by w.functions frames g.name ≡ slice_index frames k
  frame_of_it name k g it =
      ap (λ n. frame_at frames (number_from w.functions 0 n)) (named_by w.functions name g it.of) ∙ ap (λ o. frame_at frames o) it.number

  pub fits_at : {g : Routine} {n : ℕ} → Fits (frame_by w.functions frames) w g n → (name : List ℕ) (k : ℕ) → Known name k g
      → FitsAt frames (calls_among w.functions w.functions) k n
  fits_at {g = g} (Leaves others le callees) name k it =
      let frame = frame_of_it name k g it in
      LeavesAt others (omega arith) (λ i has.
      let called = among_to w.functions (items_callees g.body) i (subst (λ (ks : List ℕ). Contains ks i) (calls_of_it name k g it) has) in
      let function = has_function w.functions 0 called.0 i called.2 in
      fits_at (callees called.0 function.0 called.1 function.1) called.0 i (record { of = function.1; number = called.2 }))

  pub at_fits : {k n : ℕ} → FitsAt frames (calls_among w.functions w.functions) k n → (name : List ℕ) (g : Routine) → Known name k g
      → Fits (frame_by w.functions frames) w g n
  at_fits {k = k} (LeavesAt others le callees) name g it =
      let frame = frame_of_it name k g it in
      Leaves others (omega arith) (λ called h has of.
      let number = has_number w.functions 0 called h of in
      at_fits (callees number.0 (subst (λ (ks : List ℕ). Contains ks number.0) (sym (calls_of_it name k g it))
      (among_from w.functions (items_callees g.body) called number.0 has number.1))) called h (record { of = of; number = number.1 }))

  -- ---- what is answered

  module _ (found : List ℕ) (k : ℕ) (number : number_from w.functions 0 found ≡ Some k) where
    -- the bytes that the function of a number needs are those that the one of its name needs
    pub need_by_name : (n : ℕ) → IsNeed frames (calls_among w.functions w.functions) k n → (g : Routine) → function_of w.functions found ≡ Some g
        → (n < most_bytes → Fits (frame_by w.functions frames) w g n) × ((m : ℕ) → Fits (frame_by w.functions frames) w g m → n ≤ m)
    need_by_name n need g of =
        let it : Known found k g = record { of = of; number = number } in
        (λ few. at_fits (need.fits few) found g it, λ m fits. need.least m (fits_at fits found k it))

    pub none_by_name : ((n : ℕ) → FitsAt frames (calls_among w.functions w.functions) k n → ⊥) → (g : Routine) → function_of w.functions found ≡ Some g
        → (n : ℕ) → Fits (frame_by w.functions frames) w g n → ⊥
    none_by_name none g of n fits = none n (fits_at fits found k (record { of = of; number = number }))

-- what is answered of the functions' numbers is that of their names
pub each_needs : (p : Program) (frames : List ℕ) (needs : List (Option ℕ))
    → ((k : ℕ) → k < length (functions_of p) → IsAnswer frames (calls_among (functions_of p) (functions_of p)) k (known needs k))
    → AreNeedsOf (frame_by (functions_of p) frames) p needs
each_needs p frames needs answers name k number = by (known needs k) (answers k (number_is_below (functions_of p) name k number))
  where
    by : (need : Option ℕ) → IsAnswer frames (calls_among (functions_of p) (functions_of p)) k need
        → IsNeedOf (frame_by (functions_of p) frames) (world_of p) name need
    by (Some n) need = need_by_name (world_of p) frames name k number n need
    by None none = none_by_name (world_of p) frames name k number none

-- what is answered of the function of `main`'s number is that of the program
main_needs : (p : Program) (frames : List ℕ) (k : ℕ) → number_from (functions_of p) 0 (codes "main") ≡ Some k → (need : Option ℕ)
    → IsAnswer frames (calls_among (functions_of p) (functions_of p)) k need → IsStackNeed (frame_by (functions_of p) frames) p need
main_needs p frames k number (Some n) need =
    let main = has_function (functions_of p) 0 (codes "main") k number in
    let its = need_by_name (world_of p) frames (codes "main") k number n need main.0 main.1 in (
      λ few. record { main = main.0; found = main.1; fits = its.0 few },
      λ m fits.
          its.1 m (subst (λ (g : Routine). Fits (frame_by (functions_of p) frames) (world_of p) g m) (one_main p fits.main main.0 fits.found main.1) fits.fits),
    )
  where
    one_main : (q : Program) (f g : Routine) → function_of (functions_of q) (codes "main") ≡ Some f
        → function_of (functions_of q) (codes "main") ≡ Some g → f ≡ g
    one_main q f g one other = cc
main_needs p frames k number None none = λ n fits. none_by_name (world_of p) frames (codes "main") k number none fits.main fits.found n fits.fits

-- a program without `main` fits nothing
no_main : (p : Program) (frames : List ℕ) → number_from (functions_of p) 0 (codes "main") ≡ None → IsStackNeed (frame_by (functions_of p) frames) p None
no_main p frames none n fits =
    let number = has_number (functions_of p) 0 (codes "main") fits.main fits.found in
    let it : number_from (functions_of p) 0 (codes "main") ≡ Some number.0 = number.1 in
    absurd (cc)

-- what is answered of `main`, if there is one
pub stack_is : (p : Program) (frames : List ℕ) (needs : List (Option ℕ)) (main : Option ℕ) → main ≡ number_from (functions_of p) 0 (codes "main")
    → ((k : ℕ) → k < length (functions_of p) → IsAnswer frames (calls_among (functions_of p) (functions_of p)) k (known needs k))
    → IsStackNeed (frame_by (functions_of p) frames) p (need_at main needs)
stack_is p frames needs None number answers = no_main p frames (sym number)
stack_is p frames needs (Some k) number answers =
    main_needs p frames k (sym number) (known needs k) (answers k (number_is_below (functions_of p) (codes "main") k (sym number)))

-- ---- the frames by numbers are those by names

-- the bytes of the function of a name, if there is one
abbrev pub bytes_in : (Routine → ℕ) → Option Routine → ℕ
bytes_in bytes None = 0
bytes_in bytes (Some f) = bytes f

pub frame_is : (bytes : Routine → ℕ) (fs : List Routine) (name : List ℕ) → frame_by fs (map bytes fs) name ≡ bytes_in bytes (function_of fs name)
frame_is bytes fs name = by (function_of fs name) refl (number_from fs 0 name) refl
  where
    by : (g : Option Routine) → function_of fs name ≡ g → (o : Option ℕ) → number_from fs 0 name ≡ o → frame_at (map bytes fs) o ≡ bytes_in bytes g
    by None of None number = refl
    by (Some g) of None number =
        let found = has_number fs 0 name g of in
        let it : number_from fs 0 name ≡ Some found.0 = found.1 in absurd (cc)
    by None of (Some k) number =
        let found = has_function fs 0 name k number in
        let it : function_of fs name ≡ Some found.0 = found.1 in absurd (cc)
    by (Some g) of (Some k) number =
        let s : StandsIn fs fs 0 k g = stands fs fs 0 name k g of number in
        let same : k ≡ s.place = omega (arith, s.is) in
        ap (λ i. slice_index (map bytes fs) i) same ∙ s.frame bytes
